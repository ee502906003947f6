-- The lazy run over rests that are known to grow.
use Rattle.std.proofs.Common.{◌≡◌, ℕ, ℤ, if◌then◌else◌, Option, Some, None, List, [], ◌∷◌, ◌++◌, refl, ap}
use Rattle.std.specs.Prelude.{nat_lt}
use Rattle.pv_ast.specs.declared.PvType.{PvType}
use Rattle.pv_values.specs.declared.value.Value.{Value}
use Rattle.pv_ast.specs.declared.PvType.TheVariants.{Int}
use Rattle.pv_picks.specs.declared.evidence.Pick.{Pick}
use Rattle.pv_picks.specs.declared.evidence.Pick.TheVariants.{Number, Turn, Steps}
use Rattle.pv_picks.specs.declared.evidence.Entry.{Entry}
use Rattle.pv_picks.specs.Plain.Core.{Operation, Program}
use Rattle.pv_picks.specs.Judge.States.{Cell, Written, FromSteps, as_element, as_element_type}
use Rattle.pv_picks.specs.Judge.Settings.{Setting}
use Rattle.pv_picks.specs.Judge.UnitRuns.{Task, judge_task}
use Rattle.pv_picks.specs.Judge.Runs.{Maps, value_of_operation}
use Rattle.pv_picks.specs.Lazy.Patterns.{Took}
use Rattle.pv_picks.specs.Lazy.Runs.{taken_in, ranged, Memory, Final, final, at_end, showing, taking, picking, Unfit, OneNumber, OneTurn, ForRange, Source, Lazily, lazy, element_or, operation_or, value_read, value_used, with_event, reads_none, lazy_event, lazy_known}
use Rattle.judge_laws.specs.Related.{AreRelated}
use Rattle.judge_laws.proofs.Taking.{throughout}
use Rattle.judge_laws.proofs.Sources.{lazy_related}
use Rattle.judge_laws.proofs.Statements.{judge_related}
use Rattle.judge_facts.proofs.Ways as ways
use Rattle.judge_facts.proofs.Growing as growing
use Rattle.judge_facts.proofs.Growing.{Grows}

module _ (maps : Maps) (table : List Entry) where
  abbrev S : Source (List Pick) Final
  S = ways.S maps table

  abbrev L : Setting (Lazily (List Pick) Final)
  L = ways.L maps table

  abbrev Lazy : Type 0
  Lazy = Lazily (List Pick) Final

  abbrev pub Pair : Type 0
  Pair = (y : Lazy) × Grows maps table y

  abbrev pub T : Setting Pair
  T = record {
    finished = ((lazy final S).finished, λ m ps r l. record { names = λ a z i. i; ranges = λ x i. i; known = λ k i. i });
    blocked = ((lazy final S).blocked, λ m ps r l. absurd (l.0 refl));
    failed = λ check span.
        ((lazy final S).failed check span, λ m ps r l. record { names = λ a z i. i; ranges = λ x i. i; known = λ k i. i });
    unfit = ((lazy final S).unfit, λ m ps r l. absurd (l.1 refl));
    pick = λ ty f. (L.pick ty (λ z. (f z).0), growing.pick_grows maps table ty (λ z. (f z).0) (λ z. (f z).1));
    turn = λ f. (L.turn (λ n. (f n).0), growing.turn_grows maps table (λ n. (f n).0) (λ n. (f n).1));
    steps = λ n t a x. (L.steps n t a x.0, growing.steps_grow maps table n t a x.0 x.1);
    using = λ o b c f. (
      L.using o b c (λ z. (f z).0),
      λ m ps r l. growing.operation_grows maps table (value_used m.uses (o, b, c)) o b c
          (λ z. (f z).0) (λ z. (f z).1) m ps r l,
    );
    comparing = λ b c x. (L.comparing b c x.0, λ m ps r l. x.1 m ps r l);
    matching = λ v w x. (L.matching v w x.0, λ m ps r l. x.1 m ps r l);
    deciding = λ b x. (L.deciding b x.0, λ m ps r l. x.1 m ps r l);
    noticing = λ e x. (lazy_event final S e x.0, growing.noticing_grows maps table e x.0 x.1);
    reading = λ c f. (L.reading c (λ v. (f v).0), growing.reading_grows maps table c (λ v. (f v).0) (λ v. (f v).1));
    knowing = λ k x. (lazy_known final S k x.0, growing.known_grows maps table (reads_none k.parts) k x.0 x.1);
  }

  -- it is the lazy run
  abbrev Same : Lazy → Lazy → Type 0
  Same x y = (m : Memory) (ps : List Pick) → x m ps ≡ y m ps

  pick_same : (ty : PvType) (f g : ℤ → Lazy) → ((z : ℤ) → Same (f z) (g z)) → Same (L.pick ty f) (L.pick ty g)
  pick_same ty f g h m [] = refl
  pick_same ty f g h m (Number z ∷ ps) = ap (λ o. picking (OneNumber z) (taking ty z o)) (h z (taken_in (OneNumber z) m) ps)
  pick_same ty f g h m (Turn n ∷ ps) = refl
  pick_same ty f g h m (Steps x ∷ ps) = refl

  turn_same : (f g : ℕ → Lazy) → ((n : ℕ) → Same (f n) (g n)) → Same (L.turn f) (L.turn g)
  turn_same f g h m [] = refl
  turn_same f g h m (Number z ∷ ps) = refl
  turn_same f g h m (Turn n ∷ ps) =
      ap (λ o. picking (OneTurn n)
      (showing (Took n ∷ []) (if nat_lt n 3 then o else at_end (final Unfit (taken_in (OneTurn n) m)))))
      (h n (taken_in (OneTurn n) m) ps)
  turn_same f g h m (Steps x ∷ ps) = refl

  steps_same : (n : ℕ) (t : PvType) (a : ℕ) (x y : Lazy) → Same x y → Same (L.steps n t a x) (L.steps n t a y)
  steps_same n t a x y h m [] = refl
  steps_same n t a x y h m (Number z ∷ ps) = refl
  steps_same n t a x y h m (Turn u ∷ ps) = refl
  steps_same n t a x y h m (Steps z ∷ ps) = ap (picking ForRange) (h (ranged n t a m) ps)

  element_same : (o : Option ℤ) (ty : PvType) (n : ℕ) (i : ℤ) (f g : ℤ → Lazy) → ((z : ℤ) → Same (f z) (g z))
      → Same (element_or final S o ty n i f) (element_or final S o ty n i g)
  element_same (Some z) ty n i f g h m ps = h z m ps
  element_same None ty n i f g h m ps =
      ap (taking (as_element_type ty) (maps n i))
      (h (maps n i) (record m { reads = record { number = n; index = i; value = maps n i } ∷ m.reads }) ps)

  operation_same : (x : Option ℤ) (o : Operation) (b c : ℤ) (f g : ℤ → Lazy) → ((z : ℤ) → Same (f z) (g z))
      → Same (operation_or final S x o b c f) (operation_or final S x o b c g)
  operation_same (Some z) o b c f g h m ps = h z m ps
  operation_same None o b c f g h m ps =
      ap (taking Int (value_of_operation table o b c))
      (h (value_of_operation table o b c)
      (record m { uses = m.uses ++ record { used = (o, b, c); value = value_of_operation table o b c } ∷ [] }) ps)

  reading_same : (c : Cell) (f g : Value → Lazy) → ((v : Value) → Same (f v) (g v)) → Same (L.reading c f) (L.reading c g)
  reading_same (Written v) f g h m ps = h v m ps
  reading_same (FromSteps t n i) f g h m ps =
      element_same (value_read m.reads n i) t n i (λ z. f (as_element t z)) (λ z. g (as_element t z)) (λ z. h (as_element t z)) m
      ps

  tests_same : AreRelated L L Same
  tests_same = throughout _ _ _ (record {
    finished = λ m ps. refl;
    blocked = λ m ps. refl;
    failed = λ check span m ps. refl;
    unfit = λ m ps. refl;
    pick = pick_same;
    turn = turn_same;
    steps = steps_same;
    using = λ o b c f g h m ps. ap (showing _) (operation_same (value_used m.uses (o, b, c)) o b c f g h m ps);
    comparing = λ b c x y h m ps. ap (showing _) (h m ps);
    matching = λ v w x y h m ps. ap (showing _) (h m ps);
    deciding = λ b x y h m ps. ap (showing _) (h m ps);
    noticing = λ e x y h m ps. ap (showing _) (h (record m { events = with_event e m.events }) ps);
    reading = reading_same;
    knowing = λ k x y h. h;
  })

  lazies_same : AreRelated (lazy final S) (lazy final S) Same
  lazies_same =
      lazy_related final final S S Same tests_same (λ sh mv e f k x y h m ps. ap (showing (sh m)) (h (mv m) ps))
      (λ f g h m ps. h m m ps)

  pairs_same : AreRelated T (lazy final S) (λ x y. Same x.0 y)
  pairs_same = throughout _ _ _ (record {
    finished = lazies_same.finished;
    blocked = lazies_same.blocked;
    failed = lazies_same.failed;
    unfit = λ m ps. refl;
    pick = λ ty f g h. pick_same ty (λ z. (f z).0) g h;
    turn = λ f g h. lazies_same.turn (λ n. (f n).0) g h;
    steps = λ n t a x y h. lazies_same.steps n t a x.0 y h;
    using = λ o b c f g h. lazies_same.using o b c (λ z. (f z).0) g h;
    comparing = λ b c x y h. lazies_same.comparing b c x.0 y h;
    matching = λ v w x y h. lazies_same.matching v w x.0 y h;
    deciding = λ b x y h. lazies_same.deciding b x.0 y h;
    noticing = λ e x y h. lazies_same.noticing e x.0 y h;
    reading = λ c f g h. lazies_same.reading c (λ v. (f v).0) g h;
    knowing = λ k x y h. lazies_same.knowing k x.0 y h;
  })

  pub paired : (p : Program) (t : Task) → Same (judge_task T p t).0 (judge_task (lazy final S) p t)
  paired p t = judge_related T (lazy final S) (λ x y. Same x.0 y) pairs_same p t
