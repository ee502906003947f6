-- A lazy run that isn't unfit is the drawn run on its values and turns.
use Rattle.std.proofs.Common.{◌≡◌, ◌≢◌, ℕ, suc, ℤ, Bool, true, false, if◌then◌else◌, Option, Some, None, List, [], ◌∷◌, ◌++◌, refl, ap, sym, subst}
use Rattle.std.specs.Prelude.{nat_lt}
use Rattle.pv_ast.specs.declared.PvType.{PvType}
use Rattle.pv_values.specs.declared.value.Value.{Value}
use Rattle.pv_ast.specs.declared.PvType.TheVariants.{Int}
use Rattle.pv_picks.specs.declared.evidence.Pick.{Pick}
use Rattle.pv_picks.specs.declared.evidence.Pick.TheVariants.{Number, Turn, Steps}
use Rattle.pv_picks.specs.declared.evidence.Entry.{Entry}
use Rattle.pv_picks.specs.Plain.Core.{Operation}
use Rattle.pv_picks.specs.Judge.States.{Cell, Written, FromSteps, as_element, as_element_type}
use Rattle.pv_picks.specs.Judge.UnitRuns.{task_of}
use Rattle.pv_picks.specs.Judge.Runs.{Maps, maps_of, value_of_operation}
use Rattle.pv_picks.specs.Lazy.Patterns.{Took}
use Rattle.pv_picks.specs.Lazy.Runs.{taken_in, ranged, Memory, Final, final, Source, Lazily, Unfit, Outcome, OneNumber, OneTurn, ForRange, at_end, showing, taking, picking, testing, from_picks, Drawn, from_values, element_or, operation_or, value_read, value_used, no_memory}
use Rattle.judge_laws.specs.Related.{AreRelated}
use Rattle.judge_laws.proofs.Taking.{throughout}
use Rattle.judge_laws.specs.Drawing.{AreAt, turns_of, RunsAsDrawn}
use Rattle.judge_laws.proofs.Sources.{lazy_related}
use Rattle.judge_laws.specs.Entering.{EntersAsDrawn}
use Rattle.judge_laws.proofs.Statements.{judge_related, enter_task_related}

module _ (maps : Maps) (table : List Entry) (values : ℕ → ℤ) (turns : ℕ → ℕ) where
  abbrev One : Source (List Pick) Final
  One = from_picks maps table

  abbrev Other : Source Drawn Final
  Other = from_values values turns

  -- where the drawn rest comes to the lazy one's outcome
  abbrev Draws : Lazily (List Pick) Final → Lazily Drawn Final → Type 0
  Draws x y = (m : Memory) (ps : List Pick) (d : Drawn) → (x m ps).end.end ≢ Unfit → AreAt values d.taken (x m ps).values
      → AreAt turns d.turned (turns_of ps) → y m d ≡ x m ps

  abbrev next_value : Drawn → Drawn
  next_value d = record { taken = suc d.taken; turned = d.turned }

  abbrev next_turn : Drawn → Drawn
  next_turn d = record { taken = d.taken; turned = suc d.turned }

  -- the number that is taken is the value that comes next
  drawn_next : (ty : PvType) (z w : ℤ) (o : Outcome Final) (g : ℤ → Outcome Final) → w ≡ z → g z ≡ o → taking ty w (g w)
      ≡ taking ty z o
  drawn_next ty z w o g e h = subst (λ (x : ℤ). taking ty x (g x) ≡ taking ty z o) (sym e) (ap (taking ty z) h)

  picked_next : (ty : PvType) (z w : ℤ) (o : Outcome Final) (g : ℤ → Outcome Final) → w ≡ z → g z ≡ o
      → picking (OneNumber w) (taking ty w (g w))
      ≡ picking (OneNumber z) (taking ty z o)
  picked_next ty z w o g e h =
      subst (λ (x : ℤ). picking (OneNumber x) (taking ty x (g x)) ≡ picking (OneNumber z) (taking ty z o)) (sym e)
      (ap (λ y. picking (OneNumber z) (taking ty z y)) h)

  pick_draws : (ty : PvType) (f : ℤ → Lazily (List Pick) Final) (g : ℤ → Lazily Drawn Final) → ((z : ℤ) → Draws (f z) (g z))
      → Draws ((testing final One).pick ty f) ((testing final Other).pick ty g)
  pick_draws ty f g h m [] d u a t = absurd (u refl)
  pick_draws ty f g h m (Number z ∷ ps) d u a t =
      picked_next ty z (values d.taken) _ (λ w. g w (taken_in (OneNumber w) m) (next_value d)) a.0
      (h z (taken_in (OneNumber z) m) ps (next_value d) u a.1 t)
  pick_draws ty f g h m (Turn n ∷ ps) d u a t = absurd (u refl)
  pick_draws ty f g h m (Steps x ∷ ps) d u a t = absurd (u refl)

  by_turn : (m : Memory) (b : Bool) (x y : Outcome Final) → (if b then x else at_end (final Unfit m)).end.end ≢ Unfit
      → (b ≡ true → y ≡ x)
      → (if b then y else at_end (final Unfit m)) ≡ (if b then x else at_end (final Unfit m))
  by_turn m true x y u h = h refl
  by_turn m false x y u h = refl

  values_of_turn : (m : Memory) (b : Bool) (x : Outcome Final) (k : ℕ) → b ≡ true
      → AreAt values k (if b then x else at_end (final Unfit m)).values → AreAt values k x.values
  values_of_turn m true x k e a = a
  values_of_turn m false x k e a = absurd (cc e)

  end_of_turn : (m : Memory) (b : Bool) (x : Outcome Final) → b ≡ true → (if b then x else at_end (final Unfit m)).end.end ≢ Unfit
      → x.end.end ≢ Unfit
  end_of_turn m true x e u = u
  end_of_turn m false x e u = absurd (cc e)

  turn_draws : (f : ℕ → Lazily (List Pick) Final) (g : ℕ → Lazily Drawn Final) → ((n : ℕ) → Draws (f n) (g n))
      → Draws ((testing final One).turn f) ((testing final Other).turn g)
  turn_draws f g h m [] d u a t = absurd (u refl)
  turn_draws f g h m (Number z ∷ ps) d u a t = absurd (u refl)
  turn_draws f g h m (Turn n ∷ ps) d u a t =
      subst (λ (k : ℕ). picking (OneTurn k) (showing (Took k ∷ [])
      (if nat_lt k 3 then g k (taken_in (OneTurn k) m) (next_turn d) else at_end (final Unfit (taken_in (OneTurn k) m))))
      ≡ picking (OneTurn n) (showing (Took n ∷ []) (if nat_lt n 3 then f n (taken_in (OneTurn n) m) ps else at_end
      (final Unfit (taken_in (OneTurn n) m))))) (sym t.0)
      (ap (λ o. picking (OneTurn n) (showing (Took n ∷ []) o))
      (by_turn (taken_in (OneTurn n) m) (nat_lt n 3) (f n (taken_in (OneTurn n) m) ps)
      (g n (taken_in (OneTurn n) m) (next_turn d)) u
      (λ e. h n (taken_in (OneTurn n) m) ps (next_turn d)
      (end_of_turn (taken_in (OneTurn n) m) (nat_lt n 3) (f n (taken_in (OneTurn n) m) ps) e u)
      (values_of_turn (taken_in (OneTurn n) m) (nat_lt n 3) (f n (taken_in (OneTurn n) m) ps) d.taken e a) t.1)))
  turn_draws f g h m (Steps x ∷ ps) d u a t = absurd (u refl)

  steps_draw : (n : ℕ) (t : PvType) (a : ℕ) (x : Lazily (List Pick) Final) (y : Lazily Drawn Final) → Draws x y
      → Draws ((testing final One).steps n t a x) ((testing final Other).steps n t a y)
  steps_draw n t a x y h m [] d u v w = absurd (u refl)
  steps_draw n t a x y h m (Number z ∷ ps) d u v w = absurd (u refl)
  steps_draw n t a x y h m (Turn b ∷ ps) d u v w = absurd (u refl)
  steps_draw n t a x y h m (Steps map ∷ ps) d u v w = ap (picking ForRange) (h (ranged n t a m) ps d u v w)

  element_draws : (o : Option ℤ) (ty : PvType) (n : ℕ) (i : ℤ) (f : ℤ → Lazily (List Pick) Final) (g : ℤ → Lazily Drawn Final)
      → ((z : ℤ) → Draws (f z) (g z)) → Draws (element_or final One o ty n i f) (element_or final Other o ty n i g)
  element_draws (Some z) ty n i f g h m ps d u a t = h z m ps d u a t
  element_draws None ty n i f g h m ps d u a t =
      drawn_next (as_element_type ty) (maps n i) (values d.taken) _
      (λ w. g w (record m { reads = record { number = n; index = i; value = w } ∷ m.reads }) (next_value d)) a.0
      (h (maps n i) _ ps (next_value d) u a.1 t)

  operation_draws : (x : Option ℤ) (o : Operation) (b c : ℤ) (f : ℤ → Lazily (List Pick) Final) (g : ℤ → Lazily Drawn Final)
      → ((z : ℤ) → Draws (f z) (g z)) → Draws (operation_or final One x o b c f) (operation_or final Other x o b c g)
  operation_draws (Some z) o b c f g h m ps d u a t = h z m ps d u a t
  operation_draws None o b c f g h m ps d u a t =
      drawn_next Int (value_of_operation table o b c) (values d.taken) _
      (λ w. g w (record m { uses = m.uses ++ record { used = (o, b, c); value = w } ∷ [] }) (next_value d)) a.0
      (h (value_of_operation table o b c) _ ps (next_value d) u a.1 t)

  reading_draws : (c : Cell) (f : Value → Lazily (List Pick) Final) (g : Value → Lazily Drawn Final)
      → ((v : Value) → Draws (f v) (g v)) → Draws ((testing final One).reading c f) ((testing final Other).reading c g)
  reading_draws (Written v) f g h m ps d u a t = h v m ps d u a t
  reading_draws (FromSteps type n i) f g h m ps d u a t =
      element_draws (value_read m.reads n i) type n i _ _ (λ z. h (as_element type z)) m ps d u a t

  tests_draw : AreRelated (testing final One) (testing final Other) Draws
  tests_draw = throughout _ _ _ (record {
    finished = λ m ps d u a t. refl;
    blocked = λ m ps d u a t. refl;
    failed = λ check span m ps d u a t. refl;
    unfit = λ m ps d u a t. refl;
    pick = pick_draws;
    turn = turn_draws;
    steps = steps_draw;
    using = λ o b c f g h m ps d u a t. ap (showing _) (operation_draws (value_used m.uses (o, b, c)) o b c f g h m ps d u a t);
    comparing = λ b c x y h m ps d u a t. ap (showing _) (h m ps d u a t);
    matching = λ v w x y h m ps d u a t. ap (showing _) (h m ps d u a t);
    deciding = λ b x y h m ps d u a t. ap (showing _) (h m ps d u a t);
    noticing = λ e x y h m ps d u a t. ap (showing _) (h _ ps d u a t);
    reading = reading_draws;
    knowing = λ k x y h. h;
  })

pub runs_as_drawn : RunsAsDrawn
runs_as_drawn p unit evidence values turns fits values_there turns_there =
    judge_related _ _ (Draws (maps_of evidence.picks) evidence.table values turns)
    (lazy_related final final (from_picks (maps_of evidence.picks) evidence.table) (from_values values turns)
    (Draws (maps_of evidence.picks) evidence.table values turns)
    (tests_draw (maps_of evidence.picks) evidence.table values turns)
    (λ sh mv q r k x y h m ps d u a t. ap (showing (sh m)) (h (mv m) ps d u a t)) (λ f g h m ps d u a t. h m m ps d u a t))
    p (task_of p unit) no_memory evidence.picks (record { taken = 0; turned = 0 }) fits values_there turns_there

-- the same up to the first inhale
pub enters_as_drawn : EntersAsDrawn
enters_as_drawn p unit evidence values turns fits values_there turns_there =
    enter_task_related _ _ (Draws (maps_of evidence.picks) evidence.table values turns)
    (lazy_related final final (from_picks (maps_of evidence.picks) evidence.table) (from_values values turns)
    (Draws (maps_of evidence.picks) evidence.table values turns)
    (tests_draw (maps_of evidence.picks) evidence.table values turns)
    (λ sh mv q r k x y h m ps d u a t. ap (showing (sh m)) (h (mv m) ps d u a t)) (λ f g h m ps d u a t. h m m ps d u a t))
    (task_of p unit) no_memory evidence.picks (record { taken = 0; turned = 0 }) fits values_there turns_there
