-- A drawn run remembers the picks that it takes.
use Rattle.std.proofs.Common.{◌≡◌, ℕ, ℤ, Bool, true, false, if◌then◌else◌, Option, Some, None, List, [], ◌∷◌, ◌++◌, refl, ap, subst, ◌∙◌}
use Rattle.std.specs.Prelude.{nat_lt}
use Rattle.pv_values.specs.declared.value.Value.{Value}
use Rattle.pv_ast.specs.declared.PvType.{PvType}
use Rattle.pv_picks.specs.Plain.Core.{Operation}
use Rattle.pv_picks.specs.Judge.States.{Cell, Written, FromSteps, as_element}
use Rattle.pv_picks.specs.Judge.UnitRuns.{task_of}
use Rattle.pv_picks.specs.Lazy.Runs.{taken_in, ranged, Memory, Final, final, Source, Lazily, Unfit, Outcome, Taken, OneNumber, OneTurn, at_end, testing, Drawn, from_values, element_or, operation_or, value_read, value_used, no_memory}
use Rattle.judge_laws.specs.Related.{AreRelated}
use Rattle.judge_laws.proofs.Taking.{throughout}
use Rattle.judge_laws.specs.Drawing.{RemembersPicks}
use Rattle.judge_laws.proofs.Sources.{lazy_related}
use Rattle.judge_laws.proofs.Statements.{judge_related}

none_behind : (xs : List Taken) → xs ≡ xs ++ []
none_behind [] = refl
none_behind (x ∷ xs) = ap (λ ys. x ∷ ys) (none_behind xs)

one_more : (xs ys : List Taken) (t : Taken) → (xs ++ t ∷ []) ++ ys ≡ xs ++ (t ∷ ys)
one_more [] ys t = refl
one_more (x ∷ xs) ys t = ap (λ zs. x ∷ zs) (one_more xs ys t)

module _ (values : ℕ → ℤ) (turns : ℕ → ℕ) where
  abbrev S : Source Drawn Final
  S = from_values values turns

  -- the first of two rests alone counts
  abbrev Keeps : Lazily Drawn Final → Lazily Drawn Final → Type 0
  Keeps x y = (m : Memory) (d : Drawn) → (x m d).end.picks ≡ m.picks ++ (x m d).picks

  turn_keeps : (b : Bool) (m : Memory) (t : Taken) (o : Outcome Final) → o.end.picks ≡ (taken_in t m).picks ++ o.picks
      → (if b then o else at_end (final Unfit (taken_in t m))).end.picks ≡ m.picks
      ++ (t ∷ (if b then o else at_end (final Unfit (taken_in t m))).picks)
  turn_keeps true m t o h = h ∙ one_more m.picks o.picks t
  turn_keeps false m t o h = refl

  element_keeps : (o : Option ℤ) (ty : PvType) (n : ℕ) (i : ℤ) (f g : ℤ → Lazily Drawn Final) → ((z : ℤ) → Keeps (f z) (g z))
      → Keeps (element_or final S o ty n i f) (element_or final S o ty n i g)
  element_keeps (Some z) ty n i f g h m d = h z m d
  element_keeps None ty n i f g h m d = h _ _ _

  operation_keeps : (x : Option ℤ) (o : Operation) (b c : ℤ) (f g : ℤ → Lazily Drawn Final) → ((z : ℤ) → Keeps (f z) (g z))
      → Keeps (operation_or final S x o b c f) (operation_or final S x o b c g)
  operation_keeps (Some z) o b c f g h m d = h z m d
  operation_keeps None o b c f g h m d = h _ _ _

  reading_keeps : (c : Cell) (f g : Value → Lazily Drawn Final) → ((v : Value) → Keeps (f v) (g v))
      → Keeps ((testing final S).reading c f) ((testing final S).reading c g)
  reading_keeps (Written v) f g h m d = h v m d
  reading_keeps (FromSteps type n i) f g h m d =
      element_keeps (value_read m.reads n i) type n i _ (λ z. g (as_element type z)) (λ z. h (as_element type z)) m d

  tests_keep : AreRelated (testing final S) (testing final S) Keeps
  tests_keep = throughout _ _ _ (record {
    finished = λ m d. none_behind m.picks;
    blocked = λ m d. none_behind m.picks;
    failed = λ check span m d. none_behind m.picks;
    unfit = λ m d. none_behind m.picks;
    pick = λ ty f g h m d. h _ (taken_in (OneNumber (values d.taken)) m) _ ∙ one_more m.picks _ _;
    turn =
        λ f g h m d. turn_keeps (nat_lt (turns d.turned) 3) m (OneTurn (turns d.turned)) _
        (h _ (taken_in (OneTurn (turns d.turned)) m) _);
    steps = λ n t a x y h m d. h (ranged n t a m) d ∙ one_more m.picks _ _;
    using = λ o b c f g h m d. operation_keeps (value_used m.uses (o, b, c)) o b c f g h m d;
    comparing = λ b c x y h m d. h m d;
    matching = λ v w x y h m d. h m d;
    deciding = λ b x y h m d. h m d;
    noticing = λ e x y h m d. h _ d;
    reading = reading_keeps;
    knowing = λ k x y h. h;
  })

pub remembers_picks : RemembersPicks
remembers_picks p unit values turns =
    judge_related _ _ (Keeps values turns)
    (lazy_related final final (from_values values turns) (from_values values turns) (Keeps values turns) (tests_keep values turns)
    (λ sh mv e f k x y h m d. subst (λ (ts : List Taken). (x (mv m) d).end.picks ≡ ts ++ (x (mv m) d).picks) (k m) (h (mv m) d))
    (λ f g h m d. h m m d))
    p (task_of p unit) no_memory (record { taken = 0; turned = 0 })
