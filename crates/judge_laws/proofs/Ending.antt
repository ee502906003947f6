-- A drawn run ends unfit just behind a negative number in the place of a reference.
use Rattle.std.proofs.Common.{◌≡◌, inl, inr, ◌<◌, ℕ, suc, ℤ, pos, negsuc, Bool, true, false, if◌then◌else◌, Option, Some, None, ◌∷◌, refl, sym, subst, rules}
use Rattle.std.specs.Prelude.{nat_lt, ◌<ℤ◌}
use Rattle.std.proofs.lemmas.Int.{ints}
use Rattle.pv_values.specs.declared.value.Value.{Value}
use Rattle.pv_ast.specs.declared.PvType.{PvType}
use Rattle.pv_picks.specs.Plain.Core.{Operation}
use Rattle.pv_picks.specs.Judge.States.{State, Cell, Written, FromSteps, as_element}
use Rattle.pv_picks.specs.Judge.Settings.{Next, met_as}
use Rattle.pv_picks.specs.Judge.UnitRuns.{task_of}
use Rattle.pv_picks.specs.Lazy.Runs.{Memory, Final, final, Lazily, Unfit, Outcome, at_end, testing, Drawn, Source, from_values, element_or, operation_or, value_read, value_used, OneNumber, OneTurn, taken_in, ranged, no_memory}
use Rattle.judge_laws.specs.Related.{AreRelated, IsOfReferences}
use Rattle.judge_laws.specs.Ending.{EndAtNegative, EndsUnfitAtNegative}
use Rattle.judge_laws.proofs.Sources.{lazy_related}
use Rattle.judge_laws.proofs.Statements.{judge_related}

module _ (values : ℕ → ℤ) (turns : ℕ → ℕ) (below : (k : ℕ) → turns k < 3) where
  abbrev S : Source Drawn Final
  S = from_values values turns

  abbrev Told : ℕ → Outcome Final → Type 0
  Told k o = o.end.end ≡ Unfit → EndAtNegative values k o.types

  -- the first of two rests alone counts
  abbrev Tells : Lazily Drawn Final → Lazily Drawn Final → Type 0
  Tells x y = (m : Memory) (d : Drawn) → Told d.taken (x m d)

  -- a pick for a reference, and what comes behind it
  met_tells : (t : PvType) → IsOfReferences t → (f : Value → Next (Lazily Drawn Final))
      → ((v : Value) (s : State) (m : Memory) (d : Drawn) → Told d.taken (f v s m d)) → (s : State) (k : ℕ) (turned : ℕ) (z : ℤ)
      → values k ≡ z → (m : Memory)
      → (met_as (testing final S) t z f s m (record { taken = suc k; turned = turned })).end.end ≡ Unfit
      → EndAtNegative values k (t ∷ (met_as (testing final S) t z f s m (record { taken = suc k; turned = turned })).types)
  met_tells t is f h s k turned (pos n) e m u = inl (h _ _ m (record { taken = suc k; turned = turned }) u)
  met_tells t is f h s k turned (negsuc n) e m u =
      inr (is, (subst (λ z. z <ℤ pos 0) (sym e) (search (rules, ints)), refl))

  turn_tells : (b : Bool) (k : ℕ) (o : Outcome Final) (m : Memory) → b ≡ true → Told k o
      → Told k (if b then o else at_end (final Unfit m))
  turn_tells true k o m e h = h
  turn_tells false k o m e h = cc e

  element_tells : (o : Option ℤ) (ty : PvType) (n : ℕ) (i : ℤ) (f g : ℤ → Lazily Drawn Final) → ((z : ℤ) → Tells (f z) (g z))
      → Tells (element_or final S o ty n i f) (element_or final S o ty n i g)
  element_tells (Some z) ty n i f g h m d = h z m d
  element_tells None ty n i f g h m d = λ u. inl (h _ _ _ u)

  operation_tells : (x : Option ℤ) (o : Operation) (b c : ℤ) (f g : ℤ → Lazily Drawn Final) → ((z : ℤ) → Tells (f z) (g z))
      → Tells (operation_or final S x o b c f) (operation_or final S x o b c g)
  operation_tells (Some z) o b c f g h m d = h z m d
  operation_tells None o b c f g h m d = λ u. inl (h _ _ _ u)

  reading_tells : (c : Cell) (f g : Value → Lazily Drawn Final) → ((v : Value) → Tells (f v) (g v))
      → Tells ((testing final S).reading c f) ((testing final S).reading c g)
  reading_tells (Written v) f g h m d = h v m d
  reading_tells (FromSteps type n i) f g h m d =
      element_tells (value_read m.reads n i) type n i _ (λ z. g (as_element type z)) (λ z. h (as_element type z)) m d

  is_turn : (n : ℕ) → n < 3 → nat_lt n 3 ≡ true
  is_turn n h = search (rules, h)

  tests_tell : AreRelated (testing final S) (testing final S) Tells
  tests_tell = record {
    finished = λ m d u. cc u;
    blocked = λ m d u. cc u;
    failed = λ check span m d u. cc u;
    pick = λ ty n f g h m d u. inl (h _ (taken_in (OneNumber (values d.taken)) m) _ u);
    met = λ t is f g h s m d u. met_tells t is f h s d.taken d.turned (values d.taken) refl
        (taken_in (OneNumber (values d.taken)) m) u;
    turn = λ f g h m d u. turn_tells (nat_lt (turns d.turned) 3) d.taken _ (taken_in (OneTurn (turns d.turned)) m)
        (is_turn (turns d.turned) (below d.turned)) (h _ (taken_in (OneTurn (turns d.turned)) m) _) u;
    steps = λ n t a x y h m d. h (ranged n t a m) d;
    using = λ o b c f g h m d. operation_tells (value_used m.uses (o, b, c)) o b c f g h m d;
    comparing = λ b c x y h m d. h m d;
    matching = λ v w x y h m d. h m d;
    deciding = λ b x y h m d. h m d;
    noticing = λ e x y h m d. h _ d;
    reading = reading_tells;
    knowing = λ k x y h. h;
  }

pub ends_unfit_at_negative : EndsUnfitAtNegative
ends_unfit_at_negative p unit values turns below =
    judge_related _ _ (Tells values turns below)
    (lazy_related final final (from_values values turns) (from_values values turns) (Tells values turns below)
    (tests_tell values turns below) (λ sh mv e f k x y h m d. h (mv m) d) (λ f g h m d. h m m d))
    p (task_of p unit) no_memory (record { taken = 0; turned = 0 })
