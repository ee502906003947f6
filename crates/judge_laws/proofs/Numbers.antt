-- What drawn runs take: values in their order, no negative reference where they aren't unfit, and no turn from 3 on.
use Rattle.std.proofs.Common.{◌≡◌, ◌≢◌, ◌<◌, ◌≤ℤ◌, ℕ, suc, ℤ, pos, negsuc, Bool, true, false, if◌then◌else◌, Option, Some, None, List, [], ◌∷◌, length, refl, ap, sym, subst, rules}
use Rattle.std.specs.Prelude.{nat_lt}
use Rattle.std.proofs.lemmas.Int.{ints}
use Rattle.pv_values.specs.declared.value.Value.{Value}
use Rattle.pv_ast.specs.declared.PvType.{PvType}
use Rattle.pv_ast.specs.declared.PvType.TheVariants as type
use Rattle.pv_ast.specs.declared.PvType.TheVariants.{Int}
use Rattle.pv_picks.specs.Plain.Core.{Operation}
use Rattle.pv_picks.specs.Judge.States.{State, Cell, Written, FromSteps, as_element, as_element_type}
use Rattle.pv_picks.specs.Judge.Settings.{Next, met_as}
use Rattle.pv_picks.specs.Judge.UnitRuns.{task_of}
use Rattle.pv_picks.specs.Lazy.Patterns.{Took}
use Rattle.pv_picks.specs.Lazy.Runs.{Memory, Final, final, Lazily, lazy, Unfit, Outcome, at_end, showing, taking, picking, testing, Drawn, Source, from_values, element_or, operation_or, value_read, value_used, OneNumber, OneTurn, ForRange, taken_in, ranged, no_memory}
use Rattle.judge_laws.specs.Related.{AreRelated, IsOfReferences}
use Rattle.judge_laws.specs.Drawing.{AreAt}
use Rattle.judge_laws.specs.Numbers.{IsInOrder, AreUpFrom, UpWhereFit, TakesValues, KeepsTurnsBelow}
use Rattle.judge_laws.proofs.Taking.{throughout}
use Rattle.judge_laws.proofs.Sources.{lazy_related}
use Rattle.judge_laws.proofs.Statements.{judge_related, enter_task_related}

no_reference : (ty : PvType) → IsOfReferences (as_element_type ty) → ⊥
no_reference type.Int h = h
no_reference type.Truth h = h
no_reference (type.Object c) h = h
no_reference type.IntArray h = h
no_reference type.TruthArray h = h
no_reference type.Null h = h

-- No negative reference

module _ (values : ℕ → ℤ) (turns : ℕ → ℕ) where
  abbrev S : Source Drawn Final
  S = from_values values turns

  abbrev Up : ℕ → Outcome Final → Type 0
  Up k o = o.end.end ≢ Unfit → AreUpFrom values k o.types

  -- the first of two rests alone counts
  abbrev Ups : Lazily Drawn Final → Lazily Drawn Final → Type 0
  Ups x y = (m : Memory) (d : Drawn) → Up d.taken (x m d)

  met_up : (t : PvType) (f : Value → Next (Lazily Drawn Final))
      → ((v : Value) (s : State) (m : Memory) (d : Drawn) → Up d.taken (f v s m d)) → (s : State) (k : ℕ) (turned : ℕ) (z : ℤ)
      → values k ≡ z → (m : Memory)
      → (met_as (testing final S) t z f s m (record { taken = suc k; turned = turned })).end.end ≢ Unfit
      → AreUpFrom values k (t ∷ (met_as (testing final S) t z f s m (record { taken = suc k; turned = turned })).types)
  met_up t f h s k turned (pos n) e m u = (
    λ is. subst (λ z. pos 0 ≤ℤ z) (sym e) (search (rules, ints)),
    h _ _ m (record { taken = suc k; turned = turned }) u,
  )
  met_up t f h s k turned (negsuc n) e m u = absurd (u refl)

  turn_up : (b : Bool) (k : ℕ) (o : Outcome Final) (m : Memory) → Up k o → Up k (if b then o else at_end (final Unfit m))
  turn_up true k o m h = h
  turn_up false k o m h = λ u. tt

  element_up : (o : Option ℤ) (ty : PvType) (n : ℕ) (i : ℤ) (f g : ℤ → Lazily Drawn Final) → ((z : ℤ) → Ups (f z) (g z))
      → Ups (element_or final S o ty n i f) (element_or final S o ty n i g)
  element_up (Some z) ty n i f g h m d = h z m d
  element_up None ty n i f g h m d = λ u. (λ is. absurd (no_reference ty is), h _ _ _ u)

  operation_up : (x : Option ℤ) (o : Operation) (b c : ℤ) (f g : ℤ → Lazily Drawn Final) → ((z : ℤ) → Ups (f z) (g z))
      → Ups (operation_or final S x o b c f) (operation_or final S x o b c g)
  operation_up (Some z) o b c f g h m d = h z m d
  operation_up None o b c f g h m d = λ u. (λ is. absurd is, h _ _ _ u)

  reading_up : (c : Cell) (f g : Value → Lazily Drawn Final) → ((v : Value) → Ups (f v) (g v))
      → Ups ((testing final S).reading c f) ((testing final S).reading c g)
  reading_up (Written v) f g h m d = h v m d
  reading_up (FromSteps type n i) f g h m d =
      element_up (value_read m.reads n i) type n i _ (λ z. g (as_element type z)) (λ z. h (as_element type z)) m d

  tests_up : AreRelated (testing final S) (testing final S) Ups
  tests_up = record {
    finished = λ m d u. tt;
    blocked = λ m d u. tt;
    failed = λ check span m d u. tt;
    pick = λ ty n f g h m d u. (λ is. absurd (n is), h _ (taken_in (OneNumber (values d.taken)) m) _ u);
    met = λ t is f g h s m d u. met_up t f h s d.taken d.turned (values d.taken) refl
        (taken_in (OneNumber (values d.taken)) m) u;
    turn = λ f g h m d. turn_up (nat_lt (turns d.turned) 3) d.taken _ (taken_in (OneTurn (turns d.turned)) m)
        (h _ (taken_in (OneTurn (turns d.turned)) m) _);
    steps = λ n t a x y h m d. h (ranged n t a m) d;
    using = λ o b c f g h m d. operation_up (value_used m.uses (o, b, c)) o b c f g h m d;
    comparing = λ b c x y h m d. h m d;
    matching = λ v w x y h m d. h m d;
    deciding = λ b x y h m d. h m d;
    noticing = λ e x y h m d. h _ d;
    reading = reading_up;
    knowing = λ k x y h. h;
  }

  lazies_up : AreRelated (lazy final S) (lazy final S) Ups
  lazies_up = lazy_related final final S S Ups tests_up (λ sh mv e f k x y h m d. h (mv m) d) (λ f g h m d. h m m d)

pub up_where_fit : UpWhereFit
up_where_fit p unit values turns = (
  judge_related _ _ (Ups values turns) (lazies_up values turns) p (task_of p unit) no_memory (record { taken = 0; turned = 0 }),
  enter_task_related _ _ (Ups values turns) (lazies_up values turns) (task_of p unit) no_memory
      (record { taken = 0; turned = 0 }),
)

-- Values in their order

module _ (values : ℕ → ℤ) (turns : ℕ → ℕ) where
  abbrev V : Source Drawn Final
  V = from_values values turns

  abbrev At : ℕ → Outcome Final → Type 0
  At k o = AreAt values k o.values × (length o.values ≡ length o.types)

  abbrev Takes : Lazily Drawn Final → Lazily Drawn Final → Type 0
  Takes x y = (m : Memory) (d : Drawn) → At d.taken (x m d)

  next_at : (k : ℕ) (vs : List ℤ) (ts : List PvType) (t : PvType) → AreAt values (suc k) vs × (length vs ≡ length ts)
      → AreAt values k (values k ∷ vs) × (length (values k ∷ vs) ≡ length (t ∷ ts))
  next_at k vs ts t h = ((refl, h.0), ap suc h.1)

  turn_at : (b : Bool) (k : ℕ) (o : Outcome Final) (m : Memory) → At k o → At k (if b then o else at_end (final Unfit m))
  turn_at true k o m h = h
  turn_at false k o m h = (tt, refl)

  element_takes : (o : Option ℤ) (ty : PvType) (n : ℕ) (i : ℤ) (f g : ℤ → Lazily Drawn Final) → ((z : ℤ) → Takes (f z) (g z))
      → Takes (element_or final V o ty n i f) (element_or final V o ty n i g)
  element_takes (Some z) ty n i f g h m d = h z m d
  element_takes None ty n i f g h m d = next_at d.taken _ _ (as_element_type ty) (h (values d.taken) _ _)

  operation_takes : (x : Option ℤ) (o : Operation) (b c : ℤ) (f g : ℤ → Lazily Drawn Final) → ((z : ℤ) → Takes (f z) (g z))
      → Takes (operation_or final V x o b c f) (operation_or final V x o b c g)
  operation_takes (Some z) o b c f g h m d = h z m d
  operation_takes None o b c f g h m d = next_at d.taken _ _ Int (h (values d.taken) _ _)

  reading_takes : (c : Cell) (f g : Value → Lazily Drawn Final) → ((v : Value) → Takes (f v) (g v))
      → Takes ((testing final V).reading c f) ((testing final V).reading c g)
  reading_takes (Written v) f g h m d = h v m d
  reading_takes (FromSteps type n i) f g h m d =
      element_takes (value_read m.reads n i) type n i _ (λ z. g (as_element type z)) (λ z. h (as_element type z)) m d

  tests_take : AreRelated (testing final V) (testing final V) Takes
  tests_take = throughout _ _ _ (record {
    finished = λ m d. (tt, refl);
    blocked = λ m d. (tt, refl);
    failed = λ check span m d. (tt, refl);
    unfit = λ m d. (tt, refl);
    pick = λ ty f g h m d. next_at d.taken _ _ ty (h (values d.taken) (taken_in (OneNumber (values d.taken)) m) _);
    turn = λ f g h m d. turn_at (nat_lt (turns d.turned) 3) d.taken _ (taken_in (OneTurn (turns d.turned)) m)
        (h _ (taken_in (OneTurn (turns d.turned)) m) _);
    steps = λ n t a x y h m d. h (ranged n t a m) d;
    using = λ o b c f g h m d. operation_takes (value_used m.uses (o, b, c)) o b c f g h m d;
    comparing = λ b c x y h m d. h m d;
    matching = λ v w x y h m d. h m d;
    deciding = λ b x y h m d. h m d;
    noticing = λ e x y h m d. h _ d;
    reading = reading_takes;
    knowing = λ k x y h. h;
  })

  in_order : (o : Outcome Final) → At 0 o → IsInOrder values o
  in_order o h = record { first = h.0; typed = h.1 }

  lazies_take : AreRelated (lazy final V) (lazy final V) Takes
  lazies_take = lazy_related final final V V Takes tests_take (λ sh mv e f k x y h m d. h (mv m) d) (λ f g h m d. h m m d)

pub takes_values : TakesValues
takes_values p unit values turns = (
  in_order values turns _ (judge_related _ _ (Takes values turns) (lazies_take values turns) p (task_of p unit) no_memory
      (record { taken = 0; turned = 0 })),
  in_order values turns _ (enter_task_related _ _ (Takes values turns) (lazies_take values turns) (task_of p unit) no_memory
      (record { taken = 0; turned = 0 })),
)

-- Turns from 3 on

module _ (values : ℕ → ℤ) (turns others : ℕ → ℕ) (below : (k : ℕ) → turns k < 3 → others k ≡ turns k) where
  abbrev One : Source Drawn Final
  One = from_values values turns

  abbrev Other : Source Drawn Final
  Other = from_values values others

  abbrev Same : Lazily Drawn Final → Lazily Drawn Final → Type 0
  Same x y = (m : Memory) (d : Drawn) → (x m d).end.end ≢ Unfit → y m d ≡ x m d

  is_below : (n : ℕ) → nat_lt n 3 ≡ true → n < 3
  is_below n h = search (rules, h)

  abbrev after_turn : (ℕ → Lazily Drawn Final) → Memory → Drawn → ℕ → Bool → Outcome Final
  after_turn f m d n b = picking (OneTurn n) (showing (Took n ∷ []) (if b then f n (taken_in (OneTurn n) m) d
      else at_end (final Unfit (taken_in (OneTurn n) m))))

  turn_same : (f g : ℕ → Lazily Drawn Final) → ((n : ℕ) → Same (f n) (g n)) → (m : Memory) (d : Drawn) (n k : ℕ) (b : Bool)
      → nat_lt n 3 ≡ b → (n < 3 → k ≡ n) → (after_turn f m d n b).end.end ≢ Unfit
      → after_turn g m d k (nat_lt k 3) ≡ after_turn f m d n b
  turn_same f g h m d n k true e same u =
      subst (λ (j : ℕ). after_turn g m d j (nat_lt j 3) ≡ after_turn f m d n true) (sym (same (is_below n e)))
      (subst (λ (b : Bool). after_turn g m d n b ≡ after_turn f m d n true) (sym e)
      (ap (λ o. picking (OneTurn n) (showing (Took n ∷ []) o)) (h n (taken_in (OneTurn n) m) d u)))
  turn_same f g h m d n k false e same u = absurd (u refl)

  element_same : (o : Option ℤ) (ty : PvType) (n : ℕ) (i : ℤ) (f g : ℤ → Lazily Drawn Final) → ((z : ℤ) → Same (f z) (g z))
      → Same (element_or final One o ty n i f) (element_or final Other o ty n i g)
  element_same (Some z) ty n i f g h m d u = h z m d u
  element_same None ty n i f g h m d u = ap (taking (as_element_type ty) (values d.taken)) (h (values d.taken) _ _ u)

  operation_same : (x : Option ℤ) (o : Operation) (b c : ℤ) (f g : ℤ → Lazily Drawn Final) → ((z : ℤ) → Same (f z) (g z))
      → Same (operation_or final One x o b c f) (operation_or final Other x o b c g)
  operation_same (Some z) o b c f g h m d u = h z m d u
  operation_same None o b c f g h m d u = ap (taking Int (values d.taken)) (h (values d.taken) _ _ u)

  reading_same : (c : Cell) (f g : Value → Lazily Drawn Final) → ((v : Value) → Same (f v) (g v))
      → Same ((testing final One).reading c f) ((testing final Other).reading c g)
  reading_same (Written v) f g h m d u = h v m d u
  reading_same (FromSteps type n i) f g h m d u =
      element_same (value_read m.reads n i) type n i _ (λ z. g (as_element type z)) (λ z. h (as_element type z)) m d u

  tests_same : AreRelated (testing final One) (testing final Other) Same
  tests_same = throughout _ _ _ (record {
    finished = λ m d u. refl;
    blocked = λ m d u. refl;
    failed = λ check span m d u. refl;
    unfit = λ m d u. refl;
    pick = λ ty f g h m d u. ap (λ o. picking (OneNumber (values d.taken)) (taking ty (values d.taken) o))
        (h (values d.taken) (taken_in (OneNumber (values d.taken)) m) _ u);
    turn = λ f g h m d u. turn_same f g h m (record { taken = d.taken; turned = suc d.turned }) (turns d.turned)
        (others d.turned) (nat_lt (turns d.turned) 3) refl (below d.turned) u;
    steps = λ n t a x y h m d u. ap (picking ForRange) (h (ranged n t a m) d u);
    using = λ o b c f g h m d u. ap (showing _) (operation_same (value_used m.uses (o, b, c)) o b c f g h m d u);
    comparing = λ b c x y h m d u. ap (showing _) (h m d u);
    matching = λ v w x y h m d u. ap (showing _) (h m d u);
    deciding = λ b x y h m d u. ap (showing _) (h m d u);
    noticing = λ e x y h m d u. ap (showing _) (h _ d u);
    reading = reading_same;
    knowing = λ k x y h. h;
  })

  lazies_same : AreRelated (lazy final One) (lazy final Other) Same
  lazies_same = lazy_related final final One Other Same tests_same (λ sh mv e f k x y h m d u. ap (showing (sh m)) (h (mv m) d u))
      (λ f g h m d u. h m m d u)

pub keeps_turns_below : KeepsTurnsBelow
keeps_turns_below p unit values turns others below = (
  judge_related _ _ (Same values turns others below) (lazies_same values turns others below) p (task_of p unit) no_memory
      (record { taken = 0; turned = 0 }),
  enter_task_related _ _ (Same values turns others below) (lazies_same values turns others below) (task_of p unit) no_memory
      (record { taken = 0; turned = 0 }),
)
