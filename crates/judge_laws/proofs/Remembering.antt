-- What a drawn run remembers of uses and of reads it remembers once.
use Rattle.std.proofs.Common.{◌≡◌, ℕ, suc, ℤ, Bool, true, false, if◌then◌else◌, Option, Some, None, List, [], ◌∷◌, ◌++◌, refl, sym, subst}
use Rattle.std.specs.Prelude.{nat_lt}
use Rattle.pv_values.specs.declared.value.Value.{Value}
use Rattle.pv_ast.specs.declared.PvType.{PvType}
use Rattle.pv_picks.specs.Plain.Core.{Operation}
use Rattle.pv_picks.specs.Judge.States.{Cell, Written, FromSteps, as_element}
use Rattle.pv_picks.specs.Judge.UnitRuns.{task_of}
use Rattle.pv_picks.specs.Lazy.Patterns.{Use}
use Rattle.pv_picks.specs.Lazy.Runs.{Memory, UsedFor, Final, final, Lazily, lazy, Unfit, Outcome, at_end, testing, Drawn, Source, from_values, element_or, operation_or, is_same_use, value_read, value_used, OneNumber, OneTurn, taken_in, ranged, no_memory}
use Rattle.judge_laws.specs.Related.{AreRelated}
use Rattle.judge_laws.specs.Numbers.{IsOtherUse, AreOtherUses, AreOtherReads, RemembersOnce, RemembersEachOnce}
use Rattle.judge_laws.proofs.Taking.{throughout}
use Rattle.judge_laws.proofs.Sources.{lazy_related}
use Rattle.judge_laws.proofs.Statements.{judge_related, enter_task_related}

-- one more use, which is none of those before
other_more : (x : UsedFor) (us : List UsedFor) (u : UsedFor) → is_same_use u.used x.used ≡ false → IsOtherUse x us
    → IsOtherUse x (us ++ u ∷ [])
other_more x [] u e h = (e, tt)
other_more x (y ∷ us) u e h = (h.0, other_more x us u e h.1)

none_of : (b : Bool) (z : ℤ) (o : Option ℤ) → (if b then Some z else o) ≡ None → (b ≡ false) × (o ≡ None)
none_of true z o h = absurd (cc h)
none_of false z o h = (refl, h)

uses_more : (us : List UsedFor) (u : Use) (z : ℤ) → value_used us u ≡ None → AreOtherUses us
    → AreOtherUses (us ++ record { used = u; value = z } ∷ [])
uses_more [] u z e h = (tt, tt)
uses_more (x ∷ us) u z e h =
    let n = none_of (is_same_use u x.used) x.value (value_used us u) e in
    (other_more x us (record { used = u; value = z }) n.0 h.0, uses_more us u z n.1 h.1)

module _ (values : ℕ → ℤ) (turns : ℕ → ℕ) where
  abbrev S : Source Drawn Final
  S = from_values values turns

  abbrev Once : Memory → Final → Type 0
  Once m f = AreOtherUses m.uses → AreOtherReads m.reads → RemembersOnce f

  -- the first of two rests alone counts
  abbrev Keeps : Lazily Drawn Final → Lazily Drawn Final → Type 0
  Keeps x y = (m : Memory) (d : Drawn) → Once m (x m d).end

  ended : (m : Memory) (f : Final) → f.uses ≡ m.uses → f.reads ≡ m.reads → Once m f
  ended m f p q u r = record { uses = subst AreOtherUses (sym p) u; reads = subst AreOtherReads (sym q) r }

  turn_keeps : (b : Bool) (m : Memory) (o : Outcome Final) → Once m o.end → Once m (if b then o else at_end (final Unfit m)).end
  turn_keeps true m o h = h
  turn_keeps false m o h = ended m (final Unfit m) refl refl

  element_keeps : (m : Memory) (d : Drawn) (o : Option ℤ) (ty : PvType) (n : ℕ) (i : ℤ) (f : ℤ → Lazily Drawn Final)
      → value_read m.reads n i ≡ o
      → ((z : ℤ) (t : Memory) (c : Drawn) → Once t (f z t c).end) → Once m (element_or final S o ty n i f m d).end
  element_keeps m d (Some z) ty n i f e h = h z m d
  element_keeps m d None ty n i f e h = λ u r. h (values d.taken)
      (record m { reads = record { number = n; index = i; value = values d.taken } ∷ m.reads })
      (record { taken = suc d.taken; turned = d.turned }) u (e, r)

  operation_keeps : (m : Memory) (d : Drawn) (x : Option ℤ) (o : Operation) (b c : ℤ) (f : ℤ → Lazily Drawn Final)
      → value_used m.uses (o, b, c) ≡ x
      → ((z : ℤ) (t : Memory) (k : Drawn) → Once t (f z t k).end) → Once m (operation_or final S x o b c f m d).end
  operation_keeps m d (Some z) o b c f e h = h z m d
  operation_keeps m d None o b c f e h = λ u r. h (values d.taken)
      (record m { uses = m.uses ++ record { used = (o, b, c); value = values d.taken } ∷ [] })
      (record { taken = suc d.taken; turned = d.turned }) (uses_more m.uses (o, b, c) (values d.taken) e u) r

  reading_keeps : (c : Cell) (f g : Value → Lazily Drawn Final) → ((v : Value) → Keeps (f v) (g v))
      → Keeps ((testing final S).reading c f) ((testing final S).reading c g)
  reading_keeps (Written v) f g h m d = h v m d
  reading_keeps (FromSteps type n i) f g h m d =
      element_keeps m d (value_read m.reads n i) type n i (λ z. f (as_element type z)) refl (λ z. h (as_element type z))

  tests_keep : AreRelated (testing final S) (testing final S) Keeps
  tests_keep = throughout _ _ _ (record {
    finished = λ m d. ended m _ refl refl;
    blocked = λ m d. ended m _ refl refl;
    failed = λ check span m d. ended m _ refl refl;
    unfit = λ m d. ended m _ refl refl;
    pick = λ ty f g h m d. h _ (taken_in (OneNumber (values d.taken)) m) _;
    turn = λ f g h m d. turn_keeps (nat_lt (turns d.turned) 3) (taken_in (OneTurn (turns d.turned)) m) _
        (h _ (taken_in (OneTurn (turns d.turned)) m) _);
    steps = λ n t a x y h m d. h (ranged n t a m) d;
    using = λ o b c f g h m d. operation_keeps m d (value_used m.uses (o, b, c)) o b c f refl h;
    comparing = λ b c x y h m d. h m d;
    matching = λ v w x y h m d. h m d;
    deciding = λ b x y h m d. h m d;
    noticing = λ e x y h m d. h _ d;
    reading = reading_keeps;
    knowing = λ k x y h. h;
  })

  lazies_keep : AreRelated (lazy final S) (lazy final S) Keeps
  lazies_keep = lazy_related final final S S Keeps tests_keep
      (λ sh mv e f k x y h m d u r. h (mv m) d (subst AreOtherUses (sym (e m)) u) (subst AreOtherReads (sym (f m)) r))
      (λ f g h m d. h m m d)

pub remembers_each_once : RemembersEachOnce
remembers_each_once p unit values turns = (
  judge_related _ _ (Keeps values turns) (lazies_keep values turns) p (task_of p unit) no_memory
      (record { taken = 0; turned = 0 }) tt tt,
  enter_task_related _ _ (Keeps values turns) (lazies_keep values turns) (task_of p unit) no_memory
      (record { taken = 0; turned = 0 }) tt tt,
)
