-- The numbers that a drawn run takes: they are the values from the first on, no reference among them is negative where the run
-- isn't unfit, and turns from 3 on make no difference. What it remembers of uses and of reads it remembers once.
use Rattle.std.specs.Prelude.{◌≡◌, ◌≢◌, ◌<◌, ◌≤ℤ◌, ℕ, suc, ℤ, pos, false, None, List, [], ◌∷◌, length}
use Rattle.pv_ast.specs.declared.PvType.{PvType}
use Rattle.pv_picks.specs.declared.unit.PvUnit.{PvUnit}
use Rattle.pv_picks.specs.Plain.Core.{Program}
use Rattle.pv_picks.specs.Lazy.Runs.{UsedFor, ReadAs, Final, Outcome, Unfit, is_same_use, value_read, drawn_run}
use Rattle.judge_laws.specs.Related.{IsOfReferences}
use Rattle.judge_laws.specs.Drawing.{AreAt}
use Rattle.judge_laws.specs.Entering.{drawn_entry}

-- no reference is negative among the values, from the k-th on, that are taken for these types
abbrev pub AreUpFrom : (ℕ → ℤ) → ℕ → List PvType → Type 0
AreUpFrom values k [] = Unit {0}
AreUpFrom values k (t ∷ ts) = (IsOfReferences t → pos 0 ≤ℤ values k) × AreUpFrom values (suc k) ts

abbrev pub UpWhereFit : Type 0
UpWhereFit = (p : Program) (unit : PvUnit) (values : ℕ → ℤ) (turns : ℕ → ℕ)
    → ((drawn_run p unit values turns).end.end ≢ Unfit → AreUpFrom values 0 (drawn_run p unit values turns).types)
    × ((drawn_entry p unit values turns).end.end ≢ Unfit → AreUpFrom values 0 (drawn_entry p unit values turns).types)

-- the numbers of a run are these values, one for each type
pub record IsInOrder (values : ℕ → ℤ) (o : Outcome Final) : Type 0 where
  pub first : AreAt values 0 o.values
  pub typed : length o.values ≡ length o.types

abbrev pub TakesValues : Type 0
TakesValues = (p : Program) (unit : PvUnit) (values : ℕ → ℤ) (turns : ℕ → ℕ)
    → IsInOrder values (drawn_run p unit values turns) × IsInOrder values (drawn_entry p unit values turns)

-- a run that isn't unfit is the same with other turns in place of those from 3 on
abbrev pub KeepsTurnsBelow : Type 0
KeepsTurnsBelow = (p : Program) (unit : PvUnit) (values : ℕ → ℤ) (turns others : ℕ → ℕ)
    → ((k : ℕ) → turns k < 3 → others k ≡ turns k)
    → ((drawn_run p unit values turns).end.end ≢ Unfit → drawn_run p unit values others ≡ drawn_run p unit values turns)
    × ((drawn_entry p unit values turns).end.end ≢ Unfit → drawn_entry p unit values others ≡ drawn_entry p unit values turns)

-- none of these uses is the same as this earlier one
abbrev pub IsOtherUse : UsedFor → List UsedFor → Type 0
IsOtherUse x [] = Unit {0}
IsOtherUse x (u ∷ us) = (is_same_use u.used x.used ≡ false) × IsOtherUse x us

abbrev pub AreOtherUses : List UsedFor → Type 0
AreOtherUses [] = Unit {0}
AreOtherUses (u ∷ us) = IsOtherUse u us × AreOtherUses us

-- no element was read twice; the last read comes first
abbrev pub AreOtherReads : List ReadAs → Type 0
AreOtherReads [] = Unit {0}
AreOtherReads (r ∷ rs) = (value_read rs r.number r.index ≡ None) × AreOtherReads rs

pub record RemembersOnce (final : Final) : Type 0 where
  pub uses : AreOtherUses final.uses
  pub reads : AreOtherReads final.reads

abbrev pub RemembersEachOnce : Type 0
RemembersEachOnce = (p : Program) (unit : PvUnit) (values : ℕ → ℤ) (turns : ℕ → ℕ)
    → RemembersOnce (drawn_run p unit values turns).end × RemembersOnce (drawn_entry p unit values turns).end
