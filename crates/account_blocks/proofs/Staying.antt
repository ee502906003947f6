-- What is owned stays owned, where the formula can be taken in by a run that goes on with nothing held. And positions of a range.
use Rattle.std.proofs.Common.{◌≡◌, ℕ, ℤ, Bool, ◌≤◌, Some, [], sym, subst, arith}
use Rattle.pv_fraction.specs.Amounts.{whole}
use Rattle.pv_picks.specs.Plain.Core.{Formula, Program}
use Rattle.pv_picks.specs.Formulas.Evaluation.{Scene}
use Rattle.pv_picks.specs.Formulas.Heaps.{Heap}
use Rattle.pv_picks.specs.Formulas.Meeting.{Sight}
use Rattle.pv_picks.specs.Judge.States.{Resource, State, amount_of}
use Rattle.pv_picks.specs.Judge.Settings.{Next}
use Rattle.pv_picks.specs.Judge.Inhaling.{inhale}
use Rattle.pv_picks.specs.Judge.Runs.{Judged, Maps}
use Rattle.account_formulas.specs.Sights.{ContentsAgree, SceneFits}
use Rattle.account_formulas.specs.Runs.{Taken, truly, RestNeverFails, AreSettled}
use Rattle.account_formulas.specs.Good.{IsGood}
use Rattle.account_formulas.specs.Owning.{Amounts, Owns, KeepsHeld, HasTrees}
use Rattle.account_formulas.specs.Growing.{StateFits, Place, HeapFits}
use Rattle.account_formulas.specs.Gaining.{Gained, PredicatesFit, home_at, sight_at}
use Rattle.account_formulas.proofs.Raising.{contents_fine}
use Rattle.account_formulas.proofs.Gaining.{amount_seen, formula_gains}

-- whatever comes after it is taken in
pub stays_on : (p : Program) (flags : ℕ → Bool) (present : Heap) (sound : HeapFits p present) (framed : PredicatesFit p present)
    (c : Place p present) (scene : Scene)
    → SceneFits (home_at p present c) c.speech c.scope present scene → (f : Formula)
    → IsGood (home_at p present c) c.speech c.scope f
    → (R : Amounts) → Owns p flags (sight_at p present c) scene f R → ((q : Resource) → R q ≤ whole)
    → (taken : Taken) (t : State) → AreSettled taken c.old c.known → StateFits flags present taken t
    → ((q : Resource) → amount_of t q ≡ 0) → t.instances ≡ [] → (next : Maps → Next Judged)
    → RestNeverFails taken (λ maps. inhale (truly maps) (record { scene = scene; old = c.old }) f (next maps) t)
    → (other : Sight) → KeepsHeld R present other.now → ContentsAgree other.old c.known
    → ((array : ℕ) (n : ℤ) → present.length array ≡ Some n → other.now.length array ≡ Some n)
    → ((array : ℕ) (n : ℤ) → present.length array ≡ Some n → other.old.length array ≡ Some n)
    → Owns p flags other scene f R
stays_on p flags present sound framed c scene fits f good R owns most taken t settled fine empty none next never other later old
    now_lengths old_lengths =
    g.stable other (record {
      now = λ q x is.
          let have = amount_seen p flags present sound framed g.then_taken g.after g.fine q x is in
          let s = g.sum q in
          let e = empty q in
          later.kept q x (omega (arith, have, s, e)) (contents_fine flags present g.then_taken g.after g.fine q x is);
      before = old;
      now_lengths = now_lengths;
      old_lengths = old_lengths;
    }) later
  where
    g : Gained p flags present c.known (λ sight. Owns p flags sight scene f) taken t (λ q. 0) R next
    g = formula_gains p flags present sound framed c scene fits f good R owns taken t settled fine (λ q. 0)
        (subst (λ I. HasTrees p flags present I (λ q. 0)) (sym none) tt)
        (λ q. let m = most q in let e = empty q in omega (arith, m, e)) next never
