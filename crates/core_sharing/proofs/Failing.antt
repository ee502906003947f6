-- Runs that follow each other fail alike.
use Rattle.std.proofs.Common.{◌≡◌, ◌⊎◌, inl, inr, ℤ, List, refl, sym, ◌∙◌}
use Rattle.pv_base.specs.declared.Name.{Name}
use Rattle.pv_base.specs.declared.Span.{Span}
use Rattle.pv_picks.specs.declared.check.Check.{Check}
use Rattle.pv_picks.specs.declared.evidence.Pick.{Pick}
use Rattle.pv_picks.specs.declared.evidence.Entry.{Entry}
use Rattle.pv_picks.specs.Plain.Core.{Shared, Formula, Items}
use Rattle.pv_picks.specs.Judge.States.{State}
use Rattle.pv_picks.specs.Judge.Settings.{Next}
use Rattle.pv_picks.specs.Judge.Exhaling.{Giving}
use Rattle.pv_picks.specs.Judge.Judging.{finish}
use Rattle.pv_picks.specs.Judge.Runs.{End, Finished, Blocked, Failed, Judged, Maps, judging}
use Rattle.core_sharing.specs.Following.{KnowsLengths, with_lengths, Counting, IsReached, Follows, AsItEnds, OrFails}
use Rattle.core_sharing.specs.Exhaled.{AreExhaledAlike, SharedIsExhaledAlike, CanEnd, CanFail, AreFailedAlike, SharedFailsAlike}
use Rattle.core_sharing.proofs.Following.{ended}

-- what is reached from all that is known is reached from the state itself
reached_here : (Counts : Counting) (s : State) (end : End) (other : Next Judged)
    → IsReached Counts s.lengths end (λ known. other (with_lengths s known)) → (picks : List Pick) × Counts end (other s picks)
reached_here Counts s end other r = r.reaches s.lengths r.among

finish_follows : (maps : Maps) (table : List Entry) (Counts : Counting) → ((end : End) → Counts end end)
    → Follows Counts (finish (judging maps table)) (finish (judging maps table))
finish_follows maps table Counts same =
    record { from = λ s picks knows. ended maps table Counts same s Finished knows }

can_end : (one other : Next Judged) → Follows AsItEnds one other → (s : State) (end : End) → KnowsLengths s.lengths
    → (end ≡ Blocked → ⊥) → CanEnd one s end → CanEnd other s end
can_end one other follows s end knows goes can = by (follows.from s can.0 knows)
  where
    by : (one s can.0 ≡ Blocked) ⊎ IsReached AsItEnds s.lengths (one s can.0) (λ known. other (with_lengths s known))
        → CanEnd other s end
    by (inl blocked) = absurd (goes (sym can.1 ∙ blocked))
    by (inr r) = let x = reached_here AsItEnds s (one s can.0) other r in (x.0, sym x.1 ∙ can.1)

failed_blocked : {A : Type 0} (named : Check) (span : Span) → Failed named span ≡ Blocked → A
failed_blocked named span is = absurd cc

can_fail : (one other : Next Judged) → Follows OrFails one other → (s : State) → KnowsLengths s.lengths → CanFail one s
    → CanFail other s
can_fail one other follows s knows (named, span, (picks, is)) = by (follows.from s picks knows)
  where
    counted : (end : End) (run : List Pick) → one s picks ≡ end → end ≡ Failed named span → OrFails end (other s run)
        → CanFail other s
    counted end run at fails (inl same) = (named, span, (run, sym same ∙ fails))
    counted end run at fails (inr failing) = (failing.0, failing.1, (run, failing.2))

    by : (one s picks ≡ Blocked) ⊎ IsReached OrFails s.lengths (one s picks) (λ known. other (with_lengths s known))
        → CanFail other s
    by (inl blocked) = failed_blocked named span (sym is ∙ blocked)
    by (inr r) = let x = reached_here OrFails s (one s picks) other r in counted (one s picks) x.0 refl is x.1

alike_fail : (maps : Maps) (table : List Entry) (f : Giving) (name : Name) (position : ℤ) (formula : Formula) (items : Items)
    → AreExhaledAlike maps table f name position formula items → AreFailedAlike maps table f name position formula items
alike_fail maps table f name position formula items alike = record {
  ends = can_end _ _ (alike.formula_first (finish (judging maps table)) (finish (judging maps table))
      (finish_follows maps table AsItEnds (λ end. refl)));
  fails = can_fail _ _ (alike.items_first (finish (judging maps table)) (finish (judging maps table))
      (finish_follows maps table OrFails (λ end. inl refl)));
}

pub shared_fails_alike : (name : Name) (s : Shared) → SharedIsExhaledAlike name s → SharedFailsAlike name s
shared_fails_alike name s alike = λ maps table f position. (
  λ numbers. alike_fail maps table f name position s.one.before s.each_before ((alike maps table f position).0 numbers),
  λ numbers. alike_fail maps table f name position s.one.after s.each_after ((alike maps table f position).1 numbers),
)
