-- Where no fact on elements is known, the judge ends as the drawn run does.
use Rattle.std.proofs.Common.{◌≡◌, inl, inr, List, [], sym, subst, ◌∙◌}
use Rattle.pv_picks.specs.declared.evidence.Entry.{Entry}
use Rattle.pv_picks.specs.declared.evidence.Evidence.{Evidence}
use Rattle.pv_picks.specs.declared.unit.PvUnit.{PvUnit}
use Rattle.pv_picks.specs.Plain.Core.{Program}
use Rattle.pv_picks.specs.Judge.UnitRuns.{task_of}
use Rattle.pv_picks.specs.Judge.Runs.{Maps, maps_of}
use Rattle.pv_picks.specs.Lazy.Runs.{Final, lazy_run, no_memory}
use Rattle.judge_laws.specs.Judging.{as_end}
use Rattle.judge_laws.specs.Entering.{judge_entry, lazy_entry}
use Rattle.judge_laws.proofs.Judging.{enters_as_lazy}
use Rattle.judge_laws.proofs.Statements.{enter_task_related}
use Rattle.judge_facts.specs.Finite.{AllSpread, IsOneOf}
use Rattle.judge_facts.specs.Without.{JudgesWithoutFacts, EntersWithoutFacts}
use Rattle.judge_facts.proofs.Lockstep.{by_end, Steps', runs_step, judges_where_facts_spread}

none_spread : (maps : Maps) (table : List Entry) (final : Final) → final.known ≡ [] → AllSpread maps table final
none_spread maps table final none k h = absurd (subst (λ ks. IsOneOf k ks) none h)

-- up to the first inhale the judge ends as the lazy run does, where each fact that is known there spreads
enters_where_facts_spread : (p : Program) (unit : PvUnit) (evidence : Evidence)
    → AllSpread (maps_of evidence.picks) evidence.table (lazy_entry p unit evidence).end
    → judge_entry p unit evidence ≡ as_end (lazy_entry p unit evidence).end.end
enters_where_facts_spread p unit evidence spread =
    by_end (judge_entry p unit evidence ≡ as_end (lazy_entry p unit evidence).end.end) (lazy_entry p unit evidence).end.end
    (λ b. elim (enters_as_lazy p unit evidence) [ inl h ↦ h | inr h ↦ h ∙ sym b ])
    (λ l. (enter_task_related _ _ (Steps' (maps_of evidence.picks) evidence.table)
    (runs_step (maps_of evidence.picks) evidence.table) (task_of p unit) no_memory evidence.picks (tt, tt)
    (λ n i e. absurd (cc e), tt) l).2 spread)

pub judges_without_facts : JudgesWithoutFacts
judges_without_facts p unit evidence none = judges_where_facts_spread p unit evidence
    (none_spread (maps_of evidence.picks) evidence.table (lazy_run p unit evidence).end none)

pub enters_without_facts : EntersWithoutFacts
enters_without_facts p unit evidence none = enters_where_facts_spread p unit evidence
    (none_spread (maps_of evidence.picks) evidence.table (lazy_entry p unit evidence).end none)
