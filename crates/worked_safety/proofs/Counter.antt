-- The counter.
use Rattle.std.proofs.Common.{pos, List}
use Rattle.std.specs.Prelude.{nat_eq, ◌+ℤ◌}
use Rattle.pv_values.specs.Heaps.{same_number}
use Rattle.pv_picks.specs.declared.evidence.Entry.{Entry}
use Rattle.pv_picks.specs.Judge.Runs.{Maps, judging}
use Rattle.pv_picks.specs.Judge.UnitRuns.{judge_task, task_of}
use Rattle.pv_picks.specs.declared.unit.Part.TheVariants as part
use Rattle.pv_picks.specs.declared.unit.PvUnit.{PvUnit}
use Rattle.worked_programs.specs.CoreObjects.{counter}
use Rattle.worked_forms.proofs.Safely.{Safe, blocks, finishes, picked, signed, tested, failed, turned, same_self, number_self}

abbrev pub unit : PvUnit
unit = record { class = 0; part = part.Member 1 }

pub increments : (maps : Maps) (table : List Entry) → Safe (judge_task (judging maps table) counter (task_of counter unit))
increments maps table =
    picked (signed _ (λ n. blocks) λ n. tested (nat_eq n 0) _ _ (λ e. blocks) λ e. failed (nat_eq n 0) _ _ e (picked λ z.
    turned _ (λ m. blocks)
    (failed (nat_eq n 0) _ _ e (picked λ y. rw (same_self n) (rw (same_self n)
    (tested (same_number y (z +ℤ pos 1)) _ _ (λ e. finishes) (λ e. blocks)))))
    (failed (nat_eq n 0) _ _ e (rw (same_self n) (failed (nat_eq n 0) _ _ e (rw (same_self n) (rw (same_self n)
    (rw (number_self (z +ℤ pos 1)) finishes))))))))
