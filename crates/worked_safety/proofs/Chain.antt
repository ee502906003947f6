-- A predicate that is unfolded and folded: whatever is picked, the judge doesn't fail on its body, nor on the method.
use Rattle.std.proofs.Common.{◌≡◌, pos, true, List, refl, sym, subst}
use Rattle.std.specs.Prelude.{nat_eq, ◌+ℤ◌}
use Rattle.pv_values.specs.Heaps.{same_number}
use Rattle.pv_picks.specs.declared.evidence.Entry.{Entry}
use Rattle.pv_picks.specs.Judge.Runs.{Maps, judging}
use Rattle.pv_picks.specs.Judge.UnitRuns.{judge_task, task_of}
use Rattle.pv_picks.specs.declared.unit.Part.TheVariants as part
use Rattle.pv_picks.specs.declared.unit.PvUnit.{PvUnit}
use Rattle.worked_programs.specs.CoreObjects.{chain}
use Rattle.worked_forms.proofs.Safely.{Safe, blocks, finishes, picked, signed, tested, goes, passed, failed, turned, same_self, numbers_same}

abbrev pub body : PvUnit
body = record { class = 0; part = part.Member 1 }

abbrev pub up : PvUnit
up = record { class = 0; part = part.Member 2 }

pub body_safe : (maps : Maps) (table : List Entry) → Safe (judge_task (judging maps table) chain (task_of chain body))
body_safe maps table =
    picked (signed _ (λ n. blocks) λ n. picked λ k. tested (nat_eq n 0) _ _ (λ e. blocks) λ e. picked λ v. rw (same_self n)
    (tested (same_number v k) _ _ (λ e. finishes) (λ e. blocks)))

pub up_safe : (maps : Maps) (table : List Entry) → Safe (judge_task (judging maps table) chain (task_of chain up))
up_safe maps table =
    picked (signed _ (λ n. blocks) λ n. tested (nat_eq n 0) _ _ (λ e. blocks) λ e.
    turned _ (λ m. blocks) finishes
    (rw (same_self n) (failed (nat_eq n 0) _ _ e (picked λ v. rw (same_self n)
    (goes (same_number v (pos 1)) _ _ (λ z. blocks) λ one. failed (nat_eq n 0) _ _ e (rw (same_self n)
    (failed (nat_eq n 0) _ _ e (rw (same_self n) (failed (nat_eq n 0) _ _ e (rw (same_self n)
    (passed (same_number (v +ℤ pos 1) (pos 2)) _ _
    (subst (λ x. same_number (x +ℤ pos 1) (pos 2) ≡ true) (sym (numbers_same v (pos 1) one)) refl) finishes)))))))))))
