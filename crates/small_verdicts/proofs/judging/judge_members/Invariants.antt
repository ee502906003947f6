use Rattle.std.proofs.Common.{take}
use Rattle.std.specs.List.{flat_map}
use Rattle.small_verdicts.specs.Units.{units_of_member, AreJudged}
use Rattle.small_verdicts.proofs.judging.judge_members.Given as goal

abbrev pub invariant-loop-member : goal.invariant-loop-member
invariant-loop-member l = AreJudged (flat_map (units_of_member l.class) (take l.member-index l.members)) l.judged
