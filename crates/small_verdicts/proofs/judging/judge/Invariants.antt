use Rattle.std.proofs.Common.{take}
use Rattle.std.specs.List.{flat_map}
use Rattle.small_verdicts.specs.Units.{units_of_class, AreJudged}
use Rattle.small_verdicts.proofs.judging.judge.Given as goal

abbrev pub invariant-loop-class : goal.invariant-loop-class
invariant-loop-class l = AreJudged (flat_map units_of_class (take l.class-index l.program.classes)) l.judged
