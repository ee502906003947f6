use Rattle.small_verdicts.specs.Searching.{SoFar}
use Rattle.small_verdicts.proofs.verdict.search.Given as goal

abbrev pub invariant-loop-i : goal.invariant-loop-i
invariant-loop-i l = SoFar l.m l.path.decisions.items l.entered
