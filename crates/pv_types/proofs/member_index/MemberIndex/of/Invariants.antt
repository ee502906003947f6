use Rattle.std.proofs.Common.{drop}
use Rattle.pv_types.specs.Index.{IsIndexOf}
use Rattle.pv_types.proofs.member_index.MemberIndex.of.Given as goal

abbrev pub invariant-loop-at : goal.invariant-loop-at
invariant-loop-at l = IsIndexOf l.index (drop l.at l.members)
