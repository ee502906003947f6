-- Worlds that a verified program reaches support the laws of labels.
use Rattle.machine_laws.proofs.Reached.{reached-fits}
use Rattle.core_names.proofs.Stacks.{stacks_fit}
use Rattle.account.proofs.Supplying.{heaps_fit}
use Rattle.account.proofs.Framing.{predicates_taken_in}
use Rattle.account_accesses.specs.Statements.{ReachedWorldsSupport}

pub supported : ReachedWorldsSupport
supported p fits verified w reached = record {
  typed = reached-fits p fits w reached;
  heap = heaps_fit p fits w reached;
  stacks = stacks_fit p w reached;
  predicates = predicates_taken_in p verified;
}
