use Rattle.std.proofs.Common.{◌≡◌, drop}
use Rattle.pv_ast.specs.Rules.Faults.{least}
use Rattle.pv_ast.specs.Rules.Statements.{unknown_labels}
use Rattle.pv_types.proofs.labels.note_unknown.Given as goal

abbrev pub invariant-loop-word : goal.invariant-loop-word
invariant-loop-word l =
    least l.first (unknown_labels l.labels (drop l.word-index l.words)) ≡ least l.fn.first (unknown_labels l.labels l.words)
