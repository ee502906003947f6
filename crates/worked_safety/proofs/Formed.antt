-- The counter is well formed.
use Rattle.std.proofs.Common.{refl}
use Rattle.pv_ast.specs.declared.Operator.TheVariants as op
use Rattle.pv_ast.specs.Rules.WellFormed.{IsWellFormed}
use Rattle.worked_programs.specs.Nodes.{at, word}
use Rattle.worked_programs.specs.Objects.{counter}
use Rattle.worked_forms.proofs.Folds.{number, var, old, perm, binary, assign}
use Rattle.worked_forms.proofs.Trees.{Tree, Number, Var, Old, Perm, Binary, checked, shaped, formula_shaped}
use Rattle.worked_forms.proofs.Pieces.{Piece, Assign, statement_checked, statement_shaped}
use Rattle.worked_forms.proofs.Forming.{formed}

-- its expressions, by the byte at which each begins
abbrev node_36 : Tree
node_36 = Perm (at 36 50) (Var (at 41 42) (word 1 41 42)) 1 1 (at 44 49)

abbrev node_62 : Tree
node_62 = Binary (at 62 96) op.Star (Perm (at 62 76) (Var (at 67 68) (word 1 67 68)) 1 1 (at 70 75))
    (Binary (at 80 96) op.Eq (Var (at 80 81) (word 1 80 81))
    (Binary (at 85 96) op.Add (Old (at 85 92) (Var (at 90 91) (word 1 90 91))) (Number (at 95 96) 1)))

abbrev node_118 : Tree
node_118 = Var (at 118 119) (word 1 118 119)

abbrev node_122 : Tree
node_122 = Binary (at 122 127) op.Add (Var (at 122 123) (word 1 122 123)) (Number (at 126 127) 1)

-- its statements
abbrev statement_118 : Piece
statement_118 = Assign (at 118 128) node_118 (at 122 127) node_122

pub counter_formed : IsWellFormed counter
counter_formed =
    formed counter
    (rw (statement_checked statement_118, checked node_36, checked node_62, checked node_118, checked node_122) refl)
    (rw (statement_shaped statement_118, formula_shaped node_36, formula_shaped node_62, shaped node_118, shaped node_122) refl)
    (simp (number, var, old, perm, binary, assign) refl)
    (simp (number, var, old, perm, binary, assign) refl)
