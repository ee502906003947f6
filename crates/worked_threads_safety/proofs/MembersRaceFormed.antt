-- The members of a par block that race: the program is well formed.
use Rattle.std.proofs.Common.{refl, None, []}
use Rattle.pv_ast.specs.Rules.WellFormed.{IsWellFormed}
use Rattle.worked_programs.specs.Nodes.{at, word, contract, range}
use Rattle.worked_programs.specs.Witnesses.{members_race}
use Rattle.worked_forms.proofs.Folds.{number, var, assign, par}
use Rattle.worked_forms.proofs.Trees.{Tree, Number, Var, tree_of, checked, shaped}
use Rattle.worked_forms.proofs.Pieces.{Piece, Assign, Par, End, Next, statement_checked, statement_shaped}
use Rattle.worked_forms.proofs.Forming.{formed}

-- its expressions, by the byte at which each begins
abbrev node_55 : Tree
node_55 = Number (at 55 56) 0

abbrev node_60 : Tree
node_60 = Number (at 60 61) 2

abbrev node_71 : Tree
node_71 = Var (at 71 72) (word 1 71 72)

abbrev node_75 : Tree
node_75 = Var (at 75 76) (word 3 75 76)

-- its statements
abbrev statement_42 : Piece
statement_42 = Par (at 42 83) None (range (word 3 51 52) (tree_of node_55) (tree_of node_60)) (contract [])
    (Next (Assign (at 71 77) node_71 (at 75 76) node_75) End)

pub members_race_formed : IsWellFormed members_race
members_race_formed =
    formed members_race
    (rw (statement_checked statement_42, checked node_55, checked node_60, checked node_71, checked node_75) refl)
    (rw (statement_shaped statement_42, shaped node_55, shaped node_60, shaped node_71, shaped node_75) refl)
    (simp (number, var, assign, par) refl)
    (simp (number, var, assign, par) refl)
