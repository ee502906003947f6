-- The field that is divided: the program is well formed.
use Rattle.std.proofs.Common.{refl, None, [], ◌∷◌}
use Rattle.pv_ast.specs.declared.ClauseKind.TheVariants as c
use Rattle.pv_ast.specs.declared.Operator.TheVariants as op
use Rattle.pv_ast.specs.declared.PvType.TheVariants as type
use Rattle.pv_ast.specs.Rules.WellFormed.{IsWellFormed}
use Rattle.worked_programs.specs.Nodes.{at, word, type_at, clause, contract, range}
use Rattle.worked_programs.specs.Witnesses.{divided}
use Rattle.worked_forms.proofs.Folds.{number, var, perm, binary, local, assign, par}
use Rattle.worked_forms.proofs.Trees.{Tree, Number, Var, Perm, Binary, tree_of, checked, shaped, formula_shaped, items_shaped}
use Rattle.worked_forms.proofs.Pieces.{Piece, Let, Assign, Par, End, Next, statement_checked, statement_shaped}
use Rattle.worked_forms.proofs.Forming.{formed}

-- its expressions, by the byte at which each begins
abbrev node_34 : Tree
node_34 = Perm (at 34 48) (Var (at 39 40) (word 1 39 40)) 1 1 (at 42 47)

abbrev node_60 : Tree
node_60 = Perm (at 60 74) (Var (at 65 66) (word 1 65 66)) 1 1 (at 68 73)

abbrev node_110 : Tree
node_110 = Number (at 110 111) 0

abbrev node_115 : Tree
node_115 = Number (at 115 116) 2

abbrev node_133 : Tree
node_133 = Binary (at 133 156) op.Implies (Binary (at 133 139) op.Eq (Var (at 133 134) (word 3 133 134)) (Number (at 138 139) 0))
    (Perm (at 144 156) (Var (at 149 150) (word 1 149 150)) 1 2 (at 152 155))

abbrev node_173 : Tree
node_173 = Binary (at 173 196) op.Implies (Binary (at 173 179) op.Eq (Var (at 173 174) (word 3 173 174)) (Number (at 178 179) 1))
    (Perm (at 184 196) (Var (at 189 190) (word 1 189 190)) 1 2 (at 192 195))

abbrev node_212 : Tree
node_212 = Binary (at 212 235) op.Implies (Binary (at 212 218) op.Eq (Var (at 212 213) (word 3 212 213)) (Number (at 217 218) 0))
    (Perm (at 223 235) (Var (at 228 229) (word 1 228 229)) 1 2 (at 231 234))

abbrev node_251 : Tree
node_251 = Binary (at 251 274) op.Implies (Binary (at 251 257) op.Eq (Var (at 251 252) (word 3 251 252)) (Number (at 256 257) 1))
    (Perm (at 262 274) (Var (at 267 268) (word 1 267 268)) 1 2 (at 270 273))

abbrev node_296 : Tree
node_296 = Var (at 296 297) (word 1 296 297)

abbrev node_309 : Tree
node_309 = Var (at 309 310) (word 1 309 310)

abbrev node_313 : Tree
node_313 = Number (at 313 314) 3

-- its statements
abbrev statement_97 : Piece
statement_97 = Par (at 97 304) None (range (word 3 106 107) (tree_of node_110) (tree_of node_115))
    (contract ((clause c.Requires (tree_of node_133)) ∷ (clause c.Requires (tree_of node_173))
    ∷ (clause c.Ensures (tree_of node_212)) ∷ (clause c.Ensures (tree_of node_251)) ∷ []))
    (Next (Let (at 288 298) (type_at 288 291 type.Int) (word 4 292 293) (at 296 297) node_296) End)

abbrev statement_309 : Piece
statement_309 = Assign (at 309 315) node_309 (at 313 314) node_313

pub divided_formed : IsWellFormed divided
divided_formed =
    formed divided
    (rw (
      statement_checked statement_97,
      statement_checked statement_309,
      checked node_34,
      checked node_60,
      checked node_110,
      checked node_115,
      checked node_133,
      checked node_173,
      checked node_212,
      checked node_251,
      checked node_296,
      checked node_309,
      checked node_313,
    ) refl)
    (rw (
      statement_shaped statement_97,
      statement_shaped statement_309,
      formula_shaped node_34,
      formula_shaped node_60,
      shaped node_110,
      shaped node_115,
      items_shaped 3 node_133,
      items_shaped 3 node_173,
      items_shaped 3 node_212,
      items_shaped 3 node_251,
      shaped node_296,
      shaped node_309,
      shaped node_313,
    ) refl)
    (simp (number, var, perm, binary, local, assign, par) refl)
    (simp (number, var, perm, binary, local, assign, par) refl)
