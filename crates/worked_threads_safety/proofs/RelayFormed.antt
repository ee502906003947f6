-- The field that is handed on at a barrier: the program is well formed.
use Rattle.std.proofs.Common.{refl, Some, [], ◌∷◌}
use Rattle.pv_ast.specs.declared.ClauseKind.TheVariants as c
use Rattle.pv_ast.specs.declared.Operator.TheVariants as op
use Rattle.pv_ast.specs.Rules.WellFormed.{IsWellFormed}
use Rattle.worked_programs.specs.Nodes.{at, word, clause, contract, range}
use Rattle.worked_programs.specs.Witnesses.{relay}
use Rattle.worked_forms.proofs.Folds.{number, var, perm, binary, assign, branch, par, barrier}
use Rattle.worked_forms.proofs.Trees.{Tree, Number, Var, Perm, Binary, tree_of, checked, shaped, formula_shaped, items_shaped}
use Rattle.worked_forms.proofs.Pieces.{Piece, Assign, If, Par, Barrier, End, Next, statement_checked, statement_shaped}
use Rattle.worked_forms.proofs.Forming.{formed}

-- its expressions, by the byte at which each begins
abbrev node_34 : Tree
node_34 = Perm (at 34 48) (Var (at 39 40) (word 1 39 40)) 1 1 (at 42 47)

abbrev node_88 : Tree
node_88 = Number (at 88 89) 0

abbrev node_93 : Tree
node_93 = Number (at 93 94) 2

abbrev node_111 : Tree
node_111 = Binary (at 111 136) op.Implies (Binary (at 111 117) op.Eq (Var (at 111 112) (word 4 111 112)) (Number (at 116 117) 0))
    (Perm (at 122 136) (Var (at 127 128) (word 1 127 128)) 1 1 (at 130 135))

abbrev node_154 : Tree
node_154 = Binary (at 154 160) op.Eq (Var (at 154 155) (word 4 154 155)) (Number (at 159 160) 0)

abbrev node_164 : Tree
node_164 = Var (at 164 165) (word 1 164 165)

abbrev node_168 : Tree
node_168 = Number (at 168 169) 1

abbrev node_212 : Tree
node_212 = Binary (at 212 237) op.Implies (Binary (at 212 218) op.Eq (Var (at 212 213) (word 4 212 213)) (Number (at 217 218) 0))
    (Perm (at 223 237) (Var (at 228 229) (word 1 228 229)) 1 1 (at 231 236))

abbrev node_255 : Tree
node_255 = Binary (at 255 280) op.Implies (Binary (at 255 261) op.Eq (Var (at 255 256) (word 4 255 256)) (Number (at 260 261) 1))
    (Perm (at 266 280) (Var (at 271 272) (word 1 271 272)) 1 1 (at 274 279))

abbrev node_300 : Tree
node_300 = Binary (at 300 306) op.Eq (Var (at 300 301) (word 4 300 301)) (Number (at 305 306) 1)

abbrev node_310 : Tree
node_310 = Var (at 310 311) (word 1 310 311)

abbrev node_314 : Tree
node_314 = Number (at 314 315) 2

-- its statements
abbrev statement_71 : Piece
statement_71 = Par (at 71 324) (Some (word 3 75 79)) (range (word 4 84 85) (tree_of node_88) (tree_of node_93))
    (contract ((clause c.Requires (tree_of node_111)) ∷ []))
    (Next (If (at 150 172) node_154 (Next (Assign (at 164 170) node_164 (at 168 169) node_168) End) End)
    (Next (Barrier (at 179 289) (word 3 187 191)
    (contract ((clause c.Requires (tree_of node_212)) ∷ (clause c.Ensures (tree_of node_255)) ∷ [])))
    (Next (If (at 296 318) node_300 (Next (Assign (at 310 316) node_310 (at 314 315) node_314) End) End) End)))

pub relay_formed : IsWellFormed relay
relay_formed =
    formed relay
    (rw (
      statement_checked statement_71,
      checked node_34,
      checked node_88,
      checked node_93,
      checked node_111,
      checked node_154,
      checked node_164,
      checked node_168,
      checked node_212,
      checked node_255,
      checked node_300,
      checked node_310,
      checked node_314,
    ) refl)
    (rw (
      statement_shaped statement_71,
      formula_shaped node_34,
      shaped node_88,
      shaped node_93,
      items_shaped 4 node_111,
      shaped node_154,
      shaped node_164,
      shaped node_168,
      items_shaped 4 node_212,
      items_shaped 4 node_255,
      shaped node_300,
      shaped node_310,
      shaped node_314,
    ) refl)
    (simp (number, var, perm, binary, assign, branch, par, barrier) refl)
    (simp (number, var, perm, binary, assign, branch, par, barrier) refl)
