-- The field that is sent: the program is well formed.
use Rattle.std.proofs.Common.{refl, [], ◌∷◌}
use Rattle.pv_ast.specs.declared.ClauseKind.TheVariants as c
use Rattle.pv_ast.specs.declared.Operator.TheVariants as op
use Rattle.pv_ast.specs.Rules.WellFormed.{IsWellFormed}
use Rattle.worked_programs.specs.Nodes.{at, word, clause, contract, range}
use Rattle.worked_programs.specs.Witnesses.{posted}
use Rattle.worked_forms.proofs.Folds.{number, var, perm, binary, assign, branch, counted, send, recv}
use Rattle.worked_forms.proofs.Trees.{Tree, Number, Var, Perm, Binary, tree_of, checked, shaped, formula_shaped, items_shaped}
use Rattle.worked_forms.proofs.Pieces.{Piece, Assign, If, For, Send, Recv, End, Next, statement_checked, statement_shaped}
use Rattle.worked_forms.proofs.Forming.{formed}

-- its expressions, by the byte at which each begins
abbrev node_33 : Tree
node_33 = Perm (at 33 47) (Var (at 38 39) (word 1 38 39)) 1 1 (at 41 46)

abbrev node_82 : Tree
node_82 = Number (at 82 83) 0

abbrev node_87 : Tree
node_87 = Number (at 87 88) 2

abbrev node_105 : Tree
node_105 = Binary (at 105 130) op.Implies (Binary (at 105 111) op.Eq (Var (at 105 106) (word 3 105 106)) (Number (at 110 111) 0))
    (Perm (at 116 130) (Var (at 121 122) (word 1 121 122)) 1 1 (at 124 129))

abbrev node_148 : Tree
node_148 = Binary (at 148 154) op.Eq (Var (at 148 149) (word 3 148 149)) (Number (at 153 154) 0)

abbrev node_158 : Tree
node_158 = Var (at 158 159) (word 1 158 159)

abbrev node_162 : Tree
node_162 = Number (at 162 163) 1

abbrev node_184 : Tree
node_184 = Binary (at 184 209) op.Implies (Binary (at 184 190) op.Eq (Var (at 184 185) (word 3 184 185)) (Number (at 189 190) 0))
    (Perm (at 195 209) (Var (at 200 201) (word 1 200 201)) 1 1 (at 203 208))

abbrev node_235 : Tree
node_235 = Binary (at 235 241) op.Eq (Var (at 235 236) (word 3 235 236)) (Number (at 240 241) 1)

abbrev node_245 : Tree
node_245 = Var (at 245 246) (word 1 245 246)

abbrev node_249 : Tree
node_249 = Number (at 249 250) 2

-- its statements
abbrev statement_69 : Piece
statement_69 = For (at 69 259) (range (word 3 78 79) (tree_of node_82) (tree_of node_87))
    (contract ((clause c.Requires (tree_of node_105)) ∷ []))
    (Next (If (at 144 166) node_148 (Next (Assign (at 158 164) node_158 (at 162 163) node_162) End) End)
    (Next (Send (at 173 210) (word 4 178 179) 1 node_184)
    (Next (Recv (at 217 224) (word 4 222 223))
    (Next (If (at 231 253) node_235 (Next (Assign (at 245 251) node_245 (at 249 250) node_249) End) End) End))))

pub posted_formed : IsWellFormed posted
posted_formed =
    formed posted
    (rw (
      statement_checked statement_69,
      checked node_33,
      checked node_82,
      checked node_87,
      checked node_105,
      checked node_148,
      checked node_158,
      checked node_162,
      checked node_184,
      checked node_235,
      checked node_245,
      checked node_249,
    ) refl)
    (rw (
      statement_shaped statement_69,
      formula_shaped node_33,
      shaped node_82,
      shaped node_87,
      items_shaped 3 node_105,
      shaped node_148,
      shaped node_158,
      shaped node_162,
      items_shaped 3 node_184,
      shaped node_235,
      shaped node_245,
      shaped node_249,
    ) refl)
    (simp (number, var, perm, binary, assign, branch, counted, send, recv) refl)
    (simp (number, var, perm, binary, assign, branch, counted, send, recv) refl)
