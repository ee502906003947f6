-- The lock that is handed on: the program is well formed.
use Rattle.std.proofs.Common.{refl}
use Rattle.pv_ast.specs.declared.PvType.TheVariants as type
use Rattle.pv_ast.specs.declared.Token.TheVariants as token
use Rattle.pv_ast.specs.Rules.WellFormed.{IsWellFormed}
use Rattle.worked_programs.specs.Nodes.{at, name, word, type_at}
use Rattle.worked_programs.specs.Witnesses.{handed}
use Rattle.worked_forms.proofs.Folds.{number, this, var, field, perm, token, local, assign, fork, lock, unlock, commit}
use Rattle.worked_forms.proofs.Trees.{Tree, Number, This, Var, Field, Perm, Held, checked, shaped, formula_shaped}
use Rattle.worked_forms.proofs.Pieces.{Piece, New, Assign, Fork, Lock, Unlock, Commit, statement_checked, statement_shaped}
use Rattle.worked_forms.proofs.Forming.{formed}

-- its expressions, by the byte at which each begins
abbrev node_15 : Tree
node_15 = Perm (at 15 29) (Var (at 20 21) (word 0 20 21)) 1 1 (at 23 28)

abbrev node_64 : Tree
node_64 = Held (at 64 79) token.Committed (This (at 74 78))

abbrev node_98 : Tree
node_98 = This (at 98 102)

abbrev node_108 : Tree
node_108 = Var (at 108 109) (word 0 108 109)

abbrev node_112 : Tree
node_112 = Number (at 112 113) 1

abbrev node_126 : Tree
node_126 = This (at 126 130)

abbrev node_203 : Tree
node_203 = Var (at 203 204) (word 4 203 204)

abbrev node_215 : Tree
node_215 = Var (at 215 216) (word 4 215 216)

abbrev node_227 : Tree
node_227 = Var (at 227 228) (word 4 227 228)

abbrev node_234 : Tree
node_234 = Field (at 234 237) (Var (at 234 235) (word 4 234 235)) (word 0 236 237)

abbrev node_240 : Tree
node_240 = Number (at 240 241) 2

abbrev node_254 : Tree
node_254 = Var (at 254 255) (word 4 254 255)

-- its statements
abbrev statement_93 : Piece
statement_93 = Lock (at 93 103) node_98

abbrev statement_108 : Piece
statement_108 = Assign (at 108 114) node_108 (at 112 113) node_112

abbrev statement_119 : Piece
statement_119 = Unlock (at 119 131) node_126

abbrev statement_171 : Piece
statement_171 = New (at 171 191) (type_at 171 175 (type.Object (name 1))) (word 4 176 177) (at 180 190) (word 1 184 188)

abbrev statement_196 : Piece
statement_196 = Commit (at 196 205) node_203

abbrev statement_210 : Piece
statement_210 = Fork (at 210 217) node_215

abbrev statement_222 : Piece
statement_222 = Lock (at 222 229) node_227

abbrev statement_234 : Piece
statement_234 = Assign (at 234 242) node_234 (at 240 241) node_240

abbrev statement_247 : Piece
statement_247 = Unlock (at 247 256) node_254

pub handed_formed : IsWellFormed handed
handed_formed =
    formed handed
    (rw (
      statement_checked statement_93,
      statement_checked statement_108,
      statement_checked statement_119,
      statement_checked statement_171,
      statement_checked statement_196,
      statement_checked statement_210,
      statement_checked statement_222,
      statement_checked statement_234,
      statement_checked statement_247,
      checked node_15,
      checked node_64,
      checked node_98,
      checked node_108,
      checked node_112,
      checked node_126,
      checked node_203,
      checked node_215,
      checked node_227,
      checked node_234,
      checked node_240,
      checked node_254,
    )
    (rw (checked node_98, checked node_126, checked node_203, checked node_215, checked node_227, checked node_254) refl))
    (rw (
      statement_shaped statement_93,
      statement_shaped statement_108,
      statement_shaped statement_119,
      statement_shaped statement_171,
      statement_shaped statement_196,
      statement_shaped statement_210,
      statement_shaped statement_222,
      statement_shaped statement_234,
      statement_shaped statement_247,
      formula_shaped node_15,
      formula_shaped node_64,
      shaped node_98,
      shaped node_108,
      shaped node_112,
      shaped node_126,
      shaped node_203,
      shaped node_215,
      shaped node_227,
      shaped node_234,
      shaped node_240,
      shaped node_254,
    ) refl)
    (simp (number, this, var, field, perm, token, local, assign, fork, lock, unlock, commit) refl)
    (simp (number, this, var, field, perm, token, local, assign, fork, lock, unlock, commit) refl)
