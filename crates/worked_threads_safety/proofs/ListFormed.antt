-- The list: the program is well formed.
use Rattle.std.proofs.Common.{refl}
use Rattle.pv_ast.specs.declared.Operator.TheVariants as op
use Rattle.pv_ast.specs.declared.PvType.TheVariants as type
use Rattle.pv_ast.specs.Rules.WellFormed.{IsWellFormed}
use Rattle.worked_programs.specs.Nodes.{at, name, word, type_at}
use Rattle.worked_programs.specs.Witnesses.{list}
use Rattle.worked_forms.proofs.Folds.{number, null, var, field, perm, binary, own_instance, instance, local, assign, call, branch, folds, unfolds}
use Rattle.worked_forms.proofs.Trees.{Tree, Number, Null, Var, Field, Perm, Binary, Own, Of, checked, shaped, formula_shaped}
use Rattle.worked_forms.proofs.Pieces.{Piece, New, Assign, Call, If, FoldOf, Fold, Unfold, End, Next, statement_checked, statement_shaped}
use Rattle.worked_forms.proofs.Forming.{formed}

-- its expressions, by the byte at which each begins
abbrev node_53 : Tree
node_53 = Binary (at 53 122) op.Star (Binary (at 53 88) op.Star (Perm (at 53 67) (Var (at 58 59) (word 1 58 59)) 1 1 (at 61 66))
    (Perm (at 71 88) (Var (at 76 80) (word 2 76 80)) 1 1 (at 82 87)))
    (Binary (at 93 121) op.Implies (Binary (at 93 105) op.Ne (Var (at 93 97) (word 2 93 97)) (Null (at 101 105)))
    (Of (at 110 121) (Var (at 110 114) (word 2 110 114)) (word 3 115 119)))

abbrev node_135 : Tree
node_135 = Own (at 135 141) (word 3 135 139)

abbrev node_153 : Tree
node_153 = Own (at 153 159) (word 3 153 157)

abbrev node_198 : Tree
node_198 = Var (at 198 199) (word 1 198 199)

abbrev node_202 : Tree
node_202 = Binary (at 202 207) op.Add (Var (at 202 203) (word 1 202 203)) (Number (at 206 207) 1)

abbrev node_217 : Tree
node_217 = Binary (at 217 229) op.Ne (Var (at 217 221) (word 2 217 221)) (Null (at 225 229))

abbrev node_233 : Tree
node_233 = Var (at 233 237) (word 2 233 237)

abbrev node_331 : Tree
node_331 = Var (at 331 332) (word 7 331 332)

abbrev node_370 : Tree
node_370 = Field (at 370 376) (Var (at 370 371) (word 8 370 371)) (word 2 372 376)

abbrev node_379 : Tree
node_379 = Var (at 379 380) (word 7 379 380)

abbrev node_391 : Tree
node_391 = Var (at 391 392) (word 8 391 392)

abbrev node_405 : Tree
node_405 = Var (at 405 406) (word 8 405 406)

-- its statements
abbrev statement_179 : Piece
statement_179 = Unfold (at 179 193) (word 3 186 190)

abbrev statement_198 : Piece
statement_198 = Assign (at 198 208) node_198 (at 202 207) node_202

abbrev statement_213 : Piece
statement_213 = If (at 213 245) node_217 (Next (Call (at 233 243) node_233 (word 4 238 240)) End) End

abbrev statement_250 : Piece
statement_250 = Fold (at 250 262) (word 3 255 259)

abbrev statement_301 : Piece
statement_301 = New (at 301 321) (type_at 301 305 (type.Object (name 0))) (word 7 306 307) (at 310 320) (word 0 314 318)

abbrev statement_326 : Piece
statement_326 = FoldOf (at 326 340) node_331 (word 3 333 337)

abbrev statement_345 : Piece
statement_345 = New (at 345 365) (type_at 345 349 (type.Object (name 0))) (word 8 350 351) (at 354 364) (word 0 358 362)

abbrev statement_370 : Piece
statement_370 = Assign (at 370 381) node_370 (at 379 380) node_379

abbrev statement_386 : Piece
statement_386 = FoldOf (at 386 400) node_391 (word 3 393 397)

abbrev statement_405 : Piece
statement_405 = Call (at 405 412) node_405 (word 4 407 409)

pub list_formed : IsWellFormed list
list_formed =
    formed list
    (rw (
      statement_checked statement_179,
      statement_checked statement_198,
      statement_checked statement_213,
      statement_checked statement_250,
      statement_checked statement_301,
      statement_checked statement_326,
      statement_checked statement_345,
      statement_checked statement_370,
      statement_checked statement_386,
      statement_checked statement_405,
      checked node_53,
      checked node_135,
      checked node_153,
      checked node_198,
      checked node_202,
      checked node_217,
      checked node_233,
      checked node_331,
      checked node_370,
      checked node_379,
      checked node_391,
      checked node_405,
    ) (rw (checked node_233, checked node_331, checked node_391, checked node_405) refl))
    (rw (
      statement_shaped statement_179,
      statement_shaped statement_198,
      statement_shaped statement_213,
      statement_shaped statement_250,
      statement_shaped statement_301,
      statement_shaped statement_326,
      statement_shaped statement_345,
      statement_shaped statement_370,
      statement_shaped statement_386,
      statement_shaped statement_405,
      formula_shaped node_53,
      formula_shaped node_135,
      formula_shaped node_153,
      shaped node_198,
      shaped node_202,
      shaped node_217,
      shaped node_233,
      shaped node_331,
      shaped node_370,
      shaped node_379,
      shaped node_391,
      shaped node_405,
    ) refl)
    (simp (number, null, var, field, perm, binary, own_instance, instance, local, assign, call, branch, folds, unfolds) refl)
    (simp (number, null, var, field, perm, binary, own_instance, instance, local, assign, call, branch, folds, unfolds) refl)
