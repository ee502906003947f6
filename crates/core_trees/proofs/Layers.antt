-- Pieces by their layers: what is read off pieces is what a fold of its own gives; so they hold what the static rules and the
-- shapes say of an expression.
use Rattle.std.proofs.Common.{◌≡◌, Some, None, List, [], ◌∷◌, refl, sym, ◌∙◌, ap, map}
use Rattle.pv_ast.specs.declared.Expr.{Expr, Expr-F, fold-Expr, fold-roll-Expr, fold_out-Expr, map-Expr, roll-Expr}
use Rattle.pv_ast.specs.declared.ExprKind.{ExprKind, ExprKind-F, fold-ExprKind, fold-roll-ExprKind, fold_out-ExprKind, map-ExprKind, out-ExprKind, roll-ExprKind}
use Rattle.pv_ast.specs.declared.Each.{Each, Each-F, fold-Each, fold-roll-Each, map-Each, roll-Each}
use Rattle.pv_base.specs.declared.Span.{Span}
use Rattle.pv_ast.specs.Rules.Expressions.{CheckedExpression, CheckedKind, checked_expression, checked_in_kind, checked_in_each, checked_in_expression}
use Rattle.pv_ast.specs.Rules.Items.{Shape, KindShape, EachShape, shape_of, shape_in_kind, shape_in_each, shape_in_expr}
use Rattle.pv_picks.specs.Elaborating.Expressions.{ElaboratedExpression, ElaboratedKind, ElaboratedEach, Layer, elaborated_in_kind, elaborated_in_each, elaborated_in_expression, elaborated_expression, elaborated_kind, elaborated_each}
use Rattle.core_trees.proofs.Induction as induction
use Rattle.core_trees.proofs.Induction.{expr_induction, fold_induction}

-- one layer of an expression, with the pieces below it
abbrev pub layer_of : ExprKind-F ExprKind Each Expr → Layer
layer_of = map-ExprKind ExprKind Each Expr ElaboratedKind ElaboratedEach ElaboratedExpression elaborated_kind elaborated_each
    elaborated_expression

abbrev pub each_layer_of : Each-F ExprKind Each Expr → Each-F ElaboratedKind ElaboratedEach ElaboratedExpression
each_layer_of = map-Each ExprKind Each Expr ElaboratedKind ElaboratedEach ElaboratedExpression elaborated_kind elaborated_each
    elaborated_expression

pub elaborated_rolled : (e : Expr) → elaborated_expression e
    ≡ elaborated_in_expression (record { span = e.span; kind = elaborated_kind e.kind })
unfolding elaborated_expression elaborated_kind
elaborated_rolled e = fold_out-Expr ElaboratedKind ElaboratedEach ElaboratedExpression elaborated_in_kind elaborated_in_each
    elaborated_in_expression e

pub kind_rolled : (k : ExprKind) → elaborated_kind k ≡ elaborated_in_kind (layer_of (out-ExprKind k))
unfolding elaborated_expression elaborated_kind elaborated_each
kind_rolled k = fold_out-ExprKind ElaboratedKind ElaboratedEach ElaboratedExpression elaborated_in_kind elaborated_in_each
    elaborated_in_expression k

pub kind_at_roll : (l : ExprKind-F ExprKind Each Expr) → elaborated_kind (roll-ExprKind l) ≡ elaborated_in_kind (layer_of l)
unfolding elaborated_expression elaborated_kind elaborated_each
kind_at_roll l = fold-roll-ExprKind ElaboratedKind ElaboratedEach ElaboratedExpression elaborated_in_kind elaborated_in_each
    elaborated_in_expression l

pub each_at_roll : (l : Each-F ExprKind Each Expr) → elaborated_each (roll-Each l) ≡ elaborated_in_each (each_layer_of l)
unfolding elaborated_expression elaborated_kind elaborated_each
each_at_roll l = fold-roll-Each ElaboratedKind ElaboratedEach ElaboratedExpression elaborated_in_kind elaborated_in_each
    elaborated_in_expression l

pub expr_at_roll : (l : Expr-F ExprKind Each Expr) → elaborated_expression (roll-Expr l)
    ≡ elaborated_in_expression (map-Expr ExprKind Each Expr ElaboratedKind ElaboratedEach ElaboratedExpression elaborated_kind
    elaborated_each elaborated_expression l)
unfolding elaborated_expression elaborated_kind elaborated_each
expr_at_roll l = fold-roll-Expr ElaboratedKind ElaboratedEach ElaboratedExpression elaborated_in_kind elaborated_in_each
    elaborated_in_expression l

-- The induction over pieces, by a law of the pieces of kinds, of quantifiers and of expressions.
module _ (KindLaw : ElaboratedKind → Type 0) (EachLaw : ElaboratedEach → Type 0) (ElaboratedLaw : ElaboratedExpression → Type 0)
  where
    abbrev KindsWith : Type 0
    KindsWith = (k : ExprKind) × KindLaw (elaborated_kind k)

    abbrev EachesWith : Type 0
    EachesWith = (q : Each) × EachLaw (elaborated_each q)

    abbrev ExprsWith : Type 0
    ExprsWith = (e : Expr) × ElaboratedLaw (elaborated_expression e)

    -- the piece of a layer has the law if those of its parts have it
    abbrev pub LayerStep : Type 0
    LayerStep = (y : ExprKind-F KindsWith EachesWith ExprsWith)
        → KindLaw (elaborated_in_kind (layer_of
        (map-ExprKind KindsWith EachesWith ExprsWith ExprKind Each Expr (λ e. e.0) (λ e. e.0) (λ e. e.0) y)))

    abbrev pub EachStep : Type 0
    EachStep = (y : Each-F KindsWith EachesWith ExprsWith)
        → EachLaw (elaborated_in_each (each_layer_of
        (map-Each KindsWith EachesWith ExprsWith ExprKind Each Expr (λ e. e.0) (λ e. e.0) (λ e. e.0) y)))

    abbrev pub ExprStep : Type 0
    ExprStep = (span : Span) (k : ElaboratedKind) → KindLaw k
        → ElaboratedLaw (elaborated_in_expression (record { span = span; kind = k }))

    -- the piece of each expression has the law
    pub piece_induction : LayerStep → EachStep → ExprStep → (e : Expr) → ElaboratedLaw (elaborated_expression e)
    unfolding elaborated_expression elaborated_kind elaborated_each
    piece_induction =
        fold_induction ElaboratedKind ElaboratedEach ElaboratedExpression elaborated_in_kind elaborated_in_each
        elaborated_in_expression KindLaw EachLaw ElaboratedLaw

-- The induction over what the static rules say, by a law of it of kinds and of expressions.
module _ (KindLaw : CheckedKind → Type 0) (CheckedLaw : CheckedExpression → Type 0) where
  abbrev pub PartLayerStep : Type 0
  PartLayerStep = induction.LayerStep CheckedKind CheckedKind CheckedExpression checked_in_kind checked_in_each
      checked_in_expression KindLaw KindLaw CheckedLaw

  abbrev pub PartEachStep : Type 0
  PartEachStep = induction.EachStep CheckedKind CheckedKind CheckedExpression checked_in_kind checked_in_each
      checked_in_expression KindLaw KindLaw CheckedLaw

  abbrev pub PartExprStep : Type 0
  PartExprStep = induction.ExprStep CheckedKind CheckedKind CheckedExpression checked_in_kind checked_in_each
      checked_in_expression KindLaw KindLaw CheckedLaw

  pub part_induction : PartLayerStep → PartEachStep → PartExprStep → (e : Expr) → CheckedLaw (checked_expression e)
  part_induction = fold_induction CheckedKind CheckedKind CheckedExpression checked_in_kind checked_in_each checked_in_expression
      KindLaw KindLaw CheckedLaw

-- What is read off pieces, by steps that are those of a fold.
module _ (K Q P : Type 0) (in_kind : ExprKind-F K Q P → K) (in_each : Each-F K Q P → Q) (in_expr : Expr-F K Q P → P)
    (kind : ElaboratedKind → K) (each : ElaboratedEach → Q) (expr : ElaboratedExpression → P) where
  abbrev folded_kind : ExprKind → K
  folded_kind = fold-ExprKind K Q P in_kind in_each in_expr

  abbrev folded_each : Each → Q
  folded_each = fold-Each K Q P in_kind in_each in_expr

  abbrev folded : Expr → P
  folded = fold-Expr K Q P in_kind in_each in_expr

  abbrev Kinds : Type 0
  Kinds = (k : ExprKind) × (kind (elaborated_kind k) ≡ folded_kind k)

  abbrev Eaches : Type 0
  Eaches = (q : Each) × (each (elaborated_each q) ≡ folded_each q)

  abbrev Exprs : Type 0
  Exprs = (e : Expr) × (expr (elaborated_expression e) ≡ folded e)

  abbrev read : Layer → ExprKind-F K Q P
  read = map-ExprKind ElaboratedKind ElaboratedEach ElaboratedExpression K Q P kind each expr

  abbrev without : ExprKind-F Kinds Eaches Exprs → ExprKind-F ExprKind Each Expr
  without = map-ExprKind Kinds Eaches Exprs ExprKind Each Expr (λ e. e.0) (λ e. e.0) (λ e. e.0)

  abbrev folded_layer : ExprKind-F ExprKind Each Expr → ExprKind-F K Q P
  folded_layer = map-ExprKind ExprKind Each Expr K Q P folded_kind folded_each folded

  same_list : (es : List Exprs) → map expr (map elaborated_expression (map (λ e. e.0) es)) ≡ map folded (map (λ e. e.0) es)
  same_list [] = refl
  same_list (e ∷ es) = ap (λ p. p ∷ map expr (map elaborated_expression (map (λ e. e.0) es))) e.1
      ∙ ap (λ ps. folded e.0 ∷ ps) (same_list es)

  same_layer : (y : ExprKind-F Kinds Eaches Exprs) → read (layer_of (without y)) ≡ folded_layer (without y)
  same_layer (ExprKind-F.Number n) = refl
  same_layer (ExprKind-F.Truth b) = refl
  same_layer ExprKind-F.Null = refl
  same_layer ExprKind-F.This = refl
  same_layer ExprKind-F.Result = refl
  same_layer (ExprKind-F.Var w) = refl
  same_layer (ExprKind-F.Field e w) = ap (λ p. ExprKind-F.Field p w) e.1
  same_layer (ExprKind-F.Index e i) =
      ap (λ p. ExprKind-F.Index p (expr (elaborated_expression i.0))) e.1 ∙ ap (λ p. ExprKind-F.Index (folded e.0) p) i.1
  same_layer (ExprKind-F.Not e) = ap (λ p. ExprKind-F.Not p) e.1
  same_layer (ExprKind-F.Minus e) = ap (λ p. ExprKind-F.Minus p) e.1
  same_layer (ExprKind-F.Binary o x y) =
      ap (λ p. ExprKind-F.Binary o p (expr (elaborated_expression y.0))) x.1 ∙ ap (λ p. ExprKind-F.Binary o (folded x.0) p) y.1
  same_layer (ExprKind-F.Old e) = ap (λ p. ExprKind-F.Old p) e.1
  same_layer (ExprKind-F.Perm e checked whole amount) = ap (λ p. ExprKind-F.Perm p checked whole amount) e.1
  same_layer (ExprKind-F.Token t e) = ap (λ p. ExprKind-F.Token t p) e.1
  same_layer (ExprKind-F.Instance None w es) = ap (λ ps. ExprKind-F.Instance None w ps) (same_list es)
  same_layer (ExprKind-F.Instance (Some e) w es) =
      ap (λ p. ExprKind-F.Instance (Some p) w (map expr (map elaborated_expression (map (λ e. e.0) es)))) e.1
      ∙ ap (λ ps. ExprKind-F.Instance (Some (folded e.0)) w ps) (same_list es)
  same_layer (ExprKind-F.Each e) = ap (λ p. ExprKind-F.Each p) e.1

  abbrev read_each : Each-F ElaboratedKind ElaboratedEach ElaboratedExpression → Each-F K Q P
  read_each = map-Each ElaboratedKind ElaboratedEach ElaboratedExpression K Q P kind each expr

  abbrev without_each : Each-F Kinds Eaches Exprs → Each-F ExprKind Each Expr
  without_each = map-Each Kinds Eaches Exprs ExprKind Each Expr (λ e. e.0) (λ e. e.0) (λ e. e.0)

  same_each : (y : Each-F Kinds Eaches Exprs) → read_each (each_layer_of (without_each y))
      ≡ map-Each ExprKind Each Expr K Q P folded_kind folded_each folded (without_each y)
  same_each y =
      ap (λ p. with_parts p (expr (elaborated_expression y.high.0)) (expr (elaborated_expression y.body.0))) y.low.1
      ∙ ap (λ p. with_parts (folded y.low.0) p (expr (elaborated_expression y.body.0))) y.high.1
      ∙ ap (λ p. with_parts (folded y.low.0) (folded y.high.0) p) y.body.1
    where
      with_parts : P → P → P → Each-F K Q P
      with_parts low high body =
          record { star = y.star; name = y.name; low = low; high = high; body = body; written = y.written }

  module _ (at_kind : (l : Layer) → kind (elaborated_in_kind l) ≡ in_kind (read l))
      (at_each : (l : Each-F ElaboratedKind ElaboratedEach ElaboratedExpression) → each (elaborated_in_each l)
      ≡ in_each (read_each l))
      (at_expr : (l : Expr-F ElaboratedKind ElaboratedEach ElaboratedExpression) → expr (elaborated_in_expression l)
      ≡ in_expr (map-Expr ElaboratedKind ElaboratedEach ElaboratedExpression K Q P kind each expr l)) where
    pub read_off : (e : Expr) → expr (elaborated_expression e) ≡ folded e
    read_off =
        expr_induction (λ k. kind (elaborated_kind k) ≡ folded_kind k) (λ q. each (elaborated_each q) ≡ folded_each q)
        (λ e. expr (elaborated_expression e) ≡ folded e)
        (λ y. ap kind (kind_at_roll _) ∙ at_kind _ ∙ ap in_kind (same_layer y)
        ∙ sym (fold-roll-ExprKind K Q P in_kind in_each in_expr _))
        (λ y. ap each (each_at_roll _) ∙ at_each _ ∙ ap in_each (same_each y)
        ∙ sym (fold-roll-Each K Q P in_kind in_each in_expr _))
        (λ y. ap expr (expr_at_roll _) ∙ at_expr _ ∙ ap in_expr (ap (λ k. record { span = y.span; kind = k }) y.kind.1)
        ∙ sym (fold-roll-Expr K Q P in_kind in_each in_expr _))

-- A piece has what the static rules say of its expression, and what the shapes say.

pub checked_in_elaborated : (e : Expr) → (elaborated_expression e).checked ≡ checked_expression e
checked_in_elaborated =
    read_off CheckedKind CheckedKind CheckedExpression checked_in_kind checked_in_each checked_in_expression (λ k. k.checked)
    (λ q. q.checked) (λ p. p.checked) (λ l. refl)
    (λ l. refl) (λ l. refl)

pub shape_in_elaborated : (e : Expr) → (elaborated_expression e).shape ≡ shape_of e
shape_in_elaborated =
    read_off KindShape EachShape Shape shape_in_kind shape_in_each shape_in_expr (λ k. k.shape) (λ q. q.shape) (λ p. p.shape)
    (λ l. refl) (λ l. refl) (λ l. refl)
