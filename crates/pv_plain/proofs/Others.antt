-- What has no members and no elements, and is no place; and what is no written number.
use Rattle.std.proofs.Common.{◌≡◌, ℕ, Bool, true, false, Some, None, List, refl, sym, ◌∙◌, ap, subst, map, if◌then◌else◌}
use Rattle.pv_base.specs.declared.Span.{Span}
use Rattle.pv_ast.specs.declared.Word.{Word}
use Rattle.pv_ast.specs.declared.Operator.{Operator}
use Rattle.pv_ast.specs.declared.Operator.TheVariants as op
use Rattle.pv_ast.specs.declared.PvType.{PvType}
use Rattle.pv_ast.specs.declared.PvType.TheVariants as pv
use Rattle.pv_ast.specs.declared.Expr.{Expr, fold_out-Expr}
use Rattle.pv_ast.specs.declared.Each.{Each, fold_out-Each}
use Rattle.pv_ast.specs.declared.ExprKind.{ExprKind, ExprKind-F, map-ExprKind, out-ExprKind, roll-ExprKind, roll-out-ExprKind, fold_out-ExprKind}
use Rattle.pv_ast.specs.declared.ExprKind.TheVariants as tree
use Rattle.pv_ast.specs.declared.standing.Seen.{Seen}
use Rattle.pv_ast.specs.declared.standing.Typing.{Typing}
use Rattle.pv_ast.specs.declared.standing.Typing.TheVariants.{Unsettled, Untyped, Typed}
use Rattle.pv_ast.specs.Rules.Scoping.{Visible}
use Rattle.pv_ast.specs.Rules.Typing.{typed_if, typing_of_element, typing_of_operator, typing_of_equality, both_meet, meets, are_comparable}
use Rattle.pv_ast.specs.declared.standing.Need.TheVariants.{Exactly}
use Rattle.pv_ast.specs.Rules.Expressions.{Environment, CheckedExpression, CheckedKind, Signature, unsought, unknown, taking, args_meet, typing_of_use, predicate_signature, holder_of, seen_of_target, value_seen, checked_expression, checked_kind, checked_each, checked_in_kind, checked_in_each, checked_in_expression}
use Rattle.pv_picks.specs.Elaborating.Expressions.{elaborated_expression, expression_in_kind, written_in_kind, core_of_expression}
use Rattle.core_trees.proofs.Layers.{layer_of, elaborated_rolled, kind_rolled}
use Rattle.pv_plain.specs.Held.{held, holding, IsHeldAs, IsPlaceOf}
use Rattle.pv_plain.proofs.Holding.{is_field, free_at, operation_free, negation_free}

-- a variant by its layer
pub unrolled : (k : ExprKind) (l : ExprKind-F ExprKind Each Expr) → out-ExprKind k ≡ l → k ≡ roll-ExprKind l
unrolled k l i = sym (roll-out-ExprKind k) ∙ ap roll-ExprKind i

not_written : (l : ExprKind-F ExprKind Each Expr) → ((n : ℕ) → l ≡ ExprKind-F.Number n → ⊥) → written_in_kind (layer_of l) ≡ None
not_written (ExprKind-F.Number n) h = absurd (h n refl)
not_written (ExprKind-F.Instance None w es) h = refl
not_written (ExprKind-F.Instance (Some e) w es) h = refl
not_written l h = refl

pub written_none : (e : Expr) → ((n : ℕ) → e.kind ≡ tree.Number n → ⊥) → None ≡ (elaborated_expression e).written
written_none e h =
    sym (ap (λ p. p.written) (elaborated_rolled e) ∙ ap (λ k. k.written) (kind_rolled e.kind)
    ∙ not_written (out-ExprKind e.kind) (λ n i. h n (unrolled e.kind (ExprKind-F.Number n) i ∙ tree.rolls-Number n)))

-- Types without members and elements

typed_if_int : (b : Bool) (type : PvType) → holding type ≡ pv.Int → held (typed_if b type) ≡ pv.Int
typed_if_int true type h = h
typed_if_int false type h = refl

element_int : (s t : Typing) → held (typing_of_element s t) ≡ pv.Int
element_int Unsettled t = refl
element_int Untyped t = refl
element_int (Typed pv.Int) t = refl
element_int (Typed pv.Truth) t = refl
element_int (Typed (pv.Object c)) t = refl
element_int (Typed pv.IntArray) t = typed_if_int (meets (Exactly pv.Int) t) pv.Int refl
element_int (Typed pv.TruthArray) t = typed_if_int (meets (Exactly pv.Int) t) pv.Truth refl
element_int (Typed pv.Null) t = refl

if_int : (b : Bool) → held (if b then Typed pv.Truth else Untyped) ≡ pv.Int
if_int true = refl
if_int false = refl

equality_int : (s t : Typing) → held (typing_of_equality s t) ≡ pv.Int
equality_int (Typed a) (Typed b) = if_int (are_comparable a b)
equality_int (Typed a) Unsettled = refl
equality_int (Typed a) Untyped = refl
equality_int Unsettled t = refl
equality_int Untyped t = refl

operator_int : (o : Operator) (s t : Typing) → held (typing_of_operator o s t) ≡ pv.Int
operator_int op.Add s t = typed_if_int (both_meet (Exactly pv.Int) s t) pv.Int refl
operator_int op.Sub s t = typed_if_int (both_meet (Exactly pv.Int) s t) pv.Int refl
operator_int op.Mul s t = typed_if_int (both_meet (Exactly pv.Int) s t) pv.Int refl
operator_int op.Eq s t = equality_int s t
operator_int op.Ne s t = equality_int s t
operator_int op.Lt s t = typed_if_int (both_meet (Exactly pv.Int) s t) pv.Truth refl
operator_int op.Le s t = typed_if_int (both_meet (Exactly pv.Int) s t) pv.Truth refl
operator_int op.Gt s t = typed_if_int (both_meet (Exactly pv.Int) s t) pv.Truth refl
operator_int op.Ge s t = typed_if_int (both_meet (Exactly pv.Int) s t) pv.Truth refl
operator_int op.And s t = typed_if_int (both_meet (Exactly pv.Truth) s t) pv.Truth refl
operator_int op.Or s t = typed_if_int (both_meet (Exactly pv.Truth) s t) pv.Truth refl
operator_int op.Implies s t = typed_if_int (both_meet (Exactly pv.Truth) s t) pv.Truth refl
operator_int op.Star s t = typed_if_int (both_meet (Exactly pv.Truth) s t) pv.Truth refl

use_int : (args : List CheckedExpression) (s : Signature) (a : Environment) (v : Visible)
    → held (typing_of_use args s a v) ≡ pv.Int
use_int args unsought a v = refl
use_int args unknown a v = refl
use_int args (taking types) a v = typed_if_int (args_meet args types a v) pv.Truth refl

-- an expression is one of five kinds that may be an object, an array or a place
pub record IsOther (l : ExprKind-F ExprKind Each Expr) : Type 0 where
  pub this : l ≡ ExprKind-F.This → ⊥
  pub result : l ≡ ExprKind-F.Result → ⊥
  pub var : (w : Word) → l ≡ ExprKind-F.Var w → ⊥
  pub field : (e : Expr) (w : Word) → l ≡ ExprKind-F.Field e w → ⊥
  pub old : (e : Expr) → l ≡ ExprKind-F.Old e → ⊥

abbrev checked_layer : ExprKind-F ExprKind Each Expr → ExprKind-F CheckedKind CheckedKind CheckedExpression
checked_layer = map-ExprKind ExprKind Each Expr CheckedKind CheckedKind CheckedExpression checked_kind checked_each
    checked_expression

abbrev IsHeldAsInt : CheckedKind → Environment → Visible → Type 0
IsHeldAsInt k a v = IsHeldAs (value_seen Untyped false) (k.seen a v)

each_int : (q : Each) (a : Environment) (v : Visible) → IsHeldAsInt (checked_each q) a v
each_int q a v =
    rw (fold_out-Each CheckedKind CheckedKind CheckedExpression checked_in_kind checked_in_each checked_in_expression q)
    (record { kind = sym (typed_if_int _ pv.Truth refl); this = refl })

layer_int : (l : ExprKind-F ExprKind Each Expr) → IsOther l → (a : Environment) (v : Visible)
    → IsHeldAsInt (checked_in_kind (checked_layer l)) a v
layer_int (ExprKind-F.Number n) h a v = record { kind = refl; this = refl }
layer_int (ExprKind-F.Truth b) h a v = record { kind = refl; this = refl }
layer_int ExprKind-F.Null h a v = record { kind = refl; this = refl }
layer_int ExprKind-F.This h a v = absurd (h.this refl)
layer_int ExprKind-F.Result h a v = absurd (h.result refl)
layer_int (ExprKind-F.Var w) h a v = absurd (h.var w refl)
layer_int (ExprKind-F.Field e w) h a v = absurd (h.field e w refl)
layer_int (ExprKind-F.Index e i) h a v = record { kind = sym (element_int _ _); this = refl }
layer_int (ExprKind-F.Not e) h a v = record { kind = sym (typed_if_int _ pv.Truth refl); this = refl }
layer_int (ExprKind-F.Minus e) h a v = record { kind = sym (typed_if_int _ pv.Int refl); this = refl }
layer_int (ExprKind-F.Binary o x y) h a v = record { kind = sym (operator_int o _ _); this = refl }
layer_int (ExprKind-F.Old e) h a v = absurd (h.old e refl)
layer_int (ExprKind-F.Perm e part whole amount) h a v = record { kind = sym (typed_if_int _ pv.Truth refl); this = refl }
layer_int (ExprKind-F.Token t e) h a v = record { kind = sym (typed_if_int _ pv.Truth refl); this = refl }
layer_int (ExprKind-F.Instance None w es) h a v = record {
  kind = sym (use_int (map checked_expression es) (predicate_signature (holder_of a (seen_of_target a v None)) w.name) a v);
  this = refl;
}
layer_int (ExprKind-F.Instance (Some e) w es) h a v = record {
  kind = sym (use_int (map checked_expression es)
      (predicate_signature (holder_of a (seen_of_target a v (Some (checked_expression e)))) w.name) a v);
  this = refl;
}
layer_int (ExprKind-F.Each q) h a v = each_int q a v

layer_free : (l : ExprKind-F ExprKind Each Expr) → IsOther l → (span : Span) (a : Environment) (v : Visible)
    → is_field (expression_in_kind (layer_of l) span a v) ≡ false
layer_free (ExprKind-F.Var w) h span a v = absurd (h.var w refl)
layer_free (ExprKind-F.Field e w) h span a v = absurd (h.field e w refl)
layer_free (ExprKind-F.Minus e) h span a v = negation_free _ span _
layer_free (ExprKind-F.Binary o x y) h span a v = operation_free o span _ _
layer_free (ExprKind-F.Instance None w es) h span a v = refl
layer_free (ExprKind-F.Instance (Some e) w es) h span a v = refl
layer_free l h span a v = refl

pub other_held : (e : Expr) → IsOther (out-ExprKind e.kind) → (a : Environment) (v : Visible)
    → IsHeldAs (value_seen Untyped false) ((checked_expression e).seen a v)
other_held e h a v =
    subst (λ (s : Seen). IsHeldAs (value_seen Untyped false) s)
    (sym (ap (λ (p : CheckedExpression). p.seen a v)
    (fold_out-Expr CheckedKind CheckedKind CheckedExpression checked_in_kind checked_in_each checked_in_expression e)
    ∙ ap (λ (k : CheckedKind). k.seen a v)
    (fold_out-ExprKind CheckedKind CheckedKind CheckedExpression checked_in_kind checked_in_each checked_in_expression e.kind)))
    (layer_int (out-ExprKind e.kind) h a v)

pub other_place : (e : Expr) → IsOther (out-ExprKind e.kind) → (s t : Typing) (a : Environment) (v : Visible)
    → IsPlaceOf s t (core_of_expression a v e)
other_place e h s t a v =
    free_at s t (core_of_expression a v e) (expression_in_kind (layer_of (out-ExprKind e.kind)) e.span a v)
    (ap (λ p. p.expression a v) (elaborated_rolled e) ∙ ap (λ k. k.expression e.span a v) (kind_rolled e.kind))
    (layer_free (out-ExprKind e.kind) h e.span a v)

-- by what a match left over
pub is_other : (k : ExprKind) → (k ≡ tree.This → ⊥) → (k ≡ tree.Result → ⊥) → ((w : Word) → k ≡ tree.Var w → ⊥)
    → ((e : Expr) (w : Word) → k ≡ tree.Field e w → ⊥) → ((e : Expr) → k ≡ tree.Old e → ⊥) → IsOther (out-ExprKind k)
is_other k this result var field old = record {
  this = λ i. this (unrolled k ExprKind-F.This i ∙ tree.rolls-This);
  result = λ i. result (unrolled k ExprKind-F.Result i ∙ tree.rolls-Result);
  var = λ w i. var w (unrolled k (ExprKind-F.Var w) i ∙ tree.rolls-Var w);
  field = λ e w i. field e w (unrolled k (ExprKind-F.Field e w) i ∙ tree.rolls-Field e w);
  old = λ e i. old e (unrolled k (ExprKind-F.Old e) i ∙ tree.rolls-Old e);
}
