-- What an expression shows, by what its parts show.
use Rattle.std.proofs.Common.{◌≡◌, ℕ, Bool, false, Option, Some, None, is_some, List, refl, sym, ◌∙◌, ap, map, option_map}
use Rattle.pv_base.specs.declared.Span.{Span}
use Rattle.pv_ast.specs.declared.Word.{Word}
use Rattle.pv_ast.specs.declared.Operator.{Operator}
use Rattle.pv_ast.specs.declared.Token.{Token}
use Rattle.pv_ast.specs.declared.Expr.{Expr, fold_out-Expr}
use Rattle.pv_ast.specs.declared.ExprKind.{ExprKind, ExprKind-F, fold-roll-ExprKind, fold_out-ExprKind, map-ExprKind, out-ExprKind, roll-ExprKind, roll-out-ExprKind}
use Rattle.pv_ast.specs.declared.ExprKind.TheVariants as kind
use Rattle.pv_ast.specs.declared.Each.{Each, Each-F, fold_out-Each, map-Each, out-Each}
use Rattle.pv_ast.specs.declared.fault.ShapeFault.{ShapeFault}
use Rattle.pv_ast.specs.Rules.Shapes.{first_of, earlier, faults_of_formula}
use Rattle.pv_shapes.proofs.Order.{first_append}
use Rattle.pv_ast.specs.Rules.Items.{keeps_left, keeps_right, faults_where, Whole, joins, parts_in_kind, part_fault, fault_unless, is_part, fault_at, KindShape, EachShape, Shape, shape_in_kind, shape_in_each, shape_in_expr, shape_of, shape_of_kind, shape_of_each}

pub at_index : (a b : Expr) → shape_of_kind (kind.Index a b) ≡ shape_in_kind (ExprKind-F.Index (shape_of a) (shape_of b))
at_index a b =
    ap shape_of_kind (sym (kind.rolls-Index a b))
    ∙ fold-roll-ExprKind KindShape EachShape Shape shape_in_kind shape_in_each shape_in_expr (ExprKind-F.Index a b)

pub at_binary : (o : Operator) (a b : Expr)
    → shape_of_kind (kind.Binary o a b) ≡ shape_in_kind (ExprKind-F.Binary o (shape_of a) (shape_of b))
at_binary o a b =
    ap shape_of_kind (sym (kind.rolls-Binary o a b))
    ∙ fold-roll-ExprKind KindShape EachShape Shape shape_in_kind shape_in_each shape_in_expr (ExprKind-F.Binary o a b)

pub at_perm : (place : Expr) (parts whole : ℕ) (span : Span)
    → shape_of_kind (kind.Perm place parts whole span) ≡ shape_in_kind (ExprKind-F.Perm (shape_of place) parts whole span)
at_perm place parts whole span =
    ap shape_of_kind (sym (kind.rolls-Perm place parts whole span))
    ∙ fold-roll-ExprKind KindShape EachShape Shape shape_in_kind shape_in_each shape_in_expr
    (ExprKind-F.Perm place parts whole span)

pub at_token : (t : Token) (a : Expr) → shape_of_kind (kind.Token t a) ≡ shape_in_kind (ExprKind-F.Token t (shape_of a))
at_token t a =
    ap shape_of_kind (sym (kind.rolls-Token t a))
    ∙ fold-roll-ExprKind KindShape EachShape Shape shape_in_kind shape_in_each shape_in_expr (ExprKind-F.Token t a)

pub at_instance : (t : Option Expr) (w : Word) (args : List Expr)
    → shape_of_kind (kind.Instance t w args) ≡ shape_in_kind (ExprKind-F.Instance (option_map shape_of t) w (map shape_of args))
at_instance None w args =
    ap shape_of_kind (sym (kind.rolls-Instance None w args))
    ∙ fold-roll-ExprKind KindShape EachShape Shape shape_in_kind shape_in_each shape_in_expr (ExprKind-F.Instance None w args)
at_instance (Some t) w args =
    ap shape_of_kind (sym (kind.rolls-Instance (Some t) w args))
    ∙ fold-roll-ExprKind KindShape EachShape Shape shape_in_kind shape_in_each shape_in_expr (ExprKind-F.Instance (Some t) w args)

pub at_expr : (e : Expr) → shape_of e ≡ shape_in_expr (record { span = e.span; kind = shape_of_kind e.kind })
at_expr e = fold_out-Expr KindShape EachShape Shape shape_in_kind shape_in_each shape_in_expr e

pub at_quantifier : (e : Each) → shape_of_kind (kind.Each e) ≡ shape_in_kind (ExprKind-F.Each (shape_of_each e))
at_quantifier e =
    ap shape_of_kind (sym (kind.rolls-Each e)) ∙ fold-roll-ExprKind KindShape EachShape Shape shape_in_kind shape_in_each
    shape_in_expr (ExprKind-F.Each e)

-- one layer of a quantifier, with what its parts show
abbrev pub each_layer : Each → Each-F KindShape EachShape Shape
each_layer = λ e. map-Each ExprKind Each Expr KindShape EachShape Shape shape_of_kind shape_of_each shape_of (out-Each e)

pub at_each : (e : Each) → shape_of_each e ≡ shape_in_each (each_layer e)
at_each e = fold_out-Each KindShape EachShape Shape shape_in_kind shape_in_each shape_in_expr e

-- what an expression shows, by its kind
pub kind_shown : (e : Expr) (k : ExprKind) → e.kind ≡ k
    → shape_of e ≡ shape_in_expr (record { span = e.span; kind = shape_of_kind k })
kind_shown e k h = at_expr e ∙ ap (λ k. shape_in_expr (record { span = e.span; kind = shape_of_kind k })) h

pub binary_shown : (e : Expr) (o : Operator) (a b : Expr) → e.kind ≡ kind.Binary o a b
    → shape_of e ≡ shape_in_expr (record { span = e.span; kind = shape_in_kind (ExprKind-F.Binary o (shape_of a) (shape_of b)) })
binary_shown e o a b h =
    kind_shown e (kind.Binary o a b) h ∙ ap (λ k. shape_in_expr (record { span = e.span; kind = k })) (at_binary o a b)

-- one layer of a kind of expression, with what its parts show
abbrev pub kind_layer : ExprKind-F ExprKind Each Expr → ExprKind-F KindShape EachShape Shape
kind_layer = map-ExprKind ExprKind Each Expr KindShape EachShape Shape shape_of_kind shape_of_each shape_of

pub at_kind : (k : ExprKind) → shape_of_kind k ≡ shape_in_kind (kind_layer (out-ExprKind k))
at_kind k = fold_out-ExprKind KindShape EachShape Shape shape_in_kind shape_in_each shape_in_expr k

alone_layer : (k : ExprKind-F ExprKind Each Expr) → ((o : Operator) (a b : Expr) → k ≡ ExprKind-F.Binary o a b → ⊥)
    → (span : Span) (whole : Whole) (name : ℕ)
    → parts_in_kind (kind_layer k) span whole name ≡ part_fault (kind_layer k) span whole name
alone_layer (ExprKind-F.Number n) h span whole name = refl
alone_layer (ExprKind-F.Truth b) h span whole name = refl
alone_layer ExprKind-F.Null h span whole name = refl
alone_layer ExprKind-F.This h span whole name = refl
alone_layer ExprKind-F.Result h span whole name = refl
alone_layer (ExprKind-F.Var w) h span whole name = refl
alone_layer (ExprKind-F.Field e w) h span whole name = refl
alone_layer (ExprKind-F.Index a i) h span whole name = refl
alone_layer (ExprKind-F.Not e) h span whole name = refl
alone_layer (ExprKind-F.Minus e) h span whole name = refl
alone_layer (ExprKind-F.Binary o a b) h span whole name = absurd (h o a b refl)
alone_layer (ExprKind-F.Old e) h span whole name = refl
alone_layer (ExprKind-F.Perm e a b s) h span whole name = refl
alone_layer (ExprKind-F.Token t e) h span whole name = refl
alone_layer (ExprKind-F.Instance o w args) h span whole name = refl
alone_layer (ExprKind-F.Each e) h span whole name = refl

-- what is wrong with a part, by what it shows
abbrev pub fault_of_shown : Whole → Span → Shape → ℕ → List ShapeFault
fault_of_shown whole span s name = fault_unless (is_part whole (is_some (s.item name)) (s.facts name).truth) (fault_at whole span)

alone_kind : (k : ExprKind) → ((o : Operator) (a b : Expr) → k ≡ kind.Binary o a b → ⊥) → (span : Span) (whole : Whole) (name : ℕ)
    → (shape_of_kind k).parts span whole name ≡ fault_unless
    (is_part whole (is_some ((shape_of_kind k).item name)) ((shape_of_kind k).facts name).truth) (fault_at whole span)
alone_kind k h span whole name =
    let out : (o : Operator) (a b : Expr) → out-ExprKind k ≡ ExprKind-F.Binary o a b → ⊥ =
    λ o a b i. h o a b (sym (roll-out-ExprKind k) ∙ ap roll-ExprKind i ∙ kind.rolls-Binary o a b) in
    rw (at_kind k) (alone_layer (out-ExprKind k) out span whole name)

pub alone : (e : Expr) → ((o : Operator) (a b : Expr) → e.kind ≡ kind.Binary o a b → ⊥) → (whole : Whole) (name : ℕ)
    → (shape_of e).parts whole name ≡ fault_of_shown whole e.span (shape_of e) name
alone e h whole name = rw (at_expr e) (alone_kind e.kind h e.span whole name)

pub alone_binary : (e : Expr) (o : Operator) (a b : Expr) → e.kind ≡ kind.Binary o a b → (whole : Whole) (name : ℕ)
    → joins whole o ≡ false → (shape_of e).parts whole name ≡ fault_of_shown whole e.span (shape_of e) name
alone_binary e o a b h whole name j = rw (binary_shown e o a b h, j) refl

pub part_shown : (whole : Whole) (span : Span) (s : Shape) (name : ℕ) (item truth : Bool) → item ≡ is_some (s.item name)
    → truth ≡ (s.facts name).truth
    → first_of (fault_unless (is_part whole item truth) (fault_at whole span)) ≡ first_of (fault_of_shown whole span s name)
part_shown whole span s name item truth i t =
    ap (λ b. first_of (fault_unless (is_part whole b truth) (fault_at whole span))) i
    ∙ ap (λ b. first_of (fault_unless (is_part whole (is_some (s.item name)) b) (fault_at whole span))) t

pub operator_shown : (e : Expr) (o : Operator) (a b : Expr) → e.kind ≡ kind.Binary o a b
    → first_of (faults_of_formula e) ≡ earlier (first_of (faults_where (keeps_left o) (shape_of a)))
    (first_of (faults_where (keeps_right o) (shape_of b)))
operator_shown e o a b h =
    ap (λ s. first_of s.faults) (binary_shown e o a b h)
    ∙ first_append (faults_where (keeps_left o) (shape_of a)) (faults_where (keeps_right o) (shape_of b))
