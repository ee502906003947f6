-- What may be assigned becomes a place or a variable.
use Rattle.std.proofs.Common.{◌≡◌, Bool, true, false, ◌||◌, Option, Some, None, List, [], refl, sym, ◌∙◌, ap, subst}
use Rattle.pv_base.specs.declared.Name.{Name}
use Rattle.pv_base.specs.declared.Span.{Span}
use Rattle.pv_ast.specs.declared.Expr.{Expr}
use Rattle.pv_ast.specs.declared.ExprKind.{ExprKind, ExprKind-F, out-ExprKind, roll-ExprKind, roll-out-ExprKind}
use Rattle.pv_ast.specs.declared.ExprKind.TheVariants as kind
use Rattle.pv_ast.specs.declared.Each.{Each}
use Rattle.pv_ast.specs.declared.scope.Declared.{Declared}
use Rattle.pv_ast.specs.declared.standing.Need.TheVariants.{Anything}
use Rattle.pv_ast.specs.Rules.Scoping.{Visible, variable_named, is_inner_local}
use Rattle.pv_ast.specs.Rules.Expressions.{Environment, CheckedExpression, checked_expression}
use Rattle.pv_ast.specs.Rules.Statements.{is_assignable, is_inner_local_kind, faults_of_expression, in_statement}
use Rattle.pv_ast.specs.Rules.Shapes.{quantifiers_in}
use Rattle.pv_picks.specs.Plain.Core.{Expression, Target, Right}
use Rattle.pv_picks.specs.Plain.Core as core
use Rattle.pv_picks.specs.Elaborating.Operations.{target_of}
use Rattle.pv_picks.specs.Elaborating.Names.{named}
use Rattle.pv_picks.specs.Elaborating.Expressions.{ElaboratedExpression, ElaboratedKind, elaborated_expression, elaborated_in_kind, core_of_expression}
use Rattle.pv_picks.specs.Elaborating.Statements.{core_of_target}
use Rattle.core_trees.proofs.Clean.{Clean}
use Rattle.core_trees.proofs.Layers.{layer_of, elaborated_rolled, kind_rolled, checked_in_elaborated}
use Rattle.pv_picks.specs.Typing.Expressions.{Home, silent}
use Rattle.core_trees.specs.Assigned.{TargetIs, IsOwn}
use Rattle.core_trees.specs.Formulas.{IsKept}
use Rattle.core_typing.proofs.Locals.{AreOwn}
use Rattle.core_typing.proofs.Places.{Place, statement_strict}
use Rattle.core_typing.proofs.Expressions.{IsPlace}
use Rattle.core_typing.proofs.Uses.{fits}

place_kept : (e : Expression) (right : Right) → IsPlace e → IsKept (target_of e) right
place_kept (core.Constant v) right place = absurd place
place_kept core.This right place = absurd place
place_kept core.Result right place = absurd place
place_kept (core.Variable name') right place = absurd place
place_kept (core.Field e class field at) right place = tt
place_kept (core.Element type' e i at) right place = tt
place_kept (core.Length type' e at) right place = absurd place
place_kept (core.Not e) right place = absurd place
place_kept (core.Compute m o x y at) right place = absurd place
place_kept (core.Compare c x y) right place = absurd place
place_kept (core.Equal same x y) right place = absurd place
place_kept (core.And x y) right place = absurd place
place_kept (core.Or x y) right place = absurd place
place_kept (core.Implies x y) right place = absurd place
place_kept (core.Old e) right place = absurd place

-- a target that keeps a value, and is no variable at the head of the body
abbrev IsOwnTarget : List core.Parameter → Target → Right → Type 0
IsOwnTarget head target right = IsKept target right × TargetIs (IsOwn head) target

place_own : (e : Expression) (head : List core.Parameter) → IsPlace e → TargetIs (IsOwn head) (target_of e)
place_own (core.Constant v) head place = tt
place_own core.This head place = tt
place_own core.Result head place = tt
place_own (core.Variable name) head place = absurd place
place_own (core.Field e class field at) head place = tt
place_own (core.Element type e i at) head place = tt
place_own (core.Length type e at) head place = tt
place_own (core.Not e) head place = tt
place_own (core.Compute m o x y at) head place = tt
place_own (core.Compare c x y) head place = tt
place_own (core.Equal same x y) head place = tt
place_own (core.And x y) head place = tt
place_own (core.Or x y) head place = tt
place_own (core.Implies x y) head place = tt
place_own (core.Old e) head place = tt

named_kept : (a : Environment) (span : Span) (name : Name) (o : Option Declared) (head : List core.Parameter) (right : Right)
    → IsOwn head name
    → IsOwnTarget head (target_of (named a span name o)) right
named_kept a span name None head right own = (tt, tt)
named_kept a span name (Some d) head right own = (tt, own)

-- a kind that is the name of a local
abbrev is_local : Visible → ExprKind-F ExprKind Each Expr → Bool
is_local v (ExprKind-F.Var w) = is_inner_local v w.name
is_local v _ = false

as_rolled : (v : Visible) (l : ExprKind-F ExprKind Each Expr) → is_inner_local_kind v (roll-ExprKind l) ≡ is_local v l
as_rolled v (ExprKind-F.Number n) = ap (is_inner_local_kind v) (kind.rolls-Number n)
as_rolled v (ExprKind-F.Truth b) = ap (is_inner_local_kind v) (kind.rolls-Truth b)
as_rolled v ExprKind-F.Null = ap (is_inner_local_kind v) kind.rolls-Null
as_rolled v ExprKind-F.This = ap (is_inner_local_kind v) kind.rolls-This
as_rolled v ExprKind-F.Result = ap (is_inner_local_kind v) kind.rolls-Result
as_rolled v (ExprKind-F.Var w) = ap (is_inner_local_kind v) (kind.rolls-Var w)
as_rolled v (ExprKind-F.Field e w) = ap (is_inner_local_kind v) (kind.rolls-Field e w)
as_rolled v (ExprKind-F.Index e i) = ap (is_inner_local_kind v) (kind.rolls-Index e i)
as_rolled v (ExprKind-F.Not e) = ap (is_inner_local_kind v) (kind.rolls-Not e)
as_rolled v (ExprKind-F.Minus e) = ap (is_inner_local_kind v) (kind.rolls-Minus e)
as_rolled v (ExprKind-F.Binary o x y) = ap (is_inner_local_kind v) (kind.rolls-Binary o x y)
as_rolled v (ExprKind-F.Old e) = ap (is_inner_local_kind v) (kind.rolls-Old e)
as_rolled v (ExprKind-F.Perm e checked whole amount) = ap (is_inner_local_kind v) (kind.rolls-Perm e checked whole amount)
as_rolled v (ExprKind-F.Token t e) = ap (is_inner_local_kind v) (kind.rolls-Token t e)
as_rolled v (ExprKind-F.Instance target w args) = ap (is_inner_local_kind v) (kind.rolls-Instance target w args)
as_rolled v (ExprKind-F.Each q) = ap (is_inner_local_kind v) (kind.rolls-Each q)

as_layer : (v : Visible) (k : ExprKind) → is_inner_local_kind v k ≡ is_local v (out-ExprKind k)
as_layer v k = ap (is_inner_local_kind v) (sym (roll-out-ExprKind k)) ∙ as_rolled v (out-ExprKind k)

local_kept : (l : ExprKind-F ExprKind Each Expr) (a : Environment) (v : Visible) (span : Span) (head : List core.Parameter)
    (right : Right) → AreOwn v head
    → is_local v l ≡ true → IsOwnTarget head (target_of ((elaborated_in_kind (layer_of l)).expression span a v)) right
local_kept (ExprKind-F.Var w) a v span head right own k = named_kept a span w.name (variable_named v w.name) head right
    (own w.name k)
local_kept (ExprKind-F.Number n) a v span head right own k = absurd cc
local_kept (ExprKind-F.Truth b) a v span head right own k = absurd cc
local_kept ExprKind-F.Null a v span head right own k = absurd cc
local_kept ExprKind-F.This a v span head right own k = absurd cc
local_kept ExprKind-F.Result a v span head right own k = absurd cc
local_kept (ExprKind-F.Field e w) a v span head right own k = absurd cc
local_kept (ExprKind-F.Index e i) a v span head right own k = absurd cc
local_kept (ExprKind-F.Not e) a v span head right own k = absurd cc
local_kept (ExprKind-F.Minus e) a v span head right own k = absurd cc
local_kept (ExprKind-F.Binary o x y) a v span head right own k = absurd cc
local_kept (ExprKind-F.Old e) a v span head right own k = absurd cc
local_kept (ExprKind-F.Perm e checked whole amount) a v span head right own k = absurd cc
local_kept (ExprKind-F.Token t e) a v span head right own k = absurd cc
local_kept (ExprKind-F.Instance target w args) a v span head right own k = absurd cc
local_kept (ExprKind-F.Each q) a v span head right own k = absurd cc

name_kept : (e : Expr) (a : Environment) (v : Visible) (head : List core.Parameter) (right : Right) → AreOwn v head
    → is_inner_local_kind v e.kind ≡ true → IsOwnTarget head (core_of_target a v e) right
name_kept e a v head right own k =
    let rolled : (elaborated_expression e).expression a v
    ≡ (elaborated_in_kind (layer_of (out-ExprKind e.kind))).expression e.span a v =
    ap (λ (p : ElaboratedExpression). p.expression a v) (elaborated_rolled e)
    ∙ ap (λ (k : ElaboratedKind). k.expression e.span a v) (kind_rolled e.kind) in
    subst (λ x. IsOwnTarget head (target_of x) right) (sym rolled)
    (local_kept (out-ExprKind e.kind) a v e.span head right own (sym (as_layer v e.kind) ∙ k))

-- a left side without a fault
pub target_kept : (e : Expr) (h : Home) (a : Environment) (v : Visible) (xs head : List core.Parameter) (right : Right)
    → Place h a v xs → AreOwn v head
    → Clean (faults_of_expression a v Anything e) → quantifiers_in e ≡ [] → is_assignable a v e ≡ true
    → IsOwnTarget head (core_of_target a v e) right
target_kept e h a v xs head right place own clean none assignable = by ((checked_expression e).seen a v).location refl assignable
  where
    by : (b : Bool) → ((checked_expression e).seen a v).location ≡ b → (b || is_inner_local_kind v e.kind) ≡ true
        → IsOwnTarget head (core_of_target a v e) right
    by true is k =
        let is_place : IsPlace (core_of_expression a v e) =
        (fits e h silent a v xs in_statement Anything place (statement_strict a) clean none).place
        (ap (λ (p : CheckedExpression). (p.seen a v).location) (checked_in_elaborated e) ∙ is) in
        (place_kept (core_of_expression a v e) right is_place, place_own (core_of_expression a v e) head is_place)
    by false is k = name_kept e a v head right own k
