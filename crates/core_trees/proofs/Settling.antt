-- A part without a fault has a type that is needed, wherever it stands.
use Rattle.std.proofs.Common.{◌≡◌, Bool, true, false, not, ◌||◌, Option, Some, None, is_some, List, [], ◌∷◌, map, refl, sym, subst}
use Rattle.std.proofs.lemmas.Bool.{and_from}
use Rattle.std.specs.Prelude.{if◌then◌else◌}
use Rattle.std.specs.List.{AllByRecursion}
use Rattle.pv_base.specs.declared.Name.{Name}
use Rattle.pv_base.specs.declared.Span.{Span}
use Rattle.pv_ast.specs.declared.Word.{Word}
use Rattle.pv_ast.specs.declared.Operator.{Operator}
use Rattle.pv_ast.specs.declared.Operator.TheVariants as op
use Rattle.pv_ast.specs.declared.PvType.{PvType}
use Rattle.pv_ast.specs.declared.PvType.TheVariants.{Int, Truth, Object, IntArray, TruthArray, Null}
use Rattle.pv_ast.specs.declared.Param.{Param}
use Rattle.pv_ast.specs.declared.Predicate.{Predicate}
use Rattle.pv_ast.specs.declared.Expr.{Expr}
use Rattle.pv_ast.specs.declared.ExprKind.{ExprKind-F}
use Rattle.pv_ast.specs.declared.fault.Rule.TheVariants as rule
use Rattle.pv_ast.specs.declared.scope.Declared.{Declared}
use Rattle.pv_ast.specs.declared.standing.Context.{Context}
use Rattle.pv_ast.specs.declared.standing.Need.{Need}
use Rattle.pv_ast.specs.declared.standing.Need.TheVariants.{Anything, Exactly, AnObject, AnArray}
use Rattle.pv_ast.specs.declared.standing.Seen.{Seen}
use Rattle.pv_ast.specs.declared.standing.Typing.{Typing}
use Rattle.pv_ast.specs.declared.standing.Typing.TheVariants.{Unsettled, Untyped, Typed}
use Rattle.pv_ast.specs.Rules.Lookup.{field_named, predicate_named}
use Rattle.pv_ast.specs.Rules.Scoping.{Visible, variable_named}
use Rattle.pv_ast.specs.Rules.Typing as typing
use Rattle.pv_ast.specs.Rules.Expressions.{Environment, CheckedExpression, CheckedKind, checked_in_kind, checked_in_each, checked_expression, typing_in, seen_of_name, seen_of_target, type_of_field, type_of_param, is_array_length, is_length, holder_of, holder_of_typing, typing_of_field_in, lacks_field, need_of_target, args_meet, faults_of_args, faults_of_use, faults_of_target, Signature, unsought, unknown, taking, predicate_signature, signature_of_predicate, typing_of_use, class_of, members_of, with_bound, under_quantifier}
use Rattle.core_trees.proofs.Clean.{Clean, unless_holds, if_fails}
use Rattle.core_trees.proofs.Sound.{meets_need}
use Rattle.core_trees.proofs.Resolving.{object_if}
use Rattle.core_trees.proofs.Layers.{PartLayerStep, part_induction, checked_in_elaborated}
use Rattle.core_trees.proofs.Induction.{all_with}
use Rattle.pv_picks.specs.Elaborating.Expressions.{elaborated_expression}

-- The laws of a kind and of a part

abbrev IsSettled : Typing → Type 0
IsSettled t = (t ≡ Unsettled) → ⊥

abbrev KindLaw : CheckedKind → Type 0
KindLaw k = (a : Environment) (v : Visible) (span : Span) (c : Context) → Clean (k.faults span a v c)
    → IsSettled (k.seen a v).typing

abbrev CheckedLaw : CheckedExpression → Type 0
CheckedLaw p = (a : Environment) (v : Visible) (c : Context) (need : Need) → Clean (p.faults a v c need)
    → typing.meets need (typing_in p a v) ≡ true

-- Kinds

typed_settled : (b : Bool) (type : PvType) → b ≡ true → IsSettled (typing.typed_if b type)
typed_settled true type h = λ i. cc
typed_settled false type h = absurd cc

result_settled : (o : Option PvType) → IsSettled (typing.typing_or Untyped o)
result_settled None = λ i. cc
result_settled (Some type) = λ i. cc

found_settled : (o : Option PvType) → is_some o ≡ true → IsSettled (typing.typing_or Unsettled o)
found_settled None h = absurd cc
found_settled (Some type) h = λ i. cc

name_settled : (a : Environment) (name : Name) (o : Option Declared) → (is_some o || is_some (type_of_field a.here name)) ≡ true
    → IsSettled (seen_of_name a name o).typing
name_settled a name None h = found_settled (type_of_field a.here name) h
name_settled a name (Some d) h = λ i. cc

param_found : (o : Option Param) → not (is_some o) ≡ false → is_some (type_of_param o) ≡ true
param_found None h = absurd cc
param_found (Some p) h = refl

field_settled : (a : Environment) (this : Bool) (t : Typing) (name : Name) → typing.meets AnObject t ≡ true
    → lacks_field (holder_of_typing a this t) name ≡ false → IsSettled (typing_of_field_in (holder_of_typing a this t) name)
field_settled a this (Typed (Object class)) name h k =
    found_settled (type_of_param (field_named (members_of (class_of a this class)) name))
    (param_found (field_named (members_of (class_of a this class)) name) k)
field_settled a this (Typed Int) name h k = absurd cc
field_settled a this (Typed Truth) name h k = absurd cc
field_settled a this (Typed IntArray) name h k = absurd cc
field_settled a this (Typed TruthArray) name h k = absurd cc
field_settled a this (Typed Null) name h k = absurd cc
field_settled a this Unsettled name h k = absurd cc
field_settled a this Untyped name h k = absurd cc

member_settled : (length : Bool) (t : Typing) → (length ≡ false → IsSettled t) → IsSettled (if length then Typed Int else t)
member_settled true t h = λ i. cc
member_settled false t h = h refl

element_settled : (x i : Typing) → typing.meets AnArray x ≡ true → typing.meets (Exactly Int) i ≡ true
    → IsSettled (typing.typing_of_element x i)
element_settled (Typed IntArray) i h k = typed_settled (typing.meets (Exactly Int) i) Int k
element_settled (Typed TruthArray) i h k = typed_settled (typing.meets (Exactly Int) i) Truth k
element_settled (Typed Int) i h k = absurd cc
element_settled (Typed Truth) i h k = absurd cc
element_settled (Typed (Object class)) i h k = absurd cc
element_settled (Typed Null) i h k = absurd cc
element_settled Unsettled i h k = absurd cc
element_settled Untyped i h k = absurd cc

equality_settled : (b : Bool) → IsSettled (if b then Typed Truth else Untyped)
equality_settled true = λ i. cc
equality_settled false = λ i. cc

same_settled : (x y : Typing) → typing.meets Anything x ≡ true → typing.meets Anything y ≡ true
    → IsSettled (typing.typing_of_equality x y)
same_settled (Typed x) (Typed y) h k = equality_settled (typing.are_comparable x y)
same_settled (Typed x) Unsettled h k = absurd cc
same_settled (Typed x) Untyped h k = absurd cc
same_settled Unsettled y h k = absurd cc
same_settled Untyped y h k = absurd cc

operator_settled : (o : Operator) (x y : Typing) → typing.meets (typing.need_of_operator o) x ≡ true
    → typing.meets (typing.need_of_operator o) y ≡ true → IsSettled (typing.typing_of_operator o x y)
operator_settled op.Add x y h k = typed_settled (typing.both_meet (Exactly Int) x y) Int (and_from _ _ h k)
operator_settled op.Sub x y h k = typed_settled (typing.both_meet (Exactly Int) x y) Int (and_from _ _ h k)
operator_settled op.Mul x y h k = typed_settled (typing.both_meet (Exactly Int) x y) Int (and_from _ _ h k)
operator_settled op.Eq x y h k = same_settled x y h k
operator_settled op.Ne x y h k = same_settled x y h k
operator_settled op.Lt x y h k = typed_settled (typing.both_meet (Exactly Int) x y) Truth (and_from _ _ h k)
operator_settled op.Le x y h k = typed_settled (typing.both_meet (Exactly Int) x y) Truth (and_from _ _ h k)
operator_settled op.Gt x y h k = typed_settled (typing.both_meet (Exactly Int) x y) Truth (and_from _ _ h k)
operator_settled op.Ge x y h k = typed_settled (typing.both_meet (Exactly Int) x y) Truth (and_from _ _ h k)
operator_settled op.And x y h k = typed_settled (typing.both_meet (Exactly Truth) x y) Truth (and_from _ _ h k)
operator_settled op.Or x y h k = typed_settled (typing.both_meet (Exactly Truth) x y) Truth (and_from _ _ h k)
operator_settled op.Implies x y h k = typed_settled (typing.both_meet (Exactly Truth) x y) Truth (and_from _ _ h k)
operator_settled op.Star x y h k = typed_settled (typing.both_meet (Exactly Truth) x y) Truth (and_from _ _ h k)

old_settled : (t : Typing) → typing.meets Anything t ≡ true → IsSettled (typing.typing_of_old t)
old_settled (Typed type) h = λ i. cc
old_settled Unsettled h = absurd cc
old_settled Untyped h = absurd cc

-- Instances

args_settled : (ps : List CheckedExpression) (types : List PvType) → AllByRecursion CheckedLaw ps
    → (a : Environment) (v : Visible) (c : Context)
    → Clean (faults_of_args ps types a v c) → args_meet ps types a v ≡ true
args_settled [] types laws a v c clean = refl
args_settled (p ∷ ps) [] laws a v c clean = and_from _ _ (laws.0 a v c Anything clean.0) (args_settled ps [] laws.1 a v c clean.1)
args_settled (p ∷ ps) (type ∷ types) laws a v c clean =
    and_from _ _ (laws.0 a v c (Exactly type) clean.0) (args_settled ps types laws.1 a v c clean.1)

abbrev IsSought : Signature → Type 0
IsSought unsought = ⊥
IsSought unknown = Unit {0}
IsSought (taking types) = Unit {0}

predicate_sought : (o : Option Predicate) → IsSought (signature_of_predicate o)
predicate_sought None = tt
predicate_sought (Some p) = tt

object_sought : (a : Environment) (this : Bool) (t : Typing) (name : Name) → typing.meets AnObject t ≡ true
    → IsSought (predicate_signature (holder_of_typing a this t) name)
object_sought a this (Typed (Object class)) name h = predicate_sought (predicate_named (members_of (class_of a this class)) name)
object_sought a this (Typed Int) name h = absurd cc
object_sought a this (Typed Truth) name h = absurd cc
object_sought a this (Typed IntArray) name h = absurd cc
object_sought a this (Typed TruthArray) name h = absurd cc
object_sought a this (Typed Null) name h = absurd cc
object_sought a this Unsettled name h = absurd cc
object_sought a this Untyped name h = absurd cc

use_settled : (w : Word) (ps : List CheckedExpression) → AllByRecursion CheckedLaw ps
    → (signature : Signature) (a : Environment) (v : Visible) (c : Context) → IsSought signature
    → Clean (faults_of_use w ps signature a v c) → IsSettled (typing_of_use ps signature a v)
use_settled w ps laws unsought a v c sought clean = absurd sought
use_settled w ps laws unknown a v c sought clean = absurd clean.0
use_settled w ps laws (taking types) a v c sought clean =
    typed_settled (args_meet ps types a v) Truth (args_settled ps types laws a v c clean.1.0)

abbrev TargetLaw : Option CheckedExpression → Type 0
TargetLaw None = Unit {0}
TargetLaw (Some p) = CheckedLaw p

target_settled : (o : Option CheckedExpression) → TargetLaw o → (a : Environment) (v : Visible) (c : Context)
    → Clean (faults_of_target a v c o)
    → typing.meets AnObject (seen_of_target a v o).typing ≡ true
target_settled None law a v c clean = refl
target_settled (Some p) law a v c clean = law a v c AnObject clean

instance_law : (o : Option CheckedExpression) (w : Word) (ps : List CheckedExpression) → TargetLaw o
    → AllByRecursion CheckedLaw ps
    → KindLaw (checked_in_kind (ExprKind-F.Instance o w ps))
instance_law o w ps law laws = λ a v span c clean.
    let s : Seen = seen_of_target a v o in
    use_settled w ps laws (predicate_signature (holder_of a s) w.name) a v (typing.purely c)
    (object_sought a s.this s.typing w.name (target_settled o law a v (typing.purely c) clean.1.0)) clean.1.1

-- The induction

layer_law : PartLayerStep KindLaw CheckedLaw
layer_law (ExprKind-F.Number n) = λ a v span c clean i. cc
layer_law (ExprKind-F.Truth b) = λ a v span c clean i. cc
layer_law ExprKind-F.Null = λ a v span c clean i. cc
layer_law ExprKind-F.This = λ a v span c clean i. cc
layer_law ExprKind-F.Result = λ a v span c clean. result_settled a.result
layer_law (ExprKind-F.Var w) =
    λ a v span c clean. name_settled a w.name (variable_named v w.name)
    (unless_holds (is_some (variable_named v w.name) || is_some (type_of_field a.here w.name)) rule.UnknownName w.span clean.0)
layer_law (ExprKind-F.Field e w) = λ a v span c clean.
    let s : Seen = (checked_expression e.0).seen a v in
    member_settled (is_array_length a w.name s.typing) (typing_of_field_in (holder_of a s) w.name) (λ h.
    field_settled a s.this s.typing w.name (object_if (is_length a w.name) s.typing
    (e.1 a v c (need_of_target a w.name) clean.0) h) (if_fails (lacks_field (holder_of a s) w.name) rule.UnknownName w.span
    clean.1))
layer_law (ExprKind-F.Index e i) =
    λ a v span c clean. element_settled (typing_in (checked_expression e.0) a v) (typing_in (checked_expression i.0) a v)
    (e.1 a v c AnArray clean.0)
    (i.1 a v c (Exactly Int) clean.1)
layer_law (ExprKind-F.Not e) = λ a v span c clean. typed_settled _ Truth (e.1 a v (typing.purely c) (Exactly Truth) clean)
layer_law (ExprKind-F.Minus e) = λ a v span c clean. typed_settled _ Int (e.1 a v c (Exactly Int) clean)
layer_law (ExprKind-F.Binary o x y) = λ a v span c clean.
    operator_settled o (typing_in (checked_expression x.0) a v) (typing_in (checked_expression y.0) a v)
    (x.1 a v (typing.under_left o c) (typing.need_of_operator o) clean.0)
    (y.1 a v (typing.under_right o c) (typing.need_of_operator o) clean.1)
layer_law (ExprKind-F.Old e) =
    λ a v span c clean. old_settled (typing_in (checked_expression e.0) a v) (e.1 a v (typing.purely c) Anything clean.0)
layer_law (ExprKind-F.Perm e checked whole amount) = λ a v span c clean. typed_settled _ Truth (e.1 a v c Anything clean.1.1.0)
layer_law (ExprKind-F.Token t e) = λ a v span c clean. typed_settled _ Truth (e.1 a v c AnObject clean.1.0)
layer_law (ExprKind-F.Instance None w es) = instance_law None w (map checked_expression (map (λ e. e.0) es)) tt
    (all_with checked_expression CheckedLaw es)
layer_law (ExprKind-F.Instance (Some e) w es) =
    instance_law (Some (checked_expression e.0)) w (map checked_expression (map (λ e. e.0) es)) e.1
    (all_with checked_expression CheckedLaw es)
layer_law (ExprKind-F.Each q) = λ a v span c clean. q.1 a v span c clean

each_law : (star : Bool) (w : Word) (low high body : CheckedExpression) (written : Option (Word × Word)) → CheckedLaw low
    → CheckedLaw high
    → CheckedLaw body → KindLaw (checked_in_each
    (record { star = star; name = w; low = low; high = high; body = body; written = written }))
each_law star w low high body written law_low law_high law_body = λ a v span c clean.
    let l = law_low a v c (Exactly Int) clean.1.1.0 in
    let h = law_high a v c (Exactly Int) clean.1.1.1.0 in
    let b = law_body a (with_bound v w) (under_quantifier star c) (Exactly Truth) clean.1.1.1.1.0 in
    typed_settled _ Truth (and_from _ _ (and_from _ _ l h) b)

-- each expression without a fault has a type that is needed
pub settled : (e : Expr) → CheckedLaw (checked_expression e)
settled =
    part_induction KindLaw CheckedLaw layer_law (λ y.
    each_law y.star y.name (checked_expression y.low.0) (checked_expression y.high.0) (checked_expression y.body.0) y.written
    y.low.1 y.high.1 y.body.1)
    (λ span k law a v c need clean. meets_need need (k.seen a v).typing span (law a v span c clean.0) clean.1)

-- the same of its piece
pub meets_elaborated : (e : Expr) (a : Environment) (v : Visible) (c : Context) (need : Need)
    → Clean ((elaborated_expression e).checked.faults a v c need)
    → typing.meets need (typing_in (elaborated_expression e).checked a v) ≡ true
meets_elaborated e a v c need =
    subst (λ (p : CheckedExpression). Clean (p.faults a v c need) → typing.meets need (typing_in p a v) ≡ true)
    (sym (checked_in_elaborated e))
    (settled e a v c need)
