-- Where the rules let nothing but what is pure stand: an expression without a fault is pure by its shape.
use Rattle.std.proofs.Common.{◌≡◌, ℕ, Bool, true, false, not, ◌&&◌, Some, None, List, [], ◌∷◌, ◌++◌, map, refl, ap, subst}
use Rattle.std.proofs.lemmas.Bool.{and_parts, and_from, both_ways}
use Rattle.std.specs.Prelude.{nat_eq, if◌then◌else◌}
use Rattle.pv_base.specs.declared.Name.{Name}
use Rattle.pv_base.specs.declared.Span.{Span}
use Rattle.pv_ast.specs.declared.Operator.{Operator}
use Rattle.pv_ast.specs.declared.Operator.TheVariants as op
use Rattle.pv_ast.specs.declared.PvType.TheVariants.{Int, Truth}
use Rattle.pv_ast.specs.declared.Expr.{Expr}
use Rattle.pv_ast.specs.declared.ExprKind.{ExprKind-F}
use Rattle.pv_ast.specs.declared.fault.Rule.TheVariants as rule
use Rattle.pv_ast.specs.declared.fault.ShapeFault.{ShapeFault}
use Rattle.pv_ast.specs.declared.fault.ShapeFault.TheVariants.{QuantifierShape}
use Rattle.pv_ast.specs.declared.standing.Context.{Context}
use Rattle.pv_ast.specs.declared.standing.Need.{Need}
use Rattle.pv_ast.specs.declared.standing.Need.TheVariants.{Anything, Exactly, AnObject, AnArray, AnObjectOrArray}
use Rattle.pv_ast.specs.declared.standing.Seen.{Seen}
use Rattle.pv_ast.specs.declared.standing.Typing.{Typing}
use Rattle.pv_ast.specs.declared.standing.Typing.TheVariants.{Unsettled, Untyped, Typed}
use Rattle.pv_ast.specs.Rules.Scoping.{Visible}
use Rattle.pv_ast.specs.Rules.Items.{Facts, guard, fixing, is_guard, is_fixing, is_variable, is_variable_and_term, form_if, facts_of_operator, facts_in_environment}
use Rattle.pv_ast.specs.Rules.Typing as typing
use Rattle.pv_ast.specs.Rules.Expressions.{Environment, CheckedExpression, Signature, unsought, unknown, taking, typing_in, is_length, need_of_target, typing_of_use, value_seen, not_pure, predicate_signature, holder_of, seen_of_target}
use Rattle.pv_picks.specs.Elaborating.Expressions.{ElaboratedExpression, ElaboratedKind, ElaboratedEach, Layer, elaborated_in_kind, elaborated_expression}
use Rattle.core_trees.proofs.Clean.{Clean, if_fails, no_first, no_second}
use Rattle.core_trees.proofs.Layers.{LayerStep, piece_induction}
use Rattle.core_trees.proofs.Shapes.{IsPosition, variable_pure, position_shown}
use Rattle.core_trees.proofs.Settling.{meets_elaborated}

-- Types other than that of truth values

abbrev pub is_other : Typing → Bool
is_other Unsettled = false
is_other Untyped = false
is_other (Typed type) = not (typing.is_truth type)

pub other_int : (t : Typing) → typing.meets (Exactly Int) t ≡ true → is_other t ≡ true
other_int (Typed Truth) k = absurd cc
other_int (Typed type) k = refl
other_int _ k = absurd cc

pub other_array : (t : Typing) → typing.meets AnArray t ≡ true → is_other t ≡ true
other_array (Typed Truth) k = absurd cc
other_array (Typed type) k = refl
other_array _ k = absurd cc

pub other_object : (t : Typing) → typing.meets AnObject t ≡ true → is_other t ≡ true
other_object (Typed Truth) k = absurd cc
other_object (Typed type) k = refl
other_object _ k = absurd cc

pub other_target : (length : Bool) (t : Typing) → typing.meets (if length then AnObjectOrArray else AnObject) t ≡ true
    → is_other t ≡ true
other_target false t k = other_object t k
other_target true (Typed Truth) k = absurd cc
other_target true (Typed type) k = refl
other_target true _ k = absurd cc

no_truth : (b : Bool) → is_other (typing.typed_if b Truth) ≡ true → ⊥
no_truth true k = cc
no_truth false k = cc

no_equality : (s t : Typing) → is_other (typing.typing_of_equality s t) ≡ true → ⊥
no_equality (Typed a) (Typed b) k = no (typing.are_comparable a b) k
  where
    no : (c : Bool) → is_other (if c then Typed Truth else Untyped) ≡ true → ⊥
    no true i = cc
    no false i = cc
no_equality (Typed a) Unsettled k = cc
no_equality (Typed a) Untyped k = cc
no_equality Unsettled t k = cc
no_equality Untyped t k = cc

no_use : (args : List CheckedExpression) (signature : Signature) (a : Environment) (v : Visible)
    → is_other (typing_of_use args signature a v)
    ≡ true → ⊥
no_use args unsought a v k = cc
no_use args unknown a v k = cc
no_use args (taking types) a v k = no_truth _ k

old_other : (t : Typing) → is_other (typing.typing_of_old t) ≡ true → is_other t ≡ true
old_other Unsettled k = k
old_other Untyped k = absurd cc
old_other (Typed type) k = k

-- what is compared with a number is one
beside_left : (t : Typing) → typing.meets (Exactly Truth) (typing.typing_of_equality (Typed Int) t) ≡ true → is_other t ≡ true
beside_left (Typed Truth) k = absurd cc
beside_left (Typed type) k = refl
beside_left _ k = absurd cc

beside_right : (t : Typing) → typing.meets (Exactly Truth) (typing.typing_of_equality t (Typed Int)) ≡ true → is_other t ≡ true
beside_right (Typed Truth) k = absurd cc
beside_right (Typed type) k = refl
beside_right _ k = absurd cc

-- Solid parts

-- why an expression must be pure: its context, its type, that it is a place, guards on a position, or fixes one
pub data IsSolid : Visible → Context → List ShapeFault → Seen → (ℕ → Facts) → Type 0 where
  purely : {v : Visible} {c : Context} {quantifiers : List ShapeFault} {s : Seen} {facts : ℕ → Facts} → c.pure ≡ true
      → quantifiers ≡ [] → IsSolid v c quantifiers s facts
  typed : {v : Visible} {c : Context} {quantifiers : List ShapeFault} {s : Seen} {facts : ℕ → Facts} → is_other s.typing ≡ true
      → IsSolid v c quantifiers s facts
  located : {v : Visible} {c : Context} {quantifiers : List ShapeFault} {s : Seen} {facts : ℕ → Facts} → s.location ≡ true
      → IsSolid v c quantifiers s facts
  guards : {v : Visible} {c : Context} {quantifiers : List ShapeFault} {s : Seen} {facts : ℕ → Facts} → (n : ℕ)
      → is_guard (facts n).form ≡ true → IsSolid v c quantifiers s facts
  fixes : {v : Visible} {c : Context} {quantifiers : List ShapeFault} {s : Seen} {facts : ℕ → Facts} → (name : Name)
      → IsPosition v name → is_fixing (facts name.0).form ≡ true → typing.meets (Exactly Truth) s.typing ≡ true
      → IsSolid v c quantifiers s facts

abbrev pub KindLaw : ElaboratedKind → Type 0
KindLaw k = (a : Environment) (v : Visible) (span : Span) (c : Context) → Clean (k.checked.faults span a v c)
    → IsSolid v c (k.shape.quantifiers span) (k.checked.seen a v) k.shape.facts → (k.shape.facts 0).pure ≡ true

-- a quantifier is a truth value, of no form
abbrev pub EachLaw : ElaboratedEach → Type 0
EachLaw q = (a : Environment) (v : Visible) → (is_other (q.checked.seen a v).typing ≡ true → ⊥)
    × ((q.checked.seen a v).location ≡ false)
    × ((n : ℕ) → (is_guard (q.shape.facts n).form ≡ false) × (is_fixing (q.shape.facts n).form ≡ false))

abbrev pub ExprLaw : ElaboratedExpression → Type 0
ExprLaw p = (a : Environment) (v : Visible) (c : Context) (need : Need) → Clean (p.checked.faults a v c need)
    → IsSolid v c p.shape.quantifiers (p.checked.seen a v) p.shape.facts → (p.shape.facts 0).pure ≡ true

abbrev pub Exprs : Type 0
Exprs = (e : Expr) × ExprLaw (elaborated_expression e)

abbrev LayerLaw : Layer → Type 0
LayerLaw l = KindLaw (elaborated_in_kind l)

-- a truth value that is no guard and fixes nothing
pure_truth : {v : Visible} {c : Context} {quantifiers : List ShapeFault} {s : Seen} {facts : ℕ → Facts} {A : Type 0}
    → (c.pure ≡ true → quantifiers ≡ [] → A) → (is_other s.typing ≡ true → ⊥) → s.location ≡ false
    → ((n : ℕ) → (is_guard (facts n).form ≡ false) × (is_fixing (facts n).form ≡ false)) → IsSolid v c quantifiers s facts → A
pure_truth both not_typed no_place no_form (purely p q) = both p q
pure_truth both not_typed no_place no_form (typed t) = absurd (not_typed t)
pure_truth {s = s} both not_typed no_place no_form (located l) = absurd (both_ways s.location no_place l)
pure_truth {facts = facts} both not_typed no_place no_form (guards n g) =
    absurd (both_ways (is_guard (facts n).form) (no_form n).0 g)
pure_truth {facts = facts} both not_typed no_place no_form (fixes name p f m) =
    absurd (both_ways (is_fixing (facts name.0).form) (no_form name.0).1 f)

-- what is solid for none of these reasons
unsolid : {v : Visible} {c : Context} {quantifiers : List ShapeFault} {s : Seen} {facts : ℕ → Facts}
    → (c.pure ≡ true → quantifiers ≡ [] → ⊥) → (is_other s.typing ≡ true → ⊥) → s.location ≡ false
    → ((n : ℕ) → (is_guard (facts n).form ≡ false) × (is_fixing (facts n).form ≡ false)) → IsSolid v c quantifiers s facts → ⊥
unsolid = pure_truth

no_resource : {A : Type 0} (c : Context) (span : Span) → Clean (not_pure c span) → c.pure ≡ true → A → ⊥
no_resource c span clean pure rest = both_ways c.pure (if_fails c.pure rule.NotPure span clean) pure

-- Operators

guard_form : (b : Bool) → is_guard (form_if b guard) ≡ true → b ≡ true
guard_form true k = refl
guard_form false k = absurd cc

no_fixing : (b : Bool) → is_fixing (form_if b guard) ≡ false
no_fixing true = refl
no_fixing false = refl

fixing_form : (b : Bool) → is_fixing (form_if b fixing) ≡ true → b ≡ true
fixing_form true k = refl
fixing_form false k = absurd cc

no_guard : (b : Bool) → is_guard (form_if b fixing) ≡ false
no_guard true = refl
no_guard false = refl

-- both sides of an operator of numbers
pub numbers_pure : (x y : Exprs) (a : Environment) (v : Visible) (c : Context)
    → Clean ((elaborated_expression x.0).checked.faults a v c (Exactly Int))
    → Clean ((elaborated_expression y.0).checked.faults a v c (Exactly Int))
    → ((elaborated_expression x.0).shape.facts 0).pure && ((elaborated_expression y.0).shape.facts 0).pure ≡ true
numbers_pure x y a v c clean_x clean_y =
    and_from _ _ (x.1 a v c (Exactly Int) clean_x
    (typed (other_int _ (meets_elaborated x.0 a v c (Exactly Int) clean_x))))
    (y.1 a v c (Exactly Int) clean_y (typed (other_int _ (meets_elaborated y.0 a v c (Exactly Int) clean_y))))

-- both sides where each stands in a pure context and no quantifier does
pub sides_pure : (x y : Exprs) (a : Environment) (v : Visible) (c d : Context) (need : Need)
    → Clean ((elaborated_expression x.0).checked.faults a v c need)
    → Clean ((elaborated_expression y.0).checked.faults a v d need)
    → c.pure ≡ true → d.pure ≡ true → (elaborated_expression x.0).shape.quantifiers
    ++ (elaborated_expression y.0).shape.quantifiers ≡ []
    → ((elaborated_expression x.0).shape.facts 0).pure && ((elaborated_expression y.0).shape.facts 0).pure ≡ true
sides_pure x y a v c d need clean_x clean_y pure_x pure_y none =
    and_from _ _ (x.1 a v c need clean_x (purely pure_x
    (no_first (elaborated_expression x.0).shape.quantifiers (elaborated_expression y.0).shape.quantifiers none)))
    (y.1 a v d need clean_y
    (purely pure_y (no_second (elaborated_expression x.0).shape.quantifiers (elaborated_expression y.0).shape.quantifiers none)))

-- an equality of a position and a term
pub position_first : (x y : Exprs) (a : Environment) (v : Visible) (c : Context) (name : Name)
    → IsPosition v name
    → Clean ((elaborated_expression x.0).checked.faults a v c Anything)
    → Clean ((elaborated_expression y.0).checked.faults a v c Anything)
    → is_variable ((elaborated_expression x.0).shape.facts name.0).form ≡ true
    → typing.meets (Exactly Truth) (typing.typing_of_equality (typing_in (elaborated_expression x.0).checked a v)
    (typing_in (elaborated_expression y.0).checked a v)) ≡ true
    → ((elaborated_expression x.0).shape.facts 0).pure && ((elaborated_expression y.0).shape.facts 0).pure ≡ true
position_first x y a v c name p clean_x clean_y is m =
    let number = (position_shown x.0 a v name p is).1 in
    and_from _ _ (x.1 a v c Anything clean_x (typed (ap is_other number)))
    (y.1 a v c Anything clean_y (typed (beside_left (typing_in (elaborated_expression y.0).checked a v)
    (subst (λ (t : Typing). typing.meets (Exactly Truth)
    (typing.typing_of_equality t (typing_in (elaborated_expression y.0).checked a v)) ≡ true)
    number m))))

pub position_second : (x y : Exprs) (a : Environment) (v : Visible) (c : Context) (name : Name)
    → IsPosition v name
    → Clean ((elaborated_expression x.0).checked.faults a v c Anything)
    → Clean ((elaborated_expression y.0).checked.faults a v c Anything)
    → is_variable ((elaborated_expression y.0).shape.facts name.0).form ≡ true
    → typing.meets (Exactly Truth) (typing.typing_of_equality (typing_in (elaborated_expression x.0).checked a v)
    (typing_in (elaborated_expression y.0).checked a v)) ≡ true
    → ((elaborated_expression x.0).shape.facts 0).pure && ((elaborated_expression y.0).shape.facts 0).pure ≡ true
position_second x y a v c name p clean_x clean_y is m =
    let number = (position_shown y.0 a v name p is).1 in
    and_from _ _ (x.1 a v c Anything clean_x (typed (beside_right (typing_in (elaborated_expression x.0).checked a v)
    (subst (λ (t : Typing). typing.meets (Exactly Truth)
    (typing.typing_of_equality (typing_in (elaborated_expression x.0).checked a v) t) ≡ true)
    number m))))
    (y.1 a v c Anything clean_y (typed (ap is_other number)))

equality_pure : (x y : Exprs) (a : Environment) (v : Visible) (c : Context) (local : Bool)
    → Clean ((elaborated_expression x.0).checked.faults a v (typing.purely c) Anything)
    → Clean ((elaborated_expression y.0).checked.faults a v (typing.purely c) Anything)
    → IsSolid v c ((elaborated_expression x.0).shape.quantifiers ++ (elaborated_expression y.0).shape.quantifiers)
    (value_seen (typing.typing_of_equality (typing_in (elaborated_expression x.0).checked a v)
    (typing_in (elaborated_expression y.0).checked a v)) local)
    (λ n. facts_of_operator op.Eq ((elaborated_expression x.0).shape.facts n) ((elaborated_expression y.0).shape.facts n))
    → ((elaborated_expression x.0).shape.facts 0).pure && ((elaborated_expression y.0).shape.facts 0).pure ≡ true
equality_pure x y a v c local clean_x clean_y (purely p none) =
    sides_pure x y a v (typing.purely c) (typing.purely c) Anything clean_x clean_y refl refl none
equality_pure x y a v c local clean_x clean_y (typed t) =
    absurd (no_equality (typing_in (elaborated_expression x.0).checked a v) (typing_in (elaborated_expression y.0).checked a v) t)
equality_pure x y a v c local clean_x clean_y (located l) = absurd cc
equality_pure x y a v c local clean_x clean_y (guards n g) =
    absurd
    (both_ways _
    (no_guard (is_variable_and_term ((elaborated_expression x.0).shape.facts n) ((elaborated_expression y.0).shape.facts n)))
    g)
equality_pure x y a v c local clean_x clean_y (fixes name p f m) =
    position_first x y a v (typing.purely c) name p clean_x clean_y
    (and_parts _ _
    (fixing_form (is_variable_and_term ((elaborated_expression x.0).shape.facts name.0)
    ((elaborated_expression y.0).shape.facts name.0))
    f)).0 m

conjunction_pure : (x y : Exprs) (a : Environment) (v : Visible) (c : Context) (local : Bool)
    → Clean ((elaborated_expression x.0).checked.faults a v (typing.purely c) (Exactly Truth))
    → Clean ((elaborated_expression y.0).checked.faults a v (typing.purely c) (Exactly Truth))
    → IsSolid v c ((elaborated_expression x.0).shape.quantifiers ++ (elaborated_expression y.0).shape.quantifiers)
    (value_seen (typing.typing_of_operator op.And (typing_in (elaborated_expression x.0).checked a v)
    (typing_in (elaborated_expression y.0).checked a v)) local)
    (λ n. facts_of_operator op.And ((elaborated_expression x.0).shape.facts n) ((elaborated_expression y.0).shape.facts n))
    → ((elaborated_expression x.0).shape.facts 0).pure && ((elaborated_expression y.0).shape.facts 0).pure ≡ true
conjunction_pure x y a v c local clean_x clean_y (purely p none) =
    sides_pure x y a v (typing.purely c) (typing.purely c) (Exactly Truth) clean_x clean_y refl refl none
conjunction_pure x y a v c local clean_x clean_y (typed t) = absurd (no_truth _ t)
conjunction_pure x y a v c local clean_x clean_y (located l) = absurd cc
conjunction_pure x y a v c local clean_x clean_y (guards n g) =
    let two =
    and_parts _ _ (guard_form (is_guard ((elaborated_expression x.0).shape.facts n).form
    && is_guard ((elaborated_expression y.0).shape.facts n).form)
    g) in
    and_from _ _ (x.1 a v (typing.purely c) (Exactly Truth) clean_x (guards n two.0))
    (y.1 a v (typing.purely c) (Exactly Truth) clean_y (guards n two.1))
conjunction_pure x y a v c local clean_x clean_y (fixes name p f m) =
    absurd (both_ways _ (no_fixing (is_guard ((elaborated_expression x.0).shape.facts name.0).form
    && is_guard ((elaborated_expression y.0).shape.facts name.0).form)) f)

old_pure : (e : Exprs) (a : Environment) (v : Visible) (c : Context) (local : Bool)
    → Clean ((elaborated_expression e.0).checked.faults a v (typing.purely c) Anything)
    → IsSolid v c (elaborated_expression e.0).shape.quantifiers
    (value_seen (typing.typing_of_old (typing_in (elaborated_expression e.0).checked a v)) local)
    (λ n. facts_in_environment ((elaborated_expression e.0).shape.facts n)) → ((elaborated_expression e.0).shape.facts 0).pure
    ≡ true
old_pure e a v c local clean (purely p none) = e.1 a v (typing.purely c) Anything clean (purely refl none)
old_pure e a v c local clean (typed t) =
    e.1 a v (typing.purely c) Anything clean (typed (old_other (typing_in (elaborated_expression e.0).checked a v) t))
old_pure e a v c local clean (located l) = absurd cc
old_pure e a v c local clean (guards n g) = absurd cc
old_pure e a v c local clean (fixes name p f m) = absurd cc

operator_law : (o : Operator) (x y : Exprs) → LayerLaw
    (ExprKind-F.Binary o (elaborated_expression x.0) (elaborated_expression y.0))
operator_law op.Add x y = λ a v span c clean solid. numbers_pure x y a v c clean.0 clean.1
operator_law op.Sub x y = λ a v span c clean solid. numbers_pure x y a v c clean.0 clean.1
operator_law op.Mul x y = λ a v span c clean solid. numbers_pure x y a v c clean.0 clean.1
operator_law op.Lt x y = λ a v span c clean solid. numbers_pure x y a v c clean.0 clean.1
operator_law op.Le x y = λ a v span c clean solid. numbers_pure x y a v c clean.0 clean.1
operator_law op.Gt x y = λ a v span c clean solid. numbers_pure x y a v c clean.0 clean.1
operator_law op.Ge x y = λ a v span c clean solid. numbers_pure x y a v c clean.0 clean.1
operator_law op.Ne x y = λ a v span c clean solid.
    pure_truth (λ p none. sides_pure x y a v (typing.purely c)
    (typing.purely c) Anything clean.0 clean.1 refl refl none)
    (no_equality (typing_in (elaborated_expression x.0).checked a v) (typing_in (elaborated_expression y.0).checked a v)) refl
    (λ n. (refl, refl)) solid
operator_law op.Or x y = λ a v span c clean solid.
    pure_truth (λ p none. sides_pure x y a v (typing.purely c) (typing.purely c)
    (Exactly Truth) clean.0 clean.1 refl refl none) (no_truth _) refl (λ n. (refl, refl)) solid
operator_law op.Implies x y = λ a v span c clean solid.
    pure_truth (λ p none. sides_pure x y a v (typing.purely c) c (Exactly Truth) clean.0 clean.1 refl p none)
    (no_truth _) refl (λ n. (refl, refl)) solid
operator_law op.Star x y = λ a v span c clean solid.
    pure_truth (λ p none. sides_pure x y a v c c (Exactly Truth) clean.0 clean.1 p p none) (no_truth _) refl
    (λ n. (refl, refl)) solid
operator_law op.Eq x y = λ a v span c clean solid. equality_pure x y a v c _ clean.0 clean.1 solid
operator_law op.And x y = λ a v span c clean solid. conjunction_pure x y a v c _ clean.0 clean.1 solid

-- The induction

abbrev parts_in : List Exprs → List CheckedExpression
parts_in es = map (λ p. p.checked) (map elaborated_expression (map (λ e. e.0) es))

layer_law : LayerStep KindLaw EachLaw ExprLaw
layer_law (ExprKind-F.Number n) = λ a v span c clean solid. refl
layer_law (ExprKind-F.Truth b) = λ a v span c clean solid. refl
layer_law ExprKind-F.Null = λ a v span c clean solid. refl
layer_law ExprKind-F.This = λ a v span c clean solid. refl
layer_law ExprKind-F.Result = λ a v span c clean solid. refl
layer_law (ExprKind-F.Var w) = λ a v span c clean solid. variable_pure (nat_eq w.name.0 0)
layer_law (ExprKind-F.Field e w) = λ a v span c clean solid.
    e.1 a v c (need_of_target a w.name) clean.0
    (typed (other_target (is_length a w.name) _ (meets_elaborated e.0 a v c (need_of_target a w.name) clean.0)))
layer_law (ExprKind-F.Index e i) = λ a v span c clean solid.
    and_from _ _ (e.1 a v c AnArray clean.0 (typed (other_array _ (meets_elaborated e.0 a v c AnArray clean.0))))
    (i.1 a v c (Exactly Int) clean.1 (typed (other_int _ (meets_elaborated i.0 a v c (Exactly Int) clean.1))))
layer_law (ExprKind-F.Not e) = λ a v span c clean solid.
    pure_truth (λ p none. e.1 a v (typing.purely c) (Exactly Truth) clean (purely refl none)) (no_truth _) refl
    (λ n. (refl, refl)) solid
layer_law (ExprKind-F.Minus e) = λ a v span c clean solid.
    e.1 a v c (Exactly Int) clean (typed (other_int _ (meets_elaborated e.0 a v c (Exactly Int) clean)))
layer_law (ExprKind-F.Binary o x y) = operator_law o x y
layer_law (ExprKind-F.Old e) = λ a v span c clean solid. old_pure e a v c _ clean.0 solid
layer_law (ExprKind-F.Perm e checked whole amount) = λ a v span c clean solid.
    absurd (unsolid (no_resource c span clean.0) (no_truth _) refl (λ n. (refl, refl)) solid)
layer_law (ExprKind-F.Token t e) =
    λ a v span c clean solid. absurd (unsolid (no_resource c span clean.0) (no_truth _) refl (λ n. (refl, refl)) solid)
layer_law (ExprKind-F.Instance None w es) =
    λ a v span c clean solid. absurd (unsolid (no_resource c span clean.0)
    (no_use (parts_in es) (predicate_signature (holder_of a (seen_of_target a v None)) w.name) a v) refl
    (λ n. (refl, refl)) solid)
layer_law (ExprKind-F.Instance (Some e) w es) =
    λ a v span c clean solid. absurd (unsolid (no_resource c span clean.0)
    (no_use (parts_in es) (predicate_signature (holder_of a ((elaborated_expression e.0).checked.seen a v)) w.name) a v) refl
    (λ n. (refl, refl)) solid)
layer_law (ExprKind-F.Each q) = λ a v span c clean solid.
    absurd (unsolid (λ p none. let no : QuantifierShape span ∷ [] ≡ [] = none in cc) (q.1 a v).0 (q.1 a v).1 (q.1 a v).2 solid)

-- what is solid is pure
pub solid_pure : (e : Expr) → ExprLaw (elaborated_expression e)
solid_pure =
    piece_induction KindLaw EachLaw ExprLaw layer_law (λ y a v. (λ i. no_truth _ i, refl, λ n. (refl, refl)))
    (λ span k law a v c need clean solid. law a v span c clean.0 solid)

-- an expression with that law
abbrev pub solid : Expr → Exprs
solid e = (e, solid_pure e)
