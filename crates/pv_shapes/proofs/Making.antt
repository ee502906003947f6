-- What has the parts of an item is an item.
use Rattle.std.proofs.Common.{◌≡◌, ℕ, ℤ, Bool, true, false, Option, Some, None, List, refl, sym, ◌∙◌, ap, subst, ◌⊎◌, inl, inr}
use Rattle.std.specs.Prelude.{if◌then◌else◌, ◌&&◌}
use Rattle.pv_ast.specs.declared.Operator.{Operator}
use Rattle.pv_ast.specs.declared.Operator.TheVariants as op
use Rattle.pv_ast.specs.declared.Token.TheVariants as token
use Rattle.pv_ast.specs.declared.Expr.{Expr}
use Rattle.pv_ast.specs.declared.ExprKind.{ExprKind, ExprKind-F}
use Rattle.pv_ast.specs.declared.ExprKind.TheVariants as tree
use Rattle.pv_ast.specs.declared.fault.ShapeFault.{ShapeFault}
use Rattle.pv_ast.specs.Rules.Items as items
use Rattle.pv_ast.specs.Rules.Items.{Facts, Use, Item, KindShape, EachShape, Shape, element, unused, shifted, elsewhere, constant, fact, permission, committed, position, guarded, fixed, shape_of, shape_of_kind, item_of, facts_in_kind, item_in_kind, item_of_kind, item_of_pure, item_of_use, item_of_location, item_of_comparison, item_of_operator, or_else, has_variable_and_term}
use Rattle.pv_shapes.specs.Parts.{facts_of, compares, IsElement, IsPermission, IsCommitted, IsPosition, IsGuarded, IsFixed, IsPure, HasParts, IsOrIsPlain}
use Rattle.pv_shapes.proofs.Layers.{at_expr, at_kind, at_index, at_perm, at_token, at_binary, kind_layer, kind_shown}
use Rattle.pv_shapes.proofs.Inversion.{layer, facts_by_layer, item_by_layer}

-- a constant or a fact counts before what an expression is by its kind
by_kind : (pure : Bool) (uses : Use) (rest : Option Item) (item : Item) → rest ≡ Some item
    → IsOrIsPlain item (or_else (if pure then item_of_use uses else None) rest)
by_kind true unused rest item h = inr tt
by_kind true (shifted s) rest item h = inr tt
by_kind true elsewhere rest item h = inl h
by_kind false uses rest item h = inl h

-- an expression by its kind, whose parts show what they show
shown : (name : ℕ) (e : Expr) (k : ExprKind) (l : ExprKind-F KindShape EachShape Shape) (item : Item) → e.kind ≡ k
    → shape_of_kind k ≡ items.shape_in_kind l → item_of_kind l name ≡ Some item → IsOrIsPlain item (item_of name e)
shown name e k l item i at h =
    subst (IsOrIsPlain item) (sym (ap (λ s. s.item name) (kind_shown e k i) ∙ ap (λ x. x.item name) at))
    (by_kind (facts_in_kind l name).pure (facts_in_kind l name).uses (item_of_kind l name) item h)

pure_item : (name : ℕ) (e : Expr) (uses : Use) (item : Item) → IsPure name uses e → item_of_use uses ≡ Some item
    → IsOrIsPlain item (item_of name e)
pure_item name e uses item p h =
    let f = facts_by_layer name e in
    let rest = item_of_kind (kind_layer (layer e)) name in
    let found : item_of name e ≡ or_else (if (facts_of name e).pure then item_of_use (facts_of name e).uses else None) rest =
    item_by_layer name e ∙ ap (λ x. or_else (item_of_pure x) rest) (sym f) in
    inl (found ∙ ap (λ b. or_else (if b then item_of_use (facts_of name e).uses else None) rest) p.pure
    ∙ ap (λ u. or_else (item_of_use u) rest) p.uses ∙ ap (λ x. or_else x rest) h)

-- an element of a term shows that it is one
element_form : (name : ℕ) (s : ℤ) (e : Expr) → IsElement name s e → (facts_of name e).form ≡ element s
element_form name s e p =
    ap (λ x. (x.facts name).form) (kind_shown e (tree.Index p.array p.index) p.stands)
    ∙ ap (λ x. (x.facts name).form) (at_index p.array p.index)
    ∙ ap (λ b. if b then items.element_at (items.shift_of (facts_of name p.index).form) else items.other) p.term
    ∙ ap items.element_at p.shift

-- a comparison is an item by its sides
comparison_item : (o : Operator) (a b : Facts) (item : Option Item) (faults : List ShapeFault) → compares o ≡ true
    → has_variable_and_term a b ≡ true → item_of_operator o a b item faults ≡ Some position
comparison_item op.Eq a b item faults c h = ap (λ x. items.item_if x position) h
comparison_item op.Ne a b item faults c h = ap (λ x. items.item_if x position) h
comparison_item op.Lt a b item faults c h = ap (λ x. items.item_if x position) h
comparison_item op.Le a b item faults c h = ap (λ x. items.item_if x position) h
comparison_item op.Gt a b item faults c h = ap (λ x. items.item_if x position) h
comparison_item op.Ge a b item faults c h = ap (λ x. items.item_if x position) h
comparison_item op.Add a b item faults c h = absurd cc
comparison_item op.Sub a b item faults c h = absurd cc
comparison_item op.Mul a b item faults c h = absurd cc
comparison_item op.And a b item faults c h = absurd cc
comparison_item op.Or a b item faults c h = absurd cc
comparison_item op.Implies a b item faults c h = absurd cc
comparison_item op.Star a b item faults c h = absurd cc

-- each form of item is made by its parts
pub parts_make_item : (name : ℕ) (e : Expr) (item : Item) → HasParts name item e → IsOrIsPlain item (item_of name e)
parts_make_item name e constant p = pure_item name e unused constant p refl
parts_make_item name e (fact s) p = pure_item name e (shifted s) (fact s) p refl
parts_make_item name e (permission s) p =
    shown name e (tree.Perm p.place p.parts p.whole p.span) (ExprKind-F.Perm (shape_of p.place) p.parts p.whole p.span)
    (permission s)
    p.stands (at_perm p.place p.parts p.whole p.span) (ap item_of_location (element_form name s p.place p.element))
parts_make_item name e committed p =
    shown name e (tree.Token token.Committed p.operand) (ExprKind-F.Token token.Committed (shape_of p.operand)) committed p.stands
    (at_token token.Committed p.operand) (ap (λ x. items.item_if x committed) p.term)
parts_make_item name e position p =
    shown name e (tree.Binary p.operator p.left p.right)
    (ExprKind-F.Binary p.operator (shape_of p.left) (shape_of p.right)) position
    p.stands (at_binary p.operator p.left p.right)
    (comparison_item p.operator (facts_of name p.left) (facts_of name p.right) (item_of name p.right) (shape_of p.right).faults
    p.comparison p.sides)
parts_make_item name e (guarded item) p =
    shown name e (tree.Binary op.Implies p.left p.right) (ExprKind-F.Binary op.Implies (shape_of p.left) (shape_of p.right))
    (guarded item) p.stands (at_binary op.Implies p.left p.right) (guarded_by (facts_of name p.left).form p.guards)
  where
    guarded_by : (form : items.Form) → form ≡ items.guard
        → (if items.is_guard form then items.guarded_item (item_of name p.right)
        else items.item_if (items.is_fixing form && items.is_term (facts_of name p.right) && items.is_empty
        (shape_of p.right).faults)
        fixed) ≡ Some (guarded item)
    guarded_by form g = rw (g, p.under) refl
parts_make_item name e fixed p =
    shown name e (tree.Binary op.Implies p.left p.formula)
    (ExprKind-F.Binary op.Implies (shape_of p.left) (shape_of p.formula)) fixed
    p.stands (at_binary op.Implies p.left p.formula) (fixed_by (facts_of name p.left).form p.fixes)
  where
    fixed_by : (form : items.Form) → form ≡ items.fixing
        → (if items.is_guard form then items.guarded_item (item_of name p.formula)
        else items.item_if (items.is_fixing form && items.is_term (facts_of name p.formula) && items.is_empty
        (shape_of p.formula).faults)
        fixed) ≡ Some fixed
    fixed_by form g = rw (g, p.term, p.shaped) refl
