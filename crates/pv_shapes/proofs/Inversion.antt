-- Each item has its parts.
use Rattle.std.proofs.Common.{◌≡◌, ℕ, ℤ, Bool, true, false, Option, Some, None, List, [], ◌∷◌, refl, sym, ◌∙◌, ap, subst, ◌⊎◌, inl, inr}
use Rattle.std.specs.Prelude.{if◌then◌else◌, ◌&&◌, nat_eq}
use Rattle.pv_ast.specs.declared.Operator.{Operator}
use Rattle.pv_ast.specs.declared.Operator.TheVariants as op
use Rattle.pv_ast.specs.declared.Token.{Token}
use Rattle.pv_ast.specs.declared.Token.TheVariants as token
use Rattle.pv_ast.specs.declared.Expr.{Expr}
use Rattle.pv_ast.specs.declared.ExprKind.{ExprKind, ExprKind-F, out-ExprKind, roll-ExprKind, roll-out-ExprKind}
use Rattle.pv_ast.specs.declared.ExprKind.TheVariants as tree
use Rattle.pv_ast.specs.declared.Each.{Each}
use Rattle.pv_ast.specs.declared.fault.ShapeFault.{ShapeFault}
use Rattle.pv_ast.specs.Rules.Items as items
use Rattle.pv_ast.specs.Rules.Items.{Facts, Form, Use, Item, Shape, variable, literal, shift, element, guard, fixing, other, unused, shifted, elsewhere, constant, fact, permission, committed, position, guarded, fixed, shape_of, shape_of_each, shape_of_kind, item_of, facts_in_kind, item_in_kind, item_of_kind, item_of_pure, item_of_use, item_if, is_term, shift_of, element_at, form_if, form_of_operator, form_of_index, or_else, has_variable_and_term, is_guard, is_fixing, is_empty}
use Rattle.pv_shapes.specs.Parts.{facts_of, compares, IsElement, HasParts}
use Rattle.pv_shapes.proofs.Layers.{kind_layer, at_expr, at_kind, at_each}

-- one layer of an expression, with the expressions below it
abbrev pub layer : Expr → ExprKind-F ExprKind Each Expr
layer e = out-ExprKind e.kind

-- an expression by its layer
rolled : (k : ExprKind) (l : ExprKind-F ExprKind Each Expr) → out-ExprKind k ≡ l → k ≡ roll-ExprKind l
rolled k l h = sym (roll-out-ExprKind k) ∙ ap roll-ExprKind h

pub facts_by_layer : (name : ℕ) (e : Expr) → facts_of name e ≡ facts_in_kind (kind_layer (layer e)) name
facts_by_layer name e = ap (λ s. s.facts name) (at_expr e) ∙ ap (λ k. k.facts name) (at_kind e.kind)

pub item_by_layer : (name : ℕ) (e : Expr) → item_of name e ≡ item_in_kind (kind_layer (layer e)) name
item_by_layer name e = ap (λ s. s.item name) (at_expr e) ∙ ap (λ k. k.item name) (at_kind e.kind)

-- Elements.

if_no_element : (b : Bool) (f : Form) (s : ℤ) → (f ≡ element s → ⊥) → form_if b f ≡ element s → ⊥
if_no_element true f s h e = h e
if_no_element false f s h e = cc

raised_no_element : (o : Option ℕ) (s : ℤ) → items.raised o ≡ element s → ⊥
raised_no_element None s e = cc
raised_no_element (Some n) s e = cc

lowered_no_element : (o : Option ℕ) (s : ℤ) → items.lowered o ≡ element s → ⊥
lowered_no_element None s e = cc
lowered_no_element (Some n) s e = cc

else_no_element : (b : Bool) (f : Form) (s : ℤ) → (f ≡ element s → ⊥) → (if b then f else other) ≡ element s → ⊥
else_no_element true f s h e = h e
else_no_element false f s h e = cc

operator_no_element : (o : Operator) (a b : Facts) (s : ℤ) → form_of_operator o a b ≡ element s → ⊥
operator_no_element op.Add a b s e = else_no_element _ _ s (raised_no_element (items.literal_of b.form) s) e
operator_no_element op.Sub a b s e = else_no_element _ _ s (lowered_no_element (items.literal_of b.form) s) e
operator_no_element op.Mul a b s e = cc
operator_no_element op.Eq a b s e = if_no_element _ fixing s (λ h. cc) e
operator_no_element op.Ne a b s e = cc
operator_no_element op.Lt a b s e = if_no_element _ guard s (λ h. cc) e
operator_no_element op.Le a b s e = if_no_element _ guard s (λ h. cc) e
operator_no_element op.Gt a b s e = if_no_element _ guard s (λ h. cc) e
operator_no_element op.Ge a b s e = if_no_element _ guard s (λ h. cc) e
operator_no_element op.And a b s e = if_no_element _ guard s (λ h. cc) e
operator_no_element op.Or a b s e = cc
operator_no_element op.Implies a b s e = cc
operator_no_element op.Star a b s e = cc

variable_no_element : (b : Bool) (s : ℤ) → (items.facts_of_variable b).form ≡ element s → ⊥
variable_no_element true s e = cc
variable_no_element false s e = cc

shift_at : (o : Option ℤ) (s : ℤ) → element_at o ≡ element s → o ≡ Some s
shift_at None s e = absurd cc
shift_at (Some t) s e = cc

element_parts : (term : Bool) (o : Option ℤ) (s : ℤ) → (if term then element_at o else other) ≡ element s
    → (term ≡ true) × (o ≡ Some s)
element_parts true o s e = (refl, shift_at o s e)
element_parts false o s e = absurd cc

each_no_element : (name : ℕ) (e : Each) (s : ℤ) → ((shape_of_each e).facts name).form ≡ element s → ⊥
each_no_element name e s h = let i = sym (ap (λ x. (x.facts name).form) (at_each e)) ∙ h in cc i

element_layer : (name : ℕ) (s : ℤ) (e : Expr) (l : ExprKind-F ExprKind Each Expr) → out-ExprKind e.kind ≡ l
    → (facts_in_kind (kind_layer l) name).form ≡ element s → IsElement name s e
element_layer name s e (ExprKind-F.Number n) i h = absurd cc
element_layer name s e (ExprKind-F.Truth b) i h = absurd cc
element_layer name s e ExprKind-F.Null i h = absurd cc
element_layer name s e ExprKind-F.This i h = absurd cc
element_layer name s e ExprKind-F.Result i h = absurd cc
element_layer name s e (ExprKind-F.Var w) i h = absurd (variable_no_element (nat_eq w.name.0 name) s h)
element_layer name s e (ExprKind-F.Field a w) i h = absurd cc
element_layer name s e (ExprKind-F.Index a x) i h =
    let parts = element_parts (is_term (facts_of name a)) (shift_of (facts_of name x).form) s h in
    record {
      array = a;
      index = x;
      stands = rolled e.kind (ExprKind-F.Index a x) i ∙ tree.rolls-Index a x;
      term = parts.0;
      shift = parts.1;
    }
element_layer name s e (ExprKind-F.Not a) i h = absurd cc
element_layer name s e (ExprKind-F.Minus a) i h = absurd cc
element_layer name s e (ExprKind-F.Binary o a b) i h = absurd (operator_no_element o (facts_of name a) (facts_of name b) s h)
element_layer name s e (ExprKind-F.Old a) i h = absurd cc
element_layer name s e (ExprKind-F.Perm a b c d) i h = absurd cc
element_layer name s e (ExprKind-F.Token t a) i h = absurd cc
element_layer name s e (ExprKind-F.Instance o w args) i h = absurd cc
element_layer name s e (ExprKind-F.Each x) i h = absurd (each_no_element name x s h)

element_of : (name : ℕ) (s : ℤ) (e : Expr) → (facts_of name e).form ≡ element s → IsElement name s e
element_of name s e h = element_layer name s e (layer e) refl (sym (ap (λ f. f.form) (facts_by_layer name e)) ∙ h)

-- Pure items.

some_item : (a b : Item) → Some a ≡ Some b → a ≡ b
some_item a b e = cc

pure_or : (pure : Bool) (uses : Use) (rest : Option Item) (item : Item)
    → or_else (if pure then item_of_use uses else None) rest ≡ Some item
    → ((pure ≡ true) × (item_of_use uses ≡ Some item)) ⊎ (rest ≡ Some item)
pure_or true unused rest item e = inl (refl, e)
pure_or true (shifted s) rest item e = inl (refl, e)
pure_or true elsewhere rest item e = inr e
pure_or false uses rest item e = inr e

pure_parts : (name : ℕ) (e : Expr) (uses : Use) (item : Item) → (facts_of name e).pure ≡ true → (facts_of name e).uses ≡ uses
    → item_of_use uses ≡ Some item → HasParts name item e
pure_parts name e unused item p u h = subst (λ x. HasParts name x e) (some_item constant item h) (record { pure = p; uses = u })
pure_parts name e (shifted s) item p u h =
    subst (λ x. HasParts name x e) (some_item (fact s) item h) (record { pure = p; uses = u })
pure_parts name e elsewhere item p u h = absurd cc

-- Items of the other forms.

location_parts : (form : Form) (item : Item) (P : Item → Type 0) → ((s : ℤ) → form ≡ element s → P (permission s))
    → items.item_of_location form ≡ Some item → P item
location_parts (element s) item P h e = subst P (some_item (permission s) item e) (h s refl)
location_parts variable item P h e = absurd cc
location_parts (literal n) item P h e = absurd cc
location_parts (shift s) item P h e = absurd cc
location_parts guard item P h e = absurd cc
location_parts fixing item P h e = absurd cc
location_parts other item P h e = absurd cc

if_parts : (b : Bool) (a item : Item) → item_if b a ≡ Some item → (b ≡ true) × (a ≡ item)
if_parts true a item e = (refl, some_item a item e)
if_parts false a item e = absurd cc

token_parts : (name : ℕ) (e operand : Expr) (t : Token) (item : Item) → e.kind ≡ tree.Token t operand
    → items.item_of_token t (facts_of name operand) ≡ Some item → HasParts name item e
token_parts name e operand token.Idle item i h = absurd cc
token_parts name e operand token.Running item i h = absurd cc
token_parts name e operand token.Committed item i h =
    let parts = if_parts (is_term (facts_of name operand)) committed item h in
    subst (λ x. HasParts name x e) parts.1 (record { operand = operand; stands = i; term = parts.0 })
token_parts name e operand token.Uncommitted item i h = absurd cc

comparison_parts : (name : ℕ) (e a b : Expr) (o : Operator) (item : Item) → e.kind ≡ tree.Binary o a b → compares o ≡ true
    → items.item_of_comparison (facts_of name a) (facts_of name b) ≡ Some item → HasParts name item e
comparison_parts name e a b o item i c h =
    let parts = if_parts (has_variable_and_term (facts_of name a) (facts_of name b)) position item h in
    subst (λ x. HasParts name x e) parts.1 (record {
      operator = o;
      left = a;
      right = b;
      stands = i;
      comparison = c;
      sides = parts.0;
    })

guard_form : (form : Form) → is_guard form ≡ true → form ≡ guard
guard_form guard e = refl
guard_form variable e = absurd cc
guard_form (literal n) e = absurd cc
guard_form (shift s) e = absurd cc
guard_form (element s) e = absurd cc
guard_form fixing e = absurd cc
guard_form other e = absurd cc

fixing_form : (form : Form) → is_fixing form ≡ true → form ≡ fixing
fixing_form fixing e = refl
fixing_form variable e = absurd cc
fixing_form (literal n) e = absurd cc
fixing_form (shift s) e = absurd cc
fixing_form (element s) e = absurd cc
fixing_form guard e = absurd cc
fixing_form other e = absurd cc

empty_faults : (fs : List ShapeFault) → is_empty fs ≡ true → fs ≡ []
empty_faults [] e = refl
empty_faults (f ∷ fs) e = absurd cc

guarded_parts : (name : ℕ) (e a b : Expr) (under : Option Item) (item : Item) → e.kind ≡ tree.Binary op.Implies a b
    → (facts_of name a).form ≡ guard → item_of name b ≡ under → items.guarded_item under ≡ Some item → HasParts name item e
guarded_parts name e a b None item i g u h = absurd cc
guarded_parts name e a b (Some x) item i g u h =
    subst (λ y. HasParts name y e) (some_item (guarded x) item h)
    (record { left = a; right = b; stands = i; guards = g; under = u })

three_true : (a b c : Bool) → (a && b && c) ≡ true → (a ≡ true) × (b ≡ true) × (c ≡ true)
three_true true true true e = (refl, refl, refl)
three_true true true false e = absurd cc
three_true true false c e = absurd cc
three_true false b c e = absurd cc

fixed_parts : (name : ℕ) (e a b : Expr) (item : Item) → e.kind ≡ tree.Binary op.Implies a b
    → item_if (is_fixing (facts_of name a).form && is_term (facts_of name b) && is_empty (shape_of b).faults) fixed ≡ Some item
    → HasParts name item e
fixed_parts name e a b item i h =
    let parts =
    if_parts (is_fixing (facts_of name a).form && is_term (facts_of name b) && is_empty (shape_of b).faults) fixed item h in
    let facts =
    three_true (is_fixing (facts_of name a).form) (is_term (facts_of name b)) (is_empty (shape_of b).faults) parts.0 in
    subst (λ x. HasParts name x e) parts.1 (record {
      left = a;
      formula = b;
      stands = i;
      fixes = fixing_form (facts_of name a).form facts.0;
      term = facts.1;
      shaped = empty_faults (shape_of b).faults facts.2;
    })

implication_parts : (name : ℕ) (e a b : Expr) (guards : Bool) (item : Item) → e.kind ≡ tree.Binary op.Implies a b
    → is_guard (facts_of name a).form ≡ guards
    → (if guards then items.guarded_item (item_of name b) else item_if
    (is_fixing (facts_of name a).form && is_term (facts_of name b) && is_empty (shape_of b).faults) fixed) ≡ Some item
    → HasParts name item e
implication_parts name e a b true item i g h =
    guarded_parts name e a b (item_of name b) item i (guard_form (facts_of name a).form g) refl h
implication_parts name e a b false item i g h = fixed_parts name e a b item i h

operator_parts : (name : ℕ) (e a b : Expr) (o : Operator) (item : Item) → e.kind ≡ tree.Binary o a b
    → items.item_of_operator o (facts_of name a) (facts_of name b) (item_of name b) (shape_of b).faults ≡ Some item
    → HasParts name item e
operator_parts name e a b op.Add item i h = absurd cc
operator_parts name e a b op.Sub item i h = absurd cc
operator_parts name e a b op.Mul item i h = absurd cc
operator_parts name e a b op.Eq item i h = comparison_parts name e a b op.Eq item i refl h
operator_parts name e a b op.Ne item i h = comparison_parts name e a b op.Ne item i refl h
operator_parts name e a b op.Lt item i h = comparison_parts name e a b op.Lt item i refl h
operator_parts name e a b op.Le item i h = comparison_parts name e a b op.Le item i refl h
operator_parts name e a b op.Gt item i h = comparison_parts name e a b op.Gt item i refl h
operator_parts name e a b op.Ge item i h = comparison_parts name e a b op.Ge item i refl h
operator_parts name e a b op.And item i h = absurd cc
operator_parts name e a b op.Or item i h = absurd cc
operator_parts name e a b op.Implies item i h = implication_parts name e a b (is_guard (facts_of name a).form) item i refl h
operator_parts name e a b op.Star item i h = absurd cc

kind_parts : (name : ℕ) (e : Expr) (l : ExprKind-F ExprKind Each Expr) (item : Item) → out-ExprKind e.kind ≡ l
    → item_of_kind (kind_layer l) name ≡ Some item → HasParts name item e
kind_parts name e (ExprKind-F.Perm place parts whole span) item i h =
    location_parts (facts_of name place).form item (λ x. HasParts name x e)
    (λ s f. record {
      place = place;
      parts = parts;
      whole = whole;
      span = span;
      stands = rolled e.kind (ExprKind-F.Perm place parts whole span) i ∙ tree.rolls-Perm place parts whole span;
      element =
          element_of name s place f;
    }) h
kind_parts name e (ExprKind-F.Token t operand) item i h =
    token_parts name e operand t item (rolled e.kind (ExprKind-F.Token t operand) i ∙ tree.rolls-Token t operand) h
kind_parts name e (ExprKind-F.Binary o a b) item i h =
    operator_parts name e a b o item (rolled e.kind (ExprKind-F.Binary o a b) i ∙ tree.rolls-Binary o a b) h
kind_parts name e (ExprKind-F.Number n) item i h = absurd cc
kind_parts name e (ExprKind-F.Truth b) item i h = absurd cc
kind_parts name e ExprKind-F.Null item i h = absurd cc
kind_parts name e ExprKind-F.This item i h = absurd cc
kind_parts name e ExprKind-F.Result item i h = absurd cc
kind_parts name e (ExprKind-F.Var w) item i h = absurd cc
kind_parts name e (ExprKind-F.Field a w) item i h = absurd cc
kind_parts name e (ExprKind-F.Index a x) item i h = absurd cc
kind_parts name e (ExprKind-F.Not a) item i h = absurd cc
kind_parts name e (ExprKind-F.Minus a) item i h = absurd cc
kind_parts name e (ExprKind-F.Old a) item i h = absurd cc
kind_parts name e (ExprKind-F.Instance o w args) item i h = absurd cc
kind_parts name e (ExprKind-F.Each x) item i h = absurd cc

pub item_has_parts : (name : ℕ) (e : Expr) (item : Item) → item_of name e ≡ Some item → HasParts name item e
item_has_parts name e item h =
    let l = kind_layer (layer e) in
    let f = facts_by_layer name e in
    let told : ((facts_in_kind l name).pure ≡ true) × (item_of_use (facts_in_kind l name).uses ≡ Some item)
    ⊎ (item_of_kind l name ≡ Some item) =
    pure_or (facts_in_kind l name).pure (facts_in_kind l name).uses (item_of_kind l name) item (sym (item_by_layer name e) ∙ h) in
    elim told [
      | inl p ↦ pure_parts name e (facts_in_kind l name).uses item (ap (λ x. x.pure) f ∙ p.0) (ap (λ x. x.uses) f) p.1
      | inr k ↦ kind_parts name e (layer e) item refl k
    ]
