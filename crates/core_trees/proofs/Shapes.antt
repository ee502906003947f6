-- What the shape of an expression says of what it becomes: by its form, and where it is pure.
use Rattle.std.proofs.Common.{◌≡◌, ℕ, ℤ, pos, ◌-ℤ◌, Bool, true, false, ◌&&◌, Option, Some, None, is_some, map, refl, sym, ◌∙◌, ap, subst}
use Rattle.std.proofs.lemmas.Bool.{and_parts, both_ways, eq-eqb, eqb-true}
use Rattle.std.specs.Prelude.{nat_eq, option_map, if◌then◌else◌}
use Rattle.pv_base.specs.declared.Name.{Name}
use Rattle.pv_base.specs.declared.Span.{Span}
use Rattle.pv_ast.specs.declared.Operator.{Operator}
use Rattle.pv_ast.specs.declared.Operator.TheVariants as op
use Rattle.pv_ast.specs.declared.PvType.{PvType}
use Rattle.pv_ast.specs.declared.PvType.TheVariants.{Int}
use Rattle.pv_ast.specs.declared.Expr.{Expr}
use Rattle.pv_ast.specs.declared.ExprKind.{ExprKind-F}
use Rattle.pv_ast.specs.declared.scope.Declared.{Declared}
use Rattle.pv_ast.specs.declared.standing.Seen.{Seen}
use Rattle.pv_ast.specs.declared.standing.Typing.{Typing}
use Rattle.pv_ast.specs.declared.standing.Typing.TheVariants.{Typed}
use Rattle.pv_ast.specs.Rules.Scoping.{Visible, variable_named}
use Rattle.pv_ast.specs.Rules.Items as shapes
use Rattle.pv_ast.specs.Rules.Items.{Facts, Form, variable, literal, shift, element, guard, fixing, other, is_variable, literal_of, raised, lowered, element_at, shift_of, form_if, facts_of_variable, is_variable_and_term, item_of_pure, or_else, is_fixing}
use Rattle.pv_ast.specs.Rules.Expressions.{Environment, seen_of_name, typing_in}
use Rattle.pv_picks.specs.Plain.Core.{Expression, Formula}
use Rattle.pv_picks.specs.Plain.Core as core
use Rattle.pv_picks.specs.Judge.Repetitions.{is_position, shift_if, shift_in}
use Rattle.pv_picks.specs.Elaborating.Operations.{number, is_literal, plainly, compared, computed, operation}
use Rattle.pv_picks.specs.Elaborating.Names.{elements_of, named}
use Rattle.pv_picks.specs.Elaborating.Expressions.{ElaboratedExpression, ElaboratedKind, ElaboratedEach, Layer, elaborated_in_kind, elaborated_expression, elaborated_each, shapes_in, is_fact}
use Rattle.core_trees.proofs.Layers.{LayerStep, piece_induction}

abbrev pub type_of : Option Declared → Option PvType
type_of o = option_map (λ d. d.kind) o

-- the name is that of a number in scope
abbrev pub IsPosition : Visible → Name → Type 0
IsPosition v name = type_of (variable_named v name) ≡ Some Int

-- Forms

-- the index is the position of this name with so much added
abbrev IsShifted : Name → ℤ → Expression → Type 0
IsShifted name s index = shift_in name index ≡ Some s

pub record IsElement (name : Name) (s : ℤ) (e : Expression) : Type 0 where
  pub typing : Typing
  pub array : Expression
  pub index : Expression
  pub at : Span
  pub is : e ≡ core.Element (elements_of typing) array index at
  pub reads : IsShifted name s index

abbrev pub is_element : Form → Bool
is_element (element s) = true
is_element _ = false

abbrev pub IsAccess : Expression → Type 0
IsAccess (core.Element type e i span) = Unit {0}
IsAccess _ = ⊥

-- what an expression of a form becomes
abbrev pub FormSays : Name → Form → Expression → Type 0
FormSays name variable e = e ≡ core.Variable name
FormSays name (literal n) e = e ≡ number (pos n)
FormSays name (shift s) e = IsShifted name s e
FormSays name (element s) e = IsElement name s e
FormSays name guard e = Unit {0}
FormSays name fixing e = (y : Expression) × (e ≡ core.Equal true (core.Variable name) y)
FormSays name other e = Unit {0}

pub says_variable : (name : Name) (form : Form) (e : Expression) → is_variable form ≡ true → FormSays name form e
    → e ≡ core.Variable name
says_variable name variable e is says = says
says_variable name (literal n) e is says = absurd cc
says_variable name (shift s) e is says = absurd cc
says_variable name (element s) e is says = absurd cc
says_variable name guard e is says = absurd cc
says_variable name fixing e is says = absurd cc
says_variable name other e is says = absurd cc

says_fixing : (name : Name) (form : Form) (e : Expression) → is_fixing form ≡ true → FormSays name form e
    → (y : Expression) × (e ≡ core.Equal true (core.Variable name) y)
says_fixing name fixing e is says = says
says_fixing name variable e is says = absurd cc
says_fixing name (literal n) e is says = absurd cc
says_fixing name (shift s) e is says = absurd cc
says_fixing name (element s) e is says = absurd cc
says_fixing name guard e is says = absurd cc
says_fixing name other e is says = absurd cc

own_position : (name : Name) → is_position name (core.Variable name) ≡ true
own_position name = eq-eqb name.0 name.0 refl

sum_shifted : (name : Name) (n : ℕ) (span : Span)
    → IsShifted name (pos n) (core.Compute core.Plain core.Plus (core.Variable name) (number (pos n)) span)
sum_shifted name n span = ap (λ b. shift_if b core.Plus (Some (pos n))) (own_position name)

difference_shifted : (name : Name) (n : ℕ) (span : Span)
    → IsShifted name (pos 0 -ℤ pos n) (core.Compute core.Plain core.Minus (core.Variable name) (number (pos n)) span)
difference_shifted name n span = ap (λ b. shift_if b core.Minus (Some (pos n))) (own_position name)

variable_shifted : (name : Name) → IsShifted name (pos 0) (core.Variable name)
variable_shifted name = ap (λ b. if b then Some (pos 0) else None) (own_position name)

raised_says : (name : Name) (f : Form) (x y : Expression) (span : Span) → x ≡ core.Variable name → FormSays name f y
    → FormSays name (raised (literal_of f)) (computed core.Plus span x y)
raised_says name (literal n) x y span is says =
    subst (λ (z : Expression). IsShifted name (pos n) (computed core.Plus span z y)) (sym is)
    (subst (λ (z : Expression). IsShifted name (pos n) (computed core.Plus span (core.Variable name) z)) (sym says)
    (sum_shifted name n span))
raised_says name variable x y span is says = tt
raised_says name (shift s) x y span is says = tt
raised_says name (element s) x y span is says = tt
raised_says name guard x y span is says = tt
raised_says name fixing x y span is says = tt
raised_says name other x y span is says = tt

lowered_says : (name : Name) (f : Form) (x y : Expression) (span : Span) → x ≡ core.Variable name → FormSays name f y
    → FormSays name (lowered (literal_of f)) (computed core.Minus span x y)
lowered_says name (literal n) x y span is says =
    subst (λ (z : Expression). IsShifted name (pos 0 -ℤ pos n) (computed core.Minus span z y)) (sym is)
    (subst (λ (z : Expression). IsShifted name (pos 0 -ℤ pos n) (computed core.Minus span (core.Variable name) z)) (sym says)
    (difference_shifted name n span))
lowered_says name variable x y span is says = tt
lowered_says name (shift s) x y span is says = tt
lowered_says name (element s) x y span is says = tt
lowered_says name guard x y span is says = tt
lowered_says name fixing x y span is says = tt
lowered_says name other x y span is says = tt

sum_says : (name : Name) (b : Bool) (f : Form) (x y : Expression) (span : Span) → (b ≡ true → x ≡ core.Variable name)
    → FormSays name f y → FormSays name (if b then raised (literal_of f) else other) (computed core.Plus span x y)
sum_says name true f x y span is says = raised_says name f x y span (is refl) says
sum_says name false f x y span is says = tt

difference_says : (name : Name) (b : Bool) (f : Form) (x y : Expression) (span : Span) → (b ≡ true → x ≡ core.Variable name)
    → FormSays name f y → FormSays name (if b then lowered (literal_of f) else other) (computed core.Minus span x y)
difference_says name true f x y span is says = lowered_says name f x y span (is refl) says
difference_says name false f x y span is says = tt

element_says : (name : Name) (b : Bool) (f : Form) (t : Typing) (x i : Expression) (span : Span) → FormSays name f i
    → FormSays name (if b then element_at (shift_of f) else other) (core.Element (elements_of t) x i span)
element_says name true variable t x i span says = record {
  typing = t;
  array = x;
  index = i;
  at = span;
  is = refl;
  reads = subst (λ (z : Expression). IsShifted name (pos 0) z) (sym says) (variable_shifted name);
}
element_says name true (shift s) t x i span says =
    record { typing = t; array = x; index = i; at = span; is = refl; reads = says }
element_says name true (literal n) t x i span says = tt
element_says name true (element s) t x i span says = tt
element_says name true guard t x i span says = tt
element_says name true fixing t x i span says = tt
element_says name true other t x i span says = tt
element_says name false f t x i span says = tt

guard_says : (name : Name) (b : Bool) (e : Expression) → FormSays name (form_if b guard) e
guard_says name true e = tt
guard_says name false e = tt

compared_variable : (name : Name) (b : Bool)
    → (if b then plainly (core.Variable name) else core.Variable name) ≡ core.Variable name
compared_variable name true = refl
compared_variable name false = refl

fixing_says : (name : Name) (b : Bool) (x y : Expression) → (b ≡ true → x ≡ core.Variable name)
    → FormSays name (form_if b fixing) (core.Equal true (compared y x) (compared x y))
fixing_says name true x y is =
    (compared x y, ap (λ e. core.Equal true e (compared x y)) (ap (compared y) (is refl) ∙ compared_variable name (is_literal y)))
fixing_says name false x y is = tt

-- Laws of pieces

-- an expression by its form; a position is a number; an element is one whatever the name; purity hangs on no variable; in a
-- conjunct what is pure is one fact; and what is pure may be an item
pub record Shows (seen : Environment → Visible → Seen) (expression : Environment → Visible → Expression)
    (formula : Option Span → Environment → Visible → Formula) (facts : ℕ → Facts) (item : ℕ → Option shapes.Item) : Type 0 where
  pub same : (m n : ℕ) → (facts m).pure ≡ (facts n).pure
  pub says : (a : Environment) (v : Visible) (name : Name) → IsPosition v name
      → FormSays name (facts name.0).form (expression a v)
  pub number : (a : Environment) (v : Visible) (name : Name) → IsPosition v name → is_variable (facts name.0).form ≡ true
      → (seen a v).typing ≡ Typed Int
  pub access : (a : Environment) (v : Visible) (n : ℕ) → is_element (facts n).form ≡ true → IsAccess (expression a v)
  pub factual : (facts 0).pure ≡ true → (c : Span) (a : Environment) (v : Visible)
      → formula (Some c) a v ≡ core.Fact (expression a v) c
  pub few : (n : ℕ) → is_some (item_of_pure (facts n)) ≡ true → is_some (item n) ≡ true

abbrev KindLaw : ElaboratedKind → Type 0
KindLaw k = (span : Span) → Shows k.checked.seen (k.expression span) (k.formula span) k.shape.facts k.shape.item

abbrev EachLaw : ElaboratedEach → Type 0
EachLaw q = (n : ℕ) → ((q.shape.facts n).pure ≡ false) × ((q.shape.facts n).form ≡ other)

abbrev pub ExprLaw : ElaboratedExpression → Type 0
ExprLaw p = Shows p.checked.seen p.expression p.formula p.shape.facts p.shape.item

abbrev LayerLaw : Layer → Type 0
LayerLaw l = KindLaw (elaborated_in_kind l)

first_some : (x y : Option shapes.Item) → is_some x ≡ true → is_some (or_else x y) ≡ true
first_some None y h = absurd cc
first_some (Some x) y h = refl

pure_first : (l : Layer) (n : ℕ) → is_some (item_of_pure (shapes.facts_in_kind (shapes_in l) n)) ≡ true
    → is_some (shapes.item_in_kind (shapes_in l) n) ≡ true
pure_first l n h = first_some (item_of_pure (shapes.facts_in_kind (shapes_in l) n)) (shapes.item_of_kind (shapes_in l) n) h

-- Names

number_named : (a : Environment) (span : Span) (name : Name) (o : Option Declared) → type_of o ≡ Some Int
    → (named a span name o ≡ core.Variable name) × ((seen_of_name a name o).typing ≡ Typed Int)
number_named a span name None k = absurd cc
number_named a span name (Some d) k = let same : d.kind ≡ Int = cc in (refl, ap Typed same)

-- names of one number
pub equal_names : (x y : Name) → nat_eq x.0 y.0 ≡ true → x ≡ y
equal_names x y h = let e : x.0 ≡ y.0 = eqb-true x.0 y.0 h in ap (λ n. record { 0 = n }) e

position_named : (a : Environment) (v : Visible) (span : Span) (own name : Name) → nat_eq own.0 name.0 ≡ true → IsPosition v name
    → (named a span own (variable_named v own) ≡ core.Variable name)
    × ((seen_of_name a own (variable_named v own)).typing ≡ Typed Int)
position_named a v span own name is p =
    subst (λ (n : Name). (named a span n (variable_named v n) ≡ core.Variable name)
    × ((seen_of_name a n (variable_named v n)).typing ≡ Typed Int)) (sym (equal_names own name is))
    (number_named a span name (variable_named v name) p)

name_says : (name : Name) (b : Bool) (e : Expression) → (b ≡ true → e ≡ core.Variable name)
    → FormSays name (facts_of_variable b).form e
name_says name true e is = is refl
name_says name false e is = tt

pub variable_pure : (b : Bool) → (facts_of_variable b).pure ≡ true
variable_pure true = refl
variable_pure false = refl

no_element : {A : Type 0} (b : Bool) → is_element (facts_of_variable b).form ≡ true → A
no_element true k = absurd cc
no_element false k = absurd cc

name_number : {A : Type 0} (b : Bool) → (b ≡ true → A) → is_variable (facts_of_variable b).form ≡ true → A
name_number true is k = is refl
name_number false is k = absurd cc

-- Operators

both_same : (f g : ℕ → Facts) → ((m n : ℕ) → (f m).pure ≡ (f n).pure) → ((m n : ℕ) → (g m).pure ≡ (g n).pure) → (m n : ℕ)
    → ((f m).pure && (g m).pure) ≡ ((f n).pure && (g n).pure)
both_same f g h k m n = ap (λ b. b && (g m).pure) (h m n) ∙ ap (λ b. (f n).pure && b) (k m n)

-- neither a position nor an element
abbrev IsNeither : Form → Type 0
IsNeither form = (is_variable form ≡ false) × (is_element form ≡ false)

neither_if : (b : Bool) (f : Form) → IsNeither f → IsNeither (if b then f else other)
neither_if true f h = h
neither_if false f h = (refl, refl)

raised_neither : (o : Option ℕ) → IsNeither (raised o)
raised_neither None = (refl, refl)
raised_neither (Some n) = (refl, refl)

lowered_neither : (o : Option ℕ) → IsNeither (lowered o)
lowered_neither None = (refl, refl)
lowered_neither (Some n) = (refl, refl)

index_form : (b : Bool) (o : Option ℤ) → is_variable (if b then element_at o else other) ≡ false
index_form true None = refl
index_form true (Some s) = refl
index_form false o = refl

-- no operator gives a position or an element
operator_neither : (o : Operator) (f g : Facts) → IsNeither (shapes.form_of_operator o f g)
operator_neither op.Add f g = neither_if (is_variable f.form) _ (raised_neither (literal_of g.form))
operator_neither op.Sub f g = neither_if (is_variable f.form) _ (lowered_neither (literal_of g.form))
operator_neither op.Eq f g = neither_if (is_variable_and_term f g) fixing (refl, refl)
operator_neither op.Lt f g = neither_if _ guard (refl, refl)
operator_neither op.Le f g = neither_if _ guard (refl, refl)
operator_neither op.Gt f g = neither_if _ guard (refl, refl)
operator_neither op.Ge f g = neither_if _ guard (refl, refl)
operator_neither op.And f g = neither_if _ guard (refl, refl)
operator_neither _ f g = (refl, refl)

operator_says : (o : Operator) (name : Name) (f g : Facts) (x y : Expression) (span : Span) → FormSays name f.form x
    → FormSays name g.form y → FormSays name (shapes.form_of_operator o f g) (operation o span x y)
operator_says op.Add name f g x y span h k =
    sum_says name (is_variable f.form) g.form x y span (λ is. says_variable name f.form x is h) k
operator_says op.Sub name f g x y span h k =
    difference_says name (is_variable f.form) g.form x y span (λ is. says_variable name f.form x is h) k
operator_says op.Mul name f g x y span h k = tt
operator_says op.Eq name f g x y span h k =
    fixing_says name (is_variable_and_term f g) x y (λ is. says_variable name f.form x (and_parts _ _ is).0 h)
operator_says op.Ne name f g x y span h k = tt
operator_says op.Lt name f g x y span h k = guard_says name _ _
operator_says op.Le name f g x y span h k = guard_says name _ _
operator_says op.Gt name f g x y span h k = guard_says name _ _
operator_says op.Ge name f g x y span h k = guard_says name _ _
operator_says op.And name f g x y span h k = guard_says name _ _
operator_says op.Or name f g x y span h k = tt
operator_says op.Implies name f g x y span h k = tt
operator_says op.Star name f g x y span h k = tt

pub taken : {A : Type 0} (b : Bool) (x y : A) → b ≡ true → (if b then x else y) ≡ x
taken true x y h = refl
taken false x y h = absurd cc

operator_shown : (o : Operator) (x y : ElaboratedExpression) → ExprLaw x → ExprLaw y → LayerLaw (ExprKind-F.Binary o x y)
operator_shown o x y h k = λ span. record {
  same = both_same x.shape.facts y.shape.facts h.same k.same;
  says =
      λ a v name p. operator_says o name (x.shape.facts name.0) (y.shape.facts name.0) (x.expression a v)
      (y.expression a v) span (h.says a v name p) (k.says a v name p);
  number = λ a v name p is. absurd (both_ways _ (operator_neither o (x.shape.facts name.0) (y.shape.facts name.0)).0 is);
  access = λ a v n is. absurd (both_ways _ (operator_neither o (x.shape.facts n) (y.shape.facts n)).1 is);
  factual =
      λ pure c a v. taken (is_fact (Some c) o ((x.shape.facts 0).pure && (y.shape.facts 0).pure)) _ _ (ap (λ b. b && true) pure);
  few = pure_first (ExprKind-F.Binary o x y);
}

-- The induction

-- a kind of which no form is asked for
plain : (l : Layer) → ((m n : ℕ) → (shapes.facts_in_kind (shapes_in l) m).pure ≡ (shapes.facts_in_kind (shapes_in l) n).pure)
    → ((n : ℕ) → (shapes.facts_in_kind (shapes_in l) n).form ≡ other)
    → ((span : Span) → (shapes.facts_in_kind (shapes_in l) 0).pure ≡ true → (c : Span) (a : Environment) (v : Visible)
    → (elaborated_in_kind l).formula span (Some c) a v ≡ core.Fact ((elaborated_in_kind l).expression span a v) c) → LayerLaw l
plain l same form factual = λ span. record {
  same = same;
  says = λ a v name p. subst (λ (f : Form). FormSays name f ((elaborated_in_kind l).expression span a v)) (sym (form name.0)) tt;
  number = λ a v name p is. absurd (both_ways _ (ap is_variable (form name.0)) is);
  access = λ a v n is. absurd (both_ways _ (ap is_element (form n)) is);
  factual = factual span;
  few = pure_first l;
}

layer_law : LayerStep KindLaw EachLaw ExprLaw
layer_law (ExprKind-F.Number n) =
    λ span. record {
      same = λ m n. refl;
      says = λ a v name p. refl;
      number = λ a v name p is. absurd cc;
      access = λ a v n is. absurd cc;
      factual = λ pure c a v. refl;
      few = pure_first (ExprKind-F.Number n);
    }
layer_law (ExprKind-F.Truth b) = plain (ExprKind-F.Truth b) (λ m n. refl) (λ n. refl) (λ span pure c a v. refl)
layer_law ExprKind-F.Null = plain ExprKind-F.Null (λ m n. refl) (λ n. refl) (λ span pure c a v. refl)
layer_law ExprKind-F.This = plain ExprKind-F.This (λ m n. refl) (λ n. refl) (λ span pure c a v. refl)
layer_law ExprKind-F.Result = plain ExprKind-F.Result (λ m n. refl) (λ n. refl) (λ span pure c a v. refl)
layer_law (ExprKind-F.Var w) = λ span. record {
  same = λ m n. variable_pure (nat_eq w.name.0 m) ∙ sym (variable_pure (nat_eq w.name.0 n));
  says = λ a v name p. name_says name (nat_eq w.name.0 name.0) _ (λ is. (position_named a v span w.name name is p).0);
  number = λ a v name p. name_number (nat_eq w.name.0 name.0) (λ is. (position_named a v span w.name name is p).1);
  access = λ a v n. no_element (nat_eq w.name.0 n);
  factual = λ pure c a v. refl;
  few = pure_first (ExprKind-F.Var w);
}
layer_law (ExprKind-F.Field e w) = plain (ExprKind-F.Field (elaborated_expression e.0) w) e.1.same (λ n. refl)
    (λ span pure c a v. refl)
layer_law (ExprKind-F.Index e i) = λ span. record {
  same = both_same (elaborated_expression e.0).shape.facts (elaborated_expression i.0).shape.facts e.1.same i.1.same;
  says = λ a v name p. element_says name _ ((elaborated_expression i.0).shape.facts name.0).form
      (typing_in (elaborated_expression e.0).checked a v)
      ((elaborated_expression e.0).expression a v) _ span (i.1.says a v name p);
  number = λ a v name p is. absurd (both_ways _ (index_form _ _) is);
  access = λ a v n is. tt;
  factual = λ pure c a v. refl;
  few = pure_first (ExprKind-F.Index (elaborated_expression e.0) (elaborated_expression i.0));
}
layer_law (ExprKind-F.Not e) = plain (ExprKind-F.Not (elaborated_expression e.0)) e.1.same (λ n. refl) (λ span pure c a v. refl)
layer_law (ExprKind-F.Minus e) = plain (ExprKind-F.Minus (elaborated_expression e.0)) e.1.same (λ n. refl)
    (λ span pure c a v. refl)
layer_law (ExprKind-F.Binary o x y) = operator_shown o (elaborated_expression x.0) (elaborated_expression y.0) x.1 y.1
layer_law (ExprKind-F.Old e) = plain (ExprKind-F.Old (elaborated_expression e.0)) e.1.same (λ n. refl) (λ span pure c a v. refl)
layer_law (ExprKind-F.Perm e checked whole amount) =
    plain (ExprKind-F.Perm (elaborated_expression e.0) checked whole amount) (λ m n. refl) (λ n. refl)
    (λ span pure c a v. absurd cc)
layer_law (ExprKind-F.Token t e) =
    plain (ExprKind-F.Token t (elaborated_expression e.0)) (λ m n. refl) (λ n. refl) (λ span pure c a v. absurd cc)
layer_law (ExprKind-F.Instance None w es) =
    plain (ExprKind-F.Instance None w (map elaborated_expression (map (λ e. e.0) es))) (λ m n. refl) (λ n. refl)
    (λ span pure c a v. absurd cc)
layer_law (ExprKind-F.Instance (Some e) w es) =
    plain (ExprKind-F.Instance (Some (elaborated_expression e.0)) w (map elaborated_expression (map (λ e. e.0) es))) (λ m n. refl)
    (λ n. refl)
    (λ span pure c a v. absurd cc)
layer_law (ExprKind-F.Each q) =
    plain (ExprKind-F.Each (elaborated_each q.0)) (λ m n. (q.1 m).0 ∙ sym (q.1 n).0) (λ n. (q.1 n).1)
    (λ span pure c a v. absurd (both_ways _ (q.1 0).0 pure))

pub shown : (e : Expr) → ExprLaw (elaborated_expression e)
shown =
    piece_induction KindLaw EachLaw ExprLaw layer_law (λ y n. (refl, refl))
    (λ span k law. record {
      same = (law span).same;
      says = (law span).says;
      number = (law span).number;
      access = (law span).access;
      factual = (law span).factual;
      few = (law span).few;
    })

-- a position is its variable, a number
pub position_shown : (e : Expr) (a : Environment) (v : Visible) (name : Name) → IsPosition v name
    → is_variable ((elaborated_expression e).shape.facts name.0).form ≡ true
    → ((elaborated_expression e).expression a v ≡ core.Variable name)
    × (typing_in (elaborated_expression e).checked a v ≡ Typed Int)
position_shown e a v name p is =
    (says_variable name _ _ is ((shown e).says a v name p), (shown e).number a v name p is)

-- what fixes a position is an equality of it
pub fixing_shown : (e : Expr) (a : Environment) (v : Visible) (name : Name) → IsPosition v name
    → is_fixing ((elaborated_expression e).shape.facts name.0).form ≡ true
    → (y : Expression) × ((elaborated_expression e).expression a v ≡ core.Equal true (core.Variable name) y)
fixing_shown e a v name p is = says_fixing name _ _ is ((shown e).says a v name p)
