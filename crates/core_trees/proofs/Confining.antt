-- An expression without a fault becomes a formula, and items, in which positions stand only where they are read.
use Rattle.std.proofs.Common.{◌≡◌, ℕ, ℤ, Bool, true, false, ◌&&◌, Option, Some, None, is_some, List, [], ◌∷◌, ◌++◌, map, refl, sym, subst, inl, inr}
use Rattle.std.proofs.lemmas.Bool.{and_parts, both_ways, eqb-true, eq-eqb}
use Rattle.std.specs.Prelude.{nat_eq, ◌⊎◌, if◌then◌else◌}
use Rattle.pv_base.specs.declared.Name.{Name}
use Rattle.pv_base.specs.declared.Span.{Span}
use Rattle.pv_ast.specs.declared.Word.{Word}
use Rattle.pv_ast.specs.declared.Operator.{Operator}
use Rattle.pv_ast.specs.declared.Operator.TheVariants as op
use Rattle.pv_ast.specs.declared.PvType.{PvType}
use Rattle.pv_ast.specs.declared.PvType.TheVariants.{Int, Truth}
use Rattle.pv_ast.specs.declared.Token.{Token}
use Rattle.pv_ast.specs.declared.Token.TheVariants as token
use Rattle.pv_ast.specs.declared.Expr.{Expr}
use Rattle.pv_ast.specs.declared.ExprKind.{ExprKind-F}
use Rattle.pv_ast.specs.declared.fault.ShapeFault.{ShapeFault}
use Rattle.pv_ast.specs.declared.scope.Declared.{Declared}
use Rattle.pv_ast.specs.declared.standing.Context.{Context}
use Rattle.pv_ast.specs.declared.standing.Need.{Need}
use Rattle.pv_ast.specs.declared.standing.Need.TheVariants.{Anything, Exactly, AnObject, AnArray}
use Rattle.pv_ast.specs.declared.standing.Typing.{Typing}
use Rattle.pv_ast.specs.declared.standing.Typing.TheVariants.{Typed}
use Rattle.pv_base.specs.Names.{same_name}
use Rattle.pv_ast.specs.Rules.Scoping.{Visible, variable_named}
use Rattle.pv_ast.specs.Rules.Typing as typing
use Rattle.pv_ast.specs.Rules.Expressions.{Environment, typing_in, is_array_length, is_length, need_of_target, with_bound, under_quantifier}
use Rattle.pv_ast.specs.Rules.Items as shapes
use Rattle.pv_ast.specs.Rules.Items.{Use, is_used, both_uses, Form, variable, literal, shift, element, guard, fixing, other, is_guard, is_fixing, is_term, Facts, facts_in_kind, facts_of_variable, facts_of_operator, item_of_use, item_of_pure, item_of_implication, item_of_operator, item_of_token, item_of_comparison, has_variable_and_term, item_if, guarded_item, is_empty, or_else, Whole, star_body, truth_body, clause, is_part, fault_unless, body_of, faults_of_operator, part_fault}
use Rattle.pv_picks.specs.Plain.Core.{Expression, Formula, Items, Item}
use Rattle.pv_picks.specs.Plain.Core as core
use Rattle.pv_picks.specs.Judge.Repetitions.{looks_in}
use Rattle.pv_picks.specs.Elaborating.Operations.{no_expression, negation, operation, compared, is_position}
use Rattle.pv_picks.specs.Elaborating.Names.{named, member_of, class_at, elements_of}
use Rattle.pv_picks.specs.Elaborating.Expressions.{ElaboratedExpression, ElaboratedKind, ElaboratedEach, Layer, elaborated_in_kind, elaborated_in_each, elaborated_expression, elaborated_each, shapes_in, conjunct, alone, joined, is_fact, is_pure, item_in_kind, formula_in_kind, items_in_kind, type_of_elaborated, units_of}
use Rattle.core_trees.proofs.Steadiness.{term_steady, negation_steady}
use Rattle.pv_picks.specs.Judge.Steady.{mentions, Steady, IsTerm}
use Rattle.core_trees.specs.Positions.{IsRepeated, ConfinedFormula, ConfinedItems, ConfinedItem}
use Rattle.core_trees.proofs.Clean.{Clean, no_first, no_second}
use Rattle.core_trees.proofs.Layers.{LayerStep, piece_induction}
use Rattle.core_trees.proofs.References.{is_reference, target_reference, array_reference, typed_no_reference, element_no_reference, operator_no_reference, old_reference}
use Rattle.core_trees.proofs.Looks.{TermLooks, term_looks, position_mentions}
use Rattle.core_trees.proofs.Terms.{says_repeated, ComparedLooks, FormSays, Says, term_says, negation_term, few_uses, operator_part, element_part, comparison_looks, permission_confined, shifted_confined, formula_if, together_confined, implied_confined}
use Rattle.core_trees.proofs.Settling.{meets_elaborated}

-- a part that has no fault is an item
part_item : (w : Whole) (i t : Bool) (fault : ShapeFault) → fault_unless (is_part w i t) fault ≡ [] → i ≡ true
part_item w true t fault h = refl
part_item star_body false t fault h = absurd cc
part_item truth_body false t fault h = absurd cc
part_item clause false t fault h = absurd cc

-- The laws of a kind, of a quantifier and of an expression

-- what the shape of a part says of what it becomes: of the expression, by its facts; of a reference that may stand in an item; of
-- the formula, where quantifiers stand in right places; of all of them, where it is an item for the position; and of those that
-- its parts become, where these are items
pub record Kept (name : Name) (t : Typing) (f : Facts) (kind : Option shapes.Item) (faults : List ShapeFault)
    (parts : Whole → List ShapeFault) (e : Expression) (formula_at : Option Span → Formula) (items_at : Option Span → Items)
    (item_at : Option Span → Item) : Type 0 where
  pub says : Says name f e
  pub reference : is_reference t ≡ true → is_some (item_of_use f.uses) ≡ true → IsTerm name e
  pub plain : is_some (item_of_pure f) ≡ true → is_some kind ≡ true
  pub formula : faults ≡ [] → (environment : Option Span) → ConfinedFormula (formula_at environment)
  pub whole : is_some kind ≡ true → (environment : Option Span) → ConfinedFormula (formula_at environment)
      × ConfinedItems name (items_at environment) × ConfinedItem name (item_at environment)
  pub joined : (w : Whole) → parts w ≡ [] → (environment : Option Span) → ConfinedFormula (formula_at environment)
      × ConfinedItems name (items_at environment)

abbrev pub KindLaw : ElaboratedKind → Type 0
KindLaw k = (name : Name) (span : Span) (a : Environment) (v : Visible) (c : Context) → Clean (k.checked.faults span a v c)
    → Kept name (k.checked.seen a v).typing (k.shape.facts name.0) (k.shape.item name.0) (k.shape.faults span)
    (λ w. k.shape.parts span w name.0) (k.expression span a v) (λ environment. k.formula span environment a v)
    (λ environment. k.items span name environment a v) (λ environment. k.item span name environment a v)

abbrev pub ElaboratedKept : Name → Environment → Visible → ElaboratedExpression → Type 0
ElaboratedKept name a v p =
    Kept name (typing_in p.checked a v) (p.shape.facts name.0) (p.shape.item name.0) p.shape.faults (λ w. p.shape.parts w name.0)
    (p.expression a v) (λ environment. p.formula environment a v) (λ environment. p.items name environment a v)
    (λ environment. p.item name environment a v)

abbrev pub ExprLaw : ElaboratedExpression → Type 0
ExprLaw p = (name : Name) (a : Environment) (v : Visible) (c : Context) (need : Need) → Clean (p.checked.faults a v c need)
    → ElaboratedKept name a v p

-- a quantifier is no item, and without a fault its body is made of items at its position
abbrev pub EachLaw : ElaboratedEach → Type 0
EachLaw q =
    ((name : Name) → ((q.shape.facts name.0).form ≡ other) × (item_of_pure (q.shape.facts name.0) ≡ None))
    × ((span : Span) (a : Environment) (v : Visible) (c : Context) → Clean (q.checked.faults span a v c) → q.shape.faults ≡ []
    → (environment : Span) → ConfinedFormula (q.formula environment a v))

abbrev LayerLaw : Layer → Type 0
LayerLaw l = KindLaw (elaborated_in_kind l)

first_some : (x y : Option shapes.Item) → is_some x ≡ true → is_some (or_else x y) ≡ true
first_some None y h = absurd cc
first_some (Some x) y h = refl

either_some : (x y : Option shapes.Item) → is_some (or_else x y) ≡ true → (is_some x ≡ true) ⊎ (is_some y ≡ true)
either_some None y h = inr h
either_some (Some x) y h = inl refl

pure_first : (l : Layer) (name : Name) → is_some (item_of_pure (facts_in_kind (shapes_in l) name.0)) ≡ true
    → is_some (shapes.item_in_kind (shapes_in l) name.0) ≡ true
pure_first l name h = first_some (item_of_pure (facts_in_kind (shapes_in l) name.0)) (shapes.item_of_kind (shapes_in l) name.0) h

few_pure : (f : Facts) → is_some (item_of_pure f) ≡ true → is_some (item_of_use f.uses) ≡ true
few_pure f h = by f.pure h
  where
    by : (b : Bool) → is_some (if b then item_of_use f.uses else None) ≡ true → is_some (item_of_use f.uses) ≡ true
    by true k = k
    by false k = absurd cc

-- an item that has no other kind is pure
only_pure : (f : Facts) → is_some (or_else (item_of_pure f) None) ≡ true → is_some (item_of_use f.uses) ≡ true
only_pure f h = by (either_some (item_of_pure f) None h)
  where
    by : (is_some (item_of_pure f) ≡ true) ⊎ (false ≡ true) → is_some (item_of_use f.uses) ≡ true
    by (inl i) = few_pure f i
    by (inr i) = absurd cc

-- an expression that is a fact as a formula and as an item
plain : (l : Layer) (name : Name) (t : Typing) (span : Span) (e : Expression) → Says name (facts_in_kind (shapes_in l) name.0) e
    → (is_reference t ≡ true → is_some (item_of_use (facts_in_kind (shapes_in l) name.0).uses) ≡ true → IsTerm name e)
    → shapes.item_of_kind (shapes_in l) name.0 ≡ None → ((w : Whole) → shapes.parts_in_kind (shapes_in l) span w name.0 ≡ []
    → is_some (shapes.item_in_kind (shapes_in l) name.0) ≡ true)
    → Kept name t (facts_in_kind (shapes_in l) name.0) (shapes.item_in_kind (shapes_in l) name.0)
    (shapes.faults_in_kind (shapes_in l) span) (λ w. shapes.parts_in_kind (shapes_in l) span w name.0) e
    (λ environment. core.Fact e (conjunct environment span)) (λ environment. alone (core.Repeated e (conjunct environment span)))
    (λ environment. core.Repeated e (conjunct environment span))
plain l name t span e says reference no_kind checked =
    let f : Facts = facts_in_kind (shapes_in l) name.0 in
    let looks : is_some (shapes.item_in_kind (shapes_in l) name.0) ≡ true → IsRepeated name e =
    λ some. says_repeated name f e says
    (only_pure f (subst (λ (k : Option shapes.Item). is_some (or_else (item_of_pure f) k) ≡ true) no_kind some)) in
    record {
      says = says;
      reference = reference;
      plain = pure_first l name;
      formula = λ none environment. tt;
      whole = λ some environment. (tt, (looks some, tt), looks some);
      joined = λ w none environment. (tt, (looks (checked w none), tt));
    }

-- Names

swapped_if : (m n : Name) (b : Bool) → same_name n m ≡ b → nat_eq m.0 n.0 ≡ false → b ≡ false
swapped_if m n true is h = absurd (both_ways (nat_eq m.0 n.0) h (eq-eqb m.0 n.0 (sym (eqb-true n.0 m.0 is))))
swapped_if m n false is h = refl

swapped : (m n : Name) → nat_eq m.0 n.0 ≡ false → same_name n m ≡ false
swapped m n h = swapped_if m n (same_name n m) refl h

used_same : (b : Bool) → is_used (facts_of_variable b).uses ≡ false → b ≡ false
used_same true h = absurd cc
used_same false h = refl

variable_form : (name written : Name) (b : Bool) → FormSays name (facts_of_variable b).form (core.Variable written)
variable_form name written true = λ h. h
variable_form name written false = tt

field_form : (name : Name) (b : Bool) (e : Expression) (class field : Name) (span : Span) → (IsTerm name e)
    → FormSays name (facts_of_variable b).form (core.Field e class field span)
field_form name true e class field span h = λ i. h
field_form name false e class field span h = tt

few_same : (b : Bool) → is_some (item_of_use (facts_of_variable b).uses) ≡ true → b ≡ false
few_same true h = absurd cc
few_same false h = refl

name_term : (name : Name) (a : Environment) (span : Span) (written : Name) (o : Option Declared) → nat_eq written.0 name.0 ≡ false
    → IsTerm name (named a span written o)
name_term name a span written None h = refl
name_term name a span written (Some d) h = swapped written name h

name_form : (name : Name) (a : Environment) (span : Span) (written : Name) (o : Option Declared)
    → FormSays name (facts_of_variable (nat_eq written.0 name.0)).form (named a span written o)
name_form name a span written None = field_form name (nat_eq written.0 name.0) core.This a.class written span refl
name_form name a span written (Some d) = variable_form name written (nat_eq written.0 name.0)

no_position : (name : Name) (e : Expression) → IsTerm name e → is_position name e ≡ false
no_position name e h = by (is_position name e) refl
  where
    by : (b : Bool) → is_position name e ≡ b → b ≡ false
    by true is = absurd (both_ways (mentions name e) h (position_mentions name e is))
    by false is = refl

-- a part that is a term wherever items allow it
term_part : (name : Name) (f : Facts) (e : Expression) → (is_used f.uses ≡ false → IsTerm name e) → FormSays name f.form e
    → (is_some (item_of_use f.uses) ≡ true → IsTerm name e) → Says name f e
term_part name f e term form few = record {
  term = term;
  form = form;
  looks = λ h old. term_looks name old e (few h);
  apart = λ h. no_position name e (few h);
  steady = λ s u. term_steady name s e (few (subst (λ (w : Use). is_some (item_of_use w) ≡ true) (sym u) refl));
}

-- a term
always_term : (name : Name) (f : Facts) (e : Expression) → IsTerm name e → FormSays name f.form e → Says name f e
always_term name f e h form = term_part name f e (λ none. h) form (λ few. h)

name_says : (name : Name) (a : Environment) (span : Span) (written : Name) (o : Option Declared)
    → Says name (facts_of_variable (nat_eq written.0 name.0)) (named a span written o)
name_says name a span written o =
    term_part name (facts_of_variable (nat_eq written.0 name.0)) (named a span written o)
    (λ none. name_term name a span written o (used_same (nat_eq written.0 name.0) none)) (name_form name a span written o)
    (λ few. name_term name a span written o (few_same (nat_eq written.0 name.0) few))

-- Fields and lengths

member_term : (name : Name) (b : Bool) (e : Expression) (type : PvType) (class field : Name) (span : Span) → IsTerm name e
    → IsTerm name (if b then core.Length type e span else core.Field e class field span)
member_term name true e type class field span h = h
member_term name false e type class field span h = h

-- Threads and locks

token_some : (t : Bool) → is_some (item_if t shapes.committed) ≡ true → t ≡ true
token_some true h = refl
token_some false h = absurd cc

token_item : (t : Token) (p : ElaboratedExpression) (name : Name) (a : Environment) (v : Visible) (span : Span)
    (environment : Option Span)
    → ElaboratedKept name a v p → is_some (item_of_token t (p.shape.facts name.0)) ≡ true
    → ConfinedItem name (item_in_kind (ExprKind-F.Token t p) span name environment a v)
token_item token.Idle p name a v span environment h is = (tt, inr tt)
token_item token.Running p name a v span environment h is = (tt, inr tt)
token_item token.Committed p name a v span environment h is =
    term_says name (p.shape.facts name.0) (p.expression a v) (token_some (is_term (p.shape.facts name.0)) is) h.says
token_item token.Uncommitted p name a v span environment h is = (tt, inr tt)

token_law : (t : Token) (p : ElaboratedExpression) → ExprLaw p → LayerLaw (ExprKind-F.Token t p)
token_law t p law = λ name span a v c clean.
    let item : is_some (item_of_token t (p.shape.facts name.0)) ≡ true → (environment : Option Span)
    → ConfinedItem name (item_in_kind (ExprKind-F.Token t p) span name environment a v) =
    λ is environment. token_item t p name a v span environment (law name a v c AnObject clean.1.0) is in
    record {
      says = always_term name _ _ refl tt;
      reference = λ is few. refl;
      plain = λ is. absurd cc;
      formula = λ none environment. tt;
      whole = λ some environment. (tt, (item some environment, tt), item some environment);
      joined = λ w none environment. (tt, (item (part_item w _ _ _ none) environment, tt));
    }

-- Permissions

permission_law : (p : ElaboratedExpression) (checked whole : ℕ) (amount : Span) → ExprLaw p
    → LayerLaw (ExprKind-F.Perm p checked whole amount)
permission_law p checked whole amount law = λ name span a v c clean.
    let item : (environment : Option Span) → ConfinedItem name (item_in_kind
    (ExprKind-F.Perm p checked whole amount) span name environment a v) =
    λ environment. shifted_confined name (p.shape.facts name.0).form (units_of checked whole) (conjunct environment span)
    (p.expression a v)
    (law name a v c Anything clean.1.1.0).says.form in
    let formula : (environment : Option Span) → ConfinedFormula (formula_in_kind
    (ExprKind-F.Perm p checked whole amount) span environment a v) =
    λ environment. permission_confined (type_of_elaborated p a v) (units_of checked whole) (conjunct environment span)
    (p.expression a v) in
    record {
      says = always_term name _ _ refl tt;
      reference = λ is few. refl;
      plain = λ is. absurd cc;
      formula = λ none environment. formula environment;
      whole = λ some environment. (formula environment, (item environment, tt), item environment);
      joined = λ w none environment. (formula environment, (item environment, tt));
    }

-- Operators

-- two pure parts
both_pure : (f g : Facts) (o : Operator) → is_some (item_of_pure (facts_of_operator o f g)) ≡ true
    → (is_some (item_of_pure f) ≡ true) × (is_some (item_of_pure g) ≡ true)
both_pure f g o h = by f.pure g.pure h
  where
    by : (p q : Bool) → is_some (if p && q then item_of_use (both_uses f.uses g.uses) else None) ≡ true
        → (is_some (if p then item_of_use f.uses else None) ≡ true) × (is_some (if q then item_of_use g.uses else None) ≡ true)
    by true true k = few_uses f.uses g.uses k
    by true false k = absurd cc
    by false q k = absurd cc

-- what stands behind an implication that is an item, and what that looks at where it is a fact
pub record Behind (name : Name) (form : Form) (fact : Expression) (formula_at : Option Span → Formula)
    (item_at : Option Span → Item) : Type 0 where
  pub formula : (environment : Option Span) → ConfinedFormula (formula_at environment)
  pub item : is_guard form ≡ true → (environment : Option Span) → ConfinedItem name (item_at environment)
  pub looks : is_fixing form ≡ false → is_guard form ≡ false → IsRepeated name fact

guarded_some : (o : Option shapes.Item) → is_some (guarded_item o) ≡ true → is_some o ≡ true
guarded_some None h = absurd cc
guarded_some (Some i) h = refl

item_some : (b : Bool) (i : shapes.Item) → is_some (item_if b i) ≡ true → b ≡ true
item_some true i h = refl
item_some false i h = absurd cc

nothing_in : (faults : List ShapeFault) → is_empty faults ≡ true → faults ≡ []
nothing_in [] h = refl
nothing_in (f ∷ fs) h = absurd cc

abbrev BehindOf : Name → Form → Expression → ElaboratedExpression → Environment → Visible → Type 0
BehindOf name form fact y a v = Behind name form fact (λ environment. y.formula environment a v)
    (λ environment. y.item name environment a v)

behind_implication : (name : Name) (f g : Facts) (fact : Expression) (y : ElaboratedExpression) (a : Environment) (v : Visible)
    → ElaboratedKept name a v y
    → is_some (item_of_implication f g (y.shape.item name.0) y.shape.faults) ≡ true → BehindOf name f.form fact y a v
behind_implication name f g fact y a v k some = by (is_guard f.form) refl some
  where
    by : (b : Bool) → is_guard f.form ≡ b → is_some (if b then guarded_item (y.shape.item name.0) else item_if
        (is_fixing f.form && is_term g && is_empty y.shape.faults) shapes.fixed) ≡ true → BehindOf name f.form fact y a v
    by true is h =
        let w = k.whole (guarded_some (y.shape.item name.0) h) in
        record {
          formula = λ environment. (w environment).0;
          item = λ i environment. (w environment).2;
          looks = λ no_fixing no_guard. absurd (both_ways (is_guard f.form) no_guard is);
        }
    by false is h =
        let all =
        and_parts (is_fixing f.form && is_term g) (is_empty y.shape.faults)
        (item_some (is_fixing f.form && is_term g && is_empty y.shape.faults) shapes.fixed h) in
        record {
          formula = k.formula (nothing_in y.shape.faults all.1);
          item = λ i environment. absurd (both_ways (is_guard f.form) is i);
          looks =
              λ no_fixing no_guard. absurd (both_ways (is_fixing f.form) no_fixing
              (and_parts (is_fixing f.form) (is_term g) all.0).0);
        }

behind_whole : (name : Name) (form : Form) (fact : Expression) (y : ElaboratedExpression) (a : Environment) (v : Visible)
    → ElaboratedKept name a v y
    → is_some (y.shape.item name.0) ≡ true → IsRepeated name fact → BehindOf name form fact y a v
behind_whole name form fact y a v k some looks =
    let w = k.whole some in record {
      formula = λ environment. (w environment).0;
      item = λ i environment. (w environment).2;
      looks = λ no_fixing no_guard. looks;
    }

abbrev binary : Operator → ElaboratedExpression → ElaboratedExpression → Layer
binary o x y = ExprKind-F.Binary o x y

abbrev FormulaOf : Operator → ElaboratedExpression → ElaboratedExpression → Span → Option Span → Environment → Visible → Type 0
FormulaOf o x y span environment a v = ConfinedFormula (formula_in_kind (binary o x y) span environment a v)

joined_formula : (o : Operator) (x y : ElaboratedExpression) (span : Span) (environment : Option Span) (a : Environment)
    (v : Visible)
    → ConfinedFormula (joined o environment span x y a v) → FormulaOf o x y span environment a v
joined_formula o x y span environment a v h =
    formula_if (is_fact environment o (is_pure (binary o x y))) _ (joined o environment span x y a v) tt h

-- where quantifiers stand in right places
operator_formula : (o : Operator) (x y : ElaboratedExpression) (span : Span) (a : Environment) (v : Visible)
    → (x.shape.faults ≡ [] → (environment : Option Span) → ConfinedFormula (x.formula environment a v))
    → (y.shape.faults ≡ [] → (environment : Option Span) → ConfinedFormula (y.formula environment a v))
    → faults_of_operator o x.shape y.shape ≡ [] → (environment : Option Span)
    → ConfinedFormula (joined o environment span x y a v)
operator_formula op.And x y span a v h k none environment =
    (h (no_first x.shape.faults y.shape.faults none) environment, k (no_second x.shape.faults y.shape.faults none) environment)
operator_formula op.Star x y span a v h k none environment =
    (h (no_first x.shape.faults y.shape.faults none) environment, k (no_second x.shape.faults y.shape.faults none) environment)
operator_formula op.Implies x y span a v h k none environment =
    k (no_second x.shape.quantifiers y.shape.faults none) (Some (conjunct environment span))
operator_formula op.Add x y span a v h k none environment = tt
operator_formula op.Sub x y span a v h k none environment = tt
operator_formula op.Mul x y span a v h k none environment = tt
operator_formula op.Eq x y span a v h k none environment = tt
operator_formula op.Ne x y span a v h k none environment = tt
operator_formula op.Lt x y span a v h k none environment = tt
operator_formula op.Le x y span a v h k none environment = tt
operator_formula op.Gt x y span a v h k none environment = tt
operator_formula op.Ge x y span a v h k none environment = tt
operator_formula op.Or x y span a v h k none environment = tt

abbrev WholeOf : Operator → ElaboratedExpression → ElaboratedExpression → Name → Span → Environment → Visible → Option Span
    → Type 0
WholeOf o x y name span a v environment =
    ConfinedFormula (joined o environment span x y a v)
    × ConfinedItems name (items_in_kind (binary o x y) span name environment a v)
    × ConfinedItem name (item_in_kind (binary o x y) span name environment a v)

both_whole : (x y : ElaboratedExpression) (name : Name) (a : Environment) (v : Visible) → ElaboratedKept name a v x
    → ElaboratedKept name a v y → (o : Operator)
    → is_some (or_else (item_of_pure (facts_of_operator o (x.shape.facts name.0) (y.shape.facts name.0))) None) ≡ true
    → (is_some (x.shape.item name.0) ≡ true) × (is_some (y.shape.item name.0) ≡ true)
both_whole x y name a v h k o some =
    by (either_some (item_of_pure (facts_of_operator o (x.shape.facts name.0) (y.shape.facts name.0))) None some)
  where
    by : (is_some (item_of_pure (facts_of_operator o (x.shape.facts name.0) (y.shape.facts name.0))) ≡ true) ⊎ (false ≡ true)
        → (is_some (x.shape.item name.0) ≡ true) × (is_some (y.shape.item name.0) ≡ true)
    by (inl i) = let two = both_pure (x.shape.facts name.0) (y.shape.facts name.0) o i in (h.plain two.0, k.plain two.1)
    by (inr i) = absurd cc

abbrev operation_of : Operator → ElaboratedExpression → ElaboratedExpression → Span → Environment → Visible → Expression
operation_of o x y span a v = operation o span (x.expression a v) (y.expression a v)

pure_looks : (o : Operator) (x y : ElaboratedExpression) (name : Name) (span : Span) (a : Environment) (v : Visible)
    → ElaboratedKept name a v x
    → ElaboratedKept name a v y → is_some (item_of_pure (facts_of_operator o (x.shape.facts name.0) (y.shape.facts name.0)))
    ≡ true
    → IsRepeated name (operation_of o x y span a v)
pure_looks o x y name span a v h k some =
    says_repeated name (facts_of_operator o (x.shape.facts name.0) (y.shape.facts name.0)) (operation_of o x y span a v)
    (operator_part name o span (x.shape.facts name.0) (y.shape.facts name.0) (x.expression a v) (y.expression a v) h.says k.says)
    (few_pure (facts_of_operator o (x.shape.facts name.0) (y.shape.facts name.0)) some)

behind_item : (x y : ElaboratedExpression) (name : Name) (span : Span) (a : Environment) (v : Visible) → ElaboratedKept name a v x
    → ElaboratedKept name a v y
    → is_some (or_else (item_of_pure (facts_of_operator op.Implies (x.shape.facts name.0) (y.shape.facts name.0)))
    (item_of_implication (x.shape.facts name.0) (y.shape.facts name.0) (y.shape.item name.0) y.shape.faults)) ≡ true
    → BehindOf name (x.shape.facts name.0).form (operation_of op.Implies x y span a v) y a v
behind_item x y name span a v h k some = by (either_some _ _ some)
  where
    by : (is_some (item_of_pure (facts_of_operator op.Implies (x.shape.facts name.0) (y.shape.facts name.0))) ≡ true)
        ⊎ (is_some (item_of_implication (x.shape.facts name.0) (y.shape.facts name.0) (y.shape.item name.0) y.shape.faults)
        ≡ true) → BehindOf name (x.shape.facts name.0).form (operation_of op.Implies x y span a v) y a v
    by (inl i) =
        behind_whole name (x.shape.facts name.0).form (operation_of op.Implies x y span a v) y a v k
        (k.plain (both_pure (x.shape.facts name.0) (y.shape.facts name.0) op.Implies i).1)
        (pure_looks op.Implies x y name span a v h k i)
    by (inr i) =
        behind_implication name (x.shape.facts name.0) (y.shape.facts name.0) (operation_of op.Implies x y span a v) y a v k i

-- what an operator that is an item by itself looks at
only_looks : (o : Operator) (x y : ElaboratedExpression) (name : Name) (span : Span) (a : Environment) (v : Visible)
    → ElaboratedKept name a v x
    → ElaboratedKept name a v y → is_some (or_else
    (item_of_pure (facts_of_operator o (x.shape.facts name.0) (y.shape.facts name.0)))
    None) ≡ true → IsRepeated name (operation_of o x y span a v)
only_looks o x y name span a v h k some = by (either_some _ _ some)
  where
    by : (is_some (item_of_pure (facts_of_operator o (x.shape.facts name.0) (y.shape.facts name.0))) ≡ true) ⊎ (false ≡ true)
        → IsRepeated name (operation_of o x y span a v)
    by (inl i) = pure_looks o x y name span a v h k i
    by (inr i) = absurd cc

abbrev ComparisonLooks : ElaboratedExpression → ElaboratedExpression → Name → Environment → Visible → Type 0
ComparisonLooks x y name a v =
    ComparedLooks name (compared (y.expression a v) (x.expression a v)) (compared (x.expression a v) (y.expression a v))

some_if : (b : Bool) (i : shapes.Item) → is_some (item_if b i) ≡ true → b ≡ true
some_if true i h = refl
some_if false i h = absurd cc

position_looks : (x y : ElaboratedExpression) (name : Name) (a : Environment) (v : Visible) → ElaboratedKept name a v x
    → ElaboratedKept name a v y
    → (pure : Option shapes.Item) → (is_some pure ≡ true → ComparisonLooks x y name a v)
    → is_some (or_else pure (item_of_comparison (x.shape.facts name.0) (y.shape.facts name.0))) ≡ true
    → ComparisonLooks x y name a v
position_looks x y name a v h k pure first some =
    by (either_some pure (item_of_comparison (x.shape.facts name.0) (y.shape.facts name.0)) some)
  where
    by : (is_some pure ≡ true) ⊎ (is_some (item_of_comparison (x.shape.facts name.0) (y.shape.facts name.0)) ≡ true)
        → ComparisonLooks x y name a v
    by (inl i) = first i
    by (inr i) =
        comparison_looks name (x.shape.facts name.0) (y.shape.facts name.0) (x.expression a v) (y.expression a v) h.says k.says
        (some_if (has_variable_and_term (x.shape.facts name.0) (y.shape.facts name.0)) shapes.position i)

-- an operator between two parts that is an item
operator_whole : (o : Operator) (x y : ElaboratedExpression) (name : Name) (span : Span) (a : Environment) (v : Visible)
    → ElaboratedKept name a v x
    → ElaboratedKept name a v y
    → is_some (or_else (item_of_pure (facts_of_operator o (x.shape.facts name.0) (y.shape.facts name.0)))
    (item_of_operator o (x.shape.facts name.0) (y.shape.facts name.0) (y.shape.item name.0) y.shape.faults)) ≡ true
    → (environment : Option Span) → WholeOf o x y name span a v environment
operator_whole op.And x y name span a v h k some environment =
    let two = both_whole x y name a v h k op.And some in
    let p = h.whole two.0 environment in
    let q = k.whole two.1 environment in (
      (p.0, q.0),
      together_confined name (x.items name environment a v) (y.items name environment a v) p.1 q.1,
      only_looks op.And x y name span a v h k some,
    )
operator_whole op.Star x y name span a v h k some environment =
    let two = both_whole x y name a v h k op.Star some in
    let p = h.whole two.0 environment in
    let q = k.whole two.1 environment in (
      (p.0, q.0),
      together_confined name (x.items name environment a v) (y.items name environment a v) p.1 q.1,
      only_looks op.Star x y name span a v h k some,
    )
operator_whole op.Implies x y name span a v h k some environment =
    let b = behind_item x y name span a v h k some in
    let c : Span = conjunct environment span in
    let item =
    implied_confined name (x.shape.facts name.0).form c (x.expression a v) (y.formula (Some c) a v) (y.item name (Some c) a v)
    (core.Implies (x.expression a v) (y.expression a v)) h.says.form (λ is. b.formula (Some c))
    (λ is. b.item is (Some c)) b.looks in
    (b.formula (Some c), (item, tt), item)
operator_whole op.Add x y name span a v h k some environment =
    let item = only_looks op.Add x y name span a v h k some in (tt, (item, tt), item)
operator_whole op.Sub x y name span a v h k some environment =
    let item = only_looks op.Sub x y name span a v h k some in (tt, (item, tt), item)
operator_whole op.Mul x y name span a v h k some environment =
    let item = only_looks op.Mul x y name span a v h k some in (tt, (item, tt), item)
operator_whole op.Eq x y name span a v h k some environment =
    let item = position_looks x y name a v h k _ (pure_looks op.Eq x y name span a v h k) some in (tt, (item, tt), item)
operator_whole op.Ne x y name span a v h k some environment =
    let item = position_looks x y name a v h k _ (pure_looks op.Ne x y name span a v h k) some in (tt, (item, tt), item)
operator_whole op.Lt x y name span a v h k some environment =
    let item = position_looks x y name a v h k _ (pure_looks op.Lt x y name span a v h k) some in (tt, (item, tt), item)
operator_whole op.Le x y name span a v h k some environment =
    let item = position_looks x y name a v h k _ (pure_looks op.Le x y name span a v h k) some in (tt, (item, tt), item)
operator_whole op.Gt x y name span a v h k some environment =
    let item = position_looks x y name a v h k _ (pure_looks op.Gt x y name span a v h k) some in (tt, (item, tt), item)
operator_whole op.Ge x y name span a v h k some environment =
    let item = position_looks x y name a v h k _ (pure_looks op.Ge x y name span a v h k) some in (tt, (item, tt), item)
operator_whole op.Or x y name span a v h k some environment =
    let item = only_looks op.Or x y name span a v h k some in (tt, (item, tt), item)

abbrev JoinedOf : Operator → ElaboratedExpression → ElaboratedExpression → Name → Span → Environment → Visible → Option Span
    → Type 0
JoinedOf o x y name span a v environment =
    ConfinedFormula (joined o environment span x y a v)
    × ConfinedItems name (items_in_kind (binary o x y) span name environment a v)

two_joined : (x y : ElaboratedExpression) (name : Name) (span : Span) (a : Environment) (v : Visible) → ElaboratedKept name a v x
    → ElaboratedKept name a v y
    → (w : Whole) → x.shape.parts w name.0 ++ y.shape.parts w name.0 ≡ [] → (environment : Option Span)
    → JoinedOf op.Star x y name span a v environment
two_joined x y name span a v h k w none environment =
    let p = h.joined w (no_first (x.shape.parts w name.0) (y.shape.parts w name.0) none) environment in
    let q = k.joined w (no_second (x.shape.parts w name.0) (y.shape.parts w name.0) none) environment in
    ((p.0, q.0), together_confined name (x.items name environment a v) (y.items name environment a v) p.1 q.1)

joined_whole : (o : Operator) (x y : ElaboratedExpression) (name : Name) (span : Span) (a : Environment) (v : Visible)
    → ElaboratedKept name a v x
    → ElaboratedKept name a v y → (w : Whole) → part_fault (shapes_in (binary o x y)) span w name.0 ≡ []
    → (environment : Option Span)
    → JoinedOf o x y name span a v environment
joined_whole o x y name span a v h k w none environment =
    let all = operator_whole o x y name span a v h k (part_item w _ _ _ none) environment in
    (all.0, all.1)

-- an operator between two parts that is made of items
operator_joined : (o : Operator) (x y : ElaboratedExpression) (name : Name) (span : Span) (a : Environment) (v : Visible)
    → ElaboratedKept name a v x
    → ElaboratedKept name a v y → (w : Whole) → shapes.parts_in_kind (shapes_in (binary o x y)) span w name.0 ≡ []
    → (environment : Option Span) → JoinedOf o x y name span a v environment
operator_joined op.And x y name span a v h k w none environment = two_joined x y name span a v h k w none environment
operator_joined op.Star x y name span a v h k star_body none environment =
    two_joined x y name span a v h k star_body none environment
operator_joined op.Star x y name span a v h k clause none environment = two_joined x y name span a v h k clause none environment
operator_joined op.Star x y name span a v h k truth_body none environment =
    joined_whole op.Star x y name span a v h k truth_body none environment
operator_joined op.Implies x y name span a v h k w none environment =
    joined_whole op.Implies x y name span a v h k w none environment
operator_joined op.Add x y name span a v h k w none environment = joined_whole op.Add x y name span a v h k w none environment
operator_joined op.Sub x y name span a v h k w none environment = joined_whole op.Sub x y name span a v h k w none environment
operator_joined op.Mul x y name span a v h k w none environment = joined_whole op.Mul x y name span a v h k w none environment
operator_joined op.Eq x y name span a v h k w none environment = joined_whole op.Eq x y name span a v h k w none environment
operator_joined op.Ne x y name span a v h k w none environment = joined_whole op.Ne x y name span a v h k w none environment
operator_joined op.Lt x y name span a v h k w none environment = joined_whole op.Lt x y name span a v h k w none environment
operator_joined op.Le x y name span a v h k w none environment = joined_whole op.Le x y name span a v h k w none environment
operator_joined op.Gt x y name span a v h k w none environment = joined_whole op.Gt x y name span a v h k w none environment
operator_joined op.Ge x y name span a v h k w none environment = joined_whole op.Ge x y name span a v h k w none environment
operator_joined op.Or x y name span a v h k w none environment = joined_whole op.Or x y name span a v h k w none environment

operator_law : (o : Operator) (x y : ElaboratedExpression) → ExprLaw x → ExprLaw y → LayerLaw (ExprKind-F.Binary o x y)
operator_law o x y law_x law_y = λ name span a v c clean.
    let h = law_x name a v (typing.under_left o c) (typing.need_of_operator o) clean.0 in
    let k = law_y name a v (typing.under_right o c) (typing.need_of_operator o) clean.1 in
    record {
      says =
          operator_part name o span (x.shape.facts name.0) (y.shape.facts name.0) (x.expression a v)
          (y.expression a v) h.says k.says;
      reference = λ is few. absurd (operator_no_reference o (typing_in x.checked a v) (typing_in y.checked a v) is);
      plain = pure_first (binary o x y) name;
      formula =
          λ none environment. joined_formula o x y span environment a v
          (operator_formula o x y span a v h.formula k.formula none environment);
      whole =
          λ some environment. let all = operator_whole o x y name span a v h k some environment in
          (joined_formula o x y span environment a v all.0, all.1, all.2);
      joined =
          λ w none environment. let all = operator_joined o x y name span a v h k w none environment in
          (joined_formula o x y span environment a v all.0, all.1);
    }

-- Instances

instance_law : (o : Option ElaboratedExpression) (w : Word) (ps : List ElaboratedExpression)
    → LayerLaw (ExprKind-F.Instance o w ps)
instance_law o w ps = λ name span a v c clean. record {
  says = always_term name _ _ refl tt;
  reference = λ is few. refl;
  plain = λ is. absurd cc;
  formula = λ none environment. tt;
  whole = λ some environment. (tt, ((tt, inr tt), tt), (tt, inr tt));
  joined = λ w none environment. (tt, ((tt, inr tt), tt));
}

-- Quantifiers

no_item_none : (x : Option shapes.Item) → x ≡ None → is_some (or_else x None) ≡ true → ⊥
no_item_none None h k = cc
no_item_none (Some i) h k = cc

other_says : (name : Name) (form : Form) → form ≡ other → FormSays name form no_expression
other_says name form h = subst (λ (f : Form). FormSays name f no_expression) (sym h) tt

quantifier_law : (q : ElaboratedEach) → EachLaw q → LayerLaw (ExprKind-F.Each q)
quantifier_law q law = λ name span a v c clean. record {
  says = always_term name (q.shape.facts name.0) no_expression refl (other_says name (q.shape.facts name.0).form (law.0 name).0);
  reference = λ is few. refl;
  plain = pure_first (ExprKind-F.Each q) name;
  formula = λ none environment. law.1 span a v c clean none (conjunct environment span);
  whole = λ some environment. absurd (no_item_none (item_of_pure (q.shape.facts name.0)) (law.0 name).1 some);
  joined = λ w none environment. absurd (no_item_none (item_of_pure (q.shape.facts name.0)) (law.0 name).1
      (part_item w _ _ _ none));
}

each_law : (star : Bool) (w : Word) (low high body : ElaboratedExpression) (written : Option (Word × Word)) → ExprLaw body
    → EachLaw (elaborated_in_each (record { star = star; name = w; low = low; high = high; body = body; written = written }))
each_law star w low high body written law = (
  λ name. (refl, refl),
  λ span a v c clean none environment.
      ((law w.name a (with_bound v w) (under_quantifier star c) (Exactly Truth) clean.1.1.1.1.0).joined (body_of star)
      (no_second (low.shape.quantifiers ++ high.shape.quantifiers) (body.shape.parts (body_of star) w.name.0) none)
      (Some environment)).1,
)

-- The induction

-- an expression of one part
environment_says : (name : Name) (f : Facts) (e e' : Expression) → (IsTerm name e → IsTerm name e')
    → ((old : Bool) → TermLooks name (looks_in name true e) → TermLooks name (looks_in name old e)
    → TermLooks name (looks_in name old e')) → is_position name e' ≡ false → ((s : ℤ) → Steady name s e → Steady name s e')
    → Says name f e → Says name (shapes.facts_in_environment f) e'
environment_says name f e e' same looks apart keeps h =
    record {
      term = λ none. same (h.term none);
      form = tt;
      looks = λ few old. looks old (h.looks few true) (h.looks few old);
      apart = λ few. apart;
      steady = λ s u. keeps s (h.steady s u);
    }

negation_looks : (name : Name) (written : Option ℕ) (span : Span) (x : Expression) (old : Bool)
    → TermLooks name (looks_in name old x) → TermLooks name (looks_in name old (negation written span x))
negation_looks name None span x old h = h
negation_looks name (Some n) span x old h = tt

negation_apart : (name : Name) (written : Option ℕ) (span : Span) (x : Expression) → is_position name (negation written span x)
    ≡ false
negation_apart name None span x = refl
negation_apart name (Some n) span x = refl

layer_law : LayerStep KindLaw EachLaw ExprLaw
layer_law (ExprKind-F.Number n) =
    λ name span a v c clean. plain (ExprKind-F.Number n) name (Typed Int) span _ (always_term name _ _ refl refl)
    (λ is few. refl) refl (λ w none. part_item w _ _ _ none)
layer_law (ExprKind-F.Truth b) =
    λ name span a v c clean. plain (ExprKind-F.Truth b) name (Typed Truth) span _ (always_term name _ _ refl tt)
    (λ is few. refl) refl (λ w none. part_item w _ _ _ none)
layer_law ExprKind-F.Null =
    λ name span a v c clean. plain ExprKind-F.Null name _ span _ (always_term name _ _ refl tt) (λ is few. refl) refl
    (λ w none. part_item w _ _ _ none)
layer_law ExprKind-F.This =
    λ name span a v c clean. plain ExprKind-F.This name _ span _ (always_term name _ _ refl tt) (λ is few. refl) refl
    (λ w none. part_item w _ _ _ none)
layer_law ExprKind-F.Result =
    λ name span a v c clean. plain ExprKind-F.Result name _ span _ (always_term name _ _ refl tt) (λ is few. refl) refl
    (λ w none. part_item w _ _ _ none)
layer_law (ExprKind-F.Var w) = λ name span a v c clean.
    plain (ExprKind-F.Var w) name _ span _ (name_says name a span w.name (variable_named v w.name))
    (λ is few. name_term name a span w.name (variable_named v w.name) (few_same (nat_eq w.name.0 name.0) few)) refl
    (λ w none. part_item w _ _ _ none)
layer_law (ExprKind-F.Field e w) = λ name span a v c clean.
    let p : ElaboratedExpression = elaborated_expression e.0 in
    let t : Typing = typing_in p.checked a v in
    let x : Expression = p.expression a v in
    let f : Facts = p.shape.facts name.0 in
    let h = e.1 name a v c (need_of_target a w.name) clean.0 in
    let same : IsTerm name x → IsTerm name (member_of a span w.name t x) =
    member_term name (is_array_length a w.name t) x (elements_of t) (class_at t) w.name span in
    let few_term : is_some (item_of_use f.uses) ≡ true → IsTerm name (member_of a span w.name t x) =
    λ few.
    same (h.reference (target_reference (is_length a w.name) t (meets_elaborated e.0 a v c (need_of_target a w.name) clean.0))
    few) in
    plain (ExprKind-F.Field p w) name _ span _ (term_part name (shapes.facts_in_environment f) (member_of a span w.name t x)
    (λ none. same (h.says.term none)) tt few_term) (λ is few. few_term few) refl (λ w none. part_item w _ _ _ none)
layer_law (ExprKind-F.Index e i) = λ name span a v c clean.
    let p : ElaboratedExpression = elaborated_expression e.0 in
    let q : ElaboratedExpression = elaborated_expression i.0 in
    let h = e.1 name a v c AnArray clean.0 in
    let k = i.1 name a v c (Exactly Int) clean.1 in
    let type : PvType = elements_of (typing_in p.checked a v) in
    plain (ExprKind-F.Index p q) name _ span _ (element_part name (p.shape.facts name.0) (q.shape.facts name.0) type
    (p.expression a v) (q.expression a v) span h.says k.says
    (h.reference (array_reference (typing_in p.checked a v) (meets_elaborated e.0 a v c AnArray clean.0))))
    (λ is few. absurd (element_no_reference (typing_in p.checked a v) (typing_in q.checked a v) is)) refl
    (λ w none. part_item w _ _ _ none)
layer_law (ExprKind-F.Not e) = λ name span a v c clean.
    let p : ElaboratedExpression = elaborated_expression e.0 in
    let h = e.1 name a v (typing.purely c) (Exactly Truth) clean in
    plain (ExprKind-F.Not p) name _ span _ (environment_says name (p.shape.facts name.0) (p.expression a v)
    (core.Not (p.expression a v)) (λ t. t) (λ old of_old looks. looks) refl (λ s k. k) h.says)
    (λ is few. absurd (typed_no_reference (typing.meets (Exactly Truth) (typing_in p.checked a v)) Truth refl is)) refl
    (λ w none. part_item w _ _ _ none)
layer_law (ExprKind-F.Minus e) = λ name span a v c clean.
    let p : ElaboratedExpression = elaborated_expression e.0 in
    let x : Expression = p.expression a v in
    let h = e.1 name a v c (Exactly Int) clean in
    plain (ExprKind-F.Minus p) name _ span _
    (environment_says name (p.shape.facts name.0) x (negation p.written span x) (negation_term name p.written span x)
    (λ old of_old looks. negation_looks name p.written span x old looks) (negation_apart name p.written span x)
    (λ s k. negation_steady name s p.written span x k) h.says)
    (λ is few. absurd (typed_no_reference (typing.meets (Exactly Int) (typing_in p.checked a v)) Int refl is)) refl
    (λ w none. part_item w _ _ _ none)
layer_law (ExprKind-F.Binary o x y) = operator_law o (elaborated_expression x.0) (elaborated_expression y.0) x.1 y.1
layer_law (ExprKind-F.Old e) = λ name span a v c clean.
    let p : ElaboratedExpression = elaborated_expression e.0 in
    let h = e.1 name a v (typing.purely c) Anything clean.0 in
    plain (ExprKind-F.Old p) name _ span _ (environment_says name (p.shape.facts name.0) (p.expression a v)
    (core.Old (p.expression a v)) (λ t. t) (λ old of_old looks. of_old) refl (λ s k. k) h.says)
    (λ is few. h.reference (old_reference (typing_in p.checked a v) is) few) refl (λ w none. part_item w _ _ _ none)
layer_law (ExprKind-F.Perm e checked whole amount) = permission_law (elaborated_expression e.0) checked whole amount e.1
layer_law (ExprKind-F.Token t e) = token_law t (elaborated_expression e.0) e.1
layer_law (ExprKind-F.Instance None w es) = instance_law None w (map elaborated_expression (map (λ e. e.0) es))
layer_law (ExprKind-F.Instance (Some e) w es) =
    instance_law (Some (elaborated_expression e.0)) w (map elaborated_expression (map (λ e. e.0) es))
layer_law (ExprKind-F.Each q) = quantifier_law (elaborated_each q.0) q.1

-- each expression without a fault of the static rules becomes what its shape says
pub expression_law : (e : Expr) → ExprLaw (elaborated_expression e)
expression_law =
    piece_induction KindLaw EachLaw ExprLaw layer_law (λ y.
    each_law y.star y.name (elaborated_expression y.low.0) (elaborated_expression y.high.0) (elaborated_expression y.body.0)
    y.written y.body.1)
    (λ span k law name a v c need clean. law name span a v c clean.0)
