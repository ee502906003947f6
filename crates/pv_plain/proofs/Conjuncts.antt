-- What formulas become, and the items that they are made of, by their kinds and what their parts become.
use Rattle.std.proofs.Common.{◌≡◌, ℕ, Bool, true, false, Option, Some, None, List, [], ◌∷◌, ◌++◌, refl, sym, ◌∙◌, ap, map, if◌then◌else◌}
use Rattle.std.specs.Option.{option_map}
use Rattle.pv_base.specs.declared.Name.{Name}
use Rattle.pv_base.specs.declared.Span.{Span}
use Rattle.pv_ast.specs.declared.Word.{Word}
use Rattle.pv_ast.specs.declared.Operator.{Operator}
use Rattle.pv_ast.specs.declared.Operator.TheVariants as op
use Rattle.pv_ast.specs.declared.Token.{Token}
use Rattle.pv_ast.specs.declared.Token.TheVariants as token
use Rattle.pv_ast.specs.declared.Expr.{Expr}
use Rattle.pv_ast.specs.declared.Each.{Each, out-Each, fold_out-Each}
use Rattle.pv_ast.specs.declared.ExprKind.{ExprKind, ExprKind-F, out-ExprKind, roll-ExprKind}
use Rattle.pv_ast.specs.declared.ExprKind.TheVariants as tree
use Rattle.pv_ast.specs.Rules.Scoping.{Visible}
use Rattle.pv_ast.specs.Rules.Expressions.{Environment, CheckedExpression, checked_expression, typing_in, with_bound}
use Rattle.pv_ast.specs.Rules.Items.{Form, Shape, shape_of, keeps_left, is_fixing, is_guard}
use Rattle.pv_picks.specs.Plain.Core.{Expression, Formula, Item, Items}
use Rattle.pv_picks.specs.Plain.Core as core
use Rattle.pv_picks.specs.Elaborating.Names.{settled, class_at}
use Rattle.pv_picks.specs.Elaborating.Operations.{no_formula, permission, cuts_of, term_of}
use Rattle.pv_picks.specs.Elaborating.Expressions.{ElaboratedExpression, ElaboratedKind, ElaboratedEach, elaborated_in_kind, elaborated_in_each, elaborated_in_expression, elaborated_expression, elaborated_kind, elaborated_each, core_of_expression, conjunct, is_fact, is_pure, joined, units_of, class_of_object, object_of, arguments_of, together, alone, implied, shifted, form_for, formula_in_kind, expression_in_kind, item_in_kind, items_in_kind}
use Rattle.core_trees.proofs.Layers.{layer_of, each_layer_of, elaborated_rolled, kind_rolled, checked_in_elaborated, shape_in_elaborated}
use Rattle.core_trees.proofs.Equations.{shown, expression_shown, formula_shown, items_shown, item_shown}
use Rattle.pv_plain.specs.Operators.{implies, commits}
use Rattle.pv_plain.proofs.Others.{unrolled}

-- Formulas with an operator

pure_shown : (e x y : Expr) (o : Operator) → e.kind ≡ tree.Binary o x y → is_pure (layer_of (ExprKind-F.Binary o x y))
    ≡ ((shape_of e).facts 0).pure
pure_shown e x y o h =
    ap (λ (s : Shape). (s.facts 0).pure)
    (sym (ap (λ p. p.shape) (shown e (ExprKind-F.Binary o x y) (tree.Binary o x y) h (tree.rolls-Binary o x y)))
    ∙ shape_in_elaborated e)

abbrev operator_formula : Bool → (e x y : Expr) → Operator → Option Span → Environment → Visible → Formula
operator_formula fact e x y o within a v =
    if fact then core.Fact (core_of_expression a v e) (conjunct within e.span) else joined o within e.span
    (elaborated_expression x) (elaborated_expression y) a v

binary_formula : (e x y : Expr) (o : Operator) → e.kind ≡ tree.Binary o x y → (within : Option Span) (a : Environment)
    (v : Visible) → (elaborated_expression e).formula within a v
    ≡ operator_formula (is_fact within o ((shape_of e).facts 0).pure) e x y o within a v
binary_formula e x y o h within a v =
    let l : ExprKind-F ExprKind Each Expr = ExprKind-F.Binary o x y in
    let k : ExprKind = tree.Binary o x y in
    let r = tree.rolls-Binary o x y in
    formula_shown e l k h r within a v
    ∙ ap (λ z. if is_fact within o (is_pure (layer_of l)) then core.Fact z (conjunct within e.span) else joined o within e.span
    (elaborated_expression x) (elaborated_expression y) a v) (sym (expression_shown e l k h r a v))
    ∙ ap (λ b. operator_formula (is_fact within o b) e x y o within a v) (pure_shown e x y o h)

pub fact_formula : (e x y : Expr) (o : Operator) → e.kind ≡ tree.Binary o x y → (within : Option Span) (a : Environment)
    (v : Visible) → is_fact within o ((shape_of e).facts 0).pure ≡ true
    → (elaborated_expression e).formula within a v ≡ core.Fact (core_of_expression a v e) (conjunct within e.span)
fact_formula e x y o h within a v f =
    binary_formula e x y o h within a v ∙ ap (λ b. operator_formula b e x y o within a v) f

not_fact : (e x y : Expr) (o : Operator) → e.kind ≡ tree.Binary o x y → (within : Option Span) (a : Environment)
    (v : Visible) → is_fact within o ((shape_of e).facts 0).pure ≡ false
    → (elaborated_expression e).formula within a v ≡ joined o within e.span (elaborated_expression x) (elaborated_expression
    y) a v
not_fact e x y o h within a v f =
    binary_formula e x y o h within a v ∙ ap (λ b. operator_formula b e x y o within a v) f

star_joined : (o : Operator) (within : Option Span) (span : Span) (x y : ElaboratedExpression) (a : Environment) (v : Visible)
    → keeps_left o ≡ true → joined o within span x y a v ≡ core.Star (x.formula within a v) (y.formula within a v)
star_joined op.Add within span x y a v h = absurd cc
star_joined op.Sub within span x y a v h = absurd cc
star_joined op.Mul within span x y a v h = absurd cc
star_joined op.Eq within span x y a v h = absurd cc
star_joined op.Ne within span x y a v h = absurd cc
star_joined op.Lt within span x y a v h = absurd cc
star_joined op.Le within span x y a v h = absurd cc
star_joined op.Gt within span x y a v h = absurd cc
star_joined op.Ge within span x y a v h = absurd cc
star_joined op.And within span x y a v h = refl
star_joined op.Or within span x y a v h = absurd cc
star_joined op.Implies within span x y a v h = absurd cc
star_joined op.Star within span x y a v h = refl

when_joined : (o : Operator) (within : Option Span) (span : Span) (x y : ElaboratedExpression) (a : Environment) (v : Visible)
    → implies o ≡ true → joined o within span x y a v
    ≡ core.When (x.expression a v) (y.formula (Some (conjunct within span)) a v) (conjunct within span)
when_joined op.Add within span x y a v h = absurd cc
when_joined op.Sub within span x y a v h = absurd cc
when_joined op.Mul within span x y a v h = absurd cc
when_joined op.Eq within span x y a v h = absurd cc
when_joined op.Ne within span x y a v h = absurd cc
when_joined op.Lt within span x y a v h = absurd cc
when_joined op.Le within span x y a v h = absurd cc
when_joined op.Gt within span x y a v h = absurd cc
when_joined op.Ge within span x y a v h = absurd cc
when_joined op.And within span x y a v h = absurd cc
when_joined op.Or within span x y a v h = absurd cc
when_joined op.Implies within span x y a v h = refl
when_joined op.Star within span x y a v h = absurd cc

not_joined : (o : Operator) (within : Option Span) (span : Span) (x y : ElaboratedExpression) (a : Environment) (v : Visible)
    → keeps_left o ≡ false → implies o ≡ false → joined o within span x y a v ≡ no_formula (conjunct within span)
not_joined op.Add within span x y a v h i = refl
not_joined op.Sub within span x y a v h i = refl
not_joined op.Mul within span x y a v h i = refl
not_joined op.Eq within span x y a v h i = refl
not_joined op.Ne within span x y a v h i = refl
not_joined op.Lt within span x y a v h i = refl
not_joined op.Le within span x y a v h i = refl
not_joined op.Gt within span x y a v h i = refl
not_joined op.Ge within span x y a v h i = refl
not_joined op.And within span x y a v h i = absurd cc
not_joined op.Or within span x y a v h i = refl
not_joined op.Implies within span x y a v h i = absurd cc
not_joined op.Star within span x y a v h i = absurd cc

pub star_formula : (e x y : Expr) (o : Operator) → e.kind ≡ tree.Binary o x y → (within : Option Span) (a : Environment)
    (v : Visible) → is_fact within o ((shape_of e).facts 0).pure ≡ false → keeps_left o ≡ true
    → (elaborated_expression e).formula within a v
    ≡ core.Star ((elaborated_expression x).formula within a v) ((elaborated_expression y).formula within a v)
star_formula e x y o h within a v f k =
    not_fact e x y o h within a v f ∙ star_joined o within e.span (elaborated_expression x) (elaborated_expression y) a v k

pub when_formula : (e x y : Expr) (o : Operator) → e.kind ≡ tree.Binary o x y → (within : Option Span) (a : Environment)
    (v : Visible) → is_fact within o ((shape_of e).facts 0).pure ≡ false → implies o ≡ true
    → (elaborated_expression e).formula within a v
    ≡ core.When (core_of_expression a v x) ((elaborated_expression y).formula (Some (conjunct within e.span)) a v)
    (conjunct within e.span)
when_formula e x y o h within a v f k =
    not_fact e x y o h within a v f ∙ when_joined o within e.span (elaborated_expression x) (elaborated_expression y) a v k

pub refused_formula : (e x y : Expr) (o : Operator) → e.kind ≡ tree.Binary o x y → (within : Option Span) (a : Environment)
    (v : Visible) → is_fact within o ((shape_of e).facts 0).pure ≡ false → keeps_left o ≡ false → implies o ≡ false
    → (elaborated_expression e).formula within a v ≡ no_formula (conjunct within e.span)
refused_formula e x y o h within a v f k i =
    not_fact e x y o h within a v f ∙ not_joined o within e.span (elaborated_expression x) (elaborated_expression y) a v k i

-- Other formulas

pub perm_formula : (e x : Expr) (part whole : ℕ) (amount : Span) → e.kind ≡ tree.Perm x part whole amount
    → (within : Option Span) (a : Environment) (v : Visible) → (elaborated_expression e).formula within a v
    ≡ permission (settled (typing_in (checked_expression x) a v)) (units_of part whole) (conjunct within e.span)
    (core_of_expression a v x)
perm_formula e x part whole amount h within a v =
    formula_shown e (ExprKind-F.Perm x part whole amount) (tree.Perm x part whole amount) h (tree.rolls-Perm x part whole amount)
    within a v
    ∙ ap (λ (p : CheckedExpression). permission (settled (typing_in p a v)) (units_of part whole) (conjunct within e.span)
    (core_of_expression a v x)) (checked_in_elaborated x)

pub token_formula : (e x : Expr) (t : Token) → e.kind ≡ tree.Token t x → (within : Option Span) (a : Environment) (v : Visible)
    → (elaborated_expression e).formula within a v
    ≡ core.Holds t (class_at (typing_in (checked_expression x) a v)) (core_of_expression a v x) (conjunct within e.span)
token_formula e x t h within a v =
    formula_shown e (ExprKind-F.Token t x) (tree.Token t x) h (tree.rolls-Token t x) within a v
    ∙ ap (λ (p : CheckedExpression). core.Holds t (class_at (typing_in p a v)) (core_of_expression a v x) (conjunct within
    e.span))
    (checked_in_elaborated x)

-- arguments one by one
pub arguments_each : (es : List Expr) (a : Environment) (v : Visible)
    → arguments_of (map elaborated_expression es) a v ≡ map (core_of_expression a v) es
arguments_each [] a v = refl
arguments_each (e ∷ es) a v = ap (λ xs. core_of_expression a v e ∷ xs) (arguments_each es a v)

pub instance_formula : (e : Expr) (target : Option Expr) (w : Word) (args : List Expr) → e.kind ≡ tree.Instance target w args
    → (within : Option Span) (a : Environment) (v : Visible) → (elaborated_expression e).formula within a v
    ≡ core.Instance (class_of_object (option_map elaborated_expression target) a v) w.name
    (object_of (option_map elaborated_expression target) a v) (map (core_of_expression a v) args) (conjunct within e.span)
instance_formula e None w args h within a v =
    formula_shown e (ExprKind-F.Instance None w args) (tree.Instance None w args) h (tree.rolls-Instance None w args) within a v
    ∙ ap (λ xs. core.Instance a.class w.name core.This xs (conjunct within e.span)) (arguments_each args a v)
instance_formula e (Some t) w args h within a v =
    formula_shown e (ExprKind-F.Instance (Some t) w args) (tree.Instance (Some t) w args) h
    (tree.rolls-Instance (Some t) w args) within a v
    ∙ ap (λ xs. core.Instance (class_of_object (Some (elaborated_expression t)) a v) w.name (core_of_expression a v t) xs
    (conjunct within e.span)) (arguments_each args a v)

pub each_formula : (e : Expr) (q : Each) → e.kind ≡ tree.Each q → (within : Option Span) (a : Environment) (v : Visible)
    → (elaborated_expression e).formula within a v ≡ (elaborated_each q).formula (conjunct within e.span) a v
each_formula e q h within a v = formula_shown e (ExprKind-F.Each q) (tree.Each q) h (tree.rolls-Each q) within a v

-- a quantifier by its parts
each_rolled : (q : Each) → elaborated_each q ≡ elaborated_in_each (each_layer_of (out-Each q))
unfolding elaborated_expression elaborated_kind elaborated_each
each_rolled q = fold_out-Each ElaboratedKind ElaboratedEach ElaboratedExpression elaborated_in_kind elaborated_in_each
    elaborated_in_expression q

pub each_shown : (q : Each) (span : Span) (a : Environment) (v : Visible) → (elaborated_each q).formula span a v
    ≡ core.Each (out-Each q).name.name (core_of_expression a v (out-Each q).low) (core_of_expression a v (out-Each q).high)
    ((elaborated_expression (out-Each q).body).items (out-Each q).name.name (Some span) a (with_bound v (out-Each q).name)) span
each_shown q span a v = ap (λ p. p.formula span a v) (each_rolled q)

-- what is none of these is a fact
plain_layer : (l : ExprKind-F ExprKind Each Expr) → ((o : Operator) (x y : Expr) → l ≡ ExprKind-F.Binary o x y → ⊥)
    → ((x : Expr) (m n : ℕ) (s : Span) → l ≡ ExprKind-F.Perm x m n s → ⊥)
    → ((t : Token) (x : Expr) → l ≡ ExprKind-F.Token t x → ⊥)
    → ((t : Option Expr) (w : Word) (es : List Expr) → l ≡ ExprKind-F.Instance t w es → ⊥)
    → ((q : Each) → l ≡ ExprKind-F.Each q → ⊥) → (span : Span) (within : Option Span) (a : Environment) (v : Visible)
    → formula_in_kind (layer_of l) span within a v ≡ core.Fact (expression_in_kind (layer_of l) span a v) (conjunct within span)
plain_layer (ExprKind-F.Binary o x y) b p t i q span within a v = absurd (b o x y refl)
plain_layer (ExprKind-F.Perm x m n s) b p t i q span within a v = absurd (p x m n s refl)
plain_layer (ExprKind-F.Token k x) b p t i q span within a v = absurd (t k x refl)
plain_layer (ExprKind-F.Instance k w es) b p t i q span within a v = absurd (i k w es refl)
plain_layer (ExprKind-F.Each k) b p t i q span within a v = absurd (q k refl)
plain_layer l b p t i q span within a v = refl

rolls_instance : (t : Option Expr) (w : Word) (es : List Expr) → roll-ExprKind (ExprKind-F.Instance t w es) ≡ tree.Instance t w es
rolls_instance None w es = tree.rolls-Instance None w es
rolls_instance (Some t) w es = tree.rolls-Instance (Some t) w es

pub plain_formula : (e : Expr) → ((o : Operator) (x y : Expr) → e.kind ≡ tree.Binary o x y → ⊥)
    → ((x : Expr) (m n : ℕ) (s : Span) → e.kind ≡ tree.Perm x m n s → ⊥)
    → ((t : Token) (x : Expr) → e.kind ≡ tree.Token t x → ⊥)
    → ((t : Option Expr) (w : Word) (es : List Expr) → e.kind ≡ tree.Instance t w es → ⊥)
    → ((q : Each) → e.kind ≡ tree.Each q → ⊥) → (within : Option Span) (a : Environment) (v : Visible)
    → (elaborated_expression e).formula within a v ≡ core.Fact (core_of_expression a v e) (conjunct within e.span)
plain_formula e b p t i q within a v =
    let k : ExprKind = e.kind in
    ap (λ p. p.formula within a v) (elaborated_rolled e) ∙ ap (λ k. k.formula e.span within a v) (kind_rolled k)
    ∙ plain_layer (out-ExprKind k) (λ o x y j. b o x y (unrolled k (ExprKind-F.Binary o x y) j ∙ tree.rolls-Binary o x y))
    (λ x m n s j. p x m n s (unrolled k (ExprKind-F.Perm x m n s) j ∙ tree.rolls-Perm x m n s))
    (λ o x j. t o x (unrolled k (ExprKind-F.Token o x) j ∙ tree.rolls-Token o x))
    (λ o w es j. i o w es (unrolled k (ExprKind-F.Instance o w es) j ∙ rolls_instance o w es))
    (λ o j. q o (unrolled k (ExprKind-F.Each o) j ∙ tree.rolls-Each o)) e.span within a v
    ∙ ap (λ x. core.Fact x (conjunct within e.span))
    (sym (ap (λ p. p.expression a v) (elaborated_rolled e) ∙ ap (λ k. k.expression e.span a v) (kind_rolled k)))

-- Items

pub both_items : (e x y : Expr) (o : Operator) → e.kind ≡ tree.Binary o x y → (name : Name) (within : Option Span)
    (a : Environment) (v : Visible) → keeps_left o ≡ true → (elaborated_expression e).items name within a v
    ≡ together ((elaborated_expression x).items name within a v) ((elaborated_expression y).items name within a v)
both_items e x y o h name within a v k =
    let l : ExprKind-F ExprKind Each Expr = ExprKind-F.Binary o x y in
    items_shown e l (tree.Binary o x y) h (tree.rolls-Binary o x y) name within a v
    ∙ ap (λ b. if b then together ((elaborated_expression x).items name within a v)
    ((elaborated_expression y).items name within a v)
    else alone (item_in_kind (layer_of l) e.span name within a v)) k

pub operator_items : (e x y : Expr) (o : Operator) → e.kind ≡ tree.Binary o x y → (name : Name) (within : Option Span)
    (a : Environment) (v : Visible) → keeps_left o ≡ false → (elaborated_expression e).items name within a v
    ≡ alone ((elaborated_expression e).item name within a v)
operator_items e x y o h name within a v k =
    let l : ExprKind-F ExprKind Each Expr = ExprKind-F.Binary o x y in
    let r = tree.rolls-Binary o x y in
    items_shown e l (tree.Binary o x y) h r name within a v
    ∙ ap (λ b. if b then together ((elaborated_expression x).items name within a v)
    ((elaborated_expression y).items name within a v)
    else alone (item_in_kind (layer_of l) e.span name within a v)) k
    ∙ ap alone (sym (item_shown e l (tree.Binary o x y) h r name within a v))

items_layer : (l : ExprKind-F ExprKind Each Expr) → ((o : Operator) (x y : Expr) → l ≡ ExprKind-F.Binary o x y → ⊥)
    → (span : Span) (name : Name) (within : Option Span) (a : Environment) (v : Visible)
    → items_in_kind (layer_of l) span name within a v ≡ alone (item_in_kind (layer_of l) span name within a v)
items_layer (ExprKind-F.Binary o x y) b span name within a v = absurd (b o x y refl)
items_layer (ExprKind-F.Instance None w es) b span name within a v = refl
items_layer (ExprKind-F.Instance (Some t) w es) b span name within a v = refl
items_layer l b span name within a v = refl

pub alone_items : (e : Expr) → ((o : Operator) (x y : Expr) → e.kind ≡ tree.Binary o x y → ⊥) → (name : Name)
    (within : Option Span) (a : Environment) (v : Visible) → (elaborated_expression e).items name within a v
    ≡ alone ((elaborated_expression e).item name within a v)
alone_items e b name within a v =
    let k : ExprKind = e.kind in
    ap (λ p. p.items name within a v) (elaborated_rolled e) ∙ ap (λ k. k.items e.span name within a v) (kind_rolled k)
    ∙ items_layer (out-ExprKind k) (λ o x y j. b o x y (unrolled k (ExprKind-F.Binary o x y) j ∙ tree.rolls-Binary o x y)) e.span
    name within a v
    ∙ ap alone (sym (ap (λ p. p.item name within a v) (elaborated_rolled e)
    ∙ ap (λ k. k.item e.span name within a v) (kind_rolled k)))

-- One item

operator_item : (o : Operator) (x y : Expr) (span : Span) (name : Name) (within : Option Span) (a : Environment) (v : Visible)
    → implies o ≡ false → item_in_kind (layer_of (ExprKind-F.Binary o x y)) span name within a v
    ≡ core.Repeated (expression_in_kind (layer_of (ExprKind-F.Binary o x y)) span a v) (conjunct within span)
operator_item op.Add x y span name within a v h = refl
operator_item op.Sub x y span name within a v h = refl
operator_item op.Mul x y span name within a v h = refl
operator_item op.Eq x y span name within a v h = refl
operator_item op.Ne x y span name within a v h = refl
operator_item op.Lt x y span name within a v h = refl
operator_item op.Le x y span name within a v h = refl
operator_item op.Gt x y span name within a v h = refl
operator_item op.Ge x y span name within a v h = refl
operator_item op.And x y span name within a v h = refl
operator_item op.Or x y span name within a v h = refl
operator_item op.Implies x y span name within a v h = absurd cc
operator_item op.Star x y span name within a v h = refl

implied_item : (o : Operator) (x y : Expr) (span : Span) (name : Name) (within : Option Span) (a : Environment) (v : Visible)
    → implies o ≡ true → item_in_kind (layer_of (ExprKind-F.Binary o x y)) span name within a v
    ≡ implied name (conjunct within span) (elaborated_expression x) (elaborated_expression y) a v
implied_item op.Add x y span name within a v h = absurd cc
implied_item op.Sub x y span name within a v h = absurd cc
implied_item op.Mul x y span name within a v h = absurd cc
implied_item op.Eq x y span name within a v h = absurd cc
implied_item op.Ne x y span name within a v h = absurd cc
implied_item op.Lt x y span name within a v h = absurd cc
implied_item op.Le x y span name within a v h = absurd cc
implied_item op.Gt x y span name within a v h = absurd cc
implied_item op.Ge x y span name within a v h = absurd cc
implied_item op.And x y span name within a v h = absurd cc
implied_item op.Or x y span name within a v h = absurd cc
implied_item op.Implies x y span name within a v h = refl
implied_item op.Star x y span name within a v h = absurd cc

pub repeated_operator : (e x y : Expr) (o : Operator) → e.kind ≡ tree.Binary o x y → (name : Name) (within : Option Span)
    (a : Environment) (v : Visible) → implies o ≡ false → (elaborated_expression e).item name within a v
    ≡ core.Repeated (core_of_expression a v e) (conjunct within e.span)
repeated_operator e x y o h name within a v i =
    let l : ExprKind-F ExprKind Each Expr = ExprKind-F.Binary o x y in
    let r = tree.rolls-Binary o x y in
    item_shown e l (tree.Binary o x y) h r name within a v ∙ operator_item o x y e.span name within a v i
    ∙ ap (λ z. core.Repeated z (conjunct within e.span)) (sym (expression_shown e l (tree.Binary o x y) h r a v))

form_shown : (name : Name) (x : Expr) → form_for name (elaborated_expression x) ≡ ((shape_of x).facts name.0).form
form_shown name x = ap (λ (s : Shape). (s.facts name.0).form) (shape_in_elaborated x)

abbrev implied_by : Bool → Bool → Name → Span → ElaboratedExpression → ElaboratedExpression → Environment → Visible → Item
implied_by fixing guard name span x y a v =
    if fixing then core.Fixed (term_of (x.expression a v)) (y.formula (Some span) a v) span
    else (if guard then core.Guarded (cuts_of name (x.expression a v)) (y.item name (Some span) a v) span
    else core.Repeated (core.Implies (x.expression a v) (y.expression a v)) span)

implication_item : (e x y : Expr) (o : Operator) → e.kind ≡ tree.Binary o x y → (name : Name) (within : Option Span)
    (a : Environment) (v : Visible) → implies o ≡ true → (fixing guard : Bool)
    → is_fixing ((shape_of x).facts name.0).form ≡ fixing → is_guard ((shape_of x).facts name.0).form ≡ guard
    → (elaborated_expression e).item name within a v
    ≡ implied_by fixing guard name (conjunct within e.span) (elaborated_expression x) (elaborated_expression y) a v
implication_item e x y o h name within a v i fixing guard f g =
    let p = elaborated_expression x in
    let q = elaborated_expression y in
    let c : Span = conjunct within e.span in
    item_shown e (ExprKind-F.Binary o x y) (tree.Binary o x y) h (tree.rolls-Binary o x y) name within a v
    ∙ implied_item o x y e.span name within a v i
    ∙ ap (λ b. implied_by b (is_guard (form_for name p)) name c p q a v) (ap is_fixing (form_shown name x) ∙ f)
    ∙ ap (λ b. implied_by fixing b name c p q a v) (ap is_guard (form_shown name x) ∙ g)

pub fixed_item : (e x y : Expr) (o : Operator) → e.kind ≡ tree.Binary o x y → (name : Name) (within : Option Span)
    (a : Environment) (v : Visible) → implies o ≡ true → is_fixing ((shape_of x).facts name.0).form ≡ true
    → (elaborated_expression e).item name within a v
    ≡ core.Fixed (term_of (core_of_expression a v x)) ((elaborated_expression y).formula (Some (conjunct within e.span)) a v)
    (conjunct within e.span)
fixed_item e x y o h name within a v i f = implication_item e x y o h name within a v i true _ f refl

pub guarded_item : (e x y : Expr) (o : Operator) → e.kind ≡ tree.Binary o x y → (name : Name) (within : Option Span)
    (a : Environment) (v : Visible) → implies o ≡ true → is_fixing ((shape_of x).facts name.0).form ≡ false
    → is_guard ((shape_of x).facts name.0).form ≡ true → (elaborated_expression e).item name within a v
    ≡ core.Guarded (cuts_of name (core_of_expression a v x))
    ((elaborated_expression y).item name (Some (conjunct within e.span)) a v) (conjunct within e.span)
guarded_item e x y o h name within a v i f g = implication_item e x y o h name within a v i false true f g

pub repeated_implication_item : (e x y : Expr) (o : Operator) → e.kind ≡ tree.Binary o x y → (name : Name) (within : Option Span)
    (a : Environment) (v : Visible) → implies o ≡ true → is_fixing ((shape_of x).facts name.0).form ≡ false
    → is_guard ((shape_of x).facts name.0).form ≡ false → (elaborated_expression e).item name within a v
    ≡ core.Repeated (core.Implies (core_of_expression a v x) (core_of_expression a v y)) (conjunct within e.span)
repeated_implication_item e x y o h name within a v i f g = implication_item e x y o h name within a v i false false f g

pub perm_item : (e x : Expr) (part whole : ℕ) (amount : Span) → e.kind ≡ tree.Perm x part whole amount → (name : Name)
    (within : Option Span) (a : Environment) (v : Visible) → (elaborated_expression e).item name within a v
    ≡ shifted ((shape_of x).facts name.0).form (units_of part whole) (conjunct within e.span) (core_of_expression a v x)
perm_item e x part whole amount h name within a v =
    item_shown e (ExprKind-F.Perm x part whole amount) (tree.Perm x part whole amount) h (tree.rolls-Perm x part whole amount)
    name within a v
    ∙ ap (λ f. shifted f (units_of part whole) (conjunct within e.span) (core_of_expression a v x)) (form_shown name x)

token_item : (t : Token) (x : Expr) (span : Span) (name : Name) (within : Option Span) (a : Environment) (v : Visible)
    → commits t ≡ false → item_in_kind (layer_of (ExprKind-F.Token t x)) span name within a v
    ≡ core.Repeated (expression_in_kind (layer_of (ExprKind-F.Token t x)) span a v) (conjunct within span)
token_item token.Idle x span name within a v h = refl
token_item token.Running x span name within a v h = refl
token_item token.Committed x span name within a v h = absurd cc
token_item token.Uncommitted x span name within a v h = refl

committed_token : (t : Token) (x : Expr) (span : Span) (name : Name) (within : Option Span) (a : Environment) (v : Visible)
    → commits t ≡ true → item_in_kind (layer_of (ExprKind-F.Token t x)) span name within a v
    ≡ core.Committed (class_at (typing_in (elaborated_expression x).checked a v)) (core_of_expression a v x) (conjunct within
    span)
committed_token token.Idle x span name within a v h = absurd cc
committed_token token.Running x span name within a v h = absurd cc
committed_token token.Committed x span name within a v h = refl
committed_token token.Uncommitted x span name within a v h = absurd cc

pub committed_item : (e x : Expr) (t : Token) → e.kind ≡ tree.Token t x → (name : Name) (within : Option Span) (a : Environment)
    (v : Visible) → commits t ≡ true → (elaborated_expression e).item name within a v
    ≡ core.Committed (class_at (typing_in (checked_expression x) a v)) (core_of_expression a v x) (conjunct within e.span)
committed_item e x t h name within a v k =
    item_shown e (ExprKind-F.Token t x) (tree.Token t x) h (tree.rolls-Token t x) name within a v
    ∙ committed_token t x e.span name within a v k
    ∙ ap (λ (p : CheckedExpression). core.Committed (class_at (typing_in p a v)) (core_of_expression a v x)
    (conjunct within e.span)) (checked_in_elaborated x)

pub repeated_token : (e x : Expr) (t : Token) → e.kind ≡ tree.Token t x → (name : Name) (within : Option Span) (a : Environment)
    (v : Visible) → commits t ≡ false → (elaborated_expression e).item name within a v
    ≡ core.Repeated (core_of_expression a v e) (conjunct within e.span)
repeated_token e x t h name within a v k =
    item_shown e (ExprKind-F.Token t x) (tree.Token t x) h (tree.rolls-Token t x) name within a v
    ∙ token_item t x e.span name within a v k
    ∙ ap (λ z. core.Repeated z (conjunct within e.span))
    (sym (expression_shown e (ExprKind-F.Token t x) (tree.Token t x) h (tree.rolls-Token t x) a v))

item_layer : (l : ExprKind-F ExprKind Each Expr) → ((o : Operator) (x y : Expr) → l ≡ ExprKind-F.Binary o x y → ⊥)
    → ((x : Expr) (m n : ℕ) (s : Span) → l ≡ ExprKind-F.Perm x m n s → ⊥)
    → ((t : Token) (x : Expr) → l ≡ ExprKind-F.Token t x → ⊥)
    → (span : Span) (name : Name) (within : Option Span) (a : Environment) (v : Visible)
    → item_in_kind (layer_of l) span name within a v ≡ core.Repeated (expression_in_kind (layer_of l) span a v) (conjunct
    within span)
item_layer (ExprKind-F.Binary o x y) b p t span name within a v = absurd (b o x y refl)
item_layer (ExprKind-F.Perm x m n s) b p t span name within a v = absurd (p x m n s refl)
item_layer (ExprKind-F.Token k x) b p t span name within a v = absurd (t k x refl)
item_layer (ExprKind-F.Instance None w es) b p t span name within a v = refl
item_layer (ExprKind-F.Instance (Some k) w es) b p t span name within a v = refl
item_layer l b p t span name within a v = refl

pub repeated_item : (e : Expr) → ((o : Operator) (x y : Expr) → e.kind ≡ tree.Binary o x y → ⊥)
    → ((x : Expr) (m n : ℕ) (s : Span) → e.kind ≡ tree.Perm x m n s → ⊥)
    → ((t : Token) (x : Expr) → e.kind ≡ tree.Token t x → ⊥)
    → (name : Name) (within : Option Span) (a : Environment) (v : Visible) → (elaborated_expression e).item name within a v
    ≡ core.Repeated (core_of_expression a v e) (conjunct within e.span)
repeated_item e b p t name within a v =
    let k : ExprKind = e.kind in
    ap (λ p. p.item name within a v) (elaborated_rolled e) ∙ ap (λ k. k.item e.span name within a v) (kind_rolled k)
    ∙ item_layer (out-ExprKind k) (λ o x y j. b o x y (unrolled k (ExprKind-F.Binary o x y) j ∙ tree.rolls-Binary o x y))
    (λ x m n s j. p x m n s (unrolled k (ExprKind-F.Perm x m n s) j ∙ tree.rolls-Perm x m n s))
    (λ o x j. t o x (unrolled k (ExprKind-F.Token o x) j ∙ tree.rolls-Token o x)) e.span name within a v
    ∙ ap (λ x. core.Repeated x (conjunct within e.span))
    (sym (ap (λ p. p.expression a v) (elaborated_rolled e) ∙ ap (λ k. k.expression e.span a v) (kind_rolled k)))
