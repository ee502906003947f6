-- What becomes of an expression in which `\old` doesn't stand speaks of the present.
use Rattle.std.proofs.Common.{◌≡◌, ℕ, ℤ, Bool, true, false, ◌||◌, Option, Some, None, List, [], ◌∷◌, ◌++◌, map}
use Rattle.std.proofs.lemmas.Bool.{or_parts}
use Rattle.std.specs.Prelude.{if◌then◌else◌}
use Rattle.std.specs.List.{list_any, AllByRecursion}
use Rattle.pv_base.specs.declared.Name.{Name}
use Rattle.pv_base.specs.declared.Span.{Span}
use Rattle.pv_ast.specs.declared.Word.{Word}
use Rattle.pv_ast.specs.declared.PvType.{PvType}
use Rattle.pv_ast.specs.declared.Token.{Token}
use Rattle.pv_ast.specs.declared.Token.TheVariants as token
use Rattle.pv_ast.specs.declared.Operator.{Operator}
use Rattle.pv_ast.specs.declared.Operator.TheVariants as op
use Rattle.pv_ast.specs.declared.Expr.{Expr}
use Rattle.pv_ast.specs.declared.ExprKind.{ExprKind-F}
use Rattle.pv_ast.specs.declared.scope.Declared.{Declared}
use Rattle.pv_ast.specs.declared.standing.Typing.{Typing}
use Rattle.pv_ast.specs.Rules.Scoping.{Visible, variable_named}
use Rattle.pv_ast.specs.Rules.Expressions.{Environment, typing_in, is_array_length}
use Rattle.pv_ast.specs.Rules.Items.{Form, is_guard, is_fixing, keeps_left}
use Rattle.pv_ast.specs.Rules.Items as items
use Rattle.pv_picks.specs.Plain.Core as core
use Rattle.pv_picks.specs.Plain.Core.{Expression, Formula, Items, Item, Cut}
use Rattle.pv_picks.specs.Formulas.Meeting.{guard_term}
use Rattle.pv_picks.specs.Elaborating.Operations.{is_literal, plainly, compared, operation, negation, is_position, cut_before, cut_behind, cuts_of, term_of, permission, permissions}
use Rattle.pv_picks.specs.Elaborating.Names.{named, member_of, elements_of, class_at}
use Rattle.pv_picks.specs.Elaborating.Expressions.{ElaboratedExpression, ElaboratedKind, ElaboratedEach, elaborated_in_kind, elaborated_in_each, elaborated_expression, is_pure, is_fact, conjunct, joined, together, alone, implied, form_for, shifted, units_of, type_of_elaborated, object_of, arguments_of, item_in_kind}
use Rattle.core_trees.proofs.Layers.{LayerStep, piece_induction}
use Rattle.core_names.specs.Present.{IsPresent, ArePresent, AreCutsPresent, IsPresentFormula, ArePresentItems, IsPresentItem}
use Rattle.core_trees.proofs.Induction.{all_with}

-- Operations

plainly_present : (x : Expression) → IsPresent x → IsPresent (plainly x)
plainly_present (core.Compute manner core.Minus x y span) h = h
plainly_present (core.Compute manner core.Plus x y span) h = h
plainly_present (core.Compute manner core.Times x y span) h = h
plainly_present (core.Constant v) h = h
plainly_present core.This h = h
plainly_present core.Result h = h
plainly_present (core.Variable name) h = h
plainly_present (core.Field object class name span) h = h
plainly_present (core.Element type array index span) h = h
plainly_present (core.Length type array span) h = h
plainly_present (core.Not e) h = h
plainly_present (core.Compare order a b) h = h
plainly_present (core.Equal same a b) h = h
plainly_present (core.And a b) h = h
plainly_present (core.Or a b) h = h
plainly_present (core.Implies a b) h = h
plainly_present (core.Old e) h = h

either_present : (b : Bool) (x y : Expression) → IsPresent x → IsPresent y → IsPresent (if b then x else y)
either_present true x y h k = h
either_present false x y h k = k

compared_present : (other x : Expression) → IsPresent x → IsPresent (compared other x)
compared_present other x h = either_present (is_literal other) (plainly x) x (plainly_present x h) h

two_compared : (x y : Expression) → IsPresent x → IsPresent y → IsPresent (compared y x) × IsPresent (compared x y)
two_compared x y h k = (compared_present y x h, compared_present x y k)

operation_present : (o : Operator) (span : Span) (x y : Expression) → IsPresent x → IsPresent y → IsPresent (operation o span x y)
operation_present op.Add span x y h k = (h, k)
operation_present op.Sub span x y h k = (h, k)
operation_present op.Mul span x y h k = (h, k)
operation_present op.Eq span x y h k = two_compared x y h k
operation_present op.Ne span x y h k = two_compared x y h k
operation_present op.Lt span x y h k = two_compared x y h k
operation_present op.Le span x y h k = two_compared x y h k
operation_present op.Gt span x y h k = two_compared x y h k
operation_present op.Ge span x y h k = two_compared x y h k
operation_present op.And span x y h k = (h, k)
operation_present op.Or span x y h k = (h, k)
operation_present op.Implies span x y h k = (h, k)
operation_present op.Star span x y h k = (h, k)

negation_present : (o : Option ℕ) (span : Span) (x : Expression) → IsPresent x → IsPresent (negation o span x)
negation_present None span x h = (tt, h)
negation_present (Some n) span x h = tt

named_present : (a : Environment) (span : Span) (name : Name) (o : Option Declared) → IsPresent (named a span name o)
named_present a span name None = tt
named_present a span name (Some d) = tt

member_present : (a : Environment) (span : Span) (name : Name) (t : Typing) (x : Expression) → IsPresent x
    → IsPresent (member_of a span name t x)
member_present a span name t x h =
    either_present (is_array_length a name t) (core.Length (elements_of t) x span) (core.Field x (class_at t) name span) h h

-- Guards and places

before_present : (c : core.Comparison) (e : Expression) → IsPresent e → IsPresent (guard_term (cut_before c e))
before_present core.Less e h = h
before_present core.AtMost e h = h
before_present core.Greater e h = h
before_present core.AtLeast e h = h

behind_present : (c : core.Comparison) (e : Expression) → IsPresent e → IsPresent (guard_term (cut_behind c e))
behind_present core.Less e h = h
behind_present core.AtMost e h = h
behind_present core.Greater e h = h
behind_present core.AtLeast e h = h

cut_if : (b c : Bool) (x y z : Cut) → IsPresent (guard_term x) → IsPresent (guard_term y) → IsPresent (guard_term z)
    → IsPresent (guard_term (if b then x else (if c then y else z)))
cut_if true c x y z h k l = h
cut_if false true x y z h k l = k
cut_if false false x y z h k l = l

cuts_append : (xs ys : List Cut) → AreCutsPresent xs → AreCutsPresent ys → AreCutsPresent (xs ++ ys)
cuts_append [] ys h k = k
cuts_append (x ∷ xs) ys h k = (h.0, cuts_append xs ys h.1 k)

cuts_present : (name : Name) (e : Expression) → IsPresent e → AreCutsPresent (cuts_of name e)
cuts_present name (core.And x y) h = cuts_append (cuts_of name x) (cuts_of name y) (cuts_present name x h.0)
    (cuts_present name y h.1)
cuts_present name (core.Compare c x y) h = (
  cut_if (is_position name x) (is_position name y) (cut_before c y) (cut_behind c x) (core.Provided (core.Compare c x y))
      (before_present c y h.1) (behind_present c x h.0) h,
  tt,
)
cuts_present name (core.Constant v) h = (h, tt)
cuts_present name core.This h = (h, tt)
cuts_present name core.Result h = (h, tt)
cuts_present name (core.Variable x) h = (h, tt)
cuts_present name (core.Field object class field span) h = (h, tt)
cuts_present name (core.Element type array index span) h = (h, tt)
cuts_present name (core.Length type array span) h = (h, tt)
cuts_present name (core.Not e) h = (h, tt)
cuts_present name (core.Compute manner o a b span) h = (h, tt)
cuts_present name (core.Equal same a b) h = (h, tt)
cuts_present name (core.Or a b) h = (h, tt)
cuts_present name (core.Implies a b) h = (h, tt)
cuts_present name (core.Old e) h = absurd h

term_present : (e : Expression) → IsPresent e → IsPresent (term_of e)
term_present (core.Equal same x y) h = h.1
term_present (core.And x y) h = tt
term_present (core.Compare c x y) h = tt
term_present (core.Constant v) h = tt
term_present core.This h = tt
term_present core.Result h = tt
term_present (core.Variable x) h = tt
term_present (core.Field object class field span) h = tt
term_present (core.Element type array index span) h = tt
term_present (core.Length type array span) h = tt
term_present (core.Not e) h = tt
term_present (core.Compute manner o a b span) h = tt
term_present (core.Or a b) h = tt
term_present (core.Implies a b) h = tt
term_present (core.Old e) h = tt

permission_present : (type : PvType) (units : ℕ) (span : Span) (e : Expression) → IsPresent e
    → IsPresentFormula (permission type units span e)
permission_present type units span (core.Field object class field at) h = h
permission_present type units span (core.Element type' array index at) h = h
permission_present type units span (core.Equal same x y) h = tt
permission_present type units span (core.And x y) h = tt
permission_present type units span (core.Compare c x y) h = tt
permission_present type units span (core.Constant v) h = tt
permission_present type units span core.This h = tt
permission_present type units span core.Result h = tt
permission_present type units span (core.Variable x) h = tt
permission_present type units span (core.Length type' array at) h = tt
permission_present type units span (core.Not e) h = tt
permission_present type units span (core.Compute manner o a b at) h = tt
permission_present type units span (core.Or a b) h = tt
permission_present type units span (core.Implies a b) h = tt
permission_present type units span (core.Old e) h = tt

permissions_present : (shift : ℤ) (units : ℕ) (span : Span) (e : Expression) → IsPresent e
    → IsPresentItem (permissions shift units span e)
permissions_present shift units span (core.Element type' array index at) h = h.0
permissions_present shift units span (core.Field object class field at) h = tt
permissions_present shift units span (core.Equal same x y) h = tt
permissions_present shift units span (core.And x y) h = tt
permissions_present shift units span (core.Compare c x y) h = tt
permissions_present shift units span (core.Constant v) h = tt
permissions_present shift units span core.This h = tt
permissions_present shift units span core.Result h = tt
permissions_present shift units span (core.Variable x) h = tt
permissions_present shift units span (core.Length type' array at) h = tt
permissions_present shift units span (core.Not e) h = tt
permissions_present shift units span (core.Compute manner o a b at) h = tt
permissions_present shift units span (core.Or a b) h = tt
permissions_present shift units span (core.Implies a b) h = tt
permissions_present shift units span (core.Old e) h = tt

-- The laws of pieces

-- what a piece becomes, wherever it stands
record IsOfPresent (x : Span → Environment → Visible → Expression) (f : Span → Option Span → Environment → Visible → Formula)
    (is : Span → Name → Option Span → Environment → Visible → Items) (i : Span → Name → Option Span → Environment → Visible
    → Item) : Type 0 where
  expression : (span : Span) (a : Environment) (v : Visible) → IsPresent (x span a v)
  formula : (span : Span) (environment : Option Span) (a : Environment) (v : Visible) → IsPresentFormula (f span environment a v)
  items : (span : Span) (name : Name) (environment : Option Span) (a : Environment) (v : Visible)
      → ArePresentItems (is span name environment a v)
  item : (span : Span) (name : Name) (environment : Option Span) (a : Environment) (v : Visible)
      → IsPresentItem (i span name environment a v)

abbrev KindLaw : ElaboratedKind → Type 0
KindLaw k = k.old ≡ false → IsOfPresent k.expression k.formula k.items k.item

pub record OfPresent (p : ElaboratedExpression) : Type 0 where
  pub expression : (a : Environment) (v : Visible) → IsPresent (p.expression a v)
  pub formula : (environment : Option Span) (a : Environment) (v : Visible) → IsPresentFormula (p.formula environment a v)
  pub items : (name : Name) (environment : Option Span) (a : Environment) (v : Visible)
      → ArePresentItems (p.items name environment a v)
  pub item : (name : Name) (environment : Option Span) (a : Environment) (v : Visible)
      → IsPresentItem (p.item name environment a v)

abbrev ElaboratedLaw : ElaboratedExpression → Type 0
ElaboratedLaw p = p.old ≡ false → OfPresent p

abbrev EachLaw : ElaboratedEach → Type 0
EachLaw q = q.old ≡ false → (span : Span) (a : Environment) (v : Visible) → IsPresentFormula (q.formula span a v)

-- a part that is a fact, and as an item a repeated one
fact : (x : Span → Environment → Visible → Expression) → ((span : Span) (a : Environment) (v : Visible) → IsPresent (x span a v))
    → IsOfPresent x (λ span environment a v. core.Fact (x span a v) (conjunct environment span))
    (λ span name environment a v. alone (core.Repeated (x span a v) (conjunct environment span)))
    (λ span name environment a v. core.Repeated (x span a v) (conjunct environment span))
fact x h = record {
  expression = h;
  formula = λ span environment a v. h span a v;
  items = λ span name environment a v. (h span a v, tt);
  item = λ span name environment a v. h span a v;
}

pub together_present : (is js : Items) → ArePresentItems is → ArePresentItems js → ArePresentItems (together is js)
together_present core.NoItems js h k = k
together_present (core.Join i is) js h k = (h.0, together_present is js h.1 k)

formula_if : (b : Bool) (f g : Formula) → IsPresentFormula f → IsPresentFormula g → IsPresentFormula (if b then f else g)
formula_if true f g h k = h
formula_if false f g h k = k

items_if : (b : Bool) (f g : Items) → ArePresentItems f → ArePresentItems g → ArePresentItems (if b then f else g)
items_if true f g h k = h
items_if false f g h k = k

item_if : (b c : Bool) (i j k : Item) → IsPresentItem i → IsPresentItem j → IsPresentItem k
    → IsPresentItem (if b then i else (if c then j else k))
item_if true c i j k x y z = x
item_if false true i j k x y z = y
item_if false false i j k x y z = z

module _ (x y : ElaboratedExpression) (h : OfPresent x) (k : OfPresent y) where
  joined_present : (o : Operator) (environment : Option Span) (span : Span) (a : Environment) (v : Visible)
      → IsPresentFormula (joined o environment span x y a v)
  joined_present op.And environment span a v = (h.formula environment a v, k.formula environment a v)
  joined_present op.Star environment span a v = (h.formula environment a v, k.formula environment a v)
  joined_present op.Implies environment span a v = (h.expression a v, k.formula (Some (conjunct environment span)) a v)
  joined_present op.Add environment span a v = tt
  joined_present op.Sub environment span a v = tt
  joined_present op.Mul environment span a v = tt
  joined_present op.Eq environment span a v = tt
  joined_present op.Ne environment span a v = tt
  joined_present op.Lt environment span a v = tt
  joined_present op.Le environment span a v = tt
  joined_present op.Gt environment span a v = tt
  joined_present op.Ge environment span a v = tt
  joined_present op.Or environment span a v = tt

  implied_present : (name : Name) (span : Span) (a : Environment) (v : Visible) → IsPresentItem (implied name span x y a v)
  implied_present name span a v =
      item_if (is_fixing (form_for name x)) (is_guard (form_for name x))
      (core.Fixed (term_of (x.expression a v)) (y.formula (Some span) a v) span)
      (core.Guarded (cuts_of name (x.expression a v)) (y.item name (Some span) a v) span)
      (core.Repeated (core.Implies (x.expression a v) (y.expression a v)) span)
      (term_present (x.expression a v) (h.expression a v), k.formula (Some span) a v)
      (cuts_present name (x.expression a v) (h.expression a v), k.item name (Some span) a v)
      (h.expression a v, k.expression a v)

  whole : (o : Operator) (span : Span) (a : Environment) (v : Visible)
      → IsPresent (operation o span (x.expression a v) (y.expression a v))
  whole o span a v = operation_present o span (x.expression a v) (y.expression a v) (h.expression a v) (k.expression a v)

  binary_item : (o : Operator) (span : Span) (name : Name) (environment : Option Span) (a : Environment) (v : Visible)
      → IsPresentItem (item_in_kind (ExprKind-F.Binary o x y) span name environment a v)
  binary_item op.Implies span name environment a v = implied_present name (conjunct environment span) a v
  binary_item op.Add span name environment a v = whole op.Add span a v
  binary_item op.Sub span name environment a v = whole op.Sub span a v
  binary_item op.Mul span name environment a v = whole op.Mul span a v
  binary_item op.Eq span name environment a v = whole op.Eq span a v
  binary_item op.Ne span name environment a v = whole op.Ne span a v
  binary_item op.Lt span name environment a v = whole op.Lt span a v
  binary_item op.Le span name environment a v = whole op.Le span a v
  binary_item op.Gt span name environment a v = whole op.Gt span a v
  binary_item op.Ge span name environment a v = whole op.Ge span a v
  binary_item op.And span name environment a v = whole op.And span a v
  binary_item op.Or span name environment a v = whole op.Or span a v
  binary_item op.Star span name environment a v = whole op.Star span a v

binary_law : (o : Operator) (x y : ElaboratedExpression) → ElaboratedLaw x → ElaboratedLaw y
    → KindLaw (elaborated_in_kind (ExprKind-F.Binary o x y))
binary_law o x y law_x law_y old =
    let two = or_parts x.old y.old old in
    let h : OfPresent x = law_x two.0 in
    let k : OfPresent y = law_y two.1 in
    record {
      expression = whole x y h k o;
      formula = λ span environment a v.
          formula_if (is_fact environment o (is_pure (ExprKind-F.Binary o x y)))
          (core.Fact (operation o span (x.expression a v) (y.expression a v)) (conjunct environment span))
          (joined o environment span x y a v) (whole x y h k o span a v) (joined_present x y h k o environment span a v);
      items = λ span name environment a v.
          items_if (keeps_left o) (together (x.items name environment a v) (y.items name environment a v))
          (alone (item_in_kind (ExprKind-F.Binary o x y) span name environment a v))
          (together_present (x.items name environment a v) (y.items name environment a v) (h.items name environment a v)
          (k.items name environment a v))
          (binary_item x y h k o span name environment a v, tt);
      item = λ span name environment a v. binary_item x y h k o span name environment a v;
    }

shifted_present : (form : Form) (units : ℕ) (span : Span) (e : Expression) → IsPresent e
    → IsPresentItem (shifted form units span e)
shifted_present (items.element shift) units span e h = permissions_present shift units span e h
shifted_present items.variable units span e h = tt
shifted_present (items.literal n) units span e h = tt
shifted_present (items.shift s) units span e h = tt
shifted_present items.guard units span e h = tt
shifted_present items.fixing units span e h = tt
shifted_present items.other units span e h = tt

permission_law : (p : ElaboratedExpression) (checked whole : ℕ) (amount : Span) → ElaboratedLaw p
    → KindLaw (elaborated_in_kind (ExprKind-F.Perm p checked whole amount))
permission_law p checked whole amount law old =
    let h : OfPresent p = law old in
    let one : (span : Span) (name : Name) (environment : Option Span) (a : Environment) (v : Visible) → IsPresentItem
    (item_in_kind (ExprKind-F.Perm p checked whole amount) span name environment a v) =
    λ span name environment a v. shifted_present (form_for name p) (units_of checked whole) (conjunct environment span)
    (p.expression a v)
    (h.expression a v) in
    record {
      expression = λ span a v. tt;
      formula = λ span environment a v. permission_present (type_of_elaborated p a v) (units_of checked whole)
          (conjunct environment span)
          (p.expression a v) (h.expression a v);
      items = λ span name environment a v. (one span name environment a v, tt);
      item = one;
    }

token_item : (t : Token) (p : ElaboratedExpression) → OfPresent p
    → (span : Span) (name : Name) (environment : Option Span) (a : Environment) (v : Visible)
    → IsPresentItem (item_in_kind (ExprKind-F.Token t p) span name environment a v)
token_item token.Committed p h span name environment a v = h.expression a v
token_item token.Uncommitted p h span name environment a v = tt
token_item token.Idle p h span name environment a v = tt
token_item token.Running p h span name environment a v = tt

token_law : (t : Token) (p : ElaboratedExpression) → ElaboratedLaw p → KindLaw (elaborated_in_kind (ExprKind-F.Token t p))
token_law t p law old =
    let h : OfPresent p = law old in
    record {
      expression = λ span a v. tt;
      formula = λ span environment a v. h.expression a v;
      items = λ span name environment a v. (token_item t p h span name environment a v, tt);
      item = token_item t p h;
    }

args_present : (ps : List ElaboratedExpression) → AllByRecursion ElaboratedLaw ps → list_any (λ p. p.old) ps ≡ false
    → (a : Environment) (v : Visible)
    → ArePresent (arguments_of ps a v)
args_present [] laws old a v = tt
args_present (p ∷ ps) laws old a v =
    let two = or_parts p.old (list_any (λ p. p.old) ps) old in ((laws.0 two.0).expression a v, args_present ps laws.1 two.1 a v)

instance_law : (object : Option ElaboratedExpression) (w : Word) (ps : List ElaboratedExpression)
    → ((a : Environment) (v : Visible) → IsPresent (object_of object a v)) → AllByRecursion ElaboratedLaw ps
    → list_any (λ p. p.old) ps ≡ false → (let k : ElaboratedKind = elaborated_in_kind
    (ExprKind-F.Instance object w ps) in IsOfPresent k.expression k.formula k.items k.item)
instance_law object w ps there laws old = record {
  expression = λ span a v. tt;
  formula = λ span environment a v. (there a v, args_present ps laws old a v);
  items = λ span name environment a v. (tt, tt);
  item = λ span name environment a v. tt;
}

-- The induction

layer_law : LayerStep KindLaw EachLaw ElaboratedLaw
layer_law (ExprKind-F.Number n) = λ old. fact _ (λ span a v. tt)
layer_law (ExprKind-F.Truth b) = λ old. fact _ (λ span a v. tt)
layer_law ExprKind-F.Null = λ old. fact _ (λ span a v. tt)
layer_law ExprKind-F.This = λ old. fact _ (λ span a v. tt)
layer_law ExprKind-F.Result = λ old. fact _ (λ span a v. tt)
layer_law (ExprKind-F.Var w) = λ old. fact _ (λ span a v. named_present a span w.name (variable_named v w.name))
layer_law (ExprKind-F.Field e w) = λ old.
    fact _ (λ span a v. member_present a span w.name (typing_in (elaborated_expression e.0).checked a v)
    ((elaborated_expression e.0).expression a v)
    ((e.1 old).expression a v))
layer_law (ExprKind-F.Index e i) = λ old.
    let two = or_parts (elaborated_expression e.0).old (elaborated_expression i.0).old old in fact _
    (λ span a v. ((e.1 two.0).expression a v, (i.1 two.1).expression a v))
layer_law (ExprKind-F.Not e) = λ old. fact _ (λ span a v. (e.1 old).expression a v)
layer_law (ExprKind-F.Minus e) = λ old. fact _ (λ span a v. negation_present (elaborated_expression e.0).written span
    ((elaborated_expression e.0).expression a v) ((e.1 old).expression a v))
layer_law (ExprKind-F.Binary o x y) = binary_law o (elaborated_expression x.0) (elaborated_expression y.0) x.1 y.1
layer_law (ExprKind-F.Old e) = λ old. absurd (let no : true ≡ false = old in cc)
layer_law (ExprKind-F.Perm e checked whole amount) = permission_law (elaborated_expression e.0) checked whole amount e.1
layer_law (ExprKind-F.Token t e) = token_law t (elaborated_expression e.0) e.1
layer_law (ExprKind-F.Instance None w es) = λ old. instance_law None w (map elaborated_expression (map (λ e. e.0) es)) (λ a v. tt)
    (all_with elaborated_expression ElaboratedLaw es) old
layer_law (ExprKind-F.Instance (Some e) w es) = λ old.
    let two = or_parts (elaborated_expression e.0).old (list_any (λ p. p.old) (map elaborated_expression (map (λ e. e.0) es))) old
    in
    instance_law (Some (elaborated_expression e.0)) w (map elaborated_expression (map (λ e. e.0) es))
    (λ a v. (e.1 two.0).expression a v)
    (all_with elaborated_expression ElaboratedLaw es) two.1
layer_law (ExprKind-F.Each q) = λ old. record {
  expression = λ span a v. tt;
  formula = λ span environment a v. q.1 old (conjunct environment span) a v;
  items = λ span name environment a v. (tt, tt);
  item = λ span name environment a v. tt;
}

each_law : (star : Bool) (w : Word) (low high body : ElaboratedExpression) (written : Option (Word × Word)) → ElaboratedLaw low
    → ElaboratedLaw high
    → ElaboratedLaw body
    → EachLaw (elaborated_in_each (record { star = star; name = w; low = low; high = high; body = body; written = written }))
each_law star w low high body written law_low law_high law_body = λ old span a v.
    let one = or_parts low.old (high.old || body.old) old in
    let two = or_parts high.old body.old one.1 in
    ((law_low one.0).expression a v, (law_high two.0).expression a v, (law_body two.1).items w.name (Some span) a _)

-- an expression in which `\old` doesn't stand
pub of_present : (e : Expr) → (elaborated_expression e).old ≡ false → OfPresent (elaborated_expression e)
of_present =
    piece_induction KindLaw EachLaw ElaboratedLaw layer_law (λ y.
    each_law y.star y.name (elaborated_expression y.low.0) (elaborated_expression y.high.0) (elaborated_expression y.body.0)
    y.written y.low.1 y.high.1 y.body.1)
    (λ span k law old. let h = law old in
    record { expression = h.expression span; formula = h.formula span; items = h.items span; item = h.item span })
