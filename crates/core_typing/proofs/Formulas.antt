-- A formula without a fault becomes a well typed one, wherever it stands.
use Rattle.std.proofs.Common.{◌≡◌, ℕ, Bool, true, false, Option, Some, None, is_some, option_map, List, [], ◌∷◌, ◌++◌, map, refl, sym, ◌∙◌, ap, subst, inr}
use Rattle.std.proofs.lemmas.Bool.{and_from, eq-eqb}
use Rattle.std.specs.Prelude.{◌⊎◌, nat_eq, if◌then◌else◌}
use Rattle.std.specs.List.{flat_map}
use Rattle.pv_base.specs.declared.Name.{Name}
use Rattle.pv_base.specs.declared.Span.{Span}
use Rattle.pv_ast.specs.declared.Word.{Word}
use Rattle.pv_ast.specs.declared.Token.{Token}
use Rattle.pv_ast.specs.declared.Token.TheVariants as token
use Rattle.pv_ast.specs.declared.PvType.TheVariants.{Int, Truth, Object}
use Rattle.pv_ast.specs.declared.Expr.{Expr}
use Rattle.pv_ast.specs.declared.ExprKind.{ExprKind-F}
use Rattle.pv_ast.specs.declared.fault.Rule.TheVariants as rule
use Rattle.pv_ast.specs.declared.fault.ShapeFault.{ShapeFault}
use Rattle.pv_ast.specs.declared.scope.Declaration.TheVariants.{Bound}
use Rattle.pv_ast.specs.declared.standing.Context.{Context}
use Rattle.pv_ast.specs.declared.standing.Need.TheVariants.{Anything, Exactly, AnObject, AnArray}
use Rattle.pv_ast.specs.declared.standing.Seen.{Seen}
use Rattle.pv_ast.specs.declared.standing.Typing.{Typing}
use Rattle.pv_ast.specs.Rules.Scoping.{Visible, is_visible}
use Rattle.pv_ast.specs.Rules.Items.{Facts, Form, clause, Shape, item_of_location, item_of_token, variable, literal, shift, element, guard, fixing, other, body_of}
use Rattle.pv_ast.specs.Rules.Shapes.{quantifiers_in, quantifiers_in_option, quantifiers_in_all}
use Rattle.pv_ast.specs.Rules.Shapes as shapes
use Rattle.pv_ast.specs.Rules.Typing as typing
use Rattle.pv_ast.specs.Rules.Expressions as parts
use Rattle.pv_ast.specs.Rules.Expressions.{Environment, CheckedExpression, checked_expression, typing_in, is_length, need_of_target, with_bound, under_quantifier}
use Rattle.pv_ast.specs.Rules.Statements.{checked_option, parts_of, faults_of_formula}
use Rattle.pv_picks.specs.Plain.Core.{Expression, Formula, Items, Item}
use Rattle.pv_picks.specs.Plain.Core as core
use Rattle.pv_picks.specs.Elaborating.Names.{settled, class_at}
use Rattle.pv_picks.specs.Elaborating.Expressions.{ElaboratedExpression, elaborated_in_each, elaborated_expression, conjunct, alone, object_of, class_of_object, arguments_of, part_option, form_for, item_in_kind, units_of, core_of_formula, core_of_items}
use Rattle.pv_picks.specs.Elaborating.Statements.{all_elaborated}
use Rattle.core_trees.proofs.Clean.{Clean, unless_holds, if_fails, no_first, no_second}
use Rattle.core_trees.proofs.Layers.{checked_in_elaborated, shape_in_elaborated, LayerStep, piece_induction}
use Rattle.core_trees.proofs.ConfiningStmts.{formula_confined}
use Rattle.core_trees.proofs.Sound.{sound_with}
use Rattle.core_trees.proofs.Uses.{parts_same, target_same}
use Rattle.pv_picks.specs.Typing.Expressions.{Home, Speech, type_in, Says}
use Rattle.core_trees.specs.Formulas.{IsAmount, Bears, FormulaFits}
use Rattle.core_typing.proofs.Within.{FormulaWithin, ItemsWithin, ItemWithin}
use Rattle.core_typing.proofs.Outside.{formula_outside}
use Rattle.core_typing.proofs.Declared.{amount_fits, fields_declared, token_bears}
use Rattle.core_typing.proofs.Types.{itself, object_wanted}
use Rattle.core_typing.proofs.Scopes.{not_listed, variable_listed}
use Rattle.core_typing.proofs.Places.{Place, Speaks, Strict, speaks_purely, speaks_quantified}
use Rattle.core_trees.proofs.Shapes.{IsPosition, is_element, shown, variable_pure}
use Rattle.core_trees.proofs.Purity.{other_int, other_array, other_object, other_target, purely, typed, located, solid_pure}
use Rattle.core_typing.proofs.Expressions.{expression_law}
use Rattle.core_typing.proofs.Uses.{object_at, instance_at, typed_place}
use Rattle.core_typing.proofs.Parts.{permission_fits, shifted_fits}
use Rattle.core_typing.proofs.Made.{Ready, no_fault, all_items, Made, KindLaw, EachLaw, ExprLaw, Exprs, LayerLaw, made_at, number_goes, no_item, right_of, item_or, PureItem, PartFault, fact_made, whole_made}
use Rattle.core_typing.proofs.Joined.{operator_made}
use Rattle.core_trees.proofs.Settling.{meets_elaborated}

-- Permissions, threads and locks

element_form : (form : Form) → is_some (item_of_location form) ≡ true → is_element form ≡ true
element_form (element s) k = refl
element_form variable k = absurd cc
element_form (literal n) k = absurd cc
element_form (shift s) k = absurd cc
element_form guard k = absurd cc
element_form fixing k = absurd cc
element_form other k = absurd cc

permission_made : (e : Exprs) (checked whole : ℕ) (amount : Span)
    → LayerLaw (ExprKind-F.Perm (elaborated_expression e.0) checked whole amount)
permission_made e checked whole amount = λ h speech a v xs span c place speaks clean ready.
    let t : Typing = typing_in (elaborated_expression e.0).checked a v in
    let is_place : ((elaborated_expression e.0).checked.seen a v).location ≡ true =
    unless_holds _ rule.NotALocation (elaborated_expression e.0).checked.span clean.1.1.1 in
    let fits =
    expression_law e.0 h speech a v xs c Anything place speaks clean.1.1.0
    (solid_pure e.0 a v c Anything clean.1.1.0 (located is_place)) in
    let type = typed_place t (meets_elaborated e.0 a v c Anything clean.1.1.0) in
    let says : Says h speech xs ((elaborated_expression e.0).expression a v) (settled t) =
    subst (λ u. Says h speech xs ((elaborated_expression e.0).expression a v) u) (sym (ap settled type.1))
    (fits.goes type.0 (ap (typing.meets (Exactly type.0)) type.1 ∙ itself type.0)) in
    let some : IsAmount (units_of checked whole) = amount_fits checked whole
    (unless_holds (typing.is_amount checked whole) rule.BadFraction amount clean.1.0) in
    let item : (name : Name) → (false ≡ true) ⊎
    (is_some (item_of_location ((elaborated_expression e.0).shape.facts name.0).form) ≡ true)
    → (environment : Option Span)
    → ItemWithin h speech xs (item_in_kind (ExprKind-F.Perm (elaborated_expression e.0) checked whole amount) span name
    environment a v) =
    λ name premise environment.
    let is_access : is_element (form_for name (elaborated_expression e.0)) ≡ true = element_form _ (right_of premise) in
    shifted_fits h speech xs (settled t) (form_for name (elaborated_expression e.0)) (units_of checked whole)
    (conjunct environment span)
    ((elaborated_expression e.0).expression a v) is_access ((shown e.0).access a v name.0 is_access) some says in
    record {
      formula = λ premise environment. permission_fits h speech xs (settled t) (units_of checked whole)
          (conjunct environment span)
          ((elaborated_expression e.0).expression a v) (fits.place is_place) (fields_declared h a v xs place) some says;
      items = λ name p whole premise environment. (item name (item_or _ whole _ _ premise) environment, tt);
      item = λ name p premise environment. item name premise environment;
    }

token_item : (h : Home) (speech : Speech) (a : Environment) (v : Visible) (xs : List core.Parameter) (t : Token)
    (e : ElaboratedExpression)
    (span : Span) (name : Name) (f : Facts) → Says h speech xs (e.expression a v) (Object (class_at (typing_in e.checked a v)))
    → Bears h.program (class_at (typing_in e.checked a v)) t → (false ≡ true) ⊎ (is_some (item_of_token t f) ≡ true)
    → (environment : Option Span) → ItemWithin h speech xs (item_in_kind (ExprKind-F.Token t e) span name environment a v)
token_item h speech a v xs token.Committed e span name f says bears premise environment = (says, bears)
token_item h speech a v xs token.Idle e span name f says bears premise environment = no_item (right_of premise)
token_item h speech a v xs token.Running e span name f says bears premise environment = no_item (right_of premise)
token_item h speech a v xs token.Uncommitted e span name f says bears premise environment = no_item (right_of premise)

token_made : (t : Token) (e : Exprs) → LayerLaw (ExprKind-F.Token t (elaborated_expression e.0))
token_made t e = λ h speech a v xs span c place speaks clean ready.
    let m = meets_elaborated e.0 a v c AnObject clean.1.0 in
    let fits =
    expression_law e.0 h speech a v xs c AnObject place speaks clean.1.0
    (solid_pure e.0 a v c AnObject clean.1.0 (typed (other_object _ m))) in
    let says =
    fits.goes (Object (class_at (typing_in (elaborated_expression e.0).checked a v)))
    (object_wanted (typing_in (elaborated_expression e.0).checked a v) m) in
    let bears = token_bears t e.0 h a v xs c place clean.1 in
    record {
      formula = λ premise environment. (says, bears);
      items = λ name p whole premise environment. (
        token_item h speech a v xs t (elaborated_expression e.0) span name
            ((elaborated_expression e.0).shape.facts name.0) says bears (item_or _ whole _ _ premise) environment,
        tt,
      );
      item = λ name p premise environment. token_item h speech a v xs t (elaborated_expression e.0) span name
          ((elaborated_expression e.0).shape.facts name.0) says bears premise environment;
    }

-- Instances and quantifiers

-- the quantifiers of operands, as pieces and as expressions
quantifiers_same : (es : List Expr) → flat_map (λ (s : Shape). s.quantifiers) (map (λ p. p.shape) (all_elaborated es))
    ≡ quantifiers_in_all es
quantifiers_same [] = refl
quantifiers_same (e ∷ es) =
    ap (λ (s : Shape). s.quantifiers ++ flat_map (λ (s : Shape). s.quantifiers) (map (λ p. p.shape) (all_elaborated es)))
    (shape_in_elaborated e) ∙ ap (λ fs. quantifiers_in e ++ fs) (quantifiers_same es)

instance_fits : (target : Option Expr) (w : Word) (args : List Expr) (h : Home) (speech : Speech) (a : Environment) (v : Visible)
    (xs : List core.Parameter) (c : Context) (span : Span) → Place h a v xs → Strict speech a c
    → Clean (parts.faults_of_instance (part_option (option_map elaborated_expression target)) w
    (map (λ p. p.checked) (all_elaborated args)) a v c)
    → quantifiers_in_option target ≡ [] → quantifiers_in_all args ≡ []
    → FormulaWithin h speech xs (core.Instance (class_of_object (option_map elaborated_expression target) a v) w.name
    (object_of (option_map elaborated_expression target) a v) (arguments_of (all_elaborated args) a v) span)
instance_fits target w args h speech a v xs c span place strict clean none none_there =
    let as_written : Clean (parts.faults_of_instance (checked_option target) w (parts_of args) a v c) =
    subst (λ (o : Option CheckedExpression). Clean (parts.faults_of_instance o w (parts_of args) a v c)) (target_same target)
    (subst (λ (ps : List CheckedExpression). Clean
    (parts.faults_of_instance (part_option (option_map elaborated_expression target)) w ps a v c))
    (parts_same args) clean) in
    let o = object_at target h speech a v xs c place strict as_written.0 none in
    let i = instance_at target w args h speech a v xs c o place strict as_written.1 none_there in
    subst
    (λ class. FormulaWithin h speech xs (core.Instance class w.name (object_of (option_map elaborated_expression target) a v)
    (arguments_of (all_elaborated args) a v) span)) (sym o.named) (o.goes, (i.predicate, i.found, i.arguments))

strictly : {speech : Speech} {a : Environment} {c : Context} → Speaks speech a c → Strict speech a (typing.purely c)
strictly speaks = record { pure = refl; speaks = speaks_purely speaks }

abbrev trees : List Exprs → List Expr
trees es = map (λ e. e.0) es

this_instance : (w : Word) (es : List Exprs) → LayerLaw (ExprKind-F.Instance None w (all_elaborated (trees es)))
this_instance w es = λ h speech a v xs span c place speaks clean ready.
    whole_made _ span _ _ _ (λ n. refl) (λ none environment.
    instance_fits None w (trees es) h speech a v xs (typing.purely c) (conjunct environment span) place (strictly speaks) clean.1
    refl
    (sym (quantifiers_same (trees es)) ∙ none))

object_instance : (e : Exprs) (w : Word) (es : List Exprs)
    → LayerLaw (ExprKind-F.Instance (Some (elaborated_expression e.0)) w (all_elaborated (trees es)))
object_instance e w es = λ h speech a v xs span c place speaks clean ready.
    whole_made _ span _ _ _ (λ n. refl) (λ none environment.
    let args : List ShapeFault = flat_map (λ (s : Shape). s.quantifiers) (map (λ p. p.shape) (all_elaborated (trees es))) in
    instance_fits (Some e.0) w (trees es) h speech a v xs (typing.purely c) (conjunct environment span) place
    (strictly speaks) clean.1
    (ap (λ (s : Shape). s.quantifiers) (sym (shape_in_elaborated e.0))
    ∙ no_first (elaborated_expression e.0).shape.quantifiers args none)
    (sym (quantifiers_same (trees es)) ∙ no_second (elaborated_expression e.0).shape.quantifiers args none))

first_listed : (name : Name) (xs : List core.Parameter) (b : Bool) → b ≡ true → (if b then Some Int else type_in xs name)
    ≡ Some Int
first_listed name xs true k = refl
first_listed name xs false k = absurd cc

each_made : (star : Bool) (w : Word) (low high body : Exprs) (written : Option (Word × Word))
    → EachLaw (elaborated_in_each (record {
      star = star;
      name = w;
      low = elaborated_expression low.0;
      high = elaborated_expression high.0;
      body = elaborated_expression body.0;
      written = written;
    }))
each_made star w low high body written = (
  λ n. refl,
  λ h speech a v xs span c place speaks clean none environment.
      let inner : Visible = with_bound v w in
      let new : is_visible v w.name ≡ false = if_fails (is_visible v w.name) rule.Shadows w.span clean.1.0 in
      let there : Place h a inner ((w.name, Int) ∷ xs) = record {
        sound = sound_with h.program a v Bound w.name Int refl place.sound;
        declares = place.declares;
        class = place.class;
        listed = variable_listed v xs Bound w.name Int refl new place.listed;
      } in
      let position : IsPosition inner w.name =
      sym (there.listed w.name) ∙ first_listed w.name xs (nat_eq w.name.0 w.name.0) (eq-eqb w.name.0 w.name.0 refl) in
      let bounds : List ShapeFault = (elaborated_expression low.0).shape.quantifiers
      ++ (elaborated_expression high.0).shape.quantifiers in
      let made =
      made_at body h speech a inner ((w.name, Int) ∷ xs) (under_quantifier star c) there
      (speaks_quantified star speaks) clean.1.1.1.1.0 in (
        number_goes low.0 h speech a v xs c place speaks clean.1.1.0,
        number_goes high.0 h speech a v xs c place speaks clean.1.1.1.0,
        not_listed v xs w.name place.listed new,
        made.items w.name position (body_of star)
            (inr (no_second bounds ((elaborated_expression body.0).shape.parts (body_of star) w.name.0) none)) (Some environment),
      ),
)

-- The induction

word_made : {h : Home} {speech : Speech} {v : Visible} {xs : List core.Parameter} (facts : ℕ → Facts) {s : Seen} {e : Expression}
    (span : Span) → Ready h speech xs facts s e → (facts 0).pure ≡ true
    → Made h speech v xs facts [] (PureItem facts (λ n. None)) (PartFault span facts (λ n. None))
    (λ environment. core.Fact e (conjunct environment span))
    (λ name environment. alone (core.Repeated e (conjunct environment span)))
    (λ name environment. core.Repeated e (conjunct environment span))
word_made facts span ready pure = fact_made facts span [] ready (λ none. pure)

layer_law : LayerStep KindLaw EachLaw ExprLaw
layer_law (ExprKind-F.Number n) = λ h speech a v xs span c place speaks clean ready. word_made _ span ready refl
layer_law (ExprKind-F.Truth b) = λ h speech a v xs span c place speaks clean ready. word_made _ span ready refl
layer_law ExprKind-F.Null = λ h speech a v xs span c place speaks clean ready. word_made _ span ready refl
layer_law ExprKind-F.This = λ h speech a v xs span c place speaks clean ready. word_made _ span ready refl
layer_law ExprKind-F.Result = λ h speech a v xs span c place speaks clean ready. word_made _ span ready refl
layer_law (ExprKind-F.Var w) =
    λ h speech a v xs span c place speaks clean ready. word_made _ span ready (variable_pure (nat_eq w.name.0 0))
layer_law (ExprKind-F.Field e w) = λ h speech a v xs span c place speaks clean ready. fact_made _ span _ ready (λ none.
    solid_pure e.0 a v c (need_of_target a w.name) clean.0
    (typed (other_target (is_length a w.name) _ (meets_elaborated e.0 a v c (need_of_target a w.name) clean.0))))
layer_law (ExprKind-F.Index e i) = λ h speech a v xs span c place speaks clean ready. fact_made _ span _ ready (λ none.
    and_from _ _ (solid_pure e.0 a v c AnArray clean.0
    (typed (other_array _ (meets_elaborated e.0 a v c AnArray clean.0))))
    (solid_pure i.0 a v c (Exactly Int) clean.1
    (typed (other_int _ (meets_elaborated i.0 a v c (Exactly Int) clean.1)))))
layer_law (ExprKind-F.Not e) =
    λ h speech a v xs span c place speaks clean ready. fact_made _ span _ ready
    (λ none. solid_pure e.0 a v (typing.purely c) (Exactly Truth) clean (purely refl none))
layer_law (ExprKind-F.Minus e) = λ h speech a v xs span c place speaks clean ready. fact_made _ span _ ready (λ none.
    solid_pure e.0 a v c (Exactly Int) clean (typed (other_int _ (meets_elaborated e.0 a v c (Exactly Int) clean))))
layer_law (ExprKind-F.Binary o x y) = operator_made o x y
layer_law (ExprKind-F.Old e) =
    λ h speech a v xs span c place speaks clean ready. fact_made _ span _ ready
    (λ none. solid_pure e.0 a v (typing.purely c) Anything clean.0 (purely refl none))
layer_law (ExprKind-F.Perm e checked whole amount) = permission_made e checked whole amount
layer_law (ExprKind-F.Token t e) = token_made t e
layer_law (ExprKind-F.Instance None w es) = this_instance w es
layer_law (ExprKind-F.Instance (Some e) w es) = object_instance e w es
layer_law (ExprKind-F.Each q) =
    λ h speech a v xs span c place speaks clean ready. whole_made _ span _ _ _ q.1.0
    (λ none environment. q.1.1 h speech a v xs span c place speaks clean none (conjunct environment span))

formula_law : (e : Expr) → ExprLaw (elaborated_expression e)
formula_law =
    piece_induction KindLaw EachLaw ExprLaw layer_law (λ y. each_made y.star y.name y.low y.high y.body y.written)
    (λ span k law h speech a v xs c place speaks clean ready. law h speech a v xs span c place speaks clean.0 ready)

-- a formula without a fault, in which quantifiers stand where they may
pub formula_fits : (e : Expr) (h : Home) (speech : Speech) (a : Environment) (v : Visible) (xs : List core.Parameter)
    (c : Context)
    → Place h a v xs
    → Speaks speech a c → Clean (faults_of_formula a v c e) → shapes.faults_of_formula e ≡ []
    → FormulaFits h speech xs (core_of_formula a v e)
formula_fits e h speech a v xs c place speaks clean none =
    formula_outside (core_of_formula a v e) h speech xs (formula_confined e a v c clean none)
    ((made_at (e, formula_law e) h speech a v xs c place speaks
    (subst (λ (p : CheckedExpression). Clean (p.faults a v c (Exactly Truth))) (sym (checked_in_elaborated e)) clean)).formula
    (no_fault (ap (λ (s : Shape). s.faults) (shape_in_elaborated e) ∙ none)) None)

-- a formula without a fault that is made of items for a position, as a formula and as items, typed with the position in scope
pub item_formula_within : (e : Expr) (name : Name) (h : Home) (speech : Speech) (a : Environment) (v : Visible)
    (xs : List core.Parameter) (c : Context)
    → IsPosition v name → Place h a v xs → Speaks speech a c → Clean (faults_of_formula a v c e)
    → shapes.faults_of_items name.0 e ≡ []
    → FormulaWithin h speech xs (core_of_formula a v e) × ItemsWithin h speech xs (core_of_items name a v e)
item_formula_within e name h speech a v xs c p place speaks clean none =
    let made = made_at (e, formula_law e) h speech a v xs c place speaks
    (subst (λ (p : CheckedExpression). Clean (p.faults a v c (Exactly Truth))) (sym (checked_in_elaborated e)) clean) in
    let all : (elaborated_expression e).shape.parts clause name.0 ≡ [] =
    ap (λ (s : Shape). s.parts clause name.0) (shape_in_elaborated e) ∙ none in
    (made.formula (all_items name p clause all) None, made.items name p clause (inr all) None)
