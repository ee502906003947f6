-- What the static rules keep of amounts, of declared types, and of the `run` or lock invariant that a token or an action needs.
use Rattle.std.proofs.Common.{◌≡◌, ◌≤◌, ℕ, ◌*◌, ◌/◌, true, ◌&&◌, if◌then◌else◌, Option, Some, None, is_some, option_map, List, [], ◌∷◌, refl, sym, ◌∙◌, ap, subst, arith}
use Rattle.std.proofs.Math.Nat.{div-le_of_le-mul}
use Rattle.std.proofs.lemmas.Bool.{and_parts}
use Rattle.std.proofs.lemmas.Nat.{le-div}
use Rattle.std.specs.Prelude.{nat_le, filter_map}
use Rattle.std.specs.List.{cons_option}
use Rattle.pv_base.specs.declared.Name.{Name}
use Rattle.pv_ast.specs.declared.Param.{Param}
use Rattle.pv_ast.specs.declared.Token.{Token}
use Rattle.pv_ast.specs.declared.Token.TheVariants as token
use Rattle.pv_ast.specs.declared.TypeWord.{TypeWord}
use Rattle.pv_ast.specs.declared.Expr.{Expr}
use Rattle.pv_fraction.specs.Amounts.{whole}
use Rattle.pv_ast.specs.declared.fault.Rule.TheVariants as rule
use Rattle.pv_ast.specs.declared.scope.Declared.{Declared}
use Rattle.pv_ast.specs.declared.standing.Context.{Context}
use Rattle.pv_ast.specs.declared.standing.Need.TheVariants.{AnObject}
use Rattle.pv_ast.specs.declared.standing.Seen.{Seen}
use Rattle.pv_ast.specs.Rules.Scoping.{Visible, variable_named}
use Rattle.pv_ast.specs.Rules.Typing as typing
use Rattle.pv_ast.specs.Rules.Expressions.{Environment, typing_in, lacks_role, faults_of_role, has_role as has_role_of}
use Rattle.pv_ast.specs.Rules.Lookup.{is_declared_type}
use Rattle.pv_ast.specs.Rules.Statements.{option_type, faults_of_operand}
use Rattle.pv_ast.specs.Rules.Programs.{with_param, faults_of_params, faults_of_result}
use Rattle.pv_picks.specs.Plain.Core as core
use Rattle.pv_picks.specs.Elaborating.Names.{class_at, parameters_of, variable_in}
use Rattle.pv_picks.specs.Elaborating.Expressions.{elaborated_expression, class_of_elaborated, units_of}
use Rattle.core_trees.specs.Resolved.{names_of, has_role, token_of}
use Rattle.core_trees.proofs.Clean.{Clean, unless_holds, if_fails}
use Rattle.core_trees.proofs.Knowing.{knows_all}
use Rattle.core_trees.proofs.Resolving as resolving
use Rattle.core_trees.proofs.Resolving.{role_kept}
use Rattle.core_trees.proofs.Sound.{object_kept, variable_declared}
use Rattle.core_trees.proofs.Uses.{operand_kept}
use Rattle.pv_picks.specs.Typing.Expressions.{Home}
use Rattle.pv_picks.specs.Typing.Blocks.{Allows}
use Rattle.core_trees.specs.Formulas.{IsAmount, Bears, AreDeclared, AreVariables, ResultIsDeclared}
use Rattle.core_typing.proofs.Types.{declared_type}
use Rattle.core_typing.proofs.Scopes.{listed_known}
use Rattle.core_typing.proofs.Places.{Place, FieldsDeclared}
use Rattle.core_trees.proofs.Shapes.{type_of}

-- Amounts

at_most : (a b : ℕ) → nat_le a b ≡ true → a ≤ b
at_most a b h = grind (arith, h)

forty : 40 ≤ whole
forty = omega arith

-- so many parts of so many are an amount
pub amount_fits : (checked parts : ℕ) → typing.is_amount checked parts ≡ true → IsAmount (units_of checked parts)
amount_fits checked parts h =
    let both = and_parts (nat_le 1 checked && nat_le checked parts) (nat_le parts 40) h in
    let some : 1 ≤ checked = at_most 1 checked (and_parts (nat_le 1 checked) (nat_le checked parts) both.0).0 in
    let fewer : checked ≤ parts = at_most checked parts (and_parts (nat_le 1 checked) (nat_le checked parts) both.0).1 in
    let few : parts ≤ 40 = at_most parts 40 both.1 in
    let as_written : IsAmount (checked * whole / parts) = (
      le-div 1 (checked * whole) parts (omega (arith, some, fewer)) (at_least checked parts whole some few forty),
      div-le_of_le-mul parts (no_more checked parts whole fewer),
    ) in
    subst IsAmount (ap (λ b. if b then checked * whole / parts else 0) (sym h)) as_written
  where
    at_least : (a b w : ℕ) → 1 ≤ a → b ≤ 40 → 40 ≤ w → 1 * b ≤ a * w
    at_least a b w i j k = grind (arith, i, j, k)

    no_more : (a b w : ℕ) → a ≤ b → a * w ≤ b * w
    no_more a b w i = grind (arith, i)

-- Declared types

-- the fields of the program have types that are declared
pub fields_declared : (h : Home) (a : Environment) (v : Visible) (xs : List core.Parameter) → Place h a v xs → FieldsDeclared h
fields_declared h a v xs place class field type is =
    declared_type a.program.classes type (place.sound.fields class field type (sym (place.sound.mirrors.fields class field) ∙ is))

one_variable : (h : Home) (a : Environment) (v : Visible) (xs : List core.Parameter) (name : Name) (o : Option Declared)
    (ys : List core.Parameter)
    → variable_named v name ≡ o → Place h a v xs → AreVariables xs ys
    → AreVariables xs (cons_option (option_map (λ d. (name, d.kind)) o) ys)
one_variable h a v xs name None ys is place all = all
one_variable h a v xs name (Some d) ys is place all = (
  (
    place.listed name ∙ ap type_of is,
    declared_type a.program.classes d.kind
        (variable_declared h.program a v name d place.sound is),
  ),
  all,
)

-- the variables of a scope among some names
pub variables_fit : (h : Home) (a : Environment) (v : Visible) (xs : List core.Parameter) (names : List Name) → Place h a v xs
    → AreVariables xs (filter_map (variable_in v) names)
variables_fit h a v xs [] place = tt
variables_fit h a v xs (name ∷ names) place =
    one_variable h a v xs name (variable_named v name) (filter_map (variable_in v) names) refl place
    (variables_fit h a v xs names place)

pub params_declared : (a : Environment) (v : Visible) (ps : List Param) → Clean (faults_of_params a v ps)
    → AreDeclared (parameters_of ps)
params_declared a v [] clean = tt
params_declared a v (p ∷ ps) clean = (
  declared_type a.program.classes p.kind.kind (unless_holds
      (is_declared_type a.program.classes p.kind.kind) rule.UnknownName p.kind.span clean.0),
  params_declared a (with_param v p) ps clean.1.1,
)

pub result_fits : (a : Environment) (o : Option TypeWord) → Clean (faults_of_result a o) → ResultIsDeclared (option_type o)
result_fits a None clean = tt
result_fits a (Some t) clean =
    declared_type a.program.classes t.kind
    (unless_holds (is_declared_type a.program.classes t.kind) rule.UnknownName t.span clean)

-- Tokens and actions

found : {A : Type 0} (o : Option A) → is_some o ≡ true → (x : A) × (o ≡ Some x)
found None k = absurd cc
found (Some x) k = (x, refl)

bears : (p : core.Program) (class : Name) (t : Token) → has_role p t class ≡ true → Bears p class t
bears p class token.Idle k = found _ k
bears p class token.Running k = found _ k
bears p class token.Committed k = found _ k
bears p class token.Uncommitted k = found _ k

allows : (p : core.Program) (class : Name) (action : core.Action) → has_role p (token_of action) class ≡ true
    → Allows p class action
allows p class core.Fork k = found _ k
allows p class core.Join' k = found _ k
allows p class core.Lock k = found _ k
allows p class core.Unlock k = found _ k
allows p class core.Commit k = found _ k

-- the class of a token's object
pub token_bears : (t : Token) (e : Expr) (h : Home) (a : Environment) (v : Visible) (xs : List core.Parameter) (c : Context)
    → Place h a v xs
    → Clean (faults_of_role t (elaborated_expression e).checked a v c)
    → Bears h.program (class_at (typing_in (elaborated_expression e).checked a v)) t
token_bears t e h a v xs c place clean =
    let s : Seen = (elaborated_expression e).checked.seen a v in
    let known = knows_all c.locals v (names_of xs) (listed_known v xs place.listed) in
    let k = resolving.expression_law e h.program (names_of xs) a v c AnObject place.sound known clean.0 in
    bears h.program (class_at s.typing) t
    (role_kept h.program a v s t place.sound (object_kept h.program a v s place.sound k.1.seen k.0)
    (if_fails (lacks_role (has_role_of t) a s) rule.NoRole (elaborated_expression e).checked.span clean.1))

-- the class of the object of an action
pub action_allowed : (action : core.Action) (e : Expr) (h : Home) (a : Environment) (v : Visible) (xs : List core.Parameter)
    → Place h a v xs
    → Clean (faults_of_operand (has_role_of (token_of action)) a v e)
    → Allows h.program (class_of_elaborated (elaborated_expression e) a v) action
action_allowed action e h a v xs place clean =
    allows h.program (class_of_elaborated (elaborated_expression e) a v) action
    (operand_kept h.program (names_of xs) a v (token_of action) e place.sound (listed_known v xs place.listed) clean).1
