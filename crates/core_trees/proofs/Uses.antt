-- Contracts, right sides and operands without a fault become resolved.
use Rattle.std.proofs.Common.{◌≡◌, ℕ, Bool, true, false, Option, Some, None, option_map, List, [], ◌∷◌, length, map, cond, refl, sym, ◌∙◌, ap, subst}
use Rattle.std.specs.Prelude.{filter}
use Rattle.std.specs.List.{AllByRecursion}
use Rattle.pv_base.specs.declared.Name.{Name}
use Rattle.pv_base.specs.declared.Span.{Span}
use Rattle.pv_ast.specs.declared.Word.{Word}
use Rattle.pv_ast.specs.declared.PvType.{PvType}
use Rattle.pv_ast.specs.declared.PvType.TheVariants.{Int, Truth}
use Rattle.pv_ast.specs.declared.Token.{Token}
use Rattle.pv_ast.specs.declared.Expr.{Expr}
use Rattle.pv_ast.specs.declared.Clause.{Clause}
use Rattle.pv_ast.specs.declared.ClauseKind.{ClauseKind}
use Rattle.pv_ast.specs.declared.Contract.{Contract}
use Rattle.pv_ast.specs.declared.Method.{Method}
use Rattle.pv_ast.specs.declared.Right.{Right}
use Rattle.pv_ast.specs.declared.RightKind.{RightKind}
use Rattle.pv_ast.specs.declared.RightKind.TheVariants as right
use Rattle.pv_ast.specs.declared.fault.Rule.TheVariants as rule
use Rattle.pv_ast.specs.declared.standing.Context.{Context}
use Rattle.pv_ast.specs.declared.standing.Need.{Need}
use Rattle.pv_ast.specs.declared.standing.Need.TheVariants.{Exactly, AnObject}
use Rattle.pv_ast.specs.declared.standing.Seen.{Seen}
use Rattle.pv_ast.specs.declared.standing.Typing.{Typing}
use Rattle.pv_ast.specs.Rules.Lookup.{class_named, method_named}
use Rattle.pv_ast.specs.Rules.Scoping.{Visible}
use Rattle.pv_ast.specs.Rules.Typing as typing
use Rattle.pv_ast.specs.Rules.Expressions as parts
use Rattle.pv_ast.specs.Rules.Expressions.{Environment, CheckedExpression, checked_expression, typing_in, members_of, holder_of, lacks_role, method_signature, signature_of_method, Signature, types_of, seen_of_target}
use Rattle.pv_ast.specs.Rules.Statements as statements
use Rattle.pv_ast.specs.Rules.Statements.{faults_of_formulas, faults_of_clauses, faults_of_right_kind, faults_of_right, faults_of_first_value, faults_of_returned, in_statement, need_of_result, checked_option, parts_of, is_class, is_ensures}
use Rattle.pv_picks.specs.Plain.Core.{Formula, Items}
use Rattle.pv_picks.specs.Plain.Core as core
use Rattle.pv_picks.specs.Elaborating.Names.{class_at}
use Rattle.pv_picks.specs.Elaborating.Expressions.{ElaboratedExpression, elaborated_expression, core_of_expression, core_of_formula, core_of_items, part_option, object_of, class_of_object, arguments_of, class_of_elaborated}
use Rattle.pv_picks.specs.Elaborating.Statements.{joined, joined_items, formulas_at, core_of_formulas, core_of_contract, core_of_shared, core_of_right_kind, core_of_right, first_value, all_elaborated}
use Rattle.core_trees.specs.Resolved.{Resolved, AllResolved, ResolvedUse, ResolvedFormula, ResolvedItems, ResolvedContract, ResolvedShared, ResolvedRight, ResolvedOption, has_role, method_arity, predicate_arity}
use Rattle.core_trees.proofs.Clean.{Clean, unless_holds, if_fails}
use Rattle.core_trees.proofs.Layers.{checked_in_elaborated}
use Rattle.core_trees.proofs.Sound.{Sound, IsObject, object_kept, holder_is}
use Rattle.core_trees.proofs.Keeping.{together_kept}
use Rattle.core_trees.proofs.Resolving.{ElaboratedKept, ExprLaw, TargetLaw, expression_law, role_kept, target_object, instance_kept, args_kept, use_length}
use Rattle.core_trees.proofs.Knowing.{Knows, knows_either}
use Rattle.core_trees.proofs.Induction.{all_made}

-- an expression without a fault
pub kept : (e : Expr) (tree : core.Program) (names : List Name) (a : Environment) (v : Visible) (c : Context) (need : Need)
    → Sound tree a v → Knows c.locals v names → Clean ((checked_expression e).faults a v c need)
    → (typing.meets need (typing_in (elaborated_expression e).checked a v) ≡ true)
    × ElaboratedKept tree names a v (elaborated_expression e)
kept e tree names a v c need sound known clean =
    expression_law e tree names a v c need sound known
    (subst (λ (p : CheckedExpression). Clean (p.faults a v c need)) (sym (checked_in_elaborated e)) clean)

-- Formulas

pub joined_resolved : (tree : core.Program) (names : List Name) (fs : List Formula)
    → AllByRecursion (ResolvedFormula tree names) fs → ResolvedFormula tree names (joined fs)
joined_resolved tree names [] h = tt
joined_resolved tree names (f ∷ []) h = h.0
joined_resolved tree names (f ∷ g ∷ fs) h = (h.0, joined_resolved tree names (g ∷ fs) h.1)

items_resolved : (tree : core.Program) (names : List Name) (all : List Items) → AllByRecursion (ResolvedItems tree names) all
    → ResolvedItems tree names (joined_items all)
items_resolved tree names [] h = tt
items_resolved tree names (is ∷ rest) h = together_kept tree names is (joined_items rest) h.0 (items_resolved tree names rest h.1)

formulas_all : (tree : core.Program) (names : List Name) (a : Environment) (v : Visible) (c : Context) (es : List Expr)
    → Sound tree a v → Knows c.locals v names → Clean (faults_of_formulas a v c es)
    → AllByRecursion (ResolvedFormula tree names) (map (core_of_formula a v) es)
formulas_all tree names a v c [] sound known clean = tt
formulas_all tree names a v c (e ∷ es) sound known clean = (
  (kept e tree names a v c (Exactly Truth) sound known clean.0).1.formula None,
  formulas_all tree names a v c es sound known clean.1,
)

pub formulas_kept : (tree : core.Program) (names : List Name) (a : Environment) (v : Visible) (c : Context) (es : List Expr)
    → Sound tree a v → Knows c.locals v names → Clean (faults_of_formulas a v c es)
    → ResolvedFormula tree names (core_of_formulas a v es)
formulas_kept tree names a v c es sound known clean =
    joined_resolved tree names (map (core_of_formula a v) es) (formulas_all tree names a v c es sound known clean)

-- Contracts

abbrev ClausesKept : core.Program → List Name → Environment → Visible → List Clause → Type 0
ClausesKept tree names a v clauses = AllByRecursion
    (λ clause. ElaboratedKept tree names a v (elaborated_expression clause.formula)) clauses

clauses_all : (tree : core.Program) (names : List Name) (a : Environment) (v : Visible) (ensures others : Context)
    (clauses : List Clause) → Sound tree a v → Knows ensures.locals v names → Knows others.locals v names
    → Clean (faults_of_clauses a v ensures others clauses) → ClausesKept tree names a v clauses
clauses_all tree names a v ensures others [] sound known known_others clean = tt
clauses_all tree names a v ensures others (clause ∷ clauses) sound known known_others clean = (
  (kept clause.formula tree names a v _ (Exactly Truth) sound
      (knows_either (is_ensures clause.kind) ensures others v names known known_others) clean.0).1,
  clauses_all tree names a v ensures others clauses sound known known_others clean.1,
)

filtered : (tree : core.Program) (names : List Name) (a : Environment) (v : Visible) (b : Bool) (clause : Clause)
    (clauses : List Clause) → ElaboratedKept tree names a v (elaborated_expression clause.formula)
    → ClausesKept tree names a v clauses
    → ClausesKept tree names a v (cond b (clause ∷ clauses) clauses)
filtered tree names a v true clause clauses h k = (h, k)
filtered tree names a v false clause clauses h k = k

filter_all : (tree : core.Program) (names : List Name) (a : Environment) (v : Visible) (stands : ClauseKind → Bool)
    (clauses : List Clause) → ClausesKept tree names a v clauses
    → ClausesKept tree names a v (filter (λ clause. stands clause.kind) clauses)
filter_all tree names a v stands [] h = tt
filter_all tree names a v stands (clause ∷ clauses) h =
    filtered tree names a v (stands clause.kind) clause (filter (λ clause. stands clause.kind) clauses) h.0
    (filter_all tree names a v stands clauses h.1)

all_formulas : (tree : core.Program) (names : List Name) (a : Environment) (v : Visible) (clauses : List Clause)
    → ClausesKept tree names a v clauses → AllByRecursion (ResolvedFormula tree names) (map (core_of_formula a v)
    (map (λ clause. clause.formula) clauses))
all_formulas tree names a v [] h = tt
all_formulas tree names a v (clause ∷ clauses) h = (h.0.formula None, all_formulas tree names a v clauses h.1)

all_items : (tree : core.Program) (names : List Name) (name : Name) (a : Environment) (v : Visible) (clauses : List Clause)
    → ClausesKept tree names a v clauses → AllByRecursion (ResolvedItems tree names) (map (core_of_items name a v)
    (map (λ clause. clause.formula) clauses))
all_items tree names name a v [] h = tt
all_items tree names name a v (clause ∷ clauses) h = (h.0.items name None, all_items tree names name a v clauses h.1)

formulas_at_kept : (tree : core.Program) (names : List Name) (a : Environment) (v : Visible) (stands : ClauseKind → Bool)
    (clauses : List Clause) → ClausesKept tree names a v clauses
    → ResolvedFormula tree names (core_of_formulas a v (formulas_at stands clauses))
formulas_at_kept tree names a v stands clauses h =
    joined_resolved tree names _ (all_formulas tree names a v (filter (λ clause. stands clause.kind) clauses)
    (filter_all tree names a v stands clauses h))

items_at_kept : (tree : core.Program) (names : List Name) (name : Name) (a : Environment) (v : Visible)
    (stands : ClauseKind → Bool)
    (clauses : List Clause) → ClausesKept tree names a v clauses
    → ResolvedItems tree names (joined_items (map (core_of_items name a v) (formulas_at stands clauses)))
items_at_kept tree names name a v stands clauses h =
    items_resolved tree names _ (all_items tree names name a v (filter (λ clause. stands clause.kind) clauses)
    (filter_all tree names a v stands clauses h))

pub contract_kept : (tree : core.Program) (names : List Name) (a : Environment) (v : Visible) (ensures others : Context)
    (c : Contract)
    → Sound tree a v → Knows ensures.locals v names → Knows others.locals v names
    → Clean (faults_of_clauses a v ensures others c.clauses) → ResolvedContract tree names (core_of_contract a v c)
contract_kept tree names a v ensures others c sound known known_others clean =
    let all = clauses_all tree names a v ensures others c.clauses sound known known_others clean in
    (formulas_at_kept tree names a v _ c.clauses all, formulas_at_kept tree names a v _ c.clauses all)

pub shared_kept : (tree : core.Program) (names : List Name) (name : Name) (a : Environment) (v : Visible)
    (ensures others : Context)
    (c : Contract) → Sound tree a v → Knows ensures.locals v names → Knows others.locals v names
    → Clean (faults_of_clauses a v ensures others c.clauses) → ResolvedShared tree names (core_of_shared name a v c)
shared_kept tree names name a v ensures others c sound known known_others clean =
    let all = clauses_all tree names a v ensures others c.clauses sound known known_others clean in (
      contract_kept tree names a v ensures others c sound known known_others clean,
      items_at_kept tree names name a v _ c.clauses all,
      items_at_kept tree names name a v _ c.clauses all,
    )

-- Operands

-- the parts of pieces are those of the expressions
pub parts_same : (es : List Expr) → map (λ p. p.checked) (all_elaborated es) ≡ parts_of es
parts_same [] = refl
parts_same (e ∷ es) =
    ap (λ (p : CheckedExpression). p ∷ map (λ p. p.checked) (all_elaborated es)) (checked_in_elaborated e)
    ∙ ap (λ ps. checked_expression e ∷ ps) (parts_same es)

pub target_same : (o : Option Expr) → part_option (option_map elaborated_expression o) ≡ checked_option o
target_same None = refl
target_same (Some e) = ap (λ (p : CheckedExpression). Some p) (checked_in_elaborated e)

target_law : (o : Option Expr) → TargetLaw (option_map elaborated_expression o)
target_law None = tt
target_law (Some e) = expression_law e

-- a use of a predicate
pub use_kept : (tree : core.Program) (names : List Name) (a : Environment) (v : Visible) (c : Context) (target : Option Expr)
    (w : Word) (args : List Expr) → Sound tree a v → Knows c.locals v names
    → Clean (parts.faults_of_instance (checked_option target) w (parts_of args) a v c)
    → ResolvedUse tree names (predicate_arity tree (class_of_object (option_map elaborated_expression target) a v) w.name)
    (object_of (option_map elaborated_expression target) a v) (arguments_of (all_elaborated args) a v)
use_kept tree names a v c target w args sound known clean =
    let as_parts : Clean (parts.faults_of_instance (part_option (option_map elaborated_expression target)) w
    (map (λ p. p.checked) (all_elaborated args)) a v c) =
    subst (λ (o : Option CheckedExpression). Clean
    (parts.faults_of_instance o w (map (λ p. p.checked) (all_elaborated args)) a v c))
    (sym (target_same target))
    (subst (λ (ps : List CheckedExpression). Clean (parts.faults_of_instance (checked_option target) w ps a v c))
    (sym (parts_same args)) clean) in
    instance_kept tree names a v c (option_map elaborated_expression target) w (all_elaborated args) (target_law target)
    (all_made elaborated_expression ExprLaw expression_law args) sound known as_parts

-- Calls

known_method : (w : Word) (args : List CheckedExpression) (a : Environment) (v : Visible) (c : Context) (o : Option Method)
    (signature : Signature)
    → signature ≡ signature_of_method o → Clean (parts.faults_of_use w args signature a v c)
    → (m : Method) × (o ≡ Some m) × (signature ≡ parts.taking (types_of m.params))
known_method w args a v c None signature h clean =
    absurd (subst (λ (s : Signature). Clean (parts.faults_of_use w args s a v c)) h clean).0
known_method w args a v c (Some m) signature h clean = (m, refl, h)

method_kept : (tree : core.Program) (names : List Name) (a : Environment) (v : Visible) (c : Context) (s : Seen) (w : Word)
    (ps : List ElaboratedExpression) → AllByRecursion ExprLaw ps → Sound tree a v → Knows c.locals v names → IsObject a s
    → Clean (parts.faults_of_method_use s w (map (λ p. p.checked) ps) a v c) → AllResolved tree names (arguments_of ps a v)
    × (method_arity tree (class_at s.typing) w.name ≡ Some (length (arguments_of ps a v)))
method_kept tree names a v c s w ps laws sound known o clean =
    let members = members_of (class_named a.program.classes o.class) in
    let signature = method_signature (holder_of a s) w.name in
    let found =
    known_method w (map (λ p. p.checked) ps) a v c (method_named members w.name) signature
    (ap (λ h. method_signature h w.name) (holder_is a s o)) clean in
    let taken : Clean (parts.faults_of_use w (map (λ p. p.checked) ps) (parts.taking (types_of found.0.params)) a v c) =
    subst (λ (x : Signature). Clean (parts.faults_of_use w (map (λ p. p.checked) ps) x a v c)) found.2 clean in (
      (args_kept tree names a v c ps (types_of found.0.params) laws sound known taken.1.0).1,
      ap (λ (t : Typing). method_arity tree (class_at t) w.name) o.typed ∙ sound.mirrors.methods o.class w.name
          ∙ ap (λ (x : Option Method). option_map (λ m. length m.params) x) found.1
          ∙ ap (λ (n : ℕ). Some n) (use_length ps found.0.params a v (if_fails _ rule.WrongCount w.span taken.1.1)),
    )

pub call_kept : (tree : core.Program) (names : List Name) (a : Environment) (v : Visible) (c : Context) (target : Option Expr)
    (w : Word) (args : List Expr) → Sound tree a v → Knows c.locals v names
    → Clean (parts.faults_of_call (checked_option target) w (parts_of args) a v c)
    → ResolvedUse tree names (method_arity tree (class_of_object (option_map elaborated_expression target) a v) w.name)
    (object_of (option_map elaborated_expression target) a v) (arguments_of (all_elaborated args) a v)
call_kept tree names a v c target w args sound known clean =
    let as_parts : Clean (parts.faults_of_call (part_option (option_map elaborated_expression target)) w
    (map (λ p. p.checked) (all_elaborated args)) a v c) =
    subst (λ (o : Option CheckedExpression). Clean (parts.faults_of_call o w (map (λ p. p.checked) (all_elaborated args)) a v c))
    (sym (target_same target))
    (subst (λ (ps : List CheckedExpression). Clean (parts.faults_of_call (checked_option target) w ps a v c))
    (sym (parts_same args)) clean) in
    let t = target_object tree names a v c (option_map elaborated_expression target) (target_law target) sound known as_parts.0 in
    let used =
    method_kept tree names a v c (seen_of_target a v (part_option (option_map elaborated_expression target))) w
    (all_elaborated args)
    (all_made elaborated_expression ExprLaw expression_law args) sound known t.0 as_parts.1 in
    (t.1, used.0, used.1)

-- Right sides

pub right_kind_kept : (tree : core.Program) (names : List Name) (a : Environment) (v : Visible) (need : Need) (span : Span)
    (k : RightKind) → Sound tree a v → Knows true v names → Clean (faults_of_right_kind a v need span k)
    → ResolvedRight tree names (core_of_right_kind a v k)
right_kind_kept tree names a v need span (right.Value e) sound known clean =
    (kept e tree names a v in_statement need sound known clean).1.expression
right_kind_kept tree names a v need span (right.Call target w args) sound known clean =
    call_kept tree names a v in_statement target w args sound known clean.0
right_kind_kept tree names a v need span (right.NewObject w) sound known clean =
    sound.mirrors.classes w.name ∙ unless_holds (is_class a w.name) rule.UnknownName w.span clean.0
right_kind_kept tree names a v need span (right.NewArray type e) sound known clean =
    (kept e tree names a v in_statement (Exactly Int) sound known clean.0).1.expression

pub right_kept : (tree : core.Program) (names : List Name) (a : Environment) (v : Visible) (need : Need) (r : Right)
    → Sound tree a v
    → Knows true v names → Clean (faults_of_right a v need r) → ResolvedRight tree names (core_of_right a v r)
right_kept tree names a v need r sound known clean = right_kind_kept tree names a v need r.span r.kind sound known clean

pub first_value_kept : (tree : core.Program) (names : List Name) (a : Environment) (v : Visible) (type : PvType)
    (o : Option Right)
    → Sound tree a v → Knows true v names → Clean (faults_of_first_value a v (Exactly type) o)
    → ResolvedRight tree names (first_value a v type o)
first_value_kept tree names a v type None sound known clean = tt
first_value_kept tree names a v type (Some r) sound known clean = right_kept tree names a v (Exactly type) r sound known clean

pub returned_kept : (tree : core.Program) (names : List Name) (a : Environment) (v : Visible) (o : Option Expr) → Sound tree a v
    → Knows true v names → Clean (faults_of_returned a v o) → ResolvedOption tree names (option_map (core_of_expression a v) o)
returned_kept tree names a v None sound known clean = tt
returned_kept tree names a v (Some e) sound known clean =
    (kept e tree names a v in_statement (need_of_result a.result) sound known clean).1.expression

-- an object whose class has what the token speaks of
pub operand_kept : (tree : core.Program) (names : List Name) (a : Environment) (v : Visible) (t : Token) (e : Expr)
    → Sound tree a v
    → Knows true v names → Clean (statements.faults_of_operand (parts.has_role t) a v e)
    → Resolved tree names (core_of_expression a v e)
    × (has_role tree t (class_of_elaborated (elaborated_expression e) a v) ≡ true)
operand_kept tree names a v t e sound known clean =
    let k = kept e tree names a v in_statement AnObject sound known clean.0 in
    let s : Seen = (elaborated_expression e).checked.seen a v in
    let lacks : lacks_role (parts.has_role t) a s ≡ false =
    ap (λ (p : CheckedExpression). lacks_role (parts.has_role t) a (p.seen a v)) (checked_in_elaborated e)
    ∙ if_fails (lacks_role (parts.has_role t) a ((checked_expression e).seen a v)) rule.NoRole e.span clean.1 in
    (k.1.expression, role_kept tree a v s t sound (object_kept tree a v s sound k.1.seen k.0) lacks)
