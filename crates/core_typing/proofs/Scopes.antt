-- Scopes of the static rules, and the lists of variables in scope of plain programs that say the same.
use Rattle.std.proofs.Common.{◌≡◌, Bool, true, false, ◌||◌, Option, Some, None, is_some, List, [], ◌∷◌, refl, sym, ◌∙◌, ap, subst}
use Rattle.std.specs.Prelude.{nat_eq, if◌then◌else◌}
use Rattle.pv_base.specs.declared.Name.{Name}
use Rattle.pv_ast.specs.declared.Word.{Word}
use Rattle.pv_ast.specs.declared.Param.{Param}
use Rattle.pv_ast.specs.declared.PvType.{PvType}
use Rattle.pv_ast.specs.declared.PvType.TheVariants.{Int, Null}
use Rattle.pv_ast.specs.declared.fault.Rule.TheVariants as rule
use Rattle.pv_ast.specs.declared.scope.Declaration.{Declaration}
use Rattle.pv_ast.specs.declared.scope.Declaration.TheVariants.{Parameter, LoopVariable, Block}
use Rattle.pv_ast.specs.declared.scope.Declared.{Declared}
use Rattle.pv_ast.specs.Rules.Scoping.{Visible, nothing_visible, declared_as, declare_variable, is_visible, is_block, as_variable, variable_named}
use Rattle.pv_ast.specs.Rules.Expressions.{Environment}
use Rattle.pv_ast.specs.Rules.Statements.{shadows, shadows_option, with_loop_variable, with_block}
use Rattle.pv_ast.specs.Rules.Programs.{with_param, with_params, faults_of_params}
use Rattle.pv_picks.specs.Plain.Core as core
use Rattle.pv_picks.specs.Elaborating.Names.{parameter_of, parameters_of}
use Rattle.core_trees.specs.Resolved.{InScope, names_of}
use Rattle.core_trees.proofs.Clean.{Clean, if_fails}
use Rattle.core_trees.proofs.Knowing.{Knows}
use Rattle.core_trees.proofs.Agreeing.{declared_new, declared_more, or_else}
use Rattle.pv_picks.specs.Typing.Expressions.{type_in}
use Rattle.pv_picks.specs.Typing.Blocks.{over}
use Rattle.core_trees.proofs.Shapes.{type_of, equal_names}

-- the variables of a scope are those of a list, with their types
abbrev pub Lists : Visible → List core.Parameter → Type 0
Lists v xs = (name : Name) → type_in xs name ≡ type_of (variable_named v name)

pub nothing_listed : Lists nothing_visible []
nothing_listed name = refl

none_declared : (o : Option Declared) → is_some o ≡ false → o ≡ None
none_declared None h = refl
none_declared (Some d) h = absurd cc

pub not_listed : (v : Visible) (xs : List core.Parameter) (name : Name) → Lists v xs → is_visible v name ≡ false → type_in xs name
    ≡ None
not_listed v xs name l new = l name ∙ ap (λ o. type_of (as_variable o)) (none_declared (declared_as v.names name) new)

-- One more name

else_none : (o : Option Declared) → or_else o None ≡ o
else_none None = refl
else_none (Some d) = refl

variable_if : (b : Bool) (o : Option Declared) (d : Declared) (rest : Option PvType) → (b ≡ true → o ≡ None) → rest
    ≡ type_of (as_variable o) → is_block d.declaration ≡ false
    → (if b then Some d.kind else rest) ≡ type_of (as_variable (or_else o (if b then Some d else None)))
variable_if true o d rest new h k =
    ap (λ c. type_of (if c then None else Some d)) (sym k) ∙ ap (λ x. type_of (as_variable (or_else x (Some d)))) (sym (new refl))
variable_if false o d rest new h k = h ∙ ap (λ x. type_of (as_variable x)) (sym (else_none o))

block_if : (b : Bool) (o : Option Declared) (d : Declared) (rest : Option PvType) → (b ≡ true → o ≡ None) → rest
    ≡ type_of (as_variable o) → is_block d.declaration ≡ true
    → rest ≡ type_of (as_variable (or_else o (if b then Some d else None)))
block_if true o d rest new h k =
    h ∙ ap (λ x. type_of (as_variable x)) (new refl) ∙ ap (λ c. type_of (if c then None else Some d)) (sym k)
    ∙ ap (λ x. type_of (as_variable (or_else x (Some d)))) (sym (new refl))
block_if false o d rest new h k = h ∙ ap (λ x. type_of (as_variable x)) (sym (else_none o))

-- a name in scope that is the new one
not_yet : (v : Visible) (name other : Name) → is_visible v name ≡ false → nat_eq other.0 name.0 ≡ true → declared_as v.names other
    ≡ None
not_yet v name other new h = ap (declared_as v.names) (equal_names other name h) ∙ none_declared (declared_as v.names name) new

pub variable_listed : (v : Visible) (xs : List core.Parameter) (how : Declaration) (name : Name) (type : PvType) → is_block how
    ≡ false → is_visible v name ≡ false → Lists v xs
    → Lists (declare_variable how v name type) ((name, type) ∷ xs)
variable_listed v xs how name type variable new l =
    let d : Declared = record { declaration = how; kind = type } in
    subst (λ (w : Visible). Lists w ((name, type) ∷ xs)) (sym (declared_new v name d new))
    (λ other. variable_if (nat_eq other.0 name.0) (declared_as v.names other) d (type_in xs other) (not_yet v name other new)
    (l other) variable
    ∙ ap (λ o. type_of (as_variable o)) (sym (declared_more v.names (name.0, d) other)))

pub block_listed : (v : Visible) (xs : List core.Parameter) (how : Declaration) (name : Name) (type : PvType) → is_block how
    ≡ true → is_visible v name ≡ false → Lists v xs
    → Lists (declare_variable how v name type) xs
block_listed v xs how name type block new l =
    let d : Declared = record { declaration = how; kind = type } in
    subst (λ (w : Visible). Lists w xs) (sym (declared_new v name d new))
    (λ other. block_if (nat_eq other.0 name.0) (declared_as v.names other) d (type_in xs other) (not_yet v name other new)
    (l other) block
    ∙ ap (λ o. type_of (as_variable o)) (sym (declared_more v.names (name.0, d) other)))

-- Par blocks, counted loops and parameters

pub loop_listed : (v : Visible) (xs : List core.Parameter) (w : Word) → Clean (shadows v w) → Lists v xs
    → Lists (with_loop_variable v w) ((w.name, Int) ∷ xs)
loop_listed v xs w clean l =
    variable_listed v xs LoopVariable w.name Int refl (if_fails (is_visible v w.name) rule.Shadows w.span clean) l

pub block_name_listed : (v : Visible) (xs : List core.Parameter) (o : Option Word) → Clean (shadows_option v o) → Lists v xs
    → Lists (with_block v o) xs
block_name_listed v xs None clean l = l
block_name_listed v xs (Some w) clean l =
    block_listed v xs Block w.name Null refl (if_fails (is_visible v w.name) rule.Shadows w.span clean) l

pub params_listed : (a : Environment) (v : Visible) (xs : List core.Parameter) (ps : List Param) → Clean (faults_of_params a v ps)
    → Lists v xs → Lists (with_params v ps) (over xs (parameters_of ps))
params_listed a v xs [] clean l = l
params_listed a v xs (p ∷ ps) clean l =
    params_listed a (with_param v p) (parameter_of p ∷ xs) ps clean.1.1
    (variable_listed v xs Parameter p.name.name p.kind.kind refl
    (if_fails (is_visible v p.name.name) rule.Shadows p.name.span clean.1.0) l)

-- Names in scope without their types

found_name : (b : Bool) (type : PvType) (rest : Option PvType) (others : Bool) → (is_some rest ≡ true → others ≡ true)
    → is_some (if b then Some type else rest) ≡ true → (b || others) ≡ true
found_name true type rest others h k = refl
found_name false type rest others h k = h k

among_names : (xs : List core.Parameter) (name : Name) → is_some (type_in xs name) ≡ true → InScope (names_of xs) name
among_names [] name k = absurd cc
among_names (x ∷ xs) name k = found_name (nat_eq name.0 x.0.0) x.1 (type_in xs name) _ (among_names xs name) k

some_type : (o : Option Declared) → is_some o ≡ true → is_some (type_of o) ≡ true
some_type None h = absurd cc
some_type (Some d) h = refl

pub listed_known : (v : Visible) (xs : List core.Parameter) → Lists v xs → Knows true v (names_of xs)
listed_known v xs l name h outer = among_names xs name (ap is_some (l name) ∙ some_type (variable_named v name) h)
