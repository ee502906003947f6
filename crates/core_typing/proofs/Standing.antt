-- Where a statement stands: what its formulas may speak of, the blocks around it and the head of its counted loop.
use Rattle.std.proofs.Common.{◌≡◌, Bool, true, false, ◌&&◌, Option, Some, None, List, [], ◌∷◌, refl, sym, ◌∙◌, ap, subst}
use Rattle.std.proofs.lemmas.Bool.{both_ways, eq-eqb, eqb-true}
use Rattle.std.specs.Prelude.{nat_eq, if◌then◌else◌}
use Rattle.std.specs.List.{AllByRecursion}
use Rattle.pv_base.specs.declared.Name.{Name}
use Rattle.pv_ast.specs.declared.PvType.{PvType}
use Rattle.pv_ast.specs.declared.PvType.TheVariants.{Int}
use Rattle.pv_ast.specs.declared.Param.{Param}
use Rattle.pv_ast.specs.declared.fault.Rule.TheVariants as rule
use Rattle.pv_ast.specs.declared.scope.Declaration.{Declaration}
use Rattle.pv_ast.specs.declared.scope.Declaration.TheVariants.{Parameter}
use Rattle.pv_ast.specs.declared.scope.Declared.{Declared}
use Rattle.pv_ast.specs.declared.standing.StatementContext.{StatementContext}
use Rattle.pv_ast.specs.declared.standing.Surround.{Surround}
use Rattle.pv_ast.specs.declared.standing.Surround.TheVariants as places
use Rattle.pv_ast.specs.Rules.Scoping.{Visible, nothing_visible, declared_as, declare_variable, is_visible, is_block, is_block_around, is_block_name}
use Rattle.pv_ast.specs.Rules.Expressions.{Environment}
use Rattle.pv_ast.specs.Rules.Shapes as shapes
use Rattle.pv_ast.specs.Rules.Statements.{in_invariant, is_body, is_loop}
use Rattle.pv_ast.specs.Rules.Programs.{with_params, with_param, faults_of_params}
use Rattle.pv_picks.specs.Plain.Core.{Message}
use Rattle.pv_picks.specs.Plain.Core as core
use Rattle.pv_picks.specs.Elaborating.Statements.{Site}
use Rattle.core_trees.proofs.Clean.{Clean, if_fails}
use Rattle.core_trees.proofs.Agreeing.{Agree, or_else, declared_new, declared_more}
use Rattle.core_trees.specs.Resolved.{names_of}
use Rattle.core_trees.proofs.Knowing.{Knows}
use Rattle.core_trees.proofs.Places.{NoBlock}
use Rattle.pv_picks.specs.Typing.Tasks.{IsWithin}
use Rattle.pv_picks.specs.Typing.Expressions.{Home, Speech, type_in}
use Rattle.core_trees.specs.Formulas.{MessageFits}
use Rattle.core_typing.proofs.Locals.{AreOwn}
use Rattle.core_typing.proofs.Places.{Place, Speaks}

-- in a counted loop's body: the scope agrees with that at its head, where the variable of the loop is a number
pub record InLoop (h : Home) (a : Environment) (v : Visible) (head : List core.Parameter) (there : Visible)
    (environment : shapes.Environment) : Type 0 where
  pub position : Name
  pub loop : environment.loop ≡ Some position.0
  pub number : type_in head position ≡ Some Int
  pub place : Place h a there head
  pub agree : Agree v there

-- each block around is one for whose position a number stands
abbrev pub InBlocks : Visible → List core.Parameter → Name → shapes.Environment → Type 0
InBlocks v xs position environment = (w : Name) → is_block_around v w ≡ true → (environment.block ≡ Some position.0)
    × (type_in xs position ≡ Some Int)

-- each message fits at the head
abbrev pub AllFit : Home → List core.Parameter → List Message → Type 0
AllFit h head ms = AllByRecursion (MessageFits h head) ms

-- the head of a par block's body: the position comes first, and isn't in scope outside
pub record IsHead (position : Name) (head : List core.Parameter) : Type 0 where
  pub outer : List core.Parameter
  pub is : head ≡ (position, Int) ∷ outer
  pub new : type_in outer position ≡ None

pub record Stands (h : Home) (speech : Speech) (a : Environment) (v : Visible) (xs head : List core.Parameter) (method : Bool)
    (surround : Surround) (position : Name) (there : Visible) (messages : List Message) (environment : shapes.Environment) : Type
    0 where
  pub old : (method && is_body surround) ≡ true → speech.old ≡ true
  pub blocks : InBlocks v xs position environment
  pub loop : is_loop surround ≡ true → InLoop h a v head there environment
  pub told : is_loop surround ≡ true → AllFit h head messages
  pub within : IsWithin head xs
  pub known : Knows false v (names_of head)
  pub block : surround ≡ places.Block → IsHead position head
  pub own : AreOwn v head
  pub innermost : (surround ≡ places.Block → ⊥) → NoBlock v

abbrev pub At : Home → Speech → Environment → Visible → List core.Parameter → List core.Parameter → StatementContext → Site
    → shapes.Environment
    → Type 0
At h speech a v xs head stand site environment =
    Stands h speech a v xs head stand.method stand.surround site.position site.head site.messages environment

never : {A : Type 0} → false ≡ true → A
never k = absurd cc

pub speaks_there : (speech : Speech) (a : Environment) (stand : StatementContext)
    → ((stand.method && is_body stand.surround) ≡ true → speech.old ≡ true) → Speaks speech a (in_invariant stand)
speaks_there speech a stand old = record { result = λ k. never k; old = old }

-- One more name in scope

pub still_there : (xs : List core.Parameter) (name position : Name) (type there : PvType) → type_in xs name ≡ None
    → type_in xs position ≡ Some there → type_in ((name, type) ∷ xs) position ≡ Some there
still_there xs name position type other new there = by (nat_eq position.0 name.0) refl
  where
    no : None ≡ Some other → ⊥
    no k = cc

    by : (b : Bool) → nat_eq position.0 name.0 ≡ b → (if b then Some type else type_in xs position) ≡ Some other
    by true k =
        let numbers : position.0 ≡ name.0 = eqb-true position.0 name.0 k in
        let same : position ≡ name = ap (λ n. record { 0 = n }) numbers in
        absurd (no (sym new ∙ ap (type_in xs) (sym same) ∙ there))
    by false k = there

pub first_there : (xs : List core.Parameter) (name : Name) → type_in ((name, Int) ∷ xs) name ≡ Some Int
first_there xs name = by (nat_eq name.0 name.0) (eq-eqb name.0 name.0 refl)
  where
    by : (b : Bool) → b ≡ true → (if b then Some Int else type_in xs name) ≡ Some Int
    by true k = refl
    by false k = never k

block_else : (o : Option Declared) (b : Bool) (d : Declared) → is_block d.declaration ≡ false
    → is_block_name (or_else o (if b then Some d else None)) ≡ true → is_block_name o ≡ true
block_else (Some x) b d other k = k
block_else None true d other k = never (sym other ∙ k)
block_else None false d other k = never k

-- a block around where a variable is in scope is one around without it
pub block_before : (v : Visible) (how : Declaration) (name : Name) (type : PvType) (w : Name) → is_block how ≡ false
    → is_visible v name ≡ false → is_block_around (declare_variable how v name type) w ≡ true → is_block_around v w ≡ true
block_before v how name type w other new k =
    let d : Declared = record { declaration = how; kind = type } in
    block_else (declared_as v.names w) (nat_eq w.0 name.0) d other
    (subst (λ (o : Option Declared). is_block_name o ≡ true) (declared_more v.names (name.0, d) w)
    (subst (λ (x : Visible). is_block_around x w ≡ true) (declared_new v name d new) k))

pub blocks_more : (v : Visible) (xs : List core.Parameter) (position : Name) (environment : shapes.Environment)
    (how : Declaration)
    (name : Name) (type : PvType) → is_block how ≡ false → is_visible v name ≡ false → type_in xs name ≡ None
    → InBlocks v xs position environment → InBlocks (declare_variable how v name type) ((name, type) ∷ xs) position environment
blocks_more v xs position environment how name type other visible new blocks = λ w k.
    let b = blocks w (block_before v how name type w other visible k) in
    (b.0, still_there xs name position type Int new b.1)

pub more_within : (head xs : List core.Parameter) (name : Name) (type : PvType) → type_in xs name ≡ None → IsWithin head xs
    → IsWithin head ((name, type) ∷ xs)
more_within head xs name type new within = λ other there k. still_there xs name other type there new (within other there k)

-- where a barrier stands, a par block is innermost
pub in_block : (s : Surround) (innermost : Bool) → ((s ≡ places.Block → ⊥) → innermost ≡ false) → innermost ≡ true
    → s ≡ places.Block
in_block places.Block innermost other k = refl
in_block places.Body innermost other k = absurd (both_ways innermost (other (λ i. cc)) k)
in_block places.Loop innermost other k = absurd (both_ways innermost (other (λ i. cc)) k)

-- no block stands around a method's parameters
no_blocks : (a : Environment) (v : Visible) (ps : List Param) → Clean (faults_of_params a v ps) → (w : Name)
    → is_block_around (with_params v ps) w ≡ true → is_block_around v w ≡ true
no_blocks a v [] clean w k = k
no_blocks a v (p ∷ ps) clean w k =
    block_before v Parameter p.name.name p.kind.kind w refl
    (if_fails (is_visible v p.name.name) rule.Shadows p.name.span clean.1.0) (no_blocks a (with_param v p) ps clean.1.1 w k)

pub outermost_blocks : (a : Environment) (ps : List Param) (xs : List core.Parameter) (position : Name)
    (environment : shapes.Environment)
    → Clean (faults_of_params a nothing_visible ps) → InBlocks (with_params nothing_visible ps) xs position environment
outermost_blocks a ps xs position environment clean = λ w k. never (no_blocks a nothing_visible ps clean w k)
