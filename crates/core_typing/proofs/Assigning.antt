-- The variables that a loop lists are those in scope that its body assigns.
use Rattle.std.proofs.Common.{◌≡◌, true, Option, Some, None, is_some, List, map, refl, ◌∙◌, ap, inl, inr}
use Rattle.std.proofs.lemmas.Bool.{or_left, or_right, eq-eqb}
use Rattle.pv_base.specs.declared.Name.{Name}
use Rattle.pv_ast.specs.declared.Stmt.{Stmt}
use Rattle.pv_ast.specs.declared.scope.Declared.{Declared}
use Rattle.pv_ast.specs.declared.standing.StatementContext.{StatementContext}
use Rattle.pv_ast.specs.Rules.Scoping.{Visible, declared_as, variable_named, as_variable}
use Rattle.pv_ast.specs.Rules.Expressions.{Environment}
use Rattle.pv_ast.specs.Rules.Statements.{faults_of_statements}
use Rattle.pv_picks.specs.Plain.Core as core
use Rattle.pv_picks.specs.Plain.Core.{Target, Statement, Block}
use Rattle.pv_picks.specs.Elaborating.Statements.{Site, block_from, variables_among, assigned_in, elaborated_statement}
use Rattle.core_trees.proofs.Clean.{Clean}
use Rattle.core_names.specs.Assigning.{goes_into, assigns, assigns_in}
use Rattle.core_names.proofs.Keeping.{block_listed}
use Rattle.core_names.proofs.Listing.{listed_there}
use Rattle.core_trees.specs.Assigned.{TargetIs, AssignsOnly, BlockAssigns, IsListed}
use Rattle.core_typing.proofs.Barriers.{listed}
use Rattle.core_typing.proofs.Places.{Place}
use Rattle.pv_picks.specs.Typing.Expressions.{Home}
use Rattle.core_trees.proofs.Shapes.{type_of}

-- Where each variable that a block assigns may be, it assigns only such

target_only : (may : Name → Type 0) (target : Target) → ((name : Name) → goes_into name target ≡ true → may name)
    → TargetIs may target
target_only may core.Nowhere h = tt
target_only may (core.ToVariable name) h = h name (eq-eqb name.0 name.0 refl)
target_only may (core.ToField object class field span) h = tt
target_only may (core.ToElement type array index span) h = tt

mutual
  assigns_only : (may : Name → Type 0) (s : Statement) → ((name : Name) → assigns name s ≡ true → may name) → AssignsOnly may s
  assigns_only may (core.Assign target right span) h = target_only may target h
  assigns_only may (core.If e first second) h = (
    block_only may first (λ name k. h name (or_left (assigns_in name first) (assigns_in name second) k)),
    block_only may second (λ name k. h name (or_right (assigns_in name first) (assigns_in name second) k)),
  )
  assigns_only may (core.While assigned invariant e body span) h = block_only may body h
  assigns_only may (core.Members team body span) h = block_only may body h
  assigns_only may (core.Meet barrier span) h = tt
  assigns_only may (core.Act action class e span) h = tt
  assigns_only may (core.Fold class name e args span) h = tt
  assigns_only may (core.Unfold class name e args span) h = tt
  assigns_only may (core.Assert f span) h = tt
  assigns_only may (core.Send m span) h = tt
  assigns_only may (core.Receive m span) h = tt
  assigns_only may (core.Return e span) h = tt

  block_only : (may : Name → Type 0) (b : Block) → ((name : Name) → assigns_in name b ≡ true → may name) → BlockAssigns may b
  block_only may core.Stop h = tt
  block_only may (core.Then s b) h = (
    assigns_only may s (λ name k. h name (or_left (assigns name s) (assigns_in name b) k)),
    block_only may b (λ name k. h name (or_right (assigns name s) (assigns_in name b) k)),
  )

-- a variable is in scope
visible : (o : Option Declared) (d : Declared) → as_variable o ≡ Some d → is_some o ≡ true
visible None d h = absurd cc
visible (Some e) d h = refl

-- the body of a loop assigns no variables in scope but those that the loop lists
pub body_assigns : (ss : List Stmt) (h : Home) (a : Environment) (v : Visible) (xs : List core.Parameter)
    (stand : StatementContext)
    → Place h a v xs
    → Clean (faults_of_statements (map (λ s. s.checked) (map elaborated_statement ss)) a v stand) → (site : Site)
    → BlockAssigns (IsListed xs (variables_among v (assigned_in (map elaborated_statement ss))))
    (block_from 0 (map elaborated_statement ss) a v site)
body_assigns ss h a v xs stand place clean site =
    block_only (IsListed xs (variables_among v (assigned_in (map elaborated_statement ss))))
    (block_from 0 (map elaborated_statement ss) a v site)
    (λ name k. by name (variable_named v name) refl k)
  where
    by : (name : Name) (o : Option Declared) → variable_named v name ≡ o
        → assigns_in name (block_from 0 (map elaborated_statement ss) a v site) ≡ true
        → IsListed xs (variables_among v (assigned_in (map elaborated_statement ss))) name
    by name None is k = inl (place.listed name ∙ ap type_of is)
    by name (Some d) is k =
        inr (listed (variables_among v (assigned_in (map elaborated_statement ss))) name
        (listed_there v (assigned_in (map elaborated_statement ss)) name (ap is_some is)
        (block_listed ss a v stand site clean place.sound.within name (visible (declared_as v.names name) d is) k)))
