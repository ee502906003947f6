-- In what a well formed program becomes each method shares what it may.
use Rattle.std.proofs.Common.{inl, inr, Option, None, List}
use Rattle.pv_base.specs.declared.Name.{Name}
use Rattle.pv_ast.specs.declared.Program.{Program}
use Rattle.pv_ast.specs.Rules.WellFormed.{IsWellFormed}
use Rattle.pv_picks.specs.Plain.Core as core
use Rattle.pv_picks.specs.Plain.Core.{Parameter, Method, Statement, Assign, If, While, Members, Meet, Act, Fold, Unfold, Assert, Send, Receive, Return, Block, Stop, Then, IsMethod}
use Rattle.core_trees.specs.Placing.{Environment, InMethod, environment_members, environment_repeated, PlacedStatement, PlacedBlock, PlacedMember}
use Rattle.pv_picks.specs.Elaborating.Programs.{core_of}
use Rattle.core_trees.proofs.Places.{program_placed}
use Rattle.core_names.specs.Carrying.{IsDeclared}
use Rattle.core_names.proofs.Declared.{member_has}
use Rattle.pv_picks.specs.Typing.Expressions.{Home, Speech}
use Rattle.core_trees.specs.Formulas.{DeclaredBy, StatementSays, BlockSays, MethodSays, in_class}
use Rattle.core_trees.specs.Throughout.{IsTypedThroughout}
use Rattle.core_typing.proofs.Contracts.{program_formulas}
use Rattle.core_typing.proofs.Distinct.{names_distinct}
use Rattle.core_typing.proofs.Programs.{program_fits}
use Rattle.core_typing.proofs.Throughout.{typed_throughout}
use Rattle.core_sharing.specs.Keeping.{SaidInStatement, SaidInBlock, SaidInMember}
use Rattle.core_sharing.specs.Forms.{SameShared}
use Rattle.core_sharing.proofs.Programs.{program_same}
use Rattle.soundness.specs.Sharing.{position_in, StatementShares, BlockShares}
use Rattle.soundness.proofs.Carried.{MethodShares}

-- a declaration shares nothing
declared_shares : (h : Home) (xs : List Parameter) (x : Parameter) (environment : Environment) (position : Option Name)
    (s : Statement)
    → DeclaredBy h xs s x → StatementShares environment position s
declared_shares h xs x environment position (Assign target right span) d = tt
declared_shares h xs x environment position (If e first second) d = absurd d
declared_shares h xs x environment position (While variables f e body span) d = absurd d
declared_shares h xs x environment position (Members team body span) d = absurd d
declared_shares h xs x environment position (Meet barrier span) d = absurd d
declared_shares h xs x environment position (Act action class e span) d = absurd d
declared_shares h xs x environment position (Fold class name e arguments span) d = absurd d
declared_shares h xs x environment position (Unfold class name e arguments span) d = absurd d
declared_shares h xs x environment position (Assert f span) d = absurd d
declared_shares h xs x environment position (Send m span) d = absurd d
declared_shares h xs x environment position (Receive m span) d = absurd d
declared_shares h xs x environment position (Return e span) d = absurd d

mutual
  statement_shares : (h : Home) (speech : Speech) (head xs : List Parameter) (environment : Environment) (position : Option Name)
      (s : Statement) → PlacedStatement environment s → SaidInStatement SameShared position s → StatementSays h speech head xs s
      → StatementShares environment position s
  statement_shares h speech head xs environment position (Assign target right span) placed same says = tt
  statement_shares h speech head xs environment position (If e first second) placed same says = (
    block_shares h speech head xs environment position first placed.0 same.0 says.0,
    block_shares h speech head xs environment position second placed.1 same.1 says.1,
  )
  statement_shares h speech head xs environment position (While variables f e body span) placed same says =
      block_shares h speech head xs (environment_repeated environment) position body placed same says.2
  statement_shares h speech head xs environment position (Members team body span) placed same says = (
    same.0,
    says.2,
    block_shares _ _ _ _ (environment_members team.counted) (position_in position team) body placed same.1 says.1,
  )
  statement_shares h speech head xs environment position (Meet barrier span) placed same says = (placed, same)
  statement_shares h speech head xs environment position (Act action class e span) placed same says = tt
  statement_shares h speech head xs environment position (Fold class name e arguments span) placed same says = tt
  statement_shares h speech head xs environment position (Unfold class name e arguments span) placed same says = tt
  statement_shares h speech head xs environment position (Assert f span) placed same says = tt
  statement_shares h speech head xs environment position (Send m span) placed same says = placed.0
  statement_shares h speech head xs environment position (Receive m span) placed same says = placed
  statement_shares h speech head xs environment position (Return e span) placed same says = tt

  block_shares : (h : Home) (speech : Speech) (head xs : List Parameter) (environment : Environment) (position : Option Name)
      (b : Block)
      → PlacedBlock environment b → SaidInBlock SameShared position b → BlockSays h speech head xs b
      → BlockShares environment position b
  block_shares h speech head xs environment position Stop placed same says = tt
  block_shares h speech head xs environment position (Then s b) placed same (inl says) = (
    statement_shares h speech head xs environment position s placed.0 same.0 says.1,
    block_shares h speech head xs environment position b placed.1 same.1 says.2,
  )
  block_shares h speech head xs environment position (Then s b) placed same (inr says) = (
    declared_shares h xs says.0 environment position s says.1,
    block_shares h speech head _ environment position b placed.1 same.1 says.2,
  )

method_says : (p : core.Program) → IsTypedThroughout p → (class : Name) (m : Method) → IsDeclared p class m
    → MethodSays (in_class p class) m
method_says p typed class m (inl found) = (typed.methods class found.0 m found.1).0
method_says p typed class m (inr found) = (typed.runs class m found).0

typed : (p : Program) → IsWellFormed p → IsTypedThroughout (core_of p)
typed p well = typed_throughout (core_of p) (program_fits p well) (program_formulas p well) (names_distinct p well)

-- each method that a name leads to
pub methods_share : (p : Program) → IsWellFormed p → (class : Name) (m : Method) → IsDeclared (core_of p) class m → MethodShares m
methods_share p well class m declared =
    block_shares _ _ _ _ InMethod None m.body
    (member_has (λ (m : Method). PlacedBlock InMethod m.body) PlacedMember (λ m h. h) (core_of p)
    (program_placed p well.rules) class m declared)
    (member_has (λ (m : Method). SaidInBlock SameShared None m.body) (SaidInMember SameShared) (λ m h. h) (core_of p)
    (program_same p well) class m declared)
    (method_says (core_of p) (typed p well) class m declared).5
