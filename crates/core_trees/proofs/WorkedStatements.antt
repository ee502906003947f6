-- Pairs of a statement and what it becomes, over whatever its expressions e, f and g become: above each stands its text, in which
-- x is a field, and i and n are local variables.
use Rattle.std.proofs.Common.{◌≡◌, ℕ, pos, true, false, Some, None, List, [], ◌∷◌, refl}
use Rattle.pv_ast.specs.declared.PvType.TheVariants.{Int, Object}
use Rattle.pv_ast.specs.declared.TypeWord.{TypeWord}
use Rattle.pv_ast.specs.declared.Expr.{Expr}
use Rattle.pv_ast.specs.declared.ExprKind.TheVariants as tree
use Rattle.pv_ast.specs.declared.ClauseKind.TheVariants.{Requires, Ensures, Context}
use Rattle.pv_ast.specs.declared.Contract.{Contract}
use Rattle.pv_ast.specs.declared.Range.{Range}
use Rattle.pv_ast.specs.declared.RightKind.TheVariants as right
use Rattle.pv_ast.specs.declared.StmtKind.{StmtKind-F}
use Rattle.pv_ast.specs.declared.PvType.{PvType}
use Rattle.pv_values.specs.declared.value.Value.TheVariants as value
use Rattle.pv_ast.specs.Rules.Scoping.{Visible}
use Rattle.pv_picks.specs.Plain.Core.{Statement, Message}
use Rattle.pv_picks.specs.Plain.Core as core
use Rattle.pv_picks.specs.Machine.Starts.{true_formula}
use Rattle.pv_picks.specs.Elaborating.Operations.{number}
use Rattle.pv_picks.specs.Elaborating.Expressions.{core_of_expression, core_of_formula, core_of_items, together}
use Rattle.pv_picks.specs.Elaborating.Statements.{ElaboratedStatement, StmtLayer, elaborated_in_statement_kind, elaborated_in_statement, block_of, outermost, core_of_contract, core_of_shared, inside_for, inside_par}
use Rattle.core_trees.proofs.Worked.{place, name, word, environment, scope}

abbrev at : ℕ → StmtLayer → ElaboratedStatement
at n k = elaborated_in_statement (record { span = place n; kind = elaborated_in_statement_kind k })

abbrev statement : ElaboratedStatement → Statement
statement s = s.statement environment scope (outermost scope)

abbrev typed : PvType → TypeWord
typed type = record { kind = type; span = place 0 }

abbrev var : ℕ → Expr
var n = record { span = place 0; kind = tree.Var (word n) }

abbrev assign : Expr → Expr → ElaboratedStatement
assign place' e = at 2 (StmtKind-F.Assign place' (record { span = place 0; kind = right.Value e }))

-- assignments

-- `int y;`
number_by_default : statement (at 2 (StmtKind-F.Local (typed Int) (word 5) None))
    ≡ core.Assign (core.ToVariable (name 5)) (core.Value' (number (pos 0))) (place 2)
number_by_default = refl

-- `C y;`
null_by_default : statement (at 2 (StmtKind-F.Local (typed (Object (name 10))) (word 5) None))
    ≡ core.Assign (core.ToVariable (name 5)) (core.Value' (core.Constant (value.Reference 0))) (place 2)
null_by_default = refl

-- `f();`
call_on_this : statement (at 2 (StmtKind-F.Call None (word 7) []))
    ≡ core.Assign core.Nowhere (core.Call (name 10) (name 7) core.This []) (place 2)
call_on_this = refl

-- Loops. 4 and 0 are variables in scope; 1 is a field, and 6 is declared in the body.

abbrev body : Expr → List ElaboratedStatement
body e =
    at 2 (StmtKind-F.Local (typed Int) (word 6) None) ∷ assign (var 6) e ∷ assign (var 4) e
    ∷ at 2 (StmtKind-F.If e (assign (var 1) e ∷ assign (var 0) e ∷ []) (assign (var 4) e ∷ [])) ∷ []

-- `while (e) { int t; t = e; n = e; if (e) { x = e; i = e; } else { n = e; } }`
loop_without_invariant : (e : Expr) → statement (at 3 (StmtKind-F.While [] e (body e)))
    ≡ core.While ((name 4, Int) ∷ (name 0, Int) ∷ []) true_formula (core_of_expression environment scope e)
    (block_of (body e) environment scope (record (outermost scope) { way = 0 ∷ [] })) (place 3)
loop_without_invariant e = refl

-- `loop_invariant e; loop_invariant f; loop_invariant g; while (e) { }`
loop_with_invariants : (e f g : Expr) → statement (at 3 (StmtKind-F.While (e ∷ f ∷ g ∷ []) e []))
    ≡ core.While [] (core.Star (core_of_formula environment scope e)
    (core.Star (core_of_formula environment scope f) (core_of_formula environment scope g)))
    (core_of_expression environment scope e) core.Stop
    (place 3)
loop_with_invariants e f g = refl

-- contracts

abbrev contract : Expr → Expr → Expr → Contract
contract e f g =
    record {
      clauses = record { kind = Context; formula = e } ∷ record { kind = Ensures; formula = f }
          ∷ record { kind = Requires; formula = g } ∷ [];
    }

-- `context e; ensures f; requires g;`
context_in_both : (e f g : Expr) → core_of_contract environment scope (contract e f g) ≡ record {
  before = core.Star (core_of_formula environment scope e) (core_of_formula environment scope g);
  after = core.Star (core_of_formula environment scope e) (core_of_formula environment scope f);
}
context_in_both e f g = refl

-- the same, of a block
items_in_both : (e f g : Expr) → (core_of_shared (name 8) environment scope (contract e f g)).each_before
    ≡ together (core_of_items (name 8) environment scope e) (together (core_of_items (name 8) environment scope g) core.NoItems)
items_in_both e f g = refl

-- no clause
no_clause : core_of_contract environment scope (record { clauses = [] }) ≡ record { before = true_formula; after = true_formula }
no_clause = refl

-- messages: what is received is what the same loop sends, here behind it and in a branch

abbrev range : Expr → Range
range e = record { name = word 8; low = e; high = e }

abbrev nothing : Contract
nothing = record { clauses = [] }

abbrev message : Visible → Expr → Message
message v e = record { label = name 20; distance = 3; formula = core_of_formula environment v e }

-- `for (int j = e .. e) { recv s; if (e) { send s, 3: e; } }`
received : (e : Expr) → statement
    (at 3 (StmtKind-F.For (range e) nothing (at 4 (StmtKind-F.Recv (word 20))
    ∷ at 5 (StmtKind-F.If e (at 6 (StmtKind-F.Send (word 20) 3 e) ∷ []) []) ∷ [])))
    ≡ core.Members
    (record {
      counted = true;
      variable = name 8;
      low = core_of_expression environment scope e;
      high = core_of_expression environment scope e;
      shared =
          record {
            one = record { before = true_formula; after = true_formula };
            each_before = core.NoItems;
            each_after = core.NoItems;
          };
    })
    (core.Then (core.Receive (message (inside_for scope (range e)) e) (place 4))
    (core.Then (core.If (core_of_expression environment (inside_for scope (range e)) e)
    (core.Then (core.Send (message (inside_for scope (range e)) e) (place 6)) core.Stop) core.Stop) core.Stop))
    (place 3)
received e = refl

-- barriers: the ways 0 0 0 and 0 0 1 1 0 lead to two of one block; they keep items for the block's position

abbrev barrier : ElaboratedStatement
barrier = at 4 (StmtKind-F.Barrier (word 21) nothing)

abbrev met : List ℕ → Statement
met way =
    core.Meet (record {
      place = way;
      shared = record {
        one = record { before = true_formula; after = true_formula };
        each_before = core.NoItems;
        each_after = core.NoItems;
      };
    }) (place 4)

-- `par b (int j = e .. e) { barrier(b) { } if (e) { } else { barrier(b) { } } }`
two_barriers : (e : Expr) → block_of
    (at 3 (StmtKind-F.Par (Some (word 21)) (range e) nothing (barrier ∷ at 5 (StmtKind-F.If e [] (barrier ∷ [])) ∷ [])) ∷ [])
    environment scope (outermost scope)
    ≡ core.Then (core.Members
    (record {
      counted = false;
      variable = name 8;
      low = core_of_expression environment scope e;
      high = core_of_expression environment scope e;
      shared =
          record {
            one = record { before = true_formula; after = true_formula };
            each_before = core.NoItems;
            each_after = core.NoItems;
          };
    })
    (core.Then (met (0 ∷ 0 ∷ 0 ∷ []))
    (core.Then (core.If (core_of_expression environment (inside_par scope (Some (word 21)) (range e)) e) core.Stop
    (core.Then (met (0 ∷ 0 ∷ 1 ∷ 1 ∷ 0 ∷ [])) core.Stop)) core.Stop))
    (place 3)) core.Stop
two_barriers e = refl
