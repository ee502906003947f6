-- Reading programs, as a function: one reader for each rule. `e` reads expressions and formulas, `o` statements and members.
use Rattle.std.specs.Prelude.{ℕ, zero, suc, List, [], ◌∷◌, Option, Some, None, Bool, true, false}
use Rattle.pv_base.specs.declared.Name.{Name}
use Rattle.pv_base.specs.declared.Span.{Span}
use Rattle.pv_tokens.specs.declared.fixed.TheConstants.{CLASS, INT, VOID, RESOURCE, LOOP_INVARIANT, IF, ELSE, WHILE, FOR, PAR, BARRIER, ASSERT, SEND, RECV, RETURN, NEW, THIS, RUN, DOTS, OPEN_BRACE, CLOSE_BRACE, OPEN_PAREN, CLOSE_PAREN, OPEN_BRACKET, CLOSE_BRACKET, SEMICOLON, COLON, COMMA, ASSIGN}
use Rattle.pv_ast.specs.declared.Word.{Word}
use Rattle.pv_ast.specs.declared.TypeWord.{TypeWord}
use Rattle.pv_ast.specs.declared.Expr.{Expr}
use Rattle.pv_ast.specs.declared.ExprKind.TheVariants.{This}
use Rattle.pv_ast.specs.declared.Right.{Right}
use Rattle.pv_ast.specs.declared.Range.{Range}
use Rattle.pv_ast.specs.declared.Clause.{Clause}
use Rattle.pv_ast.specs.declared.ClauseKind.{ClauseKind}
use Rattle.pv_ast.specs.declared.Stmt.{Stmt}
use Rattle.pv_ast.specs.declared.Param.{Param}
use Rattle.pv_ast.specs.declared.Member.{Member}
use Rattle.pv_ast.specs.declared.Member.TheVariants as variant
use Rattle.pv_ast.specs.declared.Class.{Class}
use Rattle.pv_ast.specs.declared.Program.{Program}
use Rattle.pv_reading.specs.Reading.{Parser, ◌>>=◌, give, refuse, pick, opened, is_fixed, fixed, named, expect, expect_name, expect_number, many, series_or_none, repeated}
use Rattle.pv_exprs.specs.declared.part.Part.{Part}
use Rattle.pv_exprs.specs.declared.part.Chain.{Chain}
use Rattle.pv_exprs.specs.declared.part.Chain.TheVariants.{Named, Other}
use Rattle.pv_exprs.specs.declared.level.Mode.TheVariants.{Program as in_program}
use Rattle.pv_exprs.specs.Trees.{node, part_of}
use Rattle.pv_exprs.specs.Reading.{Readers, expr, formula, steps, steps_or, args, rest_of_expr, deeper}
use Rattle.pv_clauses.specs.Grammar.{clause_of}
use Rattle.pv_clauses.specs.Reading.{clause, clauses}
use Rattle.pv_parser.specs.declared.words.Base.{Base}
use Rattle.pv_parser.specs.declared.words.Action.{Action}
use Rattle.pv_parser.specs.Words.{base_of, action_of, folding_of, class_of}
use Rattle.pv_parser.specs.Trees.{plain_type, array_type, class_type, param_of, value_of, called, new_object, new_array, range_of, local_stmt, assign_stmt, call_stmt, if_stmt, while_stmt, for_stmt, par_stmt, barrier_stmt, action_stmt, folding_stmt, assert_stmt, send_stmt, recv_stmt, return_stmt, predicate_of, method_of, run_of, class_at, program_of}

-- the readers at one depth; `exprs` reads expressions there
pub record Blocks : Type 0 where
  pub exprs : Option Readers
  pub stmt : Parser Stmt
  pub choice : Span → Parser Stmt
  pub member : Parser Member

-- Types. The word of the type stands at s.

unfoldable pub type_from : Option Readers → Base → Span → Parser TypeWord
type_from e b s =
    fixed OPEN_BRACKET (λ q. opened e (λ p. expect CLOSE_BRACKET (λ r. give (array_type b s r)))) (give (plain_type b s))

unfoldable pub type_word : Option Readers → Parser TypeWord
type_word e = named (λ w. give (class_type w)) (pick base_of (type_from e) refuse)

unfoldable pub param : Option Readers → Parser Param
param e = type_word e >>= λ t. expect_name (λ w. give (param_of t w))

-- parameters behind the bracket that opens them
unfoldable pub param_list : Parser Param → Parser (List Param)
param_list p = series_or_none COMMA CLOSE_PAREN p >>= λ x. give x.0

-- the parameters there are read one deeper
unfoldable pub params : Option Blocks → Parser (List Param)
params o = expect OPEN_PAREN (λ s. opened o (λ p. param_list (param p.exprs)))

-- Right sides.

unfoldable pub value_from : Option Readers → Part → Parser Right
value_from e a = rest_of_expr in_program e a >>= λ b. give (value_of b)

abbrev pub call_args : Option Part → Word → Readers → Parser Right
call_args a w p = args (p.expr in_program) >>= λ x. give (called a w x.0 x.1)

unfoldable pub right_from : Option Readers → Chain → Parser Right
right_from e (Named a w) = fixed OPEN_PAREN (λ s. opened e (call_args a w)) (value_from e (part_of (Named a w)))
right_from e (Other a) = value_from e a

unfoldable pub right_walk : Option Readers → Chain → Parser Right
right_walk e a = steps in_program e a >>= right_from e

abbrev pub array_length : Span → Base → Span → Readers → Parser Right
array_length s b r p = p.expr in_program >>= λ a. expect CLOSE_BRACKET (λ t. give (new_array s (plain_type b r) a t))

-- behind the `new` at s
unfoldable pub made : Option Readers → Span → Parser Right
made e s =
    named (λ w. expect OPEN_PAREN (λ q. opened e (λ p. expect CLOSE_PAREN (λ r. give (new_object s w r)))))
    (pick base_of (λ b r. expect OPEN_BRACKET (λ q. opened e (array_length s b r))) refuse)

unfoldable pub right : Option Readers → Parser Right
right e =
    fixed NEW (made e)
    (named (λ w. right_walk e (Named None w))
    (fixed THIS (λ s. right_walk e (Other (node s This)))
    (expr in_program e >>= λ a. give (value_of a))))

-- Parts of statements.

unfoldable pub condition : Option Readers → Parser Part
condition e = expect OPEN_PAREN (λ s. opened e (λ p. p.expr in_program >>= λ a. expect CLOSE_PAREN (λ t. give a)))

-- behind the bracket
unfoldable pub range_in : Readers → Parser Range
range_in p =
    expect INT (λ i. expect_name (λ w. expect ASSIGN (λ q. p.expr in_program >>= λ a.
    expect DOTS (λ t. p.expr in_program >>= λ b. expect CLOSE_PAREN (λ r. give (range_of w a b))))))

unfoldable pub range : Option Readers → Parser Range
range e = expect OPEN_PAREN (λ s. opened e range_in)

unfoldable pub block : Option Blocks → Parser (List Stmt × Span)
block o = expect OPEN_BRACE (λ s. opened o (λ p. many CLOSE_BRACE p.stmt []))

-- a formula and the semicolon behind it, with the place of that
unfoldable pub formula_end : Option Readers → Parser (Part × Span)
formula_end e = formula e >>= λ a. expect SEMICOLON (λ l. give (a, l))

unfoldable pub expr_end : Option Readers → Parser (Part × Span)
expr_end e = expr in_program e >>= λ a. expect SEMICOLON (λ l. give (a, l))

unfoldable pub right_end : Option Readers → Parser (Right × Span)
right_end e = right e >>= λ a. expect SEMICOLON (λ l. give (a, l))

-- the rest of a call, behind the bracket: its arguments, and a semicolon
unfoldable pub call_end : Readers → Parser (List Expr × Span)
call_end p = args (p.expr in_program) >>= λ x. expect SEMICOLON (λ l. give (x.0, l))

-- Declarations, assignments and calls.

unfoldable pub local_end : Option Readers → TypeWord → Word → Parser Stmt
local_end e t w =
    fixed SEMICOLON (λ l. give (local_stmt t w None l))
    (expect ASSIGN (λ q. right_end e >>= λ x. give (local_stmt t w (Some x.0) x.1)))

unfoldable pub local : Option Readers → Base → Span → Parser Stmt
local e b s = type_from e b s >>= λ t. expect_name (λ w. local_end e t w)

abbrev pub assigned : Option Readers → Chain → Parser Stmt
assigned e a = right_end e >>= λ x. give (assign_stmt (part_of a) x.0 x.1)

abbrev pub call_behind : Option Part → Word → Readers → Parser Stmt
call_behind a w p = call_end p >>= λ x. give (call_stmt a w x.0 x.1)

-- behind a place or a target
unfoldable pub place_or_call : Option Readers → Chain → Parser Stmt
place_or_call e (Named a w) = fixed ASSIGN (λ q. assigned e (Named a w)) (expect OPEN_PAREN (λ s. opened e (call_behind a w)))
place_or_call e (Other a) = expect ASSIGN (λ q. assigned e (Other a))

-- behind a name that begins a statement
unfoldable pub name_stmt : Option Readers → Word → Parser Stmt
name_stmt e w =
    named (λ v. local_end e (class_type w) v)
    (steps in_program e (Named None w) >>= place_or_call e)

unfoldable pub this_stmt : Option Readers → Span → Parser Stmt
this_stmt e s = steps_or in_program e (Other (node s This)) refuse >>= place_or_call e

-- Statements with blocks. The first word stands at s.

-- behind an `else`
unfoldable pub otherwise : Option Blocks → Span → Part → List Stmt → Parser Stmt
otherwise o s c b =
    fixed IF (λ i. opened o (λ p. p.choice i >>= λ x. give (if_stmt s c b (x ∷ []) x.span)))
    (block o >>= λ y. give (if_stmt s c b y.0 y.1))

unfoldable pub else_from : Option Blocks → Span → Part → List Stmt → Span → Parser Stmt
else_from o s c b l = fixed ELSE (λ t. otherwise o s c b) (give (if_stmt s c b [] l))

unfoldable pub choice : Option Readers → Option Blocks → Span → Parser Stmt
choice e o s = condition e >>= λ c. block o >>= λ b. else_from o s c b.0 b.1

unfoldable pub while_end : Option Readers → Option Blocks → Span → List Expr → Parser Stmt
while_end e o s is = condition e >>= λ c. block o >>= λ b. give (while_stmt s is c b.0 b.1)

-- behind the word of an invariant
unfoldable pub invariant : Option Readers → Parser Expr
invariant e = formula_end e >>= λ x. give x.0.tree

unfoldable pub invariants : Option Readers → List Expr → Parser (List Expr)
invariants e found = repeated (is_fixed LOOP_INVARIANT) (λ t s. invariant e) found

unfoldable pub invariant_loop : Option Readers → Option Blocks → Span → Parser Stmt
invariant_loop e o s = invariant e >>= λ a. invariants e (a ∷ []) >>= λ is. expect WHILE (λ q. while_end e o s is)

unfoldable pub counted : Option Readers → Option Blocks → Span → Parser Stmt
counted e o s = range e >>= λ g. clauses e [] >>= λ cs. block o >>= λ b. give (for_stmt s g cs b.0 b.1)

unfoldable pub parallel_end : Option Readers → Option Blocks → Span → Option Word → Parser Stmt
parallel_end e o s n = range e >>= λ g. clauses e [] >>= λ cs. block o >>= λ b. give (par_stmt s n g cs b.0 b.1)

unfoldable pub parallel : Option Readers → Option Blocks → Span → Parser Stmt
parallel e o s = named (λ w. parallel_end e o s (Some w)) (parallel_end e o s None)

abbrev pub barrier_body : Span → Word → Blocks → Parser Stmt
barrier_body s w p = clauses p.exprs [] >>= λ cs. expect CLOSE_BRACE (λ l. give (barrier_stmt s w cs l))

unfoldable pub barrier : Option Readers → Option Blocks → Span → Parser Stmt
barrier e o s =
    expect OPEN_PAREN (λ q. opened e (λ p. expect_name
    (λ w. expect CLOSE_PAREN (λ r. expect OPEN_BRACE (λ t. opened o (barrier_body s w))))))

-- Other statements.

unfoldable pub action : Option Readers → Action → Span → Parser Stmt
action e x s = expr_end e >>= λ y. give (action_stmt x s y.0 y.1)

-- the target and the arguments of a folding
abbrev pub folding_args : Bool → Span → Option Part → Word → Readers → Parser Stmt
folding_args x s a w p = call_end p >>= λ y. give (folding_stmt x s a w y.0 y.1)

unfoldable pub folding_from : Option Readers → Bool → Span → Chain → Parser Stmt
folding_from e x s (Named a w) = expect OPEN_PAREN (λ q. opened e (folding_args x s a w))
folding_from e x s (Other a) = refuse

unfoldable pub folding : Option Readers → Bool → Span → Parser Stmt
folding e x s =
    named (λ w. steps in_program e (Named None w) >>= folding_from e x s)
    (expect THIS (λ q. steps_or in_program e (Other (node q This)) refuse >>= folding_from e x s))

unfoldable pub assertion : Option Readers → Span → Parser Stmt
assertion e s = formula_end e >>= λ y. give (assert_stmt s y.0 y.1)

unfoldable pub send : Option Readers → Span → Parser Stmt
send e s =
    expect_name (λ w. expect COMMA (λ c. expect_number
    (λ n m. expect COLON (λ t. formula_end e >>= λ y. give (send_stmt s w n y.0 y.1)))))

unfoldable pub recv : Span → Parser Stmt
recv s = expect_name (λ w. expect SEMICOLON (λ l. give (recv_stmt s w l)))

unfoldable pub returned : Option Readers → Span → Parser Stmt
returned e s =
    fixed SEMICOLON (λ l. give (return_stmt s None l))
    (expr_end e >>= λ y. give (return_stmt s (Some y.0.tree) y.1))

-- a statement of one line that begins with a word of its own
unfoldable pub word_stmt : Option Readers → Parser Stmt
word_stmt e =
    pick action_of (action e)
    (pick folding_of (folding e)
    (fixed ASSERT (assertion e)
    (fixed SEND (send e)
    (fixed RECV recv
    (expect RETURN (returned e))))))

unfoldable pub block_stmt : Option Readers → Option Blocks → Parser Stmt
block_stmt e o =
    fixed IF (choice e o)
    (fixed WHILE (λ s. while_end e o s [])
    (fixed LOOP_INVARIANT (invariant_loop e o)
    (fixed FOR (counted e o)
    (fixed PAR (parallel e o)
    (fixed BARRIER (barrier e o)
    (word_stmt e))))))

unfoldable pub stmt : Option Readers → Option Blocks → Parser Stmt
stmt e o =
    named (name_stmt e)
    (fixed THIS (this_stmt e)
    (pick base_of (local e)
    (block_stmt e o)))

-- Members.

unfoldable pub result_type : Option Readers → Parser (Option TypeWord)
result_type e = fixed VOID (λ s. give None) (type_word e >>= λ t. give (Some t))

-- behind the name of a method
unfoldable pub method_end : Option Blocks → Span → List Clause → Option TypeWord → Word → Parser Member
method_end o s cs t w = params o >>= λ ps. block o >>= λ b. give (method_of s cs t w ps b.0 b.1)

-- behind the word `run` at r
unfoldable pub run_end : Option Blocks → Span → List Clause → Span → Parser Member
run_end o s cs r = block o >>= λ b. give (run_of s cs r b.0 b.1)

-- behind a contract with a clause at least
unfoldable pub contracted : Option Readers → Option Blocks → Span → List Clause → Parser Member
contracted e o s cs =
    fixed RUN (run_end o s cs)
    (result_type e >>= λ t. expect_name (λ w. method_end o s cs t w))

unfoldable pub contract_member : Option Readers → Option Blocks → ClauseKind → Span → Parser Member
contract_member e o k s = clause e k >>= λ c. clauses e (c ∷ []) >>= λ cs. contracted e o s cs

unfoldable pub predicate : Option Readers → Option Blocks → Span → Parser Member
predicate e o s =
    expect_name (λ w. params o >>= λ ps. expect ASSIGN (λ q. formula_end e >>= λ y. give (predicate_of s w ps y.0 y.1)))

-- behind the type and the name of a field or a method
unfoldable pub typed : Option Blocks → TypeWord → Word → Parser Member
typed o t w = fixed SEMICOLON (λ l. give (variant.Field (param_of t w))) (method_end o t.span [] (Some t) w)

unfoldable pub typed_member : Option Readers → Option Blocks → Parser Member
typed_member e o = type_word e >>= λ t. expect_name (typed o t)

unfoldable pub member : Option Readers → Option Blocks → Parser Member
member e o =
    pick clause_of (contract_member e o)
    (fixed VOID (λ s. expect_name (method_end o s [] None))
    (fixed RUN (λ s. run_end o s [] s)
    (fixed RESOURCE (predicate e o)
    (typed_member e o))))

abbrev pub blocks : Option Readers → Option Blocks → Blocks
blocks e o = record { exprs = e; stmt = stmt e o; choice = choice e o; member = member e o }

-- the readers one deeper, where that many constructs may still be opened
unfoldable pub deeper_blocks : ℕ → Option Blocks
deeper_blocks zero = None
deeper_blocks (suc n) = Some (blocks (deeper n) (deeper_blocks n))

-- Classes.

abbrev pub class_body : Span → Option Expr → Word → Blocks → Parser Class
class_body s a w p = many CLOSE_BRACE p.member [] >>= λ x. give (class_at s a w x.0 x.1)

-- behind the word `class`, in a class that begins at s
unfoldable pub class_end : Option Blocks → Span → Option Expr → Parser Class
class_end o s a = expect_name (λ w. expect OPEN_BRACE (λ q. opened o (class_body s a w)))

unfoldable pub class_from : Option Readers → Option Blocks → Bool → Span → Parser Class
class_from e o true s = formula_end e >>= λ y. expect CLASS (λ c. class_end o s (Some y.0.tree))
class_from e o false s = class_end o s None

-- classes behind those found so far, as long as another begins
unfoldable pub classes : ℕ → List Class → Parser (List Class)
classes n found = repeated class_of (class_from (deeper n) (deeper_blocks n)) found

-- so many constructs may be open at once
unfoldable pub program : ℕ → Option Name → Parser Program
program n length = classes n [] >>= λ cs. give (program_of length cs)
