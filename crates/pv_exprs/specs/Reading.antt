-- Reading expressions and formulas, as a function: one reader for each rule.
use Rattle.std.specs.Prelude.{ℕ, zero, suc, List, Option, Some, None, Bool, true, false, if◌then◌else◌}
use Rattle.pv_base.specs.declared.Span.{Span}
use Rattle.pv_tokens.specs.declared.fixed.TheConstants.{NULL, THIS, TRUE, FALSE, PERM, WRITE, INT, RESULT, OLD, IMPLIES, DOTS, OPEN_PAREN, CLOSE_PAREN, OPEN_BRACKET, CLOSE_BRACKET, SEMICOLON, COMMA, DOT, ASSIGN, LESS, AT_MOST, AND_AND, BACKSLASH, BANG, MINUS}
use Rattle.pv_ast.specs.declared.Word.{Word}
use Rattle.pv_ast.specs.declared.Operator.{Operator}
use Rattle.pv_ast.specs.declared.Operator.TheVariants as op
use Rattle.pv_ast.specs.declared.Token.{Token}
use Rattle.pv_ast.specs.declared.Expr.{Expr}
use Rattle.pv_ast.specs.declared.ExprKind.TheVariants as e
use Rattle.pv_reading.specs.Marks.{across}
use Rattle.pv_reading.specs.Reading.{Parser, ◌>>=◌, give, pick, opened, fixed, named, numbered, expect, expect_name, expect_number, series_or_none}
use Rattle.pv_exprs.specs.declared.level.Mode.{Mode}
use Rattle.pv_exprs.specs.declared.level.Mode.TheVariants.{Program, Logic}
use Rattle.pv_exprs.specs.declared.level.Level.{Level}
use Rattle.pv_exprs.specs.declared.level.Level.TheVariants as level
use Rattle.pv_exprs.specs.declared.part.Part.{Part}
use Rattle.pv_exprs.specs.declared.part.Chain.{Chain}
use Rattle.pv_exprs.specs.declared.part.Chain.TheVariants.{Named, Other}
use Rattle.pv_exprs.specs.declared.part.Amount.{Amount}
use Rattle.pv_exprs.specs.declared.part.Bounds.{Bounds}
use Rattle.pv_exprs.specs.Operators.{operator_of, repeats, token_of, forall_of}
use Rattle.pv_exprs.specs.Trees.{node, joined, negated, signed, widened, element_of, part_of, instance_of, old_of, perm_of, token_part, each_of}

-- the readers at one depth; `inside` reads an expression one deeper than the others
pub record Readers : Type 0 where
  pub expr : Mode → Parser Part
  pub inside : Mode → Option (Parser Part)
  pub operand : Mode → Level → Parser Part
  pub joined_only : Mode → Level → Part → Parser Part
  pub unary : Mode → Parser Part
  pub post : Mode → Parser Part
  pub steps : Mode → Chain → Parser Chain
  pub formula : Parser Part

-- Steps to a field or an element behind a chain; r where there is none.

abbrev pub field_step : Mode → Chain → Readers → Parser Chain
field_step m a p = expect_name (λ w. p.steps m (Named (Some (part_of a)) w))

abbrev pub element_step : Mode → Chain → Readers → Parser Chain
element_step m a p =
    opened (p.inside m) (λ q. q >>= λ i. expect CLOSE_BRACKET (λ t. p.steps m (Other (element_of (part_of a) i t))))

unfoldable pub steps_or : Mode → Option Readers → Chain → Parser Chain → Parser Chain
steps_or m o a r =
    fixed DOT (λ s. opened o (field_step m a))
    (fixed OPEN_BRACKET (λ s. opened o (element_step m a)) r)

unfoldable pub steps : Mode → Option Readers → Chain → Parser Chain
steps m o a = steps_or m o a (give a)

-- an atom with the steps behind it
unfoldable pub ended : Mode → Option Readers → Chain → Parser Part
ended m o a = steps m o a >>= λ b. give (part_of b)

-- Arguments behind the bracket that opens them. p reads an expression.
unfoldable pub args : Parser Part → Parser (List Expr × Span)
args p = series_or_none COMMA CLOSE_PAREN (p >>= λ a. give a.tree)

-- an instance on what may be a target, if its arguments follow
abbrev pub instance_args : Option Readers → Option Part → Word → Readers → Parser Part
instance_args o a w p = args (p.expr Logic) >>= λ x. ended Logic o (Other (instance_of a w x.0 x.1))

unfoldable pub instance_or : Option Readers → Chain → Parser Part
instance_or o (Named a w) = fixed OPEN_PAREN (λ s. opened o (instance_args o a w)) (give (part_of (Named a w)))
instance_or o (Other a) = give a

-- behind a name or `this`
unfoldable pub walk : Mode → Option Readers → Chain → Parser Part
walk Program o a = ended Program o a
walk Logic o a = steps Logic o a >>= instance_or o

-- The other atoms.

abbrev pub grouped : Span → Readers → Parser Chain
grouped s p = p.expr Program >>= λ a. expect CLOSE_PAREN (λ t. give (Other (widened s t a)))

unfoldable pub group : Option Readers → Parser Chain
group o = expect OPEN_PAREN (λ s. opened o (grouped s))

unfoldable pub amount : Parser Amount
amount =
    fixed WRITE (λ s. give (record { parts = 1; whole = 1; span = s }))
    (expect_number (λ n s. expect BACKSLASH (λ q.
    expect_number (λ m t. give (record { parts = n; whole = m; span = across s t })))))

abbrev pub oldened : Span → Readers → Parser Chain
oldened s p = p.expr Logic >>= λ a. expect CLOSE_PAREN (λ t. give (Other (old_of s a t)))

abbrev pub permitted : Span → Readers → Parser Chain
permitted s p = p.post Logic >>= λ a. expect COMMA (λ c. amount >>= λ x. expect CLOSE_PAREN (λ t. give (Other (perm_of s a x t))))

abbrev pub tokened : Token → Span → Readers → Parser Chain
tokened k s p = p.expr Logic >>= λ a. expect CLOSE_PAREN (λ t. give (Other (token_part k s a t)))

abbrev pub range_bounds : Readers → Parser Bounds
range_bounds p =
    p.expr Logic >>= λ a. expect DOTS (λ t. p.expr Logic >>= λ b. give (record { low = a; high = b; written = None }))

-- `sum` is what is joined at the level Sum: the operands of a comparison
abbrev pub written_bounds : Readers → Parser Bounds
written_bounds p = p.operand Logic level.Comparison >>= λ a.
    expect AT_MOST (λ q. expect_name (λ v. expect AND_AND (λ r. expect_name (λ w. expect LESS (λ t.
    p.operand Logic level.Comparison >>= λ b. give (record { low = a; high = b; written = Some (v, w) }))))))

unfoldable pub bounds : Readers → Parser Bounds
bounds p = fixed ASSIGN (λ s. range_bounds p) (expect SEMICOLON (λ s. written_bounds p))

-- behind the bracket at s and the word of the quantifier
unfoldable pub quantified : Bool → Span → Readers → Parser Chain
quantified star s p =
    expect INT (λ i. expect_name (λ w. bounds p >>= λ b.
    expect SEMICOLON (λ c. p.formula >>= λ a. expect CLOSE_PAREN (λ t. give (Other (each_of star s w b a t))))))

-- behind the bracket at s
unfoldable pub formula_grouped : Span → Readers → Parser Chain
formula_grouped s p =
    pick forall_of (λ star t. quantified star s p)
    (p.formula >>= λ a. expect CLOSE_PAREN (λ t. give (Other (widened s t a))))

unfoldable pub formula_group : Option Readers → Parser Chain
formula_group o = expect OPEN_PAREN (λ s. opened o (formula_grouped s))

unfoldable pub logic_atom : Option Readers → Parser Chain
logic_atom o =
    fixed RESULT (λ s. give (Other (node s e.Result)))
    (fixed OLD (λ s. expect OPEN_PAREN (λ q. opened o (oldened s)))
    (fixed PERM (λ s. expect OPEN_PAREN (λ q. opened o (permitted s)))
    (pick token_of (λ k s. expect OPEN_PAREN (λ q. opened o (tokened k s)))
    (formula_group o))))

unfoldable pub constant_or : Parser Chain → Parser Chain
constant_or r =
    numbered (λ n s. give (Other (node s (e.Number n))))
    (fixed TRUE (λ s. give (Other (node s (e.Truth true))))
    (fixed FALSE (λ s. give (Other (node s (e.Truth false))))
    (fixed NULL (λ s. give (Other (node s e.Null))) r)))

-- an atom that is neither a name nor `this`
unfoldable pub atom : Mode → Option Readers → Parser Chain
atom Program o = constant_or (group o)
atom Logic o = constant_or (logic_atom o)

unfoldable pub post : Mode → Option Readers → Parser Part
post m o =
    named (λ w. walk m o (Named None w))
    (fixed THIS (λ s. walk m o (Other (node s e.This)))
    (atom m o >>= ended m o))

unfoldable pub unary : Mode → Option Readers → Parser Part
unary m o =
    fixed BANG (λ s. opened o (λ p. p.unary m >>= λ a. give (negated s a)))
    (fixed MINUS (λ s. opened o (λ p. p.unary m >>= λ a. give (signed s a)))
    (post m o))

-- Chains of operators.

abbrev pub operated : Mode → Level → Part → Operator → Readers → Parser Part
operated m l a x p = p.operand m l >>= λ b. p.joined_only m l (joined x a b)

unfoldable pub joined_or : Mode → Level → Option Readers → Part → Parser Part → Parser Part
joined_or m l o a r = pick (operator_of l) (λ x s. opened o (operated m l a x)) r

unfoldable pub joined_from : Mode → Level → Option Readers → Part → Parser Part
joined_from m l o a = joined_or m l o a (give a)

unfoldable pub joined_only : Mode → Level → Option Readers → Part → Parser Part
joined_only m l o a = if repeats l then joined_from m l o a else give a

unfoldable pub product : Mode → Option Readers → Parser Part
product m o = unary m o >>= joined_from m level.Product o

unfoldable pub sum : Mode → Option Readers → Parser Part
sum m o = product m o >>= joined_from m level.Sum o

unfoldable pub comparison : Mode → Option Readers → Parser Part
comparison m o = sum m o >>= joined_from m level.Comparison o

unfoldable pub equality : Mode → Option Readers → Parser Part
equality m o = comparison m o >>= joined_from m level.Equality o

unfoldable pub conjunction : Mode → Option Readers → Parser Part
conjunction m o = equality m o >>= joined_from m level.Conjunction o

unfoldable pub operand : Mode → Level → Option Readers → Parser Part
operand m level.Product o = unary m o
operand m level.Sum o = product m o
operand m level.Comparison o = sum m o
operand m level.Equality o = comparison m o
operand m level.Conjunction o = equality m o
operand m level.Disjunction o = conjunction m o
operand m level.Separation o = conjunction m o

unfoldable pub expr : Mode → Option Readers → Parser Part
expr m o = conjunction m o >>= joined_from m level.Disjunction o

-- behind a unary expression that is read already
unfoldable pub rest_of_expr : Mode → Option Readers → Part → Parser Part
rest_of_expr m o a = joined_from m level.Product o a >>= joined_from m level.Sum o >>= joined_from m level.Comparison o
    >>= joined_from m level.Equality o >>= joined_from m level.Conjunction o >>= joined_from m level.Disjunction o

-- Formulas.

unfoldable pub level_from : Option Readers → Part → Parser Part
level_from o a = joined_or Logic level.Disjunction o a (joined_from Logic level.Separation o a)

unfoldable pub implies_from : Option Readers → Part → Parser Part
implies_from o a = fixed IMPLIES (λ s. opened o (λ p. p.formula >>= λ b. give (joined op.Implies a b))) (give a)

unfoldable pub formula : Option Readers → Parser Part
formula o = conjunction Logic o >>= level_from o >>= implies_from o

abbrev pub inside_of : Mode → Option Readers → Option (Parser Part)
inside_of m None = None
inside_of m (Some p) = Some (p.expr m)

abbrev pub readers : Option Readers → Readers
readers o = record {
  expr = λ m. expr m o;
  inside = λ m. inside_of m o;
  operand = λ m l. operand m l o;
  joined_only = λ m l. joined_only m l o;
  unary = λ m. unary m o;
  post = λ m. post m o;
  steps = λ m. steps m o;
  formula = formula o;
}

-- the readers one deeper, where that many constructs may still be opened
unfoldable pub deeper : ℕ → Option Readers
deeper zero = None
deeper (suc n) = Some (readers (deeper n))
