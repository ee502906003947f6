use Rattle.std.proofs.Common.{ℕ, rules, arith, ◌≡◌, [], ◌∷◌, ◌++◌, Some, refl, ap, ◌∙◌}
use Rattle.std.proofs.lemmas.Grind.{common_steps}
use Rattle.pv_tokens.specs.declared.fixed.TheConstants.{COMMA, CLOSE_PAREN}
use Rattle.pv_ast.specs.declared.Expr.{Expr}
use Rattle.pv_reading.specs.Marks.{Tokens}
use Rattle.pv_reading.specs.Reading.{Parser, Good, onward, give}
use Rattle.pv_exprs.specs.declared.level.Mode.{Mode}
use Rattle.pv_exprs.specs.declared.part.Part.{Part}
use Rattle.pv_exprs.specs.Reading.{expr, deeper}
use Rattle.pv_exprs.proofs.Levels as levels
use Rattle.pv_reading.proofs.Turns as turns
use Rattle.pv_exprs.proofs.Formulas as formulas
use Rattle.pv_exprs.proofs.Eating.{tree_keeps}
use Rattle.pv_exprs.proofs.reading.+expression.Goals as goal

pub operand-returns-in_err-first-in-Some : goal.operand-returns-in_err-first-in-Some
operand-returns-in_err-first-in-Some t c =
    rw (levels.operand_joined c.args.mode c.args.level c.in-Some.tighter (deeper c.args.room) c.args.tokens.now c.in-Some.ensures)
    (first_of (search rules, grind (arith, common_steps)))

pub operand-returns-in_ok-first-in-Some : goal.operand-returns-in_ok-first-in-Some
operand-returns-in_ok-first-in-Some t c =
    rw (
      levels.operand_joined c.args.mode c.args.level c.in-Some.tighter (deeper c.args.room) c.args.tokens.now c.in-Some.ensures,
      c.in_ok-first-in-Some.ensures,
    ) c.joined_from.ensures

pub operand-returns-in-None : goal.operand-returns-in-None
operand-returns-in-None t c =
    rw (levels.operand_unary c.args.mode c.args.level (deeper c.args.room) c.args.tokens.now c.in-None.ensures) c.unary.ensures

pub element_step-returns : goal.element_step-returns
element_step-returns t c =
    rw (formulas.element_upto (deeper c.args.room)
    (deeper c.in_ok-inner.inner) c.args.mode c.args.chain c.in_ok-array.array c.in_ok-index.index c.in_ok-whole.whole
    c.in_ok-index.last c.args.tokens.now _
    c.in_ok-inner.ensures.readers c.in_ok-index.ensures c.in_ok-array.ensures c.in_ok-whole.ensures) c.read_steps.ensures

pub group-returns : goal.group-returns
group-returns t c =
    formulas.group_given (deeper c.args.room) c.args.tokens.now _ _ _ c.in_ok-part.last c.in_ok-part.part c.in_ok-first.ensures
    c.widened.result c.in_ok-part.ensures c.widened.ensures

pub old_value-returns : goal.old_value-returns
old_value-returns t c =
    formulas.old_given (deeper c.args.room) c.args.tokens.now _ _ _ c.in_ok-part.last c.in_ok-part.part c.in_ok-behind.ensures
    c.args.first c.in_ok-whole.whole c.in_ok-part.ensures c.in_ok-whole.ensures

pub held_token-returns : goal.held_token-returns
held_token-returns t c =
    formulas.token_given (deeper c.args.room) c.args.tokens.now _ _ _ c.in_ok-part.last c.in_ok-part.part c.in_ok-behind.ensures
    c.args.token c.args.first c.in_ok-whole.whole c.in_ok-part.ensures c.in_ok-whole.ensures

pub permitted-returns-in_err-amount : goal.permitted-returns-in_err-amount
permitted-returns-in_err-amount t c =
    rw (formulas.perm_upto (deeper c.args.room) (deeper c.in_ok-inner.inner) c.args.first c.args.tokens.now _ _ _ _ _
    c.in_ok-part.part c.in_ok-behind.ensures c.in_ok-inner.ensures.readers c.in_ok-part.ensures c.in_ok-rest.ensures)
    (first_of (search rules, grind (arith, common_steps)))

pub permitted-returns-in_err-last : goal.permitted-returns-in_err-last
permitted-returns-in_err-last t c =
    rw (formulas.perm_open (deeper c.args.room) (deeper c.in_ok-inner.inner) c.args.first c.args.tokens.now _ _ _ _ _
    c.in_ok-part.part c.in_ok-behind.ensures c.in_ok-inner.ensures.readers c.in_ok-part.ensures c.in_ok-rest.ensures
    _ c.in_ok-amount.amount c.in_ok-amount.ensures c.in_err-last.ensures.1)
    (first_of (search rules, grind (arith, common_steps)))

pub permitted-returns : goal.permitted-returns
permitted-returns t c =
    formulas.perm_given (deeper c.args.room) (deeper c.in_ok-inner.inner) c.args.first c.args.tokens.now _ _ _ _ _
    c.in_ok-part.part c.in_ok-behind.ensures c.in_ok-inner.ensures.readers c.in_ok-part.ensures c.in_ok-rest.ensures
    _ c.in_ok-amount.amount c.in_ok-amount.ensures _ c.in_ok-last.last c.in_ok-whole.whole c.in_ok-last.ensures
    c.in_ok-whole.ensures

pub quantified-returns-in_err-bounds : goal.quantified-returns-in_err-bounds
quantified-returns-in_err-bounds t c =
    rw (formulas.each_named (deeper c.args.room) c.args.star c.args.first c.args.tokens.now _ _ _ c.in_ok-word.word
    c.in_ok-rest.ensures c.in_ok-word.ensures)
    (first_of (search rules, grind (arith, common_steps)))

pub quantified-returns-in_err-rest-2 : goal.quantified-returns-in_err-rest-2
quantified-returns-in_err-rest-2 t c =
    rw (formulas.each_unended (deeper c.args.room) c.args.star c.args.first c.args.tokens.now _ _ _ c.in_ok-word.word
    c.in_ok-rest.ensures c.in_ok-word.ensures
    _ c.in_ok-bounds.bounds c.in_ok-bounds.ensures c.in_err-rest-2.ensures.1)
    (first_of (search rules, grind (arith, common_steps)))

pub quantified-returns-in_err-body : goal.quantified-returns-in_err-body
quantified-returns-in_err-body t c =
    rw (formulas.each_upto (deeper c.args.room) c.args.star c.args.first c.args.tokens.now _ _ _ c.in_ok-word.word
    c.in_ok-rest.ensures c.in_ok-word.ensures
    _ c.in_ok-bounds.bounds c.in_ok-bounds.ensures _ _ c.in_ok-rest-2.ensures)
    (first_of (search rules, grind (arith, common_steps)))

pub quantified-returns : goal.quantified-returns
quantified-returns t c =
    formulas.each_given (deeper c.args.room) c.args.star c.args.first c.args.tokens.now _ _ _ c.in_ok-word.word
    c.in_ok-rest.ensures c.in_ok-word.ensures
    _ c.in_ok-bounds.bounds c.in_ok-bounds.ensures _ _ c.in_ok-rest-2.ensures _ c.in_ok-body.body c.in_ok-whole.whole
    c.in_ok-body.last c.in_ok-body.ensures c.in_ok-whole.ensures

pub range_bounds-returns : goal.range_bounds-returns
range_bounds-returns t c =
    formulas.range_given (deeper c.args.room) c.args.tokens.now _ _ _ c.in_ok-low.low c.in_ok-high.high _ c.in_ok-low.ensures
    c.in_ok-rest.ensures c.in_ok-high.ensures

pub written_bounds-returns-in_err-high : goal.written_bounds-returns-in_err-high
written_bounds-returns-in_err-high t c =
    rw (formulas.written_upto (deeper c.args.room) c.args.tokens.now _ _ c.in_ok-low.low c.in_ok-names.names c.in_ok-low.ensures
    c.in_ok-names.ensures)
    (first_of (search rules, grind (arith, common_steps)))

pub written_bounds-returns : goal.written_bounds-returns
written_bounds-returns t c =
    formulas.written_upto (deeper c.args.room) c.args.tokens.now _ _ c.in_ok-low.low c.in_ok-names.names c.in_ok-low.ensures
    c.in_ok-names.ensures
    ∙ ap (onward (λ b. give (record { low = c.in_ok-low.low; high = b; written = Some c.in_ok-names.names })))
    c.in_ok-high.ensures

-- what an argument is read by
abbrev tree_of : Mode → ℕ → Parser Expr
tree_of m n us = onward (λ a. give a.tree) (expr m (deeper n) us)

tree_read : (m : Mode) (n : ℕ) (ts us : Tokens) (a : Part) → expr m (deeper n) ts ≡ Good a us → tree_of m n ts ≡ Good a.tree us
tree_read m n ts us a h = ap (onward (λ a. give a.tree)) h

pub some_args-returns-in_err-part : goal.some_args-returns-in_err-part
some_args-returns-in_err-part t c =
    rw (
      c.found.invariant,
      turns.series_first COMMA CLOSE_PAREN (tree_of c.args.mode c.args.room)
          (tree_keeps c.args.mode c.args.room) c.found.found c.found.rest.now,
    ) (first_of (search rules, grind (arith, common_steps)))

pub some_args-found-smaller : goal.some_args-found-smaller
some_args-found-smaller t c =
    turns.series_smaller COMMA CLOSE_PAREN (tree_of c.args.mode c.args.room)
    (tree_keeps c.args.mode c.args.room) c.found.found c.found.rest.now _ _ _ _
    (tree_read c.args.mode c.args.room c.found.rest.now _ c.in_ok-part.part c.in_ok-part.ensures) c.in-Some.ensures

pub some_args-found-preserved : goal.some_args-found-preserved
some_args-found-preserved t c = c.found.invariant
    ∙ turns.series_step COMMA CLOSE_PAREN (tree_of c.args.mode c.args.room)
    (tree_keeps c.args.mode c.args.room) c.found.found c.found.rest.now _ _ _
    (tree_read c.args.mode c.args.room c.found.rest.now _ c.in_ok-part.part c.in_ok-part.ensures)
    (c.in_ok-push.ensures.ok ∙ ap (λ (e : Expr). c.found.found ++ e ∷ []) c.into_tree.ensures) _ _
    c.in-Some.ensures

pub some_args-returns-in_err-last-in-None : goal.some_args-returns-in_err-last-in-None
some_args-returns-in_err-last-in-None t c =
    rw (
      c.found.invariant,
      turns.series_open COMMA CLOSE_PAREN (tree_of c.args.mode c.args.room)
          (tree_keeps c.args.mode c.args.room) c.found.found c.found.rest.now _ _ _
          (tree_read c.args.mode c.args.room c.found.rest.now _ c.in_ok-part.part c.in_ok-part.ensures) refl c.in-None.ensures
          c.in_err-last-in-None.ensures.1,
    )
    (first_of (search rules, grind (arith, common_steps)))

pub some_args-returns-in-None : goal.some_args-returns-in-None
some_args-returns-in-None t c = c.found.invariant
    ∙ turns.series_end COMMA CLOSE_PAREN (tree_of c.args.mode c.args.room)
    (tree_keeps c.args.mode c.args.room) c.found.found c.found.rest.now _ _ _
    (tree_read c.args.mode c.args.room c.found.rest.now _ c.in_ok-part.part c.in_ok-part.ensures)
    (c.in_ok-push.ensures.ok ∙ ap (λ (e : Expr). c.found.found ++ e ∷ []) c.into_tree.ensures) _ _
    c.in-None.ensures c.in_ok-last-in-None.ensures
