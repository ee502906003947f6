-- Reading contracts, as a function.
use Rattle.std.specs.Prelude.{List}
use Rattle.pv_tokens.specs.declared.fixed.TheConstants.{SEMICOLON}
use Rattle.pv_ast.specs.declared.Clause.{Clause}
use Rattle.pv_ast.specs.declared.ClauseKind.{ClauseKind}
use Rattle.std.specs.Prelude.{Option}
use Rattle.pv_reading.specs.Reading.{Parser, ◌>>=◌, give, expect, repeated}
use Rattle.pv_exprs.specs.Reading.{Readers, formula}
use Rattle.pv_clauses.specs.Grammar.{clause_of}

-- behind the word of a clause
unfoldable pub clause : Option Readers → ClauseKind → Parser Clause
clause e k = formula e >>= λ a. expect SEMICOLON (λ l. give (record { kind = k; formula = a.tree }))

-- clauses behind those found so far, as long as another begins
unfoldable pub clauses : Option Readers → List Clause → Parser (List Clause)
clauses e found = repeated clause_of (λ k s. clause e k) found
