-- Tokens spell at most one program, at whatever depth, or have one fault at most.
use Rattle.std.proofs.Common.{ℕ, ◌≡◌, ◌≤◌, max, [], ◌∷◌, Option, refl, arith}
use Rattle.pv_base.specs.declared.Name.{Name}
use Rattle.pv_base.specs.declared.Span.{Span}
use Rattle.pv_ast.specs.declared.Program.{Program}
use Rattle.pv_reading.specs.Marks.{Tokens, Marked, Within}
use Rattle.pv_reading.specs.Spelled.{most_open, Spells, SpellsWithin, IsUnexpected, IsTooDeep}
use Rattle.pv_reading.proofs.Calls as calls
use Rattle.pv_reading.proofs.Whole as whole
use Rattle.pv_parser.specs.Grammar.{IsProgram}
use Rattle.pv_parser.proofs.ExactPrograms.{program_exact}

-- the greatest depth of a text
greatest : Marked → ℕ
greatest [] = 0
greatest (x ∷ u) = max x.1 (greatest u)

within_more : (L M : ℕ) (u : Marked) → L ≤ M → Within L u → Within M u
within_more L M [] le w = tt
within_more L M (x ∷ u) le w = (omega (arith, w.0), within_more L M u le w.1)

within_greatest : (u : Marked) → Within (greatest u) u
unfolding greatest
within_greatest [] = tt
within_greatest (x ∷ u) = (omega arith, within_more (greatest u) (max x.1 (greatest u)) u (omega arith) (within_greatest u))

pub one_program : (tokens : Tokens) (length : Option Name) (a b : Program) → Spells (IsProgram length) tokens a
    → Spells (IsProgram length) tokens b → a ≡ b
one_program tokens length a b s t =
    let n = max (greatest s.marks) (greatest t.marks) in
    let p : SpellsWithin (IsProgram length) n tokens a =
    record {
      marks = s.marks;
      here = s.here;
      spelled = s.spelled;
      within = within_more (greatest s.marks) n s.marks (omega arith) (within_greatest s.marks);
    } in
    let q : SpellsWithin (IsProgram length) n tokens b =
    record {
      marks = t.marks;
      here = t.here;
      spelled = t.spelled;
      within = within_more (greatest t.marks) n t.marks (omega arith) (within_greatest t.marks);
    } in
    calls.one_within (program_exact n length) refl 0 tokens a b p q

-- Tokens have one fault at most.

module _ (length : Option Name) (tokens : Tokens) where
  pub one_too_deep : (place other : Span) → IsTooDeep (IsProgram length) most_open tokens place
      → IsTooDeep (IsProgram length) most_open tokens other → place ≡ other
  one_too_deep place other h k = whole.one_too_deep (program_exact most_open length) refl tokens place other h k

  pub unexpected_not_deep : (end : ℕ) (place other : Span) → IsUnexpected (IsProgram length) most_open end tokens place
      → IsTooDeep (IsProgram length) most_open tokens other → ⊥
  unexpected_not_deep end place other h k = whole.unexpected_not_deep (program_exact most_open length) refl end tokens place other
      h k
