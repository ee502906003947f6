-- How many tokens the readers of items take, where n constructs may still be opened.
use Rattle.std.proofs.Common.{ℕ, Bool, refl, arith}
use Rattle.pv_base.specs.declared.Span.{Span}
use Rattle.pv_reading.proofs.Loops.{Eats, Keeps, exact_eats, exact_keeps}
use Rattle.pv_exprs.specs.Reading.{deeper}
use Rattle.pv_exprs.proofs.Exactness.{readers_known}
use Rattle.pv_parser.specs.Reading as reading
use Rattle.pv_parser.specs.Reading.{deeper_blocks}
use Rattle.pv_parser.proofs.ExactParts.{param_exact}
use Rattle.pv_parser.proofs.ExactStatements.{invariant_exact, stmt_exact}
use Rattle.pv_parser.proofs.ExactPrograms.{starts_member, member_exact, class_exact, blocks_known}

module _ (n : ℕ) where
  pub param_keeps : Keeps (reading.param (deeper n))
  param_keeps = exact_keeps (param_exact n 0 (deeper n) (omega arith) (readers_known n n 0 (omega arith)))

  pub invariant_keeps : Keeps (reading.invariant (deeper n))
  invariant_keeps =
      exact_keeps (invariant_exact n 0 n (omega arith) starts_member (deeper_blocks n) (blocks_known n n 0 (omega arith)))

  pub stmt_eats : Eats (reading.stmt (deeper n) (deeper_blocks n))
  stmt_eats =
      exact_eats refl refl (stmt_exact n 0 n (omega arith) starts_member (deeper_blocks n) (blocks_known n n 0 (omega arith)))

  pub member_eats : Eats (reading.member (deeper n) (deeper_blocks n))
  member_eats = exact_eats refl refl (member_exact n 0 n (omega arith) (deeper_blocks n) (blocks_known n n 0 (omega arith)))

  pub class_keeps : (b : Bool) (s : Span) → Keeps (reading.class_from (deeper n) (deeper_blocks n) b s)
  class_keeps b s = exact_keeps (class_exact n 0 n (omega arith) (deeper_blocks n) (blocks_known n n 0 (omega arith)) b s).1
