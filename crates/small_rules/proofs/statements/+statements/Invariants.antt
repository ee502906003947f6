use Rattle.std.proofs.Common.{◌≡◌, drop}
use Rattle.small_meaning.specs.Small.{is_small_block}
use Rattle.small_rules.proofs.statements.+statements.Given as goal

abbrev pub invariant-is_small_block-loop-statement : goal.invariant-is_small_block-loop-statement
invariant-is_small_block-loop-statement l = is_small_block (drop l.statement-index l.block) ≡ is_small_block l.block
