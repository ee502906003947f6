use Rattle.std.proofs.Common.{rules, arith}
use Rattle.std.proofs.lemmas.Grind.{common_steps}
use Rattle.pv_reading.proofs.Steps.{picked, passed}
use Rattle.pv_parser.specs.Reading as reading
use Rattle.pv_parser.proofs.rights.made.Goals as goal

pub returns-in_err-last-in-Some-base_word : goal.returns-in_err-last-in-Some-base_word
unfolding reading.made
returns-in_err-last-in-Some-base_word c =
    rw (
      passed _ _ c.in-None.ensures,
      picked _ _ _ _ _ c.in-Some-base_word.ensures,
      picked _ _ _ _ _ c.in_ok-rest-in-Some-base_word.ensures,
      c.in_ok-inner-in-Some-base_word.ensures.readers,
      c.in_ok-length-in-Some-base_word.ensures,
      passed _ _ c.in_err-last-in-Some-base_word.ensures.1,
    )
    (first_of (search rules, grind (arith, common_steps)))

pub returns-in_ok-array-in-Some-base_word : goal.returns-in_ok-array-in-Some-base_word
unfolding reading.made
returns-in_ok-array-in-Some-base_word c =
    rw (
      passed _ _ c.in-None.ensures,
      picked _ _ _ _ _ c.in-Some-base_word.ensures,
      picked _ _ _ _ _ c.in_ok-rest-in-Some-base_word.ensures,
      c.in_ok-inner-in-Some-base_word.ensures.readers,
      c.in_ok-length-in-Some-base_word.ensures,
      picked _ _ _ _ _ c.in_ok-last-in-Some-base_word.ensures,
    )
    (first_of (search rules, grind (arith, common_steps)))
