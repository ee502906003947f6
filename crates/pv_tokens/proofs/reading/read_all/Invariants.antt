use Rattle.std.proofs.Common.{◌≤◌, ◌-◌, [], length}
use Rattle.pv_names.specs.Numbering.{Extends}
use Rattle.pv_tokens.specs.Progress.{Steps, progress}
use Rattle.pv_tokens.proofs.reading.read_all.Given as goal

-- the text is read up to the place
abbrev pub invariant-loop-at : goal.invariant-loop-at
invariant-loop-at l = record {
  read : Steps l.text (progress 0 l.fn.names []) (progress l.at l.names l.lexemes);
  within : l.at ≤ length l.text;
  names : Extends l.fn.names l.names;
}

abbrev pub decreases-loop-at : goal.decreases-loop-at
decreases-loop-at l = length l.text - l.at
