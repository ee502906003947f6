use Rattle.std.proofs.Common.{sym, ◌∙◌}
use Rattle.std.specs.Prelude.{is_ok}
use Rattle.pv_path.proofs.StandingLemmas.{possible_either, literals_either}
use Rattle.pv_path.proofs.choices.Choices.take_first.Goals as goal

pub invariant_of-self : goal.invariant_of-self
invariant_of-self c =
    let self = c.args.self.now in
    record {
      same = self.same ∙ sym (literals_either (is_ok c.push.result) self.branches.items c.push.new.self.items
          c.push.ensures.items);
      few = self.few;
      near = self.near;
      low = self.low;
      undecided = self.undecided;
      possible = possible_either (is_ok c.push.result) self.branches.items c.push.new.self.items c.push.ensures.items
          self.possible;
    }
