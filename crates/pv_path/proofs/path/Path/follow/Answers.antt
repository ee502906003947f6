use Rattle.std.specs.Prelude.{is_ok}
use Rattle.pv_path.proofs.PathLemmas.{narrowed_either}
use Rattle.pv_path.proofs.path.Path.follow.Goals as goal

pub invariant_of-self : goal.invariant_of-self
invariant_of-self c =
    let self = c.args.self.now in
    record {
      within = self.within;
      narrowed = narrowed_either (is_ok c.push.result) self.kept self.choices.literals.items self.asked.items
          c.push.new.self.items c.args.literal c.push.ensures.items self.narrowed c.requires;
      fits = self.fits;
      few = self.few;
      numbered = self.numbered;
    }
