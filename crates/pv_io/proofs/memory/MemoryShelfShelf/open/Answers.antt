use Rattle.std.proofs.Common.{sym, ap, is_some}
use Rattle.pv_io.proofs.NamedLemmas.{found_at, found_nowhere}
use Rattle.pv_io.proofs.memory.MemoryShelfShelf.open.Goals as goal

pub returns-in-Some-clause-answers : goal.returns-in-Some-clause-answers
returns-in-Some-clause-answers c =
    rw (← c.self.view_is) (sym (ap is_some (found_at c.self.inside.files c.args.name.now c.in-Some.place c.in-Some.ensures)))

pub returns-in-Some-clause-opens : goal.returns-in-Some-clause-opens
returns-in-Some-clause-opens c =
    rw (← c.self.view_is) (found_at c.self.inside.files c.args.name.now c.in-Some.place c.in-Some.ensures)

pub returns-in-None-clause-answers : goal.returns-in-None-clause-answers
returns-in-None-clause-answers c =
    rw (← c.self.view_is) (sym (ap is_some (found_nowhere c.self.inside.files c.args.name.now c.in-None.ensures)))

pub returns-in-None-clause-opens : goal.returns-in-None-clause-opens
returns-in-None-clause-opens c = rw (← c.self.view_is) (found_nowhere c.self.inside.files c.args.name.now c.in-None.ensures)
