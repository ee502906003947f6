use Rattle.machine_laws.proofs.Leads.{run_events-grows}
use Rattle.machine_laws.proofs.events_take_nothing_back.Goals as goal

pub returns : goal.returns
returns c = run_events-grows
