use Rattle.machine_laws.proofs.Local.{work-fits}
use Rattle.machine_laws.proofs.local_work_keeps_frames_typed.Goals as goal

pub returns : goal.returns
returns c = work-fits
