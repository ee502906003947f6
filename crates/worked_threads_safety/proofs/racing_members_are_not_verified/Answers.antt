use Rattle.worked_threads_safety.proofs.Wrong.{members_race, members_unsafe, members_refused}
use Rattle.worked_threads_safety.proofs.racing_members_are_not_verified.Goals as goal

pub returns : goal.returns
returns c = record { race = members_race; wrong = members_unsafe; refused = members_refused }
