use Rattle.core_sharing.proofs.Programs.{program_elements}
use Rattle.core_sharing.proofs.items_speak_of_numbers_and_truth_values.Goals as goal

pub returns : goal.returns
returns c = program_elements
