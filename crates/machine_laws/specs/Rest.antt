-- Frames in which no local work is left.
use Rattle.std.specs.Prelude.{Bool, true, false, List, [], ◌∷◌}
use Rattle.pv_picks.specs.Machine.Tasks.{Task, Stand, Resume}
use Rattle.pv_picks.specs.Machine.Frames.{Frame}

-- nothing is left, or a step or the end of a call comes first
abbrev pub are_at_rest : List Task → Bool
are_at_rest [] = true
are_at_rest (Stand step ∷ rest) = true
are_at_rest (Resume class method object arguments ∷ rest) = true
are_at_rest _ = false

abbrev pub is_at_rest : Frame → Bool
is_at_rest f = are_at_rest f.tasks
