-- Worked programs that are well typed as plain trees.
use Rattle.pv_picks.specs.Typing.Blocks.{ProgramFits}
use Rattle.worked_programs.specs.CoreObjects.{writers, grow}
use Rattle.worked_programs.specs.CoreArrays.{fill}
use Rattle.worked_programs.specs.CoreThreads.{copying, twice}

abbrev pub ProgramsFit : Type 0
ProgramsFit = ProgramFits writers × ProgramFits fill × ProgramFits copying × ProgramFits twice × ProgramFits grow
