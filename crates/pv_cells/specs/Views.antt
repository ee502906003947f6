-- What expressions are evaluated in, as the code passes it.
use Rattle.pv_cells.specs.declared.value.View.{View}
use Rattle.pv_cells.specs.Stores.{cells_held, scene_of}
use Rattle.pv_cells.specs.Values.{Surroundings}

abbrev pub around : View → Surroundings
around view = record { now = cells_held view.held.now; old = cells_held view.past.now; scene = scene_of view.scene.now }
