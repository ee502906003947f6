use Rattle.std.proofs.Common.{◌≡◌, drop}
use Rattle.pv_linear.specs.Values.{Values}
use Rattle.pv_state.specs.States.{variables_at}
use Rattle.pv_state.proofs.scene.lookup.Given as goal

-- what is left has the value that the whole has
abbrev pub invariant-loop-local : goal.invariant-loop-local
invariant-loop-local l = (v : Values) → variables_at v l.locals l.name.0 ≡ variables_at v (drop l.local-index l.locals) l.name.0
