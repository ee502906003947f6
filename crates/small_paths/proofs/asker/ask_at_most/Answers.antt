use Rattle.std.proofs.Common.{arith}
use Rattle.std.proofs.lemmas.Int.{ints}
use Rattle.small_paths.proofs.asker.ask_at_most.Goals as goal

pub returns-clause-says : goal.returns-clause-says
returns-clause-says g c = λ v f.
    let says = c.in_ok-told.ensures.says v f in
    (λ t. let h = says.0 t in omega (arith, ints), λ h. says.1 (omega (arith, ints)))
