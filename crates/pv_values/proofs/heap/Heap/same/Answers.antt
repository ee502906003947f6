use Rattle.std.proofs.Common.{◌≡◌, sym, ◌∙◌, rules}
use Rattle.pv_values.specs.Sames as sames
use Rattle.pv_values.proofs.Comparisons.{same_holds, same_from}
use Rattle.pv_values.proofs.heap.Heap.same.Goals as goal

pub returns : goal.returns
returns c =
    let a = c.args.self.now in
    let b = c.args.other.now in
    let answer : c.same_things.result ≡ sames.same_things a b = search rules in
    (λ h. same_holds a b (sym answer ∙ h), λ h. answer ∙ same_from a b h)
