use Rattle.std.proofs.Common.{ℕ, nat_eq, subst}
use Rattle.std.specs.Global.{Vec}
use Rattle.std.specs.List.{IsDistinct}
use Rattle.std.specs.Cmp.Lexicographic.{pointwise}
use Rattle.pv_names.proofs.Places.{IsDistinct-map}
use Rattle.pv_names.proofs.Names.len.Goals as goal

pub returns-clause-distinct : goal.returns-clause-distinct
returns-clause-distinct c =
    subst (IsDistinct (pointwise nat_eq)) c.self.view_is
    (IsDistinct-map (pointwise nat_eq) (λ (t : Vec ℕ). t.items) c.self.inside.texts.keys c.len.ensures.unique)
