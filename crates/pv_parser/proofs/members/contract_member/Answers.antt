use Rattle.std.proofs.Common.{rules, arith, List, [], ◌∷◌, ◌++◌, ap, ◌∙◌}
use Rattle.std.proofs.lemmas.Grind.{common_steps}
use Rattle.pv_ast.specs.declared.Clause.{Clause}
use Rattle.pv_parser.specs.Reading as reading
use Rattle.pv_parser.proofs.members.contract_member.Goals as goal

pub returns : goal.returns
unfolding reading.contract_member
returns c =
    let all = c.in_ok-push.ensures.ok ∙ ap (λ (z : List Clause). z ++ c.into_inner.result ∷ []) c.new-found.ensures
    ∙ ap (λ (x : Clause). [] ++ x ∷ []) c.into_inner.ensures in
    rw (c.in_ok-clause.ensures, ← all, c.in_ok-clauses.ensures) (first_of (search rules, grind (arith, common_steps)))
