use Rattle.pv_path.proofs.PartsLemmas.{agrees_follows, parts_apart, side_of}
use Rattle.pv_path.proofs.TurnLemmas.{path_met}
use Rattle.pv_path.specs.Paths.{path_of}
use Rattle.pv_path.specs.Standing.{Narrowed}
use Rattle.std.proofs.Common.{subst, List, []}
use Rattle.pv_linear.specs.declared.Literal.{Literal}
use Rattle.pv_path.proofs.laws.parts_stand.Goals as goal

pub returns-clause-met : goal.returns-clause-met
returns-clause-met c = let path = c.args.path.now in
    path_met path.choices.branches.items _ path.choices.literals.items path.choices.same path.choices.possible path.narrowed

pub returns-clause-follows : goal.returns-clause-follows
returns-clause-follows c = λ e a. let path = c.args.path.now in
    agrees_follows e path.choices.branches.items _ path.taken
    (subst (λ (ls : List Literal). ∥ Narrowed (path_of path) ls ∥₁) path.choices.same path.narrowed) a

pub returns-clause-stand : goal.returns-clause-stand
returns-clause-stand c = c.args.path.now.choices.possible

pub returns-clause-apart : goal.returns-clause-apart
returns-clause-apart c = parts_apart [] c.args.path.now.choices.branches.items

pub returns-clause-sides : goal.returns-clause-sides
returns-clause-sides c = side_of [] c.args.path.now.choices.branches.items
