use Rattle.std.proofs.Common.{◌≡◌, length, sym, ap, subst, ◌∙◌, arith, take}
use Rattle.pv_linear.specs.Evidence.{CanBeMet}
use Rattle.pv_linear.specs.Decisions.{entailed}
use Rattle.pv_path.specs.declared.branch.Branch.TheVariants.{Open}
use Rattle.pv_path.specs.Branches.{decisions_of, branch_turns}
use Rattle.pv_path.proofs.BranchLemmas.{literals_of_decisions, branch_turns-fact}
use Rattle.pv_path.proofs.StandingLemmas.{met_of_possible}
use Rattle.pv_path.proofs.PathLemmas.{long, long_counts}
use Rattle.pv_path.proofs.PartsLemmas.{stands_open, stands_less}
use Rattle.pv_path.proofs.TurnLemmas.{settled_true, settled_false, settled_open, not_open, opposite_not_open, decides_open}
use Rattle.pv_path.proofs.path.PathAsker.ask.Goals as goal

pub follow-requires : goal.follow-requires
follow-requires c = settled_true _ c.args.literal _ _ c.in_ok-settle.ensures c.in-Told-true.is c.in-Told-true.field-0-test

pub follow-requires-in-Told-false : goal.follow-requires-in-Told-false
follow-requires-in-Told-false c = rw c.opposite.ensures
    (settled_false _ c.args.literal _ _ c.in_ok-settle.ensures c.in-Told-false.is c.in-Told-false.field-0-test)

pub returns-then-len-eq-MOST_LITERALS-clause-full : goal.returns-then-len-eq-MOST_LITERALS-clause-full
returns-then-len-eq-MOST_LITERALS-clause-full c =
    let self = c.args.self.now in
    let literals = self.choices.literals in
    let count : length literals.items ≡ 65536 = omega (arith, literals.ok.0, c.len.ensures, c.if-len-eq-MOST_LITERALS.true) in
    long _ literals.items self.narrowed count (subst CanBeMet (sym self.choices.same)
    (met_of_possible self.choices.branches.items self.choices.possible))

pub returns-then-len-eq-MOST_LITERALS-clause-full_literals : goal.returns-then-len-eq-MOST_LITERALS-clause-full_literals
returns-then-len-eq-MOST_LITERALS-clause-full_literals c =
    let self = c.args.self.now in
    let literals = self.choices.literals in
    let count : length literals.items ≡ 65536 = omega (arith, literals.ok.0, c.len.ensures, c.if-len-eq-MOST_LITERALS.true) in
    ap length (literals_of_decisions self.choices.branches.items ∙ sym self.choices.same) ∙ count

pub returns-in_ok-follow-in-Told-true-clause-decides : goal.returns-in_ok-follow-in-Told-true-clause-decides
returns-in_ok-follow-in-Told-true-clause-decides c =
    entailed (ap (λ choices. decisions_of choices.branches.items) c.in_ok-follow-in-Told-true.ensures.choices)
    (settled_true _ c.args.literal _ _ c.in_ok-settle.ensures c.in-Told-true.is c.in-Told-true.field-0-test)

pub returns-in_ok-follow-in-Told-true-clause-not_full : goal.returns-in_ok-follow-in-Told-true-clause-not_full
returns-in_ok-follow-in-Told-true-clause-not_full c = λ _ open_.
    not_open _ c.args.literal (settled_true _ c.args.literal _ _ c.in_ok-settle.ensures c.in-Told-true.is
    c.in-Told-true.field-0-test) open_

pub returns-in_ok-follow-in-Told-false-clause-decides : goal.returns-in_ok-follow-in-Told-false-clause-decides
returns-in_ok-follow-in-Told-false-clause-decides c =
    entailed (ap (λ choices. decisions_of choices.branches.items) c.in_ok-follow-in-Told-false.ensures.choices)
    (settled_false _ c.args.literal _ _ c.in_ok-settle.ensures c.in-Told-false.is c.in-Told-false.field-0-test)

pub returns-in_ok-follow-in-Told-false-clause-not_full : goal.returns-in_ok-follow-in-Told-false-clause-not_full
returns-in_ok-follow-in-Told-false-clause-not_full c = λ _ open_.
    opposite_not_open _ c.args.literal (settled_false _ c.args.literal _ _ c.in_ok-settle.ensures c.in-Told-false.is
    c.in-Told-false.field-0-test) open_

pub returns-in_ok-decide-in-Undecided-clause-decides : goal.returns-in_ok-decide-in-Undecided-clause-decides
returns-in_ok-decide-in-Undecided-clause-decides c =
    decides_open _ c.args.self.now.choices.branches.items _ c.args.literal c.in_ok-decide-in-Undecided.ensures.branches
    (settled_open _ c.args.literal _ c.in_ok-settle.ensures c.in-Undecided.is)

pub returns-in_ok-decide-in-Undecided-clause-turns : goal.returns-in_ok-decide-in-Undecided-clause-turns
returns-in_ok-decide-in-Undecided-clause-turns c =
    ap (λ n. take n (branch_turns c.decide.new.self.choices.branches.items)) c.decide.ensures.taken
    ∙ ap (λ ns. take c.args.self.now.taken ns)
    (branch_turns-fact c.args.self.now.choices.branches.items _ c.args.literal c.in_ok-decide-in-Undecided.ensures.branches)

pub returns-in_ok-decide-in-Undecided-clause-keeps : goal.returns-in_ok-decide-in-Undecided-clause-keeps
returns-in_ok-decide-in-Undecided-clause-keeps c = λ e.
    stands_open e c.args.self.now.choices.branches.items _ c.args.literal c.in_ok-decide-in-Undecided.ensures.branches

pub returns-in_ok-decide-in-Undecided-clause-adds : goal.returns-in_ok-decide-in-Undecided-clause-adds
returns-in_ok-decide-in-Undecided-clause-adds c = λ e.
    stands_less e c.args.self.now.choices.branches.items _ (Open c.args.literal) c.in_ok-decide-in-Undecided.ensures.branches

pub returns-in_ok-decide-in-Undecided-clause-not_full : goal.returns-in_ok-decide-in-Undecided-clause-not_full
returns-in_ok-decide-in-Undecided-clause-not_full c = λ count _.
    let self = c.args.self.now in
    let literals = self.choices.literals in
    let whole = long_counts _ literals.items self.narrowed count self.choices.few in
    c.if-len-eq-MOST_LITERALS.false (omega (arith, literals.ok.0, c.len.ensures, whole))
