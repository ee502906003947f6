use Rattle.std.proofs.Common.{sym, subst}
use Rattle.pv_linear.specs.Evidence.{CanBeMet}
use Rattle.pv_linear.proofs.MeetsLemmas.{opposite_holds}
use Rattle.pv_path.proofs.LiteralLemmas.{new_open, free_open}
use Rattle.pv_path.proofs.StandingLemmas.{met_of_possible}
use Rattle.pv_path.proofs.PathLemmas.{open_wider, sorts_literal, sorts_opposite, opposite_missing}
use Rattle.pv_path.proofs.path.Path.settle.Goals as goal

pub returns-then-has_new_symbol : goal.returns-then-has_new_symbol
returns-then-has_new_symbol c =
    let choices = c.args.self.now.choices in
    let met : CanBeMet choices.literals.items =
    subst CanBeMet (sym choices.same) (met_of_possible choices.branches.items choices.possible) in
    open_wider _ choices.literals.items c.args.literal c.args.self.now.narrowed
    (new_open c.args.literal choices.literals.items choices.highest (c.has_new_symbol.ensures c.if-has_new_symbol.true)
    choices.low met)

pub is_possible-requires-clause-sorts : goal.is_possible-requires-clause-sorts
is_possible-requires-clause-sorts c =
    let choices = c.args.self.now.choices in
    let met : CanBeMet choices.literals.items =
    subst CanBeMet (sym choices.same) (met_of_possible choices.branches.items choices.possible) in
    sorts_literal _ choices.literals.items c.args.literal c.args.self.now.narrowed met c.requires.sorts

pub returns-then-not-branch : goal.returns-then-not-branch
returns-then-not-branch c = λ v met. opposite_holds v c.args.literal
    (λ holds. c.in_ok-is_possible.ensures.no c.if-not-branch.true v met holds)

pub is_possible-requires-2-clause-sorts : goal.is_possible-requires-2-clause-sorts
is_possible-requires-2-clause-sorts c =
    let choices = c.args.self.now.choices in
    let met : CanBeMet choices.literals.items =
    subst CanBeMet (sym choices.same) (met_of_possible choices.branches.items choices.possible) in
    rw c.opposite.ensures (sorts_opposite _ choices.literals.items c.args.literal c.args.self.now.narrowed met c.requires.sorts)

pub returns-then-not-branch-2 : goal.returns-then-not-branch-2
returns-then-not-branch-2 c = λ v met. opposite_missing v c.args.literal
    (λ holds. c.in_ok-is_possible-2.ensures.no c.if-not-branch-2.true v met (rw c.opposite.ensures holds))

pub returns-then-has_free_symbol : goal.returns-then-has_free_symbol
returns-then-has_free_symbol c =
    let choices = c.args.self.now.choices in
    let met : CanBeMet choices.literals.items =
    subst CanBeMet (sym choices.same) (met_of_possible choices.branches.items choices.possible) in
    let free = rw c.deref.ensures.value at (c.has_free_symbol.ensures c.if-has_free_symbol.true) in
    open_wider _ choices.literals.items c.args.literal c.args.self.now.narrowed
    (free_open c.args.literal choices.literals.items free met)
