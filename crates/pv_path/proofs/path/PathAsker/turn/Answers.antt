use Rattle.std.proofs.Common.{rules, ◌<◌, ◌^◌, ◌+◌, arith, length-append}
use Rattle.std.proofs.lemmas.Option.{slice_get_within}
use Rattle.pv_path.specs.declared.branch.Turn.TheVariants.{First}
use Rattle.pv_path.specs.declared.branch.Branch.TheVariants.{Turned}
use Rattle.pv_path.specs.Branches.{branch_turns}
use Rattle.pv_path.proofs.PartsLemmas.{stands_turn, stands_less}
use Rattle.pv_path.proofs.TurnLemmas.{take_more, turn_kept, all_taken, turns_first, take_first_turn, turn_added, turns_fit}
use Rattle.pv_path.proofs.path.PathAsker.turn.Goals as goal

pub overflow_add-self : goal.overflow_add-self
overflow_add-self c =
    let branches = c.args.self.now.choices.branches in
    let few : c.args.self.now.taken + 1 < 2 ^ 64 =
    turns_fit branches.items c.args.self.now.taken branches.len branches.cap c.args.self.now.fits branches.ok.0 branches.ok.1
    branches.small in
    search rules

pub invariant_of-self : goal.invariant_of-self
invariant_of-self c =
    let self = c.args.self.now in
    let found = rw c.deref.ensures.value at c.in-Some.ensures.some in
    let lt = slice_get_within (branch_turns self.choices.branches.items) self.taken _ found in
    record { within = self.within; narrowed = self.narrowed; fits = omega (arith, lt); few = self.few; numbered = self.numbered }

pub returns-in-Some-clause-turns : goal.returns-in-Some-clause-turns
returns-in-Some-clause-turns c =
    let found = rw c.deref.ensures.value at c.in-Some.ensures.some in
    rw c.number.ensures.number (take_more (branch_turns c.args.self.now.choices.branches.items) c.args.self.now.taken _ found)

pub returns-in-Some-clause-decides : goal.returns-in-Some-clause-decides
returns-in-Some-clause-decides c =
    let found = rw c.deref.ensures.value at c.in-Some.ensures.some in
    rw c.number.ensures.number (turn_kept c.args.self.now.choices.branches.items c.args.self.now.taken _ found)

pub overflow_add-self-2 : goal.overflow_add-self-2
overflow_add-self-2 c =
    let branches = c.args.self.now.choices.branches in
    let few : c.args.self.now.taken + 1 < 2 ^ 64 =
    turns_fit branches.items c.args.self.now.taken branches.len branches.cap c.args.self.now.fits branches.ok.0 branches.ok.1
    branches.small in
    search rules

pub invariant_of-self-2 : goal.invariant_of-self-2
invariant_of-self-2 c =
    let self = c.args.self.now in
    let more = turns_first self.choices.branches.items _ c.in_ok-take_first.ensures.ok in
    let same = c.take_first.ensures.literals in
    record {
      within = rw same self.within;
      narrowed = rw same self.narrowed;
      fits = rw (more, length-append) (omega (arith, self.fits));
      few = self.few;
      numbered = self.numbered;
    }

pub returns-clause-turns : goal.returns-clause-turns
returns-clause-turns c =
    let self = c.args.self.now in
    let none = rw c.deref.ensures.value at c.in_default.ensures.none in
    take_first_turn self.choices.branches.items _ self.taken c.in_ok-take_first.ensures.ok
    (all_taken (branch_turns self.choices.branches.items) self.taken none self.fits)

pub returns-clause-decides : goal.returns-clause-decides
returns-clause-decides c =
    let self = c.args.self.now in
    let none = rw c.deref.ensures.value at c.in_default.ensures.none in
    turn_added self.choices.branches.items _ self.taken c.in_ok-take_first.ensures.ok
    (all_taken (branch_turns self.choices.branches.items) self.taken none self.fits)

pub returns-clause-keeps : goal.returns-clause-keeps
returns-clause-keeps c = λ e. stands_turn e c.args.self.now.choices.branches.items _ c.in_ok-take_first.ensures.ok

pub returns-clause-adds : goal.returns-clause-adds
returns-clause-adds c = λ e. stands_less e c.args.self.now.choices.branches.items _ (Turned First) c.in_ok-take_first.ensures.ok
