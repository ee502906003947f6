-- What gaining an element comes to.
use Rattle.std.proofs.Common.{◌≡◌, ℤ, pos, true, false, to_z, of_z, rules, arith, subst}
use Rattle.std.proofs.lemmas.Grind.{common_steps}
use mir.Syntax.{w128}
use Rattle.pv_picks.specs.Formulas.Values.{within}
use Rattle.pv_picks.specs.Judge.States.{InElement}
use Rattle.pv_picks.specs.Judge.Permissions.{gain}
use Rattle.pv_cells.specs.Moves.{Moves, Stops, setting_of}
use Rattle.pv_cells.specs.declared.halt.Halt.{Halt}
use Rattle.pv_cells.proofs.Elements.{at_null, outside, at_place, at_place_stops, no_length}
use Rattle.pv_cells.proofs.gaining.gain_element.Goals as goal

pub returns-then-array-eq0-clause-stops : goal.returns-then-array-eq0-clause-stops
returns-then-array-eq0-clause-stops c =
    at_null _ c.args.kind c.args.array (λ n. within (pos 0) n c.args.index)
    (λ next. gain (setting_of c.args.given.now) c.args.kind
    (InElement c.args.kind c.args.array c.args.index) c.args.amount next) c.args.held.now c.args.learned.now c.if-array-eq0.true

pub returns-in_err-length-clause-stops : goal.returns-in_err-length-clause-stops
returns-in_err-length-clause-stops c =
    let unmeasured = λ (h : Halt). no_length c.args.given.now c.args.kind c.args.array (λ n. within (pos 0) n c.args.index)
    (λ next. gain (setting_of c.args.given.now) c.args.kind
    (InElement c.args.kind c.args.array c.args.index) c.args.amount next) c.args.held.now
    c.args.learned.now c.length_of.new.learned h c.if-array-eq0.false in
    search (rules, unmeasured)

pub returns-then-not-is_within-clause-stops : goal.returns-then-not-is_within-clause-stops
returns-then-not-is_within-clause-stops c =
    let n : to_z w128 (of_z w128 c.in_ok-length.length) ≡ c.in_ok-length.length = search rules in
    let i : to_z w128 (of_z w128 c.args.index) ≡ c.args.index = search rules in
    let test : within (pos 0) c.in_ok-length.length c.args.index ≡ false =
    grind (arith, common_steps, n, i, c.is_within.ensures) in
    outside _ c.args.kind c.args.array (λ n. within (pos 0) n c.args.index)
    (λ next. gain (setting_of c.args.given.now) c.args.kind
    (InElement c.args.kind c.args.array c.args.index) c.args.amount next) c.args.held.now c.args.learned.now
    c.length_of.new.learned
    c.in_ok-length.length c.if-array-eq0.false c.in_ok-length.ensures.goes test

pub returns-clause-goes : goal.returns-clause-goes
returns-clause-goes c =
    let n : to_z w128 (of_z w128 c.in_ok-length.length) ≡ c.in_ok-length.length = search rules in
    let i : to_z w128 (of_z w128 c.args.index) ≡ c.args.index = search rules in
    let test : within (pos 0) c.in_ok-length.length c.args.index ≡ true =
    grind (arith, common_steps, n, i, c.is_within.ensures) in
    let P : ℤ → Type 0 = λ z. Moves c.args.given.now (λ next. gain (setting_of c.args.given.now) c.args.kind
    (InElement c.args.kind c.args.array z) c.args.amount next) c.args.held.now c.length_of.new.learned c.gain.new.held
    c.gain.new.learned in
    at_place _ c.args.kind c.args.array (λ n. within (pos 0) n c.args.index)
    (λ next. gain (setting_of c.args.given.now) c.args.kind
    (InElement c.args.kind c.args.array c.args.index) c.args.amount next) c.args.held.now c.gain.new.held c.args.learned.now
    c.length_of.new.learned c.gain.new.learned c.in_ok-length.length c.if-array-eq0.false c.in_ok-length.ensures.goes
    test (subst P i c.in_ok-gain.ensures.goes)

pub returns-in_err-gain-clause-stops : goal.returns-in_err-gain-clause-stops
returns-in_err-gain-clause-stops c =
    let n : to_z w128 (of_z w128 c.in_ok-length.length) ≡ c.in_ok-length.length = search rules in
    let i : to_z w128 (of_z w128 c.args.index) ≡ c.args.index = search rules in
    let test : within (pos 0) c.in_ok-length.length c.args.index ≡ true =
    grind (arith, common_steps, n, i, c.is_within.ensures) in
    let P : ℤ → Type 0 = λ z. Stops c.args.given.now (λ next. gain (setting_of c.args.given.now) c.args.kind
    (InElement c.args.kind c.args.array z) c.args.amount next) c.args.held.now c.length_of.new.learned
    c.in_err-gain.field-0.0 in
    let stops =
    at_place_stops c.args.given.now c.args.kind c.args.array (λ n. within (pos 0) n c.args.index)
    (λ next. gain (setting_of c.args.given.now) c.args.kind
    (InElement c.args.kind c.args.array c.args.index) c.args.amount next) c.args.held.now
    c.args.learned.now c.length_of.new.learned c.in_ok-length.length c.in_err-gain.field-0.0 c.if-array-eq0.false
    c.in_ok-length.ensures.goes test (subst P i c.in_err-gain.ensures.stops) in
    search (rules, stops)
