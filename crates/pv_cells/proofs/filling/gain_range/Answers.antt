-- What gaining a range comes to: null, outside the array, or its elements.
use Rattle.std.proofs.Common.{◌≡◌, ◌∙◌, ◌&&◌, sym, subst, ap, ℤ, pos, [], true, false, to_z, of_z, rules}
use Rattle.std.specs.Prelude.{int_le}
use mir.Syntax.{w128}
use Rattle.pv_picks.specs.Judge.Permissions.{gain_range}
use Rattle.pv_cells.specs.Moves.{Moves, Stops, filling, setting_of}
use Rattle.pv_cells.proofs.Elements.{at_null, outside, at_place, at_place_stops, no_length}
use Rattle.pv_cells.proofs.filling.gain_range.Goals as goal

pub returns-then-array-eq0-clause-stops : goal.returns-then-array-eq0-clause-stops
returns-then-array-eq0-clause-stops c =
    at_null c.args.given.now c.args.kind c.args.array (λ n. int_le (pos 0) c.args.low && int_le c.args.high n)
    (filling c.args.given.now c.args.kind c.args.array c.args.low c.args.high c.args.amount) c.args.held.now c.args.learned.now
    c.if-array-eq0.true

pub returns-in_err-length-clause-stops : goal.returns-in_err-length-clause-stops
returns-in_err-length-clause-stops c =
    let stops : Stops c.args.given.now (λ next. gain_range (setting_of c.args.given.now) c.args.kind
    c.args.array c.args.low c.args.high [] c.args.amount next) c.args.held.now c.args.learned.now
    c.in_err-length.field-0.0 =
    no_length c.args.given.now c.args.kind c.args.array (λ n. int_le (pos 0) c.args.low && int_le c.args.high n)
    (filling c.args.given.now c.args.kind c.args.array c.args.low c.args.high c.args.amount) c.args.held.now
    c.args.learned.now c.length_of.new.learned c.in_err-length.field-0.0 c.if-array-eq0.false
    c.in_err-length.ensures.halts in
    search (rules, stops)

pub returns-then-not-lies_in-clause-stops : goal.returns-then-not-lies_in-clause-stops
returns-then-not-lies_in-clause-stops c =
    let n : to_z w128 (of_z w128 c.in_ok-length.length) ≡ c.in_ok-length.length = search rules in
    let low : to_z w128 (of_z w128 c.args.low) ≡ c.args.low = search rules in
    let high : to_z w128 (of_z w128 c.args.high) ≡ c.args.high = search rules in
    let test : (int_le (pos 0) c.args.low && int_le c.args.high c.in_ok-length.length) ≡ false =
    ap (λ z. int_le (pos 0) z && int_le c.args.high c.in_ok-length.length) (sym low)
    ∙ ap (λ z. int_le (pos 0) (to_z w128 (of_z w128 c.args.low)) && int_le z c.in_ok-length.length) (sym high)
    ∙ ap (λ z. int_le (pos 0) (to_z w128 (of_z w128 c.args.low)) && int_le (to_z w128 (of_z w128 c.args.high)) z) (sym n)
    ∙ sym c.lies_in.ensures ∙ c.if-not-lies_in.true in
    outside c.args.given.now c.args.kind c.args.array (λ n. int_le (pos 0) c.args.low && int_le c.args.high n)
    (filling c.args.given.now c.args.kind c.args.array c.args.low c.args.high c.args.amount) c.args.held.now c.args.learned.now
    c.length_of.new.learned c.in_ok-length.length c.if-array-eq0.false c.in_ok-length.ensures.goes test

pub returns-clause-goes : goal.returns-clause-goes
returns-clause-goes c =
    let n : to_z w128 (of_z w128 c.in_ok-length.length) ≡ c.in_ok-length.length = search rules in
    let low : to_z w128 (of_z w128 c.args.low) ≡ c.args.low = search rules in
    let high : to_z w128 (of_z w128 c.args.high) ≡ c.args.high = search rules in
    let test : (int_le (pos 0) c.args.low && int_le c.args.high c.in_ok-length.length) ≡ true =
    ap (λ z. int_le (pos 0) z && int_le c.args.high c.in_ok-length.length) (sym low)
    ∙ ap (λ z. int_le (pos 0) (to_z w128 (of_z w128 c.args.low)) && int_le z c.in_ok-length.length) (sym high)
    ∙ ap (λ z. int_le (pos 0) (to_z w128 (of_z w128 c.args.low)) && int_le (to_z w128 (of_z w128 c.args.high)) z) (sym n)
    ∙ sym c.lies_in.ensures ∙ c.if-not-lies_in.false in
    let P : ℤ → Type 0 = λ z. Moves c.args.given.now (filling c.args.given.now c.args.kind c.args.array z c.args.high
    c.args.amount)
    c.args.held.now c.length_of.new.learned c.fill_range.new.held c.fill_range.new.learned in
    let Q : ℤ → Type 0 = λ z. Moves c.args.given.now (filling c.args.given.now c.args.kind c.args.array
    (to_z w128 (of_z w128 c.args.low)) z c.args.amount) c.args.held.now c.length_of.new.learned c.fill_range.new.held
    c.fill_range.new.learned in
    at_place c.args.given.now c.args.kind c.args.array (λ n. int_le (pos 0) c.args.low && int_le c.args.high n)
    (filling c.args.given.now c.args.kind c.args.array c.args.low c.args.high c.args.amount) c.args.held.now
    c.fill_range.new.held c.args.learned.now c.length_of.new.learned c.fill_range.new.learned c.in_ok-length.length
    c.if-array-eq0.false c.in_ok-length.ensures.goes test (subst P low (subst Q high c.in_ok-fill_range.ensures.goes))

pub returns-in_err-fill_range-clause-stops : goal.returns-in_err-fill_range-clause-stops
returns-in_err-fill_range-clause-stops c =
    let n : to_z w128 (of_z w128 c.in_ok-length.length) ≡ c.in_ok-length.length = search rules in
    let low : to_z w128 (of_z w128 c.args.low) ≡ c.args.low = search rules in
    let high : to_z w128 (of_z w128 c.args.high) ≡ c.args.high = search rules in
    let test : (int_le (pos 0) c.args.low && int_le c.args.high c.in_ok-length.length) ≡ true =
    ap (λ z. int_le (pos 0) z && int_le c.args.high c.in_ok-length.length) (sym low)
    ∙ ap (λ z. int_le (pos 0) (to_z w128 (of_z w128 c.args.low)) && int_le z c.in_ok-length.length) (sym high)
    ∙ ap (λ z. int_le (pos 0) (to_z w128 (of_z w128 c.args.low)) && int_le (to_z w128 (of_z w128 c.args.high)) z) (sym n)
    ∙ sym c.lies_in.ensures ∙ c.if-not-lies_in.false in
    let P : ℤ → Type 0 = λ z. Stops c.args.given.now (filling c.args.given.now c.args.kind c.args.array z c.args.high
    c.args.amount) c.args.held.now c.length_of.new.learned c.in_err-fill_range.field-0.0 in
    let Q : ℤ → Type 0 = λ z. Stops c.args.given.now (filling c.args.given.now c.args.kind c.args.array
    (to_z w128 (of_z w128 c.args.low)) z c.args.amount) c.args.held.now c.length_of.new.learned
    c.in_err-fill_range.field-0.0 in
    let stops : Stops c.args.given.now (λ next. gain_range (setting_of c.args.given.now) c.args.kind
    c.args.array c.args.low c.args.high [] c.args.amount next) c.args.held.now c.args.learned.now
    c.in_err-fill_range.field-0.0 =
    at_place_stops c.args.given.now c.args.kind c.args.array
    (λ n. int_le (pos 0) c.args.low && int_le c.args.high n)
    (filling c.args.given.now c.args.kind c.args.array c.args.low c.args.high c.args.amount) c.args.held.now
    c.args.learned.now c.length_of.new.learned c.in_ok-length.length c.in_err-fill_range.field-0.0 c.if-array-eq0.false
    c.in_ok-length.ensures.goes test (subst P low (subst Q high c.in_err-fill_range.ensures.stops)) in
    search (rules, stops)
