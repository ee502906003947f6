use Rattle.std.proofs.Common.{◌≡◌, pos, arith, refl, sym, subst, ◌+◌, ℕ, Option, length, slice_index_or}
use Rattle.std.proofs.lemmas.Int.{ints}
use Rattle.pv_diff.specs.Edges.{edge}
use Rattle.pv_diff.specs.Table.{IsMet}
use Rattle.pv_diff.proofs.Edges.{breadth-most}
use Rattle.pv_diff.proofs.Lowered.{number_in-down}
use Rattle.pv_diff.proofs.Rounds.{place_at, Gone, Gone-start, Gone-kept, Gone-lowered, Gone-ended, Gone-met, Gone-last}
use Rattle.pv_diff.proofs.table.lower_all.Goals as goal
use Rattle.pv_diff.proofs.table.lower_all.Goals.{then-backward, else-backward, in-Some+else-table-slot, in_default}

pub loop-step-init : goal.loop-step-init
loop-step-init c = Gone-start c.args.backward c.args.edges.now c.args.table.now c.requires.sound c.requires.above

pub returns-then-table-slot-clause-lowered : goal.returns-then-table-slot-clause-lowered
returns-then-table-slot-clause-lowered c = Gone-ended c.args.backward c.args.edges.now c.args.table.now c.loop-step.table
    c.lower.new.table c.loop-step.last c.loop-step.step c.in-Some.slot c.loop-step.invariant c.in-Some.ensures.lowered

pub returns-clause-met : goal.returns-clause-met
returns-clause-met c = Gone-met c.args.backward c.args.edges.now c.args.table.now c.loop-step.table c.loop-step.last
    c.loop-step.step c.loop-step.invariant c.loop-step-test.false

pub returns-clause-lowered : goal.returns-clause-lowered
returns-clause-lowered c = Gone-last c.args.backward c.args.edges.now c.args.table.now c.loop-step.table c.loop-step.last
    c.loop-step.step c.requires.few c.requires.bounds c.loop-step.invariant

pub loop-step-preserved : goal.loop-step-preserved
loop-step-preserved c =
    let place : c.if-backward.place ≡ place_at c.args.backward (length c.args.edges.now) c.loop-step.step =
    elim c.if-backward.branch [
      | then-backward w ↦ rw w.if-backward.true w.place-is
      | else-backward w ↦ rw w.if-backward.false w.place-is
    ] in
    elim c.match-lower.branch [
      | in-Some+else-table-slot w ↦ subst (λ (last : Option ℕ).
          Gone c.args.backward c.args.edges.now c.args.table.now c.lower.new.table last (c.loop-step.step + 1)) (sym w.last-is)
          (Gone-lowered c.args.backward c.args.edges.now c.args.table.now c.loop-step.table c.lower.new.table c.loop-step.last
          c.loop-step.step w.in-Some.slot c.loop-step.invariant w.in-Some.ensures.lowered
          (let l = w.in-Some.ensures.lowered in
          let near = l.near in
          let down = number_in-down c.args.edges.now c.lower.new.table w.in-Some.slot l.sound in
          let most = breadth-most c.args.edges.now c.requires.bounds in
          grind (arith, ints, near, down, most, c.requires.limit, w.if-table-slot.false)))
      | in_default w ↦ subst (λ (last : Option ℕ).
          Gone c.args.backward c.args.edges.now c.args.table.now c.lower.new.table last (c.loop-step.step + 1)) (sym w.last-is)
          (Gone-kept c.args.backward c.args.edges.now c.args.table.now c.loop-step.table c.lower.new.table c.loop-step.last
          c.loop-step.step c.loop-step.invariant (w.in_default.ensures.kept refl)
          (subst (λ (k : ℕ). IsMet c.loop-step.table (slice_index_or c.args.edges.now k (edge 0 0 (pos 0)))) place
          (w.in_default.ensures.met refl)))
    ]
