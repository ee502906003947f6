use Rattle.std.proofs.Common.{arith, inl, inr}
use Rattle.small_paths.proofs.PartsLemmas.{Stands-cases, Waits-empty, Waits-dropped, Waits-turned, last_bounded, bound_popped, bound_pushed, open_sides_last}
use Rattle.small_paths.proofs.path.turn_over_last.Goals as goal

pub loop-last-init : goal.loop-last-init
loop-last-init c = record { waits = λ v h. Stands-cases v _ h; bound = c.requires; fewer = omega arith }

pub turned_over-requires : goal.turned_over-requires
turned_over-requires c = last_bounded c.pop.new.self.items c.in-Some.last _
    (rw c.in-Some.ensures.items at c.loop-last.invariant.bound)

pub returns-in-Ok-clause-more : goal.returns-in-Ok-clause-more
returns-in-Ok-clause-more c = λ _ v h. elim (c.loop-last.invariant.waits v h) [
  | inl a ↦ inl a
  | inr w ↦ inr
      (rw c.in-Ok.ensures.items (Waits-turned v c.pop.new.self.items c.in-Some.last c.in-Some-turned_over.other
      (rw c.in-Some.ensures.items at w) (c.in-Some-turned_over.ensures.some v)))
]

pub returns-in-Ok-clause-bound : goal.returns-in-Ok-clause-bound
returns-in-Ok-clause-bound c =
    let b = rw c.in-Some.ensures.items at c.loop-last.invariant.bound in
    let l = last_bounded c.pop.new.self.items c.in-Some.last _ b in
    let o = c.in-Some-turned_over.ensures.bound in
    rw c.in-Ok.ensures.items (bound_pushed c.pop.new.self.items c.in-Some-turned_over.other _
    (bound_popped c.pop.new.self.items c.in-Some.last _ b) (omega (arith, l, o)))

pub returns-in-Ok-clause-fewer : goal.returns-in-Ok-clause-fewer
returns-in-Ok-clause-fewer c = λ _.
    let f = rw c.in-Some.ensures.items at c.loop-last.invariant.fewer in
    let l = open_sides_last c.pop.new.self.items c.in-Some.last in
    let n = open_sides_last c.pop.new.self.items c.in-Some-turned_over.other in
    let o = c.in-Some-turned_over.ensures.open in
    rw c.in-Ok.ensures.items (omega (arith, f, l, n, o))

pub loop-last-preserved : goal.loop-last-preserved
loop-last-preserved c =
    let none = c.in_default-turned_over.ensures.none in
    record {
      waits = λ v h. elim (c.loop-last.invariant.waits v h) [
        | inl a ↦ inl a
        | inr w ↦ inr (Waits-dropped v c.pop.new.self.items c.in-Some.last (rw c.in-Some.ensures.items at w) (none v))
      ];
      bound = bound_popped c.pop.new.self.items c.in-Some.last _ (rw c.in-Some.ensures.items at c.loop-last.invariant.bound);
      fewer = let f = rw c.in-Some.ensures.items at c.loop-last.invariant.fewer in let l =
          open_sides_last c.pop.new.self.items c.in-Some.last in omega (arith, f, l);
    }

pub returns-clause-done : goal.returns-clause-done
returns-clause-done c = λ _ v h. elim (c.loop-last.invariant.waits v h) [
  | inl a ↦ a
  | inr w ↦ absurd (Waits-empty v c.loop-last.decisions.items
      (let n = c.in_default.ensures.cases in let k = c.loop-last.decisions.ok.0 in omega (arith, n, k)) w)
]
