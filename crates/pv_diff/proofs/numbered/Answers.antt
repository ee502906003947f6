use Rattle.std.proofs.Common.{arith, ap, sym, subst, ◌≡◌, ◌<◌, ◌∙◌, ℕ, List, length}
use Rattle.std.specs.Prelude.{All}
use Rattle.pv_linear.specs.declared.Literal.{Literal}
use Rattle.pv_linear.specs.Literal.{Meets, bound_of_all}
use Rattle.pv_linear.specs.Values.{values_of}
use Rattle.pv_diff.specs.Answer.{IsInDifference, reach}
use Rattle.pv_diff.specs.Parts.{AllAtMost, differences_in}
use Rattle.pv_diff.specs.Conflict.{IsNegativeCycle}
use Rattle.pv_diff.specs.Lowest.{IsLowest, AreLowest}
use Rattle.pv_diff.proofs.Assigned.{Meets-numbered, near_numbered, signed_numbered}
use Rattle.pv_diff.proofs.Parts.{all_differences, few_differences, differences_bound, differences_reach, places_in, Walk-from, Walk-within, IsInDifference-from}
use Rattle.pv_diff.proofs.numbered.Goals as goal

pub settle_differences-requires-clause-few : goal.settle_differences-requires-clause-few
settle_differences-requires-clause-few c =
    let e = ap length (c.deref.ensures.value ∙ c.in_ok-part.ensures.differences) in
    let few = few_differences c.args.literals.now in
    let most = c.requires.few in
    omega (arith, e, few, most)

pub settle_differences-requires-clause-bounds : goal.settle_differences-requires-clause-bounds
settle_differences-requires-clause-bounds c =
    let e = ap bound_of_all (c.deref.ensures.value ∙ c.in_ok-part.ensures.differences) in
    let less = differences_bound c.args.literals.now in
    let most = c.requires.bounds in
    omega (arith, e, less, most)

pub settle_differences-requires-clause-differences : goal.settle_differences-requires-clause-differences
settle_differences-requires-clause-differences c =
    subst AllAtMost (sym (c.deref.ensures.value ∙ c.in_ok-part.ensures.differences)) (all_differences c.args.literals.now)

pub returns-in-Numbers-clause-answer : goal.returns-in-Numbers-clause-answer
returns-in-Numbers-clause-answer c =
    let ls = c.args.literals.now in
    let low = c.in-Numbers.numbers.items in
    let lowest : AreLowest c.deref.result.now low = subst (IsLowest c.deref.result.now) c.in-Numbers.is c.in_ok-numbers.ensures in
    let meets : Meets (values_of low) (differences_in ls) =
    subst (Meets (values_of low)) (c.deref.ensures.value ∙ c.in_ok-part.ensures.differences) lowest.meets in
    Meets-numbered ls c.args.references.now c.args.classes.now low c.in_ok-all-in-Numbers.all c.requires.rises c.requires.zero
    c.requires.only c.requires.sorts c.requires.classes c.in_ok-all-in-Numbers.ensures c.requires.named meets

pub returns-in-Numbers-clause-near : goal.returns-in-Numbers-clause-near
returns-in-Numbers-clause-near c =
    let ls = c.args.literals.now in
    let low = c.in-Numbers.numbers.items in
    let lowest : AreLowest c.deref.result.now low = subst (IsLowest c.deref.result.now) c.in-Numbers.is c.in_ok-numbers.ensures in
    let e = ap reach (c.deref.ensures.value ∙ c.in_ok-part.ensures.differences) in
    let less = differences_reach ls in
    let slots = c.requires.slots in
    near_numbered ls c.args.references.now c.args.classes.now low c.in_ok-all-in-Numbers.all c.requires.rises c.requires.zero
    c.requires.only c.requires.sorts c.requires.classes c.in_ok-all-in-Numbers.ensures
    (reach c.deref.result.now) (omega (arith, slots)) (omega (arith, e, less)) lowest.near

pub returns-in-Numbers-clause-signed : goal.returns-in-Numbers-clause-signed
returns-in-Numbers-clause-signed c = λ k below.
    let ls = c.args.literals.now in
    let low = c.in-Numbers.numbers.items in
    let lowest : AreLowest c.deref.result.now low = subst (IsLowest c.deref.result.now) c.in-Numbers.is c.in_ok-numbers.ensures in
    let under = signed_numbered ls c.args.references.now c.args.classes.now low c.in_ok-all-in-Numbers.all c.requires.rises
    c.requires.zero c.requires.only c.requires.sorts c.requires.classes c.in_ok-all-in-Numbers.ensures k below in
    IsInDifference-from ls c.in_ok-part.part.differences.items c.in_ok-part.part.places.items k c.in_ok-part.ensures.from
    (subst (λ (q : List Literal). IsInDifference q k) c.deref.ensures.value (lowest.signed k under))

pub chosen-requires : goal.chosen-requires
chosen-requires c =
    let cycle : IsNegativeCycle c.deref.result.now c.in-Cycle.places =
    subst (IsLowest c.deref.result.now) c.in-Cycle.is c.in_ok-numbers.ensures in
    let same : length c.deref.result.now ≡ length c.deref-in-Cycle.result.now =
    (let a = ap length c.deref.ensures.value in let b = ap length c.deref-in-Cycle.ensures.value in let d =
    c.in_ok-part.ensures.size in omega (arith, a, b, d)) in
    subst (λ (n : ℕ). All (λ k. k < n) c.in-Cycle.places) same
    (Walk-within c.deref.result.now cycle.0 cycle.0 cycle.1 c.in-Cycle.places cycle.2)

pub returns-clause-answer : goal.returns-clause-answer
returns-clause-answer c =
    let ls = c.args.literals.now in
    let part = c.in_ok-part.part.differences.items in
    let places = c.in_ok-part.part.places.items in
    let settled = subst (IsLowest c.deref.result.now) c.in-Cycle.is c.in_ok-numbers.ensures in
    let cycle : IsNegativeCycle part c.in-Cycle.places =
    subst (λ (q : List Literal). IsNegativeCycle q c.in-Cycle.places) c.deref.ensures.value settled in
    let whole : IsNegativeCycle ls (places_in places c.in-Cycle.places) = (
      cycle.0,
      cycle.1,
      Walk-from ls part places cycle.0 cycle.0 cycle.1 c.in-Cycle.places c.in_ok-part.ensures.from cycle.2,
      cycle.3,
    ) in
    subst (IsNegativeCycle ls) (sym (c.in_ok-places-in-Cycle.ensures
    ∙ ap (λ (q : List ℕ). places_in q c.in-Cycle.places) c.deref-in-Cycle.ensures.value)) whole
