-- A list that is read from its end to its front: what came last is the first of its name.
use Rattle.std.proofs.Common.{◌≡◌, ℕ, ◌+◌, ◌-◌, ◌<◌, ◌≤◌, Bool, true, false, cond, List, ◌∷◌, length, drop, get_or, Option, Some, sym, ◌∙◌, ap, nat_eq, slice_get, arith}
use Rattle.std.proofs.lemmas.Bool.Decides.{nat_tests}
use Rattle.std.proofs.lemmas.List.{drop_more}
use Rattle.std.proofs.lemmas.Option.{slice_get-get_or}
use Rattle.std.specs.Map.{lookup}
use Rattle.pv_ast.specs.declared.Class.{Class}
use Rattle.pv_ast.specs.Rules.Lookup.{class_named}
use Rattle.pv_types.specs.Index.{at_place, IsPlaced}

drop_at : {A : Type 0} (xs : List A) (at : ℕ) (d : A) → 0 < at → at ≤ length xs
    → drop (at - 1) xs ≡ get_or xs (at - 1) d ∷ drop at xs
drop_at xs at d low high =
    let next : at - 1 + 1 ≡ at = omega arith in
    drop_more xs (at - 1) d (omega arith) ∙ ap (λ i. get_or xs (at - 1) d ∷ drop i xs) next

-- the item in front of those that were read
pub drop_before : {A : Type 0} (xs : List A) (at : ℕ) (x : A) → x ≡ get_or xs (at - 1) x → 0 < at → at ≤ length xs
    → drop (at - 1) xs ≡ x ∷ drop at xs
drop_before xs at x e low high = drop_at xs at x low high ∙ ap (λ y. y ∷ drop at xs) (sym e)

same_either_way : (x y : ℕ) → nat_eq x y ≡ nat_eq y x
same_either_way x y = grind (arith, nat_tests)

at_first : (all : List Class) (t : Bool) (i : ℕ) (c : Class) (old : Option ℕ) (rest : Option Class) → slice_get all i ≡ Some c
    → at_place all old ≡ rest
    → at_place all (cond t (Some i) old) ≡ cond t (Some c) rest
at_first all true i c old rest here there = here
at_first all false i c old rest here there = there

-- the places after that of a class in front went in
pub placed_before : (all : List Class) (old new : List (ℕ × ℕ)) (at : ℕ) (d : Class) → 0 < at → at ≤ length all
    → ((q : ℕ)
    → lookup (nat_eq q) new ≡ cond (nat_eq (get_or all (at - 1) d).name.name.0 q) (Some (at - 1)) (lookup (nat_eq q) old))
    → IsPlaced old all (drop at all) → IsPlaced new all (drop (at - 1) all)
placed_before all old new at d low high updates placed = record {
  first = λ name.
      let i = at - 1 in
      let c = get_or all i d in
      let key = c.name.name.0 in
      let old_at = lookup (nat_eq name.0) old in
      ap (at_place all) (updates name.0)
      ∙ (ap (λ b. at_place all (cond b (Some i) old_at)) (same_either_way key name.0)
      ∙ (at_first all (nat_eq name.0 key) i c old_at (class_named (drop at all) name) (slice_get-get_or all i d (omega arith))
      (placed.first name)
      ∙ ap (λ cs. class_named cs name) (sym (drop_at all at d low high))));
}
