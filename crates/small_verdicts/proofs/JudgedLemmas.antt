-- Verdicts on units, one more at a time; and what holds of each item where it holds of a list.
use Rattle.std.proofs.Common.{◌≡◌, ℕ, zero, suc, ◌+◌, ◌<◌, ◌≤◌, List, [], ◌∷◌, ◌++◌, length, take, get_or, sum, map, refl, sym, ap, subst, arith}
use Rattle.std.specs.List.{flat_map, sum_by}
use Rattle.std.proofs.lemmas.Grind.{common_steps}
use Rattle.std.proofs.lemmas.List.{take_more}
use Rattle.std.proofs.lemmas.List.Sums.{sum-map, sum_by-cons}
use Rattle.pv_base.specs.declared.Name.{Name}
use Rattle.pv_ast.specs.declared.Method.{Method}
use Rattle.pv_ast.specs.declared.Member.{Member}
use Rattle.pv_ast.specs.declared.Member.TheVariants as member
use Rattle.small_verdicts.specs.declared.judging.Judged.{Judged}
use Rattle.small_verdicts.specs.Units.{MethodUnit, units_of_member, AreJudged}

pub AreJudged-append : (us vs : List MethodUnit) (js ks : List Judged) → AreJudged us js → AreJudged vs ks
    → AreJudged (us ++ vs) (js ++ ks)
AreJudged-append [] vs [] ks a b = b
AreJudged-append [] vs (j ∷ js) ks a b = absurd a
AreJudged-append (u ∷ us) vs [] ks a b = absurd a
AreJudged-append (u ∷ us) vs (j ∷ js) ks a b = (a.0, AreJudged-append us vs js ks a.1 b)

flat_map_one_more : {X : Type 0} (f : X → List MethodUnit) (xs : List X) (i : ℕ) (x : X) → i < length xs → x ≡ get_or xs i x
    → flat_map f (take (i + 1) xs) ≡ flat_map f (take i xs) ++ f x
flat_map_one_more f xs i x h e = grind (arith, common_steps, take_more xs i x h)

-- verdicts on one more item
pub AreJudged_more : {X : Type 0} (f : X → List MethodUnit) (xs : List X) (i : ℕ) (x : X) (js ks : List Judged)
    → i < length xs → x ≡ get_or xs i x → AreJudged (flat_map f (take i xs)) js → AreJudged (f x) ks
    → AreJudged (flat_map f (take (i + 1) xs)) (js ++ ks)
AreJudged_more f xs i x js ks h e before here =
    subst (λ (us : List MethodUnit). AreJudged us (js ++ ks)) (sym (flat_map_one_more f xs i x h e))
    (AreJudged-append (flat_map f (take i xs)) (f x) js ks before here)

-- a member that is no method is no unit
pub no_units : (class : Name) (x : Member) → ((m : Method) → x ≡ member.Method m → ⊥) → units_of_member class x ≡ []
no_units class (member.Field p) h = refl
no_units class (member.Predicate p) h = refl
no_units class (member.Method m) h = absurd (h m refl)
no_units class (member.Run r) h = refl

sum_by-ge : {X : Type 0} (f : X → ℕ) (xs : List X) (i : ℕ) (d : X) → i < length xs → f (get_or xs i d) ≤ sum_by f xs
sum_by-ge f [] i d h = absurd (omega arith)
sum_by-ge f (x ∷ xs) zero d h = omega (arith, sum_by-cons f x xs)
sum_by-ge f (x ∷ xs) (suc i) d h =
    let below : i < length xs = omega arith in
    omega (arith, sum_by-cons f x xs, sum_by-ge f xs i d below)

-- the number of one item is at most the sum
pub sum-ge : {X : Type 0} (f : X → ℕ) (xs : List X) (i : ℕ) (x : X) → i < length xs → x ≡ get_or xs i x → f x ≤ sum (map f xs)
sum-ge f xs i x h e = omega (arith, sum-map f xs, sum_by-ge f xs i x h, ap f e)
