-- The first of faults.
use Rattle.std.proofs.Common.{◌≡◌, ℕ, ◌<◌, false, Option, Some, None, List, [], ◌∷◌, ◌++◌, map, refl, sym, ◌∙◌, ap, arith, suc, ◌+◌, length, get_or, drop, drop-cons, add-one}
use Rattle.std.specs.List.{flat_map}
use Rattle.std.specs.Prelude.{is_none}
use Rattle.std.proofs.lemmas.Bool.Decides.{nat_tests}
use Rattle.pv_ast.specs.declared.fault.ShapeFault.{ShapeFault}
use Rattle.pv_ast.specs.Rules.Items.{is_empty}
use Rattle.pv_ast.specs.Rules.Shapes.{earlier, first_of}

pub earlier_none : (a : Option ShapeFault) → earlier a None ≡ a
earlier_none None = refl
earlier_none (Some a) = refl

pub earlier_assoc : (a b c : Option ShapeFault) → earlier (earlier a b) c ≡ earlier a (earlier b c)
earlier_assoc None b c = refl
earlier_assoc (Some a) None c = refl
earlier_assoc (Some a) (Some b) None = grind (arith, earlier_none)
earlier_assoc (Some a) (Some b) (Some c) = grind (arith, nat_tests)

pub first_append : (xs ys : List ShapeFault) → first_of (xs ++ ys) ≡ earlier (first_of xs) (first_of ys)
first_append [] ys = refl
first_append (x ∷ xs) ys = ap (earlier (Some x)) (first_append xs ys) ∙ sym (earlier_assoc (Some x) (first_of xs) (first_of ys))

pub first_three : (xs ys zs : List ShapeFault)
    → first_of (xs ++ ys ++ zs) ≡ earlier (earlier (first_of xs) (first_of ys)) (first_of zs)
first_three xs ys zs = first_append (xs ++ ys) zs ∙ ap (λ a. earlier a (first_of zs)) (first_append xs ys)

-- the first of what is left, behind one more element
pub first_more : {X : Type 0} (f : X → List ShapeFault) (a : Option ShapeFault) (x : X) (xs : List X)
    → earlier (earlier a (first_of (f x))) (first_of (flat_map f xs)) ≡ earlier a (first_of (flat_map f (x ∷ xs)))
first_more f a x xs =
    earlier_assoc a (first_of (f x)) (first_of (flat_map f xs)) ∙ ap (earlier a) (sym (first_append (f x) (flat_map f xs)))

-- a loop that keeps the first fault, after one more step
pub first_step : {X : Type 0} (f : X → List ShapeFault) (xs : List X) (i : ℕ) (x : X) (a r : Option ShapeFault) → i < length xs
    → x ≡ get_or xs i x → r ≡ earlier a (first_of (f x))
    → earlier a (first_of (flat_map f (drop i xs))) ≡ first_of (flat_map f xs)
    → earlier r (first_of (flat_map f (drop (i + 1) xs))) ≡ first_of (flat_map f xs)
first_step f xs i x a r l there step h =
    let cut : drop i xs ≡ x ∷ drop (i + 1) xs = rw add-one (drop-cons xs i x l ∙ ap (λ y. y ∷ drop (suc i) xs) (sym there)) in
    ap (λ b. earlier b (first_of (flat_map f (drop (i + 1) xs)))) step
    ∙ (first_more f a x (drop (i + 1) xs) ∙ (ap (λ ys. earlier a (first_of (flat_map f ys))) (sym cut) ∙ h))

some_earlier : (f : ShapeFault) (b : Option ShapeFault) → is_none (earlier (Some f) b) ≡ false
some_earlier f None = refl
some_earlier f (Some g) = grind arith

pub flat_map_map : {X Y : Type 0} (g : X → Y) (f : Y → List ShapeFault) (xs : List X)
    → flat_map f (map g xs) ≡ flat_map (λ x. f (g x)) xs
flat_map_map g f [] = refl
flat_map_map g f (x ∷ xs) = ap (λ ys. f (g x) ++ ys) (flat_map_map g f xs)

pub none_of_first : (fs : List ShapeFault) → is_none (first_of fs) ≡ is_empty fs
none_of_first [] = refl
none_of_first (f ∷ fs) = some_earlier f (first_of fs)
