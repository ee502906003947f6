-- What the tests for sameness say.
use Rattle.std.proofs.Common.{◌≡◌, ℕ, ℤ, Bool, true, false, ◌&&◌, refl, ap, ◌∙◌, rules}
use Rattle.std.specs.Prelude.{nat_eq}
use Rattle.std.proofs.lemmas.Int.{ints}
use Rattle.pv_base.specs.declared.Name.{Name}
use Rattle.pv_ast.specs.declared.PvType.{PvType}
use Rattle.pv_ast.specs.declared.PvType.TheVariants as type
use Rattle.pv_ast.specs.declared.Token.{Token}
use Rattle.pv_ast.specs.declared.Token.TheVariants as token
use Rattle.pv_values.specs.Heaps.{same_number}
use Rattle.pv_base.specs.Names.{same_name}
use Rattle.pv_ast.specs.Rules.Typing.{same_type}
use Rattle.pv_picks.specs.Judge.States.{Resource, InField, InElement, OfToken, OfLock, same_token, same_resource}

pub front : (a b : Bool) → (a && b) ≡ true → a ≡ true
front true b h = refl
front false b h = cc h

pub back : (a b : Bool) → (a && b) ≡ true → b ≡ true
back true b h = h
back false b h = cc h

pub numbers_same : (a b : ℤ) → same_number a b ≡ true → a ≡ b
numbers_same a b h = search (rules, ints)

pub naturals_same : (a b : ℕ) → nat_eq a b ≡ true → a ≡ b
naturals_same a b h = search (rules)

pub names_same : (a b : Name) → same_name a b ≡ true → a ≡ b
names_same a b h = ap (λ (n : ℕ). record { 0 = n }) (naturals_same a.0 b.0 h)

pub types_same : (a b : PvType) → same_type a b ≡ true → a ≡ b
types_same type.Int type.Int h = refl
types_same type.Truth type.Truth h = refl
types_same (type.Object c) (type.Object d) h = ap type.Object (names_same c d h)
types_same type.IntArray type.IntArray h = refl
types_same type.TruthArray type.TruthArray h = refl
types_same type.Null type.Null h = refl
types_same a b h = absurd (cc h)

tokens_same : (a b : Token) → same_token a b ≡ true → a ≡ b
tokens_same token.Idle token.Idle h = refl
tokens_same token.Running token.Running h = refl
tokens_same token.Committed token.Committed h = refl
tokens_same token.Uncommitted token.Uncommitted h = refl
tokens_same a b h = absurd (cc h)

-- resources that are the same by the test are one
pub resources_same : (x y : Resource) → same_resource x y ≡ true → x ≡ y
resources_same (InField c o f) (InField d p g) h =
    ap (λ k. InField k o f) (names_same c d (front _ _ h))
    ∙ ap (λ k. InField d k f) (naturals_same o p (front _ _ (back (same_name c d) _ h)))
    ∙ ap (λ k. InField d p k) (names_same f g (back (nat_eq o p) _ (back (same_name c d) _ h)))
resources_same (InElement t a i) (InElement u b j) h =
    ap (λ k. InElement k a i) (types_same t u (front _ _ h))
    ∙ ap (λ k. InElement u k i) (naturals_same a b (front _ _ (back (same_type t u) _ h)))
    ∙ ap (λ k. InElement u b k) (numbers_same i j (back (nat_eq a b) _ (back (same_type t u) _ h)))
resources_same (OfToken t c o) (OfToken u d p) h =
    ap (λ k. OfToken k c o) (tokens_same t u (front _ _ h))
    ∙ ap (λ k. OfToken u k o) (names_same c d (front _ _ (back (same_token t u) _ h)))
    ∙ ap (λ k. OfToken u d k) (naturals_same o p (back (same_name c d) _ (back (same_token t u) _ h)))
resources_same (OfLock c o) (OfLock d p) h =
    ap (λ k. OfLock k o) (names_same c d (front _ _ h)) ∙ ap (λ k. OfLock d k) (naturals_same o p (back (same_name c d) _ h))
resources_same x y h = absurd (cc h)
