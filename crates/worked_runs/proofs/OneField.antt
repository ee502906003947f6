-- What a list of one field says of a name.
use Rattle.std.proofs.Common.{◌≡◌, ℕ, Bool, true, false, Some, None, refl, ap}
use Rattle.std.specs.Prelude.{nat_eq, if◌then◌else◌, IsSome}
use Rattle.std.proofs.lemmas.Bool.{eqb-true}
use Rattle.pv_base.specs.declared.Name.{Name}

-- a test that lets something through is true
pub passed : {A : Type 0} (b : Bool) (x y : A) → (if b then Some x else None) ≡ Some y → (b ≡ true) × (x ≡ y)
passed true x y h = (refl, cc)
passed false x y h = absurd (cc)

pub passed_some : {A : Type 0} (b : Bool) (x : A) → IsSome (if b then Some x else None) → b ≡ true
passed_some true x h = refl
passed_some false x h = absurd (cc)

pub name_eq : (a b : Name) → nat_eq a.0 b.0 ≡ true → a ≡ b
name_eq a b h = let e : a.0 ≡ b.0 = eqb-true a.0 b.0 h in ap (λ (n : ℕ). let x : Name = record { 0 = n } in x) e
