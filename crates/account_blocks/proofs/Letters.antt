-- Letters of the mail, by their labels.
use Rattle.std.proofs.Common.{◌≡◌, ◌+◌, ◌≤◌, Bool, true, false, if◌then◌else◌, Some, [], ◌∷◌, refl, ap, sym, subst, ◌∙◌, arith}
use Rattle.std.proofs.lemmas.Option.{same_Some, none-some}
use Rattle.pv_base.specs.declared.Name.{Name}
use Rattle.pv_base.specs.Names.{same_name}
use Rattle.pv_picks.specs.Judge.States.{Resource}
use Rattle.pv_picks.proofs.Sames.{names_same}
use Rattle.account_formulas.specs.Owning.{Amounts}
use Rattle.account.specs.Owners.{Mail, carried_by, letter, without_letter}

pub fewer : (label : Name) (xs : Mail) (q : Resource) → carried_by (without_letter label xs) q ≤ carried_by xs q
fewer label [] q = omega arith
fewer label (x ∷ xs) q = go (same_name label x.0) (fewer label xs q)
  where
    go : (b : Bool) → carried_by (without_letter label xs) q ≤ carried_by xs q
        → carried_by (if b then without_letter label xs else x ∷ without_letter label xs) q ≤ x.1 q + carried_by xs q
    go true l = omega (arith, l)
    go false l = omega (arith, l)

-- a letter that is taken out was among them
pub taken_out : (label : Name) (xs : Mail) (R : Amounts) → letter label xs ≡ Some R → (q : Resource)
    → carried_by (without_letter label xs) q + R q ≤ carried_by xs q
taken_out label [] R is q = absurd (none-some R is)
taken_out label (x ∷ xs) R is q = go (same_name label x.0) is (λ e. taken_out label xs R e q) (fewer label xs q)
  where
    go : (b : Bool) → (if b then Some x.1 else letter label xs) ≡ Some R
        → (letter label xs ≡ Some R → carried_by (without_letter label xs) q + R q ≤ carried_by xs q)
        → carried_by (without_letter label xs) q ≤ carried_by xs q
        → carried_by (if b then without_letter label xs else x ∷ without_letter label xs) q + R q ≤ x.1 q + carried_by xs q
    go true e more l = let s = ap (λ f. f q) (same_Some x.1 R e) in omega (arith, s, l)
    go false e more l = let m = more e in omega (arith, m)

-- the others stay
pub others_stay : (label other : Name) → same_name other label ≡ false → (xs : Mail)
    → letter other (without_letter label xs) ≡ letter other xs
others_stay label other apart [] = refl
others_stay label other apart (x ∷ xs) = go (same_name label x.0) refl (others_stay label other apart xs)
  where
    go : (b : Bool) → same_name label x.0 ≡ b → letter other (without_letter label xs) ≡ letter other xs
        → letter other (if b then without_letter label xs else x ∷ without_letter label xs)
        ≡ (if same_name other x.0 then Some x.1 else letter other xs)
    go false e more = ap (λ z. if same_name other x.0 then Some x.1 else z) more
    go true e more =
        let same = names_same label x.0 e in
        more ∙ sym (ap (λ b. if b then Some x.1 else letter other xs) (subst (λ z. same_name other z ≡ false) same apart))
