-- Parts without a fault, and lists of faults without any.
use Rattle.std.proofs.Common.{◌≡◌, Bool, true, false, List, [], ◌∷◌, ◌++◌, refl, inl, inr}
use Rattle.pv_base.specs.declared.Span.{Span}
use Rattle.pv_ast.specs.declared.fault.Fault.{Fault}
use Rattle.pv_ast.specs.declared.fault.Rule.{Rule}
use Rattle.pv_ast.specs.Rules.Faults.{Faults, none, broken, both, broken_if, broken_unless, Among}

-- there is no fault
abbrev pub Clean : Faults → Type 0
Clean none = Unit {0}
Clean (broken r s) = ⊥
Clean (both a b) = Clean a × Clean b

pub clean_from : (faults : Faults) → ((f : Fault) → Among f faults → ⊥) → Clean faults
clean_from none h = tt
clean_from (broken r s) h = h (record { rule = r; span = s }) refl
clean_from (both a b) h = (clean_from a (λ f p. h f (inl p)), clean_from b (λ f p. h f (inr p)))

pub unless_holds : (t : Bool) (r : Rule) (s : Span) → Clean (broken_unless t r s) → t ≡ true
unless_holds true r s h = refl
unless_holds false r s h = absurd h

pub if_fails : (t : Bool) (r : Rule) (s : Span) → Clean (broken_if t r s) → t ≡ false
if_fails true r s h = absurd h
if_fails false r s h = refl

-- where two lists together hold nothing, neither does

pub no_first : {A : Type 0} (xs ys : List A) → xs ++ ys ≡ [] → xs ≡ []
no_first [] ys h = refl
no_first (x ∷ xs) ys h = absurd cc

pub no_second : {A : Type 0} (xs ys : List A) → xs ++ ys ≡ [] → ys ≡ []
no_second [] ys h = h
no_second (x ∷ xs) ys h = absurd cc
