-- Where a variable is used.
use Rattle.std.proofs.Common.{◌≡◌, Bool, true, false, not, Option, Some, None, refl}
use Rattle.std.specs.Prelude.{◌||◌, ℤ, if◌then◌else◌}
use Rattle.pv_ast.specs.Rules.Items.{Use, unused, shifted, elsewhere, is_used, both_uses, Facts, use_of_index, use_at, use_if, shift_of, facts_of_variable}

used_either : (same : Bool) (s : ℤ) → is_used (if same then shifted s else elsewhere) ≡ true
used_either true s = refl
used_either false s = refl

pub used_both : (a b : Use) → is_used (both_uses a b) ≡ (is_used a || is_used b)
used_both unused b = refl
used_both (shifted s) unused = refl
used_both (shifted s) (shifted t) = used_either _ s
used_both (shifted s) elsewhere = refl
used_both elsewhere b = refl

used_at : (s : Option ℤ) → is_used (use_at s) ≡ true
used_at None = refl
used_at (Some s) = refl

used_element : (a i : Use) (s : Option ℤ)
    → is_used (if not (is_used i) then a else (if not (is_used a) then use_at s else elsewhere)) ≡ (is_used a || is_used i)
used_element unused unused s = refl
used_element (shifted t) unused s = refl
used_element elsewhere unused s = refl
used_element unused (shifted u) s = used_at s
used_element (shifted t) (shifted u) s = refl
used_element elsewhere (shifted u) s = refl
used_element unused elsewhere s = used_at s
used_element (shifted t) elsewhere s = refl
used_element elsewhere elsewhere s = refl

pub used_index : (a i : Facts) → is_used (use_of_index a i) ≡ (is_used a.uses || is_used i.uses)
used_index a i = used_element a.uses i.uses (shift_of i.form)

pub used_if : (b : Bool) → is_used (use_if b) ≡ b
used_if true = refl
used_if false = refl

pub used_same : (b : Bool) → is_used (facts_of_variable b).uses ≡ b
used_same true = refl
used_same false = refl
