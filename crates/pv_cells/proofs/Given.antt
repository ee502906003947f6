-- Permissions that a run gives up.
use Rattle.std.proofs.Common.{◌≡◌, ℕ, ℤ, subst, ◌-◌, Bool, true, false, if◌then◌else◌, Option, sym, ap, ◌∙◌}
use Rattle.std.specs.Prelude.{nat_le}
use Rattle.std.specs.HashMap.{HashMap}
use Rattle.std.proofs.Math.Path.{fun_ext}
use Rattle.pv_ast.specs.declared.PvType.{PvType}
use Rattle.pv_picks.specs.Formulas.Values.{width}
use Rattle.pv_picks.specs.Judge.Permissions.{at_all}
use Rattle.pv_picks.specs.Judge.States as states
use Rattle.pv_picks.specs.Judge.States.{at_resource, holding, amount_held, cell_held, with_amount, with_holding, InElement, is_among, without_range}
use Rattle.pv_cells.specs.declared.key.Resource.{Resource}
use Rattle.pv_cells.specs.declared.store.Holding.{Holding}
use Rattle.pv_cells.specs.Moves.{Gives, GivesRange, standing}
use Rattle.pv_cells.specs.Prepared.{left}
use Rattle.pv_cells.specs.Stores.{held_of}
use Rattle.pv_cells.proofs.Gains.{standing_put}

pub short : {S : Type 0} (r : states.Resource) (amount : ℕ) (held : HashMap Resource Holding S)
    → nat_le amount (amount_held (held_of held r)) ≡ false → Gives r amount held false held
unfolding Gives
short r amount held e given l s stop next =
    ap (λ b. (if b then next (with_amount (standing s held l) r (amount_held (held_of held r) - amount)) else stop) (left given
    l)) e

pub given_up : {S : Type 0} (r : states.Resource) (amount there : ℕ) (c : states.Cell) (old new : HashMap Resource Holding S)
    → nat_le amount (amount_held (held_of old r)) ≡ true → there ≡ amount_held (held_of old r) → c ≡ cell_held (held_of old r)
    → ((q : states.Resource) → held_of new q ≡ at_resource r (holding (there - amount) c) (held_of old) q)
    → Gives r amount old true new
unfolding Gives
given_up r amount there c old new e is cell put given l s stop next =
    ap (λ b. (if b then next (with_amount (standing s old l) r (amount_held (held_of old r) - amount)) else stop) (left given
    l)) e
    ∙ ap (λ n. next (with_holding (standing s old l) r (holding (n - amount) (cell_held (held_of old r)))) (left given l)) (sym
    is)
    ∙ ap (λ k. next (with_holding (standing s old l) r (holding (there - amount) k)) (left given l)) (sym cell)
    ∙ ap (λ t. next t (left given l)) (sym (standing_put s old new l r (holding (there - amount) c) put))

-- Ranges

pub short_range : {S : Type 0} (t : PvType) (a : ℕ) (low high first last : ℤ) (amount : ℕ) (held : HashMap Resource Holding S)
    → first ≡ low → last ≡ high
    → at_all (λ i. nat_le amount (amount_held (held_of held (InElement t a i)))) first (width first last) ≡ false
    → GivesRange t a low high amount held false held
unfolding GivesRange
short_range t a low high first last amount held e f is given l s ends stop next =
    let test : ℤ → Bool = λ i. nat_le amount (amount_held (held_of held (InElement t a i))) in
    let P : ℤ → Type 0 = λ z. at_all test z (width z high) ≡ false in
    let Q : ℤ → Type 0 = λ z. at_all test first (width first z) ≡ false in
    ap (λ b. (if b then next (without_range (standing s held l) t a low high amount) else stop) (left given l))
    (subst P e (subst Q f is))

pub given_range : {S : Type 0} (t : PvType) (a : ℕ) (low high first last : ℤ) (amount : ℕ)
    (old new : HashMap Resource Holding S)
    → first ≡ low → last ≡ high
    → at_all (λ i. nat_le amount (amount_held (held_of old (InElement t a i)))) first (width first last) ≡ true
    → ((r : states.Resource) → held_of new r ≡ (if is_among t a first last r
    then holding (amount_held (held_of old r) - amount) (cell_held (held_of old r)) else held_of old r))
    → GivesRange t a low high amount old true new
unfolding GivesRange
given_range t a low high first last amount old new e f is put given l s ends stop next =
    let test : ℤ → Bool = λ i. nat_le amount (amount_held (held_of old (InElement t a i))) in
    let P : ℤ → Type 0 = λ z. at_all test z (width z high) ≡ true in
    let Q : ℤ → Type 0 = λ z. at_all test first (width first z) ≡ true in
    let less : states.Resource → Option states.Holding = λ r. holding (amount_held (held_of old r) - amount)
    (cell_held (held_of old r)) in
    let same : held_of new ≡ (λ r. if is_among t a low high r then less r else held_of old r) =
    fun_ext (λ r. put r
    ∙ ap (λ z. if is_among t a z last r then less r else held_of old r) e
    ∙ ap (λ z. if is_among t a low z r then less r else held_of old r) f) in
    ap (λ b. (if b then next (without_range (standing s old l) t a low high amount) else stop) (left given l))
    (subst P e (subst Q f is))
    ∙ ap (λ h. next (record (standing s old l) { held = h }) (left given l)) (sym same)
