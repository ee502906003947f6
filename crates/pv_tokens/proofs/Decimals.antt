-- More digits write no smaller number.
use Rattle.std.proofs.Common.{◌≡◌, ℕ, ◌+◌, ◌-◌, ◌*◌, ◌<◌, ◌≤◌, List, [], ◌∷◌, length, take, drop, get_or, sym, ap, ◌∙◌, arith, fold}
use Rattle.std.proofs.lemmas.List.{take-append-drop}
use Rattle.std.proofs.lemmas.List.Sums.{fold-append, fold_more}
use Rattle.pv_tokens.specs.Bytes.{decimal, most}

digits_grow : (n m : ℕ) (bs : List ℕ) → n ≤ m → n ≤ fold (λ n b. 10 * n + (b - 48)) m bs
digits_grow n m [] le = le
digits_grow n m (b ∷ bs) le = digits_grow n (10 * m + (b - 48)) bs (omega arith)

pub decimal-take : (bs : List ℕ) (k : ℕ) → decimal (take k bs) ≤ decimal bs
decimal-take bs k =
    let whole : decimal bs ≡ fold (λ n b. 10 * n + (b - 48)) (decimal (take k bs)) (drop k bs) =
    ap (λ (xs : List ℕ). decimal xs) (sym (take-append-drop k bs))
    ∙ fold-append (λ (n : ℕ) (b : ℕ). 10 * n + (b - 48)) 0 (take k bs) (drop k bs) in
    rw whole (digits_grow (decimal (take k bs)) (decimal (take k bs)) (drop k bs) (omega arith))

pub decimal-more : (bs : List ℕ) (k d : ℕ) → k < length bs
    → decimal (take (k + 1) bs) ≡ 10 * decimal (take k bs) + (get_or bs k d - 48)
decimal-more bs k d lt = fold_more (λ (n : ℕ) (b : ℕ). 10 * n + (b - 48)) 0 bs k d lt

pub too_great : (bs : List ℕ) (k n b : ℕ) → k < length bs → n ≡ decimal (take k bs) → b ≡ get_or bs k b → most < 10 * n + (b - 48)
    → most < decimal bs
too_great bs k n b lt is at over =
    let more = decimal-more bs k b lt in
    let least = decimal-take bs (k + 1) in
    let same : get_or bs k b - 48 ≡ b - 48 = ap (λ (x : ℕ). x - 48) (sym at) in
    omega arith
