-- The end of a block comment, found byte by byte.
use Rattle.std.proofs.Common.{◌≡◌, ℕ, suc, ◌+◌, ◌<◌, ◌≤◌, true, false, cond, List, ◌∷◌, length, drop, Option, Some, None, refl, sym, ap, ◌∙◌, arith}
use Rattle.std.specs.Prelude.{codes}
use Rattle.std.specs.Option.{option_map}
use Rattle.std.proofs.lemmas.List.{drop_more, at_drop_all}
use Rattle.pv_tokens.specs.Pieces.{starts}
use Rattle.pv_tokens.specs.Reading.{comment_len}

later : (o : Option ℕ) (i : ℕ) → option_map (λ n. n + i) (option_map suc o) ≡ option_map (λ n. n + (i + 1)) o
later None i = refl
later (Some n) i = ap (λ (k : ℕ). Some k) (omega arith)

skip : (b : ℕ) (bs : List ℕ) (i : ℕ) → starts (b ∷ bs) (codes "*/") ≡ false
    → option_map (λ n. n + i) (comment_len (b ∷ bs)) ≡ option_map (λ n. n + (i + 1)) (comment_len bs)
skip b bs i h =
    ap (λ t. option_map (λ (n : ℕ). n + i) (cond t (Some 2) (option_map suc (comment_len bs)))) h ∙ later (comment_len bs) i

pub comment_goes_on : (bytes : List ℕ) (i : ℕ) → i < length bytes → starts (drop i bytes) (codes "*/") ≡ false
    → option_map (λ n. n + i) (comment_len (drop i bytes)) ≡ option_map (λ n. n + (i + 1)) (comment_len (drop (i + 1) bytes))
comment_goes_on bytes i lt h =
    let e = drop_more bytes i 0 lt in
    ap (λ bs. option_map (λ (n : ℕ). n + i) (comment_len bs)) e
    ∙ skip _ (drop (i + 1) bytes) i (ap (λ bs. starts bs (codes "*/")) (sym e) ∙ h)

stop : (b : ℕ) (bs : List ℕ) (i : ℕ) → starts (b ∷ bs) (codes "*/") ≡ true
    → option_map (λ n. n + i) (comment_len (b ∷ bs)) ≡ Some (i + 2)
stop b bs i h =
    ap (λ t. option_map (λ (n : ℕ). n + i) (cond t (Some 2) (option_map suc (comment_len bs)))) h
    ∙ ap (λ (k : ℕ). Some k) (omega arith)

pub comment_ends : (bytes : List ℕ) (i : ℕ) → i < length bytes → starts (drop i bytes) (codes "*/") ≡ true
    → option_map (λ n. n + i) (comment_len (drop i bytes)) ≡ Some (i + 2)
comment_ends bytes i lt h =
    let e = drop_more bytes i 0 lt in
    ap (λ bs. option_map (λ (n : ℕ). n + i) (comment_len bs)) e
    ∙ stop _ (drop (i + 1) bytes) i (ap (λ bs. starts bs (codes "*/")) (sym e) ∙ h)

pub comment_open : (bytes : List ℕ) (i : ℕ) → length bytes ≤ i → option_map (λ n. n + i) (comment_len (drop i bytes)) ≡ None
comment_open bytes i le = at_drop_all (λ bs. option_map (λ (n : ℕ). n + i) (comment_len bs)) bytes i le
