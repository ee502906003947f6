-- Tokens come in order, lie in the text, and their numbers are not too great.
use Rattle.std.proofs.Common.{ℕ, ◌+◌, ◌<◌, ◌≤◌, List, [], ◌∷◌, ◌++◌, length, take, arith, length-drop}
use Rattle.pv_names.specs.Numbering.{number_of, with_text}
use Rattle.pv_tokens.specs.declared.Lexeme.{Lexeme}
use Rattle.pv_tokens.specs.declared.LexemeKind.{LexemeKind}
use Rattle.pv_tokens.specs.declared.LexemeKind.TheVariants as kind
use Rattle.pv_tokens.specs.declared.pieces.Piece.TheVariants.{Blank, Word, Number, Fixed}
use Rattle.pv_tokens.specs.Bytes.{decimal}
use Rattle.pv_tokens.specs.Progress as p
use Rattle.pv_tokens.specs.Progress.{Progress, progress, left, with_token, Step, Steps, IsTokens}
use Rattle.pv_tokens.specs.Lexemes.{InOrder, IsWithin, AreWithin}
use Rattle.pv_tokens.proofs.PieceSizes.{piece_fits}

later : (low mid high : ℕ) (xs : List Lexeme) → InOrder low xs mid → mid ≤ high → InOrder low xs high
later low mid high [] h le = omega arith
later low mid high (x ∷ xs) h le = (h.0, h.1, later x.span.to mid high xs h.2 le)

one_more : (low mid n : ℕ) (k : LexemeKind) (xs : List Lexeme) → InOrder low xs mid → 0 < n
    → InOrder low (xs ++ record { kind = k; span = record { from = mid; to = mid + n } } ∷ []) (mid + n)
one_more low mid n k [] h lt = (h, omega arith, omega arith)
one_more low mid n k (x ∷ xs) h lt = (h.0, h.1, one_more x.span.to mid n k xs h.2 lt)

no_more_than : (low high : ℕ) (xs : List Lexeme) → InOrder low xs high → low + length xs ≤ high
no_more_than low high [] h = omega arith
no_more_than low high (x ∷ xs) h = let k = no_more_than x.span.to high xs h.2 in let a = h.0 in let b = h.1 in omega arith

within_push : (xs : List Lexeme) (x : Lexeme) → AreWithin xs → IsWithin x.kind → AreWithin (xs ++ x ∷ [])
within_push [] x h k = (k, tt)
within_push (y ∷ xs) x h k = (h.0, within_push xs x h.1 k)

-- what holds of each progress
pub record IsSound (text : List ℕ) (s : Progress) : Type 0 where
  pub order : InOrder 0 s.lexemes s.at
  pub inside : s.at ≤ length text
  pub within : AreWithin s.lexemes

token_sound : (text : List ℕ) (s : Progress) (k : LexemeKind) (n : ℕ) (names : List (List ℕ)) → IsSound text s
    → (0 < n) × (n ≤ length (left text s)) → IsWithin k
    → IsSound text (with_token s k n names)
token_sound text s k n names h f w =
    let some = f.0 in
    let fits = f.1 in
    let len = length-drop s.at text in
    let inside = h.inside in
    record {
      order = one_more 0 s.at n k s.lexemes h.order f.0;
      inside = omega arith;
      within = within_push s.lexemes _ h.within w;
    }

step_sound : (text : List ℕ) (s t : Progress) → Step text s t → IsSound text s → IsSound text t
step_sound text _ _ (p.blank {s} {n} b) h =
    let f = piece_fits (left text s) (Blank n) b in
    let fits = f.1 in
    let len = length-drop s.at text in
    let inside = h.inside in
    record { order = later 0 s.at (s.at + n) s.lexemes h.order (omega arith); inside = omega arith; within = h.within }
step_sound text _ _ (p.fixed {s} {k} {n} b) h =
    token_sound text s (kind.Fixed k) n s.names h (piece_fits (left text s) (Fixed k n) b) tt
step_sound text _ _ (p.number {s} {n} b le) h =
    token_sound text s (kind.Number (decimal (take n (left text s)))) n s.names h (piece_fits (left text s) (Number n) b) le
step_sound text _ _ (p.name {s} {n} b free) h =
    token_sound text s (kind.Named (record { 0 = number_of s.names (take n (left text s)) })) n
    (with_text s.names (take n (left text s))) h (piece_fits (left text s) (Word n) b) tt

steps_sound : (text : List ℕ) (s t : Progress) → Steps text s t → IsSound text s → IsSound text t
steps_sound text s _ p.here h = h
steps_sound text s t (p.next {t = u} k l) h = steps_sound text u t l (step_sound text s u k h)

tokens_sound : (text : List ℕ) (names : List (List ℕ)) (xs : List Lexeme) (after : List (List ℕ)) → IsTokens text names xs after
    → IsSound text (progress (length text) after xs)
tokens_sound text names xs after h = steps_sound text _ _ h (record { order = omega arith; inside = omega arith; within = tt })

pub tokens_in_order : (text : List ℕ) (names : List (List ℕ)) (xs : List Lexeme) (after : List (List ℕ))
    → IsTokens text names xs after → InOrder 0 xs (length text)
tokens_in_order text names xs after h = (tokens_sound text names xs after h).order

pub tokens_within : (text : List ℕ) (names : List (List ℕ)) (xs : List Lexeme) (after : List (List ℕ))
    → IsTokens text names xs after → AreWithin xs
tokens_within text names xs after h = (tokens_sound text names xs after h).within

pub tokens_few : (text : List ℕ) (names : List (List ℕ)) (xs : List Lexeme) (after : List (List ℕ)) → IsTokens text names xs after
    → length xs ≤ length text
tokens_few text names xs after h = let k = no_more_than 0 (length text) xs (tokens_in_order text names xs after h) in omega arith
