-- Each text is read up to its end or to a first fault: each piece takes a byte at least, and what stands at a place is one of the
-- pieces, or why it is none.
use Rattle.std.proofs.Common.{◌≡◌, ℕ, zero, suc, ◌+◌, ◌-◌, ◌<◌, ◌≤◌, List, [], length, take, drop, Option, Some, None, refl, subst, inl, inr, ◌⊎◌, arith}
use Rattle.std.proofs.lemmas.Bool.{cases_lt}
use Rattle.pv_names.specs.Numbering.{most_names, place_of}
use Rattle.pv_tokens.specs.declared.Lexeme.{Lexeme}
use Rattle.pv_tokens.specs.declared.TokenFault.{TokenFault}
use Rattle.pv_tokens.specs.declared.pieces.Piece.{Piece}
use Rattle.pv_tokens.specs.declared.pieces.Piece.TheVariants.{Blank, Word, Number, Fixed, OpenComment, Nothing}
use Rattle.pv_tokens.specs.Bytes.{decimal, most}
use Rattle.pv_tokens.specs.Pieces.{Shows, FitsIn}
use Rattle.pv_tokens.specs.Progress as p
use Rattle.pv_tokens.specs.Progress.{Progress, progress, left, IsFull, Step, Steps, Stops, IsTokens, IsFault, EachIsRead}
use Rattle.pv_tokens.specs.Reading.{piece_of}
use Rattle.pv_tokens.proofs.PieceSizes.{shows_at, fits_at}
use Rattle.pv_tokens.proofs.ProgressLaws.{Ends}

-- from s on, reading comes to an end
record Finishes (text : List ℕ) (s : Progress) : Type 0 where
  last : Progress
  fault : Option TokenFault
  steps : Steps text s last
  ends : Ends text last fault

-- further on it does
abbrev Later : List ℕ → Progress → Type 0
Later text s = (t : Progress) → s.at < t.at → t.at ≤ length text → Finishes text t

steps_on : (text : List ℕ) (s t : Progress) → Step text s t → Finishes text t → Finishes text s
steps_on text s t h f = record { last = f.last; fault = f.fault; steps = p.next h f.steps; ends = f.ends }

stops_here : (text : List ℕ) (s : Progress) (e : TokenFault) → Stops text s e → Finishes text s
stops_here text s e h = record { last = s; fault = Some e; steps = p.here; ends = h }

full_or_not : (names : List (List ℕ)) (word : List ℕ) → IsFull names word ⊎ (IsFull names word → ⊥)
full_or_not names word = by (place_of names word) refl
  where
    by : (o : Option ℕ) → place_of names word ≡ o → IsFull names word ⊎ (IsFull names word → ⊥)
    by (Some i) e = inr (λ f. let new = f.new in absurd cc)
    by None e =
        elim (cases_lt (length names) most_names) [
          | inl lt ↦ inr (λ f. let count = f.count in omega arith)
          | inr ge ↦ elim (cases_lt most_names (length names)) [
            | inl lt ↦ inr (λ f. let count = f.count in omega arith)
            | inr le ↦ inl (record { new = e; count = omega arith })
          ]
        ]

piece_finishes : (text : List ℕ) (s : Progress) → s.at < length text → Later text s → (q : Piece) → Shows (left text s) q
    → FitsIn (length text - s.at) q → Finishes text s
piece_finishes text s lt later (Blank n) b f =
    let some = f.0 in
    let fits = f.1 in
    steps_on text s _ (p.blank {s = s} b) (later _ (omega arith) (omega arith))
piece_finishes text s lt later (Fixed k n) b f =
    let some = f.0 in
    let fits = f.1 in
    steps_on text s _ (p.fixed {s = s} b) (later _ (omega arith) (omega arith))
piece_finishes text s lt later (Number n) b f =
    let some = f.0 in
    let fits = f.1 in
    elim (cases_lt most (decimal (take n (left text s)))) [
      | inl over ↦ stops_here text s _ (p.bad_number {s = s} b over)
      | inr le ↦ steps_on text s _ (p.number {s = s} b le) (later _ (omega arith) (omega arith))
    ]
piece_finishes text s lt later (Word n) b f =
    let some = f.0 in
    let fits = f.1 in
    elim (full_or_not s.names (take n (left text s))) [
      | inl full ↦ stops_here text s _ (p.full {s = s} b full)
      | inr free ↦ steps_on text s _ (p.name {s = s} b free) (later _ (omega arith) (omega arith))
    ]
piece_finishes text s lt later OpenComment b f = stops_here text s _ (p.open_comment {s = s} b)
piece_finishes text s lt later Nothing b f = stops_here text s _ (p.bad_byte {s = s} b)

-- with so many bytes left at most
finishes : (most_left : ℕ) (text : List ℕ) (s : Progress) → s.at ≤ length text → length text ≤ s.at + most_left → Finishes text s
finishes zero text s le more = record { last = s; fault = None; steps = p.here; ends = omega arith }
finishes (suc m) text s le more =
    elim (cases_lt s.at (length text)) [
      | inr ge ↦ record { last = s; fault = None; steps = p.here; ends = omega arith }
      | inl lt ↦ piece_finishes text s lt (λ t on within. finishes m text t within (omega arith)) _ (shows_at text s.at _ lt refl)
          (fits_at text s.at _ refl)
    ]

-- the text has tokens, or a first fault
pub each_is_read : EachIsRead
each_is_read text names = by _ _ whole.steps whole.ends
  where
    whole : Finishes text (progress 0 names [])
    whole = finishes (length text) text (progress 0 names []) (omega arith) (omega arith)

    by : (t : Progress) (o : Option TokenFault) → Steps text (progress 0 names []) t → Ends text t o
        → ((xs : List Lexeme) × (after : List (List ℕ)) × IsTokens text names xs after)
        ⊎ ((f : TokenFault) × IsFault text names f)
    by t None k h =
        inl (t.lexemes, t.names, subst (λ (n : ℕ). Steps text (progress 0 names []) (progress n t.names t.lexemes)) h k)
    by t (Some e) k h = inr (e, (t, k, h))
