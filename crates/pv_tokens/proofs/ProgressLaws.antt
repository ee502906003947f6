-- Reading goes one way: the step, the fault and the end of each progress are its own.
use Rattle.std.proofs.Common.{◌≡◌, ◌≢◌, ℕ, ◌+◌, ◌<◌, ◌≤◌, List, [], ◌∷◌, ◌++◌, length, take, drop, Option, Some, None, refl, sym, ap, subst, ◌∙◌, inl, inr, ◌⊎◌, arith}
use Rattle.std.proofs.Math.Seq.{drop-length}
use Rattle.pv_base.specs.declared.Name.{Name}
use Rattle.pv_names.specs.Numbering.{most_names, place_of, number_of, with_text}
use Rattle.pv_names.specs.declared.NamesFault.{NamesFault}
use Rattle.pv_names.specs.declared.NamesFault.TheVariants as names_fault
use Rattle.pv_tokens.specs.declared.Lexeme.{Lexeme}
use Rattle.pv_tokens.specs.declared.LexemeKind.{LexemeKind}
use Rattle.pv_tokens.specs.declared.LexemeKind.TheVariants as kind
use Rattle.pv_tokens.specs.declared.TokenFault.{TokenFault}
use Rattle.pv_tokens.specs.declared.TokenFault.TheVariants as fault
use Rattle.pv_tokens.specs.declared.pieces.Piece.{Piece}
use Rattle.pv_tokens.specs.declared.pieces.Piece.TheVariants.{Blank, Word, Number, Fixed, OpenComment, Nothing}
use Rattle.pv_tokens.specs.Bytes.{decimal, most}
use Rattle.pv_tokens.specs.Faults.{IsSameFault}
use Rattle.pv_tokens.specs.Pieces.{Begins, IsForeign}
use Rattle.pv_tokens.specs.Progress as p
use Rattle.pv_tokens.specs.Progress.{Progress, progress, left, with_token, IsFull, Step, Steps, Stops, IsTokens, IsFault}
use Rattle.pv_tokens.specs.Reading.{piece_of}
use Rattle.pv_tokens.proofs.PieceLaws.{piece_is, open_is, Means, piece_means}

-- ---- what a step and a fault say of the piece that is computed

Goes : List ℕ → Progress → Piece → Type 0
Goes text s (Blank n) = Unit {0}
Goes text s (Fixed k n) = Unit {0}
Goes text s (Number n) = decimal (take n (left text s)) ≤ most
Goes text s (Word n) = IsFull s.names (take n (left text s)) → ⊥
Goes text s OpenComment = ⊥
Goes text s Nothing = ⊥

target : List ℕ → Progress → Piece → Progress
target text s (Blank n) = progress (s.at + n) s.names s.lexemes
target text s (Fixed k n) = with_token s (kind.Fixed k) n s.names
target text s (Number n) = with_token s (kind.Number (decimal (take n (left text s)))) n s.names
target text s (Word n) =
    with_token s (kind.Named (record { 0 = number_of s.names (take n (left text s)) })) n
    (with_text s.names (take n (left text s)))
target text s OpenComment = s
target text s Nothing = s

Halts : List ℕ → Progress → Piece → TokenFault → Type 0
Halts text s (Blank n) e = ⊥
Halts text s (Fixed k n) e = ⊥
Halts text s (Number n) e = (most < decimal (take n (left text s))) × (e ≡ fault.BadNumber s.at)
Halts text s (Word n) e = IsFull s.names (take n (left text s)) × (e ≡ fault.Full)
Halts text s OpenComment e = e ≡ fault.OpenComment s.at
Halts text s Nothing e = (left text s ≡ [] → ⊥) × (e ≡ fault.BadByte s.at)

abbrev Moves : List ℕ → Progress → Progress → Piece → Type 0
Moves text s t q = Goes text s q × (t ≡ target text s q)

step_moves : (text : List ℕ) (s t : Progress) → Step text s t → Moves text s t (piece_of (left text s))
unfolding Goes target
step_moves text _ _ (p.blank {s} {n} b) = subst (Moves text s (target text s (Blank n))) (sym (piece_is _ _ b)) (tt, refl)
step_moves text _ _ (p.fixed {s} {k} {n} b) = subst (Moves text s (target text s (Fixed k n))) (sym (piece_is _ _ b)) (tt, refl)
step_moves text _ _ (p.number {s} {n} b h) = subst (Moves text s (target text s (Number n))) (sym (piece_is _ _ b)) (h, refl)
step_moves text _ _ (p.name {s} {n} b h) = subst (Moves text s (target text s (Word n))) (sym (piece_is _ _ b)) (h, refl)

foreign_is : (bytes : List ℕ) → IsForeign bytes → piece_of bytes ≡ Nothing
foreign_is bytes f = by (piece_of bytes) refl (piece_means bytes)
  where
    by : (q : Piece) → piece_of bytes ≡ q → Means bytes q → q ≡ Nothing
    by (Blank n) e m = absurd (f.none (Blank n) m)
    by (Word n) e m = absurd (f.none (Word n) m)
    by (Number n) e m = absurd (f.none (Number n) m)
    by (Fixed k n) e m = absurd (f.none (Fixed k n) m)
    by OpenComment e m = absurd (f.unopened m)
    by Nothing e m = refl

stops_halts : (text : List ℕ) (s : Progress) (e : TokenFault) → Stops text s e → Halts text s (piece_of (left text s)) e
unfolding Halts
stops_halts text _ _ (p.bad_byte {s} f) =
    subst (λ (q : Piece). Halts text s q (fault.BadByte s.at)) (sym (foreign_is _ f)) (f.some, refl)
stops_halts text _ _ (p.open_comment {s} o) =
    subst (λ (q : Piece). Halts text s q (fault.OpenComment s.at)) (sym (open_is _ o)) refl
stops_halts text _ _ (p.bad_number {s} {n} b h) =
    subst (λ (q : Piece). Halts text s q (fault.BadNumber s.at)) (sym (piece_is _ _ b)) (h, refl)
stops_halts text _ _ (p.full {s} {n} b h) = subst (λ (q : Piece). Halts text s q fault.Full) (sym (piece_is _ _ b)) (h, refl)

goes_or_halts : (text : List ℕ) (s : Progress) (q : Piece) (e : TokenFault) → Goes text s q → Halts text s q e → ⊥
unfolding Goes Halts
goes_or_halts text s (Blank n) e g h = h
goes_or_halts text s (Fixed k n) e g h = h
goes_or_halts text s (Number n) e g h = let over = h.0 in omega arith
goes_or_halts text s (Word n) e g h = g h.0
goes_or_halts text s OpenComment e g h = g
goes_or_halts text s Nothing e g h = g

halts_once : (text : List ℕ) (s : Progress) (q : Piece) (e f : TokenFault) → Halts text s q e → Halts text s q f → e ≡ f
unfolding Halts
halts_once text s (Blank n) e f g h = absurd g
halts_once text s (Fixed k n) e f g h = absurd g
halts_once text s (Number n) e f g h = g.1 ∙ sym h.1
halts_once text s (Word n) e f g h = g.1 ∙ sym h.1
halts_once text s OpenComment e f g h = g ∙ sym h
halts_once text s Nothing e f g h = g.1 ∙ sym h.1

-- ---- the ends of reading

-- reading ends here: at the end of the text, or with a fault
abbrev pub Ends : List ℕ → Progress → Option TokenFault → Type 0
Ends text s None = s.at ≡ length text
Ends text s (Some e) = Stops text s e

nothing_left : (text : List ℕ) (s : Progress) → s.at ≡ length text → left text s ≡ []
nothing_left text s e = ap (λ (n : ℕ). drop n text) e ∙ drop-length text

no_goes_at_end : (text : List ℕ) (s : Progress) → left text s ≡ [] → Goes text s (piece_of (left text s)) → ⊥
unfolding Goes piece_of
no_goes_at_end text s e g = subst (λ (bytes : List ℕ). Goes text s (piece_of bytes)) e g

no_halt_at_end : (text : List ℕ) (s : Progress) (e : TokenFault) → left text s ≡ [] → Halts text s (piece_of (left text s)) e → ⊥
unfolding Halts piece_of
no_halt_at_end text s e n h =
    let at_nil = subst (λ (bytes : List ℕ). Halts text s (piece_of bytes) e) n h in
    at_nil.0 n

ends_stay : (text : List ℕ) (s t : Progress) (o : Option TokenFault) → Ends text s o → Step text s t → ⊥
ends_stay text s t None e h = no_goes_at_end text s (nothing_left text s e) (step_moves text s t h).0
ends_stay text s t (Some f) e h =
    goes_or_halts text s (piece_of (left text s)) f (step_moves text s t h).0 (stops_halts text s f e)

same_end : (text : List ℕ) (s : Progress) (o r : Option TokenFault) → Ends text s o → Ends text s r → o ≡ r
same_end text s None None e f = refl
same_end text s None (Some y) e f = absurd (no_halt_at_end text s y (nothing_left text s e) (stops_halts text s y f))
same_end text s (Some x) None e f = absurd (no_halt_at_end text s x (nothing_left text s f) (stops_halts text s x e))
same_end text s (Some x) (Some y) e f =
    ap (λ (z : TokenFault). Some z) (halts_once text s (piece_of (left text s)) x y (stops_halts text s x e)
    (stops_halts text s y f))

same_step : (text : List ℕ) (s t u : Progress) → Step text s t → Step text s u → t ≡ u
same_step text s t u h k = (step_moves text s t h).1 ∙ sym ((step_moves text s u k).1)

-- reading from one progress ends in one way
meet : (text : List ℕ) (s t u : Progress) (o r : Option TokenFault) → Steps text s t → Ends text t o → Steps text s u
    → Ends text u r → (t ≡ u) × (o ≡ r)
meet text s _ _ o r p.here a p.here b = (refl, same_end text s o r a b)
meet text s _ u o r p.here a (p.next {t = v} h k) b = absurd (ends_stay text s v o a h)
meet text s t _ o r (p.next {t = v} h k) a p.here b = absurd (ends_stay text s v r b h)
meet text s t u o r (p.next {t = v} h k) a (p.next {t = w} i j) b =
    meet text v t u o r k a (subst (λ (x : Progress). Steps text x u) (sym (same_step text s v w h i)) j) b

-- one more step
pub further : (text : List ℕ) (s t u : Progress) → Steps text s t → Step text t u → Steps text s u
further text s _ u p.here h = p.next h p.here
further text s t u (p.next {t = v} k l) h = p.next k (further text v t u l h)

-- ---- the laws of whole texts

pub one_reading : (text : List ℕ) (names : List (List ℕ)) (xs ys : List Lexeme) (after other : List (List ℕ))
    → IsTokens text names xs after → IsTokens text names ys other → (xs ≡ ys) × (after ≡ other)
one_reading text names xs ys after other h k =
    let m = meet text _ _ _ None None h refl k refl in
    (ap (λ (s : Progress). s.lexemes) m.0, ap (λ (s : Progress). s.names) m.0)

pub no_tokens : (text : List ℕ) (names : List (List ℕ)) (e : TokenFault) (xs : List Lexeme) (after : List (List ℕ))
    → IsFault text names e → IsTokens text names xs after → ⊥
no_tokens text names e xs after f k =
    let m = meet text _ _ _ (Some e) None f.1 f.2 k refl in
    let bad = m.1 in
    absurd cc

pub one_fault : (text : List ℕ) (names : List (List ℕ)) (e f : TokenFault) → IsFault text names e → IsFault text names f → e ≡ f
one_fault text names e f g h =
    let m = meet text _ _ _ (Some e) (Some f) g.1 g.2 h.1 h.2 in
    let same = m.1 in
    cc

pub memory_or_not : (e : TokenFault) → (e ≡ fault.NoMemory) ⊎ (e ≢ fault.NoMemory)
memory_or_not (fault.BadByte n) = inr (λ h. absurd cc)
memory_or_not (fault.BadNumber n) = inr (λ h. absurd cc)
memory_or_not (fault.OpenComment n) = inr (λ h. absurd cc)
memory_or_not fault.Full = inr (λ h. absurd cc)
memory_or_not fault.NoMemory = inl refl

-- ---- the steps of the code

pub with_put : (text : List ℕ) (s : Progress) (k : LexemeKind) (n to : ℕ) (names : List (List ℕ)) (xs : List Lexeme)
    → Step text s (with_token s k n names)
    → to ≡ s.at + n → xs ≡ s.lexemes ++ record { kind = k; span = record { from = s.at; to = s.at + n } } ∷ []
    → Step text s (progress to names xs)
with_put text s k n to names xs h e f =
    subst (λ (m : ℕ). Step text s (progress m names xs)) (sym e)
    (subst (λ (ys : List Lexeme). Step text s (progress (s.at + n) names ys)) (sym f) h)

pub number_step : (text : List ℕ) (s : Progress) (n value : ℕ) (digits : List ℕ) → Begins (left text s) (Number n)
    → digits ≡ take n (left text s)
    → value ≡ decimal digits → value ≤ most → Step text s (with_token s (kind.Number value) n s.names)
number_step text s n value digits b d v le =
    let is : value ≡ decimal (take n (left text s)) = v ∙ ap (λ (xs : List ℕ). decimal xs) d in
    subst (λ (m : ℕ). Step text s (with_token s (kind.Number m) n s.names)) (sym is) (p.number {s = s} b (omega arith))

pub number_stops : (text : List ℕ) (s : Progress) (n : ℕ) (digits : List ℕ) → Begins (left text s) (Number n)
    → digits ≡ take n (left text s)
    → most < decimal digits → Stops text s (fault.BadNumber s.at)
number_stops text s n digits b d over =
    let is : decimal digits ≡ decimal (take n (left text s)) = ap (λ (xs : List ℕ). decimal xs) d in
    p.bad_number {s = s} b (omega arith)

pub name_step : (text : List ℕ) (s : Progress) (n : ℕ) (name : Name) (names : List (List ℕ)) (word : List ℕ)
    → Begins (left text s) (Word n) → word ≡ take n (left text s)
    → name.0 ≡ number_of s.names word → names ≡ with_text s.names word
    → ((place_of s.names word ≡ None) × (length s.names ≡ most_names) → ⊥)
    → Step text s (with_token s (kind.Named name) n names)
name_step text s n name names word b w e f room =
    let at_word : Step text s (with_token s (kind.Named (record { 0 = number_of s.names word })) n (with_text s.names word)) =
    subst (λ (v : List ℕ). Step text s (with_token s (kind.Named (record { 0 = number_of s.names v })) n (with_text s.names v)))
    (sym w)
    (p.name {s = s} b (λ full. room (subst (λ (v : List ℕ). (place_of s.names v ≡ None) × (length s.names ≡ most_names)) (sym w)
    (full.new, full.count)))) in
    subst (λ (m : ℕ). Step text s (with_token s (kind.Named (record { 0 = m })) n names)) (sym e)
    (subst (λ (ns : List (List ℕ)). Step text s (with_token s (kind.Named (record { 0 = number_of s.names word })) n ns))
    (sym f) at_word)

pub name_stops : (text : List ℕ) (s : Progress) (n : ℕ) (word : List ℕ) (f : NamesFault) (e : TokenFault)
    → Begins (left text s) (Word n) → word ≡ take n (left text s)
    → IsSameFault f e → (f ≡ names_fault.Full → (place_of s.names word ≡ None) × (length s.names ≡ most_names))
    → e ≢ fault.NoMemory → Stops text s e
name_stops text s n word names_fault.Full e b w same full other =
    let h = subst (λ (v : List ℕ). (place_of s.names v ≡ None) × (length s.names ≡ most_names)) w (full refl) in
    subst (Stops text s) (sym same) (p.full {s = s} b (record { new = h.0; count = h.1 }))
name_stops text s n word names_fault.NoMemory e b w same full other = absurd (other same)

-- ---- an error of the code is a fault, or want of memory

pub must_be_memory : (text : List ℕ) (names : List (List ℕ)) (e : TokenFault) (xs : List Lexeme) (after : List (List ℕ))
    → (e ≢ fault.NoMemory → IsFault text names e)
    → IsTokens text names xs after → e ≡ fault.NoMemory
must_be_memory text names e xs after h k =
    elim (memory_or_not e) [ inl m ↦ m | inr other ↦ absurd (no_tokens text names e xs after (h other) k) ]

pub fault_or_memory : (text : List ℕ) (names : List (List ℕ)) (e f : TokenFault) → (e ≢ fault.NoMemory → IsFault text names e)
    → IsFault text names f → (e ≡ f) ⊎ (e ≡ fault.NoMemory)
fault_or_memory text names e f h k =
    elim (memory_or_not e) [ inl m ↦ inr m | inr other ↦ inl (one_fault text names e f (h other) k) ]
