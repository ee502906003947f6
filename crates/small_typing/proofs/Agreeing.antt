-- What a type, a sort and the use of names say of one expression together, and how an operator keeps it.
use Rattle.std.proofs.Common.{◌≡◌, Bool, true, false, ◌||◌, ◌&&◌, if◌then◌else◌, refl, ap, ◌∙◌, subst, ◌⊎◌, inl, inr}
use Rattle.std.proofs.lemmas.Bool.{and_from}
use Rattle.pv_base.specs.declared.Span.{Span}
use Rattle.pv_ast.specs.declared.PvType.{PvType}
use Rattle.pv_ast.specs.declared.PvType.TheVariants.{Int, Truth}
use Rattle.pv_ast.specs.declared.fault.Rule.TheVariants as rule
use Rattle.pv_ast.specs.declared.standing.Need.{Need}
use Rattle.pv_ast.specs.declared.standing.Need.TheVariants.{Anything, Exactly}
use Rattle.pv_ast.specs.declared.standing.Typing.{Typing}
use Rattle.pv_ast.specs.declared.standing.Typing.TheVariants.{Untyped, Typed}
use Rattle.pv_ast.specs.Rules.Typing as typing
use Rattle.small_meaning.specs.Sorts.{Sort, number, truth, is_literal, is_number, is_truth, sorted_if}
use Rattle.small_meaning.specs.Small.{Form, written, composed, foreign, is_written, is_formed, composed_if}
use Rattle.small_typing.proofs.Clean.{Clean, unless_holds}

-- a whole number, by its type and by its sort, that uses the names in scope
abbrev pub AsNumber : Typing → Sort → Bool → Type 0
AsNumber t s u = (t ≡ Typed Int) × (is_number s ≡ true) × (u ≡ true)

abbrev pub AsTruth : Typing → Sort → Bool → Type 0
AsTruth t s u = (t ≡ Typed Truth) × (is_truth s ≡ true) × (u ≡ true)

-- a kind has a type and its sort, or no type at all
abbrev pub KindAgrees : Typing → Sort → Bool → Type 0
KindAgrees t s u = AsNumber t s u ⊎ (AsTruth t s u ⊎ (t ≡ Untyped))

-- an expression has a type that is needed, and its sort
abbrev pub Agrees : Need → Typing → Sort → Bool → Type 0
Agrees need t s u = (AsNumber t s u × (typing.accepts need Int ≡ true)) ⊎ (AsTruth t s u × (typing.accepts need Truth ≡ true))

pub number_from : (t : Typing) (s : Sort) (u : Bool) → Agrees (Exactly Int) t s u → AsNumber t s u
number_from t s u (inl h) = h.0
number_from t s u (inr h) = let k = h.1 in absurd (cc)

pub truth_from : (t : Typing) (s : Sort) (u : Bool) → Agrees (Exactly Truth) t s u → AsTruth t s u
truth_from t s u (inl h) = let k = h.1 in absurd (cc)
truth_from t s u (inr h) = h.0

pub settled : (need : Need) (t : Typing) (s : Sort) (u : Bool) (span : Span) → KindAgrees t s u
    → Clean (typing.wrong_type need t span) → Agrees need t s u
settled need t s u span (inl h) clean = inl (
  h,
  unless_holds (typing.accepts need Int) rule.WrongType span
      (subst (λ k. Clean (typing.wrong_type need k span)) h.0 clean),
)
settled need t s u span (inr (inl h)) clean = inr (
  h,
  unless_holds (typing.accepts need Truth) rule.WrongType span
      (subst (λ k. Clean (typing.wrong_type need k span)) h.0 clean),
)
settled need t s u span (inr (inr h)) clean = absurd (subst (λ k. Clean (typing.wrong_type need k span)) h clean)

-- Forms

pub composed_unwritten : (b : Bool) → is_written (composed_if b) ≡ true → ⊥
composed_unwritten true h = cc
composed_unwritten false h = cc

pub composed_formed : (b : Bool) → is_formed (composed_if b) ≡ true → b ≡ true
composed_formed true h = refl
composed_formed false h = cc

pub written_formed : (f : Form) → is_written f ≡ true → is_formed f ≡ true
written_formed written h = refl
written_formed composed h = cc
written_formed foreign h = cc

-- Operators

pub not_agrees : (t : Typing) (s : Sort) (u : Bool) → Agrees (Exactly Truth) t s u
    → KindAgrees (typing.typed_if (typing.meets (Exactly Truth) t) Truth) (sorted_if (is_truth s) truth) u
not_agrees t s u h =
    let k = truth_from t s u h in
    inr (inl (
      ap (λ x. typing.typed_if (typing.meets (Exactly Truth) x) Truth) k.0,
      ap (λ b. is_truth (sorted_if b truth)) k.1,
      k.2,
    ))

pub minus_agrees : (t : Typing) (s : Sort) (u : Bool) → is_literal s ≡ true → Agrees (Exactly Int) t s u
    → KindAgrees (typing.typed_if (typing.meets (Exactly Int) t) Int) (sorted_if (is_literal s) number) u
minus_agrees t s u l h =
    let k = number_from t s u h in
    inl (ap (λ x. typing.typed_if (typing.meets (Exactly Int) x) Int) k.0, ap (λ b. is_number (sorted_if b number)) l, k.2)

pub sum_agrees : (t₁ t₂ : Typing) (s₁ s₂ : Sort) (u₁ u₂ : Bool) → is_literal s₂ ≡ true → Agrees (Exactly Int) t₁ s₁ u₁
    → Agrees (Exactly Int) t₂ s₂ u₂
    → KindAgrees (typing.typed_if (typing.both_meet (Exactly Int) t₁ t₂) Int) (sorted_if (is_number s₁ && is_literal s₂) number)
    (u₁ && u₂)
sum_agrees t₁ t₂ s₁ s₂ u₁ u₂ l h₁ h₂ =
    let k = number_from t₁ s₁ u₁ h₁ in
    let m = number_from t₂ s₂ u₂ h₂ in
    inl (
      ap (λ x. typing.typed_if (typing.both_meet (Exactly Int) x t₂) Int) k.0
          ∙ ap (λ x. typing.typed_if (typing.both_meet (Exactly Int) (Typed Int) x) Int) m.0,
      ap (λ b. is_number (sorted_if b number)) (and_from (is_number s₁) (is_literal s₂) k.1 l),
      and_from u₁ u₂ k.2 m.2,
    )

pub order_agrees : (t₁ t₂ : Typing) (s₁ s₂ : Sort) (u₁ u₂ : Bool) → Agrees (Exactly Int) t₁ s₁ u₁ → Agrees (Exactly Int) t₂ s₂ u₂
    → KindAgrees (typing.typed_if (typing.both_meet (Exactly Int) t₁ t₂) Truth) (sorted_if (is_number s₁ && is_number s₂) truth)
    (u₁ && u₂)
order_agrees t₁ t₂ s₁ s₂ u₁ u₂ h₁ h₂ =
    let k = number_from t₁ s₁ u₁ h₁ in
    let m = number_from t₂ s₂ u₂ h₂ in
    inr (inl (
      ap (λ x. typing.typed_if (typing.both_meet (Exactly Int) x t₂) Truth) k.0
          ∙ ap (λ x. typing.typed_if (typing.both_meet (Exactly Int) (Typed Int) x) Truth) m.0,
      ap (λ b. is_truth (sorted_if b truth)) (and_from (is_number s₁) (is_number s₂) k.1 m.1),
      and_from u₁ u₂ k.2 m.2,
    ))

pub logic_agrees : (t₁ t₂ : Typing) (s₁ s₂ : Sort) (u₁ u₂ : Bool) → Agrees (Exactly Truth) t₁ s₁ u₁
    → Agrees (Exactly Truth) t₂ s₂ u₂
    → KindAgrees (typing.typed_if (typing.both_meet (Exactly Truth) t₁ t₂) Truth) (sorted_if (is_truth s₁ && is_truth s₂) truth)
    (u₁ && u₂)
logic_agrees t₁ t₂ s₁ s₂ u₁ u₂ h₁ h₂ =
    let k = truth_from t₁ s₁ u₁ h₁ in
    let m = truth_from t₂ s₂ u₂ h₂ in
    inr (inl (
      ap (λ x. typing.typed_if (typing.both_meet (Exactly Truth) x t₂) Truth) k.0
          ∙ ap (λ x. typing.typed_if (typing.both_meet (Exactly Truth) (Typed Truth) x) Truth) m.0,
      ap (λ b. is_truth (sorted_if b truth)) (and_from (is_truth s₁) (is_truth s₂) k.1 m.1),
      and_from u₁ u₂ k.2 m.2,
    ))

either_sort : (a b c d : Bool) → ((a ≡ true) × (b ≡ true)) ⊎ ((c ≡ true) × (d ≡ true)) → ((a && b) || (c && d)) ≡ true
either_sort a b c d (inl h) = ap (λ x. x || (c && d)) (and_from a b h.0 h.1)
either_sort true true c d (inr h) = refl
either_sort true false c d (inr h) = and_from c d h.0 h.1
either_sort false b c d (inr h) = and_from c d h.0 h.1

equality_at : (t₁ t₂ : Typing) (x y : PvType) → t₁ ≡ Typed x → t₂ ≡ Typed y → typing.typing_of_equality t₁ t₂
    ≡ (if typing.are_comparable x y then Typed Truth else Untyped)
equality_at t₁ t₂ x y e f = ap (λ t. typing.typing_of_equality t t₂) e ∙ ap (λ t. typing.typing_of_equality (Typed x) t) f

pub equality_agrees : (t₁ t₂ : Typing) (s₁ s₂ : Sort) (u₁ u₂ : Bool) → Agrees Anything t₁ s₁ u₁ → Agrees Anything t₂ s₂ u₂
    → KindAgrees (typing.typing_of_equality t₁ t₂)
    (sorted_if ((is_number s₁ && is_number s₂) || (is_truth s₁ && is_truth s₂)) truth) (u₁ && u₂)
equality_agrees t₁ t₂ s₁ s₂ u₁ u₂ (inl h) (inl k) =
    inr
    (inl (
      equality_at t₁ t₂ Int Int h.0.0 k.0.0,
      ap (λ b. is_truth (sorted_if b truth))
          (either_sort (is_number s₁) (is_number s₂) (is_truth s₁) (is_truth s₂) (inl (h.0.1, k.0.1))),
      and_from u₁ u₂ h.0.2 k.0.2,
    ))
equality_agrees t₁ t₂ s₁ s₂ u₁ u₂ (inl h) (inr k) = inr (inr (equality_at t₁ t₂ Int Truth h.0.0 k.0.0))
equality_agrees t₁ t₂ s₁ s₂ u₁ u₂ (inr h) (inl k) = inr (inr (equality_at t₁ t₂ Truth Int h.0.0 k.0.0))
equality_agrees t₁ t₂ s₁ s₂ u₁ u₂ (inr h) (inr k) =
    inr
    (inl (
      equality_at t₁ t₂ Truth Truth h.0.0 k.0.0,
      ap (λ b. is_truth (sorted_if b truth))
          (either_sort (is_number s₁) (is_number s₂) (is_truth s₁) (is_truth s₂) (inr (h.0.1, k.0.1))),
      and_from u₁ u₂ h.0.2 k.0.2,
    ))
