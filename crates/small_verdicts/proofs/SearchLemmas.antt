-- From one path to the next.
use Rattle.std.proofs.Common.{◌≡◌, ◌⊎◌, inl, inr, Bool, true, false, List}
use Rattle.pv_ast.specs.declared.Method.{Method}
use Rattle.pv_linear.specs.Values.{Values}
use Rattle.small_meaning.specs.Running.{Meets}
use Rattle.small_meaning.specs.Grounds.{PassIsRight, EmptyIsRight}
use Rattle.small_paths.specs.declared.Decision.{Decision}
use Rattle.small_paths.specs.Parts.{Agrees, Stands}
use Rattle.small_verdicts.specs.Searching.{MeetsOn, SoFar}

module _ (m : Method) (old mid new : List Decision) (keeps : (v : Values) → Stands v old → Stands v mid) where
  pub more_blocked : (entered : Bool) → SoFar m old entered → ((v : Values) → Agrees v mid → Meets m v → ⊥)
      → ((v : Values) → Stands v mid → Agrees v mid ⊎ Stands v new) → SoFar m new entered
  more_blocked entered s blocked more = record {
    safe = λ v. elim (s.safe v) [
      | inl h ↦ inl h
      | inr st ↦ elim
          (more v (keeps v st)) [ inl a ↦ inl (λ meets. absurd (blocked v a meets)) | inr n ↦ inr n ]
    ];
    unmet = λ e v. elim (s.unmet e v) [
      | inl h ↦ inl h
      | inr st ↦ elim
          (more v (keeps v st)) [ inl a ↦ inl (blocked v a) | inr n ↦ inr n ]
    ];
    met = s.met;
  }

  pub more_met : (entered : Bool) → SoFar m old entered → MeetsOn m mid
      → ((v : Values) → Stands v mid → Agrees v mid ⊎ Stands v new) → SoFar m new true
  more_met entered s on more = record {
    safe = λ v. elim (s.safe v) [
      | inl h ↦ inl h
      | inr st ↦ elim
          (more v (keeps v st)) [ inl a ↦ inl (on.safe v a) | inr n ↦ inr n ]
    ];
    unmet = λ e v. cc;
    met = λ e. ∣ on.met ∣₁;
  }

  pub done_met : (entered : Bool) → SoFar m old entered → MeetsOn m mid → ((v : Values) → Stands v mid → Agrees v mid)
      → PassIsRight m
  done_met entered s on done = record {
    never_fails = λ v meets. elim (s.safe v) [ inl h ↦ h meets | inr st ↦ on.safe v (done v (keeps v st)) meets ];
    some_meet = ∣ on.met ∣₁;
  }

  pub done_passed : (entered : Bool) → entered ≡ true → SoFar m old entered → ((v : Values) → Agrees v mid → Meets m v → ⊥)
      → ((v : Values) → Stands v mid → Agrees v mid) → PassIsRight m
  done_passed entered is s blocked done = record {
    never_fails = λ v meets. elim (s.safe v) [ inl h ↦ h meets | inr st ↦ absurd (blocked v (done v (keeps v st)) meets) ];
    some_meet = s.met is;
  }

  pub done_empty : (entered : Bool) → entered ≡ false → SoFar m old entered → ((v : Values) → Agrees v mid → Meets m v → ⊥)
      → ((v : Values) → Stands v mid → Agrees v mid) → EmptyIsRight m
  done_empty entered is s blocked done = λ v meets.
      elim (s.unmet is v) [ inl h ↦ h meets | inr st ↦ blocked v (done v (keeps v st)) meets ]
