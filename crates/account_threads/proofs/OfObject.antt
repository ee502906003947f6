-- Formulas of an object alone: given up, taken in, and owned later.
use Rattle.std.proofs.Common.{◌≡◌, ℕ, ◌+◌, ◌≤◌, Bool, true, false, if◌then◌else◌, Some, None, [], refl}
use Rattle.std.proofs.lemmas.Option.{none-some}
use Rattle.pv_base.specs.declared.Name.{Name}
use Rattle.pv_base.specs.declared.Span.{Span}
use Rattle.pv_ast.specs.declared.PvType.TheVariants.{Object}
use Rattle.pv_values.specs.declared.value.Value.TheVariants as value
use Rattle.pv_fraction.specs.Amounts.{whole}
use Rattle.pv_picks.specs.declared.check.Check.{Check}
use Rattle.pv_picks.specs.Plain.Core.{Formula, Program}
use Rattle.pv_picks.specs.Plain.Members.{invariant_of}
use Rattle.pv_picks.specs.Formulas.Heaps.{Heap}
use Rattle.pv_picks.specs.Formulas.Meeting.{IsMet}
use Rattle.pv_picks.specs.Judge.States as states
use Rattle.pv_picks.specs.Judge.States.{Resource, State, cells_of, no_cells}
use Rattle.pv_picks.specs.Judge.Settings.{Next}
use Rattle.pv_picks.specs.Judge.Inhaling.{inhale}
use Rattle.pv_picks.specs.Judge.Rows.{bind_on, exhale_at}
use Rattle.pv_picks.specs.Judge.Runs.{Judged, Maps}
use Rattle.pv_picks.specs.Machine.Frames.{only_now, outer_scene}
use Rattle.pv_picks.specs.Typing.Expressions.{silent}
use Rattle.pv_picks.specs.Typing.Frames.{HasType}
use Rattle.core_trees.specs.Formulas.{in_class}
use Rattle.account_formulas.specs.Sights.{Contents, SceneFits}
use Rattle.account_formulas.specs.Runs.{Taken, truly, RestNeverFails}
use Rattle.account_formulas.specs.Good.{IsGood}
use Rattle.account_formulas.specs.Owning.{Amounts, Owns, KeepsOwning, HasTrees}
use Rattle.account_formulas.specs.Growing.{StateFits, Place, HeapFits}
use Rattle.account_formulas.specs.Giving.{Gave}
use Rattle.account_formulas.specs.Gaining.{PredicatesFit, Gained, nothing_taken}
use Rattle.account_formulas.proofs.Gaining.{formula_gains}
use Rattle.account_formulas.proofs.Laws.{gives_up}
use Rattle.account_formulas.proofs.Later.{owns_later}
use Rattle.account_formulas.proofs.Meeting.{is_met}
use Rattle.account_threads.specs.Parts.{object_state, InvariantsFit}

-- nothing is known of an old state
abbrev pub nothing_known : Contents
nothing_known r = None

-- a test that doesn't look at picks
pub by_test : (taken : Taken) {G : Type 0} (b : Bool) (x y : Maps → Judged)
    → RestNeverFails taken (λ maps. if b then x maps else y maps)
    → (b ≡ true → RestNeverFails taken x → G) → (b ≡ false → RestNeverFails taken y → G) → G
by_test taken true x y never so not_so = so refl never
by_test taken false x y never so not_so = not_so refl never

module _ (p : Program) (flags : ℕ → Bool) (heap : Heap) (sound : HeapFits p heap) where
  -- where a formula of an object stands
  abbrev pub object_place : Name → Place p heap
  object_place class = record {
    class = class;
    answer = None;
    speech = silent;
    scope = [];
    past = heap;
    old = no_cells;
    known = nothing_known;
    before = sound.now;
    agrees = λ r v is. absurd (none-some v is);
    lengths = λ a n is. is;
  }

  pub object_scene : (class : Name) (object : ℕ) → HasType heap (Object class) (value.Reference object)
      → SceneFits (in_class p class) silent [] heap (outer_scene object [] [])
  object_scene class object typed = record {
    this = typed;
    variables = λ name type is. absurd (none-some type is);
    result = λ type is. absurd (none-some type is);
  }

  -- given up where that never fails
  pub object_gives : (class : Name) (object : ℕ) → HasType heap (Object class) (value.Reference object)
      → (f : Formula) → IsGood (in_class p class) silent [] f
      → (taken : Taken) (s : State) → StateFits flags heap taken s
      → (T : Amounts) → HasTrees p flags heap s.instances T
      → (check : Check) (span : Span) (next : Maps → Next Judged)
      → RestNeverFails taken (λ maps. exhale_at (truly maps) check span (bind_on object) f (next maps) s)
      → Gave p flags heap taken (Owns p flags (only_now heap) (outer_scene object [] []) f) s s.held T next
  object_gives class object typed f good taken s fits T trees check span next never =
      gives_up p flags heap sound (object_place class) (outer_scene object [] []) (object_scene class object typed) f good taken s
      (λ picks r. refl) fits T trees check (Some span) next never

  -- what is owned is met
  pub object_met : (class : Name) (object : ℕ) (f : Formula) → IsGood (in_class p class) silent [] f
      → (R : Amounts) → Owns p flags (only_now heap) (outer_scene object [] []) f R
      → IsMet (only_now heap) (outer_scene object [] []) f
  object_met class object f good R owns =
      is_met (in_class p class) silent p flags [] (only_now heap) (outer_scene object [] []) f good R owns

  module _ (framed : PredicatesFit p heap) where
    -- taken in, where it is owned
    pub object_gains : (class : Name) (object : ℕ) → HasType heap (Object class) (value.Reference object)
        → (f : Formula) → IsGood (in_class p class) silent [] f
        → (R : Amounts) → Owns p flags (only_now heap) (outer_scene object [] []) f R
        → (taken : Taken) (s : State) → StateFits flags heap taken s → (T : Amounts) → HasTrees p flags heap s.instances T
        → ((q : Resource) → states.amount_of s q + T q + R q ≤ whole)
        → (next : Maps → Next Judged)
        → RestNeverFails taken (λ maps. inhale (truly maps) (bind_on object) f (next maps) s)
        → Gained p flags heap nothing_known (λ sight. Owns p flags sight (outer_scene object [] []) f) taken s T R next
    object_gains class object typed f good R owns taken s fits T trees most next never =
        formula_gains p flags heap sound framed (object_place class) (outer_scene object [] []) (object_scene class object typed)
        f good R owns taken s (λ picks r. refl) fits T trees most next never

    -- an invariant that is owned stays so
    pub invariant_stays : InvariantsFit p heap → (class : Name) (i : Formula) → invariant_of p class ≡ Some i
        → (object : ℕ) → HasType heap (Object class) (value.Reference object)
        → (R : Amounts) → Owns p flags (only_now heap) (outer_scene object [] []) i R → ((q : Resource) → R q ≤ whole)
        → KeepsOwning p flags heap (outer_scene object [] []) i R
    invariant_stays parts class i is object typed R owns most later keeps =
        let begin = parts.never class i is object typed in
        owns_later p flags heap sound framed (object_place class) (outer_scene object [] []) (object_scene class object typed)
        i (parts.good class i is) R owns most nothing_taken (object_state object begin.0) (λ picks r. refl)
        (record {
          steps = refl;
          agree = λ t a n is. absurd (none-some n is);
          holds = λ r h is. absurd (none-some h is);
          knows = λ c o is. absurd (cc is);
          met = begin.1;
        })
        (λ q. refl) refl begin.2 (only_now later) keeps (λ r v is. absurd (none-some v is)) keeps.lengths keeps.lengths
