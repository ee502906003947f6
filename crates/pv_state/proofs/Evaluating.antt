-- The parts of expressions in sequence: two values and what is done with them, and a value that decides whether there is another.
use Rattle.std.proofs.Common.{◌≡◌, ℕ, Bool, true, false, List, [], ◌∷◌, sym, subst, if◌then◌else◌}
use Rattle.std.specs.Prelude.{not}
use Rattle.pv_values.specs.declared.value.Value.{Value}
use Rattle.pv_values.specs.declared.value.Value.TheVariants as value
use Rattle.pv_linear.specs.declared.Sort.{Sort}
use Rattle.pv_linear.specs.declared.Literal.{Literal}
use Rattle.pv_linear.specs.Evidence.{Evidence, Under}
use Rattle.pv_linear.specs.Decisions.{Decision}
use Rattle.pv_linear.specs.Asking.{Goes, Asks}
use Rattle.pv_picks.specs.Plain.Core as core
use Rattle.pv_picks.specs.Formulas.Values.{truth_in}
use Rattle.pv_picks.specs.Lazy.Patterns.{Is}
use Rattle.pv_picks.specs.Lazy.Parts.{Came, Part, chain, gone, hooks}
use Rattle.pv_state.specs.declared.scene.SymbolScene.{SymbolScene}
use Rattle.pv_state.specs.declared.scene.Stores.{Stores}
use Rattle.pv_state.specs.declared.operands.Operand.{Operand}
use Rattle.pv_state.specs.declared.operands.Reading.{Reading}
use Rattle.pv_state.specs.Parts.{StaysSorted, IsSorted, TellsShown, StopsShown}
use Rattle.pv_state.specs.Runs.{operand_at, run_plain}
use Rattle.pv_state.proofs.Sequences as sequences
use Rattle.pv_state.proofs.Sequences.{at, Done, Halted, MayBegin}

module _ {S : Type 0} (path : S → List Literal) (turns : S → List ℕ) (decisions : S → List Decision)
    (stands : S → Evidence → Type 0) (ended : S → ℕ) (sorts : S → List Sort) (own : SymbolScene) (reading : Reading)
    (scene : SymbolScene) where
  abbrev pub OkWith : {A : Type 0} → (Evidence → Part A) → Stores → S → S → (Evidence → A) → Stores → Type 0
  OkWith part stores old new value next = Done path turns decisions stands ended sorts own part stores old new
      (at path turns decisions stands ended sorts own value next new)

  abbrev pub Stops : {A : Type 0} → (Evidence → Part A) → Stores → S → S → Type 0
  Stops part stores old new = Halted path turns decisions stands ended sorts own part stores old new

  abbrev pub May : {A : Type 0} → (Evidence → Part A) → Stores → S → Type 0
  May part stores asker = MayBegin path turns decisions stands ended sorts own part stores asker

  abbrev pub value_of : core.Expression → Evidence → Part Value
  value_of x = run_plain reading scene x

  -- two values, and what is done with them
  module _ (x y : core.Expression) (k : Evidence → Value → Value → Part Value) (stores : Stores) (old : S) where
    abbrev pub rest : Evidence → Value → Part Value
    rest e v t n c = chain (value_of y e t n c) (k e v)

    abbrev pub two : Evidence → Part Value
    two e s m d = chain (value_of x e s m d) (rest e)

    pub two_first : May two stores old → May (value_of x) stores old
    two_first ready = sequences.may_first path turns decisions stands ended sorts own (value_of x) rest stores old ready

    pub two_stops : (new : S) → Stops (value_of x) stores old new → Stops two stores old new
    two_stops new h = sequences.halted_first path turns decisions stands ended sorts own (value_of x) rest stores old new h

    module _ (mid : S) (next : Stores) (v : Evidence → Value) (one : OkWith (value_of x) stores old mid v next) where
      pub two_second : May two stores old → May (value_of y) next mid
      two_second ready = sequences.may_first path turns decisions stands ended sorts own (value_of y) (λ e. k e (v e)) next mid
          (sequences.may_then path turns decisions stands ended sorts own (value_of x) rest stores old mid next v one ready)

      pub two_stops_second : (new : S) → Stops (value_of y) next mid new → Stops two stores old new
      two_stops_second new h = sequences.halted_then path turns decisions stands ended sorts own (value_of x) rest stores old
          mid next v one new
          (sequences.halted_first path turns decisions stands ended sorts own (value_of y) (λ e. k e (v e)) next mid new h)

      module _ (last : S) (after : Stores) (w : Evidence → Value) (other : OkWith (value_of y) next mid last w after) where
        abbrev pub third : Evidence → Part Value
        third e = k e (v e) (w e)

        pub two_third : May two stores old → May third after last
        two_third ready = sequences.may_then path turns decisions stands ended sorts own (value_of y) (λ e. k e (v e)) next mid
            last after w other
            (sequences.may_then path turns decisions stands ended sorts own (value_of x) rest stores old mid next v one ready)

        pub two_sorted : May two stores old → IsSorted path turns decisions sorts last
        two_sorted ready =
            sequences.may_sorted path turns decisions stands ended sorts own third after last (two_third ready)

        pub two_done : (new : S) (came : Evidence → Came Value)
            → Done path turns decisions stands ended sorts own third after last new came
            → Done path turns decisions stands ended sorts own two stores old new came
        two_done new came h = sequences.done_then path turns decisions stands ended sorts own (value_of x) rest stores old mid
            next v one new came
            (sequences.done_then path turns decisions stands ended sorts own (value_of y) (λ e. k e (v e)) next mid last after
            w other new came h)

        pub two_stops_third : (new : S) → Stops third after last new → Stops two stores old new
        two_stops_third new h = sequences.halted_then path turns decisions stands ended sorts own (value_of x) rest stores old
            mid next v one new
            (sequences.halted_then path turns decisions stands ended sorts own (value_of y) (λ e. k e (v e)) next mid last after
            w other new h)

  -- one value, and what is done with it
  module _ (x : core.Expression) (k : Evidence → Value → Part Value) (stores : Stores) (old : S) where
    abbrev pub single : Evidence → Part Value
    single e s m d = chain (value_of x e s m d) (k e)

    pub single_first : May single stores old → May (value_of x) stores old
    single_first ready = sequences.may_first path turns decisions stands ended sorts own (value_of x) k stores old ready

    pub single_stops : (new : S) → Stops (value_of x) stores old new → Stops single stores old new
    single_stops new h = sequences.halted_first path turns decisions stands ended sorts own (value_of x) k stores old new h

  pub opposite_done : (x : core.Expression) (stores : Stores) (old new : S) (next : Stores) (v : Evidence → Value) (r : Operand)
      → OkWith (value_of x) stores old new v next → ((e : Evidence) → operand_at e.values r ≡ value.Truth (not (truth_in (v e))))
      → OkWith (value_of (core.Not x)) stores old new (λ e. operand_at e.values r) next
  opposite_done x stores old new next v r one same = sequences.done_then path turns decisions stands ended sorts own (value_of x)
      (λ e w. gone (value.Truth (not (truth_in w)))) stores old new next v one new
      (at path turns decisions stands ended sorts own (λ e. operand_at e.values r) next new)
      (sequences.done_as path turns decisions stands ended sorts own next new (λ e. value.Truth (not (truth_in (v e))))
      (λ e. operand_at e.values r) (λ e. sym (same e)))

  -- a value that decides
  module _ {B : Type 0} (x : core.Expression) (yes other : Evidence → Part B) (stores : Stores) (old : S) where
    abbrev pub decides : Evidence → Value → Part B
    decides e v t = (hooks e.values e.turns).deciding (truth_in v) (if truth_in v then yes e t else other e t)

    abbrev pub branch : Evidence → Part B
    branch e s m d = chain (value_of x e s m d) (decides e)

    pub branch_first : May branch stores old → May (value_of x) stores old
    branch_first ready = sequences.may_first path turns decisions stands ended sorts own (value_of x) decides stores old ready

    pub branch_stops : (new : S) → Stops (value_of x) stores old new → Stops branch stores old new
    branch_stops new h = sequences.halted_first path turns decisions stands ended sorts own (value_of x) decides stores old new h

    module _ (mid : S) (next : Stores) (v : Evidence → Value) (one : OkWith (value_of x) stores old mid v next) where
      abbrev pub truth : Evidence → Bool
      truth e = truth_in (v e)

      pub branch_sorted : May branch stores old → IsSorted path turns decisions sorts mid
      branch_sorted ready = sequences.may_sorted path turns decisions stands ended sorts own (λ e. decides e (v e)) next mid
          (sequences.may_then path turns decisions stands ended sorts own (value_of x) decides stores old mid next v one ready)

      pub branch_unasked : (new : S) → Goes path turns decisions stands ended mid new
          → StopsShown path turns decisions sorts mid new (λ e. Is (truth e) ∷ []) → sorts new ≡ sorts mid
          → StaysSorted path turns decisions sorts mid new → Stops branch stores old new
      branch_unasked new goes tells same sorted = sequences.halted_then path turns decisions stands ended sorts own (value_of x)
          decides stores old mid next v one new
          (sequences.halted_asked path turns decisions stands ended sorts own truth yes other next mid new goes tells same sorted)

      module _ (last : S) (told : Bool) (asks : Asks path turns decisions stands ended sorts mid last)
          (tells : TellsShown path turns decisions sorts mid last (λ e. Is (truth e) ∷ []))
          (sorted : StaysSorted path turns decisions sorts mid last) (says : Under path turns last (λ e. told ≡ truth e)) where
        said : (b : Bool) → told ≡ b → Under path turns last (λ e. b ≡ truth e)
        said b is = subst (λ c. Under path turns last (λ e. c ≡ truth e)) is says

        pub yes_may : told ≡ true → May branch stores old → May yes next last
        yes_may is ready = sequences.may_decided path turns decisions stands ended sorts own truth yes other next mid last true
            asks tells sorted (said true is)
            (sequences.may_then path turns decisions stands ended sorts own (value_of x) decides stores old mid next v one ready)

        pub no_may : told ≡ false → May branch stores old → May other next last
        no_may is ready = sequences.may_decided path turns decisions stands ended sorts own truth yes other next mid last false
            asks tells sorted (said false is)
            (sequences.may_then path turns decisions stands ended sorts own (value_of x) decides stores old mid next v one ready)

        pub yes_done : told ≡ true → (new : S) (came : Evidence → Came B)
            → Done path turns decisions stands ended sorts own yes next last new came
            → Done path turns decisions stands ended sorts own branch stores old new came
        yes_done is new came h = sequences.done_then path turns decisions stands ended sorts own (value_of x) decides stores old
            mid next v one new came
            (sequences.done_decided path turns decisions stands ended sorts own truth yes other next mid last true asks tells
            sorted (said true is) new came h)

        pub no_done : told ≡ false → (new : S) (came : Evidence → Came B)
            → Done path turns decisions stands ended sorts own other next last new came
            → Done path turns decisions stands ended sorts own branch stores old new came
        no_done is new came h = sequences.done_then path turns decisions stands ended sorts own (value_of x) decides stores old
            mid next v one new came
            (sequences.done_decided path turns decisions stands ended sorts own truth yes other next mid last false asks tells
            sorted (said false is) new came h)

        pub yes_stops : told ≡ true → (new : S) → Stops yes next last new → Stops branch stores old new
        yes_stops is new h = sequences.halted_then path turns decisions stands ended sorts own (value_of x) decides stores old
            mid next v one new
            (sequences.halted_decided path turns decisions stands ended sorts own truth yes other next mid last true asks tells
            sorted (said true is) new h)

        pub no_stops : told ≡ false → (new : S) → Stops other next last new → Stops branch stores old new
        no_stops is new h = sequences.halted_then path turns decisions stands ended sorts own (value_of x) decides stores old
            mid next v one new
            (sequences.halted_decided path turns decisions stands ended sorts own truth yes other next mid last false asks tells
            sorted (said false is) new h)
