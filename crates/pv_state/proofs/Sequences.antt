-- Parts in sequence, as calls do them: one part and then another, a question and what it decides.
use Rattle.std.proofs.Common.{◌≡◌, ℕ, Bool, List, [], ◌∷◌, length, sym, ap, subst, ◌∙◌, if◌then◌else◌}
use Rattle.pv_linear.specs.declared.Sort.{Sort}
use Rattle.pv_linear.specs.declared.Literal.{Literal}
use Rattle.pv_linear.specs.Evidence.{Evidence, Follows, Under}
use Rattle.pv_linear.specs.Decisions.{Decision, IsFront}
use Rattle.pv_linear.specs.Asking.{Goes, Asks}
use Rattle.pv_linear.specs.Keeping.{AreUp}
use Rattle.pv_picks.specs.Lazy.Patterns.{Shown, Is}
use Rattle.pv_picks.specs.Lazy.Runs.{showing, at_end}
use Rattle.pv_picks.specs.Lazy.Parts.{Came, Ran, Part, chain, gone}
use Rattle.pv_state.specs.declared.scene.SymbolScene.{SymbolScene}
use Rattle.pv_state.specs.declared.scene.Stores.{Stores}
use Rattle.pv_state.specs.Parts.{Does, Halts, Ready, StaysSorted, IsSorted, TellsShown, StopsShown}
use Rattle.pv_state.specs.States.{IsMadeScene, AreStores, state_at, memory_at, drawn_at, went_at}
use Rattle.pv_state.specs.Runs.{begun}
use Rattle.pv_state.proofs.Asked.{does_here, does_shown, halts_shown, halts_asked, ready_shown, ready_sorted}
use Rattle.pv_state.proofs.Following.{does_then, halts_then, halts_first, ready_first, ready_then}
use Rattle.pv_state.proofs.Taken.{does_as}
use Rattle.pv_state.proofs.Scenes.{scene_more}
use Rattle.pv_state.proofs.Tabled.{stores_more}

-- what was made stays made where more is made
pub scene_grown : (made new : List Sort) (s : SymbolScene) → IsFront made new → IsMadeScene made s → IsMadeScene new s
scene_grown made new s front h = subst (λ ts. IsMadeScene ts s) (sym front.1) (scene_more made front.0 s h)

pub stores_grown : (made new : List Sort) (s : Stores) → IsFront made new → AreStores made s → AreStores new s
stores_grown made new s front h = subst (λ ts. AreStores ts s) (sym front.1) (stores_more made front.0 s h)

module _ {S : Type 0} (path : S → List Literal) (turns : S → List ℕ) (decisions : S → List Decision)
    (stands : S → Evidence → Type 0) (ended : S → ℕ) (sorts : S → List Sort) (own : SymbolScene) where
  -- a part from where an asker stands
  abbrev pub from : {A : Type 0} → (Evidence → Part A) → Stores → S → Evidence → Ran A
  from part stores asker = begun part own stores (length (sorts asker)) (length (turns asker))

  -- where one has gone, with this
  abbrev pub at : {A : Type 0} → (Evidence → A) → Stores → S → Evidence → Came A
  at value stores asker e = went_at e own stores (value e) (length (sorts asker)) (length (turns asker))

  abbrev pub Done : {A : Type 0} → (Evidence → Part A) → Stores → S → S → (Evidence → Came A) → Type 0
  Done part stores old new came = Does path turns decisions stands ended sorts old new (from part stores old) came

  abbrev pub Halted : {A : Type 0} → (Evidence → Part A) → Stores → S → S → Type 0
  Halted part stores old new = Halts path turns decisions stands ended sorts old new (from part stores old)

  abbrev pub MayBegin : {A : Type 0} → (Evidence → Part A) → Stores → S → Type 0
  MayBegin part stores asker = Ready path turns decisions sorts asker (from part stores asker)

  -- one part, and then what goes on with its value
  module _ {A B : Type 0} (first : Evidence → Part A) (rest : Evidence → A → Part B) (stores : Stores) (old : S) where
    abbrev pub both : Evidence → Part B
    both e s m d = chain (first e s m d) (rest e)

    pub may_first : MayBegin both stores old → MayBegin first stores old
    may_first ready = ready_first path turns decisions stands ended sorts old old (from first stores old) rest ready

    pub halted_first : (new : S) → Halted first stores old new → Halted both stores old new
    halted_first new h = halts_first path turns decisions stands ended sorts old new (from first stores old) rest h

    module _ (mid : S) (next : Stores) (value : Evidence → A) (one : Done first stores old mid (at value next mid)) where
      abbrev pub behind : Evidence → Part B
      behind e = rest e (value e)

      pub may_then : MayBegin both stores old → MayBegin behind next mid
      may_then ready = ready_then path turns decisions stands ended sorts old mid old (from first stores old) rest value
          (λ e. state_at e.values own next) (λ e. memory_at e.values next)
          (λ e. drawn_at (length (sorts mid)) (length (turns mid))) ready one

      pub done_then : (new : S) (came : Evidence → Came B) → Done behind next mid new came → Done both stores old new came
      done_then new came two = does_then path turns decisions stands ended sorts old mid new (from first stores old) rest value
          (λ e. state_at e.values own next) (λ e. memory_at e.values next)
          (λ e. drawn_at (length (sorts mid)) (length (turns mid))) came one two

      pub halted_then : (new : S) → Halted behind next mid new → Halted both stores old new
      halted_then new two = halts_then path turns decisions stands ended sorts old mid new (from first stores old) rest value
          (λ e. state_at e.values own next) (λ e. memory_at e.values next)
          (λ e. drawn_at (length (sorts mid)) (length (turns mid))) one two

  -- a part without a step of its own goes on at once
  pub done_here : {A : Type 0} (stores : Stores) (asker : S) (value : Evidence → A)
      → Done (λ e. gone (value e)) stores asker asker (at value stores asker)
  done_here stores asker value = does_here path turns decisions stands ended sorts asker (at value stores asker)

  pub done_as : {A : Type 0} (stores : Stores) (asker : S) (value other : Evidence → A) → ((e : Evidence) → value e ≡ other e)
      → Done (λ e. gone (value e)) stores asker asker (at other stores asker)
  done_as stores asker value other same = does_as path turns decisions stands ended sorts asker asker
      (from (λ e. gone (value e)) stores asker) (at value stores asker) (at other stores asker)
      (λ e f up. ap (λ v. went_at e own stores v (length (sorts asker)) (length (turns asker))) (same e))
      (done_here stores asker value)

  -- a question that is shown, and what its answer gives
  module _ {A : Type 0} (shows : Evidence → List Shown) (stores : Stores) (old new : S) where
    abbrev pub told_part : (Evidence → A) → Evidence → Part A
    told_part value e s m d = showing (shows e) (gone (value e) s m d)

    pub done_told : (value answer : Evidence → A) → Asks path turns decisions stands ended sorts old new
        → TellsShown path turns decisions sorts old new shows → StaysSorted path turns decisions sorts old new
        → Under path turns new (λ e. AreUp (sorts new) e.values → answer e ≡ value e)
        → Done (told_part value) stores old new (at answer stores new)
    done_told value answer asks tells sorted says = does_shown path turns decisions stands ended sorts old new new shows
        (λ e. at_end (at value stores old e)) (λ e. at_end (at answer stores new e)) asks tells sorted
        (λ e f up. same e (says e f up)) (at answer stores new)
        (does_here path turns decisions stands ended sorts new (at answer stores new))
      where
        same : (e : Evidence) → answer e ≡ value e → at_end (at value stores old e) ≡ at_end (at answer stores new e)
        same e p = cc (p, asks.sorts_same, asks.turns_same)

    pub halted_told : (value : Evidence → A) → Goes path turns decisions stands ended old new
        → StopsShown path turns decisions sorts old new shows → sorts new ≡ sorts old
        → StaysSorted path turns decisions sorts old new → Halted (told_part value) stores old new
    halted_told value goes tells same sorted = halts_asked path turns decisions stands ended sorts old new shows
        (λ e. at_end (at value stores old e)) goes tells same sorted

  -- a truth value decides how a run goes on
  module _ {A : Type 0} (truth : Evidence → Bool) (yes no_part : Evidence → Part A) (stores : Stores) (old mid : S) where
    abbrev pub shown_truth : Evidence → List Shown
    shown_truth e = Is (truth e) ∷ []

    abbrev pub decided : Evidence → Part A
    decided e s m d = showing (shown_truth e) ((if truth e then yes e s else no_part e s) m d)

    abbrev pub chosen : Bool → Evidence → Part A
    chosen told e = if told then yes e else no_part e

    abbrev either_way : Bool → ℕ → ℕ → Evidence → Ran A
    either_way told n t e = (if told then yes e (state_at e.values own stores) else no_part e (state_at e.values own stores))
        (memory_at e.values stores) (drawn_at n t)

    module _ (told : Bool) (asks : Asks path turns decisions stands ended sorts old mid)
        (tells : TellsShown path turns decisions sorts old mid shown_truth)
        (sorted : StaysSorted path turns decisions sorts old mid) (says : Under path turns mid (λ e. told ≡ truth e)) where
      here : Evidence → Ran A
      here e = either_way (truth e) (length (sorts old)) (length (turns old)) e

      there : Evidence → Ran A
      there e = either_way told (length (sorts mid)) (length (turns mid)) e

      same : (e : Evidence) → Follows (path mid) (turns mid) e → AreUp (sorts mid) e.values
          → either_way (truth e) (length (sorts old)) (length (turns old)) e
          ≡ either_way told (length (sorts mid)) (length (turns mid)) e
      same e f up = ap (λ b. either_way b (length (sorts old)) (length (turns old)) e) (sym (says e f))
          ∙ ap (λ n. either_way told n (length (turns old)) e) (ap (λ ts. length ts) (sym asks.sorts_same))
          ∙ ap (λ n. either_way told (length (sorts mid)) n e) (ap (λ ts. length ts) (sym asks.turns_same))

      pub done_decided : (new : S) (came : Evidence → Came A)
          → Does path turns decisions stands ended sorts mid new
          (either_way told (length (sorts mid)) (length (turns mid))) came → Done decided stores old new came
      done_decided new came two = does_shown path turns decisions stands ended sorts old mid new shown_truth
          (λ e. either_way (truth e) (length (sorts old)) (length (turns old)) e)
          (either_way told (length (sorts mid)) (length (turns mid))) asks tells sorted same came two

      pub halted_decided : (new : S)
          → Halts path turns decisions stands ended sorts mid new (either_way told (length (sorts mid)) (length (turns mid)))
          → Halted decided stores old new
      halted_decided new two = halts_shown path turns decisions stands ended sorts old mid new shown_truth
          (λ e. either_way (truth e) (length (sorts old)) (length (turns old)) e)
          (either_way told (length (sorts mid)) (length (turns mid))) asks tells sorted same two

      pub may_decided : MayBegin decided stores old
          → Ready path turns decisions sorts mid (either_way told (length (sorts mid)) (length (turns mid)))
      may_decided ready = ready_shown path turns decisions stands ended sorts old mid mid shown_truth
          (λ e. either_way (truth e) (length (sorts old)) (length (turns old)) e)
          (either_way told (length (sorts mid)) (length (turns mid))) asks tells sorted same ready

    pub halted_asked : Goes path turns decisions stands ended old mid
        → StopsShown path turns decisions sorts old mid shown_truth → sorts mid ≡ sorts old
        → StaysSorted path turns decisions sorts old mid → Halted decided stores old mid
    halted_asked goes tells same sorted = halts_asked path turns decisions stands ended sorts old mid shown_truth
        (λ e. either_way (truth e) (length (sorts old)) (length (turns old)) e) goes tells same sorted

  pub may_sorted : {A : Type 0} (part : Evidence → Part A) (stores : Stores) (asker : S) → MayBegin part stores asker
      → IsSorted path turns decisions sorts asker
  may_sorted part stores asker ready =
      ready_sorted path turns decisions stands ended sorts asker (from part stores asker) ready
