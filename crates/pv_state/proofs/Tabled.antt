-- A use of a tabled operation that there was none of: its value is taken.
use Rattle.std.proofs.Common.{◌≡◌, ℕ, suc, ◌+◌, ℤ, pos, List, [], ◌∷◌, ◌++◌, length, length-append, refl, sym, ap, subst, ◌∙◌, inl, inr, arith, rules}
use Rattle.std.specs.Prelude.{Option, Some, None, slice_get}
use Rattle.std.proofs.lemmas.Int.{ints}
use Rattle.pv_ast.specs.declared.PvType.TheVariants.{Int}
use Rattle.pv_values.specs.declared.value.Value.{Value}
use Rattle.pv_values.specs.declared.value.Value.TheVariants as value
use Rattle.pv_linear.specs.declared.Sort.{Sort}
use Rattle.pv_linear.specs.declared.Sort.TheVariants.{Number, Reference}
use Rattle.pv_linear.specs.declared.Literal.{Literal}
use Rattle.pv_linear.specs.declared.Term.{Term}
use Rattle.pv_linear.specs.declared.Symbol.{Symbol}
use Rattle.pv_linear.specs.Values.{Values, number_of, term_value}
use Rattle.pv_linear.specs.Sorts.{HasSort}
use Rattle.pv_linear.specs.Evidence.{Evidence, Follows, Under}
use Rattle.pv_linear.specs.Decisions.{Decision}
use Rattle.pv_linear.specs.Asking.{Goes, Asks, Stays, Rests}
use Rattle.pv_linear.specs.Keeping.{AreUp}
use Rattle.pv_picks.specs.declared.plain.Operation.{Operation}
use Rattle.pv_picks.specs.Lazy.Patterns.{Shown}
use Rattle.pv_picks.specs.Plain.Trees.{operation_of}
use Rattle.pv_picks.specs.Lazy.Runs.{value_used, operation_or, from_values, at_end}
use Rattle.pv_picks.specs.Lazy.Parts.{Came, Ran, gone}
use Rattle.pv_picks.specs.Lazy.Parts as parts
use Rattle.pv_state.specs.declared.scene.SymbolScene.{SymbolScene}
use Rattle.pv_state.specs.declared.scene.Stores.{Stores}
use Rattle.pv_state.specs.declared.scene.Met.{Met}
use Rattle.pv_state.specs.declared.scene.SymbolPick.{SymbolPick}
use Rattle.pv_state.specs.declared.scene.SymbolPick.TheVariants as pick
use Rattle.pv_state.specs.declared.uses.TabledUse.{TabledUse}
use Rattle.pv_state.specs.Parts.{StaysSorted, TellsShown, StopsShown, Does, Halts}
use Rattle.pv_state.specs.Values.{IsTerm}
use Rattle.pv_state.specs.Uses.{AreUses, use_at, used_at, uses_at, shown_at, value_of_symbol}
use Rattle.pv_state.specs.States.{AreMet, IsMadePick, ArePicks, AreStores, state_at, memory_at, drawn_at, went_at}
use Rattle.pv_state.specs.Runs.{begun, run_use, run_new_use}
use Rattle.pv_linear.proofs.SortingLemmas.{has_more}
use Rattle.pv_state.proofs.Asked.{does_here, does_shown, halts_shown, halts_asked}
use Rattle.pv_state.proofs.Orders.{shown_met, term_more, uses_more, uses_push}
use Rattle.pv_state.proofs.Taken.{Falls, Makes, up_to, does_taken, does_as, halts_here, halts_taken}

uses_append : (v : Values) (us ws : List TabledUse) → uses_at v (us ++ ws) ≡ uses_at v us ++ uses_at v ws
uses_append v [] ws = refl
uses_append v (u ∷ us) ws = ap (λ xs. used_at v u ∷ xs) (uses_append v us ws)

pub new_number : (v : Values) (n : ℕ) (t : Term) → t.symbol.0 ≡ n + 1 → t.plus ≡ pos 0 → v n ≡ term_value v t
unfolding number_of
new_number v n t s p =
    let q : t.symbol.0 ≡ suc n = omega (arith, s) in
    let r : number_of v t.symbol.0 ≡ v n = ap (λ k. number_of v k) q in
    search (rules, ints, r, p)

pub new_sort : (made : List Sort) (s : Sort) (k : ℕ) → k ≡ length made + 1 → HasSort (made ++ s ∷ []) s k
unfolding HasSort
new_sort made s k e = let q : k ≡ suc (length made) = omega (arith, e) in
    subst (λ n. HasSort (made ++ s ∷ []) s n) (sym q) (last made)
  where
    last : (xs : List Sort) → slice_get (xs ++ s ∷ []) (length xs) ≡ Some s
    last [] = refl
    last (x ∷ xs) = last xs

pub new_sort_in : (made new : List Sort) (s : Sort) (k : ℕ) → new ≡ made ++ s ∷ [] → k ≡ length made + 1 → HasSort new s k
new_sort_in made new s k p e = subst (λ ts. HasSort ts s k) (sym p) (new_sort made s k e)

pub met_more : (made more : List Sort) (ms : List Met) → AreMet made ms → AreMet (made ++ more) ms
unfolding AreMet
met_more made more [] h = tt
met_more made more (m ∷ ms) h = (has_more made more Reference m.symbol.0 h.0, met_more made more ms h.1)

pick_more : (made more : List Sort) (p : SymbolPick) → IsMadePick made p → IsMadePick (made ++ more) p
pick_more made more (pick.Number s symbol) h = has_more made more s symbol.0 h
pick_more made more (pick.Turn n) h = tt

pub picks_more : (made more : List Sort) (ps : List SymbolPick) → ArePicks made ps → ArePicks (made ++ more) ps
unfolding ArePicks
picks_more made more [] h = tt
picks_more made more (p ∷ ps) h = (pick_more made more p h.0, picks_more made more ps h.1)

-- what was made stays made
pub stores_more : (made more : List Sort) (stores : Stores) → AreStores made stores → AreStores (made ++ more) stores
stores_more made more stores h = record {
  uses = uses_more made more stores.uses.items h.uses;
  met = met_more made more stores.met.items h.met;
  picks = picks_more made more stores.picks.items h.picks;
}

pub new_stores : (made new : List Sort) (stores next : Stores) (operation : Operation) (a b : Term) (value : Symbol)
    → new ≡ made ++ Number ∷ [] → value.0 ≡ length made + 1 → IsTerm made a → IsTerm made b
    → next.uses.items ≡ stores.uses.items ++ record { operation = operation; left = a; right = b; value = value } ∷ []
    → next.met ≡ stores.met → next.picks ≡ stores.picks → AreStores made stores → AreStores new next
new_stores made new stores next operation a b value made_new symbol ha hb uses met picks h =
    let all : AreStores new stores =
    subst (λ ts. AreStores ts stores) (sym made_new) (stores_more made (Number ∷ []) stores h) in
    record {
      uses = subst (λ us. AreUses new us) (sym uses) (uses_push new stores.uses.items _ all.uses (record {
        left = subst (λ ts. IsTerm ts a) (sym made_new) (term_more made (Number ∷ []) a ha);
        right = subst (λ ts. IsTerm ts b) (sym made_new) (term_more made (Number ∷ []) b hb);
        value = new_sort_in made new Number value.0 made_new symbol;
      }));
      met = met_in met all.met;
      picks = picks_in picks all.picks;
    }
  where
    met_in : next.met ≡ stores.met → AreMet new stores.met.items → AreMet new next.met.items
    met_in p k = subst (λ ms. AreMet new ms.items) (sym p) k

    picks_in : next.picks ≡ stores.picks → ArePicks new stores.picks.items → ArePicks new next.picks.items
    picks_in p k = subst (λ ps. ArePicks new ps.items) (sym p) k

-- no number stands in the place of a reference
pub falls_none : {A : Type 0} (before made : List Sort) (v : Values) (r : Ran A) → made ≡ before ++ Number ∷ []
    → Falls before made v r
falls_none before made v r same up over =
    absurd (over (subst (λ ts. AreUp ts v) (sym same) (up_to before Number v up (λ p. absurd (cc p)))))

module _ {S : Type 0} (path : S → List Literal) (turns : S → List ℕ) (decisions : S → List Decision)
    (stands : S → Evidence → Type 0) (ended : S → ℕ) (sorts : S → List Sort) (old new : S) (own : SymbolScene) (stores : Stores)
    (operation : Operation) (a b : Term) (goes : Goes path turns decisions stands ended old new)
    (stays : Stays path turns decisions old new) (made : sorts new ≡ sorts old ++ Number ∷ [])
    (makes : Makes path turns decisions stands ended sorts Number old new) where
  -- what comes behind it
  abbrev came : Evidence → Came Value
  came e = parts.Goes (value.Number (e.values (length (sorts old)))) (state_at e.values own stores)
      (record (memory_at e.values stores) {
        uses = uses_at e.values stores.uses.items
            ++ record { used = use_at e.values operation a b; value = e.values (length (sorts old)) } ∷ [];
      })
      (drawn_at (suc (length (sorts old))) (length (turns old)))

  abbrev part : Evidence → Ran Value
  part = begun (run_new_use operation a b) own stores (length (sorts old)) (length (turns old))

  pub new_does : (next : Stores) (t : Term) → turns new ≡ turns old → t.symbol.0 ≡ length (sorts old) + 1 → t.plus ≡ pos 0
      → next.met ≡ stores.met → next.picks ≡ stores.picks
      → next.uses.items ≡ stores.uses.items ++ record { operation = operation; left = a; right = b; value = t.symbol } ∷ []
      → Does path turns decisions stands ended sorts old new part
      (λ e. went_at e own next (value.Number (term_value e.values t)) (length (sorts new)) (length (turns new)))
  new_does next t turned symbol plus met picks uses =
      does_as path turns decisions stands ended sorts old new part came _ (λ e f up. same e)
      (does_taken path turns decisions stands ended sorts old new new Int (λ e. e.values (length (sorts old)))
      (λ e. at_end (came e)) goes stays made makes (λ e. falls_none (sorts old) (sorts new) e.values (at_end (came e)) made)
      came (does_here path turns decisions stands ended sorts new came))
    where
      same : (e : Evidence) → came e
          ≡ went_at e own next (value.Number (term_value e.values t)) (length (sorts new)) (length (turns new))
      same e =
          let z : e.values (length (sorts old)) ≡ term_value e.values t = new_number e.values (length (sorts old)) t symbol
          plus in
          let y : e.values (length (sorts old)) ≡ number_of e.values t.symbol.0 =
          new_number e.values (length (sorts old)) (record { symbol = t.symbol; plus = pos 0 }) symbol refl
          ∙ search (rules, ints) in
          let us : uses_at e.values next.uses.items ≡ uses_at e.values stores.uses.items
          ++ record { used = use_at e.values operation a b; value = e.values (length (sorts old)) } ∷ [] =
          ap (λ xs. uses_at e.values xs) uses ∙ uses_append e.values stores.uses.items _
          ∙ ap (λ n. uses_at e.values stores.uses.items ++ record { used = use_at e.values operation a b; value = n } ∷ [])
          (sym y) in
          let n : suc (length (sorts old)) ≡ length (sorts new) =
          let l : length (sorts new) ≡ length (sorts old) + 1 =
          ap (λ ts. length ts) made ∙ length-append (sorts old) (Number ∷ []) in omega (arith, l) in
          cc (z, us, n, turned, met, picks)

  -- its symbol was made, and it couldn't be remembered
  pub new_halts : Halts path turns decisions stands ended sorts old new part
  new_halts = halts_taken path turns decisions stands ended sorts old new new Int (λ e. e.values (length (sorts old)))
      (λ e. at_end (came e)) goes stays made makes (λ e. falls_none (sorts old) (sorts new) e.values (at_end (came e)) made)
      (halts_here path turns decisions stands ended sorts new (λ e. at_end (came e)))

-- A use is held against those before it

pub used_tells : {S : Type 0} (path : S → List Literal) (turns : S → List ℕ) (decisions : S → List Decision)
    (sorts : S → List Sort) (old new : S) (operation : Operation) (a b : Term) (us : List TabledUse)
    → Rests path turns decisions old new (λ e. shown_at e.values operation a b us)
    → TellsShown path turns decisions sorts old new (λ e. shown_at e.values operation a b us)
used_tells path turns decisions sorts old new operation a b us rests e f fe ff level up high meet =
    let same : shown_at e.values operation a b us ≡ shown_at f.values operation a b us =
    shown_met e.values f.values operation a b us meet in
    elim (rests e f fe ff level same) [
      | inl t ↦ inl (t.0, (t.1.0, (t.1.1.0, same)))
      | inr g ↦ inr g
    ]

pub used_stops : {S : Type 0} (path : S → List Literal) (turns : S → List ℕ) (decisions : S → List Decision)
    (sorts : S → List Sort) (old new : S) (operation : Operation) (a b : Term) (us : List TabledUse)
    → Rests path turns decisions old new (λ e. shown_at e.values operation a b us)
    → StopsShown path turns decisions sorts old new (λ e. shown_at e.values operation a b us)
used_stops path turns decisions sorts old new operation a b us rests e f fe ff level up high meet =
    rests e f fe ff level (shown_met e.values f.values operation a b us meet)

no_more : (v : Values) (s : Symbol) → number_of v s.0 ≡ term_value v (record { symbol = s; plus = pos 0 })
no_more v s = search (rules, ints)

module _ {S : Type 0} (path : S → List Literal) (turns : S → List ℕ) (decisions : S → List Decision)
    (stands : S → Evidence → Type 0) (ended : S → ℕ) (sorts : S → List Sort) (old mid : S) (own : SymbolScene) (stores : Stores)
    (operation : Operation) (a b : Term) (us : List TabledUse) (is : us ≡ stores.uses.items) where
  -- the uses that are looked at are those of the stores
  abbrev Rested : List TabledUse → Type 0
  Rested xs = Rests path turns decisions old mid (λ e. shown_at e.values operation a b xs)

  abbrev Found : Option Symbol → List TabledUse → Type 0
  Found found xs = Under path turns mid (λ e. value_of_symbol e.values found
      ≡ value_used (uses_at e.values xs) (use_at e.values operation a b))

  abbrev shows : Evidence → List Shown
  shows e = shown_at e.values operation a b stores.uses.items

  abbrev value_in : Option ℤ → Evidence → Ran Value
  value_in found e = operation_or parts.Stopped (from_values e.values e.turns) found (operation_of operation)
      (term_value e.values a) (term_value e.values b) (λ z. gone (value.Number z) (state_at e.values own stores))
      (memory_at e.values stores) (drawn_at (length (sorts old)) (length (turns old)))

  abbrev behind : Evidence → Ran Value
  behind e = value_in (value_used (uses_at e.values stores.uses.items) (use_at e.values operation a b)) e

  pub use_found : (found : Option Symbol) (s : Symbol) → found ≡ Some s → Asks path turns decisions stands ended sorts old mid
      → Rested us → StaysSorted path turns decisions sorts old mid
      → Found found us
      → Does path turns decisions stands ended sorts old mid
      (begun (run_use operation a b) own stores (length (sorts old)) (length (turns old)))
      (λ e. went_at e own stores (value.Number (term_value e.values (record { symbol = s; plus = pos 0 })))
      (length (sorts mid)) (length (turns mid)))
  use_found found s some asks rests sorted says =
      does_shown path turns decisions stands ended sorts old mid mid shows behind (λ e. at_end (came e)) asks
      (used_tells path turns decisions sorts old mid operation a b stores.uses.items (subst Rested is rests)) sorted
      (λ e f up. ap (λ found. value_in found e) (sym (subst (Found (Some s)) is (subst (λ o. Found o us) some says) e f)) ∙
      same e) came
      (does_here path turns decisions stands ended sorts mid came)
    where
      came : Evidence → Came Value
      came e = went_at e own stores (value.Number (term_value e.values (record { symbol = s; plus = pos 0 })))
          (length (sorts mid)) (length (turns mid))

      same : (e : Evidence) → value_in (Some (number_of e.values s.0)) e ≡ at_end (came e)
      same e =
          let z : number_of e.values s.0 ≡ term_value e.values (record { symbol = s; plus = pos 0 }) = no_more e.values s in
          cc (z, asks.sorts_same, asks.turns_same)

  module _ (asks : Asks path turns decisions stands ended sorts old mid) (rests : Rested us)
      (sorted : StaysSorted path turns decisions sorts old mid)
      (found : Option Symbol) (none : found ≡ None) (says : Found found us) where
    abbrev rest : Evidence → Ran Value
    rest = begun (run_new_use operation a b) own stores (length (sorts mid)) (length (turns mid))

    same : (e : Evidence) → Follows (path mid) (turns mid) e → AreUp (sorts mid) e.values → behind e ≡ rest e
    same e f up = ap (λ found. value_in found e) (sym (subst (Found None) is (subst (λ o. Found o us) none says) e f)) ∙ cc
        (asks.sorts_same, asks.turns_same)

    pub use_made : (new : S) (came : Evidence → Came Value) → Does path turns decisions stands ended sorts mid new rest came
        → Does path turns decisions stands ended sorts old new
        (begun (run_use operation a b) own stores (length (sorts old)) (length (turns old))) came
    use_made new came two = does_shown path turns decisions stands ended sorts old mid new shows behind rest asks
        (used_tells path turns decisions sorts old mid operation a b stores.uses.items (subst Rested is rests)) sorted same
        came two

    pub use_refused : (new : S) → Halts path turns decisions stands ended sorts mid new rest
        → Halts path turns decisions stands ended sorts old new
        (begun (run_use operation a b) own stores (length (sorts old)) (length (turns old)))
    use_refused new two = halts_shown path turns decisions stands ended sorts old mid new shows behind rest asks
        (used_tells path turns decisions sorts old mid operation a b stores.uses.items (subst Rested is rests)) sorted same two

  pub use_unasked : Goes path turns decisions stands ended old mid → Rested us
      → sorts mid ≡ sorts old → StaysSorted path turns decisions sorts old mid
      → Halts path turns decisions stands ended sorts old mid
      (begun (run_use operation a b) own stores (length (sorts old)) (length (turns old)))
  use_unasked goes rests same sorted = halts_asked path turns decisions stands ended sorts old mid shows behind goes
      (used_stops path turns decisions sorts old mid operation a b stores.uses.items (subst Rested is rests)) same sorted
