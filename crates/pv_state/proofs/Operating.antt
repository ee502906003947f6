-- What an operation gives: it is worked out, or a use of a tabled one.
use Rattle.std.proofs.Common.{◌≡◌, ℕ, ℤ, pos, List, length, refl, ap, subst, ◌∙◌, arith, rules}
use Rattle.std.proofs.Math.Path.{fun_ext}
use Rattle.pv_base.specs.declared.Span.{Span}
use Rattle.pv_values.specs.declared.value.Value.{Value}
use Rattle.pv_values.specs.declared.value.Value.TheVariants as value
use Rattle.pv_linear.specs.declared.Sort.{Sort}
use Rattle.pv_linear.specs.declared.Sort.TheVariants as sort
use Rattle.pv_linear.specs.declared.Literal.{Literal}
use Rattle.pv_linear.specs.declared.Term.{Term}
use Rattle.pv_linear.specs.Sorts.{HasSort}
use Rattle.pv_linear.specs.Values.{Values, term_value}
use Rattle.pv_linear.specs.Evidence.{Evidence}
use Rattle.pv_linear.specs.Decisions.{Decision}
use Rattle.pv_picks.specs.declared.plain.Operation.{Operation}
use Rattle.pv_picks.specs.declared.plain.Manner.TheVariants.{Plain, Tabled}
use Rattle.pv_picks.specs.Plain.Trees.{operation_of}
use Rattle.pv_picks.specs.Formulas.Values.{number_in, arithmetic}
use Rattle.pv_picks.specs.Lazy.Parts.{Came, Ran, gone, hooks}
use Rattle.pv_state.specs.declared.scene.SymbolScene.{SymbolScene}
use Rattle.pv_state.specs.declared.scene.Stores.{Stores}
use Rattle.pv_state.specs.declared.operands.Operand.{Operand}
use Rattle.pv_state.specs.declared.values.SymbolValue.TheVariants.{Number}
use Rattle.pv_state.specs.Parts.{Does, Halts}
use Rattle.pv_state.specs.Values.{IsMade, value_at}
use Rattle.pv_state.specs.States.{state_at, memory_at, drawn_at, went_at}
use Rattle.pv_state.specs.Runs.{operand_at, begun, run_use, run_operation}
use Rattle.pv_state.proofs.Asked.{does_here}
use Rattle.pv_state.proofs.Orders.{is_number}

pub number_value : (v : Values) (t : Term) → value.Number (term_value v t) ≡ value_at v (Number t)
unfolding value_at
number_value v t = refl

pub term_made : (made : List Sort) (t : Term) → HasSort made sort.Number t.symbol.0 → t.plus ≡ pos 0 → IsMade made (Number t)
unfolding IsMade
term_made made t h p = is_number made t h (search (rules, arith, p))

-- two parts that are the same part
module _ {S A : Type 0} (path : S → List Literal) (turns : S → List ℕ) (decisions : S → List Decision)
    (stands : S → Evidence → Type 0) (ended : S → ℕ) (sorts : S → List Sort) (old new : S) (x y : Evidence → Ran A)
    (same : (e : Evidence) → x e ≡ y e) where
  pub does_same : (came : Evidence → Came A) → Does path turns decisions stands ended sorts old new x came
      → Does path turns decisions stands ended sorts old new y came
  does_same came h = subst (λ o. Does path turns decisions stands ended sorts old new o came) (fun_ext same) h

  pub halts_same : Halts path turns decisions stands ended sorts old new x
      → Halts path turns decisions stands ended sorts old new y
  halts_same h = subst (λ o. Halts path turns decisions stands ended sorts old new o) (fun_ext same) h

module _ {S : Type 0} (path : S → List Literal) (turns : S → List ℕ) (decisions : S → List Decision)
    (stands : S → Evidence → Type 0) (ended : S → ℕ) (sorts : S → List Sort) (own : SymbolScene) (stores : Stores)
    (operation : Operation) (a b : Operand) (span : Span) (l r : Term)
    (one : (v : Values) → term_value v l ≡ number_in (operand_at v a))
    (two : (v : Values) → term_value v r ≡ number_in (operand_at v b)) where
  abbrev used : ℕ → ℕ → Evidence → ℤ → ℤ → Ran Value
  used taken turned e x y = (hooks e.values e.turns).using (operation_of operation) x y
      (λ z. gone (value.Number z) (state_at e.values own stores)) (memory_at e.values stores) (drawn_at taken turned)

  used_same : (taken turned : ℕ) (e : Evidence) → begun (run_use operation l r) own stores taken turned e
      ≡ begun (run_operation Tabled operation a b span) own stores taken turned e
  used_same taken turned e = ap (λ x. used taken turned e x (term_value e.values r)) (one e.values)
      ∙ ap (λ y. used taken turned e (number_in (operand_at e.values a)) y) (two e.values)

  pub does_used : (old new : S) (next : Stores) (t : Term)
      → Does path turns decisions stands ended sorts old new
      (begun (run_use operation l r) own stores (length (sorts old)) (length (turns old)))
      (λ e. went_at e own next (value.Number (term_value e.values t)) (length (sorts new)) (length (turns new)))
      → Does path turns decisions stands ended sorts old new
      (begun (run_operation Tabled operation a b span) own stores (length (sorts old)) (length (turns old)))
      (λ e. went_at e own next (value_at e.values (Number t)) (length (sorts new)) (length (turns new)))
  unfolding value_at
  does_used old new next t h = does_same path turns decisions stands ended sorts old new
      (begun (run_use operation l r) own stores (length (sorts old)) (length (turns old)))
      (begun (run_operation Tabled operation a b span) own stores (length (sorts old)) (length (turns old)))
      (used_same (length (sorts old)) (length (turns old)))
      (λ e. went_at e own next (value_at e.values (Number t)) (length (sorts new)) (length (turns new))) h

  pub halts_used : (old new : S) → Halts path turns decisions stands ended sorts old new
      (begun (run_use operation l r) own stores (length (sorts old)) (length (turns old)))
      → Halts path turns decisions stands ended sorts old new
      (begun (run_operation Tabled operation a b span) own stores (length (sorts old)) (length (turns old)))
  halts_used old new h = halts_same path turns decisions stands ended sorts old new
      (begun (run_use operation l r) own stores (length (sorts old)) (length (turns old)))
      (begun (run_operation Tabled operation a b span) own stores (length (sorts old)) (length (turns old)))
      (used_same (length (sorts old)) (length (turns old))) h

  abbrev here : S → Evidence → Value → Ran Value
  here asker e v =
      gone v (state_at e.values own stores) (memory_at e.values stores) (drawn_at (length (sorts asker)) (length (turns asker)))

  pub does_plain : (asker : S) (x : Operand)
      → ((v : Values) → operand_at v x ≡ value.Number (arithmetic (operation_of operation) (term_value v l) (term_value v r)))
      → Does path turns decisions stands ended sorts asker asker
      (begun (run_operation Plain operation a b span) own stores (length (sorts asker)) (length (turns asker)))
      (λ e. went_at e own stores (operand_at e.values x) (length (sorts asker)) (length (turns asker)))
  does_plain asker x says = does_same path turns decisions stands ended sorts asker asker _
      (begun (run_operation Plain operation a b span) own stores (length (sorts asker)) (length (turns asker)))
      (λ e. ap (λ v. here asker e v) (says e.values ∙ worked e.values))
      (λ e. went_at e own stores (operand_at e.values x) (length (sorts asker)) (length (turns asker)))
      (does_here path turns decisions stands ended sorts asker
      (λ e. went_at e own stores (operand_at e.values x) (length (sorts asker)) (length (turns asker))))
    where
      worked : (v : Values) → value.Number (arithmetic (operation_of operation) (term_value v l) (term_value v r))
          ≡ value.Number (arithmetic (operation_of operation) (number_in (operand_at v a)) (number_in (operand_at v b)))
      worked v = ap (λ x. value.Number (arithmetic (operation_of operation) x (term_value v r))) (one v)
          ∙ ap (λ y. value.Number (arithmetic (operation_of operation) (number_in (operand_at v a)) y)) (two v)
