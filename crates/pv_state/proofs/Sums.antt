-- Sums and differences of terms.
use Rattle.std.proofs.Common.{◌≡◌, ℕ, ℤ, pos, List, [], ◌∷◌, sym, ap, subst, ◌∙◌, rules}
use Rattle.std.specs.Prelude.{◌+ℤ◌, ◌-ℤ◌, ◌^◌, int_lt}
use Rattle.std.proofs.lemmas.Int.{ints}
use Rattle.pv_linear.specs.declared.Sort.{Sort}
use Rattle.pv_linear.specs.declared.Term.{Term}
use Rattle.pv_linear.specs.Values.{Values, IsWithin, number_of, term_value}
use Rattle.std.proofs.Math.Path.{fun_ext}
use Rattle.pv_values.specs.declared.value.Value.{Value}
use Rattle.pv_values.specs.declared.value.Value.TheVariants as value
use Rattle.pv_values.specs.Heaps.{same_number}
use Rattle.pv_values.specs.Sames.{same_value}
use Rattle.pv_linear.specs.declared.Literal.{Literal}
use Rattle.pv_linear.specs.Evidence.{Evidence}
use Rattle.pv_linear.specs.Decisions.{Decision}
use Rattle.pv_picks.specs.declared.plain.Comparison.{Comparison}
use Rattle.pv_picks.specs.declared.plain.Comparison.TheVariants.{Less, AtMost, Greater, AtLeast}
use Rattle.pv_picks.specs.Plain.Trees.{comparison_of}
use Rattle.pv_picks.specs.Formulas.Values.{number_in, comparison}
use Rattle.pv_picks.specs.Lazy.Patterns.{Shown, Ordered, order_of, shown_of}
use Rattle.pv_state.specs.declared.operands.Operand.{Operand}
use Rattle.pv_state.specs.Runs.{operand_at}
use Rattle.pv_state.specs.Parts.{TellsShown, StopsShown}
use Rattle.pv_linear.specs.Sorts.{HasSort}
use Rattle.pv_state.specs.declared.values.SymbolValue.TheVariants.{Number}
use Rattle.pv_state.specs.Values.{IsTerm, IsMade, value_at}

pub sum_known : (v : Values) (a known t : Term) (plus : ℤ) → t ≡ record { symbol = a.symbol; plus = plus }
    → known.symbol.0 ≡ 0 → plus ≡ a.plus +ℤ known.plus → term_value v t ≡ term_value v a +ℤ term_value v known
unfolding number_of
sum_known v a known t plus e s p =
    let z : number_of v known.symbol.0 ≡ pos 0 = ap (λ k. number_of v k) s in
    ap (λ u. term_value v u) e ∙ search (rules, ints, z, p)

pub sum_term : (made : List Sort) (a : Term) (plus : ℤ) → IsTerm made a → IsWithin (2 ^ 98) plus
    → IsTerm made (record { symbol = a.symbol; plus = plus })
sum_term made a plus h near = record { sort = h.sort; near = near }

pub shifted_right : (l r y t : ℤ) → t ≡ r +ℤ y → (l -ℤ r) -ℤ y ≡ l -ℤ t
shifted_right l r y t p = search (rules, ints, p)

pub shifted_left : (l r x t : ℤ) → t ≡ r +ℤ x → x -ℤ (l -ℤ r) ≡ t -ℤ l
shifted_left l r x t p = search (rules, ints, p)

-- what differs by as much compares alike

pub order_alike : (x y l r : ℤ) → x -ℤ y ≡ l -ℤ r → order_of l r ≡ order_of x y
order_alike x y l r p =
    let less : int_lt l r ≡ int_lt x y = search (rules, ints, p) in
    let more : int_lt r l ≡ int_lt y x = search (rules, ints, p) in
    cc (less, more)

pub compared_alike : (c : Comparison) (x y l r : ℤ) → x -ℤ y ≡ l -ℤ r
    → comparison (comparison_of c) l r ≡ comparison (comparison_of c) x y
compared_alike Less x y l r p = search (rules, ints, p)
compared_alike AtMost x y l r p = search (rules, ints, p)
compared_alike Greater x y l r p = search (rules, ints, p)
compared_alike AtLeast x y l r p = search (rules, ints, p)

pub same_alike : (x y l r : ℤ) → x -ℤ y ≡ l -ℤ r → same_number l r ≡ same_number x y
same_alike x y l r p = search (rules, ints, p)

pub shown_numbers : (a b : Value) → a ≡ value.Number (number_in a) → b ≡ value.Number (number_in b)
    → Ordered (order_of (number_in a) (number_in b)) ∷ [] ≡ shown_of a b
shown_numbers a b p q = sym (ap (λ x. shown_of x b) p ∙ ap (λ y. shown_of (value.Number (number_in a)) y) q)

pub same_numbers : (a b : Value) → a ≡ value.Number (number_in a) → b ≡ value.Number (number_in b)
    → same_number (number_in a) (number_in b) ≡ same_value a b
same_numbers a b p q = sym (ap (λ x. same_value x b) p ∙ ap (λ y. same_value (value.Number (number_in a)) y) q)

-- what is shown, said otherwise
module _ {S : Type 0} (path : S → List Literal) (turns : S → List ℕ) (decisions : S → List Decision) (sorts : S → List Sort)
    (old new : S) (show other : Evidence → List Shown) (same : (e : Evidence) → show e ≡ other e) where
  pub tells_as : TellsShown path turns decisions sorts old new show → TellsShown path turns decisions sorts old new other
  tells_as h = subst (λ s. TellsShown path turns decisions sorts old new s) (fun_ext same) h

  pub stops_as : StopsShown path turns decisions sorts old new show → StopsShown path turns decisions sorts old new other
  stops_as h = subst (λ s. StopsShown path turns decisions sorts old new s) (fun_ext same) h

-- two operands, and two terms that differ by as much
module _ (a b : Operand) (l r : Term)
    (differ : (v : Values) → number_in (operand_at v a) -ℤ number_in (operand_at v b) ≡ term_value v l -ℤ term_value v r) where
  abbrev pub Numbers : Type 0
  Numbers = ((v : Values) → operand_at v a ≡ value.Number (number_in (operand_at v a)))
      × ((v : Values) → operand_at v b ≡ value.Number (number_in (operand_at v b)))

  pub sides_order : (v : Values)
      → order_of (term_value v l) (term_value v r) ≡ order_of (number_in (operand_at v a)) (number_in (operand_at v b))
  sides_order v = order_alike (number_in (operand_at v a)) (number_in (operand_at v b)) (term_value v l) (term_value v r)
      (differ v)

  pub sides_told : (c : Comparison) (v : Values) → comparison (comparison_of c) (term_value v l) (term_value v r)
      ≡ comparison (comparison_of c) (number_in (operand_at v a)) (number_in (operand_at v b))
  sides_told c v =
      compared_alike c (number_in (operand_at v a)) (number_in (operand_at v b)) (term_value v l) (term_value v r) (differ v)

  pub sides_same : Numbers → (v : Values)
      → same_number (term_value v l) (term_value v r) ≡ same_value (operand_at v a) (operand_at v b)
  sides_same are v =
      same_alike (number_in (operand_at v a)) (number_in (operand_at v b)) (term_value v l) (term_value v r) (differ v)
      ∙ same_numbers (operand_at v a) (operand_at v b) (are.0 v) (are.1 v)

  sides_ordered : (v : Values) → Ordered (order_of (term_value v l) (term_value v r)) ∷ []
      ≡ Ordered (order_of (number_in (operand_at v a)) (number_in (operand_at v b))) ∷ []
  sides_ordered v = ap (λ o. Ordered o ∷ []) (sides_order v)

  sides_shown : Numbers → (v : Values) → Ordered (order_of (term_value v l) (term_value v r)) ∷ []
      ≡ shown_of (operand_at v a) (operand_at v b)
  sides_shown are v = sides_ordered v ∙ shown_numbers (operand_at v a) (operand_at v b) (are.0 v) (are.1 v)

  module _ {S : Type 0} (path : S → List Literal) (turns : S → List ℕ) (decisions : S → List Decision) (sorts : S → List Sort)
      (old new : S) where
    abbrev asked : Evidence → List Shown
    asked e = Ordered (order_of (term_value e.values l) (term_value e.values r)) ∷ []

    pub ordered_tells : TellsShown path turns decisions sorts old new asked → TellsShown path turns decisions sorts old new
        (λ e. Ordered (order_of (number_in (operand_at e.values a)) (number_in (operand_at e.values b))) ∷ [])
    ordered_tells h = tells_as path turns decisions sorts old new asked _ (λ e. sides_ordered e.values) h

    pub ordered_stops : StopsShown path turns decisions sorts old new asked → StopsShown path turns decisions sorts old new
        (λ e. Ordered (order_of (number_in (operand_at e.values a)) (number_in (operand_at e.values b))) ∷ [])
    ordered_stops h = stops_as path turns decisions sorts old new asked _ (λ e. sides_ordered e.values) h

    pub shown_tells : Numbers → TellsShown path turns decisions sorts old new asked
        → TellsShown path turns decisions sorts old new (λ e. shown_of (operand_at e.values a) (operand_at e.values b))
    shown_tells are h = tells_as path turns decisions sorts old new asked _ (λ e. sides_shown are e.values) h

    pub shown_stops : Numbers → StopsShown path turns decisions sorts old new asked
        → StopsShown path turns decisions sorts old new (λ e. shown_of (operand_at e.values a) (operand_at e.values b))
    shown_stops are h = stops_as path turns decisions sorts old new asked _ (λ e. sides_shown are e.values) h

pub plus_turned : (x y z : ℤ) → z ≡ y +ℤ x → z ≡ x +ℤ y
plus_turned x y z p = search (rules, ints, p)

pub lowered_known : (v : Values) (a known t : Term) (plus opposite : ℤ) → t ≡ record { symbol = a.symbol; plus = plus }
    → known.symbol.0 ≡ 0 → opposite ≡ pos 0 -ℤ known.plus → plus ≡ a.plus +ℤ opposite
    → term_value v t ≡ term_value v a -ℤ term_value v known
unfolding number_of
lowered_known v a known t plus opposite e s o p =
    let z : number_of v known.symbol.0 ≡ pos 0 = ap (λ k. number_of v k) s in
    ap (λ u. term_value v u) e ∙ search (rules, ints, z, o, p)

pub constant_at : (v : Values) (t : Term) (z : ℤ) → t ≡ record { symbol = record { 0 = 0 }; plus = z }
    → value_at v (Number t) ≡ value.Number z
unfolding value_at number_of
constant_at v t z p = ap (λ u. value.Number (term_value v u)) p ∙ ap (λ x. value.Number x) (search (rules, ints))

pub constant_made : (made : List Sort) (t : Term) (z : ℤ) → t ≡ record { symbol = record { 0 = 0 }; plus = z }
    → IsWithin (2 ^ 98) z → IsMade made (Number t)
unfolding IsMade HasSort
constant_made made t z p near = subst (λ u. IsTerm made u) (sym p) (record { sort = tt; near = near })
