-- At one position items are inhaled as the formula is that is made like them, under any relation of runs that reading and gaining
-- keep.
use Rattle.std.proofs.Common.{◌≡◌, inl, inr, ℕ, ℤ, pos, ◌+ℤ◌, Bool, true, false, List, [], ◌∷◌, refl, sym, ◌∙◌, ap, subst, arith}
use Rattle.std.proofs.lemmas.Int.{ints}
use Rattle.std.proofs.Math.Path.{fun_ext}
use Rattle.std.specs.Prelude.{if◌then◌else◌}
use Rattle.std.specs.List.{AllByRecursion}
use Rattle.pv_base.specs.declared.Name.{Name}
use Rattle.pv_base.specs.declared.Span.{Span}
use Rattle.pv_ast.specs.declared.PvType.{PvType}
use Rattle.pv_ast.specs.declared.Token.{Token}
use Rattle.pv_ast.specs.declared.Token.TheVariants as token
use Rattle.pv_values.specs.declared.value.Value.{Value}
use Rattle.pv_values.specs.declared.value.Value.TheVariants as value
use Rattle.pv_values.specs.Heaps.{same_number}
use Rattle.pv_picks.specs.declared.evidence.Entry.{Entry}
use Rattle.pv_picks.specs.Plain.Core.{Expression, Comparison, Cut, Formula, Items, Item}
use Rattle.pv_picks.specs.Plain.Core as core
use Rattle.pv_picks.specs.Formulas.Values.{number_in, truth_in, reference_in, equality, arithmetic, at_position, within, is_empty}
use Rattle.pv_picks.specs.Formulas.Evaluation.{Scene}
use Rattle.pv_picks.specs.Formulas.Meeting.{guard_term}
use Rattle.pv_picks.specs.Judge.States.{Cells, cells_of}
use Rattle.pv_picks.specs.Judge.Settings.{no_frame, Next}
use Rattle.pv_picks.specs.Judge.Permissions.{gain_element, gain_range, add_token}
use Rattle.pv_picks.specs.Judge.Repetitions.{Range, range_of, cut_by, shifted, looks_of, notice_cut, unless_empty, cut_all}
use Rattle.pv_picks.specs.Judge.Inhaling.{inhale_repeated, inhale, inhale_items, inhale_item}
use Rattle.pv_picks.specs.Judge.Runs.{judging, Judged}
use Rattle.pv_picks.specs.Elaborating.Operations.{cuts_of}
use Rattle.pv_picks.specs.Elaborating.Expressions.{together}
use Rattle.pv_picks.specs.Judge.Steady.{IsTerm, IsTermLook}
use Rattle.core_trees.specs.Positions.{ConfinedFormula, ConfinedItem, ConfinedItems}
use Rattle.core_sharing.specs.Forms.{IsShifted, SameItem, SameItem.same_fact, SameItem.same_element, SameItem.same_committed, SameItem.same_guarded, SameItem.same_implied, SameItem.same_fixed, SameItem.same_fixed_fact, SameItems, SameItems.same_nothing, SameItems.same_alone, SameItems.same_together}
use Rattle.core_sharing.specs.Renumbering.{Run}
use Rattle.core_sharing.specs.Elements.{IsOfElements, HasElements, HaveElements}
use Rattle.core_sharing.specs.Inhaled.{bound, IsNumberNow, FixesNumberNow, FixNumbersNow}
use Rattle.core_sharing.proofs.Shifting.{Forms, shifted_is, no_shift, sum_shifted}
use Rattle.core_sharing.proofs.Giving.{cut_noticed}
use Rattle.core_sharing.proofs.GuardsAtPosition.{Reads, cut_to, condition_related}
use Rattle.core_sharing.proofs.AtPosition.{at, term_same, own_value, first_confined, second_confined}
use Rattle.core_sharing.proofs.OnePosition.{IsOne, number_self, numbers_same, one_is, one_within, one_full, range_one}
use Rattle.core_sharing.proofs.Meets.{reading}
use Rattle.core_sharing.proofs.Inhaling.{if_holds}

-- a relation of runs that reading, gaining and repeating keep, where what formulas read as the old state is this in the one run
-- and that in the other
pub record IsKept (table : List Entry) (left right : Cells) (Rel : Run → Run → Type 0) : Type 0 where
  pub reads : (scene : Scene) (e : Expression) (k l : Value → Run) → ((v : Value) → Rel (k v) (l v))
      → Rel (reading table left right left scene e k) (reading table left right right scene e l)
  pub gains : (type : PvType) (array : ℕ) (low high k : ℤ) (amount : ℕ) (ends : List ℤ) (one other : Run) → low ≡ k
      → high ≡ k +ℤ pos 1 → IsOfElements type → Rel one other
      → Rel (λ m. gain_element (judging m table) type array k amount (one m))
      (λ m. gain_range (judging m table) type array low high ends amount (other m))
  pub adds : (kind : Token) (class : Name) (object : ℕ) (one other : Run) → Rel one other
      → Rel (λ m. add_token (judging m table) kind class object (one m))
      (λ m. add_token (judging m table) kind class object (other m))
  pub inhales : (scene : Scene) (formula : Formula) (one other : Run) → ConfinedFormula formula → Rel one other
      → Rel (λ m. inhale (judging m table) (bound scene left) formula (one m))
      (λ m. inhale (judging m table) (bound scene right) formula (other m))
  pub marks : (scene : Scene) (name : Name) (e : Expression) (r : Range) (i : ℤ) (one other : Run) → IsOne r i
      → AllByRecursion (IsTermLook name) (looks_of name e) → Rel one other
      → Rel (reading table left right left (at scene name i) e (if_holds table left right one))
      (λ m. inhale_repeated (judging m table) (bound scene right) name e r (other m))

module _ (table : List Entry) (left right : Cells) (Rel : Run → Run → Type 0) (kept : IsKept table left right Rel)
    (scene : Scene) (name : Name) (i : ℤ) where
  -- an expression of the formula, at the position and without it, and one of the items
  abbrev here : Expression → (Value → Run) → Run
  here e k = reading table left right left (at scene name i) e k

  abbrev aside : Expression → (Value → Run) → Run
  aside e k = reading table left right left scene e k

  abbrev apart : Expression → (Value → Run) → Run
  apart e k = reading table left right right scene e k

  replaced : (x y x' y' : Run) → x ≡ x' → y ≡ y' → Rel x' y' → Rel x y
  replaced x y x' y' is is' h = subst (λ (z : Run). Rel z y) (sym is) (subst (λ (z : Run). Rel x' z) (sym is') h)

  outside : (e : Expression) (k : Value → Run) → IsTerm name e → here e k ≡ aside e k
  outside e k term = fun_ext (λ m. term_same _ _ scene name i e (λ v. k v m) term)

  abbrev full_or : Range → Run → Run → Run
  full_or r x y m st = unless_empty (judging m table) r (x m st) (y m st)

  full : (r : Range) (x y : Run) → IsOne r i → full_or r x y ≡ y
  full r x y one = fun_ext (λ m. fun_ext (λ s. ap (λ b. if b then x m s else y m s) (one_full r i one)))

  nothing_left : (r : Range) (x y : Run) → is_empty r.low r.high ≡ true → full_or r x y ≡ x
  nothing_left r x y is = fun_ext (λ m. fun_ext (λ s. ap (λ b. if b then x m s else y m s) is))

  alternative : (b : Bool) (x y : Run) → ◌≡◌ {A = Run} (λ m. if b then x m else y m) (if b then x else y)
  alternative true x y = refl
  alternative false x y = refl

  -- Guards

  abbrev noticed : Cut → Value → Range → Run → Run
  noticed c v r next m st = notice_cut (judging m table) c v r (next m st)

  reads : Reads Rel name i here aside apart full_or noticed
  reads = record {
    position = λ k. ap k (own_value scene.variables name i);
    conjunction = λ x y k. fun_ext (λ m. ap (λ (g : Value → Next Judged). here x (λ u m'. g u) m)
        (fun_ext (λ u. ap (λ (run : Run). run m) (alternative (truth_in u) (here y k) (k (value.Truth false))))));
    compared = λ c x y k. refl;
    outside = outside;
    reads = kept.reads scene;
    full = full;
    nothing_left = nothing_left;
    unnoticed = λ c v r x. fun_ext (λ m. fun_ext (λ s. cut_noticed m table c v r (x m s)));
  }

  abbrev cuts_then : List Cut → Range → Run → (Range → Run) → Run
  cuts_then cuts r out next m =
      cut_all (judging m table) cells_of (no_frame (judging m table)) (bound scene right) cuts r (out m) (λ q. next q m)

  cuts_are : (cuts : List Cut) (r : Range) (out : Run) (next : Range → Run)
      → cuts_then cuts r out next ≡ cut_to Rel name i here aside apart full_or noticed cuts r out next
  unfolding cut_to
  cuts_are [] r out next = refl
  cuts_are (c ∷ cs) r out next =
      ap (λ (g : Value → Run). full_or r out (apart (guard_term c) (λ v. noticed c v r (g v))))
      (fun_ext (λ v. cuts_are cs (cut_by c v r) out next))

  -- Items

  abbrev item_run : Range → Item → Run → Run
  item_run r item next m = inhale_item (judging m table) (bound scene right) name r item (next m)

  abbrev formula_run : Formula → Run → Run
  formula_run formula next m = inhale (judging m table) (bound (at scene name i) left) formula (next m)

  item_empty : (item : Item) (r : Range) (next : Run) → is_empty r.low r.high ≡ true → item_run r item next ≡ next
  item_empty (core.Elements type array shift amount span) r next is = nothing_left r next _ is
  item_empty (core.Repeated e span) r next is = nothing_left r next _ is
  item_empty (core.Committed class e span) r next is = nothing_left r next _ is
  item_empty (core.Guarded [] item span) r next is = item_empty item r next is
  item_empty (core.Guarded (c ∷ cs) item span) r next is = nothing_left r next _ is
  item_empty (core.Fixed e body span) r next is = nothing_left r next _ is

  form_read : (shift : ℤ) (index : Expression) (k : Value → Run) → Forms name shift index
      → here index k ≡ k (value.Number (i +ℤ shift))
  form_read shift index k (inl is) =
      ap (λ (e : Expression). here e k) is.0
      ∙ ap k (own_value scene.variables name i)
      ∙ ap (λ z. k (value.Number z)) (no_shift i ∙ ap (λ z. i +ℤ z) (sym is.1))
  form_read shift index k (inr sum) =
      ap (λ (e : Expression). here e k) sum.is
      ∙ ap (λ (u : Value). k (value.Number (arithmetic sum.operation (number_in u) sum.number)))
      (own_value scene.variables name i)
      ∙ ap (λ z. k (value.Number z)) (sum_shifted sum.operation sum.number shift i sum.shift)

  element_related : (type : PvType) (array index : Expression) (shift : ℤ) (units : ℕ) (span : Span) (r : Range)
      (one other : Run) → IsShifted name shift index → IsTerm name array → IsOfElements type → IsOne r i → Rel one other
      → Rel (formula_run (core.ElementPermission type array index units span) one)
      (item_run r (core.Elements type array shift units span) other)
  element_related type array index shift units span r one other is term of_type single h =
      replaced _ _ _ _
      (outside array _ term
      ∙ ap (aside array) (fun_ext (λ a. form_read shift index
      (λ n m. gain_element (judging m table) type (reference_in a) (number_in n) units (one m))
      (shifted_is name shift index is))))
      (full r other _ single)
      (kept.reads scene array _ _ (λ a.
      kept.gains type (reference_in a) (r.low +ℤ shift) (r.high +ℤ shift) (i +ℤ shift) units
      (shifted (r.low ∷ r.high ∷ r.bounds) shift) one other (ap (λ z. z +ℤ shift) single.low)
      (let d = single.high in omega (arith, ints)) of_type h))

  -- a formula at the one position that a term names
  abbrev fixed_run : Formula → Run → ℤ → Run
  fixed_run formula other z m = inhale (judging m table) (bound (at scene name z) right) formula (other m)

  fixed_choice : (formula : Formula) (r : Range) (one other : Run) (n : ℤ) → ConfinedFormula formula → IsOne r i → Rel one other
      → Rel (λ m. if equality true (value.Number i) (value.Number n) then formula_run formula one m else one m)
      (λ m s. if within r.low r.high n then fixed_run formula other n m s else other m s)
  fixed_choice formula r one other n confined single h = by (same_number i n) refl
    where
      by : (b : Bool) → same_number i n ≡ b
          → Rel (λ m. if b then formula_run formula one m else one m)
          (λ m s. if within r.low r.high n then fixed_run formula other n m s else other m s)
      by true is =
          let same : i ≡ n = numbers_same i n is in
          subst (λ z. Rel (formula_run formula one)
          (λ m s. if within r.low r.high z then fixed_run formula other z m s else other m s)) same
          (subst (λ b. Rel (formula_run formula one) (λ m s. if b then fixed_run formula other i m s else other m s))
          (sym (one_within r i single)) (kept.inhales (at scene name i) formula one other confined h))
      by false is =
          subst (λ b. Rel one (λ m s. if b then fixed_run formula other n m s else other m s))
          (sym (none (within r.low r.high n) refl)) h
        where
          none : (b : Bool) → within r.low r.high n ≡ b → b ≡ false
          none false w = refl
          none true w =
              let same : n ≡ i = one_is r i n single w in
              let here' : same_number i n
              ≡ true = subst (λ z. same_number i z ≡ true) (sym same) (number_self i) in absurd (cc (here', is))

  fixed_related : (y : Expression) (formula : Formula) (span : Span) (r : Range) (one other : Run) → IsTerm name y
      → ConfinedFormula formula → IsNumberNow table (bound scene left) y → IsOne r i → Rel one other
      → Rel (here y (λ w m. if equality true (at_position scene.variables name i name.0) w then formula_run formula one m
      else one m))
      (item_run r (core.Fixed y formula span) other)
  fixed_related y formula span r one other term confined number single h =
      replaced _ _ _ _
      (ap (λ (u : Value). here y (λ w m. if equality true u w then formula_run formula one m else one m))
      (own_value scene.variables name i)
      ∙ outside y _ term
      ∙ fun_ext (λ m. number m (λ w. if equality true (value.Number i) w then formula_run formula one m else one m)))
      (full r other _ single)
      (kept.reads scene y (λ w m. if equality true (value.Number i) (value.Number (number_in w)) then formula_run formula one m
      else one m)
      (λ w m s. if within r.low r.high (number_in w) then fixed_run formula other (number_in w) m s else other m s)
      (λ w. fixed_choice formula r one other (number_in w) confined single h))

  choice_same : (b : Bool) (x y : Run) → ◌≡◌ {A = Run} (λ m s. if b then x m s else y m s) (λ m. if b then x m else y m)
  choice_same true x y = refl
  choice_same false x y = refl

  item_related : {formula : Formula} {item : Item} → SameItem name formula item → ConfinedItem name item
      → HasElements item → FixesNumberNow table (bound scene left) item → (r : Range) → IsOne r i → (one other : Run)
      → Rel one other
      → Rel (formula_run formula one) (item_run r item other)
  item_related (same_fact {e = e} {span = span}) confined of numbers r single one other h =
      subst (λ (z : Run). Rel (formula_run (core.Fact e span) one) z)
      (sym (full r other (λ m. inhale_repeated (judging m table) (bound scene right) name e r (other m)) single))
      (kept.marks scene name e r i one other single confined.0 h)
  item_related (same_element {type = type} {array = array} {index = index} {shift = shift} {units = units} {span = span} is)
      confined of numbers r single one other h =
      element_related type array index shift units span r one other is confined of single h
  item_related (same_committed {class = class} {e = e} {span = span}) confined of numbers r single one other h =
      replaced _ _ _ _ (outside e _ confined) (full r other _ single)
      (kept.reads scene e _ _ (λ o. kept.adds token.Committed class (reference_in o) one other h))
  item_related (same_guarded {x = x} {f = formula} {i = item} {span = span} same) confined of numbers r single one other h =
      subst (λ (z : Run). Rel (formula_run (core.When x formula span) one) z)
      (sym (cuts_are (cuts_of name x) r other (λ q. item_run q item other)))
      (condition_related Rel name i here aside apart full_or noticed reads x r (formula_run formula one) one _ other _
      (λ v. choice_same (truth_in v) _ one ∙ alternative (truth_in v) _ one) single confined.0
      (λ q alone. item_related same confined.1 of numbers q alone one other h)
      (λ q empty. subst (λ (z : Run). Rel one z) (sym (item_empty item q other empty)) h) h)
  item_related (same_implied {x = x} {y = y} {i = item} {span = span} same) confined of numbers r single one other h =
      subst (λ (z : Run). Rel (formula_run (core.Fact (core.Implies x y) span) one) z)
      (sym (cuts_are (cuts_of name x) r other (λ q. item_run q item other)))
      (condition_related Rel name i here aside apart full_or noticed reads x r (formula_run (core.Fact y span) one) one _ other _
      (λ v. alternative (truth_in v) _ one) single confined.0
      (λ q alone. item_related same confined.1 of numbers q alone one other h)
      (λ q empty. subst (λ (z : Run). Rel one z) (sym (item_empty item q other empty)) h) h)
  item_related (same_fixed {y = y} {f = formula} {span = span}) confined of numbers r single one other h =
      subst (λ (k : Value → Run). Rel (here y k) (item_run r (core.Fixed y formula span) other))
      (sym (fun_ext (λ w. choice_same (equality true (at_position scene.variables name i name.0) w)
      (formula_run formula one) one)))
      (fixed_related y formula span r one other confined.0 confined.1 numbers single h)
  item_related (same_fixed_fact {y = y} {z = z} {span = span}) confined of numbers r single one other h =
      fixed_related y (core.Fact z span) span r one other confined.0 confined.1 numbers single h

  first_elements : (is js : Items) → HaveElements (together is js) → HaveElements is
  first_elements core.NoItems js h = tt
  first_elements (core.Join item is) js h = (h.0, first_elements is js h.1)

  second_elements : (is js : Items) → HaveElements (together is js) → HaveElements js
  second_elements core.NoItems js h = h
  second_elements (core.Join item is) js h = second_elements is js h.1

  abbrev Numbers : Items → Type 0
  Numbers items = FixNumbersNow table (bound scene left) items

  first_numbers : (is js : Items) → Numbers (together is js) → Numbers is
  first_numbers core.NoItems js h = tt
  first_numbers (core.Join item is) js h = (h.0, first_numbers is js h.1)

  second_numbers : (is js : Items) → Numbers (together is js) → Numbers js
  second_numbers core.NoItems js h = h
  second_numbers (core.Join item is) js h = second_numbers is js h.1

  abbrev items_run : ℤ → ℤ → Items → Run → Run
  items_run low high items next m = inhale_items (judging m table) (bound scene right) name low high items (next m)

  items_append : (is js : Items) (low high : ℤ) (next : Run)
      → items_run low high (together is js) next ≡ items_run low high is (items_run low high js next)
  items_append core.NoItems js low high next = refl
  items_append (core.Join item is) js low high next =
      ap (item_run (range_of low high) item) (items_append is js low high next)

  pub items_related : {formula : Formula} {items : Items} → SameItems name formula items → ConfinedItems name items
      → HaveElements items → FixNumbersNow table (bound scene left) items → (one other : Run) → Rel one other
      → Rel (formula_run formula one) (items_run i (i +ℤ pos 1) items other)
  items_related same_nothing confined of numbers one other h = h
  items_related (same_alone same) confined of numbers one other h =
      item_related same confined.0 of.0 numbers.0 (range_of i (i +ℤ pos 1)) (range_one i) one other h
  items_related (same_together {f = first} {g = second} {is = is} {js = js} same again) confined of numbers one other h =
      subst (λ (z : Run). Rel (formula_run (core.Star first second) one) z)
      (sym (items_append is js i (i +ℤ pos 1) other))
      (items_related same (first_confined name is js confined) (first_elements is js of) (first_numbers is js numbers)
      (formula_run second one) (items_run i (i +ℤ pos 1) js other)
      (items_related again (second_confined name is js confined) (second_elements is js of)
      (second_numbers is js numbers) one other h))
