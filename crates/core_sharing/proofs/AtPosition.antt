-- At one position items are exhaled as the formula is that is made like them, under any relation of runs that reading and giving
-- keep.
use Rattle.std.proofs.Common.{◌≡◌, inl, inr, ℕ, ℤ, pos, ◌+ℤ◌, Bool, true, false, List, [], ◌∷◌, refl, sym, ◌∙◌, ap, subst, arith}
use Rattle.std.proofs.lemmas.Int.{ints}
use Rattle.std.proofs.Math.Path.{fun_ext}
use Rattle.std.proofs.lemmas.Bool.{or_parts, eqb-true, eq-eqb}
use Rattle.std.specs.Prelude.{nat_eq, if◌then◌else◌}
use Rattle.pv_base.specs.declared.Name.{Name}
use Rattle.pv_base.specs.declared.Span.{Span}
use Rattle.pv_ast.specs.declared.PvType.{PvType}
use Rattle.pv_ast.specs.declared.Token.{Token}
use Rattle.pv_ast.specs.declared.Token.TheVariants as token
use Rattle.pv_values.specs.declared.value.Value.{Value}
use Rattle.pv_values.specs.declared.value.Value.TheVariants as value
use Rattle.pv_values.specs.Heaps.{same_number}
use Rattle.pv_picks.specs.declared.check.Check.{Check}
use Rattle.pv_picks.specs.declared.evidence.Entry.{Entry}
use Rattle.pv_picks.specs.Plain.Core.{Expression, Comparison, Cut, Formula, Items, Item}
use Rattle.pv_picks.specs.Plain.Core as core
use Rattle.pv_picks.specs.Formulas.Values.{Variables, number_in, truth_in, reference_in, equality, arithmetic, at_position, within, is_empty}
use Rattle.pv_picks.specs.Formulas.Evaluation.{Reader, Scene, evaluate}
use Rattle.pv_picks.specs.Formulas.Meeting.{guard_term}
use Rattle.pv_picks.specs.Judge.States.{Resource, InElement}
use Rattle.pv_picks.specs.Judge.Settings.{Next, no_frame, if_within}
use Rattle.pv_picks.specs.Judge.Permissions.{give, give_element, take_token}
use Rattle.pv_picks.specs.Judge.Repetitions.{Range, range_of, cut_by, shifted, notice_cut, unless_empty, cut_all}
use Rattle.pv_picks.specs.Judge.Exhaling.{Giving, span_or, from_at, value_from, fails, exhale_repeated, exhale, exhale_items, exhale_item}
use Rattle.pv_picks.specs.Judge.Runs.{Judged, Maps, judging}
use Rattle.pv_picks.specs.Elaborating.Operations.{cuts_of}
use Rattle.pv_picks.specs.Elaborating.Expressions.{together}
use Rattle.pv_picks.specs.Judge.Steady.{mentions, IsTerm}
use Rattle.core_trees.specs.Positions.{ConfinedItem, ConfinedItems}
use Rattle.core_sharing.specs.Forms.{IsShifted, SameItem, SameItem.same_fact, SameItem.same_element, SameItem.same_committed, SameItem.same_guarded, SameItem.same_implied, SameItem.same_fixed, SameItem.same_fixed_fact, SameItems, SameItems.same_nothing, SameItems.same_alone, SameItems.same_together}
use Rattle.core_sharing.specs.Exhaled.{IsNumber, FixesNumber, FixNumbers}
use Rattle.core_sharing.proofs.Shifting.{Forms, shifted_is, no_shift, sum_shifted}
use Rattle.core_sharing.proofs.Giving.{cut_noticed}
use Rattle.core_sharing.proofs.OnePosition.{IsOne, number_self, numbers_same, one_is, one_within, one_full, range_one, range_given}
use Rattle.core_sharing.proofs.GuardsAtPosition.{Reads, cut_to, condition_related}

-- Terms

abbrev pub at : Scene → Name → ℤ → Scene
at scene name i = record { this = scene.this; variables = at_position scene.variables name i; result = scene.result }

other_name : (x name : Name) → nat_eq name.0 x.0 ≡ false → nat_eq x.0 name.0 ≡ false
other_name x name h = go (nat_eq x.0 name.0) refl
  where
    go : (b : Bool) → nat_eq x.0 name.0 ≡ b → b ≡ false
    go false is = refl
    go true is =
        let same : x.0 ≡ name.0 = eqb-true x.0 name.0 is in
        let again : nat_eq name.0 x.0 ≡ true = eq-eqb name.0 x.0 (sym same) in absurd (cc (again, h))

-- an expression that doesn't name the position is read as it is without it
pub term_same : {R : Type 0} (now old : Reader R) (scene : Scene) (name : Name) (i : ℤ) (e : Expression) (k : Value → R)
    → IsTerm name e
    → evaluate now old (at scene name i) e k ≡ evaluate now old scene e k
term_same now old scene name i (core.Constant v) k term = refl
term_same now old scene name i core.This k term = refl
term_same now old scene name i core.Result k term = refl
term_same now old scene name i (core.Variable x) k term =
    ap (λ b. k (if b then value.Number i else scene.variables x.0)) (other_name x name term)
term_same now old scene name i (core.Field e class field span) k term = term_same now old scene name i e _ term
term_same now old scene name i (core.Element type x y span) k term =
    let two = or_parts (mentions name x) (mentions name y) term in
    term_same now old scene name i x _ two.0
    ∙ ap (λ l. evaluate now old scene x l) (fun_ext (λ a. term_same now old scene name i y _ two.1))
term_same now old scene name i (core.Length type e span) k term = term_same now old scene name i e _ term
term_same now old scene name i (core.Not e) k term = term_same now old scene name i e _ term
term_same now old scene name i (core.Compute manner o x y span) k term =
    let two = or_parts (mentions name x) (mentions name y) term in
    term_same now old scene name i x _ two.0
    ∙ ap (λ l. evaluate now old scene x l) (fun_ext (λ a. term_same now old scene name i y _ two.1))
term_same now old scene name i (core.Compare c x y) k term =
    let two = or_parts (mentions name x) (mentions name y) term in
    term_same now old scene name i x _ two.0
    ∙ ap (λ l. evaluate now old scene x l) (fun_ext (λ a. term_same now old scene name i y _ two.1))
term_same now old scene name i (core.Equal same x y) k term =
    let two = or_parts (mentions name x) (mentions name y) term in
    term_same now old scene name i x _ two.0
    ∙ ap (λ l. evaluate now old scene x l) (fun_ext (λ a. term_same now old scene name i y _ two.1))
term_same now old scene name i (core.And x y) k term =
    let two = or_parts (mentions name x) (mentions name y) term in
    term_same now old scene name i x _ two.0
    ∙ ap (λ l. evaluate now old scene x l)
    (fun_ext (λ a. ap (λ r. now.deciding (truth_in a) (if truth_in a then r else k (value.Truth false)))
    (term_same now old scene name i y k two.1)))
term_same now old scene name i (core.Or x y) k term =
    let two = or_parts (mentions name x) (mentions name y) term in
    term_same now old scene name i x _ two.0
    ∙ ap (λ l. evaluate now old scene x l)
    (fun_ext (λ a. ap (λ r. now.deciding (truth_in a) (if truth_in a then k (value.Truth true) else r))
    (term_same now old scene name i y k two.1)))
term_same now old scene name i (core.Implies x y) k term =
    let two = or_parts (mentions name x) (mentions name y) term in
    term_same now old scene name i x _ two.0
    ∙ ap (λ l. evaluate now old scene x l)
    (fun_ext (λ a. ap (λ r. now.deciding (truth_in a) (if truth_in a then r else k (value.Truth true)))
    (term_same now old scene name i y k two.1)))
term_same now old scene name i (core.Old e) k term = term_same old old scene name i e k term

pub own_value : (variables : Variables) (name : Name) (i : ℤ) → at_position variables name i name.0 ≡ value.Number i
own_value variables name i = ap (λ b. if b then value.Number i else variables name.0) (eq-eqb name.0 name.0 refl)

-- Items that stand together

pub first_confined : (name : Name) (is js : Items) → ConfinedItems name (together is js) → ConfinedItems name is
first_confined name core.NoItems js h = tt
first_confined name (core.Join item is) js h = (h.0, first_confined name is js h.1)

pub second_confined : (name : Name) (is js : Items) → ConfinedItems name (together is js) → ConfinedItems name js
second_confined name core.NoItems js h = h
second_confined name (core.Join item is) js h = second_confined name is js h.1

-- a relation of runs that reading, giving and repeating keep
pub record IsKept (maps : Maps) (table : List Entry) (Rel : Next Judged → Next Judged → Type 0) : Type 0 where
  pub reads : (f : Giving) (e : Expression) (k l : Value → Next Judged) → ((v : Value) → Rel (k v) (l v))
      → Rel (value_from (judging maps table) f e k) (value_from (judging maps table) f e l)
  pub gives : (resource : Resource) (amount : ℕ) (named : Check) (span : Span) (one other : Next Judged) → Rel one other
      → Rel (give (judging maps table) resource amount ((judging maps table).failed named span) one)
      (give (judging maps table) resource amount ((judging maps table).failed named span) other)
  pub takes : (kind : Token) (class : Name) (object : ℕ) (named : Check) (span : Span) (one other : Next Judged) → Rel one other
      → Rel (take_token (judging maps table) kind class object ((judging maps table).failed named span) one)
      (take_token (judging maps table) kind class object ((judging maps table).failed named span) other)
  pub exhales : (f : Giving) (formula : Formula) (one other : Next Judged) → Rel one other
      → Rel (exhale (judging maps table) f formula one) (exhale (judging maps table) f formula other)
  pub marks : (f : Giving) (name : Name) (e : Expression) (span : Span) (r : Range) (i : ℤ) (one other : Next Judged)
      → IsOne r i → Rel one other
      → Rel (exhale (judging maps table) (from_at f name i) (core.Fact e span) one)
      (exhale_repeated (judging maps table) f name e span r other)

module _ (maps : Maps) (table : List Entry) (Rel : Next Judged → Next Judged → Type 0) (kept : IsKept maps table Rel)
    (f : Giving) (name : Name) (i : ℤ) where
  replaced : (x y x' y' : Next Judged) → x ≡ x' → y ≡ y' → Rel x' y' → Rel x y
  replaced x y x' y' is is' h = subst (λ (z : Next Judged). Rel z y) (sym is) (subst (λ (z : Next Judged). Rel x' z) (sym is') h)

  outside : (e : Expression) (k : Value → Next Judged) → IsTerm name e
      → value_from (judging maps table) (from_at f name i) e k ≡ value_from (judging maps table) f e k
  outside e k term = term_same _ _ f.bind.scene name i e k term

  full : (r : Range) (x y : Next Judged) → IsOne r i
      → ◌≡◌ {A = Next Judged} (λ s. unless_empty (judging maps table) r (x s) (y s)) y
  full r x y one = fun_ext (λ s. ap (λ b. if b then x s else y s) (one_full r i one))

  nothing_left : (r : Range) (x y : Next Judged) → is_empty r.low r.high ≡ true
      → ◌≡◌ {A = Next Judged} (λ s. unless_empty (judging maps table) r (x s) (y s)) x
  nothing_left r x y is = fun_ext (λ s. ap (λ b. if b then x s else y s) is)

  -- Guards

  abbrev here : Expression → (Value → Next Judged) → Next Judged
  here = value_from (judging maps table) (from_at f name i)

  abbrev aside : Expression → (Value → Next Judged) → Next Judged
  aside = value_from (judging maps table) f

  abbrev unless : Range → Next Judged → Next Judged → Next Judged
  unless r x y s = unless_empty (judging maps table) r (x s) (y s)

  abbrev noticed : Cut → Value → Range → Next Judged → Next Judged
  noticed c v r next s = notice_cut (judging maps table) c v r (next s)

  reading : Reads Rel name i here aside aside unless noticed
  reading = record {
    position = λ k. ap k (own_value f.bind.scene.variables name i);
    conjunction = λ x y k. refl;
    compared = λ c x y k. refl;
    outside = outside;
    reads = kept.reads f;
    full = full;
    nothing_left = nothing_left;
    unnoticed = λ c v r x. fun_ext (λ s. cut_noticed maps table c v r (x s));
  }

  abbrev cuts_then : List Cut → Range → Next Judged → (Range → Next Judged) → Next Judged
  cuts_then cuts r out next = cut_all (judging maps table) (λ s. f.before) (no_frame (judging maps table)) f.bind cuts r out next

  cuts_are : (cuts : List Cut) (r : Range) (out : Next Judged) (next : Range → Next Judged)
      → cuts_then cuts r out next ≡ cut_to Rel name i here aside aside unless noticed cuts r out next
  unfolding cut_to
  cuts_are [] r out next = refl
  cuts_are (c ∷ cs) r out next =
      ap (λ (g : Value → Next Judged). unless r out (aside (guard_term c) (λ v. noticed c v r (g v))))
      (fun_ext (λ v. cuts_are cs (cut_by c v r) out next))

  -- Items

  item_empty : (item : Item) (r : Range) (next : Next Judged) → is_empty r.low r.high ≡ true
      → exhale_item (judging maps table) f name r item next ≡ next
  item_empty (core.Elements type array shift amount span) r next is = nothing_left r next _ is
  item_empty (core.Repeated e span) r next is = nothing_left r next _ is
  item_empty (core.Committed class e span) r next is = nothing_left r next _ is
  item_empty (core.Guarded [] item span) r next is = item_empty item r next is
  item_empty (core.Guarded (c ∷ cs) item span) r next is = nothing_left r next _ is
  item_empty (core.Fixed e body span) r next is = nothing_left r next _ is

  form_read : (shift : ℤ) (index : Expression) (k : Value → Next Judged) → Forms name shift index
      → value_from (judging maps table) (from_at f name i) index k ≡ k (value.Number (i +ℤ shift))
  form_read shift index k (inl is) =
      ap (λ (e : Expression). value_from (judging maps table) (from_at f name i) e k) is.0
      ∙ ap k (own_value f.bind.scene.variables name i)
      ∙ ap (λ z. k (value.Number z)) (no_shift i ∙ ap (λ z. i +ℤ z) (sym is.1))
  form_read shift index k (inr sum) =
      ap (λ (e : Expression). value_from (judging maps table) (from_at f name i) e k) sum.is
      ∙ ap (λ (u : Value). k (value.Number (arithmetic sum.operation (number_in u) sum.number)))
      (own_value f.bind.scene.variables name i)
      ∙ ap (λ z. k (value.Number z)) (sum_shifted sum.operation sum.number shift i sum.shift)

  element_related : (type : PvType) (array index : Expression) (shift : ℤ) (units : ℕ) (span : Span) (r : Range)
      (one other : Next Judged)
      → IsShifted name shift index → IsTerm name array → IsOne r i → Rel one other
      → Rel (exhale (judging maps table) (from_at f name i) (core.ElementPermission type array index units span) one)
      (exhale_item (judging maps table) f name r (core.Elements type array shift units span) other)
  element_related type array index shift units span r one other is term single h =
      replaced _ _ _ _
      (outside array _ term
      ∙ ap (value_from (judging maps table) f array) (fun_ext (λ a. form_read shift index
      (λ n. give_element (judging maps table) type (reference_in a) (number_in n) units (fails (judging maps table) f span) one)
      (shifted_is name shift index is))))
      (full r other _ single
      ∙ ap (value_from (judging maps table) f array) (fun_ext (λ a.
      range_given maps table type (reference_in a) (r.low +ℤ shift) (r.high +ℤ shift) (i +ℤ shift)
      (shifted (r.low ∷ r.high ∷ r.bounds) shift) units (fails (judging maps table) f span) other
      (ap (λ z. z +ℤ shift) single.low) (let d = single.high in omega (arith, ints)))))
      (kept.reads f array _ _ (λ a.
      kept.gives (InElement type (reference_in a) (i +ℤ shift)) units f.check (span_or f.statement span) one other h))

  -- a formula at the one position that a term names
  fixed_choice : (formula : Formula) (r : Range) (one other : Next Judged) (n : ℤ) → IsOne r i → Rel one other
      → Rel (if equality true (value.Number i) (value.Number n) then exhale (judging maps table)
      (from_at f name i) formula one else one)
      (λ s. if_within (judging maps table) r.low r.high n (other s)
      (exhale (judging maps table) (from_at f name n) formula other s))
  fixed_choice formula r one other n single h = by (same_number i n) refl
    where
      by : (b : Bool) → same_number i n ≡ b
          → Rel (if b then exhale (judging maps table) (from_at f name i) formula one else one)
          (λ s. if_within (judging maps table) r.low r.high n (other s)
          (exhale (judging maps table) (from_at f name n) formula other s))
      by true is =
          let same : i ≡ n = numbers_same i n is in
          subst (λ z. Rel (exhale (judging maps table) (from_at f name i) formula one)
          (λ s. if_within (judging maps table) r.low r.high z (other s)
          (exhale (judging maps table) (from_at f name z) formula other s))) same
          (subst (λ b. Rel (exhale (judging maps table) (from_at f name i) formula one)
          (λ s. if b then exhale (judging maps table) (from_at f name i) formula other s else other s))
          (sym (one_within r i single))
          (kept.exhales (from_at f name i) formula one other h))
      by false is =
          subst (λ b. Rel one (λ s. if b then exhale (judging maps table) (from_at f name n) formula other s else other s))
          (sym (none (within r.low r.high n) refl)) h
        where
          none : (b : Bool) → within r.low r.high n ≡ b → b ≡ false
          none false w = refl
          none true w =
              let same : n ≡ i = one_is r i n single w in
              let here : same_number i n
              ≡ true = subst (λ z. same_number i z ≡ true) (sym same) (number_self i) in absurd (cc (here, is))

  fixed_related : (y : Expression) (formula : Formula) (span : Span) (r : Range) (one other : Next Judged) → IsTerm name y
      → IsNumber maps table f y → IsOne r i → Rel one other
      → Rel (value_from (judging maps table) (from_at f name i) y
      (λ w. if equality true (at_position f.bind.scene.variables name i name.0) w
      then exhale (judging maps table) (from_at f name i) formula one else one))
      (exhale_item (judging maps table) f name r (core.Fixed y formula span) other)
  fixed_related y formula span r one other term number single h =
      replaced _ _ _ _
      (ap (λ (u : Value). value_from (judging maps table) (from_at f name i) y
      (λ w. if equality true u w then exhale (judging maps table) (from_at f name i) formula one else one))
      (own_value f.bind.scene.variables name i)
      ∙ outside y _ term
      ∙ number (λ w. if equality true (value.Number i) w then exhale (judging maps table)
      (from_at f name i) formula one else one))
      (full r other _ single)
      (kept.reads f y _ _ (λ w. fixed_choice formula r one other (number_in w) single h))

  choice_same : (b : Bool) (x y : Next Judged) → ◌≡◌ {A = Next Judged} (λ s. if b then x s else y s) (if b then x else y)
  choice_same true x y = refl
  choice_same false x y = refl

  item_related : {formula : Formula} {item : Item} → SameItem name formula item → ConfinedItem name item
      → FixesNumber maps table f item → (r : Range) → IsOne r i → (one other : Next Judged) → Rel one other
      → Rel (exhale (judging maps table) (from_at f name i) formula one) (exhale_item (judging maps table) f name r item other)
  item_related (same_fact {e = e} {span = span}) confined number r single one other h =
      subst (λ (z : Next Judged). Rel (exhale (judging maps table) (from_at f name i) (core.Fact e span) one) z)
      (sym (full r other (exhale_repeated (judging maps table) f name e span r other) single))
      (kept.marks f name e span r i one other single h)
  item_related (same_element {type = type} {array = array} {index = index} {shift = shift} {units = units} {span = span} is)
      confined number r single one other h =
      element_related type array index shift units span r one other is confined single h
  item_related (same_committed {class = class} {e = e} {span = span}) confined number r single one other h =
      replaced _ _ _ _ (outside e _ confined) (full r other _ single)
      (kept.reads f e _ _ (λ o. kept.takes token.Committed class (reference_in o) f.check (span_or f.statement span) one other h))
  item_related (same_guarded {x = x} {f = formula} {i = item} {span = span} same) confined number r single one other h =
      subst (λ (z : Next Judged). Rel (exhale (judging maps table) (from_at f name i) (core.When x formula span) one) z)
      (sym (cuts_are (cuts_of name x) r other (λ q. exhale_item (judging maps table) f name q item other)))
      (condition_related Rel name i here aside aside unless noticed reading x r
      (exhale (judging maps table) (from_at f name i) formula one) one _ other _ (λ v. choice_same (truth_in v) _ one) single
      confined.0 (λ q alone. item_related same confined.1 number q alone one other h)
      (λ q empty. subst (λ (z : Next Judged). Rel one z) (sym (item_empty item q other empty)) h) h)
  item_related (same_implied {x = x} {y = y} {i = item} {span = span} same) confined number r single one other h =
      subst (λ (z : Next Judged).
      Rel (exhale (judging maps table) (from_at f name i) (core.Fact (core.Implies x y) span) one) z)
      (sym (cuts_are (cuts_of name x) r other (λ q. exhale_item (judging maps table) f name q item other)))
      (condition_related Rel name i here aside aside unless noticed reading x r
      (exhale (judging maps table) (from_at f name i) (core.Fact y span) one) one _ other _ (λ v. refl) single
      confined.0 (λ q alone. item_related same confined.1 number q alone one other h)
      (λ q empty. subst (λ (z : Next Judged). Rel one z) (sym (item_empty item q other empty)) h) h)
  item_related (same_fixed {y = y} {f = formula} {span = span}) confined number r single one other h =
      subst (λ (k : Value → Next Judged). Rel (value_from (judging maps table) (from_at f name i) y k)
      (exhale_item (judging maps table) f name r (core.Fixed y formula span) other))
      (sym (fun_ext (λ w. choice_same (equality true (at_position f.bind.scene.variables name i name.0) w)
      (exhale (judging maps table) (from_at f name i) formula one) one)))
      (fixed_related y formula span r one other confined.0 number single h)
  item_related (same_fixed_fact {y = y} {z = z} {span = span}) confined number r single one other h =
      fixed_related y (core.Fact z span) span r one other confined.0 number single h

  first_numbers : (is js : Items) → FixNumbers maps table f (together is js) → FixNumbers maps table f is
  first_numbers core.NoItems js h = tt
  first_numbers (core.Join item is) js h = (h.0, first_numbers is js h.1)

  second_numbers : (is js : Items) → FixNumbers maps table f (together is js) → FixNumbers maps table f js
  second_numbers core.NoItems js h = h
  second_numbers (core.Join item is) js h = second_numbers is js h.1

  items_append : (is js : Items) (low high : ℤ) (next : Next Judged)
      → exhale_items (judging maps table) f name low high (together is js) next
      ≡ exhale_items (judging maps table) f name low high is (exhale_items (judging maps table) f name low high js next)
  items_append core.NoItems js low high next = refl
  items_append (core.Join item is) js low high next =
      ap (exhale_item (judging maps table) f name (range_of low high) item) (items_append is js low high next)

  pub items_related : {formula : Formula} {items : Items} → SameItems name formula items → ConfinedItems name items
      → FixNumbers maps table f items → (one other : Next Judged) → Rel one other
      → Rel (exhale (judging maps table) (from_at f name i) formula one)
      (exhale_items (judging maps table) f name i (i +ℤ pos 1) items other)
  items_related same_nothing confined numbers one other h = h
  items_related (same_alone same) confined numbers one other h =
      item_related same confined.0 numbers.0 (range_of i (i +ℤ pos 1)) (range_one i) one other h
  items_related (same_together {f = first} {g = second} {is = is} {js = js} same again) confined numbers one other h =
      subst (λ (z : Next Judged). Rel (exhale (judging maps table) (from_at f name i) (core.Star first second) one) z)
      (sym (items_append is js i (i +ℤ pos 1) other))
      (items_related same (first_confined name is js confined) (first_numbers is js numbers)
      (exhale (judging maps table) (from_at f name i) second one)
      (exhale_items (judging maps table) f name i (i +ℤ pos 1) js other)
      (items_related again (second_confined name is js confined) (second_numbers is js numbers) one other h))
