-- Names, each once.
use Rattle.std.proofs.Common.{◌≡◌, ℕ, ◌+◌, ◌<◌, ◌≤◌, Bool, true, false, not, ◌&&◌, ◌||◌, nat_eq, List, [], ◌∷◌, ◌++◌, length, drop, get_or, filter, filter_map, Option, Some, None, refl, sym, ◌∙◌, ap, cond, arith, append_assoc}
use Rattle.std.proofs.lemmas.List.{at_drop_more, at_drop_all, append-nil}
use Rattle.std.proofs.lemmas.Bool.{eqb-true}
use Rattle.std.proofs.lemmas.Bool.Decides.{nat_tests}
use Rattle.std.specs.Option.{option_to_list}
use Rattle.pv_base.specs.declared.Name.{Name}
use Rattle.pv_base.specs.Names.{same_name}
use Rattle.pv_ast.specs.Rules.Scoping.{Visible}
use Rattle.pv_picks.specs.Plain.Core.{Parameter}
use Rattle.pv_picks.specs.Elaborating.Names.{variable_in}
use Rattle.pv_picks.specs.Elaborating.Statements.{once, variables_among}

module _ {A : Type 0} where
  filter_step : (p q : A → Bool) (x : A) (xs : List A) (b : Bool) → q x ≡ b → filter p (filter q xs) ≡ filter (λ y. q y && p y) xs
      → filter p (filter q (x ∷ xs)) ≡ filter (λ y. q y && p y) (x ∷ xs)
  filter_step p q x xs true h rest = rw h (ap (λ l. cond (p x) (x ∷ l) l) rest)
  filter_step p q x xs false h rest = rw h rest

  filter_filter : (p q : A → Bool) (xs : List A) → filter p (filter q xs) ≡ filter (λ y. q y && p y) xs
  filter_filter p q [] = refl
  filter_filter p q (x ∷ xs) = filter_step p q x xs (q x) refl (filter_filter p q xs)

  filter_same : (p q : A → Bool) → ((x : A) → p x ≡ q x) → (xs : List A) → filter p xs ≡ filter q xs
  filter_same p q h [] = refl
  filter_same p q h (x ∷ xs) =
      ap (λ b. cond b (x ∷ filter p xs) (filter p xs)) (h x) ∙ ap (λ l. cond (q x) (x ∷ l) l) (filter_same p q h xs)

  filter_true : (p : A → Bool) → ((x : A) → p x ≡ true) → (xs : List A) → filter p xs ≡ xs
  filter_true p h [] = refl
  filter_true p h (x ∷ xs) = rw (h x) (ap (λ l. x ∷ l) (filter_true p h xs))

-- the names that are not known yet, each once
abbrev pub rest : (Name → Bool) → List Name → List Name
rest known names = filter (λ n. not (known n)) (once names)

pub rest_all : (known : Name → Bool) → ((n : Name) → known n ≡ false) → (names : List Name) → rest known names ≡ once names
rest_all known h names = filter_true (λ n. not (known n)) (λ n. ap not (h n)) (once names)

known_other : (known : Name → Bool) (x : Name) → known x ≡ true → (n : Name) (b : Bool) → same_name x n ≡ b
    → (not (same_name x n) && not (known n)) ≡ not (known n)
known_other known x k n true h =
    let e : n ≡ x = ap (λ m. record { 0 = m }) (sym (eqb-true x.0 n.0 h)) in
    rw h (sym (ap (λ m. not (known m)) e ∙ ap not k))
known_other known x k n false h = rw h refl

pub rest_known : (known : Name → Bool) (x : Name) (names : List Name) → known x ≡ true → rest known (x ∷ names) ≡ rest known names
rest_known known x names h =
    ap (λ b. cond (not b) (x ∷ filter (λ n. not (known n)) (filter (λ n. not (same_name x n)) (once names)))
    (filter (λ n. not (known n)) (filter (λ n. not (same_name x n)) (once names)))) h
    ∙ filter_filter (λ n. not (known n)) (λ n. not (same_name x n)) (once names)
    ∙ filter_same (λ n. not (same_name x n) && not (known n)) (λ n. not (known n))
    (λ n. known_other known x h n (same_name x n) refl) (once names)

same_sym : (x n : Name) → same_name x n ≡ same_name n x
same_sym x n = grind (arith, nat_tests)

neither : (b c : Bool) → (not b && not c) ≡ not (b || c)
neither true c = refl
neither false c = refl

pub rest_new : (known known' : Name → Bool) (x : Name) (names : List Name) → known x ≡ false
    → ((n : Name) → known' n ≡ (same_name n x || known n)) → rest known (x ∷ names) ≡ x ∷ rest known' names
rest_new known known' x names h more =
    ap (λ b. cond (not b) (x ∷ filter (λ n. not (known n)) (filter (λ n. not (same_name x n)) (once names)))
    (filter (λ n. not (known n)) (filter (λ n. not (same_name x n)) (once names)))) h
    ∙ ap (λ l. x ∷ l) (filter_filter (λ n. not (known n)) (λ n. not (same_name x n)) (once names)
    ∙ filter_same (λ n. not (same_name x n) && not (known n)) (λ n. not (known' n))
    (λ n. ap (λ b. not b && not (known n)) (same_sym x n) ∙ neither (same_name n x) (known n) ∙ ap not (sym (more n))) (once
    names))

-- the variables among the names that are left
abbrev pub variables_left : Visible → (Name → Bool) → List Name → List Parameter
variables_left v known names = filter_map (variable_in v) (rest known names)

first_variable : (v : Visible) (x : Name) (names : List Name)
    → filter_map (variable_in v) (x ∷ names) ≡ option_to_list (variable_in v x) ++ filter_map (variable_in v) names
first_variable v x names = by (variable_in v x) refl
  where
    by : (o : Option Parameter) → variable_in v x ≡ o
        → filter_map (variable_in v) (x ∷ names) ≡ option_to_list (variable_in v x) ++ filter_map (variable_in v) names
    by None h = rw h refl
    by (Some p) h = rw h refl

-- one more name, which was known or not
pub known_next : (v : Visible) (known known' : Name → Bool) (names : List Name) (at : ℕ) (d x : Name) (all : List Parameter)
    → at < length names → x ≡ get_or names at d → known x ≡ true
    → ((n : Name) → known' n ≡ (same_name n x || known n))
    → all ++ variables_left v known' (drop (at + 1) names) ≡ all ++ variables_left v known (drop at names)
known_next v known known' names at d x all lt is k more =
    let left = drop (at + 1) names in
    ap (λ l. all ++ filter_map (variable_in v) l)
    (filter_same (λ n. not (known' n)) (λ n. not (known n)) (λ n. ap not (more n ∙ still n (same_name n x) refl)) (once left)
    ∙ sym (rest_known known x left k))
    ∙ ap (λ y. all ++ variables_left v known (y ∷ left)) is
    ∙ sym (at_drop_more (λ l. all ++ variables_left v known l) names at d lt)
  where
    still : (n : Name) (b : Bool) → same_name n x ≡ b → (same_name n x || known n) ≡ known n
    still n true h =
        let e : n ≡ x = ap (λ m. record { 0 = m }) (eqb-true n.0 x.0 h) in
        rw h (sym (ap known e ∙ k))
    still n false h = rw h refl

pub new_next : (v : Visible) (known known' : Name → Bool) (names : List Name) (at : ℕ) (d x : Name) (all new : List Parameter)
    → at < length names → x ≡ get_or names at d → known x ≡ false
    → ((n : Name) → known' n ≡ (same_name n x || known n)) → new ≡ all ++ option_to_list (variable_in v x)
    → new ++ variables_left v known' (drop (at + 1) names) ≡ all ++ variables_left v known (drop at names)
new_next v known known' names at d x all new lt is k more n =
    let left = drop (at + 1) names in
    ap (λ l. l ++ variables_left v known' left) n
    ∙ append_assoc all (option_to_list (variable_in v x)) (variables_left v known' left)
    ∙ ap (λ l. all ++ l) (sym (first_variable v x (rest known' left)))
    ∙ ap (λ l. all ++ filter_map (variable_in v) l) (sym (rest_new known known' x left k more))
    ∙ ap (λ y. all ++ variables_left v known (y ∷ left)) is
    ∙ sym (at_drop_more (λ l. all ++ variables_left v known l) names at d lt)

pub variables_end : (v : Visible) (known : Name → Bool) (names : List Name) (at : ℕ) (all : List Parameter) → length names ≤ at
    → all ++ variables_left v known (drop at names) ≡ all
variables_end v known names at all le =
    at_drop_all (λ l. all ++ variables_left v known l) names at le ∙ append-nil all

pub not_true : (b : Bool) → not b ≡ true → b ≡ false
not_true true h = absurd cc
not_true false h = refl

pub not_false : (b : Bool) → not b ≡ false → b ≡ true
not_false true h = refl
not_false false h = absurd cc
