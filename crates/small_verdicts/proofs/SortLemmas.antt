-- What sorts say of expressions.
use Rattle.std.proofs.Common.{ℕ, ◌+◌, ◌≡◌, Bool, true, false, ◌&&◌, ◌||◌, refl, sym, ap, ◌∙◌, subst, ◌⊎◌, inl, inr}
use Rattle.pv_ast.specs.declared.Word.{Word}
use Rattle.pv_ast.specs.declared.Operator.{Operator}
use Rattle.pv_ast.specs.declared.Operator.TheVariants as op
use Rattle.pv_ast.specs.declared.Expr.{Expr, fold_out-Expr}
use Rattle.pv_ast.specs.declared.Each.{Each, fold-Each}
use Rattle.pv_ast.specs.declared.ExprKind.{ExprKind, ExprKind-F, out-ExprKind, roll-ExprKind, roll-out-ExprKind, fold_out-ExprKind, map-ExprKind, fold-roll-ExprKind}
use Rattle.pv_ast.specs.declared.ExprKind.TheVariants as kind
use Rattle.pv_ast.specs.Measures.{literals_of, literals_of_kind, literals_in_kind, literals_in_each, literals_in_expr}
use Rattle.small_meaning.specs.Sorts.{Sort, literal, number, truth, unsorted, sorted_if, sort_of_operator, sort_of, sort_of_kind, sort_in_kind, sort_in_each, sort_in_expr, is_literal, is_number, is_truth}
use Rattle.small_verdicts.specs.Symbolic.{is_sum, is_order}

if_not_literal : (b : Bool) (s : Sort) → is_literal s ≡ false → is_literal (sorted_if b s) ≡ false
if_not_literal true s h = h
if_not_literal false s h = refl

operator_not_literal : (o : Operator) (a b : Sort) → is_literal (sort_of_operator o a b) ≡ false
operator_not_literal op.Add a b = if_not_literal (is_number a && is_literal b) number refl
operator_not_literal op.Sub a b = if_not_literal (is_number a && is_literal b) number refl
operator_not_literal op.Mul a b = refl
operator_not_literal op.Eq a b = if_not_literal ((is_number a && is_number b) || (is_truth a && is_truth b)) truth refl
operator_not_literal op.Ne a b = if_not_literal ((is_number a && is_number b) || (is_truth a && is_truth b)) truth refl
operator_not_literal op.Lt a b = if_not_literal (is_number a && is_number b) truth refl
operator_not_literal op.Le a b = if_not_literal (is_number a && is_number b) truth refl
operator_not_literal op.Gt a b = if_not_literal (is_number a && is_number b) truth refl
operator_not_literal op.Ge a b = if_not_literal (is_number a && is_number b) truth refl
operator_not_literal op.And a b = if_not_literal (is_truth a && is_truth b) truth refl
operator_not_literal op.Or a b = if_not_literal (is_truth a && is_truth b) truth refl
operator_not_literal op.Implies a b = refl
operator_not_literal op.Star a b = refl

abbrev sorts_in : ExprKind-F ExprKind Each Expr → ExprKind-F Sort Sort Sort
sorts_in = map-ExprKind ExprKind Each Expr Sort Sort Sort sort_of_kind
    (fold-Each Sort Sort Sort sort_in_kind sort_in_each sort_in_expr) sort_of

kind_at : (k : ExprKind) (x : ExprKind-F ExprKind Each Expr) → out-ExprKind k ≡ x → k ≡ roll-ExprKind x
kind_at k x is = sym (roll-out-ExprKind k) ∙ ap roll-ExprKind is

sort_layer : (k : ExprKind) → sort_of_kind k ≡ sort_in_kind (sorts_in (out-ExprKind k))
sort_layer k = fold_out-ExprKind Sort Sort Sort sort_in_kind sort_in_each sort_in_expr k

literal_layer : (k : ExprKind) (x : ExprKind-F ExprKind Each Expr) → out-ExprKind k ≡ x → is_literal (sort_in_kind (sorts_in x))
    ≡ true → (n : ℕ) × (k ≡ kind.Number n)
literal_layer k (ExprKind-F.Number n) is h = (n, kind_at k (ExprKind-F.Number n) is ∙ kind.rolls-Number n)
literal_layer k (ExprKind-F.Not a) is h = let f = if_not_literal (is_truth (sort_of a)) truth refl in cc
literal_layer k (ExprKind-F.Minus a) is h = let f = if_not_literal (is_literal (sort_of a)) number refl in cc
literal_layer k (ExprKind-F.Binary o a b) is h = let f = operator_not_literal o (sort_of a) (sort_of b) in cc
literal_layer k _ is h = cc

-- the sort of an expression is that of its kind
pub sort_of_expr : (e : Expr) → sort_of e ≡ sort_of_kind e.kind
sort_of_expr e = fold_out-Expr Sort Sort Sort sort_in_kind sort_in_each sort_in_expr e

-- a written number is a number
pub literal_is_number : (e : Expr) → is_literal (sort_of e) ≡ true → (n : ℕ) × (e.kind ≡ kind.Number n)
literal_is_number e h = literal_layer e.kind (out-ExprKind e.kind) refl
    (subst (λ s. is_literal s ≡ true) (sort_of_expr e ∙ sort_layer e.kind) h)

-- the sorts of an operator's parts
pub sort_of_binary : (e : Expr) (o : Operator) (a b : Expr) → e.kind ≡ kind.Binary o a b → sort_of e
    ≡ sort_of_operator o (sort_of a) (sort_of b)
sort_of_binary e o a b is = sort_of_expr e ∙ ap sort_of_kind is ∙ ap sort_of_kind (sym (kind.rolls-Binary o a b))
    ∙ fold-roll-ExprKind Sort Sort Sort sort_in_kind sort_in_each sort_in_expr (ExprKind-F.Binary o a b)

both : (a b : Bool) → (a && b) ≡ true → (a ≡ true) × (b ≡ true)
both true true h = (refl, refl)
both true false h = cc
both false b h = cc

if_number : (b : Bool) (s : Sort) → is_number (sorted_if b s) ≡ true → b ≡ true
if_number true s h = refl
if_number false s h = cc

if_truth_number : (b : Bool) → is_number (sorted_if b truth) ≡ true → ⊥
if_truth_number true h = cc
if_truth_number false h = cc

if_number_truth : (b : Bool) → is_truth (sorted_if b number) ≡ true → ⊥
if_number_truth true h = cc
if_number_truth false h = cc

if_truth : (b : Bool) (s : Sort) → is_truth (sorted_if b s) ≡ true → b ≡ true
if_truth true s h = refl
if_truth false s h = cc

-- a sum has a number at its left and a written number at its right
sum_parts : (o : Operator) (a b : Sort) → is_number (sort_of_operator o a b) ≡ true → (is_sum o ≡ true) × (is_number a ≡ true)
    × (is_literal b ≡ true)
sum_parts op.Add a b h = let p = both (is_number a) (is_literal b) (if_number (is_number a && is_literal b) number h) in
    (refl, p.0, p.1)
sum_parts op.Sub a b h = let p = both (is_number a) (is_literal b) (if_number (is_number a && is_literal b) number h) in
    (refl, p.0, p.1)
sum_parts op.Mul a b h = cc
sum_parts op.Eq a b h = absurd (if_truth_number ((is_number a && is_number b) || (is_truth a && is_truth b)) h)
sum_parts op.Ne a b h = absurd (if_truth_number ((is_number a && is_number b) || (is_truth a && is_truth b)) h)
sum_parts op.Lt a b h = absurd (if_truth_number (is_number a && is_number b) h)
sum_parts op.Le a b h = absurd (if_truth_number (is_number a && is_number b) h)
sum_parts op.Gt a b h = absurd (if_truth_number (is_number a && is_number b) h)
sum_parts op.Ge a b h = absurd (if_truth_number (is_number a && is_number b) h)
sum_parts op.And a b h = absurd (if_truth_number (is_truth a && is_truth b) h)
sum_parts op.Or a b h = absurd (if_truth_number (is_truth a && is_truth b) h)
sum_parts op.Implies a b h = cc
sum_parts op.Star a b h = cc

pub number_parts : (e : Expr) (o : Operator) (a b : Expr) → e.kind ≡ kind.Binary o a b → is_number (sort_of e) ≡ true
    → (is_sum o ≡ true) × (is_number (sort_of a) ≡ true) × (is_literal (sort_of b) ≡ true)
number_parts e o a b is h = sum_parts o (sort_of a) (sort_of b) (subst (λ s. is_number s ≡ true) (sort_of_binary e o a b is) h)

-- the left and the right side of two numbers, or of two truth values
abbrev pub AreOneSort : Sort → Sort → Type 0
AreOneSort a b = ((is_number a ≡ true) × (is_number b ≡ true)) ⊎ ((is_truth a ≡ true) × (is_truth b ≡ true))

one_sort : (a b c d : Bool) → ((a && b) || (c && d)) ≡ true → ((a ≡ true) × (b ≡ true)) ⊎ ((c ≡ true) × (d ≡ true))
one_sort true true c d h = inl (refl, refl)
one_sort true false c d h = inr (both c d h)
one_sort false b c d h = inr (both c d h)

-- what the parts of a truth value by an operator are
abbrev pub TruthParts : Operator → Sort → Sort → Type 0
TruthParts op.Add a b = ⊥
TruthParts op.Sub a b = ⊥
TruthParts op.Mul a b = ⊥
TruthParts op.Eq a b = AreOneSort a b
TruthParts op.Ne a b = AreOneSort a b
TruthParts op.Lt a b = (is_number a ≡ true) × (is_number b ≡ true)
TruthParts op.Le a b = (is_number a ≡ true) × (is_number b ≡ true)
TruthParts op.Gt a b = (is_number a ≡ true) × (is_number b ≡ true)
TruthParts op.Ge a b = (is_number a ≡ true) × (is_number b ≡ true)
TruthParts op.And a b = (is_truth a ≡ true) × (is_truth b ≡ true)
TruthParts op.Or a b = (is_truth a ≡ true) × (is_truth b ≡ true)
TruthParts op.Implies a b = ⊥
TruthParts op.Star a b = ⊥

truth_parts_of : (o : Operator) (a b : Sort) → is_truth (sort_of_operator o a b) ≡ true → TruthParts o a b
truth_parts_of op.Add a b h = if_number_truth (is_number a && is_literal b) h
truth_parts_of op.Sub a b h = if_number_truth (is_number a && is_literal b) h
truth_parts_of op.Mul a b h = cc
truth_parts_of op.Eq a b h = one_sort (is_number a) (is_number b) (is_truth a) (is_truth b)
    (if_truth ((is_number a && is_number b) || (is_truth a && is_truth b)) truth h)
truth_parts_of op.Ne a b h = one_sort (is_number a) (is_number b) (is_truth a) (is_truth b)
    (if_truth ((is_number a && is_number b) || (is_truth a && is_truth b)) truth h)
truth_parts_of op.Lt a b h = both (is_number a) (is_number b) (if_truth (is_number a && is_number b) truth h)
truth_parts_of op.Le a b h = both (is_number a) (is_number b) (if_truth (is_number a && is_number b) truth h)
truth_parts_of op.Gt a b h = both (is_number a) (is_number b) (if_truth (is_number a && is_number b) truth h)
truth_parts_of op.Ge a b h = both (is_number a) (is_number b) (if_truth (is_number a && is_number b) truth h)
truth_parts_of op.And a b h = both (is_truth a) (is_truth b) (if_truth (is_truth a && is_truth b) truth h)
truth_parts_of op.Or a b h = both (is_truth a) (is_truth b) (if_truth (is_truth a && is_truth b) truth h)
truth_parts_of op.Implies a b h = cc
truth_parts_of op.Star a b h = cc

pub truth_parts : (e : Expr) (o : Operator) (a b : Expr) → e.kind ≡ kind.Binary o a b → is_truth (sort_of e) ≡ true
    → TruthParts o (sort_of a) (sort_of b)
truth_parts e o a b is h = truth_parts_of o (sort_of a) (sort_of b) (subst (λ s. is_truth s ≡ true) (sort_of_binary e o a b is) h)

pub sort_of_not : (e a : Expr) → e.kind ≡ kind.Not a → is_truth (sort_of e) ≡ true → is_truth (sort_of a) ≡ true
sort_of_not e a is h =
    if_truth (is_truth (sort_of a)) truth (subst (λ s. is_truth s ≡ true)
    (sort_of_expr e ∙ ap sort_of_kind is ∙ ap sort_of_kind (sym (kind.rolls-Not a))
    ∙ fold-roll-ExprKind Sort Sort Sort sort_in_kind sort_in_each sort_in_expr (ExprKind-F.Not a)) h)

pub sort_of_minus : (e a : Expr) → e.kind ≡ kind.Minus a → is_number (sort_of e) ≡ true → is_literal (sort_of a) ≡ true
sort_of_minus e a is h =
    if_number (is_literal (sort_of a)) number (subst (λ s. is_number s ≡ true)
    (sort_of_expr e ∙ ap sort_of_kind is ∙ ap sort_of_kind (sym (kind.rolls-Minus a))
    ∙ fold-roll-ExprKind Sort Sort Sort sort_in_kind sort_in_each sort_in_expr (ExprKind-F.Minus a)) h)

module _ {P : Type 0} (k : ExprKind) where
  number_layer : (x : ExprKind-F ExprKind Each Expr) → out-ExprKind k ≡ x → is_number (sort_in_kind (sorts_in x)) ≡ true
      → ((n : ℕ) → k ≡ kind.Number n → P) → ((w : Word) → k ≡ kind.Var w → P) → (k ≡ kind.Result → P)
      → ((a : Expr) → k ≡ kind.Minus a → P)
      → ((o : Operator) (a b : Expr) → k ≡ kind.Binary o a b → P) → P
  number_layer (ExprKind-F.Number n) is h f g i j l = f n (kind_at k (ExprKind-F.Number n) is ∙ kind.rolls-Number n)
  number_layer (ExprKind-F.Var w) is h f g i j l = g w (kind_at k (ExprKind-F.Var w) is ∙ kind.rolls-Var w)
  number_layer ExprKind-F.Result is h f g i j l = i (kind_at k ExprKind-F.Result is ∙ kind.rolls-Result)
  number_layer (ExprKind-F.Minus a) is h f g i j l = j a (kind_at k (ExprKind-F.Minus a) is ∙ kind.rolls-Minus a)
  number_layer (ExprKind-F.Binary o a b) is h f g i j l =
      l o a b (kind_at k (ExprKind-F.Binary o a b) is ∙ kind.rolls-Binary o a b)
  number_layer (ExprKind-F.Not a) is h f g i j l = absurd (if_truth_number (is_truth (sort_of a)) h)
  number_layer _ is h f g i j l = cc

  truth_layer : (x : ExprKind-F ExprKind Each Expr) → out-ExprKind k ≡ x → is_truth (sort_in_kind (sorts_in x)) ≡ true
      → ((b : Bool) → k ≡ kind.Truth b → P) → ((a : Expr) → k ≡ kind.Not a → P)
      → ((o : Operator) (a b : Expr) → k ≡ kind.Binary o a b → P) → P
  truth_layer (ExprKind-F.Truth b) is h f g l = f b (kind_at k (ExprKind-F.Truth b) is ∙ kind.rolls-Truth b)
  truth_layer (ExprKind-F.Not a) is h f g l = g a (kind_at k (ExprKind-F.Not a) is ∙ kind.rolls-Not a)
  truth_layer (ExprKind-F.Binary o a b) is h f g l = l o a b (kind_at k (ExprKind-F.Binary o a b) is ∙ kind.rolls-Binary o a b)
  truth_layer (ExprKind-F.Minus a) is h f g l = absurd (if_number_truth (is_literal (sort_of a)) h)
  truth_layer _ is h f g l = cc

-- the kinds of numbers, and those of truth values
pub number_kinds : {P : Type 0} (e : Expr) → is_number (sort_of e) ≡ true
    → ((n : ℕ) → e.kind ≡ kind.Number n → P) → ((w : Word) → e.kind ≡ kind.Var w → P) → (e.kind ≡ kind.Result → P)
    → ((a : Expr) → e.kind ≡ kind.Minus a → P)
    → ((o : Operator) (a b : Expr) → e.kind ≡ kind.Binary o a b → P) → P
number_kinds e h = number_layer e.kind (out-ExprKind e.kind) refl
    (subst (λ s. is_number s ≡ true) (sort_of_expr e ∙ sort_layer e.kind) h)

pub truth_kinds : {P : Type 0} (e : Expr) → is_truth (sort_of e) ≡ true
    → ((b : Bool) → e.kind ≡ kind.Truth b → P) → ((a : Expr) → e.kind ≡ kind.Not a → P)
    → ((o : Operator) (a b : Expr) → e.kind ≡ kind.Binary o a b → P) → P
truth_kinds e h = truth_layer e.kind (out-ExprKind e.kind) refl
    (subst (λ s. is_truth s ≡ true) (sort_of_expr e ∙ sort_layer e.kind) h)

either_number : (b : Bool) → (is_number (sorted_if b number) || is_truth (sorted_if b number)) ≡ true → true
    ≡ is_number (sorted_if b number)
either_number true h = refl
either_number false h = cc

never_number : (b : Bool) → false ≡ is_number (sorted_if b truth)
never_number true = refl
never_number false = refl

sum_sort_of : (o : Operator) (a b : Sort) → (is_number (sort_of_operator o a b) || is_truth (sort_of_operator o a b)) ≡ true
    → is_sum o ≡ is_number (sort_of_operator o a b)
sum_sort_of op.Add a b h = either_number (is_number a && is_literal b) h
sum_sort_of op.Sub a b h = either_number (is_number a && is_literal b) h
sum_sort_of op.Mul a b h = refl
sum_sort_of op.Eq a b h = never_number ((is_number a && is_number b) || (is_truth a && is_truth b))
sum_sort_of op.Ne a b h = never_number ((is_number a && is_number b) || (is_truth a && is_truth b))
sum_sort_of op.Lt a b h = never_number (is_number a && is_number b)
sum_sort_of op.Le a b h = never_number (is_number a && is_number b)
sum_sort_of op.Gt a b h = never_number (is_number a && is_number b)
sum_sort_of op.Ge a b h = never_number (is_number a && is_number b)
sum_sort_of op.And a b h = never_number (is_truth a && is_truth b)
sum_sort_of op.Or a b h = never_number (is_truth a && is_truth b)
sum_sort_of op.Implies a b h = refl
sum_sort_of op.Star a b h = refl

pub sum_sort : (e : Expr) (o : Operator) (a b : Expr) → e.kind ≡ kind.Binary o a b
    → (is_number (sort_of e) || is_truth (sort_of e)) ≡ true → is_sum o ≡ is_number (sort_of e)
sum_sort e o a b is h =
    let s = sort_of_binary e o a b is in
    sum_sort_of o (sort_of a) (sort_of b) (subst (λ t. (is_number t || is_truth t) ≡ true) s h) ∙ ap is_number (sym s)

order_parts_of : (o : Operator) (a b : Sort) → TruthParts o a b → (o ≡ op.And → ⊥) → (o ≡ op.Or → ⊥) → (o ≡ op.Eq → ⊥)
    → (o ≡ op.Ne → ⊥) → (is_order o ≡ true) × (is_number a ≡ true) × (is_number b ≡ true)
order_parts_of op.Add a b h f g i j = absurd h
order_parts_of op.Sub a b h f g i j = absurd h
order_parts_of op.Mul a b h f g i j = absurd h
order_parts_of op.Eq a b h f g i j = absurd (i refl)
order_parts_of op.Ne a b h f g i j = absurd (j refl)
order_parts_of op.Lt a b h f g i j = (refl, h.0, h.1)
order_parts_of op.Le a b h f g i j = (refl, h.0, h.1)
order_parts_of op.Gt a b h f g i j = (refl, h.0, h.1)
order_parts_of op.Ge a b h f g i j = (refl, h.0, h.1)
order_parts_of op.And a b h f g i j = absurd (f refl)
order_parts_of op.Or a b h f g i j = absurd (g refl)
order_parts_of op.Implies a b h f g i j = absurd h
order_parts_of op.Star a b h f g i j = absurd h

pub order_parts : (e : Expr) (o : Operator) (a b : Expr) → e.kind ≡ kind.Binary o a b → is_truth (sort_of e) ≡ true
    → (o ≡ op.And → ⊥) → (o ≡ op.Or → ⊥) → (o ≡ op.Eq → ⊥) → (o ≡ op.Ne → ⊥) → (is_order o ≡ true)
    × (is_number (sort_of a) ≡ true) × (is_number (sort_of b) ≡ true)
order_parts e o a b is h = order_parts_of o (sort_of a) (sort_of b) (truth_parts e o a b is h)

one_is_sorted : (a b : Sort) → AreOneSort a b → ((is_number a || is_truth a) ≡ true)
    × ((is_number a ≡ true → is_number b ≡ true) × (is_number a ≡ false → (is_truth a ≡ true) × (is_truth b ≡ true)))
one_is_sorted a b (inl h) = (ap (λ x. x || is_truth a) h.0, (λ _. h.1, λ n. cc))
one_is_sorted a b (inr h) = (either_side (is_number a) (is_truth a) h.0, (λ n. absurd (not_both a n h.0), λ n. h))
  where
    either_side : (x y : Bool) → y ≡ true → (x || y) ≡ true
    either_side true y h = refl
    either_side false y h = h

    not_both : (s : Sort) → is_number s ≡ true → is_truth s ≡ true → ⊥
    not_both literal n t = cc
    not_both number n t = cc
    not_both truth n t = cc
    not_both unsorted n t = cc

-- the sides of an equality
pub equal_parts : (e a b : Expr) → e.kind ≡ kind.Binary op.Eq a b → is_truth (sort_of e) ≡ true
    → ((is_number (sort_of a) || is_truth (sort_of a)) ≡ true)
    × ((is_number (sort_of a) ≡ true → is_number (sort_of b) ≡ true)
    × (is_number (sort_of a) ≡ false → (is_truth (sort_of a) ≡ true) × (is_truth (sort_of b) ≡ true)))
equal_parts e a b is h = one_is_sorted (sort_of a) (sort_of b) (truth_parts e op.Eq a b is h)

pub differ_parts : (e a b : Expr) → e.kind ≡ kind.Binary op.Ne a b → is_truth (sort_of e) ≡ true
    → ((is_number (sort_of a) || is_truth (sort_of a)) ≡ true)
    × ((is_number (sort_of a) ≡ true → is_number (sort_of b) ≡ true)
    × (is_number (sort_of a) ≡ false → (is_truth (sort_of a) ≡ true) × (is_truth (sort_of b) ≡ true)))
differ_parts e a b is h = one_is_sorted (sort_of a) (sort_of b) (truth_parts e op.Ne a b is h)

-- the numbers written in an operator's parts
pub literals_of_binary : (e : Expr) (o : Operator) (a b : Expr) → e.kind ≡ kind.Binary o a b → literals_of e
    ≡ literals_of a + literals_of b
literals_of_binary e o a b is =
    fold_out-Expr ℕ ℕ ℕ literals_in_kind literals_in_each literals_in_expr e ∙ ap literals_of_kind is
    ∙ ap literals_of_kind (sym (kind.rolls-Binary o a b))
    ∙ fold-roll-ExprKind ℕ ℕ ℕ literals_in_kind literals_in_each literals_in_expr (ExprKind-F.Binary o a b)
