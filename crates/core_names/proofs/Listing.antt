-- What a left side names, and the list of a loop.
use Rattle.std.proofs.Common.{◌≡◌, ℕ, Bool, true, false, not, ◌||◌, Option, Some, None, is_some, option_map, List, [], ◌∷◌, ◌++◌, refl, sym, ◌∙◌, ap, subst, inl, inr}
use Rattle.std.proofs.lemmas.Bool.{or_cases, or_left, or_right, or_from, or_parts, not-true, eqb-true, eq-eqb, both_ways}
use Rattle.std.specs.Prelude.{nat_eq, filter, filter_map, if◌then◌else◌, ◌⊎◌}
use Rattle.std.specs.List.{list_any, cons_option}
use Rattle.pv_base.specs.declared.Name.{Name}
use Rattle.pv_base.specs.declared.Span.{Span}
use Rattle.pv_ast.specs.declared.Operator.{Operator}
use Rattle.pv_ast.specs.declared.Operator.TheVariants as op
use Rattle.pv_ast.specs.declared.Expr.{Expr}
use Rattle.pv_ast.specs.declared.ExprKind.{ExprKind, ExprKind-F, out-ExprKind, roll-ExprKind, roll-out-ExprKind}
use Rattle.pv_ast.specs.declared.ExprKind.TheVariants as kind
use Rattle.pv_ast.specs.declared.Each.{Each}
use Rattle.pv_ast.specs.declared.scope.Declared.{Declared}
use Rattle.pv_ast.specs.declared.standing.Typing.{Typing}
use Rattle.pv_base.specs.Names.{same_name}
use Rattle.pv_ast.specs.Rules.Scoping.{Visible, variable_named, is_inner_local}
use Rattle.pv_ast.specs.Rules.Expressions.{Environment, CheckedExpression, checked_expression, typing_in, seen_of_name, is_array_length}
use Rattle.pv_ast.specs.Rules.Statements.{is_assignable, is_inner_local_kind}
use Rattle.pv_picks.specs.Plain.Core as core
use Rattle.pv_picks.specs.Plain.Core.{Expression, Parameter}
use Rattle.pv_picks.specs.Elaborating.Operations.{target_of, negation, operation}
use Rattle.pv_picks.specs.Elaborating.Names.{named, member_of, elements_of, class_at, variable_in}
use Rattle.pv_picks.specs.Elaborating.Expressions.{ElaboratedExpression, ElaboratedKind, elaborated_expression, elaborated_kind, elaborated_in_kind, expression_in_kind}
use Rattle.pv_picks.specs.Elaborating.Statements.{core_of_target, name_of_kind, once, variables_among}
use Rattle.core_trees.specs.Resolved.{InScope, names_of}
use Rattle.core_trees.proofs.Layers.{layer_of, elaborated_rolled, kind_at_roll, checked_in_elaborated}
use Rattle.core_trees.specs.Naming.{AreDistinct}
use Rattle.core_names.specs.Assigning.{goes_into}

-- Left sides

-- a kind that is the name of a variable
abbrev IsNamed : Visible → ExprKind-F ExprKind Each Expr → Name → Type 0
IsNamed v (ExprKind-F.Var w) n = (same_name n w.name ≡ true) × (is_some (variable_named v w.name) ≡ true)
IsNamed v _ n = ⊥

named_by : (a : Environment) (span : Span) (name n : Name) (o : Option Declared)
    → goes_into n (target_of (named a span name o)) ≡ true → (same_name n name ≡ true) × (is_some o ≡ true)
named_by a span name n None h = absurd cc
named_by a span name n (Some d) h = (h, refl)

member_if : (b : Bool) (n : Name) (x y : Expression) → goes_into n (target_of x) ≡ false → goes_into n (target_of y) ≡ false
    → goes_into n (target_of (if b then x else y)) ≡ false
member_if true n x y h k = h
member_if false n x y h k = k

member_not : (a : Environment) (n name : Name) (span : Span) (t : Typing) (x : Expression)
    → goes_into n (target_of (member_of a span name t x)) ≡ false
member_not a n name span t x =
    member_if (is_array_length a name t) n (core.Length (elements_of t) x span) (core.Field x (class_at t) name span) refl refl

operation_not : (o : Operator) (n : Name) (span : Span) (x y : Expression)
    → goes_into n (target_of (operation o span x y)) ≡ false
operation_not op.Add n span x y = refl
operation_not op.Sub n span x y = refl
operation_not op.Mul n span x y = refl
operation_not op.Eq n span x y = refl
operation_not op.Ne n span x y = refl
operation_not op.Lt n span x y = refl
operation_not op.Le n span x y = refl
operation_not op.Gt n span x y = refl
operation_not op.Ge n span x y = refl
operation_not op.And n span x y = refl
operation_not op.Or n span x y = refl
operation_not op.Implies n span x y = refl
operation_not op.Star n span x y = refl

negation_not : (o : Option ℕ) (n : Name) (span : Span) (x : Expression) → goes_into n (target_of (negation o span x)) ≡ false
negation_not None n span x = refl
negation_not (Some m) n span x = refl

no : {A : Type 0} (b : Bool) → b ≡ false → b ≡ true → A
no b h k = absurd (both_ways b h k)

name_at : (l : ExprKind-F ExprKind Each Expr) (a : Environment) (v : Visible) (span : Span) (n : Name)
    → goes_into n (target_of (expression_in_kind (layer_of l) span a v)) ≡ true → IsNamed v l n
name_at (ExprKind-F.Number m) a v span n h = absurd cc
name_at (ExprKind-F.Truth b) a v span n h = absurd cc
name_at ExprKind-F.Null a v span n h = absurd cc
name_at ExprKind-F.This a v span n h = absurd cc
name_at ExprKind-F.Result a v span n h = absurd cc
name_at (ExprKind-F.Var w) a v span n h = named_by a span w.name n (variable_named v w.name) h
name_at (ExprKind-F.Field e w) a v span n h = no _ (member_not a n w.name span (typing_in (elaborated_expression e).checked a v)
    ((elaborated_expression e).expression a v)) h
name_at (ExprKind-F.Index e i) a v span n h = absurd cc
name_at (ExprKind-F.Not e) a v span n h = absurd cc
name_at (ExprKind-F.Minus e) a v span n h = no _ (negation_not _ n span _) h
name_at (ExprKind-F.Binary o x y) a v span n h = no _ (operation_not o n span _ _) h
name_at (ExprKind-F.Old e) a v span n h = absurd cc
name_at (ExprKind-F.Perm e checked whole amount) a v span n h = absurd cc
name_at (ExprKind-F.Token t e) a v span n h = absurd cc
name_at (ExprKind-F.Instance target w args) a v span n h = absurd cc
name_at (ExprKind-F.Each q) a v span n h = absurd cc

-- a variable that may be assigned is among the names that its kind gives, and a local of the innermost body
record IsOwn (v : Visible) (a : Environment) (k : ExprKind) (p : ElaboratedKind) (n : Name) : Type 0 where
  named : InScope (name_of_kind k) n
  variable : is_some (variable_named v n) ≡ true
  inner : ((p.checked.seen a v).location || is_inner_local_kind v k) ≡ true → is_inner_local v n ≡ true

location_not : (a : Environment) (name : Name) (o : Option Declared) → is_some o ≡ true → (seen_of_name a name o).location ≡ false
location_not a name None h = absurd cc
location_not a name (Some d) h = refl

second_of : (x y : Bool) → x ≡ false → (x || y) ≡ true → y ≡ true
second_of true y h k = absurd cc
second_of false y h k = k

same_local : (v : Visible) (n other : Name) → same_name n other ≡ true → is_inner_local v other ≡ true → is_inner_local v n ≡ true
same_local v n other h k = ap (λ m. is_inner_local v (record { 0 = m })) (eqb-true n.0 other.0 h) ∙ k

same_variable : (v : Visible) (n x : Name) → is_some (variable_named v n) ≡ true → same_name n x ≡ true
    → is_some (variable_named v x) ≡ true
same_variable v n x there h = ap (λ k. is_some (variable_named v (record { 0 = k }))) (sym (eqb-true n.0 x.0 h)) ∙ there

turned : (x y : Name) → same_name x y ≡ true → same_name y x ≡ true
turned x y h = eq-eqb y.0 x.0 (sym (eqb-true x.0 y.0 h))

own_at : (l : ExprKind-F ExprKind Each Expr) (a : Environment) (v : Visible) (n : Name) → IsNamed v l n
    → IsOwn v a (roll-ExprKind l) (elaborated_in_kind (layer_of l)) n
own_at (ExprKind-F.Var w) a v n h = record {
  named = ap (λ k. list_any (same_name n) (name_of_kind k)) (kind.rolls-Var w) ∙ or_left (same_name n w.name) false h.0;
  variable = same_variable v w.name n h.1 (turned n w.name h.0);
  inner = λ k. same_local v n w.name h.0
      (sym (ap (is_inner_local_kind v) (kind.rolls-Var w))
      ∙ second_of (seen_of_name a w.name (variable_named v w.name)).location
      (is_inner_local_kind v (roll-ExprKind (ExprKind-F.Var w)))
      (location_not a w.name (variable_named v w.name) h.1) k);
}
own_at _ a v n h = absurd h

-- what is known of a name that a left side assigns
pub record Assigned (e : Expr) (v : Visible) (n : Name) : Type 0 where
  pub named : InScope (name_of_kind e.kind) n
  pub variable : is_some (variable_named v n) ≡ true
  pub inner : is_inner_local v n ≡ true

-- what a left side without a fault assigns
pub assigned_at : (e : Expr) (a : Environment) (v : Visible) (n : Name) → is_assignable a v e ≡ true
    → goes_into n (core_of_target a v e) ≡ true
    → Assigned e v n
assigned_at e a v n assignable h =
    let l : ExprKind-F ExprKind Each Expr = out-ExprKind e.kind in
    let rolled : roll-ExprKind l ≡ e.kind = roll-out-ExprKind e.kind in
    let shown : elaborated_kind e.kind ≡ elaborated_in_kind (layer_of l) = ap elaborated_kind (sym rolled) ∙ kind_at_roll l in
    let at : IsNamed v l n = name_at l a v e.span n
    (sym (ap (λ (p : ElaboratedExpression). goes_into n (target_of (p.expression a v))) (elaborated_rolled e) ∙ ap
    (λ (k : ElaboratedKind). goes_into n (target_of (k.expression e.span a v))) shown) ∙ h) in
    let own : IsOwn v a e.kind (elaborated_kind e.kind) n =
    subst (λ (p : ElaboratedKind). IsOwn v a e.kind p n) (sym shown)
    (subst (λ (k : ExprKind). IsOwn v a k (elaborated_in_kind (layer_of l)) n) rolled (own_at l a v n at)) in
    let there : ((checked_expression e).seen a v).location ≡ ((elaborated_kind e.kind).checked.seen a v).location =
    sym (ap (λ (p : CheckedExpression). (p.seen a v).location) (checked_in_elaborated e))
    ∙ ap (λ (p : ElaboratedExpression). (p.checked.seen a v).location)
    (elaborated_rolled e) in
    record {
      named = own.named;
      variable = own.variable;
      inner = own.inner
          (ap (λ b. b || is_inner_local_kind v e.kind) (sym there) ∙ assignable);
    }

-- Lists of names

pub in_first : (xs ys : List Name) (n : Name) → InScope xs n → InScope (xs ++ ys) n
in_first [] ys n h = absurd cc
in_first (x ∷ xs) ys n h = elim (or_cases (same_name n x) (list_any (same_name n) xs) h) [
  | inl k ↦ or_left (same_name n x) (list_any (same_name n) (xs ++ ys)) k
  | inr k ↦ or_right (same_name n x) (list_any (same_name n) (xs ++ ys)) (in_first xs ys n k)
]

pub in_second : (xs ys : List Name) (n : Name) → InScope ys n → InScope (xs ++ ys) n
in_second [] ys n h = h
in_second (x ∷ xs) ys n h = or_right (same_name n x) (list_any (same_name n) (xs ++ ys)) (in_second xs ys n h)

-- names but one

abbrev others : Name → List Name → List Name
others x xs = filter (λ y. not (same_name x y)) xs

either_kept : (b : Bool) (test : Name → Bool) (x : Name) (xs : List Name) → (b ≡ true → test x ≡ false)
    → list_any test (if not b then x ∷ xs else xs) ≡ (test x || list_any test xs)
either_kept true test x xs h = ap (λ c. c || list_any test xs) (sym (h refl))
either_kept false test x xs h = refl

apart : (n x y : Name) → same_name n x ≡ false → same_name x y ≡ true → same_name n y ≡ false
apart n x y h k = ap (nat_eq n.0) (sym (eqb-true x.0 y.0 k)) ∙ h

others_kept : (n x : Name) (xs : List Name) → same_name n x ≡ false
    → list_any (same_name n) (others x xs) ≡ list_any (same_name n) xs
others_kept n x [] h = refl
others_kept n x (y ∷ ys) h =
    either_kept (same_name x y) (same_name n) y (others x ys) (apart n x y h) ∙ ap (λ b. same_name n y || b)
    (others_kept n x ys h)

once_if : (b : Bool) (n x : Name) (xs : List Name) → same_name n x ≡ b
    → (list_any (same_name n) (once xs) ≡ list_any (same_name n) xs) → (b || list_any (same_name n) (others x (once xs))) ≡
    (b || list_any (same_name n) xs)
once_if true n x xs is h = refl
once_if false n x xs is h = others_kept n x (once xs) is ∙ h

-- each name is still there
pub once_all : (n : Name) (xs : List Name) → list_any (same_name n) (once xs) ≡ list_any (same_name n) xs
once_all n [] = refl
once_all n (x ∷ xs) = once_if (same_name n x) n x xs refl (once_all n xs)

-- Names that differ

absent_if : (b : Bool) (n x : Name) (xs : List Name) → (b ≡ true → same_name n x ≡ false) → list_any (same_name n) xs ≡ false
    → list_any (same_name n) (if b then x ∷ xs else xs) ≡ false
absent_if true n x xs h k = or_from (same_name n x) (list_any (same_name n) xs) (h refl) k
absent_if false n x xs h k = k

none_left : (x : Name) (xs : List Name) → list_any (same_name x) (others x xs) ≡ false
none_left x [] = refl
none_left x (y ∷ ys) = absent_if (not (same_name x y)) x y (others x ys) (not-true (same_name x y)) (none_left x ys)

absent_among : (p : Name → Bool) (n : Name) (xs : List Name) → list_any (same_name n) xs ≡ false
    → list_any (same_name n) (filter p xs) ≡ false
absent_among p n [] h = refl
absent_among p n (x ∷ xs) h =
    let k = or_parts (same_name n x) (list_any (same_name n) xs) h in absent_if (p x) n x (filter p xs) (λ i. k.0)
    (absent_among p n xs k.1)

distinct_if : (b : Bool) (x : Name) (xs : List Name) → list_any (same_name x) xs ≡ false → AreDistinct xs
    → AreDistinct (if b then x ∷ xs else xs)
distinct_if true x xs h k = (h, k)
distinct_if false x xs h k = k

distinct_among : (p : Name → Bool) (xs : List Name) → AreDistinct xs → AreDistinct (filter p xs)
distinct_among p [] h = tt
distinct_among p (x ∷ xs) h = distinct_if (p x) x (filter p xs) (absent_among p x xs h.0) (distinct_among p xs h.1)

once_distinct : (xs : List Name) → AreDistinct (once xs)
once_distinct [] = tt
once_distinct (x ∷ xs) = (none_left x (once xs), distinct_among (λ y. not (same_name x y)) (once xs) (once_distinct xs))

-- The list of a loop

absent_option : (n x : Name) (o : Option Declared) (xs : List Parameter) → same_name n x ≡ false
    → list_any (same_name n) (names_of xs) ≡ false
    → list_any (same_name n) (names_of (cons_option (option_map (λ d. (x, d.kind)) o) xs)) ≡ false
absent_option n x None xs h k = k
absent_option n x (Some d) xs h k = or_from (same_name n x) (list_any (same_name n) (names_of xs)) h k

absent_variables : (v : Visible) (n : Name) (xs : List Name) → list_any (same_name n) xs ≡ false
    → list_any (same_name n) (names_of (filter_map (variable_in v) xs)) ≡ false
absent_variables v n [] h = refl
absent_variables v n (x ∷ xs) h =
    let k = or_parts (same_name n x) (list_any (same_name n) xs) h in
    absent_option n x (variable_named v x) (filter_map (variable_in v) xs) k.0 (absent_variables v n xs k.1)

distinct_option : (x : Name) (o : Option Declared) (xs : List Parameter) → list_any (same_name x) (names_of xs) ≡ false
    → AreDistinct (names_of xs)
    → AreDistinct (names_of (cons_option (option_map (λ d. (x, d.kind)) o) xs))
distinct_option x None xs h k = k
distinct_option x (Some d) xs h k = (h, k)

distinct_variables : (v : Visible) (xs : List Name) → AreDistinct xs → AreDistinct (names_of (filter_map (variable_in v) xs))
distinct_variables v [] h = tt
distinct_variables v (x ∷ xs) h =
    distinct_option x (variable_named v x) (filter_map (variable_in v) xs) (absent_variables v x xs h.0)
    (distinct_variables v xs h.1)

pub listed_distinct : (v : Visible) (xs : List Name) → AreDistinct (names_of (variables_among v xs))
listed_distinct v xs = distinct_variables v (once xs) (once_distinct xs)

there_option : (n x : Name) (o : Option Declared) (xs : List Parameter)
    → (same_name n x ≡ true) ⊎ (list_any (same_name n) (names_of xs) ≡ true)
    → (same_name n x ≡ true → is_some o ≡ true) → list_any (same_name n)
    (names_of (cons_option (option_map (λ d. (x, d.kind)) o) xs)) ≡ true
there_option n x None xs (inl h) k = absurd (let no : false ≡ true = k h in cc)
there_option n x None xs (inr h) k = h
there_option n x (Some d) xs (inl h) k = or_left (same_name n x) (list_any (same_name n) (names_of xs)) h
there_option n x (Some d) xs (inr h) k = or_right (same_name n x) (list_any (same_name n) (names_of xs)) h

there_variables : (v : Visible) (n : Name) (xs : List Name) → is_some (variable_named v n) ≡ true → InScope xs n
    → InScope (names_of (filter_map (variable_in v) xs)) n
there_variables v n [] there h = absurd cc
there_variables v n (x ∷ xs) there h =
    there_option n x (variable_named v x) (filter_map (variable_in v) xs)
    (elim (or_cases (same_name n x) (list_any (same_name n) xs) h)
    [ inl k ↦ inl k | inr k ↦ inr (there_variables v n xs there k) ])
    (same_variable v n x there)

-- a variable in scope that is among the names is in the list
pub listed_there : (v : Visible) (xs : List Name) (n : Name) → is_some (variable_named v n) ≡ true → InScope xs n
    → InScope (names_of (variables_among v xs)) n
listed_there v xs n there h = there_variables v n (once xs) there (once_all n xs ∙ h)
