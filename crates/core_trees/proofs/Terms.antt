-- What the shape of an expression says of what it becomes: which parts of it don't name a position.
use Rattle.std.proofs.Common.{◌≡◌, ℕ, ℤ, pos, Bool, true, false, not, ◌&&◌, ◌||◌, Option, Some, None, is_some, List, [], ◌∷◌, ◌++◌, refl, sym, ◌∙◌, ap, subst, inl, inr}
use Rattle.std.proofs.lemmas.Bool.{and_parts, or_from, or_left, both_ways}
use Rattle.std.specs.Prelude.{◌⊎◌, if◌then◌else◌, ◌-ℤ◌}
use Rattle.std.specs.List.{AllByRecursion}
use Rattle.pv_base.specs.declared.Name.{Name}
use Rattle.pv_base.specs.declared.Span.{Span}
use Rattle.pv_ast.specs.declared.Operator.{Operator}
use Rattle.pv_ast.specs.declared.Operator.TheVariants as op
use Rattle.pv_ast.specs.declared.PvType.{PvType}
use Rattle.pv_ast.specs.Rules.Items.{Use, unused, shifted as shifted_use, elsewhere, is_used, both_uses, Form, variable, literal, shift, element, guard, fixing, other, is_variable, is_guard, is_fixing, Facts, is_term, is_variable_and_term, has_variable_and_term, are_terms, form_if, raised, lowered, literal_of, form_of_order, form_of_operator, form_of_index, element_at, shift_of, item_of_use, use_of_index, use_at, facts_of_index, facts_of_operator}
use Rattle.pv_picks.specs.Plain.Core.{Expression, Cut, Formula, Items, Item}
use Rattle.pv_picks.specs.Plain.Core as core
use Rattle.pv_picks.specs.Elaborating.Operations.{number, is_literal, plainly, compared, operation, negation, is_position, cut_before, cut_behind, cut_of, cuts_of, term_of, permission, permissions}
use Rattle.pv_picks.specs.Judge.Repetitions.{looks_in, looks_of, term_beside}
use Rattle.pv_picks.specs.Elaborating.Expressions.{shifted, together}
use Rattle.core_trees.proofs.Steadiness.{both_none, term_steady, operation_steady, Few, two_uses, ShiftsBy, position_by, sum_by_number, difference_by_number}
use Rattle.pv_picks.specs.Judge.Steady.{mentions, Steady, NoElements, IsTerm}
use Rattle.core_trees.specs.Positions.{IsRepeated, IsTermCut, ConfinedFormula, ConfinedItems, ConfinedItem}
use Rattle.core_trees.proofs.Looks.{TermLooks, looks_append, term_looks, position_mentions, Either, Beside, beside_looks, apart_looks, Shifts, position_shifts, sum_shifts, difference_shifts, element_looks}

-- Operations

-- both name the position, or neither; both are it, or neither; and both look at the same
abbrev Alike : Name → Expression → Expression → Type 0
Alike name e f = (mentions name f ≡ mentions name e) × (is_position name f ≡ is_position name e)
    × ((old : Bool) → looks_in name old f ≡ looks_in name old e)

plainly_alike : (name : Name) (e : Expression) → Alike name e (plainly e)
plainly_alike name (core.Compute m core.Minus x y span) = (refl, refl, λ old. refl)
plainly_alike name (core.Compute m core.Plus x y span) = (refl, refl, λ old. refl)
plainly_alike name (core.Compute m core.Times x y span) = (refl, refl, λ old. refl)
plainly_alike name (core.Constant v) = (refl, refl, λ old. refl)
plainly_alike name core.This = (refl, refl, λ old. refl)
plainly_alike name core.Result = (refl, refl, λ old. refl)
plainly_alike name (core.Variable n) = (refl, refl, λ old. refl)
plainly_alike name (core.Field e class field span) = (refl, refl, λ old. refl)
plainly_alike name (core.Element type e i span) = (refl, refl, λ old. refl)
plainly_alike name (core.Length type e span) = (refl, refl, λ old. refl)
plainly_alike name (core.Not e) = (refl, refl, λ old. refl)
plainly_alike name (core.Compare c x y) = (refl, refl, λ old. refl)
plainly_alike name (core.Equal same x y) = (refl, refl, λ old. refl)
plainly_alike name (core.And x y) = (refl, refl, λ old. refl)
plainly_alike name (core.Or x y) = (refl, refl, λ old. refl)
plainly_alike name (core.Implies x y) = (refl, refl, λ old. refl)
plainly_alike name (core.Old e) = (refl, refl, λ old. refl)

alike_if : (name : Name) (b : Bool) (e : Expression) → Alike name e (if b then plainly e else e)
alike_if name true e = plainly_alike name e
alike_if name false e = (refl, refl, λ old. refl)

compared_alike : (name : Name) (x e : Expression) → Alike name e (compared x e)
compared_alike name x e = alike_if name (is_literal x) e

compared_term : (name : Name) (x e : Expression) → IsTerm name e → IsTerm name (compared x e)
compared_term name x e h = (compared_alike name x e).0 ∙ h

two_compared : (name : Name) (x y : Expression) → IsTerm name x → IsTerm name y
    → (mentions name (compared y x) || mentions name (compared x y)) ≡ false
two_compared name x y h k = or_from _ _ (compared_term name y x h) (compared_term name x y k)

operation_term : (name : Name) (o : Operator) (span : Span) (x y : Expression) → IsTerm name x → IsTerm name y
    → IsTerm name (operation o span x y)
operation_term name op.Add span x y h k = or_from _ _ h k
operation_term name op.Sub span x y h k = or_from _ _ h k
operation_term name op.Mul span x y h k = or_from _ _ h k
operation_term name op.Eq span x y h k = two_compared name x y h k
operation_term name op.Ne span x y h k = two_compared name x y h k
operation_term name op.Lt span x y h k = two_compared name x y h k
operation_term name op.Le span x y h k = two_compared name x y h k
operation_term name op.Gt span x y h k = two_compared name x y h k
operation_term name op.Ge span x y h k = two_compared name x y h k
operation_term name op.And span x y h k = or_from _ _ h k
operation_term name op.Or span x y h k = or_from _ _ h k
operation_term name op.Implies span x y h k = or_from _ _ h k
operation_term name op.Star span x y h k = or_from _ _ h k

pub negation_term : (name : Name) (written : Option ℕ) (span : Span) (x : Expression) → IsTerm name x
    → IsTerm name (negation written span x)
negation_term name None span x h = h
negation_term name (Some n) span x h = refl

-- Uses

no_use : (a b : Use) → is_used (both_uses a b) ≡ false → (is_used a ≡ false) × (is_used b ≡ false)
no_use unused b h = (refl, h)
no_use (shifted_use s) unused h = absurd cc
no_use (shifted_use s) (shifted_use t) h = absurd (used_if _ h)
  where
    used_if : (b : Bool) → is_used (if b then shifted_use s else elsewhere) ≡ false → ⊥
    used_if true h = cc
    used_if false h = cc
no_use (shifted_use s) elsewhere h = absurd cc
no_use elsewhere b h = absurd cc

-- a use that items allow, in each of two parts
pub few_uses : (a b : Use) → is_some (item_of_use (both_uses a b)) ≡ true → (is_some (item_of_use a) ≡ true)
    × (is_some (item_of_use b) ≡ true)
few_uses unused b h = (refl, h)
few_uses (shifted_use s) unused h = (refl, refl)
few_uses (shifted_use s) (shifted_use t) h = (refl, refl)
few_uses (shifted_use s) elsewhere h = absurd cc
few_uses elsewhere b h = absurd cc

-- Forms

abbrev pub ArrayIsTerm : Name → Expression → Type 0
ArrayIsTerm name (core.Element type e i span) = IsTerm name e
ArrayIsTerm name _ = Unit {0}

-- what the form of an expression says of it: where that is the variable, it is the position or doesn't name it
abbrev pub FormSays : Name → Form → Expression → Type 0
FormSays name variable e = Either name e
FormSays name (literal n) e = e ≡ number (pos n)
FormSays name (shift s) e = Shifts name e × ShiftsBy name s e
FormSays name (element s) e = ArrayIsTerm name e
FormSays name guard e = AllByRecursion (IsTermCut name) (cuts_of name e)
FormSays name fixing e = IsTerm name (term_of e)
FormSays name other e = Unit {0}

variable_says : (name : Name) (form : Form) (e : Expression) → is_variable form ≡ true → FormSays name form e → Either name e
variable_says name variable e is h = h
variable_says name (literal n) e is h = absurd cc
variable_says name (shift s) e is h = absurd cc
variable_says name (element s) e is h = absurd cc
variable_says name guard e is h = absurd cc
variable_says name fixing e is h = absurd cc
variable_says name other e is h = absurd cc

-- Guards

before_term : (name : Name) (c : core.Comparison) (e : Expression) → IsTerm name e → IsTermCut name (cut_before c e)
before_term name core.Less e h = h
before_term name core.AtMost e h = h
before_term name core.Greater e h = h
before_term name core.AtLeast e h = h

behind_term : (name : Name) (c : core.Comparison) (e : Expression) → IsTerm name e → IsTermCut name (cut_behind c e)
behind_term name core.Less e h = h
behind_term name core.AtMost e h = h
behind_term name core.Greater e h = h
behind_term name core.AtLeast e h = h

cut_if : (name : Name) (a b : Bool) (c : core.Comparison) (x y : Expression) → is_position name x ≡ a → is_position name y ≡ b
    → Beside name x y ⊎ Beside name y x
    → IsTermCut name (if a then cut_before c y else (if b then cut_behind c x else core.Provided (core.Compare c x y)))
cut_if name true b c x y p q (inl h) = before_term name c y h.1
cut_if name true b c x y p q (inr h) = absurd (both_ways (mentions name x) h.1 (position_mentions name x p))
cut_if name false true c x y p q (inl h) = behind_term name c x (h.0 p)
cut_if name false true c x y p q (inr h) = behind_term name c x h.1
cut_if name false false c x y p q (inl h) = or_from _ _ (h.0 p) h.1
cut_if name false false c x y p q (inr h) = or_from _ _ h.1 (h.0 q)

or_cases : (a b : Bool) → (a || b) ≡ true → (a ≡ true) ⊎ (b ≡ true)
or_cases true b h = inl refl
or_cases false b h = inr h

-- what the facts of a part say of it
pub record Says (name : Name) (f : Facts) (e : Expression) : Type 0 where
  pub term : is_used f.uses ≡ false → IsTerm name e
  pub form : FormSays name f.form e
  pub looks : is_some (item_of_use f.uses) ≡ true → (old : Bool) → TermLooks name (looks_in name old e)
  pub apart : is_some (item_of_use f.uses) ≡ true → is_position name e ≡ false
  pub steady : (s : ℤ) → f.uses ≡ shifted_use s → Steady name s e

some_same : (x s : ℤ) → Some x ≡ Some s → x ≡ s
some_same x s h = cc h

not_used : (b : Bool) → not b ≡ true → b ≡ false
not_used true h = absurd cc
not_used false h = refl

pub term_says : (name : Name) (f : Facts) (e : Expression) → is_term f ≡ true → Says name f e → IsTerm name e
term_says name f e is h = h.term (not_used (is_used f.uses) is)

beside : (name : Name) (f g : Facts) (x y : Expression) → Says name f x → Says name g y → is_variable_and_term f g ≡ true
    → Beside name x y
beside name f g x y h k is =
    let two = and_parts (is_variable f.form) (is_term g) is in
    (variable_says name f.form x two.0 h.form, term_says name g y two.1 k)

compared_beside : (name : Name) (x y x' y' : Expression) → Alike name x x' → Alike name y y' → Beside name x y → Beside name x' y'
compared_beside name x y x' y' alike_x alike_y h = (λ p. alike_x.0 ∙ h.0 (sym alike_x.1 ∙ p), alike_y.0 ∙ h.1)

either_beside : (name : Name) (f g : Facts) (x y : Expression) → Says name f x → Says name g y
    → (has_variable_and_term f g || are_terms f g) ≡ true → Beside name x y ⊎ Beside name y x
either_beside name f g x y h k is = by (or_cases (has_variable_and_term f g) (are_terms f g) is)
  where
    within : (is_variable_and_term f g ≡ true) ⊎ (is_variable_and_term g f ≡ true) → Beside name x y ⊎ Beside name y x
    within (inl i) = inl (beside name f g x y h k i)
    within (inr i) = inr (beside name g f y x k h i)

    by : (has_variable_and_term f g ≡ true) ⊎ (are_terms f g ≡ true) → Beside name x y ⊎ Beside name y x
    by (inl i) = within (or_cases (is_variable_and_term f g) (is_variable_and_term g f) i)
    by (inr i) =
        let two = and_parts (is_term f) (is_term g) i in
        inl (λ p. term_says name f x two.0 h, term_says name g y two.1 k)

abbrev EitherBeside : Name → Expression → Expression → Type 0
EitherBeside name x y = Beside name x y ⊎ Beside name y x

both_compared : (name : Name) (x y : Expression) → EitherBeside name x y → EitherBeside name (compared y x) (compared x y)
both_compared name x y (inl i) =
    inl (compared_beside name x y (compared y x) (compared x y) (compared_alike name y x) (compared_alike name x y) i)
both_compared name x y (inr i) =
    inr (compared_beside name y x (compared x y) (compared y x) (compared_alike name x y) (compared_alike name y x) i)

order_cut : (name : Name) (c : core.Comparison) (f g : Facts) (x y : Expression) → Says name f x → Says name g y
    → (has_variable_and_term f g || are_terms f g) ≡ true → IsTermCut name (cut_of name c (compared y x) (compared x y))
order_cut name c f g x y h k is =
    cut_if name (is_position name (compared y x)) (is_position name (compared x y)) c (compared y x) (compared x y) refl refl
    (both_compared name x y (either_beside name f g x y h k is))

form_when : (name : Name) (b : Bool) (form : Form) (e : Expression) → (b ≡ true → FormSays name form e)
    → FormSays name (form_if b form) e
form_when name true form e h = h refl
form_when name false form e h = tt

cuts_append : (name : Name) (cs ds : List Cut) → AllByRecursion (IsTermCut name) cs → AllByRecursion (IsTermCut name) ds
    → AllByRecursion (IsTermCut name) (cs ++ ds)
cuts_append name [] ds h k = k
cuts_append name (c ∷ cs) ds h k = (h.0, cuts_append name cs ds h.1 k)

guard_says : (name : Name) (form : Form) (e : Expression) → is_guard form ≡ true → FormSays name form e
    → AllByRecursion (IsTermCut name) (cuts_of name e)
guard_says name guard e is h = h
guard_says name variable e is h = absurd cc
guard_says name (literal n) e is h = absurd cc
guard_says name (shift s) e is h = absurd cc
guard_says name (element s) e is h = absurd cc
guard_says name fixing e is h = absurd cc
guard_says name other e is h = absurd cc

literal_is : (name : Name) (form : Form) (n : ℕ) (e : Expression) → literal_of form ≡ Some n → FormSays name form e → e
    ≡ number (pos n)
literal_is name (literal m) n e is h = let same : m ≡ n = cc in h ∙ ap (λ k. number (pos k)) same
literal_is name variable n e is h = absurd cc
literal_is name (shift s) n e is h = absurd cc
literal_is name (element s) n e is h = absurd cc
literal_is name guard n e is h = absurd cc
literal_is name fixing n e is h = absurd cc
literal_is name other n e is h = absurd cc

raised_says : (name : Name) (span : Span) (f g : Form) (x y : Expression) (b : Bool) (o : Option ℕ) → is_variable f ≡ b
    → literal_of g ≡ o → FormSays name f x → FormSays name g y
    → FormSays name (if b then raised o else other) (operation op.Add span x y)
raised_says name span f g x y true None p q h k = tt
raised_says name span f g x y true (Some n) p q h k =
    subst (λ (z : Expression). Shifts name (operation op.Add span x z) × ShiftsBy name (pos n) (operation op.Add span x z))
    (sym (literal_is name g n y q k)) (
      sum_shifts name span x n (variable_says name f x p h),
      sum_by_number name span x n (variable_says name f x p h),
    )
raised_says name span f g x y false o p q h k = tt

lowered_says : (name : Name) (span : Span) (f g : Form) (x y : Expression) (b : Bool) (o : Option ℕ) → is_variable f ≡ b
    → literal_of g ≡ o → FormSays name f x → FormSays name g y
    → FormSays name (if b then lowered o else other) (operation op.Sub span x y)
lowered_says name span f g x y true None p q h k = tt
lowered_says name span f g x y true (Some n) p q h k =
    subst (λ (z : Expression). Shifts name (operation op.Sub span x z)
    × ShiftsBy name (pos 0 -ℤ pos n) (operation op.Sub span x z)) (sym (literal_is name g n y q k)) (
      difference_shifts name span x n (variable_says name f x p h),
      difference_by_number name span x n (variable_says name f x p h),
    )
lowered_says name span f g x y false o p q h k = tt

order_says : (name : Name) (c : core.Comparison) (f g : Facts) (x y : Expression) → Says name f x → Says name g y
    → FormSays name (form_of_order f g) (core.Compare c (compared y x) (compared x y))
order_says name c f g x y h k =
    form_when name (has_variable_and_term f g || are_terms f g) guard (core.Compare c (compared y x) (compared x y))
    (λ is. (order_cut name c f g x y h k is, tt))

operator_says : (name : Name) (o : Operator) (span : Span) (f g : Facts) (x y : Expression) → Says name f x → Says name g y
    → FormSays name (form_of_operator o f g) (operation o span x y)
operator_says name op.Add span f g x y h k =
    raised_says name span f.form g.form x y (is_variable f.form) (literal_of g.form) refl refl h.form k.form
operator_says name op.Sub span f g x y h k =
    lowered_says name span f.form g.form x y (is_variable f.form) (literal_of g.form) refl refl h.form k.form
operator_says name op.Mul span f g x y h k = tt
operator_says name op.Eq span f g x y h k =
    form_when name (is_variable_and_term f g) fixing (operation op.Eq span x y)
    (λ is. compared_term name x y (beside name f g x y h k is).1)
operator_says name op.Ne span f g x y h k = tt
operator_says name op.Lt span f g x y h k = order_says name core.Less f g x y h k
operator_says name op.Le span f g x y h k = order_says name core.AtMost f g x y h k
operator_says name op.Gt span f g x y h k = order_says name core.Greater f g x y h k
operator_says name op.Ge span f g x y h k = order_says name core.AtLeast f g x y h k
operator_says name op.And span f g x y h k = form_when name (is_guard f.form && is_guard g.form) guard (core.And x y) (λ is.
    let two = and_parts (is_guard f.form) (is_guard g.form) is in
    cuts_append name (cuts_of name x) (cuts_of name y) (guard_says name f.form x two.0 h.form)
    (guard_says name g.form y two.1 k.form))
operator_says name op.Or span f g x y h k = tt
operator_says name op.Implies span f g x y h k = tt
operator_says name op.Star span f g x y h k = tt

-- Elements

index_term : (name : Name) (f g : Facts) (b c : Bool) (o : Option ℤ) → is_term g ≡ b → is_term f ≡ c
    → is_used (if b then f.uses else (if c then use_at o else elsewhere)) ≡ false → (is_used f.uses ≡ false)
    × (is_used g.uses ≡ false)
index_term name f g true c o p q h = (h, not_used (is_used g.uses) p)
index_term name f g false true None p q h = absurd cc
index_term name f g false true (Some s) p q h = absurd cc
index_term name f g false false o p q h = absurd cc

element_term : (name : Name) (f g : Facts) (type : PvType) (x y : Expression) (span : Span) → Says name f x → Says name g y
    → is_used (use_of_index f g) ≡ false → IsTerm name (core.Element type x y span)
element_term name f g type x y span h k none =
    let two = index_term name f g (is_term g) (is_term f) (shift_of g.form) refl refl none in
    or_from _ _ (h.term two.0) (k.term two.1)

element_if : (name : Name) (b : Bool) (o : Option ℤ) (type : PvType) (x y : Expression) (span : Span) → (b ≡ true → IsTerm name x)
    → FormSays name (if b then element_at o else other) (core.Element type x y span)
element_if name true None type x y span h = tt
element_if name true (Some s) type x y span h = h refl
element_if name false o type x y span h = tt

element_says : (name : Name) (f g : Facts) (type : PvType) (x y : Expression) (span : Span) → Says name f x
    → FormSays name (form_of_index f g) (core.Element type x y span)
element_says name f g type x y span h =
    element_if name (is_term f) (shift_of g.form) type x y span (λ is. term_says name f x is h)

shift_says : (name : Name) (form : Form) (s : ℤ) (e : Expression) → shift_of form ≡ Some s → FormSays name form e → Shifts name e
shift_says name variable s e is h = position_shifts name e h
shift_says name (shift t) s e is h = h.0
shift_says name (literal n) s e is h = absurd cc
shift_says name (element t) s e is h = absurd cc
shift_says name guard s e is h = absurd cc
shift_says name fixing s e is h = absurd cc
shift_says name other s e is h = absurd cc

index_looks : (name : Name) (f g : Facts) (type : PvType) (x y : Expression) (span : Span) (old b c : Bool) (o : Option ℤ)
    → Says name f x → Says name g y → (is_some (item_of_use f.uses) ≡ true → IsTerm name x) → is_term g ≡ b → is_term f ≡ c
    → shift_of g.form ≡ o
    → is_some (item_of_use (if b then f.uses else (if c then use_at o else elsewhere))) ≡ true
    → TermLooks name (looks_in name old (core.Element type x y span))
index_looks name f g type x y span old true c o h k array p q r few =
    term_looks name old (core.Element type x y span) (or_from _ _ (array few) (term_says name g y p k))
index_looks name f g type x y span old false true (Some s) h k array p q r few =
    element_looks name old type x y span (term_says name f x q h) (shift_says name g.form s y r k.form)
index_looks name f g type x y span old false true None h k array p q r few = absurd cc
index_looks name f g type x y span old false false o h k array p q r few = absurd cc

shift_says_by : (name : Name) (form : Form) (s : ℤ) (e : Expression) → shift_of form ≡ Some s → FormSays name form e
    → ShiftsBy name s e
shift_says_by name variable s e is h = subst (λ (z : ℤ). ShiftsBy name z e) (some_same (pos 0) s is) (position_by name e h)
shift_says_by name (shift t) s e is h = subst (λ (z : ℤ). ShiftsBy name z e) (some_same t s is) h.1
shift_says_by name (literal n) s e is h = absurd cc
shift_says_by name (element t) s e is h = absurd cc
shift_says_by name guard s e is h = absurd cc
shift_says_by name fixing s e is h = absurd cc
shift_says_by name other s e is h = absurd cc

use_few : (u : Use) (s : ℤ) → u ≡ shifted_use s → is_some (item_of_use u) ≡ true
use_few u s e = subst (λ (w : Use). is_some (item_of_use w) ≡ true) (sym e) refl

uses_same : (x s : ℤ) → shifted_use x ≡ shifted_use s → x ≡ s
uses_same x s h = cc h

index_steady : (name : Name) (f g : Facts) (x y : Expression) (b c : Bool) (o : Option ℤ) (s : ℤ) → Says name f x → Says name g y
    → (is_some (item_of_use f.uses) ≡ true → IsTerm name x) → is_term g ≡ b → is_term f ≡ c → shift_of g.form ≡ o
    → (if b then f.uses else (if c then use_at o else elsewhere)) ≡ shifted_use s → IsTerm name x × ShiftsBy name s y
index_steady name f g x y true c o s h k array p q r u = (array (use_few f.uses s u), inl (term_says name g y p k))
index_steady name f g x y false true (Some z) s h k array p q r u =
    (term_says name f x q h, subst (λ (w : ℤ). ShiftsBy name w y) (uses_same z s u) (shift_says_by name g.form z y r k.form))
index_steady name f g x y false true None s h k array p q r u = absurd (cc u)
index_steady name f g x y false false o s h k array p q r u = absurd (cc u)

some_part : (name : Name) (f : Facts) (e : Expression) (s : ℤ) → Says name f e → Few f.uses s → Steady name s e
some_part name f e s h (inl u) = term_steady name s e (h.term (subst (λ (w : Use). is_used w ≡ false) (sym u) refl))
some_part name f e s h (inr u) = h.steady s u

-- an element of an array that is a term where it may stand in an item
pub element_part : (name : Name) (f g : Facts) (type : PvType) (x y : Expression) (span : Span) → Says name f x → Says name g y
    → (is_some (item_of_use f.uses) ≡ true → IsTerm name x) → Says name (facts_of_index f g) (core.Element type x y span)
element_part name f g type x y span h k array = record {
  term = element_term name f g type x y span h k;
  form = element_says name f g type x y span h;
  looks =
      λ few old. index_looks name f g type x y span old (is_term g) (is_term f) (shift_of g.form) h k array refl refl refl few;
  apart = λ few. refl;
  steady = λ s u. index_steady name f g x y (is_term g) (is_term f) (shift_of g.form) s h k array refl refl refl u;
}

-- Operators

pair_looks : (name : Name) (f g : Facts) (x y : Expression) (old : Bool) → Says name f x → Says name g y
    → is_some (item_of_use (both_uses f.uses g.uses)) ≡ true → TermLooks name (looks_in name old x ++ looks_in name old y)
pair_looks name f g x y old h k few =
    let two = few_uses f.uses g.uses few in
    looks_append name (looks_in name old x) (looks_in name old y) (h.looks two.0 old) (k.looks two.1 old)

compared_looks : (name : Name) (f g : Facts) (x y : Expression) (old : Bool) → Says name f x → Says name g y
    → is_some (item_of_use (both_uses f.uses g.uses)) ≡ true
    → TermLooks name (looks_in name old (compared y x)
    ++ (looks_in name old (compared x y) ++ term_beside name old (compared y x) (compared x y)))
compared_looks name f g x y old h k few =
    let two = few_uses f.uses g.uses few in
    let p = compared_alike name y x in
    let q = compared_alike name x y in
    apart_looks name old (compared y x) (compared x y) (subst (TermLooks name) (sym (p.2 old)) (h.looks two.0 old))
    (subst (TermLooks name) (sym (q.2 old)) (k.looks two.1 old)) (p.1 ∙ h.apart two.0) (q.1 ∙ k.apart two.1)

operator_looks : (name : Name) (o : Operator) (span : Span) (f g : Facts) (x y : Expression) (old : Bool) → Says name f x
    → Says name g y → is_some (item_of_use (both_uses f.uses g.uses)) ≡ true
    → TermLooks name (looks_in name old (operation o span x y))
operator_looks name op.Add span f g x y old h k few = pair_looks name f g x y old h k few
operator_looks name op.Sub span f g x y old h k few = pair_looks name f g x y old h k few
operator_looks name op.Mul span f g x y old h k few = pair_looks name f g x y old h k few
operator_looks name op.Eq span f g x y old h k few = compared_looks name f g x y old h k few
operator_looks name op.Ne span f g x y old h k few = compared_looks name f g x y old h k few
operator_looks name op.Lt span f g x y old h k few = compared_looks name f g x y old h k few
operator_looks name op.Le span f g x y old h k few = compared_looks name f g x y old h k few
operator_looks name op.Gt span f g x y old h k few = compared_looks name f g x y old h k few
operator_looks name op.Ge span f g x y old h k few = compared_looks name f g x y old h k few
operator_looks name op.And span f g x y old h k few = pair_looks name f g x y old h k few
operator_looks name op.Or span f g x y old h k few = pair_looks name f g x y old h k few
operator_looks name op.Implies span f g x y old h k few = pair_looks name f g x y old h k few
operator_looks name op.Star span f g x y old h k few = pair_looks name f g x y old h k few

operator_apart : (name : Name) (o : Operator) (span : Span) (x y : Expression) → is_position name (operation o span x y) ≡ false
operator_apart name op.Add span x y = refl
operator_apart name op.Sub span x y = refl
operator_apart name op.Mul span x y = refl
operator_apart name op.Eq span x y = refl
operator_apart name op.Ne span x y = refl
operator_apart name op.Lt span x y = refl
operator_apart name op.Le span x y = refl
operator_apart name op.Gt span x y = refl
operator_apart name op.Ge span x y = refl
operator_apart name op.And span x y = refl
operator_apart name op.Or span x y = refl
operator_apart name op.Implies span x y = refl
operator_apart name op.Star span x y = refl

-- two parts between which an operator stands
pub operator_part : (name : Name) (o : Operator) (span : Span) (f g : Facts) (x y : Expression) → Says name f x → Says name g y
    → Says name (facts_of_operator o f g) (operation o span x y)
operator_part name o span f g x y h k = record {
  term = λ none. let two = no_use f.uses g.uses none in operation_term name o span x y (h.term two.0) (k.term two.1);
  form = operator_says name o span f g x y h k;
  looks = λ few old. operator_looks name o span f g x y old h k few;
  apart = λ few. operator_apart name o span x y;
  steady =
      λ s u. let two = two_uses f.uses g.uses s u in operation_steady name s o span x y (some_part name f x s h two.0)
      (some_part name g y s k two.1);
}

-- a part that may be an item may be repeated
pub says_repeated : (name : Name) (f : Facts) (e : Expression) → Says name f e → is_some (item_of_use f.uses) ≡ true
    → IsRepeated name e
says_repeated name f e h few = (h.looks few false, go f.uses refl few)
  where
    go : (u : Use) → f.uses ≡ u → is_some (item_of_use u) ≡ true → ((s : ℤ) × Steady name s e) ⊎ NoElements (looks_of name e)
    go unused u k = inl (pos 0, some_part name f e (pos 0) h (inl u))
    go (shifted_use s) u k = inl (s, h.steady s u)
    go elsewhere u k = absurd (cc k)

-- the comparison of the position with a term, which is an item
abbrev pub ComparedLooks : Name → Expression → Expression → Type 0
ComparedLooks name p q =
    TermLooks name (looks_in name false p ++ (looks_in name false q ++ term_beside name false p q))
    × (((s : ℤ) × (Steady name s p × Steady name s q))
    ⊎ NoElements (looks_in name false p ++ (looks_in name false q ++ term_beside name false p q)))

pub comparison_looks : (name : Name) (f g : Facts) (x y : Expression) → Says name f x → Says name g y → has_variable_and_term f g
    ≡ true → ComparedLooks name (compared y x) (compared x y)
comparison_looks name f g x y h k is =
    let beside =
    both_compared name x y (either_beside name f g x y h k (or_left (has_variable_and_term f g) (are_terms f g) is)) in (
      beside_looks name false (compared y x) (compared x y) beside,
      inr (both_none name false (compared y x) (compared x y) beside),
    )

-- Places

pub permission_confined : (type : PvType) (units : ℕ) (span : Span) (e : Expression)
    → ConfinedFormula (permission type units span e)
permission_confined type units span (core.Field e class field at) = tt
permission_confined type units span (core.Element t e i at) = tt
permission_confined type units span (core.Equal same x y) = tt
permission_confined type units span (core.And x y) = tt
permission_confined type units span (core.Compare c x y) = tt
permission_confined type units span (core.Constant v) = tt
permission_confined type units span core.This = tt
permission_confined type units span core.Result = tt
permission_confined type units span (core.Variable n) = tt
permission_confined type units span (core.Length t e at) = tt
permission_confined type units span (core.Not e) = tt
permission_confined type units span (core.Compute m o x y at) = tt
permission_confined type units span (core.Or x y) = tt
permission_confined type units span (core.Implies x y) = tt
permission_confined type units span (core.Old e) = tt

permissions_confined : (name : Name) (s : ℤ) (units : ℕ) (span : Span) (e : Expression) → ArrayIsTerm name e
    → ConfinedItem name (permissions s units span e)
permissions_confined name s units span (core.Element t e i at) h = h
permissions_confined name s units span (core.Field e class field at) h = (tt, inr tt)
permissions_confined name s units span (core.Equal same x y) h = (tt, inr tt)
permissions_confined name s units span (core.And x y) h = (tt, inr tt)
permissions_confined name s units span (core.Compare c x y) h = (tt, inr tt)
permissions_confined name s units span (core.Constant v) h = (tt, inr tt)
permissions_confined name s units span core.This h = (tt, inr tt)
permissions_confined name s units span core.Result h = (tt, inr tt)
permissions_confined name s units span (core.Variable n) h = (tt, inr tt)
permissions_confined name s units span (core.Length t e at) h = (tt, inr tt)
permissions_confined name s units span (core.Not e) h = (tt, inr tt)
permissions_confined name s units span (core.Compute m o x y at) h = (tt, inr tt)
permissions_confined name s units span (core.Or x y) h = (tt, inr tt)
permissions_confined name s units span (core.Implies x y) h = (tt, inr tt)
permissions_confined name s units span (core.Old e) h = (tt, inr tt)

pub shifted_confined : (name : Name) (form : Form) (units : ℕ) (span : Span) (e : Expression) → FormSays name form e
    → ConfinedItem name (shifted form units span e)
shifted_confined name (element s) units span e h = permissions_confined name s units span e h
shifted_confined name variable units span e h = (tt, inr tt)
shifted_confined name (literal n) units span e h = (tt, inr tt)
shifted_confined name (shift s) units span e h = (tt, inr tt)
shifted_confined name guard units span e h = (tt, inr tt)
shifted_confined name fixing units span e h = (tt, inr tt)
shifted_confined name other units span e h = (tt, inr tt)

-- Formulas and items

pub formula_if : (b : Bool) (f g : Formula) → ConfinedFormula f → ConfinedFormula g → ConfinedFormula (if b then f else g)
formula_if true f g h k = h
formula_if false f g h k = k

pub together_confined : (name : Name) (is js : Items) → ConfinedItems name is → ConfinedItems name js
    → ConfinedItems name (together is js)
together_confined name core.NoItems js h k = k
together_confined name (core.Join i is) js h k = (h.0, together_confined name is js h.1 k)

-- an implication: a formula where the left side fixes the position, and an item behind guards
pub implied_confined : (name : Name) (form : Form) (span : Span) (e : Expression) (f : Formula) (i : Item) (fact : Expression)
    → FormSays name form e → (is_fixing form ≡ true → ConfinedFormula f) → (is_guard form ≡ true → ConfinedItem name i)
    → (is_fixing form ≡ false → is_guard form ≡ false → IsRepeated name fact)
    → ConfinedItem name (if is_fixing form then core.Fixed (term_of e) f span else
    (if is_guard form then core.Guarded (cuts_of name e) i span else core.Repeated fact span))
implied_confined name fixing span e f i fact h k l m = (h, k refl)
implied_confined name guard span e f i fact h k l m = (h, l refl)
implied_confined name variable span e f i fact h k l m = m refl refl
implied_confined name (literal n) span e f i fact h k l m = m refl refl
implied_confined name (shift s) span e f i fact h k l m = m refl refl
implied_confined name (element s) span e f i fact h k l m = m refl refl
implied_confined name other span e f i fact h k l m = m refl refl
