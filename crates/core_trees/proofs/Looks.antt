-- What a run looks at before it repeats a condition, where the condition names the position only in shifted indexes or beside a
-- term.
use Rattle.std.proofs.Common.{◌≡◌, ℕ, ℤ, pos, Bool, true, false, Option, Some, None, is_some, List, [], ◌∷◌, ◌++◌, refl, sym, subst, inl, inr}
use Rattle.std.proofs.lemmas.Bool.{or_parts, or_from, both_ways}
use Rattle.std.specs.Prelude.{◌⊎◌, if◌then◌else◌}
use Rattle.std.specs.List.{AllByRecursion}
use Rattle.pv_base.specs.declared.Name.{Name}
use Rattle.pv_base.specs.declared.Span.{Span}
use Rattle.pv_ast.specs.declared.Operator.TheVariants as op
use Rattle.pv_ast.specs.declared.PvType.{PvType}
use Rattle.pv_base.specs.Names.{same_name}
use Rattle.pv_picks.specs.Plain.Core.{Expression}
use Rattle.pv_picks.specs.Plain.Core as core
use Rattle.pv_picks.specs.Judge.Repetitions.{Look, AtTerm, in_state, looks_in, look_at_element, shift_in, shift_if, term_beside}
use Rattle.pv_picks.specs.Elaborating.Operations.{is_position, operation, number}
use Rattle.pv_picks.specs.Judge.Steady.{mentions, IsTerm, IsTermLook}

abbrev pub TermLooks : Name → List Look → Type 0
TermLooks name looks = AllByRecursion (IsTermLook name) looks

pub looks_append : (name : Name) (first second : List Look) → TermLooks name first → TermLooks name second
    → TermLooks name (first ++ second)
looks_append name [] second h k = k
looks_append name (l ∷ first) second h k = (h.0, looks_append name first second h.1 k)

-- Terms

state_term : (name : Name) (old : Bool) (e : Expression) → IsTerm name e → IsTerm name (in_state old e)
state_term name true e h = h
state_term name false e h = h

element_look : (name : Name) (o : Option ℤ) (old : Bool) (type : PvType) (x y : Expression) → IsTerm name x
    → (is_some o ≡ false → IsTerm name y) → IsTermLook name (look_at_element o old type x y)
element_look name None old type x y h k = (state_term name old x h, state_term name old y (k refl))
element_look name (Some s) old type x y h k = state_term name old x h

term_pair : (name : Name) (old a b : Bool) (x y : Expression) → IsTerm name x → IsTerm name y
    → TermLooks name (if a then AtTerm (in_state old y) ∷ [] else if b then AtTerm (in_state old x) ∷ [] else [])
term_pair name old true b x y h k = (state_term name old y k, tt)
term_pair name old false true x y h k = (state_term name old x h, tt)
term_pair name old false false x y h k = tt

-- all that a term looks at are terms
pub term_looks : (name : Name) (old : Bool) (e : Expression) → IsTerm name e → TermLooks name (looks_in name old e)
term_looks name old (core.Constant v) h = tt
term_looks name old core.This h = tt
term_looks name old core.Result h = tt
term_looks name old (core.Variable x) h = tt
term_looks name old (core.Field e class field span) h = term_looks name old e h
term_looks name old (core.Element type x y span) h =
    let two = or_parts (mentions name x) (mentions name y) h in
    looks_append name (looks_in name old x) _ (term_looks name old x two.0)
    (looks_append name (looks_in name old y) _ (term_looks name old y two.1)
    (element_look name (shift_in name y) old type x y two.0 (λ none. two.1), tt))
term_looks name old (core.Length type e span) h =
    looks_append name (looks_in name old e) _ (term_looks name old e h) (state_term name old e h, tt)
term_looks name old (core.Not e) h = term_looks name old e h
term_looks name old (core.Compute manner o x y span) h =
    let two = or_parts (mentions name x) (mentions name y) h in
    looks_append name (looks_in name old x) (looks_in name old y) (term_looks name old x two.0) (term_looks name old y two.1)
term_looks name old (core.Compare c x y) h =
    let two = or_parts (mentions name x) (mentions name y) h in
    looks_append name (looks_in name old x) _ (term_looks name old x two.0)
    (looks_append name (looks_in name old y) _ (term_looks name old y two.1)
    (term_pair name old (is_position name x) (is_position name y) x y two.0 two.1))
term_looks name old (core.Equal same x y) h =
    let two = or_parts (mentions name x) (mentions name y) h in
    looks_append name (looks_in name old x) _ (term_looks name old x two.0)
    (looks_append name (looks_in name old y) _ (term_looks name old y two.1)
    (term_pair name old (is_position name x) (is_position name y) x y two.0 two.1))
term_looks name old (core.And x y) h =
    let two = or_parts (mentions name x) (mentions name y) h in
    looks_append name (looks_in name old x) (looks_in name old y) (term_looks name old x two.0) (term_looks name old y two.1)
term_looks name old (core.Or x y) h =
    let two = or_parts (mentions name x) (mentions name y) h in
    looks_append name (looks_in name old x) (looks_in name old y) (term_looks name old x two.0) (term_looks name old y two.1)
term_looks name old (core.Implies x y) h =
    let two = or_parts (mentions name x) (mentions name y) h in
    looks_append name (looks_in name old x) (looks_in name old y) (term_looks name old x two.0) (term_looks name old y two.1)
term_looks name old (core.Old e) h = term_looks name true e h

-- The position

pub position_is : (name : Name) (e : Expression) → is_position name e ≡ true → (other : Name) × (e ≡ core.Variable other)
position_is name (core.Variable n) h = (n, refl)
position_is name (core.Compute m o x y span) h = absurd cc
position_is name (core.Constant v) h = absurd cc
position_is name core.This h = absurd cc
position_is name core.Result h = absurd cc
position_is name (core.Field e class field span) h = absurd cc
position_is name (core.Element type e i span) h = absurd cc
position_is name (core.Length type e span) h = absurd cc
position_is name (core.Not e) h = absurd cc
position_is name (core.Compare c x y) h = absurd cc
position_is name (core.Equal same x y) h = absurd cc
position_is name (core.And x y) h = absurd cc
position_is name (core.Or x y) h = absurd cc
position_is name (core.Implies x y) h = absurd cc
position_is name (core.Old e) h = absurd cc

-- what holds of variables of the name holds of the position
pub at_position : (name : Name) (P : Expression → Type 0)
    → ((other : Name) → same_name name other ≡ true → P (core.Variable other)) → (e : Expression) → is_position name e ≡ true
    → P e
at_position name P h e is =
    let found = position_is name e is in
    subst P (sym found.1) (h found.0 (subst (λ (x : Expression). is_position name x ≡ true) found.1 is))

pub position_mentions : (name : Name) (e : Expression) → is_position name e ≡ true → mentions name e ≡ true
position_mentions name e is = at_position name (λ x. mentions name x ≡ true) (λ other h. h) e is

-- the position, or a term
abbrev pub Either : Name → Expression → Type 0
Either name e = is_position name e ≡ false → IsTerm name e

pub position_looks : (name : Name) (old : Bool) (e : Expression) → is_position name e ≡ true → looks_in name old e ≡ []
position_looks name old e is = at_position name (λ x. looks_in name old x ≡ []) (λ other h. refl) e is

either_looks_if : (name : Name) (old b : Bool) (e : Expression) → is_position name e ≡ b → Either name e
    → TermLooks name (looks_in name old e)
either_looks_if name old true e is h = subst (TermLooks name) (sym (position_looks name old e is)) tt
either_looks_if name old false e is h = term_looks name old e (h is)

either_looks : (name : Name) (old : Bool) (e : Expression) → Either name e → TermLooks name (looks_in name old e)
either_looks name old e h = either_looks_if name old (is_position name e) e refl h

-- Comparisons

-- a term beside the position, or beside another term
abbrev pub Beside : Name → Expression → Expression → Type 0
Beside name x y = Either name x × IsTerm name y

beside_term : (name : Name) (old a b : Bool) (x y : Expression) → is_position name x ≡ a → is_position name y ≡ b
    → Beside name x y ⊎ Beside name y x
    → TermLooks name (if a then AtTerm (in_state old y) ∷ [] else if b then AtTerm (in_state old x) ∷ [] else [])
beside_term name old true b x y p q (inl h) = (state_term name old y h.1, tt)
beside_term name old true b x y p q (inr h) = absurd (both_ways (mentions name x) h.1 (position_mentions name x p))
beside_term name old false true x y p q (inl h) = absurd (both_ways (mentions name y) h.1 (position_mentions name y q))
beside_term name old false true x y p q (inr h) = (state_term name old x h.1, tt)
beside_term name old false false x y p q h = tt

two_sides : (name : Name) (x y : Expression) → Beside name x y ⊎ Beside name y x → Either name x × Either name y
two_sides name x y (inl h) = (h.0, λ p. h.1)
two_sides name x y (inr h) = (λ p. h.1, h.0)

-- what a comparison of the position with a term looks at
pub beside_looks : (name : Name) (old : Bool) (x y : Expression) → Beside name x y ⊎ Beside name y x
    → TermLooks name (looks_in name old x ++ (looks_in name old y ++ term_beside name old x y))
beside_looks name old x y h =
    let two = two_sides name x y h in
    looks_append name (looks_in name old x) _ (either_looks name old x two.0)
    (looks_append name (looks_in name old y) _ (either_looks name old y two.1)
    (beside_term name old (is_position name x) (is_position name y) x y refl refl h))

no_pair : (name : Name) (old a b : Bool) (x y : Expression) → a ≡ false → b ≡ false
    → TermLooks name (if a then AtTerm (in_state old y) ∷ [] else if b then AtTerm (in_state old x) ∷ [] else [])
no_pair name old true b x y h k = absurd cc
no_pair name old false true x y h k = absurd cc
no_pair name old false false x y h k = tt

-- what a comparison of others looks at
pub apart_looks : (name : Name) (old : Bool) (x y : Expression) → TermLooks name (looks_in name old x)
    → TermLooks name (looks_in name old y) → is_position name x ≡ false → is_position name y ≡ false
    → TermLooks name (looks_in name old x ++ (looks_in name old y ++ term_beside name old x y))
apart_looks name old x y h k p q =
    looks_append name (looks_in name old x) _ h (looks_append name (looks_in name old y) _ k
    (no_pair name old (is_position name x) (is_position name y) x y p q))

-- Shifted indexes

-- the position with a number added or taken away, or a term
abbrev pub Shifts : Name → Expression → Type 0
Shifts name e = ((is_some (shift_in name e) ≡ true) × ((old : Bool) → looks_in name old e ≡ [])) ⊎ IsTerm name e

some_if : {A : Type 0} (b : Bool) (x : A) → b ≡ true → is_some (if b then Some x else None) ≡ true
some_if true x h = refl
some_if false x h = absurd cc

sum_if : (b : Bool) (z : ℤ) → b ≡ true → is_some (shift_if b core.Plus (Some z)) ≡ true
sum_if true z h = refl
sum_if false z h = absurd cc

difference_if : (b : Bool) (z : ℤ) → b ≡ true → is_some (shift_if b core.Minus (Some z)) ≡ true
difference_if true z h = refl
difference_if false z h = absurd cc

shifts_if : (name : Name) (b : Bool) (e f : Expression) → is_position name e ≡ b → Either name e
    → (is_position name e ≡ true → Shifts name f) → (IsTerm name e → IsTerm name f) → Shifts name f
shifts_if name true e f is h at term = at is
shifts_if name false e f is h at term = inr (term (h is))

pub position_shifts : (name : Name) (e : Expression) → Either name e → Shifts name e
position_shifts name e h =
    shifts_if name (is_position name e) e e refl h (at_position name (Shifts name)
    (λ other is. inl (some_if (same_name name other) (pos 0) is, λ old. refl)) e) (λ t. t)

pub sum_shifts : (name : Name) (span : Span) (e : Expression) (n : ℕ) → Either name e
    → Shifts name (operation op.Add span e (number (pos n)))
sum_shifts name span e n h =
    shifts_if name (is_position name e) e (operation op.Add span e (number (pos n))) refl h
    (at_position name (λ x. Shifts name (operation op.Add span x (number (pos n))))
    (λ other is. inl (sum_if (same_name name other) (pos n) is, λ old. refl)) e) (λ t. or_from _ _ t refl)

pub difference_shifts : (name : Name) (span : Span) (e : Expression) (n : ℕ) → Either name e
    → Shifts name (operation op.Sub span e (number (pos n)))
difference_shifts name span e n h =
    shifts_if name (is_position name e) e (operation op.Sub span e (number (pos n))) refl h
    (at_position name (λ x. Shifts name (operation op.Sub span x (number (pos n))))
    (λ other is. inl (difference_if (same_name name other) (pos n) is, λ old. refl)) e) (λ t. or_from _ _ t refl)

some_not_none : (o : Option ℤ) → is_some o ≡ true → is_some o ≡ false → ⊥
some_not_none o h k = both_ways (is_some o) k h

-- what an element at a shifted index looks at
pub element_looks : (name : Name) (old : Bool) (type : PvType) (x y : Expression) (span : Span) → IsTerm name x → Shifts name y
    → TermLooks name (looks_in name old (core.Element type x y span))
element_looks name old type x y span h (inl k) =
    looks_append name (looks_in name old x) _ (term_looks name old x h)
    (looks_append name (looks_in name old y) _ (subst (TermLooks name) (sym (k.1 old)) tt)
    (element_look name (shift_in name y) old type x y h (λ none. absurd (some_not_none (shift_in name y) k.0 none)), tt))
element_looks name old type x y span h (inr k) = term_looks name old (core.Element type x y span) (or_from _ _ h k)
