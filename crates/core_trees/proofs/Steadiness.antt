-- Where the position stands only in shifted indexes.
use Rattle.std.proofs.Common.{◌≡◌, ℕ, ℤ, pos, Bool, true, false, Option, Some, None, List, [], ◌∷◌, ◌++◌, refl, ap, sym, subst, ◌∙◌, inl, inr, rules}
use Rattle.std.proofs.lemmas.Bool.{or_parts}
use Rattle.std.proofs.lemmas.Int.{ints}
use Rattle.std.specs.Prelude.{◌⊎◌, if◌then◌else◌, ◌-ℤ◌, ◌||◌}
use Rattle.std.specs.Ordering.{int_eq}
use Rattle.pv_base.specs.declared.Name.{Name}
use Rattle.pv_base.specs.declared.Span.{Span}
use Rattle.pv_ast.specs.declared.Operator.{Operator}
use Rattle.pv_ast.specs.declared.Operator.TheVariants as op
use Rattle.pv_ast.specs.Rules.Items.{Use, unused, shifted, elsewhere, both_uses}
use Rattle.pv_base.specs.Names.{same_name}
use Rattle.pv_picks.specs.Plain.Core.{Expression}
use Rattle.pv_picks.specs.Plain.Core as core
use Rattle.pv_ast.specs.declared.PvType.{PvType}
use Rattle.pv_picks.specs.Judge.Repetitions as repetitions
use Rattle.pv_picks.specs.Judge.Repetitions.{Look, in_state, AtElements, AtElement, AtLength, AtTerm, look_at_element, looks_in, term_beside, constant_in, shift_in, shift_if}
use Rattle.pv_picks.specs.Elaborating.Operations.{is_position, operation, number, compared, plainly, is_literal, negation}
use Rattle.pv_picks.specs.Judge.Steady.{mentions, IsTerm, Steady, NoElements}
use Rattle.core_trees.proofs.Looks.{Either, Beside, at_position, position_looks}

pub term_steady : (name : Name) (s : ℤ) (e : Expression) → IsTerm name e → Steady name s e
term_steady name s (core.Constant v) h = tt
term_steady name s core.This h = tt
term_steady name s core.Result h = tt
term_steady name s (core.Variable x) h = h
term_steady name s (core.Field e class field span) h = term_steady name s e h
term_steady name s (core.Element type x y span) h = let two = or_parts (mentions name x) (mentions name y) h in (two.0, inl two.1)
term_steady name s (core.Length type e span) h = term_steady name s e h
term_steady name s (core.Not e) h = term_steady name s e h
term_steady name s (core.Compute manner o x y span) h =
    let two = or_parts (mentions name x) (mentions name y) h in (term_steady name s x two.0, term_steady name s y two.1)
term_steady name s (core.Compare c x y) h =
    let two = or_parts (mentions name x) (mentions name y) h in (term_steady name s x two.0, term_steady name s y two.1)
term_steady name s (core.Equal same x y) h =
    let two = or_parts (mentions name x) (mentions name y) h in (term_steady name s x two.0, term_steady name s y two.1)
term_steady name s (core.And x y) h =
    let two = or_parts (mentions name x) (mentions name y) h in (term_steady name s x two.0, term_steady name s y two.1)
term_steady name s (core.Or x y) h =
    let two = or_parts (mentions name x) (mentions name y) h in (term_steady name s x two.0, term_steady name s y two.1)
term_steady name s (core.Implies x y) h =
    let two = or_parts (mentions name x) (mentions name y) h in (term_steady name s x two.0, term_steady name s y two.1)
term_steady name s (core.Old e) h = term_steady name s e h

plainly_steady : (name : Name) (s : ℤ) (e : Expression) → Steady name s e → Steady name s (plainly e)
plainly_steady name s (core.Compute m core.Minus x y span) h = h
plainly_steady name s e h = h

compared_steady : (name : Name) (s : ℤ) (x e : Expression) → Steady name s e → Steady name s (compared x e)
compared_steady name s x e h = go (is_literal x)
  where
    go : (b : Bool) → Steady name s (if b then plainly e else e)
    go true = plainly_steady name s e h
    go false = h

pub operation_steady : (name : Name) (s : ℤ) (o : Operator) (span : Span) (x y : Expression) → Steady name s x → Steady name s y
    → Steady name s (operation o span x y)
operation_steady name s op.Add span x y h k = (h, k)
operation_steady name s op.Sub span x y h k = (h, k)
operation_steady name s op.Mul span x y h k = (h, k)
operation_steady name s op.Eq span x y h k = (compared_steady name s y x h, compared_steady name s x y k)
operation_steady name s op.Ne span x y h k = (compared_steady name s y x h, compared_steady name s x y k)
operation_steady name s op.Lt span x y h k = (compared_steady name s y x h, compared_steady name s x y k)
operation_steady name s op.Le span x y h k = (compared_steady name s y x h, compared_steady name s x y k)
operation_steady name s op.Gt span x y h k = (compared_steady name s y x h, compared_steady name s x y k)
operation_steady name s op.Ge span x y h k = (compared_steady name s y x h, compared_steady name s x y k)
operation_steady name s op.And span x y h k = (h, k)
operation_steady name s op.Or span x y h k = (h, k)
operation_steady name s op.Implies span x y h k = (h, k)
operation_steady name s op.Star span x y h k = (h, k)

pub negation_steady : (name : Name) (s : ℤ) (written : Option ℕ) (span : Span) (x : Expression) → Steady name s x
    → Steady name s (negation written span x)
negation_steady name s None span x h = (tt, h)
negation_steady name s (Some n) span x h = tt

-- the uses of two parts
abbrev pub Few : Use → ℤ → Type 0
Few u s = (u ≡ unused) ⊎ (u ≡ shifted s)

shifted_same : (x s : ℤ) → shifted x ≡ shifted s → x ≡ s
shifted_same x s h = cc h

equal_ints : (a b : ℤ) → int_eq a b ≡ true → a ≡ b
equal_ints a b h = search (rules, ints)

pub two_uses : (a b : Use) (s : ℤ) → both_uses a b ≡ shifted s → Few a s × Few b s
two_uses unused b s h = (inl refl, inr h)
two_uses (shifted x) unused s h = (inr h, inl refl)
two_uses (shifted x) (shifted y) s h = go (int_eq x y) refl h
  where
    go : (c : Bool) → int_eq x y ≡ c → (if c then shifted x else elsewhere) ≡ shifted s → Few (shifted x) s × Few (shifted y) s
    go true e h = (inr h, inr (ap shifted (sym (equal_ints x y e)) ∙ h))
    go false e h = absurd (cc h)
two_uses (shifted x) elsewhere s h = absurd (cc h)
two_uses elsewhere b s h = absurd (cc h)

-- shifted indexes, by how much
abbrev pub ShiftsBy : Name → ℤ → Expression → Type 0
ShiftsBy name s e = IsTerm name e ⊎ (shift_in name e ≡ Some s)

some_by : (b : Bool) (s : ℤ) → b ≡ true → (if b then Some s else None) ≡ Some s
some_by true s h = refl
some_by false s h = absurd (cc h)

sum_by : (b : Bool) (z : ℤ) → b ≡ true → shift_if b core.Plus (Some z) ≡ Some z
sum_by true z h = refl
sum_by false z h = absurd (cc h)

difference_by : (b : Bool) (z : ℤ) → b ≡ true → shift_if b core.Minus (Some z) ≡ Some (pos 0 -ℤ z)
difference_by true z h = refl
difference_by false z h = absurd (cc h)

by_position : (name : Name) (b : Bool) (s : ℤ) (e f : Expression) → is_position name e ≡ b → Either name e
    → (is_position name e ≡ true → ShiftsBy name s f) → (IsTerm name e → IsTerm name f) → ShiftsBy name s f
by_position name true s e f is h at term = at is
by_position name false s e f is h at term = inl (term (h is))

pub position_by : (name : Name) (e : Expression) → Either name e → ShiftsBy name (pos 0) e
position_by name e h =
    by_position name (is_position name e) (pos 0) e e refl h
    (at_position name (ShiftsBy name (pos 0)) (λ other is. inr (some_by (same_name name other) (pos 0) is)) e) (λ t. t)

or_none : (a : Bool) → a ≡ false → (a || false) ≡ false
or_none true h = absurd (cc h)
or_none false h = refl

pub sum_by_number : (name : Name) (span : Span) (e : Expression) (n : ℕ) → Either name e
    → ShiftsBy name (pos n) (operation op.Add span e (number (pos n)))
sum_by_number name span e n h =
    by_position name (is_position name e) (pos n) e (operation op.Add span e (number (pos n))) refl h
    (at_position name (λ x. ShiftsBy name (pos n) (operation op.Add span x (number (pos n))))
    (λ other is. inr (sum_by (same_name name other) (pos n) is)) e) (λ t. or_none (mentions name e) t)

pub difference_by_number : (name : Name) (span : Span) (e : Expression) (n : ℕ) → Either name e
    → ShiftsBy name (pos 0 -ℤ pos n) (operation op.Sub span e (number (pos n)))
difference_by_number name span e n h =
    by_position name (is_position name e) (pos 0 -ℤ pos n) e (operation op.Sub span e (number (pos n))) refl h
    (at_position name (λ x. ShiftsBy name (pos 0 -ℤ pos n) (operation op.Sub span x (number (pos n))))
    (λ other is. inr (difference_by (same_name name other) (pos n) is)) e) (λ t. or_none (mentions name e) t)

-- Looks without elements at the position

none_append : (xs ys : List Look) → NoElements xs → NoElements ys → NoElements (xs ++ ys)
none_append [] ys h k = k
none_append (AtElements t a z ∷ xs) ys h k = absurd h
none_append (AtElement was t a i ∷ xs) ys h k = none_append xs ys h k
none_append (AtLength t a ∷ xs) ys h k = none_append xs ys h k
none_append (AtTerm e ∷ xs) ys h k = none_append xs ys h k

beside_none : (old a b : Bool) (x y : Expression)
    → NoElements (if a then AtTerm (in_state old y) ∷ [] else if b then AtTerm (in_state old x) ∷ [] else [])
beside_none old true b x y = tt
beside_none old false true x y = tt
beside_none old false false x y = tt

not_position : (name : Name) (a : Expression) → IsTerm name a → repetitions.is_position name a ≡ false
not_position name (core.Variable x) h = h
not_position name a h = refl

none_if : (b : Bool) (s : ℤ) → b ≡ false → (if b then Some s else None) ≡ None
none_if true s h = absurd (cc h)
none_if false s h = refl

none_shift : (b : Bool) (o : core.Operation) (z : Option ℤ) → b ≡ false → shift_if b o z ≡ None
none_shift true o z h = absurd (cc h)
none_shift false o z h = refl

term_shift : (name : Name) (i : Expression) → IsTerm name i → shift_in name i ≡ None
term_shift name (core.Variable x) h = none_if (same_name name x) (pos 0) h
term_shift name (core.Compute core.Plain o a b p) h =
    none_shift (repetitions.is_position name a) o (constant_in b)
    (not_position name a (or_parts (mentions name a) (mentions name b) h).0)
term_shift name i h = refl

element_none : (o : Option ℤ) (old : Bool) (t : PvType) (a i : Expression) → o ≡ None
    → NoElements (look_at_element o old t a i ∷ [])
element_none None old t a i h = tt
element_none (Some z) old t a i h = absurd (cc h)

pub term_none : (name : Name) (old : Bool) (e : Expression) → IsTerm name e → NoElements (looks_in name old e)
term_none name old (core.Constant v) h = tt
term_none name old core.This h = tt
term_none name old core.Result h = tt
term_none name old (core.Variable x) h = tt
term_none name old (core.Field e class field span) h = term_none name old e h
term_none name old (core.Element type x y span) h =
    let two = or_parts (mentions name x) (mentions name y) h in
    none_append (looks_in name old x) _ (term_none name old x two.0)
    (none_append (looks_in name old y) _ (term_none name old y two.1)
    (element_none (shift_in name y) old type x y (term_shift name y two.1)))
term_none name old (core.Length type e span) h = none_append (looks_in name old e) _ (term_none name old e h) tt
term_none name old (core.Not e) h = term_none name old e h
term_none name old (core.Compute manner o x y span) h =
    let two =
    or_parts (mentions name x) (mentions name y) h in none_append (looks_in name old x) (looks_in name old y)
    (term_none name old x two.0) (term_none name old y two.1)
term_none name old (core.Compare c x y) h =
    let two = or_parts (mentions name x) (mentions name y) h in
    none_append (looks_in name old x) _ (term_none name old x two.0)
    (none_append (looks_in name old y) _ (term_none name old y two.1)
    (beside_none old (repetitions.is_position name x) (repetitions.is_position name y) x y))
term_none name old (core.Equal same x y) h =
    let two = or_parts (mentions name x) (mentions name y) h in
    none_append (looks_in name old x) _ (term_none name old x two.0)
    (none_append (looks_in name old y) _ (term_none name old y two.1)
    (beside_none old (repetitions.is_position name x) (repetitions.is_position name y) x y))
term_none name old (core.And x y) h =
    let two =
    or_parts (mentions name x) (mentions name y) h in none_append (looks_in name old x) (looks_in name old y)
    (term_none name old x two.0) (term_none name old y two.1)
term_none name old (core.Or x y) h =
    let two =
    or_parts (mentions name x) (mentions name y) h in none_append (looks_in name old x) (looks_in name old y)
    (term_none name old x two.0) (term_none name old y two.1)
term_none name old (core.Implies x y) h =
    let two =
    or_parts (mentions name x) (mentions name y) h in none_append (looks_in name old x) (looks_in name old y)
    (term_none name old x two.0) (term_none name old y two.1)
term_none name old (core.Old e) h = term_none name true e h

either_none : (name : Name) (old : Bool) (e : Expression) → Either name e → NoElements (looks_in name old e)
either_none name old e h = go (is_position name e) refl
  where
    go : (b : Bool) → is_position name e ≡ b → NoElements (looks_in name old e)
    go true is = subst NoElements (sym (position_looks name old e is)) tt
    go false is = term_none name old e (h is)

pub both_none : (name : Name) (old : Bool) (x y : Expression) → Beside name x y ⊎ Beside name y x
    → NoElements (looks_in name old x ++ (looks_in name old y ++ term_beside name old x y))
both_none name old x y (inl h) =
    none_append (looks_in name old x) _ (either_none name old x h.0)
    (none_append (looks_in name old y) _ (term_none name old y h.1)
    (beside_none old (repetitions.is_position name x) (repetitions.is_position name y) x y))
both_none name old x y (inr h) =
    none_append (looks_in name old x) _ (term_none name old x h.1)
    (none_append (looks_in name old y) _ (either_none name old y h.0)
    (beside_none old (repetitions.is_position name x) (repetitions.is_position name y) x y))
