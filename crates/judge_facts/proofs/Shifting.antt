-- What a steady condition looks at, at its position, has its shift.
use Rattle.std.proofs.Common.{◌≡◌, ℤ, pos, Bool, true, false, if◌then◌else◌, Option, Some, None, List, [], ◌∷◌, ◌++◌, refl, sym, ◌∙◌, ◌⊎◌, inl, inr}
use Rattle.pv_base.specs.declared.Name.{Name}
use Rattle.pv_base.specs.declared.Span.{Span}
use Rattle.pv_ast.specs.declared.PvType.{PvType}
use Rattle.pv_base.specs.Names.{same_name}
use Rattle.pv_picks.specs.Plain.Core.{Operation, Expression, Constant, This, Result, Variable, Field, Element, Length, Not, Compute, Plain, Compare, Equal, And, Or, Implies, Old}
use Rattle.pv_picks.specs.Judge.Repetitions.{in_state, Look, AtElements, AtElement, AtLength, AtTerm, looks_in, look_at_element, shift_in, shift_if, is_position, constant_in, term_beside}
use Rattle.pv_picks.specs.Judge.Steady.{IsTerm, Steady}
use Rattle.judge_facts.specs.Shapes.{Shifted}
use Rattle.judge_facts.proofs.Worth.{neither}

append : (s : ℤ) (xs ys : List Look) → Shifted s xs → Shifted s ys → Shifted s (xs ++ ys)
append s [] ys h k = k
append s (AtElements t a z ∷ xs) ys h k = (h.0, append s xs ys h.1 k)
append s (AtElement was t a i ∷ xs) ys h k = append s xs ys h k
append s (AtLength t a ∷ xs) ys h k = append s xs ys h k
append s (AtTerm e ∷ xs) ys h k = append s xs ys h k

beside : (name : Name) (old : Bool) (s : ℤ) (x y : Expression) → Shifted s (term_beside name old x y)
beside name old s x y = go (is_position name x) (is_position name y)
  where
    go : (b c : Bool) → Shifted s (if b then AtTerm (in_state old y) ∷ [] else if c then AtTerm (in_state old x) ∷ [] else [])
    go true c = tt
    go false true = tt
    go false false = tt

not_position : (name : Name) (a : Expression) → IsTerm name a → is_position name a ≡ false
not_position name (Variable x) h = h
not_position name a h = refl

none_if : (b : Bool) (s : ℤ) → b ≡ false → (if b then Some s else None) ≡ None
none_if true s h = absurd (cc h)
none_if false s h = refl

none_shift : (b : Bool) (o : Operation) (z : Option ℤ) → b ≡ false → shift_if b o z ≡ None
none_shift true o z h = absurd (cc h)
none_shift false o z h = refl

term_shift : (name : Name) (i : Expression) → IsTerm name i → shift_in name i ≡ None
term_shift name (Variable x) h = none_if (same_name name x) (pos 0) h
term_shift name (Compute Plain o a b p) h =
    none_shift (is_position name a) o (constant_in b) (not_position name a (neither _ _ h).0)
term_shift name i h = refl

element_by : (name : Name) (s : ℤ) (mode : Bool) (t : PvType) (a i : Expression) (o : Option ℤ) → shift_in name i ≡ o
    → IsTerm name i ⊎ (shift_in name i ≡ Some s) → Shifted s (look_at_element o mode t a i ∷ [])
element_by name s mode t a i None e h = tt
element_by name s mode t a i (Some z) e (inl l) = absurd (cc (sym (term_shift name i l) ∙ e))
element_by name s mode t a i (Some z) e (inr k) = (cc (sym e ∙ k), tt)

term_shifted : (name : Name) (s : ℤ) (mode : Bool) (e : Expression) → IsTerm name e → Shifted s (looks_in name mode e)
term_shifted name s mode (Constant v) h = tt
term_shifted name s mode This h = tt
term_shifted name s mode Result h = tt
term_shifted name s mode (Variable x) h = tt
term_shifted name s mode (Field e c f p) h = term_shifted name s mode e h
term_shifted name s mode (Element t a i p) h = append s (looks_in name mode a) _ (term_shifted name s mode a (neither _ _ h).0)
    (append s (looks_in name mode i) _ (term_shifted name s mode i (neither _ _ h).1)
    (element_by name s mode t a i (shift_in name i) refl (inl (neither _ _ h).1)))
term_shifted name s mode (Length t a p) h = append s (looks_in name mode a) _ (term_shifted name s mode a h) tt
term_shifted name s mode (Not e) h = term_shifted name s mode e h
term_shifted name s mode (Compute m o x y p) h =
    append s (looks_in name mode x) _ (term_shifted name s mode x (neither _ _ h).0)
    (term_shifted name s mode y (neither _ _ h).1)
term_shifted name s mode (Compare o x y) h =
    append s (looks_in name mode x) _ (term_shifted name s mode x (neither _ _ h).0)
    (append s (looks_in name mode y) _ (term_shifted name s mode y (neither _ _ h).1) (beside name mode s x y))
term_shifted name s mode (Equal o x y) h =
    append s (looks_in name mode x) _ (term_shifted name s mode x (neither _ _ h).0)
    (append s (looks_in name mode y) _ (term_shifted name s mode y (neither _ _ h).1) (beside name mode s x y))
term_shifted name s mode (And x y) h =
    append s (looks_in name mode x) _ (term_shifted name s mode x (neither _ _ h).0)
    (term_shifted name s mode y (neither _ _ h).1)
term_shifted name s mode (Or x y) h =
    append s (looks_in name mode x) _ (term_shifted name s mode x (neither _ _ h).0)
    (term_shifted name s mode y (neither _ _ h).1)
term_shifted name s mode (Implies x y) h =
    append s (looks_in name mode x) _ (term_shifted name s mode x (neither _ _ h).0)
    (term_shifted name s mode y (neither _ _ h).1)
term_shifted name s mode (Old e) h = term_shifted name s true e h

no_constant : (b : Bool) (o : Operation) (s : ℤ) → shift_if b o None ≡ Some s → ⊥
no_constant true o s h = cc h
no_constant false o s h = cc h

index_parts : (name : Name) (s : ℤ) (mode : Bool) (o : Operation) (p : Span) (a b : Expression)
    → shift_in name (Compute Plain o a b p) ≡ Some s → Shifted s (looks_in name mode a ++ looks_in name mode b)
index_parts name s mode o p (Variable x) (Constant v) h = tt
index_parts name s mode o p (Variable x) b h = absurd (no_constant (same_name name x) o s h)
index_parts name s mode o p a b h = absurd (cc h)

index_shifted : (name : Name) (s : ℤ) (mode : Bool) (i : Expression) → IsTerm name i ⊎ (shift_in name i ≡ Some s)
    → Shifted s (looks_in name mode i)
index_shifted name s mode i (inl l) = term_shifted name s mode i l
index_shifted name s mode (Variable x) (inr k) = tt
index_shifted name s mode (Compute Plain o a b p) (inr k) = index_parts name s mode o p a b k
index_shifted name s mode i (inr k) = absurd (cc k)

pub steady_shifted : (name : Name) (s : ℤ) (mode : Bool) (e : Expression) → Steady name s e → Shifted s (looks_in name mode e)
steady_shifted name s mode (Constant v) h = tt
steady_shifted name s mode This h = tt
steady_shifted name s mode Result h = tt
steady_shifted name s mode (Variable x) h = tt
steady_shifted name s mode (Field e c f p) h = steady_shifted name s mode e h
steady_shifted name s mode (Element t a i p) h = append s (looks_in name mode a) _ (term_shifted name s mode a h.0)
    (append s (looks_in name mode i) _ (index_shifted name s mode i h.1)
    (element_by name s mode t a i (shift_in name i) refl h.1))
steady_shifted name s mode (Length t a p) h = append s (looks_in name mode a) _ (steady_shifted name s mode a h) tt
steady_shifted name s mode (Not e) h = steady_shifted name s mode e h
steady_shifted name s mode (Compute m o x y p) h =
    append s (looks_in name mode x) _ (steady_shifted name s mode x h.0) (steady_shifted name s mode y h.1)
steady_shifted name s mode (Compare o x y) h =
    append s (looks_in name mode x) _ (steady_shifted name s mode x h.0)
    (append s (looks_in name mode y) _ (steady_shifted name s mode y h.1) (beside name mode s x y))
steady_shifted name s mode (Equal o x y) h =
    append s (looks_in name mode x) _ (steady_shifted name s mode x h.0)
    (append s (looks_in name mode y) _ (steady_shifted name s mode y h.1) (beside name mode s x y))
steady_shifted name s mode (And x y) h =
    append s (looks_in name mode x) _ (steady_shifted name s mode x h.0) (steady_shifted name s mode y h.1)
steady_shifted name s mode (Or x y) h =
    append s (looks_in name mode x) _ (steady_shifted name s mode x h.0) (steady_shifted name s mode y h.1)
steady_shifted name s mode (Implies x y) h =
    append s (looks_in name mode x) _ (steady_shifted name s mode x h.0) (steady_shifted name s mode y h.1)
steady_shifted name s mode (Old e) h = steady_shifted name s true e h
