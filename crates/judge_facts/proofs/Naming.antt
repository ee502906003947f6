-- What events name: it stays named when more events come.
use Rattle.std.proofs.Common.{◌≡◌, ℕ, ℤ, Bool, true, false, if◌then◌else◌, List, [], ◌∷◌, ◌++◌, length, refl, ap, sym, subst, ◌∙◌, inl, inr}
use Rattle.std.specs.List.{flat_map, list_any}
use Rattle.pv_ast.specs.declared.PvType.{PvType}
use Rattle.pv_picks.specs.Judge.Settings.{Event, AtField, AtToken, AtLock, AtInstance, AtArray, AtArrayLength, ArrayPart, Known}
use Rattle.pv_picks.specs.Judge.Repetitions.{shifted}
use Rattle.pv_picks.specs.Lazy.Patterns.{Array, same_array, array_in, is_one_of, ends_on, joined_with, named_on}
use Rattle.pv_picks.specs.Lazy.Runs.{Memory, is_same_event, with_event}
use Rattle.judge_facts.specs.Finite.{IsOneOf}
use Rattle.judge_facts.proofs.Joining.{in_two, in_front, in_back, or_left, or_cases, array_itself, arrays_same, times_more, times_inside, joined_closed, named_more}

-- Lists

pub is_last : {A : Type 0} (xs : List A) (a : A) → IsOneOf a (xs ++ a ∷ [])
is_last [] a = inl refl
is_last (x ∷ xs) a = inr (is_last xs a)

pub is_more : {A : Type 0} (xs : List A) (a b : A) → IsOneOf b xs → IsOneOf b (xs ++ a ∷ [])
is_more [] a b h = absurd h
is_more (x ∷ xs) a b (inl e) = inl e
is_more (x ∷ xs) a b (inr h) = inr (is_more xs a b h)

flat_more : (f : Event → List ℤ) (es : List Event) (e : Event) (z : ℤ) → IsOneOf z (flat_map f es)
    → IsOneOf z (flat_map f (es ++ e ∷ []))
flat_more f [] e z h = absurd h
flat_more f (x ∷ xs) e z h = elim (in_two z (f x) (flat_map f xs) h) [
  | inl i ↦ in_front z (f x) (flat_map f (xs ++ e ∷ [])) i
  | inr i ↦ in_back z (f x) (flat_map f (xs ++ e ∷ [])) (flat_more f xs e z i)
]

flat_last : (f : Event → List ℤ) (es : List Event) (e : Event) (z : ℤ) → IsOneOf z (f e) → IsOneOf z (flat_map f (es ++ e ∷ []))
flat_last f [] e z h = in_front z (f e) [] h
flat_last f (x ∷ xs) e z h = in_back z (f x) (flat_map f (xs ++ e ∷ [])) (flat_last f xs e z h)

nothing_named : (f : Event → List ℤ) (es : List Event) (e : Event) → f e ≡ [] → flat_map f (es ++ e ∷ []) ≡ flat_map f es
nothing_named f [] e h = rw h refl
nothing_named f (x ∷ xs) e h = ap (λ zs. f x ++ zs) (nothing_named f xs e h)

-- Events

-- an event that names nothing
abbrev pub NamesNothing : Event → Type 0
NamesNothing e = (arrays : List Array) → ends_on arrays e ≡ []

pub names_same : (es : List Event) (e : Event) → NamesNothing e → (ks : List Known) (a : Array)
    → named_on ks (with_event e es) a ≡ named_on ks es a
names_same es e h ks a = go (list_any (is_same_event e) es) (joined_with ks a)
  where
    go : (b : Bool) (arrays : List Array)
        → flat_map (ends_on arrays) (if b then es else es ++ e ∷ []) ≡ flat_map (ends_on arrays) es
    go true arrays = refl
    go false arrays = nothing_named (ends_on arrays) es e (h arrays)

-- an event on an array is new
never_same : (t : PvType) (a : ℕ) (ends : List ℤ) (es : List Event) → list_any (is_same_event (AtArray t a ends)) es ≡ false
never_same t a ends [] = refl
never_same t a ends (AtField c o f ∷ es) = never_same t a ends es
never_same t a ends (AtToken k c o ∷ es) = never_same t a ends es
never_same t a ends (AtLock c o ∷ es) = never_same t a ends es
never_same t a ends (AtInstance c k o vs ∷ es) = never_same t a ends es
never_same t a ends (AtArray u b others ∷ es) = never_same t a ends es
never_same t a ends (AtArrayLength u b ∷ es) = never_same t a ends es

pub if_false : {A : Type 0} (b : Bool) (x y : A) → b ≡ false → (if b then x else y) ≡ y
if_false true x y h = absurd (cc h)
if_false false x y h = refl

pub if_true : {A : Type 0} (b : Bool) (x y : A) → b ≡ true → (if b then x else y) ≡ x
if_true true x y h = refl
if_true false x y h = absurd (cc h)

pub event_more : (es : List Event) (e : Event) (a : Array) (z : ℤ) → IsOneOf z (named_on [] es a)
    → IsOneOf z (named_on [] (with_event e es) a)
event_more es e a z h = go (list_any (is_same_event e) es)
  where
    go : (b : Bool) → IsOneOf z (flat_map (ends_on (joined_with [] a)) (if b then es else es ++ e ∷ []))
    go true = h
    go false = flat_more (ends_on (joined_with [] a)) es e z h

-- its ends are names
pub event_names : (es : List Event) (t : PvType) (a : ℕ) (ends : List ℤ) (z : ℤ) → IsOneOf z ends
    → IsOneOf z (named_on [] (with_event (AtArray t a ends) es) (t, a))
event_names es t a ends z h =
    subst (λ (xs : List Event). IsOneOf z (named_on [] xs (t, a)))
    (sym (if_false (list_any (is_same_event (AtArray t a ends)) es) es (es ++ AtArray t a ends ∷ []) (never_same t a ends es)))
    (flat_last (ends_on (joined_with [] (t, a))) es (AtArray t a ends) z
    (subst (λ (xs : List ℤ). IsOneOf z xs)
    (sym (if_true (is_one_of ((t, a) ∷ []) (t, a)) ends [] (or_left _ false (array_itself (t, a))))) h))

-- Joined arrays

pub own_names : (ks : List Known) (es : List Event) (a : Array) (z : ℤ) → IsOneOf z (named_on [] es a)
    → IsOneOf z (named_on ks es a)
own_names ks es a z h = named_more (a ∷ []) (joined_with ks a)
    (λ x i. or_cases (same_array x a) false i
    (λ e. subst (λ (y : Array). is_one_of (joined_with ks a) y ≡ true) (sym (arrays_same x a e))
    (times_more (length ks) ks (a ∷ []) a (or_left _ _ (array_itself a)))) (λ e. absurd (cc e)))
    es z h

-- what is named for joined arrays is named for one of them
named_from : (xs : List Array) (es : List Event) (z : ℤ) → IsOneOf z (flat_map (ends_on xs) es)
    → (b : Array) × ((is_one_of xs b ≡ true) × IsOneOf z (named_on [] es b))
named_from xs [] z h = absurd h
named_from xs (AtField c o f ∷ es) z h = named_from xs es z h
named_from xs (AtToken k c o ∷ es) z h = named_from xs es z h
named_from xs (AtLock c o ∷ es) z h = named_from xs es z h
named_from xs (AtInstance c k o vs ∷ es) z h = named_from xs es z h
named_from xs (AtArrayLength t a ∷ es) z h = named_from xs es z h
named_from xs (AtArray t a ends ∷ es) z h = elim (in_two z (ends_on xs (AtArray t a ends)) (flat_map (ends_on xs) es) h) [
  | inl i ↦ go (is_one_of xs (t, a)) refl i
  | inr i ↦ (let w = named_from xs es z i in
      (w.0, (w.1.0, in_back z (ends_on (w.0 ∷ []) (AtArray t a ends)) (flat_map (ends_on (w.0 ∷ [])) es) w.1.1)))
]
  where
    go : (c : Bool) → is_one_of xs (t, a) ≡ c → IsOneOf z (if c then ends else [])
        → (b : Array) × ((is_one_of xs b ≡ true) × IsOneOf z (named_on [] (AtArray t a ends ∷ es) b))
    go true e i = (
      (t, a),
      (
        e,
        in_front z (ends_on ((t, a) ∷ []) (AtArray t a ends)) (flat_map (ends_on ((t, a) ∷ [])) es)
            (subst (λ (ys : List ℤ). IsOneOf z ys)
            (sym (if_true (is_one_of ((t, a) ∷ []) (t, a)) ends [] (or_left _ false (array_itself (t, a))))) i),
      ),
    )
    go false e i = absurd i

-- with more facts, and where more is named for each array, more is named
pub names_more : (ks ls : List Known) (es ds : List Event) → ((k : Known) → IsOneOf k ks → IsOneOf k ls)
    → ((b : Array) (z : ℤ) → IsOneOf z (named_on [] es b) → IsOneOf z (named_on [] ds b)) → (a : Array) (z : ℤ)
    → IsOneOf z (named_on ks es a) → IsOneOf z (named_on ls ds a)
names_more ks ls es ds f g a z h =
    let w = named_from (joined_with ks a) es z h in
    let itself : is_one_of (joined_with ls a) a ≡ true =
    times_more (length ls) ls (a ∷ []) a (or_left (same_array a a) false (array_itself a)) in
    let one : (x : Array) → is_one_of (a ∷ []) x ≡ true → is_one_of (joined_with ls a) x ≡ true =
    λ x i. or_cases (same_array x a) false i
    (λ e. subst (λ (y : Array). is_one_of (joined_with ls a) y ≡ true) (sym (arrays_same x a e)) itself)
    (λ e. absurd (cc e)) in
    let there : is_one_of (joined_with ls a) w.0 ≡ true =
    times_inside (length ks) ks (a ∷ []) (joined_with ls a) one
    (λ k i t x y. joined_closed ls a k (f k i) t x y) w.0 w.1.0 in
    named_more (w.0 ∷ []) (joined_with ls a)
    (λ x i. or_cases (same_array x w.0) false i
    (λ e. subst (λ (y : Array). is_one_of (joined_with ls a) y ≡ true) (sym (arrays_same x w.0 e)) there) (λ e. absurd (cc e)))
    ds z (g w.0 z w.1.1)

-- Memories

-- the same facts, ranges and names
abbrev pub Alike : Memory → Memory → Type 0
Alike m n =
    (n.known ≡ m.known) × (n.ranges ≡ m.ranges) ×
    ((ks : List Known) (a : Array) → named_on ks n.events a ≡ named_on ks m.events a)

pub alike_same : (m : Memory) → Alike m m
alike_same m = (refl, refl, λ ks a. refl)

pub alike_on : (m n o : Memory) → Alike m n → Alike n o → Alike m o
alike_on m n o h k = (k.0 ∙ h.0, k.1 ∙ h.1, λ ks a. k.2 ks a ∙ h.2 ks a)

-- the same was tested too
abbrev pub Still : Memory → Memory → Type 0
Still m n = (n.tested ≡ m.tested) × Alike m n

pub still_same : (m : Memory) → Still m m
still_same m = (refl, alike_same m)

pub still_on : (m n o : Memory) → Still m n → Still n o → Still m o
still_on m n o h k = (k.0 ∙ h.0, alike_on m n o h.1 k.1)

pub event_still : (m : Memory) (e : Event) → NamesNothing e → Still m (record m { events = with_event e m.events })
event_still m e h = (refl, (refl, refl, names_same m.events e h))

-- the same facts and ranges, and all that was named
abbrev pub Grew : Memory → Memory → Type 0
Grew m n =
    (n.known ≡ m.known) × (n.ranges ≡ m.ranges)
    × ((a : Array) (z : ℤ) → IsOneOf z (named_on [] m.events a) → IsOneOf z (named_on [] n.events a))

pub grew_same : (m : Memory) → Grew m m
grew_same m = (refl, refl, λ a z i. i)

pub grew_on : (m n o : Memory) → Grew m n → Grew n o → Grew m o
grew_on m n o g h = (h.0 ∙ g.0, h.1 ∙ g.1, λ a z i. h.2 a z (g.2 a z i))

pub alike_grew : (m n : Memory) → Alike m n → Grew m n
alike_grew m n h = (h.0, h.1, λ a z i. subst (λ (xs : List ℤ). IsOneOf z xs) (sym (h.2 [] a)) i)

pub event_grew : (m : Memory) (e : Event) → Grew m (record m { events = with_event e m.events })
event_grew m e = (refl, refl, event_more m.events e)

abbrev pub AllNamed : List ℤ → List Event → Array → Type 0
AllNamed ends es a = (z : ℤ) → IsOneOf z ends → IsOneOf z (named_on [] es a)

-- the ends of the parts of a fact are names
abbrev pub PartsNamed : List ℤ → List ArrayPart → List Event → Type 0
PartsNamed ends [] es = Unit {0}
PartsNamed ends (p ∷ ps) es = AllNamed (shifted ends p.shift) es (array_in p) × PartsNamed ends ps es
