-- Parts and decisions.
use Rattle.std.proofs.Common.{length, ◌≡◌, ℕ, ◌+◌, ◌≤◌, List, [], ◌∷◌, ◌++◌, ◌⊎◌, inl, inr, arith, ◌+ℤ◌, subst, zero, suc, slice_index_or, ◌<◌, true, false, Bool, cond}
use Rattle.std.proofs.lemmas.Int.{ints, by_lt_z}
use Rattle.std.specs.Prelude.{max}
use Rattle.pv_linear.proofs.Bounds.{bound_of_bounded, bound_of_all-append}
use Rattle.pv_linear.proofs.MeetsLemmas.{opposite_denies}
use Rattle.pv_linear.specs.declared.Literal.{Literal}
use Rattle.pv_linear.specs.Values.{Values, number_of}
use Rattle.pv_linear.specs.Sorting.{IsReferenceAmong, AreSortsApart}
use Rattle.pv_linear.specs.Literal.{Holds, Meets, opposite, IsBounded, bound_of_all}
use Rattle.small_paths.specs.declared.Difference.{Difference}
use Rattle.small_paths.specs.declared.Decision.{Decision}
use Rattle.small_paths.specs.declared.Decision.TheVariants.{Open, Closed}
use Rattle.small_paths.specs.Parts.{On, Off, Agrees, Waits, Stands, literal_of, literal_in, literals_of, decision_bound, decisions_bound, open_side, open_sides}

-- what agrees with the decisions meets their literals, and the other way round
pub agreed_meets : (v : Values) (ds : List Decision) → Agrees v ds → Meets v (literals_of ds)
unfolding Agrees
agreed_meets v [] h = tt
agreed_meets v (Open a ∷ ds) h = (h.0, agreed_meets v ds h.1)
agreed_meets v (Closed a ∷ ds) h = (h.0, agreed_meets v ds h.1)

pub met_agrees : (v : Values) (ds : List Decision) → Meets v (literals_of ds) → Agrees v ds
unfolding Agrees
met_agrees v [] h = tt
met_agrees v (Open a ∷ ds) h = (h.0, met_agrees v ds h.1)
met_agrees v (Closed a ∷ ds) h = (h.0, met_agrees v ds h.1)

pub Agreed_meets : (v : Values) (ds : List Decision) (l : Literal) → Agrees v ds → Holds v l → Meets v (literals_of ds ++ l ∷ [])
unfolding Agrees
Agreed_meets v [] l h k = (k, tt)
Agreed_meets v (Open a ∷ ds) l h k = (h.0, Agreed_meets v ds l h.1 k)
Agreed_meets v (Closed a ∷ ds) l h k = (h.0, Agreed_meets v ds l h.1 k)

no_reference : (ds : List Decision) (k : ℕ) → IsReferenceAmong (literals_of ds) k → ⊥
no_reference [] k h = h
no_reference (Open a ∷ ds) k (inl h) = h
no_reference (Open a ∷ ds) k (inr h) = no_reference ds k h
no_reference (Closed a ∷ ds) k (inl h) = h
no_reference (Closed a ∷ ds) k (inr h) = no_reference ds k h

no_reference-asked : (ds : List Decision) (q : Difference) (k : ℕ) → IsReferenceAmong (literals_of ds ++ literal_of q ∷ []) k → ⊥
no_reference-asked [] q k (inl h) = h
no_reference-asked [] q k (inr h) = h
no_reference-asked (Open a ∷ ds) q k (inl h) = h
no_reference-asked (Open a ∷ ds) q k (inr h) = no_reference-asked ds q k h
no_reference-asked (Closed a ∷ ds) q k (inl h) = h
no_reference-asked (Closed a ∷ ds) q k (inr h) = no_reference-asked ds q k h

-- the literals of decisions are differences, so that no symbol in them is a reference
pub literals_apart : (ds : List Decision) → AreSortsApart (literals_of ds)
literals_apart ds k h r = no_reference ds (suc k) r

pub asked_apart : (ds : List Decision) (q : Difference) → AreSortsApart (literals_of ds ++ literal_of q ∷ [])
asked_apart ds q k h r = no_reference-asked ds q (suc k) r

pub literals_within : (ds : List Decision) → bound_of_all (literals_of ds) ≤ decisions_bound ds
literals_within [] = omega arith
literals_within (Open a ∷ ds) = omega (arith, literals_within ds)
literals_within (Closed a ∷ ds) = omega (arith, literals_within ds)

pub length-literals_of : (ds : List Decision) → length (literals_of ds) ≡ length ds
length-literals_of [] = omega arith
length-literals_of (Open a ∷ ds) = omega (arith, length-literals_of ds)
length-literals_of (Closed a ∷ ds) = omega (arith, length-literals_of ds)

-- the bound of one more literal
pub bound_asked : (ds : List Decision) (l : Literal) (n : ℕ) → decisions_bound ds ≤ n → IsBounded n l
    → bound_of_all (literals_of ds ++ l ∷ []) ≤ n
bound_asked ds l n h k = omega (arith, bound_of_all-append (literals_of ds) (l ∷ []), bound_of_bounded n l k, literals_within ds)

pub decisions_bound-push : (ds : List Decision) (d : Decision) → decisions_bound (ds ++ d ∷ [])
    ≡ max (decisions_bound ds) (decision_bound d)
decisions_bound-push [] d = omega arith
decisions_bound-push (a ∷ ds) d = omega (arith, decisions_bound-push ds d)

-- the bound of one more decision
pub bound_pushed : (ds : List Decision) (d : Decision) (n : ℕ) → decisions_bound ds ≤ n → decision_bound d ≤ n
    → decisions_bound (ds ++ d ∷ []) ≤ n
bound_pushed ds d n h k = omega (arith, decisions_bound-push ds d)

pub open_bound : (q : Difference) (n : ℕ) → IsBounded n (literal_of q) → IsBounded n (opposite (literal_of q))
    → decision_bound (Open q) ≤ n
open_bound q n h k = omega (arith, bound_of_bounded n (literal_of q) h, bound_of_bounded n (opposite (literal_of q)) k)

pub bound_popped : (ds : List Decision) (d : Decision) (n : ℕ) → decisions_bound (ds ++ d ∷ []) ≤ n → decisions_bound ds ≤ n
bound_popped ds d n h = omega (arith, decisions_bound-push ds d)

pub last_bounded : (ds : List Decision) (d : Decision) (n : ℕ) → decisions_bound (ds ++ d ∷ []) ≤ n → decision_bound d ≤ n
last_bounded ds d n h = omega (arith, decisions_bound-push ds d)

-- a decision is added
pub Agrees-push : (v : Values) (ds : List Decision) (d : Decision) → Agrees v ds → On v d → Agrees v (ds ++ d ∷ [])
unfolding Agrees
Agrees-push v [] d h k = (k, tt)
Agrees-push v (a ∷ ds) d h k = (h.0, Agrees-push v ds d h.1 k)

pub Agrees-front : (v : Values) (ds : List Decision) (d : Decision) → Agrees v (ds ++ d ∷ []) → Agrees v ds
unfolding Agrees
Agrees-front v [] d h = tt
Agrees-front v (a ∷ ds) d h = (h.0, Agrees-front v ds d h.1)

pub Agrees-last : (v : Values) (ds : List Decision) (d : Decision) → Agrees v (ds ++ d ∷ []) → On v d
unfolding Agrees
Agrees-last v [] d h = h.0
Agrees-last v (a ∷ ds) d h = Agrees-last v ds d h.1

Waits-push : (v : Values) (ds : List Decision) (d : Decision) → Waits v ds → Waits v (ds ++ d ∷ [])
unfolding Agrees Waits Stands
Waits-push v [] d h = absurd h
Waits-push v (a ∷ ds) d (inl h) = inl (h.0, Waits-push v ds d h.1)
Waits-push v (a ∷ ds) d (inr h) = inr h

Waits-last : (v : Values) (ds : List Decision) (d : Decision) → Agrees v ds → Off v d → Waits v (ds ++ d ∷ [])
unfolding Agrees Waits Stands
Waits-last v [] d h k = inr k
Waits-last v (a ∷ ds) d h k = inl (h.0, Waits-last v ds d h.1 k)

-- nothing is lost by a decision of which one side holds
pub Stands-push : (v : Values) (ds : List Decision) (d : Decision) → (Agrees v ds → On v d ⊎ Off v d) → Stands v ds
    → Stands v (ds ++ d ∷ [])
unfolding Agrees Waits Stands
Stands-push v ds d side (inl h) = elim (side h) [ inl k ↦ inl (Agrees-push v ds d h k) | inr k ↦ inr (Waits-last v ds d h k) ]
Stands-push v ds d side (inr h) = inr (Waits-push v ds d h)

-- what waits behind one more decision waits already, or on its open side
Waits-pop : (v : Values) (ds : List Decision) (d : Decision) → Waits v (ds ++ d ∷ []) → Waits v ds ⊎ (Agrees v ds × Off v d)
unfolding Agrees Waits Stands
Waits-pop v [] d (inl h) = absurd h.1
Waits-pop v [] d (inr h) = inr (tt, h)
Waits-pop v (a ∷ ds) d (inl h) = elim (Waits-pop v ds d h.1) [ inl k ↦ inl (inl (h.0, k)) | inr k ↦ inr ((h.0, k.0), k.1) ]
Waits-pop v (a ∷ ds) d (inr h) = inl (inr h)

-- a new path, and all its parts
pub Stands-nothing : (v : Values) → Stands v []
unfolding Agrees Waits Stands
Stands-nothing v = inl tt

pub Stands-cases : (v : Values) (ds : List Decision) → Stands v ds → Agrees v ds ⊎ Waits v ds
unfolding Stands
Stands-cases v ds h = h

-- a decision with no open side is dropped
pub Waits-dropped : (v : Values) (ds : List Decision) (d : Decision) → Waits v (ds ++ d ∷ []) → (Off v d → ⊥) → Waits v ds
Waits-dropped v ds d h k = elim (Waits-pop v ds d h) [ inl w ↦ w | inr w ↦ absurd (k w.1) ]

-- a decision is turned over
pub Waits-turned : (v : Values) (ds : List Decision) (d other : Decision) → Waits v (ds ++ d ∷ []) → (Off v d → On v other)
    → Stands v (ds ++ other ∷ [])
unfolding Stands
Waits-turned v ds d other h k = elim (Waits-pop v ds d h)
    [ inl w ↦ inr (Waits-push v ds other w) | inr w ↦ inl (Agrees-push v ds other w.0 (k w.1)) ]

-- nothing waits in an empty list
pub Waits-empty : (v : Values) (ds : List Decision) → length ds ≡ 0 → Waits v ds → ⊥
unfolding Waits
Waits-empty v [] h w = w
Waits-empty v (d ∷ ds) h w = omega arith

-- one side of an open decision holds
pub one_side : (v : Values) (q : Difference) → On v (Open q) ⊎ Off v (Open q)
one_side v q = by_lt_z (number_of v q.y.0 +ℤ q.bound) (number_of v q.x.0) (λ k. inr (omega (arith, ints))) (λ k. inl k)

-- a decision that stands on the path
pub Agrees-at : (v : Values) (ds : List Decision) (i : ℕ) (d : Decision) → Agrees v ds → i < length ds
    → On v (slice_index_or ds i d)
unfolding Agrees
Agrees-at v [] i d h k = absurd (omega arith)
Agrees-at v (a ∷ ds) zero d h k = h.0
Agrees-at v (a ∷ ds) (suc i) d h k = Agrees-at v ds i d h.1 (omega arith)

pub Agrees-found : (v : Values) (ds : List Decision) (i : ℕ) (d x : Decision) → slice_index_or ds i d ≡ x → Agrees v ds
    → i < length ds → On v x
Agrees-found v ds i d x is h k = subst (On v) is (Agrees-at v ds i d h k)

On-literal : (v : Values) (d : Decision) → On v d → Holds v (literal_in d)
On-literal v (Open q) h = h
On-literal v (Closed q) h = h

-- what the path has itself is answered by it
pub found_says : (v : Values) (ds : List Decision) (i : ℕ) (d x : Decision) (q : Difference) → slice_index_or ds i d ≡ x
    → i < length ds → literal_in x ≡ literal_of q → Agrees v ds → Holds v (literal_of q)
found_says v ds i d x q is k same h = subst (λ (l : Literal). Holds v l) same (On-literal v x (Agrees-found v ds i d x is h k))

pub found_denies : (v : Values) (ds : List Decision) (i : ℕ) (d x : Decision) (q : Difference) → slice_index_or ds i d ≡ x
    → i < length ds → literal_in x ≡ opposite (literal_of q) → Agrees v ds → Holds v (literal_of q) → ⊥
found_denies v ds i d x q is k same h holds = opposite_denies v (literal_of q)
    (subst (λ (l : Literal). Holds v l) same (On-literal v x (Agrees-found v ds i d x is h k))) holds

-- the bound after a push that may have failed
pub bound_either : (b : Bool) (new ds : List Decision) (d : Decision) (n : ℕ) → new ≡ cond b (ds ++ d ∷ []) ds
    → decisions_bound ds ≤ n → decision_bound d ≤ n → decisions_bound new ≤ n
bound_either true new ds d n is h k = rw is (bound_pushed ds d n h k)
bound_either false new ds d n is h k = rw is h

-- a decision put last adds its open side
pub open_sides_last : (ds : List Decision) (d : Decision) → open_sides (ds ++ d ∷ []) ≡ open_sides ds + open_side d
open_sides_last [] d = omega arith
open_sides_last (c ∷ ds) d = let i = open_sides_last ds d in omega (arith, i)
