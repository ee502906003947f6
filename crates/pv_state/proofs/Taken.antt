-- What a part takes before what comes next: a symbol was made for it.
use Rattle.std.proofs.Common.{◌≡◌, ℕ, zero, suc, ◌+◌, ℤ, pos, negsuc, List, [], ◌∷◌, ◌++◌, length, length-append, refl, sym, ap, subst, ◌∙◌, ◌⊎◌, inl, inr, arith, rules}
use Rattle.std.specs.Prelude.{◌≤ℤ◌, map, slice_get, Some}
use Rattle.std.proofs.Math.Logic.{∥∥₁_map}
use Rattle.std.proofs.lemmas.List.{append-nil, append_assoc}
use Rattle.std.proofs.lemmas.Int.{ints}
use Rattle.std.specs.Prelude.{IfOk, OnErr}
use Rattle.std.specs.declared.result.Result.{Result}
use Rattle.std.specs.declared.result.Result.TheVariants.{Ok, Err}
use Rattle.pv_ast.specs.declared.PvType.{PvType}
use Rattle.pv_linear.specs.declared.Sort.{Sort}
use Rattle.pv_linear.specs.declared.Sort.TheVariants.{Number, Truth, Reference}
use Rattle.pv_linear.specs.declared.Literal.{Literal}
use Rattle.pv_linear.specs.Values.{Values}
use Rattle.pv_linear.specs.Evidence.{Evidence, HasTurns, Follows, Under}
use Rattle.pv_linear.specs.Decisions.{Decision, IsFront}
use Rattle.pv_linear.specs.Asking.{Goes, Stays}
use Rattle.pv_linear.specs.Keeping.{AreUp, Tracks, AreSorted}
use Rattle.pv_picks.specs.Judge.States.{State}
use Rattle.pv_picks.specs.Lazy.Runs.{taking, Lazily, Drawn, Final, final}
use Rattle.pv_picks.specs.Lazy.Parts.{Came, Ran, after, then_run}
use Rattle.pv_picks.specs.Lazy.Parts as parts
use Rattle.pv_state.specs.Parts.{sort_of, sorts_in, IsUp, IsFitEnd, HasEnded, Took, Reaches, Does, Halts, Ready, StaysSorted}
use Rattle.pv_state.proofs.Fronts.{front_all, front_then}

-- the part ends where the number that it takes is negative in the place of a reference
abbrev pub Falls : {A : Type 0} → List Sort → List Sort → Values → Ran A → Type 0
Falls before made v r = AreUp before v → (AreUp made v → ⊥) → ((r.types ≡ []) × (IsFitEnd r.end → ⊥))

get_less : (xs : List Sort) (s t : Sort) (k : ℕ) → slice_get (xs ++ s ∷ []) k ≡ Some t
    → (slice_get xs k ≡ Some t) ⊎ ((k ≡ length xs) × (s ≡ t))
get_less [] s t zero h = inr (refl, cc h)
get_less [] s t (suc k) h = absurd (cc h)
get_less (x ∷ xs) s t zero h = inl h
get_less (x ∷ xs) s t (suc k) h = elim (get_less xs s t k h) [
  | inl p ↦ inl p
  | inr p ↦ inr (omega (arith, p.0), p.1)
]

pub up_to : (xs : List Sort) (s : Sort) (v : Values) → AreUp xs v → (s ≡ Reference → pos 0 ≤ℤ v (length xs))
    → AreUp (xs ++ s ∷ []) v
up_to xs s v up here k h = elim (get_less xs s Reference k h) [
  | inl p ↦ up k p
  | inr p ↦ subst (λ n. pos 0 ≤ℤ v n) (sym p.0) (here p.1)
]

get_end : (xs : List Sort) (s : Sort) → slice_get (xs ++ s ∷ []) (length xs) ≡ Some s
get_end [] s = refl
get_end (x ∷ xs) s = get_end xs s

up_or_not : (xs : List Sort) (s : Sort) (v : Values) → AreUp xs v → AreUp (xs ++ s ∷ []) v ⊎ (AreUp (xs ++ s ∷ []) v → ⊥)
up_or_not xs Number v up = inl (up_to xs Number v up (λ p. absurd (cc p)))
up_or_not xs Truth v up = inl (up_to xs Truth v up (λ p. absurd (cc p)))
up_or_not xs Reference v up = go (v (length xs)) refl
  where
    go : (z : ℤ) → v (length xs) ≡ z → AreUp (xs ++ Reference ∷ []) v ⊎ (AreUp (xs ++ Reference ∷ []) v → ⊥)
    go (pos n) p = inl (up_to xs Reference v up (λ q. subst (λ x. pos 0 ≤ℤ x) (sym p) (search (rules, ints))))
    go (negsuc n) p = inr (λ h. let q : pos 0 ≤ℤ negsuc n = subst (λ x. pos 0 ≤ℤ x) p (h (length xs) (get_end xs Reference)) in
        absurd (omega (arith, ints, q)))

-- what was taken before, what is taken now, and the rest
next_to : {A : Type 0} (before mid : List Sort) (type : PvType) (z : ℤ) (r : Ran A) → mid ≡ before ++ sort_of type ∷ []
    → mid ++ sorts_in r ≡ before ++ sorts_in (taking type z r)
next_to before mid type z r made =
    ap (λ ts. ts ++ sorts_in r) made ∙ append_assoc before (sort_of type ∷ []) (sorts_in r)

up_taken : {A : Type 0} (before mid : List Sort) (v : Values) (type : PvType) (z : ℤ) (r : Ran A)
    → mid ≡ before ++ sort_of type ∷ [] → IsUp before v (taking type z r) → IsUp mid v r
unfolding IsUp
up_taken before mid v type z r made up = subst (λ ts. AreUp ts v) (sym (next_to before mid type z r made)) up

took_taken : {A : Type 0} (before mid last : List Sort) (v : Values) (type : PvType) (z : ℤ) (r : Ran A)
    → mid ≡ before ++ sort_of type ∷ [] → AreUp before v → Falls before mid v r → IsFront mid last → (AreUp mid v
    → Took mid last v r)
    → Took before last v (taking type z r)
unfolding Took
took_taken before mid last v type z r made up falls front took = go (up_or_not before (sort_of type) v up)
  where
    same : mid ++ sorts_in r ≡ before ++ sorts_in (taking type z r)
    same = next_to before mid type z r made

    over : (AreUp mid v → ⊥) → Took before last v (taking type z r)
    over not_up =
        let none : mid ≡ before ++ sorts_in (taking type z r) =
        sym (append-nil mid) ∙ ap (λ ts. mid ++ map sort_of ts) (sym (falls up not_up).0) ∙ same in
        inr ((falls up not_up).1, (subst (λ ts. IsFront ts last) none front, subst (λ ts. HasEnded ts v) none not_up))

    on : (AreUp (mid ++ sorts_in r) v × (last ≡ mid ++ sorts_in r))
        ⊎ ((IsFitEnd r.end → ⊥) × (IsFront (mid ++ sorts_in r) last × HasEnded (mid ++ sorts_in r) v))
        → Took before last v (taking type z r)
    on (inl (f, m)) = inl (subst (λ ts. AreUp ts v) same f, m ∙ same)
    on (inr (u, (f, h))) = inr (u, (subst (λ ts. IsFront ts last) same f, subst (λ ts. HasEnded ts v) same h))

    go : AreUp (before ++ sort_of type ∷ []) v ⊎ (AreUp (before ++ sort_of type ∷ []) v → ⊥)
        → Took before last v (taking type z r)
    go (inl h) = on (took (subst (λ ts. AreUp ts v) (sym made) h))
    go (inr not_up) = over (λ h. not_up (subst (λ ts. AreUp ts v) made h))

-- what the unit's run takes begins with what was made, and this
tracks_taken : {A : Type 0} (taken before : List Sort) (v : Values) (type : PvType) (z : ℤ) (r : Ran A)
    → Reaches taken before v (taking type z r) → Tracks (before ++ sort_of type ∷ []) taken v
unfolding Reaches Tracks
tracks_taken taken before v type z r (inl l) = inl (
  map sort_of (then_run final r l.next).types,
  l.is ∙ sym (append_assoc before (sort_of type ∷ []) (map sort_of (then_run final r l.next).types)),
)
tracks_taken taken before v type z r (inr (front, over)) =
    inr (front_then taken before (before ++ sort_of type ∷ []) front (sort_of type ∷ [], refl), over)

rest_none : {A : Type 0} (r : Ran A) (next : A → State → Lazily Drawn Final) → r.types ≡ [] → (IsFitEnd r.end → ⊥)
    → (then_run final r next).types ≡ []
rest_none r next none unfit = ap (λ ts. ts ++ (after final r.end next).types) none ∙ stops r.end unfit
  where
    stops : (c : Came _) → (IsFitEnd c → ⊥) → (after final c next).types ≡ []
    stops (parts.Goes a s m d) h = absurd (h tt)
    stops (parts.Stopped x m) h = refl

-- behind what is taken the rest is left
reaches_taken : {A : Type 0} (taken before mid : List Sort) (v : Values) (type : PvType) (z : ℤ) (r : Ran A)
    → mid ≡ before ++ sort_of type ∷ [] → Falls before mid v r → Reaches taken before v (taking type z r) → Reaches taken mid v r
unfolding Reaches
reaches_taken taken before mid v type z r made falls (inr (front, over)) =
    inr (front_then taken before mid front (sort_of type ∷ [], made), over)
reaches_taken {A = A} taken before mid v type z r made falls (inl l) = go (up_or_not before (sort_of type) v l.up)
  where
    same : taken ≡ mid ++ map sort_of (then_run final r l.next).types
    same = l.is ∙ sym (append_assoc before (sort_of type ∷ []) (map sort_of (then_run final r l.next).types))
        ∙ ap (λ ts. ts ++ map sort_of (then_run final r l.next).types) (sym made)

    go : AreUp (before ++ sort_of type ∷ []) v ⊎ (AreUp (before ++ sort_of type ∷ []) v → ⊥) → Reaches taken mid v r
    go (inl h) = inl (record { up = subst (λ ts. AreUp ts v) (sym made) h; next = l.next; is = same })
    go (inr not_up) =
        let over : AreUp mid v → ⊥ = λ h. not_up (subst (λ ts. AreUp ts v) made h) in
        let all : taken ≡ mid =
        same ∙ ap (λ ts. mid ++ map sort_of ts) (rest_none r l.next (falls l.up over).0 (falls l.up over).1) ∙ append-nil mid in
        inr (subst (λ ts. IsFront ts mid) (sym all) (front_all mid), subst (λ ts. HasEnded ts v) (sym all) over)

module _ {S : Type 0} (path : S → List Literal) (turns : S → List ℕ) (decisions : S → List Decision)
    (stands : S → Evidence → Type 0) (ended : S → ℕ) (sorts : S → List Sort) where
  -- what a symbol that is made keeps of sorts
  abbrev pub Makes : Sort → S → S → Type 0
  Makes s old new = (takes : Evidence → List Sort) → AreSorted takes (path old) (turns old) (decisions old) (sorts old)
      → Under path turns old (λ e. HasTurns e → Tracks (sorts old ++ s ∷ []) (takes e) e.values)
      → AreSorted takes (path new) (turns new) (decisions new) (sorts new)

  module _ {A : Type 0} (old mid new : S) (type : PvType) (z : Evidence → ℤ) (r : Evidence → Ran A)
      (goes : Goes path turns decisions stands ended old mid) (stays : Stays path turns decisions old mid)
      (made : sorts mid ≡ sorts old ++ sort_of type ∷ []) (makes : Makes (sort_of type) old mid)
      (falls : (e : Evidence) → Falls (sorts old) (sorts mid) e.values (r e)) where
    abbrev whole : Evidence → Ran A
    whole e = taking type (z e) (r e)

    mid_on : Goes path turns decisions stands ended mid new → Goes path turns decisions stands ended old new
    mid_on two = record {
      narrows = λ e f. goes.narrows e (two.narrows e f);
      keeps = λ e s. two.keeps e (goes.keeps e s);
      adds = λ e s. goes.adds e (two.adds e s);
      gone = λ e f g. two.gone e f (goes.gone e f g);
      ended_same = two.ended_same ∙ goes.ended_same;
    }

    ups : (e : Evidence) → IsUp (sorts old) e.values (whole e) → IsUp (sorts mid) e.values (r e)
    ups e h = up_taken (sorts old) (sorts mid) e.values type (z e) (r e) made h

    reach : (takes : Evidence → List Sort)
        → ((e : Evidence) → Follows (path old) (turns old) e → HasTurns e → Reaches (takes e) (sorts old) e.values (whole e))
        → (e : Evidence) → Follows (path mid) (turns mid) e → HasTurns e → Reaches (takes e) (sorts mid) e.values (r e)
    reach takes h e f t = reaches_taken (takes e) (sorts old) (sorts mid) e.values type (z e) (r e) made (falls e)
        (h e (goes.narrows e f) t)

    sorted : (takes : Evidence → List Sort) → AreSorted takes (path old) (turns old) (decisions old) (sorts old)
        → ((e : Evidence) → Follows (path old) (turns old) e → HasTurns e → Reaches (takes e) (sorts old) e.values (whole e))
        → AreSorted takes (path mid) (turns mid) (decisions mid) (sorts mid)
    sorted takes st h = makes takes st (λ e f t. tracks_taken (takes e) (sorts old) e.values type (z e) (r e) (h e f t))

    -- something is taken, and what comes next
    pub does_taken : (came : Evidence → Came A) → Does path turns decisions stands ended sorts mid new r came
        → Does path turns decisions stands ended sorts old new whole came
    does_taken came two = record {
      goes = mid_on two.goes;
      grows = front_then (sorts old) (sorts mid) (sorts new) (sort_of type ∷ [], made) two.grows;
      ends = λ e f h. two.ends e f (ups e h);
      tells = λ e f h i v fe ff meet. elim (stays e f h i v) [
        | inl t ↦ two.tells e f t.0 t.1.0 t.1.1.0 (ups e fe) (ups f ff) meet
        | inr g ↦ inr (two.goes.gone e f g)
      ];
      took = λ e f u. took_taken (sorts old) (sorts mid) (sorts new) e.values type (z e) (r e) made u (falls e) two.grows
          (two.took e f);
      keeps = λ takes st h. two.keeps takes (sorted takes st h) (reach takes h);
    }

    -- something is taken, and what comes next is refused
    pub halts_taken : Halts path turns decisions stands ended sorts mid new r
        → Halts path turns decisions stands ended sorts old new whole
    halts_taken two = record {
      goes = mid_on two.goes;
      tells = λ e f h i v fe ff meet. elim (stays e f h i v) [
        | inl t ↦ two.tells e f t.0 t.1.0 t.1.1.0 (ups e fe) (ups f ff) meet
        | inr g ↦ inr (two.goes.gone e f g)
      ];
      most = λ e f h.
          let n = two.most e f (ups e h) in
          let one : length (sorts mid) ≡ length (sorts old) + 1 =
          ap (λ ts. length ts) made ∙ length-append (sorts old) (sort_of type ∷ []) in
          omega (arith, n, one);
      keeps = λ takes st h. two.keeps takes (sorted takes st h) (reach takes h);
    }

    pub ready_taken : Ready path turns decisions sorts old whole → Ready path turns decisions sorts mid r
    unfolding Ready
    ready_taken ready = ∥∥₁_map ready (λ t. (t.0, (sorted t.0 t.1.0 t.1.1, reach t.0 t.1.1)))

  -- refused before anything was made
  pub halts_still : {A : Type 0} (old new : S) (x : Evidence → Ran A) → Goes path turns decisions stands ended old new
      → Stays path turns decisions old new → sorts new ≡ sorts old → StaysSorted path turns decisions sorts old new
      → Halts path turns decisions stands ended sorts old new x
  halts_still old new x goes stays same sorted = record {
    goes = goes;
    tells = λ e f h i v fe ff meet. stays e f h i v;
    most = λ e f h. let one : length (sorts new) ≡ length (sorts old) = ap (λ ts. length ts) same in omega (arith, one);
    keeps = λ takes st reach. sorted takes st;
  }

  -- refused, where nothing is done
  pub halts_here : {A : Type 0} (asker : S) (x : Evidence → Ran A)
      → Halts path turns decisions stands ended sorts asker asker x
  halts_here asker x = halts_still asker asker x
      (record { narrows = λ e f. f; keeps = λ e s. s; adds = λ e s. s; gone = λ e f g. g; ended_same = refl })
      (λ e f h i v. inl (h, (i, (v, tt)))) refl (λ takes st. st)

  -- what a part comes to, said otherwise
  pub does_as : {A : Type 0} (old new : S) (x : Evidence → Ran A) (came other : Evidence → Came A)
      → ((e : Evidence) → Follows (path new) (turns new) e → IsUp (sorts old) e.values (x e) → came e ≡ other e)
      → Does path turns decisions stands ended sorts old new x came
      → Does path turns decisions stands ended sorts old new x other
  does_as old new x came other same one = record {
    goes = one.goes;
    grows = one.grows;
    ends = λ e f h. one.ends e f h ∙ same e f h;
    tells = one.tells;
    took = one.took;
    keeps = one.keeps;
  }

-- what holds anyway holds where a call was refused
pub when_err : {T E P : Type 0} (r : Result T E) → P → OnErr r P
when_err (Ok x) p = tt
when_err (Err e) p = p

pub err_then : {T E P Q : Type 0} (r : Result T E) → (P → Q) → OnErr r P → OnErr r Q
err_then (Ok x) f p = tt
err_then (Err e) f p = f p

pub ok_then : {T E : Type 0} (r : Result T E) (P Q : T → Type 0) → ((x : T) → P x → Q x) → IfOk r P → IfOk r Q
ok_then (Ok x) P Q f p = f x p
ok_then (Err e) P Q f p = tt
