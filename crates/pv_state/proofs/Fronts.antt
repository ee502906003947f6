-- What a part takes, before what comes after it.
use Rattle.std.proofs.Common.{◌≡◌, List, [], ◌∷◌, ◌++◌, refl, sym, ap, subst, ◌∙◌, ◌⊎◌, inl, inr}
use Rattle.std.specs.Prelude.{map, Some, slice_get}
use Rattle.std.proofs.lemmas.List.{append-nil, append_assoc}
use Rattle.pv_ast.specs.declared.PvType.{PvType}
use Rattle.pv_linear.specs.declared.Sort.{Sort}
use Rattle.pv_linear.specs.Values.{Values}
use Rattle.pv_linear.specs.Decisions.{IsFront}
use Rattle.pv_linear.specs.Asking.{Meet}
use Rattle.pv_picks.specs.Judge.States.{State}
use Rattle.pv_picks.specs.Lazy.Runs.{Ends, Unfit, Lazily, Drawn, Final, final}
use Rattle.pv_picks.specs.Lazy.Parts.{Came, Goes, Stopped, Ran, Part, after, then_run, chain}
use Rattle.pv_linear.specs.declared.Sort.TheVariants.{Reference}
use Rattle.pv_linear.specs.Keeping.{AreUp}
use Rattle.pv_linear.proofs.SortingLemmas.{get_more}
use Rattle.pv_state.specs.Parts.{sort_of, sorts_in, IsUp, IsFitEnd, HasEnded, Took, IsLeft, Reaches}

sorts_append : (xs ys : List PvType) → map sort_of (xs ++ ys) ≡ map sort_of xs ++ map sort_of ys
sorts_append [] ys = refl
sorts_append (x ∷ xs) ys = ap (λ ws. sort_of x ∷ ws) (sorts_append xs ys)

pub front_all : {A : Type 0} (xs : List A) → IsFront xs xs
front_all xs = ([], sym (append-nil xs))

pub front_then : {A : Type 0} (xs ys zs : List A) → IsFront xs ys → IsFront ys zs → IsFront xs zs
front_then xs ys zs f g = (f.0 ++ g.0, g.1 ∙ ap (λ ws. ws ++ g.0) f.1 ∙ append_assoc xs f.0 g.0)

-- Lists of what is shown

pub both_same : {A : Type 0} (xs ys us ws : List A) → xs ≡ ys → us ≡ ws → xs ++ us ≡ ys ++ ws
both_same xs ys us ws p q = ap (λ zs. zs ++ us) p ∙ ap (λ zs. ys ++ zs) q

pub both_meet : {A : Type 0} (xs ys us ws : List A) → xs ≡ us → ys ≡ ws → Meet xs ys → Meet us ws
both_meet xs ys us ws p q m = subst (λ zs. Meet us zs) q (subst (λ zs. Meet zs ys) p m)

-- References

up_front : (xs ys : List Sort) (v : Values) → IsFront xs ys → AreUp ys v → AreUp xs v
up_front xs ys v f up k h = up k (subst (λ zs. slice_get zs k ≡ Some Reference) (sym f.1) (get_more xs f.0 k Reference h))

pub up_first : {A B : Type 0} (before : List Sort) (v : Values) (y : Ran A) (k : A → Part B) → IsUp before v (chain y k)
    → IsUp before v y
unfolding IsUp
up_first before v y k up = up_front (before ++ sorts_in y) (before ++ sorts_in (chain y k)) v (
  sorts_in (after Stopped y.end k),
  ap (λ ws. before ++ ws) (sorts_append y.types (after Stopped y.end k).types)
      ∙ sym (append_assoc before (sorts_in y) (sorts_in (after Stopped y.end k))),
)
    up

pub up_before : {A : Type 0} (before : List Sort) (v : Values) (o : Ran A) → IsUp before v o → AreUp before v
unfolding IsUp
up_before before v o up = up_front before (before ++ sorts_in o) v (sorts_in o, refl) up

-- Ends

fit_after : {A B : Type 0} (c : Came A) (k : A → Part B) → IsFitEnd (after Stopped c k).end → IsFitEnd c
fit_after (Goes a t m d) k h = tt
fit_after (Stopped (Ends end) m) k h = tt
fit_after (Stopped Unfit m) k h = h

unfit_takes : {A B : Type 0} (c : Came A) (k : A → Part B) → (IsFitEnd c → ⊥) → (after Stopped c k).types ≡ []
unfit_takes (Goes a t m d) k h = absurd (h tt)
unfit_takes (Stopped x m) k h = refl

unfit_rest : {A B : Type 0} (c : Came A) (k : A → Part B) (next : B → State → Lazily Drawn Final) → (IsFitEnd c → ⊥)
    → (after final (after Stopped c k).end next).types ≡ []
unfit_rest (Goes a t m d) k next h = absurd (h tt)
unfit_rest (Stopped x m) k next h = refl

-- What is taken

types_after : {A B : Type 0} (ys : List PvType) (c : Came A) (k : A → Part B) (next : B → State → Lazily Drawn Final)
    → (ys ++ (after Stopped c k).types) ++ (after final (after Stopped c k).end next).types
    ≡ ys ++ (after final c (λ a t m d. then_run final (k a t m d) next)).types
types_after ys (Goes a t m d) k next = append_assoc ys (k a t m d).types (after final (k a t m d).end next).types
types_after ys (Stopped x m) k next = append-nil (ys ++ [])

sorts_chain : {A B : Type 0} (y : Ran A) (k : A → Part B) → sorts_in (chain y k)
    ≡ sorts_in y ++ sorts_in (after Stopped y.end k)
sorts_chain y k = sorts_append y.types (after Stopped y.end k).types

behind : (before ys rs ns : List Sort) → before ++ ((ys ++ rs) ++ ns) ≡ (before ++ ys) ++ (rs ++ ns)
behind before ys rs ns =
    ap (λ ws. before ++ ws) (append_assoc ys rs ns) ∙ sym (append_assoc before ys (rs ++ ns))

sorts_behind : {A B : Type 0} (before : List Sort) (y : Ran A) (r : Ran B) (ns : List PvType)
    → before ++ map sort_of ((y.types ++ r.types) ++ ns) ≡ (before ++ sorts_in y) ++ map sort_of (r.types ++ ns)
sorts_behind before y r ns =
    ap (λ ws. before ++ ws)
    (sorts_append (y.types ++ r.types) ns ∙ ap (λ ws. ws ++ map sort_of ns) (sorts_append y.types r.types))
    ∙ behind before (sorts_in y) (sorts_in r) (map sort_of ns)
    ∙ ap (λ ws. (before ++ sorts_in y) ++ ws) (sym (sorts_append r.types ns))

-- the first of two parts is left where both are
pub reaches_first : {A B : Type 0} (taken before : List Sort) (v : Values) (y : Ran A) (k : A → Part B)
    → Reaches taken before v (chain y k) → Reaches taken before v y
unfolding Reaches
reaches_first taken before v y k (inl l) = inl (record {
  up = l.up;
  next = λ a t m d. then_run final (k a t m d) l.next;
  is = l.is ∙ ap (λ ts. before ++ map sort_of ts) (types_after y.types y.end k l.next);
})
reaches_first taken before v y k (inr e) = inr e

-- behind the first part the second is left
pub reaches_second : {A B : Type 0} (taken before mid : List Sort) (v : Values) (y : Ran A) (k : A → Part B) (r : Ran B)
    → (AreUp before v → Took before mid v y) → IsFront before mid → (IsUp before v y → after Stopped y.end k ≡ r)
    → Reaches taken before v (chain y k) → Reaches taken mid v r
unfolding Reaches Took IsUp
reaches_second {A = A} {B = B} taken before mid v y k r took grows same (inr (f, h)) = inr (
  front_then taken before mid f
      grows,
  h,
)
reaches_second {A = A} {B = B} taken before mid v y k r took grows same (inl l) = go (took l.up)
  where
    go : (AreUp (before ++ sorts_in y) v × (mid ≡ before ++ sorts_in y))
        ⊎ ((IsFitEnd y.end → ⊥) × (IsFront (before ++ sorts_in y) mid × HasEnded (before ++ sorts_in y) v))
        → IsLeft taken mid v r ⊎ (IsFront taken mid × HasEnded taken v)
    go (inl (up, made)) = inl (subst (λ (o : Ran B). IsLeft taken mid v o) (same up) (record {
      up = subst (λ ts. AreUp ts v) (sym made) up;
      next = l.next;
      is = l.is ∙ sorts_behind before y (after Stopped y.end k) (after final (after Stopped y.end k).end l.next).types
          ∙ ap (λ ws. ws ++ map sort_of (then_run final (after Stopped y.end k) l.next).types) (sym made);
    }))
    go (inr (unfit, (front, over))) =
        let all : taken ≡ before ++ sorts_in y =
        l.is ∙ ap (λ ts. before ++ map sort_of ts)
        (ap (λ ts. (y.types ++ ts) ++ (after final (after Stopped y.end k).end l.next).types) (unfit_takes y.end k unfit)
        ∙ ap (λ ts. (y.types ++ []) ++ ts) (unfit_rest y.end k l.next unfit) ∙ append-nil (y.types ++ [])
        ∙ append-nil y.types) in
        inr (subst (λ ts. IsFront ts mid) (sym all) front, subst (λ ts. HasEnded ts v) (sym all) over)

-- what both take
pub took_both : {A B : Type 0} (before mid last : List Sort) (v : Values) (y : Ran A) (k : A → Part B)
    → Took before mid v y → (IsUp before v y → AreUp mid v → Took mid last v (after Stopped y.end k)) → IsFront mid last
    → Took before last v (chain y k)
unfolding Took IsUp
took_both {B = B} before mid last v y k (inl (up, made)) rest grows = go (rest up (subst (λ ts. AreUp ts v) (sym made) up))
  where
    r : Ran B
    r = after Stopped y.end k

    same : before ++ sorts_in (chain y k) ≡ mid ++ sorts_in r
    same = ap (λ ws. before ++ ws) (sorts_chain y k) ∙ sym (append_assoc before (sorts_in y) (sorts_in r))
        ∙ ap (λ ws. ws ++ sorts_in r) (sym made)

    go : (AreUp (mid ++ sorts_in r) v × (last ≡ mid ++ sorts_in r))
        ⊎ ((IsFitEnd r.end → ⊥) × (IsFront (mid ++ sorts_in r) last × HasEnded (mid ++ sorts_in r) v))
        → (AreUp (before ++ sorts_in (chain y k)) v × (last ≡ before ++ sorts_in (chain y k)))
        ⊎ ((IsFitEnd r.end → ⊥) × (IsFront (before ++ sorts_in (chain y k)) last × HasEnded (before ++ sorts_in (chain y k)) v))
    go (inl (f, m)) = inl (subst (λ ts. AreUp ts v) (sym same) f, m ∙ sym same)
    go (inr (u, (f, h))) = inr (u, (subst (λ ts. IsFront ts last) (sym same) f, subst (λ ts. HasEnded ts v) (sym same) h))
took_both before mid last v y k (inr (unfit, (front, over))) rest grows =
    let same : before ++ sorts_in (chain y k) ≡ before ++ sorts_in y =
    ap (λ ts. before ++ map sort_of (y.types ++ ts)) (unfit_takes y.end k unfit)
    ∙ ap (λ ts. before ++ map sort_of ts) (append-nil y.types) in
    inr (
      (λ h. unfit (fit_after y.end k h)),
      (
        subst (λ ts. IsFront ts last) (sym same) (front_then (before ++ sorts_in y) mid last front grows),
        subst (λ ts. HasEnded ts v) (sym same) over,
      ),
    )

-- no reference is negative in the second part, where none is in both
pub up_second : {A B : Type 0} (before mid : List Sort) (v : Values) (y : Ran A) (k : A → Part B) (r : Ran B)
    → Took before mid v y → (IsUp before v y → after Stopped y.end k ≡ r) → IsUp before v (chain y k) → IsUp mid v r
unfolding Took IsUp
up_second {B = B} before mid v y k r (inl (u, made)) same up =
    subst (λ (o : Ran B). AreUp (mid ++ sorts_in o) v) (same u)
    (subst (λ ts. AreUp ts v) (ap (λ ws. before ++ ws) (sorts_chain y k)
    ∙ sym (append_assoc before (sorts_in y) (sorts_in (after Stopped y.end k)))
    ∙ ap (λ ws. ws ++ sorts_in (after Stopped y.end k)) (sym made)) up)
up_second before mid v y k r (inr (unfit, (front, over))) same up = absurd (over (up_front (before ++ sorts_in y)
    (before ++ sorts_in (chain y k)) v (
      sorts_in (after Stopped y.end k),
      ap (λ ws. before ++ ws) (sorts_chain y k) ∙ sym (append_assoc before (sorts_in y) (sorts_in (after Stopped y.end k))),
    ) up))

-- behind the first part no reference is negative
pub up_mid : {A : Type 0} (before mid : List Sort) (v : Values) (y : Ran A) → Took before mid v y → IsUp before v y → AreUp mid v
unfolding Took IsUp
up_mid before mid v y (inl (u, made)) up = subst (λ ts. AreUp ts v) (sym made) u
up_mid before mid v y (inr (unfit, (front, over))) up = absurd (over up)
