-- What a question does within a part: it shows something, makes nothing, and what comes next is known behind it. And parts
-- that ask
-- nothing.
use Rattle.std.proofs.Common.{◌≡◌, ℕ, List, ◌++◌, length, refl, sym, ap, subst, ◌∙◌, inl, inr, arith}
use Rattle.std.proofs.Math.Logic.{∥∥₁_map, ∥∥₁_elim}
use Rattle.std.proofs.lemmas.List.{append-nil}
use Rattle.pv_linear.specs.declared.Sort.{Sort}
use Rattle.pv_linear.specs.declared.Literal.{Literal}
use Rattle.pv_linear.specs.Values.{Values}
use Rattle.pv_linear.specs.Evidence.{Evidence, Follows, MayAsk}
use Rattle.pv_linear.specs.Sorts.{HasSorts}
use Rattle.pv_linear.specs.Decisions.{Decision, IsFront}
use Rattle.pv_linear.specs.Asking.{Goes, Asks, Meet, Together}
use Rattle.pv_linear.specs.Keeping.{AreUp}
use Rattle.pv_linear.proofs.Pairs.{Meet_front, Meet_rest}
use Rattle.pv_linear.proofs.SortedLemmas.{sorted_may_ask}
use Rattle.pv_picks.specs.Lazy.Patterns.{Shown}
use Rattle.pv_picks.specs.Lazy.Runs.{showing, at_end}
use Rattle.pv_picks.specs.Lazy.Parts.{Came, Ran}
use Rattle.pv_state.specs.Parts.{sorts_in, IsUp, Took, Reaches, TellsShown, StopsShown, Does, Halts, Ready, StaysSorted, IsSorted}
use Rattle.pv_state.proofs.Fronts.{both_same, both_meet, front_all, up_before}

up_shown : {A : Type 0} (before mid : List Sort) (v : Values) (b : List Shown) (x r : Ran A) → (AreUp mid v → x ≡ r) → mid
    ≡ before
    → IsUp before v (showing b x) → IsUp mid v r
unfolding IsUp
up_shown before mid v b x r p q up =
    let here : AreUp mid v = subst (λ ts. AreUp ts v) (sym q) (up_before before v (showing b x) up) in
    subst (λ (o : Ran _). IsUp mid v o) (p here) (subst (λ ts. AreUp (ts ++ sorts_in x) v) (sym q) up)

took_shown : {A : Type 0} (before mid last : List Sort) (v : Values) (b : List Shown) (x r : Ran A) → x ≡ r → mid ≡ before
    → Took mid last v r → Took before last v (showing b x)
unfolding Took
took_shown before mid last v b x r p q t =
    subst (λ (o : Ran _). Took before last v o) (sym p) (subst (λ ts. Took ts last v r) q t)

reaches_shown : {A : Type 0} (taken before mid : List Sort) (v : Values) (b : List Shown) (x r : Ran A) → (AreUp mid v → x ≡ r)
    → mid ≡ before → Reaches taken before v (showing b x) → Reaches taken mid v r
unfolding Reaches
reaches_shown taken before mid v b x r p q (inl l) =
    let up : AreUp mid v = subst (λ ts. AreUp ts v) (sym q) l.up in
    subst (λ (o : Ran _). Reaches taken mid v o) (p up)
    (subst (λ ts. Reaches taken ts v x) (sym q) (inl (record { up = l.up; next = l.next; is = l.is })))
reaches_shown taken before mid v b x r p q (inr (f, h)) = inr (subst (λ ts. IsFront taken ts) (sym q) f, h)

took_here : {A : Type 0} (before : List Sort) (v : Values) (c : Came A) → AreUp before v → Took before before v (at_end c)
unfolding Took
took_here before v c up = inl (subst (λ ts. AreUp ts v) (sym (append-nil before)) up, sym (append-nil before))

module _ {S : Type 0} (path : S → List Literal) (turns : S → List ℕ) (decisions : S → List Decision)
    (stands : S → Evidence → Type 0) (ended : S → ℕ) (sorts : S → List Sort) where
  asks_goes : (old new : S) → Asks path turns decisions stands ended sorts old new
      → Goes path turns decisions stands ended old new
  asks_goes old new a =
      record { narrows = a.narrows; keeps = a.keeps; adds = a.adds; gone = a.gone; ended_same = a.ended_same }

  goes_on : (old mid new : S) → Asks path turns decisions stands ended sorts old mid
      → Goes path turns decisions stands ended mid new → Goes path turns decisions stands ended old new
  goes_on old mid new a b = record {
    narrows = λ e f. a.narrows e (b.narrows e f);
    keeps = λ e s. b.keeps e (a.keeps e s);
    adds = λ e s. a.adds e (b.adds e s);
    gone = λ e f g. b.gone e f (a.gone e f g);
    ended_same = b.ended_same ∙ a.ended_same;
  }

  -- a part that asks nothing, and comes to its end at once
  pub does_here : {A : Type 0} (asker : S) (came : Evidence → Came A)
      → Does path turns decisions stands ended sorts asker asker (λ e. at_end (came e)) came
  does_here asker came = record {
    goes = record { narrows = λ e f. f; keeps = λ e s. s; adds = λ e s. s; gone = λ e f g. g; ended_same = refl };
    grows = front_all (sorts asker);
    ends = λ e f h. refl;
    tells = λ e f h i v fe ff m. inl (h, (i, (v, refl)));
    took = λ e f u. took_here (sorts asker) e.values (came e) u;
    keeps = λ takes st reach. st;
  }

  module _ {A : Type 0} (old mid new : S) (b : Evidence → List Shown) (x r : Evidence → Ran A)
      (asked : Asks path turns decisions stands ended sorts old mid) (tells : TellsShown path turns decisions sorts old mid b)
      (sorted : StaysSorted path turns decisions sorts old mid)
      (is : (e : Evidence) → Follows (path mid) (turns mid) e → AreUp (sorts mid) e.values → x e ≡ r e) where
    abbrev shown : Evidence → Ran A
    shown e = showing (b e) (x e)

    -- no reference is negative where the question is asked, and behind it
    before : (e : Evidence) → IsUp (sorts old) e.values (shown e) → AreUp (sorts old) e.values
    before e h = up_before (sorts old) e.values (shown e) h

    behind : (e : Evidence) → AreUp (sorts old) e.values → AreUp (sorts mid) e.values
    behind e u = subst (λ ts. AreUp ts e.values) (sym asked.sorts_same) u

    ups : (e : Evidence) → Follows (path mid) (turns mid) e → IsUp (sorts old) e.values (shown e)
        → IsUp (sorts mid) e.values (r e)
    ups e f h = up_shown (sorts old) (sorts mid) e.values (b e) (x e) (r e) (is e f) asked.sorts_same h

    -- a question, and what comes next
    pub does_shown : (came : Evidence → Came A) → Does path turns decisions stands ended sorts mid new r came
        → Does path turns decisions stands ended sorts old new (λ e. showing (b e) (x e)) came
    does_shown came two = record {
      goes = goes_on old mid new asked two.goes;
      grows = subst (λ ts. IsFront ts (sorts new)) asked.sorts_same two.grows;
      ends = λ e f h.
          let g = two.goes.narrows e f in
          ap (λ o. o.end) (is e g (behind e (before e h))) ∙ two.ends e f (ups e g h);
      tells = λ e f h i v fe ff meet. told e f fe ff meet
          (tells e f h i v (before e fe) (before f ff) (Meet_front (b e) (x e).shows (b f) (x f).shows meet));
      took = λ e f u.
          let g = two.goes.narrows e f in
          took_shown (sorts old) (sorts mid) (sorts new) e.values (b e) (x e) (r e) (is e g (behind e u)) asked.sorts_same
          (two.took e f (behind e u));
      keeps = λ takes st reach. two.keeps takes (sorted takes st)
          (λ e f t. reaches_shown (takes e) (sorts old) (sorts mid) e.values (b e) (x e) (r e) (is e f) asked.sorts_same
          (reach e (asked.narrows e f) t));
    }
      where
        told : (e f : Evidence) → IsUp (sorts old) e.values (shown e) → IsUp (sorts old) f.values (shown f)
            → Meet (b e ++ (x e).shows) (b f ++ (x f).shows) → Together path turns decisions mid e f (b e ≡ b f)
            → Together path turns decisions new e f (b e ++ (x e).shows ≡ b f ++ (x f).shows)
        told e f fe ff meet (inr g) = inr (two.goes.gone e f g)
        told e f fe ff meet (inl (u, (z, (w, same)))) =
            let p = is e u (behind e (before e fe)) in
            let q = is f z (behind f (before f ff)) in
            elim (two.tells e f u z w (ups e u fe) (ups f z ff)
            (both_meet (x e).shows (x f).shows (r e).shows (r f).shows (ap (λ o. o.shows) p) (ap (λ o. o.shows) q)
            (Meet_rest (b e) (x e).shows (b f) (x f).shows same meet))) [
              | inl t ↦ inl (
                t.0,
                (
                  t.1.0,
                  (
                    t.1.1.0,
                    both_same (b e) (b f) (x e).shows (x f).shows same
                        (ap (λ o. o.shows) p ∙ t.1.1.1 ∙ sym (ap (λ o. o.shows) q)),
                  ),
                ),
              )
              | inr g ↦ inr g
            ]

    -- a question, and a refusal in what comes next
    pub halts_shown : Halts path turns decisions stands ended sorts mid new r
        → Halts path turns decisions stands ended sorts old new (λ e. showing (b e) (x e))
    halts_shown two = record {
      goes = goes_on old mid new asked two.goes;
      tells = λ e f h i v fe ff meet. told e f fe ff meet
          (tells e f h i v (before e fe) (before f ff) (Meet_front (b e) (x e).shows (b f) (x f).shows meet));
      most = λ e f h.
          let g = two.goes.narrows e f in
          let n = two.most e f (ups e g h) in
          let one : length (sorts mid) ≡ length (sorts old) = ap (λ ts. length ts) asked.sorts_same in
          let same : length (x e).types ≡ length (r e).types =
          ap (λ (o : Ran A). length o.types) (is e g (behind e (before e h))) in
          omega (arith, n, one, same);
      keeps = λ takes st reach. two.keeps takes (sorted takes st)
          (λ e f t. reaches_shown (takes e) (sorts old) (sorts mid) e.values (b e) (x e) (r e) (is e f) asked.sorts_same
          (reach e (asked.narrows e f) t));
    }
      where
        told : (e f : Evidence) → IsUp (sorts old) e.values (shown e) → IsUp (sorts old) f.values (shown f)
            → Meet (b e ++ (x e).shows) (b f ++ (x f).shows) → Together path turns decisions mid e f (b e ≡ b f)
            → Together path turns decisions new e f (Unit {0})
        told e f fe ff meet (inr g) = inr (two.goes.gone e f g)
        told e f fe ff meet (inl (u, (z, (w, same)))) =
            let p = is e u (behind e (before e fe)) in
            let q = is f z (behind f (before f ff)) in
            two.tells e f u z w (ups e u fe) (ups f z ff)
            (both_meet (x e).shows (x f).shows (r e).shows (r f).shows (ap (λ o. o.shows) p) (ap (λ o. o.shows) q)
            (Meet_rest (b e) (x e).shows (b f) (x f).shows same meet))

    -- where what comes next may begin
    pub ready_shown : Ready path turns decisions sorts old (λ e. showing (b e) (x e)) → Ready path turns decisions sorts mid r
    unfolding Ready
    ready_shown ready = ∥∥₁_map ready (λ t. (
      t.0,
      (
        sorted t.0 t.1.0,
        λ e f u. reaches_shown (t.0 e) (sorts old) (sorts mid) e.values (b e) (x e) (r e) (is e f) asked.sorts_same
            (t.1.1 e (asked.narrows e f) u),
      ),
    ))

  -- a question that was refused, before what comes next
  pub halts_asked : {A : Type 0} (old new : S) (b : Evidence → List Shown) (x : Evidence → Ran A)
      → Goes path turns decisions stands ended old new → StopsShown path turns decisions sorts old new b → sorts new ≡ sorts old
      → StaysSorted path turns decisions sorts old new → Halts path turns decisions stands ended sorts old new (λ e. showing
      (b e) (x e))
  halts_asked old new b x goes tells same sorted = record {
    goes = goes;
    tells = λ e f h i v fe ff meet. tells e f h i v (up_before (sorts old) e.values (showing (b e) (x e)) fe)
        (up_before (sorts old) f.values (showing (b f) (x f)) ff) (Meet_front (b e) (x e).shows (b f) (x f).shows meet);
    most = λ e f h. let one : length (sorts new) ≡ length (sorts old) = ap (λ ts. length ts) same in omega (arith, one);
    keeps = λ takes st reach. sorted takes st;
  }

  -- a part that may begin has sorts
  pub ready_sorted : {A : Type 0} (asker : S) (part : Evidence → Ran A) → Ready path turns decisions sorts asker part
      → IsSorted path turns decisions sorts asker
  unfolding Ready IsSorted
  ready_sorted asker part ready = ∥∥₁_map ready (λ t. (t.0, t.1.0))

  -- what the sorts of the symbols made tell may be asked
  pub sorted_asks : (asker : S) (l : Literal) → IsSorted path turns decisions sorts asker → HasSorts (sorts asker) l
      → MayAsk (path asker) l
  unfolding IsSorted MayAsk
  sorted_asks asker l sorted has met k n r = ∥∥₁_elim sorted (λ x y. absurd x)
      (λ t. sorted_may_ask t.0 (path asker) (turns asker) (decisions asker) (sorts asker) l t.1 has met k n r)

  pub sorted_stays : (old new : S) → StaysSorted path turns decisions sorts old new → IsSorted path turns decisions sorts old
      → IsSorted path turns decisions sorts new
  unfolding IsSorted
  sorted_stays old new stays sorted = ∥∥₁_map sorted (λ t. (t.0, stays t.0 t.1))
