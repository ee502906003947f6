-- How one part of a run follows another: what calls say of two parts, one behind the other, they say of both.
use Rattle.std.proofs.Common.{◌≡◌, ℕ, ◌+◌, ◌≤◌, List, [], ◌++◌, length, length-append, sym, ap, subst, ◌∙◌, inl, inr, arith}
use Rattle.std.specs.Prelude.{map}
use Rattle.std.proofs.Math.Logic.{∥∥₁_map}
use Rattle.std.proofs.lemmas.List.{append-nil, length-map}
use Rattle.pv_ast.specs.declared.PvType.{PvType}
use Rattle.pv_linear.specs.declared.Sort.{Sort}
use Rattle.pv_linear.specs.declared.Literal.{Literal}
use Rattle.pv_linear.specs.Values.{Values}
use Rattle.pv_linear.specs.Evidence.{Evidence, Follows}
use Rattle.pv_linear.specs.Decisions.{Decision}
use Rattle.pv_linear.specs.Asking.{Goes, Meet, Together}
use Rattle.pv_linear.specs.Keeping.{AreUp}
use Rattle.pv_linear.proofs.Pairs.{Meet_front, Meet_rest}
use Rattle.pv_picks.specs.Judge.States.{State}
use Rattle.pv_picks.specs.Lazy.Runs.{LazyEnd, Memory, Drawn, at_end}
use Rattle.pv_picks.specs.Lazy.Parts.{Came, Stopped, Ran, Part, after, chain}
use Rattle.pv_picks.specs.Lazy.Parts as parts
use Rattle.pv_state.specs.Parts.{sort_of, sorts_in, IsUp, Took, Does, Halts, Ready}
use Rattle.pv_state.proofs.Fronts.{both_same, both_meet, front_all, front_then, up_first, up_second, up_before, reaches_first, reaches_second, took_both}

-- no more is made than the part takes
most_first : (n o : ℕ) (xs ys : List PvType) → n ≤ o + length xs → n ≤ o + length (xs ++ ys)
most_first n o xs ys h = rw (length-append xs ys) (omega (arith, h))

most_both : {A B : Type 0} (before mid last : List Sort) (v : Values) (y : Ran A) (k : A → Part B) (r : Ran B) → IsUp before v y
    → after Stopped y.end k ≡ r → Took before mid v y → length last ≤ length mid + length r.types
    → length last ≤ length before + length (chain y k).types
unfolding Took IsUp
most_both before mid last v y k r up p (inl (f, made)) h =
    let one : length mid ≡ length before + length y.types =
    ap (λ ts. length ts) made ∙ length-append before (sorts_in y) ∙ ap (λ n. length before + n) (length-map y.types sort_of) in
    let two : length (chain y k).types ≡ length y.types + length r.types =
    length-append y.types (after Stopped y.end k).types ∙ ap (λ (o : Ran _). length y.types + length o.types) p in
    omega (arith, one, two, h)
most_both before mid last v y k r up p (inr u) h = absurd (u.1.1 up)

took_none : {A : Type 0} (before : List Sort) (v : Values) (o : Ran A) → o.types ≡ [] → AreUp before v → Took before before v o
unfolding Took
took_none before v o none up =
    let same : before ++ sorts_in o ≡ before = ap (λ ts. before ++ map sort_of ts) none ∙ append-nil before in
    inl (subst (λ ts. AreUp ts v) (sym same) up, sym same)

module _ {S : Type 0} (path : S → List Literal) (turns : S → List ℕ) (decisions : S → List Decision)
    (stands : S → Evidence → Type 0) (ended : S → ℕ) (sorts : S → List Sort) where
  goes_then : (old mid new : S) → Goes path turns decisions stands ended old mid → Goes path turns decisions stands ended mid new
      → Goes path turns decisions stands ended old new
  goes_then old mid new a b = record {
    narrows = λ e f. a.narrows e (b.narrows e f);
    keeps = λ e s. b.keeps e (a.keeps e s);
    adds = λ e s. a.adds e (b.adds e s);
    gone = λ e f g. b.gone e f (a.gone e f g);
    ended_same = b.ended_same ∙ a.ended_same;
  }

  module _ {A B : Type 0} (old mid new : S) (y : Evidence → Ran A) (k : Evidence → A → Part B) (a : Evidence → A)
      (s : Evidence → State) (m : Evidence → Memory) (d : Evidence → Drawn) where
    -- the second part, where the first one came to this
    abbrev second : Evidence → Ran B
    second e = k e (a e) (s e) (m e) (d e)

    abbrev both : Evidence → Ran B
    both e = chain (y e) (k e)

    comes : Does path turns decisions stands ended sorts old mid y (λ e. parts.Goes (a e) (s e) (m e) (d e)) → (e : Evidence)
        → Follows (path mid) (turns mid) e → IsUp (sorts old) e.values (y e) → after Stopped (y e).end (k e) ≡ second e
    comes one e f h = ap (λ c. after Stopped c (k e)) (one.ends e f h)

    ups : Does path turns decisions stands ended sorts old mid y (λ e. parts.Goes (a e) (s e) (m e) (d e)) → (e : Evidence)
        → Follows (path mid) (turns mid) e → IsUp (sorts old) e.values (both e) → IsUp (sorts mid) e.values (second e)
    ups one e f h = up_second (sorts old) (sorts mid) e.values (y e) (k e) (second e)
        (one.took e f (up_before (sorts old) e.values (y e) (up_first (sorts old) e.values (y e) (k e) h))) (comes one e f) h

    pub does_then : (came : Evidence → Came B)
        → Does path turns decisions stands ended sorts old mid y (λ e. parts.Goes (a e) (s e) (m e) (d e))
        → Does path turns decisions stands ended sorts mid new (λ e. k e (a e) (s e) (m e) (d e)) came
        → Does path turns decisions stands ended sorts old new (λ e. chain (y e) (k e)) came
    does_then came one two = record {
      goes = goes_then old mid new one.goes two.goes;
      grows = front_then (sorts old) (sorts mid) (sorts new) one.grows two.grows;
      ends = λ e f h.
          let g = two.goes.narrows e f in
          ap (λ r. r.end) (comes one e g (up_first (sorts old) e.values (y e) (k e) h)) ∙ two.ends e f (ups one e g h);
      tells = λ e f h i v fe ff meet. told e f fe ff meet (one.tells e f h i v (up_first (sorts old) e.values (y e) (k e) fe)
          (up_first (sorts old) f.values (y f) (k f) ff)
          (Meet_front (y e).shows (after Stopped (y e).end (k e)).shows (y f).shows (after Stopped (y f).end (k f)).shows meet));
      took = λ e f u.
          let g = two.goes.narrows e f in
          took_both (sorts old) (sorts mid) (sorts new) e.values (y e) (k e) (one.took e g u)
          (λ h w. subst (λ r. Took (sorts mid) (sorts new) e.values r) (sym (comes one e g h)) (two.took e f w)) two.grows;
      keeps = λ takes st reach. two.keeps takes
          (one.keeps takes st (λ e f t. reaches_first (takes e) (sorts old) e.values (y e) (k e) (reach e f t)))
          (λ e f t. reaches_second (takes e) (sorts old) (sorts mid) e.values (y e) (k e) (second e) (one.took e f) one.grows
          (comes one e f) (reach e (one.goes.narrows e f) t));
    }
      where
        told : (e f : Evidence) → IsUp (sorts old) e.values (both e) → IsUp (sorts old) f.values (both f)
            → Meet (both e).shows (both f).shows
            → Together path turns decisions mid e f ((y e).shows ≡ (y f).shows)
            → Together path turns decisions new e f ((both e).shows ≡ (both f).shows)
        told e f fe ff meet (inr g) = inr (two.goes.gone e f g)
        told e f fe ff meet (inl (x, (z, (w, same)))) =
            let p = comes one e x (up_first (sorts old) e.values (y e) (k e) fe) in
            let q = comes one f z (up_first (sorts old) f.values (y f) (k f) ff) in
            elim (two.tells e f x z w (ups one e x fe) (ups one f z ff)
            (both_meet (after Stopped (y e).end (k e)).shows (after Stopped (y f).end (k f)).shows (second e).shows (second
            f).shows
            (ap (λ r. r.shows) p) (ap (λ r. r.shows) q)
            (Meet_rest (y e).shows (after Stopped (y e).end (k e)).shows (y f).shows (after Stopped (y f).end (k f)).shows
            same meet))) [
              | inl t ↦ inl (
                t.0,
                (
                  t.1.0,
                  (
                    t.1.1.0,
                    both_same (y e).shows (y f).shows (after Stopped (y e).end (k e)).shows
                        (after Stopped (y f).end (k f)).shows same
                        (ap (λ r. r.shows) p ∙ t.1.1.1 ∙ sym (ap (λ r. r.shows) q)),
                  ),
                ),
              )
              | inr g ↦ inr g
            ]

    -- the first one went, the second was refused
    pub halts_then : Does path turns decisions stands ended sorts old mid y (λ e. parts.Goes (a e) (s e) (m e) (d e))
        → Halts path turns decisions stands ended sorts mid new (λ e. k e (a e) (s e) (m e) (d e))
        → Halts path turns decisions stands ended sorts old new (λ e. chain (y e) (k e))
    halts_then one two = record {
      goes = goes_then old mid new one.goes two.goes;
      tells = λ e f h i v fe ff meet. told e f fe ff meet (one.tells e f h i v (up_first (sorts old) e.values (y e) (k e) fe)
          (up_first (sorts old) f.values (y f) (k f) ff)
          (Meet_front (y e).shows (after Stopped (y e).end (k e)).shows (y f).shows (after Stopped (y f).end (k f)).shows meet));
      most = λ e f h.
          let g = two.goes.narrows e f in
          let up = up_first (sorts old) e.values (y e) (k e) h in
          most_both (sorts old) (sorts mid) (sorts new) e.values (y e) (k e) (second e) up (comes one e g up)
          (one.took e g (up_before (sorts old) e.values (y e) up)) (two.most e f (ups one e g h));
      keeps = λ takes st reach. two.keeps takes
          (one.keeps takes st (λ e f t. reaches_first (takes e) (sorts old) e.values (y e) (k e) (reach e f t)))
          (λ e f t. reaches_second (takes e) (sorts old) (sorts mid) e.values (y e) (k e) (second e) (one.took e f) one.grows
          (comes one e f) (reach e (one.goes.narrows e f) t));
    }
      where
        told : (e f : Evidence) → IsUp (sorts old) e.values (both e) → IsUp (sorts old) f.values (both f)
            → Meet (both e).shows (both f).shows
            → Together path turns decisions mid e f ((y e).shows ≡ (y f).shows)
            → Together path turns decisions new e f (Unit {0})
        told e f fe ff meet (inr g) = inr (two.goes.gone e f g)
        told e f fe ff meet (inl (x, (z, (w, same)))) =
            let p = comes one e x (up_first (sorts old) e.values (y e) (k e) fe) in
            let q = comes one f z (up_first (sorts old) f.values (y f) (k f) ff) in
            two.tells e f x z w (ups one e x fe) (ups one f z ff)
            (both_meet (after Stopped (y e).end (k e)).shows (after Stopped (y f).end (k f)).shows (second e).shows (second
            f).shows
            (ap (λ r. r.shows) p) (ap (λ r. r.shows) q)
            (Meet_rest (y e).shows (after Stopped (y e).end (k e)).shows (y f).shows (after Stopped (y f).end (k f)).shows
            same meet))

    -- where the second may begin
    pub ready_then : Ready path turns decisions sorts old (λ e. chain (y e) (k e))
        → Does path turns decisions stands ended sorts old mid y (λ e. parts.Goes (a e) (s e) (m e) (d e))
        → Ready path turns decisions sorts mid (λ e. k e (a e) (s e) (m e) (d e))
    unfolding Ready
    ready_then ready one = ∥∥₁_map ready (λ t. (
      t.0,
      (
        one.keeps t.0 t.1.0 (λ e f u. reaches_first (t.0 e) (sorts old) e.values (y e) (k e) (t.1.1 e f u)),
        λ e f u. reaches_second (t.0 e) (sorts old) (sorts mid) e.values (y e) (k e) (second e) (one.took e f) one.grows
            (comes one e f) (t.1.1 e (one.goes.narrows e f) u),
      ),
    ))

  module _ {A B : Type 0} (old new : S) (y : Evidence → Ran A) (k : Evidence → A → Part B) where
    -- the first one was refused
    pub halts_first : Halts path turns decisions stands ended sorts old new y
        → Halts path turns decisions stands ended sorts old new (λ e. chain (y e) (k e))
    halts_first one = record {
      goes = one.goes;
      tells = λ e f h i v fe ff meet. one.tells e f h i v (up_first (sorts old) e.values (y e) (k e) fe)
          (up_first (sorts old) f.values (y f) (k f) ff)
          (Meet_front (y e).shows (after Stopped (y e).end (k e)).shows (y f).shows (after Stopped (y f).end (k f)).shows meet);
      most = λ e f h. most_first (length (sorts new)) (length (sorts old)) (y e).types (after Stopped (y e).end (k e)).types
          (one.most e f (up_first (sorts old) e.values (y e) (k e) h));
      keeps = λ takes st reach. one.keeps takes st
          (λ e f t. reaches_first (takes e) (sorts old) e.values (y e) (k e) (reach e f t));
    }

    pub ready_first : Ready path turns decisions sorts old (λ e. chain (y e) (k e)) → Ready path turns decisions sorts old y
    unfolding Ready
    ready_first ready = ∥∥₁_map ready (λ t. (
      t.0,
      (
        t.1.0,
        λ e f u. reaches_first (t.0 e) (sorts old) e.values (y e) (k e) (t.1.1 e f u),
      ),
    ))

    -- the first one ended the run
    pub does_end : (x : Evidence → LazyEnd) (m : Evidence → Memory)
        → Does path turns decisions stands ended sorts old new y (λ e. Stopped (x e) (m e))
        → Does path turns decisions stands ended sorts old new (λ e. chain (y e) (k e)) (λ e. Stopped (x e) (m e))
    does_end x m one = record {
      goes = one.goes;
      grows = one.grows;
      ends = λ e f h. ap (λ r. r.end) (stops e f (up_first (sorts old) e.values (y e) (k e) h));
      tells = λ e f h i v fe ff meet. told e f fe ff (one.tells e f h i v (up_first (sorts old) e.values (y e) (k e) fe)
          (up_first (sorts old) f.values (y f) (k f) ff)
          (Meet_front (y e).shows (after Stopped (y e).end (k e)).shows (y f).shows (after Stopped (y f).end (k f)).shows meet));
      took = λ e f u. took_both (sorts old) (sorts new) (sorts new) e.values (y e) (k e) (one.took e f u)
          (λ h w. took_none (sorts new) e.values (after Stopped (y e).end (k e)) (ap (λ r. r.types) (stops e f h)) w)
          (front_all (sorts new));
      keeps = λ takes st reach. one.keeps takes st
          (λ e f t. reaches_first (takes e) (sorts old) e.values (y e) (k e) (reach e f t));
    }
      where
        stops : (e : Evidence) → Follows (path new) (turns new) e → IsUp (sorts old) e.values (y e)
            → after Stopped (y e).end (k e) ≡ at_end (Stopped (x e) (m e))
        stops e f h = ap (λ c. after Stopped c (k e)) (one.ends e f h)

        told : (e f : Evidence) → IsUp (sorts old) e.values (chain (y e) (k e)) → IsUp (sorts old) f.values (chain (y f) (k f))
            → Together path turns decisions new e f ((y e).shows ≡ (y f).shows)
            → Together path turns decisions new e f ((chain (y e) (k e)).shows ≡ (chain (y f) (k f)).shows)
        told e f fe ff (inr g) = inr g
        told e f fe ff (inl (u, (z, (w, same)))) =
            let p = ap (λ r. r.shows) (stops e u (up_first (sorts old) e.values (y e) (k e) fe)) in
            let q = ap (λ r. r.shows) (stops f z (up_first (sorts old) f.values (y f) (k f) ff)) in
            inl (
              u,
              (
                z,
                (
                  w,
                  both_same (y e).shows (y f).shows (after Stopped (y e).end (k e)).shows
                      (after Stopped (y f).end (k f)).shows same (p ∙ sym q),
                ),
              ),
            )
