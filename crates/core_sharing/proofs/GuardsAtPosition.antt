-- At one position guards let pass what their condition does, in runs of any kind: under a relation that reading keeps, what is
-- done where an expression is true is related to what is done behind the guards that it becomes.
use Rattle.std.proofs.Common.{◌≡◌, ℤ, Bool, true, false, List, [], ◌∷◌, ◌++◌, refl, sym, ◌∙◌, ap, subst}
use Rattle.std.proofs.Math.Path.{fun_ext}
use Rattle.std.specs.Prelude.{if◌then◌else◌}
use Rattle.std.specs.List.{AllByRecursion}
use Rattle.pv_base.specs.declared.Name.{Name}
use Rattle.pv_values.specs.declared.value.Value.{Value}
use Rattle.pv_values.specs.declared.value.Value.TheVariants as value
use Rattle.pv_picks.specs.Plain.Core.{Expression, Comparison, Cut}
use Rattle.pv_picks.specs.Plain.Core as core
use Rattle.pv_picks.specs.Formulas.Values.{number_in, truth_in, comparison, is_empty}
use Rattle.pv_picks.specs.Formulas.Meeting.{passes, guard_term}
use Rattle.pv_picks.specs.Judge.Repetitions.{Range, cut_by}
use Rattle.pv_picks.specs.Judge.Steady.{IsTerm}
use Rattle.pv_picks.specs.Elaborating.Operations.{cuts_of, cut_before, cut_behind, is_position}
use Rattle.core_trees.specs.Positions.{IsTermCut}
use Rattle.core_sharing.proofs.Shifting.{place_is}
use Rattle.core_sharing.proofs.OnePosition.{IsOne, cut_one, cut_none}

terms_first : (name : Name) (cs ds : List Cut) → AllByRecursion (IsTermCut name) (cs ++ ds) → AllByRecursion (IsTermCut name) cs
terms_first name [] ds h = tt
terms_first name (c ∷ cs) ds h = (h.0, terms_first name cs ds h.1)

terms_second : (name : Name) (cs ds : List Cut) → AllByRecursion (IsTermCut name) (cs ++ ds) → AllByRecursion (IsTermCut name) ds
terms_second name [] ds h = h
terms_second name (c ∷ cs) ds h = terms_second name cs ds h.1

-- Guards before and behind the position

before_term : (c : Comparison) (y : Expression) → guard_term (cut_before c y) ≡ y
before_term core.Less y = refl
before_term core.AtMost y = refl
before_term core.Greater y = refl
before_term core.AtLeast y = refl

behind_term : (c : Comparison) (x : Expression) → guard_term (cut_behind c x) ≡ x
behind_term core.Less x = refl
behind_term core.AtMost x = refl
behind_term core.Greater x = refl
behind_term core.AtLeast x = refl

before_passes : (i : ℤ) (c : Comparison) (y : Expression) (v : Value) → passes (cut_before c y) i v
    ≡ comparison c i (number_in v)
before_passes i core.Less y v = refl
before_passes i core.AtMost y v = refl
before_passes i core.Greater y v = refl
before_passes i core.AtLeast y v = refl

behind_passes : (i : ℤ) (c : Comparison) (x : Expression) (v : Value) → passes (cut_behind c x) i v
    ≡ comparison c (number_in v) i
behind_passes i core.Less x v = refl
behind_passes i core.AtMost x v = refl
behind_passes i core.Greater x v = refl
behind_passes i core.AtLeast x v = refl

cut_is_term : (name : Name) (c : Cut) → IsTermCut name c → IsTerm name (guard_term c)
cut_is_term name (core.Below e) h = h
cut_is_term name (core.UpTo e) h = h
cut_is_term name (core.Above e) h = h
cut_is_term name (core.From e) h = h
cut_is_term name (core.Provided e) h = h

-- runs: how an expression is read at the position, and without it in the one run and in the other; what is done unless a range is
-- empty; and what a guard marks
module _ {Run : Type 0} (Rel : Run → Run → Type 0) (name : Name) (i : ℤ) (here aside apart : Expression → (Value → Run) → Run)
    (unless : Range → Run → Run → Run) (noticed : Cut → Value → Range → Run → Run) where
  -- what is behind guards
  unfoldable pub cut_to : List Cut → Range → Run → (Range → Run) → Run
  cut_to [] r out next = next r
  cut_to (c ∷ cs) r out next = unless r out (apart (guard_term c) (λ v. noticed c v r (cut_to cs (cut_by c v r) out next)))

  -- the laws of such runs
  pub record Reads : Type 0 where
    pub position : (k : Value → Run) → here (core.Variable name) k ≡ k (value.Number i)
    pub conjunction : (x y : Expression) (k : Value → Run) → here (core.And x y) k
        ≡ here x (λ u. if truth_in u then here y k else k (value.Truth false))
    pub compared : (c : Comparison) (x y : Expression) (k : Value → Run) → here (core.Compare c x y) k
        ≡ here x (λ u. here y (λ v. k (value.Truth (comparison c (number_in u) (number_in v)))))
    pub outside : (e : Expression) (k : Value → Run) → IsTerm name e → here e k ≡ aside e k
    pub reads : (e : Expression) (k l : Value → Run) → ((v : Value) → Rel (k v) (l v)) → Rel (aside e k) (apart e l)
    pub full : (r : Range) (x y : Run) → IsOne r i → unless r x y ≡ y
    pub nothing_left : (r : Range) (x y : Run) → is_empty r.low r.high ≡ true → unless r x y ≡ x
    pub unnoticed : (c : Cut) (v : Value) (r : Range) (x : Run) → noticed c v r x ≡ x

  module _ (laws : Reads) where
    cuts_append : (cs ds : List Cut) (r : Range) (out : Run) (next : Range → Run)
        → cut_to (cs ++ ds) r out next ≡ cut_to cs r out (λ q. cut_to ds q out next)
    unfolding cut_to
    cuts_append [] ds r out next = refl
    cuts_append (c ∷ cs) ds r out next =
        ap (λ (g : Value → Run). unless r out (apart (guard_term c) (λ v. noticed c v r (g v))))
        (fun_ext (λ v. cuts_append cs ds (cut_by c v r) out next))

    -- behind an empty range there is nothing
    cuts_empty : (cs : List Cut) (r : Range) (x out : Run) (next : Range → Run) → is_empty r.low r.high ≡ true
        → Rel x out → Rel x (next r) → Rel x (cut_to cs r out next)
    unfolding cut_to
    cuts_empty [] r x out next is h k = k
    cuts_empty (c ∷ cs) r x out next is h k = subst (λ (z : Run). Rel x z) (sym (laws.nothing_left r out _ is)) h

    -- what guards lead to where their condition has a value
    record Guides (k : Value → Run) (out : Run) (next : Range → Run) : Type 0 where
      passing : (v : Value) → truth_in v ≡ true → (r : Range) → IsOne r i → Rel (k v) (next r)
      stopping : (v : Value) → truth_in v ≡ false → (r : Range) → is_empty r.low r.high ≡ true → Rel (k v) (next r)
      missing : (v : Value) → truth_in v ≡ false → Rel (k v) out

    -- one guard
    cut_related : (c : Cut) (r : Range) (k : Value → Run) (out : Run) (next : Range → Run) → IsOne r i
        → ((v : Value) → passes c i v ≡ true → (q : Range) → IsOne q i → Rel (k v) (next q))
        → ((v : Value) → passes c i v ≡ false → (q : Range) → is_empty q.low q.high ≡ true → Rel (k v) (next q))
        → Rel (aside (guard_term c) k) (cut_to (c ∷ []) r out next)
    unfolding cut_to
    cut_related c r k out next one passing stopping =
        subst (λ (z : Run). Rel (aside (guard_term c) k) z) (sym (laws.full r out _ one))
        (laws.reads (guard_term c) k (λ v. noticed c v r (next (cut_by c v r))) (λ v.
        subst (λ (z : Run). Rel (k v) z) (sym (laws.unnoticed c v r (next (cut_by c v r)))) (by v (passes c i v) refl)))
      where
        by : (v : Value) (b : Bool) → passes c i v ≡ b → Rel (k v) (next (cut_by c v r))
        by v true is = passing v is (cut_by c v r) (cut_one c v r i one is)
        by v false is = stopping v is (cut_by c v r) (cut_none c v r i one is)

    provided_related : (x : Expression) (r : Range) (k : Value → Run) (out : Run) (next : Range → Run) → IsOne r i → IsTerm name x
        → Guides k out next → Rel (here x k) (cut_to (core.Provided x ∷ []) r out next)
    provided_related x r k out next one term guides =
        subst (λ (z : Run). Rel z (cut_to (core.Provided x ∷ []) r out next)) (sym (laws.outside x k term))
        (cut_related (core.Provided x) r k out next one guides.passing guides.stopping)

    -- a comparison of the position, by the truth that the other side gives
    side_related : (c : Cut) (e y : Expression) (order : Value → Bool) (r : Range) (k : Value → Run) (out : Run)
        (next : Range → Run) → IsOne r i → IsTermCut name c → guard_term c ≡ y → ((v : Value) → passes c i v ≡ order v)
        → here e k ≡ here y (λ v. k (value.Truth (order v))) → Guides k out next → Rel (here e k) (cut_to (c ∷ []) r out next)
    side_related c e y order r k out next one term is same read guides =
        subst (λ (z : Run). Rel z (cut_to (c ∷ []) r out next))
        (sym (read ∙ laws.outside y _ (subst (IsTerm name) is (cut_is_term name c term))
        ∙ ap (λ (x : Expression). aside x (λ v. k (value.Truth (order v)))) (sym is)))
        (cut_related c r (λ v. k (value.Truth (order v))) out next one
        (λ v passes_it. guides.passing (value.Truth (order v)) (sym (same v) ∙ passes_it))
        (λ v stops. guides.stopping (value.Truth (order v)) (sym (same v) ∙ stops)))

    compare_related : (a b : Bool) (c : Comparison) (x y : Expression) (r : Range) (k : Value → Run) (out : Run)
        (next : Range → Run) → is_position name x ≡ a → is_position name y ≡ b → IsOne r i
        → AllByRecursion (IsTermCut name)
        ((if a then cut_before c y else (if b then cut_behind c x else core.Provided (core.Compare c x y))) ∷ [])
        → Guides k out next → Rel (here (core.Compare c x y) k)
        (cut_to ((if a then cut_before c y else (if b then cut_behind c x else core.Provided (core.Compare c x y))) ∷ [])
        r out next)
    compare_related true b c x y r k out next is_x is_y one terms guides =
        side_related (cut_before c y) (core.Compare c x y) y (λ v. comparison c i (number_in v)) r k out next one terms.0
        (before_term c y) (before_passes i c y)
        (laws.compared c x y k
        ∙ ap (λ (e : Expression). here e (λ u. here y (λ v. k (value.Truth (comparison c (number_in u) (number_in v))))))
        (place_is name x is_x) ∙ laws.position _) guides
    compare_related false true c x y r k out next is_x is_y one terms guides =
        side_related (cut_behind c x) (core.Compare c x y) x (λ v. comparison c (number_in v) i) r k out next one terms.0
        (behind_term c x) (behind_passes i c x)
        (laws.compared c x y k ∙ ap (here x) (fun_ext (λ u.
        ap (λ (e : Expression). here e (λ v. k (value.Truth (comparison c (number_in u) (number_in v))))) (place_is name y is_y)
        ∙ laws.position _))) guides
    compare_related false false c x y r k out next is_x is_y one terms guides =
        provided_related (core.Compare c x y) r k out next one terms.0 guides

    guards_related : (x : Expression) (r : Range) (k : Value → Run) (out : Run) (next : Range → Run) → IsOne r i
        → AllByRecursion (IsTermCut name) (cuts_of name x) → Guides k out next
        → Rel (here x k) (cut_to (cuts_of name x) r out next)
    guards_related (core.And x y) r k out next one terms guides =
        let both : Value → Run = λ u. if truth_in u then here y k else k (value.Truth false) in
        subst (λ (z : Run). Rel z (cut_to (cuts_of name x ++ cuts_of name y) r out next)) (sym (laws.conjunction x y k))
        (subst (λ (z : Run). Rel (here x both) z) (sym (cuts_append (cuts_of name x) (cuts_of name y) r out next))
        (guards_related x r both out (λ q. cut_to (cuts_of name y) q out next) one
        (terms_first name (cuts_of name x) (cuts_of name y) terms) (record {
          passing = λ v is q one. subst (λ b. Rel (if b then here y k else k (value.Truth false))
              (cut_to (cuts_of name y) q out next)) (sym is)
              (guards_related y q k out next one (terms_second name (cuts_of name x) (cuts_of name y) terms) guides);
          stopping = λ v is q empty. subst (λ b. Rel (if b then here y k else k (value.Truth false))
              (cut_to (cuts_of name y) q out next)) (sym is)
              (cuts_empty (cuts_of name y) q (k (value.Truth false)) out next empty (guides.missing (value.Truth false) refl)
              (guides.stopping (value.Truth false) refl q empty));
          missing = λ v is. subst (λ b. Rel (if b then here y k else k (value.Truth false)) out) (sym is)
              (guides.missing (value.Truth false) refl);
        })))
    guards_related (core.Compare c x y) r k out next one terms guides =
        compare_related (is_position name x) (is_position name y) c x y r k out next refl refl one terms guides
    guards_related x r k out next one terms guides = provided_related x r k out next one terms.0 guides

    -- what is done where the expression is true, and else, is related to what is done behind its guards, and behind none
    pub condition_related : (x : Expression) (r : Range) (first second : Run) (k : Value → Run) (out : Run) (next : Range → Run)
        → ((v : Value) → k v ≡ (if truth_in v then first else second)) → IsOne r i
        → AllByRecursion (IsTermCut name) (cuts_of name x)
        → ((q : Range) → IsOne q i → Rel first (next q)) → ((q : Range) → is_empty q.low q.high ≡ true → Rel second (next q))
        → Rel second out → Rel (here x k) (cut_to (cuts_of name x) r out next)
    condition_related x r first second k out next choice one terms passing stopping missing =
        guards_related x r k out next one terms (record {
          passing = λ v is q alone. subst (λ (z : Run). Rel z (next q)) (sym (chosen v true is)) (passing q alone);
          stopping = λ v is q empty. subst (λ (z : Run). Rel z (next q)) (sym (chosen v false is)) (stopping q empty);
          missing = λ v is. subst (λ (z : Run). Rel z out) (sym (chosen v false is)) missing;
        })
      where
        chosen : (v : Value) (b : Bool) → truth_in v ≡ b → k v ≡ (if b then first else second)
        chosen v b is = choice v ∙ ap (λ c. if c then first else second) is
