-- Entries of a store.
use Rattle.std.proofs.Common.{ℕ, ◌≤◌, ◌≡◌, pos, Bool, true, false, cond, nat_eq, Option, Some, None, [], ◌∷◌, refl, sym, ap, ◌∙◌, arith}
use Rattle.std.specs.Prelude.{max, unsigned_abs}
use Rattle.std.specs.Ordering.{nat_cmp, match_ordering}
use Rattle.std.specs.declared.cmp.Ordering.TheVariants.{Less, Equal, Greater}
use Rattle.std.proofs.lemmas.Bool.Decides.{nat_tests}
use Rattle.std.specs.Map.{lookup}
use Rattle.std.specs.BTreeMap.{is_at, insert_entry}
use Rattle.pv_linear.specs.declared.Term.{Term}
use Rattle.pv_linear.specs.Values.{Values, term_value}
use Rattle.small_meaning.specs.Running.{with_variable}
use Rattle.small_verdicts.specs.Symbolic.{Entries, variables_of, value_or_zero, size_of}

pub size_insert : (es : Entries) (k : ℕ) (t : Term)
    → size_of (insert_entry nat_cmp es k t) ≤ max (size_of es) (unsigned_abs t.plus)
size_insert [] k t = omega arith
size_insert (e ∷ es) k t =
    elim (nat_cmp k e.0) as (λ o. size_of (match_ordering o ((k, t) ∷ e ∷ es) ((e.0, t) ∷ es) (e ∷ insert_entry nat_cmp es k t)) ≤
    max (size_of (e ∷ es)) (unsigned_abs t.plus))
    [ Less ↦ omega arith | Equal ↦ omega arith | Greater ↦ omega (arith, size_insert es k t) ]

found_first : (b : Bool) (x t : Term) (o : Option Term) (n : ℕ) → cond b (Some x) o ≡ Some t
    → (o ≡ Some t → unsigned_abs t.plus ≤ n) → unsigned_abs t.plus ≤ max (unsigned_abs x.plus) n
found_first true x t o n h k = let e : x ≡ t = cc in omega (arith, ap (λ (u : Term). unsigned_abs u.plus) e)
found_first false x t o n h k = omega (arith, k h)

pub size_found : (es : Entries) (name : ℕ) (t : Term) → lookup (is_at (nat_cmp name)) es ≡ Some t
    → unsigned_abs t.plus ≤ size_of es
size_found [] name t h = cc
size_found (e ∷ es) name t h = found_first (is_at (nat_cmp name) e.0) e.1 t (lookup (is_at (nat_cmp name)) es) (size_of es) h
    (size_found es name t)

pub value_found : (v : Values) (es : Entries) (name : ℕ) (t : Term) → lookup (is_at (nat_cmp name)) es ≡ Some t → term_value v t
    ≡ variables_of v es name
unfolding variables_of
value_found v es name t h = sym (ap (value_or_zero v) h)

pub value_absent : (v : Values) (es : Entries) (name : ℕ) → lookup (is_at (nat_cmp name)) es ≡ None → pos 0
    ≡ variables_of v es name
unfolding variables_of
value_absent v es name h = sym (ap (value_or_zero v) h)

same_name : (name other : ℕ) → is_at (nat_cmp name) other ≡ nat_eq other name
same_name name other = grind (arith, nat_tests)

value_either : (v : Values) (b : Bool) (t : Term) (o : Option Term) → value_or_zero v (cond b (Some t) o)
    ≡ cond b (term_value v t) (value_or_zero v o)
value_either v true t o = refl
value_either v false t o = refl

pub put_value : (v : Values) (old new : Entries) (name : ℕ) (t : Term)
    → ((other : ℕ) → lookup (is_at (nat_cmp other)) new
    ≡ cond (is_at (nat_cmp name) other) (Some t) (lookup (is_at (nat_cmp other)) old))
    → variables_of v new ≡ with_variable (variables_of v old) name (term_value v t)
unfolding variables_of
put_value v old new name t h =
    let at : (other : ℕ) → variables_of v new other ≡ with_variable (variables_of v old) name (term_value v t) other =
    λ other. ap (value_or_zero v) (h other) ∙ (value_either v (is_at (nat_cmp name) other) t (lookup (is_at (nat_cmp other)) old)
    ∙ ap (λ b. cond b (term_value v t) (variables_of v old other)) (same_name name other)) in
    λ i other. at other i

pub empty_value : (v : Values) (es : Entries) → es ≡ [] → variables_of v es ≡ (λ name. pos 0)
unfolding variables_of
empty_value v es h = ap (variables_of v) h
