-- What a name stands for, by the place of its number among distinct keys.
use Rattle.std.proofs.Common.{◌≡◌, ℕ, zero, suc, ◌+◌, ◌<◌, ◌≤◌, Bool, true, false, cond, not, List, [], ◌∷◌, ◌++◌, length, take, drop, Option, Some, None, is_some, refl, sym, ◌∙◌, ap, nat_eq, nat_le, nat_lt, position, arith}
use Rattle.std.proofs.lemmas.Bool.Decides.{nat_tests}
use Rattle.std.specs.List.{AllByRecursion, IsDistinct, position_or_len}
use Rattle.std.specs.Map.{keys_of, lookup}
use Rattle.indexmap.specs.IndexMap.{insert_entry}
use Rattle.pv_base.specs.declared.Name.{Name}
use Rattle.pv_ast.specs.declared.scope.Declared.{Declared}
use Rattle.pv_ast.specs.Rules.Scoping.{Visible, declared_as, is_visible, declare}

-- what stands under the name's number
pub declared_as-lookup : (es : List (ℕ × Declared)) (name : Name) → declared_as es name ≡ lookup (nat_eq name.0) es
declared_as-lookup [] name = refl
declared_as-lookup (e ∷ es) name = ap (λ o. cond (nat_eq name.0 e.0) (Some e.1) o) (declared_as-lookup es name)

rest_none : (t : Bool) (d : Declared) (o : Option Declared) → cond t (Some d) o ≡ None → o ≡ None
rest_none true d o h = absurd cc
rest_none false d o h = h

-- a name that stands for nothing stands for nothing among fewer names
pub declared_as-drop_none : (es : List (ℕ × Declared)) (name : Name) (n : ℕ) → declared_as es name ≡ None
    → declared_as (drop n es) name ≡ None
declared_as-drop_none [] name zero h = refl
declared_as-drop_none [] name (suc n) h = refl
declared_as-drop_none (e ∷ es) name zero h = h
declared_as-drop_none (e ∷ es) name (suc n) h =
    declared_as-drop_none es name n (rest_none (nat_eq name.0 e.0) e.1 (declared_as es name) h)

absent_step : (x k y : ℕ) (d : Declared) (o : Option Declared) → nat_eq x k ≡ true → nat_eq k y ≡ false → o ≡ None
    → cond (nat_eq x y) (Some d) o ≡ None
absent_step x k y d o p q r =
    let e : nat_eq x y ≡ false = grind (arith, nat_tests) in
    ap (λ b. cond b (Some d) o) e ∙ r

-- a name whose number is not among the keys
absent : (es : List (ℕ × Declared)) (name : Name) (k : ℕ) → nat_eq name.0 k ≡ true
    → AllByRecursion (λ y. nat_eq k y ≡ false) (keys_of es) → declared_as es name ≡ None
absent [] name k t h = refl
absent (e ∷ es) name k t h = absent_step name.0 k e.0 e.1 (declared_as es name) t h.0 (absent es name k t h.1)

place_step : (t : Bool) (n p : ℕ) (x rest : Option Declared) (d : Declared) → (t ≡ true → x ≡ None)
    → x ≡ cond (nat_le n p) rest None
    → x ≡ cond (nat_le (suc n) (cond (not t) (1 + p) 0)) (cond t (Some d) rest) None
place_step true n p x rest d gone e =
    let le : nat_le (suc n) 0 ≡ false = grind (arith, nat_tests) in
    gone refl ∙ ap (λ b. cond b (Some d) None) (sym le)
place_step false n p x rest d gone e =
    let le : nat_le n p ≡ nat_le (suc n) (1 + p) = grind (arith, nat_tests) in
    e ∙ ap (λ b. cond b rest None) le

none_or : (b : Bool) → let none : Option Declared = None in cond b none none ≡ none
none_or true = refl
none_or false = refl

-- behind the first n names, a name has its meaning if its place is there
inside : (es : List (ℕ × Declared)) (name : Name) (n : ℕ) → IsDistinct nat_eq (keys_of es)
    → declared_as (drop n es) name ≡ cond (nat_le n (position_or_len (nat_eq name.0) (keys_of es))) (declared_as es name) None
unfolding IsDistinct
inside [] name zero h = sym (none_or (nat_le zero 0))
inside [] name (suc n) h = sym (none_or (nat_le (suc n) 0))
inside (e ∷ es) name zero h =
    let le : nat_le 0 (position_or_len (nat_eq name.0) (keys_of (e ∷ es))) ≡ true = grind (arith, nat_tests) in
    sym (ap (λ b. cond b (declared_as (e ∷ es) name) None) le)
inside (e ∷ es) name (suc n) h =
    place_step (nat_eq name.0 e.0) n (position_or_len (nat_eq name.0) (keys_of es)) (declared_as (drop n es) name)
    (declared_as es name) e.1
    (λ t. declared_as-drop_none es name n (absent es name e.0 t h.0)) (inside es name n h.1)

place_is : (p len i : ℕ) → Some i ≡ cond (nat_lt p len) (Some p) None → p ≡ i
place_is p len i e =
    elim (nat_lt p len) as (λ b. Some i ≡ cond b (Some p) None → p ≡ i) [ true ↦ λ h. cc | false ↦ λ h. absurd cc ] e

-- a name whose place is behind the first n
pub declared_as-inner : (es : List (ℕ × Declared)) (name : Name) (n i : ℕ) → IsDistinct nat_eq (keys_of es)
    → Some i ≡ position (nat_eq name.0) (keys_of es) → n ≤ i
    → declared_as es name ≡ declared_as (drop n es) name
declared_as-inner es name n i h e le =
    let p = place_is (position_or_len (nat_eq name.0) (keys_of es)) (length (keys_of es)) i e in
    let t : nat_le n (position_or_len (nat_eq name.0) (keys_of es)) ≡ true = grind (arith, nat_tests) in
    sym (inside es name n h ∙ ap (λ b. cond b (declared_as es name) None) t)

-- and one whose place is among them
pub declared_as-outer : (es : List (ℕ × Declared)) (name : Name) (n i : ℕ) → IsDistinct nat_eq (keys_of es)
    → Some i ≡ position (nat_eq name.0) (keys_of es) → i < n
    → None ≡ declared_as (drop n es) name
declared_as-outer es name n i h e le =
    let p = place_is (position_or_len (nat_eq name.0) (keys_of es)) (length (keys_of es)) i e in
    let t : nat_le n (position_or_len (nat_eq name.0) (keys_of es)) ≡ false = grind (arith, nat_tests) in
    sym (inside es name n h ∙ ap (λ b. cond b (declared_as es name) None) t)

some_none : (o : Option Declared) → false ≡ is_some o → o ≡ None
some_none None h = refl
some_none (Some d) h = absurd cc

-- and one that has no place
pub declared_as-nowhere : (es : List (ℕ × Declared)) (name : Name) (n : ℕ) → false ≡ is_some (lookup (nat_eq name.0) es)
    → None ≡ declared_as (drop n es) name
declared_as-nowhere es name n h =
    sym (declared_as-drop_none es name n (declared_as-lookup es name ∙ some_none (lookup (nat_eq name.0) es) h))

before_step : (t : Bool) (n p : ℕ) (x rest : Option Declared) (d : Declared) → x ≡ cond (nat_lt p n) rest None
    → cond t (Some d) x ≡ cond (nat_lt (cond (not t) (1 + p) 0) (suc n)) (cond t (Some d) rest) None
before_step true n p x rest d e =
    let lt : nat_lt 0 (suc n) ≡ true = grind (arith, nat_tests) in
    sym (ap (λ b. cond b (Some d) None) lt)
before_step false n p x rest d e =
    let lt : nat_lt p n ≡ nat_lt (1 + p) (suc n) = grind (arith, nat_tests) in
    e ∙ ap (λ b. cond b rest None) lt

-- among the first n names, a name has its meaning if its place is there
before : (es : List (ℕ × Declared)) (name : Name) (n : ℕ)
    → declared_as (take n es) name ≡ cond (nat_lt (position_or_len (nat_eq name.0) (keys_of es)) n) (declared_as es name) None
before [] name zero = sym (none_or (nat_lt 0 zero))
before [] name (suc n) = sym (none_or (nat_lt 0 (suc n)))
before (e ∷ es) name zero =
    let lt : nat_lt (position_or_len (nat_eq name.0) (keys_of (e ∷ es))) 0 ≡ false = grind (arith, nat_tests) in
    sym (ap (λ b. cond b (declared_as (e ∷ es) name) None) lt)
before (e ∷ es) name (suc n) =
    before_step (nat_eq name.0 e.0) n (position_or_len (nat_eq name.0) (keys_of es)) (declared_as (take n es) name)
    (declared_as es name) e.1 (before es name n)

-- a name whose place is among the first n
pub declared_as-first : (es : List (ℕ × Declared)) (name : Name) (n i : ℕ)
    → Some i ≡ position (nat_eq name.0) (keys_of es) → i < n
    → declared_as es name ≡ declared_as (take n es) name
declared_as-first es name n i e le =
    let p = place_is (position_or_len (nat_eq name.0) (keys_of es)) (length (keys_of es)) i e in
    let t : nat_lt (position_or_len (nat_eq name.0) (keys_of es)) n ≡ true = grind (arith, nat_tests) in
    sym (before es name n ∙ ap (λ b. cond b (declared_as es name) None) t)

-- one whose place is behind them
pub declared_as-later : (es : List (ℕ × Declared)) (name : Name) (n i : ℕ)
    → Some i ≡ position (nat_eq name.0) (keys_of es) → n ≤ i
    → None ≡ declared_as (take n es) name
declared_as-later es name n i e le =
    let p = place_is (position_or_len (nat_eq name.0) (keys_of es)) (length (keys_of es)) i e in
    let t : nat_lt (position_or_len (nat_eq name.0) (keys_of es)) n ≡ false = grind (arith, nat_tests) in
    sym (before es name n ∙ ap (λ b. cond b (declared_as es name) None) t)

-- and one that has no place
pub declared_as-absent : (es : List (ℕ × Declared)) (name : Name) (n : ℕ) → false ≡ is_some (lookup (nat_eq name.0) es)
    → None ≡ declared_as (take n es) name
declared_as-absent es name n h =
    let none : declared_as es name ≡ None =
    declared_as-lookup es name ∙ some_none (lookup (nat_eq name.0) es) h in
    let b = nat_lt (position_or_len (nat_eq name.0) (keys_of es)) n in
    sym (before es name n ∙ (ap (λ o. cond b o None) none ∙ none_or b))

put_step : (t : Bool) (e new : ℕ × Declared) (o : Option Declared) (es more : List (ℕ × Declared))
    → false ≡ is_some (cond t (Some e.1) o) → (false ≡ is_some o → more ≡ es ++ new ∷ [])
    → cond t ((e.0, new.1) ∷ es) (e ∷ more) ≡ e ∷ (es ++ new ∷ [])
put_step true e new o es more h rest = absurd cc
put_step false e new o es more h rest = ap (λ l. e ∷ l) (rest h)

-- a new name goes last
put_last : (es : List (ℕ × Declared)) (name : Name) (d : Declared) → false ≡ is_some (declared_as es name)
    → insert_entry nat_eq es name.0 d ≡ es ++ (name.0, d) ∷ []
put_last [] name d h = refl
put_last (e ∷ es) name d h =
    put_step (nat_eq name.0 e.0) e (name.0, d) (declared_as es name) es (insert_entry nat_eq es name.0 d) h
    (λ r. put_last es name d r)

-- the names after a new one was put in
pub declare-new : (v : Visible) (entries : List (ℕ × Declared)) (name : Name) (d : Declared) → false ≡ is_visible v name
    → entries ≡ insert_entry nat_eq v.names name.0 d
    → record { names = entries; outside = v.outside } ≡ declare v name d
declare-new v entries name d h e =
    let put : record { names = entries; outside = v.outside } ≡ record v { names = v.names ++ (name.0, d) ∷ [] } =
    ap (λ es. record v { names = es }) (e ∙ put_last v.names name d h) in
    put ∙ ap (λ b. cond b v (record v { names = v.names ++ (name.0, d) ∷ [] })) h
