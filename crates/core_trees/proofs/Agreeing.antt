-- Two scopes that agree: that of a statement in a counted loop's body, and that at the head of the body, which has not the locals
-- of the body. A name that is no such local means the same in both.
use Rattle.std.proofs.Common.{◌≡◌, ℕ, zero, suc, ◌+◌, ◌≤◌, Bool, true, false, ◌||◌, Option, Some, None, is_some, List, [], ◌∷◌, ◌++◌, length, drop, refl, sym, ◌∙◌, ap, subst, arith}
use Rattle.std.proofs.lemmas.Bool.{or_from}
use Rattle.std.proofs.lemmas.List.{drop-append-le, length-append}
use Rattle.std.proofs.Math.Seq.{drop-append_seam}
use Rattle.std.specs.Prelude.{nat_eq, if◌then◌else◌}
use Rattle.pv_base.specs.declared.Name.{Name}
use Rattle.pv_ast.specs.declared.PvType.{PvType}
use Rattle.pv_ast.specs.declared.scope.Declaration.{Declaration}
use Rattle.pv_ast.specs.declared.scope.Declaration.TheVariants.{Local}
use Rattle.pv_ast.specs.declared.scope.Declared.{Declared}
use Rattle.pv_ast.specs.Rules.Scoping.{Visible, declared_as, declare, declare_variable, is_visible, is_inner_local, is_local, is_local_variable, entered}

-- a scope and that at the head of the body in which it stands
pub record Agree (v head : Visible) : Type 0 where
  pub same : (n : Name) → is_inner_local v n ≡ false → declared_as v.names n ≡ declared_as head.names n
  pub fewer : (n : Name) → is_visible v n ≡ false → is_visible head n ≡ false
  pub without : (n : Name) → is_inner_local head n ≡ false
  pub within : v.outside ≤ length v.names
  pub within_head : head.outside ≤ length head.names

-- Look-ups with one more name

abbrev pub or_else : Option Declared → Option Declared → Option Declared
or_else None y = y
or_else (Some x) y = Some x

else_if : (b : Bool) (d : Declared) (x y z : Option Declared) → z ≡ or_else x y → (if b then Some d else z)
    ≡ or_else (if b then Some d else x) y
else_if true d x y z h = refl
else_if false d x y z h = h

pub declared_more : (names : List (ℕ × Declared)) (e : ℕ × Declared) (n : Name) → declared_as (names ++ e ∷ []) n
    ≡ or_else (declared_as names n) (declared_as (e ∷ []) n)
declared_more [] e n = refl
declared_more (x ∷ xs) e n =
    else_if (nat_eq n.0 x.0) x.1 (declared_as xs n) (declared_as (e ∷ []) n) (declared_as (xs ++ e ∷ []) n) (declared_more xs e n)

some_else : (x y : Option Declared) → is_some (or_else x y) ≡ (is_some x || is_some y)
some_else None y = refl
some_else (Some x) y = refl

or_none : (a b : Bool) → (a || b) ≡ false → (a ≡ false) × (b ≡ false)
or_none false b h = (refl, h)
or_none true b h = absurd cc

local_else : (x y : Option Declared) → is_local_variable y ≡ false → is_local_variable (or_else x y) ≡ is_local_variable x
local_else None y h = h
local_else (Some x) y h = refl

no_local_if : (b : Bool) (d : Declared) → is_local d.declaration ≡ false → is_local_variable (if b then Some d else None) ≡ false
no_local_if true d h = h
no_local_if false d h = refl

-- the scope with one more name behind the others
abbrev pub with_name : Visible → ℕ × Declared → Visible
with_name v e = record v { names = v.names ++ e ∷ [] }

declared_if : (b : Bool) (v w : Visible) → b ≡ false → (if b then v else w) ≡ w
declared_if true v w h = absurd cc
declared_if false v w h = refl

-- a name that isn't in scope yet
pub declared_new : (v : Visible) (n : Name) (d : Declared) → is_visible v n ≡ false → declare v n d ≡ with_name v (n.0, d)
declared_new v n d h = declared_if (is_visible v n) v (with_name v (n.0, d)) h

pub inner_with : (v : Visible) (e : ℕ × Declared) (m : Name) → v.outside ≤ length v.names
    → declared_as (drop v.outside (v.names ++ e ∷ [])) m
    ≡ or_else (declared_as (drop v.outside v.names) m) (declared_as (e ∷ []) m)
inner_with v e m h =
    ap (λ names. declared_as names m) (drop-append-le v.outside v.names (e ∷ []) h) ∙ declared_more (drop v.outside v.names) e m

pub within_more : (o : ℕ) (names : List (ℕ × Declared)) (e : ℕ × Declared) → o ≤ length names → o ≤ length (names ++ e ∷ [])
within_more o names e h =
    let same : length (names ++ e ∷ []) ≡ length names + length (e ∷ []) = length-append names (e ∷ []) in rw same (omega arith)

-- a name that is no local, in both scopes
inner_same : (v : Visible) (n : Name) (d : Declared) (m : Name) → is_local d.declaration ≡ false → v.outside ≤ length v.names
    → is_inner_local (with_name v (n.0, d)) m ≡ is_inner_local v m
inner_same v n d m l h =
    ap is_local_variable (inner_with v (n.0, d) m h)
    ∙ local_else (declared_as (drop v.outside v.names) m) (declared_as ((n.0, d) ∷ []) m) (no_local_if (nat_eq m.0 n.0) d l)

visible_more : (v : Visible) (e : ℕ × Declared) (m : Name) → is_visible (with_name v e) m
    ≡ (is_visible v m || is_some (declared_as (e ∷ []) m))
visible_more v e m = ap is_some (declared_more v.names e m) ∙ some_else (declared_as v.names m) (declared_as (e ∷ []) m)

agree_with : (v head : Visible) (n : Name) (d : Declared) → is_local d.declaration ≡ false → Agree v head
    → Agree (with_name v (n.0, d)) (with_name head (n.0, d))
agree_with v head n d l a = record {
  same = λ m i.
      declared_more v.names (n.0, d) m
      ∙ ap (λ x. or_else x (declared_as ((n.0, d) ∷ []) m)) (a.same m (sym (inner_same v n d m l a.within) ∙ i))
      ∙ sym (declared_more head.names (n.0, d) m);
  fewer = λ m i.
      let parts = or_none (is_visible v m) (is_some (declared_as ((n.0, d) ∷ []) m)) (sym (visible_more v (n.0, d) m) ∙ i) in
      visible_more head (n.0, d) m ∙ or_from (is_visible head m) (is_some (declared_as ((n.0, d) ∷ []) m))
      (a.fewer m parts.0) parts.1;
  without = λ m. inner_same head n d m l a.within_head ∙ a.without m;
  within = within_more v.outside v.names (n.0, d) a.within;
  within_head = within_more head.outside head.names (n.0, d) a.within_head;
}

-- a bound variable that is new
pub agree_bound : (v head : Visible) (how : Declaration) (n : Name) (type : PvType) → is_local how ≡ false → is_visible v n
    ≡ false → Agree v head → Agree (declare_variable how v n type) (declare_variable how head n type)
agree_bound v head how n type l new a =
    let d : Declared = record { declaration = how; kind = type } in
    subst (λ (x : Visible). Agree x (declare head n d)) (sym (declared_new v n d new))
    (subst (λ (x : Visible). Agree (with_name v (n.0, d)) x) (sym (declared_new head n d (a.fewer n new)))
    (agree_with v head n d l a))

-- a local of the body that is new

else_local : (x : Option Declared) (b : Bool) (d : Declared) → is_local d.declaration ≡ true
    → is_local_variable (or_else x (if b then Some d else None)) ≡ false → (x ≡ None → b ≡ false) × (is_local_variable x ≡ false)
else_local None true d l h = absurd cc
else_local None false d l h = (λ i. refl, refl)
else_local (Some x) b d l h = (λ i. absurd cc, h)

behind : (b : Bool) (d : Declared) (o : Option Declared) → (if b then Some d else o) ≡ None → o ≡ None
behind true d o h = absurd cc
behind false d o h = h

nothing_inside : (k : ℕ) (names : List (ℕ × Declared)) (n : Name) → declared_as names n ≡ None → declared_as (drop k names) n
    ≡ None
nothing_inside zero names n h = h
nothing_inside (suc k) [] n h = refl
nothing_inside (suc k) (x ∷ xs) n h = nothing_inside k xs n (behind (nat_eq n.0 x.0) x.1 (declared_as xs n) h)

else_same : (x : Option Declared) (b : Bool) (d : Declared) → (x ≡ None → b ≡ false) → or_else x (if b then Some d else None) ≡ x
else_same (Some x) b d h = refl
else_same None b d h = ap (λ b. if b then Some d else None) (h refl)

-- what is found in the whole is found, where a local of the body isn't
found_same : (whole inside : Option Declared) (b : Bool) (d : Declared) → is_local d.declaration ≡ true
    → (whole ≡ None → inside ≡ None) → is_local_variable (or_else inside (if b then Some d else None)) ≡ false
    → or_else whole (if b then Some d else None) ≡ whole
found_same whole inside b d l none h = else_same whole b d (λ i. (else_local inside b d l h).0 (none i))

-- a name that is no local of the body means the same without that local
pub local_same : (v : Visible) (n : Name) (d : Declared) (m : Name) → is_local d.declaration ≡ true → v.outside ≤ length v.names
    → is_inner_local (with_name v (n.0, d)) m ≡ false → (declared_as (v.names ++ (n.0, d) ∷ []) m ≡ declared_as v.names m)
    × (is_inner_local v m ≡ false)
local_same v n d m l h i =
    let inner = sym (ap is_local_variable (inner_with v (n.0, d) m h)) ∙ i in (
      declared_more v.names (n.0, d) m ∙ found_same (declared_as v.names m) (declared_as (drop v.outside v.names) m)
          (nat_eq m.0 n.0) d l (nothing_inside v.outside v.names m) inner,
      (else_local (declared_as (drop v.outside v.names) m) (nat_eq m.0 n.0) d l inner).1,
    )

agree_local_with : (v head : Visible) (n : Name) (d : Declared) → is_local d.declaration ≡ true → Agree v head
    → Agree (with_name v (n.0, d)) head
agree_local_with v head n d l a = record {
  same = λ m i. let s = local_same v n d m l a.within i in s.0 ∙ a.same m s.1;
  fewer =
      λ m i. a.fewer m (or_none (is_visible v m) (is_some (declared_as ((n.0, d) ∷ []) m))
      (sym (visible_more v (n.0, d) m) ∙ i)).0;
  without = a.without;
  within = within_more v.outside v.names (n.0, d) a.within;
  within_head = a.within_head;
}

pub agree_local : (v head : Visible) (n : Name) (type : PvType) → is_visible v n ≡ false → Agree v head
    → Agree (declare_variable Local v n type) head
agree_local v head n type new a =
    let d : Declared = record { declaration = Local; kind = type } in
    subst (λ (x : Visible). Agree x head) (sym (declared_new v n d new)) (agree_local_with v head n d refl a)

-- the head of a body agrees with itself: behind the names outside stands nothing but the variable of the loop

head_with : (v : Visible) (n : Name) (d : Declared) → is_local d.declaration ≡ false
    → Agree (with_name (entered v) (n.0, d)) (with_name (entered v) (n.0, d))
head_with v n d l =
    let new : (m : Name) → is_inner_local (with_name (entered v) (n.0, d)) m ≡ false = λ m.
    ap (λ names. is_local_variable (declared_as names m)) (drop-append_seam v.names ((n.0, d) ∷ []))
    ∙ no_local_if (nat_eq m.0 n.0) d l in
    let inside : length v.names ≤ length (v.names ++ (n.0, d) ∷ []) =
    within_more (length v.names) v.names (n.0, d) (omega arith) in
    record { same = λ m i. refl; fewer = λ m i. i; without = new; within = inside; within_head = inside }

pub agree_head : (v : Visible) (how : Declaration) (n : Name) (type : PvType) → is_local how ≡ false → is_visible (entered v) n
    ≡ false → Agree (declare_variable how (entered v) n type) (declare_variable how (entered v) n type)
agree_head v how n type l new =
    let d : Declared = record { declaration = how; kind = type } in
    subst (λ (x : Visible). Agree x x) (sym (declared_new (entered v) n d new)) (head_with v n d l)
