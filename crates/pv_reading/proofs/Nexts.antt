-- Which tokens may come next.
use Rattle.std.proofs.Common.{ℕ, ◌≡◌, List, [], ◌∷◌, Option, Some, None, is_some, Bool, true, false, cond, ◌||◌, nat_eq, refl, sym, ap, ◌∙◌, subst}
use Rattle.std.proofs.lemmas.Bool.{eqb-true, eq-eqb}
use Rattle.pv_base.specs.declared.Name.{Name}
use Rattle.pv_tokens.specs.declared.LexemeKind.{LexemeKind}
use Rattle.pv_tokens.specs.declared.LexemeKind.TheVariants as k
use Rattle.pv_reading.specs.Reading.{is_fixed, name_of, number_of, entry_of, listed_in}

-- a set of what may come next, a token of some kind or none
abbrev pub Nexts : Type 0
Nexts = Option LexemeKind → Bool

pub record Sub (A B : Nexts) : Type 0 where
  pub has : (o : Option LexemeKind) → A o ≡ true → B o ≡ true

abbrev pub anything : Nexts
anything o = true

-- what f knows
abbrev pub knows : {B : Type 0} → (LexemeKind → Option B) → Nexts
knows f None = false
knows f (Some x) = is_some (f x)

abbrev pub either : Nexts → Nexts → Nexts
either A B o = A o || B o

-- what f makes of what comes next
abbrev pub sight_of : {B : Type 0} → (LexemeKind → Option B) → Option LexemeKind → Option B
sight_of f None = None
sight_of f (Some x) = f x

-- f knows nothing in the set
pub record Apart {B : Type 0} (f : LexemeKind → Option B) (A : Nexts) : Type 0 where
  pub lacks : (x : LexemeKind) (b : B) → f x ≡ Some b → A (Some x) ≡ false

pub sub_refl : (A : Nexts) → Sub A A
sub_refl A = record { has = λ o h. h }

pub sub_anything : (A : Nexts) → Sub A anything
sub_anything A = record { has = λ o h. refl }

pub or_left : (a b : Bool) → a ≡ true → (a || b) ≡ true
or_left true b h = refl
or_left false b h = cc

pub or_right : (a b : Bool) → b ≡ true → (a || b) ≡ true
or_right true b h = refl
or_right false b h = h

or_elim : (a b c : Bool) → (a ≡ true → c ≡ true) → (b ≡ true → c ≡ true) → (a || b) ≡ true → c ≡ true
or_elim true b c f g h = f refl
or_elim false b c f g h = g h

pub sub_either : {A B C : Nexts} → Sub A C → Sub B C → Sub (either A B) C
sub_either {A = A} {B = B} {C = C} f g = record { has = λ o h. or_elim (A o) (B o) (C o) (f.has o) (g.has o) h }

pub sub_left : {A B : Nexts} (C : Nexts) → Sub A B → Sub A (either B C)
sub_left {B = B} C f = record { has = λ o h. or_left (B o) (C o) (f.has o h) }

pub sub_right : {A C : Nexts} (B : Nexts) → Sub A C → Sub A (either B C)
sub_right {C = C} B f = record { has = λ o h. or_right (B o) (C o) (f.has o h) }

pub sub_trans : {A B C : Nexts} → Sub A B → Sub B C → Sub A C
sub_trans f g = record { has = λ o h. g.has o (f.has o h) }

pub known_fixed : (j : ℕ) → is_fixed j (k.Fixed j) ≡ Some tt
known_fixed j = ap (λ b. cond b (Some tt) None) (eq-eqb j j refl)

pub fixed_is : (j : ℕ) (x : LexemeKind) (t : Unit {0}) → is_fixed j x ≡ Some t → x ≡ k.Fixed j
fixed_is j (k.Fixed i) t h =
    let go : (b : Bool) → nat_eq i j ≡ b → cond b (Some tt) None ≡ Some t → k.Fixed i ≡ k.Fixed j =
    elim [ true ↦ λ e f. ap k.Fixed (eqb-true i j e) | false ↦ λ e f. cc ] in
    go (nat_eq i j) refl h
fixed_is j (k.Named n) t h = cc
fixed_is j (k.Number n) t h = cc

pub name_is : (x : LexemeKind) (n : Name) → name_of x ≡ Some n → x ≡ k.Named n
name_is (k.Named m) n h = let e : m ≡ n = cc in ap k.Named e
name_is (k.Number m) n h = cc
name_is (k.Fixed j) n h = cc

pub number_is : (x : LexemeKind) (n : ℕ) → number_of x ≡ Some n → x ≡ k.Number n
number_is (k.Number m) n h = let e : m ≡ n = cc in ap k.Number e
number_is (k.Named m) n h = cc
number_is (k.Fixed j) n h = cc

-- a fact of each number in a table
abbrev pub Each : {B : Type 0} → (ℕ → Type 0) → List (ℕ × B) → Type 0
Each P [] = Unit {0}
Each P (x ∷ t) = P x.0 × Each P t

-- a number that the table has is one of these
module _ {B : Type 0} (P : ℕ → Type 0) where
  pub each_entry : (t : List (ℕ × B)) (j : ℕ) (b : B) → entry_of t j ≡ Some b → Each P t → P j
  each_entry [] j b h e = cc
  each_entry (x ∷ t) j b h e =
      let go : (c : Bool) → nat_eq j x.0 ≡ c → cond c (Some x.1) (entry_of t j) ≡ Some b → P j = elim [
        | true ↦ λ f g. subst P (sym (eqb-true j x.0 f)) e.0
        | false ↦ λ f g. each_entry t j b g e.1
      ] in
      go (nat_eq j x.0) refl h

pub apart_fixed : {A : Nexts} (j : ℕ) → A (Some (k.Fixed j)) ≡ false → Apart (is_fixed j) A
apart_fixed {A = A} j h = record { lacks = λ x t e. ap (λ z. A (Some z)) (fixed_is j x t e) ∙ h }

pub apart_name : {A : Nexts} → ((n : Name) → A (Some (k.Named n)) ≡ false) → Apart name_of A
apart_name {A = A} h = record { lacks = λ x n e. ap (λ z. A (Some z)) (name_is x n e) ∙ h n }

pub apart_number : {A : Nexts} → ((n : ℕ) → A (Some (k.Number n)) ≡ false) → Apart number_of A
apart_number {A = A} h = record { lacks = λ x n e. ap (λ z. A (Some z)) (number_is x n e) ∙ h n }

table_lacks : {B : Type 0} (A : Nexts) (t : List (ℕ × B)) → Each (λ j. A (Some (k.Fixed j)) ≡ false) t → (x : LexemeKind) (b : B)
    → listed_in t x ≡ Some b → A (Some x) ≡ false
table_lacks A t h (k.Fixed j) b e = each_entry (λ j. A (Some (k.Fixed j)) ≡ false) t j b e h
table_lacks A t h (k.Named n) b e = cc
table_lacks A t h (k.Number n) b e = cc

pub apart_table : {B : Type 0} {A : Nexts} (t : List (ℕ × B)) → Each (λ j. A (Some (k.Fixed j)) ≡ false) t → Apart (listed_in t) A
apart_table {A = A} t h = record { lacks = table_lacks A t h }

some_is : {B : Type 0} (o : Option B) → is_some o ≡ true → (b : B) × (o ≡ Some b)
some_is None h = cc
some_is (Some b) h = (b, refl)

knows_in : {B : Type 0} (A : Nexts) (f : LexemeKind → Option B) → ((x : LexemeKind) (b : B) → f x ≡ Some b → A (Some x) ≡ true)
    → (o : Option LexemeKind) → knows f o ≡ true → A o ≡ true
knows_in A f h None e = cc
knows_in A f h (Some x) e = let z = some_is (f x) e in h x z.0 z.1

pub sub_knows : {B : Type 0} {A : Nexts} (f : LexemeKind → Option B)
    → ((x : LexemeKind) (b : B) → f x ≡ Some b → A (Some x) ≡ true) → Sub (knows f) A
sub_knows {A = A} f h = record { has = knows_in A f h }

pub sub_fixed : {A : Nexts} (j : ℕ) → A (Some (k.Fixed j)) ≡ true → Sub (knows (is_fixed j)) A
sub_fixed {A = A} j h = sub_knows (is_fixed j) (λ x t e. ap (λ z. A (Some z)) (fixed_is j x t e) ∙ h)

pub sub_name : {A : Nexts} → ((n : Name) → A (Some (k.Named n)) ≡ true) → Sub (knows name_of) A
sub_name {A = A} h = sub_knows name_of (λ x n e. ap (λ z. A (Some z)) (name_is x n e) ∙ h n)

pub sub_number : {A : Nexts} → ((n : ℕ) → A (Some (k.Number n)) ≡ true) → Sub (knows number_of) A
sub_number {A = A} h = sub_knows number_of (λ x n e. ap (λ z. A (Some z)) (number_is x n e) ∙ h n)

table_at : {B : Type 0} (A : Nexts) (t : List (ℕ × B)) → Each (λ j. A (Some (k.Fixed j)) ≡ true) t → (x : LexemeKind) (b : B)
    → listed_in t x ≡ Some b → A (Some x) ≡ true
table_at A t h (k.Fixed j) b e = each_entry (λ j. A (Some (k.Fixed j)) ≡ true) t j b e h
table_at A t h (k.Named n) b e = cc
table_at A t h (k.Number n) b e = cc

pub sub_table : {B : Type 0} {A : Nexts} (t : List (ℕ × B)) → Each (λ j. A (Some (k.Fixed j)) ≡ true) t
    → Sub (knows (listed_in t)) A
sub_table {A = A} t h = sub_knows (listed_in t) (table_at A t h)

-- a set apart from what f knows
pub no_sight : {B : Type 0} (f : LexemeKind → Option B) (A : Nexts) → Apart f A → (o : Option LexemeKind) → A o ≡ true
    → sight_of f o ≡ None
no_sight f A h None e = refl
no_sight {B = B} f A h (Some x) e =
    let go : (z : Option B) → f x ≡ z → z ≡ None =
    elim [ None ↦ λ g. refl | Some b ↦ λ g. let c : true ≡ false = sym e ∙ h.lacks x b g in cc ] in
    go (f x) refl
