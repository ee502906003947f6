-- The names in scope, as the static rules and as the rules of small programs have them.
use Rattle.std.proofs.Common.{◌≡◌, ℕ, Bool, true, false, ◌||◌, nat_eq, if◌then◌else◌, Option, Some, None, is_some, List, [], ◌∷◌, ◌++◌, drop, refl, sym, ap, subst}
use Rattle.std.proofs.lemmas.Bool.{eqb-true, eqb-false, eq-eqb, ne_eqb, or_right, or_from}
use Rattle.pv_base.specs.declared.Name.{Name}
use Rattle.pv_ast.specs.declared.PvType.{PvType}
use Rattle.pv_ast.specs.declared.PvType.TheVariants.{Int}
use Rattle.pv_ast.specs.declared.scope.Declaration.{Declaration}
use Rattle.pv_ast.specs.declared.scope.Declaration.TheVariants.{Parameter, Local, LoopVariable, Bound, Block}
use Rattle.pv_ast.specs.declared.scope.Declared.{Declared}
use Rattle.pv_ast.specs.declared.standing.Typing.TheVariants.{Typed}
use Rattle.pv_ast.specs.Rules.Scoping.{Visible, declared_as, is_visible, as_variable, is_local_variable, is_inner_local, declare}
use Rattle.pv_ast.specs.Rules.Expressions.{Environment, type_of_field, seen_of_name}
use Rattle.small_meaning.specs.Rules.{Scope, has_name, is_in_scope, with_local}

-- how a name is declared, where it is a parameter, and where a local
abbrev pub AsDeclared : Declaration → Bool → Bool → Type 0
AsDeclared Parameter p l = p ≡ true
AsDeclared Local p l = l ≡ true
AsDeclared LoopVariable p l = ⊥
AsDeclared Bound p l = ⊥
AsDeclared Block p l = ⊥

abbrev pub AsNamed : Option Declared → Bool → Bool → Type 0
AsNamed None p l = (p ≡ false) × (l ≡ false)
AsNamed (Some d) p l = (d.kind ≡ Int) × AsDeclared d.declaration p l

-- the names in scope are the parameters and locals of a small scope, and all are whole numbers
pub record Matches (v : Visible) (s : Scope) : Type 0 where
  pub outside : v.outside ≡ 0
  pub named : (n : Name) → AsNamed (declared_as v.names n) (has_name s.parameters n.0) (has_name s.locals n.0)

-- what stands around an expression: no fields, and a whole number for `\result` where it may be told; `told` is whether it may
pub record Here (a : Environment) (v : Visible) (told : Bool) (s : Scope) (with_result : Bool) : Type 0 where
  pub names : Matches v s
  pub fields : (n : Name) → type_of_field a.here n ≡ None
  pub result : told ≡ true → (with_result ≡ true) × (a.result ≡ Some Int)

abbrev IsInt : Environment → Name → Option Declared → Bool → Bool → Type 0
IsInt a n d p l = ((seen_of_name a n (as_variable d)).typing ≡ Typed Int) × ((seen_of_name a n (as_variable d)).location ≡ false)
    × ((p || l) ≡ true)

int_declared : (a : Environment) (n : Name) (how : Declaration) (type : PvType) (p l : Bool) → type ≡ Int → AsDeclared how p l
    → IsInt a n (Some (record { declaration = how; kind = type })) p l
int_declared a n Parameter type p l e h = (ap Typed e, refl, ap (λ b. b || l) h)
int_declared a n Local type p l e h = (ap Typed e, refl, or_right p l h)
int_declared a n LoopVariable type p l e h = absurd h
int_declared a n Bound type p l e h = absurd h
int_declared a n Block type p l e h = absurd h

-- a declared name is a whole number in scope
int_named : (a : Environment) (n : Name) (d : Option Declared) (p l : Bool) → type_of_field a.here n ≡ None → AsNamed d p l
    → (is_some (as_variable d) || is_some (type_of_field a.here n)) ≡ true → IsInt a n d p l
int_named a n None p l none h k = let f = ap is_some none in absurd (cc)
int_named a n (Some d) p l none h k = int_declared a n d.declaration d.kind p l h.0 h.1

pub int_name : (a : Environment) (v : Visible) (told : Bool) (s : Scope) (with_result : Bool) (n : Name)
    → Here a v told s with_result → (is_some (as_variable (declared_as v.names n)) || is_some (type_of_field a.here n)) ≡ true
    → IsInt a n (declared_as v.names n) (has_name s.parameters n.0) (has_name s.locals n.0)
int_name a v told s with_result n here h = int_named a n (declared_as v.names n) (has_name s.parameters n.0)
    (has_name s.locals n.0) (here.fields n) (here.names.named n) h

local_declared : (how : Declaration) (type : PvType) (p l : Bool) → AsDeclared how p l
    → is_local_variable (Some (record { declaration = how; kind = type })) ≡ true → l ≡ true
local_declared Local type p l h k = h
local_declared _ type p l h k = cc

local_named : (d : Option Declared) (p l : Bool) → AsNamed d p l → is_local_variable d ≡ true → l ≡ true
local_named None p l h k = cc
local_named (Some d) p l h k = local_declared d.declaration d.kind p l h.1 k

-- a name that is declared as a local is one of the locals
pub local_name : (v : Visible) (s : Scope) (n : Name) → Matches v s → is_inner_local v n ≡ true → has_name s.locals n.0 ≡ true
local_name v s n m h = local_named (declared_as v.names n) (has_name s.parameters n.0) (has_name s.locals n.0) (m.named n)
    (subst (λ k. is_local_variable (declared_as (drop k v.names) n) ≡ true) m.outside h)

unnamed : (d : Option Declared) (p l : Bool) → AsNamed d p l → is_some d ≡ false → (p || l) ≡ false
unnamed None p l h k = or_from p l h.0 h.1
unnamed (Some d) p l h k = cc

-- a new name isn't in scope
pub new_name : (v : Visible) (s : Scope) (n : Name) → Matches v s → is_visible v n ≡ false → is_in_scope s n.0 ≡ false
new_name v s n m h = unnamed (declared_as v.names n) (has_name s.parameters n.0) (has_name s.locals n.0) (m.named n) h

-- What a declaration changes

-- a further entry counts for a name that has none so far
behind : (names : List (ℕ × Declared)) (n m : Name) (d : Declared) (p l q k : Bool)
    → ((how : Declaration) → AsDeclared how p l → AsDeclared how q k)
    → (nat_eq m.0 n.0 ≡ true → AsNamed (Some d) q k) → (nat_eq m.0 n.0 ≡ false → AsNamed None p l → AsNamed None q k)
    → AsNamed (declared_as names m) p l → AsNamed (declared_as (names ++ (n.0, d) ∷ []) m) q k
behind [] n m d p l q k more same other h = behind_none (nat_eq m.0 n.0) d p l q k same other h
  where
    behind_none : (b : Bool) (d : Declared) (p l q k : Bool) → (b ≡ true → AsNamed (Some d) q k)
        → (b ≡ false → AsNamed None p l → AsNamed None q k) → AsNamed None p l → AsNamed (if b then Some d else None) q k
    behind_none true d p l q k same other h = same refl
    behind_none false d p l q k same other h = other refl h
behind (entry ∷ names) n m d p l q k more same other h =
    behind_some (nat_eq m.0 entry.0) entry.1 (declared_as names m) (declared_as (names ++ (n.0, d) ∷ []) m) p l q k more
    (behind names n m d p l q k more same other) h
  where
    behind_some : (b : Bool) (x : Declared) (o r : Option Declared) (p l q k : Bool)
        → ((how : Declaration) → AsDeclared how p l → AsDeclared how q k) → (AsNamed o p l → AsNamed r q k)
        → AsNamed (if b then Some x else o) p l → AsNamed (if b then Some x else r) q k
    behind_some true x o r p l q k more next h = (h.0, more x.declaration h.1)
    behind_some false x o r p l q k more next h = next h

eq_swap : (x y : ℕ) (b : Bool) → nat_eq x y ≡ b → nat_eq y x ≡ b
eq_swap x y true h = eq-eqb y x (sym (eqb-true x y h))
eq_swap x y false h = ne_eqb y x (λ e. eqb-false x y h (sym e))

more_locals : (how : Declaration) (p l c : Bool) → AsDeclared how p l → AsDeclared how p (c || l)
more_locals Parameter p l c h = h
more_locals Local p l c h = or_right c l h
more_locals LoopVariable p l c h = h
more_locals Bound p l c h = h
more_locals Block p l c h = h

more_parameters : (how : Declaration) (p l c : Bool) → AsDeclared how p l → AsDeclared how (c || p) l
more_parameters Parameter p l c h = or_right c p h
more_parameters Local p l c h = h
more_parameters LoopVariable p l c h = h
more_parameters Bound p l c h = h
more_parameters Block p l c h = h

-- a new name comes behind the others
abbrev pub put_behind : Visible → Name → Declared → Visible
put_behind v n d = record v { names = v.names ++ (n.0, d) ∷ [] }

pub declared_behind : (v : Visible) (n : Name) (d : Declared) → is_visible v n ≡ false → declare v n d ≡ put_behind v n d
declared_behind v n d new = ap (λ b. if b then v else put_behind v n d) new

-- behind its declaration a local is in scope
pub local_matches : (v : Visible) (s : Scope) (n : Name) (type : PvType) → Matches v s → type ≡ Int
    → Matches (put_behind v n (record { declaration = Local; kind = type })) (with_local s n.0)
local_matches v s n type m int = record {
  outside = m.outside;
  named = λ x.
      let p = has_name s.parameters x.0 in
      let l = has_name s.locals x.0 in
      behind v.names n x (record { declaration = Local; kind = type }) p l p (nat_eq n.0 x.0 || l)
      (λ how h. more_locals how p l (nat_eq n.0 x.0) h)
      (λ e. (int, ap (λ b. b || l) (eq_swap x.0 n.0 true e)))
      (λ e h. (h.0, or_from (nat_eq n.0 x.0) l (eq_swap x.0 n.0 false e) h.1)) (m.named x);
}

pub parameter_named : (v : Visible) (n m : Name) (type : PvType) (p l : Bool) → type ≡ Int → AsNamed (declared_as v.names m) p l
    → AsNamed (declared_as (put_behind v n (record { declaration = Parameter; kind = type })).names m) (nat_eq n.0 m.0 || p) l
parameter_named v n m type p l int h =
    behind v.names n m (record { declaration = Parameter; kind = type }) p l (nat_eq n.0 m.0 || p) l
    (λ how k. more_parameters how p l (nat_eq n.0 m.0) k)
    (λ e. (int, ap (λ b. b || p) (eq_swap m.0 n.0 true e)))
    (λ e k. (or_from (nat_eq n.0 m.0) p (eq_swap m.0 n.0 false e) k.0, k.1)) h
