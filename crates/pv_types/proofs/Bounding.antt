-- The names in scope with one more bound variable.
use Rattle.std.proofs.Common.{◌≡◌, ℕ, Bool, true, false, nat_eq, Option, Some, None, is_some, List, [], ◌∷◌, ◌++◌, refl, sym, ◌∙◌, ap, subst, if◌then◌else◌}
use Rattle.std.proofs.lemmas.Bool.{eqb-true}
use Rattle.pv_base.specs.declared.Name.{Name}
use Rattle.pv_ast.specs.declared.PvType.TheVariants.{Int}
use Rattle.pv_ast.specs.declared.scope.Declared.{Declared}
use Rattle.pv_ast.specs.declared.scope.Declaration.TheVariants.{Bound}
use Rattle.pv_ast.specs.Rules.Scoping.{Visible, declared_as, is_visible, declare_variable}
use Rattle.std.specs.Borrow.{Bor}
use Rattle.pv_ast.specs.declared.scope.Scope.{Scope}
use Rattle.pv_types.specs.declared.scoped.Bounds.{Bounds, fold-roll-Bounds, roll-Bounds, map-Bounds}
use Rattle.pv_types.specs.Bounds.{or_bound, visible_with, visible_under, visible_under_bounds}

abbrev bound : Declared
bound = record { declaration = Bound; kind = Int }

or_bound_behind : (b : Bool) (e : Declared) (entries : List (ℕ × Declared)) (name w : Name)
    → declared_as (entries ++ (w.0, bound) ∷ []) name ≡ or_bound (declared_as entries name) name w
    → (if b then Some e else declared_as (entries ++ (w.0, bound) ∷ []) name)
    ≡ or_bound (if b then Some e else declared_as entries name) name w
or_bound_behind true e entries name w h = refl
or_bound_behind false e entries name w h = h

declared_behind : (entries : List (ℕ × Declared)) (name w : Name)
    → declared_as (entries ++ (w.0, bound) ∷ []) name ≡ or_bound (declared_as entries name) name w
declared_behind [] name w = refl
declared_behind (e ∷ entries) name w = or_bound_behind (nat_eq name.0 e.0) e.1 entries name w (declared_behind entries name w)

-- a name that is in scope already is no new variable
kept : (found : Option Declared) (name w : Name) (b : Bool) → nat_eq name.0 w.0 ≡ b → (b ≡ true → is_some found ≡ true)
    → found ≡ or_bound found name w
kept (Some d) name w b e h = refl
kept None name w true e h = let f = h refl in cc
kept None name w false e h = rw e refl

same_visible : (v : Visible) (name w : Name) → is_visible v w ≡ true → nat_eq name.0 w.0 ≡ true → is_visible v name ≡ true
same_visible v name w h e =
    let same : w ≡ name = ap (λ n. record { 0 = n }) (sym (eqb-true name.0 w.0 e)) in subst (λ n. is_visible v n ≡ true) same h

declared_in : (v : Visible) (name w : Name) (seen : Bool) → is_visible v w ≡ seen
    → declared_as (if seen then v else record v { names = v.names ++ (w.0, bound) ∷ [] }).names name
    ≡ or_bound (declared_as v.names name) name w
declared_in v name w true h = kept (declared_as v.names name) name w (nat_eq name.0 w.0) refl (same_visible v name w h)
declared_in v name w false h = declared_behind v.names name w

pub declared_with_bound : (v : Visible) (name w : Name)
    → declared_as (declare_variable Bound v w Int).names name ≡ or_bound (declared_as v.names name) name w
declared_with_bound v name w = declared_in v name w (is_visible v w) refl

outer_of : (scope : Scope) (name : Name) (outer : Option (Bor Bounds))
    → visible_with scope (map-Bounds Bounds Visible (visible_under_bounds scope) (record { name = name; outer = outer }))
    ≡ declare_variable Bound (visible_under scope outer) name Int
outer_of scope name None = refl
outer_of scope name (Some b) = refl

-- the names in scope under a quantifier, by those around it
pub under : (scope : Scope) (name : Name) (outer : Option (Bor Bounds))
    → visible_under_bounds scope (roll-Bounds (record { name = name; outer = outer }))
    ≡ declare_variable Bound (visible_under scope outer) name Int
under scope name outer =
    fold-roll-Bounds Visible (visible_with scope) (record { name = name; outer = outer }) ∙ outer_of scope name outer
