-- The locals of the innermost body aren't in scope at its head.
use Rattle.std.proofs.Common.{◌≡◌, ◌≤◌, Bool, true, false, Option, Some, None, List, length, drop, nat_eq, refl, sym, ◌∙◌, ap, subst}
use Rattle.std.proofs.lemmas.Bool.{both_ways}
use Rattle.std.specs.Prelude.{if◌then◌else◌}
use Rattle.pv_base.specs.declared.Name.{Name}
use Rattle.pv_ast.specs.declared.PvType.{PvType}
use Rattle.pv_ast.specs.declared.scope.Declaration.TheVariants.{Local}
use Rattle.pv_ast.specs.declared.scope.Declared.{Declared}
use Rattle.pv_ast.specs.Rules.Scoping.{Visible, declared_as, declare_variable, is_visible, is_inner_local, is_local_variable}
use Rattle.pv_picks.specs.Plain.Core as core
use Rattle.core_trees.proofs.Agreeing.{or_else, inner_with, declared_new}
use Rattle.core_names.proofs.Scopes.{IsHead}
use Rattle.pv_picks.specs.Typing.Expressions.{type_in}
use Rattle.core_trees.proofs.Shapes.{equal_names}

abbrev pub AreOwn : Visible → List core.Parameter → Type 0
AreOwn v head = (name : Name) → is_inner_local v name ≡ true → type_in head name ≡ None

pub none_own : (v : Visible) (head : List core.Parameter) → IsHead v → AreOwn v head
none_own v head h name k = absurd (both_ways (is_inner_local v name) (h.1 name) k)

-- one more local, which isn't in scope yet
pub own_more : (v : Visible) (head : List core.Parameter) (name : Name) (type : PvType) → v.outside ≤ length v.names
    → is_visible v name ≡ false
    → type_in head name ≡ None → AreOwn v head → AreOwn (declare_variable Local v name type) head
own_more v head name type within new unlisted own other k =
    by (declared_as (drop v.outside v.names) other) (nat_eq other.0 name.0) refl refl
    (sym (ap is_local_variable (inner_with v (name.0, d) other within)) ∙ subst (λ (x : Visible). is_inner_local x other ≡ true)
    (declared_new v name d new) k)
  where
    d : Declared
    d = record { declaration = Local; kind = type }

    by : (x : Option Declared) (b : Bool) → declared_as (drop v.outside v.names) other ≡ x → nat_eq other.0 name.0 ≡ b
        → is_local_variable (or_else x (if b then Some d else None)) ≡ true → type_in head other ≡ None
    by (Some x) b is same i = own other (ap is_local_variable is ∙ i)
    by None true is same i = ap (type_in head) (equal_names other name same) ∙ unlisted
    by None false is same i = absurd cc
