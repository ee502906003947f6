-- Where the name of a par block is in scope, there is one around.
use Rattle.std.proofs.Common.{◌≡◌, Bool, true, false, Option, Some, None, is_some, List, [], ◌∷◌, refl, subst}
use Rattle.std.proofs.lemmas.Bool.{both_ways}
use Rattle.std.specs.Prelude.{nat_eq, if◌then◌else◌}
use Rattle.pv_base.specs.declared.Name.{Name}
use Rattle.pv_ast.specs.declared.PvType.{PvType}
use Rattle.pv_ast.specs.declared.Param.{Param}
use Rattle.pv_ast.specs.declared.scope.Declaration.{Declaration}
use Rattle.pv_ast.specs.declared.scope.Declaration.TheVariants.{Parameter}
use Rattle.pv_ast.specs.declared.scope.Declared.{Declared}
use Rattle.pv_ast.specs.Rules.Scoping.{Visible, nothing_visible, declared_as, declare_variable, is_visible, is_block, is_block_name, is_block_around}
use Rattle.pv_ast.specs.Rules.Programs.{with_param, with_params}
use Rattle.core_trees.proofs.Agreeing.{or_else, with_name, declared_more}

-- the position of a par block around is there where a block's name is in scope
abbrev pub Blocked : Visible → Option Name → Type 0
Blocked v position = (n : Name) → is_block_around v n ≡ true → is_some position ≡ true

blocked_if : (position : Option Name) (b : Bool) (v w : Visible) → Blocked v position → Blocked w position
    → Blocked (if b then v else w) position
blocked_if position true v w h k = h
blocked_if position false v w h k = k

other_block : (o : Option Declared) (b : Bool) (d : Declared) → is_block d.declaration ≡ false
    → is_block_name (or_else o (if b then Some d else None)) ≡ true → is_block_name o ≡ true
other_block (Some x) b d h i = i
other_block None true d h i = absurd (both_ways (is_block d.declaration) h i)
other_block None false d h i = absurd cc

-- one more name in scope, which is no block's
pub blocked_with : (position : Option Name) (v : Visible) (how : Declaration) (name : Name) (type : PvType) → is_block how ≡ false
    → Blocked v position → Blocked (declare_variable how v name type) position
blocked_with position v how name type no_block h =
    let d : Declared = record { declaration = how; kind = type } in
    blocked_if position (is_visible v name) v (with_name v (name.0, d)) h
    (λ n i. h n (other_block (declared_as v.names n) (nat_eq n.0 name.0) d no_block
    (subst (λ (o : Option Declared). is_block_name o ≡ true) (declared_more v.names (name.0, d) n) i)))

pub outside_blocked : Blocked nothing_visible None
outside_blocked = λ n i. absurd cc

params_blocked : (v : Visible) (ps : List Param) → Blocked v None → Blocked (with_params v ps) None
params_blocked v [] h = h
params_blocked v (p ∷ ps) h = params_blocked (with_param v p) ps (blocked_with None v Parameter p.name.name p.kind.kind refl h)

-- among the parameters of a method there is no block's name
pub method_blocked : (ps : List Param) → Blocked (with_params nothing_visible ps) None
method_blocked ps = params_blocked nothing_visible ps outside_blocked
