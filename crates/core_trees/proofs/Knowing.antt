-- Lists of names that hold the variables of a scope, and how they grow with it.
use Rattle.std.proofs.Common.{◌≡◌, ℕ, zero, suc, ◌≤◌, Bool, true, false, not, ◌&&◌, ◌||◌, Option, Some, None, is_some, option_map, List, [], ◌∷◌, ◌++◌, length, drop, refl, subst}
use Rattle.std.specs.Prelude.{filter_map, if◌then◌else◌}
use Rattle.std.specs.List.{list_any, cons_option, AllByRecursion}
use Rattle.pv_base.specs.declared.Name.{Name}
use Rattle.pv_ast.specs.declared.Word.{Word}
use Rattle.pv_ast.specs.declared.PvType.{PvType}
use Rattle.pv_ast.specs.declared.PvType.TheVariants.{Null}
use Rattle.pv_ast.specs.declared.Param.{Param}
use Rattle.pv_ast.specs.declared.scope.Declaration.{Declaration}
use Rattle.pv_ast.specs.declared.scope.Declaration.TheVariants.{Parameter, Local, Block}
use Rattle.pv_ast.specs.declared.scope.Declared.{Declared}
use Rattle.pv_ast.specs.declared.standing.Context.{Context}
use Rattle.pv_base.specs.Names.{same_name}
use Rattle.pv_ast.specs.Rules.Scoping.{Visible, nothing_visible, declared_as, declare_variable, is_visible, variable_named, as_variable, is_inner_local, is_local_variable, entered}
use Rattle.pv_ast.specs.Rules.Statements.{with_block}
use Rattle.pv_ast.specs.Rules.Programs.{with_param, with_params}
use Rattle.pv_picks.specs.Plain.Core.{Statement}
use Rattle.pv_picks.specs.Plain.Core as core
use Rattle.pv_picks.specs.Elaborating.Names.{parameters_of, variable_in}
use Rattle.core_trees.specs.Resolved.{InScope, names_of, behind}
use Rattle.core_trees.proofs.Agreeing.{or_else, with_name, declared_more, local_same}

-- all variables of a scope are among the names; but where `locals` is false, perhaps not the locals of the innermost body
abbrev pub Knows : Bool → Visible → List Name → Type 0
Knows locals v names = (n : Name) → is_some (variable_named v n) ≡ true → (not locals && is_inner_local v n) ≡ false
    → InScope names n

or_right : (a b : Bool) → b ≡ true → (a || b) ≡ true
or_right true b h = refl
or_right false b h = h

or_left : (a b : Bool) → a ≡ true → (a || b) ≡ true
or_left true b h = refl
or_left false b h = absurd cc

pub knows_more : (locals : Bool) (v : Visible) (name : Name) (names : List Name) → Knows locals v names
    → Knows locals v (name ∷ names)
knows_more locals v name names h = λ n i k. or_right (same_name n name) (list_any (same_name n) names) (h n i k)

pub knows_all : (locals : Bool) (v : Visible) (names : List Name) → Knows true v names → Knows locals v names
knows_all locals v names h = λ n i k. h n i refl

pub knows_either : (b : Bool) (x y : Context) (v : Visible) (names : List Name) → Knows x.locals v names → Knows y.locals v names
    → Knows (if b then x else y).locals v names
knows_either true x y v names h k = h
knows_either false x y v names h k = k

-- One more name in scope

first_local : (x y : Option Declared) → is_local_variable (or_else x y) ≡ false → is_local_variable x ≡ false
first_local None y h = refl
first_local (Some x) y h = h

inner_before : (o : ℕ) (names : List (ℕ × Declared)) (e : ℕ × Declared) (m : Name)
    → is_local_variable (declared_as (drop o (names ++ e ∷ [])) m) ≡ false → is_local_variable (declared_as (drop o names) m)
    ≡ false
inner_before zero names e m h =
    first_local (declared_as names m) (declared_as (e ∷ []) m)
    (subst (λ (x : Option Declared). is_local_variable x ≡ false) (declared_more names e m) h)
inner_before (suc o) [] e m h = refl
inner_before (suc o) (x ∷ xs) e m h = inner_before o xs e m h

-- what is no local of the body with one more name is none without it
fewer_inner : (locals : Bool) (v : Visible) (e : ℕ × Declared) (m : Name) → (not locals && is_inner_local (with_name v e) m)
    ≡ false → (not locals && is_inner_local v m) ≡ false
fewer_inner true v e m h = refl
fewer_inner false v e m h = inner_before v.outside v.names e m h

-- what is found among one more name is that name, or is found without it
that_or : (b : Bool) (d : Declared) (o : Option Declared) (rest : Bool)
    → is_some (as_variable (or_else o (if b then Some d else None))) ≡ true → (is_some (as_variable o) ≡ true → rest ≡ true)
    → (b || rest) ≡ true
that_or true d o rest i h = refl
that_or false d None rest i h = absurd cc
that_or false d (Some x) rest i h = h i

knows_with : (locals : Bool) (v : Visible) (n : Name) (d : Declared) (names : List Name) → Knows locals v names
    → Knows locals (with_name v (n.0, d)) (n ∷ names)
knows_with locals v n d names h = λ m i k.
    that_or (same_name m n) d (declared_as v.names m) (list_any (same_name m) names)
    (subst (λ (o : Option Declared). is_some (as_variable o) ≡ true) (declared_more v.names (n.0, d) m) i)
    (λ j. h m j (fewer_inner locals v (n.0, d) m k))

knows_if : (locals b : Bool) (v w : Visible) (names : List Name) → Knows locals v names → Knows locals w names
    → Knows locals (if b then v else w) names
knows_if locals true v w names h k = h
knows_if locals false v w names h k = k

pub knows_declared : (locals : Bool) (v : Visible) (how : Declaration) (name : Name) (type : PvType) (names : List Name)
    → Knows locals v names → Knows locals (declare_variable how v name type) (name ∷ names)
knows_declared locals v how name type names h =
    let d : Declared = record { declaration = how; kind = type } in
    knows_if locals (is_visible v name) v (with_name v (name.0, d)) (name ∷ names) (knows_more locals v name names h)
    (knows_with locals v name d names h)

-- a local of the body, which other members don't have
pub knows_local : (v : Visible) (name : Name) (type : PvType) (head : List Name) → v.outside ≤ length v.names → Knows false v head
    → Knows false (declare_variable Local v name type) head
knows_local v name type head within h =
    let d : Declared = record { declaration = Local; kind = type } in
    knows_if false (is_visible v name) v (with_name v (name.0, d)) head h
    (λ m i k. let s = local_same v name d m refl within k in
    h m (subst (λ (o : Option Declared). is_some (as_variable o) ≡ true) s.0 i) s.1)

no_block : (b : Bool) (o : Option Declared) → is_some (as_variable
    (or_else o (if b then Some (record { declaration = Block; kind = Null }) else None))) ≡ true → is_some (as_variable o) ≡ true
no_block true None i = i
no_block false None i = i
no_block b (Some x) i = i

-- a block's name is no variable
pub knows_block : (v : Visible) (o : Option Word) (names : List Name) → Knows true v names → Knows true (with_block v o) names
knows_block v None names h = h
knows_block v (Some w) names h =
    let d : Declared = record { declaration = Block; kind = Null } in
    knows_if true (is_visible v w.name) v (with_name v (w.name.0, d)) names h
    (λ m i k. h m (no_block (same_name m w.name) (declared_as v.names m)
    (subst (λ (o : Option Declared). is_some (as_variable o) ≡ true) (declared_more v.names (w.name.0, d) m) i)) refl)

pub knows_entered : (v : Visible) (names : List Name) → Knows true v names → Knows true (entered v) names
knows_entered v names h = λ n i k. h n i refl

-- Parameters

no_variable : (n : Name) → is_some (variable_named nothing_visible n) ≡ true → ⊥
no_variable n h = cc

pub knows_nothing : (locals : Bool) → Knows locals nothing_visible []
knows_nothing locals = λ n i k. absurd (no_variable n i)

or_swap : (a b c : Bool) → ((a || b) || c) ≡ true → (b || (a || c)) ≡ true
or_swap a true c h = refl
or_swap true false c h = refl
or_swap false false c h = h

params_among : (v : Visible) (ps : List Param) (before : List Name) → Knows true v before → (n : Name)
    → is_some (variable_named (with_params v ps) n) ≡ true
    → (list_any (same_name n) before || list_any (same_name n) (names_of (parameters_of ps))) ≡ true
params_among v [] before h n i = or_left (list_any (same_name n) before) false (h n i refl)
params_among v (p ∷ ps) before h n i =
    or_swap (same_name n p.name.name) (list_any (same_name n) before) (list_any (same_name n) (names_of (parameters_of ps)))
    (params_among (with_param v p) ps (p.name.name ∷ before)
    (knows_declared true v Parameter p.name.name p.kind.kind before h) n i)

pub knows_params : (ps : List Param) → Knows true (with_params nothing_visible ps) (names_of (parameters_of ps))
knows_params ps = λ n i k. params_among nothing_visible ps [] (knows_nothing true) n i

-- Statements

variable_if : (name : Name) (o : Option Declared) (xs : List core.Parameter) (names : List Name)
    → (is_some o ≡ true → InScope names name) → AllByRecursion (InScope names) (names_of xs)
    → AllByRecursion (InScope names) (names_of (cons_option (option_map (λ d. (name, d.kind)) o) xs))
variable_if name None xs names h k = k
variable_if name (Some d) xs names h k = (h refl, k)

-- the variables of a scope among some names
pub variables_known : (v : Visible) (names assigned : List Name) → Knows true v names
    → AllByRecursion (InScope names) (names_of (filter_map (variable_in v) assigned))
variables_known v names [] h = tt
variables_known v names (n ∷ ns) h =
    variable_if n (variable_named v n) (filter_map (variable_in v) ns) names (λ i. h n i refl) (variables_known v names ns h)

-- behind a statement no fewer names are in scope
pub knows_behind : (locals : Bool) (v : Visible) (names : List Name) (s : Statement) → Knows locals v names
    → Knows locals v (behind names s)
knows_behind locals v names (core.Assign (core.ToVariable name) right span) h = knows_more locals v name names h
knows_behind locals v names (core.Assign core.Nowhere right span) h = h
knows_behind locals v names (core.Assign (core.ToField e class field at) right span) h = h
knows_behind locals v names (core.Assign (core.ToElement type e i at) right span) h = h
knows_behind locals v names (core.If e first second) h = h
knows_behind locals v names (core.While variables f e body span) h = h
knows_behind locals v names (core.Members team body span) h = h
knows_behind locals v names (core.Meet barrier span) h = h
knows_behind locals v names (core.Act action class e span) h = h
knows_behind locals v names (core.Fold class name e args span) h = h
knows_behind locals v names (core.Unfold class name e args span) h = h
knows_behind locals v names (core.Assert f span) h = h
knows_behind locals v names (core.Send m span) h = h
knows_behind locals v names (core.Receive m span) h = h
knows_behind locals v names (core.Return e span) h = h
