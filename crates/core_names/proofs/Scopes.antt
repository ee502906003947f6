-- Lists of names that are exactly the variables of a scope, and how both grow.
use Rattle.std.proofs.Common.{◌≡◌, ℕ, ◌≤◌, Bool, true, false, ◌||◌, Option, Some, None, is_some, List, [], ◌∷◌, length, drop, refl, sym, ◌∙◌, ap, subst, arith}
use Rattle.std.proofs.lemmas.Bool.{eqb-true, both_ways, false_from_ne_true}
use Rattle.std.proofs.Math.Seq.{drop-length}
use Rattle.std.specs.Prelude.{nat_eq, if◌then◌else◌}
use Rattle.std.specs.List.{list_any}
use Rattle.pv_base.specs.declared.Name.{Name}
use Rattle.pv_ast.specs.declared.Word.{Word}
use Rattle.pv_ast.specs.declared.Range.{Range}
use Rattle.pv_ast.specs.declared.Param.{Param}
use Rattle.pv_ast.specs.declared.PvType.{PvType}
use Rattle.pv_ast.specs.declared.PvType.TheVariants.{Int, Null}
use Rattle.pv_ast.specs.declared.fault.Rule.TheVariants as rule
use Rattle.pv_ast.specs.declared.scope.Declaration.{Declaration}
use Rattle.pv_ast.specs.declared.scope.Declaration.TheVariants.{Parameter, LoopVariable, Block}
use Rattle.pv_ast.specs.declared.scope.Declared.{Declared}
use Rattle.pv_base.specs.Names.{same_name}
use Rattle.pv_ast.specs.Rules.Scoping.{Visible, nothing_visible, declared_as, declare_variable, entered, is_visible, is_block, is_local, is_local_variable, is_inner_local, as_variable, variable_named}
use Rattle.pv_ast.specs.Rules.Expressions.{Environment}
use Rattle.pv_ast.specs.Rules.Statements.{shadows, with_block}
use Rattle.pv_ast.specs.Rules.Programs.{with_param, with_params, faults_of_params}
use Rattle.pv_picks.specs.Elaborating.Names.{parameters_of}
use Rattle.core_trees.specs.Resolved.{InScope, names_of}
use Rattle.pv_picks.specs.Elaborating.Statements.{inside_for, inside_par}
use Rattle.core_trees.proofs.Clean.{Clean, if_fails}
use Rattle.core_trees.proofs.Agreeing.{or_else, with_name, declared_new, declared_more, inner_with, within_more}

-- the names are those of the variables in scope
abbrev pub AreNames : Visible → List Name → Type 0
AreNames v names = (n : Name) → list_any (same_name n) names ≡ is_some (variable_named v n)

pub no_names : AreNames nothing_visible []
no_names n = refl

-- what is found under a name is found under an equal one
same_declared : (names : List (ℕ × Declared)) (n other : Name) → nat_eq n.0 other.0 ≡ true
    → declared_as names n ≡ declared_as names other
same_declared names n other h = ap (λ k. declared_as names (record { 0 = k })) (eqb-true n.0 other.0 h)

none_found : (o : Option Declared) → is_some o ≡ false → o ≡ None
none_found None h = refl
none_found (Some d) h = absurd cc

-- a name in scope is no new one
pub not_new : (v : Visible) (n other : Name) → is_visible v n ≡ true → is_visible v other ≡ false → nat_eq n.0 other.0 ≡ false
not_new v n other there new = false_from_ne_true (nat_eq n.0 other.0) (λ h.
    both_ways (is_visible v n) (ap is_some (same_declared v.names n other h) ∙ new) there)

-- One more name in scope

visible_else : (x y : Option Declared) → is_some x ≡ true → is_some (or_else x y) ≡ true
visible_else None y h = absurd cc
visible_else (Some x) y h = refl

visible_if : (b : Bool) (v w : Visible) (n : Name) → is_visible v n ≡ true → is_visible w n ≡ true
    → is_visible (if b then v else w) n ≡ true
visible_if true v w n h k = h
visible_if false v w n h k = k

pub still_visible : (v : Visible) (how : Declaration) (name : Name) (type : PvType) (n : Name) → is_visible v n ≡ true
    → is_visible (declare_variable how v name type) n ≡ true
still_visible v how name type n h =
    let d : Declared = record { declaration = how; kind = type } in
    visible_if (is_visible v name) v (with_name v (name.0, d)) n h
    (ap is_some (declared_more v.names (name.0, d) n) ∙ visible_else (declared_as v.names n) (declared_as ((name.0, d) ∷ []) n) h)

variable_more : (b : Bool) (o : Option Declared) (d : Declared) → is_block d.declaration ≡ false → (b ≡ true → o ≡ None)
    → (b || is_some (as_variable o)) ≡ is_some (as_variable (or_else o (if b then Some d else None)))
variable_more true None d h new = ap (λ c. is_some (if c then None else Some d)) (sym h)
variable_more true (Some x) d h new = absurd (let no : Some x ≡ None = new refl in cc)
variable_more false None d h new = refl
variable_more false (Some x) d h new = refl

pub names_with : (v : Visible) (names : List Name) (how : Declaration) (name : Name) (type : PvType) → is_block how ≡ false
    → is_visible v name ≡ false
    → AreNames v names → AreNames (declare_variable how v name type) (name ∷ names)
names_with v names how name type variable new are =
    let d : Declared = record { declaration = how; kind = type } in
    subst (λ (w : Visible). AreNames w (name ∷ names)) (sym (declared_new v name d new)) (λ n.
    ap (λ b. same_name n name || b) (are n)
    ∙ variable_more (same_name n name) (declared_as v.names n) d variable
    (λ h. same_declared v.names n name h ∙ none_found (declared_as v.names name) new)
    ∙ ap (λ o. is_some (as_variable o)) (sym (declared_more v.names (name.0, d) n)))

block_more : (b : Bool) (o : Option Declared) (d : Declared) → is_block d.declaration ≡ true
    → is_some (as_variable o) ≡ is_some (as_variable (or_else o (if b then Some d else None)))
block_more true None d h = ap (λ c. is_some (if c then None else Some d)) (sym h)
block_more false None d h = refl
block_more b (Some x) d h = refl

names_if : (b : Bool) (v w : Visible) (names : List Name) → AreNames v names → AreNames w names
    → AreNames (if b then v else w) names
names_if true v w names h k = h
names_if false v w names h k = k

-- a block's name is no variable
pub names_block : (v : Visible) (o : Option Word) (names : List Name) → AreNames v names → AreNames (with_block v o) names
names_block v None names are = are
names_block v (Some w) names are =
    let d : Declared = record { declaration = Block; kind = Null } in
    names_if (is_visible v w.name) v (with_name v (w.name.0, d)) names are (λ n.
    are n ∙ block_more (same_name n w.name) (declared_as v.names n) d refl
    ∙ ap (λ o. is_some (as_variable o)) (sym (declared_more v.names (w.name.0, d) n)))

or_same : (b c : Bool) → (b ≡ true → c ≡ true) → (b || c) ≡ c
or_same true c h = sym (h refl)
or_same false c h = refl

-- a name that is in scope already
pub names_again : (v : Visible) (names : List Name) (name : Name) → is_some (variable_named v name) ≡ true → AreNames v names
    → AreNames v (name ∷ names)
names_again v names name there are = λ n.
    ap (λ b. same_name n name || b) (are n)
    ∙ or_same (same_name n name) (is_some (variable_named v n))
    (λ h. ap (λ o. is_some (as_variable o)) (same_declared v.names n name h) ∙ there)

variable_seen : (o : Option Declared) → is_some (as_variable o) ≡ true → is_some o ≡ true
variable_seen None h = h
variable_seen (Some d) h = refl

-- a name of the list is in scope
pub listed_visible : (v : Visible) (names : List Name) → AreNames v names → (n : Name) → InScope names n → is_visible v n ≡ true
listed_visible v names are n h = variable_seen (declared_as v.names n) (sym (are n) ∙ h)

-- Parameters

or_turned : (b c d : Bool) → (c || (b || d)) ≡ ((b || c) || d)
or_turned true true d = refl
or_turned true false d = refl
or_turned false true d = refl
or_turned false false d = refl

or_last : (b : Bool) → (b || false) ≡ b
or_last true = refl
or_last false = refl

params_named : (a : Environment) (v : Visible) (ps : List Param) (before : List Name) → Clean (faults_of_params a v ps)
    → AreNames v before
    → (n : Name) → (list_any (same_name n) before || list_any (same_name n) (names_of (parameters_of ps))) ≡ is_some
    (variable_named (with_params v ps) n)
params_named a v [] before clean are n = or_last (list_any (same_name n) before) ∙ are n
params_named a v (p ∷ ps) before clean are n =
    or_turned (same_name n p.name.name) (list_any (same_name n) before) (list_any (same_name n) (names_of (parameters_of ps)))
    ∙ params_named a (with_param v p) ps (p.name.name ∷ before) clean.1.1
    (names_with v before Parameter p.name.name p.kind.kind refl
    (if_fails (is_visible v p.name.name) rule.Shadows p.name.span clean.1.0) are) n

pub names_of_params : (a : Environment) (ps : List Param) → Clean (faults_of_params a nothing_visible ps)
    → AreNames (with_params nothing_visible ps) (names_of (parameters_of ps))
names_of_params a ps clean = params_named a nothing_visible ps [] clean no_names

-- Locals of the innermost body

-- the names outside come first
abbrev pub IsWithin : Visible → Type 0
IsWithin v = v.outside ≤ length v.names

-- the head of a body has no locals of that body
abbrev pub IsHead : Visible → Type 0
IsHead v = IsWithin v × ((n : Name) → is_inner_local v n ≡ false)

within_if : (b : Bool) (v w : Visible) → IsWithin v → IsWithin w → IsWithin (if b then v else w)
within_if true v w h k = h
within_if false v w h k = k

pub within_with : (v : Visible) (how : Declaration) (name : Name) (type : PvType) → IsWithin v
    → IsWithin (declare_variable how v name type)
within_with v how name type h =
    let d : Declared = record { declaration = how; kind = type } in
    within_if (is_visible v name) v (with_name v (name.0, d)) h (within_more v.outside v.names (name.0, d) h)

local_else : (x : Option Declared) (b : Bool) (d : Declared) → is_local_variable x ≡ false
    → (b ≡ true → is_local d.declaration ≡ false)
    → is_local_variable (or_else x (if b then Some d else None)) ≡ false
local_else None true d h k = k refl
local_else None false d h k = refl
local_else (Some x) b d h k = h

inner_if : (b : Bool) (v w : Visible) (n : Name) → is_inner_local v n ≡ false → is_inner_local w n ≡ false
    → is_inner_local (if b then v else w) n ≡ false
inner_if true v w n h k = h
inner_if false v w n h k = k

-- one more name that is no local, or another one
pub inner_still : (v : Visible) (how : Declaration) (name : Name) (type : PvType) (n : Name) → IsWithin v
    → (nat_eq n.0 name.0 ≡ true → is_local how ≡ false)
    → is_inner_local v n ≡ false → is_inner_local (declare_variable how v name type) n ≡ false
inner_still v how name type n within other h =
    let d : Declared = record { declaration = how; kind = type } in
    inner_if (is_visible v name) v (with_name v (name.0, d)) n h
    (ap is_local_variable (inner_with v (name.0, d) n within)
    ∙ local_else (declared_as (drop v.outside v.names) n) (nat_eq n.0 name.0) d h other)

head_with : (v : Visible) (how : Declaration) (name : Name) (type : PvType) → is_local how ≡ false → IsHead v
    → IsHead (declare_variable how v name type)
head_with v how name type other head =
    (within_with v how name type head.0, λ n. inner_still v how name type n head.0 (λ same. other) (head.1 n))

head_entered : (v : Visible) → IsHead (entered v)
head_entered v = (omega arith, λ n. ap (λ names. is_local_variable (declared_as names n)) (drop-length v.names))

head_block : (v : Visible) (o : Option Word) → IsHead v → IsHead (with_block v o)
head_block v None head = head
head_block v (Some w) head = head_with v Block w.name Null refl head

head_params : (v : Visible) (ps : List Param) → IsHead v → IsHead (with_params v ps)
head_params v [] head = head
head_params v (p ∷ ps) head = head_params (with_param v p) ps (head_with v Parameter p.name.name p.kind.kind refl head)

pub head_of_params : (ps : List Param) → IsHead (with_params nothing_visible ps)
head_of_params ps = head_params nothing_visible ps (omega arith, λ n. refl)

-- Par blocks and counted loops

pub head_for : (v : Visible) (range : Range) → IsHead (inside_for v range)
head_for v range = head_with (entered v) LoopVariable range.name.name Int refl (head_entered v)

pub head_par : (v : Visible) (o : Option Word) (range : Range) → IsHead (inside_par v o range)
head_par v o range = head_with (with_block (entered v) o) LoopVariable range.name.name Int refl
    (head_block (entered v) o (head_entered v))

pub visible_for : (v : Visible) (range : Range) (n : Name) → is_visible v n ≡ true → is_visible (inside_for v range) n ≡ true
visible_for v range n h = still_visible (entered v) LoopVariable range.name.name Int n h

visible_block : (v : Visible) (o : Option Word) (n : Name) → is_visible v n ≡ true → is_visible (with_block v o) n ≡ true
visible_block v None n h = h
visible_block v (Some w) n h = still_visible v Block w.name Null n h

pub visible_par : (v : Visible) (o : Option Word) (range : Range) (n : Name) → is_visible v n ≡ true
    → is_visible (inside_par v o range) n ≡ true
visible_par v o range n h = still_visible (with_block (entered v) o) LoopVariable range.name.name Int n
    (visible_block (entered v) o n h)

pub names_for : (v : Visible) (range : Range) (names : List Name) → Clean (shadows (entered v) range.name) → AreNames v names
    → AreNames (inside_for v range) (range.name.name ∷ names)
names_for v range names clean are =
    names_with (entered v) names LoopVariable range.name.name Int refl
    (if_fails (is_visible (entered v) range.name.name) rule.Shadows range.name.span clean) are

pub names_par : (v : Visible) (o : Option Word) (range : Range) (names : List Name)
    → Clean (shadows (with_block (entered v) o) range.name) → AreNames v names
    → AreNames (inside_par v o range) (range.name.name ∷ names)
names_par v o range names clean are =
    names_with (with_block (entered v) o) names LoopVariable range.name.name Int refl
    (if_fails (is_visible (with_block (entered v) o) range.name.name) rule.Shadows range.name.span clean)
    (names_block (entered v) o names are)
