-- What is made of resolved parts is resolved.
use Rattle.std.proofs.Common.{◌≡◌, ℕ, ℤ, Bool, true, false, Option, Some, None, List, [], ◌∷◌, ◌++◌}
use Rattle.std.specs.Prelude.{if◌then◌else◌}
use Rattle.std.specs.List.{AllByRecursion}
use Rattle.pv_base.specs.declared.Name.{Name}
use Rattle.pv_base.specs.declared.Span.{Span}
use Rattle.pv_ast.specs.declared.Operator.{Operator}
use Rattle.pv_ast.specs.declared.Operator.TheVariants as op
use Rattle.pv_ast.specs.declared.PvType.{PvType}
use Rattle.pv_ast.specs.Rules.Items.{Form, variable, literal, shift, element, guard, fixing, other}
use Rattle.pv_picks.specs.Plain.Core.{Program, Expression, Cut, Formula, Items, Item}
use Rattle.pv_picks.specs.Plain.Core as core
use Rattle.pv_picks.specs.Elaborating.Operations.{is_literal, plainly, compared, operation, negation, is_position, cut_before, cut_behind, cuts_of, term_of, permission, permissions, target_of}
use Rattle.pv_picks.specs.Elaborating.Expressions.{shifted, together}
use Rattle.core_trees.specs.Resolved.{Resolved, ResolvedCut, ResolvedFormula, ResolvedItems, ResolvedItem, ResolvedTarget, field_type}

-- a field has the declared type
abbrev pub PlaceTyped : Program → PvType → Expression → Type 0
PlaceTyped p type (core.Field e class field span) = field_type p class field ≡ Some type
PlaceTyped p type _ = Unit {0}

-- Operations

plainly_kept : (p : Program) (names : List Name) (e : Expression) → Resolved p names e → Resolved p names (plainly e)
plainly_kept p names (core.Compute m core.Minus x y span) h = h
plainly_kept p names (core.Compute m core.Plus x y span) h = h
plainly_kept p names (core.Compute m core.Times x y span) h = h
plainly_kept p names (core.Constant v) h = h
plainly_kept p names core.This h = h
plainly_kept p names core.Result h = h
plainly_kept p names (core.Variable name) h = h
plainly_kept p names (core.Field e class field span) h = h
plainly_kept p names (core.Element type e i span) h = h
plainly_kept p names (core.Length type e span) h = h
plainly_kept p names (core.Not e) h = h
plainly_kept p names (core.Compare c x y) h = h
plainly_kept p names (core.Equal same x y) h = h
plainly_kept p names (core.And x y) h = h
plainly_kept p names (core.Or x y) h = h
plainly_kept p names (core.Implies x y) h = h
plainly_kept p names (core.Old e) h = h

compared_if : (p : Program) (names : List Name) (b : Bool) (e : Expression) → Resolved p names e
    → Resolved p names (if b then plainly e else e)
compared_if p names true e h = plainly_kept p names e h
compared_if p names false e h = h

compared_kept : (p : Program) (names : List Name) (x y : Expression) → Resolved p names y → Resolved p names (compared x y)
compared_kept p names x y h = compared_if p names (is_literal x) y h

pub operation_kept : (p : Program) (names : List Name) (o : Operator) (span : Span) (x y : Expression) → Resolved p names x
    → Resolved p names y → Resolved p names (operation o span x y)
operation_kept p names op.Add span x y h k = (h, k)
operation_kept p names op.Sub span x y h k = (h, k)
operation_kept p names op.Mul span x y h k = (h, k)
operation_kept p names op.Eq span x y h k = (compared_kept p names y x h, compared_kept p names x y k)
operation_kept p names op.Ne span x y h k = (compared_kept p names y x h, compared_kept p names x y k)
operation_kept p names op.Lt span x y h k = (compared_kept p names y x h, compared_kept p names x y k)
operation_kept p names op.Le span x y h k = (compared_kept p names y x h, compared_kept p names x y k)
operation_kept p names op.Gt span x y h k = (compared_kept p names y x h, compared_kept p names x y k)
operation_kept p names op.Ge span x y h k = (compared_kept p names y x h, compared_kept p names x y k)
operation_kept p names op.And span x y h k = (h, k)
operation_kept p names op.Or span x y h k = (h, k)
operation_kept p names op.Implies span x y h k = (h, k)
operation_kept p names op.Star span x y h k = (h, k)

pub operation_no_place : (p : Program) (type : PvType) (o : Operator) (span : Span) (x y : Expression)
    → PlaceTyped p type (operation o span x y)
operation_no_place p type op.Add span x y = tt
operation_no_place p type op.Sub span x y = tt
operation_no_place p type op.Mul span x y = tt
operation_no_place p type op.Eq span x y = tt
operation_no_place p type op.Ne span x y = tt
operation_no_place p type op.Lt span x y = tt
operation_no_place p type op.Le span x y = tt
operation_no_place p type op.Gt span x y = tt
operation_no_place p type op.Ge span x y = tt
operation_no_place p type op.And span x y = tt
operation_no_place p type op.Or span x y = tt
operation_no_place p type op.Implies span x y = tt
operation_no_place p type op.Star span x y = tt

pub negation_kept : (p : Program) (names : List Name) (written : Option ℕ) (span : Span) (x : Expression) → Resolved p names x
    → Resolved p names (negation written span x)
negation_kept p names None span x h = (tt, h)
negation_kept p names (Some n) span x h = tt

pub negation_no_place : (p : Program) (type : PvType) (written : Option ℕ) (span : Span) (x : Expression)
    → PlaceTyped p type (negation written span x)
negation_no_place p type None span x = tt
negation_no_place p type (Some n) span x = tt

-- Guards

before_kept : (p : Program) (names : List Name) (c : core.Comparison) (e : Expression) → Resolved p names e
    → ResolvedCut p names (cut_before c e)
before_kept p names core.Less e h = h
before_kept p names core.AtMost e h = h
before_kept p names core.Greater e h = h
before_kept p names core.AtLeast e h = h

behind_kept : (p : Program) (names : List Name) (c : core.Comparison) (e : Expression) → Resolved p names e
    → ResolvedCut p names (cut_behind c e)
behind_kept p names core.Less e h = h
behind_kept p names core.AtMost e h = h
behind_kept p names core.Greater e h = h
behind_kept p names core.AtLeast e h = h

cut_if : (p : Program) (names : List Name) (a b : Bool) (c : core.Comparison) (x y : Expression) → Resolved p names x
    → Resolved p names y → ResolvedCut p names (if a then cut_before c y else
    (if b then cut_behind c x else core.Provided (core.Compare c x y)))
cut_if p names true b c x y h k = before_kept p names c y k
cut_if p names false true c x y h k = behind_kept p names c x h
cut_if p names false false c x y h k = (h, k)

cuts_append : (p : Program) (names : List Name) (cs ds : List Cut) → AllByRecursion (ResolvedCut p names) cs
    → AllByRecursion (ResolvedCut p names) ds → AllByRecursion (ResolvedCut p names) (cs ++ ds)
cuts_append p names [] ds h k = k
cuts_append p names (c ∷ cs) ds h k = (h.0, cuts_append p names cs ds h.1 k)

pub cuts_kept : (p : Program) (names : List Name) (name : Name) (e : Expression) → Resolved p names e
    → AllByRecursion (ResolvedCut p names) (cuts_of name e)
cuts_kept p names name (core.And x y) h =
    cuts_append p names (cuts_of name x) (cuts_of name y) (cuts_kept p names name x h.0) (cuts_kept p names name y h.1)
cuts_kept p names name (core.Compare c x y) h = (cut_if p names (is_position name x) (is_position name y) c x y h.0 h.1, tt)
cuts_kept p names name (core.Constant v) h = (h, tt)
cuts_kept p names name core.This h = (h, tt)
cuts_kept p names name core.Result h = (h, tt)
cuts_kept p names name (core.Variable n) h = (h, tt)
cuts_kept p names name (core.Field e class field span) h = (h, tt)
cuts_kept p names name (core.Element type e i span) h = (h, tt)
cuts_kept p names name (core.Length type e span) h = (h, tt)
cuts_kept p names name (core.Not e) h = (h, tt)
cuts_kept p names name (core.Compute m o x y span) h = (h, tt)
cuts_kept p names name (core.Equal same x y) h = (h, tt)
cuts_kept p names name (core.Or x y) h = (h, tt)
cuts_kept p names name (core.Implies x y) h = (h, tt)
cuts_kept p names name (core.Old e) h = (h, tt)

pub term_kept : (p : Program) (names : List Name) (e : Expression) → Resolved p names e → Resolved p names (term_of e)
term_kept p names (core.Equal same x y) h = h.1
term_kept p names (core.And x y) h = tt
term_kept p names (core.Compare c x y) h = tt
term_kept p names (core.Constant v) h = tt
term_kept p names core.This h = tt
term_kept p names core.Result h = tt
term_kept p names (core.Variable n) h = tt
term_kept p names (core.Field e class field span) h = tt
term_kept p names (core.Element type e i span) h = tt
term_kept p names (core.Length type e span) h = tt
term_kept p names (core.Not e) h = tt
term_kept p names (core.Compute m o x y span) h = tt
term_kept p names (core.Or x y) h = tt
term_kept p names (core.Implies x y) h = tt
term_kept p names (core.Old e) h = tt

-- Places

pub permission_kept : (p : Program) (names : List Name) (type : PvType) (units : ℕ) (span : Span) (e : Expression)
    → Resolved p names e → PlaceTyped p type e → ResolvedFormula p names (permission type units span e)
permission_kept p names type units span (core.Field e class field at) h k = (h.0, k)
permission_kept p names type units span (core.Element t e i at) h k = h
permission_kept p names type units span (core.Equal same x y) h k = tt
permission_kept p names type units span (core.And x y) h k = tt
permission_kept p names type units span (core.Compare c x y) h k = tt
permission_kept p names type units span (core.Constant v) h k = tt
permission_kept p names type units span core.This h k = tt
permission_kept p names type units span core.Result h k = tt
permission_kept p names type units span (core.Variable n) h k = tt
permission_kept p names type units span (core.Length t e at) h k = tt
permission_kept p names type units span (core.Not e) h k = tt
permission_kept p names type units span (core.Compute m o x y at) h k = tt
permission_kept p names type units span (core.Or x y) h k = tt
permission_kept p names type units span (core.Implies x y) h k = tt
permission_kept p names type units span (core.Old e) h k = tt

permissions_kept : (p : Program) (names : List Name) (s : ℤ) (units : ℕ) (span : Span) (e : Expression) → Resolved p names e
    → ResolvedItem p names (permissions s units span e)
permissions_kept p names s units span (core.Element t e i at) h = h.0
permissions_kept p names s units span (core.Field e class field at) h = tt
permissions_kept p names s units span (core.Equal same x y) h = tt
permissions_kept p names s units span (core.And x y) h = tt
permissions_kept p names s units span (core.Compare c x y) h = tt
permissions_kept p names s units span (core.Constant v) h = tt
permissions_kept p names s units span core.This h = tt
permissions_kept p names s units span core.Result h = tt
permissions_kept p names s units span (core.Variable n) h = tt
permissions_kept p names s units span (core.Length t e at) h = tt
permissions_kept p names s units span (core.Not e) h = tt
permissions_kept p names s units span (core.Compute m o x y at) h = tt
permissions_kept p names s units span (core.Or x y) h = tt
permissions_kept p names s units span (core.Implies x y) h = tt
permissions_kept p names s units span (core.Old e) h = tt

pub shifted_kept : (p : Program) (names : List Name) (form : Form) (units : ℕ) (span : Span) (e : Expression) → Resolved p names e
    → ResolvedItem p names (shifted form units span e)
shifted_kept p names (element s) units span e h = permissions_kept p names s units span e h
shifted_kept p names variable units span e h = tt
shifted_kept p names (literal n) units span e h = tt
shifted_kept p names (shift s) units span e h = tt
shifted_kept p names guard units span e h = tt
shifted_kept p names fixing units span e h = tt
shifted_kept p names other units span e h = tt

pub target_kept : (p : Program) (names : List Name) (e : Expression) → Resolved p names e → ResolvedTarget p names (target_of e)
target_kept p names (core.Variable n) h = tt
target_kept p names (core.Field e class field at) h = h
target_kept p names (core.Element t e i at) h = h
target_kept p names (core.Equal same x y) h = tt
target_kept p names (core.And x y) h = tt
target_kept p names (core.Compare c x y) h = tt
target_kept p names (core.Constant v) h = tt
target_kept p names core.This h = tt
target_kept p names core.Result h = tt
target_kept p names (core.Length t e at) h = tt
target_kept p names (core.Not e) h = tt
target_kept p names (core.Compute m o x y at) h = tt
target_kept p names (core.Or x y) h = tt
target_kept p names (core.Implies x y) h = tt
target_kept p names (core.Old e) h = tt

-- Formulas and items

pub formula_if : (p : Program) (names : List Name) (b : Bool) (f g : Formula) → ResolvedFormula p names f
    → ResolvedFormula p names g → ResolvedFormula p names (if b then f else g)
formula_if p names true f g h k = h
formula_if p names false f g h k = k

pub item_if : (p : Program) (names : List Name) (b : Bool) (i j : Item) → ResolvedItem p names i → ResolvedItem p names j
    → ResolvedItem p names (if b then i else j)
item_if p names true i j h k = h
item_if p names false i j h k = k

pub items_if : (p : Program) (names : List Name) (b : Bool) (is js : Items) → ResolvedItems p names is → ResolvedItems p names js
    → ResolvedItems p names (if b then is else js)
items_if p names true is js h k = h
items_if p names false is js h k = k

pub together_kept : (p : Program) (names : List Name) (is js : Items) → ResolvedItems p names is → ResolvedItems p names js
    → ResolvedItems p names (together is js)
together_kept p names core.NoItems js h k = k
together_kept p names (core.Join i is) js h k = (h.0, together_kept p names is js h.1 k)
