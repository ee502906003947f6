-- What the rules say of an expression: its type in a scope, and its faults. Each rule of expressions is a case of its own; a
-- whole expression is read by one step a node, over what its parts gave.
use Rattle.std.specs.Prelude.{Bool, true, false, not, ◌&&◌, ◌||◌, nat_eq, Option, Some, None, is_some, List, [], ◌∷◌, map, length, if◌then◌else◌}
use Rattle.pv_base.specs.declared.Name.{Name}
use Rattle.pv_base.specs.declared.Span.{Span}
use Rattle.pv_ast.specs.declared.Word.{Word}
use Rattle.pv_ast.specs.declared.Token.{Token}
use Rattle.pv_ast.specs.declared.Token.TheVariants.{Idle, Running, Committed, Uncommitted}
use Rattle.pv_ast.specs.declared.PvType.{PvType}
use Rattle.pv_ast.specs.declared.PvType.TheVariants.{Int, Truth, Object, IntArray, TruthArray, Null}
use Rattle.pv_ast.specs.declared.Expr.{Expr, Expr-F, fold-Expr}
use Rattle.pv_ast.specs.declared.ExprKind.{ExprKind, ExprKind-F, fold-ExprKind}
use Rattle.pv_ast.specs.declared.Each.{Each, Each-F, fold-Each}
use Rattle.pv_ast.specs.declared.Param.{Param}
use Rattle.pv_ast.specs.declared.Predicate.{Predicate}
use Rattle.pv_ast.specs.declared.Method.{Method}
use Rattle.pv_ast.specs.declared.Member.{Member}
use Rattle.pv_ast.specs.declared.Class.{Class}
use Rattle.pv_ast.specs.declared.Program.{Program}
use Rattle.pv_ast.specs.declared.fault.Rule.TheVariants as rule
use Rattle.pv_ast.specs.declared.scope.Declaration.TheVariants.{Bound}
use Rattle.pv_ast.specs.declared.scope.Declared.{Declared}
use Rattle.pv_ast.specs.declared.standing.Context.{Context}
use Rattle.pv_ast.specs.declared.standing.Need.{Need}
use Rattle.pv_ast.specs.declared.standing.Need.TheVariants.{Anything, Exactly, AnObject, AnArray, AnObjectOrArray}
use Rattle.pv_ast.specs.declared.standing.Seen.{Seen}
use Rattle.pv_ast.specs.declared.standing.Typing.{Typing}
use Rattle.pv_ast.specs.declared.standing.Typing.TheVariants.{Unsettled, Untyped, Typed}
use Rattle.pv_ast.specs.Rules.Faults.{Faults, none, both, broken_if, broken_unless}
use Rattle.pv_ast.specs.Rules.Lookup.{class_named, field_named, predicate_named, method_named, has_run, has_lock_invariant}
use Rattle.pv_base.specs.Names.{same_name}
use Rattle.pv_ast.specs.Rules.Scoping.{Visible, declare_variable, is_visible, variable_named, is_local_variable, is_inner_local}
use Rattle.pv_ast.specs.Rules.Typing as typing

-- what stands around an expression: the program, the class of `this` (under its name, and where that is declared), and the
-- type of `\result`
pub record Environment : Type 0 where
  pub program : Program
  pub class : Name
  pub here : Option Class
  pub result : Option PvType

-- what the rules say of a part of an expression
pub record CheckedExpression : Type 0 where
  pub span : Span
  pub seen : Environment → Visible → Seen
  pub faults : Environment → Visible → Context → Need → Faults

-- the same of its kind, without what is needed of it
pub record CheckedKind : Type 0 where
  pub seen : Environment → Visible → Seen
  pub faults : Span → Environment → Visible → Context → Faults

abbrev pub typing_in : CheckedExpression → Environment → Visible → Typing
typing_in p a v = (p.seen a v).typing

abbrev pub names_local : CheckedExpression → Environment → Visible → Bool
names_local p a v = (p.seen a v).local

-- a value that is no place, under a type
abbrev pub value_seen : Typing → Bool → Seen
value_seen typing local = record { typing = typing; this = false; location = false; local = local }

abbrev pub place_seen : Typing → Bool → Seen
place_seen typing local = record { typing = typing; this = false; location = true; local = local }

-- Classes and members

-- the class of an object: `this` has the class that stands there, another object the first class of its type's name
abbrev pub class_of : Environment → Bool → Name → Option Class
class_of a this name = if this then a.here else class_named a.program.classes name

-- where a member is looked up: nowhere, since the part has no class type, or among the members of its class
pub data Holder : Type 0 where
  nowhere : Holder
  among : List Member → Holder

abbrev pub members_of : Option Class → List Member
members_of None = []
members_of (Some c) = c.members

abbrev pub holder_of_type : Environment → Bool → PvType → Holder
holder_of_type a this (Object name) = among (members_of (class_of a this name))
holder_of_type a this Int = nowhere
holder_of_type a this Truth = nowhere
holder_of_type a this IntArray = nowhere
holder_of_type a this TruthArray = nowhere
holder_of_type a this Null = nowhere

abbrev pub holder_of_typing : Environment → Bool → Typing → Holder
holder_of_typing a this Unsettled = nowhere
holder_of_typing a this Untyped = nowhere
holder_of_typing a this (Typed type) = holder_of_type a this type

abbrev pub type_of_param : Option Param → Option PvType
type_of_param None = None
type_of_param (Some p) = Some p.kind.kind

abbrev pub typing_of_field_in : Holder → Name → Typing
typing_of_field_in nowhere name = Unsettled
typing_of_field_in (among members) name = typing.typing_or Unsettled (type_of_param (field_named members name))

-- no field of the name is among the members
abbrev pub lacks_field : Holder → Name → Bool
lacks_field nowhere name = false
lacks_field (among members) name = not (is_some (field_named members name))

abbrev pub holder_of : Environment → Seen → Holder
holder_of a s = holder_of_typing a s.this s.typing

abbrev pub is_name : Option Name → Name → Bool
is_name None name = false
is_name (Some other) name = same_name other name

-- the name is `length`
abbrev pub is_length : Environment → Name → Bool
is_length a name = is_name a.program.length name

abbrev pub types_of : List Param → List PvType
types_of params = map (λ p. p.kind.kind) params

-- the type of a field of a class
abbrev pub type_of_field : Option Class → Name → Option PvType
type_of_field class name = type_of_param (field_named (members_of class) name)

-- Variables, and fields of `this` by their names alone

abbrev pub seen_of_name : Environment → Name → Option Declared → Seen
seen_of_name a name None = place_seen (typing.typing_or Unsettled (type_of_field a.here name)) false
seen_of_name a name (Some d) = value_seen (Typed d.kind) (is_local_variable (Some d))

-- a name means a variable in scope, or else a field of `this`
abbrev pub is_declared_name : Environment → Visible → Name → Bool
is_declared_name a v name = is_some (variable_named v name) || is_some (type_of_field a.here name)

abbrev pub faults_of_name : Environment → Visible → Context → Word → Faults
faults_of_name a v c w =
    both (broken_unless (is_declared_name a v w.name) rule.UnknownName w.span)
    (broken_if (not c.locals && is_inner_local v w.name) rule.FormulaScope w.span)

abbrev pub seen_of_result : Option PvType → Seen
seen_of_result result = value_seen (typing.typing_or Untyped result) false

-- Fields and the length of an array

-- `length` behind an array is no field
abbrev pub is_array_length : Environment → Name → Typing → Bool
is_array_length a name target = typing.meets AnArray target && is_length a name

-- the type of a field, or the length of an array
abbrev pub typing_of_member : Environment → Name → Seen → Typing
typing_of_member a name s =
    if is_array_length a name s.typing then Typed Int else typing_of_field_in (holder_of a s) name

abbrev pub seen_of_member : Environment → Name → Seen → Seen
seen_of_member a name s = record {
  typing = typing_of_member a name s;
  this = false;
  location = not (is_array_length a name s.typing);
  local = s.local;
}

-- `length` may stand behind an array too
abbrev pub need_of_target : Environment → Name → Need
need_of_target a name = if is_length a name then AnObjectOrArray else AnObject

-- Threads and locks

-- a class has what the token speaks of: a `run` for threads, a lock invariant for locks
abbrev pub has_role : Token → Class → Bool
has_role Idle class = has_run class
has_role Running class = has_run class
has_role Committed class = has_lock_invariant class
has_role Uncommitted class = has_lock_invariant class

-- the class that a part has, where it is declared
abbrev pub class_of_typing : Environment → Bool → Typing → Option Class
class_of_typing a this (Typed (Object name)) = class_of a this name
class_of_typing a this _ = None

abbrev pub class_lacks : (Class → Bool) → Option Class → Bool
class_lacks has None = false
class_lacks has (Some class) = not (has class)

-- the part's class is declared, and has no such role
abbrev pub lacks_role : (Class → Bool) → Environment → Seen → Bool
lacks_role has a s = class_lacks has (class_of_typing a s.this s.typing)

-- Arguments, of predicates and of methods

-- each argument has a type, and its parameter's where there is one
abbrev pub args_meet : List CheckedExpression → List PvType → Environment → Visible → Bool
args_meet [] types a v = true
args_meet (p ∷ ps) [] a v = typing.is_typed (typing_in p a v) && args_meet ps [] a v
args_meet (p ∷ ps) (type ∷ types) a v = typing.meets (Exactly type) (typing_in p a v) && args_meet ps types a v

-- an argument needs its parameter's type; one beyond the parameters needs none
abbrev pub faults_of_args : List CheckedExpression → List PvType → Environment → Visible → Context → Faults
faults_of_args [] types a v c = none
faults_of_args (p ∷ ps) [] a v c = both (p.faults a v c Anything) (faults_of_args ps [] a v c)
faults_of_args (p ∷ ps) (type ∷ types) a v c = both (p.faults a v c (Exactly type)) (faults_of_args ps types a v c)

-- what stands before the name of a method or predicate: nothing, which means `this`, or an object
abbrev pub seen_of_target : Environment → Visible → Option CheckedExpression → Seen
seen_of_target a v None = record { typing = Typed (Object a.class); this = true; location = false; local = false }
seen_of_target a v (Some p) = p.seen a v

abbrev pub faults_of_target : Environment → Visible → Context → Option CheckedExpression → Faults
faults_of_target a v c None = none
faults_of_target a v c (Some p) = p.faults a v c AnObject

-- what is known of the parameters of a method or predicate: nothing where it isn't looked up or where it isn't declared, or their
-- types
pub data Signature : Type 0 where
  unsought : Signature
  unknown : Signature
  taking : List PvType → Signature

abbrev pub param_types : Signature → List PvType
param_types unsought = []
param_types unknown = []
param_types (taking types) = types

abbrev pub is_unknown : Signature → Bool
is_unknown unsought = false
is_unknown unknown = true
is_unknown (taking types) = false

abbrev pub is_wrong_count : List CheckedExpression → Signature → Bool
is_wrong_count args unsought = false
is_wrong_count args unknown = false
is_wrong_count args (taking types) = not (nat_eq (length args) (length types))

abbrev pub signature_of_predicate : Option Predicate → Signature
signature_of_predicate None = unknown
signature_of_predicate (Some p) = taking (types_of p.params)

abbrev pub signature_of_method : Option Method → Signature
signature_of_method None = unknown
signature_of_method (Some m) = taking (types_of m.params)

abbrev pub predicate_signature : Holder → Name → Signature
predicate_signature nowhere name = unsought
predicate_signature (among members) name = signature_of_predicate (predicate_named members name)

abbrev pub method_signature : Holder → Name → Signature
method_signature nowhere name = unsought
method_signature (among members) name = signature_of_method (method_named members name)

-- the method that is called, where it is looked up and declared
abbrev pub method_in : Holder → Name → Option Method
method_in nowhere name = None
method_in (among members) name = method_named members name

-- The use of a method or predicate: its name is declared, and it has an argument of its type for each parameter.
abbrev pub faults_of_use : Word → List CheckedExpression → Signature → Environment → Visible → Context → Faults
faults_of_use w args signature a v c =
    both (broken_if (is_unknown signature) rule.UnknownName w.span)
    (both (faults_of_args args (param_types signature) a v c) (broken_if (is_wrong_count args signature) rule.WrongCount w.span))

abbrev pub faults_of_predicate_use : Seen → Word → List CheckedExpression → Environment → Visible → Context → Faults
faults_of_predicate_use object w args a v c = faults_of_use w args (predicate_signature (holder_of a object) w.name) a v c

abbrev pub faults_of_method_use : Seen → Word → List CheckedExpression → Environment → Visible → Context → Faults
faults_of_method_use object w args a v c = faults_of_use w args (method_signature (holder_of a object) w.name) a v c

-- the same with what stands before the name
abbrev pub faults_of_instance : Option CheckedExpression → Word → List CheckedExpression → Environment → Visible → Context
    → Faults
faults_of_instance target w args a v c =
    both (faults_of_target a v c target) (faults_of_predicate_use (seen_of_target a v target) w args a v c)

abbrev pub faults_of_call : Option CheckedExpression → Word → List CheckedExpression → Environment → Visible → Context → Faults
faults_of_call target w args a v c =
    both (faults_of_target a v c target) (faults_of_method_use (seen_of_target a v target) w args a v c)

abbrev pub typing_of_use : List CheckedExpression → Signature → Environment → Visible → Typing
typing_of_use args unsought a v = Unsettled
typing_of_use args unknown a v = Unsettled
typing_of_use args (taking types) a v = typing.typed_if (args_meet args types a v) Truth

abbrev pub args_name_local : List CheckedExpression → Environment → Visible → Bool
args_name_local [] a v = false
args_name_local (p ∷ ps) a v = names_local p a v || args_name_local ps a v

-- what is no truth value by itself stands where one is needed
abbrev pub not_pure : Context → Span → Faults
not_pure c span = broken_if c.pure rule.NotPure span

abbrev pub faults_of_location : CheckedExpression → Environment → Visible → Context → Faults
faults_of_location e a v c = both (e.faults a v c Anything) (broken_unless (e.seen a v).location rule.NotALocation e.span)

abbrev pub faults_of_role : Token → CheckedExpression → Environment → Visible → Context → Faults
faults_of_role t e a v c = both (e.faults a v c AnObject) (broken_if (lacks_role (has_role t) a (e.seen a v)) rule.NoRole e.span)

abbrev pub faults_of_field : CheckedExpression → Word → Environment → Visible → Context → Faults
faults_of_field e w a v c =
    both (e.faults a v c (need_of_target a w.name))
    (broken_if (lacks_field (holder_of a (e.seen a v)) w.name) rule.UnknownName w.span)

abbrev pub faults_of_old : CheckedExpression → Span → Environment → Visible → Context → Faults
faults_of_old e span a v c =
    both (e.faults a v (typing.purely c) Anything) (broken_if (not c.old || names_local e a v) rule.OldPlace span)

-- Quantifiers

abbrev pub with_bound : Visible → Word → Visible
with_bound v w = declare_variable Bound v w.name Int

-- the form of bounds that repeats the bound variable
abbrev pub faults_of_written : Name → Option (Word × Word) → Faults
faults_of_written name None = none
faults_of_written name (Some words) =
    both (broken_unless (same_name name words.0.name) rule.RangeName words.0.span)
    (broken_unless (same_name name words.1.name) rule.RangeName words.1.span)

abbrev pub under_quantifier : Bool → Context → Context
under_quantifier star c = if star then c else typing.purely c

abbrev pub checked_in_each : Each-F CheckedKind CheckedKind CheckedExpression → CheckedKind
checked_in_each e = record {
  seen = λ a v.
      let inner : Visible = with_bound v e.name in
      value_seen
      (typing.typed_if (typing.both_meet (Exactly Int) (typing_in e.low a v) (typing_in e.high a v)
      && typing.meets (Exactly Truth) (typing_in e.body a inner)) Truth)
      (names_local e.low a v || (names_local e.high a v || names_local e.body a inner));
  faults = λ span a v c.
      both (broken_if (e.star && c.pure) rule.NotPure span)
      (both (broken_if (is_visible v e.name.name) rule.Shadows e.name.span)
      (both (e.low.faults a v c (Exactly Int))
      (both (e.high.faults a v c (Exactly Int))
      (both (e.body.faults a (with_bound v e.name) (under_quantifier e.star c) (Exactly Truth))
      (faults_of_written e.name.name e.written)))));
}

-- The type of an expression by its kind

abbrev pub seen_in_kind : ExprKind-F CheckedKind CheckedKind CheckedExpression → Environment → Visible → Seen
seen_in_kind (ExprKind-F.Number n) a v = value_seen (Typed Int) false
seen_in_kind (ExprKind-F.Truth b) a v = value_seen (Typed Truth) false
seen_in_kind ExprKind-F.Null a v = value_seen (Typed Null) false
seen_in_kind ExprKind-F.This a v = record { typing = Typed (Object a.class); this = true; location = false; local = false }
seen_in_kind ExprKind-F.Result a v = seen_of_result a.result
seen_in_kind (ExprKind-F.Var w) a v = seen_of_name a w.name (variable_named v w.name)
seen_in_kind (ExprKind-F.Field e w) a v = seen_of_member a w.name (e.seen a v)
seen_in_kind (ExprKind-F.Index e i) a v =
    place_seen (typing.typing_of_element (typing_in e a v) (typing_in i a v)) (names_local e a v || names_local i a v)
seen_in_kind (ExprKind-F.Not e) a v = value_seen (typing.typed_if (typing.meets (Exactly Truth) (typing_in e a v)) Truth)
    (names_local e a v)
seen_in_kind (ExprKind-F.Minus e) a v = value_seen (typing.typed_if (typing.meets (Exactly Int) (typing_in e a v)) Int)
    (names_local e a v)
seen_in_kind (ExprKind-F.Binary o x y) a v =
    value_seen (typing.typing_of_operator o (typing_in x a v) (typing_in y a v)) (names_local x a v || names_local y a v)
seen_in_kind (ExprKind-F.Old e) a v = value_seen (typing.typing_of_old (typing_in e a v)) (names_local e a v)
seen_in_kind (ExprKind-F.Perm e part whole amount) a v =
    value_seen (typing.typed_if (typing.is_typed (typing_in e a v)) Truth) (names_local e a v)
seen_in_kind (ExprKind-F.Token t e) a v = value_seen (typing.typed_if (typing.meets AnObject (typing_in e a v)) Truth)
    (names_local e a v)
seen_in_kind (ExprKind-F.Instance target w args) a v =
    value_seen (typing_of_use args (predicate_signature (holder_of a (seen_of_target a v target)) w.name) a v)
    ((seen_of_target a v target).local || args_name_local args a v)
seen_in_kind (ExprKind-F.Each e) a v = e.seen a v

-- The faults of an expression by its kind, without the rule of types at the expression itself

abbrev pub faults_in_kind : ExprKind-F CheckedKind CheckedKind CheckedExpression → Span → Environment → Visible → Context → Faults
faults_in_kind (ExprKind-F.Number n) span a v c = none
faults_in_kind (ExprKind-F.Truth b) span a v c = none
faults_in_kind ExprKind-F.Null span a v c = none
faults_in_kind ExprKind-F.This span a v c = none
faults_in_kind ExprKind-F.Result span a v c = broken_unless c.result rule.ResultPlace span
faults_in_kind (ExprKind-F.Var w) span a v c = faults_of_name a v c w
faults_in_kind (ExprKind-F.Field e w) span a v c = faults_of_field e w a v c
faults_in_kind (ExprKind-F.Index e i) span a v c = both (e.faults a v c AnArray) (i.faults a v c (Exactly Int))
faults_in_kind (ExprKind-F.Not e) span a v c = e.faults a v (typing.purely c) (Exactly Truth)
faults_in_kind (ExprKind-F.Minus e) span a v c = e.faults a v c (Exactly Int)
faults_in_kind (ExprKind-F.Binary o x y) span a v c =
    both (x.faults a v (typing.under_left o c) (typing.need_of_operator o))
    (y.faults a v (typing.under_right o c) (typing.need_of_operator o))
faults_in_kind (ExprKind-F.Old e) span a v c = faults_of_old e span a v c
faults_in_kind (ExprKind-F.Perm e part whole amount) span a v c =
    both (not_pure c span) (both (broken_unless (typing.is_amount part whole) rule.BadFraction amount)
    (faults_of_location e a v c))
faults_in_kind (ExprKind-F.Token t e) span a v c = both (not_pure c span) (faults_of_role t e a v c)
faults_in_kind (ExprKind-F.Instance target w args) span a v c =
    both (not_pure c span) (faults_of_instance target w args a v (typing.purely c))
faults_in_kind (ExprKind-F.Each e) span a v c = e.faults span a v c

abbrev pub checked_in_kind : ExprKind-F CheckedKind CheckedKind CheckedExpression → CheckedKind
checked_in_kind k = record { seen = seen_in_kind k; faults = faults_in_kind k }

abbrev pub checked_in_expression : Expr-F CheckedKind CheckedKind CheckedExpression → CheckedExpression
checked_in_expression e = record {
  span = e.span;
  seen = e.kind.seen;
  faults = λ a v c need. both (e.kind.faults e.span a v c) (typing.wrong_type need (e.kind.seen a v).typing e.span);
}

abbrev pub checked_expression : Expr → CheckedExpression
checked_expression = fold-Expr CheckedKind CheckedKind CheckedExpression checked_in_kind checked_in_each checked_in_expression

abbrev pub checked_kind : ExprKind → CheckedKind
checked_kind = fold-ExprKind CheckedKind CheckedKind CheckedExpression checked_in_kind checked_in_each checked_in_expression

abbrev pub checked_each : Each → CheckedKind
checked_each = fold-Each CheckedKind CheckedKind CheckedExpression checked_in_kind checked_in_each checked_in_expression
