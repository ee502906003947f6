-- The plain trees that code walks, as those on which the meaning is told.
use Rattle.std.specs.Prelude.{option_map, List, [], ◌∷◌, map}
use Rattle.pv_picks.specs.Plain.Core as core
use Rattle.pv_picks.specs.Elaborating.Statements.{joined}
use Rattle.pv_picks.specs.declared.plain.Operation.{Operation}
use Rattle.pv_picks.specs.declared.plain.Operation.TheVariants as operation
use Rattle.pv_picks.specs.declared.plain.Manner.{Manner}
use Rattle.pv_picks.specs.declared.plain.Manner.TheVariants as manner
use Rattle.pv_picks.specs.declared.plain.Comparison.{Comparison}
use Rattle.pv_picks.specs.declared.plain.Comparison.TheVariants as comparison
use Rattle.pv_picks.specs.declared.plain.Expression.{Expression, Expression-F, fold-Expression}
use Rattle.pv_picks.specs.declared.plain.Cut.{Cut}
use Rattle.pv_picks.specs.declared.plain.Cut.TheVariants as cut
use Rattle.pv_picks.specs.declared.plain.Formula.{Formula, Formula-F, fold-Formula}
use Rattle.pv_picks.specs.declared.plain.Item.{Item, Item-F, fold-Item}
use Rattle.pv_picks.specs.declared.plain.Action.{Action}
use Rattle.pv_picks.specs.declared.plain.Action.TheVariants as action
use Rattle.pv_picks.specs.declared.plain.Target.{Target}
use Rattle.pv_picks.specs.declared.plain.Target.TheVariants as target
use Rattle.pv_picks.specs.declared.plain.Right.{Right}
use Rattle.pv_picks.specs.declared.plain.Right.TheVariants as right
use Rattle.pv_picks.specs.declared.plain.Contract.{Contract}
use Rattle.pv_picks.specs.declared.plain.Shared.{Shared}
use Rattle.pv_picks.specs.declared.plain.Team.{Team}
use Rattle.pv_picks.specs.declared.plain.Barrier.{Barrier}
use Rattle.pv_picks.specs.declared.plain.Message.{Message}
use Rattle.pv_picks.specs.declared.plain.Parameter.{Parameter}
use Rattle.pv_picks.specs.declared.plain.Statement.{Statement, Statement-F, fold-Statement}
use Rattle.pv_picks.specs.declared.plain.Predicate.{Predicate}
use Rattle.pv_picks.specs.declared.plain.Method.{Method}
use Rattle.pv_picks.specs.declared.plain.Member.{Member}
use Rattle.pv_picks.specs.declared.plain.Member.TheVariants as member
use Rattle.pv_picks.specs.declared.plain.Class.{Class}

abbrev pub operation_of : Operation → core.Operation
operation_of operation.Plus = core.Plus
operation_of operation.Minus = core.Minus
operation_of operation.Times = core.Times

abbrev pub manner_of : Manner → core.Manner
manner_of manner.Plain = core.Plain
manner_of manner.Tabled = core.Tabled

abbrev pub comparison_of : Comparison → core.Comparison
comparison_of comparison.Less = core.Less
comparison_of comparison.AtMost = core.AtMost
comparison_of comparison.Greater = core.Greater
comparison_of comparison.AtLeast = core.AtLeast

abbrev pub expression_in : Expression-F core.Expression → core.Expression
expression_in (Expression-F.Constant v) = core.Constant v
expression_in Expression-F.This = core.This
expression_in Expression-F.Result = core.Result
expression_in (Expression-F.Variable name) = core.Variable name
expression_in (Expression-F.Field object class name span) = core.Field object class name span
expression_in (Expression-F.Element type array index span) = core.Element type array index span
expression_in (Expression-F.Length type array span) = core.Length type array span
expression_in (Expression-F.Not a) = core.Not a
expression_in (Expression-F.Compute m o a b span) = core.Compute (manner_of m) (operation_of o) a b span
expression_in (Expression-F.Compare c a b) = core.Compare (comparison_of c) a b
expression_in (Expression-F.Equal same a b) = core.Equal same a b
expression_in (Expression-F.And a b) = core.And a b
expression_in (Expression-F.Or a b) = core.Or a b
expression_in (Expression-F.Implies a b) = core.Implies a b
expression_in (Expression-F.Old a) = core.Old a

abbrev pub expression_of : Expression → core.Expression
expression_of = fold-Expression core.Expression expression_in

abbrev pub expressions_of : List Expression → List core.Expression
expressions_of es = map expression_of es

-- Formulas

abbrev pub cut_of : Cut → core.Cut
cut_of (cut.Below e) = core.Below (expression_of e)
cut_of (cut.UpTo e) = core.UpTo (expression_of e)
cut_of (cut.Above e) = core.Above (expression_of e)
cut_of (cut.From e) = core.From (expression_of e)
cut_of (cut.Provided e) = core.Provided (expression_of e)

abbrev pub joined_items : List core.Item → core.Items
joined_items [] = core.NoItems
joined_items (i ∷ is) = core.Join i (joined_items is)

abbrev pub formula_in : Formula-F core.Formula core.Item → core.Formula
formula_in (Formula-F.Fact e span) = core.Fact (expression_of e) span
formula_in (Formula-F.FieldPermission e class name type amount span) =
    core.FieldPermission (expression_of e) class name type amount span
formula_in (Formula-F.ElementPermission type array index amount span) =
    core.ElementPermission type (expression_of array) (expression_of index) amount span
formula_in (Formula-F.Holds token class e span) = core.Holds token class (expression_of e) span
formula_in (Formula-F.Instance class predicate e arguments span) =
    core.Instance class predicate (expression_of e) (expressions_of arguments) span
formula_in (Formula-F.Star a b) = core.Star a b
formula_in (Formula-F.When e body span) = core.When (expression_of e) body span
formula_in (Formula-F.Each name low high items span) =
    core.Each name (expression_of low) (expression_of high) (joined_items items) span

abbrev pub item_in : Item-F core.Formula core.Item → core.Item
item_in (Item-F.Elements type array shift amount span) = core.Elements type (expression_of array) shift amount span
item_in (Item-F.Repeated e span) = core.Repeated (expression_of e) span
item_in (Item-F.Committed class e span) = core.Committed class (expression_of e) span
item_in (Item-F.Guarded cuts item span) = core.Guarded (map cut_of cuts) item span
item_in (Item-F.Fixed e body span) = core.Fixed (expression_of e) body span

abbrev pub formula_of : Formula → core.Formula
formula_of = fold-Formula core.Formula core.Item formula_in item_in

abbrev pub item_of : Item → core.Item
item_of = fold-Item core.Formula core.Item formula_in item_in

-- formulas one behind the other are one
abbrev pub formulas_of : List Formula → core.Formula
formulas_of fs = joined (map formula_of fs)

abbrev pub items_of : List Item → core.Items
items_of is = joined_items (map item_of is)

-- Statements

abbrev pub action_of : Action → core.Action
action_of action.Fork = core.Fork
action_of action.Join = core.Join'
action_of action.Lock = core.Lock
action_of action.Unlock = core.Unlock
action_of action.Commit = core.Commit

abbrev pub target_of : Target → core.Target
target_of target.Nowhere = core.Nowhere
target_of (target.ToVariable name) = core.ToVariable name
target_of (target.ToField e class name span) = core.ToField (expression_of e) class name span
target_of (target.ToElement type array index span) = core.ToElement type (expression_of array) (expression_of index) span

abbrev pub right_of : Right → core.Right
right_of (right.Value e) = core.Value' (expression_of e)
right_of (right.Call class method e arguments) = core.Call class method (expression_of e) (expressions_of arguments)
right_of (right.NewObject class) = core.NewObject class
right_of (right.NewArray type e) = core.NewArray type (expression_of e)

abbrev pub contract_of : Contract → core.Contract
contract_of c = record { before = formulas_of c.before; after = formulas_of c.after }

abbrev pub shared_of : Shared → core.Shared
shared_of s = record { one = contract_of s.one; each_before = items_of s.each_before; each_after = items_of s.each_after }

abbrev pub team_of : Team → core.Team
team_of t = record {
  counted = t.counted;
  variable = t.variable;
  low = expression_of t.low;
  high = expression_of t.high;
  shared = shared_of t.shared;
}

abbrev pub barrier_of : Barrier → core.Barrier
barrier_of b = record { place = b.place; shared = shared_of b.shared }

abbrev pub message_of : Message → core.Message
message_of m = record { label = m.label; distance = m.distance; formula = formula_of m.formula }

abbrev pub parameter_of : Parameter → core.Parameter
parameter_of p = (p.name, p.kind)

abbrev pub parameters_of : List Parameter → List core.Parameter
parameters_of ps = map parameter_of ps

abbrev pub joined_statements : List core.Statement → core.Block
joined_statements [] = core.Stop
joined_statements (s ∷ ss) = core.Then s (joined_statements ss)

abbrev pub statement_in : Statement-F core.Statement → core.Statement
statement_in (Statement-F.Assign t r span) = core.Assign (target_of t) (right_of r) span
statement_in (Statement-F.If e first second) = core.If (expression_of e) (joined_statements first) (joined_statements second)
statement_in (Statement-F.While assigned invariants e body span) =
    core.While (parameters_of assigned) (formulas_of invariants) (expression_of e) (joined_statements body) span
statement_in (Statement-F.Members t body span) = core.Members (team_of t) (joined_statements body) span
statement_in (Statement-F.Meet b span) = core.Meet (barrier_of b) span
statement_in (Statement-F.Act a class e span) = core.Act (action_of a) class (expression_of e) span
statement_in (Statement-F.Fold class predicate e arguments span) =
    core.Fold class predicate (expression_of e) (expressions_of arguments) span
statement_in (Statement-F.Unfold class predicate e arguments span) =
    core.Unfold class predicate (expression_of e) (expressions_of arguments) span
statement_in (Statement-F.Assert formula span) = core.Assert (formula_of formula) span
statement_in (Statement-F.Send m span) = core.Send (message_of m) span
statement_in (Statement-F.Receive m span) = core.Receive (message_of m) span
statement_in (Statement-F.Return e span) = core.Return (option_map expression_of e) span

abbrev pub statement_of : Statement → core.Statement
statement_of = fold-Statement core.Statement statement_in

abbrev pub block_of : List Statement → core.Block
block_of ss = joined_statements (map statement_of ss)

-- Programs

abbrev pub predicate_of : Predicate → core.Predicate
predicate_of p = record { name = p.name; parameters = parameters_of p.parameters; body = formula_of p.body }

abbrev pub method_of : Method → core.Method
method_of m = record {
  name = m.name;
  parameters = parameters_of m.parameters;
  result = m.result;
  contract = contract_of m.contract;
  body = block_of m.body;
  old = m.old;
}

abbrev pub member_of : Member → core.Member
member_of (member.Field p) = core.IsField (parameter_of p)
member_of (member.Predicate p) = core.IsPredicate (predicate_of p)
member_of (member.Method m) = core.IsMethod (method_of m)

abbrev pub class_of : Class → core.Class
class_of c = record {
  name = c.name;
  lock_invariant = option_map formula_of c.lock_invariant;
  members = map member_of c.members;
}

abbrev pub program_of : List Class → core.Program
program_of classes = map class_of classes
