-- One body for each way in which a step is wrong, with the check and the place that it names.
use Rattle.std.specs.Prelude.{ℕ, zero, suc, negsuc, true, false, Bool, List, [], ◌∷◌, map, Option, Some, None}
use Rattle.pv_base.specs.declared.Name.{Name}
use Rattle.pv_base.specs.declared.Span.{Span}
use Rattle.pv_ast.specs.declared.PvType.TheVariants.{Int, IntArray}
use Rattle.pv_values.specs.declared.value.Value.TheVariants as value
use Rattle.pv_values.specs.declared.thing.Thing.TheVariants as thing
use Rattle.pv_picks.specs.declared.check.Check.{Check}
use Rattle.pv_picks.specs.declared.check.Check.TheVariants as check
use Rattle.pv_picks.specs.Plain.Core.{Expression, Constant, This, Result, Not, And, Or, Implies, Old, Star, If, Stop, Unfold, Field, Element, Length, Formula, Fact, Items, NoItems, Join, Repeated, Action, Fork, Join', Lock, Unlock, Commit, Nowhere, ToVariable, ToField, Value', Call, NewArray, Assign, While, Members, Meet, Fold, Assert, Message, Send, Receive, Return, Statement, Act, IsMethod, IsPredicate, Program, Method, Member}
use Rattle.pv_picks.specs.Machine.Worlds.{Free, World}
use Rattle.pv_picks.specs.Machine.Steps as steps
use Rattle.pv_picks.specs.Machine.Starts.{Start, first_world}
use Rattle.worked_runs.specs.Building.{named, integer, reference, number, variable, equals, plus, anything, promises, block, set, has_field, has_run}
use Rattle.worked_runs.specs.Schedules.{rest, begin}

-- places that tell a statement, an access and a conjunct apart
abbrev pub at_statement : Span
at_statement = record { from = 1; to = 2 }

abbrev pub at_access : Span
at_access = record { from = 3; to = 4 }

abbrev pub at_conjunct : Span
at_conjunct = record { from = 5; to = 6 }

abbrev pub item : Name
item = named 0

abbrev pub v : Name
v = named 1

abbrev pub a : Name
a = named 2

abbrev pub one : Name
one = named 3

abbrev pub get : Name
get = named 4

abbrev pub k : Name
k = named 5

abbrev pub main : Name
main = named 6

abbrev pub x : Name
x = named 7

abbrev pub i : Name
i = named 8

abbrev pub label : Name
label = named 9

abbrev pub bump : Name
bump = named 10

abbrev pub null : Expression
null = Constant (value.Reference 0)

abbrev pub value_of : Expression → Expression
value_of object = Field object item v at_access

abbrev pub says : Expression → Formula
says e = Fact e at_conjunct

abbrev pub nothing : Formula
nothing = says (Constant (value.Truth false))

abbrev pub store : Expression → Expression → Statement
store object e = Assign (ToField object item v at_access) (Value' e) at_statement

abbrev pub fresh : Name
fresh = named 11

-- a class that isn't declared
abbrev pub unknown : Name
unknown = named 12

-- a new array of so many elements, of which the method promises that there are three and always were
abbrev pub fresh_method : Member
fresh_method = IsMethod (record {
  name = Some fresh;
  parameters = (k, Int) ∷ [];
  result = Some IntArray;
  contract = promises anything
      (Star (says (Not (equals Result null))) (says (equals (Old (Length Int Result at_access)) (number 3))));
  body = block (Assign (ToVariable x) (NewArray Int (variable k)) at_statement ∷ Return (Some (variable x)) at_statement ∷ []);
  old = true;
})

-- the class has a value, an array, a predicate, a `run`, a lock invariant, a method that breaks its promise, one that adds to the
-- value, and one that makes an array
abbrev pub members : List Member
members =
    has_field v Int ∷ has_field a IntArray
    ∷ IsPredicate (record { name = one; parameters = []; body = says (equals (value_of This) (number 1)) })
    ∷ has_run (promises (says (equals (value_of This) (number 0))) (says (equals (value_of This) (number 0)))) []
    ∷ IsMethod (record {
      name = Some get;
      parameters = (k, Int) ∷ [];
      result = Some Int;
      contract = promises (says (equals (variable k) (number 1))) (says (equals Result (plus (variable k) (number 1))));
      body = block (Return (Some (variable k)) at_statement ∷ []);
      old = false;
    })
    ∷ IsMethod (record {
      name = Some bump;
      parameters = (k, Int) ∷ [];
      result = Some Int;
      contract = promises anything
          (Star (says (equals (value_of This) (plus (Old (value_of This)) (variable k)))) (says (equals Result (variable k))));
      body = block (store This (plus (value_of This) (variable k)) ∷ Return (Some (variable k)) at_statement ∷ []);
      old = true;
    })
    ∷ fresh_method
    ∷ []

abbrev pub main_method : List Statement → Method
main_method body = record {
  name = Some main;
  parameters = [];
  result = None;
  contract = promises anything anything;
  body = block body;
  old = false;
}

abbrev pub program : List Statement → Program
program body = record {
  name = item;
  lock_invariant = Some (says (equals (value_of This) (number 0)));
  members = IsMethod (main_method body) ∷ members;
} ∷ []

abbrev pub start : List Statement → Start
start body = record {
  heap = thing.Object item ((v, integer 0) ∷ (a, reference 2) ∷ []) ∷ thing.Array (integer 7 ∷ integer 8 ∷ []) ∷ [];
  class = item;
  object = 1;
  method = main_method body;
  arguments = [];
}

abbrev pub Named : Type 0
Named = Check × Span

abbrev pub named_by : steps.Result → Option Named → Option Named
named_by (steps.Wrong check span) other = Some (check, span)
named_by _ other = other

-- what the first thread that is wrong names
abbrev pub first_fault : Program → World → ℕ → ℕ → Option Named
first_fault p w i zero = None
first_fault p w i (suc n) = named_by (steps.act p w Free i) (first_fault p w (suc i) n)

abbrev pub fault_in : Program → World → Option Named
fault_in p w = first_fault p w 0 w.count

-- what a body's run comes to
abbrev pub fault_of : List Statement → Option Named
fault_of body = fault_in (program body) (rest (program body) Free 12 (begin (first_world (start body)))).world

-- bodies

abbrev pub act : Action → Expression → Statement
act action object = Act action item object at_statement

abbrev pub call : Expression → ℕ → Statement
call object n = Assign Nowhere (Call item get object (number n ∷ [])) at_statement

abbrev pub array_of_own : Expression
array_of_own = Field This item a at_access

abbrev pub loop : Formula → List Statement → Statement
loop invariant body = While [] invariant (Constant (value.Truth true)) (block body) at_statement

-- members at two positions, with these formulas before and after
abbrev pub two_members : Bool → Formula → Items → Formula → List Statement → Statement
two_members counted before each_before after body =
    Members (record {
      counted = counted;
      variable = i;
      low = number 0;
      high = number 2;
      shared = record { one = promises before after; each_before = each_before; each_after = NoItems };
    }) (block body) at_statement

abbrev pub each_says : Expression → Items
each_says e = Join (Repeated e at_conjunct) NoItems

abbrev pub free_members : List Statement → Statement
free_members body = two_members false anything NoItems anything body

-- not met at the second position
abbrev pub at_first : Expression
at_first = equals (variable i) (number 0)

abbrev pub meets : Formula → Items → Statement
meets before each_after = Meet (record {
  place = 0 ∷ [];
  shared = record { one = promises before anything; each_before = NoItems; each_after = each_after };
}) at_statement

-- a body and what its run comes to

abbrev pub Case : Type 0
Case = List Statement × Option Named

abbrev pub wrong : List Statement → Check → Span → Case
wrong body check span = (body, Some (check, span))

abbrev pub right : List Statement → Case
right body = (body, None)

abbrev pub accesses : List Case
accesses =
    wrong (set x (value_of null) ∷ []) check.Null at_access
    ∷ wrong (store null (number 1) ∷ []) check.Null at_access
    ∷ wrong (set x (Length Int null at_access) ∷ []) check.Null at_access
    ∷ wrong (set x (Element Int array_of_own (number 2) at_access) ∷ []) check.Bounds at_access
    ∷ wrong (set x (Element Int array_of_own (Constant (value.Number (negsuc 0))) at_access) ∷ []) check.Bounds at_access
    ∷ wrong (Assign (ToVariable x) (NewArray Int (Constant (value.Number (negsuc 0)))) at_statement ∷ []) check.Length
    at_statement
    -- the right side comes before the write
    ∷ wrong (store null (Element Int array_of_own (number 2) at_access) ∷ []) check.Bounds at_access
    -- the left side decides
    ∷ right (If (And (Constant (value.Truth false)) (equals (value_of null) (number 0))) Stop Stop ∷ [])
    ∷ right (If (Or (Constant (value.Truth true)) (equals (value_of null) (number 0))) Stop Stop ∷ [])
    ∷ right (If (Implies (Constant (value.Truth false)) (equals (value_of null) (number 0))) Stop Stop ∷ [])
    ∷ right (set x (Element Int array_of_own (number 1) at_access) ∷ Assert (says (equals (variable x) (number 8))) at_statement
    ∷ [])
    ∷ right (Assign (ToVariable x) (NewArray Int (number 0)) at_statement
    ∷ Assert (says (equals (Length Int (variable x) at_access) (number 0))) at_statement ∷ [])
    ∷ []

abbrev pub checks : List Case
checks =
    wrong (Assert nothing at_statement ∷ []) check.Assert at_conjunct
    ∷ wrong (loop nothing [] ∷ []) check.LoopEntry at_conjunct
    ∷ wrong (loop (says (equals (value_of This) (number 0))) (store This (number 1) ∷ []) ∷ []) check.LoopKeep at_conjunct
    ∷ wrong (Fold item one null [] at_statement ∷ []) check.Null at_statement
    ∷ wrong (Fold item one This [] at_statement ∷ []) check.Fold at_statement
    ∷ right (store This (number 1) ∷ Fold item one This [] at_statement ∷ Unfold item one This [] at_statement ∷ [])
    ∷ wrong (call null 1 ∷ []) check.Null at_statement
    ∷ wrong (call This 2 ∷ []) check.Requires at_statement
    ∷ wrong (call This 1 ∷ []) check.Ensures at_conjunct
    -- operands come before the call
    ∷ wrong (Assign Nowhere (Call item get null (value_of null ∷ [])) at_statement ∷ []) check.Null at_access
    ∷ right (Assign (ToVariable x) (Call item bump This (number 3 ∷ [])) at_statement
    ∷ Assert (Star (says (equals (variable x) (number 3))) (says (equals (value_of This) (number 3)))) at_statement ∷ [])
    -- a length under `\old` is that of the present heap
    ∷ right (Assign Nowhere (Call item fresh This (number 3 ∷ [])) at_statement ∷ [])
    ∷ wrong (Assign Nowhere (Call item fresh This (number 2 ∷ [])) at_statement ∷ []) check.Ensures at_conjunct
    ∷ []

abbrev pub actions : List Case
actions =
    wrong (act Fork null ∷ []) check.Null at_statement
    ∷ wrong (act Fork This ∷ act Fork This ∷ []) check.NotIdle at_statement
    ∷ wrong (store This (number 1) ∷ act Fork This ∷ []) check.ForkRequires at_statement
    ∷ wrong (act Fork This ∷ store This (number 1) ∷ act Join' This ∷ []) check.Ensures at_conjunct
    ∷ wrong (act Join' This ∷ []) check.NotRunning at_statement
    ∷ wrong (act Lock This ∷ []) check.NotCommitted at_statement
    ∷ wrong (act Commit This ∷ store This (number 1) ∷ act Lock This ∷ []) check.LockInvariant at_statement
    ∷ wrong (act Commit This ∷ act Lock This ∷ store This (number 1) ∷ act Unlock This ∷ []) check.LockInvariant at_statement
    ∷ wrong (store This (number 1) ∷ act Commit This ∷ []) check.LockInvariant at_statement
    ∷ wrong (act Commit This ∷ act Commit This ∷ []) check.NotUncommitted at_statement
    ∷ wrong (act Unlock This ∷ []) check.NotHeld at_statement
    ∷ right (act Commit This ∷ act Lock This ∷ act Unlock This ∷ act Lock This ∷ [])
    ∷ right (act Fork This ∷ act Join' This ∷ act Fork This ∷ act Join' This ∷ [])
    ∷ []

abbrev pub blocks : List Case
blocks =
    wrong (two_members false anything (each_says at_first) anything [] ∷ []) check.BlockRequires at_conjunct
    ∷ wrong (two_members false anything NoItems (says at_first) [] ∷ []) check.BlockEnsures at_conjunct
    ∷ wrong (free_members (meets (says at_first) NoItems ∷ []) ∷ []) check.BarrierRequires at_conjunct
    ∷ wrong (free_members (meets anything (each_says at_first) ∷ []) ∷ []) check.BarrierEnsures at_conjunct
    ∷ wrong (two_members true anything NoItems anything
    (Send (record { label = label; distance = 1; formula = nothing }) at_statement ∷ []) ∷ []) check.Send at_conjunct
    ∷ right (two_members true anything NoItems anything
    (Send (record { label = label; distance = 2; formula = nothing }) at_statement ∷ []) ∷ [])
    ∷ right (free_members (meets anything NoItems ∷ []) ∷ [])
    ∷ []

-- a message that no send declares
abbrev pub lost : Message
lost = record { label = label; distance = 0; formula = anything }

abbrev pub sent : Message
sent = record { label = label; distance = 1; formula = anything }

-- on what isn't declared, and out of a member's body, a step is wrong and doesn't wait; an action on null is wrong as that
abbrev pub undeclared : List Case
undeclared =
    wrong (Assign Nowhere (Call unknown get This []) at_statement ∷ []) check.Requires at_statement
    ∷ wrong (Act Fork unknown This at_statement ∷ []) check.ForkRequires at_statement
    ∷ wrong (Act Lock unknown This at_statement ∷ []) check.LockInvariant at_statement
    ∷ wrong (Act Unlock unknown This at_statement ∷ []) check.LockInvariant at_statement
    ∷ wrong (Act Commit unknown This at_statement ∷ []) check.LockInvariant at_statement
    ∷ wrong (Act Commit unknown null at_statement ∷ []) check.Null at_statement
    ∷ wrong (Fold unknown one This [] at_statement ∷ []) check.Fold at_statement
    -- to unfold is no step
    ∷ right (Unfold unknown one This [] at_statement ∷ [])
    ∷ wrong (two_members true anything NoItems anything (Send lost at_statement ∷ []) ∷ []) check.Send at_statement
    ∷ wrong (two_members true anything NoItems anything (Receive lost at_statement ∷ []) ∷ []) check.Send at_statement
    ∷ wrong (Send sent at_statement ∷ []) check.Send at_statement
    ∷ wrong (Receive sent at_statement ∷ []) check.Send at_statement
    ∷ wrong (meets anything NoItems ∷ []) check.BarrierRequires at_statement
    ∷ []

-- what the runs come to, and what they are to come to
abbrev pub found : List Case → List (Option Named)
found cases = map (λ c. fault_of c.0) cases

abbrev pub wanted : List Case → List (Option Named)
wanted cases = map (λ c. c.1) cases
