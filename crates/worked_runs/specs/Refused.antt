-- Heaps and arguments from which runs start, and such from which none does:
--   class First { void both(int[] a, int[] b) requires Perm(a[0], write) ** Perm(b[0], write); { }
--     void five(int[] a) requires Perm(a[0], write) ** a[0] == 5; { } }
use Rattle.std.specs.Prelude.{false, List, [], ◌∷◌, Some, None}
use Rattle.pv_base.specs.declared.Name.{Name}
use Rattle.pv_ast.specs.declared.PvType.TheVariants.{Int, IntArray}
use Rattle.pv_values.specs.declared.value.Value.{Value}
use Rattle.pv_values.specs.declared.thing.Thing.TheVariants as thing
use Rattle.pv_fraction.specs.Amounts.{whole}
use Rattle.pv_picks.specs.Plain.Core.{Formula, ElementPermission, Star, IsMethod, Method, Program}
use Rattle.pv_picks.specs.Machine.Starts.{Start}
use Rattle.worked_runs.specs.Building.{nowhere, named, integer, reference, number, variable, element, equals, anything, fact, promises, block}

abbrev pub first_class : Name
first_class = named 0

abbrev pub a : Name
a = named 1

abbrev pub b : Name
b = named 2

abbrev pub both : Name
both = named 3

abbrev pub five : Name
five = named 4

abbrev pub to_first : Name → Formula
to_first array = ElementPermission Int (variable array) (number 0) whole nowhere

abbrev pub both_method : Method
both_method = record {
  name = Some both;
  parameters = (a, IntArray) ∷ (b, IntArray) ∷ [];
  result = None;
  contract = promises (Star (to_first a) (to_first b)) anything;
  body = block [];
  old = false;
}

abbrev pub five_method : Method
five_method = record {
  name = Some five;
  parameters = (a, IntArray) ∷ [];
  result = None;
  contract = promises (Star (to_first a) (fact (equals (element (variable a) (number 0)) (number 5)))) anything;
  body = block [];
  old = false;
}

abbrev pub program : Program
program = record { name = first_class; lock_invariant = None; members = IsMethod both_method ∷ IsMethod five_method ∷ [] } ∷ []

-- two arrays of one element, which is 0
abbrev pub start : Method → List Value → Start
start method arguments = record {
  heap = thing.Object first_class [] ∷ thing.Array (integer 0 ∷ []) ∷ thing.Array (integer 0 ∷ []) ∷ [];
  class = first_class;
  object = 1;
  method = method;
  arguments = arguments;
}

abbrev pub of_two_arrays : Start
of_two_arrays = start both_method (reference 2 ∷ reference 3 ∷ [])

-- both names stand for one array
abbrev pub of_one_array : Start
of_one_array = start both_method (reference 2 ∷ reference 2 ∷ [])

-- the element is another number
abbrev pub of_another_number : Start
of_another_number = start five_method (reference 2 ∷ [])
