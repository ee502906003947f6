-- Well typed formulas whose items are typed with the position in scope, also where they don't name it: what they become is so
-- first.
use Rattle.std.specs.Prelude.{◌≡◌, Some, None, List, ◌∷◌}
use Rattle.std.specs.List.{AllByRecursion}
use Rattle.pv_ast.specs.declared.PvType.TheVariants.{Int, Truth, Object}
use Rattle.pv_picks.specs.Plain.Core as core
use Rattle.pv_picks.specs.Plain.Core.{Predicate, Parameter, Shared, Formula, Items, Item}
use Rattle.pv_picks.specs.Formulas.Values.{array_of}
use Rattle.pv_picks.specs.Plain.Members.{field_type, predicate_named}
use Rattle.pv_picks.specs.Typing.Expressions.{Home, Speech, silent, type_in, IsElement, IsDeclared, Says, AllSay}
use Rattle.pv_picks.specs.Typing.Blocks.{types_of, HasInvariant}
use Rattle.core_trees.specs.Formulas.{IsAmount, Bears, CutFits}

-- formulas, items and one item; a quantifier's name isn't in scope yet, and is in scope in all of its items
abbrev mutual
  pub FormulaWithin : Home → Speech → List Parameter → Formula → Type 0
  FormulaWithin h speech xs (core.Fact e span) = Says h speech xs e Truth
  FormulaWithin h speech xs (core.FieldPermission object class field type units span) =
      Says h speech xs object (Object class) × (field_type h.program class field ≡ Some type) × IsDeclared type × IsAmount units
  FormulaWithin h speech xs (core.ElementPermission element array index units span) =
      Says h speech xs array (array_of element) × Says h speech xs index Int × IsElement element × IsAmount units
  FormulaWithin h speech xs (core.Holds token class object span) = Says h speech xs object (Object class)
      × Bears h.program class token
  FormulaWithin h speech xs (core.Instance class name object arguments span) =
      Says h speech xs object (Object class)
      × ((q : Predicate) × (predicate_named h.program class name ≡ Some q) × AllSay h speech xs arguments (types_of q.parameters))
  FormulaWithin h speech xs (core.Star f g) = FormulaWithin h speech xs f × FormulaWithin h speech xs g
  FormulaWithin h speech xs (core.When e f span) = Says h speech xs e Truth × FormulaWithin h speech xs f
  FormulaWithin h speech xs (core.Each name low high items span) =
      Says h speech xs low Int × Says h speech xs high Int × (type_in xs name ≡ None) × ItemsWithin h speech
      ((name, Int) ∷ xs) items

  pub ItemsWithin : Home → Speech → List Parameter → Items → Type 0
  ItemsWithin h speech xs core.NoItems = Unit {0}
  ItemsWithin h speech xs (core.Join i is) = ItemWithin h speech xs i × ItemsWithin h speech xs is

  pub ItemWithin : Home → Speech → List Parameter → Item → Type 0
  ItemWithin h speech xs (core.Elements element array shift units span) =
      Says h speech xs array (array_of element) × IsElement element × IsAmount units
  ItemWithin h speech xs (core.Repeated e span) = Says h speech xs e Truth
  ItemWithin h speech xs (core.Committed class object span) = Says h speech xs object (Object class)
      × HasInvariant h.program class
  ItemWithin h speech xs (core.Guarded cuts i span) = AllByRecursion (CutFits h speech xs) cuts × ItemWithin h speech xs i
  ItemWithin h speech xs (core.Fixed e f span) = Says h speech xs e Int × FormulaWithin h speech xs f

-- what members keep
abbrev pub SharedWithin : Home → List Parameter → Shared → Type 0
SharedWithin h xs s =
    FormulaWithin h silent xs s.one.before × FormulaWithin h silent xs s.one.after
    × ItemsWithin h silent xs s.each_before × ItemsWithin h silent xs s.each_after
