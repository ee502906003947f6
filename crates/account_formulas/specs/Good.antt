-- Formulas of which soundness speaks: well typed, where the terms of an item are so without the position, and with no empty
-- amount.
use Rattle.std.specs.Prelude.{◌≡◌, ◌≤◌, Some, None, List, [], ◌∷◌}
use Rattle.pv_base.specs.declared.Name.{Name}
use Rattle.pv_ast.specs.declared.PvType.TheVariants.{Int, Truth, Object}
use Rattle.pv_picks.specs.Plain.Core.{Parameter, Predicate, Cut, Below, UpTo, Above, From, Provided, Formula, Fact, FieldPermission, ElementPermission, Holds, Instance, Star, When, Each, Items, NoItems, Join, Item, Elements, Repeated, Committed, Guarded, Fixed}
use Rattle.pv_picks.specs.Formulas.Values.{array_of}
use Rattle.pv_picks.specs.Plain.Members.{field_type, predicate_named}
use Rattle.pv_ast.specs.declared.PvType.{PvType}
use Rattle.account_formulas.specs.Growing.{IsPicked}
use Rattle.pv_picks.specs.Formulas.Meeting.{guard_term}
use Rattle.pv_picks.specs.Judge.Repetitions.{Look, AtElements, AtElement, AtLength, AtTerm, looks_of}
use Rattle.pv_picks.specs.Typing.Expressions.{Home, Speech, type_in, IsElement, Says, AllSay}
use Rattle.pv_picks.specs.Typing.Blocks.{types_of}

-- a guard's term is a number, its condition a truth value
abbrev pub type_of_cut : Cut → PvType
type_of_cut (Below e) = Int
type_of_cut (UpTo e) = Int
type_of_cut (Above e) = Int
type_of_cut (From e) = Int
type_of_cut (Provided e) = Truth

-- the terms of guards are typed outside the position
abbrev pub AreGoodCuts : Home → Speech → List Parameter → List Cut → Type 0
AreGoodCuts h speech xs [] = Unit {0}
AreGoodCuts h speech xs (cut ∷ cuts) = Says h speech xs (guard_term cut) (type_of_cut cut) × AreGoodCuts h speech xs cuts

-- what a pure item looks at, outside the position
abbrev pub AreGoodLooks : Home → Speech → List Parameter → List Look → Type 0
AreGoodLooks h speech xs [] = Unit {0}
AreGoodLooks h speech xs (AtElements type array shift ∷ looks) =
    Says h speech xs array (array_of type) × AreGoodLooks h speech xs looks
AreGoodLooks h speech xs (AtElement was type array index ∷ looks) =
    Says h speech xs array (array_of type) × Says h speech xs index Int × AreGoodLooks h speech xs looks
AreGoodLooks h speech xs (AtLength type array ∷ looks) =
    Says h speech xs array (array_of type) × IsElement type × AreGoodLooks h speech xs looks
AreGoodLooks h speech xs (AtTerm e ∷ looks) = ((type : PvType) × Says h speech xs e type) × AreGoodLooks h speech xs looks

-- the scope of an item is that around its quantifier: a term of it that is read once is typed there, so the position doesn't
-- stand in it
abbrev mutual
  -- a formula is typed, has no amount of nothing, and takes in values that can be picked
  pub IsGood : Home → Speech → List Parameter → Formula → Type 0
  IsGood h speech xs (Fact e span) = Says h speech xs e Truth
  IsGood h speech xs (FieldPermission e class field type amount span) =
      Says h speech xs e (Object class) × (field_type h.program class field ≡ Some type) × (1 ≤ amount) × IsPicked type
  IsGood h speech xs (ElementPermission element array index amount span) =
      Says h speech xs array (array_of element) × Says h speech xs index Int × IsElement element × (1 ≤ amount)
  IsGood h speech xs (Holds token class e span) = Says h speech xs e (Object class)
  IsGood h speech xs (Instance class name e arguments span) =
      Says h speech xs e (Object class)
      × ((d : Predicate) × (predicate_named h.program class name ≡ Some d) × AllSay h speech xs arguments (types_of d.parameters))
  IsGood h speech xs (Star a b) = IsGood h speech xs a × IsGood h speech xs b
  IsGood h speech xs (When e f span) = Says h speech xs e Truth × IsGood h speech xs f
  IsGood h speech xs (Each name low high items span) =
      Says h speech xs low Int × Says h speech xs high Int × (type_in xs name ≡ None) × AreGoodItems h speech xs name items

  -- all items are good
  pub AreGoodItems : Home → Speech → List Parameter → Name → Items → Type 0
  AreGoodItems h speech xs name NoItems = Unit {0}
  AreGoodItems h speech xs name (Join i is) = IsGoodItem h speech xs name i × AreGoodItems h speech xs name is

  -- an item: what it repeats, and a formula at one position, are typed with the position
  pub IsGoodItem : Home → Speech → List Parameter → Name → Item → Type 0
  IsGoodItem h speech xs name (Elements element array shift amount span) =
      Says h speech xs array (array_of element) × IsElement element × (1 ≤ amount)
  IsGoodItem h speech xs name (Repeated e span) =
      Says h speech ((name, Int) ∷ xs) e Truth × AreGoodLooks h speech xs (looks_of name e)
  IsGoodItem h speech xs name (Committed class e span) = Says h speech xs e (Object class)
  IsGoodItem h speech xs name (Guarded cuts i span) = AreGoodCuts h speech xs cuts × IsGoodItem h speech xs name i
  IsGoodItem h speech xs name (Fixed e f span) = Says h speech xs e Int × IsGood h speech ((name, Int) ∷ xs) f
