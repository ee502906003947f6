-- What a body answers matters to no formula: formulas that are well typed in a body are so in its class.
use Rattle.std.proofs.Common.{List, [], ◌∷◌}
use Rattle.std.specs.List.{AllByRecursion}
use Rattle.pv_base.specs.declared.Name.{Name}
use Rattle.pv_ast.specs.declared.PvType.{PvType}
use Rattle.pv_ast.specs.declared.PvType.TheVariants.{Int, Truth, Object}
use Rattle.pv_picks.specs.Plain.Core.{Expression, Constant, This, Result, Variable, Field, Element, Length, Not, Compute, Compare, Equal, And, Or, Implies, Old, Parameter, Cut, Below, UpTo, Above, From, Provided, Formula, Fact, FieldPermission, ElementPermission, Holds, Instance, Star, When, Each, Items, NoItems, Join, Item, Elements, Repeated, Committed, Guarded, Fixed}
use Rattle.pv_picks.specs.Judge.Repetitions.{Look, AtElements, AtElement, AtLength, AtTerm, looks_of}
use Rattle.pv_picks.specs.Typing.Expressions.{Home, Speech, Says, AllSay}
use Rattle.core_trees.specs.Formulas.{CutFits, LookFits, FormulaFits, ItemsFit, ItemFits, in_class}

module _ (h : Home) (speech : Speech) where
  says_in : (xs : List Parameter) (e : Expression) (type : PvType) → Says h speech xs e type
      → Says (in_class h.program h.class) speech xs e type
  says_in xs (Constant v) type s = s
  says_in xs This type s = s
  says_in xs Result type s = s
  says_in xs (Variable name) type s = s
  says_in xs (Field object class name span) type s = (says_in xs object (Object class) s.0, s.1)
  says_in xs (Element element array index span) type s = (says_in xs array _ s.0, says_in xs index Int s.1, s.2, s.3)
  says_in xs (Length element array span) type s = (says_in xs array _ s.0, s.1, s.2)
  says_in xs (Not e) type s = (says_in xs e Truth s.0, s.1)
  says_in xs (Compute manner op a b span) type s = (says_in xs a Int s.0, says_in xs b Int s.1, s.2)
  says_in xs (Compare order a b) type s = (says_in xs a Int s.0, says_in xs b Int s.1, s.2)
  says_in xs (Equal same a b) type s = (s.0, says_in xs a s.0 s.1, says_in xs b s.0 s.2, s.3)
  says_in xs (And a b) type s = (says_in xs a Truth s.0, says_in xs b Truth s.1, s.2)
  says_in xs (Or a b) type s = (says_in xs a Truth s.0, says_in xs b Truth s.1, s.2)
  says_in xs (Implies a b) type s = (says_in xs a Truth s.0, says_in xs b Truth s.1, s.2)
  says_in xs (Old e) type s = (s.0, says_in xs e type s.1)

  all_say_in : (xs : List Parameter) (es : List Expression) (types : List PvType) → AllSay h speech xs es types
      → AllSay (in_class h.program h.class) speech xs es types
  all_say_in xs [] [] s = tt
  all_say_in xs [] (t ∷ ts) s = absurd s
  all_say_in xs (e ∷ es) [] s = absurd s
  all_say_in xs (e ∷ es) (t ∷ ts) s = (says_in xs e t s.0, all_say_in xs es ts s.1)

  cuts_in : (xs : List Parameter) (cuts : List Cut) → AllByRecursion (CutFits h speech xs) cuts
      → AllByRecursion (CutFits (in_class h.program h.class) speech xs) cuts
  cuts_in xs [] s = tt
  cuts_in xs (Below e ∷ cuts) s = (says_in xs e Int s.0, cuts_in xs cuts s.1)
  cuts_in xs (UpTo e ∷ cuts) s = (says_in xs e Int s.0, cuts_in xs cuts s.1)
  cuts_in xs (Above e ∷ cuts) s = (says_in xs e Int s.0, cuts_in xs cuts s.1)
  cuts_in xs (From e ∷ cuts) s = (says_in xs e Int s.0, cuts_in xs cuts s.1)
  cuts_in xs (Provided e ∷ cuts) s = (says_in xs e Truth s.0, cuts_in xs cuts s.1)

  looks_in : (xs : List Parameter) (looks : List Look) → AllByRecursion (LookFits h speech xs) looks
      → AllByRecursion (LookFits (in_class h.program h.class) speech xs) looks
  looks_in xs [] s = tt
  looks_in xs (AtElements element array shift ∷ looks) s = ((says_in xs array _ s.0.0, s.0.1), looks_in xs looks s.1)
  looks_in xs (AtElement was element array index ∷ looks) s =
      ((says_in xs array _ s.0.0, says_in xs index Int s.0.1, s.0.2), looks_in xs looks s.1)
  looks_in xs (AtLength element array ∷ looks) s = ((says_in xs array _ s.0.0, s.0.1), looks_in xs looks s.1)
  looks_in xs (AtTerm e ∷ looks) s = (says_in xs e Int s.0, looks_in xs looks s.1)

  mutual
    pub formula_in : (xs : List Parameter) (f : Formula) → FormulaFits h speech xs f
        → FormulaFits (in_class h.program h.class) speech xs f
    formula_in xs (Fact e span) s = says_in xs e Truth s
    formula_in xs (FieldPermission object class field type units span) s =
        (says_in xs object (Object class) s.0, s.1, s.2, s.3)
    formula_in xs (ElementPermission element array index units span) s =
        (says_in xs array _ s.0, says_in xs index Int s.1, s.2, s.3)
    formula_in xs (Holds token class object span) s = (says_in xs object (Object class) s.0, s.1)
    formula_in xs (Instance class name object arguments span) s =
        (says_in xs object (Object class) s.0, (s.1.0, s.1.1, all_say_in xs arguments _ s.1.2))
    formula_in xs (Star f g) s = (formula_in xs f s.0, formula_in xs g s.1)
    formula_in xs (When e f span) s = (says_in xs e Truth s.0, formula_in xs f s.1)
    formula_in xs (Each name low high items span) s =
        (says_in xs low Int s.0, says_in xs high Int s.1, s.2, items_in xs name items s.3)

    pub items_in : (xs : List Parameter) (name : Name) (items : Items) → ItemsFit h speech xs name items
        → ItemsFit (in_class h.program h.class) speech xs name items
    items_in xs name NoItems s = tt
    items_in xs name (Join i is) s = (item_in xs name i s.0, items_in xs name is s.1)

    item_in : (xs : List Parameter) (name : Name) (i : Item) → ItemFits h speech xs name i
        → ItemFits (in_class h.program h.class) speech xs name i
    item_in xs name (Elements element array shift units span) s = (says_in xs array _ s.0, s.1, s.2)
    item_in xs name (Repeated e span) s = (says_in ((name, Int) ∷ xs) e Truth s.0, looks_in xs (looks_of name e) s.1)
    item_in xs name (Committed class object span) s = (says_in xs object (Object class) s.0, s.1)
    item_in xs name (Guarded cuts i span) s = (cuts_in xs cuts s.0, item_in xs name i s.1)
    item_in xs name (Fixed e f span) s = (says_in xs e Int s.0, formula_in ((name, Int) ∷ xs) f s.1)
