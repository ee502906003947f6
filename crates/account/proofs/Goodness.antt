-- Well typed formulas are those of which the laws of formulas speak.
use Rattle.std.proofs.Common.{List, [], ◌∷◌}
use Rattle.std.specs.List.{AllByRecursion}
use Rattle.pv_base.specs.declared.Name.{Name}
use Rattle.pv_ast.specs.declared.PvType.{PvType}
use Rattle.pv_ast.specs.declared.PvType.TheVariants.{Int, Truth, Object, IntArray, TruthArray, Null}
use Rattle.pv_picks.specs.Plain.Core.{Parameter, Cut, Below, UpTo, Above, From, Provided, Formula, Fact, FieldPermission, ElementPermission, Holds, Instance, Star, When, Each, Items, NoItems, Join, Item, Elements, Repeated, Committed, Guarded, Fixed}
use Rattle.pv_picks.specs.Judge.Repetitions.{Look, AtElements, AtElement, AtLength, AtTerm, looks_of}
use Rattle.pv_picks.specs.Typing.Expressions.{Home, Speech, IsDeclared}
use Rattle.core_trees.specs.Formulas.{FormulaFits, ItemsFit, ItemFits, CutFits, LookFits}
use Rattle.account_formulas.specs.Growing.{IsPicked}
use Rattle.account_formulas.specs.Good.{IsGood, AreGoodItems, IsGoodItem, AreGoodCuts, AreGoodLooks}

-- a declared type is one of which a value can be picked
pub picked : (type : PvType) → IsDeclared type → IsPicked type
picked Int d = tt
picked Truth d = tt
picked (Object class) d = tt
picked IntArray d = tt
picked TruthArray d = tt
picked Null d = d

module _ (h : Home) (speech : Speech) where
  good_cuts : (xs : List Parameter) (cuts : List Cut) → AllByRecursion (CutFits h speech xs) cuts → AreGoodCuts h speech xs cuts
  good_cuts xs [] fits = tt
  good_cuts xs (Below e ∷ cuts) fits = (fits.0, good_cuts xs cuts fits.1)
  good_cuts xs (UpTo e ∷ cuts) fits = (fits.0, good_cuts xs cuts fits.1)
  good_cuts xs (Above e ∷ cuts) fits = (fits.0, good_cuts xs cuts fits.1)
  good_cuts xs (From e ∷ cuts) fits = (fits.0, good_cuts xs cuts fits.1)
  good_cuts xs (Provided e ∷ cuts) fits = (fits.0, good_cuts xs cuts fits.1)

  good_looks : (xs : List Parameter) (looks : List Look) → AllByRecursion (LookFits h speech xs) looks
      → AreGoodLooks h speech xs looks
  good_looks xs [] fits = tt
  good_looks xs (AtElements element array shift ∷ looks) fits = (fits.0.0, good_looks xs looks fits.1)
  good_looks xs (AtElement was element array index ∷ looks) fits = (fits.0.0, fits.0.1, good_looks xs looks fits.1)
  good_looks xs (AtLength element array ∷ looks) fits = (fits.0.0, fits.0.1, good_looks xs looks fits.1)
  good_looks xs (AtTerm e ∷ looks) fits = ((Int, fits.0), good_looks xs looks fits.1)

  mutual
    pub good_formula : (xs : List Parameter) (f : Formula) → FormulaFits h speech xs f → IsGood h speech xs f
    good_formula xs (Fact e span) fits = fits
    good_formula xs (FieldPermission e class field type amount span) fits = (fits.0, fits.1, fits.3.0, picked type fits.2)
    good_formula xs (ElementPermission element array index amount span) fits = (fits.0, fits.1, fits.2, fits.3.0)
    good_formula xs (Holds token class e span) fits = fits.0
    good_formula xs (Instance class name e arguments span) fits = fits
    good_formula xs (Star a b) fits = (good_formula xs a fits.0, good_formula xs b fits.1)
    good_formula xs (When e f span) fits = (fits.0, good_formula xs f fits.1)
    good_formula xs (Each name low high items span) fits = (fits.0, fits.1, fits.2, good_items xs name items fits.3)

    pub good_items : (xs : List Parameter) (name : Name) (items : Items) → ItemsFit h speech xs name items
        → AreGoodItems h speech xs name items
    good_items xs name NoItems fits = tt
    good_items xs name (Join i is) fits = (good_item xs name i fits.0, good_items xs name is fits.1)

    good_item : (xs : List Parameter) (name : Name) (i : Item) → ItemFits h speech xs name i → IsGoodItem h speech xs name i
    good_item xs name (Elements element array shift amount span) fits = (fits.0, fits.1, fits.2.0)
    good_item xs name (Repeated e span) fits = (fits.0, good_looks xs (looks_of name e) fits.1)
    good_item xs name (Committed class e span) fits = fits.0
    good_item xs name (Guarded cuts i span) fits = (good_cuts xs cuts fits.0, good_item xs name i fits.1)
    good_item xs name (Fixed e f span) fits = (fits.0, good_formula ((name, Int) ∷ xs) f fits.1)
