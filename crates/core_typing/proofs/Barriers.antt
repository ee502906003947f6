-- A barrier's contract names nothing but what is in scope at the head of the innermost body, and is well typed there.
use Rattle.std.proofs.Common.{◌≡◌, Bool, true, false, ◌||◌, Option, Some, None, is_some, List, [], ◌∷◌, nat_eq, refl, sym, ◌∙◌}
use Rattle.std.specs.Prelude.{if◌then◌else◌}
use Rattle.std.specs.List.{AllByRecursion, list_any}
use Rattle.pv_base.specs.declared.Name.{Name}
use Rattle.pv_ast.specs.declared.PvType.{PvType}
use Rattle.pv_ast.specs.declared.PvType.TheVariants.{Int}
use Rattle.pv_base.specs.Names.{same_name}
use Rattle.pv_picks.specs.Plain.Core as core
use Rattle.pv_picks.specs.Plain.Core.{Program, Parameter, Shared, Expression, Cut, Formula, Items, Item}
use Rattle.core_trees.specs.Resolved.{InScope, names_of, Resolved, AllResolved, ResolvedCut, ResolvedFormula, ResolvedItems, ResolvedItem, ResolvedShared}
use Rattle.pv_picks.specs.Typing.Expressions.{Home, Speech, silent, type_in, Says, AllSay}
use Rattle.pv_picks.specs.Typing.Tasks.{IsWithin}
use Rattle.core_trees.specs.Formulas.{CutFits}
use Rattle.core_typing.proofs.Within.{FormulaWithin, ItemsWithin, ItemWithin, SharedWithin}

-- the names have the same types in a smaller scope
pub record Narrows (names : List Name) (xs ys : List Parameter) : Type 0 where
  pub keeps : (name : Name) (type : PvType) → InScope names name → type_in xs name ≡ Some type → type_in ys name ≡ Some type
  pub new : (name : Name) → type_in xs name ≡ None → type_in ys name ≡ None

-- One more name

keeps_if : (b rest : Bool) (type : PvType) (o p : Option PvType) → (b || rest) ≡ true
    → (rest ≡ true → o ≡ Some type → p ≡ Some type)
    → (if b then Some Int else o) ≡ Some type → (if b then Some Int else p) ≡ Some type
keeps_if true rest type o p i h k = k
keeps_if false rest type o p i h k = h i k

new_if : (b : Bool) (o p : Option PvType) → (o ≡ None → p ≡ None) → (if b then Some Int else o) ≡ None
    → (if b then Some Int else p) ≡ None
new_if true o p h k = absurd cc
new_if false o p h k = h k

narrows_more : (name : Name) (names : List Name) (xs ys : List Parameter) → Narrows names xs ys
    → Narrows (name ∷ names) ((name, Int) ∷ xs) ((name, Int) ∷ ys)
narrows_more name names xs ys n = record {
  keeps = λ other type i.
      keeps_if (nat_eq other.0 name.0) (list_any (same_name other) names) type (type_in xs other) (type_in ys other) i
      (n.keeps other type);
  new = λ other. new_if (nat_eq other.0 name.0) (type_in xs other) (type_in ys other) (n.new other);
}

-- Expressions

module _ (p : Program) (h : Home) (speech : Speech) where
  says_narrow : (e : Expression) (type : PvType) (names : List Name) (xs ys : List Parameter) → Narrows names xs ys
      → Resolved p names e
      → Says h speech xs e type → Says h speech ys e type
  says_narrow (core.Constant v) type names xs ys n r k = k
  says_narrow core.This type names xs ys n r k = k
  says_narrow core.Result type names xs ys n r k = k
  says_narrow (core.Variable name) type names xs ys n r k = n.keeps name type r k
  says_narrow (core.Field e class field span) type names xs ys n r k = (says_narrow e _ names xs ys n r.0 k.0, k.1)
  says_narrow (core.Element element e i span) type names xs ys n r k =
      (says_narrow e _ names xs ys n r.0 k.0, says_narrow i _ names xs ys n r.1 k.1, k.2, k.3)
  says_narrow (core.Length element e span) type names xs ys n r k = (says_narrow e _ names xs ys n r k.0, k.1, k.2)
  says_narrow (core.Not e) type names xs ys n r k = (says_narrow e _ names xs ys n r k.0, k.1)
  says_narrow (core.Compute manner o x y span) type names xs ys n r k =
      (says_narrow x _ names xs ys n r.0 k.0, says_narrow y _ names xs ys n r.1 k.1, k.2)
  says_narrow (core.Compare c x y) type names xs ys n r k =
      (says_narrow x _ names xs ys n r.0 k.0, says_narrow y _ names xs ys n r.1 k.1, k.2)
  says_narrow (core.Equal same x y) type names xs ys n r k =
      (k.0, says_narrow x k.0 names xs ys n r.0 k.1, says_narrow y k.0 names xs ys n r.1 k.2, k.3)
  says_narrow (core.And x y) type names xs ys n r k =
      (says_narrow x _ names xs ys n r.0 k.0, says_narrow y _ names xs ys n r.1 k.1, k.2)
  says_narrow (core.Or x y) type names xs ys n r k =
      (says_narrow x _ names xs ys n r.0 k.0, says_narrow y _ names xs ys n r.1 k.1, k.2)
  says_narrow (core.Implies x y) type names xs ys n r k =
      (says_narrow x _ names xs ys n r.0 k.0, says_narrow y _ names xs ys n r.1 k.1, k.2)
  says_narrow (core.Old e) type names xs ys n r k = (k.0, says_narrow e _ names xs ys n r k.1)

  all_narrow : (es : List Expression) (types : List PvType) (names : List Name) (xs ys : List Parameter) → Narrows names xs ys
      → AllResolved p names es → AllSay h speech xs es types → AllSay h speech ys es types
  all_narrow [] [] names xs ys n r k = k
  all_narrow [] (type ∷ types) names xs ys n r k = k
  all_narrow (e ∷ es) [] names xs ys n r k = k
  all_narrow (e ∷ es) (type ∷ types) names xs ys n r k =
      (says_narrow e type names xs ys n r.0 k.0, all_narrow es types names xs ys n r.1 k.1)

  cuts_narrow : (cuts : List Cut) (names : List Name) (xs ys : List Parameter) → Narrows names xs ys
      → AllByRecursion (ResolvedCut p names) cuts → AllByRecursion (CutFits h speech xs) cuts
      → AllByRecursion (CutFits h speech ys) cuts
  cuts_narrow [] names xs ys n r k = tt
  cuts_narrow (core.Below e ∷ cuts) names xs ys n r k = (
    says_narrow e _ names xs ys n r.0 k.0,
    cuts_narrow cuts names xs ys n r.1 k.1,
  )
  cuts_narrow (core.UpTo e ∷ cuts) names xs ys n r k = (
    says_narrow e _ names xs ys n r.0 k.0,
    cuts_narrow cuts names xs ys n r.1 k.1,
  )
  cuts_narrow (core.Above e ∷ cuts) names xs ys n r k = (
    says_narrow e _ names xs ys n r.0 k.0,
    cuts_narrow cuts names xs ys n r.1 k.1,
  )
  cuts_narrow (core.From e ∷ cuts) names xs ys n r k = (
    says_narrow e _ names xs ys n r.0 k.0,
    cuts_narrow cuts names xs ys n r.1 k.1,
  )
  cuts_narrow (core.Provided e ∷ cuts) names xs ys n r k =
      (says_narrow e _ names xs ys n r.0 k.0, cuts_narrow cuts names xs ys n r.1 k.1)

  -- Formulas and items

  mutual
    formula_narrow : (f : Formula) (names : List Name) (xs ys : List Parameter) → Narrows names xs ys → ResolvedFormula p names f
        → FormulaWithin h speech xs f → FormulaWithin h speech ys f
    formula_narrow (core.Fact e span) names xs ys n r k = says_narrow e _ names xs ys n r k
    formula_narrow (core.FieldPermission e class field type units span) names xs ys n r k =
        (says_narrow e _ names xs ys n r.0 k.0, k.1, k.2, k.3)
    formula_narrow (core.ElementPermission type e i units span) names xs ys n r k =
        (says_narrow e _ names xs ys n r.0 k.0, says_narrow i _ names xs ys n r.1 k.1, k.2, k.3)
    formula_narrow (core.Holds t class e span) names xs ys n r k = (says_narrow e _ names xs ys n r.0 k.0, k.1)
    formula_narrow (core.Instance class name e args span) names xs ys n r k =
        (says_narrow e _ names xs ys n r.0 k.0, (k.1.0, k.1.1, all_narrow args _ names xs ys n r.1 k.1.2))
    formula_narrow (core.Star f g) names xs ys n r k = (
      formula_narrow f names xs ys n r.0 k.0,
      formula_narrow g names xs ys n r.1 k.1,
    )
    formula_narrow (core.When e f span) names xs ys n r k =
        (says_narrow e _ names xs ys n r.0 k.0, formula_narrow f names xs ys n r.1 k.1)
    formula_narrow (core.Each name low high items span) names xs ys n r k = (
      says_narrow low _ names xs ys n r.0 k.0,
      says_narrow high _ names xs ys n r.1 k.1,
      n.new name k.2,
      items_narrow items (name ∷ names) ((name, Int) ∷ xs) ((name, Int) ∷ ys) (narrows_more name names xs ys n) r.2 k.3,
    )

    items_narrow : (is : Items) (names : List Name) (xs ys : List Parameter) → Narrows names xs ys → ResolvedItems p names is
        → ItemsWithin h speech xs is → ItemsWithin h speech ys is
    items_narrow core.NoItems names xs ys n r k = tt
    items_narrow (core.Join i is) names xs ys n r k = (item_narrow i names xs ys n r.0 k.0, items_narrow is names xs ys n r.1 k.1)

    item_narrow : (i : Item) (names : List Name) (xs ys : List Parameter) → Narrows names xs ys → ResolvedItem p names i
        → ItemWithin h speech xs i → ItemWithin h speech ys i
    item_narrow (core.Elements type e shift units span) names xs ys n r k = (says_narrow e _ names xs ys n r k.0, k.1, k.2)
    item_narrow (core.Repeated e span) names xs ys n r k = says_narrow e _ names xs ys n r k
    item_narrow (core.Committed class e span) names xs ys n r k = (says_narrow e _ names xs ys n r.0 k.0, k.1)
    item_narrow (core.Guarded cuts i span) names xs ys n r k =
        (cuts_narrow cuts names xs ys n r.0 k.0, item_narrow i names xs ys n r.1 k.1)
    item_narrow (core.Fixed e f span) names xs ys n r k = (
      says_narrow e _ names xs ys n r.0 k.0,
      formula_narrow f names xs ys n r.1 k.1,
    )

pub shared_narrow : (p : Program) (h : Home) (s : Shared) (names : List Name) (xs ys : List Parameter) → Narrows names xs ys
    → ResolvedShared p names s → SharedWithin h xs s → SharedWithin h ys s
shared_narrow p h s names xs ys n r k = (
  formula_narrow p h silent s.one.before names xs ys n r.0.0 k.0,
  formula_narrow p h silent s.one.after names xs ys n r.0.1 k.1,
  items_narrow p h silent s.each_before names xs ys n r.1 k.2,
  items_narrow p h silent s.each_after names xs ys n r.2 k.3,
)

-- A scope within another

has_type : (b rest : Bool) (type : PvType) (o : Option PvType) → (b || rest) ≡ true → (rest ≡ true → is_some o ≡ true)
    → is_some (if b then Some type else o) ≡ true
has_type true rest type o i h = refl
has_type false rest type o i h = h i

pub listed : (xs : List Parameter) (name : Name) → InScope (names_of xs) name → is_some (type_in xs name) ≡ true
listed [] name i = absurd cc
listed (x ∷ xs) name i =
    has_type (nat_eq name.0 x.0.0) (list_any (same_name name) (names_of xs)) x.1 (type_in xs name) i (λ j. listed xs name j)

same_there : (o q : Option PvType) (type : PvType) → is_some o ≡ true → ((t : PvType) → o ≡ Some t → q ≡ Some t) → q ≡ Some type
    → o ≡ Some type
same_there None q type i h k = absurd cc
same_there (Some t) q type i h k = sym (h t refl) ∙ k

pub none_there : (o q : Option PvType) → ((t : PvType) → o ≡ Some t → q ≡ Some t) → q ≡ None → o ≡ None
none_there None q h k = refl
none_there (Some t) q h k = let never : Some t ≡ None = sym (h t refl) ∙ k in absurd cc

pub narrows_within : (head xs : List Parameter) → IsWithin head xs → Narrows (names_of head) xs head
narrows_within head xs within = record {
  keeps = λ name type i k. same_there (type_in head name) (type_in xs name) type (listed head name i) (within name) k;
  new = λ name k. none_there (type_in head name) (type_in xs name) (within name) k;
}
