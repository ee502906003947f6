-- Terms of items are typed outside their quantifier: what doesn't name the position has its type without it.
use Rattle.std.proofs.Common.{◌≡◌, ℤ, Bool, true, false, ◌||◌, Option, Some, None, List, [], ◌∷◌, ◌++◌, nat_eq, refl, sym, ◌∙◌, ap, subst}
use Rattle.std.proofs.lemmas.Bool.{eqb-true, eq-eqb, both_ways}
use Rattle.std.specs.Prelude.{IsTrue, if◌then◌else◌}
use Rattle.std.specs.List.{AllByRecursion}
use Rattle.pv_base.specs.declared.Name.{Name}
use Rattle.pv_base.specs.declared.Span.{Span}
use Rattle.pv_ast.specs.declared.PvType.{PvType}
use Rattle.pv_ast.specs.declared.PvType.TheVariants.{Int, Truth}
use Rattle.pv_base.specs.Names.{same_name}
use Rattle.pv_picks.specs.Plain.Core as core
use Rattle.pv_picks.specs.Plain.Core.{Parameter, Shared, Expression, Cut, Formula, Items, Item}
use Rattle.pv_picks.specs.Judge.Repetitions.{Look, AtElements, AtElement, AtLength, AtTerm, is_position, shift_in, in_state, look_at_element, term_beside, looks_in, looks_of}
use Rattle.pv_picks.specs.Judge.Steady.{mentions, IsTerm, IsTermLook}
use Rattle.core_trees.specs.Positions.{IsTermCut, ConfinedFormula, ConfinedItems, ConfinedItem, ConfinedShared}
use Rattle.pv_picks.specs.Typing.Expressions.{Home, Speech, silent, type_in, Says}
use Rattle.core_trees.specs.Formulas.{CutFits, LookFits, FormulaFits, ItemsFit, ItemFits, SharedFits}
use Rattle.core_typing.proofs.Standing.{first_there}
use Rattle.core_typing.proofs.Within.{FormulaWithin, ItemsWithin, ItemWithin, SharedWithin}
use Rattle.core_trees.proofs.Shapes.{equal_names}

-- Terms

or_first : (a b : Bool) → (a || b) ≡ false → a ≡ false
or_first true b k = absurd cc
or_first false b k = refl

or_second : (a b : Bool) → (a || b) ≡ false → b ≡ false
or_second true b k = absurd cc
or_second false b k = k

-- a name that isn't the position's has its type without it
other_there : (ys : List Parameter) (name other : Name) (type : PvType) → same_name name other ≡ false
    → type_in ((name, Int) ∷ ys) other ≡ Some type → type_in ys other ≡ Some type
other_there ys name other type apart k = by (nat_eq other.0 name.0) refl k
  where
    by : (b : Bool) → nat_eq other.0 name.0 ≡ b → (if b then Some Int else type_in ys other) ≡ Some type
        → type_in ys other ≡ Some type
    by true is i = let same : other.0 ≡ name.0 = eqb-true other.0 name.0 is in absurd
        (both_ways _ apart (eq-eqb name.0 other.0 (sym same)))
    by false is i = i

module _ (h : Home) (speech : Speech) (ys : List Parameter) (name : Name) where
  abbrev inner : List Parameter
  inner = (name, Int) ∷ ys

  term_says : (e : Expression) (type : PvType) → IsTerm name e → Says h speech inner e type → Says h speech ys e type
  term_says (core.Constant v) type apart k = k
  term_says core.This type apart k = k
  term_says core.Result type apart k = k
  term_says (core.Variable other) type apart k = other_there ys name other type apart k
  term_says (core.Field e class field span) type apart k = (term_says e _ apart k.0, k.1)
  term_says (core.Element element e i span) type apart k = (
    term_says e _ (or_first (mentions name e) (mentions name i) apart) k.0,
    term_says i _ (or_second (mentions name e) (mentions name i) apart) k.1,
    k.2,
    k.3,
  )
  term_says (core.Length element e span) type apart k = (term_says e _ apart k.0, k.1, k.2)
  term_says (core.Not e) type apart k = (term_says e _ apart k.0, k.1)
  term_says (core.Compute manner o x y span) type apart k = (
    term_says x _ (or_first (mentions name x) (mentions name y) apart) k.0,
    term_says y _ (or_second (mentions name x) (mentions name y) apart) k.1,
    k.2,
  )
  term_says (core.Compare c x y) type apart k = (
    term_says x _ (or_first (mentions name x) (mentions name y) apart) k.0,
    term_says y _ (or_second (mentions name x) (mentions name y) apart) k.1,
    k.2,
  )
  term_says (core.Equal same x y) type apart k = (
    k.0,
    term_says x k.0 (or_first (mentions name x) (mentions name y) apart) k.1,
    term_says y k.0 (or_second (mentions name x) (mentions name y) apart) k.2,
    k.3,
  )
  term_says (core.And x y) type apart k = (
    term_says x _ (or_first (mentions name x) (mentions name y) apart) k.0,
    term_says y _ (or_second (mentions name x) (mentions name y) apart) k.1,
    k.2,
  )
  term_says (core.Or x y) type apart k = (
    term_says x _ (or_first (mentions name x) (mentions name y) apart) k.0,
    term_says y _ (or_second (mentions name x) (mentions name y) apart) k.1,
    k.2,
  )
  term_says (core.Implies x y) type apart k = (
    term_says x _ (or_first (mentions name x) (mentions name y) apart) k.0,
    term_says y _ (or_second (mentions name x) (mentions name y) apart) k.1,
    k.2,
  )
  term_says (core.Old e) type apart k = (k.0, term_says e _ apart k.1)

  cuts_say : (cuts : List Cut) → AllByRecursion (IsTermCut name) cuts → AllByRecursion (CutFits h speech inner) cuts
      → AllByRecursion (CutFits h speech ys) cuts
  cuts_say [] apart k = tt
  cuts_say (core.Below e ∷ cuts) apart k = (term_says e _ apart.0 k.0, cuts_say cuts apart.1 k.1)
  cuts_say (core.UpTo e ∷ cuts) apart k = (term_says e _ apart.0 k.0, cuts_say cuts apart.1 k.1)
  cuts_say (core.Above e ∷ cuts) apart k = (term_says e _ apart.0 k.0, cuts_say cuts apart.1 k.1)
  cuts_say (core.From e ∷ cuts) apart k = (term_says e _ apart.0 k.0, cuts_say cuts apart.1 k.1)
  cuts_say (core.Provided e ∷ cuts) apart k = (term_says e _ apart.0 k.0, cuts_say cuts apart.1 k.1)

  -- What a repeated condition looks at

  looks_say : (looks : List Look) → AllByRecursion (IsTermLook name) looks → AllByRecursion (LookFits h speech inner) looks
      → AllByRecursion (LookFits h speech ys) looks
  looks_say [] apart k = tt
  looks_say (AtElements element e shift ∷ looks) apart k = ((term_says e _ apart.0 k.0.0, k.0.1), looks_say looks apart.1 k.1)
  looks_say (AtElement was element e i ∷ looks) apart k = (
    (term_says e _ apart.0.0 k.0.0, term_says i _ apart.0.1 k.0.1, k.0.2),
    looks_say looks apart.1 k.1,
  )
  looks_say (AtLength element e ∷ looks) apart k = ((term_says e _ apart.0 k.0.0, k.0.1), looks_say looks apart.1 k.1)
  looks_say (AtTerm e ∷ looks) apart k = (term_says e _ apart.0 k.0, looks_say looks apart.1 k.1)

  abbrev AreTyped : List Look → Type 0
  AreTyped looks = AllByRecursion (LookFits h speech inner) looks

  typed_append : (looks more : List Look) → AreTyped looks → AreTyped more → AreTyped (looks ++ more)
  typed_append [] more i j = j
  typed_append (look ∷ looks) more i j = (i.0, typed_append looks more i.1 j)

  -- an expression of the old state, where it is looked at there
  old_says : (old : Bool) (e : Expression) (type : PvType) → (old ≡ true → IsTrue speech.old) → Says h speech inner e type
      → Says h speech inner (in_state old e) type
  old_says true e type allowed k = (allowed refl, k)
  old_says false e type allowed k = k

  element_typed : (o : Option ℤ) (old : Bool) (element : PvType) (e i : Expression) (type : PvType) (span : Span)
      → (old ≡ true → IsTrue speech.old)
      → Says h speech inner (core.Element element e i span) type → LookFits h speech inner (look_at_element o old element e i)
  element_typed None old element e i type span allowed k = (old_says old e _ allowed k.0, old_says old i _ allowed k.1, k.2)
  element_typed (Some s) old element e i type span allowed k = (old_says old e _ allowed k.0, k.2)

  -- the position is a number
  position_int : (e : Expression) (type : PvType) → is_position name e ≡ true → Says h speech inner e type → type ≡ Int
  position_int (core.Variable other) type is k =
      let same : name ≡ other = equal_names name other is in
      let there : type_in inner name ≡ Some type = ap (type_in inner) same ∙ k in
      same_type type (sym (first_there ys name) ∙ there)
    where
      same_type : (type : PvType) → Some Int ≡ Some type → type ≡ Int
      same_type type i = cc
  position_int (core.Constant v) type is k = absurd cc
  position_int core.This type is k = absurd cc
  position_int core.Result type is k = absurd cc
  position_int (core.Field e class field span) type is k = absurd cc
  position_int (core.Element element e i span) type is k = absurd cc
  position_int (core.Length element e span) type is k = absurd cc
  position_int (core.Not e) type is k = absurd cc
  position_int (core.Compute manner o x y span) type is k = absurd cc
  position_int (core.Compare c x y) type is k = absurd cc
  position_int (core.Equal same x y) type is k = absurd cc
  position_int (core.And x y) type is k = absurd cc
  position_int (core.Or x y) type is k = absurd cc
  position_int (core.Implies x y) type is k = absurd cc
  position_int (core.Old e) type is k = absurd cc

  beside_typed : (x y : Expression) (old : Bool) (type : PvType) → (old ≡ true → IsTrue speech.old)
      → Says h speech inner x type → Says h speech inner y type → AreTyped (term_beside name old x y)
  beside_typed x y old type allowed k l = by (is_position name x) (is_position name y) refl refl
    where
      by : (a b : Bool) → is_position name x ≡ a → is_position name y ≡ b
          → AreTyped (if a then AtTerm (in_state old y) ∷ [] else if b then AtTerm (in_state old x) ∷ [] else [])
      by true b i j = (old_says old y _ allowed (subst (λ t. Says h speech inner y t) (position_int x type i k) l), tt)
      by false true i j = (old_says old x _ allowed (subst (λ t. Says h speech inner x t) (position_int y type j l) k), tt)
      by false false i j = tt

  looks_typed : (e : Expression) (old : Bool) (type : PvType) → (old ≡ true → IsTrue speech.old) → Says h speech inner e type
      → AreTyped (looks_in name old e)
  looks_typed (core.Constant v) old type allowed k = tt
  looks_typed core.This old type allowed k = tt
  looks_typed core.Result old type allowed k = tt
  looks_typed (core.Variable other) old type allowed k = tt
  looks_typed (core.Field e class field span) old type allowed k = looks_typed e old _ allowed k.0
  looks_typed (core.Element element e i span) old type allowed k =
      typed_append (looks_in name old e) _ (looks_typed e old _ allowed k.0)
      (typed_append (looks_in name old i) _ (looks_typed i old _ allowed k.1)
      (element_typed (shift_in name i) old element e i type span allowed k, tt))
  looks_typed (core.Length element e span) old type allowed k =
      typed_append (looks_in name old e) _ (looks_typed e old _ allowed k.0) ((old_says old e _ allowed k.0, k.1), tt)
  looks_typed (core.Not e) old type allowed k = looks_typed e old _ allowed k.0
  looks_typed (core.Compute manner o x y span) old type allowed k =
      typed_append (looks_in name old x) _ (looks_typed x old _ allowed k.0) (looks_typed y old _ allowed k.1)
  looks_typed (core.Compare c x y) old type allowed k =
      typed_append (looks_in name old x) _ (looks_typed x old _ allowed k.0)
      (typed_append (looks_in name old y) _ (looks_typed y old _ allowed k.1) (beside_typed x y old Int allowed k.0 k.1))
  looks_typed (core.Equal same x y) old type allowed k =
      typed_append (looks_in name old x) _ (looks_typed x old _ allowed k.1)
      (typed_append (looks_in name old y) _ (looks_typed y old _ allowed k.2) (beside_typed x y old k.0 allowed k.1 k.2))
  looks_typed (core.And x y) old type allowed k =
      typed_append (looks_in name old x) _ (looks_typed x old _ allowed k.0) (looks_typed y old _ allowed k.1)
  looks_typed (core.Or x y) old type allowed k =
      typed_append (looks_in name old x) _ (looks_typed x old _ allowed k.0) (looks_typed y old _ allowed k.1)
  looks_typed (core.Implies x y) old type allowed k =
      typed_append (looks_in name old x) _ (looks_typed x old _ allowed k.0) (looks_typed y old _ allowed k.1)
  looks_typed (core.Old e) old type allowed k = looks_typed e true _ (λ i. k.0) k.1

  looks_fit : (e : Expression) → AllByRecursion (IsTermLook name) (looks_of name e) → Says h speech inner e Truth
      → AllByRecursion (LookFits h speech ys) (looks_of name e)
  looks_fit e apart k = looks_say (looks_of name e) apart (looks_typed e false Truth (λ i. absurd cc) k)

-- Formulas and items

mutual
  pub formula_outside : (f : Formula) (h : Home) (speech : Speech) (xs : List Parameter) → ConfinedFormula f
      → FormulaWithin h speech xs f
      → FormulaFits h speech xs f
  formula_outside (core.Fact e span) h speech xs apart k = k
  formula_outside (core.FieldPermission e class field type units span) h speech xs apart k = k
  formula_outside (core.ElementPermission type e i units span) h speech xs apart k = k
  formula_outside (core.Holds t class e span) h speech xs apart k = k
  formula_outside (core.Instance class name e args span) h speech xs apart k = k
  formula_outside (core.Star f g) h speech xs apart k = (
    formula_outside f h speech xs apart.0 k.0,
    formula_outside g h speech xs apart.1 k.1,
  )
  formula_outside (core.When e f span) h speech xs apart k = (k.0, formula_outside f h speech xs apart k.1)
  formula_outside (core.Each name low high items span) h speech xs apart k =
      (k.0, k.1, k.2, items_outside items h speech xs name apart k.3)

  pub items_outside : (is : Items) (h : Home) (speech : Speech) (xs : List Parameter) (name : Name) → ConfinedItems name is
      → ItemsWithin h speech ((name, Int) ∷ xs) is → ItemsFit h speech xs name is
  items_outside core.NoItems h speech xs name apart k = tt
  items_outside (core.Join i is) h speech xs name apart k =
      (item_outside i h speech xs name apart.0 k.0, items_outside is h speech xs name apart.1 k.1)

  item_outside : (i : Item) (h : Home) (speech : Speech) (xs : List Parameter) (name : Name) → ConfinedItem name i
      → ItemWithin h speech ((name, Int) ∷ xs) i → ItemFits h speech xs name i
  item_outside (core.Elements type e shift units span) h speech xs name apart k =
      (term_says h speech xs name e _ apart k.0, k.1, k.2)
  item_outside (core.Repeated e span) h speech xs name apart k = (k, looks_fit h speech xs name e apart.0 k)
  item_outside (core.Committed class e span) h speech xs name apart k = (term_says h speech xs name e _ apart k.0, k.1)
  item_outside (core.Guarded cuts i span) h speech xs name apart k =
      (cuts_say h speech xs name cuts apart.0 k.0, item_outside i h speech xs name apart.1 k.1)
  item_outside (core.Fixed e f span) h speech xs name apart k =
      (term_says h speech xs name e _ apart.0 k.0, formula_outside f h speech ((name, Int) ∷ xs) apart.1 k.1)

pub shared_outside : (s : Shared) (h : Home) (xs : List Parameter) (name : Name) → type_in xs name ≡ None → ConfinedShared name s
    → SharedWithin h ((name, Int) ∷ xs) s → SharedFits h xs name s
shared_outside s h xs name new apart k = (
  new,
  formula_outside s.one.before h silent ((name, Int) ∷ xs) apart.0.0 k.0,
  formula_outside s.one.after h silent ((name, Int) ∷ xs) apart.0.1 k.1,
  items_outside s.each_before h silent xs name apart.1 k.2,
  items_outside s.each_after h silent xs name apart.2 k.3,
)
