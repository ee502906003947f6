-- What speaks of no old state is well typed where none may be spoken of.
use Rattle.std.proofs.Common.{◌≡◌, Bool, true, false, Option, Some, None, List, [], ◌∷◌, ◌++◌, inl, inr, refl}
use Rattle.std.specs.Prelude.{if◌then◌else◌}
use Rattle.std.specs.List.{AllByRecursion}
use Rattle.pv_base.specs.declared.Name.{Name}
use Rattle.pv_ast.specs.declared.PvType.{PvType}
use Rattle.pv_ast.specs.declared.PvType.TheVariants.{Int}
use Rattle.pv_picks.specs.Plain.Core as core
use Rattle.pv_picks.specs.Plain.Core.{Parameter, Expression, Cut, Formula, Items, Item, Statement, Block}
use Rattle.pv_picks.specs.Judge.Repetitions.{Look, AtElements, AtElement, AtLength, AtTerm, is_position, shift_in, look_at_element, looks_in, looks_of}
use Rattle.std.specs.Prelude.{ℤ}
use Rattle.pv_picks.specs.Typing.Expressions.{Home, Speech, Says, AllSay}
use Rattle.core_trees.specs.Formulas.{CutFits, LookFits, FormulaFits, ItemsFit, ItemFits, StatementSays, BlockSays}
use Rattle.core_names.specs.Present.{IsPresent, ArePresent, AreCutsPresent, IsPresentFormula, ArePresentItems, IsPresentItem, IsPresentStatement, IsPresentBlock}

-- What a condition without `\old` looks at

abbrev PresentLook : Look → Type 0
PresentLook (AtElements type e far) = IsPresent e
PresentLook (AtElement was type e i) = IsPresent e × IsPresent i
PresentLook (AtLength type e) = IsPresent e
PresentLook (AtTerm e) = IsPresent e

abbrev PresentLooks : List Look → Type 0
PresentLooks looks = AllByRecursion PresentLook looks

looks_append : (looks more : List Look) → PresentLooks looks → PresentLooks more → PresentLooks (looks ++ more)
looks_append [] more h k = k
looks_append (look ∷ looks) more h k = (h.0, looks_append looks more h.1 k)

element_present : (o : Option ℤ) (type : PvType) (e i : Expression) → IsPresent e → IsPresent i
    → PresentLook (look_at_element o false type e i)
element_present None type e i h k = (h, k)
element_present (Some far) type e i h k = h

beside_if : (b c : Bool) (x y : Expression) → IsPresent x → IsPresent y
    → PresentLooks (if b then AtTerm y ∷ [] else if c then AtTerm x ∷ [] else [])
beside_if true c x y h k = (k, tt)
beside_if false true x y h k = (h, tt)
beside_if false false x y h k = tt

looks_present : (name : Name) (e : Expression) → IsPresent e → PresentLooks (looks_in name false e)
looks_present name (core.Constant v) h = tt
looks_present name core.This h = tt
looks_present name core.Result h = tt
looks_present name (core.Variable other) h = tt
looks_present name (core.Field e class field span) h = looks_present name e h
looks_present name (core.Element type e i span) h =
    looks_append (looks_in name false e) _ (looks_present name e h.0)
    (looks_append (looks_in name false i) _ (looks_present name i h.1) (element_present (shift_in name i) type e i h.0 h.1, tt))
looks_present name (core.Length type e span) h = looks_append (looks_in name false e) _ (looks_present name e h) (h, tt)
looks_present name (core.Not e) h = looks_present name e h
looks_present name (core.Compute manner o x y span) h =
    looks_append (looks_in name false x) _ (looks_present name x h.0) (looks_present name y h.1)
looks_present name (core.Compare c x y) h =
    looks_append (looks_in name false x) _ (looks_present name x h.0)
    (looks_append (looks_in name false y) _ (looks_present name y h.1)
    (beside_if (is_position name x) (is_position name y) x y h.0 h.1))
looks_present name (core.Equal same x y) h =
    looks_append (looks_in name false x) _ (looks_present name x h.0)
    (looks_append (looks_in name false y) _ (looks_present name y h.1)
    (beside_if (is_position name x) (is_position name y) x y h.0 h.1))
looks_present name (core.And x y) h = looks_append (looks_in name false x) _ (looks_present name x h.0) (looks_present name y h.1)
looks_present name (core.Or x y) h = looks_append (looks_in name false x) _ (looks_present name x h.0) (looks_present name y h.1)
looks_present name (core.Implies x y) h = looks_append (looks_in name false x) _ (looks_present name x h.0)
    (looks_present name y h.1)
looks_present name (core.Old e) h = absurd h

module _ (h : Home) (result : Option PvType) (a b : Bool) where
  -- with a speech, and with the other one
  abbrev one : Speech
  one = record { result = result; old = a }

  abbrev two : Speech
  two = record { result = result; old = b }

  -- Expressions

  says_now : (e : Expression) (xs : List Parameter) (type : PvType) → IsPresent e → Says h one xs e type → Says h two xs e type
  says_now (core.Constant v) xs type p k = k
  says_now core.This xs type p k = k
  says_now core.Result xs type p k = k
  says_now (core.Variable other) xs type p k = k
  says_now (core.Field e class field span) xs type p k = (says_now e xs _ p k.0, k.1)
  says_now (core.Element element e i span) xs type p k = (says_now e xs _ p.0 k.0, says_now i xs _ p.1 k.1, k.2, k.3)
  says_now (core.Length element e span) xs type p k = (says_now e xs _ p k.0, k.1, k.2)
  says_now (core.Not e) xs type p k = (says_now e xs _ p k.0, k.1)
  says_now (core.Compute manner o x y span) xs type p k = (says_now x xs _ p.0 k.0, says_now y xs _ p.1 k.1, k.2)
  says_now (core.Compare c x y) xs type p k = (says_now x xs _ p.0 k.0, says_now y xs _ p.1 k.1, k.2)
  says_now (core.Equal same x y) xs type p k = (k.0, says_now x xs k.0 p.0 k.1, says_now y xs k.0 p.1 k.2, k.3)
  says_now (core.And x y) xs type p k = (says_now x xs _ p.0 k.0, says_now y xs _ p.1 k.1, k.2)
  says_now (core.Or x y) xs type p k = (says_now x xs _ p.0 k.0, says_now y xs _ p.1 k.1, k.2)
  says_now (core.Implies x y) xs type p k = (says_now x xs _ p.0 k.0, says_now y xs _ p.1 k.1, k.2)
  says_now (core.Old e) xs type p k = absurd p

  all_now : (es : List Expression) (xs : List Parameter) (types : List PvType) → ArePresent es
      → AllSay h one xs es types
      → AllSay h two xs es types
  all_now [] xs [] p k = k
  all_now [] xs (type ∷ types) p k = k
  all_now (e ∷ es) xs [] p k = k
  all_now (e ∷ es) xs (type ∷ types) p k = (says_now e xs type p.0 k.0, all_now es xs types p.1 k.1)

  cuts_now : (cuts : List Cut) (xs : List Parameter) → AreCutsPresent cuts → AllByRecursion (CutFits h one xs) cuts
      → AllByRecursion (CutFits h two xs) cuts
  cuts_now [] xs p k = tt
  cuts_now (core.Below e ∷ cuts) xs p k = (says_now e xs _ p.0 k.0, cuts_now cuts xs p.1 k.1)
  cuts_now (core.UpTo e ∷ cuts) xs p k = (says_now e xs _ p.0 k.0, cuts_now cuts xs p.1 k.1)
  cuts_now (core.Above e ∷ cuts) xs p k = (says_now e xs _ p.0 k.0, cuts_now cuts xs p.1 k.1)
  cuts_now (core.From e ∷ cuts) xs p k = (says_now e xs _ p.0 k.0, cuts_now cuts xs p.1 k.1)
  cuts_now (core.Provided e ∷ cuts) xs p k = (says_now e xs _ p.0 k.0, cuts_now cuts xs p.1 k.1)

  looks_now : (looks : List Look) (xs : List Parameter) → PresentLooks looks → AllByRecursion (LookFits h one xs) looks
      → AllByRecursion (LookFits h two xs) looks
  looks_now [] xs p k = tt
  looks_now (AtElements type e far ∷ looks) xs p k = ((says_now e xs _ p.0 k.0.0, k.0.1), looks_now looks xs p.1 k.1)
  looks_now (AtElement was type e i ∷ looks) xs p k = (
    (says_now e xs _ p.0.0 k.0.0, says_now i xs _ p.0.1 k.0.1, k.0.2),
    looks_now looks xs p.1 k.1,
  )
  looks_now (AtLength type e ∷ looks) xs p k = ((says_now e xs _ p.0 k.0.0, k.0.1), looks_now looks xs p.1 k.1)
  looks_now (AtTerm e ∷ looks) xs p k = (says_now e xs _ p.0 k.0, looks_now looks xs p.1 k.1)

  -- Formulas and items

  mutual
    pub formula_now : (f : Formula) (xs : List Parameter) → IsPresentFormula f → FormulaFits h one xs f → FormulaFits h two xs f
    formula_now (core.Fact e span) xs p k = says_now e xs _ p k
    formula_now (core.FieldPermission e class field type units span) xs p k = (says_now e xs _ p k.0, k.1, k.2, k.3)
    formula_now (core.ElementPermission type e i units span) xs p k = (says_now e xs _ p.0 k.0, says_now i xs _ p.1 k.1, k.2, k.3)
    formula_now (core.Holds t class e span) xs p k = (says_now e xs _ p k.0, k.1)
    formula_now (core.Instance class name e args span) xs p k =
        (says_now e xs _ p.0 k.0, (k.1.0, k.1.1, all_now args xs _ p.1 k.1.2))
    formula_now (core.Star f g) xs p k = (formula_now f xs p.0 k.0, formula_now g xs p.1 k.1)
    formula_now (core.When e f span) xs p k = (says_now e xs _ p.0 k.0, formula_now f xs p.1 k.1)
    formula_now (core.Each name low high items span) xs p k =
        (says_now low xs _ p.0 k.0, says_now high xs _ p.1 k.1, k.2, items_now items xs name p.2 k.3)

    items_now : (is : Items) (xs : List Parameter) (name : Name) → ArePresentItems is → ItemsFit h one xs name is
        → ItemsFit h two xs name is
    items_now core.NoItems xs name p k = tt
    items_now (core.Join i is) xs name p k = (item_now i xs name p.0 k.0, items_now is xs name p.1 k.1)

    item_now : (i : Item) (xs : List Parameter) (name : Name) → IsPresentItem i → ItemFits h one xs name i
        → ItemFits h two xs name i
    item_now (core.Elements type e far units span) xs name p k = (says_now e xs _ p k.0, k.1, k.2)
    item_now (core.Repeated e span) xs name p k =
        (says_now e ((name, Int) ∷ xs) _ p k.0, looks_now (looks_of name e) xs (looks_present name e p) k.1)
    item_now (core.Committed class e span) xs name p k = (says_now e xs _ p k.0, k.1)
    item_now (core.Guarded cuts i span) xs name p k = (cuts_now cuts xs p.0 k.0, item_now i xs name p.1 k.1)
    item_now (core.Fixed e f span) xs name p k = (says_now e xs _ p.0 k.0, formula_now f ((name, Int) ∷ xs) p.1 k.1)

  -- Statements

  mutual
    statement_now : (s : Statement) (head xs : List Parameter) → IsPresentStatement s → StatementSays h one head xs s
        → StatementSays h two head xs s
    statement_now (core.Assign target right span) head xs p k = k
    statement_now (core.If e first second) head xs p k = (block_now first head xs p.0 k.0, block_now second head xs p.1 k.1)
    statement_now (core.While assigned f e body span) head xs p k =
        (k.0, formula_now f xs p.0 k.1, block_now body head xs p.1 k.2, k.3, k.4)
    statement_now (core.Members team body span) head xs p k = k
    statement_now (core.Meet barrier span) head xs p k = k
    statement_now (core.Act action class e span) head xs p k = k
    statement_now (core.Fold class name e args span) head xs p k = k
    statement_now (core.Unfold class name e args span) head xs p k = k
    statement_now (core.Assert f span) head xs p k = formula_now f xs p k
    statement_now (core.Send m span) head xs p k = k
    statement_now (core.Receive m span) head xs p k = k
    statement_now (core.Return e span) head xs p k = k

    pub block_now : (c : Block) (head xs : List Parameter) → IsPresentBlock c → BlockSays h one head xs c
        → BlockSays h two head xs c
    block_now core.Stop head xs p k = tt
    block_now (core.Then s c) head xs p (inl k) = inl (k.0, statement_now s head xs p.0 k.1, block_now c head xs p.1 k.2)
    block_now (core.Then s c) head xs p (inr k) = inr (k.0, k.1, block_now c head (k.0 ∷ xs) p.1 k.2)

-- a formula, and a block, of which it is known whether they speak of the old state

pub formula_settled : (h : Home) (result : Option PvType) (old : Bool) (xs : List Parameter) (f : Formula)
    → (old ≡ false → IsPresentFormula f)
    → FormulaFits h (record { result = result; old = true }) xs f → FormulaFits h (record { result = result; old = old }) xs f
formula_settled h result true xs f p k = k
formula_settled h result false xs f p k = formula_now h result true false f xs (p refl) k

pub block_settled : (h : Home) (result : Option PvType) (old : Bool) (head xs : List Parameter) (b : Block)
    → (old ≡ false → IsPresentBlock b)
    → BlockSays h (record { result = result; old = true }) head xs b
    → BlockSays h (record { result = result; old = old }) head xs b
block_settled h result true head xs b p k = k
block_settled h result false head xs b p k = block_now h result true false b head xs (p refl) k
