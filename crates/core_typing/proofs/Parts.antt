-- What is made of well typed parts of formulas is well typed.
use Rattle.std.proofs.Common.{◌≡◌, ℕ, ℤ, Bool, true, false, Option, Some, None, List, [], ◌∷◌, ◌++◌, refl, sym, subst}
use Rattle.std.specs.Prelude.{if◌then◌else◌}
use Rattle.std.specs.List.{AllByRecursion}
use Rattle.pv_base.specs.declared.Name.{Name}
use Rattle.pv_base.specs.declared.Span.{Span}
use Rattle.pv_ast.specs.declared.PvType.{PvType}
use Rattle.pv_ast.specs.declared.PvType.TheVariants.{Int, Truth}
use Rattle.pv_ast.specs.Rules.Items.{Form, variable, literal, shift, element, guard, fixing, other}
use Rattle.pv_picks.specs.Plain.Core.{Expression, Cut, Formula, Items, Item}
use Rattle.pv_picks.specs.Plain.Core as core
use Rattle.pv_picks.specs.Elaborating.Operations.{is_position, cut_before, cut_behind, cuts_of, term_of, permission, permissions}
use Rattle.pv_picks.specs.Elaborating.Expressions.{shifted, together}
use Rattle.pv_picks.specs.Typing.Expressions.{Home, Speech, type_in, Says}
use Rattle.core_trees.specs.Formulas.{IsAmount, CutFits}
use Rattle.core_typing.proofs.Within.{FormulaWithin, ItemsWithin, ItemWithin}
use Rattle.core_typing.proofs.Places.{FieldsDeclared}
use Rattle.core_trees.proofs.Shapes.{is_element, IsAccess}
use Rattle.core_typing.proofs.Expressions.{IsPlace}

module _ (h : Home) (speech : Speech) (xs : List core.Parameter) where
  -- Guards

  before_fits : (c : core.Comparison) (e : Expression) → Says h speech xs e Int → CutFits h speech xs (cut_before c e)
  before_fits core.Less e k = k
  before_fits core.AtMost e k = k
  before_fits core.Greater e k = k
  before_fits core.AtLeast e k = k

  behind_fits : (c : core.Comparison) (e : Expression) → Says h speech xs e Int → CutFits h speech xs (cut_behind c e)
  behind_fits core.Less e k = k
  behind_fits core.AtMost e k = k
  behind_fits core.Greater e k = k
  behind_fits core.AtLeast e k = k

  cut_if : (a b : Bool) (c : core.Comparison) (x y : Expression) → Says h speech xs x Int → Says h speech xs y Int
      → CutFits h speech xs (if a then cut_before c y else (if b then cut_behind c x else core.Provided (core.Compare c x y)))
  cut_if true b c x y i j = before_fits c y j
  cut_if false true c x y i j = behind_fits c x i
  cut_if false false c x y i j = (i, j, refl)

  cuts_append : (cs ds : List Cut) → AllByRecursion (CutFits h speech xs) cs → AllByRecursion (CutFits h speech xs) ds
      → AllByRecursion (CutFits h speech xs) (cs ++ ds)
  cuts_append [] ds i j = j
  cuts_append (c ∷ cs) ds i j = (i.0, cuts_append cs ds i.1 j)

  pub cuts_fit : (name : Name) (e : Expression) → Says h speech xs e Truth → AllByRecursion (CutFits h speech xs) (cuts_of name e)
  cuts_fit name (core.And x y) k = cuts_append (cuts_of name x) (cuts_of name y) (cuts_fit name x k.0) (cuts_fit name y k.1)
  cuts_fit name (core.Compare c x y) k = (cut_if (is_position name x) (is_position name y) c x y k.0 k.1, tt)
  cuts_fit name (core.Constant v) k = (k, tt)
  cuts_fit name core.This k = (k, tt)
  cuts_fit name core.Result k = (k, tt)
  cuts_fit name (core.Variable name') k = (k, tt)
  cuts_fit name (core.Field e class field at) k = (k, tt)
  cuts_fit name (core.Element type' e i at) k = (k, tt)
  cuts_fit name (core.Length type' e at) k = (k, tt)
  cuts_fit name (core.Not e) k = (k, tt)
  cuts_fit name (core.Compute m o x y at) k = (k, tt)
  cuts_fit name (core.Equal same x y) k = (k, tt)
  cuts_fit name (core.Or x y) k = (k, tt)
  cuts_fit name (core.Implies x y) k = (k, tt)
  cuts_fit name (core.Old e) k = (k, tt)

  number_in : (name : Name) (o : Option PvType) (type : PvType) → o ≡ Some Int → o ≡ Some type → type ≡ Int
  number_in name None type k i = absurd cc
  number_in name (Some t) type k i = cc

  -- the term to which an equality fixes a position
  pub term_fits : (name : Name) (e y : Expression) → e ≡ core.Equal true (core.Variable name) y → type_in xs name ≡ Some Int
      → Says h speech xs e Truth → Says h speech xs (term_of e) Int
  term_fits name e y is p k =
      let both : Says h speech xs (core.Equal true (core.Variable name) y) Truth = subst (λ x. Says h speech xs x Truth) is k in
      subst (λ x. Says h speech xs (term_of x) Int) (sym is)
      (subst (λ type. Says h speech xs y type) (number_in name (type_in xs name) both.0 p both.1) both.2)

  -- Places

  pub permission_fits : (type : PvType) (units : ℕ) (span : Span) (e : Expression) → IsPlace e → FieldsDeclared h
      → IsAmount units → Says h speech xs e type
      → FormulaWithin h speech xs (permission type units span e)
  permission_fits type units span (core.Constant v) place fields amount k = absurd place
  permission_fits type units span core.This place fields amount k = absurd place
  permission_fits type units span core.Result place fields amount k = absurd place
  permission_fits type units span (core.Variable name') place fields amount k = absurd place
  permission_fits type units span (core.Field e class field at) place fields amount k =
      (k.0, k.1, fields class field type k.1, amount)
  permission_fits type units span (core.Element type' e i at) place fields amount k = (k.0, k.1, k.2, amount)
  permission_fits type units span (core.Length type' e at) place fields amount k = absurd place
  permission_fits type units span (core.Not e) place fields amount k = absurd place
  permission_fits type units span (core.Compute m o x y at) place fields amount k = absurd place
  permission_fits type units span (core.Compare c x y) place fields amount k = absurd place
  permission_fits type units span (core.Equal same x y) place fields amount k = absurd place
  permission_fits type units span (core.And x y) place fields amount k = absurd place
  permission_fits type units span (core.Or x y) place fields amount k = absurd place
  permission_fits type units span (core.Implies x y) place fields amount k = absurd place
  permission_fits type units span (core.Old e) place fields amount k = absurd place

  permissions_fit : (type : PvType) (s : ℤ) (units : ℕ) (span : Span) (e : Expression) → IsAccess e → IsAmount units
      → Says h speech xs e type
      → ItemWithin h speech xs (permissions s units span e)
  permissions_fit type s units span (core.Constant v) access amount k = absurd access
  permissions_fit type s units span core.This access amount k = absurd access
  permissions_fit type s units span core.Result access amount k = absurd access
  permissions_fit type s units span (core.Variable name') access amount k = absurd access
  permissions_fit type s units span (core.Field e class field at) access amount k = absurd access
  permissions_fit type s units span (core.Element type' e i at) access amount k = (k.0, k.2, amount)
  permissions_fit type s units span (core.Length type' e at) access amount k = absurd access
  permissions_fit type s units span (core.Not e) access amount k = absurd access
  permissions_fit type s units span (core.Compute m o x y at) access amount k = absurd access
  permissions_fit type s units span (core.Compare c x y) access amount k = absurd access
  permissions_fit type s units span (core.Equal same x y) access amount k = absurd access
  permissions_fit type s units span (core.And x y) access amount k = absurd access
  permissions_fit type s units span (core.Or x y) access amount k = absurd access
  permissions_fit type s units span (core.Implies x y) access amount k = absurd access
  permissions_fit type s units span (core.Old e) access amount k = absurd access

  pub shifted_fits : (type : PvType) (form : Form) (units : ℕ) (span : Span) (e : Expression) → is_element form ≡ true
      → IsAccess e → IsAmount units
      → Says h speech xs e type → ItemWithin h speech xs (shifted form units span e)
  shifted_fits type (element s) units span e is access amount k = permissions_fit type s units span e access amount k
  shifted_fits type variable units span e is access amount k = absurd cc
  shifted_fits type (literal n) units span e is access amount k = absurd cc
  shifted_fits type (shift s) units span e is access amount k = absurd cc
  shifted_fits type guard units span e is access amount k = absurd cc
  shifted_fits type fixing units span e is access amount k = absurd cc
  shifted_fits type other units span e is access amount k = absurd cc

  -- Choices, and items one behind the other

  pub formula_if : (b : Bool) (f g : Formula) → (b ≡ true → FormulaWithin h speech xs f)
      → (b ≡ false → FormulaWithin h speech xs g) → FormulaWithin h speech xs (if b then f else g)
  formula_if true f g i j = i refl
  formula_if false f g i j = j refl

  pub item_if : (b : Bool) (f g : Item) → (b ≡ true → ItemWithin h speech xs f) → (b ≡ false → ItemWithin h speech xs g)
      → ItemWithin h speech xs (if b then f else g)
  item_if true f g i j = i refl
  item_if false f g i j = j refl

  pub together_fit : (is js : Items) → ItemsWithin h speech xs is → ItemsWithin h speech xs js
      → ItemsWithin h speech xs (together is js)
  together_fit core.NoItems js i j = j
  together_fit (core.Join item is) js i j = (i.0, together_fit is js i.1 j)
