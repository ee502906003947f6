-- What is made of parts of formulas that are made like items is made like them.
use Rattle.std.proofs.Common.{◌≡◌, ℕ, Bool, true, false, is_some, refl, sym, subst}
use Rattle.std.specs.Prelude.{if◌then◌else◌}
use Rattle.pv_base.specs.declared.Name.{Name}
use Rattle.pv_base.specs.declared.Span.{Span}
use Rattle.pv_ast.specs.declared.PvType.{PvType}
use Rattle.pv_ast.specs.Rules.Items.{Form, variable, literal, shift, element, guard, fixing, other, is_guard, is_fixing, item_of_location}
use Rattle.pv_picks.specs.Plain.Core.{Expression, Formula, Item}
use Rattle.pv_picks.specs.Plain.Core as core
use Rattle.pv_picks.specs.Elaborating.Operations.{cuts_of, term_of, permission, permissions}
use Rattle.pv_picks.specs.Elaborating.Expressions.{shifted}
use Rattle.core_sharing.specs.Forms.{SameItem, SameItem.same_fact, SameItem.same_element, SameItem.same_guarded, SameItem.same_implied, SameItem.same_fixed, SameItem.same_fixed_fact}
use Rattle.core_trees.proofs.Shapes.{FormSays}
use Rattle.core_sharing.proofs.Making.{IsMade}
use Rattle.pv_picks.specs.Elaborating.Names.{element_type, elements_of, settled}
use Rattle.core_sharing.specs.Elements.{IsOfElements}
use Rattle.pv_ast.specs.declared.standing.Typing.{Typing}
use Rattle.pv_ast.specs.declared.PvType.TheVariants.{TruthArray}

-- Permissions

-- elements are numbers or truth values
element_typed : (type : PvType) → IsOfElements (element_type type)
element_typed TruthArray = tt
element_typed _ = tt

elements_typed : (typing : Typing) → IsOfElements (elements_of typing)
elements_typed typing = element_typed (settled typing)

pub permission_same : (name : Name) (form : Form) (type : PvType) (units : ℕ) (span : Span) (e : Expression)
    → is_some (item_of_location form) ≡ true → FormSays name form e
    → IsMade name (permission type units span e) (shifted form units span e)
permission_same name (element s) type units span e is says =
    subst (λ (z : Expression). IsMade name (permission type units span z) (permissions s units span z)) (sym says.is)
    (same_element says.reads, elements_typed says.typing)
permission_same name variable type units span e is says = absurd cc
permission_same name (literal n) type units span e is says = absurd cc
permission_same name (shift s) type units span e is says = absurd cc
permission_same name guard type units span e is says = absurd cc
permission_same name fixing type units span e is says = absurd cc
permission_same name other type units span e is says = absurd cc

-- Conditions

-- an implication: one condition, or a formula under a condition
abbrev pub Implication : Bool → Expression → Expression → Formula → Span → Formula
Implication b x y f span = if b then core.Fact (core.Implies x y) span else core.When x f span

guarded_same : (name : Name) (b : Bool) (x y : Expression) (f : Formula) (i : Item) (span : Span)
    → (b ≡ true → f ≡ core.Fact y span) → IsMade name f i
    → IsMade name (Implication b x y f span) (core.Guarded (cuts_of name x) i span)
guarded_same name true x y f i span is h = (same_implied (subst (λ (g : Formula). SameItem name g i) (is refl) h.0), h.1)
guarded_same name false x y f i span is h = (same_guarded h.0, h.1)

fixed_same : (name : Name) (b : Bool) (z y : Expression) (f : Formula) (span : Span) → (b ≡ true → f ≡ core.Fact y span)
    → IsMade name (Implication b (core.Equal true (core.Variable name) z) y f span) (core.Fixed z f span)
fixed_same name true z y f span is =
    subst
    (λ (g : Formula).
    IsMade name (core.Fact (core.Implies (core.Equal true (core.Variable name) z) y) span) (core.Fixed z g span))
    (sym (is refl)) (same_fixed_fact, tt)
fixed_same name false z y f span is = (same_fixed, tt)

whole_same : (name : Name) (b : Bool) (x y : Expression) (f : Formula) (span : Span) → b ≡ true
    → IsMade name (Implication b x y f span) (core.Repeated (core.Implies x y) span)
whole_same name true x y f span is = (same_fact, tt)
whole_same name false x y f span is = absurd cc

-- an implication: at one position, behind guards, or one condition
pub implied_same : (name : Name) (form : Form) (b : Bool) (x y : Expression) (f : Formula) (i : Item) (span : Span)
    → FormSays name form x → (b ≡ true → f ≡ core.Fact y span)
    → (is_guard form ≡ true → IsMade name f i) → (is_guard form ≡ false → is_fixing form ≡ false → b ≡ true)
    → IsMade name (Implication b x y f span)
    (if is_fixing form then core.Fixed (term_of x) f span
    else (if is_guard form then core.Guarded (cuts_of name x) i span else core.Repeated (core.Implies x y) span))
implied_same name fixing b x y f i span says is guarded pure =
    subst (λ (z : Expression). IsMade name (Implication b z y f span) (core.Fixed (term_of z) f span)) (sym says.1)
    (fixed_same name b says.0 y f span is)
implied_same name guard b x y f i span says is guarded pure = guarded_same name b x y f i span is (guarded refl)
implied_same name variable b x y f i span says is guarded pure = whole_same name b x y f span (pure refl refl)
implied_same name (literal n) b x y f i span says is guarded pure = whole_same name b x y f span (pure refl refl)
implied_same name (shift s) b x y f i span says is guarded pure = whole_same name b x y f span (pure refl refl)
implied_same name (element s) b x y f i span says is guarded pure = whole_same name b x y f span (pure refl refl)
implied_same name other b x y f i span says is guarded pure = whole_same name b x y f span (pure refl refl)
