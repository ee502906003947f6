-- What an expression of a formula becomes, by what its parts become.
use Rattle.std.proofs.Common.{◌≡◌, ℕ, Bool, true, false, ◌&&◌, ◌||◌, Option, Some, None, is_some, List, [], refl, ◌∙◌, inl, inr}
use Rattle.std.proofs.lemmas.Bool.{and_parts, both_ways}
use Rattle.std.specs.Prelude.{◌⊎◌, if◌then◌else◌}
use Rattle.pv_base.specs.declared.Name.{Name}
use Rattle.pv_base.specs.declared.Span.{Span}
use Rattle.pv_ast.specs.declared.PvType.TheVariants.{Int, Truth}
use Rattle.pv_ast.specs.declared.Expr.{Expr}
use Rattle.pv_ast.specs.declared.fault.ShapeFault.{ShapeFault}
use Rattle.pv_ast.specs.declared.standing.Context.{Context}
use Rattle.pv_ast.specs.declared.standing.Need.TheVariants.{Exactly}
use Rattle.pv_ast.specs.declared.standing.Seen.{Seen}
use Rattle.pv_ast.specs.Rules.Scoping.{Visible}
use Rattle.pv_ast.specs.Rules.Items as items
use Rattle.pv_ast.specs.Rules.Items.{Facts, Form, Use, Whole, star_body, truth_body, clause, Shape, or_else, item_of_pure, item_of_use, item_of_location, item_of_token, item_of_operator, item_of_implication, guarded_item, fixed, position, is_empty, fault_unless, fault_at, is_part, is_guard, is_fixing, is_variable, has_variable_and_term, is_variable_and_term, is_term, variable, literal, shift, element, guard, fixing, other, body_of}
use Rattle.pv_ast.specs.Rules.Typing as typing
use Rattle.pv_ast.specs.Rules.Expressions.{Environment}
use Rattle.pv_picks.specs.Plain.Core.{Expression, Formula, Items, Item}
use Rattle.pv_picks.specs.Plain.Core as core
use Rattle.pv_picks.specs.Elaborating.Expressions.{ElaboratedExpression, ElaboratedKind, ElaboratedEach, Layer, elaborated_in_kind, elaborated_expression, conjunct, alone}
use Rattle.core_trees.proofs.Clean.{Clean}
use Rattle.pv_picks.specs.Typing.Expressions.{Home, Speech, Says}
use Rattle.core_typing.proofs.Within.{FormulaWithin, ItemsWithin, ItemWithin}
use Rattle.core_typing.proofs.Places.{Place, Speaks}
use Rattle.core_trees.proofs.Shapes.{IsPosition, shown}
use Rattle.core_trees.proofs.Purity.{other_int, typed, solid_pure}
use Rattle.core_typing.proofs.Expressions.{expression_law}
use Rattle.core_typing.proofs.Parts.{formula_if}
use Rattle.core_trees.proofs.Settling.{meets_elaborated}

-- an expression where a truth value is needed: it has that type, and goes there where it is pure, which hangs on no variable
pub record Ready (h : Home) (speech : Speech) (xs : List core.Parameter) (facts : ℕ → Facts) (s : Seen)
    (e : Expression) : Type 0 where
  pub typed : typing.meets (Exactly Truth) s.typing ≡ true
  pub says : (facts 0).pure ≡ true → Says h speech xs e Truth
  pub same : (n : ℕ) → (facts n).pure ≡ true → (facts 0).pure ≡ true

-- where an expression may be a formula: where it is pure, no quantifier in it is misplaced, it is an item for a position, or made
-- of items
pub data IsRight : Visible → (ℕ → Facts) → List ShapeFault → (ℕ → Option items.Item) → (Whole → ℕ → List ShapeFault)
    → Type 0 where
  is_pure : {v : Visible} {facts : ℕ → Facts} {faults : List ShapeFault} {item_of : ℕ → Option items.Item}
      {parts_of : Whole → ℕ → List ShapeFault} → (facts 0).pure ≡ true → IsRight v facts faults item_of parts_of
  no_fault : {v : Visible} {facts : ℕ → Facts} {faults : List ShapeFault} {item_of : ℕ → Option items.Item}
      {parts_of : Whole → ℕ → List ShapeFault} → faults ≡ [] → IsRight v facts faults item_of parts_of
  one_item : {v : Visible} {facts : ℕ → Facts} {faults : List ShapeFault} {item_of : ℕ → Option items.Item}
      {parts_of : Whole → ℕ → List ShapeFault}
      → (name : Name) → IsPosition v name → is_some (item_of name.0) ≡ true → IsRight v facts faults item_of parts_of
  all_items : {v : Visible} {facts : ℕ → Facts} {faults : List ShapeFault} {item_of : ℕ → Option items.Item}
      {parts_of : Whole → ℕ → List ShapeFault}
      → (name : Name) → IsPosition v name → (whole : Whole) → parts_of whole name.0 ≡ [] → IsRight v facts faults item_of parts_of

-- what it becomes: as a formula where it may be one, as items where it is made of them, and as an item where it is one
pub record Made (h : Home) (speech : Speech) (v : Visible) (xs : List core.Parameter) (facts : ℕ → Facts)
    (faults : List ShapeFault) (item_of : ℕ → Option items.Item) (parts_of : Whole → ℕ → List ShapeFault)
    (formula_at : Option Span → Formula) (items_at : Name → Option Span → Items)
    (item_at : Name → Option Span → Item) : Type 0 where
  pub formula : IsRight v facts faults item_of parts_of → (environment : Option Span)
      → FormulaWithin h speech xs (formula_at environment)
  pub items : (name : Name) → IsPosition v name → (whole : Whole) → ((facts 0).pure ≡ true) ⊎ (parts_of whole name.0 ≡ [])
      → (environment : Option Span) → ItemsWithin h speech xs (items_at name environment)
  pub item : (name : Name) → IsPosition v name → ((facts 0).pure ≡ true) ⊎ (is_some (item_of name.0) ≡ true)
      → (environment : Option Span) → ItemWithin h speech xs (item_at name environment)

-- The laws of a kind, of a quantifier and of an expression

abbrev pub KindLaw : ElaboratedKind → Type 0
KindLaw k = (h : Home) (speech : Speech) (a : Environment) (v : Visible) (xs : List core.Parameter) (span : Span) (c : Context)
    → Place h a v xs → Speaks speech a c → Clean (k.checked.faults span a v c)
    → Ready h speech xs k.shape.facts (k.checked.seen a v) (k.expression span a v)
    → Made h speech v xs k.shape.facts (k.shape.faults span) k.shape.item (k.shape.parts span)
    (λ environment. k.formula span environment a v) (λ name environment. k.items span name environment a v)
    (λ name environment. k.item span name environment a v)

abbrev pub EachLaw : ElaboratedEach → Type 0
EachLaw q = ((n : ℕ) → (q.shape.facts n).pure ≡ false)
    × ((h : Home) (speech : Speech) (a : Environment) (v : Visible) (xs : List core.Parameter) (span : Span) (c : Context)
    → Place h a v xs → Speaks speech a c → Clean (q.checked.faults span a v c) → q.shape.faults ≡ []
    → (environment : Span) → FormulaWithin h speech xs (q.formula environment a v))

abbrev pub ExprLaw : ElaboratedExpression → Type 0
ExprLaw p = (h : Home) (speech : Speech) (a : Environment) (v : Visible) (xs : List core.Parameter) (c : Context) → Place h a v xs
    → Speaks speech a c → Clean (p.checked.faults a v c (Exactly Truth))
    → Ready h speech xs p.shape.facts (p.checked.seen a v) (p.expression a v)
    → Made h speech v xs p.shape.facts p.shape.faults p.shape.item p.shape.parts (λ environment. p.formula environment a v)
    (λ name environment. p.items name environment a v) (λ name environment. p.item name environment a v)

abbrev pub ElaboratedMade : Home → Speech → Environment → Visible → List core.Parameter → ElaboratedExpression → Type 0
ElaboratedMade h speech a v xs p =
    Made h speech v xs p.shape.facts p.shape.faults p.shape.item p.shape.parts (λ environment. p.formula environment a v)
    (λ name environment. p.items name environment a v) (λ name environment. p.item name environment a v)

abbrev pub Exprs : Type 0
Exprs = (e : Expr) × ExprLaw (elaborated_expression e)

abbrev pub LayerLaw : Layer → Type 0
LayerLaw l = KindLaw (elaborated_in_kind l)

pub ready_at : (e : Expr) (h : Home) (speech : Speech) (a : Environment) (v : Visible) (xs : List core.Parameter) (c : Context)
    → Place h a v xs → Speaks speech a c → Clean ((elaborated_expression e).checked.faults a v c (Exactly Truth))
    → Ready h speech xs (elaborated_expression e).shape.facts ((elaborated_expression e).checked.seen a v)
    ((elaborated_expression e).expression a v)
ready_at e h speech a v xs c place speaks clean = record {
  typed = meets_elaborated e a v c (Exactly Truth) clean;
  says =
      λ pure. (expression_law e h speech a v xs c (Exactly Truth) place speaks clean pure).goes Truth
      (meets_elaborated e a v c (Exactly Truth) clean);
  same = λ n k. (shown e).same 0 n ∙ k;
}

pub made_at : (e : Exprs) (h : Home) (speech : Speech) (a : Environment) (v : Visible) (xs : List core.Parameter) (c : Context)
    → Place h a v xs → Speaks speech a c → Clean ((elaborated_expression e.0).checked.faults a v c (Exactly Truth))
    → ElaboratedMade h speech a v xs (elaborated_expression e.0)
made_at e h speech a v xs c place speaks clean =
    e.1 h speech a v xs c place speaks clean (ready_at e.0 h speech a v xs c place speaks clean)

-- a number
pub number_goes : (e : Expr) (h : Home) (speech : Speech) (a : Environment) (v : Visible) (xs : List core.Parameter) (c : Context)
    → Place h a v xs → Speaks speech a c → Clean ((elaborated_expression e).checked.faults a v c (Exactly Int))
    → Says h speech xs ((elaborated_expression e).expression a v) Int
number_goes e h speech a v xs c place speaks clean =
    let m = meets_elaborated e a v c (Exactly Int) clean in
    (expression_law e h speech a v xs c (Exactly Int) place speaks clean
    (solid_pure e a v c (Exactly Int) clean (typed (other_int _ m)))).goes Int m

-- Shapes

pub either : {A B : Type 0} → A ⊎ B → (B → A) → A
either (inl x) f = x
either (inr y) f = f y

pub none_unless : (b : Bool) (f : ShapeFault) → fault_unless b f ≡ [] → b ≡ true
none_unless true f k = refl
none_unless false f k = absurd cc

pub is_item : (whole : Whole) (item truth : Bool) (f : ShapeFault) → fault_unless (is_part whole item truth) f ≡ [] → item ≡ true
is_item star_body item truth f k = none_unless item f k
is_item truth_body item truth f k = (and_parts item truth (none_unless (item && truth) f k)).0
is_item clause item truth f k = none_unless item f k

pub pure_or : (b : Bool) (u : Use) (o : Option items.Item) → is_some (or_else (if b then item_of_use u else None) o) ≡ true
    → (b ≡ true) ⊎ (is_some o ≡ true)
pure_or true u o k = inl refl
pure_or false u o k = inr k

pub no_item : {A : Type 0} → false ≡ true → A
no_item k = absurd cc

pub right_of : {B : Type 0} → (false ≡ true) ⊎ B → B
right_of (inl k) = no_item k
right_of (inr k) = k

pub item_or : {A : Type 0} (item : Bool) (whole : Whole) (truth : Bool) (f : ShapeFault) → A
    ⊎ (fault_unless (is_part whole item truth) f ≡ []) → A ⊎ (item ≡ true)
item_or item whole truth f (inl i) = inl i
item_or item whole truth f (inr i) = inr (is_item whole item truth f i)

-- Facts: expressions that are no joined formulas

abbrev pub PureItem : (ℕ → Facts) → (ℕ → Option items.Item) → ℕ → Option items.Item
PureItem facts others n = or_else (item_of_pure (facts n)) (others n)

abbrev pub PartFault : Span → (ℕ → Facts) → (ℕ → Option items.Item) → Whole → ℕ → List ShapeFault
PartFault span facts others whole n =
    fault_unless (is_part whole (is_some (PureItem facts others n)) (facts n).truth) (fault_at whole span)

pub fact_made : {h : Home} {speech : Speech} {v : Visible} {xs : List core.Parameter}
    (facts : ℕ → Facts) {s : Seen} {e : Expression} (span : Span) (faults : List ShapeFault) → Ready h speech xs facts s e
    → (faults ≡ [] → (facts 0).pure ≡ true)
    → Made h speech v xs facts faults (PureItem facts (λ n. None)) (PartFault span facts (λ n. None))
    (λ environment. core.Fact e (conjunct environment span))
    (λ name environment. alone (core.Repeated e (conjunct environment span)))
    (λ name environment. core.Repeated e (conjunct environment span))
fact_made {v = v} facts span faults ready clear = record {
  formula = λ premise environment. ready.says (right premise);
  items = λ name p whole premise environment. (ready.says (either premise (λ k. by_item name.0 (is_item whole _ _ _ k))), tt);
  item = λ name p premise environment. ready.says (either premise (by_item name.0));
}
  where
    by_item : (n : ℕ) → is_some (PureItem facts (λ n. None) n) ≡ true → (facts 0).pure ≡ true
    by_item n k = ready.same n (either (pure_or (facts n).pure (facts n).uses None k) no_item)

    right : IsRight v facts faults (PureItem facts (λ n. None)) (PartFault span facts (λ n. None)) → (facts 0).pure ≡ true
    right (is_pure k) = k
    right (no_fault k) = clear k
    right (one_item name p k) = by_item name.0 k
    right (all_items name p whole k) = by_item name.0 (is_item whole _ _ _ k)

pub fact_true : (b : Bool) (environment : Option Span) → b ≡ true → (b && (is_some environment || true)) ≡ true
fact_true true None k = refl
fact_true true (Some s) k = refl
fact_true false environment k = absurd cc

-- an operator that joins no formulas
pub operation_made : {h : Home} {speech : Speech} {v : Visible} {xs : List core.Parameter} (facts : ℕ → Facts)
    (others : ℕ → Option items.Item) {s : Seen} {e : Expression} (span : Span) (faults : List ShapeFault)
    (g : Option Span → Formula)
    → Ready h speech xs facts s e → (faults ≡ [] → (facts 0).pure ≡ true)
    → ((name : Name) → IsPosition v name → is_some (others name.0) ≡ true → (facts 0).pure ≡ true)
    → Made h speech v xs facts faults (PureItem facts others) (PartFault span facts others)
    (λ environment. if (facts 0).pure && (is_some environment || true) then core.Fact e (conjunct environment span) else
    g environment)
    (λ name environment. alone (core.Repeated e (conjunct environment span)))
    (λ name environment. core.Repeated e (conjunct environment span))
operation_made {h} {speech} {v} {xs} facts others {s} {e} span faults g ready clear of_item = record {
  formula = λ premise environment.
      let pure : (facts 0).pure ≡ true = right premise in
      formula_if h speech xs ((facts 0).pure && (is_some environment || true)) _ _ (λ k. ready.says pure)
      (λ k. absurd (both_ways _ k (fact_true (facts 0).pure environment pure)));
  items = λ name p whole premise environment. (ready.says (either premise (λ k. by_item name p (is_item whole _ _ _ k))), tt);
  item = λ name p premise environment. ready.says (either premise (by_item name p));
}
  where
    pure_first : (name : Name) → ((facts name.0).pure ≡ true) ⊎ (is_some (others name.0) ≡ true) → ((facts 0).pure ≡ true)
        ⊎ (is_some (others name.0) ≡ true)
    pure_first name (inl k) = inl (ready.same name.0 k)
    pure_first name (inr k) = inr k

    by_item : (name : Name) → IsPosition v name → is_some (PureItem facts others name.0) ≡ true → (facts 0).pure ≡ true
    by_item name p k =
        either (pure_first name (pure_or (facts name.0).pure (facts name.0).uses (others name.0) k)) (of_item name p)

    right : IsRight v facts faults (PureItem facts others) (PartFault span facts others) → (facts 0).pure ≡ true
    right (is_pure k) = k
    right (no_fault k) = clear k
    right (one_item name p k) = by_item name p k
    right (all_items name p whole k) = by_item name p (is_item whole _ _ _ k)

-- Instances and quantifiers: no items

pub whole_made : {h : Home} {speech : Speech} {v : Visible} {xs : List core.Parameter} (facts : ℕ → Facts) (span : Span)
    (faults : List ShapeFault) (g : Option Span → Formula) (i : Name → Option Span → Item) → ((n : ℕ) → (facts n).pure ≡ false)
    → (faults ≡ [] → (environment : Option Span) → FormulaWithin h speech xs (g environment))
    → Made h speech v xs facts faults (PureItem facts (λ n. None)) (PartFault span facts (λ n. None)) g
    (λ name environment. alone (i name environment)) i
whole_made {v = v} facts span faults g i never fits =
    record {
      formula = λ premise environment. fits (right premise) environment;
      items = λ name p whole premise environment.
          either_way premise (λ k. impure 0 k) (λ k. no_such name.0 (is_item whole _ _ _ k));
      item = λ name p premise environment. either_way premise (λ k. impure 0 k) (λ k. no_such name.0 k);
    }
  where
    either_way : {A B C : Type 0} → A ⊎ B → (A → C) → (B → C) → C
    either_way (inl x) f g = f x
    either_way (inr y) f g = g y

    impure : {A : Type 0} (n : ℕ) → (facts n).pure ≡ true → A
    impure n k = absurd (both_ways _ (never n) k)

    no_such : {A : Type 0} (n : ℕ) → is_some (PureItem facts (λ n. None) n) ≡ true → A
    no_such n k = impure n (either (pure_or (facts n).pure (facts n).uses None k) no_item)

    right : IsRight v facts faults (PureItem facts (λ n. None)) (PartFault span facts (λ n. None)) → faults ≡ []
    right (is_pure k) = impure 0 k
    right (no_fault k) = k
    right (one_item name p k) = no_such name.0 k
    right (all_items name p whole k) = no_such name.0 (is_item whole _ _ _ k)
