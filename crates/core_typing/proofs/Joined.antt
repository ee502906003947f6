-- Operators between formulas.
use Rattle.std.proofs.Common.{◌≡◌, ℕ, Bool, true, false, ◌&&◌, ◌||◌, Option, Some, None, is_some, List, [], ◌∷◌, ◌++◌, refl, ◌∙◌, inl, inr}
use Rattle.std.proofs.lemmas.Bool.{and_parts, and_from, both_ways}
use Rattle.std.specs.Prelude.{◌⊎◌, if◌then◌else◌}
use Rattle.pv_base.specs.declared.Name.{Name}
use Rattle.pv_base.specs.declared.Span.{Span}
use Rattle.pv_ast.specs.declared.Operator.{Operator}
use Rattle.pv_ast.specs.declared.Operator.TheVariants as op
use Rattle.pv_ast.specs.declared.PvType.TheVariants.{Truth}
use Rattle.pv_ast.specs.declared.ExprKind.{ExprKind-F}
use Rattle.pv_ast.specs.declared.fault.ShapeFault.{ShapeFault}
use Rattle.pv_ast.specs.declared.standing.Context.{Context}
use Rattle.pv_ast.specs.declared.standing.Need.TheVariants.{Anything, Exactly}
use Rattle.pv_ast.specs.Rules.Scoping.{Visible}
use Rattle.pv_ast.specs.Rules.Items as items
use Rattle.pv_ast.specs.Rules.Items.{Facts, Form, Use, Whole, star_body, truth_body, clause, Shape, or_else, item_of_pure, item_of_use, item_of_location, item_of_token, item_of_operator, item_of_implication, guarded_item, fixed, position, is_empty, fault_unless, fault_at, is_part, is_guard, is_fixing, is_variable, has_variable_and_term, is_variable_and_term, is_term, variable, literal, shift, element, guard, fixing, other, body_of}
use Rattle.pv_ast.specs.Rules.Typing as typing
use Rattle.pv_ast.specs.Rules.Expressions.{Environment, typing_in}
use Rattle.pv_ast.specs.Rules.Statements.{parts_of}
use Rattle.pv_picks.specs.Plain.Core.{Expression, Formula, Items, Item}
use Rattle.pv_picks.specs.Plain.Core as core
use Rattle.pv_picks.specs.Elaborating.Expressions.{ElaboratedExpression, elaborated_in_kind, elaborated_expression, conjunct, item_in_kind}
use Rattle.core_trees.proofs.Clean.{Clean, no_first, no_second}
use Rattle.pv_picks.specs.Typing.Expressions.{Home, Speech}
use Rattle.core_typing.proofs.Within.{ItemWithin}
use Rattle.core_typing.proofs.Places.{Place, speaks_purely}
use Rattle.core_trees.proofs.Shapes.{IsPosition, shown, fixing_shown}
use Rattle.core_trees.proofs.Purity as purity
use Rattle.core_trees.proofs.Purity.{other_int, other_array, other_object, other_target, purely, typed, located, guards, fixes, solid_pure, numbers_pure, sides_pure, position_first, position_second, solid}
use Rattle.core_typing.proofs.Parts.{cuts_fit, term_fits, formula_if, item_if, together_fit}
use Rattle.core_typing.proofs.Made.{Ready, IsRight, is_pure, no_fault, one_item, all_items, ElaboratedMade, Exprs, LayerLaw, ready_at, made_at, either, is_item, pure_or, no_item, PureItem, PartFault, fact_true, operation_made}
use Rattle.core_trees.proofs.Settling.{meets_elaborated}

one_of : (a b : Bool) → (a || b) ≡ true → (a ≡ true) ⊎ (b ≡ true)
one_of true b k = inl refl
one_of false b k = inr k

compared_item : (b : Bool) → is_some (items.item_if b position) ≡ true → b ≡ true
compared_item true k = refl
compared_item false k = absurd cc

-- an equality that is an item compares a position
equality_operator : (x y : Exprs) (a : Environment) (v : Visible) (c : Context)
    → Clean ((elaborated_expression x.0).checked.faults a v c Anything)
    → Clean ((elaborated_expression y.0).checked.faults a v c Anything)
    → typing.meets (Exactly Truth) (typing.typing_of_equality (typing_in (elaborated_expression x.0).checked a v)
    (typing_in (elaborated_expression y.0).checked a v)) ≡ true
    → (name : Name) → IsPosition v name → is_some (items.item_of_comparison ((elaborated_expression x.0).shape.facts name.0)
    ((elaborated_expression y.0).shape.facts name.0)) ≡ true
    → ((elaborated_expression x.0).shape.facts 0).pure && ((elaborated_expression y.0).shape.facts 0).pure ≡ true
equality_operator x y a v c clean_x clean_y m name p k =
    one
    (one_of _ _
    (compared_item (has_variable_and_term ((elaborated_expression x.0).shape.facts name.0)
    ((elaborated_expression y.0).shape.facts name.0))
    k))
  where
    one : (is_variable_and_term ((elaborated_expression x.0).shape.facts name.0) ((elaborated_expression y.0).shape.facts name.0)
        ≡ true)
        ⊎ (is_variable_and_term ((elaborated_expression y.0).shape.facts name.0) ((elaborated_expression x.0).shape.facts name.0)
        ≡ true)
        → ((elaborated_expression x.0).shape.facts 0).pure && ((elaborated_expression y.0).shape.facts 0).pure ≡ true
    one (inl i) = position_first (solid x.0) (solid y.0) a v c name p clean_x clean_y (and_parts _ _ i).0 m
    one (inr i) = position_second (solid x.0) (solid y.0) a v c name p clean_x clean_y (and_parts _ _ i).0 m

-- either both parts are pure, or both are without faults
first_part : (a b : Bool) (fs gs : List ShapeFault) → ((a && b) ≡ true) ⊎ (fs ++ gs ≡ []) → (a ≡ true) ⊎ (fs ≡ [])
first_part a b fs gs (inl k) = inl (and_parts a b k).0
first_part a b fs gs (inr k) = inr (no_first fs gs k)

second_part : (a b : Bool) (fs gs : List ShapeFault) → ((a && b) ≡ true) ⊎ (fs ++ gs ≡ []) → (b ≡ true) ⊎ (gs ≡ [])
second_part a b fs gs (inl k) = inl (and_parts a b k).1
second_part a b fs gs (inr k) = inr (no_second fs gs k)

abbrev IsRightElaborated : Visible → ElaboratedExpression → Type 0
IsRightElaborated v p = IsRight v p.shape.facts p.shape.faults p.shape.item p.shape.parts

-- parts that `**` and `&&` join may be formulas where the whole may
sides_right : (x y : ElaboratedExpression) (v : Visible) (f : ℕ → Facts) (item_of : ℕ → Option items.Item)
    (parts_of : Whole → ℕ → List ShapeFault) → ((f 0).pure ≡ true → ((x.shape.facts 0).pure ≡ true)
    × ((y.shape.facts 0).pure ≡ true))
    → ((n : ℕ) → is_some (item_of n) ≡ true → (f 0).pure ≡ true)
    → ((whole : Whole) (n : ℕ) → parts_of whole n ≡ [] → ((f 0).pure ≡ true)
    ⊎ (x.shape.parts whole n ++ y.shape.parts whole n ≡ []))
    → IsRight v f (x.shape.faults ++ y.shape.faults) item_of parts_of → IsRightElaborated v x × IsRightElaborated v y
sides_right x y v f item_of parts_of pure item parts (is_pure k) = (is_pure (pure k).0, is_pure (pure k).1)
sides_right x y v f item_of parts_of pure item parts (no_fault k) =
    (no_fault (no_first x.shape.faults y.shape.faults k), no_fault (no_second x.shape.faults y.shape.faults k))
sides_right x y v f item_of parts_of pure item parts (one_item name p k) =
    (is_pure (pure (item name.0 k)).0, is_pure (pure (item name.0 k)).1)
sides_right x y v f item_of parts_of pure item parts (all_items name p whole k) = by (parts whole name.0 k)
  where
    by : ((f 0).pure ≡ true) ⊎ (x.shape.parts whole name.0 ++ y.shape.parts whole name.0 ≡ []) → IsRightElaborated v x
        × IsRightElaborated v y
    by (inl i) = (is_pure (pure i).0, is_pure (pure i).1)
    by (inr i) = (
      all_items name p whole (no_first (x.shape.parts whole name.0) (y.shape.parts whole name.0) i),
      all_items name p whole (no_second (x.shape.parts whole name.0) (y.shape.parts whole name.0) i),
    )

and_made : (x y : Exprs) → LayerLaw (ExprKind-F.Binary op.And (elaborated_expression x.0) (elaborated_expression y.0))
and_made x y = λ h speech a v xs span c place speaks clean ready.
    let left = made_at x h speech a v xs (typing.purely c) place (speaks_purely speaks) clean.0 in
    let right = made_at y h speech a v xs (typing.purely c) place (speaks_purely speaks) clean.1 in
    record {
      formula = λ premise environment.
          let two =
          sides_right (elaborated_expression x.0) (elaborated_expression y.0) v
          (λ n. items.facts_of_operator op.And ((elaborated_expression x.0).shape.facts n)
          ((elaborated_expression y.0).shape.facts n)) _ _ (λ k. and_parts _ _ k)
          (λ n k. ready.same n (either (pure_or _ _ None k) no_item)) (λ whole n k. inr k) premise in
          formula_if h speech xs (((elaborated_expression x.0).shape.facts 0).pure
          && ((elaborated_expression y.0).shape.facts 0).pure
          && (is_some environment || false)) _ _ (λ k. ready.says (and_parts _ _ k).0)
          (λ k. (left.formula two.0 environment, right.formula two.1 environment));
      items = λ name p whole premise environment.
          together_fit h speech xs ((elaborated_expression x.0).items name environment a v)
          ((elaborated_expression y.0).items name environment a v)
          (left.items name p whole (first_part _ _ _ _ premise) environment)
          (right.items name p whole (second_part _ _ _ _ premise) environment);
      item = λ name p premise environment. ready.says
          (either premise (λ k. ready.same name.0 (either (pure_or _ _ None k) no_item)));
    }

-- which parts `**` joins
star_parts : (whole : Whole) (pure there : Bool) (u : Use) (truth : Bool) (fs gs : List ShapeFault) (f : ShapeFault)
    → (there ≡ true → pure ≡ true)
    → (pure ≡ true) ⊎ ((if items.joins_by_star whole then fs
    ++ gs else fault_unless (is_part whole (is_some (or_else (if there then item_of_use u else None) None)) truth) f) ≡ [])
    → (pure ≡ true) ⊎ (fs ++ gs ≡ [])
star_parts whole pure there u truth fs gs f same (inl k) = inl k
star_parts star_body pure there u truth fs gs f same (inr k) = inr k
star_parts truth_body pure there u truth fs gs f same (inr k) =
    inl (same (either (pure_or there u None (is_item truth_body _ truth f k)) no_item))
star_parts clause pure there u truth fs gs f same (inr k) = inr k

star_made : (x y : Exprs) → LayerLaw (ExprKind-F.Binary op.Star (elaborated_expression x.0) (elaborated_expression y.0))
star_made x y = λ h speech a v xs span c place speaks clean ready.
    let left = made_at x h speech a v xs c place speaks clean.0 in
    let right = made_at y h speech a v xs c place speaks clean.1 in
    record {
      formula = λ premise environment.
          let two =
          sides_right (elaborated_expression x.0) (elaborated_expression y.0) v
          (λ n. items.facts_of_operator op.Star ((elaborated_expression x.0).shape.facts n)
          ((elaborated_expression y.0).shape.facts n)) _ _ (λ k. and_parts _ _ k)
          (λ n k. ready.same n (either (pure_or _ _ None k) no_item))
          (λ whole n k. star_parts whole _ _ _ _ ((elaborated_expression x.0).shape.parts whole n)
          ((elaborated_expression y.0).shape.parts whole n)
          (fault_at whole span) (ready.same n) (inr k)) premise in
          formula_if h speech xs (((elaborated_expression x.0).shape.facts 0).pure
          && ((elaborated_expression y.0).shape.facts 0).pure
          && (is_some environment || false)) _ _ (λ k. ready.says (and_parts _ _ k).0)
          (λ k. (left.formula two.0 environment, right.formula two.1 environment));
      items = λ name p whole premise environment.
          let two =
          star_parts whole _ _ _ _ ((elaborated_expression x.0).shape.parts whole name.0)
          ((elaborated_expression y.0).shape.parts whole name.0)
          (fault_at whole span) (ready.same name.0) premise in
          together_fit h speech xs ((elaborated_expression x.0).items name environment a v)
          ((elaborated_expression y.0).items name environment a v)
          (left.items name p whole (first_part _ _ _ _ two) environment)
          (right.items name p whole (second_part _ _ _ _ two) environment);
      item = λ name p premise environment. ready.says
          (either premise (λ k. ready.same name.0 (either (pure_or _ _ None k) no_item)));
    }

-- Implications

fixing_no_guard : (f : Form) → is_fixing f ≡ true → is_guard f ≡ false
fixing_no_guard fixing k = refl
fixing_no_guard guard k = absurd cc
fixing_no_guard variable k = refl
fixing_no_guard (literal n) k = refl
fixing_no_guard (shift s) k = refl
fixing_no_guard (element s) k = refl
fixing_no_guard other k = refl

no_faults : (faults : List ShapeFault) → is_empty faults ≡ true → faults ≡ []
no_faults [] k = refl
no_faults (f ∷ fs) k = absurd cc

fixed_item : (b : Bool) → is_some (items.item_if b fixed) ≡ true → b ≡ true
fixed_item true k = refl
fixed_item false k = absurd cc

guarded_there : (o : Option items.Item) → is_some (guarded_item o) ≡ true → is_some o ≡ true
guarded_there None k = absurd cc
guarded_there (Some i) k = refl

-- what stands behind what fixes a position, behind guards, and behind neither
fixed_rest : (g b : Bool) (o : Option items.Item) (faults : List ShapeFault) → g ≡ false
    → is_some (if g then guarded_item o else items.item_if (b && is_empty faults) fixed) ≡ true → faults ≡ []
fixed_rest true b o faults none k = absurd cc
fixed_rest false b o faults none k = no_faults faults (and_parts b (is_empty faults) (fixed_item (b && is_empty faults) k)).1

guarded_rest : (g b : Bool) (o : Option items.Item) → g ≡ true → is_some (if g then guarded_item o else items.item_if b fixed)
    ≡ true → is_some o ≡ true
guarded_rest true b o is k = guarded_there o k
guarded_rest false b o is k = absurd cc

neither_rest : (g f t e : Bool) (o : Option items.Item) → f ≡ false → g ≡ false
    → is_some (if g then guarded_item o else items.item_if (f && t && e) fixed) ≡ true → ⊥
neither_rest true f t e o no_fix none k = absurd cc
neither_rest false true t e o no_fix none k = absurd cc
neither_rest false false t e o no_fix none k = absurd cc

-- of an implication: the facts of both sides, the item on its right and its faults
abbrev Rest : (ℕ → Facts) → (ℕ → Facts) → Option items.Item → List ShapeFault → ℕ → Type 0
Rest f g o faults n =
    is_some (or_else (item_of_pure (items.facts_of_operator op.Implies (f n) (g n))) (item_of_implication (f n) (g n) o faults))
    ≡ true

implication_rest : (f g : ℕ → Facts) (o : Option items.Item) (faults : List ShapeFault) (n : ℕ)
    → ((n : ℕ) → (f n).pure && (g n).pure ≡ true → (f 0).pure && (g 0).pure ≡ true)
    → ((f 0).pure && (g 0).pure ≡ true) ⊎ Rest f g o faults n → ((f 0).pure && (g 0).pure ≡ true)
    ⊎ (is_some (item_of_implication (f n) (g n) o faults) ≡ true)
implication_rest f g o faults n same (inl k) = inl k
implication_rest f g o faults n same (inr k) =
    first (pure_or ((f n).pure && (g n).pure) _ (item_of_implication (f n) (g n) o faults) k)
  where
    first : ((f n).pure && (g n).pure ≡ true) ⊎ (is_some (item_of_implication (f n) (g n) o faults) ≡ true)
        → ((f 0).pure && (g 0).pure ≡ true) ⊎ (is_some (item_of_implication (f n) (g n) o faults) ≡ true)
    first (inl i) = inl (same n i)
    first (inr i) = inr i

right_or : (a b : Bool) {B C : Type 0} → ((a && b) ≡ true) ⊎ B → (B → C) → (b ≡ true) ⊎ C
right_or a b (inl k) f = inl (and_parts a b k).1
right_or a b (inr k) f = inr (f k)

as_right : (v : Visible) (p : ElaboratedExpression) → (((p.shape.facts 0).pure ≡ true) ⊎ (p.shape.faults ≡ []))
    → IsRightElaborated v p
as_right v p (inl k) = is_pure k
as_right v p (inr k) = no_fault k

-- where an implication may be a formula that isn't pure, its left is pure and its right may be a formula
module _ (x y : Exprs) (h : Home) (a : Environment) (v : Visible) (xs : List core.Parameter) (c : Context) (span : Span)
    (place : Place h a v xs) (clean : Clean ((elaborated_expression x.0).checked.faults a v (typing.purely c) (Exactly Truth)))
    (impure : (((elaborated_expression x.0).shape.facts 0).pure && ((elaborated_expression y.0).shape.facts 0).pure) ≡ true → ⊥)
  where
    abbrev Implied : ℕ → Facts
    Implied n = items.facts_of_operator op.Implies ((elaborated_expression x.0).shape.facts n)
        ((elaborated_expression y.0).shape.facts n)

    abbrev ItemAt : ℕ → Option items.Item
    ItemAt n =
        item_of_implication ((elaborated_expression x.0).shape.facts n) ((elaborated_expression y.0).shape.facts n)
        ((elaborated_expression y.0).shape.item n)
        (elaborated_expression y.0).shape.faults

    abbrev Sides : Type 0
    Sides = (((elaborated_expression x.0).shape.facts 0).pure ≡ true) × IsRightElaborated v (elaborated_expression y.0)

    x_pure : purity.IsSolid v (typing.purely c) (elaborated_expression x.0).shape.quantifiers
        ((elaborated_expression x.0).checked.seen a v)
        (elaborated_expression x.0).shape.facts → ((elaborated_expression x.0).shape.facts 0).pure ≡ true
    x_pure solid = solid_pure x.0 a v (typing.purely c) (Exactly Truth) clean solid

    by_form : (name : Name) → IsPosition v name → (fix guarded : Bool)
        → is_fixing ((elaborated_expression x.0).shape.facts name.0).form ≡ fix
        → is_guard ((elaborated_expression x.0).shape.facts name.0).form ≡ guarded
        → is_some (ItemAt name.0) ≡ true → Sides
    by_form name p true guarded i j k = (
      x_pure (fixes name p i (meets_elaborated x.0 a v (typing.purely c) (Exactly Truth) clean)),
      no_fault (fixed_rest (is_guard ((elaborated_expression x.0).shape.facts name.0).form)
          (is_fixing ((elaborated_expression x.0).shape.facts name.0).form
          && is_term ((elaborated_expression y.0).shape.facts name.0))
          ((elaborated_expression y.0).shape.item name.0) (elaborated_expression y.0).shape.faults
          (fixing_no_guard ((elaborated_expression x.0).shape.facts name.0).form i) k),
    )
    by_form name p false true i j k = (
      x_pure (guards name.0 j),
      one_item name p (guarded_rest (is_guard ((elaborated_expression x.0).shape.facts name.0).form)
          (is_fixing ((elaborated_expression x.0).shape.facts name.0).form
          && is_term ((elaborated_expression y.0).shape.facts name.0)
          && is_empty (elaborated_expression y.0).shape.faults) ((elaborated_expression y.0).shape.item name.0) j k),
    )
    by_form name p false false i j k =
        absurd (neither_rest (is_guard ((elaborated_expression x.0).shape.facts name.0).form)
        (is_fixing ((elaborated_expression x.0).shape.facts name.0).form)
        (is_term ((elaborated_expression y.0).shape.facts name.0))
        (is_empty (elaborated_expression y.0).shape.faults)
        ((elaborated_expression y.0).shape.item name.0) i j k)

    by_item : (name : Name) → IsPosition v name → is_some (PureItem Implied ItemAt name.0) ≡ true → Sides
    by_item name p k = by (pure_or (Implied name.0).pure (Implied name.0).uses (ItemAt name.0) k)
      where
        by : ((Implied name.0).pure ≡ true) ⊎ (is_some (ItemAt name.0) ≡ true) → Sides
        by (inl i) =
            absurd (impure (and_from _ _ ((shown x.0).same 0 name.0 ∙ (and_parts _ _ i).0)
            ((shown y.0).same 0 name.0 ∙ (and_parts _ _ i).1)))
        by (inr i) =
            by_form name p (is_fixing ((elaborated_expression x.0).shape.facts name.0).form)
            (is_guard ((elaborated_expression x.0).shape.facts name.0).form) refl refl i

    implication_sides : IsRight v Implied ((elaborated_expression x.0).shape.quantifiers
        ++ (elaborated_expression y.0).shape.faults)
        (PureItem Implied ItemAt) (PartFault span Implied ItemAt) → Sides
    implication_sides (is_pure k) = absurd (impure k)
    implication_sides (no_fault k) = (
      x_pure (purely refl (no_first (elaborated_expression x.0).shape.quantifiers (elaborated_expression y.0).shape.faults k)),
      no_fault (no_second (elaborated_expression x.0).shape.quantifiers (elaborated_expression y.0).shape.faults k),
    )
    implication_sides (one_item name p k) = by_item name p k
    implication_sides (all_items name p whole k) = by_item name p (is_item whole _ _ _ k)

implies_made : (x y : Exprs) → LayerLaw (ExprKind-F.Binary op.Implies (elaborated_expression x.0) (elaborated_expression y.0))
implies_made x y = λ h speech a v xs span c place speaks clean ready.
    let f : ℕ → Facts = (elaborated_expression x.0).shape.facts in
    let g : ℕ → Facts = (elaborated_expression y.0).shape.facts in
    let left = ready_at x.0 h speech a v xs (typing.purely c) place (speaks_purely speaks) clean.0 in
    let right = made_at y h speech a v xs c place speaks clean.1 in
    record {
      formula = λ premise environment.
          formula_if h speech xs ((f 0).pure && (g 0).pure && (is_some environment || true)) _ _
          (λ k. ready.says (and_parts _ _ k).0)
          (λ k.
          let sides =
          implication_sides x y h a v xs c span place clean.0
          (λ i. both_ways _ k (fact_true ((f 0).pure && (g 0).pure) environment i)) premise in
          (left.says sides.0, right.formula sides.1 (Some (conjunct environment span))));
      items =
          λ name p whole premise environment. (
            of_item h speech a v xs span c place clean.0 ready left right name p
                (from_part whole _ _ _ premise) environment,
            tt,
          );
      item = λ name p premise environment. of_item h speech a v xs span c place clean.0 ready left right name p premise
          environment;
    }
  where
    from_part : {A : Type 0} (whole : Whole) (item truth : Bool) (f : ShapeFault) → A
        ⊎ (fault_unless (is_part whole item truth) f ≡ []) → A ⊎ (item ≡ true)
    from_part whole item truth f (inl i) = inl i
    from_part whole item truth f (inr i) = inr (is_item whole item truth f i)

    of_item : (h : Home) (speech : Speech) (a : Environment) (v : Visible) (xs : List core.Parameter) (span : Span) (c : Context)
        → Place h a v xs → Clean ((elaborated_expression x.0).checked.faults a v (typing.purely c) (Exactly Truth))
        → Ready h speech xs (λ n. items.facts_of_operator op.Implies ((elaborated_expression x.0).shape.facts n)
        ((elaborated_expression y.0).shape.facts n))
        ((elaborated_in_kind (ExprKind-F.Binary op.Implies (elaborated_expression x.0)
        (elaborated_expression y.0))).checked.seen a
        v)
        (core.Implies ((elaborated_expression x.0).expression a v) ((elaborated_expression y.0).expression a v))
        → Ready h speech xs (elaborated_expression x.0).shape.facts ((elaborated_expression x.0).checked.seen a v)
        ((elaborated_expression x.0).expression a v)
        → ElaboratedMade h speech a v xs (elaborated_expression y.0)
        → (name : Name) → IsPosition v name
        → (((elaborated_expression x.0).shape.facts 0).pure && ((elaborated_expression y.0).shape.facts 0).pure ≡ true)
        ⊎ Rest (elaborated_expression x.0).shape.facts (elaborated_expression y.0).shape.facts
        ((elaborated_expression y.0).shape.item name.0)
        (elaborated_expression y.0).shape.faults name.0
        → (environment : Option Span) → ItemWithin h speech xs (item_in_kind
        (ExprKind-F.Binary op.Implies (elaborated_expression x.0) (elaborated_expression y.0)) span name environment a v)
    of_item h speech a v xs span c place clean ready left right name p premise environment =
        let form : Form = ((elaborated_expression x.0).shape.facts name.0).form in
        let o : Option items.Item = (elaborated_expression y.0).shape.item name.0 in
        let faults : List ShapeFault = (elaborated_expression y.0).shape.faults in
        let rest = implication_rest (elaborated_expression x.0).shape.facts (elaborated_expression y.0).shape.facts o faults
        name.0 ready.same premise in
        item_if h speech xs (is_fixing form) _ _
        (λ fix. (
          term_fits h speech xs name ((elaborated_expression x.0).expression a v) (fixing_shown x.0 a v name p fix).0
              (fixing_shown x.0 a v name p fix).1 (place.listed name ∙ p)
              (left.says (solid_pure x.0 a v (typing.purely c) (Exactly Truth) clean (fixes name p fix left.typed))),
          right.formula (as_right v (elaborated_expression y.0) (right_or ((elaborated_expression x.0).shape.facts 0).pure
              ((elaborated_expression y.0).shape.facts 0).pure rest (λ k. fixed_rest (is_guard form)
              (is_fixing form && (is_term ((elaborated_expression y.0).shape.facts name.0))) o faults (fixing_no_guard form fix)
              k)))
              (Some (conjunct environment span)),
        ))
        (λ no_fix. item_if h speech xs (is_guard form) _ _
        (λ guarded. (
          cuts_fit h speech xs name ((elaborated_expression x.0).expression a v)
              (left.says (solid_pure x.0 a v (typing.purely c) (Exactly Truth) clean (guards name.0 guarded))),
          right.item name p (right_or ((elaborated_expression x.0).shape.facts 0).pure
              ((elaborated_expression y.0).shape.facts 0).pure rest
              (λ k. guarded_rest (is_guard form) (is_fixing form && (is_term ((elaborated_expression y.0).shape.facts name.0))
              && is_empty faults) o guarded k)) (Some (conjunct environment span)),
        ))
        (λ no_guard. ready.says (either rest
        (λ k. absurd (neither_rest (is_guard form) (is_fixing form) (is_term ((elaborated_expression y.0).shape.facts name.0))
        (is_empty faults) o no_fix no_guard k)))))

-- The operators

pub operator_made : (o : Operator) (x y : Exprs)
    → LayerLaw (ExprKind-F.Binary o (elaborated_expression x.0) (elaborated_expression y.0))
operator_made op.And x y = and_made x y
operator_made op.Star x y = star_made x y
operator_made op.Implies x y = implies_made x y
operator_made op.Add x y = λ h speech a v xs span c place speaks clean ready.
    operation_made (λ n. items.facts_of_operator op.Add ((elaborated_expression x.0).shape.facts n)
    ((elaborated_expression y.0).shape.facts n))
    (λ n. None) span _ _ ready
    (λ none. numbers_pure (solid x.0) (solid y.0) a v c clean.0 clean.1) (λ name p k. no_item k)
operator_made op.Sub x y = λ h speech a v xs span c place speaks clean ready.
    operation_made (λ n. items.facts_of_operator op.Sub ((elaborated_expression x.0).shape.facts n)
    ((elaborated_expression y.0).shape.facts n))
    (λ n. None) span _ _ ready
    (λ none. numbers_pure (solid x.0) (solid y.0) a v c clean.0 clean.1) (λ name p k. no_item k)
operator_made op.Mul x y = λ h speech a v xs span c place speaks clean ready.
    operation_made (λ n. items.facts_of_operator op.Mul ((elaborated_expression x.0).shape.facts n)
    ((elaborated_expression y.0).shape.facts n))
    (λ n. None) span _ _ ready
    (λ none. numbers_pure (solid x.0) (solid y.0) a v c clean.0 clean.1) (λ name p k. no_item k)
operator_made op.Lt x y = λ h speech a v xs span c place speaks clean ready.
    operation_made (λ n. items.facts_of_operator op.Lt ((elaborated_expression x.0).shape.facts n)
    ((elaborated_expression y.0).shape.facts n))
    (λ n. items.item_of_comparison ((elaborated_expression x.0).shape.facts n) ((elaborated_expression y.0).shape.facts n)) span _
    _ ready
    (λ none. numbers_pure (solid x.0) (solid y.0) a v c clean.0 clean.1)
    (λ name p k. numbers_pure (solid x.0) (solid y.0) a v c clean.0 clean.1)
operator_made op.Le x y = λ h speech a v xs span c place speaks clean ready.
    operation_made (λ n. items.facts_of_operator op.Le ((elaborated_expression x.0).shape.facts n)
    ((elaborated_expression y.0).shape.facts n))
    (λ n. items.item_of_comparison ((elaborated_expression x.0).shape.facts n) ((elaborated_expression y.0).shape.facts n)) span _
    _ ready
    (λ none. numbers_pure (solid x.0) (solid y.0) a v c clean.0 clean.1)
    (λ name p k. numbers_pure (solid x.0) (solid y.0) a v c clean.0 clean.1)
operator_made op.Gt x y = λ h speech a v xs span c place speaks clean ready.
    operation_made (λ n. items.facts_of_operator op.Gt ((elaborated_expression x.0).shape.facts n)
    ((elaborated_expression y.0).shape.facts n))
    (λ n. items.item_of_comparison ((elaborated_expression x.0).shape.facts n) ((elaborated_expression y.0).shape.facts n)) span _
    _ ready
    (λ none. numbers_pure (solid x.0) (solid y.0) a v c clean.0 clean.1)
    (λ name p k. numbers_pure (solid x.0) (solid y.0) a v c clean.0 clean.1)
operator_made op.Ge x y = λ h speech a v xs span c place speaks clean ready.
    operation_made (λ n. items.facts_of_operator op.Ge ((elaborated_expression x.0).shape.facts n)
    ((elaborated_expression y.0).shape.facts n))
    (λ n. items.item_of_comparison ((elaborated_expression x.0).shape.facts n) ((elaborated_expression y.0).shape.facts n)) span _
    _ ready
    (λ none. numbers_pure (solid x.0) (solid y.0) a v c clean.0 clean.1)
    (λ name p k. numbers_pure (solid x.0) (solid y.0) a v c clean.0 clean.1)
operator_made op.Eq x y = λ h speech a v xs span c place speaks clean ready.
    operation_made (λ n. items.facts_of_operator op.Eq ((elaborated_expression x.0).shape.facts n)
    ((elaborated_expression y.0).shape.facts n))
    (λ n. items.item_of_comparison ((elaborated_expression x.0).shape.facts n) ((elaborated_expression y.0).shape.facts n)) span _
    _ ready
    (λ none. sides_pure (solid x.0) (solid y.0) a v (typing.purely c) (typing.purely c) Anything clean.0 clean.1 refl refl none)
    (equality_operator x y a v (typing.purely c) clean.0 clean.1 ready.typed)
operator_made op.Ne x y = λ h speech a v xs span c place speaks clean ready.
    operation_made (λ n. items.facts_of_operator op.Ne ((elaborated_expression x.0).shape.facts n)
    ((elaborated_expression y.0).shape.facts n))
    (λ n. items.item_of_comparison ((elaborated_expression x.0).shape.facts n) ((elaborated_expression y.0).shape.facts n)) span _
    _ ready
    (λ none. sides_pure (solid x.0) (solid y.0) a v (typing.purely c) (typing.purely c) Anything clean.0 clean.1 refl refl none)
    (equality_operator x y a v (typing.purely c) clean.0 clean.1 ready.typed)
operator_made op.Or x y = λ h speech a v xs span c place speaks clean ready.
    operation_made (λ n. items.facts_of_operator op.Or ((elaborated_expression x.0).shape.facts n)
    ((elaborated_expression y.0).shape.facts n))
    (λ n. None) span _ _ ready
    (λ none. sides_pure (solid x.0) (solid y.0) a v (typing.purely c) (typing.purely c) (Exactly Truth) clean.0
    clean.1 refl refl none) (λ name p k. no_item k)
