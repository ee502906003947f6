-- What is made of items for a position is made alike as a formula and as items.
use Rattle.std.proofs.Common.{◌≡◌, ℕ, Bool, true, false, not, ◌&&◌, ◌||◌, Option, Some, None, is_some, List, [], ◌++◌, map, refl, sym, ◌∙◌, ap, subst, inl, inr}
use Rattle.std.proofs.lemmas.Bool.{and_parts, and_from, both_ways}
use Rattle.std.specs.Prelude.{◌⊎◌, if◌then◌else◌}
use Rattle.pv_base.specs.declared.Name.{Name}
use Rattle.pv_base.specs.declared.Span.{Span}
use Rattle.pv_ast.specs.declared.Word.{Word}
use Rattle.pv_ast.specs.declared.Operator.{Operator}
use Rattle.pv_ast.specs.declared.Operator.TheVariants as op
use Rattle.pv_ast.specs.declared.PvType.TheVariants.{Truth}
use Rattle.pv_ast.specs.declared.Token.{Token}
use Rattle.pv_ast.specs.declared.Token.TheVariants as token
use Rattle.pv_ast.specs.declared.Expr.{Expr}
use Rattle.pv_ast.specs.declared.ExprKind.{ExprKind-F}
use Rattle.pv_ast.specs.declared.fault.ShapeFault.{ShapeFault}
use Rattle.pv_ast.specs.declared.standing.Context.{Context}
use Rattle.pv_ast.specs.declared.standing.Need.TheVariants.{Anything, Exactly}
use Rattle.pv_ast.specs.Rules.Scoping.{Visible}
use Rattle.pv_ast.specs.Rules.Typing as typing
use Rattle.pv_ast.specs.Rules.Expressions.{Environment, CheckedExpression, typing_in}
use Rattle.pv_ast.specs.Rules.Items as shapes
use Rattle.pv_ast.specs.Rules.Items.{Facts, is_guard, is_fixing, is_variable, is_term, has_variable_and_term, is_variable_and_term, item_of_use, item_of_pure, item_of_token, item_of_implication, guarded_item, item_if, fixed, is_empty, or_else, facts_of_operator, clause, fault_unless, is_part, keeps_left, part_fault}
use Rattle.pv_ast.specs.Rules.Shapes.{faults_of_items}
use Rattle.pv_ast.specs.Rules.Statements as rules
use Rattle.pv_picks.specs.Plain.Core.{Expression, Formula, Items, Item}
use Rattle.pv_picks.specs.Plain.Core as core
use Rattle.pv_picks.specs.Elaborating.Operations.{operation}
use Rattle.pv_picks.specs.Elaborating.Expressions.{ElaboratedExpression, ElaboratedKind, ElaboratedEach, Layer, elaborated_in_kind, elaborated_expression, elaborated_each, shapes_in, conjunct, alone, together, is_fact, formula_in_kind, item_in_kind, type_of_elaborated, units_of, form_for, core_of_formula, core_of_items}
use Rattle.core_trees.proofs.Clean.{Clean, no_first, no_second}
use Rattle.core_trees.proofs.Layers.{checked_in_elaborated, shape_in_elaborated, LayerStep, piece_induction}
use Rattle.core_trees.proofs.Terms.{few_uses}
use Rattle.core_sharing.specs.Forms.{SameItem.same_fact, SameItem.same_committed}
use Rattle.core_sharing.proofs.Making.{IsMade, AreMade, made_alone, made_together}
use Rattle.core_trees.proofs.Shapes.{IsPosition, taken, shown}
use Rattle.core_sharing.proofs.Parts.{permission_same, implied_same}
use Rattle.core_trees.proofs.Settling.{meets_elaborated}
use Rattle.core_trees.proofs.Purity.{solid, numbers_pure, position_first, position_second}

-- Items

-- a part that has no fault is an item
part_item : (i t : Bool) (fault : ShapeFault) → fault_unless (is_part clause i t) fault ≡ [] → i ≡ true
part_item true t fault h = refl
part_item false t fault h = absurd cc

part_in : (l : Layer) (span : Span) (name : Name) → part_fault (shapes_in l) span clause name.0 ≡ []
    → is_some (shapes.item_in_kind (shapes_in l) name.0) ≡ true
part_in l span name none =
    part_item (is_some (shapes.item_in_kind (shapes_in l) name.0)) (shapes.facts_in_kind (shapes_in l) name.0).truth
    (shapes.fault_at clause span) none

either_some : (x y : Option shapes.Item) → is_some (or_else x y) ≡ true → (is_some x ≡ true) ⊎ (is_some y ≡ true)
either_some None y h = inr h
either_some (Some x) y h = inl refl

no_item : {A : Type 0} → false ≡ true → A
no_item h = absurd cc

-- what a pure item is
few_pure : (f : Facts) → is_some (item_of_pure f) ≡ true → (f.pure ≡ true) × (is_some (item_of_use f.uses) ≡ true)
few_pure f h = by f.pure h
  where
    by : (b : Bool) → is_some (if b then item_of_use f.uses else None) ≡ true → (b ≡ true) × (is_some (item_of_use f.uses) ≡ true)
    by true k = (refl, k)
    by false k = absurd cc

few_from : (f : Facts) → f.pure ≡ true → is_some (item_of_use f.uses) ≡ true → is_some (item_of_pure f) ≡ true
few_from f pure few = ap (λ b. is_some (if b then item_of_use f.uses else None)) pure ∙ few

only_pure : (f : Facts) → is_some (or_else (item_of_pure f) None) ≡ true → f.pure ≡ true
only_pure f h = by (either_some (item_of_pure f) None h)
  where
    by : (is_some (item_of_pure f) ≡ true) ⊎ (false ≡ true) → f.pure ≡ true
    by (inl i) = (few_pure f i).0
    by (inr i) = absurd cc

some_if : (b : Bool) (item : shapes.Item) → is_some (item_if b item) ≡ true → b ≡ true
some_if true item h = refl
some_if false item h = absurd cc

-- The laws of a kind and of an expression

-- in a conjunct, as one item; and by itself, as items
pub record Made (name : Name) (kind : Option shapes.Item) (parts : List ShapeFault) (formula_at : Option Span → Formula)
    (items : Items) (item_at : Option Span → Item) : Type 0 where
  pub single : is_some kind ≡ true → (c : Span) → IsMade name (formula_at (Some c)) (item_at (Some c))
  pub joined : parts ≡ [] → AreMade name (formula_at None) items

abbrev KindLaw : ElaboratedKind → Type 0
KindLaw k =
    (name : Name) (a : Environment) (v : Visible) (span : Span) (c : Context) → IsPosition v name
    → Clean (k.checked.faults span a v c)
    → typing.meets (Exactly Truth) (k.checked.seen a v).typing ≡ true
    → Made name (k.shape.item name.0) (k.shape.parts span clause name.0) (λ environment. k.formula span environment a v)
    (k.items span name None a v) (λ environment. k.item span name environment a v)

abbrev ElaboratedMade : Name → Environment → Visible → ElaboratedExpression → Type 0
ElaboratedMade name a v p =
    Made name (p.shape.item name.0) (p.shape.parts clause name.0) (λ environment. p.formula environment a v)
    (p.items name None a v)
    (λ environment. p.item name environment a v)

abbrev ExprLaw : ElaboratedExpression → Type 0
ExprLaw p =
    (name : Name) (a : Environment) (v : Visible) (c : Context) → IsPosition v name
    → Clean (p.checked.faults a v c (Exactly Truth))
    → typing.meets (Exactly Truth) (typing_in p.checked a v) ≡ true → ElaboratedMade name a v p

-- a quantifier isn't pure
abbrev EachLaw : ElaboratedEach → Type 0
EachLaw q = (n : ℕ) → (q.shape.facts n).pure ≡ false

abbrev Exprs : Type 0
Exprs = (e : Expr) × ExprLaw (elaborated_expression e)

abbrev LayerLaw : Layer → Type 0
LayerLaw l = KindLaw (elaborated_in_kind l)

made_at : (e : Exprs) (name : Name) (a : Environment) (v : Visible) (c : Context) → IsPosition v name
    → Clean ((elaborated_expression e.0).checked.faults a v c (Exactly Truth))
    → ElaboratedMade name a v (elaborated_expression e.0)
made_at e name a v c p clean = e.1 name a v c p clean (meets_elaborated e.0 a v c (Exactly Truth) clean)

-- a fact as a formula and as an item
plain : (name : Name) (kind : Option shapes.Item) (parts : List ShapeFault) (e : Expression) (span : Span)
    → Made name kind parts (λ environment. core.Fact e (conjunct environment span)) (alone (core.Repeated e span))
    (λ environment. core.Repeated e (conjunct environment span))
plain name kind parts e span = record { single = λ some c. (same_fact, tt); joined = λ none. made_alone name _ _ (same_fact, tt) }

-- Operators

abbrev binary : Operator → ElaboratedExpression → ElaboratedExpression → Layer
binary o x y = ExprKind-F.Binary o x y

-- where both sides are pure, an operator that joins no conjuncts is a fact
pure_formula : (o : Operator) (x y : ElaboratedExpression) (span : Span) (environment : Option Span) (a : Environment)
    (v : Visible)
    → ((x.shape.facts 0).pure && (y.shape.facts 0).pure) ≡ true → (is_some environment || not (keeps_left o)) ≡ true
    → formula_in_kind (binary o x y) span environment a v
    ≡ core.Fact (operation o span (x.expression a v) (y.expression a v)) (conjunct environment span)
pure_formula o x y span environment a v pure here =
    taken (is_fact environment o ((x.shape.facts 0).pure && (y.shape.facts 0).pure)) _ _ (and_from _ _ pure here)

pure_single : (o : Operator) (x y : ElaboratedExpression) (name : Name) (span : Span) (environment : Option Span)
    (a : Environment) (v : Visible)
    → ((x.shape.facts 0).pure && (y.shape.facts 0).pure) ≡ true → (is_some environment || not (keeps_left o)) ≡ true
    → IsMade name (formula_in_kind (binary o x y) span environment a v)
    (core.Repeated (operation o span (x.expression a v) (y.expression a v)) (conjunct environment span))
pure_single o x y name span environment a v pure here =
    subst (λ (f : Formula). IsMade name f
    (core.Repeated (operation o span (x.expression a v) (y.expression a v)) (conjunct environment span)))
    (sym (pure_formula o x y span environment a v pure here)) (same_fact, tt)

-- purity hangs on no variable
at_none : (x y : Exprs) (n : ℕ) → (((elaborated_expression x.0).shape.facts n).pure
    && ((elaborated_expression y.0).shape.facts n).pure) ≡ true
    → (((elaborated_expression x.0).shape.facts 0).pure && ((elaborated_expression y.0).shape.facts 0).pure) ≡ true
at_none x y n h =
    let two = and_parts _ _ h in
    and_from _ _ ((shown x.0).same 0 n ∙ two.0) ((shown y.0).same 0 n ∙ two.1)

fact_made : (o : Operator) (x y : ElaboratedExpression) (name : Name) (a : Environment) (v : Visible) (span : Span)
    → not (keeps_left o) ≡ true
    → (is_some (shapes.item_in_kind (shapes_in (binary o x y)) name.0) ≡ true
    → ((x.shape.facts 0).pure && (y.shape.facts 0).pure) ≡ true)
    → Made name (shapes.item_in_kind (shapes_in (binary o x y)) name.0)
    (part_fault (shapes_in (binary o x y)) span clause name.0)
    (λ environment. formula_in_kind (binary o x y) span environment a v)
    (alone (core.Repeated (operation o span (x.expression a v) (y.expression a v)) span))
    (λ environment. core.Repeated (operation o span (x.expression a v) (y.expression a v)) (conjunct environment span))
fact_made o x y name a v span apart pure = record {
  single = λ some c. pure_single o x y name span (Some c) a v (pure some) refl;
  joined =
      λ none. made_alone name _ _ (pure_single o x y name span None a v (pure (part_in (binary o x y) span name none)) apart);
}

-- at the top `**` and `&&` of pure parts are two conjuncts
two_formulas : (b : Bool) (name : Name) (f g : Formula) (is : Items) → AreMade name g is
    → AreMade name (if b && false then f else g) is
two_formulas true name f g is h = h
two_formulas false name f g is h = h

joined_made : (o : Operator) (x y : Exprs) (name : Name) (a : Environment) (v : Visible) (span : Span) (c d : Context)
    → IsPosition v name → Clean ((elaborated_expression x.0).checked.faults a v c (Exactly Truth))
    → Clean ((elaborated_expression y.0).checked.faults a v d (Exactly Truth))
    → (elaborated_expression x.0).shape.parts clause name.0 ++ (elaborated_expression y.0).shape.parts clause name.0 ≡ []
    → AreMade name (if ((elaborated_expression x.0).shape.facts 0).pure && ((elaborated_expression y.0).shape.facts 0).pure
    && false then core.Fact
    (operation o span ((elaborated_expression x.0).expression a v) ((elaborated_expression y.0).expression a v)) span
    else core.Star ((elaborated_expression x.0).formula None a v) ((elaborated_expression y.0).formula None a v))
    (together ((elaborated_expression x.0).items name None a v) ((elaborated_expression y.0).items name None a v))
joined_made o x y name a v span c d p clean_x clean_y none =
    two_formulas (((elaborated_expression x.0).shape.facts 0).pure && ((elaborated_expression y.0).shape.facts 0).pure) name
    (core.Fact (operation o span ((elaborated_expression x.0).expression a v) ((elaborated_expression y.0).expression a v)) span)
    (core.Star ((elaborated_expression x.0).formula None a v) ((elaborated_expression y.0).formula None a v))
    (together ((elaborated_expression x.0).items name None a v) ((elaborated_expression y.0).items name None a v))
    (made_together name _ _ _ _
    ((made_at x name a v c p clean_x).joined
    (no_first ((elaborated_expression x.0).shape.parts clause name.0) ((elaborated_expression y.0).shape.parts clause name.0)
    none))
    ((made_at y name a v d p clean_y).joined
    (no_second ((elaborated_expression x.0).shape.parts clause name.0) ((elaborated_expression y.0).shape.parts clause name.0)
    none)))

-- an operator that is an item by its purity alone
operator_pure : (o : Operator) (x y : Exprs) (name : Name)
    → is_some (or_else (item_of_pure
    (facts_of_operator o ((elaborated_expression x.0).shape.facts name.0) ((elaborated_expression y.0).shape.facts name.0))) None)
    ≡ true
    → (((elaborated_expression x.0).shape.facts 0).pure && ((elaborated_expression y.0).shape.facts 0).pure) ≡ true
operator_pure o x y name some =
    at_none x y name.0 (only_pure
    (facts_of_operator o ((elaborated_expression x.0).shape.facts name.0) ((elaborated_expression y.0).shape.facts name.0)) some)

or_either : (a b : Bool) → (a || b) ≡ true → (a ≡ true) ⊎ (b ≡ true)
or_either true b h = inl refl
or_either false b h = inr h

-- an equality of a position and a term
equality_pure : (x y : Exprs) (name : Name) (a : Environment) (v : Visible) (c : Context) → IsPosition v name
    → Clean ((elaborated_expression x.0).checked.faults a v c Anything)
    → Clean ((elaborated_expression y.0).checked.faults a v c Anything)
    → typing.meets (Exactly Truth)
    (typing.typing_of_equality (typing_in (elaborated_expression x.0).checked a v)
    (typing_in (elaborated_expression y.0).checked a v)) ≡ true
    → is_some (or_else (item_of_pure
    (facts_of_operator op.Eq ((elaborated_expression x.0).shape.facts name.0) ((elaborated_expression y.0).shape.facts name.0)))
    (shapes.item_of_comparison ((elaborated_expression x.0).shape.facts name.0) ((elaborated_expression y.0).shape.facts name.0)))
    ≡ true
    → (((elaborated_expression x.0).shape.facts 0).pure && ((elaborated_expression y.0).shape.facts 0).pure) ≡ true
equality_pure x y name a v c p clean_x clean_y m some = by (either_some _ _ some)
  where
    f : Facts
    f = (elaborated_expression x.0).shape.facts name.0

    g : Facts
    g = (elaborated_expression y.0).shape.facts name.0

    either : (is_variable_and_term f g ≡ true) ⊎ (is_variable_and_term g f ≡ true)
        → (((elaborated_expression x.0).shape.facts 0).pure && ((elaborated_expression y.0).shape.facts 0).pure) ≡ true
    either (inl i) = position_first (solid x.0) (solid y.0) a v c name p clean_x clean_y (and_parts _ _ i).0 m
    either (inr i) = position_second (solid x.0) (solid y.0) a v c name p clean_x clean_y (and_parts _ _ i).0 m

    by : (is_some (item_of_pure (facts_of_operator op.Eq f g)) ≡ true) ⊎ (is_some (shapes.item_of_comparison f g) ≡ true)
        → (((elaborated_expression x.0).shape.facts 0).pure && ((elaborated_expression y.0).shape.facts 0).pure) ≡ true
    by (inl i) = at_none x y name.0 (few_pure (facts_of_operator op.Eq f g) i).0
    by (inr i) = either (or_either _ _ (some_if (has_variable_and_term f g) shapes.position i))

-- Implications

guard_some : (b : Bool) (o other : Option shapes.Item) → b ≡ true → is_some (if b then guarded_item o else other) ≡ true
    → is_some o ≡ true
guard_some true None other is h = absurd cc
guard_some true (Some i) other is h = refl
guard_some false o other is h = absurd cc

nothing_some : {A : Type 0} (b f t e : Bool) (o : Option shapes.Item) → b ≡ false → f ≡ false
    → is_some (if b then guarded_item o else item_if (f && t && e) fixed) ≡ true → A
nothing_some true f t e o no_guard no_fixing h = absurd cc
nothing_some false true t e o no_guard no_fixing h = absurd cc
nothing_some false false t e o no_guard no_fixing h = absurd cc

implication_single : (x y : Exprs) (name : Name) (a : Environment) (v : Visible) (span : Span) (d : Context)
    (environment : Option Span)
    → IsPosition v name → Clean ((elaborated_expression y.0).checked.faults a v d (Exactly Truth))
    → is_some (shapes.item_in_kind (shapes_in (binary op.Implies (elaborated_expression x.0) (elaborated_expression y.0))) name.0)
    ≡ true
    → (is_some environment || true) ≡ true
    → IsMade name (formula_in_kind (binary op.Implies (elaborated_expression x.0) (elaborated_expression y.0)) span environment a
    v)
    (item_in_kind (binary op.Implies (elaborated_expression x.0) (elaborated_expression y.0)) span name environment a v)
implication_single x y name a v span d environment p clean some here =
    implied_same name f.form (is_fact environment op.Implies pure) ((elaborated_expression x.0).expression a v)
    ((elaborated_expression y.0).expression a v)
    ((elaborated_expression y.0).formula (Some c) a v) ((elaborated_expression y.0).item name (Some c) a v) c
    ((shown x.0).says a v name p)
    (λ is. (shown y.0).factual (and_parts _ _ (and_parts _ _ is).0).1 c a v)
    (λ is. (made_at y name a v d p clean).single (inner is (either_some _ _ some)) c)
    (λ no_guard no_fixing. and_from _ _ (both no_guard no_fixing (either_some _ _ some)) here)
  where
    c : Span
    c = conjunct environment span

    f : Facts
    f = (elaborated_expression x.0).shape.facts name.0

    g : Facts
    g = (elaborated_expression y.0).shape.facts name.0

    pure : Bool
    pure = ((elaborated_expression x.0).shape.facts 0).pure && ((elaborated_expression y.0).shape.facts 0).pure

    -- the right side is an item where the left one is a guard
    inner : is_guard f.form ≡ true
        → (is_some (item_of_pure (facts_of_operator op.Implies f g)) ≡ true) ⊎
        (is_some (item_of_implication f g ((elaborated_expression y.0).shape.item name.0)
        (elaborated_expression y.0).shape.faults) ≡ true)
        → is_some ((elaborated_expression y.0).shape.item name.0) ≡ true
    inner is (inl i) =
        let two = few_pure (facts_of_operator op.Implies f g) i in
        (shown y.0).few name.0 (few_from g (and_parts _ _ two.0).1 (few_uses f.uses g.uses two.1).1)
    inner is (inr i) = guard_some (is_guard f.form) _ _ is i

    both : is_guard f.form ≡ false → is_fixing f.form ≡ false
        → (is_some (item_of_pure (facts_of_operator op.Implies f g)) ≡ true) ⊎
        (is_some (item_of_implication f g ((elaborated_expression y.0).shape.item name.0)
        (elaborated_expression y.0).shape.faults) ≡ true) → pure ≡ true
    both no_guard no_fixing (inl i) = at_none x y name.0 (few_pure (facts_of_operator op.Implies f g) i).0
    both no_guard no_fixing (inr i) =
        nothing_some (is_guard f.form) (is_fixing f.form) (is_term g)
        (is_empty (elaborated_expression y.0).shape.faults) _ no_guard no_fixing i

operator_law : (o : Operator) (x y : Exprs) → LayerLaw (binary o (elaborated_expression x.0) (elaborated_expression y.0))
operator_law op.Add x y =
    λ name a v span c p clean m.
    fact_made op.Add (elaborated_expression x.0) (elaborated_expression y.0) name a v span refl
    (λ some. operator_pure op.Add x y name some)
operator_law op.Sub x y =
    λ name a v span c p clean m.
    fact_made op.Sub (elaborated_expression x.0) (elaborated_expression y.0) name a v span refl
    (λ some. operator_pure op.Sub x y name some)
operator_law op.Mul x y =
    λ name a v span c p clean m.
    fact_made op.Mul (elaborated_expression x.0) (elaborated_expression y.0) name a v span refl
    (λ some. operator_pure op.Mul x y name some)
operator_law op.Or x y =
    λ name a v span c p clean m.
    fact_made op.Or (elaborated_expression x.0) (elaborated_expression y.0) name a v span refl
    (λ some. operator_pure op.Or x y name some)
operator_law op.Lt x y =
    λ name a v span c p clean m.
    fact_made op.Lt (elaborated_expression x.0) (elaborated_expression y.0) name a v span refl
    (λ some. numbers_pure (solid x.0) (solid y.0) a v c clean.0 clean.1)
operator_law op.Le x y =
    λ name a v span c p clean m.
    fact_made op.Le (elaborated_expression x.0) (elaborated_expression y.0) name a v span refl
    (λ some. numbers_pure (solid x.0) (solid y.0) a v c clean.0 clean.1)
operator_law op.Gt x y =
    λ name a v span c p clean m.
    fact_made op.Gt (elaborated_expression x.0) (elaborated_expression y.0) name a v span refl
    (λ some. numbers_pure (solid x.0) (solid y.0) a v c clean.0 clean.1)
operator_law op.Ge x y =
    λ name a v span c p clean m.
    fact_made op.Ge (elaborated_expression x.0) (elaborated_expression y.0) name a v span refl
    (λ some. numbers_pure (solid x.0) (solid y.0) a v c clean.0 clean.1)
operator_law op.Eq x y =
    λ name a v span c p clean m.
    fact_made op.Eq (elaborated_expression x.0) (elaborated_expression y.0) name a v span refl
    (equality_pure x y name a v (typing.purely c) p clean.0 clean.1 m)
operator_law op.Ne x y =
    λ name a v span c p clean m.
    fact_made op.Ne (elaborated_expression x.0) (elaborated_expression y.0) name a v span refl
    (equality_pure x y name a v (typing.purely c) p clean.0 clean.1 m)
operator_law op.And x y = λ name a v span c p clean m. record {
  single =
      λ some c. pure_single op.And (elaborated_expression x.0) (elaborated_expression y.0) name span (Some c) a v
      (operator_pure op.And x y name some) refl;
  joined = joined_made op.And x y name a v span (typing.purely c) (typing.purely c) p clean.0 clean.1;
}
operator_law op.Star x y = λ name a v span c p clean m. record {
  single =
      λ some c. pure_single op.Star (elaborated_expression x.0) (elaborated_expression y.0) name span (Some c) a v
      (operator_pure op.Star x y name some) refl;
  joined = joined_made op.Star x y name a v span c c p clean.0 clean.1;
}
operator_law op.Implies x y = λ name a v span c p clean m. record {
  single = λ some d. implication_single x y name a v span c (Some d) p clean.1 some refl;
  joined = λ none. made_alone name _ _
      (implication_single x y name a v span c None p clean.1
      (part_in (binary op.Implies (elaborated_expression x.0) (elaborated_expression y.0)) span name none) refl);
}

-- Permissions, tokens and quantifiers

permission_single : (e : Expr) (checked whole : ℕ) (amount : Span) (name : Name) (a : Environment) (v : Visible) (span : Span)
    (environment : Option Span) → IsPosition v name
    → is_some (shapes.item_in_kind (shapes_in (ExprKind-F.Perm (elaborated_expression e) checked whole amount)) name.0) ≡ true
    → IsMade name (formula_in_kind (ExprKind-F.Perm (elaborated_expression e) checked whole amount) span environment a v)
    (item_in_kind (ExprKind-F.Perm (elaborated_expression e) checked whole amount) span name environment a v)
permission_single e checked whole amount name a v span environment p some =
    permission_same name (form_for name (elaborated_expression e)) (type_of_elaborated (elaborated_expression e) a v)
    (units_of checked whole)
    (conjunct environment span) ((elaborated_expression e).expression a v) some ((shown e).says a v name p)

permission_law : (e : Expr) (checked whole : ℕ) (amount : Span)
    → LayerLaw (ExprKind-F.Perm (elaborated_expression e) checked whole amount)
permission_law e checked whole amount = λ name a v span c p clean m.
    let l : Layer = ExprKind-F.Perm (elaborated_expression e) checked whole amount in
    record {
      single = λ some d. permission_single e checked whole amount name a v span (Some d) p some;
      joined =
          λ none. made_alone name _ _ (permission_single e checked whole amount name a v span None p (part_in l span name none));
    }

token_single : (t : Token) (e : ElaboratedExpression) (name : Name) (a : Environment) (v : Visible) (span : Span)
    (environment : Option Span)
    → is_some (item_of_token t (e.shape.facts name.0)) ≡ true
    → IsMade name (formula_in_kind (ExprKind-F.Token t e) span environment a v)
    (item_in_kind (ExprKind-F.Token t e) span name environment a v)
token_single token.Committed e name a v span environment some = (same_committed, tt)
token_single token.Idle e name a v span environment some = absurd cc
token_single token.Running e name a v span environment some = absurd cc
token_single token.Uncommitted e name a v span environment some = absurd cc

token_law : (t : Token) (e : ElaboratedExpression) → LayerLaw (ExprKind-F.Token t e)
token_law t e = λ name a v span c p clean m.
    let l : Layer = ExprKind-F.Token t e in
    record {
      single = λ some d. token_single t e name a v span (Some d) some;
      joined = λ none. made_alone name _ _ (token_single t e name a v span None (part_in l span name none));
    }

instance_law : (o : Option ElaboratedExpression) (w : Word) (ps : List ElaboratedExpression)
    → LayerLaw (ExprKind-F.Instance o w ps)
instance_law o w ps = λ name a v span c p clean m. record {
  single = λ some d. no_item some;
  joined = λ none. no_item (part_in (ExprKind-F.Instance o w ps) span name none);
}

never_pure : {A : Type 0} (f : Facts) → f.pure ≡ false → is_some (or_else (item_of_pure f) None) ≡ true → A
never_pure f impure some = absurd (both_ways f.pure impure (only_pure f some))

quantifier_law : (q : ElaboratedEach) → EachLaw q → LayerLaw (ExprKind-F.Each q)
quantifier_law q law = λ name a v span c p clean m. record {
  single = λ some d. never_pure (q.shape.facts name.0) (law name.0) some;
  joined = λ none. never_pure (q.shape.facts name.0) (law name.0) (part_in (ExprKind-F.Each q) span name none);
}

-- The induction

layer_law : LayerStep KindLaw EachLaw ExprLaw
layer_law (ExprKind-F.Binary o x y) = operator_law o x y
layer_law (ExprKind-F.Perm e checked whole amount) = permission_law e.0 checked whole amount
layer_law (ExprKind-F.Token t e) = token_law t (elaborated_expression e.0)
layer_law (ExprKind-F.Instance None w es) = instance_law None w (map elaborated_expression (map (λ e. e.0) es))
layer_law (ExprKind-F.Instance (Some e) w es) =
    instance_law (Some (elaborated_expression e.0)) w (map elaborated_expression (map (λ e. e.0) es))
layer_law (ExprKind-F.Each q) = quantifier_law (elaborated_each q.0) q.1
layer_law _ = λ name a v span c p clean m. plain name _ _ _ span

expression_law : (e : Expr) → ExprLaw (elaborated_expression e)
expression_law =
    piece_induction KindLaw EachLaw ExprLaw layer_law (λ y n. refl) (λ span k law name a v c p clean m.
    let made = law name a v span c p clean.0 m in record { single = made.single; joined = made.joined })

-- a clause without a fault that is made of items for a position
pub clause_same : (e : Expr) (name : Name) (a : Environment) (v : Visible) (c : Context) → IsPosition v name
    → Clean (rules.faults_of_formula a v c e) → faults_of_items name.0 e ≡ []
    → AreMade name (core_of_formula a v e) (core_of_items name a v e)
clause_same e name a v c p clean none =
    (made_at (e, expression_law e) name a v c p
    (subst (λ (q : CheckedExpression). Clean (q.faults a v c (Exactly Truth))) (sym (checked_in_elaborated e)) clean)).joined
    (ap (λ (s : shapes.Shape). s.parts clause name.0) (shape_in_elaborated e) ∙ none)
