-- What an expression of a statement becomes goes where its type is wanted.
use Rattle.std.proofs.Common.{◌≡◌, ℕ, Bool, true, false, not, ◌||◌, Option, Some, None, option_map, List, refl, sym, ◌∙◌, ap, subst}
use Rattle.std.proofs.lemmas.Bool.{and_parts}
use Rattle.std.specs.Prelude.{if◌then◌else◌}
use Rattle.pv_base.specs.declared.Name.{Name}
use Rattle.pv_base.specs.declared.Span.{Span}
use Rattle.pv_ast.specs.declared.Operator.{Operator}
use Rattle.pv_ast.specs.declared.Operator.TheVariants as op
use Rattle.pv_ast.specs.declared.PvType.{PvType}
use Rattle.pv_ast.specs.declared.PvType.TheVariants.{Int, Truth, Object, IntArray, TruthArray, Null}
use Rattle.pv_ast.specs.declared.Param.{Param}
use Rattle.pv_ast.specs.declared.Expr.{Expr}
use Rattle.pv_ast.specs.declared.ExprKind.{ExprKind-F}
use Rattle.pv_ast.specs.declared.fault.Rule.TheVariants as rule
use Rattle.pv_ast.specs.declared.scope.Declared.{Declared}
use Rattle.pv_ast.specs.declared.standing.Context.{Context}
use Rattle.pv_ast.specs.declared.standing.Need.{Need}
use Rattle.pv_ast.specs.declared.standing.Need.TheVariants.{Anything, Exactly, AnArray}
use Rattle.pv_ast.specs.declared.standing.Seen.{Seen}
use Rattle.pv_ast.specs.declared.standing.Typing.{Typing}
use Rattle.pv_ast.specs.declared.standing.Typing.TheVariants.{Unsettled, Untyped, Typed}
use Rattle.pv_ast.specs.Rules.Lookup.{class_named, field_named}
use Rattle.pv_ast.specs.Rules.Scoping.{Visible, variable_named}
use Rattle.pv_ast.specs.Rules.Typing as typing
use Rattle.pv_ast.specs.Rules.Expressions.{Environment, seen_of_name, type_of_field, type_of_param, typing_in, names_local, typing_of_field_in, is_array_length, holder_of, holder_of_typing, class_of, members_of, need_of_target}
use Rattle.pv_picks.specs.Plain.Core.{Expression}
use Rattle.pv_picks.specs.Plain.Core as core
use Rattle.pv_picks.specs.Elaborating.Operations.{is_literal, plainly, compared, operation, negation}
use Rattle.pv_picks.specs.Elaborating.Names.{class_at, elements_of, named}
use Rattle.pv_picks.specs.Elaborating.Expressions.{ElaboratedExpression, ElaboratedKind, ElaboratedEach, Layer, elaborated_in_kind, elaborated_expression}
use Rattle.core_trees.proofs.Clean.{Clean, unless_holds, if_fails}
use Rattle.core_trees.proofs.Layers.{LayerStep, piece_induction}
use Rattle.core_trees.proofs.Sound.{variable_declared}
use Rattle.pv_picks.specs.Typing.Expressions.{Home, Speech, Says}
use Rattle.core_typing.proofs.Types.{exact, null_wanted, itself, not_null, typed_if_wanted, equality_wanted, array_wanted, element_wanted}
use Rattle.core_typing.proofs.Places.{Place, Speaks, speaks_purely, speaks_left, speaks_right}

abbrev pub IsWanted : Home → Speech → List core.Parameter → Typing → Expression → Type 0
IsWanted h speech xs t e = (need : PvType) → typing.meets (Exactly need) t ≡ true → Says h speech xs e need

-- a field or an element
abbrev pub IsPlace : Expression → Type 0
IsPlace (core.Field e class field span) = Unit {0}
IsPlace (core.Element type e i span) = Unit {0}
IsPlace _ = ⊥

-- what a part gives goes where its type is wanted, `this` has its class, and a place becomes one
pub record Fits (h : Home) (speech : Speech) (a : Environment) (xs : List core.Parameter) (s : Seen) (e : Expression) : Type 0
  where
    pub this : s.this ≡ true → s.typing ≡ Typed (Object a.class)
    pub goes : IsWanted h speech xs s.typing e
    pub place : s.location ≡ true → IsPlace e

-- The laws of a kind and of an expression that are pure by their shape

abbrev pub KindLaw : ElaboratedKind → Type 0
KindLaw k = (h : Home) (speech : Speech) (a : Environment) (v : Visible) (xs : List core.Parameter) (span : Span) (c : Context)
    → Place h a v xs → Speaks speech a c → Clean (k.checked.faults span a v c) → (k.shape.facts 0).pure ≡ true
    → Fits h speech a xs (k.checked.seen a v) (k.expression span a v)

abbrev pub ExprLaw : ElaboratedExpression → Type 0
ExprLaw p = (h : Home) (speech : Speech) (a : Environment) (v : Visible) (xs : List core.Parameter) (c : Context) (need : Need)
    → Place h a v xs → Speaks speech a c → Clean (p.checked.faults a v c need) → (p.shape.facts 0).pure ≡ true
    → Fits h speech a xs (p.checked.seen a v) (p.expression a v)

-- a quantifier is never pure
abbrev pub EachLaw : ElaboratedEach → Type 0
EachLaw q = (n : ℕ) → (q.shape.facts n).pure ≡ false

abbrev LayerLaw : Layer → Type 0
LayerLaw l = KindLaw (elaborated_in_kind l)

-- a part that is neither `this` nor a place
other_part : {h : Home} {speech : Speech} {a : Environment} {xs : List core.Parameter} {t : Typing} {local : Bool}
    {e : Expression}
    → IsWanted h speech xs t e
    → Fits h speech a xs (record { typing = t; this = false; location = false; local = local }) e
other_part goes = record { this = λ i. absurd cc; goes = goes; place = λ i. absurd cc }

place_part : {h : Home} {speech : Speech} {a : Environment} {xs : List core.Parameter} {t : Typing} {location local : Bool}
    {e : Expression} → IsWanted h speech xs t e → (location ≡ true → IsPlace e)
    → Fits h speech a xs (record { typing = t; this = false; location = location; local = local }) e
place_part goes place = record { this = λ i. absurd cc; goes = goes; place = place }

-- Names

own_field : (h : Home) (speech : Speech) (a : Environment) (v : Visible) (xs : List core.Parameter) (span : Span) (name : Name)
    (o : Option PvType) → type_of_field a.here name ≡ o → Place h a v xs
    → IsWanted h speech xs (typing.typing_or Unsettled o) (core.Field core.This a.class name span)
own_field h speech a v xs span name None found place need k = absurd cc
own_field h speech a v xs span name (Some type) found place need k =
    let here : type_of_field (class_named a.program.classes a.class) name ≡ Some type =
    ap (λ c. type_of_field c name) (sym place.sound.here) ∙ found in
    let same : need ≡ type = exact need type (not_null a.program.classes type (place.sound.fields a.class name type here)) k in
    (ap Object place.class, place.declares.fields a.class name type here ∙ ap (λ t. Some t) (sym same))

name_law : (h : Home) (speech : Speech) (a : Environment) (v : Visible) (xs : List core.Parameter) (span : Span) (name : Name)
    (o : Option Declared) → variable_named v name ≡ o → Place h a v xs
    → Fits h speech a xs (seen_of_name a name o) (named a span name o)
name_law h speech a v xs span name None found place =
    place_part (own_field h speech a v xs span name (type_of_field a.here name) refl place) (λ i. tt)
name_law h speech a v xs span name (Some d) found place = other_part (λ need k.
    let same : need ≡ d.kind =
    exact need d.kind (not_null a.program.classes d.kind (variable_declared h.program a v name d place.sound found)) k in
    place.listed name ∙ ap (option_map (λ d. d.kind)) found ∙ ap (λ t. Some t) (sym same))

-- Fields and lengths

-- an object, and the members among which its fields are looked up
pub record FieldOf (a : Environment) (s : Seen) (name : Name) (type : PvType) : Type 0 where
  pub class : Name
  pub object : s.typing ≡ Typed (Object class)
  pub field : type_of_field (class_named a.program.classes class) name ≡ Some type

some_type : (o : Option Param) (need : PvType) → typing.meets (Exactly need) (typing.typing_or Unsettled (type_of_param o)) ≡ true
    → (type : PvType) × (type_of_param o ≡ Some type) × (typing.fits need type ≡ true)
some_type None need k = absurd cc
some_type (Some f) need k = (f.kind.kind, refl, k)

pub class_here : (a : Environment) (b : Bool) (class : Name) → a.here ≡ class_named a.program.classes a.class
    → (b ≡ true → class ≡ a.class) → class_of a b class ≡ class_named a.program.classes class
class_here a true class here k = here ∙ ap (class_named a.program.classes) (sym (k refl))
class_here a false class here k = refl

field_of : (h : Home) (a : Environment) (v : Visible) (xs : List core.Parameter) (s : Seen) (name : Name) (need : PvType)
    (t : Typing)
    → s.typing ≡ t → Place h a v xs
    → (s.this ≡ true → s.typing ≡ Typed (Object a.class))
    → typing.meets (Exactly need) (typing_of_field_in (holder_of_typing a s.this t) name) ≡ true → FieldOf a s name need
field_of h a v xs s name need Unsettled is place this k = absurd cc
field_of h a v xs s name need Untyped is place this k = absurd cc
field_of h a v xs s name need (Typed Int) is place this k = absurd cc
field_of h a v xs s name need (Typed Truth) is place this k = absurd cc
field_of h a v xs s name need (Typed IntArray) is place this k = absurd cc
field_of h a v xs s name need (Typed TruthArray) is place this k = absurd cc
field_of h a v xs s name need (Typed Null) is place this k = absurd cc
field_of h a v xs s name need (Typed (Object class)) is place this k =
    let o = some_type (field_named (members_of (class_of a s.this class)) name) need k in
    let where_it_is : class_of a s.this class ≡ class_named a.program.classes class =
    class_here a s.this class place.sound.here (λ b. let same : Typed (Object class) ≡ Typed (Object a.class) = sym is
    ∙ this b in cc) in
    let there : type_of_field (class_named a.program.classes class) name ≡ Some o.0 =
    ap (λ c. type_of_field c name) (sym where_it_is) ∙ o.1 in
    record {
      class = class;
      object = is;
      field =
          there ∙ ap (λ t. Some t) (sym (exact need o.0 (not_null a.program.classes o.0
          (place.sound.fields class name o.0 there)) o.2));
    }

member_law : (h : Home) (speech : Speech) (a : Environment) (v : Visible) (xs : List core.Parameter) (s : Seen) (span : Span)
    (name : Name) (e : Expression) (length : Bool) → (length ≡ true → typing.meets AnArray s.typing ≡ true)
    → Place h a v xs → Fits h speech a xs s e
    → IsWanted h speech xs (if length then Typed Int else typing_of_field_in (holder_of a s) name)
    (if length then core.Length (elements_of s.typing) e span else core.Field e (class_at s.typing) name span)
member_law h speech a v xs s span name e true array place fits need k =
    let elements = array_wanted s.typing (array refl) in
    (fits.goes _ elements.1, elements.0, exact need Int refl k)
member_law h speech a v xs s span name e false array place fits need k =
    let f = field_of h a v xs s name need s.typing refl place fits.this k in
    let goes : Says h speech xs e (Object f.class) =
    fits.goes (Object f.class) (ap (typing.meets (Exactly (Object f.class))) f.object ∙ itself (Object f.class)) in
    subst (λ (t : Typing). Says h speech xs (core.Field e (class_at t) name span) need) (sym f.object)
    (goes, place.declares.fields f.class name need f.field)

member_place : (s : Seen) (span : Span) (name : Name) (e : Expression) (length : Bool) → not length ≡ true
    → IsPlace (if length then core.Length (elements_of s.typing) e span else core.Field e (class_at s.typing) name span)
member_place s span name e true k = absurd cc
member_place s span name e false k = tt

-- Operators

plain : (h : Home) (speech : Speech) (xs : List core.Parameter) (e : Expression) (need : PvType) → Says h speech xs e need
    → Says h speech xs (plainly e) need
plain h speech xs (core.Compute manner core.Minus x y span) need k = k
plain h speech xs (core.Compute manner core.Plus x y span) need k = k
plain h speech xs (core.Compute manner core.Times x y span) need k = k
plain h speech xs (core.Constant v) need k = k
plain h speech xs core.This need k = k
plain h speech xs core.Result need k = k
plain h speech xs (core.Variable name) need k = k
plain h speech xs (core.Field e class field span) need k = k
plain h speech xs (core.Element type e i span) need k = k
plain h speech xs (core.Length type e span) need k = k
plain h speech xs (core.Not e) need k = k
plain h speech xs (core.Compare c x y) need k = k
plain h speech xs (core.Equal same x y) need k = k
plain h speech xs (core.And x y) need k = k
plain h speech xs (core.Or x y) need k = k
plain h speech xs (core.Implies x y) need k = k
plain h speech xs (core.Old e) need k = k

plain_if : (h : Home) (speech : Speech) (xs : List core.Parameter) (b : Bool) (e : Expression) (need : PvType)
    → Says h speech xs e need → Says h speech xs (if b then plainly e else e) need
plain_if h speech xs true e need k = plain h speech xs e need k
plain_if h speech xs false e need k = k

compare : (h : Home) (speech : Speech) (xs : List core.Parameter) (x y : Expression) (s t : Typing) (need : PvType)
    → IsWanted h speech xs s x → IsWanted h speech xs t y
    → typing.meets (Exactly need) (typing.typed_if (typing.both_meet (Exactly Int) s t) Truth) ≡ true
    → Says h speech xs (compared y x) Int × Says h speech xs (compared x y) Int × (need ≡ Truth)
compare h speech xs x y s t need f g k =
    let two = typed_if_wanted (typing.both_meet (Exactly Int) s t) Truth need refl k in
    let parts = and_parts _ _ two.0 in
    (plain_if h speech xs (is_literal y) x Int (f Int parts.0), plain_if h speech xs (is_literal x) y Int (g Int parts.1), two.1)

compute : (h : Home) (speech : Speech) (xs : List core.Parameter) (x y : Expression) (s t : Typing) (type need : PvType)
    → typing.is_null type ≡ false → (operand : PvType) → IsWanted h speech xs s x → IsWanted h speech xs t y
    → typing.meets (Exactly need) (typing.typed_if (typing.both_meet (Exactly operand) s t) type) ≡ true
    → Says h speech xs x operand × Says h speech xs y operand × (need ≡ type)
compute h speech xs x y s t type need n operand f g k =
    let two = typed_if_wanted (typing.both_meet (Exactly operand) s t) type need n k in
    let parts = and_parts _ _ two.0 in
    (f operand parts.0, g operand parts.1, two.1)

equate : (h : Home) (speech : Speech) (xs : List core.Parameter) (same : Bool) (x y : Expression) (s t : Typing) (need : PvType)
    → IsWanted h speech xs s x → IsWanted h speech xs t y
    → typing.meets (Exactly need) (typing.typing_of_equality s t) ≡ true
    → Says h speech xs (core.Equal same (compared y x) (compared x y)) need
equate h speech xs same x y s t need f g k =
    let both = equality_wanted s t need k in (
      both.type,
      plain_if h speech xs (is_literal y) x both.type (f both.type both.left),
      plain_if h speech xs (is_literal x) y both.type (g both.type both.right),
      both.truth,
    )

operation_law : (h : Home) (speech : Speech) (xs : List core.Parameter) (o : Operator) (span : Span) (x y : Expression)
    (s t : Typing) → IsWanted h speech xs s x → IsWanted h speech xs t y
    → IsWanted h speech xs (typing.typing_of_operator o s t) (operation o span x y)
operation_law h speech xs op.Add span x y s t f g need k = compute h speech xs x y s t Int need refl Int f g k
operation_law h speech xs op.Sub span x y s t f g need k = compute h speech xs x y s t Int need refl Int f g k
operation_law h speech xs op.Mul span x y s t f g need k = compute h speech xs x y s t Int need refl Int f g k
operation_law h speech xs op.Eq span x y s t f g need k = equate h speech xs true x y s t need f g k
operation_law h speech xs op.Ne span x y s t f g need k = equate h speech xs false x y s t need f g k
operation_law h speech xs op.Lt span x y s t f g need k = compare h speech xs x y s t need f g k
operation_law h speech xs op.Le span x y s t f g need k = compare h speech xs x y s t need f g k
operation_law h speech xs op.Gt span x y s t f g need k = compare h speech xs x y s t need f g k
operation_law h speech xs op.Ge span x y s t f g need k = compare h speech xs x y s t need f g k
operation_law h speech xs op.And span x y s t f g need k = compute h speech xs x y s t Truth need refl Truth f g k
operation_law h speech xs op.Or span x y s t f g need k = compute h speech xs x y s t Truth need refl Truth f g k
operation_law h speech xs op.Implies span x y s t f g need k = compute h speech xs x y s t Truth need refl Truth f g k
operation_law h speech xs op.Star span x y s t f g need k = compute h speech xs x y s t Truth need refl Truth f g k

negation_law : (h : Home) (speech : Speech) (xs : List core.Parameter) (written : Option ℕ) (span : Span) (x : Expression)
    (need : PvType) → Says h speech xs x Int → need ≡ Int → Says h speech xs (negation written span x) need
negation_law h speech xs None span x need f same = (refl, f, same)
negation_law h speech xs (Some n) span x need f same = same

-- What a method's end and old states are

result_wanted : (h : Home) (speech : Speech) (a : Environment) (v : Visible) (xs : List core.Parameter) (o : Option PvType)
    → a.result
    ≡ o → Place h a v xs → speech.result ≡ a.result → IsWanted h speech xs (typing.typing_or Untyped o) core.Result
result_wanted h speech a v xs None is place same need k = absurd cc
result_wanted h speech a v xs (Some type) is place same need k =
    same ∙ is ∙ ap (λ t. Some t) (sym (exact need type (not_null a.program.classes type (place.sound.result type is)) k))

old_wanted : (t : Typing) (need : PvType) → typing.meets (Exactly need) (typing.typing_of_old t) ≡ true
    → typing.meets (Exactly need) t ≡ true
old_wanted (Typed type) need k = k
old_wanted Unsettled need k = absurd cc
old_wanted Untyped need k = absurd cc

old_allowed : (old local : Bool) → (not old || local) ≡ false → old ≡ true
old_allowed true local k = refl
old_allowed false local k = absurd cc

-- The induction

never : {A : Type 0} → false ≡ true → A
never k = absurd cc

layer_law : LayerStep KindLaw EachLaw ExprLaw
layer_law (ExprKind-F.Number n) = λ h speech a v xs span c place speaks clean pure. other_part (λ need k. exact need Int refl k)
layer_law (ExprKind-F.Truth b) = λ h speech a v xs span c place speaks clean pure. other_part (λ need k. exact need Truth refl k)
layer_law ExprKind-F.Null = λ h speech a v xs span c place speaks clean pure. other_part (λ need k. null_wanted need k)
layer_law ExprKind-F.This = λ h speech a v xs span c place speaks clean pure.
    record {
      this = λ i. refl;
      goes = λ need k. exact need (Object a.class) refl k ∙ ap Object place.class;
      place = λ i. absurd cc;
    }
layer_law ExprKind-F.Result = λ h speech a v xs span c place speaks clean pure.
    other_part (result_wanted h speech a v xs a.result refl place
    (speaks.result (unless_holds c.result rule.ResultPlace span clean)))
layer_law (ExprKind-F.Var w) =
    λ h speech a v xs span c place speaks clean pure. name_law h speech a v xs span w.name (variable_named v w.name) refl place
layer_law (ExprKind-F.Field e w) = λ h speech a v xs span c place speaks clean pure.
    let s : Seen = (elaborated_expression e.0).checked.seen a v in
    place_part (member_law h speech a v xs s span w.name ((elaborated_expression e.0).expression a v)
    (is_array_length a w.name s.typing)
    (λ b. (and_parts (typing.meets AnArray s.typing) _ b).0)
    place (e.1 h speech a v xs c (need_of_target a w.name) place speaks clean.0 pure))
    (member_place s span w.name ((elaborated_expression e.0).expression a v) (is_array_length a w.name s.typing))
layer_law (ExprKind-F.Index e i) = λ h speech a v xs span c place speaks clean pure.
    let both = and_parts _ _ pure in
    let f = e.1 h speech a v xs c AnArray place speaks clean.0 both.0 in
    let g = i.1 h speech a v xs c (Exactly Int) place speaks clean.1 both.1 in
    place_part (λ need k.
    let two = element_wanted (typing_in (elaborated_expression e.0).checked a v)
    (typing_in (elaborated_expression i.0).checked a v) need k in
    (f.goes _ two.0.1, g.goes Int two.1, two.0.0, two.2)) (λ i. tt)
layer_law (ExprKind-F.Not e) = λ h speech a v xs span c place speaks clean pure.
    let f = e.1 h speech a v xs (typing.purely c) (Exactly Truth) place (speaks_purely speaks) clean pure in
    other_part (λ need k. let two = typed_if_wanted _ Truth need refl k in (f.goes Truth two.0, two.1))
layer_law (ExprKind-F.Minus e) = λ h speech a v xs span c place speaks clean pure.
    let f = e.1 h speech a v xs c (Exactly Int) place speaks clean pure in
    other_part (λ need k. let two = typed_if_wanted _ Int need refl k in
    negation_law h speech xs (elaborated_expression e.0).written span ((elaborated_expression e.0).expression a v) need
    (f.goes Int two.0) two.1)
layer_law (ExprKind-F.Binary o x y) = λ h speech a v xs span c place speaks clean pure.
    let both = and_parts _ _ pure in
    let f = x.1 h speech a v xs (typing.under_left o c) (typing.need_of_operator o) place (speaks_left o speaks) clean.0 both.0 in
    let g =
    y.1 h speech a v xs (typing.under_right o c) (typing.need_of_operator o) place (speaks_right o speaks) clean.1 both.1 in
    other_part (operation_law h speech xs o span ((elaborated_expression x.0).expression a v)
    ((elaborated_expression y.0).expression a v)
    (typing_in (elaborated_expression x.0).checked a v) (typing_in (elaborated_expression y.0).checked a v) f.goes g.goes)
layer_law (ExprKind-F.Old e) = λ h speech a v xs span c place speaks clean pure.
    let f = e.1 h speech a v xs (typing.purely c) Anything place (speaks_purely speaks) clean.0 pure in
    let allowed : c.old ≡ true =
    old_allowed c.old (names_local (elaborated_expression e.0).checked a v) (if_fails _ rule.OldPlace span clean.1) in
    other_part
    (λ need k. (speaks.old allowed, f.goes need (old_wanted (typing_in (elaborated_expression e.0).checked a v) need k)))
layer_law (ExprKind-F.Perm e checked whole amount) = λ h speech a v xs span c place speaks clean pure. never pure
layer_law (ExprKind-F.Token t e) = λ h speech a v xs span c place speaks clean pure. never pure
layer_law (ExprKind-F.Instance None w es) = λ h speech a v xs span c place speaks clean pure. never pure
layer_law (ExprKind-F.Instance (Some e) w es) = λ h speech a v xs span c place speaks clean pure. never pure
layer_law (ExprKind-F.Each q) = λ h speech a v xs span c place speaks clean pure. never (sym (q.1 0) ∙ pure)

pub expression_law : (e : Expr) → ExprLaw (elaborated_expression e)
expression_law =
    piece_induction KindLaw EachLaw ExprLaw layer_law (λ y n. refl)
    (λ span k law h speech a v xs c need place speaks clean pure. law h speech a v xs span c place speaks clean.0 pure)
