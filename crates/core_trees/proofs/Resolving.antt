-- An expression without a fault becomes a resolved one, wherever it stands.
use Rattle.std.proofs.Common.{◌≡◌, ℕ, Bool, true, false, not, ◌&&◌, ◌||◌, Option, Some, None, is_some, option_map, List, [], ◌∷◌, length, map, refl, sym, ◌∙◌, ap, subst}
use Rattle.std.proofs.lemmas.Bool.{and_from, eqb-true}
use Rattle.std.proofs.lemmas.List.{length-map}
use Rattle.std.specs.Prelude.{nat_eq, if◌then◌else◌}
use Rattle.std.specs.List.{AllByRecursion}
use Rattle.pv_base.specs.declared.Name.{Name}
use Rattle.pv_base.specs.declared.Span.{Span}
use Rattle.pv_ast.specs.declared.Word.{Word}
use Rattle.pv_ast.specs.declared.Operator.{Operator}
use Rattle.pv_ast.specs.declared.Operator.TheVariants as op
use Rattle.pv_ast.specs.declared.Token.{Token}
use Rattle.pv_ast.specs.declared.Token.TheVariants as token
use Rattle.pv_ast.specs.declared.PvType.{PvType}
use Rattle.pv_ast.specs.declared.PvType.TheVariants.{Int, Truth, Object, IntArray, TruthArray, Null}
use Rattle.pv_ast.specs.declared.Param.{Param}
use Rattle.pv_ast.specs.declared.Class.{Class}
use Rattle.pv_ast.specs.declared.Predicate.{Predicate}
use Rattle.pv_ast.specs.declared.Expr.{Expr}
use Rattle.pv_ast.specs.declared.ExprKind.{ExprKind-F}
use Rattle.pv_ast.specs.declared.fault.Rule.TheVariants as rule
use Rattle.pv_ast.specs.declared.scope.Declaration.TheVariants.{Bound}
use Rattle.pv_ast.specs.declared.scope.Declared.{Declared}
use Rattle.pv_ast.specs.declared.standing.Context.{Context}
use Rattle.pv_ast.specs.declared.standing.Need.{Need}
use Rattle.pv_ast.specs.declared.standing.Need.TheVariants.{Anything, Exactly, AnObject, AnArray, AnObjectOrArray}
use Rattle.pv_ast.specs.declared.standing.Seen.{Seen}
use Rattle.pv_ast.specs.declared.standing.Typing.{Typing}
use Rattle.pv_ast.specs.declared.standing.Typing.TheVariants.{Unsettled, Untyped, Typed}
use Rattle.pv_ast.specs.Rules.Lookup.{is_declared_type, class_named, field_named, predicate_named}
use Rattle.pv_ast.specs.Rules.Scoping.{Visible, variable_named, is_inner_local}
use Rattle.pv_ast.specs.Rules.Items as items
use Rattle.pv_ast.specs.Rules.Typing as typing
use Rattle.pv_ast.specs.Rules.Expressions as parts
use Rattle.pv_ast.specs.Rules.Expressions.{with_bound, under_quantifier, Environment, CheckedExpression, typing_in, seen_of_name, type_of_field, type_of_param, is_array_length, is_length, holder_of, typing_of_field_in, lacks_field, need_of_target, members_of, value_seen, args_meet, faults_of_args, seen_of_target, class_of_typing, class_lacks, lacks_role, Signature, predicate_signature, signature_of_predicate, is_unknown, is_wrong_count, param_types, typing_of_use, types_of}
use Rattle.pv_picks.specs.Plain.Core.{Expression, Formula, Items, Item}
use Rattle.pv_picks.specs.Plain.Core as core
use Rattle.pv_picks.specs.Elaborating.Operations.{operation}
use Rattle.pv_picks.specs.Elaborating.Names.{settled, class_at, elements_of, named}
use Rattle.pv_picks.specs.Elaborating.Expressions.{ElaboratedExpression, ElaboratedKind, ElaboratedEach, Layer, elaborated_in_kind, elaborated_in_each, elaborated_expression, conjunct, alone, object_of, class_of_object, arguments_of, part_option, form_for, joined, implied, is_fact, is_pure, item_in_kind, type_of_elaborated, units_of}
use Rattle.core_trees.specs.Resolved.{InScope, Resolved, AllResolved, ResolvedUse, ResolvedFormula, ResolvedItems, ResolvedItem, field_type, has_role, predicate_arity}
use Rattle.core_trees.proofs.Clean.{Clean, unless_holds, if_fails}
use Rattle.core_trees.proofs.Layers.{LayerStep, piece_induction}
use Rattle.core_trees.proofs.Mirrors.{class_has}
use Rattle.core_trees.proofs.Sound.{Sound, SeenKept, IsDeclared, declared_class, IsObject, sound_with, variable_declared, meets_need, typed_seen, operator_seen, old_seen, element_seen, object_kept, holder_is, field_found}
use Rattle.core_trees.proofs.Keeping.{PlaceTyped, operation_kept, operation_no_place, negation_kept, negation_no_place, cuts_kept, term_kept, permission_kept, shifted_kept, formula_if, item_if, items_if, together_kept}
use Rattle.core_trees.proofs.Heads.{left_locals, right_locals, quantified_locals}
use Rattle.core_trees.proofs.Knowing.{Knows, knows_declared}
use Rattle.core_trees.proofs.Induction.{all_with}

-- what a part gives where it stands is resolved, whatever conjunct it stands in
pub record Kept (tree : core.Program) (names : List Name) (a : Environment) (s : Seen) (e : Expression)
    (formula_at : Option Span → Formula) (items_at : Name → Option Span → Items)
    (item_at : Name → Option Span → Item) : Type 0 where
  pub seen : SeenKept a s
  pub expression : Resolved tree names e
  pub place : PlaceTyped tree (settled s.typing) e
  pub formula : (environment : Option Span) → ResolvedFormula tree names (formula_at environment)
  pub items : (name : Name) (environment : Option Span) → ResolvedItems tree names (items_at name environment)
  pub item : (name : Name) (environment : Option Span) → ResolvedItem tree names (item_at name environment)

-- an expression that is a fact as a formula and as an item
plain : (tree : core.Program) (names : List Name) (a : Environment) (s : Seen) (e : Expression) (span : Span) → SeenKept a s
    → Resolved tree names e → PlaceTyped tree (settled s.typing) e
    → Kept tree names a s e (λ environment. core.Fact e (conjunct environment span))
    (λ name environment. alone (core.Repeated e (conjunct environment span)))
    (λ name environment. core.Repeated e (conjunct environment span))
plain tree names a s e span seen h place =
    record {
      seen = seen;
      expression = h;
      place = place;
      formula = λ environment. h;
      items = λ name environment. (h, tt);
      item = λ name environment. h;
    }

-- The laws of a kind, of a quantifier and of an expression

abbrev pub KindLaw : ElaboratedKind → Type 0
KindLaw k = (tree : core.Program) (names : List Name) (a : Environment) (v : Visible) (span : Span) (c : Context) → Sound tree a v
    → Knows c.locals v names → Clean (k.checked.faults span a v c)
    → Kept tree names a (k.checked.seen a v) (k.expression span a v) (λ environment. k.formula span environment a v)
    (λ name environment. k.items span name environment a v) (λ name environment. k.item span name environment a v)

abbrev pub EachLaw : ElaboratedEach → Type 0
EachLaw q = (tree : core.Program) (names : List Name) (a : Environment) (v : Visible) (span : Span) (c : Context) → Sound tree a v
    → Knows c.locals v names → Clean (q.checked.faults span a v c)
    → SeenKept a (q.checked.seen a v) × ((environment : Span) → ResolvedFormula tree names (q.formula environment a v))

abbrev pub ElaboratedKept : core.Program → List Name → Environment → Visible → ElaboratedExpression → Type 0
ElaboratedKept tree names a v p =
    Kept tree names a (p.checked.seen a v) (p.expression a v) (λ environment. p.formula environment a v)
    (λ name environment. p.items name environment a v) (λ name environment. p.item name environment a v)

abbrev pub ExprLaw : ElaboratedExpression → Type 0
ExprLaw p = (tree : core.Program) (names : List Name) (a : Environment) (v : Visible) (c : Context) (need : Need) → Sound tree a v
    → Knows c.locals v names → Clean (p.checked.faults a v c need) → (typing.meets need (typing_in p.checked a v) ≡ true)
    × ElaboratedKept tree names a v p

abbrev LayerLaw : Layer → Type 0
LayerLaw l = KindLaw (elaborated_in_kind l)

-- Words, and other leaves

int_seen : (a : Environment) → SeenKept a (value_seen (Typed Int) false)
int_seen a = record { settled = λ i. cc; this = λ i. absurd cc; declared = refl }

truth_seen : (a : Environment) → SeenKept a (value_seen (Typed Truth) false)
truth_seen a = record { settled = λ i. cc; this = λ i. absurd cc; declared = refl }

null_seen : (a : Environment) → SeenKept a (value_seen (Typed Null) false)
null_seen a = record { settled = λ i. cc; this = λ i. absurd cc; declared = refl }

this_seen : (tree : core.Program) (a : Environment) (v : Visible) → Sound tree a v
    → SeenKept a (record { typing = Typed (Object a.class); this = true; location = false; local = false })
this_seen tree a v sound = record { settled = λ i. cc; this = λ i. refl; declared = sound.own }

result_seen : (a : Environment) (o : Option PvType) → ((type : PvType) → o ≡ Some type → is_declared_type a.program.classes type
    ≡ true) → SeenKept a (value_seen (typing.typing_or Untyped o) false)
result_seen a None h = record { settled = λ i. cc; this = λ i. absurd cc; declared = tt }
result_seen a (Some type) h =
    record { settled = λ i. cc; this = λ i. absurd cc; declared = declared_class a.program.classes type (h type refl) }

-- Names

-- a field of a class, which it declares with this type
field_is : (tree : core.Program) (a : Environment) (v : Visible) (class field : Name) (type : PvType) → Sound tree a v
    → type_of_field (class_named a.program.classes class) field ≡ Some type → field_type tree class field ≡ Some type
field_is tree a v class field type sound h = sound.mirrors.fields class field ∙ h

is_some_at : {A : Type 0} (o : Option A) (x : A) → o ≡ Some x → is_some o ≡ true
is_some_at o x h = ap is_some h

own_field : (tree : core.Program) (names : List Name) (a : Environment) (v : Visible) (span : Span) (name : Name)
    (o : Option PvType)
    → type_of_field a.here name ≡ o → Sound tree a v → is_some o ≡ true
    → Kept tree names a (record { typing = typing.typing_or Unsettled o; this = false; location = true; local = false })
    (core.Field core.This a.class name span)
    (λ environment. core.Fact (core.Field core.This a.class name span) (conjunct environment span))
    (λ n environment. alone (core.Repeated (core.Field core.This a.class name span) (conjunct environment span)))
    (λ n environment. core.Repeated (core.Field core.This a.class name span) (conjunct environment span))
own_field tree names a v span name None h sound known = absurd cc
own_field tree names a v span name (Some type) h sound known =
    let here : type_of_field (class_named a.program.classes a.class) name ≡ Some type =
    ap (λ c. type_of_field c name) (sym sound.here) ∙ h in
    let declared : field_type tree a.class name ≡ Some type = field_is tree a v a.class name type sound here in
    plain tree names a _ _ span (record {
      settled = λ i. cc;
      this = λ i. absurd cc;
      declared = declared_class a.program.classes type (sound.fields a.class name type here);
    })
    (tt, is_some_at _ type declared) declared

name_kept : (tree : core.Program) (names : List Name) (a : Environment) (v : Visible) (span : Span) (name : Name)
    (o : Option Declared)
    → variable_named v name ≡ o → Sound tree a v → (is_some o ≡ true → InScope names name)
    → (is_some o || is_some (type_of_field a.here name)) ≡ true
    → Kept tree names a (seen_of_name a name o) (named a span name o)
    (λ environment. core.Fact (named a span name o) (conjunct environment span))
    (λ n environment. alone (core.Repeated (named a span name o) (conjunct environment span)))
    (λ n environment. core.Repeated (named a span name o) (conjunct environment span))
name_kept tree names a v span name None h sound here known =
    own_field tree names a v span name (type_of_field a.here name) refl sound known
name_kept tree names a v span name (Some d) h sound here known =
    plain tree names a _ _ span (record {
      settled = λ i. cc;
      this = λ i. absurd cc;
      declared = declared_class a.program.classes d.kind (variable_declared tree a v name d sound h);
    }) (here refl) tt

-- Fields and lengths

pub object_if : (length : Bool) (t : Typing) → typing.meets (if length then AnObjectOrArray else AnObject) t ≡ true
    → (typing.meets AnArray t && length) ≡ false → typing.meets AnObject t ≡ true
object_if false t h k = h
object_if true (Typed (Object class)) h k = refl
object_if true (Typed IntArray) h k = absurd cc
object_if true (Typed TruthArray) h k = absurd cc
object_if true (Typed Int) h k = absurd cc
object_if true (Typed Truth) h k = absurd cc
object_if true (Typed Null) h k = absurd cc
object_if true Unsettled h k = absurd cc
object_if true Untyped h k = absurd cc

-- a field of an object: its declared type, in the class of the object
pub record FieldKept (tree : core.Program) (a : Environment) (s : Seen) (name : Name) : Type 0 where
  pub type : PvType
  pub typed : typing_of_field_in (holder_of a s) name ≡ Typed type
  pub field : field_type tree (class_at s.typing) name ≡ Some type
  pub declared : is_declared_type a.program.classes type ≡ true

field_kept : (tree : core.Program) (a : Environment) (v : Visible) (s : Seen) (name : Name) → Sound tree a v → IsObject a s
    → lacks_field (holder_of a s) name ≡ false → FieldKept tree a s name
field_kept tree a v s name sound o lacks =
    let members = members_of (class_named a.program.classes o.class) in
    let found = field_found (field_named members name) (ap (λ h. lacks_field h name) (sym (holder_is a s o)) ∙ lacks) in
    record {
      type = found.0;
      typed = ap (λ h. typing_of_field_in h name) (holder_is a s o) ∙ ap (typing.typing_or Unsettled) found.1;
      field =
          ap (λ (t : Typing). field_type tree (class_at t) name) o.typed ∙ field_is tree a v o.class name found.0 sound found.1;
      declared = sound.fields o.class name found.0 found.1;
    }

member_by : (tree : core.Program) (names : List Name) (a : Environment) (s : Seen) (span : Span) (name : Name) (e : Expression)
    (length : Bool) → Resolved tree names e → (length ≡ false → FieldKept tree a s name)
    → (let x : Expression = if length then core.Length (elements_of s.typing) e span else core.Field e
    (class_at s.typing) name span in
    Kept tree names a (record {
      typing = if length then Typed Int else typing_of_field_in (holder_of a s) name;
      this = false;
      location = not length;
      local = s.local;
    }) x
    (λ environment. core.Fact x (conjunct environment span))
    (λ n environment. alone (core.Repeated x (conjunct environment span)))
    (λ n environment. core.Repeated x (conjunct environment span)))
member_by tree names a s span name e true h f =
    plain tree names a _ _ span (record { settled = λ i. cc; this = λ i. absurd cc; declared = refl }) h tt
member_by tree names a s span name e false h f =
    let k = f refl in
    plain tree names a _ _ span
    (record {
      settled = λ i. let j : Typed k.type ≡ Unsettled = sym k.typed ∙ i in cc j;
      this = λ i. absurd cc;
      declared = subst (λ (t : Typing). IsDeclared a.program.classes t) (sym k.typed)
          (declared_class a.program.classes k.type k.declared);
    })
    (h, is_some_at _ k.type k.field)
    (k.field ∙ ap (λ (t : Typing). Some (settled t)) (sym k.typed))

-- Threads and locks

not_false : (b : Bool) → not b ≡ false → b ≡ true
not_false true h = refl
not_false false h = absurd cc

role_has : (has : Class → Bool) (o : Option Class) → is_some o ≡ true → class_lacks has o ≡ false → class_has has o ≡ true
role_has has None h k = absurd cc
role_has has (Some c) h k = not_false (has c) k

pub role_kept : (tree : core.Program) (a : Environment) (v : Visible) (s : Seen) (t : Token) → Sound tree a v → IsObject a s
    → lacks_role (parts.has_role t) a s ≡ false → has_role tree t (class_at s.typing) ≡ true
role_kept tree a v s t sound o lacks =
    ap (λ (type : Typing). has_role tree t (class_at type)) o.typed
    ∙ sound.mirrors.roles t o.class
    ∙ role_has (parts.has_role t) (class_named a.program.classes o.class) o.declared
    (ap (class_lacks (parts.has_role t)) (sym (ap (class_of_typing a s.this) o.typed ∙ o.found)) ∙ lacks)

token_item : (tree : core.Program) (names : List Name) (t : Token) (p : ElaboratedExpression) (a : Environment) (v : Visible)
    (span : Span)
    (name : Name) (environment : Option Span) → Resolved tree names (p.expression a v)
    → has_role tree t (class_at (typing_in p.checked a v)) ≡ true
    → ResolvedItem tree names (item_in_kind (ExprKind-F.Token t p) span name environment a v)
token_item tree names token.Idle p a v span name environment h k = tt
token_item tree names token.Running p a v span name environment h k = tt
token_item tree names token.Committed p a v span name environment h k = (h, k)
token_item tree names token.Uncommitted p a v span name environment h k = tt

token_kept : (t : Token) (p : ElaboratedExpression) → ExprLaw p → LayerLaw (ExprKind-F.Token t p)
token_kept t p law = λ tree names a v span c sound known clean.
    let k = law tree names a v c AnObject sound known clean.1.0 in
    let role : has_role tree t (class_at (typing_in p.checked a v)) ≡ true =
    role_kept tree a v (p.checked.seen a v) t sound (object_kept tree a v (p.checked.seen a v) sound k.1.seen k.0)
    (if_fails (lacks_role (parts.has_role t) a (p.checked.seen a v)) rule.NoRole p.checked.span clean.1.1) in
    let item : (name : Name) (environment : Option Span) → ResolvedItem tree names (item_in_kind
    (ExprKind-F.Token t p) span name environment a v) = λ name environment.
    token_item tree names t p a v span name environment k.1.expression role in
    record {
      seen = typed_seen a (typing.meets AnObject (typing_in p.checked a v)) Truth (p.checked.seen a v).local k.0 refl;
      expression = tt;
      place = tt;
      formula = λ environment. (k.1.expression, role);
      items = λ name environment. (item name environment, tt);
      item = item;
    }

-- Permissions

permission_law : (p : ElaboratedExpression) (checked whole : ℕ) (amount : Span) → ExprLaw p
    → LayerLaw (ExprKind-F.Perm p checked whole amount)
permission_law p checked whole amount law = λ tree names a v span c sound known clean.
    let k = law tree names a v c Anything sound known clean.1.1.0 in
    let item : (name : Name) (environment : Option Span) → ResolvedItem tree names (item_in_kind
    (ExprKind-F.Perm p checked whole amount) span name environment a v) =
    λ name environment. shifted_kept tree names (form_for name p) (units_of checked whole) (conjunct environment span)
    (p.expression a v) k.1.expression in
    record {
      seen = typed_seen a (typing.is_typed (typing_in p.checked a v)) Truth (p.checked.seen a v).local k.0 refl;
      expression = tt;
      place = tt;
      formula =
          λ environment. permission_kept tree names (type_of_elaborated p a v) (units_of checked whole)
          (conjunct environment span)
          (p.expression a v) k.1.expression k.1.place;
      items = λ name environment. (item name environment, tt);
      item = item;
    }

-- Operators

joined_kept : (tree : core.Program) (names : List Name) (o : Operator) (x y : ElaboratedExpression) (a : Environment)
    (v : Visible) (span : Span)
    (environment : Option Span) → ElaboratedKept tree names a v x → ElaboratedKept tree names a v y
    → ResolvedFormula tree names (joined o environment span x y a v)
joined_kept tree names op.And x y a v span environment h k = (h.formula environment, k.formula environment)
joined_kept tree names op.Star x y a v span environment h k = (h.formula environment, k.formula environment)
joined_kept tree names op.Implies x y a v span environment h k = (h.expression, k.formula (Some (conjunct environment span)))
joined_kept tree names op.Add x y a v span environment h k = tt
joined_kept tree names op.Sub x y a v span environment h k = tt
joined_kept tree names op.Mul x y a v span environment h k = tt
joined_kept tree names op.Eq x y a v span environment h k = tt
joined_kept tree names op.Ne x y a v span environment h k = tt
joined_kept tree names op.Lt x y a v span environment h k = tt
joined_kept tree names op.Le x y a v span environment h k = tt
joined_kept tree names op.Gt x y a v span environment h k = tt
joined_kept tree names op.Ge x y a v span environment h k = tt
joined_kept tree names op.Or x y a v span environment h k = tt

implied_kept : (tree : core.Program) (names : List Name) (x y : ElaboratedExpression) (a : Environment) (v : Visible)
    (span : Span) (name : Name)
    → ElaboratedKept tree names a v x → ElaboratedKept tree names a v y → ResolvedItem tree names (implied name span x y a v)
implied_kept tree names x y a v span name h k =
    item_if tree names (items.is_fixing (form_for name x)) _ _
    (term_kept tree names (x.expression a v) h.expression, k.formula (Some span))
    (item_if tree names (items.is_guard (form_for name x)) _ _
    (cuts_kept tree names name (x.expression a v) h.expression, k.item name (Some span)) (h.expression, k.expression))

operator_item : (tree : core.Program) (names : List Name) (o : Operator) (x y : ElaboratedExpression) (a : Environment)
    (v : Visible) (span : Span)
    (name : Name) (environment : Option Span) → ElaboratedKept tree names a v x → ElaboratedKept tree names a v y
    → ResolvedItem tree names (item_in_kind (ExprKind-F.Binary o x y) span name environment a v)
operator_item tree names op.Implies x y a v span name environment h k =
    implied_kept tree names x y a v (conjunct environment span) name h k
operator_item tree names op.Add x y a v span name environment h k =
    operation_kept tree names op.Add span (x.expression a v) (y.expression a v) h.expression k.expression
operator_item tree names op.Sub x y a v span name environment h k =
    operation_kept tree names op.Sub span (x.expression a v) (y.expression a v) h.expression k.expression
operator_item tree names op.Mul x y a v span name environment h k =
    operation_kept tree names op.Mul span (x.expression a v) (y.expression a v) h.expression k.expression
operator_item tree names op.Eq x y a v span name environment h k =
    operation_kept tree names op.Eq span (x.expression a v) (y.expression a v) h.expression k.expression
operator_item tree names op.Ne x y a v span name environment h k =
    operation_kept tree names op.Ne span (x.expression a v) (y.expression a v) h.expression k.expression
operator_item tree names op.Lt x y a v span name environment h k =
    operation_kept tree names op.Lt span (x.expression a v) (y.expression a v) h.expression k.expression
operator_item tree names op.Le x y a v span name environment h k =
    operation_kept tree names op.Le span (x.expression a v) (y.expression a v) h.expression k.expression
operator_item tree names op.Gt x y a v span name environment h k =
    operation_kept tree names op.Gt span (x.expression a v) (y.expression a v) h.expression k.expression
operator_item tree names op.Ge x y a v span name environment h k =
    operation_kept tree names op.Ge span (x.expression a v) (y.expression a v) h.expression k.expression
operator_item tree names op.And x y a v span name environment h k =
    operation_kept tree names op.And span (x.expression a v) (y.expression a v) h.expression k.expression
operator_item tree names op.Or x y a v span name environment h k =
    operation_kept tree names op.Or span (x.expression a v) (y.expression a v) h.expression k.expression
operator_item tree names op.Star x y a v span name environment h k =
    operation_kept tree names op.Star span (x.expression a v) (y.expression a v) h.expression k.expression

operator_law : (o : Operator) (x y : ElaboratedExpression) → ExprLaw x → ExprLaw y → LayerLaw (ExprKind-F.Binary o x y)
operator_law o x y law_x law_y = λ tree names a v span c sound known clean.
    let h =
    law_x tree names a v (typing.under_left o c) (typing.need_of_operator o) sound
    (subst (λ (l : Bool). Knows l v names) (sym (left_locals o c)) known) clean.0 in
    let k =
    law_y tree names a v (typing.under_right o c) (typing.need_of_operator o) sound
    (subst (λ (l : Bool). Knows l v names) (sym (right_locals o c)) known) clean.1 in
    let made : Resolved tree names (operation o span (x.expression a v) (y.expression a v)) =
    operation_kept tree names o span (x.expression a v) (y.expression a v) h.1.expression k.1.expression in
    record {
      seen =
          operator_seen a o (typing_in x.checked a v) (typing_in y.checked a v)
          ((x.checked.seen a v).local || (y.checked.seen a v).local) h.0 k.0;
      expression = made;
      place = operation_no_place tree _ o span (x.expression a v) (y.expression a v);
      formula =
          λ environment. formula_if tree names (is_fact environment o (is_pure (ExprKind-F.Binary o x y))) _ _ made
          (joined_kept tree names o x y a v span environment h.1 k.1);
      items = λ name environment.
          items_if tree names (items.keeps_left o) _ _ (together_kept tree names (x.items name environment a v)
          (y.items name environment a v) (h.1.items name environment) (k.1.items name environment))
          (operator_item tree names o x y a v span name environment h.1 k.1, tt);
      item = λ name environment. operator_item tree names o x y a v span name environment h.1 k.1;
    }

-- Instances

pub args_kept : (tree : core.Program) (names : List Name) (a : Environment) (v : Visible) (c : Context)
    (ps : List ElaboratedExpression)
    (types : List PvType) → AllByRecursion ExprLaw ps → Sound tree a v → Knows c.locals v names
    → Clean (faults_of_args (map (λ p. p.checked) ps) types a v c)
    → (args_meet (map (λ p. p.checked) ps) types a v ≡ true) × AllResolved tree names (arguments_of ps a v)
args_kept tree names a v c [] types laws sound known clean = (refl, tt)
args_kept tree names a v c (p ∷ ps) [] laws sound known clean =
    let k = laws.0 tree names a v c Anything sound known clean.0 in
    let rest = args_kept tree names a v c ps [] laws.1 sound known clean.1 in
    (and_from _ _ k.0 rest.0, (k.1.expression, rest.1))
args_kept tree names a v c (p ∷ ps) (type ∷ types) laws sound known clean =
    let k = laws.0 tree names a v c (Exactly type) sound known clean.0 in
    let rest = args_kept tree names a v c ps types laws.1 sound known clean.1 in
    (and_from _ _ k.0 rest.0, (k.1.expression, rest.1))

-- how many arguments are used, of how many
pub use_length : (ps : List ElaboratedExpression) (params : List Param) (a : Environment) (v : Visible)
    → not (nat_eq (length (map (λ p. p.checked) ps)) (length (types_of params))) ≡ false → length params
    ≡ length (arguments_of ps a v)
use_length ps params a v h =
    sym (length-map params (λ p. p.kind.kind))
    ∙ sym (eqb-true (length (map (λ (p : ElaboratedExpression). p.checked) ps)) (length (types_of params)) (not_false _ h))
    ∙ length-map ps (λ p. p.checked) ∙ sym (length-map ps (λ p. p.expression a v))

-- a declared predicate with its parameters
known_predicate : (w : Word) (args : List CheckedExpression) (a : Environment) (v : Visible) (c : Context) (o : Option Predicate)
    (signature : Signature) → signature ≡ signature_of_predicate o → Clean (parts.faults_of_use w args signature a v c)
    → (q : Predicate) × (o ≡ Some q) × (signature ≡ parts.taking (types_of q.params))
known_predicate w args a v c None signature h clean =
    absurd (subst (λ (s : Signature). Clean (parts.faults_of_use w args s a v c)) h clean).0
known_predicate w args a v c (Some q) signature h clean = (q, refl, h)

-- what is used and with which type
pub record UseKept (tree : core.Program) (names : List Name) (a : Environment) (v : Visible) (ps : List ElaboratedExpression)
    (signature : Signature)
    (arity : Option ℕ) : Type 0 where
  pub typed : (local : Bool) → SeenKept a (value_seen (typing_of_use (map (λ p. p.checked) ps) signature a v) local)
  pub args : AllResolved tree names (arguments_of ps a v)
  pub count : arity ≡ Some (length (arguments_of ps a v))

predicate_kept : (tree : core.Program) (names : List Name) (a : Environment) (v : Visible) (c : Context) (s : Seen) (w : Word)
    (ps : List ElaboratedExpression) → AllByRecursion ExprLaw ps → Sound tree a v → Knows c.locals v names → IsObject a s
    → Clean (parts.faults_of_predicate_use s w (map (λ p. p.checked) ps) a v c)
    → UseKept tree names a v ps (predicate_signature (holder_of a s) w.name) (predicate_arity tree (class_at s.typing) w.name)
predicate_kept tree names a v c s w ps laws sound known o clean =
    let members = members_of (class_named a.program.classes o.class) in
    let signature = predicate_signature (holder_of a s) w.name in
    let found =
    known_predicate w (map (λ p. p.checked) ps) a v c (predicate_named members w.name) signature
    (ap (λ h. predicate_signature h w.name) (holder_is a s o)) clean in
    let taken : Clean (parts.faults_of_use w (map (λ p. p.checked) ps) (parts.taking (types_of found.0.params)) a v c) =
    subst (λ (x : Signature). Clean (parts.faults_of_use w (map (λ p. p.checked) ps) x a v c)) found.2 clean in
    let args = args_kept tree names a v c ps (types_of found.0.params) laws sound known taken.1.0 in
    record {
      typed =
          λ local. subst (λ (x : Signature). SeenKept a (value_seen (typing_of_use (map (λ p. p.checked) ps) x a v) local))
          (sym found.2) (typed_seen a (args_meet (map (λ p. p.checked) ps) (types_of found.0.params) a v) Truth local args.0
          refl);
      args = args.1;
      count =
          ap (λ (t : Typing). predicate_arity tree (class_at t) w.name) o.typed ∙ sound.mirrors.predicates o.class w.name
          ∙ ap (λ (x : Option Predicate). option_map (λ q. length q.params) x) found.1
          ∙ ap (λ (n : ℕ). Some n) (use_length ps found.0.params a v (if_fails _ rule.WrongCount w.span taken.1.1));
    }

-- what stands before a name: nothing, or an expression with its law
abbrev pub TargetLaw : Option ElaboratedExpression → Type 0
TargetLaw None = Unit {0}
TargetLaw (Some p) = ExprLaw p

-- what stands before the name of a method or predicate is a resolved object
pub target_object : (tree : core.Program) (names : List Name) (a : Environment) (v : Visible) (c : Context)
    (o : Option ElaboratedExpression)
    → TargetLaw o → Sound tree a v → Knows c.locals v names → Clean (parts.faults_of_target a v c (part_option o))
    → IsObject a (seen_of_target a v (part_option o)) × Resolved tree names (object_of o a v)
target_object tree names a v c None law sound known clean = (object_kept tree a v _ sound (this_seen tree a v sound) refl, tt)
target_object tree names a v c (Some p) law sound known clean =
    let k = law tree names a v c AnObject sound known clean in
    (object_kept tree a v (p.checked.seen a v) sound k.1.seen k.0, k.1.expression)

instance_made : (tree : core.Program) (names : List Name) (a : Environment) (v : Visible) (c : Context)
    (o : Option ElaboratedExpression) (w : Word)
    (ps : List ElaboratedExpression) → TargetLaw o → AllByRecursion ExprLaw ps → Sound tree a v → Knows c.locals v names
    → Clean (parts.faults_of_instance (part_option o) w (map (λ p. p.checked) ps) a v c)
    → UseKept tree names a v ps (predicate_signature (holder_of a (seen_of_target a v (part_option o))) w.name)
    (predicate_arity tree (class_of_object o a v) w.name) × Resolved tree names (object_of o a v)
instance_made tree names a v c o w ps law laws sound known clean =
    let t = target_object tree names a v c o law sound known clean.0 in
    (predicate_kept tree names a v c (seen_of_target a v (part_option o)) w ps laws sound known t.0 clean.1, t.1)

-- a use of a predicate
pub instance_kept : (tree : core.Program) (names : List Name) (a : Environment) (v : Visible) (c : Context)
    (o : Option ElaboratedExpression)
    (w : Word) (ps : List ElaboratedExpression) → TargetLaw o → AllByRecursion ExprLaw ps → Sound tree a v
    → Knows c.locals v names
    → Clean (parts.faults_of_instance (part_option o) w (map (λ p. p.checked) ps) a v c)
    → ResolvedUse tree names (predicate_arity tree (class_of_object o a v) w.name) (object_of o a v) (arguments_of ps a v)
instance_kept tree names a v c o w ps law laws sound known clean =
    let k = instance_made tree names a v c o w ps law laws sound known clean in
    (k.1, k.0.args, k.0.count)

instance_law : (o : Option ElaboratedExpression) (w : Word) (ps : List ElaboratedExpression) → TargetLaw o
    → AllByRecursion ExprLaw ps
    → LayerLaw (ExprKind-F.Instance o w ps)
instance_law None w ps law laws = λ tree names a v span c sound known clean.
    let k = instance_made tree names a v (typing.purely c) None w ps law laws sound known clean.1 in
    record {
      seen = k.0.typed _;
      expression = tt;
      place = tt;
      formula = λ environment. (k.1, k.0.args, k.0.count);
      items = λ name environment. (tt, tt);
      item = λ name environment. tt;
    }
instance_law (Some p) w ps law laws = λ tree names a v span c sound known clean.
    let k = instance_made tree names a v (typing.purely c) (Some p) w ps law laws sound known clean.1 in
    record {
      seen = k.0.typed _;
      expression = tt;
      place = tt;
      formula = λ environment. (k.1, k.0.args, k.0.count);
      items = λ name environment. (tt, tt);
      item = λ name environment. tt;
    }

-- The induction

layer_law : LayerStep KindLaw EachLaw ExprLaw
layer_law (ExprKind-F.Number n) = λ tree names a v span c sound known clean. plain tree names a _ _ span (int_seen a) tt tt
layer_law (ExprKind-F.Truth b) = λ tree names a v span c sound known clean. plain tree names a _ _ span (truth_seen a) tt tt
layer_law ExprKind-F.Null = λ tree names a v span c sound known clean. plain tree names a _ _ span (null_seen a) tt tt
layer_law ExprKind-F.This =
    λ tree names a v span c sound known clean. plain tree names a _ _ span (this_seen tree a v sound) tt tt
layer_law ExprKind-F.Result =
    λ tree names a v span c sound known clean. plain tree names a _ _ span (result_seen a a.result sound.result) tt tt
layer_law (ExprKind-F.Var w) = λ tree names a v span c sound known clean.
    name_kept tree names a v span w.name (variable_named v w.name) refl sound
    (λ i. known w.name i (if_fails (not c.locals && is_inner_local v w.name) rule.FormulaScope w.span clean.1))
    (unless_holds (is_some (variable_named v w.name) || is_some (type_of_field a.here w.name)) rule.UnknownName w.span clean.0)
layer_law (ExprKind-F.Field e w) = λ tree names a v span c sound known clean.
    let p : ElaboratedExpression = elaborated_expression e.0 in
    let k = e.1 tree names a v c (need_of_target a w.name) sound known clean.0 in
    let s : Seen = p.checked.seen a v in
    member_by tree names a s span w.name (p.expression a v) (is_array_length a w.name s.typing) k.1.expression
    (λ h. field_kept tree a v s w.name sound (object_kept tree a v s sound k.1.seen
    (object_if (is_length a w.name) s.typing k.0 h)) (if_fails (lacks_field (holder_of a s) w.name) rule.UnknownName w.span
    clean.1))
layer_law (ExprKind-F.Index e i) = λ tree names a v span c sound known clean.
    let h = e.1 tree names a v c AnArray sound known clean.0 in
    let k = i.1 tree names a v c (Exactly Int) sound known clean.1 in
    plain tree names a _ _ span (element_seen a (typing_in (elaborated_expression e.0).checked a v)
    (typing_in (elaborated_expression i.0).checked a v) _ h.0 k.0)
    (h.1.expression, k.1.expression) tt
layer_law (ExprKind-F.Not e) = λ tree names a v span c sound known clean.
    let h = e.1 tree names a v (typing.purely c) (Exactly Truth) sound known clean in
    plain tree names a _ _ span (typed_seen a (typing.meets (Exactly Truth) (typing_in (elaborated_expression e.0).checked a v))
    Truth _ h.0 refl)
    h.1.expression tt
layer_law (ExprKind-F.Minus e) = λ tree names a v span c sound known clean.
    let h = e.1 tree names a v c (Exactly Int) sound known clean in
    plain tree names a _ _ span (typed_seen a (typing.meets (Exactly Int) (typing_in (elaborated_expression e.0).checked a v)) Int
    _ h.0 refl)
    (negation_kept tree names (elaborated_expression e.0).written span ((elaborated_expression e.0).expression a v)
    h.1.expression)
    (negation_no_place tree _ (elaborated_expression e.0).written span ((elaborated_expression e.0).expression a v))
layer_law (ExprKind-F.Binary o x y) = operator_law o (elaborated_expression x.0) (elaborated_expression y.0) x.1 y.1
layer_law (ExprKind-F.Old e) = λ tree names a v span c sound known clean.
    let h = e.1 tree names a v (typing.purely c) Anything sound known clean.0 in
    plain tree names a _ _ span (old_seen a (typing_in (elaborated_expression e.0).checked a v) _ h.0 h.1.seen.declared)
    h.1.expression tt
layer_law (ExprKind-F.Perm e checked whole amount) = permission_law (elaborated_expression e.0) checked whole amount e.1
layer_law (ExprKind-F.Token t e) = token_kept t (elaborated_expression e.0) e.1
layer_law (ExprKind-F.Instance None w es) =
    instance_law None w (map elaborated_expression (map (λ e. e.0) es)) tt (all_with elaborated_expression ExprLaw es)
layer_law (ExprKind-F.Instance (Some e) w es) =
    instance_law (Some (elaborated_expression e.0)) w (map elaborated_expression (map (λ e. e.0) es)) e.1
    (all_with elaborated_expression ExprLaw es)
layer_law (ExprKind-F.Each q) = λ tree names a v span c sound known clean.
    let k = q.1 tree names a v span c sound known clean in
    record {
      seen = k.0;
      expression = tt;
      place = tt;
      formula = λ environment. k.1 (conjunct environment span);
      items = λ name environment. (tt, tt);
      item = λ name environment. tt;
    }

each_law : (star : Bool) (w : Word) (low high body : ElaboratedExpression) (written : Option (Word × Word)) → ExprLaw low
    → ExprLaw high
    → ExprLaw body → EachLaw (elaborated_in_each
    (record { star = star; name = w; low = low; high = high; body = body; written = written }))
each_law star w low high body written law_low law_high law_body = λ tree names a v span c sound known clean.
    let inner : Visible = with_bound v w in
    let l = law_low tree names a v c (Exactly Int) sound known clean.1.1.0 in
    let h = law_high tree names a v c (Exactly Int) sound known clean.1.1.1.0 in
    let bound : Knows (under_quantifier star c).locals inner (w.name ∷ names) =
    subst (λ (l : Bool). Knows l inner (w.name ∷ names)) (sym (quantified_locals star c))
    (knows_declared c.locals v Bound w.name Int names known) in
    let b =
    law_body tree (w.name ∷ names) a inner (under_quantifier star c) (Exactly Truth)
    (sound_with tree a v Bound w.name Int refl sound) bound clean.1.1.1.1.0 in (
      typed_seen a (typing.both_meet (Exactly Int) (typing_in low.checked a v) (typing_in high.checked a v)
          && typing.meets (Exactly Truth) (typing_in body.checked a inner)) Truth _ (and_from _ _ (and_from _ _ l.0 h.0) b.0)
          refl,
      λ environment. (l.1.expression, h.1.expression, b.1.items w.name (Some environment)),
    )

-- each expression without a fault has a type that is needed, and becomes resolved
pub expression_law : (e : Expr) → ExprLaw (elaborated_expression e)
expression_law =
    piece_induction KindLaw EachLaw ExprLaw layer_law (λ y.
    each_law y.star y.name (elaborated_expression y.low.0) (elaborated_expression y.high.0) (elaborated_expression y.body.0)
    y.written y.low.1 y.high.1 y.body.1)
    (λ span k law tree names a v c need sound known clean. let h = law tree names a v span c sound known clean.0 in
    (meets_need need (k.checked.seen a v).typing span h.seen.settled clean.1, h))
