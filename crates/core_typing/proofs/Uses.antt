-- Operands of statements, calls, right sides and targets: what they become goes where its type is wanted.
use Rattle.std.proofs.Common.{◌≡◌, ℕ, zero, suc, Bool, true, false, not, Option, Some, None, option_map, unwrap_or, List, [], ◌∷◌, length, refl, sym, ◌∙◌, ap, subst, inl, inr}
use Rattle.std.proofs.lemmas.Bool.{and_from, eqb-true}
use Rattle.std.specs.Prelude.{nat_eq, if◌then◌else◌}
use Rattle.pv_base.specs.declared.Name.{Name}
use Rattle.pv_base.specs.declared.Span.{Span}
use Rattle.pv_ast.specs.declared.Word.{Word}
use Rattle.pv_ast.specs.declared.PvType.{PvType}
use Rattle.pv_ast.specs.declared.PvType.TheVariants.{Int, Truth, Object, IntArray, TruthArray, Null}
use Rattle.pv_ast.specs.declared.Expr.{Expr}
use Rattle.pv_ast.specs.declared.Class.{Class}
use Rattle.pv_ast.specs.declared.Method.{Method}
use Rattle.pv_ast.specs.declared.Predicate.{Predicate}
use Rattle.pv_ast.specs.declared.Right.{Right}
use Rattle.pv_ast.specs.declared.RightKind.{RightKind}
use Rattle.pv_ast.specs.declared.RightKind.TheVariants as right
use Rattle.pv_ast.specs.declared.fault.Rule.TheVariants as rule
use Rattle.pv_ast.specs.declared.standing.Context.{Context}
use Rattle.pv_ast.specs.declared.standing.Need.{Need}
use Rattle.pv_ast.specs.declared.standing.Need.TheVariants.{Anything, Exactly, AnObject}
use Rattle.pv_ast.specs.declared.standing.Seen.{Seen}
use Rattle.pv_ast.specs.declared.standing.Typing.{Typing}
use Rattle.pv_ast.specs.declared.standing.Typing.TheVariants.{Unsettled, Untyped, Typed}
use Rattle.pv_ast.specs.Rules.Faults.{broken_unless}
use Rattle.pv_ast.specs.Rules.Items.{Shape}
use Rattle.pv_ast.specs.Rules.Shapes.{quantifiers_in, quantifiers_in_option, quantifiers_in_all, quantifiers_in_right_kind, quantifiers_in_right_option}
use Rattle.pv_ast.specs.Rules.Lookup as rules
use Rattle.pv_ast.specs.Rules.Lookup.{class_named, is_declared_type}
use Rattle.pv_ast.specs.Rules.Scoping.{Visible}
use Rattle.pv_ast.specs.Rules.Typing as typing
use Rattle.pv_ast.specs.Rules.Expressions as parts
use Rattle.pv_ast.specs.Rules.Expressions.{Environment, CheckedExpression, Holder, among, checked_expression, typing_in, holder_of, members_of, seen_of_target, args_meet, faults_of_args, faults_of_use, method_signature, signature_of_method, predicate_signature, signature_of_predicate, method_in}
use Rattle.pv_ast.specs.Rules.Statements.{option_type, in_statement, faults_of_expression, faults_of_right_kind, faults_of_first_value, parts_of, checked_option, typing_of_call, typing_of_right_kind, typing_of_array, is_class, need_like}
use Rattle.pv_picks.specs.Plain.Core.{Expression}
use Rattle.pv_picks.specs.Plain.Core as core
use Rattle.pv_picks.specs.Plain.Members.{method_named, predicate_named}
use Rattle.pv_picks.specs.Formulas.Values.{array_of, default_of}
use Rattle.pv_picks.specs.Elaborating.Operations.{target_of}
use Rattle.pv_picks.specs.Elaborating.Names.{class_at}
use Rattle.pv_picks.specs.Elaborating.Expressions.{elaborated_expression, core_of_expression, object_of, class_of_object, arguments_of}
use Rattle.pv_picks.specs.Elaborating.Statements.{core_of_call, core_of_right_kind, core_of_target, first_value, all_elaborated}
use Rattle.core_trees.specs.Resolved.{names_of}
use Rattle.core_trees.proofs.Clean.{Clean, unless_holds, if_fails, no_first, no_second}
use Rattle.core_trees.proofs.Layers.{checked_in_elaborated, shape_in_elaborated}
use Rattle.core_trees.proofs.Knowing.{knows_all}
use Rattle.core_trees.proofs.Uses.{kept}
use Rattle.pv_picks.specs.Typing.Expressions.{Home, Speech, silent, answer_of, IsElement, Says, AllSay, IsOf, AreOf}
use Rattle.pv_picks.specs.Typing.Blocks.{types_of, TargetFits, RightFits}
use Rattle.core_typing.proofs.Types.{exact, itself, not_null, object_wanted}
use Rattle.core_typing.proofs.Scopes.{listed_known}
use Rattle.core_typing.proofs.Places.{Place, Strict, statement_strict}
use Rattle.core_trees.proofs.Purity.{purely, solid_pure}
use Rattle.core_typing.proofs.Expressions.{Fits, expression_law, class_here}

-- Expressions in strict contexts

-- a part without a fault has a type that is needed
meets_in : (e : Expr) (h : Home) (a : Environment) (v : Visible) (xs : List core.Parameter) (c : Context) (need : Need)
    → Place h a v xs → Clean ((checked_expression e).faults a v c need)
    → typing.meets need (typing_in (elaborated_expression e).checked a v) ≡ true
meets_in e h a v xs c need place clean = (kept e h.program (names_of xs) a v c need place.sound
    (knows_all c.locals v (names_of xs) (listed_known v xs place.listed)) clean).0

pub meets_need : (e : Expr) (h : Home) (a : Environment) (v : Visible) (xs : List core.Parameter) (need : Need) → Place h a v xs
    → Clean (faults_of_expression a v need e) → typing.meets need (typing_in (elaborated_expression e).checked a v) ≡ true
meets_need e h a v xs need place clean = meets_in e h a v xs in_statement need place clean

as_part : (e : Expr) (a : Environment) (v : Visible) (need : Need)
    → typing.meets need (typing_in (elaborated_expression e).checked a v) ≡ true
    → typing.meets need (typing_in (checked_expression e) a v) ≡ true
as_part e a v need m = subst (λ (p : CheckedExpression). typing.meets need (typing_in p a v) ≡ true) (checked_in_elaborated e) m

pub fits : (e : Expr) (h : Home) (speech : Speech) (a : Environment) (v : Visible) (xs : List core.Parameter) (c : Context)
    (need : Need) → Place h a v xs → Strict speech a c → Clean ((checked_expression e).faults a v c need) → quantifiers_in e ≡ []
    → Fits h speech a xs ((elaborated_expression e).checked.seen a v) (core_of_expression a v e)
fits e h speech a v xs c need place strict clean none =
    let clean_elaborated : Clean ((elaborated_expression e).checked.faults a v c need) =
    subst (λ (p : CheckedExpression). Clean (p.faults a v c need)) (sym (checked_in_elaborated e)) clean in
    expression_law e h speech a v xs c need place strict.speaks clean_elaborated
    (solid_pure e a v c need clean_elaborated (purely strict.pure
    (ap (λ (s : Shape). s.quantifiers) (shape_in_elaborated e) ∙ none)))

goes_in : (e : Expr) (h : Home) (speech : Speech) (a : Environment) (v : Visible) (xs : List core.Parameter) (c : Context)
    (type : PvType) → Place h a v xs → Strict speech a c → Clean ((checked_expression e).faults a v c (Exactly type))
    → quantifiers_in e ≡ []
    → Says h speech xs (core_of_expression a v e) type
goes_in e h speech a v xs c type place strict clean none =
    (fits e h speech a v xs c (Exactly type) place strict clean none).goes type (meets_in e h a v xs c (Exactly type) place clean)

pub goes : (e : Expr) (h : Home) (a : Environment) (v : Visible) (xs : List core.Parameter) (type : PvType) → Place h a v xs
    → Clean (faults_of_expression a v (Exactly type) e) → quantifiers_in e ≡ []
    → IsOf h xs (core_of_expression a v e) type
goes e h a v xs type place clean none = goes_in e h silent a v xs in_statement type place (statement_strict a) clean none

object_in : (e : Expr) (h : Home) (speech : Speech) (a : Environment) (v : Visible) (xs : List core.Parameter) (c : Context)
    → Place h a v xs → Strict speech a c → Clean ((checked_expression e).faults a v c AnObject) → quantifiers_in e ≡ []
    → Says h speech xs (core_of_expression a v e) (Object (class_at (typing_in (elaborated_expression e).checked a v)))
object_in e h speech a v xs c place strict clean none =
    let t : Typing = typing_in (elaborated_expression e).checked a v in
    (fits e h speech a v xs c AnObject place strict clean none).goes (Object (class_at t))
    (object_wanted t (meets_in e h a v xs c AnObject place clean))

pub object_goes : (e : Expr) (h : Home) (a : Environment) (v : Visible) (xs : List core.Parameter) → Place h a v xs
    → Clean (faults_of_expression a v AnObject e) → quantifiers_in e ≡ []
    → IsOf h xs (core_of_expression a v e) (Object (class_at (typing_in (elaborated_expression e).checked a v)))
object_goes e h a v xs place clean none = object_in e h silent a v xs in_statement place (statement_strict a) clean none

-- Objects before the name of a method or predicate

pub record ObjectAt (h : Home) (speech : Speech) (a : Environment) (v : Visible) (xs : List core.Parameter)
    (target : Option Expr) : Type 0 where
  pub class : Name
  pub holder : holder_of a (seen_of_target a v (checked_option target)) ≡ among (members_of (class_named a.program.classes class))
  pub named : class_of_object (option_map elaborated_expression target) a v ≡ class
  pub goes : Says h speech xs (object_of (option_map elaborated_expression target) a v) (Object class)

object_typing : (t : Typing) → typing.meets AnObject t ≡ true → t ≡ Typed (Object (class_at t))
object_typing (Typed (Object class)) k = refl
object_typing (Typed Int) k = absurd cc
object_typing (Typed Truth) k = absurd cc
object_typing (Typed IntArray) k = absurd cc
object_typing (Typed TruthArray) k = absurd cc
object_typing (Typed Null) k = absurd cc
object_typing Unsettled k = absurd cc
object_typing Untyped k = absurd cc

same_class : (a b : Name) → Typed (Object a) ≡ Typed (Object b) → a ≡ b
same_class a b k = cc

seen_holder : (h : Home) (a : Environment) (v : Visible) (xs : List core.Parameter) (s : Seen) → Place h a v xs
    → (s.this ≡ true → s.typing ≡ Typed (Object a.class)) → typing.meets AnObject s.typing ≡ true
    → holder_of a s ≡ among (members_of (class_named a.program.classes (class_at s.typing)))
seen_holder h a v xs s place this m =
    let typed : s.typing ≡ Typed (Object (class_at s.typing)) = object_typing s.typing m in
    ap (λ t. parts.holder_of_typing a s.this t) typed
    ∙ ap (λ c. among (members_of c)) (class_here a s.this (class_at s.typing) place.sound.here
    (λ b. same_class _ _ (sym typed ∙ this b)))

pub object_at : (target : Option Expr) (h : Home) (speech : Speech) (a : Environment) (v : Visible) (xs : List core.Parameter)
    (c : Context) → Place h a v xs → Strict speech a c → Clean (parts.faults_of_target a v c (checked_option target))
    → quantifiers_in_option target ≡ [] → ObjectAt h speech a v xs target
object_at None h speech a v xs c place strict clean none = record {
  class = a.class;
  holder = seen_holder h a v xs (seen_of_target a v None) place (λ b. refl) refl;
  named = refl;
  goes = ap Object place.class;
}
object_at (Some e) h speech a v xs c place strict clean none =
    let s : Seen = (elaborated_expression e).checked.seen a v in
    record {
      class = class_at s.typing;
      holder =
          ap (λ (p : CheckedExpression). holder_of a (p.seen a v)) (sym (checked_in_elaborated e))
          ∙ seen_holder h a v xs s place (fits e h speech a v xs c AnObject place strict clean none).this
          (meets_in e h a v xs c AnObject place clean);
      named = refl;
      goes = object_in e h speech a v xs c place strict clean none;
    }

-- Arguments

zero≢suc : {n : ℕ} → zero ≡ suc n → ⊥
zero≢suc k = cc

suc_inj : {m n : ℕ} → suc m ≡ suc n → m ≡ n
suc_inj k = cc

pub arguments_go : (es : List Expr) (types : List PvType) (h : Home) (speech : Speech) (a : Environment) (v : Visible)
    (xs : List core.Parameter) (c : Context) → Place h a v xs → Strict speech a c → length (parts_of es) ≡ length types
    → Clean (faults_of_args (parts_of es) types a v c) → quantifiers_in_all es ≡ []
    → AllSay h speech xs (arguments_of (all_elaborated es) a v) types × (args_meet (parts_of es) types a v ≡ true)
arguments_go [] [] h speech a v xs c place strict count clean none = (tt, refl)
arguments_go [] (type ∷ types) h speech a v xs c place strict count clean none = absurd (zero≢suc count)
arguments_go (e ∷ es) [] h speech a v xs c place strict count clean none = absurd (zero≢suc (sym count))
arguments_go (e ∷ es) (type ∷ types) h speech a v xs c place strict count clean none =
    let rest =
    arguments_go es types h speech a v xs c place strict (suc_inj count) clean.1
    (no_second (quantifiers_in e) (quantifiers_in_all es) none) in (
      (goes_in e h speech a v xs c type place strict clean.0 (no_first (quantifiers_in e) (quantifiers_in_all es) none), rest.0),
      and_from _ _ (as_part e a v (Exactly type) (meets_in e h a v xs c (Exactly type) place clean.0)) rest.1,
    )

same_count : (m n : ℕ) → not (nat_eq m n) ≡ false → m ≡ n
same_count m n k = eqb-true m n (not_false (nat_eq m n) k)
  where
    not_false : (b : Bool) → not b ≡ false → b ≡ true
    not_false true i = refl
    not_false false i = absurd cc

-- a use of a method: the one of the name among the members of the object's class, with arguments of its parameters' types
pub record CallFits (h : Home) (a : Environment) (v : Visible) (xs : List core.Parameter) (class : Name) (w : Word)
    (args : List Expr) : Type 0 where
  pub method : Method
  pub found : rules.method_named (members_of (class_named a.program.classes class)) w.name ≡ Some method
  pub arguments : AreOf h xs (arguments_of (all_elaborated args) a v) (parts.types_of method.params)
  pub meet : args_meet (parts_of args) (parts.types_of method.params) a v ≡ true

call_fits : (o : Option Method) (h : Home) (a : Environment) (v : Visible) (xs : List core.Parameter) (class : Name) (w : Word)
    (args : List Expr) → rules.method_named (members_of (class_named a.program.classes class)) w.name ≡ o
    → Place h a v xs → Clean (faults_of_use w (parts_of args) (signature_of_method o) a v in_statement) → quantifiers_in_all args
    ≡ [] → CallFits h a v xs class w args
call_fits None h a v xs class w args is place clean none = absurd clean.0
call_fits (Some m) h a v xs class w args is place clean none =
    let all =
    arguments_go args (parts.types_of m.params) h silent a v xs in_statement place (statement_strict a)
    (same_count _ _ (if_fails _ rule.WrongCount w.span clean.1.1)) clean.1.0 none in
    record { method = m; found = is; arguments = all.0; meet = all.1 }

pub call_at : (target : Option Expr) (w : Word) (args : List Expr) (h : Home) (a : Environment) (v : Visible)
    (xs : List core.Parameter) → (o : ObjectAt h silent a v xs target) → Place h a v xs
    → Clean (parts.faults_of_method_use (seen_of_target a v (checked_option target)) w (parts_of args) a v in_statement)
    → quantifiers_in_all args ≡ [] → CallFits h a v xs o.class w args
call_at target w args h a v xs o place clean none =
    call_fits (rules.method_named (members_of (class_named a.program.classes o.class)) w.name) h a v xs o.class w args refl place
    (subst (λ (x : Holder). Clean (faults_of_use w (parts_of args) (method_signature x w.name) a v in_statement)) o.holder clean)
    none

-- a use of a predicate: the one of the name that the object's class has, with arguments of its parameters' types
pub record InstanceFits (h : Home) (speech : Speech) (a : Environment) (v : Visible) (xs : List core.Parameter) (class : Name)
    (w : Word) (args : List Expr) : Type 0 where
  pub predicate : core.Predicate
  pub found : predicate_named h.program class w.name ≡ Some predicate
  pub arguments : AllSay h speech xs (arguments_of (all_elaborated args) a v) (types_of predicate.parameters)

instance_fits : (o : Option Predicate) (h : Home) (speech : Speech) (a : Environment) (v : Visible) (xs : List core.Parameter)
    (c : Context) (class : Name) (w : Word) (args : List Expr)
    → rules.predicate_named (members_of (class_named a.program.classes class)) w.name ≡ o → Place h a v xs → Strict speech a c
    → Clean (faults_of_use w (parts_of args) (signature_of_predicate o) a v c) → quantifiers_in_all args ≡ []
    → InstanceFits h speech a v xs class w args
instance_fits None h speech a v xs c class w args is place strict clean none = absurd clean.0
instance_fits (Some q) h speech a v xs c class w args is place strict clean none =
    let there = place.declares.predicates class w.name q is in
    record {
      predicate = there.there;
      found = there.found;
      arguments = subst (λ types. AllSay h speech xs (arguments_of (all_elaborated args) a v) types) (sym there.types)
          (arguments_go args (parts.types_of q.params) h speech a v xs c place strict
          (same_count _ _ (if_fails _ rule.WrongCount w.span clean.1.1)) clean.1.0 none).0;
    }

pub instance_at : (target : Option Expr) (w : Word) (args : List Expr) (h : Home) (speech : Speech) (a : Environment)
    (v : Visible)
    (xs : List core.Parameter) (c : Context) → (o : ObjectAt h speech a v xs target) → Place h a v xs → Strict speech a c
    → Clean (parts.faults_of_predicate_use (seen_of_target a v (checked_option target)) w (parts_of args) a v c)
    → quantifiers_in_all args ≡ []
    → InstanceFits h speech a v xs o.class w args
instance_at target w args h speech a v xs c o place strict clean none =
    instance_fits (rules.predicate_named (members_of (class_named a.program.classes o.class)) w.name) h speech a v xs c o.class w
    args refl place strict
    (subst (λ (x : Holder). Clean (faults_of_use w (parts_of args) (predicate_signature x w.name) a v c)) o.holder clean) none

-- Calls

-- a method that is called, in the plain tree
pub record CalledAt (h : Home) (a : Environment) (v : Visible) (xs : List core.Parameter) (class : Name) (w : Word)
    (args : List Expr)
    (m : Method) : Type 0 where
  pub method : core.Method
  pub found : method_named h.program class w.name ≡ Some method
  pub arguments : AreOf h xs (arguments_of (all_elaborated args) a v) (types_of method.parameters)
  pub result : method.result ≡ option_type m.result

called : (h : Home) (a : Environment) (v : Visible) (xs : List core.Parameter) (class : Name) (w : Word) (args : List Expr)
    → Place h a v xs → (c : CallFits h a v xs class w args) → CalledAt h a v xs class w args c.method
called h a v xs class w args place c =
    let m = place.declares.methods class w.name c.method c.found in
    record {
      method = m.there;
      found = m.found;
      arguments = subst (λ types. AreOf h xs (arguments_of (all_elaborated args) a v) types)
          (sym m.types) c.arguments;
      result = m.result;
    }

-- a call whose result is of no interest
pub call_goes : (target : Option Expr) (w : Word) (args : List Expr) (h : Home) (a : Environment) (v : Visible)
    (xs : List core.Parameter) → Place h a v xs
    → Clean (parts.faults_of_call (checked_option target) w (parts_of args) a v in_statement) → quantifiers_in_option target ≡ []
    → quantifiers_in_all args ≡ []
    → (type : PvType) × RightFits h xs (core_of_call a v target w args) type
call_goes target w args h a v xs place clean none none_there =
    let o = object_at target h silent a v xs in_statement place (statement_strict a) clean.0 none in
    let c = called h a v xs o.class w args place (call_at target w args h a v xs o place clean.1 none_there) in (
      answer_of c.method,
      subst (λ class. RightFits h xs
          (core.Call class w.name (object_of (option_map elaborated_expression target) a v)
          (arguments_of (all_elaborated args) a v))
          (answer_of c.method)) (sym o.named) (o.goes, (c.method, c.found, c.arguments, refl)),
    )

-- the result of a method where a type is wanted
result_goes : (o : Option PvType) (need : PvType) (span : Span) (classes : List Class)
    → ((type : PvType) → o ≡ Some type → is_declared_type classes type ≡ true)
    → Clean (typing.wrong_type (Exactly need) (typing.typing_or Untyped o) span)
    → need ≡ unwrap_or o Null
result_goes None need span classes declared clean = absurd clean
result_goes (Some type) need span classes declared clean =
    exact need type (not_null classes type (declared type refl)) (unless_holds _ rule.WrongType span clean)

typing_if : (b : Bool) (t u : Typing) → b ≡ true → (if b then t else u) ≡ t
typing_if true t u k = refl
typing_if false t u k = absurd cc

call_typing : (target : Option Expr) (w : Word) (args : List Expr) (h : Home) (a : Environment) (v : Visible)
    (xs : List core.Parameter) (o : ObjectAt h silent a v xs target) (c : CallFits h a v xs o.class w args)
    → typing_of_right_kind a v (right.Call target w args) ≡ typing.typing_or Untyped (option_type c.method.result)
call_typing target w args h a v xs o c =
    ap (λ holder. typing_of_call a v (parts_of args) (method_in holder w.name)) o.holder
    ∙ ap (typing_of_call a v (parts_of args)) c.found
    ∙ typing_if (args_meet (parts_of args) (parts.types_of c.method.params) a v) _ Unsettled c.meet

call_right : (target : Option Expr) (w : Word) (args : List Expr) (h : Home) (a : Environment) (v : Visible)
    (xs : List core.Parameter)
    (need : PvType) (span : Span) → Place h a v xs
    → Clean (parts.faults_of_call (checked_option target) w (parts_of args) a v in_statement)
    → Clean (typing.wrong_type (Exactly need) (typing_of_right_kind a v (right.Call target w args)) span)
    → quantifiers_in_option target ≡ [] → quantifiers_in_all args ≡ [] → RightFits h xs (core_of_call a v target w args) need
call_right target w args h a v xs need span place clean type none none_there =
    let o = object_at target h silent a v xs in_statement place (statement_strict a) clean.0 none in
    let fit = call_at target w args h a v xs o place clean.1 none_there in
    let c = called h a v xs o.class w args place fit in
    let wanted : need ≡ unwrap_or (option_type fit.method.result) Null =
    result_goes (option_type fit.method.result) need span a.program.classes
    (λ t. place.declares.results o.class w.name fit.method t fit.found)
    (subst (λ (t : Typing). Clean (typing.wrong_type (Exactly need) t span)) (call_typing target w args h a v xs o fit) type) in
    subst (λ class. RightFits h xs (core.Call class w.name (object_of (option_map elaborated_expression target) a v)
    (arguments_of (all_elaborated args) a v)) need) (sym o.named)
    (o.goes, (c.method, c.found, c.arguments, wanted ∙ ap (λ r. unwrap_or r Null) (sym c.result)))

-- Right sides

object_right : (b : Bool) (class : Name) (need : PvType) (span at : Span) → Clean (broken_unless b rule.UnknownName at)
    → Clean (typing.wrong_type (Exactly need) (typing.typed_if b (Object class)) span) → need ≡ Object class
object_right true class need span at known clean = exact need (Object class) refl (unless_holds _ rule.WrongType span clean)
object_right false class need span at known clean = absurd known

array_right : (type need : PvType) (span : Span) → Clean (typing.wrong_type (Exactly need) (typing_of_array type) span)
    → IsElement type × (need ≡ array_of type)
array_right Int need span clean = (inl refl, exact need IntArray refl (unless_holds _ rule.WrongType span clean))
array_right Truth need span clean = (inr refl, exact need TruthArray refl (unless_holds _ rule.WrongType span clean))
array_right (Object class) need span clean = absurd clean
array_right IntArray need span clean = absurd clean
array_right TruthArray need span clean = absurd clean
array_right Null need span clean = absurd clean

pub right_goes : (k : RightKind) (h : Home) (a : Environment) (v : Visible) (xs : List core.Parameter) (need : PvType)
    (span : Span)
    → Place h a v xs → Clean (faults_of_right_kind a v (Exactly need) span k) → quantifiers_in_right_kind k ≡ []
    → RightFits h xs (core_of_right_kind a v k) need
right_goes (right.Value e) h a v xs need span place clean none = goes e h a v xs need place clean none
right_goes (right.Call target w args) h a v xs need span place clean none =
    call_right target w args h a v xs need span place clean.0 clean.1
    (no_first (quantifiers_in_option target) (quantifiers_in_all args) none)
    (no_second (quantifiers_in_option target) (quantifiers_in_all args) none)
right_goes (right.NewObject w) h a v xs need span place clean none =
    object_right (is_class a w.name) w.name need span w.span clean.0 clean.1
right_goes (right.NewArray type e) h a v xs need span place clean none =
    let size : typing.meets (Exactly Int) (typing_in (checked_expression e) a v) ≡ true =
    as_part e a v (Exactly Int) (meets_need e h a v xs (Exactly Int) place clean.0) in
    let array =
    array_right type.kind need span (subst (λ (t : Typing). Clean (typing.wrong_type (Exactly need) t span))
    (typing_if _ (typing_of_array type.kind) Unsettled size) clean.1) in
    (goes e h a v xs Int place clean.0 none, array.0, array.1)

default_goes : (h : Home) (xs : List core.Parameter) (type : PvType)
    → RightFits h xs (core.Value' (core.Constant (default_of type))) type
default_goes h xs Int = refl
default_goes h xs Truth = refl
default_goes h xs (Object class) = refl
default_goes h xs IntArray = refl
default_goes h xs TruthArray = refl
default_goes h xs Null = refl

-- the first value of a local
pub first_goes : (o : Option Right) (h : Home) (a : Environment) (v : Visible) (xs : List core.Parameter) (type : PvType)
    → Place h a v xs → Clean (faults_of_first_value a v (Exactly type) o) → quantifiers_in_right_option o ≡ []
    → RightFits h xs (first_value a v type o) type
first_goes None h a v xs type place clean none = default_goes h xs type
first_goes (Some r) h a v xs type place clean none = right_goes r.kind h a v xs type r.span place clean none

-- Targets

target_fits : (h : Home) (xs : List core.Parameter) (e : Expression) (type : PvType) → IsOf h xs e type
    → TargetFits h xs (target_of e) type
target_fits h xs (core.Variable name) type k = k
target_fits h xs (core.Field e class field span) type k = k
target_fits h xs (core.Element element e i span) type k = k
target_fits h xs (core.Constant v) type k = tt
target_fits h xs core.This type k = tt
target_fits h xs core.Result type k = tt
target_fits h xs (core.Length element e span) type k = tt
target_fits h xs (core.Not e) type k = tt
target_fits h xs (core.Compute manner o x y span) type k = tt
target_fits h xs (core.Compare c x y) type k = tt
target_fits h xs (core.Equal same x y) type k = tt
target_fits h xs (core.And x y) type k = tt
target_fits h xs (core.Or x y) type k = tt
target_fits h xs (core.Implies x y) type k = tt
target_fits h xs (core.Old e) type k = tt

-- a place that is assigned has a type, which its value needs
pub record TargetAt (h : Home) (a : Environment) (v : Visible) (xs : List core.Parameter) (e : Expr) : Type 0 where
  pub type : PvType
  pub need : need_like (typing_in (checked_expression e) a v) ≡ Exactly type
  pub target : TargetFits h xs (core_of_target a v e) type

pub typed_place : (t : Typing) → typing.meets Anything t ≡ true → (type : PvType) × (t ≡ Typed type)
typed_place (Typed type) m = (type, refl)
typed_place Unsettled m = absurd cc
typed_place Untyped m = absurd cc

pub target_at : (e : Expr) (h : Home) (a : Environment) (v : Visible) (xs : List core.Parameter) → Place h a v xs
    → Clean (faults_of_expression a v Anything e) → quantifiers_in e ≡ [] → TargetAt h a v xs e
target_at e h a v xs place clean none =
    let t = typed_place (typing_in (elaborated_expression e).checked a v) (meets_need e h a v xs Anything place clean) in
    record {
      type = t.0;
      need = ap (λ (p : CheckedExpression). need_like (typing_in p a v)) (sym (checked_in_elaborated e)) ∙ ap need_like t.1;
      target =
          target_fits h xs (core_of_expression a v e) t.0
          ((fits e h silent a v xs in_statement Anything place (statement_strict a) clean none).goes t.0
          (ap (typing.meets (Exactly t.0)) t.1 ∙ itself t.0));
    }
