-- Well typed statements and expressions become well typed tasks.
use Rattle.std.proofs.Common.{◌≡◌, suc, Bool, ◌||◌, Some, None, List, [], ◌∷◌, length, refl, sym, subst, ap}
use Rattle.pv_base.specs.declared.Name.{Name}
use Rattle.pv_base.specs.declared.Span.{Span}
use Rattle.pv_ast.specs.declared.PvType.{PvType}
use Rattle.pv_ast.specs.declared.PvType.TheVariants.{Int, Truth, Object}
use Rattle.pv_picks.specs.Plain.Core.{Expression, Field, Element, Length, Target, Nowhere, ToVariable, ToField, ToElement, Right, Value', Call, NewObject, NewArray, Parameter, Method, Statement, Assign, If, While, Members, Meet, Act, Fold, Unfold, Assert, Send, Receive, Return}
use Rattle.pv_picks.specs.Formulas.Values.{array_of}
use Rattle.pv_picks.specs.Machine.Tasks.{Task, EvaluateAll, tasks_of_expression, tasks_of_target, tasks_of_right, put_into, tasks_of_statement}
use Rattle.pv_picks.specs.Typing.Expressions.{Home, answer_of, IsOf, AreOf, onto}
use Rattle.pv_picks.specs.Typing.Blocks.{types_of, TargetFits, RightFits, gives_statement, StatementFits, assigns, branches, loops, opens, meets, acts, folds, unfolds, asserts, sends, receives, leaves, answers}
use Rattle.pv_picks.specs.Typing.Tasks.{reads_field, reads_element, writes_field, writes_element, takes_length, makes_object, makes_array, at_assert, at_fold, at_head, at_call, at_action, at_open, at_arrive, at_send, at_receive, TasksFit, evaluates, evaluates_none, evaluates_more, parts, puts, drops, gives_result, unfolded, stands}

-- the value on top has another name for its type
pub retyped : {h : Home} {xs : List Parameter} {given : Bool} {stack : List PvType} {rest : List Task} (a b : PvType) → a ≡ b
    → TasksFit h xs given (a ∷ stack) rest → TasksFit h xs given (b ∷ stack) rest
retyped {h} {xs} {given} {stack} {rest} a b e d = subst (λ t. TasksFit h xs given (t ∷ stack) rest) e d

pub as_many : (h : Home) (xs : List Parameter) (es : List Expression) (types : List PvType) → AreOf h xs es types → length types
    ≡ length es
as_many h xs [] [] a = refl
as_many h xs [] (type ∷ types) a = absurd a
as_many h xs (e ∷ es) [] a = absurd a
as_many h xs (e ∷ es) (type ∷ types) a = ap suc (as_many h xs es types a.1)

module _ {h : Home} {xs : List Parameter} {given : Bool} where
  pub field-fits : {stack : List PvType} (object : Expression) (class name : Name) (span : Span) (type : PvType)
      (rest : List Task)
      → IsOf h xs (Field object class name span) type → TasksFit h xs given (type ∷ stack) rest
      → TasksFit h xs given stack (tasks_of_expression (Field object class name span) rest)
  field-fits {stack} object class name span type rest a d =
      evaluates (Object class) a.0 (stands (type ∷ stack) (reads_field a.1) d)

  pub element-fits : {stack : List PvType} (element : PvType) (array index : Expression) (span : Span) (type : PvType)
      (rest : List Task)
      → IsOf h xs (Element element array index span) type → TasksFit h xs given (type ∷ stack) rest
      → TasksFit h xs given stack (tasks_of_expression (Element element array index span) rest)
  element-fits {stack} element array index span type rest a d =
      evaluates (array_of element) a.0
      (evaluates Int a.1 (stands (element ∷ stack) (reads_element refl a.2) (retyped type element a.3 d)))

  pub length-fits : {stack : List PvType} (element : PvType) (array : Expression) (span : Span) (type : PvType) (rest : List Task)
      → IsOf h xs (Length element array span) type → TasksFit h xs given (type ∷ stack) rest
      → TasksFit h xs given stack (tasks_of_expression (Length element array span) rest)
  length-fits {stack} element array span type rest a d =
      evaluates (array_of element) a.0 (stands (Int ∷ stack) (takes_length refl) (retyped type Int a.2 d))

  -- several expressions, from left to right
  pub all-fit : {stack : List PvType} (es : List Expression) (types : List PvType) (rest : List Task) → AreOf h xs es types
      → TasksFit h xs given (onto types stack) rest → TasksFit h xs given stack (EvaluateAll es ∷ rest)
  all-fit [] [] rest a d = evaluates_none d
  all-fit [] (type ∷ types) rest a d = absurd a
  all-fit (e ∷ es) [] rest a d = absurd a
  all-fit (e ∷ es) (type ∷ types) rest a d = evaluates_more type a.0 (all-fit es types rest a.1 d)

  pub right-fits : {stack : List PvType} (right : Right) (span : Span) (type : PvType) (rest : List Task)
      → RightFits h xs right type
      → TasksFit h xs given (type ∷ stack) rest → TasksFit h xs given stack (tasks_of_right right span rest)
  right-fits (Value' e) span type rest r d = evaluates type r d
  right-fits {stack} (Call class method object arguments) span type rest r d =
      let m : Method = r.1.0 in
      let types : List PvType = types_of m.parameters in
      evaluates (Object class) r.0 (all-fit arguments types _ r.1.2
      (stands (answer_of m ∷ stack) (at_call m r.1.1 refl (as_many h xs arguments types r.1.2))
      (retyped type (answer_of m) r.1.3 d)))
  right-fits {stack} (NewObject class) span type rest r d =
      stands (Object class ∷ stack) makes_object (retyped type (Object class) r d)
  right-fits {stack} (NewArray element size) span type rest r d =
      evaluates Int r.0 (stands (array_of element ∷ stack) (makes_array refl r.1) (retyped type (array_of element) r.2 d))

  assign-fits : {stack : List PvType} (target : Target) (right : Right) (span : Span) (type : PvType) (rest : List Task)
      → TargetFits h xs target type → RightFits h xs right type → TasksFit h xs given stack rest
      → TasksFit h xs given stack (tasks_of_target target (tasks_of_right right span (put_into target ∷ rest)))
  assign-fits Nowhere right span type rest t r d = right-fits right span type _ r (drops d)
  assign-fits (ToVariable name) right span type rest t r d = right-fits right span type _ r (puts t d)
  assign-fits {stack} (ToField object class name at) right span type rest t r d =
      evaluates (Object class) t.0 (right-fits right span type _ r (stands stack (writes_field t.1) d))
  assign-fits {stack} (ToElement element array index at) right span type rest t r d =
      evaluates (array_of element) t.0 (evaluates Int t.1 (right-fits right span type _ r
      (retyped element type (sym t.3) (stands stack (writes_element refl t.2) d))))

  -- before tasks that fit once the statement may have given a result
  pub statement-fits : {stack : List PvType} (s : Statement) (rest : List Task) → StatementFits h xs s
      → TasksFit h xs (gives_statement s || given) stack rest → TasksFit h xs given stack (tasks_of_statement s rest)
  statement-fits (Assign target right span) rest (assigns type t r) d = assign-fits target right span type rest t r d
  statement-fits (If e a b) rest (branches c x y) d = evaluates Truth c (parts x y d)
  statement-fits {stack} (While assigned invariant e body span) rest (loops c x) d = stands stack (at_head c x) d
  statement-fits {stack} (Members team body span) rest (opens l u x) d =
      evaluates Int l (evaluates Int u (stands stack (at_open x) d))
  statement-fits {stack} (Meet barrier span) rest meets d = stands stack at_arrive d
  statement-fits {stack} (Act action class object span) rest (acts o a) d =
      evaluates (Object class) o (stands stack (at_action a) d)
  statement-fits {stack} (Fold class predicate object arguments span) rest (folds u) d =
      let types : List PvType = types_of u.1.0.parameters in
      evaluates (Object class) u.0 (all-fit arguments types _ u.1.2
      (stands stack (at_fold u.1.0 u.1.1 refl (as_many h xs arguments types u.1.2)) d))
  statement-fits {stack} (Unfold class predicate object arguments span) rest (unfolds u) d =
      let types : List PvType = types_of u.1.0.parameters in
      evaluates (Object class) u.0 (all-fit arguments types _ u.1.2
      (unfolded stack u.1.0 u.1.1 refl (as_many h xs arguments types u.1.2) d))
  statement-fits {stack} (Assert formula span) rest asserts d = stands stack at_assert d
  statement-fits {stack} (Send message span) rest sends d = stands stack at_send d
  statement-fits {stack} (Receive message span) rest receives d = stands stack at_receive d
  statement-fits (Return None span) rest leaves d = d
  statement-fits (Return (Some e) span) rest (answers type t k c) d = evaluates type c (gives_result t k d)
