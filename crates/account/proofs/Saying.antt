-- Well typed statements and expressions, with their formulas, become well typed tasks.
use Rattle.std.proofs.Common.{◌≡◌, Bool, false, ◌||◌, Option, Some, None, List, [], ◌∷◌, refl, sym, subst}
use Rattle.pv_base.specs.declared.Name.{Name}
use Rattle.pv_base.specs.declared.Span.{Span}
use Rattle.pv_ast.specs.declared.PvType.{PvType}
use Rattle.pv_ast.specs.declared.PvType.TheVariants.{Int, Truth, Object}
use Rattle.pv_picks.specs.Plain.Core.{Expression, Target, Nowhere, ToVariable, ToField, ToElement, Right, Value', Call, NewObject, NewArray, Parameter, Method, Statement, Assign, If, While, Members, Meet, Act, Fold, Unfold, Assert, Send, Receive, Return, Block, Stop, Then}
use Rattle.pv_picks.specs.Formulas.Values.{array_of}
use Rattle.pv_picks.specs.Machine.Tasks.{Task, EvaluateAll, tasks_of_target, tasks_of_right, put_into, tasks_of_statement}
use Rattle.machine_laws.proofs.Statements.{as_many}
use Rattle.core_trees.specs.Returns.{Goes}
use Rattle.pv_picks.specs.Typing.Expressions.{answer_of, AreOf, onto}
use Rattle.pv_picks.specs.Typing.Blocks as fits
use Rattle.pv_picks.specs.Typing.Blocks.{types_of, TargetFits, RightFits, gives_statement, gives, StatementFits}
use Rattle.pv_picks.specs.Typing.Tasks.{writes_field, writes_element, makes_object, makes_array, at_assert, at_fold, at_call, at_action, at_open, at_arrive, at_send, at_receive}
use Rattle.core_trees.specs.Assigned.{TargetIs, AssignsOnly, BlockAssigns, IsListed}
use Rattle.core_trees.specs.Formulas.{StatementSays}
use Rattle.account.specs.Scoped.{OpenLoop, Standing, MayAssign, StaysIn, TasksSay, evaluates, evaluates_none, evaluates_more, parts, puts, drops, gives_result, unfolded, stands, begins}

-- the value on top has another name for its type
pub retyped : {c : Standing} {inner : Bool} {xs : List Parameter} {given : Bool} {stack : List PvType} {rest : List Task}
    (a b : PvType) → a ≡ b → TasksSay c inner xs given (a ∷ stack) rest → TasksSay c inner xs given (b ∷ stack) rest
retyped {c} {inner} {xs} {given} {stack} {rest} a b e d = subst (λ t. TasksSay c inner xs given (t ∷ stack) rest) e d

-- what may be assigned by two rules
mutual
  statement_assigns : (A B : Name → Type 0) (s : Statement) → AssignsOnly A s → AssignsOnly B s → AssignsOnly (λ n. A n × B n) s
  statement_assigns A B (Assign Nowhere right span) a b = tt
  statement_assigns A B (Assign (ToVariable name) right span) a b = (a, b)
  statement_assigns A B (Assign (ToField e class name at) right span) a b = tt
  statement_assigns A B (Assign (ToElement type e i at) right span) a b = tt
  statement_assigns A B (If e x y) a b = (block_assigns A B x a.0 b.0, block_assigns A B y a.1 b.1)
  statement_assigns A B (While xs i e x span) a b = block_assigns A B x a b
  statement_assigns A B (Members t x span) a b = block_assigns A B x a b
  statement_assigns A B (Meet barrier span) a b = tt
  statement_assigns A B (Act action class e span) a b = tt
  statement_assigns A B (Fold class q e es span) a b = tt
  statement_assigns A B (Unfold class q e es span) a b = tt
  statement_assigns A B (Assert f span) a b = tt
  statement_assigns A B (Send m span) a b = tt
  statement_assigns A B (Receive m span) a b = tt
  statement_assigns A B (Return e span) a b = tt

  pub block_assigns : (A B : Name → Type 0) (x : Block) → BlockAssigns A x → BlockAssigns B x → BlockAssigns (λ n. A n × B n) x
  block_assigns A B Stop a b = tt
  block_assigns A B (Then s x) a b = (statement_assigns A B s a.0 b.0, block_assigns A B x a.1 b.1)

-- a statement returns nothing in a loop
abbrev pub Stays : List OpenLoop → Statement → Type 0
Stays [] s = Unit {0}
Stays (l ∷ ls) s = Goes s

pub stays_first : (ls : List OpenLoop) (s : Statement) (b : Block) → StaysIn ls (Then s b) → Stays ls s
stays_first [] s b h = tt
stays_first (l ∷ ls) s b h = h.0

pub stays_rest : (ls : List OpenLoop) (s : Statement) (b : Block) → StaysIn ls (Then s b) → StaysIn ls b
stays_rest [] s b h = tt
stays_rest (l ∷ ls) s b h = h.1

stays_one : (ls : List OpenLoop) (e : Expression) (a b : Block) → Stays ls (If e a b) → StaysIn ls a
stays_one [] e a b h = tt
stays_one (l ∷ ls) e a b h = h.0

stays_other : (ls : List OpenLoop) (e : Expression) (a b : Block) → Stays ls (If e a b) → StaysIn ls b
stays_other [] e a b h = tt
stays_other (l ∷ ls) e a b h = h.1

returns_outside : (ls : List OpenLoop) (e : Option Expression) (span : Span) → Stays ls (Return e span) → ls ≡ []
returns_outside [] e span h = refl
returns_outside (l ∷ ls) e span h = absurd h

module _ (c : Standing) (xs : List Parameter) (given : Bool) where
  -- tasks are well typed wherever they stand in the condition of a loop
  abbrev pub Everywhere : List PvType → List Task → Type 0
  Everywhere stack ts = (b : Bool) → TasksSay c b xs given stack ts

  all_say : (inner : Bool) (stack : List PvType) (es : List Expression) (types : List PvType) (rest : List Task)
      → AreOf c.home xs es types → TasksSay c inner xs given (onto types stack) rest
      → TasksSay c inner xs given stack (EvaluateAll es ∷ rest)
  all_say inner stack [] [] rest a d = evaluates_none d
  all_say inner stack [] (type ∷ types) rest a d = absurd a
  all_say inner stack (e ∷ es) [] rest a d = absurd a
  all_say inner stack (e ∷ es) (type ∷ types) rest a d =
      evaluates_more type a.0 (all_say inner (type ∷ stack) es types rest a.1 d)

  pub right_says : (inner : Bool) (stack : List PvType) (right : Right) (span : Span) (type : PvType) (rest : List Task)
      → RightFits c.home xs right type → Everywhere (type ∷ stack) rest
      → TasksSay c inner xs given stack (tasks_of_right right span rest)
  right_says inner stack (Value' e) span type rest r d = evaluates type r (d inner)
  right_says inner stack (Call class method object arguments) span type rest r d =
      let m : Method = r.1.0 in
      let types : List PvType = types_of m.parameters in
      evaluates (Object class) r.0 (all_say inner (Object class ∷ stack) arguments types _ r.1.2
      (stands (answer_of m ∷ stack) (at_call m r.1.1 refl (as_many c.home xs arguments types r.1.2)) tt
      (retyped type (answer_of m) r.1.3 (d false))))
  right_says inner stack (NewObject class) span type rest r d =
      stands (Object class ∷ stack) makes_object tt (retyped type (Object class) r (d false))
  right_says inner stack (NewArray element size) span type rest r d =
      evaluates Int r.0 (stands (array_of element ∷ stack) (makes_array refl r.1) tt
      (retyped type (array_of element) r.2 (d false)))

  assign_says : (inner : Bool) (stack : List PvType) (target : Target) (right : Right) (span : Span) (type : PvType)
      (rest : List Task)
      → TargetFits c.home xs target type → TargetIs (MayAssign c.loops) target → RightFits c.home xs right type
      → Everywhere stack rest
      → TasksSay c inner xs given stack (tasks_of_target target (tasks_of_right right span (put_into target ∷ rest)))
  assign_says inner stack Nowhere right span type rest t may r d =
      right_says inner stack right span type _ r (λ b. drops (d false))
  assign_says inner stack (ToVariable name) right span type rest t may r d =
      right_says inner stack right span type _ r (λ b. puts t may (d false))
  assign_says inner stack (ToField object class name at) right span type rest t may r d =
      evaluates (Object class) t.0 (right_says inner (Object class ∷ stack) right span type _ r
      (λ b. stands stack (writes_field t.1) tt (d false)))
  assign_says inner stack (ToElement element array index at) right span type rest t may r d =
      evaluates (array_of element) t.0 (evaluates Int t.1 (right_says inner (Int ∷ array_of element ∷ stack) right span type _ r
      (λ b. retyped element type (sym t.3) (stands stack (writes_element refl t.2) tt (d false)))))

-- before tasks that are well typed once the statement may have given a result
pub statement_says : (c : Standing) (xs : List Parameter) (given inner : Bool) (s : Statement) (rest : List Task)
    → StatementFits c.home xs s → StatementSays c.home c.speech c.head xs s → AssignsOnly (MayAssign c.loops) s → Stays c.loops s
    → Everywhere c xs (gives_statement s || given) [] rest
    → TasksSay c inner xs given [] (tasks_of_statement s rest)
statement_says c xs given inner (Assign target right span) rest (fits.assigns type t r) says may stays d =
    assign_says c xs given inner [] target right span type rest t may r d
statement_says c xs given inner (If e a b) rest (fits.branches is x y) says may stays d =
    evaluates Truth is (parts (says.0, may.0, stays_one c.loops e a b stays) (says.1, may.1, stays_other c.loops e a b stays)
    (d false))
statement_says c xs given inner (While assigned i e body span) rest (fits.loops is x) says may stays d =
    begins (is, says.1, (says.2, block_assigns (IsListed xs assigned) (MayAssign c.loops) body says.4 may, says.3), says.0)
    (d false)
statement_says c xs given inner (Members team body span) rest (fits.opens low high x) says may stays d =
    evaluates Int low (evaluates Int high (stands [] (at_open x) says (d false)))
statement_says c xs given inner (Meet barrier span) rest fits.meets says may stays d = stands [] at_arrive says (d false)
statement_says c xs given inner (Act action class object span) rest (fits.acts o a) says may stays d =
    evaluates (Object class) o (stands [] (at_action a) tt (d false))
statement_says c xs given inner (Fold class predicate object arguments span) rest (fits.folds u) says may stays d =
    let types : List PvType = types_of u.1.0.parameters in
    evaluates (Object class) u.0 (all_say c xs given inner (Object class ∷ []) arguments types _ u.1.2
    (stands [] (at_fold u.1.0 u.1.1 refl (as_many c.home xs arguments types u.1.2)) tt (d false)))
statement_says c xs given inner (Unfold class predicate object arguments span) rest (fits.unfolds u) says may stays d =
    let types : List PvType = types_of u.1.0.parameters in
    evaluates (Object class) u.0 (all_say c xs given inner (Object class ∷ []) arguments types _ u.1.2
    (unfolded [] u.1.0 u.1.1 refl (as_many c.home xs arguments types u.1.2) (d false)))
statement_says c xs given inner (Assert formula span) rest fits.asserts says may stays d = stands [] at_assert says (d false)
statement_says c xs given inner (Send message span) rest fits.sends says may stays d = stands [] at_send says (d false)
statement_says c xs given inner (Receive message span) rest fits.receives says may stays d =
    stands [] at_receive says (d false)
statement_says c xs given inner (Return None span) rest fits.leaves says may stays d = d inner
statement_says c xs given inner (Return (Some e) span) rest (fits.answers type t k is) says may stays d =
    evaluates type is (gives_result t k (returns_outside c.loops (Some e) span stays) (d false))
