-- What is left of a body stands in a scope: its expressions are well typed there, and so are its formulas. What comes after an
-- open loop isn't looked at.
use Rattle.std.specs.Prelude.{◌≡◌, ℕ, Bool, true, false, ◌&&◌, ◌||◌, Some, None, List, [], ◌∷◌, length}
use Rattle.pv_base.specs.declared.Name.{Name}
use Rattle.pv_base.specs.declared.Span.{Span}
use Rattle.pv_ast.specs.declared.PvType.{PvType}
use Rattle.pv_ast.specs.declared.PvType.TheVariants.{Int, Truth, Object}
use Rattle.pv_values.specs.declared.value.Value.{Value}
use Rattle.pv_picks.specs.declared.check.Check.TheVariants as check
use Rattle.pv_picks.specs.Plain.Core.{Manner, Operation, Comparison, Expression, Parameter, Predicate, Method, Block}
use Rattle.pv_picks.specs.Plain.Members.{predicate_named}
use Rattle.pv_picks.specs.Machine.Tasks.{Loop, Step, AtAssert, AtHead, AtOpen, AtClose, AtArrive, AtLeave, AtSend, AtReceive, Negated, Computed, Compared, Matched, Task, Evaluate, EvaluateAll, Combine, Choose, Branch, Turn, Put, Drop, Give, Unfolded, Run, Stand, Resume}
use Rattle.core_trees.specs.Returns.{GoesOn}
use Rattle.pv_picks.specs.Typing.Expressions.{Home, Speech, silent, answer_of, type_in, IsDeclared, IsOf, onto}
use Rattle.pv_picks.specs.Typing.Blocks.{types_of, gives, inside}
use Rattle.pv_picks.specs.Typing.Tasks.{StepFits, IsWithin, IsAnswered}
use Rattle.core_trees.specs.Assigned.{BlockAssigns, IsListed}
use Rattle.core_trees.specs.Formulas.{FormulaFits, SharedFits, BarrierFits, MessageFits, OnceEach, AreVariables, BlockSays}
use Rattle.account.specs.Running.{goes_inside}

-- an open loop: the variables in scope at its head, and those that it assigns
pub record OpenLoop : Type 0 where
  pub scope : List Parameter
  pub assigned : List Parameter

-- where tasks stand: in a class and a body, what formulas may speak of, the variables at the head of the body, and the loops that
-- are open around them, the innermost first
pub record Standing : Type 0 where
  pub home : Home
  pub speech : Speech
  pub head : List Parameter
  pub loops : List OpenLoop

-- in one loop more
abbrev pub in_loop : Standing → OpenLoop → Standing
in_loop c l = record c { loops = l ∷ c.loops }

-- each open loop lists the variable, or it isn't in scope at its head
abbrev pub MayAssign : List OpenLoop → Name → Type 0
MayAssign [] name = Unit {0}
MayAssign (l ∷ ls) name = IsListed l.scope l.assigned name × MayAssign ls name

-- nothing returns in a loop
abbrev pub StaysIn : List OpenLoop → Block → Type 0
StaysIn [] b = Unit {0}
StaysIn (l ∷ ls) b = GoesOn b

-- what is in scope at the head of the innermost open loop still is
abbrev pub IsInLoop : List OpenLoop → List Parameter → Type 0
IsInLoop [] xs = ⊥
IsInLoop (l ∷ ls) xs = IsWithin l.scope xs

-- a block is well typed with its formulas, assigns what it may, and returns nothing in a loop
abbrev pub IsBlockIn : Standing → List Parameter → Block → Type 0
IsBlockIn c xs b = BlockSays c.home c.speech c.head xs b × BlockAssigns (MayAssign c.loops) b × StaysIn c.loops b

-- a loop that begins in a scope
abbrev pub loop_at : List Parameter → Loop → OpenLoop
loop_at xs l = record { scope = xs; assigned = l.assigned }

-- condition, invariant and body of a loop are well typed, and so are the variables that it lists
abbrev pub IsLoopIn : Standing → List Parameter → Loop → Type 0
IsLoopIn c xs l =
    IsOf c.home xs l.condition Truth × FormulaFits c.home c.speech xs l.invariant × IsBlockIn (in_loop c (loop_at xs l)) xs l.body
    × AreVariables xs l.assigned

-- the formulas of a step are well typed; heads of loops are told apart, and no statement closes a block or leaves a barrier
abbrev pub StepSpeaks : Standing → List Parameter → Step → Type 0
StepSpeaks c xs (AtAssert formula) = FormulaFits c.home c.speech xs formula
StepSpeaks c xs (AtHead named l) = ⊥
StepSpeaks c xs (AtOpen team body) =
    SharedFits c.home xs team.variable team.shared
    × BlockSays (inside c.home) silent ((team.variable, Int) ∷ xs) ((team.variable, Int) ∷ xs) body × OnceEach team.counted body
StepSpeaks c xs (AtArrive barrier span) = BarrierFits c.home c.head barrier.shared
StepSpeaks c xs (AtLeave barrier span) = ⊥
StepSpeaks c xs (AtClose block) = ⊥
StepSpeaks c xs (AtSend message span) = MessageFits c.home c.head message
StepSpeaks c xs (AtReceive message span) = MessageFits c.home c.head message
StepSpeaks c xs _ = Unit {0}

-- Well typed tasks with their formulas: whether the loop at whose condition they stand goes on, the variables in scope, whether a
-- result was given, and the types of the intermediate values. No value is left where a block runs or a loop turns.
pub data TasksSay (c : Standing) : Bool → List Parameter → Bool → List PvType → List Task → Type 0 where
  done : {inner : Bool} {xs : List Parameter} {given : Bool} → IsAnswered c.home.answer given → TasksSay c inner xs given [] []
  evaluates : {inner : Bool} {xs : List Parameter} {given : Bool} {stack : List PvType} {rest : List Task} {e : Expression}
      → (type : PvType) → IsOf c.home xs e type → TasksSay c inner xs given (type ∷ stack) rest
      → TasksSay c inner xs given stack (Evaluate e ∷ rest)
  evaluates_none : {inner : Bool} {xs : List Parameter} {given : Bool} {stack : List PvType} {rest : List Task}
      → TasksSay c inner xs given stack rest → TasksSay c inner xs given stack (EvaluateAll [] ∷ rest)
  evaluates_more : {inner : Bool} {xs : List Parameter} {given : Bool} {stack : List PvType} {rest : List Task} {e : Expression}
      {es : List Expression}
      → (type : PvType) → IsOf c.home xs e type → TasksSay c inner xs given (type ∷ stack) (EvaluateAll es ∷ rest)
      → TasksSay c inner xs given stack (EvaluateAll (e ∷ es) ∷ rest)
  negates : {inner : Bool} {xs : List Parameter} {given : Bool} {stack : List PvType} {rest : List Task}
      → TasksSay c inner xs given (Truth ∷ stack) rest → TasksSay c inner xs given (Truth ∷ stack) (Combine Negated ∷ rest)
  computes : {inner : Bool} {xs : List Parameter} {given : Bool} {stack : List PvType} {rest : List Task} {manner : Manner}
      {operation : Operation} {span : Span}
      → TasksSay c inner xs given (Int ∷ stack) rest
      → TasksSay c inner xs given (Int ∷ Int ∷ stack) (Combine (Computed manner operation span) ∷ rest)
  compares : {inner : Bool} {xs : List Parameter} {given : Bool} {stack : List PvType} {rest : List Task} {order : Comparison}
      → TasksSay c inner xs given (Truth ∷ stack) rest
      → TasksSay c inner xs given (Int ∷ Int ∷ stack) (Combine (Compared order) ∷ rest)
  matches : {inner : Bool} {xs : List Parameter} {given : Bool} {stack : List PvType} {rest : List Task} {same : Bool}
      {a b : PvType}
      → TasksSay c inner xs given (Truth ∷ stack) rest
      → TasksSay c inner xs given (a ∷ b ∷ stack) (Combine (Matched same) ∷ rest)
  chooses : {inner : Bool} {xs : List Parameter} {given : Bool} {stack : List PvType} {rest : List Task} {a b : Expression}
      → (type : PvType) → IsOf c.home xs a type → IsOf c.home xs b type → TasksSay c inner xs given (type ∷ stack) rest
      → TasksSay c inner xs given (Truth ∷ stack) (Choose a b ∷ rest)
  -- a result is given after both blocks, or was before
  parts : {inner : Bool} {xs : List Parameter} {given : Bool} {rest : List Task} {a b : Block}
      → IsBlockIn c xs a → IsBlockIn c xs b → TasksSay c false xs (gives a && gives b || given) [] rest
      → TasksSay c inner xs given (Truth ∷ []) (Branch a b ∷ rest)
  -- a loop goes on, or it ends
  turns_in : {xs : List Parameter} {given : Bool} {rest : List Task} {l : Loop}
      → IsInLoop c.loops xs → TasksSay c true xs given (Truth ∷ []) (Turn l ∷ rest)
  turns_past : {xs : List Parameter} {given : Bool} {rest : List Task} {l : Loop}
      → TasksSay c false xs given [] rest → TasksSay c false xs given (Truth ∷ []) (Turn l ∷ rest)
  puts : {inner : Bool} {xs : List Parameter} {given : Bool} {stack : List PvType} {rest : List Task} {name : Name}
      {type : PvType}
      → type_in xs name ≡ Some type → MayAssign c.loops name → TasksSay c false xs given stack rest
      → TasksSay c inner xs given (type ∷ stack) (Put name ∷ rest)
  puts_new : {inner : Bool} {xs : List Parameter} {given : Bool} {stack : List PvType} {rest : List Task} {name : Name}
      {type : PvType}
      → type_in xs name ≡ None → MayAssign c.loops name → TasksSay c false ((name, type) ∷ xs) given stack rest
      → TasksSay c inner xs given (type ∷ stack) (Put name ∷ rest)
  drops : {inner : Bool} {xs : List Parameter} {given : Bool} {stack : List PvType} {rest : List Task} {type : PvType}
      → TasksSay c false xs given stack rest → TasksSay c inner xs given (type ∷ stack) (Drop ∷ rest)
  gives_result : {inner : Bool} {xs : List Parameter} {given : Bool} {stack : List PvType} {rest : List Task} {type : PvType}
      → c.home.answer ≡ Some type → IsDeclared type → c.loops ≡ [] → TasksSay c false xs true stack rest
      → TasksSay c inner xs given (type ∷ stack) (Give ∷ rest)
  unfolded : {inner : Bool} {xs : List Parameter} {given : Bool} {before : List PvType} {rest : List Task}
      {class predicate : Name}
      {count : ℕ} {span : Span}
      → (stack : List PvType) (q : Predicate) → predicate_named c.home.program class predicate ≡ Some q
      → before ≡ onto (types_of q.parameters) (Object class ∷ stack) → length (types_of q.parameters) ≡ count
      → TasksSay c false xs given stack rest
      → TasksSay c inner xs given before (Unfolded class predicate count span ∷ rest)
  -- what a block declares goes out of scope at its end
  runs : {inner : Bool} {xs : List Parameter} {given : Bool} {rest : List Task} {b : Block}
      → (outer : List Parameter) (after : Bool) → IsBlockIn c xs b → IsWithin outer xs
      → (after ≡ true → (gives b || given) ≡ true)
      → TasksSay c false outer after [] rest
      → TasksSay c inner xs given [] (Run b ∷ rest)
  stands : {inner : Bool} {xs : List Parameter} {given : Bool} {before : List PvType} {rest : List Task} {step : Step}
      → (stack : List PvType) → StepFits c.home xs before step stack → StepSpeaks c xs step
      → TasksSay c (goes_inside step inner) xs given stack rest
      → TasksSay c inner xs given before (Stand step ∷ rest)
  -- a loop begins, and goes back to its head
  begins : {inner : Bool} {xs : List Parameter} {given : Bool} {rest : List Task} {l : Loop}
      → IsLoopIn c xs l → TasksSay c false xs given [] rest
      → TasksSay c inner xs given [] (Stand (AtHead check.LoopEntry l) ∷ rest)
  goes_back : {inner : Bool} {xs : List Parameter} {given : Bool} {rest : List Task} {l : Loop}
      → IsInLoop c.loops xs → TasksSay c inner xs given [] (Stand (AtHead check.LoopKeep l) ∷ rest)
  resumes : {inner : Bool} {xs : List Parameter} {given : Bool} {stack : List PvType} {rest : List Task} {class : Name}
      {m : Method}
      {object : ℕ} {arguments : List Value}
      → TasksSay c false xs given (answer_of m ∷ stack) rest
      → TasksSay c inner xs given stack (Resume class m object arguments ∷ rest)

-- the tasks of a frame, which may stand where they close a block or leave a barrier
abbrev pub FrameSays : Standing → Bool → List Parameter → Bool → List PvType → List Task → Type 0
FrameSays c inner xs given stack (Stand (AtClose block) ∷ rest) = TasksSay c false xs given stack rest
FrameSays c inner xs given stack (Stand (AtLeave barrier span) ∷ rest) =
    BarrierFits c.home c.head barrier.shared × TasksSay c false xs given stack rest
FrameSays c inner xs given stack tasks = TasksSay c inner xs given stack tasks
