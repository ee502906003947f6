-- Well typed tasks of a frame between two pieces of work, by the variables in scope, whether a result was given, and the types of
-- the intermediate values, the last one first.
use Rattle.std.specs.Prelude.{◌≡◌, ℕ, Bool, true, ◌&&◌, ◌||◌, Option, Some, None, List, [], ◌∷◌, length}
use Rattle.pv_base.specs.declared.Name.{Name}
use Rattle.pv_base.specs.declared.Span.{Span}
use Rattle.pv_ast.specs.declared.PvType.{PvType}
use Rattle.pv_ast.specs.declared.PvType.TheVariants.{Int, Truth, Object}
use Rattle.pv_values.specs.declared.value.Value.{Value}
use Rattle.pv_picks.specs.declared.check.Check.{Check}
use Rattle.pv_picks.specs.Plain.Core.{Operation, Manner, Comparison, Expression, Formula, Action, Team, Barrier, Message, Parameter, Predicate, Method, Block}
use Rattle.pv_picks.specs.Formulas.Values.{array_of}
use Rattle.pv_picks.specs.Plain.Members.{field_type, predicate_named, method_named}
use Rattle.pv_picks.specs.Machine.Tasks.{FieldOf, ElementOf, Loop, Step, AtRead, AtWrite, AtLength, AtNewObject, AtNewArray, AtAssert, AtFold, AtHead, AtCall, AtAction, AtOpen, AtClose, AtArrive, AtLeave, AtSend, AtReceive, Negated, Computed, Compared, Matched, Task, Evaluate, EvaluateAll, Combine, Choose, Branch, Turn, Put, Drop, Give, Unfolded, Run, Stand, Resume}
use Rattle.pv_picks.specs.Typing.Expressions.{Home, answer_of, type_in, IsElement, IsDeclared, IsOf, onto}
use Rattle.pv_picks.specs.Typing.Blocks.{types_of, Allows, gives, inside, BlockFits}

-- a step finds values of the first types, and leaves values of the others
pub data StepFits : Home → List Parameter → List PvType → Step → List PvType → Type 0 where
  reads_field : {h : Home} {xs : List Parameter} {stack : List PvType} {class name : Name} {type : PvType} {span : Span}
      → field_type h.program class name ≡ Some type
      → StepFits h xs (Object class ∷ stack) (AtRead (FieldOf class name) span) (type ∷ stack)
  reads_element : {h : Home} {xs : List Parameter} {stack : List PvType} {type array : PvType} {span : Span}
      → array ≡ array_of type → IsElement type → StepFits h xs (Int ∷ array ∷ stack) (AtRead (ElementOf type) span) (type ∷ stack)
  writes_field : {h : Home} {xs : List Parameter} {stack : List PvType} {class name : Name} {type : PvType} {span : Span}
      → field_type h.program class name ≡ Some type
      → StepFits h xs (type ∷ Object class ∷ stack) (AtWrite (FieldOf class name) span) stack
  writes_element : {h : Home} {xs : List Parameter} {stack : List PvType} {type array : PvType} {span : Span}
      → array ≡ array_of type → IsElement type → StepFits h xs (type ∷ Int ∷ array ∷ stack) (AtWrite (ElementOf type) span) stack
  takes_length : {h : Home} {xs : List Parameter} {stack : List PvType} {type array : PvType} {span : Span}
      → array ≡ array_of type → StepFits h xs (array ∷ stack) (AtLength type span) (Int ∷ stack)
  makes_object : {h : Home} {xs : List Parameter} {stack : List PvType} {class : Name}
      → StepFits h xs stack (AtNewObject class) (Object class ∷ stack)
  makes_array : {h : Home} {xs : List Parameter} {stack : List PvType} {type array : PvType} {span : Span}
      → array ≡ array_of type → IsElement type → StepFits h xs (Int ∷ stack) (AtNewArray type span) (array ∷ stack)
  at_assert : {h : Home} {xs : List Parameter} {stack : List PvType} {formula : Formula}
      → StepFits h xs stack (AtAssert formula) stack
  at_fold : {h : Home} {xs : List Parameter} {before stack : List PvType} {class predicate : Name} {count : ℕ} {span : Span}
      → (q : Predicate) → predicate_named h.program class predicate ≡ Some q → before
      ≡ onto (types_of q.parameters) (Object class ∷ stack)
      → length (types_of q.parameters) ≡ count → StepFits h xs before (AtFold class predicate count span) stack
  at_head : {h : Home} {xs : List Parameter} {stack : List PvType} {check : Check} {loop : Loop}
      → IsOf h xs loop.condition Truth → BlockFits h xs loop.body → StepFits h xs stack (AtHead check loop) stack
  at_call : {h : Home} {xs : List Parameter} {before stack : List PvType} {class method : Name} {count : ℕ} {span : Span}
      → (m : Method) → method_named h.program class method ≡ Some m → before ≡ onto (types_of m.parameters) (Object class ∷ stack)
      → length (types_of m.parameters) ≡ count → StepFits h xs before (AtCall class method count span) (answer_of m ∷ stack)
  at_action : {h : Home} {xs : List Parameter} {stack : List PvType} {action : Action} {class : Name} {span : Span}
      → Allows h.program class action → StepFits h xs (Object class ∷ stack) (AtAction action class span) stack
  at_open : {h : Home} {xs : List Parameter} {stack : List PvType} {team : Team} {body : Block}
      → BlockFits (inside h) ((team.variable, Int) ∷ xs) body → StepFits h xs (Int ∷ Int ∷ stack) (AtOpen team body) stack
  at_close : {h : Home} {xs : List Parameter} {stack : List PvType} {block : ℕ} → StepFits h xs stack (AtClose block) stack
  at_arrive : {h : Home} {xs : List Parameter} {stack : List PvType} {barrier : Barrier} {span : Span}
      → StepFits h xs stack (AtArrive barrier span) stack
  at_leave : {h : Home} {xs : List Parameter} {stack : List PvType} {barrier : Barrier} {span : Span}
      → StepFits h xs stack (AtLeave barrier span) stack
  at_send : {h : Home} {xs : List Parameter} {stack : List PvType} {message : Message} {span : Span}
      → StepFits h xs stack (AtSend message span) stack
  at_receive : {h : Home} {xs : List Parameter} {stack : List PvType} {message : Message} {span : Span}
      → StepFits h xs stack (AtReceive message span) stack

-- variables in scope are so in a block within, with their types
abbrev pub IsWithin : List Parameter → List Parameter → Type 0
IsWithin outer inner = (name : Name) (type : PvType) → type_in outer name ≡ Some type → type_in inner name ≡ Some type

-- who returns to a call has given its result
abbrev pub IsAnswered : Option PvType → Bool → Type 0
IsAnswered None given = Unit {0}
IsAnswered (Some type) given = given ≡ true

pub data TasksFit : Home → List Parameter → Bool → List PvType → List Task → Type 0 where
  done : {h : Home} {xs : List Parameter} {given : Bool} → IsAnswered h.answer given → TasksFit h xs given [] []
  evaluates : {h : Home} {xs : List Parameter} {given : Bool} {stack : List PvType} {rest : List Task} {e : Expression}
      → (type : PvType) → IsOf h xs e type → TasksFit h xs given (type ∷ stack) rest
      → TasksFit h xs given stack (Evaluate e ∷ rest)
  evaluates_none : {h : Home} {xs : List Parameter} {given : Bool} {stack : List PvType} {rest : List Task}
      → TasksFit h xs given stack rest → TasksFit h xs given stack (EvaluateAll [] ∷ rest)
  evaluates_more : {h : Home} {xs : List Parameter} {given : Bool} {stack : List PvType} {rest : List Task} {e : Expression}
      {es : List Expression}
      → (type : PvType) → IsOf h xs e type → TasksFit h xs given (type ∷ stack) (EvaluateAll es ∷ rest)
      → TasksFit h xs given stack (EvaluateAll (e ∷ es) ∷ rest)
  negates : {h : Home} {xs : List Parameter} {given : Bool} {stack : List PvType} {rest : List Task}
      → TasksFit h xs given (Truth ∷ stack) rest → TasksFit h xs given (Truth ∷ stack) (Combine Negated ∷ rest)
  computes : {h : Home} {xs : List Parameter} {given : Bool} {stack : List PvType} {rest : List Task} {manner : Manner}
      {operation : Operation} {span : Span}
      → TasksFit h xs given (Int ∷ stack) rest
      → TasksFit h xs given (Int ∷ Int ∷ stack) (Combine (Computed manner operation span) ∷ rest)
  compares : {h : Home} {xs : List Parameter} {given : Bool} {stack : List PvType} {rest : List Task} {order : Comparison}
      → TasksFit h xs given (Truth ∷ stack) rest → TasksFit h xs given (Int ∷ Int ∷ stack) (Combine (Compared order) ∷ rest)
  matches : {h : Home} {xs : List Parameter} {given : Bool} {stack : List PvType} {rest : List Task} {same : Bool} {a b : PvType}
      → TasksFit h xs given (Truth ∷ stack) rest → TasksFit h xs given (a ∷ b ∷ stack) (Combine (Matched same) ∷ rest)
  chooses : {h : Home} {xs : List Parameter} {given : Bool} {stack : List PvType} {rest : List Task} {a b : Expression}
      → (type : PvType) → IsOf h xs a type → IsOf h xs b type → TasksFit h xs given (type ∷ stack) rest
      → TasksFit h xs given (Truth ∷ stack) (Choose a b ∷ rest)
  -- a result is given after both blocks, or was before
  parts : {h : Home} {xs : List Parameter} {given : Bool} {stack : List PvType} {rest : List Task} {a b : Block}
      → BlockFits h xs a → BlockFits h xs b → TasksFit h xs (gives a && gives b || given) stack rest
      → TasksFit h xs given (Truth ∷ stack) (Branch a b ∷ rest)
  turns : {h : Home} {xs : List Parameter} {given : Bool} {stack : List PvType} {rest : List Task} {loop : Loop}
      → IsOf h xs loop.condition Truth → BlockFits h xs loop.body → TasksFit h xs given stack rest
      → TasksFit h xs given (Truth ∷ stack) (Turn loop ∷ rest)
  puts : {h : Home} {xs : List Parameter} {given : Bool} {stack : List PvType} {rest : List Task} {name : Name} {type : PvType}
      → type_in xs name ≡ Some type → TasksFit h xs given stack rest → TasksFit h xs given (type ∷ stack) (Put name ∷ rest)
  puts_new : {h : Home} {xs : List Parameter} {given : Bool} {stack : List PvType} {rest : List Task} {name : Name}
      {type : PvType}
      → type_in xs name ≡ None → TasksFit h ((name, type) ∷ xs) given stack rest
      → TasksFit h xs given (type ∷ stack) (Put name ∷ rest)
  drops : {h : Home} {xs : List Parameter} {given : Bool} {stack : List PvType} {rest : List Task} {type : PvType}
      → TasksFit h xs given stack rest → TasksFit h xs given (type ∷ stack) (Drop ∷ rest)
  gives_result : {h : Home} {xs : List Parameter} {given : Bool} {stack : List PvType} {rest : List Task} {type : PvType}
      → h.answer ≡ Some type → IsDeclared type → TasksFit h xs true stack rest → TasksFit h xs given (type ∷ stack) (Give ∷ rest)
  unfolded : {h : Home} {xs : List Parameter} {given : Bool} {before : List PvType} {rest : List Task} {class predicate : Name}
      {count : ℕ}
      {span : Span} → (stack : List PvType) (q : Predicate) → predicate_named h.program class predicate ≡ Some q
      → before ≡ onto (types_of q.parameters) (Object class ∷ stack) → length (types_of q.parameters) ≡ count
      → TasksFit h xs given stack rest
      → TasksFit h xs given before (Unfolded class predicate count span ∷ rest)
  -- what a block declares goes out of scope at its end
  runs : {h : Home} {xs : List Parameter} {given : Bool} {stack : List PvType} {rest : List Task} {b : Block}
      → (outer : List Parameter) (after : Bool) → BlockFits h xs b → IsWithin outer xs
      → (after ≡ true → (gives b || given) ≡ true)
      → TasksFit h outer after stack rest
      → TasksFit h xs given stack (Run b ∷ rest)
  stands : {h : Home} {xs : List Parameter} {given : Bool} {before : List PvType} {rest : List Task} {step : Step}
      → (stack : List PvType) → StepFits h xs before step stack → TasksFit h xs given stack rest
      → TasksFit h xs given before (Stand step ∷ rest)
  resumes : {h : Home} {xs : List Parameter} {given : Bool} {stack : List PvType} {rest : List Task} {class : Name} {m : Method}
      {object : ℕ}
      {arguments : List Value} → TasksFit h xs given (answer_of m ∷ stack) rest
      → TasksFit h xs given stack (Resume class m object arguments ∷ rest)
