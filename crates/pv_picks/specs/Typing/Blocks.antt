-- Well typed statements and blocks of a plain program, by the variables in scope. A declaration is the assignment to a variable
-- that isn't in scope yet: it is in scope up to the end of its block. A variable in scope is never declared again.
use Rattle.std.specs.Prelude.{◌≡◌, Bool, true, false, ◌&&◌, ◌||◌, map, Some, None, List, [], ◌∷◌}
use Rattle.pv_base.specs.declared.Name.{Name}
use Rattle.pv_base.specs.declared.Span.{Span}
use Rattle.pv_ast.specs.declared.PvType.{PvType}
use Rattle.pv_ast.specs.declared.PvType.TheVariants.{Int, Truth, Object}
use Rattle.pv_picks.specs.Plain.Core.{Expression, Formula, Action, Fork, Join', Lock, Unlock, Commit, Target, Nowhere, ToVariable, ToField, ToElement, Right, Value', Call, NewObject, NewArray, Team, Barrier, Message, Parameter, Predicate, Method, Statement, Assign, If, While, Members, Meet, Act, Fold, Unfold, Assert, Send, Receive, Return, Block, Stop, Then, Program}
use Rattle.pv_picks.specs.Formulas.Values.{array_of}
use Rattle.pv_picks.specs.Plain.Members.{field_type, predicate_named, method_named, run_of, invariant_of}
use Rattle.pv_picks.specs.Typing.Expressions.{Home, answer_of, type_in, IsElement, IsDeclared, IsOf, AreOf}

abbrev pub types_of : List Parameter → List PvType
types_of xs = map (λ x. x.1) xs

-- a value of the type may be assigned
abbrev pub TargetFits : Home → List Parameter → Target → PvType → Type 0
TargetFits h xs Nowhere type = Unit {0}
TargetFits h xs (ToVariable name) type = type_in xs name ≡ Some type
TargetFits h xs (ToField object class name span) type =
    IsOf h xs object (Object class) × (field_type h.program class name ≡ Some type)
TargetFits h xs (ToElement element array index span) type =
    IsOf h xs array (array_of element) × IsOf h xs index Int × IsElement element × (type ≡ element)

-- what is assigned goes where the type is wanted
abbrev pub RightFits : Home → List Parameter → Right → PvType → Type 0
RightFits h xs (Value' e) type = IsOf h xs e type
RightFits h xs (Call class method object arguments) type =
    IsOf h xs object (Object class)
    × ((m : Method) × (method_named h.program class method ≡ Some m) × AreOf h xs arguments (types_of m.parameters)
    × (type ≡ answer_of m))
RightFits h xs (NewObject class) type = type ≡ Object class
RightFits h xs (NewArray element size) type = IsOf h xs size Int × IsElement element × (type ≡ array_of element)

-- threads of a class run what it declares, and its objects can be locked where it has a lock invariant
abbrev pub HasRun : Program → Name → Type 0
HasRun p class = (m : Method) × (run_of p class ≡ Some m)

abbrev pub HasInvariant : Program → Name → Type 0
HasInvariant p class = (f : Formula) × (invariant_of p class ≡ Some f)

-- what an action needs of the class of its object
abbrev pub Allows : Program → Name → Action → Type 0
Allows p class Fork = HasRun p class
Allows p class Join' = HasRun p class
Allows p class Lock = HasInvariant p class
Allows p class Unlock = HasInvariant p class
Allows p class Commit = HasInvariant p class

-- an object of the class, and arguments of the types of the parameters of a predicate that it declares
abbrev pub UseFits : Home → List Parameter → Name → Name → Expression → List Expression → Type 0
UseFits h xs class predicate object arguments =
    IsOf h xs object (Object class)
    × ((q : Predicate) × (predicate_named h.program class predicate ≡ Some q) × AreOf h xs arguments (types_of q.parameters))

-- whether a result was given at the end, however the run went
abbrev mutual
  pub gives_statement : Statement → Bool
  gives_statement (Assign target right span) = false
  gives_statement (If condition a b) = gives a && gives b
  gives_statement (While assigned invariant condition body span) = false
  gives_statement (Members team body span) = false
  gives_statement (Meet barrier span) = false
  gives_statement (Act action class object span) = false
  gives_statement (Fold class predicate object arguments span) = false
  gives_statement (Unfold class predicate object arguments span) = false
  gives_statement (Assert formula span) = false
  gives_statement (Send message span) = false
  gives_statement (Receive message span) = false
  gives_statement (Return None span) = false
  gives_statement (Return (Some e) span) = true

  pub gives : Block → Bool
  gives Stop = false
  gives (Then s b) = gives_statement s || gives b

-- the body of a member returns to no call
abbrev pub inside : Home → Home
inside h = record { program = h.program; class = h.class; answer = None }

mutual
  pub data BlockFits : Home → List Parameter → Block → Type 0 where
    ends : {h : Home} {xs : List Parameter} → BlockFits h xs Stop
    goes_first : {h : Home} {xs : List Parameter} {s : Statement} {b : Block} → StatementFits h xs s → BlockFits h xs b
        → BlockFits h xs (Then s b)
    declares : {h : Home} {xs : List Parameter} {name : Name} {right : Right} {span : Span} {b : Block}
        → (type : PvType) → type_in xs name ≡ None → RightFits h xs right type → BlockFits h ((name, type) ∷ xs) b
        → BlockFits h xs (Then (Assign (ToVariable name) right span) b)

  pub data StatementFits : Home → List Parameter → Statement → Type 0 where
    assigns : {h : Home} {xs : List Parameter} {target : Target} {right : Right} {span : Span}
        → (type : PvType) → TargetFits h xs target type → RightFits h xs right type
        → StatementFits h xs (Assign target right span)
    branches : {h : Home} {xs : List Parameter} {e : Expression} {a b : Block}
        → IsOf h xs e Truth → BlockFits h xs a → BlockFits h xs b → StatementFits h xs (If e a b)
    loops : {h : Home} {xs assigned : List Parameter} {invariant : Formula} {e : Expression} {body : Block} {span : Span}
        → IsOf h xs e Truth → BlockFits h xs body → StatementFits h xs (While assigned invariant e body span)
    opens : {h : Home} {xs : List Parameter} {team : Team} {body : Block} {span : Span}
        → IsOf h xs team.low Int → IsOf h xs team.high Int → BlockFits (inside h) ((team.variable, Int) ∷ xs) body
        → StatementFits h xs (Members team body span)
    meets : {h : Home} {xs : List Parameter} {barrier : Barrier} {span : Span} → StatementFits h xs (Meet barrier span)
    acts : {h : Home} {xs : List Parameter} {action : Action} {class : Name} {object : Expression} {span : Span}
        → IsOf h xs object (Object class) → Allows h.program class action → StatementFits h xs (Act action class object span)
    folds : {h : Home} {xs : List Parameter} {class predicate : Name} {object : Expression} {arguments : List Expression}
        {span : Span}
        → UseFits h xs class predicate object arguments → StatementFits h xs (Fold class predicate object arguments span)
    unfolds : {h : Home} {xs : List Parameter} {class predicate : Name} {object : Expression} {arguments : List Expression}
        {span : Span}
        → UseFits h xs class predicate object arguments → StatementFits h xs (Unfold class predicate object arguments span)
    asserts : {h : Home} {xs : List Parameter} {formula : Formula} {span : Span} → StatementFits h xs (Assert formula span)
    sends : {h : Home} {xs : List Parameter} {message : Message} {span : Span} → StatementFits h xs (Send message span)
    receives : {h : Home} {xs : List Parameter} {message : Message} {span : Span} → StatementFits h xs (Receive message span)
    leaves : {h : Home} {xs : List Parameter} {span : Span} → StatementFits h xs (Return None span)
    -- a method without a result returns nothing
    answers : {h : Home} {xs : List Parameter} {e : Expression} {span : Span}
        → (type : PvType) → h.answer ≡ Some type → IsDeclared type → IsOf h xs e type → StatementFits h xs (Return (Some e) span)

abbrev pub home_of : Program → Name → Method → Home
home_of p class m = record { program = p; class = class; answer = Some (answer_of m) }

-- parameters come into scope one after the other
abbrev pub over : List Parameter → List Parameter → List Parameter
over xs [] = xs
over xs (x ∷ more) = over (x ∷ xs) more

-- a body fits its parameters, and gives a result where the method has one
pub record MethodFits (p : Program) (class : Name) (m : Method) : Type 0 where
  pub body : BlockFits (home_of p class m) (over [] m.parameters) m.body
  pub result : (type : PvType) → m.result ≡ Some type → gives m.body ≡ true

-- each method and each `run` fits
pub record ProgramFits (p : Program) : Type 0 where
  pub methods : (class name : Name) (m : Method) → method_named p class name ≡ Some m → MethodFits p class m
  pub runs : (class : Name) (m : Method) → run_of p class ≡ Some m → MethodFits p class m × (m.parameters ≡ [])
