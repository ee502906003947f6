-- Programs in which no name is unresolved: each class and member that is used is declared, and used as it is declared; and each
-- variable that is named is in scope.
use Rattle.std.specs.Prelude.{ℕ, ◌≡◌, Bool, Option, Some, None, is_some, option_map, IsTrue, IsSome, List, [], ◌∷◌, length, map}
use Rattle.std.specs.List.{list_any, AllByRecursion}
use Rattle.pv_base.specs.declared.Name.{Name}
use Rattle.pv_ast.specs.declared.Token.{Token}
use Rattle.pv_ast.specs.declared.Token.TheVariants as token
use Rattle.pv_base.specs.Names.{same_name}
use Rattle.pv_picks.specs.Plain.Core.{Program, Class, Member, Parameter, Method, Contract, Shared, Team, Message, Action, Target, Right, Expression, Cut, Formula, Items, Item, Statement, Block}
use Rattle.pv_picks.specs.Plain.Core as core
use Rattle.pv_picks.specs.Plain.Members.{class_named, predicate_named, method_named, run_of, invariant_of}
pub use Rattle.pv_picks.specs.Plain.Members.{field_type}

-- Look-ups

-- how many parameters a predicate has, and a method
abbrev pub predicate_arity : Program → Name → Name → Option ℕ
predicate_arity p class name = option_map (λ q. length q.parameters) (predicate_named p class name)

abbrev pub method_arity : Program → Name → Name → Option ℕ
method_arity p class name = option_map (λ m. length m.parameters) (method_named p class name)

-- a class has what the token speaks of: a `run` for threads, a lock invariant for locks
abbrev pub has_role : Program → Token → Name → Bool
has_role p token.Idle class = is_some (run_of p class)
has_role p token.Running class = is_some (run_of p class)
has_role p token.Committed class = is_some (invariant_of p class)
has_role p token.Uncommitted class = is_some (invariant_of p class)

-- the token of what an action is done with
abbrev pub token_of : Action → Token
token_of core.Fork = token.Idle
token_of core.Join' = token.Running
token_of core.Lock = token.Committed
token_of core.Unlock = token.Committed
token_of core.Commit = token.Uncommitted

-- Expressions

-- the name is among those in scope
abbrev pub InScope : List Name → Name → Type 0
InScope names name = IsTrue (list_any (same_name name) names)

abbrev pub Resolved : Program → List Name → Expression → Type 0
Resolved p names (core.Constant v) = Unit {0}
Resolved p names core.This = Unit {0}
Resolved p names core.Result = Unit {0}
Resolved p names (core.Variable name) = InScope names name
Resolved p names (core.Field e class field span) = Resolved p names e × IsSome (field_type p class field)
Resolved p names (core.Element type e i span) = Resolved p names e × Resolved p names i
Resolved p names (core.Length type e span) = Resolved p names e
Resolved p names (core.Not e) = Resolved p names e
Resolved p names (core.Compute manner o x y span) = Resolved p names x × Resolved p names y
Resolved p names (core.Compare c x y) = Resolved p names x × Resolved p names y
Resolved p names (core.Equal same x y) = Resolved p names x × Resolved p names y
Resolved p names (core.And x y) = Resolved p names x × Resolved p names y
Resolved p names (core.Or x y) = Resolved p names x × Resolved p names y
Resolved p names (core.Implies x y) = Resolved p names x × Resolved p names y
Resolved p names (core.Old e) = Resolved p names e

abbrev pub AllResolved : Program → List Name → List Expression → Type 0
AllResolved p names es = AllByRecursion (Resolved p names) es

abbrev pub ResolvedCut : Program → List Name → Cut → Type 0
ResolvedCut p names (core.Below e) = Resolved p names e
ResolvedCut p names (core.UpTo e) = Resolved p names e
ResolvedCut p names (core.Above e) = Resolved p names e
ResolvedCut p names (core.From e) = Resolved p names e
ResolvedCut p names (core.Provided e) = Resolved p names e

-- an object and arguments, as many as the parameters of what is declared
abbrev pub ResolvedUse : Program → List Name → Option ℕ → Expression → List Expression → Type 0
ResolvedUse p names arity object args = Resolved p names object × AllResolved p names args × (arity ≡ Some (length args))

-- Formulas

-- a quantifier's name is in scope in its items, not in its bounds
abbrev mutual
  pub ResolvedFormula : Program → List Name → Formula → Type 0
  ResolvedFormula p names (core.Fact e span) = Resolved p names e
  ResolvedFormula p names (core.FieldPermission e class field type units span) =
      Resolved p names e × (field_type p class field ≡ Some type)
  ResolvedFormula p names (core.ElementPermission type e i units span) = Resolved p names e × Resolved p names i
  ResolvedFormula p names (core.Holds t class e span) = Resolved p names e × IsTrue (has_role p t class)
  ResolvedFormula p names (core.Instance class name e args span) = ResolvedUse p names (predicate_arity p class name) e args
  ResolvedFormula p names (core.Star f g) = ResolvedFormula p names f × ResolvedFormula p names g
  ResolvedFormula p names (core.When e f span) = Resolved p names e × ResolvedFormula p names f
  ResolvedFormula p names (core.Each name low high items span) =
      Resolved p names low × Resolved p names high × ResolvedItems p (name ∷ names) items

  pub ResolvedItems : Program → List Name → Items → Type 0
  ResolvedItems p names core.NoItems = Unit {0}
  ResolvedItems p names (core.Join i is) = ResolvedItem p names i × ResolvedItems p names is

  pub ResolvedItem : Program → List Name → Item → Type 0
  ResolvedItem p names (core.Elements type e shift units span) = Resolved p names e
  ResolvedItem p names (core.Repeated e span) = Resolved p names e
  ResolvedItem p names (core.Committed class e span) = Resolved p names e × IsTrue (has_role p token.Committed class)
  ResolvedItem p names (core.Guarded cuts i span) = AllByRecursion (ResolvedCut p names) cuts × ResolvedItem p names i
  ResolvedItem p names (core.Fixed e f span) = Resolved p names e × ResolvedFormula p names f

-- Statements

abbrev pub ResolvedContract : Program → List Name → Contract → Type 0
ResolvedContract p names c = ResolvedFormula p names c.before × ResolvedFormula p names c.after

abbrev pub ResolvedShared : Program → List Name → Shared → Type 0
ResolvedShared p names s =
    ResolvedContract p names s.one × ResolvedItems p names s.each_before × ResolvedItems p names s.each_after

-- the bounds stand outside, the contract with the name of the position in scope
abbrev pub ResolvedTeam : Program → List Name → Team → Type 0
ResolvedTeam p names t = Resolved p names t.low × Resolved p names t.high × ResolvedShared p (t.variable ∷ names) t.shared

-- an assignment declares a variable that isn't in scope yet
abbrev pub ResolvedTarget : Program → List Name → Target → Type 0
ResolvedTarget p names core.Nowhere = Unit {0}
ResolvedTarget p names (core.ToVariable name) = Unit {0}
ResolvedTarget p names (core.ToField e class field span) = Resolved p names e × IsSome (field_type p class field)
ResolvedTarget p names (core.ToElement type e i span) = Resolved p names e × Resolved p names i

abbrev pub ResolvedRight : Program → List Name → Right → Type 0
ResolvedRight p names (core.Value' e) = Resolved p names e
ResolvedRight p names (core.Call class name e args) = ResolvedUse p names (method_arity p class name) e args
ResolvedRight p names (core.NewObject class) = IsSome (class_named p class)
ResolvedRight p names (core.NewArray type e) = Resolved p names e

abbrev pub ResolvedOption : Program → List Name → Option Expression → Type 0
ResolvedOption p names None = Unit {0}
ResolvedOption p names (Some e) = Resolved p names e

abbrev pub names_of : List Parameter → List Name
names_of ps = map (λ x. x.0) ps

-- the names in scope behind a statement: one more where it assigns a variable
abbrev pub behind : List Name → Statement → List Name
behind names (core.Assign (core.ToVariable name) right span) = name ∷ names
behind names _ = names

-- `head` is in scope at the head of the innermost body of a method or team: messages and barriers' contracts name nothing else
abbrev mutual
  pub ResolvedStatement : Program → List Name → List Name → Statement → Type 0
  ResolvedStatement p head names (core.Assign target right span) = ResolvedTarget p names target × ResolvedRight p names right
  ResolvedStatement p head names (core.If e first second) =
      Resolved p names e × ResolvedBlock p head names first × ResolvedBlock p head names second
  ResolvedStatement p head names (core.While variables f e body span) =
      AllByRecursion (InScope names) (names_of variables) × ResolvedFormula p names f × Resolved p names e
      × ResolvedBlock p head names body
  ResolvedStatement p head names (core.Members team body span) =
      ResolvedTeam p names team × ResolvedBlock p (team.variable ∷ names) (team.variable ∷ names) body
  ResolvedStatement p head names (core.Meet barrier span) = ResolvedShared p head barrier.shared
  ResolvedStatement p head names (core.Act action class e span) = Resolved p names e × IsTrue (has_role p (token_of action) class)
  ResolvedStatement p head names (core.Fold class name e args span) = ResolvedUse p names (predicate_arity p class name) e args
  ResolvedStatement p head names (core.Unfold class name e args span) = ResolvedUse p names (predicate_arity p class name) e args
  ResolvedStatement p head names (core.Assert f span) = ResolvedFormula p names f
  ResolvedStatement p head names (core.Send m span) = ResolvedFormula p head m.formula
  ResolvedStatement p head names (core.Receive m span) = ResolvedFormula p head m.formula
  ResolvedStatement p head names (core.Return e span) = ResolvedOption p names e

  pub ResolvedBlock : Program → List Name → List Name → Block → Type 0
  ResolvedBlock p head names core.Stop = Unit {0}
  ResolvedBlock p head names (core.Then s b) = ResolvedStatement p head names s × ResolvedBlock p head (behind names s) b

-- Programs

-- a method in the names of its parameters
abbrev pub ResolvedMethod : Program → List Name → Method → Type 0
ResolvedMethod p names m = ResolvedContract p names m.contract × ResolvedBlock p names names m.body

abbrev pub ResolvedMember : Program → Member → Type 0
ResolvedMember p (core.IsField f) = Unit {0}
ResolvedMember p (core.IsPredicate q) = ResolvedFormula p (names_of q.parameters) q.body
ResolvedMember p (core.IsMethod m) = ResolvedMethod p (names_of m.parameters) m

abbrev pub ResolvedInvariant : Program → Option Formula → Type 0
ResolvedInvariant p None = Unit {0}
ResolvedInvariant p (Some f) = ResolvedFormula p [] f

abbrev pub ResolvedClass : Program → Class → Type 0
ResolvedClass p c = ResolvedInvariant p c.lock_invariant × AllByRecursion (ResolvedMember p) c.members

-- each name in a program is resolved
abbrev pub IsResolved : Program → Type 0
IsResolved p = AllByRecursion (ResolvedClass p) p
