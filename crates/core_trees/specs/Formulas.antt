-- Well typed formulas of a plain program, by the variables in scope: of contracts, predicates, locks and statements.
use Rattle.std.specs.Prelude.{◌≡◌, ◌⊎◌, ◌≤◌, ◌&&◌, ℕ, Bool, true, map, is_some, Option, Some, None, List, [], ◌∷◌}
use Rattle.std.specs.List.{AllByRecursion}
use Rattle.pv_base.specs.declared.Name.{Name}
use Rattle.pv_ast.specs.declared.PvType.{PvType}
use Rattle.pv_ast.specs.declared.PvType.TheVariants.{Int, Truth, Object}
use Rattle.pv_ast.specs.declared.Token.{Token}
use Rattle.pv_ast.specs.declared.Token.TheVariants as token
use Rattle.pv_fraction.specs.Amounts.{whole}
use Rattle.pv_picks.specs.Plain.Core as core
use Rattle.pv_picks.specs.Plain.Core.{Program, Class, Member, Predicate, Method, Parameter, Shared, Cut, Formula, Items, Item, Target, Right, Message, Statement, Block}
use Rattle.pv_picks.specs.Formulas.Values.{array_of}
use Rattle.pv_picks.specs.Plain.Members.{class_named, field_type, predicate_named}
use Rattle.pv_picks.specs.Judge.Repetitions.{Look, AtElements, AtElement, AtLength, AtTerm, looks_of}
use Rattle.core_trees.specs.Naming.{AreDistinct}
use Rattle.core_trees.specs.Messages.{sent_in_block, received_in_block}
use Rattle.core_trees.specs.Returns.{GoesOn}
use Rattle.pv_picks.specs.Typing.Expressions.{Home, Speech, silent, type_in, IsElement, IsDeclared, Says, AllSay}
use Rattle.core_trees.specs.Assigned.{TargetIs, BlockAssigns, IsOwn, IsListed}
use Rattle.pv_picks.specs.Typing.Blocks.{types_of, HasRun, HasInvariant, inside, over, RightFits, StatementFits, home_of}

-- something of a permission, and no more than the whole
abbrev pub IsAmount : ℕ → Type 0
IsAmount units = (1 ≤ units) × (units ≤ whole)

-- what a token needs of the class of its object
abbrev pub Bears : Program → Name → Token → Type 0
Bears p class token.Idle = HasRun p class
Bears p class token.Running = HasRun p class
Bears p class token.Committed = HasInvariant p class
Bears p class token.Uncommitted = HasInvariant p class

-- a guard's term is a number, its condition a truth value
abbrev pub CutFits : Home → Speech → List Parameter → Cut → Type 0
CutFits h speech xs (core.Below e) = Says h speech xs e Int
CutFits h speech xs (core.UpTo e) = Says h speech xs e Int
CutFits h speech xs (core.Above e) = Says h speech xs e Int
CutFits h speech xs (core.From e) = Says h speech xs e Int
CutFits h speech xs (core.Provided e) = Says h speech xs e Truth

-- what a run looks at before it repeats a condition
abbrev pub LookFits : Home → Speech → List Parameter → Look → Type 0
LookFits h speech xs (AtElements element array shift) = Says h speech xs array (array_of element) × IsElement element
LookFits h speech xs (AtElement was element array index) =
    Says h speech xs array (array_of element) × Says h speech xs index Int × IsElement element
LookFits h speech xs (AtLength element array) = Says h speech xs array (array_of element) × IsElement element
LookFits h speech xs (AtTerm e) = Says h speech xs e Int

-- Formulas, items and one item. The scope of items is that around their quantifier, whose name isn't in scope there: what they
-- look at once for all positions is typed there. A condition that is repeated, and a formula at the one position that a term
-- names, are typed with the name in scope, which stands for a number.
abbrev mutual
  pub FormulaFits : Home → Speech → List Parameter → Formula → Type 0
  FormulaFits h speech xs (core.Fact e span) = Says h speech xs e Truth
  FormulaFits h speech xs (core.FieldPermission object class field type units span) =
      Says h speech xs object (Object class) × (field_type h.program class field ≡ Some type) × IsDeclared type × IsAmount units
  FormulaFits h speech xs (core.ElementPermission element array index units span) =
      Says h speech xs array (array_of element) × Says h speech xs index Int × IsElement element × IsAmount units
  FormulaFits h speech xs (core.Holds token class object span) = Says h speech xs object (Object class)
      × Bears h.program class token
  FormulaFits h speech xs (core.Instance class name object arguments span) =
      Says h speech xs object (Object class)
      × ((q : Predicate) × (predicate_named h.program class name ≡ Some q) × AllSay h speech xs arguments (types_of q.parameters))
  FormulaFits h speech xs (core.Star f g) = FormulaFits h speech xs f × FormulaFits h speech xs g
  FormulaFits h speech xs (core.When e f span) = Says h speech xs e Truth × FormulaFits h speech xs f
  FormulaFits h speech xs (core.Each name low high items span) =
      Says h speech xs low Int × Says h speech xs high Int × (type_in xs name ≡ None) × ItemsFit h speech xs name items

  pub ItemsFit : Home → Speech → List Parameter → Name → Items → Type 0
  ItemsFit h speech xs name core.NoItems = Unit {0}
  ItemsFit h speech xs name (core.Join i is) = ItemFits h speech xs name i × ItemsFit h speech xs name is

  pub ItemFits : Home → Speech → List Parameter → Name → Item → Type 0
  ItemFits h speech xs name (core.Elements element array shift units span) =
      Says h speech xs array (array_of element) × IsElement element × IsAmount units
  ItemFits h speech xs name (core.Repeated e span) =
      Says h speech ((name, Int) ∷ xs) e Truth × AllByRecursion (LookFits h speech xs) (looks_of name e)
  ItemFits h speech xs name (core.Committed class object span) = Says h speech xs object (Object class)
      × HasInvariant h.program class
  ItemFits h speech xs name (core.Guarded cuts i span) = AllByRecursion (CutFits h speech xs) cuts × ItemFits h speech xs name i
  ItemFits h speech xs name (core.Fixed e f span) = Says h speech xs e Int × FormulaFits h speech ((name, Int) ∷ xs) f

-- What members keep: formulas at one position, whose name isn't in scope outside, and items at each
abbrev pub SharedFits : Home → List Parameter → Name → Shared → Type 0
SharedFits h xs name s =
    (type_in xs name ≡ None)
    × FormulaFits h silent ((name, Int) ∷ xs) s.one.before × FormulaFits h silent ((name, Int) ∷ xs) s.one.after
    × ItemsFit h silent xs name s.each_before × ItemsFit h silent xs name s.each_after

-- a barrier's contract speaks of what is in scope at the head of its par block's body, where the position is the first
abbrev pub BarrierFits : Home → List Parameter → Shared → Type 0
BarrierFits h [] s = ⊥
BarrierFits h (position ∷ xs) s = (position.1 ≡ Int) × SharedFits h xs position.0 s

-- a message goes to another member
abbrev pub MessageFits : Home → List Parameter → Message → Type 0
MessageFits h head m = (1 ≤ m.distance) × FormulaFits h silent head m.formula

abbrev pub LabelsDiffer : List Message → Type 0
LabelsDiffer ms = AreDistinct (map (λ m. m.label) ms)

-- in the body of a counted loop each label is sent once and received once
abbrev pub OnceEach : Bool → Block → Type 0
OnceEach counted body = counted ≡ true → LabelsDiffer (sent_in_block body) × LabelsDiffer (received_in_block body)

-- the types that are declared
abbrev pub AreDeclared : List Parameter → Type 0
AreDeclared xs = AllByRecursion (λ x. IsDeclared x.1) xs

-- variables in scope with their types, which are declared
abbrev pub AreVariables : List Parameter → List Parameter → Type 0
AreVariables xs ys = AllByRecursion (λ y. (type_in xs y.0 ≡ Some y.1) × IsDeclared y.1) ys

-- a statement assigns a variable that isn't in scope yet
abbrev pub DeclaredBy : Home → List Parameter → Statement → Parameter → Type 0
DeclaredBy h xs (core.Assign (core.ToVariable name) right span) x = (x.0 ≡ name) × (type_in xs name ≡ None)
    × RightFits h xs right x.1
DeclaredBy h xs _ x = ⊥

-- nothing goes nowhere but the result of a call
abbrev pub IsKept : Target → Right → Type 0
IsKept core.Nowhere (core.Value' e) = ⊥
IsKept core.Nowhere (core.Call class method object arguments) = Unit {0}
IsKept core.Nowhere (core.NewObject class) = ⊥
IsKept core.Nowhere (core.NewArray element size) = ⊥
IsKept (core.ToVariable name) right = Unit {0}
IsKept (core.ToField object class name span) right = Unit {0}
IsKept (core.ToElement element array index span) right = Unit {0}

-- statements and blocks whose formulas are well typed, by what they may speak of, the variables at the head of the body, and
-- those in
-- scope. Only locals of the same body are assigned; in a loop those alone that it lists, and nothing returns there.
abbrev mutual
  pub StatementSays : Home → Speech → List Parameter → List Parameter → Statement → Type 0
  StatementSays h speech head xs (core.Assign target right span) = IsKept target right × TargetIs (IsOwn head) target
  StatementSays h speech head xs (core.If e first second) = BlockSays h speech head xs first × BlockSays h speech head xs second
  StatementSays h speech head xs (core.While assigned invariant e body span) =
      AreVariables xs assigned × FormulaFits h speech xs invariant × BlockSays h speech head xs body × GoesOn body
      × BlockAssigns (IsListed xs assigned) body
  StatementSays h speech head xs (core.Members team body span) =
      SharedFits h xs team.variable team.shared
      × BlockSays (inside h) silent ((team.variable, Int) ∷ xs) ((team.variable, Int) ∷ xs) body × OnceEach team.counted body
  StatementSays h speech head xs (core.Meet barrier span) = BarrierFits h head barrier.shared
  StatementSays h speech head xs (core.Act action class e span) = Unit {0}
  StatementSays h speech head xs (core.Fold class name e args span) = Unit {0}
  StatementSays h speech head xs (core.Unfold class name e args span) = Unit {0}
  StatementSays h speech head xs (core.Assert f span) = FormulaFits h speech xs f
  StatementSays h speech head xs (core.Send m span) = MessageFits h head m
  StatementSays h speech head xs (core.Receive m span) = MessageFits h head m
  StatementSays h speech head xs (core.Return e span) = Unit {0}

  -- the first statement is well typed, or declares a variable
  pub BlockSays : Home → Speech → List Parameter → List Parameter → Block → Type 0
  BlockSays h speech head xs core.Stop = Unit {0}
  BlockSays h speech head xs (core.Then s b) =
      (StatementFits h xs s × StatementSays h speech head xs s × BlockSays h speech head xs b)
      ⊎ ((x : Parameter) × DeclaredBy h xs s x × BlockSays h speech head (x ∷ xs) b)

-- whether a formula of a method speaks of the state that it began in; none of a `run` does
abbrev pub looks_back : Method → Bool
looks_back m = is_some m.name && m.old

-- what a method's `ensures` may speak of: its result, and the state that it began in
abbrev pub at_end : Method → Speech
at_end m = record { result = m.result; old = looks_back m }

-- what the formulas of its body may speak of
abbrev pub midway : Method → Speech
midway m = record { result = None; old = looks_back m }

abbrev pub ResultIsDeclared : Option PvType → Type 0
ResultIsDeclared None = Unit {0}
ResultIsDeclared (Some type) = IsDeclared type

-- a `run`, which has no name, takes and gives nothing
abbrev pub IsPlainRun : Option Name → Method → Type 0
IsPlainRun None m = (m.parameters ≡ []) × (m.result ≡ None)
IsPlainRun (Some name) m = Unit {0}

-- the contract and the body stand in the scope of the parameters
abbrev pub MethodSays : Home → Method → Type 0
MethodSays h m =
    AreDeclared m.parameters × ResultIsDeclared m.result × IsPlainRun m.name m
    × FormulaFits h silent (over [] m.parameters) m.contract.before
    × FormulaFits h (at_end m) (over [] m.parameters) m.contract.after
    × BlockSays (home_of h.program h.class m) (midway m) (over [] m.parameters) (over [] m.parameters) m.body

-- a predicate speaks of its parameters, in its own state
abbrev pub PredicateFits : Home → Predicate → Type 0
PredicateFits h q = AreDeclared q.parameters × FormulaFits h silent (over [] q.parameters) q.body

abbrev pub MemberFits : Home → Member → Type 0
MemberFits h (core.IsField f) = IsDeclared f.1
MemberFits h (core.IsPredicate q) = PredicateFits h q
MemberFits h (core.IsMethod m) = MethodSays h m

abbrev pub InvariantFits : Home → Option Formula → Type 0
InvariantFits h None = Unit {0}
InvariantFits h (Some f) = FormulaFits h silent [] f

-- where the formulas of a class stand
abbrev pub in_class : Program → Name → Home
in_class p class = record { program = p; class = class; answer = None }

-- each lock invariant and predicate fits, and each contract and body of a method or `run`
abbrev pub FormulasFit : Program → Type 0
FormulasFit p = (class : Name) (c : Class) → class_named p class ≡ Some c
    → InvariantFits (in_class p class) c.lock_invariant × AllByRecursion (MemberFits (in_class p class)) c.members
