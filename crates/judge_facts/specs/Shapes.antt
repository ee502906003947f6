-- Programs whose repeated conditions have the shape that a finite pass needs: the position stands only in indexes with one shift,
-- of arrays that are places; or nothing is read at it.
use Rattle.std.specs.Prelude.{◌≡◌, ◌⊎◌, ℤ, Option, Some, None, List, [], ◌∷◌}
use Rattle.std.specs.List.{AllByRecursion}
use Rattle.pv_base.specs.declared.Name.{Name}
use Rattle.pv_picks.specs.Plain.Core.{Expression, Constant, This, Result, Variable, Field, Old, Formula, Fact, FieldPermission, ElementPermission, Holds, Instance, Star, When, Each, Items, NoItems, Join, Item, Elements, Repeated, Committed, Guarded, Fixed, Contract, Shared, Statement, Assign, If, While, Members, Meet, Act, Fold, Unfold, Assert, Send, Receive, Return, Block, Stop, Then, Predicate, Method, Member, IsField, IsPredicate, IsMethod, Class, Program}
use Rattle.pv_picks.specs.Plain.Members.{predicate_named, method_named, run_of, invariant_of}
use Rattle.pv_picks.specs.Judge.Repetitions.{Look, AtElements, AtElement, AtLength, AtTerm, looks_of}
use Rattle.pv_picks.specs.Formulas.Values.{no_variables}
use Rattle.pv_picks.specs.Judge.Steady.{Steady, NoElements, IsTermLook}
use Rattle.pv_picks.specs.Judge.UnitRuns.{Task, OfMethod, OfFormula, NoUnit, of_method}

-- Shapes

-- a reference that is named: a variable, `this`, the result, a constant, or a field of such a one
abbrev pub IsPlace : Expression → Type 0
IsPlace (Constant v) = Unit {0}
IsPlace This = Unit {0}
IsPlace Result = Unit {0}
IsPlace (Variable x) = Unit {0}
IsPlace (Field e class field span) = IsPlace e
IsPlace (Old e) = IsPlace e
IsPlace e = ⊥

abbrev pub Places : List Look → Type 0
Places [] = Unit {0}
Places (AtElements type array shift ∷ looks) = IsPlace array × Places looks
Places (AtElement was type array index ∷ looks) = Places looks
Places (AtLength type array ∷ looks) = Places looks
Places (AtTerm e ∷ looks) = Places looks

-- all with this shift
abbrev pub Shifted : ℤ → List Look → Type 0
Shifted s [] = Unit {0}
Shifted s (AtElements type array shift ∷ looks) = (shift ≡ s) × Shifted s looks
Shifted s (AtElement was type array index ∷ looks) = Shifted s looks
Shifted s (AtLength type array ∷ looks) = Shifted s looks
Shifted s (AtTerm e ∷ looks) = Shifted s looks

-- a condition that is repeated: steady, or without elements at the position
abbrev pub IsShaped : Name → Expression → Type 0
IsShaped name e = Places (looks_of name e) × (((s : ℤ) × Steady name s e) ⊎ NoElements (looks_of name e))

-- the name of the position in the body of a method
abbrev pub no_position : Name
no_position = (of_method no_variables).variable

-- Programs, by the shape of the conditions that they repeat

module _ (Q : Name → Expression → Type 0) where
  -- formulas whose repeated conditions have a shape
  abbrev mutual
    pub ShapedFormula : Formula → Type 0
    ShapedFormula (Fact e span) = Unit {0}
    ShapedFormula (FieldPermission e class field type units span) = Unit {0}
    ShapedFormula (ElementPermission type e i units span) = Unit {0}
    ShapedFormula (Holds t class e span) = Unit {0}
    ShapedFormula (Instance class name e args span) = Unit {0}
    ShapedFormula (Star f g) = ShapedFormula f × ShapedFormula g
    ShapedFormula (When e f span) = ShapedFormula f
    ShapedFormula (Each name low high items span) = ShapedItems name items

    pub ShapedItems : Name → Items → Type 0
    ShapedItems name NoItems = Unit {0}
    ShapedItems name (Join i is) = ShapedItem name i × ShapedItems name is

    pub ShapedItem : Name → Item → Type 0
    ShapedItem name (Elements type e shift units span) = Unit {0}
    ShapedItem name (Repeated e span) = Q name e
    ShapedItem name (Committed class e span) = Unit {0}
    ShapedItem name (Guarded cuts i span) = ShapedItem name i
    ShapedItem name (Fixed e f span) = ShapedFormula f

  abbrev pub ShapedContract : Contract → Type 0
  ShapedContract d = ShapedFormula d.before × ShapedFormula d.after

  abbrev pub ShapedShared : Name → Shared → Type 0
  ShapedShared name d = ShapedContract d.one × (ShapedItems name d.each_before × ShapedItems name d.each_after)

  -- `name` is the position of the innermost block around
  abbrev mutual
    pub ShapedStatement : Name → Statement → Type 0
    ShapedStatement name (Assign target right span) = Unit {0}
    ShapedStatement name (If e first second) = ShapedBlock name first × ShapedBlock name second
    ShapedStatement name (While variables f e body span) = ShapedFormula f × ShapedBlock name body
    ShapedStatement name (Members t body span) = ShapedShared t.variable t.shared × ShapedBlock t.variable body
    ShapedStatement name (Meet b span) = ShapedShared name b.shared
    ShapedStatement name (Act action class e span) = Unit {0}
    ShapedStatement name (Fold class n e args span) = Unit {0}
    ShapedStatement name (Unfold class n e args span) = Unit {0}
    ShapedStatement name (Assert f span) = Unit {0}
    ShapedStatement name (Send m span) = ShapedFormula m.formula
    ShapedStatement name (Receive m span) = ShapedFormula m.formula
    ShapedStatement name (Return e span) = Unit {0}

    pub ShapedBlock : Name → Block → Type 0
    ShapedBlock name Stop = Unit {0}
    ShapedBlock name (Then s b) = ShapedStatement name s × ShapedBlock name b

  -- in a program, what a run may come to
  pub record ShapedProgram (p : Program) : Type 0 where
    pub method : (d n : Name) (m : Method) → method_named p d n ≡ Some m → ShapedContract m.contract
    pub predicate : (d n : Name) (m : Predicate) → predicate_named p d n ≡ Some m → ShapedFormula m.body
    pub run : (d : Name) (m : Method) → run_of p d ≡ Some m → ShapedContract m.contract
    pub invariant : (d : Name) (f : Formula) → invariant_of p d ≡ Some f → ShapedFormula f

  abbrev pub ShapedTask : Task → Type 0
  ShapedTask (OfMethod d m) = ShapedContract m.contract × ShapedBlock no_position m.body
  ShapedTask (OfFormula d ps f) = ShapedFormula f
  ShapedTask NoUnit = Unit {0}

  -- by the members of its classes

  abbrev pub ShapedMember : Member → Type 0
  ShapedMember (IsField f) = Unit {0}
  ShapedMember (IsPredicate q) = ShapedFormula q.body
  ShapedMember (IsMethod m) = ShapedContract m.contract × ShapedBlock no_position m.body

  abbrev pub ShapedInvariant : Option Formula → Type 0
  ShapedInvariant None = Unit {0}
  ShapedInvariant (Some f) = ShapedFormula f

  abbrev pub ShapedClass : Class → Type 0
  ShapedClass c = ShapedInvariant c.lock_invariant × AllByRecursion ShapedMember c.members

  abbrev pub IsShapedProgram : Program → Type 0
  IsShapedProgram p = AllByRecursion ShapedClass p

-- a condition that may be repeated where all that is read is to be named: it is shaped, and what is looked at before are terms
abbrev pub IsRepeatable : Name → Expression → Type 0
IsRepeatable name e = IsShaped name e × AllByRecursion (IsTermLook name) (looks_of name e)
