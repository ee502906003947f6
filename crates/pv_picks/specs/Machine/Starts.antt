-- Where runs of a program start: a finite heap, and a method of an object there whose precondition is met. A start's heap may
-- hold arrays of no elements, which are arrays of whole numbers and of truth values alike, and objects of classes that the
-- program doesn't declare, which have no fields.
use Rattle.std.specs.Prelude.{◌≡◌, ℕ, pos, Bool, true, false, ◌&&◌, Option, Some, None, option_map, List, [], ◌∷◌}
use Rattle.pv_base.specs.declared.Name.{Name}
use Rattle.pv_ast.specs.declared.PvType.{PvType}
use Rattle.pv_ast.specs.declared.PvType.TheVariants.{Int, Truth, Object, IntArray, TruthArray, Null}
use Rattle.pv_values.specs.declared.value.Value.{Value}
use Rattle.pv_values.specs.declared.value.Value.TheVariants as value
use Rattle.pv_values.specs.Heaps.{Things, class_of}
use Rattle.pv_values.specs.Typing.{Kind, numbers, truths, objects, int_arrays, truth_arrays, nulls, HasKind, IsWellTyped}
use Rattle.pv_picks.specs.Plain.Core.{Constant, Formula, Fact, FieldPermission, ElementPermission, Holds, Instance, Star, When, Each, Items, NoItems, Join, Item, Elements, Repeated, Committed, Guarded, Fixed, Parameter, Team, Method, Program}
use Rattle.pv_picks.specs.Plain.Members.{field_type, method_named}
use Rattle.pv_picks.specs.Formulas.Heaps.{heap_of, at_number}
use Rattle.pv_picks.specs.Formulas.Meeting.{IsMet, AmountsFit}
use Rattle.pv_picks.specs.Machine.Frames.{Frame, no_value, entered, only_now, outer_scene}
use Rattle.pv_picks.specs.Machine.Worlds.{Entry, Thread, Free, OpenBlock, ThreadState, World}

-- a formula has no token, no `committed` and no instance, at any depth
abbrev mutual
  pub is_plain : Formula → Bool
  is_plain (Fact e span) = true
  is_plain (FieldPermission e class name type amount span) = true
  is_plain (ElementPermission type array index amount span) = true
  is_plain (Holds token class e span) = false
  is_plain (Instance class predicate e arguments span) = false
  is_plain (Star a b) = is_plain a && is_plain b
  is_plain (When e body span) = is_plain body
  is_plain (Each name low high items span) = are_plain items

  pub are_plain : Items → Bool
  are_plain NoItems = true
  are_plain (Join item items) = is_plain_item item && are_plain items

  pub is_plain_item : Item → Bool
  is_plain_item (Elements type array shift amount span) = true
  is_plain_item (Repeated e span) = true
  is_plain_item (Committed class e span) = false
  is_plain_item (Guarded cuts item span) = is_plain_item item
  is_plain_item (Fixed e body span) = is_plain body

-- what a variable or a field of a type may hold
abbrev pub kind_of : PvType → Kind
kind_of Int = numbers
kind_of Truth = truths
kind_of (Object class) = objects class
kind_of IntArray = int_arrays
kind_of TruthArray = truth_arrays
kind_of Null = nulls

abbrev pub field_kind : Program → Name → Name → Option Kind
field_kind p class name = option_map kind_of (field_type p class name)

-- a value for each parameter, of its type in a heap
abbrev pub AreArguments : Things → List Parameter → List Value → Type 0
AreArguments heap [] [] = Unit {0}
AreArguments heap [] (v ∷ vs) = ⊥
AreArguments heap (p ∷ ps) [] = ⊥
AreArguments heap (p ∷ ps) (v ∷ vs) = HasKind heap (kind_of p.1) v × AreArguments heap ps vs

-- what a run starts from: a finite heap, an object of a class, a method, arguments
pub record Start : Type 0 where
  pub heap : Things
  pub class : Name
  pub object : ℕ
  pub method : Method
  pub arguments : List Value

abbrev pub frame_of_start : Start → Frame
frame_of_start s = entered (heap_of s.heap) s.class s.method s.object s.arguments

-- the method is declared under a name, heap and arguments are well typed, and the precondition, which asks for nothing but
-- permissions, is met and asks for no more than there is
pub record IsStart (p : Program) (s : Start) : Type 0 where
  pub typed : IsWellTyped (field_kind p) s.heap
  pub object : class_of s.heap s.object ≡ Some s.class
  pub name : Name
  pub declared : method_named p s.class name ≡ Some s.method
  pub arguments : AreArguments s.heap s.method.parameters s.arguments
  pub plain : is_plain s.method.contract.before ≡ true
  pub met : IsMet (only_now (heap_of s.heap)) (outer_scene s.object s.method.parameters s.arguments) s.method.contract.before
  pub fit : AmountsFit (only_now (heap_of s.heap)) (outer_scene s.object s.method.parameters s.arguments) s.method.contract.before

-- what stands where no thread, no formula and no block is

abbrev pub no_thread : Thread
no_thread = record { role = Entry; frames = [] }

-- a contract that asks for nothing
abbrev pub true_formula : Formula
true_formula = Fact (Constant (value.Truth true)) (record { from = 0; to = 0 })

abbrev pub no_team : Team
no_team = record {
  counted = false;
  variable = record { 0 = 0 };
  low = Constant no_value;
  high = Constant no_value;
  shared = record { one = record { before = true_formula; after = true_formula }; each_before = NoItems; each_after = NoItems };
}

abbrev pub no_block : OpenBlock
no_block = record { opener = 0; low = pos 0; high = pos 0; mode = Free; first = 0; team = no_team; sent = λ label sender. false }

-- thread 0 runs the method; every object is idle, uncommitted and unlocked
abbrev pub first_world : Start → World
first_world s = record {
  heap = heap_of s.heap;
  count = 1;
  threads = at_number 0 (record { role = Entry; frames = frame_of_start s ∷ [] }) (λ i. no_thread);
  block_count = 0;
  blocks = λ number. no_block;
  holder = λ object. None;
  committed = λ object. false;
  state = λ object. ThreadState.Idle;
}
