-- Reached worlds of a well typed program are well typed.
use Rattle.std.proofs.Common.{◌≡◌, ℕ, zero, suc, Some, List, [], ◌∷◌, nat_eq, refl, subst}
use Rattle.pv_base.specs.declared.Name.{Name}
use Rattle.pv_ast.specs.declared.PvType.TheVariants.{Object}
use Rattle.pv_values.specs.declared.value.Value.{Value}
use Rattle.pv_values.specs.declared.value.Value.TheVariants as value
use Rattle.pv_values.specs.Heaps.{Things}
use Rattle.pv_values.specs.Typing as typing
use Rattle.pv_values.specs.Typing.{Kind, numbers, truths, objects, int_arrays, truth_arrays, nulls}
use Rattle.pv_picks.specs.Plain.Core.{Parameter, Program}
use Rattle.pv_picks.specs.Formulas.Heaps.{Heap, heap_of}
use Rattle.pv_picks.specs.Machine.Starts.{field_kind, kind_of, AreArguments, Start, frame_of_start, IsStart, no_thread, first_world}
use Rattle.pv_picks.specs.Machine.Worlds.{Entry, World}
use Rattle.pv_picks.specs.Machine.Steps.{Result, act}
use Rattle.pv_picks.specs.Machine.Safety.{Event, IsReached, world_after, happens, run_events}
use Rattle.pv_picks.specs.Typing.Heaps.{HasKind, IsTypedHeap}
use Rattle.machine_laws.proofs.Typed.{list_typed}
use Rattle.pv_picks.specs.Typing.Expressions.{answer_of}
use Rattle.pv_picks.specs.Typing.Blocks.{types_of, ProgramFits}
use Rattle.pv_picks.specs.Typing.Frames.{HasType, ValuesFit}
use Rattle.pv_picks.specs.Typing.Worlds.{WorldFits}
use Rattle.machine_laws.proofs.Kept.{chosen-fits, entered-fits}
use Rattle.machine_laws.proofs.TypedSteps.{act-fits}

pub kind_there : (things : Things) (kind : Kind) (v : Value) → typing.HasKind things kind v → HasKind (heap_of things) kind v
kind_there things numbers v h = h
kind_there things truths v h = h
kind_there things (objects class) v h = h
kind_there things int_arrays v h = h
kind_there things truth_arrays v h = h
kind_there things nulls v h = h

arguments_there : (things : Things) (ps : List Parameter) (vs : List Value) → AreArguments things ps vs
    → ValuesFit (heap_of things) (types_of ps) vs
arguments_there things [] [] h = tt
arguments_there things [] (v ∷ vs) h = absurd h
arguments_there things (x ∷ ps) [] h = absurd h
arguments_there things (x ∷ ps) (v ∷ vs) h = (kind_there things (kind_of x.1) v h.0, arguments_there things ps vs h.1)

pub object_there : (heap : Heap) (class : Name) (n : ℕ) → heap.class n ≡ Some class
    → HasType heap (Object class) (value.Reference n)
object_there heap class zero e = tt
object_there heap class (suc n) e = e

-- a start of a well typed program
pub start-fits : (p : Program) → ProgramFits p → (s : Start) → IsStart p s → WorldFits p (first_world s)
start-fits p program s t = record {
  heap = (list_typed (field_kind p) s.heap).0 t.typed;
  threads = λ j. chosen-fits p (heap_of s.heap) (nat_eq j 0) (record { role = Entry; frames = frame_of_start s ∷ [] }) no_thread (
    Some (answer_of s.method),
    entered-fits p (heap_of s.heap) s.class s.method s.object s.arguments
        (program.methods s.class t.name s.method t.declared) (object_there (heap_of s.heap) s.class s.object t.object)
        (arguments_there s.heap s.method.parameters s.arguments t.arguments),
    tt,
  )
      tt;
}

happens_fits : (p : Program) → ProgramFits p → (event : Event) (w : World) → WorldFits p w → WorldFits p (happens p event w)
happens_fits p program event w t = go (act p w event.mode event.thread) refl
  where
    go : (r : Result) → act p w event.mode event.thread ≡ r → WorldFits p (world_after w r)
    go (Result.Went v) e = act-fits p program w v event.mode event.thread t e
    go Result.Waits e = t
    go Result.Ended e = t
    go (Result.Wrong named span) e = t

run_fits : (p : Program) → ProgramFits p → (events : List Event) (w : World) → WorldFits p w → WorldFits p (run_events p events w)
run_fits p program [] w t = t
run_fits p program (event ∷ events) w t = run_fits p program events (happens p event w) (happens_fits p program event w t)

-- each reached world is well typed
pub reached-fits : (p : Program) → ProgramFits p → (w : World) → IsReached p w → WorldFits p w
reached-fits p program w r =
    subst (λ v. WorldFits p v) r.leads (run_fits p program r.events (first_world r.start) (start-fits p program r.start r.starts))

-- and so is its heap
pub reached-typed : (p : Program) → ProgramFits p → (w : World) → IsReached p w → IsTypedHeap (field_kind p) w.heap
reached-typed p program w r = let t : WorldFits p w = reached-fits p program w r in t.heap
