-- The laws of this crate, as they are stated.
use Rattle.std.proofs.Common.{◌≡◌, ◌<◌, ℕ, List, ◌∷◌, ap, ◌∙◌}
use Rattle.pv_picks.specs.Plain.Core.{Program}
use Rattle.pv_picks.specs.Machine.Frames.{Frame}
use Rattle.pv_picks.specs.Machine.Worlds.{World, has_no_frame}
use Rattle.pv_picks.specs.Machine.Safety.{IsReached}
use Rattle.account_formulas.specs.Growing.{HeapFits}
use Rattle.account_formulas.specs.Gaining.{PredicatesFit}
use Rattle.account.specs.Accounts.{Account}
use Rattle.machine_laws.proofs.Reached.{reached-typed}
use Rattle.machine_laws.proofs.Fresh.{reached_fresh}
use Rattle.account.specs.Verified.{IsVerifiedThroughout}
use Rattle.account.proofs.Supplying.{heaps_fit}
use Rattle.account.proofs.Framing.{predicates_taken_in}
use Rattle.account_calls.specs.Statements.{CallsKeep, ReturnsKeep, EntryEndsKeep, NewObjectsKeep, NewArraysKeep}
use Rattle.account_calls.proofs.Calling.{call_keeps}
use Rattle.account_calls.proofs.Arrayed.{array_keeps}
use Rattle.account_calls.proofs.Created.{object_keeps}
use Rattle.account_calls.proofs.Returned.{return_keeps, entry_ends}

module _ (p : Program) (verified : IsVerifiedThroughout p) (w : World) (reached : IsReached p w) (a : Account p w) where
  pub its_heap : HeapFits p w.heap
  its_heap = heaps_fit p verified.typed.bodies w reached

  pub its_predicates : PredicatesFit p w.heap
  its_predicates = predicates_taken_in p verified w.heap (heaps_fit p verified.typed.bodies w reached)

  -- a thread that has a frame is one of the world's
  pub its_number : (i : ℕ) (f : Frame) (below : List Frame) → (w.threads i).frames ≡ f ∷ below → i < w.count
  its_number i f below is = a.threads.live i (ap has_no_frame is)

pub calls_keep : CallsKeep
calls_keep p verified w reached a i f below stack at mode =
    call_keeps p verified w (its_heap p verified w reached a) (its_predicates p verified w reached a) a i
    (its_number p verified w reached a i f below stack) f below stack at.class at.method at.count at.span at.rest at.tasks mode

pub returns_keep : ReturnsKeep
returns_keep p verified w reached a i f below stack at mode =
    return_keeps p w (its_heap p verified w reached a) (its_predicates p verified w reached a) a i
    (its_number p verified w reached a i f below stack) f at.tasks at.caller at.others (stack ∙ ap (λ fs. f ∷ fs) at.waits) mode

pub entry_ends_keep : EntryEndsKeep
entry_ends_keep p verified w reached a i f below stack at mode =
    entry_ends p w (its_heap p verified w reached a) (its_predicates p verified w reached a) a i
    (its_number p verified w reached a i f below stack) f at.tasks (stack ∙ ap (λ fs. f ∷ fs) at.alone) at.entry mode

pub new_objects_keep : NewObjectsKeep
new_objects_keep p verified w reached a i f below stack at mode =
    object_keeps p verified w (its_heap p verified w reached a) (reached-typed p verified.typed.bodies w reached)
    (reached_fresh p verified.typed.bodies w reached) a i (its_number p verified w reached a i f below stack) f below stack
    at.class at.rest at.tasks mode

pub new_arrays_keep : NewArraysKeep
new_arrays_keep p verified w reached a i f below stack at mode =
    array_keeps p verified w (its_heap p verified w reached a) (reached-typed p verified.typed.bodies w reached) a i
    (its_number p verified w reached a i f below stack) f below stack at.type at.span at.rest at.tasks mode
