-- Where a thread of a reached world may stand, and by which law its step keeps the account: a line for each.
use Rattle.std.proofs.Common.{◌≡◌, ◌⊎◌, ◌∙◌, inl, inr, refl, sym, subst, ap, ℕ, ℤ, Bool, true, false, List, [], ◌∷◌}
use Rattle.std.specs.Prelude.{not}
use Rattle.pv_ast.specs.declared.PvType.{PvType}
use Rattle.pv_ast.specs.declared.Program.{Program}
use Rattle.pv_ast.specs.Rules.WellFormed.{IsWellFormed}
use Rattle.pv_picks.specs.declared.check.Check.{Check}
use Rattle.pv_picks.specs.declared.check.Check.TheVariants as check
use Rattle.pv_picks.specs.Plain.Core as core
use Rattle.pv_picks.specs.Plain.Core.{Parameter, Fork, Join', Lock, Unlock, Commit}
use Rattle.pv_picks.specs.Formulas.Heaps.{Heap}
use Rattle.pv_picks.specs.Machine.Tasks.{Step, AtRead, AtWrite, AtLength, AtNewObject, AtNewArray, AtAssert, AtFold, AtHead, AtCall, AtAction, AtOpen, AtClose, AtArrive, AtLeave, AtSend, AtReceive, Loop, Task, Evaluate, EvaluateAll, Combine, Choose, Branch, Turn, Put, Drop, Give, Unfolded, Run, Stand, Resume}
use Rattle.pv_picks.specs.Machine.Frames.{Frame}
use Rattle.pv_picks.specs.Machine.Worlds.{Role, Entry, RunOf, MemberOf, Mode, World, has_no_frame, is_held_back}
use Rattle.pv_picks.specs.Machine.Steps.{Result, waits_unless, act_tasks, act_frames, act}
use Rattle.pv_picks.specs.Machine.Safety.{IsReached}
use Rattle.pv_picks.specs.Elaborating.Programs.{core_of}
use Rattle.pv_picks.specs.Verdicts.Theorems.{IsVerified}
use Rattle.account_formulas.specs.Growing.{HeapFits}
use Rattle.account_formulas.specs.Gaining.{PredicatesFit}
use Rattle.account.specs.Scoped as scoped
use Rattle.account.specs.Scoped.{TasksSay, FrameSays, stands, begins, goes_back}
use Rattle.account.specs.Frames as account
use Rattle.account.specs.Frames.{standing_in, AreRunsOf}
use Rattle.account.specs.Members.{IsMemberAt}
use Rattle.account.specs.Labels.{Standing, KeepsTheAccount}
use Rattle.account.specs.Verified.{IsVerifiedThroughout}
use Rattle.account.specs.Accounts.{Account, Kept}
use Rattle.account.proofs.Supplying.{heaps_fit}
use Rattle.account.proofs.Framing.{predicates_taken_in}
use Rattle.soundness.proofs.Verifying.{verified_throughout}
use Rattle.account_accesses.specs.Statements.{StepKeeps}
use Rattle.account_accesses.proofs.Supporting.{supported}
use Rattle.account_accesses.proofs.Reading.{read_keeps}
use Rattle.account_accesses.proofs.Writing.{write_keeps}
use Rattle.account_accesses.proofs.Length.{length_keeps}
use Rattle.account_accesses.proofs.Asserting.{assert_keeps}
use Rattle.account_accesses.proofs.Folding.{fold_keeps}
use Rattle.account_accesses.proofs.Heads.{entry_keeps, keep_keeps}
use Rattle.account_calls.specs.Statements.{IsAtCall, IsAtReturn, IsAtEntryEnd, IsAtNewObject, IsAtNewArray}
use Rattle.account_calls.proofs.Laws.{calls_keep, returns_keep, entry_ends_keep, new_objects_keep, new_arrays_keep}
use Rattle.account_threads.specs.Statements.{IsAtAction, IsAtRunEnd}
use Rattle.account_threads.proofs.Laws.{forks_keep, joins_keep, locks_keep, unlocks_keep, commits_keep, run_ends_keep}
use Rattle.account.specs.Openings.{IsAtOpening}
use Rattle.account_opening.proofs.Keeping.{openings_keep}
use Rattle.account_blocks.proofs.Laws.{sends_keep, receives_keep, arrivals_keep, ends_keep, closes_keep, leaves_keep}
use Rattle.soundness.specs.WorldLaws.{IsAmongMembers, FormsStayAlike}
use Rattle.soundness.proofs.StayAlike.{stay_alike}
use Rattle.soundness.proofs.Leaving.{places_tell}
use Rattle.soundness.proofs.OpeningsStand.{openings_stand}
use Rattle.soundness.proofs.Standing.{stand_in_their_bodies, received_once}

-- a thread stands at the head of a loop where it begins, or where it goes back
head_says : (c : scoped.Standing) (inner : Bool) (xs : List Parameter) (given : Bool) (stack : List PvType) (named : Check)
    (l : Loop) (rest : List Task) → TasksSay c inner xs given stack (Stand (AtHead named l) ∷ rest)
    → (named ≡ check.LoopEntry) ⊎ (named ≡ check.LoopKeep)
head_says c inner xs given stack named l rest (stands under fits speaks says) = absurd speaks
head_says c inner xs given stack named l rest (begins loop says) = inl refl
head_says c inner xs given stack named l rest (goes_back within) = inr refl

head_is : (p : core.Program) (flags : ℕ → Bool) (heap : Heap) (f : Frame) (below : List Frame) (rs : List account.Run)
    → AreRunsOf p flags heap (f ∷ below) rs → (named : Check) (l : Loop) (rest : List Task)
    → f.tasks ≡ Stand (AtHead named l) ∷ rest → (named ≡ check.LoopEntry) ⊎ (named ≡ check.LoopKeep)
head_is p flags heap f below [] runs named l rest is = absurd runs
head_is p flags heap f below (r ∷ rs) runs named l rest is =
    head_says (standing_in p f.class r.body r.outer) r.inner r.scope r.given r.stack named l rest
    (subst (FrameSays (standing_in p f.class r.body r.outer) r.inner r.scope r.given r.stack) is runs.0.tasks)

waits_on : (p : core.Program) (b : Bool) (r : Result) → r ≡ Result.Waits → Kept p (waits_unless b r)
waits_on p true r is = subst (Kept p) (sym is) tt
waits_on p false r is = tt

-- In a reached world that is accounted for, of a well formed program on none of whose units the judge fails
module _ (p : Program) (well : IsWellFormed p) (verified : IsVerified p) (w : World)
    (reached : IsReached (core_of p) w) (a : Account (core_of p) w) (mode : Mode) (i : ℕ) where
  abbrev pub Keeps : Type 0
  Keeps = Kept (core_of p) (act (core_of p) w mode i)

  throughout : IsVerifiedThroughout (core_of p)
  throughout = verified_throughout p well verified

  sound : HeapFits (core_of p) w.heap
  sound = heaps_fit (core_of p) throughout.typed.bodies w reached

  framed : PredicatesFit (core_of p) w.heap
  framed = predicates_taken_in (core_of p) throughout w.heap sound

  alike : FormsStayAlike w
  alike = stay_alike p well w reached

  module _ (f : Frame) (below : List Frame) (stack : (w.threads i).frames ≡ f ∷ below) where
    -- by the law of a label
    by : (Stands : Standing) → KeepsTheAccount Stands → Stands f below (w.threads i).role → Keeps
    by Stands law at = law (core_of p) throughout w reached a i f below stack at mode

    by_access : (step : Step) (rest : List Task) → f.tasks ≡ Stand step ∷ rest → StepKeeps step → Keeps
    by_access step rest is law =
        law (core_of p) w (supported (core_of p) throughout.typed.bodies throughout w reached) a i f below rest
        (record { frames = stack; tasks = is }) mode

    by_member : (step : Step) (rest : List Task) → f.tasks ≡ Stand step ∷ rest → IsAmongMembers step
        → ((b : ℕ) (position : ℤ) → IsMemberAt w i b position f (Stand step ∷ rest) → Keeps) → Keeps
    by_member step rest is among law =
        let m = stand_in_their_bodies p well w reached i f below stack step rest is among in law m.0 m.1 m.2

    head_keeps : (named : Check) (l : Loop) (rest : List Task) → f.tasks ≡ Stand (AtHead named l) ∷ rest
        → (named ≡ check.LoopEntry) ⊎ (named ≡ check.LoopKeep) → Keeps
    head_keeps named l rest is (inl entry) =
        by_access (AtHead check.LoopEntry l) rest (is ∙ ap (λ n. Stand (AtHead n l) ∷ rest) entry) (entry_keeps l)
    head_keeps named l rest is (inr keep) =
        by_access (AtHead check.LoopKeep l) rest (is ∙ ap (λ n. Stand (AtHead n l) ∷ rest) keep) (keep_keeps l)

    head_told : (named : Check) (l : Loop) (rest : List Task) → f.tasks ≡ Stand (AtHead named l) ∷ rest
        → (named ≡ check.LoopEntry) ⊎ (named ≡ check.LoopKeep)
    head_told named l rest is =
        head_is (core_of p) w.committed w.heap f below (a.owners.runs i)
        (subst (λ fs. AreRunsOf (core_of p) w.committed w.heap fs (a.owners.runs i)) stack
        (a.threads.frames i (a.threads.live i (ap has_no_frame stack)))) named l rest is

    -- at a step
    step_keeps : (step : Step) (rest : List Task) → f.tasks ≡ Stand step ∷ rest → Keeps
    step_keeps (AtRead spot span) rest is = by_access (AtRead spot span) rest is (read_keeps spot span)
    step_keeps (AtWrite spot span) rest is = by_access (AtWrite spot span) rest is (write_keeps spot span)
    step_keeps (AtLength type span) rest is = by_access (AtLength type span) rest is (length_keeps type span)
    step_keeps (AtNewObject class) rest is = by IsAtNewObject new_objects_keep (record { class = class; rest = rest; tasks = is })
    step_keeps (AtNewArray type span) rest is =
        by IsAtNewArray new_arrays_keep (record { type = type; span = span; rest = rest; tasks = is })
    step_keeps (AtAssert formula) rest is = by_access (AtAssert formula) rest is (assert_keeps formula)
    step_keeps (AtFold class name count span) rest is =
        by_access (AtFold class name count span) rest is (fold_keeps class name count span)
    step_keeps (AtHead named l) rest is = head_keeps named l rest is (head_told named l rest is)
    step_keeps (AtCall class method count span) rest is =
        by IsAtCall calls_keep
        (record { class = class; method = method; count = count; span = span; rest = rest; tasks = is })
    step_keeps (AtAction Fork class span) rest is =
        by (IsAtAction Fork) forks_keep (record { class = class; span = span; rest = rest; tasks = is })
    step_keeps (AtAction Join' class span) rest is =
        by (IsAtAction Join') joins_keep (record { class = class; span = span; rest = rest; tasks = is })
    step_keeps (AtAction Lock class span) rest is =
        by (IsAtAction Lock) locks_keep (record { class = class; span = span; rest = rest; tasks = is })
    step_keeps (AtAction Unlock class span) rest is =
        by (IsAtAction Unlock) unlocks_keep (record { class = class; span = span; rest = rest; tasks = is })
    step_keeps (AtAction Commit class span) rest is =
        by (IsAtAction Commit) commits_keep (record { class = class; span = span; rest = rest; tasks = is })
    step_keeps (AtOpen team body) rest is =
        by IsAtOpening openings_keep (openings_stand p well w reached i f below stack team body rest is)
    step_keeps (AtClose block) rest is = closes_keep (core_of p) w a sound framed i f below stack block rest is mode
    step_keeps (AtArrive barrier span) rest is =
        by_member (AtArrive barrier span) rest is tt (λ b position at.
        arrivals_keep (core_of p) w a sound framed i b position f barrier span rest at
        (alike.arrivals i b position f barrier span rest at) mode)
    step_keeps (AtLeave barrier span) rest is =
        by_member (AtLeave barrier span) rest is tt (λ b position at.
        leaves_keep (core_of p) w a sound framed i b position f barrier span rest at
        (places_tell p well w reached i b position f barrier span rest at) mode)
    step_keeps (AtSend m span) rest is =
        by_member (AtSend m span) rest is tt (λ b position at.
        sends_keep (core_of p) w a sound framed i b position f m span rest at mode)
    step_keeps (AtReceive m span) rest is =
        by_member (AtReceive m span) rest is tt (λ b position at.
        receives_keep (core_of p) w a sound framed i b position f m span rest at
        (received_once p well w reached i f below stack m span rest is) mode)

    -- at the end of a body
    end_keeps : (role : Role) (others : List Frame) → (w.threads i).role ≡ role → below ≡ others → f.tasks ≡ [] → Keeps
    end_keeps role (g ∷ others) own under is =
        by IsAtReturn returns_keep (record { tasks = is; caller = g; others = others; waits = under })
    end_keeps Entry [] own under is = by IsAtEntryEnd entry_ends_keep (record { tasks = is; alone = under; entry = own })
    end_keeps (RunOf object) [] own under is =
        by IsAtRunEnd run_ends_keep (record { tasks = is; alone = under; object = object; run = own })
    end_keeps (MemberOf b position) [] own under is =
        ends_keep (core_of p) w a sound framed i b position f
        (record { role = own; stack = stack ∙ ap (λ fs. f ∷ fs) under; stands = is }) mode

    -- at any other task nothing is done
    others_keep : act_tasks (core_of p) w i f below mode f.tasks ≡ Result.Waits → Keeps
    others_keep is =
        subst (λ fs. Kept (core_of p) (act_frames (core_of p) w mode i fs)) (sym stack)
        (waits_on (core_of p) (not (is_held_back w i)) (act_tasks (core_of p) w i f below mode f.tasks) is)

    tasks_keep : (ts : List Task) → f.tasks ≡ ts → Keeps
    tasks_keep [] is = end_keeps (w.threads i).role below refl refl is
    tasks_keep (Stand step ∷ rest) is = step_keeps step rest is
    tasks_keep (Evaluate e ∷ rest) is = others_keep (ap (act_tasks (core_of p) w i f below mode) is)
    tasks_keep (EvaluateAll es ∷ rest) is = others_keep (ap (act_tasks (core_of p) w i f below mode) is)
    tasks_keep (Combine combination ∷ rest) is = others_keep (ap (act_tasks (core_of p) w i f below mode) is)
    tasks_keep (Choose e g ∷ rest) is = others_keep (ap (act_tasks (core_of p) w i f below mode) is)
    tasks_keep (Branch first second ∷ rest) is = others_keep (ap (act_tasks (core_of p) w i f below mode) is)
    tasks_keep (Turn loop ∷ rest) is = others_keep (ap (act_tasks (core_of p) w i f below mode) is)
    tasks_keep (Put name ∷ rest) is = others_keep (ap (act_tasks (core_of p) w i f below mode) is)
    tasks_keep (Drop ∷ rest) is = others_keep (ap (act_tasks (core_of p) w i f below mode) is)
    tasks_keep (Give ∷ rest) is = others_keep (ap (act_tasks (core_of p) w i f below mode) is)
    tasks_keep (Unfolded class name count span ∷ rest) is = others_keep (ap (act_tasks (core_of p) w i f below mode) is)
    tasks_keep (Run b ∷ rest) is = others_keep (ap (act_tasks (core_of p) w i f below mode) is)
    tasks_keep (Resume class m object arguments ∷ rest) is = others_keep (ap (act_tasks (core_of p) w i f below mode) is)

  frames_keep : (fs : List Frame) → (w.threads i).frames ≡ fs → Keeps
  frames_keep [] is = subst (λ fs. Kept (core_of p) (act_frames (core_of p) w mode i fs)) (sym is) tt
  frames_keep (f ∷ below) is = tasks_keep f below is f.tasks refl

  -- the step of a thread isn't wrong, and the world after it is accounted for
  pub keeps : Keeps
  keeps = frames_keep (w.threads i).frames refl
