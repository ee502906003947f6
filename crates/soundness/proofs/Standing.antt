-- Where threads stand in a reached world: at barriers and messages in the own body of a member, which receives each label once.
use Rattle.std.proofs.Common.{◌≡◌, ℕ, ℤ, Bool, true, false, ◌||◌, Option, List, [], ◌∷◌, ◌++◌, refl, subst, ap, ◌∙◌}
use Rattle.std.proofs.lemmas.Bool.{or_parts}
use Rattle.pv_base.specs.declared.Name.{Name}
use Rattle.pv_ast.specs.declared.Program.{Program}
use Rattle.pv_base.specs.Names.{same_name}
use Rattle.pv_ast.specs.Rules.WellFormed.{IsWellFormed}
use Rattle.pv_picks.specs.Plain.Core.{Team, Message, Statement, Assign, If, While, Members, Meet, Act, Fold, Unfold, Assert, Send, Receive, Return, Block, Stop, Then}
use Rattle.pv_picks.specs.Machine.Tasks.{Step, AtRead, AtWrite, AtLength, AtNewObject, AtNewArray, AtAssert, AtFold, AtHead, AtCall, AtAction, AtOpen, AtClose, AtArrive, AtLeave, AtSend, AtReceive, Task, Evaluate, EvaluateAll, Combine, Choose, Branch, Turn, Put, Drop, Give, Unfolded, Run, Stand, Resume}
use Rattle.pv_picks.specs.Machine.Frames.{Frame}
use Rattle.pv_picks.specs.Machine.Safety.{IsReached}
use Rattle.pv_picks.specs.Machine.Worlds.{Role, Entry, RunOf, MemberOf, World}
use Rattle.core_trees.specs.Messages.{received_by, received_in_block}
use Rattle.core_trees.specs.Placing.{Environment, InMethod}
use Rattle.pv_picks.specs.Elaborating.Programs.{core_of}
use Rattle.core_names.specs.Carrying.{Opening, Membership, membership_of, own_over, AllFrames, InWorld}
use Rattle.account.specs.Messages.{StatementExchanges, BlockExchanges, TaskExchanges, TasksExchange}
use Rattle.core_trees.specs.Formulas.{LabelsDiffer}
use Rattle.soundness.specs.Waiting.{StepShares, TasksShare, received_by_task, received_in_tasks, environment_of, FrameShares}
use Rattle.soundness.specs.WorldLaws.{IsAmongMembers, MembersStandInTheirBodies, LabelsAreReceivedOnce}
use Rattle.soundness.proofs.Bodies.{HasNone}
use Rattle.soundness.proofs.Carried.{reached_shares}
use Rattle.soundness.proofs.ProgramsShare.{methods_share}

-- The frames of a thread

abbrev pub teams_of : World → ℕ → Team
teams_of w number = (w.blocks number).team

-- what the innermost frame of a thread is a member's own body of
abbrev pub own_of : (w : World) → InWorld FrameShares w → ℕ → List Frame → Option Membership
own_of w all i below = own_over (membership_of (teams_of w) all.0 (w.threads i).role) below

-- what it shares
pub innermost : (w : World) (all : InWorld FrameShares w) (i : ℕ) (f : Frame) (below : List Frame)
    → (w.threads i).frames ≡ f ∷ below → FrameShares (own_of w all i below) f
innermost w all i f below stack =
    (subst (AllFrames FrameShares (membership_of (teams_of w) all.0 (w.threads i).role)) stack (all.1 i)).0

pub shares_in : (p : Program) → IsWellFormed p → (w : World) → IsReached (core_of p) w → InWorld FrameShares w
shares_in p well w reached = reached_shares (core_of p) (methods_share p well) w reached

-- Members

-- a frame that isn't in the body of a method is that of a member, by itself
pub record IsOwn (role : Role) (below : List Frame) : Type 0 where
  pub block : ℕ
  pub position : ℤ
  pub role_is : role ≡ MemberOf block position
  pub alone : below ≡ []

own : (teams : ℕ → Team) (openings : ℕ → Opening) (role : Role) (below : List Frame)
    → (environment_of (own_over (membership_of teams openings role) below) ≡ InMethod → ⊥) → IsOwn role below
own teams openings role (g ∷ below) apart = absurd (apart refl)
own teams openings Entry [] apart = absurd (apart refl)
own teams openings (RunOf object) [] apart = absurd (apart refl)
own teams openings (MemberOf b position) [] apart = record { block = b; position = position; role_is = refl; alone = refl }

-- no method's body shares a barrier or a message
not_in_method : (environment : Environment) (position : Option Name) (step : Step) → IsAmongMembers step
    → StepShares environment position step
    → environment ≡ InMethod → ⊥
not_in_method environment position (AtArrive barrier span) among shares is = let e = shares.0 in absurd (cc (e, is))
not_in_method environment position (AtLeave barrier span) among shares is = let e = shares.0 in absurd (cc (e, is))
not_in_method environment position (AtSend m span) among shares is = absurd (cc (shares, is))
not_in_method environment position (AtReceive m span) among shares is = absurd (cc (shares, is))
not_in_method environment position (AtRead spot span) among shares is = absurd among
not_in_method environment position (AtWrite spot span) among shares is = absurd among
not_in_method environment position (AtLength type span) among shares is = absurd among
not_in_method environment position (AtNewObject class) among shares is = absurd among
not_in_method environment position (AtNewArray type span) among shares is = absurd among
not_in_method environment position (AtAssert formula) among shares is = absurd among
not_in_method environment position (AtFold class name count span) among shares is = absurd among
not_in_method environment position (AtHead named loop) among shares is = absurd among
not_in_method environment position (AtCall class name count span) among shares is = absurd among
not_in_method environment position (AtAction action class span) among shares is = absurd among
not_in_method environment position (AtOpen team body) among shares is = absurd among
not_in_method environment position (AtClose block) among shares is = absurd among

-- what a thread shares where it stands
pub stands_sharing : (w : World) (all : InWorld FrameShares w) (i : ℕ) (f : Frame) (below : List Frame)
    → (stack : (w.threads i).frames ≡ f ∷ below) (step : Step) (rest : List Task) → f.tasks ≡ Stand step ∷ rest
    → StepShares (environment_of (own_of w all i below)) (innermost w all i f below stack).position step
stands_sharing w all i f below stack step rest is =
    let k = innermost w all i f below stack in
    (subst (TasksShare (environment_of (own_of w all i below)) k.position) is k.tasks).0

pub stand_in_their_bodies : MembersStandInTheirBodies
stand_in_their_bodies p well w reached i f below stack step rest is among =
    let all = shares_in p well w reached in
    let o = own (teams_of w) all.0 (w.threads i).role below
    (not_in_method _ _ step among (stands_sharing w all i f below stack step rest is)) in (
      o.block,
      o.position,
      record { role = o.role_is; stack = stack ∙ ap (λ fs. f ∷ fs) o.alone; stands = is },
    )

-- Messages

-- what has no message with a label receives none with it
module _ (label : Name) where
  abbrev IsOther : Message → Type 0
  IsOther m = same_name label m.label ≡ false

  abbrev Anything : Message → Type 0
  Anything m = Unit {0}

  none_first : (xs ys : List Message) → HasNone label (xs ++ ys) → HasNone label xs × HasNone label ys
  none_first [] ys h = (refl, h)
  none_first (x ∷ xs) ys h =
      let a = or_parts (same_name label x.label) _ h in
      let b = none_first xs ys a.1 in (neither (same_name label x.label) _ a.0 b.0, b.1)
    where
      neither : (a b : Bool) → a ≡ false → b ≡ false → (a || b) ≡ false
      neither true b h k = absurd cc
      neither false b h k = k

  one_other : (m : Message) → HasNone label (m ∷ []) → IsOther m
  one_other m h = (or_parts (same_name label m.label) false h).0

  mutual
    statement_others : (s : Statement) → HasNone label (received_by s) → StatementExchanges Anything IsOther s
    statement_others (If e first second) h =
        let a = none_first (received_in_block first) (received_in_block second) h in
        (block_others first a.0, block_others second a.1)
    statement_others (While variables f e body span) h = block_others body h
    statement_others (Receive m span) h = one_other m h
    statement_others (Send m span) h = tt
    statement_others (Members team body span) h = tt
    statement_others (Meet barrier span) h = tt
    statement_others (Assign target right span) h = tt
    statement_others (Act action class e span) h = tt
    statement_others (Fold class name e arguments span) h = tt
    statement_others (Unfold class name e arguments span) h = tt
    statement_others (Assert f span) h = tt
    statement_others (Return e span) h = tt

    block_others : (b : Block) → HasNone label (received_in_block b) → BlockExchanges Anything IsOther b
    block_others Stop h = tt
    block_others (Then s b) h =
        let a = none_first (received_by s) (received_in_block b) h in (statement_others s a.0, block_others b a.1)

  step_others : (step : Step) → HasNone label (received_by_task (Stand step)) → TaskExchanges Anything IsOther (Stand step)
  step_others (AtHead named loop) h = block_others loop.body h
  step_others (AtReceive m span) h = one_other m h
  step_others (AtSend m span) h = tt
  step_others (AtArrive barrier span) h = tt
  step_others (AtLeave barrier span) h = tt
  step_others (AtRead spot span) h = tt
  step_others (AtWrite spot span) h = tt
  step_others (AtLength type span) h = tt
  step_others (AtNewObject class) h = tt
  step_others (AtNewArray type span) h = tt
  step_others (AtAssert formula) h = tt
  step_others (AtFold class name count span) h = tt
  step_others (AtCall class name count span) h = tt
  step_others (AtAction action class span) h = tt
  step_others (AtOpen team body) h = tt
  step_others (AtClose block) h = tt

  task_others : (task : Task) → HasNone label (received_by_task task) → TaskExchanges Anything IsOther task
  task_others (Branch a b) h =
      let k = none_first (received_in_block a) (received_in_block b) h in (block_others a k.0, block_others b k.1)
  task_others (Turn loop) h = block_others loop.body h
  task_others (Run b) h = block_others b h
  task_others (Stand step) h = step_others step h
  task_others (Evaluate e) h = tt
  task_others (EvaluateAll es) h = tt
  task_others (Combine combination) h = tt
  task_others (Choose a b) h = tt
  task_others (Put name) h = tt
  task_others Drop h = tt
  task_others Give h = tt
  task_others (Unfolded class name count span) h = tt
  task_others (Resume class m object arguments) h = tt

  tasks_others : (tasks : List Task) → HasNone label (received_in_tasks tasks) → TasksExchange Anything IsOther tasks
  tasks_others [] h = tt
  tasks_others (task ∷ rest) h =
      let a = none_first (received_by_task task) (received_in_tasks rest) h in (task_others task a.0, tasks_others rest a.1)

pub received_once : LabelsAreReceivedOnce
received_once p well w reached i f below stack m span rest is =
    let k = innermost w (shares_in p well w reached) i f below stack in
    tasks_others m.label rest (subst (λ ts. LabelsDiffer (received_in_tasks ts)) is k.once).0
