-- Messages on their way: what was sent to a member that still receives it lies at that member.
use Rattle.std.specs.Prelude.{◌≡◌, ◌<◌, ℕ, ℤ, pos, ◌-ℤ◌, Bool, true, false, Some, List, [], ◌∷◌}
use Rattle.std.specs.List.{AllByRecursion}
use Rattle.pv_base.specs.declared.Name.{Name}
use Rattle.pv_base.specs.Names.{same_name}
use Rattle.pv_picks.specs.Plain.Core.{Message, Statement, If, While, Send, Receive, Block, Stop, Then, Program}
use Rattle.pv_picks.specs.Formulas.Heaps.{Heap}
use Rattle.pv_picks.specs.Machine.Tasks.{AtHead, AtSend, AtReceive, Task, Branch, Turn, Run, Stand}
use Rattle.pv_picks.specs.Machine.Frames.{Frame}
use Rattle.pv_picks.specs.Machine.Worlds.{MemberOf, OpenBlock, Thread}
use Rattle.account_formulas.specs.Owning.{Amounts, KeepsOwning}
use Rattle.account.specs.Owners.{Opened, Mail, letter, Owners}
use Rattle.account.specs.Blocks.{scene_at}

-- Each message that is sent has one property, and each that is received another. The messages of a block further in are those of
-- its members.

abbrev mutual
  pub StatementExchanges : (Message → Type 0) → (Message → Type 0) → Statement → Type 0
  StatementExchanges Sent Received (If e first second) =
      BlockExchanges Sent Received first × BlockExchanges Sent Received second
  StatementExchanges Sent Received (While assigned invariant e body span) = BlockExchanges Sent Received body
  StatementExchanges Sent Received (Send m span) = Sent m
  StatementExchanges Sent Received (Receive m span) = Received m
  StatementExchanges Sent Received _ = Unit {0}

  pub BlockExchanges : (Message → Type 0) → (Message → Type 0) → Block → Type 0
  BlockExchanges Sent Received Stop = Unit {0}
  BlockExchanges Sent Received (Then s b) = StatementExchanges Sent Received s × BlockExchanges Sent Received b

abbrev pub TaskExchanges : (Message → Type 0) → (Message → Type 0) → Task → Type 0
TaskExchanges Sent Received (Branch a b) = BlockExchanges Sent Received a × BlockExchanges Sent Received b
TaskExchanges Sent Received (Turn l) = BlockExchanges Sent Received l.body
TaskExchanges Sent Received (Run b) = BlockExchanges Sent Received b
TaskExchanges Sent Received (Stand (AtHead named l)) = BlockExchanges Sent Received l.body
TaskExchanges Sent Received (Stand (AtSend m span)) = Sent m
TaskExchanges Sent Received (Stand (AtReceive m span)) = Received m
TaskExchanges Sent Received _ = Unit {0}

abbrev pub TasksExchange : (Message → Type 0) → (Message → Type 0) → List Task → Type 0
TasksExchange Sent Received tasks = AllByRecursion (TaskExchanges Sent Received) tasks

-- messages go from and to the body of a member, which is its last frame
abbrev pub bottom_tasks : List Frame → List Task
bottom_tasks [] = []
bottom_tasks (f ∷ []) = f.tasks
bottom_tasks (f ∷ g ∷ fs) = bottom_tasks (g ∷ fs)

-- each message has one meaning in its block
abbrev pub IsKnown : (Name → Message) → Message → Type 0
IsKnown messages m = messages m.label ≡ m

-- a thread receives no message with the label any more
abbrev pub ReceivesNone : Name → List Frame → Type 0
ReceivesNone label frames = TasksExchange (λ m. Unit {0}) (λ m. same_name label m.label ≡ false) (bottom_tasks frames)

-- a letter of the mail suffices for the message's formula, at its sender's position
pub record Lies (p : Program) (flags : ℕ → Bool) (heap : Heap) (opening : Opened) (block : OpenBlock) (sender : ℤ) (m : Message)
    (label : Name) (mail : Mail) : Type 0 where
  pub part : Amounts
  pub there : letter label mail ≡ Some part
  pub owns : KeepsOwning p flags heap (scene_at opening block.team sender) m.formula part

pub record MailFits (p : Program) (flags : ℕ → Bool) (heap : Heap) (count : ℕ) (threads : ℕ → Thread) (blocks : ℕ → OpenBlock)
    (o : Owners) : Type 0 where
  -- the messages of a member's body are those of its block
  pub known : (j : ℕ) → j < count → (b : ℕ) (position : ℤ) → (threads j).role ≡ MemberOf b position
      → TasksExchange (IsKnown (o.messages b)) (IsKnown (o.messages b)) (bottom_tasks (threads j).frames)
  -- what was sent and will be received lies at the receiver
  pub there : (j : ℕ) → j < count → (b : ℕ) (position : ℤ) → (threads j).role ≡ MemberOf b position
      → (label : Name) → (ReceivesNone label (threads j).frames → ⊥)
      → (blocks b).sent label (position -ℤ pos (o.messages b label).distance) ≡ true
      → Lies p flags heap (o.openings b) (blocks b) (position -ℤ pos (o.messages b label).distance) (o.messages b label) label
      (o.mail j)
