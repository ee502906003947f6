-- A world in which a message was sent, where it lies at its receiver.
use Rattle.std.proofs.Common.{◌≡◌, ℕ, ◌<◌, ℤ, pos, Bool, true, false, if◌then◌else◌, ◌&&◌, List, [], ◌∷◌, refl, ap, sym, subst, ◌∙◌}
use Rattle.std.specs.Prelude.{nat_eq, ◌-ℤ◌}
use Rattle.pv_base.specs.declared.Name.{Name}
use Rattle.pv_values.specs.Heaps.{same_number}
use Rattle.pv_base.specs.Names.{same_name}
use Rattle.pv_picks.specs.Plain.Core.{Message, Program}
use Rattle.pv_picks.specs.Machine.Frames.{Frame}
use Rattle.pv_picks.specs.Machine.Tasks.{Task}
use Rattle.pv_picks.specs.Machine.Worlds.{MemberOf, OpenBlock, World, at_message, with_message}
use Rattle.pv_picks.proofs.Sames.{front, back, naturals_same, names_same, numbers_same}
use Rattle.account.specs.Frames.{Run}
use Rattle.account.specs.Owners.{Opened}
use Rattle.account.specs.Objects.{AtBottom}
use Rattle.account.specs.Blocks.{WaitsForMembers, IsMember, MemberRuns}
use Rattle.account.specs.Messages.{ReceivesNone, Lies}
use Rattle.account.specs.Accounts.{Account}

-- a block, with one message more
abbrev pub block_with : OpenBlock → Name → ℤ → OpenBlock
block_with block label sender = record block { sent = at_message label sender block.sent }

module _ (p : Program) (w : World) (b : ℕ) (label : Name) (sender : ℤ) (a : Account p w) where
  abbrev block_if : Bool → ℕ → OpenBlock
  block_if t c = if t then block_with (w.blocks b) label sender else w.blocks c

  waits_too : (o c : ℕ) (block : OpenBlock) (f : Frame) (r : Run) (rest : List Task)
      → WaitsForMembers p w.committed w.heap w.count w.threads w.block_count a.owners.left (a.owners.openings c) o c block f r
      rest
      → WaitsForMembers p w.committed w.heap w.count w.threads w.block_count a.owners.left (a.owners.openings c) o c
      (block_with block label sender) f r rest
  waits_too o c block f r rest k = record {
    number = k.number;
    opener = k.opener;
    class = k.class;
    scope = k.scope;
    scene = k.scene;
    typed = k.typed;
    contract = k.contract;
    alike = k.alike;
    closes = k.closes;
    counted = k.counted;
    roles = k.roles;
    ended = k.ended;
  }

  is_member_too : (opening : Opened) (block : OpenBlock) (position : ℤ) (f : Frame) (r : Run)
      → IsMember opening block position f r → IsMember opening (block_with block label sender) position f r
  is_member_too opening block position f r k = record {
    class = k.class;
    this = k.this;
    begun = k.begun;
    head = k.head;
    answer = k.answer;
    speech = k.speech;
    result = k.result;
    after = k.after;
    variable = k.variable;
    low = k.low;
    high = k.high;
  }

  bottom_too : (opening : Opened) (block : OpenBlock) (position : ℤ) (fs : List Frame) (rs : List Run)
      → AtBottom (IsMember opening block position) fs rs
      → AtBottom (IsMember opening (block_with block label sender) position) fs rs
  bottom_too opening block position [] rs h = tt
  bottom_too opening block position (f ∷ fs) [] h = absurd h
  bottom_too opening block position (f ∷ []) (r ∷ rs) h = is_member_too opening block position f r h
  bottom_too opening block position (f ∷ g ∷ fs) (r ∷ rs) h = bottom_too opening block position (g ∷ fs) rs h

  runs_too : (j c : ℕ) (block : OpenBlock) (position : ℤ)
      → MemberRuns p w.committed w.heap w.count w.threads (a.owners.left j) (a.owners.openings c) j c block position
      (a.owners.runs j)
      → MemberRuns p w.committed w.heap w.count w.threads (a.owners.left j) (a.owners.openings c) j c
      (block_with block label sender) position (a.owners.runs j)
  runs_too j c block position k = record {
    opener = k.opener;
    frame = k.frame;
    below = k.below;
    rest = k.rest;
    stack = k.stack;
    waits = k.waits;
    number = k.number;
    less = k.less;
    thread = k.thread;
    place = k.place;
    member = bottom_too (a.owners.openings c) block position (w.threads j).frames (a.owners.runs j) k.member;
    arrived = λ f r rs barrier span others e has is.
        let x = k.arrived f r rs barrier span others e has is in
        record { alike = x.alike; owns = x.owns; meets = x.meets };
  }

  lies_too : (c : ℕ) (block : OpenBlock) (from : ℤ) (m : Message) (name : Name) (j : ℕ)
      → Lies p w.committed w.heap (a.owners.openings c) block from m name (a.owners.mail j)
      → Lies p w.committed w.heap (a.owners.openings c) (block_with block label sender) from m name (a.owners.mail j)
  lies_too c block from m name j k = record { part = k.part; there = k.there; owns = k.owns }

  -- where the message lies at each thread that receives it, the world is accounted for
  pub recorded : ((j : ℕ) → j < w.count → (place : ℤ) → (w.threads j).role ≡ MemberOf b place
      → (ReceivesNone label (w.threads j).frames → ⊥) → place -ℤ pos (a.owners.messages b label).distance ≡ sender
      → Lies p w.committed w.heap (a.owners.openings b) (w.blocks b)
      (place -ℤ pos (a.owners.messages b label).distance) (a.owners.messages b label) label (a.owners.mail j))
      → Account p (with_message w b label sender)
  recorded new = record {
    owners = a.owners;
    threads = record { frames = a.threads.frames; live = a.threads.live };
    sums = a.sums;
    locks = a.locks;
    objects = a.objects;
    roles = a.roles;
    blocks = record {
      openers = λ o l f below r rs c rest e has is.
          waits_at o c f r rest (a.blocks.openers o l f below r rs c rest e has is) (nat_eq c b) refl;
      members = λ j l c position is live. runs_at j c position (a.blocks.members j l c position is live) (nat_eq c b) refl;
    };
    mail = record {
      known = a.mail.known;
      there = λ j l c position is name some was. there_at j l c position is name some (nat_eq c b) refl was;
    };
  }
    where
      waits_at : (o c : ℕ) (f : Frame) (r : Run) (rest : List Task)
          → WaitsForMembers p w.committed w.heap w.count w.threads w.block_count a.owners.left (a.owners.openings c) o c
          (w.blocks c) f r rest
          → (t : Bool) → nat_eq c b ≡ t
          → WaitsForMembers p w.committed w.heap w.count w.threads w.block_count a.owners.left (a.owners.openings c) o c
          (block_if t c) f r rest
      waits_at o c f r rest k false e = k
      waits_at o c f r rest k true e =
          waits_too o c (w.blocks b) f r rest
          (subst (λ z. WaitsForMembers p w.committed w.heap w.count w.threads w.block_count a.owners.left
          (a.owners.openings c) o c (w.blocks z) f r rest) (naturals_same c b e) k)

      runs_at : (j c : ℕ) (position : ℤ)
          → MemberRuns p w.committed w.heap w.count w.threads (a.owners.left j) (a.owners.openings c) j c (w.blocks c) position
          (a.owners.runs j)
          → (t : Bool) → nat_eq c b ≡ t
          → MemberRuns p w.committed w.heap w.count w.threads (a.owners.left j) (a.owners.openings c) j c (block_if t c)
          position (a.owners.runs j)
      runs_at j c position k false e = k
      runs_at j c position k true e =
          runs_too j c (w.blocks b) position
          (subst (λ z. MemberRuns p w.committed w.heap w.count w.threads (a.owners.left j) (a.owners.openings c) j c
          (w.blocks z) position (a.owners.runs j)) (naturals_same c b e) k)

      there_at : (j : ℕ) → j < w.count → (c : ℕ) (position : ℤ) → (w.threads j).role ≡ MemberOf c position → (name : Name)
          → (ReceivesNone name (w.threads j).frames → ⊥) → (t : Bool) → nat_eq c b ≡ t
          → (block_if t c).sent name (position -ℤ pos (a.owners.messages c name).distance) ≡ true
          → Lies p w.committed w.heap (a.owners.openings c) (block_if t c)
          (position -ℤ pos (a.owners.messages c name).distance) (a.owners.messages c name) name (a.owners.mail j)
      there_at j l c position is name some false e was = a.mail.there j l c position is name some was
      there_at j l c position is name some true e was =
          subst (λ z. Lies p w.committed w.heap (a.owners.openings z) (block_with (w.blocks b) label sender)
          (position -ℤ pos (a.owners.messages z name).distance) (a.owners.messages z name) name (a.owners.mail j)) (sym same)
          (lies_too b (w.blocks b) (position -ℤ pos (a.owners.messages b name).distance) (a.owners.messages b name) name j
          (by (same_name name label && same_number (position -ℤ pos (a.owners.messages b name).distance) sender) refl
          (subst (λ z. (block_with (w.blocks b) label sender).sent name
          (position -ℤ pos (a.owners.messages z name).distance) ≡ true) same was)))
        where
          same : c ≡ b
          same = naturals_same c b e

          here : (w.threads j).role ≡ MemberOf b position
          here = is ∙ ap (λ z. MemberOf z position) same

          by : (t : Bool) → (same_name name label && same_number (position -ℤ pos (a.owners.messages b name).distance) sender) ≡ t
              → (if t then true else (w.blocks b).sent name (position -ℤ pos (a.owners.messages b name).distance)) ≡ true
              → Lies p w.committed w.heap (a.owners.openings b) (w.blocks b)
              (position -ℤ pos (a.owners.messages b name).distance) (a.owners.messages b name) name (a.owners.mail j)
          by false k was' = a.mail.there j l b position here name some was'
          by true k was' =
              let named : name ≡ label = names_same name label (front _ _ k) in
              let from = numbers_same _ _ (back (same_name name label) _ k) in
              subst (λ z. Lies p w.committed w.heap (a.owners.openings b) (w.blocks b)
              (position -ℤ pos (a.owners.messages b z).distance) (a.owners.messages b z) z (a.owners.mail j)) (sym named)
              (new j l position here (subst (λ z. ReceivesNone z (w.threads j).frames → ⊥) named some)
              (subst (λ z. position -ℤ pos (a.owners.messages b z).distance ≡ sender) named from))
