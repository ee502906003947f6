-- A thread goes on behind a block: what its members left comes to its run.
use Rattle.std.proofs.Common.{◌≡◌, ℕ, ◌+◌, ◌≤◌, ◌<◌, ℤ, pos, Bool, true, false, if◌then◌else◌, List, ◌∷◌, refl, ap, sym, subst, ◌∙◌, arith}
use Rattle.std.specs.Prelude.{nat_eq, ◌+ℤ◌}
use Rattle.pv_base.specs.declared.Name.{Name}
use Rattle.pv_base.specs.declared.Span.{Span}
use Rattle.pv_picks.specs.Plain.Core.{Barrier, Message, Program}
use Rattle.pv_picks.specs.Formulas.Heaps.{at_number}
use Rattle.pv_picks.specs.Judge.States.{Resource, OfLock}
use Rattle.pv_picks.specs.Machine.Tasks.{AtClose, AtLeave, Task, Stand}
use Rattle.pv_picks.specs.Machine.Frames.{Frame}
use Rattle.pv_picks.specs.Machine.Worlds.{MemberOf, World, member_count, is_member, has_no_frame, has_ended, members_ended, with_frames}
use Rattle.account_formulas.specs.Owning.{Amounts}
use Rattle.account_formulas.specs.Still.{IsStill}
use Rattle.account_formulas.proofs.Basics.{nat_self}
use Rattle.account.specs.Frames.{Run, amounts_of, all_of, AreRunsOf}
use Rattle.account.specs.Owners.{Owners, carried_by, at_thread, sum_below}
use Rattle.account.specs.Blocks.{WaitsForMembers}
use Rattle.account.specs.Messages.{TasksExchange}
use Rattle.account.specs.Accounts.{Account}
use Rattle.account.proofs.Moving.{GoesOn, AllEnded, first_goes_on, leaves_nothing, others_here, still_receives}
use Rattle.account_blocks.proofs.Moving.{moved}
use Rattle.account_blocks.proofs.Numbers.{number_of_member, each_one}

first_close : (c d : ℕ) (xs ys : List Task) → Stand (AtClose c) ∷ xs ≡ Stand (AtClose d) ∷ ys → c ≡ d
first_close c d xs ys e = cc e

module _ (p : Program) (w : World) (a : Account p w) (i : ℕ) (inside : i < w.count) (f : Frame) (below : List Frame)
    (stack : (w.threads i).frames ≡ f ∷ below) (r : Run) (rs : List Run) (has_runs : a.owners.runs i ≡ r ∷ rs) (c : ℕ)
    (rest : List Task) (tasks : f.tasks ≡ Stand (AtClose c) ∷ rest) (all : members_ended w (w.blocks c) ≡ true)
    (g : Frame) (s : Run) (still : IsStill f g) (body : s.body ≡ r.body) where
  -- members of the block have nothing left
  abbrev pub left_if : Bool → ℕ → Amounts
  left_if x j q = if x then 0 else a.owners.left j q

  abbrev pub left_over : ℕ → Amounts
  left_over j = left_if (is_member (w.blocks c) j) j

  abbrev pub after : Owners
  after = record a.owners { runs = at_number i (s ∷ rs) a.owners.runs; left = left_over }

  waits : WaitsForMembers p w.committed w.heap w.count w.threads w.block_count a.owners.left (a.owners.openings c) i c
      (w.blocks c)
      f r rest
  waits = a.blocks.openers i inside f below r rs c rest stack has_runs tasks

  -- what is asked of such a step
  pub record Closes : Type 1 where
    pub fits : AreRunsOf p w.committed w.heap (g ∷ below) (s ∷ rs)
    pub less : (q : Resource) → sum_below (λ j. at_thread after j q) w.count ≤ sum_below (λ j. at_thread a.owners j q) w.count
    pub locks : (class : Name) (x : ℕ) → amounts_of s (OfLock class x) ≤ amounts_of r (OfLock class x)
    pub is_open : (d : ℕ) (ts : List Task) → g.tasks ≡ Stand (AtClose d) ∷ ts → ⊥
    pub leaves : (barrier : Barrier) (span : Span) (ts : List Task) → g.tasks ≡ Stand (AtLeave barrier span) ∷ ts → ⊥
    pub exchanges : (S R : Message → Type 0) → TasksExchange S R f.tasks → TasksExchange S R g.tasks

  module _ (m : Closes) where
    -- a member of the block has ended
    member_has_ended : (j : ℕ) → is_member (w.blocks c) j ≡ true → has_no_frame (w.threads j).frames ≡ true
    member_has_ended j e =
        let n = number_of_member (w.blocks c) j e in
        subst (λ z. has_no_frame (w.threads z).frames ≡ true) n.2
        (each_one (has_ended w) (member_count (w.blocks c)) (w.blocks c).first n.0 all n.1)

    -- so this thread waits for none that runs
    stood : (d : ℕ) (ts : List Task) → f.tasks ≡ Stand (AtClose d) ∷ ts → AllEnded w.threads d
    stood d ts at j position is = by (has_no_frame (w.threads j).frames) refl
      where
        by : (x : Bool) → has_no_frame (w.threads j).frames ≡ x → x ≡ true
        by true e = refl
        by false live =
            let k = a.blocks.members j (a.threads.live j live) d position is live in
            let one : c ≡ d = first_close c d rest ts (sym tasks ∙ at) in
            let less = subst (λ z. k.number < member_count (w.blocks z)) (sym one) k.less in
            let thread : j ≡ (w.blocks c).first + k.number = k.thread ∙ ap (λ z. (w.blocks z).first + k.number) (sym one) in
            let gone = subst (λ z. has_no_frame (w.threads z).frames ≡ true) (sym thread)
            (each_one (has_ended w) (member_count (w.blocks c)) (w.blocks c).first k.number all less) in absurd (cc (gone, live))

    goes : GoesOn w.threads a.owners i (g ∷ below) (s ∷ rs)
    goes = first_goes_on w.threads a.owners i f below stack r rs has_runs g s stood
        (record { still = still; body = body; closes = m.is_open; messages = m.exchanges })

    -- a member of a block that another thread closes left what it did
    stays : (j : ℕ) → nat_eq j i ≡ false → (d : ℕ) (position : ℤ) → (w.threads j).role ≡ MemberOf d position
        → (has_no_frame (w.threads j).frames ≡ true → nat_eq (w.blocks d).opener i ≡ false) → left_over j ≡ a.owners.left j
    stays j apart d position is opener = by (is_member (w.blocks c) j) refl
      where
        by : (x : Bool) → is_member (w.blocks c) j ≡ x → left_if x j ≡ a.owners.left j
        by false e = refl
        by true e =
            let number = number_of_member (w.blocks c) j e in
            let both : MemberOf c ((w.blocks c).low +ℤ pos number.0) ≡ MemberOf d position =
            sym (waits.roles number.0 number.1) ∙ (ap (λ z. (w.threads z).role) number.2 ∙ is) in
            let one : c ≡ d = cc both in
            let same : (w.blocks d).opener ≡ i = ap (λ z. (w.blocks z).opener) (sym one) ∙ waits.opener in
            let other = opener (member_has_ended j e) in
            let self = subst (λ z. nat_eq z i ≡ true) (sym same) (nat_self i) in absurd (cc (self, other))

    pub closed : Account p (with_frames w i (g ∷ below))
    closed = moved p w a i (g ∷ below) (s ∷ rs) left_over a.owners.mail inside (record {
      fits = m.fits;
      goes = goes;
      less = m.less;
      locks = λ class x. let l = m.locks class x in let had = ap (λ z. all_of z (OfLock class x)) has_runs in
          omega (arith, l, had);
      no_locks = λ j l class x. locks_at j l class x (is_member (w.blocks c) j);
      stays = stays;
      enough = leaves_nothing p w.committed w.heap (w.threads i).role w.blocks a.owners g below (s ∷ rs) (left_over i) m.leaves;
      there = λ j l d position is label some was. a.mail.there j l d position is label
          (still_receives p w.committed w.heap w.heap w.count w.threads a.owners i (others_here w.heap w.count a.owners i)
          (g ∷ below) (s ∷ rs) goes j label some) was;
    })
      where
        locks_at : (j : ℕ) → j < w.count → (class : Name) (x : ℕ) (t : Bool)
            → left_if t j (OfLock class x) + carried_by (a.owners.mail j) (OfLock class x) ≡ 0
        locks_at j l class x false = a.locks.threads j l class x
        locks_at j l class x true = let z = a.locks.threads j l class x in omega (arith, z)
