-- A member that stands at a step goes on behind it.
use Rattle.std.proofs.Common.{◌≡◌, ℕ, ◌+◌, ◌≤◌, ◌<◌, ℤ, pos, Bool, true, false, if◌then◌else◌, List, [], ◌∷◌, refl, ap, sym, subst, ◌∙◌, arith}
use Rattle.std.specs.Prelude.{nat_eq, ◌-ℤ◌}
use Rattle.pv_base.specs.declared.Name.{Name}
use Rattle.pv_fraction.specs.Amounts.{whole}
use Rattle.pv_picks.specs.Plain.Core.{Program}
use Rattle.pv_picks.specs.Formulas.Heaps.{at_number}
use Rattle.pv_picks.specs.Judge.States.{Resource, OfLock}
use Rattle.pv_picks.specs.Machine.Tasks.{AtClose, Step, Task, Stand}
use Rattle.pv_picks.specs.Machine.Frames.{Frame, goes_on, settled}
use Rattle.pv_picks.specs.Machine.Worlds.{MemberOf, World, with_frames}
use Rattle.account_formulas.specs.Owning.{Amounts}
use Rattle.account_formulas.specs.Growing.{HeapFits}
use Rattle.account_formulas.specs.Gaining.{PredicatesFit}
use Rattle.account.specs.Scoped.{TasksSay}
use Rattle.account.specs.Frames.{Run, amounts_of, all_of, standing_in, IsRunOf}
use Rattle.account.specs.Owners.{Mail, carried_by, sum_below, at_thread, lies_at}
use Rattle.pv_picks.proofs.Sames.{naturals_same}
use Rattle.account.specs.Messages.{TaskExchanges, TasksExchange, bottom_tasks, IsKnown, ReceivesNone, Lies}
use Rattle.account.specs.Accounts.{Account}
use Rattle.account.proofs.Sums.{sum_less, sum_changed, at_same, at_other}
use Rattle.account.specs.Going.{Goes}
use Rattle.account.proofs.LocalWork.{settled_goes}
use Rattle.account.proofs.Moving as account_moving
use Rattle.account.proofs.Moving.{GoesOn, first_goes_on, settles, settled_leaves_not, leaves_nothing, others_here}
use Rattle.account_blocks.proofs.Moving.{after, Moves, moved}

-- one part of a sum gives to another one
pub gives_to : (f g : ℕ → ℕ) (n i k a : ℕ) → i < n → k < n → nat_eq i k ≡ false → nat_eq k i ≡ false → g i + a ≤ f i
    → g k ≤ f k + a → ((j : ℕ) → nat_eq j i ≡ false → nat_eq j k ≡ false → g j ≡ f j) → sum_below g n ≤ sum_below f n
gives_to f g n i k a li lk apart back less more others =
    let one = sum_changed f (at_number i (g i) f) n i li (λ j e. at_other i j (g i) f e) in
    let two = sum_changed (at_number i (g i) f) g n k lk (λ j e. between j e (nat_eq j i) refl) in
    let here = at_same i (g i) f in
    let there = at_other i k (g i) f back in
    omega (arith, one, two, here, there, less, more)
  where
    between : (j : ℕ) → nat_eq j k ≡ false → (b : Bool) → nat_eq j i ≡ b → g j ≡ at_number i (g i) f j
    between j e true h =
        let same = naturals_same j i h in
        ap g same ∙ sym (ap (λ b. if b then g i else f j) h)
    between j e false h = others j h e ∙ sym (at_other i j (g i) f h)

module _ (p : Program) (w : World) (a : Account p w) (sound : HeapFits p w.heap) (framed : PredicatesFit p w.heap) (i : ℕ)
    (inside : i < w.count) (f : Frame) (stack : (w.threads i).frames ≡ f ∷ []) (b : ℕ) (spot : ℤ)
    (role : (w.threads i).role ≡ MemberOf b spot) (r : Run) (has_runs : a.owners.runs i ≡ r ∷ []) (step : Step)
    (rest : List Task) (is : f.tasks ≡ Stand step ∷ rest) (no_close : (c : ℕ) → step ≡ AtClose c → ⊥) where
  abbrev behind : Frame
  behind = settled (goes_on f rest)

  known : TasksExchange (IsKnown (a.owners.messages b)) (IsKnown (a.owners.messages b)) (Stand step ∷ rest)
  known = subst (λ ts. TasksExchange (IsKnown (a.owners.messages b)) (IsKnown (a.owners.messages b)) ts) is
      (subst (λ fs. TasksExchange (IsKnown (a.owners.messages b)) (IsKnown (a.owners.messages b)) (bottom_tasks fs)) stack
      (a.mail.known i inside b spot role))

  -- the message of the step is that of its block
  pub step_known : TaskExchanges (IsKnown (a.owners.messages b)) (IsKnown (a.owners.messages b)) (Stand step)
  step_known = known.0

  module _ (s : Run) (fits : IsRunOf p w.committed w.heap (goes_on f rest) s)
      (says : TasksSay (standing_in p f.class s.body s.outer) s.inner s.scope s.given s.stack rest) (body : s.body ≡ r.body)
      (most : (q : Resource) → amounts_of s q ≤ whole) where
    pub done : Goes p w.committed w.heap (settled (goes_on f rest)) s
    done = settled_goes p w.committed w.heap sound framed (goes_on f rest) s fits says most

    pub goes : GoesOn w.threads a.owners i (behind ∷ []) (done.run ∷ [])
    goes = first_goes_on w.threads a.owners i f [] stack r [] has_runs behind done.run
        (λ c ts e. absurd (no_close c (first step (AtClose c) rest ts (sym is ∙ e))))
        (settles p w.committed w.heap f (goes_on f rest) r s
        (record { class = refl; method = refl; this = refl; begun = refl; old = refl }) body done
        (λ S R h. (subst (TasksExchange S R) is h).1))
      where
        first : (x y : Step) (xs ys : List Task) → Stand x ∷ xs ≡ Stand y ∷ ys → x ≡ y
        first x y xs ys e = cc e

    -- who still receives a message did so before
    pub still_receives : (j : ℕ) (label : Name) → (ReceivesNone label ((with_frames w i (behind ∷ [])).threads j).frames → ⊥)
        → ReceivesNone label (w.threads j).frames → ⊥
    still_receives = account_moving.still_receives p w.committed w.heap w.heap w.count w.threads a.owners i
        (others_here w.heap w.count a.owners i) (behind ∷ []) (done.run ∷ []) goes

    -- the step, with what others left and the mail as it is then
    pub went : (left : ℕ → Amounts) (mail : ℕ → Mail)
        → ((q : Resource) → sum_below (λ j. at_thread (after p w a i (behind ∷ []) (done.run ∷ []) left mail) j q) w.count
        ≤ sum_below (λ j. at_thread a.owners j q) w.count)
        → ((class : Name) (x : ℕ) → amounts_of s (OfLock class x) ≤ amounts_of r (OfLock class x))
        → ((j : ℕ) → j < w.count → (class : Name) (x : ℕ)
        → lies_at (after p w a i (behind ∷ []) (done.run ∷ []) left mail) j (OfLock class x) ≡ 0)
        → ((j : ℕ) → nat_eq j i ≡ false → left j ≡ a.owners.left j)
        → ((j : ℕ) → j < w.count → (c : ℕ) (position : ℤ) → (w.threads j).role ≡ MemberOf c position
        → (label : Name) → (ReceivesNone label ((with_frames w i (behind ∷ [])).threads j).frames → ⊥)
        → (w.blocks c).sent label (position -ℤ pos (a.owners.messages c label).distance) ≡ true
        → Lies p w.committed w.heap (a.owners.openings c) (w.blocks c)
        (position -ℤ pos (a.owners.messages c label).distance) (a.owners.messages c label) label (mail j))
        → Moves p w a i (behind ∷ []) (done.run ∷ []) left mail
    went left mail less locks no_locks stays there = record {
      fits = (done.fits, tt);
      goes = goes;
      less = less;
      locks = λ class x. let k = done.less (OfLock class x) in let l = locks class x in
          let had = ap (λ z. all_of z (OfLock class x)) has_runs in omega (arith, k, l, had);
      no_locks = no_locks;
      stays = λ j e c position is' opener. stays j e;
      enough = leaves_nothing p w.committed w.heap (w.threads i).role w.blocks a.owners behind [] (done.run ∷ []) (left i)
          (settled_leaves_not p w.committed w.heap (goes_on f rest) s done);
      there = there;
    }

    -- where what others left and the mail stay, and this thread has no more, the world after the step is accounted for
    pub went_alone : ((q : Resource) → amounts_of s q ≤ amounts_of r q) → Account p (with_frames w i (behind ∷ []))
    went_alone less = moved p w a i (behind ∷ []) (done.run ∷ []) a.owners.left a.owners.mail inside
        (went a.owners.left a.owners.mail (λ q. sum_less _ _ w.count (λ j. less_at j q (nat_eq j i) refl))
        (λ class x. less (OfLock class x)) a.locks.threads (λ j e. refl)
        (λ j l c position is' label some was. a.mail.there j l c position is' label (still_receives j label some) was))
      where
        less_at : (j : ℕ) (q : Resource) (x : Bool) → nat_eq j i ≡ x
            → all_of (if x then done.run ∷ [] else a.owners.runs j) q + (a.owners.left j q + carried_by (a.owners.mail j) q)
            ≤ all_of (a.owners.runs j) q + (a.owners.left j q + carried_by (a.owners.mail j) q)
        less_at j q false e = omega arith
        less_at j q true e =
            let runs = ap (λ z. all_of (a.owners.runs z) q) (naturals_same j i e) in
            let mine = ap (λ z. all_of z q) has_runs in
            let d = done.less q in let l = less q in omega (arith, runs, mine, d, l)
