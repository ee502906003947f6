-- A member that stands at a send in an accounted world: what the formula asks for goes to the receiver.
use Rattle.std.proofs.Common.{◌≡◌, ℕ, ◌+◌, ◌≤◌, ◌<◌, ℤ, pos, Bool, true, false, if◌then◌else◌, Some, List, [], ◌∷◌, refl, ap, sym, subst, ◌∙◌, arith}
use Rattle.std.specs.Prelude.{nat_eq, int_lt, ◌-ℤ◌, ◌+ℤ◌, negsuc}
use Rattle.std.proofs.lemmas.Int.{ints}
use Rattle.pv_base.specs.declared.Name.{Name}
use Rattle.pv_base.specs.declared.Span.{Span}
use Rattle.pv_base.specs.Names.{same_name}
use Rattle.pv_fraction.specs.Amounts.{whole}
use Rattle.pv_picks.specs.declared.check.Check.TheVariants as check
use Rattle.pv_picks.specs.Plain.Core.{Message, Program, Team}
use Rattle.pv_picks.specs.Formulas.Heaps.{at_number}
use Rattle.pv_picks.specs.Judge.States.{Resource, OfLock}
use Rattle.pv_picks.specs.Machine.Tasks.{AtSend, Task, Stand}
use Rattle.pv_picks.specs.Machine.Frames.{Frame, goes_on, settled, only_now}
use Rattle.pv_picks.specs.Machine.Worlds.{MemberOf, Mode, World, with_frames, with_message, member_count, has_no_frame}
use Rattle.pv_picks.specs.Machine.Steps.{Result, partner_if, receiver_of, needs, needs_met, as_member, act_send, act, act_tasks}
use Rattle.pv_picks.specs.Typing.Expressions.{silent}
use Rattle.pv_picks.specs.Formulas.Values.{number_in, width, or_zero}
use Rattle.core_trees.specs.Formulas.{MessageFits}
use Rattle.account_formulas.specs.Good.{IsGood}
use Rattle.account_formulas.specs.Owning.{Amounts, KeepsOwning}
use Rattle.account_formulas.specs.Growing.{HeapFits}
use Rattle.account_formulas.specs.Gaining.{PredicatesFit}
use Rattle.account_formulas.proofs.Basics.{nat_self}
use Rattle.account_formulas.proofs.Laws.{owned_alike}
use Rattle.account.proofs.Goodness.{good_formula}
use Rattle.pv_picks.proofs.Sames.{naturals_same, names_same}
use Rattle.account.specs.Frames.{amounts_of, all_of, home_in, standing_in, IsRunOf}
use Rattle.account.specs.Owners.{Mail, carried_by, letter, without_locks, at_thread}
use Rattle.account.specs.Blocks.{scene_at, MemberRuns}
use Rattle.account.specs.Messages.{ReceivesNone, Lies}
use Rattle.account.specs.Accounts.{Account, Kept}
use Rattle.account.specs.Scoped.{TasksSay}
use Rattle.account.specs.Going.{Goes}
use Rattle.account.proofs.Sums.{at_same, at_other}
use Rattle.account.proofs.Stepping.{by_run}
use Rattle.account_blocks.proofs.Moving.{Moves, moved}
use Rattle.account_blocks.proofs.Sites.{site_scene, at_a_send}
use Rattle.account_blocks.proofs.Messages.{is_some_distance, Sent, sends, sends_none}
use Rattle.account_blocks.proofs.Members.{member, Opener, opener, Stood, stood, here, scenes_agree, part_of_all}
use Rattle.account.proofs.Locks.{locks_less, goes_on_locked}
use Rattle.account_blocks.proofs.Recorded.{recorded}
use Rattle.account_blocks.proofs.Onward.{gives_to, still_receives, step_known, done, went, went_alone}

-- a number of a position below the end of a range is one of its numbers
in_block : (low high : ℤ) (n : ℕ) → int_lt (low +ℤ pos n) high ≡ true → n < width low high
in_block low high n h = go (high -ℤ low) refl
  where
    go : (d : ℤ) → high -ℤ low ≡ d → n < or_zero d
    go (pos d) e = omega (arith, ints)
    go (negsuc d) e = absurd (omega (arith, ints))

same_block : (b c : ℕ) (x y : ℤ) → MemberOf b x ≡ MemberOf c y → b ≡ c
same_block b c x y e = cc e

same_position : (b c : ℕ) (x y : ℤ) → MemberOf b x ≡ MemberOf c y → x ≡ y
same_position b c x y e = cc e

apart_from : (n m : ℕ) → (n ≡ m → ⊥) → nat_eq n m ≡ false
apart_from n m h = by (nat_eq n m) refl
  where
    by : (t : Bool) → nat_eq n m ≡ t → t ≡ false
    by false e = refl
    by true e = absurd (h (naturals_same n m e))

live_receiver : (label : Name) (fs : List Frame) → (ReceivesNone label fs → ⊥) → has_no_frame fs ≡ false
live_receiver label [] some = absurd (some tt)
live_receiver label (x ∷ xs) some = refl

module _ (p : Program) (w : World) (a : Account p w) (sound : HeapFits p w.heap) (framed : PredicatesFit p w.heap) (i : ℕ)
    (inside : i < w.count) (f : Frame) (stack : (w.threads i).frames ≡ f ∷ []) (b : ℕ) (spot : ℤ)
    (role : (w.threads i).role ≡ MemberOf b spot) (m : Message) (span : Span) (rest : List Task)
    (is : f.tasks ≡ Stand (AtSend m span) ∷ rest) where
  abbrev k : Stood p w a i inside f stack b spot role
  k = stood p w a i inside f stack b spot role

  abbrev team : Team
  team = (w.blocks b).team

  abbrev behind : Frame
  behind = settled (goes_on f rest)

  place : number_in (k.run.body.site.begun k.run.body.site.variable.0) +ℤ pos m.distance ≡ spot +ℤ pos m.distance
  place = ap (λ z. z +ℤ pos m.distance) (here p w a i inside f stack b spot role)

  speaks : MessageFits (home_in p f.class k.run.body) k.run.body.head m
  speaks = (at_a_send p w.committed w.heap f k.run k.fits m span rest is).speaks

  good : IsGood (home_in p f.class k.run.body) silent k.run.body.head m.formula
  good = good_formula (home_in p f.class k.run.body) silent k.run.body.head m.formula speaks.1

  known : a.owners.messages b m.label ≡ m
  known = step_known p w a sound framed i inside f stack b spot role k.run k.has_runs (AtSend m span) rest is
      (λ c e. cc e)

  abbrev mine : MemberRuns p w.committed w.heap w.count w.threads (a.owners.left i) (a.owners.openings b) i b (w.blocks b) spot
      (a.owners.runs i)
  mine = member p w a i inside f stack b spot role

  module _ (someone : int_lt (spot +ℤ pos m.distance) (w.blocks b).high ≡ true) where
    gave : Sent p w.committed w.heap sound framed f k.run m rest
    gave = sends p w.committed w.heap sound framed f k.run k.fits m span rest is speaks.0
        (ap (λ z. int_lt z k.run.body.site.high) place ∙ (ap (λ z. int_lt (spot +ℤ pos m.distance) z) k.is.high ∙ someone)) good
        (λ q. let n = part_of_all p w a i inside f stack b spot role q in omega (arith, n))

    abbrev gift : Amounts
    gift = without_locks gave.part

    -- the receiver
    abbrev number : ℕ
    number = mine.number + m.distance

    abbrev to : ℕ
    to = (w.blocks b).first + number

    abbrev to_spot : ℤ
    to_spot = (w.blocks b).low +ℤ pos number

    far : to_spot ≡ spot +ℤ pos m.distance
    far = let e = mine.place in omega (arith, ints, e)

    back_again : to_spot -ℤ pos m.distance ≡ spot
    back_again = let e = mine.place in omega (arith, ints, e)

    number_less : number < member_count (w.blocks b)
    number_less = in_block (w.blocks b).low (w.blocks b).high number
        (ap (λ z. int_lt z (w.blocks b).high) far ∙ someone)

    abbrev waiting : Opener p w a i inside f stack b spot role
    waiting = opener p w a i inside f stack b spot role

    to_inside : to < w.count
    to_inside = let c = waiting.waits.counted in let l = number_less in omega (arith, c, l)

    to_role : (w.threads to).role ≡ MemberOf b to_spot
    to_role = waiting.waits.roles number number_less

    apart : nat_eq i to ≡ false
    apart = apart_from i to (λ e. let t = mine.thread in let d = speaks.0 in omega (arith, e, t, d))

    apart_too : nat_eq to i ≡ false
    apart_too = apart_from to i (λ e. let t = mine.thread in let d = speaks.0 in omega (arith, e, t, d))

    abbrev mail : ℕ → Mail
    mail = at_number to ((m.label, gift) ∷ a.owners.mail to) a.owners.mail

    enough : (q : Resource) → amounts_of gave.run q ≤ whole
    enough q = let l = gave.less q in let n = part_of_all p w a i inside f stack b spot role q in omega (arith, l, n)

    abbrev on : Goes p w.committed w.heap behind gave.run
    on = done p w a sound framed i inside f stack b spot role k.run k.has_runs (AtSend m span) rest is (λ c e. cc e)
        gave.run gave.fits gave.says gave.body enough

    stays : KeepsOwning p w.committed w.heap (scene_at (a.owners.openings b) team spot) m.formula gift
    stays later l = owned_alike (home_in p f.class k.run.body) silent w.committed (only_now later) (only_now later) refl
        (λ e. refl) k.run.body.head (site_scene k.run.body.site k.run.state) (scene_at (a.owners.openings b) team spot)
        (scenes_agree p w a i inside f stack b spot role) m.formula good gift
        (goes_on_locked p w.committed w.heap (site_scene k.run.body.site k.run.state) m.formula gave.part gave.owns later l)

    -- the letter, at its receiver
    fresh : (c : ℕ) (position : ℤ) (label : Name) → b ≡ c → to_spot ≡ position → m.label ≡ label → (letters : Mail)
        → letter label letters ≡ Some gift
        → Lies p w.committed w.heap (a.owners.openings c) (w.blocks c)
        (position -ℤ pos (a.owners.messages c label).distance) (a.owners.messages c label) label letters
    fresh c position label same_b same_p same_l letters there =
        subst (λ z. Lies p w.committed w.heap (a.owners.openings z) (w.blocks z)
        (position -ℤ pos (a.owners.messages z label).distance) (a.owners.messages z label) label letters) same_b
        (subst (λ z. Lies p w.committed w.heap (a.owners.openings b) (w.blocks b)
        (z -ℤ pos (a.owners.messages b label).distance) (a.owners.messages b label) label letters) same_p
        (subst (λ z. Lies p w.committed w.heap (a.owners.openings b) (w.blocks b)
        (to_spot -ℤ pos z.distance) z label letters) (sym known ∙ ap (a.owners.messages b) same_l)
        (record {
          part = gift;
          there = there;
          owns = subst (λ z. KeepsOwning p w.committed w.heap (scene_at (a.owners.openings b) team z) m.formula gift)
              (sym back_again) stays;
        })))

    with_letter : Account p (with_frames w i (behind ∷ []))
    with_letter = moved p w a i (behind ∷ []) (on.run ∷ []) a.owners.left mail inside moves
      where
        less_at : (q : Resource) (j : ℕ) → nat_eq j i ≡ false → nat_eq j to ≡ false
            → all_of (at_number i (on.run ∷ []) a.owners.runs j) q + (a.owners.left j q + carried_by (mail j) q)
            ≡ all_of (a.owners.runs j) q + (a.owners.left j q + carried_by (a.owners.mail j) q)
        less_at q j e h =
            let one = ap (λ z. all_of z q) (at_other i j (on.run ∷ []) a.owners.runs e) in
            let two = ap (λ z. carried_by z q) (at_other to j ((m.label, gift) ∷ a.owners.mail to) a.owners.mail h) in
            omega (arith, one, two)

        locks_at : (j : ℕ) → j < w.count → (class : Name) (x : ℕ) (t : Bool) → nat_eq j to ≡ t
            → a.owners.left j (OfLock class x)
            + carried_by (if t then (m.label, gift) ∷ a.owners.mail to else a.owners.mail j) (OfLock class x) ≡ 0
        locks_at j l class x false e = a.locks.threads j l class x
        locks_at j l class x true e =
            let same = ap (λ z. carried_by (a.owners.mail z) (OfLock class x)) (naturals_same j to e) in
            let z = a.locks.threads j l class x in omega (arith, same, z)

        there_at : (j : ℕ) → j < w.count → (c : ℕ) (position : ℤ) → (w.threads j).role ≡ MemberOf c position
            → (label : Name) → (ReceivesNone label (w.threads j).frames → ⊥)
            → (w.blocks c).sent label (position -ℤ pos (a.owners.messages c label).distance) ≡ true
            → (x : Bool) → nat_eq j to ≡ x → (t : Bool) → same_name label m.label ≡ t
            → Lies p w.committed w.heap (a.owners.openings c) (w.blocks c)
            (position -ℤ pos (a.owners.messages c label).distance) (a.owners.messages c label) label
            (if x then (m.label, gift) ∷ a.owners.mail to else a.owners.mail j)
        there_at j l c position is' label some was false e t h = a.mail.there j l c position is' label some was
        there_at j l c position is' label some was true e false h =
            let old = a.mail.there j l c position is' label some was in
            record {
              part = old.part;
              there = ap (λ z. if z then Some gift else letter label (a.owners.mail to)) h
                  ∙ (ap (λ z. letter label (a.owners.mail z)) (sym (naturals_same j to e)) ∙ old.there);
              owns = old.owns;
            }
        there_at j l c position is' label some was true e true h =
            let both = sym to_role ∙ (ap (λ z. (w.threads z).role) (sym (naturals_same j to e)) ∙ is') in
            fresh c position label (same_block b c to_spot position both) (same_position b c to_spot position both)
            (sym (names_same label m.label h)) ((m.label, gift) ∷ a.owners.mail to)
            (ap (λ z. if z then Some gift else letter label (a.owners.mail to)) h)

        moves : Moves p w a i (behind ∷ []) (on.run ∷ []) a.owners.left mail
        moves = went p w a sound framed i inside f stack b spot role k.run k.has_runs (AtSend m span) rest is (λ c e. cc e)
            gave.run gave.fits gave.says gave.body enough a.owners.left mail
            (λ q. gives_to (λ j. at_thread a.owners j q)
            (λ j. all_of (at_number i (on.run ∷ []) a.owners.runs j) q + (a.owners.left j q + carried_by (mail j) q)) w.count i to
            (gift q) inside to_inside apart apart_too
            (let one = ap (λ z. all_of z q) (at_same i (on.run ∷ []) a.owners.runs) in
            let two = ap (λ z. carried_by z q) (at_other to i ((m.label, gift) ∷ a.owners.mail to) a.owners.mail apart) in
            let had = ap (λ z. all_of z q) k.has_runs in
            let d = on.less q in let l = gave.less q in let n = locks_less gave.part q in omega (arith, one, two, had, d, l, n))
            (let one = ap (λ z. all_of z q) (at_other i to (on.run ∷ []) a.owners.runs apart_too) in
            let two = ap (λ z. carried_by z q) (at_same to ((m.label, gift) ∷ a.owners.mail to) a.owners.mail) in
            omega (arith, one, two))
            (less_at q))
            (λ class x. let l = gave.less (OfLock class x) in omega (arith, l))
            (λ j l class x. locks_at j l class x (nat_eq j to) refl)
            (λ j e. refl)
            (λ j l c position is' label some was. there_at j l c position is' label
            (still_receives p w a sound framed i inside f stack b spot role k.run k.has_runs (AtSend m span) rest is
            (λ c e. cc e) gave.run gave.fits gave.says gave.body enough j label some) was (nat_eq j to) refl
            (same_name label m.label) refl)

    -- with the record that it was sent
    sent_on : Account p (with_message (with_frames w i (behind ∷ [])) b m.label spot)
    unfolding with_letter moved
    sent_on = recorded p (with_frames w i (behind ∷ [])) b m.label spot with_letter
        (λ j l position is' some from. new_at j l position is' some from)
      where
        new_at : (j : ℕ) → j < w.count → (position : ℤ) → ((with_frames w i (behind ∷ [])).threads j).role ≡ MemberOf b position
            → (ReceivesNone m.label ((with_frames w i (behind ∷ [])).threads j).frames → ⊥)
            → position -ℤ pos (a.owners.messages b m.label).distance ≡ spot
            → Lies p w.committed w.heap (a.owners.openings b) (w.blocks b)
            (position -ℤ pos (a.owners.messages b m.label).distance) (a.owners.messages b m.label) m.label (mail j)
        new_at j l position is' some from =
            fresh b position m.label refl place_is refl (mail j)
            (subst (λ z. letter m.label (mail z) ≡ Some gift) (sym thread_is)
            (ap (letter m.label) (at_same to ((m.label, gift) ∷ a.owners.mail to) a.owners.mail)
            ∙ ap (λ x. if x then Some gift else letter m.label (a.owners.mail to)) (nat_self m.label.0)))
          where
            other : MemberRuns p w.committed w.heap w.count (with_frames w i (behind ∷ [])).threads (with_letter.owners.left j)
                (with_letter.owners.openings b) j b (w.blocks b) position (with_letter.owners.runs j)
            other = with_letter.blocks.members j l b position is'
                (live_receiver m.label ((with_frames w i (behind ∷ [])).threads j).frames some)

            number_is : other.number ≡ number
            number_is =
                let x = other.place in let y = mine.place in
                let z = subst (λ n. position -ℤ pos n.distance ≡ spot) known from in omega (arith, ints, x, y, z)

            thread_is : j ≡ to
            thread_is = other.thread ∙ ap (λ n. (w.blocks b).first + n) number_is

            place_is : to_spot ≡ position
            place_is = ap (λ n. (w.blocks b).low +ℤ pos n) (sym number_is) ∙ sym other.place

  -- where nobody is at the distance, nothing is sent
  module _ (none : int_lt (spot +ℤ pos m.distance) (w.blocks b).high ≡ false) where
    alone : IsRunOf p w.committed w.heap (goes_on f rest) (record k.run { inner = false })
    alone = sends_none p w.committed w.heap sound framed f k.run k.fits m span rest is speaks.0
        (ap (λ z. int_lt z k.run.body.site.high) place ∙ (ap (λ z. int_lt (spot +ℤ pos m.distance) z) k.is.high ∙ none))

    says : TasksSay (standing_in p f.class k.run.body k.run.outer) false k.run.scope k.run.given k.run.stack rest
    says = (at_a_send p w.committed w.heap f k.run k.fits m span rest is).tasks

    no_more : (q : Resource) → amounts_of (record k.run { inner = false }) q ≤ whole
    no_more q = let n = part_of_all p w a i inside f stack b spot role q in omega (arith, n)

    nobody : Account p (with_frames w i (behind ∷ []))
    nobody = went_alone p w a sound framed i inside f stack b spot role k.run k.has_runs (AtSend m span) rest is (λ c e. cc e)
        (record k.run { inner = false }) alone says refl no_more (λ q. omega arith)

  pub send_keeps : (mode : Mode) → Kept p (act p w mode i)
  send_keeps mode = by_run p w a i inside f [] stack mode (λ r rs e fits.
      (subst (λ ts. Kept p (act_tasks p w i f [] mode ts)) (sym is)
      (subst (λ t. Kept p (needs t check.Send span (as_member p w i f [] (w.threads i).role [] check.Send span
      (λ block position. act_send p w i f [] (receiver_of (w.blocks block) position m) block position m rest))))
      (sym (is_some_distance m.distance speaks.0))
      (subst (λ z. Kept p (as_member p w i f [] z [] check.Send span
      (λ block position. act_send p w i f [] (receiver_of (w.blocks block) position m) block position m rest)))
      (sym role) (by_test (int_lt (spot +ℤ pos m.distance) (w.blocks b).high) refl)))))
    where
      by_test : (x : Bool) → int_lt (spot +ℤ pos m.distance) (w.blocks b).high ≡ x
          → Kept p (act_send p w i f [] (partner_if x) b spot m rest)
      by_test true e = subst (λ o. Kept p (needs_met o check.Send
          (Result.Went (with_message (with_frames w i (behind ∷ [])) b m.label spot)))) (sym (gave e).met) (sent_on e)
      by_test false e = nobody e
