-- A member that stands at a receive in an accounted world: it waits, or goes on with what was sent.
use Rattle.std.proofs.Common.{◌≡◌, ℕ, ◌+◌, ◌≤◌, ◌<◌, ℤ, pos, Bool, true, false, if◌then◌else◌, Some, List, [], ◌∷◌, refl, ap, sym, subst, ◌∙◌, arith}
use Rattle.std.specs.Prelude.{nat_eq, int_le, ◌-ℤ◌}
use Rattle.std.proofs.lemmas.Option.{none-some}
use Rattle.pv_base.specs.declared.Name.{Name}
use Rattle.pv_base.specs.declared.Span.{Span}
use Rattle.pv_ast.specs.declared.PvType.TheVariants.{Int}
use Rattle.pv_values.specs.declared.value.Value.TheVariants as value
use Rattle.pv_base.specs.Names.{same_name}
use Rattle.pv_fraction.specs.Amounts.{whole}
use Rattle.pv_picks.specs.declared.check.Check.TheVariants as check
use Rattle.pv_picks.specs.Plain.Core.{Message, Program, Team}
use Rattle.pv_picks.specs.Formulas.Heaps.{at_number}
use Rattle.pv_picks.specs.Formulas.Meeting.{at}
use Rattle.pv_picks.specs.Judge.States.{Resource, OfLock}
use Rattle.pv_picks.specs.Machine.Tasks.{AtReceive, Task, Stand}
use Rattle.pv_picks.specs.Machine.Frames.{Frame, goes_on, settled, only_now}
use Rattle.pv_picks.specs.Machine.Worlds.{MemberOf, Mode, World, with_frames}
use Rattle.pv_picks.specs.Machine.Steps.{Result, partner_if, sender_of, needs, waits_unless, as_member, act_receive, act, act_tasks}
use Rattle.pv_picks.specs.Typing.Expressions.{silent, type_in}
use Rattle.pv_picks.specs.Formulas.Values.{number_in}
use Rattle.core_trees.specs.Formulas.{MessageFits}
use Rattle.account_formulas.specs.Sights.{SceneFits}
use Rattle.account_formulas.specs.Good.{IsGood}
use Rattle.account_formulas.specs.Owning.{Amounts, Owns, KeepsHeld}
use Rattle.account_formulas.specs.Agreeing.{ScenesAgree}
use Rattle.account_formulas.specs.Growing.{HeapFits}
use Rattle.account_formulas.specs.Gaining.{PredicatesFit}
use Rattle.account_formulas.proofs.Basics.{nat_self}
use Rattle.account_formulas.proofs.Laws.{owned_alike}
use Rattle.account.proofs.Goodness.{good_formula}
use Rattle.pv_picks.proofs.Sames.{naturals_same, names_same}
use Rattle.account.specs.Frames.{amounts_of, all_of, home_in, standing_in, IsRunOf}
use Rattle.account.specs.Owners.{Mail, carried_by, letter, without_letter}
use Rattle.account.specs.Blocks.{scene_at}
use Rattle.account.specs.Messages.{TasksExchange, ReceivesNone, Lies}
use Rattle.account.specs.Accounts.{Account, Kept}
use Rattle.account.specs.Scoped.{TasksSay}
use Rattle.account.specs.Going.{Goes}
use Rattle.account.proofs.Exchanging.{settled_exchanges}
use Rattle.account.proofs.Sums.{sum_less}
use Rattle.account.proofs.Stepping.{by_run}
use Rattle.account_blocks.proofs.Moving.{moved}
use Rattle.account_blocks.proofs.Sites.{site_scene, site_fits, at_own, at_a_receive}
use Rattle.account_blocks.proofs.Messages.{is_some_distance, Received, receives, receives_none}
use Rattle.account_blocks.proofs.Members.{Stood, stood, here, scenes_agree, part_of_all}
use Rattle.account_blocks.proofs.Letters.{fewer, taken_out, others_stay}
use Rattle.account_blocks.proofs.Onward.{still_receives, step_known, done, went, went_alone}

module _ (p : Program) (w : World) (a : Account p w) (sound : HeapFits p w.heap) (framed : PredicatesFit p w.heap) (i : ℕ)
    (inside : i < w.count) (f : Frame) (stack : (w.threads i).frames ≡ f ∷ []) (b : ℕ) (spot : ℤ)
    (role : (w.threads i).role ≡ MemberOf b spot) (m : Message) (span : Span) (rest : List Task)
    (is : f.tasks ≡ Stand (AtReceive m span) ∷ rest) (once : ReceivesNone m.label (goes_on f rest ∷ [])) where
  abbrev k : Stood p w a i inside f stack b spot role
  k = stood p w a i inside f stack b spot role

  abbrev team : Team
  team = (w.blocks b).team

  abbrev sender : ℤ
  sender = spot -ℤ pos m.distance

  abbrev behind : Frame
  behind = settled (goes_on f rest)

  place : number_in (k.run.body.site.begun k.run.body.site.variable.0) -ℤ pos m.distance ≡ sender
  place = ap (λ z. z -ℤ pos m.distance) (here p w a i inside f stack b spot role)

  speaks : MessageFits (home_in p f.class k.run.body) k.run.body.head m
  speaks = (at_a_receive p w.committed w.heap f k.run k.fits m span rest is).speaks

  good : IsGood (home_in p f.class k.run.body) silent k.run.body.head m.formula
  good = good_formula (home_in p f.class k.run.body) silent k.run.body.head m.formula speaks.1

  known : a.owners.messages b m.label ≡ m
  known = step_known p w a sound framed i inside f stack b spot role k.run k.has_runs (AtReceive m span) rest is
      (λ c e. cc e)

  -- the opener's scene at the sender's position, and this member's
  agree : ScenesAgree silent k.run.body.head (scene_at (a.owners.openings b) team sender)
      (at (site_scene k.run.body.site k.run.state) team.variable sender)
  agree =
      let own = scenes_agree p w a i inside f stack b spot role in
      record {
        this = sym own.this;
        variables = λ n t e. go n (nat_eq n.0 team.variable.0) (own.variables n t e);
        result = λ t e. absurd (none-some t e);
      }
    where
      go : (n : Name) (t : Bool)
          → k.run.body.site.begun n.0 ≡ (if t then value.Number spot else (a.owners.openings b).scene.variables n.0)
          → (if t then value.Number sender else (a.owners.openings b).scene.variables n.0)
          ≡ (if t then value.Number sender else k.run.body.site.begun n.0)
      go n true e = refl
      go n false e = sym e

  -- the letter that was sent
  lies : (w.blocks b).sent m.label sender ≡ true
      → Lies p w.committed w.heap (a.owners.openings b) (w.blocks b) sender m m.label (a.owners.mail i)
  lies sent =
      subst (λ z. Lies p w.committed w.heap (a.owners.openings b) (w.blocks b) (spot -ℤ pos z.distance) z m.label
      (a.owners.mail i)) known
      (a.mail.there i inside b spot role m.label awaited
      (subst (λ z. (w.blocks b).sent m.label (spot -ℤ pos z.distance) ≡ true) (sym known) sent))
    where
      awaited : ReceivesNone m.label (w.threads i).frames → ⊥
      awaited none =
          let here' = (subst (λ ts. TasksExchange (λ n. Unit {0}) (λ n. same_name m.label n.label ≡ false) ts) is
          (subst (ReceivesNone m.label) stack none)).0 in
          let self = nat_self m.label.0 in absurd (cc (here', self))

  unchanged : (R : Amounts) → KeepsHeld R w.heap w.heap
  unchanged R = record { placed = λ q e. e; kept = λ q v more e. e; lengths = λ x n e. e }

  module _ (someone : int_le (w.blocks b).low sender ≡ true) (sent : (w.blocks b).sent m.label sender ≡ true) where
    abbrev part : Amounts
    part = (lies sent).part

    out : (q : Resource) → carried_by (without_letter m.label (a.owners.mail i)) q + part q ≤ carried_by (a.owners.mail i) q
    out q = taken_out m.label (a.owners.mail i) part (lies sent).there q

    received : Received p w.committed w.heap sound framed f k.run rest part
    received = receives p w.committed w.heap sound framed f k.run k.fits m span rest is speaks.0
        (ap (λ z. int_le k.run.body.site.low z) place ∙ (ap (λ z. int_le z sender) k.is.low ∙ someone)) good
        (subst (λ z. SceneFits (home_in p f.class k.run.body) silent k.run.body.head w.heap
        (at (site_scene k.run.body.site k.run.state) k.run.body.site.variable z)) (sym place)
        (subst (λ z. SceneFits (home_in p f.class k.run.body) silent k.run.body.head w.heap
        (at (site_scene k.run.body.site k.run.state) z sender)) (sym k.is.variable)
        (at_own (home_in p f.class k.run.body) silent k.run.body.head w.heap (site_scene k.run.body.site k.run.state)
        team.variable sender own_type (site_fits p w.committed w.heap f k.run k.fits)))) part
        (subst (λ z. Owns p w.committed (only_now w.heap)
        (at (site_scene k.run.body.site k.run.state) k.run.body.site.variable z) m.formula part) (sym place)
        (subst (λ z. Owns p w.committed (only_now w.heap)
        (at (site_scene k.run.body.site k.run.state) z sender) m.formula part) (sym k.is.variable)
        (owned_alike (home_in p f.class k.run.body) silent w.committed (only_now w.heap) (only_now w.heap) refl (λ e. refl)
        k.run.body.head (scene_at (a.owners.openings b) team sender)
        (at (site_scene k.run.body.site k.run.state) team.variable sender) agree m.formula good part
        ((lies sent).owns w.heap (unchanged part)))))
        (λ q. let o = out q in let n = part_of_all p w a i inside f stack b spot role q in omega (arith, o, n))
      where
        own_type : type_in k.run.body.head team.variable ≡ Some Int
        own_type = ap (λ xs. type_in xs team.variable) k.is.head
            ∙ ap (λ t. if t then Some Int else type_in (a.owners.openings b).scope team.variable) (nat_self team.variable.0)

    abbrev mail : ℕ → Mail
    mail = at_number i (without_letter m.label (a.owners.mail i)) a.owners.mail

    enough : (q : Resource) → amounts_of received.run q ≤ whole
    enough q =
        let l = received.less q in let o = out q in let n = part_of_all p w a i inside f stack b spot role q in
        omega (arith, l, o, n)

    abbrev on : Goes p w.committed w.heap behind received.run
    on = done p w a sound framed i inside f stack b spot role k.run k.has_runs (AtReceive m span) rest is (λ c e. cc e)
        received.run received.fits received.says received.body enough

    got_letter : Account p (with_frames w i (behind ∷ []))
    got_letter = moved p w a i (behind ∷ []) (on.run ∷ []) a.owners.left mail inside
        (went p w a sound framed i inside f stack b spot role k.run k.has_runs (AtReceive m span) rest is (λ c e. cc e)
        received.run received.fits received.says received.body enough a.owners.left mail
        (λ q. sum_less _ _ w.count (λ j. less_at j q (nat_eq j i) refl))
        (λ class x. let l = received.less (OfLock class x) in let o = out (OfLock class x) in
        let z = a.locks.threads i inside class x in omega (arith, l, o, z))
        (λ j l class x. locks_at j l class x (nat_eq j i) refl)
        (λ j e. refl)
        (λ j l c position is' label some was. there_at j l c position is' label some was (nat_eq j i) refl))
      where
        less_at : (j : ℕ) (q : Resource) (x : Bool) → nat_eq j i ≡ x
            → all_of (if x then on.run ∷ [] else a.owners.runs j) q
            + (a.owners.left j q + carried_by (if x then without_letter m.label (a.owners.mail i) else a.owners.mail j) q)
            ≤ all_of (a.owners.runs j) q + (a.owners.left j q + carried_by (a.owners.mail j) q)
        less_at j q false e = omega arith
        less_at j q true e =
            let same = naturals_same j i e in
            let runs = ap (λ z. all_of (a.owners.runs z) q) same in
            let mine = ap (λ z. all_of z q) k.has_runs in
            let letters = ap (λ z. carried_by (a.owners.mail z) q) same in
            let d = on.less q in let l = received.less q in let o = out q in
            omega (arith, runs, mine, letters, d, l, o)

        locks_at : (j : ℕ) → j < w.count → (class : Name) (x : ℕ) (t : Bool) → nat_eq j i ≡ t
            → a.owners.left j (OfLock class x)
            + carried_by (if t then without_letter m.label (a.owners.mail i) else a.owners.mail j) (OfLock class x) ≡ 0
        locks_at j l class x false e = a.locks.threads j l class x
        locks_at j l class x true e =
            let same = ap (λ z. carried_by (a.owners.mail z) (OfLock class x)) (naturals_same j i e) in
            let z = a.locks.threads j l class x in
            let d = fewer m.label (a.owners.mail i) (OfLock class x) in omega (arith, same, z, d)

        there_at : (j : ℕ) → j < w.count → (c : ℕ) (position : ℤ) → (w.threads j).role ≡ MemberOf c position
            → (label : Name) → (ReceivesNone label ((with_frames w i (behind ∷ [])).threads j).frames → ⊥)
            → (w.blocks c).sent label (position -ℤ pos (a.owners.messages c label).distance) ≡ true
            → (x : Bool) → nat_eq j i ≡ x
            → Lies p w.committed w.heap (a.owners.openings c) (w.blocks c)
            (position -ℤ pos (a.owners.messages c label).distance) (a.owners.messages c label) label
            (if x then without_letter m.label (a.owners.mail i) else a.owners.mail j)
        there_at j l c position is' label some was = by
          where
            old : Lies p w.committed w.heap (a.owners.openings c) (w.blocks c)
                (position -ℤ pos (a.owners.messages c label).distance) (a.owners.messages c label) label (a.owners.mail j)
            old = a.mail.there j l c position is' label
                (still_receives p w a sound framed i inside f stack b spot role k.run k.has_runs (AtReceive m span) rest is
                (λ c e. cc e) received.run received.fits received.says received.body enough j label some) was

            apart : nat_eq j i ≡ true → (t : Bool) → same_name label m.label ≡ t → t ≡ false
            apart e false h = refl
            apart e true h = absurd (some
                (subst (λ x. ReceivesNone label (if x then record { role = (w.threads i).role; frames = behind ∷ [] }
                else w.threads j).frames) (sym e)
                (settled_exchanges (λ n. Unit {0}) (λ n. same_name label n.label ≡ false)
                (goes_on f rest) (subst (λ z. ReceivesNone z (goes_on f rest ∷ [])) (sym (names_same label m.label h)) once))))

            by : (x : Bool) → nat_eq j i ≡ x → Lies p w.committed w.heap (a.owners.openings c) (w.blocks c)
                (position -ℤ pos (a.owners.messages c label).distance) (a.owners.messages c label) label
                (if x then without_letter m.label (a.owners.mail i) else a.owners.mail j)
            by false e = old
            by true e = record {
              part = old.part;
              there = others_stay m.label label (apart e (same_name label m.label) refl) (a.owners.mail i)
                  ∙ (ap (λ z. letter label (a.owners.mail z)) (sym (naturals_same j i e)) ∙ old.there);
              owns = old.owns;
            }

  -- where nobody is at the distance, nothing is received
  module _ (none : int_le (w.blocks b).low sender ≡ false) where
    alone : IsRunOf p w.committed w.heap (goes_on f rest) (record k.run { inner = false })
    alone = receives_none p w.committed w.heap sound framed f k.run k.fits m span rest is speaks.0
        (ap (λ z. int_le k.run.body.site.low z) place ∙ (ap (λ z. int_le z sender) k.is.low ∙ none))

    says : TasksSay (standing_in p f.class k.run.body k.run.outer) false k.run.scope k.run.given k.run.stack rest
    says = (at_a_receive p w.committed w.heap f k.run k.fits m span rest is).tasks

    no_more : (q : Resource) → amounts_of (record k.run { inner = false }) q ≤ whole
    no_more q = let n = part_of_all p w a i inside f stack b spot role q in omega (arith, n)

    nobody : Account p (with_frames w i (behind ∷ []))
    nobody = went_alone p w a sound framed i inside f stack b spot role k.run k.has_runs (AtReceive m span) rest is (λ c e. cc e)
        (record k.run { inner = false }) alone says refl no_more (λ q. omega arith)

  pub receive_keeps : (mode : Mode) → Kept p (act p w mode i)
  receive_keeps mode = by_run p w a i inside f [] stack mode (λ r rs e fits.
      (subst (λ ts. Kept p (act_tasks p w i f [] mode ts)) (sym is)
      (subst (λ t. Kept p (needs t check.Send span (as_member p w i f [] (w.threads i).role [] check.Send span
      (λ block position. act_receive p w i f [] (sender_of (w.blocks block) position m) block (position -ℤ pos m.distance) m
      rest))))
      (sym (is_some_distance m.distance speaks.0))
      (subst (λ z. Kept p (as_member p w i f [] z [] check.Send span
      (λ block position. act_receive p w i f [] (sender_of (w.blocks block) position m) block (position -ℤ pos m.distance) m
      rest)))
      (sym role) (by_test (int_le (w.blocks b).low sender) refl)))))
    where
      by_sent : int_le (w.blocks b).low sender ≡ true → (y : Bool) → (w.blocks b).sent m.label sender ≡ y
          → Kept p (waits_unless y (Result.Went (with_frames w i (behind ∷ []))))
      by_sent e true s = got_letter e s
      by_sent e false s = tt

      by_test : (x : Bool) → int_le (w.blocks b).low sender ≡ x
          → Kept p (act_receive p w i f [] (partner_if x) b sender m rest)
      by_test true e = by_sent e ((w.blocks b).sent m.label sender) refl
      by_test false e = nobody e
