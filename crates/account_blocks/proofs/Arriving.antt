-- A member that arrives at a barrier in an accounted world: what the barrier asks of it is left for all.
use Rattle.std.proofs.Common.{◌≡◌, ℕ, zero, suc, ◌+◌, ◌≤◌, ◌<◌, ℤ, Bool, true, false, if◌then◌else◌, Some, None, List, [], ◌∷◌, refl, ap, sym, subst, ◌∙◌, arith}
use Rattle.std.specs.Prelude.{nat_eq}
use Rattle.std.proofs.lemmas.Option.{none-some}
use Rattle.pv_base.specs.declared.Name.{Name}
use Rattle.pv_base.specs.declared.Span.{Span}
use Rattle.pv_ast.specs.declared.PvType.TheVariants.{Int}
use Rattle.pv_values.specs.declared.value.Value.TheVariants as value
use Rattle.pv_picks.specs.declared.check.Check.TheVariants as check
use Rattle.pv_picks.specs.Plain.Core.{Barrier, Program, Shared}
use Rattle.pv_picks.specs.Formulas.Heaps.{at_number}
use Rattle.pv_picks.specs.Formulas.Meeting.{AllMet, at, unmet}
use Rattle.pv_picks.specs.Judge.States.{Resource, State, OfLock, nothing_held}
use Rattle.pv_picks.specs.Machine.Tasks.{AtArrive, AtLeave, AtClose, Step, Task, Stand}
use Rattle.pv_picks.specs.Machine.Frames.{Frame, goes_on, settled, after_work, only_now, at_lengths_of, sight_of, contract_scene}
use Rattle.pv_picks.specs.Machine.Measures.{size_of_tasks}
use Rattle.pv_picks.specs.Judge.Rows.{Site, exhale_each}
use Rattle.pv_picks.specs.Judge.Settings.{Next, if_within}
use Rattle.pv_picks.specs.Judge.Inhaling.{inhale_items}
use Rattle.pv_picks.specs.Judge.Judging.{finish, choose_turn, turn_of, pick_position, bind_at_site, at_site, inhale_at_site}
use Rattle.pv_picks.specs.Judge.Runs.{Judged, Maps}
use Rattle.account_formulas.specs.Runs.{truly, RestNeverFails}
use Rattle.account_formulas.specs.Giving.{Gave, with_left}
use Rattle.account_formulas.proofs.Lengths.{never_number, goes_on_same}
use Rattle.account_formulas.proofs.Alike.{agree_back, agree_then}
use Rattle.account.specs.Running.{ran}
use Rattle.pv_picks.specs.Machine.Worlds.{MemberOf, Mode, World, with_frames}
use Rattle.pv_picks.specs.Machine.Steps.{Result, needs_met, as_member, act_arrive, act, act_tasks}
use Rattle.pv_picks.specs.Typing.Expressions.{silent, type_in}
use Rattle.pv_picks.specs.Formulas.Values.{within}
use Rattle.core_trees.specs.Formulas.{BarrierFits, SharedFits}
use Rattle.account_formulas.specs.Good.{IsGood}
use Rattle.account_formulas.specs.Owning.{Amounts, Owns, KeepsOwning}
use Rattle.account_formulas.specs.Agreeing.{ScenesAgree}
use Rattle.account_formulas.specs.Growing.{StateFits, HeapFits}
use Rattle.account_formulas.specs.Gaining.{PredicatesFit}
use Rattle.account_formulas.proofs.Basics.{nat_self}
use Rattle.account_formulas.proofs.Laws.{gives_up, left_fits, owned_is_met, owned_alike, met_alike}
use Rattle.account.proofs.Goodness.{good_formula}
use Rattle.pv_picks.proofs.Sames.{naturals_same}
use Rattle.account.specs.Frames.{Run, all_of, home_in, IsRunOf}
use Rattle.account.specs.Owners.{carried_by, without_locks}
use Rattle.account.specs.Blocks.{scene_at, FormsAreAlike, HasArrived}
use Rattle.account.specs.Messages.{TasksExchange}
use Rattle.account.specs.Accounts.{Account, Kept}
use Rattle.account.proofs.Sums.{sum_less, at_same, at_other}
use Rattle.account.proofs.Moving.{first_same, GoesOn, first_goes_on, others_here, still_receives}
use Rattle.account.proofs.Stepping.{by_run}
use Rattle.account_blocks.proofs.Moving.{as_member_of, moved}
use Rattle.account_blocks.proofs.Sites.{StandsAt, site_scene, site_fits, place_at, same_scenes, at_own, at_an_arrival, goes_behind}
use Rattle.account_blocks.proofs.Messages.{nothing_fits}
use Rattle.account_blocks.proofs.Members.{member, Stood, stood, scenes_agree, part_of_all}
use Rattle.account.proofs.Locks.{locks_less, goes_on_locked}
use Rattle.account.proofs.Choosing.{never_turn}
use Rattle.account_blocks.proofs.Staying.{stays_on}
use Rattle.account.proofs.Numbers.{number_within}

first_step : (x y : Step) (xs ys : List Task) → Stand x ∷ xs ≡ Stand y ∷ ys → x ≡ y
first_step x y xs ys e = cc e

same_barrier : (b c : Barrier) (s t : Span) → AtLeave b s ≡ AtLeave c t → b ≡ c
same_barrier b c s t e = cc e

module _ (p : Program) (w : World) (a : Account p w) (sound : HeapFits p w.heap) (framed : PredicatesFit p w.heap) (i : ℕ)
    (inside : i < w.count) (f : Frame) (stack : (w.threads i).frames ≡ f ∷ []) (b : ℕ) (spot : ℤ)
    (role : (w.threads i).role ≡ MemberOf b spot) (barrier : Barrier) (span : Span) (rest : List Task)
    (is : f.tasks ≡ Stand (AtArrive barrier span) ∷ rest) (alike : FormsAreAlike (w.blocks b).team barrier.shared) where
  abbrev k : Stood p w a i inside f stack b spot role
  k = stood p w a i inside f stack b spot role

  abbrev r : Run
  r = k.run

  abbrev site : Site
  site = k.run.body.site

  abbrev shared : Shared
  shared = barrier.shared

  abbrev behind : Frame
  behind = goes_on f (Stand (AtLeave barrier span) ∷ rest)

  arrival : StandsAt p w.committed w.heap (BarrierFits (home_in p f.class k.run.body) k.run.body.head barrier.shared) f k.run
      (AtArrive barrier span) rest
  arrival = at_an_arrival p w.committed w.heap f k.run k.fits barrier span rest is

  -- the barrier's contract is typed in the scope of the opener
  speaks : SharedFits (home_in p f.class k.run.body) (a.owners.openings b).scope (w.blocks b).team.variable barrier.shared
  speaks = (subst (λ xs. BarrierFits (home_in p f.class k.run.body) xs barrier.shared) k.is.head arrival.speaks).1

  good : IsGood (home_in p f.class k.run.body) silent k.run.body.head barrier.shared.one.before
  good = subst (λ xs. IsGood (home_in p f.class k.run.body) silent xs barrier.shared.one.before) (sym k.is.head)
      (good_formula (home_in p f.class k.run.body) silent
      (((w.blocks b).team.variable, Int) ∷ (a.owners.openings b).scope) barrier.shared.one.before speaks.1)

  -- what all members do together, what each of them leaves, and how the run goes on
  abbrev inner : Maps → Next Judged
  inner maps s = inhale_items (truly maps) (bind_at_site (truly maps) site s) site.variable site.low site.high shared.each_before
      (λ t. exhale_each (truly maps) check.BarrierEnsures (bind_at_site (truly maps) site t) site.variable site.low site.high
      shared.each_after (finish (truly maps)) t) (nothing_held s)

  abbrev then_after : Maps → ℤ → Next Judged
  then_after maps z t =
      inhale_at_site (truly maps) (at_site (truly maps) site z) shared.one.after (finish (truly maps)) (nothing_held t)

  abbrev frame : Maps → Next Judged
  frame maps s = pick_position (truly maps) site.low site.high
      (λ z. inhale_at_site (truly maps) (at_site (truly maps) site z) shared.one.before (then_after maps z)) (nothing_held s)

  abbrev past : Maps → Next Judged
  past maps = inhale_at_site (truly maps) site shared.one.after (ran (truly maps) p k.run.body false rest f.values)

  abbrev on : Maps → Next Judged
  on maps = choose_turn (truly maps) (inner maps) (frame maps) (past maps)

  gave : Gave p w.committed w.heap k.run.taken (Owns p w.committed
      (record { now = w.heap; old = at_lengths_of w.heap k.run.past })
      (site_scene k.run.body.site k.run.state) barrier.shared.one.before) k.run.state k.run.state.held k.run.trees on
  gave = gives_up p w.committed w.heap sound (place_at p w.committed w.heap f k.run k.fits)
      (site_scene k.run.body.site k.run.state) (site_fits p w.committed w.heap f k.run k.fits) barrier.shared.one.before good
      k.run.taken k.run.state k.fits.old.settled k.fits.state.fits k.run.trees k.fits.state.trees check.BarrierRequires None on
      arrival.never

  abbrev given : State
  given = with_left k.run.state gave.held gave.instances gave.lengths

  abbrev turns : Maps → ℕ → Judged
  turns maps = turn_of (truly maps) (inner maps) (frame maps) (past maps) given

  given_fits : StateFits w.committed w.heap k.run.taken given
  given_fits = left_fits w.committed w.heap k.run.taken k.run.state gave.held gave.instances gave.lengths k.fits.state.fits
      gave.leaves gave.agree

  abbrev run : Run
  run = record k.run { state = given; trees = gave.trees; inner = false }

  met : unmet (sight_of w.heap f) (contract_scene f) barrier.shared.one.before ≡ AllMet
  met = met_alike (home_in p f.class k.run.body) silent refl w.heap _ _ k.run.body.head (contract_scene f)
      barrier.shared.one.before good
      ∙ owned_is_met (home_in p f.class k.run.body) silent p w.committed k.run.body.head _ (contract_scene f)
      barrier.shared.one.before good gave.part
      (owned_alike (home_in p f.class k.run.body) silent w.committed
      (record { now = w.heap; old = at_lengths_of w.heap k.run.past })
      (record { now = w.heap; old = at_lengths_of w.heap k.run.past }) refl (λ e. refl) k.run.body.head _ _
      (same_scenes p w.committed w.heap f k.run k.fits) barrier.shared.one.before good gave.part gave.owns)

  -- this member's position is one of the block, and its variable has it
  here_within : within k.run.body.site.low k.run.body.site.high spot ≡ true
  here_within =
      let m = member p w a i inside f stack b spot role in
      subst (λ z. within z k.run.body.site.high spot ≡ true) (sym k.is.low)
      (subst (λ z. within (w.blocks b).low z spot ≡ true) (sym k.is.high)
      (subst (λ z. within (w.blocks b).low (w.blocks b).high z ≡ true) (sym m.place)
      (number_within (w.blocks b).low (w.blocks b).high m.number m.less)))

  own_type : type_in k.run.body.head k.run.body.site.variable ≡ Some Int
  own_type = ap (type_in k.run.body.head) k.is.variable ∙ ap (λ xs. type_in xs (w.blocks b).team.variable) k.is.head
      ∙ ap (λ t. if t then Some Int else type_in (a.owners.openings b).scope (w.blocks b).team.variable)
      (nat_self (w.blocks b).team.variable.0)

  -- the judge's scene at this position is that of the opener there
  there : ScenesAgree silent k.run.body.head (at (site_scene k.run.body.site k.run.state) k.run.body.site.variable spot)
      (scene_at (a.owners.openings b) (w.blocks b).team spot)
  there =
      let own = scenes_agree p w a i inside f stack b spot role in
      record {
        this = own.this;
        variables = λ n t e. subst (λ x. (if nat_eq n.0 x.0 then value.Number spot else k.run.body.site.begun n.0)
            ≡ (if nat_eq n.0 (w.blocks b).team.variable.0 then value.Number spot else (a.owners.openings b).scene.variables n.0))
            (sym k.is.variable) (go n (nat_eq n.0 (w.blocks b).team.variable.0) (own.variables n t e));
        result = λ t e. absurd (none-some t e);
      }
    where
      go : (n : Name) (t : Bool)
          → k.run.body.site.begun n.0 ≡ (if t then value.Number spot else (a.owners.openings b).scene.variables n.0)
          → (if t then value.Number spot else k.run.body.site.begun n.0)
          ≡ (if t then value.Number spot else (a.owners.openings b).scene.variables n.0)
      go n true e = refl
      go n false e = e

  same_there : ScenesAgree silent k.run.body.head (site_scene k.run.body.site k.run.state)
      (at (site_scene k.run.body.site k.run.state) k.run.body.site.variable spot)
  same_there = agree_then silent k.run.body.head _ _ _ (scenes_agree p w a i inside f stack b spot role)
      (agree_back silent k.run.body.head _ _ there)

  framing : RestNeverFails k.run.taken (λ maps. inhale_at_site (truly maps) (at_site (truly maps) k.run.body.site spot)
      barrier.shared.one.before (then_after maps spot) (nothing_held given))
  framing = subst (λ t. RestNeverFails k.run.taken (λ maps. if t
      then inhale_at_site (truly maps) (at_site (truly maps) k.run.body.site spot)
      barrier.shared.one.before (then_after maps spot) (nothing_held given) else (truly maps).blocked)) here_within
      (never_number k.run.taken (λ maps z. if_within (truly maps) site.low site.high z (truly maps).blocked
      (inhale_at_site (truly maps) (at_site (truly maps) site z) shared.one.before (then_after maps z) (nothing_held given)))
      spot (never_turn k.run.taken turns 1 refl gave.never))

  -- what it leaves goes on to suffice for what the barrier asks of it
  leaves : KeepsOwning p w.committed w.heap (scene_at (a.owners.openings b) (w.blocks b).team spot) barrier.shared.one.before
      gave.part
  leaves later l = owned_alike (home_in p f.class k.run.body) silent w.committed
      (record { now = later; old = at_lengths_of w.heap k.run.past }) (only_now later) refl (λ e. absurd (cc e)) k.run.body.head
      (at (site_scene k.run.body.site k.run.state) k.run.body.site.variable spot)
      (scene_at (a.owners.openings b) (w.blocks b).team spot) there barrier.shared.one.before good gave.part
      (stays_on p w.committed w.heap sound framed (place_at p w.committed w.heap f k.run k.fits)
      (at (site_scene k.run.body.site k.run.state) k.run.body.site.variable spot)
      (at_own (home_in p f.class k.run.body) silent k.run.body.head w.heap (site_scene k.run.body.site k.run.state)
      k.run.body.site.variable spot own_type (site_fits p w.committed w.heap f k.run k.fits)) barrier.shared.one.before good
      gave.part
      (owned_alike (home_in p f.class k.run.body) silent w.committed
      (record { now = w.heap; old = at_lengths_of w.heap k.run.past })
      (record { now = w.heap; old = at_lengths_of w.heap k.run.past }) refl (λ e. refl) k.run.body.head
      (site_scene k.run.body.site k.run.state) (at (site_scene k.run.body.site k.run.state) k.run.body.site.variable spot)
      same_there barrier.shared.one.before good gave.part gave.owns)
      (λ q. let s = gave.sum q in let n = part_of_all p w a i inside f stack b spot role q in omega (arith, s, n))
      k.run.taken (nothing_held given) k.fits.old.settled (nothing_fits w.committed w.heap k.run.taken given given_fits)
      (λ q. refl) refl (λ maps. then_after maps spot) framing
      (record { now = later; old = at_lengths_of w.heap k.run.past }) l k.fits.old.agrees l.lengths (λ array n e. e))

  abbrev part : Amounts
  part = without_locks gave.part

  abbrev left : ℕ → Amounts
  left = at_number i part a.owners.left

  run_fits : IsRunOf p w.committed w.heap behind run
  run_fits = goes_behind p w.committed w.heap f k.run k.fits (Stand (AtLeave barrier span) ∷ rest) given k.run.taken gave.trees
      given_fits refl refl (goes_on_same k.run.taken) gave.has_trees (arrival.speaks, arrival.tasks) arrival.outer
      (never_turn k.run.taken turns 2 refl gave.never)

  goes : GoesOn w.threads a.owners i (behind ∷ []) (run ∷ [])
  goes = first_goes_on w.threads a.owners i f [] stack k.run [] k.has_runs behind run
      (λ c ts e. let z = first_step (AtArrive barrier span) (AtClose c) rest ts (sym is ∙ e) in absurd (cc z))
      (record {
        still = record { class = refl; method = refl; this = refl; begun = refl; old = refl };
        body = refl;
        closes = λ c ts e. let z = first_step (AtLeave barrier span) (AtClose c) rest ts e in absurd (cc z);
        messages = λ S R h. (tt, (subst (TasksExchange S R) is h).1);
      })

  -- it has arrived there as the member that it is
  has_arrived : (c : ℕ) (position : ℤ) → (w.threads i).role ≡ MemberOf c position → (h : Frame) (q : Run) (qs : List Run)
      (other : Barrier) (place : Span) (others : List Task) → behind ∷ [] ≡ h ∷ [] → run ∷ [] ≡ q ∷ qs
      → h.tasks ≡ Stand (AtLeave other place) ∷ others
      → HasArrived p w.committed w.heap (a.owners.openings c) (w.blocks c) position other q (left i)
  has_arrived c position is' h q qs other place others e has t =
      subst (λ z. HasArrived p w.committed w.heap (a.owners.openings c) (w.blocks c) position other z (left i))
      (first_same run q [] qs has)
      (subst (λ z. HasArrived p w.committed w.heap (a.owners.openings c) (w.blocks c) position z run (left i))
      (same_barrier barrier other span place (first_step (AtLeave barrier span) (AtLeave other place) rest others
      (ap (λ z. z.tasks) (first_same behind h [] [] e) ∙ t)))
      (subst (λ z. HasArrived p w.committed w.heap (a.owners.openings c) (w.blocks c) position barrier run z)
      (sym (at_same i part a.owners.left))
      (as_member_of b spot (w.threads i).role role (λ d z. HasArrived p w.committed w.heap (a.owners.openings d) (w.blocks d) z
      barrier run part) (record {
        alike = alike;
        owns = goes_on_locked p w.committed w.heap (scene_at (a.owners.openings b) (w.blocks b).team spot)
            barrier.shared.one.before gave.part leaves;
        meets = never_turn k.run.taken turns 0 refl gave.never;
      }) c position is')))

  arrived : Account p (with_frames w i (behind ∷ []))
  arrived = moved p w a i (behind ∷ []) (run ∷ []) left a.owners.mail inside (record {
    fits = (run_fits, tt);
    goes = goes;
    less = λ q. sum_less _ _ w.count (λ j. less_at j q (nat_eq j i) refl);
    locks = λ class x. let s = gave.sum (OfLock class x) in let had = ap (λ z. all_of z (OfLock class x)) k.has_runs in
        omega (arith, s, had);
    no_locks = λ j l class x. locks_at j l class x (nat_eq j i);
    stays = λ j e c position is' opener. at_other i j part a.owners.left e;
    enough = record { ended = λ c position is' none. absurd (cc none); arrived = has_arrived };
    there = λ j l c position is' label some was. a.mail.there j l c position is' label
        (still_receives p w.committed w.heap w.heap w.count w.threads a.owners i (others_here w.heap w.count a.owners i)
        (behind ∷ []) (run ∷ []) goes j label some) was;
  })
    where
      less_at : (j : ℕ) (q : Resource) (x : Bool) → nat_eq j i ≡ x
          → all_of (if x then run ∷ [] else a.owners.runs j) q
          + ((if x then part else a.owners.left j) q + carried_by (a.owners.mail j) q)
          ≤ all_of (a.owners.runs j) q + (a.owners.left j q + carried_by (a.owners.mail j) q)
      less_at j q false e = omega arith
      less_at j q true e =
          let runs = ap (λ z. all_of (a.owners.runs z) q) (naturals_same j i e) in
          let mine = ap (λ z. all_of z q) k.has_runs in
          let s = gave.sum q in let n = locks_less gave.part q in omega (arith, runs, mine, s, n)

      locks_at : (j : ℕ) → j < w.count → (class : Name) (x : ℕ) (t : Bool)
          → (if t then part else a.owners.left j) (OfLock class x) + carried_by (a.owners.mail j) (OfLock class x) ≡ 0
      locks_at j l class x false = a.locks.threads j l class x
      locks_at j l class x true = let z = a.locks.threads j l class x in omega (arith, z)

  settled_there : settled behind ≡ behind
  settled_there = by (size_of_tasks behind.tasks)
    where
      by : (n : ℕ) → after_work n behind ≡ behind
      by zero = refl
      by (suc n) = by n

  pub arrive_keeps : (mode : Mode) → Kept p (act p w mode i)
  arrive_keeps mode = by_run p w a i inside f [] stack mode (λ r rs e fits.
      (subst (λ ts. Kept p (act_tasks p w i f [] mode ts)) (sym is)
      (subst (λ z. Kept p (as_member p w i f [] z [] check.BarrierRequires span
      (λ block position. act_arrive p w i f [] barrier span rest))) (sym role)
      (subst (λ o. Kept p (needs_met o check.BarrierRequires (Result.Went (with_frames w i (settled behind ∷ []))))) (sym met)
      (subst (λ g. Account p (with_frames w i (g ∷ []))) (sym settled_there) arrived)))))
