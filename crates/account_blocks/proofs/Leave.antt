-- Members of a block meet at a barrier: what they left is taken in, and each takes its part of what the barrier gives.
use Rattle.std.proofs.Common.{◌≡◌, ℕ, ◌+◌, ◌≤◌, ◌<◌, ℤ, Bool, true, false, if◌then◌else◌, Some, None, List, [], ◌∷◌, refl, ap, sym, subst, ◌∙◌, arith}
use Rattle.std.specs.Prelude.{nat_eq}
use Rattle.std.proofs.lemmas.Option.{none-some}
use Rattle.pv_base.specs.declared.Name.{Name}
use Rattle.pv_base.specs.declared.Span.{Span}
use Rattle.pv_ast.specs.declared.PvType.{PvType}
use Rattle.pv_ast.specs.declared.PvType.TheVariants.{Int, Object}
use Rattle.pv_values.specs.declared.value.Value.TheVariants as value
use Rattle.pv_fraction.specs.Amounts.{whole}
use Rattle.pv_picks.specs.declared.check.Check.TheVariants as check
use Rattle.pv_picks.specs.Plain.Core.{Barrier, Formula, Parameter, Program, Shared}
use Rattle.pv_picks.specs.Formulas.Meeting.{AllMet, sum_of_each, unmet_shared}
use Rattle.pv_picks.specs.Judge.States.{Resource, State, nothing_held}
use Rattle.pv_picks.specs.Machine.Tasks.{AtLeave, Task, Stand}
use Rattle.pv_picks.specs.Machine.Starts.{field_kind}
use Rattle.pv_picks.specs.Machine.Frames.{Frame, goes_on, only_now, at_lengths_of, sight_of, contract_scene}
use Rattle.pv_picks.specs.Judge.Rows.{exhale_each}
use Rattle.pv_picks.specs.Judge.Settings.{Next}
use Rattle.pv_picks.specs.Judge.Inhaling.{inhale_items}
use Rattle.pv_picks.specs.Judge.Judging.{finish, bind_at_site}
use Rattle.pv_picks.specs.Judge.Runs.{Judged, Maps}
use Rattle.account_formulas.specs.Runs.{Taken, truly, RestNeverFails, AreSettled}
use Rattle.account_formulas.specs.Giving.{Gave}
use Rattle.account_formulas.proofs.Alike.{agree_back, scene_typed}
use Rattle.account.specs.Running.{ran}
use Rattle.pv_picks.specs.Machine.Worlds.{MemberOf, World}
use Rattle.pv_picks.specs.Typing.Expressions.{Home, silent, type_in}
use Rattle.pv_picks.specs.Formulas.Values.{within, width}
use Rattle.core_trees.specs.Formulas.{BarrierFits, SharedFits}
use Rattle.account_formulas.specs.Sights.{SceneFits}
use Rattle.account_formulas.specs.Good.{IsGood, AreGoodItems}
use Rattle.account_formulas.specs.Owning.{Amounts, Owns}
use Rattle.account_formulas.specs.Agreeing.{ScenesAgree}
use Rattle.account_formulas.specs.Growing.{Place, HeapFits}
use Rattle.account_formulas.specs.Gaining.{PredicatesFit, Gained}
use Rattle.account_formulas.proofs.Laws.{gives_up, takes_in, owned_alike, as_items, as_formula, gathers, deals, numbers_are}
use Rattle.account_formulas.proofs.Meeting.{are_met}
use Rattle.account_formulas.proofs.Raising.{settled_on}
use Rattle.account_formulas.specs.Forms.{DealtItems}
use Rattle.account_formulas.specs.Statements.{NumbersStand}
use Rattle.account.proofs.Working.{frame_says}
use Rattle.pv_picks.specs.Typing.Frames.{HasType}
use Rattle.account.proofs.Goodness.{good_formula, good_items}
use Rattle.pv_picks.proofs.Sames.{names_same}
use Rattle.account.specs.Frames.{Run, amounts_of, home_in, standing_in, IsRunOf}
use Rattle.account.specs.Owners.{Opened}
use Rattle.account.specs.Blocks.{scene_at, HasArrived}
use Rattle.account.specs.Accounts.{Account}
use Rattle.account.specs.Scoped.{TasksSay}
use Rattle.account.proofs.Ended.{past_fits}
use Rattle.account_blocks.proofs.Sites.{StandsAt, site_scene, site_fits, place_at, at_a_leave, goes_behind}
use Rattle.account_blocks.proofs.Messages.{nothing_fits}
use Rattle.account_blocks.proofs.Members.{member, Opener, opener, Stood, stood, scenes_agree}
use Rattle.account.proofs.Together.{each_formula, items_of, shared_none}

module _ (p : Program) (w : World) (a : Account p w) (sound : HeapFits p w.heap) (framed : PredicatesFit p w.heap) (i : ℕ)
    (inside : i < w.count) (f : Frame) (stack : (w.threads i).frames ≡ f ∷ []) (b : ℕ) (spot : ℤ)
    (role : (w.threads i).role ≡ MemberOf b spot) (barrier : Barrier) (span : Span) (rest : List Task)
    (is : f.tasks ≡ Stand (AtLeave barrier span) ∷ rest) where
  abbrev pub k : Stood p w a i inside f stack b spot role
  k = stood p w a i inside f stack b spot role

  abbrev pub o : Opener p w a i inside f stack b spot role
  o = opener p w a i inside f stack b spot role

  abbrev pub opening : Opened
  opening = a.owners.openings b

  abbrev pub name : Name
  name = (w.blocks b).team.variable

  abbrev pub low : ℤ
  low = (w.blocks b).low

  abbrev pub high : ℤ
  high = (w.blocks b).high

  abbrev pub shared : Shared
  shared = barrier.shared

  abbrev pub home : Home
  home = home_in p f.class k.run.body

  abbrev pub head : List Parameter
  head = (name, Int) ∷ opening.scope

  pub leave : StandsAt p w.committed w.heap (BarrierFits (home_in p f.class k.run.body) k.run.body.head barrier.shared) f k.run
      (AtLeave barrier span) rest
  leave = at_a_leave p w.committed w.heap f k.run k.fits barrier span rest is

  speaks : SharedFits (home_in p f.class k.run.body) (a.owners.openings b).scope (w.blocks b).team.variable barrier.shared
  speaks = (subst (λ xs. BarrierFits (home_in p f.class k.run.body) xs barrier.shared) k.is.head leave.speaks).1

  pub arrived : HasArrived p w.committed w.heap (a.owners.openings b) (w.blocks b) spot barrier k.run (a.owners.left i)
  arrived = (member p w a i inside f stack b spot role).arrived f k.run [] barrier span rest stack k.has_runs is

  -- how this member goes on with its part
  pub record Leaves (R : Amounts) : Type 0 where
    pub run : Run
    pub fits : IsRunOf p w.committed w.heap (goes_on f rest) run
    pub says : TasksSay (standing_in p f.class run.body run.outer) run.inner run.scope run.given run.stack rest
    pub less : (q : Resource) → amounts_of run q ≤ amounts_of k.run q + R q
    pub body : run.body ≡ k.run.body

  good_after : IsGood home silent head shared.one.after
  good_after = good_formula home silent head shared.one.after speaks.2

  own : ScenesAgree silent head (scene_at opening (w.blocks b).team spot) (site_scene k.run.body.site k.run.state)
  own = agree_back silent head (site_scene k.run.body.site k.run.state) (scene_at opening (w.blocks b).team spot)
      (subst (λ xs. ScenesAgree silent xs (site_scene k.run.body.site k.run.state)
      (scene_at (a.owners.openings b) (w.blocks b).team spot)) k.is.head (scenes_agree p w a i inside f stack b spot role))

  pub takes : (R : Amounts) → ((q : Resource) → amounts_of k.run q + R q ≤ whole)
      → Owns p w.committed (only_now w.heap) (scene_at (a.owners.openings b) (w.blocks b).team spot) barrier.shared.one.after R
      → Leaves R
  takes R most owns = record {
    run = record k.run { state = gained.after; taken = gained.then_taken; trees = gained.trees; inner = false };
    fits = goes_behind p w.committed w.heap f k.run k.fits rest gained.after gained.then_taken gained.trees gained.fine
        gained.scene gained.kept gained.goes gained.has_trees
        (frame_says (standing_in p f.class k.run.body k.run.outer) false k.run.scope k.run.given k.run.stack rest leave.tasks)
        leave.outer gained.never;
    says = leave.tasks;
    less = λ q. let s = gained.sum q in omega (arith, s);
    body = refl;
  }
    where
      gained : Gained p w.committed w.heap k.fits.old.known
          (λ sight. Owns p w.committed sight (site_scene k.run.body.site k.run.state) barrier.shared.one.after) k.run.taken
          k.run.state k.run.trees R (λ maps. ran (truly maps) p k.run.body false rest f.values)
      gained = takes_in p w.committed w.heap sound framed (place_at p w.committed w.heap f k.run k.fits)
          (site_scene k.run.body.site k.run.state) (site_fits p w.committed w.heap f k.run k.fits) shared.one.after
          (subst (λ xs. IsGood (home_in p f.class k.run.body) silent xs barrier.shared.one.after) (sym k.is.head) good_after) R
          (owned_alike home silent w.committed (only_now w.heap) (record { now = w.heap; old = at_lengths_of w.heap k.run.past })
          refl (λ e. absurd (cc e)) head (scene_at opening (w.blocks b).team spot) (site_scene k.run.body.site k.run.state) own
          shared.one.after good_after R owns)
          k.run.taken k.run.state k.fits.old.settled k.fits.state.fits k.run.trees k.fits.state.trees
          (λ q. let m = most q in omega (arith, m)) (λ maps. ran (truly maps) p k.run.body false rest f.values) leave.never

  -- The members meet.

  typed : SceneFits (home_in p f.class k.run.body) silent (a.owners.openings b).scope w.heap (a.owners.openings b).scene
  typed = record {
    this = subst (λ c. HasType w.heap (Object c) (value.Reference (a.owners.openings b).scene.this)) (sym k.is.class)
        o.waits.typed.this;
    variables = o.waits.typed.variables;
    result = o.waits.typed.result;
  }

  theirs : ScenesAgree silent (a.owners.openings b).scope (a.owners.openings b).scene
      (site_scene k.run.body.site k.run.state)
  theirs = record {
    this = own.this;
    variables = λ n t e. outside n t e (nat_eq n.0 (w.blocks b).team.variable.0) refl (own.variables n t);
    result = λ t e. absurd (none-some t e);
  }
    where
      outside : (n : Name) (t : PvType) → type_in (a.owners.openings b).scope n ≡ Some t → (x : Bool)
          → nat_eq n.0 (w.blocks b).team.variable.0 ≡ x
          → ((if x then Some Int else type_in (a.owners.openings b).scope n) ≡ Some t
          → (if x then value.Number spot else (a.owners.openings b).scene.variables n.0) ≡ k.run.body.site.begun n.0)
          → (a.owners.openings b).scene.variables n.0 ≡ k.run.body.site.begun n.0
      outside n t e false h go = go e
      outside n t e true h go =
          absurd (none-some t (sym speaks.0 ∙ subst (λ z. type_in (a.owners.openings b).scope z ≡ Some t)
          (names_same n (w.blocks b).team.variable h) e))

  fits_here : SceneFits (home_in p f.class k.run.body) silent (a.owners.openings b).scope w.heap
      (site_scene k.run.body.site k.run.state)
  fits_here = scene_typed home silent opening.scope w.heap opening.scene (site_scene k.run.body.site k.run.state) theirs typed

  numbered : NumbersStand home silent opening.scope (only_now w.heap) opening.scene
  numbered = numbers_are home silent opening.scope w.heap opening.scene typed w.heap w.heap sound.now sound.now

  good_each_before : AreGoodItems home silent opening.scope name shared.each_before
  good_each_before = good_items home silent opening.scope name shared.each_before speaks.3

  good_each_after : AreGoodItems home silent opening.scope name shared.each_after
  good_each_after = good_items home silent opening.scope name shared.each_after speaks.4

  abbrev pub asked : Formula
  asked = each_formula name low high shared.each_before

  abbrev pub offered : Formula
  offered = each_formula name low high shared.each_after

  good_asked : IsGood home silent opening.scope asked
  good_asked = (refl, refl, speaks.0, good_each_before)

  good_offered : IsGood home silent opening.scope offered
  good_offered = (refl, refl, speaks.0, good_each_after)

  -- where the formula of all positions stands
  abbrev pub place_in : (s : State) (taken : Taken) → Place p w.heap
  place_in s taken = record {
    class = f.class;
    answer = k.run.body.answer;
    speech = silent;
    scope = opening.scope;
    past = at_lengths_of w.heap k.run.past;
    old = s.old;
    known = k.fits.old.known;
    before = past_fits (field_kind p) w.heap k.run.past k.fits.old.fits;
    agrees = k.fits.old.agrees;
    lengths = λ array n e. e;
  }

  module _ (shares : ℤ → Amounts)
      (owned : (z : ℤ) → within (w.blocks b).low (w.blocks b).high z ≡ true
      → Owns p w.committed (only_now w.heap) (scene_at (a.owners.openings b) (w.blocks b).team z) barrier.shared.one.before
      (shares z))
      (most : (q : Resource) → sum_of_each (λ z. shares z q) (w.blocks b).low (width (w.blocks b).low (w.blocks b).high) ≤ whole)
    where
      abbrev pub sum : Amounts
      sum q = sum_of_each (λ z. shares z q) low (width low high)

      gathered : Owns p w.committed (record { now = w.heap; old = at_lengths_of w.heap k.run.past })
          (site_scene k.run.body.site k.run.state) asked sum
      gathered = owned_alike home silent w.committed (only_now w.heap)
          (record { now = w.heap; old = at_lengths_of w.heap k.run.past }) refl (λ e. absurd (cc e)) opening.scope opening.scene
          (site_scene k.run.body.site k.run.state) theirs asked good_asked sum
          (Owns.each (value.Number low) (value.Number high) refl refl
          (gathers p w.committed (only_now w.heap) opening.scene name low high shared.each_before shares
          (λ z v. as_items home silent w.committed (only_now w.heap) opening.scope name speaks.0 opening.scene numbered z
          shared.one.before shared.each_before arrived.alike.before good_each_before (shares z) (owned z v))))

      abbrev then_give : Maps → Next Judged
      then_give maps t = exhale_each (truly maps) check.BarrierEnsures (bind_at_site (truly maps) k.run.body.site t)
          k.run.body.site.variable k.run.body.site.low k.run.body.site.high shared.each_after (finish (truly maps)) t

      -- the site is that of the block
      abbrev pub then_give_at : Name → ℤ → ℤ → Maps → Next Judged
      then_give_at n l h maps t = exhale_each (truly maps) check.BarrierEnsures (bind_at_site (truly maps) k.run.body.site t)
          n l h shared.each_after (finish (truly maps)) t

      abbrev pub meeting_at : Name → ℤ → ℤ → Type 0
      meeting_at n l h = RestNeverFails k.run.taken (λ maps. inhale_items (truly maps)
          (bind_at_site (truly maps) k.run.body.site k.run.state) n l h shared.each_before (then_give_at n l h maps)
          (nothing_held k.run.state))

      meeting : meeting_at (w.blocks b).team.variable (w.blocks b).low (w.blocks b).high
      meeting = subst (λ z. meeting_at z (w.blocks b).low (w.blocks b).high) k.is.variable
          (subst (λ z. meeting_at k.run.body.site.variable z (w.blocks b).high) k.is.low
          (subst (λ z. meeting_at k.run.body.site.variable k.run.body.site.low z) k.is.high arrived.meets))

      pub gained : Gained p w.committed w.heap k.fits.old.known
          (λ sight. Owns p w.committed sight (site_scene k.run.body.site k.run.state)
          (each_formula (w.blocks b).team.variable (w.blocks b).low (w.blocks b).high barrier.shared.each_before)) k.run.taken
          (nothing_held k.run.state) (λ q. 0)
          (λ q. sum_of_each (λ z. shares z q) (w.blocks b).low (width (w.blocks b).low (w.blocks b).high))
          (then_give_at (w.blocks b).team.variable (w.blocks b).low (w.blocks b).high)
      gained = takes_in p w.committed w.heap sound framed (place_in k.run.state k.run.taken)
          (site_scene k.run.body.site k.run.state) fits_here asked good_asked sum gathered k.run.taken (nothing_held k.run.state)
          k.fits.old.settled (nothing_fits w.committed w.heap k.run.taken k.run.state k.fits.state.fits) (λ q. 0) tt
          (λ q. let m = most q in omega (arith, m))
          (then_give_at (w.blocks b).team.variable (w.blocks b).low (w.blocks b).high) meeting

      same_scene : site_scene k.run.body.site gained.after ≡ site_scene k.run.body.site k.run.state
      same_scene = ap (λ z. record { this = z.this; variables = k.run.body.site.begun; result = z.result }) gained.scene

      settled_then : AreSettled gained.then_taken gained.after.old k.fits.old.known
      settled_then = subst (λ c. AreSettled gained.then_taken c k.fits.old.known) (sym gained.kept)
          (settled_on k.run.taken gained.then_taken gained.goes k.run.state.old k.fits.old.known k.fits.old.settled)

      pub gave : Gave p w.committed w.heap gained.then_taken
          (Owns p w.committed (record { now = w.heap; old = at_lengths_of w.heap k.run.past })
          (site_scene k.run.body.site gained.after)
          (each_formula (w.blocks b).team.variable (w.blocks b).low (w.blocks b).high barrier.shared.each_after)) gained.after
          gained.after.held gained.trees (λ maps. finish (truly maps))
      gave = gives_up p w.committed w.heap sound (place_in gained.after gained.then_taken)
          (site_scene k.run.body.site gained.after)
          (subst (λ z. SceneFits (home_in p f.class k.run.body) silent (a.owners.openings b).scope w.heap z) (sym same_scene)
          fits_here) offered good_offered gained.then_taken gained.after settled_then gained.fine gained.trees gained.has_trees
          check.BarrierEnsures None (λ maps. finish (truly maps)) gained.never

      given : Owns p w.committed (record { now = w.heap; old = at_lengths_of w.heap k.run.past })
          (site_scene k.run.body.site k.run.state)
          (each_formula (w.blocks b).team.variable (w.blocks b).low (w.blocks b).high barrier.shared.each_after) gave.part
      given = subst (λ z. Owns p w.committed (record { now = w.heap; old = at_lengths_of w.heap k.run.past }) z
          (each_formula (w.blocks b).team.variable (w.blocks b).low (w.blocks b).high barrier.shared.each_after) gave.part)
          same_scene gave.owns

      agreed : ScenesAgree silent (a.owners.openings b).scope (site_scene k.run.body.site k.run.state) (contract_scene f)
      agreed = record {
        this = k.fits.state.this;
        variables = λ n t e. sym (theirs.variables n t e) ∙ outside n t e (nat_eq n.0 (w.blocks b).team.variable.0) refl
            (λ e'. ap (λ v. v n.0) k.is.begun);
        result = λ t e. absurd (none-some t e);
      }
        where
          outside : (n : Name) (t : PvType) → type_in (a.owners.openings b).scope n ≡ Some t → (x : Bool)
              → nat_eq n.0 (w.blocks b).team.variable.0 ≡ x
              → (x ≡ x → f.begun n.0 ≡ (if x then value.Number spot else (a.owners.openings b).scene.variables n.0))
              → (a.owners.openings b).scene.variables n.0 ≡ f.begun n.0
          outside n t e false h go = sym (go refl)
          outside n t e true h go =
              absurd (none-some t (sym speaks.0 ∙ subst (λ z. type_in (a.owners.openings b).scope z ≡ Some t)
              (names_same n (w.blocks b).team.variable h) e))

      pub met : unmet_shared (sight_of w.heap f) (contract_scene f) (w.blocks b).team.variable (w.blocks b).low (w.blocks b).high
          barrier.shared.each_after ≡ AllMet
      met = shared_none (sight_of w.heap f) (contract_scene f) name low high shared.each_after
          (λ z v. are_met home silent p w.committed opening.scope (sight_of w.heap f) (contract_scene f) name speaks.0 low high
          shared.each_after good_each_after gave.part
          (items_of p w.committed (sight_of w.heap f) (contract_scene f) name low high shared.each_after gave.part
          (owned_alike home silent w.committed (record { now = w.heap; old = at_lengths_of w.heap k.run.past })
          (sight_of w.heap f) refl (λ e. absurd (cc e)) opening.scope (site_scene k.run.body.site k.run.state) (contract_scene f)
          agreed offered good_offered gave.part given)) z v)

      pub dealt : DealtItems p w.committed (only_now w.heap) (a.owners.openings b).scene (w.blocks b).team.variable
          (w.blocks b).low (w.blocks b).high barrier.shared.each_after gave.part
      dealt = deals p w.committed (only_now w.heap) opening.scene name low high shared.each_after gave.part
          (items_of p w.committed (only_now w.heap) opening.scene name low high shared.each_after gave.part
          (owned_alike home silent w.committed (record { now = w.heap; old = at_lengths_of w.heap k.run.past }) (only_now w.heap)
          refl (λ e. absurd (cc e)) opening.scope (site_scene k.run.body.site k.run.state) opening.scene
          (agree_back silent opening.scope opening.scene (site_scene k.run.body.site k.run.state) theirs) offered good_offered
          gave.part given))

      -- each position's part
      pub parts : (z : ℤ) → within (w.blocks b).low (w.blocks b).high z ≡ true
          → Owns p w.committed (only_now w.heap) (scene_at (a.owners.openings b) (w.blocks b).team z) barrier.shared.one.after
          (dealt.shares z)
      parts z v = as_formula home silent w.committed (only_now w.heap) opening.scope name speaks.0 opening.scene numbered z
          shared.one.after shared.each_after arrived.alike.after good_each_after (dealt.shares z) (dealt.owns z v)

      pub no_more : (q : Resource)
          → sum_of_each (λ z. dealt.shares z q) (w.blocks b).low (width (w.blocks b).low (w.blocks b).high)
          ≤ sum_of_each (λ z. shares z q) (w.blocks b).low (width (w.blocks b).low (w.blocks b).high)
      no_more q = let d = dealt.sum q in let g = gave.sum q in let n = gained.sum q in omega (arith, d, g, n)
