-- A member that ends in an accounted world: what it leaves suffices for the postcondition of its block.
use Rattle.std.proofs.Common.{◌≡◌, ℕ, ◌≤◌, ◌<◌, ℤ, true, Some, None, List, [], ◌∷◌, refl, ap, sym, subst, ◌∙◌, arith}
use Rattle.std.proofs.lemmas.Option.{none-some}
use Rattle.pv_ast.specs.declared.PvType.TheVariants.{Int}
use Rattle.pv_picks.specs.declared.check.Check.TheVariants as check
use Rattle.pv_picks.specs.Plain.Core.{Formula, Parameter, Program, Team}
use Rattle.pv_picks.specs.Formulas.Meeting.{AllMet, at, unmet}
use Rattle.pv_picks.specs.Judge.States.{Resource, scene_of}
use Rattle.pv_picks.specs.Machine.Starts.{field_kind}
use Rattle.pv_picks.specs.Machine.Frames.{Frame, only_now, at_lengths_of, sight_of, contract_scene}
use Rattle.pv_picks.specs.Judge.Judging.{finish, exhale_at_site}
use Rattle.account_formulas.specs.Runs.{truly, RestNeverFails}
use Rattle.account_formulas.specs.Giving.{Gave}
use Rattle.account_formulas.proofs.Alike.{agree_at, agree_back, scene_typed}
use Rattle.account_formulas.proofs.Exhaling.{position_fits}
use Rattle.account.specs.Running.{ran}
use Rattle.pv_picks.specs.Machine.Worlds.{MemberOf, Mode, World, with_frames}
use Rattle.pv_picks.specs.Machine.Steps.{Result, needs_met, act_end, act, act_tasks}
use Rattle.pv_picks.specs.Typing.Expressions.{Home, silent, type_in}
use Rattle.pv_picks.specs.Formulas.Values.{within}
use Rattle.core_trees.specs.Formulas.{in_class}
use Rattle.account_formulas.specs.Sights.{SceneFits}
use Rattle.account_formulas.specs.Good.{IsGood}
use Rattle.account_formulas.specs.Owning.{Owns, KeepsOwning}
use Rattle.account_formulas.specs.Agreeing.{ScenesAgree}
use Rattle.account_formulas.specs.Growing.{Place, HeapFits}
use Rattle.account_formulas.specs.Gaining.{PredicatesFit}
use Rattle.account_formulas.proofs.Laws.{gives_up, owned_stays, owned_is_met, owned_alike, met_alike}
use Rattle.account.proofs.Goodness.{good_formula}
use Rattle.account.specs.Frames.{Run, amounts_of, IsRunOf}
use Rattle.account.specs.Owners.{Opened, without_locks}
use Rattle.account.specs.Blocks.{scene_at, seed}
use Rattle.account.specs.Accounts.{Account, Kept}
use Rattle.account.proofs.Stepping.{by_run}
use Rattle.account_blocks.proofs.Ended.{ended}
use Rattle.account.proofs.Ended.{past_fits}
use Rattle.account_blocks.proofs.Sites.{site_scene, same_scenes}
use Rattle.account_blocks.proofs.Members.{member, Opener, opener, Stood, stood, scenes_agree, part_of_all}
use Rattle.account.proofs.Locks.{locks_less, goes_on_locked}
use Rattle.account.proofs.Numbers.{number_within}

module _ (p : Program) (w : World) (a : Account p w) (sound : HeapFits p w.heap) (framed : PredicatesFit p w.heap) (i : ℕ)
    (inside : i < w.count) (f : Frame) (stack : (w.threads i).frames ≡ f ∷ []) (b : ℕ) (spot : ℤ)
    (role : (w.threads i).role ≡ MemberOf b spot) (is : f.tasks ≡ []) where
  abbrev k : Stood p w a i inside f stack b spot role
  k = stood p w a i inside f stack b spot role

  abbrev o : Opener p w a i inside f stack b spot role
  o = opener p w a i inside f stack b spot role

  abbrev opening : Opened
  opening = a.owners.openings b

  abbrev team : Team
  team = (w.blocks b).team

  abbrev home : Home
  home = in_class p opening.class

  abbrev scope : List Parameter
  scope = (team.variable, Int) ∷ opening.scope

  abbrev post : Formula
  post = team.shared.one.after

  good : IsGood (in_class p (a.owners.openings b).class) silent
      (((w.blocks b).team.variable, Int) ∷ (a.owners.openings b).scope) (w.blocks b).team.shared.one.after
  good = good_formula (in_class p (a.owners.openings b).class) silent
      (((w.blocks b).team.variable, Int) ∷ (a.owners.openings b).scope) (w.blocks b).team.shared.one.after o.waits.contract.2

  -- what stands in the old state of a run is known at the place of the contract
  abbrev place_of : (g : Frame) (r : Run) → IsRunOf p w.committed w.heap g r → Place p w.heap
  place_of g r fits = record {
    class = opening.class;
    answer = None;
    speech = silent;
    scope = scope;
    past = at_lengths_of w.heap r.past;
    old = r.state.old;
    known = fits.old.known;
    before = past_fits (field_kind p) w.heap r.past fits.old.fits;
    agrees = fits.old.agrees;
    lengths = λ array n e. e;
  }

  -- the scene of the member, of its opener at the member's position, and of what the opener's run knows there
  own : ScenesAgree silent scope (site_scene k.run.body.site k.run.state) (scene_at opening team spot)
  own = subst (λ xs. ScenesAgree silent xs (site_scene k.run.body.site k.run.state)
      (scene_at (a.owners.openings b) (w.blocks b).team spot)) k.is.head (scenes_agree p w a i inside f stack b spot role)

  theirs : ScenesAgree silent opening.scope opening.scene (scene_of o.run.state)
  theirs = record {
    this = ap (λ z. z.this) o.waits.scene ∙ sym o.fits.state.this;
    variables = λ n t e. ap (λ z. z.variables n.0) o.waits.scene
        ∙ sym (o.fits.state.variables n t (subst (λ xs. type_in xs n ≡ Some t) o.waits.scope e));
    result = λ t e. absurd (none-some t e);
  }

  there : ScenesAgree silent scope (scene_at opening team spot) (at (scene_of o.run.state) team.variable spot)
  there = agree_at silent opening.scope opening.scene (scene_of o.run.state) team.variable spot theirs

  typed : SceneFits home silent scope w.heap (scene_at opening team spot)
  typed = position_fits home silent opening.scope w.heap opening.scene team.variable spot o.waits.typed

  gave : Gave p w.committed w.heap k.run.taken (Owns p w.committed
      (record { now = w.heap; old = at_lengths_of w.heap k.run.past })
      (site_scene k.run.body.site k.run.state) (w.blocks b).team.shared.one.after) k.run.state k.run.state.held k.run.trees
      (λ maps. finish (truly maps))
  gave = gives_up p w.committed w.heap sound (place_of f k.run k.fits) (site_scene k.run.body.site k.run.state)
      (scene_typed home silent scope w.heap (scene_at opening team spot) (site_scene k.run.body.site k.run.state)
      (agree_back silent scope (site_scene k.run.body.site k.run.state) (scene_at opening team spot) own) typed) post good
      k.run.taken k.run.state k.fits.old.settled k.fits.state.fits k.run.trees k.fits.state.trees k.run.body.check None
      (λ maps. finish (truly maps))
      (subst (λ z. RestNeverFails k.run.taken (λ maps. exhale_at_site (truly maps) k.run.body.site k.run.body.check z
      (finish (truly maps)) k.run.state)) k.is.after
      (subst (λ ts. RestNeverFails k.run.taken (λ maps. ran (truly maps) p k.run.body k.run.inner ts f.values k.run.state)) is
      k.fits.never))

  owned : Owns p w.committed (record { now = w.heap; old = at_lengths_of w.heap k.run.past }) (scene_at opening team spot) post
      gave.part
  owned = owned_alike home silent w.committed (record { now = w.heap; old = at_lengths_of w.heap k.run.past })
      (record { now = w.heap; old = at_lengths_of w.heap k.run.past }) refl (λ e. refl) scope
      (site_scene k.run.body.site k.run.state) (scene_at opening team spot) own post good gave.part gave.owns

  met : unmet (sight_of w.heap f) (contract_scene f) (w.blocks b).team.shared.one.after ≡ AllMet
  met = met_alike home silent refl w.heap _ _ scope (contract_scene f) post good
      ∙ owned_is_met home silent p w.committed scope _ (contract_scene f) post good gave.part
      (owned_alike home silent w.committed (record { now = w.heap; old = at_lengths_of w.heap k.run.past })
      (record { now = w.heap; old = at_lengths_of w.heap k.run.past }) refl (λ e. refl) scope
      (site_scene k.run.body.site k.run.state) (contract_scene f)
      (subst (λ xs. ScenesAgree silent xs (site_scene k.run.body.site k.run.state) (contract_scene f)) k.is.head
      (same_scenes p w.committed w.heap f k.run k.fits)) post good gave.part gave.owns)

  less : (q : Resource) → gave.part q ≤ amounts_of k.run q
  less q = let s = gave.sum q in omega (arith, s)

  here_within : within (w.blocks b).low (w.blocks b).high spot ≡ true
  here_within =
      let m = member p w a i inside f stack b spot role in
      subst (λ z. within (w.blocks b).low (w.blocks b).high z ≡ true) (sym m.place)
      (number_within (w.blocks b).low (w.blocks b).high m.number m.less)

  -- what it leaves goes on to suffice for the postcondition, since its opener can take that from nothing
  leaves : KeepsOwning p w.committed w.heap (scene_at (a.owners.openings b) (w.blocks b).team spot)
      (w.blocks b).team.shared.one.after gave.part
  leaves later l = owned_alike home silent w.committed (record { now = later; old = at_lengths_of w.heap o.run.past })
      (only_now later) refl (λ e. absurd (cc e)) scope (at (scene_of o.run.state) team.variable spot)
      (scene_at opening team spot) (agree_back silent scope _ _ there) post good gave.part
      (owned_stays p w.committed w.heap sound framed (place_of o.frame o.run o.fits)
      (at (scene_of o.run.state) team.variable spot)
      (scene_typed home silent scope w.heap (scene_at opening team spot) (at (scene_of o.run.state) team.variable spot) there
      typed) post good gave.part
      (owned_alike home silent w.committed (record { now = w.heap; old = at_lengths_of w.heap k.run.past })
      (record { now = w.heap; old = at_lengths_of w.heap o.run.past }) refl (λ e. absurd (cc e)) scope
      (scene_at opening team spot) (at (scene_of o.run.state) team.variable spot) there post good gave.part owned)
      (λ q. let s = less q in let n = part_of_all p w a i inside f stack b spot role q in omega (arith, s, n))
      o.run.taken (seed o.run.state team spot) o.fits.old.settled
      (let x = o.fits.state.fits in record {
        steps = x.steps;
        agree = x.agree;
        holds = λ q h e. absurd (none-some h e);
        knows = x.knows;
        met = x.met;
      })
      (λ q. refl) refl (o.waits.closes.stays spot here_within)
      (record { now = later; old = at_lengths_of w.heap o.run.past }) l o.fits.old.agrees l.lengths (λ array n e. e))

  pub end_keeps : (mode : Mode) → Kept p (act p w mode i)
  end_keeps mode = by_run p w a i inside f [] stack mode (λ r rs e fits.
      (subst (λ ts. Kept p (act_tasks p w i f [] mode ts)) (sym is)
      (subst (λ z. Kept p (act_end p w i f [] z [])) (sym role)
      (subst (λ x. Kept p (needs_met x check.BlockEnsures (Result.Went (with_frames w i [])))) (sym met)
      (ended p w a i inside f stack b spot role k.run k.has_runs is (without_locks gave.part)
      (λ q. let n = locks_less gave.part q in let s = less q in omega (arith, n, s)) (λ class x. refl)
      (goes_on_locked p w.committed w.heap (scene_at (a.owners.openings b) (w.blocks b).team spot)
      (w.blocks b).team.shared.one.after gave.part leaves))))))
