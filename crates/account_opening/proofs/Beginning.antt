-- A member of a block begins: from its part of the precondition it has a run of its body.
use Rattle.std.proofs.Common.{◌≡◌, ℕ, ◌≤◌, ℤ, Bool, true, false, None, List, [], ◌∷◌, refl, ap, sym, subst, ◌∙◌, arith}
use Rattle.std.proofs.lemmas.Option.{none-some}
use Rattle.pv_base.specs.declared.Name.{Name}
use Rattle.pv_ast.specs.declared.PvType.TheVariants.{Int}
use Rattle.pv_fraction.specs.Amounts.{whole}
use Rattle.pv_picks.specs.declared.check.Check.TheVariants as check
use Rattle.pv_picks.specs.Plain.Core.{Formula, Parameter, Program, Team, Block}
use Rattle.pv_picks.specs.Formulas.Values.{Variables, at_position, number_in, within}
use Rattle.pv_picks.specs.Formulas.Heaps.{Heap}
use Rattle.pv_picks.specs.Formulas.Meeting.{at}
use Rattle.pv_picks.specs.Judge.States.{Resource, State, scene_of}
use Rattle.pv_picks.specs.Machine.Tasks.{AtOpen, Run, Task, Stand}
use Rattle.pv_picks.specs.Machine.Starts.{field_kind}
use Rattle.pv_picks.specs.Machine.Frames.{Frame, top, second, only_now, at_lengths_of, body_scene}
use Rattle.pv_picks.specs.Machine.Worlds.{member_of}
use Rattle.pv_picks.specs.Typing.Expressions.{Home, silent}
use Rattle.core_trees.specs.Formulas.{in_class}
use Rattle.account_formulas.specs.Sights.{SceneFits}
use Rattle.account_formulas.specs.Runs.{AreSettled}
use Rattle.account_formulas.specs.Good.{IsGood}
use Rattle.account_formulas.specs.Owning.{Amounts, Owns}
use Rattle.account_formulas.specs.Agreeing.{ScenesAgree}
use Rattle.account_formulas.specs.Growing.{StateFits, Place, HeapFits}
use Rattle.account_formulas.specs.Gaining.{PredicatesFit, Gained}
use Rattle.account_formulas.proofs.Alike.{agree_at, scene_typed}
use Rattle.account_formulas.proofs.Exhaling.{position_fits}
use Rattle.account_formulas.proofs.Laws.{takes_in, owned_alike}
use Rattle.account_formulas.proofs.Raising.{settled_on}
use Rattle.account.specs.Running.{Body}
use Rattle.account.specs.Scoped.{TasksSay, runs, done}
use Rattle.account.specs.Frames as account
use Rattle.account.specs.Frames.{amounts_of, standing_in, IsRunOf}
use Rattle.account.specs.Blocks.{seed, FormsAreAlike}
use Rattle.account.proofs.Beginning.{any_block}
use Rattle.account.proofs.Goodness.{good_formula}
use Rattle.account.proofs.Ended.{past_fits}
use Rattle.account.proofs.LocalWork.{settled_goes}
use Rattle.account_opening.proofs.Opening as opening

-- the body of a member, with the variables with which it began
abbrev pub member_body : Team → ℤ → ℤ → List Parameter → Variables → Body
member_body team low high scope variables = record {
  head = (team.variable, Int) ∷ scope;
  answer = None;
  speech = silent;
  result = None;
  site = record { variable = team.variable; low = low; high = high; begun = variables };
  check = check.BlockEnsures;
  after = team.shared.one.after;
}

-- the frame of a member before its local work
abbrev pub first_frame : Frame → Team → Block → ℤ → Frame
first_frame f team body z = record f {
  begun = at_position f.variables team.variable z;
  variables = at_position f.variables team.variable z;
  values = [];
  tasks = Run body ∷ [];
}

-- the frame of a member has a run, with no more than its part
pub record MemberBegins (p : Program) (flags : ℕ → Bool) (heap : Heap) (f : Frame) (team : Team) (body : Block) (low high : ℤ)
    (scope : List Parameter) (z : ℤ) (R : Amounts) : Type 0 where
  pub run : account.Run
  pub fits : IsRunOf p flags heap (member_of f team body z) run
  pub less : (q : Resource) → amounts_of run q ≤ R q
  pub variables : Variables
  pub body_is : run.body ≡ member_body team low high scope variables
  pub says : TasksSay (standing_in p (member_of f team body z).class run.body run.outer) run.inner run.scope run.given run.stack
      (member_of f team body z).tasks

module _ (p : Program) (flags : ℕ → Bool) (heap : Heap) (sound : HeapFits p heap) (framed : PredicatesFit p heap) (f : Frame)
    (r : account.Run) (fits : IsRunOf p flags heap f r) (team : Team) (body : Block) (rest : List Task)
    (is : f.tasks ≡ Stand (AtOpen team body) ∷ rest) (alike : FormsAreAlike team team.shared) (z : ℤ)
    (w : within (number_in (second f.values)) (number_in (top f.values)) z ≡ true) where
  abbrev low : ℤ
  low = number_in (second f.values)

  abbrev high : ℤ
  high = number_in (top f.values)

  abbrev name : Name
  name = team.variable

  abbrev home : Home
  home = in_class p f.class

  abbrev scope : List Parameter
  scope = (name, Int) ∷ r.scope

  abbrev left : State
  left = opening.left p flags heap sound f r fits team body rest is alike

  abbrev before : Formula
  before = team.shared.one.before

  good_before : IsGood (in_class p f.class) silent ((team.variable, Int) ∷ r.scope) team.shared.one.before
  good_before = good_formula home silent scope before (opening.contract p flags heap sound f r fits team body rest is alike).1

  abbrev place : Place p heap
  place = record {
    class = f.class;
    answer = None;
    speech = silent;
    scope = scope;
    past = at_lengths_of heap r.past;
    old = r.state.old;
    known = fits.old.known;
    before = past_fits (field_kind p) heap r.past fits.old.fits;
    agrees = fits.old.agrees;
    lengths = λ array n e. e;
  }

  -- machine and judge begin in the same scene
  same : ScenesAgree silent r.scope (body_scene f) (scene_of (opening.left p flags heap sound f r fits team body rest is alike))
  same = record {
    this = sym fits.state.this;
    variables = λ n t e. sym (fits.state.variables n t e);
    result = λ t e. absurd (none-some t e);
  }

  same_at : ScenesAgree silent ((team.variable, Int) ∷ r.scope) (at (body_scene f) team.variable z)
      (at (scene_of (opening.left p flags heap sound f r fits team body rest is alike)) team.variable z)
  same_at = agree_at silent r.scope (body_scene f) (scene_of left) name z same

  here : SceneFits (in_class p f.class) silent ((team.variable, Int) ∷ r.scope) heap (at (body_scene f) team.variable z)
  here = position_fits home silent r.scope heap (body_scene f) name z
      (opening.here p flags heap sound f r fits team body rest is alike)

  pub begins : (R : Amounts) → ((q : Resource) → R q ≤ whole)
      → Owns p flags (only_now heap) (at (body_scene f) team.variable z) team.shared.one.before R
      → MemberBegins p flags heap f team body (number_in (second f.values)) (number_in (top f.values)) r.scope z R
  begins R most owns = made (takes_in p flags heap sound framed place (at (scene_of left) name z)
      (scene_typed home silent scope heap (at (body_scene f) name z) (at (scene_of left) name z) same_at here) before
      good_before R (owned_alike home silent flags (only_now heap) (record { now = heap; old = at_lengths_of heap r.past }) refl
      (λ e. absurd (cc e)) scope (at (body_scene f) name z) (at (scene_of left) name z) same_at before good_before R owns)
      r.taken (seed left team z) fits.old.settled state (λ q. 0) tt (λ q. let k = most q in omega (arith, k))
      (opening.member_next p flags heap sound f r fits team body rest is alike)
      (opening.begins_never p flags heap sound f r fits team body rest is alike z w))
    where
      state : StateFits flags heap r.taken (seed (opening.left p flags heap sound f r fits team body rest is alike) team z)
      state = let k = opening.state_left p flags heap sound f r fits team body rest is alike in record {
        steps = k.steps;
        agree = k.agree;
        holds = λ q h e. absurd (none-some h e);
        knows = k.knows;
        met = k.met;
      }

      made : Gained p flags heap fits.old.known (λ sight. Owns p flags sight
          (at (scene_of (opening.left p flags heap sound f r fits team body rest is alike)) team.variable z)
          team.shared.one.before) r.taken (seed (opening.left p flags heap sound f r fits team body rest is alike) team z)
          (λ q. 0) R (opening.member_next p flags heap sound f r fits team body rest is alike)
          → MemberBegins p flags heap f team body (number_in (second f.values)) (number_in (top f.values)) r.scope z R
      made g =
          let inner : Body = member_body team low high r.scope g.after.variables in
          let run : account.Run = record {
            body = inner;
            past = r.past;
            state = g.after;
            taken = g.then_taken;
            trees = g.trees;
            outer = [];
            inner = false;
            scope = scope;
            given = false;
            stack = [];
          } in
          let says = opening.says p flags heap sound f r fits team body rest is alike in
          let tasks : TasksSay (standing_in p f.class inner []) false scope false [] (Run body ∷ []) =
          runs scope false (says.members, any_block body, tt) (λ n t e. e) (λ e. absurd (cc e)) (done tt) in
          let go = settled_goes p flags heap sound framed (first_frame f team body z) run
          (record {
            state = record {
              fits = g.fine;
              this = ap (λ s. s.this) g.scene ∙ fits.state.this;
              variables = λ n t e. ap (λ s. s.variables n.0) g.scene ∙ sym (same_at.variables n t e);
              result = ap (λ s. s.result) g.scene ∙ fits.state.result;
              trees = g.has_trees;
            };
            old = record {
              known = fits.old.known;
              settled = subst (λ c. AreSettled g.then_taken c fits.old.known) (sym g.kept)
                  (settled_on r.taken g.then_taken g.goes r.state.old fits.old.known fits.old.settled);
              agrees = fits.old.agrees;
              fits = fits.old.fits;
              is = fits.old.is;
              needed = λ none speaks. absurd (cc speaks);
            };
            body = record {
              same = λ n t e. ap (λ s. s.variables n.0) g.scene ∙ sym (same_at.variables n t e);
              typed = here.variables;
              after = (opening.contract p flags heap sound f r fits team body rest is alike).2;
              quiet = refl;
              answers = λ type e. absurd (none-some type e);
            };
            typed = record {
              this = fits.typed.this;
              variables = here.variables;
              result = λ given. absurd (cc given);
              values = tt;
            };
            tasks = tasks;
            outer = tt;
            never = g.never;
          }) tasks (λ q. let s = g.sum q in let k = most q in omega (arith, s, k)) in
          record {
            run = go.run;
            fits = go.fits;
            less = λ q. let d = go.less q in let s = g.sum q in omega (arith, d, s);
            variables = g.after.variables;
            body_is = go.body;
            says = go.says;
          }
