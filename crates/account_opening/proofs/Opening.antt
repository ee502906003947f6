-- A frame that stands at the opening of a block: what the precondition of all positions asks for is given up and dealt to them,
-- each member begins with its part, and the frame can go on with what they leave.
use Rattle.std.proofs.Common.{◌≡◌, ℕ, ◌+◌, ◌≤◌, ℤ, Bool, true, false, None, List, [], ◌∷◌, refl, sym, subst, arith}
use Rattle.std.specs.Prelude.{drop}
use Rattle.std.proofs.lemmas.Option.{none-some}
use Rattle.pv_base.specs.declared.Name.{Name}
use Rattle.pv_ast.specs.declared.PvType.{PvType}
use Rattle.pv_ast.specs.declared.PvType.TheVariants.{Int}
use Rattle.pv_picks.specs.declared.check.Check.TheVariants as check
use Rattle.pv_picks.specs.Plain.Core.{Formula, Parameter, Program, Team, Block}
use Rattle.pv_picks.specs.Formulas.Values.{Variables, number_in, within}
use Rattle.pv_picks.specs.Formulas.Heaps.{Heap}
use Rattle.pv_picks.specs.Formulas.Meeting.{AllMet, at, unmet_shared}
use Rattle.pv_picks.specs.Judge.States.{Resource, State, bind_of, nothing_held, scene_of}
use Rattle.pv_picks.specs.Judge.Settings.{Next}
use Rattle.pv_picks.specs.Judge.Inhaling.{inhale_items}
use Rattle.pv_picks.specs.Judge.Rows.{Site}
use Rattle.pv_picks.specs.Judge.Judging.{finish, inhale_own, at_body_end, turn_of, choose_turn, at_some, judge_block}
use Rattle.pv_picks.specs.Judge.Runs.{Judged, Maps}
use Rattle.pv_picks.specs.Machine.Tasks.{AtOpen, AtClose, Task, Stand}
use Rattle.pv_picks.specs.Machine.Starts.{field_kind}
use Rattle.pv_picks.specs.Machine.Frames.{Frame, top, second, pops, only_now, at_lengths_of, sight_of, body_scene}
use Rattle.pv_picks.specs.Typing.Expressions.{Home, silent}
use Rattle.pv_picks.specs.Typing.Blocks.{inside}
use Rattle.pv_picks.specs.Typing.Tasks.{at_open}
use Rattle.pv_picks.specs.Typing.Frames as typed
use Rattle.core_trees.specs.Formulas.{SharedFits, BlockSays, OnceEach, in_class}
use Rattle.account_formulas.specs.Sights.{SceneFits}
use Rattle.account_formulas.specs.Runs.{truly, RestNeverFails}
use Rattle.account_formulas.specs.Good.{IsGood, AreGoodItems}
use Rattle.account_formulas.specs.Owning.{Owns}
use Rattle.account_formulas.specs.Agreeing.{ScenesAgree}
use Rattle.account_formulas.specs.Growing.{StateFits, Place, HeapFits}
use Rattle.account_formulas.specs.Giving.{Gave, with_left}
use Rattle.account_formulas.specs.Forms.{DealtItems}
use Rattle.account_formulas.specs.Statements.{NumbersStand}
use Rattle.account_formulas.proofs.Alike.{agree_back, scene_typed}
use Rattle.account_formulas.proofs.Laws.{gives_up, left_fits, owned_alike, as_formula, deals, numbers_are}
use Rattle.account_formulas.proofs.Meeting.{are_met}
use Rattle.account.specs.Running.{ran}
use Rattle.account.specs.Scoped.{Standing, TasksSay, FrameSays, stands}
use Rattle.account.specs.Frames as account
use Rattle.account.specs.Frames.{amounts_of, home_in, standing_in, opened, AllTakeTurns, IsRunOf}
use Rattle.account.specs.Owners.{Opened}
use Rattle.account.specs.Blocks.{seed, FormsAreAlike, CanClose}
use Rattle.account.proofs.Goodness.{good_items}
use Rattle.account.proofs.Homes.{formula_in, items_in}
use Rattle.account.proofs.Ended.{past_fits}
use Rattle.account.proofs.Choosing.{never_turn}
use Rattle.account.proofs.Together.{each_formula, items_of, shared_none}
use Rattle.account_opening.proofs.Picking.{never_within}

-- at an opening both bounds are on top, and the block's contract and its body are well typed
pub record SaysOpening (c : Standing) (xs : List Parameter) (given : Bool) (stack : List PvType) (team : Team) (body : Block)
    (rest : List Task) : Type 0 where
  pub under : List PvType
  pub bounds : stack ≡ Int ∷ Int ∷ under
  pub contract : SharedFits c.home xs team.variable team.shared
  pub members : BlockSays (inside c.home) silent ((team.variable, Int) ∷ xs) ((team.variable, Int) ∷ xs) body
  pub once : OnceEach team.counted body
  pub says : TasksSay c false xs given under rest

says_opening : (c : Standing) (inner : Bool) (xs : List Parameter) (given : Bool) (stack : List PvType) (team : Team)
    (body : Block) (rest : List Task) → TasksSay c inner xs given stack (Stand (AtOpen team body) ∷ rest)
    → SaysOpening c xs given stack team body rest
says_opening c inner xs given stack team body rest (stands under (at_open fits) speaks says) =
    record { under = under; bounds = refl; contract = speaks.0; members = speaks.1; once = speaks.2; says = says }

module _ (p : Program) (flags : ℕ → Bool) (heap : Heap) (sound : HeapFits p heap) (f : Frame) (r : account.Run)
    (fits : IsRunOf p flags heap f r) (team : Team) (body : Block) (rest : List Task)
    (is : f.tasks ≡ Stand (AtOpen team body) ∷ rest) (alike : FormsAreAlike team team.shared) where
  abbrev pub low : ℤ
  low = number_in (second f.values)

  abbrev pub high : ℤ
  high = number_in (top f.values)

  abbrev pub name : Name
  name = team.variable

  abbrev pub home : Home
  home = in_class p f.class

  -- what the block is opened with
  abbrev pub opening : Opened
  opening = record { class = f.class; scope = r.scope; scene = body_scene f }

  pub says : SaysOpening (standing_in p f.class r.body r.outer) r.scope r.given r.stack team body rest
  says = says_opening (standing_in p f.class r.body r.outer) r.inner r.scope r.given r.stack team body rest
      (subst (FrameSays (standing_in p f.class r.body r.outer) r.inner r.scope r.given r.stack) is fits.tasks)

  pub contract : SharedFits (in_class p f.class) r.scope team.variable team.shared
  contract =
      let k = says.contract in (
        k.0,
        formula_in (home_in p f.class r.body) silent ((name, Int) ∷ r.scope) team.shared.one.before k.1,
        formula_in (home_in p f.class r.body) silent ((name, Int) ∷ r.scope) team.shared.one.after k.2,
        items_in (home_in p f.class r.body) silent r.scope name team.shared.each_before k.3,
        items_in (home_in p f.class r.body) silent r.scope name team.shared.each_after k.4,
      )

  -- where the contract stands
  abbrev place : Place p heap
  place = record {
    class = f.class;
    answer = None;
    speech = silent;
    scope = r.scope;
    past = at_lengths_of heap r.past;
    old = r.state.old;
    known = fits.old.known;
    before = past_fits (field_kind p) heap r.past fits.old.fits;
    agrees = fits.old.agrees;
    lengths = λ array n e. e;
  }

  pub here : SceneFits (in_class p f.class) silent r.scope heap (body_scene f)
  here = record {
    this = fits.typed.this;
    variables = fits.typed.variables;
    result = λ t e. absurd (none-some t e);
  }

  -- machine and judge read it alike
  same : ScenesAgree silent r.scope (body_scene f) (scene_of r.state)
  same = record {
    this = sym fits.state.this;
    variables = λ n t e. sym (fits.state.variables n t e);
    result = λ t e. absurd (none-some t e);
  }

  numbered : NumbersStand (in_class p f.class) silent r.scope (only_now heap) (body_scene f)
  numbered = numbers_are home silent r.scope heap (body_scene f) here heap heap sound.now sound.now

  abbrev asked : Formula
  asked = each_formula name low high team.shared.each_before

  good_each : AreGoodItems (in_class p f.class) silent r.scope team.variable team.shared.each_before
  good_each = good_items home silent r.scope name team.shared.each_before contract.3

  good_asked : IsGood (in_class p f.class) silent r.scope
      (each_formula team.variable (number_in (second f.values)) (number_in (top f.values)) team.shared.each_before)
  good_asked = (refl, refl, contract.0, good_each)

  -- What comes after the precondition was given up: a member at some position, its contract there, or what comes after the block.

  abbrev pub site_of : Variables → Site
  site_of variables = record { variable = name; low = low; high = high; begun = variables }

  abbrev pub member_next : Maps → Next Judged
  member_next maps t = judge_block (truly maps) p (site_of t.variables) body
      (at_body_end (truly maps) (site_of t.variables) check.BlockEnsures team.shared.one.after) t

  abbrev behind : Maps → Next Judged
  behind maps = ran (truly maps) p r.body false rest (drop 2 f.values)

  abbrev turn_in : Maps → Next Judged
  turn_in maps s =
      at_some (truly maps) name low high (inhale_own (truly maps) team.shared.one.before (member_next maps)) (nothing_held s)

  abbrev turn_frame : Maps → Next Judged
  turn_frame maps s =
      at_some (truly maps) name low high (inhale_own (truly maps) team.shared.one.after (finish (truly maps))) (nothing_held s)

  abbrev turn_past : Maps → Next Judged
  turn_past maps s = inhale_items (truly maps) (bind_of s) name low high team.shared.each_after (behind maps) s

  abbrev turns : State → Maps → ℕ → Judged
  turns s maps = turn_of (truly maps) (turn_in maps) (turn_frame maps) (turn_past maps) s

  pub gave : Gave p flags heap r.taken (Owns p flags (record { now = heap; old = at_lengths_of heap r.past }) (scene_of r.state)
      (each_formula team.variable (number_in (second f.values)) (number_in (top f.values)) team.shared.each_before))
      r.state r.state.held r.trees (λ maps. choose_turn (truly maps) (turn_in maps) (turn_frame maps) (turn_past maps))
  gave = gives_up p flags heap sound place (scene_of r.state)
      (scene_typed home silent r.scope heap (body_scene f) (scene_of r.state) same here) asked good_asked r.taken r.state
      fits.old.settled fits.state.fits r.trees fits.state.trees check.BlockRequires None
      (λ maps. choose_turn (truly maps) (turn_in maps) (turn_frame maps) (turn_past maps))
      (subst (λ ts. RestNeverFails r.taken (λ maps. ran (truly maps) p r.body r.inner ts f.values r.state)) is fits.never)

  abbrev pub left : State
  left = with_left r.state gave.held gave.instances gave.lengths

  pub state_left : StateFits flags heap r.taken (with_left r.state gave.held gave.instances gave.lengths)
  state_left = left_fits flags heap r.taken r.state gave.held gave.instances gave.lengths fits.state.fits gave.leaves gave.agree

  -- the precondition is met at all positions
  pub met : unmet_shared (sight_of heap f) (body_scene f) team.variable (number_in (second f.values)) (number_in (top f.values))
      team.shared.each_before ≡ AllMet
  met = shared_none (sight_of heap f) (body_scene f) name low high team.shared.each_before
      (λ z v. are_met home silent p flags r.scope (sight_of heap f) (body_scene f) name contract.0 low high
      team.shared.each_before good_each gave.part
      (items_of p flags (sight_of heap f) (body_scene f) name low high team.shared.each_before gave.part
      (owned_alike home silent flags (record { now = heap; old = at_lengths_of heap r.past }) (sight_of heap f) refl
      (λ e. absurd (cc e)) r.scope (scene_of r.state) (body_scene f)
      (agree_back silent r.scope (body_scene f) (scene_of r.state) same) asked good_asked gave.part gave.owns)) z v)

  pub dealt : DealtItems p flags (only_now heap) (body_scene f) team.variable (number_in (second f.values))
      (number_in (top f.values)) team.shared.each_before gave.part
  dealt = deals p flags (only_now heap) (body_scene f) name low high team.shared.each_before gave.part
      (items_of p flags (only_now heap) (body_scene f) name low high team.shared.each_before gave.part
      (owned_alike home silent flags (record { now = heap; old = at_lengths_of heap r.past }) (only_now heap) refl
      (λ e. absurd (cc e)) r.scope (scene_of r.state) (body_scene f)
      (agree_back silent r.scope (body_scene f) (scene_of r.state) same) asked good_asked gave.part gave.owns))

  -- each position's part
  pub part_at : (z : ℤ) → within (number_in (second f.values)) (number_in (top f.values)) z ≡ true
      → Owns p flags (only_now heap) (at (body_scene f) team.variable z) team.shared.one.before (dealt.shares z)
  part_at z w = as_formula home silent flags (only_now heap) r.scope name contract.0 (body_scene f) numbered z
      team.shared.one.before team.shared.each_before alike.before good_each (dealt.shares z) (dealt.owns z w)

  -- The frame waits for the members.

  abbrev pub run : account.Run
  run = record r { state = left; trees = gave.trees; inner = false; stack = says.under }

  pub waits_fit : (n : ℕ) → IsRunOf p flags heap (pops 2 f (Stand (AtClose n) ∷ rest)) run
  waits_fit n = record {
    state = record {
      fits = state_left;
      this = fits.state.this;
      variables = fits.state.variables;
      result = fits.state.result;
      trees = gave.has_trees;
    };
    old = fits.old;
    body = fits.body;
    typed = record {
      this = fits.typed.this;
      variables = fits.typed.variables;
      result = fits.typed.result;
      values = under_two f.values (subst (λ stack. typed.ValuesFit heap stack f.values) says.bounds fits.typed.values);
    };
    tasks = says.says;
    outer =
        subst (λ ts. AllTakeTurns p flags heap f.class r.body r.past (body_scene f) (opened r.inner ts) r.outer) is fits.outer;
    never = record { never = λ picks check span bad. absurd (cc bad) };
  }
    where
      under_two : (vs : List _) → typed.ValuesFit heap (Int ∷ Int ∷ says.under) vs → typed.ValuesFit heap says.under (drop 2 vs)
      under_two [] h = absurd h
      under_two (v ∷ []) h = absurd h.1
      under_two (v ∷ u ∷ vs) h = h.1.1

  pub closes : (n : ℕ) → CanClose p team (number_in (second f.values)) (number_in (top f.values))
      (pops 2 f (Stand (AtClose n) ∷ rest)) run rest
  closes n = record {
    never = never_turn r.taken (turns left) 2 refl gave.never;
    stays = λ z w. never_within r.taken low high
        (λ maps z. inhale_own (truly maps) team.shared.one.after (finish (truly maps)) (seed left team z))
        (never_turn r.taken (turns left) 1 refl gave.never) z w;
  }

  -- a member at a position can take in its precondition
  pub begins_never : (z : ℤ) → within (number_in (second f.values)) (number_in (top f.values)) z ≡ true
      → RestNeverFails r.taken (λ maps. inhale_own (truly maps) team.shared.one.before (member_next maps)
      (seed (with_left r.state gave.held gave.instances gave.lengths) team z))
  begins_never z w = never_within r.taken low high
      (λ maps z. inhale_own (truly maps) team.shared.one.before (member_next maps) (seed left team z))
      (never_turn r.taken (turns left) 0 refl gave.never) z w

  -- what the frame has, and what it gives up, are no more than it had
  pub less : (q : Resource) → amounts_of run q + gave.part q ≤ amounts_of r q
  less q = let s = gave.sum q in omega (arith, s)
