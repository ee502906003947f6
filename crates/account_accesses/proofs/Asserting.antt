-- The label of an assert: the formula is given up on a copy, so it is met; what was learned stays.
use Rattle.std.proofs.Common.{◌≡◌, false, List, ◌∷◌, refl, sym, subst, arith}
use Rattle.pv_ast.specs.declared.PvType.{PvType}
use Rattle.pv_picks.specs.declared.check.Check.TheVariants as check
use Rattle.pv_picks.specs.Plain.Core.{Formula, Program}
use Rattle.pv_picks.specs.Formulas.Heaps.{Heap}
use Rattle.pv_picks.specs.Judge.States.{having_learned, scene_of}
use Rattle.pv_picks.specs.Machine.Tasks.{AtAssert, Task, Stand}
use Rattle.pv_picks.specs.Machine.Frames.{Frame, goes_on, settled}
use Rattle.pv_picks.specs.Machine.Worlds.{with_frames}
use Rattle.pv_picks.specs.Machine.Steps.{Result, needs_met}
use Rattle.pv_picks.specs.Typing.Tasks.{at_assert}
use Rattle.core_trees.specs.Formulas.{FormulaFits}
use Rattle.account_formulas.specs.Runs.{truly}
use Rattle.account_formulas.specs.Owning.{Owns}
use Rattle.account_formulas.specs.Giving.{Gave}
use Rattle.account.specs.Running.{ran}
use Rattle.account.specs.Scoped.{TasksSay, FrameSays, stands}
use Rattle.account.specs.Messages.{TasksExchange}
use Rattle.account.specs.Frames as account
use Rattle.account.specs.Frames.{sight_in, home_in, standing_in, IsRunOf}
use Rattle.account.specs.Accounts.{Kept}
use Rattle.account.proofs.Working.{NeverOn, TurnsAround}
use Rattle.account_accesses.specs.Statements.{AssertKeeps}
use Rattle.account_accesses.proofs.Acting.{acts, steps_here}
use Rattle.account_accesses.proofs.Speaking.{gives, met_in_frame, left_goes}

-- types behind an assert
record AssertSays (p : Program) (present : Heap) (f : Frame) (r : account.Run) (g : Formula) (rest : List Task) : Type 0 where
  pub formula : FormulaFits (home_in p f.class r.body) r.body.speech r.scope g
  pub says : TasksSay (standing_in p f.class r.body r.outer) false r.scope r.given r.stack rest

asserts_say : (p : Program) (present : Heap) (f : Frame) (r : account.Run) (g : Formula) (rest : List Task)
    (stack : List PvType) → stack ≡ r.stack
    → TasksSay (standing_in p f.class r.body r.outer) r.inner r.scope r.given stack (Stand (AtAssert g) ∷ rest)
    → AssertSays p present f r g rest
asserts_say p present f r g rest stack same (stands after at_assert speaks says) = record {
  formula = speaks;
  says = subst (λ ts. TasksSay (standing_in p f.class r.body r.outer) false r.scope r.given ts rest) same says;
}

pub assert_keeps : AssertKeeps
assert_keeps g p w support a i f below rest at mode = acts p w a i mode (AtAssert g) f below rest at
    (λ inside r rs had fits waits.
    let s = asserts_say p w.heap f r g rest r.stack refl
    (subst (λ ts. FrameSays (standing_in p f.class r.body r.outer) r.inner r.scope r.given r.stack ts) at.tasks fits.tasks) in
    let gave : Gave p w.committed w.heap r.taken (Owns p w.committed (sight_in w.heap r)
    (scene_of r.state) g) r.state r.state.held
    r.trees (λ maps later. ran (truly maps) p r.body false rest f.values (having_learned r.state later)) =
    gives p w.committed w.heap f r fits support.heap g s.formula check.Assert
    (λ maps later. ran (truly maps) p r.body false rest f.values (having_learned r.state later))
    (subst (λ ts. NeverOn p w.committed w.heap r r.inner ts f.values) at.tasks fits.never) in
    subst (λ o. Kept p (needs_met o check.Assert (Result.Went (with_frames w i (settled (goes_on f rest) ∷ below)))))
    (sym (met_in_frame p w.committed w.heap f r fits support.heap g s.formula gave.part gave.owns))
    (steps_here p w a support.heap (support.predicates w.heap support.heap) i inside f below at.frames r rs had waits
    (goes_on f rest)
    (left_goes p w.committed w.heap f r fits r.state.held r.state.instances gave.lengths r.trees
    (let x = fits.state.fits in record { steps = x.steps; agree = gave.agree; holds = x.holds; knows = x.knows; met = x.met })
    fits.state.trees (λ q. omega arith) false r.stack rest f.values fits.typed.values s.says
    (subst (λ ts. TurnsAround p w.committed w.heap f r r.inner ts) at.tasks fits.outer) gave.never)
    (record { class = refl; method = refl; this = refl; begun = refl; old = refl })
    (λ block ts is. let t = at.tasks in absurd (cc (is, t)))
    (λ S R h. (subst (λ ts. TasksExchange S R ts) at.tasks h).1)))
