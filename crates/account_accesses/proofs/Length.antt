-- The label of a length: the array is there, and its length is known from then on.
use Rattle.std.proofs.Common.{◌≡◌, zero, suc, ℤ, false, Some, IsSome, List, ◌∷◌, refl, sym, subst, arith}
use Rattle.std.specs.Prelude.{nat_eq, drop}
use Rattle.pv_base.specs.declared.Span.{Span}
use Rattle.pv_ast.specs.declared.PvType.{PvType}
use Rattle.pv_ast.specs.declared.PvType.TheVariants.{Int, Truth, Object, IntArray, TruthArray, Null}
use Rattle.pv_values.specs.declared.value.Value.{Value}
use Rattle.pv_values.specs.declared.value.Value.TheVariants as value
use Rattle.pv_picks.specs.declared.check.Check.TheVariants as check
use Rattle.pv_picks.specs.Plain.Core.{Program}
use Rattle.pv_picks.specs.Formulas.Values.{reference_in, array_of}
use Rattle.pv_picks.specs.Formulas.Heaps.{Heap}
use Rattle.pv_picks.specs.Machine.Tasks.{AtLength, Task, Stand}
use Rattle.pv_picks.specs.Machine.Frames.{Frame, top}
use Rattle.pv_picks.specs.Machine.Worlds.{World}
use Rattle.pv_picks.specs.Machine.Steps.{act_length}
use Rattle.pv_picks.specs.Typing.Tasks.{takes_length}
use Rattle.pv_picks.specs.Typing.Frames as typed
use Rattle.pv_picks.specs.Typing.Frames.{HasType}
use Rattle.machine_laws.proofs.Local.{top-fits, rest-fits}
use Rattle.account_formulas.specs.Sights.{Lengths, LengthsAgree}
use Rattle.account_formulas.specs.Runs.{truly, RestNeverFails, with_lengths}
use Rattle.account_formulas.proofs.Lengths.{length_looked}
use Rattle.account_formulas.proofs.Raising.{some_of}
use Rattle.account.specs.Running.{ran}
use Rattle.account.specs.Scoped.{TasksSay, FrameSays, stands}
use Rattle.account.specs.Messages.{TasksExchange}
use Rattle.account.specs.Frames as account
use Rattle.account.specs.Frames.{standing_in, IsRunOf}
use Rattle.account.specs.Accounts.{Kept}
use Rattle.account.proofs.Working.{NeverOn, TurnsAround}
use Rattle.account_accesses.specs.Supports.{Supports}
use Rattle.account_accesses.specs.Statements.{LengthKeeps}
use Rattle.account_accesses.proofs.Acting.{acts, steps_here}
use Rattle.account_accesses.proofs.Reading.{tested, fails}
use Rattle.account_accesses.proofs.Speaking.{left_goes}

-- an array that isn't null has a length
array_length : (heap : Heap) (type : PvType) (v : Value) → HasType heap (array_of type) v → nat_eq (reference_in v) 0 ≡ false
    → IsSome (heap.length (reference_in v))
array_length heap type (value.Number z) typed full = absurd (cc full)
array_length heap type (value.Truth b) typed full = absurd (cc full)
array_length heap type (value.Reference zero) typed full = absurd (cc full)
array_length heap Truth (value.Reference (suc n)) typed full = typed.0
array_length heap Int (value.Reference (suc n)) typed full = typed.0
array_length heap (Object class) (value.Reference (suc n)) typed full = typed.0
array_length heap IntArray (value.Reference (suc n)) typed full = typed.0
array_length heap TruthArray (value.Reference (suc n)) typed full = typed.0
array_length heap Null (value.Reference (suc n)) typed full = typed.0

-- what a length comes to
record LengthGoes (p : Program) (present : Heap) (f : Frame) (r : account.Run) (rest : List Task) : Type 0 where
  pub length : ℤ
  pub stands : present.length (reference_in (top f.values)) ≡ Some length
  pub lengths : Lengths
  pub agree : LengthsAgree present lengths
  pub stack : List PvType
  pub says : TasksSay (standing_in p f.class r.body r.outer) r.inner r.scope r.given stack rest
  pub values : typed.ValuesFit present stack (value.Number length ∷ drop 1 f.values)
  pub never : RestNeverFails r.taken (λ maps. ran (truly maps) p r.body r.inner rest (value.Number length ∷ drop 1 f.values)
      (with_lengths r.state lengths))

lengths_go : (p : Program) (w : World) → Supports p w → (f : Frame) (r : account.Run) → IsRunOf p w.committed w.heap f r
    → (type : PvType) (span : Span) (rest : List Task) (stack : List PvType) → typed.ValuesFit w.heap stack f.values
    → TasksSay (standing_in p f.class r.body r.outer) r.inner r.scope r.given stack (Stand (AtLength type span) ∷ rest)
    → NeverOn p w.committed w.heap r r.inner (Stand (AtLength type span) ∷ rest) f.values → LengthGoes p w.heap f r rest
lengths_go p w support f r fits type span rest stack have (stands after
    (takes_length {stack = under} {array = array} is) speaks says) never =
    tested r.taken (nat_eq (reference_in (top f.values)) 0) _ _ _ never (λ e n. absurd (fails r.taken check.Null span n))
    (λ full n.
    let known = some_of (w.heap.length (reference_in (top f.values)))
    (array_length w.heap type (top f.values)
    (subst (λ t. HasType w.heap t (top f.values)) is (top-fits w.heap array under f.values have)) full) in
    length_looked r.taken w.heap r.state type (reference_in (top f.values))
    (λ maps z. ran (truly maps) p r.body r.inner rest (value.Number z ∷ drop 1 f.values)) (LengthGoes p w.heap f r rest) known.0
    known.1 (support.heap.natural (reference_in (top f.values)) known.0 known.1)
    (λ l agree m. record {
      length = known.0;
      stands = known.1;
      lengths = l;
      agree = agree;
      stack = Int ∷ under;
      says = says;
      values = (refl, rest-fits w.heap array under f.values have);
      never = m;
    })
    r.state.lengths fits.state.fits.agree n)

pub length_keeps : LengthKeeps
length_keeps type span p w support a i f below rest at mode = acts p w a i mode (AtLength type span) f below rest at
    (λ inside r rs had fits waits.
    let g = lengths_go p w support f r fits type span rest r.stack fits.typed.values
    (subst (λ ts. FrameSays (standing_in p f.class r.body r.outer) r.inner r.scope r.given r.stack ts) at.tasks fits.tasks)
    (subst (λ ts. NeverOn p w.committed w.heap r r.inner ts f.values) at.tasks fits.never) in
    subst (λ o. Kept p (act_length p w i f below o span rest)) (sym g.stands)
    (steps_here p w a support.heap (support.predicates w.heap support.heap) i inside f below at.frames r rs had waits
    (record f { values = value.Number g.length ∷ drop 1 f.values; tasks = rest })
    (left_goes p w.committed w.heap f r fits r.state.held r.state.instances g.lengths r.trees
    (let x = fits.state.fits in record { steps = x.steps; agree = g.agree; holds = x.holds; knows = x.knows; met = x.met })
    fits.state.trees (λ q. omega arith) r.inner g.stack rest (value.Number g.length ∷ drop 1 f.values) g.values g.says
    (subst (λ ts. TurnsAround p w.committed w.heap f r r.inner ts) at.tasks fits.outer) g.never)
    (record { class = refl; method = refl; this = refl; begun = refl; old = refl })
    (λ block ts is. let t = at.tasks in absurd (cc (is, t)))
    (λ S R h. (subst (λ ts. TasksExchange S R ts) at.tasks h).1)))
