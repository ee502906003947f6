-- The label of a fold: the body of the predicate is given up, so it is met; and what it owned goes to the instance.
use Rattle.std.proofs.Common.{◌≡◌, ℕ, suc, ◌+◌, ◌≤◌, ◌<◌, Bool, false, Some, List, [], ◌∷◌, refl, ap, sym, subst, arith}
use Rattle.std.specs.Prelude.{nat_eq, drop, length, ◌++◌}
use Rattle.std.proofs.lemmas.Option.{none-some}
use Rattle.pv_base.specs.declared.Name.{Name}
use Rattle.pv_base.specs.declared.Span.{Span}
use Rattle.pv_ast.specs.declared.PvType.{PvType}
use Rattle.pv_ast.specs.declared.PvType.TheVariants.{Object}
use Rattle.pv_fraction.specs.Amounts.{whole}
use Rattle.pv_values.specs.declared.value.Value.{Value}
use Rattle.pv_values.specs.declared.value.Value.TheVariants as value
use Rattle.pv_picks.specs.declared.check.Check.TheVariants as check
use Rattle.pv_picks.specs.Plain.Core.{Predicate, Program}
use Rattle.pv_picks.specs.Plain.Members.{predicate_named}
use Rattle.pv_picks.specs.Formulas.Heaps.{Heap}
use Rattle.pv_picks.specs.Formulas.Meeting.{found_met}
use Rattle.pv_picks.specs.Judge.States.{Resource, Folded}
use Rattle.pv_picks.specs.Judge.Permissions.{add_instance}
use Rattle.pv_picks.specs.Judge.Judging.{fold_in}
use Rattle.pv_picks.specs.Machine.Tasks.{AtFold, Task, Stand}
use Rattle.pv_picks.specs.Machine.Frames.{Frame, topmost, object_under, pops, settled, only_now, outer_scene}
use Rattle.pv_picks.specs.Machine.Worlds.{with_frames}
use Rattle.pv_picks.specs.Machine.Steps.{Result, needs, not_null, act_fold, act_step}
use Rattle.pv_picks.specs.Typing.Expressions.{silent, onto}
use Rattle.pv_picks.specs.Typing.Blocks.{types_of, over}
use Rattle.pv_picks.specs.Typing.Tasks.{at_fold}
use Rattle.pv_picks.specs.Typing.Frames as typed
use Rattle.pv_picks.specs.Typing.Frames.{HasType}
use Rattle.machine_laws.proofs.Local.{under-fits, rest-fits, drop-one}
use Rattle.account_formulas.specs.Runs.{truly, RestNeverFails}
use Rattle.account_formulas.specs.Owning.{Amounts, Owns, KeepsOwning, HasTrees}
use Rattle.account_formulas.specs.Growing.{HeapFits}
use Rattle.account_formulas.specs.Gaining.{AreTyped, nothing_taken, body_state, PredicatesFit, home_at}
use Rattle.account_formulas.proofs.Laws.{gives_up, left_fits, owned_is_met}
use Rattle.account_formulas.proofs.Later.{owns_later}
use Rattle.account_formulas.proofs.Gaining.{body_place}
use Rattle.account.specs.Running.{ran}
use Rattle.account.specs.Scoped.{TasksSay, FrameSays, stands}
use Rattle.account.specs.Messages.{TasksExchange}
use Rattle.account.specs.Frames as account
use Rattle.account.specs.Frames.{amounts_of, all_of, standing_in, called_of, IsRunOf, AllWait}
use Rattle.account.specs.Accounts.{Kept}
use Rattle.account.proofs.Typing.{arguments_typed, object_typed}
use Rattle.account.proofs.Working.{NeverOn, TurnsAround}
use Rattle.account.proofs.LocalWork.{named_so}
use Rattle.account_accesses.specs.Statements.{FoldKeeps}
use Rattle.account.proofs.Stepping.{is_not_null, own_most}
use Rattle.account_accesses.proofs.Acting.{acts, steps_here}
use Rattle.account_accesses.proofs.Reading.{tested, fails}
use Rattle.account_accesses.proofs.Speaking.{left_goes}

-- what stands of a fold: the predicate, its object and arguments, and the types behind it
record FoldSays (p : Program) (present : Heap) (f : Frame) (r : account.Run) (class predicate : Name) (count : ℕ)
    (rest : List Task) : Type 0 where
  pub body : Predicate
  pub named : predicate_named p class predicate ≡ Some body
  pub stack : List PvType
  pub says : TasksSay (standing_in p f.class r.body r.outer) false r.scope r.given stack rest
  pub values : typed.ValuesFit present stack (drop (suc count) f.values)
  pub this : HasType present (Object class) (value.Reference (object_under count f.values))
  pub arguments : AreTyped present (types_of body.parameters) (topmost count f.values)

behind_fold : (present : Heap) (stack before types : List PvType) (class : Name) (count : ℕ) (vs : List Value)
    → before ≡ onto types (Object class ∷ stack) → length types ≡ count → typed.ValuesFit present before vs
    → typed.ValuesFit present stack (drop (suc count) vs)
behind_fold present stack before types class count vs is many have =
    subst (λ n. typed.ValuesFit present stack (drop (suc n) vs)) many
    (subst (λ us. typed.ValuesFit present stack us) (drop-one (length types) vs)
    (rest-fits present (Object class) stack (drop (length types) vs)
    (under-fits present (Object class ∷ stack) types vs (subst (λ ts. typed.ValuesFit present ts vs) is have))))

folds_say : (p : Program) (present : Heap) (f : Frame) (r : account.Run) (class predicate : Name) (count : ℕ) (span : Span)
    (rest : List Task) (before : List PvType) → typed.ValuesFit present before f.values
    → TasksSay (standing_in p f.class r.body r.outer) r.inner r.scope r.given before
    (Stand (AtFold class predicate count span) ∷ rest)
    → FoldSays p present f r class predicate count rest
folds_say p present f r class predicate count span rest before have (stands after (at_fold q named is many) speaks says) =
    record {
      body = q;
      named = named;
      stack = after;
      says = says;
      values = behind_fold present after before (types_of q.parameters) class count f.values is many have;
      this = object_typed present after before (types_of q.parameters) class count f.values is many have;
      arguments = arguments_typed present after before (types_of q.parameters) class count f.values is many have;
    }

-- instances with one more
trees_and : (p : Program) (flags : ℕ → Bool) (heap : Heap) (x : Folded) (d : Predicate) (R : Amounts)
    → predicate_named p x.class x.predicate ≡ Some d
    → KeepsOwning p flags heap (outer_scene x.object d.parameters x.arguments) d.body R
    → (I : List Folded) (T : Amounts) → HasTrees p flags heap I T → HasTrees p flags heap (I ++ x ∷ []) (λ q. T q + R q)
trees_and p flags heap x d R named owns [] T trees = (R, T, (d, named, owns), tt, λ q. omega arith)
trees_and p flags heap x d R named owns (y ∷ ys) T (A, B, first, more, sum) =
    (A, (λ q. B q + R q), first, trees_and p flags heap x d R named owns ys B more, λ q. let s = sum q in omega (arith, s))

module _ (p : Program) (flags : ℕ → Bool) (present : Heap) (heap : HeapFits p present) (predicates : PredicatesFit p present)
    (class : Name) (d : Predicate) (itself : predicate_named p class d.name ≡ Some d) (object : ℕ) (vs : List Value)
    (this : HasType present (Object class) (value.Reference object)) (arguments : AreTyped present (types_of d.parameters) vs)
    (part : Amounts) (owns : Owns p flags (only_now present) (outer_scene object d.parameters vs) d.body part)
    (most : (q : Resource) → part q ≤ whole) where
  -- what the body owns stays owned
  pub body_keeps_owning : KeepsOwning p flags present (outer_scene object d.parameters vs) d.body part
  body_keeps_owning later kept =
      let taking = predicates.never class d.name d itself object vs this arguments in
      owns_later p flags present heap predicates (body_place p flags present heap predicates class d)
      (outer_scene object d.parameters vs)
      (predicates.fits class d.name d itself object vs this arguments) d.body (predicates.good class d.name d itself) part owns
      most nothing_taken (body_state object d vs taking.0) (λ picks q. refl)
      (record {
        steps = refl;
        agree = λ type array n is. absurd (none-some n is);
        holds = λ q h is. absurd (none-some h is);
        knows = λ c o is. absurd (cc is);
        met = taking.1;
      })
      (λ q. refl) refl taking.2 (only_now later) kept (λ q v is. absurd (none-some v is)) kept.lengths kept.lengths

pub fold_keeps : FoldKeeps
fold_keeps class predicate count span p w support a i f below rest at mode =
    acts p w a i mode (AtFold class predicate count span) f below rest at go
  where
    go : i < w.count → (r : account.Run) (rs : List account.Run) → a.owners.runs i ≡ r ∷ rs
        → IsRunOf p w.committed w.heap f r → AllWait p w.committed w.heap (called_of f r) below rs
        → Kept p (act_step p w i f below mode (AtFold class predicate count span) rest)
    go inside r rs had fits waits =
        tested r.taken (nat_eq (object_under count f.values) 0) _ _ _
        (subst (λ ts. NeverOn p w.committed w.heap r r.inner ts f.values) at.tasks fits.never)
        (λ e n. absurd (fails r.taken check.Null span n))
        (λ full n. done full (subst (λ o. RestNeverFails r.taken (λ maps. fold_in (truly maps) o class
        (object_under count f.values) (topmost count f.values) span
        (ran (truly maps) p r.body false rest (drop (suc count) f.values)) r.state)) s.named n))
      where
        s : FoldSays p w.heap f r class predicate count rest
        s = folds_say p w.heap f r class predicate count span rest r.stack fits.typed.values
            (subst (λ ts. FrameSays (standing_in p f.class r.body r.outer) r.inner r.scope r.given r.stack ts) at.tasks
            fits.tasks)

        predicates : PredicatesFit p w.heap
        predicates = support.predicates w.heap support.heap

        itself : predicate_named p class s.body.name ≡ Some s.body
        itself = subst (λ n. predicate_named p class n ≡ Some s.body) (sym (named_so p class predicate s.body s.named)) s.named

        x : Folded
        x = record {
          class = class;
          predicate = s.body.name;
          object = object_under count f.values;
          arguments = topmost count f.values;
        }

        most : (q : Resource) → amounts_of r q ≤ whole
        most q = let one = own_most p w a i inside (r ∷ rs) had q in omega (arith, one)

        done : nat_eq (object_under count f.values) 0 ≡ false
            → RestNeverFails r.taken (λ maps. fold_in (truly maps) (Some s.body) class (object_under count f.values)
            (topmost count f.values) span (ran (truly maps) p r.body false rest (drop (suc count) f.values)) r.state)
            → Kept p (needs (not_null (object_under count f.values)) check.Null span
            (act_fold p w i f below (predicate_named p class predicate) (object_under count f.values) count span rest))
        done full n =
            let c = body_place p w.committed w.heap support.heap predicates class s.body in
            let scene = outer_scene (object_under count f.values) s.body.parameters (topmost count f.values) in
            let typed' = predicates.fits class s.body.name s.body itself (object_under count f.values) (topmost count f.values)
            s.this s.arguments in
            let good = predicates.good class s.body.name s.body itself in
            let gave =
            gives_up p w.committed w.heap support.heap c scene typed' s.body.body good r.taken r.state (λ picks q. refl)
            fits.state.fits r.trees fits.state.trees check.Fold (Some span)
            (λ maps. add_instance (truly maps) x (ran (truly maps) p r.body false rest (drop (suc count) f.values))) n in
            let met = owned_is_met (home_at p w.heap c) silent p w.committed (over [] s.body.parameters) (only_now w.heap) scene
            s.body.body good gave.part gave.owns in
            let keeps = body_keeps_owning p w.committed w.heap support.heap predicates class s.body itself
            (object_under count f.values) (topmost count f.values) s.this s.arguments gave.part gave.owns
            (λ q. let one = gave.sum q in let two = most q in omega (arith, one, two)) in
            subst (λ b. Kept p (needs b check.Null span
            (act_fold p w i f below (predicate_named p class predicate) (object_under count f.values) count span rest)))
            (sym (is_not_null (object_under count f.values) full))
            (subst (λ o. Kept p (act_fold p w i f below o (object_under count f.values) count span rest)) (sym s.named)
            (subst (λ b. Kept p (needs b check.Fold span
            (Result.Went (with_frames w i (settled (pops (suc count) f rest) ∷ below)))))
            (sym (ap found_met met))
            (steps_here p w a support.heap predicates i inside f below at.frames r rs had waits (pops (suc count) f rest)
            (left_goes p w.committed w.heap f r fits gave.held (gave.instances ++ x ∷ []) gave.lengths
            (λ q. gave.trees q + gave.part q)
            (let k = left_fits w.committed w.heap r.taken r.state gave.held gave.instances gave.lengths fits.state.fits
            gave.leaves
            gave.agree in record { steps = k.steps; agree = k.agree; holds = k.holds; knows = k.knows; met = k.met })
            (trees_and p w.committed w.heap x s.body gave.part itself keeps gave.instances gave.trees gave.has_trees)
            (λ q. let one = gave.sum q in omega (arith, one)) false s.stack rest (drop (suc count) f.values) s.values s.says
            (subst (λ ts. TurnsAround p w.committed w.heap f r r.inner ts) at.tasks fits.outer) gave.never)
            (record { class = refl; method = refl; this = refl; begun = refl; old = refl })
            (λ block ts is. let t = at.tasks in absurd (cc (is, t)))
            (λ S R h. (subst (λ ts. TasksExchange S R ts) at.tasks h).1))))
