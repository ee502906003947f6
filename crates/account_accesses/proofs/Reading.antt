-- The label of a read: what it reads is there, and the run goes on with it.
use Rattle.std.proofs.Common.{◌≡◌, ℕ, ℤ, pos, Bool, true, false, if◌then◌else◌, Option, Some, None, List, [], ◌∷◌, refl, ap, sym, subst, arith}
use Rattle.std.proofs.lemmas.Int.{ints}
use Rattle.std.specs.Prelude.{nat_eq, int_le, int_lt, drop, option_map}
use Rattle.pv_base.specs.declared.Span.{Span}
use Rattle.pv_ast.specs.declared.PvType.{PvType}
use Rattle.pv_ast.specs.declared.PvType.TheVariants.{Int, Object}
use Rattle.pv_values.specs.declared.value.Value.{Value}
use Rattle.pv_values.specs.Changes.{owner_of}
use Rattle.pv_picks.specs.declared.check.Check.{Check}
use Rattle.pv_picks.specs.declared.check.Check.TheVariants as check
use Rattle.pv_picks.specs.Plain.Core.{Program}
use Rattle.pv_picks.specs.Formulas.Values.{number_in, reference_in, within}
use Rattle.pv_picks.specs.Formulas.Heaps.{Heap}
use Rattle.pv_picks.specs.Judge.States.{Resource, InField, InElement, Holding, State, with_length}
use Rattle.pv_picks.specs.Judge.Settings.{Next, known_or_picked, look_at_length, or_missing}
use Rattle.pv_picks.specs.Machine.Tasks.{Spot, FieldOf, ElementOf, AtRead, Task, Stand}
use Rattle.pv_picks.specs.Machine.Frames.{Frame, top, second, location_on, breadth}
use Rattle.pv_picks.specs.Machine.Worlds.{Mode, World}
use Rattle.pv_picks.specs.Machine.Steps.{needs, not_null, read, act}
use Rattle.pv_picks.specs.Judge.Runs.{Judged, Maps, content}
use Rattle.pv_picks.proofs.Sames.{front, back}
use Rattle.pv_picks.specs.Typing.Tasks.{reads_field, reads_element}
use Rattle.pv_picks.specs.Typing.Frames as typed
use Rattle.pv_picks.specs.Typing.Frames.{HasType}
use Rattle.machine_laws.proofs.Local.{top-fits, rest-fits, two-fit}
use Rattle.machine_laws.proofs.Kept.{read-field, read-element}
use Rattle.account_formulas.specs.Sights.{Stands}
use Rattle.account_formulas.specs.Runs.{Taken, truly, all_maps, RestNeverFails}
use Rattle.account_formulas.specs.Growing.{StateFits}
use Rattle.account_formulas.proofs.Lengths.{never_as, never_number}
use Rattle.account.specs.Running.{ran}
use Rattle.account.specs.Scoped.{TasksSay, FrameSays, stands}
use Rattle.account.specs.Messages.{TasksExchange}
use Rattle.account.specs.Frames as account
use Rattle.account.specs.Frames.{standing_in, opened, AllTakeTurns, IsRunOf}
use Rattle.account.specs.Accounts.{Account, Kept}
use Rattle.account.specs.Going.{Goes}
use Rattle.account.proofs.Working.{NeverOn, TurnsAround, stays_in}
use Rattle.account.proofs.Stepping.{is_not_null}
use Rattle.account_accesses.specs.Standing.{StandsAt}
use Rattle.account_accesses.specs.Supports.{Supports}
use Rattle.account_accesses.specs.Statements.{ReadKeeps}
use Rattle.account_accesses.proofs.Acting.{acts, steps_here}

-- Tests of a run that never fails

pub tested : (taken : Taken) (b : Bool) (x y : Maps → Judged) (G : Type 0)
    → RestNeverFails taken (λ maps. if b then x maps else y maps)
    → (b ≡ true → RestNeverFails taken x → G) → (b ≡ false → RestNeverFails taken y → G) → G
tested taken true x y G n f g = f refl n
tested taken false x y G n f g = g refl n

pub fails : (taken : Taken) (named : Check) (span : Span) → RestNeverFails taken (λ maps. (truly maps).failed named span) → ⊥
fails taken named span n = n.never [] named span refl

-- an array whose elements are looked at has a known length: one that isn't known may be 0, and then it has none
pub length_known : (taken : Taken) (s : State) (type : PvType) (array : ℕ) (index : ℤ) (span : Span) (k : Maps → Next Judged)
    (G : Type 0)
    → RestNeverFails taken (λ maps. look_at_length (truly maps) type array
    (λ n later. if within (pos 0) n index then k maps later else (truly maps).failed check.Bounds span) s)
    → (RestNeverFails taken (λ maps. k maps s) → G) → G
length_known taken s type array index span k G never found = go (s.lengths type array) never
  where
    go : (o : Option ℤ) → RestNeverFails taken (λ maps. known_or_picked (truly maps) o type array
        (λ n later. if within (pos 0) n index then k maps later else (truly maps).failed check.Bounds span) s) → G
    go (Some n) m = tested taken (within (pos 0) n index) (λ maps. k maps s) (λ maps. (truly maps).failed check.Bounds span) G m
        (λ e n. found n) (λ e n. absurd (fails taken check.Bounds span n))
    go None m =
        tested taken (within (pos 0) (pos 0) index) (λ maps. k maps (with_length s type array (pos 0)))
        (λ maps. (truly maps).failed check.Bounds span) G
        (never_number taken (λ maps z. if int_le (pos 0) z then (if within (pos 0) z index then
        k maps (with_length s type array z) else (truly maps).failed check.Bounds span) else (truly maps).blocked) (pos 0) m)
        (λ e n. absurd (nowhere index e)) (λ e n. absurd (fails taken check.Bounds span n))
      where
        nowhere : (i : ℤ) → within (pos 0) (pos 0) i ≡ true → ⊥
        nowhere i e =
            let a = front (int_le (pos 0) i) (int_lt i (pos 0)) e in let b = back (int_le (pos 0) i) (int_lt i (pos 0)) e in
            omega (arith, ints, a, b)

-- what is read is held, and stands in the heap
pub record IsFound (present : Heap) (taken : Taken) (x : Resource) (k : Maps → Value → Judged) : Type 0 where
  pub value : Value
  pub stands : Stands present x value
  pub never : RestNeverFails taken (λ maps. k maps value)

pub found : (flags : ℕ → Bool) (present : Heap) (taken : Taken) (s : State) → StateFits flags present taken s → (x : Resource)
    (k : Maps → Value → Next Judged) (span : Span)
    → RestNeverFails taken (λ maps. or_missing (truly maps) (option_map (λ h. h.cell) (s.held x))
    ((truly maps).failed check.ReadPermission span) (k maps) s)
    → IsFound present taken x (λ maps v. k maps v s)
found flags present taken s fits x k span never = go (s.held x) refl never
  where
    go : (o : Option Holding) → s.held x ≡ o
        → RestNeverFails taken (λ maps. or_missing (truly maps) (option_map (λ h. h.cell) o)
        ((truly maps).failed check.ReadPermission span) (k maps) s)
        → IsFound present taken x (λ maps v. k maps v s)
    go None e n = absurd (fails taken check.ReadPermission span n)
    go (Some h) e n =
        let held = fits.holds x h e in
        record {
          value = held.value;
          stands = held.stands;
          never = never_as taken (λ maps. k maps (content maps h.cell) s) (λ maps. k maps held.value s)
              (λ picks. ap (λ v. k (all_maps taken picks) v s) (held.settled picks)) n;
        }

-- the frame behind a read
abbrev pub behind_read : Frame → Spot → List Task → Value → Frame
behind_read f spot rest v = record f { values = v ∷ drop (breadth spot) f.values; tasks = rest }

-- what a read comes to
record ReadGoes (p : Program) (present : Heap) (f : Frame) (r : account.Run) (spot : Spot) (rest : List Task) : Type 0 where
  pub value : Value
  pub stands : present.value (location_on spot f.values) ≡ Some value
  pub owner : not_null (owner_of (location_on spot f.values)) ≡ true
  pub never : RestNeverFails r.taken
      (λ maps. ran (truly maps) p r.body r.inner rest (value ∷ drop (breadth spot) f.values) r.state)

-- types of what is read
record ReadSays (p : Program) (present : Heap) (f : Frame) (r : account.Run) (spot : Spot) (rest : List Task) (value : Value)
    : Type 0 where
  pub stack : List PvType
  pub says : TasksSay (standing_in p f.class r.body r.outer) r.inner r.scope r.given stack rest
  pub values : typed.ValuesFit present stack (value ∷ drop (breadth spot) f.values)

module _ (p : Program) (w : World) (support : Supports p w) where
  reads_go : (f : Frame) (r : account.Run) → IsRunOf p w.committed w.heap f r → (spot : Spot) (span : Span) (rest : List Task)
      → NeverOn p w.committed w.heap r r.inner (Stand (AtRead spot span) ∷ rest) f.values → ReadGoes p w.heap f r spot rest
  reads_go f r fits (FieldOf class name) span rest never =
      tested r.taken (nat_eq (reference_in (top f.values)) 0) _ _ _ never (λ e n. absurd (fails r.taken check.Null span n))
      (λ e n. let g = found w.committed w.heap r.taken r.state fits.state.fits (InField class (reference_in (top f.values)) name)
      (λ maps v. ran (truly maps) p r.body r.inner rest (v ∷ drop 1 f.values)) span n in
      record { value = g.value; stands = g.stands; owner = is_not_null (reference_in (top f.values)) e; never = g.never })
  reads_go f r fits (ElementOf type) span rest never =
      tested r.taken (nat_eq (reference_in (second f.values)) 0) _ _ _ never (λ e n. absurd (fails r.taken check.Null span n))
      (λ e n. length_known r.taken r.state type (reference_in (second f.values)) (number_in (top f.values)) span _ _ n
      (λ n. let g = found w.committed w.heap r.taken r.state fits.state.fits
      (InElement type (reference_in (second f.values)) (number_in (top f.values)))
      (λ maps v. ran (truly maps) p r.body r.inner rest (v ∷ drop 2 f.values)) span n in
      record { value = g.value; stands = g.stands; owner = is_not_null (reference_in (second f.values)) e; never = g.never }))

  second_typed : (a b : PvType) (types : List PvType) (vs : List Value) → typed.ValuesFit w.heap (a ∷ b ∷ types) vs
      → HasType w.heap b (second vs)
  second_typed a b types [] h = absurd h
  second_typed a b types (v ∷ []) h = absurd h.1
  second_typed a b types (v ∷ u ∷ vs) h = h.1.0

  reads_say : (f : Frame) (r : account.Run) (spot : Spot) (span : Span) (rest : List Task) (value : Value)
      → w.heap.value (location_on spot f.values) ≡ Some value → (stack : List PvType) → typed.ValuesFit w.heap stack f.values
      → TasksSay (standing_in p f.class r.body r.outer) r.inner r.scope r.given stack (Stand (AtRead spot span) ∷ rest)
      → ReadSays p w.heap f r spot rest value
  reads_say f r (FieldOf class name) span rest value at stack have (stands after (reads_field {stack = under} {type = type} is)
      speaks says) =
      record {
        stack = type ∷ under;
        says = says;
        values = (
          read-field p w.heap class name type (top f.values) value support.typed.heap is
              (top-fits w.heap (Object class) under f.values have) at,
          rest-fits w.heap (Object class) under f.values have,
        );
      }
  reads_say f r (ElementOf element) span rest value at stack have (stands after
      (reads_element {stack = under} {array = array} is kind) speaks says) =
      record {
        stack = element ∷ under;
        says = says;
        values = (
          read-element p w.heap element (second f.values) value (number_in (top f.values)) support.typed.heap kind
              (subst (λ t. HasType w.heap t (second f.values)) is (second_typed Int array under f.values have)) at,
          two-fit w.heap Int array under f.values have,
        );
      }

  read_goes : (f : Frame) (r : account.Run) → IsRunOf p w.committed w.heap f r → (spot : Spot) (span : Span) (rest : List Task)
      → f.tasks ≡ Stand (AtRead spot span) ∷ rest → (g : ReadGoes p w.heap f r spot rest)
      → Goes p w.committed w.heap (behind_read f spot rest g.value) r
  read_goes f r fits spot span rest is g =
      let s = reads_say f r spot span rest g.value g.stands r.stack fits.typed.values (said f.tasks is fits.tasks) in
      stays_in p w.committed w.heap f r fits r.inner s.stack rest (g.value ∷ drop (breadth spot) f.values) s.values s.says
      (turns f.tasks is fits.outer) g.never
    where
      said : (ts : List Task) → ts ≡ Stand (AtRead spot span) ∷ rest
          → FrameSays (standing_in p f.class r.body r.outer) r.inner r.scope r.given r.stack ts
          → TasksSay (standing_in p f.class r.body r.outer) r.inner r.scope r.given r.stack (Stand (AtRead spot span) ∷ rest)
      said ts is h = subst (λ us. FrameSays (standing_in p f.class r.body r.outer) r.inner r.scope r.given r.stack us) is h

      turns : (ts : List Task) → ts ≡ Stand (AtRead spot span) ∷ rest → TurnsAround p w.committed w.heap f r r.inner ts
          → TurnsAround p w.committed w.heap f r r.inner rest
      turns ts is h = subst (λ us. TurnsAround p w.committed w.heap f r r.inner us) is h

  read_kept : (a : Account p w) (i : ℕ) (f : Frame) (below : List Frame) (spot : Spot) (span : Span) (rest : List Task)
      → StandsAt w i (AtRead spot span) f below rest → (mode : Mode) → Kept p (act p w mode i)
  read_kept a i f below spot span rest at mode = acts p w a i mode (AtRead spot span) f below rest at
      (λ inside r rs had fits waits.
      let g = reads_go f r fits spot span rest
      (subst (λ ts. NeverOn p w.committed w.heap r r.inner ts f.values) at.tasks fits.never) in
      subst (λ b. Kept p (needs b check.Null span
      (read p w i f below (w.heap.value (location_on spot f.values)) spot span rest))) (sym g.owner)
      (subst (λ o. Kept p (read p w i f below o spot span rest)) (sym g.stands)
      (steps_here p w a support.heap (support.predicates w.heap support.heap) i inside f below at.frames r rs had waits
      (behind_read f spot rest g.value) (read_goes f r fits spot span rest at.tasks g)
      (record { class = refl; method = refl; this = refl; begun = refl; old = refl })
      (λ block ts is. absurd (cc (is, at.tasks)))
      (λ S R h. (subst (λ ts. TasksExchange S R ts) at.tasks h).1))))

pub read_keeps : ReadKeeps
read_keeps spot span p w support a i f below rest at mode = read_kept p w support a i f below spot span rest at mode
