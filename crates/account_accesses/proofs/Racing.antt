-- No two threads of an accounted world race: who writes holds the whole of the place, and who reads holds something of it.
use Rattle.std.proofs.Common.{◌≡◌, ◌≢◌, ◌⊎◌, inl, inr, ℕ, ◌≤◌, ◌<◌, Bool, true, false, Option, Some, None, List, [], ◌∷◌, refl, ap, sym, subst, ◌∙◌, arith}
use Rattle.std.specs.Prelude.{nat_eq, drop, option_map}
use Rattle.std.proofs.lemmas.Option.{same_Some, none-some}
use Rattle.pv_base.specs.declared.Span.{Span}
use Rattle.pv_fraction.specs.Amounts.{whole}
use Rattle.pv_values.specs.declared.value.Value.{Value}
use Rattle.pv_values.specs.declared.value.Location.{Location}
use Rattle.pv_picks.specs.declared.check.Check.TheVariants as check
use Rattle.pv_picks.specs.Plain.Core.{Program, Action, Fork, Join', Lock, Unlock, Commit}
use Rattle.pv_picks.specs.Formulas.Values.{number_in, reference_in}
use Rattle.pv_picks.specs.Formulas.Heaps.{Heap}
use Rattle.pv_picks.specs.Machine.Labels.{Label}
use Rattle.pv_picks.specs.Judge.States.{Resource, InField, InElement, Holding, State, amount_held, amount_of}
use Rattle.pv_picks.specs.Judge.Settings.{or_missing}
use Rattle.pv_picks.specs.Machine.Tasks.{Spot, FieldOf, ElementOf, AtRead, AtWrite, AtAction, Task, Stand}
use Rattle.pv_picks.specs.Machine.Frames.{Frame, top, second, location_on}
use Rattle.pv_picks.specs.Machine.Worlds.{Role, MemberOf, World, next, label_of_frames, label_of_frame, label_of_end, label_of_action, has_no_frame}
use Rattle.pv_picks.specs.Machine.Safety.{Writes, Reads}
use Rattle.pv_picks.specs.Judge.Runs.{Judged, Maps}
use Rattle.pv_picks.proofs.Sames.{naturals_same}
use Rattle.account_formulas.specs.Runs.{Taken, truly, RestNeverFails}
use Rattle.account_formulas.specs.Growing.{StateFits, HeapFits}
use Rattle.account.specs.Running.{ran}
use Rattle.account.specs.Frames as account
use Rattle.account.specs.Frames.{amounts_of, all_of, called_of, IsRunOf, AreRunsOf}
use Rattle.account.specs.Owners.{at_thread}
use Rattle.account.specs.Accounts.{Account}
use Rattle.account.proofs.Sums.{part_of}
use Rattle.account.proofs.Working.{NeverOn}
use Rattle.account_accesses.specs.Statements.{NoRace}
use Rattle.account.proofs.Sums.{parts_of}
use Rattle.account_accesses.proofs.Reading.{tested, fails, length_known}
use Rattle.account_accesses.proofs.Places.{location_of, one_resource}
use Rattle.account_accesses.proofs.Writing.{writes_go}

-- what is held of a place
pub record HoldsAt (R : Resource → ℕ) (place : Location) (least : ℕ) : Type 0 where
  pub resource : Resource
  pub stands : location_of resource ≡ Some place
  pub much : least ≤ R resource

-- what is read is held
is_held : (flags : ℕ → Bool) (present : Heap) (taken : Taken) (s : State) → StateFits flags present taken s → (x : Resource)
    (k : Maps → Value → State → Judged) (span : Span)
    → RestNeverFails taken (λ maps. or_missing (truly maps) (option_map (λ h. h.cell) (s.held x))
    ((truly maps).failed check.ReadPermission span) (k maps) s)
    → 1 ≤ amount_of s x
is_held flags present taken s fits x k span never = go (s.held x) refl never
  where
    go : (o : Option Holding) → s.held x ≡ o
        → RestNeverFails taken (λ maps. or_missing (truly maps) (option_map (λ h. h.cell) o)
        ((truly maps).failed check.ReadPermission span) (k maps) s)
        → 1 ≤ amount_of s x
    go None e n = absurd (fails taken check.ReadPermission span n)
    go (Some h) e n =
        let some = (fits.holds x h e).some in
        let same : amount_of s x ≡ h.amount = ap amount_held e in omega (arith, some, same)

reads_hold : (p : Program) (w : World) (f : Frame) (r : account.Run) → IsRunOf p w.committed w.heap f r → (spot : Spot)
    (span : Span) (rest : List Task) → NeverOn p w.committed w.heap r r.inner (Stand (AtRead spot span) ∷ rest) f.values
    → HoldsAt (amount_of r.state) (location_on spot f.values) 1
reads_hold p w f r fits (FieldOf class name) span rest never =
    tested r.taken (nat_eq (reference_in (top f.values)) 0) _ _ _ never (λ e n. absurd (fails r.taken check.Null span n))
    (λ e n. record {
      resource = InField class (reference_in (top f.values)) name;
      stands = refl;
      much = is_held w.committed w.heap r.taken r.state fits.state.fits (InField class (reference_in (top f.values)) name)
          (λ maps v. ran (truly maps) p r.body r.inner rest (v ∷ drop 1 f.values)) span n;
    })
reads_hold p w f r fits (ElementOf type) span rest never =
    tested r.taken (nat_eq (reference_in (second f.values)) 0) _ _ _ never (λ e n. absurd (fails r.taken check.Null span n))
    (λ e n. length_known r.taken r.state type (reference_in (second f.values)) (number_in (top f.values)) span _ _ n
    (λ n. record {
      resource = InElement type (reference_in (second f.values)) (number_in (top f.values));
      stands = refl;
      much = is_held w.committed w.heap r.taken r.state fits.state.fits
          (InElement type (reference_in (second f.values)) (number_in (top f.values)))
          (λ maps v. ran (truly maps) p r.body r.inner rest (v ∷ drop 2 f.values)) span n;
    }))

-- Who stands at a write or a read

pub record StandsAtWrite (frames : List Frame) (place : Location) : Type 0 where
  pub frame : Frame
  pub below : List Frame
  pub spot : Spot
  pub span : Span
  pub rest : List Task
  pub top : frames ≡ frame ∷ below
  pub tasks : frame.tasks ≡ Stand (AtWrite spot span) ∷ rest
  pub stands : location_on spot (drop 1 frame.values) ≡ place

pub record StandsAtRead (frames : List Frame) (place : Location) : Type 0 where
  pub frame : Frame
  pub below : List Frame
  pub spot : Spot
  pub span : Span
  pub rest : List Task
  pub top : frames ≡ frame ∷ below
  pub tasks : frame.tasks ≡ Stand (AtRead spot span) ∷ rest
  pub stands : location_on spot frame.values ≡ place

no_write_end : (role : Role) (below : List Frame) {place : Location} {v : Value}
    → Some (label_of_end role below) ≡ Some (Label.Write place v) → ⊥
no_write_end (MemberOf b i) [] h = absurd (cc h)
no_write_end role below h = absurd (cc h)

no_read_end : (role : Role) (below : List Frame) {place : Location} → Some (label_of_end role below) ≡ Some (Label.Read place) → ⊥
no_read_end (MemberOf b i) [] h = absurd (cc h)
no_read_end role below h = absurd (cc h)

no_write_action : (action : Action) (o : ℕ) (place : Location) (v : Value)
    → Some (label_of_action action o) ≡ Some (Label.Write place v) → ⊥
no_write_action Fork o place v h = absurd (cc h)
no_write_action Join' o place v h = absurd (cc h)
no_write_action Lock o place v h = absurd (cc h)
no_write_action Unlock o place v h = absurd (cc h)
no_write_action Commit o place v h = absurd (cc h)

no_read_action : (action : Action) (o : ℕ) (place : Location) → Some (label_of_action action o) ≡ Some (Label.Read place) → ⊥
no_read_action Fork o place h = absurd (cc h)
no_read_action Join' o place h = absurd (cc h)
no_read_action Lock o place h = absurd (cc h)
no_read_action Unlock o place h = absurd (cc h)
no_read_action Commit o place h = absurd (cc h)

at_write : (f : Frame) (below : List Frame) (role : Role) (place : Location) (v : Value) (tasks : List Task) → f.tasks ≡ tasks
    → label_of_frame role f tasks below ≡ Some (Label.Write place v) → StandsAtWrite (f ∷ below) place
at_write f below role place v (Stand (AtWrite spot span) ∷ rest) is h =
    let same : Label.Write (location_on spot (drop 1 f.values)) (top f.values) ≡ Label.Write place v = same_Some _ _ h in
    record { frame = f; below = below; spot = spot; span = span; rest = rest; top = refl; tasks = is; stands = cc same }
at_write f below role place v [] is h = absurd (no_write_end role below h)
at_write f below role place v (Stand (AtAction action class span) ∷ rest) is h = absurd (no_write_action action _ place v h)
at_write f below role place v tasks is h = absurd (cc h)

at_read : (f : Frame) (below : List Frame) (role : Role) (place : Location) (tasks : List Task) → f.tasks ≡ tasks
    → label_of_frame role f tasks below ≡ Some (Label.Read place) → StandsAtRead (f ∷ below) place
at_read f below role place (Stand (AtRead spot span) ∷ rest) is h =
    let same : Label.Read (location_on spot f.values) ≡ Label.Read place = same_Some _ _ h in
    record { frame = f; below = below; spot = spot; span = span; rest = rest; top = refl; tasks = is; stands = cc same }
at_read f below role place [] is h = absurd (no_read_end role below h)
at_read f below role place (Stand (AtAction action class span) ∷ rest) is h = absurd (no_read_action action _ place h)
at_read f below role place tasks is h = absurd (cc h)

write_stands : (role : Role) (frames : List Frame) (place : Location) (v : Value)
    → label_of_frames role frames ≡ Some (Label.Write place v) → StandsAtWrite frames place
write_stands role [] place v h = absurd (none-some _ h)
write_stands role (f ∷ below) place v h = at_write f below role place v f.tasks refl h

read_stands : (role : Role) (frames : List Frame) (place : Location) → label_of_frames role frames ≡ Some (Label.Read place)
    → StandsAtRead frames place
read_stands role [] place h = absurd (none-some _ h)
read_stands role (f ∷ below) place h = at_read f below role place f.tasks refl h

module _ (p : Program) (w : World) (heap : HeapFits p w.heap) (a : Account p w) where
  write_holds : (i : ℕ) → i < w.count → (place : Location) → StandsAtWrite (w.threads i).frames place
      → HoldsAt (all_of (a.owners.runs i)) place whole
  write_holds i l place s = go (a.owners.runs i)
      (subst (λ fs. AreRunsOf p w.committed w.heap fs (a.owners.runs i)) s.top (a.threads.frames i l))
    where
      go : (rs : List account.Run) → AreRunsOf p w.committed w.heap (s.frame ∷ s.below) rs → HoldsAt (all_of rs) place whole
      go [] fits = absurd fits
      go (r ∷ rs) fits =
          let h = writes_go p s.frame r s.spot s.span s.rest
          (subst (λ ts. NeverOn p w.committed w.heap r r.inner ts s.frame.values) s.tasks fits.0.never) in
          record {
            resource = h.resource;
            stands = h.stands ∙ ap Some s.stands;
            much = let m = h.much in omega (arith, m);
          }

  read_holds : (i : ℕ) → i < w.count → (place : Location) → StandsAtRead (w.threads i).frames place
      → HoldsAt (all_of (a.owners.runs i)) place 1
  read_holds i l place s = go (a.owners.runs i)
      (subst (λ fs. AreRunsOf p w.committed w.heap fs (a.owners.runs i)) s.top (a.threads.frames i l))
    where
      go : (rs : List account.Run) → AreRunsOf p w.committed w.heap (s.frame ∷ s.below) rs → HoldsAt (all_of rs) place 1
      go [] fits = absurd fits
      go (r ∷ rs) fits =
          let h = reads_hold p w s.frame r fits.0 s.spot s.span s.rest
          (subst (λ ts. NeverOn p w.committed w.heap r r.inner ts s.frame.values) s.tasks fits.0.never) in
          record {
            resource = h.resource;
            stands = h.stands ∙ ap Some s.stands;
            much = let m = h.much in omega (arith, m);
          }

  live : (i : ℕ) (x : Label) → next (w.threads i) ≡ Some x → i < w.count
  live i x h = a.threads.live i (go (w.threads i).frames h)
    where
      go : (fs : List Frame) → label_of_frames (w.threads i).role fs ≡ Some x → has_no_frame fs ≡ false
      go [] h = absurd (none-some x h)
      go (f ∷ fs) h = refl

  -- two threads don't hold more than the whole of a place
  too_much : (i j : ℕ) → i < w.count → j < w.count → i ≢ j → (place : Location) (least : ℕ) → 1 ≤ least
      → HoldsAt (all_of (a.owners.runs i)) place whole → HoldsAt (all_of (a.owners.runs j)) place least → ⊥
  too_much i j l m differ place least some x y =
      let much = x.much in
      let more = y.much in
      let one = part_of (λ k. at_thread a.owners k x.resource) w.count i l in
      let two = part_of (λ k. at_thread a.owners k y.resource) w.count j m in
      let same : y.resource ≡ x.resource = one_resource w.heap heap.now.no_elements y.resource x.resource place
      (a.sums.placed y.resource (omega (arith, two, more, some)))
      (a.sums.placed x.resource (omega (arith, one, much))) y.stands x.stands in
      let both = parts_of (λ k. at_thread a.owners k x.resource) w.count i j l m (apart (nat_eq j i) refl) in
      let most = a.sums.most x.resource in
      let here = ap (λ q. all_of (a.owners.runs j) q) same in
      omega (arith, both, most, here, much, more, some)
    where
      apart : (b : Bool) → nat_eq j i ≡ b → nat_eq j i ≡ false
      apart false e = e
      apart true e = absurd (differ (sym (naturals_same j i e)))

pub no_race : NoRace
no_race p w heap a race = go race.touches
  where
    inside : race.writer < w.count
    inside = live p w heap a race.writer (Label.Write race.location race.writes.0) race.writes.1

    writes : HoldsAt (all_of (a.owners.runs race.writer)) race.location whole
    writes = write_holds p w heap a race.writer inside race.location
        (write_stands (w.threads race.writer).role (w.threads race.writer).frames race.location race.writes.0 race.writes.1)

    go : Writes (next (w.threads race.other)) race.location ⊎ Reads (next (w.threads race.other)) race.location → ⊥
    go (inl other) =
        let l = live p w heap a race.other (Label.Write race.location other.0) other.1 in
        too_much p w heap a race.writer race.other inside l race.differ race.location whole (omega arith) writes
        (write_holds p w heap a race.other l race.location
        (write_stands (w.threads race.other).role (w.threads race.other).frames race.location other.0 other.1))
    go (inr other) =
        let l = live p w heap a race.other (Label.Read race.location) other in
        too_much p w heap a race.writer race.other inside l race.differ race.location 1 (omega arith) writes
        (read_holds p w heap a race.other l race.location
        (read_stands (w.threads race.other).role (w.threads race.other).frames race.location other))
