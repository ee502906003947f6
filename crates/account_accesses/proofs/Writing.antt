-- The label of a write: the thread holds the whole of the place, so nobody else has anything of it.
use Rattle.std.proofs.Common.{◌≡◌, ℕ, zero, suc, ◌+◌, ◌≤◌, ◌<◌, Bool, true, false, if◌then◌else◌, Option, Some, None, IsSome, List, [], ◌∷◌, refl, ap, sym, subst, ◌∙◌, arith}
use Rattle.std.specs.Prelude.{nat_eq, nat_le, drop, is_some}
use Rattle.pv_base.specs.declared.Span.{Span}
use Rattle.pv_ast.specs.declared.PvType.{PvType}
use Rattle.pv_ast.specs.declared.PvType.TheVariants.{Int, Object}
use Rattle.pv_fraction.specs.Amounts.{whole}
use Rattle.pv_values.specs.declared.value.Value.{Value}
use Rattle.pv_values.specs.declared.value.Value.TheVariants as value
use Rattle.pv_values.specs.declared.value.Location.{Location}
use Rattle.pv_values.specs.declared.value.Location.TheVariants as location
use Rattle.pv_values.specs.Changes.{owner_of}
use Rattle.pv_picks.specs.declared.check.Check.TheVariants as check
use Rattle.pv_picks.specs.Plain.Core.{Program}
use Rattle.pv_picks.specs.Formulas.Values.{number_in, reference_in}
use Rattle.pv_picks.specs.Formulas.Heaps.{Heap, written}
use Rattle.pv_picks.specs.Judge.States.{Resource, InField, InElement, Holding, amount_held, amount_of, holding, plain_cell, same_resource, with_value}
use Rattle.pv_picks.specs.Machine.Starts.{field_kind, kind_of}
use Rattle.pv_picks.specs.Machine.Tasks.{Spot, FieldOf, ElementOf, AtWrite, Task, Stand}
use Rattle.pv_picks.specs.Machine.Frames.{Frame, top, second, settled, location_on, breadth, pops, body_scene}
use Rattle.pv_picks.specs.Machine.Worlds.{World, label_of_frames, label_of_frame, with_frames, with_heap}
use Rattle.pv_picks.specs.Machine.Steps.{needs, not_null, write}
use Rattle.pv_picks.specs.Judge.Runs.{content}
use Rattle.pv_picks.specs.Typing.Heaps.{FitsAt, KeepsKinds}
use Rattle.pv_picks.proofs.Sames.{resources_same}
use Rattle.pv_picks.specs.Typing.Tasks.{writes_field, writes_element}
use Rattle.pv_picks.specs.Typing.Frames as typed
use Rattle.pv_picks.specs.Typing.Frames.{HasType}
use Rattle.machine_laws.proofs.Local.{rest-fits, two-fit, drop-one}
use Rattle.machine_laws.proofs.Labels.{next-fits}
use Rattle.account_formulas.specs.Sights.{Stands}
use Rattle.account_formulas.specs.Runs.{truly, all_maps, RestNeverFails}
use Rattle.account_formulas.specs.Owning.{Amounts, IsPlaced, KeepsHeld}
use Rattle.account_formulas.specs.Growing.{IsHeld, StateFits}
use Rattle.account_formulas.proofs.Basics.{at_most, same_self}
use Rattle.account_formulas.proofs.Exhaling.{holding_is, amount_holding}
use Rattle.account.specs.Running.{ran}
use Rattle.account.specs.Scoped.{TasksSay, FrameSays, stands}
use Rattle.account.specs.Messages.{TasksExchange}
use Rattle.account.specs.Frames as account
use Rattle.account.specs.Frames.{amounts_of, outer_of, all_of, standing_in, opened, called_of, AllWait, IsRunOf}
use Rattle.account.specs.Owners.{total}
use Rattle.account.specs.Accounts.{Account, Kept}
use Rattle.account.proofs.Sums.{runs_in_total}
use Rattle.account.proofs.Working.{NeverOn, TurnsAround, frame_says}
use Rattle.account_accesses.specs.Standing.{StandsAt}
use Rattle.account_accesses.specs.Supports.{Supports}
use Rattle.account_accesses.specs.Statements.{WriteKeeps}
use Rattle.account.proofs.Later.{Grown, held_later, trees_later, body_later, old_later, turns_later, stack_later, below_later}
use Rattle.account_accesses.proofs.Acting.{acts, steps_on}
use Rattle.account.proofs.Stepping.{is_not_null}
use Rattle.account_accesses.proofs.Reading.{tested, fails, length_known}
use Rattle.account_accesses.proofs.Places.{location_of, one_resource, value_there, stands_written, written_keeps, written_grown, written_fits}

pub second_is : (values : List Value) → top (drop 1 values) ≡ second values
second_is [] = refl
second_is (x ∷ []) = refl
second_is (x ∷ y ∷ rest) = refl

pub third_is : (values : List Value) → second (drop 1 values) ≡ top (drop 2 values)
third_is [] = refl
third_is (x ∷ []) = refl
third_is (x ∷ y ∷ []) = refl
third_is (x ∷ y ∷ z ∷ rest) = refl

-- what a write comes to
pub record WriteGoes (p : Program) (f : Frame) (r : account.Run) (spot : Spot) (rest : List Task) : Type 0 where
  pub resource : Resource
  pub stands : location_of resource ≡ Some (location_on spot (drop 1 f.values))
  pub much : whole ≤ amount_of r.state resource
  pub owner : not_null (owner_of (location_on spot (drop 1 f.values))) ≡ true
  pub never : RestNeverFails r.taken (λ maps. ran (truly maps) p r.body false rest (drop (suc (breadth spot)) f.values)
      (with_value r.state resource (top f.values)))

pub writes_go : (p : Program) (f : Frame) (r : account.Run) (spot : Spot) (span : Span) (rest : List Task)
    → RestNeverFails r.taken (λ maps. ran (truly maps) p r.body r.inner (Stand (AtWrite spot span) ∷ rest) f.values r.state)
    → WriteGoes p f r spot rest
writes_go p f r (FieldOf class name) span rest never =
    tested r.taken (nat_eq (reference_in (second f.values)) 0) _ _ _ never (λ e n. absurd (fails r.taken check.Null span n))
    (λ full n. tested r.taken (nat_le whole (amount_of r.state (InField class (reference_in (second f.values)) name))) _ _ _ n
    (λ e n. record {
      resource = InField class (reference_in (second f.values)) name;
      stands = ap (λ v. Some (location.Field (reference_in v) name)) (sym (second_is f.values));
      much = at_most whole _ e;
      owner = subst (λ v. not_null (reference_in v) ≡ true) (sym (second_is f.values))
          (is_not_null (reference_in (second f.values)) full);
      never = n;
    })
    (λ e n. absurd (fails r.taken check.WritePermission span n)))
writes_go p f r (ElementOf type) span rest never =
    tested r.taken (nat_eq (reference_in (top (drop 2 f.values))) 0) _ _ _ never (λ e n. absurd (fails r.taken check.Null span n))
    (λ full n. length_known r.taken r.state type (reference_in (top (drop 2 f.values))) (number_in (second f.values)) span _ _ n
    (λ n. tested r.taken
    (nat_le whole (amount_of r.state (InElement type (reference_in (top (drop 2 f.values))) (number_in (second f.values)))))
    _ _ _ n
    (λ e n. record {
      resource = InElement type (reference_in (top (drop 2 f.values))) (number_in (second f.values));
      stands = ap (λ v. Some (location.Cell (reference_in v) (number_in (second f.values)))) (sym (third_is f.values))
          ∙ ap (λ v. Some (location.Cell (reference_in (second (drop 1 f.values))) (number_in v))) (sym (second_is f.values));
      much = at_most whole _ e;
      owner = subst (λ v. not_null (reference_in v) ≡ true) (sym (third_is f.values))
          (is_not_null (reference_in (top (drop 2 f.values))) full);
      never = n;
    })
    (λ e n. absurd (fails r.taken check.WritePermission span n))))

-- types behind a write
record WriteSays (p : Program) (present : Heap) (f : Frame) (r : account.Run) (spot : Spot) (rest : List Task) : Type 0 where
  pub stack : List PvType
  pub says : TasksSay (standing_in p f.class r.body r.outer) false r.scope r.given stack rest
  pub values : typed.ValuesFit present stack (drop (suc (breadth spot)) f.values)

writes_say : (p : Program) (present : Heap) (f : Frame) (r : account.Run) (spot : Spot) (span : Span) (rest : List Task)
    (stack : List PvType) → typed.ValuesFit present stack f.values
    → TasksSay (standing_in p f.class r.body r.outer) r.inner r.scope r.given stack (Stand (AtWrite spot span) ∷ rest)
    → WriteSays p present f r spot rest
writes_say p present f r (FieldOf class name) span rest stack have (stands after (writes_field {stack = under} {type = type} is)
    speaks says) =
    record { stack = under; says = says; values = two-fit present type (Object class) under f.values have }
writes_say p present f r (ElementOf element) span rest stack have (stands after
    (writes_element {stack = under} {array = array} is kind) speaks says) =
    record {
      stack = under;
      says = says;
      values = subst (λ us. typed.ValuesFit present under us) (drop-one 2 f.values)
          (rest-fits present array under (drop 2 f.values) (two-fit present element Int (array ∷ under) f.values have));
    }

module _ (p : Program) (w : World) (support : Supports p w) (a : Account p w) (i : ℕ) (inside : i < w.count) (f : Frame)
    (below : List Frame) (r : account.Run) (rs : List account.Run) (had : a.owners.runs i ≡ r ∷ rs)
    (fits : IsRunOf p w.committed w.heap f r) (waits : AllWait p w.committed w.heap (called_of f r) below rs)
    (spot : Spot) (span : Span) (rest : List Task) (at : StandsAt w i (AtWrite spot span) f below rest)
    (g : WriteGoes p f r spot rest) where
  abbrev place : Location
  place = location_on spot (drop 1 f.values)

  abbrev new : Value
  new = top f.values

  abbrev later : Heap
  later = written w.heap place new

  abbrev behind : Frame
  behind = pops (suc (breadth spot)) f rest

  -- the place is held
  holding_there : (o : Option Holding) → r.state.held g.resource ≡ o → whole ≤ amount_held o → (u : Value)
      × (w.heap.value place ≡ Some u)
  holding_there None e much = absurd (omega (arith, much))
  holding_there (Some h) e much =
      let held = fits.state.fits.holds g.resource h e in
      (held.value, value_there w.heap place new g.resource held.value g.stands held.stands)

  there : (u : Value) × (w.heap.value place ≡ Some u)
  there = holding_there (r.state.held g.resource) refl g.much

  fits_there : FitsAt (field_kind p) w.heap place new
  fits_there =
      subst (λ ts. KeepsKinds (field_kind p) w.heap (label_of_frame (w.threads i).role f ts below)) at.tasks
      (subst (λ fs. KeepsKinds (field_kind p) w.heap (label_of_frames (w.threads i).role fs)) at.frames
      (next-fits p w support.typed i))

  is_there : IsSome (w.heap.value place)
  is_there = ap is_some there.1

  grown : Grown w.heap later
  grown = written_grown p w.heap place new support.typed.heap is_there fits_there

  abbrev all : Amounts
  all q = total a.owners w.count (suc w.heap.count) q

  mine : (q : Resource) → amounts_of r q + all_of rs q ≤ all q
  mine q =
      let one = runs_in_total a.owners w.count (suc w.heap.count) q i inside in
      let same = ap (λ x. all_of x q) had in omega (arith, one, same)

  -- who owns beside the whole has nothing of the place
  none_there : (B : Amounts) → ((q : Resource) → B q ≤ all q) → B g.resource + whole ≤ all g.resource → (q : Resource)
      → location_of q ≡ Some place → B q ≡ 0
  none_there B less apart q is = go (B q) refl
    where
      go : (n : ℕ) → B q ≡ n → n ≡ 0
      go zero h = refl
      go (suc n) h =
          let k = less q in
          let t = a.sums.most g.resource in
          let same : q ≡ g.resource = one_resource w.heap support.heap.now.no_elements q g.resource place
          (a.sums.placed q (omega (arith, h, k))) (a.sums.placed g.resource (omega (arith, apart))) is g.stands in
          let here = ap B same in absurd (omega (arith, here, h, apart, t))

  keeps_beside : (B : Amounts) → ((q : Resource) → B q ≤ all q) → B g.resource + whole ≤ all g.resource
      → KeepsHeld B w.heap later
  keeps_beside B less apart =
      written_keeps w.heap place new (λ type array h. grown.keeps (Some (kind_of type)) (value.Reference array) h) B
      (none_there B less apart)

  keeps_trees : KeepsHeld r.trees w.heap later
  keeps_trees = keeps_beside r.trees (λ q. let k = mine q in omega (arith, k))
      (let k = mine g.resource in let n = g.much in omega (arith, k, n))

  keeps_outer : KeepsHeld (outer_of r.outer) w.heap later
  keeps_outer = keeps_beside (outer_of r.outer) (λ q. let k = mine q in omega (arith, k))
      (let k = mine g.resource in let n = g.much in omega (arith, k, n))

  keeps_below : KeepsHeld (all_of rs) w.heap later
  keeps_below = keeps_beside (all_of rs) (λ q. let k = mine q in omega (arith, k))
      (let k = mine g.resource in let n = g.much in omega (arith, k, n))

  -- what else the run holds
  abbrev others : Amounts
  others q = if same_resource q g.resource then 0 else amount_of r.state q

  others_less : (q : Resource) (b : Bool) → (if b then 0 else amount_of r.state q) ≤ amounts_of r q
  others_less q true = omega arith
  others_less q false = omega arith

  keeps_others : KeepsHeld others w.heap later
  keeps_others = keeps_beside others
      (λ q. let k = mine q in let l = others_less q (same_resource q g.resource) in omega (arith, k, l))
      (let k = mine g.resource in let n = g.much in
      let none = ap (λ b. if b then 0 else amount_of r.state g.resource) (same_self g.resource) in omega (arith, k, n, none))

  -- the state behind the write
  state_written : StateFits w.committed later r.taken (with_value r.state g.resource new)
  state_written = record {
    steps = fits.state.fits.steps;
    agree = fits.state.fits.agree;
    holds = λ q h is. holds q h (same_resource q g.resource) refl is;
    knows = fits.state.fits.knows;
    met = fits.state.fits.met;
  }
    where
      holds : (q : Resource) (h : Holding) (b : Bool) → same_resource q g.resource ≡ b
          → (if b then holding (amount_of r.state g.resource) (plain_cell new) else r.state.held q) ≡ Some h
          → IsHeld r.taken later q h
      holds q h true e is =
          let k = holding_is (amount_of r.state g.resource) (plain_cell new) h is in
          let much = g.much in
          let same = mine g.resource in
          record {
            some = k.0;
            placed = keeps_below.placed q (subst (λ x. IsPlaced w.heap x) (sym (resources_same q g.resource e))
                (a.sums.placed g.resource (omega (arith, much, same))));
            value = new;
            settled = λ picks. ap (λ c. content (all_maps r.taken picks) c) (sym k.1);
            stands = subst (λ x. Stands later x new) (sym (resources_same q g.resource e))
                (stands_written w.heap place new g.resource g.stands);
          }
      holds q h false e is =
          held_later p w.committed w.heap later r.taken others keeps_others q h
          (let one : h.amount ≡ amount_of r.state q = ap amount_held (sym is) in
          let two = ap (λ b. if b then 0 else amount_of r.state q) e in omega (arith, one, two))
          (fits.state.fits.holds q h is)

  says : WriteSays p w.heap f r spot rest
  says = writes_say p w.heap f r spot span rest r.stack fits.typed.values
      (subst (λ ts. FrameSays (standing_in p f.class r.body r.outer) r.inner r.scope r.given r.stack ts) at.tasks fits.tasks)

  abbrev writer : account.Run
  writer = record r { state = with_value r.state g.resource new; inner = false; stack = says.stack }

  is_run : IsRunOf p w.committed later behind writer
  is_run = record {
    state = record {
      fits = state_written;
      this = fits.state.this;
      variables = fits.state.variables;
      result = fits.state.result;
      trees = trees_later p w.committed w.heap later r.state.instances r.trees fits.state.trees keeps_trees;
    };
    old = old_later p w.committed w.heap later grown r.body.speech.old f.old r.past r.taken r.state.old fits.old;
    body = body_later p w.committed w.heap later grown f r.body fits.body;
    typed = record {
      this = grown.keeps (Some (kind_of (Object f.class))) (value.Reference f.this) fits.typed.this;
      variables = λ n t is. grown.keeps (Some (kind_of t)) (f.variables n.0) (fits.typed.variables n t is);
      result = λ given t is. grown.keeps (Some (kind_of t)) f.result (fits.typed.result given t is);
      values = stack_later p w.committed w.heap later grown says.stack (drop (suc (breadth spot)) f.values) says.values;
    };
    tasks = frame_says (standing_in p f.class r.body r.outer) false r.scope r.given says.stack rest says.says;
    outer = turns_later p w.committed w.heap later grown f.class r.body r.past (body_scene f) (opened false rest) r.outer
        keeps_outer
        (subst (λ ts. TurnsAround p w.committed w.heap f r r.inner ts) at.tasks fits.outer);
    never = g.never;
  }

  amount_same : (q : Resource) → amount_of (with_value r.state g.resource new) q ≤ amount_of r.state q
  amount_same q = go (same_resource q g.resource) refl
    where
      go : (b : Bool) → same_resource q g.resource ≡ b
          → amount_held (if b then holding (amount_of r.state g.resource) (plain_cell new) else r.state.held q) ≤ amount_of
          r.state q
      go true e =
          let one = amount_holding (amount_of r.state g.resource) (plain_cell new) in
          let two = ap (λ x. amount_of r.state x) (resources_same q g.resource e) in omega (arith, one, two)
      go false e = omega arith

  pub written_accounted : Account p (with_heap (with_frames w i (settled behind ∷ below)) later)
  written_accounted = steps_on p w a i inside f below at.frames later.value behind (record {
    run = writer;
    old = r;
    others = rs;
    had = had;
    fits = is_run;
    says = says.says;
    waits = below_later p w.committed w.heap later grown (called_of f r) below rs keeps_below waits;
    less = λ q. let k = amount_same q in omega (arith, k);
    still = record { class = refl; method = refl; this = refl; begun = refl; old = refl };
    past = refl;
    body = refl;
    stood = λ block ts is. let t = at.tasks in absurd (cc (is, t));
    messages = λ S R h. (subst (λ ts. TasksExchange S R ts) at.tasks h).1;
    grown = grown;
    keeps = λ B less. keeps_beside B (λ q. let k = less q in omega (arith, k))
        (let k = less g.resource in let n = g.much in omega (arith, k, n));
    heap = written_fits p w.heap place new support.typed.heap is_there fits_there support.heap;
    predicates = support.predicates later
        (written_fits p w.heap place new support.typed.heap is_there fits_there support.heap);
  })

  pub write_goes : Kept p (needs (not_null (owner_of place)) check.Null span
      (write p w i f below (w.heap.value place) place (suc (breadth spot)) span rest))
  write_goes =
      subst (λ b. Kept p (needs b check.Null span
      (write p w i f below (w.heap.value place) place (suc (breadth spot)) span rest))) (sym g.owner)
      (subst (λ o. Kept p (write p w i f below o place (suc (breadth spot)) span rest)) (sym there.1) written_accounted)

pub write_keeps : WriteKeeps
write_keeps spot span p w support a i f below rest at mode = acts p w a i mode (AtWrite spot span) f below rest at
    (λ inside r rs had fits waits. write_goes p w support a i inside f below r rs had fits waits spot span rest at
    (writes_go p f r spot span rest
    (subst (λ ts. NeverOn p w.committed w.heap r r.inner ts f.values) at.tasks fits.never)))
