-- A state with more of some resources, whose values stand in the heap, knows what it knew; and amounts of one location and of one
-- range, and tokens, can be gained.
use Rattle.std.proofs.Common.{◌≡◌, ℕ, zero, suc, ◌+◌, ◌≤◌, ◌<◌, Bool, true, false, if◌then◌else◌, Option, Some, None, IsSome, List, [], refl, ap, sym, subst, ◌∙◌, arith}
use Rattle.std.specs.Prelude.{nat_eq, nat_le, option_map}
use Rattle.std.proofs.lemmas.Option.{same_Some, none-some}
use Rattle.pv_base.specs.declared.Name.{Name}
use Rattle.pv_ast.specs.declared.PvType.{PvType}
use Rattle.pv_values.specs.declared.value.Value.{Value}
use Rattle.pv_values.specs.declared.value.Value.TheVariants as value
use Rattle.pv_fraction.specs.Amounts.{whole}
use Rattle.pv_picks.specs.declared.evidence.Pick.{Pick}
use Rattle.pv_picks.specs.Formulas.Heaps.{Heap}
use Rattle.pv_picks.specs.Formulas.Meeting.{Sight}
use Rattle.pv_picks.specs.Judge.States.{Resource, Cell, Written, Cells, Holding, State, scene_of, cells_of, amount_of, amount_held, cell_held, holding, at_resource, same_resource}
use Rattle.pv_picks.specs.Judge.Settings.{Next}
use Rattle.pv_picks.specs.Judge.Permissions.{gain, gain_on, add_whole}
use Rattle.pv_picks.specs.Judge.Runs.{Judged, Maps, content}
use Rattle.pv_picks.specs.Typing.Heaps.{IsUnused}
use Rattle.pv_picks.specs.Typing.Frames.{HasType}
use Rattle.pv_picks.proofs.Sames.{resources_same}
use Rattle.account_formulas.specs.Sights.{Contents, Stands, ContentsAgree, LengthsAgree, Sees}
use Rattle.account_formulas.specs.Runs.{Taken, all_maps, truly, RestNeverFails, AreSettled, contents_of, GoesOnTo}
use Rattle.account_formulas.specs.Owning.{IsPlaced}
use Rattle.account_formulas.specs.Growing.{AllBelow, IsHeld, StateFits, IsPicked}
use Rattle.account_formulas.proofs.Basics.{only, is_at_most}
use Rattle.account_formulas.proofs.Lengths.{goes_on_same}
use Rattle.account_formulas.proofs.Exhaling.{holding_is, amounts_at}
use Rattle.account_formulas.proofs.Picking.{picking}

-- What a state holds is settled

pub settled_of : (flags : ℕ → Bool) (present : Heap) (taken : Taken) (t : State) → StateFits flags present taken t
    → AreSettled taken (cells_of t) (contents_of taken (cells_of t))
settled_of flags present taken t fine picks r = go (t.held r) refl
  where
    go : (o : Option Holding) → t.held r ≡ o
        → option_map (content (all_maps taken picks)) (option_map (λ h. h.cell) o)
        ≡ option_map (content (all_maps taken [])) (option_map (λ h. h.cell) o)
    go None at = refl
    go (Some h) at = let is = fine.holds r h at in ap Some (is.settled picks ∙ sym (is.settled []))

pub contents_fine : (flags : ℕ → Bool) (present : Heap) (taken : Taken) (t : State) → StateFits flags present taken t
    → ContentsAgree present (contents_of taken (cells_of t))
contents_fine flags present taken t fine r v is = go (t.held r) refl is
  where
    go : (o : Option Holding) → t.held r ≡ o → option_map (content (all_maps taken [])) (option_map (λ h. h.cell) o) ≡ Some v
        → Stands present r v
    go None at e = absurd (none-some v e)
    go (Some h) at e =
        let is = fine.holds r h at in subst (Stands present r)
        (sym (is.settled []) ∙ same_Some (content (all_maps taken []) h.cell) v e) is.stands

-- what is held in an amount is held
pub placed_of : (flags : ℕ → Bool) (present : Heap) (taken : Taken) (t : State) → StateFits flags present taken t → (r : Resource)
    → 1 ≤ amount_of t r → IsPlaced present r
placed_of flags present taken t fine r more = go (t.held r) refl more
  where
    go : (o : Option Holding) → t.held r ≡ o → 1 ≤ amount_held o → IsPlaced present r
    go None at m = absurd (omega (arith, m))
    go (Some h) at m = (fine.holds r h at).placed

pub settled_on : (before after : Taken) → GoesOnTo before after → (cells : Cells) (known : Contents)
    → AreSettled before cells known → AreSettled after cells known
settled_on before after goes cells known settled picks r =
    let g = goes picks in ap (λ m. option_map (content m) (cells r)) g.1 ∙ settled g.0 r

pub held_on : (present : Heap) (before after : Taken) → GoesOnTo before after → (r : Resource) (h k : Holding)
    → IsHeld before present r h → k.cell ≡ h.cell → 1 ≤ k.amount
    → IsHeld after present r k
held_on present before after goes r h k is same some = record {
  some = some;
  placed = is.placed;
  value = is.value;
  settled =
      λ picks. let g = goes picks in ap (content (all_maps after picks)) same ∙ ap (λ m. content m h.cell) g.1 ∙ is.settled g.0;
  stands = is.stands;
}

pub sees_less : (present : Heap) (here more old : Contents) (sight : Sight)
    → ((r : Resource) (v : Value) → here r ≡ Some v → more r ≡ Some v) → Sees present more old sight
    → Sees present here old sight
sees_less present here more old sight grows s =
    record {
      now = λ r v is. s.now r v (grows r v is);
      before = s.before;
      now_lengths = s.now_lengths;
      old_lengths = s.old_lengths;
    }

-- a state that knows all that another one knew
pub record Raised (flags : ℕ → Bool) (present : Heap) (before : Taken) (t : State) (taken : Taken) (after : State) : Type 0 where
  pub fine : StateFits flags present taken after
  pub grows : (r : Resource) (v : Value) → contents_of before (cells_of t) r ≡ Some v → contents_of taken (cells_of after) r
      ≡ Some v

pub raised : (flags : ℕ → Bool) (present : Heap) (before : Taken) (t : State) (taken : Taken) (after : State)
    → StateFits flags present before t → GoesOnTo before taken
    → after.steps ≡ taken.steps → LengthsAgree present after.lengths
    → ((class : Name) (object : ℕ) → after.committed class object ≡ true → flags object ≡ true) → AllBelow present.count after.met
    → ((r : Resource) (k : Holding) → after.held r ≡ Some k → IsHeld taken present r k)
    → ((r : Resource) (h : Holding) → t.held r ≡ Some h → (k : Holding) × (after.held r ≡ Some k) × (k.cell ≡ h.cell))
    → Raised flags present before t taken after
raised flags present before t taken after fine goes steps agree knows met holds kept = record {
  fine = record { steps = steps; agree = agree; holds = holds; knows = knows; met = met };
  grows = λ r v is. go r v (t.held r) refl is;
}
  where
    go : (r : Resource) (v : Value) (o : Option Holding) → t.held r ≡ o
        → option_map (content (all_maps before [])) (option_map (λ h. h.cell) o) ≡ Some v
        → option_map (content (all_maps taken [])) (option_map (λ h. h.cell) (after.held r)) ≡ Some v
    go r v None at e = absurd (none-some v e)
    go r v (Some h) at e =
        let k = kept r h at in
        let is = fine.holds r h at in
        let g = goes [] in
        ap (λ o. option_map (content (all_maps taken [])) (option_map (λ h. h.cell) o)) k.1
        ∙ ap Some (ap (content (all_maps taken [])) k.2 ∙ ap (λ m. content m h.cell) g.1 ∙ is.settled g.0 ∙ sym (is.settled []))
        ∙ e

pub some_of : {A : Type 0} (o : Option A) → IsSome o → (x : A) × (o ≡ Some x)
some_of None is = absurd (cc is)
some_of (Some x) is = (x, refl)

pub holding_some : (n : ℕ) (c : Cell) → 1 ≤ n → holding n c ≡ Some (record { amount = n; cell = c })
holding_some zero c h = absurd (omega (arith, h))
holding_some (suc n) c h = refl

-- One resource more

-- another amount of one resource, with references met
abbrev pub put_at : State → Resource → ℕ → Cell → List (PvType × ℕ) → State
put_at t r n c met = record t { met = met; held = at_resource r (holding n c) t.held }

put_goes : (flags : ℕ → Bool) (present : Heap) (taken : Taken) (t : State) → StateFits flags present taken t
    → (r : Resource) (n : ℕ) (c : Cell) (v : Value) → 1 ≤ n
    → IsPlaced present r → ((picks : List Pick) → content (all_maps taken picks) c ≡ v) → Stands present r v
    → ((h : Holding) → t.held r ≡ Some h → c ≡ h.cell) → (met : List (PvType × ℕ)) → AllBelow present.count met
    → Raised flags present taken t taken (put_at t r n c met)
put_goes flags present taken t fine r n c v some placed settled stands was met below =
    raised flags present taken t taken (put_at t r n c met) fine (goes_on_same taken) fine.steps fine.agree fine.knows below
    (λ q k is. holds q k (same_resource q r) refl is) (λ q h is. kept q h (same_resource q r) refl is)
  where
    holds : (q : Resource) (k : Holding) (b : Bool) → same_resource q r ≡ b → (if b then holding n c else t.held q) ≡ Some k
        → IsHeld taken present q k
    holds q k true e is =
        let at = holding_is n c k is in
        subst (λ x. IsHeld taken present x k) (sym (resources_same q r e)) (record {
          some = at.0;
          placed = placed;
          value = v;
          settled = λ picks. ap (content (all_maps taken picks)) (sym at.1) ∙ settled picks;
          stands = stands;
        })
    holds q k false e is = fine.holds q k is

    kept : (q : Resource) (h : Holding) (b : Bool) → same_resource q r ≡ b → t.held q ≡ Some h
        → (k : Holding) × ((if b then holding n c else t.held q) ≡ Some k) × (k.cell ≡ h.cell)
    kept q h true e is = (
      record { amount = n; cell = c },
      holding_some n c some,
      was h (ap t.held (sym (resources_same q r e)) ∙ is),
    )
    kept q h false e is = (h, is, refl)

pub record GainedOne (flags : ℕ → Bool) (present : Heap) (taken : Taken) (t : State) (r : Resource) (a : ℕ)
    (next : Maps → Next Judged) : Type 0 where
  pub after : State
  pub never : RestNeverFails taken (λ maps. next maps after)
  pub scene : scene_of after ≡ scene_of t
  pub kept : after.old ≡ t.old
  pub raised : Raised flags present taken t taken after
  pub instances : after.instances ≡ t.instances
  pub sum : (q : Resource) → amount_of after q ≤ amount_of t q + only r a q

put_gains : (flags : ℕ → Bool) (present : Heap) (taken : Taken) (t : State) (r : Resource) (a n : ℕ) (c : Cell)
    (met : List (PvType × ℕ)) (next : Maps → Next Judged)
    → n ≤ amount_of t r + a → Raised flags present taken t taken (put_at t r n c met)
    → RestNeverFails taken (λ maps. next maps (put_at t r n c met))
    → GainedOne flags present taken t r a next
put_gains flags present taken t r a n c met next most more never = record {
  after = put_at t r n c met;
  never = never;
  scene = refl;
  kept = refl;
  raised = more;
  instances = refl;
  sum = λ q. let now = amounts_at t.held r n c q in let s = by q (same_resource q r) refl in omega (arith, now, s);
}
  where
    by : (q : Resource) (b : Bool) → same_resource q r ≡ b
        → (if b then n else amount_of t q) ≤ amount_of t q + (if b then a else 0)
    by q true k = let same = ap (amount_of t) (resources_same q r k) in omega (arith, same, most)
    by q false k = omega arith

-- what is in a resource of which so much is held
cell_there : (o : Option Holding) → 1 ≤ amount_held o → (h : Holding) × (o ≡ Some h) × (cell_held o ≡ h.cell)
cell_there None m = absurd (omega (arith, m))
cell_there (Some h) m = (h, refl, refl)

nothing_there : (flags : ℕ → Bool) (present : Heap) (taken : Taken) (t : State) → StateFits flags present taken t
    → (r : Resource) (h : Holding) → amount_of t r ≡ 0 → t.held r ≡ Some h → ⊥
nothing_there flags present taken t fine r h empty at =
    let is = fine.holds r h at in let some = is.some in let none = ap amount_held (sym at) ∙ empty in omega (arith, some, none)

module _ (flags : ℕ → Bool) (present : Heap) (beyond : (n : ℕ) → present.count < n → IsUnused present n) where
  pub gain_goes : (taken : Taken) (type : PvType) (r : Resource) (a : ℕ) (next : Maps → Next Judged) (t : State) (x : Value)
      → StateFits flags present taken t
      → IsPlaced present r → Stands present r x → HasType present type x → IsPicked type → amount_of t r + a ≤ whole → 1 ≤ a
      → RestNeverFails taken (λ maps. gain (truly maps) type r a (next maps) t) → GainedOne flags present taken t r a next
  gain_goes taken type r a next t x fine placed stands typed picked fits some never =
      go (nat_le (amount_of t r + a) whole) (is_at_most (amount_of t r + a) whole fits) never
    where
      new : (empty : amount_of t r ≡ 0) (met : List (PvType × ℕ)) → AllBelow present.count met
          → RestNeverFails taken (λ maps. next maps (put_at t r a (Written x) met))
          → GainedOne flags present taken t r a next
      new empty met below n = put_gains flags present taken t r a a (Written x) met next (omega arith)
          (put_goes flags present taken t fine r a (Written x) x some placed (λ picks. refl) stands
          (λ h at. absurd (nothing_there flags present taken t fine r h empty at)) met below) n

      more : (k : ℕ) → amount_of t r ≡ suc k → RestNeverFails taken (λ maps. next maps
          (put_at t r (suc k + a) (cell_held (t.held r)) t.met)) → GainedOne flags present taken t r a next
      more k e n =
          let there = cell_there (t.held r) (omega (arith, e)) in
          let is = fine.holds r there.0 there.1 in
          put_gains flags present taken t r a (suc k + a) (cell_held (t.held r)) t.met next (omega (arith, e))
          (put_goes flags present taken t fine r (suc k + a) (cell_held (t.held r)) is.value (omega arith) placed
          (λ picks. ap (content (all_maps taken picks)) there.2 ∙ is.settled picks) is.stands
          (λ h at. ap cell_held at) t.met fine.met) n

      on : (n : ℕ) → amount_of t r ≡ n → RestNeverFails taken (λ maps. gain_on (truly maps) n type r a (next maps) t)
          → GainedOne flags present taken t r a next
      on zero e n =
          picking taken present beyond type x typed picked (λ maps v later. next maps (put_at later r a (Written v) later.met)) t
          (GainedOne flags present taken t r a next) (λ met b m. new e met (b fine.met) m) n
      on (suc k) e n = more k e n

      go : (b : Bool) → b ≡ true → RestNeverFails taken (λ maps. if b then gain_on (truly maps) (amount_of t r) type r a
          (next maps) t else (truly maps).blocked)
          → GainedOne flags present taken t r a next
      go true e n = on (amount_of t r) refl n
      go false e n = absurd (cc e)

  -- a token that isn't there yet
  pub add_goes : (taken : Taken) (r : Resource) (next : Maps → Next Judged) (t : State) → StateFits flags present taken t
      → IsPlaced present r → ((x : Value) → Stands present r x)
      → amount_of t r ≡ 0 → RestNeverFails taken (λ maps. add_whole (truly maps) r (next maps) t)
      → GainedOne flags present taken t r whole next
  add_goes taken r next t fine placed stands empty never = go (nat_eq (amount_of t r) 0) (ap (λ n. nat_eq n 0) empty) never
    where
      what : (o : Option Holding) → t.held r ≡ o → (v : Value)
          × ((picks : List Pick) → content (all_maps taken picks) (cell_held o) ≡ v)
      what None at = (value.Reference 0, λ picks. refl)
      what (Some h) at = let is = fine.holds r h at in (is.value, is.settled)

      go : (b : Bool) → b ≡ true
          → RestNeverFails taken (λ maps. if b then next maps (put_at t r whole (cell_held (t.held r)) t.met) else
          (truly maps).blocked)
          → GainedOne flags present taken t r whole next
      go false e n = absurd (cc e)
      go true e n =
          let w = what (t.held r) refl in
          put_gains flags present taken t r whole whole (cell_held (t.held r)) t.met next (omega arith)
          (put_goes flags present taken t fine r whole (cell_held (t.held r)) w.0 (omega arith) placed w.1 (stands w.0)
          (λ h at. ap cell_held at) t.met fine.met) n
