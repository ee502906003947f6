-- A formula that is given up without failing is met, and what it asks for is moved out of the state.
use Rattle.std.proofs.Common.{◌≡◌, ℕ, zero, suc, ◌+◌, ◌-◌, ◌≤◌, ℤ, pos, Bool, true, false, if◌then◌else◌, Option, Some, None, List, [], ◌∷◌, refl, ap, sym, subst, ◌∙◌, arith}
use Rattle.std.specs.Prelude.{nat_eq, nat_le, int_le, ◌+ℤ◌}
use Rattle.std.proofs.lemmas.Option.{same_Some, none-some}
use Rattle.pv_base.specs.declared.Name.{Name}
use Rattle.pv_base.specs.declared.Span.{Span}
use Rattle.pv_ast.specs.declared.PvType.{PvType}
use Rattle.pv_ast.specs.declared.PvType.TheVariants.{Int, Truth, Object}
use Rattle.pv_ast.specs.declared.Token.{Token}
use Rattle.pv_ast.specs.declared.Token.TheVariants as token
use Rattle.pv_values.specs.declared.value.Value.{Value}
use Rattle.pv_values.specs.declared.value.Value.TheVariants as value
use Rattle.pv_fraction.specs.Amounts.{whole}
use Rattle.pv_picks.specs.declared.check.Check.{Check}
use Rattle.pv_picks.specs.declared.check.Check.TheVariants as check
use Rattle.pv_picks.specs.Plain.Core.{Expression, Formula, Fact, FieldPermission, ElementPermission, Holds, Instance, Star, When, Each, Items, NoItems, Join, Item, Elements, Repeated, Committed, Guarded, Fixed, Cut, Parameter, Predicate, Program}
use Rattle.pv_picks.specs.Plain.Members.{predicate_named}
use Rattle.pv_picks.specs.Formulas.Values.{number_in, truth_in, reference_in, array_of, within, is_empty}
use Rattle.pv_picks.specs.Formulas.Heaps.{Heap}
use Rattle.pv_picks.specs.Formulas.Evaluation.{Scene}
use Rattle.pv_picks.specs.Formulas.Meeting.{Sight, at}
use Rattle.pv_picks.specs.Machine.Starts.{field_kind}
use Rattle.pv_picks.specs.Machine.Frames.{only_now, outer_scene}
use Rattle.pv_picks.specs.Judge.States.{Resource, InField, InElement, OfToken, Folded, Cell, Cells, Holding, State, amount_held, cell_held, holding, same_resource, same_folded, is_among, at_resource, or_kept, without_instance}
use Rattle.pv_picks.specs.Judge.Settings.{Next, no_frame, if_within}
use Rattle.pv_picks.specs.Judge.Permissions.{give, give_range, has_each, or_short, take_token}
use Rattle.pv_picks.specs.Judge.Repetitions.{Range, range_of, shifted, looks_of, arrays_read, notice_parts}
use Rattle.pv_picks.specs.Judge.Exhaling.{Giving, span_or, fails, holds_or_fails, value_from, from_at, exhale_repeated, exhale, exhale_items, exhale_item}
use Rattle.pv_picks.specs.Judge.Runs.{Judged, Maps}
use Rattle.pv_picks.specs.Typing.Frames.{HasType}
use Rattle.pv_picks.specs.Typing.Expressions.{Home, Speech, type_in}
use Rattle.pv_picks.specs.Typing.Blocks.{types_of}
use Rattle.pv_picks.proofs.Sames.{resources_same}
use Rattle.account_formulas.specs.Sights.{Lengths, Contents, LengthsAgree, Sees, ValuesFit, SceneFits, value_at, values_at}
use Rattle.account_formulas.specs.Runs.{Taken, all_maps, truly, RestNeverFails, AreSettled}
use Rattle.account_formulas.specs.Giving.{Holdings, amounts_in, with_left, Leaves, Gave}
use Rattle.account_formulas.specs.Good.{IsGood, AreGoodItems, IsGoodItem}
use Rattle.account_formulas.specs.Owning.{Amounts, IsPlaced, Owns, Owns.fact, Owns.field, Owns.element, Owns.holds, Owns.known, Owns.folded, Owns.star, Owns.when_on, Owns.when_off, Owns.each, OwnsItems, OwnsItems.no_items, OwnsItems.joined, OwnsItem, OwnsItem.nothing, OwnsItem.elements, OwnsItem.repeated, OwnsItem.committed, OwnsItem.cut_off, OwnsItem.cut, OwnsItem.fixed, OwnsItem.beside, HasTrees, is_committed}
use Rattle.account_formulas.proofs.Sames.{folded_same}
use Rattle.account_formulas.proofs.Basics.{among_enough, is_in, not_its_end, only, only_self, changed, less_at, at_most}
use Rattle.account_formulas.proofs.TypedReads.{View}
use Rattle.account_formulas.proofs.Lengths.{never_as, never_number}
use Rattle.account_formulas.proofs.Looking.{arrays_passed, cutting, notice_none}
use Rattle.account_formulas.proofs.Evaluating.{reading, reading_all}

leaves_then : (H K L : Holdings) → Leaves H K → Leaves K L → Leaves H L
leaves_then H K L f g r h is =
    let two = g r h is in
    let one = f r two.0 two.1 in
    (one.0, one.1, one.2 ∙ two.2, λ m. two.3 (one.3 m))

pub amount_holding : (n : ℕ) (c : Cell) → amount_held (holding n c) ≡ n
amount_holding zero c = refl
amount_holding (suc n) c = refl

pub holding_is : (n : ℕ) (c : Cell) (h : Holding) → holding n c ≡ Some h → (1 ≤ h.amount) × (c ≡ h.cell)
holding_is zero c h is = absurd (none-some h is)
holding_is (suc n) c h is =
    let same = same_Some (record { amount = suc n; cell = c }) h is in
    (let e = ap (λ x. x.amount) same in omega (arith, e), ap (λ x. x.cell) same)

-- no more of what was held
lowered : (o : Option Holding) (n : ℕ) → n ≤ amount_held o → (h : Holding) → holding n (cell_held o) ≡ Some h
    → (k : Holding) × (o ≡ Some k) × (k.cell ≡ h.cell) × (1 ≤ k.amount → 1 ≤ h.amount)
lowered None zero less h is = absurd (none-some h is)
lowered None (suc n) less h is = absurd (omega (arith, less))
lowered (Some k) n less h is = let at = holding_is n k.cell h is in (k, refl, at.1, λ m. at.0)

leaves_at : (H : Holdings) (x : Resource) (n : ℕ) → n ≤ amounts_in H x → Leaves H (at_resource x (holding n (cell_held (H x))) H)
leaves_at H x n less r h is = go (same_resource r x) refl is
  where
    go : (b : Bool) → same_resource r x ≡ b → (if b then holding n (cell_held (H x)) else H r) ≡ Some h
        → (k : Holding) × (H r ≡ Some k) × (k.cell ≡ h.cell) × (1 ≤ k.amount → 1 ≤ h.amount)
    go true e is =
        let at = lowered (H x) n less h is in
        (at.0, ap H (resources_same r x e) ∙ at.1, at.2, at.3)
    go false e is = (h, is, refl, λ m. m)

-- the amounts after a change at one resource
pub amounts_at : (H : Holdings) (x : Resource) (n : ℕ) (c : Cell) (q : Resource) → amounts_in (at_resource x (holding n c) H) q
    ≡ at_resource x n (amounts_in H) q
amounts_at H x n c q = go (same_resource q x)
  where
    go : (b : Bool) → amount_held (if b then holding n c else H q) ≡ (if b then n else amounts_in H q)
    go true = amount_holding n c
    go false = refl

-- from nothing but what is known
gave_none : (p : Program) (flags : ℕ → Bool) (present : Heap) (taken : Taken) (Owning : Amounts → Type 0) (s : State)
    (H : Holdings) (I : List Folded) (l : Lengths) (T : Amounts) (next : Maps → Next Judged)
    → HasTrees p flags present I T → LengthsAgree present l → Owning (λ r. 0)
    → RestNeverFails taken (λ maps. next maps (with_left s H I l)) → Gave p flags present taken Owning s H T next
gave_none p flags present taken Owning s H I l T next trees agree owns never = record {
  held = H;
  instances = I;
  lengths = l;
  trees = T;
  part = λ r. 0;
  never = never;
  agree = agree;
  owns = owns;
  has_trees = trees;
  leaves = λ r h is. (h, is, refl, λ m. m);
  less = λ r. omega arith;
  sum = λ r. omega arith;
}

-- an amount of one resource
gave_one : (p : Program) (flags : ℕ → Bool) (present : Heap) (taken : Taken) (Owning : Amounts → Type 0) (s : State)
    (H : Holdings) (I : List Folded) (l : Lengths) (T : Amounts) (next : Maps → Next Judged)
    → (x : Resource) (a : ℕ) (short : Maps → Judged) → HasTrees p flags present I T → LengthsAgree present l
    → (a ≤ amounts_in H x → Owning (only x a)) → (RestNeverFails taken short → ⊥)
    → RestNeverFails taken (λ maps. give (truly maps) x a (short maps) (next maps) (with_left s H I l))
    → Gave p flags present taken Owning s H T next
gave_one p flags present taken Owning s H I l T next x a short trees agree owns fail never =
    go (nat_le a (amounts_in H x)) refl never
  where
    go : (b : Bool) → nat_le a (amounts_in H x) ≡ b
        → RestNeverFails taken (λ maps. if b then next maps
        (with_left s (at_resource x (holding (amounts_in H x - a) (cell_held (H x))) H) I l) else short maps)
        → Gave p flags present taken Owning s H T next
    go false e n = absurd (fail n)
    go true e n = let enough = at_most a (amounts_in H x) e in
        record {
          held = at_resource x (holding (amounts_in H x - a) (cell_held (H x))) H;
          instances = I;
          lengths = l;
          trees = T;
          part = only x a;
          never = n;
          agree = agree;
          owns = owns enough;
          has_trees = trees;
          leaves = leaves_at H x (amounts_in H x - a) (omega (arith, enough));
          less = λ r.
              let now = amounts_at H x (amounts_in H x - a) (cell_held (H x)) r in
              let c = less_at (amounts_in H) x (amounts_in H x - a) (omega (arith, enough)) r in omega (arith, c, now);
          sum = λ r.
              let now = amounts_at H x (amounts_in H x - a) (cell_held (H x)) r in
              let c = changed (amounts_in H) x (amounts_in H x - a) a (omega (arith, enough)) r in omega (arith, c, now);
        }

-- an amount of each element of a range
gave_range : (p : Program) (flags : ℕ → Bool) (present : Heap) (taken : Taken) (Owning : Amounts → Type 0) (s : State)
    (H : Holdings) (I : List Folded) (l : Lengths) (T : Amounts) (next : Maps → Next Judged)
    → (type : PvType) (array : ℕ) (low high : ℤ) (ends : List ℤ) (a : ℕ) (short : Maps → Judged) → HasTrees p flags present I T
    → LengthsAgree present l
    → (((q : Resource) → is_among type array low high q ≡ true → a ≤ amounts_in H q)
    → Owning (λ q. if is_among type array low high q then a else 0)) → (RestNeverFails taken short → ⊥)
    → RestNeverFails taken (λ maps. give_range (truly maps) type array low high ends a (short maps) (next maps)
    (with_left s H I l)) → Gave p flags present taken Owning s H T next
gave_range p flags present taken Owning s H I l T next type array low high ends a short trees agree owns fail never =
    go (has_each (with_left s H I l) type array low high a) refl never
  where
    amounts_now : (b : Bool) (r : Resource) → amount_held (if b then holding (amounts_in H r - a) (cell_held (H r)) else H r)
        ≡ (if b then amounts_in H r - a else amounts_in H r)
    amounts_now true r = amount_holding (amounts_in H r - a) (cell_held (H r))
    amounts_now false r = refl

    left : (b : Bool) (x : ℕ) → (if b then x - a else x) ≤ x
    left true x = omega arith
    left false x = omega arith

    sums : (b : Bool) (x t : ℕ) → (b ≡ true → a ≤ x) → (if b then x - a else x) + t + (if b then a else 0) ≤ x + t
    sums true x t h = let e = h refl in omega (arith, e)
    sums false x t h = omega arith

    stays : (r : Resource) (h : Holding) (b : Bool) → (if b then holding (amounts_in H r - a) (cell_held (H r)) else H r) ≡ Some h
        → (k : Holding) × (H r ≡ Some k) × (k.cell ≡ h.cell) × (1 ≤ k.amount → 1 ≤ h.amount)
    stays r h true is = lowered (H r) (amounts_in H r - a) (omega arith) h is
    stays r h false is = (h, is, refl, λ m. m)

    go : (b : Bool) → has_each (with_left s H I l) type array low high a ≡ b
        → RestNeverFails taken (λ maps. if b
        then next maps (with_left s (λ r. if is_among type array low high r then holding (amounts_in H r - a)
        (cell_held (H r)) else H r) I l) else short maps)
        → Gave p flags present taken Owning s H T next
    go false e n = absurd (fail n)
    go true e n = let enough = among_enough (amounts_in H) type array low high a e in
        record {
          held = λ r. if is_among type array low high r then holding (amounts_in H r - a) (cell_held (H r)) else H r;
          instances = I;
          lengths = l;
          trees = T;
          part = λ q. if is_among type array low high q then a else 0;
          never = n;
          agree = agree;
          owns = owns enough;
          has_trees = trees;
          leaves = λ r h is. stays r h (is_among type array low high r) is;
          less =
              λ r. let now = amounts_now (is_among type array low high r) r in let c =
              left (is_among type array low high r) (amounts_in H r) in omega (arith, c, now);
          sum = λ r.
              let now = amounts_now (is_among type array low high r) r in
              let c = sums (is_among type array low high r) (amounts_in H r) (T r) (enough r) in omega (arith, c, now);
        }

-- one part after another
gave_both : (p : Program) (flags : ℕ → Bool) (present : Heap) (taken : Taken) (One Other Whole : Amounts → Type 0) (s : State)
    (H : Holdings) (T : Amounts) (first next : Maps → Next Judged)
    → ((B C R : Amounts) → One B → Other C → ((r : Resource) → B r + C r ≤ R r) → Whole R)
    → (g : Gave p flags present taken One s H T first) → Gave p flags present taken Other s g.held g.trees next
    → Gave p flags present taken Whole s H T next
gave_both p flags present taken One Other Whole s H T first next combine g k = record {
  held = k.held;
  instances = k.instances;
  lengths = k.lengths;
  trees = k.trees;
  part = λ r. g.part r + k.part r;
  never = k.never;
  agree = k.agree;
  owns = combine g.part k.part (λ r. g.part r + k.part r) g.owns k.owns (λ r. omega arith);
  has_trees = k.has_trees;
  leaves = leaves_then H g.held k.held g.leaves k.leaves;
  less = λ r. let a = g.less r in let b = k.less r in omega (arith, a, b);
  sum = λ r. let a = g.sum r in let b = k.sum r in omega (arith, a, b);
}

-- the same for another formula
gave_as : (p : Program) (flags : ℕ → Bool) (present : Heap) (taken : Taken) (One Other : Amounts → Type 0) (s : State)
    (H : Holdings) (T : Amounts) (next : Maps → Next Judged)
    → ((B : Amounts) → One B → Other B) → Gave p flags present taken One s H T next → Gave p flags present taken Other s H T next
gave_as p flags present taken One Other s H T next f g = record {
  held = g.held;
  instances = g.instances;
  lengths = g.lengths;
  trees = g.trees;
  part = g.part;
  never = g.never;
  agree = g.agree;
  owns = f g.part g.owns;
  has_trees = g.has_trees;
  leaves = g.leaves;
  less = g.less;
  sum = g.sum;
}

-- a scene with a position
pub position_fits : (h : Home) (speech : Speech) (xs : List Parameter) (heap : Heap) (scene : Scene) (name : Name) (i : ℤ)
    → SceneFits h speech xs heap scene
    → SceneFits h speech ((name, Int) ∷ xs) heap (at scene name i)
position_fits h speech xs heap scene name i fits = record {
  this = fits.this;
  variables = λ n t is. go n t (nat_eq n.0 name.0) is;
  result = fits.result;
}
  where
    go : (n : Name) (t : PvType) (b : Bool) → (if b then Some Int else type_in xs n) ≡ Some t
        → HasType heap t (if b then value.Number i else scene.variables n.0)
    go n t true is = subst (λ x. HasType heap x (value.Number i)) (same_Some Int t is) refl
    go n t false is = fits.variables n t is

-- the tree of an instance that is taken
pub record TreeTaken (p : Program) (flags : ℕ → Bool) (present : Heap) (x : Folded) (J : List Folded) (T : Amounts) : Type 0 where
  pub predicate : Predicate
  pub part : Amounts
  pub rest : Amounts
  pub named : predicate_named p x.class x.predicate ≡ Some predicate
  pub owns : Owns p flags (only_now present) (outer_scene x.object predicate.parameters x.arguments) predicate.body part
  pub has_trees : HasTrees p flags present J rest
  pub sum : (r : Resource) → part r + rest r ≤ T r

pub tree_taken : (p : Program) (flags : ℕ → Bool) (present : Heap) (x : Folded) (I J : List Folded) (T : Amounts)
    → HasTrees p flags present I T → without_instance x I ≡ Some J
    → TreeTaken p flags present x J T
tree_taken p flags present x [] J T trees is = absurd (none-some J is)
tree_taken p flags present x (y ∷ I) J T trees is =
    go (λ K t. tree_taken p flags present x I K trees.1 trees.3 t) (same_folded x y) refl is
  where
    kept : (K : List Folded) → TreeTaken p flags present x K trees.1 → y ∷ K ≡ J → TreeTaken p flags present x J T
    kept K t e = subst (λ Z. TreeTaken p flags present x Z T) e (record {
      predicate = t.predicate;
      part = t.part;
      rest = λ r. trees.0 r + t.rest r;
      named = t.named;
      owns = t.owns;
      has_trees = (trees.0, t.rest, trees.2, t.has_trees, λ r. omega arith);
      sum = λ r. let a = t.sum r in let b = trees.4 r in omega (arith, a, b);
    })

    later : ((K : List Folded) → without_instance x I ≡ Some K → TreeTaken p flags present x K trees.1)
        → (o : Option (List Folded)) → without_instance x I ≡ o → or_kept y o ≡ Some J → TreeTaken p flags present x J T
    later f None at e = absurd (none-some J e)
    later f (Some K) at e = kept K (f K at) (same_Some (y ∷ K) J e)

    go : ((K : List Folded) → without_instance x I ≡ Some K → TreeTaken p flags present x K trees.1)
        → (b : Bool) → same_folded x y ≡ b → (if b then Some I else or_kept y (without_instance x I)) ≡ Some J
        → TreeTaken p flags present x J T
    go f true same e =
        subst (λ Z. TreeTaken p flags present x Z T) (same_Some I J e)
        (subst (λ z. TreeTaken p flags present z I T) (sym (folded_same x y same)) (record {
          predicate = trees.2.0;
          part = trees.0;
          rest = trees.1;
          named = trees.2.1;
          owns = trees.2.2 present (record { placed = λ q h. h; kept = λ q v m h. h; lengths = λ a n h. h });
          has_trees = trees.3;
          sum = trees.4;
        }))
    go f false same e = later f (without_instance x I) refl e

module _ (taken : Taken) (h : Home) (speech : Speech) (flags : ℕ → Bool) (present past : Heap)
    (here old : Contents)
    (before_cells old_cells : Cells) (settled : AreSettled taken before_cells here) (settled_old : AreSettled taken old_cells old)
    (sees : Sees present here old (record { now = present; old = past })) (now : ValuesFit (field_kind h.program) present present)
    (before : ValuesFit (field_kind h.program) present past)
    (natural : (array : ℕ) (n : ℤ) → present.length array ≡ Some n → int_le (pos 0) n ≡ true)
    (named : Check) (spot : Option Span) (s : State) (knows : (class : Name) (object : ℕ) → s.committed class object ≡ true
    → flags object ≡ true) where
  abbrev sight : Sight
  sight = record { now = present; old = past }

  abbrev view : View (field_kind h.program) present here old
  view = record { sight = sight; sees = sees; now = now; before = before; natural = natural }

  abbrev from : Scene → Giving
  from scene = record { bind = record { scene = scene; old = old_cells }; before = before_cells; check = named; statement = spot }

  abbrev G : (Amounts → Type 0) → Holdings → Amounts → (Maps → Next Judged) → Type 0
  G Owning A T next = Gave h.program flags present taken Owning s A T next

  fact_gives : (xs : List Parameter) → (scene : Scene) → SceneFits h speech xs present scene → (e : Expression) (span : Span)
      → IsGood h speech xs (Fact e span)
      → (A : Holdings) (I : List Folded) (l : Lengths) (T : Amounts) (next : Maps → Next Judged)
      → HasTrees h.program flags present I T → LengthsAgree present l
      → RestNeverFails taken (λ maps. exhale (truly maps) (from scene) (Fact e span) (next maps) (with_left s A I l))
      → G (Owns h.program flags sight scene (Fact e span)) A T next
  fact_gives xs scene fits e span good A I l T next trees agree never =
      reading taken h speech xs present scene fits here old view old_cells settled_old (with_left s A I l) (λ t. before_cells)
      (λ m. settled) _ _ (λ place m agrees n. absurd (n.never [] check.Frame place refl)) e Truth good _
      (λ v m agrees typed reads n. go v m agrees (reads sight sees) (truth_in v) refl n) l agree never
    where
      go : (v : Value) (m : Lengths) → LengthsAgree present m → value_at sight scene e ≡ Some v → (b : Bool) → truth_in v ≡ b
          → RestNeverFails taken (λ maps. if b then (next maps) (with_left s A I m) else fails (truly maps) (from scene) span)
          → G (Owns h.program flags sight scene (Fact e span)) A T next
      go v m agrees reads false is n = absurd (n.never [] named (span_or spot span) refl)
      go v m agrees reads true is n = gave_none h.program flags present taken _ s A I m T next trees agrees (fact v reads is) n

  field_gives : (xs : List Parameter) → (scene : Scene) → SceneFits h speech xs present scene
      → (e : Expression) (class name : Name) (type : PvType) (amount : ℕ) (span : Span)
      → IsGood h speech xs (FieldPermission e class name type amount span)
      → (A : Holdings) (I : List Folded) (l : Lengths) (T : Amounts) (next : Maps → Next Judged)
      → HasTrees h.program flags present I T → LengthsAgree present l
      → ((r : Resource) → 1 ≤ amounts_in A r → IsPlaced present r)
      → RestNeverFails taken (λ maps. exhale (truly maps) (from scene) (FieldPermission e class name type amount span) (next maps)
      (with_left s A I l))
      → G (Owns h.program flags sight scene (FieldPermission e class name type amount span)) A T next
  field_gives xs scene fits e class name type amount span good A I l T next trees agree placed never =
      reading taken h speech xs present scene fits here old view old_cells settled_old (with_left s A I l) (λ t. before_cells)
      (λ m. settled) _ _ (λ place m agrees n. absurd (n.never [] check.Frame place refl)) e (Object class) good.0 _
      (λ o m agrees typed reads n. gave_one h.program flags present taken _ s A I m T next
      (InField class (reference_in o) name) amount (λ maps. fails (truly maps) (from scene) span) trees agrees
      (λ enough. let more = good.2 in field o (reads sight sees) (placed (InField class (reference_in o) name)
      (omega (arith, more, enough))) (let self = only_self (InField class (reference_in o) name) amount in omega (arith, self)))
      (λ f. f.never [] named (span_or spot span) refl) n)
      l agree never

  element_gives : (xs : List Parameter) → (scene : Scene) → SceneFits h speech xs present scene
      → (type : PvType) (array index : Expression) (amount : ℕ) (span : Span)
      → IsGood h speech xs (ElementPermission type array index amount span)
      → (A : Holdings) (I : List Folded) (l : Lengths) (T : Amounts) (next : Maps → Next Judged)
      → HasTrees h.program flags present I T → LengthsAgree present l
      → ((r : Resource) → 1 ≤ amounts_in A r → IsPlaced present r)
      → RestNeverFails taken (λ maps. exhale (truly maps) (from scene) (ElementPermission type array index amount span)
      (next maps) (with_left s A I l))
      → G (Owns h.program flags sight scene (ElementPermission type array index amount span)) A T next
  element_gives xs scene fits type array index amount span good A I l T next trees agree placed never =
      reading taken h speech xs present scene fits here old view old_cells settled_old (with_left s A I l) (λ t. before_cells)
      (λ m. settled) _ _ (λ place m agrees n. absurd (n.never [] check.Frame place refl)) array (array_of type) good.0 _
      (λ a k agreed typed reads n. reading taken h speech xs present scene fits here old view old_cells settled_old
      (with_left s A I l) (λ t. before_cells) (λ m. settled) _ _
      (λ place m agrees n. absurd (n.never [] check.Frame place refl)) index Int good.1 _
      (λ i m agrees number indexed n. gave_one h.program flags present taken _ s A I m T next
      (InElement type (reference_in a) (number_in i)) amount (λ maps. fails (truly maps) (from scene) span) trees agrees
      (λ enough. let more = good.3 in element a i (reads sight sees) (indexed sight sees) (placed
      (InElement type (reference_in a) (number_in i)) (omega (arith, more, enough)))
      (let self = only_self (InElement type (reference_in a) (number_in i)) amount in omega (arith, self)))
      (λ f. f.never [] named (span_or spot span) refl) n)
      k agreed n)
      l agree never

  holds_gives : (xs : List Parameter) → (scene : Scene) → SceneFits h speech xs present scene
      → (t : Token) (class : Name) (e : Expression) (span : Span)
      → IsGood h speech xs (Holds t class e span)
      → (A : Holdings) (I : List Folded) (l : Lengths) (T : Amounts) (next : Maps → Next Judged)
      → HasTrees h.program flags present I T → LengthsAgree present l
      → ((r : Resource) → 1 ≤ amounts_in A r → IsPlaced present r)
      → RestNeverFails taken (λ maps. exhale (truly maps) (from scene) (Holds t class e span) (next maps) (with_left s A I l))
      → G (Owns h.program flags sight scene (Holds t class e span)) A T next
  holds_gives xs scene fits t class e span good A I l T next trees agree placed never =
      reading taken h speech xs present scene fits here old view old_cells settled_old (with_left s A I l) (λ t. before_cells)
      (λ m. settled) _ _ (λ place m agrees n. absurd (n.never [] check.Frame place refl)) e (Object class) good _
      (λ o m agrees typed reads n. go t o m agrees (reads sight sees) n) l agree never
    where
      one : (k : Token) → is_committed k ≡ false → (o : Value) (m : Lengths) → LengthsAgree present m → value_at sight scene e
          ≡ Some o
          → RestNeverFails taken (λ maps. give (truly maps) (OfToken k class (reference_in o)) whole
          (fails (truly maps) (from scene) span) (next maps) (with_left s A I m))
          → G (Owns h.program flags sight scene (Holds k class e span)) A T next
      one k apart o m agrees reads n =
          gave_one h.program flags present taken _ s A I m T next (OfToken k class (reference_in o)) whole
          (λ maps. fails (truly maps) (from scene) span) trees agrees
          (λ enough. holds o reads apart (placed (OfToken k class (reference_in o)) (omega (arith, enough)))
          (let self = only_self (OfToken k class (reference_in o)) whole in omega (arith, self)))
          (λ f. f.never [] named (span_or spot span) refl) n

      flagged : (o : Value) (m : Lengths) → LengthsAgree present m → value_at sight scene e ≡ Some o → (b : Bool)
          → s.committed class (reference_in o) ≡ b
          → RestNeverFails taken (λ maps. if b then (next maps) (with_left s A I m) else fails (truly maps) (from scene) span)
          → G (Owns h.program flags sight scene (Holds token.Committed class e span)) A T next
      flagged o m agrees reads false is n = absurd (n.never [] named (span_or spot span) refl)
      flagged o m agrees reads true is n =
          gave_none h.program flags present taken _ s A I m T next trees agrees
          (known o reads refl (knows class (reference_in o) is)) n

      go : (k : Token) (o : Value) (m : Lengths) → LengthsAgree present m → value_at sight scene e ≡ Some o
          → RestNeverFails taken (λ maps. take_token (truly maps) k class (reference_in o) (fails (truly maps) (from scene) span)
          (next maps) (with_left s A I m)) → G (Owns h.program flags sight scene (Holds k class e span)) A T next
      go token.Idle o m agrees reads n = one token.Idle refl o m agrees reads n
      go token.Running o m agrees reads n = one token.Running refl o m agrees reads n
      go token.Uncommitted o m agrees reads n = one token.Uncommitted refl o m agrees reads n
      go token.Committed o m agrees reads n = flagged o m agrees reads (s.committed class (reference_in o)) refl n

  instance_gives : (xs : List Parameter) → (scene : Scene) → SceneFits h speech xs present scene
      → (class name : Name) (e : Expression) (arguments : List Expression) (span : Span)
      → IsGood h speech xs (Instance class name e arguments span)
      → (A : Holdings) (I : List Folded) (l : Lengths) (T : Amounts) (next : Maps → Next Judged)
      → HasTrees h.program flags present I T → LengthsAgree present l
      → RestNeverFails taken (λ maps. exhale (truly maps) (from scene) (Instance class name e arguments span) (next maps)
      (with_left s A I l))
      → G (Owns h.program flags sight scene (Instance class name e arguments span)) A T next
  instance_gives xs scene fits class name e arguments span good A I l T next trees agree never =
      reading taken h speech xs present scene fits here old view old_cells settled_old (with_left s A I l) (λ t. before_cells)
      (λ m. settled) _ _ (λ place m agrees n. absurd (n.never [] check.Frame place refl)) e (Object class) good.0 _
      (λ o k agreed typed reads n. reading_all taken h speech xs present scene fits here old view old_cells settled_old
      (with_left s A I l) (λ t. before_cells) (λ m. settled) _ _ (λ place m agrees n. absurd (n.never [] check.Frame place refl))
      arguments (types_of good.1.0.parameters) good.1.2 _
      (λ vs m agrees all listed n. go o vs m agrees (reads sight sees) (listed sight sees)
      (without_instance (record { class = class; predicate = name; object = reference_in o; arguments = vs }) I) refl n)
      k agreed n)
      l agree never
    where
      go : (o : Value) (vs : List Value) (m : Lengths) → LengthsAgree present m → value_at sight scene e ≡ Some o
          → values_at sight scene arguments ≡ Some vs
          → (J : Option (List Folded)) → without_instance
          (record { class = class; predicate = name; object = reference_in o; arguments = vs }) I ≡ J
          → RestNeverFails taken (λ maps. or_short (truly maps) J (fails (truly maps) (from scene) span) (next maps)
          (with_left s A I m)) → G (Owns h.program flags sight scene (Instance class name e arguments span)) A T next
      go o vs m agrees reads listed None is n = absurd (n.never [] named (span_or spot span) refl)
      go o vs m agrees reads listed (Some J) is n =
          let t =
          tree_taken h.program flags present
          (record { class = class; predicate = name; object = reference_in o; arguments = vs }) I J T trees is in
          record {
            held = A;
            instances = J;
            lengths = m;
            trees = t.rest;
            part = t.part;
            never = n;
            agree = agrees;
            owns = folded o vs t.predicate reads listed t.named t.owns;
            has_trees = t.has_trees;
            leaves = λ r h is. (h, is, refl, λ m. m);
            less = λ r. omega arith;
            sum = λ r. let c = t.sum r in omega (arith, c);
          }

  elements_give : (xs : List Parameter) → (scene : Scene) → SceneFits h speech xs present scene
      → (name : Name) (r : Range) (type : PvType) (array : Expression) (shift : ℤ) (amount : ℕ) (span : Span)
      → IsGoodItem h speech xs name (Elements type array shift amount span) → is_empty r.low r.high ≡ false
      → (A : Holdings) (I : List Folded) (l : Lengths) (T : Amounts) (next : Maps → Next Judged)
      → HasTrees h.program flags present I T → LengthsAgree present l
      → ((x : Resource) → 1 ≤ amounts_in A x → IsPlaced present x)
      → RestNeverFails taken (λ maps. value_from (truly maps) (from scene) array
      (λ a. give_range (truly maps) type (reference_in a) (r.low +ℤ shift) (r.high +ℤ shift)
      (shifted (r.low ∷ r.high ∷ r.bounds) shift) amount (fails (truly maps) (from scene) span) (next maps)) (with_left s A I l))
      → G (OwnsItem h.program flags sight scene name r (Elements type array shift amount span)) A T next
  elements_give xs scene fits name r type array shift amount span good full A I l T next trees agree placed never =
      reading taken h speech xs present scene fits here old view old_cells settled_old (with_left s A I l) (λ t. before_cells)
      (λ m. settled) _ _ (λ place m agrees n. absurd (n.never [] check.Frame place refl)) array (array_of type) good.0 _
      (λ a m agrees typed reads n. gave_range h.program flags present taken _ s A I m T next type (reference_in a)
      (r.low +ℤ shift) (r.high +ℤ shift) (shifted (r.low ∷ r.high ∷ r.bounds) shift) amount
      (λ maps. fails (truly maps) (from scene) span) trees agrees
      (λ enough. elements a (reads sight sees) (λ i w.
      let is = is_in type (reference_in a) (r.low +ℤ shift) (r.high +ℤ shift) i w in
      let there = enough (InElement type (reference_in a) i) is in
      let more = good.2 in (
        placed (InElement type (reference_in a) i) (omega (arith, there, more)),
        let e = ap (λ b. if b then amount else 0) is in
            omega (arith, e),
      )))
      (λ f. f.never [] named (span_or spot span) refl) n)
      l agree never

  -- what is wanted at a position: the body has a value there and is true
  abbrev TrueAt : Scene → Name → Expression → ℤ → Type 0
  TrueAt scene name e i = (v : Value) × (value_at sight (at scene name i) e ≡ Some v) × (truth_in v ≡ true)

  -- the body at a position is true or fails; and all that is looked at there
  abbrev true_or_fails : Scene → Name → Expression → Span → (Maps → Next Judged) → Maps → ℤ → Next Judged
  true_or_fails scene name e span next maps i =
      value_from (truly maps) (from_at (from scene) name i) e
      (λ v last. holds_or_fails (truly maps) (from scene) span v (next maps last))

  abbrev looked : Scene → Name → Range → Expression → Span → (Maps → Next Judged) → State → Maps → ℤ → Judged
  looked scene name r e span next state maps i =
      arrays_read (truly maps) (λ s. before_cells) (from scene).bind (looks_of name e)
      (λ parts later. notice_parts (truly maps) parts (i ∷ (i +ℤ pos 1) ∷ r.bounds)
      (true_or_fails scene name e span next maps i later)) state

  repeated_gives : (xs : List Parameter) → (scene : Scene) → SceneFits h speech xs present scene
      → (name : Name) (r : Range) (e : Expression) (span : Span) → IsGoodItem h speech xs name (Repeated e span)
      → (A : Holdings) (I : List Folded) (l : Lengths) (T : Amounts) (next : Maps → Next Judged)
      → HasTrees h.program flags present I T → LengthsAgree present l
      → RestNeverFails taken (λ maps. exhale_repeated (truly maps) (from scene) name e span r (next maps) (with_left s A I l))
      → G (OwnsItem h.program flags sight scene name r (Repeated e span)) A T next
  repeated_gives xs scene fits name r e span good A I l T next trees agree never =
      gave_none h.program flags present taken _ s A I l T next trees agree
      (repeated (λ i w. at_position i
      (subst (λ b. RestNeverFails taken (λ maps. if b then looked scene name r e span next
      (with_left s A I l) maps i else next maps (with_left s A I l))) w (at_mark i))))
      (subst (λ b. RestNeverFails taken (λ maps. if b then looked scene name r e span next
      (with_left s A I l) maps r.high else next maps (with_left s A I l))) (not_its_end r.low r.high) (at_mark r.high))
    where
      at_mark : (i : ℤ) → RestNeverFails taken (λ maps. if within r.low r.high i then looked scene name r e span next
          (with_left s A I l) maps i else next maps (with_left s A I l))
      at_mark i =
          never_number taken (λ maps z. if within r.low r.high z then looked scene name r e span next
          (with_left s A I l) maps z else next maps (with_left s A I l)) i never

      true_at : (i : ℤ) (v : Value) (m : Lengths) → value_at sight (at scene name i) e ≡ Some v → (b : Bool) → truth_in v ≡ b
          → RestNeverFails taken (λ maps. if b then next maps (with_left s A I m) else fails (truly maps) (from scene) span)
          → TrueAt scene name e i
      true_at i v m reads false is n = absurd (n.never [] named (span_or spot span) refl)
      true_at i v m reads true is n = (v, reads, is)

      at_position : (i : ℤ) → RestNeverFails taken (λ maps. looked scene name r e span next (with_left s A I l) maps i)
          → TrueAt scene name e i
      at_position i n =
          arrays_passed taken h speech xs present scene fits here old view old_cells settled_old (with_left s A I l)
          (λ t. before_cells) (λ m. settled) (TrueAt scene name e i) (looks_of name e) good.1
          (λ maps parts later. notice_parts (truly maps) parts (i ∷ (i +ℤ pos 1) ∷ r.bounds)
          (true_or_fails scene name e span next maps i later))
          (λ parts m agrees n. reading taken h speech ((name, Int) ∷ xs) present (at scene name i)
          (position_fits h speech xs present scene name i fits) here old view
          old_cells settled_old (with_left s A I l) (λ t. before_cells) (λ k. settled) (λ maps. no_frame (truly maps))
          (TrueAt scene name e i) (λ place k agreed n. absurd (n.never [] check.Frame place refl)) e Truth good.0
          (λ maps v last. holds_or_fails (truly maps) (from scene) span v (next maps last))
          (λ v k agreed typed reads n. true_at i v k (reads sight sees) (truth_in v) refl n) m agrees
          (never_as taken _ _ (λ picks. notice_none (all_maps taken picks) parts (i ∷ (i +ℤ pos 1) ∷ r.bounds)
          (true_or_fails scene name e span next (all_maps taken picks) i (with_left s A I m))) n))
          l agree n

  committed_gives : (xs : List Parameter) → (scene : Scene) → SceneFits h speech xs present scene
      → (name : Name) (r : Range) (class : Name) (e : Expression) (span : Span)
      → IsGoodItem h speech xs name (Committed class e span)
      → (A : Holdings) (I : List Folded) (l : Lengths) (T : Amounts) (next : Maps → Next Judged)
      → HasTrees h.program flags present I T → LengthsAgree present l
      → RestNeverFails taken (λ maps. value_from (truly maps) (from scene) e
      (λ o. take_token (truly maps) token.Committed class (reference_in o) (fails (truly maps) (from scene) span) (next maps))
      (with_left s A I l))
      → G (OwnsItem h.program flags sight scene name r (Committed class e span)) A T next
  committed_gives xs scene fits name r class e span good A I l T next trees agree never =
      reading taken h speech xs present scene fits here old view old_cells settled_old (with_left s A I l) (λ t. before_cells)
      (λ m. settled) _ _ (λ place m agrees n. absurd (n.never [] check.Frame place refl)) e (Object class) good _
      (λ o m agrees typed reads n. go o m agrees (reads sight sees) (s.committed class (reference_in o)) refl n) l agree never
    where
      go : (o : Value) (m : Lengths) → LengthsAgree present m → value_at sight scene e ≡ Some o → (b : Bool)
          → s.committed class (reference_in o) ≡ b
          → RestNeverFails taken (λ maps. if b then (next maps) (with_left s A I m) else fails (truly maps) (from scene) span)
          → G (OwnsItem h.program flags sight scene name r (Committed class e span)) A T next
      go o m agrees reads false is n = absurd (n.never [] named (span_or spot span) refl)
      go o m agrees reads true is n =
          gave_none h.program flags present taken _ s A I m T next trees agrees
          (committed o reads (knows class (reference_in o) is)) n

  -- a test that decides
  parted : (b : Bool) (X : Type 0) (x y : Maps → Judged) → RestNeverFails taken (λ maps. if b then x maps else y maps)
      → (b ≡ true → RestNeverFails taken x → X) → (b ≡ false → RestNeverFails taken y → X) → X
  parted true X x y n f g = f refl n
  parted false X x y n f g = g refl n

  -- what is said of all that may be given up
  abbrev Gives : List Parameter → (Scene → Amounts → Type 0) → (Maps → Scene → Next Judged → Next Judged) → Type 0
  Gives xs Owning run = (scene : Scene) → SceneFits h speech xs present scene
      → (A : Holdings) (I : List Folded) (l : Lengths) (T : Amounts) (next : Maps → Next Judged)
      → HasTrees h.program flags present I T → LengthsAgree present l → ((x : Resource) → 1 ≤ amounts_in A x → IsPlaced present x)
      → RestNeverFails taken (λ maps. run maps scene (next maps) (with_left s A I l)) → G (Owning scene) A T next

  when_gives : (xs : List Parameter) → (e : Expression) (f : Formula) (span : Span) → IsGood h speech xs (When e f span)
      → Gives xs (λ scene. Owns h.program flags sight scene f) (λ maps scene. exhale (truly maps) (from scene) f)
      → Gives xs (λ scene. Owns h.program flags sight scene (When e f span))
      (λ maps scene. exhale (truly maps) (from scene) (When e f span))
  when_gives xs e f span good inner scene fits A I l T next trees agree placed never =
      reading taken h speech xs present scene fits here old view old_cells settled_old (with_left s A I l) (λ t. before_cells)
      (λ m. settled) _ _ (λ place m agrees n. absurd (n.never [] check.Frame place refl)) e Truth good.0 _
      (λ v m agrees typed reads n. parted (truth_in v) _ _ _ n
      (λ is n. gave_as h.program flags present taken _ _ s A T next (λ B o. when_on v (reads sight sees) is o)
      (inner scene fits A I m T next trees agrees placed n))
      (λ is n. gave_none h.program flags present taken _ s A I m T next trees agrees (when_off v (reads sight sees) is) n))
      l agree never

  fixed_gives : (xs : List Parameter) → (name : Name) → type_in xs name ≡ None
      → (r : Range) (e : Expression) (f : Formula) (span : Span)
      → IsGoodItem h speech xs name (Fixed e f span) → is_empty r.low r.high ≡ false
      → Gives ((name, Int) ∷ xs) (λ scene. Owns h.program flags sight scene f) (λ maps scene. exhale (truly maps) (from scene) f)
      → Gives xs (λ scene. OwnsItem h.program flags sight scene name r (Fixed e f span))
      (λ maps scene next. value_from (truly maps) (from scene) e
      (λ v later. if_within (truly maps) r.low r.high (number_in v) (next later)
      (exhale (truly maps) (from_at (from scene) name (number_in v)) f next later)))
  fixed_gives xs name new r e f span good full inner scene fits A I l T next trees agree placed never =
      reading taken h speech xs present scene fits here old view old_cells settled_old (with_left s A I l) (λ t. before_cells)
      (λ m. settled) _ _ (λ place m agrees n. absurd (n.never [] check.Frame place refl)) e Int good.0 _
      (λ v m agrees typed reads n. parted (within r.low r.high (number_in v)) _ _ _ n
      (λ is n. gave_as h.program flags present taken _ _ s A T next (λ B o. fixed v (reads sight sees) is o)
      (inner (at scene name (number_in v)) (position_fits h speech xs present scene name
      (number_in v) fits) A I m T next trees agrees placed n))
      (λ is n. gave_none h.program flags present taken _ s A I m T next trees agrees (beside v (reads sight sees) is) n))
      l agree never

  guarded_gives : (xs : List Parameter) → (name : Name) (r : Range) (cuts : List Cut) (i : Item) (span : Span)
      → IsGoodItem h speech xs name (Guarded cuts i span)
      → ((x : Range) → Gives xs (λ scene. OwnsItem h.program flags sight scene name x i)
      (λ maps scene. exhale_item (truly maps) (from scene) name x i))
      → Gives xs (λ scene. OwnsItem h.program flags sight scene name r (Guarded cuts i span))
      (λ maps scene. exhale_item (truly maps) (from scene) name r (Guarded cuts i span))
  guarded_gives xs name r cuts i span good inner scene fits A I l T next trees agree placed never =
      cutting taken h speech xs present scene fits here old view old_cells settled_old (with_left s A I l) (λ t. before_cells)
      (λ m. settled) _ _ (λ place m agrees n. absurd (n.never [] check.Frame place refl)) cuts good.0 r next _
      (λ m agrees cuts_to n. gave_none h.program flags present taken _ s A I m T next trees agrees
      (cut_off (cuts_to sight sees)) n)
      (λ x m agrees cuts_to n. gave_as h.program flags present taken _ _ s A T next (λ B o. cut x (cuts_to sight sees) o)
      (inner x scene fits A I m T next trees agrees placed n))
      l agree never

  placed_less : (A B : Holdings) → ((x : Resource) → 1 ≤ amounts_in A x → IsPlaced present x)
      → ((x : Resource) → amounts_in B x ≤ amounts_in A x) → (x : Resource) → 1 ≤ amounts_in B x → IsPlaced present x
  placed_less A B placed less x more = let l = less x in placed x (omega (arith, l, more))

  mutual
    pub exhale_gives : (xs : List Parameter) → (f : Formula) → IsGood h speech xs f
        → Gives xs (λ scene. Owns h.program flags sight scene f) (λ maps scene. exhale (truly maps) (from scene) f)
    exhale_gives xs (Fact e span) good scene fits A I l T next trees agree placed never =
        fact_gives xs scene fits e span good A I l T next trees agree never
    exhale_gives xs (FieldPermission e class name type amount span) good scene fits A I l T next trees agree placed never =
        field_gives xs scene fits e class name type amount span good A I l T next trees agree placed never
    exhale_gives xs (ElementPermission type array index amount span) good scene fits A I l T next trees agree placed never =
        element_gives xs scene fits type array index amount span good A I l T next trees agree placed never
    exhale_gives xs (Holds t class e span) good scene fits A I l T next trees agree placed never =
        holds_gives xs scene fits t class e span good A I l T next trees agree placed never
    exhale_gives xs (Instance class name e arguments span) good scene fits A I l T next trees agree placed never =
        instance_gives xs scene fits class name e arguments span good A I l T next trees agree never
    exhale_gives xs (Star a b) good scene fits A I l T next trees agree placed never =
        let g =
        exhale_gives xs a good.0 scene fits A I l T (λ maps. exhale (truly maps) (from scene) b
        (next maps)) trees agree placed never in
        gave_both h.program flags present taken _ _ _ s A T _ next (λ B C R o q sum. star B C o q sum) g
        (exhale_gives xs b good.1 scene fits g.held g.instances g.lengths g.trees next g.has_trees g.agree
        (placed_less A g.held placed g.less) g.never)
    exhale_gives xs (When e f span) good scene fits A I l T next trees agree placed never =
        when_gives xs e f span good (exhale_gives xs f good.1) scene fits A I l T next trees agree placed never
    exhale_gives xs (Each name low high items span) good scene fits A I l T next trees agree placed never =
        reading taken h speech xs present scene fits here old view old_cells settled_old (with_left s A I l) (λ t. before_cells)
        (λ m. settled) _ _ (λ place m agrees n. absurd (n.never [] check.Frame place refl)) low Int good.0 _
        (λ x k agreed typed reads n. reading taken h speech xs present scene fits here old view old_cells settled_old
        (with_left s A I l) (λ t. before_cells) (λ m. settled) _ _
        (λ place m agrees n. absurd (n.never [] check.Frame place refl)) high Int good.1 _
        (λ y m agrees number indexed n. gave_as h.program flags present taken _ _ s A T next
        (λ B o. each x y (reads sight sees) (indexed sight sees) o)
        (items_give xs items name good.2 (number_in x) (number_in y) good.3 scene fits A I m T next trees agrees placed n))
        k agreed n)
        l agree never

    pub items_give : (xs : List Parameter) → (items : Items) (name : Name) → type_in xs name ≡ None → (low high : ℤ)
        → AreGoodItems h speech xs name items
        → Gives xs (λ scene. OwnsItems h.program flags sight scene name low high items)
        (λ maps scene. exhale_items (truly maps) (from scene) name low high items)
    items_give xs NoItems name new low high good scene fits A I l T next trees agree placed never =
        gave_none h.program flags present taken _ s A I l T next trees agree no_items never
    items_give xs (Join i is) name new low high good scene fits A I l T next trees agree placed never =
        let g =
        item_gives xs i name new (range_of low high) good.0 scene fits A I l T
        (λ maps. exhale_items (truly maps) (from scene) name low high is (next maps)) trees agree placed never in
        gave_both h.program flags present taken _ _ _ s A T _ next (λ B C R o q sum. joined B C o q sum) g
        (items_give xs is name new low high good.1 scene fits g.held g.instances g.lengths g.trees next g.has_trees g.agree
        (placed_less A g.held placed g.less) g.never)

    pub item_gives : (xs : List Parameter) → (i : Item) (name : Name) → type_in xs name ≡ None → (r : Range)
        → IsGoodItem h speech xs name i
        → Gives xs (λ scene. OwnsItem h.program flags sight scene name r i)
        (λ maps scene. exhale_item (truly maps) (from scene) name r i)
    item_gives xs (Elements type array shift amount span) name new r good scene fits A I l T next trees agree placed never =
        parted (is_empty r.low r.high) _ _ _ never
        (λ e n. gave_none h.program flags present taken _ s A I l T next trees agree (nothing e) n)
        (λ e n. elements_give xs scene fits name r type array shift amount span good e A I l T next trees agree placed n)
    item_gives xs (Repeated e span) name new r good scene fits A I l T next trees agree placed never =
        parted (is_empty r.low r.high) _ _ _ never
        (λ is n. gave_none h.program flags present taken _ s A I l T next trees agree (nothing is) n)
        (λ is n. repeated_gives xs scene fits name r e span good A I l T next trees agree n)
    item_gives xs (Committed class e span) name new r good scene fits A I l T next trees agree placed never =
        parted (is_empty r.low r.high) _ _ _ never
        (λ is n. gave_none h.program flags present taken _ s A I l T next trees agree (nothing is) n)
        (λ is n. committed_gives xs scene fits name r class e span good A I l T next trees agree n)
    item_gives xs (Guarded cuts i span) name new r good scene fits A I l T next trees agree placed never =
        guarded_gives xs name r cuts i span good (λ x. item_gives xs i name new x good.1) scene fits A I l T next trees agree
        placed
        never
    item_gives xs (Fixed e f span) name new r good scene fits A I l T next trees agree placed never =
        parted (is_empty r.low r.high) _ _ _ never
        (λ is n. gave_none h.program flags present taken _ s A I l T next trees agree (nothing is) n)
        (λ is n. fixed_gives xs name new r e f span good is
        (exhale_gives ((name, Int) ∷ xs) f good.1) scene fits A I l T next trees agree placed n)
