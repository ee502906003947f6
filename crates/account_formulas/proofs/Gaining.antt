-- Taking in a formula that is owned goes on: what is held then is no more than before with what the formula owns, and it stays
-- owned where its amounts are kept.
use Rattle.std.proofs.Common.{◌≡◌, inl, inr, ℕ, zero, suc, ◌+◌, ◌≤◌, ℤ, pos, Bool, true, false, if◌then◌else◌, Option, Some, None, List, [], ◌∷◌, ◌++◌, refl, ap, sym, subst, ◌∙◌, arith}
use Rattle.std.specs.Prelude.{int_le, int_lt, ◌+ℤ◌, option_map}
use Rattle.std.proofs.lemmas.Option.{same_Some, none-some}
use Rattle.std.proofs.lemmas.Int.{ints}
use Rattle.pv_base.specs.declared.Name.{Name}
use Rattle.pv_base.specs.declared.Span.{Span}
use Rattle.pv_ast.specs.declared.PvType.{PvType}
use Rattle.pv_ast.specs.declared.PvType.TheVariants.{Int, Truth, Object}
use Rattle.pv_ast.specs.declared.Token.{Token}
use Rattle.pv_ast.specs.declared.Token.TheVariants as token
use Rattle.pv_values.specs.declared.value.Value.{Value}
use Rattle.pv_values.specs.declared.value.Value.TheVariants as value
use Rattle.pv_fraction.specs.Amounts.{whole}
use Rattle.pv_picks.specs.declared.check.Check.TheVariants as check
use Rattle.pv_picks.specs.declared.evidence.Pick.{Pick}
use Rattle.pv_picks.specs.Plain.Core.{Cut, Expression, Formula, Fact, FieldPermission, ElementPermission, Holds, Instance, Star, When, Each, Items, NoItems, Join, Item, Elements, Repeated, Committed, Guarded, Fixed, Predicate, Program}
use Rattle.pv_picks.specs.Plain.Members.{predicate_named}
use Rattle.pv_picks.specs.Formulas.Values.{number_in, truth_in, reference_in, array_of, within, is_empty, width}
use Rattle.pv_picks.specs.Formulas.Heaps.{Heap}
use Rattle.pv_picks.specs.Formulas.Evaluation.{Scene, evaluate}
use Rattle.pv_picks.specs.Formulas.Meeting.{Sight, at}
use Rattle.pv_picks.specs.Machine.Frames.{only_now, outer_scene}
use Rattle.pv_picks.specs.Judge.States.{Resource, InElement, Folded, Holding, State, cells_of, amount_of, amount_held, no_cells, is_among, with_instances}
use Rattle.pv_picks.specs.Judge.Settings.{Setting, Next, Known, no_frame, if_within}
use Rattle.pv_picks.specs.Judge.Permissions.{gain_range, add_token}
use Rattle.pv_picks.specs.Judge.Repetitions.{unless_empty, cut_by, Range, range_of, bind_at, shifted, looks_of, notice_parts, test_reader, test_at, test_from}
use Rattle.pv_picks.specs.Judge.Inhaling.{known_of, inhale_at_mark, come_to_know, inhale_repeated, value_now, if_true, inhale, inhale_items, inhale_item}
use Rattle.pv_picks.specs.Judge.Judging.{finish}
use Rattle.pv_picks.specs.Judge.Runs.{Judged, Maps, content, judging_tests}
use Rattle.pv_picks.specs.Typing.Expressions.{silent, type_in}
use Rattle.pv_picks.specs.Typing.Blocks.{types_of, over}
use Rattle.pv_picks.specs.Typing.Frames.{HasType}
use Rattle.account_formulas.specs.Sights.{Lengths, LengthsAgree, Sees, SceneFits, value_at, values_at}
use Rattle.account_formulas.specs.Runs.{Taken, all_maps, truly, RestNeverFails, contents_of, with_lengths}
use Rattle.account_formulas.specs.Good.{IsGood, AreGoodItems, IsGoodItem}
use Rattle.account_formulas.specs.Owning.{Amounts, IsPlaced, Owns, Owns.fact, Owns.field, Owns.element, Owns.holds, Owns.known, Owns.folded, Owns.star, Owns.when_on, Owns.when_off, Owns.each, OwnsItems, OwnsItems.no_items, OwnsItems.joined, OwnsItem, OwnsItem.nothing, OwnsItem.elements, OwnsItem.repeated, OwnsItem.committed, OwnsItem.cut_off, OwnsItem.cut, OwnsItem.fixed, OwnsItem.beside, CutsTo, KeepsOwning, HasTrees, KeepsHeld, is_committed}
use Rattle.account_formulas.specs.Growing.{AllBelow, StateFits, Place, HeapFits}
use Rattle.account_formulas.specs.Gaining.{Gained, AreTyped, nothing_taken, body_state, PredicatesFit, home_at, sight_at, bind_in, Gains}
use Rattle.account_formulas.proofs.Basics.{moved_full, not_its_end, among_index, not_false, is_within}
use Rattle.account_formulas.proofs.Lengths.{never_as, never_number, goes_on_same, more_agree}
use Rattle.account_formulas.proofs.Knowing.{value_on, on_reads}
use Rattle.account_formulas.proofs.Evaluating.{following, reading, reading_all}
use Rattle.account_formulas.proofs.Looking.{Looked, looking_on, arrays_passed, cutting, notice_none}
use Rattle.account_formulas.proofs.Testing.{tests, known_in}
use Rattle.account_formulas.proofs.Exhaling.{position_fits}
use Rattle.account_formulas.proofs.Raising.{settled_of, contents_fine, settled_on, sees_less}
use Rattle.account_formulas.proofs.Ranging.{tested_true, tested_false, range_goes}
use Rattle.account_formulas.proofs.Conjuncts.{sees_at, view_at, known_fine, gained_none, same_value_read, fact_gains, field_gains, element_gains, token_gains, committed_gains, gained_both, gained_as}

module _ (p : Program) (flags : ℕ → Bool) (present : Heap) (sound : HeapFits p present) (framed : PredicatesFit p present) where
  -- where a predicate's body stands
  abbrev pub body_place : Name → Predicate → Place p present
  body_place class d = record {
    class = class;
    answer = None;
    speech = silent;
    scope = over [] d.parameters;
    past = present;
    old = no_cells;
    known = λ r. None;
    before = sound.now;
    agrees = λ r x is. absurd (none-some x is);
    lengths = λ a n is. is;
  }

  abbrev Body : Name → Predicate → ℕ → List Value → Amounts → Type 0
  Body class d o vs R = (met : List (PvType × ℕ)) → AllBelow present.count met
      → SceneFits (home_at p present (body_place class d)) silent (over [] d.parameters) present (outer_scene o d.parameters vs)
      → ((r : Resource) → R r ≤ whole)
      → RestNeverFails nothing_taken (λ maps. inhale (truly maps)
      (record { scene = outer_scene o d.parameters vs; old = no_cells }) d.body (finish (truly maps)) (body_state o d vs met))
      → Gained p flags present (λ r. None) (λ sight. Owns p flags sight (outer_scene o d.parameters vs) d.body) nothing_taken
      (body_state o d vs met) (λ r. 0) R (λ maps. finish (truly maps))

  -- what is seen of a state is held in an amount
  pub amount_seen : (taken : Taken) (t : State) → StateFits flags present taken t → (r : Resource) (v : Value)
      → contents_of taken (cells_of t) r ≡ Some v → 1 ≤ amount_of t r
  amount_seen taken t fine r v is = by (t.held r) refl is
    where
      by : (o : Option Holding) → t.held r ≡ o → option_map (content (all_maps taken [])) (option_map (λ h. h.cell) o) ≡ Some v
          → 1 ≤ amount_held o
      by None at e = absurd (none-some v e)
      by (Some h) at e = (fine.holds r h at).some

  -- one more tree, behind the others
  trees_appended : (heap : Heap) (I : List Folded) (x : Folded) (T R : Amounts) → HasTrees p flags heap I T
      → ((d : Predicate) × (predicate_named p x.class x.predicate ≡ Some d)
      × KeepsOwning p flags heap (outer_scene x.object d.parameters x.arguments) d.body R)
      → HasTrees p flags heap (I ++ x ∷ []) (λ r. T r + R r)
  trees_appended heap [] x T R trees tree = (R, (λ r. 0), tree, tt, λ r. omega arith)
  trees_appended heap (y ∷ I) x T R trees tree = (
    trees.0,
    (λ r. trees.1 r + R r),
    trees.2,
    trees_appended heap I x trees.1 R trees.3 tree,
    λ r. let s = trees.4 r in
        omega (arith, s),
  )

  instance_gains : (c : Place p present) (scene : Scene) → SceneFits (home_at p present c) c.speech c.scope present scene
      → (class name : Name) (e : Expression) (arguments : List Expression) (span : Span)
      → IsGood (home_at p present c) c.speech c.scope (Instance class name e arguments span)
      → (R : Amounts) (o : Value) (vs : List Value) (d : Predicate)
      → value_at (sight_at p present c) scene e ≡ Some o → values_at (sight_at p present c) scene arguments ≡ Some vs
      → predicate_named p class name ≡ Some d
      → Owns p flags (only_now present) (outer_scene (reference_in o) d.parameters vs) d.body R
      → Body class d (reference_in o) vs R
      → Gains p flags present c (λ sight. Owns p flags sight scene (Instance class name e arguments span))
      (λ maps. inhale (truly maps) (bind_in p present c scene) (Instance class name e arguments span)) R
  instance_gains c scene fits class name e arguments span good R o vs d is_o is_vs named owns body taken t settled fine T trees
      fit next never =
      reading taken (home_at p present c) c.speech c.scope present scene fits (contents_of taken (cells_of t)) c.known
      (view_at p flags present sound c taken t fine) c.old settled t cells_of (λ l. settled_of flags present taken t fine) _ _
      (λ place m agrees n. absurd (n.never [] check.Frame place refl)) e (Object class) good.0 _
      (λ w m agrees typed reads n. reading_all taken (home_at p present c) c.speech c.scope present scene fits
      (contents_of taken (cells_of t)) c.known (view_at p flags present sound c taken t fine) c.old settled t cells_of
      (λ l. settled_of flags present taken t fine) _ _
      (λ place m agrees n. absurd (n.never [] check.Frame place refl)) arguments (types_of good.1.0.parameters) good.1.2 _
      (λ ws k agreed all listed n.
      let one =
      same_value_read p flags present sound o w (value_at (sight_at p present c) scene e) is_o
      (reads (sight_at p present c) (sees_at p flags present sound c taken t fine)) in
      let two : ws ≡ vs =
      same_Some ws vs (sym (listed (sight_at p present c) (sees_at p flags present sound c taken t fine)) ∙ is_vs) in
      let which : good.1.0 ≡ d = same_Some good.1.0 d (sym good.1.1 ∙ named) in
      go w k agreed (subst (HasType present (Object class)) one typed)
      (subst (λ z. AreTyped present (types_of d.parameters) z) two
      (subst (λ z. AreTyped present (types_of z.parameters) ws) which all))
      (λ other sees. reads other sees ∙ ap Some one) (λ other sees. listed other sees ∙ ap Some two)
      (subst (λ z. RestNeverFails taken
      (λ maps. (next maps) (with_instances (with_lengths t k)
      (t.instances ++ record { class = class; predicate = name; object = reference_in z; arguments = vs } ∷ [])))) one
      (subst (λ z. RestNeverFails taken
      (λ maps. (next maps) (with_instances (with_lengths t k)
      (t.instances ++ record { class = class; predicate = name; object = reference_in w; arguments = z } ∷ [])))) two n)))
      m agrees n)
      t.lengths fine.agree never
    where
      typed_reference : (q : Value) → HasType present (Object class) q
          → HasType present (Object class) (value.Reference (reference_in q))
      typed_reference (value.Number z) h = absurd h
      typed_reference (value.Truth b) h = absurd h
      typed_reference (value.Reference n) h = h

      go : (w : Value) (m : Lengths) → LengthsAgree present m → HasType present (Object class) o
          → AreTyped present (types_of d.parameters) vs
          → ((sight : Sight) → Sees present (contents_of taken (cells_of t)) c.known sight → value_at sight scene e ≡ Some o)
          → ((sight : Sight) → Sees present (contents_of taken (cells_of t)) c.known sight → values_at sight scene arguments
          ≡ Some vs)
          → RestNeverFails taken (λ maps. (next maps) (with_instances (with_lengths t m)
          (t.instances ++ record { class = class; predicate = name; object = reference_in o; arguments = vs } ∷ [])))
          → Gained p flags present c.known (λ sight. Owns p flags sight scene
          (Instance class name e arguments span)) taken t T R next
      go w m agrees typed all reads listed n =
          let started = framed.never class name d named (reference_in o) vs (typed_reference o typed) all in
          let g =
          body started.0 started.1 (framed.fits class name d named (reference_in o) vs (typed_reference o typed) all)
          (λ r. let f = fit r in omega (arith, f)) started.2 in
          let seen : (heap : Heap) → KeepsHeld R present heap
          → ((array : ℕ) (n : ℤ) → present.length array ≡ Some n → heap.length array ≡ Some n)
          → Sees present (contents_of g.then_taken (cells_of g.after)) (λ r. None) (only_now heap) =
          λ heap later lengths. record {
            now = λ r x is.
                let have = amount_seen g.then_taken g.after g.fine r x is in
                let most = g.sum r in
                later.kept r x (omega (arith, have, most)) (contents_fine flags present g.then_taken g.after g.fine r x is);
            before = λ r x is. absurd (none-some x is);
            now_lengths = lengths;
            old_lengths = lengths;
          } in
          record {
            then_taken = taken;
            after =
                with_instances (with_lengths t m)
                (t.instances ++ record { class = class; predicate = name; object = reference_in o; arguments = vs } ∷ []);
            trees = λ r. T r + R r;
            never = n;
            goes = goes_on_same taken;
            scene = refl;
            kept = refl;
            fine = record { steps = fine.steps; agree = agrees; holds = fine.holds; knows = fine.knows; met = fine.met };
            grows = λ r x is. is;
            has_trees =
                trees_appended present t.instances
                (record { class = class; predicate = name; object = reference_in o; arguments = vs }) T R trees
                (d, named, λ heap later. g.stable (only_now heap) (seen heap later later.lengths) later);
            sum = λ r. omega arith;
            stable = λ other sees later. folded o vs d (reads other sees) (listed other sees) named
                (g.stable (only_now other.now) (seen other.now later sees.now_lengths) later);
          }

  when_on_gains : (c : Place p present) (scene : Scene) → SceneFits (home_at p present c) c.speech c.scope present scene
      → (e : Expression) (f : Formula) (span : Span)
      → IsGood (home_at p present c) c.speech c.scope (When e f span) → (R : Amounts) (v : Value)
      → value_at (sight_at p present c) scene e ≡ Some v → truth_in v ≡ true
      → Gains p flags present c (λ sight. Owns p flags sight scene f)
      (λ maps. inhale (truly maps) (bind_in p present c scene) f) R
      → Gains p flags present c (λ sight. Owns p flags sight scene (When e f span))
      (λ maps. inhale (truly maps) (bind_in p present c scene) (When e f span)) R
  when_on_gains c scene fits e f span good R v is_v is inner taken t settled fine T trees fit next never =
      reading taken (home_at p present c) c.speech c.scope present scene fits (contents_of taken (cells_of t)) c.known
      (view_at p flags present sound c taken t fine) c.old settled t cells_of (λ l. settled_of flags present taken t fine) _ _
      (λ place m agrees n. absurd (n.never [] check.Frame place refl)) e Truth good.0 _
      (λ w m agrees typed reads n.
      let same =
      same_value_read p flags present sound v w (value_at (sight_at p present c) scene e) is_v
      (reads (sight_at p present c) (sees_at p flags present sound c taken t fine)) in
      let true' : truth_in w ≡ true = ap truth_in same ∙ is in
      gained_as p flags present sound c _ _ taken t m T R next (λ other sees o. when_on w (reads other sees) true' o)
      (inner taken (with_lengths t m) settled (known_fine p flags present sound taken t m fine agrees) T trees fit next
      (tested_true taken (truth_in w) true' _ _ n)))
      t.lengths fine.agree never

  when_off_gains : (c : Place p present) (scene : Scene) → SceneFits (home_at p present c) c.speech c.scope present scene
      → (e : Expression) (f : Formula) (span : Span)
      → IsGood (home_at p present c) c.speech c.scope (When e f span) → (R : Amounts) (v : Value)
      → value_at (sight_at p present c) scene e ≡ Some v → truth_in v ≡ false
      → Gains p flags present c (λ sight. Owns p flags sight scene (When e f span))
      (λ maps. inhale (truly maps) (bind_in p present c scene) (When e f span)) R
  when_off_gains c scene fits e f span good R v is_v is taken t settled fine T trees fit next never =
      reading taken (home_at p present c) c.speech c.scope present scene fits (contents_of taken (cells_of t)) c.known
      (view_at p flags present sound c taken t fine) c.old settled t cells_of (λ l. settled_of flags present taken t fine) _ _
      (λ place m agrees n. absurd (n.never [] check.Frame place refl)) e Truth good.0 _
      (λ w m agrees typed reads n.
      let same =
      same_value_read p flags present sound v w (value_at (sight_at p present c) scene e) is_v
      (reads (sight_at p present c) (sees_at p flags present sound c taken t fine)) in
      let false' : truth_in w ≡ false = ap truth_in same ∙ is in
      gained_none p flags present sound c _ taken t fine m agrees T R trees next (tested_false taken (truth_in w) false' _ _ n)
      (λ other sees later. when_off w (reads other sees) false'))
      t.lengths fine.agree never

  -- Items

  elements_gain : (c : Place p present) (scene : Scene) → SceneFits (home_at p present c) c.speech c.scope present scene
      → (name : Name) (r : Range) (type : PvType) (array : Expression) (shift : ℤ)
      (amount : ℕ) (span : Span) → IsGoodItem (home_at p present c) c.speech c.scope name (Elements type array shift amount span)
      → is_empty r.low r.high ≡ false
      → (R : Amounts) (a : Value) → value_at (sight_at p present c) scene array ≡ Some a
      → ((i : ℤ) → within (r.low +ℤ shift) (r.high +ℤ shift) i ≡ true → IsPlaced present (InElement type (reference_in a) i)
      × (amount ≤ R (InElement type (reference_in a) i)))
      → Gains p flags present c (λ sight. OwnsItem p flags sight scene name r (Elements type array shift amount span))
      (λ maps next. value_now (truly maps) (bind_in p present c scene) array
      (λ a. gain_range (truly maps) type (reference_in a) (r.low +ℤ shift) (r.high +ℤ shift)
      (shifted (r.low ∷ r.high ∷ r.bounds) shift) amount next)) R
  elements_gain c scene fits name r type array shift amount span good full R a is_a facts taken t settled fine T trees fit next
      never =
      reading taken (home_at p present c) c.speech c.scope present scene fits (contents_of taken (cells_of t)) c.known
      (view_at p flags present sound c taken t fine) c.old settled t cells_of (λ l. settled_of flags present taken t fine) _ _
      (λ place m agrees n. absurd (n.never [] check.Frame place refl)) array (array_of type) good.0 _
      (λ w m agrees typed reads n. go w m agrees reads
      (subst (λ z. (i : ℤ) → within (r.low +ℤ shift) (r.high +ℤ shift) i ≡ true
      → IsPlaced present (InElement type (reference_in z) i) × (amount ≤ R (InElement type (reference_in z) i)))
      (sym (same_value_read p flags present sound a w (value_at (sight_at p present c) scene array) is_a
      (reads (sight_at p present c) (sees_at p flags present sound c taken t fine)))) facts) n)
      t.lengths fine.agree never
    where
      go : (w : Value) (m : Lengths) → LengthsAgree present m
          → ((sight : Sight) → Sees present (contents_of taken (cells_of t)) c.known sight → value_at sight scene array ≡ Some w)
          → ((i : ℤ) → within (r.low +ℤ shift) (r.high +ℤ shift) i ≡ true → IsPlaced present (InElement type (reference_in w) i)
          × (amount ≤ R (InElement type (reference_in w) i)))
          → RestNeverFails taken (λ maps. gain_range (truly maps) type (reference_in w) (r.low +ℤ shift) (r.high +ℤ shift)
          (shifted (r.low ∷ r.high ∷ r.bounds) shift) amount (next maps) (with_lengths t m))
          → Gained p flags present c.known (λ sight. OwnsItem p flags sight scene name r
          (Elements type array shift amount span)) taken t T R next
      go w m agrees reads facts n =
          range_goes p flags present sound taken type (reference_in w) (r.low +ℤ shift) (r.high +ℤ shift)
          (shifted (r.low ∷ r.high ∷ r.bounds) shift) amount next (with_lengths t m)
          (known_fine p flags present sound taken t m fine agrees)
          (moved_full r.low r.high shift full) good.2
          (λ i in'. (
            (facts i in').0,
            let f = fit (InElement type (reference_in w) i) in let e = (facts i in').1 in
                omega (arith, f, e),
          )) n _
          (λ g. record {
            then_taken = g.then_taken;
            after = g.after;
            goes = g.goes;
            trees = T;
            never = g.never;
            scene = g.scene;
            kept = g.kept;
            fine = g.raised.fine;
            grows = g.raised.grows;
            has_trees = subst (λ I. HasTrees p flags present I T) (sym g.instances) trees;
            sum =
                λ q. let e = g.sum q in let l = less q (is_among type (reference_in w) (r.low +ℤ shift)
                (r.high +ℤ shift) q) refl in omega (arith, e, l);
            stable =
                λ other sees later. elements w (reads other (sees_less present (contents_of taken (cells_of t))
                (contents_of g.then_taken (cells_of g.after)) c.known other g.raised.grows sees))
                (λ i in'. (later.placed (InElement type (reference_in w) i) (facts i in').0, (facts i in').1));
          })
        where
          less : (q : Resource) (b : Bool) → is_among type (reference_in w) (r.low +ℤ shift) (r.high +ℤ shift) q ≡ b
              → (if b then amount else 0) ≤ R q
          less q true e =
              let i = among_index type (reference_in w) (r.low +ℤ shift) (r.high +ℤ shift) q e in let f = (facts i.0 i.1).1 in
              subst (λ y. amount ≤ R y) (sym i.2) f
          less q false e = omega arith

  abbrev tests_of : Taken → List Pick → Setting Judged
  tests_of taken picks = judging_tests (all_maps taken picks) []

  -- tests that pass at each position pass
  each_passed : (taken : Taken) (picks : List Pick) (k : Known) (n : ℕ) (low : ℤ)
      → ((i : ℤ) → int_le low i ≡ true → int_lt i (low +ℤ pos n) ≡ true → (rest : Judged)
      → test_at (tests_of taken picks) k i rest ≡ rest)
      → (rest : Judged) → test_from (tests_of taken picks) k low n rest ≡ rest
  each_passed taken picks k zero low f rest = refl
  each_passed taken picks k (suc n) low f rest =
      f low (not_false (int_le low low) (λ z. omega (arith, ints)))
      (not_false (int_lt low (low +ℤ pos (suc n))) (λ z. omega (arith, ints)))
      (test_from (tests_of taken picks) k (low +ℤ pos 1) n rest)
      ∙ each_passed taken picks k n (low +ℤ pos 1)
      (λ i a b. f i (not_false (int_le low i) (λ z. omega (arith, ints)))
      (not_false (int_lt i (low +ℤ pos (suc n))) (λ z. omega (arith, ints)))) rest

  repeated_gains : (c : Place p present) (scene : Scene) → SceneFits (home_at p present c) c.speech c.scope present scene
      → (name : Name) → type_in c.scope name ≡ None → (r : Range) (e : Expression) (span : Span)
      → IsGoodItem (home_at p present c) c.speech c.scope name (Repeated e span) → is_empty r.low r.high ≡ false → (R : Amounts)
      → ((i : ℤ) → within r.low r.high i ≡ true → (v : Value) × (value_at (sight_at p present c) (at scene name i) e ≡ Some v)
      × (truth_in v ≡ true))
      → Gains p flags present c (λ sight. OwnsItem p flags sight scene name r (Repeated e span))
      (λ maps. inhale_repeated (truly maps) (bind_in p present c scene) name e r) R
  repeated_gains c scene fits name new r e span good full R facts taken t settled fine T trees fit next never =
      looking_on taken (home_at p present c) c.speech c.scope present scene fits (contents_of taken (cells_of t)) c.known
      (view_at p flags present sound c taken t fine) c.old settled t cells_of (λ l. settled_of flags present taken t fine)
      r (Gained p flags present c.known (λ sight. OwnsItem p flags sight scene name r (Repeated e span)) taken t T R next)
      (looks_of name e) good.1 _ t.lengths fine.agree
      (λ parts m up looked n. gained_none p flags present sound c _ taken t fine m up.0 T R trees next
      (never_as taken _ (λ maps. next maps (with_lengths t m))
      (λ picks. each_passed taken picks (known_of (tests_of taken picks) (with_lengths t m)
      (bind_in p present c scene) name e r parts) (width r.low r.high) r.low
      (λ i a b rest. passed i (is_within r.low r.high i full a b) m looked picks rest)
      (next (all_maps taken picks) (with_lengths t m))) n)
      (λ other sees later. repeated (λ i in'. (
        (all i in').0,
        reads i in' other sees,
        true_of i in' (all i in').0 (reads i in' (sight_at p present c) (sees_at p flags present sound c taken t fine)),
      ))))
      (tested_false taken (within r.low r.high r.high) (not_its_end r.low r.high) _ _ (marked r.high))
    where
      marked : (i : ℤ) → RestNeverFails taken (λ maps. inhale_at_mark (truly maps) (bind_in p present c scene) name e r i
          (come_to_know (truly maps) (bind_in p present c scene) name e r (next maps)) t)
      marked i =
          never_number taken (λ maps z. inhale_at_mark (truly maps) (bind_in p present c scene) name e r z
          (come_to_know (truly maps) (bind_in p present c scene) name e r (next maps)) t) i never

      true_of : (i : ℤ) → within r.low r.high i ≡ true → (v : Value) → value_at (sight_at p present c) (at scene name i) e
          ≡ Some v → truth_in v ≡ true
      true_of i in' v is =
          let f =
          facts i in' in let same = same_value_read p flags present sound f.0 v
          (value_at (sight_at p present c) (at scene name i) e) f.1 is in
          ap truth_in same ∙ f.2

      -- the run can evaluate the fact at each position, since it doesn't fail at that mark
      all : (i : ℤ) → within r.low r.high i ≡ true → (v : Value)
          × (value_on (contents_of taken (cells_of t)) c.known present (at scene name i) e ≡ Some v)
      all i in' =
          arrays_passed taken (home_at p present c) c.speech c.scope present scene fits (contents_of taken (cells_of t)) c.known
          (view_at p flags present sound c taken t fine) c.old settled t cells_of (λ l. settled_of flags present taken t fine)
          ((v : Value) × (value_on (contents_of taken (cells_of t)) c.known present (at scene name i) e ≡ Some v))
          (looks_of name e) good.1
          (λ maps parts later. notice_parts (truly maps) parts (i ∷ (i +ℤ pos 1) ∷ r.bounds)
          (value_now (truly maps) (bind_at (bind_in p present c scene) name i) e
          (λ v last. if_true (truly maps) v (come_to_know (truly maps) (bind_in p present c scene) name e r (next maps) last))
          later))
          (λ parts m agrees n.
          following taken (home_at p present c) c.speech ((name, Int) ∷ c.scope) present (at scene name i)
          (position_fits (home_at p present c) c.speech c.scope present scene name i fits)
          (LengthsAgree present) (λ l q. q) (λ l t a n q at is. more_agree present l t a n q at)
          (contents_of taken (cells_of t)) c.known (view_at p flags present sound c taken t fine) c.old settled t cells_of
          (λ l. settled_of flags present taken t fine)
          (λ maps. no_frame (truly maps))
          ((v : Value) × (value_on (contents_of taken (cells_of t)) c.known present (at scene name i) e ≡ Some v)) e Truth good.0
          (λ place k agreed none n. absurd (n.never [] check.Frame place refl))
          (λ maps v last. if_true (truly maps) v (come_to_know (truly maps) (bind_in p present c scene) name e r
          (next maps) last)) (λ v k agreed typed on n. (v, on)) m agrees
          (never_as taken _ _ (λ picks. notice_none (all_maps taken picks) parts (i ∷ (i +ℤ pos 1) ∷ r.bounds) _) n))
          t.lengths fine.agree
          (tested_true taken (within r.low r.high i) in' _ _ (marked i))

      reads : (i : ℤ) (in' : within r.low r.high i ≡ true) (other : Sight)
          → Sees present (contents_of taken (cells_of t)) c.known other → value_at other (at scene name i) e ≡ Some (all i in').0
      reads i in' other sees =
          on_reads present (contents_of taken (cells_of t)) c.known other sees (at scene name i) e (all i in').0 (all i in').1

      passed : (i : ℤ) → within r.low r.high i ≡ true → (m : Lengths)
          → Looked taken (home_at p present c) c.speech c.scope present scene fits (contents_of taken (cells_of t)) c.known
          (view_at p flags present sound c taken t fine) c.old settled t cells_of (λ l. settled_of flags present taken t fine) m
          (looks_of name e)
          → (picks : List Pick) (rest : Judged)
          → evaluate (test_reader (tests_of taken picks) (with_lengths t m) (cells_of t))
          (test_reader (tests_of taken picks) (with_lengths t m) c.old) (at scene name i) e
          (λ v. if truth_in v then rest else (tests_of taken picks).blocked) ≡ rest
      passed i in' m looked picks rest =
          tests present (at scene name i) (with_lengths t m) taken picks (contents_of taken (cells_of t)) c.known
          (cells_of t) c.old (settled_of flags present taken t fine) settled e (all i in').0
          (known_in taken (home_at p present c) c.speech c.scope name i new present scene fits
          (contents_of taken (cells_of t)) c.known (view_at p flags present sound c taken t fine) c.old settled t cells_of
          (λ l. settled_of flags present taken t fine)
          (with_lengths t m) false e good.1 looked)
          (all i in').1 (λ v. if truth_in v then rest else (tests_of taken picks).blocked)
          ∙ ap (λ b. if b then rest else (tests_of taken picks).blocked)
          (true_of i in' (all i in').0 (reads i in' (sight_at p present c) (sees_at p flags present sound c taken t fine)))

  cuts_same : (sight : Sight) (scene : Scene) (cuts : List Cut) (r : Range) (x y : Option Range) → CutsTo sight scene cuts r x
      → CutsTo sight scene cuts r y → x ≡ y
  cuts_same sight scene [] r x y a b = a ∙ sym b
  cuts_same sight scene (guard ∷ cuts) r x y (inl a) (inl b) = a.1 ∙ sym b.1
  cuts_same sight scene (guard ∷ cuts) r x y (inl a) (inr b) = let one = a.0 in let two = b.0 in absurd (cc (one, two))
  cuts_same sight scene (guard ∷ cuts) r x y (inr a) (inl b) = let one = a.0 in let two = b.0 in absurd (cc (one, two))
  cuts_same sight scene (guard ∷ cuts) r x y (inr a) (inr b) =
      let same : a.1.0 ≡ b.1.0 = same_Some a.1.0 b.1.0 (sym a.1.1 ∙ b.1.1) in
      cuts_same sight scene cuts (cut_by guard b.1.0 r) x y
      (subst (λ v. CutsTo sight scene cuts (cut_by guard v r) x) same a.1.2) b.1.2

  guarded_gains : (c : Place p present) (scene : Scene) → SceneFits (home_at p present c) c.speech c.scope present scene
      → (name : Name) (r : Range) (cuts : List Cut) (i : Item) (span : Span)
      → IsGoodItem (home_at p present c) c.speech c.scope name (Guarded cuts i span) → (R : Amounts) (last : Option Range)
      → CutsTo (sight_at p present c) scene cuts r last
      → (last ≡ None → (other : Sight) → CutsTo other scene cuts r None
      → OwnsItem p flags other scene name r (Guarded cuts i span) R)
      → ((x : Range) → last ≡ Some x → Gains p flags present c (λ sight. OwnsItem p flags sight scene name x i)
      (λ maps. inhale_item (truly maps) (bind_in p present c scene) name x i) R)
      → Gains p flags present c (λ sight. OwnsItem p flags sight scene name r (Guarded cuts i span))
      (λ maps. inhale_item (truly maps) (bind_in p present c scene) name r (Guarded cuts i span)) R
  guarded_gains c scene fits name r cuts i span good R last cuts_to off inner taken t settled fine T trees fit next never =
      cutting taken (home_at p present c) c.speech c.scope present scene fits (contents_of taken (cells_of t)) c.known
      (view_at p flags present sound c taken t fine) c.old settled t cells_of (λ l. settled_of flags present taken t fine) _ _
      (λ place m agrees n. absurd (n.never [] check.Frame place refl)) cuts good.0 r next _
      (λ m agrees to n. gained_none p flags present sound c _ taken t fine m agrees T R trees next n
      (λ other sees later. off (cuts_same (sight_at p present c) scene cuts r last None cuts_to
      (to (sight_at p present c) (sees_at p flags present sound c taken t fine))) other (to other sees)))
      (λ x m agrees to n. gained_as p flags present sound c _ _ taken t m T R next (λ other sees o. cut x (to other sees) o)
      (inner x (cuts_same (sight_at p present c) scene cuts r last (Some x) cuts_to
      (to (sight_at p present c) (sees_at p flags present sound c taken t fine))) taken (with_lengths t m) settled
      (known_fine p flags present sound taken t m fine agrees) T trees fit next n))
      t.lengths fine.agree never

  fixed_gains : (c : Place p present) (scene : Scene) → SceneFits (home_at p present c) c.speech c.scope present scene
      → (name : Name) → (r : Range) (e : Expression) (f : Formula) (span : Span)
      → IsGoodItem (home_at p present c) c.speech c.scope name (Fixed e f span) → (R : Amounts) (v : Value)
      → value_at (sight_at p present c) scene e ≡ Some v
      → (within r.low r.high (number_in v) ≡ false → (other : Sight) → value_at other scene e ≡ Some v
      → OwnsItem p flags other scene name r (Fixed e f span) R)
      → (within r.low r.high (number_in v) ≡ true → Gains p flags present c (λ sight. Owns p flags sight
      (at scene name (number_in v)) f) (λ maps. inhale (truly maps) (bind_in p present c (at scene name (number_in v))) f) R)
      → Gains p flags present c (λ sight. OwnsItem p flags sight scene name r (Fixed e f span))
      (λ maps next. value_now (truly maps) (bind_in p present c scene) e
      (λ v later. if_within (truly maps) r.low r.high (number_in v) (next later)
      (inhale (truly maps) (bind_in p present c (at scene name (number_in v))) f next later))) R
  fixed_gains c scene fits name r e f span good R v is_v off inner taken t settled fine T trees fit next never =
      reading taken (home_at p present c) c.speech c.scope present scene fits (contents_of taken (cells_of t)) c.known
      (view_at p flags present sound c taken t fine) c.old settled t cells_of (λ l. settled_of flags present taken t fine) _ _
      (λ place m agrees n. absurd (n.never [] check.Frame place refl)) e Int good.0 _
      (λ w m agrees typed reads n.
      let same =
      same_value_read p flags present sound v w (value_at (sight_at p present c) scene e) is_v
      (reads (sight_at p present c) (sees_at p flags present sound c taken t fine)) in
      go m agrees (λ other sees. reads other sees ∙ ap Some same) (within r.low r.high (number_in v)) refl
      (subst (λ z. RestNeverFails taken (λ maps. if within r.low r.high (number_in z) then inhale (truly maps)
      (bind_in p present c (at scene name (number_in z))) f (next maps) (with_lengths t m) else (next maps) (with_lengths t m)))
      same n))
      t.lengths fine.agree never
    where
      go : (m : Lengths) → LengthsAgree present m → ((sight : Sight) → Sees present (contents_of taken (cells_of t)) c.known sight
          → value_at sight scene e ≡ Some v)
          → (b : Bool) → within r.low r.high (number_in v) ≡ b
          → RestNeverFails taken (λ maps. if b then inhale (truly maps) (bind_in p present c (at scene name (number_in v))) f
          (next maps) (with_lengths t m) else (next maps) (with_lengths t m))
          → Gained p flags present c.known (λ sight. OwnsItem p flags sight scene name r (Fixed e f span)) taken t T R next
      go m agrees reads true is n =
          gained_as p flags present sound c _ _ taken t m T R next (λ other sees o. fixed v (reads other sees) is o)
          (inner is taken (with_lengths t m) settled (known_fine p flags present sound taken t m fine agrees) T trees fit next n)
      go m agrees reads false is n =
          gained_none p flags present sound c _ taken t fine m agrees T R trees next n
          (λ other sees later. off is other (reads other sees))

  -- by the range: nothing is done at none
  by_range : (c : Place p present) (Owning : Sight → Amounts → Type 0) (r : Range) (run : Maps → Next Judged → Next Judged)
      (R : Amounts)
      → (is_empty r.low r.high ≡ true → (other : Sight) → Owning other R)
      → (is_empty r.low r.high ≡ false → Gains p flags present c Owning run R)
      → Gains p flags present c Owning (λ maps next state. unless_empty (truly maps) r (next state) (run maps next state)) R
  by_range c Owning r run R none some taken t settled fine T trees fit next never = go (is_empty r.low r.high) refl never
    where
      go : (b : Bool) → is_empty r.low r.high ≡ b → RestNeverFails taken (λ maps. if b then (next maps) t else run maps
          (next maps) t) → Gained p flags present c.known Owning taken t T R next
      go true e n =
          gained_none p flags present sound c _ taken t fine t.lengths fine.agree T R trees next n
          (λ other sees later. none e other)
      go false e n = some e taken t settled fine T trees fit next n

  abbrev GainsItem : Place p present → Scene → Name → Range → Item → Amounts → Type 0
  GainsItem c scene name r i R =
      Gains p flags present c (λ sight. OwnsItem p flags sight scene name r i)
      (λ maps. inhale_item (truly maps) (bind_in p present c scene) name r i) R

  -- what is done with an item at a range that isn't empty
  abbrev elements_run : Place p present → Scene → Range → PvType → Expression → ℤ → ℕ → Maps → Next Judged → Next Judged
  elements_run c scene r type array shift amount maps next =
      value_now (truly maps) (bind_in p present c scene) array
      (λ a. gain_range (truly maps) type (reference_in a) (r.low +ℤ shift) (r.high +ℤ shift)
      (shifted (r.low ∷ r.high ∷ r.bounds) shift) amount next)

  abbrev committed_run : Place p present → Scene → Name → Expression → Maps → Next Judged → Next Judged
  committed_run c scene class e maps next =
      value_now (truly maps) (bind_in p present c scene) e
      (λ o. add_token (truly maps) token.Committed class (reference_in o) next)

  abbrev fixed_run : Place p present → Scene → Name → Range → Expression → Formula → Maps → Next Judged → Next Judged
  fixed_run c scene name r e f maps next =
      value_now (truly maps) (bind_in p present c scene) e
      (λ v later. if_within (truly maps) r.low r.high (number_in v) (next later)
      (inhale (truly maps) (bind_in p present c (at scene name (number_in v))) f next later))

  full_not_empty : {A : Type 0} (low high : ℤ) → is_empty low high ≡ true → is_empty low high ≡ false → A
  full_not_empty low high a b = absurd (cc (a, b))

  -- an item at no position
  nothing_gains : (c : Place p present) (scene : Scene) → SceneFits (home_at p present c) c.speech c.scope present scene
      → (name : Name) (i : Item) (r : Range) → IsGoodItem (home_at p present c) c.speech c.scope name i
      → (R : Amounts) → is_empty r.low r.high ≡ true → GainsItem c scene name r i R
  nothing_gains c scene fits name (Elements type array shift amount span) r good R e =
      by_range c _ r (elements_run c scene r type array shift amount) R (λ is other. nothing is)
      (λ full. full_not_empty r.low r.high e full)
  nothing_gains c scene fits name (Repeated x span) r good R e =
      by_range c _ r (λ maps. inhale_repeated (truly maps) (bind_in p present c scene) name x r) R (λ is other. nothing is)
      (λ full. full_not_empty r.low r.high e full)
  nothing_gains c scene fits name (Committed class x span) r good R e =
      by_range c _ r (committed_run c scene class x) R (λ is other. nothing is) (λ full. full_not_empty r.low r.high e full)
  nothing_gains c scene fits name (Fixed x f span) r good R e =
      by_range c _ r (fixed_run c scene name r x f) R (λ is other. nothing is) (λ full. full_not_empty r.low r.high e full)
  nothing_gains c scene fits name (Guarded [] i span) r good R e =
      guarded_gains c scene fits name r [] i span good R (Some r) refl (λ z. absurd (none-some r (sym z)))
      (λ x is. subst (λ y. GainsItem c scene name y i R) (same_Some r x is) (nothing_gains c scene fits name i r good.1 R e))
  nothing_gains c scene fits name (Guarded (guard ∷ cuts) i span) r good R e =
      guarded_gains c scene fits name r (guard ∷ cuts) i span good R None (inl (e, refl)) (λ z other to. cut_off to)
      (λ x is. absurd (none-some x is))

  flagged_gains : (c : Place p present) (scene : Scene) → SceneFits (home_at p present c) c.speech c.scope present scene
      → (k : Token) (class : Name) (e : Expression) (span : Span)
      → IsGood (home_at p present c) c.speech c.scope (Holds k class e span) → (R : Amounts) (o : Value)
      → value_at (sight_at p present c) scene e ≡ Some o → is_committed k ≡ true → flags (reference_in o) ≡ true
      → Gains p flags present c (λ sight. Owns p flags sight scene (Holds k class e span))
      (λ maps. inhale (truly maps) (bind_in p present c scene) (Holds k class e span)) R
  flagged_gains c scene fits token.Idle class e span good R o is_o is flagged = absurd (cc is)
  flagged_gains c scene fits token.Running class e span good R o is_o is flagged = absurd (cc is)
  flagged_gains c scene fits token.Uncommitted class e span good R o is_o is flagged = absurd (cc is)
  flagged_gains c scene fits token.Committed class e span good R o is_o is flagged =
      committed_gains p flags present sound c scene fits _ class e good R o is_o flagged
      (λ other w at there. known w at refl there)

  star_gains : (c : Place p present) (scene : Scene) (a b : Formula) (R A B : Amounts) → ((r : Resource) → A r + B r ≤ R r)
      → Gains p flags present c (λ sight. Owns p flags sight scene a)
      (λ maps. inhale (truly maps) (bind_in p present c scene) a) A
      → Gains p flags present c (λ sight. Owns p flags sight scene b)
      (λ maps. inhale (truly maps) (bind_in p present c scene) b) B
      → Gains p flags present c (λ sight. Owns p flags sight scene (Star a b))
      (λ maps. inhale (truly maps) (bind_in p present c scene) (Star a b)) R
  star_gains c scene a b R A B parts first second taken t settled fine T trees fit next never =
      let g =
      first taken t settled fine T trees (λ r. let f = fit r in let s = parts r in omega (arith, f, s))
      (λ maps. inhale (truly maps) (bind_in p present c scene) b (next maps)) never in
      gained_both p flags present sound c _ _ _ taken t T A B R _ next parts (λ other x y. star A B x y parts) g
      (second g.then_taken g.after (settled_on taken g.then_taken g.goes c.old c.known settled) g.fine g.trees g.has_trees
      (λ r. let f = fit r in let s = parts r in let q = g.sum r in omega (arith, f, s, q)) next g.never)

  joined_gains : (c : Place p present) (scene : Scene) (name : Name) (low high : ℤ) (i : Item) (is : Items) (R A B : Amounts)
      → ((r : Resource) → A r + B r ≤ R r)
      → GainsItem c scene name (range_of low high) i A → Gains p flags present c
      (λ sight. OwnsItems p flags sight scene name low high is)
      (λ maps. inhale_items (truly maps) (bind_in p present c scene) name low high is) B
      → Gains p flags present c (λ sight. OwnsItems p flags sight scene name low high (Join i is))
      (λ maps. inhale_items (truly maps) (bind_in p present c scene) name low high (Join i is)) R
  joined_gains c scene name low high i is R A B parts first second taken t settled fine T trees fit next never =
      let g =
      first taken t settled fine T trees (λ r. let f = fit r in let s = parts r in omega (arith, f, s))
      (λ maps. inhale_items (truly maps) (bind_in p present c scene) name low high is (next maps)) never in
      gained_both p flags present sound c _ _ _ taken t T A B R _ next parts (λ other x y. joined A B x y parts) g
      (second g.then_taken g.after (settled_on taken g.then_taken g.goes c.old c.known settled) g.fine g.trees g.has_trees
      (λ r. let f = fit r in let s = parts r in let q = g.sum r in omega (arith, f, s, q)) next g.never)

  each_gains : (c : Place p present) (scene : Scene) → SceneFits (home_at p present c) c.speech c.scope present scene
      → (name : Name) (low high : Expression) (items : Items) (span : Span)
      → IsGood (home_at p present c) c.speech c.scope (Each name low high items span) → (R : Amounts) (l u : Value)
      → value_at (sight_at p present c) scene low ≡ Some l → value_at (sight_at p present c) scene high ≡ Some u
      → Gains p flags present c (λ sight. OwnsItems p flags sight scene name (number_in l) (number_in u) items)
      (λ maps. inhale_items (truly maps) (bind_in p present c scene) name (number_in l) (number_in u) items) R
      → Gains p flags present c (λ sight. Owns p flags sight scene (Each name low high items span))
      (λ maps. inhale (truly maps) (bind_in p present c scene) (Each name low high items span)) R
  each_gains c scene fits name low high items span good R l u is_l is_u inner taken t settled fine T trees fit next never =
      reading taken (home_at p present c) c.speech c.scope present scene fits (contents_of taken (cells_of t)) c.known
      (view_at p flags present sound c taken t fine) c.old settled t cells_of (λ l. settled_of flags present taken t fine) _ _
      (λ place m agrees n. absurd (n.never [] check.Frame place refl)) low Int good.0 _
      (λ x m agrees typed reads n. reading taken (home_at p present c) c.speech c.scope present scene fits
      (contents_of taken (cells_of t)) c.known (view_at p flags present sound c taken t fine) c.old settled t cells_of
      (λ l. settled_of flags present taken t fine) _ _
      (λ place m agrees n. absurd (n.never [] check.Frame place refl)) high Int good.1 _
      (λ y k agreed number indexed n.
      let one =
      same_value_read p flags present sound l x (value_at (sight_at p present c) scene low) is_l
      (reads (sight_at p present c) (sees_at p flags present sound c taken t fine)) in
      let two =
      same_value_read p flags present sound u y (value_at (sight_at p present c) scene high) is_u
      (indexed (sight_at p present c) (sees_at p flags present sound c taken t fine)) in
      gained_as p flags present sound c _ _ taken t k T R next (λ other sees o. each l u (reads other sees ∙ ap Some one)
      (indexed other sees ∙ ap Some two) o)
      (inner taken (with_lengths t k) settled (known_fine p flags present sound taken t k fine agreed) T trees fit next
      (subst (λ z. RestNeverFails taken (λ maps. inhale_items (truly maps) (bind_in p present c scene) name (number_in l)
      (number_in z) items (next maps) (with_lengths t k))) two
      (subst (λ z. RestNeverFails taken (λ maps. inhale_items (truly maps) (bind_in p present c scene) name (number_in z)
      (number_in y) items (next maps) (with_lengths t k))) one n))))
      m agrees n)
      t.lengths fine.agree never

  body_fine : (o : ℕ) (d : Predicate) (vs : List Value) (met : List (PvType × ℕ)) → AllBelow present.count met
      → StateFits flags present nothing_taken (body_state o d vs met)
  body_fine o d vs met below = record {
    steps = refl;
    agree = λ t a n is. absurd (none-some n is);
    holds = λ r h is. absurd (none-some h is);
    knows = λ d o is. absurd (cc is);
    met = below;
  }

  mutual
    pub formula_gains : (c : Place p present) (scene : Scene) → SceneFits (home_at p present c) c.speech c.scope present scene
        → (f : Formula) → IsGood (home_at p present c) c.speech c.scope f
        → (R : Amounts) → Owns p flags (sight_at p present c) scene f R
        → Gains p flags present c (λ sight. Owns p flags sight scene f)
        (λ maps. inhale (truly maps) (bind_in p present c scene) f) R
    formula_gains c scene fits (Fact e span) good R (fact v is_v is) =
        fact_gains p flags present sound c scene fits e span good R v is_v is
    formula_gains c scene fits (FieldPermission e class name type amount span) good R (field o is_o placed enough) =
        field_gains p flags present sound c scene fits e class name type amount span good R o is_o placed enough
    formula_gains c scene fits (ElementPermission type array index amount span) good R (element a i is_a is_i placed enough) =
        element_gains p flags present sound c scene fits type array index amount span good R a i is_a is_i placed enough
    formula_gains c scene fits (Holds k class e span) good R (holds o is_o apart placed enough) =
        token_gains p flags present sound c scene fits k class e span good R o is_o apart placed enough
    formula_gains c scene fits (Holds k class e span) good R (known o is_o is flagged) =
        flagged_gains c scene fits k class e span good R o is_o is flagged
    formula_gains c scene fits (Instance class name e arguments span) good R (folded o vs d is_o is_vs named owns) =
        instance_gains c scene fits class name e arguments span good R o vs d is_o is_vs named owns
        (λ met below fits' most never. formula_gains (body_place class d)
        (outer_scene (reference_in o) d.parameters vs) fits' d.body (framed.good class name d named) R owns
        nothing_taken (body_state (reference_in o) d vs met) (λ picks r. refl) (body_fine (reference_in o) d vs met below)
        (λ r. 0) tt (λ r. let m = most r in omega (arith, m))
        (λ maps. finish (truly maps)) never)
    formula_gains c scene fits (Star a b) good R (star A B first second parts) =
        star_gains c scene a b R A B parts (formula_gains c scene fits a good.0 A first)
        (formula_gains c scene fits b good.1 B second)
    formula_gains c scene fits (When e f span) good R (when_on v is_v is owns) =
        when_on_gains c scene fits e f span good R v is_v is (formula_gains c scene fits f good.1 R owns)
    formula_gains c scene fits (When e f span) good R (when_off v is_v is) = when_off_gains c scene fits e f span good R v is_v is
    formula_gains c scene fits (Each name low high items span) good R (each l u is_l is_u owns) =
        each_gains c scene fits name low high items span good R l u is_l is_u
        (items_gain c scene fits name good.2 (number_in l) (number_in u) items good.3 R owns)

    pub items_gain : (c : Place p present) (scene : Scene) → SceneFits (home_at p present c) c.speech c.scope present scene
        → (name : Name) → type_in c.scope name ≡ None → (low high : ℤ) (items : Items)
        → AreGoodItems (home_at p present c) c.speech c.scope name items → (R : Amounts)
        → OwnsItems p flags (sight_at p present c) scene name low high items R
        → Gains p flags present c (λ sight. OwnsItems p flags sight scene name low high items)
        (λ maps. inhale_items (truly maps) (bind_in p present c scene) name low high items) R
    items_gain c scene fits name new low high NoItems good R no_items =
        λ taken t settled fine T trees fit next never. gained_none p flags present sound c _ taken t fine t.lengths fine.agree T R
        trees next never
        (λ other sees later. no_items)
    items_gain c scene fits name new low high (Join i is) good R (joined A B first second parts) =
        joined_gains c scene name low high i is R A B parts
        (item_gains c scene fits name new (range_of low high) i good.0 A first)
        (items_gain c scene fits name new low high is good.1 B second)

    pub item_gains : (c : Place p present) (scene : Scene) → SceneFits (home_at p present c) c.speech c.scope present scene
        → (name : Name) → type_in c.scope name ≡ None → (r : Range) (i : Item)
        → IsGoodItem (home_at p present c) c.speech c.scope name i → (R : Amounts)
        → OwnsItem p flags (sight_at p present c) scene name r i R → GainsItem c scene name r i R
    item_gains c scene fits name new r i good R (nothing e) = nothing_gains c scene fits name i r good R e
    item_gains c scene fits name new r (Elements type array shift amount span) good R (elements a is_a facts) =
        by_range c _ r (elements_run c scene r type array shift amount) R (λ e other. nothing e)
        (λ full. elements_gain c scene fits name r type array shift amount span good full R a is_a facts)
    item_gains c scene fits name new r (Repeated e span) good R (repeated facts) =
        by_range c _ r (λ maps. inhale_repeated (truly maps) (bind_in p present c scene) name e r) R (λ is other. nothing is)
        (λ full. repeated_gains c scene fits name new r e span good full R facts)
    item_gains c scene fits name new r (Committed class e span) good R (committed o is_o flagged) =
        by_range c _ r (committed_run c scene class e) R (λ is other. nothing is)
        (λ full. committed_gains p flags present sound c scene fits _ class e good R o is_o flagged
        (λ other w is there. committed w is there))
    item_gains c scene fits name new r (Guarded cuts i span) good R (cut_off to) =
        guarded_gains c scene fits name r cuts i span good R None to (λ z other to. cut_off to) (λ x is. absurd (none-some x is))
    item_gains c scene fits name new r (Guarded cuts i span) good R (cut x to owns) =
        guarded_gains c scene fits name r cuts i span good R (Some x) to (λ z. absurd (none-some x (sym z)))
        (λ y is. subst (λ z. GainsItem c scene name z i R) (same_Some x y is)
        (item_gains c scene fits name new x i good.1 R owns))
    item_gains c scene fits name new r (Fixed e f span) good R (fixed v is_v in' owns) =
        by_range c _ r (fixed_run c scene name r e f) R (λ is other. nothing is)
        (λ full. fixed_gains c scene fits name r e f span good R v is_v (λ out other is. absurd (cc (out, in')))
        (λ in'. formula_gains (record c { scope = (name, Int) ∷ c.scope }) (at scene name (number_in v))
        (position_fits (home_at p present c) c.speech c.scope present scene name (number_in v) fits) f good.1 R owns))
    item_gains c scene fits name new r (Fixed e f span) good R (beside v is_v out) =
        by_range c _ r (fixed_run c scene name r e f) R (λ is other. nothing is)
        (λ full. fixed_gains c scene fits name r e f span good R v is_v (λ out other is. beside v is out)
        (λ in'. absurd (cc (out, in'))))
