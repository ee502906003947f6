-- Facts, permissions, tokens and what is known committed can be taken in where they are owned; one part after another.
use Rattle.std.proofs.Common.{◌≡◌, inl, inr, ℕ, ◌+◌, ◌≤◌, pos, Bool, true, false, ◌&&◌, if◌then◌else◌, Option, Some, [], refl, ap, sym, subst, ◌∙◌, arith}
use Rattle.std.specs.Prelude.{nat_eq, ◌||◌, option_map}
use Rattle.std.proofs.lemmas.Option.{same_Some}
use Rattle.pv_base.specs.declared.Name.{Name}
use Rattle.pv_base.specs.declared.Span.{Span}
use Rattle.pv_ast.specs.declared.PvType.{PvType}
use Rattle.pv_ast.specs.declared.PvType.TheVariants.{Int, Truth, Object}
use Rattle.pv_ast.specs.declared.Token.{Token}
use Rattle.pv_ast.specs.declared.Token.TheVariants as token
use Rattle.pv_values.specs.declared.value.Value.{Value}
use Rattle.pv_values.specs.declared.value.Value.TheVariants as value
use Rattle.pv_values.specs.declared.value.Location.TheVariants as location
use Rattle.pv_base.specs.Names.{same_name}
use Rattle.pv_fraction.specs.Amounts.{whole}
use Rattle.pv_picks.specs.declared.check.Check.TheVariants as check
use Rattle.pv_picks.specs.Plain.Core.{Expression, Fact, FieldPermission, ElementPermission, Holds, Program}
use Rattle.pv_picks.specs.Formulas.Values.{number_in, truth_in, reference_in, array_of, within}
use Rattle.pv_picks.specs.Formulas.Heaps.{Heap}
use Rattle.pv_picks.specs.Formulas.Evaluation.{Scene}
use Rattle.pv_picks.specs.Formulas.Meeting.{Sight}
use Rattle.pv_picks.specs.Machine.Starts.{field_kind, kind_of}
use Rattle.pv_picks.specs.Judge.States.{Resource, InField, InElement, OfToken, State, cells_of, same_resource, with_committed}
use Rattle.pv_picks.specs.Judge.Settings.{Next}
use Rattle.pv_picks.specs.Judge.Permissions.{gain, gain_element, add_whole, add_token}
use Rattle.pv_picks.specs.Judge.Inhaling.{value_now, inhale}
use Rattle.pv_picks.specs.Judge.Runs.{Judged, Maps}
use Rattle.pv_picks.specs.Typing.Expressions.{IsElement, Says}
use Rattle.pv_picks.specs.Typing.Frames.{HasType}
use Rattle.pv_picks.proofs.Sames.{resources_same, naturals_same}
use Rattle.account_formulas.specs.Sights.{Lengths, LengthsAgree, Sees, SceneFits, value_at}
use Rattle.account_formulas.specs.Runs.{Taken, truly, RestNeverFails, contents_of, with_lengths}
use Rattle.account_formulas.specs.Good.{IsGood}
use Rattle.account_formulas.specs.Owning.{Amounts, IsPlaced, Owns, Owns.fact, Owns.field, Owns.element, Owns.holds, HasTrees, KeepsHeld, is_committed}
use Rattle.account_formulas.specs.Growing.{StateFits, Place, HeapFits, IsPicked}
use Rattle.account_formulas.specs.Gaining.{Gained, home_at, sight_at, bind_in, Gains}
use Rattle.account_formulas.proofs.Basics.{only}
use Rattle.account_formulas.proofs.TypedReads.{View, field_typed, element_typed}
use Rattle.account_formulas.proofs.Lengths.{goes_on_same, goes_on_then, length_looked}
use Rattle.account_formulas.proofs.Evaluating.{reading}
use Rattle.account_formulas.proofs.Raising.{settled_of, contents_fine, sees_less, some_of, GainedOne, gain_goes, add_goes}
use Rattle.account_formulas.proofs.Ranging.{tested_true, tested_false, not_null_element}

module _ (p : Program) (flags : ℕ → Bool) (present : Heap) (sound : HeapFits p present) where
  abbrev pub sees_at : (c : Place p present) (taken : Taken) (t : State) → StateFits flags present taken t
      → Sees present (contents_of taken (cells_of t)) c.known (sight_at p present c)
  sees_at c taken t fine =
      record {
        now = contents_fine flags present taken t fine;
        before = c.agrees;
        now_lengths = λ a n is. is;
        old_lengths = c.lengths;
      }

  abbrev pub view_at : (c : Place p present) (taken : Taken) (t : State) → StateFits flags present taken t
      → View (field_kind p) present (contents_of taken (cells_of t)) c.known
  view_at c taken t fine =
      record {
        sight = sight_at p present c;
        sees = sees_at c taken t fine;
        now = sound.now;
        before = c.before;
        natural = sound.natural;
      }

  pub known_fine : (taken : Taken) (t : State) (m : Lengths) → StateFits flags present taken t → LengthsAgree present m
      → StateFits flags present taken (with_lengths t m)
  known_fine taken t m fine agrees =
      record { steps = fine.steps; agree = agrees; holds = fine.holds; knows = fine.knows; met = fine.met }

  only_less : (R : Amounts) (r : Resource) (a : ℕ) → a ≤ R r → (q : Resource) → only r a q ≤ R q
  only_less R r a enough q = go (same_resource q r) refl
    where
      go : (b : Bool) → same_resource q r ≡ b → (if b then a else 0) ≤ R q
      go true e = let same = ap R (resources_same q r e) in omega (arith, same, enough)
      go false e = omega arith

  -- nothing but lengths is learned
  -- nothing but lengths is learned
  pub gained_none : (c : Place p present) (Owning : Sight → Amounts → Type 0) (taken : Taken) (t : State)
      → StateFits flags present taken t → (m : Lengths) → LengthsAgree present m → (T R : Amounts)
      → HasTrees p flags present t.instances T → (next : Maps → Next Judged)
      → RestNeverFails taken (λ maps. next maps (with_lengths t m))
      → ((other : Sight) → Sees present (contents_of taken (cells_of t)) c.known other → KeepsHeld R present other.now
      → Owning other R)
      → Gained p flags present c.known Owning taken t T R next
  gained_none c Owning taken t fine m agrees T R trees next never stable = record {
    then_taken = taken;
    after = with_lengths t m;
    trees = T;
    never = never;
    goes = goes_on_same taken;
    scene = refl;
    kept = refl;
    fine = known_fine taken t m fine agrees;
    grows = λ r x is. is;
    has_trees = trees;
    sum = λ r. omega arith;
    stable = stable;
  }

  gained_one : (c : Place p present) (Owning : Sight → Amounts → Type 0) (taken : Taken) (t : State) (m : Lengths) (T R : Amounts)
      → HasTrees p flags present t.instances T → (next : Maps → Next Judged)
      → (r : Resource) (a : ℕ) → a ≤ R r → GainedOne flags present taken (with_lengths t m) r a next
      → ((other : Sight) → Sees present (contents_of taken (cells_of t)) c.known other → KeepsHeld R present other.now
      → Owning other R)
      → Gained p flags present c.known Owning taken t T R next
  gained_one c Owning taken t m T R trees next r a enough g stable = record {
    then_taken = taken;
    after = g.after;
    trees = T;
    never = g.never;
    goes = goes_on_same taken;
    scene = g.scene;
    kept = g.kept;
    fine = g.raised.fine;
    grows = g.raised.grows;
    has_trees = subst (λ I. HasTrees p flags present I T) (sym g.instances) trees;
    sum = λ q. let e = g.sum q in let l = only_less R r a enough q in omega (arith, e, l);
    stable =
        λ other sees later. stable other (sees_less present (contents_of taken (cells_of t))
        (contents_of taken (cells_of g.after)) c.known other g.raised.grows sees) later;
  }

  pub same_value_read : (o q : Value) (x : Option Value) → x ≡ Some o → x ≡ Some q → q ≡ o
  same_value_read o q x a b = same_Some q o (sym b ∙ a)

  not_null_field : (class name : Name) (o : ℕ) → IsPlaced present (InField class o name) → nat_eq o 0 ≡ false
  not_null_field class name o placed = go (nat_eq o 0) refl
    where
      go : (b : Bool) → nat_eq o 0 ≡ b → b ≡ false
      go false e = refl
      go true e = let same : o ≡ 0 = naturals_same o 0 e in
          let none = sound.now.no_fields name in
          let some = some_of (present.value (location.Field o name)) placed.1 in
          let here = subst (λ z. present.value (location.Field z name) ≡ Some some.0) same some.1 in absurd (cc (none, here))

  pub fact_gains : (c : Place p present) (scene : Scene) → SceneFits (home_at p present c) c.speech c.scope present scene
      → (e : Expression) (span : Span)
      → IsGood (home_at p present c) c.speech c.scope (Fact e span) → (R : Amounts) (v : Value)
      → value_at (sight_at p present c) scene e ≡ Some v → truth_in v ≡ true
      → Gains p flags present c (λ sight. Owns p flags sight scene (Fact e span))
      (λ maps. inhale (truly maps) (bind_in p present c scene) (Fact e span)) R
  fact_gains c scene fits e span good R v is_v is taken t settled fine T trees fit next never =
      reading taken (home_at p present c) c.speech c.scope present scene fits (contents_of taken (cells_of t)) c.known
      (view_at c taken t fine) c.old settled t cells_of (λ l. settled_of flags present taken t fine) _ _
      (λ place m agrees n. absurd (n.never [] check.Frame place refl)) e Truth good _
      (λ w m agrees typed reads n.
      let same =
      same_value_read v w (value_at (sight_at p present c) scene e) is_v
      (reads (sight_at p present c) (sees_at c taken t fine)) in
      let true' : truth_in w ≡ true = ap truth_in same ∙ is in
      gained_none c _ taken t fine m agrees T R trees next (tested_true taken (truth_in w) true' _ _ n)
      (λ other sees later. fact w (reads other sees) true'))
      t.lengths fine.agree never

  pub field_gains : (c : Place p present) (scene : Scene) → SceneFits (home_at p present c) c.speech c.scope present scene
      → (e : Expression) (class name : Name) (type : PvType) (amount : ℕ) (span : Span)
      → IsGood (home_at p present c) c.speech c.scope (FieldPermission e class name type amount span)
      → (R : Amounts) (o : Value) → value_at (sight_at p present c) scene e ≡ Some o
      → IsPlaced present (InField class (reference_in o) name) → amount ≤ R (InField class (reference_in o) name)
      → Gains p flags present c (λ sight. Owns p flags sight scene (FieldPermission e class name type amount span))
      (λ maps. inhale (truly maps) (bind_in p present c scene) (FieldPermission e class name type amount span)) R
  field_gains c scene fits e class name type amount span good R o is_o placed enough taken t settled fine T trees fit next never =
      reading taken (home_at p present c) c.speech c.scope present scene fits (contents_of taken (cells_of t)) c.known
      (view_at c taken t fine) c.old settled t cells_of (λ l. settled_of flags present taken t fine) _ _
      (λ place m agrees n. absurd (n.never [] check.Frame place refl)) e (Object class) good.0 _
      (λ w m agrees typed reads n.
      let same =
      same_value_read o w (value_at (sight_at p present c) scene e) is_o
      (reads (sight_at p present c) (sees_at c taken t fine)) in
      go w m agrees typed reads (subst (λ z. IsPlaced present (InField class (reference_in z) name)) (sym same) placed)
      (subst (λ z. amount ≤ R (InField class (reference_in z) name)) (sym same) enough) n)
      t.lengths fine.agree never
    where
      go : (w : Value) (m : Lengths) → LengthsAgree present m → HasType present (Object class) w
          → ((sight : Sight) → Sees present (contents_of taken (cells_of t)) c.known sight → value_at sight scene e ≡ Some w)
          → IsPlaced present (InField class (reference_in w) name) → amount ≤ R (InField class (reference_in w) name)
          → RestNeverFails taken (λ maps. if nat_eq (reference_in w) 0 then (truly maps).blocked else gain (truly maps) type
          (InField class (reference_in w) name) amount (next maps) (with_lengths t m))
          → Gained p flags present c.known (λ sight. Owns p flags sight scene
          (FieldPermission e class name type amount span)) taken t T R next
      go w m agrees typed reads placed enough n =
          let r = InField class (reference_in w) name in
          let x = some_of (present.value (location.Field (reference_in w) name)) placed.1 in
          let room = fit r in
          let more = good.2 in
          gained_one c _ taken t m T R trees next r amount enough
          (gain_goes flags present sound.beyond taken type r amount next (with_lengths t m) x.0
          (known_fine taken t m fine agrees) placed x.1
          (field_typed (field_kind p) present present sound.now class name (kind_of type)
          (ap (option_map kind_of) good.1) w x.0 typed x.1) good.3
          (omega (arith, room, enough)) more (tested_false taken (nat_eq (reference_in w) 0)
          (not_null_field class name (reference_in w) placed) _ _ n))
          (λ other sees later. field w (reads other sees) (later.placed (InField class (reference_in w) name) placed) enough)

  element_picked : (type : PvType) → IsElement type → IsPicked type
  element_picked type (inl e) = subst IsPicked (sym e) tt
  element_picked type (inr e) = subst IsPicked (sym e) tt

  pub element_gains : (c : Place p present) (scene : Scene) → SceneFits (home_at p present c) c.speech c.scope present scene
      → (type : PvType) (array index : Expression) (amount : ℕ) (span : Span)
      → IsGood (home_at p present c) c.speech c.scope (ElementPermission type array index amount span)
      → (R : Amounts) (a i : Value) → value_at (sight_at p present c) scene array ≡ Some a
      → value_at (sight_at p present c) scene index ≡ Some i
      → IsPlaced present (InElement type (reference_in a) (number_in i))
      → amount ≤ R (InElement type (reference_in a) (number_in i))
      → Gains p flags present c (λ sight. Owns p flags sight scene (ElementPermission type array index amount span))
      (λ maps. inhale (truly maps) (bind_in p present c scene) (ElementPermission type array index amount span)) R
  element_gains c scene fits type array index amount span good R a i is_a is_i placed enough taken t settled fine T trees fit next
      never =
      reading taken (home_at p present c) c.speech c.scope present scene fits (contents_of taken (cells_of t)) c.known
      (view_at c taken t fine) c.old settled t cells_of (λ l. settled_of flags present taken t fine) _ _
      (λ place m agrees n. absurd (n.never [] check.Frame place refl)) array (array_of type) good.0 _
      (λ b m agrees typed reads n. reading taken (home_at p present c) c.speech c.scope present scene fits
      (contents_of taken (cells_of t)) c.known (view_at c taken t fine) c.old settled t cells_of
      (λ l. settled_of flags present taken t fine) _ _
      (λ place m agrees n. absurd (n.never [] check.Frame place refl)) index Int good.1 _
      (λ j k agreed number indexed n.
      let one =
      same_value_read a b (value_at (sight_at p present c) scene array) is_a
      (reads (sight_at p present c) (sees_at c taken t fine)) in
      let two =
      same_value_read i j (value_at (sight_at p present c) scene index) is_i
      (indexed (sight_at p present c) (sees_at c taken t fine)) in
      go b j k agreed reads indexed
      (subst (λ z. IsPlaced present (InElement type (reference_in b) (number_in z))) (sym two)
      (subst (λ z. IsPlaced present (InElement type (reference_in z) (number_in i))) (sym one) placed))
      (subst (λ z. amount ≤ R (InElement type (reference_in b) (number_in z))) (sym two)
      (subst (λ z. amount ≤ R (InElement type (reference_in z) (number_in i))) (sym one) enough)) n)
      m agrees n)
      t.lengths fine.agree never
    where
      go : (w j : Value) (m : Lengths) → LengthsAgree present m
          → ((sight : Sight) → Sees present (contents_of taken (cells_of t)) c.known sight → value_at sight scene array ≡ Some w)
          → ((sight : Sight) → Sees present (contents_of taken (cells_of t)) c.known sight → value_at sight scene index ≡ Some j)
          → IsPlaced present (InElement type (reference_in w) (number_in j))
          → amount ≤ R (InElement type (reference_in w) (number_in j))
          → RestNeverFails taken (λ maps. gain_element (truly maps) type (reference_in w) (number_in j) amount (next maps)
          (with_lengths t m))
          → Gained p flags present c.known (λ sight. Owns p flags sight scene
          (ElementPermission type array index amount span)) taken t T R next
      go w j m agrees reads indexed placed enough n =
          let r = InElement type (reference_in w) (number_in j) in
          let x = some_of (present.value (location.Cell (reference_in w) (number_in j))) placed.1 in
          let room = fit r in
          let more = good.3 in
          length_looked taken present t type (reference_in w) _ _ placed.0.0 placed.0.1
          (sound.natural (reference_in w) placed.0.0 placed.0.1)
          (λ k agreed n. gained_one c _ taken t k T R trees next r amount enough
          (gain_goes flags present sound.beyond taken type r amount next (with_lengths t k) x.0
          (known_fine taken t k fine agreed) placed x.1
          (element_typed (field_kind p) present present sound.now type placed.2 (value.Reference (reference_in w)) x.0
          (number_in j) placed.3 x.1) (element_picked type placed.2)
          (omega (arith, room, enough)) more (tested_true taken (within (pos 0) placed.0.0 (number_in j)) placed.0.2 _ _ n))
          (λ other sees later. element w j (reads other sees) (indexed other sees) (later.placed r placed) enough))
          m agrees (tested_false taken (nat_eq (reference_in w) 0)
          (not_null_element p flags present sound type (reference_in w) (number_in j) placed) _ _ n)

  pub token_gains : (c : Place p present) (scene : Scene) → SceneFits (home_at p present c) c.speech c.scope present scene
      → (k : Token) (class : Name) (e : Expression) (span : Span)
      → IsGood (home_at p present c) c.speech c.scope (Holds k class e span) → (R : Amounts) (o : Value)
      → value_at (sight_at p present c) scene e ≡ Some o → is_committed k ≡ false
      → present.class (reference_in o) ≡ Some class → whole ≤ R (OfToken k class (reference_in o))
      → Gains p flags present c (λ sight. Owns p flags sight scene (Holds k class e span))
      (λ maps. inhale (truly maps) (bind_in p present c scene) (Holds k class e span)) R
  token_gains c scene fits k class e span good R o is_o apart placed enough taken t settled fine T trees fit next never =
      reading taken (home_at p present c) c.speech c.scope present scene fits (contents_of taken (cells_of t)) c.known
      (view_at c taken t fine) c.old settled t cells_of (λ l. settled_of flags present taken t fine) _ _
      (λ place m agrees n. absurd (n.never [] check.Frame place refl)) e (Object class) good _
      (λ w m agrees typed reads n.
      let same =
      same_value_read o w (value_at (sight_at p present c) scene e) is_o
      (reads (sight_at p present c) (sees_at c taken t fine)) in
      let room = fit (OfToken k class (reference_in w)) in
      let here : whole ≤ R (OfToken k class (reference_in w)) =
      subst (λ z. whole ≤ R (OfToken k class (reference_in z))) (sym same) enough in
      let there : present.class (reference_in w) ≡ Some class =
      subst (λ z. present.class (reference_in z) ≡ Some class) (sym same) placed in
      gained_one c _ taken t m T R trees next (OfToken k class (reference_in w)) whole here
      (add_goes flags present sound.beyond taken (OfToken k class (reference_in w)) next (with_lengths t m)
      (known_fine taken t m fine agrees) there (λ x. tt) (omega (arith, room, here)) (added k (reference_in w) m apart n))
      (λ other sees later. holds w (reads other sees) apart (later.placed (OfToken k class (reference_in w)) there) here))
      t.lengths fine.agree never
    where
      added : (k : Token) (o : ℕ) (m : Lengths) → is_committed k ≡ false
          → RestNeverFails taken (λ maps. add_token (truly maps) k class o (next maps) (with_lengths t m))
          → RestNeverFails taken (λ maps. add_whole (truly maps) (OfToken k class o) (next maps) (with_lengths t m))
      added token.Idle o m apart n = n
      added token.Running o m apart n = n
      added token.Uncommitted o m apart n = n
      added token.Committed o m apart n = absurd (cc apart)

  committed_fine : (taken : Taken) (t : State) (class : Name) (o : ℕ) → flags o ≡ true → StateFits flags present taken t
      → StateFits flags present taken (with_committed t class o)
  committed_fine taken t class o is fine =
      record {
        steps = fine.steps;
        agree = fine.agree;
        holds = fine.holds;
        knows = λ d q h. go (same_name d class) (nat_eq q o) refl (t.committed d q) refl h;
        met = fine.met;
      }
    where
      go : {d : Name} {q : ℕ} (x y : Bool) → nat_eq q o ≡ y → (z : Bool) → t.committed d q ≡ z → (x && y || z) ≡ true → flags q
          ≡ true
      go {d} {q} true true e z k h = let same = naturals_same q o e in subst (λ n. flags n ≡ true) (sym same) is
      go {d} {q} true false e z k h = fine.knows d q (k ∙ h)
      go {d} {q} false y e z k h = fine.knows d q (k ∙ h)

  pub committed_gains : (c : Place p present) (scene : Scene) → SceneFits (home_at p present c) c.speech c.scope present scene
      → (Owning : Sight → Amounts → Type 0) (class : Name) (e : Expression)
      → Says (home_at p present c) c.speech c.scope e (Object class) → (R : Amounts) (o : Value)
      → value_at (sight_at p present c) scene e ≡ Some o → flags (reference_in o) ≡ true
      → ((other : Sight) (w : Value) → value_at other scene e ≡ Some w → flags (reference_in w) ≡ true → Owning other R)
      → Gains p flags present c Owning (λ maps next. value_now (truly maps) (bind_in p present c scene) e
      (λ o. add_token (truly maps) token.Committed class (reference_in o) next)) R
  committed_gains c scene fits Owning class e says R o is_o flagged owning taken t settled fine T trees fit next never =
      reading taken (home_at p present c) c.speech c.scope present scene fits (contents_of taken (cells_of t)) c.known
      (view_at c taken t fine) c.old settled t cells_of (λ l. settled_of flags present taken t fine) _ _
      (λ place m agrees n. absurd (n.never [] check.Frame place refl)) e (Object class) says _
      (λ w m agrees typed reads n.
      let same =
      same_value_read o w (value_at (sight_at p present c) scene e) is_o
      (reads (sight_at p present c) (sees_at c taken t fine)) in
      let there : flags (reference_in w) ≡ true = subst (λ z. flags (reference_in z) ≡ true) (sym same) flagged in
      record {
        then_taken = taken;
        after = with_committed (with_lengths t m) class (reference_in w);
        trees = T;
        never = n;
        goes = goes_on_same taken;
        scene = refl;
        kept = refl;
        fine = committed_fine taken (with_lengths t m) class (reference_in w) there (known_fine taken t m fine agrees);
        grows = λ r x is. is;
        has_trees = trees;
        sum = λ r. omega arith;
        stable = λ other sees later. owning other w (reads other sees) there;
      })
      t.lengths fine.agree never

  -- one part after another
  kept_less : (A R : Amounts) (heap : Heap) → ((r : Resource) → A r ≤ R r) → KeepsHeld R present heap → KeepsHeld A present heap
  kept_less A R heap less later =
      record {
        placed = later.placed;
        kept = λ r v more. later.kept r v (let d = less r in omega (arith, d, more));
        lengths = later.lengths;
      }

  pub gained_both : (c : Place p present) (One Other Whole : Sight → Amounts → Type 0) (taken : Taken) (t : State)
      (T A B R : Amounts)
      (first next : Maps → Next Judged)
      → ((r : Resource) → A r + B r ≤ R r)
      → ((other : Sight) → One other A → Other other B → Whole other R)
      → (g : Gained p flags present c.known One taken t T A first)
      → Gained p flags present c.known Other g.then_taken g.after g.trees B next
      → Gained p flags present c.known Whole taken t T R next
  gained_both c One Other Whole taken t T A B R first next parts combine g k = record {
    then_taken = k.then_taken;
    after = k.after;
    trees = k.trees;
    never = k.never;
    goes = goes_on_then taken g.then_taken k.then_taken g.goes k.goes;
    scene = k.scene ∙ g.scene;
    kept = k.kept ∙ g.kept;
    fine = k.fine;
    grows = λ r x is. k.grows r x (g.grows r x is);
    has_trees = k.has_trees;
    sum = λ r. let a = g.sum r in let b = k.sum r in let d = parts r in omega (arith, a, b, d);
    stable = λ other sees later. combine other
        (g.stable other (sees_less present (contents_of g.then_taken (cells_of g.after))
        (contents_of k.then_taken (cells_of k.after)) c.known other k.grows sees)
        (kept_less A R other.now (λ r. let d = parts r in omega (arith, d)) later))
        (k.stable other sees (kept_less B R other.now (λ r. let d = parts r in omega (arith, d)) later));
  }

  -- from a state that knows more lengths; another formula
  pub gained_as : (c : Place p present) (One Other : Sight → Amounts → Type 0) (taken : Taken) (t : State) (m : Lengths)
      (T R : Amounts) (next : Maps → Next Judged)
      → ((other : Sight) → Sees present (contents_of taken (cells_of t)) c.known other → One other R → Other other R)
      → Gained p flags present c.known One taken (with_lengths t m) T R next
      → Gained p flags present c.known Other taken t T R next
  gained_as c One Other taken t m T R next f g = record {
    then_taken = g.then_taken;
    after = g.after;
    trees = g.trees;
    never = g.never;
    goes = g.goes;
    scene = g.scene;
    kept = g.kept;
    fine = g.fine;
    grows = g.grows;
    has_trees = g.has_trees;
    sum = g.sum;
    stable =
        λ other sees later. f other (sees_less present (contents_of taken (cells_of t))
        (contents_of g.then_taken (cells_of g.after)) c.known other g.grows sees) (g.stable other sees later);
  }
