-- An expression of a body on which the judge doesn't fail has one value, and once its lengths are known the judge comes to it at
-- once.
use Rattle.std.proofs.Common.{◌≡◌, ℕ, ℤ, pos, Bool, true, false, not, ◌&&◌, if◌then◌else◌, Option, Some, None, List, refl, ap, sym, subst, ◌∙◌}
use Rattle.std.specs.Prelude.{nat_eq, option_map}
use Rattle.std.proofs.lemmas.Option.{none-some}
use Rattle.pv_base.specs.declared.Span.{Span}
use Rattle.pv_ast.specs.declared.PvType.{PvType}
use Rattle.pv_ast.specs.declared.PvType.TheVariants.{Int, Truth, Object}
use Rattle.pv_values.specs.declared.value.Value.{Value}
use Rattle.pv_values.specs.declared.value.Value.TheVariants as value
use Rattle.pv_picks.specs.declared.check.Check.TheVariants as check
use Rattle.pv_picks.specs.declared.evidence.Pick.{Pick}
use Rattle.pv_picks.specs.Plain.Core.{Manner, Plain, Tabled, Expression, Constant, This, Result, Variable, Field, Element, Length, Not, Compute, Compare, Equal, And, Or, Implies, Old, Parameter}
use Rattle.pv_picks.specs.Formulas.Values.{number_in, truth_in, reference_in, array_of, arithmetic, comparison, equality, within}
use Rattle.pv_ast.specs.Rules.Typing.{same_type}
use Rattle.pv_picks.specs.Formulas.Heaps.{Heap}
use Rattle.pv_picks.specs.Formulas.Evaluation.{Scene, evaluate}
use Rattle.pv_picks.specs.Formulas.Meeting.{or_stop, heap_reader}
use Rattle.pv_picks.specs.Machine.Starts.{field_kind, kind_of}
use Rattle.pv_picks.specs.Judge.States.{Resource, InField, InElement, Holding, State}
use Rattle.pv_picks.specs.Judge.Settings.{Next, known_or_picked, look_at_length, operate, or_missing}
use Rattle.pv_picks.specs.Machine.Frames.{only_now}
use Rattle.pv_picks.specs.Judge.Rows.{access_reader}
use Rattle.pv_picks.specs.Judge.Runs.{Judged, Maps, content}
use Rattle.pv_picks.proofs.Sames.{naturals_same, types_same}
use Rattle.pv_picks.specs.Typing.Expressions.{Home, silent, Says}
use Rattle.pv_picks.specs.Typing.Frames.{HasType}
use Rattle.account_formulas.specs.Sights.{Lengths, LengthsAgree, Stands, SceneFits, value_at}
use Rattle.account_formulas.specs.Runs.{Taken, all_maps, truly, RestNeverFails, with_lengths}
use Rattle.account_formulas.specs.Growing.{StateFits, HeapFits}
use Rattle.account_formulas.proofs.Valuing.{value_then}
use Rattle.account_formulas.proofs.TypedReads.{field_typed, element_typed, truth_typed, number_typed, constant_typed, array_or_null}
use Rattle.account_formulas.proofs.Lengths.{never_as, empty_table, more_lengths, more_agree, length_looked_by}
use Rattle.account_accesses.proofs.Reading.{tested, fails}

-- what is known stays known
abbrev pub Extends : Lengths → Lengths → Type 0
Extends l m = (type : PvType) (array : ℕ) (n : ℤ) → l type array ≡ Some n → m type array ≡ Some n

extends_more : (l m : Lengths) (type : PvType) (array : ℕ) (n : ℤ) → Extends l m → m type array ≡ None
    → Extends l (more_lengths m type array n)
extends_more l m type array n e unknown t a k is = go (same_type t type) (nat_eq a array) refl refl
  where
    go : (b c : Bool) → same_type t type ≡ b → nat_eq a array ≡ c → (if b && c then Some n else m t a) ≡ Some k
    go true true x y =
        absurd (none-some k (sym unknown ∙ subst (λ z. m type z ≡ Some k) (naturals_same a array y)
        (subst (λ z. m z a ≡ Some k) (types_same t type x) (e t a k is))))
    go true false x y = e t a k is
    go false c x y = e t a k is

module _ (flags : ℕ → Bool) (h : Home) (xs : List Parameter) (present : Heap) (scene : Scene)
    (fits : SceneFits h silent xs present scene) (heap : HeapFits h.program present) (taken : Taken) (s : State)
    (state : StateFits flags present taken s) where
  abbrev eval : Maps → Expression → (Value → Next Judged) → Next Judged
  eval maps e k = evaluate (access_reader (truly maps)) (access_reader (truly maps)) scene e k

  -- the value of an expression, and the lengths with which the judge comes to it
  pub record Settled (e : Expression) (type : PvType) (K : Maps → Value → Next Judged) (l : Lengths) : Type 0 where
    pub value : Value
    pub lengths : Lengths
    pub extends : Extends l lengths
    pub agrees : LengthsAgree present lengths
    pub typed : HasType present type value
    pub reads : value_at (only_now present) scene e ≡ Some value
    pub law : (m : Lengths) → Extends lengths m → (picks : List Pick) (k : Value → Next Judged)
        → evaluate (access_reader (truly (all_maps taken picks))) (access_reader (truly (all_maps taken picks))) scene e k
        (with_lengths s m) ≡ k value (with_lengths s m)
    pub never : RestNeverFails taken (λ maps. K maps value (with_lengths s lengths))

  then_value : (e : Expression) (v : Value) (k : Value → Option Value) → value_at (only_now present) scene e ≡ Some v
      → evaluate (heap_reader None present) (heap_reader None present) scene e k ≡ k v
  then_value e v k is = value_then None (only_now present) scene e v k is

  -- what is held has one value
  record Finds (x : Resource) (o : Option Holding) (K : Maps → Value → Judged) : Type 0 where
    pub value : Value
    pub stands : Stands present x value
    pub law : (picks : List Pick) (missing : Judged) (k : Value → Next Judged) (t : State)
        → or_missing (truly (all_maps taken picks)) (option_map (λ c. c.cell) o) missing k t ≡ k value t
    pub never : RestNeverFails taken (λ maps. K maps value)

  finds : (x : Resource) (k : Maps → Value → Next Judged) (t : State) (span : Span)
      → RestNeverFails taken (λ maps. or_missing (truly maps) (option_map (λ c. c.cell) (s.held x))
      ((truly maps).failed check.ReadPermission span) (k maps) t)
      → Finds x (s.held x) (λ maps v. k maps v t)
  finds x k t span never = go (s.held x) refl never
    where
      go : (o : Option Holding) → s.held x ≡ o
          → RestNeverFails taken (λ maps. or_missing (truly maps) (option_map (λ c. c.cell) o)
          ((truly maps).failed check.ReadPermission span) (k maps) t)
          → Finds x o (λ maps v. k maps v t)
      go None e n = absurd (fails taken check.ReadPermission span n)
      go (Some c) e n =
          let held = state.holds x c e in
          record {
            value = held.value;
            stands = held.stands;
            law = λ picks missing k t. ap (λ v. k v t) (held.settled picks);
            never = never_as taken (λ maps. k maps (content maps c.cell) t) (λ maps. k maps held.value t)
                (λ picks. ap (λ v. k (all_maps taken picks) v t) (held.settled picks)) n;
          }

  -- a length that is known
  length_law : (type : PvType) (array : ℕ) (m : Lengths) (n : ℤ) → m type array ≡ Some n → (picks : List Pick)
      (k : ℤ → Next Judged)
      → look_at_length (truly (all_maps taken picks)) type array k (with_lengths s m) ≡ k n (with_lengths s m)
  length_law type array m n is picks k =
      ap (λ o. known_or_picked (truly (all_maps taken picks)) o type array k (with_lengths s m)) is

  pub settle : (e : Expression) (type : PvType) → Says h silent xs e type → (K : Maps → Value → Next Judged) (l : Lengths)
      → LengthsAgree present l
      → RestNeverFails taken (λ maps. evaluate (access_reader (truly maps)) (access_reader (truly maps)) scene e (K maps)
      (with_lengths s l)) → Settled e type K l
  settle (Constant v) type says K l agrees never = record {
    value = v;
    lengths = l;
    extends = λ t a n is. is;
    agrees = agrees;
    typed = constant_typed present v type says;
    reads = refl;
    law = λ m x picks k. refl;
    never = never;
  }
  settle This type says K l agrees never = record {
    value = value.Reference scene.this;
    lengths = l;
    extends = λ t a n is. is;
    agrees = agrees;
    typed = subst (λ t. HasType present t (value.Reference scene.this)) (sym says) fits.this;
    reads = refl;
    law = λ m x picks k. refl;
    never = never;
  }
  settle Result type says K l agrees never = absurd (none-some type says)
  settle (Variable name) type says K l agrees never = record {
    value = scene.variables name.0;
    lengths = l;
    extends = λ t a n is. is;
    agrees = agrees;
    typed = fits.variables name type says;
    reads = refl;
    law = λ m x picks k. refl;
    never = never;
  }
  settle (Field e class name span) type says K l agrees never = go (settle e (Object class) says.0 _ l agrees never)
    where
      go : Settled e (Object class)
          (λ maps o. (access_reader (truly maps)).field class (reference_in o) name span (K maps)) l
          → Settled (Field e class name span) type K l
      go g = tested taken (nat_eq (reference_in g.value) 0) _ _ _ g.never (λ z n. absurd (fails taken check.Null span n))
          (λ full n. let c = finds (InField class (reference_in g.value) name) K (with_lengths s g.lengths) span n in record {
            value = c.value;
            lengths = g.lengths;
            extends = g.extends;
            agrees = g.agrees;
            typed = field_typed (field_kind h.program) present present heap.now class name (kind_of type)
                (ap (option_map kind_of) says.1) g.value c.value g.typed c.stands;
            reads = then_value e g.value _ g.reads ∙ ap (λ o. or_stop o None Some) c.stands;
            law = λ m x picks k. g.law m x picks _
                ∙ ap (λ b. if b then (truly (all_maps taken picks)).failed check.Null span else
                or_missing (truly (all_maps taken picks))
                (option_map (λ c. c.cell) (s.held (InField class (reference_in g.value) name)))
                ((truly (all_maps taken picks)).failed check.ReadPermission span) k (with_lengths s m)) full
                ∙ c.law picks _ k (with_lengths s m);
            never = c.never;
          })
  settle (Element element array index span) type says K l agrees never =
      let g : Settled array (array_of element) (λ maps a. eval maps index (λ i. (access_reader (truly maps)).element element
      (reference_in a) (number_in i) span (K maps))) l = settle array (array_of element) says.0 _ l agrees never in
      more g (settle index Int says.1 _ g.lengths g.agrees g.never)
    where
      more : (g : Settled array (array_of element) (λ maps a. eval maps index (λ i. (access_reader (truly maps)).element element
          (reference_in a) (number_in i) span (K maps))) l)
          → Settled index Int (λ maps i. (access_reader (truly maps)).element element (reference_in g.value) (number_in i) span
          (K maps)) g.lengths
          → Settled (Element element array index span) type K l
      more g i = array_or_null present element says.2 g.value g.typed (Settled (Element element array index span) type K l)
          (λ z. absurd (fails taken check.Null span (subst (λ b. RestNeverFails taken (λ maps. if b then
          (truly maps).failed check.Null span else look_at_length (truly maps) element (reference_in g.value)
          (λ n later. if within (pos 0) n (number_in i.value) then or_missing (truly maps) (option_map (λ c. c.cell)
          (later.held (InElement element (reference_in g.value) (number_in i.value))))
          ((truly maps).failed check.ReadPermission span) (K maps) later else (truly maps).failed check.Bounds span)
          (with_lengths s i.lengths))) z i.never)))
          (λ size full at. length_looked_by taken present (λ m. LengthsAgree present m × Extends i.lengths m) s element
          (reference_in g.value) (λ m q. q.0)
          (λ m n q is unknown. (
            more_agree present m element (reference_in g.value) n q.0 is,
            extends_more i.lengths m element (reference_in g.value) n q.1 unknown,
          )) _ _ size at
          (heap.natural (reference_in g.value) size at)
          (λ m q known n. tested taken (within (pos 0) size (number_in i.value)) _ _ _ n
          (λ inside n.
          let c = finds (InElement element (reference_in g.value) (number_in i.value)) K (with_lengths s m) span n in record {
            value = c.value;
            lengths = m;
            extends = λ t a k is. q.1 t a k (i.extends t a k (g.extends t a k is));
            agrees = q.0;
            typed = subst (λ t. HasType present t c.value) (sym says.3)
                (element_typed (field_kind h.program) present present heap.now element says.2 g.value c.value (number_in i.value)
                g.typed c.stands);
            reads = then_value array g.value _ g.reads ∙ then_value index i.value _ i.reads
                ∙ ap (λ o. or_stop o None Some) c.stands;
            law = λ y x picks k. g.law y (λ t a n is. x t a n (q.1 t a n (i.extends t a n is))) picks _
                ∙ i.law y (λ t a n is. x t a n (q.1 t a n is)) picks _
                ∙ ap (λ b. if b then (truly (all_maps taken picks)).failed check.Null span else
                look_at_length (truly (all_maps taken picks)) element (reference_in g.value)
                (λ n later. if within (pos 0) n (number_in i.value) then or_missing (truly (all_maps taken picks))
                (option_map (λ c. c.cell) (later.held (InElement element (reference_in g.value) (number_in i.value))))
                ((truly (all_maps taken picks)).failed check.ReadPermission span) k later else
                (truly (all_maps taken picks)).failed check.Bounds span) (with_lengths s y)) full
                ∙ length_law element (reference_in g.value) y size (x element (reference_in g.value) size known) picks
                (λ n later. if within (pos 0) n (number_in i.value) then or_missing (truly (all_maps taken picks))
                (option_map (λ c. c.cell) (later.held (InElement element (reference_in g.value) (number_in i.value))))
                ((truly (all_maps taken picks)).failed check.ReadPermission span) k later else
                (truly (all_maps taken picks)).failed check.Bounds span)
                ∙ ap (λ b. if b then or_missing (truly (all_maps taken picks))
                (option_map (λ c. c.cell) (s.held (InElement element (reference_in g.value) (number_in i.value))))
                ((truly (all_maps taken picks)).failed check.ReadPermission span) k (with_lengths s y) else
                (truly (all_maps taken picks)).failed check.Bounds span) inside
                ∙ c.law picks _ k (with_lengths s y);
            never = c.never;
          })
          (λ outside n. absurd (fails taken check.Bounds span n)))
          i.lengths (i.agrees, λ t a n is. is)
          (subst (λ b. RestNeverFails taken (λ maps. if b then
          (truly maps).failed check.Null span else look_at_length (truly maps) element (reference_in g.value)
          (λ n later. if within (pos 0) n (number_in i.value) then or_missing (truly maps) (option_map (λ c. c.cell)
          (later.held (InElement element (reference_in g.value) (number_in i.value))))
          ((truly maps).failed check.ReadPermission span) (K maps) later else (truly maps).failed check.Bounds span)
          (with_lengths s i.lengths))) full i.never))
  settle (Length element array span) type says K l agrees never = go (settle array (array_of element) says.0 _ l agrees never)
    where
      go : Settled array (array_of element) (λ maps a. (access_reader (truly maps)).length element (reference_in a) span
          (λ z. K maps (value.Number z))) l → Settled (Length element array span) type K l
      go g = array_or_null present element says.1 g.value g.typed (Settled (Length element array span) type K l)
          (λ z. absurd (fails taken check.Null span (subst (λ b. RestNeverFails taken (λ maps. if b then
          (truly maps).failed check.Null span else look_at_length (truly maps) element (reference_in g.value)
          (λ z. K maps (value.Number z)) (with_lengths s g.lengths))) z g.never)))
          (λ size full at. length_looked_by taken present (λ m. LengthsAgree present m × Extends g.lengths m) s element
          (reference_in g.value) (λ m q. q.0)
          (λ m n q is unknown. (
            more_agree present m element (reference_in g.value) n q.0 is,
            extends_more g.lengths m element (reference_in g.value) n q.1 unknown,
          )) (λ maps z. K maps (value.Number z)) _ size at
          (heap.natural (reference_in g.value) size at)
          (λ m q known n. record {
            value = value.Number size;
            lengths = m;
            extends = λ t a k is. q.1 t a k (g.extends t a k is);
            agrees = q.0;
            typed = number_typed present type size says.2;
            reads = then_value array g.value _ g.reads ∙ ap (λ o. or_stop o None (λ n. Some (value.Number n))) at;
            law = λ y x picks k. g.law y (λ t a n is. x t a n (q.1 t a n is)) picks _
                ∙ ap (λ b. if b then (truly (all_maps taken picks)).failed check.Null span else
                look_at_length (truly (all_maps taken picks)) element (reference_in g.value) (λ z. k (value.Number z))
                (with_lengths s y)) full
                ∙ length_law element (reference_in g.value) y size (x element (reference_in g.value) size known) picks
                (λ z. k (value.Number z));
            never = n;
          })
          g.lengths (g.agrees, λ t a n is. is)
          (subst (λ b. RestNeverFails taken (λ maps. if b then
          (truly maps).failed check.Null span else look_at_length (truly maps) element (reference_in g.value)
          (λ z. K maps (value.Number z)) (with_lengths s g.lengths))) full g.never))
  settle (Not e) type says K l agrees never = go (settle e Truth says.0 _ l agrees never)
    where
      go : Settled e Truth (λ maps v. K maps (value.Truth (not (truth_in v)))) l → Settled (Not e) type K l
      go g = record {
        value = value.Truth (not (truth_in g.value));
        lengths = g.lengths;
        extends = g.extends;
        agrees = g.agrees;
        typed = truth_typed present type (not (truth_in g.value)) says.1;
        reads = then_value e g.value _ g.reads;
        law = λ m x picks k. g.law m x picks _;
        never = g.never;
      }
  settle (Compute manner op a b span) type says K l agrees never =
      let g : Settled a Int (λ maps x. eval maps b (λ y. operate (truly maps) manner op (number_in x) (number_in y) span
      (λ z. K maps (value.Number z)))) l = settle a Int says.0 _ l agrees never in
      more g (settle b Int says.1 _ g.lengths g.agrees g.never)
    where
      by : (maps : Maps) (m : Manner) (x y : ℤ) (k : Value → Next Judged) (t : State)
          → operate (truly maps) m op x y span (λ z. k (value.Number z)) t ≡ k (value.Number (arithmetic op x y)) t
      by maps Plain x y k t = refl
      by maps Tabled x y k t = ap (λ z. k (value.Number z) t) (empty_table op x y)

      more : (g : Settled a Int (λ maps x. eval maps b (λ y. operate (truly maps) manner op (number_in x) (number_in y) span
          (λ z. K maps (value.Number z)))) l)
          → Settled b Int (λ maps y. operate (truly maps) manner op (number_in g.value) (number_in y) span
          (λ z. K maps (value.Number z))) g.lengths
          → Settled (Compute manner op a b span) type K l
      more g i = record {
        value = value.Number (arithmetic op (number_in g.value) (number_in i.value));
        lengths = i.lengths;
        extends = λ t c n is. i.extends t c n (g.extends t c n is);
        agrees = i.agrees;
        typed = number_typed present type (arithmetic op (number_in g.value) (number_in i.value)) says.2;
        reads = then_value a g.value _ g.reads ∙ then_value b i.value _ i.reads;
        law = λ m x picks k. g.law m (λ t c n is. x t c n (i.extends t c n is)) picks _ ∙ i.law m x picks _
            ∙ by (all_maps taken picks) manner (number_in g.value) (number_in i.value) k (with_lengths s m);
        never = never_as taken _ _ (λ picks. by (all_maps taken picks) manner (number_in g.value) (number_in i.value)
            (K (all_maps taken picks)) (with_lengths s i.lengths)) i.never;
      }
  settle (Compare order a b) type says K l agrees never =
      let g : Settled a Int (λ maps x. eval maps b (λ y. K maps (value.Truth (comparison order (number_in x) (number_in y))))) l =
      settle a Int says.0 _ l agrees never in
      more g (settle b Int says.1 _ g.lengths g.agrees g.never)
    where
      more : (g : Settled a Int (λ maps x. eval maps b (λ y. K maps
          (value.Truth (comparison order (number_in x) (number_in y))))) l)
          → Settled b Int (λ maps y. K maps (value.Truth (comparison order (number_in g.value) (number_in y)))) g.lengths
          → Settled (Compare order a b) type K l
      more g i = record {
        value = value.Truth (comparison order (number_in g.value) (number_in i.value));
        lengths = i.lengths;
        extends = λ t c n is. i.extends t c n (g.extends t c n is);
        agrees = i.agrees;
        typed = truth_typed present type (comparison order (number_in g.value) (number_in i.value)) says.2;
        reads = then_value a g.value _ g.reads ∙ then_value b i.value _ i.reads;
        law = λ m x picks k. g.law m (λ t c n is. x t c n (i.extends t c n is)) picks _ ∙ i.law m x picks _;
        never = i.never;
      }
  settle (Equal same a b) type says K l agrees never =
      let g : Settled a says.0 (λ maps x. eval maps b (λ y. K maps (value.Truth (equality same x y)))) l =
      settle a says.0 says.1 _ l agrees never in
      more g (settle b says.0 says.2 _ g.lengths g.agrees g.never)
    where
      more : (g : Settled a says.0 (λ maps x. eval maps b (λ y. K maps (value.Truth (equality same x y)))) l)
          → Settled b says.0 (λ maps y. K maps (value.Truth (equality same g.value y))) g.lengths
          → Settled (Equal same a b) type K l
      more g i = record {
        value = value.Truth (equality same g.value i.value);
        lengths = i.lengths;
        extends = λ t c n is. i.extends t c n (g.extends t c n is);
        agrees = i.agrees;
        typed = truth_typed present type (equality same g.value i.value) says.3;
        reads = then_value a g.value _ g.reads ∙ then_value b i.value _ i.reads;
        law = λ m x picks k. g.law m (λ t c n is. x t c n (i.extends t c n is)) picks _ ∙ i.law m x picks _;
        never = i.never;
      }
  settle (And a b) type says K l agrees never =
      let g : Settled a Truth (λ maps x. (if truth_in x then eval maps b (K maps) else K maps (value.Truth false))) l =
      settle a Truth says.0 (λ maps x. (if truth_in x then eval maps b (K maps) else K maps (value.Truth false))) l agrees never
      in
      by g (λ n. settle b Truth says.1 K g.lengths g.agrees n) (truth_in g.value) refl g.never
    where
      by : (g : Settled a Truth (λ maps x. (if truth_in x then eval maps b (K maps) else K maps (value.Truth false))) l)
          → (RestNeverFails taken (λ maps. eval maps b (K maps) (with_lengths s g.lengths)) → Settled b Truth K g.lengths)
          → (t : Bool) → truth_in g.value ≡ t
          → RestNeverFails taken (λ maps. (if t then eval maps b (K maps) else K maps (value.Truth false))
          (with_lengths s g.lengths))
          → Settled (And a b) type K l
      by g inner true is n = more (inner n)
        where
          more : Settled b Truth K g.lengths → Settled (And a b) type K l
          more i = record {
            value = i.value;
            lengths = i.lengths;
            extends = λ t c n is. i.extends t c n (g.extends t c n is);
            agrees = i.agrees;
            typed = subst (λ t. HasType present t i.value) (sym says.2) i.typed;
            reads =
                then_value a g.value _ g.reads ∙ ap
                (λ t. (if t then value_at (only_now present) scene b else Some (value.Truth false))) is
                ∙ i.reads;
            law = λ m x picks k. g.law m (λ t c n is. x t c n (i.extends t c n is)) picks
                (λ x. (if truth_in x then eval (all_maps taken picks) b k else k (value.Truth false)))
                ∙ ap (λ t. (if t then eval (all_maps taken picks) b k else k (value.Truth false)) (with_lengths s m)) is
                ∙ i.law m x picks k;
            never = i.never;
          }
      by g inner false is n = record {
        value = value.Truth false;
        lengths = g.lengths;
        extends = g.extends;
        agrees = g.agrees;
        typed = truth_typed present type false says.2;
        reads =
            then_value a g.value _ g.reads ∙ ap
            (λ t. (if t then value_at (only_now present) scene b else Some (value.Truth false))) is;
        law = λ m x picks k. g.law m x picks
            (λ x. (if truth_in x then eval (all_maps taken picks) b k else k (value.Truth false)))
            ∙ ap (λ t. (if t then eval (all_maps taken picks) b k else k (value.Truth false)) (with_lengths s m)) is;
        never = n;
      }
  settle (Or a b) type says K l agrees never =
      let g : Settled a Truth (λ maps x. (if truth_in x then K maps (value.Truth true) else eval maps b (K maps))) l =
      settle a Truth says.0 (λ maps x. (if truth_in x then K maps (value.Truth true) else eval maps b (K maps))) l agrees never in
      by g (λ n. settle b Truth says.1 K g.lengths g.agrees n) (truth_in g.value) refl g.never
    where
      by : (g : Settled a Truth (λ maps x. (if truth_in x then K maps (value.Truth true) else eval maps b (K maps))) l)
          → (RestNeverFails taken (λ maps. eval maps b (K maps) (with_lengths s g.lengths)) → Settled b Truth K g.lengths)
          → (t : Bool) → truth_in g.value ≡ t
          → RestNeverFails taken (λ maps. (if t then K maps (value.Truth true) else eval maps b (K maps))
          (with_lengths s g.lengths))
          → Settled (Or a b) type K l
      by g inner false is n = more (inner n)
        where
          more : Settled b Truth K g.lengths → Settled (Or a b) type K l
          more i = record {
            value = i.value;
            lengths = i.lengths;
            extends = λ t c n is. i.extends t c n (g.extends t c n is);
            agrees = i.agrees;
            typed = subst (λ t. HasType present t i.value) (sym says.2) i.typed;
            reads =
                then_value a g.value _ g.reads ∙ ap
                (λ t. (if t then Some (value.Truth true) else value_at (only_now present) scene b)) is
                ∙ i.reads;
            law = λ m x picks k. g.law m (λ t c n is. x t c n (i.extends t c n is)) picks
                (λ x. (if truth_in x then k (value.Truth true) else eval (all_maps taken picks) b k))
                ∙ ap (λ t. (if t then k (value.Truth true) else eval (all_maps taken picks) b k) (with_lengths s m)) is
                ∙ i.law m x picks k;
            never = i.never;
          }
      by g inner true is n = record {
        value = value.Truth true;
        lengths = g.lengths;
        extends = g.extends;
        agrees = g.agrees;
        typed = truth_typed present type true says.2;
        reads =
            then_value a g.value _ g.reads ∙ ap
            (λ t. (if t then Some (value.Truth true) else value_at (only_now present) scene b)) is;
        law = λ m x picks k. g.law m x picks
            (λ x. (if truth_in x then k (value.Truth true) else eval (all_maps taken picks) b k))
            ∙ ap (λ t. (if t then k (value.Truth true) else eval (all_maps taken picks) b k) (with_lengths s m)) is;
        never = n;
      }
  settle (Implies a b) type says K l agrees never =
      let g : Settled a Truth (λ maps x. (if truth_in x then eval maps b (K maps) else K maps (value.Truth true))) l =
      settle a Truth says.0 (λ maps x. (if truth_in x then eval maps b (K maps) else K maps (value.Truth true))) l agrees never in
      by g (λ n. settle b Truth says.1 K g.lengths g.agrees n) (truth_in g.value) refl g.never
    where
      by : (g : Settled a Truth (λ maps x. (if truth_in x then eval maps b (K maps) else K maps (value.Truth true))) l)
          → (RestNeverFails taken (λ maps. eval maps b (K maps) (with_lengths s g.lengths)) → Settled b Truth K g.lengths)
          → (t : Bool) → truth_in g.value ≡ t
          → RestNeverFails taken (λ maps. (if t then eval maps b (K maps) else K maps (value.Truth true))
          (with_lengths s g.lengths))
          → Settled (Implies a b) type K l
      by g inner true is n = more (inner n)
        where
          more : Settled b Truth K g.lengths → Settled (Implies a b) type K l
          more i = record {
            value = i.value;
            lengths = i.lengths;
            extends = λ t c n is. i.extends t c n (g.extends t c n is);
            agrees = i.agrees;
            typed = subst (λ t. HasType present t i.value) (sym says.2) i.typed;
            reads =
                then_value a g.value _ g.reads ∙ ap
                (λ t. (if t then value_at (only_now present) scene b else Some (value.Truth true))) is
                ∙ i.reads;
            law = λ m x picks k. g.law m (λ t c n is. x t c n (i.extends t c n is)) picks
                (λ x. (if truth_in x then eval (all_maps taken picks) b k else k (value.Truth true)))
                ∙ ap (λ t. (if t then eval (all_maps taken picks) b k else k (value.Truth true)) (with_lengths s m)) is
                ∙ i.law m x picks k;
            never = i.never;
          }
      by g inner false is n = record {
        value = value.Truth true;
        lengths = g.lengths;
        extends = g.extends;
        agrees = g.agrees;
        typed = truth_typed present type true says.2;
        reads =
            then_value a g.value _ g.reads ∙ ap
            (λ t. (if t then value_at (only_now present) scene b else Some (value.Truth true))) is;
        law = λ m x picks k. g.law m x picks
            (λ x. (if truth_in x then eval (all_maps taken picks) b k else k (value.Truth true)))
            ∙ ap (λ t. (if t then eval (all_maps taken picks) b k else k (value.Truth true)) (with_lengths s m)) is;
        never = n;
      }
  settle (Old e) type says K l agrees never = let k = says.0 in absurd (cc k)
