-- The label of a new object: the thread that makes it owns its fields and its tokens.
use Rattle.std.proofs.Common.{◌≡◌, ◌+◌, ◌≤◌, ◌<◌, ℕ, zero, suc, pos, Bool, true, false, ◌&&◌, ◌||◌, if◌then◌else◌, Option, Some, List, [], ◌∷◌, refl, ap, sym, subst, ◌∙◌, arith}
use Rattle.std.specs.Prelude.{nat_eq, map, is_some, IsSome}
use Rattle.std.specs.List.{AllByRecursion, list_any}
use Rattle.std.proofs.lemmas.Bool.Decides.{nat_tests}
use Rattle.std.proofs.lemmas.Option.{none-some}
use Rattle.pv_base.specs.declared.Name.{Name}
use Rattle.pv_ast.specs.declared.PvType.TheVariants.{Object}
use Rattle.pv_ast.specs.declared.Token.{Token}
use Rattle.pv_ast.specs.declared.Token.TheVariants as token
use Rattle.pv_values.specs.declared.value.Value.{Value}
use Rattle.pv_values.specs.declared.value.Value.TheVariants as value
use Rattle.pv_values.specs.declared.value.Location.{Location}
use Rattle.pv_values.specs.declared.value.Location.TheVariants as location
use Rattle.pv_values.specs.Heaps.{Fields, field_value}
use Rattle.pv_base.specs.Names.{same_name}
use Rattle.pv_values.specs.Typing.{Kind}
use Rattle.pv_fraction.specs.Amounts.{whole}
use Rattle.pv_picks.specs.Plain.Core.{Parameter, Program}
use Rattle.pv_picks.specs.Plain.Members.{fields_of, run_of, invariant_of}
use Rattle.pv_picks.specs.Formulas.Values.{default_of}
use Rattle.pv_picks.specs.Formulas.Heaps.{Heap, with_object}
use Rattle.pv_picks.specs.Machine.Labels.{Label}
use Rattle.pv_picks.specs.Machine.Starts.{field_kind}
use Rattle.pv_picks.specs.Judge.Runs.{Judged, Maps, content}
use Rattle.pv_picks.specs.Judge.States.{State, Resource, InField, InElement, OfToken, OfLock, Holding, amount_held, amount_of, holding, plain_cell, same_resource, scene_of, with_cell, with_met}
use Rattle.pv_picks.specs.Judge.Settings.{Next, met_as}
use Rattle.pv_picks.specs.Judge.Permissions.{add_whole}
use Rattle.pv_picks.specs.Judge.Rows.{fresh, add_fields, add_token_if, add_uncommitted, add_tokens, new_object}
use Rattle.pv_picks.specs.Machine.Steps.{first_fields}
use Rattle.core_trees.specs.Naming.{AreDistinct}
use Rattle.pv_picks.specs.Typing.Heaps.{HasKindOf, IsTypedHeap}
use Rattle.machine_laws.proofs.Typed.{after-keeps, step_typed}
use Rattle.pv_picks.proofs.Sames.{front, back, naturals_same, names_same, resources_same}
use Rattle.account_formulas.specs.Runs.{Taken, truly, RestNeverFails, all_maps}
use Rattle.account_formulas.specs.Growing.{IsHeld, StateFits, HeapFits}
use Rattle.account_formulas.specs.Owning.{Amounts, IsPlaced, KeepsHeld}
use Rattle.account_formulas.proofs.Basics.{nat_self, same_self, only_self}
use Rattle.account_formulas.proofs.Exhaling.{holding_is}
use Rattle.account_formulas.proofs.Lengths.{never_number}
use Rattle.account_formulas.proofs.Raising.{GainedOne, add_goes, placed_of}
use Rattle.account.proofs.Supplying.{heap_fits}
use Rattle.account.proofs.Working.{alike_never}
use Rattle.account.proofs.Later.{Extends, grown_extended, keeps_extended, below_more, Grown, held_later}
use Rattle.account_calls.proofs.Making.{fresh_is}

-- The fields of a new object

-- each field has its default
abbrev pub HaveDefaults : Fields → List Parameter → Type 0
HaveDefaults given fs = AllByRecursion (λ f. field_value given f.0 ≡ Some (default_of f.1)) fs

abbrev defaults : List Parameter → Fields
defaults fs = map (λ f. (f.0, default_of f.1)) fs

either_false : (a b : Bool) → (a || b) ≡ false → (a ≡ false) × (b ≡ false)
either_false true b e = absurd (cc e)
either_false false b e = (refl, e)

turned : (a b : Name) → same_name a b ≡ false → same_name b a ≡ false
turned a b e = grind (arith, nat_tests)

-- a field of another name in front changes nothing
behind_first : (f : Parameter) (given : Fields) (fs : List Parameter)
    → list_any (same_name f.0) (map (λ g. g.0) fs) ≡ false → HaveDefaults given fs
    → HaveDefaults ((f.0, default_of f.1) ∷ given) fs
behind_first f given [] none all = tt
behind_first f given (g ∷ gs) none all =
    let parts = either_false (same_name f.0 g.0) (list_any (same_name f.0) (map (λ g. g.0) gs)) none in (
      ap (λ b. if b then Some (default_of f.1) else field_value given g.0) (turned f.0 g.0 parts.0) ∙ all.0,
      behind_first f given gs parts.1 all.1,
    )

-- where names differ each field has its default
pub have_defaults : (fs : List Parameter) → AreDistinct (map (λ f. f.0) fs)
    → HaveDefaults (map (λ f. (f.0, default_of f.1)) fs) fs
have_defaults [] distinct = tt
have_defaults (f ∷ fs) distinct = (
  ap (λ b. if b then Some (default_of f.1) else field_value (defaults fs) f.0) (nat_self f.0.0),
  behind_first f (defaults fs) fs distinct.0 (have_defaults fs distinct.1),
)

-- what a new object brings: its fields, and the tokens that say that nothing was done with it
abbrev pub is_given : Fields → Name → ℕ → Resource → Bool
is_given fields class n (InField c o name) = (same_name c class && nat_eq o n) && is_some (field_value fields name)
is_given fields class n (InElement type array index) = false
is_given fields class n (OfToken token.Idle c o) = same_name c class && nat_eq o n
is_given fields class n (OfToken token.Uncommitted c o) = same_name c class && nat_eq o n
is_given fields class n (OfToken token.Running c o) = false
is_given fields class n (OfToken token.Committed c o) = false
is_given fields class n (OfLock c o) = false

abbrev pub given_amounts : Fields → Name → ℕ → Amounts
given_amounts fields class n q = if is_given fields class n q then whole else 0

module _ (p : Program) (flags : ℕ → Bool) (heap : Heap) (sound : HeapFits p heap) (typed : IsTypedHeap (field_kind p) heap)
    (class : Name) where
  abbrev pub more : Heap
  more = with_object heap class (first_fields p class)

  abbrev pub given : Amounts
  given = given_amounts (first_fields p class) class (suc heap.count)

  -- the heap with the new object fits
  pub more_fits : HeapFits p (with_object heap class (first_fields p class))
  more_fits = heap_fits p (with_object heap class (first_fields p class))
      (step_typed p (Some (Label.NewObject class)) heap (with_object heap class (first_fields p class))
      (record { finds = tt; after = refl }) typed tt) sound.natural

  is_new : (n : ℕ) → nat_eq n (suc heap.count) ≡ true → heap.count < n
  is_new n e = let same = naturals_same n (suc heap.count) e in omega (arith, same)

  -- what stood there stands there
  value_later : (l : Location) (v : Value) → heap.value l ≡ Some v → more.value l ≡ Some v
  value_later (location.Cell a i) v is = is
  value_later (location.Field o n) v is = go (nat_eq o (suc heap.count)) refl
    where
      go : (b : Bool) → nat_eq o (suc heap.count) ≡ b
          → (if b then field_value (first_fields p class) n else heap.value (location.Field o n)) ≡ Some v
      go true e = absurd (none-some v (sym ((sound.beyond o (is_new o e)).fields n) ∙ is))
      go false e = is

  class_later : (o : ℕ) (c : Name) → heap.class o ≡ Some c → more.class o ≡ Some c
  class_later o c is = go (nat_eq o (suc heap.count)) refl
    where
      go : (b : Bool) → nat_eq o (suc heap.count) ≡ b → (if b then Some class else heap.class o) ≡ Some c
      go true e = absurd (none-some c (sym (sound.beyond o (is_new o e)).class ∙ is))
      go false e = is

  kinds_later : (kind : Option Kind) (v : Value) → HasKindOf heap kind v → HasKindOf more kind v
  kinds_later kind v h = after-keeps p (Some (Label.NewObject class)) heap typed tt tt kind v h

  extends : Extends heap (with_object heap class (first_fields p class))
  extends = record {
    values = value_later;
    lengths = λ a n is. is;
    classes = class_later;
    class = λ x c is l. before x c is l (nat_eq (suc x) (suc heap.count)) refl;
    kinds = kinds_later;
    count = omega arith;
  }
    where
      before : (x : ℕ) (c : Name) → more.class (suc x) ≡ Some c → suc x ≤ heap.count → (b : Bool)
          → nat_eq (suc x) (suc heap.count) ≡ b → heap.class (suc x) ≡ Some c
      before x c is l true e = let n = is_new (suc x) e in absurd (omega (arith, n, l))
      before x c is l false e = sym (ap (λ b. if b then Some class else heap.class (suc x)) e) ∙ is

  pub grown_created : Grown heap (with_object heap class (first_fields p class))
  grown_created = grown_extended heap (with_object heap class (first_fields p class)) extends

  pub keeps_created : (A : Amounts) → KeepsHeld A heap (with_object heap class (first_fields p class))
  keeps_created = keeps_extended heap (with_object heap class (first_fields p class)) extends

  -- The new object

  pub new_class : more.class (suc heap.count) ≡ Some class
  new_class = ap (λ b. if b then Some class else heap.class (suc heap.count)) (nat_self (suc heap.count))

  new_field : (name : Name) → more.value (location.Field (suc heap.count) name) ≡ field_value (first_fields p class) name
  new_field name = ap (λ b. if b then field_value (first_fields p class) name
      else heap.value (location.Field (suc heap.count) name)) (nat_self (suc heap.count))

  -- what it brings is of its class, and of its number
  of_object : (c : Name) (o : ℕ) → (same_name c class && nat_eq o (suc heap.count)) ≡ true
      → (c ≡ class) × (o ≡ suc heap.count)
  of_object c o e = (
    names_same c class (front (same_name c class) (nat_eq o (suc heap.count)) e),
    naturals_same o (suc heap.count) (back (same_name c class) (nat_eq o (suc heap.count)) e),
  )

  has_class : (c : Name) (o : ℕ) → (same_name c class && nat_eq o (suc heap.count)) ≡ true → more.class o ≡ Some c
  has_class c o e =
      let k = of_object c o e in
      subst (λ x. more.class x ≡ Some c) (sym k.1) (new_class ∙ ap Some (sym k.0))

  pub given_placed : (q : Resource) → is_given (first_fields p class) class (suc heap.count) q ≡ true
      → IsPlaced (with_object heap class (first_fields p class)) q
  given_placed (InField c o name) e =
      let own = front (same_name c class && nat_eq o (suc heap.count)) (is_some (field_value (first_fields p class) name)) e in
      let some = back (same_name c class && nat_eq o (suc heap.count)) (is_some (field_value (first_fields p class) name)) e in (
        has_class c o own,
        subst (λ x. IsSome (more.value (location.Field x name))) (sym (of_object c o own).1)
            (subst IsSome (sym (new_field name)) some),
      )
  given_placed (InElement type array index) e = absurd (cc e)
  given_placed (OfToken token.Idle c o) e = has_class c o e
  given_placed (OfToken token.Uncommitted c o) e = has_class c o e
  given_placed (OfToken token.Running c o) e = absurd (cc e)
  given_placed (OfToken token.Committed c o) e = absurd (cc e)
  given_placed (OfLock c o) e = absurd (cc e)

  no_class : (c : Name) (o : ℕ) → (same_name c class && nat_eq o (suc heap.count)) ≡ true → heap.class o ≡ Some c → ⊥
  no_class c o e is =
      let k = (of_object c o e).1 in
      none-some c (sym (sound.beyond o (omega (arith, k))).class ∙ is)

  -- nothing of it was there
  pub not_placed : (q : Resource) → is_given (first_fields p class) class (suc heap.count) q ≡ true → IsPlaced heap q → ⊥
  not_placed (InField c o name) e h = no_class c o
      (front (same_name c class && nat_eq o (suc heap.count)) (is_some (field_value (first_fields p class) name)) e) h.0
  not_placed (InElement type array index) e h = absurd (cc e)
  not_placed (OfToken token.Idle c o) e h = no_class c o e h
  not_placed (OfToken token.Uncommitted c o) e h = no_class c o e h
  not_placed (OfToken token.Running c o) e h = absurd (cc e)
  not_placed (OfToken token.Committed c o) e h = absurd (cc e)
  not_placed (OfLock c o) e h = absurd (cc e)

  -- The run

  -- a state that got some of what is new, from another one
  pub record Got (taken : Taken) (s t : State) : Type 0 where
    pub fine : StateFits flags (with_object heap class (first_fields p class)) taken t
    pub scene : scene_of t ≡ scene_of s
    pub old : t.old ≡ s.old
    pub instances : t.instances ≡ s.instances
    pub less : (q : Resource) → amount_of t q
        ≤ amount_of s q + given_amounts (first_fields p class) class (suc heap.count) q

  abbrev field_of : Name → Resource
  field_of name = InField class (suc heap.count) name

  abbrev token_of : Token → Resource
  token_of k = OfToken k class (suc heap.count)

  own_given : (same_name class class && nat_eq (suc heap.count) (suc heap.count)) ≡ true
  own_given = ap (λ b. b && nat_eq (suc heap.count) (suc heap.count)) (nat_self class.0) ∙ nat_self (suc heap.count)

  -- one resource more: its amount comes
  more_less : (s t : State) (r : Resource) → is_given (first_fields p class) class (suc heap.count) r ≡ true
      → ((q : Resource) → amount_of t q ≤ amount_of s q + given q)
      → (u : State) → (amount_of u r ≤ whole) → ((q : Resource) → same_resource q r ≡ false → amount_of u q ≤ amount_of t q)
      → (q : Resource) → amount_of u q ≤ amount_of s q + given q
  more_less s t r new less u own others q = by (same_resource q r) refl
    where
      by : (b : Bool) → same_resource q r ≡ b → amount_of u q ≤ amount_of s q + given q
      by true e =
          let same = resources_same q r e in
          let here = ap (amount_of u) same in
          let k = ap (λ b. if b then whole else 0) (ap (is_given (first_fields p class) class (suc heap.count)) same ∙ new) in
          omega (arith, here, own, k)
      by false e = let one = others q e in let two = less q in omega (arith, one, two)

  field_got : (taken : Taken) (s t : State) → Got taken s t → (name : Name) (v : Value)
      → field_value (first_fields p class) name ≡ Some v
      → Got taken s (with_cell t (InField class (suc heap.count) name) whole v)
  field_got taken s t got name v is = record {
    fine = record {
      steps = got.fine.steps;
      agree = got.fine.agree;
      holds = λ q h e. holds q h (same_resource q (field_of name)) refl e;
      knows = got.fine.knows;
      met = got.fine.met;
    };
    scene = got.scene;
    old = got.old;
    instances = got.instances;
    less = more_less s t (field_of name) new got.less (with_cell t (field_of name) whole v)
        (let k = ap (λ b. amount_held (if b then holding whole (plain_cell v) else t.held (field_of name)))
        (same_self (field_of name)) in omega (arith, k))
        (λ q e. let k = ap (λ b. amount_held (if b then holding whole (plain_cell v) else t.held q)) e in omega (arith, k));
  }
    where
      there : more.value (location.Field (suc heap.count) name) ≡ Some v
      there = new_field name ∙ is

      new : is_given (first_fields p class) class (suc heap.count) (field_of name) ≡ true
      new = ap (λ b. b && is_some (field_value (first_fields p class) name)) own_given ∙ ap is_some is

      holds : (q : Resource) (h : Holding) (b : Bool) → same_resource q (field_of name) ≡ b
          → (if b then holding whole (plain_cell v) else t.held q) ≡ Some h → IsHeld taken more q h
      holds q h false e k = got.fine.holds q h k
      holds q h true e k =
          let at = holding_is whole (plain_cell v) h k in
          subst (λ x. IsHeld taken more x h) (sym (resources_same q (field_of name) e)) (record {
            some = at.0;
            placed = (new_class, subst IsSome (sym there) refl);
            value = v;
            settled = λ picks. ap (content (all_maps taken picks)) (sym at.1);
            stands = there;
          })

  -- its fields, with no token more
  record Fielded (taken : Taken) (s : State) (next : Maps → Next Judged) : Type 0 where
    pub after : State
    pub got : Got taken s after
    pub tokens : (k : Token) (c : Name) (o : ℕ) → amount_of after (OfToken k c o) ≡ amount_of s (OfToken k c o)
    pub never : RestNeverFails taken (λ maps. next maps after)

  fields_go : (taken : Taken) (s : State) (fs : List Parameter) → HaveDefaults (first_fields p class) fs → (t : State)
      → Got taken s t → ((k : Token) (c : Name) (o : ℕ) → amount_of t (OfToken k c o) ≡ amount_of s (OfToken k c o))
      → (next : Maps → Next Judged)
      → RestNeverFails taken (λ maps. add_fields (truly maps) class (suc heap.count) fs (next maps) t) → Fielded taken s next
  fields_go taken s [] all t got tokens next never = record { after = t; got = got; tokens = tokens; never = never }
  fields_go taken s (f ∷ fs) all t got tokens next never =
      fields_go taken s fs all.1 (with_cell t (field_of f.0) whole (default_of f.1))
      (field_got taken s t got f.0 (default_of f.1) all.0) tokens next never

  -- a token that wasn't there
  token_got : (taken : Taken) (s t : State) → Got taken s t → (r : Resource)
      → is_given (first_fields p class) class (suc heap.count) r ≡ true → (next : Maps → Next Judged)
      → amount_of t r ≡ 0 → (g : GainedOne flags (with_object heap class (first_fields p class)) taken t r whole next)
      → Got taken s g.after
  token_got taken s t got r new next empty g = record {
    fine = g.raised.fine;
    scene = g.scene ∙ got.scene;
    old = g.kept ∙ got.old;
    instances = g.instances ∙ got.instances;
    less = more_less s t r new got.less g.after
        (let one = g.sum r in let two = only_self r whole in omega (arith, one, two, empty))
        (λ q e. let one = g.sum q in let two = ap (λ b. if b then whole else 0) e in omega (arith, one, two));
  }

  tokens_none : (taken : Taken) (s : State) → StateFits flags heap taken s → (k : Token)
      → is_given (first_fields p class) class (suc heap.count) (OfToken k class (suc heap.count)) ≡ true
      → amount_of s (OfToken k class (suc heap.count)) ≡ 0
  tokens_none taken s fine k new = by (amount_of s (token_of k)) refl
    where
      by : (n : ℕ) → amount_of s (token_of k) ≡ n → n ≡ 0
      by zero e = refl
      by (suc n) e = absurd (not_placed (token_of k) new (placed_of flags heap taken s fine (token_of k) (omega (arith, e))))

  -- what a run goes on with after `new`
  pub record Creates (taken : Taken) (s : State) (next : Maps → Next Judged) : Type 0 where
    pub after : State
    pub got : Got taken s after
    pub never : RestNeverFails taken (λ maps. next maps after)

  tokens_go : (taken : Taken) (s t : State) → Got taken s t → amount_of t (token_of token.Idle) ≡ 0
      → amount_of t (token_of token.Uncommitted) ≡ 0 → (next : Maps → Next Judged)
      → RestNeverFails taken (λ maps. add_tokens (truly maps) p class (suc heap.count) (next maps) t) → Creates taken s next
  tokens_go taken s t got idle uncommitted next never = first (is_some (run_of p class)) never
    where
      second : (b : Bool) (u : State) → Got taken s u → amount_of u (token_of token.Uncommitted) ≡ 0
          → RestNeverFails taken (λ maps. add_token_if (truly maps) b (add_whole (truly maps) (token_of token.Uncommitted)
          (next maps)) (next maps) u) → Creates taken s next
      second false u g none n = record { after = u; got = g; never = n }
      second true u g none n =
          let k = add_goes flags more more_fits.beyond taken (token_of token.Uncommitted) next u g.fine new_class (λ x. tt) none n
          in record {
            after = k.after;
            got = token_got taken s u g (token_of token.Uncommitted) own_given next none k;
            never = k.never;
          }

      first : (b : Bool) → RestNeverFails taken (λ maps. add_token_if (truly maps) b (add_whole (truly maps)
          (token_of token.Idle) (add_uncommitted (truly maps) p class (suc heap.count) (next maps)))
          (add_uncommitted (truly maps) p class (suc heap.count) (next maps)) t) → Creates taken s next
      first false n = second (is_some (invariant_of p class)) t got uncommitted n
      first true n =
          let k = add_goes flags more more_fits.beyond taken (token_of token.Idle)
          (λ maps. add_uncommitted (truly maps) p class (suc heap.count) (next maps)) t got.fine new_class (λ x. tt) idle n in
          let none : amount_of k.after (token_of token.Uncommitted) ≡ 0 =
          let s = k.sum (token_of token.Uncommitted) in omega (arith, s, uncommitted) in
          second (is_some (invariant_of p class)) k.after
          (token_got taken s t got (token_of token.Idle) own_given
          (λ maps. add_uncommitted (truly maps) p class (suc heap.count) (next maps)) idle k) none k.never

  -- the run of `new` goes on with the new object
  pub creates : (taken : Taken) (s : State) → StateFits flags heap taken s
      → HaveDefaults (first_fields p class) (fields_of p class) → (next : Maps → Value → Next Judged)
      → RestNeverFails taken (λ maps. new_object (truly maps) p class (next maps) s)
      → Creates taken s (λ maps. next maps (value.Reference (suc heap.count)))
  creates taken s fine all next never =
      let fielded = fields_go taken s (fields_of p class) all (with_met s (Object class) (suc heap.count)) start
      (λ k c o. refl) (λ maps. add_tokens (truly maps) p class (suc heap.count) (next maps (value.Reference (suc heap.count))))
      (alike_never taken
      (never_number taken (λ maps z. met_as (truly maps) (Object class) z
      (fresh (truly maps) (Object class) s.met (rest maps)) s) (pos (suc heap.count)) never)
      (λ maps. fresh_is maps (Object class) heap.count s.met fine.met (rest maps) (with_met s (Object class) (suc heap.count))))
      in
      tokens_go taken s fielded.after fielded.got
      (fielded.tokens token.Idle class (suc heap.count) ∙ tokens_none taken s fine token.Idle own_given)
      (fielded.tokens token.Uncommitted class (suc heap.count) ∙ tokens_none taken s fine token.Uncommitted own_given)
      (λ maps. next maps (value.Reference (suc heap.count))) fielded.never
    where
      rest : Maps → ℕ → Next Judged
      rest maps o = add_fields (truly maps) class o (fields_of p class)
          (add_tokens (truly maps) p class o (next maps (value.Reference o)))

      start : Got taken s (with_met s (Object class) (suc heap.count))
      start = record {
        fine = record {
          steps = fine.steps;
          agree = fine.agree;
          holds = λ q h is. held_later p flags heap more taken (amount_of s) (keeps_created (amount_of s)) q h
              (let k : h.amount ≡ amount_of s q = ap amount_held (sym is) in omega (arith, k)) (fine.holds q h is);
          knows = fine.knows;
          met = (omega arith, below_more heap.count (suc heap.count) (omega arith) s.met fine.met);
        };
        scene = refl;
        old = refl;
        instances = refl;
        less = λ q. omega arith;
      }
