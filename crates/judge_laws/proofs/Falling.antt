-- Exhaling never leaves more of anything than there was.
use Rattle.std.proofs.Common.{◌≡◌, ℕ, zero, suc, ◌-◌, ◌≤◌, ℤ, pos, Bool, true, false, if◌then◌else◌, Option, Some, None, List, [], ◌∷◌, refl, ap, arith}
use Rattle.std.specs.Prelude.{◌+ℤ◌, int_le, nat_le, nat_eq}
use Rattle.pv_base.specs.declared.Name.{Name}
use Rattle.pv_base.specs.declared.Span.{Span}
use Rattle.pv_ast.specs.declared.PvType.{PvType}
use Rattle.pv_ast.specs.declared.Token.{Token}
use Rattle.pv_ast.specs.declared.Token.TheVariants as token
use Rattle.pv_values.specs.declared.value.Value.{Value}
use Rattle.pv_fraction.specs.Amounts.{whole}
use Rattle.pv_ast.specs.declared.PvType.TheVariants.{Int}
use Rattle.pv_picks.specs.declared.evidence.Pick.{Pick}
use Rattle.pv_picks.specs.declared.evidence.Pick.TheVariants.{Number, Turn, Steps}
use Rattle.pv_picks.specs.declared.evidence.Entry.{Entry}
use Rattle.pv_picks.specs.Plain.Core.{Operation, Manner, Plain, Tabled, Expression, Cut, Below, UpTo, Above, From, Provided, Formula, Fact, FieldPermission, ElementPermission, Holds, Instance, Star, When, Each, Items, NoItems, Join, Item, Elements, Repeated, Committed, Guarded, Fixed}
use Rattle.pv_picks.specs.Formulas.Values.{number_in, truth_in, within, is_empty}
use Rattle.pv_picks.specs.Formulas.Meeting.{guard_term}
use Rattle.pv_picks.specs.Judge.States.{State, Holding, amount_held, amount_of, holding, Resource, Folded, Cell, Cells, Bind, same_resource, is_among, without_instance, with_amount, without_range}
use Rattle.pv_picks.specs.Judge.Settings.{Setting, Next, no_frame, ArrayPart, known_or_picked, look_at_length, operate, or_missing, formula_reader}
use Rattle.pv_picks.specs.Judge.Permissions.{give, give_range, take_token, or_short, take_instance, has_each}
use Rattle.pv_picks.specs.Judge.Repetitions.{Range, range_of, shifted, Look, AtElements, AtElement, AtLength, AtTerm, looks_of, cut_by, value_in, arrays_read, notice_parts, notice_cut, unless_empty, cut_all}
use Rattle.pv_picks.specs.Judge.Exhaling.{Giving, from_at, value_from, values_from, fails, holds_or_fails, exhale_at_mark, exhale_repeated, exhale, exhale_items, exhale_item}
use Rattle.pv_picks.specs.Judge.Runs.{End, Blocked, Maps}
use Rattle.judge_laws.specs.Direct.{Gone, Goes, Ends, Directly, directly, went}
use Rattle.judge_laws.specs.Statements.{WasHeld}
use Rattle.pv_picks.proofs.Sames.{resources_same}
use Rattle.pv_picks.proofs.Readers.{ReadersRelated, evaluate_related, evaluate_all_related}

-- what is left is at most what was there
abbrev Below' : State → State → Type 0
Below' after before = (r : Resource) → amount_of after r ≤ amount_of before r

abbrev Falls : Directly → State → Type 0
Falls rest s = (picks left : List Pick) (after : State) → rest picks ≡ Goes after left → Below' after s

abbrev AllFall : Next Directly → Type 0
AllFall next = (s : State) → Falls (next s) s

ends_never : {A : Type 0} (e : End) (s : State) (p : List Pick) → Ends e ≡ Goes s p → A
ends_never e s p h = absurd (cc h)

state_in : Gone → State → State
state_in (Goes s picks) otherwise = s
state_in (Ends e) otherwise = otherwise

same_state : (s t : State) (p q : List Pick) → Goes s p ≡ Goes t q → s ≡ t
same_state s t p q h = cc h

went_falls : AllFall went
went_falls s picks left after h r = let e = same_state s after picks left h in omega (arith, ap (λ t. amount_of t r) e)

stop_falls : (e : End) (s : State) → Falls (λ picks. Ends e) s
stop_falls e s picks left after h = ends_never e after left h

if_falls : (b : Bool) (x y : Directly) (s : State) → Falls x s → Falls y s → Falls (if b then x else y) s
if_falls true x y s h k = h
if_falls false x y s h k = k

-- from a state with the same or less
lower_falls : (next : Next Directly) (t s : State) → AllFall next → Below' t s → Falls (next t) s
lower_falls next t s h k picks left after e r = let a = h t picks left after e r in let b = k r in omega (arith, a, b)

stays : (t : State) → Below' t t
stays t r = omega arith

module _ (maps : Maps) (table : List Entry) where
  abbrev S : Setting Directly
  S = directly maps table

  pick_falls : (f : ℤ → Directly) (s : State) → ((z : ℤ) → Falls (f z) s) → Falls (S.pick Int f) s
  pick_falls f s h [] left after e = ends_never _ after left e
  pick_falls f s h (Number z ∷ picks) left after e = h z picks left after e
  pick_falls f s h (Turn n ∷ picks) left after e = ends_never _ after left e
  pick_falls f s h (Steps m ∷ picks) left after e = ends_never _ after left e

  known_falls : (o : Option ℤ) (t : PvType) (a : ℕ) (f : ℤ → Next Directly) → ((z : ℤ) → AllFall (f z))
      → AllFall (known_or_picked S o t a f)
  known_falls (Some n) t a f h s = h n s
  known_falls None t a f h s =
      pick_falls _ s (λ z. if_falls (int_le (pos 0) z) _ _ s (lower_falls (f z) _ s (h z) (stays s)) (stop_falls Blocked s))

  length_falls : (t : PvType) (a : ℕ) (f : ℤ → Next Directly) → ((z : ℤ) → AllFall (f z)) → AllFall (look_at_length S t a f)
  length_falls t a f h s = known_falls (s.lengths t a) t a f h s

  operate_falls : (m : Manner) (o : Operation) (a b : ℤ) (p : Span) (f : ℤ → Next Directly) → ((z : ℤ) → AllFall (f z))
      → AllFall (operate S m o a b p f)
  operate_falls Plain o a b p f h s = h _ s
  operate_falls Tabled o a b p f h s = h _ s

  missing_falls : (c : Option Cell) (x : Directly) (s : State) → Falls x s → (f : Value → Next Directly)
      → ((v : Value) → AllFall (f v)) → Falls (or_missing S c x f s) s
  missing_falls None x s k f h = k
  missing_falls (Some c) x s k f h = h _ s

  -- both of two rests fall: the first alone counts
  abbrev One : Next Directly → Next Directly → Type 0
  One f g = AllFall f

  reader_falls : (cells : State → Cells) (m : Span → Next Directly) → ((p : Span) → AllFall (m p))
      → ReadersRelated One (formula_reader S cells m) (formula_reader S cells m)
  reader_falls cells m k = record {
    field = λ c o x p f g h s. missing_falls _ _ s (k p s) f h;
    element = λ t a i p f g h s. missing_falls _ _ s (k p s) f h;
    length = λ t a p f g h s. if_falls (nat_eq a 0) _ _ s (k p s) (length_falls t a f h s);
    operation = λ m o a b p f g h. operate_falls m o a b p f h;
    comparing = λ a b x y h. h;
    matching = λ v w x y h. h;
    deciding = λ b x y h. h;
  }

  value_falls : (cells : State → Cells) (m : Span → Next Directly) → ((p : Span) → AllFall (m p))
      → (b : Bind) (e : Expression) (f : Value → Next Directly) → ((v : Value) → AllFall (f v))
      → AllFall (value_in S cells m b e f)
  value_falls cells m k b e f h =
      evaluate_related One _ _ _ _ (reader_falls cells m k) (reader_falls (λ s. b.old) m k) b.scene e f f h

  frame_falls : (p : Span) → AllFall (no_frame S p)
  frame_falls p s = stop_falls _ s

  from_falls : (q : Giving) (e : Expression) (f : Value → Next Directly) → ((v : Value) → AllFall (f v))
      → AllFall (value_from S q e f)
  from_falls q e f h = value_falls (λ s. q.before) _ frame_falls q.bind e f h

  all_from_falls : (q : Giving) (es : List Expression) (f : List Value → Next Directly) → ((vs : List Value) → AllFall (f vs))
      → AllFall (values_from S q es f)
  all_from_falls q es f h =
      evaluate_all_related One _ _ _ _ (reader_falls (λ s. q.before) _ frame_falls)
      (reader_falls (λ s. q.bind.old) _ frame_falls) q.bind.scene es f f h

  fails_fall : (q : Giving) (p : Span) (s : State) → Falls (fails S q p) s
  fails_fall q p s = stop_falls _ s

  holds_fall : (q : Giving) (p : Span) (v : Value) (x : Directly) (s : State) → Falls x s → Falls (holds_or_fails S q p v x) s
  holds_fall q p v x s h = if_falls (truth_in v) _ _ s h (fails_fall q p s)

  -- Giving

  amount_kept : (n : ℕ) (c : Cell) → amount_held (holding n c) ≡ n
  amount_kept zero c = refl
  amount_kept (suc n) c = refl

  lowered : (b : Bool) (s : State) (x y : Resource) (a : ℕ) (c : Cell) → (b ≡ true → y ≡ x)
      → amount_held (if b then holding (amount_of s x - a) c else s.held y) ≤ amount_of s y
  lowered true s x y a c h =
      let e = ap (amount_of s) (h refl) in let d = amount_kept (amount_of s x - a) c in omega (arith, e, d)
  lowered false s x y a c h = omega arith

  less_at : (s : State) (x : Resource) (a : ℕ) → Below' (with_amount s x (amount_of s x - a)) s
  less_at s x a y = lowered (same_resource y x) s x y a _ (resources_same y x)

  lowered_if : (b : Bool) (h : Option Holding) (c : Cell) (a : ℕ)
      → amount_held (if b then holding (amount_held h - a) c else h) ≤ amount_held h
  lowered_if true h c a = let d = amount_kept (amount_held h - a) c in omega (arith, d)
  lowered_if false h c a = omega arith

  less_among : (s : State) (t : PvType) (x : ℕ) (l u : ℤ) (a : ℕ) → Below' (without_range s t x l u a) s
  less_among s t x l u a y = lowered_if (is_among t x l u y) (s.held y) _ a

  give_falls : (x : Resource) (a : ℕ) (e : Directly) (f : Next Directly) (s : State) → Falls e s → AllFall f
      → Falls (give S x a e f s) s
  give_falls x a e f s k h = if_falls (nat_le a (amount_of s x)) _ _ s (lower_falls f _ s h (less_at s x a)) k

  range_falls : (t : PvType) (x : ℕ) (l u : ℤ) (ends : List ℤ) (a : ℕ) (e : Directly) (f : Next Directly) (s : State) → Falls e s
      → AllFall f → Falls (give_range S t x l u ends a e f s) s
  range_falls t x l u ends a e f s k h = if_falls (has_each s t x l u a) _ _ s (lower_falls f _ s h (less_among s t x l u a)) k

  token_falls : (t : Token) (c : Name) (o : ℕ) (e : Directly) (f : Next Directly) (s : State) → Falls e s → AllFall f
      → Falls (take_token S t c o e f s) s
  token_falls token.Idle c o e f s k h = give_falls _ whole e f s k h
  token_falls token.Running c o e f s k h = give_falls _ whole e f s k h
  token_falls token.Committed c o e f s k h = if_falls (s.committed c o) _ _ s (h s) k
  token_falls token.Uncommitted c o e f s k h = give_falls _ whole e f s k h

  short_falls : (o : Option (List Folded)) (e : Directly) (f : Next Directly) (s : State) → Falls e s → AllFall f
      → Falls (or_short S o e f s) s
  short_falls None e f s k h = k
  short_falls (Some xs) e f s k h = lower_falls f _ s h (stays s)

  instance_falls : (x : Folded) (e : Directly) (f : Next Directly) (s : State) → Falls e s → AllFall f
      → Falls (take_instance S x e f s) s
  instance_falls x e f s k h = short_falls (without_instance x s.instances) e f s k h

  -- Repetitions

  look_falls : (cells : State → Cells) (b : Bind) (ls : List Look) (f : List ArrayPart → Next Directly)
      → ((ps : List ArrayPart) → AllFall (f ps)) → AllFall (arrays_read S cells b ls f)
  look_falls cells b [] f h = h []
  look_falls cells b (AtElements t a c ∷ ls) f h =
      value_falls cells _ (λ p. look_falls cells b ls f h) b a _ (λ v. look_falls cells b ls _ (λ ps. h _))
  look_falls cells b (AtElement was t a i ∷ ls) f h = look_falls cells b ls f h
  look_falls cells b (AtLength t a ∷ ls) f h = look_falls cells b ls f h
  look_falls cells b (AtTerm e ∷ ls) f h = look_falls cells b ls f h

  parts_fall : (ps : List ArrayPart) (ends : List ℤ) (x : Directly) (s : State) → Falls x s → Falls (notice_parts S ps ends x) s
  parts_fall [] ends x s h = h
  parts_fall (y ∷ ys) ends x s h = parts_fall ys ends x s h

  empty_falls : (l : Range) (x y : Directly) (s : State) → Falls x s → Falls y s → Falls (unless_empty S l x y) s
  empty_falls l x y s h k = if_falls (is_empty l.low l.high) x y s h k

  noticed_falls : (c : Cut) (v : Value) (x : Range) (y : Directly) (s : State) → Falls y s → Falls (notice_cut S c v x y) s
  noticed_falls (Below e) v x y s h = h
  noticed_falls (UpTo e) v x y s h = h
  noticed_falls (Above e) v x y s h = h
  noticed_falls (From e) v x y s h = h
  noticed_falls (Provided e) v x y s h = h

  cuts_fall : (q : Giving) (cs : List Cut) (x : Range) (u : Next Directly) → AllFall u → (f : Range → Next Directly)
      → ((y : Range) → AllFall (f y))
      → AllFall (cut_all S (λ s. q.before) (no_frame S) q.bind cs x u f)
  cuts_fall q [] x u k f h s = h x s
  cuts_fall q (c ∷ cs) x u k f h s = empty_falls x _ _ s (k s)
      (value_falls (λ t. q.before) _ frame_falls q.bind (guard_term c) _
      (λ v later. noticed_falls c v x _ later (cuts_fall q cs (cut_by c v x) u k f h later)) s)

  mark_falls : (q : Giving) (n : Name) (e : Expression) (p : Span) (x : Range) (m : ℤ) (f : Next Directly) → AllFall f
      → AllFall (exhale_at_mark S q n e p x m f)
  mark_falls q n e p x m f h s = if_falls (within x.low x.high m) _ _ s
      (look_falls (λ s. q.before) q.bind (looks_of n e) _ (λ ps t. parts_fall ps _ _ t
      (from_falls (from_at q n m) e _ (λ v later. holds_fall q p v _ later (h later)) t)) s) (h s)

  repeated_falls : (q : Giving) (n : Name) (e : Expression) (p : Span) (x : Range) (f : Next Directly) → AllFall f
      → AllFall (exhale_repeated S q n e p x f)
  repeated_falls q n e p x f h s = pick_falls _ s (λ m. mark_falls q n e p x m f h s)

  mutual
    pub exhale_falls : (q : Giving) (F : Formula) (f : Next Directly) → AllFall f → AllFall (exhale S q F f)
    exhale_falls q (Fact e p) f h = from_falls q e _ (λ v s. holds_fall q p v _ s (h s))
    exhale_falls q (FieldPermission e c n t a p) f h = from_falls q e _ (λ v s. give_falls _ a _ f s (fails_fall q p s) h)
    exhale_falls q (ElementPermission t x i a p) f h =
        from_falls q x _ (λ v. from_falls q i _ (λ w s. give_falls _ a _ f s (fails_fall q p s) h))
    exhale_falls q (Holds t c e p) f h = from_falls q e _ (λ v s. token_falls t c _ _ f s (fails_fall q p s) h)
    exhale_falls q (Instance c d e es p) f h =
        from_falls q e _ (λ v. all_from_falls q es _ (λ vs s. instance_falls _ _ f s (fails_fall q p s) h))
    exhale_falls q (Star F G) f h = exhale_falls q F _ (exhale_falls q G f h)
    exhale_falls q (When e F p) f h = from_falls q e _ (λ v s. if_falls (truth_in v) _ _ s (exhale_falls q F f h s) (h s))
    exhale_falls q (Each n l u is p) f h = from_falls q l _ (λ v. from_falls q u _ (λ w. items_fall q n _ _ is f h))

    items_fall : (q : Giving) (n : Name) (l u : ℤ) (is : Items) (f : Next Directly) → AllFall f
        → AllFall (exhale_items S q n l u is f)
    items_fall q n l u NoItems f h = h
    items_fall q n l u (Join i is) f h = item_falls q n (range_of l u) i _ (items_fall q n l u is f h)

    item_falls : (q : Giving) (n : Name) (x : Range) (i : Item) (f : Next Directly) → AllFall f
        → AllFall (exhale_item S q n x i f)
    item_falls q n x (Elements t y c a p) f h s =
        empty_falls x _ _ s (h s) (from_falls q y _ (λ v later. range_falls t _ (x.low +ℤ c) (x.high +ℤ c)
        (shifted (x.low ∷ x.high ∷ x.bounds) c) a _ f later (fails_fall q p later) h) s)
    item_falls q n x (Repeated e p) f h s = empty_falls x _ _ s (h s) (repeated_falls q n e p x f h s)
    item_falls q n x (Committed c e p) f h s =
        empty_falls x _ _ s (h s) (from_falls q e _ (λ v later. token_falls token.Committed c _ _ f later
        (fails_fall q p later) h) s)
    item_falls q n x (Guarded cs i p) f h s = cuts_fall q cs x f h _ (λ y. item_falls q n y i f h) s
    item_falls q n x (Fixed e F p) f h s = empty_falls x _ _ s (h s)
        (from_falls q e _ (λ v later. if_falls (within x.low x.high (number_in v)) _ _ later
        (exhale_falls (from_at q n (number_in v)) F f h later) (h later)) s)

pub was_held : WasHeld
was_held maps table giving formula before after picks left h =
    exhale_falls maps table giving formula went went_falls before picks left after h
