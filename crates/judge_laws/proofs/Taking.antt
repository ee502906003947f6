-- What a run takes and gives, in two related settings, comes to related rests.
use Rattle.std.proofs.Common.{ℕ, zero, suc, ℤ, pos, negsuc, Option, Some, None, List, [], ◌∷◌}
use Rattle.std.specs.Prelude.{◌+ℤ◌, int_le, nat_le, nat_eq, ◌+◌, ◌&&◌}
use Rattle.pv_base.specs.declared.Name.{Name}
use Rattle.pv_base.specs.declared.Span.{Span}
use Rattle.pv_ast.specs.declared.PvType.{PvType}
use Rattle.pv_ast.specs.declared.PvType.TheVariants as type
use Rattle.pv_ast.specs.declared.Token.{Token}
use Rattle.pv_ast.specs.declared.Token.TheVariants as token
use Rattle.pv_values.specs.declared.value.Value.{Value}
use Rattle.pv_fraction.specs.Amounts.{whole}
use Rattle.pv_picks.specs.Plain.Core.{Operation, Manner, Plain, Tabled, Expression, Cut, Below, UpTo, Above, From, Provided}
use Rattle.pv_picks.specs.Formulas.Values.{truth_in, reference_in, within, is_empty}
use Rattle.pv_picks.specs.Formulas.Meeting.{guard_term}
use Rattle.pv_picks.specs.Judge.States.{State, amount_of, Resource, Folded, Cell, Cells, Bind, cells_of, without_instance}
use Rattle.pv_picks.specs.Judge.Settings.{Setting, Next, Event, Known, ArrayPart, met_as, pick_value, unless_null, if_within, known_or_picked, look_at_length, operate, or_missing, formula_reader}
use Rattle.pv_picks.specs.Judge.Permissions.{gain_on, gain, gain_field, gain_element, gain_range, give, give_field, give_element, give_range, add_whole, add_token, take_token, add_lock, take_lock, add_instance, or_short, take_instance, has_room, has_each}
use Rattle.pv_picks.specs.Judge.Repetitions.{bind_at, or_blocked, operation_tested, test_reader, test_at, test_from, Range, Look, AtElements, AtElement, AtLength, AtTerm, cut_by, value_in, arrays_read, look_ahead, notice_parts, notice_bound, notice_cut, unless_empty, cut_all}
use Rattle.judge_laws.specs.Related.{AreRelated, AreRelatedThroughout}
use Rattle.pv_picks.proofs.Readers.{ReadersRelated, if_related, evaluate_related}

module _ {A B : Type 0} (S : Setting A) (T : Setting B) (P : A → B → Type 0) (r : AreRelatedThroughout S T P) where
  met_throughout : (t : PvType) (z : ℤ) (f : Value → Next A) (g : Value → Next B) → ((v : Value) (s : State) → P (f v s) (g v s))
      → (s : State) → P (met_as S t z f s) (met_as T t z g s)
  met_throughout t (pos n) f g h s = h _ _
  met_throughout t (negsuc n) f g h s = r.unfit

  pub throughout : AreRelated S T P
  throughout = record {
    finished = r.finished;
    blocked = r.blocked;
    failed = r.failed;
    pick = λ t n. r.pick t;
    met = λ t is f g h s. r.pick t _ _ (λ z. met_throughout t z f g h s);
    turn = r.turn;
    steps = r.steps;
    using = r.using;
    comparing = r.comparing;
    matching = r.matching;
    deciding = r.deciding;
    noticing = r.noticing;
    reading = r.reading;
    knowing = r.knowing;
  }

module _ {A B : Type 0} (S : Setting A) (T : Setting B) (P : A → B → Type 0) (r : AreRelated S T P) where
  -- two rests from each state on
  abbrev pub Nexts : Next A → Next B → Type 0
  Nexts f g = (s : State) → P (f s) (g s)

  pub pick_value_related : (t : PvType) (f : Value → Next A) (g : Value → Next B) → ((v : Value) → Nexts (f v) (g v))
      → Nexts (pick_value S t f) (pick_value T t g)
  pick_value_related type.Int f g h s = r.pick type.Int (λ n. n) _ _ (λ z. h _ s)
  pick_value_related type.Truth f g h s = r.pick type.Truth (λ n. n) _ _ (λ z. h _ s)
  pick_value_related (type.Object c) f g h s = r.met (type.Object c) tt f g h s
  pick_value_related type.IntArray f g h s = r.met type.IntArray tt f g h s
  pick_value_related type.TruthArray f g h s = r.met type.TruthArray tt f g h s
  pick_value_related type.Null f g h s = r.blocked

  pub unless_null_related : (n : ℕ) (x u : A) (y w : B) → P x y → P u w → P (unless_null S n x u) (unless_null T n y w)
  unless_null_related n x u y w p q = r.matching _ _ _ _ (if_related P (nat_eq n 0) x u y w p q)

  pub if_within_related : (l h i : ℤ) (x u : A) (y w : B) → P x y → P u w → P (if_within S l h i x u) (if_within T l h i y w)
  if_within_related l h i x u y w p q = r.comparing _ _ _ _ (r.comparing _ _ _ _ (if_related P (within l h i) u x w y q p))

  pub known_or_picked_related : (o : Option ℤ) (t : PvType) (a : ℕ) (f : ℤ → Next A) (g : ℤ → Next B)
      → ((z : ℤ) → Nexts (f z) (g z))
      → Nexts (known_or_picked S o t a f) (known_or_picked T o t a g)
  known_or_picked_related (Some n) t a f g h s = h n s
  known_or_picked_related None t a f g h s =
      r.pick type.Int (λ n. n) _ _ (λ z. r.comparing _ _ _ _ (if_related P (int_le (pos 0) z) _ _ _ _ (h z _) r.blocked))

  pub look_at_length_related : (t : PvType) (a : ℕ) (f : ℤ → Next A) (g : ℤ → Next B) → ((z : ℤ) → Nexts (f z) (g z))
      → Nexts (look_at_length S t a f) (look_at_length T t a g)
  look_at_length_related t a f g h s = r.noticing _ _ _ (known_or_picked_related (s.lengths t a) t a f g h s)

  pub operate_related : (m : Manner) (o : Operation) (a b : ℤ) (p : Span) (f : ℤ → Next A) (g : ℤ → Next B)
      → ((z : ℤ) → Nexts (f z) (g z))
      → Nexts (operate S m o a b p f) (operate T m o a b p g)
  operate_related Plain o a b p f g h s = h _ s
  operate_related Tabled o a b p f g h s = r.using o a b _ _ (λ z. h z s)

  pub or_missing_related : (c : Option Cell) (x : A) (y : B) → P x y → (f : Value → Next A) (g : Value → Next B)
      → ((v : Value) → Nexts (f v) (g v))
      → Nexts (or_missing S c x f) (or_missing T c y g)
  or_missing_related None x y p f g h s = p
  or_missing_related (Some c) x y p f g h s = r.reading _ _ _ (λ v. h v s)

  pub formula_reader_related : (cells : State → Cells) (m : Span → Next A) (n : Span → Next B) → ((p : Span) → Nexts (m p) (n p))
      → ReadersRelated Nexts (formula_reader S cells m) (formula_reader T cells n)
  formula_reader_related cells m n q = record {
    field = λ c o x p f g h s. r.noticing _ _ _ (or_missing_related _ _ _ (q p s) f g h s);
    element = λ t a i p f g h s. r.noticing _ _ _ (or_missing_related _ _ _ (q p s) f g h s);
    length = λ t a p f g h s. unless_null_related a _ _ _ _ (q p s) (look_at_length_related t a f g h s);
    operation = operate_related;
    comparing = λ a b x y h s. r.comparing a b _ _ (h s);
    matching = λ v w x y h s. r.matching v w _ _ (h s);
    deciding = λ b x y h s. r.deciding b _ _ (h s);
  }

  pub value_in_related : (cells : State → Cells) (m : Span → Next A) (n : Span → Next B) → ((p : Span) → Nexts (m p) (n p))
      → (b : Bind) (e : Expression)
      (f : Value → Next A) (g : Value → Next B) → ((v : Value) → Nexts (f v) (g v))
      → Nexts (value_in S cells m b e f) (value_in T cells n b e g)
  value_in_related cells m n q b e f g h =
      evaluate_related Nexts _ _ _ _ (formula_reader_related cells m n q)
      (formula_reader_related (λ s. b.old) m n q) b.scene e f g h

  -- Permissions

  pub gain_on_related : (n : ℕ) (t : PvType) (x : Resource) (a : ℕ) (f : Next A) (g : Next B) → Nexts f g
      → Nexts (gain_on S n t x a f) (gain_on T n t x a g)
  gain_on_related zero t x a f g h s = pick_value_related t _ _ (λ v later. h _) s
  gain_on_related (suc n) t x a f g h s = h _

  pub gain_related : (t : PvType) (x : Resource) (a : ℕ) (f : Next A) (g : Next B) → Nexts f g
      → Nexts (gain S t x a f) (gain T t x a g)
  gain_related t x a f g h s =
      if_related P (nat_le (amount_of s x + a) whole) _ _ _ _ (gain_on_related (amount_of s x) t x a f g h s) r.blocked

  pub gain_field_related : (c : Name) (o : ℕ) (n : Name) (t : PvType) (a : ℕ) (f : Next A) (g : Next B) → Nexts f g
      → Nexts (gain_field S c o n t a f) (gain_field T c o n t a g)
  gain_field_related c o n t a f g h s = unless_null_related o _ _ _ _ r.blocked (r.noticing _ _ _ (gain_related t _ a f g h s))

  pub gain_element_related : (t : PvType) (x : ℕ) (i : ℤ) (a : ℕ) (f : Next A) (g : Next B) → Nexts f g
      → Nexts (gain_element S t x i a f) (gain_element T t x i a g)
  gain_element_related t x i a f g h s = unless_null_related x _ _ _ _ r.blocked (look_at_length_related t x _ _
      (λ n later. if_within_related _ n i _ _ _ _ r.blocked (r.noticing _ _ _ (gain_related t _ a f g h later))) s)

  pub gain_range_related : (t : PvType) (x : ℕ) (l u : ℤ) (ends : List ℤ) (a : ℕ) (f : Next A) (g : Next B) → Nexts f g
      → Nexts (gain_range S t x l u ends a f) (gain_range T t x l u ends a g)
  gain_range_related t x l u ends a f g h s = unless_null_related x _ _ _ _ r.blocked (look_at_length_related t x _ _
      (λ n later. r.comparing _ _ _ _ (r.comparing _ _ _ _ (if_related P (int_le (pos 0) l && int_le u n) _ _ _ _
      (r.noticing _ _ _ (if_related P (has_room later t x l u a) _ _ _ _ (r.steps _ _ _ _ _ (h _)) r.blocked)) r.blocked))) s)

  pub give_related : (x : Resource) (a : ℕ) (u : A) (w : B) → P u w → (f : Next A) (g : Next B) → Nexts f g
      → Nexts (give S x a u f) (give T x a w g)
  give_related x a u w p f g h s = if_related P (nat_le a (amount_of s x)) _ _ _ _ (h _) p

  pub give_field_related : (c : Name) (o : ℕ) (n : Name) (a : ℕ) (u : A) (w : B) → P u w → (f : Next A) (g : Next B) → Nexts f g
      → Nexts (give_field S c o n a u f) (give_field T c o n a w g)
  give_field_related c o n a u w p f g h s = r.noticing _ _ _ (give_related _ a u w p f g h s)

  pub give_element_related : (t : PvType) (x : ℕ) (i : ℤ) (a : ℕ) (u : A) (w : B) → P u w → (f : Next A) (g : Next B) → Nexts f g
      → Nexts (give_element S t x i a u f) (give_element T t x i a w g)
  give_element_related t x i a u w p f g h s = r.noticing _ _ _ (give_related _ a u w p f g h s)

  pub give_range_related : (t : PvType) (x : ℕ) (l m : ℤ) (ends : List ℤ) (a : ℕ) (u : A) (w : B) → P u w
      → (f : Next A) (g : Next B) → Nexts f g
      → Nexts (give_range S t x l m ends a u f) (give_range T t x l m ends a w g)
  give_range_related t x l m ends a u w p f g h s = r.noticing _ _ _ (if_related P (has_each s t x l m a) _ _ _ _ (h _) p)

  pub add_whole_related : (x : Resource) (f : Next A) (g : Next B) → Nexts f g → Nexts (add_whole S x f) (add_whole T x g)
  add_whole_related x f g h s = if_related P (nat_eq (amount_of s x) 0) _ _ _ _ (h _) r.blocked

  pub add_token_related : (t : Token) (c : Name) (o : ℕ) (f : Next A) (g : Next B) → Nexts f g
      → Nexts (add_token S t c o f) (add_token T t c o g)
  add_token_related token.Idle c o f g h s = r.noticing _ _ _ (add_whole_related _ f g h s)
  add_token_related token.Running c o f g h s = r.noticing _ _ _ (add_whole_related _ f g h s)
  add_token_related token.Committed c o f g h s = r.noticing _ _ _ (h _)
  add_token_related token.Uncommitted c o f g h s = r.noticing _ _ _ (add_whole_related _ f g h s)

  pub take_token_related : (t : Token) (c : Name) (o : ℕ) (u : A) (w : B) → P u w → (f : Next A) (g : Next B) → Nexts f g
      → Nexts (take_token S t c o u f) (take_token T t c o w g)
  take_token_related token.Idle c o u w p f g h s = r.noticing _ _ _ (give_related _ _ u w p f g h s)
  take_token_related token.Running c o u w p f g h s = r.noticing _ _ _ (give_related _ _ u w p f g h s)
  take_token_related token.Committed c o u w p f g h s = r.noticing _ _ _ (if_related P (s.committed c o) _ _ _ _ (h _) p)
  take_token_related token.Uncommitted c o u w p f g h s = r.noticing _ _ _ (give_related _ _ u w p f g h s)

  pub add_lock_related : (c : Name) (o : ℕ) (f : Next A) (g : Next B) → Nexts f g → Nexts (add_lock S c o f) (add_lock T c o g)
  add_lock_related c o f g h s = add_whole_related _ f g h s

  pub take_lock_related : (c : Name) (o : ℕ) (u : A) (w : B) → P u w → (f : Next A) (g : Next B) → Nexts f g
      → Nexts (take_lock S c o u f) (take_lock T c o w g)
  take_lock_related c o u w p f g h s = r.noticing _ _ _ (give_related _ _ u w p f g h s)

  pub add_instance_related : (x : Folded) (f : Next A) (g : Next B) → Nexts f g → Nexts (add_instance S x f) (add_instance T x g)
  add_instance_related x f g h s = r.noticing _ _ _ (h _)

  pub or_short_related : (o : Option (List Folded)) (u : A) (w : B) → P u w → (f : Next A) (g : Next B) → Nexts f g
      → Nexts (or_short S o u f) (or_short T o w g)
  or_short_related None u w p f g h s = p
  or_short_related (Some xs) u w p f g h s = h _

  pub take_instance_related : (x : Folded) (u : A) (w : B) → P u w → (f : Next A) (g : Next B) → Nexts f g
      → Nexts (take_instance S x u f) (take_instance T x w g)
  take_instance_related x u w p f g h s = r.noticing _ _ _ (or_short_related (without_instance x s.instances) u w p f g h s)

  -- Repetitions

  pub notice_bound_related : (z : ℤ) (x : Range) (u : A) (w : B) → P u w → P (notice_bound S z x u) (notice_bound T z x w)
  notice_bound_related z x u w p = r.comparing _ _ _ _ (r.comparing _ _ _ _ p)

  pub arrays_read_related : (cells : State → Cells) (b : Bind) (ls : List Look) (f : List ArrayPart → Next A)
      (g : List ArrayPart → Next B)
      → ((ps : List ArrayPart) → Nexts (f ps) (g ps)) → Nexts (arrays_read S cells b ls f) (arrays_read T cells b ls g)
  arrays_read_related cells b [] f g h = h []
  arrays_read_related cells b (AtElements t a c ∷ ls) f g h =
      value_in_related cells _ _ (λ p. arrays_read_related cells b ls f g h) b a _ _
      (λ v. arrays_read_related cells b ls _ _ (λ ps. h _))
  arrays_read_related cells b (AtElement was t a i ∷ ls) f g h = arrays_read_related cells b ls f g h
  arrays_read_related cells b (AtLength t a ∷ ls) f g h = arrays_read_related cells b ls f g h
  arrays_read_related cells b (AtTerm e ∷ ls) f g h = arrays_read_related cells b ls f g h

  pub look_ahead_related : (cells : State → Cells) (b : Bind) (x : Range) (ls : List Look) (f : List ArrayPart → Next A)
      (g : List ArrayPart → Next B)
      → ((ps : List ArrayPart) → Nexts (f ps) (g ps)) → Nexts (look_ahead S cells b x ls f) (look_ahead T cells b x ls g)
  look_ahead_related cells b x [] f g h = h []
  look_ahead_related cells b x (AtElements t a c ∷ ls) f g h =
      value_in_related cells _ _ (λ p. look_ahead_related cells b x ls f g h) b a _ _
      (λ v. look_ahead_related cells b x ls _ _ (λ ps. h _))
  look_ahead_related cells b x (AtElement was t a i ∷ ls) f g h =
      value_in_related cells _ _ (λ p. look_ahead_related cells b x ls f g h) b a _ _
      (λ v. value_in_related cells _ _ (λ p. look_ahead_related cells b x ls f g h) b i _ _
      (λ w s. r.noticing _ _ _ (or_missing_related _ _ _ (look_ahead_related cells b x ls f g h s) _ _
      (λ y. look_ahead_related cells b x ls f g h) s)))
  look_ahead_related cells b x (AtLength t a ∷ ls) f g h =
      value_in_related cells _ _ (λ p. look_ahead_related cells b x ls f g h) b a _ _
      (λ v s. unless_null_related (reference_in v) _ _ _ _ (look_ahead_related cells b x ls f g h s)
      (look_at_length_related t (reference_in v) _ _ (λ n. look_ahead_related cells b x ls f g h) s))
  look_ahead_related cells b x (AtTerm e ∷ ls) f g h =
      value_in_related cells _ _ (λ p. look_ahead_related cells b x ls f g h) b e _ _
      (λ v s. notice_bound_related _ x _ _ (notice_bound_related _ x _ _ (look_ahead_related cells b x ls f g h s)))

  pub notice_parts_related : (ps : List ArrayPart) (ends : List ℤ) (u : A) (w : B) → P u w
      → P (notice_parts S ps ends u) (notice_parts T ps ends w)
  notice_parts_related [] ends u w p = p
  notice_parts_related (x ∷ xs) ends u w p = r.noticing _ _ _ (notice_parts_related xs ends u w p)

  pub unless_empty_related : (l : Range) (x u : A) (y w : B) → P x y → P u w → P (unless_empty S l x u) (unless_empty T l y w)
  unless_empty_related l x u y w p q = r.comparing _ _ _ _ (if_related P (is_empty l.low l.high) x u y w p q)

  pub notice_cut_related : (c : Cut) (v : Value) (x : Range) (u : A) (w : B) → P u w
      → P (notice_cut S c v x u) (notice_cut T c v x w)
  notice_cut_related (Below e) v x u w p = notice_bound_related _ x u w p
  notice_cut_related (UpTo e) v x u w p = notice_bound_related _ x u w p
  notice_cut_related (Above e) v x u w p = notice_bound_related _ x u w p
  notice_cut_related (From e) v x u w p = notice_bound_related _ x u w p
  notice_cut_related (Provided e) v x u w p = r.deciding _ _ _ p

  pub cut_all_related : (cells : State → Cells) (m : Span → Next A) (n : Span → Next B) → ((p : Span) → Nexts (m p) (n p))
      → (b : Bind) (cs : List Cut) (x : Range)
      (u : Next A) (w : Next B) → Nexts u w → (f : Range → Next A) (g : Range → Next B) → ((y : Range) → Nexts (f y) (g y))
      → Nexts (cut_all S cells m b cs x u f) (cut_all T cells n b cs x w g)
  cut_all_related cells m n q b [] x u w k f g h s = h x s
  cut_all_related cells m n q b (c ∷ cs) x u w k f g h s = unless_empty_related x _ _ _ _ (k s)
      (value_in_related cells m n q b (guard_term c) _ _
      (λ v later. notice_cut_related c v x _ _ (cut_all_related cells m n q b cs (cut_by c v x) u w k f g h later)) s)

  -- Tests

  or_blocked_related : {X : Type 0} (o : Option X) (f : X → A) (g : X → B) → ((x : X) → P (f x) (g x))
      → P (or_blocked S o f) (or_blocked T o g)
  or_blocked_related None f g h = r.blocked
  or_blocked_related (Some x) f g h = h x

  operation_tested_related : (m : Manner) (o : Operation) (a b : ℤ) (p : Span) (f : ℤ → A) (g : ℤ → B) → ((z : ℤ) → P (f z) (g z))
      → P (operation_tested S m o a b p f) (operation_tested T m o a b p g)
  operation_tested_related Plain o a b p f g h = h _
  operation_tested_related Tabled o a b p f g h = r.using o a b f g h

  test_reader_related : (s : State) (cells : Cells) → ReadersRelated P (test_reader S s cells) (test_reader T s cells)
  test_reader_related s cells = record {
    field = λ c o x p f g h. r.noticing _ _ _ (or_blocked_related _ _ _ (λ y. r.reading y f g h));
    element = λ t a i p f g h. or_blocked_related _ _ _ (λ y. r.reading y f g h);
    length = λ t a p f g h. if_related P (nat_eq a 0) _ _ _ _ r.blocked (r.noticing _ _ _ (or_blocked_related _ f g h));
    operation = operation_tested_related;
    comparing = r.comparing;
    matching = r.matching;
    deciding = r.deciding;
  }

  pub test_at_related : (k : Known) (i : ℤ) (x : A) (y : B) → P x y → P (test_at S k i x) (test_at T k i y)
  test_at_related k i x y p =
      evaluate_related P _ _ _ _ (test_reader_related k.state (cells_of k.state)) (test_reader_related k.state k.bind.old)
      (bind_at k.bind k.name i).scene k.fact _ _ (λ v. r.deciding (truth_in v) _ _
      (if_related P (truth_in v) _ _ _ _ p r.blocked))

  pub test_from_related : (k : Known) (i : ℤ) (n : ℕ) (x : A) (y : B) → P x y → P (test_from S k i n x) (test_from T k i n y)
  test_from_related k i zero x y p = p
  test_from_related k i (suc n) x y p = test_at_related k i _ _ (test_from_related k (i +ℤ pos 1) n x y p)

  -- the same but for what is noticed and what comes to be known
  pub otherwise : (e : Event → A → A) (d : Event → B → B) (k : Known → A → A) (l : Known → B → B)
      → ((v : Event) (x : A) (y : B) → P x y → P (e v x) (d v y)) → ((v : Known) (x : A) (y : B) → P x y → P (k v x) (l v y))
      → AreRelated (record S { noticing = e; knowing = k }) (record T { noticing = d; knowing = l }) P
  otherwise e d k l h j = record {
    finished = r.finished;
    blocked = r.blocked;
    failed = r.failed;
    pick = r.pick;
    met = r.met;
    turn = r.turn;
    steps = r.steps;
    using = r.using;
    comparing = r.comparing;
    matching = r.matching;
    deciding = r.deciding;
    noticing = h;
    reading = r.reading;
    knowing = j;
  }
