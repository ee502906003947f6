-- When the rest of a run keeps a property: whatever the setting offers keeps it, on states with an invariant.
use Rattle.std.proofs.Common.{◌≡◌, ℕ, zero, suc, ℤ, pos, negsuc, Bool, true, false, if◌then◌else◌, Option, Some, None, List, [], ◌∷◌, refl, ap}
use Rattle.std.specs.Prelude.{option_map, ◌-◌, int_le, nat_le, nat_eq, ◌+◌, ◌&&◌}
use Rattle.pv_base.specs.declared.Name.{Name}
use Rattle.pv_base.specs.declared.Span.{Span}
use Rattle.pv_ast.specs.declared.PvType.{PvType}
use Rattle.pv_ast.specs.declared.PvType.TheVariants as type
use Rattle.pv_ast.specs.declared.Token.{Token}
use Rattle.pv_ast.specs.declared.Token.TheVariants as token
use Rattle.pv_values.specs.declared.value.Value.{Value}
use Rattle.pv_fraction.specs.Amounts.{whole}
use Rattle.pv_picks.specs.declared.check.Check.{Check}
use Rattle.pv_picks.specs.declared.evidence.Entry.{Entry}
use Rattle.pv_picks.specs.Plain.Core.{Operation, Manner, Plain, Tabled, Expression, Cut, Below, UpTo, Above, From, Provided}
use Rattle.pv_picks.specs.Formulas.Values.{reference_in, number_in, within, is_empty}
use Rattle.pv_picks.specs.Formulas.Evaluation.{evaluate_all}
use Rattle.pv_picks.specs.Formulas.Meeting.{guard_term}
use Rattle.pv_picks.specs.Judge.States.{State, Resource, InField, InElement, OfToken, OfLock, Folded, Cell, Cells, Bind, Holding, amount_of, with_amount, with_cell, cells_of, no_cells, plain_cell, with_range, without_range, with_elements, with_length, with_met, nothing_held, without_instance}
use Rattle.pv_picks.specs.Judge.Settings.{Setting, Next, Event, AtArray, ArrayPart, ends_of, met_as, pick_value, unless_null, if_within, known_or_picked, look_at_length, operate, or_missing, formula_reader}
use Rattle.pv_picks.specs.Judge.Permissions.{gain_on, gain, gain_field, gain_element, gain_range, give, give_field, give_element, give_range, add_whole, add_token, take_token, add_lock, take_lock, add_instance, or_short, take_instance, has_room, has_each}
use Rattle.pv_picks.specs.Judge.Repetitions.{Range, Look, AtElements, AtElement, AtLength, AtTerm, looks_of, cut_by, value_in, arrays_read, notice_parts, notice_bound, notice_cut, unless_empty, cut_all}
use Rattle.pv_picks.specs.Judge.Steady.{NoElements}
use Rattle.pv_picks.specs.Judge.Inhaling.{known_of}
use Rattle.pv_picks.specs.Judge.Runs.{Maps, content, value_of_operation}
use Rattle.judge_facts.specs.Finite.{IsOneOf}
use Rattle.judge_facts.specs.Fair.{worth}
use Rattle.judge_facts.specs.Shapes.{Shifted, Places}
use Rattle.pv_picks.proofs.Readers.{ReadersRelated, evaluate_related, evaluate_all_related}

-- What is made of looks

abbrev pub AllShifted : ℤ → List ArrayPart → Type 0
AllShifted s [] = Unit {0}
AllShifted s (part ∷ parts) = (part.shift ≡ s) × AllShifted s parts

module _ (maps : Maps) where
  -- each array that is looked at and can be read is a part
  abbrev pub Parted : State → Bind → List Look → List ArrayPart → Type 0
  Parted s b [] parts = Unit {0}
  Parted s b (AtElements type array shift ∷ looks) parts =
      ((v : Value) → worth maps [] s (cells_of s) b.old b.scene array ≡ Some v
      → IsOneOf (record { type = type; array = reference_in v; shift = shift }) parts) × Parted s b looks parts
  Parted s b (AtElement was type array index ∷ looks) parts = Parted s b looks parts
  Parted s b (AtLength type array ∷ looks) parts = Parted s b looks parts
  Parted s b (AtTerm e ∷ looks) parts = Parted s b looks parts

  pub record Made (s : State) (b : Bind) (looks : List Look) (parts : List ArrayPart) : Type 0 where
    pub parted : Parted s b looks parts
    pub shifted : (z : ℤ) → Shifted z looks → AllShifted z parts
    pub none : NoElements looks → parts ≡ []

abbrev pub SameCells : State → State → Type 0
SameCells s t = t.held ≡ s.held

pub cells_same : (s t : State) → SameCells s t → cells_of t ≡ cells_of s
cells_same s t e = ap (λ (held : Resource → Option Holding). λ (x : Resource). option_map (λ h. h.cell) (held x)) e

-- Settings

-- an invariant of states, with that of what was held in old states; what events name; for what picks for ranges are; where
-- resources are
pub record Invariant : Type 1 where
  pub states : State → Type 0
  pub olds : Cells → Type 0
  pub named : Event → Type 0
  pub ranged : ℕ → PvType → ℕ → Type 0
  pub placed : Resource → Type 0
  -- what is in a cell may be read
  pub readable : Cell → Type 0
  -- a condition may be repeated
  pub shape : Name → Expression → Type 0

-- what is looked at, at an index that isn't shifted from the position and can be read, is named
abbrev pub Looked : Maps → List Entry → Invariant → State → Bind → List Look → Type 0
Looked maps table V s b [] = Unit {0}
Looked maps table V s b (AtElements type array shift ∷ looks) = Looked maps table V s b looks
Looked maps table V s b (AtElement was type array index ∷ looks) =
    ((v w : Value) → worth maps table s (cells_of s) b.old b.scene array ≡ Some v
    → worth maps table s (cells_of s) b.old b.scene index ≡ Some w
    → V.named (AtArray type (reference_in v) (ends_of (number_in w)))) × Looked maps table V s b looks
Looked maps table V s b (AtLength type array ∷ looks) = Looked maps table V s b looks
Looked maps table V s b (AtTerm e ∷ looks) = Looked maps table V s b looks

-- whatever the setting offers keeps a property of the rest
pub record IsKept {A : Type 0} (maps : Maps) (table : List Entry) (S : Setting A) (P : ℕ → A → Type 0)
    (V : Invariant) : Type 0 where
  pub finished : (c : ℕ) → P c S.finished
  pub blocked : (c : ℕ) → P c S.blocked
  pub failed : (n : ℕ) → (check : Check) (span : Span) → P n (S.failed check span)
  pub unfit : (c : ℕ) → P c S.unfit
  pub pick : (n : ℕ) (t : PvType) (f : ℤ → A) → ((z : ℤ) → P n (f z)) → P n (S.pick t f)
  pub turn : (n : ℕ) → (f : ℕ → A) → ((t : ℕ) → P n (f t)) → P n (S.turn f)
  pub steps : (n : ℕ) (t : PvType) (a : ℕ) (x : A) → (V.ranged n t a → P (suc n) x) → P n (S.steps n t a x)
  pub using : (n : ℕ) → (o : Operation) (a b : ℤ) (f : ℤ → A) → P n (f (value_of_operation table o a b)) → P n (S.using o a b f)
  pub comparing : (n : ℕ) → (a b : ℤ) (x : A) → P n x → P n (S.comparing a b x)
  pub matching : (n : ℕ) → (v w : Value) (x : A) → P n x → P n (S.matching v w x)
  pub deciding : (n : ℕ) → (b : Bool) (x : A) → P n x → P n (S.deciding b x)
  pub noticing : (n : ℕ) → (e : Event) (x : A) → (V.named e → P n x) → P n (S.noticing e x)
  pub reading : (n : ℕ) → (c : Cell) (f : Value → A) → V.readable c → P n (f (content maps c)) → P n (S.reading c f)
  pub knowing : (first s : State) (b : Bind) (name : Name) (e : Expression) (x : Range) (parts : List ArrayPart) (y : A)
      → V.states s → V.olds b.old → SameCells first s → V.shape name e → Made maps first b (looks_of name e) parts
      → Looked maps table V s b (looks_of name e)
      → P s.steps y → P s.steps (S.knowing (known_of S s b name e x parts) y)

-- what is done with the elements of an array from one end to another
abbrev pub Ranges : Invariant → PvType → ℕ → ℤ → ℤ → List ℤ → Type 0
Ranges V t a l h ends = V.named (AtArray t a ends) × (IsOneOf l ends × IsOneOf h ends)

-- changes of states keep the invariant
pub record IsClosed (V : Invariant) : Type 0 where
  pub same : (s t : State) → t.held ≡ s.held → t.old ≡ s.old → V.states s → V.states t
  pub field : (c : Name) (o : ℕ) (n : Name) → V.placed (InField c o n)
  pub token : (t : Token) (c : Name) (o : ℕ) → V.placed (OfToken t c o)
  pub lock : (c : Name) (o : ℕ) → V.placed (OfLock c o)
  pub element : (t : PvType) (a : ℕ) (i : ℤ) → V.named (AtArray t a (ends_of i)) → V.placed (InElement t a i)
  pub amount : (s : State) (x : Resource) (n : ℕ) → V.placed x → V.states s → V.states (with_amount s x n)
  pub value : (s : State) (x : Resource) (n : ℕ) (v : Value) → V.placed x → V.states s → V.states (with_cell s x n v)
  pub range : (s : State) (t : PvType) (a : ℕ) (l h : ℤ) (n : ℕ) (ends : List ℤ) → Ranges V t a l h ends → V.ranged s.steps t a
      → V.states s → V.states (with_range s t a l h n)
  pub without : (s : State) (t : PvType) (a : ℕ) (l h : ℤ) (n : ℕ) (ends : List ℤ) → Ranges V t a l h ends
      → V.states s → V.states (without_range s t a l h n)
  pub elements : (s : State) (t : PvType) (a : ℕ) (l h : ℤ) (n : ℕ) (v : Value) (ends : List ℤ) → Ranges V t a l h ends
      → V.states s → V.states (with_elements s t a l h n (λ i. plain_cell v))
  pub nothing : (s : State) → V.states s → V.states (nothing_held s)
  pub remember : (s : State) → V.states s → V.states (record s { old = cells_of s })
  pub old : (s : State) → V.states s → V.olds s.old
  pub cells : (s : State) → V.states s → V.olds (cells_of s)
  pub none : V.olds no_cells
  pub places : (name : Name) (e : Expression) → V.shape name e → Places (looks_of name e)
  pub readable : (cells : Cells) → V.olds cells → (x : Resource) → V.placed x → (c : Cell) → cells x ≡ Some c → V.readable c

-- a property that runs in a setting keep
pub record Kept {A : Type 0} (maps : Maps) (table : List Entry) (S : Setting A) (P : ℕ → A → Type 0) : Type 1 where
  pub invariant : Invariant
  pub is_kept : IsKept maps table S P invariant
  pub closed : IsClosed invariant

pub if_kept : {A : Type 0} (P : A → Type 0) (b : Bool) (x u : A) → P x → P u → P (if b then x else u)
if_kept P true x u p q = p
if_kept P false x u p q = q

module _ {A : Type 0} {maps : Maps} {table : List Entry} {S : Setting A} {P : ℕ → A → Type 0} (kept : Kept maps table S P) where
  abbrev I : State → Type 0
  I = kept.invariant.states

  abbrev r : IsKept maps table S P kept.invariant
  r = kept.is_kept

  abbrev c : IsClosed kept.invariant
  c = kept.closed

  abbrev O : Cells → Type 0
  O = kept.invariant.olds

  abbrev Placed : Resource → Type 0
  Placed = kept.invariant.placed

  -- Evaluation, with any invariant of what is held
  module _ (J : State → Type 0) (js : (s t : State) → t.held ≡ s.held → t.old ≡ s.old → J s → J t) where
    abbrev pub KeptJ : Next A → Type 0
    KeptJ f = (s : State) → J s → P s.steps (f s)

    abbrev pub QJ : Next A → Next A → Type 0
    QJ f g = KeptJ f

    pub known_or_picked_kept : (o : Option ℤ) (t : PvType) (a : ℕ) (f : ℤ → Next A) → ((z : ℤ) → KeptJ (f z))
        → KeptJ (known_or_picked S o t a f)
    known_or_picked_kept (Some n) t a f h s j = h n s j
    known_or_picked_kept None t a f h s j =
        r.pick _ _ _ (λ z.
        r.comparing _ _ _ _ (if_kept (P _) (int_le (pos 0) z) _ _ (h z _ (js s (with_length s t a z) refl refl j)) (r.blocked _)))

    pub look_at_length_kept : (t : PvType) (a : ℕ) (f : ℤ → Next A) → ((z : ℤ) → KeptJ (f z)) → KeptJ (look_at_length S t a f)
    look_at_length_kept t a f h s j = r.noticing _ _ _ (λ n. known_or_picked_kept (s.lengths t a) t a f h s j)

    pub operate_kept : (m : Manner) (o : Operation) (a b : ℤ) (p : Span) (f : ℤ → Next A) → ((z : ℤ) → KeptJ (f z))
        → KeptJ (operate S m o a b p f)
    operate_kept Plain o a b p f h s j = h _ s j
    operate_kept Tabled o a b p f h s j = r.using _ o a b _ (h _ s j)

    abbrev Olds : (State → Cells) → Type 0
    Olds cells = (s : State) → J s → O (cells s)

    pub or_missing_kept : (x : Option Cell) → ((y : Cell) → x ≡ Some y → kept.invariant.readable y) → (u : A)
        → (f : Value → Next A) → ((v : Value) → KeptJ (f v)) → (s : State) → J s → P s.steps u → P s.steps (or_missing S x u f s)
    or_missing_kept None g u f h s j p = p
    or_missing_kept (Some x) g u f h s j p = r.reading _ _ _ (g x refl) (h _ s j)

    pub null_kept : {step : ℕ} (n : ℕ) (x u : A) → P step x → P step u → P step (unless_null S n x u)
    null_kept n x u p q = r.matching _ _ _ _ (if_kept (P _) (nat_eq n 0) x u p q)

    pub formula_reader_kept : (cells : State → Cells) → Olds cells → (m : Span → Next A) → ((p : Span) → KeptJ (m p))
        → ReadersRelated QJ (formula_reader S cells m) (formula_reader S cells m)
    formula_reader_kept cells co m q = record {
      field = λ d o x p f g h s j. r.noticing _ _ _ (λ n.
          or_missing_kept _ (c.readable (cells s) (co s j) (InField d o x) (c.field d o x)) _ f h s j (q p s j));
      element = λ t a i p f g h s j. r.noticing _ _ _ (λ n.
          or_missing_kept _ (c.readable (cells s) (co s j) (InElement t a i) (c.element t a i n)) _ f h s j (q p s j));
      length = λ t a p f g h s j. null_kept a _ _ (q p s j) (look_at_length_kept t a f h s j);
      operation = λ m o a b p f g h. operate_kept m o a b p f h;
      comparing = λ a b x y h s j. r.comparing _ a b _ (h s j);
      matching = λ v w x y h s j. r.matching _ v w _ (h s j);
      deciding = λ b x y h s j. r.deciding _ b _ (h s j);
    }

    pub value_in_kept : (cells : State → Cells) → Olds cells → (m : Span → Next A) → ((p : Span) → KeptJ (m p))
        → (b : Bind) → O b.old → (e : Expression) (f : Value → Next A) → ((v : Value) → KeptJ (f v))
        → KeptJ (value_in S cells m b e f)
    value_in_kept cells co m q b o e f h =
        evaluate_related QJ _ _ _ _ (formula_reader_kept cells co m q)
        (formula_reader_kept (λ s. b.old) (λ s j. o) m q) b.scene e f f h

    pub values_in_kept : (cells : State → Cells) → Olds cells → (m : Span → Next A) → ((p : Span) → KeptJ (m p))
        → (b : Bind) → O b.old → (es : List Expression) (f : List Value → Next A) → ((vs : List Value) → KeptJ (f vs))
        → KeptJ (evaluate_all (formula_reader S cells m) (formula_reader S (λ s. b.old) m) b.scene es f)
    values_in_kept cells co m q b o es f h =
        evaluate_all_related QJ _ _ _ _ (formula_reader_kept cells co m q)
        (formula_reader_kept (λ s. b.old) (λ s j. o) m q) b.scene es f f h

    pub bound_kept : {step : ℕ} (z : ℤ) (x : Range) (u : A) → P step u → P step (notice_bound S z x u)
    bound_kept z x u p = r.comparing _ _ _ _ (r.comparing _ _ _ _ p)

    pub arrays_kept : (cells : State → Cells) → Olds cells → (b : Bind) → O b.old → (ls : List Look) (f : List ArrayPart → Next A)
        → ((ps : List ArrayPart) → KeptJ (f ps)) → KeptJ (arrays_read S cells b ls f)
    arrays_kept cells co b o [] f h = h []
    arrays_kept cells co b o (AtElements t a z ∷ ls) f h =
        value_in_kept cells co _ (λ p. arrays_kept cells co b o ls f h) b o a _ (λ v. arrays_kept cells co b o ls _ (λ ps. h _))
    arrays_kept cells co b o (AtElement was t a i ∷ ls) f h = arrays_kept cells co b o ls f h
    arrays_kept cells co b o (AtLength t a ∷ ls) f h = arrays_kept cells co b o ls f h
    arrays_kept cells co b o (AtTerm e ∷ ls) f h = arrays_kept cells co b o ls f h

    pub parts_kept : {step : ℕ} (ps : List ArrayPart) (ends : List ℤ) (u : A) → P step u → P step (notice_parts S ps ends u)
    parts_kept [] ends u p = p
    parts_kept (x ∷ xs) ends u p = r.noticing _ _ _ (λ n. parts_kept xs ends u p)

    pub within_kept : {step : ℕ} (l h i : ℤ) (x u : A) → P step x → P step u → P step (if_within S l h i x u)
    within_kept l h i x u p q = r.comparing _ _ _ _ (r.comparing _ _ _ _ (if_kept (P _) (within l h i) u x q p))

  -- Permissions

  abbrev pub Keeps : Next A → Type 0
  Keeps f = (s : State) → I s → P s.steps (f s)

  pub met_as_kept : (t : PvType) (z : ℤ) (f : Value → Next A) → ((v : Value) → Keeps (f v)) → Keeps (met_as S t z f)
  met_as_kept t (pos n) f h s i = h _ _ (c.same s (with_met s t n) refl refl i)
  met_as_kept t (negsuc n) f h s i = (r.unfit _)

  pub pick_value_kept : (t : PvType) (f : Value → Next A) → ((v : Value) → Keeps (f v)) → Keeps (pick_value S t f)
  pick_value_kept type.Int f h s i = r.pick _ _ _ (λ z. h _ s i)
  pick_value_kept type.Truth f h s i = r.pick _ _ _ (λ z. h _ s i)
  pick_value_kept (type.Object d) f h s i = r.pick _ _ _ (λ z. met_as_kept (type.Object d) z f h s i)
  pick_value_kept type.IntArray f h s i = r.pick _ _ _ (λ z. met_as_kept type.IntArray z f h s i)
  pick_value_kept type.TruthArray f h s i = r.pick _ _ _ (λ z. met_as_kept type.TruthArray z f h s i)
  pick_value_kept type.Null f h s i = (r.blocked _)

  pub gain_on_kept : (n : ℕ) (t : PvType) (x : Resource) (a : ℕ) → Placed x → (f : Next A) → Keeps f → Keeps (gain_on S n t x a f)
  gain_on_kept zero t x a pl f h s i = pick_value_kept t _ (λ v later j. h _ (c.value later x a v pl j)) s i
  gain_on_kept (suc n) t x a pl f h s i = h _ (c.amount s x (suc n + a) pl i)

  pub gain_kept : (t : PvType) (x : Resource) (a : ℕ) → Placed x → (f : Next A) → Keeps f → Keeps (gain S t x a f)
  gain_kept t x a pl f h s i =
      if_kept (P _) (nat_le (amount_of s x + a) whole) _ _ (gain_on_kept (amount_of s x) t x a pl f h s i) (r.blocked _)

  pub gain_field_kept : (d : Name) (o : ℕ) (n : Name) (t : PvType) (a : ℕ) (f : Next A) → Keeps f
      → Keeps (gain_field S d o n t a f)
  gain_field_kept d o n t a f h s i =
      null_kept I c.same o _ _ (r.blocked _) (r.noticing _ _ _ (λ q. gain_kept t (InField d o n) a (c.field d o n) f h s i))

  pub gain_element_kept : (t : PvType) (x : ℕ) (z : ℤ) (a : ℕ) (f : Next A) → Keeps f → Keeps (gain_element S t x z a f)
  gain_element_kept t x z a f h s i = null_kept I c.same x _ _ (r.blocked _) (look_at_length_kept I c.same t x _
      (λ n later j. within_kept I c.same _ n z _ _ (r.blocked _)
      (r.noticing _ _ _ (λ q. gain_kept t (InElement t x z) a (c.element t x z q) f h later j))) s i)

  pub gain_range_kept : (t : PvType) (x : ℕ) (l u : ℤ) (ends : List ℤ) (a : ℕ) → IsOneOf l ends → IsOneOf u ends → (f : Next A)
      → Keeps f → Keeps (gain_range S t x l u ends a f)
  gain_range_kept t x l u ends a el eu f h s i = null_kept I c.same x _ _ (r.blocked _) (look_at_length_kept I c.same t x _
      (λ n later j. r.comparing _ _ _ _ (r.comparing _ _ _ _ (if_kept (P _) (int_le (pos 0) l && int_le u n) _ _
      (r.noticing _ _ _
      (λ q. if_kept (P _) (has_room later t x l u a) _ _
      (r.steps _ _ _ _ (λ w. h _ (c.range later t x l u a ends (q, (el, eu)) w j))) (r.blocked _))) (r.blocked _)))) s i)

  pub give_kept : (x : Resource) (a : ℕ) → Placed x → (u : A) → ((step : ℕ) → P step u) → (f : Next A) → Keeps f
      → Keeps (give S x a u f)
  give_kept x a pl u p f h s i =
      if_kept (P _) (nat_le a (amount_of s x)) _ _ (h _ (c.amount s x (amount_of s x - a) pl i)) (p _)

  pub give_field_kept : (d : Name) (o : ℕ) (n : Name) (a : ℕ) (u : A) → ((step : ℕ) → P step u) → (f : Next A) → Keeps f
      → Keeps (give_field S d o n a u f)
  give_field_kept d o n a u p f h s i = r.noticing _ _ _ (λ q. give_kept (InField d o n) a (c.field d o n) u p f h s i)

  pub give_element_kept : (t : PvType) (x : ℕ) (z : ℤ) (a : ℕ) (u : A) → ((step : ℕ) → P step u) → (f : Next A) → Keeps f
      → Keeps (give_element S t x z a u f)
  give_element_kept t x z a u p f h s i = r.noticing _ _ _ (λ q. give_kept (InElement t x z) a (c.element t x z q) u p f h s i)

  pub give_range_kept : (t : PvType) (x : ℕ) (l m : ℤ) (ends : List ℤ) (a : ℕ) → IsOneOf l ends → IsOneOf m ends → (u : A)
      → ((step : ℕ) → P step u)
      → (f : Next A) → Keeps f → Keeps (give_range S t x l m ends a u f)
  give_range_kept t x l m ends a el em u p f h s i =
      r.noticing _ _ _ (λ q. if_kept (P _) (has_each s t x l m a) _ _ (h _ (c.without s t x l m a ends (q, (el, em)) i)) (p _))

  pub add_whole_kept : (x : Resource) → Placed x → (f : Next A) → Keeps f → Keeps (add_whole S x f)
  add_whole_kept x pl f h s i =
      if_kept (P _) (nat_eq (amount_of s x) 0) _ _ (h _ (c.amount s x whole pl i)) (r.blocked _)

  pub add_token_kept : (t : Token) (d : Name) (o : ℕ) (f : Next A) → Keeps f → Keeps (add_token S t d o f)
  add_token_kept token.Idle d o f h s i =
      r.noticing _ _ _ (λ q. add_whole_kept (OfToken token.Idle d o) (c.token token.Idle d o) f h s i)
  add_token_kept token.Running d o f h s i =
      r.noticing _ _ _ (λ q. add_whole_kept (OfToken token.Running d o) (c.token token.Running d o) f h s i)
  add_token_kept token.Committed d o f h s i = r.noticing _ _ _ (λ q. h _ (c.same s _ refl refl i))
  add_token_kept token.Uncommitted d o f h s i =
      r.noticing _ _ _ (λ q. add_whole_kept (OfToken token.Uncommitted d o) (c.token token.Uncommitted d o) f h s i)

  pub take_token_kept : (t : Token) (d : Name) (o : ℕ) (u : A) → ((step : ℕ) → P step u) → (f : Next A) → Keeps f
      → Keeps (take_token S t d o u f)
  take_token_kept token.Idle d o u p f h s i =
      r.noticing _ _ _ (λ q. give_kept (OfToken token.Idle d o) _ (c.token token.Idle d o) u p f h s i)
  take_token_kept token.Running d o u p f h s i =
      r.noticing _ _ _ (λ q. give_kept (OfToken token.Running d o) _ (c.token token.Running d o) u p f h s i)
  take_token_kept token.Committed d o u p f h s i = r.noticing _ _ _ (λ q. if_kept (P _) (s.committed d o) _ _ (h _ i) (p _))
  take_token_kept token.Uncommitted d o u p f h s i =
      r.noticing _ _ _ (λ q. give_kept (OfToken token.Uncommitted d o) _ (c.token token.Uncommitted d o) u p f h s i)

  pub add_lock_kept : (d : Name) (o : ℕ) (f : Next A) → Keeps f → Keeps (add_lock S d o f)
  add_lock_kept d o f h s i = add_whole_kept (OfLock d o) (c.lock d o) f h s i

  pub take_lock_kept : (d : Name) (o : ℕ) (u : A) → ((step : ℕ) → P step u) → (f : Next A) → Keeps f → Keeps (take_lock S d o u f)
  take_lock_kept d o u p f h s i = r.noticing _ _ _ (λ q. give_kept (OfLock d o) _ (c.lock d o) u p f h s i)

  pub add_instance_kept : (x : Folded) (f : Next A) → Keeps f → Keeps (add_instance S x f)
  add_instance_kept x f h s i = r.noticing _ _ _ (λ q. h _ (c.same s _ refl refl i))

  or_short_kept : (o : Option (List Folded)) (u : A) → ((step : ℕ) → P step u) → (f : Next A) → Keeps f → Keeps (or_short S o u f)
  or_short_kept None u p f h s i = p _
  or_short_kept (Some xs) u p f h s i = h _ (c.same s _ refl refl i)

  pub take_instance_kept : (x : Folded) (u : A) → ((step : ℕ) → P step u) → (f : Next A) → Keeps f → Keeps (take_instance S x u f)
  take_instance_kept x u p f h s i = r.noticing _ _ _ (λ q. or_short_kept (without_instance x s.instances) u p f h s i)

  -- Repetitions

  pub unless_empty_kept : {step : ℕ} (l : Range) (x u : A) → P step x → P step u → P step (unless_empty S l x u)
  unless_empty_kept l x u p q = r.comparing _ _ _ _ (if_kept (P _) (is_empty l.low l.high) x u p q)

  notice_cut_kept : {step : ℕ} (d : Cut) (v : Value) (x : Range) (u : A) → P step u → P step (notice_cut S d v x u)
  notice_cut_kept (Below e) v x u p = bound_kept I c.same _ x u p
  notice_cut_kept (UpTo e) v x u p = bound_kept I c.same _ x u p
  notice_cut_kept (Above e) v x u p = bound_kept I c.same _ x u p
  notice_cut_kept (From e) v x u p = bound_kept I c.same _ x u p
  notice_cut_kept (Provided e) v x u p = r.deciding _ _ _ p

  pub cut_all_kept : (cells : State → Cells) → ((s : State) → I s → O (cells s)) → (m : Span → Next A)
      → ((p : Span) → Keeps (m p))
      → (b : Bind) → O b.old → (cs : List Cut) (x : Range) (u : Next A) → Keeps u → (f : Range → Next A)
      → ((y : Range) → Keeps (f y))
      → Keeps (cut_all S cells m b cs x u f)
  cut_all_kept cells co m q b o [] x u w f h s i = h x s i
  cut_all_kept cells co m q b o (d ∷ cs) x u w f h s i = unless_empty_kept x _ _ (w s i)
      (value_in_kept I c.same cells co m q b o (guard_term d) _
      (λ v later j. notice_cut_kept d v x _ (cut_all_kept cells co m q b o cs (cut_by d v x) u w f h later j)) s i)
