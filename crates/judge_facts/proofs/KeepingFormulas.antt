-- Inhaling and exhaling keep a property of the rest.
use Rattle.std.proofs.Common.{ℕ, ℤ, List, refl, inl, inr}
use Rattle.std.specs.Prelude.{◌+ℤ◌}
use Rattle.pv_base.specs.declared.Name.{Name}
use Rattle.pv_base.specs.declared.Span.{Span}
use Rattle.pv_ast.specs.declared.Token.TheVariants as token
use Rattle.pv_values.specs.declared.value.Value.{Value}
use Rattle.pv_picks.specs.declared.evidence.Entry.{Entry}
use Rattle.pv_picks.specs.Plain.Core.{Expression, Formula, Fact, FieldPermission, ElementPermission, Holds, Instance, Star, When, Each, Items, NoItems, Join, Item, Elements, Repeated, Committed, Guarded, Fixed}
use Rattle.pv_picks.specs.Formulas.Values.{number_in, truth_in}
use Rattle.pv_picks.specs.Judge.States.{State, Cells, Bind, cells_of}
use Rattle.pv_picks.specs.Judge.Settings.{Setting, Next}
use Rattle.pv_picks.specs.Judge.Repetitions.{Range, range_of, bind_at, looks_of, arrays_read, notice_parts}
use Rattle.pv_picks.specs.Judge.Inhaling as inhaling
use Rattle.pv_picks.specs.Judge.Inhaling.{inhale, inhale_items, inhale_item, inhale_repeated, come_to_know}
use Rattle.pv_picks.specs.Judge.Exhaling as exhaling
use Rattle.pv_picks.specs.Judge.Exhaling.{Giving, exhale, exhale_items, exhale_item, exhale_repeated}
use Rattle.pv_picks.specs.Judge.Runs.{Maps}
use Rattle.judge_facts.specs.Shapes.{ShapedFormula, ShapedItems, ShapedItem}
use Rattle.judge_facts.proofs.Looking as looking
use Rattle.judge_facts.proofs.Keeping as keeping
use Rattle.judge_facts.proofs.Keeping.{Kept, IsKept, IsClosed, if_kept}

module _ {A : Type 0} {maps : Maps} {table : List Entry} {S : Setting A} {P : ℕ → A → Type 0} (kept : Kept maps table S P) where
  abbrev I : State → Type 0
  I = kept.invariant.states

  abbrev r : IsKept maps table S P kept.invariant
  r = kept.is_kept

  abbrev c : IsClosed kept.invariant
  c = kept.closed

  abbrev Q : Name → Expression → Type 0
  Q = kept.invariant.shape

  abbrev O : Cells → Type 0
  O = kept.invariant.olds

  abbrev pub Keeps : Next A → Type 0
  Keeps f = (s : State) → I s → P s.steps (f s)

  in_value : (b : Bind) → O b.old → (e : Expression) (f : Value → Next A) → ((v : Value) → Keeps (f v))
      → Keeps (inhaling.value_now S b e f)
  in_value b o e f h = keeping.value_in_kept kept I c.same cells_of c.cells _ (λ p s i. r.failed _ _ _) b o e f h

  in_values : (b : Bind) → O b.old → (es : List Expression) (f : List Value → Next A) → ((vs : List Value) → Keeps (f vs))
      → Keeps (inhaling.values_now S b es f)
  in_values b o es f h = keeping.values_in_kept kept I c.same cells_of c.cells _ (λ p s i. r.failed _ _ _) b o es f h

  -- what is known has the shape, and its parts are what was looked at
  known_kept : (b : Bind) → O b.old → (n : Name) (e : Expression) → Q n e → (x : Range) (f : Next A) → Keeps f
      → Keeps (come_to_know S b n e x f)
  known_kept b o n e sh x f h s i =
      looking.ahead_made kept s i b o x (looks_of n e) (c.places n e sh) _ s (i, refl)
      (λ ps mk t q. r.knowing s t b n e x ps (f t) q.0.0 o q.0.1 sh mk q.2 (h t q.0.0))

  -- the arrays that are read at a mark, and then what comes next
  mark_kept : (cells : State → Cells) → ((s : State) → I s → O (cells s)) → (b : Bind) → O b.old → (n : Name) (e : Expression)
      → (ends : List ℤ) (f : Next A) → Keeps f
      → Keeps (arrays_read S cells b (looks_of n e) (λ ps later. notice_parts S ps ends (f later)))
  mark_kept cells co b o n e ends f h = keeping.arrays_kept kept I c.same cells co b o (looks_of n e) _
      (λ ps t j. keeping.parts_kept kept I c.same ps ends _ (h t j))

  repeated_kept : (b : Bind) → O b.old → (n : Name) (e : Expression) → Q n e → (x : Range) (f : Next A) → Keeps f
      → Keeps (inhale_repeated S b n e x f)
  repeated_kept b o n e sh x f h s i =
      let known = known_kept b o n e sh x f h in
      r.pick _ _ _ (λ m. keeping.within_kept kept I c.same x.low x.high m _ _ (known s i)
      (mark_kept cells_of c.cells b o n e _ _
      (in_value (bind_at b n m) o e _
      (λ v t j. r.deciding _ _ _ (if_kept (P _) (truth_in v) _ _ (known t j) (r.blocked _)))) s i))

  mutual
    pub inhale_kept : (b : Bind) → O b.old → (F : Formula) → ShapedFormula Q F → (f : Next A) → Keeps f → Keeps (inhale S b F f)
    inhale_kept b o (Fact e p) g f h =
        in_value b o e _ (λ v s i. r.deciding _ _ _ (if_kept (P _) (truth_in v) _ _ (h s i) (r.blocked _)))
    inhale_kept b o (FieldPermission e d n t a p) g f h = in_value b o e _ (λ v. keeping.gain_field_kept kept d _ n t a f h)
    inhale_kept b o (ElementPermission t x z a p) g f h =
        in_value b o x _ (λ v. in_value b o z _ (λ w. keeping.gain_element_kept kept t _ _ a f h))
    inhale_kept b o (Holds t d e p) g f h = in_value b o e _ (λ v. keeping.add_token_kept kept t d _ f h)
    inhale_kept b o (Instance d n e es p) g f h =
        in_value b o e _ (λ v. in_values b o es _ (λ vs. keeping.add_instance_kept kept _ f h))
    inhale_kept b o (Star F G) g f h = inhale_kept b o F g.0 _ (inhale_kept b o G g.1 f h)
    inhale_kept b o (When e F p) g f h =
        in_value b o e _ (λ v s i. r.deciding _ _ _ (if_kept (P _) (truth_in v) _ _ (inhale_kept b o F g f h s i) (h s i)))
    inhale_kept b o (Each n l u is p) g f h = in_value b o l _ (λ v. in_value b o u _ (λ w. inhale_items_kept b o n _ _ is g f h))

    pub inhale_items_kept : (b : Bind) → O b.old → (n : Name) (l u : ℤ) (is : Items) → ShapedItems Q n is → (f : Next A) → Keeps f
        → Keeps (inhale_items S b n l u is f)
    inhale_items_kept b o n l u NoItems g f h = h
    inhale_items_kept b o n l u (Join i is) g f h =
        inhale_item_kept b o n (range_of l u) i g.0 _ (inhale_items_kept b o n l u is g.1 f h)

    pub inhale_item_kept : (b : Bind) → O b.old → (n : Name) (x : Range) (i : Item) → ShapedItem Q n i → (f : Next A) → Keeps f
        → Keeps (inhale_item S b n x i f)
    inhale_item_kept b o n x (Elements t y d a p) g f h s i = keeping.unless_empty_kept kept x _ _ (h s i)
        (in_value b o y _ (λ v. keeping.gain_range_kept kept t _ _ _ _ a (inl refl) (inr (inl refl)) f h) s i)
    inhale_item_kept b o n x (Repeated e p) g f h s i =
        keeping.unless_empty_kept kept x _ _ (h s i) (repeated_kept b o n e g x f h s i)
    inhale_item_kept b o n x (Committed d e p) g f h s i = keeping.unless_empty_kept kept x _ _ (h s i)
        (in_value b o e _ (λ v. keeping.add_token_kept kept token.Committed d _ f h) s i)
    inhale_item_kept b o n x (Guarded cs j p) g f h s i =
        keeping.cut_all_kept kept cells_of c.cells _ (λ q t k. r.failed _ _ _) b o cs x f h _
        (λ y. inhale_item_kept b o n y j g f h) s i
    inhale_item_kept b o n x (Fixed e F p) g f h s i = keeping.unless_empty_kept kept x _ _ (h s i)
        (in_value b o e _
        (λ v later j. keeping.within_kept kept I c.same x.low x.high _ _ _ (h later j)
        (inhale_kept (bind_at b n (number_in v)) o F g f h later j)) s i)

  -- Exhaling

  -- what was held in the state before, and in the old state
  abbrev pub Out : Giving → Type 0
  Out q = O q.before × O q.bind.old

  out_value : (q : Giving) → Out q → (e : Expression) (f : Value → Next A) → ((v : Value) → Keeps (f v))
      → Keeps (exhaling.value_from S q e f)
  out_value q g e f h =
      keeping.value_in_kept kept I c.same (λ s. q.before) (λ s i. g.0) _ (λ p s i. r.failed _ _ _) q.bind g.1 e f h

  out_values : (q : Giving) → Out q → (es : List Expression) (f : List Value → Next A) → ((vs : List Value) → Keeps (f vs))
      → Keeps (exhaling.values_from S q es f)
  out_values q g es f h =
      keeping.values_in_kept kept I c.same (λ s. q.before) (λ s i. g.0) _ (λ p s i. r.failed _ _ _) q.bind g.1 es f h

  fails_kept : (q : Giving) (p : Span) (step : ℕ) → P step (exhaling.fails S q p)
  fails_kept q p step = r.failed _ _ _

  holds_kept : {step : ℕ} (q : Giving) (p : Span) (v : Value) (u : A) → P step u → P step (exhaling.holds_or_fails S q p v u)
  holds_kept q p v u h = r.deciding _ _ _ (if_kept (P _) (truth_in v) _ _ h (r.failed _ _ _))

  out_repeated : (q : Giving) → Out q → (n : Name) (e : Expression) (p : Span) (x : Range) (f : Next A) → Keeps f
      → Keeps (exhale_repeated S q n e p x f)
  out_repeated q g n e p x f h s i = r.pick _ _ _ (λ m. keeping.within_kept kept I c.same x.low x.high m _ _ (h s i)
      (mark_kept (λ t. q.before) (λ t j. g.0) q.bind g.1 n e _ _
      (out_value (exhaling.from_at q n m) g e _ (λ v later j. holds_kept q p v _ (h later j))) s i))

  mutual
    pub exhale_kept : (q : Giving) → Out q → (F : Formula) (f : Next A) → Keeps f → Keeps (exhale S q F f)
    exhale_kept q g (Fact e p) f h = out_value q g e _ (λ v s i. holds_kept q p v _ (h s i))
    exhale_kept q g (FieldPermission e d n t a p) f h =
        out_value q g e _ (λ v. keeping.give_field_kept kept d _ n a _ (fails_kept q p) f h)
    exhale_kept q g (ElementPermission t x z a p) f h =
        out_value q g x _ (λ v. out_value q g z _ (λ w. keeping.give_element_kept kept t _ _ a _ (fails_kept q p) f h))
    exhale_kept q g (Holds t d e p) f h = out_value q g e _ (λ v. keeping.take_token_kept kept t d _ _ (fails_kept q p) f h)
    exhale_kept q g (Instance d n e es p) f h =
        out_value q g e _ (λ v. out_values q g es _ (λ vs. keeping.take_instance_kept kept _ _ (fails_kept q p) f h))
    exhale_kept q g (Star F G) f h = exhale_kept q g F _ (exhale_kept q g G f h)
    exhale_kept q g (When e F p) f h =
        out_value q g e _ (λ v s i. r.deciding _ _ _ (if_kept (P _) (truth_in v) _ _ (exhale_kept q g F f h s i) (h s i)))
    exhale_kept q g (Each n l u is p) f h = out_value q g l _ (λ v. out_value q g u _ (λ w. exhale_items_kept q g n _ _ is f h))

    pub exhale_items_kept : (q : Giving) → Out q → (n : Name) (l u : ℤ) (is : Items) (f : Next A) → Keeps f
        → Keeps (exhale_items S q n l u is f)
    exhale_items_kept q g n l u NoItems f h = h
    exhale_items_kept q g n l u (Join i is) f h = exhale_item_kept q g n (range_of l u) i _ (exhale_items_kept q g n l u is f h)

    pub exhale_item_kept : (q : Giving) → Out q → (n : Name) (x : Range) (i : Item) (f : Next A) → Keeps f
        → Keeps (exhale_item S q n x i f)
    exhale_item_kept q g n x (Elements t y d a p) f h s i = keeping.unless_empty_kept kept x _ _ (h s i)
        (out_value q g y _
        (λ v. keeping.give_range_kept kept t _ (x.low +ℤ d) (x.high +ℤ d) _ a (inl refl) (inr (inl refl)) _
        (fails_kept q p) f h) s i)
    exhale_item_kept q g n x (Repeated e p) f h s i =
        keeping.unless_empty_kept kept x _ _ (h s i) (out_repeated q g n e p x f h s i)
    exhale_item_kept q g n x (Committed d e p) f h s i = keeping.unless_empty_kept kept x _ _ (h s i)
        (out_value q g e _ (λ v. keeping.take_token_kept kept token.Committed d _ _ (fails_kept q p) f h) s i)
    exhale_item_kept q g n x (Guarded cs j p) f h s i =
        keeping.cut_all_kept kept (λ t. q.before) (λ t k. g.0) _ (λ y t k. r.failed _ _ _) q.bind g.1 cs x f h _
        (λ y. exhale_item_kept q g n y j f h) s i
    exhale_item_kept q g n x (Fixed e F p) f h s i = keeping.unless_empty_kept kept x _ _ (h s i)
        (out_value q g e _
        (λ v later j. keeping.within_kept kept I c.same x.low x.high _ _ _ (h later j)
        (exhale_kept (exhaling.from_at q n (number_in v)) g F f h later j)) s i)
