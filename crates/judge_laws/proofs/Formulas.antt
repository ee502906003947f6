-- Inhaling and exhaling a formula in two related settings comes to related rests.
use Rattle.std.proofs.Common.{ℤ, List}
use Rattle.std.specs.Prelude.{◌+ℤ◌}
use Rattle.pv_base.specs.declared.Name.{Name}
use Rattle.pv_base.specs.declared.Span.{Span}
use Rattle.pv_ast.specs.declared.Token.TheVariants as token
use Rattle.pv_ast.specs.declared.PvType.TheVariants.{Int}
use Rattle.pv_values.specs.declared.value.Value.{Value}
use Rattle.pv_picks.specs.Plain.Core.{Expression, Formula, Fact, FieldPermission, ElementPermission, Holds, Instance, Star, When, Each, Items, NoItems, Join, Item, Elements, Repeated, Committed, Guarded, Fixed}
use Rattle.pv_picks.specs.Formulas.Values.{number_in, truth_in}
use Rattle.pv_picks.specs.Judge.States.{Bind, cells_of}
use Rattle.pv_picks.specs.Judge.Settings.{Setting, Next}
use Rattle.pv_picks.specs.Judge.Repetitions.{Range, range_of, bind_at, looks_of}
use Rattle.pv_picks.specs.Judge.Inhaling as inhaling
use Rattle.pv_picks.specs.Judge.Inhaling.{inhale, inhale_items, inhale_item, inhale_repeated}
use Rattle.pv_picks.specs.Judge.Exhaling as exhaling
use Rattle.pv_picks.specs.Judge.Exhaling.{Giving, exhale, exhale_items, exhale_item, exhale_repeated}
use Rattle.judge_laws.specs.Related.{AreRelated}
use Rattle.pv_picks.proofs.Readers.{if_related, evaluate_all_related}
use Rattle.judge_laws.proofs.Taking as taking

module _ {A B : Type 0} (S : Setting A) (T : Setting B) (P : A → B → Type 0) (r : AreRelated S T P) where
  abbrev Nexts : Next A → Next B → Type 0
  Nexts = taking.Nexts S T P r

  -- Inhaling

  in_value_related : (b : Bind) (e : Expression) (f : Value → Next A) (g : Value → Next B) → ((v : Value) → Nexts (f v) (g v))
      → Nexts (inhaling.value_now S b e f) (inhaling.value_now T b e g)
  in_value_related b e f g h = taking.value_in_related S T P r cells_of _ _ (λ p s. r.failed _ _) b e f g h

  in_values_related : (b : Bind) (es : List Expression) (f : List Value → Next A) (g : List Value → Next B)
      → ((vs : List Value) → Nexts (f vs) (g vs))
      → Nexts (inhaling.values_now S b es f) (inhaling.values_now T b es g)
  in_values_related b es f g h =
      evaluate_all_related Nexts _ _ _ _ (taking.formula_reader_related S T P r cells_of _ _ (λ p s. r.failed _ _))
      (taking.formula_reader_related S T P r (λ s. b.old) _ _ (λ p s. r.failed _ _)) b.scene es f g h

  if_true_related : (v : Value) (u : A) (w : B) → P u w → P (inhaling.if_true S v u) (inhaling.if_true T v w)
  if_true_related v u w h = r.deciding _ _ _ (if_related P (truth_in v) _ _ _ _ h r.blocked)

  in_mark_related : (b : Bind) (n : Name) (e : Expression) (x : Range) (m : ℤ) (f : Next A) (g : Next B) → Nexts f g
      → Nexts (inhaling.inhale_at_mark S b n e x m f) (inhaling.inhale_at_mark T b n e x m g)
  in_mark_related b n e x m f g h s = taking.if_within_related S T P r x.low x.high m _ _ _ _ (h s)
      (taking.arrays_read_related S T P r cells_of b (looks_of n e) _ _
      (λ ps later. taking.notice_parts_related S T P r ps _ _ _
      (in_value_related (bind_at b n m) e _ _ (λ v last. if_true_related v _ _ (h last)) later)) s)

  knows_related : (b : Bind) (n : Name) (e : Expression) (x : Range) (f : Next A) (g : Next B) → Nexts f g
      → Nexts (inhaling.come_to_know S b n e x f) (inhaling.come_to_know T b n e x g)
  knows_related b n e x f g h = taking.look_ahead_related S T P r cells_of b x (looks_of n e) _ _ (λ ps s. r.knowing _ _ _ (h s))

  inhale_repeated_related : (b : Bind) (n : Name) (e : Expression) (x : Range) (f : Next A) (g : Next B) → Nexts f g
      → Nexts (inhale_repeated S b n e x f) (inhale_repeated T b n e x g)
  inhale_repeated_related b n e x f g h s =
      r.pick Int (λ n. n) _ _ (λ m. in_mark_related b n e x m _ _ (knows_related b n e x f g h) s)

  mutual
    pub inhale_related : (b : Bind) (F : Formula) (f : Next A) (g : Next B) → Nexts f g → Nexts (inhale S b F f) (inhale T b F g)
    inhale_related b (Fact e p) f g h = in_value_related b e _ _ (λ v s. if_true_related v _ _ (h s))
    inhale_related b (FieldPermission e c n t a p) f g h =
        in_value_related b e _ _ (λ v. taking.gain_field_related S T P r c _ n t a f g h)
    inhale_related b (ElementPermission t x i a p) f g h =
        in_value_related b x _ _ (λ v. in_value_related b i _ _ (λ w. taking.gain_element_related S T P r t _ _ a f g h))
    inhale_related b (Holds t c e p) f g h = in_value_related b e _ _ (λ v. taking.add_token_related S T P r t c _ f g h)
    inhale_related b (Instance c d e es p) f g h =
        in_value_related b e _ _ (λ v. in_values_related b es _ _ (λ vs. taking.add_instance_related S T P r _ f g h))
    inhale_related b (Star F G) f g h = inhale_related b F _ _ (inhale_related b G f g h)
    inhale_related b (When e F p) f g h =
        in_value_related b e _ _ (λ v s. r.deciding _ _ _ (if_related P (truth_in v) _ _ _ _ (inhale_related b F f g h s) (h s)))
    inhale_related b (Each n l u is p) f g h =
        in_value_related b l _ _ (λ v. in_value_related b u _ _ (λ w. inhale_items_related b n _ _ is f g h))

    pub inhale_items_related : (b : Bind) (n : Name) (l u : ℤ) (is : Items) (f : Next A) (g : Next B) → Nexts f g
        → Nexts (inhale_items S b n l u is f) (inhale_items T b n l u is g)
    inhale_items_related b n l u NoItems f g h = h
    inhale_items_related b n l u (Join i is) f g h =
        inhale_item_related b n (range_of l u) i _ _ (inhale_items_related b n l u is f g h)

    pub inhale_item_related : (b : Bind) (n : Name) (x : Range) (i : Item) (f : Next A) (g : Next B) → Nexts f g
        → Nexts (inhale_item S b n x i f) (inhale_item T b n x i g)
    inhale_item_related b n x (Elements t y c a p) f g h s =
        taking.unless_empty_related S T P r x _ _ _ _ (h s)
        (in_value_related b y _ _ (λ v. taking.gain_range_related S T P r t _ _ _ _ a f g h) s)
    inhale_item_related b n x (Repeated e p) f g h s =
        taking.unless_empty_related S T P r x _ _ _ _ (h s) (inhale_repeated_related b n e x f g h s)
    inhale_item_related b n x (Committed c e p) f g h s =
        taking.unless_empty_related S T P r x _ _ _ _ (h s)
        (in_value_related b e _ _ (λ v. taking.add_token_related S T P r token.Committed c _ f g h) s)
    inhale_item_related b n x (Guarded cs i p) f g h s =
        taking.cut_all_related S T P r cells_of _ _ (λ q t. r.failed _ _) b cs x f g h _ _
        (λ y. inhale_item_related b n y i f g h) s
    inhale_item_related b n x (Fixed e F p) f g h s = taking.unless_empty_related S T P r x _ _ _ _ (h s)
        (in_value_related b e _ _ (λ v later. taking.if_within_related S T P r x.low x.high _ _ _ _ _ (h later)
        (inhale_related (bind_at b n (number_in v)) F f g h later)) s)

  -- Exhaling

  out_value_related : (q : Giving) (e : Expression) (f : Value → Next A) (g : Value → Next B) → ((v : Value) → Nexts (f v) (g v))
      → Nexts (exhaling.value_from S q e f) (exhaling.value_from T q e g)
  out_value_related q e f g h = taking.value_in_related S T P r (λ s. q.before) _ _ (λ p s. r.failed _ _) q.bind e f g h

  out_values_related : (q : Giving) (es : List Expression) (f : List Value → Next A) (g : List Value → Next B)
      → ((vs : List Value) → Nexts (f vs) (g vs))
      → Nexts (exhaling.values_from S q es f) (exhaling.values_from T q es g)
  out_values_related q es f g h =
      evaluate_all_related Nexts _ _ _ _ (taking.formula_reader_related S T P r (λ s. q.before) _ _ (λ p s. r.failed _ _))
      (taking.formula_reader_related S T P r (λ s. q.bind.old) _ _ (λ p s. r.failed _ _)) q.bind.scene es f g h

  fails_related : (q : Giving) (p : Span) → P (exhaling.fails S q p) (exhaling.fails T q p)
  fails_related q p = r.failed _ _

  holds_related : (q : Giving) (p : Span) (v : Value) (u : A) (w : B) → P u w
      → P (exhaling.holds_or_fails S q p v u) (exhaling.holds_or_fails T q p v w)
  holds_related q p v u w h = r.deciding _ _ _ (if_related P (truth_in v) _ _ _ _ h (r.failed _ _))

  out_mark_related : (q : Giving) (n : Name) (e : Expression) (p : Span) (x : Range) (m : ℤ) (f : Next A) (g : Next B) → Nexts f g
      → Nexts (exhaling.exhale_at_mark S q n e p x m f) (exhaling.exhale_at_mark T q n e p x m g)
  out_mark_related q n e p x m f g h s = taking.if_within_related S T P r x.low x.high m _ _ _ _ (h s)
      (taking.arrays_read_related S T P r (λ s. q.before) q.bind (looks_of n e) _ _
      (λ ps later. taking.notice_parts_related S T P r ps _ _ _
      (out_value_related (exhaling.from_at q n m) e _ _ (λ v last. holds_related q p v _ _ (h last)) later)) s)

  exhale_repeated_related : (q : Giving) (n : Name) (e : Expression) (p : Span) (x : Range) (f : Next A) (g : Next B) → Nexts f g
      → Nexts (exhale_repeated S q n e p x f) (exhale_repeated T q n e p x g)
  exhale_repeated_related q n e p x f g h s = r.pick Int (λ n. n) _ _ (λ m. out_mark_related q n e p x m f g h s)

  mutual
    pub exhale_related : (q : Giving) (F : Formula) (f : Next A) (g : Next B) → Nexts f g
        → Nexts (exhale S q F f) (exhale T q F g)
    exhale_related q (Fact e p) f g h = out_value_related q e _ _ (λ v s. holds_related q p v _ _ (h s))
    exhale_related q (FieldPermission e c n t a p) f g h =
        out_value_related q e _ _ (λ v. taking.give_field_related S T P r c _ n a _ _ (fails_related q p) f g h)
    exhale_related q (ElementPermission t x i a p) f g h =
        out_value_related q x _ _ (λ v. out_value_related q i _ _
        (λ w. taking.give_element_related S T P r t _ _ a _ _ (fails_related q p) f g h))
    exhale_related q (Holds t c e p) f g h =
        out_value_related q e _ _ (λ v. taking.take_token_related S T P r t c _ _ _ (fails_related q p) f g h)
    exhale_related q (Instance c d e es p) f g h =
        out_value_related q e _ _ (λ v. out_values_related q es _ _
        (λ vs. taking.take_instance_related S T P r _ _ _ (fails_related q p) f g h))
    exhale_related q (Star F G) f g h = exhale_related q F _ _ (exhale_related q G f g h)
    exhale_related q (When e F p) f g h =
        out_value_related q e _ _ (λ v s. r.deciding _ _ _ (if_related P (truth_in v) _ _ _ _ (exhale_related q F f g h s) (h s)))
    exhale_related q (Each n l u is p) f g h =
        out_value_related q l _ _ (λ v. out_value_related q u _ _ (λ w. exhale_items_related q n _ _ is f g h))

    pub exhale_items_related : (q : Giving) (n : Name) (l u : ℤ) (is : Items) (f : Next A) (g : Next B) → Nexts f g
        → Nexts (exhale_items S q n l u is f) (exhale_items T q n l u is g)
    exhale_items_related q n l u NoItems f g h = h
    exhale_items_related q n l u (Join i is) f g h =
        exhale_item_related q n (range_of l u) i _ _ (exhale_items_related q n l u is f g h)

    pub exhale_item_related : (q : Giving) (n : Name) (x : Range) (i : Item) (f : Next A) (g : Next B) → Nexts f g
        → Nexts (exhale_item S q n x i f) (exhale_item T q n x i g)
    exhale_item_related q n x (Elements t y c a p) f g h s =
        taking.unless_empty_related S T P r x _ _ _ _ (h s)
        (out_value_related q y _ _ (λ v. taking.give_range_related S T P r t _ (x.low +ℤ c) (x.high +ℤ c) _ a _ _
        (fails_related q p) f g h) s)
    exhale_item_related q n x (Repeated e p) f g h s =
        taking.unless_empty_related S T P r x _ _ _ _ (h s) (exhale_repeated_related q n e p x f g h s)
    exhale_item_related q n x (Committed c e p) f g h s =
        taking.unless_empty_related S T P r x _ _ _ _ (h s)
        (out_value_related q e _ _ (λ v. taking.take_token_related S T P r token.Committed c _ _ _ (fails_related q p) f g h) s)
    exhale_item_related q n x (Guarded cs i p) f g h s =
        taking.cut_all_related S T P r (λ t. q.before) _ _ (λ y t. r.failed _ _) q.bind cs x f g h _ _
        (λ y. exhale_item_related q n y i f g h) s
    exhale_item_related q n x (Fixed e F p) f g h s = taking.unless_empty_related S T P r x _ _ _ _ (h s)
        (out_value_related q e _ _ (λ v later. taking.if_within_related S T P r x.low x.high _ _ _ _ _ (h later)
        (exhale_related (exhaling.from_at q n (number_in v)) F f g h later)) s)
