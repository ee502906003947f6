-- The run of statements and of units in two related settings comes to related rests.
use Rattle.std.proofs.Common.{ℕ, zero, suc, ℤ, pos, Bool, true, false, Option, Some, None, List, [], ◌∷◌}
use Rattle.std.specs.Prelude.{◌+ℤ◌, ◌-ℤ◌, int_le, int_lt, nat_le, nat_eq, is_some}
use Rattle.pv_base.specs.declared.Name.{Name}
use Rattle.pv_base.specs.declared.Span.{Span}
use Rattle.pv_ast.specs.declared.PvType.{PvType}
use Rattle.pv_ast.specs.declared.PvType.TheVariants as type
use Rattle.pv_ast.specs.declared.Token.TheVariants as token
use Rattle.pv_values.specs.declared.value.Value.{Value}
use Rattle.pv_values.specs.declared.value.Value.TheVariants as value
use Rattle.pv_values.specs.Sames.{same_truth}
use Rattle.pv_fraction.specs.Amounts.{whole}
use Rattle.pv_picks.specs.declared.check.Check.{Check}
use Rattle.pv_picks.specs.declared.check.Check.TheVariants as check
use Rattle.pv_picks.specs.Plain.Core.{Expression, Formula, Items, Action, Fork, Join', Lock, Unlock, Commit, Target, Nowhere, ToVariable, ToField, ToElement, Right, Value', Call, NewObject, NewArray, Contract, Shared, Team, Message, Parameter, Statement, Assign, If, While, Members, Meet, Act, Fold, Unfold, Assert, Send, Receive, Return, Block, Stop, Then, Predicate, Method, Program}
use Rattle.pv_picks.specs.Plain.Members.{fields_of, predicate_named, method_named, run_of, invariant_of}
use Rattle.pv_picks.specs.Formulas.Values.{default_of, number_in, truth_in, reference_in, array_of}
use Rattle.pv_ast.specs.Rules.Typing.{same_type}
use Rattle.pv_picks.specs.Judge.States.{State, cells_of, amount_of, InField, InElement, OfLock, nothing_held, with_result, plain_cell, with_elements, with_length, Bind, bind_of, scene_of}
use Rattle.pv_picks.specs.Judge.Settings.{Setting, Next, AtArray, AtArrayLength}
use Rattle.pv_picks.specs.Judge.Rows.{Site, exhale_at, exhale_by, exhale_each, access_reader, compute, compute_all, write_field, write_element, locate, result_of, call, is_known, notice_known, fresh, pick_fresh, add_fields, add_token_if, add_uncommitted, add_tokens, new_object, new_array, right}
use Rattle.pv_picks.specs.Judge.Judging.{finish, inhale_own, exhale_own, at_site, inhale_at_site, exhale_at_site, at_body_end, inside, contract_of, formula_of, judge_action, fold_in, unfold_in, assert, turn_of, choose_turn, pick_variables, when, loop, pick_position, at_some, team, barrier, position, if_declared, send, receive, return, judge_statement, judge_block}
use Rattle.pv_picks.specs.Judge.UnitRuns.{Task, OfMethod, OfFormula, NoUnit, of_method, through_body, pick_this, enter, go_on, judge_task, enter_task}
use Rattle.judge_laws.specs.Related.{AreRelated}
use Rattle.pv_picks.proofs.Readers.{ReadersRelated, if_related, evaluate_related, evaluate_all_related}
use Rattle.judge_laws.proofs.Taking as taking
use Rattle.judge_laws.proofs.Formulas as formulas

module _ {A B : Type 0} (S : Setting A) (T : Setting B) (P : A → B → Type 0) (r : AreRelated S T P) where
  abbrev Nexts : Next A → Next B → Type 0
  Nexts = taking.Nexts S T P r

  -- rests that take a value
  abbrev Takes : (Value → Next A) → (Value → Next B) → Type 0
  Takes f g = (v : Value) → Nexts (f v) (g v)

  exhale_at_related : (c : Check) (p : Span) (b : Bind) (F : Formula) (f : Next A) (g : Next B) → Nexts f g
      → Nexts (exhale_at S c p b F f) (exhale_at T c p b F g)
  exhale_at_related c p b F f g h s = formulas.exhale_related S T P r _ F f g h s

  exhale_by_related : (c : Check) (b : Bind) (F : Formula) (f : Next A) (g : Next B) → Nexts f g
      → Nexts (exhale_by S c b F f) (exhale_by T c b F g)
  exhale_by_related c b F f g h s = formulas.exhale_related S T P r _ F f g h s

  exhale_each_related : (c : Check) (b : Bind) (n : Name) (l u : ℤ) (is : Items) (f : Next A) (g : Next B) → Nexts f g
      → Nexts (exhale_each S c b n l u is f) (exhale_each T c b n l u is g)
  exhale_each_related c b n l u is f g h s = formulas.exhale_items_related S T P r _ n l u is f g h s

  pub access_related : ReadersRelated Nexts (access_reader S) (access_reader T)
  access_related = record {
    field =
        λ c o x p f g h s. taking.unless_null_related S T P r o _ _ _ _ (r.failed _ _)
        (r.noticing _ _ _ (taking.or_missing_related S T P r _ _ _ (r.failed _ _) f g h s));
    element =
        λ t a i p f g h s. taking.unless_null_related S T P r a _ _ _ _ (r.failed _ _)
        (taking.look_at_length_related S T P r t a _ _
        (λ n later. taking.if_within_related S T P r _ n i _ _ _ _ (r.failed _ _)
        (r.noticing _ _ _ (taking.or_missing_related S T P r _ _ _ (r.failed _ _) f g h later))) s);
    length =
        λ t a p f g h s. taking.unless_null_related S T P r a _ _ _ _ (r.failed _ _)
        (taking.look_at_length_related S T P r t a f g h s);
    operation = taking.operate_related S T P r;
    comparing = λ a b x y h s. r.comparing a b _ _ (h s);
    matching = λ v w x y h s. r.matching v w _ _ (h s);
    deciding = λ b x y h s. r.deciding b _ _ (h s);
  }

  compute_related : (e : Expression) (f : Value → Next A) (g : Value → Next B) → Takes f g → Nexts (compute S e f) (compute T e g)
  compute_related e f g h s = evaluate_related Nexts _ _ _ _ access_related access_related (scene_of s) e f g h s

  compute_all_related : (es : List Expression) (f : List Value → Next A) (g : List Value → Next B)
      → ((vs : List Value) → Nexts (f vs) (g vs)) → Nexts (compute_all S es f) (compute_all T es g)
  compute_all_related es f g h s = evaluate_all_related Nexts _ _ _ _ access_related access_related (scene_of s) es f g h s

  write_field_related : (c : Name) (o : ℕ) (n : Name) (p : Span) (v : Value) (f : Next A) (g : Next B) → Nexts f g
      → Nexts (write_field S c o n p v f) (write_field T c o n p v g)
  write_field_related c o n p v f g h s = taking.unless_null_related S T P r o _ _ _ _ (r.failed _ _)
      (r.noticing _ _ _ (if_related P (nat_le whole (amount_of s (InField c o n))) _ _ _ _ (h _) (r.failed _ _)))

  write_element_related : (t : PvType) (a : ℕ) (i : ℤ) (p : Span) (v : Value) (f : Next A) (g : Next B) → Nexts f g
      → Nexts (write_element S t a i p v f) (write_element T t a i p v g)
  write_element_related t a i p v f g h s =
      taking.unless_null_related S T P r a _ _ _ _ (r.failed _ _) (taking.look_at_length_related S T P r t a _ _
      (λ n later. taking.if_within_related S T P r _ n i _ _ _ _ (r.failed _ _)
      (r.noticing _ _ _ (if_related P (nat_le whole (amount_of later (InElement t a i))) _ _ _ _ (h _) (r.failed _ _)))) s)

  -- two ways to put a value
  abbrev Puts : (Value → Next A → Next A) → (Value → Next B → Next B) → Type 0
  Puts m n = (v : Value) (f : Next A) (g : Next B) → Nexts f g → Nexts (m v f) (n v g)

  locate_related : (t : Target) (f : (Value → Next A → Next A) → Next A) (g : (Value → Next B → Next B) → Next B)
      → ((m : Value → Next A → Next A) (n : Value → Next B → Next B) → Puts m n → Nexts (f m) (g n))
      → Nexts (locate S t f) (locate T t g)
  locate_related Nowhere f g h = h _ _ (λ v x y k. k)
  locate_related (ToVariable n) f g h = h _ _ (λ v x y k s. k _)
  locate_related (ToField e c n p) f g h = compute_related e _ _ (λ v. h _ _ (write_field_related c _ n p))
  locate_related (ToElement t a i p) f g h =
      compute_related a _ _ (λ v. compute_related i _ _ (λ w. h _ _ (write_element_related t _ _ p)))

  result_related : (t : Option PvType) (f : Value → Next A) (g : Value → Next B) → Takes f g
      → Nexts (result_of S t f) (result_of T t g)
  result_related None f g h = h _
  result_related (Some t) f g h = taking.pick_value_related S T P r t f g h

  call_related : (m : Option Method) (o : ℕ) (vs : List Value) (p : Span) (f : Value → Next A) (g : Value → Next B) → Takes f g
      → Nexts (call S m o vs p f) (call T m o vs p g)
  call_related None o vs p f g h s = r.failed _ _
  call_related (Some m) o vs p f g h s = taking.unless_null_related S T P r o _ _ _ _ (r.failed _ _)
      (exhale_at_related _ p _ m.contract.before _ _ (result_related m.result _ _
      (λ v. formulas.inhale_related S T P r _ m.contract.after _ _ (h v))) s)

  notice_known_related : (t : PvType) (n : ℕ) (xs : List (PvType × ℕ)) (u : A) (w : B) → P u w
      → P (notice_known S t n xs u) (notice_known T t n xs w)
  notice_known_related t n [] u w p = p
  notice_known_related t n (x ∷ xs) u w p =
      if_related P (same_type t x.0) _ _ _ _ (r.matching _ _ _ _ (notice_known_related t n xs u w p))
      (notice_known_related t n xs u w p)

  fresh_related : (t : PvType) (xs : List (PvType × ℕ)) (f : ℕ → Next A) (g : ℕ → Next B) → ((n : ℕ) → Nexts (f n) (g n))
      → Takes (fresh S t xs f) (fresh T t xs g)
  fresh_related t xs f g h v s = taking.unless_null_related S T P r (reference_in v) _ _ _ _ r.blocked
      (notice_known_related t _ xs _ _ (if_related P (is_known S t (reference_in v) xs) _ _ _ _ r.blocked (h _ s)))

  pick_fresh_related : (t : PvType) (f : ℕ → Next A) (g : ℕ → Next B) → ((n : ℕ) → Nexts (f n) (g n))
      → Nexts (pick_fresh S t f) (pick_fresh T t g)
  pick_fresh_related t f g h s = taking.pick_value_related S T P r t _ _ (fresh_related t s.met f g h) s

  add_fields_related : (c : Name) (o : ℕ) (fs : List Parameter) (f : Next A) (g : Next B) → Nexts f g
      → Nexts (add_fields S c o fs f) (add_fields T c o fs g)
  add_fields_related c o [] f g h s = h s
  add_fields_related c o (x ∷ xs) f g h s = r.noticing _ _ _ (add_fields_related c o xs f g h _)

  token_if_related : (b : Bool) (u f : Next A) (w g : Next B) → Nexts u w → Nexts f g
      → Nexts (add_token_if S b u f) (add_token_if T b w g)
  token_if_related true u f w g h k = h
  token_if_related false u f w g h k = k

  uncommitted_related : (p : Program) (c : Name) (o : ℕ) (f : Next A) (g : Next B) → Nexts f g
      → Nexts (add_uncommitted S p c o f) (add_uncommitted T p c o g)
  uncommitted_related p c o f g h =
      token_if_related (is_some (invariant_of p c)) _ _ _ _ (taking.add_token_related S T P r token.Uncommitted c o f g h) h

  add_tokens_related : (p : Program) (c : Name) (o : ℕ) (f : Next A) (g : Next B) → Nexts f g
      → Nexts (add_tokens S p c o f) (add_tokens T p c o g)
  add_tokens_related p c o f g h =
      token_if_related (is_some (run_of p c)) _ _ _ _ (taking.add_token_related S T P r token.Idle c o _ _
      (uncommitted_related p c o f g h)) (uncommitted_related p c o f g h)

  new_object_related : (p : Program) (c : Name) (f : Value → Next A) (g : Value → Next B) → Takes f g
      → Nexts (new_object S p c f) (new_object T p c g)
  new_object_related p c f g h =
      pick_fresh_related (type.Object c) _ _ (λ o. add_fields_related c o (fields_of p c) _ _
      (add_tokens_related p c o _ _ (h (value.Reference o))))

  new_array_related : (t : PvType) (z : ℤ) (p : Span) (f : Value → Next A) (g : Value → Next B) → Takes f g
      → Nexts (new_array S t z p f) (new_array T t z p g)
  new_array_related t z p f g h = pick_fresh_related (array_of t) _ _
      (λ a s. r.comparing z (pos 0) _ _ (if_related P (int_le (pos 0) z) _ _ _ _
      (r.noticing (AtArrayLength t a) _ _ (r.noticing (AtArray t a (pos 0 ∷ z ∷ [])) _ _
      (h (value.Reference a) (with_length (with_elements s t a (pos 0) z whole (λ i. plain_cell (default_of t))) t a z))))
      (r.failed check.Length p)))

  right_related : (p : Program) (e : Right) (q : Span) (f : Value → Next A) (g : Value → Next B) → Takes f g
      → Nexts (right S p e q f) (right T p e q g)
  right_related p (Value' e) q f g h = compute_related e f g h
  right_related p (Call c m e es) q f g h =
      compute_related e _ _ (λ v. compute_all_related es _ _ (λ vs. call_related (method_named p c m) _ vs q f g h))
  right_related p (NewObject c) q f g h = new_object_related p c f g h
  right_related p (NewArray t e) q f g h = compute_related e _ _ (λ v. new_array_related t _ q f g h)

  -- Statements

  inhale_own_related : (F : Formula) (f : Next A) (g : Next B) → Nexts f g → Nexts (inhale_own S F f) (inhale_own T F g)
  inhale_own_related F f g h s = formulas.inhale_related S T P r (bind_of s) F f g h s

  exhale_own_related : (c : Check) (F : Formula) (f : Next A) (g : Next B) → Nexts f g
      → Nexts (exhale_own S c F f) (exhale_own T c F g)
  exhale_own_related c F f g h s = exhale_by_related c (bind_of s) F f g h s

  finish_related : Nexts (finish S) (finish T)
  finish_related s = r.finished

  inhale_at_site_related : (x : Site) (F : Formula) (f : Next A) (g : Next B) → Nexts f g
      → Nexts (inhale_at_site S x F f) (inhale_at_site T x F g)
  inhale_at_site_related x F f g h s = formulas.inhale_related S T P r _ F f g h s

  exhale_at_site_related : (x : Site) (c : Check) (F : Formula) (f : Next A) (g : Next B) → Nexts f g
      → Nexts (exhale_at_site S x c F f) (exhale_at_site T x c F g)
  exhale_at_site_related x c F f g h s = exhale_by_related c _ F f g h s

  at_end_related : (x : Site) (c : Check) (F : Formula) → Nexts (at_body_end S x c F) (at_body_end T x c F)
  at_end_related x c F = exhale_at_site_related x c F _ _ finish_related

  contract_related : (m : Option Method) (u : A) (w : B) → P u w → (f : Contract → Next A) (g : Contract → Next B)
      → ((c : Contract) → Nexts (f c) (g c)) → Nexts (contract_of S m u f) (contract_of T m w g)
  contract_related None u w k f g h s = k
  contract_related (Some m) u w k f g h s = h _ s

  formula_related : (m : Option Formula) (u : A) (w : B) → P u w → (f : Formula → Next A) (g : Formula → Next B)
      → ((c : Formula) → Nexts (f c) (g c)) → Nexts (formula_of S m u f) (formula_of T m w g)
  formula_related None u w k f g h s = k
  formula_related (Some m) u w k f g h s = h _ s

  act_related : (p : Program) (a : Action) (c : Name) (o : ℕ) (q : Span) (f : Next A) (g : Next B) → Nexts f g
      → Nexts (judge_action S p a c o q f) (judge_action T p a c o q g)
  act_related p Fork c o q f g h = taking.take_token_related S T P r token.Idle c o _ _ (r.failed _ _) _ _
      (contract_related (run_of p c) _ _ (r.failed _ _) _ _
      (λ k. exhale_at_related _ q _ k.before _ _ (taking.add_token_related S T P r token.Running c o f g h)))
  act_related p Join' c o q f g h = taking.take_token_related S T P r token.Running c o _ _ (r.failed _ _) _ _
      (contract_related (run_of p c) _ _ (r.failed _ _) _ _
      (λ k. formulas.inhale_related S T P r _ k.after _ _ (taking.add_token_related S T P r token.Idle c o f g h)))
  act_related p Lock c o q f g h = taking.take_token_related S T P r token.Committed c o _ _ (r.failed _ _) _ _
      (λ s. r.noticing _ _ _ (if_related P (nat_eq (amount_of s (OfLock c o)) 0) _ _ _ _
      (formula_related (invariant_of p c) _ _ (r.failed _ _) _ _
      (λ i. formulas.inhale_related S T P r _ i _ _ (taking.add_lock_related S T P r c o f g h)) s) r.blocked))
  act_related p Unlock c o q f g h =
      taking.take_lock_related S T P r c o _ _ (r.failed _ _) _ _
      (formula_related (invariant_of p c) _ _ (r.failed _ _) _ _ (λ i. exhale_at_related _ q _ i f g h))
  act_related p Commit c o q f g h = taking.take_token_related S T P r token.Uncommitted c o _ _ (r.failed _ _) _ _
      (formula_related (invariant_of p c) _ _ (r.failed _ _) _ _
      (λ i. exhale_at_related _ q _ i _ _ (taking.add_token_related S T P r token.Committed c o f g h)))

  fold_related : (d : Option Predicate) (c : Name) (o : ℕ) (vs : List Value) (q : Span) (f : Next A) (g : Next B) → Nexts f g
      → Nexts (fold_in S d c o vs q f) (fold_in T d c o vs q g)
  fold_related None c o vs q f g h s = r.failed _ _
  fold_related (Some d) c o vs q f g h s = exhale_at_related _ q _ d.body _ _ (taking.add_instance_related S T P r _ f g h) s

  unfold_related : (d : Option Predicate) (c : Name) (o : ℕ) (vs : List Value) (q : Span) (f : Next A) (g : Next B) → Nexts f g
      → Nexts (unfold_in S d c o vs q f) (unfold_in T d c o vs q g)
  unfold_related None c o vs q f g h s = r.failed _ _
  unfold_related (Some d) c o vs q f g h s =
      taking.take_instance_related S T P r _ _ _ (r.failed _ _) _ _ (formulas.inhale_related S T P r _ d.body f g h) s

  assert_related : (F : Formula) (f : Next A) (g : Next B) → Nexts f g → Nexts (assert S F f) (assert T F g)
  assert_related F f g h s = exhale_own_related _ F _ _ (λ later. h _) s

  turn_of_related : (i j k : Next A) (l m n : Next B) → Nexts i l → Nexts j m → Nexts k n → (s : State) (t : ℕ)
      → P (turn_of S i j k s t) (turn_of T l m n s t)
  turn_of_related i j k l m n x y z s zero = x s
  turn_of_related i j k l m n x y z s (suc zero) = y s
  turn_of_related i j k l m n x y z s (suc (suc t)) = z s

  choose_turn_related : (i j k : Next A) (l m n : Next B) → Nexts i l → Nexts j m → Nexts k n
      → Nexts (choose_turn S i j k) (choose_turn T l m n)
  choose_turn_related i j k l m n x y z s = r.turn _ _ (turn_of_related i j k l m n x y z s)

  pick_variables_related : (ps : List Parameter) (f : Next A) (g : Next B) → Nexts f g
      → Nexts (pick_variables S ps f) (pick_variables T ps g)
  pick_variables_related [] f g h = h
  pick_variables_related (x ∷ xs) f g h = taking.pick_value_related S T P r x.1 _ _ (λ v s. pick_variables_related xs f g h _)

  when_related : (b : Bool) (e : Expression) (f : Next A) (g : Next B) → Nexts f g → Nexts (when S b e f) (when T b e g)
  when_related b e f g h =
      compute_related e _ _ (λ v s. r.deciding _ _ _ (if_related P (same_truth b (truth_in v)) _ _ _ _ (h s) r.blocked))

  loop_related : (ps : List Parameter) (F : Formula) (e : Expression) (b f : Next A) (d g : Next B) → Nexts b d → Nexts f g
      → Nexts (loop S ps F e b f) (loop T ps F e d g)
  loop_related ps F e b f d g k h = exhale_own_related _ F _ _ (choose_turn_related _ _ _ _ _ _
      (λ s. pick_variables_related ps _ _ (inhale_own_related F _ _ (when_related true e b d k)) _) (λ s. r.blocked)
      (pick_variables_related ps _ _ (inhale_own_related F _ _ (when_related false e f g h))))

  pick_position_related : (l u : ℤ) (f : ℤ → Next A) (g : ℤ → Next B) → ((i : ℤ) → Nexts (f i) (g i))
      → Nexts (pick_position S l u f) (pick_position T l u g)
  pick_position_related l u f g h s =
      r.pick type.Int (λ n. n) _ _ (λ i. taking.if_within_related S T P r l u i _ _ _ _ r.blocked (h i s))

  at_some_related : (n : Name) (l u : ℤ) (f : Next A) (g : Next B) → Nexts f g → Nexts (at_some S n l u f) (at_some T n l u g)
  at_some_related n l u f g h = pick_position_related l u _ _ (λ i s. h _)

  team_related : (t : Team) (l u : ℤ) (b f : Next A) (d g : Next B) → Nexts b d → Nexts f g
      → Nexts (team S t l u b f) (team T t l u d g)
  team_related t l u b f d g k h s =
      exhale_each_related _ _ t.variable l u t.shared.each_before _ _ (choose_turn_related _ _ _ _ _ _
      (λ x. at_some_related t.variable l u _ _ (inhale_own_related t.shared.one.before b d k) _)
      (λ x. at_some_related t.variable l u _ _ (inhale_own_related t.shared.one.after _ _ finish_related) _)
      (λ x. formulas.inhale_items_related S T P r (bind_of x) t.variable l u t.shared.each_after f g h x)) s

  barrier_related : (c : Shared) (x : Site) (f : Next A) (g : Next B) → Nexts f g → Nexts (barrier S c x f) (barrier T c x g)
  barrier_related c x f g h = exhale_at_site_related x _ c.one.before _ _ (choose_turn_related _ _ _ _ _ _
      (λ s. formulas.inhale_items_related S T P r _ x.variable x.low x.high c.each_before _ _
      (λ t. exhale_each_related _ _ x.variable x.low x.high c.each_after _ _ finish_related t) _)
      (λ s. pick_position_related x.low x.high _ _ (λ i. inhale_at_site_related (at_site S x i) c.one.before _ _
      (λ t. inhale_at_site_related (at_site S x i) c.one.after _ _ finish_related _)) _)
      (inhale_at_site_related x c.one.after f g h))

  declared_related : (m : Message) (q : Span) (f : Next A) (g : Next B) → Nexts f g
      → Nexts (if_declared S m q f) (if_declared T m q g)
  declared_related m q f g h s = if_related P (nat_eq m.distance 0) _ _ _ _ (r.failed _ _) (h s)

  send_related : (m : Message) (q : Span) (x : Site) (f : Next A) (g : Next B) → Nexts f g
      → Nexts (send S m q x f) (send T m q x g)
  send_related m q x f g h = declared_related m q _ _ (choose_turn_related _ _ _ _ _ _ (λ s. r.blocked)
      (λ s. inhale_at_site_related x m.formula _ _ finish_related _)
      (λ s. r.comparing _ _ _ _ (if_related P (int_lt (position S x +ℤ pos m.distance) x.high) _ _ _ _
      (exhale_at_site_related x _ m.formula f g h s) (h s))))

  receive_related : (m : Message) (q : Span) (x : Site) (f : Next A) (g : Next B) → Nexts f g
      → Nexts (receive S m q x f) (receive T m q x g)
  receive_related m q x f g h = declared_related m q _ _ (λ s. r.comparing _ _ _ _
      (if_related P (int_le x.low (position S x -ℤ pos m.distance)) _ _ _ _
      (inhale_at_site_related (at_site S x (position S x -ℤ pos m.distance)) m.formula f g h s) (h s)))

  return_related : (e : Option Expression) (f : Next A) (g : Next B) → Nexts f g → Nexts (return S e f) (return T e g)
  return_related None f g h = h
  return_related (Some e) f g h = compute_related e _ _ (λ v s. h _)

  mutual
    pub judge_statement_related : (p : Program) (x : Site) (t : Statement) (f : Next A) (g : Next B) → Nexts f g
        → Nexts (judge_statement S p x t f) (judge_statement T p x t g)
    judge_statement_related p x (Assign t e q) f g h = locate_related t _ _ (λ m n k. right_related p e q _ _ (λ v. k v f g h))
    judge_statement_related p x (If e a b) f g h = compute_related e _ _
        (λ v s. r.deciding _ _ _ (if_related P (truth_in v) _ _ _ _ (judge_block_related p x a f g h s)
        (judge_block_related p x b f g h s)))
    judge_statement_related p x (While ps F e b q) f g h =
        loop_related ps F e _ _ _ _ (judge_block_related p x b _ _ (exhale_own_related _ F _ _ finish_related)) h
    judge_statement_related p x (Members t b q) f g h = compute_related t.low _ _ (λ v. compute_related t.high _ _
        (λ w. team_related t _ _ _ _ _ _ (λ s. judge_block_related p _ b _ _
        (at_end_related (inside S t (number_in v) (number_in w) s.variables) _ t.shared.one.after) s) h))
    judge_statement_related p x (Meet b q) f g h = barrier_related b.shared x f g h
    judge_statement_related p x (Act a c e q) f g h =
        compute_related e _ _ (λ v s. taking.unless_null_related S T P r _ _ _ _ _ (r.failed _ _) (act_related p a c _ q f g h s))
    judge_statement_related p x (Fold c d e es q) f g h = compute_related e _ _ (λ v. compute_all_related es _ _
        (λ vs s. taking.unless_null_related S T P r _ _ _ _ _ (r.failed _ _)
        (fold_related (predicate_named p c d) c _ vs q f g h s)))
    judge_statement_related p x (Unfold c d e es q) f g h =
        compute_related e _ _ (λ v. compute_all_related es _ _ (λ vs. unfold_related (predicate_named p c d) c _ vs q f g h))
    judge_statement_related p x (Assert F q) f g h = assert_related F f g h
    judge_statement_related p x (Send m q) f g h = send_related m q x f g h
    judge_statement_related p x (Receive m q) f g h = receive_related m q x f g h
    judge_statement_related p x (Return e q) f g h = return_related e f g h

    pub judge_block_related : (p : Program) (x : Site) (b : Block) (f : Next A) (g : Next B) → Nexts f g
        → Nexts (judge_block S p x b f) (judge_block T p x b g)
    judge_block_related p x Stop f g h = h
    judge_block_related p x (Then t ts) f g h = judge_statement_related p x t _ _ (judge_block_related p x ts f g h)

  -- Units

  pick_this_related : (c : Name) (f : Next A) (g : Next B) → Nexts f g → Nexts (pick_this S c f) (pick_this T c g)
  pick_this_related c f g h = taking.pick_value_related S T P r (type.Object c) _ _ (λ v s. h _)

  pub enter_related : (t : Task) (f : Next A) (g : Next B) → Nexts f g → Nexts (enter S t f) (enter T t g)
  enter_related (OfMethod c m) f g h t = pick_this_related c _ _
      (λ s. taking.unless_null_related S T P r s.this _ _ _ _ r.blocked
      (pick_variables_related m.parameters _ _ (inhale_own_related m.contract.before f g h) s)) t
  enter_related (OfFormula c ps F) f g h t =
      pick_this_related c _ _ (pick_variables_related ps _ _ (λ s. inhale_own_related F f g h _)) t
  enter_related NoUnit f g h s = r.blocked

  body_related : (p : Program) (m : Method) (x : Site) → Nexts (through_body S p m x) (through_body T p m x)
  body_related p m x = judge_block_related p x m.body _ _ (at_end_related x _ m.contract.after)

  go_on_related : (p : Program) (t : Task) → Nexts (go_on S p t) (go_on T p t)
  go_on_related p (OfMethod c m) s = choose_turn_related _ _ _ _ _ _
      (λ x. body_related p m (of_method x.variables) x)
      (λ x. result_related m.result _ _ (λ v t. inhale_own_related m.contract.after _ _ finish_related (with_result t v))
      (nothing_held x))
      (λ x. r.blocked) (record s { old = cells_of s })
  go_on_related p (OfFormula c ps F) s = finish_related s
  go_on_related p NoUnit s = finish_related s

  -- the run of a unit, and its run up to the first inhale
  pub judge_related : (p : Program) (t : Task) → P (judge_task S p t) (judge_task T p t)
  judge_related p t = enter_related t _ _ (go_on_related p t) _

  pub enter_task_related : (t : Task) → P (enter_task S t) (enter_task T t)
  enter_task_related t = enter_related t _ _ finish_related _
