-- The run of statements and of units keeps a property of the rest.
use Rattle.std.proofs.Common.{◌≡◌, ℕ, zero, suc, ℤ, pos, Bool, true, false, Option, Some, None, List, [], ◌∷◌, refl, inl, inr}
use Rattle.std.specs.Prelude.{◌+ℤ◌, ◌-ℤ◌, int_le, int_lt, nat_le, nat_eq, is_some}
use Rattle.pv_base.specs.declared.Name.{Name}
use Rattle.pv_base.specs.declared.Span.{Span}
use Rattle.pv_ast.specs.declared.PvType.{PvType}
use Rattle.pv_ast.specs.declared.PvType.TheVariants as type
use Rattle.pv_ast.specs.declared.Token.TheVariants as token
use Rattle.pv_values.specs.declared.value.Value.{Value}
use Rattle.pv_values.specs.declared.value.Value.TheVariants as value
use Rattle.pv_values.specs.Sames.{same_truth}
use Rattle.pv_fraction.specs.Amounts.{whole}
use Rattle.pv_picks.specs.declared.evidence.Entry.{Entry}
use Rattle.pv_picks.specs.declared.check.Check.{Check}
use Rattle.pv_picks.specs.declared.check.Check.TheVariants as check
use Rattle.pv_picks.specs.Plain.Core.{Expression, Formula, Items, Action, Fork, Join', Lock, Unlock, Commit, Target, Nowhere, ToVariable, ToField, ToElement, Right, Value', Call, NewObject, NewArray, Contract, Shared, Team, Message, Parameter, Statement, Assign, If, While, Members, Meet, Act, Fold, Unfold, Assert, Send, Receive, Return, Block, Stop, Then, Predicate, Method, Program}
use Rattle.pv_picks.specs.Plain.Members.{fields_of, predicate_named, method_named, run_of, invariant_of}
use Rattle.pv_picks.specs.Formulas.Values.{default_of, truth_in, number_in, reference_in, array_of}
use Rattle.pv_ast.specs.Rules.Typing.{same_type}
use Rattle.pv_picks.specs.Judge.States.{Cells, cells_of, amount_of, State, InField, InElement, OfLock, nothing_held, with_result, plain_cell, with_elements, with_length, Bind, bind_of, scene_of}
use Rattle.pv_picks.specs.Judge.Settings.{Setting, Next, AtArray, AtArrayLength, unless_null}
use Rattle.pv_picks.specs.Judge.Rows.{Site, exhale_at, exhale_by, exhale_each, access_reader, compute, compute_all, write_field, write_element, locate, result_of, call, is_known, notice_known, fresh, pick_fresh, add_fields, add_token_if, add_uncommitted, add_tokens, new_object, new_array, right}
use Rattle.pv_picks.specs.Judge.Judging.{finish, inhale_own, exhale_own, at_site, bind_at_site, inhale_at_site, exhale_at_site, pick_position, if_declared, inside, contract_of, formula_of, judge_action, fold_in, unfold_in, assert, turn_of, choose_turn, pick_variables, when, loop, at_some, team, barrier, position, send, receive, return, judge_statement, judge_block}
use Rattle.pv_picks.specs.Judge.UnitRuns.{Task, OfMethod, OfFormula, NoUnit, of_method, pick_this, enter, go_on, judge_task}
use Rattle.pv_picks.specs.Judge.States.{Cells, cells_of, empty_state}
use Rattle.pv_picks.specs.Judge.Runs.{Maps}
use Rattle.pv_picks.proofs.Readers.{ReadersRelated, evaluate_related, evaluate_all_related}
use Rattle.judge_facts.proofs.Keeping as keeping
use Rattle.judge_facts.proofs.Keeping.{Kept, IsKept, IsClosed, if_kept}
use Rattle.judge_facts.proofs.KeepingFormulas as formulas
use Rattle.judge_facts.specs.Shapes.{ShapedFormula, ShapedContract, ShapedShared, ShapedStatement, ShapedBlock, ShapedProgram, ShapedTask}

module _ {A : Type 0} {maps : Maps} {table : List Entry} {S : Setting A} {P : ℕ → A → Type 0} (kept : Kept maps table S P) where
  abbrev I : State → Type 0
  I = kept.invariant.states

  abbrev r : IsKept maps table S P kept.invariant
  r = kept.is_kept

  abbrev c : IsClosed kept.invariant
  c = kept.closed

  abbrev Shape : Name → Expression → Type 0
  Shape = kept.invariant.shape

  abbrev O : Cells → Type 0
  O = kept.invariant.olds

  abbrev Keeps : Next A → Type 0
  Keeps f = (s : State) → I s → P s.steps (f s)

  abbrev KeepsAll : (Value → Next A) → Type 0
  KeepsAll f = (v : Value) → Keeps (f v)

  abbrev Q : Next A → Next A → Type 0
  Q f g = Keeps f

  give_at_kept : (d : Check) (p : Span) (b : Bind) → O b.old → (F : Formula) (f : Next A) → Keeps f
      → Keeps (exhale_at S d p b F f)
  give_at_kept d p b o F f h s i = formulas.exhale_kept kept _ (c.cells s i, o) F f h s i

  give_own_kept : (d : Check) (b : Bind) → O b.old → (F : Formula) (f : Next A) → Keeps f → Keeps (exhale_by S d b F f)
  give_own_kept d b o F f h s i = formulas.exhale_kept kept _ (c.cells s i, o) F f h s i

  give_each_kept : (d : Check) (b : Bind) → O b.old → (n : Name) (l u : ℤ) (is : Items) (f : Next A) → Keeps f
      → Keeps (exhale_each S d b n l u is f)
  give_each_kept d b o n l u is f h s i = formulas.exhale_items_kept kept _ (c.cells s i, o) n l u is f h s i

  null_kept : {step : ℕ} (n : ℕ) (x u : A) → P step x → P step u → P step (unless_null S n x u)
  null_kept n x u p q = keeping.null_kept kept I c.same n x u p q

  access_kept : ReadersRelated Q (access_reader S) (access_reader S)
  access_kept = record {
    field = λ d o x p f g h s i. null_kept o _ _ (r.failed _ _ _)
        (r.noticing _ _ _ (λ q.
        keeping.or_missing_kept kept I c.same _ (c.readable (cells_of s) (c.cells s i) (InField d o x) (c.field d o x)) _ f h s i
        (r.failed _ _ _)));
    element = λ t a z p f g h s i. null_kept a _ _ (r.failed _ _ _) (keeping.look_at_length_kept kept I c.same t a _
        (λ n later j. keeping.within_kept kept I c.same _ n z _ _ (r.failed _ _ _)
        (r.noticing _ _ _ (λ q. keeping.or_missing_kept kept I c.same _
        (c.readable (cells_of later) (c.cells later j) (InElement t a z) (c.element t a z q)) _ f h later j
        (r.failed _ _ _)))) s i);
    length = λ t a p f g h s i. null_kept a _ _ (r.failed _ _ _) (keeping.look_at_length_kept kept I c.same t a f h s i);
    operation = λ m o a b p f g h. keeping.operate_kept kept I c.same m o a b p f h;
    comparing = λ a b x y h s i. r.comparing _ a b _ (h s i);
    matching = λ v w x y h s i. r.matching _ v w _ (h s i);
    deciding = λ b x y h s i. r.deciding _ b _ (h s i);
  }

  compute_kept : (e : Expression) (f : Value → Next A) → KeepsAll f → Keeps (compute S e f)
  compute_kept e f h s i = evaluate_related Q _ _ _ _ access_kept access_kept (scene_of s) e f f h s i

  compute_all_kept : (es : List Expression) (f : List Value → Next A) → ((vs : List Value) → Keeps (f vs))
      → Keeps (compute_all S es f)
  compute_all_kept es f h s i = evaluate_all_related Q _ _ _ _ access_kept access_kept (scene_of s) es f f h s i

  write_field_kept : (d : Name) (o : ℕ) (n : Name) (p : Span) (v : Value) (f : Next A) → Keeps f
      → Keeps (write_field S d o n p v f)
  write_field_kept d o n p v f h s i = null_kept o _ _ (r.failed _ _ _)
      (r.noticing _ _ _
      (λ q. if_kept (P _) (nat_le whole (amount_of s (InField d o n))) _ _
      (h _ (c.value s (InField d o n) (amount_of s (InField d o n)) v (c.field d o n) i)) (r.failed _ _ _)))

  write_element_kept : (t : PvType) (a : ℕ) (z : ℤ) (p : Span) (v : Value) (f : Next A) → Keeps f
      → Keeps (write_element S t a z p v f)
  write_element_kept t a z p v f h s i = null_kept a _ _ (r.failed _ _ _) (keeping.look_at_length_kept kept I c.same t a _
      (λ n later j. keeping.within_kept kept I c.same _ n z _ _ (r.failed _ _ _)
      (r.noticing _ _ _
      (λ q. if_kept (P _) (nat_le whole (amount_of later (InElement t a z))) _ _
      (h _ (c.value later (InElement t a z) (amount_of later (InElement t a z)) v (c.element t a z q) j))
      (r.failed _ _ _)))) s i)

  -- a way to put a value
  abbrev Puts : (Value → Next A → Next A) → Type 0
  Puts m = (v : Value) (f : Next A) → Keeps f → Keeps (m v f)

  locate_kept : (t : Target) (f : (Value → Next A → Next A) → Next A) → ((m : Value → Next A → Next A) → Puts m → Keeps (f m))
      → Keeps (locate S t f)
  locate_kept Nowhere f h = h _ (λ v x k. k)
  locate_kept (ToVariable n) f h = h _ (λ v x k s i. k _ (c.same s _ refl refl i))
  locate_kept (ToField e d n p) f h = compute_kept e _ (λ v. h _ (write_field_kept d _ n p))
  locate_kept (ToElement t a z p) f h = compute_kept a _ (λ v. compute_kept z _ (λ w. h _ (write_element_kept t _ _ p)))

  result_kept : (t : Option PvType) (f : Value → Next A) → KeepsAll f → Keeps (result_of S t f)
  result_kept None f h = h _
  result_kept (Some t) f h = keeping.pick_value_kept kept t f h

  call_kept : (m : Option Method) → ((x : Method) → m ≡ Some x → ShapedContract Shape x.contract)
      → (o : ℕ) (vs : List Value) (p : Span) (f : Value → Next A) → KeepsAll f → Keeps (call S m o vs p f)
  call_kept None g o vs p f h s i = r.failed _ _ _
  call_kept (Some m) g o vs p f h s i = null_kept o _ _ (r.failed _ _ _)
      (give_at_kept _ p _ c.none m.contract.before _
      (result_kept m.result _ (λ v. formulas.inhale_kept kept _ (c.cells s i) m.contract.after (g m refl).1 _ (h v))) s i)

  notice_known_kept : {step : ℕ} (t : PvType) (n : ℕ) (xs : List (PvType × ℕ)) (u : A) → P step u
      → P step (notice_known S t n xs u)
  notice_known_kept t n [] u p = p
  notice_known_kept t n (x ∷ xs) u p =
      if_kept (P _) (same_type t x.0) _ _ (r.matching _ _ _ _ (notice_known_kept t n xs u p)) (notice_known_kept t n xs u p)

  fresh_kept : (t : PvType) (xs : List (PvType × ℕ)) (f : ℕ → Next A) → ((n : ℕ) → Keeps (f n)) → KeepsAll (fresh S t xs f)
  fresh_kept t xs f h v s i = null_kept (reference_in v) _ _ (r.blocked _)
      (notice_known_kept t _ xs _ (if_kept (P _) (is_known S t (reference_in v) xs) _ _ (r.blocked _) (h _ s i)))

  pick_fresh_kept : (t : PvType) (f : ℕ → Next A) → ((n : ℕ) → Keeps (f n)) → Keeps (pick_fresh S t f)
  pick_fresh_kept t f h s i = keeping.pick_value_kept kept t _ (fresh_kept t s.met f h) s i

  add_fields_kept : (d : Name) (o : ℕ) (fs : List Parameter) (f : Next A) → Keeps f → Keeps (add_fields S d o fs f)
  add_fields_kept d o [] f h s i = h s i
  add_fields_kept d o (x ∷ xs) f h s i = r.noticing _ _ _ (λ q. add_fields_kept d o xs f h _
      (c.value s (InField d o x.0) whole (default_of x.1) (c.field d o x.0) i))

  token_if_kept : (b : Bool) (u f : Next A) → Keeps u → Keeps f → Keeps (add_token_if S b u f)
  token_if_kept true u f h k = h
  token_if_kept false u f h k = k

  uncommitted_kept : (p : Program) (d : Name) (o : ℕ) (f : Next A) → Keeps f → Keeps (add_uncommitted S p d o f)
  uncommitted_kept p d o f h =
      token_if_kept (is_some (invariant_of p d)) _ _ (keeping.add_token_kept kept token.Uncommitted d o f h) h

  add_tokens_kept : (p : Program) (d : Name) (o : ℕ) (f : Next A) → Keeps f → Keeps (add_tokens S p d o f)
  add_tokens_kept p d o f h =
      token_if_kept (is_some (run_of p d)) _ _ (keeping.add_token_kept kept token.Idle d o _ (uncommitted_kept p d o f h))
      (uncommitted_kept p d o f h)

  new_object_kept : (p : Program) (d : Name) (f : Value → Next A) → KeepsAll f → Keeps (new_object S p d f)
  new_object_kept p d f h =
      pick_fresh_kept (type.Object d) _
      (λ o. add_fields_kept d o (fields_of p d) _ (add_tokens_kept p d o _ (h (value.Reference o))))

  new_array_kept : (t : PvType) (z : ℤ) (p : Span) (f : Value → Next A) → KeepsAll f → Keeps (new_array S t z p f)
  new_array_kept t z p f h = pick_fresh_kept (array_of t) _
      (λ a s i. r.comparing _ z (pos 0) _ (if_kept (P _) (int_le (pos 0) z) _ _
      (r.noticing _ (AtArrayLength t a) _
      (λ n. r.noticing _ (AtArray t a (pos 0 ∷ z ∷ [])) _
      (λ q. let u = with_elements s t a (pos 0) z whole (λ i. plain_cell (default_of t)) in
      h (value.Reference a) (with_length u t a z) (c.same u (with_length u t a z) refl refl
      (c.elements s t a (pos 0) z whole (default_of t) (pos 0 ∷ z ∷ []) (q, (inl refl, inr (inl refl))) i)))))
      (r.failed _ check.Length p)))

  right_kept : (p : Program) → ShapedProgram Shape p → (e : Right) (q : Span) (f : Value → Next A) → KeepsAll f
      → Keeps (right S p e q f)
  right_kept p g (Value' e) q f h = compute_kept e f h
  right_kept p g (Call d m e es) q f h =
      compute_kept e _ (λ v. compute_all_kept es _ (λ vs. call_kept (method_named p d m) (g.method d m) _ vs q f h))
  right_kept p g (NewObject d) q f h = new_object_kept p d f h
  right_kept p g (NewArray t e) q f h = compute_kept e _ (λ v. new_array_kept t _ q f h)

  -- Statements

  take_kept : (F : Formula) → ShapedFormula Shape F → (f : Next A) → Keeps f → Keeps (inhale_own S F f)
  take_kept F g f h s i = formulas.inhale_kept kept (bind_of s) (c.old s i) F g f h s i

  give_kept : (d : Check) (F : Formula) (f : Next A) → Keeps f → Keeps (exhale_own S d F f)
  give_kept d F f h s i = give_own_kept d (bind_of s) (c.old s i) F f h s i

  site_takes : (x : Site) (F : Formula) → ShapedFormula Shape F → (f : Next A) → Keeps f → Keeps (inhale_at_site S x F f)
  site_takes x F g f h s i = formulas.inhale_kept kept (bind_at_site S x s) (c.old s i) F g f h s i

  site_gives : (x : Site) (d : Check) (F : Formula) (f : Next A) → Keeps f → Keeps (exhale_at_site S x d F f)
  site_gives x d F f h s i = give_own_kept d (bind_at_site S x s) (c.old s i) F f h s i

  finish_kept : Keeps (finish S)
  finish_kept s i = (r.finished _)

  contract_kept : (m : Option Method) (u : A) → ((step : ℕ) → P step u)
      → ((x : Method) → m ≡ Some x → ShapedContract Shape x.contract)
      → (f : Contract → Next A) → ((d : Contract) → ShapedContract Shape d → Keeps (f d)) → Keeps (contract_of S m u f)
  contract_kept None u p g f h s i = p _
  contract_kept (Some m) u p g f h s i = h _ (g m refl) s i

  formula_kept : (m : Option Formula) (u : A) → ((step : ℕ) → P step u) → ((x : Formula) → m ≡ Some x → ShapedFormula Shape x)
      → (f : Formula → Next A)
      → ((d : Formula) → ShapedFormula Shape d → Keeps (f d)) → Keeps (formula_of S m u f)
  formula_kept None u p g f h s i = p _
  formula_kept (Some m) u p g f h s i = h _ (g m refl) s i

  act_kept : (p : Program) → ShapedProgram Shape p → (a : Action) (d : Name) (o : ℕ) (q : Span) (f : Next A) → Keeps f
      → Keeps (judge_action S p a d o q f)
  act_kept p g Fork d o q f h = keeping.take_token_kept kept token.Idle d o _ (λ step. r.failed _ _ _) _
      (contract_kept (run_of p d) _ (λ step. r.failed _ _ _) (g.run d) _
      (λ k sh. give_at_kept _ q _ c.none k.before _ (keeping.add_token_kept kept token.Running d o f h)))
  act_kept p g Join' d o q f h = keeping.take_token_kept kept token.Running d o _ (λ step. r.failed _ _ _) _
      (contract_kept (run_of p d) _ (λ step. r.failed _ _ _) (g.run d) _
      (λ k sh. formulas.inhale_kept kept _ c.none k.after sh.1 _ (keeping.add_token_kept kept token.Idle d o f h)))
  act_kept p g Lock d o q f h = keeping.take_token_kept kept token.Committed d o _ (λ step. r.failed _ _ _) _
      (λ s i. r.noticing _ _ _ (λ n. if_kept (P _) (nat_eq (amount_of s (OfLock d o)) 0) _ _
      (formula_kept (invariant_of p d) _ (λ step. r.failed _ _ _) (g.invariant d) _
      (λ k sh. formulas.inhale_kept kept _ c.none k sh _ (keeping.add_lock_kept kept d o f h)) s i) (r.blocked _)))
  act_kept p g Unlock d o q f h =
      keeping.take_lock_kept kept d o _ (λ step. r.failed _ _ _) _
      (formula_kept (invariant_of p d) _ (λ step. r.failed _ _ _) (g.invariant d) _ (λ k sh. give_at_kept _ q _ c.none k f h))
  act_kept p g Commit d o q f h = keeping.take_token_kept kept token.Uncommitted d o _ (λ step. r.failed _ _ _) _
      (formula_kept (invariant_of p d) _ (λ step. r.failed _ _ _) (g.invariant d) _
      (λ k sh. give_at_kept _ q _ c.none k _ (keeping.add_token_kept kept token.Committed d o f h)))

  fold_kept : (x : Option Predicate) (d : Name) (o : ℕ) (vs : List Value) (q : Span) (f : Next A) → Keeps f
      → Keeps (fold_in S x d o vs q f)
  fold_kept None d o vs q f h s i = r.failed _ _ _
  fold_kept (Some x) d o vs q f h s i = give_at_kept _ q _ c.none x.body _ (keeping.add_instance_kept kept _ f h) s i

  unfold_kept : (x : Option Predicate) → ((y : Predicate) → x ≡ Some y → ShapedFormula Shape y.body)
      → (d : Name) (o : ℕ) (vs : List Value) (q : Span) (f : Next A) → Keeps f → Keeps (unfold_in S x d o vs q f)
  unfold_kept None g d o vs q f h s i = r.failed _ _ _
  unfold_kept (Some x) g d o vs q f h s i =
      keeping.take_instance_kept kept _ _ (λ step. r.failed _ _ _) _
      (formulas.inhale_kept kept _ c.none x.body (g x refl) f h) s i

  assert_kept : (F : Formula) (f : Next A) → Keeps f → Keeps (assert S F f)
  assert_kept F f h s i = give_kept _ F _ (λ later j. h _ (c.same s _ refl refl i)) s i

  turn_of_kept : (x y z : Next A) → Keeps x → Keeps y → Keeps z → (s : State) → I s → (t : ℕ) → P s.steps (turn_of S x y z s t)
  turn_of_kept x y z h k l s i zero = h s i
  turn_of_kept x y z h k l s i (suc zero) = k s i
  turn_of_kept x y z h k l s i (suc (suc t)) = l s i

  choose_turn_kept : (x y z : Next A) → Keeps x → Keeps y → Keeps z → Keeps (choose_turn S x y z)
  choose_turn_kept x y z h k l s i = r.turn _ _ (turn_of_kept x y z h k l s i)

  pick_variables_kept : (ps : List Parameter) (f : Next A) → Keeps f → Keeps (pick_variables S ps f)
  pick_variables_kept [] f h = h
  pick_variables_kept (x ∷ xs) f h =
      keeping.pick_value_kept kept x.1 _ (λ v s i. pick_variables_kept xs f h _ (c.same s _ refl refl i))

  when_kept : (b : Bool) (e : Expression) (f : Next A) → Keeps f → Keeps (when S b e f)
  when_kept b e f h =
      compute_kept e _ (λ v s i. r.deciding _ _ _ (if_kept (P _) (same_truth b (truth_in v)) _ _ (h s i) (r.blocked _)))

  loop_kept : (ps : List Parameter) (F : Formula) → ShapedFormula Shape F → (e : Expression) (b f : Next A) → Keeps b → Keeps f
      → Keeps (loop S ps F e b f)
  loop_kept ps F g e b f k h = give_kept _ F _ (choose_turn_kept _ _ _
      (λ s i. pick_variables_kept ps _ (take_kept F g _ (when_kept true e b k)) _ (c.nothing s i)) (λ s i. (r.blocked _))
      (pick_variables_kept ps _ (take_kept F g _ (when_kept false e f h))))

  position_kept : (l u : ℤ) (f : ℤ → Next A) → ((z : ℤ) → Keeps (f z)) → Keeps (pick_position S l u f)
  position_kept l u f h s i = r.pick _ _ _ (λ z. keeping.within_kept kept I c.same l u z _ _ (r.blocked _) (h z s i))

  at_some_kept : (n : Name) (l u : ℤ) (f : Next A) → Keeps f → Keeps (at_some S n l u f)
  at_some_kept n l u f h = position_kept l u _ (λ z s i. h _ (c.same s _ refl refl i))

  team_kept : (t : Team) → ShapedShared Shape t.variable t.shared → (l u : ℤ) (b f : Next A) → Keeps b → Keeps f
      → Keeps (team S t l u b f)
  team_kept t g l u b f k h s i = give_each_kept _ _ (c.old s i) t.variable l u t.shared.each_before _ (choose_turn_kept _ _ _
      (λ x j. at_some_kept t.variable l u _ (take_kept t.shared.one.before g.0.0 b k) _ (c.nothing x j))
      (λ x j. at_some_kept t.variable l u _ (take_kept t.shared.one.after g.0.1 _ finish_kept) _ (c.nothing x j))
      (λ x j. formulas.inhale_items_kept kept (bind_of x) (c.old x j) t.variable l u t.shared.each_after g.1.1 f h x j)) s i

  barrier_kept : (d : Shared) (x : Site) → ShapedShared Shape x.variable d → (f : Next A) → Keeps f → Keeps (barrier S d x f)
  barrier_kept d x g f h = site_gives x _ d.one.before _ (choose_turn_kept _ _ _
      (λ s i. formulas.inhale_items_kept kept (bind_at_site S x s) (c.old s i) x.variable x.low x.high d.each_before g.1.0 _
      (λ t j. give_each_kept _ (bind_at_site S x t) (c.old t j) x.variable x.low x.high d.each_after _ finish_kept t j) _
      (c.nothing s i))
      (λ s i. position_kept x.low x.high _
      (λ z. site_takes (at_site S x z) d.one.before g.0.0 _
      (λ t j. site_takes (at_site S x z) d.one.after g.0.1 _ finish_kept _ (c.nothing t j))) _ (c.nothing s i))
      (site_takes x d.one.after g.0.1 f h))

  declared_kept : (m : Message) (q : Span) (f : Next A) → Keeps f → Keeps (if_declared S m q f)
  declared_kept m q f h s i = if_kept (P _) (nat_eq m.distance 0) _ _ (r.failed _ _ _) (h s i)

  send_kept : (m : Message) (q : Span) → ShapedFormula Shape m.formula → (x : Site) (f : Next A) → Keeps f
      → Keeps (send S m q x f)
  send_kept m q g x f h = declared_kept m q _ (choose_turn_kept _ _ _ (λ s i. (r.blocked _))
      (λ s i. site_takes x m.formula g _ finish_kept _ (c.nothing s i))
      (λ s i. r.comparing _ _ _ _ (if_kept (P _) (int_lt (position S x +ℤ pos m.distance) x.high) _ _
      (site_gives x _ m.formula f h s i) (h s i))))

  receive_kept : (m : Message) (q : Span) → ShapedFormula Shape m.formula → (x : Site) (f : Next A) → Keeps f
      → Keeps (receive S m q x f)
  receive_kept m q g x f h = declared_kept m q _
      (λ s i. r.comparing _ _ _ _ (if_kept (P _) (int_le x.low (position S x -ℤ pos m.distance)) _ _
      (site_takes (at_site S x (position S x -ℤ pos m.distance)) m.formula g f h s i) (h s i)))

  return_kept : (e : Option Expression) (f : Next A) → Keeps f → Keeps (return S e f)
  return_kept None f h = h
  return_kept (Some e) f h = compute_kept e _ (λ v s i. h _ (c.same s _ refl refl i))

  mutual
    statement_kept : (p : Program) → ShapedProgram Shape p → (x : Site) (t : Statement) → ShapedStatement Shape x.variable t
        → (f : Next A)
        → Keeps f → Keeps (judge_statement S p x t f)
    statement_kept p g x (Assign t e q) k f h = locate_kept t _ (λ m l. right_kept p g e q _ (λ v. l v f h))
    statement_kept p g x (If e a b) k f h =
        compute_kept e _
        (λ v s i. r.deciding _ _ _
        (if_kept (P _) (truth_in v) _ _ (block_kept p g x a k.0 f h s i) (block_kept p g x b k.1 f h s i)))
    statement_kept p g x (While ps F e b q) k f h =
        loop_kept ps F k.0 e _ _ (block_kept p g x b k.1 _ (give_kept _ F _ finish_kept)) h
    statement_kept p g x (Members t b q) k f h = compute_kept t.low _ (λ v. compute_kept t.high _
        (λ w. team_kept t k.0 _ _ _ _
        (λ s. let site = inside S t (number_in v) (number_in w) s.variables in
        block_kept p g site b k.1 _ (site_gives site _ t.shared.one.after _ finish_kept) s) h))
    statement_kept p g x (Meet b q) k f h = barrier_kept b.shared x k f h
    statement_kept p g x (Act a d e q) k f h =
        compute_kept e _ (λ v s i. null_kept _ _ _ (r.failed _ _ _) (act_kept p g a d _ q f h s i))
    statement_kept p g x (Fold d n e es q) k f h = compute_kept e _ (λ v. compute_all_kept es _
        (λ vs s i. null_kept _ _ _ (r.failed _ _ _) (fold_kept (predicate_named p d n) d _ vs q f h s i)))
    statement_kept p g x (Unfold d n e es q) k f h =
        compute_kept e _ (λ v. compute_all_kept es _ (λ vs. unfold_kept (predicate_named p d n) (g.predicate d n) d _ vs q f h))
    statement_kept p g x (Assert F q) k f h = assert_kept F f h
    statement_kept p g x (Send m q) k f h = send_kept m q k x f h
    statement_kept p g x (Receive m q) k f h = receive_kept m q k x f h
    statement_kept p g x (Return e q) k f h = return_kept e f h

    block_kept : (p : Program) → ShapedProgram Shape p → (x : Site) (b : Block) → ShapedBlock Shape x.variable b → (f : Next A)
        → Keeps f
        → Keeps (judge_block S p x b f)
    block_kept p g x Stop k f h = h
    block_kept p g x (Then t ts) k f h = statement_kept p g x t k.0 _ (block_kept p g x ts k.1 f h)

  -- Units

  pick_this_kept : (d : Name) (f : Next A) → Keeps f → Keeps (pick_this S d f)
  pick_this_kept d f h = keeping.pick_value_kept kept (type.Object d) _ (λ v s i. h _ (c.same s _ refl refl i))

  enter_kept : (t : Task) → ShapedTask Shape t → (f : Next A) → Keeps f → Keeps (enter S t f)
  enter_kept (OfMethod d m) g f h = pick_this_kept d _
      (λ s i. null_kept s.this _ _ (r.blocked _) (pick_variables_kept m.parameters _ (take_kept m.contract.before g.0.0 f h) s i))
  enter_kept (OfFormula d ps F) g f h = pick_this_kept d _ (pick_variables_kept ps _ (λ s i. take_kept F g f h _ (c.nothing s i)))
  enter_kept NoUnit g f h = λ s i. (r.blocked _)

  go_on_kept : (p : Program) → ShapedProgram Shape p → (t : Task) → ShapedTask Shape t → Keeps (go_on S p t)
  go_on_kept p g (OfMethod d m) k s i = choose_turn_kept _ _ _
      (λ x. let site = of_method x.variables in
      block_kept p g site m.body k.1 _ (site_gives site check.Ensures m.contract.after (finish S) finish_kept) x)
      (λ x j. result_kept m.result _
      (λ v t l. take_kept m.contract.after k.0.1 _ finish_kept (with_result t v) (c.same t _ refl refl l)) (nothing_held x)
      (c.nothing x j))
      (λ x j. (r.blocked _)) _ (c.remember s i)
  go_on_kept p g (OfFormula d ps F) k s i = finish_kept s i
  go_on_kept p g NoUnit k s i = finish_kept s i

  -- the run of a unit keeps the property
  pub judge_kept : (p : Program) → ShapedProgram Shape p → (t : Task) → ShapedTask Shape t → I empty_state
      → P 0 (judge_task S p t)
  judge_kept p g t k i = enter_kept t k _ (go_on_kept p g t k) _ i
