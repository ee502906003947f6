-- The readers of types, parameters, right sides and other parts of statements are exact.
use Rattle.std.proofs.Common.{ℕ, suc, ◌≡◌, ◌≤◌, inl, inr, List, [], ◌∷◌, Option, None, refl, ap, arith}
use Rattle.pv_base.specs.declared.Span.{Span}
use Rattle.pv_tokens.specs.declared.fixed.TheConstants.{INT, NEW, THIS, DOTS, OPEN_PAREN, CLOSE_PAREN, OPEN_BRACKET, CLOSE_BRACKET, SEMICOLON, COMMA, ASSIGN, BANG, MINUS}
use Rattle.pv_ast.specs.declared.Word.{Word}
use Rattle.pv_ast.specs.declared.TypeWord.{TypeWord}
use Rattle.pv_ast.specs.declared.Expr.{Expr}
use Rattle.pv_ast.specs.declared.ExprKind.TheVariants.{This}
use Rattle.pv_ast.specs.declared.Right.{Right}
use Rattle.pv_ast.specs.declared.Range.{Range}
use Rattle.pv_ast.specs.declared.Param.{Param}
use Rattle.pv_reading.specs.Marks.{Tokens, Marked, fixed_at}
use Rattle.pv_reading.specs.Spelled.{Rule}
use Rattle.pv_reading.specs.Reading.{Parser, ◌>>=◌, onward, give, opened, fixed, named, is_fixed, name_of}
use Rattle.pv_reading.proofs.Nexts.{Nexts, anything, knows, either, sub_refl, sub_anything, sub_either, sub_fixed, sub_name, sub_right, sub_trans}
use Rattle.pv_reading.proofs.Exact.{Begins, Exact, Is, is, by_is, Then, seq, Or, AtFixed, at_fixed, AtName, at_name, AtEntry, at_entry, exact_as, exact_same, exact_wider, exact_give, exact_bind}
use Rattle.pv_reading.proofs.Sights.{pick_else, exact_fixed, exact_named, exact_expect, exact_expect_name, exact_expect_entry, Opening, deep_enough, opening_opened, makes_is, makes_then, makes_fixed, makes_name}
use Rattle.pv_reading.proofs.Loops.{Series, series_end, series_more, exact_series}
use Rattle.pv_exprs.specs.declared.level.Mode.TheVariants.{Program as in_program}
use Rattle.pv_exprs.specs.declared.part.Part.{Part}
use Rattle.pv_exprs.specs.declared.part.Chain.{Chain}
use Rattle.pv_exprs.specs.declared.part.Chain.TheVariants.{Named, Other}
use Rattle.pv_exprs.specs.Trees.{node, part_of}
use Rattle.pv_exprs.specs.Grammar as x
use Rattle.pv_exprs.specs.Reading as exprs
use Rattle.pv_exprs.specs.Reading.{Readers}
use Rattle.pv_exprs.proofs.Ranks.{above, sub_above, starts, sub_post, starts_other, sub_other}
use Rattle.pv_exprs.proofs.Makes.{expr_makes}
use Rattle.pv_exprs.proofs.Exactness.{RestRule, to_expr, from_expr, OtherUnary, other_expr, other_expr_is, rest_exact, other_expr_exact, steps_exact, expr_exact, formula_exact}
use Rattle.pv_exprs.proofs.Rules.{Known, Knows, ArgsRest, to_args, args_exact, args_makes, from_post, to_post, PostRule}
use Rattle.pv_parser.specs.declared.words.Base.{Base}
use Rattle.pv_parser.specs.declared.words.Base.TheVariants as base
use Rattle.pv_parser.specs.Words.{base_words, base_of}
use Rattle.pv_parser.specs.Trees.{plain_type, array_type, class_type, param_of, value_of, called, new_object, new_array, range_of}
use Rattle.pv_parser.specs.Grammar as g
use Rattle.pv_parser.specs.Reading

-- Types.

abbrev pub TypeFrom : ℕ → Base → Span → Rule TypeWord
TypeFrom d b s =
    Or (AtFixed OPEN_BRACKET (suc d) (λ q. AtFixed CLOSE_BRACKET (suc d) (λ r. Is (array_type b s r)))) (Is (plain_type b s))

abbrev pub starts_type : Nexts
starts_type = either (knows name_of) (knows base_of)

abbrev pub ParamRule : ℕ → Rule Param
ParamRule d = Then (g.IsType d) (λ t. AtName d (λ w. Is (param_of t w)))

-- parameters behind the bracket
abbrev pub ParamsRest : ℕ → Rule (List Param)
ParamsRest d = Or (AtFixed CLOSE_PAREN d (λ l. Is [])) (g.IsParamList d)

-- Right sides.

abbrev pub ValueRest : ℕ → Part → Rule Right
ValueRest d a = Then (RestRule in_program d a) (λ b. Is (value_of b))

abbrev pub CallArgs : ℕ → Option Part → Word → Rule Right
CallArgs d a w = Then (ArgsRest in_program (suc d)) (λ x. Is (called a w x.0 x.1))

abbrev pub RightRest : ℕ → Chain → Rule Right
RightRest d (Named a w) = Or (AtFixed OPEN_PAREN (suc d) (λ s. CallArgs d a w)) (ValueRest d (part_of (Named a w)))
RightRest d (Other a) = ValueRest d a

abbrev pub RightWalk : ℕ → Chain → Rule Right
RightWalk d a = Then (x.StepsFrom in_program d a) (RightRest d)

abbrev pub ArrayLength : ℕ → Span → Base → Span → Rule Right
ArrayLength d s b r = Then (x.IsExpr in_program d) (λ a. AtFixed CLOSE_BRACKET d (λ t. Is (new_array s (plain_type b r) a t)))

abbrev pub MadeRule : ℕ → Span → Rule Right
MadeRule d s = Or (AtName d (λ w. AtFixed OPEN_PAREN (suc d) (λ q. AtFixed CLOSE_PAREN (suc d) (λ r. Is (new_object s w r)))))
    (AtEntry base_of d (λ b r. AtFixed OPEN_BRACKET (suc d) (λ q. ArrayLength (suc d) s b r)))

abbrev pub OtherRight : ℕ → Rule Right
OtherRight d = Then (Then (OtherUnary in_program d) (RestRule in_program d)) (λ b. Is (value_of b))

abbrev pub RightRule : ℕ → Rule Right
RightRule d =
    Or (AtFixed NEW d (λ s. MadeRule d s)) (Or (AtName d (λ w. RightWalk d (Named None w)))
    (Or (AtFixed THIS d (λ s. RightWalk d (Other (node s This)))) (OtherRight d)))

abbrev pub starts_right : Nexts
starts_right = either (knows (is_fixed NEW)) starts

-- Parts of statements.

abbrev pub RangeRest : ℕ → Rule Range
RangeRest d =
    AtFixed INT d (λ i. AtName d (λ w. AtFixed ASSIGN d
    (λ q. Then (x.IsExpr in_program d) (λ a. AtFixed DOTS d
    (λ t. Then (x.IsExpr in_program d) (λ b. AtFixed CLOSE_PAREN d (λ r. Is (range_of w a b))))))))

abbrev pub ConditionRest : ℕ → Rule Part
ConditionRest d = Then (x.IsExpr in_program d) (λ a. AtFixed CLOSE_PAREN d (λ t. Is a))

-- something with a semicolon behind it
abbrev pub EndRule : {A : Type 0} → ℕ → Rule A → Rule (A × Span)
EndRule {A = A} d R = Then R (λ a. AtFixed SEMICOLON d (λ l. Is {A = A × Span} (a, l)))

abbrev pub CallEnd : ℕ → Rule (List Expr × Span)
CallEnd d = Then (ArgsRest in_program (suc d)) (λ x. AtFixed SEMICOLON d (λ l. Is {A = List Expr × Span} (x.0, l)))

module _ (d : ℕ) where
  to_type : (us : Marked) (t : TypeWord) (vs : Marked)
      → Or (AtName d (λ w. Is (class_type w))) (AtEntry base_of d (λ b s. TypeFrom d b s)) us t vs → g.IsType d us t vs
  to_type us t vs (inl (at_name is)) = g.object
  to_type us t vs (inr (at_entry h (inl (at_fixed (at_fixed i))))) = by_is (g.IsType d) i (g.array h)
  to_type us t vs (inr (at_entry h (inr i))) = by_is (g.IsType d) i (g.base h)

  from_type : (us : Marked) (t : TypeWord) (vs : Marked) → g.IsType d us t vs
      → Or (AtName d (λ w. Is (class_type w))) (AtEntry base_of d (λ b s. TypeFrom d b s)) us t vs
  from_type us t vs g.object = inl (at_name is)
  from_type us t vs (g.array h) = inr (at_entry h (inl (at_fixed (at_fixed is))))
  from_type us t vs (g.base h) = inr (at_entry h (inr is))

  to_params : (us : Marked) (z : List Param × Span) (vs : Marked) → Series COMMA CLOSE_PAREN d (ParamRule d) us z vs
      → g.IsParamList d us z.0 vs
  to_params us z vs (series_end (seq p (at_name is))) = g.last_param p
  to_params us z vs (series_more {vs = ws} {xs = xs} {l = l} (seq p (at_name is)) t) = g.next_param p (to_params ws (xs, l) vs t)

  from_params : (us : Marked) (ps : List Param) (vs : Marked) → g.IsParamList d us ps vs
      → (l : Span) × Series COMMA CLOSE_PAREN d (ParamRule d) us (ps, l) vs
  from_params us ps vs (g.last_param {r = r} p) = (r, series_end (seq p (at_name is)))
  from_params us ps vs (g.next_param {vs = ws} {ps = qs} p t) =
      let z = from_params ws qs vs t in (z.0, series_more (seq p (at_name is)) z.1)

  to_made : (s : Span) (us : Marked) (a : Right) (vs : Marked) → MadeRule d s us a vs
      → g.IsRight d ((fixed_at NEW s, d) ∷ us) a vs
  to_made s us a vs (inl (at_name (at_fixed (at_fixed i)))) =
      by_is (λ us. g.IsRight d ((fixed_at NEW s, d) ∷ us)) i g.object_value
  to_made s us a vs (inr (at_entry h (at_fixed (seq p (at_fixed i))))) =
      by_is (λ us. g.IsRight d ((fixed_at NEW s, d) ∷ us)) i (g.array_value h p)

  value_at : (us ws vs : Marked) (a : Part) (r : Right) → x.IsUnary in_program d us a ws → ValueRest d a ws r vs
      → g.IsRight d us r vs
  value_at us ws vs a r u (seq {vs = ys} {a = b} q i) = by_is (g.IsRight d) i (g.value (to_expr in_program d us ws ys a b u q))

  to_right : (us : Marked) (r : Right) (vs : Marked) → RightRule d us r vs → g.IsRight d us r vs
  to_right us r vs (inl (at_fixed {s = s} {us = ws} p)) = to_made s ws r vs p
  to_right us r vs (inr (inl (at_name (seq {vs = ws} {a = Named a w} st
      (inl (at_fixed (seq {us = ys} {vs = zs} {a = z} args i))))))) = by_is (g.IsRight d) i
      (g.call_value (x.from_name st) (to_args ys z zs args))
  to_right us r vs (inr (inl (at_name {us = ys} (seq {vs = ws} {a = Named a w} st (inr q))))) =
      value_at _ ws vs (part_of (Named a w)) r (x.plain (x.post x.name st)) q
  to_right us r vs (inr (inl (at_name (seq {vs = ws} {a = Other a} st q)))) = value_at _ ws vs a r (x.plain (x.post x.name st)) q
  to_right us r vs (inr (inr (inl (at_fixed (seq {vs = ws} {a = Named a w} st
      (inl (at_fixed (seq {us = ys} {vs = zs} {a = z} args i)))))))) = by_is (g.IsRight d) i
      (g.call_value (x.from_this st) (to_args ys z zs args))
  to_right us r vs (inr (inr (inl (at_fixed (seq {vs = ws} {a = Named a w} st (inr q)))))) =
      value_at _ ws vs (part_of (Named a w)) r (x.plain (x.post x.this_word st)) q
  to_right us r vs (inr (inr (inl (at_fixed (seq {vs = ws} {a = Other a} st q))))) =
      value_at _ ws vs a r (x.plain (x.post x.this_word st)) q
  to_right us r vs (inr (inr (inr (seq (seq {vs = ws} {a = a} (inl (at_fixed (seq p i))) q) j)))) =
      value_at us ws vs a r (by_is (x.IsUnary in_program d) i (x.not p)) (seq q j)
  to_right us r vs (inr (inr (inr (seq (seq {vs = ws} {a = a} (inr (inl (at_fixed (seq p i)))) q) j)))) =
      value_at us ws vs a r (by_is (x.IsUnary in_program d) i (x.minus p)) (seq q j)
  to_right us r vs (inr (inr (inr (seq (seq {vs = ws} {a = a} (inr (inr p)) q) j)))) =
      value_at us ws vs a r (x.plain (to_post d in_program us a ws (inr (inr p)))) (seq q j)

  with_call : (us vs ws : Marked) (a : Option Part) (w : Word) (xs : List Expr) (r : Span) → x.IsTarget in_program d us a w vs
      → x.IsArgs in_program d vs xs r ws → RightRule d us (called a w xs r) ws
  with_call us vs ws a w xs r (x.from_name st) x.no_args =
      inr (inl (at_name (seq st (inl (at_fixed (seq (inl (at_fixed is)) is))))))
  with_call us vs ws a w xs r (x.from_name st) (x.args p) = inr (inl (at_name (seq st (inl (at_fixed (seq (inr p) is))))))
  with_call us vs ws a w xs r (x.from_this st) x.no_args =
      inr (inr (inl (at_fixed (seq st (inl (at_fixed (seq (inl (at_fixed is)) is)))))))
  with_call us vs ws a w xs r (x.from_this st) (x.args p) = inr (inr (inl (at_fixed (seq st (inl (at_fixed (seq (inr p) is)))))))

  no_call : (c : Chain) (us : Marked) (r : Right) (vs : Marked) → ValueRest d (part_of c) us r vs → RightRest d c us r vs
  no_call (Named a w) us r vs q = inr q
  no_call (Other a) us r vs q = q

  post_value : (us ws vs : Marked) (a : Part) (b : Part) → PostRule in_program d us a ws → RestRule in_program d a ws b vs
      → RightRule d us (value_of b) vs
  post_value us ws vs a b (inl (at_name (seq {vs = ys} {a = c} st is))) q =
      inr (inl (at_name (seq st (no_call c ys (value_of b) vs (seq q is)))))
  post_value us ws vs a b (inr (inl (at_fixed (seq {vs = ys} {a = c} st is)))) q =
      inr (inr (inl (at_fixed (seq st (no_call c ys (value_of b) vs (seq q is))))))
  post_value us ws vs a b (inr (inr p)) q = inr (inr (inr (seq (seq (inr (inr p)) q) is)))

  value_by : (us ws vs : Marked) (a : Part) (b : Part) → x.IsUnary in_program d us a ws → RestRule in_program d a ws b vs
      → RightRule d us (value_of b) vs
  value_by us ws vs a b (x.not p) q = inr (inr (inr (seq (seq (inl (at_fixed (seq p is))) q) is)))
  value_by us ws vs a b (x.minus p) q = inr (inr (inr (seq (seq (inr (inl (at_fixed (seq p is)))) q) is)))
  value_by us ws vs a b (x.plain p) q = post_value us ws vs a b (from_post d in_program us a ws p) q

  by_unary : (us vs : Marked) (b : Part) → Then (x.IsUnary in_program d) (RestRule in_program d) us b vs
      → RightRule d us (value_of b) vs
  by_unary us vs b (seq {vs = ws} {a = a} u q) = value_by us ws vs a b u q

  from_right : (us : Marked) (r : Right) (vs : Marked) → g.IsRight d us r vs → RightRule d us r vs
  from_right us r vs (g.value {a = b} p) = by_unary us vs b (from_expr in_program d us b vs p)
  from_right us r vs (g.call_value {w = w} {r = l} {vs = ws} {a = a} {xs = xs} t args) = with_call us ws vs a w xs l t args
  from_right us r vs g.object_value = inl (at_fixed (inl (at_name (at_fixed (at_fixed is)))))
  from_right us r vs (g.array_value h p) = inl (at_fixed (inr (at_entry h (at_fixed (seq p (at_fixed is))))))

  to_range : (us : Marked) (r : Range) (vs : Marked) → AtFixed OPEN_PAREN (suc d) (λ s. RangeRest (suc d)) us r vs
      → g.IsRange d us r vs
  to_range us r vs (at_fixed (at_fixed (at_name (at_fixed (seq p (at_fixed (seq q (at_fixed i)))))))) =
      by_is (g.IsRange d) i (g.range p q)

  from_range : (us : Marked) (r : Range) (vs : Marked) → g.IsRange d us r vs
      → AtFixed OPEN_PAREN (suc d) (λ s. RangeRest (suc d)) us r vs
  from_range us r vs (g.range p q) = at_fixed (at_fixed (at_name (at_fixed (seq p (at_fixed (seq q (at_fixed is)))))))

  to_condition : (us : Marked) (c : Part) (vs : Marked) → AtFixed OPEN_PAREN (suc d) (λ s. ConditionRest (suc d)) us c vs
      → g.IsCondition d us c vs
  to_condition us c vs (at_fixed (seq p (at_fixed is))) = g.condition p

  from_condition : (us : Marked) (c : Part) (vs : Marked) → g.IsCondition d us c vs
      → AtFixed OPEN_PAREN (suc d) (λ s. ConditionRest (suc d)) us c vs
  from_condition us c vs (g.condition p) = at_fixed (seq p (at_fixed is))

  pub to_param_rest : (us : Marked) (ps : List Param) (vs : Marked)
      → AtFixed OPEN_PAREN (suc d) (λ s. ParamsRest (suc d)) us ps vs → g.IsParams d us ps vs
  to_param_rest us ps vs (at_fixed (inl (at_fixed is))) = g.no_params
  to_param_rest us ps vs (at_fixed (inr p)) = g.params p

  pub from_param_rest : (us : Marked) (ps : List Param) (vs : Marked) → g.IsParams d us ps vs
      → AtFixed OPEN_PAREN (suc d) (λ s. ParamsRest (suc d)) us ps vs
  from_param_rest us ps vs g.no_params = at_fixed (inl (at_fixed is))
  from_param_rest us ps vs (g.params p) = at_fixed (inr p)

  -- what each says

  pub condition_makes : Begins (g.IsCondition d) []
  condition_makes =
      let x =
      makes_fixed OPEN_PAREN (suc d) (λ s. makes_then (expr_makes (suc d) in_program)
      (λ a. makes_fixed CLOSE_PAREN (suc d) (λ t. makes_is a))) in (x.0, x.1, λ rest. to_condition _ _ _ (x.2 rest))

  pub range_makes : Begins (RangeRest d) []
  range_makes =
      makes_fixed INT d (λ i. makes_name d (λ w. makes_fixed ASSIGN d
      (λ q. makes_then (expr_makes d in_program) (λ a.
      makes_fixed DOTS d (λ t. makes_then (expr_makes d in_program) (λ b. makes_fixed CLOSE_PAREN d (λ r. makes_is _)))))))

  pub call_end_makes : Begins (CallEnd d) []
  call_end_makes = makes_then (args_makes in_program (suc d)) (λ x. makes_fixed SEMICOLON d (λ l. makes_is _))

  pub param_rest_makes : Begins (ParamsRest d) []
  param_rest_makes =
      let w : Span = record { from = 0; to = 0 } in ((fixed_at CLOSE_PAREN w, d) ∷ [], [], λ rest. inl (at_fixed is))

module _ (d : ℕ) where
  params_to : (us : Marked) (ps : List Param) (vs : Marked)
      → Then (Or (AtFixed CLOSE_PAREN d (λ l. Is {A = List Param × Span} ([], l))) (Series COMMA CLOSE_PAREN d (ParamRule d)))
      (λ x. Is x.0) us ps vs → ParamsRest d us ps vs
  params_to us ps vs (seq (inl (at_fixed is)) i) = by_is (ParamsRest d) i (inl (at_fixed is))
  params_to us ps vs (seq {vs = ws} {a = z} (inr p) i) = by_is (ParamsRest d) i (inr (to_params d us z ws p))

  params_from : (us : Marked) (ps : List Param) (vs : Marked) → ParamsRest d us ps vs
      → Then (Or (AtFixed CLOSE_PAREN d (λ l. Is {A = List Param × Span} ([], l))) (Series COMMA CLOSE_PAREN d (ParamRule d)))
      (λ x. Is x.0) us ps vs
  params_from us ps vs (inl (at_fixed is)) = seq (inl (at_fixed is)) is
  params_from us ps vs (inr p) = let z = from_params d us ps vs p in seq (inr z.1) is

module _ (L d : ℕ) (e : Option Readers) (le : d ≤ L) (D : Knows L d e) where
  pub type_from_exact : (b : Base) (s : Span)
      → Exact L (either (knows (is_fixed OPEN_BRACKET)) (above 1)) (above 1) (TypeFrom d b s) (Reading.type_from e b s)
  unfolding Reading.type_from
  type_from_exact b s =
      exact_fixed OPEN_BRACKET (λ q. opening_opened D (makes_fixed CLOSE_BRACKET (suc d) (λ r. makes_is (array_type b s r)))
      (λ p le K. exact_expect CLOSE_BRACKET (λ r. deep_enough le (exact_give (array_type b s r))))) refl
      (exact_give (plain_type b s))

  pub type_exact : Exact L starts_type (above 1) (g.IsType d) (Reading.type_word e)
  unfolding Reading.type_word
  type_exact =
      exact_as (to_type d) (from_type d) (exact_named (λ w. deep_enough le (exact_give (class_type w))) (λ n. refl)
      (exact_expect_entry base_words INT base.Int refl (λ b s. deep_enough le (type_from_exact b s))))

  pub param_exact : Exact L starts_type anything (ParamRule d) (Reading.param e)
  unfolding Reading.param
  param_exact =
      exact_bind (sub_name (λ n. refl)) type_exact (λ t. exact_expect_name (λ w. deep_enough le (exact_give (param_of t w))))

  pub params_exact : Exact L (either (knows (is_fixed CLOSE_PAREN)) starts_type) anything (ParamsRest d)
      (Reading.param_list (Reading.param e))
  unfolding Reading.param_list
  params_exact = exact_as (params_to d) (params_from d) (exact_bind (sub_refl anything)
      (exact_fixed CLOSE_PAREN (λ l. deep_enough le (exact_give ([], l))) refl
      (exact_series COMMA CLOSE_PAREN le param_exact refl refl refl)) (λ x. exact_give x.0))

  -- right sides

  call_args_opening : (a : Option Part) (w : Word)
      → Opening L (suc d) (above 8) (CallArgs d a w) (opened e (Reading.call_args a w))
  call_args_opening a w =
      opening_opened D (makes_then (args_makes in_program (suc d)) (λ x. makes_is _))
      (λ p le K. exact_bind (sub_anything (above 8)) (args_exact le (K.expr in_program)) (λ x. exact_give _))

  value_exact : (a : Part) → Exact L (above 2) (above 8) (ValueRest d a) (Reading.value_from e a)
  unfolding Reading.value_from
  value_exact a = exact_bind (sub_refl (above 8)) (rest_exact L d e le D in_program a) (λ b. exact_give (value_of b))

  right_rest_exact : (c : Chain) → Exact L (above 1) (above 8) (RightRest d c) (Reading.right_from e c)
  unfolding Reading.right_from
  right_rest_exact (Named a w) =
      exact_wider (sub_either (sub_fixed OPEN_PAREN refl) (sub_above 2 1 (omega arith))) (sub_refl (above 8))
      (exact_fixed OPEN_PAREN (λ s. call_args_opening a w) refl (value_exact (part_of (Named a w))))
  right_rest_exact (Other a) = exact_wider (sub_above 2 1 (omega arith)) (sub_refl (above 8)) (value_exact a)

  walk_exact : (c : Chain) → Exact L anything (above 8) (RightWalk d c) (Reading.right_walk e c)
  unfolding Reading.right_walk
  walk_exact c = exact_bind (sub_refl (above 1)) (steps_exact L d e le D in_program c) right_rest_exact

  array_opening : (s : Span) (b : Base) (r : Span)
      → Opening L (suc d) anything (ArrayLength (suc d) s b r) (opened e (Reading.array_length s b r))
  array_opening s b r =
      opening_opened D (makes_then (expr_makes (suc d) in_program) (λ a. makes_fixed CLOSE_BRACKET (suc d) (λ t. makes_is _)))
      (λ p le K. exact_bind (sub_fixed CLOSE_BRACKET refl) (K.expr in_program)
      (λ a. exact_expect CLOSE_BRACKET (λ t. deep_enough le (exact_give _))))

  made_exact : (s : Span) → Exact L starts_type anything (MadeRule d s) (Reading.made e s)
  unfolding Reading.made
  made_exact s =
      exact_named (λ w. deep_enough le (exact_expect OPEN_PAREN
      (λ q. opening_opened D (makes_fixed CLOSE_PAREN (suc d) (λ r. makes_is _))
      (λ p le K. exact_expect CLOSE_PAREN (λ r. deep_enough le (exact_give _)))))) (λ n. refl)
      (exact_expect_entry base_words INT base.Int refl
      (λ b r. deep_enough le (exact_expect OPEN_BRACKET (λ q. array_opening s b r))))

  other_right_exact : Exact L (either (knows (is_fixed BANG)) (either (knows (is_fixed MINUS)) starts_other)) (above 8)
      (OtherRight d) (other_expr in_program e >>= λ a. give (value_of a))
  other_right_exact = exact_bind (sub_refl (above 8)) (other_expr_exact L d e le D in_program) (λ b. exact_give (value_of b))

  abbrev right_by : Parser Right → Parser Right
  right_by r =
      fixed NEW (Reading.made e) (named (λ w. Reading.right_walk e (Named None w))
      (fixed THIS (λ s. Reading.right_walk e (Other (node s This))) r))

  right_is : (ts : Tokens) → Reading.right e ts ≡ right_by (other_expr in_program e >>= λ a. give (value_of a)) ts
  unfolding Reading.right
  right_is ts =
      let this = λ (r : Parser Right). fixed THIS (λ s. Reading.right_walk e (Other (node s This))) r in
      let whole = exprs.expr in_program e >>= λ a. give (value_of a) in
      let other = other_expr in_program e >>= λ a. give (value_of a) in
      pick_else (is_fixed NEW) (λ t s. Reading.made e s) (named (λ w. Reading.right_walk e (Named None w)) (this whole))
      (named (λ w. Reading.right_walk e (Named None w)) (this other)) ts (λ n.
      pick_else name_of (λ n s. Reading.right_walk e (Named None (record { name = n; span = s }))) (this whole) (this other) ts
      (λ h.
      pick_else (is_fixed THIS) (λ t s. Reading.right_walk e (Other (node s This))) whole other ts
      (λ g. ap (onward (λ a. give (value_of a))) (other_expr_is in_program e ts h g))))

  pub right_exact : Exact L starts_right (above 8) (g.IsRight d) (Reading.right e)
  right_exact = exact_same right_is (exact_as (to_right d) (from_right d) (exact_wider
      (sub_either (sub_fixed NEW refl) (sub_either (sub_name (λ n. refl))
      (sub_either (sub_fixed THIS refl) (sub_either (sub_fixed BANG refl)
      (sub_either (sub_fixed MINUS refl) (sub_right (knows (is_fixed NEW)) (sub_trans sub_other sub_post)))))))
      (sub_refl (above 8))
      (exact_fixed NEW (λ s. deep_enough le (exact_wider (sub_refl starts_type) (sub_anything (above 8)) (made_exact s))) refl
      (exact_named (λ w. deep_enough le (walk_exact (Named None w))) (λ n. refl)
      (exact_fixed THIS (λ s. deep_enough le (walk_exact (Other (node s This)))) refl other_right_exact)))))

  -- parts of statements

  pub condition_exact : Exact L (knows (is_fixed OPEN_PAREN)) anything (g.IsCondition d) (Reading.condition e)
  unfolding Reading.condition
  condition_exact =
      exact_as (to_condition d) (from_condition d)
      (exact_expect OPEN_PAREN (λ s. opening_opened D
      (makes_then (expr_makes (suc d) in_program) (λ a. makes_fixed CLOSE_PAREN (suc d) (λ t. makes_is a)))
      (λ p le K. exact_bind (sub_fixed CLOSE_PAREN refl) (K.expr in_program)
      (λ a. exact_expect CLOSE_PAREN (λ t. deep_enough le (exact_give a))))))

  range_in_exact : (m : ℕ) (p : Readers) → m ≤ L → Known L m p
      → Exact L (knows (is_fixed INT)) anything (RangeRest m) (Reading.range_in p)
  unfolding Reading.range_in
  range_in_exact m p le K =
      exact_expect INT (λ i. deep_enough le (exact_expect_name
      (λ w. deep_enough le (exact_expect ASSIGN (λ q. deep_enough le (exact_bind (sub_fixed DOTS refl) (K.expr in_program) (λ a.
      exact_expect DOTS (λ t. deep_enough le (exact_bind (sub_fixed CLOSE_PAREN refl) (K.expr in_program)
      (λ b. exact_expect CLOSE_PAREN (λ r. deep_enough le (exact_give _))))))))))))

  pub range_exact : Exact L (knows (is_fixed OPEN_PAREN)) anything (g.IsRange d) (Reading.range e)
  unfolding Reading.range
  range_exact =
      exact_as (to_range d) (from_range d) (exact_expect OPEN_PAREN
      (λ s. opening_opened D (range_makes (suc d)) (λ p le K. range_in_exact (suc d) p le K)))

  pub formula_end_exact : Exact L starts anything (EndRule d (x.IsFormula d)) (Reading.formula_end e)
  unfolding Reading.formula_end
  formula_end_exact =
      exact_bind (sub_fixed SEMICOLON refl) (formula_exact L d e le D)
      (λ a. exact_expect SEMICOLON (λ l. deep_enough le (exact_give _)))

  pub expr_end_exact : Exact L starts anything (EndRule d (x.IsExpr in_program d)) (Reading.expr_end e)
  unfolding Reading.expr_end
  expr_end_exact =
      exact_bind (sub_fixed SEMICOLON refl) (expr_exact L d e le D in_program)
      (λ a. exact_expect SEMICOLON (λ l. deep_enough le (exact_give _)))

  pub right_end_exact : Exact L starts_right anything (EndRule d (g.IsRight d)) (Reading.right_end e)
  unfolding Reading.right_end
  right_end_exact =
      exact_bind (sub_fixed SEMICOLON refl) right_exact (λ a. exact_expect SEMICOLON (λ l. deep_enough le (exact_give _)))

-- a call from the bracket on
pub call_end_exact : {L : ℕ} (m : ℕ) (p : Readers) → suc m ≤ L → Known L (suc m) p → m ≤ L
    → Exact L (either (knows (is_fixed CLOSE_PAREN)) starts) anything (CallEnd m) (Reading.call_end p)
unfolding Reading.call_end
call_end_exact m p lt K le =
    exact_bind (sub_anything _) (args_exact lt (K.expr in_program))
    (λ x. exact_expect SEMICOLON (λ l. deep_enough le (exact_give _)))
