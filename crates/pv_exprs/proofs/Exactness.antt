-- Each reader of expressions and formulas is exact for its rule.
use Rattle.std.proofs.Common.{ℕ, zero, suc, ◌≡◌, ◌+◌, ◌≤◌, inl, inr, [], ◌∷◌, Option, Some, None, Bool, true, false, if◌then◌else◌, refl, sym, ap, ◌∙◌, subst, arith}
use Rattle.pv_base.specs.declared.Span.{Span}
use Rattle.pv_tokens.specs.declared.LexemeKind.TheVariants as k
use Rattle.pv_tokens.specs.declared.fixed.TheConstants.{NULL, THIS, TRUE, FALSE, PERM, RESULT, OLD, IMPLIES, OPEN_PAREN, CLOSE_PAREN, OPEN_BRACKET, CLOSE_BRACKET, COMMA, DOT, BANG, MINUS}
use Rattle.pv_ast.specs.declared.Word.{Word}
use Rattle.pv_ast.specs.declared.Operator.{Operator}
use Rattle.pv_ast.specs.declared.Operator.TheVariants as op
use Rattle.pv_ast.specs.declared.ExprKind.TheVariants as e
use Rattle.pv_reading.specs.Marks.{Tokens, Marked, fixed_at}
use Rattle.pv_reading.specs.Spelled.{Rule}
use Rattle.pv_reading.specs.Reading.{Reading as Read, Good, Bad, Deep, onward, Parser, ◌>>=◌, give, refuse, opened, fixed, expect, is_fixed, name_of, number_of}
use Rattle.pv_reading.proofs.Nexts.{Nexts, Sub, anything, knows, either, sub_refl, sub_anything, sub_either, sub_fixed, sub_name, sub_number, sub_table}
use Rattle.pv_reading.proofs.Exact.{Begins, Exact, Is, is, by_is, Then, seq, Or, AtFixed, at_fixed, at_name, AtEntry, at_entry, exact_as, exact_wider, exact_give, exact_bind}
use Rattle.pv_reading.proofs.Sights.{sight, pick_none, pick_else, exact_fixed, exact_named, exact_numbered, exact_entry, exact_expect, exact_expect_name, Opening, too_deep, deep_enough, Deeper, none_deeper, one_deeper, opening_opened, makes_is, makes_then, makes_fixed, makes_name}
use Rattle.pv_exprs.specs.declared.level.Mode.{Mode}
use Rattle.pv_exprs.specs.declared.level.Mode.TheVariants.{Program, Logic}
use Rattle.pv_exprs.specs.declared.level.Level.{Level}
use Rattle.pv_exprs.specs.declared.level.Level.TheVariants as level
use Rattle.pv_exprs.specs.declared.part.Part.{Part}
use Rattle.pv_exprs.specs.declared.part.Chain.{Chain}
use Rattle.pv_exprs.specs.declared.part.Chain.TheVariants.{Named, Other}
use Rattle.pv_exprs.specs.Operators.{operators, operator_of, repeats, tighter, token_words, token_of}
use Rattle.pv_exprs.specs.Trees.{node, joined, negated, signed, widened, element_of, part_of, instance_of, old_of, token_part}
use Rattle.pv_exprs.specs.Grammar as g
use Rattle.pv_exprs.specs.Reading
use Rattle.pv_exprs.specs.Reading.{Readers}
use Rattle.pv_exprs.proofs.Ranks.{above, sub_above, starts, starts_post, sub_post, starts_other, sub_other, rank_of, rank_under, under_rank, operators_above, operators_apart}
use Rattle.pv_exprs.proofs.Makes.{post_makes, unary_makes, operand_makes, expr_makes, formula_makes, only_makes, steps_makes, amount_makes}
use Rattle.pv_exprs.proofs.Rules.{Known, Knows, args_exact, args_makes, FieldRule, ElementRule, EndedRule, ArgsEnded, InstanceRule, WalkRule, GroupRule, ConstantOr, PermRule, LogicRule, AtomRule, OtherPost, amount_exact, formula_group_makes, formula_grouped_exact, to_post, from_post}

-- The parts of a level are joined at the next one.

module _ {m : Mode} {d : ℕ} where
  down_by : (l : Level) {n n' : Level} → tighter l ≡ Some n → tighter l ≡ Some n' → (us : Marked) (a : Part) (vs : Marked)
      → g.IsJoined m n' d us a vs → g.IsJoined m n d us a vs
  down_by l {n = n} {n' = n'} h h' us a vs p =
      let e : Some n' ≡ Some n = sym h' ∙ h in let f : n' ≡ n = cc in subst (λ z. g.IsJoined m z d us a vs) f p

  pub operand_down : {l n : Level} → tighter l ≡ Some n → (us : Marked) (a : Part) (vs : Marked) → g.IsOperand m l d us a vs
      → g.IsJoined m n d us a vs
  operand_down {l = l} h us a vs (g.level h' p) = down_by l h h' us a vs p
  operand_down {n = n} h us a vs (g.unary h' p) = let e : None ≡ Some n = sym h' ∙ h in cc

  pub unary_down : (us : Marked) (a : Part) (vs : Marked) → g.IsOperand m level.Product d us a vs → g.IsUnary m d us a vs
  unary_down us a vs (g.level {k = n} h p) = cc
  unary_down us a vs (g.unary h p) = p

  level_up : {l n : Level} → tighter l ≡ Some n → (us : Marked) (b : Part) (vs : Marked)
      → Then (g.IsJoined m n d) (g.JoinedFrom m l d) us b vs → g.IsJoined m l d us b vs
  level_up h us b vs (seq p q) = g.parts (g.level h p) q

  level_down : {l n : Level} → tighter l ≡ Some n → (us : Marked) (b : Part) (vs : Marked) → g.IsJoined m l d us b vs
      → Then (g.IsJoined m n d) (g.JoinedFrom m l d) us b vs
  level_down h us b vs (g.parts {us = ws} {a = a} p q) = seq (operand_down h us a ws p) q

  product_up : (us : Marked) (b : Part) (vs : Marked) → Then (g.IsUnary m d) (g.JoinedFrom m level.Product d) us b vs
      → g.IsJoined m level.Product d us b vs
  product_up us b vs (seq p q) = g.parts (g.unary refl p) q

  product_down : (us : Marked) (b : Part) (vs : Marked) → g.IsJoined m level.Product d us b vs
      → Then (g.IsUnary m d) (g.JoinedFrom m level.Product d) us b vs
  product_down us b vs (g.parts {us = ws} {a = a} p q) = seq (unary_down us a ws p) q

only_more : {d : ℕ} (m : Mode) (l : Level) (a : Part) (us : Marked) (b : Part) (vs : Marked) → repeats l ≡ true
    → g.JoinedOnly m l d a us b vs → g.JoinedFrom m l d a us b vs
only_more m l a us b vs h (g.more h' p) = p
only_more m l a us b vs h (g.last h') = let e : true ≡ false = sym h ∙ h' in cc

only_last : {d : ℕ} (m : Mode) (l : Level) (a : Part) (us : Marked) (b : Part) (vs : Marked) → repeats l ≡ false
    → g.JoinedOnly m l d a us b vs → Is a us b vs
only_last m l a us b vs h (g.more h' p) = let e : true ≡ false = sym h' ∙ h in cc
only_last m l a us b vs h (g.last h') = is

module _ (L d : ℕ) (o : Option Readers) (le : d ≤ L) (D : Knows L d o) where
  -- steps

  field_opening : (m : Mode) (a : Chain) (stop : Nexts) → Sub stop (above 1)
      → Opening L (suc d) stop (FieldRule m d a) (opened o (Reading.field_step m a))
  field_opening m a stop c = opening_opened D (makes_name (suc d) (λ w. steps_makes (suc d) m (Named (Some (part_of a)) w)))
      (λ p le K. exact_expect_name (λ w. deep_enough le
      (exact_wider (sub_refl anything) c (K.steps m (Named (Some (part_of a)) w)))))

  element_makes : (m : Mode) (a : Chain) → Begins (ElementRule m d a) []
  element_makes m a =
      makes_then (expr_makes (suc (suc d)) m) (λ i.
      makes_fixed CLOSE_BRACKET (suc (suc d)) (λ t. steps_makes (suc d) m (Other (element_of (part_of a) i t))))

  element_at : (m : Mode) (a : Chain) (stop : Nexts) → Sub stop (above 1) → (r : Readers) → suc d ≤ L → Known L (suc d) r
      → Opening L (suc (suc d)) stop (ElementRule m d a) (Reading.element_step m a r)
  element_at m a stop c r lt K = opening_opened (K.inside m) (element_makes m a)
      (λ q le E. exact_bind (sub_fixed CLOSE_BRACKET refl) E
      (λ i. exact_expect CLOSE_BRACKET (λ t. deep_enough le
      (exact_wider (sub_refl anything) c (K.steps m (Other (element_of (part_of a) i t)))))))

  element_opening : (m : Mode) (a : Chain) (stop : Nexts) → Sub stop (above 1) → (o : Option Readers) → Knows L d o
      → Opening L (suc (suc d)) stop (ElementRule m d a) (opened o (Reading.element_step m a))
  element_opening m a stop c o (none_deeper lt) = too_deep (omega (arith, lt)) (λ vs. refl) (element_makes m a)
  element_opening m a stop c o (one_deeper {r = r} lt K) = element_at m a stop c r lt K

  to_steps : (m : Mode) (a : Chain) (us : Marked) (b : Chain) (vs : Marked)
      → Or (AtFixed DOT (suc d) (λ s. FieldRule m d a))
      (Or (AtFixed OPEN_BRACKET (suc (suc d)) (λ s. ElementRule m d a)) (Is a)) us b vs → g.StepsFrom m d a us b vs
  to_steps m a us b vs (inl (at_fixed (at_name p))) = g.some_steps (g.field p)
  to_steps m a us b vs (inr (inl (at_fixed (seq p (at_fixed q))))) = g.some_steps (g.element p q)
  to_steps m a us b vs (inr (inr is)) = g.no_steps

  from_steps : (m : Mode) (a : Chain) (us : Marked) (b : Chain) (vs : Marked) → g.StepsFrom m d a us b vs
      → Or (AtFixed DOT (suc d) (λ s. FieldRule m d a))
      (Or (AtFixed OPEN_BRACKET (suc (suc d)) (λ s. ElementRule m d a)) (Is a)) us b vs
  from_steps m a us b vs g.no_steps = inr (inr is)
  from_steps m a us b vs (g.some_steps (g.field p)) = inl (at_fixed (at_name p))
  from_steps m a us b vs (g.some_steps (g.element p q)) = inr (inl (at_fixed (seq p (at_fixed q))))

  -- steps, where what stands behind them is in the set
  pub steps_to : (stop : Nexts) → Sub stop (above 1) → stop (Some (k.Fixed DOT)) ≡ false
      → stop (Some (k.Fixed OPEN_BRACKET)) ≡ false → (m : Mode) (a : Chain)
      → Exact L (either (knows (is_fixed DOT)) (either (knows (is_fixed OPEN_BRACKET)) stop)) stop (g.StepsFrom m d a)
      (Reading.steps m o a)
  unfolding Reading.steps Reading.steps_or
  steps_to stop c h i m a = exact_as (to_steps m a) (from_steps m a)
      (exact_fixed DOT (λ s. field_opening m a stop c) h
      (exact_fixed OPEN_BRACKET (λ s. element_opening m a stop c o D) i (exact_give a)))

  pub steps_exact : (m : Mode) (a : Chain) → Exact L anything (above 1) (g.StepsFrom m d a) (Reading.steps m o a)
  steps_exact m a = exact_wider (sub_anything _) (sub_refl (above 1)) (steps_to (above 1) (sub_refl (above 1)) refl refl m a)

  to_some : (m : Mode) (a : Chain) (us : Marked) (b : Chain) (vs : Marked)
      → Or (AtFixed DOT (suc d) (λ s. FieldRule m d a)) (AtFixed OPEN_BRACKET (suc (suc d)) (λ s. ElementRule m d a)) us b vs
      → g.SomeSteps m d a us b vs
  to_some m a us b vs (inl (at_fixed (at_name p))) = g.field p
  to_some m a us b vs (inr (at_fixed (seq p (at_fixed q)))) = g.element p q

  from_some : (m : Mode) (a : Chain) (us : Marked) (b : Chain) (vs : Marked) → g.SomeSteps m d a us b vs
      → Or (AtFixed DOT (suc d) (λ s. FieldRule m d a)) (AtFixed OPEN_BRACKET (suc (suc d)) (λ s. ElementRule m d a)) us b vs
  from_some m a us b vs (g.field p) = inl (at_fixed (at_name p))
  from_some m a us b vs (g.element p q) = inr (at_fixed (seq p (at_fixed q)))

  pub some_steps_exact : (m : Mode) (a : Chain)
      → Exact L (either (knows (is_fixed DOT)) (knows (is_fixed OPEN_BRACKET))) (above 1) (g.SomeSteps m d a)
      (Reading.steps_or m o a refuse)
  unfolding Reading.steps_or
  some_steps_exact m a = exact_as (to_some m a) (from_some m a)
      (exact_fixed DOT (λ s. field_opening m a (above 1) (sub_refl (above 1))) refl
      (exact_expect OPEN_BRACKET (λ s. element_opening m a (above 1) (sub_refl (above 1)) o D)))

  pub ended_exact : (m : Mode) (a : Chain) → Exact L anything (above 2) (EndedRule m d a) (Reading.ended m o a)
  unfolding Reading.ended
  ended_exact m a = exact_bind (sub_above 2 1 (omega arith)) (steps_exact m a) (λ b. exact_give (part_of b))

  -- instances

  ended_makes : (m : Mode) (a : Chain) → Begins (EndedRule m d a) []
  ended_makes m a = makes_then (steps_makes d m a) (λ b. makes_is (part_of b))

  args_ended : (a : Option Part) (w : Word)
      → Opening L (suc d) (above 2) (ArgsEnded d a w) (opened o (Reading.instance_args o a w))
  args_ended a w =
      opening_opened D (makes_then (args_makes Logic (suc d)) (λ x. ended_makes Logic (Other (instance_of a w x.0 x.1))))
      (λ p le K. exact_bind (sub_refl anything) (args_exact le (K.expr Logic))
      (λ x. ended_exact Logic (Other (instance_of a w x.0 x.1))))

  instance_exact : (a : Chain) → Exact L (above 1) (above 2) (InstanceRule d a) (Reading.instance_or o a)
  unfolding Reading.instance_or
  instance_exact (Named a w) =
      exact_wider (sub_either (sub_fixed OPEN_PAREN refl) (sub_above 2 1 (omega arith))) (sub_refl (above 2))
      (exact_fixed OPEN_PAREN (λ s. args_ended a w) refl (exact_give (part_of (Named a w))))
  instance_exact (Other a) = exact_wider (sub_above 2 1 (omega arith)) (sub_refl (above 2)) (exact_give a)

  walk_exact : (m : Mode) (a : Chain) → Exact L anything (above 2) (WalkRule m d a) (Reading.walk m o a)
  unfolding Reading.walk
  walk_exact Program a = ended_exact Program a
  walk_exact Logic a = exact_bind (sub_refl (above 1)) (steps_exact Logic a) instance_exact

  -- other atoms

  closed_makes : (m : Mode) (f : Part → Span → Chain)
      → Begins (Then (g.IsExpr m (suc d)) (λ a. AtFixed CLOSE_PAREN (suc d) (λ t. Is (f a t)))) []
  closed_makes m f = makes_then (expr_makes (suc d) m) (λ a. makes_fixed CLOSE_PAREN (suc d) (λ t. makes_is (f a t)))

  -- an expression and the bracket behind it
  closed_opening : (m : Mode) (f : Part → Span → Chain)
      → Opening L (suc d) anything (Then (g.IsExpr m (suc d)) (λ a. AtFixed CLOSE_PAREN (suc d) (λ t. Is (f a t))))
      (opened o (λ p. p.expr m >>= λ a. expect CLOSE_PAREN (λ t. give (f a t))))
  closed_opening m f =
      opening_opened D (closed_makes m f) (λ p le K.
      exact_bind (sub_fixed CLOSE_PAREN refl) (K.expr m)
      (λ a. exact_expect CLOSE_PAREN (λ t. deep_enough le (exact_give (f a t)))))

  group_exact : Exact L (knows (is_fixed OPEN_PAREN)) anything (GroupRule d) (Reading.group o)
  unfolding Reading.group
  group_exact = exact_expect OPEN_PAREN (λ s. closed_opening Program (λ a t. Other (widened s t a)))

  constant_exact : {first : Nexts} {R : Rule Chain} {r : Parser Chain} → ((n : ℕ) → first (Some (k.Number n)) ≡ false)
      → first (Some (k.Fixed TRUE)) ≡ false → first (Some (k.Fixed FALSE)) ≡ false → first (Some (k.Fixed NULL)) ≡ false
      → Exact L first anything R r
      → Exact L (either (knows number_of) (either (knows (is_fixed TRUE))
      (either (knows (is_fixed FALSE)) (either (knows (is_fixed NULL)) first)))) anything (ConstantOr d R) (Reading.constant_or r)
  unfolding Reading.constant_or
  constant_exact a b c e P =
      exact_numbered (λ n s. deep_enough le (exact_give _)) a
      (exact_fixed TRUE (λ s. deep_enough le (exact_give _)) b
      (exact_fixed FALSE (λ s. deep_enough le (exact_give _)) c
      (exact_fixed NULL (λ s. deep_enough le (exact_give _)) e P)))

  perm_opening : (s : Span) → Opening L (suc d) anything (PermRule d s) (opened o (Reading.permitted s))
  perm_opening s = opening_opened D
      (makes_then (post_makes (suc d) Logic) (λ a.
      makes_fixed COMMA (suc d) (λ c. makes_then (amount_makes (suc d))
      (λ x. makes_fixed CLOSE_PAREN (suc d) (λ t. makes_is _)))))
      (λ p le K. exact_bind (sub_fixed COMMA refl) (K.post Logic) (λ a. exact_expect COMMA (λ c. deep_enough le
      (exact_bind (sub_fixed CLOSE_PAREN refl) (amount_exact (suc d) le)
      (λ x. exact_expect CLOSE_PAREN (λ t. deep_enough le (exact_give _)))))))

  logic_exact : Exact L (either (knows (is_fixed RESULT))
      (either (knows (is_fixed OLD)) (either (knows (is_fixed PERM)) (either (knows token_of) (knows (is_fixed OPEN_PAREN))))))
      anything (LogicRule d) (Reading.logic_atom o)
  unfolding Reading.logic_atom Reading.formula_group
  logic_exact =
      exact_fixed RESULT (λ s. deep_enough le (exact_give _)) refl
      (exact_fixed OLD (λ s. deep_enough le (exact_expect OPEN_PAREN (λ q. closed_opening Logic (λ a t. Other (old_of s a t)))))
      refl
      (exact_fixed PERM (λ s. deep_enough le (exact_expect OPEN_PAREN (λ q. perm_opening s))) refl
      (exact_entry token_words (λ y s. deep_enough le
      (exact_expect OPEN_PAREN (λ q. closed_opening Logic (λ a t. Other (token_part y s a t))))) (
        refl,
        (refl, (refl, (refl, tt))),
      )
      (exact_expect OPEN_PAREN (λ s. opening_opened D (formula_group_makes (suc d) s)
      (λ p le K. formula_grouped_exact L (suc d) le p K s))))))

  -- postfix and unary expressions

  other_makes : (m : Mode) → Begins (AtomRule m d) []
  other_makes Program =
      let w : Span = record { from = 0; to = 0 } in ((fixed_at TRUE w, d) ∷ [], _, λ rest. inr (inl (at_fixed is)))
  other_makes Logic =
      let w : Span = record { from = 0; to = 0 } in ((fixed_at TRUE w, d) ∷ [], _, λ rest. inr (inl (at_fixed is)))

  pub other_exact : (m : Mode) → Exact L starts_other anything (AtomRule m d) (Reading.atom m o)
  unfolding Reading.atom
  other_exact Program =
      exact_wider (sub_either (sub_number (λ n. refl))
      (sub_either (sub_fixed TRUE refl) (sub_either (sub_fixed FALSE refl)
      (sub_either (sub_fixed NULL refl) (sub_fixed OPEN_PAREN refl))))) (sub_refl anything)
      (constant_exact (λ n. refl) refl refl refl group_exact)
  other_exact Logic =
      exact_wider (sub_either (sub_number (λ n. refl))
      (sub_either (sub_fixed TRUE refl) (sub_either (sub_fixed FALSE refl) (sub_either (sub_fixed NULL refl)
      (sub_either (sub_fixed RESULT refl) (sub_either (sub_fixed OLD refl)
      (sub_either (sub_fixed PERM refl) (sub_either (sub_table token_words (refl, (refl, (refl, (refl, tt)))))
      (sub_fixed OPEN_PAREN refl))))))))) (sub_refl anything)
      (constant_exact (λ n. refl) refl refl refl logic_exact)

  pub other_post_exact : (m : Mode) → Exact L starts_other (above 2) (OtherPost m d) (Reading.atom m o >>= Reading.ended m o)
  other_post_exact m = exact_bind (sub_refl anything) (other_exact m) (ended_exact m)

  pub post_exact : (m : Mode) → Exact L starts_post (above 2) (g.IsPost m d) (Reading.post m o)
  unfolding Reading.post
  post_exact m =
      exact_wider (sub_either (sub_name (λ n. refl)) (sub_either (sub_fixed THIS refl) sub_other)) (sub_refl (above 2))
      (exact_as (to_post d m) (from_post d m)
      (exact_named (λ w. deep_enough le (walk_exact m (Named None w))) (λ n. refl)
      (exact_fixed THIS (λ s. deep_enough le (walk_exact m (Other (node s e.This)))) refl (other_post_exact m))))

  to_unary : (m : Mode) (us : Marked) (b : Part) (vs : Marked)
      → Or (AtFixed BANG (suc d) (λ s. Then (g.IsUnary m (suc d)) (λ a. Is (negated s a))))
      (Or (AtFixed MINUS (suc d) (λ s. Then (g.IsUnary m (suc d)) (λ a. Is (signed s a)))) (g.IsPost m d)) us b vs
      → g.IsUnary m d us b vs
  to_unary m us b vs (inl (at_fixed (seq p i))) = by_is (g.IsUnary m d) i (g.not p)
  to_unary m us b vs (inr (inl (at_fixed (seq p i)))) = by_is (g.IsUnary m d) i (g.minus p)
  to_unary m us b vs (inr (inr p)) = g.plain p

  from_unary : (m : Mode) (us : Marked) (b : Part) (vs : Marked) → g.IsUnary m d us b vs
      → Or (AtFixed BANG (suc d) (λ s. Then (g.IsUnary m (suc d)) (λ a. Is (negated s a))))
      (Or (AtFixed MINUS (suc d) (λ s. Then (g.IsUnary m (suc d)) (λ a. Is (signed s a)))) (g.IsPost m d)) us b vs
  from_unary m us b vs (g.not p) = inl (at_fixed (seq p is))
  from_unary m us b vs (g.minus p) = inr (inl (at_fixed (seq p is)))
  from_unary m us b vs (g.plain p) = inr (inr p)

  -- what stands behind a sign
  pub sign_opening : (m : Mode) (f : Part → Part)
      → Opening L (suc d) (above 2) (Then (g.IsUnary m (suc d)) (λ a. Is (f a))) (opened o (λ p. p.unary m >>= λ a. give (f a)))
  sign_opening m f =
      opening_opened D (makes_then (unary_makes (suc d) m) (λ a. makes_is (f a)))
      (λ p le K. exact_bind (sub_refl (above 2)) (K.unary m) (λ a. exact_give (f a)))

  pub unary_exact : (m : Mode) → Exact L starts (above 2) (g.IsUnary m d) (Reading.unary m o)
  unfolding Reading.unary
  unary_exact m =
      exact_wider (sub_either (sub_fixed BANG refl) (sub_either (sub_fixed MINUS refl) sub_post)) (sub_refl (above 2))
      (exact_as (to_unary m) (from_unary m)
      (exact_fixed BANG (λ s. sign_opening m (negated s)) refl
      (exact_fixed MINUS (λ s. sign_opening m (signed s)) refl (post_exact m))))

  -- chains of operators

  abbrev Operated : Mode → Level → Part → Operator → Rule Part
  Operated m l a x = Then (g.IsOperand m l (suc d)) (λ b. g.JoinedOnly m l (suc d) (joined x a b))

  operated_opening : (m : Mode) (l : Level) (a : Part) (x : Operator)
      → Opening L (suc d) (above (rank_of l)) (Operated m l a x) (opened o (Reading.operated m l a x))
  operated_opening m l a x =
      opening_opened D (makes_then (operand_makes (suc d) m l) (λ b. only_makes (suc d) m l (joined x a b)))
      (λ p le K. exact_bind (sub_refl (above (rank_under l))) (K.operand m l) (λ b. K.only m l (joined x a b)))

  to_from : (m : Mode) (l : Level) (a : Part) (us : Marked) (b : Part) (vs : Marked)
      → Or (AtEntry (operator_of l) (suc d) (λ x s. Operated m l a x)) (Is a) us b vs → g.JoinedFrom m l d a us b vs
  to_from m l a us b vs (inl (at_entry h (seq p q))) = g.one_more h p q
  to_from m l a us b vs (inr is) = g.no_more

  from_from : (m : Mode) (l : Level) (a : Part) (us : Marked) (b : Part) (vs : Marked) → g.JoinedFrom m l d a us b vs
      → Or (AtEntry (operator_of l) (suc d) (λ x s. Operated m l a x)) (Is a) us b vs
  from_from m l a us b vs (g.one_more h p q) = inl (at_entry h (seq p q))
  from_from m l a us b vs g.no_more = inr is

  narrow_from : (m : Mode) (l : Level) (a : Part)
      → Exact L (either (knows (operator_of l)) (above (rank_of l))) (above (rank_of l)) (g.JoinedFrom m l d a)
      (Reading.joined_from m l o a)
  unfolding Reading.joined_from Reading.joined_or
  narrow_from m l a =
      exact_as (to_from m l a) (from_from m l a) (exact_entry (operators l) (λ x s. operated_opening m l a x) (operators_apart l)
      (exact_give a))

  pub from_exact : (m : Mode) (l : Level) (a : Part)
      → Exact L (above (rank_under l)) (above (rank_of l)) (g.JoinedFrom m l d a) (Reading.joined_from m l o a)
  from_exact m l a =
      exact_wider (sub_either (sub_table (operators l) (operators_above l)) (sub_above (rank_of l) (rank_under l) (under_rank l)))
      (sub_refl (above (rank_of l))) (narrow_from m l a)

  only_cases : (m : Mode) (l : Level) (a : Part) (b : Bool) → repeats l ≡ b
      → Exact L (above (rank_under l)) (above (rank_of l)) (g.JoinedOnly m l d a)
      (if b then Reading.joined_from m l o a else give a)
  only_cases m l a true h = exact_as (λ us b vs p. g.more h p) (λ us b vs p. only_more m l a us b vs h p) (from_exact m l a)
  only_cases m l a false h =
      exact_wider (sub_above (rank_of l) (rank_under l) (under_rank l)) (sub_refl (above (rank_of l)))
      (exact_as (λ us b vs i. by_is (g.JoinedOnly m l d a) i (g.last h)) (λ us b vs p. only_last m l a us b vs h p)
      (exact_give a))

  pub only_exact : (m : Mode) (l : Level) (a : Part)
      → Exact L (above (rank_under l)) (above (rank_of l)) (g.JoinedOnly m l d a) (Reading.joined_only m l o a)
  unfolding Reading.joined_only
  only_exact m l a = only_cases m l a (repeats l) refl

  -- one level more
  next_level : {m : Mode} {n l : Level} {p : Parser Part} → tighter l ≡ Some n → Sub (above (rank_under l)) (above (rank_of n))
      → Exact L starts (above (rank_of n)) (g.IsJoined m n d) p
      → Exact L starts (above (rank_of l)) (g.IsJoined m l d) (p >>= Reading.joined_from m l o)
  next_level {m = m} {n = n} {l = l} h c P =
      exact_as (λ us b vs. level_up h us b vs) (λ us b vs. level_down h us b vs) (exact_bind c P (from_exact m l))

  pub product_exact : (m : Mode) → Exact L starts (above 3) (g.IsJoined m level.Product d) (Reading.product m o)
  unfolding Reading.product
  product_exact m =
      exact_as (λ us b vs. product_up us b vs) (λ us b vs. product_down us b vs)
      (exact_bind (sub_refl (above 2)) (unary_exact m) (from_exact m level.Product))

  pub sum_exact : (m : Mode) → Exact L starts (above 4) (g.IsJoined m level.Sum d) (Reading.sum m o)
  unfolding Reading.sum
  sum_exact m = next_level refl (sub_refl (above 3)) (product_exact m)

  pub comparison_exact : (m : Mode) → Exact L starts (above 5) (g.IsJoined m level.Comparison d) (Reading.comparison m o)
  unfolding Reading.comparison
  comparison_exact m = next_level refl (sub_refl (above 4)) (sum_exact m)

  pub equality_exact : (m : Mode) → Exact L starts (above 6) (g.IsJoined m level.Equality d) (Reading.equality m o)
  unfolding Reading.equality
  equality_exact m = next_level refl (sub_refl (above 5)) (comparison_exact m)

  pub conjunction_exact : (m : Mode) → Exact L starts (above 7) (g.IsJoined m level.Conjunction d) (Reading.conjunction m o)
  unfolding Reading.conjunction
  conjunction_exact m = next_level refl (sub_refl (above 6)) (equality_exact m)

  pub expr_exact : (m : Mode) → Exact L starts (above 8) (g.IsExpr m d) (Reading.expr m o)
  unfolding Reading.expr
  expr_exact m = next_level refl (sub_refl (above 7)) (conjunction_exact m)

  as_operand : {m : Mode} {n l : Level} {p : Parser Part} {stop : Nexts} → tighter l ≡ Some n
      → Exact L starts stop (g.IsJoined m n d) p → Exact L starts stop (g.IsOperand m l d) p
  as_operand h P = exact_as (λ us b vs p. g.level h p) (λ us b vs p. operand_down h us b vs p) P

  pub operand_exact : (m : Mode) (l : Level) → Exact L starts (above (rank_under l)) (g.IsOperand m l d) (Reading.operand m l o)
  unfolding Reading.operand
  operand_exact m level.Product = exact_as (λ us b vs p. g.unary refl p) (λ us b vs p. unary_down us b vs p) (unary_exact m)
  operand_exact m level.Sum = as_operand refl (product_exact m)
  operand_exact m level.Comparison = as_operand refl (sum_exact m)
  operand_exact m level.Equality = as_operand refl (comparison_exact m)
  operand_exact m level.Conjunction = as_operand refl (equality_exact m)
  operand_exact m level.Disjunction = as_operand refl (conjunction_exact m)
  operand_exact m level.Separation = as_operand refl (conjunction_exact m)

  -- formulas

  abbrev LevelRest : Part → Rule Part
  LevelRest a =
      Or (AtEntry (operator_of level.Disjunction) (suc d) (λ x s. Operated Logic level.Disjunction a x))
      (g.JoinedFrom Logic level.Separation d a)

  level_from_exact : (a : Part) → Exact L (above 7) (above 8) (LevelRest a) (Reading.level_from o a)
  unfolding Reading.level_from Reading.joined_or
  level_from_exact a =
      exact_wider (sub_either (sub_table (operators level.Disjunction) (refl, tt))
      (sub_either (sub_table (operators level.Separation) (refl, tt)) (sub_above 8 7 (omega arith)))) (sub_refl (above 8))
      (exact_entry (operators level.Disjunction) (λ x s. operated_opening Logic level.Disjunction a x) (refl, tt)
      (narrow_from Logic level.Separation a))

  to_level : (us : Marked) (b : Part) (vs : Marked) → Then (g.IsJoined Logic level.Conjunction d) LevelRest us b vs
      → g.IsLevel d us b vs
  to_level us b vs (seq p (inl (at_entry h (seq q r)))) = g.disjunction (g.parts (g.level refl p) (g.one_more h q r))
  to_level us b vs (seq p (inr q)) = g.separation (g.parts (g.level refl p) q)

  from_level : (us : Marked) (b : Part) (vs : Marked) → g.IsLevel d us b vs
      → Then (g.IsJoined Logic level.Conjunction d) LevelRest us b vs
  from_level us b vs (g.disjunction (g.parts {us = ws} {a = a} p g.no_more)) = seq (operand_down refl us a ws p) (inr g.no_more)
  from_level us b vs (g.disjunction (g.parts {us = ws} {a = a} p (g.one_more h q r))) =
      seq (operand_down refl us a ws p) (inl (at_entry h (seq q r)))
  from_level us b vs (g.separation (g.parts {us = ws} {a = a} p q)) = seq (operand_down refl us a ws p) (inr q)

  to_implies : (a : Part) (us : Marked) (b : Part) (vs : Marked)
      → Or (AtFixed IMPLIES (suc d) (λ s. Then (g.IsFormula (suc d)) (λ b. Is (joined op.Implies a b)))) (Is a) us b vs
      → g.ImpliesFrom d a us b vs
  to_implies a us b vs (inl (at_fixed (seq p i))) = by_is (g.ImpliesFrom d a) i (g.implies p)
  to_implies a us b vs (inr is) = g.no_implies

  from_implies : (a : Part) (us : Marked) (b : Part) (vs : Marked) → g.ImpliesFrom d a us b vs
      → Or (AtFixed IMPLIES (suc d) (λ s. Then (g.IsFormula (suc d)) (λ b. Is (joined op.Implies a b)))) (Is a) us b vs
  from_implies a us b vs (g.implies p) = inl (at_fixed (seq p is))
  from_implies a us b vs g.no_implies = inr is

  implies_exact : (a : Part) → Exact L (above 8) (above 9) (g.ImpliesFrom d a) (Reading.implies_from o a)
  unfolding Reading.implies_from
  implies_exact a =
      exact_wider (sub_either (sub_fixed IMPLIES refl) (sub_above 9 8 (omega arith))) (sub_refl (above 9))
      (exact_as (to_implies a) (from_implies a)
      (exact_fixed IMPLIES (λ s. opening_opened D (makes_then (formula_makes (suc d)) (λ b. makes_is (joined op.Implies a b)))
      (λ p le K. exact_bind (sub_refl (above 9)) K.formula (λ b. exact_give (joined op.Implies a b)))) refl (exact_give a)))

  to_formula : (us : Marked) (b : Part) (vs : Marked) → Then (g.IsLevel d) (g.ImpliesFrom d) us b vs → g.IsFormula d us b vs
  to_formula us b vs (seq p q) = g.formula p q

  from_formula : (us : Marked) (b : Part) (vs : Marked) → g.IsFormula d us b vs → Then (g.IsLevel d) (g.ImpliesFrom d) us b vs
  from_formula us b vs (g.formula p q) = seq p q

  pub formula_exact : Exact L starts (above 9) (g.IsFormula d) (Reading.formula o)
  unfolding Reading.formula
  formula_exact = exact_as to_formula from_formula (exact_bind (sub_refl (above 8))
      (exact_as to_level from_level (exact_bind (sub_refl (above 7)) (conjunction_exact Logic) level_from_exact)) implies_exact)

-- What follows a unary expression, up to the end of the expression.

abbrev pub JoinedRest : Mode → ℕ → (Part → Rule Part) → Level → Part → Rule Part
JoinedRest m d X l a = Then (X a) (g.JoinedFrom m l d)

abbrev pub RestRule : Mode → ℕ → Part → Rule Part
RestRule m d =
    JoinedRest m d (JoinedRest m d (JoinedRest m d
    (JoinedRest m d (JoinedRest m d (g.JoinedFrom m level.Product d) level.Sum) level.Comparison) level.Equality)
    level.Conjunction) level.Disjunction

module _ (m : Mode) (d : ℕ) where
  pub to_expr : (us ws vs : Marked) (a b : Part) → g.IsUnary m d us a ws → RestRule m d a ws b vs → g.IsExpr m d us b vs
  to_expr us ws vs a b u (seq (seq (seq (seq (seq p q) r) s) t) v) =
      g.parts (g.level refl (g.parts (g.level refl
      (g.parts (g.level refl (g.parts (g.level refl (g.parts (g.level refl (g.parts (g.unary refl u) p)) q)) r)) s)) t)) v

  attach : (X : Part → Rule Part) (l : Level) (us ws vs : Marked) (a b : Part) → Then (g.IsUnary m d) X us a ws
      → g.JoinedFrom m l d a ws b vs → Then (g.IsUnary m d) (JoinedRest m d X l) us b vs
  attach X l us ws vs a b (seq u x) q = seq u (seq x q)

  rest_step : (X : Part → Rule Part) {n l : Level} → tighter l ≡ Some n
      → ((us : Marked) (a : Part) (vs : Marked) → g.IsJoined m n d us a vs → Then (g.IsUnary m d) X us a vs)
      → (us : Marked) (b : Part) (vs : Marked) → g.IsJoined m l d us b vs → Then (g.IsUnary m d) (JoinedRest m d X l) us b vs
  rest_step X {l = l} h f us b vs (g.parts {us = ws} {a = a} p q) =
      attach X l us ws vs a b (f us a ws (operand_down h us a ws p)) q

  pub from_expr : (us : Marked) (b : Part) (vs : Marked) → g.IsExpr m d us b vs → Then (g.IsUnary m d) (RestRule m d) us b vs
  from_expr us b vs p =
      rest_step _ refl (rest_step _ refl (rest_step _ refl
      (rest_step _ refl (rest_step _ refl (λ us b vs. product_down us b vs))))) us b vs p

-- An expression that begins neither with a name nor with `this`.

abbrev pub OtherUnary : Mode → ℕ → Rule Part
OtherUnary m d =
    Or (AtFixed BANG (suc d) (λ s. Then (g.IsUnary m (suc d)) (λ a. Is (negated s a))))
    (Or (AtFixed MINUS (suc d) (λ s. Then (g.IsUnary m (suc d)) (λ a. Is (signed s a)))) (OtherPost m d))

abbrev pub other_unary : Mode → Option Readers → Parser Part
other_unary m o =
    fixed BANG (λ s. opened o (λ p. p.unary m >>= λ a. give (negated s a)))
    (fixed MINUS (λ s. opened o (λ p. p.unary m >>= λ a. give (signed s a)))
    (Reading.atom m o >>= Reading.ended m o))

abbrev pub other_expr : Mode → Option Readers → Parser Part
other_expr m o = other_unary m o >>= Reading.rest_of_expr m o

module _ (L d : ℕ) (o : Option Readers) (le : d ≤ L) (D : Knows L d o) (m : Mode) where
  pub rest_exact : (a : Part) → Exact L (above 2) (above 8) (RestRule m d a) (Reading.rest_of_expr m o a)
  unfolding Reading.rest_of_expr
  rest_exact a =
      exact_bind (sub_refl (above 7)) (exact_bind (sub_refl (above 6))
      (exact_bind (sub_refl (above 5)) (exact_bind (sub_refl (above 4)) (exact_bind (sub_refl (above 3))
      (from_exact L d o le D m level.Product a) (from_exact L d o le D m level.Sum)) (from_exact L d o le D m level.Comparison))
      (from_exact L d o le D m level.Equality)) (from_exact L d o le D m level.Conjunction))
      (from_exact L d o le D m level.Disjunction)

  pub other_expr_exact : Exact L (either (knows (is_fixed BANG)) (either (knows (is_fixed MINUS)) starts_other)) (above 8)
      (Then (OtherUnary m d) (RestRule m d)) (other_expr m o)
  other_expr_exact = exact_bind (sub_refl (above 2))
      (exact_fixed BANG (λ s. sign_opening L d o le D m (negated s)) refl
      (exact_fixed MINUS (λ s. sign_opening L d o le D m (signed s)) refl (other_post_exact L d o le D m))) rest_exact

-- Where neither stands here, that is how expressions are read.

module _ (m : Mode) (o : Option Readers) where
  other_post_is : (ts : Tokens) → sight name_of ts ≡ None → sight (is_fixed THIS) ts ≡ None
      → Reading.post m o ts ≡ (Reading.atom m o >>= Reading.ended m o) ts
  unfolding Reading.post
  other_post_is ts h g =
      pick_none name_of (λ n s. Reading.walk m o (Named None (record { name = n; span = s })))
      (fixed THIS (λ s. Reading.walk m o (Other (node s e.This))) (Reading.atom m o >>= Reading.ended m o)) ts h
      ∙ pick_none (is_fixed THIS) (λ t s. Reading.walk m o (Other (node s e.This))) (Reading.atom m o >>= Reading.ended m o) ts g

  other_unary_is : (ts : Tokens) → sight name_of ts ≡ None → sight (is_fixed THIS) ts ≡ None
      → Reading.unary m o ts ≡ other_unary m o ts
  unfolding Reading.unary
  other_unary_is ts h g =
      pick_else (is_fixed BANG) (λ t s. opened o (λ p. p.unary m >>= λ a. give (negated s a)))
      (fixed MINUS (λ s. opened o (λ p. p.unary m >>= λ a. give (signed s a))) (Reading.post m o))
      (fixed MINUS (λ s. opened o (λ p. p.unary m >>= λ a. give (signed s a))) (Reading.atom m o >>= Reading.ended m o)) ts (λ n.
      pick_else (is_fixed MINUS) (λ t s. opened o (λ p. p.unary m >>= λ a. give (signed s a))) (Reading.post m o)
      (Reading.atom m o >>= Reading.ended m o) ts (λ n. other_post_is ts h g))

  rest_is : (x : Read Part)
      → onward (Reading.rest_of_expr m o) x ≡ onward (Reading.joined_from m level.Disjunction o)
      (onward (Reading.joined_from m level.Conjunction o) (onward (Reading.joined_from m level.Equality o)
      (onward (Reading.joined_from m level.Comparison o)
      (onward (Reading.joined_from m level.Sum o) (onward (Reading.joined_from m level.Product o) x)))))
  unfolding Reading.rest_of_expr
  rest_is (Good a us) = refl
  rest_is (Bad j) = refl
  rest_is (Deep j) = refl

  pub other_expr_is : (ts : Tokens) → sight name_of ts ≡ None → sight (is_fixed THIS) ts ≡ None
      → Reading.expr m o ts ≡ other_expr m o ts
  unfolding Reading.expr Reading.conjunction Reading.equality Reading.comparison Reading.sum Reading.product
  other_expr_is ts h g =
      ap (λ x. onward (Reading.joined_from m level.Disjunction o)
      (onward (Reading.joined_from m level.Conjunction o) (onward (Reading.joined_from m level.Equality o)
      (onward (Reading.joined_from m level.Comparison o)
      (onward (Reading.joined_from m level.Sum o) (onward (Reading.joined_from m level.Product o) x))))))
      (other_unary_is ts h g)
      ∙ sym (rest_is (other_unary m o ts))

-- All readers, at each depth.

module _ (L d : ℕ) (le : d ≤ L) where
  inside_exact : (o : Option Readers) → Knows L d o → (m : Mode)
      → Deeper L (suc d) (λ (q : Parser Part). Exact L starts (above 8) (g.IsExpr m (suc d)) q) (Reading.inside_of m o)
  inside_exact o (none_deeper lt) m = none_deeper lt
  inside_exact o (one_deeper lt K) m = one_deeper lt (K.expr m)

  known_readers : (o : Option Readers) → Knows L d o → Known L d (Reading.readers o)
  known_readers o D = record {
    expr = expr_exact L d o le D;
    inside = inside_exact o D;
    operand = operand_exact L d o le D;
    only = only_exact L d o le D;
    unary = unary_exact L d o le D;
    post = post_exact L d o le D;
    steps = steps_exact L d o le D;
    formula = formula_exact L d o le D;
  }

pub readers_known : (n L d : ℕ) → L ≡ d + n → Knows L d (Reading.deeper n)
unfolding Reading.deeper
readers_known zero L d e = none_deeper (omega arith)
readers_known (suc n) L d e =
    let le : suc d ≤ L = omega arith in
    one_deeper le (known_readers L (suc d) le (Reading.deeper n) (readers_known n L (suc d) (omega arith)))
