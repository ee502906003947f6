-- The rules of what the readers read, beside those of the grammar, and how the one are made of the other.
use Rattle.std.proofs.Common.{ℕ, suc, ◌≤◌, inl, inr, List, [], ◌∷◌, Option, Some, None, Bool, true, false, refl, arith}
use Rattle.pv_base.specs.declared.Span.{Span}
use Rattle.pv_tokens.specs.declared.fixed.TheConstants.{NULL, THIS, TRUE, FALSE, PERM, WRITE, INT, RESULT, OLD, DOTS, OPEN_PAREN, CLOSE_PAREN, CLOSE_BRACKET, SEMICOLON, COMMA, ASSIGN, LESS, AT_MOST, AND_AND, BACKSLASH}
use Rattle.pv_ast.specs.declared.Word.{Word}
use Rattle.pv_ast.specs.declared.Expr.{Expr}
use Rattle.pv_ast.specs.declared.ExprKind.TheVariants as e
use Rattle.pv_reading.specs.Marks.{Marked, fixed_at, word_at, across}
use Rattle.pv_reading.specs.Spelled.{Rule}
use Rattle.pv_reading.specs.Reading.{Parser, is_fixed, number_of}
use Rattle.pv_reading.proofs.Nexts.{anything, knows, either, sub_refl, sub_fixed}
use Rattle.pv_reading.proofs.Exact.{Begins, Exact, Is, is, by_is, Then, seq, Or, AtFixed, at_fixed, AtName, at_name, AtNumber, at_number, AtEntry, at_entry, exact_as, exact_give, exact_bind}
use Rattle.pv_reading.proofs.Sights.{exact_fixed, exact_entry, exact_expect, exact_expect_name, exact_expect_number, deep_enough, Deeper, makes_is, makes_then, makes_fixed, makes_name}
use Rattle.pv_reading.proofs.Loops.{Series, series_end, series_more, exact_series}
use Rattle.pv_exprs.specs.declared.level.Mode.{Mode}
use Rattle.pv_exprs.specs.declared.level.Mode.TheVariants.{Program, Logic}
use Rattle.pv_exprs.specs.declared.level.Level.{Level}
use Rattle.pv_exprs.specs.declared.level.Level.TheVariants as level
use Rattle.pv_exprs.specs.declared.part.Part.{Part}
use Rattle.pv_exprs.specs.declared.part.Chain.{Chain}
use Rattle.pv_exprs.specs.declared.part.Chain.TheVariants.{Named, Other}
use Rattle.pv_exprs.specs.declared.part.Amount.{Amount}
use Rattle.pv_exprs.specs.declared.part.Bounds.{Bounds}
use Rattle.pv_exprs.specs.Operators.{token_of, forall_words, forall_of}
use Rattle.pv_exprs.specs.Trees.{node, widened, element_of, part_of, instance_of, old_of, perm_of, token_part, each_of}
use Rattle.pv_exprs.specs.Grammar as g
use Rattle.pv_exprs.specs.Reading
use Rattle.pv_exprs.specs.Reading.{Readers}
use Rattle.pv_exprs.proofs.Ranks.{above, sub_above, starts, starts_post, rank_of, rank_under}
use Rattle.pv_exprs.proofs.Makes.{expr_makes, formula_makes}

-- what is known of the readers at depth d
pub record Known (L d : ℕ) (r : Readers) : Type 0 where
  pub expr : (m : Mode) → Exact L starts (above 8) (g.IsExpr m d) (r.expr m)
  pub inside : (m : Mode) → Deeper L (suc d) (λ (q : Parser Part). Exact L starts (above 8) (g.IsExpr m (suc d)) q) (r.inside m)
  pub operand : (m : Mode) (l : Level) → Exact L starts (above (rank_under l)) (g.IsOperand m l d) (r.operand m l)
  pub only : (m : Mode) (l : Level) (a : Part)
      → Exact L (above (rank_under l)) (above (rank_of l)) (g.JoinedOnly m l d a) (r.joined_only m l a)
  pub unary : (m : Mode) → Exact L starts (above 2) (g.IsUnary m d) (r.unary m)
  pub post : (m : Mode) → Exact L starts_post (above 2) (g.IsPost m d) (r.post m)
  pub steps : (m : Mode) (a : Chain) → Exact L anything (above 1) (g.StepsFrom m d a) (r.steps m a)
  pub formula : Exact L starts (above 9) (g.IsFormula d) r.formula

-- what is known one deeper
abbrev pub Knows : ℕ → ℕ → Option Readers → Type 0
Knows L d o = Deeper L (suc d) (Known L (suc d)) o

-- Arguments at depth d, behind the bracket that opens them.

abbrev pub ArgsRest : Mode → ℕ → Rule (List Expr × Span)
ArgsRest m d = Or (AtFixed CLOSE_PAREN d (λ l. Is {A = List Expr × Span} ([], l))) (λ us z vs. g.IsExprs m d us z.0 z.1 vs)

abbrev pub OneArg : Mode → ℕ → Rule Expr
OneArg m d = Then (g.IsExpr m d) (λ a. Is a.tree)

module _ {m : Mode} {d : ℕ} where
  to_exprs : (us : Marked) (z : List Expr × Span) (vs : Marked) → Series COMMA CLOSE_PAREN d (OneArg m d) us z vs
      → g.IsExprs m d us z.0 z.1 vs
  to_exprs us z vs (series_end (seq p is)) = g.last_arg p
  to_exprs us z vs (series_more {vs = ws} {xs = xs} {l = l} (seq p is) t) = g.next_arg p (to_exprs ws (xs, l) vs t)

  from_exprs : (us : Marked) (xs : List Expr) (l : Span) (vs : Marked) → g.IsExprs m d us xs l vs
      → Series COMMA CLOSE_PAREN d (OneArg m d) us (xs, l) vs
  from_exprs us xs l vs (g.last_arg p) = series_end (seq p is)
  from_exprs us xs l vs (g.next_arg {vs = ws} {xs = ys} p t) = series_more (seq p is) (from_exprs ws ys l vs t)

  pub to_args : {s : Span} (us : Marked) (z : List Expr × Span) (vs : Marked) → ArgsRest m (suc d) us z vs
      → g.IsArgs m d ((fixed_at OPEN_PAREN s, suc d) ∷ us) z.0 z.1 vs
  to_args us z vs (inl (at_fixed is)) = g.no_args
  to_args us z vs (inr p) = g.args p

  pub from_args : (us : Marked) (xs : List Expr) (l : Span) (vs : Marked) → g.IsArgs m d us xs l vs
      → AtFixed OPEN_PAREN (suc d) (λ s. ArgsRest m (suc d)) us (xs, l) vs
  from_args us xs l vs g.no_args = at_fixed (inl (at_fixed is))
  from_args us xs l vs (g.args p) = at_fixed (inr p)

pub args_exact : {L d : ℕ} {m : Mode} {p : Parser Part} → d ≤ L → Exact L starts (above 8) (g.IsExpr m d) p
    → Exact L (either (knows (is_fixed CLOSE_PAREN)) starts) anything (ArgsRest m d) (Reading.args p)
unfolding Reading.args
args_exact {m = m} le P =
    exact_as (λ us z vs. elim [ inl i ↦ inl i | inr t ↦ inr (to_exprs us z vs t) ])
    (λ us z vs. elim [ inl i ↦ inl i | inr t ↦ inr (from_exprs us z.0 z.1 vs t) ])
    (exact_fixed CLOSE_PAREN (λ l. deep_enough le (exact_give ([], l))) refl
    (exact_series COMMA CLOSE_PAREN le (exact_bind (sub_refl (above 8)) P (λ a. exact_give a.tree)) refl refl refl))

pub args_makes : (m : Mode) (d : ℕ) → Begins (ArgsRest m d) []
args_makes m d =
    let w : Span = record { from = 0; to = 0 } in ((fixed_at CLOSE_PAREN w, d) ∷ [], ([], w), λ rest. inl (at_fixed is))

-- the rules of what the readers read beside those of the grammar

abbrev pub FieldRule : Mode → ℕ → Chain → Rule Chain
FieldRule m d a = AtName (suc d) (λ w. g.StepsFrom m (suc d) (Named (Some (part_of a)) w))

abbrev pub ElementRule : Mode → ℕ → Chain → Rule Chain
ElementRule m d a =
    Then (g.IsExpr m (suc (suc d))) (λ i. AtFixed CLOSE_BRACKET (suc (suc d))
    (λ t. g.StepsFrom m (suc d) (Other (element_of (part_of a) i t))))

abbrev pub EndedRule : Mode → ℕ → Chain → Rule Part
EndedRule m d a = Then (g.StepsFrom m d a) (λ b. Is (part_of b))

abbrev pub ArgsEnded : ℕ → Option Part → Word → Rule Part
ArgsEnded d a w = Then (ArgsRest Logic (suc d)) (λ x. EndedRule Logic d (Other (instance_of a w x.0 x.1)))

abbrev pub InstanceRule : ℕ → Chain → Rule Part
InstanceRule d (Named a w) = Or (AtFixed OPEN_PAREN (suc d) (λ s. ArgsEnded d a w)) (Is (part_of (Named a w)))
InstanceRule d (Other a) = Is a

abbrev pub WalkRule : Mode → ℕ → Chain → Rule Part
WalkRule Program d a = EndedRule Program d a
WalkRule Logic d a = Then (g.StepsFrom Logic d a) (InstanceRule d)

abbrev pub GroupRule : ℕ → Rule Chain
GroupRule d =
    AtFixed OPEN_PAREN (suc d) (λ s. Then (g.IsExpr Program (suc d))
    (λ a. AtFixed CLOSE_PAREN (suc d) (λ t. Is (Other (widened s t a)))))

abbrev pub ConstantOr : ℕ → Rule Chain → Rule Chain
ConstantOr d R =
    Or (AtNumber d (λ n s. Is (Other (node s (e.Number n))))) (Or (AtFixed TRUE d (λ s. Is (Other (node s (e.Truth true)))))
    (Or (AtFixed FALSE d (λ s. Is (Other (node s (e.Truth false))))) (Or (AtFixed NULL d (λ s. Is (Other (node s e.Null)))) R)))

abbrev pub AmountRule : ℕ → Rule Amount
AmountRule d = Or (AtFixed WRITE d (λ s. Is (record { parts = 1; whole = 1; span = s })))
    (AtNumber d (λ n s. AtFixed BACKSLASH d (λ q. AtNumber d (λ m t. Is (record { parts = n; whole = m; span = across s t })))))

abbrev pub PermRule : ℕ → Span → Rule Chain
PermRule d s =
    Then (g.IsPost Logic (suc d)) (λ a. AtFixed COMMA (suc d)
    (λ c. Then (g.IsAmount (suc d)) (λ x. AtFixed CLOSE_PAREN (suc d) (λ t. Is (Other (perm_of s a x t))))))

abbrev pub RangeRule : ℕ → Rule Bounds
RangeRule d =
    Then (g.IsExpr Logic d) (λ a. AtFixed DOTS d
    (λ t. Then (g.IsExpr Logic d) (λ b. Is (record { low = a; high = b; written = None }))))

abbrev pub WrittenRule : ℕ → Rule Bounds
WrittenRule d =
    Then (g.IsOperand Logic level.Comparison d) (λ a.
    AtFixed AT_MOST d (λ q. AtName d (λ v. AtFixed AND_AND d (λ r. AtName d (λ w. AtFixed LESS d (λ t.
    Then (g.IsOperand Logic level.Comparison d) (λ b. Is (record { low = a; high = b; written = Some (v, w) }))))))))

abbrev pub EachRule : ℕ → Bool → Span → Rule Chain
EachRule d star s =
    AtFixed INT d (λ i. AtName d (λ w. Then (g.HasBounds d)
    (λ b. AtFixed SEMICOLON d (λ c. Then (g.IsFormula d)
    (λ a. AtFixed CLOSE_PAREN d (λ t. Is (Other (each_of star s w b a t))))))))

abbrev pub ClosedFormula : ℕ → Span → Rule Chain
ClosedFormula d s = Then (g.IsFormula d) (λ a. AtFixed CLOSE_PAREN d (λ t. Is (Other (widened s t a))))

abbrev pub ClosedRule : ℕ → (Part → Span → Chain) → Rule Chain
ClosedRule d f = Then (g.IsExpr Logic d) (λ a. AtFixed CLOSE_PAREN d (λ t. Is (f a t)))

abbrev pub FormulaGroup : ℕ → Span → Rule Chain
FormulaGroup d s = Or (AtEntry forall_of d (λ star t. EachRule d star s)) (ClosedFormula d s)

abbrev pub LogicRule : ℕ → Rule Chain
LogicRule d = Or (AtFixed RESULT d (λ s. Is (Other (node s e.Result))))
    (Or (AtFixed OLD d (λ s. AtFixed OPEN_PAREN (suc d) (λ q. ClosedRule (suc d) (λ a t. Other (old_of s a t)))))
    (Or (AtFixed PERM d (λ s. AtFixed OPEN_PAREN (suc d) (λ q. PermRule d s)))
    (Or (AtEntry token_of d (λ y s. AtFixed OPEN_PAREN (suc d) (λ q. ClosedRule (suc d) (λ a t. Other (token_part y s a t)))))
    (AtFixed OPEN_PAREN (suc d) (λ s. FormulaGroup (suc d) s)))))

abbrev pub AtomRule : Mode → ℕ → Rule Chain
AtomRule Program d = ConstantOr d (GroupRule d)
AtomRule Logic d = ConstantOr d (LogicRule d)

abbrev pub OtherPost : Mode → ℕ → Rule Part
OtherPost m d = Then (AtomRule m d) (λ a. EndedRule m d a)

abbrev pub PostRule : Mode → ℕ → Rule Part
PostRule m d =
    Or (AtName d (λ w. WalkRule m d (Named None w)))
    (Or (AtFixed THIS d (λ s. WalkRule m d (Other (node s e.This)))) (OtherPost m d))

-- Amounts and bounds.

module _ (d : ℕ) where
  to_amount : (us : Marked) (x : Amount) (vs : Marked) → AmountRule d us x vs → g.IsAmount d us x vs
  to_amount us x vs (inl (at_fixed is)) = g.write
  to_amount us x vs (inr (at_number (at_fixed (at_number is)))) = g.parts

  from_amount : (us : Marked) (x : Amount) (vs : Marked) → g.IsAmount d us x vs → AmountRule d us x vs
  from_amount us x vs g.write = inl (at_fixed is)
  from_amount us x vs g.parts = inr (at_number (at_fixed (at_number is)))

  pub amount_exact : {L : ℕ} → d ≤ L
      → Exact L (either (knows (is_fixed WRITE)) (knows number_of)) anything (g.IsAmount d) Reading.amount
  unfolding Reading.amount
  amount_exact le = exact_as to_amount from_amount
      (exact_fixed WRITE (λ s. deep_enough le (exact_give _)) refl
      (exact_expect_number (λ n s. deep_enough le
      (exact_expect BACKSLASH (λ q. deep_enough le (exact_expect_number (λ m t. deep_enough le (exact_give _))))))))

  to_bounds : (us : Marked) (b : Bounds) (vs : Marked)
      → Or (AtFixed ASSIGN d (λ s. RangeRule d)) (AtFixed SEMICOLON d (λ s. WrittenRule d)) us b vs → g.HasBounds d us b vs
  to_bounds us b vs (inl (at_fixed (seq p (at_fixed (seq q is))))) = g.range p q
  to_bounds us b vs (inr (at_fixed (seq p (at_fixed (at_name (at_fixed (at_name (at_fixed (seq q is))))))))) = g.written p q

  from_bounds : (us : Marked) (b : Bounds) (vs : Marked) → g.HasBounds d us b vs
      → Or (AtFixed ASSIGN d (λ s. RangeRule d)) (AtFixed SEMICOLON d (λ s. WrittenRule d)) us b vs
  from_bounds us b vs (g.range p q) = inl (at_fixed (seq p (at_fixed (seq q is))))
  from_bounds us b vs (g.written p q) = inr (at_fixed (seq p (at_fixed (at_name (at_fixed (at_name (at_fixed (seq q is))))))))

  bounds_makes : Begins (g.HasBounds d) []
  bounds_makes =
      let x =
      makes_fixed ASSIGN d (λ s. makes_then (expr_makes d Logic)
      (λ a. makes_fixed DOTS d (λ t. makes_then (expr_makes d Logic)
      (λ b. makes_is (record { low = a; high = b; written = None }))))) in
      (x.0, x.1, λ rest. to_bounds _ _ _ (inl (x.2 rest)))

  each_makes : (star : Bool) (s : Span) → Begins (EachRule d star s) []
  each_makes star s =
      makes_fixed INT d (λ i. makes_name d (λ w. makes_then bounds_makes
      (λ b. makes_fixed SEMICOLON d (λ c. makes_then (formula_makes d) (λ a. makes_fixed CLOSE_PAREN d (λ t. makes_is _))))))

  closed_formula_makes : (s : Span) → Begins (ClosedFormula d s) []
  closed_formula_makes s = makes_then (formula_makes d) (λ a. makes_fixed CLOSE_PAREN d (λ t. makes_is _))

  pub formula_group_makes : (s : Span) → Begins (FormulaGroup d s) []
  formula_group_makes s = let x = closed_formula_makes s in (x.0, x.1, λ rest. inr (x.2 rest))

module _ (L d : ℕ) (le : d ≤ L) (p : Readers) (K : Known L d p) where
  bounds_exact : Exact L (either (knows (is_fixed ASSIGN)) (knows (is_fixed SEMICOLON))) (above 8) (g.HasBounds d)
      (Reading.bounds p)
  unfolding Reading.bounds
  bounds_exact = exact_as (to_bounds d) (from_bounds d)
      (exact_fixed ASSIGN (λ s. deep_enough le (exact_bind (sub_fixed DOTS refl) (K.expr Logic)
      (λ a. exact_expect DOTS (λ t. deep_enough le (exact_bind (sub_refl (above 8)) (K.expr Logic) (λ b. exact_give _)))))) refl
      (exact_expect SEMICOLON (λ s. deep_enough le
      (exact_bind (sub_fixed AT_MOST refl) (K.operand Logic level.Comparison)
      (λ a. exact_expect AT_MOST (λ q. deep_enough le (exact_expect_name (λ v. deep_enough le
      (exact_expect AND_AND (λ r. deep_enough le (exact_expect_name
      (λ w. deep_enough le (exact_expect LESS (λ t.
      deep_enough le (exact_bind (sub_above 8 4 (omega arith)) (K.operand Logic level.Comparison)
      (λ b. exact_give _))))))))))))))))

  quantified_exact : (star : Bool) (s : Span)
      → Exact L (knows (is_fixed INT)) anything (EachRule d star s) (Reading.quantified star s p)
  unfolding Reading.quantified
  quantified_exact star s = exact_expect INT (λ i. deep_enough le (exact_expect_name (λ w. deep_enough le
      (exact_bind (sub_fixed SEMICOLON refl) bounds_exact
      (λ b. exact_expect SEMICOLON (λ c. deep_enough le
      (exact_bind (sub_fixed CLOSE_PAREN refl) K.formula
      (λ a. exact_expect CLOSE_PAREN (λ t. deep_enough le (exact_give _))))))))))

  pub formula_grouped_exact : (s : Span)
      → Exact L (either (knows forall_of) starts) anything (FormulaGroup d s) (Reading.formula_grouped s p)
  unfolding Reading.formula_grouped
  formula_grouped_exact s = exact_entry forall_words (λ star t. deep_enough le (quantified_exact star s)) (refl, (refl, tt))
      (exact_bind (sub_fixed CLOSE_PAREN refl) K.formula (λ a. exact_expect CLOSE_PAREN (λ t. deep_enough le (exact_give _))))

-- A name or `this` with what follows, as a postfix expression.

module _ (d : ℕ) where
  name_walk : (m : Mode) (w : Word) (us : Marked) (b : Part) (vs : Marked) → WalkRule m d (Named None w) us b vs
      → g.IsPost m d ((word_at w, d) ∷ us) b vs
  name_walk Program w us b vs (seq st is) = g.post g.name st
  name_walk Logic w us b vs (seq {a = Named a v} st (inl (at_fixed (seq {us = ys} {vs = zs} {a = z} args (seq st2 is))))) =
      g.post (g.instance (g.from_name st) (to_args ys z zs args)) st2
  name_walk Logic w us b vs (seq {a = Named a v} st (inr is)) = g.post g.name st
  name_walk Logic w us b vs (seq {a = Other a} st is) = g.post g.name st

  this_walk : (m : Mode) (s : Span) (us : Marked) (b : Part) (vs : Marked) → WalkRule m d (Other (node s e.This)) us b vs
      → g.IsPost m d ((fixed_at THIS s, d) ∷ us) b vs
  this_walk Program s us b vs (seq st is) = g.post g.this_word st
  this_walk Logic s us b vs (seq {a = Named a v} st (inl (at_fixed (seq {us = ys} {vs = zs} {a = z} args (seq st2 is))))) =
      g.post (g.instance (g.from_this st) (to_args ys z zs args)) st2
  this_walk Logic s us b vs (seq {a = Named a v} st (inr is)) = g.post g.this_word st
  this_walk Logic s us b vs (seq {a = Other a} st is) = g.post g.this_word st

  to_group : (us : Marked) (a : Chain) (vs : Marked) → GroupRule d us a vs → g.IsAtom Program d us a vs
  to_group us a vs (at_fixed (seq p (at_fixed is))) = g.group p

  to_logic : (us : Marked) (a : Chain) (vs : Marked) → LogicRule d us a vs → g.IsAtom Logic d us a vs
  to_logic us a vs (inl (at_fixed is)) = g.result_word
  to_logic us a vs (inr (inl (at_fixed (at_fixed (seq p (at_fixed i)))))) = by_is (g.IsAtom Logic d) i (g.old p)
  to_logic us a vs (inr (inr (inl (at_fixed (at_fixed (seq p (at_fixed (seq q (at_fixed i))))))))) =
      by_is (g.IsAtom Logic d) i (g.perm p q)
  to_logic us a vs (inr (inr (inr (inl (at_entry h (at_fixed (seq p (at_fixed i)))))))) = by_is (g.IsAtom Logic d) i (g.token h p)
  to_logic us a vs (inr (inr (inr (inr (at_fixed
      (inl (at_entry h (at_fixed (at_name (seq p (at_fixed (seq q (at_fixed i))))))))))))) = by_is (g.IsAtom Logic d) i
      (g.each h p q)
  to_logic us a vs (inr (inr (inr (inr (at_fixed (inr (seq p (at_fixed i)))))))) = by_is (g.IsAtom Logic d) i (g.formula_group p)

  to_constant : (m : Mode) (R : Rule Chain) → ((us : Marked) (a : Chain) (vs : Marked) → R us a vs → g.IsAtom m d us a vs)
      → (us : Marked) (a : Chain) (vs : Marked) → ConstantOr d R us a vs → g.IsAtom m d us a vs
  to_constant m R f us a vs (inl (at_number is)) = g.number
  to_constant m R f us a vs (inr (inl (at_fixed is))) = g.true_word
  to_constant m R f us a vs (inr (inr (inl (at_fixed is)))) = g.false_word
  to_constant m R f us a vs (inr (inr (inr (inl (at_fixed is))))) = g.null_word
  to_constant m R f us a vs (inr (inr (inr (inr r)))) = f us a vs r

  pub to_atom : (m : Mode) (us : Marked) (a : Chain) (vs : Marked) → AtomRule m d us a vs → g.IsAtom m d us a vs
  to_atom Program us a vs r = to_constant Program (GroupRule d) to_group us a vs r
  to_atom Logic us a vs r = to_constant Logic (LogicRule d) to_logic us a vs r

  pub to_post : (m : Mode) (us : Marked) (b : Part) (vs : Marked) → PostRule m d us b vs → g.IsPost m d us b vs
  to_post m us b vs (inl (at_name {w = w} {us = ws} r)) = name_walk m w ws b vs r
  to_post m us b vs (inr (inl (at_fixed {s = s} {us = ws} r))) = this_walk m s ws b vs r
  to_post m us b vs (inr (inr (seq {vs = ws} {a = a} r (seq st is)))) = g.post (to_atom m us a ws r) st

  no_instance : (a : Chain) (us : Marked) → InstanceRule d a us (part_of a) us
  no_instance (Named a w) us = inr is
  no_instance (Other a) us = is

  from_walk : (m : Mode) (a b : Chain) (us vs : Marked) → g.StepsFrom m d a us b vs → WalkRule m d a us (part_of b) vs
  from_walk Program a b us vs st = seq st is
  from_walk Logic a b us vs st = seq st (no_instance b vs)

  with_args : (a : Chain) (r : Option Part) (w : Word) (us vs : Marked) (xs : List Expr) (l : Span) (ws ys : Marked) (c : Chain)
      → g.StepsFrom Logic d a us (Named r w) vs → g.IsArgs Logic d vs xs l ws
      → g.StepsFrom Logic d (Other (instance_of r w xs l)) ws c ys → WalkRule Logic d a us (part_of c) ys
  with_args a r w us vs xs l ws ys c st g.no_args st2 = seq st (inl (at_fixed (seq (inl (at_fixed is)) (seq st2 is))))
  with_args a r w us vs xs l ws ys c st (g.args p) st2 = seq st (inl (at_fixed (seq (inr p) (seq st2 is))))

  with_instance : (us : Marked) (r : Option Part) (w : Word) (vs : Marked) (xs : List Expr) (l : Span) (ws ys : Marked)
      (c : Chain)
      → g.IsTarget Logic d us r w vs → g.IsArgs Logic d vs xs l ws → g.StepsFrom Logic d (Other (instance_of r w xs l)) ws c ys
      → PostRule Logic d us (part_of c) ys
  with_instance us r w vs xs l ws ys c (g.from_name {v = v} {us = zs} st) args st2 =
      inl (at_name (with_args (Named None v) r w zs vs xs l ws ys c st args st2))
  with_instance us r w vs xs l ws ys c (g.from_this {s = s} {us = zs} st) args st2 =
      inr (inl (at_fixed (with_args (Other (node s e.This)) r w zs vs xs l ws ys c st args st2)))

  pub from_post : (m : Mode) (us : Marked) (b : Part) (vs : Marked) → g.IsPost m d us b vs → PostRule m d us b vs
  from_post m us b vs (g.post {us = ws} {b = c} (g.name {w = w}) st) = inl (at_name (from_walk m (Named None w) c ws vs st))
  from_post m us b vs (g.post {us = ws} {b = c} (g.this_word {s = s}) st) =
      inr (inl (at_fixed (from_walk m (Other (node s e.This)) c ws vs st)))
  from_post Program us b vs (g.post g.number st) = inr (inr (seq (inl (at_number is)) (seq st is)))
  from_post Program us b vs (g.post g.true_word st) = inr (inr (seq (inr (inl (at_fixed is))) (seq st is)))
  from_post Program us b vs (g.post g.false_word st) = inr (inr (seq (inr (inr (inl (at_fixed is)))) (seq st is)))
  from_post Program us b vs (g.post g.null_word st) = inr (inr (seq (inr (inr (inr (inl (at_fixed is))))) (seq st is)))
  from_post Program us b vs (g.post (g.group p) st) =
      inr (inr (seq (inr (inr (inr (inr (at_fixed (seq p (at_fixed is))))))) (seq st is)))
  from_post Logic us b vs (g.post g.number st) = inr (inr (seq (inl (at_number is)) (seq st is)))
  from_post Logic us b vs (g.post g.true_word st) = inr (inr (seq (inr (inl (at_fixed is))) (seq st is)))
  from_post Logic us b vs (g.post g.false_word st) = inr (inr (seq (inr (inr (inl (at_fixed is)))) (seq st is)))
  from_post Logic us b vs (g.post g.null_word st) = inr (inr (seq (inr (inr (inr (inl (at_fixed is))))) (seq st is)))
  from_post Logic us b vs (g.post g.result_word st) = inr (inr (seq (inr (inr (inr (inr (inl (at_fixed is)))))) (seq st is)))
  from_post Logic us b vs (g.post (g.old p) st) =
      inr (inr (seq (inr (inr (inr (inr (inr (inl (at_fixed (at_fixed (seq p (at_fixed is)))))))))) (seq st is)))
  from_post Logic us b vs (g.post (g.perm p q) st) =
      inr (inr (seq (inr (inr (inr (inr (inr (inr (inl (at_fixed (at_fixed (seq p (at_fixed (seq q (at_fixed is)))))))))))))
      (seq st is)))
  from_post Logic us b vs (g.post (g.token h p) st) =
      inr (inr (seq (inr (inr (inr (inr (inr (inr (inr (inl (at_entry h (at_fixed (seq p (at_fixed is)))))))))))) (seq st is)))
  from_post Logic us b vs (g.post (g.each h p q) st) =
      inr (inr (seq (inr (inr (inr (inr (inr (inr
      (inr (inr (at_fixed (inl (at_entry h (at_fixed (at_name (seq p (at_fixed (seq q (at_fixed is))))))))))))))))) (seq st is)))
  from_post Logic us b vs (g.post (g.formula_group p) st) =
      inr (inr (seq (inr (inr (inr (inr (inr (inr (inr (inr (at_fixed (inr (seq p (at_fixed is)))))))))))) (seq st is)))
  from_post Logic us b vs (g.post {us = ws} {b = c} (g.instance {r = l} {w = w} {vs = zs} {a = r} {xs = xs} t args) st) =
      with_instance us r w zs xs l ws vs c t args st
