-- The readers of statements are exact.
use Rattle.std.proofs.Common.{ℕ, suc, ◌≡◌, ◌+◌, ◌≤◌, inl, inr, List, [], ◌∷◌, Option, Some, None, Bool, refl, sym, ap, ◌∙◌, subst, arith}
use Rattle.pv_base.specs.declared.Span.{Span}
use Rattle.pv_tokens.specs.declared.LexemeKind.TheVariants as k
use Rattle.pv_tokens.specs.declared.fixed.TheConstants.{INT, BOOLEAN, BOOL, FORK, JOIN, LOCK, UNLOCK, COMMIT, FOLD, UNFOLD, LOOP_INVARIANT, IF, ELSE, WHILE, FOR, PAR, BARRIER, ASSERT, SEND, RECV, RETURN, THIS, OPEN_BRACE, CLOSE_BRACE, OPEN_PAREN, CLOSE_PAREN, OPEN_BRACKET, CLOSE_BRACKET, SEMICOLON, COLON, COMMA, ASSIGN, DOT}
use Rattle.pv_ast.specs.declared.Word.{Word}
use Rattle.pv_ast.specs.declared.TypeWord.{TypeWord}
use Rattle.pv_ast.specs.declared.Expr.{Expr}
use Rattle.pv_ast.specs.declared.ExprKind.TheVariants.{This}
use Rattle.pv_ast.specs.declared.Right.{Right}
use Rattle.pv_ast.specs.declared.Stmt.{Stmt}
use Rattle.pv_reading.specs.Marks.{Tokens, Marked, plain, begins_at, fixed_at, word_at}
use Rattle.pv_reading.specs.Spelled.{Rule}
use Rattle.pv_reading.specs.Reading.{Parser, onward, ◌>>=◌, refuse, opened, expect, expect_name, named, is_fixed, name_of, listed_in}
use Rattle.pv_reading.proofs.Nexts.{Nexts, Sub, anything, knows, either, sub_refl, sub_anything, sub_either, sub_fixed, sub_name, sub_table, sub_left, apart_fixed, known_fixed, fixed_is}
use Rattle.pv_reading.proofs.Exact.{Begins, Exact, Is, is, by_is, Then, seq, Or, AtFixed, at_fixed, AtName, at_name, AtNumber, at_number, AtEntry, at_entry, exact_as, exact_same, exact_wider, exact_give, exact_bind}
use Rattle.pv_reading.proofs.Sights.{at_kind, exact_fixed, exact_named, exact_entry, exact_expect, exact_expect_name, exact_expect_number, Opening, deep_enough, Deeper, opening_opened, makes_is, makes_then, makes_fixed, makes_name}
use Rattle.pv_reading.proofs.Loops.{Many, many_end, many_more, exact_many, Repeated, repeated_end, repeated_more, BehindAll, exact_repeated_behind}
use Rattle.pv_exprs.specs.declared.level.Mode.TheVariants.{Program as in_program}
use Rattle.pv_exprs.specs.declared.part.Part.{Part}
use Rattle.pv_exprs.specs.declared.part.Chain.{Chain}
use Rattle.pv_exprs.specs.declared.part.Chain.TheVariants.{Named, Other}
use Rattle.pv_exprs.specs.Trees.{node, part_of}
use Rattle.pv_exprs.specs.Grammar as x
use Rattle.pv_exprs.specs.Reading.{Readers, deeper, steps, steps_or}
use Rattle.pv_exprs.proofs.Ranks.{above, starts}
use Rattle.pv_exprs.proofs.Exactness.{steps_to, some_steps_exact, readers_known}
use Rattle.pv_exprs.proofs.Rules.{Knows, to_args}
use Rattle.pv_clauses.specs.Grammar.{IsClauses}
use Rattle.pv_clauses.proofs.Exactness.{clauses_exact, clauses_makes}
use Rattle.pv_parser.specs.declared.words.Base.{Base}
use Rattle.pv_parser.specs.declared.words.Action.{Action}
use Rattle.pv_parser.specs.Words.{base_words, base_of, action_words, action_of, folding_words, folding_of}
use Rattle.pv_parser.specs.Trees.{class_type, local_stmt, assign_stmt, call_stmt, if_stmt, while_stmt, for_stmt, par_stmt, barrier_stmt, action_stmt, folding_stmt, assert_stmt, send_stmt, recv_stmt, return_stmt}
use Rattle.pv_parser.specs.Grammar as g
use Rattle.pv_parser.specs.Reading
use Rattle.pv_parser.specs.Reading.{Blocks}
use Rattle.pv_tokens.specs.declared.Lexeme.{Lexeme}
use Rattle.pv_parser.proofs.Targets.{Target, TargetRule, target, target_exact, target_steps, target_some, named_end, onward_all, bind_bind, pick_all}
use Rattle.pv_parser.proofs.ExactParts.{TypeFrom, EndRule, CallEnd, starts_right, condition_exact, condition_makes, range_exact, formula_end_exact, expr_end_exact, right_end_exact, call_end_exact, call_end_makes, type_from_exact}

-- The rules of what the readers read beside those of the grammar.

abbrev pub LocalEnd : ℕ → TypeWord → Word → Rule Stmt
LocalEnd d t w =
    Or (AtFixed SEMICOLON d (λ l. Is (local_stmt t w None l)))
    (AtFixed ASSIGN d (λ q. Then (EndRule d (g.IsRight d)) (λ x. Is (local_stmt t w (Some x.0) x.1))))

abbrev pub LocalRule : ℕ → Base → Span → Rule Stmt
LocalRule d b s = Then (TypeFrom d b s) (λ t. AtName d (λ w. LocalEnd d t w))

abbrev pub AssignRule : ℕ → Chain → Rule Stmt
AssignRule d a = Then (EndRule d (g.IsRight d)) (λ x. Is (assign_stmt (part_of a) x.0 x.1))

abbrev pub CallRule : ℕ → Option Part → Word → Rule Stmt
CallRule d a w = Then (CallEnd d) (λ x. Is (call_stmt a w x.0 x.1))

abbrev pub PlaceRest : ℕ → Chain → Rule Stmt
PlaceRest d (Named a w) = Or (AtFixed ASSIGN d (λ q. AssignRule d (Named a w))) (AtFixed OPEN_PAREN (suc d) (λ s. CallRule d a w))
PlaceRest d (Other a) = AtFixed ASSIGN d (λ q. AssignRule d (Other a))

abbrev pub NameRule : ℕ → Word → Rule Stmt
NameRule d w = Or (AtName d (λ v. LocalEnd d (class_type w) v)) (Then (x.StepsFrom in_program d (Named None w)) (PlaceRest d))

abbrev pub ThisRule : ℕ → Span → Rule Stmt
ThisRule d s = Then (x.SomeSteps in_program d (Other (node s This))) (PlaceRest d)

abbrev pub BlockRule : ℕ → Rule (List Stmt × Span)
BlockRule d us z vs = g.IsBlock d us z.0 z.1 vs

abbrev pub Otherwise : ℕ → Span → Part → List Stmt → Rule Stmt
Otherwise d s c b =
    Or (AtFixed IF (suc d) (λ i. Then (g.IsChoice (suc d) i) (λ x. Is (if_stmt s c b (x ∷ []) x.span))))
    (Then (BlockRule d) (λ y. Is (if_stmt s c b y.0 y.1)))

abbrev pub WhileEnd : ℕ → Span → List Expr → Rule Stmt
WhileEnd d s xs = Then (g.IsCondition d) (λ c. Then (BlockRule d) (λ b. Is (while_stmt s xs c b.0 b.1)))

abbrev pub InvariantRule : ℕ → Rule Expr
InvariantRule d = Then (EndRule d (x.IsFormula d)) (λ y. Is y.0.tree)

abbrev pub InvariantsRule : ℕ → Rule (List Expr)
InvariantsRule d = Repeated (is_fixed LOOP_INVARIANT) d (λ t s. InvariantRule d)

abbrev pub InvariantLoop : ℕ → Span → Rule Stmt
InvariantLoop d s =
    Then (InvariantRule d) (λ a. Then (BehindAll (a ∷ []) (InvariantsRule d)) (λ xs. AtFixed WHILE d (λ q. WhileEnd d s xs)))

abbrev pub CountedRule : ℕ → Span → Rule Stmt
CountedRule d s = Then (g.IsRange d) (λ r. Then (IsClauses d) (λ cs. Then (BlockRule d) (λ b. Is (for_stmt s r cs b.0 b.1))))

abbrev pub ParallelEnd : ℕ → Span → Option Word → Rule Stmt
ParallelEnd d s n = Then (g.IsRange d) (λ r. Then (IsClauses d) (λ cs. Then (BlockRule d) (λ b. Is (par_stmt s n r cs b.0 b.1))))

abbrev pub ParallelRule : ℕ → Span → Rule Stmt
ParallelRule d s = Or (AtName d (λ w. ParallelEnd d s (Some w))) (ParallelEnd d s None)

abbrev pub BarrierBody : ℕ → Span → Word → Rule Stmt
BarrierBody d s w = Then (IsClauses d) (λ cs. AtFixed CLOSE_BRACE d (λ l. Is (barrier_stmt s w cs l)))

abbrev pub BarrierRule : ℕ → Span → Rule Stmt
BarrierRule d s =
    AtFixed OPEN_PAREN (suc d) (λ q. AtName (suc d)
    (λ w. AtFixed CLOSE_PAREN (suc d) (λ r. AtFixed OPEN_BRACE (suc d) (λ t. BarrierBody (suc d) s w))))

abbrev pub ActionRule : ℕ → Action → Span → Rule Stmt
ActionRule d a s = Then (EndRule d (x.IsExpr in_program d)) (λ y. Is (action_stmt a s y.0 y.1))

abbrev pub FoldingArgs : ℕ → Bool → Span → Target → Rule Stmt
FoldingArgs d f s t = AtFixed OPEN_PAREN (suc d) (λ q. Then (CallEnd d) (λ y. Is (folding_stmt f s t.0 t.1 y.0 y.1)))

abbrev pub FoldingRule : ℕ → Bool → Span → Rule Stmt
FoldingRule d f s =
    Or (AtName d (λ w. Then (TargetRule d (Named None w)) (FoldingArgs d f s)))
    (AtFixed THIS d (λ q. Then (TargetRule d (Other (node q This))) (FoldingArgs d f s)))

abbrev pub AssertRule : ℕ → Span → Rule Stmt
AssertRule d s = Then (EndRule d (x.IsFormula d)) (λ y. Is (assert_stmt s y.0 y.1))

abbrev pub SendRule : ℕ → Span → Rule Stmt
SendRule d s =
    AtName d (λ w. AtFixed COMMA d (λ c. AtNumber d
    (λ n m. AtFixed COLON d (λ t. Then (EndRule d (x.IsFormula d)) (λ y. Is (send_stmt s w n y.0 y.1))))))

abbrev pub RecvRule : ℕ → Span → Rule Stmt
RecvRule d s = AtName d (λ w. AtFixed SEMICOLON d (λ l. Is (recv_stmt s w l)))

abbrev pub ReturnRule : ℕ → Span → Rule Stmt
ReturnRule d s =
    Or (AtFixed SEMICOLON d (λ l. Is (return_stmt s None l)))
    (Then (EndRule d (x.IsExpr in_program d)) (λ y. Is (return_stmt s (Some y.0.tree) y.1)))

abbrev pub ElseRule : ℕ → Span → Part → List Stmt → Span → Rule Stmt
ElseRule d s c b l = Or (AtFixed ELSE d (λ t. Otherwise d s c b)) (Is (if_stmt s c b [] l))

abbrev pub ChoiceRule : ℕ → Span → Rule Stmt
ChoiceRule d s = Then (g.IsCondition d) (λ c. Then (BlockRule d) (λ b. g.ElseFrom d s c b.0 b.1))

abbrev pub StmtRule : ℕ → Rule Stmt
StmtRule d =
    Or (AtName d (NameRule d))
    (Or (AtFixed THIS d (ThisRule d))
    (Or (AtEntry base_of d (LocalRule d))
    (Or (AtFixed IF d (λ s. g.IsChoice d s))
    (Or (AtFixed WHILE d (λ s. WhileEnd d s []))
    (Or (AtFixed LOOP_INVARIANT d (InvariantLoop d))
    (Or (AtFixed FOR d (CountedRule d))
    (Or (AtFixed PAR d (ParallelRule d))
    (Or (AtFixed BARRIER d (BarrierRule d))
    (Or (AtEntry action_of d (ActionRule d))
    (Or (AtEntry folding_of d (FoldingRule d))
    (Or (AtFixed ASSERT d (AssertRule d))
    (Or (AtFixed SEND d (SendRule d))
    (Or (AtFixed RECV d (RecvRule d))
    (AtFixed RETURN d (ReturnRule d)))))))))))))))

module _ (d : ℕ) where
  -- to the grammar

  to_local : (us : Marked) (t : TypeWord) (w : Word) (ws : Marked) (b : Stmt) (vs : Marked) → LocalEnd d t w ws b vs
      → g.IsType d us t ((word_at w, d) ∷ ws) → g.IsStmt d us b vs
  to_local us t w ws b vs (inl (at_fixed is)) p = g.declared p
  to_local us t w ws b vs (inr (at_fixed (seq (seq r (at_fixed is)) is))) p = g.local p r

  to_typed : (x : Lexeme) (b : Base) (us : Marked) (t : TypeWord) (vs : Marked) → base_of x.kind ≡ Some b
      → TypeFrom d b x.span us t vs → g.IsType d ((x, d) ∷ us) t vs
  to_typed x b us t vs h (inl (at_fixed {s = q} (at_fixed {s = r} i))) =
      by_is (λ vs. g.IsType d ((x, d) ∷ (fixed_at OPEN_BRACKET q, suc d) ∷ (fixed_at CLOSE_BRACKET r, suc d) ∷ vs)) i (g.array h)
  to_typed x b us t vs h (inr i) = by_is (λ vs. g.IsType d ((x, d) ∷ vs)) i (g.base h)

  to_place : (us : Marked) (c : Chain) (ws : Marked) (b : Stmt) (vs : Marked) → PlaceRest d c ws b vs
      → g.IsPlace d us (part_of c) ws → ((a : Option Part) (w : Word) → c ≡ Named a w → x.IsTarget in_program d us a w ws)
      → g.IsStmt d us b vs
  to_place us (Named a w) ws b vs (inl (at_fixed (seq (seq r (at_fixed is)) i))) p t = by_is (g.IsStmt d) i (g.assign p r)
  to_place us (Named a w) ws b vs (inr (at_fixed {us = ys} (seq (seq {vs = zs} {a = z} args (at_fixed is)) i))) p t =
      by_is (g.IsStmt d) i (g.call (t a w refl) (to_args ys z zs args))
  to_place us (Other a) ws b vs (at_fixed (seq (seq r (at_fixed is)) i)) p t = by_is (g.IsStmt d) i (g.assign p r)

  name_target : (v : Word) (us : Marked) (c : Chain) (ws : Marked) → x.StepsFrom in_program d (Named None v) us c ws
      → (a : Option Part) (w : Word) → c ≡ Named a w → x.IsTarget in_program d ((word_at v, d) ∷ us) a w ws
  name_target v us c ws st a w e = x.from_name (subst (λ z. x.StepsFrom in_program d (Named None v) us z ws) e st)

  this_target : (s : Span) (us : Marked) (c : Chain) (ws : Marked) → x.SomeSteps in_program d (Other (node s This)) us c ws
      → (a : Option Part) (w : Word) → c ≡ Named a w → x.IsTarget in_program d ((fixed_at THIS s, d) ∷ us) a w ws
  this_target s us c ws st a w e =
      x.from_this (x.some_steps (subst (λ z. x.SomeSteps in_program d (Other (node s This)) us z ws) e st))

  to_invariants : (us : Marked) (xs : List Expr) (vs : Marked) → InvariantsRule d us xs vs → g.IsInvariants d us xs vs
  to_invariants us xs vs repeated_end = g.no_invariant
  to_invariants us fs vs (repeated_more {y = y} {b = t} {us = zs} {vs = ws} {x = e} {xs = ys} h
      (seq (seq p (at_fixed is)) is) q) =
      subst (λ z. g.IsInvariants d ((z, d) ∷ zs) (e ∷ ys) vs)
      (sym (at_kind y (k.Fixed LOOP_INVARIANT) (fixed_is LOOP_INVARIANT y.kind t h))) (g.invariant p (to_invariants ws ys vs q))

  from_invariants : (us : Marked) (xs : List Expr) (vs : Marked) → g.IsInvariants d us xs vs → InvariantsRule d us xs vs
  from_invariants us xs vs g.no_invariant = repeated_end
  from_invariants us xs vs (g.invariant {vs = ws} {fs = ys} p q) =
      repeated_more (known_fixed LOOP_INVARIANT) (seq (seq p (at_fixed is)) is) (from_invariants ws ys vs q)

  to_stmt : (us : Marked) (b : Stmt) (vs : Marked) → StmtRule d us b vs → g.IsStmt d us b vs
  to_stmt us b vs (inl (at_name {w = w} (inl (at_name {w = v} {us = ws} r)))) = to_local us (class_type w) v ws b vs r g.object
  to_stmt us b vs (inl (at_name {w = w} {us = ws} (inr (seq {vs = ys} {a = c} st r)))) =
      to_place us c ys b vs r (g.name_place st) (name_target w ws c ys st)
  to_stmt us b vs (inr (inl (at_fixed {s = s} {us = ws} (seq {vs = ys} {a = c} st r)))) =
      to_place us c ys b vs r (g.this_place st) (this_target s ws c ys st)
  to_stmt us b vs (inr (inr (inl (at_entry {x = y} {b = z} {us = ws} h
      (seq {vs = ys} {a = t} p (at_name {w = w} {us = zs} r)))))) = to_local us t w zs b vs r (to_typed y z ws t ys h p)
  to_stmt us b vs (inr (inr (inr (inl (at_fixed p))))) = g.choice p
  to_stmt us b vs (inr (inr (inr (inr (inl (at_fixed (seq c (seq p i)))))))) =
      by_is (g.IsStmt d) i (g.repetition g.no_invariant c p)
  to_stmt us b vs (inr (inr (inr (inr (inr (inl
      (at_fixed {s = s} (seq (seq (seq p (at_fixed is)) is)
      (seq {vs = ws} {a = fs} q (at_fixed {us = xs} (seq {vs = ys} {a = c} r (seq {vs = zs} {a = z} t i)))))))))))) = by_is
      (g.IsStmt d) i (subst (λ y. g.IsStmt d us (while_stmt s y c z.0 z.1) zs) (sym q.all)
      (g.repetition (g.invariant p (to_invariants _ q.next _ q.rest)) r t))
  to_stmt us b vs (inr (inr (inr (inr (inr (inr (inl (at_fixed (seq p (seq q (seq r i))))))))))) =
      by_is (g.IsStmt d) i (g.counted p q r)
  to_stmt us b vs (inr (inr (inr (inr (inr (inr (inr (inl (at_fixed (inl (at_name (seq p (seq q (seq r i)))))))))))))) =
      by_is (g.IsStmt d) i (g.parallel g.label p q r)
  to_stmt us b vs (inr (inr (inr (inr (inr (inr (inr (inl (at_fixed (inr (seq p (seq q (seq r i))))))))))))) =
      by_is (g.IsStmt d) i (g.parallel g.no_label p q r)
  to_stmt us b vs (inr (inr (inr (inr (inr (inr
      (inr (inr (inl (at_fixed (at_fixed (at_name (at_fixed (at_fixed (seq p (at_fixed i)))))))))))))))) = by_is (g.IsStmt d) i
      (g.barrier p)
  to_stmt us b vs (inr (inr (inr (inr (inr (inr (inr (inr (inr (inl (at_entry h (seq (seq p (at_fixed is)) i)))))))))))) =
      by_is (g.IsStmt d) i (g.action h p)
  to_stmt us b vs (inr (inr (inr (inr (inr (inr
      (inr (inr (inr (inr (inl (at_entry h (inl (at_name
      (seq st (at_fixed {us = ys} (seq (seq {vs = zs} {a = z} q (at_fixed is)) i))))))))))))))))) = by_is (g.IsStmt d) i
      (g.folding h (x.from_name st) (to_args ys z zs q))
  to_stmt us b vs (inr (inr (inr (inr (inr (inr
      (inr (inr (inr (inr (inl (at_entry h (inr (at_fixed
      (seq st (at_fixed {us = ys} (seq (seq {vs = zs} {a = z} q (at_fixed is)) i))))))))))))))))) = by_is (g.IsStmt d) i
      (g.folding h (x.from_this st) (to_args ys z zs q))
  to_stmt us b vs (inr (inr (inr (inr (inr (inr
      (inr (inr (inr (inr (inr (inl (at_fixed (seq (seq p (at_fixed is)) i)))))))))))))) = by_is (g.IsStmt d) i (g.assertion p)
  to_stmt us b vs (inr (inr (inr (inr (inr (inr
      (inr (inr (inr (inr (inr (inr (inl (at_fixed
      (at_name (at_fixed (at_number (at_fixed (seq (seq p (at_fixed is)) i))))))))))))))))))) = by_is (g.IsStmt d) i (g.send p)
  to_stmt us b vs (inr (inr (inr (inr (inr (inr
      (inr (inr (inr (inr (inr (inr (inr (inl (at_fixed (at_name (at_fixed i))))))))))))))))) = by_is (g.IsStmt d) i g.recv
  to_stmt us b vs (inr (inr (inr (inr (inr (inr
      (inr (inr (inr (inr (inr (inr (inr (inr (at_fixed (inl (at_fixed i))))))))))))))))) = by_is (g.IsStmt d) i g.return_none
  to_stmt us b vs (inr (inr (inr (inr (inr (inr
      (inr (inr (inr (inr (inr (inr (inr (inr (at_fixed (inr (seq (seq p (at_fixed is)) i))))))))))))))))) = by_is (g.IsStmt d) i
      (g.return_value p)

  -- and from it

  from_local : (us : Marked) (t : TypeWord) (w : Word) (ws : Marked) (b : Stmt) (vs : Marked)
      → g.IsType d us t ((word_at w, d) ∷ ws) → LocalEnd d t w ws b vs → StmtRule d us b vs
  from_local us t w ws b vs g.object r = (inl (at_name (inl (at_name r))))
  from_local us t w ws b vs (g.array h) r = (inr (inr (inl (at_entry h (seq (inl (at_fixed (at_fixed is))) (at_name r))))))
  from_local us t w ws b vs (g.base h) r = (inr (inr (inl (at_entry h (seq (inr is) (at_name r))))))

  as_place : (c : Chain) (us : Marked) (b : Stmt) (vs : Marked) → AtFixed ASSIGN d (λ q. AssignRule d c) us b vs
      → PlaceRest d c us b vs
  as_place (Named a w) us b vs r = inl r
  as_place (Other a) us b vs r = r

  from_place : (us : Marked) (a : Part) (q l : Span) (r : Right) (ws vs : Marked) → g.IsPlace d us a ((fixed_at ASSIGN q, d) ∷ ws)
      → g.IsRight d ws r ((fixed_at SEMICOLON l, d) ∷ vs) → StmtRule d us (assign_stmt a r l) vs
  from_place us a q l r ws vs (g.name_place {b = c} st) p =
      (inl (at_name (inr (seq st (as_place c _ _ vs (at_fixed (seq (seq p (at_fixed is)) is)))))))
  from_place us a q l r ws vs (g.this_place {b = c} st) p =
      (inr (inl (at_fixed (seq st (as_place c _ _ vs (at_fixed (seq (seq p (at_fixed is)) is)))))))

  -- arguments and the semicolon behind them
  ended_args : (f : List Expr → Span → Stmt) (us : Marked) (xs : List Expr) (r l : Span) (vs : Marked)
      → x.IsArgs in_program d us xs r ((fixed_at SEMICOLON l, d) ∷ vs)
      → AtFixed OPEN_PAREN (suc d) (λ s. Then (CallEnd d) (λ y. Is (f y.0 y.1))) us (f xs l) vs
  ended_args f us xs r l vs x.no_args = at_fixed (seq (seq (inl (at_fixed is)) (at_fixed is)) is)
  ended_args f us xs r l vs (x.args p) = at_fixed (seq (seq (inr p) (at_fixed is)) is)

  from_call : (us : Marked) (a : Option Part) (w : Word) (ws : Marked) (xs : List Expr) (r l : Span) (vs : Marked)
      → x.IsTarget in_program d us a w ws → x.IsArgs in_program d ws xs r ((fixed_at SEMICOLON l, d) ∷ vs)
      → StmtRule d us (call_stmt a w xs l) vs
  from_call us a w ws xs r l vs (x.from_name st) q =
      (inl (at_name (inr (seq st (inr (ended_args (call_stmt a w) ws xs r l vs q))))))
  from_call us a w ws xs r l vs (x.from_this (x.some_steps st)) q =
      (inr (inl (at_fixed (seq st (inr (ended_args (call_stmt a w) ws xs r l vs q))))))

  from_folding : (y : Lexeme) (f : Bool) (us : Marked) (a : Option Part) (w : Word) (ws : Marked) (xs : List Expr) (r l : Span)
      (vs : Marked) → folding_of y.kind ≡ Some f → x.IsTarget in_program d us a w ws
      → x.IsArgs in_program d ws xs r ((fixed_at SEMICOLON l, d) ∷ vs)
      → StmtRule d ((y, d) ∷ us) (folding_stmt f y.span a w xs l) vs
  from_folding y f us a w ws xs r l vs h (x.from_name st) q =
      (inr (inr (inr (inr (inr (inr (inr (inr (inr
      (inr (inl (at_entry h (inl (at_name (seq {a = (a, w)} st
      (ended_args (folding_stmt f y.span a w) ws xs r l vs q))))))))))))))))
  from_folding y f us a w ws xs r l vs h (x.from_this st) q =
      (inr (inr (inr (inr (inr (inr (inr (inr (inr
      (inr (inl (at_entry h (inr (at_fixed (seq {a = (a, w)} st
      (ended_args (folding_stmt f y.span a w) ws xs r l vs q))))))))))))))))

  from_loop : (us : Marked) (fs : List Expr) (q l : Span) (c : Part) (b : List Stmt) (ws xs ys vs : Marked)
      → g.IsInvariants d us fs ((fixed_at WHILE q, d) ∷ ws) → g.IsCondition d ws c xs → g.IsBlock d xs b l vs
      → StmtRule d us (while_stmt (begins_at (plain us)) fs c b l) vs
  from_loop us fs q l c b ws xs ys vs g.no_invariant p r =
      (inr (inr (inr (inr (inl (at_fixed (seq p (seq {a = (b, l)} r is))))))))
  from_loop us fs q l c b ws xs ys vs (g.invariant {vs = zs} {fs = gs} f t) p r =
      (inr (inr (inr (inr (inr (inl (at_fixed (seq (seq (seq f (at_fixed is)) is)
      (seq (record { next = gs; all = refl; rest = from_invariants zs gs _ t })
      (at_fixed (seq p (seq {a = (b, l)} r is))))))))))))

  from_stmt : (us : Marked) (b : Stmt) (vs : Marked) → g.IsStmt d us b vs → StmtRule d us b vs
  from_stmt us b vs (g.declared {t = t} {w = w} p) = from_local us t w _ _ vs p (inl (at_fixed is))
  from_stmt us b vs (g.local {t = t} {w = w} p r) = from_local us t w _ _ vs p (inr (at_fixed (seq (seq r (at_fixed is)) is)))
  from_stmt us b vs (g.assign {q = q} {l = l} {a = a} {r = r} {vs = ws} p t) = from_place us a q l r ws vs p t
  from_stmt us b vs (g.call {w = w} {r = r} {l = l} {vs = ws} {a = a} {xs = xs} t q) = from_call us a w ws xs r l vs t q
  from_stmt us b vs (g.choice p) = (inr (inr (inr (inl (at_fixed p)))))
  from_stmt us b vs (g.repetition {q = q} {l = l} {vs = ws} {ws = xs} {fs = fs} {c = c} {b = body} p r t) =
      from_loop us fs q l c body ws xs xs vs p r t
  from_stmt us b vs (g.counted {l = l} {b = body} p q r) =
      (inr (inr (inr (inr (inr (inr (inl (at_fixed (seq p (seq q (seq {a = (body, l)} r is)))))))))))
  from_stmt us b vs (g.parallel {l = l} {b = body} g.label p q r) =
      (inr (inr (inr (inr (inr (inr (inr (inl (at_fixed (inl (at_name (seq p (seq q (seq {a = (body, l)} r is))))))))))))))
  from_stmt us b vs (g.parallel {l = l} {b = body} g.no_label p q r) =
      (inr (inr (inr (inr (inr (inr (inr (inl (at_fixed (inr (seq p (seq q (seq {a = (body, l)} r is)))))))))))))
  from_stmt us b vs (g.barrier p) =
      (inr (inr (inr (inr (inr (inr (inr (inr (inl
      (at_fixed (at_fixed (at_name (at_fixed (at_fixed (seq p (at_fixed is))))))))))))))))
  from_stmt us b vs (g.action h p) =
      (inr (inr (inr (inr (inr (inr (inr (inr (inr (inl (at_entry h (seq (seq p (at_fixed is)) is))))))))))))
  from_stmt us b vs (g.folding {y = y} {x = f} {w = w} {r = r} {l = l} {us = zs} {vs = ws} {a = a} {xs = xs} h t q) =
      from_folding y f zs a w ws xs r l vs h t q
  from_stmt us b vs (g.assertion p) =
      (inr (inr (inr (inr (inr (inr (inr (inr (inr (inr (inr (inl (at_fixed (seq (seq p (at_fixed is)) is))))))))))))))
  from_stmt us b vs (g.send p) =
      (inr (inr (inr (inr (inr (inr (inr (inr (inr
      (inr (inr (inr (inl (at_fixed (at_name (at_fixed (at_number (at_fixed (seq (seq p (at_fixed is)) is)))))))))))))))))))
  from_stmt us b vs g.recv =
      (inr (inr (inr (inr (inr (inr (inr (inr (inr (inr (inr (inr (inr (inl (at_fixed (at_name (at_fixed is)))))))))))))))))
  from_stmt us b vs g.return_none =
      (inr (inr (inr (inr (inr (inr (inr (inr (inr (inr (inr (inr (inr (inr (at_fixed (inl (at_fixed is)))))))))))))))))
  from_stmt us b vs (g.return_value p) =
      (inr (inr (inr (inr (inr (inr (inr (inr (inr
      (inr (inr (inr (inr (inr (at_fixed (inr (seq (seq p (at_fixed is)) is)))))))))))))))))

  -- what stands behind an `if`, and blocks

  to_else : (s : Span) (c : Part) (z : List Stmt) (l : Span) (us : Marked) (b : Stmt) (vs : Marked) → ElseRule d s c z l us b vs
      → g.ElseFrom d s c z l us b vs
  to_else s c z l us b vs (inl (at_fixed (inl (at_fixed (seq p i))))) = by_is (g.ElseFrom d s c z l) i (g.else_if p)
  to_else s c z l us b vs (inl (at_fixed (inr (seq p i)))) = by_is (g.ElseFrom d s c z l) i (g.else_block p)
  to_else s c z l us b vs (inr is) = g.no_else

  from_else : (s : Span) (c : Part) (z : List Stmt) (l : Span) (us : Marked) (b : Stmt) (vs : Marked)
      → g.ElseFrom d s c z l us b vs → ElseRule d s c z l us b vs
  from_else s c z l us b vs (g.else_if p) = inl (at_fixed (inl (at_fixed (seq p is))))
  from_else s c z l us b vs (g.else_block {m = m} {x = y} p) = inl (at_fixed (inr (seq {a = (y, m)} p is)))
  from_else s c z l us b vs g.no_else = inr is

  to_choice : (s : Span) (us : Marked) (b : Stmt) (vs : Marked) → ChoiceRule d s us b vs → g.IsChoice d s us b vs
  to_choice s us b vs (seq p (seq q r)) = g.chosen p q r

  from_choice : (s : Span) (us : Marked) (b : Stmt) (vs : Marked) → g.IsChoice d s us b vs → ChoiceRule d s us b vs
  from_choice s us b vs (g.chosen {l = l} {b = z} p q r) = seq p (seq {a = (z, l)} q r)

  to_stmts : (us : Marked) (z : List Stmt × Span) (vs : Marked) → Many CLOSE_BRACE d (g.IsStmt d) us z vs
      → g.IsStmts d us z.0 z.1 vs
  to_stmts us z vs many_end = g.no_stmt
  to_stmts us z vs (many_more {vs = ws} {xs = xs} {l = l} p q) = g.next_stmt p (to_stmts ws (xs, l) vs q)

  from_stmts : (us : Marked) (xs : List Stmt) (l : Span) (vs : Marked) → g.IsStmts d us xs l vs
      → Many CLOSE_BRACE d (g.IsStmt d) us (xs, l) vs
  from_stmts us xs l vs g.no_stmt = many_end
  from_stmts us xs l vs (g.next_stmt {vs = ws} {b = ys} p q) = many_more p (from_stmts ws ys l vs q)

-- What may begin a statement.

abbrev pub begins_stmt : List (ℕ × Unit {0})
begins_stmt =
    (THIS, tt) ∷ (INT, tt) ∷ (BOOLEAN, tt) ∷ (BOOL, tt) ∷ (IF, tt) ∷ (WHILE, tt) ∷ (LOOP_INVARIANT, tt) ∷ (FOR, tt) ∷ (PAR, tt)
    ∷ (BARRIER, tt)
    ∷ (FORK, tt) ∷ (JOIN, tt) ∷ (LOCK, tt) ∷ (UNLOCK, tt) ∷ (COMMIT, tt) ∷ (FOLD, tt) ∷ (UNFOLD, tt) ∷ (ASSERT, tt) ∷ (SEND, tt)
    ∷ (RECV, tt) ∷ (RETURN, tt) ∷ []

abbrev pub starts_stmt : Nexts
starts_stmt = either (knows name_of) (knows (listed_in begins_stmt))

stmt_goes_on : Sub starts_stmt (above 10)
stmt_goes_on =
    sub_either (sub_name (λ n. refl)) (sub_table begins_stmt (
      refl,
      (
        refl,
        (
          refl,
          (
            refl,
            (
              refl,
              (
                refl,
                (
                  refl,
                  (
                    refl,
                    (refl, (refl, (refl, (refl, (refl, (refl, (refl, (refl, (refl, (refl, (refl, (refl, (refl, tt))))))))))))),
                  ),
                ),
              ),
            ),
          ),
        ),
      ),
    ))

-- what is known of the readers of statements and members at depth d
pub record KnownBlocks (L d : ℕ) (starts_member : Nexts) (p : Blocks) : Type 0 where
  pub exprs : Knows L d p.exprs
  pub stmt : Exact L starts_stmt (above 10) (g.IsStmt d) p.stmt
  pub choice : (s : Span) → Exact L (knows (is_fixed OPEN_PAREN)) (above 10) (g.IsChoice d s) (p.choice s)
  pub member : Exact L starts_member anything (g.IsMember d) p.member

-- what is known one deeper
abbrev pub KnowsBlocks : ℕ → ℕ → Nexts → Option Blocks → Type 0
KnowsBlocks L d m o = Deeper L (suc d) (KnownBlocks L (suc d) m) o

-- a place or a target is followed by one of these
abbrev behind_place : Nexts
behind_place = either (knows (is_fixed ASSIGN)) (knows (is_fixed OPEN_PAREN))

behind_place_ends : Sub behind_place (above 1)
behind_place_ends = sub_either (sub_fixed ASSIGN refl) (sub_fixed OPEN_PAREN refl)

module _ (d : ℕ) where
  stmts_makes : Begins (λ us (z : List Stmt × Span) vs. g.IsStmts d us z.0 z.1 vs) []
  stmts_makes = let l : Span = record { from = 0; to = 0 } in ((fixed_at CLOSE_BRACE l, d) ∷ [], ([], l), λ rest. g.no_stmt)

  to_block : (us : Marked) (z : List Stmt × Span) (vs : Marked)
      → AtFixed OPEN_BRACE (suc d) (λ s us z vs. g.IsStmts (suc d) us z.0 z.1 vs) us z vs → BlockRule d us z vs
  to_block us z vs (at_fixed p) = g.block p

  from_block : (us : Marked) (b : List Stmt) (l : Span) (vs : Marked) → g.IsBlock d us b l vs
      → AtFixed {A = List Stmt × Span} OPEN_BRACE (suc d) (λ s us z vs. g.IsStmts (suc d) us z.0 z.1 vs) us (b, l) vs
  from_block us b l vs (g.block p) = at_fixed p

pub block_makes : (d : ℕ) → Begins (BlockRule d) []
block_makes d =
    let x =
    makes_fixed {Q = λ s us (z : List Stmt × Span) vs. g.IsStmts (suc d) us z.0 z.1 vs} OPEN_BRACE (suc d)
    (λ s. stmts_makes (suc d)) in (x.0, x.1, λ rest. to_block d _ _ _ (x.2 rest))

no_else_makes : (d : ℕ) (s : Span) (c : Part) (b : List Stmt) (l : Span) → Begins (g.ElseFrom d s c b l) []
no_else_makes d s c b l = ([], _, λ rest. g.no_else)

choice_makes : (d : ℕ) (s : Span) → Begins (g.IsChoice d s) []
choice_makes d s =
    let x = makes_then (condition_makes d) (λ c. makes_then (block_makes d) (λ b. no_else_makes d s c b.0 b.1)) in
    (x.0, x.1, λ rest. to_choice d s _ _ _ (x.2 rest))

module _ (L d n : ℕ) (same : L ≡ d + n) (m : Nexts) (o : Option Blocks) (DB : KnowsBlocks L d m o) where
  abbrev e : Option Readers
  e = deeper n

  le : d ≤ L
  le = omega (arith, same)

  D : Knows L d (deeper n)
  D = readers_known n L d same

  pub block_exact : Exact L (knows (is_fixed OPEN_BRACE)) anything (BlockRule d) (Reading.block o)
  unfolding Reading.block
  block_exact = exact_as (to_block d) (λ us z vs p. from_block d us z.0 z.1 vs p)
      (exact_expect OPEN_BRACE (λ s. opening_opened DB (stmts_makes (suc d))
      (λ p le K. exact_as (to_stmts (suc d)) (λ us z vs q. from_stmts (suc d) us z.0 z.1 vs q)
      (exact_many CLOSE_BRACE le K.stmt refl refl refl refl stmt_goes_on))))

  -- declarations, assignments and calls

  local_end_exact : (t : TypeWord) (w : Word)
      → Exact L (either (knows (is_fixed SEMICOLON)) (knows (is_fixed ASSIGN))) (above 10) (LocalEnd d t w)
      (Reading.local_end e t w)
  unfolding Reading.local_end
  local_end_exact t w = exact_fixed SEMICOLON (λ l. deep_enough le (exact_give _)) refl
      (exact_expect ASSIGN (λ q. deep_enough le (exact_bind (sub_anything _) (right_end_exact L d e le D) (λ x. exact_give _))))

  local_exact : (b : Base) (s : Span)
      → Exact L (either (knows (is_fixed OPEN_BRACKET)) (above 1)) (above 10) (LocalRule d b s) (Reading.local e b s)
  unfolding Reading.local
  local_exact b s =
      exact_bind (sub_name (λ n. refl)) (type_from_exact L d e le D b s)
      (λ t. exact_expect_name (λ w. deep_enough le (local_end_exact t w)))

  assign_exact : (c : Chain) → Exact L starts_right (above 10) (AssignRule d c) (Reading.assigned e c)
  assign_exact c = exact_bind (sub_anything _) (right_end_exact L d e le D) (λ x. exact_give _)

  call_opening : (a : Option Part) (w : Word) → Opening L (suc d) (above 10) (CallRule d a w) (opened e (Reading.call_behind a w))
  call_opening a w =
      opening_opened D (makes_then (call_end_makes d) (λ x. makes_is _))
      (λ p lt K. exact_bind (sub_anything _) (call_end_exact d p lt K le) (λ x. exact_give _))

  place_exact : (c : Chain) → Exact L behind_place (above 10) (PlaceRest d c) (Reading.place_or_call e c)
  unfolding Reading.place_or_call
  place_exact (Named a w) =
      exact_fixed ASSIGN (λ q. deep_enough le (assign_exact (Named a w))) refl (exact_expect OPEN_PAREN (λ s. call_opening a w))
  place_exact (Other a) =
      exact_wider (sub_left _ (sub_refl (knows (is_fixed ASSIGN)))) (sub_refl (above 10))
      (exact_expect ASSIGN (λ q. deep_enough le (assign_exact (Other a))))

  name_exact : (w : Word)
      → Exact L (either (knows name_of) (either (knows (is_fixed DOT)) (either (knows (is_fixed OPEN_BRACKET)) behind_place)))
      (above 10) (NameRule d w) (Reading.name_stmt e w)
  unfolding Reading.name_stmt
  name_exact w = exact_named (λ v. deep_enough le (local_end_exact (class_type w) v)) (λ n. refl)
      (exact_bind (sub_refl behind_place) (steps_to L d e le D behind_place behind_place_ends refl refl in_program (Named None w))
      place_exact)

  this_exact : (s : Span)
      → Exact L (either (knows (is_fixed DOT)) (knows (is_fixed OPEN_BRACKET))) (above 10) (ThisRule d s) (Reading.this_stmt e s)
  unfolding Reading.this_stmt
  this_exact s = exact_bind behind_place_ends (some_steps_exact L d e le D in_program (Other (node s This))) place_exact

  -- statements with blocks

  otherwise_exact : (s : Span) (c : Part) (b : List Stmt)
      → Exact L (either (knows (is_fixed IF)) (knows (is_fixed OPEN_BRACE))) (above 10) (Otherwise d s c b)
      (Reading.otherwise o s c b)
  unfolding Reading.otherwise
  otherwise_exact s c b =
      exact_fixed IF (λ i. opening_opened DB (makes_then (choice_makes (suc d) i) (λ x. makes_is _))
      (λ p le K. exact_bind (sub_refl (above 10)) (K.choice i) (λ x. exact_give _))) refl
      (exact_bind (sub_anything _) block_exact (λ y. exact_give _))

  else_exact : (s : Span) (c : Part) (b : List Stmt) (l : Span)
      → Exact L (either (knows (is_fixed ELSE)) (above 10)) (above 10) (g.ElseFrom d s c b l) (Reading.else_from o s c b l)
  unfolding Reading.else_from
  else_exact s c b l =
      exact_as (to_else d s c b l) (from_else d s c b l)
      (exact_fixed ELSE (λ t. deep_enough le (otherwise_exact s c b)) refl (exact_give _))

  pub choice_exact : (s : Span) → Exact L (knows (is_fixed OPEN_PAREN)) (above 10) (g.IsChoice d s) (Reading.choice e o s)
  unfolding Reading.choice
  choice_exact s =
      exact_as (to_choice d s) (from_choice d s) (exact_bind (sub_anything _) (condition_exact L d e le D)
      (λ c. exact_bind (sub_anything _) block_exact (λ b. else_exact s c b.0 b.1)))

  while_exact : (s : Span) (fs : List Expr)
      → Exact L (knows (is_fixed OPEN_PAREN)) (above 10) (WhileEnd d s fs) (Reading.while_end e o s fs)
  unfolding Reading.while_end
  while_exact s fs =
      exact_bind (sub_anything _) (condition_exact L d e le D) (λ c. exact_bind (sub_anything _) block_exact (λ b. exact_give _))

  pub invariant_exact : Exact L starts anything (InvariantRule d) (Reading.invariant e)
  unfolding Reading.invariant
  invariant_exact = exact_bind (sub_anything _) (formula_end_exact L d e le D) (λ x. exact_give _)

  invariants_exact : (found : List Expr)
      → Exact L (either (knows (is_fixed LOOP_INVARIANT)) (above 11)) (above 11) (BehindAll found (InvariantsRule d))
      (Reading.invariants e found)
  unfolding Reading.invariants
  invariants_exact found =
      exact_repeated_behind le (λ t s. (starts, invariant_exact)) (apart_fixed LOOP_INVARIANT refl) (sub_anything _) found

  loop_exact : (s : Span) → Exact L starts (above 10) (InvariantLoop d s) (Reading.invariant_loop e o s)
  unfolding Reading.invariant_loop
  loop_exact s =
      exact_bind (sub_anything _) invariant_exact
      (λ a. exact_bind (sub_fixed WHILE refl) (invariants_exact (a ∷ []))
      (λ fs. exact_expect WHILE (λ q. deep_enough le (while_exact s fs))))

  counted_exact : (s : Span) → Exact L (knows (is_fixed OPEN_PAREN)) (above 10) (CountedRule d s) (Reading.counted e o s)
  unfolding Reading.counted
  counted_exact s =
      exact_bind (sub_anything _) (range_exact L d e le D)
      (λ r. exact_bind (sub_fixed OPEN_BRACE refl) (clauses_exact L d e le D)
      (λ cs. exact_bind (sub_anything _) block_exact (λ b. exact_give _)))

  parallel_end_exact : (s : Span) (w : Option Word)
      → Exact L (knows (is_fixed OPEN_PAREN)) (above 10) (ParallelEnd d s w) (Reading.parallel_end e o s w)
  unfolding Reading.parallel_end
  parallel_end_exact s w =
      exact_bind (sub_anything _) (range_exact L d e le D)
      (λ r. exact_bind (sub_fixed OPEN_BRACE refl) (clauses_exact L d e le D)
      (λ cs. exact_bind (sub_anything _) block_exact (λ b. exact_give _)))

  parallel_exact : (s : Span)
      → Exact L (either (knows name_of) (knows (is_fixed OPEN_PAREN))) (above 10) (ParallelRule d s) (Reading.parallel e o s)
  unfolding Reading.parallel
  parallel_exact s = exact_named (λ w. deep_enough le (parallel_end_exact s (Some w))) (λ n. refl) (parallel_end_exact s None)

  barrier_opening : (s : Span) (w : Word)
      → Opening L (suc d) (above 10) (BarrierBody (suc d) s w) (opened o (Reading.barrier_body s w))
  barrier_opening s w =
      opening_opened DB (makes_then (clauses_makes (suc d)) (λ cs. makes_fixed CLOSE_BRACE (suc d) (λ l. makes_is _)))
      (λ p lt K. exact_bind (sub_fixed CLOSE_BRACE refl) (clauses_exact L (suc d) p.exprs lt K.exprs)
      (λ cs. exact_expect CLOSE_BRACE (λ l. deep_enough lt (exact_give _))))

  barrier_head : (s : Span) → suc d ≤ L
      → Exact L (knows name_of) (above 10) (AtName (suc d)
      (λ w. AtFixed CLOSE_PAREN (suc d) (λ r. AtFixed OPEN_BRACE (suc d) (λ t. BarrierBody (suc d) s w))))
      (expect_name (λ w. expect CLOSE_PAREN (λ r. expect OPEN_BRACE (λ t. opened o (Reading.barrier_body s w)))))
  barrier_head s lt =
      exact_expect_name (λ w. deep_enough lt (exact_expect CLOSE_PAREN
      (λ r. deep_enough lt (exact_expect OPEN_BRACE (λ t. barrier_opening s w)))))

  barrier_exact : (s : Span) → Exact L (knows (is_fixed OPEN_PAREN)) (above 10) (BarrierRule d s) (Reading.barrier e o s)
  unfolding Reading.barrier
  barrier_exact s =
      exact_expect OPEN_PAREN (λ q. opening_opened D
      (makes_name (suc d) (λ w. makes_fixed CLOSE_PAREN (suc d)
      (λ r. makes_fixed OPEN_BRACE (suc d) (λ t. makes_then (clauses_makes (suc d))
      (λ cs. makes_fixed CLOSE_BRACE (suc d) (λ l. makes_is _))))))
      (λ p lt K. barrier_head s lt))

  -- other statements

  action_exact : (x : Action) (s : Span) → Exact L starts (above 10) (ActionRule d x s) (Reading.action e x s)
  unfolding Reading.action
  action_exact x s = exact_bind (sub_anything _) (expr_end_exact L d e le D) (λ y. exact_give _)

  abbrev fold_args : Bool → Span → Target → Parser Stmt
  fold_args f s t = expect OPEN_PAREN (λ q. opened e (Reading.folding_args f s t.0 t.1))

  fold_args_exact : (f : Bool) (s : Span) (t : Target)
      → Exact L (knows (is_fixed OPEN_PAREN)) (above 10) (FoldingArgs d f s t) (fold_args f s t)
  fold_args_exact f s t =
      exact_expect OPEN_PAREN (λ q. opening_opened D (makes_then (call_end_makes d) (λ y. makes_is _))
      (λ p lt K. exact_bind (sub_anything _) (call_end_exact d p lt K le) (λ y. exact_give _)))

  fold_target_exact : (f : Bool) (s : Span) (c : Chain)
      → Exact L anything (above 10) (Then (TargetRule d c) (FoldingArgs d f s)) (target n c >>= fold_args f s)
  fold_target_exact f s c = exact_bind (sub_fixed OPEN_PAREN refl) (target_exact n L d same c) (fold_args_exact f s)

  folding_from_is : (f : Bool) (s : Span) (c : Chain) (us : Tokens)
      → Reading.folding_from e f s c us ≡ onward (fold_args f s) (named_end c us)
  unfolding Reading.folding_from
  folding_from_is f s (Named a w) us = refl
  folding_from_is f s (Other a) us = refl

  folded_is : (f : Bool) (s : Span) (p : Parser Chain) (t : Parser Target) (us : Tokens) → onward named_end (p us) ≡ t us
      → onward (Reading.folding_from e f s) (p us) ≡ onward (fold_args f s) (t us)
  folded_is f s p t us h =
      onward_all (Reading.folding_from e f s) (λ c. named_end c >>= fold_args f s) (folding_from_is f s) (p us)
      ∙ sym (bind_bind named_end (fold_args f s) (p us)) ∙ ap (onward (fold_args f s)) h

  folding_is : (f : Bool) (s : Span) (ts : Tokens)
      → Reading.folding e f s ts ≡ named (λ w. target n (Named None w) >>= fold_args f s)
      (expect THIS (λ q. target n (Other (node q This)) >>= fold_args f s)) ts
  unfolding Reading.folding
  folding_is f s ts =
      pick_all (λ m q. steps in_program e (Named None (record { name = m; span = q })) >>= Reading.folding_from e f s)
      (λ m q. target n (Named None (record { name = m; span = q })) >>= fold_args f s)
      (expect THIS (λ q. steps_or in_program e (Other (node q This)) refuse >>= Reading.folding_from e f s))
      (expect THIS (λ q. target n (Other (node q This)) >>= fold_args f s))
      (λ m q us. folded_is f s (steps in_program e (Named None (record { name = m; span = q })))
      (target n (Named None (record { name = m; span = q }))) us
      (target_steps n (Named None (record { name = m; span = q })) us))
      (λ us. pick_all (λ t q. steps_or in_program e (Other (node q This)) refuse >>= Reading.folding_from e f s)
      (λ t q. target n (Other (node q This)) >>= fold_args f s) refuse refuse
      (λ t q us. folded_is f s (steps_or in_program e (Other (node q This)) refuse) (target n (Other (node q This))) us
      (target_some n (node q This) us)) (λ us. refl) (is_fixed THIS) us)
      name_of ts

  folding_exact : (f : Bool) (s : Span)
      → Exact L (either (knows name_of) (knows (is_fixed THIS))) (above 10) (FoldingRule d f s) (Reading.folding e f s)
  folding_exact f s =
      exact_same (folding_is f s) (exact_named (λ w. deep_enough le (fold_target_exact f s (Named None w))) (λ n. refl)
      (exact_expect THIS (λ q. deep_enough le (fold_target_exact f s (Other (node q This))))))

  assertion_exact : (s : Span) → Exact L starts (above 10) (AssertRule d s) (Reading.assertion e s)
  unfolding Reading.assertion
  assertion_exact s = exact_bind (sub_anything _) (formula_end_exact L d e le D) (λ y. exact_give _)

  send_exact : (s : Span) → Exact L (knows name_of) (above 10) (SendRule d s) (Reading.send e s)
  unfolding Reading.send
  send_exact s =
      exact_expect_name (λ w. deep_enough le (exact_expect COMMA
      (λ c. deep_enough le (exact_expect_number (λ n m. deep_enough le (exact_expect COLON (λ t. deep_enough le
      (exact_bind (sub_anything _) (formula_end_exact L d e le D) (λ y. exact_give _)))))))))

  recv_exact : (s : Span) → Exact L (knows name_of) (above 10) (RecvRule d s) (Reading.recv s)
  unfolding Reading.recv
  recv_exact s = exact_expect_name (λ w. deep_enough le (exact_expect SEMICOLON (λ l. deep_enough le (exact_give _))))

  return_exact : (s : Span)
      → Exact L (either (knows (is_fixed SEMICOLON)) starts) (above 10) (ReturnRule d s) (Reading.returned e s)
  unfolding Reading.returned
  return_exact s =
      exact_fixed SEMICOLON (λ l. deep_enough le (exact_give _)) refl
      (exact_bind (sub_anything _) (expr_end_exact L d e le D) (λ y. exact_give _))

  pub stmt_exact : Exact L starts_stmt (above 10) (g.IsStmt d) (Reading.stmt e o)
  unfolding Reading.stmt Reading.block_stmt Reading.word_stmt
  stmt_exact = exact_as (to_stmt d) (from_stmt d) (exact_wider
      (sub_either (sub_left _ (sub_refl _)) (sub_either (sub_fixed THIS refl)
      (sub_either (sub_table base_words (refl, (refl, (refl, tt))))
      (sub_either (sub_fixed IF refl) (sub_either (sub_fixed WHILE refl)
      (sub_either (sub_fixed LOOP_INVARIANT refl)
      (sub_either (sub_fixed FOR refl) (sub_either (sub_fixed PAR refl) (sub_either (sub_fixed BARRIER refl)
      (sub_either (sub_table action_words (refl, (refl, (refl, (refl, (refl, tt))))))
      (sub_either (sub_table folding_words (refl, (refl, tt)))
      (sub_either (sub_fixed ASSERT refl) (sub_either (sub_fixed SEND refl)
      (sub_either (sub_fixed RECV refl) (sub_fixed RETURN refl)))))))))))))))
      (sub_refl (above 10))
      (exact_named (λ w. deep_enough le (name_exact w)) (λ n. refl)
      (exact_fixed THIS (λ s. deep_enough le (this_exact s)) refl
      (exact_entry base_words (λ b s. deep_enough le (local_exact b s)) (refl, (refl, (refl, tt)))
      (exact_fixed IF (λ s. deep_enough le (choice_exact s)) refl
      (exact_fixed WHILE (λ s. deep_enough le (while_exact s [])) refl
      (exact_fixed LOOP_INVARIANT (λ s. deep_enough le (loop_exact s)) refl
      (exact_fixed FOR (λ s. deep_enough le (counted_exact s)) refl
      (exact_fixed PAR (λ s. deep_enough le (parallel_exact s)) refl
      (exact_fixed BARRIER (λ s. deep_enough le (barrier_exact s)) refl
      (exact_entry action_words (λ x s. deep_enough le (action_exact x s)) (refl, (refl, (refl, (refl, (refl, tt)))))
      (exact_entry folding_words (λ f s. deep_enough le (folding_exact f s)) (refl, (refl, tt))
      (exact_fixed ASSERT (λ s. deep_enough le (assertion_exact s)) refl
      (exact_fixed SEND (λ s. deep_enough le (send_exact s)) refl
      (exact_fixed RECV (λ s. deep_enough le (recv_exact s)) refl
      (exact_expect RETURN (λ s. deep_enough le (return_exact s))))))))))))))))))
