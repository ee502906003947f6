-- The readers of members, classes and programs are exact.
use Rattle.std.proofs.Common.{ℕ, zero, suc, ◌≡◌, ◌+◌, ◌≤◌, inl, inr, List, [], ◌∷◌, Option, Some, None, is_some, Bool, true, false, cond, nat_eq, not, refl, sym, ap, ◌∙◌, subst, arith}
use Rattle.std.proofs.lemmas.Bool.{eqb-true}
use Rattle.pv_base.specs.declared.Name.{Name}
use Rattle.pv_base.specs.declared.Span.{Span}
use Rattle.pv_tokens.specs.declared.Lexeme.{Lexeme}
use Rattle.pv_tokens.specs.declared.LexemeKind.{LexemeKind}
use Rattle.pv_tokens.specs.declared.LexemeKind.TheVariants as k
use Rattle.pv_tokens.specs.declared.fixed.TheConstants.{CLASS, LOCK_INVARIANT, INT, BOOLEAN, BOOL, VOID, RESOURCE, RUN, REQUIRES, ENSURES, CONTEXT, OPEN_BRACE, CLOSE_BRACE, OPEN_PAREN, SEMICOLON, ASSIGN}
use Rattle.pv_ast.specs.declared.Word.{Word}
use Rattle.pv_ast.specs.declared.TypeWord.{TypeWord}
use Rattle.pv_ast.specs.declared.Expr.{Expr}
use Rattle.pv_ast.specs.declared.Clause.{Clause}
use Rattle.pv_ast.specs.declared.ClauseKind.{ClauseKind}
use Rattle.pv_ast.specs.declared.Stmt.{Stmt}
use Rattle.pv_ast.specs.declared.Param.{Param}
use Rattle.pv_ast.specs.declared.Member.{Member}
use Rattle.pv_ast.specs.declared.Member.TheVariants as variant
use Rattle.pv_ast.specs.declared.Class.{Class}
use Rattle.pv_ast.specs.declared.Program.{Program}
use Rattle.pv_reading.specs.Marks.{Marked, plain, begins_at, across, fixed_at, word_at}
use Rattle.pv_reading.specs.Spelled.{Rule}
use Rattle.pv_reading.specs.Reading.{is_fixed, name_of, listed_in}
use Rattle.pv_reading.proofs.Nexts.{Nexts, anything, knows, either, sub_refl, sub_anything, sub_either, sub_fixed, sub_name, sub_table, sub_left}
use Rattle.pv_reading.proofs.Exact.{Begins, Exact, Is, is, by_is, Then, seq, Or, AtFixed, at_fixed, AtName, at_name, AtEntry, at_entry, exact_as, exact_wider, exact_give, exact_bind}
use Rattle.pv_reading.proofs.Sights.{at_kind, exact_fixed, exact_entry, exact_expect, exact_expect_name, deep_enough, none_deeper, one_deeper, opening_opened, makes_is, makes_then, makes_fixed}
use Rattle.pv_reading.proofs.Loops.{Many, many_end, many_more, exact_many, Repeated, repeated_end, repeated_more, BehindAll, exact_repeated}
use Rattle.pv_exprs.specs.Grammar as x
use Rattle.pv_exprs.specs.Reading.{Readers, deeper}
use Rattle.pv_exprs.proofs.Ranks.{above, starts}
use Rattle.pv_exprs.proofs.Exactness.{readers_known}
use Rattle.pv_exprs.proofs.Rules.{Knows}
use Rattle.pv_clauses.specs.Grammar as c
use Rattle.pv_clauses.specs.Grammar.{IsClauses, clause_words, clause_of}
use Rattle.pv_clauses.proofs.Exactness.{ClauseRule, ClausesRule, to_clauses, from_clauses, clause_exact, more_clauses_exact}
use Rattle.pv_parser.specs.Words.{base_words, class_of}
use Rattle.pv_parser.specs.Trees.{param_of, predicate_of, method_of, run_of, class_at, program_of}
use Rattle.pv_parser.specs.Grammar as g
use Rattle.pv_parser.specs.Reading
use Rattle.pv_parser.specs.Reading.{Blocks, deeper_blocks}
use Rattle.pv_parser.proofs.ExactParts.{EndRule, starts_type, type_exact, params_exact, to_param_rest, from_param_rest, param_rest_makes, formula_end_exact}
use Rattle.pv_parser.proofs.ExactStatements.{BlockRule, KnowsBlocks, block_exact, stmt_exact, choice_exact}

abbrev pub MethodEnd : ℕ → Span → List Clause → Option TypeWord → Word → Rule Member
MethodEnd d s cs t w = Then (g.IsParams d) (λ ps. Then (BlockRule d) (λ b. Is (method_of s cs t w ps b.0 b.1)))

abbrev pub RunEnd : ℕ → Span → List Clause → Span → Rule Member
RunEnd d s cs r = Then (BlockRule d) (λ b. Is (run_of s cs r b.0 b.1))

abbrev pub ResultRule : ℕ → Rule (Option TypeWord)
ResultRule d = Or (AtFixed VOID d (λ s. Is None)) (Then (g.IsType d) (λ t. Is (Some t)))

abbrev pub Contracted : ℕ → Span → List Clause → Rule Member
Contracted d s cs = Or (AtFixed RUN d (RunEnd d s cs)) (Then (g.IsResult d) (λ t. AtName d (λ w. MethodEnd d s cs t w)))

abbrev pub ContractMember : ℕ → ClauseKind → Span → Rule Member
ContractMember d k s = Then (ClauseRule d k) (λ c. Then (BehindAll (c ∷ []) (ClausesRule d)) (Contracted d s))

abbrev pub PredicateRule : ℕ → Span → Rule Member
PredicateRule d s =
    AtName d (λ w. Then (g.IsParams d) (λ ps. AtFixed ASSIGN d
    (λ q. Then (EndRule d (x.IsFormula d)) (λ y. Is (predicate_of s w ps y.0 y.1)))))

abbrev pub TypedRest : ℕ → TypeWord → Word → Rule Member
TypedRest d t w = Or (AtFixed SEMICOLON d (λ l. Is (variant.Field (param_of t w)))) (MethodEnd d t.span [] (Some t) w)

abbrev pub TypedMember : ℕ → Rule Member
TypedMember d = Then (g.IsType d) (λ t. AtName d (TypedRest d t))

abbrev pub MemberRule : ℕ → Rule Member
MemberRule d =
    Or (AtEntry clause_of d (ContractMember d))
    (Or (AtFixed VOID d (λ s. AtName d (MethodEnd d s [] None)))
    (Or (AtFixed RUN d (λ s. RunEnd d s [] s))
    (Or (AtFixed RESOURCE d (PredicateRule d))
    (TypedMember d))))

abbrev pub ClassEnd : ℕ → Span → Option Expr → Rule Class
ClassEnd d s a =
    AtName d (λ w. AtFixed OPEN_BRACE (suc d) (λ q.
    Then (Many CLOSE_BRACE (suc d) (g.IsMember (suc d))) (λ x. Is (class_at s a w x.0 x.1))))

abbrev pub ClassFrom : ℕ → Bool → Span → Rule Class
ClassFrom d true s = Then (EndRule d (x.IsFormula d)) (λ y. AtFixed CLASS d (λ c. ClassEnd d s (Some y.0.tree)))
ClassFrom d false s = ClassEnd d s None

abbrev pub begins_member : List (ℕ × Unit {0})
begins_member =
    (REQUIRES, tt) ∷ (ENSURES, tt) ∷ (CONTEXT, tt) ∷ (VOID, tt) ∷ (RUN, tt) ∷ (RESOURCE, tt) ∷ (INT, tt) ∷ (BOOLEAN, tt)
    ∷ (BOOL, tt) ∷ []

abbrev pub starts_member : Nexts
starts_member = either (knows name_of) (knows (listed_in begins_member))

module _ (d : ℕ) where
  to_result : (us : Marked) (t : Option TypeWord) (vs : Marked) → ResultRule d us t vs → g.IsResult d us t vs
  to_result us t vs (inl (at_fixed is)) = g.no_result
  to_result us t vs (inr (seq p is)) = g.result p

  from_result : (us : Marked) (t : Option TypeWord) (vs : Marked) → g.IsResult d us t vs → ResultRule d us t vs
  from_result us t vs g.no_result = inl (at_fixed is)
  from_result us t vs (g.result p) = inr (seq p is)

  -- the span of a member begins where its type does
  type_begins : (us : Marked) (t : TypeWord) (vs : Marked) (l : Span) → g.IsType d us t vs
      → across t.span l ≡ across (begins_at (plain us)) l
  type_begins us t vs l (g.base h) = refl
  type_begins us t vs l (g.array h) = refl
  type_begins us t vs l g.object = refl

  method_begins : (s r l : Span) (cs : List Clause) (t : Option TypeWord) (w : Word) (ps : List Param) (b : List Stmt)
      → across s l ≡ across r l → method_of s cs t w ps b l ≡ method_of r cs t w ps b l
  method_begins s r l cs t w ps b h =
      ap (λ z. variant.Method (record {
        span = z;
        name = w;
        result = t;
        params = ps;
        contract = record { clauses = cs };
        body = b;
      })) h

  to_contracted : (us : Marked) (cs : List Clause) (zs : Marked) (b : Member) (vs : Marked) → IsClauses d us cs zs
      → Contracted d (begins_at (plain us)) cs zs b vs → g.IsMember d us b vs
  to_contracted us cs zs b vs p (inl (at_fixed (seq r i))) = by_is (g.IsMember d) i (g.run p r)
  to_contracted us cs zs b vs p (inr (seq t (at_name (seq q (seq r i))))) = by_is (g.IsMember d) i (g.method p t q r)

  to_typed : (us : Marked) (t : TypeWord) (w : Word) (ws : Marked) (b : Member) (vs : Marked)
      → g.IsType d us t ((word_at w, d) ∷ ws) → TypedRest d t w ws b vs → g.IsMember d us b vs
  to_typed us t w ws b vs p (inl (at_fixed is)) = g.field p
  to_typed us t w ws b vs p (inr (seq {a = ps} q (seq {vs = ys} {a = z} r i))) =
      by_is (g.IsMember d) i (subst (λ y. g.IsMember d us y ys)
      (sym (method_begins t.span (begins_at (plain us)) z.1 [] (Some t) w ps z.0
      (type_begins us t ((word_at w, d) ∷ ws) z.1 p))) (g.method c.no_clause (g.result p) q r))

  to_member : (us : Marked) (b : Member) (vs : Marked) → MemberRule d us b vs → g.IsMember d us b vs
  to_member us b vs (inl (at_entry {x = y} {b = k} {us = ws} h
      (seq {vs = xs} {a = z} (seq p (at_fixed is)) (seq {vs = zs} {a = cs} q r)))) =
      to_contracted us cs zs b vs (subst (λ y. IsClauses d us y zs) (sym q.all) (c.clause h p (to_clauses d xs q.next zs q.rest)))
      r
  to_member us b vs (inr (inl (at_fixed (at_name (seq q (seq r i)))))) =
      by_is (g.IsMember d) i (g.method c.no_clause g.no_result q r)
  to_member us b vs (inr (inr (inl (at_fixed (seq r i))))) = by_is (g.IsMember d) i (g.run c.no_clause r)
  to_member us b vs (inr (inr (inr (inl (at_fixed (at_name (seq q (at_fixed (seq (seq p (at_fixed is)) i))))))))) =
      by_is (g.IsMember d) i (g.predicate q p)
  to_member us b vs (inr (inr (inr (inr (seq {a = t} p (at_name {w = w} {us = ws} r)))))) = to_typed us t w ws b vs p r

  from_method : (us : Marked) (l : Span) (w : Word) (t : Option TypeWord) (vs ws xs ys : Marked) (cs : List Clause)
      (ps : List Param) (b : List Stmt)
      → IsClauses d us cs vs → g.IsResult d vs t ((word_at w, d) ∷ ws) → g.IsParams d ws ps xs → g.IsBlock d xs b l ys
      → MemberRule d us (method_of (begins_at (plain us)) cs t w ps b l) ys
  from_method us l w t vs ws xs ys cs ps b c.no_clause g.no_result q r =
      inr (inl (at_fixed (at_name (seq q (seq {a = (b, l)} r is)))))
  from_method us l w t vs ws xs ys cs ps b c.no_clause (g.result {t = k} p) q r =
      subst (λ y. MemberRule d us y ys) (method_begins k.span (begins_at (plain us)) l [] (Some k) w ps b
      (type_begins us k ((word_at w, d) ∷ ws) l p))
      (inr (inr (inr (inr (seq p (at_name (inr (seq q (seq {a = (b, l)} r is)))))))))
  from_method us l w t vs ws xs ys cs ps b (c.clause {vs = zs} {cs = ds} h f rest) p q r =
      inl (at_entry h (seq (seq f (at_fixed is)) (seq (record { next = ds; all = refl; rest = from_clauses d zs ds vs rest })
      (inr (seq p (at_name (seq q (seq {a = (b, l)} r is))))))))

  from_run : (us : Marked) (r l : Span) (vs ws : Marked) (cs : List Clause) (b : List Stmt)
      → IsClauses d us cs ((fixed_at RUN r, d) ∷ vs) → g.IsBlock d vs b l ws
      → MemberRule d us (run_of (begins_at (plain us)) cs r b l) ws
  from_run us r l vs ws cs b c.no_clause p = inr (inr (inl (at_fixed (seq {a = (b, l)} p is))))
  from_run us r l vs ws cs b (c.clause {vs = zs} {cs = ds} h f rest) p =
      inl (at_entry h (seq (seq f (at_fixed is)) (seq
      (record { next = ds; all = refl; rest = from_clauses d zs ds ((fixed_at RUN r, d) ∷ vs) rest })
      (inl (at_fixed (seq {a = (b, l)} p is))))))

  from_member : (us : Marked) (b : Member) (vs : Marked) → g.IsMember d us b vs → MemberRule d us b vs
  from_member us b vs (g.field p) = inr (inr (inr (inr (seq p (at_name (inl (at_fixed is)))))))
  from_member us b vs (g.predicate q p) =
      inr (inr (inr (inl (at_fixed (at_name (seq q (at_fixed (seq (seq p (at_fixed is)) is))))))))
  from_member us b vs (g.method {l = l} {w = w} {t = t} {vs = ws} {ws = xs} {xs = ys} {cs = cs} {ps = ps} {b = z} p t' q r) =
      from_method us l w t ws xs ys vs cs ps z p t' q r
  from_member us b vs (g.run {r = q} {l = l} {vs = ws} {cs = cs} {b = z} p r) = from_run us q l ws vs cs z p r

  to_members : (us : Marked) (z : List Member × Span) (vs : Marked) → Many CLOSE_BRACE d (g.IsMember d) us z vs
      → g.IsMembers d us z.0 z.1 vs
  to_members us z vs many_end = g.no_member
  to_members us z vs (many_more {vs = ws} {xs = xs} {l = l} p q) = g.next_member p (to_members ws (xs, l) vs q)

  from_members : (us : Marked) (xs : List Member) (l : Span) (vs : Marked) → g.IsMembers d us xs l vs
      → Many CLOSE_BRACE d (g.IsMember d) us (xs, l) vs
  from_members us xs l vs g.no_member = many_end
  from_members us xs l vs (g.next_member {vs = ws} {ms = ys} p q) = many_more p (from_members ws ys l vs q)

-- the word with which a class begins
abbrev class_number : Bool → ℕ
class_number true = LOCK_INVARIANT
class_number false = CLASS

class_entry : (j : ℕ) (b : Bool) → class_of (k.Fixed j) ≡ Some b → j ≡ class_number b
class_entry j b h =
    let go : (p q : Bool) → nat_eq j LOCK_INVARIANT ≡ p → nat_eq j CLASS ≡ q
    → cond p (Some true) (cond q (Some false) None) ≡ Some b → j ≡ class_number b = elim [
      | true ↦ λ q f g e. let i : true ≡ b = cc in eqb-true j LOCK_INVARIANT f ∙ ap class_number i
      | false ↦ elim [ true ↦ λ f g e. let i : false ≡ b = cc in eqb-true j CLASS g ∙ ap class_number i | false ↦ λ f g e. cc ]
    ] in
    go (nat_eq j LOCK_INVARIANT) (nat_eq j CLASS) refl refl h

class_kind : (x : LexemeKind) (b : Bool) → class_of x ≡ Some b → x ≡ k.Fixed (class_number b)
class_kind (k.Fixed j) b h = ap k.Fixed (class_entry j b h)
class_kind (k.Named n) b h = cc
class_kind (k.Number n) b h = cc

class_token : (y : Lexeme) (b : Bool) → class_of y.kind ≡ Some b → y ≡ fixed_at (class_number b) y.span
class_token y b h = at_kind y (k.Fixed (class_number b)) (class_kind y.kind b h)

module _ (d : ℕ) where
  to_class : (us : Marked) (a : Class) (vs : Marked) → AtEntry class_of d (ClassFrom d) us a vs → g.IsClass d us a vs
  to_class us a vs (at_entry {x = y} {b = true} {us = ws} h
      (seq (seq {a = f} p (at_fixed is)) (at_fixed (at_name {w = w} (at_fixed (seq {us = xs} {vs = zs} {a = z} q i)))))) =
      by_is (g.IsClass d) i (subst (λ y'. g.IsClass d ((y', d) ∷ ws) (class_at y.span (Some f.tree) w z.0 z.1) zs)
      (sym (class_token y true h)) (g.lock_class p (to_members (suc d) xs z zs q)))
  to_class us a vs (at_entry {x = y} {b = false} {us = ws} h (at_name {w = w} (at_fixed (seq {us = xs} {vs = zs} {a = z} q i)))) =
      by_is (g.IsClass d) i (subst (λ y'. g.IsClass d ((y', d) ∷ ws) (class_at y.span None w z.0 z.1) zs)
      (sym (class_token y false h)) (g.plain_class (to_members (suc d) xs z zs q)))

  from_class : (us : Marked) (a : Class) (vs : Marked) → g.IsClass d us a vs → AtEntry class_of d (ClassFrom d) us a vs
  from_class us a vs (g.plain_class {l = l} {us = ws} {ms = ms} p) =
      at_entry {b = false} refl (at_name (at_fixed (seq {a = (ms, l)} (from_members (suc d) ws ms l vs p) is)))
  from_class us a vs (g.lock_class {l = l} {vs = ws} {ms = ms} p q) =
      at_entry {b = true} refl (seq (seq p (at_fixed is))
      (at_fixed (at_name (at_fixed (seq {a = (ms, l)} (from_members (suc d) ws ms l vs q) is)))))

  to_classes : (us : Marked) (cs : List Class) (vs : Marked) → Repeated class_of d (ClassFrom d) us cs vs → g.IsClasses d us cs vs
  to_classes us cs vs repeated_end = g.no_class
  to_classes us cs vs (repeated_more {y = y} {b = b} {us = zs} {vs = ws} {x = a} {xs = xs} h p q) =
      g.next_class (to_class ((y, d) ∷ zs) a ws (at_entry h p)) (to_classes ws xs vs q)

  more_classes : (us : Marked) (a : Class) (ws : Marked) (xs : List Class) (vs : Marked)
      → AtEntry class_of d (ClassFrom d) us a ws → Repeated class_of d (ClassFrom d) ws xs vs
      → Repeated class_of d (ClassFrom d) us (a ∷ xs) vs
  more_classes us a ws xs vs (at_entry h p) q = repeated_more h p q

  from_classes : (us : Marked) (cs : List Class) (vs : Marked) → g.IsClasses d us cs vs
      → Repeated class_of d (ClassFrom d) us cs vs
  from_classes us cs vs g.no_class = repeated_end
  from_classes us cs vs (g.next_class {vs = ws} {x = a} {cs = xs} p q) =
      more_classes us a ws xs vs (from_class us a ws p) (from_classes ws xs vs q)

to_program : (length : Option Name) (us : Marked) (p : Program) (vs : Marked)
    → Then (g.IsClasses 0) (λ cs. Is (program_of length cs)) us p vs → g.IsProgram length us p vs
to_program length us p vs (seq q is) = g.classes q

from_program : (length : Option Name) (us : Marked) (p : Program) (vs : Marked) → g.IsProgram length us p vs
    → Then (g.IsClasses 0) (λ cs. Is (program_of length cs)) us p vs
from_program length us p vs (g.classes q) = seq q is

members_makes : (d : ℕ) → Begins (Many CLOSE_BRACE d (g.IsMember d)) []
members_makes d = let l : Span = record { from = 0; to = 0 } in ((fixed_at CLOSE_BRACE l, d) ∷ [], ([], l), λ rest. many_end)

params_makes : (d : ℕ) → Begins (g.IsParams d) []
params_makes d =
    let x = makes_fixed OPEN_PAREN (suc d) (λ s. param_rest_makes (suc d)) in (x.0, x.1, λ rest. to_param_rest d _ _ _ (x.2 rest))

module _ (L d n : ℕ) (same : L ≡ d + n) (o : Option Blocks) (DB : KnowsBlocks L d starts_member o) where
  abbrev e : Option Readers
  e = deeper n

  le : d ≤ L
  le = omega (arith, same)

  D : Knows L d (deeper n)
  D = readers_known n L d same

  params_read : Exact L (knows (is_fixed OPEN_PAREN)) anything (g.IsParams d) (Reading.params o)
  unfolding Reading.params
  params_read =
      exact_as (to_param_rest d) (from_param_rest d)
      (exact_expect OPEN_PAREN (λ s. opening_opened DB (param_rest_makes (suc d))
      (λ p lt K. params_exact L (suc d) p.exprs lt K.exprs)))

  method_end_exact : (s : Span) (cs : List Clause) (t : Option TypeWord) (w : Word)
      → Exact L (knows (is_fixed OPEN_PAREN)) anything (MethodEnd d s cs t w) (Reading.method_end o s cs t w)
  unfolding Reading.method_end
  method_end_exact s cs t w =
      exact_bind (sub_anything _) params_read (λ ps.
      exact_bind (sub_anything _) (block_exact L d n same starts_member o DB) (λ b. exact_give _))

  run_end_exact : (s : Span) (cs : List Clause) (r : Span)
      → Exact L (knows (is_fixed OPEN_BRACE)) anything (RunEnd d s cs r) (Reading.run_end o s cs r)
  unfolding Reading.run_end
  run_end_exact s cs r = exact_bind (sub_anything _) (block_exact L d n same starts_member o DB) (λ b. exact_give _)

  result_exact : Exact L (either (knows (is_fixed VOID)) starts_type) (above 1) (g.IsResult d) (Reading.result_type e)
  unfolding Reading.result_type
  result_exact =
      exact_as (to_result d) (from_result d) (exact_fixed VOID (λ s. deep_enough le (exact_give None)) refl
      (exact_bind (sub_refl (above 1)) (type_exact L d e le D) (λ t. exact_give (Some t))))

  contracted_exact : (s : Span) (cs : List Clause)
      → Exact L (either (knows (is_fixed RUN)) (either (knows (is_fixed VOID)) starts_type)) anything (Contracted d s cs)
      (Reading.contracted e o s cs)
  unfolding Reading.contracted
  contracted_exact s cs =
      exact_fixed RUN (λ r. deep_enough le (run_end_exact s cs r)) refl
      (exact_bind (sub_name (λ n. refl)) result_exact (λ t. exact_expect_name (λ w. deep_enough le (method_end_exact s cs t w))))

  contract_exact : (k : ClauseKind) (s : Span) → Exact L starts anything (ContractMember d k s) (Reading.contract_member e o k s)
  unfolding Reading.contract_member
  contract_exact k s = exact_bind (sub_anything _) (clause_exact L d e le D k) (λ c. exact_bind
      (sub_either (sub_fixed RUN refl) (sub_either (sub_fixed VOID refl)
      (sub_either (sub_name (λ n. refl)) (sub_table base_words (refl, (refl, (refl, tt)))))))
      (more_clauses_exact L d e le D (c ∷ [])) (contracted_exact s))

  predicate_exact : (s : Span) → Exact L (knows name_of) anything (PredicateRule d s) (Reading.predicate e o s)
  unfolding Reading.predicate
  predicate_exact s =
      exact_expect_name (λ w. deep_enough le (exact_bind (sub_anything _) params_read
      (λ ps. exact_expect ASSIGN (λ q. deep_enough le
      (exact_bind (sub_anything _) (formula_end_exact L d e le D) (λ y. exact_give _))))))

  typed_exact : Exact L starts_type anything (TypedMember d) (Reading.typed_member e o)
  unfolding Reading.typed_member Reading.typed
  typed_exact =
      exact_bind (sub_name (λ n. refl)) (type_exact L d e le D)
      (λ t. exact_expect_name (λ w. deep_enough le
      (exact_fixed SEMICOLON (λ l. deep_enough le (exact_give _)) refl (method_end_exact t.span [] (Some t) w))))

  pub member_exact : Exact L starts_member anything (g.IsMember d) (Reading.member e o)
  unfolding Reading.member
  member_exact = exact_as (to_member d) (from_member d) (exact_wider
      (sub_either (sub_table clause_words (refl, (refl, (refl, tt))))
      (sub_either (sub_fixed VOID refl) (sub_either (sub_fixed RUN refl)
      (sub_either (sub_fixed RESOURCE refl) (sub_either (sub_left _ (sub_refl _))
      (sub_table base_words (refl, (refl, (refl, tt)))))))))
      (sub_refl anything)
      (exact_entry clause_words (λ k s. deep_enough le (contract_exact k s)) (refl, (refl, (refl, tt)))
      (exact_fixed VOID (λ s. deep_enough le (exact_expect_name (λ w. deep_enough le (method_end_exact s [] None w)))) refl
      (exact_fixed RUN (λ s. deep_enough le (run_end_exact s [] s)) refl
      (exact_fixed RESOURCE (λ s. deep_enough le (predicate_exact s)) refl typed_exact)))))

  class_end_exact : (s : Span) (a : Option Expr) → Exact L (knows name_of) anything (ClassEnd d s a) (Reading.class_end o s a)
  unfolding Reading.class_end
  class_end_exact s a =
      exact_expect_name (λ w. deep_enough le (exact_expect OPEN_BRACE
      (λ q. opening_opened DB (makes_then (members_makes (suc d)) (λ x. makes_is _))
      (λ p lt K. exact_bind (sub_anything _) (exact_many CLOSE_BRACE lt K.member refl refl refl refl (sub_anything _))
      (λ x. exact_give _)))))

  pub class_exact : (b : Bool) (s : Span)
      → (first : Nexts) × Exact L first anything (ClassFrom d b s) (Reading.class_from e o b s)
  unfolding Reading.class_from
  class_exact true s = (
    starts,
    exact_bind (sub_anything _) (formula_end_exact L d e le D)
        (λ y. exact_expect CLASS (λ c. deep_enough le (class_end_exact s (Some y.0.tree)))),
  )
  class_exact false s = (knows name_of, class_end_exact s None)

-- All readers, at each depth.

pub blocks_known : (n L d : ℕ) → L ≡ d + n → KnowsBlocks L d starts_member (deeper_blocks n)
unfolding deeper_blocks
blocks_known zero L d h = none_deeper (omega (arith, h))
blocks_known (suc n) L d h =
    let same : L ≡ suc d + n = omega (arith, h) in
    let DB = blocks_known n L (suc d) same in
    one_deeper (omega (arith, h)) (record {
      exprs = readers_known n L (suc d) same;
      stmt = stmt_exact L (suc d) n same starts_member (deeper_blocks n) DB;
      choice = choice_exact L (suc d) n same starts_member (deeper_blocks n) DB;
      member = member_exact L (suc d) n same (deeper_blocks n) DB;
    })

-- what is no word with which a class begins
abbrev pub no_class_word : Nexts
no_class_word o = not (knows class_of o)

not_known : (b : Bool) → b ≡ true → not b ≡ false
not_known true h = refl
not_known false h = cc

pub program_exact : (n : ℕ) (length : Option Name)
    → Exact n (either (knows class_of) no_class_word) no_class_word (g.IsProgram length) (Reading.program n length)
unfolding Reading.program Reading.classes
program_exact n length = exact_as (λ us p vs i. to_program length us p vs i) (λ us p vs i. from_program length us p vs i)
    (exact_bind (sub_refl no_class_word) (exact_as (to_classes 0) (from_classes 0)
    (exact_repeated {last = no_class_word} (omega arith)
    (class_exact n 0 n (omega arith) (deeper_blocks n) (blocks_known n n 0 (omega arith)))
    (record { lacks = λ x b h. not_known (is_some (class_of x)) (ap is_some h) }) (sub_anything _)))
    (λ cs. exact_give (program_of length cs)))
