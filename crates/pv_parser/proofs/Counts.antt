-- No more numbers are written in a program than it has tokens.
use Rattle.std.proofs.Common.{ℕ, suc, ◌≡◌, ◌+◌, ◌≤◌, List, [], ◌∷◌, length, sum as total, map, Option, Some, None, Bool, true, false, refl, ap, arith}
use Rattle.pv_base.specs.declared.Name.{Name}
use Rattle.pv_base.specs.declared.Span.{Span}
use Rattle.pv_tokens.specs.declared.Lexeme.{Lexeme}
use Rattle.pv_ast.specs.Measures.{literals_of, literals_of_all, literals_of_option, literals_of_right, literals_of_right_option, literals_of_contract, literals_of_range, literals_in_stmt_kind, literals_in_stmt, literals_of_stmt, literals_of_stmt_kind, literals_of_block, literals_of_member, literals_of_class, literals_of_program}
use Rattle.pv_ast.specs.declared.Word.{Word}
use Rattle.pv_ast.specs.declared.TypeWord.{TypeWord}
use Rattle.pv_ast.specs.declared.Expr.{Expr}
use Rattle.pv_ast.specs.declared.Right.{Right}
use Rattle.pv_ast.specs.declared.Range.{Range}
use Rattle.pv_ast.specs.declared.Contract.{Contract}
use Rattle.pv_ast.specs.declared.Stmt.{Stmt}
use Rattle.pv_ast.specs.declared.StmtKind.{StmtKind}
use Rattle.pv_ast.specs.declared.StmtKind.TheVariants as st
use Rattle.pv_ast.specs.declared.Param.{Param}
use Rattle.pv_ast.specs.declared.Member.{Member}
use Rattle.pv_ast.specs.declared.Class.{Class}
use Rattle.pv_ast.specs.declared.Program.{Program}
use Rattle.pv_reading.specs.Marks.{Marked, plain, across, begins_at}
use Rattle.pv_reading.specs.Spelled.{SpellsWithin}
use Rattle.pv_exprs.specs.declared.part.Part.{Part}
use Rattle.pv_exprs.specs.Trees.{tree_of, start_of}
use Rattle.pv_parser.specs.declared.words.Action.{Action}
use Rattle.pv_parser.specs.declared.words.Action.TheVariants as action
use Rattle.pv_parser.specs.Trees.{stmt_of, action_kind, folding_kind}
use Rattle.pv_parser.specs.Grammar as g
use Rattle.pv_parser.proofs.Folds as f
use Rattle.pv_parser.proofs.ExprCounts.{count, of_name, of_this_node, more_total, joined_counts, steps_count, some_steps_count, target_counts, args_count, formula_counts, clauses_count}

-- the equations of the folds

of_stmt : (s l : Span) (x : StmtKind) → literals_of_stmt (stmt_of s l x) ≡ literals_of_stmt_kind x
of_stmt s l x = f.at_stmt literals_in_stmt_kind literals_in_stmt (across s l) x

of_local : (t : TypeWord) (w : Word) (r : Option Right) → literals_of_stmt_kind (st.Local t w r) ≡ literals_of_right_option r
of_local = f.at_local literals_in_stmt_kind literals_in_stmt

of_assign : (a : Expr) (r : Right) → literals_of_stmt_kind (st.Assign a r) ≡ literals_of a + literals_of_right r
of_assign = f.at_assign literals_in_stmt_kind literals_in_stmt

of_call : (o : Option Expr) (w : Word) (xs : List Expr)
    → literals_of_stmt_kind (st.Call o w xs) ≡ literals_of_option o + literals_of_all xs
of_call = f.at_call literals_in_stmt_kind literals_in_stmt

of_if : (c : Expr) (b x : List Stmt)
    → literals_of_stmt_kind (st.If c b x) ≡ literals_of c + literals_of_block b + literals_of_block x
of_if = f.at_if literals_in_stmt_kind literals_in_stmt

of_while : (is : List Expr) (c : Expr) (b : List Stmt)
    → literals_of_stmt_kind (st.While is c b) ≡ literals_of_all is + literals_of c + literals_of_block b
of_while = f.at_while literals_in_stmt_kind literals_in_stmt

of_for : (r : Range) (c : Contract) (b : List Stmt)
    → literals_of_stmt_kind (st.For r c b) ≡ literals_of_range r + literals_of_contract c + literals_of_block b
of_for = f.at_for literals_in_stmt_kind literals_in_stmt

of_par : (n : Option Word) (r : Range) (c : Contract) (b : List Stmt)
    → literals_of_stmt_kind (st.Par n r c b) ≡ literals_of_range r + literals_of_contract c + literals_of_block b
of_par = f.at_par literals_in_stmt_kind literals_in_stmt

of_barrier : (w : Word) (c : Contract) → literals_of_stmt_kind (st.Barrier w c) ≡ literals_of_contract c
of_barrier = f.at_barrier literals_in_stmt_kind literals_in_stmt

of_action : (x : Action) (a : Expr) → literals_of_stmt_kind (action_kind x a) ≡ literals_of a
of_action action.Fork a = f.at_fork literals_in_stmt_kind literals_in_stmt a
of_action action.Join a = f.at_join literals_in_stmt_kind literals_in_stmt a
of_action action.Lock a = f.at_lock literals_in_stmt_kind literals_in_stmt a
of_action action.Unlock a = f.at_unlock literals_in_stmt_kind literals_in_stmt a
of_action action.Commit a = f.at_commit literals_in_stmt_kind literals_in_stmt a

of_folding : (x : Bool) (o : Option Expr) (w : Word) (xs : List Expr)
    → literals_of_stmt_kind (folding_kind x o w xs) ≡ literals_of_option o + literals_of_all xs
of_folding true o w xs = f.at_unfold literals_in_stmt_kind literals_in_stmt o w xs
of_folding false o w xs = f.at_fold literals_in_stmt_kind literals_in_stmt o w xs

of_assert : (a : Expr) → literals_of_stmt_kind (st.Assert a) ≡ literals_of a
of_assert = f.at_assert literals_in_stmt_kind literals_in_stmt

of_send : (w : Word) (n : ℕ) (a : Expr) → literals_of_stmt_kind (st.Send w n a) ≡ 1 + literals_of a
of_send = f.at_send literals_in_stmt_kind literals_in_stmt

of_recv : (w : Word) → literals_of_stmt_kind (st.Recv w) ≡ 0
of_recv = f.at_recv literals_in_stmt_kind literals_in_stmt

of_return : (a : Option Expr) → literals_of_stmt_kind (st.Return a) ≡ literals_of_option a
of_return = f.at_return literals_in_stmt_kind literals_in_stmt

-- types, parameters and right sides

type_counts : {d : ℕ} {us vs : Marked} {t : TypeWord} → g.IsType d us t vs → length vs ≤ length us
type_counts (g.base h) = omega arith
type_counts (g.array h) = omega arith
type_counts g.object = omega arith

param_list_counts : {d : ℕ} {us vs : Marked} {ps : List Param} → g.IsParamList d us ps vs → length vs ≤ length us
param_list_counts (g.last_param p) = omega (arith, type_counts p)
param_list_counts (g.next_param p q) = omega (arith, type_counts p, param_list_counts q)

params_count : {d : ℕ} {us vs : Marked} {ps : List Param} → g.IsParams d us ps vs → length vs ≤ length us
params_count g.no_params = omega arith
params_count (g.params p) = omega (arith, param_list_counts p)

right_counts : {d : ℕ} {us vs : Marked} {r : Right} → g.IsRight d us r vs → literals_of_right r + length vs ≤ length us
right_counts (g.value p) = joined_counts p
right_counts (g.call_value p q) = omega (arith, target_counts p, args_count q)
right_counts g.object_value = omega arith
right_counts (g.array_value h p) = omega (arith, joined_counts p)

place_counts : {d : ℕ} {us vs : Marked} {a : Part} → g.IsPlace d us a vs → count a + length vs ≤ length us
place_counts (g.name_place {w = w} p) = omega (arith, steps_count p, of_name w)
place_counts (g.this_place {s = s} p) = omega (arith, some_steps_count p, of_this_node s)

range_counts : {d : ℕ} {us vs : Marked} {r : Range} → g.IsRange d us r vs → literals_of_range r + length vs ≤ length us
range_counts (g.range p q) = omega (arith, joined_counts p, joined_counts q)

condition_counts : {d : ℕ} {us vs : Marked} {a : Part} → g.IsCondition d us a vs → count a + length vs ≤ length us
condition_counts (g.condition p) = omega (arith, joined_counts p)

invariants_count : {d : ℕ} {us vs : Marked} {is : List Expr} → g.IsInvariants d us is vs
    → literals_of_all is + length vs ≤ length us
invariants_count g.no_invariant = omega arith
invariants_count (g.invariant {a = a} {fs = is} p q) =
    omega (arith, formula_counts p, invariants_count q, more_total literals_of a.tree is)

label_counts : {d : ℕ} {us vs : Marked} {w : Option Word} → g.IsLabel d us w vs → length vs ≤ length us
label_counts g.no_label = omega arith
label_counts g.label = omega arith

-- statements

mutual
  stmt_counts : {d : ℕ} {us vs : Marked} {x : Stmt} → g.IsStmt d us x vs → literals_of_stmt x + length vs ≤ length us
  stmt_counts (g.declared {t = t} {w = w} {l = l} p) =
      omega (arith, type_counts p, of_stmt t.span l (st.Local t w None), of_local t w None)
  stmt_counts (g.local {t = t} {w = w} {l = l} {r = r} p q) =
      omega (arith, type_counts p, right_counts q, of_stmt t.span l (st.Local t w (Some r)), of_local t w (Some r))
  stmt_counts (g.assign {l = l} {a = a} {r = r} p q) =
      omega (arith, place_counts p, right_counts q, of_stmt a.span l (st.Assign a.tree r), of_assign a.tree r)
  stmt_counts (g.call {w = w} {l = l} {a = a} {xs = xs} p q) =
      omega (arith, target_counts p, args_count q, of_stmt (start_of a w) l (st.Call (tree_of a) w xs), of_call (tree_of a) w xs)
  stmt_counts (g.choice p) = omega (arith, choice_counts p)
  stmt_counts (g.repetition {l = l} {us = us} {fs = is} {c = c} {b = b} p q r) =
      omega (
        arith,
        invariants_count p,
        condition_counts q,
        block_counts r,
        of_stmt (begins_at (plain us)) l (st.While is c.tree b),
        of_while is c.tree b,
      )
  stmt_counts (g.counted {s = s} {l = l} {g = r} {cs = cs} {b = b} p q x) =
      omega (
        arith,
        range_counts p,
        clauses_count q,
        block_counts x,
        of_stmt s l (st.For r (record { clauses = cs }) b),
        of_for r (record { clauses = cs }) b,
      )
  stmt_counts (g.parallel {s = s} {l = l} {n = n} {g = r} {cs = cs} {b = b} o p q x) =
      omega (
        arith,
        label_counts o,
        range_counts p,
        clauses_count q,
        block_counts x,
        of_stmt s l (st.Par n r (record { clauses = cs }) b),
        of_par n r (record { clauses = cs }) b,
      )
  stmt_counts (g.barrier {s = s} {l = l} {w = w} {cs = cs} p) =
      omega (arith, clauses_count p, of_stmt s l (st.Barrier w (record { clauses = cs })), of_barrier w (record { clauses = cs }))
  stmt_counts (g.action {y = y} {x = x} {l = l} {a = a} h p) =
      omega (arith, joined_counts p, of_stmt y.span l (action_kind x a.tree), of_action x a.tree)
  stmt_counts (g.folding {y = y} {x = x} {w = w} {l = l} {a = a} {xs = xs} h p q) =
      omega (
        arith,
        target_counts p,
        args_count q,
        of_stmt y.span l (folding_kind x (tree_of a) w xs),
        of_folding x (tree_of a) w xs,
      )
  stmt_counts (g.assertion {s = s} {l = l} {a = a} p) =
      omega (arith, formula_counts p, of_stmt s l (st.Assert a.tree), of_assert a.tree)
  stmt_counts (g.send {n = n} {s = s} {l = l} {w = w} {a = a} p) =
      omega (arith, formula_counts p, of_stmt s l (st.Send w n a.tree), of_send w n a.tree)
  stmt_counts (g.recv {s = s} {l = l} {w = w}) = omega (arith, of_stmt s l (st.Recv w), of_recv w)
  stmt_counts (g.return_none {s = s} {l = l}) = omega (arith, of_stmt s l (st.Return None), of_return None)
  stmt_counts (g.return_value {s = s} {l = l} {a = a} p) =
      omega (arith, joined_counts p, of_stmt s l (st.Return (Some a.tree)), of_return (Some a.tree))

  choice_counts : {d : ℕ} {s : Span} {us vs : Marked} {x : Stmt} → g.IsChoice d s us x vs
      → literals_of_stmt x + length vs ≤ length us
  choice_counts (g.chosen p q r) = omega (arith, condition_counts p, block_counts q, else_counts r)

  else_counts : {d : ℕ} {s l : Span} {c : Part} {b : List Stmt} {us vs : Marked} {x : Stmt} → g.ElseFrom d s c b l us x vs
      → literals_of_stmt x + length vs ≤ count c + literals_of_block b + length us
  else_counts (g.no_else {s = s} {l = l} {c = c} {b = b}) = omega (arith, of_stmt s l (st.If c.tree b []), of_if c.tree b [])
  else_counts (g.else_block {s = s} {m = m} {c = c} {b = b} {x = x} p) =
      omega (arith, block_counts p, of_stmt s m (st.If c.tree b x), of_if c.tree b x)
  else_counts (g.else_if {s = s} {c = c} {b = b} {x = x} p) =
      omega (
        arith,
        choice_counts p,
        of_stmt s x.span (st.If c.tree b (x ∷ [])),
        of_if c.tree b (x ∷ []),
        more_total literals_of_stmt x [],
      )

  block_counts : {d : ℕ} {l : Span} {us vs : Marked} {b : List Stmt} → g.IsBlock d us b l vs
      → literals_of_block b + length vs ≤ length us
  block_counts (g.block p) = omega (arith, stmts_count p)

  stmts_count : {d : ℕ} {l : Span} {us vs : Marked} {b : List Stmt} → g.IsStmts d us b l vs
      → literals_of_block b + length vs ≤ length us
  stmts_count g.no_stmt = omega arith
  stmts_count (g.next_stmt {x = x} {b = b} p q) = omega (arith, stmt_counts p, stmts_count q, more_total literals_of_stmt x b)

-- members and classes

result_counts : {d : ℕ} {us vs : Marked} {t : Option TypeWord} → g.IsResult d us t vs → length vs ≤ length us
result_counts (g.result p) = type_counts p
result_counts g.no_result = omega arith

member_counts : {d : ℕ} {us vs : Marked} {x : Member} → g.IsMember d us x vs → literals_of_member x + length vs ≤ length us
member_counts (g.field p) = omega (arith, type_counts p)
member_counts (g.predicate p q) = omega (arith, params_count p, formula_counts q)
member_counts (g.method p q r x) = omega (arith, clauses_count p, result_counts q, params_count r, block_counts x)
member_counts (g.run p q) = omega (arith, clauses_count p, block_counts q)

members_count : {d : ℕ} {l : Span} {us vs : Marked} {ms : List Member} → g.IsMembers d us ms l vs
    → total (map literals_of_member ms) + length vs ≤ length us
members_count g.no_member = omega arith
members_count (g.next_member {x = x} {ms = ms} p q) =
    omega (arith, member_counts p, members_count q, more_total literals_of_member x ms)

class_counts : {d : ℕ} {us vs : Marked} {x : Class} → g.IsClass d us x vs → literals_of_class x + length vs ≤ length us
class_counts (g.plain_class p) = omega (arith, members_count p)
class_counts (g.lock_class p q) = omega (arith, formula_counts p, members_count q)

classes_count : {d : ℕ} {us vs : Marked} {cs : List Class} → g.IsClasses d us cs vs
    → total (map literals_of_class cs) + length vs ≤ length us
classes_count g.no_class = omega arith
classes_count (g.next_class {x = x} {cs = cs} p q) =
    omega (arith, class_counts p, classes_count q, more_total literals_of_class x cs)

program_counts : {word : Option Name} {us vs : Marked} {p : Program} → g.IsProgram word us p vs
    → literals_of_program p + length vs ≤ length us
program_counts (g.classes p) = classes_count p

length-plain : (us : Marked) → length (plain us) ≡ length us
length-plain [] = refl
length-plain (x ∷ us) = ap suc (length-plain us)

pub literals_few : (word : Option Name) (tokens : List Lexeme) (p : Program) → SpellsWithin (g.IsProgram word) 64 tokens p
    → literals_of_program p ≤ length tokens
literals_few word tokens p s = omega (arith, program_counts s.spelled, length-plain s.marks, ap length s.here)
