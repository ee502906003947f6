-- The numbers that are written in a program are those of its tokens: where none of these is too great, none of them is.
use Rattle.std.proofs.Common.{ℕ, ◌≡◌, ◌<◌, ◌^◌, List, [], ◌∷◌, ◌++◌, map, Option, Some, None, Bool, true, false, sym, ◌∙◌, subst, arith}
use Rattle.std.specs.Prelude.{All}
use Rattle.std.specs.List.{flat_map}
use Rattle.std.proofs.lemmas.List.Elements.{All-from_recursion}
use Rattle.pv_base.specs.declared.Name.{Name}
use Rattle.pv_base.specs.declared.Span.{Span}
use Rattle.pv_tokens.specs.declared.Lexeme.{Lexeme}
use Rattle.pv_tokens.specs.Lexemes.{AreWithin}
use Rattle.pv_ast.specs.declared.Word.{Word}
use Rattle.pv_ast.specs.declared.TypeWord.{TypeWord}
use Rattle.pv_ast.specs.declared.Expr.{Expr}
use Rattle.pv_ast.specs.declared.Right.{Right}
use Rattle.pv_ast.specs.declared.Range.{Range}
use Rattle.pv_ast.specs.declared.Stmt.{Stmt}
use Rattle.pv_ast.specs.declared.StmtKind.{StmtKind}
use Rattle.pv_ast.specs.declared.StmtKind.TheVariants as st
use Rattle.pv_ast.specs.declared.Param.{Param}
use Rattle.pv_ast.specs.declared.Member.{Member}
use Rattle.pv_ast.specs.declared.Class.{Class}
use Rattle.pv_ast.specs.declared.Program.{Program}
use Rattle.pv_ast.specs.Rules.Numbers.{flattened, numbers_of, numbers_of_all, numbers_of_option, numbers_of_right, numbers_of_clause, numbers_of_range, numbers_in_stmt_kind, numbers_in_stmt, numbers_of_stmt, numbers_of_stmt_kind, numbers_of_block, numbers_of_member, numbers_of_class, numbers_of_program}
use Rattle.pv_reading.specs.Marks.{Marked, plain, across, begins_at}
use Rattle.pv_reading.specs.Spelled.{SpellsWithin}
use Rattle.pv_exprs.specs.declared.part.Part.{Part}
use Rattle.pv_exprs.specs.Trees.{tree_of, start_of}
use Rattle.pv_parser.specs.declared.words.Action.{Action}
use Rattle.pv_parser.specs.declared.words.Action.TheVariants as action
use Rattle.pv_parser.specs.Trees.{stmt_of, action_kind, folding_kind}
use Rattle.pv_parser.specs.Grammar as g
use Rattle.pv_parser.proofs.Folds as f
use Rattle.pv_parser.proofs.ExprNumbers.{Small, Fits, Both, small_append, carry, flat, numbers, of_this, of_name, joined_small, steps_small, some_steps_small, target_small, args_small, formula_small, clauses_small}

-- the equations of the folds

of_stmt : (s l : Span) (x : StmtKind) → numbers_of_stmt (stmt_of s l x) ≡ numbers_of_stmt_kind x
of_stmt s l x = f.at_stmt numbers_in_stmt_kind numbers_in_stmt (across s l) x

of_action : (x : Action) (a : Expr) → numbers_of_stmt_kind (action_kind x a) ≡ numbers_of a
of_action action.Fork a = f.at_fork numbers_in_stmt_kind numbers_in_stmt a
of_action action.Join a = f.at_join numbers_in_stmt_kind numbers_in_stmt a
of_action action.Lock a = f.at_lock numbers_in_stmt_kind numbers_in_stmt a
of_action action.Unlock a = f.at_unlock numbers_in_stmt_kind numbers_in_stmt a
of_action action.Commit a = f.at_commit numbers_in_stmt_kind numbers_in_stmt a

of_folding : (x : Bool) (o : Option Expr) (w : Word) (xs : List Expr)
    → numbers_of_stmt_kind (folding_kind x o w xs) ≡ numbers_of_option o ++ numbers_of_all xs
of_folding true o w xs = f.at_unfold numbers_in_stmt_kind numbers_in_stmt o w xs
of_folding false o w xs = f.at_fold numbers_in_stmt_kind numbers_in_stmt o w xs

-- a statement of a kind that has small numbers
made : (s l : Span) (x : StmtKind) {ns : List ℕ} → numbers_of_stmt_kind x ≡ ns → Small ns
    → Small (numbers_of_stmt (stmt_of s l x))
made s l x e small = carry (of_stmt s l x ∙ e) small

-- the numbers of a block, as its statement lists them
block_flat : (b : List Stmt) → Small (numbers_of_block b) → Small (flattened (map numbers_of_stmt b))
block_flat b s = carry (flat numbers_of_stmt b) s

-- types, parameters and right sides

type_fits : {d : ℕ} {us vs : Marked} {t : TypeWord} → g.IsType d us t vs → Fits us → Fits vs
type_fits (g.base h) k = k.1
type_fits (g.array h) k = k.1.1.1
type_fits g.object k = k.1

param_list_fits : {d : ℕ} {us vs : Marked} {ps : List Param} → g.IsParamList d us ps vs → Fits us → Fits vs
param_list_fits (g.last_param p) k = (type_fits p k).1.1
param_list_fits (g.next_param p q) k = param_list_fits q (type_fits p k).1.1

params_fit : {d : ℕ} {us vs : Marked} {ps : List Param} → g.IsParams d us ps vs → Fits us → Fits vs
params_fit g.no_params k = k.1.1
params_fit (g.params p) k = param_list_fits p k.1

right_small : {d : ℕ} {us vs : Marked} {r : Right} → g.IsRight d us r vs → Fits us → Both (numbers_of_right r) vs
right_small (g.value p) k = joined_small p k
right_small (g.call_value {a = a} {xs = xs} p q) k =
    let x = target_small p k in
    let y = args_small q x.1 in
    (small_append (numbers_of_option (tree_of a)) (numbers_of_all xs) x.0 y.0, y.1)
right_small g.object_value k = (tt, k.1.1.1.1)
right_small (g.array_value h p) k = let x = joined_small p k.1.1.1 in (x.0, x.1.1)

place_small : {d : ℕ} {us vs : Marked} {a : Part} → g.IsPlace d us a vs → Fits us → Both (numbers a) vs
place_small (g.name_place {w = w} p) k = steps_small p (carry (of_name w) tt) k.1
place_small (g.this_place {s = s} p) k = some_steps_small p (carry (of_this s) tt) k.1

range_small : {d : ℕ} {us vs : Marked} {r : Range} → g.IsRange d us r vs → Fits us → Both (numbers_of_range r) vs
range_small (g.range {a = a} {b = b} p q) k =
    let x = joined_small p k.1.1.1.1 in
    let y = joined_small q x.1.1 in
    (small_append (numbers a) (numbers b) x.0 y.0, y.1.1)

condition_small : {d : ℕ} {us vs : Marked} {a : Part} → g.IsCondition d us a vs → Fits us → Both (numbers a) vs
condition_small (g.condition p) k = let x = joined_small p k.1 in (x.0, x.1.1)

invariants_small : {d : ℕ} {us vs : Marked} {is : List Expr} → g.IsInvariants d us is vs → Fits us → Both (numbers_of_all is) vs
invariants_small g.no_invariant k = (tt, k)
invariants_small (g.invariant {a = a} {fs = is} p q) k =
    let x = formula_small p k.1 in
    let y = invariants_small q x.1.1 in
    (small_append (numbers a) (numbers_of_all is) x.0 y.0, y.1)

label_fits : {d : ℕ} {us vs : Marked} {w : Option Word} → g.IsLabel d us w vs → Fits us → Fits vs
label_fits g.no_label k = k
label_fits g.label k = k.1

-- statements

mutual
  stmt_small : {d : ℕ} {us vs : Marked} {x : Stmt} → g.IsStmt d us x vs → Fits us → Both (numbers_of_stmt x) vs
  stmt_small (g.declared {t = t} {w = w} {l = l} p) k =
      (made t.span l (st.Local t w None) (f.at_local numbers_in_stmt_kind numbers_in_stmt t w None) tt, (type_fits p k).1.1)
  stmt_small (g.local {t = t} {w = w} {l = l} {r = r} p q) k =
      let x = right_small q (type_fits p k).1.1 in
      (made t.span l (st.Local t w (Some r)) (f.at_local numbers_in_stmt_kind numbers_in_stmt t w (Some r)) x.0, x.1.1)
  stmt_small (g.assign {l = l} {a = a} {r = r} p q) k =
      let x = place_small p k in
      let y = right_small q x.1.1 in (
        made a.span l (st.Assign a.tree r) (f.at_assign numbers_in_stmt_kind numbers_in_stmt a.tree r)
            (small_append (numbers a) (numbers_of_right r) x.0 y.0),
        y.1.1,
      )
  stmt_small (g.call {w = w} {l = l} {a = a} {xs = xs} p q) k =
      let x = target_small p k in
      let y = args_small q x.1 in (
        made (start_of a w) l (st.Call (tree_of a) w xs) (f.at_call numbers_in_stmt_kind numbers_in_stmt (tree_of a) w xs)
            (small_append (numbers_of_option (tree_of a)) (numbers_of_all xs) x.0 y.0),
        y.1.1,
      )
  stmt_small (g.choice p) k = choice_small p k.1
  stmt_small (g.repetition {l = l} {us = us} {fs = is} {c = c} {b = b} p q r) k =
      let x = invariants_small p k in
      let y = condition_small q x.1.1 in
      let z = block_small r y.1 in (
        made (begins_at (plain us)) l (st.While is c.tree b) (f.at_while numbers_in_stmt_kind numbers_in_stmt is c.tree b)
            (small_append (numbers_of_all is ++ numbers c) _ (small_append (numbers_of_all is) (numbers c) x.0 y.0)
            (block_flat b z.0)),
        z.1,
      )
  stmt_small (g.counted {s = s} {l = l} {g = r} {cs = cs} {b = b} p q o) k =
      let x = range_small p k.1 in
      let y = clauses_small q x.1 in
      let z = block_small o y.1 in (
        made s l (st.For r (record { clauses = cs }) b)
            (f.at_for numbers_in_stmt_kind numbers_in_stmt r (record { clauses = cs }) b)
            (small_append (numbers_of_range r ++ flat_map numbers_of_clause cs) _
            (small_append (numbers_of_range r) (flat_map numbers_of_clause cs) x.0 y.0) (block_flat b z.0)),
        z.1,
      )
  stmt_small (g.parallel {s = s} {l = l} {n = n} {g = r} {cs = cs} {b = b} o p q t) k =
      let x = range_small p (label_fits o k.1) in
      let y = clauses_small q x.1 in
      let z = block_small t y.1 in (
        made s l (st.Par n r (record { clauses = cs }) b)
            (f.at_par numbers_in_stmt_kind numbers_in_stmt n r (record { clauses = cs }) b)
            (small_append (numbers_of_range r ++ flat_map numbers_of_clause cs) _
            (small_append (numbers_of_range r) (flat_map numbers_of_clause cs) x.0 y.0) (block_flat b z.0)),
        z.1,
      )
  stmt_small (g.barrier {s = s} {l = l} {w = w} {cs = cs} p) k =
      let x = clauses_small p k.1.1.1.1.1 in (
        made s l (st.Barrier w (record { clauses = cs }))
            (f.at_barrier numbers_in_stmt_kind numbers_in_stmt w (record { clauses = cs })) x.0,
        x.1.1,
      )
  stmt_small (g.action {y = y} {x = a} {l = l} {a = o} h p) k =
      let x = joined_small p k.1 in (made y.span l (action_kind a o.tree) (of_action a o.tree) x.0, x.1.1)
  stmt_small (g.folding {y = y} {x = u} {w = w} {l = l} {a = a} {xs = xs} h p q) k =
      let x = target_small p k.1 in
      let z = args_small q x.1 in (
        made y.span l (folding_kind u (tree_of a) w xs) (of_folding u (tree_of a) w xs)
            (small_append (numbers_of_option (tree_of a)) (numbers_of_all xs) x.0 z.0),
        z.1.1,
      )
  stmt_small (g.assertion {s = s} {l = l} {a = a} p) k =
      let x = formula_small p k.1 in
      (made s l (st.Assert a.tree) (f.at_assert numbers_in_stmt_kind numbers_in_stmt a.tree) x.0, x.1.1)
  stmt_small (g.send {n = n} {s = s} {l = l} {w = w} {a = a} p) k =
      let x = formula_small p k.1.1.1.1.1 in
      let most = k.1.1.1.0 in
      (made s l (st.Send w n a.tree) (f.at_send numbers_in_stmt_kind numbers_in_stmt w n a.tree) (omega arith, x.0), x.1.1)
  stmt_small (g.recv {s = s} {l = l} {w = w}) k =
      (made s l (st.Recv w) (f.at_recv numbers_in_stmt_kind numbers_in_stmt w) tt, k.1.1.1)
  stmt_small (g.return_none {s = s} {l = l}) k =
      (made s l (st.Return None) (f.at_return numbers_in_stmt_kind numbers_in_stmt None) tt, k.1.1)
  stmt_small (g.return_value {s = s} {l = l} {a = a} p) k =
      let x = joined_small p k.1 in
      (made s l (st.Return (Some a.tree)) (f.at_return numbers_in_stmt_kind numbers_in_stmt (Some a.tree)) x.0, x.1.1)

  choice_small : {d : ℕ} {s : Span} {us vs : Marked} {x : Stmt} → g.IsChoice d s us x vs → Fits us → Both (numbers_of_stmt x) vs
  choice_small (g.chosen p q r) k =
      let x = condition_small p k in let y = block_small q x.1 in else_small r x.0 y.0 y.1

  else_small : {d : ℕ} {s l : Span} {c : Part} {b : List Stmt} {us vs : Marked} {x : Stmt} → g.ElseFrom d s c b l us x vs
      → Small (numbers c) → Small (numbers_of_block b) → Fits us → Both (numbers_of_stmt x) vs
  else_small (g.no_else {s = s} {l = l} {c = c} {b = b}) m n k = (
    made s l (st.If c.tree b []) (f.at_if numbers_in_stmt_kind numbers_in_stmt c.tree b [])
        (small_append (numbers c ++ flattened (map numbers_of_stmt b)) [] (small_append (numbers c) _ m (block_flat b n)) tt),
    k,
  )
  else_small (g.else_block {s = s} {m = l} {c = c} {b = b} {x = x} p) m n k =
      let y = block_small p k.1 in (
        made s l (st.If c.tree b x) (f.at_if numbers_in_stmt_kind numbers_in_stmt c.tree b x)
            (small_append (numbers c ++ flattened (map numbers_of_stmt b)) _ (small_append (numbers c) _ m (block_flat b n))
            (block_flat x y.0)),
        y.1,
      )
  else_small (g.else_if {s = s} {c = c} {b = b} {x = x} p) m n k =
      let y = choice_small p k.1.1 in (
        made s x.span (st.If c.tree b (x ∷ [])) (f.at_if numbers_in_stmt_kind numbers_in_stmt c.tree b (x ∷ []))
            (small_append (numbers c ++ flattened (map numbers_of_stmt b)) _ (small_append (numbers c) _ m (block_flat b n))
            (small_append (numbers_of_stmt x) [] y.0 tt)),
        y.1,
      )

  block_small : {d : ℕ} {l : Span} {us vs : Marked} {b : List Stmt} → g.IsBlock d us b l vs → Fits us
      → Both (numbers_of_block b) vs
  block_small (g.block p) k = stmts_small p k.1

  stmts_small : {d : ℕ} {l : Span} {us vs : Marked} {b : List Stmt} → g.IsStmts d us b l vs → Fits us
      → Both (numbers_of_block b) vs
  stmts_small g.no_stmt k = (tt, k.1)
  stmts_small (g.next_stmt {x = x} {b = b} p q) k =
      let y = stmt_small p k in
      let z = stmts_small q y.1 in
      (small_append (numbers_of_stmt x) (numbers_of_block b) y.0 z.0, z.1)

-- members and classes

result_fits : {d : ℕ} {us vs : Marked} {t : Option TypeWord} → g.IsResult d us t vs → Fits us → Fits vs
result_fits (g.result p) k = type_fits p k
result_fits g.no_result k = k.1

member_small : {d : ℕ} {us vs : Marked} {x : Member} → g.IsMember d us x vs → Fits us → Both (numbers_of_member x) vs
member_small (g.field p) k = (tt, (type_fits p k).1.1)
member_small (g.predicate p q) k = let x = formula_small q (params_fit p k.1.1).1 in (x.0, x.1.1)
member_small (g.method {cs = cs} {b = b} p q r t) k =
    let x = clauses_small p k in
    let y = block_small t (params_fit r (result_fits q x.1).1) in
    (small_append (flat_map numbers_of_clause cs) (numbers_of_block b) x.0 y.0, y.1)
member_small (g.run {cs = cs} {b = b} p q) k =
    let x = clauses_small p k in
    let y = block_small q x.1.1 in
    (small_append (flat_map numbers_of_clause cs) (numbers_of_block b) x.0 y.0, y.1)

members_small : {d : ℕ} {l : Span} {us vs : Marked} {ms : List Member} → g.IsMembers d us ms l vs → Fits us
    → Both (flat_map numbers_of_member ms) vs
members_small g.no_member k = (tt, k.1)
members_small (g.next_member {x = x} {ms = ms} p q) k =
    let y = member_small p k in
    let z = members_small q y.1 in
    (small_append (numbers_of_member x) (flat_map numbers_of_member ms) y.0 z.0, z.1)

class_small : {d : ℕ} {us vs : Marked} {x : Class} → g.IsClass d us x vs → Fits us → Both (numbers_of_class x) vs
class_small (g.plain_class p) k = members_small p k.1.1.1
class_small (g.lock_class {a = a} {ms = ms} p q) k =
    let x = formula_small p k.1 in
    let y = members_small q x.1.1.1.1.1 in
    (small_append (numbers a) (flat_map numbers_of_member ms) x.0 y.0, y.1)

classes_small : {d : ℕ} {us vs : Marked} {cs : List Class} → g.IsClasses d us cs vs → Fits us
    → Both (flat_map numbers_of_class cs) vs
classes_small g.no_class k = (tt, k)
classes_small (g.next_class {x = x} {cs = cs} p q) k =
    let y = class_small p k in
    let z = classes_small q y.1 in
    (small_append (numbers_of_class x) (flat_map numbers_of_class cs) y.0 z.0, z.1)

program_small : {word : Option Name} {us vs : Marked} {p : Program} → g.IsProgram word us p vs → Fits us
    → Small (numbers_of_program p)
program_small (g.classes p) k = (classes_small p k).0

-- where the numbers of the tokens aren't too great, those of the program aren't
pub numbers_small : (word : Option Name) (tokens : List Lexeme) (p : Program) → SpellsWithin (g.IsProgram word) 64 tokens p
    → AreWithin tokens → All (λ n. n < 2 ^ 63) (numbers_of_program p)
numbers_small word tokens p s h =
    All-from_recursion (λ n. n < 2 ^ 63) (numbers_of_program p) (program_small s.spelled (subst AreWithin (sym s.here) h))
