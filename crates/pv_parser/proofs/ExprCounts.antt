-- No more numbers are written in an expression, a formula or a contract than it has tokens.
use Rattle.std.proofs.Common.{ℕ, ◌≡◌, ◌+◌, ◌≤◌, List, [], ◌∷◌, length, fold, sum as total, map, Option, Some, None, Bool, true, false, ◌∙◌, arith}
use Rattle.pv_base.specs.declared.Span.{Span}
use Rattle.pv_ast.specs.Measures.{literals_in_kind, literals_in_each, literals_in_expr, literals_of, literals_of_kind, literals_of_all, literals_of_option, literals_of_clause}
use Rattle.pv_ast.specs.declared.Word.{Word}
use Rattle.pv_ast.specs.declared.Token.{Token}
use Rattle.pv_ast.specs.declared.Operator.{Operator}
use Rattle.pv_ast.specs.declared.Operator.TheVariants as op
use Rattle.pv_ast.specs.declared.Expr.{Expr}
use Rattle.pv_ast.specs.declared.ExprKind.{ExprKind}
use Rattle.pv_ast.specs.declared.ExprKind.TheVariants as e
use Rattle.pv_ast.specs.declared.Each.{Each, Each-F, roll-Each}
use Rattle.pv_ast.specs.declared.Clause.{Clause}
use Rattle.pv_reading.specs.Marks.{Marked, across}
use Rattle.pv_exprs.specs.declared.level.Mode.{Mode}
use Rattle.pv_exprs.specs.declared.level.Level.{Level}
use Rattle.pv_exprs.specs.declared.part.Part.{Part}
use Rattle.pv_exprs.specs.declared.part.Chain.{Chain}
use Rattle.pv_exprs.specs.declared.part.Chain.TheVariants.{Named}
use Rattle.pv_exprs.specs.declared.part.Amount.{Amount}
use Rattle.pv_exprs.specs.declared.part.Bounds.{Bounds}
use Rattle.pv_exprs.specs.Trees.{node, joined, negated, signed, field_of, element_of, part_of, tree_of, instance_of, each_of}
use Rattle.pv_exprs.specs.Grammar as g
use Rattle.pv_parser.proofs.Folds as f
use Rattle.pv_clauses.specs.Grammar as c

-- the numbers of a part
abbrev pub count : Part → ℕ
count a = literals_of a.tree

-- the equations of the folds at the trees that the grammar makes

of_node : (s : Span) (x : ExprKind) → count (node s x) ≡ literals_of_kind x
of_node = f.at_node literals_in_kind literals_in_each literals_in_expr

of_number : (n : ℕ) → literals_of_kind (e.Number n) ≡ 1
of_number = f.at_number literals_in_kind literals_in_each literals_in_expr

of_truth : (b : Bool) → literals_of_kind (e.Truth b) ≡ 0
of_truth = f.at_truth literals_in_kind literals_in_each literals_in_expr

of_null : literals_of_kind e.Null ≡ 0
of_null = f.at_null literals_in_kind literals_in_each literals_in_expr

of_this : literals_of_kind e.This ≡ 0
of_this = f.at_this literals_in_kind literals_in_each literals_in_expr

of_result : literals_of_kind e.Result ≡ 0
of_result = f.at_result literals_in_kind literals_in_each literals_in_expr

of_var : (w : Word) → literals_of_kind (e.Var w) ≡ 0
of_var = f.at_var literals_in_kind literals_in_each literals_in_expr

of_field : (a : Expr) (w : Word) → literals_of_kind (e.Field a w) ≡ literals_of a
of_field = f.at_field literals_in_kind literals_in_each literals_in_expr

of_index : (a i : Expr) → literals_of_kind (e.Index a i) ≡ literals_of a + literals_of i
of_index = f.at_index literals_in_kind literals_in_each literals_in_expr

of_not : (a : Expr) → literals_of_kind (e.Not a) ≡ literals_of a
of_not = f.at_not literals_in_kind literals_in_each literals_in_expr

of_minus : (a : Expr) → literals_of_kind (e.Minus a) ≡ literals_of a
of_minus = f.at_minus literals_in_kind literals_in_each literals_in_expr

of_binary : (o : Operator) (a b : Expr) → literals_of_kind (e.Binary o a b) ≡ literals_of a + literals_of b
of_binary = f.at_binary literals_in_kind literals_in_each literals_in_expr

of_old_kind : (a : Expr) → literals_of_kind (e.Old a) ≡ literals_of a
of_old_kind = f.at_old literals_in_kind literals_in_each literals_in_expr

of_perm_kind : (a : Expr) (n m : ℕ) (s : Span) → literals_of_kind (e.Perm a n m s) ≡ literals_of a
of_perm_kind = f.at_perm literals_in_kind literals_in_each literals_in_expr

of_token_kind : (t : Token) (a : Expr) → literals_of_kind (e.Token t a) ≡ literals_of a
of_token_kind = f.at_token literals_in_kind literals_in_each literals_in_expr

of_instance_kind : (o : Option Expr) (w : Word) (args : List Expr)
    → literals_of_kind (e.Instance o w args) ≡ literals_of_option o + literals_of_all args
of_instance_kind None w args = f.at_instance literals_in_kind literals_in_each literals_in_expr None w args
of_instance_kind (Some a) w args = f.at_instance literals_in_kind literals_in_each literals_in_expr (Some a) w args

of_each_kind : (x : Each-F ExprKind Each Expr)
    → literals_of_kind (e.Each (roll-Each x)) ≡ literals_of x.low + literals_of x.high + literals_of x.body
of_each_kind = f.at_each literals_in_kind literals_in_each literals_in_expr

-- at the parts

of_joined : (o : Operator) (a b : Part) → count (joined o a b) ≡ count a + count b
of_joined o a b = of_node _ (e.Binary o a.tree b.tree) ∙ of_binary o a.tree b.tree

of_chain_field : (a : Part) (w : Word) → count (field_of a w) ≡ count a
of_chain_field a w = of_node _ (e.Field a.tree w) ∙ of_field a.tree w

of_element : (a i : Part) (r : Span) → count (element_of a i r) ≡ count a + count i
of_element a i r = of_node _ (e.Index a.tree i.tree) ∙ of_index a.tree i.tree

pub of_name : (w : Word) → count (part_of (Named None w)) ≡ 0
of_name w = of_node _ (e.Var w) ∙ of_var w

pub of_this_node : (s : Span) → count (node s e.This) ≡ 0
of_this_node s = of_node _ e.This ∙ of_this

-- the receiver of a name
of_receiver : (a : Option Part) (w : Word) → count (part_of (Named a w)) ≡ literals_of_option (tree_of a)
of_receiver None w = of_name w
of_receiver (Some a) w = of_chain_field a w

of_instance : (a : Option Part) (w : Word) (xs : List Expr) (r : Span)
    → count (instance_of a w xs r) ≡ literals_of_option (tree_of a) + literals_of_all xs
of_instance a w xs r = of_node _ (e.Instance (tree_of a) w xs) ∙ of_instance_kind (tree_of a) w xs

of_each : (star : Bool) (s : Span) (w : Word) (b : Bounds) (a : Part) (r : Span)
    → count (each_of star s w b a r) ≡ count b.low + count b.high + count a
of_each star s w b a r =
    of_node _ _ ∙ of_each_kind (record {
      star = star;
      name = w;
      low = b.low.tree;
      high = b.high.tree;
      body = a.tree;
      written = b.written;
    })

total_from : (n : ℕ) (ns : List ℕ) → fold ◌+◌ n ns ≡ n + total ns
total_from n [] = omega arith
total_from n (m ∷ ns) = omega (arith, total_from (n + m) ns, total_from (0 + m) ns)

pub more_total : {A : Type 0} (f : A → ℕ) (x : A) (xs : List A) → total (map f (x ∷ xs)) ≡ f x + total (map f xs)
more_total f x xs = omega (arith, total_from (0 + f x) (map f xs))

amount_counts : {d : ℕ} {us vs : Marked} {x : Amount} → g.IsAmount d us x vs → length vs ≤ length us
amount_counts g.write = omega arith
amount_counts g.parts = omega arith

-- each number is a token of its own
mutual
  pub joined_counts : {m : Mode} {l : Level} {d : ℕ} {us vs : Marked} {a : Part} → g.IsJoined m l d us a vs
      → count a + length vs ≤ length us
  joined_counts (g.parts p q) = omega (arith, operand_counts p, from_counts q)

  from_counts : {m : Mode} {l : Level} {d : ℕ} {us vs : Marked} {a b : Part} → g.JoinedFrom m l d a us b vs
      → count b + length vs ≤ count a + length us
  from_counts g.no_more = omega arith
  from_counts (g.one_more {o = o} {a = a} {b = b} h p q) = omega (arith, operand_counts p, only_counts q, of_joined o a b)

  only_counts : {m : Mode} {l : Level} {d : ℕ} {us vs : Marked} {a b : Part} → g.JoinedOnly m l d a us b vs
      → count b + length vs ≤ count a + length us
  only_counts (g.last h) = omega arith
  only_counts (g.more h q) = from_counts q

  operand_counts : {m : Mode} {l : Level} {d : ℕ} {us vs : Marked} {a : Part} → g.IsOperand m l d us a vs
      → count a + length vs ≤ length us
  operand_counts (g.level h p) = joined_counts p
  operand_counts (g.unary h p) = unary_counts p

  unary_counts : {m : Mode} {d : ℕ} {us vs : Marked} {a : Part} → g.IsUnary m d us a vs → count a + length vs ≤ length us
  unary_counts (g.not {s = s} {a = a} p) = omega (arith, unary_counts p, of_node (negated s a).span (e.Not a.tree), of_not a.tree)
  unary_counts (g.minus {s = s} {a = a} p) =
      omega (arith, unary_counts p, of_node (signed s a).span (e.Minus a.tree), of_minus a.tree)
  unary_counts (g.plain p) = post_counts p

  post_counts : {m : Mode} {d : ℕ} {us vs : Marked} {a : Part} → g.IsPost m d us a vs → count a + length vs ≤ length us
  post_counts (g.post p q) = omega (arith, atom_counts p, steps_count q)

  pub steps_count : {m : Mode} {d : ℕ} {us vs : Marked} {a b : Chain} → g.StepsFrom m d a us b vs
      → count (part_of b) + length vs ≤ count (part_of a) + length us
  steps_count g.no_steps = omega arith
  steps_count (g.some_steps p) = some_steps_count p

  pub some_steps_count : {m : Mode} {d : ℕ} {us vs : Marked} {a b : Chain} → g.SomeSteps m d a us b vs
      → count (part_of b) + length vs ≤ count (part_of a) + length us
  some_steps_count (g.field {w = w} {a = a} q) = omega (arith, steps_count q, of_chain_field (part_of a) w)
  some_steps_count (g.element {r = r} {i = i} {a = a} p q) =
      omega (arith, joined_counts p, steps_count q, of_element (part_of a) i r)

  pub target_counts : {m : Mode} {d : ℕ} {us vs : Marked} {a : Option Part} {w : Word} → g.IsTarget m d us a w vs
      → literals_of_option (tree_of a) + length vs ≤ length us
  target_counts (g.from_name {v = v} {w = w} {a = a} q) = omega (arith, steps_count q, of_name v, of_receiver a w)
  target_counts (g.from_this {s = s} {w = w} {a = a} q) = omega (arith, steps_count q, of_this_node s, of_receiver a w)

  pub args_count : {m : Mode} {d : ℕ} {us vs : Marked} {xs : List Expr} {r : Span} → g.IsArgs m d us xs r vs
      → literals_of_all xs + length vs ≤ length us
  args_count g.no_args = omega arith
  args_count (g.args p) = omega (arith, exprs_count p)

  exprs_count : {m : Mode} {d : ℕ} {us vs : Marked} {xs : List Expr} {r : Span} → g.IsExprs m d us xs r vs
      → literals_of_all xs + length vs ≤ length us
  exprs_count (g.last_arg {a = a} p) = omega (arith, joined_counts p, more_total literals_of a.tree [])
  exprs_count (g.next_arg {a = a} {xs = xs} p q) = omega (arith, joined_counts p, exprs_count q, more_total literals_of a.tree xs)

  atom_counts : {m : Mode} {d : ℕ} {us vs : Marked} {a : Chain} → g.IsAtom m d us a vs → count (part_of a) + length vs ≤ length us
  atom_counts (g.number {n = n} {s = s}) = omega (arith, of_node s (e.Number n), of_number n)
  atom_counts (g.true_word {s = s}) = omega (arith, of_node s (e.Truth true), of_truth true)
  atom_counts (g.false_word {s = s}) = omega (arith, of_node s (e.Truth false), of_truth false)
  atom_counts (g.null_word {s = s}) = omega (arith, of_node s e.Null, of_null)
  atom_counts (g.this_word {s = s}) = omega (arith, of_this_node s)
  atom_counts (g.name {w = w}) = omega (arith, of_name w)
  atom_counts (g.group p) = omega (arith, joined_counts p)
  atom_counts (g.formula_group p) = omega (arith, formula_counts p)
  atom_counts (g.result_word {s = s}) = omega (arith, of_node s e.Result, of_result)
  atom_counts (g.old {s = s} {r = r} {a = a} p) =
      omega (arith, joined_counts p, of_node (across s r) (e.Old a.tree), of_old_kind a.tree)
  atom_counts (g.instance {r = r} {w = w} {a = a} {xs = xs} p q) =
      omega (arith, target_counts p, args_count q, of_instance a w xs r)
  atom_counts (g.perm {s = s} {r = r} {x = x} {a = a} p q) =
      omega (
        arith,
        post_counts p,
        amount_counts q,
        of_node (across s r) (e.Perm a.tree x.parts x.whole x.span),
        of_perm_kind a.tree x.parts x.whole x.span,
      )
  atom_counts (g.token {y = y} {t = t} {r = r} {a = a} h p) =
      omega (arith, joined_counts p, of_node (across y.span r) (e.Token t a.tree), of_token_kind t a.tree)
  atom_counts (g.each {s = s} {r = r} {star = star} {w = w} {b = b} {a = a} h p q) =
      omega (arith, bounds_count p, formula_counts q, of_each star s w b a r)

  bounds_count : {d : ℕ} {us vs : Marked} {b : Bounds} → g.HasBounds d us b vs
      → count b.low + count b.high + length vs ≤ length us
  bounds_count (g.range p q) = omega (arith, joined_counts p, joined_counts q)
  bounds_count (g.written p q) = omega (arith, operand_counts p, operand_counts q)

  pub formula_counts : {d : ℕ} {us vs : Marked} {a : Part} → g.IsFormula d us a vs → count a + length vs ≤ length us
  formula_counts (g.formula p q) = omega (arith, level_counts p, implies_count q)

  level_counts : {d : ℕ} {us vs : Marked} {a : Part} → g.IsLevel d us a vs → count a + length vs ≤ length us
  level_counts (g.disjunction p) = joined_counts p
  level_counts (g.separation p) = joined_counts p

  implies_count : {d : ℕ} {us vs : Marked} {a b : Part} → g.ImpliesFrom d a us b vs → count b + length vs ≤ count a + length us
  implies_count g.no_implies = omega arith
  implies_count (g.implies {a = a} {b = b} p) = omega (arith, formula_counts p, of_joined op.Implies a b)

pub clauses_count : {d : ℕ} {us vs : Marked} {cs : List Clause} → c.IsClauses d us cs vs
    → total (map literals_of_clause cs) + length vs ≤ length us
clauses_count c.no_clause = omega arith
clauses_count (c.clause {k = k} {a = a} {cs = cs} h p q) =
    omega (arith, formula_counts p, clauses_count q, more_total literals_of_clause (record { kind = k; formula = a.tree }) cs)
