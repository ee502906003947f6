-- The numbers that are written in an expression, a formula or a contract are those of its tokens: where none of these is too
-- great,
-- none of them is.
use Rattle.std.proofs.Common.{ℕ, ◌≡◌, ◌<◌, ◌^◌, List, [], ◌∷◌, ◌++◌, map, Option, Some, None, Bool, sym, ap, ◌∙◌, subst, arith}
use Rattle.std.specs.List.{flat_map, AllByRecursion}
use Rattle.std.proofs.lemmas.List.Folds.{flat_map-map}
use Rattle.pv_base.specs.declared.Span.{Span}
use Rattle.pv_tokens.specs.Lexemes.{AreWithin}
use Rattle.pv_ast.specs.declared.Word.{Word}
use Rattle.pv_ast.specs.declared.Token.{Token}
use Rattle.pv_ast.specs.declared.Operator.{Operator}
use Rattle.pv_ast.specs.declared.Operator.TheVariants as op
use Rattle.pv_ast.specs.declared.Expr.{Expr}
use Rattle.pv_ast.specs.declared.ExprKind.{ExprKind}
use Rattle.pv_ast.specs.declared.ExprKind.TheVariants as e
use Rattle.pv_ast.specs.declared.Clause.{Clause}
use Rattle.pv_ast.specs.Rules.Numbers.{flattened, numbers_in_kind, numbers_in_each, numbers_in_expr, numbers_of, numbers_of_kind, numbers_of_all, numbers_of_option, numbers_of_clause}
use Rattle.pv_reading.specs.Marks.{Marked, plain, across}
use Rattle.pv_exprs.specs.declared.level.Mode.{Mode}
use Rattle.pv_exprs.specs.declared.level.Level.{Level}
use Rattle.pv_exprs.specs.declared.part.Part.{Part}
use Rattle.pv_exprs.specs.declared.part.Chain.{Chain}
use Rattle.pv_exprs.specs.declared.part.Chain.TheVariants.{Named}
use Rattle.pv_exprs.specs.declared.part.Amount.{Amount}
use Rattle.pv_exprs.specs.declared.part.Bounds.{Bounds}
use Rattle.pv_exprs.specs.Trees.{node, joined, negated, signed, field_of, element_of, part_of, tree_of, instance_of, each_of}
use Rattle.pv_exprs.specs.Grammar as g
use Rattle.pv_clauses.specs.Grammar as c
use Rattle.pv_parser.proofs.Folds as f

-- no number of the list is too great, and none of the tokens

abbrev pub Small : List ℕ → Type 0
Small = AllByRecursion (λ n. n < 2 ^ 63)

abbrev pub Fits : Marked → Type 0
Fits us = AreWithin (plain us)

-- the numbers of what was read, and those of the tokens that are left
abbrev pub Both : List ℕ → Marked → Type 0
Both ns us = Small ns × Fits us

pub small_append : (ns ms : List ℕ) → Small ns → Small ms → Small (ns ++ ms)
small_append [] ms s t = t
small_append (n ∷ ns) ms s t = (s.0, small_append ns ms s.1 t)

pub carry : {ns ms : List ℕ} → ms ≡ ns → Small ns → Small ms
carry e s = subst Small (sym e) s

-- the numbers of lists of trees, in one list
pub flat : {A : Type 0} (h : A → List ℕ) (xs : List A) → flattened (map h xs) ≡ flat_map h xs
flat h xs = flat_map-map (λ (ns : List ℕ). ns) h xs

-- the numbers of a part
abbrev pub numbers : Part → List ℕ
numbers a = numbers_of a.tree

-- the equations of the folds at the trees that the grammar makes

of_node : (s : Span) (x : ExprKind) → numbers (node s x) ≡ numbers_of_kind x
of_node = f.at_node numbers_in_kind numbers_in_each numbers_in_expr

of_number : (s : Span) (n : ℕ) → numbers (node s (e.Number n)) ≡ n ∷ []
of_number s n = of_node s (e.Number n) ∙ f.at_number numbers_in_kind numbers_in_each numbers_in_expr n

of_truth : (s : Span) (b : Bool) → numbers (node s (e.Truth b)) ≡ []
of_truth s b = of_node s (e.Truth b) ∙ f.at_truth numbers_in_kind numbers_in_each numbers_in_expr b

of_null : (s : Span) → numbers (node s e.Null) ≡ []
of_null s = of_node s e.Null ∙ f.at_null numbers_in_kind numbers_in_each numbers_in_expr

pub of_this : (s : Span) → numbers (node s e.This) ≡ []
of_this s = of_node s e.This ∙ f.at_this numbers_in_kind numbers_in_each numbers_in_expr

of_result : (s : Span) → numbers (node s e.Result) ≡ []
of_result s = of_node s e.Result ∙ f.at_result numbers_in_kind numbers_in_each numbers_in_expr

pub of_name : (w : Word) → numbers (part_of (Named None w)) ≡ []
of_name w = of_node _ (e.Var w) ∙ f.at_var numbers_in_kind numbers_in_each numbers_in_expr w

of_field : (a : Part) (w : Word) → numbers (field_of a w) ≡ numbers a
of_field a w = of_node _ (e.Field a.tree w) ∙ f.at_field numbers_in_kind numbers_in_each numbers_in_expr a.tree w

of_element : (a i : Part) (r : Span) → numbers (element_of a i r) ≡ numbers a ++ numbers i
of_element a i r = of_node _ (e.Index a.tree i.tree) ∙ f.at_index numbers_in_kind numbers_in_each numbers_in_expr a.tree i.tree

of_not : (s : Span) (a : Part) → numbers (negated s a) ≡ numbers a
of_not s a = of_node _ (e.Not a.tree) ∙ f.at_not numbers_in_kind numbers_in_each numbers_in_expr a.tree

of_minus : (s : Span) (a : Part) → numbers (signed s a) ≡ numbers a
of_minus s a = of_node _ (e.Minus a.tree) ∙ f.at_minus numbers_in_kind numbers_in_each numbers_in_expr a.tree

of_joined : (o : Operator) (a b : Part) → numbers (joined o a b) ≡ numbers a ++ numbers b
of_joined o a b =
    of_node _ (e.Binary o a.tree b.tree) ∙ f.at_binary numbers_in_kind numbers_in_each numbers_in_expr o a.tree b.tree

of_old : (s : Span) (a : Expr) → numbers (node s (e.Old a)) ≡ numbers_of a
of_old s a = of_node s (e.Old a) ∙ f.at_old numbers_in_kind numbers_in_each numbers_in_expr a

of_perm : (s : Span) (a : Expr) (x : Amount) → numbers (node s (e.Perm a x.parts x.whole x.span)) ≡ numbers_of a
of_perm s a x =
    of_node s (e.Perm a x.parts x.whole x.span) ∙ f.at_perm numbers_in_kind numbers_in_each numbers_in_expr a x.parts x.whole
    x.span

of_token : (s : Span) (t : Token) (a : Expr) → numbers (node s (e.Token t a)) ≡ numbers_of a
of_token s t a = of_node s (e.Token t a) ∙ f.at_token numbers_in_kind numbers_in_each numbers_in_expr t a

of_receiver : (a : Option Part) (w : Word) → numbers (part_of (Named a w)) ≡ numbers_of_option (tree_of a)
of_receiver None w = of_name w
of_receiver (Some a) w = of_field a w

of_instance : (a : Option Part) (w : Word) (xs : List Expr) (r : Span)
    → numbers (instance_of a w xs r) ≡ numbers_of_option (tree_of a) ++ numbers_of_all xs
of_instance None w xs r =
    of_node _ (e.Instance None w xs) ∙ f.at_instance numbers_in_kind numbers_in_each numbers_in_expr None w xs
    ∙ flat numbers_of xs
of_instance (Some a) w xs r =
    of_node _ (e.Instance (Some a.tree) w xs) ∙ f.at_instance numbers_in_kind numbers_in_each numbers_in_expr (Some a.tree) w xs
    ∙ ap (λ ns. numbers a ++ ns) (flat numbers_of xs)

of_each : (star : Bool) (s : Span) (w : Word) (b : Bounds) (a : Part) (r : Span)
    → numbers (each_of star s w b a r) ≡ numbers b.low ++ numbers b.high ++ numbers a
of_each star s w b a r =
    of_node _ _ ∙ f.at_each numbers_in_kind numbers_in_each numbers_in_expr (record {
      star = star;
      name = w;
      low = b.low.tree;
      high = b.high.tree;
      body = a.tree;
      written = b.written;
    })

amount_fits : {d : ℕ} {us vs : Marked} {x : Amount} → g.IsAmount d us x vs → Fits us → Fits vs
amount_fits g.write h = h.1
amount_fits g.parts h = h.1.1.1

mutual
  pub joined_small : {m : Mode} {l : Level} {d : ℕ} {us vs : Marked} {a : Part} → g.IsJoined m l d us a vs → Fits us
      → Both (numbers a) vs
  joined_small (g.parts p q) h = let x = operand_small p h in from_small q x.0 x.1

  from_small : {m : Mode} {l : Level} {d : ℕ} {us vs : Marked} {a b : Part} → g.JoinedFrom m l d a us b vs → Small (numbers a)
      → Fits us → Both (numbers b) vs
  from_small g.no_more s h = (s, h)
  from_small (g.one_more {o = o} {a = a} {b = b} k p q) s h =
      let x = operand_small p h.1 in
      only_small q (carry (of_joined o a b) (small_append (numbers a) (numbers b) s x.0)) x.1

  only_small : {m : Mode} {l : Level} {d : ℕ} {us vs : Marked} {a b : Part} → g.JoinedOnly m l d a us b vs → Small (numbers a)
      → Fits us → Both (numbers b) vs
  only_small (g.last k) s h = (s, h)
  only_small (g.more k q) s h = from_small q s h

  operand_small : {m : Mode} {l : Level} {d : ℕ} {us vs : Marked} {a : Part} → g.IsOperand m l d us a vs → Fits us
      → Both (numbers a) vs
  operand_small (g.level k p) h = joined_small p h
  operand_small (g.unary k p) h = unary_small p h

  unary_small : {m : Mode} {d : ℕ} {us vs : Marked} {a : Part} → g.IsUnary m d us a vs → Fits us → Both (numbers a) vs
  unary_small (g.not {s = s} {a = a} p) h = let x = unary_small p h.1 in (carry (of_not s a) x.0, x.1)
  unary_small (g.minus {s = s} {a = a} p) h = let x = unary_small p h.1 in (carry (of_minus s a) x.0, x.1)
  unary_small (g.plain p) h = post_small p h

  post_small : {m : Mode} {d : ℕ} {us vs : Marked} {a : Part} → g.IsPost m d us a vs → Fits us → Both (numbers a) vs
  post_small (g.post p q) h = let x = atom_small p h in steps_small q x.0 x.1

  pub steps_small : {m : Mode} {d : ℕ} {us vs : Marked} {a b : Chain} → g.StepsFrom m d a us b vs → Small (numbers (part_of a))
      → Fits us → Both (numbers (part_of b)) vs
  steps_small g.no_steps s h = (s, h)
  steps_small (g.some_steps p) s h = some_steps_small p s h

  pub some_steps_small : {m : Mode} {d : ℕ} {us vs : Marked} {a b : Chain} → g.SomeSteps m d a us b vs
      → Small (numbers (part_of a)) → Fits us → Both (numbers (part_of b)) vs
  some_steps_small (g.field {w = w} {a = a} q) s h = steps_small q (carry (of_field (part_of a) w) s) h.1.1
  some_steps_small (g.element {r = r} {i = i} {a = a} p q) s h =
      let x = joined_small p h.1 in
      steps_small q (carry (of_element (part_of a) i r) (small_append (numbers (part_of a)) (numbers i) s x.0)) x.1.1

  pub target_small : {m : Mode} {d : ℕ} {us vs : Marked} {a : Option Part} {w : Word} → g.IsTarget m d us a w vs → Fits us
      → Both (numbers_of_option (tree_of a)) vs
  target_small (g.from_name {v = v} {w = w} {a = a} q) h =
      let x = steps_small q (carry (of_name v) tt) h.1 in (carry (sym (of_receiver a w)) x.0, x.1)
  target_small (g.from_this {s = s} {w = w} {a = a} q) h =
      let x = steps_small q (carry (of_this s) tt) h.1 in (carry (sym (of_receiver a w)) x.0, x.1)

  pub args_small : {m : Mode} {d : ℕ} {us vs : Marked} {xs : List Expr} {r : Span} → g.IsArgs m d us xs r vs → Fits us
      → Both (numbers_of_all xs) vs
  args_small g.no_args h = (tt, h.1.1)
  args_small (g.args p) h = exprs_small p h.1

  exprs_small : {m : Mode} {d : ℕ} {us vs : Marked} {xs : List Expr} {r : Span} → g.IsExprs m d us xs r vs → Fits us
      → Both (numbers_of_all xs) vs
  exprs_small (g.last_arg {a = a} p) h = let x = joined_small p h in (small_append (numbers a) [] x.0 tt, x.1.1)
  exprs_small (g.next_arg {a = a} {xs = xs} p q) h =
      let x = joined_small p h in
      let y = exprs_small q x.1.1 in
      (small_append (numbers a) (numbers_of_all xs) x.0 y.0, y.1)

  atom_small : {m : Mode} {d : ℕ} {us vs : Marked} {a : Chain} → g.IsAtom m d us a vs → Fits us → Both (numbers (part_of a)) vs
  atom_small (g.number {n = n} {s = s}) h = let k = h.0 in (carry (of_number s n) (omega arith, tt), h.1)
  atom_small (g.true_word {s = s}) h = (carry (of_truth s _) tt, h.1)
  atom_small (g.false_word {s = s}) h = (carry (of_truth s _) tt, h.1)
  atom_small (g.null_word {s = s}) h = (carry (of_null s) tt, h.1)
  atom_small (g.this_word {s = s}) h = (carry (of_this s) tt, h.1)
  atom_small (g.name {w = w}) h = (carry (of_name w) tt, h.1)
  atom_small (g.group p) h = let x = joined_small p h.1 in (x.0, x.1.1)
  atom_small (g.formula_group p) h = let x = formula_small p h.1 in (x.0, x.1.1)
  atom_small (g.result_word {s = s}) h = (carry (of_result s) tt, h.1)
  atom_small (g.old {s = s} {r = r} {a = a} p) h =
      let x = joined_small p h.1.1 in (carry (of_old (across s r) a.tree) x.0, x.1.1)
  atom_small (g.instance {r = r} {w = w} {a = a} {xs = xs} p q) h =
      let x = target_small p h in
      let y = args_small q x.1 in
      (carry (of_instance a w xs r) (small_append (numbers_of_option (tree_of a)) (numbers_of_all xs) x.0 y.0), y.1)
  atom_small (g.perm {s = s} {r = r} {x = x} {a = a} p q) h =
      let y = post_small p h.1.1 in (carry (of_perm (across s r) a.tree x) y.0, (amount_fits q y.1.1).1)
  atom_small (g.token {y = y} {t = t} {r = r} {a = a} k p) h =
      let x = joined_small p h.1.1 in (carry (of_token (across y.span r) t a.tree) x.0, x.1.1)
  atom_small (g.each {s = s} {r = r} {star = star} {w = w} {b = b} {a = a} k p q) h =
      let x = bounds_small p h.1.1.1.1 in
      let y = formula_small q x.1.1 in
      (carry (of_each star s w b a r) (small_append (numbers b.low ++ numbers b.high) (numbers a) x.0 y.0), y.1.1)

  bounds_small : {d : ℕ} {us vs : Marked} {b : Bounds} → g.HasBounds d us b vs → Fits us
      → Both (numbers b.low ++ numbers b.high) vs
  bounds_small (g.range {a = a} {b = b} p q) h =
      let x = joined_small p h.1 in let y = joined_small q x.1.1 in (small_append (numbers a) (numbers b) x.0 y.0, y.1)
  bounds_small (g.written {a = a} {b = b} p q) h =
      let x = operand_small p h.1 in let y = operand_small q x.1.1.1.1.1.1 in (small_append (numbers a) (numbers b) x.0 y.0, y.1)

  pub formula_small : {d : ℕ} {us vs : Marked} {a : Part} → g.IsFormula d us a vs → Fits us → Both (numbers a) vs
  formula_small (g.formula p q) h = let x = level_small p h in implies_small q x.0 x.1

  level_small : {d : ℕ} {us vs : Marked} {a : Part} → g.IsLevel d us a vs → Fits us → Both (numbers a) vs
  level_small (g.disjunction p) h = joined_small p h
  level_small (g.separation p) h = joined_small p h

  implies_small : {d : ℕ} {us vs : Marked} {a b : Part} → g.ImpliesFrom d a us b vs → Small (numbers a) → Fits us
      → Both (numbers b) vs
  implies_small g.no_implies s h = (s, h)
  implies_small (g.implies {a = a} {b = b} p) s h =
      let x = formula_small p h.1 in (carry (of_joined op.Implies a b) (small_append (numbers a) (numbers b) s x.0), x.1)

pub clauses_small : {d : ℕ} {us vs : Marked} {cs : List Clause} → c.IsClauses d us cs vs → Fits us
    → Both (flat_map numbers_of_clause cs) vs
clauses_small c.no_clause h = (tt, h)
clauses_small (c.clause {a = a} {cs = cs} k p q) h =
    let x = formula_small p h.1 in
    let y = clauses_small q x.1.1 in
    (small_append (numbers a) (flat_map numbers_of_clause cs) x.0 y.0, y.1)
