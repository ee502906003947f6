-- What the static rules say of small expressions: each has the sort of its type, and uses names in scope.
use Rattle.std.proofs.Common.{◌≡◌, Bool, true, false, ◌&&◌, refl, sym, ap, subst, inl, inr}
use Rattle.std.proofs.lemmas.Bool.{and_parts, and_from}
use Rattle.pv_base.specs.declared.Span.{Span}
use Rattle.pv_ast.specs.declared.Operator.{Operator}
use Rattle.pv_ast.specs.declared.Operator.TheVariants as op
use Rattle.pv_ast.specs.declared.PvType.TheVariants.{Int, Truth}
use Rattle.pv_ast.specs.declared.Expr.{Expr, Expr-F, ind-Expr, roll-Expr, map-Expr, fold-roll-Expr}
use Rattle.pv_ast.specs.declared.ExprKind.{ExprKind, ExprKind-F, roll-ExprKind, map-ExprKind, fold-roll-ExprKind}
use Rattle.pv_ast.specs.declared.Each.{Each, Each-F, roll-Each, map-Each, fold-Each}
use Rattle.pv_ast.specs.declared.fault.Rule.TheVariants as rule
use Rattle.pv_ast.specs.declared.standing.Context.{Context}
use Rattle.pv_ast.specs.declared.standing.Need.{Need}
use Rattle.pv_ast.specs.declared.standing.Need.TheVariants.{Exactly}
use Rattle.pv_ast.specs.declared.standing.Typing.{Typing}
use Rattle.pv_ast.specs.declared.standing.Typing.TheVariants.{Untyped}
use Rattle.pv_ast.specs.Rules.Scoping.{Visible}
use Rattle.pv_ast.specs.Rules.Typing as typing
use Rattle.pv_ast.specs.Rules.Expressions.{Environment, CheckedExpression, CheckedKind, checked_expression, checked_kind, checked_each, checked_in_kind, checked_in_each, checked_in_expression}
use Rattle.pv_ast.specs.Rules.Statements.{faults_of_formula, faults_of_expression, in_statement}
use Rattle.small_meaning.specs.Sorts.{Sort, number, is_literal, is_number, is_truth, sort_of_operator, sort_of, sort_of_kind, sort_in_kind, sort_in_each, sort_in_expr}
use Rattle.small_meaning.specs.Rules.{Scope, uses_names_of, uses_names_of_kind, uses_in_kind, uses_in_each, uses_in_expr, is_formula, is_term}
use Rattle.small_meaning.specs.Small.{Form, foreign, is_written, is_formed, is_small_expr, composed_if, form_of_operator, form_of, form_of_kind, form_in_kind, form_in_each, form_in_expr}
use Rattle.small_typing.proofs.Clean.{Clean, unless_holds}
use Rattle.small_typing.proofs.Agreeing.{KindAgrees, Agrees, settled, composed_unwritten, composed_formed, written_formed, not_agrees, minus_agrees, sum_agrees, order_agrees, logic_agrees, equality_agrees, number_from, truth_from}
use Rattle.small_typing.proofs.Naming.{Here, int_name}

-- The induction

-- a kind of the form that has no fault agrees, in a scope and where `\result` may stand or not
pub record KindKeeps (s : Scope) (with_result : Bool) (form : Form) (part : CheckedKind) (sort : Sort)
    (uses : Bool) : Type 0 where
  pub literal : is_written form ≡ true → is_literal sort ≡ true
  pub keeps : is_formed form ≡ true → (span : Span) (a : Environment) (v : Visible) (c : Context)
      → Here a v c.result s with_result → Clean (part.faults span a v c) → KindAgrees (part.seen a v).typing sort uses

pub record ExprKeeps (s : Scope) (with_result : Bool) (form : Form) (part : CheckedExpression) (sort : Sort)
    (uses : Bool) : Type 0 where
  pub literal : is_written form ≡ true → is_literal sort ≡ true
  pub keeps : is_formed form ≡ true → (a : Environment) (v : Visible) (c : Context) (need : Need)
      → Here a v c.result s with_result → Clean (part.faults a v c need) → Agrees need (part.seen a v).typing sort uses

abbrev LawOfKind : ExprKind → Type 0
LawOfKind k = (s : Scope) (with_result : Bool)
    → KindKeeps s with_result (form_of_kind k) (checked_kind k) (sort_of_kind k) (uses_names_of_kind s with_result k)

abbrev LawOfEach : Each → Type 0
LawOfEach e = Unit {0}

abbrev LawOfExpr : Expr → Type 0
LawOfExpr e = (s : Scope) (with_result : Bool)
    → ExprKeeps s with_result (form_of e) (checked_expression e) (sort_of e) (uses_names_of s with_result e)

abbrev Kinds : Type 0
Kinds = (k : ExprKind) × LawOfKind k

abbrev Eaches : Type 0
Eaches = (e : Each) × LawOfEach e

abbrev Exprs : Type 0
Exprs = (e : Expr) × LawOfExpr e

-- what the parts of a kind give
abbrev forms_in : ExprKind-F ExprKind Each Expr → ExprKind-F Form Form Form
forms_in = map-ExprKind ExprKind Each Expr Form Form Form form_of_kind
    (fold-Each Form Form Form form_in_kind form_in_each form_in_expr) form_of

abbrev parts_in : ExprKind-F ExprKind Each Expr → ExprKind-F CheckedKind CheckedKind CheckedExpression
parts_in = map-ExprKind ExprKind Each Expr CheckedKind CheckedKind CheckedExpression checked_kind checked_each checked_expression

abbrev sorts_in : ExprKind-F ExprKind Each Expr → ExprKind-F Sort Sort Sort
sorts_in = map-ExprKind ExprKind Each Expr Sort Sort Sort sort_of_kind
    (fold-Each Sort Sort Sort sort_in_kind sort_in_each sort_in_expr) sort_of

abbrev uses_in : Scope → Bool → ExprKind-F ExprKind Each Expr → ExprKind-F Bool Bool Bool
uses_in s with_result = map-ExprKind ExprKind Each Expr Bool Bool Bool (uses_names_of_kind s with_result)
    (fold-Each Bool Bool Bool (uses_in_kind s with_result) uses_in_each uses_in_expr) (uses_names_of s with_result)

abbrev KeepsIn : Scope → Bool → ExprKind-F ExprKind Each Expr → Type 0
KeepsIn s with_result x = KindKeeps s with_result (form_in_kind (forms_in x)) (checked_in_kind (parts_in x))
    (sort_in_kind (sorts_in x)) (uses_in_kind s with_result (uses_in s with_result x))

abbrev without_laws : ExprKind-F Kinds Eaches Exprs → ExprKind-F ExprKind Each Expr
without_laws = map-ExprKind Kinds Eaches Exprs ExprKind Each Expr (λ e. e.0) (λ e. e.0) (λ e. e.0)

kind_same : (s : Scope) (r : Bool) (f g : Form) (p q : CheckedKind) (m n : Sort) (t u : Bool) → f ≡ g → p ≡ q → m ≡ n → t ≡ u
    → KindKeeps s r g q n u → KindKeeps s r f p m t
kind_same s r f g p q m n t u ef ep em et h =
    subst (λ (x : Form). KindKeeps s r x p m t) (sym ef)
    (subst (λ (x : CheckedKind). KindKeeps s r g x m t) (sym ep)
    (subst (λ (x : Sort). KindKeeps s r g q x t) (sym em) (subst (λ (x : Bool). KindKeeps s r g q n x) (sym et) h)))

expr_same : (s : Scope) (r : Bool) (f g : Form) (p q : CheckedExpression) (m n : Sort) (t u : Bool) → f ≡ g → p ≡ q → m ≡ n → t
    ≡ u → ExprKeeps s r g q n u → ExprKeeps s r f p m t
expr_same s r f g p q m n t u ef ep em et h =
    subst (λ (x : Form). ExprKeeps s r x p m t) (sym ef)
    (subst (λ (x : CheckedExpression). ExprKeeps s r g x m t) (sym ep)
    (subst (λ (x : Sort). ExprKeeps s r g q x t) (sym em) (subst (λ (x : Bool). ExprKeeps s r g q n x) (sym et) h)))

foreign_keeps : (s : Scope) (with_result : Bool) (part : CheckedKind) (sort : Sort) (uses : Bool)
    → KindKeeps s with_result foreign part sort uses
foreign_keeps s r part sort uses = record { literal = λ h. cc; keeps = λ h span a v c here clean. absurd (cc) }

left_result : (o : Operator) (c : Context) → (typing.under_left o c).result ≡ c.result
left_result op.Eq c = refl
left_result op.Ne c = refl
left_result op.And c = refl
left_result op.Or c = refl
left_result op.Implies c = refl
left_result _ c = refl

right_result : (o : Operator) (c : Context) → (typing.under_right o c).result ≡ c.result
right_result op.Eq c = refl
right_result op.Ne c = refl
right_result op.And c = refl
right_result op.Or c = refl
right_result _ c = refl

-- what an operator gives of its parts, where they agree
abbrev LawOfOperator : Operator → Type 0
LawOfOperator o = (t₁ t₂ : Typing) (s₁ s₂ : Sort) (u₁ u₂ : Bool) → Agrees (typing.need_of_operator o) t₁ s₁ u₁
    → Agrees (typing.need_of_operator o) t₂ s₂ u₂
    → KindAgrees (typing.typing_of_operator o t₁ t₂) (sort_of_operator o s₁ s₂) (u₁ && u₂)

abbrev LawOfSum : Operator → Type 0
LawOfSum o = (t₁ t₂ : Typing) (s₁ s₂ : Sort) (u₁ u₂ : Bool) → is_literal s₂ ≡ true → Agrees (typing.need_of_operator o) t₁ s₁ u₁
    → Agrees (typing.need_of_operator o) t₂ s₂ u₂
    → KindAgrees (typing.typing_of_operator o t₁ t₂) (sort_of_operator o s₁ s₂) (u₁ && u₂)

left_agrees : (s : Scope) (r : Bool) (o : Operator) (x y : Exprs) → is_formed (form_of x.0) ≡ true
    → (span : Span) (a : Environment) (v : Visible) (c : Context) → Here a v c.result s r
    → Clean ((checked_in_kind (parts_in (ExprKind-F.Binary o x.0 y.0))).faults span a v c)
    → Agrees (typing.need_of_operator o) ((checked_expression x.0).seen a v).typing (sort_of x.0) (uses_names_of s r x.0)
left_agrees s r o x y f span a v c here clean =
    (x.1 s r).keeps f a v (typing.under_left o c) (typing.need_of_operator o)
    (subst (λ told. Here a v told s r) (sym (left_result o c)) here) clean.0

right_agrees : (s : Scope) (r : Bool) (o : Operator) (x y : Exprs) → is_formed (form_of y.0) ≡ true
    → (span : Span) (a : Environment) (v : Visible) (c : Context) → Here a v c.result s r
    → Clean ((checked_in_kind (parts_in (ExprKind-F.Binary o x.0 y.0))).faults span a v c)
    → Agrees (typing.need_of_operator o) ((checked_expression y.0).seen a v).typing (sort_of y.0) (uses_names_of s r y.0)
right_agrees s r o x y f span a v c here clean =
    (y.1 s r).keeps f a v (typing.under_right o c) (typing.need_of_operator o)
    (subst (λ told. Here a v told s r) (sym (right_result o c)) here) clean.1

pair_keeps : (s : Scope) (r : Bool) (o : Operator) (x y : Exprs) → form_of_operator o (form_of x.0) (form_of y.0)
    ≡ composed_if (is_formed (form_of x.0) && is_formed (form_of y.0)) → LawOfOperator o
    → KeepsIn s r (ExprKind-F.Binary o x.0 y.0)
pair_keeps s r o x y form law =
    let fits = is_formed (form_of x.0) && is_formed (form_of y.0) in
    record {
      literal = λ h. absurd (composed_unwritten fits (subst (λ f. is_written f ≡ true) form h));
      keeps = λ h span a v c here clean.
          let f = and_parts (is_formed (form_of x.0)) (is_formed (form_of y.0))
          (composed_formed fits (subst (λ f. is_formed f ≡ true) form h)) in
          law ((checked_expression x.0).seen a v).typing ((checked_expression y.0).seen a v).typing (sort_of x.0) (sort_of y.0)
          (uses_names_of s r x.0) (uses_names_of s r y.0)
          (left_agrees s r o x y f.0 span a v c here clean) (right_agrees s r o x y f.1 span a v c here clean);
    }

sum_keeps : (s : Scope) (r : Bool) (o : Operator) (x y : Exprs) → form_of_operator o (form_of x.0) (form_of y.0)
    ≡ composed_if (is_formed (form_of x.0) && is_written (form_of y.0)) → LawOfSum o → KeepsIn s r (ExprKind-F.Binary o x.0 y.0)
sum_keeps s r o x y form law =
    let fits = is_formed (form_of x.0) && is_written (form_of y.0) in
    record {
      literal = λ h. absurd (composed_unwritten fits (subst (λ f. is_written f ≡ true) form h));
      keeps = λ h span a v c here clean.
          let f = and_parts (is_formed (form_of x.0)) (is_written (form_of y.0))
          (composed_formed fits (subst (λ f. is_formed f ≡ true) form h)) in
          law ((checked_expression x.0).seen a v).typing ((checked_expression y.0).seen a v).typing (sort_of x.0) (sort_of y.0)
          (uses_names_of s r x.0) (uses_names_of s r y.0) ((y.1 s r).literal f.1)
          (left_agrees s r o x y f.0 span a v c here clean)
          (right_agrees s r o x y (written_formed (form_of y.0) f.1) span a v c here clean);
    }

operator_keeps : (s : Scope) (r : Bool) (o : Operator) (x y : Exprs) → KeepsIn s r (ExprKind-F.Binary o x.0 y.0)
operator_keeps s r op.Add x y = sum_keeps s r op.Add x y refl sum_agrees
operator_keeps s r op.Sub x y = sum_keeps s r op.Sub x y refl sum_agrees
operator_keeps s r op.Mul x y = foreign_keeps _ _ _ _ _
operator_keeps s r op.Eq x y = pair_keeps s r op.Eq x y refl equality_agrees
operator_keeps s r op.Ne x y = pair_keeps s r op.Ne x y refl equality_agrees
operator_keeps s r op.Lt x y = pair_keeps s r op.Lt x y refl order_agrees
operator_keeps s r op.Le x y = pair_keeps s r op.Le x y refl order_agrees
operator_keeps s r op.Gt x y = pair_keeps s r op.Gt x y refl order_agrees
operator_keeps s r op.Ge x y = pair_keeps s r op.Ge x y refl order_agrees
operator_keeps s r op.And x y = pair_keeps s r op.And x y refl logic_agrees
operator_keeps s r op.Or x y = pair_keeps s r op.Or x y refl logic_agrees
operator_keeps s r op.Implies x y = foreign_keeps _ _ _ _ _
operator_keeps s r op.Star x y = foreign_keeps _ _ _ _ _

result_agrees : (a : Environment) (s : Scope) (r : Bool) (told : Bool) (v : Visible) → Here a v told s r → told ≡ true
    → KindAgrees (typing.typing_or Untyped a.result) number r
result_agrees a s r told v here h = let k = here.result h in inl (ap (typing.typing_or Untyped) k.1, refl, k.0)

kind_layer : (s : Scope) (r : Bool) (y : ExprKind-F Kinds Eaches Exprs) → KeepsIn s r (without_laws y)
kind_layer s r (ExprKind-F.Number n) = record { literal = λ h. refl; keeps = λ h span a v c here clean. inl (refl, refl, refl) }
kind_layer s r (ExprKind-F.Truth b) = record {
  literal = λ h. absurd (cc);
  keeps = λ h span a v c here clean.
      inr (inl (refl, refl, refl));
}
kind_layer s r ExprKind-F.Result = record {
  literal = λ h. absurd (cc);
  keeps = λ h span a v c here clean.
      result_agrees a s r c.result v here (unless_holds c.result rule.ResultPlace span clean);
}
kind_layer s r (ExprKind-F.Var w) = record {
  literal = λ h. absurd (cc);
  keeps = λ h span a v c here clean. let k = int_name a v c.result s r w.name here
      (unless_holds _ rule.UnknownName w.span clean.0) in inl (k.0, refl, k.2);
}
kind_layer s r (ExprKind-F.Not e) = record {
  literal = λ h. absurd (composed_unwritten (is_formed (form_of e.0)) h);
  keeps = λ h span a v c here clean. not_agrees _ _ _
      ((e.1 s r).keeps (composed_formed (is_formed (form_of e.0)) h) a v (typing.purely c) (Exactly Truth) here clean);
}
kind_layer s r (ExprKind-F.Minus e) = record {
  literal = λ h. absurd (composed_unwritten (is_written (form_of e.0)) h);
  keeps = λ h span a v c here clean.
      let w = composed_formed (is_written (form_of e.0)) h in
      minus_agrees _ _ _ ((e.1 s r).literal w) ((e.1 s r).keeps (written_formed (form_of e.0) w) a v c (Exactly Int) here clean);
}
kind_layer s r (ExprKind-F.Binary o x y) = operator_keeps s r o x y
kind_layer s r _ = foreign_keeps _ _ _ _ _

kind_step : (x : ExprKind-F ExprKind Each Expr) (y : ExprKind-F Kinds Eaches Exprs) → without_laws y ≡ x
    → LawOfKind (roll-ExprKind x)
kind_step x y is = λ s r.
    let here = subst (λ (z : ExprKind-F ExprKind Each Expr). KeepsIn s r z) is (kind_layer s r y) in
    let form = fold-roll-ExprKind Form Form Form form_in_kind form_in_each form_in_expr x in
    let part = fold-roll-ExprKind CheckedKind CheckedKind CheckedExpression checked_in_kind checked_in_each checked_in_expression
    x in
    let sort = fold-roll-ExprKind Sort Sort Sort sort_in_kind sort_in_each sort_in_expr x in
    let uses = fold-roll-ExprKind Bool Bool Bool (uses_in_kind s r) uses_in_each uses_in_expr x in
    kind_same s r _ _ _ _ _ _ _ _ form part sort uses here

each_step : (x : Each-F ExprKind Each Expr) (y : Each-F Kinds Eaches Exprs)
    → map-Each Kinds Eaches Exprs ExprKind Each Expr (λ e. e.0) (λ e. e.0) (λ e. e.0) y ≡ x → LawOfEach (roll-Each x)
each_step x y is = tt

-- an expression keeps what its kind keeps
expr_layer : (s : Scope) (r : Bool) (span : Span) (k : ExprKind) → LawOfKind k
    → ExprKeeps s r (form_of_kind k) (checked_in_expression (record { span = span; kind = checked_kind k })) (sort_of_kind k)
    (uses_names_of_kind s r k)
expr_layer s r span k law = record {
  literal = (law s r).literal;
  keeps = λ h a v c need here clean. settled need _ _ _ span ((law s r).keeps h span a v c here clean.0) clean.1;
}

expr_step : (x : Expr-F ExprKind Each Expr) (y : Expr-F Kinds Eaches Exprs)
    → map-Expr Kinds Eaches Exprs ExprKind Each Expr (λ e. e.0) (λ e. e.0) (λ e. e.0) y ≡ x → LawOfExpr (roll-Expr x)
expr_step x y is = λ s r.
    let law = subst (λ (z : Expr-F ExprKind Each Expr). LawOfKind z.kind) is y.kind.1 in
    let form = fold-roll-Expr Form Form Form form_in_kind form_in_each form_in_expr x in
    let part = fold-roll-Expr CheckedKind CheckedKind CheckedExpression checked_in_kind checked_in_each checked_in_expression x in
    let sort = fold-roll-Expr Sort Sort Sort sort_in_kind sort_in_each sort_in_expr x in
    let uses = fold-roll-Expr Bool Bool Bool (uses_in_kind s r) uses_in_each uses_in_expr x in
    expr_same s r _ _ _ _ _ _ _ _ form part sort uses (expr_layer s r x.span x.kind law)

pub expr_keeps : (e : Expr) → LawOfExpr e
expr_keeps = ind-Expr LawOfKind LawOfEach LawOfExpr kind_step each_step expr_step

-- What follows for formulas and terms

-- a small expression without a fault, where a truth value is needed, is a formula
pub formula_kept : (s : Scope) (r : Bool) (e : Expr) (a : Environment) (v : Visible) (c : Context) → is_small_expr e ≡ true
    → Here a v c.result s r → Clean (faults_of_formula a v c e) → is_formula s r e ≡ true
formula_kept s r e a v c h here clean =
    let k = truth_from _ _ _ ((expr_keeps e s r).keeps h a v c (Exactly Truth) here clean) in
    and_from (uses_names_of s r e) (is_truth (sort_of e)) k.2 k.1

-- a small expression without a fault, where a whole number is needed, is a term
pub term_kept : (s : Scope) (e : Expr) (a : Environment) (v : Visible) (need : Need) → is_small_expr e ≡ true
    → Here a v false s false → need ≡ Exactly Int → Clean (faults_of_expression a v need e) → is_term s e ≡ true
term_kept s e a v need h here needed clean =
    let k = number_from _ _ _ ((expr_keeps e s false).keeps h a v in_statement (Exactly Int) here
    (subst (λ n. Clean (faults_of_expression a v n e)) needed clean)) in
    and_from (uses_names_of s false e) (is_number (sort_of e)) k.2 k.1
