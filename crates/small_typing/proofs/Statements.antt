-- What the static rules say of small statements: each leads to a scope of small programs.
use Rattle.std.proofs.Common.{◌≡◌, Bool, true, false, not, ◌||◌, ◌&&◌, Option, Some, None, is_some, List, [], ◌∷◌, map, refl, sym, ap, ◌∙◌, subst}
use Rattle.std.proofs.lemmas.Bool.{and_parts, and_from, not_from_false}
use Rattle.pv_base.specs.declared.Span.{Span}
use Rattle.pv_ast.specs.declared.Word.{Word}
use Rattle.pv_ast.specs.declared.PvType.{PvType}
use Rattle.pv_ast.specs.declared.PvType.TheVariants.{Int}
use Rattle.pv_ast.specs.declared.Expr.{Expr, fold_out-Expr}
use Rattle.pv_ast.specs.declared.ExprKind.{ExprKind, ExprKind-F, fold-roll-ExprKind}
use Rattle.pv_ast.specs.declared.ExprKind.TheVariants as kind
use Rattle.pv_ast.specs.declared.Right.{Right}
use Rattle.pv_ast.specs.declared.RightKind.{RightKind}
use Rattle.pv_ast.specs.declared.RightKind.TheVariants as right
use Rattle.pv_ast.specs.declared.Stmt.{Stmt, Stmt-F, ind-Stmt, fold-roll-Stmt, roll-Stmt, map-Stmt}
use Rattle.pv_ast.specs.declared.StmtKind.{StmtKind, StmtKind-F, roll-StmtKind, fold-roll-StmtKind, map-StmtKind}
use Rattle.pv_ast.specs.declared.fault.Rule.TheVariants as rule
use Rattle.pv_ast.specs.declared.scope.Declaration.TheVariants.{Local}
use Rattle.pv_ast.specs.declared.standing.Need.{Need}
use Rattle.pv_ast.specs.declared.standing.Need.TheVariants.{Anything, Exactly}
use Rattle.pv_ast.specs.declared.standing.StatementContext.{StatementContext}
use Rattle.pv_ast.specs.declared.standing.Typing.TheVariants.{Typed}
use Rattle.pv_ast.specs.Rules.Scoping.{Visible, is_visible, declare_variable}
use Rattle.pv_ast.specs.Rules.Expressions.{Environment, CheckedExpression, CheckedKind, checked_expression, checked_kind, checked_in_kind, checked_in_each, checked_in_expression, typing_in}
use Rattle.pv_ast.specs.Rules.Statements.{faults_of_expression, faults_of_right_kind, faults_of_first_value, CheckedStatement, CheckedStatementKind, checked_statement, checked_statement_kind, checked_in_statement_kind, checked_in_statement, parts_of_block, faults_of_statements, in_statement, in_branch, in_invariant, need_like, is_return_place, is_inner_local_kind, is_assignable as may_be_assigned}
use Rattle.small_meaning.specs.Rules.{Scope, scope_if, scope_then, scope_behind, scope_behind_kind, scope_behind_block, scope_in_kind, scope_in_stmt, with_local, is_in_scope, is_formula, is_term_kind, is_first_value, is_assignable, keeps_behind}
use Rattle.small_meaning.specs.Small.{is_int, is_variable, is_small_expr, is_small_right, is_small_first_value, is_small_stmt, is_small_stmt_kind, is_small_block, small_in_kind, small_in_stmt}
use Rattle.small_typing.proofs.Clean.{Clean, unless_holds, if_fails}
use Rattle.small_typing.proofs.Naming.{Here, Matches, int_name, local_name, new_name, declared_behind, local_matches}
use Rattle.small_typing.proofs.Expressions.{term_kept, formula_kept}

-- the type `int` is `int`
pub int_type : (type : PvType) → is_int type ≡ true → type ≡ Int
int_type Int h = refl
int_type _ h = cc

-- Right sides and places

right_kept : (s : Scope) (a : Environment) (v : Visible) (need : Need) (span : Span) (k : RightKind) → is_small_right k ≡ true
    → Here a v false s false → need ≡ Exactly Int → Clean (faults_of_right_kind a v need span k) → is_term_kind s k ≡ true
right_kept s a v need span (right.Value e) small here needed clean = term_kept s e a v need small here needed clean
right_kept s a v need span (right.Call target w args) small here needed clean = cc
right_kept s a v need span (right.NewObject w) small here needed clean = cc
right_kept s a v need span (right.NewArray type e) small here needed clean = cc

first_kept : (s : Scope) (a : Environment) (v : Visible) (need : Need) (r : Option Right) → is_small_first_value r ≡ true
    → Here a v false s false → need ≡ Exactly Int → Clean (faults_of_first_value a v need r) → is_first_value s r ≡ true
first_kept s a v need None small here needed clean = refl
first_kept s a v need (Some r) small here needed clean = right_kept s a v need r.span r.kind small here needed clean

variable_of : (k : ExprKind) → is_variable k ≡ true → (w : Word) × (k ≡ kind.Var w)
variable_of (kind.Var w) h = (w, refl)
variable_of _ h = absurd (cc)

part_of_variable : (e : Expr) (w : Word) → e.kind ≡ kind.Var w → checked_expression e
    ≡ checked_in_expression (record { span = e.span; kind = checked_in_kind (ExprKind-F.Var w) })
part_of_variable e w is =
    fold_out-Expr CheckedKind CheckedKind CheckedExpression checked_in_kind checked_in_each checked_in_expression e
    ∙ ap (λ (k : CheckedKind). checked_in_expression (record { span = e.span; kind = k }))
    (ap checked_kind is ∙ ap checked_kind (sym (kind.rolls-Var w))
    ∙ fold-roll-ExprKind CheckedKind CheckedKind CheckedExpression checked_in_kind checked_in_each checked_in_expression
    (ExprKind-F.Var w))

second_holds : (x y : Bool) → x ≡ false → (x || y) ≡ true → y ≡ true
second_holds true y h k = cc
second_holds false y h k = k

-- a variable that may be assigned is a local, and a whole number
place_kept : (s : Scope) (a : Environment) (v : Visible) (place : Expr) → is_variable place.kind ≡ true → Here a v false s false
    → Clean (faults_of_expression a v Anything place) → may_be_assigned a v place ≡ true
    → (typing_in (checked_expression place) a v ≡ Typed Int) × (is_assignable s place.kind ≡ true)
place_kept s a v place var here clean may =
    let x = variable_of place.kind var in
    let part = part_of_variable place x.0 x.1 in
    let clean_here = subst (λ (p : CheckedExpression). Clean (p.faults a v in_statement Anything)) part clean in
    let k = int_name a v false s false x.0.name here (unless_holds _ rule.UnknownName x.0.span clean_here.0.0) in
    let located = ap (λ (p : CheckedExpression). (p.seen a v).location) part ∙ k.1 in
    let inner = subst (λ (e : ExprKind). is_inner_local_kind v e ≡ true) x.1
    (second_holds ((checked_expression place).seen a v).location (is_inner_local_kind v place.kind) located may) in (
      ap (λ (p : CheckedExpression). typing_in p a v) part ∙ k.0,
      ap (is_assignable s) x.1
          ∙ local_name v s x.0.name here.names inner,
    )

-- Scopes that statements lead to

-- the names behind a statement are those of the scope behind it
abbrev pub Leads : Environment → Visible → Option Scope → Type 0
Leads a v None = ⊥
Leads a v (Some s) = Here a v false s false

leads_if : (a : Environment) (v : Visible) (b : Bool) (s : Scope) → b ≡ true → Here a v false s false → Leads a v (scope_if b s)
leads_if a v true s h here = here
leads_if a v false s h here = absurd (cc)

-- what follows is kept in the scope that a statement leads to
then_some : (a : Environment) (v : Visible) (o : Option Scope) (next : Scope → Option Scope) → Leads a v o
    → ((s : Scope) → Here a v false s false → is_some (next s) ≡ true) → is_some (scope_then o next) ≡ true
then_some a v None next h k = absurd h
then_some a v (Some s) next h k = k s h

pub then_keeps : (a : Environment) (v : Visible) (o : Option Scope) (next : Scope → Bool) → Leads a v o
    → ((s : Scope) → Here a v false s false → next s ≡ true) → keeps_behind o next ≡ true
then_keeps a v None next h k = absurd h
then_keeps a v (Some s) next h k = k s h

pub leads_somewhere : (a : Environment) (v : Visible) (o : Option Scope) → Leads a v o → is_some o ≡ true
leads_somewhere a v None h = absurd h
leads_somewhere a v (Some s) h = refl

-- a declaration that has no fault leads to a scope with the local
local_leads : (a : Environment) (v : Visible) (s : Scope) (w : Word) (type : PvType) (first : Bool) → type ≡ Int
    → Here a v false s false → is_visible v w.name ≡ false → first ≡ true
    → Leads a (declare_variable Local v w.name type) (scope_if (not (is_in_scope s w.name.0) && first) (with_local s w.name.0))
local_leads a v s w type first int here new kept =
    leads_if a (declare_variable Local v w.name type) (not (is_in_scope s w.name.0) && first) (with_local s w.name.0)
    (and_from (not (is_in_scope s w.name.0)) first (not_from_false (is_in_scope s w.name.0) (new_name v s w.name here.names new))
    kept)
    (record {
      names = subst (λ (x : Visible). Matches x (with_local s w.name.0))
          (sym (declared_behind v w.name (record { declaration = Local; kind = type }) new))
          (local_matches v s w.name type here.names int);
      fields = here.fields;
      result = here.result;
    })

-- The induction

-- a small kind without a fault that isn't last leads somewhere
pub record KindStands (small : Bool) (part : CheckedStatementKind) (next : Scope → Option Scope) : Type 0 where
  pub stands : small ≡ true → (span : Span) (a : Environment) (v : Visible) (stand : StatementContext) (s : Scope)
      → Here a v false s false → stand.last ≡ false → Clean (part.faults span a v stand) → Leads a (part.behind v) (next s)

pub record StmtStands (small : Bool) (part : CheckedStatement) (next : Scope → Option Scope) : Type 0 where
  pub stands : small ≡ true → (a : Environment) (v : Visible) (stand : StatementContext) (s : Scope) → Here a v false s false
      → stand.last ≡ false → Clean (part.faults a v stand) → Leads a (part.behind v) (next s)

abbrev LawOfKind : StmtKind → Type 0
LawOfKind k = KindStands (is_small_stmt_kind k) (checked_statement_kind k) (scope_behind_kind k)

abbrev LawOfStmt : Stmt → Type 0
LawOfStmt x = StmtStands (is_small_stmt x) (checked_statement x) (scope_behind x)

abbrev Kinds : Type 0
Kinds = (k : StmtKind) × LawOfKind k

abbrev Stmts : Type 0
Stmts = (x : Stmt) × LawOfStmt x

abbrev stmts_of : List Stmts → List Stmt
stmts_of ys = map (λ y. y.0) ys

-- what the parts of a kind give
abbrev pub smalls_in : StmtKind-F StmtKind Stmt → StmtKind-F Bool Bool
smalls_in = map-StmtKind StmtKind Stmt Bool Bool is_small_stmt_kind is_small_stmt

abbrev pub parts_in : StmtKind-F StmtKind Stmt → StmtKind-F CheckedStatementKind CheckedStatement
parts_in = map-StmtKind StmtKind Stmt CheckedStatementKind CheckedStatement checked_statement_kind checked_statement

abbrev scopes_in : StmtKind-F StmtKind Stmt → StmtKind-F (Scope → Option Scope) (Scope → Option Scope)
scopes_in = map-StmtKind StmtKind Stmt (Scope → Option Scope) (Scope → Option Scope) scope_behind_kind scope_behind

abbrev StandsIn : StmtKind-F StmtKind Stmt → Type 0
StandsIn x = KindStands (small_in_kind (smalls_in x)) (checked_in_statement_kind (parts_in x)) (scope_in_kind (scopes_in x))

abbrev without_laws : StmtKind-F Kinds Stmts → StmtKind-F StmtKind Stmt
without_laws = map-StmtKind Kinds Stmts StmtKind Stmt (λ e. e.0) (λ e. e.0)

-- small statements one behind the other lead somewhere
block_stands : (ys : List Stmts) → is_small_block (stmts_of ys) ≡ true
    → (a : Environment) (v : Visible) (stand : StatementContext) (s : Scope) → Here a v false s false → stand.last ≡ false
    → Clean (faults_of_statements (parts_of_block (stmts_of ys)) a v stand)
    → is_some (scope_behind_block (stmts_of ys) s) ≡ true
block_stands [] small a v stand s here last clean = refl
block_stands (y ∷ ys) small a v stand s here last clean =
    let f = and_parts (is_small_stmt y.0) (is_small_block (stmts_of ys)) small in
    then_some a ((checked_statement y.0).behind v) (scope_behind y.0 s) (scope_behind_block (stmts_of ys))
    (y.1.stands f.0 a v stand s here last clean.0)
    (λ t there. block_stands ys f.1 a ((checked_statement y.0).behind v) stand t there last clean.1)

not_last : (x y z : Bool) → x ≡ false → (x && y && z) ≡ true → ⊥
not_last true y z h k = cc
not_last false y z h k = cc

kind_layer : (y : StmtKind-F Kinds Stmts) → StandsIn (without_laws y)
kind_layer (StmtKind-F.Local type w value) = record {
  stands = λ small span a v stand s here last clean.
      let f = and_parts (is_int type.kind) (is_small_first_value value) small in
      let int = int_type type.kind f.0 in
      local_leads a v s w type.kind (is_first_value s value) int here
      (if_fails (is_visible v w.name) rule.Shadows w.span clean.1.0)
      (first_kept s a v (Exactly type.kind) value f.1 here (ap Exactly int) clean.1.1.0);
}
kind_layer (StmtKind-F.Assign place value) = record {
  stands = λ small span a v stand s here last clean.
      let f = and_parts (is_variable place.kind) (is_small_right value.kind) small in
      let p = place_kept s a v place f.0 here clean.0
      (unless_holds (may_be_assigned a v place) rule.NotAssignable place.span clean.1.0) in
      leads_if a v (is_assignable s place.kind && is_term_kind s value.kind) s
      (and_from (is_assignable s place.kind) (is_term_kind s value.kind) p.1
      (right_kept s a v (need_like (typing_in (checked_expression place) a v)) value.span value.kind f.1 here
      (ap need_like p.0) clean.1.1.0)) here;
}
kind_layer (StmtKind-F.If condition first second) = record {
  stands = λ small span a v stand s here last clean.
      let both_small = and_parts (is_small_expr condition && is_small_block (stmts_of first)) (is_small_block (stmts_of second))
      small in
      let f = and_parts (is_small_expr condition) (is_small_block (stmts_of first)) both_small.0 in
      let one = block_stands first f.1 a v (in_branch stand) s here refl clean.1.0 in
      let other = block_stands second both_small.1 a v (in_branch stand) s here refl clean.1.1 in
      let formula = formula_kept s false condition a v in_statement f.0 here clean.0 in
      let kept = and_from (is_formula s false condition) (is_some (scope_behind_block (stmts_of first) s)) formula one in
      leads_if a v (is_formula s false condition && is_some (scope_behind_block (stmts_of first) s)
      && is_some (scope_behind_block (stmts_of second) s)) s
      (and_from (is_formula s false condition && is_some (scope_behind_block (stmts_of first) s))
      (is_some (scope_behind_block (stmts_of second) s)) kept other) here;
}
kind_layer (StmtKind-F.Assert formula) = record {
  stands = λ small span a v stand s here last clean.
      leads_if a v (is_formula s false formula) s (formula_kept s false formula a v (in_invariant stand) small here clean) here;
}
kind_layer (StmtKind-F.Return None) = record {
  stands = λ small span a v stand s here last clean.
      absurd (not_last stand.last stand.method (not (is_some a.result)) last
      (unless_holds (is_return_place a stand None) rule.ReturnPlace span clean.0));
}
kind_layer (StmtKind-F.Return (Some e)) = record {
  stands = λ small span a v stand s here last clean.
      absurd (not_last stand.last stand.method (is_some a.result) last
      (unless_holds (is_return_place a stand (Some e)) rule.ReturnPlace span clean.0));
}
kind_layer _ = record { stands = λ small span a v stand s here last clean. absurd (cc) }

kind_same : (b c : Bool) (p q : CheckedStatementKind) (f g : Scope → Option Scope) → b ≡ c → p ≡ q → f ≡ g → KindStands c q g
    → KindStands b p f
kind_same b c p q f g eb ep ef h = subst (λ (x : Bool). KindStands x p f) (sym eb)
    (subst (λ (x : CheckedStatementKind). KindStands c x f) (sym ep)
    (subst (λ (x : Scope → Option Scope). KindStands c q x) (sym ef) h))

stmt_same : (b c : Bool) (p q : CheckedStatement) (f g : Scope → Option Scope) → b ≡ c → p ≡ q → f ≡ g → StmtStands c q g
    → StmtStands b p f
stmt_same b c p q f g eb ep ef h = subst (λ (x : Bool). StmtStands x p f) (sym eb)
    (subst (λ (x : CheckedStatement). StmtStands c x f) (sym ep)
    (subst (λ (x : Scope → Option Scope). StmtStands c q x) (sym ef) h))

kind_step : (x : StmtKind-F StmtKind Stmt) (y : StmtKind-F Kinds Stmts) → without_laws y ≡ x → LawOfKind (roll-StmtKind x)
kind_step x y is =
    kind_same _ _ _ _ _ _ (fold-roll-StmtKind Bool Bool small_in_kind small_in_stmt x)
    (fold-roll-StmtKind CheckedStatementKind CheckedStatement checked_in_statement_kind checked_in_statement x)
    (fold-roll-StmtKind (Scope → Option Scope) (Scope → Option Scope) scope_in_kind scope_in_stmt x)
    (subst (λ (z : StmtKind-F StmtKind Stmt). StandsIn z) is (kind_layer y))

-- a statement stands as its kind does
stmt_layer : (span : Span) (k : StmtKind) → LawOfKind k
    → StmtStands (is_small_stmt_kind k) (checked_in_statement (record { span = span; kind = checked_statement_kind k }))
    (scope_behind_kind k)
stmt_layer span k law = record { stands = λ small a v stand s here last clean. law.stands small span a v stand s here last clean }

stmt_step : (x : Stmt-F StmtKind Stmt) (y : Stmt-F Kinds Stmts) → map-Stmt Kinds Stmts StmtKind Stmt (λ e. e.0) (λ e. e.0) y ≡ x
    → LawOfStmt (roll-Stmt x)
stmt_step x y is =
    stmt_same _ _ _ _ _ _ (fold-roll-Stmt Bool Bool small_in_kind small_in_stmt x)
    (fold-roll-Stmt CheckedStatementKind CheckedStatement checked_in_statement_kind checked_in_statement x)
    (fold-roll-Stmt (Scope → Option Scope) (Scope → Option Scope) scope_in_kind scope_in_stmt x)
    (stmt_layer x.span x.kind (subst (λ (z : Stmt-F StmtKind Stmt). LawOfKind z.kind) is y.kind.1))

pub stmt_stands : (x : Stmt) → LawOfStmt x
stmt_stands = ind-Stmt LawOfKind LawOfStmt kind_step stmt_step
