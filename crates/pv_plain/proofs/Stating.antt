-- What statements give, by their kinds and what their parts give.
use Rattle.std.proofs.Common.{◌≡◌, ℕ, Bool, false, ◌||◌, Option, Some, None, List, [], ◌∷◌, ◌++◌, map, refl, sym, ◌∙◌, ap}
use Rattle.std.specs.List.{list_any}
use Rattle.pv_ast.specs.declared.Word.{Word}
use Rattle.pv_ast.specs.declared.TypeWord.{TypeWord}
use Rattle.pv_ast.specs.declared.Expr.{Expr}
use Rattle.pv_ast.specs.declared.Contract.{Contract}
use Rattle.pv_ast.specs.declared.Range.{Range}
use Rattle.pv_ast.specs.declared.Right.{Right}
use Rattle.pv_ast.specs.declared.Stmt.{Stmt}
use Rattle.pv_ast.specs.declared.StmtKind.{StmtKind, StmtKind-F, out-StmtKind, roll-StmtKind, roll-out-StmtKind}
use Rattle.pv_ast.specs.declared.StmtKind.TheVariants as tree
use Rattle.pv_ast.specs.declared.scope.Declaration.TheVariants.{Local}
use Rattle.pv_ast.specs.Rules.Scoping.{Visible, declare_variable}
use Rattle.pv_ast.specs.Rules.Expressions.{Environment}
use Rattle.pv_picks.specs.Plain.Core.{Message}
use Rattle.pv_picks.specs.Plain.Core as core
use Rattle.pv_picks.specs.Elaborating.Expressions.{has_old}
use Rattle.pv_picks.specs.Elaborating.Statements.{ElaboratedStatement, StmtLayer, Site, elaborated_statement, elaborated_statement_kind, elaborated_in_statement, elaborated_in_statement_kind, assigned_in, assigned_in_kind, name_of_kind, old_in, old_in_stmt_kind, contract_has_old, sent_in, sent_in_kind, core_of_message, core_of_statement, statement_in_kind}
use Rattle.core_trees.proofs.StmtLayers.{layer_of, stmt_shown, stmt_rolled, kind_rolled}

-- a variant by its layer
unrolled_stmt : (k : StmtKind) (l : StmtKind-F StmtKind Stmt) → out-StmtKind k ≡ l → k ≡ roll-StmtKind l
unrolled_stmt k l i = sym (roll-out-StmtKind k) ∙ ap roll-StmtKind i

assigns_none_layer : (l : StmtKind-F StmtKind Stmt)
    → ((e : Expr) (r : Right) → l ≡ StmtKind-F.Assign e r → ⊥)
    → ((e : Expr) (xs ys : List Stmt) → l ≡ StmtKind-F.If e xs ys → ⊥)
    → ((es : List Expr) (e : Expr) (xs : List Stmt) → l ≡ StmtKind-F.While es e xs → ⊥)
    → ((r : Range) (c : Contract) (xs : List Stmt) → l ≡ StmtKind-F.For r c xs → ⊥)
    → ((b : Option Word) (r : Range) (c : Contract) (xs : List Stmt) → l ≡ StmtKind-F.Par b r c xs → ⊥)
    → assigned_in_kind (layer_of l) ≡ []
assigns_none_layer (StmtKind-F.Assign e r) h0 h1 h2 h3 h4 = absurd (h0 e r refl)
assigns_none_layer (StmtKind-F.If e xs ys) h0 h1 h2 h3 h4 = absurd (h1 e xs ys refl)
assigns_none_layer (StmtKind-F.While es e xs) h0 h1 h2 h3 h4 = absurd (h2 es e xs refl)
assigns_none_layer (StmtKind-F.For r c xs) h0 h1 h2 h3 h4 = absurd (h3 r c xs refl)
assigns_none_layer (StmtKind-F.Par b r c xs) h0 h1 h2 h3 h4 = absurd (h4 b r c xs refl)
assigns_none_layer l h0 h1 h2 h3 h4 = refl

pub assigns_none : (s : Stmt)
    → ((e : Expr) (r : Right) → s.kind ≡ tree.Assign e r → ⊥)
    → ((e : Expr) (xs ys : List Stmt) → s.kind ≡ tree.If e xs ys → ⊥)
    → ((es : List Expr) (e : Expr) (xs : List Stmt) → s.kind ≡ tree.While es e xs → ⊥)
    → ((r : Range) (c : Contract) (xs : List Stmt) → s.kind ≡ tree.For r c xs → ⊥)
    → ((b : Option Word) (r : Range) (c : Contract) (xs : List Stmt) → s.kind ≡ tree.Par b r c xs → ⊥)
    → (elaborated_statement s).assigned ≡ []
assigns_none s h0 h1 h2 h3 h4 =
    ap (λ p. p.assigned) (stmt_rolled s) ∙ ap (λ k. k.assigned) (kind_rolled s.kind)
    ∙ assigns_none_layer (out-StmtKind s.kind)
    (λ e r i. h0 e r (unrolled_stmt s.kind (StmtKind-F.Assign e r) i ∙ tree.rolls-Assign e r))
    (λ e xs ys i. h1 e xs ys (unrolled_stmt s.kind (StmtKind-F.If e xs ys) i ∙ tree.rolls-If e xs ys))
    (λ es e xs i. h2 es e xs (unrolled_stmt s.kind (StmtKind-F.While es e xs) i ∙ tree.rolls-While es e xs))
    (λ r c xs i. h3 r c xs (unrolled_stmt s.kind (StmtKind-F.For r c xs) i ∙ tree.rolls-For r c xs))
    (λ b r c xs i. h4 b r c xs (unrolled_stmt s.kind (StmtKind-F.Par b r c xs) i ∙ tree.rolls-Par b r c xs))

old_nowhere_layer : (l : StmtKind-F StmtKind Stmt)
    → ((e : Expr) (xs ys : List Stmt) → l ≡ StmtKind-F.If e xs ys → ⊥)
    → ((es : List Expr) (e : Expr) (xs : List Stmt) → l ≡ StmtKind-F.While es e xs → ⊥)
    → ((r : Range) (c : Contract) (xs : List Stmt) → l ≡ StmtKind-F.For r c xs → ⊥)
    → ((b : Option Word) (r : Range) (c : Contract) (xs : List Stmt) → l ≡ StmtKind-F.Par b r c xs → ⊥)
    → ((w : Word) (c : Contract) → l ≡ StmtKind-F.Barrier w c → ⊥)
    → ((e : Expr) → l ≡ StmtKind-F.Assert e → ⊥)
    → ((w : Word) (n : ℕ) (e : Expr) → l ≡ StmtKind-F.Send w n e → ⊥)
    → old_in_stmt_kind (layer_of l) ≡ false
old_nowhere_layer (StmtKind-F.If e xs ys) h0 h1 h2 h3 h4 h5 h6 = absurd (h0 e xs ys refl)
old_nowhere_layer (StmtKind-F.While es e xs) h0 h1 h2 h3 h4 h5 h6 = absurd (h1 es e xs refl)
old_nowhere_layer (StmtKind-F.For r c xs) h0 h1 h2 h3 h4 h5 h6 = absurd (h2 r c xs refl)
old_nowhere_layer (StmtKind-F.Par b r c xs) h0 h1 h2 h3 h4 h5 h6 = absurd (h3 b r c xs refl)
old_nowhere_layer (StmtKind-F.Barrier w c) h0 h1 h2 h3 h4 h5 h6 = absurd (h4 w c refl)
old_nowhere_layer (StmtKind-F.Assert e) h0 h1 h2 h3 h4 h5 h6 = absurd (h5 e refl)
old_nowhere_layer (StmtKind-F.Send w n e) h0 h1 h2 h3 h4 h5 h6 = absurd (h6 w n e refl)
old_nowhere_layer l h0 h1 h2 h3 h4 h5 h6 = refl

pub old_nowhere : (s : Stmt)
    → ((e : Expr) (xs ys : List Stmt) → s.kind ≡ tree.If e xs ys → ⊥)
    → ((es : List Expr) (e : Expr) (xs : List Stmt) → s.kind ≡ tree.While es e xs → ⊥)
    → ((r : Range) (c : Contract) (xs : List Stmt) → s.kind ≡ tree.For r c xs → ⊥)
    → ((b : Option Word) (r : Range) (c : Contract) (xs : List Stmt) → s.kind ≡ tree.Par b r c xs → ⊥)
    → ((w : Word) (c : Contract) → s.kind ≡ tree.Barrier w c → ⊥)
    → ((e : Expr) → s.kind ≡ tree.Assert e → ⊥)
    → ((w : Word) (n : ℕ) (e : Expr) → s.kind ≡ tree.Send w n e → ⊥)
    → (elaborated_statement s).old ≡ false
old_nowhere s h0 h1 h2 h3 h4 h5 h6 =
    ap (λ p. p.old) (stmt_rolled s) ∙ ap (λ k. k.old) (kind_rolled s.kind)
    ∙ old_nowhere_layer (out-StmtKind s.kind)
    (λ e xs ys i. h0 e xs ys (unrolled_stmt s.kind (StmtKind-F.If e xs ys) i ∙ tree.rolls-If e xs ys))
    (λ es e xs i. h1 es e xs (unrolled_stmt s.kind (StmtKind-F.While es e xs) i ∙ tree.rolls-While es e xs))
    (λ r c xs i. h2 r c xs (unrolled_stmt s.kind (StmtKind-F.For r c xs) i ∙ tree.rolls-For r c xs))
    (λ b r c xs i. h3 b r c xs (unrolled_stmt s.kind (StmtKind-F.Par b r c xs) i ∙ tree.rolls-Par b r c xs))
    (λ w c i. h4 w c (unrolled_stmt s.kind (StmtKind-F.Barrier w c) i ∙ tree.rolls-Barrier w c))
    (λ e i. h5 e (unrolled_stmt s.kind (StmtKind-F.Assert e) i ∙ tree.rolls-Assert e))
    (λ w n e i. h6 w n e (unrolled_stmt s.kind (StmtKind-F.Send w n e) i ∙ tree.rolls-Send w n e))

sends_none_layer : (l : StmtKind-F StmtKind Stmt)
    → ((e : Expr) (xs ys : List Stmt) → l ≡ StmtKind-F.If e xs ys → ⊥)
    → ((es : List Expr) (e : Expr) (xs : List Stmt) → l ≡ StmtKind-F.While es e xs → ⊥)
    → ((w : Option Word) (r : Range) (c : Contract) (xs : List Stmt) → l ≡ StmtKind-F.Par w r c xs → ⊥)
    → ((w : Word) (n : ℕ) (e : Expr) → l ≡ StmtKind-F.Send w n e → ⊥)
    → (a : Environment) (v : Visible) → sent_in_kind (layer_of l) a v ≡ []
sends_none_layer (StmtKind-F.If e xs ys) h0 h1 h2 h3 a v = absurd (h0 e xs ys refl)
sends_none_layer (StmtKind-F.While es e xs) h0 h1 h2 h3 a v = absurd (h1 es e xs refl)
sends_none_layer (StmtKind-F.Par w r c xs) h0 h1 h2 h3 a v = absurd (h2 w r c xs refl)
sends_none_layer (StmtKind-F.Send w n e) h0 h1 h2 h3 a v = absurd (h3 w n e refl)
sends_none_layer l h0 h1 h2 h3 a v = refl

pub sends_none : (s : Stmt) → ((e : Expr) (xs ys : List Stmt) → s.kind ≡ tree.If e xs ys → ⊥)
    → ((es : List Expr) (e : Expr) (xs : List Stmt) → s.kind ≡ tree.While es e xs → ⊥)
    → ((w : Option Word) (r : Range) (c : Contract) (xs : List Stmt) → s.kind ≡ tree.Par w r c xs → ⊥)
    → ((w : Word) (n : ℕ) (e : Expr) → s.kind ≡ tree.Send w n e → ⊥)
    → (a : Environment) (v : Visible) → (elaborated_statement s).sent a v ≡ []
sends_none s h0 h1 h2 h3 a v =
    ap (λ p. p.sent a v) (stmt_rolled s) ∙ ap (λ k. k.sent a v) (kind_rolled s.kind)
    ∙ sends_none_layer (out-StmtKind s.kind)
    (λ e xs ys i. h0 e xs ys (unrolled_stmt s.kind (StmtKind-F.If e xs ys) i ∙ tree.rolls-If e xs ys))
    (λ es e xs i. h1 es e xs (unrolled_stmt s.kind (StmtKind-F.While es e xs) i ∙ tree.rolls-While es e xs))
    (λ w r c xs i. h2 w r c xs (unrolled_stmt s.kind (StmtKind-F.Par w r c xs) i ∙ tree.rolls-Par w r c xs))
    (λ w n e i. h3 w n e (unrolled_stmt s.kind (StmtKind-F.Send w n e) i ∙ tree.rolls-Send w n e)) a v

behind_layer : (l : StmtKind-F StmtKind Stmt) → ((t : TypeWord) (w : Word) (r : Option Right) → l ≡ StmtKind-F.Local t w r → ⊥)
    → (v : Visible) → (elaborated_in_statement_kind (layer_of l)).checked.behind v ≡ v
behind_layer (StmtKind-F.Local t w r) h v = absurd (h t w r refl)
behind_layer l h v = refl

pub behind_same : (s : Stmt) → ((t : TypeWord) (w : Word) (r : Option Right) → s.kind ≡ tree.Local t w r → ⊥) → (v : Visible)
    → (elaborated_statement s).checked.behind v ≡ v
behind_same s h v =
    ap (λ p. p.checked.behind v) (stmt_rolled s) ∙ ap (λ k. k.checked.behind v) (kind_rolled s.kind)
    ∙ behind_layer (out-StmtKind s.kind)
    (λ t w r i. h t w r (unrolled_stmt s.kind (StmtKind-F.Local t w r) i ∙ tree.rolls-Local t w r)) v

pub behind_local : (s : Stmt) (t : TypeWord) (w : Word) (r : Option Right) → s.kind ≡ tree.Local t w r → (v : Visible)
    → (elaborated_statement s).checked.behind v ≡ declare_variable Local v w.name t.kind
behind_local s t w r h v =
    ap (λ p. p.checked.behind v) (stmt_shown s (StmtKind-F.Local t w r) (tree.Local t w r) h (tree.rolls-Local t w r))

pub if_assigned : (s : Stmt) (e : Expr) (xs ys : List Stmt) → s.kind ≡ tree.If e xs ys → (elaborated_statement s).assigned
    ≡ assigned_in (map elaborated_statement xs) ++ assigned_in (map elaborated_statement ys)
if_assigned s e xs ys h =
    ap (λ p. p.assigned) (stmt_shown s (StmtKind-F.If e xs ys) (tree.If e xs ys) h (tree.rolls-If e xs ys))

pub if_old : (s : Stmt) (e : Expr) (xs ys : List Stmt) → s.kind ≡ tree.If e xs ys → (elaborated_statement s).old
    ≡ (old_in (map elaborated_statement xs) || old_in (map elaborated_statement ys))
if_old s e xs ys h =
    ap (λ p. p.old) (stmt_shown s (StmtKind-F.If e xs ys) (tree.If e xs ys) h (tree.rolls-If e xs ys))

pub if_sent : (s : Stmt) (e : Expr) (xs ys : List Stmt) → s.kind ≡ tree.If e xs ys → (a : Environment) (v : Visible)
    → (elaborated_statement s).sent a v ≡ sent_in (map elaborated_statement xs) a v ++ sent_in (map elaborated_statement ys) a v
if_sent s e xs ys h a v =
    ap (λ p. p.sent a v) (stmt_shown s (StmtKind-F.If e xs ys) (tree.If e xs ys) h (tree.rolls-If e xs ys))

pub while_assigned : (s : Stmt) (es : List Expr) (e : Expr) (xs : List Stmt) → s.kind ≡ tree.While es e xs
    → (elaborated_statement s).assigned ≡ assigned_in (map elaborated_statement xs)
while_assigned s es e xs h =
    ap (λ p. p.assigned) (stmt_shown s (StmtKind-F.While es e xs) (tree.While es e xs) h (tree.rolls-While es e xs))

pub while_old : (s : Stmt) (es : List Expr) (e : Expr) (xs : List Stmt) → s.kind ≡ tree.While es e xs
    → (elaborated_statement s).old ≡ (list_any has_old es || old_in (map elaborated_statement xs))
while_old s es e xs h =
    ap (λ p. p.old) (stmt_shown s (StmtKind-F.While es e xs) (tree.While es e xs) h (tree.rolls-While es e xs))

pub while_sent : (s : Stmt) (es : List Expr) (e : Expr) (xs : List Stmt) → s.kind ≡ tree.While es e xs
    → (a : Environment) (v : Visible) → (elaborated_statement s).sent a v ≡ sent_in (map elaborated_statement xs) a v
while_sent s es e xs h a v =
    ap (λ p. p.sent a v) (stmt_shown s (StmtKind-F.While es e xs) (tree.While es e xs) h (tree.rolls-While es e xs))

pub for_assigned : (s : Stmt) (r : Range) (c : Contract) (xs : List Stmt) → s.kind ≡ tree.For r c xs
    → (elaborated_statement s).assigned ≡ assigned_in (map elaborated_statement xs)
for_assigned s r c xs h =
    ap (λ p. p.assigned) (stmt_shown s (StmtKind-F.For r c xs) (tree.For r c xs) h (tree.rolls-For r c xs))

pub for_old : (s : Stmt) (r : Range) (c : Contract) (xs : List Stmt) → s.kind ≡ tree.For r c xs
    → (elaborated_statement s).old ≡ (contract_has_old c || old_in (map elaborated_statement xs))
for_old s r c xs h =
    ap (λ p. p.old) (stmt_shown s (StmtKind-F.For r c xs) (tree.For r c xs) h (tree.rolls-For r c xs))

pub par_assigned : (s : Stmt) (b : Option Word) (r : Range) (c : Contract) (xs : List Stmt) → s.kind ≡ tree.Par b r c xs
    → (elaborated_statement s).assigned ≡ assigned_in (map elaborated_statement xs)
par_assigned s b r c xs h =
    ap (λ p. p.assigned) (stmt_shown s (StmtKind-F.Par b r c xs) (tree.Par b r c xs) h (tree.rolls-Par b r c xs))

pub par_old : (s : Stmt) (b : Option Word) (r : Range) (c : Contract) (xs : List Stmt) → s.kind ≡ tree.Par b r c xs
    → (elaborated_statement s).old ≡ (contract_has_old c || old_in (map elaborated_statement xs))
par_old s b r c xs h =
    ap (λ p. p.old) (stmt_shown s (StmtKind-F.Par b r c xs) (tree.Par b r c xs) h (tree.rolls-Par b r c xs))

pub par_sent : (s : Stmt) (b : Option Word) (r : Range) (c : Contract) (xs : List Stmt) → s.kind ≡ tree.Par b r c xs
    → (a : Environment) (v : Visible) → (elaborated_statement s).sent a v ≡ sent_in (map elaborated_statement xs) a v
par_sent s b r c xs h a v =
    ap (λ p. p.sent a v) (stmt_shown s (StmtKind-F.Par b r c xs) (tree.Par b r c xs) h (tree.rolls-Par b r c xs))

pub barrier_old : (s : Stmt) (w : Word) (c : Contract) → s.kind ≡ tree.Barrier w c → (elaborated_statement s).old
    ≡ contract_has_old c
barrier_old s w c h =
    ap (λ p. p.old) (stmt_shown s (StmtKind-F.Barrier w c) (tree.Barrier w c) h (tree.rolls-Barrier w c))

pub assert_old : (s : Stmt) (e : Expr) → s.kind ≡ tree.Assert e → (elaborated_statement s).old ≡ has_old e
assert_old s e h =
    ap (λ p. p.old) (stmt_shown s (StmtKind-F.Assert e) (tree.Assert e) h (tree.rolls-Assert e))

pub send_old : (s : Stmt) (w : Word) (n : ℕ) (e : Expr) → s.kind ≡ tree.Send w n e → (elaborated_statement s).old ≡ has_old e
send_old s w n e h =
    ap (λ p. p.old) (stmt_shown s (StmtKind-F.Send w n e) (tree.Send w n e) h (tree.rolls-Send w n e))

pub send_sent : (s : Stmt) (w : Word) (n : ℕ) (e : Expr) → s.kind ≡ tree.Send w n e → (a : Environment) (v : Visible)
    → (elaborated_statement s).sent a v ≡ core_of_message a v w n e ∷ []
send_sent s w n e h a v =
    ap (λ p. p.sent a v) (stmt_shown s (StmtKind-F.Send w n e) (tree.Send w n e) h (tree.rolls-Send w n e))

pub assign_assigned : (s : Stmt) (e : Expr) (r : Right) → s.kind ≡ tree.Assign e r → (elaborated_statement s).assigned
    ≡ name_of_kind e.kind
assign_assigned s e r h =
    ap (λ p. p.assigned) (stmt_shown s (StmtKind-F.Assign e r) (tree.Assign e r) h (tree.rolls-Assign e r))
