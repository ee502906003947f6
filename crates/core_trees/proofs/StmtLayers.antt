-- Pieces of statements by their layers, and the induction over them; a statement's piece has what the static rules say of the
-- statement.
use Rattle.std.proofs.Common.{◌≡◌, List, [], ◌∷◌, map, refl, sym, ◌∙◌, ap, subst}
use Rattle.pv_base.specs.declared.Span.{Span}
use Rattle.pv_ast.specs.declared.Stmt.{Stmt, Stmt-F, roll-Stmt, map-Stmt, fold-roll-Stmt, fold_out-Stmt}
use Rattle.pv_ast.specs.declared.StmtKind.{StmtKind, StmtKind-F, roll-StmtKind, map-StmtKind, out-StmtKind, fold-roll-StmtKind, fold_out-StmtKind}
use Rattle.pv_ast.specs.Rules.Statements.{CheckedStatement, CheckedStatementKind, checked_in_statement_kind, checked_in_statement, checked_statement, checked_statement_kind, parts_of_block}
use Rattle.pv_ast.specs.declared.fault.ShapeFault.{ShapeFault}
use Rattle.pv_ast.specs.Rules.Shapes as shapes
use Rattle.pv_ast.specs.Rules.Shapes.{faults_in_stmt_kind, faults_in_stmt, faults_of_stmt, faults_of_stmt_kind, faults_of_each}
use Rattle.pv_picks.specs.Elaborating.Statements.{ElaboratedStatement, ElaboratedStatementKind, StmtLayer, elaborated_in_statement_kind, elaborated_in_statement, elaborated_statement, elaborated_statement_kind, stmt_parts_in}
use Rattle.core_trees.proofs.Induction.{StmtKinds, Stmts, stmt_trees, stmt_induction}

-- one layer of a statement, with the pieces below it
abbrev pub layer_of : StmtKind-F StmtKind Stmt → StmtLayer
layer_of = map-StmtKind StmtKind Stmt ElaboratedStatementKind ElaboratedStatement elaborated_statement_kind elaborated_statement

pub kind_at_roll : (l : StmtKind-F StmtKind Stmt) → elaborated_statement_kind (roll-StmtKind l)
    ≡ elaborated_in_statement_kind (layer_of l)
unfolding elaborated_statement elaborated_statement_kind
kind_at_roll l = fold-roll-StmtKind ElaboratedStatementKind ElaboratedStatement elaborated_in_statement_kind
    elaborated_in_statement l

pub stmt_at_roll : (l : Stmt-F StmtKind Stmt) → elaborated_statement (roll-Stmt l)
    ≡ elaborated_in_statement (map-Stmt StmtKind Stmt ElaboratedStatementKind ElaboratedStatement elaborated_statement_kind
    elaborated_statement l)
unfolding elaborated_statement elaborated_statement_kind
stmt_at_roll l = fold-roll-Stmt ElaboratedStatementKind ElaboratedStatement elaborated_in_statement_kind elaborated_in_statement l

pub kind_rolled : (k : StmtKind) → elaborated_statement_kind k ≡ elaborated_in_statement_kind (layer_of (out-StmtKind k))
unfolding elaborated_statement elaborated_statement_kind
kind_rolled k = fold_out-StmtKind ElaboratedStatementKind ElaboratedStatement elaborated_in_statement_kind elaborated_in_statement
    k

pub stmt_rolled : (s : Stmt) → elaborated_statement s
    ≡ elaborated_in_statement (record { span = s.span; kind = elaborated_statement_kind s.kind })
unfolding elaborated_statement elaborated_statement_kind
stmt_rolled s = fold_out-Stmt ElaboratedStatementKind ElaboratedStatement elaborated_in_statement_kind elaborated_in_statement s

-- the piece of a statement by its layer
pub stmt_shown : (s : Stmt) (l : StmtKind-F StmtKind Stmt) (k : StmtKind) → s.kind ≡ k → roll-StmtKind l ≡ k
    → elaborated_statement s
    ≡ elaborated_in_statement (record { span = s.span; kind = elaborated_in_statement_kind (layer_of l) })
stmt_shown s l k h r =
    stmt_rolled s ∙ ap (λ k. elaborated_in_statement (record { span = s.span; kind = elaborated_statement_kind k })) (h ∙ sym r)
    ∙ ap (λ k. elaborated_in_statement (record { span = s.span; kind = k })) (kind_at_roll l)

-- The induction over the pieces of statements

-- statements that have a law of their pieces, and a list of such: their trees, their pieces, and what the rules say of pieces
abbrev pub StmtsWith : (ElaboratedStatement → Type 0) → Type 0
StmtsWith StmtLaw = (s : Stmt) × StmtLaw (elaborated_statement s)

abbrev pub trees : {Law : Stmt → Type 0} → List ((s : Stmt) × Law s) → List Stmt
trees ss = map (λ s. s.0) ss

abbrev pub elaborations : {Law : Stmt → Type 0} → List ((s : Stmt) × Law s) → List ElaboratedStatement
elaborations ss = map elaborated_statement (trees ss)

abbrev pub parts_in : List ElaboratedStatement → List CheckedStatement
parts_in ss = map (λ s. s.checked) ss

-- by a law of the pieces of kinds and of statements
module _ (KindLaw : ElaboratedStatementKind → Type 0) (StmtLaw : ElaboratedStatement → Type 0) where
  abbrev KindsWith : Type 0
  KindsWith = (k : StmtKind) × KindLaw (elaborated_statement_kind k)

  abbrev pub LayerWith : Type 0
  LayerWith = StmtKind-F KindsWith (StmtsWith StmtLaw)

  -- the piece of a layer has the law if those of its parts have it
  abbrev pub LayerHas : LayerWith → Type 0
  LayerHas y =
      KindLaw (elaborated_in_statement_kind (layer_of
      (map-StmtKind KindsWith (StmtsWith StmtLaw) StmtKind Stmt (λ e. e.0) (λ e. e.0) y)))

  abbrev pub LayerStep : Type 0
  LayerStep = (y : LayerWith) → LayerHas y

  abbrev pub StmtStep : Type 0
  StmtStep = (span : Span) (k : ElaboratedStatementKind) → KindLaw k
      → StmtLaw (elaborated_in_statement (record { span = span; kind = k }))

  -- the piece of each statement has the law
  pub piece_induction : LayerStep → StmtStep → (s : Stmt) → StmtLaw (elaborated_statement s)
  piece_induction kind stmt =
      stmt_induction (λ k. KindLaw (elaborated_statement_kind k)) (λ s. StmtLaw (elaborated_statement s))
      (λ y. subst KindLaw (sym (kind_at_roll _)) (kind y))
      (λ y. subst StmtLaw (sym (stmt_at_roll _)) (stmt y.span (elaborated_statement_kind y.kind.0) y.kind.1))

-- what the shapes say of statements, and of a list of such that have a law
abbrev pub Shaping : Type 0
Shaping = shapes.Environment → List ShapeFault

abbrev pub shapes_of : {Law : Stmt → Type 0} → List ((s : Stmt) × Law s) → Shaping
shapes_of ss environment = faults_of_each (map faults_of_stmt (trees ss)) environment

abbrev pub ShapedWith : (ElaboratedStatement → Shaping → Type 0) → Type 0
ShapedWith StmtLaw = (s : Stmt) × StmtLaw (elaborated_statement s) (faults_of_stmt s)

law_at : {A B : Type 0} (Law : A → B → Type 0) {x y : A} {v w : B} → x ≡ y → v ≡ w → Law y w → Law x v
law_at Law {x = x} {w = w} p q h = subst (Law x) (sym q) (subst (λ z. Law z w) (sym p) h)

-- the same by a law of pieces and of what the shapes say
module _ (KindLaw : ElaboratedStatementKind → Shaping → Type 0) (StmtLaw : ElaboratedStatement → Shaping → Type 0) where
  abbrev ShapedKinds : Type 0
  ShapedKinds = (k : StmtKind) × KindLaw (elaborated_statement_kind k) (faults_of_stmt_kind k)

  abbrev pub ShapedLayer : Type 0
  ShapedLayer = StmtKind-F ShapedKinds (ShapedWith StmtLaw)

  abbrev without : ShapedLayer → StmtKind-F StmtKind Stmt
  without = map-StmtKind ShapedKinds (ShapedWith StmtLaw) StmtKind Stmt (λ e. e.0) (λ e. e.0)

  abbrev pub ShapedHas : ShapedLayer → Type 0
  ShapedHas y =
      KindLaw (elaborated_in_statement_kind (layer_of (without y)))
      (faults_in_stmt_kind (map-StmtKind StmtKind Stmt Shaping Shaping faults_of_stmt_kind faults_of_stmt (without y)))

  abbrev pub ShapedLayerStep : Type 0
  ShapedLayerStep = (y : ShapedLayer) → ShapedHas y

  abbrev pub ShapedStmtStep : Type 0
  ShapedStmtStep = (span : Span) (k : ElaboratedStatementKind) (shape : Shaping) → KindLaw k shape
      → StmtLaw (elaborated_in_statement (record { span = span; kind = k })) shape

  pub shaped_induction : ShapedLayerStep → ShapedStmtStep → (s : Stmt) → StmtLaw (elaborated_statement s) (faults_of_stmt s)
  shaped_induction kind stmt =
      stmt_induction (λ k. KindLaw (elaborated_statement_kind k) (faults_of_stmt_kind k))
      (λ s. StmtLaw (elaborated_statement s) (faults_of_stmt s))
      (λ y. law_at KindLaw (kind_at_roll _) (fold-roll-StmtKind Shaping Shaping faults_in_stmt_kind faults_in_stmt _) (kind y))
      (λ y. law_at StmtLaw (stmt_at_roll _) (fold-roll-Stmt Shaping Shaping faults_in_stmt_kind faults_in_stmt _)
      (stmt y.span (elaborated_statement_kind y.kind.0) (faults_of_stmt_kind y.kind.0) y.kind.1))

-- What the static rules say

abbrev KindRead : StmtKind → Type 0
KindRead k = (elaborated_statement_kind k).checked ≡ checked_statement_kind k

abbrev StmtRead : Stmt → Type 0
StmtRead s = (elaborated_statement s).checked ≡ checked_statement s

abbrev layer_without : StmtKind-F (StmtKinds KindRead StmtRead) (Stmts KindRead StmtRead) → StmtKind-F StmtKind Stmt
layer_without = stmt_trees KindRead StmtRead

abbrev parts_of_layer : StmtKind-F StmtKind Stmt → StmtKind-F CheckedStatementKind CheckedStatement
parts_of_layer = map-StmtKind StmtKind Stmt CheckedStatementKind CheckedStatement checked_statement_kind checked_statement

same_list : (ss : List (Stmts KindRead StmtRead)) → parts_in (elaborations ss) ≡ map checked_statement (trees ss)
same_list [] = refl
same_list (s ∷ ss) = ap (λ p. p ∷ parts_in (elaborations ss)) s.1 ∙ ap (λ ps. checked_statement s.0 ∷ ps) (same_list ss)

same_layer : (y : StmtKind-F (StmtKinds KindRead StmtRead) (Stmts KindRead StmtRead))
    → stmt_parts_in (layer_of (layer_without y)) ≡ parts_of_layer (layer_without y)
same_layer (StmtKind-F.If e first second) =
    ap (λ ps. StmtKind-F.If e ps (parts_in (elaborations second))) (same_list first)
    ∙ ap (λ ps. StmtKind-F.If e (map checked_statement (trees first)) ps) (same_list second)
same_layer (StmtKind-F.While es e body) = ap (λ ps. StmtKind-F.While es e ps) (same_list body)
same_layer (StmtKind-F.For range c body) = ap (λ ps. StmtKind-F.For range c ps) (same_list body)
same_layer (StmtKind-F.Par o range c body) = ap (λ ps. StmtKind-F.Par o range c ps) (same_list body)
same_layer _ = refl

pub checked_in_elaborated_statement : (s : Stmt) → (elaborated_statement s).checked ≡ checked_statement s
checked_in_elaborated_statement =
    stmt_induction KindRead StmtRead
    (λ y. ap (λ k. k.checked) (kind_at_roll _) ∙ ap checked_in_statement_kind (same_layer y)
    ∙ sym (fold-roll-StmtKind CheckedStatementKind CheckedStatement checked_in_statement_kind checked_in_statement _))
    (λ y. ap (λ s. s.checked) (stmt_at_roll _) ∙ ap (λ k. checked_in_statement (record { span = y.span; kind = k })) y.kind.1
    ∙ sym (fold-roll-Stmt CheckedStatementKind CheckedStatement checked_in_statement_kind checked_in_statement _))

pub checked_in_all_elaborated : (ss : List Stmt) → map (λ s. s.checked) (map elaborated_statement ss) ≡ parts_of_block ss
checked_in_all_elaborated [] = refl
checked_in_all_elaborated (s ∷ ss) =
    ap (λ p. p ∷ map (λ s. s.checked) (map elaborated_statement ss)) (checked_in_elaborated_statement s)
    ∙ ap (λ ps. checked_statement s ∷ ps) (checked_in_all_elaborated ss)
