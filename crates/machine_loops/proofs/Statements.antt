-- What a statement without a fault becomes has quiet loops, and is quiet in a counted loop.
use Rattle.std.proofs.Common.{◌≡◌, ℕ, ◌+◌, ◌≤◌, Bool, true, false, not, ◌&&◌, ◌||◌, Option, Some, None, List, [], ◌∷◌, ◌++◌, length, drop, refl, subst, arith}
use Rattle.std.specs.Prelude.{nat_eq, if◌then◌else◌}
use Rattle.std.proofs.lemmas.Bool.{and_from, both_ways}
use Rattle.std.proofs.lemmas.List.{drop-append-le}
use Rattle.std.proofs.Math.Seq.{drop-length}
use Rattle.pv_base.specs.declared.Name.{Name}
use Rattle.pv_base.specs.declared.Span.{Span}
use Rattle.pv_ast.specs.declared.PvType.{PvType}
use Rattle.pv_ast.specs.declared.PvType.TheVariants.{Int}
use Rattle.pv_ast.specs.declared.Right.{Right}
use Rattle.pv_ast.specs.declared.RightKind.{RightKind}
use Rattle.pv_ast.specs.declared.RightKind.TheVariants as right
use Rattle.pv_ast.specs.declared.Stmt.{Stmt}
use Rattle.pv_ast.specs.declared.StmtKind.{StmtKind-F}
use Rattle.pv_ast.specs.declared.fault.Rule.TheVariants as rule
use Rattle.pv_ast.specs.declared.scope.Declaration.{Declaration}
use Rattle.pv_ast.specs.declared.scope.Declaration.TheVariants.{Local, LoopVariable}
use Rattle.pv_ast.specs.declared.scope.Declared.{Declared}
use Rattle.pv_ast.specs.declared.standing.StatementContext.{StatementContext}
use Rattle.pv_ast.specs.declared.standing.Surround.TheVariants as surround
use Rattle.pv_ast.specs.Rules.Faults.{Faults}
use Rattle.pv_ast.specs.Rules.Scoping.{Visible, declared_as, declare_variable, entered, is_visible, is_block, is_block_name, is_block_around, is_innermost_block}
use Rattle.pv_ast.specs.Rules.Expressions.{Environment}
use Rattle.pv_ast.specs.Rules.Statements.{faults_of_statements, is_made, is_made_first, in_branch, in_while, among_members}
use Rattle.pv_picks.specs.Plain.Core.{Statement}
use Rattle.pv_picks.specs.Elaborating.Statements.{ElaboratedStatement, ElaboratedStatementKind, Site, at, block_from, core_of_right_kind, first_value, inside_for, inside_par, in_for, in_par, elaborated_statement}
use Rattle.core_trees.proofs.Clean.{Clean, unless_holds, if_fails}
use Rattle.core_trees.proofs.Agreeing.{or_else, with_name, declared_more}
use Rattle.core_trees.proofs.StmtLayers.{LayerStep, StmtsWith, elaborations, parts_in, piece_induction}
use Rattle.machine_loops.specs.Quiet.{is_quiet_right, is_quiet_statement, is_quiet_block}
use Rattle.machine_loops.specs.Calm.{is_calm_statement, is_calm_block}

-- no block's name is among the names of the innermost block or loop
abbrev pub InLoop : Visible → Type 0
InLoop v = (v.outside ≤ length v.names) × ((n : Name) → is_innermost_block v n ≡ true → ⊥)

-- a name that isn't a block's adds none
no-block : (o : Option Declared) (b : Bool) (d : Declared) → is_block d.declaration ≡ false
    → is_block_name (or_else o (if b then Some d else None)) ≡ true → is_block_name o ≡ true
no-block (Some x) b d h i = i
no-block None true d h i = absurd (both_ways (is_block d.declaration) h i)
no-block None false d h i = absurd cc

longer : (xs : List (ℕ × Declared)) (e : ℕ × Declared) → length xs ≤ length (xs ++ e ∷ [])
longer [] e = omega arith
longer (x ∷ xs) e = let k = longer xs e in omega arith

named-more : (v : Visible) (name : Name) (d : Declared) → is_block d.declaration ≡ false → InLoop v
    → InLoop (with_name v (name.0, d))
named-more v name d fresh h =
    let l = longer v.names (name.0, d) in let k : v.outside ≤ length v.names = h.0 in (
      omega arith,
      λ n i.
          h.1 n (no-block (declared_as (drop v.outside v.names) n) (nat_eq n.0 name.0) d fresh
          (subst (λ (o : Option Declared). is_block_name o ≡ true) (declared_more (drop v.outside v.names) (name.0, d) n)
          (subst (λ (xs : List (ℕ × Declared)). is_block_name (declared_as xs n) ≡ true)
          (drop-append-le v.outside v.names ((name.0, d) ∷ []) k) i))),
    )

in-loop-if : (b : Bool) (v w : Visible) → InLoop v → InLoop w → InLoop (if b then v else w)
in-loop-if true v w h k = h
in-loop-if false v w h k = k

in-loop-with : (v : Visible) (how : Declaration) (name : Name) (type : PvType) → is_block how ≡ false → InLoop v
    → InLoop (declare_variable how v name type)
in-loop-with v how name type fresh h =
    let d : Declared = record { declaration = how; kind = type } in
    in-loop-if (is_visible v name) v (with_name v (name.0, d)) h (named-more v name d fresh h)

-- at the head of a body
in-loop-entered : (v : Visible) → InLoop (entered v)
in-loop-entered v = (
  omega arith,
  λ n i. absurd (by_nothing n
      (subst (λ (xs : List (ℕ × Declared)). is_block_name (declared_as xs n) ≡ true) (drop-length v.names) i)),
)
  where
    by_nothing : (n : Name) → is_block_name (declared_as [] n) ≡ true → ⊥
    by_nothing n e = absurd cc

-- what a statement without a fault becomes, and the scope behind it
pub record Done (v after : Visible) (faults_at : StatementContext → Faults) (statement_at : Site → Statement) : Type 0 where
  pub calm : (stand : StatementContext) (site : Site) → Clean (faults_at stand) → is_calm_statement (statement_at site) ≡ true
  pub quiet : (stand : StatementContext) (site : Site) → Clean (faults_at stand) → stand.looped ≡ true → InLoop v
      → is_quiet_statement (statement_at site) ≡ true
  pub further : InLoop v → InLoop after

-- of a kind of statement, and of a statement
abbrev KindLaw : ElaboratedStatementKind → Type 0
KindLaw k = (span : Span) (a : Environment) (v : Visible)
    → Done v (k.checked.behind v) (λ stand. k.checked.faults span a v stand) (λ site. k.statement span a v site)

abbrev pub StmtLaw : ElaboratedStatement → Type 0
StmtLaw s = (a : Environment) (v : Visible) → Done v (s.checked.behind v) (λ stand. s.checked.faults a v stand)
    (λ site. s.statement a v site)

-- blocks

block-calm : (ss : List (StmtsWith StmtLaw)) (n : ℕ) (a : Environment) (v : Visible) (stand : StatementContext) (site : Site)
    → Clean (faults_of_statements (parts_in (elaborations ss)) a v stand)
    → is_calm_block (block_from n (elaborations ss) a v site) ≡ true
block-calm [] n a v stand site clean = refl
block-calm (s ∷ ss) n a v stand site clean =
    and_from (is_calm_statement ((elaborated_statement s.0).statement a v (at n site)))
    (is_calm_block (block_from (n + 1) (elaborations ss) a ((elaborated_statement s.0).checked.behind v) site))
    ((s.1 a v).calm stand (at n site) clean.0)
    (block-calm ss (n + 1) a ((elaborated_statement s.0).checked.behind v) stand site clean.1)

block-quiet : (ss : List (StmtsWith StmtLaw)) (n : ℕ) (a : Environment) (v : Visible) (stand : StatementContext) (site : Site)
    → Clean (faults_of_statements (parts_in (elaborations ss)) a v stand) → stand.looped ≡ true → InLoop v
    → is_quiet_block (block_from n (elaborations ss) a v site) ≡ true
block-quiet [] n a v stand site clean looped inner = refl
block-quiet (s ∷ ss) n a v stand site clean looped inner =
    and_from (is_quiet_statement ((elaborated_statement s.0).statement a v (at n site)))
    (is_quiet_block (block_from (n + 1) (elaborations ss) a ((elaborated_statement s.0).checked.behind v) site))
    ((s.1 a v).quiet stand (at n site) clean.0 looped inner)
    (block-quiet ss (n + 1) a ((elaborated_statement s.0).checked.behind v) stand site clean.1 looped ((s.1 a v).further inner))

-- Kinds

-- what a counted loop refuses
refused : (v : Visible) (faults_at : StatementContext → Faults) (statement_at : Site → Statement)
    → ((stand : StatementContext) → Clean (faults_at stand) → stand.looped ≡ false)
    → ((stand : StatementContext) (site : Site) → Clean (faults_at stand) → is_calm_statement (statement_at site) ≡ true)
    → Done v v faults_at statement_at
refused v faults_at statement_at outside calm = record {
  calm = calm;
  quiet = λ stand site clean looped inner. absurd (both_ways stand.looped (outside stand clean) looped);
  further = λ inner. inner;
}

-- what is quiet wherever it stands
anywhere : (v : Visible) (faults_at : StatementContext → Faults) (statement_at : Site → Statement)
    → ((site : Site) → is_calm_statement (statement_at site) ≡ true)
    → ((site : Site) → is_quiet_statement (statement_at site) ≡ true) → Done v v faults_at statement_at
anywhere v faults_at statement_at calm quiet = record {
  calm = λ stand site clean. calm site;
  quiet = λ stand site clean looped inner. quiet site;
  further = λ inner. inner;
}

not-made : (looped made : Bool) → looped ≡ true → (looped && made) ≡ false → made ≡ false
not-made true made x y = y
not-made false made x y = absurd cc

kind-quiet : (a : Environment) (v : Visible) (k : RightKind) → is_made k ≡ false → is_quiet_right (core_of_right_kind a v k)
    ≡ true
kind-quiet a v (right.Value e) h = refl
kind-quiet a v (right.Call target w args) h = absurd cc
kind-quiet a v (right.NewObject w) h = absurd cc
kind-quiet a v (right.NewArray type e) h = absurd cc

first-quiet : (a : Environment) (v : Visible) (type : PvType) (o : Option Right) → is_made_first o ≡ false
    → is_quiet_right (first_value a v type o) ≡ true
first-quiet a v type None h = refl
first-quiet a v type (Some r) h = kind-quiet a v r.kind h

or-true : (b : Bool) → (b || true) ≡ true
or-true true = refl
or-true false = refl

innermost : (environment inner : Bool) → environment ≡ true → (environment && not inner) ≡ false → inner ≡ true
innermost true true x y = refl
innermost true false x y = absurd cc
innermost false inner x y = absurd cc

layer_law : LayerStep KindLaw StmtLaw
layer_law (StmtKind-F.Local type w value) = λ span a v. record {
  calm = λ stand site clean. refl;
  quiet = λ stand site clean looped inner.
      first-quiet a v type.kind value (not-made stand.looped (is_made_first value) looped
      (if_fails (stand.looped && is_made_first value) rule.BodyForm span clean.1.1.1));
  further = λ inner. in-loop-with v Local w.name type.kind refl inner;
}
layer_law (StmtKind-F.Assign to value) = λ span a v. record {
  calm = λ stand site clean. refl;
  quiet = λ stand site clean looped inner.
      kind-quiet a v value.kind (not-made stand.looped (is_made value.kind) looped
      (if_fails (stand.looped && is_made value.kind) rule.BodyForm span clean.1.1.1));
  further = λ inner. inner;
}
layer_law (StmtKind-F.Call target w args) = λ span a v.
    refused v _ _ (λ stand clean. if_fails stand.looped rule.BodyForm span clean.0) (λ stand site clean. refl)
layer_law (StmtKind-F.If e first second) = λ span a v. record {
  calm =
      λ stand site clean. and_from (is_calm_block (block_from 0 (elaborations first) a v (at 0 site)))
      (is_calm_block (block_from 0 (elaborations second) a v (at 1 site)))
      (block-calm first 0 a v (in_branch stand) (at 0 site) clean.1.0)
      (block-calm second 0 a v (in_branch stand) (at 1 site) clean.1.1);
  quiet =
      λ stand site clean looped inner. and_from (is_quiet_block (block_from 0 (elaborations first) a v (at 0 site)))
      (is_quiet_block (block_from 0 (elaborations second) a v (at 1 site)))
      (block-quiet first 0 a v (in_branch stand) (at 0 site) clean.1.0 looped inner)
      (block-quiet second 0 a v (in_branch stand) (at 1 site) clean.1.1 looped inner);
  further = λ inner. inner;
}
layer_law (StmtKind-F.While es e body) = λ span a v. record {
  calm = λ stand site clean. block-calm body 0 a v (in_while stand) (at 0 site) clean.1.1;
  quiet = λ stand site clean looped inner. block-quiet body 0 a v (in_while stand) (at 0 site) clean.1.1 looped inner;
  further = λ inner. inner;
}
layer_law (StmtKind-F.For range c body) = λ span a v.
    refused v _ _ (λ stand clean. if_fails stand.looped rule.BodyForm span clean.0) (λ stand site clean.
    let inside : Visible = inside_for v range in
    let there : StatementContext = among_members surround.Loop stand in
    let further : Site = in_for a inside (elaborations body) (at 0 site) in
    let inner : InLoop inside = in-loop-with (entered v) LoopVariable range.name.name Int refl (in-loop-entered v) in
    and_from (is_quiet_block (block_from 0 (elaborations body) a inside further))
    (is_calm_block (block_from 0 (elaborations body) a inside further))
    (block-quiet body 0 a inside there further clean.1.1.1.0.1 (or-true stand.looped) inner)
    (block-calm body 0 a inside there further clean.1.1.1.0.1))
layer_law (StmtKind-F.Par o range c body) = λ span a v.
    refused v _ _ (λ stand clean. if_fails stand.looped rule.BodyForm span clean.0) (λ stand site clean.
    block-calm body 0 a (inside_par v o range) (among_members surround.Block stand) (in_par range (at 0 site)) clean.1.1.1.1.1)
layer_law (StmtKind-F.Barrier w c) = λ span a v. record {
  calm = λ stand site clean. refl;
  quiet =
      λ stand site clean looped inner. absurd (inner.1 w.name (innermost (is_block_around v w.name) (is_innermost_block v w.name)
      (unless_holds (is_block_around v w.name) rule.UnknownName w.span clean.0.0)
      (if_fails (is_block_around v w.name && not (is_innermost_block v w.name)) rule.BarrierPlace w.span clean.0.1)));
  further = λ inner. inner;
}
layer_law (StmtKind-F.Fork e) = λ span a v.
    refused v _ _ (λ stand clean. if_fails stand.looped rule.BodyForm span clean.0) (λ stand site clean. refl)
layer_law (StmtKind-F.Join e) = λ span a v.
    refused v _ _ (λ stand clean. if_fails stand.looped rule.BodyForm span clean.0) (λ stand site clean. refl)
layer_law (StmtKind-F.Lock e) = λ span a v.
    refused v _ _ (λ stand clean. if_fails stand.looped rule.BodyForm span clean.0) (λ stand site clean. refl)
layer_law (StmtKind-F.Unlock e) = λ span a v.
    refused v _ _ (λ stand clean. if_fails stand.looped rule.BodyForm span clean.0) (λ stand site clean. refl)
layer_law (StmtKind-F.Commit e) = λ span a v.
    refused v _ _ (λ stand clean. if_fails stand.looped rule.BodyForm span clean.0) (λ stand site clean. refl)
layer_law _ = λ span a v. anywhere v _ _ (λ site. refl) (λ site. refl)

-- The induction

pub statement_law : (s : Stmt) → StmtLaw (elaborated_statement s)
statement_law = piece_induction KindLaw StmtLaw layer_law (λ span k law a v. law span a v)
