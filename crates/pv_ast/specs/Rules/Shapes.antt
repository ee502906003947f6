-- The faults of shape of a program: quantifiers in wrong places, and parts that are no items.
use Rattle.std.specs.Prelude.{ℕ, nat_lt, ◌<◌, ◌≤◌, ◌≡◌, if◌then◌else◌, Option, Some, None, List, [], ◌∷◌, ◌++◌, map, All}
use Rattle.std.specs.List.{flat_map}
use Rattle.pv_ast.specs.declared.Expr.{Expr}
use Rattle.pv_ast.specs.declared.Stmt.{Stmt, Stmt-F, fold-Stmt}
use Rattle.pv_ast.specs.declared.StmtKind.{StmtKind, StmtKind-F, fold-StmtKind}
use Rattle.pv_ast.specs.declared.Range.{Range}
use Rattle.pv_ast.specs.declared.Right.{Right}
use Rattle.pv_ast.specs.declared.RightKind.{RightKind}
use Rattle.pv_ast.specs.declared.RightKind.TheVariants as right
use Rattle.pv_ast.specs.declared.Contract.{Contract}
use Rattle.pv_ast.specs.declared.Member.{Member}
use Rattle.pv_ast.specs.declared.Member.TheVariants as member
use Rattle.pv_ast.specs.declared.Class.{Class}
use Rattle.pv_ast.specs.declared.Program.{Program}
use Rattle.pv_ast.specs.declared.fault.ShapeFault.{ShapeFault}
use Rattle.pv_ast.specs.declared.fault.ShapeFault.TheVariants.{QuantifierShape, ItemShape}
use Rattle.pv_ast.specs.Rules.Items.{shape_of, clause}

-- The order of faults.

abbrev pub start_of : ShapeFault → ℕ
start_of (QuantifierShape span) = span.from
start_of (ItemShape span) = span.from

-- of two faults that which starts first; on a tie the one on the left
abbrev pub earlier : Option ShapeFault → Option ShapeFault → Option ShapeFault
earlier None b = b
earlier (Some a) None = Some a
earlier (Some a) (Some b) = if nat_lt (start_of b) (start_of a) then Some b else Some a

-- the first fault in the text
abbrev pub first_of : List ShapeFault → Option ShapeFault
first_of [] = None
first_of (f ∷ fs) = earlier (Some f) (first_of fs)

-- all faults before it in the list start later, and none behind it starts earlier
pub record IsFirst (fault : ShapeFault) (faults : List ShapeFault) : Type 0 where
  pub before : List ShapeFault
  pub behind : List ShapeFault
  pub stands : faults ≡ before ++ fault ∷ behind
  pub later : All (λ other. start_of fault < start_of other) before
  pub no_earlier : All (λ other. start_of fault ≤ start_of other) behind

-- The faults of formulas and expressions.

-- of an expression of a statement: each quantifier in it
abbrev pub quantifiers_in : Expr → List ShapeFault
quantifiers_in e = (shape_of e).quantifiers

-- of a formula in which quantifiers may stand
abbrev pub faults_of_formula : Expr → List ShapeFault
faults_of_formula e = (shape_of e).faults

-- of a formula that is made of items for a variable
abbrev pub faults_of_items : ℕ → Expr → List ShapeFault
faults_of_items name e = (shape_of e).parts clause name

abbrev pub quantifiers_in_option : Option Expr → List ShapeFault
quantifiers_in_option None = []
quantifiers_in_option (Some e) = quantifiers_in e

abbrev pub quantifiers_in_all : List Expr → List ShapeFault
quantifiers_in_all es = flat_map quantifiers_in es

abbrev pub quantifiers_in_right_kind : RightKind → List ShapeFault
quantifiers_in_right_kind (right.Value e) = quantifiers_in e
quantifiers_in_right_kind (right.Call target name args) = quantifiers_in_option target ++ quantifiers_in_all args
quantifiers_in_right_kind (right.NewObject name) = []
quantifiers_in_right_kind (right.NewArray type length) = quantifiers_in length

abbrev pub quantifiers_in_right : Right → List ShapeFault
quantifiers_in_right r = quantifiers_in_right_kind r.kind

abbrev pub quantifiers_in_right_option : Option Right → List ShapeFault
quantifiers_in_right_option None = []
quantifiers_in_right_option (Some r) = quantifiers_in_right r

abbrev pub quantifiers_in_range : Range → List ShapeFault
quantifiers_in_range r = quantifiers_in r.low ++ quantifiers_in r.high

abbrev pub faults_of_formulas : List Expr → List ShapeFault
faults_of_formulas es = flat_map faults_of_formula es

abbrev pub faults_of_contract : Contract → List ShapeFault
faults_of_contract c = flat_map (λ clause. faults_of_formula clause.formula) c.clauses

-- of a contract of a block, a counted loop or a barrier
abbrev pub faults_of_item_contract : ℕ → Contract → List ShapeFault
faults_of_item_contract name c = flat_map (λ clause. faults_of_items name clause.formula) c.clauses

-- The faults of statements.

-- the loop variables of the innermost par block and of the innermost counted loop round a statement
pub record Environment : Type 0 where
  pub block : Option ℕ
  pub loop : Option ℕ

-- A barrier outside every block and a message outside every loop are broken rules, and have no faults here.
abbrev pub faults_of_barrier : Option ℕ → Contract → List ShapeFault
faults_of_barrier None c = []
faults_of_barrier (Some name) c = faults_of_item_contract name c

abbrev pub faults_of_message : Option ℕ → Expr → List ShapeFault
faults_of_message None e = []
faults_of_message (Some name) e = faults_of_items name e

-- one statement behind the other
abbrev pub faults_of_each : List (Environment → List ShapeFault) → Environment → List ShapeFault
faults_of_each [] environment = []
faults_of_each (f ∷ fs) environment = f environment ++ faults_of_each fs environment

abbrev pub faults_in_stmt_kind : StmtKind-F (Environment → List ShapeFault) (Environment → List ShapeFault) → Environment
    → List ShapeFault
faults_in_stmt_kind (StmtKind-F.Local type name value) environment = quantifiers_in_right_option value
faults_in_stmt_kind (StmtKind-F.Assign place value) environment = quantifiers_in place ++ quantifiers_in_right value
faults_in_stmt_kind (StmtKind-F.Call target name args) environment = quantifiers_in_option target ++ quantifiers_in_all args
faults_in_stmt_kind (StmtKind-F.If condition first second) environment = quantifiers_in condition
    ++ faults_of_each first environment ++ faults_of_each second environment
faults_in_stmt_kind (StmtKind-F.While invariants condition body) environment = faults_of_formulas invariants
    ++ quantifiers_in condition ++ faults_of_each body environment
faults_in_stmt_kind (StmtKind-F.For range contract body) environment = quantifiers_in_range range
    ++ faults_of_item_contract range.name.name.0 contract
    ++ faults_of_each body (record environment { loop = Some range.name.name.0 })
faults_in_stmt_kind (StmtKind-F.Par label range contract body) environment = quantifiers_in_range range
    ++ faults_of_item_contract range.name.name.0 contract
    ++ faults_of_each body (record environment { block = Some range.name.name.0 })
faults_in_stmt_kind (StmtKind-F.Barrier label contract) environment = faults_of_barrier environment.block contract
faults_in_stmt_kind (StmtKind-F.Fork e) environment = quantifiers_in e
faults_in_stmt_kind (StmtKind-F.Join e) environment = quantifiers_in e
faults_in_stmt_kind (StmtKind-F.Lock e) environment = quantifiers_in e
faults_in_stmt_kind (StmtKind-F.Unlock e) environment = quantifiers_in e
faults_in_stmt_kind (StmtKind-F.Commit e) environment = quantifiers_in e
faults_in_stmt_kind (StmtKind-F.Fold target name args) environment = quantifiers_in_option target ++ quantifiers_in_all args
faults_in_stmt_kind (StmtKind-F.Unfold target name args) environment = quantifiers_in_option target ++ quantifiers_in_all args
faults_in_stmt_kind (StmtKind-F.Assert formula) environment = faults_of_formula formula
faults_in_stmt_kind (StmtKind-F.Send label distance formula) environment = faults_of_message environment.loop formula
faults_in_stmt_kind (StmtKind-F.Recv label) environment = []
faults_in_stmt_kind (StmtKind-F.Return value) environment = quantifiers_in_option value

abbrev pub faults_in_stmt : Stmt-F (Environment → List ShapeFault) (Environment → List ShapeFault) → Environment → List ShapeFault
faults_in_stmt s = s.kind

abbrev pub faults_of_stmt : Stmt → Environment → List ShapeFault
faults_of_stmt = fold-Stmt (Environment → List ShapeFault) (Environment → List ShapeFault) faults_in_stmt_kind faults_in_stmt

abbrev pub faults_of_stmt_kind : StmtKind → Environment → List ShapeFault
faults_of_stmt_kind = fold-StmtKind (Environment → List ShapeFault) (Environment → List ShapeFault) faults_in_stmt_kind
    faults_in_stmt

abbrev pub faults_of_block : List Stmt → Environment → List ShapeFault
faults_of_block block = faults_of_each (map faults_of_stmt block)

abbrev pub outside : Environment
outside = record { block = None; loop = None }

-- The faults of members, classes and programs, in the order of the text.

abbrev pub faults_of_member : Member → List ShapeFault
faults_of_member (member.Field p) = []
faults_of_member (member.Predicate p) = faults_of_formula p.body
faults_of_member (member.Method m) = faults_of_contract m.contract ++ faults_of_block m.body outside
faults_of_member (member.Run r) = faults_of_contract r.contract ++ faults_of_block r.body outside

abbrev pub faults_of_invariant : Option Expr → List ShapeFault
faults_of_invariant None = []
faults_of_invariant (Some e) = faults_of_formula e

abbrev pub faults_of_class : Class → List ShapeFault
faults_of_class c = faults_of_invariant c.lock_invariant ++ flat_map faults_of_member c.members

abbrev pub shape_faults_of : Program → List ShapeFault
shape_faults_of p = flat_map faults_of_class p.classes
