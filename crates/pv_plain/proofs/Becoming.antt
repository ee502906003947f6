-- What the parts of formulas become where an expression stands: nothing that is met there.
use Rattle.std.proofs.Common.{◌≡◌, ℕ, Option, Some, None, List, ◌⊎◌, inl, inr}
use Rattle.pv_base.specs.declared.Span.{Span}
use Rattle.pv_ast.specs.declared.Word.{Word}
use Rattle.pv_ast.specs.declared.Token.{Token}
use Rattle.pv_ast.specs.declared.Expr.{Expr}
use Rattle.pv_ast.specs.declared.Each.{Each}
use Rattle.pv_ast.specs.declared.ExprKind.{ExprKind, ExprKind-F}
use Rattle.pv_ast.specs.declared.ExprKind.TheVariants as tree
use Rattle.pv_ast.specs.Rules.Scoping.{Visible}
use Rattle.pv_ast.specs.Rules.Expressions.{Environment}
use Rattle.pv_picks.specs.Elaborating.Operations.{no_expression}
use Rattle.pv_picks.specs.Elaborating.Expressions.{core_of_expression}
use Rattle.core_trees.proofs.Equations.{expression_shown}

pub perm_becomes : (e x : Expr) (part whole : ℕ) (amount : Span) → e.kind ≡ tree.Perm x part whole amount → (a : Environment)
    (v : Visible) → core_of_expression a v e ≡ no_expression
perm_becomes e x part whole amount h a v =
    expression_shown e (ExprKind-F.Perm x part whole amount) (tree.Perm x part whole amount) h
    (tree.rolls-Perm x part whole amount) a v

pub token_becomes : (e x : Expr) (t : Token) → e.kind ≡ tree.Token t x → (a : Environment) (v : Visible)
    → core_of_expression a v e ≡ no_expression
token_becomes e x t h a v = expression_shown e (ExprKind-F.Token t x) (tree.Token t x) h (tree.rolls-Token t x) a v

pub instance_becomes : (e : Expr) (target : Option Expr) (w : Word) (args : List Expr) → e.kind ≡ tree.Instance target w args
    → (a : Environment) (v : Visible) → core_of_expression a v e ≡ no_expression
instance_becomes e None w args h a v =
    expression_shown e (ExprKind-F.Instance None w args) (tree.Instance None w args) h (tree.rolls-Instance None w args) a v
instance_becomes e (Some t) w args h a v =
    expression_shown e (ExprKind-F.Instance (Some t) w args) (tree.Instance (Some t) w args) h
    (tree.rolls-Instance (Some t) w args) a v

pub each_becomes : (e : Expr) (each : Each) → e.kind ≡ tree.Each each → (a : Environment) (v : Visible)
    → core_of_expression a v e ≡ no_expression
each_becomes e each h a v = expression_shown e (ExprKind-F.Each each) (tree.Each each) h (tree.rolls-Each each) a v

-- what is a permission, a token, an instance or a quantifier
abbrev pub IsResource : ExprKind → Type 0
IsResource k =
    ((x : Expr) × (part : ℕ) × (whole : ℕ) × (amount : Span) × (k ≡ tree.Perm x part whole amount))
    ⊎ (((t : Token) × (x : Expr) × (k ≡ tree.Token t x))
    ⊎ (((target : Option Expr) × (w : Word) × (args : List Expr) × (k ≡ tree.Instance target w args))
    ⊎ ((each : Each) × (k ≡ tree.Each each))))

pub resource_becomes : (e : Expr) → IsResource e.kind → (a : Environment) (v : Visible) → core_of_expression a v e ≡ no_expression
resource_becomes e (inl p) a v = perm_becomes e p.0 p.1 p.2 p.3 p.4 a v
resource_becomes e (inr (inl p)) a v = token_becomes e p.1 p.0 p.2 a v
resource_becomes e (inr (inr (inl p))) a v = instance_becomes e p.0 p.1 p.2 p.3 a v
resource_becomes e (inr (inr (inr p))) a v = each_becomes e p.0 p.1 a v
