-- What a conjunction shows, and when it has no broken conjunct.
use Rattle.std.proofs.Common.{◌≡◌, ◌↔◌, refl, Bool, true, false, ◌&&◌, Option, Some, None, sym, ap, ◌∙◌, subst}
use Rattle.pv_base.specs.declared.Span.{Span}
use Rattle.pv_ast.specs.declared.Operator.TheVariants as op
use Rattle.pv_ast.specs.declared.Expr.{Expr, fold_out-Expr}
use Rattle.pv_ast.specs.declared.ExprKind.{ExprKind-F, fold-roll-ExprKind}
use Rattle.pv_ast.specs.declared.ExprKind.TheVariants as kind
use Rattle.small_meaning.specs.Values.{Scene, Part, Shown, part_in_kind, part_in_each, shown_in_expr, broken_in, shown_of, part_of_kind, value_of, broken_of, truth_in, first_of_two}

-- what an expression at that span shows, by the part that its kind is
abbrev shown_by : Span → (Scene → Part) → Scene → Shown
shown_by span part s = record { value = (part s).value; broken = broken_in span (part s) }

shown_of_expr : (e : Expr) → shown_of e ≡ shown_by e.span (part_of_kind e.kind)
shown_of_expr e = fold_out-Expr (Scene → Part) (Scene → Part) (Scene → Shown) part_in_kind part_in_each shown_in_expr e

part_of_conjunction : (e a b : Expr) → e.kind ≡ kind.Binary op.And a b → part_of_kind e.kind
    ≡ part_in_kind (ExprKind-F.Binary op.And (shown_of a) (shown_of b))
part_of_conjunction e a b is = ap part_of_kind is ∙ ap part_of_kind (sym (kind.rolls-Binary op.And a b))
    ∙ fold-roll-ExprKind (Scene → Part) (Scene → Part) (Scene → Shown) part_in_kind part_in_each shown_in_expr
    (ExprKind-F.Binary op.And a b)

shown_of_conjunction : (e a b : Expr) → e.kind ≡ kind.Binary op.And a b → shown_of e
    ≡ shown_by e.span (part_in_kind (ExprKind-F.Binary op.And (shown_of a) (shown_of b)))
shown_of_conjunction e a b is = shown_of_expr e ∙ ap (shown_by e.span) (part_of_conjunction e a b is)

-- neither part is broken exactly where both are true
neither_broken : (x y : Option Span) (a b : Bool) → ((x ≡ None) ↔ (a ≡ true)) → ((y ≡ None) ↔ (b ≡ true))
    → ((first_of_two x y ≡ None) ↔ ((a && b) ≡ true))
neither_broken None y true b h k = k
neither_broken None y false b h k = let f = h.0 refl in cc
neither_broken (Some x) y true b h k = let f = h.1 refl in cc
neither_broken (Some x) y false b h k = (λ p. cc, λ q. cc)

-- a law of the two parts of a conjunction holds of the whole
pub conjunction_unbroken : (e a b : Expr) → e.kind ≡ kind.Binary op.And a b → (s : Scene)
    → ((broken_of a s ≡ None) ↔ (truth_in (value_of a s) ≡ true)) → ((broken_of b s ≡ None) ↔ (truth_in (value_of b s) ≡ true))
    → ((broken_of e s ≡ None) ↔ (truth_in (value_of e s) ≡ true))
conjunction_unbroken e a b is s h k = subst (λ (f : Scene → Shown). ((f s).broken ≡ None) ↔ (truth_in (f s).value ≡ true))
    (sym (shown_of_conjunction e a b is)) (neither_broken (broken_of a s) (broken_of b s) (truth_in (value_of a s))
    (truth_in (value_of b s)) h k)
