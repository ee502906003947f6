-- A pass over the arguments of a method or predicate goes one argument on.
use Rattle.std.proofs.Common.{◌≡◌, ℕ, ◌+◌, ◌<◌, Bool, ◌&&◌, ◌||◌, Option, List, [], ◌∷◌, map, length, get_or, drop, refl, sym, ◌∙◌, ap}
use Rattle.std.proofs.lemmas.List.{at_drop_more}
use Rattle.std.proofs.Math.Bool.{and_assoc, or_assoc}
use Rattle.pv_ast.specs.declared.PvType.{PvType}
use Rattle.pv_ast.specs.declared.Expr.{Expr}
use Rattle.pv_ast.specs.declared.Param.{Param}
use Rattle.pv_ast.specs.declared.fault.Fault.{Fault}
use Rattle.pv_ast.specs.declared.standing.Context.{Context}
use Rattle.pv_ast.specs.Rules.Faults.{both, least}
use Rattle.pv_ast.specs.Rules.Scoping.{Visible}
use Rattle.pv_ast.specs.Rules.Expressions.{Environment, checked_expression, typing_in, names_local, args_meet, args_name_local, faults_of_args, types_of}
use Rattle.pv_ast.specs.Rules.Statements.{need_of_result}
use Rattle.pv_types.specs.Environments.{IsNextType, has_type}

next_at : {Y : Type 0} (F : List Expr → Y) (es : List Expr) (i : ℕ) (e : Expr) → i < length es → e ≡ get_or es i e
    → F (drop i es) ≡ F (e ∷ drop (i + 1) es)
next_at F es i e l h = at_drop_more F es i e l ∙ ap (λ x. F (x ∷ drop (i + 1) es)) (sym h)

meet_first : (ps rest : List Param) (needed : Option PvType) (e : Expr) (es : List Expr) (a : Environment) (v : Visible)
    → IsNextType ps needed rest
    → args_meet (map checked_expression (e ∷ es)) (types_of ps) a v
    ≡ (has_type needed (typing_in (checked_expression e) a v) && args_meet (map checked_expression es) (types_of rest) a v)
meet_first [] rest needed e es a v h = rw h.0 (rw h.1 refl)
meet_first (p ∷ ps) rest needed e es a v h = rw h.0 (rw h.1 refl)

faults_first : (ps rest : List Param) (needed : Option PvType) (e : Expr) (es : List Expr) (a : Environment) (v : Visible)
    (c : Context) → IsNextType ps needed rest
    → faults_of_args (map checked_expression (e ∷ es)) (types_of ps) a v c
    ≡ both ((checked_expression e).faults a v c (need_of_result needed))
    (faults_of_args (map checked_expression es) (types_of rest) a v c)
faults_first [] rest needed e es a v c h = rw h.0 (rw h.1 refl)
faults_first (p ∷ ps) rest needed e es a v c h = rw h.0 (rw h.1 refl)

pub meet_next : (es : List Expr) (i : ℕ) (e : Expr) (ps rest : List Param) (needed : Option PvType) (a : Environment)
    (v : Visible)
    (meet : Bool) → i < length es → e ≡ get_or es i e → IsNextType ps needed rest
    → (meet && args_meet (map checked_expression (drop i es)) (types_of ps) a v)
    ≡ ((meet && has_type needed (typing_in (checked_expression e) a v))
    && args_meet (map checked_expression (drop (i + 1) es)) (types_of rest) a v)
meet_next es i e ps rest needed a v meet l h n =
    next_at (λ xs. meet && args_meet (map checked_expression xs) (types_of ps) a v) es i e l h
    ∙ (ap (λ b. meet && b) (meet_first ps rest needed e (drop (i + 1) es) a v n) ∙ sym (and_assoc meet _ _))

pub local_next : (es : List Expr) (i : ℕ) (e : Expr) (a : Environment) (v : Visible) (local : Bool) → i < length es → e
    ≡ get_or es i e
    → (local || args_name_local (map checked_expression (drop i es)) a v)
    ≡ ((local || names_local (checked_expression e) a v) || args_name_local (map checked_expression (drop (i + 1) es)) a v)
local_next es i e a v local l h =
    next_at (λ xs. local || args_name_local (map checked_expression xs) a v) es i e l h ∙ sym (or_assoc local _ _)

pub faults_next : (es : List Expr) (i : ℕ) (e : Expr) (ps rest : List Param) (needed : Option PvType) (a : Environment)
    (v : Visible)
    (c : Context) (first : Option Fault) → i < length es → e ≡ get_or es i e → IsNextType ps needed rest
    → least first (faults_of_args (map checked_expression (drop i es)) (types_of ps) a v c)
    ≡ least (least first ((checked_expression e).faults a v c (need_of_result needed)))
    (faults_of_args (map checked_expression (drop (i + 1) es)) (types_of rest) a v c)
faults_next es i e ps rest needed a v c first l h n =
    next_at (λ xs. least first (faults_of_args (map checked_expression xs) (types_of ps) a v c)) es i e l h
    ∙ ap (least first) (faults_first ps rest needed e (drop (i + 1) es) a v c n)
