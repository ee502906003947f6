-- The names in scope grow at their end, and leaving takes off what grew.
use Rattle.std.proofs.Common.{◌≡◌, ℕ, Bool, true, false, cond, List, [], ◌∷◌, ◌++◌, length, take, refl, sym, ◌∙◌, ap, append_assoc}
use Rattle.std.proofs.lemmas.List.{append-nil}
use Rattle.std.proofs.Math.Seq.{take-append_seam}
use Rattle.pv_base.specs.declared.Name.{Name}
use Rattle.pv_ast.specs.declared.scope.Declared.{Declared}
use Rattle.pv_ast.specs.Rules.Scoping.{Visible, is_visible, declare}
use Rattle.pv_types.specs.Growth.{Extends}
use Rattle.pv_types.specs.declared.visible.Mark.{Mark}

pub extends_self : (v : Visible) → Extends v v
extends_self v = record { outside = refl; behind = []; names = sym (append-nil v.names) }

pub extends_then : (u v w : Visible) → Extends u v → Extends v w → Extends u w
extends_then u v w p q = record {
  outside = q.outside ∙ p.outside;
  behind = p.behind ++ q.behind;
  names = q.names ∙ (ap (λ ns. ns ++ q.behind) p.names ∙ append_assoc u.names p.behind q.behind);
}

extends_if : (seen : Bool) (v : Visible) (entry : ℕ × Declared)
    → Extends v (cond seen v (record v { names = v.names ++ entry ∷ [] }))
extends_if true v entry = extends_self v
extends_if false v entry = record { outside = refl; behind = entry ∷ []; names = refl }

pub extends_declare : (v : Visible) (name : Name) (d : Declared) → Extends v (declare v name d)
extends_declare v name d = extends_if (is_visible v name) v (name.0, d)

-- names that only grew are again what they were once as many are left as there were
pub left_again : (v w : Visible) (behind : List (ℕ × Declared)) → w.names ≡ v.names ++ behind
    → record { names = take (length v.names) w.names; outside = v.outside } ≡ v
left_again v w behind e = ap (λ ns. record v { names = ns }) (ap (take (length v.names)) e ∙ take-append_seam v.names behind)

-- the same by what `mark` told of v and `leave` did to w
pub left_by_mark : (v w left : Visible) (mark : Mark) (behind : List (ℕ × Declared)) → mark.count ≡ length v.names
    → mark.outside ≡ v.outside → w.names ≡ v.names ++ behind
    → left.names ≡ take mark.count w.names → left.outside ≡ mark.outside → left ≡ v
left_by_mark v w left mark behind count outside grown names back =
    ap (λ ns. record left { names = ns }) (names ∙ ap (λ n. take n w.names) count)
    ∙ (ap (λ o. record { names = take (length v.names) w.names; outside = o }) (back ∙ outside) ∙ left_again v w behind grown)
