-- Ways up the trees of a forest, and the equations along them.
use Rattle.std.proofs.Common.{◌≡◌, ℕ, List, [], ◌∷◌, ◌++◌, Some, refl, sym, subst}
use Rattle.pv_diff.specs.declared.forest.Node.{Node}
use Rattle.pv_diff.specs.Forest.{link, link_at, Ascent}

-- one step more
pub Ascent-more : (ns : List Node) (i j k p : ℕ) (ps : List ℕ) → Ascent ns i j ps → link_at ns j ≡ Some (link p k)
    → Ascent ns i k (ps ++ p ∷ [])
Ascent-more ns i j k p [] h l = (k, subst (λ (q : ℕ). link_at ns q ≡ Some (link p k)) (sym h) l, refl)
Ascent-more ns i j k p (q ∷ ps) h l = (h.0, h.1, Ascent-more ns h.0 j k p ps h.2 l)
