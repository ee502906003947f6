-- Literals by which symbols differ, and classes.
use Rattle.std.proofs.Common.{◌≡◌, ◌≢◌, ℕ, ◌<◌, List, [], ◌∷◌, ◌++◌, length, reverse, Option, Some, refl, ap, sym, subst, arith, ◌∙◌, ◌⊎◌, inl, inr}
use Rattle.std.specs.Prelude.{slice_get, slice_index_or}
use Rattle.std.specs.List.Sorted.{IsStrictlyIncreasing}
use Rattle.std.proofs.lemmas.Option.{slice_get-get_or, slice_get_within}
use Rattle.std.proofs.lemmas.List.{reverse-append}
use Rattle.pv_linear.specs.declared.Literal.{Literal}
use Rattle.pv_linear.specs.declared.Literal.TheVariants.{Same, Differ}
use Rattle.pv_linear.specs.declared.Symbol.{Symbol}
use Rattle.pv_diff.specs.declared.chains.End.{End}
use Rattle.pv_diff.specs.declared.forest.Node.{Node}
use Rattle.pv_diff.specs.Chains.{HasEnd, IsTie, AreTied}
use Rattle.pv_diff.specs.Classes.{class_at, IsSplit, AreClasses}
use Rattle.pv_diff.specs.Conflict.{IsJoined, IsClash}
use Rattle.pv_diff.specs.Forest.{slot_at, root_at, seen_at, IsTwoWay, IsForest, IsWhole, HasRoot, Ascent, IsPath}
use Rattle.pv_diff.proofs.Chaining.{IsTie-back}
use Rattle.pv_diff.proofs.Growth.{slot_within}
use Rattle.pv_diff.proofs.Named.{same_symbol}
use Rattle.pv_diff.proofs.Written.{same_slot, order, symbol}

differ_first : (a b x y : Symbol) → Some (Differ a b) ≡ Some (Differ x y) → a ≡ x
differ_first a b x y h = cc

differ_second : (a b x y : Symbol) → Some (Differ a b) ≡ Some (Differ x y) → b ≡ y
differ_second a b x y h = cc

-- the slots of a split are those of its symbols
pub split_left : (s : List ℕ) (ls : List Literal) (p k z left : ℕ) (x y : Symbol) → IsStrictlyIncreasing s → slice_get ls p
    ≡ Some (Differ x y) → slice_get s left ≡ Some x.0 → IsSplit s ls p k z → k ≡ left
split_left s ls p k z left x y rises at there h =
    same_slot s k left x.0 rises (subst (λ (w : Symbol). slice_get s k ≡ Some w.0)
    (differ_first h.left h.right x y (sym h.found ∙ at)) h.first) there

pub split_right : (s : List ℕ) (ls : List Literal) (p k z right : ℕ) (x y : Symbol) → IsStrictlyIncreasing s → slice_get ls p
    ≡ Some (Differ x y) → slice_get s right ≡ Some y.0 → IsSplit s ls p k z → z ≡ right
split_right s ls p k z right x y rises at there h =
    same_slot s z right y.0 rises (subst (λ (w : Symbol). slice_get s z ≡ Some w.0)
    (differ_second h.left h.right x y (sym h.found ∙ at)) h.second) there

pub not_split : (s : List ℕ) (ls : List Literal) (p k z : ℕ) (l : Literal) → IsSplit s ls p k z → slice_get ls p ≡ Some l
    → ((x y : Symbol) → Some (Differ x y) ≡ Some l → ⊥) → ⊥
not_split s ls p k z l h at not = not h.left h.right (sym h.found ∙ at)

tie_within : (s : List ℕ) (ls : List Literal) (p k z : ℕ) → IsTie s ls p k z → p < length ls
tie_within s ls p k z t = elim t.found [
  | inl a ↦ slice_get_within ls p (Same t.left t.right) a
  | inr a ↦ slice_get_within ls p
      (Same t.right t.left) a
]

-- each equation has an end on both sides
pub IsTwoWay-tied : (s : List ℕ) (ls : List Literal) (ends : List End) (first : List (Option ℕ))
    → AreTied s ls (length ls) ends first → IsTwoWay (length first) ends first
IsTwoWay-tied s ls ends first t = record {
  below = λ k z p h. let tie = t.sound k z p h in let lt = slice_get_within s z tie.right.0 tie.second in let size = t.size in
      omega arith;
  back = λ k z p h. let tie = t.sound k z p h in t.full z k p (tie_within s ls p k z tie) (IsTie-back s ls p k z tie);
}

-- a slot has one root
same_root : (ns : List Node) (seen : List (Option ℕ)) (k a b : ℕ) → HasRoot ns seen k a → HasRoot ns seen k b → a ≡ b
same_root ns seen k a b h g =
    let q : Some h.node ≡ Some g.node = sym h.seen_there ∙ g.seen_there in
    let same : h.node ≡ g.node = cc in
    sym h.root_there ∙ ap (root_at ns) same ∙ g.root_there

no_class : (classes : List ℕ) → length classes ≡ 0 → class_at classes 0 ≡ 0
no_class [] h = refl
no_class (c ∷ classes) h = absurd (omega arith)

pub AreClasses-roots : (s : List ℕ) (ls : List Literal) (ends : List End) (first : List (Option ℕ)) (ns : List Node)
    (seen : List (Option ℕ)) (classes : List ℕ)
    → AreTied s ls (length ls) ends first → IsWhole ends first ns seen → length seen ≡ length first → length classes ≡ length seen
    → ((k : ℕ) → k < length classes → HasRoot ns seen k (class_at classes k))
    → ((p k z : ℕ) → IsSplit s ls p k z → class_at classes k ≢ class_at classes z) → AreClasses s ls classes
AreClasses-roots s ls ends first ns seen classes t w size count roots differ =
    let tied = t.size in
    record {
      size = omega arith;
      zero = elim (order 0 (length classes)) [
        | inl lt ↦
            let r = roots 0 lt in
            let some = w.forest.inside 0 r.node r.seen_there in
            let front : seen_at seen 0 ≡ Some 0 = sym (ap (seen_at seen) w.forest.front) ∙ w.forest.found 0 (omega arith) in
            let q : Some r.node ≡ Some 0 = sym r.seen_there ∙ front in
            let same : r.node ≡ 0 = cc in
            let is : root_at ns 0 ≡ class_at classes 0 = sym (ap (root_at ns) same) ∙ r.root_there in
            let most = w.forest.trees.rooted 0 in
            omega arith
        | inr le ↦ no_class classes (omega arith)
      ];
      below = λ k lt.
          let r = roots k (omega arith) in
          let is = r.root_there in
          let most = w.forest.trees.rooted r.node in
          let inside = w.forest.inside k r.node r.seen_there in
          let total = w.forest.total in
          omega arith;
      same = λ p k z tie.
          let lt = slice_get_within s k tie.left.0 tie.first in
          let under = slice_get_within s z tie.right.0 tie.second in
          let r = roots k (omega arith) in
          let end = t.full k z p (tie_within s ls p k z tie) tie in
          let name = w.forest.named k r.node r.seen_there in
          let next = w.closed r.node (w.forest.inside k r.node r.seen_there) z p
          (subst (λ (j : ℕ). HasEnd ends first j z p) (sym name) end) in
          sym r.root_there ∙ same_root ns seen z (root_at ns r.node) (class_at classes z) next (roots z (omega arith));
      differ = differ;
    }

-- a walk along equations goes on, and goes back
IsJoined-append : (ls : List Literal) (x y z : Symbol) (ps qs : List ℕ) → IsJoined ls x y ps → IsJoined ls y z qs
    → IsJoined ls x z (ps ++ qs)
IsJoined-append ls x y z [] qs h g = subst (λ (w : Symbol). IsJoined ls w z qs) (sym h) g
IsJoined-append ls x y z (p ∷ ps) qs h g = (h.0, h.1, IsJoined-append ls h.0 y z ps qs h.2 g)

IsJoined-back : (ls : List Literal) (x y : Symbol) (ps : List ℕ) → IsJoined ls x y ps → IsJoined ls y x (reverse ps)
IsJoined-back ls x y [] h = sym h
IsJoined-back ls x y (p ∷ ps) h =
    let step : IsJoined ls h.0 x (p ∷ []) = (x, elim h.1 [ inl a ↦ inr a | inr a ↦ inl a ], refl) in
    subst (IsJoined ls y x) (sym (reverse-append (p ∷ []) ps))
    (IsJoined-append ls y h.0 x (reverse ps) (p ∷ []) (IsJoined-back ls h.0 y ps h.2) step)

-- the way up from a node joins its symbol to that of the node at the end
Ascent-joined : (s : List ℕ) (ls : List Literal) (ends : List End) (first : List (Option ℕ)) (ns : List Node)
    (seen : List (Option ℕ)) (i j : ℕ) (x y : Symbol) (ps : List ℕ)
    → AreTied s ls (length ls) ends first → IsForest ends first ns seen → slice_get s (slot_at ns i) ≡ Some x.0
    → slice_get s (slot_at ns j) ≡ Some y.0 → Ascent ns i j ps → IsJoined ls x y ps
Ascent-joined s ls ends first ns seen i j x y [] t f at end h =
    same_symbol s (slot_at ns j) x y (subst (λ (k : ℕ). slice_get s (slot_at ns k) ≡ Some x.0) h at) end
Ascent-joined s ls ends first ns seen i j x y (p ∷ ps) t f at end h =
    let tie = t.sound (slot_at ns h.0) (slot_at ns i) p (f.joined i p h.0 h.1) in
    let same : tie.right ≡ x = same_symbol s (slot_at ns i) tie.right x tie.second at in
    let found : (slice_get ls p ≡ Some (Same x tie.left)) ⊎ (slice_get ls p ≡ Some (Same tie.left x)) =
    subst (λ (w : Symbol). (slice_get ls p ≡ Some (Same w tie.left)) ⊎ (slice_get ls p ≡ Some (Same tie.left w))) same
    (elim tie.found [ inl a ↦ inr a | inr a ↦ inl a ]) in
    (tie.left, found, Ascent-joined s ls ends first ns seen h.0 j tie.left y ps t f tie.first end h.2)

Ascent-within : (ends : List End) (first : List (Option ℕ)) (ns : List Node) (seen : List (Option ℕ)) (i j : ℕ) (ps : List ℕ)
    → IsForest ends first ns seen → Ascent ns i j ps → i < length ns → j < length ns
Ascent-within ends first ns seen i j [] f h lt = let e : i ≡ j = h in omega arith
Ascent-within ends first ns seen i j (p ∷ ps) f h lt = let r = f.trees.falls i p h.0 h.1 in
    Ascent-within ends first ns seen h.0 j ps f h.2 (omega arith)

-- a path between the nodes of a split shows a clash
pub IsClash-path : (s : List ℕ) (ls : List Literal) (ends : List End) (first : List (Option ℕ)) (ns : List Node)
    (seen : List (Option ℕ)) (d k z i j : ℕ) (ps : List ℕ)
    → AreTied s ls (length ls) ends first → IsForest ends first ns seen → length seen ≡ length first → IsSplit s ls d k z
    → seen_at seen k ≡ Some i → seen_at seen z ≡ Some j → IsPath ns i j ps → IsClash ls (ps ++ d ∷ [])
IsClash-path s ls ends first ns seen d k z i j ps t f size h left right path =
    let lt = Ascent-within ends first ns seen i path.top path.up f path.first (f.inside k i left) in
    let slot = slot_within ends first ns seen path.top f lt in
    let tied = t.size in
    let top : slice_get s (slot_at ns path.top) ≡ Some (slice_index_or s (slot_at ns path.top) 0) =
    slice_get-get_or s (slot_at ns path.top) 0 (omega arith) in
    let top_symbol : Symbol = symbol (slice_index_or s (slot_at ns path.top) 0) in
    let first_at_i : slice_get s (slot_at ns i) ≡ Some h.left.0 =
    subst (λ (q : ℕ). slice_get s q ≡ Some h.left.0) (sym (f.named k i left)) h.first in
    let second_at_j : slice_get s (slot_at ns j) ≡ Some h.right.0 =
    subst (λ (q : ℕ). slice_get s q ≡ Some h.right.0) (sym (f.named z j right)) h.second in
    let up = Ascent-joined s ls ends first ns seen i path.top h.left top_symbol path.up t f first_at_i top path.first in
    let down = Ascent-joined s ls ends first ns seen j path.top h.right top_symbol path.down t f second_at_j top path.second in
    let whole = IsJoined-append ls h.left top_symbol h.right path.up (reverse path.down) up
    (IsJoined-back ls h.right top_symbol path.down down) in
    (h.left, h.right, ps, d, refl, h.found, subst (IsJoined ls h.left h.right) (sym path.whole) whole)
