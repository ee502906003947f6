-- Forests, and what one more node changes.
use Rattle.std.proofs.Common.{◌≡◌, ◌≢◌, ℕ, zero, suc, ◌<◌, ◌≤◌, List, [], ◌∷◌, ◌++◌, length, set, Option, Some, None, refl, ap, sym, subst, arith, ◌∙◌, inl, inr, get_or-set_same, get_or-set_other, length-append}
use Rattle.std.specs.Prelude.{slice_index_or}
use Rattle.std.proofs.Math.ListN.{length-set}
use Rattle.std.proofs.lemmas.List.{get_or_push}
use Rattle.pv_diff.specs.declared.chains.End.{End}
use Rattle.pv_diff.specs.declared.forest.Link.{Link}
use Rattle.pv_diff.specs.declared.forest.Node.{Node}
use Rattle.pv_diff.specs.Chains.{HasEnd}
use Rattle.pv_diff.specs.Forest.{no_node, link, slot_at, root_at, link_at, seen_at, unseen, AreTrees, IsForest, HasRoot, AreClosed, Keeps}
use Rattle.pv_diff.proofs.Loops.{same_or_other}

abbrev pub node_at : List Node → ℕ → Node
node_at ns i = slice_index_or ns i no_node

pub node_other : (ns : List Node) (n : Node) (i : ℕ) → i ≢ length ns → node_at (ns ++ n ∷ []) i ≡ node_at ns i
node_other [] n zero h = absurd (h refl)
node_other [] n (suc i) h = refl
node_other (a ∷ ns) n zero h = refl
node_other (a ∷ ns) n (suc i) h = node_other ns n i (λ e. h (ap suc e))

pub node_new : (ns : List Node) (n : Node) (i : ℕ) → i ≡ length ns → node_at (ns ++ n ∷ []) i ≡ n
node_new ns n i e = get_or_push ns n no_node i (sym e)

pub longer : (ns : List Node) (n : Node) → length (ns ++ n ∷ []) ≡ suc (length ns)
longer ns n = omega (arith, length-append ns (n ∷ []))

pub link_within : (ns : List Node) (i : ℕ) (l : Link) → link_at ns i ≡ Some l → i < length ns
link_within [] i l h = cc
link_within (a ∷ ns) zero l h = omega arith
link_within (a ∷ ns) (suc i) l h = let r = link_within ns i l h in omega arith

unseen-set : (seen : List (Option ℕ)) (k i : ℕ) → k < length seen → seen_at seen k ≡ None → suc (unseen (set seen k (Some i)))
    ≡ unseen seen
unseen-set [] k i lt h = absurd (omega arith)
unseen-set (None ∷ seen) zero i lt h = omega arith
unseen-set (Some j ∷ seen) zero i lt h = cc
unseen-set (None ∷ seen) (suc k) i lt h = let r = unseen-set seen k i (omega arith) h in omega arith
unseen-set (Some j ∷ seen) (suc k) i lt h = let r = unseen-set seen k i (omega arith) h in omega arith

-- the node fits behind the nodes
pub record Fitting (ends : List End) (first : List (Option ℕ)) (ns : List Node) (n : Node) : Type 0 where
  pub starts : n.link ≡ None → n.root ≡ length ns
  pub falls : (p j : ℕ) → n.link ≡ Some (link p j) → j < length ns
  pub stays : (p j : ℕ) → n.link ≡ Some (link p j) → root_at ns j ≡ n.root
  pub rooted : n.root ≤ length ns
  pub joined : (p j : ℕ) → n.link ≡ Some (link p j) → HasEnd ends first (slot_at ns j) n.slot p
  pub front : length ns ≡ 0 → n.slot ≡ 0

module _ (ends : List End) (first : List (Option ℕ)) (ns : List Node) (seen : List (Option ℕ)) (n : Node)
    (forest : IsForest ends first ns seen) (fits : n.slot < length seen) (fresh : seen_at seen n.slot ≡ None) where
  abbrev more : List Node
  more = ns ++ n ∷ []

  abbrev marked : List (Option ℕ)
  marked = set seen n.slot (Some (length ns))

  seen_new : seen_at marked n.slot ≡ Some (length ns)
  seen_new = get_or-set_same seen n.slot (Some (length ns)) None fits

  seen_other : (k : ℕ) → k ≢ n.slot → seen_at marked k ≡ seen_at seen k
  seen_other k ne = get_or-set_other seen n.slot k (Some (length ns)) None ne

  not_fresh : (k i : ℕ) → seen_at seen k ≡ Some i → k ≢ n.slot
  not_fresh k i h e = let a : seen_at seen k ≡ None = ap (seen_at seen) e ∙ fresh in let q : None ≡ Some i = sym a ∙ h in cc

  pub Keeps-attach : Keeps ns seen more marked
  Keeps-attach = record {
    longer = omega (arith, longer ns n);
    nodes = λ i lt. node_other ns n i (λ e. omega arith);
    slots = λ k i h. seen_other k (not_fresh k i h) ∙ h;
    size = length-set seen n.slot (Some (length ns));
  }

  trees_attach : Fitting ends first ns n → AreTrees more
  trees_attach f = record {
    starts = λ i lt h. elim (same_or_other i (length ns)) [
      | inl e ↦ let same = node_new ns n i e in let none : n.link ≡ None = sym (ap (λ (x : Node). x.link) same) ∙ h in
          ap (λ (x : Node). x.root) same ∙ f.starts none ∙ sym e
      | inr ne ↦ let same = node_other ns n i ne in let none : link_at ns i ≡ None = sym (ap (λ (x : Node). x.link) same) ∙ h in
          ap (λ (x : Node). x.root) same ∙ forest.trees.starts i (let l = longer ns n in omega arith) none
    ];
    falls = λ i p j h. elim (same_or_other i (length ns)) [
      | inl e ↦ let same = node_new ns n i e in let r = f.falls p j (sym (ap (λ (x : Node). x.link) same) ∙ h) in omega arith
      | inr ne ↦ let same = node_other ns n i ne in forest.trees.falls i p j (sym (ap (λ (x : Node). x.link) same) ∙ h)
    ];
    stays = λ i p j h. elim (same_or_other i (length ns)) [
      | inl e ↦
          let same = node_new ns n i e in
          let here : n.link ≡ Some (link p j) = sym (ap (λ (x : Node). x.link) same) ∙ h in
          let lt = f.falls p j here in
          ap (λ (x : Node). x.root) (node_other ns n j (λ q. omega arith)) ∙ f.stays p j here
          ∙ sym (ap (λ (x : Node). x.root) same)
      | inr ne ↦
          let same = node_other ns n i ne in
          let here : link_at ns i ≡ Some (link p j) = sym (ap (λ (x : Node). x.link) same) ∙ h in
          let lt = forest.trees.falls i p j here in
          let in_list = link_within ns i (link p j) here in
          ap (λ (x : Node). x.root) (node_other ns n j (λ q. omega arith)) ∙ forest.trees.stays i p j here
          ∙ sym (ap (λ (x : Node). x.root) same)
    ];
    rooted = λ i. elim (same_or_other i (length ns)) [
      | inl e ↦ let same : root_at more i ≡ n.root = ap (λ (x : Node). x.root) (node_new ns n i e) in let r = f.rooted in
          omega arith
      | inr ne ↦ let same : root_at more i ≡ root_at ns i = ap (λ (x : Node). x.root) (node_other ns n i ne) in let r =
          forest.trees.rooted i in omega arith
    ];
  }

  joined_attach : Fitting ends first ns n → (i p j : ℕ) → link_at more i ≡ Some (link p j)
      → HasEnd ends first (slot_at more j) (slot_at more i) p
  joined_attach f i p j h = elim (same_or_other i (length ns)) [
    | inl e ↦
        let same = node_new ns n i e in
        let here : n.link ≡ Some (link p j) = sym (ap (λ (x : Node). x.link) same) ∙ h in
        let lt = f.falls p j here in
        let parent : slot_at more j ≡ slot_at ns j = ap (λ (x : Node). x.slot) (node_other ns n j (λ q. omega arith)) in
        let child : slot_at more i ≡ n.slot = ap (λ (x : Node). x.slot) same in
        subst (λ (k : ℕ). HasEnd ends first k (slot_at more i) p) (sym parent)
        (subst (λ (k : ℕ). HasEnd ends first (slot_at ns j) k p) (sym child) (f.joined p j here))
    | inr ne ↦
        let same = node_other ns n i ne in
        let here : link_at ns i ≡ Some (link p j) = sym (ap (λ (x : Node). x.link) same) ∙ h in
        let lt = forest.trees.falls i p j here in
        let in_list = link_within ns i (link p j) here in
        let parent : slot_at more j ≡ slot_at ns j = ap (λ (x : Node). x.slot) (node_other ns n j (λ q. omega arith)) in
        let child : slot_at more i ≡ slot_at ns i = ap (λ (x : Node). x.slot) same in
        subst (λ (k : ℕ). HasEnd ends first k (slot_at more i) p) (sym parent)
        (subst (λ (k : ℕ). HasEnd ends first (slot_at ns j) k p) (sym child) (forest.joined i p j here))
  ]

  pub IsForest-attach : Fitting ends first ns n → IsForest ends first more marked
  IsForest-attach f = record {
    trees = trees_attach f;
    joined = joined_attach f;
    inside = λ k i h. elim (same_or_other k n.slot) [
      | inl e ↦ let q : Some (length ns) ≡ Some i = sym seen_new ∙ sym (ap (seen_at marked) e) ∙ h in let same : length ns ≡ i =
          cc in omega (arith, longer ns n)
      | inr ne ↦ let r = forest.inside k i (sym (seen_other k ne) ∙ h) in omega (arith, longer ns n)
    ];
    named = λ k i h. elim (same_or_other k n.slot) [
      | inl e ↦ let q : Some (length ns) ≡ Some i = sym seen_new ∙ sym (ap (seen_at marked) e) ∙ h in let same : length ns ≡ i =
          cc in ap (λ (x : Node). x.slot) (node_new ns n i (sym same)) ∙ sym e
      | inr ne ↦ let here : seen_at seen k ≡ Some i = sym (seen_other k ne) ∙ h in let r = forest.inside k i here in
          ap (λ (x : Node). x.slot) (node_other ns n i (λ q. omega arith)) ∙ forest.named k i here
    ];
    found = λ i lt. elim (same_or_other i (length ns)) [
      | inl e ↦ ap (λ (x : Node). seen_at marked x.slot) (node_new ns n i e) ∙ seen_new ∙ ap (λ (k : ℕ). Some k) (sym e)
      | inr ne ↦
          let old = forest.found i (let l = longer ns n in omega arith) in
          ap (λ (x : Node). seen_at marked x.slot) (node_other ns n i ne)
          ∙ seen_other (slot_at ns i) (not_fresh (slot_at ns i) i old) ∙ old
    ];
    front = elim (same_or_other 0 (length ns)) [
      | inl e ↦ ap (λ (x : Node). x.slot) (node_new ns n 0 e) ∙ f.front (sym e)
      | inr ne ↦ ap (λ (x : Node). x.slot) (node_other ns n 0 ne) ∙ forest.front
    ];
    total = let a = longer ns n in let b = unseen-set seen n.slot (length ns) fits fresh in let c =
        length-set seen n.slot (Some (length ns)) in let d = forest.total in omega arith;
  }

-- what has a root keeps it
pub HasRoot-kept : (ends : List End) (first : List (Option ℕ)) (ns ms : List Node) (seen now : List (Option ℕ)) (k r : ℕ)
    → IsForest ends first ns seen → Keeps ns seen ms now → HasRoot ns seen k r → HasRoot ms now k r
HasRoot-kept ends first ns ms seen now k r f s h = record {
  node = h.node;
  seen_there = s.slots k h.node h.seen_there;
  root_there = ap (λ (x : Node). x.root) (s.nodes h.node (f.inside k h.node h.seen_there)) ∙ h.root_there;
}

pub AreClosed-kept : (ends : List End) (first : List (Option ℕ)) (ns ms : List Node) (seen now : List (Option ℕ)) (m : ℕ)
    → IsForest ends first ns seen → Keeps ns seen ms now → m ≤ length ns → AreClosed ends first ns seen m
    → AreClosed ends first ms now m
AreClosed-kept ends first ns ms seen now m f s le h i lt z p e =
    let same = s.nodes i (omega arith) in
    let slot : slot_at ms i ≡ slot_at ns i = ap (λ (x : Node). x.slot) same in
    let root : root_at ms i ≡ root_at ns i = ap (λ (x : Node). x.root) same in
    subst (HasRoot ms now z) (sym root) (HasRoot-kept ends first ns ms seen now z (root_at ns i) f s
    (h i lt z p (subst (λ (k : ℕ). HasEnd ends first k z p) slot e)))

pub Keeps-refl : (ns : List Node) (seen : List (Option ℕ)) → Keeps ns seen ns seen
Keeps-refl ns seen = record { longer = omega arith; nodes = λ i lt. refl; slots = λ k i h. h; size = refl }

pub Keeps-trans : (ns ms ks : List Node) (xs ys zs : List (Option ℕ)) → Keeps ns xs ms ys → Keeps ms ys ks zs → Keeps ns xs ks zs
Keeps-trans ns ms ks xs ys zs a b = record {
  longer = let p = a.longer in let q = b.longer in omega arith;
  nodes = λ i lt. b.nodes i (let p = a.longer in omega arith) ∙ a.nodes i lt;
  slots = λ k i h. b.slots k i (a.slots k i h);
  size = b.size ∙ a.size;
}
