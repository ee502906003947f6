-- A tree that grows, node by node and end by end.
use Rattle.std.proofs.Common.{◌≡◌, ℕ, zero, suc, ◌+◌, ◌<◌, List, [], ◌∷◌, ◌++◌, length, set, Option, Some, None, refl, ap, sym, subst, arith, ◌∙◌, ◌⊎◌, inl, inr, get_or-set_same}
use Rattle.std.specs.Prelude.{unwrap_or}
use Rattle.pv_diff.specs.declared.chains.End.{End}
use Rattle.pv_diff.specs.declared.forest.Link.{Link}
use Rattle.pv_diff.specs.declared.forest.Node.{Node}
use Rattle.pv_diff.specs.Chains.{first_at, end_at, OnChain, here, later, HasEnd, AreChains}
use Rattle.pv_diff.specs.Forest.{link, slot_at, root_at, seen_at, unseen, IsTwoWay, IsForest, HasRoot, AreClosed, IsGrowing, IsWhole, Keeps}
use Rattle.pv_diff.proofs.Loops.{same_or_other}
use Rattle.pv_diff.proofs.Written.{order}
use Rattle.pv_diff.proofs.Chaining.{OnChain-first, OnChain-none}
use Rattle.pv_diff.proofs.Trees.{node_other, node_new, longer, Fitting, Keeps-attach, IsForest-attach, HasRoot-kept, AreClosed-kept}

abbrev pub hung : ℕ → ℕ → ℕ → ℕ → Node
hung z root p at = record { slot = z; root = root; link = Some (link p at) }

abbrev pub planted : ℕ → ℕ → Node
planted slot root = record { slot = slot; root = root; link = None }

same_parent : (p i q j : ℕ) → Some (link p i) ≡ Some (link q j) → i ≡ j
same_parent p i q j h = ap (λ (o : Option Link). (unwrap_or o (link 0 0)).parent) h

same_link : (p i q j : ℕ) → Some (link p i) ≡ Some (link q j) → p ≡ q
same_link p i q j h = ap (λ (o : Option Link). (unwrap_or o (link 0 0)).place) h

-- a slot that is joined to the node `at` and has a node is in the tree that grows
pub HasRoot-seen : (ends : List End) (first : List (Option ℕ)) (ns : List Node) (seen : List (Option ℕ)) (at root z p j : ℕ)
    → IsTwoWay (length seen) ends first → IsGrowing ends first ns seen at root → at < length ns
    → HasEnd ends first (slot_at ns at) z p → seen_at seen z ≡ Some j → HasRoot ns seen z root
HasRoot-seen ends first ns seen at root z p j way g lt h there = elim (order j root) [
  | inr ge ↦ record { node = j; seen_there = there; root_there = g.level j ge (g.forest.inside z j there) }
  | inl under ↦
      let name = g.forest.named z j there in
      let back : HasEnd ends first (slot_at ns j) (slot_at ns at) p =
      subst (λ (k : ℕ). HasEnd ends first k (slot_at ns at) p) (sym name) (way.back (slot_at ns at) z p h) in
      let b = g.begun in
      let r : HasRoot ns seen (slot_at ns at) (root_at ns j) = g.closed j (omega arith) (slot_at ns at) p back in
      let q : Some r.node ≡ Some at = sym r.seen_there ∙ g.forest.found at lt in
      let same : r.node ≡ at = cc in
      record { node = j; seen_there = there; root_there = sym r.root_there ∙ ap (root_at ns) same ∙ g.level at b lt }
]

module _ (ends : List End) (first : List (Option ℕ)) (ns : List Node) (seen : List (Option ℕ)) (at root z p : ℕ)
    (growing : IsGrowing ends first ns seen at root) (in_list : at < length ns) (joined : HasEnd ends first (slot_at ns at) z p)
  where
    hung-fits : Fitting ends first ns (hung z root p at)
    hung-fits =
        let level : root_at ns at ≡ root = growing.level at growing.begun in_list in
        let begun = growing.begun in
        record {
          starts = λ h. cc;
          falls = λ q j h. let e = same_parent p at q j h in omega arith;
          stays = λ q j h. ap (root_at ns) (sym (same_parent p at q j h)) ∙ level;
          rooted = omega arith;
          joined = λ q j h. subst (λ (k : ℕ). HasEnd ends first (slot_at ns k) z q) (same_parent p at q j h)
              (subst (HasEnd ends first (slot_at ns at) z) (same_link p at q j h) joined);
          front = λ h. omega arith;
        }

    -- a joined slot is hung on the node `at`
    pub IsGrowing-hung : (ms : List Node) (now : List (Option ℕ)) → z < length seen → seen_at seen z ≡ None → ms ≡ ns
        ++ hung z root p at ∷ [] → now ≡ set seen z (Some (length ns)) → IsGrowing ends first ms now at root
    IsGrowing-hung ms now fits fresh nodes marks =
        let n : Node = hung z root p at in
        let kept = Keeps-attach ends first ns seen n growing.forest fits fresh in
        let g : IsGrowing ends first (ns ++ n ∷ []) (set seen z (Some (length ns))) at root = record {
          forest = IsForest-attach ends first ns seen n growing.forest fits fresh hung-fits;
          closed = AreClosed-kept ends first ns (ns ++ n ∷ []) seen (set seen z (Some (length ns))) at growing.forest kept
              (omega arith) growing.closed;
          begun = growing.begun;
          level = λ j ge lt. elim (same_or_other j (length ns)) [
            | inl e ↦ ap (λ (x : Node). x.root) (node_new ns n j e)
            | inr ne ↦ let l = longer ns n in ap (λ (x : Node). x.root) (node_other ns n j ne) ∙ growing.level j ge (omega arith)
          ];
        } in
        subst (λ (q : List Node). IsGrowing ends first q now at root) (sym nodes)
        (subst (λ (q : List (Option ℕ)). IsGrowing ends first (ns ++ n ∷ []) q at root) (sym marks) g)

    pub Keeps-hung : (ms : List Node) (now : List (Option ℕ)) → z < length seen → seen_at seen z ≡ None → ms ≡ ns
        ++ hung z root p at ∷ [] → now ≡ set seen z (Some (length ns)) → Keeps ns seen ms now
    Keeps-hung ms now fits fresh nodes marks =
        subst (λ (q : List Node). Keeps ns seen q now) (sym nodes)
        (subst (λ (q : List (Option ℕ)). Keeps ns seen (ns ++ hung z root p at ∷ []) q) (sym marks)
        (Keeps-attach ends first ns seen (hung z root p at) growing.forest fits fresh))

-- the last node has its root
pub HasRoot-last : (ns ms : List Node) (seen now : List (Option ℕ)) (n : Node) → n.slot < length seen → ms ≡ ns ++ n ∷ [] → now
    ≡ set seen n.slot (Some (length ns)) → HasRoot ms now n.slot n.root
HasRoot-last ns ms seen now n fits nodes marks =
    let h : HasRoot (ns ++ n ∷ []) (set seen n.slot (Some (length ns))) n.slot n.root = record {
      node = length ns;
      seen_there = get_or-set_same seen n.slot (Some (length ns)) None fits;
      root_there = ap (λ (x : Node). x.root) (node_new ns n (length ns) refl);
    } in
    subst (λ (q : List Node). HasRoot q now n.slot n.root) (sym nodes)
    (subst (λ (q : List (Option ℕ)). HasRoot (ns ++ n ∷ []) q n.slot n.root) (sym marks) h)

seen_within : (seen : List (Option ℕ)) (k i : ℕ) → seen_at seen k ≡ Some i → k < length seen
seen_within [] k i h = cc
seen_within (o ∷ seen) zero i h = omega arith
seen_within (o ∷ seen) (suc k) i h = let r = seen_within seen k i h in omega arith

-- a node has one of the slots
pub slot_within : (ends : List End) (first : List (Option ℕ)) (ns : List Node) (seen : List (Option ℕ)) (i : ℕ)
    → IsForest ends first ns seen → i < length ns → slot_at ns i < length seen
slot_within ends first ns seen i f lt = seen_within seen (slot_at ns i) i (f.found i lt)

-- what is left of the chain of a slot, all before it being in the tree
pub record Visited (ends : List End) (first : List (Option ℕ)) (ns : List Node) (seen : List (Option ℕ)) (slot root : ℕ)
    (next : Option ℕ) : Type 0 where
  pub inside : (d : ℕ) → next ≡ Some d → d < length ends
  pub from : (e : ℕ) → OnChain ends next e → OnChain ends (first_at first slot) e
  pub done : (e : ℕ) → OnChain ends (first_at first slot) e → HasRoot ns seen (end_at ends e).to root ⊎ OnChain ends next e

pub Visited-start : (ends : List End) (first : List (Option ℕ)) (ns : List Node) (seen : List (Option ℕ)) (slot root : ℕ)
    (next : Option ℕ) → AreChains ends first → next ≡ first_at first slot → Visited ends first ns seen slot root next
Visited-start ends first ns seen slot root next chains e = record {
  inside = λ d h. chains.inside slot d (sym e ∙ h);
  from = λ k c. subst (λ (o : Option ℕ). OnChain ends o k) e c;
  done = λ k c. inr (subst (λ (o : Option ℕ). OnChain ends o k) (sym e) c);
}

-- the end at d is behind us
pub Visited-more : (ends : List End) (first : List (Option ℕ)) (ns ms : List Node) (seen now : List (Option ℕ)) (slot root d : ℕ)
    (next : Option ℕ) → AreChains ends first → IsForest ends first ns seen → Keeps ns seen ms now → next ≡ Some d
    → HasRoot ms now (end_at ends d).to root → Visited ends first ns seen slot root next
    → Visited ends first ms now slot root (end_at ends d).next
Visited-more ends first ns ms seen now slot root d next chains f s is h v =
    let lt = v.inside d is in
    record {
      inside = λ e q. let a = chains.falls d e q in omega arith;
      from = λ e c. v.from e (subst (λ (o : Option ℕ). OnChain ends o e) (sym is) (later d e lt c));
      done = λ e c. elim (v.done e c) [
        | inl r ↦ inl (HasRoot-kept ends first ns ms seen now (end_at ends e).to root f s r)
        | inr k ↦ elim (OnChain-first ends d (subst (λ (o : Option ℕ). OnChain ends o e) is k)) [
          | inl q ↦ inl (subst (λ (i : ℕ). HasRoot ms now (end_at ends i).to root) q h)
          | inr r ↦ inr r
        ]
      ];
    }

pub HasEnd-visited : (ends : List End) (first : List (Option ℕ)) (ns : List Node) (seen : List (Option ℕ)) (slot root d : ℕ)
    (next : Option ℕ) (n : End) → next ≡ Some d → n ≡ end_at ends d → Visited ends first ns seen slot root next
    → HasEnd ends first slot n.to n.place
HasEnd-visited ends first ns seen slot root d next n is e v = record {
  index = d;
  on = v.from d (subst (λ (o : Option ℕ). OnChain ends o d) (sym is) (here d (v.inside d is)));
  to = ap (λ (x : End). x.to) (sym e);
  place = ap (λ (x : End). x.place) (sym e);
}

-- the whole chain of the slot of the node `at` is behind us
pub IsGrowing-visited : (ends : List End) (first : List (Option ℕ)) (ns : List Node) (seen : List (Option ℕ)) (at root slot : ℕ)
    (next : Option ℕ) → IsGrowing ends first ns seen at root → at < length ns → slot_at ns at ≡ slot → next ≡ None
    → Visited ends first ns seen slot root next → IsGrowing ends first ns seen (at + 1) root
IsGrowing-visited ends first ns seen at root slot next g lt is none v = record {
  forest = g.forest;
  closed = λ i under z p h. elim (same_or_other i at) [
    | inl e ↦
        let here : HasEnd ends first slot z p = subst (λ (k : ℕ). HasEnd ends first k z p) (ap (slot_at ns) e ∙ is) h in
        let level : root_at ns i ≡ root = ap (root_at ns) e ∙ g.level at g.begun lt in
        elim (v.done here.index here.on) [
          | inl r ↦ subst (λ (k : ℕ). HasRoot ns seen k (root_at ns i)) here.to
              (subst (HasRoot ns seen (end_at ends here.index).to) (sym level) r)
          | inr c ↦ absurd (OnChain-none ends here.index (subst (λ (o : Option ℕ). OnChain ends o here.index) none c))
        ]
    | inr ne ↦ g.closed i (omega arith) z p h
  ];
  begun = let b = g.begun in omega arith;
  level = g.level;
}

-- a new tree
pub IsGrowing-planted : (ends : List End) (first : List (Option ℕ)) (ns ms : List Node) (seen now : List (Option ℕ))
    (slot root : ℕ) → IsWhole ends first ns seen → slot < length seen → seen_at seen slot ≡ None → (0 < slot → 0 < length ns)
    → root ≡ length ns → ms ≡ ns ++ planted slot root ∷ [] → now ≡ set seen slot (Some (length ns))
    → IsGrowing ends first ms now root root
IsGrowing-planted ends first ns ms seen now slot root w fits fresh front is nodes marks =
    let n : Node = planted slot root in
    let kept = Keeps-attach ends first ns seen n w.forest fits fresh in
    let fitting : Fitting ends first ns n = record {
      starts = λ h. is;
      falls = λ q j h. cc;
      stays = λ q j h. cc;
      rooted = omega arith;
      joined = λ q j h. absurd (cc);
      front = λ h. elim (order 0 slot) [ inl lt ↦ let a = front lt in absurd (omega arith) | inr le ↦ omega arith ];
    } in
    let closed = AreClosed-kept ends first ns (ns ++ n ∷ []) seen (set seen slot (Some (length ns))) (length ns) w.forest kept
    (omega arith) w.closed in
    let g : IsGrowing ends first (ns ++ n ∷ []) (set seen slot (Some (length ns))) root root = record {
      forest = IsForest-attach ends first ns seen n w.forest fits fresh fitting;
      closed = subst (AreClosed ends first (ns ++ n ∷ []) (set seen slot (Some (length ns)))) (sym is) closed;
      begun = omega arith;
      level = λ j ge lt. let l = longer ns n in let e : j ≡ length ns = omega arith in
          ap (λ (x : Node). x.root) (node_new ns n j e);
    } in
    subst (λ (q : List Node). IsGrowing ends first q now root root) (sym nodes)
    (subst (λ (q : List (Option ℕ)). IsGrowing ends first (ns ++ n ∷ []) q root root) (sym marks) g)

pub Keeps-planted : (ends : List End) (first : List (Option ℕ)) (ns ms : List Node) (seen now : List (Option ℕ)) (n : Node)
    → IsForest ends first ns seen → n.slot < length seen → seen_at seen n.slot ≡ None → ms ≡ ns ++ n ∷ [] → now
    ≡ set seen n.slot (Some (length ns)) → Keeps ns seen ms now
Keeps-planted ends first ns ms seen now n f fits fresh nodes marks =
    subst (λ (q : List Node). Keeps ns seen q now) (sym nodes)
    (subst (λ (q : List (Option ℕ)). Keeps ns seen (ns ++ n ∷ []) q) (sym marks)
    (Keeps-attach ends first ns seen n f fits fresh))

-- the last tree is closed
pub IsWhole-grown : (ends : List End) (first : List (Option ℕ)) (ns : List Node) (seen : List (Option ℕ)) (at root : ℕ)
    → IsGrowing ends first ns seen at root → at ≡ length ns → IsWhole ends first ns seen
IsWhole-grown ends first ns seen at root g e =
    record { forest = g.forest; closed = subst (AreClosed ends first ns seen) e g.closed }

unseen-none : (seen : List (Option ℕ)) → ((k : ℕ) → seen_at seen k ≡ None) → unseen seen ≡ length seen
unseen-none [] h = refl
unseen-none (None ∷ seen) h = let r = unseen-none seen (λ k. h (suc k)) in omega arith
unseen-none (Some i ∷ seen) h = let q : Some i ≡ None = h 0 in cc

-- the forest without a node
pub IsWhole-start : (ends : List End) (first : List (Option ℕ)) (ns : List Node) (seen : List (Option ℕ)) → ns ≡ []
    → ((k : ℕ) → seen_at seen k ≡ None) → IsWhole ends first ns seen
IsWhole-start ends first [] seen e none = record {
  forest = record {
    trees = record {
      starts = λ i lt h. absurd (omega arith);
      falls = λ i p j h. cc;
      stays = λ i p j h. cc;
      rooted = λ i.
          omega arith;
    };
    joined = λ i p j h. absurd (cc);
    inside = λ k i h. let q : None ≡ Some i = sym (none k) ∙ h in cc;
    named = λ k i h. let q : None ≡ Some i = sym (none k) ∙ h in cc;
    found = λ i lt. absurd (omega arith);
    front = refl;
    total = let a = unseen-none seen none in omega arith;
  };
  closed = λ i lt z p h. absurd (omega arith);
}
IsWhole-start ends first (n ∷ ns) seen e none = cc

-- how far a chain can still go down in the list of ends
abbrev pub left_of : Option ℕ → ℕ
left_of None = 0
left_of (Some d) = suc d

below : (o : Option ℕ) (d : ℕ) → ((e : ℕ) → o ≡ Some e → e < d) → left_of o < suc d
below None d h = omega arith
below (Some e) d h = let r = h e refl in omega arith

-- a chain goes down from end to end
pub left_of-falls : (ends : List End) (first : List (Option ℕ)) (d : ℕ) (next : Option ℕ) → AreChains ends first → next ≡ Some d
    → left_of (end_at ends d).next < left_of next
left_of-falls ends first d next chains is = subst (λ (o : Option ℕ). left_of (end_at ends d).next < left_of o) (sym is)
    (below (end_at ends d).next d (λ e h. chains.falls d e h))
