-- Edges between the slots of symbols, and the literals that they stand for.
use Rattle.std.proofs.Common.{◌≡◌, ℕ, zero, suc, ◌+◌, ◌<◌, ◌≤◌, ℤ, pos, ◌+ℤ◌, ◌-ℤ◌, ◌≤ℤ◌, List, [], ◌∷◌, ◌++◌, length, take, slice_index_or, Option, Some, refl, ap, sym, subst, arith, ◌∙◌, add-one}
use Rattle.std.specs.Prelude.{slice_get, unsigned_abs, unwrap_or, All}
use Rattle.std.proofs.lemmas.Int.{ints}
use Rattle.std.proofs.lemmas.Option.{slice_get_within}
use Rattle.std.proofs.lemmas.List.Elements.{All-from_get_or}
use Rattle.pv_linear.specs.declared.Literal.{Literal}
use Rattle.pv_linear.specs.declared.Literal.TheVariants.{AtMost, Same, Differ}
use Rattle.pv_linear.specs.declared.Symbol.{Symbol}
use Rattle.pv_linear.specs.Values.{Values, values_of, number_of, IsWithin}
use Rattle.pv_linear.specs.Literal.{Meets, bound_of_all}
use Rattle.pv_linear.proofs.Bounds.{within_more}
use Rattle.pv_linear.proofs.MeetsLemmas.{Meets-get}
use Rattle.pv_diff.specs.declared.table.Edge.{Edge}
use Rattle.pv_diff.specs.declared.table.Entry.{Entry}
use Rattle.pv_diff.specs.Answer.{reach}
use Rattle.pv_diff.specs.Parts.{IsAtMost, AllAtMost}
use Rattle.pv_diff.specs.Conflict.{Walk, IsNegativeCycle}
use Rattle.pv_diff.specs.Edges.{edge, AllBelow, widest, breadth, Trail, IsNegativeRound}
use Rattle.pv_diff.specs.Slots.{IsEdge, AreEdges}
use Rattle.pv_diff.specs.Table.{number_in, AreMet}

pub AllAtMost-at : (ls : List Literal) (i : ℕ) (d : Literal) → AllAtMost ls → i < length ls → IsAtMost (slice_index_or ls i d)
AllAtMost-at [] i d h lt = absurd (omega arith)
AllAtMost-at (l ∷ ls) zero d h lt = h.0
AllAtMost-at (l ∷ ls) (suc i) d h lt = AllAtMost-at ls i d h.1 (omega arith)

-- one edge more
AreEdges-suc : (s : List ℕ) (ls : List Literal) (es : List Edge) (i : ℕ) (d : Literal) (e : Edge) → i < length ls
    → AreEdges s (take i ls) es → IsEdge s (slice_index_or ls i d) e → AreEdges s (take (suc i) ls) (es ++ e ∷ [])
AreEdges-suc s [] es i d e lt h k = absurd (omega arith)
AreEdges-suc s (l ∷ ls) [] zero d e lt h k = (k, tt)
AreEdges-suc s (l ∷ ls) (f ∷ es) zero d e lt h k = absurd h
AreEdges-suc s (l ∷ ls) [] (suc i) d e lt h k = absurd h
AreEdges-suc s (l ∷ ls) (f ∷ es) (suc i) d e lt h k = (h.0, AreEdges-suc s ls es i d e (omega arith) h.1 k)

pub AreEdges-more : (s : List ℕ) (ls : List Literal) (es : List Edge) (i : ℕ) (d : Literal) (e : Edge) → i < length ls
    → AreEdges s (take i ls) es → IsEdge s (slice_index_or ls i d) e → AreEdges s (take (i + 1) ls) (es ++ e ∷ [])
AreEdges-more s ls es i d e lt h k = rw add-one (AreEdges-suc s ls es i d e lt h k)

pub AreEdges-length : (s : List ℕ) (ls : List Literal) (es : List Edge) → AreEdges s ls es → length es ≡ length ls
AreEdges-length s [] [] h = refl
AreEdges-length s (l ∷ ls) (e ∷ es) h = ap suc (AreEdges-length s ls es h.1)
AreEdges-length s [] (e ∷ es) h = absurd h
AreEdges-length s (l ∷ ls) [] h = absurd h

pub AreEdges-below : (s : List ℕ) (ls : List Literal) (es : List Edge) → AreEdges s ls es → AllBelow (length s) es
AreEdges-below s [] [] h = tt
AreEdges-below s (AtMost x y c ∷ ls) (e ∷ es) h =
    (slice_get_within s e.to x.0 h.0.0, slice_get_within s e.from y.0 h.0.1, AreEdges-below s ls es h.1)
AreEdges-below s (Same x y ∷ ls) (e ∷ es) h = absurd h.0
AreEdges-below s (Differ x y ∷ ls) (e ∷ es) h = absurd h.0
AreEdges-below s [] (e ∷ es) h = absurd h
AreEdges-below s (l ∷ ls) [] h = absurd h

pub AreEdges-widest : (s : List ℕ) (ls : List Literal) (es : List Edge) → AreEdges s ls es → widest es ≤ bound_of_all ls
AreEdges-widest s [] [] h = omega arith
AreEdges-widest s (AtMost x y c ∷ ls) (e ∷ es) h = let rest = AreEdges-widest s ls es h.1 in let same : unsigned_abs e.bound
    ≡ unsigned_abs c = ap unsigned_abs h.0.2 in omega (arith, rest, same)
AreEdges-widest s (Same x y ∷ ls) (e ∷ es) h = absurd h.0
AreEdges-widest s (Differ x y ∷ ls) (e ∷ es) h = absurd h.0
AreEdges-widest s [] (e ∷ es) h = absurd h
AreEdges-widest s (l ∷ ls) [] h = absurd h

pub AreEdges-reach : (s : List ℕ) (ls : List Literal) (es : List Edge) → AreEdges s ls es → breadth es ≤ reach ls
AreEdges-reach s [] [] h = omega arith
AreEdges-reach s (AtMost x y c ∷ ls) (e ∷ es) h = let rest = AreEdges-reach s ls es h.1 in let same : unsigned_abs e.bound
    ≡ unsigned_abs c = ap unsigned_abs h.0.2 in omega (arith, rest, same)
AreEdges-reach s (Same x y ∷ ls) (e ∷ es) h = absurd h.0
AreEdges-reach s (Differ x y ∷ ls) (e ∷ es) h = absurd h.0
AreEdges-reach s [] (e ∷ es) h = absurd h
AreEdges-reach s (l ∷ ls) [] h = absurd h

-- what stands at the place of an edge
pub record IsDifference (s : List ℕ) (ls : List Literal) (p z y : ℕ) (c : ℤ) : Type 0 where
  pub first : Symbol
  pub second : Symbol
  pub found : slice_get ls p ≡ Some (AtMost first second c)
  pub to : slice_get s z ≡ Some first.0
  pub from : slice_get s y ≡ Some second.0

no_edge : (p : ℕ) {e : Edge} → slice_get [] p ≡ Some e → ⊥
no_edge p h = cc

pub AreEdges-get : (s : List ℕ) (ls : List Literal) (es : List Edge) (p z y : ℕ) (c : ℤ) → AreEdges s ls es → slice_get es p
    ≡ Some (edge z y c) → IsDifference s ls p z y c
AreEdges-get s [] [] p z y c h g = absurd (no_edge p g)
AreEdges-get s (AtMost x w b ∷ ls) (e ∷ es) zero z y c h g =
    let to : e.to ≡ z = ap (λ (o : Option Edge). (unwrap_or o e).to) g in
    let from : e.from ≡ y = ap (λ (o : Option Edge). (unwrap_or o e).from) g in
    let bound : b ≡ c = sym h.0.2 ∙ ap (λ (o : Option Edge). (unwrap_or o e).bound) g in
    record {
      first = x;
      second = w;
      found = ap (λ (n : ℤ). Some (AtMost x w n)) bound;
      to = subst (λ (k : ℕ). slice_get s k ≡ Some x.0) to h.0.0;
      from = subst (λ (k : ℕ). slice_get s k ≡ Some w.0) from h.0.1;
    }
AreEdges-get s (Same x w ∷ ls) (e ∷ es) zero z y c h g = absurd h.0
AreEdges-get s (Differ x w ∷ ls) (e ∷ es) zero z y c h g = absurd h.0
AreEdges-get s (l ∷ ls) (e ∷ es) (suc p) z y c h g = let r = AreEdges-get s ls es p z y c h.1 g in
    record { first = r.first; second = r.second; found = r.found; to = r.to; from = r.from }
AreEdges-get s [] (e ∷ es) p z y c h g = absurd h
AreEdges-get s (l ∷ ls) [] p z y c h g = absurd h

-- one slot stands for one symbol
pub same_symbol : (s : List ℕ) (k : ℕ) (x y : Symbol) → slice_get s k ≡ Some x.0 → slice_get s k ≡ Some y.0 → x ≡ y
same_symbol s k x y h g = ap (λ (o : Option ℕ). let r : Symbol = record { 0 = unwrap_or o 0 } in r) (sym h ∙ g)

-- a trail of edges is a walk along their literals
pub Trail-walk : (s : List ℕ) (ls : List Literal) (es : List Edge) (z x : ℕ) (t : ℤ) (ps : List ℕ) (a b : Symbol)
    → AreEdges s ls es → Trail es z x t ps → slice_get s z ≡ Some a.0 → slice_get s x ≡ Some b.0 → Walk ls a b t ps
Trail-walk s ls es z x t [] a b h k f g = (same_symbol s x a b (subst (λ (n : ℕ). slice_get s n ≡ Some a.0) k.0 f) g, k.1)
Trail-walk s ls es z x t (p ∷ ps) a b h k f g =
    let r = AreEdges-get s ls es p z k.0 k.1 h k.3 in
    let same : r.first ≡ a = same_symbol s z r.first a r.to f in (
      r.second,
      k.1,
      k.2,
      subst (λ (n : Symbol). slice_get ls p ≡ Some (AtMost n r.second k.1)) same r.found,
      Trail-walk s ls es k.0 x k.2 ps r.second b h k.4 r.from g,
      k.5,
    )

pub Round-cycle : (s : List ℕ) (ls : List Literal) (es : List Edge) (ps : List ℕ) → AreEdges s ls es → IsNegativeRound es ps
    → IsNegativeCycle ls ps
Round-cycle s ls es [] h k = let a = k.2.1 in let b = k.3 in absurd (omega (arith, ints))
Round-cycle s ls es (p ∷ ps) h k =
    let r = AreEdges-get s ls es p k.0 k.2.0 k.2.1 h k.2.3 in
    (r.first, k.1, Trail-walk s ls es k.0 k.0 k.1 (p ∷ ps) r.first r.first h k.2 r.to r.to, k.3)

-- a walk bounds the first number by the last
pub Walk-bounds : (v : Values) (ls : List Literal) (z x : Symbol) (t : ℤ) (ps : List ℕ) → Meets v ls → Walk ls z x t ps
    → number_of v z.0 ≤ℤ (number_of v x.0 +ℤ t)
Walk-bounds v ls z x t [] m w = let e : number_of v z.0 ≡ number_of v x.0 = ap (λ (s : Symbol). number_of v s.0) w.0 in let k =
    w.1 in omega (arith, ints)
Walk-bounds v ls z x t (p ∷ ps) m w =
    let first : number_of v z.0 ≤ℤ (number_of v w.0.0 +ℤ w.1) = Meets-get v ls p (AtMost z w.0 w.1) m w.3 in
    let rest = Walk-bounds v ls w.0 x w.2 ps m w.4 in
    let sum = w.5 in
    omega (arith, ints)

-- nothing meets literals with a negative cycle
pub cycle_denies : (v : Values) (ls : List Literal) (ps : List ℕ) → IsNegativeCycle ls ps → Meets v ls → ⊥
cycle_denies v ls ps c m =
    let b = Walk-bounds v ls c.0 c.0 c.1 ps m c.2 in
    let n = c.3 in
    omega (arith, ints)

-- each symbol of the list has the number of its slot, moved by that of the slot of 0
pub record AreMoved (s : List ℕ) (ns : List Entry) (numbers : List ℤ) (zero_slot : ℕ) : Type 0 where
  pub here : slice_get s zero_slot ≡ Some 0
  pub each : (slot x : ℕ) → slice_get s slot ≡ Some x → slice_index_or numbers x (pos 0)
      ≡ (number_in ns slot -ℤ number_in ns zero_slot)

pub moved_number : (s : List ℕ) (ns : List Entry) (numbers : List ℤ) (k slot x : ℕ) → AreMoved s ns numbers k → slice_get s slot
    ≡ Some x → number_of (values_of numbers) x ≡ (number_in ns slot -ℤ number_in ns k)
unfolding number_of
moved_number s ns numbers k slot zero m h = let a = m.each slot 0 h in let b = m.each k 0 m.here in omega (arith, ints, a, b)
moved_number s ns numbers k slot (suc x) m h = m.each slot (suc x) h

pub AreMet-meets : (s : List ℕ) (ls : List Literal) (es : List Edge) (ns : List Entry) (numbers : List ℤ) (k : ℕ)
    → AreEdges s ls es → AreMoved s ns numbers k → AreMet ns es → Meets (values_of numbers) ls
AreMet-meets s [] [] ns numbers k h m a = tt
AreMet-meets s (AtMost x y c ∷ ls) (e ∷ es) ns numbers k h m a =
    let first = moved_number s ns numbers k e.to x.0 m h.0.0 in
    let second = moved_number s ns numbers k e.from y.0 m h.0.1 in
    let bound = h.0.2 in
    let met = a.0 in
    (omega (arith, ints, first, second, bound, met), AreMet-meets s ls es ns numbers k h.1 m a.1)
AreMet-meets s (Same x y ∷ ls) (e ∷ es) ns numbers k h m a = absurd h.0
AreMet-meets s (Differ x y ∷ ls) (e ∷ es) ns numbers k h m a = absurd h.0
AreMet-meets s [] (e ∷ es) ns numbers k h m a = absurd h
AreMet-meets s (l ∷ ls) [] ns numbers k h m a = absurd h

pub All-near : (numbers : List ℤ) (n m : ℕ) → n ≤ m → ((k : ℕ) → IsWithin n (slice_index_or numbers k (pos 0)))
    → All (IsWithin m) numbers
All-near numbers n m le h = All-from_get_or (IsWithin m) numbers (pos 0)
    (λ i _. within_more n m (slice_index_or numbers i (pos 0)) (h i) le)
