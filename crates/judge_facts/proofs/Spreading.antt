-- A fair fact spreads.
use Rattle.std.proofs.Common.{◌≡◌, ℤ, true, Option, Some, List, [], ◌∷◌, map, refl, ap, sym, subst, ◌∙◌, ◌⊎◌, inl, inr, rules, arith}
use Rattle.std.specs.Prelude.{◌≤ℤ◌, ◌<ℤ◌, ◌+ℤ◌, ◌-ℤ◌}
use Rattle.std.proofs.lemmas.Int.{ints, by_lt_z}
use Rattle.pv_values.specs.declared.value.Value.{Value}
use Rattle.pv_picks.specs.declared.evidence.Entry.{Entry}
use Rattle.pv_picks.specs.Formulas.Values.{within}
use Rattle.pv_picks.specs.Judge.States.{Cells, cells_of}
use Rattle.pv_picks.specs.Judge.Settings.{ArrayPart, Known}
use Rattle.pv_picks.specs.Judge.Runs.{Maps}
use Rattle.pv_picks.specs.Lazy.Patterns.{array_in, arrays_in, named_on, lowered, positions_of, positions_of_parts}
use Rattle.pv_picks.specs.Lazy.Runs.{Final}
use Rattle.judge_laws.specs.Options.{or_none}
use Rattle.judge_facts.specs.Finite.{IsOneOf, Goes, Spreads}
use Rattle.judge_facts.specs.Fair.{Nearest, names_of, IsEven, shift_of, IsFair, FairFactsSpread}
use Rattle.judge_facts.proofs.Worth.{direct, placed, AlikeAt, steady_same}
use Rattle.judge_facts.proofs.Joining.{names_meet}
use Rattle.judge_laws.proofs.Judging as judging

-- the nearest name below p, or none is below p
nearest_or : (names : List ℤ) (p : ℤ) → ((q : ℤ) × Nearest names p q) ⊎ ((x : ℤ) → IsOneOf x names → x ≤ℤ p → ⊥)
nearest_or [] p = inr (λ x h k. h)
nearest_or (m ∷ ms) p = go (nearest_or ms p)
  where
    go : ((q : ℤ) × Nearest ms p q) ⊎ ((x : ℤ) → IsOneOf x ms → x ≤ℤ p → ⊥)
        → ((q : ℤ) × Nearest (m ∷ ms) p q) ⊎ ((x : ℤ) → IsOneOf x (m ∷ ms) → x ≤ℤ p → ⊥)
    go (inl (q, b)) = let low = b.below in by_lt_z p m
        (λ h. inl (
          q,
          record {
            member = inr b.member;
            below = b.below;
            none = λ x i l. elim i [ inl e ↦ absurd (omega (arith, ints, e, l, h)) | inr j ↦ b.none x j l ];
          },
        ))
        (λ h. by_lt_z q m
        (λ g. inl (
          m,
          record {
            member = inl refl;
            below = h;
            none = λ x i l.
                elim i [ inl e ↦ omega (arith, ints, e) | inr j ↦ (let t = b.none x j l in omega (arith, ints, t, g)) ];
          },
        ))
        (λ g. inl (
          q,
          record {
            member = inr b.member;
            below = b.below;
            none = λ x i l. elim i [ inl e ↦ omega (arith, ints, e, g) | inr j ↦ b.none x j l ];
          },
        )))
    go (inr none) = by_lt_z p m
        (λ h. inr (λ x i l. elim i [ inl e ↦ omega (arith, ints, e, l, h) | inr j ↦ none x j l ]))
        (λ h. inl (
          m,
          record {
            member = inl refl;
            below = h;
            none = λ x i l. elim i [ inl e ↦ omega (arith, ints, e) | inr j ↦ absurd (none x j l) ];
          },
        ))

-- where one is named below p, there is a nearest one
nearest : (names : List ℤ) (p r : ℤ) → IsOneOf r names → r ≤ℤ p → (q : ℤ) × Nearest names p q
nearest names p r i k = elim (nearest_or names p) [ inl h ↦ h | inr none ↦ absurd (none r i k) ]

pub raised : (s : ℤ) (ns : List ℤ) (q : ℤ) → IsOneOf q (lowered s ns) → IsOneOf (q +ℤ s) ns
raised s [] q h = absurd h
raised s (n ∷ ns) q (inl e) = inl (omega (arith, ints, e))
raised s (n ∷ ns) q (inr h) = inr (raised s ns q h)

pub let_down : (s : ℤ) (ns : List ℤ) (r : ℤ) → IsOneOf r ns → IsOneOf (r -ℤ s) (lowered s ns)
let_down s [] r h = absurd h
let_down s (n ∷ ns) r (inl e) = inl (omega (arith, ints, e))
let_down s (n ∷ ns) r (inr h) = inr (let_down s ns r h)

-- the nearest position is that of the nearest index, on each array with these names
nearest_index : (s p q : ℤ) (ns ms : List ℤ) → ((z : ℤ) → IsOneOf z ns → IsOneOf z ms) → ((z : ℤ) → IsOneOf z ms → IsOneOf z ns)
    → Nearest (lowered s ns) p q → Nearest ms (p +ℤ s) (q +ℤ s)
nearest_index s p q ns ms f g n = record {
  member = f (q +ℤ s) (raised s ns q n.member);
  below = let b = n.below in omega (arith, ints, b);
  none = λ r i l. let t = n.none (r -ℤ s) (let_down s ns r (g r i)) (omega (arith, ints, l)) in omega (arith, ints, t);
}

within_low : (l h p : ℤ) → within l h p ≡ true → l ≤ℤ p
within_low l h p e = search (rules, ints)

within_high : (l h p : ℤ) → within l h p ≡ true → p <ℤ h
within_high l h p e = search (rules, ints)

within_both : (l h p : ℤ) → l ≤ℤ p → p <ℤ h → within l h p ≡ true
within_both l h p e k = search (rules, ints)

module _ (maps : Maps) (table : List Entry) (final : Final) (k : Known) where
  -- a test at a position at which the fact has the same value
  goes_too : (p q : ℤ) → judging.result_of maps table k p ≡ judging.result_of maps table k q → Goes maps table k q
      → Goes maps table k p
  goes_too p q e h x ps =
      judging.test_comes maps table k p x ps ∙ ap (λ (o : Option Value). judging.comes_to maps table o x ps) e
      ∙ sym (judging.test_comes maps table k q x ps) ∙ h x ps

  spreads : (part : ArrayPart) (parts : List ArrayPart) → k.parts ≡ part ∷ parts → IsOneOf k final.known
      → IsFair maps table final k → Spreads maps table final k
  spreads part parts e there fair goes p w =
      let names : List ℤ = named_on final.known final.events (array_in part) in
      let at : positions_of final.known final.events k ≡ lowered part.shift names =
      ap (positions_of_parts final.known final.events) e in
      let n = nearest (positions_of final.known final.events k) p k.low fair.low (within_low k.low k.high p w) in
      let q : ℤ = n.0 in
      let near : Nearest (lowered part.shift names) p q = subst (λ (xs : List ℤ). Nearest xs p q) at n.1 in
      let above = n.1.none k.low fair.low (within_low k.low k.high p w) in
      let under = n.1.below in
      let shift : shift_of k.parts ≡ part.shift = ap shift_of e in
      let first : IsOneOf (array_in part) (arrays_in k) =
      subst (λ (xs : List ArrayPart). IsOneOf (array_in part) (map array_in xs)) (sym e) (inl refl) in
      let alike : (cells : Cells) → IsEven final maps cells
      → AlikeAt maps table k.state k.bind.scene k.name (shift_of k.parts) p q
      (λ type array. IsOneOf (type, array) (arrays_in k)) cells =
      λ cells even t a i. even t a (p +ℤ shift_of k.parts) (q +ℤ shift_of k.parts)
      (subst (λ (z : ℤ). Nearest (names_of final (t, a)) (p +ℤ z) (q +ℤ z)) (sym shift)
      (nearest_index part.shift p q names (names_of final (t, a))
      (names_meet final.known final.events k there (array_in part) (t, a) first i)
      (names_meet final.known final.events k there (t, a) (array_in part) i first) near)) in
      goes_too p q
      (direct maps table k.state (cells_of k.state) k.bind.old (placed maps table k.state k.bind.scene k.name p) k.fact Some
      ∙ ap (λ (o : Option Value). or_none o Some)
      (steady_same maps table k.state k.bind.scene k.name (shift_of k.parts) p q
      (λ type array. IsOneOf (type, array) (arrays_in k)) (cells_of k.state) k.bind.old
      (alike (cells_of k.state) fair.now) (alike k.bind.old fair.old) k.fact fair.steady fair.covered)
      ∙ sym (direct maps table k.state (cells_of k.state) k.bind.old
      (placed maps table k.state k.bind.scene k.name q) k.fact Some))
      (goes q n.1.member
      (within_both k.low k.high q above (let h = within_high k.low k.high p w in omega (arith, ints, under, h))))

pub fair_facts_spread : FairFactsSpread
fair_facts_spread maps table final k there fair = go k.parts refl fair.low
  where
    go : (parts : List ArrayPart) → k.parts ≡ parts → IsOneOf k.low (positions_of_parts final.known final.events parts)
        → Spreads maps table final k
    go [] e i = absurd i
    go (part ∷ parts) e i = spreads maps table final k part parts e there fair
