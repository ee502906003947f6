-- A path that is turned over.
use Rattle.std.proofs.Common.{◌≡◌, ℕ, suc, ◌+◌, ◌≤◌, List, [], ◌∷◌, ◌++◌, length, take, drop, Some, refl, ap, sym, subst, ◌∙◌, arith, append_assoc, append-nil, length-append}
use Rattle.std.specs.Prelude.{max}
use Rattle.std.proofs.Math.Seq.{take-append_seam}
use Rattle.pv_linear.specs.declared.Literal.{Literal}
use Rattle.pv_linear.specs.Literal.{opposite}
use Rattle.pv_linear.specs.Evidence.{CanBeMet}
use Rattle.pv_path.specs.declared.branch.Turn.TheVariants.{First, Second, Third}
use Rattle.pv_path.specs.declared.branch.Branch.{Branch}
use Rattle.pv_path.specs.declared.branch.Branch.TheVariants.{Open, Closed, Turned}
use Rattle.pv_path.specs.Branches.{turned_over, IsNextSide, branch_literals}
use Rattle.pv_path.specs.Standing.{AreUndecided, span_of}
use Rattle.pv_path.proofs.BranchLemmas.{branch_literals-append, span_of-append, split_at}
use Rattle.pv_path.proofs.StandingLemmas.{met_front, undecided_front, undecided_more, opposite_twice}

-- a branch on its next side has the opposite literal, or none as before
data Sides (last other : Branch) : Type 0 where
  no_literal : branch_literals (last ∷ []) ≡ [] → branch_literals (other ∷ []) ≡ [] → Sides last other
  literal_is : (l : Literal) → branch_literals (last ∷ []) ≡ l ∷ [] → branch_literals (other ∷ []) ≡ opposite l ∷ []
      → Sides last other

sides : (last other : Branch) → turned_over last ≡ Some other → Sides last other
sides (Open l) other h = let e : Closed (opposite l) ≡ other = cc h in
    literal_is l refl (ap (λ b. branch_literals (b ∷ [])) (sym e))
sides (Closed l) other h = cc h
sides (Turned First) other h = let e : Turned Second ≡ other = cc h in
    no_literal refl (ap (λ b. branch_literals (b ∷ [])) (sym e))
sides (Turned Second) other h = let e : Turned Third ≡ other = cc h in
    no_literal refl (ap (λ b. branch_literals (b ∷ [])) (sym e))
sides (Turned Third) other h = cc h

-- the literals before: those that stay, that of the last branch, and those that go
were : (bs : List Branch) (place : ℕ) (other : Branch) (n : IsNextSide bs place other) → branch_literals bs
    ≡ branch_literals (take place bs) ++ (branch_literals (n.last ∷ []) ++ branch_literals (drop (suc place) bs))
were bs place other n =
    ap branch_literals (split_at bs place n.last n.there)
    ∙ branch_literals-append (take place bs) (n.last ∷ drop (suc place) bs)
    ∙ ap (λ ls. branch_literals (take place bs) ++ ls) (branch_literals-append (n.last ∷ []) (drop (suc place) bs))

-- the literals after
pub over_literals : (bs : List Branch) (ls : List Literal) (place count : ℕ) (other : Branch) → IsNextSide bs place other → ls
    ≡ branch_literals bs → count ≡ length (branch_literals (take place bs))
    → take count ls ++ branch_literals (other ∷ []) ≡ branch_literals (take place bs ++ other ∷ [])
over_literals bs ls place count other n same counted =
    ap (λ zs. zs ++ branch_literals (other ∷ []))
    (ap (λ k. take k ls) counted ∙ ap (λ zs. take (length (branch_literals (take place bs))) zs)
    (same ∙ were bs place other n) ∙ take-append_seam (branch_literals (take place bs)) _)
    ∙ sym (branch_literals-append (take place bs) (other ∷ []))

-- there is room for them
pub over_room : (bs : List Branch) (ls : List Literal) (place count : ℕ) (other : Branch) → IsNextSide bs place other → ls
    ≡ branch_literals bs → count ≡ length (branch_literals (take place bs))
    → count + length (branch_literals (other ∷ [])) ≤ length ls
over_room bs ls place count other n same counted = go (sides n.last other n.over)
  where
    whole : length ls ≡ length (branch_literals (take place bs)) +
        (length (branch_literals (n.last ∷ [])) + length (branch_literals (drop (suc place) bs)))
    whole = ap length (same ∙ were bs place other n) ∙ length-append (branch_literals (take place bs)) _
        ∙ ap (λ k. length (branch_literals (take place bs)) + k)
        (length-append (branch_literals (n.last ∷ [])) (branch_literals (drop (suc place) bs)))

    go : Sides n.last other → count + length (branch_literals (other ∷ [])) ≤ length ls
    go (no_literal a b) = rw (b, whole, counted) (omega arith)
    go (literal_is l a b) = rw (b, whole, counted, a) (omega arith)

-- their bounds are not further from zero
pub over_span : (bs : List Branch) (place : ℕ) (other : Branch) → IsNextSide bs place other
    → span_of (branch_literals (take place bs ++ other ∷ [])) ≤ span_of (branch_literals bs)
over_span bs place other n = go (sides n.last other n.over)
  where
    whole : span_of (branch_literals bs) ≡ max (span_of (branch_literals (take place bs)))
        (max (span_of (branch_literals (n.last ∷ []))) (span_of (branch_literals (drop (suc place) bs))))
    whole = ap span_of (were bs place other n) ∙ span_of-append (branch_literals (take place bs)) _
        ∙ ap (λ k. max (span_of (branch_literals (take place bs))) k)
        (span_of-append (branch_literals (n.last ∷ [])) (branch_literals (drop (suc place) bs)))

    part : span_of (branch_literals (take place bs ++ other ∷ []))
        ≡ max (span_of (branch_literals (take place bs))) (span_of (branch_literals (other ∷ [])))
    part = ap span_of (branch_literals-append (take place bs) (other ∷ []))
        ∙ span_of-append (branch_literals (take place bs)) (branch_literals (other ∷ []))

    go : Sides n.last other → span_of (branch_literals (take place bs ++ other ∷ [])) ≤ span_of (branch_literals bs)
    go (no_literal a b) = rw (part, whole, b) (omega arith)
    go (literal_is l a b) = rw (part, whole, b, a, opposite_twice l) (omega arith)

-- they were undecided too
pub over_undecided : (bs : List Branch) (place : ℕ) (other : Branch) → IsNextSide bs place other → CanBeMet (branch_literals bs)
    → AreUndecided (branch_literals bs) → AreUndecided (branch_literals (take place bs ++ other ∷ []))
over_undecided bs place other n met old = go (sides n.last other n.over)
  where
    front : List Literal
    front = branch_literals (take place bs)

    gone : List Literal
    gone = branch_literals (drop (suc place) bs)

    kept : AreUndecided front
    kept = undecided_front front (branch_literals (n.last ∷ []) ++ gone) (subst AreUndecided (were bs place other n) old)

    go : Sides n.last other → AreUndecided (branch_literals (take place bs ++ other ∷ []))
    go (no_literal a b) = subst AreUndecided (sym
        (branch_literals-append (take place bs) (other ∷ []) ∙ ap (λ ls. front ++ ls) b ∙ append-nil front)) kept
    go (literal_is l a b) = undecided_more front _ (opposite l)
        (branch_literals-append (take place bs) (other ∷ []) ∙ ap (λ ls. front ++ ls) b) kept
        (subst (λ (q : Literal). CanBeMet (front ++ q ∷ [])) (sym (opposite_twice l))
        (met_front (front ++ l ∷ []) gone (subst CanBeMet
        (were bs place other n ∙ ap (λ ls. front ++ (ls ++ gone)) a ∙ sym (append_assoc front (l ∷ []) gone)) met)))
