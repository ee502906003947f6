-- A member of a block has ended: what it left suffices for the postcondition of its block.
use Rattle.std.proofs.Common.{◌≡◌, ℕ, ◌+◌, ◌≤◌, ◌<◌, ℤ, Bool, true, false, if◌then◌else◌, [], ◌∷◌, refl, ap, sym, subst, arith}
use Rattle.std.specs.Prelude.{nat_eq}
use Rattle.pv_base.specs.declared.Name.{Name}
use Rattle.pv_picks.specs.Plain.Core.{Program}
use Rattle.pv_picks.specs.Formulas.Heaps.{at_number}
use Rattle.pv_picks.specs.Judge.States.{Resource, OfLock}
use Rattle.pv_picks.specs.Machine.Frames.{Frame}
use Rattle.pv_picks.specs.Machine.Worlds.{MemberOf, World, with_frames}
use Rattle.pv_picks.proofs.Sames.{naturals_same}
use Rattle.account_formulas.specs.Owning.{Amounts, KeepsOwning}
use Rattle.account.specs.Frames.{Run, amounts_of, all_of}
use Rattle.account.specs.Owners.{carried_by}
use Rattle.account.specs.Blocks.{scene_at}
use Rattle.account.specs.Accounts.{Account}
use Rattle.account.proofs.Sums.{sum_less, at_same, at_other}
use Rattle.account.proofs.Moving.{GoesOn, ends, others_here, still_receives}
use Rattle.account_blocks.proofs.Moving.{as_member_of, moved}

module _ (p : Program) (w : World) (a : Account p w) (i : ℕ) (inside : i < w.count) (f : Frame)
    (stack : (w.threads i).frames ≡ f ∷ []) (b : ℕ) (spot : ℤ) (role : (w.threads i).role ≡ MemberOf b spot) (r : Run)
    (has_runs : a.owners.runs i ≡ r ∷ []) (is : f.tasks ≡ []) (R : Amounts) (less : (q : Resource) → R q ≤ amounts_of r q)
    (no_lock : (class : Name) (x : ℕ) → R (OfLock class x) ≡ 0)
    (owns : KeepsOwning p w.committed w.heap (scene_at (a.owners.openings b) (w.blocks b).team spot)
    (w.blocks b).team.shared.one.after R) where
  goes : GoesOn w.threads a.owners i [] []
  goes = ends w.threads a.owners i f stack is

  pub ended : Account p (with_frames w i [])
  ended = moved p w a i [] [] (at_number i R a.owners.left) a.owners.mail inside (record {
    fits = tt;
    goes = goes;
    less = λ q. sum_less _ _ w.count (λ j. less_at j q (nat_eq j i) refl);
    locks = λ class x. omega arith;
    no_locks = λ j l class x. locks_at j l class x (nat_eq j i);
    stays = λ j e c position is' opener. at_other i j R a.owners.left e;
    enough = record {
      ended = λ c position is' none.
          subst (KeepsOwning p w.committed w.heap (scene_at (a.owners.openings c) (w.blocks c).team position)
          (w.blocks c).team.shared.one.after) (sym (at_same i R a.owners.left))
          (as_member_of b spot (w.threads i).role role (λ d z. KeepsOwning p w.committed w.heap
          (scene_at (a.owners.openings d) (w.blocks d).team z) (w.blocks d).team.shared.one.after R) owns c position is');
      arrived = λ c position is' h q qs barrier span others e. absurd (cc e);
    };
    there = λ j l c position is' label some was. a.mail.there j l c position is' label
        (still_receives p w.committed w.heap w.heap w.count w.threads a.owners i (others_here w.heap w.count a.owners i) [] []
        goes
        j label some) was;
  })
    where
      less_at : (j : ℕ) (q : Resource) (x : Bool) → nat_eq j i ≡ x
          → all_of (if x then [] else a.owners.runs j) q
          + ((if x then R else a.owners.left j) q + carried_by (a.owners.mail j) q)
          ≤ all_of (a.owners.runs j) q + (a.owners.left j q + carried_by (a.owners.mail j) q)
      less_at j q false e = omega arith
      less_at j q true e =
          let runs = ap (λ z. all_of (a.owners.runs z) q) (naturals_same j i e) in
          let mine = ap (λ z. all_of z q) has_runs in let l = less q in omega (arith, runs, mine, l)

      locks_at : (j : ℕ) → j < w.count → (class : Name) (x : ℕ) (t : Bool)
          → (if t then R else a.owners.left j) (OfLock class x) + carried_by (a.owners.mail j) (OfLock class x) ≡ 0
      locks_at j l class x false = a.locks.threads j l class x
      locks_at j l class x true =
          let z = a.locks.threads j l class x in let n = no_lock class x in omega (arith, z, n)
