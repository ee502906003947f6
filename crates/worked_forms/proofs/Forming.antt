-- A program is well formed where tests say so.
use Rattle.std.proofs.Common.{◌≡◌, ◌≤◌, ℕ, Bool, true, false, List, [], ◌∷◌, inl, inr, rules}
use Rattle.std.specs.Prelude.{◌&&◌, ◌<◌, ◌^◌, All, nat_le, nat_lt}
use Rattle.std.proofs.lemmas.Bool.{and_parts}
use Rattle.std.proofs.lemmas.List.Elements.{All-nil, All-cons}
use Rattle.pv_ast.specs.declared.Program.{Program}
use Rattle.pv_ast.specs.declared.fault.Fault.{Fault}
use Rattle.pv_ast.specs.Measures.{literals_of_program}
use Rattle.pv_ast.specs.Rules.Faults.{Faults, none, broken, both, Among}
use Rattle.pv_ast.specs.Rules.Numbers.{numbers_of_program}
use Rattle.pv_ast.specs.Rules.Programs.{faults_of_program}
use Rattle.pv_ast.specs.Rules.Shapes.{shape_faults_of}
use Rattle.pv_ast.specs.Rules.WellFormed.{IsWellFormed}

abbrev pub is_clean : Faults → Bool
is_clean none = true
is_clean (broken rule span) = false
is_clean (both a b) = is_clean a && is_clean b

none_among : (faults : Faults) → is_clean faults ≡ true → (f : Fault) → Among f faults → ⊥
none_among none clean f among = among
none_among (broken rule span) clean f among = absurd (cc clean)
none_among (both a b) clean f (inl among) = none_among a (and_parts (is_clean a) (is_clean b) clean).0 f among
none_among (both a b) clean f (inr among) = none_among b (and_parts (is_clean a) (is_clean b) clean).1 f among

below : (a b : ℕ) → nat_lt a b ≡ true → a < b
below a b h = search rules

at_most : (a b : ℕ) → nat_le a b ≡ true → a ≤ b
at_most a b h = search rules

abbrev pub are_small : List ℕ → Bool
are_small [] = true
are_small (n ∷ ns) = nat_lt n (2 ^ 63) && are_small ns

all_small : (ns : List ℕ) → are_small ns ≡ true → All (λ n. n < 2 ^ 63) ns
all_small [] h = All-nil (λ n. n < 2 ^ 63)
all_small (n ∷ ns) h =
    All-cons (λ n. n < 2 ^ 63) n ns (below n (2 ^ 63) (and_parts (nat_lt n (2 ^ 63)) (are_small ns) h).0)
    (all_small ns (and_parts (nat_lt n (2 ^ 63)) (are_small ns) h).1)

pub formed : (p : Program) → is_clean (faults_of_program p) ≡ true → shape_faults_of p ≡ []
    → nat_le (literals_of_program p) (2 ^ 20) ≡ true → are_small (numbers_of_program p) ≡ true → IsWellFormed p
formed p clean shapes few small = record {
  rules = none_among (faults_of_program p) clean;
  shapes = shapes;
  few = at_most (literals_of_program p) (2 ^ 20) few;
  small = all_small (numbers_of_program p) small;
}
