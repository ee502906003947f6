-- How loosely a token goes on with what stands before it, and what may begin an expression.
use Rattle.std.proofs.Common.{ℕ, ◌≡◌, ◌≤◌, List, [], ◌∷◌, Option, Some, None, Bool, true, false, cond, nat_eq, refl, arith}
use Rattle.std.proofs.Math.Dec.{ltb}
use Rattle.std.proofs.lemmas.Bool.{ltb-true, lt-ltb}
use Rattle.pv_tokens.specs.declared.LexemeKind.{LexemeKind}
use Rattle.pv_tokens.specs.declared.LexemeKind.TheVariants as k
use Rattle.pv_tokens.specs.declared.fixed.TheConstants.{REQUIRES, ENSURES, CONTEXT, LOOP_INVARIANT, ELSE, NULL, THIS, TRUE, FALSE, PERM, IDLE, RUNNING, COMMITTED, UNCOMMITTED, RESULT, OLD, IMPLIES, STAR_STAR, EQUAL, NOT_EQUAL, AT_MOST, AT_LEAST, AND_AND, OR_OR, OPEN_PAREN, OPEN_BRACKET, DOT, LESS, GREATER, PLUS, MINUS, STAR, BANG}
use Rattle.pv_reading.specs.Reading.{entry_of}
use Rattle.pv_reading.proofs.Nexts.{Nexts, Sub, Each}
use Rattle.pv_exprs.specs.declared.level.Level.{Level}
use Rattle.pv_exprs.specs.declared.level.Level.TheVariants as level
use Rattle.pv_exprs.specs.Operators.{operators}

abbrev pub ranks : List (ℕ × ℕ)
ranks =
    (DOT, 1) ∷ (OPEN_BRACKET, 1) ∷ (OPEN_PAREN, 2) ∷ (STAR, 3) ∷ (PLUS, 4) ∷ (MINUS, 4) ∷ (LESS, 5) ∷ (AT_MOST, 5) ∷ (GREATER, 5)
    ∷ (AT_LEAST, 5)
    ∷ (EQUAL, 6) ∷ (NOT_EQUAL, 6) ∷ (AND_AND, 7) ∷ (OR_OR, 8) ∷ (STAR_STAR, 8) ∷ (IMPLIES, 9) ∷ (ELSE, 10) ∷ (REQUIRES, 10)
    ∷ (ENSURES, 10) ∷ (CONTEXT, 10) ∷ (LOOP_INVARIANT, 11) ∷ []

abbrev pub rank_in : Option ℕ → ℕ
rank_in None = 12
rank_in (Some n) = n

-- what goes on with nothing as tight as n
abbrev pub above : ℕ → Nexts
above n None = true
above n (Some (k.Named x)) = true
above n (Some (k.Number x)) = true
above n (Some (k.Fixed j)) = ltb n (rank_in (entry_of ranks j))

above_less : (n m : ℕ) → m ≤ n → (o : Option LexemeKind) → above n o ≡ true → above m o ≡ true
above_less n m le None h = refl
above_less n m le (Some (k.Named x)) h = refl
above_less n m le (Some (k.Number x)) h = refl
above_less n m le (Some (k.Fixed j)) h =
    let r = rank_in (entry_of ranks j) in
    let lt = ltb-true n r h in
    lt-ltb m r (omega arith)

pub sub_above : (n m : ℕ) → m ≤ n → Sub (above n) (above m)
sub_above n m le = record { has = above_less n m le }

-- what may begin an expression or a formula; one without a sign before it; and one that begins neither so nor with a name or
-- `this`
abbrev pub begins_other : List (ℕ × Unit {0})
begins_other =
    (NULL, tt) ∷ (TRUE, tt) ∷ (FALSE, tt) ∷ (PERM, tt) ∷ (IDLE, tt) ∷ (RUNNING, tt) ∷ (COMMITTED, tt) ∷ (UNCOMMITTED, tt)
    ∷ (RESULT, tt) ∷ (OLD, tt) ∷ (OPEN_PAREN, tt) ∷ []

abbrev pub begins_post : List (ℕ × Unit {0})
begins_post = (THIS, tt) ∷ begins_other

abbrev pub begins : List (ℕ × Unit {0})
begins = (MINUS, tt) ∷ (BANG, tt) ∷ begins_post

abbrev pub is_there : {B : Type 0} → Option B → Bool
is_there None = false
is_there (Some b) = true

abbrev pub starts : Nexts
starts None = false
starts (Some (k.Named x)) = true
starts (Some (k.Number x)) = true
starts (Some (k.Fixed j)) = is_there (entry_of begins j)

abbrev pub starts_post : Nexts
starts_post None = false
starts_post (Some (k.Named x)) = true
starts_post (Some (k.Number x)) = true
starts_post (Some (k.Fixed j)) = is_there (entry_of begins_post j)

there_later : {B : Type 0} (c : Bool) (b : B) (o : Option B) → is_there o ≡ true → is_there (cond c (Some b) o) ≡ true
there_later true b o h = refl
there_later false b o h = h

post_starts_too : (o : Option LexemeKind) → starts_post o ≡ true → starts o ≡ true
post_starts_too None h = cc
post_starts_too (Some (k.Named x)) h = refl
post_starts_too (Some (k.Number x)) h = refl
post_starts_too (Some (k.Fixed j)) h =
    there_later (nat_eq j MINUS) tt (entry_of ((BANG, tt) ∷ begins_post) j)
    (there_later (nat_eq j BANG) tt (entry_of begins_post j) h)

abbrev pub starts_other : Nexts
starts_other None = false
starts_other (Some (k.Named x)) = false
starts_other (Some (k.Number x)) = true
starts_other (Some (k.Fixed j)) = is_there (entry_of begins_other j)

other_starts_too : (o : Option LexemeKind) → starts_other o ≡ true → starts_post o ≡ true
other_starts_too None h = cc
other_starts_too (Some (k.Named x)) h = refl
other_starts_too (Some (k.Number x)) h = refl
other_starts_too (Some (k.Fixed j)) h = there_later (nat_eq j THIS) tt (entry_of begins_other j) h

pub sub_other : Sub starts_other starts_post
sub_other = record { has = other_starts_too }

pub sub_post : Sub starts_post starts
sub_post = record { has = post_starts_too }

-- the rank of the operators of a level, and of those in its parts

abbrev pub rank_of : Level → ℕ
rank_of level.Separation = 8
rank_of level.Disjunction = 8
rank_of level.Conjunction = 7
rank_of level.Equality = 6
rank_of level.Comparison = 5
rank_of level.Sum = 4
rank_of level.Product = 3

abbrev pub rank_under : Level → ℕ
rank_under level.Separation = 7
rank_under level.Disjunction = 7
rank_under level.Conjunction = 6
rank_under level.Equality = 5
rank_under level.Comparison = 4
rank_under level.Sum = 3
rank_under level.Product = 2

pub under_rank : (l : Level) → rank_under l ≤ rank_of l
under_rank level.Separation = omega arith
under_rank level.Disjunction = omega arith
under_rank level.Conjunction = omega arith
under_rank level.Equality = omega arith
under_rank level.Comparison = omega arith
under_rank level.Sum = omega arith
under_rank level.Product = omega arith

pub operators_above : (l : Level) → Each (λ j. above (rank_under l) (Some (k.Fixed j)) ≡ true) (operators l)
operators_above level.Separation = (refl, tt)
operators_above level.Disjunction = (refl, tt)
operators_above level.Conjunction = (refl, tt)
operators_above level.Equality = (refl, (refl, tt))
operators_above level.Comparison = (refl, (refl, (refl, (refl, tt))))
operators_above level.Sum = (refl, (refl, tt))
operators_above level.Product = (refl, tt)

pub operators_apart : (l : Level) → Each (λ j. above (rank_of l) (Some (k.Fixed j)) ≡ false) (operators l)
operators_apart level.Separation = (refl, tt)
operators_apart level.Disjunction = (refl, tt)
operators_apart level.Conjunction = (refl, tt)
operators_apart level.Equality = (refl, (refl, tt))
operators_apart level.Comparison = (refl, (refl, (refl, (refl, tt))))
operators_apart level.Sum = (refl, (refl, tt))
operators_apart level.Product = (refl, tt)
