-- What tokens spell by a rule of the grammar, and the first token that goes on with nothing that the rule says.
use Rattle.std.specs.Prelude.{ℕ, ◌≡◌, ◌≢◌, ◌<◌, [], ◌∷◌, ◌++◌, length}
use Rattle.pv_base.specs.declared.Span.{Span}
use Rattle.pv_tokens.specs.declared.Lexeme.{Lexeme}
use Rattle.pv_reading.specs.Marks.{Tokens, Marked, plain, Within, next_of, place_of}

-- how many constructs of a text may be open at once
abbrev pub most_open : ℕ
most_open = 64

-- a rule: tokens, up to a rest of them, spell a tree
abbrev pub Rule : Type 0 → Type 1
Rule A = Marked → A → Marked → Type 0

-- the tokens, all of them, spell the tree, at whatever depth
pub record Spells {A : Type 0} (R : Rule A) (tokens : Tokens) (tree : A) : Type 0 where
  pub marks : Marked
  pub here : plain marks ≡ tokens
  pub spelled : R marks tree []

-- they do, and no more constructs than the limit are open at once
pub record SpellsWithin {A : Type 0} (R : Rule A) (limit : ℕ) (tokens : Tokens) (tree : A) : Type 0 where
  pub marks : Marked
  pub here : plain marks ≡ tokens
  pub spelled : R marks tree []
  pub within : Within limit marks

-- Nothing is spelled by the front and other tokens behind it of which the first is of the same kind as the first of the rest;
-- where there is no rest, nothing is spelled by the front alone.
abbrev pub EndsHere : {A : Type 0} → Rule A → Tokens → Tokens → Type 0
EndsHere {A = A} R front rest = (other : Tokens) (tree : A) → next_of other ≡ next_of rest → Spells R (front ++ other) tree → ⊥

-- The tokens up to the fault at `place` are the front of some that spell a tree, and keep to the limit. With the token that
-- stands there they are the front of none, at whatever depth. At the end of the text: they spell nothing themselves.
pub record IsUnexpected {A : Type 0} (R : Rule A) (limit : ℕ) (end : ℕ) (tokens : Tokens) (place : Span) : Type 0 where
  pub front : Marked
  pub rest : Tokens
  pub split : tokens ≡ plain front ++ rest
  pub within : Within limit front
  pub more : Marked
  pub tree : A
  pub spelled : R (front ++ more) tree []
  pub ends : EndsHere R (plain front) rest
  pub stands : place ≡ place_of end rest

-- The token at `place` opens one construct more than may be open, and no earlier one does: the tokens up to it and with it
-- are the front of some that spell a tree, and of none that keep to the limit.
pub record IsTooDeep {A : Type 0} (R : Rule A) (limit : ℕ) (tokens : Tokens) (place : Span) : Type 0 where
  pub front : Marked
  pub token : Lexeme
  pub depth : ℕ
  pub rest : Tokens
  pub split : tokens ≡ plain front ++ token ∷ rest
  pub within : Within limit front
  pub past : limit < depth
  pub more : Marked
  pub tree : A
  pub spelled : R ((front ++ (token, depth) ∷ []) ++ more) tree []
  pub none : (other : Tokens) (tree : A) → SpellsWithin R limit (plain front ++ token ∷ other) tree → ⊥
  pub stands : place ≡ token.span

-- the first `taken` of the tokens spell the tree within the limit, and are the front of nothing longer that goes on as here
pub record IsLongest {A : Type 0} (R : Rule A) (limit : ℕ) (tokens : Tokens) (tree : A) (taken : ℕ) : Type 0 where
  pub front : Marked
  pub rest : Tokens
  pub split : tokens ≡ plain front ++ rest
  pub count : taken ≡ length front
  pub within : Within limit front
  pub spelled : R front tree []
  pub ends : rest ≢ [] → EndsHere R (plain front) rest

-- the tokens before an unexpected one spell nothing by themselves
pub record IsUnfinished {A : Type 0} (R : Rule A) (limit : ℕ) (end : ℕ) (tokens : Tokens) (place : Span) : Type 0 where
  pub unexpected : IsUnexpected R limit end tokens place
  pub unfinished : (tree : A) → Spells R (plain unexpected.front) tree → ⊥
