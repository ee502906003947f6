-- What is read where a statement begins, by its first token.
use Rattle.std.proofs.Common.{ℕ, ◌≡◌, false, true, List, [], ◌∷◌, length, Option, refl, sym, ap, ◌∙◌}
use Rattle.std.proofs.lemmas.Bool.{ne_eqb}
use Rattle.pv_base.specs.declared.Name.{Name}
use Rattle.pv_base.specs.declared.Span.{Span}
use Rattle.pv_tokens.specs.declared.Lexeme.{Lexeme}
use Rattle.pv_tokens.specs.declared.LexemeKind.{LexemeKind}
use Rattle.pv_tokens.specs.declared.LexemeKind.TheVariants as k
use Rattle.pv_tokens.specs.declared.fixed.TheConstants.{THIS, INT, BOOLEAN, BOOL, IF, WHILE, LOOP_INVARIANT, FOR, PAR, BARRIER, FORK, JOIN, LOCK, UNLOCK, COMMIT, FOLD, UNFOLD, ASSERT, SEND, RECV, RETURN}
use Rattle.pv_ast.specs.declared.Stmt.{Stmt}
use Rattle.pv_reading.specs.Marks.{Tokens, fixed_at}
use Rattle.pv_reading.specs.Reading.{Bad, Parser}
use Rattle.pv_reading.proofs.Sights.{at_kind}
use Rattle.pv_exprs.specs.Reading.{Readers}
use Rattle.pv_parser.specs.declared.words.Base.TheVariants as base
use Rattle.pv_parser.specs.declared.words.Action.TheVariants as action
use Rattle.pv_parser.specs.Reading as r
use Rattle.pv_parser.specs.Reading.{Blocks, stmt, this_stmt, local, choice, while_end, invariant_loop, counted, parallel, barrier, folding, assertion, send, recv, returned}

-- the number is none of these
abbrev pub IsNone : ℕ → List ℕ → Type 0
IsNone n [] = Unit {0}
IsNone n (j ∷ js) = (n ≡ j → ⊥) × IsNone n js

-- the words and symbols with which a statement begins, but for a name
abbrev pub beginnings : List ℕ
beginnings =
    THIS ∷ INT ∷ BOOLEAN ∷ BOOL ∷ IF ∷ WHILE ∷ LOOP_INVARIANT ∷ FOR ∷ PAR ∷ BARRIER ∷ FORK ∷ JOIN ∷ LOCK ∷ UNLOCK ∷ COMMIT ∷ FOLD
    ∷ UNFOLD ∷ ASSERT ∷ SEND ∷ RECV ∷ RETURN ∷ []

module _ (e : Option Readers) (o : Option Blocks) where
  -- the token x stands before the tokens us, and is of this kind
  at_first : (ts us : Tokens) (x : Lexeme) (y : LexemeKind) → ts ≡ x ∷ us → x.kind ≡ y
      → stmt e o ts ≡ stmt e o (record { kind = y; span = x.span } ∷ us)
  at_first ts us x y t h = ap (stmt e o) (t ∙ ap (λ z. z ∷ us) (at_kind x y h))

  -- by its number
  at_number : (j : ℕ) (q : Span → Parser Stmt) → ((s : Span) (us : Tokens) → stmt e o (fixed_at j s ∷ us) ≡ q s us)
      → (ts us : Tokens) (x : Lexeme) (n : ℕ) → ts ≡ x ∷ us → x.kind ≡ k.Fixed n → n ≡ j → stmt e o ts ≡ q x.span us
  at_number j q h ts us x n t f i = at_first ts us x (k.Fixed j) t (f ∙ ap k.Fixed i) ∙ h x.span us

  pub none_first : (ts : Tokens) → ts ≡ [] → stmt e o ts ≡ Bad (length ts)
  unfolding stmt r.block_stmt r.word_stmt
  none_first ts t = ap (stmt e o) t ∙ ap (λ us. Bad (length us)) (sym t)

  pub name_first : (ts us : Tokens) (x : Lexeme) (n : Name) → ts ≡ x ∷ us → x.kind ≡ k.Named n
      → stmt e o ts ≡ r.name_stmt e (record { name = n; span = x.span }) us
  unfolding stmt
  name_first ts us x n t h = at_first ts us x (k.Named n) t h

  pub number_first : (ts us : Tokens) (x : Lexeme) (n : ℕ) → ts ≡ x ∷ us → x.kind ≡ k.Number n → stmt e o ts ≡ Bad (length ts)
  unfolding stmt r.block_stmt r.word_stmt
  number_first ts us x n t h = at_first ts us x (k.Number n) t h ∙ ap (λ us. Bad (length us)) (sym t)

  pub this_first : (ts us : Tokens) (x : Lexeme) (n : ℕ) → ts ≡ x ∷ us → x.kind ≡ k.Fixed n → n ≡ THIS
      → stmt e o ts ≡ this_stmt e x.span us
  unfolding stmt r.block_stmt r.word_stmt
  this_first = at_number THIS (this_stmt e) (λ s us. refl)

  pub int_first : (ts us : Tokens) (x : Lexeme) (n : ℕ) → ts ≡ x ∷ us → x.kind ≡ k.Fixed n → n ≡ INT
      → stmt e o ts ≡ local e base.Int x.span us
  unfolding stmt r.block_stmt r.word_stmt
  int_first = at_number INT (local e base.Int) (λ s us. refl)

  pub boolean_first : (ts us : Tokens) (x : Lexeme) (n : ℕ) → ts ≡ x ∷ us → x.kind ≡ k.Fixed n → n ≡ BOOLEAN
      → stmt e o ts ≡ local e base.Truth x.span us
  unfolding stmt r.block_stmt r.word_stmt
  boolean_first = at_number BOOLEAN (local e base.Truth) (λ s us. refl)

  pub bool_first : (ts us : Tokens) (x : Lexeme) (n : ℕ) → ts ≡ x ∷ us → x.kind ≡ k.Fixed n → n ≡ BOOL
      → stmt e o ts ≡ local e base.Truth x.span us
  unfolding stmt r.block_stmt r.word_stmt
  bool_first = at_number BOOL (local e base.Truth) (λ s us. refl)

  pub if_first : (ts us : Tokens) (x : Lexeme) (n : ℕ) → ts ≡ x ∷ us → x.kind ≡ k.Fixed n → n ≡ IF
      → stmt e o ts ≡ choice e o x.span us
  unfolding stmt r.block_stmt r.word_stmt
  if_first = at_number IF (choice e o) (λ s us. refl)

  pub while_first : (ts us : Tokens) (x : Lexeme) (n : ℕ) → ts ≡ x ∷ us → x.kind ≡ k.Fixed n → n ≡ WHILE
      → stmt e o ts ≡ while_end e o x.span [] us
  unfolding stmt r.block_stmt r.word_stmt
  while_first = at_number WHILE (λ s. while_end e o s []) (λ s us. refl)

  pub loop_invariant_first : (ts us : Tokens) (x : Lexeme) (n : ℕ) → ts ≡ x ∷ us → x.kind ≡ k.Fixed n → n ≡ LOOP_INVARIANT
      → stmt e o ts ≡ invariant_loop e o x.span us
  unfolding stmt r.block_stmt r.word_stmt
  loop_invariant_first = at_number LOOP_INVARIANT (invariant_loop e o) (λ s us. refl)

  pub for_first : (ts us : Tokens) (x : Lexeme) (n : ℕ) → ts ≡ x ∷ us → x.kind ≡ k.Fixed n → n ≡ FOR
      → stmt e o ts ≡ counted e o x.span us
  unfolding stmt r.block_stmt r.word_stmt
  for_first = at_number FOR (counted e o) (λ s us. refl)

  pub par_first : (ts us : Tokens) (x : Lexeme) (n : ℕ) → ts ≡ x ∷ us → x.kind ≡ k.Fixed n → n ≡ PAR
      → stmt e o ts ≡ parallel e o x.span us
  unfolding stmt r.block_stmt r.word_stmt
  par_first = at_number PAR (parallel e o) (λ s us. refl)

  pub barrier_first : (ts us : Tokens) (x : Lexeme) (n : ℕ) → ts ≡ x ∷ us → x.kind ≡ k.Fixed n → n ≡ BARRIER
      → stmt e o ts ≡ barrier e o x.span us
  unfolding stmt r.block_stmt r.word_stmt
  barrier_first = at_number BARRIER (barrier e o) (λ s us. refl)

  pub fork_first : (ts us : Tokens) (x : Lexeme) (n : ℕ) → ts ≡ x ∷ us → x.kind ≡ k.Fixed n → n ≡ FORK
      → stmt e o ts ≡ r.action e action.Fork x.span us
  unfolding stmt r.block_stmt r.word_stmt
  fork_first = at_number FORK (r.action e action.Fork) (λ s us. refl)

  pub join_first : (ts us : Tokens) (x : Lexeme) (n : ℕ) → ts ≡ x ∷ us → x.kind ≡ k.Fixed n → n ≡ JOIN
      → stmt e o ts ≡ r.action e action.Join x.span us
  unfolding stmt r.block_stmt r.word_stmt
  join_first = at_number JOIN (r.action e action.Join) (λ s us. refl)

  pub lock_first : (ts us : Tokens) (x : Lexeme) (n : ℕ) → ts ≡ x ∷ us → x.kind ≡ k.Fixed n → n ≡ LOCK
      → stmt e o ts ≡ r.action e action.Lock x.span us
  unfolding stmt r.block_stmt r.word_stmt
  lock_first = at_number LOCK (r.action e action.Lock) (λ s us. refl)

  pub unlock_first : (ts us : Tokens) (x : Lexeme) (n : ℕ) → ts ≡ x ∷ us → x.kind ≡ k.Fixed n → n ≡ UNLOCK
      → stmt e o ts ≡ r.action e action.Unlock x.span us
  unfolding stmt r.block_stmt r.word_stmt
  unlock_first = at_number UNLOCK (r.action e action.Unlock) (λ s us. refl)

  pub commit_first : (ts us : Tokens) (x : Lexeme) (n : ℕ) → ts ≡ x ∷ us → x.kind ≡ k.Fixed n → n ≡ COMMIT
      → stmt e o ts ≡ r.action e action.Commit x.span us
  unfolding stmt r.block_stmt r.word_stmt
  commit_first = at_number COMMIT (r.action e action.Commit) (λ s us. refl)

  pub fold_first : (ts us : Tokens) (x : Lexeme) (n : ℕ) → ts ≡ x ∷ us → x.kind ≡ k.Fixed n → n ≡ FOLD
      → stmt e o ts ≡ folding e false x.span us
  unfolding stmt r.block_stmt r.word_stmt
  fold_first = at_number FOLD (folding e false) (λ s us. refl)

  pub unfold_first : (ts us : Tokens) (x : Lexeme) (n : ℕ) → ts ≡ x ∷ us → x.kind ≡ k.Fixed n → n ≡ UNFOLD
      → stmt e o ts ≡ folding e true x.span us
  unfolding stmt r.block_stmt r.word_stmt
  unfold_first = at_number UNFOLD (folding e true) (λ s us. refl)

  pub assert_first : (ts us : Tokens) (x : Lexeme) (n : ℕ) → ts ≡ x ∷ us → x.kind ≡ k.Fixed n → n ≡ ASSERT
      → stmt e o ts ≡ assertion e x.span us
  unfolding stmt r.block_stmt r.word_stmt
  assert_first = at_number ASSERT (assertion e) (λ s us. refl)

  pub send_first : (ts us : Tokens) (x : Lexeme) (n : ℕ) → ts ≡ x ∷ us → x.kind ≡ k.Fixed n → n ≡ SEND
      → stmt e o ts ≡ send e x.span us
  unfolding stmt r.block_stmt r.word_stmt
  send_first = at_number SEND (send e) (λ s us. refl)

  pub recv_first : (ts us : Tokens) (x : Lexeme) (n : ℕ) → ts ≡ x ∷ us → x.kind ≡ k.Fixed n → n ≡ RECV
      → stmt e o ts ≡ recv x.span us
  unfolding stmt r.block_stmt r.word_stmt
  recv_first = at_number RECV recv (λ s us. refl)

  pub return_first : (ts us : Tokens) (x : Lexeme) (n : ℕ) → ts ≡ x ∷ us → x.kind ≡ k.Fixed n → n ≡ RETURN
      → stmt e o ts ≡ returned e x.span us
  unfolding stmt r.block_stmt r.word_stmt
  return_first = at_number RETURN (returned e) (λ s us. refl)

  pub other_first : (ts us : Tokens) (x : Lexeme) (n : ℕ) → ts ≡ x ∷ us → x.kind ≡ k.Fixed n → IsNone n beginnings
      → stmt e o ts ≡ Bad (length ts)
  unfolding stmt r.block_stmt r.word_stmt
  other_first ts us x n t f h =
      at_first ts us x (k.Fixed n) t f ∙ none x.span us ∙ ap (λ us. Bad (length us)) (sym t)
    where
      none : (s : Span) (us : Tokens) → stmt e o (fixed_at n s ∷ us) ≡ Bad (length (x ∷ us))
      none s us =
          rw (
            ne_eqb n THIS h.0,
            ne_eqb n INT h.1.0,
            ne_eqb n BOOLEAN h.1.1.0,
            ne_eqb n BOOL h.1.1.1.0,
            ne_eqb n IF h.1.1.1.1.0,
            ne_eqb n WHILE h.1.1.1.1.1.0,
            ne_eqb n LOOP_INVARIANT h.1.1.1.1.1.1.0,
            ne_eqb n FOR h.1.1.1.1.1.1.1.0,
            ne_eqb n PAR h.1.1.1.1.1.1.1.1.0,
            ne_eqb n BARRIER h.1.1.1.1.1.1.1.1.1.0,
            ne_eqb n FORK h.1.1.1.1.1.1.1.1.1.1.0,
            ne_eqb n JOIN h.1.1.1.1.1.1.1.1.1.1.1.0,
            ne_eqb n LOCK h.1.1.1.1.1.1.1.1.1.1.1.1.0,
            ne_eqb n UNLOCK h.1.1.1.1.1.1.1.1.1.1.1.1.1.0,
            ne_eqb n COMMIT h.1.1.1.1.1.1.1.1.1.1.1.1.1.1.0,
            ne_eqb n FOLD h.1.1.1.1.1.1.1.1.1.1.1.1.1.1.1.0,
            ne_eqb n UNFOLD h.1.1.1.1.1.1.1.1.1.1.1.1.1.1.1.1.0,
            ne_eqb n ASSERT h.1.1.1.1.1.1.1.1.1.1.1.1.1.1.1.1.1.0,
            ne_eqb n SEND h.1.1.1.1.1.1.1.1.1.1.1.1.1.1.1.1.1.1.0,
            ne_eqb n RECV h.1.1.1.1.1.1.1.1.1.1.1.1.1.1.1.1.1.1.1.0,
            ne_eqb n RETURN h.1.1.1.1.1.1.1.1.1.1.1.1.1.1.1.1.1.1.1.1.0,
          ) refl
