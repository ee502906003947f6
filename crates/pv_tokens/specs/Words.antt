-- The reserved words and the symbols, each with the name of its number. The words behind a backslash and the backslash itself are
-- named where they are read.
use Rattle.std.specs.Prelude.{◌≡◌, ℕ, suc, Bool, true, ◌&&◌, List, [], ◌∷◌, map, nat_eq, codes}
use Rattle.pv_tokens.specs.declared.fixed.TheConstants.{CLASS, INT, BOOLEAN, BOOL, VOID, RESOURCE, REQUIRES, ENSURES, CONTEXT, LOOP_INVARIANT, LOCK_INVARIANT, IF, ELSE, WHILE, FOR, PAR, BARRIER, FORK, JOIN, LOCK, UNLOCK, COMMIT, FOLD, UNFOLD, ASSERT, SEND, RECV, RETURN, NEW, NULL, THIS, TRUE, FALSE, PERM, WRITE, IDLE, RUNNING, COMMITTED, UNCOMMITTED, RUN, WAIT, NOTIFY, IMPLIES, STAR_STAR, EQUAL, NOT_EQUAL, AT_MOST, AT_LEAST, AND_AND, OR_OR, DOTS, OPEN_BRACE, CLOSE_BRACE, OPEN_PAREN, CLOSE_PAREN, OPEN_BRACKET, CLOSE_BRACKET, SEMICOLON, COLON, COMMA, DOT, ASSIGN, LESS, GREATER, PLUS, MINUS, STAR, BANG}

abbrev pub words : List (ℕ × List ℕ)
words =
    (CLASS, codes "class") ∷ (INT, codes "int") ∷ (BOOLEAN, codes "boolean") ∷ (BOOL, codes "bool") ∷ (VOID, codes "void")
    ∷ (RESOURCE, codes "resource") ∷ (REQUIRES, codes "requires") ∷ (ENSURES, codes "ensures") ∷ (CONTEXT, codes "context")
    ∷ (LOOP_INVARIANT, codes "loop_invariant") ∷ (LOCK_INVARIANT, codes "lock_invariant") ∷ (IF, codes "if")
    ∷ (ELSE, codes "else") ∷ (WHILE, codes "while") ∷ (FOR, codes "for") ∷ (PAR, codes "par") ∷ (BARRIER, codes "barrier")
    ∷ (FORK, codes "fork") ∷ (JOIN, codes "join") ∷ (LOCK, codes "lock") ∷ (UNLOCK, codes "unlock") ∷ (COMMIT, codes "commit")
    ∷ (FOLD, codes "fold") ∷ (UNFOLD, codes "unfold") ∷ (ASSERT, codes "assert") ∷ (SEND, codes "send") ∷ (RECV, codes "recv")
    ∷ (RETURN, codes "return") ∷ (NEW, codes "new") ∷ (NULL, codes "null") ∷ (THIS, codes "this") ∷ (TRUE, codes "true")
    ∷ (FALSE, codes "false") ∷ (PERM, codes "Perm") ∷ (WRITE, codes "write") ∷ (IDLE, codes "idle")
    ∷ (RUNNING, codes "running") ∷ (COMMITTED, codes "committed") ∷ (UNCOMMITTED, codes "uncommitted") ∷ (RUN, codes "run")
    ∷ (WAIT, codes "wait") ∷ (NOTIFY, codes "notify") ∷ []

-- the symbols but for the backslash, longer ones first
abbrev pub signs : List (ℕ × List ℕ)
signs =
    (IMPLIES, codes "==>") ∷ (STAR_STAR, codes "**") ∷ (EQUAL, codes "==") ∷ (NOT_EQUAL, codes "!=") ∷ (AT_MOST, codes "<=")
    ∷ (AT_LEAST, codes ">=") ∷ (AND_AND, codes "&&") ∷ (OR_OR, codes "||") ∷ (DOTS, codes "..") ∷ (OPEN_BRACE, codes "{")
    ∷ (CLOSE_BRACE, codes "}") ∷ (OPEN_PAREN, codes "(") ∷ (CLOSE_PAREN, codes ")") ∷ (OPEN_BRACKET, codes "[")
    ∷ (CLOSE_BRACKET, codes "]") ∷ (SEMICOLON, codes ";") ∷ (COLON, codes ":") ∷ (COMMA, codes ",") ∷ (DOT, codes ".")
    ∷ (ASSIGN, codes "=") ∷ (LESS, codes "<") ∷ (GREATER, codes ">") ∷ (PLUS, codes "+") ∷ (MINUS, codes "-")
    ∷ (STAR, codes "*") ∷ (BANG, codes "!") ∷ []

abbrev pub texts : List (ℕ × List ℕ) → List (List ℕ)
texts table = map (λ x. x.1) table

abbrev pub reserved : List (List ℕ)
reserved = texts words

abbrev pub symbols : List (List ℕ)
symbols = texts signs

-- the numbers of a table count on from n
abbrev pub counts_from : ℕ → List (ℕ × List ℕ) → Bool
counts_from n [] = true
counts_from n (x ∷ table) = nat_eq x.0 n && counts_from (suc n) table

-- each reserved word has the number of its place, and the symbols are numbered on from `==>`
abbrev pub NumbersArePlaces : Type 0
NumbersArePlaces = (counts_from CLASS words ≡ true) × (counts_from IMPLIES signs ≡ true)
