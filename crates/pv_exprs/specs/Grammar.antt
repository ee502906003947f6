-- The grammar of expressions and formulas. Each fact says that tokens, up to a rest of them, spell a tree. Beside each token
-- stands the depth that is reached with it. These constructs count: each bracket; each `!` and each `-` as a sign, up to the
-- end of what they stand before; each `==>`; each operator between two parts, up to the end of its chain; each step to a
-- field or an element, up to the end of the steps.
use Rattle.std.specs.Prelude.{ℕ, suc, ◌≡◌, List, [], ◌∷◌, Option, Some, None, Bool, true, false}
use Rattle.pv_base.specs.declared.Span.{Span}
use Rattle.pv_tokens.specs.declared.Lexeme.{Lexeme}
use Rattle.pv_tokens.specs.declared.fixed.TheConstants.{NULL, THIS, TRUE, FALSE, PERM, WRITE, INT, RESULT, OLD, IMPLIES, DOTS, OPEN_PAREN, CLOSE_PAREN, OPEN_BRACKET, CLOSE_BRACKET, SEMICOLON, COMMA, DOT, ASSIGN, LESS, AT_MOST, AND_AND, BACKSLASH, BANG, MINUS}
use Rattle.pv_ast.specs.declared.Word.{Word}
use Rattle.pv_ast.specs.declared.Operator.{Operator}
use Rattle.pv_ast.specs.declared.Operator.TheVariants as op
use Rattle.pv_ast.specs.declared.Token.{Token}
use Rattle.pv_ast.specs.declared.Expr.{Expr}
use Rattle.pv_ast.specs.declared.ExprKind.TheVariants as e
use Rattle.pv_reading.specs.Marks.{Marked, fixed_at, word_at, number_at, across}
use Rattle.pv_exprs.specs.declared.level.Mode.{Mode}
use Rattle.pv_exprs.specs.declared.level.Mode.TheVariants.{Program, Logic}
use Rattle.pv_exprs.specs.declared.level.Level.{Level}
use Rattle.pv_exprs.specs.declared.level.Level.TheVariants.{Separation, Disjunction, Comparison}
use Rattle.pv_exprs.specs.declared.part.Part.{Part}
use Rattle.pv_exprs.specs.declared.part.Chain.{Chain}
use Rattle.pv_exprs.specs.declared.part.Chain.TheVariants.{Named, Other}
use Rattle.pv_exprs.specs.declared.part.Amount.{Amount}
use Rattle.pv_exprs.specs.declared.part.Bounds.{Bounds}
use Rattle.pv_exprs.specs.Operators.{operator_of, repeats, tighter, token_of, forall_of}
use Rattle.pv_exprs.specs.Trees.{node, joined, negated, signed, widened, element_of, part_of, instance_of, old_of, perm_of, token_part, each_of}

-- amount = "write" | NUMBER "\" NUMBER
pub data IsAmount : ℕ → Marked → Amount → Marked → Type 0 where
  write : {d : ℕ} {s : Span} {us : Marked}
      → IsAmount d ((fixed_at WRITE s, d) ∷ us) (record { parts = 1; whole = 1; span = s }) us
  parts : {d n m : ℕ} {s q r : Span} {us : Marked}
      → IsAmount d ((number_at n s, d) ∷ (fixed_at BACKSLASH q, d) ∷ (number_at m r, d) ∷ us)
      (record { parts = n; whole = m; span = across s r }) us

mutual
  -- expr, and, eq, rel, sum, prod: parts of the next tighter level, joined by the operators of this one.
  -- `expr` is what is joined at the level Disjunction, `sum` what is joined at the level Sum.
  pub data IsJoined : Mode → Level → ℕ → Marked → Part → Marked → Type 0 where
    parts : {m : Mode} {l : Level} {d : ℕ} {ts us vs : Marked} {a b : Part} → IsOperand m l d ts a us → JoinedFrom m l d a us b vs
        → IsJoined m l d ts b vs

  -- what follows the chain so far
  pub data JoinedFrom : Mode → Level → ℕ → Part → Marked → Part → Marked → Type 0 where
    no_more : {m : Mode} {l : Level} {d : ℕ} {us : Marked} {a : Part} → JoinedFrom m l d a us a us
    one_more : {m : Mode} {l : Level} {d : ℕ} {x : Lexeme} {o : Operator} {us vs ws : Marked} {a b c : Part}
        → operator_of l x.kind ≡ Some o → IsOperand m l (suc d) us b vs → JoinedOnly m l (suc d) (joined o a b) vs c ws
        → JoinedFrom m l d a ((x, suc d) ∷ us) c ws

  -- what follows an operator and its part: more of the chain, where more than one operator may stand in it
  pub data JoinedOnly : Mode → Level → ℕ → Part → Marked → Part → Marked → Type 0 where
    last : {m : Mode} {l : Level} {d : ℕ} {us : Marked} {a : Part} → repeats l ≡ false → JoinedOnly m l d a us a us
    more : {m : Mode} {l : Level} {d : ℕ} {us vs : Marked} {a b : Part} → repeats l ≡ true → JoinedFrom m l d a us b vs
        → JoinedOnly m l d a us b vs

  pub data IsOperand : Mode → Level → ℕ → Marked → Part → Marked → Type 0 where
    level : {m : Mode} {l k : Level} {d : ℕ} {us vs : Marked} {a : Part} → tighter l ≡ Some k → IsJoined m k d us a vs
        → IsOperand m l d us a vs
    unary : {m : Mode} {l : Level} {d : ℕ} {us vs : Marked} {a : Part} → tighter l ≡ None → IsUnary m d us a vs
        → IsOperand m l d us a vs

  -- unary = { "!" | "-" } post
  pub data IsUnary : Mode → ℕ → Marked → Part → Marked → Type 0 where
    not : {m : Mode} {d : ℕ} {s : Span} {us vs : Marked} {a : Part} → IsUnary m (suc d) us a vs
        → IsUnary m d ((fixed_at BANG s, suc d) ∷ us) (negated s a) vs
    minus : {m : Mode} {d : ℕ} {s : Span} {us vs : Marked} {a : Part} → IsUnary m (suc d) us a vs
        → IsUnary m d ((fixed_at MINUS s, suc d) ∷ us) (signed s a) vs
    plain : {m : Mode} {d : ℕ} {us vs : Marked} {a : Part} → IsPost m d us a vs → IsUnary m d us a vs

  -- post = atom { "." NAME | "[" expr "]" }
  pub data IsPost : Mode → ℕ → Marked → Part → Marked → Type 0 where
    post : {m : Mode} {d : ℕ} {ts us vs : Marked} {a b : Chain} → IsAtom m d ts a us → StepsFrom m d a us b vs
        → IsPost m d ts (part_of b) vs

  -- { "." NAME | "[" expr "]" }: what follows the chain so far
  pub data StepsFrom : Mode → ℕ → Chain → Marked → Chain → Marked → Type 0 where
    no_steps : {m : Mode} {d : ℕ} {us : Marked} {a : Chain} → StepsFrom m d a us a us
    some_steps : {m : Mode} {d : ℕ} {us vs : Marked} {a b : Chain} → SomeSteps m d a us b vs → StepsFrom m d a us b vs

  -- the same, with one step at least
  pub data SomeSteps : Mode → ℕ → Chain → Marked → Chain → Marked → Type 0 where
    field : {m : Mode} {d : ℕ} {s : Span} {w : Word} {us vs : Marked} {a b : Chain}
        → StepsFrom m (suc d) (Named (Some (part_of a)) w) us b vs
        → SomeSteps m d a ((fixed_at DOT s, suc d) ∷ (word_at w, suc d) ∷ us) b vs
    element : {m : Mode} {d : ℕ} {s r : Span} {us vs ws : Marked} {i : Part} {a b : Chain}
        → IsJoined m Disjunction (suc (suc d)) us i ((fixed_at CLOSE_BRACKET r, suc (suc d)) ∷ vs)
        → StepsFrom m (suc d) (Other (element_of (part_of a) i r)) vs b ws
        → SomeSteps m d a ((fixed_at OPEN_BRACKET s, suc (suc d)) ∷ us) b ws

  -- target = NAME | chain "." NAME, with chain = ( NAME | "this" ) { "." NAME | "[" expr "]" }
  pub data IsTarget : Mode → ℕ → Marked → Option Part → Word → Marked → Type 0 where
    from_name : {m : Mode} {d : ℕ} {v w : Word} {us vs : Marked} {a : Option Part}
        → StepsFrom m d (Named None v) us (Named a w) vs → IsTarget m d ((word_at v, d) ∷ us) a w vs
    from_this : {m : Mode} {d : ℕ} {s : Span} {w : Word} {us vs : Marked} {a : Option Part}
        → StepsFrom m d (Other (node s e.This)) us (Named a w) vs → IsTarget m d ((fixed_at THIS s, d) ∷ us) a w vs

  -- "(" [ expr { "," expr } ] ")", with the place of its last token
  pub data IsArgs : Mode → ℕ → Marked → List Expr → Span → Marked → Type 0 where
    no_args : {m : Mode} {d : ℕ} {s r : Span} {us : Marked}
        → IsArgs m d ((fixed_at OPEN_PAREN s, suc d) ∷ (fixed_at CLOSE_PAREN r, suc d) ∷ us) [] r us
    args : {m : Mode} {d : ℕ} {s r : Span} {us vs : Marked} {xs : List Expr}
        → IsExprs m (suc d) us xs r vs → IsArgs m d ((fixed_at OPEN_PAREN s, suc d) ∷ us) xs r vs

  -- expr { "," expr } ")"
  pub data IsExprs : Mode → ℕ → Marked → List Expr → Span → Marked → Type 0 where
    last_arg : {m : Mode} {d : ℕ} {r : Span} {us vs : Marked} {a : Part}
        → IsJoined m Disjunction d us a ((fixed_at CLOSE_PAREN r, d) ∷ vs) → IsExprs m d us (a.tree ∷ []) r vs
    next_arg : {m : Mode} {d : ℕ} {s r : Span} {us vs ws : Marked} {a : Part} {xs : List Expr}
        → IsJoined m Disjunction d us a ((fixed_at COMMA s, d) ∷ vs) → IsExprs m d vs xs r ws → IsExprs m d us (a.tree ∷ xs) r ws

  -- atom = NUMBER | "true" | "false" | "null" | "this" | NAME | "(" expr ")", and in a formula
  -- atom = "\result" | "\old" "(" expr ")" | target "(" [ args ] ")" | "Perm" "(" post "," amount ")"
  --      | ( "idle" | "running" | "committed" | "uncommitted" ) "(" expr ")"
  --      | "(" ( "\forall*" | "\forall" ) "int" NAME bounds ";" formula ")"
  --      | "(" formula ")" in place of "(" expr ")"
  pub data IsAtom : Mode → ℕ → Marked → Chain → Marked → Type 0 where
    number : {m : Mode} {d n : ℕ} {s : Span} {us : Marked} → IsAtom m d ((number_at n s, d) ∷ us) (Other (node s (e.Number n))) us
    true_word : {m : Mode} {d : ℕ} {s : Span} {us : Marked}
        → IsAtom m d ((fixed_at TRUE s, d) ∷ us) (Other (node s (e.Truth true))) us
    false_word : {m : Mode} {d : ℕ} {s : Span} {us : Marked}
        → IsAtom m d ((fixed_at FALSE s, d) ∷ us) (Other (node s (e.Truth false))) us
    null_word : {m : Mode} {d : ℕ} {s : Span} {us : Marked} → IsAtom m d ((fixed_at NULL s, d) ∷ us) (Other (node s e.Null)) us
    this_word : {m : Mode} {d : ℕ} {s : Span} {us : Marked} → IsAtom m d ((fixed_at THIS s, d) ∷ us) (Other (node s e.This)) us
    name : {m : Mode} {d : ℕ} {w : Word} {us : Marked} → IsAtom m d ((word_at w, d) ∷ us) (Named None w) us
    group : {d : ℕ} {s r : Span} {us vs : Marked} {a : Part}
        → IsJoined Program Disjunction (suc d) us a ((fixed_at CLOSE_PAREN r, suc d) ∷ vs)
        → IsAtom Program d ((fixed_at OPEN_PAREN s, suc d) ∷ us) (Other (widened s r a)) vs
    formula_group : {d : ℕ} {s r : Span} {us vs : Marked} {a : Part}
        → IsFormula (suc d) us a ((fixed_at CLOSE_PAREN r, suc d) ∷ vs)
        → IsAtom Logic d ((fixed_at OPEN_PAREN s, suc d) ∷ us) (Other (widened s r a)) vs
    result_word : {d : ℕ} {s : Span} {us : Marked} → IsAtom Logic d ((fixed_at RESULT s, d) ∷ us) (Other (node s e.Result)) us
    old : {d : ℕ} {s q r : Span} {us vs : Marked} {a : Part}
        → IsJoined Logic Disjunction (suc d) us a ((fixed_at CLOSE_PAREN r, suc d) ∷ vs)
        → IsAtom Logic d ((fixed_at OLD s, d) ∷ (fixed_at OPEN_PAREN q, suc d) ∷ us) (Other (old_of s a r)) vs
    instance : {d : ℕ} {r : Span} {w : Word} {us vs ws : Marked} {a : Option Part} {xs : List Expr}
        → IsTarget Logic d us a w vs → IsArgs Logic d vs xs r ws → IsAtom Logic d us (Other (instance_of a w xs r)) ws
    perm : {d : ℕ} {s q c r : Span} {x : Amount} {us vs ws : Marked} {a : Part}
        → IsPost Logic (suc d) us a ((fixed_at COMMA c, suc d) ∷ vs)
        → IsAmount (suc d) vs x ((fixed_at CLOSE_PAREN r, suc d) ∷ ws)
        → IsAtom Logic d ((fixed_at PERM s, d) ∷ (fixed_at OPEN_PAREN q, suc d) ∷ us) (Other (perm_of s a x r)) ws
    token : {d : ℕ} {y : Lexeme} {t : Token} {q r : Span} {us vs : Marked} {a : Part}
        → token_of y.kind ≡ Some t → IsJoined Logic Disjunction (suc d) us a ((fixed_at CLOSE_PAREN r, suc d) ∷ vs)
        → IsAtom Logic d ((y, d) ∷ (fixed_at OPEN_PAREN q, suc d) ∷ us) (Other (token_part t y.span a r)) vs
    each : {d : ℕ} {s i c r : Span} {y : Lexeme} {star : Bool} {w : Word} {b : Bounds} {us vs ws : Marked} {a : Part}
        → forall_of y.kind ≡ Some star → HasBounds (suc d) us b ((fixed_at SEMICOLON c, suc d) ∷ vs)
        → IsFormula (suc d) vs a ((fixed_at CLOSE_PAREN r, suc d) ∷ ws)
        → IsAtom Logic d ((fixed_at OPEN_PAREN s, suc d) ∷ (y, suc d) ∷ (fixed_at INT i, suc d) ∷ (word_at w, suc d) ∷ us)
        (Other (each_of star s w b a r)) ws

  -- bounds = "=" expr ".." expr | ";" sum "<=" NAME "&&" NAME "<" sum
  pub data HasBounds : ℕ → Marked → Bounds → Marked → Type 0 where
    range : {d : ℕ} {s q : Span} {us vs ws : Marked} {a b : Part}
        → IsJoined Logic Disjunction d us a ((fixed_at DOTS q, d) ∷ vs) → IsJoined Logic Disjunction d vs b ws
        → HasBounds d ((fixed_at ASSIGN s, d) ∷ us) (record { low = a; high = b; written = None }) ws
    written : {d : ℕ} {s q r t : Span} {v w : Word} {us vs ws : Marked} {a b : Part}
        → IsOperand Logic Comparison d us a
        ((fixed_at AT_MOST q, d) ∷ (word_at v, d) ∷ (fixed_at AND_AND r, d) ∷ (word_at w, d) ∷ (fixed_at LESS t, d) ∷ vs)
        → IsOperand Logic Comparison d vs b ws
        → HasBounds d ((fixed_at SEMICOLON s, d) ∷ us) (record { low = a; high = b; written = Some (v, w) }) ws

  -- formula = level [ "==>" formula ], level = and { "||" and } | and { "**" and }
  pub data IsFormula : ℕ → Marked → Part → Marked → Type 0 where
    formula : {d : ℕ} {ts us vs : Marked} {a b : Part} → IsLevel d ts a us → ImpliesFrom d a us b vs → IsFormula d ts b vs

  pub data IsLevel : ℕ → Marked → Part → Marked → Type 0 where
    disjunction : {d : ℕ} {us vs : Marked} {a : Part} → IsJoined Logic Disjunction d us a vs → IsLevel d us a vs
    separation : {d : ℕ} {us vs : Marked} {a : Part} → IsJoined Logic Separation d us a vs → IsLevel d us a vs

  pub data ImpliesFrom : ℕ → Part → Marked → Part → Marked → Type 0 where
    no_implies : {d : ℕ} {us : Marked} {a : Part} → ImpliesFrom d a us a us
    implies : {d : ℕ} {s : Span} {us vs : Marked} {a b : Part}
        → IsFormula (suc d) us b vs → ImpliesFrom d a ((fixed_at IMPLIES s, suc d) ∷ us) (joined op.Implies a b) vs

abbrev pub IsExpr : Mode → ℕ → Marked → Part → Marked → Type 0
IsExpr m = IsJoined m Disjunction
