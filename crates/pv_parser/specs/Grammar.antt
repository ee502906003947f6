-- The grammar of programs. Beside each token stands the depth that is reached with it. Besides the constructs that count in
-- expressions, an `else` before an `if` counts, from the `if` on up to its end.
use Rattle.std.specs.Prelude.{ℕ, suc, ◌≡◌, List, [], ◌∷◌, Option, Some, None, Bool}
use Rattle.pv_base.specs.declared.Name.{Name}
use Rattle.pv_base.specs.declared.Span.{Span}
use Rattle.pv_tokens.specs.declared.Lexeme.{Lexeme}
use Rattle.pv_tokens.specs.declared.fixed.TheConstants.{CLASS, INT, VOID, RESOURCE, LOOP_INVARIANT, LOCK_INVARIANT, IF, ELSE, WHILE, FOR, PAR, BARRIER, ASSERT, SEND, RECV, RETURN, NEW, THIS, RUN, DOTS, OPEN_BRACE, CLOSE_BRACE, OPEN_PAREN, CLOSE_PAREN, OPEN_BRACKET, CLOSE_BRACKET, SEMICOLON, COLON, COMMA, ASSIGN}
use Rattle.pv_ast.specs.declared.Word.{Word}
use Rattle.pv_ast.specs.declared.TypeWord.{TypeWord}
use Rattle.pv_ast.specs.declared.Expr.{Expr}
use Rattle.pv_ast.specs.declared.ExprKind.TheVariants as e
use Rattle.pv_ast.specs.declared.Right.{Right}
use Rattle.pv_ast.specs.declared.Range.{Range}
use Rattle.pv_ast.specs.declared.Clause.{Clause}
use Rattle.pv_ast.specs.declared.Stmt.{Stmt}
use Rattle.pv_ast.specs.declared.Param.{Param}
use Rattle.pv_ast.specs.declared.Member.{Member}
use Rattle.pv_ast.specs.declared.Member.TheVariants as member
use Rattle.pv_ast.specs.declared.Class.{Class}
use Rattle.pv_ast.specs.declared.Program.{Program}
use Rattle.pv_reading.specs.Marks.{Marked, plain, begins_at, fixed_at, word_at, number_at}
use Rattle.pv_exprs.specs.declared.part.Part.{Part}
use Rattle.pv_exprs.specs.declared.part.Chain.{Chain}
use Rattle.pv_exprs.specs.declared.part.Chain.TheVariants.{Named, Other}
use Rattle.pv_exprs.specs.declared.level.Mode.TheVariants.{Program as in_program}
use Rattle.pv_exprs.specs.Trees.{node, part_of}
use Rattle.pv_exprs.specs.Grammar.{IsExpr, IsFormula, StepsFrom, SomeSteps, IsTarget, IsArgs}
use Rattle.pv_clauses.specs.Grammar.{IsClauses}
use Rattle.pv_parser.specs.declared.words.Base.{Base}
use Rattle.pv_parser.specs.declared.words.Action.{Action}
use Rattle.pv_parser.specs.Words.{base_of, action_of, folding_of}
use Rattle.pv_parser.specs.Trees.{plain_type, array_type, class_type, param_of, value_of, called, new_object, new_array, range_of, local_stmt, assign_stmt, call_stmt, if_stmt, while_stmt, for_stmt, par_stmt, barrier_stmt, action_stmt, folding_stmt, assert_stmt, send_stmt, recv_stmt, return_stmt, predicate_of, method_of, run_of, class_at, program_of}

-- type = base [ "[" "]" ] | NAME
pub data IsType : ℕ → Marked → TypeWord → Marked → Type 0 where
  base : {d : ℕ} {x : Lexeme} {b : Base} {us : Marked} → base_of x.kind ≡ Some b → IsType d ((x, d) ∷ us) (plain_type b x.span) us
  array : {d : ℕ} {x : Lexeme} {b : Base} {q r : Span} {us : Marked}
      → base_of x.kind ≡ Some b
      → IsType d ((x, d) ∷ (fixed_at OPEN_BRACKET q, suc d) ∷ (fixed_at CLOSE_BRACKET r, suc d) ∷ us) (array_type b x.span r) us
  object : {d : ℕ} {w : Word} {us : Marked} → IsType d ((word_at w, d) ∷ us) (class_type w) us

-- params ")", with params = type NAME { "," type NAME }
pub data IsParamList : ℕ → Marked → List Param → Marked → Type 0 where
  last_param : {d : ℕ} {t : TypeWord} {w : Word} {r : Span} {us vs : Marked}
      → IsType d us t ((word_at w, d) ∷ (fixed_at CLOSE_PAREN r, d) ∷ vs) → IsParamList d us (param_of t w ∷ []) vs
  next_param : {d : ℕ} {t : TypeWord} {w : Word} {s : Span} {us vs ws : Marked} {ps : List Param}
      → IsType d us t ((word_at w, d) ∷ (fixed_at COMMA s, d) ∷ vs) → IsParamList d vs ps ws
      → IsParamList d us (param_of t w ∷ ps) ws

-- "(" [ params ] ")"
pub data IsParams : ℕ → Marked → List Param → Marked → Type 0 where
  no_params : {d : ℕ} {s r : Span} {us : Marked}
      → IsParams d ((fixed_at OPEN_PAREN s, suc d) ∷ (fixed_at CLOSE_PAREN r, suc d) ∷ us) [] us
  params : {d : ℕ} {s : Span} {us vs : Marked} {ps : List Param} → IsParamList (suc d) us ps vs
      → IsParams d ((fixed_at OPEN_PAREN s, suc d) ∷ us) ps vs

-- right = expr | target "(" [ args ] ")" | "new" NAME "(" ")" | "new" base "[" expr "]"
pub data IsRight : ℕ → Marked → Right → Marked → Type 0 where
  value : {d : ℕ} {us vs : Marked} {a : Part} → IsExpr in_program d us a vs → IsRight d us (value_of a) vs
  call_value : {d : ℕ} {w : Word} {r : Span} {us vs ws : Marked} {a : Option Part} {xs : List Expr}
      → IsTarget in_program d us a w vs → IsArgs in_program d vs xs r ws → IsRight d us (called a w xs r) ws
  object_value : {d : ℕ} {s q r : Span} {w : Word} {us : Marked}
      → IsRight d ((fixed_at NEW s, d) ∷ (word_at w, d) ∷ (fixed_at OPEN_PAREN q, suc d) ∷ (fixed_at CLOSE_PAREN r, suc d) ∷ us)
      (new_object s w r) us
  array_value : {d : ℕ} {s q r : Span} {x : Lexeme} {b : Base} {us vs : Marked} {a : Part}
      → base_of x.kind ≡ Some b → IsExpr in_program (suc d) us a ((fixed_at CLOSE_BRACKET r, suc d) ∷ vs)
      → IsRight d ((fixed_at NEW s, d) ∷ (x, d) ∷ (fixed_at OPEN_BRACKET q, suc d) ∷ us)
      (new_array s (plain_type b x.span) a r) vs

-- place = NAME | chain "." NAME | chain "[" expr "]"
pub data IsPlace : ℕ → Marked → Part → Marked → Type 0 where
  name_place : {d : ℕ} {w : Word} {us vs : Marked} {b : Chain} → StepsFrom in_program d (Named None w) us b vs
      → IsPlace d ((word_at w, d) ∷ us) (part_of b) vs
  this_place : {d : ℕ} {s : Span} {us vs : Marked} {b : Chain} → SomeSteps in_program d (Other (node s e.This)) us b vs
      → IsPlace d ((fixed_at THIS s, d) ∷ us) (part_of b) vs

-- "(" "int" NAME "=" expr ".." expr ")"
pub data IsRange : ℕ → Marked → Range → Marked → Type 0 where
  range : {d : ℕ} {s i q t r : Span} {w : Word} {us vs ws : Marked} {a b : Part}
      → IsExpr in_program (suc d) us a ((fixed_at DOTS t, suc d) ∷ vs)
      → IsExpr in_program (suc d) vs b ((fixed_at CLOSE_PAREN r, suc d) ∷ ws)
      → IsRange d
      ((fixed_at OPEN_PAREN s, suc d) ∷ (fixed_at INT i, suc d) ∷ (word_at w, suc d) ∷ (fixed_at ASSIGN q, suc d) ∷ us)
      (range_of w a b) ws

-- "(" expr ")"
pub data IsCondition : ℕ → Marked → Part → Marked → Type 0 where
  condition : {d : ℕ} {s r : Span} {us vs : Marked} {c : Part}
      → IsExpr in_program (suc d) us c ((fixed_at CLOSE_PAREN r, suc d) ∷ vs)
      → IsCondition d ((fixed_at OPEN_PAREN s, suc d) ∷ us) c vs

-- { "loop_invariant" formula ";" }
pub data IsInvariants : ℕ → Marked → List Expr → Marked → Type 0 where
  no_invariant : {d : ℕ} {us : Marked} → IsInvariants d us [] us
  invariant : {d : ℕ} {s l : Span} {us vs ws : Marked} {a : Part} {fs : List Expr}
      → IsFormula d us a ((fixed_at SEMICOLON l, d) ∷ vs) → IsInvariants d vs fs ws
      → IsInvariants d ((fixed_at LOOP_INVARIANT s, d) ∷ us) (a.tree ∷ fs) ws

-- [ NAME ]
pub data IsLabel : ℕ → Marked → Option Word → Marked → Type 0 where
  no_label : {d : ℕ} {us : Marked} → IsLabel d us None us
  label : {d : ℕ} {w : Word} {us : Marked} → IsLabel d ((word_at w, d) ∷ us) (Some w) us

mutual
  -- statement = type NAME [ "=" right ] ";" | place "=" right ";" | target "(" [ args ] ")" ";" | ifstmt
  --           | { "loop_invariant" formula ";" } "while" "(" expr ")" block | "for" "(" range ")" contract block
  --           | "par" [ NAME ] "(" range ")" contract block | "barrier" "(" NAME ")" "{" contract "}"
  --           | ( "fork" | "join" | "lock" | "unlock" | "commit" ) expr ";"
  --           | ( "fold" | "unfold" ) target "(" [ args ] ")" ";" | "assert" formula ";"
  --           | "send" NAME "," NUMBER ":" formula ";" | "recv" NAME ";" | "return" [ expr ] ";"
  pub data IsStmt : ℕ → Marked → Stmt → Marked → Type 0 where
    declared : {d : ℕ} {t : TypeWord} {w : Word} {l : Span} {us vs : Marked}
        → IsType d us t ((word_at w, d) ∷ (fixed_at SEMICOLON l, d) ∷ vs) → IsStmt d us (local_stmt t w None l) vs
    local : {d : ℕ} {t : TypeWord} {w : Word} {q l : Span} {r : Right} {us vs ws : Marked}
        → IsType d us t ((word_at w, d) ∷ (fixed_at ASSIGN q, d) ∷ vs) → IsRight d vs r ((fixed_at SEMICOLON l, d) ∷ ws)
        → IsStmt d us (local_stmt t w (Some r) l) ws
    assign : {d : ℕ} {q l : Span} {a : Part} {r : Right} {us vs ws : Marked}
        → IsPlace d us a ((fixed_at ASSIGN q, d) ∷ vs) → IsRight d vs r ((fixed_at SEMICOLON l, d) ∷ ws)
        → IsStmt d us (assign_stmt a r l) ws
    call : {d : ℕ} {w : Word} {r l : Span} {us vs ws : Marked} {a : Option Part} {xs : List Expr}
        → IsTarget in_program d us a w vs → IsArgs in_program d vs xs r ((fixed_at SEMICOLON l, d) ∷ ws)
        → IsStmt d us (call_stmt a w xs l) ws
    choice : {d : ℕ} {s : Span} {us vs : Marked} {x : Stmt} → IsChoice d s us x vs → IsStmt d ((fixed_at IF s, d) ∷ us) x vs
    repetition : {d : ℕ} {q l : Span} {us vs ws xs : Marked} {fs : List Expr} {c : Part} {b : List Stmt}
        → IsInvariants d us fs ((fixed_at WHILE q, d) ∷ vs) → IsCondition d vs c ws → IsBlock d ws b l xs
        → IsStmt d us (while_stmt (begins_at (plain us)) fs c b l) xs
    counted : {d : ℕ} {s l : Span} {us vs ws xs : Marked} {g : Range} {cs : List Clause} {b : List Stmt}
        → IsRange d us g vs → IsClauses d vs cs ws → IsBlock d ws b l xs
        → IsStmt d ((fixed_at FOR s, d) ∷ us) (for_stmt s g cs b l) xs
    parallel : {d : ℕ} {s l : Span} {n : Option Word} {us vs ws xs ys : Marked} {g : Range} {cs : List Clause} {b : List Stmt}
        → IsLabel d us n vs → IsRange d vs g ws → IsClauses d ws cs xs → IsBlock d xs b l ys
        → IsStmt d ((fixed_at PAR s, d) ∷ us) (par_stmt s n g cs b l) ys
    barrier : {d : ℕ} {s p q r l : Span} {w : Word} {us vs : Marked} {cs : List Clause}
        → IsClauses (suc d) us cs ((fixed_at CLOSE_BRACE l, suc d) ∷ vs)
        → IsStmt d ((fixed_at BARRIER s, d) ∷ (fixed_at OPEN_PAREN p, suc d) ∷ (word_at w, suc d)
        ∷ (fixed_at CLOSE_PAREN q, suc d) ∷ (fixed_at OPEN_BRACE r, suc d) ∷ us)
        (barrier_stmt s w cs l) vs
    action : {d : ℕ} {y : Lexeme} {x : Action} {l : Span} {us vs : Marked} {a : Part}
        → action_of y.kind ≡ Some x → IsExpr in_program d us a ((fixed_at SEMICOLON l, d) ∷ vs)
        → IsStmt d ((y, d) ∷ us) (action_stmt x y.span a l) vs
    folding : {d : ℕ} {y : Lexeme} {x : Bool} {w : Word} {r l : Span} {us vs ws : Marked} {a : Option Part} {xs : List Expr}
        → folding_of y.kind ≡ Some x → IsTarget in_program d us a w vs
        → IsArgs in_program d vs xs r ((fixed_at SEMICOLON l, d) ∷ ws)
        → IsStmt d ((y, d) ∷ us) (folding_stmt x y.span a w xs l) ws
    assertion : {d : ℕ} {s l : Span} {us vs : Marked} {a : Part} → IsFormula d us a ((fixed_at SEMICOLON l, d) ∷ vs)
        → IsStmt d ((fixed_at ASSERT s, d) ∷ us) (assert_stmt s a l) vs
    send : {d n : ℕ} {s c m t l : Span} {w : Word} {us vs : Marked} {a : Part} → IsFormula d us a ((fixed_at SEMICOLON l, d) ∷ vs)
        → IsStmt d
        ((fixed_at SEND s, d) ∷ (word_at w, d) ∷ (fixed_at COMMA c, d) ∷ (number_at n m, d) ∷ (fixed_at COLON t, d) ∷ us)
        (send_stmt s w n a l) vs
    recv : {d : ℕ} {s l : Span} {w : Word} {us : Marked}
        → IsStmt d ((fixed_at RECV s, d) ∷ (word_at w, d) ∷ (fixed_at SEMICOLON l, d) ∷ us) (recv_stmt s w l) us
    return_none : {d : ℕ} {s l : Span} {us : Marked}
        → IsStmt d ((fixed_at RETURN s, d) ∷ (fixed_at SEMICOLON l, d) ∷ us) (return_stmt s None l) us
    return_value : {d : ℕ} {s l : Span} {us vs : Marked} {a : Part}
        → IsExpr in_program d us a ((fixed_at SEMICOLON l, d) ∷ vs)
        → IsStmt d ((fixed_at RETURN s, d) ∷ us) (return_stmt s (Some a.tree) l) vs

  -- ifstmt = "if" "(" expr ")" block [ "else" ( block | ifstmt ) ]: what stands behind the `if` at s
  pub data IsChoice : ℕ → Span → Marked → Stmt → Marked → Type 0 where
    chosen : {d : ℕ} {s l : Span} {us vs ws xs : Marked} {c : Part} {b : List Stmt} {x : Stmt}
        → IsCondition d us c vs → IsBlock d vs b l ws → ElseFrom d s c b l ws x xs → IsChoice d s us x xs

  -- what follows the first block, which ends at l
  pub data ElseFrom : ℕ → Span → Part → List Stmt → Span → Marked → Stmt → Marked → Type 0 where
    no_else : {d : ℕ} {s l : Span} {us : Marked} {c : Part} {b : List Stmt} → ElseFrom d s c b l us (if_stmt s c b [] l) us
    else_block : {d : ℕ} {s l r m : Span} {us vs : Marked} {c : Part} {b x : List Stmt}
        → IsBlock d us x m vs → ElseFrom d s c b l ((fixed_at ELSE r, d) ∷ us) (if_stmt s c b x m) vs
    else_if : {d : ℕ} {s l r i : Span} {us vs : Marked} {c : Part} {b : List Stmt} {x : Stmt}
        → IsChoice (suc d) i us x vs
        → ElseFrom d s c b l ((fixed_at ELSE r, d) ∷ (fixed_at IF i, suc d) ∷ us) (if_stmt s c b (x ∷ []) x.span) vs

  -- block = "{" { statement } "}", with the place of its last token
  pub data IsBlock : ℕ → Marked → List Stmt → Span → Marked → Type 0 where
    block : {d : ℕ} {s l : Span} {us vs : Marked} {b : List Stmt} → IsStmts (suc d) us b l vs
        → IsBlock d ((fixed_at OPEN_BRACE s, suc d) ∷ us) b l vs

  -- { statement } "}"
  pub data IsStmts : ℕ → Marked → List Stmt → Span → Marked → Type 0 where
    no_stmt : {d : ℕ} {l : Span} {us : Marked} → IsStmts d ((fixed_at CLOSE_BRACE l, d) ∷ us) [] l us
    next_stmt : {d : ℕ} {l : Span} {us vs ws : Marked} {x : Stmt} {b : List Stmt} → IsStmt d us x vs → IsStmts d vs b l ws
        → IsStmts d us (x ∷ b) l ws

-- type | "void"
pub data IsResult : ℕ → Marked → Option TypeWord → Marked → Type 0 where
  result : {d : ℕ} {t : TypeWord} {us vs : Marked} → IsType d us t vs → IsResult d us (Some t) vs
  no_result : {d : ℕ} {s : Span} {us : Marked} → IsResult d ((fixed_at VOID s, d) ∷ us) None us

-- member = type NAME ";" | "resource" NAME "(" [ params ] ")" "=" formula ";"
--        | contract ( type | "void" ) NAME "(" [ params ] ")" block | contract "run" block
pub data IsMember : ℕ → Marked → Member → Marked → Type 0 where
  field : {d : ℕ} {t : TypeWord} {w : Word} {l : Span} {us vs : Marked}
      → IsType d us t ((word_at w, d) ∷ (fixed_at SEMICOLON l, d) ∷ vs) → IsMember d us (member.Field (param_of t w)) vs
  predicate : {d : ℕ} {s q l : Span} {w : Word} {us vs ws : Marked} {ps : List Param} {a : Part}
      → IsParams d us ps ((fixed_at ASSIGN q, d) ∷ vs) → IsFormula d vs a ((fixed_at SEMICOLON l, d) ∷ ws)
      → IsMember d ((fixed_at RESOURCE s, d) ∷ (word_at w, d) ∷ us) (predicate_of s w ps a l) ws
  method : {d : ℕ} {l : Span} {w : Word} {t : Option TypeWord} {us vs ws xs ys : Marked} {cs : List Clause} {ps : List Param}
      {b : List Stmt}
      → IsClauses d us cs vs → IsResult d vs t ((word_at w, d) ∷ ws) → IsParams d ws ps xs → IsBlock d xs b l ys
      → IsMember d us (method_of (begins_at (plain us)) cs t w ps b l) ys
  run : {d : ℕ} {r l : Span} {us vs ws : Marked} {cs : List Clause} {b : List Stmt}
      → IsClauses d us cs ((fixed_at RUN r, d) ∷ vs) → IsBlock d vs b l ws
      → IsMember d us (run_of (begins_at (plain us)) cs r b l) ws

-- { member } "}"
pub data IsMembers : ℕ → Marked → List Member → Span → Marked → Type 0 where
  no_member : {d : ℕ} {l : Span} {us : Marked} → IsMembers d ((fixed_at CLOSE_BRACE l, d) ∷ us) [] l us
  next_member : {d : ℕ} {l : Span} {us vs ws : Marked} {x : Member} {ms : List Member} → IsMember d us x vs
      → IsMembers d vs ms l ws → IsMembers d us (x ∷ ms) l ws

-- class = [ "lock_invariant" formula ";" ] "class" NAME "{" { member } "}"
pub data IsClass : ℕ → Marked → Class → Marked → Type 0 where
  plain_class : {d : ℕ} {s q l : Span} {w : Word} {us vs : Marked} {ms : List Member}
      → IsMembers (suc d) us ms l vs
      → IsClass d ((fixed_at CLASS s, d) ∷ (word_at w, d) ∷ (fixed_at OPEN_BRACE q, suc d) ∷ us) (class_at s None w ms l) vs
  lock_class : {d : ℕ} {s t c q l : Span} {w : Word} {us vs ws : Marked} {a : Part} {ms : List Member}
      → IsFormula d us a
      ((fixed_at SEMICOLON t, d) ∷ (fixed_at CLASS c, d) ∷ (word_at w, d) ∷ (fixed_at OPEN_BRACE q, suc d) ∷ vs)
      → IsMembers (suc d) vs ms l ws
      → IsClass d ((fixed_at LOCK_INVARIANT s, d) ∷ us) (class_at s (Some a.tree) w ms l) ws

-- { class }
pub data IsClasses : ℕ → Marked → List Class → Marked → Type 0 where
  no_class : {d : ℕ} {us : Marked} → IsClasses d us [] us
  next_class : {d : ℕ} {us vs ws : Marked} {x : Class} {cs : List Class} → IsClass d us x vs → IsClasses d vs cs ws
      → IsClasses d us (x ∷ cs) ws

-- program = { class }. `length` is the number of the word `length` where the text has it.
pub data IsProgram : Option Name → Marked → Program → Marked → Type 0 where
  classes : {length : Option Name} {us vs : Marked} {cs : List Class} → IsClasses 0 us cs vs
      → IsProgram length us (program_of length cs) vs
