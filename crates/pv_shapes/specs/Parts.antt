-- The parts that an item has, in the tree of its expression.
use Rattle.std.specs.Prelude.{ℕ, ℤ, ◌≡◌, ◌⊎◌, Bool, true, false, Option, Some, None, []}
use Rattle.pv_base.specs.declared.Span.{Span}
use Rattle.pv_ast.specs.declared.Operator.{Operator}
use Rattle.pv_ast.specs.declared.Operator.TheVariants as op
use Rattle.pv_ast.specs.declared.Token.TheVariants as token
use Rattle.pv_ast.specs.declared.Expr.{Expr}
use Rattle.pv_ast.specs.declared.ExprKind.TheVariants as tree
use Rattle.pv_ast.specs.Rules.Items.{Facts, Use, Item, constant, fact, permission, committed, position, guarded, fixed, unused, shifted, shift_of, guard, fixing, shape_of, item_of, is_term, has_variable_and_term}

-- what an expression shows of the variable of this number
abbrev pub facts_of : ℕ → Expr → Facts
facts_of name e = (shape_of e).facts name

abbrev pub IsTerm : ℕ → Expr → Type 0
IsTerm name e = is_term (facts_of name e) ≡ true

-- `array[index]`, where the array is a term and the index the variable with so much added
pub record IsElement (name : ℕ) (s : ℤ) (e : Expr) : Type 0 where
  pub array : Expr
  pub index : Expr
  pub stands : e.kind ≡ tree.Index array index
  pub term : IsTerm name array
  pub shift : shift_of (facts_of name index).form ≡ Some s

-- `Perm(place, p)`
pub record IsPermission (name : ℕ) (s : ℤ) (e : Expr) : Type 0 where
  pub place : Expr
  pub parts : ℕ
  pub whole : ℕ
  pub span : Span
  pub stands : e.kind ≡ tree.Perm place parts whole span
  pub element : IsElement name s place

-- `committed(operand)`
pub record IsCommitted (name : ℕ) (e : Expr) : Type 0 where
  pub operand : Expr
  pub stands : e.kind ≡ tree.Token token.Committed operand
  pub term : IsTerm name operand

-- the operators that compare two values
abbrev pub compares : Operator → Bool
compares op.Eq = true
compares op.Ne = true
compares op.Lt = true
compares op.Le = true
compares op.Gt = true
compares op.Ge = true
compares _ = false

-- the variable and a term, compared with each other
pub record IsPosition (name : ℕ) (e : Expr) : Type 0 where
  pub operator : Operator
  pub left : Expr
  pub right : Expr
  pub stands : e.kind ≡ tree.Binary operator left right
  pub comparison : compares operator ≡ true
  pub sides : has_variable_and_term (facts_of name left) (facts_of name right) ≡ true

-- `guard ==> right`, where the right side is the item
pub record IsGuarded (name : ℕ) (item : Item) (e : Expr) : Type 0 where
  pub left : Expr
  pub right : Expr
  pub stands : e.kind ≡ tree.Binary op.Implies left right
  pub guards : (facts_of name left).form ≡ guard
  pub under : item_of name right ≡ Some item

-- `variable == term ==> formula`
pub record IsFixed (name : ℕ) (e : Expr) : Type 0 where
  pub left : Expr
  pub formula : Expr
  pub stands : e.kind ≡ tree.Binary op.Implies left formula
  pub fixes : (facts_of name left).form ≡ fixing
  pub term : IsTerm name formula
  pub shaped : (shape_of formula).faults ≡ []

-- a pure expression that uses the variable so
pub record IsPure (name : ℕ) (use_made : Use) (e : Expr) : Type 0 where
  pub pure : (facts_of name e).pure ≡ true
  pub uses : (facts_of name e).uses ≡ use_made

-- the expression has the parts of the item
abbrev pub HasParts : ℕ → Item → Expr → Type 0
HasParts name constant e = IsPure name unused e
HasParts name (fact s) e = IsPure name (shifted s) e
HasParts name (permission s) e = IsPermission name s e
HasParts name committed e = IsCommitted name e
HasParts name position e = IsPosition name e
HasParts name (guarded item) e = IsGuarded name item e
HasParts name fixed e = IsFixed name e

-- a constant or a fact: the form that counts where an expression has several
abbrev pub IsPlain : Option Item → Type 0
IsPlain (Some constant) = Unit {0}
IsPlain (Some (fact s)) = Unit {0}
IsPlain _ = ⊥

-- the item is the one that counts, or a constant or a fact counts before it
abbrev pub IsOrIsPlain : Item → Option Item → Type 0
IsOrIsPlain item found = (found ≡ Some item) ⊎ IsPlain found
