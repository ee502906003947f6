-- Keys are the same where what they name is.
use Rattle.std.proofs.Common.{◌≡◌, ℕ, ℤ, Bool, ◌&&◌, refl, ap, ◌∙◌, arith}
use Rattle.std.specs.Prelude.{nat_eq}
use Rattle.std.specs.Ordering.{int_eq}
use Rattle.pv_values.specs.Heaps.{same_number}
use Rattle.pv_ast.specs.declared.PvType.{PvType}
use Rattle.pv_ast.specs.contracts.PvTypePartialEq.TheImpl as type_eq
use Rattle.pv_ast.specs.declared.Token.{Token}
use Rattle.pv_ast.specs.declared.Token.TheVariants.{Idle, Running, Committed, Uncommitted}
use Rattle.pv_ast.specs.contracts.TokenPartialEq.TheImpl as token_eq
use Rattle.pv_ast.specs.declared.PvType.TheVariants.{Int, Truth, Object, IntArray, TruthArray, Null}
use Rattle.pv_picks.specs.Judge.States.{same_resource, same_token}
use Rattle.pv_picks.specs.Judge.States as states
use Rattle.pv_ast.specs.Rules.Typing.{same_type}
use Rattle.pv_cells.specs.declared.key.Resource.{Resource}
use Rattle.pv_cells.specs.declared.key.Resource.TheVariants.{Field, Element, OfToken, OfLock}
use Rattle.pv_cells.specs.Keys.{is_array, is_resource, array_key, key_of, resource_of}

pub key_resource : (k : Resource) → key_of (resource_of k) ≡ k
key_resource (Field c o f) = refl
key_resource (Element t a i) = refl
key_resource (OfToken t c o) = refl
key_resource (OfLock c o) = refl

pub alike_flip : (a b : ℕ) → nat_eq a b ≡ nat_eq b a
alike_flip a b = grind arith

pub numbers_alike : (a b : ℤ) → int_eq a b ≡ same_number b a
numbers_alike a b = grind arith

-- the test of derived equality
abbrev array_type : PvType → PvType → Bool
array_type = (type_eq.ghosts).eq

abbrev token_type : Token → Token → Bool
token_type = (token_eq.ghosts).eq

types_alike : (a b : PvType) → (array_type a b) ≡ same_type b a
types_alike Int Int = refl
types_alike Int Truth = refl
types_alike Int (Object c) = refl
types_alike Int IntArray = refl
types_alike Int TruthArray = refl
types_alike Int Null = refl
types_alike Truth Int = refl
types_alike Truth Truth = refl
types_alike Truth (Object c) = refl
types_alike Truth IntArray = refl
types_alike Truth TruthArray = refl
types_alike Truth Null = refl
types_alike (Object c) Int = refl
types_alike (Object c) Truth = refl
types_alike (Object c) (Object d) = alike_flip c.0 d.0
types_alike (Object c) IntArray = refl
types_alike (Object c) TruthArray = refl
types_alike (Object c) Null = refl
types_alike IntArray Int = refl
types_alike IntArray Truth = refl
types_alike IntArray (Object c) = refl
types_alike IntArray IntArray = refl
types_alike IntArray TruthArray = refl
types_alike IntArray Null = refl
types_alike TruthArray Int = refl
types_alike TruthArray Truth = refl
types_alike TruthArray (Object c) = refl
types_alike TruthArray IntArray = refl
types_alike TruthArray TruthArray = refl
types_alike TruthArray Null = refl
types_alike Null Int = refl
types_alike Null Truth = refl
types_alike Null (Object c) = refl
types_alike Null IntArray = refl
types_alike Null TruthArray = refl
types_alike Null Null = refl

tokens_alike : (a b : Token) → token_type a b ≡ same_token b a
tokens_alike Idle Idle = refl
tokens_alike Idle Running = refl
tokens_alike Idle Committed = refl
tokens_alike Idle Uncommitted = refl
tokens_alike Running Idle = refl
tokens_alike Running Running = refl
tokens_alike Running Committed = refl
tokens_alike Running Uncommitted = refl
tokens_alike Committed Idle = refl
tokens_alike Committed Running = refl
tokens_alike Committed Committed = refl
tokens_alike Committed Uncommitted = refl
tokens_alike Uncommitted Idle = refl
tokens_alike Uncommitted Running = refl
tokens_alike Uncommitted Committed = refl
tokens_alike Uncommitted Uncommitted = refl

both : {a b c d : Bool} → a ≡ c → b ≡ d → (a && b) ≡ (c && d)
both {a} {b} {c} {d} e f = ap (λ x. x && b) e ∙ ap (λ y. c && y) f

pub arrays_same : (t : PvType) (a : ℕ) (u : PvType) (b : ℕ) → is_array (array_key t a) (array_key u b)
    ≡ (same_type u t && nat_eq b a)
arrays_same t a u b = both (types_alike t u) (alike_flip a b)

pub keys_same : (k : Resource) (r : states.Resource) → is_resource k (key_of r) ≡ same_resource r (resource_of k)
keys_same (Field c o f) (states.InField d p g) = both (alike_flip c.0 d.0) (both (alike_flip o p) (alike_flip f.0 g.0))
keys_same (Field c o f) (states.InElement u b j) = refl
keys_same (Field c o f) (states.OfToken u d p) = refl
keys_same (Field c o f) (states.OfLock d p) = refl
keys_same (Element t a i) (states.InField d p g) = refl
keys_same (Element t a i) (states.InElement u b j) = both (types_alike t u) (both (alike_flip a b) (numbers_alike i j))
keys_same (Element t a i) (states.OfToken u d p) = refl
keys_same (Element t a i) (states.OfLock d p) = refl
keys_same (OfToken t c o) (states.InField d p g) = refl
keys_same (OfToken t c o) (states.InElement u b j) = refl
keys_same (OfToken t c o) (states.OfToken u d p) = both (tokens_alike t u) (both (alike_flip c.0 d.0) (alike_flip o p))
keys_same (OfToken t c o) (states.OfLock d p) = refl
keys_same (OfLock c o) (states.InField d p g) = refl
keys_same (OfLock c o) (states.InElement u b j) = refl
keys_same (OfLock c o) (states.OfToken u d p) = refl
keys_same (OfLock c o) (states.OfLock d p) = both (alike_flip c.0 d.0) (alike_flip o p)
