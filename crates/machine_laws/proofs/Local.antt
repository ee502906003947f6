-- Local work keeps well typed frames well typed.
use Rattle.std.proofs.Common.{◌≡◌, ℕ, zero, suc, Bool, true, false, ◌&&◌, ◌||◌, cond, Some, None, List, [], ◌∷◌, length, nat_eq, refl, sym, subst, ◌∙◌, ap}
use Rattle.std.specs.Prelude.{drop}
use Rattle.std.proofs.lemmas.Option.{none-some, same_Some}
use Rattle.pv_base.specs.declared.Name.{Name}
use Rattle.pv_ast.specs.declared.PvType.{PvType}
use Rattle.pv_ast.specs.declared.PvType.TheVariants.{Int, Truth, Object, IntArray, TruthArray, Null}
use Rattle.pv_values.specs.declared.value.Value.{Value}
use Rattle.pv_values.specs.declared.value.Value.TheVariants as value
use Rattle.pv_picks.proofs.Sames.{names_same}
use Rattle.pv_picks.specs.declared.check.Check.TheVariants as check
use Rattle.pv_picks.specs.Plain.Core.{Expression, Constant, This, Result, Variable, Field, Element, Length, Not, Compute, Compare, Equal, And, Or, Implies, Old, Parameter, Block, Stop, Then}
use Rattle.pv_picks.specs.Formulas.Heaps.{Heap}
use Rattle.pv_picks.specs.Formulas.Values.{Variables, with_variable}
use Rattle.pv_picks.specs.Machine.Tasks.{AtHead, Negated, Computed, Compared, Matched, Task, Evaluate, EvaluateAll, Combine, Choose, Branch, Turn, Put, Drop, Give, Unfolded, Run, Stand, Resume, Loop, tasks_of_statement}
use Rattle.pv_picks.specs.Machine.Frames.{Frame, top, combined, is_true, evaluated, worked, after_work}
use Rattle.pv_picks.specs.Typing.Expressions.{Home, type_in, IsConstantOf, IsOf, onto}
use Rattle.pv_picks.specs.Typing.Blocks.{types_of, gives, gives_statement, BlockFits, ends, goes_first, declares}
use Rattle.pv_picks.specs.Typing.Tasks.{at_head, IsWithin, TasksFit, evaluates, evaluates_none, evaluates_more, negates, computes, compares, matches, chooses, parts, turns, puts, puts_new, drops, gives_result, unfolded, runs, stands}
use Rattle.pv_picks.specs.Typing.Frames.{HasType, ValuesFit, VariablesFit, ResultFits, FrameFits}
use Rattle.machine_laws.proofs.Statements.{retyped, field-fits, element-fits, length-fits, right-fits, statement-fits}

pub constant-fits : (heap : Heap) (v : Value) (type : PvType) → IsConstantOf v type → HasType heap type v
constant-fits heap (value.Number z) type e = subst (λ t. HasType heap t (value.Number z)) (sym e) refl
constant-fits heap (value.Truth b) type e = subst (λ t. HasType heap t (value.Truth b)) (sym e) refl
constant-fits heap (value.Reference zero) Int e = absurd (cc)
constant-fits heap (value.Reference zero) Truth e = absurd (cc)
constant-fits heap (value.Reference zero) (Object class) e = tt
constant-fits heap (value.Reference zero) IntArray e = tt
constant-fits heap (value.Reference zero) TruthArray e = tt
constant-fits heap (value.Reference zero) Null e = tt
constant-fits heap (value.Reference (suc n)) type e = absurd e

pub top-fits : (heap : Heap) (type : PvType) (types : List PvType) (vs : List Value) → ValuesFit heap (type ∷ types) vs
    → HasType heap type (top vs)
top-fits heap type types [] h = absurd h
top-fits heap type types (v ∷ vs) h = h.0

pub rest-fits : (heap : Heap) (type : PvType) (types : List PvType) (vs : List Value) → ValuesFit heap (type ∷ types) vs
    → ValuesFit heap types (drop 1 vs)
rest-fits heap type types [] h = absurd h
rest-fits heap type types (v ∷ vs) h = h.1

pub drop-one : (n : ℕ) (vs : List Value) → drop 1 (drop n vs) ≡ drop (suc n) vs
drop-one zero vs = refl
drop-one (suc n) [] = refl
drop-one (suc n) (v ∷ vs) = drop-one n vs

pub two-fit : (heap : Heap) (a b : PvType) (types : List PvType) (vs : List Value) → ValuesFit heap (a ∷ b ∷ types) vs
    → ValuesFit heap types (drop 2 vs)
two-fit heap a b types vs h =
    subst (λ us. ValuesFit heap types us) (drop-one 1 vs) (rest-fits heap b types (drop 1 vs) (rest-fits heap a (b ∷ types) vs h))

pub under-fits : (heap : Heap) (stack types : List PvType) (vs : List Value) → ValuesFit heap (onto types stack) vs
    → ValuesFit heap stack (drop (length types) vs)
under-fits heap stack [] vs h = h
under-fits heap stack (type ∷ types) vs h =
    subst (λ us. ValuesFit heap stack us) (drop-one (length types) vs)
    (rest-fits heap type stack (drop (length types) vs) (under-fits heap (type ∷ stack) types vs h))

-- without an object and the values over it
pub past-fits : (heap : Heap) (stack before : List PvType) (object : PvType) (types : List PvType) (count : ℕ) (vs : List Value)
    → before ≡ onto types (object ∷ stack) → length types ≡ count → ValuesFit heap before vs
    → ValuesFit heap stack (drop (suc count) vs)
past-fits heap stack before object types count vs e l h =
    subst (λ n. ValuesFit heap stack (drop (suc n) vs)) l (subst (λ us. ValuesFit heap stack us) (drop-one (length types) vs)
    (rest-fits heap object stack (drop (length types) vs)
    (under-fits heap (object ∷ stack) types vs (subst (λ ts. ValuesFit heap ts vs) e h))))

or_right : (a b : Bool) → b ≡ true → (a || b) ≡ true
or_right true b h = refl
or_right false b h = h

pub moved_over : (s b given : Bool) → ((s || b) || given) ≡ true → (b || (s || given)) ≡ true
moved_over true true given h = refl
moved_over true false given h = refl
moved_over false true given h = refl
moved_over false false given h = h

pub one_of_both : (c : Bool) (a b : Block) (given : Bool) → ((gives a && gives b) || given) ≡ true → (gives (cond c a b) || given)
    ≡ true
one_of_both true a b given h = left (gives a) (gives b) given h
  where
    left : (x y g : Bool) → ((x && y) || g) ≡ true → (x || g) ≡ true
    left true y g h = refl
    left false y g h = h
one_of_both false a b given h = right (gives a) (gives b) given h
  where
    right : (x y g : Bool) → ((x && y) || g) ≡ true → (y || g) ≡ true
    right true y g h = h
    right false y g h = or_right y g h

chosen_block : (c : Bool) {h : Home} {xs : List Parameter} (a b : Block) → BlockFits h xs a → BlockFits h xs b
    → BlockFits h xs (cond c a b)
chosen_block true a b x y = x
chosen_block false a b x y = y

chosen_expression : (c : Bool) (h : Home) (xs : List Parameter) (a b : Expression) (type : PvType) → IsOf h xs a type
    → IsOf h xs b type
    → IsOf h xs (cond c a b) type
chosen_expression true h xs a b type x y = x
chosen_expression false h xs a b type x y = y

-- a variable gets a value of its type
pub put-fits : (heap : Heap) (xs : List Parameter) (variables : Variables) (name : Name) (type : PvType) (v : Value)
    → type_in xs name ≡ Some type
    → HasType heap type v → VariablesFit heap xs variables → VariablesFit heap xs (with_variable variables name v)
put-fits heap xs variables name type v e k fit other t f = go (nat_eq other.0 name.0) refl
  where
    go : (b : Bool) → nat_eq other.0 name.0 ≡ b → HasType heap t (cond b v (variables other.0))
    go true s =
        let same : other ≡ name = names_same other name s in
        subst (λ u. HasType heap u v) (same_Some type t (sym e ∙ (ap (type_in xs) (sym same) ∙ f))) k
    go false s = fit other t f

-- a variable more has a value of its type
pub new-fits : (heap : Heap) (xs : List Parameter) (variables : Variables) (name : Name) (type : PvType) (v : Value)
    → HasType heap type v
    → VariablesFit heap xs variables → VariablesFit heap ((name, type) ∷ xs) (with_variable variables name v)
new-fits heap xs variables name type v k fit other t f = go (nat_eq other.0 name.0) f
  where
    go : (b : Bool) → cond b (Some type) (type_in xs other) ≡ Some t → HasType heap t (cond b v (variables other.0))
    go true s = subst (λ u. HasType heap u v) (same_Some type t s) k
    go false s = fit other t s

pub more_within : (outer xs : List Parameter) (name : Name) (type : PvType) → type_in xs name ≡ None → IsWithin outer xs
    → IsWithin outer ((name, type) ∷ xs)
more_within outer xs name type new within other t e = go (nat_eq other.0 name.0) refl
  where
    go : (b : Bool) → nat_eq other.0 name.0 ≡ b → cond b (Some type) (type_in xs other) ≡ Some t
    go true s =
        let same : other ≡ name = names_same other name s in
        absurd (none-some t (sym new ∙ (ap (type_in xs) (sym same) ∙ within other t e)))
    go false s = within other t e

module _ (h : Home) (heap : Heap) (f : Frame) (xs : List Parameter) (given : Bool) (class : f.class ≡ h.class)
    (this : HasType heap (Object h.class) (value.Reference f.this)) (variables : VariablesFit heap xs f.variables)
    (result : ResultFits heap h.answer given f.result) where
  with_values : (stack : List PvType) (vs : List Value) (ts : List Task) → ValuesFit heap stack vs → TasksFit h xs given stack ts
      → FrameFits h heap (record f { values = vs; tasks = ts })
  with_values stack vs ts v d = record {
    scope = xs;
    given = given;
    stack = stack;
    class = class;
    this = this;
    variables = variables;
    result = result;
    values = v;
    tasks = d;
  }

  evaluated-fits : {stack : List PvType} (e : Expression) (type : PvType) (rest : List Task) → IsOf h xs e type
      → ValuesFit heap stack f.values
      → TasksFit h xs given (type ∷ stack) rest → FrameFits h heap (evaluated f e rest)
  evaluated-fits {stack} (Constant v) type rest a vs d =
      with_values (type ∷ stack) (v ∷ f.values) rest (constant-fits heap v type a, vs) d
  evaluated-fits {stack} This type rest a vs d =
      with_values (Object h.class ∷ stack) (value.Reference f.this ∷ f.values) rest (this, vs) (retyped type (Object h.class) a d)
  evaluated-fits Result type rest a vs d = absurd (none-some type a)
  evaluated-fits {stack} (Variable name) type rest a vs d =
      with_values (type ∷ stack) (f.variables name.0 ∷ f.values) rest (variables name type a, vs) d
  evaluated-fits {stack} (Field object class name span) type rest a vs d =
      with_values stack f.values _ vs (field-fits object class name span type rest a d)
  evaluated-fits {stack} (Element element array index span) type rest a vs d =
      with_values stack f.values _ vs (element-fits element array index span type rest a d)
  evaluated-fits {stack} (Length element array span) type rest a vs d =
      with_values stack f.values _ vs (length-fits element array span type rest a d)
  evaluated-fits {stack} (Not e) type rest a vs d =
      with_values stack f.values _ vs (evaluates Truth a.0 (negates (retyped type Truth a.1 d)))
  evaluated-fits {stack} (Compute manner operation x y span) type rest a vs d =
      with_values stack f.values _ vs (evaluates Int a.0 (evaluates Int a.1 (computes (retyped type Int a.2 d))))
  evaluated-fits {stack} (Compare order x y) type rest a vs d =
      with_values stack f.values _ vs (evaluates Int a.0 (evaluates Int a.1 (compares (retyped type Truth a.2 d))))
  evaluated-fits {stack} (Equal same x y) type rest a vs d =
      with_values stack f.values _ vs (evaluates a.0 a.1 (evaluates a.0 a.2 (matches (retyped type Truth a.3 d))))
  evaluated-fits {stack} (And x y) type rest a vs d =
      with_values stack f.values _ vs (evaluates Truth a.0 (chooses Truth a.1 refl (retyped type Truth a.2 d)))
  evaluated-fits {stack} (Or x y) type rest a vs d =
      with_values stack f.values _ vs (evaluates Truth a.0 (chooses Truth refl a.1 (retyped type Truth a.2 d)))
  evaluated-fits {stack} (Implies x y) type rest a vs d =
      with_values stack f.values _ vs (evaluates Truth a.0 (chooses Truth a.1 refl (retyped type Truth a.2 d)))
  evaluated-fits (Old e) type rest a vs d = absurd (let no = a.0 in cc)

  turned : (c : Bool) {stack : List PvType} (loop : Loop) (rest : List Task) → IsOf h xs loop.condition Truth
      → BlockFits h xs loop.body
      → TasksFit h xs given stack rest → TasksFit h xs given stack (cond c
      (Run loop.body ∷ Stand (AtHead check.LoopKeep loop) ∷ rest) rest)
  turned true {stack} loop rest a b d =
      runs xs given b (λ n t e. e) (λ g. or_right (gives loop.body) given g) (stands stack (at_head a b) d)
  turned false loop rest a b d = d

  run-fits : {stack : List PvType} (outer : List Parameter) (after : Bool) (b : Block) (rest : List Task) → BlockFits h xs b
      → IsWithin outer xs
      → (after ≡ true → (gives b || given) ≡ true) → TasksFit h outer after stack rest → ValuesFit heap stack f.values
      → FrameFits h heap (worked f (Run b ∷ rest))
  run-fits {stack} outer after Stop rest ends within g d vs = record {
    scope = outer;
    given = after;
    stack = stack;
    class = class;
    this = this;
    variables = λ name type e. variables name type (within name type e);
    result = λ a. result (g a);
    values = vs;
    tasks = d;
  }
  run-fits {stack} outer after (Then s b) rest (goes_first x y) within g d vs =
      with_values stack f.values (tasks_of_statement s (Run b ∷ rest)) vs
      (statement-fits s (Run b ∷ rest) x (runs outer after y within
      (λ a. moved_over (gives_statement s) (gives b) given (g a)) d))
  run-fits {stack} outer after (Then s b) rest (declares {name = name} {right = right} {span = span} type new r y) within g d vs =
      with_values stack f.values (tasks_of_statement s (Run b ∷ rest)) vs
      (right-fits right span type _ r (puts_new new (runs outer after y (more_within outer xs name type new within) g d)))

  worked-fits : {stack : List PvType} (ts : List Task) → f.tasks ≡ ts → ValuesFit heap stack f.values
      → TasksFit h xs given stack ts
      → FrameFits h heap (worked f ts)
  worked-fits {stack} [] same vs d =
      with_values stack f.values f.tasks vs (subst (λ ts. TasksFit h xs given stack ts) (sym same) d)
  worked-fits (Evaluate e ∷ rest) same vs (evaluates type a d) = evaluated-fits e type rest a vs d
  worked-fits {stack} (EvaluateAll [] ∷ rest) same vs (evaluates_none d) = with_values stack f.values rest vs d
  worked-fits {stack} (EvaluateAll (e ∷ es) ∷ rest) same vs (evaluates_more type a d) =
      with_values stack f.values (Evaluate e ∷ EvaluateAll es ∷ rest) vs (evaluates type a d)
  worked-fits (Combine Negated ∷ rest) same vs (negates {stack = s} d) =
      with_values (Truth ∷ s) (combined Negated f.values) rest (refl, rest-fits heap Truth s f.values vs) d
  worked-fits (Combine (Computed manner operation span) ∷ rest) same vs (computes {stack = s} d) =
      with_values (Int ∷ s) (combined (Computed manner operation span) f.values) rest (refl, two-fit heap Int Int s f.values vs) d
  worked-fits (Combine (Compared order) ∷ rest) same vs (compares {stack = s} d) =
      with_values (Truth ∷ s) (combined (Compared order) f.values) rest (refl, two-fit heap Int Int s f.values vs) d
  worked-fits (Combine (Matched true) ∷ rest) same vs (matches {stack = s} {a = a} {b = b} d) =
      with_values (Truth ∷ s) (combined (Matched true) f.values) rest (refl, two-fit heap a b s f.values vs) d
  worked-fits (Combine (Matched false) ∷ rest) same vs (matches {stack = s} {a = a} {b = b} d) =
      with_values (Truth ∷ s) (combined (Matched false) f.values) rest (refl, two-fit heap a b s f.values vs) d
  worked-fits (Choose a b ∷ rest) same vs (chooses {stack = s} type x y d) =
      with_values s (drop 1 f.values) _ (rest-fits heap Truth s f.values vs)
      (evaluates type (chosen_expression (is_true f) h xs a b type x y) d)
  worked-fits (Branch a b ∷ rest) same vs (parts {stack = s} x y d) =
      with_values s (drop 1 f.values) _ (rest-fits heap Truth s f.values vs)
      (runs xs ((gives a && gives b) || given) (chosen_block (is_true f) a b x y) (λ n t e. e)
      (one_of_both (is_true f) a b given) d)
  worked-fits (Turn loop ∷ rest) same vs (turns {stack = s} a b d) =
      with_values s (drop 1 f.values) _ (rest-fits heap Truth s f.values vs) (turned (is_true f) loop rest a b d)
  worked-fits (Put name ∷ rest) same vs (puts {stack = s} {type = type} e d) = record {
    scope = xs;
    given = given;
    stack = s;
    class = class;
    this = this;
    variables = put-fits heap xs f.variables name type (top f.values) e (top-fits heap type s f.values vs) variables;
    result = result;
    values = rest-fits heap type s f.values vs;
    tasks = d;
  }
  worked-fits (Put name ∷ rest) same vs (puts_new {stack = s} {type = type} e d) = record {
    scope = (name, type) ∷ xs;
    given = given;
    stack = s;
    class = class;
    this = this;
    variables = new-fits heap xs f.variables name type (top f.values) (top-fits heap type s f.values vs) variables;
    result = result;
    values = rest-fits heap type s f.values vs;
    tasks = d;
  }
  worked-fits (Drop ∷ rest) same vs (drops {stack = s} {type = type} d) =
      with_values s (drop 1 f.values) rest (rest-fits heap type s f.values vs) d
  worked-fits (Give ∷ rest) same vs (gives_result {stack = s} {type = type} e declared d) = record {
    scope = xs;
    given = true;
    stack = s;
    class = class;
    this = this;
    variables = variables;
    result =
        λ g t k. subst (λ u. HasType heap u (top f.values)) (same_Some type t (sym e ∙ k)) (top-fits heap type s f.values vs);
    values = rest-fits heap type s f.values vs;
    tasks = d;
  }
  worked-fits (Unfolded name predicate count span ∷ rest) same vs (unfolded {before = before} stack q found e l d) =
      with_values stack (drop (suc count) f.values) rest
      (past-fits heap stack before (Object name) (types_of q.parameters) count f.values e l vs) d
  worked-fits (Run b ∷ rest) same vs (runs outer after x within g d) = run-fits outer after b rest x within g d vs
  worked-fits {stack} (Stand step ∷ rest) same vs d =
      with_values stack f.values f.tasks vs (subst (λ ts. TasksFit h xs given stack ts) (sym same) d)
  worked-fits {stack} (Resume class method object arguments ∷ rest) same vs d =
      with_values stack f.values f.tasks vs (subst (λ ts. TasksFit h xs given stack ts) (sym same) d)

-- so many pieces of local work keep a frame well typed
pub work-fits : (h : Home) (heap : Heap) (n : ℕ) (f : Frame) → FrameFits h heap f → FrameFits h heap (after_work n f)
work-fits h heap zero f t = t
work-fits h heap (suc n) f t =
    work-fits h heap n (worked f f.tasks)
    (worked-fits h heap f t.scope t.given t.class t.this t.variables t.result {stack = t.stack} f.tasks refl t.values t.tasks)
