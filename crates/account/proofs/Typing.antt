-- Types of the values of a frame that local work takes, and what waits around its open loops.
use Rattle.std.proofs.Common.{◌≡◌, ◌⊎◌, inl, inr, ℕ, ◌≤◌, Bool, true, false, if◌then◌else◌, ◌||◌, Option, Some, None, List, [], ◌∷◌, map, refl, sym, subst, ◌∙◌, arith}
use Rattle.std.specs.Prelude.{nat_eq, drop, take, length, IsSome}
use Rattle.std.proofs.lemmas.List.{length-reverse, length-take}
use Rattle.std.proofs.Math.Nat.{min-le_left}
use Rattle.std.proofs.lemmas.Option.{none-some}
use Rattle.pv_base.specs.declared.Name.{Name}
use Rattle.pv_ast.specs.declared.PvType.{PvType}
use Rattle.pv_ast.specs.declared.PvType.TheVariants.{Object}
use Rattle.pv_values.specs.declared.value.Value.{Value}
use Rattle.pv_values.specs.declared.value.Value.TheVariants as value
use Rattle.pv_picks.specs.declared.check.Check.TheVariants as check
use Rattle.pv_picks.specs.Plain.Core.{Parameter, Program}
use Rattle.pv_picks.specs.Formulas.Values.{Variables, with_variable}
use Rattle.pv_picks.specs.Formulas.Evaluation.{Scene}
use Rattle.pv_picks.specs.Formulas.Heaps.{Heap}
use Rattle.pv_picks.specs.Machine.Tasks.{AtHead, Loop, Task, Turn, Run, Stand}
use Rattle.pv_picks.specs.Machine.Frames.{top, second, topmost, object_under}
use Rattle.pv_picks.proofs.Sames.{names_same}
use Rattle.pv_picks.specs.Typing.Expressions.{type_in, onto}
use Rattle.pv_picks.specs.Typing.Tasks.{IsWithin}
use Rattle.pv_picks.specs.Typing.Frames as typed
use Rattle.pv_picks.specs.Typing.Frames.{HasType}
use Rattle.machine_laws.proofs.Local.{top-fits, under-fits}
use Rattle.machine_laws.proofs.Kept.{taken-fits, object-fits}
use Rattle.core_trees.specs.Assigned.{BlockAssigns, IsListed}
use Rattle.account_formulas.specs.Agreeing.{AgreeOn}
use Rattle.account_formulas.specs.Gaining.{AreTyped}
use Rattle.account.specs.Running.{Body}
use Rattle.account.specs.Scoped.{MayAssign, TasksSay, turns_in, turns_past, runs, goes_back}
use Rattle.account.specs.Frames.{Part, standing_in, AllTakeTurns, opened}

-- as many values as types have those types
exactly : (heap : Heap) (types : List PvType) (vs : List Value) → typed.ValuesFit heap types vs → length vs ≤ length types
    → AreTyped heap types vs
exactly heap [] [] fits less = tt
exactly heap [] (v ∷ vs) fits less = absurd (omega (arith, less))
exactly heap (type ∷ types) [] fits less = absurd fits
exactly heap (type ∷ types) (v ∷ vs) fits less = (fits.0, exactly heap types vs fits.1 (omega (arith, less)))

at_most_so_many : (n : ℕ) (vs : List Value) → length (topmost n vs) ≤ n
at_most_so_many n vs =
    let one = length-reverse (take n vs) in let two = length-take n vs in let three = min-le_left n (length vs) in
    omega (arith, one, two, three)

-- the arguments over an object, and the object
pub arguments_typed : (heap : Heap) (stack before types : List PvType) (class : Name) (count : ℕ) (vs : List Value)
    → before ≡ onto types (Object class ∷ stack) → length types ≡ count → typed.ValuesFit heap before vs
    → AreTyped heap types (topmost count vs)
arguments_typed heap stack before types class count vs is many fits =
    subst (λ n. AreTyped heap types (topmost n vs)) many
    (exactly heap types (topmost (length types) vs)
    (taken-fits heap (Object class ∷ stack) types vs (subst (λ ts. typed.ValuesFit heap ts vs) is fits))
    (at_most_so_many (length types) vs))

pub object_typed : (heap : Heap) (stack before types : List PvType) (class : Name) (count : ℕ) (vs : List Value)
    → before ≡ onto types (Object class ∷ stack) → length types ≡ count → typed.ValuesFit heap before vs
    → HasType heap (Object class) (value.Reference (object_under count vs))
object_typed heap stack before types class count vs is many fits =
    subst (λ n. HasType heap (Object class) (value.Reference (object_under n vs))) many
    (object-fits heap class (top (drop (length types) vs))
    (top-fits heap (Object class) stack (drop (length types) vs)
    (under-fits heap (Object class ∷ stack) types vs (subst (λ ts. typed.ValuesFit heap ts vs) is fits))))

pub second_typed : (heap : Heap) (a b : PvType) (stack : List PvType) (vs : List Value) → typed.ValuesFit heap (a ∷ b ∷ stack) vs
    → HasType heap b (second vs)
second_typed heap a b stack [] fits = absurd fits
second_typed heap a b stack (v ∷ []) fits = absurd (no_more fits.1)
  where
    no_more : typed.ValuesFit heap (b ∷ stack) [] → ⊥
    no_more h = h
second_typed heap a b stack (v ∷ u ∷ vs) fits = fits.1.0

-- variables in scope stay equal where both get the same value

pub put_in : (xs : List Parameter) (a b : Variables) (name : Name) (v : Value) → AgreeOn xs a b
    → AgreeOn xs (with_variable a name v) (with_variable b name v)
put_in xs a b name v agree n t is = go (nat_eq n.0 name.0)
  where
    go : (e : Bool) → (if e then v else a n.0) ≡ (if e then v else b n.0)
    go true = refl
    go false = agree n t is

pub put_on : (xs : List Parameter) (a b : Variables) (name : Name) (v : Value) → AgreeOn xs a b → (type : PvType)
    → AgreeOn ((name, type) ∷ xs) (with_variable a name v) (with_variable b name v)
put_on xs a b name v agree type n t is = go (nat_eq n.0 name.0) is
  where
    go : (e : Bool) → (if e then Some type else type_in xs n) ≡ Some t → (if e then v else a n.0) ≡ (if e then v else b n.0)
    go true is = refl
    go false is = agree n t is

module _ (p : Program) (flags : ℕ → Bool) (present : Heap) (class : Name) (body : Body) (past : Heap) where
  -- what waits around loops keeps the variables that they don't assign
  pub parts_put : (scene : Scene) (o : Option (Loop × List Task)) (xs : List Part) (name : Name) (v : Value)
      → MayAssign (map (λ x. x.loop) xs) name → AllTakeTurns p flags present class body past scene o xs
      → AllTakeTurns p flags present class body past (record scene { variables = with_variable scene.variables name v }) o xs
  parts_put scene None [] name v may turns = tt
  parts_put scene None (x ∷ xs) name v may turns = absurd turns
  parts_put scene (Some o) [] name v may turns = absurd turns
  parts_put scene (Some o) (x ∷ xs) name v may (part, more) = (
    record {
      assigned = part.assigned;
      loop = part.loop;
      tasks = part.tasks;
      fits = part.fits;
      this = part.this;
      variables = λ n t is none. part.variables n t is none ∙ kept n t is none (nat_eq n.0 name.0) refl;
      result = part.result;
      given = part.given;
      trees = part.trees;
      known = part.known;
      settled = part.settled;
      agrees = part.agrees;
      never = part.never;
    },
    parts_put scene (opened false o.1) xs name v may.1 more,
  )
    where
      neither : (n : Name) (t : PvType) → type_in x.loop.scope n ≡ Some t → type_in x.loop.assigned n ≡ None → n ≡ name
          → (type_in x.loop.scope name ≡ None) ⊎ IsSome (type_in x.loop.assigned name) → ⊥
      neither n t is none same (inl new) =
          none-some t (sym new ∙ subst (λ z. type_in x.loop.scope z ≡ Some t) same is)
      neither n t is none same (inr some) =
          let k = subst (λ o. IsSome o) (subst (λ z. type_in x.loop.assigned z ≡ None) same none) some in absurd (cc k)

      kept : (n : Name) (t : PvType) → type_in x.loop.scope n ≡ Some t → type_in x.loop.assigned n ≡ None
          → (e : Bool) → nat_eq n.0 name.0 ≡ e → scene.variables n.0 ≡ (if e then v else scene.variables n.0)
      kept n t is none true same = absurd (neither n t is none (names_same n name same) may.0)
      kept n t is none false same = refl

  -- where no loop is open, the scene is any
  pub parts_none : (one other : Scene) (o : Option (Loop × List Task)) (xs : List Part) → map (λ x. x.loop) xs ≡ []
      → AllTakeTurns p flags present class body past one o xs → AllTakeTurns p flags present class body past other o xs
  parts_none one other None [] none turns = tt
  parts_none one other (Some o) [] none turns = absurd turns
  parts_none one other o (x ∷ xs) none turns = absurd (cc none)

  -- a turn goes into the body of its loop, with what is in scope at the loop's head
  pub record TurnsIn (l : Loop) (rest : List Task) (xs : List Part) (scope : List Parameter) (given : Bool) (stack : List PvType)
      : Type 0 where
    pub head : List Parameter
    pub within : IsWithin head scope
    pub tasks : TasksSay (standing_in p class body xs) false head given []
        (Run l.body ∷ Stand (AtHead check.LoopKeep l) ∷ rest)

  or_given : (b given : Bool) → given ≡ true → (b || given) ≡ true
  or_given true given e = refl
  or_given false given e = e

  pub turned_in : (l : Loop) (rest : List Task) (scene : Scene) (xs : List Part) (scope : List Parameter) (given : Bool)
      (stack : List PvType)
      → TasksSay (standing_in p class body xs) true scope given stack (Turn l ∷ rest)
      → AllTakeTurns p flags present class body past scene (Some (l, rest)) xs → TurnsIn l rest xs scope given stack
  turned_in l rest scene [] scope given stack says turns = absurd turns
  turned_in l rest scene (x ∷ xs) scope given stack (turns_in within) (part, more) = record {
    head = x.loop.scope;
    within = within;
    tasks = runs x.loop.scope given (
      part.loop.2.0,
      subst (λ a. BlockAssigns (λ n. IsListed x.loop.scope a n × MayAssign (map (λ y. y.loop) xs) n) l.body)
          (sym part.assigned) part.loop.2.1,
      part.loop.2.2,
    )
        (λ n t is. is) (or_given _ given) (goes_back (λ n t is. is));
  }

  pub turned_past : (l : Loop) (rest : List Task) (xs : List Part) (scope : List Parameter) (given : Bool) (stack : List PvType)
      → TasksSay (standing_in p class body xs) false scope given stack (Turn l ∷ rest)
      → TasksSay (standing_in p class body xs) false scope given [] rest
  turned_past l rest xs scope given stack (turns_past says) = says
