-- A term in which a position doesn't stand has one value at all positions.
use Rattle.std.proofs.Common.{◌∙◌, ◌≡◌, ℤ, Bool, true, false, if◌then◌else◌, Some, None, List, refl, ap, subst}
use Rattle.std.specs.Prelude.{nat_eq}
use Rattle.std.proofs.Math.Path.{fun_ext}
use Rattle.pv_base.specs.declared.Name.{Name}
use Rattle.pv_ast.specs.declared.PvType.{PvType}
use Rattle.pv_ast.specs.declared.PvType.TheVariants.{Int, Truth, Object}
use Rattle.pv_values.specs.declared.value.Value.{Value}
use Rattle.pv_values.specs.declared.value.Value.TheVariants as value
use Rattle.pv_picks.specs.Plain.Core.{Expression, Constant, This, Result, Variable, Field, Element, Length, Not, Compute, Compare, Equal, And, Or, Implies, Old, Parameter}
use Rattle.pv_picks.specs.Formulas.Values.{number_in, truth_in, reference_in, array_of}
use Rattle.pv_picks.specs.Formulas.Evaluation.{Scene, Reader, evaluate}
use Rattle.pv_picks.specs.Formulas.Meeting.{at}
use Rattle.pv_picks.specs.Typing.Expressions.{Home, Speech, type_in, Says}
use Rattle.pv_picks.proofs.Sames.{names_same}

pub if_same : {R : Type 0} (b : Bool) (x y u v : R) → x ≡ u → y ≡ v → (if b then x else y) ≡ (if b then u else v)
if_same true x y u v p q = p
if_same false x y u v p q = q

module _ {R : Type 0} (h : Home) (speech : Speech) (xs : List Parameter) (name : Name) (i : ℤ) (new : type_in xs name ≡ None)
    (scene : Scene) where
  variable_same : (x : Name) (type : PvType) (k l : Value → R) → type_in xs x ≡ Some type → ((v : Value) → k v ≡ l v)
      → k ((at scene name i).variables x.0) ≡ l (scene.variables x.0)
  variable_same x type k l is f = go (nat_eq x.0 name.0) refl
    where
      go : (b : Bool) → nat_eq x.0 name.0 ≡ b → k (if b then value.Number i else scene.variables x.0) ≡ l (scene.variables x.0)
      go true e =
          let same : x ≡ name = names_same x name e in let here =
          subst (λ z. type_in xs z ≡ Some type) same is in absurd (cc (here, new))
      go false e = f (scene.variables x.0)

  pub steady : (n o : Reader R) (e : Expression) (type : PvType) → Says h speech xs e type → (k l : Value → R)
      → ((v : Value) → k v ≡ l v)
      → evaluate n o (at scene name i) e k ≡ evaluate n o scene e l
  steady n o (Constant v) type says k l f = f v
  steady n o This type says k l f = f _
  steady n o Result type says k l f = f _
  steady n o (Variable x) type says k l f = variable_same x type k l says f
  steady n o (Field e class x span) type says k l f =
      steady n o e (Object class) says.0 _ _ (λ v. ap (λ g. n.field class (reference_in v) x span g) (fun_ext f))
  steady n o (Element t array index span) type says k l f =
      steady n o array (array_of t) says.0 _ _ (λ a. steady n o index Int says.1 _ _
      (λ j. ap (λ g. n.element t (reference_in a) (number_in j) span g) (fun_ext f)))
  steady n o (Length t array span) type says k l f =
      steady n o array (array_of t) says.0 _ _ (λ a. ap (λ g. n.length t (reference_in a) span g)
      (fun_ext (λ z. f (value.Number z))))
  steady n o (Not e) type says k l f = steady n o e Truth says.0 _ _ (λ v. f _)
  steady n o (Compute manner op a b span) type says k l f = steady n o a Int says.0 _ _ (λ x. steady n o b Int says.1 _ _
      (λ y. ap (λ g. n.operation manner op (number_in x) (number_in y) span g) (fun_ext (λ z. f (value.Number z)))))
  steady n o (Compare order a b) type says k l f =
      steady n o a Int says.0 _ _ (λ x. steady n o b Int says.1 _ _
      (λ y. ap (λ g. n.comparing (number_in x) (number_in y) g) (f _)))
  steady n o (Equal same a b) type says k l f =
      steady n o a says.0 says.1 _ _ (λ x. steady n o b says.0 says.2 _ _ (λ y. ap (λ g. n.matching x y g) (f _)))
  steady n o (And a b) type says k l f = steady n o a Truth says.0 _ _
      (λ x. ap (λ g. n.deciding (truth_in x) g) (if_same (truth_in x) _ _ _ _ (steady n o b Truth says.1 k l f)
      (f (value.Truth false))))
  steady n o (Or a b) type says k l f = steady n o a Truth says.0 _ _
      (λ x. ap (λ g. n.deciding (truth_in x) g) (if_same (truth_in x) _ _ _ _ (f (value.Truth true))
      (steady n o b Truth says.1 k l f)))
  steady n o (Implies a b) type says k l f = steady n o a Truth says.0 _ _
      (λ x. ap (λ g. n.deciding (truth_in x) g) (if_same (truth_in x) _ _ _ _ (steady n o b Truth says.1 k l f)
      (f (value.Truth true))))
  steady n o (Old e) type says k l f = steady o o e type says.1 k l f

-- An expression without `\old` doesn't see the old state
module _ {R : Type 0} (h : Home) (speech : Speech) (xs : List Parameter) (silent : speech.old ≡ false) (scene : Scene) where
  pub present_alone : (n o q : Reader R) (e : Expression) (type : PvType) → Says h speech xs e type → (k : Value → R)
      → evaluate n o scene e k ≡ evaluate n q scene e k
  present_alone n o q (Constant v) type says k = refl
  present_alone n o q This type says k = refl
  present_alone n o q Result type says k = refl
  present_alone n o q (Variable x) type says k = refl
  present_alone n o q (Field e class x span) type says k = present_alone n o q e (Object class) says.0 _
  present_alone n o q (Element t array index span) type says k =
      present_alone n o q array (array_of t) says.0 _ ∙ ap (evaluate n q scene array) (fun_ext
      (λ a. present_alone n o q index Int says.1 _))
  present_alone n o q (Length t array span) type says k = present_alone n o q array (array_of t) says.0 _
  present_alone n o q (Not e) type says k = present_alone n o q e Truth says.0 _
  present_alone n o q (Compute manner op a b span) type says k =
      present_alone n o q a Int says.0 _ ∙ ap (evaluate n q scene a) (fun_ext (λ x. present_alone n o q b Int says.1 _))
  present_alone n o q (Compare order a b) type says k =
      present_alone n o q a Int says.0 _ ∙ ap (evaluate n q scene a) (fun_ext (λ x. present_alone n o q b Int says.1 _))
  present_alone n o q (Equal same a b) type says k =
      present_alone n o q a says.0 says.1 _ ∙ ap (evaluate n q scene a) (fun_ext (λ x. present_alone n o q b says.0 says.2 _))
  present_alone n o q (And a b) type says k = present_alone n o q a Truth says.0 _
      ∙ ap (evaluate n q scene a) (fun_ext
      (λ x. ap (λ r. n.deciding (truth_in x) (if truth_in x then r else k (value.Truth false)))
      (present_alone n o q b Truth says.1 k)))
  present_alone n o q (Or a b) type says k = present_alone n o q a Truth says.0 _
      ∙ ap (evaluate n q scene a) (fun_ext
      (λ x. ap (λ r. n.deciding (truth_in x) (if truth_in x then k (value.Truth true) else r))
      (present_alone n o q b Truth says.1 k)))
  present_alone n o q (Implies a b) type says k = present_alone n o q a Truth says.0 _
      ∙ ap (evaluate n q scene a) (fun_ext
      (λ x. ap (λ r. n.deciding (truth_in x) (if truth_in x then r else k (value.Truth true)))
      (present_alone n o q b Truth says.1 k)))
  present_alone n o q (Old e) type says k = let said = says.0 in absurd (cc (said, silent))
