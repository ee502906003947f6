-- A formula without `\old` is met alike in all old states.
use Rattle.std.proofs.Common.{◌∙◌, ◌≡◌, ℕ, ℤ, true, false, if◌then◌else◌, List, [], ◌∷◌, refl, ap}
use Rattle.std.proofs.Math.Path.{fun_ext}
use Rattle.pv_base.specs.declared.Name.{Name}
use Rattle.pv_ast.specs.declared.PvType.{PvType}
use Rattle.pv_ast.specs.declared.PvType.TheVariants.{Int, Truth, Object}
use Rattle.pv_values.specs.declared.value.Value.{Value}
use Rattle.pv_values.specs.declared.value.Value.TheVariants as value
use Rattle.pv_picks.specs.Plain.Core.{Cut, Expression, Formula, Fact, FieldPermission, ElementPermission, Holds, Instance, Star, When, Each, Items, NoItems, Join, Item, Elements, Repeated, Committed, Guarded, Fixed, Parameter}
use Rattle.pv_picks.specs.Formulas.Values.{number_in, truth_in, equality, array_of, width}
use Rattle.pv_picks.specs.Formulas.Heaps.{Heap}
use Rattle.pv_picks.specs.Formulas.Evaluation.{Scene}
use Rattle.pv_picks.specs.Formulas.Meeting.{Sight, Finding, AllMet, FirstUnmet, at, value_or, values_or, first_of, at_each, passes, guard_term, behind, unmet, unmet_items, unmet_item}
use Rattle.pv_picks.specs.Typing.Expressions.{Home, Speech, Says, AllSay}
use Rattle.pv_picks.specs.Typing.Blocks.{types_of}
use Rattle.account_formulas.specs.Good.{IsGood, AreGoodItems, IsGoodItem, AreGoodCuts, type_of_cut}
use Rattle.account_formulas.proofs.Steady.{present_alone}

module _ (h : Home) (speech : Speech) (quiet : speech.old ≡ false) (now one other : Heap) where
  abbrev a : Sight
  a = record { now = now; old = one }

  abbrev b : Sight
  b = record { now = now; old = other }

  alone : {R : Type 0} (xs : List Parameter) (stop : R) (scene : Scene) (e : Expression) (type : PvType) → Says h speech xs e type
      → (k l : Value → R) → ((v : Value) → k v ≡ l v)
      → value_or stop a scene e k ≡ value_or stop b scene e l
  alone xs stop scene e type says k l f =
      present_alone h speech xs quiet scene _ _ _ e type says k ∙ ap (λ x. value_or stop b scene e x) (fun_ext f)

  all_alone : {R : Type 0} (xs : List Parameter) (stop : R) (scene : Scene) (es : List Expression) (types : List PvType)
      → AllSay h speech xs es types → (k : List Value → R)
      → values_or stop a scene es k ≡ values_or stop b scene es k
  all_alone xs stop scene [] [] says k = refl
  all_alone xs stop scene [] (t ∷ ts) says k = absurd says
  all_alone xs stop scene (e ∷ es) [] says k = absurd says
  all_alone xs stop scene (e ∷ es) (t ∷ ts) says k =
      alone xs stop scene e t says.0 _ _ (λ v. all_alone xs stop scene es ts says.1 (λ vs. k (v ∷ vs)))

  each_same : (f g : ℤ → Finding) → ((i : ℤ) → f i ≡ g i) → (n : ℕ) (low : ℤ) → at_each f low n ≡ at_each g low n
  each_same f g same n low = ap (λ x. at_each x low n) (fun_ext same)

  behind_alone : (xs : List Parameter) (stop outside : Finding) (scene : Scene) (cuts : List Cut) → AreGoodCuts h speech xs cuts
      → (i : ℤ) (x y : Finding) → x ≡ y → behind stop outside a scene cuts i x ≡ behind stop outside b scene cuts i y
  behind_alone xs stop outside scene [] good i x y e = e
  behind_alone xs stop outside scene (k ∷ cuts) good i x y e =
      alone xs stop scene (guard_term k) (type_of_cut k) good.0 _ _
      (λ v. ap (λ z. if passes k i v then z else outside) (behind_alone xs stop outside scene cuts good.1 i x y e))

  mutual
    pub unmet_alone : (xs : List Parameter) (scene : Scene) (f : Formula) → IsGood h speech xs f → unmet a scene f
        ≡ unmet b scene f
    unmet_alone xs scene (Fact e span) good = alone xs (FirstUnmet span) scene e Truth good _ _ (λ v. refl)
    unmet_alone xs scene (FieldPermission e class name type amount span) good =
        alone xs (FirstUnmet span) scene e (Object class) good.0 _ _ (λ v. refl)
    unmet_alone xs scene (ElementPermission type array index amount span) good =
        alone xs (FirstUnmet span) scene array (array_of type) good.0 _ _
        (λ x. alone xs (FirstUnmet span) scene index Int good.1 _ _ (λ i. refl))
    unmet_alone xs scene (Holds token class e span) good = alone xs (FirstUnmet span) scene e (Object class) good _ _ (λ v. refl)
    unmet_alone xs scene (Instance class name e arguments span) good =
        alone xs (FirstUnmet span) scene e (Object class) good.0 _ _
        (λ v. all_alone xs (FirstUnmet span) scene arguments (types_of good.1.0.parameters) good.1.2 (λ vs. AllMet))
    unmet_alone xs scene (Star f g) good =
        ap (λ x. first_of x (unmet a scene g)) (unmet_alone xs scene f good.0)
        ∙ ap (first_of (unmet b scene f)) (unmet_alone xs scene g good.1)
    unmet_alone xs scene (When e f span) good =
        alone xs (FirstUnmet span) scene e Truth good.0 _ _
        (λ v. ap (λ x. if truth_in v then x else AllMet) (unmet_alone xs scene f good.1))
    unmet_alone xs scene (Each name low high items span) good =
        alone xs (FirstUnmet span) scene low Int good.0 _ _
        (λ l. alone xs (FirstUnmet span) scene high Int good.1 _ _
        (λ u. each_same _ _ (λ i. items_alone xs scene name i items good.3) (width (number_in l) (number_in u)) (number_in l)))

    pub items_alone : (xs : List Parameter) (scene : Scene) (name : Name) (i : ℤ) (items : Items)
        → AreGoodItems h speech xs name items → unmet_items a (at scene name i) i items ≡ unmet_items b (at scene name i) i items
    items_alone xs scene name i NoItems good = refl
    items_alone xs scene name i (Join item items) good =
        ap (λ x. first_of x (unmet_items a (at scene name i) i items)) (item_alone xs scene name i item good.0)
        ∙ ap (first_of (unmet_item b (at scene name i) i item)) (items_alone xs scene name i items good.1)

    pub item_alone : (xs : List Parameter) (scene : Scene) (name : Name) (i : ℤ) (item : Item) → IsGoodItem h speech xs name item
        → unmet_item a (at scene name i) i item ≡ unmet_item b (at scene name i) i item
    item_alone xs scene name i (Elements type array shift amount span) good =
        alone xs (FirstUnmet span) (at scene name i) array (array_of type) good.0 _ _ (λ v. refl)
    item_alone xs scene name i (Repeated e span) good =
        alone ((name, Int) ∷ xs) (FirstUnmet span) (at scene name i) e Truth good.0 _ _ (λ v. refl)
    item_alone xs scene name i (Committed class e span) good =
        alone xs (FirstUnmet span) (at scene name i) e (Object class) good _ _ (λ v. refl)
    item_alone xs scene name i (Guarded cuts item span) good =
        behind_alone xs (FirstUnmet span) AllMet (at scene name i) cuts good.0 i _ _ (item_alone xs scene name i item good.1)
    item_alone xs scene name i (Fixed e f span) good =
        alone xs (FirstUnmet span) (at scene name i) e Int good.0 _ _
        (λ v. ap (λ x. if equality true (value.Number i) v then x else AllMet)
        (unmet_alone ((name, Int) ∷ xs) (at scene name i) f good.1))
