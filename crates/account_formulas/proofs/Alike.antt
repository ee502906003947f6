-- What is owned in one scene is owned in another one that agrees with it on the variables in scope, and in another old heap where
-- the formula doesn't speak of it.
use Rattle.std.proofs.Common.{◌∙◌, ◌≡◌, ℕ, ℤ, Bool, true, false, if◌then◌else◌, IsTrue, Option, Some, None, List, [], ◌∷◌, refl, ap, sym, subst, inl, inr}
use Rattle.std.specs.Prelude.{nat_eq}
use Rattle.std.proofs.Math.Path.{fun_ext}
use Rattle.pv_base.specs.declared.Name.{Name}
use Rattle.pv_ast.specs.declared.PvType.{PvType}
use Rattle.pv_ast.specs.declared.PvType.TheVariants.{Int, Truth, Object}
use Rattle.pv_values.specs.declared.value.Value.{Value}
use Rattle.pv_values.specs.declared.value.Value.TheVariants as value
use Rattle.pv_picks.specs.Plain.Core.{Expression, Constant, This, Result, Variable, Field, Element, Length, Not, Compute, Compare, Equal, And, Or, Implies, Old, Parameter, Cut, Formula, Fact, FieldPermission, ElementPermission, Holds, Instance, Star, When, Each, Items, NoItems, Join, Item, Elements, Repeated, Committed, Guarded, Fixed}
use Rattle.pv_picks.specs.Formulas.Values.{number_in, truth_in, reference_in, array_of}
use Rattle.pv_picks.specs.Formulas.Evaluation.{Scene, Reader, evaluate, evaluate_all}
use Rattle.pv_picks.specs.Formulas.Heaps.{Heap}
use Rattle.pv_picks.specs.Formulas.Meeting.{Sight, at, heap_reader, guard_term}
use Rattle.pv_picks.specs.Judge.States.{InField, InElement}
use Rattle.pv_picks.specs.Machine.Frames.{outer_scene}
use Rattle.pv_picks.specs.Judge.Repetitions.{Range, cut_by}
use Rattle.pv_picks.specs.Typing.Expressions.{Home, Speech, type_in, Says, AllSay}
use Rattle.account_formulas.specs.Sights.{value_at, values_at}
use Rattle.account_formulas.specs.Agreeing.{ScenesAgree}
use Rattle.account_formulas.specs.Sights.{SceneFits}
use Rattle.pv_picks.specs.Typing.Frames.{HasType}
use Rattle.account_formulas.specs.Good.{IsGood, AreGoodItems, IsGoodItem, AreGoodCuts, type_of_cut}
use Rattle.account_formulas.specs.Owning
use Rattle.account_formulas.proofs.Steady.{if_same}
use Rattle.account_formulas.specs.Owning.{Amounts, Owns, OwnsItems, OwnsItem, CutsTo}

pub agree_at : (speech : Speech) (xs : List Parameter) (a b : Scene) (name : Name) (i : ℤ) → ScenesAgree speech xs a b
    → ScenesAgree speech ((name, Int) ∷ xs) (at a name i) (at b name i)
agree_at speech xs a b name i s = record { this = s.this; variables = λ x type. go x type (nat_eq x.0 name.0); result = s.result }
  where
    go : (x : Name) (type : PvType) (t : Bool) → (if t then Some Int else type_in xs x) ≡ Some type
        → (if t then value.Number i else a.variables x.0) ≡ (if t then value.Number i else b.variables x.0)
    go x type true is = refl
    go x type false is = s.variables x type is

pub scene_typed : (h : Home) (speech : Speech) (xs : List Parameter) (heap : Heap) (a b : Scene) → ScenesAgree speech xs a b
    → SceneFits h speech xs heap a → SceneFits h speech xs heap b
scene_typed h speech xs heap a b s fits = record {
  this = subst (λ x. HasType heap (Object h.class) (value.Reference x)) s.this fits.this;
  variables = λ n t is. subst (HasType heap t) (s.variables n t is) (fits.variables n t is);
  result = λ t is. subst (HasType heap t) (s.result t is) (fits.result t is);
}

pub agree_back : (speech : Speech) (xs : List Parameter) (a b : Scene) → ScenesAgree speech xs a b → ScenesAgree speech xs b a
agree_back speech xs a b s =
    record { this = sym s.this; variables = λ n t is. sym (s.variables n t is); result = λ t is. sym (s.result t is) }

pub agree_then : (speech : Speech) (xs : List Parameter) (a b c : Scene) → ScenesAgree speech xs a b → ScenesAgree speech xs b c
    → ScenesAgree speech xs a c
agree_then speech xs a b c s t =
    record {
      this = s.this ∙ t.this;
      variables = λ n k is. s.variables n k is ∙ t.variables n k is;
      result = λ k is. s.result k is
          ∙ t.result k is;
    }

module _ {R : Type 0} (h : Home) (speech : Speech) where
  pub alike : (n o q : Reader R) → (IsTrue speech.old → o ≡ q) → (xs : List Parameter) (a b : Scene) → ScenesAgree speech xs a b
      → (e : Expression) (type : PvType) → Says h speech xs e type → (k l : Value → R) → ((v : Value) → k v ≡ l v)
      → evaluate n o a e k ≡ evaluate n q b e l
  alike n o q old xs a b s (Constant v) type says k l f = f v
  alike n o q old xs a b s This type says k l f = f (value.Reference a.this) ∙ ap (λ x. l (value.Reference x)) s.this
  alike n o q old xs a b s Result type says k l f = f a.result ∙ ap l (s.result type says)
  alike n o q old xs a b s (Variable x) type says k l f = f (a.variables x.0) ∙ ap l (s.variables x type says)
  alike n o q old xs a b s (Field e class x span) type says k l f =
      alike n o q old xs a b s e (Object class) says.0 _ _ (λ v. ap (λ g. n.field class (reference_in v) x span g) (fun_ext f))
  alike n o q old xs a b s (Element t array index span) type says k l f =
      alike n o q old xs a b s array (array_of t) says.0 _ _
      (λ v. alike n o q old xs a b s index Int says.1 _ _
      (λ j. ap (λ g. n.element t (reference_in v) (number_in j) span g) (fun_ext f)))
  alike n o q old xs a b s (Length t array span) type says k l f =
      alike n o q old xs a b s array (array_of t) says.0 _ _
      (λ v. ap (λ g. n.length t (reference_in v) span g) (fun_ext (λ z. f (value.Number z))))
  alike n o q old xs a b s (Not e) type says k l f = alike n o q old xs a b s e Truth says.0 _ _ (λ v. f _)
  alike n o q old xs a b s (Compute manner op d e span) type says k l f =
      alike n o q old xs a b s d Int says.0 _ _ (λ x. alike n o q old xs a b s e Int says.1 _ _
      (λ y. ap (λ g. n.operation manner op (number_in x) (number_in y) span g) (fun_ext (λ z. f (value.Number z)))))
  alike n o q old xs a b s (Compare order d e) type says k l f =
      alike n o q old xs a b s d Int says.0 _ _ (λ x. alike n o q old xs a b s e Int says.1 _ _
      (λ y. ap (λ g. n.comparing (number_in x) (number_in y) g) (f _)))
  alike n o q old xs a b s (Equal same d e) type says k l f =
      alike n o q old xs a b s d says.0 says.1 _ _ (λ x. alike n o q old xs a b s e says.0 says.2 _ _
      (λ y. ap (λ g. n.matching x y g) (f _)))
  alike n o q old xs a b s (And d e) type says k l f = alike n o q old xs a b s d Truth says.0 _ _
      (λ x. ap (λ g. n.deciding (truth_in x) g) (if_same (truth_in x) _ _ _ _ (alike n o q old xs a b s e Truth says.1 k l f)
      (f (value.Truth false))))
  alike n o q old xs a b s (Or d e) type says k l f = alike n o q old xs a b s d Truth says.0 _ _
      (λ x. ap (λ g. n.deciding (truth_in x) g) (if_same (truth_in x) _ _ _ _ (f (value.Truth true))
      (alike n o q old xs a b s e Truth says.1 k l f)))
  alike n o q old xs a b s (Implies d e) type says k l f = alike n o q old xs a b s d Truth says.0 _ _
      (λ x. ap (λ g. n.deciding (truth_in x) g) (if_same (truth_in x) _ _ _ _ (alike n o q old xs a b s e Truth says.1 k l f)
      (f (value.Truth true))))
  alike n o q old xs a b s (Old e) type says k l f =
      ap (λ r. evaluate r r a e k) (old says.0) ∙ alike q q q (λ t. refl) xs a b s e type says.1 k l f

  pub all_alike : (n o q : Reader R) → (IsTrue speech.old → o ≡ q) → (xs : List Parameter) (a b : Scene)
      → ScenesAgree speech xs a b
      → (es : List Expression) (types : List PvType) → AllSay h speech xs es types → (k l : List Value → R)
      → ((vs : List Value) → k vs ≡ l vs) → evaluate_all n o a es k ≡ evaluate_all n q b es l
  all_alike n o q old xs a b s [] [] say k l f = f []
  all_alike n o q old xs a b s [] (t ∷ types) say k l f = absurd say
  all_alike n o q old xs a b s (e ∷ es) [] say k l f = absurd say
  all_alike n o q old xs a b s (e ∷ es) (t ∷ types) say k l f =
      alike n o q old xs a b s e t say.0 _ _ (λ v. all_alike n o q old xs a b s es types say.1 _ _ (λ vs. f (v ∷ vs)))

module _ (h : Home) (speech : Speech) (flags : ℕ → Bool) (one two : Sight) (now : two.now ≡ one.now)
    (old : IsTrue speech.old → two.old ≡ one.old) where
  pub same_value : (xs : List Parameter) (a b : Scene) → ScenesAgree speech xs a b → (e : Expression) (type : PvType)
      → Says h speech xs e type → value_at two b e ≡ value_at one a e
  same_value xs a b s e type says =
      ap (λ z. evaluate (heap_reader None z) (heap_reader None two.old) b e Some) now
      ∙ sym (alike h speech (heap_reader None one.now) (heap_reader None one.old) (heap_reader None two.old)
      (λ t. ap (heap_reader None) (sym (old t))) xs a b s e type says Some Some (λ v. refl))

  same_values : (xs : List Parameter) (a b : Scene) → ScenesAgree speech xs a b → (es : List Expression) (types : List PvType)
      → AllSay h speech xs es types → values_at two b es ≡ values_at one a es
  same_values xs a b s es types say =
      ap (λ z. evaluate_all (heap_reader None z) (heap_reader None two.old) b es Some) now
      ∙ sym (all_alike h speech (heap_reader None one.now) (heap_reader None one.old) (heap_reader None two.old)
      (λ t. ap (heap_reader None) (sym (old t))) xs a b s es types say Some Some (λ v. refl))

  cuts_alike : (xs : List Parameter) (a b : Scene) → ScenesAgree speech xs a b → (cuts : List Cut) → AreGoodCuts h speech xs cuts
      → (r : Range) (last : Option Range) → CutsTo one a cuts r last → CutsTo two b cuts r last
  cuts_alike xs a b s [] good r last c = c
  cuts_alike xs a b s (cut ∷ cuts) good r last (inl c) = inl c
  cuts_alike xs a b s (cut ∷ cuts) good r last (inr c) =
      inr (
        c.0,
        (
          c.1.0,
          same_value xs a b s (guard_term cut) (type_of_cut cut) good.0 ∙ c.1.1,
          cuts_alike xs a b s cuts good.1 (cut_by cut c.1.0 r) last c.1.2,
        ),
      )

  mutual
    pub owns_alike : (xs : List Parameter) (a b : Scene) → ScenesAgree speech xs a b → (f : Formula) → IsGood h speech xs f
        → (R : Amounts) → Owns h.program flags one a f R → Owns h.program flags two b f R
    owns_alike xs a b s (Fact e span) good R (Owning.fact v is t) = Owning.fact v (same_value xs a b s e Truth good ∙ is) t
    owns_alike xs a b s (FieldPermission e class name type amount span) good R (Owning.field o is placed enough) =
        Owning.field o (same_value xs a b s e (Object class) good.0 ∙ is)
        (subst (λ z. Owning.IsPlaced z (InField class (reference_in o) name)) (sym now) placed) enough
    owns_alike xs a b s (ElementPermission type array index amount span) good R (Owning.element v i is_v is_i placed enough) =
        Owning.element v i (same_value xs a b s array (array_of type) good.0 ∙ is_v) (same_value xs a b s index Int good.1 ∙ is_i)
        (subst (λ z. Owning.IsPlaced z (InElement type (reference_in v) (number_in i))) (sym now) placed) enough
    owns_alike xs a b s (Holds k class e span) good R (Owning.holds o is apart class' enough) =
        Owning.holds o (same_value xs a b s e (Object class) good ∙ is) apart
        (subst (λ z. z.class (reference_in o) ≡ Some class) (sym now) class') enough
    owns_alike xs a b s (Holds k class e span) good R (Owning.known o is c flag) =
        Owning.known o (same_value xs a b s e (Object class) good ∙ is) c flag
    owns_alike xs a b s (Instance class name e arguments span) good R (Owning.folded o vs d is_o is_vs named owns) =
        Owning.folded o vs d (same_value xs a b s e (Object class) good.0 ∙ is_o)
        (same_values xs a b s arguments _ good.1.2 ∙ is_vs) named
        (subst (λ z. Owns h.program flags (record { now = z; old = z }) (outer_scene (reference_in o) d.parameters vs) d.body R)
        (sym now) owns)
    owns_alike xs a b s (Star f g) good R (Owning.star A B first second parts) =
        Owning.star A B (owns_alike xs a b s f good.0 A first) (owns_alike xs a b s g good.1 B second) parts
    owns_alike xs a b s (When e f span) good R (Owning.when_on v is t owns) =
        Owning.when_on v (same_value xs a b s e Truth good.0 ∙ is) t (owns_alike xs a b s f good.1 R owns)
    owns_alike xs a b s (When e f span) good R (Owning.when_off v is t) =
        Owning.when_off v (same_value xs a b s e Truth good.0 ∙ is) t
    owns_alike xs a b s (Each name low high items span) good R (Owning.each l u is_l is_u owns) =
        Owning.each l u (same_value xs a b s low Int good.0 ∙ is_l) (same_value xs a b s high Int good.1 ∙ is_u)
        (items_alike xs a b s name (number_in l) (number_in u) items good.3 R owns)

    items_alike : (xs : List Parameter) (a b : Scene) → ScenesAgree speech xs a b → (name : Name) (low high : ℤ) (is : Items)
        → AreGoodItems h speech xs name is → (R : Amounts)
        → OwnsItems h.program flags one a name low high is R → OwnsItems h.program flags two b name low high is R
    items_alike xs a b s name low high NoItems good R Owning.no_items = Owning.no_items
    items_alike xs a b s name low high (Join i is) good R (Owning.joined A B first second parts) =
        Owning.joined A B (item_alike xs a b s name _ i good.0 A first)
        (items_alike xs a b s name low high is good.1 B second) parts

    item_alike : (xs : List Parameter) (a b : Scene) → ScenesAgree speech xs a b → (name : Name) (r : Range) (i : Item)
        → IsGoodItem h speech xs name i → (R : Amounts)
        → OwnsItem h.program flags one a name r i R → OwnsItem h.program flags two b name r i R
    item_alike xs a b s name r i good R (Owning.nothing empty) = Owning.nothing empty
    item_alike xs a b s name r (Elements type array shift amount span) good R (Owning.elements v is all) =
        Owning.elements v (same_value xs a b s array (array_of type) good.0 ∙ is)
        (λ i w. (subst (λ z. Owning.IsPlaced z (InElement type (reference_in v) i)) (sym now) (all i w).0, (all i w).1))
    item_alike xs a b s name r (Repeated e span) good R (Owning.repeated all) =
        Owning.repeated (λ i w. (
          (all i w).0,
          same_value ((name, Int)
              ∷ xs) (at a name i) (at b name i) (agree_at speech xs a b name i s) e Truth good.0 ∙ (all i w).1,
          (all i w).2,
        ))
    item_alike xs a b s name r (Committed class e span) good R (Owning.committed o is flag) =
        Owning.committed o (same_value xs a b s e (Object class) good ∙ is) flag
    item_alike xs a b s name r (Guarded cuts i span) good R (Owning.cut_off c) =
        Owning.cut_off (cuts_alike xs a b s cuts good.0 r None c)
    item_alike xs a b s name r (Guarded cuts i span) good R (Owning.cut x c owns) =
        Owning.cut x (cuts_alike xs a b s cuts good.0 r (Some x) c) (item_alike xs a b s name x i good.1 R owns)
    item_alike xs a b s name r (Fixed e f span) good R (Owning.fixed v is w owns) =
        Owning.fixed v (same_value xs a b s e Int good.0 ∙ is) w
        (owns_alike ((name, Int) ∷ xs) (at a name (number_in v)) (at b name (number_in v))
        (agree_at speech xs a b name (number_in v) s) f good.1 R owns)
    item_alike xs a b s name r (Fixed e f span) good R (Owning.beside v is w) =
        Owning.beside v (same_value xs a b s e Int good.0 ∙ is) w
