-- Evaluation with two related readers comes to related rests.
use Rattle.std.proofs.Common.{ℕ, ℤ, Bool, true, false, if◌then◌else◌, List, [], ◌∷◌}
use Rattle.pv_base.specs.declared.Name.{Name}
use Rattle.pv_base.specs.declared.Span.{Span}
use Rattle.pv_ast.specs.declared.PvType.{PvType}
use Rattle.pv_values.specs.declared.value.Value.{Value}
use Rattle.pv_picks.specs.Plain.Core.{Operation, Manner, Expression, Constant, This, Result, Variable, Field, Element, Length, Not, Compute, Compare, Equal, And, Or, Implies, Old}
use Rattle.pv_picks.specs.Formulas.Values.{truth_in}
use Rattle.pv_picks.specs.Formulas.Evaluation.{Scene, Reader, evaluate, evaluate_all}

pub record ReadersRelated {X Y : Type 0} (Q : X → Y → Type 0) (one : Reader X) (other : Reader Y) : Type 0 where
  pub field : (c : Name) (o : ℕ) (n : Name) (s : Span) (f : Value → X) (g : Value → Y) → ((v : Value) → Q (f v) (g v))
      → Q (one.field c o n s f) (other.field c o n s g)
  pub element : (t : PvType) (a : ℕ) (i : ℤ) (s : Span) (f : Value → X) (g : Value → Y) → ((v : Value) → Q (f v) (g v))
      → Q (one.element t a i s f) (other.element t a i s g)
  pub length : (t : PvType) (a : ℕ) (s : Span) (f : ℤ → X) (g : ℤ → Y) → ((z : ℤ) → Q (f z) (g z))
      → Q (one.length t a s f) (other.length t a s g)
  pub operation : (m : Manner) (o : Operation) (a b : ℤ) (s : Span) (f : ℤ → X) (g : ℤ → Y) → ((z : ℤ) → Q (f z) (g z))
      → Q (one.operation m o a b s f) (other.operation m o a b s g)
  pub comparing : (a b : ℤ) (x : X) (y : Y) → Q x y → Q (one.comparing a b x) (other.comparing a b y)
  pub matching : (v w : Value) (x : X) (y : Y) → Q x y → Q (one.matching v w x) (other.matching v w y)
  pub deciding : (b : Bool) (x : X) (y : Y) → Q x y → Q (one.deciding b x) (other.deciding b y)

pub if_related : {X Y : Type 0} (Q : X → Y → Type 0) (b : Bool) (x u : X) (y w : Y) → Q x y → Q u w
    → Q (if b then x else u) (if b then y else w)
if_related Q true x u y w p q = p
if_related Q false x u y w p q = q

module _ {X Y : Type 0} (Q : X → Y → Type 0) where
  pub evaluate_related : (now : Reader X) (present : Reader Y) (old : Reader X) (former : Reader Y) → ReadersRelated Q now present
      → ReadersRelated Q old former
      → (s : Scene) (e : Expression) (f : Value → X) (g : Value → Y) → ((v : Value) → Q (f v) (g v))
      → Q (evaluate now old s e f) (evaluate present former s e g)
  evaluate_related n m o k r q s (Constant v) f g h = h v
  evaluate_related n m o k r q s This f g h = h _
  evaluate_related n m o k r q s Result f g h = h _
  evaluate_related n m o k r q s (Variable x) f g h = h _
  evaluate_related n m o k r q s (Field e c x p) f g h = evaluate_related n m o k r q s e _ _ (λ v. r.field c _ x p f g h)
  evaluate_related n m o k r q s (Element t a i p) f g h =
      evaluate_related n m o k r q s a _ _ (λ v. evaluate_related n m o k r q s i _ _ (λ w. r.element t _ _ p f g h))
  evaluate_related n m o k r q s (Length t a p) f g h = evaluate_related n m o k r q s a _ _ (λ v. r.length t _ p _ _ (λ z. h _))
  evaluate_related n m o k r q s (Not e) f g h = evaluate_related n m o k r q s e _ _ (λ v. h _)
  evaluate_related n m o k r q s (Compute manner op a b p) f g h =
      evaluate_related n m o k r q s a _ _ (λ v. evaluate_related n m o k r q s b _ _
      (λ w. r.operation manner op _ _ p _ _ (λ z. h _)))
  evaluate_related n m o k r q s (Compare op a b) f g h =
      evaluate_related n m o k r q s a _ _ (λ v. evaluate_related n m o k r q s b _ _ (λ w. r.comparing _ _ _ _ (h _)))
  evaluate_related n m o k r q s (Equal same a b) f g h =
      evaluate_related n m o k r q s a _ _ (λ v. evaluate_related n m o k r q s b _ _ (λ w. r.matching _ _ _ _ (h _)))
  evaluate_related n m o k r q s (And a b) f g h =
      evaluate_related n m o k r q s a _ _
      (λ v. r.deciding _ _ _ (if_related Q (truth_in v) _ _ _ _ (evaluate_related n m o k r q s b f g h) (h _)))
  evaluate_related n m o k r q s (Or a b) f g h =
      evaluate_related n m o k r q s a _ _
      (λ v. r.deciding _ _ _ (if_related Q (truth_in v) _ _ _ _ (h _) (evaluate_related n m o k r q s b f g h)))
  evaluate_related n m o k r q s (Implies a b) f g h =
      evaluate_related n m o k r q s a _ _
      (λ v. r.deciding _ _ _ (if_related Q (truth_in v) _ _ _ _ (evaluate_related n m o k r q s b f g h) (h _)))
  evaluate_related n m o k r q s (Old e) f g h = evaluate_related o k o k q q s e f g h

  pub evaluate_all_related : (now : Reader X) (present : Reader Y) (old : Reader X) (former : Reader Y)
      → ReadersRelated Q now present → ReadersRelated Q old former
      → (s : Scene) (es : List Expression) (f : List Value → X) (g : List Value → Y) → ((vs : List Value) → Q (f vs) (g vs))
      → Q (evaluate_all now old s es f) (evaluate_all present former s es g)
  evaluate_all_related n m o k r q s [] f g h = h []
  evaluate_all_related n m o k r q s (e ∷ es) f g h =
      evaluate_related n m o k r q s e _ _ (λ v. evaluate_all_related n m o k r q s es _ _ (λ vs. h (v ∷ vs)))
