-- Invariants and classes, as the code's loops go on, where n constructs may still be opened.
use Rattle.std.proofs.Common.{ℕ, ◌≡◌, ◌<◌, List, [], ◌∷◌, ◌++◌, length, Some, None, Bool}
use Rattle.pv_base.specs.declared.Span.{Span}
use Rattle.pv_tokens.specs.declared.fixed.TheConstants.{LOOP_INVARIANT}
use Rattle.pv_ast.specs.declared.Expr.{Expr}
use Rattle.pv_ast.specs.declared.Class.{Class}
use Rattle.pv_reading.specs.Given.{ahead}
use Rattle.pv_reading.specs.Marks.{Tokens}
use Rattle.pv_reading.specs.Reading.{Good, onward, is_fixed}
use Rattle.pv_exprs.specs.Reading.{deeper}
use Rattle.pv_reading.proofs.Turns.{repeated_end, repeated_next, repeated_step, repeated_smaller}
use Rattle.pv_parser.specs.Words.{class_of}
use Rattle.pv_parser.specs.Reading as reading
use Rattle.pv_parser.specs.Reading.{deeper_blocks}
use Rattle.pv_parser.proofs.Eating.{invariant_keeps, class_keeps}

module _ (n : ℕ) where
  pub invariants_end : (found : List Expr) (ts : Tokens) → ahead (is_fixed LOOP_INVARIANT) ts ≡ None
      → reading.invariants (deeper n) found ts ≡ Good found ts
  unfolding reading.invariants
  invariants_end found ts h =
      repeated_end (is_fixed LOOP_INVARIANT) (λ t s. reading.invariant (deeper n)) (λ t s. invariant_keeps n) found ts h

  module _ (ts us : Tokens) (s : Span) (h : ahead (is_fixed LOOP_INVARIANT) ts ≡ Some (tt, s, us)) where
    pub invariants_next : (found : List Expr)
        → reading.invariants (deeper n) found ts ≡ onward (λ x. reading.invariants (deeper n) (found ++ x ∷ []))
        (reading.invariant (deeper n) us)
    unfolding reading.invariants
    invariants_next found =
        repeated_next (is_fixed LOOP_INVARIANT) (λ t s. reading.invariant (deeper n))
        (λ t s. invariant_keeps n) found ts us tt s h

    pub invariants_step : (found all : List Expr) (vs : Tokens) (x : Expr) → reading.invariant (deeper n) us ≡ Good x vs
        → all ≡ found ++ x ∷ [] → reading.invariants (deeper n) found ts ≡ reading.invariants (deeper n) all vs
    unfolding reading.invariants
    invariants_step found all vs x g a =
        repeated_step (is_fixed LOOP_INVARIANT) (λ t s. reading.invariant (deeper n))
        (λ t s. invariant_keeps n) found ts us tt s h all vs x g a

    pub invariants_smaller : (vs : Tokens) (x : Expr) → reading.invariant (deeper n) us ≡ Good x vs → length vs < length ts
    invariants_smaller vs x g =
        repeated_smaller (is_fixed LOOP_INVARIANT) (λ t s. reading.invariant (deeper n))
        (λ t s. invariant_keeps n) ts us vs tt s x h g

  pub classes_end : (found : List Class) (ts : Tokens) → ahead class_of ts ≡ None → reading.classes n found ts ≡ Good found ts
  unfolding reading.classes
  classes_end found ts h = repeated_end class_of (reading.class_from (deeper n) (deeper_blocks n)) (class_keeps n) found ts h

  module _ (ts us : Tokens) (b : Bool) (s : Span) (h : ahead class_of ts ≡ Some (b, s, us)) where
    pub classes_next : (found : List Class)
        → reading.classes n found ts ≡ onward (λ x. reading.classes n (found ++ x ∷ []))
        (reading.class_from (deeper n) (deeper_blocks n) b s us)
    unfolding reading.classes
    classes_next found =
        repeated_next class_of (reading.class_from (deeper n) (deeper_blocks n)) (class_keeps n) found ts us b s h

    pub classes_step : (found all : List Class) (vs : Tokens) (x : Class)
        → reading.class_from (deeper n) (deeper_blocks n) b s us ≡ Good x vs → all ≡ found ++ x ∷ []
        → reading.classes n found ts ≡ reading.classes n all vs
    unfolding reading.classes
    classes_step found all vs x g a =
        repeated_step class_of (reading.class_from (deeper n) (deeper_blocks n)) (class_keeps n) found ts us b s h all vs x g a

    pub classes_smaller : (vs : Tokens) (x : Class) → reading.class_from (deeper n) (deeper_blocks n) b s us ≡ Good x vs
        → length vs < length ts
    classes_smaller vs x g =
        repeated_smaller class_of (reading.class_from (deeper n) (deeper_blocks n)) (class_keeps n) ts us vs b s x h g
