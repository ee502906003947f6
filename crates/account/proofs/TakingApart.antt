-- The run of a statement is that of its tasks, one after the other.
use Rattle.std.proofs.Common.{◌≡◌, ℕ, suc, Bool, false, List, ◌∷◌, refl, ap, sym, ◌∙◌}
use Rattle.std.specs.Prelude.{drop, length}
use Rattle.std.proofs.Math.Path.{fun_ext}
use Rattle.pv_base.specs.declared.Name.{Name}
use Rattle.pv_base.specs.declared.Span.{Span}
use Rattle.pv_values.specs.declared.value.Value.{Value}
use Rattle.pv_picks.specs.declared.check.Check.TheVariants as check
use Rattle.pv_picks.specs.Plain.Core.{Target, Nowhere, ToVariable, ToField, ToElement, Right, Value', Call, NewObject, NewArray, Expression, Assign, Block, Program}
use Rattle.pv_picks.specs.Formulas.Values.{reference_in}
use Rattle.pv_picks.specs.Formulas.Evaluation.{Scene, evaluate_all}
use Rattle.pv_picks.specs.Judge.Settings.{Next, unless_null}
use Rattle.pv_picks.specs.Plain.Members.{predicate_named, method_named}
use Rattle.pv_picks.specs.Machine.Tasks.{AtFold, AtCall, Task, Unfolded, Run, tasks_of_right, tasks_of_statement}
use Rattle.pv_picks.specs.Machine.Frames.{top, topmost}
use Rattle.pv_picks.specs.Judge.Rows.{access_reader, compute, compute_all, call, right, locate}
use Rattle.pv_picks.specs.Judge.Judging.{fold_in, unfold_in, judge_block}
use Rattle.pv_picks.specs.Judge.Runs.{Judged, Maps}
use Rattle.account_formulas.specs.Runs.{truly}
use Rattle.account.specs.Running.{Body, compute_each, ran_step, ran}
use Rattle.account.proofs.Settling.{Alike, evaluate_alike, compute_alike, each_alike, pushed, under_pushed, topmost_pushed, beyond_pushed}

one_more : (n : ℕ) (ws : List Value) (o : Value) (values : List Value) → length ws ≡ n → drop (suc n) (pushed ws (o ∷ values))
    ≡ values
one_more n ws o values e = beyond_pushed n ws values o e

-- an object and its arguments, on the values
module _ (maps : Maps) (p : Program) (body : Body) (inner : Bool) (sc : Scene) where
  pub object_alike : (e : Expression) (arguments : List Expression) (values : List Value) (k : List Value → Next Judged)
      (l : Value → List Value → Next Judged)
      → ((o : Value) (ws : List Value) → length ws ≡ length arguments → k (pushed ws (o ∷ values)) ≡ l o ws)
      → Alike maps sc (compute (truly maps) e (λ o. compute_each (truly maps) p body arguments k (o ∷ values)))
      (compute (truly maps) e (λ o. compute_all (truly maps) arguments (l o)))
  object_alike e arguments values k l h s c =
      compute_alike maps sc e _ s c
      ∙ evaluate_alike maps sc e _ _ (λ o t d. each_alike maps sc p body arguments k (l o) (o ∷ values)
      (λ ws n u z. ap (λ f. f u) (h o ws n)) t d
      ∙ ap (λ z. evaluate_all (access_reader (truly maps)) (access_reader (truly maps)) z arguments (l o) t) (sym d)) s c
      ∙ sym (compute_alike maps sc e _ s c)

  call_same : (class method : Name) (span : Span) (ts : List Task) (values : List Value) (n : ℕ) (o : Value) (ws : List Value)
      → length ws ≡ n
      → ran_step (truly maps) p body (AtCall class method n span) (ran (truly maps) p body false ts) (pushed ws (o ∷ values))
      ≡ call (truly maps) (method_named p class method) (reference_in o) ws span
      (λ v. ran (truly maps) p body false ts (v ∷ values))
  call_same class method span ts values n o ws e =
      ap (λ l. call (truly maps) (method_named p class method) (reference_in (top l)) (topmost n (pushed ws (o ∷ values))) span
      (λ r. ran (truly maps) p body false ts (r ∷ drop (suc n) (pushed ws (o ∷ values))))) (under_pushed n ws (o ∷ values) e)
      ∙ ap (λ l. call (truly maps) (method_named p class method) (reference_in o) l span
      (λ r. ran (truly maps) p body false ts (r ∷ drop (suc n) (pushed ws (o ∷ values))))) (topmost_pushed n ws (o ∷ values) e)
      ∙ ap (λ l. call (truly maps) (method_named p class method) (reference_in o) ws span
      (λ r. ran (truly maps) p body false ts (r ∷ l))) (one_more n ws o values e)

  pub right_alike : (right' : Right) (span : Span) (ts : List Task) (values : List Value)
      → ((vs : List Value) → ran (truly maps) p body inner ts vs ≡ ran (truly maps) p body false ts vs)
      → Alike maps sc (ran (truly maps) p body inner (tasks_of_right right' span ts) values)
      (right (truly maps) p right' span (λ v. ran (truly maps) p body false ts (v ∷ values)))
  right_alike (Value' e) span ts values same s c = ap (λ k. compute (truly maps) e k s) (fun_ext (λ v. same (v ∷ values)))
  right_alike (NewObject class) span ts values same s c = refl
  right_alike (NewArray type e) span ts values same s c = refl
  right_alike (Call class method e arguments) span ts values same s c =
      object_alike e arguments values _ (λ o ws. call (truly maps) (method_named p class method) (reference_in o) ws span
      (λ v. ran (truly maps) p body false ts (v ∷ values)))
      (λ o ws n. call_same class method span ts values (length arguments) o ws n) s c

  pub target_alike : (target : Target) (right' : Right) (span : Span) (b : Block) (rest : List Task) (values : List Value)
      → Alike maps sc (ran (truly maps) p body inner (tasks_of_statement (Assign target right' span) (Run b ∷ rest)) values)
      (locate (truly maps) target (λ put. right (truly maps) p right' span
      (λ v. put v (judge_block (truly maps) p body.site b (ran (truly maps) p body false rest values)))))
  target_alike Nowhere right' span b rest values s c = right_alike right' span _ values (λ vs. refl) s c
  target_alike (ToVariable name) right' span b rest values s c = right_alike right' span _ values (λ vs. refl) s c
  target_alike (ToField e class name place) right' span b rest values s c =
      compute_alike maps sc e _ s c ∙ evaluate_alike maps sc e _ _ (λ o. right_alike right' span _ (o ∷ values) (λ vs. refl)) s c
      ∙ sym (compute_alike maps sc e _ s c)
  target_alike (ToElement type array index place) right' span b rest values s c =
      compute_alike maps sc array _ s c
      ∙ evaluate_alike maps sc array _ _ (λ a t d. compute_alike maps sc index _ t d
      ∙ evaluate_alike maps sc index _ _ (λ i. right_alike right' span _ (i ∷ a ∷ values) (λ vs. refl)) t d
      ∙ sym (compute_alike maps sc index _ t d)) s c
      ∙ sym (compute_alike maps sc array _ s c)

module _ (maps : Maps) (p : Program) (body : Body) (inner : Bool) (class predicate : Name) (span : Span) (b : Block)
    (rest : List Task) (values : List Value) where
  pub fold_same : (n : ℕ) (o : Value) (ws : List Value) → length ws ≡ n
      → ran_step (truly maps) p body (AtFold class predicate n span) (ran (truly maps) p body false (Run b ∷ rest))
      (pushed ws (o ∷ values))
      ≡ (λ s. unless_null (truly maps) (reference_in o) ((truly maps).failed check.Null span)
      (fold_in (truly maps) (predicate_named p class predicate) class (reference_in o) ws span
      (judge_block (truly maps) p body.site b (ran (truly maps) p body false rest values)) s))
  fold_same n o ws e =
      ap (λ l s. unless_null (truly maps) (reference_in (top l)) ((truly maps).failed check.Null span)
      (fold_in (truly maps) (predicate_named p class predicate) class (reference_in (top l))
      (topmost n (pushed ws (o ∷ values))) span (ran (truly maps) p body false (Run b ∷ rest)
      (drop (suc n) (pushed ws (o ∷ values)))) s)) (under_pushed n ws (o ∷ values) e)
      ∙ ap (λ l s. unless_null (truly maps) (reference_in o) ((truly maps).failed check.Null span)
      (fold_in (truly maps) (predicate_named p class predicate) class (reference_in o) l span
      (ran (truly maps) p body false (Run b ∷ rest) (drop (suc n) (pushed ws (o ∷ values)))) s))
      (topmost_pushed n ws (o ∷ values) e)
      ∙ ap (λ l s. unless_null (truly maps) (reference_in o) ((truly maps).failed check.Null span)
      (fold_in (truly maps) (predicate_named p class predicate) class (reference_in o) ws span
      (ran (truly maps) p body false (Run b ∷ rest) l) s)) (one_more n ws o values e)

  pub unfold_same : (n : ℕ) (o : Value) (ws : List Value) → length ws ≡ n
      → ran (truly maps) p body inner (Unfolded class predicate n span ∷ Run b ∷ rest) (pushed ws (o ∷ values))
      ≡ unfold_in (truly maps) (predicate_named p class predicate) class (reference_in o) ws span
      (judge_block (truly maps) p body.site b (ran (truly maps) p body false rest values))
  unfold_same n o ws e =
      ap (λ l. unfold_in (truly maps) (predicate_named p class predicate) class (reference_in (top l))
      (topmost n (pushed ws (o ∷ values))) span (ran (truly maps) p body false (Run b ∷ rest)
      (drop (suc n) (pushed ws (o ∷ values))))) (under_pushed n ws (o ∷ values) e)
      ∙ ap (λ l. unfold_in (truly maps) (predicate_named p class predicate) class (reference_in o) l span
      (ran (truly maps) p body false (Run b ∷ rest) (drop (suc n) (pushed ws (o ∷ values))))) (topmost_pushed n ws (o ∷ values) e)
      ∙ ap (λ l. unfold_in (truly maps) (predicate_named p class predicate) class (reference_in o) ws span
      (ran (truly maps) p body false (Run b ∷ rest) l)) (one_more n ws o values e)
