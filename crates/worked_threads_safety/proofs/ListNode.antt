-- A list that is gone through by a recursive predicate and a recursive method: whatever is picked, the judge fails on no unit.
use Rattle.std.proofs.Common.{◌≡◌, ℕ, ℤ, pos, true, false, if◌then◌else◌, Option, Some, None, List, [], ◌∷◌, refl, ap}
use Rattle.std.specs.Prelude.{◌-◌, ◌+ℤ◌, ◌++◌, nat_eq, nat_le}
use Rattle.pv_base.specs.declared.Name.{Name}
use Rattle.pv_base.specs.declared.Span.{Span}
use Rattle.pv_ast.specs.declared.PvType.TheVariants as type
use Rattle.pv_values.specs.declared.value.Value.{Value}
use Rattle.pv_values.specs.declared.value.Value.TheVariants as value
use Rattle.pv_fraction.specs.Amounts.{whole}
use Rattle.pv_picks.specs.declared.check.Check.TheVariants as check
use Rattle.pv_picks.specs.declared.evidence.Entry.{Entry}
use Rattle.pv_picks.specs.declared.unit.Part.TheVariants as part
use Rattle.pv_picks.specs.Plain.Core.{This, Variable, Field, Equal, Constant, Compute, Plain, Plus, Instance, Block, Stop, Then, Fold, Unfold, If, Assign, ToVariable, NewObject, Nowhere, ToField, Value', Call}
use Rattle.pv_picks.specs.Formulas.Values.{no_variables, reference_in}
use Rattle.pv_picks.specs.Plain.Members.{predicate_named, method_named}
use Rattle.pv_picks.specs.Judge.Rows.{Site, call}
use Rattle.pv_picks.specs.Judge.States.{State, Folded, Holding, Written, Resource, InField, amount_of, cells_of, with_amount, with_value, with_cell, with_met, with_local, with_instances, without_instance}
use Rattle.pv_picks.specs.Judge.Settings.{Setting, Next, null}
use Rattle.pv_picks.specs.Judge.Judging.{judge_block, fold_in, at_body_end}
use Rattle.pv_picks.specs.Judge.Runs.{Maps, Judged, judging}
use Rattle.pv_picks.specs.Judge.UnitRuns.{of_method, judge_task, task_of}
use Rattle.worked_programs.specs.Nodes.{name, at}
use Rattle.worked_programs.specs.CoreNodes.{always}
use Rattle.worked_programs.specs.CoreWitnesses.{list}
use Rattle.worked_forms.proofs.Safely.{Safe, blocks, finishes, picked, signed, tested, passed, failed, turned, same_self}
use Rattle.worked_threads_safety.proofs.Rows.{unit, entered, remembered, gains, gains_reference, reads, takes, unless}

abbrev number_in : ℕ → Resource
number_in n = InField (name 0) n (name 1)

abbrev next_in : ℕ → Resource
next_in n = InField (name 0) n (name 2)

abbrev folded : ℕ → Folded
folded n = record { class = name 0; predicate = name 3; object = n; arguments = [] }

-- the rest of the list, which is folded
abbrev behind : ℕ → List Folded
behind m = if nat_eq m 0 then [] else folded m ∷ []

abbrev whole_of : Value → Option Holding
whole_of v = Some (record { amount = whole; cell = Written v })

module _ (maps : Maps) (table : List Entry) where
  abbrev S : Setting Judged
  S = judging maps table

  abbrev site : Site
  site = of_method no_variables

  abbrev on : Block → State → Judged
  on b = judge_block S list site b
      (at_body_end S site check.Ensures (Instance (name 0) (name 3) This [] (at 153 159)))

  abbrev folding : Block
  folding = Then (Fold (name 0) (name 3) This [] (at 250 262)) Stop

  -- a node is unfolded, and this node is next
  record Node (n m : ℕ) (s : State) : Type 0 where
    number : ℤ
    at_number : s.held (number_in n) ≡ whole_of (value.Number number)
    at_next : s.held (next_in n) ≡ whole_of (value.Reference m)
    rest : s.instances ≡ behind m

  -- the rest is there where something is next
  behind_some : (m : ℕ) (instances : List Folded) → instances ≡ behind m → nat_eq m 0 ≡ false
      → without_instance (folded m) instances ≡ Some []
  behind_some m instances is some = rw (is, some, same_self m) refl

  behind_none : (m : ℕ) (instances : List Folded) → instances ≡ behind m → nat_eq m 0 ≡ true → instances ≡ []
  behind_none m instances is none = rw (is, none) refl

  -- the promise at the end
  ends : (s : State) → s.instances ≡ folded s.this ∷ []
      → Safe (at_body_end S site check.Ensures (Instance (name 0) (name 3) This [] (at 153 159)) s)
  ends s is =
      takes maps table (without_instance (folded s.this) s.instances) [] _ _ s (rw (is, same_self s.this) refl) finishes

  -- without the number, and without what is next
  abbrev less : ℕ → State → State
  less n s = with_amount s (number_in n) (amount_of s (number_in n) - whole)

  abbrev given : ℕ → State → State
  given n s = with_amount (less n s) (next_in n) (amount_of (less n s) (next_in n) - whole)

  fold_row : (n m : ℕ) (span : Span) (next : Next Judged) (s : State) → Node n m s
      → ((instances : List Folded) → instances ≡ folded n ∷ [] → Safe (next (with_instances (given n s) instances)))
      → Safe (fold_in S (predicate_named list (name 0) (name 3)) (name 0) n [] span next s)
  fold_row n m span next s h k =
      passed (nat_le whole (amount_of s (number_in n))) _ _ (rw (h.at_number) refl)
      (passed (nat_le whole (amount_of (less n s) (next_in n))) _ _ (rw (same_self n, h.at_next) refl)
      (reads maps table (cells_of s (next_in n)) (value.Reference m) _ _ (given n s) (rw (h.at_next) refl)
      (unless (nat_eq m 0) _ _
      (λ some. reads maps table (cells_of s (next_in n)) (value.Reference m) _ _ (given n s) (rw (h.at_next) refl)
      (takes maps table (without_instance (folded m) s.instances) [] _ _ (given n s) (behind_some m s.instances h.rest some)
      (k ([] ++ folded n ∷ []) refl)))
      (λ none. k (s.instances ++ folded n ∷ []) (rw (behind_none m s.instances h.rest none) refl)))))

  call_row : (n : ℕ) (span : Span) (next : Value → Next Judged) (s : State) → nat_eq n 0 ≡ false
      → without_instance (folded n) s.instances ≡ Some [] → Safe (next null (with_instances s ([] ++ folded n ∷ [])))
      → Safe (call S (method_named list (name 0) (name 4)) n [] span next s)
  call_row n span next s there found h =
      failed (nat_eq n 0) _ _ there (takes maps table (without_instance (folded n) s.instances) [] _ _ s found h)

  folds : (m : ℕ) (s : State) → nat_eq s.this 0 ≡ false → Node s.this m s → Safe (on folding s)
  folds m s there h =
      failed (nat_eq s.this 0) _ _ there
      (fold_row s.this m (at 250 262) (on Stop) s h λ instances is. ends (with_instances (given s.this s) instances) is)

  abbrev calling : Block
  calling = Then
      (If (Equal false (Field This (name 0) (name 2) (at 217 221)) (Constant (value.Reference 0)))
      (Then (Assign Nowhere (Call (name 0) (name 4) (Field This (name 0) (name 2) (at 233 237)) []) (at 233 243)) Stop) Stop)
      folding

  calls : (m : ℕ) (s : State) → nat_eq s.this 0 ≡ false → Node s.this m s → Safe (on calling s)
  calls m s there h =
      failed (nat_eq s.this 0) _ _ there
      (reads maps table (cells_of s (next_in s.this)) (value.Reference m) _ _ s (rw (h.at_next) refl)
      (unless (nat_eq m 0) _ _
      (λ some. failed (nat_eq s.this 0) _ _ there
      (reads maps table (cells_of s (next_in s.this)) (value.Reference m) _ _ s (rw (h.at_next) refl)
      (call_row m (at 233 243) (λ v. on folding) s some (behind_some m s.instances h.rest some)
      (folds m (with_instances s ([] ++ folded m ∷ [])) there
      (record { number = h.number; at_number = h.at_number; at_next = h.at_next; rest = rw (some) refl })))))
      (λ none. folds m s there h)))

  abbrev writing : Block
  writing = Then
      (Assign (ToField This (name 0) (name 1) (at 198 199))
      (Value' (Compute Plain Plus (Field This (name 0) (name 1) (at 202 203)) (Constant (value.Number (pos 1))) (at 202 207)))
      (at 198 208))
      calling

  writes : (m : ℕ) (s : State) → nat_eq s.this 0 ≡ false → Node s.this m s → Safe (on writing s)
  writes m s there h =
      failed (nat_eq s.this 0) _ _ there
      (reads maps table (cells_of s (number_in s.this)) (value.Number h.number) _ _ s (rw (h.at_number) refl)
      (failed (nat_eq s.this 0) _ _ there
      (passed (nat_le whole (amount_of s (number_in s.this))) _ _ (rw (h.at_number) refl)
      (calls m (with_value s (number_in s.this) (value.Number (h.number +ℤ pos 1))) there (record {
        number = h.number +ℤ pos 1;
        at_number = rw (same_self s.this, h.at_number) refl;
        at_next = rw (same_self s.this, h.at_next) refl;
        rest = h.rest;
      })))))

  -- the folded node, of which nothing is held
  record Closed (s : State) : Type 0 where
    there : nat_eq s.this 0 ≡ false
    none : (r : Resource) → s.held r ≡ None
    node : s.instances ≡ folded s.this ∷ []

  -- the number is taken in, and what is next
  abbrev with_number : ℤ → State → State
  with_number z s = with_cell (with_instances s []) (number_in s.this) whole (value.Number z)

  abbrev with_next : ℤ → ℕ → State → State
  with_next z m s =
      with_cell (with_met (with_number z s) (type.Object (name 0)) m) (next_in s.this) whole (value.Reference m)

  abbrev starting : Block
  starting = Then (Unfold (name 0) (name 3) This [] (at 179 193)) writing

  unfolds : (s : State) → Closed s → Safe (on starting s)
  unfolds s h =
      takes maps table (without_instance (folded s.this) s.instances) [] _ _ s (rw (h.node, same_self s.this) refl)
      (gains maps table (name 0) s.this (name 1) _ (with_instances s []) h.there (h.none (number_in s.this)) λ z.
      gains_reference maps table (name 0) s.this (name 2) (name 0) _ (with_number z s) h.there
      (rw (same_self s.this) (h.none (next_in s.this))) λ m.
      reads maps table (cells_of (with_next z m s) (next_in s.this)) (value.Reference m) _ _ (with_next z m s)
      (rw (same_self s.this) refl)
      (unless (nat_eq m 0) _ _
      (λ some. reads maps table (cells_of (with_next z m s) (next_in s.this)) (value.Reference m) _ _ (with_next z m s)
      (rw (same_self s.this) refl)
      (writes m (with_instances (with_next z m s) ([] ++ folded m ∷ [])) h.there (record {
        number = z;
        at_number = rw (same_self s.this) refl;
        at_next = rw (same_self s.this) refl;
        rest = rw (some) refl;
      })))
      (λ none. writes m (with_next z m s) h.there (record {
        number = z;
        at_number = rw (same_self s.this) refl;
        at_next = rw (same_self s.this) refl;
        rest = rw (none) refl;
      }))))

  pub up_safe : Safe (judge_task S list (task_of list (unit 0 (part.Member 3))))
  up_safe =
      picked (signed _ (λ n. blocks) λ n. tested (nat_eq n 0) _ _ (λ e. blocks) λ e.
      turned _ (λ m. blocks) finishes
      (unfolds (remembered (with_instances (entered (name 0) n) (folded n ∷ [])))
      (record { there = e; none = λ r. refl; node = refl })))

  pub list_safe : Safe (judge_task S list (task_of list (unit 0 (part.Member 2))))
  list_safe =
      picked (signed _ (λ n. blocks) λ n. tested (nat_eq n 0) _ _ (λ e. blocks) λ e. picked λ z.
      gains_reference maps table (name 0) n (name 2) (name 0) _
      (with_number z (entered (name 0) n)) e (rw (same_self n) refl) λ m.
      reads maps table (cells_of (with_next z m (entered (name 0) n)) (next_in n)) (value.Reference m) _ _
      (with_next z m (entered (name 0) n)) (rw (same_self n) refl)
      (unless (nat_eq m 0) _ _
      (λ some. reads maps table (cells_of (with_next z m (entered (name 0) n)) (next_in n)) (value.Reference m) _ _
      (with_next z m (entered (name 0) n)) (rw (same_self n) refl) finishes)
      (λ none. finishes)))

  -- the main method makes two nodes, the second one before the first one, and folds them

  abbrev on_main : Block → State → Judged
  on_main b = judge_block S list site b (at_body_end S site check.Ensures always)

  abbrev main_calls : Block
  main_calls = Then (Assign Nowhere (Call (name 0) (name 4) (Variable (name 8)) []) (at 405 412)) Stop

  abbrev main_folds : Block
  main_folds = Then (Fold (name 0) (name 3) (Variable (name 8)) [] (at 386 400)) main_calls

  abbrev main_joins : Block
  main_joins = Then
      (Assign (ToField (Variable (name 8)) (name 0) (name 2) (at 370 376)) (Value' (Variable (name 7))) (at 370 381))
      main_folds

  abbrev main_makes : Block
  main_makes = Then (Assign (ToVariable (name 8)) (NewObject (name 0)) (at 345 365)) main_joins

  abbrev main_starts : Block
  main_starts = Then (Fold (name 0) (name 3) (Variable (name 7)) [] (at 326 340)) main_makes

  -- the nodes that the variables name
  abbrev first : State → ℕ
  first s = reference_in (s.variables 7)

  abbrev second : State → ℕ
  second s = reference_in (s.variables 8)

  main_calls_safe : (s : State) → nat_eq (second s) 0 ≡ false → s.instances ≡ folded (second s) ∷ [] → Safe (on_main main_calls s)
  main_calls_safe s there is =
      call_row (second s) (at 405 412) (λ v. on_main Stop) s there (rw (is, same_self (second s)) refl) finishes

  main_folds_safe : (m : ℕ) (s : State) → nat_eq (second s) 0 ≡ false → Node (second s) m s → Safe (on_main main_folds s)
  main_folds_safe m s there h =
      failed (nat_eq (second s) 0) _ _ there
      (fold_row (second s) m (at 386 400) (on_main main_calls) s h
      λ instances is. main_calls_safe (with_instances (given (second s) s) instances) there is)

  main_joins_safe : (s : State) → nat_eq (second s) 0 ≡ false → nat_eq (first s) 0 ≡ false
      → s.variables 7 ≡ value.Reference (first s) → Node (second s) 0 (with_instances s []) → s.instances ≡ folded (first s) ∷ []
      → Safe (on_main main_joins s)
  main_joins_safe s there some is h instances =
      failed (nat_eq (second s) 0) _ _ there
      (passed (nat_le whole (amount_of s (next_in (second s)))) _ _ (rw (h.at_next) refl)
      (main_folds_safe (first s) (with_value s (next_in (second s)) (s.variables 7)) there (record {
        number = h.number;
        at_number = rw (same_self (second s), h.at_number) refl;
        at_next = rw (same_self (second s), h.at_next) (ap whole_of is);
        rest = rw (instances, some) refl;
      })))

  -- a node is made, and named
  abbrev made : Name → ℕ → State → State
  made x n s =
      with_local
      (with_cell (with_cell (with_met s (type.Object (name 0)) n) (number_in n) whole (value.Number (pos 0))) (next_in n) whole
      (value.Reference 0))
      x (value.Reference n)

  pub two_safe : Safe (judge_task S list (task_of list (unit 1 (part.Member 0))))
  two_safe =
      picked (signed _ (λ t. blocks) λ t. tested (nat_eq t 0) _ _ (λ e. blocks) λ e.
      turned _ (λ m. blocks) finishes
      (picked (signed _ (λ m. blocks) λ m. tested (nat_eq m 0) _ _ (λ f. blocks) λ f.
      failed (nat_eq m 0) _ _ f
      (fold_row m 0 (at 326 340) (on_main main_makes) (made (name 7) m (remembered (entered (name 5) t))) (record {
        number = pos 0;
        at_number = rw (same_self m) refl;
        at_next = rw (same_self m) refl;
        rest = refl;
      }) λ instances is.
      picked (signed _ (λ n. blocks) λ n. tested (nat_eq n 0) _ _ (λ g. blocks) λ g. tested _ _ _ (λ k. blocks) λ k.
      main_joins_safe
      (made (name 8) n (with_instances (given m (made (name 7) m (remembered (entered (name 5) t)))) instances)) g f refl
      (record { number = pos 0; at_number = rw (same_self n) refl; at_next = rw (same_self n) refl; rest = refl }) is)))))
