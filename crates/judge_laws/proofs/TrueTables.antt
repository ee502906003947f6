-- A table of true arithmetic gives what arithmetic gives.
use Rattle.std.proofs.Common.{◌≡◌, ℕ, ℤ, Bool, true, false, if◌then◌else◌, Some, List, [], ◌∷◌, refl, ap, sym, ◌∙◌}
use Rattle.std.proofs.Math.Path.{fun_ext}
use Rattle.std.specs.Prelude.{nat_lt, All}
use Rattle.std.proofs.lemmas.List.Elements.{All-head, All-tail}
use Rattle.pv_ast.specs.declared.Operator.{Operator}
use Rattle.pv_ast.specs.declared.Operator.TheVariants as operator
use Rattle.pv_values.specs.Heaps.{same_number}
use Rattle.pv_ast.specs.declared.PvType.{PvType}
use Rattle.pv_ast.specs.declared.PvType.TheVariants.{Int}
use Rattle.pv_picks.specs.declared.evidence.Pick.{Pick}
use Rattle.pv_picks.specs.declared.evidence.Pick.TheVariants.{Number, Turn, Steps}
use Rattle.pv_picks.specs.declared.evidence.Entry.{Entry}
use Rattle.pv_picks.specs.Plain.Core.{Operation, Plus, Minus, Times}
use Rattle.pv_picks.specs.Formulas.Values.{arithmetic, width}
use Rattle.pv_picks.specs.Judge.UnitRuns.{task_of}
use Rattle.pv_picks.specs.Judge.Runs.{End, Judged, judging, is_operator, is_entry_of, taken_from, ordered, value_of_operation, Maps, maps_of, judging_tests}
use Rattle.pv_picks.specs.Verdicts.Grounds.{operation_of, worked_out, IsTrueEntry}
use Rattle.judge_laws.specs.Related.{AreRelated}
use Rattle.judge_laws.specs.Statements.{ReadsNoTrueTable}
use Rattle.pv_picks.proofs.Sames.{front, back, numbers_same}
use Rattle.judge_laws.proofs.Taking.{throughout, otherwise, test_from_related}
use Rattle.judge_laws.proofs.Statements.{judge_related}

same_operator : (o : Operation) (op : Operator) → is_operator o op ≡ true → operation_of op ≡ Some o
same_operator Plus operator.Add h = refl
same_operator Minus operator.Sub h = refl
same_operator Times operator.Mul h = refl
same_operator o op h = absurd (cc h)

some_value : (x y : ℤ) → Some x ≡ Some y → x ≡ y
some_value x y h = cc h

-- an entry that is true arithmetic gives what the operation gives
entry_gives : (o : Operation) (a b : ℤ) (e : Entry) → IsTrueEntry e → is_entry_of o a b e ≡ true → e.taken ≡ arithmetic o a b
entry_gives o a b e t h =
    let op = same_operator o e.op (front _ _ h) in
    let rest = back (is_operator o e.op) _ h in
    let left = numbers_same a e.left (front _ _ rest) in
    let right = numbers_same b e.right (back (same_number a e.left) _ rest) in
    some_value _ _ (sym t ∙ ap (λ x. worked_out x e.left e.right) op ∙ ap (λ x. Some (arithmetic o x e.right)) (sym left)
    ∙ ap (λ x. Some (arithmetic o a x)) (sym right))

by_entry : (t : Bool) (x y z : ℤ) → (t ≡ true → x ≡ z) → y ≡ z → (if t then x else y) ≡ z
by_entry true x y z h k = h refl
by_entry false x y z h k = k

taken_is_true : (o : Operation) (a b : ℤ) (table : List Entry) → All IsTrueEntry table → taken_from table o a b ≡ arithmetic o a b
taken_is_true o a b [] h = refl
taken_is_true o a b (e ∷ es) h =
    by_entry (is_entry_of o a b e) _ _ _ (entry_gives o a b e (All-head IsTrueEntry e es h))
    (taken_is_true o a b es (All-tail IsTrueEntry e es h))

either : (t : Bool) (x y u w : ℤ) → x ≡ u → y ≡ w → (if t then x else y) ≡ (if t then u else w)
either true x y u w h k = h
either false x y u w h k = k

same_values : (table : List Entry) → All IsTrueEntry table → value_of_operation table ≡ value_of_operation []
same_values table h =
    fun_ext (λ o. fun_ext (λ a. fun_ext (λ b. either (ordered o a b) _ _ _ _ (taken_is_true o a b table h)
    (taken_is_true o b a table h))))

abbrev Agree : Judged → Judged → Type 0
Agree one other = (picks : List Pick) → one picks ≡ other picks

tests_agree : (maps : Maps) (table : List Entry) → All IsTrueEntry table
    → AreRelated (judging_tests maps table) (judging_tests maps []) Agree
tests_agree maps table t = throughout _ _ _ (record {
  finished = λ picks. refl;
  blocked = λ picks. refl;
  failed = λ check span picks. refl;
  unfit = λ picks. refl;
  pick = λ t. picks_agree;
  turn = turns_agree;
  steps = λ n t a. steps_agree n t a;
  using = λ o a b f g h picks. h _ picks ∙ ap (λ op. g (op o a b) picks) (same_values table t);
  comparing = λ a b x y h. h;
  matching = λ v w x y h. h;
  deciding = λ b x y h. h;
  noticing = λ e x y h. h;
  reading = λ c f g h. h _;
  knowing = λ k x y h. h;
})
  where
    picks_agree : (f g : ℤ → Judged) → ((z : ℤ) → Agree (f z) (g z))
        → Agree ((judging maps table).pick Int f) ((judging maps []).pick Int g)
    picks_agree f g h [] = refl
    picks_agree f g h (Number z ∷ picks) = h z picks
    picks_agree f g h (Turn n ∷ picks) = refl
    picks_agree f g h (Steps m ∷ picks) = refl

    by_turn : (b : Bool) (x u y : End) → x ≡ u → (if b then x else y) ≡ (if b then u else y)
    by_turn true x u y h = h
    by_turn false x u y h = refl

    turns_agree : (f g : ℕ → Judged) → ((n : ℕ) → Agree (f n) (g n))
        → Agree ((judging maps table).turn f) ((judging maps []).turn g)
    turns_agree f g h [] = refl
    turns_agree f g h (Number z ∷ picks) = refl
    turns_agree f g h (Turn n ∷ picks) = by_turn (nat_lt n 3) _ _ _ (h n picks)
    turns_agree f g h (Steps m ∷ picks) = refl

    steps_agree : (number : ℕ) (type : PvType) (array : ℕ) (f g : Judged) → Agree f g
        → Agree ((judging maps table).steps number type array f) ((judging maps []).steps number type array g)
    steps_agree number type array f g h [] = refl
    steps_agree number type array f g h (Number z ∷ picks) = refl
    steps_agree number type array f g h (Turn n ∷ picks) = refl
    steps_agree number type array f g h (Steps m ∷ picks) = h picks

agree : (maps : Maps) (table : List Entry) → All IsTrueEntry table → AreRelated (judging maps table) (judging maps []) Agree
agree maps table t = otherwise (judging_tests maps table) (judging_tests maps []) Agree (tests_agree maps table t) _ _ _ _
    (λ e x y h. h) (λ k x y h. test_from_related (judging_tests maps table) (judging_tests maps []) Agree
    (tests_agree maps table t) k k.low (width k.low k.high) x y h)

pub reads_no_true_table : ReadsNoTrueTable
reads_no_true_table p unit picks table t =
    judge_related (judging (maps_of picks) table) (judging (maps_of picks) []) Agree (agree (maps_of picks) table t) p
    (task_of p unit) picks
