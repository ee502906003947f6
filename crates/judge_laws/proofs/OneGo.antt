-- A drawn run is the run in one go, and then what comes next.
use Rattle.std.proofs.Common.{◌≡◌, ℕ, ℤ, Bool, true, false, if◌then◌else◌, Option, Some, None, List, [], ◌∷◌, ◌++◌, refl, ap, sym, ◌∙◌}
use Rattle.std.specs.Prelude.{nat_lt}
use Rattle.pv_values.specs.declared.value.Value.{Value}
use Rattle.pv_ast.specs.declared.PvType.{PvType}
use Rattle.pv_ast.specs.declared.PvType.TheVariants.{Int}
use Rattle.pv_picks.specs.Plain.Core.{Operation}
use Rattle.pv_picks.specs.Judge.States.{State, Cell, Written, FromSteps, as_element, as_element_type}
use Rattle.pv_picks.specs.Lazy.Patterns.{Shown, Took}
use Rattle.pv_picks.specs.Lazy.Runs.{Memory, LazyEnd, Final, final, Unfit, Outcome, OneNumber, OneTurn, ForRange, at_end, showing, taking, picking, Source, Lazily, testing, lazy, Drawn, from_values, element_or, operation_or, value_read, value_used, no_memory}
use Rattle.judge_laws.specs.Related.{AreRelated}
use Rattle.pv_picks.specs.Judge.States.{empty_state}
use Rattle.pv_picks.specs.Judge.Judging.{finish}
use Rattle.pv_picks.specs.Judge.UnitRuns.{task_of, go_on}
use Rattle.judge_laws.specs.OneGo.{EvaluatesInOneGo, InhalesInOneGo, ExhalesInOneGo, ValuesInOneGo, JudgesInOneGo, StepsInOneGo, UnitsInOneGo, EntersInOneGo, GoesOnInOneGo, RunsInOneGo}
use Rattle.pv_picks.specs.Lazy.Parts.{then_run, after, one_go, gone, Ran, Stopped, Came}
use Rattle.judge_laws.proofs.Sources.{lazy_related}
use Rattle.pv_picks.proofs.Readers.{evaluate_related}
use Rattle.judge_laws.proofs.Formulas.{inhale_related, exhale_related}
use Rattle.judge_laws.proofs.Statements.{access_related, judge_block_related, judge_related, enter_related}
use Rattle.judge_laws.proofs.Taking.{throughout, formula_reader_related}

pub append_append : {X : Type 0} (xs ys zs : List X) → (xs ++ ys) ++ zs ≡ xs ++ (ys ++ zs)
append_append [] ys zs = refl
append_append (x ∷ xs) ys zs = ap (λ ts. x ∷ ts) (append_append xs ys zs)

module _ {A E : Type 0} (values : ℕ → ℤ) (turns : ℕ → ℕ) (stop : LazyEnd → Memory → E) (next : A → State → Lazily Drawn E) where
  abbrev One : Source Drawn (Came A)
  One = from_values values turns

  abbrev Other : Source Drawn E
  Other = from_values values turns

  abbrev Continues : Lazily Drawn (Came A) → Lazily Drawn E → Type 0
  Continues x y = (m : Memory) (d : Drawn) → y m d ≡ then_run stop (x m d) next

  pub shown_continues : (sh : List Shown) (o : Ran A) (q : Outcome E) → q ≡ then_run stop o next → showing sh q
      ≡ then_run stop (showing sh o) next
  shown_continues sh o q h =
      ap (showing sh) h ∙ ap (λ ts. record {
        shows = ts;
        values = (then_run stop o next).values;
        types = (then_run stop o next).types;
        picks = (then_run stop o next).picks;
        end = (then_run stop o next).end;
      })
      (sym (append_append sh o.shows (after stop o.end next).shows))

  turn_continues : (b : Bool) (m : Memory) (o : Ran A) (q : Outcome E) → q ≡ then_run stop o next
      → (if b then q else at_end (stop Unfit m)) ≡ then_run stop (if b then o else at_end (Stopped Unfit m)) next
  turn_continues true m o q h = h
  turn_continues false m o q h = refl

  element_continues : (x : Option ℤ) (ty : PvType) (n : ℕ) (i : ℤ) (f : ℤ → Lazily Drawn (Came A)) (g : ℤ → Lazily Drawn E)
      → ((z : ℤ) → Continues (f z) (g z))
      → Continues (element_or Stopped One x ty n i f) (element_or stop Other x ty n i g)
  element_continues (Some z) ty n i f g h m d = h z m d
  element_continues None ty n i f g h m d = ap (taking (as_element_type ty) (values d.taken)) (h (values d.taken) _ _)

  operation_continues : (x : Option ℤ) (o : Operation) (b c : ℤ) (f : ℤ → Lazily Drawn (Came A)) (g : ℤ → Lazily Drawn E)
      → ((z : ℤ) → Continues (f z) (g z))
      → Continues (operation_or Stopped One x o b c f) (operation_or stop Other x o b c g)
  operation_continues (Some z) o b c f g h m d = h z m d
  operation_continues None o b c f g h m d = ap (taking Int (values d.taken)) (h (values d.taken) _ _)

  reading_continues : (c : Cell) (f : Value → Lazily Drawn (Came A)) (g : Value → Lazily Drawn E)
      → ((v : Value) → Continues (f v) (g v))
      → Continues ((testing Stopped One).reading c f) ((testing stop Other).reading c g)
  reading_continues (Written v) f g h m d = h v m d
  reading_continues (FromSteps type n i) f g h m d =
      element_continues (value_read m.reads n i) type n i _ _ (λ z. h (as_element type z)) m d

  tests_continue : AreRelated (testing Stopped One) (testing stop Other) Continues
  tests_continue = throughout _ _ _ (record {
    finished = λ m d. refl;
    blocked = λ m d. refl;
    failed = λ check span m d. refl;
    unfit = λ m d. refl;
    pick = λ ty f g h m d. ap (λ o. picking (OneNumber (values d.taken)) (taking ty (values d.taken) o)) (h (values d.taken) _ _);
    turn =
        λ f g h m d. ap (picking (OneTurn (turns d.turned)))
        (shown_continues (Took (turns d.turned) ∷ []) _ _ (turn_continues (nat_lt (turns d.turned) 3) _ _ _
        (h (turns d.turned) _ _)));
    steps = λ n t a x y h m d. ap (picking ForRange) (h _ d);
    using = λ o b c f g h m d. shown_continues _ _ _ (operation_continues (value_used m.uses (o, b, c)) o b c f g h m d);
    comparing = λ b c x y h m d. shown_continues _ _ _ (h m d);
    matching = λ v w x y h m d. shown_continues _ _ _ (h m d);
    deciding = λ b x y h m d. shown_continues _ _ _ (h m d);
    noticing = λ e x y h m d. shown_continues _ _ _ (h _ d);
    reading = reading_continues;
    knowing = λ k x y h. h;
  })

  pub continues : AreRelated (one_go values turns) (lazy stop (from_values values turns)) Continues
  continues =
      lazy_related Stopped stop One Other Continues tests_continue
      (λ sh mv e f k x y h m d. shown_continues (sh m) _ _ (h (mv m) d)) (λ f g h m d. h m m d)

pub evaluates_in_one_go : (E : Type 0) (stop : LazyEnd → Memory → E) → EvaluatesInOneGo stop
evaluates_in_one_go E stop values turns scene e next s m d =
    evaluate_related (λ x y. (t : State) → Continues values turns stop next (x t) (y t)) _ _ _ _
    (access_related _ _ (Continues values turns stop next) (continues values turns stop next))
    (access_related _ _ (Continues values turns stop next) (continues values turns stop next))
    scene e gone next (λ v t n c. refl) s m d

pub values_in_one_go : (E : Type 0) (stop : LazyEnd → Memory → E) → ValuesInOneGo stop
values_in_one_go E stop values turns now old scene e next s m d =
    evaluate_related (λ x y. (t : State) → Continues values turns stop next (x t) (y t)) _ _ _ _
    (formula_reader_related _ _ (Continues values turns stop next) (continues values turns stop next) (λ t. now) _ _
    (λ p t n c. refl))
    (formula_reader_related _ _ (Continues values turns stop next) (continues values turns stop next) (λ t. old) _ _
    (λ p t n c. refl))
    scene e gone next (λ v t n c. refl) s m d

pub judges_in_one_go : (E : Type 0) (stop : LazyEnd → Memory → E) → JudgesInOneGo stop
judges_in_one_go E stop values turns p site block next s m d =
    judge_block_related _ _ (Continues values turns stop (λ u. next)) (continues values turns stop (λ u. next)) p site block
    (gone tt) next (λ t n c. refl) s m d

pub inhales_in_one_go : (E : Type 0) (stop : LazyEnd → Memory → E) → InhalesInOneGo stop
inhales_in_one_go E stop values turns bind formula next s m d =
    inhale_related _ _ (Continues values turns stop (λ u. next)) (continues values turns stop (λ u. next)) bind formula
    (gone tt) next (λ t n c. refl) s m d

pub exhales_in_one_go : (E : Type 0) (stop : LazyEnd → Memory → E) → ExhalesInOneGo stop
exhales_in_one_go E stop values turns giving formula next s m d =
    exhale_related _ _ (Continues values turns stop (λ u. next)) (continues values turns stop (λ u. next)) giving formula
    (gone tt) next (λ t n c. refl) s m d

pub steps_in_one_go : StepsInOneGo
steps_in_one_go = (
  evaluates_in_one_go Final final,
  values_in_one_go Final final,
  inhales_in_one_go Final final,
  exhales_in_one_go Final final,
  judges_in_one_go Final final,
)

-- Units

units_in_one_go : UnitsInOneGo
units_in_one_go p unit values turns next =
    judge_related _ _ (Continues values turns final next) (continues values turns final next) p (task_of p unit) no_memory
    (record { taken = 0; turned = 0 })

enters_in_one_go : EntersInOneGo
enters_in_one_go p unit values turns =
    enter_related _ _ (Continues values turns final (λ u. finish (lazy final (from_values values turns))))
    (continues values turns final (λ u. finish (lazy final (from_values values turns)))) (task_of p unit) (gone tt)
    (finish (lazy final (from_values values turns))) (λ t n c. refl) empty_state no_memory (record { taken = 0; turned = 0 })

goes_on_in_one_go : GoesOnInOneGo
goes_on_in_one_go p unit values turns =
    enter_related _ _ (Continues values turns Stopped (λ u. go_on (one_go values turns) p (task_of p unit)))
    (continues values turns Stopped (λ u. go_on (one_go values turns) p (task_of p unit))) (task_of p unit) (gone tt)
    (go_on (one_go values turns) p (task_of p unit)) (λ t n c. refl) empty_state no_memory (record { taken = 0; turned = 0 })

pub runs_in_one_go : RunsInOneGo
runs_in_one_go = (units_in_one_go, enters_in_one_go, goes_on_in_one_go)
