-- The body of a method on whose unit the judge never fails begins: its precondition is owned, and its frame has a run.
use Rattle.std.proofs.Common.{◌≡◌, ◌⊎◌, inl, inr, ◌≤◌, ℕ, Bool, true, false, if◌then◌else◌, ◌&&◌, Some, None, List, [], ◌∷◌, refl, ap, sym, subst, ◌∙◌, arith}
use Rattle.std.specs.Prelude.{nat_eq, is_none, is_some, unwrap_or, IsTrue}
use Rattle.std.proofs.lemmas.Option.{none-some}
use Rattle.pv_base.specs.declared.Name.{Name}
use Rattle.pv_ast.specs.declared.PvType.{PvType}
use Rattle.pv_ast.specs.declared.PvType.TheVariants.{Object, Null}
use Rattle.pv_values.specs.declared.value.Value.{Value}
use Rattle.pv_values.specs.declared.value.Value.TheVariants as value
use Rattle.pv_fraction.specs.Amounts.{whole}
use Rattle.pv_picks.specs.Plain.Core.{Nowhere, ToVariable, ToField, ToElement, Statement, Assign, If, While, Members, Meet, Act, Fold, Unfold, Assert, Send, Receive, Return, Block, Stop, Then, Method, Program}
use Rattle.pv_picks.specs.Formulas.Values.{no_variables, with_arguments}
use Rattle.pv_picks.specs.Formulas.Heaps.{Heap}
use Rattle.pv_picks.specs.Judge.States.{Resource, cells_of, empty_state, no_cells}
use Rattle.pv_picks.specs.Machine.Tasks.{Run}
use Rattle.pv_picks.specs.Machine.Frames.{only_now, outer_scene}
use Rattle.pv_picks.specs.Judge.Judging.{inhale_own, pick_variables}
use Rattle.pv_picks.specs.Judge.UnitRuns.{OfMethod, go_on, judge_task}
use Rattle.pv_picks.specs.Typing.Expressions.{silent}
use Rattle.pv_picks.specs.Typing.Blocks.{types_of, over, gives, MethodFits}
use Rattle.pv_picks.specs.Typing.Frames.{HasType, VariablesFit}
use Rattle.machine_laws.proofs.Kept.{first_result, result_given}
use Rattle.core_trees.specs.Assigned.{AssignsOnly, BlockAssigns}
use Rattle.core_trees.specs.Formulas.{in_class, MethodSays}
use Rattle.account_formulas.specs.Sights.{SceneFits}
use Rattle.account_formulas.specs.Runs.{truly, RestNeverFails, contents_of}
use Rattle.account_formulas.specs.Good.{IsGood}
use Rattle.account_formulas.specs.Owning.{Amounts, Owns}
use Rattle.account_formulas.specs.Growing.{Place, HeapFits}
use Rattle.account_formulas.specs.Gaining.{Gained, AreTyped, nothing_taken, PredicatesFit}
use Rattle.account_formulas.proofs.Picking.{picking}
use Rattle.account_formulas.proofs.Raising.{settled_of, contents_fine}
use Rattle.account_formulas.proofs.Gaining.{formula_gains}
use Rattle.account.specs.Scoped.{MayAssign, TasksSay, done, runs}
use Rattle.account.specs.Frames as account
use Rattle.account.specs.Frames.{amounts_of, standing_in, called_of, IsBodyOf, IsRunOf}
use Rattle.account.specs.Going.{body_of, first_frame, Begins}
use Rattle.account.proofs.Choosing.{never_turn}
use Rattle.account.proofs.Framing.{begun_with, picking_all, variables_fit, outer_fits}
use Rattle.account.proofs.LocalWork.{settled_goes, called_settled}

-- in no loop each variable may be assigned
mutual
  any_statement : (s : Statement) → AssignsOnly (MayAssign []) s
  any_statement (Assign Nowhere right span) = tt
  any_statement (Assign (ToVariable name) right span) = tt
  any_statement (Assign (ToField e class name at) right span) = tt
  any_statement (Assign (ToElement type e i at) right span) = tt
  any_statement (If e a b) = (any_block a, any_block b)
  any_statement (While xs i e b span) = any_block b
  any_statement (Members t b span) = any_block b
  any_statement (Meet barrier span) = tt
  any_statement (Act action class e span) = tt
  any_statement (Fold class q e es span) = tt
  any_statement (Unfold class q e es span) = tt
  any_statement (Assert f span) = tt
  any_statement (Send m span) = tt
  any_statement (Receive m span) = tt
  any_statement (Return e span) = tt

  pub any_block : (b : Block) → BlockAssigns (MayAssign []) b
  any_block Stop = tt
  any_block (Then s b) = (any_statement s, any_block b)

module _ (p : Program) (flags : ℕ → Bool) (heap : Heap) (sound : HeapFits p heap) (framed : PredicatesFit p heap) where
  -- where the precondition of a method stands
  abbrev pub before_place : Name → Method → Place p heap
  before_place class m = record {
    class = class;
    answer = None;
    speech = silent;
    scope = over [] m.parameters;
    past = heap;
    old = no_cells;
    known = λ r. None;
    before = sound.now;
    agrees = λ r x is. absurd (none-some x is);
    lengths = λ a n is. is;
  }

  pub begins : (class : Name) (m : Method) → MethodSays (in_class p class) m → MethodFits p class m
      → IsGood (in_class p class) silent (over [] m.parameters) m.contract.before
      → RestNeverFails nothing_taken (λ maps. judge_task (truly maps) p (OfMethod class m))
      → (object : ℕ) (values : List Value) → nat_eq object 0 ≡ false → HasType heap (Object class) (value.Reference object)
      → AreTyped heap (types_of m.parameters) values
      → (R : Amounts) → ((q : Resource) → R q ≤ whole)
      → Owns p flags (only_now heap) (outer_scene object m.parameters values) m.contract.before R
      → Begins p flags heap class m object values R
  begins class m says fits good never object values full typed all R most owns =
      picking nothing_taken heap sound.beyond (Object class) (value.Reference object) typed tt _ empty_state
      (Begins p flags heap class m object values R)
      (λ met b n. picking_all heap sound.beyond nothing_taken object m.parameters values all says.0 no_variables met (b tt)
      (λ maps. inhale_own (truly maps) m.contract.before (go_on (truly maps) p (OfMethod class m)))
      (Begins p flags heap class m object values R)
      (λ more low n. made more (formula_gains p flags heap sound framed (before_place class m)
      (outer_scene object m.parameters values)
      scene m.contract.before good R owns nothing_taken (begun_with object (with_arguments no_variables m.parameters values) more)
      (λ picks q. refl)
      (record {
        steps = refl;
        agree = λ t a k is. absurd (none-some k is);
        holds = λ q h is. absurd (none-some h is);
        knows = λ d o is. absurd (cc is);
        met = low;
      })
      (λ q. 0) tt (λ q. let k = most q in omega (arith, k)) (λ maps. go_on (truly maps) p (OfMethod class m)) n))
      (subst (λ b. RestNeverFails nothing_taken (λ maps. if b then (truly maps).blocked else pick_variables
      (truly maps) m.parameters
      (inhale_own (truly maps) m.contract.before (go_on (truly maps) p (OfMethod class m))) (begun_with object no_variables met)))
      full n))
      never
    where
      variables : VariablesFit heap (over [] m.parameters) (with_arguments no_variables m.parameters values)
      variables = variables_fit heap m.parameters values all

      scene : SceneFits (in_class p class) silent (over [] m.parameters) heap (outer_scene object m.parameters values)
      scene = outer_fits (in_class p class) heap m.parameters object values typed all

      kept_or : (b : Bool) → ((if b then Some heap else None) ≡ Some heap) ⊎ ((if b then Some heap else None) ≡ None)
      kept_or true = inl refl
      kept_or false = inr refl

      needed : (b named : Bool) → (if b then Some heap else None) ≡ None → IsTrue (named && b) → ⊥
      needed true named is speaks = none-some heap (sym is)
      needed false true is speaks = absurd (cc speaks)
      needed false false is speaks = absurd (cc speaks)

      made : (more : List (PvType × ℕ)) → Gained p flags heap (λ q. None)
          (λ sight. Owns p flags sight (outer_scene object m.parameters values) m.contract.before) nothing_taken
          (begun_with object (with_arguments no_variables m.parameters values) more) (λ q. 0) R
          (λ maps. go_on (truly maps) p (OfMethod class m)) → Begins p flags heap class m object values R
      made more g =
          let run : account.Run = record {
            body = body_of m g.after.variables;
            past = heap;
            state = record g.after { old = cells_of g.after };
            taken = g.then_taken;
            trees = g.trees;
            outer = [];
            inner = false;
            scope = over [] m.parameters;
            given = is_none m.result;
            stack = [];
          } in
          let tasks : TasksSay (standing_in p class (body_of m g.after.variables) []) false (over [] m.parameters)
          (is_none m.result) [] (Run m.body ∷ []) =
          runs (over [] m.parameters) true (says.5, any_block m.body, tt) (λ n t is. is)
          (λ e. result_given m.result (gives m.body) fits.result) (done refl) in
          let go = settled_goes p flags heap sound framed (first_frame heap class m object values) run
          (record {
            state = record {
              fits =
                  record {
                    steps = g.fine.steps;
                    agree = g.fine.agree;
                    holds = g.fine.holds;
                    knows = g.fine.knows;
                    met = g.fine.met;
                  };
              this = ap (λ s. s.this) g.scene;
              variables = λ n t is. ap (λ s. s.variables n.0) g.scene;
              result = ap (λ s. s.result) g.scene;
              trees = g.has_trees;
            };
            old = record {
              known = contents_of g.then_taken (cells_of g.after);
              settled = settled_of flags heap g.then_taken g.after g.fine;
              agrees = contents_fine flags heap g.then_taken g.after g.fine;
              fits = sound.now;
              is = kept_or m.old;
              needed = needed m.old (is_some m.name);
            };
            body = record {
              same = λ n t is. ap (λ s. s.variables n.0) g.scene;
              typed = variables;
              after = says.4;
              quiet = refl;
              answers = λ type is. ap (λ z. Some (unwrap_or z Null)) is;
            };
            typed = record { this = typed; variables = variables; result = first_result heap m.result; values = tt };
            tasks = tasks;
            outer = tt;
            never = never_turn g.then_taken _ 0 refl g.never;
          }) tasks (λ q. let s = g.sum q in let k = most q in omega (arith, s, k)) in
          record {
            run = go.run;
            fits = go.fits;
            says = go.says;
            less = λ q. let d = go.less q in let s = g.sum q in omega (arith, d, s);
            past = go.past;
            body = subst (λ b. IsBodyOf m b) (sym go.body)
                (record { head = refl; answer = refl; speech = refl; result = refl; after = refl; declared = says.1 });
            called = called_settled p flags heap sound framed (first_frame heap class m object values) run go
                ∙ sym (ap (λ z. record {
                  class = class;
                  method = m;
                  this = object;
                  begun = with_arguments no_variables m.parameters values;
                  past = z;
                  body = go.run.body;
                }) go.past
                ∙ ap (λ z. record {
                  class = class;
                  method = m;
                  this = object;
                  begun = with_arguments no_variables m.parameters values;
                  past = heap;
                  body = z;
                }) go.body);
          }
