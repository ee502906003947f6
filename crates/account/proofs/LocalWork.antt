-- Statements, unfolding, and all the local work of a frame up to its next step.
use Rattle.std.proofs.Common.{◌≡◌, inl, inr, ℕ, zero, suc, ◌≤◌, Bool, true, false, if◌then◌else◌, ◌&&◌, ◌||◌, Option, Some, None, List, [], ◌∷◌, refl, ap, sym, subst, ◌∙◌, arith}
use Rattle.std.specs.Prelude.{drop, length}
use Rattle.std.proofs.lemmas.Option.{same_Some, none-some}
use Rattle.pv_base.specs.declared.Name.{Name}
use Rattle.pv_base.specs.declared.Span.{Span}
use Rattle.pv_ast.specs.declared.PvType.{PvType}
use Rattle.pv_ast.specs.declared.PvType.TheVariants.{Int, Truth, Object}
use Rattle.pv_values.specs.declared.value.Value.{Value}
use Rattle.pv_values.specs.declared.value.Value.TheVariants as value
use Rattle.pv_base.specs.Names.{same_name}
use Rattle.pv_fraction.specs.Amounts.{whole}
use Rattle.pv_picks.specs.declared.check.Check.TheVariants as check
use Rattle.pv_picks.specs.Plain.Core.{Plain, Tabled, Parameter, Predicate, Target, Nowhere, ToVariable, ToField, ToElement, Right, Value', Call, NewObject, NewArray, Statement, Assign, If, While, Members, Meet, Act, Fold, Unfold, Assert, Send, Receive, Return, Block, Stop, Then, Program}
use Rattle.pv_picks.specs.Formulas.Values.{number_in, truth_in, reference_in}
use Rattle.pv_picks.specs.Formulas.Heaps.{Heap}
use Rattle.pv_picks.specs.Plain.Members.{first_that, predicate_named}
use Rattle.pv_picks.specs.Machine.Measures.{size_of_tasks}
use Rattle.pv_picks.specs.Judge.States as states
use Rattle.pv_picks.specs.Judge.States.{Resource, Cells, Folded, State, no_cells, with_instances, without_instance}
use Rattle.pv_picks.specs.Judge.Settings.{unless_null}
use Rattle.pv_picks.specs.Judge.Permissions.{or_short}
use Rattle.pv_picks.specs.Judge.Inhaling.{inhale}
use Rattle.pv_picks.specs.Machine.Tasks.{Negated, Computed, Compared, Matched, Task, Evaluate, EvaluateAll, Combine, Choose, Branch, Turn, Put, Drop, Give, Unfolded, Run, Stand, Resume, put_into, tasks_of_right, tasks_of_statement}
use Rattle.pv_picks.specs.Machine.Frames.{Frame, top, second, topmost, object_under, only_now, outer_scene, worked, after_work, settled, body_scene}
use Rattle.pv_picks.specs.Judge.Judging.{fold_in, unfold_in, judge_block}
use Rattle.pv_picks.specs.Judge.Runs.{Maps}
use Rattle.pv_picks.proofs.Sames.{names_same}
use Rattle.pv_picks.specs.Typing.Expressions.{Home, IsOf}
use Rattle.pv_picks.specs.Typing.Blocks.{types_of, gives_statement, gives}
use Rattle.pv_picks.specs.Typing.Tasks.{IsWithin}
use Rattle.pv_picks.specs.Typing.Frames as typed
use Rattle.pv_picks.specs.Typing.Frames.{HasType}
use Rattle.machine_laws.proofs.Local.{moved_over, one_of_both, more_within, rest-fits, two-fit, past-fits}
use Rattle.core_trees.specs.Assigned.{AssignsOnly}
use Rattle.core_trees.specs.Formulas.{DeclaredBy}
use Rattle.account_formulas.specs.Sights.{Contents}
use Rattle.account_formulas.specs.Runs.{Taken, truly, RestNeverFails, AreSettled}
use Rattle.account_formulas.specs.Owning.{Owns}
use Rattle.account_formulas.specs.Growing.{HeapFits}
use Rattle.account_formulas.specs.Gaining.{AreTyped, PredicatesFit}
use Rattle.account_formulas.proofs.Lengths.{empty_table}
use Rattle.account_formulas.proofs.Exhaling.{TreeTaken, tree_taken}
use Rattle.account_formulas.proofs.Raising.{settled_on}
use Rattle.account_formulas.proofs.Gaining.{body_place, formula_gains}
use Rattle.account_formulas.specs.Still.{IsStill}
use Rattle.account_formulas.proofs.Still.{settled_still}
use Rattle.account.specs.Running.{ran}
use Rattle.account.specs.Scoped.{Standing, MayAssign, IsBlockIn, TasksSay, evaluates, evaluates_none, evaluates_more, negates, computes, compares, matches, chooses, parts, puts_new, drops, unfolded, runs}
use Rattle.account.specs.Frames as account
use Rattle.account.specs.Frames.{amounts_of, standing_in, opened, called_of, AllWait, AllTakeTurns, OldIs, IsRunOf}
use Rattle.account.specs.Going.{Goes}
use Rattle.account.proofs.Settling.{evaluate_alike}
use Rattle.account.proofs.TakingApart.{object_alike, target_alike, fold_same, unfold_same}
use Rattle.account.proofs.Saying.{stays_first, stays_rest, right_says, statement_says}
use Rattle.account.proofs.Typing.{arguments_typed, object_typed}
use Rattle.account.proofs.Working.{frame_says, alike_never, TurnsAround, NeverOn, SaysOn, moves, stays_in, evaluated_goes, put_goes, give_goes, turn_goes}

-- a statement opens no loop before its first step
opened_right : (inner : Bool) (target : Target) (right' : Right) (span : Span) (b : Block) (rest : List Task)
    → opened inner (tasks_of_right right' span (put_into target ∷ Run b ∷ rest)) ≡ opened false rest
opened_right inner target (Call class method e arguments) span b rest = by target
  where
    by : (target : Target) → opened false (put_into target ∷ Run b ∷ rest) ≡ opened false rest
    by Nowhere = refl
    by (ToVariable name) = refl
    by (ToField e class name place) = refl
    by (ToElement type array index place) = refl
opened_right inner target (NewObject class) span b rest = by target
  where
    by : (target : Target) → opened false (put_into target ∷ Run b ∷ rest) ≡ opened false rest
    by Nowhere = refl
    by (ToVariable name) = refl
    by (ToField e class name place) = refl
    by (ToElement type array index place) = refl
opened_right inner target (NewArray type size) span b rest = by target
  where
    by : (target : Target) → opened false (put_into target ∷ Run b ∷ rest) ≡ opened false rest
    by Nowhere = refl
    by (ToVariable name) = refl
    by (ToField e class name place) = refl
    by (ToElement type array index place) = refl
opened_right inner target (Value' e) span b rest = by target
  where
    by : (target : Target) → opened inner (put_into target ∷ Run b ∷ rest) ≡ opened false rest
    by Nowhere = refl
    by (ToVariable name) = refl
    by (ToField e class name place) = refl
    by (ToElement type array index place) = refl

opened_statement : (inner : Bool) (s : Statement) (b : Block) (rest : List Task)
    → opened inner (tasks_of_statement s (Run b ∷ rest)) ≡ opened false rest
opened_statement inner (Assign Nowhere right' span) b rest = opened_right inner Nowhere right' span b rest
opened_statement inner (Assign (ToVariable name) right' span) b rest = opened_right inner (ToVariable name) right' span b rest
opened_statement inner (Assign (ToField e class name place) right' span) b rest =
    opened_right inner (ToField e class name place) right' span b rest
opened_statement inner (Assign (ToElement type array index place) right' span) b rest =
    opened_right inner (ToElement type array index place) right' span b rest
opened_statement inner (If e x y) b rest = refl
opened_statement inner (While assigned invariant e body span) b rest = refl
opened_statement inner (Members t body span) b rest = refl
opened_statement inner (Meet barrier span) b rest = refl
opened_statement inner (Act action class e span) b rest = refl
opened_statement inner (Fold class predicate e arguments span) b rest = refl
opened_statement inner (Unfold class predicate e arguments span) b rest = refl
opened_statement inner (Assert g span) b rest = refl
opened_statement inner (Send m span) b rest = refl
opened_statement inner (Receive m span) b rest = refl
opened_statement inner (Return None span) b rest = refl
opened_statement inner (Return (Some e) span) b rest = refl

first_passes : (test : Predicate → Bool) (xs : List Predicate) (d : Predicate) → first_that test xs ≡ Some d → test d ≡ true
first_passes test [] d is = absurd (none-some d is)
first_passes test (x ∷ xs) d is = go (λ e. first_passes test xs d e) (test x) refl is
  where
    go : (first_that test xs ≡ Some d → test d ≡ true) → (b : Bool) → test x ≡ b
        → (if b then Some x else first_that test xs) ≡ Some d → test d ≡ true
    go more true e is = subst (λ z. test z ≡ true) (same_Some x d is) e
    go more false e is = more is

-- a predicate has the name that it was found by
pub named_so : (p : Program) (class name : Name) (d : Predicate) → predicate_named p class name ≡ Some d → d.name ≡ name
named_so p class name d is = names_same d.name name (first_passes (λ x. same_name x.name name) _ d is)

-- a block that begins with a declaration has its variable in scope
block_declares : (c : Standing) (xs : List Parameter) (given inner : Bool) (s : Statement) (b : Block) (rest : List Task)
    (outer : List Parameter) (after : Bool) (x : Parameter) → DeclaredBy c.home xs s x → AssignsOnly (MayAssign c.loops) s
    → IsBlockIn c (x ∷ xs) b → IsWithin outer xs → (after ≡ true → ((gives_statement s || gives b) || given) ≡ true)
    → TasksSay c false outer after [] rest
    → TasksSay c inner xs given [] (tasks_of_statement s (Run b ∷ rest))
block_declares c xs given inner (Assign (ToVariable name) right span) b rest outer after x declared may block within g says =
    right_says c xs given inner [] right span x.1 _ declared.2
    (λ z. puts_new declared.1 may (runs outer after (subst (λ n. IsBlockIn c ((n, x.1) ∷ xs) b) declared.0 block)
    (more_within outer xs name x.1 declared.1 within) g says))
block_declares c xs given inner (Assign Nowhere right span) b rest outer after x declared may block within g says =
    absurd declared
block_declares c xs given inner (Assign (ToField e class n at) right span) b rest outer after x declared may block within g
    says = absurd declared
block_declares c xs given inner (Assign (ToElement t e i at) right span) b rest outer after x declared may block within g says =
    absurd declared
block_declares c xs given inner (If e y z) b rest outer after x declared may block within g says = absurd declared
block_declares c xs given inner (While ys i e y span) b rest outer after x declared may block within g says = absurd declared
block_declares c xs given inner (Members t y span) b rest outer after x declared may block within g says = absurd declared
block_declares c xs given inner (Meet barrier span) b rest outer after x declared may block within g says = absurd declared
block_declares c xs given inner (Act action class e span) b rest outer after x declared may block within g says =
    absurd declared
block_declares c xs given inner (Fold class q e es span) b rest outer after x declared may block within g says = absurd declared
block_declares c xs given inner (Unfold class q e es span) b rest outer after x declared may block within g says =
    absurd declared
block_declares c xs given inner (Assert f span) b rest outer after x declared may block within g says = absurd declared
block_declares c xs given inner (Send m span) b rest outer after x declared may block within g says = absurd declared
block_declares c xs given inner (Receive m span) b rest outer after x declared may block within g says = absurd declared
block_declares c xs given inner (Return e span) b rest outer after x declared may block within g says = absurd declared

-- a block is taken apart
pub block_says : (c : Standing) (xs : List Parameter) (given inner : Bool) (s : Statement) (b : Block) (rest : List Task)
    (outer : List Parameter) (after : Bool) → IsBlockIn c xs (Then s b) → IsWithin outer xs
    → (after ≡ true → ((gives_statement s || gives b) || given) ≡ true) → TasksSay c false outer after [] rest
    → TasksSay c inner xs given [] (tasks_of_statement s (Run b ∷ rest))
block_says c xs given inner s b rest outer after (inl (fits, says, more), may, stays) within g good =
    statement_says c xs given inner s (Run b ∷ rest) fits says may.0 (stays_first c.loops s b stays)
    (λ z. runs outer after (more, may.1, stays_rest c.loops s b stays) within
    (λ a. moved_over (gives_statement s) (gives b) given (g a)) good)
block_says c xs given inner s b rest outer after (inr (x, declared, more), may, stays) within g good =
    block_declares c xs given inner s b rest outer after x declared may.0 (more, may.1, stays_rest c.loops s b stays) within g
    good

-- the call that a frame is, where only its state and its tasks changed
pub called_same : (f g : Frame) (r s : account.Run) → IsStill f g → s.past ≡ r.past → s.body ≡ r.body
    → called_of g s ≡ called_of f r
called_same f g r s still past body =
    ap (λ z. record { class = z; method = g.method; this = g.this; begun = g.begun; past = s.past; body = s.body }) still.class
    ∙ ap (λ z. record { class = f.class; method = z; this = g.this; begun = g.begun; past = s.past; body = s.body }) still.method
    ∙ ap (λ z. record { class = f.class; method = f.method; this = z; begun = g.begun; past = s.past; body = s.body }) still.this
    ∙ ap (λ z. record { class = f.class; method = f.method; this = f.this; begun = z; past = s.past; body = s.body }) still.begun
    ∙ ap (λ z. record { class = f.class; method = f.method; this = f.this; begun = f.begun; past = z; body = s.body }) past
    ∙ ap (λ z. record { class = f.class; method = f.method; this = f.this; begun = f.begun; past = r.past; body = z }) body

module _ (p : Program) (flags : ℕ → Bool) (present : Heap) (sound : HeapFits p present) (framed : PredicatesFit p present) where
  -- the run of a statement is that of its tasks
  statement_never : (r : account.Run) (s : Statement) (b : Block) (rest : List Task) (values : List Value)
      → NeverOn p flags present r r.inner (Run (Then s b) ∷ rest) values
      → NeverOn p flags present r r.inner (tasks_of_statement s (Run b ∷ rest)) values
  statement_never r (If e one two) b rest values never =
      alike_never r.taken never (λ maps. sym (evaluate_alike maps (states.scene_of r.state) e _ _
      (λ v s k. go maps (truth_in v) s) r.state refl))
    where
      go : (maps : Maps) (t : Bool) (s : State)
          → judge_block (truly maps) p r.body.site (if t then one else two)
          (judge_block (truly maps) p r.body.site b (ran (truly maps) p r.body false rest values)) s
          ≡ (if t then judge_block (truly maps) p r.body.site one
          (judge_block (truly maps) p r.body.site b (ran (truly maps) p r.body false rest values)) s
          else judge_block (truly maps) p r.body.site two
          (judge_block (truly maps) p r.body.site b (ran (truly maps) p r.body false rest values)) s)
      go maps true s = refl
      go maps false s = refl
  statement_never r (While assigned invariant e body span) b rest values never = never
  statement_never r (Members t body span) b rest values never = never
  statement_never r (Meet barrier span) b rest values never = never
  statement_never r (Act action class e span) b rest values never = never
  statement_never r (Assert g span) b rest values never = never
  statement_never r (Send m span) b rest values never = never
  statement_never r (Receive m span) b rest values never = never
  statement_never r (Return None span) b rest values never = never
  statement_never r (Return (Some e) span) b rest values never = never
  statement_never r (Assign target value span) b rest values never =
      alike_never r.taken never (λ maps. sym (target_alike maps p r.body r.inner
      (states.scene_of r.state) target value span b rest
      values r.state refl))
  statement_never r (Fold class predicate e arguments span) b rest values never =
      alike_never r.taken never (λ maps. sym (object_alike maps p r.body r.inner (states.scene_of r.state) e arguments values _
      (λ o vs s. unless_null (truly maps) (reference_in o) ((truly maps).failed check.Null span)
      (fold_in (truly maps) (predicate_named p class predicate) class (reference_in o) vs span
      (judge_block (truly maps) p r.body.site b (ran (truly maps) p r.body false rest values)) s))
      (λ o ws n. fold_same maps p r.body r.inner class predicate span b rest values (length arguments) o ws n) r.state refl))
  statement_never r (Unfold class predicate e arguments span) b rest values never =
      alike_never r.taken never (λ maps. sym (object_alike maps p r.body r.inner (states.scene_of r.state) e arguments values _
      (λ o vs. unfold_in (truly maps) (predicate_named p class predicate) class (reference_in o) vs span
      (judge_block (truly maps) p r.body.site b (ran (truly maps) p r.body false rest values)))
      (λ o ws n. unfold_same maps p r.body r.inner class predicate span b rest values (length arguments) o ws n) r.state refl))

  statement_goes : (f : Frame) (r : account.Run) (fits : IsRunOf p flags present f r) (s : Statement) (b : Block)
      (rest : List Task)
      → SaysOn p flags present f r r.inner r.scope r.given r.stack (Run (Then s b) ∷ rest)
      → TurnsAround p flags present f r false rest → NeverOn p flags present r r.inner (Run (Then s b) ∷ rest) f.values
      → Goes p flags present (worked f (Run (Then s b) ∷ rest)) r
  statement_goes f r fits s b rest (runs outer after block within g says) turns never =
      stays_in p flags present f r fits r.inner [] (tasks_of_statement s (Run b ∷ rest)) f.values tt
      (block_says (standing_in p f.class r.body r.outer) r.scope r.given r.inner s b rest outer after block within g says)
      (subst (λ o. AllTakeTurns p flags present f.class r.body r.past (body_scene f) o r.outer)
      (sym (opened_statement r.inner s b rest)) turns)
      (statement_never r s b rest f.values never)

  -- an instance is given up, and what its body says is taken in
  unfold_goes : (f : Frame) (r : account.Run) (fits : IsRunOf p flags present f r) (class predicate : Name) (count : ℕ)
      (span : Span) (rest : List Task)
      → SaysOn p flags present f r r.inner r.scope r.given r.stack (Unfolded class predicate count span ∷ rest)
      → TurnsAround p flags present f r false rest → ((q : Resource) → amounts_of r q ≤ whole)
      → NeverOn p flags present r r.inner (Unfolded class predicate count span ∷ rest) f.values
      → Goes p flags present (worked f (Unfolded class predicate count span ∷ rest)) r
  unfold_goes f r fits class predicate count span rest (unfolded stack d named is many says) turns most never =
      go (without_instance x r.state.instances) refl
      (subst (λ o. RestNeverFails r.taken (λ maps. unfold_in (truly maps) o class object arguments span
      (ran (truly maps) p r.body false rest (drop (suc count) f.values)) r.state)) named never)
    where
      object : ℕ
      object = object_under count f.values

      arguments : List Value
      arguments = topmost count f.values

      x : Folded
      x = record { class = class; predicate = d.name; object = object_under count f.values; arguments = topmost count f.values }

      itself : predicate_named p class d.name ≡ Some d
      itself = subst (λ n. predicate_named p class n ≡ Some d) (sym (named_so p class predicate d named)) named

      this : HasType present (Object class) (value.Reference (object_under count f.values))
      this = object_typed present stack r.stack (types_of d.parameters) class count f.values is many fits.typed.values

      all : AreTyped present (types_of d.parameters) (topmost count f.values)
      all = arguments_typed present stack r.stack (types_of d.parameters) class count f.values is many fits.typed.values

      older : (last : Taken) (after : Cells) → after ≡ r.state.old
          → ((known : Contents) → AreSettled r.taken r.state.old known → AreSettled last r.state.old known)
          → OldIs p present r.body.speech.old f.old r.past last after
      older last after kept on = record {
        known = fits.old.known;
        settled = subst (λ c. AreSettled last c fits.old.known) (sym kept) (on fits.old.known fits.old.settled);
        agrees = fits.old.agrees;
        fits = fits.old.fits;
        is = fits.old.is;
        needed = fits.old.needed;
      }

      taken : (J : List Folded) (t : TreeTaken p flags present (record {
        class = class;
        predicate = d.name;
        object = object_under count f.values;
        arguments = topmost count f.values;
      }) J r.trees)
          → RestNeverFails r.taken (λ maps. inhale (truly maps)
          (record { scene = outer_scene (object_under count f.values) d.parameters (topmost count f.values); old = no_cells })
          d.body
          (ran (truly maps) p r.body false rest (drop (suc count) f.values)) (with_instances r.state J))
          → Goes p flags present (worked f (Unfolded class predicate count span ∷ rest)) r
      taken J t n =
          let same : t.predicate ≡ d = same_Some t.predicate d (sym t.named ∙ itself) in
          let g = formula_gains p flags present sound framed (body_place p flags present sound framed class d)
          (outer_scene (object_under count f.values) d.parameters (topmost count f.values))
          (framed.fits class d.name d itself (object_under count f.values) (topmost count f.values) this all) d.body
          (framed.good class d.name d itself) t.part
          (subst (λ q. Owns p flags (only_now present)
          (outer_scene (object_under count f.values) q.parameters (topmost count f.values)) q.body t.part) same t.owns)
          r.taken (with_instances r.state J) (λ picks q. refl)
          (let y = fits.state.fits in
          record { steps = y.steps; agree = y.agree; holds = y.holds; knows = y.knows; met = y.met })
          t.rest t.has_trees (λ q. let a = t.sum q in let b = most q in omega (arith, a, b))
          (λ maps. ran (truly maps) p r.body false rest (drop (suc count) f.values)) n in
          record {
            run = record r { state = g.after; taken = g.then_taken; trees = g.trees; inner = false; stack = stack };
            fits = record {
              state = record {
                fits = g.fine;
                this = ap (λ z. z.this) g.scene ∙ fits.state.this;
                variables = λ n t is. ap (λ z. z.variables n.0) g.scene ∙ fits.state.variables n t is;
                result = ap (λ z. z.result) g.scene ∙ fits.state.result;
                trees = g.has_trees;
              };
              old = older g.then_taken g.after.old g.kept (settled_on r.taken g.then_taken g.goes r.state.old);
              body = fits.body;
              typed = record {
                this = fits.typed.this;
                variables = fits.typed.variables;
                result = fits.typed.result;
                values = past-fits present stack r.stack (Object class) (types_of d.parameters) count f.values is many
                    fits.typed.values;
              };
              tasks = frame_says (standing_in p f.class r.body r.outer) false r.scope r.given stack rest says;
              outer = turns;
              never = g.never;
            };
            says = says;
            less = λ q. let a = g.sum q in let b = t.sum q in omega (arith, a, b);
            past = refl;
            body = refl;
            outer = refl;
          }

      go : (J : Option (List Folded)) → without_instance (record {
        class = class;
        predicate = d.name;
        object = object_under count f.values;
        arguments = topmost count f.values;
      }) r.state.instances ≡ J
          → RestNeverFails r.taken (λ maps. or_short (truly maps) J ((truly maps).failed check.Unfold span)
          (inhale (truly maps)
          (record { scene = outer_scene (object_under count f.values) d.parameters (topmost count f.values); old = no_cells })
          d.body
          (ran (truly maps) p r.body false rest (drop (suc count) f.values))) r.state)
          → Goes p flags present (worked f (Unfolded class predicate count span ∷ rest)) r
      go None is' n = absurd (n.never [] check.Unfold span refl)
      go (Some J) is' n =
          taken J (tree_taken p flags present (record {
            class = class;
            predicate = d.name;
            object = object_under count f.values;
            arguments = topmost count f.values;
          }) r.state.instances J r.trees
          fits.state.trees is') n

  stays : (f : Frame) (r : account.Run) → IsRunOf p flags present f r
      → SaysOn p flags present f r r.inner r.scope r.given r.stack f.tasks → Goes p flags present f r
  stays f r fits says =
      record { run = r; fits = fits; says = says; less = λ q. omega arith; past = refl; body = refl; outer = refl }

  -- one piece of local work
  pub worked_goes : (f : Frame) (r : account.Run) (fits : IsRunOf p flags present f r)
      → SaysOn p flags present f r r.inner r.scope r.given r.stack f.tasks → (tasks : List Task)
      → SaysOn p flags present f r r.inner r.scope r.given r.stack tasks → TurnsAround p flags present f r r.inner tasks
      → NeverOn p flags present r r.inner tasks f.values → ((q : Resource) → amounts_of r q ≤ whole)
      → Goes p flags present (worked f tasks) r
  worked_goes f r fits all [] says turns never most = stays f r fits all
  worked_goes f r fits all (Evaluate e ∷ rest) says turns never most =
      evaluated_goes p flags present f r fits e rest says turns never
  worked_goes f r fits all (EvaluateAll [] ∷ rest) (evaluates_none says) turns never most =
      stays_in p flags present f r fits r.inner r.stack rest f.values fits.typed.values says turns never
  worked_goes f r fits all (EvaluateAll (e ∷ es) ∷ rest) (evaluates_more type is says) turns never most =
      stays_in p flags present f r fits r.inner r.stack _ f.values fits.typed.values (evaluates type is says) turns never
  worked_goes f r fits all (Combine Negated ∷ rest) says turns never most = go r.inner r.stack says fits.typed.values turns never
    where
      go : (b : Bool) (stack : List PvType) → SaysOn p flags present f r b r.scope r.given stack (Combine Negated ∷ rest)
          → typed.ValuesFit present stack f.values → TurnsAround p flags present f r b rest
          → NeverOn p flags present r b (Combine Negated ∷ rest) f.values
          → Goes p flags present (worked f (Combine Negated ∷ rest)) r
      go b stack (negates {stack = s} says') values turns' never' =
          stays_in p flags present f r fits b (Truth ∷ s) rest _ (refl, rest-fits present Truth s f.values values) says' turns'
          never'
  worked_goes f r fits all (Combine (Computed Plain op span) ∷ rest) says turns never most =
      go r.inner r.stack says fits.typed.values turns never
    where
      go : (b : Bool) (stack : List PvType)
          → SaysOn p flags present f r b r.scope r.given stack (Combine (Computed Plain op span) ∷ rest)
          → typed.ValuesFit present stack f.values → TurnsAround p flags present f r b rest
          → NeverOn p flags present r b (Combine (Computed Plain op span) ∷ rest) f.values
          → Goes p flags present (worked f (Combine (Computed Plain op span) ∷ rest)) r
      go b stack (computes {stack = s} says') values turns' never' =
          stays_in p flags present f r fits b (Int ∷ s) rest _
          (refl, two-fit present Int Int s f.values values) says' turns' never'
  worked_goes f r fits all (Combine (Computed Tabled op span) ∷ rest) says turns never most =
      go r.inner r.stack says fits.typed.values turns never
    where
      go : (b : Bool) (stack : List PvType)
          → SaysOn p flags present f r b r.scope r.given stack (Combine (Computed Tabled op span) ∷ rest)
          → typed.ValuesFit present stack f.values → TurnsAround p flags present f r b rest
          → NeverOn p flags present r b (Combine (Computed Tabled op span) ∷ rest) f.values
          → Goes p flags present (worked f (Combine (Computed Tabled op span) ∷ rest)) r
      go b stack (computes {stack = s} says') values turns' never' =
          stays_in p flags present f r fits b (Int ∷ s) rest _ (refl, two-fit present Int Int s f.values values) says' turns'
          (subst (λ z. NeverOn p flags present r b rest (value.Number z ∷ drop 2 f.values))
          (empty_table op (number_in (second f.values)) (number_in (top f.values))) never')
  worked_goes f r fits all (Combine (Compared order) ∷ rest) says turns never most =
      go r.inner r.stack says fits.typed.values turns never
    where
      go : (b : Bool) (stack : List PvType) → SaysOn p flags present f r b r.scope r.given stack (Combine (Compared order) ∷ rest)
          → typed.ValuesFit present stack f.values → TurnsAround p flags present f r b rest
          → NeverOn p flags present r b (Combine (Compared order) ∷ rest) f.values
          → Goes p flags present (worked f (Combine (Compared order) ∷ rest)) r
      go b stack (compares {stack = s} says') values turns' never' =
          stays_in p flags present f r fits b (Truth ∷ s) rest _ (refl, two-fit present Int Int s f.values values) says' turns'
          never'
  worked_goes f r fits all (Combine (Matched same) ∷ rest) says turns never most =
      go r.inner r.stack says fits.typed.values turns never
    where
      go : (b : Bool) (stack : List PvType) → SaysOn p flags present f r b r.scope r.given stack (Combine (Matched same) ∷ rest)
          → typed.ValuesFit present stack f.values → TurnsAround p flags present f r b rest
          → NeverOn p flags present r b (Combine (Matched same) ∷ rest) f.values
          → Goes p flags present (worked f (Combine (Matched same) ∷ rest)) r
      go b stack (matches {stack = s} {a = x} {b = y} says') values turns' never' =
          stays_in p flags present f r fits b (Truth ∷ s) rest _ (refl, two-fit present x y s f.values values) says' turns' never'
  worked_goes f r fits all (Choose a b ∷ rest) says turns never most = go r.inner r.stack says fits.typed.values turns never
    where
      chosen : (xs : List Parameter) (type : PvType) (h : Home) (t : Bool) → IsOf h xs a type → IsOf h xs b type
          → IsOf h xs (if t then a else b) type
      chosen xs type h true one two = one
      chosen xs type h false one two = two

      go : (inner : Bool) (stack : List PvType) → SaysOn p flags present f r inner r.scope r.given stack (Choose a b ∷ rest)
          → typed.ValuesFit present stack f.values → TurnsAround p flags present f r inner rest
          → NeverOn p flags present r inner (Choose a b ∷ rest) f.values → Goes p flags present (worked f (Choose a b ∷ rest)) r
      go inner stack (chooses {stack = s} type one two says') values turns' never' =
          stays_in p flags present f r fits inner s _ (drop 1 f.values) (rest-fits present Truth s f.values values)
          (evaluates type (chosen r.scope type (standing_in p f.class r.body r.outer).home (truth_in (top f.values)) one two)
          says')
          turns' never'
  worked_goes f r fits all (Branch a b ∷ rest) says turns never most = go r.inner r.stack says turns never
    where
      chosen : (t : Bool) (c : Standing) (xs : List Parameter) → IsBlockIn c xs a → IsBlockIn c xs b
          → IsBlockIn c xs (if t then a else b)
      chosen true c xs one two = one
      chosen false c xs one two = two

      go : (inner : Bool) (stack : List PvType) → SaysOn p flags present f r inner r.scope r.given stack (Branch a b ∷ rest)
          → TurnsAround p flags present f r false rest → NeverOn p flags present r inner (Branch a b ∷ rest) f.values
          → Goes p flags present (worked f (Branch a b ∷ rest)) r
      go inner stack (parts one two says') turns' never' =
          stays_in p flags present f r fits inner [] _ (drop 1 f.values) tt
          (runs r.scope ((gives a && gives b) || r.given)
          (chosen (truth_in (top f.values)) (standing_in p f.class r.body r.outer) r.scope one two) (λ n t is. is)
          (one_of_both (truth_in (top f.values)) a b r.given) says') turns' never'
  worked_goes f r fits all (Turn l ∷ rest) says turns never most = turn_goes p flags present f r fits l rest says turns never
  worked_goes f r fits all (Put name ∷ rest) says turns never most = put_goes p flags present f r fits name rest says turns never
  worked_goes f r fits all (Drop ∷ rest) says turns never most = go r.inner r.stack says fits.typed.values
    where
      go : (inner : Bool) (stack : List PvType) → SaysOn p flags present f r inner r.scope r.given stack (Drop ∷ rest)
          → typed.ValuesFit present stack f.values → Goes p flags present (worked f (Drop ∷ rest)) r
      go inner stack (drops {stack = s} {type = type} says') values =
          stays_in p flags present f r fits false s rest (drop 1 f.values) (rest-fits present type s f.values values) says' turns
          never
  worked_goes f r fits all (Give ∷ rest) says turns never most = give_goes p flags present f r fits rest says turns never
  worked_goes f r fits all (Unfolded class predicate count span ∷ rest) says turns never most =
      unfold_goes f r fits class predicate count span rest says turns most never
  worked_goes f r fits all (Run Stop ∷ rest) (runs outer after block within g says) turns never most =
      moves p flags present f r fits false outer after [] rest f.values within (λ a. fits.typed.result (g a)) tt says turns never
  worked_goes f r fits all (Run (Then s b) ∷ rest) says turns never most = statement_goes f r fits s b rest says turns never
  worked_goes f r fits all (Stand step ∷ rest) says turns never most = stays f r fits all
  worked_goes f r fits all (Resume class m object arguments ∷ rest) says turns never most = stays f r fits all

  -- so many pieces
  pub work_goes : (n : ℕ) (f : Frame) (r : account.Run) → IsRunOf p flags present f r
      → SaysOn p flags present f r r.inner r.scope r.given r.stack f.tasks → ((q : Resource) → amounts_of r q ≤ whole)
      → Goes p flags present (after_work n f) r
  work_goes zero f r fits says most = stays f r fits says
  work_goes (suc n) f r fits says most =
      let g = worked_goes f r fits says f.tasks says fits.outer fits.never most in
      let k =
      work_goes n (worked f f.tasks) g.run g.fits g.says (λ q. let a = g.less q in let b = most q in omega (arith, a, b)) in
      record {
        run = k.run;
        fits = k.fits;
        says = k.says;
        less = λ q. let a = g.less q in let b = k.less q in omega (arith, a, b);
        past = k.past ∙ g.past;
        body = k.body ∙ g.body;
        outer = k.outer ∙ g.outer;
      }

  -- all of it
  pub settled_goes : (f : Frame) (r : account.Run) → IsRunOf p flags present f r
      → SaysOn p flags present f r r.inner r.scope r.given r.stack f.tasks → ((q : Resource) → amounts_of r q ≤ whole)
      → Goes p flags present (settled f) r
  settled_goes f r fits says most = work_goes (size_of_tasks f.tasks) f r fits says most

  -- the call of a frame stays the same over local work
  pub called_settled : (f : Frame) (r : account.Run) (g : Goes p flags present (settled f) r)
      → called_of (settled f) g.run ≡ called_of f r
  called_settled f r g = called_same f (settled f) r g.run (settled_still f) g.past g.body

  -- so the frames below go on to wait for it
  pub below_settled : (f : Frame) (r : account.Run) (g : Goes p flags present (settled f) r) (fs : List Frame)
      (rs : List account.Run)
      → AllWait p flags present (called_of f r) fs rs → AllWait p flags present (called_of (settled f) g.run) fs rs
  below_settled f r g fs rs fits = subst (λ c. AllWait p flags present c fs rs) (sym (called_settled f r g)) fits
