-- A drawn run is its parts, each with what comes next.
use Rattle.std.proofs.Common.{◌≡◌, ℕ, ℤ, Bool, true, false, if◌then◌else◌, List, [], ◌∷◌, ◌++◌, refl, ap, sym, ◌∙◌}
use Rattle.pv_values.specs.declared.value.Value.{Value}
use Rattle.pv_values.specs.declared.value.Value.TheVariants as value
use Rattle.pv_ast.specs.declared.PvType.{PvType}
use Rattle.pv_picks.specs.Plain.Core.{Expression, Constant, This, Result, Variable, Field, Element, Length, Not, Compute, Compare, Equal, And, Or, Implies, Old, Formula, Fact, FieldPermission, ElementPermission, Holds, Instance, Star, When, Each}
use Rattle.std.specs.Prelude.{not}
use Rattle.pv_picks.specs.Formulas.Values.{number_in, truth_in, reference_in, comparison, equality}
use Rattle.pv_picks.specs.Formulas.Evaluation.{Scene, evaluate, evaluate_all}
use Rattle.pv_picks.specs.Judge.States.{State, Bind}
use Rattle.pv_picks.specs.Judge.Settings.{Setting, Next, operate}
use Rattle.pv_picks.specs.Judge.Permissions.{gain_field, gain_element, add_token, add_instance, give_field, give_element, take_token, take_instance}
use Rattle.pv_picks.specs.Judge.Inhaling.{inhale}
use Rattle.pv_picks.specs.Judge.Exhaling.{Giving, exhale, fails}
use Rattle.pv_picks.specs.Lazy.Patterns.{Shown}
use Rattle.pv_picks.specs.Lazy.Runs.{Memory, LazyEnd, Taken, final, Outcome, Lazily, lazy, Drawn, from_values}
use Rattle.pv_picks.specs.Lazy.Parts.{Came, Goes, Stopped, Ran, Part, gone, one_go, after, then_run, chain, Reading, InBody, InFormula, of_old, field_reader, element_reader, length_reader, reader_of, when_inhaled, when_exhaled, run_expression, run_expressions, run_inhale, run_exhale}
use Rattle.judge_laws.specs.Related.{AreRelated}
use Rattle.judge_laws.specs.Parts.{ExpressionsByParts, AllExpressionsByParts, InhalesByParts, ExhalesByParts, RunsByParts}
use Rattle.pv_picks.proofs.Readers.{ReadersRelated}
use Rattle.judge_laws.proofs.OneGo.{append_append, shown_continues, continues}
use Rattle.judge_laws.proofs.Statements.{access_related}
use Rattle.judge_laws.proofs.Taking as taking
use Rattle.judge_laws.proofs.Formulas.{inhale_related, exhale_related}

module _ {E : Type 0} (stop : LazyEnd → Memory → E) where
  abbrev whole : List Shown → List ℤ → List PvType → List Taken → E → Outcome E
  whole ss vs ys ps e = record { shows = ss; values = vs; types = ys; picks = ps; end = e }

  outcome_same : (ss ts : List Shown) (vs ws : List ℤ) (ys zs : List PvType) (ps qs : List Taken) (e : E) → ss ≡ ts → vs ≡ ws
      → ys ≡ zs → ps ≡ qs → whole ss vs ys ps e ≡ whole ts ws zs qs e
  outcome_same ss ts vs ws ys zs ps qs e p q r t =
      ap (λ x. whole x vs ys ps e) p ∙ ap (λ x. whole ts x ys ps e) q ∙ ap (λ x. whole ts ws x ps e) r
      ∙ ap (λ x. whole ts ws zs x e) t

  -- what comes after two parts comes after the second of them
  pub then_after : {A B : Type 0} (o : Ran A) (k : A → Part B) (next : B → Next (Lazily Drawn E))
      → then_run stop (chain o k) next ≡ then_run stop o (λ a s m d. then_run stop (k a s m d) next)
  then_after {A = A} {B = B} o k next = go o.end
    where
      go : (c : Came A) → then_run stop (chain
          (record { shows = o.shows; values = o.values; types = o.types; picks = o.picks; end = c }) k) next
          ≡ then_run stop (record { shows = o.shows; values = o.values; types = o.types; picks = o.picks; end = c })
          (λ a s m d. then_run stop (k a s m d) next)
      go (Goes a s m d) =
          let r : Ran B = k a s m d in
          let q : Outcome E = after stop r.end next in
          outcome_same _ _ _ _ _ _ _ _ q.end (append_append o.shows r.shows q.shows) (append_append o.values r.values q.values)
          (append_append o.types r.types q.types)
          (append_append o.picks r.picks q.picks)
      go (Stopped e m) =
          outcome_same _ _ _ _ _ _ _ _ (stop e m) (append_append o.shows [] []) (append_append o.values [] [])
          (append_append o.types [] [])
          (append_append o.picks [] [])

  -- what comes next is the same from each state
  pub then_same : {A : Type 0} (o : Ran A) (f g : A → Next (Lazily Drawn E))
      → ((a : A) (s : State) (m : Memory) (d : Drawn) → f a s m d ≡ g a s m d) → then_run stop o f ≡ then_run stop o g
  then_same {A = A} o f g h = go o.end
    where
      go : (c : Came A) → then_run stop (record { shows = o.shows; values = o.values; types = o.types; picks = o.picks; end = c })
          f
          ≡ then_run stop (record { shows = o.shows; values = o.values; types = o.types; picks = o.picks; end = c }) g
      go (Goes a s m d) = ap (λ (q : Outcome E). record {
        shows = o.shows ++ q.shows;
        values = o.values ++ q.values;
        types = o.types ++ q.types;
        picks = o.picks ++ q.picks;
        end = q.end;
      }) (h a s m d)
      go (Stopped e m) = refl

  -- a part, and then the parts of what comes next
  pub then_parts : {A B : Type 0} (x : Outcome E) (o : Ran A) (f : A → Next (Lazily Drawn E)) (k : A → Part B)
      (next : B → Next (Lazily Drawn E)) → x ≡ then_run stop o f
      → ((a : A) (s : State) (m : Memory) (d : Drawn) → f a s m d ≡ then_run stop (k a s m d) next)
      → x ≡ then_run stop (chain o k) next
  then_parts x o f k next p q = p ∙ then_same o f _ q ∙ sym (then_after o k next)

  module _ (values : ℕ → ℤ) (turns : ℕ → ℕ) where
    abbrev S : Setting (Lazily Drawn E)
    S = lazy stop (from_values values turns)

    -- the whole run goes on where the part has come to
    abbrev Goes_on : {A : Type 0} → (A → Next (Lazily Drawn E)) → Lazily Drawn (Came A) → Lazily Drawn E → Type 0
    Goes_on next x y = (m : Memory) (d : Drawn) → y m d ≡ then_run stop (x m d) next

    settings : {A : Type 0} (next : A → Next (Lazily Drawn E)) → AreRelated (one_go values turns) S (Goes_on next)
    settings next = continues values turns stop next

    readers : {A : Type 0} (r : Reading) (next : A → Next (Lazily Drawn E))
        → ReadersRelated (λ x y. (t : State) → Goes_on next (x t) (y t)) (reader_of (one_go values turns) r) (reader_of S r)
    readers InBody next = access_related _ _ (Goes_on next) (settings next)
    readers (InFormula now old) next =
        taking.formula_reader_related _ _ (Goes_on next) (settings next) now _ _ (λ p t n c. refl)

    -- a truth value decides
    decides : {A : Type 0} (b : Bool) (x y : Lazily Drawn E) (u w : Lazily Drawn (Came A)) (next : A → Next (Lazily Drawn E))
        → Goes_on next u x → Goes_on next w y
        → Goes_on next ((one_go values turns).deciding b (if b then u else w)) (S.deciding b (if b then x else y))
    decides true x y u w next p q m d = shown_continues values turns stop next _ _ _ (p m d)
    decides false x y u w next p q m d = shown_continues values turns stop next _ _ _ (q m d)

    decides_at : {A : Type 0} (b : Bool) (x y : Next (Lazily Drawn E)) (u w : Lazily Drawn (Came A))
        (next : A → Next (Lazily Drawn E)) (t : State) → Goes_on next u (x t) → Goes_on next w (y t)
        → Goes_on next ((one_go values turns).deciding b (if b then u else w)) (S.deciding b ((if b then x else y) t))
    decides_at true x y u w next t p q m d = shown_continues values turns stop next _ _ _ (p m d)
    decides_at false x y u w next t p q m d = shown_continues values turns stop next _ _ _ (q m d)

    abbrev One : {A : Type 0} → Setting (Lazily Drawn (Came A))
    One = one_go values turns

    abbrev ran : Reading → Scene → Expression → Part Value
    ran = run_expression values turns

    abbrev evaluated : Reading → Scene → Expression → (Value → Next (Lazily Drawn E)) → Next (Lazily Drawn E)
    evaluated r = evaluate (reader_of S r) (reader_of S (of_old r))

    expression : (r : Reading) (scene : Scene) (e : Expression) (next : Value → Next (Lazily Drawn E)) (s : State) (m : Memory)
        (d : Drawn) → evaluated r scene e next s m d ≡ then_run stop (ran r scene e s m d) next
    expression r scene (Constant v) next s m d = refl
    expression r scene This next s m d = refl
    expression r scene Result next s m d = refl
    expression r scene (Variable x) next s m d = refl
    expression r scene (Field e c f p) next s m d =
        then_parts _ (ran r scene e s m d) _ (λ v. field_reader One r c (reference_in v) f p gone) next
        (expression r scene e _ s m d) (λ v. (readers r next).field c _ f p gone next (λ w t n c. refl))
    expression r scene (Element y a i p) next s m d =
        then_parts _ (ran r scene a s m d) _ (λ v t n c. chain (ran r scene i t n c)
        (λ w. element_reader One r y (reference_in v) (number_in w) p gone)) next (expression r scene a _ s m d)
        (λ v t n c. then_parts _ (ran r scene i t n c) _ (λ w. element_reader One r y (reference_in v) (number_in w) p gone) next
        (expression r scene i _ t n c) (λ w. (readers r next).element y _ _ p gone next (λ x u l b. refl)))
    expression r scene (Length y a p) next s m d =
        then_parts _ (ran r scene a s m d) _
        (λ v. length_reader One r y (reference_in v) p (λ z. gone (value.Number z))) next
        (expression r scene a _ s m d)
        (λ v. (readers r next).length y _ p (λ z. gone (value.Number z)) (λ z. next (value.Number z)) (λ z t n c. refl))
    expression r scene (Not e) next s m d =
        then_parts _ (ran r scene e s m d) _ (λ v. gone (value.Truth (not (truth_in v)))) next (expression r scene e _ s m d)
        (λ v t n c. refl)
    expression r scene (Compute y o a b p) next s m d =
        then_parts _ (ran r scene a s m d) _ (λ v t n c. chain (ran r scene b t n c)
        (λ w. operate One y o (number_in v) (number_in w) p (λ z. gone (value.Number z)))) next (expression r scene a _ s m d)
        (λ v t n c. then_parts _ (ran r scene b t n c) _
        (λ w. operate One y o (number_in v) (number_in w) p (λ z. gone (value.Number z))) next (expression r scene b _ t n c)
        (λ w. taking.operate_related _ _ (Goes_on next) (settings next) y o _ _ p (λ z. gone (value.Number z))
        (λ z. next (value.Number z)) (λ z u l f. refl)))
    expression r scene (Compare o a b) next s m d =
        then_parts _ (ran r scene a s m d) _ (λ v t n c. chain (ran r scene b t n c)
        (λ w u. One.comparing (number_in v) (number_in w)
        (gone (value.Truth (comparison o (number_in v) (number_in w))) u))) next (expression r scene a _ s m d)
        (λ v t n c. then_parts _ (ran r scene b t n c) _
        (λ w u. One.comparing (number_in v) (number_in w)
        (gone (value.Truth (comparison o (number_in v) (number_in w))) u)) next (expression r scene b _ t n c)
        (λ w u. (settings next).comparing (number_in v) (number_in w)
        (gone (value.Truth (comparison o (number_in v) (number_in w))) u)
        (next (value.Truth (comparison o (number_in v) (number_in w))) u) (λ l f. refl)))
    expression r scene (Equal same a b) next s m d =
        then_parts _ (ran r scene a s m d) _ (λ v t n c. chain (ran r scene b t n c)
        (λ w u. One.matching v w (gone (value.Truth (equality same v w)) u))) next (expression r scene a _ s m d)
        (λ v t n c. then_parts _ (ran r scene b t n c) _ (λ w u. One.matching v w (gone (value.Truth (equality same v w)) u)) next
        (expression r scene b _ t n c)
        (λ w u. (settings next).matching v w (gone (value.Truth (equality same v w)) u)
        (next (value.Truth (equality same v w)) u) (λ l f. refl)))
    expression r scene (And a b) next s m d =
        then_parts _ (ran r scene a s m d) _
        (λ v t. One.deciding (truth_in v) (if truth_in v then ran r scene b t else gone (value.Truth false) t)) next
        (expression r scene a _ s m d)
        (λ v t. decides_at (truth_in v) (evaluated r scene b next) (next (value.Truth false)) (ran r scene b t)
        (gone (value.Truth false) t) next t (λ n c. expression r scene b next t n c) (λ n c. refl))
    expression r scene (Or a b) next s m d =
        then_parts _ (ran r scene a s m d) _
        (λ v t. One.deciding (truth_in v) (if truth_in v then gone (value.Truth true) t else ran r scene b t)) next
        (expression r scene a _ s m d)
        (λ v t. decides_at (truth_in v) (next (value.Truth true)) (evaluated r scene b next) (gone (value.Truth true) t)
        (ran r scene b t) next t (λ n c. refl) (λ n c. expression r scene b next t n c))
    expression r scene (Implies a b) next s m d =
        then_parts _ (ran r scene a s m d) _
        (λ v t. One.deciding (truth_in v) (if truth_in v then ran r scene b t else gone (value.Truth true) t)) next
        (expression r scene a _ s m d)
        (λ v t. decides_at (truth_in v) (evaluated r scene b next) (next (value.Truth true)) (ran r scene b t)
        (gone (value.Truth true) t) next t (λ n c. expression r scene b next t n c) (λ n c. refl))
    expression InBody scene (Old e) next s m d = expression InBody scene e next s m d
    expression (InFormula now old) scene (Old e) next s m d = expression (InFormula old old) scene e next s m d

    expressions : (r : Reading) (scene : Scene) (es : List Expression) (next : List Value → Next (Lazily Drawn E)) (s : State)
        (m : Memory) (d : Drawn)
        → evaluate_all (reader_of S r) (reader_of S (of_old r)) scene es next s m d
        ≡ then_run stop (run_expressions values turns r scene es s m d) next
    expressions r scene [] next s m d = refl
    expressions r scene (e ∷ es) next s m d =
        then_parts _ (ran r scene e s m d) _
        (λ v t n c. chain (run_expressions values turns r scene es t n c) (λ vs. gone (v ∷ vs))) next
        (expression r scene e _ s m d)
        (λ v t n c. then_parts _ (run_expressions values turns r scene es t n c) _ (λ vs. gone (v ∷ vs)) next
        (expressions r scene es _ t n c) (λ vs u l f. refl))

    module _ (bind : Bind) where
      abbrev taken : Expression → Part Value
      taken = ran (when_inhaled bind) bind.scene

      taken_in : (e : Expression) (k : Value → Next (Lazily Drawn E)) (s : State) (m : Memory) (d : Drawn)
          → evaluated (when_inhaled bind) bind.scene e k s m d ≡ then_run stop (taken e s m d) k
      taken_in e k s m d = expression (when_inhaled bind) bind.scene e k s m d

      inhales : (formula : Formula) (next : Next (Lazily Drawn E)) (s : State) (m : Memory) (d : Drawn)
          → inhale S bind formula next s m d ≡ then_run stop (run_inhale values turns bind formula s m d) (λ u. next)
      inhales (Fact e p) next s m d =
          then_parts _ (taken e s m d) _
          (λ v t. One.deciding (truth_in v) (if truth_in v then gone tt t else One.blocked)) (λ u. next) (taken_in e _ s m d)
          (λ v t. decides (truth_in v) _ _ (gone tt t) One.blocked (λ u. next) (λ n c. refl) (λ n c. refl))
      inhales (FieldPermission e c x y a p) next s m d =
          then_parts _ (taken e s m d) _ (λ o. gain_field One c (reference_in o) x y a (gone tt)) (λ u. next)
          (taken_in e _ s m d) (λ o. taking.gain_field_related _ _ (Goes_on (λ u. next)) (settings (λ u. next)) c _ x y a
          (gone tt) next (λ t n c. refl))
      inhales (ElementPermission y x i a p) next s m d =
          then_parts _ (taken x s m d) _ (λ o t n c. chain (taken i t n c)
          (λ v. gain_element One y (reference_in o) (number_in v) a (gone tt))) (λ u. next) (taken_in x _ s m d)
          (λ o t n c. then_parts _ (taken i t n c) _
          (λ v. gain_element One y (reference_in o) (number_in v) a (gone tt)) (λ u. next) (taken_in i _ t n c)
          (λ v. taking.gain_element_related _ _ (Goes_on (λ u. next)) (settings (λ u. next)) y (reference_in o) (number_in v) a
          (gone tt) next (λ t n c. refl)))
      inhales (Holds k c e p) next s m d =
          then_parts _ (taken e s m d) _ (λ o. add_token One k c (reference_in o) (gone tt)) (λ u. next) (taken_in e _ s m d)
          (λ o. taking.add_token_related _ _ (Goes_on (λ u. next)) (settings (λ u. next)) k c _ (gone tt) next (λ t n c. refl))
      inhales (Instance c k e es p) next s m d =
          then_parts _ (taken e s m d) _ (λ o t n b. chain (run_expressions values turns (when_inhaled bind) bind.scene es t n b)
          (λ vs. add_instance One (record { class = c; predicate = k; object = reference_in o; arguments = vs }) (gone tt)))
          (λ u. next) (taken_in e _ s m d)
          (λ o t n b. then_parts _ (run_expressions values turns (when_inhaled bind) bind.scene es t n b) _
          (λ vs. add_instance One (record { class = c; predicate = k; object = reference_in o; arguments = vs }) (gone tt))
          (λ u. next)
          (expressions (when_inhaled bind) bind.scene es _ t n b)
          (λ vs. taking.add_instance_related _ _ (Goes_on (λ u. next)) (settings (λ u. next)) _ (gone {A = Unit {0}} tt) next
          (λ t n c. refl)))
      inhales (Star a b) next s m d =
          then_parts _ (run_inhale values turns bind a s m d) _ (λ u. run_inhale values turns bind b) (λ u. next)
          (inhales a _ s m d) (λ u t n c. inhales b next t n c)
      inhales (When e a p) next s m d =
          then_parts _ (taken e s m d) _
          (λ v t. One.deciding (truth_in v) (if truth_in v then run_inhale values turns bind a t else gone tt t)) (λ u. next)
          (taken_in e _ s m d)
          (λ v t. decides (truth_in v) _ _ (run_inhale values turns bind a t) (gone tt t) (λ u. next)
          (λ n c. inhales a next t n c) (λ n c. refl))
      inhales (Each x l h is p) next s m d =
          inhale_related _ _ (Goes_on (λ u. next)) (settings (λ u. next)) bind (Each x l h is p) (gone tt) next
          (λ t n c. refl) s m d

    module _ (f : Giving) where
      abbrev given : Expression → Part Value
      given = ran (when_exhaled f) f.bind.scene

      given_in : (e : Expression) (k : Value → Next (Lazily Drawn E)) (s : State) (m : Memory) (d : Drawn)
          → evaluated (when_exhaled f) f.bind.scene e k s m d ≡ then_run stop (given e s m d) k
      given_in e k s m d = expression (when_exhaled f) f.bind.scene e k s m d

      exhales : (formula : Formula) (next : Next (Lazily Drawn E)) (s : State) (m : Memory) (d : Drawn)
          → exhale S f formula next s m d ≡ then_run stop (run_exhale values turns f formula s m d) (λ u. next)
      exhales (Fact e p) next s m d =
          then_parts _ (given e s m d) _
          (λ v t. One.deciding (truth_in v) (if truth_in v then gone tt t else (fails One f p))) (λ u. next) (given_in e _ s m d)
          (λ v t. decides (truth_in v) _ _ (gone tt t) (fails One f p) (λ u. next) (λ n c. refl) (λ n c. refl))
      exhales (FieldPermission e c x y a p) next s m d =
          then_parts _ (given e s m d) _ (λ o. give_field One c (reference_in o) x a (fails One f p) (gone tt)) (λ u. next)
          (given_in e _ s m d) (λ o. taking.give_field_related _ _ (Goes_on (λ u. next)) (settings (λ u. next)) c _ x a _ _
          (λ n c. refl) (gone tt) next (λ t n c. refl))
      exhales (ElementPermission y x i a p) next s m d =
          then_parts _ (given x s m d) _ (λ o t n c. chain (given i t n c)
          (λ v. give_element One y (reference_in o) (number_in v) a (fails One f p) (gone tt))) (λ u. next) (given_in x _ s m d)
          (λ o t n c. then_parts _ (given i t n c) _
          (λ v. give_element One y (reference_in o) (number_in v) a (fails One f p) (gone tt)) (λ u. next) (given_in i _ t n c)
          (λ v. taking.give_element_related _ _ (Goes_on (λ u. next)) (settings (λ u. next)) y _ _ a _ _ (λ n c. refl)
          (gone tt) next (λ t n c. refl)))
      exhales (Holds k c e p) next s m d =
          then_parts _ (given e s m d) _ (λ o. take_token One k c (reference_in o) (fails One f p) (gone tt)) (λ u. next)
          (given_in e _ s m d)
          (λ o. taking.take_token_related _ _ (Goes_on (λ u. next)) (settings (λ u. next)) k c _ _ _ (λ n c. refl) (gone tt) next
          (λ t n c. refl))
      exhales (Instance c k e es p) next s m d =
          then_parts _ (given e s m d) _ (λ o t n b. chain (run_expressions values turns (when_exhaled f) f.bind.scene es t n b)
          (λ vs. take_instance One (record { class = c; predicate = k; object = reference_in o; arguments = vs }) (fails One f p)
          (gone tt))) (λ u. next) (given_in e _ s m d)
          (λ o t n b. then_parts _ (run_expressions values turns (when_exhaled f) f.bind.scene es t n b) _
          (λ vs. take_instance One (record { class = c; predicate = k; object = reference_in o; arguments = vs }) (fails One f p)
          (gone tt)) (λ u. next)
          (expressions (when_exhaled f) f.bind.scene es _ t n b)
          (λ vs. taking.take_instance_related _ _ (Goes_on (λ u. next)) (settings (λ u. next)) _ _ _ (λ n c. refl) (gone tt) next
          (λ t n c. refl)))
      exhales (Star a b) next s m d =
          then_parts _ (run_exhale values turns f a s m d) _ (λ u. run_exhale values turns f b) (λ u. next) (exhales a _ s m d)
          (λ u t n c. exhales b next t n c)
      exhales (When e a p) next s m d =
          then_parts _ (given e s m d) _
          (λ v t. One.deciding (truth_in v) (if truth_in v then run_exhale values turns f a t else gone tt t)) (λ u. next)
          (given_in e _ s m d)
          (λ v t. decides (truth_in v) _ _ (run_exhale values turns f a t) (gone tt t) (λ u. next) (λ n c. exhales a next t n c)
          (λ n c. refl))
      exhales (Each x l h is p) next s m d =
          exhale_related _ _ (Goes_on (λ u. next)) (settings (λ u. next)) f (Each x l h is p) (gone tt) next (λ t n c. refl) s m d

pub expressions_by_parts : {E : Type 0} (stop : LazyEnd → Memory → E) → ExpressionsByParts stop
expressions_by_parts stop values turns r scene e next s m d = expression stop values turns r scene e next s m d

pub all_expressions_by_parts : {E : Type 0} (stop : LazyEnd → Memory → E) → AllExpressionsByParts stop
all_expressions_by_parts stop values turns r scene es next s m d = expressions stop values turns r scene es next s m d

pub inhales_by_parts : {E : Type 0} (stop : LazyEnd → Memory → E) → InhalesByParts stop
inhales_by_parts stop values turns bind formula next s m d = inhales stop values turns bind formula next s m d

pub exhales_by_parts : {E : Type 0} (stop : LazyEnd → Memory → E) → ExhalesByParts stop
exhales_by_parts stop values turns giving formula next s m d = exhales stop values turns giving formula next s m d

pub runs_by_parts : RunsByParts
runs_by_parts = (
  expressions_by_parts final,
  all_expressions_by_parts final,
  inhales_by_parts final,
  exhales_by_parts final,
)
