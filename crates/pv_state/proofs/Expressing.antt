-- What expressions do behind their values: an operation, a comparison, an opposite.
use Rattle.std.proofs.Math.Path.{fun_ext}
use Rattle.std.proofs.Common.{◌≡◌, ℕ, Bool, true, false, List, [], ◌∷◌, ◌++◌, sym, ap, subst, ◌∙◌}
use Rattle.std.specs.Prelude.{not, IfOk, OnErr}
use Rattle.std.specs.declared.result.Result.{Result}
use mathlib.Core.Bool.{beq}
use Rattle.pv_base.specs.declared.Span.{Span}
use Rattle.pv_values.specs.declared.value.Value.{Value}
use Rattle.pv_values.specs.declared.value.Value.TheVariants as value
use Rattle.pv_values.specs.Sames.{same_value}
use Rattle.pv_linear.specs.declared.Sort.{Sort}
use Rattle.pv_linear.specs.declared.Literal.{Literal}
use Rattle.pv_linear.specs.declared.asker.AskFault.{AskFault}
use Rattle.pv_linear.specs.Evidence.{Evidence, Under}
use Rattle.pv_linear.specs.Decisions.{Decision, IsFront}
use Rattle.pv_linear.specs.Asking.{Goes, Asks}
use Rattle.pv_linear.specs.Keeping.{AreUp}
use Rattle.pv_picks.specs.Plain.Core as core
use Rattle.pv_picks.specs.Formulas.Values.{number_in, truth_in, comparison, equality}
use Rattle.pv_picks.specs.Judge.Settings.{operate}
use Rattle.pv_picks.specs.Lazy.Patterns.{Shown, Ordered, order_of, shown_of}
use Rattle.pv_picks.specs.Lazy.Parts.{Part, gone, hooks, of_old, run_expression}
use Rattle.pv_state.specs.declared.scene.SymbolScene.{SymbolScene}
use Rattle.pv_state.specs.declared.scene.Stores.{Stores}
use Rattle.pv_state.specs.declared.values.SymbolValue.{SymbolValue}
use Rattle.pv_state.specs.declared.operands.Operand.{Operand}
use Rattle.pv_state.specs.declared.operands.Operand.TheVariants.{One, Difference}
use Rattle.pv_state.specs.declared.operands.Reading.{Reading}
use Rattle.pv_state.specs.Parts.{StaysSorted, TellsShown, StopsShown}
use Rattle.pv_state.specs.Values.{value_at}
use Rattle.pv_state.specs.States.{AreStores, scene_at}
use Rattle.pv_state.specs.Runs.{IsMadeOperand, operand_at, reading_at, run_plain}
use Rattle.pv_state.proofs.Orders.{term_more}
use Rattle.pv_state.proofs.Scenes.{made_more}
use Rattle.pv_state.proofs.Sequences as sequences
use Rattle.pv_state.proofs.Sequences.{at, Done, Halted, MayBegin}

abbrev pub value_of : Reading → SymbolScene → core.Expression → Evidence → Part Value
value_of reading scene x = run_plain reading scene x

abbrev pub truth_of : Bool → Evidence → Part Value
truth_of b e = gone (value.Truth b)

abbrev pub turned : Value → Part Value
turned v = gone (value.Truth (not (truth_in v)))

abbrev pub operating : core.Manner → core.Operation → Span → Evidence → Value → Value → Part Value
operating manner operation span e v w =
    operate (hooks e.values e.turns) manner operation (number_in v) (number_in w) span (λ z. gone (value.Number z))

abbrev pub comparing : core.Comparison → Evidence → Value → Value → Part Value
comparing order e v w l = (hooks e.values e.turns).comparing (number_in v) (number_in w)
    (gone (value.Truth (comparison order (number_in v) (number_in w))) l)

abbrev pub matching : Bool → Evidence → Value → Value → Part Value
matching same e v w l = (hooks e.values e.turns).matching v w (gone (value.Truth (equality same v w)) l)

-- what was made stays made
grown : (made more : List Sort) (x : Operand) → IsMadeOperand made x → IsMadeOperand (made ++ more) x
grown made more (One x) h = made_more made more x h
grown made more (Difference a b) h = (term_more made more a h.0, term_more made more b h.1)

pub operand_grown : (made new : List Sort) (x : Operand) → IsFront made new → IsMadeOperand made x → IsMadeOperand new x
operand_grown made new x front h = subst (λ ts. IsMadeOperand ts x) (sym front.1) (grown made front.0 x h)

pub front_same : (old mid new : List Sort) → IsFront old mid → new ≡ mid → IsFront old new
front_same old mid new front same = subst (λ ts. IsFront old ts) (sym same) front

pub stores_same : (mid new : List Sort) (s : Stores) → new ≡ mid → AreStores mid s → AreStores new s
stores_same mid new s same h = subst (λ ts. AreStores ts s) (sym same) h

-- whether two values are the same is as it was asked for
pub told_equal : (told same : Bool) (a b : Value) → told ≡ same_value a b → beq told same ≡ equality same a b
told_equal true true a b p = p
told_equal false true a b p = p
told_equal true false a b p = ap (λ t. not t) p
told_equal false false a b p = ap (λ t. not t) p

module _ {S : Type 0} (path : S → List Literal) (turns : S → List ℕ) (decisions : S → List Decision)
    (stands : S → Evidence → Type 0) (ended : S → ℕ) (sorts : S → List Sort) (own : SymbolScene) where
  -- a truth value that is known
  pub known_done : (stores : Stores) (asker : S) (b : Bool) (x : SymbolValue)
      → ((e : Evidence) → value_at e.values x ≡ value.Truth b)
      → Done path turns decisions stands ended sorts own (truth_of b) stores asker asker
      (at path turns decisions stands ended sorts own (λ e. operand_at e.values (One x)) stores asker)
  known_done stores asker b x says = sequences.done_as path turns decisions stands ended sorts own stores asker
      (λ e. value.Truth b) (λ e. operand_at e.values (One x)) (λ e. sym (says e))

  module _ (order : core.Comparison) (a b : Operand) (stores : Stores) (old new : S) where
    abbrev ordered : Evidence → List Shown
    ordered e = Ordered (order_of (number_in (operand_at e.values a)) (number_in (operand_at e.values b))) ∷ []

    abbrev told : Evidence → Bool
    told e = comparison order (number_in (operand_at e.values a)) (number_in (operand_at e.values b))

    pub compared_done : (answer : Bool) (x : SymbolValue) → ((e : Evidence) → value_at e.values x ≡ value.Truth answer)
        → Asks path turns decisions stands ended sorts old new → TellsShown path turns decisions sorts old new ordered
        → StaysSorted path turns decisions sorts old new → Under path turns new (λ e. answer ≡ told e)
        → Done path turns decisions stands ended sorts own
        (λ e. comparing order e (operand_at e.values a) (operand_at e.values b)) stores old new
        (at path turns decisions stands ended sorts own (λ e. operand_at e.values (One x)) stores new)
    compared_done answer x known asks tells sorted says = sequences.done_told path turns decisions stands ended sorts own ordered
        stores old new (λ e. value.Truth (told e)) (λ e. operand_at e.values (One x)) asks tells sorted
        (λ e f up. known e ∙ ap (λ t. value.Truth t) (says e f))

    pub compared_stops : Goes path turns decisions stands ended old new → StopsShown path turns decisions sorts old new ordered
        → sorts new ≡ sorts old → StaysSorted path turns decisions sorts old new
        → Halted path turns decisions stands ended sorts own
        (λ e. comparing order e (operand_at e.values a) (operand_at e.values b)) stores old new
    compared_stops goes tells same sorted = sequences.halted_told path turns decisions stands ended sorts own ordered stores old
        new (λ e. value.Truth (told e)) goes tells same sorted

  module _ (same : Bool) (a b : Operand) (stores : Stores) (old new : S) where
    abbrev shown : Evidence → List Shown
    shown e = shown_of (operand_at e.values a) (operand_at e.values b)

    abbrev equal : Evidence → Bool
    equal e = equality same (operand_at e.values a) (operand_at e.values b)

    pub matched_done : (answer : Bool) (x : SymbolValue) → ((e : Evidence) → value_at e.values x ≡ value.Truth answer)
        → Asks path turns decisions stands ended sorts old new → TellsShown path turns decisions sorts old new shown
        → StaysSorted path turns decisions sorts old new
        → Under path turns new (λ e. AreUp (sorts new) e.values → answer ≡ equal e)
        → Done path turns decisions stands ended sorts own
        (λ e. matching same e (operand_at e.values a) (operand_at e.values b)) stores old new
        (at path turns decisions stands ended sorts own (λ e. operand_at e.values (One x)) stores new)
    matched_done answer x known asks tells sorted says = sequences.done_told path turns decisions stands ended sorts own shown
        stores old new (λ e. value.Truth (equal e)) (λ e. operand_at e.values (One x)) asks tells sorted
        (λ e f up. known e ∙ ap (λ t. value.Truth t) (says e f up))

    pub matched_stops : Goes path turns decisions stands ended old new → StopsShown path turns decisions sorts old new shown
        → sorts new ≡ sorts old → StaysSorted path turns decisions sorts old new
        → Halted path turns decisions stands ended sorts own
        (λ e. matching same e (operand_at e.values a) (operand_at e.values b)) stores old new
    matched_stops goes tells same_sorts sorted = sequences.halted_told path turns decisions stands ended sorts own shown stores
        old new (λ e. value.Truth (equal e)) goes tells same_sorts sorted

  -- an expression, as a tree of the code and as one of the meaning
  module _ (reading : Reading) (scene : SymbolScene) (stores : Stores) (old new : S) (x y : core.Expression) (same : x ≡ y) where
    pub value_done : (r : Result Operand AskFault) (next : Stores)
        → IfOk r (λ v. Done path turns decisions stands ended sorts own (run_plain reading scene x) stores old new
        (at path turns decisions stands ended sorts own (λ e. operand_at e.values v) next new))
        → IfOk r (λ v. Done path turns decisions stands ended sorts own (run_plain reading scene y) stores old new
        (at path turns decisions stands ended sorts own (λ e. operand_at e.values v) next new))
    value_done r next h = subst (λ z. IfOk r (λ v. Done path turns decisions stands ended sorts own (run_plain reading scene z)
        stores old new (at path turns decisions stands ended sorts own (λ e. operand_at e.values v) next new))) same h

    pub value_stops : (r : Result Operand AskFault)
        → OnErr r (Halted path turns decisions stands ended sorts own (run_plain reading scene x) stores old new)
        → OnErr r (Halted path turns decisions stands ended sorts own (run_plain reading scene y) stores old new)
    value_stops r h =
        subst (λ z. OnErr r (Halted path turns decisions stands ended sorts own (run_plain reading scene z) stores old new))
        same h

  -- an expression that has its value at once
  pub value_here : (reading : Reading) (scene : SymbolScene) (stores : Stores) (asker : S) (v : Operand)
      (given : Evidence → Value) (x : core.Expression)
      → ((e : Evidence) → run_plain reading scene x e ≡ gone (given e)) → ((e : Evidence) → operand_at e.values v ≡ given e)
      → Done path turns decisions stands ended sorts own (run_plain reading scene x) stores asker asker
      (at path turns decisions stands ended sorts own (λ e. operand_at e.values v) stores asker)
  value_here reading scene stores asker v given x is says = subst (λ p. Done path turns decisions stands ended sorts own p stores
      asker asker (at path turns decisions stands ended sorts own (λ e. operand_at e.values v) stores asker))
      (sym (fun_ext is))
      (sequences.done_as path turns decisions stands ended sorts own stores asker given (λ e. operand_at e.values v)
      (λ e. sym (says e)))

  pub value_may : (reading : Reading) (scene : SymbolScene) (stores : Stores) (asker : S) (x y : core.Expression) → x ≡ y
      → MayBegin path turns decisions stands ended sorts own (run_plain reading scene y) stores asker
      → MayBegin path turns decisions stands ended sorts own (run_plain reading scene x) stores asker
  value_may reading scene stores asker x y same h = subst
      (λ z. MayBegin path turns decisions stands ended sorts own (run_plain reading scene z) stores asker) (sym same) h

  pub value_at_once : (reading : Reading) (scene : SymbolScene) (stores : Stores) (asker : S) (v : Operand)
      (given : Evidence → Value) (x y : core.Expression) → x ≡ y
      → ((e : Evidence) → run_plain reading scene x e ≡ gone (given e)) → ((e : Evidence) → operand_at e.values v ≡ given e)
      → Done path turns decisions stands ended sorts own (run_plain reading scene y) stores asker asker
      (at path turns decisions stands ended sorts own (λ e. operand_at e.values v) stores asker)
  value_at_once reading scene stores asker v given x y same is says = subst
      (λ z. Done path turns decisions stands ended sorts own (run_plain reading scene z) stores asker asker
      (at path turns decisions stands ended sorts own (λ e. operand_at e.values v) stores asker)) same
      (value_here reading scene stores asker v given x is says)

  -- what stands in `\old`
  module _ (reading : Reading) (scene : SymbolScene) (stores : Stores) (old new : S) (x : core.Expression) (before : Reading)
      (is : reading_at before ≡ of_old (reading_at reading)) where
    same_old : ◌≡◌ {A = Evidence → Part Value} (run_plain before scene x) (run_plain reading scene (core.Old x))
    same_old = ap (λ r e. run_expression e.values e.turns r (scene_at e.values scene) x) is

    pub old_done : (r : Result Operand AskFault) (next : Stores)
        → IfOk r (λ v. Done path turns decisions stands ended sorts own (run_plain before scene x) stores old new
        (at path turns decisions stands ended sorts own (λ e. operand_at e.values v) next new))
        → IfOk r (λ v. Done path turns decisions stands ended sorts own (run_plain reading scene (core.Old x)) stores old new
        (at path turns decisions stands ended sorts own (λ e. operand_at e.values v) next new))
    old_done r next h = subst (λ p. IfOk r (λ v. Done path turns decisions stands ended sorts own p stores old new
        (at path turns decisions stands ended sorts own (λ e. operand_at e.values v) next new))) same_old h

    pub old_stops : (r : Result Operand AskFault)
        → OnErr r (Halted path turns decisions stands ended sorts own (run_plain before scene x) stores old new)
        → OnErr r (Halted path turns decisions stands ended sorts own (run_plain reading scene (core.Old x)) stores old new)
    old_stops r h = subst (λ p. OnErr r (Halted path turns decisions stands ended sorts own p stores old new)) same_old h
