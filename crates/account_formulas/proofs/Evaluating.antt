-- An expression that the rest of a run doesn't fail on has one value, in the run and in every sight that the run agrees with.
use Rattle.std.proofs.Common.{◌≡◌, ℕ, ℤ, Bool, true, false, not, if◌then◌else◌, Option, Some, None, List, [], ◌∷◌, refl, ap, sym, subst, ◌∙◌}
use Rattle.std.specs.Prelude.{option_map}
use Rattle.std.proofs.lemmas.Option.{same_Some}
use Rattle.pv_base.specs.declared.Span.{Span}
use Rattle.pv_ast.specs.declared.PvType.{PvType}
use Rattle.pv_ast.specs.declared.PvType.TheVariants.{Int, Truth, Object}
use Rattle.pv_values.specs.declared.value.Value.{Value}
use Rattle.pv_values.specs.declared.value.Value.TheVariants as value
use Rattle.pv_picks.specs.declared.evidence.Pick.{Pick}
use Rattle.pv_picks.specs.Plain.Core.{Manner, Plain, Tabled, Expression, Constant, This, Result, Variable, Field, Element, Length, Not, Compute, Compare, Equal, And, Or, Implies, Old, Parameter}
use Rattle.pv_picks.specs.Formulas.Values.{number_in, truth_in, reference_in, array_of, arithmetic, comparison, equality}
use Rattle.pv_picks.specs.Formulas.Heaps.{Heap}
use Rattle.pv_picks.specs.Formulas.Evaluation.{Scene, evaluate, evaluate_all}
use Rattle.pv_picks.specs.Formulas.Meeting.{Sight, or_stop}
use Rattle.pv_picks.specs.Machine.Starts.{field_kind, kind_of}
use Rattle.pv_picks.specs.Judge.States.{Resource, InField, InElement, Cell, Cells, State}
use Rattle.pv_picks.specs.Judge.Settings.{Next, formula_reader, or_missing, look_at_length, operate}
use Rattle.pv_picks.specs.Judge.Runs.{Judged, Maps, content}
use Rattle.pv_picks.specs.Typing.Expressions.{Home, Speech, Says, AllSay}
use Rattle.pv_picks.specs.Typing.Frames.{HasType}
use Rattle.account_formulas.specs.Sights.{Lengths, Contents, value_at, values_at, LengthsAgree, Sees, SceneFits}
use Rattle.account_formulas.specs.Runs.{Taken, all_maps, truly, RestNeverFails, AreSettled, with_lengths}
use Rattle.account_formulas.specs.Gaining.{AreTyped}
use Rattle.account_formulas.proofs.Valuing.{value_then, values_then}
use Rattle.account_formulas.proofs.TypedReads.{View, field_typed, element_typed, old_view, truth_typed, number_typed, constant_typed, array_or_null}
use Rattle.account_formulas.proofs.Lengths.{never_as, empty_table, more_lengths, more_agree, length_looked_by}
use Rattle.account_formulas.proofs.Knowing.{value_on, on_then, on_none, on_reads}

-- what is in settled cells is one value, whatever is picked
pub what_is_read : (taken : Taken) (cells : Cells) (known : Contents) → AreSettled taken cells known
    → (r : Resource) (missing : Maps → Judged)
    (next : Maps → Value → Next Judged) (t : State) (G : Type 0)
    → (known r ≡ None → RestNeverFails taken missing → G)
    → ((v : Value) → known r ≡ Some v → RestNeverFails taken (λ maps. next maps v t) → G)
    → RestNeverFails taken (λ maps. or_missing (truly maps) (cells r) (missing maps) (next maps) t) → G
what_is_read taken cells known settled r missing next t G none some never = go (cells r) refl never
  where
    value_of : (c : Cell) → cells r ≡ Some c → (picks : List Pick) → known r ≡ Some (content (all_maps taken picks) c)
    value_of c at picks = sym (settled picks r) ∙ ap (option_map (content (all_maps taken picks))) at

    go : (o : Option Cell) → cells r ≡ o → RestNeverFails taken (λ maps. or_missing (truly maps) o (missing maps) (next maps) t)
        → G
    go None at n = none (sym (settled [] r) ∙ ap (option_map (content (all_maps taken []))) at) n
    go (Some c) at n = some (content (all_maps taken []) c) (value_of c at [])
        (never_as taken (λ maps. next maps (content maps c) t) (λ maps. next maps (content (all_maps taken []) c) t)
        (λ picks. ap (λ v. next (all_maps taken picks) v t)
        (same_Some (content (all_maps taken picks) c) (content (all_maps taken []) c)
        (sym (value_of c at picks) ∙ value_of c at []))) n)

module _ (taken : Taken) (h : Home) (speech : Speech) (xs : List Parameter) (present : Heap) (scene : Scene)
    (fits : SceneFits h speech xs present scene) where
  -- whatever is wanted, G, comes of a missing read or of a value, as the cells say
  pub following : (Q : Lengths → Type 0) → ((l : Lengths) → Q l → LengthsAgree present l)
      → ((l : Lengths) (type : PvType) (array : ℕ) (n : ℤ) → Q l → present.length array ≡ Some n → l type array ≡ None
      → Q (more_lengths l type array n))
      → (here old : Contents) (view : View (field_kind h.program) present here old) (past : Cells) → AreSettled taken past old
      → (s : State) (cells : State → Cells) → ((l : Lengths) → AreSettled taken (cells (with_lengths s l)) here)
      → (missing : Maps → Span → Next Judged) (G : Type 0)
      → (e : Expression) (type : PvType) → Says h speech xs e type
      → ((span : Span) (l : Lengths) → Q l → value_on here old present scene e ≡ None
      → RestNeverFails taken (λ maps. (missing maps) span (with_lengths s l)) → G) → (next : Maps → Value → Next Judged)
      → ((v : Value) (l : Lengths) → Q l → HasType present type v → value_on here old present scene e ≡ Some v
      → RestNeverFails taken (λ maps. (next maps) v (with_lengths s l)) → G)
      → (l : Lengths) → Q l
      → RestNeverFails taken (λ maps. evaluate (formula_reader (truly maps) cells (missing maps))
      (formula_reader (truly maps) (λ t. past) (missing maps)) scene e (next maps) (with_lengths s l)) → G
  following Q agrees_q more_q here old view past settled s cells same missing G
      (Constant v) type says missed next found l agree never = found v l agree (constant_typed present v type says) refl never
  following Q agrees_q more_q here old view past settled s cells same missing G This type says missed next found l agree never =
      found (value.Reference scene.this) l agree (subst (λ t. HasType present t (value.Reference scene.this))
      (sym says) fits.this) refl never
  following Q agrees_q more_q here old view past settled s cells same missing G Result type says missed next found l agree never =
      found scene.result l agree (fits.result type says) refl never
  following Q agrees_q more_q here old view past settled s cells same missing G
      (Variable name) type says missed next found l agree never =
      found (scene.variables name.0) l agree (fits.variables name type says) refl never
  following Q agrees_q more_q here old view past settled s cells same missing G
      (Field e class name span) type says missed next found l agree never =
      following Q agrees_q more_q here old view past settled s cells same missing G e (Object class) says.0
      (λ place m agrees none n. missed place m agrees (on_none present scene here old e _ none) n) _
      (λ o m agrees typed reads n. what_is_read taken (cells (with_lengths s m)) here (same m)
      (InField class (reference_in o) name) _ next (with_lengths s m) G
      (λ at n. missed span m agrees (on_then present scene here old e o _ reads ∙ ap (λ c. or_stop c None Some) at) n)
      (λ v at n. found v m agrees
      (field_typed (field_kind h.program) present view.sight.now view.now class name (kind_of type)
      (ap (option_map kind_of) says.1) o v typed (view.sees.now _ v at))
      (on_then present scene here old e o _ reads ∙ ap (λ c. or_stop c None Some) at) n) n)
      l agree never
  following Q agrees_q more_q here old view past settled s cells same missing G
      (Element element array index span) type says missed next found l agree never =
      following Q agrees_q more_q here old view past settled s cells same missing G array (array_of element) says.0
      (λ place m agrees none n. missed place m agrees (on_none present scene here old array _ none) n) _
      (λ a m agrees typed reads n. following Q agrees_q more_q here old view past settled s cells same missing G index Int says.1
      (λ place k agreed none n. missed place k agreed (on_then present scene here old array a _ reads
      ∙ on_none present scene here old index _ none) n) _
      (λ i k agreed whole indexed n. what_is_read taken (cells (with_lengths s k)) here (same k)
      (InElement element (reference_in a) (number_in i)) _ next (with_lengths s k) G
      (λ at n. missed span k agreed (on_then present scene here old array a _ reads
      ∙ on_then present scene here old index i _ indexed ∙ ap (λ c. or_stop c None Some) at) n)
      (λ v at n. found v k agreed
      (subst (λ t. HasType present t v) (sym says.3) (element_typed
      (field_kind h.program) present view.sight.now view.now element says.2 a v (number_in i) typed (view.sees.now _ v at)))
      (on_then present scene here old array a _ reads ∙ on_then present scene here old index i _ indexed
      ∙ ap (λ c. or_stop c None Some) at) n) n)
      m agrees n)
      l agree never
  following Q agrees_q more_q here old view past settled s cells same missing G
      (Length element array span) type says missed next found l agree never =
      following Q agrees_q more_q here old view past settled s cells same missing G array (array_of element) says.0
      (λ place m agrees none n. missed place m agrees (on_none present scene here old array _ none) n) _
      (λ a m agrees typed reads n. array_or_null present element says.1 a typed G
      (λ z. missed span m agrees (on_then present scene here old array a _ reads
      ∙ ap (λ b. if b then None else or_stop (present.length (reference_in a)) None (λ n. Some (value.Number n))) z)
      (subst (λ b. RestNeverFails taken (λ maps. if b then (missing maps) span (with_lengths s m) else look_at_length
      (truly maps) element (reference_in a) (λ z. (next maps) (value.Number z)) (with_lengths s m))) z n))
      (λ size z at. length_looked_by taken present Q s element (reference_in a) agrees_q
      (λ l n q at is. more_q l element (reference_in a) n q at is) (λ maps z. next maps (value.Number z)) G size at
      (view.natural (reference_in a) size at)
      (λ k agreed is n. found (value.Number size) k agreed (number_typed present type size says.2)
      (on_then present scene here old array a _ reads ∙ ap (λ b. if b then None else or_stop
      (present.length (reference_in a)) None (λ n. Some (value.Number n))) z
      ∙ ap (λ o. or_stop o None (λ n. Some (value.Number n))) at) n)
      m agrees
      (subst (λ b. RestNeverFails taken (λ maps. if b then (missing maps) span (with_lengths s m) else look_at_length
      (truly maps) element (reference_in a) (λ z. (next maps) (value.Number z)) (with_lengths s m))) z n)))
      l agree never
  following Q agrees_q more_q here old view past settled s cells same missing G
      (Not e) type says missed next found l agree never =
      following Q agrees_q more_q here old view past settled s cells same missing G e Truth says.0
      (λ place m agrees none n. missed place m agrees (on_none present scene here old e _ none) n) _
      (λ v m agrees typed reads n. found (value.Truth (not (truth_in v))) m agrees
      (truth_typed present type (not (truth_in v)) says.1) (on_then present scene here old e v _ reads) n)
      l agree never
  following Q agrees_q more_q here old view past settled s cells same missing G
      (Compute manner op a b span) type says missed next found l agree never =
      following Q agrees_q more_q here old view past settled s cells same missing G a Int says.0
      (λ place m agrees none n. missed place m agrees (on_none present scene here old a _ none) n) _
      (λ x m agrees typed reads n. following Q agrees_q more_q here old view past settled s cells same missing G b Int says.1
      (λ place k agreed none n. missed place k agreed (on_then present scene here old a x _ reads
      ∙ on_none present scene here old b _ none) n) _
      (λ y k agreed whole reads_b n. found (value.Number (arithmetic op (number_in x) (number_in y))) k agreed
      (number_typed present type (arithmetic op (number_in x) (number_in y)) says.2)
      (on_then present scene here old a x _ reads ∙ on_then present scene here old b y _ reads_b) (go manner x y k n))
      m agrees n)
      l agree never
    where
      go : (m : Manner) (x y : Value) (k : Lengths) → RestNeverFails taken (λ maps. operate (truly maps) m op (number_in x)
          (number_in y) span (λ z. (next maps) (value.Number z)) (with_lengths s k))
          → RestNeverFails taken (λ maps. (next maps) (value.Number (arithmetic op (number_in x) (number_in y)))
          (with_lengths s k))
      go Plain x y k n = n
      go Tabled x y k n =
          subst (λ z. RestNeverFails taken (λ maps. (next maps) (value.Number z) (with_lengths s k)))
          (empty_table op (number_in x) (number_in y)) n
  following Q agrees_q more_q here old view past settled s cells same missing G
      (Compare order a b) type says missed next found l agree never =
      following Q agrees_q more_q here old view past settled s cells same missing G a Int says.0
      (λ place m agrees none n. missed place m agrees (on_none present scene here old a _ none) n) _
      (λ x m agrees typed reads n. following Q agrees_q more_q here old view past settled s cells same missing G b Int says.1
      (λ place k agreed none n. missed place k agreed (on_then present scene here old a x _ reads
      ∙ on_none present scene here old b _ none) n) _
      (λ y k agreed whole reads_b n. found (value.Truth (comparison order (number_in x) (number_in y))) k agreed
      (truth_typed present type (comparison order (number_in x) (number_in y)) says.2)
      (on_then present scene here old a x _ reads ∙ on_then present scene here old b y _ reads_b) n)
      m agrees n)
      l agree never
  following Q agrees_q more_q here old view past settled s cells same missing G
      (Equal is a b) type says missed next found l agree never =
      following Q agrees_q more_q here old view past settled s cells same missing G a says.0 says.1
      (λ place m agrees none n. missed place m agrees (on_none present scene here old a _ none) n) _
      (λ x m agrees typed reads n. following Q agrees_q more_q here old view past settled s cells same missing G b says.0 says.2
      (λ place k agreed none n. missed place k agreed (on_then present scene here old a x _ reads
      ∙ on_none present scene here old b _ none) n) _
      (λ y k agreed whole reads_b n. found (value.Truth (equality is x y)) k agreed
      (truth_typed present type (equality is x y) says.3)
      (on_then present scene here old a x _ reads ∙ on_then present scene here old b y _ reads_b) n)
      m agrees n)
      l agree never
  following Q agrees_q more_q here old view past settled s cells same missing G
      (And a b) type says missed next found l agree never =
      following Q agrees_q more_q here old view past settled s cells same missing G a Truth says.0
      (λ place m agrees none n. missed place m agrees (on_none present scene here old a _ none) n) _
      (λ x m agrees typed reads n. go x m agrees reads
      (λ f n. following Q agrees_q more_q here old view past settled s cells same missing G b Truth says.1
      (λ place k agreed none n. missed place k agreed (f None none) n) next
      (λ y k agreed whole reads_b n. found y k agreed (subst (λ t. HasType present t y) (sym says.2) whole)
      (f (Some y) reads_b) n) m agrees n)
      (truth_in x) refl n)
      l agree never
    where
      go : (x : Value) (m : Lengths) → Q m → value_on here old present scene a ≡ Some x
          → (((z : Option Value) → value_on here old present scene b ≡ z → value_on here old present scene (And a b) ≡ z)
          → RestNeverFails taken (λ maps. evaluate (formula_reader (truly maps) cells (missing maps))
          (formula_reader (truly maps) (λ t. past) (missing maps)) scene b (next maps) (with_lengths s m)) → G)
          → (t : Bool) → truth_in x ≡ t → RestNeverFails taken
          (λ maps. (if t then evaluate (formula_reader (truly maps) cells (missing maps))
          (formula_reader (truly maps) (λ t. past) (missing maps)) scene b (next maps) else (next maps) (value.Truth false))
          (with_lengths s m)) → G
      go x m agrees reads inner true is n =
          inner (λ z at. on_then present scene here old a x _ reads
          ∙ ap (λ c. if c then value_on here old present scene b else Some (value.Truth false)) is ∙ at) n
      go x m agrees reads inner false is n =
          found (value.Truth false) m agrees (truth_typed present type false says.2)
          (on_then present scene here old a x _ reads ∙ ap (λ c. if c then value_on here old present scene b else Some
          (value.Truth false)) is) n
  following Q agrees_q more_q here old view past settled s cells same missing G
      (Or a b) type says missed next found l agree never =
      following Q agrees_q more_q here old view past settled s cells same missing G a Truth says.0
      (λ place m agrees none n. missed place m agrees (on_none present scene here old a _ none) n) _
      (λ x m agrees typed reads n. go x m agrees reads
      (λ f n. following Q agrees_q more_q here old view past settled s cells same missing G b Truth says.1
      (λ place k agreed none n. missed place k agreed (f None none) n) next
      (λ y k agreed whole reads_b n. found y k agreed (subst (λ t. HasType present t y) (sym says.2) whole)
      (f (Some y) reads_b) n) m agrees n)
      (truth_in x) refl n)
      l agree never
    where
      go : (x : Value) (m : Lengths) → Q m → value_on here old present scene a ≡ Some x
          → (((z : Option Value) → value_on here old present scene b ≡ z → value_on here old present scene (Or a b) ≡ z)
          → RestNeverFails taken (λ maps. evaluate (formula_reader (truly maps) cells (missing maps))
          (formula_reader (truly maps) (λ t. past) (missing maps)) scene b (next maps) (with_lengths s m)) → G)
          → (t : Bool) → truth_in x ≡ t → RestNeverFails taken
          (λ maps. (if t then (next maps) (value.Truth true) else evaluate (formula_reader (truly maps) cells (missing maps))
          (formula_reader (truly maps) (λ t. past) (missing maps)) scene b (next maps)) (with_lengths s m)) → G
      go x m agrees reads inner true is n =
          found (value.Truth true) m agrees (truth_typed present type true says.2)
          (on_then present scene here old a x _ reads ∙ ap (λ c. if c then Some
          (value.Truth true) else value_on here old present scene b) is) n
      go x m agrees reads inner false is n =
          inner (λ z at. on_then present scene here old a x _ reads
          ∙ ap (λ c. if c then Some (value.Truth true) else value_on here old present scene b) is ∙ at) n
  following Q agrees_q more_q here old view past settled s cells same missing G
      (Implies a b) type says missed next found l agree never =
      following Q agrees_q more_q here old view past settled s cells same missing G a Truth says.0
      (λ place m agrees none n. missed place m agrees (on_none present scene here old a _ none) n) _
      (λ x m agrees typed reads n. go x m agrees reads
      (λ f n. following Q agrees_q more_q here old view past settled s cells same missing G b Truth says.1
      (λ place k agreed none n. missed place k agreed (f None none) n) next
      (λ y k agreed whole reads_b n. found y k agreed (subst (λ t. HasType present t y) (sym says.2) whole)
      (f (Some y) reads_b) n) m agrees n)
      (truth_in x) refl n)
      l agree never
    where
      go : (x : Value) (m : Lengths) → Q m → value_on here old present scene a ≡ Some x
          → (((z : Option Value) → value_on here old present scene b ≡ z → value_on here old present scene (Implies a b) ≡ z)
          → RestNeverFails taken (λ maps. evaluate (formula_reader (truly maps) cells (missing maps))
          (formula_reader (truly maps) (λ t. past) (missing maps)) scene b (next maps) (with_lengths s m)) → G)
          → (t : Bool) → truth_in x ≡ t → RestNeverFails taken
          (λ maps. (if t then evaluate (formula_reader (truly maps) cells (missing maps))
          (formula_reader (truly maps) (λ t. past) (missing maps)) scene b (next maps) else (next maps) (value.Truth true))
          (with_lengths s m)) → G
      go x m agrees reads inner true is n =
          inner (λ z at. on_then present scene here old a x _ reads
          ∙ ap (λ c. if c then value_on here old present scene b else Some (value.Truth true)) is ∙ at) n
      go x m agrees reads inner false is n =
          found (value.Truth true) m agrees (truth_typed present type true says.2)
          (on_then present scene here old a x _ reads ∙ ap (λ c. if c then value_on here old present scene b else Some
          (value.Truth true)) is) n
  following Q agrees_q more_q here old view past settled s cells same missing G
      (Old e) type says missed next found l agree never =
      following Q agrees_q more_q old old (old_view (field_kind h.program) present here old view) past settled s (λ t. past)
      (λ m. settled) missing G e type says.1 missed next found l agree never

  -- the same, as each sight says
  pub reading : (here old : Contents) (view : View (field_kind h.program) present here old) (past : Cells)
      → AreSettled taken past old → (s : State) (cells : State → Cells)
      → ((l : Lengths) → AreSettled taken (cells (with_lengths s l)) here)
      → (missing : Maps → Span → Next Judged) (G : Type 0)
      → ((span : Span) (l : Lengths) → LengthsAgree present l
      → RestNeverFails taken (λ maps. (missing maps) span (with_lengths s l)) → G)
      → (e : Expression) (type : PvType) → Says h speech xs e type → (next : Maps → Value → Next Judged)
      → ((v : Value) (l : Lengths) → LengthsAgree present l → HasType present type v
      → ((sight : Sight) → Sees present here old sight → value_at sight scene e ≡ Some v)
      → RestNeverFails taken (λ maps. (next maps) v (with_lengths s l)) → G)
      → (l : Lengths) → LengthsAgree present l
      → RestNeverFails taken (λ maps. evaluate (formula_reader (truly maps) cells (missing maps))
      (formula_reader (truly maps) (λ t. past) (missing maps)) scene e (next maps) (with_lengths s l)) → G
  reading here old view past settled s cells same missing G missed e type says next found l agree never =
      following (LengthsAgree present) (λ l q. q) (λ l t a n q at is.
      more_agree present l t a n q at) here old view past settled s cells same missing G e type says
      (λ span m agrees none n. missed span m agrees n) next
      (λ v m agrees typed on n. found v m agrees typed (λ sight sees. on_reads present here old sight sees scene e v on) n) l
      agree never

  -- values of several types
  pub reading_all : (here old : Contents) (view : View (field_kind h.program) present here old) (past : Cells)
      → AreSettled taken past old → (s : State) (cells : State → Cells)
      → ((l : Lengths) → AreSettled taken (cells (with_lengths s l)) here)
      → (missing : Maps → Span → Next Judged) (G : Type 0)
      → ((span : Span) (l : Lengths) → LengthsAgree present l
      → RestNeverFails taken (λ maps. (missing maps) span (with_lengths s l)) → G)
      → (es : List Expression) (types : List PvType) → AllSay h speech xs es types → (next : Maps → List Value → Next Judged)
      → ((vs : List Value) (l : Lengths) → LengthsAgree present l → AreTyped present types vs
      → ((sight : Sight) → Sees present here old sight → values_at sight scene es ≡ Some vs)
      → RestNeverFails taken (λ maps. (next maps) vs (with_lengths s l)) → G)
      → (l : Lengths) → LengthsAgree present l
      → RestNeverFails taken (λ maps. evaluate_all (formula_reader (truly maps) cells (missing maps))
      (formula_reader (truly maps) (λ t. past) (missing maps)) scene es (next maps) (with_lengths s l)) → G
  reading_all here old view past settled s cells same missing G missed [] [] says next found l agree never =
      found [] l agree tt (λ sight sees. refl) never
  reading_all here old view past settled s cells same missing G missed [] (t ∷ ts) says next found l agree never = absurd says
  reading_all here old view past settled s cells same missing G missed (e ∷ es) [] says next found l agree never = absurd says
  reading_all here old view past settled s cells same missing G missed (e ∷ es) (t ∷ ts) says next found l agree never =
      reading here old view past settled s cells same missing G missed e t says.0 _
      (λ v m agrees typed reads n. reading_all here old view past settled s cells same missing G missed es ts says.1 _
      (λ vs k agreed all reads_all n. found (v ∷ vs) k agreed (typed, all)
      (λ sight sees. value_then None sight scene e v _ (reads sight sees)
      ∙ values_then None sight scene es vs _ (reads_all sight sees)) n)
      m agrees n)
      l agree never
