-- What a pure item looks at is passed, with the lengths of the heap; and guards leave what they leave in every sight.
use Rattle.std.proofs.Common.{◌≡◌, inl, inr, ℤ, Bool, true, false, if◌then◌else◌, Some, None, List, [], ◌∷◌, refl, ap, sym, subst, ◌∙◌}
use Rattle.std.specs.Prelude.{nat_eq}
use Rattle.std.proofs.lemmas.Option.{same_Some, none-some}
use Rattle.pv_base.specs.declared.Span.{Span}
use Rattle.pv_ast.specs.declared.PvType.TheVariants.{Int}
use Rattle.pv_values.specs.declared.value.Value.{Value}
use Rattle.pv_picks.specs.Plain.Core.{Cut, Below, UpTo, Above, From, Provided, Parameter}
use Rattle.pv_picks.specs.Formulas.Values.{number_in, reference_in, array_of, is_empty}
use Rattle.pv_picks.specs.Formulas.Heaps.{Heap}
use Rattle.pv_picks.specs.Formulas.Evaluation.{Scene}
use Rattle.pv_picks.specs.Formulas.Meeting.{Sight, guard_term}
use Rattle.pv_picks.specs.Machine.Starts.{field_kind}
use Rattle.pv_picks.specs.Judge.States.{InElement, Cells, State, Bind}
use Rattle.pv_picks.specs.Judge.Settings.{Next, ArrayPart, look_at_length}
use Rattle.pv_picks.specs.Judge.Repetitions.{cells_at, Range, Look, AtElements, AtElement, AtLength, AtTerm, value_in, arrays_read, look_ahead, notice_parts, notice_cut, cut_all, cut_by}
use Rattle.pv_picks.specs.Judge.Runs.{Judged, Maps}
use Rattle.pv_picks.specs.Typing.Expressions.{Home, Speech}
use Rattle.account_formulas.specs.Sights.{Lengths, Contents, LengthsAgree, Sees, SceneFits}
use Rattle.account_formulas.specs.Runs.{Taken, all_maps, truly, RestNeverFails, AreSettled, with_lengths}
use Rattle.account_formulas.specs.Owning.{CutsTo}
use Rattle.account_formulas.specs.Good.{AreGoodLooks, AreGoodCuts, type_of_cut}
use Rattle.account_formulas.proofs.TypedReads.{View, array_or_null}
use Rattle.account_formulas.proofs.Lengths.{never_as, Higher, more_above, length_looked_by}
use Rattle.account_formulas.proofs.Knowing.{value_on}
use Rattle.account_formulas.proofs.Evaluating.{what_is_read, following, reading}

-- events are nothing to the judge
pub notice_none : (maps : Maps) (parts : List ArrayPart) (ends : List ℤ) (rest : Judged)
    → notice_parts (truly maps) parts ends rest ≡ rest
notice_none maps [] ends rest = refl
notice_none maps (p ∷ ps) ends rest = notice_none maps ps ends rest

pub notice_nothing : (maps : Maps) (c : Cut) (v : Value) (r : Range) (rest : Judged) → notice_cut (truly maps) c v r rest ≡ rest
notice_nothing maps (Below e) v r rest = refl
notice_nothing maps (UpTo e) v r rest = refl
notice_nothing maps (Above e) v r rest = refl
notice_nothing maps (From e) v r rest = refl
notice_nothing maps (Provided e) v r rest = refl

module _ (taken : Taken) (h : Home) (speech : Speech) (xs : List Parameter) (present : Heap) (scene : Scene)
    (fits : SceneFits h speech xs present scene)
    (here old : Contents) (view : View (field_kind h.program) present here old) (past : Cells)
    (settled : AreSettled taken past old)
    (s : State) (cells : State → Cells) (same : (l : Lengths) → AreSettled taken (cells (with_lengths s l)) here) where
  abbrev bind : Bind
  bind = record { scene = scene; old = past }

  -- what is read in the old state, and in the present one
  abbrev contents_at : Bool → Contents
  contents_at true = old
  contents_at false = here

  settled_at : (was : Bool) (l : Lengths) → AreSettled taken (cells_at was cells bind (with_lengths s l)) (contents_at was)
  settled_at true l = settled
  settled_at false l = same l

  -- the lengths that were looked at are known
  abbrev pub Looked : Lengths → List Look → Type 0
  Looked l [] = Unit {0}
  Looked l (AtElements type array shift ∷ looks) = Looked l looks
  Looked l (AtElement was type array index ∷ looks) = Looked l looks
  Looked l (AtLength type array ∷ looks) =
      ((a : Value) (n : ℤ) → value_on here old present scene array ≡ Some a → nat_eq (reference_in a) 0 ≡ false
      → present.length (reference_in a) ≡ Some n → l type (reference_in a) ≡ Some n)
      × Looked l looks
  Looked l (AtTerm e ∷ looks) = Looked l looks

  higher : (l m k : Lengths) → Higher present l m → Higher present m k → Higher present l k
  higher l m k a b = (b.0, λ t x n is. b.1 t x n (a.1 t x n is))

  pub looking_on : (r : Range) (G : Type 0) (looks : List Look) → AreGoodLooks h speech xs looks
      → (next : Maps → List ArrayPart → Next Judged)
      → (l : Lengths) → LengthsAgree present l
      → ((parts : List ArrayPart) (m : Lengths) → Higher present l m → Looked m looks
      → RestNeverFails taken (λ maps. (next maps) parts (with_lengths s m)) → G)
      → RestNeverFails taken (λ maps. look_ahead (truly maps) cells bind r looks (next maps) (with_lengths s l)) → G
  looking_on r G [] good next l agree found never = found [] l (agree, λ t a n is. is) tt never
  looking_on r G (AtElements type array shift ∷ looks) good next l agree found never =
      following taken h speech xs present scene fits (Higher present l) (λ m q. q.0)
      (λ m t a n q at is. more_above present l m t a n q at) here old view past settled s cells same _ G array
      (array_of type) good.0
      (λ span m up none n. looking_on r G looks good.1 next m up.0
      (λ parts k more looked n. found parts k (higher l m k up more) looked n) n) _
      (λ a m up typed on n. looking_on r G looks good.1 _ m up.0
      (λ parts k more looked n. found (record { type = type; array = reference_in a; shift = shift } ∷ parts) k
      (higher l m k up more) looked n) n)
      l (agree, λ t a n is. is) never
  looking_on r G (AtElement was type array index ∷ looks) good next l agree found never =
      following taken h speech xs present scene fits (Higher present l) (λ m q. q.0)
      (λ m t a n q at is. more_above present l m t a n q at) here old view past settled s cells same _ G array
      (array_of type) good.0
      (λ span m up none n. looking_on r G looks good.2 next m up.0
      (λ parts k more looked n. found parts k (higher l m k up more) looked n) n) _
      (λ a m up typed on n. following taken h speech xs present scene fits (Higher present l) (λ m q. q.0)
      (λ m t a n q at is. more_above present l m t a n q at) here old view past settled s cells same _ G index Int good.1
      (λ span m up none n. looking_on r G looks good.2 next m up.0
      (λ parts k more looked n. found parts k (higher l m k up more) looked n) n) _
      (λ i k up number at n. what_is_read taken (cells_at was cells bind (with_lengths s k)) (contents_at was) (settled_at was k)
      (InElement type (reference_in a) (number_in i))
      (λ maps. look_ahead (truly maps) cells bind r looks (next maps) (with_lengths s k))
      (λ maps v. look_ahead (truly maps) cells bind r looks (next maps)) (with_lengths s k) G
      (λ none n. looking_on r G looks good.2 next k up.0
      (λ parts j more looked n. found parts j (higher l k j up more) looked n) n)
      (λ v is n. looking_on r G looks good.2 next k up.0
      (λ parts j more looked n. found parts j (higher l k j up more) looked n) n) n) m up n)
      l (agree, λ t a n is. is) never
  looking_on r G (AtLength type array ∷ looks) good next l agree found never =
      following taken h speech xs present scene fits (Higher present l) (λ m q. q.0)
      (λ m t a n q at is. more_above present l m t a n q at) here old view past settled s cells same _ G array
      (array_of type) good.0
      (λ span m up none n. looking_on r G looks good.2 next m up.0
      (λ parts k more looked n. found parts k (higher l m k up more)
      (λ a z on z_not at. absurd (none-some a (sym none ∙ on)), looked) n) n) _
      (λ a m up typed on n. array_or_null present type good.1 a typed G
      (λ z. looking_on r G looks good.2 next m up.0
      (λ parts k more looked n. found parts k (higher l m k up more) (
        λ b y is full at. let one : a ≡ b = same_Some a b (sym on ∙ is) in
            let two = subst (λ x. nat_eq (reference_in x) 0 ≡ true) one z in absurd (cc (two, full)),
        looked,
      ) n)
      (subst (λ b. RestNeverFails taken (λ maps. if b then look_ahead (truly maps) cells bind r looks (next maps)
      (with_lengths s m) else look_at_length (truly maps) type (reference_in a)
      (λ k. look_ahead (truly maps) cells bind r looks (next maps)) (with_lengths s m))) z n))
      (λ size z at. length_looked_by taken present (Higher present l) s type (reference_in a) (λ m q. q.0)
      (λ m n q at is. more_above present l m type (reference_in a) n q at)
      (λ maps k. look_ahead (truly maps) cells bind r looks (next maps)) G size at (view.natural _ size at)
      (λ m up here' n. looking_on r G looks good.2 next m up.0
      (λ parts k more looked n. found parts k (higher l m k up more) (
        λ b y is full there. let one : a ≡ b = same_Some a b (sym on ∙ is) in
            let same_size : size ≡ y =
            same_Some size y (sym at ∙ subst (λ x. present.length (reference_in x) ≡ Some y) (sym one) there) in
            subst (λ x. k type (reference_in x) ≡ Some y) one (more.1 type (reference_in a) size here' ∙ ap Some same_size),
        looked,
      ) n) n)
      m up
      (subst (λ b. RestNeverFails taken (λ maps. if b then look_ahead (truly maps) cells bind r looks (next maps)
      (with_lengths s m) else look_at_length (truly maps) type (reference_in a)
      (λ k. look_ahead (truly maps) cells bind r looks (next maps)) (with_lengths s m))) z n)))
      l (agree, λ t a n is. is) never
  looking_on r G (AtTerm e ∷ looks) good next l agree found never =
      following taken h speech xs present scene fits (Higher present l) (λ m q. q.0)
      (λ m t a n q at is. more_above present l m t a n q at) here old view past settled s cells same _ G e good.0.0 good.0.1
      (λ span m up none n. looking_on r G looks good.1 next m up.0
      (λ parts k more looked n. found parts k (higher l m k up more) looked n) n) _
      (λ v m up typed on n. looking_on r G looks good.1 next m up.0
      (λ parts k more looked n. found parts k (higher l m k up more) looked n) n)
      l (agree, λ t a n is. is) never

  -- what is read at a mark is passed
  pub arrays_passed : (G : Type 0) (looks : List Look) → AreGoodLooks h speech xs looks
      → (next : Maps → List ArrayPart → Next Judged)
      → ((parts : List ArrayPart) (l : Lengths) → LengthsAgree present l
      → RestNeverFails taken (λ maps. next maps parts (with_lengths s l)) → G)
      → (l : Lengths) → LengthsAgree present l → RestNeverFails taken (λ maps. arrays_read (truly maps) cells bind looks
      (next maps) (with_lengths s l)) → G
  arrays_passed G [] good next found l agree never = found [] l agree never
  arrays_passed G (AtElements type array shift ∷ looks) good next found l agree never =
      reading taken h speech xs present scene fits here old view past settled s cells same _ G
      (λ span m agrees n. arrays_passed G looks good.1 next found m agrees n) array (array_of type) good.0 _
      (λ a m agrees typed reads n. arrays_passed G looks good.1 _
      (λ parts. found (record { type = type; array = reference_in a; shift = shift } ∷ parts)) m agrees n)
      l agree never
  arrays_passed G (AtElement was type array index ∷ looks) good next found l agree never =
      arrays_passed G looks good.2 next found l agree never
  arrays_passed G (AtLength type array ∷ looks) good next found l agree never =
      arrays_passed G looks good.2 next found l agree never
  arrays_passed G (AtTerm e ∷ looks) good next found l agree never = arrays_passed G looks good.1 next found l agree never

  pub cutting : (missing : Maps → Span → Next Judged) (G : Type 0)
      → ((span : Span) (l : Lengths) → LengthsAgree present l
      → RestNeverFails taken (λ maps. (missing maps) span (with_lengths s l)) → G)
      → (cuts : List Cut) → AreGoodCuts h speech xs cuts
      → (r : Range) (none : Maps → Next Judged) (next : Maps → Range → Next Judged)
      → ((l : Lengths) → LengthsAgree present l → ((sight : Sight) → Sees present here old sight → CutsTo sight scene cuts r None)
      → RestNeverFails taken (λ maps. (none maps) (with_lengths s l)) → G)
      → ((x : Range) (l : Lengths) → LengthsAgree present l
      → ((sight : Sight) → Sees present here old sight → CutsTo sight scene cuts r (Some x))
      → RestNeverFails taken (λ maps. (next maps) x (with_lengths s l)) → G)
      → (l : Lengths) → LengthsAgree present l → RestNeverFails taken (λ maps. cut_all (truly maps) cells
      (missing maps) bind cuts r (none maps) (next maps) (with_lengths s l)) → G
  cutting missing G missed [] good r none next off on l agree never = on r l agree (λ sight sees. refl) never
  cutting missing G missed (cut ∷ cuts) good r none next off on l agree never = go
      (λ full n. reading taken h speech xs present scene fits here old view past settled s cells same missing G missed
      (guard_term cut) (type_of_cut cut) good.0 _
      (λ v m agrees typed reads n. cutting missing G missed cuts good.1 (cut_by cut v r) none next
      (λ k agreed cuts_to n. off k agreed (λ sight sees. inr (full, (v, reads sight sees, cuts_to sight sees))) n)
      (λ x k agreed cuts_to n. on x k agreed (λ sight sees. inr (full, (v, reads sight sees, cuts_to sight sees))) n)
      m agrees (never_as taken _ _ (λ picks. notice_nothing (all_maps taken picks) cut v r _) n))
      l agree n)
      (is_empty r.low r.high) refl never
    where
      go : (is_empty r.low r.high ≡ false → RestNeverFails taken (λ maps. value_in (truly maps) cells (missing maps) bind
          (guard_term cut) (λ v later. notice_cut (truly maps) cut v r
          (cut_all (truly maps) cells (missing maps) bind cuts (cut_by cut v r) (none maps) (next maps) later))
          (with_lengths s l)) → G)
          → (b : Bool) → is_empty r.low r.high ≡ b
          → RestNeverFails taken (λ maps. if b then (none maps) (with_lengths s l) else value_in (truly maps) cells
          (missing maps) bind (guard_term cut) (λ v later. notice_cut (truly maps) cut v r
          (cut_all (truly maps) cells (missing maps) bind cuts (cut_by cut v r) (none maps) (next maps) later))
          (with_lengths s l)) → G
      go more true e n = off l agree (λ sight sees. inl (e, refl)) n
      go more false e n = more e n
