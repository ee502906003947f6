-- What a lazy run reads of picks for ranges it reads at names.
use Rattle.std.proofs.Common.{◌≡◌, ℕ, zero, suc, ℤ, pos, Bool, true, false, if◌then◌else◌, Option, Some, None, List, [], ◌∷◌, ◌++◌, refl, ap, sym, subst, ◌∙◌, inl, inr}
use Rattle.std.specs.Prelude.{nat_eq, ◌+ℤ◌}
use Rattle.pv_base.specs.declared.Name.{Name}
use Rattle.pv_base.specs.declared.Span.{Span}
use Rattle.pv_ast.specs.declared.PvType.{PvType}
use Rattle.pv_values.specs.declared.value.Value.{Value}
use Rattle.pv_values.specs.declared.value.Value.TheVariants as value
use Rattle.pv_picks.specs.declared.evidence.Pick.{Pick}
use Rattle.pv_picks.specs.declared.evidence.Entry.{Entry}
use Rattle.pv_picks.specs.Plain.Core.{Operation, Manner, Plain, Tabled, Expression, Constant, This, Result, Variable, Field, Element, Length, Not, Compute, Compare, Equal, And, Or, Implies, Old}
use Rattle.pv_picks.specs.Formulas.Values.{truth_in, reference_in, number_in}
use Rattle.pv_picks.specs.Formulas.Evaluation.{Scene, evaluate}
use Rattle.pv_picks.specs.Judge.States.{State, Resource, InField, InElement, Cell, Cells, Written, FromSteps, as_element, cells_of}
use Rattle.pv_picks.specs.Judge.Settings.{Setting, AtField, AtArrayLength, Known}
use Rattle.pv_picks.specs.Judge.Repetitions.{bind_at, or_blocked, operation_tested, test_reader, test_at, test_from}
use Rattle.pv_picks.specs.Judge.Runs.{Blocked, Maps, content, value_of_operation}
use Rattle.pv_picks.specs.Lazy.Patterns.{Array, positions_of}
use Rattle.pv_picks.specs.Lazy.Runs.{Memory, ReadAs, Final, final, Ends, Source, Lazily, element_or, operation_or, value_read, value_used, quieted, with_event, is_due, test_once, test_within, test_facts, test_all, first_shown}
use Rattle.judge_laws.specs.Options.{or_none}
use Rattle.judge_laws.proofs.Lookups.{read_right, used_right, fits_more}
use Rattle.judge_facts.specs.Finite.{IsOneOf}
use Rattle.judge_facts.specs.Fair.{names_of, content_of, operated, worth}
use Rattle.judge_facts.proofs.Naming.{Alike, alike_same, alike_on, Still, still_same, still_on, event_still}
use Rattle.judge_facts.proofs.Ways as ways
use Rattle.judge_facts.proofs.ReadingFacts.{ReadsNames}

known : {X Y : Type 0} (x : Option X) (v : X) (g : X → Option Y) → x ≡ Some v → or_none x g ≡ g v
known x v g e = ap (λ z. or_none z g) e

both_known : {X Y Z : Type 0} (x : Option X) (y : Option Y) (v : X) (w : Y) (g : X → Y → Option Z) → x ≡ Some v → y ≡ Some w
    → or_none x (λ a. or_none y (g a)) ≡ g v w
both_known x y v w g e f = ap (λ z. or_none z (λ a. or_none y (g a))) e ∙ ap (λ z. or_none z (g v)) f

module _ (maps : Maps) (table : List Entry) (F : Final) where
  abbrev pub N : Array → List ℤ
  N a = names_of F a

  abbrev pub R : ℕ → PvType → ℕ → Type 0
  R n t a = IsOneOf (record { number = n; type = t; array = a }) F.ranges

  -- a number of a pick for a range, at the index of an element of its array
  abbrev StepAt : Resource → ℕ → ℤ → Type 0
  StepAt (InElement t a i) n j = (i ≡ j) × R n t a
  StepAt x n j = ⊥

  abbrev pub CellAt : Resource → Cell → Type 0
  CellAt x (Written v) = Unit {0}
  CellAt x (FromSteps u n j) = StepAt x n j

  abbrev pub CellsAt : Cells → Type 0
  CellsAt cells = (x : Resource) (c : Cell) → cells x ≡ Some c → CellAt x c

  -- a pick for a range of an array, at a name of it
  pub record ReadAt (n : ℕ) (j : ℤ) : Type 0 where
    pub type : PvType
    pub array : ℕ
    pub range : R n type array
    pub name : IsOneOf j (N (type, array))

  abbrev pub Readable : Cell → Type 0
  Readable (Written v) = Unit {0}
  Readable (FromSteps u n j) = ReadAt n j

  abbrev pub AllRead : List ReadAs → Type 0
  AllRead xs = (x : ReadAs) → IsOneOf x xs → ReadAt x.number x.index

  pub readable_at : (cells : Cells) → CellsAt cells → (t : PvType) (a : ℕ) (i : ℤ) → IsOneOf i (N (t, a)) → (c : Cell)
      → cells (InElement t a i) ≡ Some c → Readable c
  readable_at cells h t a i n (Written v) e = tt
  readable_at cells h t a i n (FromSteps u k j) e = let g = h (InElement t a i) (FromSteps u k j) e in
      record { type = t; array = a; range = g.1; name = subst (λ (z : ℤ). IsOneOf z (N (t, a))) g.0 n }

  pub readable_field : (cells : Cells) → CellsAt cells → (d : Name) (o : ℕ) (f : Name) (c : Cell) → cells (InField d o f) ≡ Some c
      → Readable c
  readable_field cells h d o f (Written v) e = tt
  readable_field cells h d o f (FromSteps u k j) e = absurd (h (InField d o f) (FromSteps u k j) e)

  abbrev S : Source (List Pick) Final
  S = ways.S maps table

  abbrev L : Setting (Lazily (List Pick) Final)
  L = ways.L maps table

  abbrev Lazy : Type 0
  Lazy = Lazily (List Pick) Final

  abbrev Fit : Memory → Type 0
  Fit m = ways.Fit maps table m

  abbrev pub FactAt : Known → ℤ → Type 0
  FactAt k q =
      CellsAt (cells_of k.state) × CellsAt k.bind.old
      × ReadsNames maps table N k.state (cells_of k.state) k.bind.old (bind_at k.bind k.name q).scene k.fact

  -- The tests of facts, up to an end that blocks or of which this holds
  module _ (Z : Final → Type 0) (dead : (o : Final) → o.end ≡ Ends Blocked → Z o) where
    -- the rest comes to such an end from each memory with the same facts
    abbrev Comes : (Memory → Memory → Type 0) → Memory → List Pick → Lazy → Type 0
    Comes K m ps y = (n : Memory) → Fit n → AllRead n.reads → K m n → Z (y n ps).end

    element_reads : (o : Option ℤ) (ty : PvType) (n : ℕ) (i : ℤ) (g : ℤ → Lazy) (m : Memory) (ps : List Pick) → Fit m
        → AllRead m.reads
        → ReadAt n i → ((z : ℤ) → o ≡ Some z → maps n i ≡ z) → Comes Still m ps (g (maps n i))
        → Z (element_or final S o ty n i g m ps).end
    element_reads (Some z) ty n i g m ps r rd at e h =
        subst (λ (w : ℤ). Z (g w m ps).end) (e z refl) (h m r rd (still_same m))
    element_reads None ty n i g m ps r rd at e h =
        h (record m { reads = record { number = n; index = i; value = maps n i } ∷ m.reads }) ((refl, r.0), r.1)
        (λ x j. elim j [ inl e ↦ subst (λ (y : ReadAs). ReadAt y.number y.index) (sym e) at | inr k ↦ rd x k ])
        (refl, alike_same m)

    pub reading_reads : (c : Cell) (g : Value → Lazy) (m : Memory) (ps : List Pick) → Fit m → AllRead m.reads → Readable c
        → Comes Still m ps (g (content maps c)) → Z (L.reading c g m ps).end
    reading_reads (Written v) g m ps r rd at h = h m r rd (still_same m)
    reading_reads (FromSteps u n i) g m ps r rd at h =
        element_reads (value_read m.reads n i) u n i (λ z. g (as_element u z)) m ps r rd at
        (λ z e. read_right maps m.reads n i z r.0 e) h

    cell_reads : (x : Option Cell) (g : Value → Lazy) (m : Memory) (ps : List Pick) → Fit m → AllRead m.reads
        → ((c : Cell) → x ≡ Some c → Readable c) → ((c : Cell) → x ≡ Some c → Comes Still m ps (g (content maps c)))
        → Z (or_blocked L x (λ c. L.reading c g) m ps).end
    cell_reads None g m ps r rd at h = dead _ refl
    cell_reads (Some c) g m ps r rd at h = reading_reads c g m ps r rd (at c refl) (h c refl)

    operation_reads : (x : Option ℤ) (o : Operation) (b c : ℤ) (g : ℤ → Lazy) (m : Memory) (ps : List Pick) → Fit m
        → AllRead m.reads → ((z : ℤ) → x ≡ Some z → value_of_operation table o b c ≡ z)
        → Comes Still m ps (g (value_of_operation table o b c)) → Z (operation_or final S x o b c g m ps).end
    operation_reads (Some z) o b c g m ps r rd e h =
        subst (λ (w : ℤ). Z (g w m ps).end) (e z refl) (h m r rd (still_same m))
    operation_reads None o b c g m ps r rd e h =
        h (record m { uses = m.uses ++ record { used = (o, b, c); value = value_of_operation table o b c } ∷ [] })
        (r.0, fits_more table m.uses _ r.1 refl) rd (refl, alike_same m)

    using_reads : (t : Manner) (o : Operation) (b c : ℤ) (p : Span) (g : ℤ → Lazy) (m : Memory) (ps : List Pick) → Fit m
        → AllRead m.reads → Comes Still m ps (g (operated table t o b c)) → Z (operation_tested L t o b c p g m ps).end
    using_reads Plain o b c p g m ps r rd h = h m r rd (still_same m)
    using_reads Tabled o b c p g m ps r rd h =
        operation_reads (value_used m.uses (o, b, c)) o b c g m ps r rd (λ z e. used_right table m.uses (o, b, c) z r.1 e) h

    length_reads : (c : Bool) (x : Option ℤ) (t : PvType) (a : ℕ) (g : ℤ → Lazy) (m : Memory) (ps : List Pick) → Fit m
        → AllRead m.reads → (c ≡ false → (z : ℤ) → x ≡ Some z → Comes Still m ps (g z))
        → Z ((if c then L.blocked else L.noticing (AtArrayLength t a) (or_blocked L x g)) m ps).end
    length_reads true x t a g m ps r rd h = dead _ refl
    length_reads false None t a g m ps r rd h = dead _ refl
    length_reads false (Some z) t a g m ps r rd h =
        h refl z refl (record m { events = with_event (AtArrayLength t a) m.events }) r rd
        (event_still m (AtArrayLength t a) (λ arrays. refl))

    chosen : (c : Bool) (x y : Lazy) (m : Memory) (ps : List Pick) → (c ≡ true → Z (x m ps).end) → (c ≡ false → Z (y m ps).end)
        → Z ((if c then x else y) m ps).end
    chosen true x y m ps f g = f refl
    chosen false x y m ps f g = g refl

    on : (m n : Memory) (ps : List Pick) (y : Lazy) → Still m n → Comes Still m ps y → Comes Still n ps y
    on m n ps y s h o r rd t = h o r rd (still_on m n o s t)

    -- a value is read at names, and then what comes next
    evaluate_reads : (s : State) (now old : Cells) → CellsAt now → CellsAt old → (x : Scene) (e : Expression)
        → ReadsNames maps table N s now old x e → (f : Value → Lazy) (m : Memory) (ps : List Pick) → Fit m → AllRead m.reads
        → ((v : Value) → worth maps table s now old x e ≡ Some v → Comes Still m ps (f v))
        → Z (evaluate (test_reader L s now) (test_reader L s old) x e f m ps).end
    evaluate_reads s now old cn co x (Constant v) g f m ps r rd h = h v refl m r rd (still_same m)
    evaluate_reads s now old cn co x This g f m ps r rd h = h _ refl m r rd (still_same m)
    evaluate_reads s now old cn co x Result g f m ps r rd h = h _ refl m r rd (still_same m)
    evaluate_reads s now old cn co x (Variable z) g f m ps r rd h = h _ refl m r rd (still_same m)
    evaluate_reads s now old cn co x (Field e d n p) g f m ps r rd h =
        evaluate_reads s now old cn co x e g _ m ps r rd (λ v w k rk dk sk.
        let u : Memory = record k { events = with_event (AtField d (reference_in v) n) k.events } in
        cell_reads (now (InField d (reference_in v) n)) f u ps rk dk
        (λ c e0. readable_field now cn d (reference_in v) n c e0)
        (λ c e0 o ro d2 so. h (content maps c) (known _ v _ w ∙ ap (λ z. content_of maps z) e0) o ro d2
        (still_on m k o sk (still_on k u o (event_still k (AtField d (reference_in v) n) (λ arrays. refl)) so))))
    evaluate_reads s now old cn co x (Element t a i p) g f m ps r rd h =
        evaluate_reads s now old cn co x a g.0 _ m ps r rd (λ v w k rk dk sk.
        evaluate_reads s now old cn co x i g.1 _ k ps rk dk (λ z y j rj dj sj.
        cell_reads (now (InElement t (reference_in v) (number_in z))) f j ps rj dj
        (λ c e0. readable_at now cn t (reference_in v) (number_in z) (g.2 v z w y) c e0)
        (λ c e0 o ro d2 so. h (content maps c) (both_known _ _ v z _ w y ∙ ap (λ q. content_of maps q) e0) o ro d2
        (still_on m k o sk (still_on k j o sj so)))))
    evaluate_reads s now old cn co x (Length t a p) g f m ps r rd h =
        evaluate_reads s now old cn co x a g _ m ps r rd (λ v w k rk dk sk.
        length_reads (nat_eq (reference_in v) 0) (s.lengths t (reference_in v)) t (reference_in v) _ k ps rk dk
        (λ c z e0 o ro d2 so. h (value.Number z) (known _ v _ w
        ∙ ap (λ (b : Bool). if b then None else or_none (s.lengths t (reference_in v)) (λ n. Some (value.Number n))) c
        ∙ known _ z _ e0) o ro d2 (still_on m k o sk so)))
    evaluate_reads s now old cn co x (Not e) g f m ps r rd h =
        evaluate_reads s now old cn co x e g _ m ps r rd (λ v w k rk dk sk. h _ (known _ v _ w) k rk dk sk)
    evaluate_reads s now old cn co x (Compute t o a b p) g f m ps r rd h =
        evaluate_reads s now old cn co x a g.0 _ m ps r rd (λ v w k rk dk sk.
        evaluate_reads s now old cn co x b g.1 _ k ps rk dk (λ z y j rj dj sj.
        using_reads t o (number_in v) (number_in z) p _ j ps rj dj
        (λ q rq dq sq. h _ (both_known _ _ v z _ w y) q rq dq (still_on m k q sk (still_on k j q sj sq)))))
    evaluate_reads s now old cn co x (Compare o a b) g f m ps r rd h =
        evaluate_reads s now old cn co x a g.0 _ m ps r rd (λ v w k rk dk sk.
        evaluate_reads s now old cn co x b g.1 _ k ps rk dk (λ z y j rj dj sj.
        h _ (both_known _ _ v z _ w y) j rj dj (still_on m k j sk sj)))
    evaluate_reads s now old cn co x (Equal is a b) g f m ps r rd h =
        evaluate_reads s now old cn co x a g.0 _ m ps r rd (λ v w k rk dk sk.
        evaluate_reads s now old cn co x b g.1 _ k ps rk dk (λ z y j rj dj sj.
        h _ (both_known _ _ v z _ w y) j rj dj (still_on m k j sk sj)))
    evaluate_reads s now old cn co x (And a b) g f m ps r rd h =
        evaluate_reads s now old cn co x a g.0 _ m ps r rd (λ v w k rk dk sk. chosen (truth_in v) _ _ k ps
        (λ e. evaluate_reads s now old cn co x b g.1 f k ps rk dk (λ z y.
        on m k ps (f z) sk (h z (known _ v _ w
        ∙ ap (λ (c : Bool). if c then worth maps table s now old x b else Some (value.Truth false)) e ∙ y))))
        (λ e. h _ (known _ v _ w
        ∙ ap (λ (c : Bool). if c then worth maps table s now old x b else Some (value.Truth false)) e) k rk dk sk))
    evaluate_reads s now old cn co x (Or a b) g f m ps r rd h =
        evaluate_reads s now old cn co x a g.0 _ m ps r rd (λ v w k rk dk sk. chosen (truth_in v) _ _ k ps
        (λ e. h _ (known _ v _ w
        ∙ ap (λ (c : Bool). if c then Some (value.Truth true) else worth maps table s now old x b) e) k rk dk sk)
        (λ e. evaluate_reads s now old cn co x b g.1 f k ps rk dk (λ z y.
        on m k ps (f z) sk (h z (known _ v _ w
        ∙ ap (λ (c : Bool). if c then Some (value.Truth true) else worth maps table s now old x b) e ∙ y)))))
    evaluate_reads s now old cn co x (Implies a b) g f m ps r rd h =
        evaluate_reads s now old cn co x a g.0 _ m ps r rd (λ v w k rk dk sk. chosen (truth_in v) _ _ k ps
        (λ e. evaluate_reads s now old cn co x b g.1 f k ps rk dk (λ z y.
        on m k ps (f z) sk (h z (known _ v _ w
        ∙ ap (λ (c : Bool). if c then worth maps table s now old x b else Some (value.Truth true)) e ∙ y))))
        (λ e. h _ (known _ v _ w
        ∙ ap (λ (c : Bool). if c then worth maps table s now old x b else Some (value.Truth true)) e) k rk dk sk))
    evaluate_reads s now old cn co x (Old e) g f m ps r rd h = evaluate_reads s old old co co x e g f m ps r rd h

    test_reads : (k : Known) (q : ℤ) → FactAt k q → (y : Lazy) (m : Memory) (ps : List Pick) → Fit m → AllRead m.reads
        → Comes Still m ps y → Z (test_at L k q y m ps).end
    test_reads k q at y m ps r rd h =
        evaluate_reads k.state (cells_of k.state) k.bind.old at.0 at.1 (bind_at k.bind k.name q).scene k.fact at.2 _ m ps r rd
        (λ v w n rn dn sn. chosen (truth_in v) y L.blocked n ps (λ e. h n rn dn sn) (λ e. dead _ refl))

    once_reads : (p : ℕ) (k : Known) (q : ℤ) → FactAt k q → (y : Lazy) (m : Memory) (ps : List Pick) → Fit m → AllRead m.reads
        → Comes Alike m ps y → Z (test_once final S p k q y m ps).end
    once_reads p k q at y m ps r rd h = chosen (is_due final S p k q m) _ _ m ps
        (λ e. test_reads k q at y (record m { tested = (p, q) ∷ m.tested }) ps r rd (λ n rn dn sn. h n rn dn sn.1))
        (λ e. h m r rd (alike_same m))

    within_reads : (p : ℕ) (k : Known) (qs : List ℤ) → ((q : ℤ) → IsOneOf q qs → FactAt k q) → (y : Lazy) (m : Memory)
        (ps : List Pick) → Fit m → AllRead m.reads → Comes Alike m ps y → Z (test_within final S p k qs y m ps).end
    within_reads p k [] at y m ps r rd h = h m r rd (alike_same m)
    within_reads p k (q ∷ qs) at y m ps r rd h =
        once_reads p k q (at q (inl refl)) (test_within final S p k qs y) m ps r rd
        (λ n rn dn an. within_reads p k qs (λ z i. at z (inr i)) y n ps rn dn (λ o ro d2 ao. h o ro d2 (alike_on m n o an ao)))

    facts_reads : (p : ℕ) (ks : List Known) (seen : Memory)
        → ((k : Known) → IsOneOf k ks → (q : ℤ) → IsOneOf q (positions_of seen.known seen.events k) → FactAt k q) → (y : Lazy)
        (m : Memory) (ps : List Pick) → Fit m → AllRead m.reads → Comes Alike m ps y → Z (test_facts final S p ks seen y m ps).end
    facts_reads p [] seen at y m ps r rd h = h m r rd (alike_same m)
    facts_reads p (k ∷ ks) seen at y m ps r rd h =
        within_reads p k (positions_of seen.known seen.events k) (at k (inl refl))
        (test_facts final S (suc p) ks seen y) m ps r rd
        (λ n rn dn an. facts_reads (suc p) ks seen (λ j i. at j (inr i)) y n ps rn dn
        (λ o ro d2 ao. h o ro d2 (alike_on m n o an ao)))

    pub all_reads : (y : Lazy) (m : Memory) (ps : List Pick)
        → ((k : Known) → IsOneOf k m.known → (q : ℤ) → IsOneOf q (positions_of m.known m.events k) → FactAt k q)
        → Fit m → AllRead m.reads → Comes Alike m ps y → Z (test_all final S y m ps).end
    all_reads y m ps at r rd h = facts_reads 0 m.known m at y m ps r rd h

    from_reads : (k : Known) → ((q : ℤ) → FactAt k q) → (i : ℤ) (n : ℕ) (y : Lazy) (m : Memory) (ps : List Pick) → Fit m
        → AllRead m.reads → Comes Still m ps y → Z (test_from L k i n y m ps).end
    from_reads k at i zero y m ps r rd h = h m r rd (still_same m)
    from_reads k at i (suc n) y m ps r rd h = test_reads k i (at i) (test_from L k (i +ℤ pos 1) n y) m ps r rd
        (λ o ro d2 so. from_reads k at (i +ℤ pos 1) n y o ps ro d2 (on m o ps y so h))

    pub shown_reads : (k : Known) → ((q : ℤ) → FactAt k q) → (n : ℕ) (y : Lazy) (m : Memory) (ps : List Pick) → Fit m
        → AllRead m.reads → Comes Still m ps y → Z (first_shown final S k n y m ps).end
    shown_reads k at zero y m ps r rd h = h m r rd (still_same m)
    shown_reads k at (suc n) y m ps r rd h =
        test_reads k k.low (at k.low) (quieted true (test_from L k (k.low +ℤ pos 1) n (quieted false y))) m ps r rd
        (λ o ro d2 so. from_reads k at (k.low +ℤ pos 1) n (quieted false y) (record o { quiet = true }) ps ro d2
        (λ u ru du su. h (record u { quiet = false }) ru du (still_on m o u so su)))
