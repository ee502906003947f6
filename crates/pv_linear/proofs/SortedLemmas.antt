-- What a run along one path keeps of sorts, from call to call.
use Rattle.std.proofs.Common.{◌≡◌, ℕ, suc, ◌+◌, ◌<◌, List, [], ◌∷◌, ◌++◌, length, Bool, Some, refl, ap, sym, subst, ◌∙◌, ◌⊎◌, inl, inr, arith}
use Rattle.std.specs.Prelude.{slice_get}
use Rattle.std.proofs.Math.Logic.{∥∥₁_map, ∥∥₁_elim}
use Rattle.pv_linear.specs.declared.Sort.{Sort}
use Rattle.pv_linear.specs.declared.Sort.TheVariants.{Reference}
use Rattle.pv_linear.specs.declared.Literal.{Literal}
use Rattle.pv_linear.specs.Values.{Values}
use Rattle.pv_linear.specs.Literal.{Holds, Meets}
use Rattle.pv_linear.specs.Sorting.{IsNumberAmong, IsReferenceAmong, AreSortsApart}
use Rattle.pv_linear.specs.Sorts.{IsOfSorts, AreOfSorts, HasSorts}
use Rattle.pv_linear.specs.Evidence.{Evidence, HasTurns, CanBeMet, Follows, MayAsk, answered}
use Rattle.pv_linear.specs.Decisions.{Decision, fact, turn_is, Agrees, IsFront, AllBelow, AreNumbered, literals_in, turns_in, Decides, added, entailed, DecidesTurn, turned_to, kept}
use Rattle.pv_linear.specs.Keeping.{AreUp, Fits, Member, HasMember, KeepSorts, Tracks, Sorted, AreSorted}
use Rattle.pv_linear.proofs.MeetsLemmas.{Meets-left, Meets-right, Meets-append}
use Rattle.pv_linear.proofs.Pairs.{Follows-more, kept_turn}
use Rattle.pv_linear.proofs.AskingLemmas.{Follows-turn-more}
use Rattle.pv_linear.proofs.DecisionLemmas.{Agrees-front, Agrees-last, literals_in-append, literals_in-turn, turns_in-append, turns_in-fact, AreNumbered-fact, AreNumbered-turn, AllBelow-more, agreed_meets}
use Rattle.pv_linear.proofs.SortingLemmas.{number_either, number_left, number_right, reference_either, reference_left, reference_right, apart_within, apart_answered, sorts_answered, number_among, reference_among, literal_is, made_number, made_reference, one_place, get_more}
use Rattle.pv_linear.proofs.SortsKept.{keep_none, keep_decides, keep_decides_turn, kept_sorts}
use Rattle.pv_linear.proofs.Fitting.{fit_with}

-- the literals among the decisions can be met where the path can
decided_met : (takes : Evidence → List Sort) (path : List Literal) (turns : List ℕ) (ds : List Decision) (made : List Sort)
    → Sorted takes path turns ds made → CanBeMet path → CanBeMet (literals_in ds)
decided_met takes path turns ds made s met = ∥∥₁_map met (λ m. record { values = m.values; meets = s.meets m.values m.meets })

apart_decided : (takes : Evidence → List Sort) (path : List Literal) (turns : List ℕ) (ds : List Decision) (made : List Sort)
    → Sorted takes path turns ds made → CanBeMet path → AreSortsApart (literals_in ds)
apart_decided takes path turns ds made s met = apart_within (literals_in ds) path (s.apart met) s.numbers s.references

-- where the path can be met, there is evidence on it on which the run takes no negative reference
pub sorted_member : (takes : Evidence → List Sort) (path : List Literal) (turns : List ℕ) (ds : List Decision) (made : List Sort)
    → AreSorted takes path turns ds made → CanBeMet path → HasMember (Fits takes) ds
unfolding AreSorted
sorted_member takes path turns ds made s met = ∥∥₁_map (decided_met takes path turns ds made s met)
    (λ m. fit_with takes ds s.numbered s.below (apart_decided takes path turns ds made s met) s.keep m.values m.meets)

-- on it the symbols made have the first of the sorts that the run takes
front_of : (takes : Evidence → List Sort) (ds : List Decision) (made : List Sort) (m : Member (Fits takes) ds)
    → Tracks made (takes m.evidence) m.evidence.values → IsFront made (takes m.evidence)
unfolding Tracks
front_of takes ds made m (inl f) = f
front_of takes ds made m (inr n) = absurd (n.1 m.has_it.up)

got : (made taken : List Sort) (k : ℕ) (t : Sort) → IsFront made taken → slice_get made k ≡ Some t → slice_get taken k ≡ Some t
got made taken k t f e = subst (λ (ts : List Sort). slice_get ts k ≡ Some t) (sym f.1) (get_more made f.0 k t e)

-- a literal whose symbols were made as it has them may be asked
may_ask_with : (takes : Evidence → List Sort) (path : List Literal) (turns : List ℕ) (ds : List Decision) (made : List Sort)
    (l : Literal)
    → Sorted takes path turns ds made → HasSorts made l → CanBeMet path → Member (Fits takes) ds → AreSortsApart (path ++ l ∷ [])
may_ask_with takes path turns ds made l s h met m k n r =
    go (number_either (suc k) path (l ∷ []) n) (reference_either (suc k) path (l ∷ []) r)
  where
    fits : AreOfSorts (slice_get (takes m.evidence)) path
    fits = s.fits m.evidence m.has_it.below m.agrees

    taken : (t : Sort) → slice_get made k ≡ Some t → slice_get (takes m.evidence) k ≡ Some t
    taken t e = got made (takes m.evidence) k t (front_of takes ds made m (s.tracks m.evidence m.has_it.below m.agrees)) e

    go : IsNumberAmong path (suc k) ⊎ IsNumberAmong (l ∷ []) (suc k)
        → IsReferenceAmong path (suc k) ⊎ IsReferenceAmong (l ∷ []) (suc k) → ⊥
    go (inl a) (inl b) = s.apart met k a b
    go (inl a) (inr (inl b)) = number_among (slice_get (takes m.evidence)) path k fits a
        (taken Reference (made_reference made l k h b))
    go (inl a) (inr (inr b)) = b
    go (inr (inl a)) (inl b) = let t = made_number made l k h a in
        t.1.1 (reference_among (slice_get (takes m.evidence)) path k fits b t.0 (taken t.0 t.1.0))
    go (inr (inl a)) (inr (inl b)) = one_place l (suc k) a b
    go (inr (inl a)) (inr (inr b)) = b
    go (inr (inr a)) b = a

no_bottom : IsProp ⊥
no_bottom x y = absurd x

pub sorted_may_ask : (takes : Evidence → List Sort) (path : List Literal) (turns : List ℕ) (ds : List Decision) (made : List Sort)
    (l : Literal)
    → AreSorted takes path turns ds made → HasSorts made l → MayAsk path l
unfolding AreSorted MayAsk
sorted_may_ask takes path turns ds made l s h met k n r = ∥∥₁_elim (sorted_member takes path turns ds made s met) no_bottom
    (λ m. may_ask_with takes path turns ds made l s h met m k n r)

-- and keeps the sorts when it is answered
tracked : (made taken : List Sort) (e : Evidence) → Tracks made taken e.values → IsFront made taken ⊎ IsFront taken made
unfolding Tracks
tracked made taken e (inl f) = inl f
tracked made taken e (inr n) = inr n.0

old_agrees : (e : Evidence) (path : List Literal) (old new : List Decision) (l : Literal) → Decides path old new l → Agrees e new
    → Agrees e old
old_agrees e path old new l (added one other more) a = Agrees-front e old (fact l ∷ []) (subst (Agrees e) more a)
old_agrees e path old new l (entailed same all) a = subst (Agrees e) same a

new_holds : (e : Evidence) (path : List Literal) (old new : List Decision) (l : Literal) → Decides path old new l → Agrees e new
    → Meets e.values path → Holds e.values l
new_holds e path old new l (added one other more) a m = Agrees-last e old (fact l) (subst (Agrees e) more a)
new_holds e path old new l (entailed same all) a m = all e.values m

follows_meets : (e : Evidence) (path : List Literal) (turns : List ℕ) → Follows path turns e → Meets e.values path
unfolding Follows
follows_meets e path turns f = f.0

new_meets : (v : Values) (path : List Literal) (old new : List Decision) (l : Literal) → Decides path old new l
    → ((w : Values) → Meets w path → Meets w (literals_in old)) → Meets v (path ++ l ∷ []) → Meets v (literals_in new)
new_meets v path old new l (added one other more) h m =
    subst (Meets v) (sym (ap literals_in more ∙ literals_in-append old (fact l ∷ [])))
    (Meets-append v (literals_in old) (l ∷ []) (h v (Meets-left v path (l ∷ []) m)) (Meets-right v path (l ∷ []) m))
new_meets v path old new l (entailed same all) h m =
    subst (Meets v) (sym (ap literals_in same)) (h v (Meets-left v path (l ∷ []) m))

new_numbers : (path : List Literal) (old new : List Decision) (l : Literal) → Decides path old new l
    → ((k : ℕ) → IsNumberAmong (literals_in old) k → IsNumberAmong path k) → (k : ℕ) → IsNumberAmong (literals_in new) k
    → IsNumberAmong (path ++ l ∷ []) k
new_numbers path old new l (added one other more) h k n =
    elim (number_either k (literals_in old) (l ∷ [])
    (subst (λ ls. IsNumberAmong ls k) (ap literals_in more ∙ literals_in-append old (fact l ∷ [])) n)) [
      | inl a ↦ number_left k path (l ∷ []) (h k a)
      | inr a ↦ number_right k path (l ∷ []) a
    ]
new_numbers path old new l (entailed same all) h k n =
    number_left k path (l ∷ []) (h k (subst (λ ls. IsNumberAmong ls k) (ap literals_in same) n))

new_references : (path : List Literal) (old new : List Decision) (l : Literal) → Decides path old new l
    → ((k : ℕ) → IsReferenceAmong (literals_in old) k → IsReferenceAmong path k) → (k : ℕ) → IsReferenceAmong (literals_in new) k
    → IsReferenceAmong (path ++ l ∷ []) k
new_references path old new l (added one other more) h k n =
    elim (reference_either k (literals_in old) (l ∷ [])
    (subst (λ ls. IsReferenceAmong ls k) (ap literals_in more ∙ literals_in-append old (fact l ∷ [])) n)) [
      | inl a ↦ reference_left k path (l ∷ []) (h k a)
      | inr a ↦ reference_right k path (l ∷ []) a
    ]
new_references path old new l (entailed same all) h k n =
    reference_left k path (l ∷ []) (h k (subst (λ ls. IsReferenceAmong ls k) (ap literals_in same) n))

new_numbered : (path : List Literal) (old new : List Decision) (l : Literal) → Decides path old new l → AreNumbered 0 old
    → AreNumbered 0 new
new_numbered path old new l (added one other more) h = subst (AreNumbered 0) (sym more) (AreNumbered-fact 0 old l h)
new_numbered path old new l (entailed same all) h = subst (AreNumbered 0) (sym same) h

new_turns : (path : List Literal) (old new : List Decision) (l : Literal) → Decides path old new l → turns_in new ≡ turns_in old
new_turns path old new l (added one other more) = ap turns_in more ∙ turns_in-fact old l
new_turns path old new l (entailed same all) = ap turns_in same

met_before : (path more : List Literal) → CanBeMet (path ++ more) → CanBeMet path
met_before path more h = ∥∥₁_map h (λ s. record { values = s.values; meets = Meets-left s.values path more s.meets })

pub sorted_asked : (takes : Evidence → List Sort) (path : List Literal) (turns : List ℕ) (old new : List Decision)
    (made : List Sort) (l : Literal) (told : Bool)
    → Decides path old new (answered l told) → HasSorts made l → AreSorted takes path turns old made
    → AreSorted takes (path ++ answered l told ∷ []) turns new made
unfolding AreSorted MayAsk
sorted_asked takes path turns old new made l told d h s =
    let a = answered l told in
    let before : (e : Evidence) → Agrees e new → Agrees e old = λ e g. old_agrees e path old new a d g in
    let is : (e : Evidence) → HasTurns e → Agrees e old → IsOfSorts (slice_get (takes e)) l = λ e t g.
    literal_is made (takes e) l (tracked made (takes e) e (s.tracks e t g)) h in
    record {
      follows = λ e g. let f = s.follows e (before e g) in
          Follows-more e path turns a f (new_holds e path old new a d g (follows_meets e path turns f));
      meets = λ v m. new_meets v path old new a d s.meets m;
      numbers = new_numbers path old new a d s.numbers;
      references = new_references path old new a d s.references;
      numbered = new_numbered path old new a d s.numbered;
      below = subst AllBelow (sym (new_turns path old new a d)) s.below;
      apart = λ met. apart_answered path l told (sorted_may_ask takes path turns old made l s h (met_before path (a ∷ []) met));
      fits = λ e t g. sorts_answered (slice_get (takes e)) path l told (s.fits e t (before e g)) (is e t (before e g));
      keep = keep_decides takes path old new l told d is s.keep;
      tracks = λ e t g. s.tracks e t (before e g);
    }

-- so does a turn
turned_agrees : (e : Evidence) (turns : List ℕ) (old new : List Decision) (n : ℕ) → DecidesTurn turns old new n → Agrees e new
    → Agrees e old
turned_agrees e turns old new n (turned_to all more) a = Agrees-front e old _ (subst (Agrees e) more a)
turned_agrees e turns old new n (kept there same) a = subst (Agrees e) same a

turned_is : (e : Evidence) (turns : List ℕ) (old new : List Decision) (n : ℕ) → AreNumbered 0 old → DecidesTurn turns old new n
    → Agrees e new → e.turns (length turns) ≡ n
turned_is e turns old new n numbered (turned_to all more) a =
    Agrees-last e old (turn_is (length turns) n) (subst (Agrees e) more a)
turned_is e turns old new n numbered (kept there same) a = let z : 0 + length turns ≡ length turns = omega arith in
    rw z at (kept_turn e old 0 (length turns) n numbered (subst (Agrees e) same a) there)

turned_literals : (turns : List ℕ) (old new : List Decision) (n : ℕ) → DecidesTurn turns old new n → literals_in new
    ≡ literals_in old
turned_literals turns old new n (turned_to all more) = ap literals_in more ∙ literals_in-turn old (length turns) n
turned_literals turns old new n (kept there same) = ap literals_in same

turned_numbered : (turns : List ℕ) (old new : List Decision) (n : ℕ) → DecidesTurn turns old new n → AreNumbered 0 old
    → AreNumbered 0 new
turned_numbered turns old new n (turned_to all more) h = subst (AreNumbered 0) (sym more)
    (AreNumbered-turn 0 old (length turns) n (let z : length (turns_in old) ≡ length turns = ap length all in omega (arith, z)) h)
turned_numbered turns old new n (kept there same) h = subst (AreNumbered 0) (sym same) h

turned_below : (turns : List ℕ) (old new : List Decision) (n : ℕ) → n < 3 → DecidesTurn turns old new n → AllBelow (turns_in old)
    → AllBelow (turns_in new)
turned_below turns old new n lt (turned_to all more) h =
    subst AllBelow (sym (ap turns_in more ∙ turns_in-append old (turn_is (length turns) n ∷ [])))
    (AllBelow-more (turns_in old) n h lt)
turned_below turns old new n lt (kept there same) h = subst AllBelow (sym (ap turns_in same)) h

pub sorted_turned : (takes : Evidence → List Sort) (path : List Literal) (turns : List ℕ) (old new : List Decision)
    (made : List Sort) (n : ℕ)
    → DecidesTurn turns old new n → n < 3 → AreSorted takes path turns old made → AreSorted takes path (turns ++ n ∷ []) new made
unfolding AreSorted
sorted_turned takes path turns old new made n d lt s =
    let before : (e : Evidence) → Agrees e new → Agrees e old = λ e g. turned_agrees e turns old new n d g in
    let same = turned_literals turns old new n d in
    record {
      follows = λ e g. Follows-turn-more e path turns n (s.follows e (before e g)) (turned_is e turns old new n s.numbered d g);
      meets = λ v m. subst (Meets v) (sym same) (s.meets v m);
      numbers = λ k h. s.numbers k (subst (λ ls. IsNumberAmong ls k) same h);
      references = λ k h. s.references k (subst (λ ls. IsReferenceAmong ls k) same h);
      numbered = turned_numbered turns old new n d s.numbered;
      below = turned_below turns old new n lt d s.below;
      apart = s.apart;
      fits = λ e t g. s.fits e t (before e g);
      keep = keep_decides_turn takes turns old new n d s.keep;
      tracks = λ e t g. s.tracks e t (before e g);
    }

pub sorted_turned_as : (turns : List ℕ) (old new : List Decision) (n : ℕ) → n < 3 → DecidesTurn turns old new n
    → (takes : Evidence → List Sort) (path : List Literal) (made : List Sort) → AreSorted takes path turns old made
    → AreSorted takes path (turns ++ n ∷ []) new made
sorted_turned_as turns old new n lt d takes path made s = sorted_turned takes path turns old new made n d lt s

-- symbols of the first of the sorts that the run takes
pub tracks_front : (made taken : List Sort) (v : Values) → IsFront made taken → Tracks made taken v
unfolding Tracks
tracks_front made taken v f = inl f

-- and of all of them, where it has ended at a negative reference
pub tracks_ended : (made taken : List Sort) (v : Values) → IsFront taken made → (AreUp taken v → ⊥) → Tracks made taken v
unfolding Tracks
tracks_ended made taken v f n = inr (f, n)

-- and a symbol that the run takes too keeps the sorts
pub sorted_made : (takes : Evidence → List Sort) (path : List Literal) (turns : List ℕ) (ds : List Decision) (made : List Sort)
    (sort : Sort)
    → ((e : Evidence) → Follows path turns e → HasTurns e → Tracks (made ++ sort ∷ []) (takes e) e.values)
    → AreSorted takes path turns ds made → AreSorted takes path turns ds (made ++ sort ∷ [])
unfolding AreSorted
sorted_made takes path turns ds made sort h s = record {
  follows = s.follows;
  meets = s.meets;
  numbers = s.numbers;
  references = s.references;
  numbered = s.numbered;
  below = s.below;
  apart = s.apart;
  fits = s.fits;
  keep = s.keep;
  tracks = λ e t g. h e (s.follows e g) t;
}

-- a run starts with it, where its path has just the literals among the decisions
pub sorted_start : (takes : Evidence → List Sort) (ds : List Decision) → AreNumbered 0 ds → AllBelow (turns_in ds)
    → AreSortsApart (literals_in ds) → KeepSorts takes ds → AreSorted takes (literals_in ds) [] ds []
unfolding AreSorted Follows Tracks
sorted_start takes ds numbered below apart keep = record {
  follows = λ e a. (agreed_meets e ds a, λ k lt. absurd (omega (arith, lt)));
  meets = λ v m. m;
  numbers = λ k n. n;
  references = λ k n. n;
  numbered = numbered;
  below = below;
  apart = λ met. apart;
  fits = λ e t a. kept_sorts takes ds e keep t a;
  keep = keep;
  tracks = λ e t a. inl (takes e, refl);
}

-- what it leaves of the decisions
pub sorted_keeps : (takes : Evidence → List Sort) (path : List Literal) (turns : List ℕ) (ds : List Decision) (made : List Sort)
    → AreSorted takes path turns ds made → KeepSorts takes ds
unfolding AreSorted
sorted_keeps takes path turns ds made s = s.keep

pub sorted_apart : (takes : Evidence → List Sort) (path : List Literal) (turns : List ℕ) (ds : List Decision) (made : List Sort)
    → AreSorted takes path turns ds made → CanBeMet path → AreSortsApart (literals_in ds)
unfolding AreSorted
sorted_apart takes path turns ds made s met = apart_decided takes path turns ds made s met

pub sorted_numbered : (takes : Evidence → List Sort) (path : List Literal) (turns : List ℕ) (ds : List Decision)
    (made : List Sort)
    → AreSorted takes path turns ds made → AreNumbered 0 ds
unfolding AreSorted
sorted_numbered takes path turns ds made s = s.numbered

pub sorted_below : (takes : Evidence → List Sort) (path : List Literal) (turns : List ℕ) (ds : List Decision) (made : List Sort)
    → AreSorted takes path turns ds made → AllBelow (turns_in ds)
unfolding AreSorted
sorted_below takes path turns ds made s = s.below

-- a new path, on which nothing is decided
pub sorted_none : (takes : Evidence → List Sort) → AreSorted takes [] [] [] []
sorted_none takes = sorted_start takes [] tt (λ k. omega arith) (λ k n r. n) (keep_none takes)
