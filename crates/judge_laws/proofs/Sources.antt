-- Two lazy runs that take from two sources, in related settings.
use Rattle.std.proofs.Common.{◌≡◌, refl, ℕ, zero, suc, ℤ, pos, Bool, true, false, List, [], ◌∷◌}
use Rattle.std.specs.Prelude.{◌+ℤ◌}
use Rattle.pv_ast.specs.declared.PvType.{PvType}
use Rattle.pv_picks.specs.Formulas.Values.{width}
use Rattle.pv_picks.specs.Judge.Settings.{Event, AtField, AtToken, AtLock, AtInstance, AtArray, AtArrayLength, ArrayPart, Known}
use Rattle.pv_picks.specs.Judge.Repetitions.{shifted}
use Rattle.pv_picks.specs.Lazy.Patterns.{Shown, positions_of}
use Rattle.pv_picks.specs.Lazy.Runs.{Memory, LazyEnd, Source, Lazily, showing, quieted, remember_event, join_fact, part_events, reads_none, testing, is_due, test_once, test_within, test_facts, test_all, name_ends, lazy_event, first_shown, known_if, lazy}
use Rattle.judge_laws.specs.Related.{AreRelated}
use Rattle.pv_picks.proofs.Readers.{if_related}
use Rattle.judge_laws.proofs.Taking.{test_at_related, test_from_related, otherwise}

module _ {S T E F : Type 0} (end_one : LazyEnd → Memory → E) (end_other : LazyEnd → Memory → F) (one : Source S E)
    (other : Source T F) (P : Lazily S E → Lazily T F → Type 0)
    (r : AreRelated (testing end_one one) (testing end_other other) P)
    (moved : (sh : Memory → List Shown) (mv : Memory → Memory) → ((m : Memory) → (mv m).uses ≡ m.uses)
    → ((m : Memory) → (mv m).reads ≡ m.reads) → ((m : Memory) → (mv m).picks ≡ m.picks) → (x : Lazily S E) (y : Lazily T F)
    → P x y → P (λ m s. showing (sh m) (x (mv m) s)) (λ m t. showing (sh m) (y (mv m) t)))
    (same : (f : Memory → Lazily S E) (g : Memory → Lazily T F) → ((m : Memory) → P (f m) (g m))
    → P (λ m s. f m m s) (λ m t. g m m t)) where
  quieted_related : (b : Bool) (x : Lazily S E) (y : Lazily T F) → P x y → P (quieted b x) (quieted b y)
  quieted_related b x y h = moved (λ m. []) (λ m. record m { quiet = b }) (λ m. refl) (λ m. refl) (λ m. refl) x y h

  event_related : (e : Event) (x : Lazily S E) (y : Lazily T F) → P x y → P (remember_event e x) (remember_event e y)
  event_related e x y h = r.noticing e x y h

  once_related : (n : ℕ) (k : Known) (i : ℤ) (x : Lazily S E) (y : Lazily T F) → P x y
      → P (test_once end_one one n k i x) (test_once end_other other n k i y)
  once_related n k i x y h = same _ _ (λ m. if_related P (is_due end_one one n k i m) _ _ _ _
      (moved (λ m. []) _ (λ m. refl) (λ m. refl) (λ m. refl) _ _
      (test_at_related (testing end_one one) (testing end_other other) P r k i _ _ h)) h)

  within_related : (n : ℕ) (k : Known) (is : List ℤ) (x : Lazily S E) (y : Lazily T F) → P x y
      → P (test_within end_one one n k is x) (test_within end_other other n k is y)
  within_related n k [] x y h = h
  within_related n k (i ∷ is) x y h = once_related n k i _ _ (within_related n k is x y h)

  facts_related : (n : ℕ) (ks : List Known) (seen : Memory) (x : Lazily S E) (y : Lazily T F) → P x y
      → P (test_facts end_one one n ks seen x) (test_facts end_other other n ks seen y)
  facts_related n [] seen x y h = h
  facts_related n (k ∷ ks) seen x y h =
      within_related n k (positions_of seen.known seen.events k) _ _ (facts_related (suc n) ks seen x y h)

  all_related : (x : Lazily S E) (y : Lazily T F) → P x y → P (test_all end_one one x) (test_all end_other other y)
  all_related x y h = same (λ m. test_facts end_one one 0 m.known m x) (λ m. test_facts end_other other 0 m.known m y)
      (λ m. facts_related 0 m.known m x y h)

  ends_related : (t : PvType) (a : ℕ) (zs : List ℤ) (x : Lazily S E) (y : Lazily T F) → P x y
      → P (name_ends end_one one t a zs x) (name_ends end_other other t a zs y)
  ends_related t a [] x y h = h
  ends_related t a (z ∷ zs) x y h = event_related _ _ _ (all_related _ _ (ends_related t a zs x y h))

  noticing_related : (e : Event) (x : Lazily S E) (y : Lazily T F) → P x y
      → P (lazy_event end_one one e x) (lazy_event end_other other e y)
  noticing_related (AtField c o f) x y h = event_related _ x y h
  noticing_related (AtToken t c o) x y h = event_related _ x y h
  noticing_related (AtLock c o) x y h = event_related _ x y h
  noticing_related (AtInstance c d o vs) x y h = event_related _ x y h
  noticing_related (AtArray t a ends) x y h = ends_related t a ends x y h
  noticing_related (AtArrayLength t a) x y h = event_related _ x y h

  first_related : (k : Known) (n : ℕ) (x : Lazily S E) (y : Lazily T F) → P x y
      → P (first_shown end_one one k n x) (first_shown end_other other k n y)
  first_related k zero x y h = h
  first_related k (suc n) x y h =
      test_at_related (testing end_one one) (testing end_other other) P r k k.low _ _
      (quieted_related true _ _ (test_from_related (testing end_one one) (testing end_other other) P r k (k.low +ℤ pos 1) n _ _
      (quieted_related false x y h)))

  parts_related : (ends : List ℤ) (ps : List ArrayPart) (x : Lazily S E) (y : Lazily T F) → P x y
      → P (part_events end_one one ends ps x) (part_events end_other other ends ps y)
  parts_related ends [] x y h = h
  parts_related ends (p ∷ ps) x y h = ends_related p.type p.array (shifted ends p.shift) _ _ (parts_related ends ps x y h)

  join_related : (k : Known) (x : Lazily S E) (y : Lazily T F) → P x y → P (join_fact k x) (join_fact k y)
  join_related k x y h = moved _ _ (λ m. refl) (λ m. refl) (λ m. refl) x y h

  known_related : (b : Bool) (k : Known) (x : Lazily S E) (y : Lazily T F) → P x y
      → P (known_if end_one one b k x) (known_if end_other other b k y)
  known_related true k x y h = first_related k (width k.low k.high) x y h
  known_related false k x y h = parts_related k.ends k.parts _ _ (join_related k _ _ (all_related x y h))

  pub lazy_related : AreRelated (lazy end_one one) (lazy end_other other) P
  lazy_related =
      otherwise (testing end_one one) (testing end_other other) P r _ _ _ _ noticing_related
      (λ k. known_related (reads_none k.parts) k)
