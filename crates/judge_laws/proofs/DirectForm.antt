-- Inhaling and exhaling with what comes next, by the run in one go.
use Rattle.std.proofs.Common.{◌≡◌, ℕ, ℤ, Bool, true, false, if◌then◌else◌, List, [], ◌∷◌, refl}
use Rattle.std.specs.Prelude.{nat_lt}
use Rattle.pv_ast.specs.declared.PvType.{PvType}
use Rattle.pv_ast.specs.declared.PvType.TheVariants.{Int}
use Rattle.pv_picks.specs.declared.evidence.Pick.{Pick}
use Rattle.pv_picks.specs.declared.evidence.Pick.TheVariants.{Number, Turn, Steps}
use Rattle.pv_picks.specs.declared.evidence.Entry.{Entry}
use Rattle.pv_picks.specs.Judge.Settings.{Next}
use Rattle.pv_picks.specs.Formulas.Values.{width}
use Rattle.pv_picks.specs.Judge.Runs.{End, Judged, Maps, judging, judging_tests}
use Rattle.judge_laws.specs.Related.{AreRelated}
use Rattle.judge_laws.specs.Direct.{Gone, Goes, Directly, direct_tests, directly, then_next}
use Rattle.judge_laws.specs.Statements.{InhalesDirectly, ExhalesDirectly}
use Rattle.judge_laws.proofs.Taking.{throughout, otherwise, test_from_related}
use Rattle.judge_laws.proofs.Formulas.{inhale_related, exhale_related}

-- a rest with what comes next, and the same in one go
abbrev Continues : Next Judged → Judged → Directly → Type 0
Continues next one other = (picks : List Pick) → one picks ≡ then_next (other picks) next

by_turn : (next : Next Judged) (b : Bool) (x u : End) (y w : Gone) → x ≡ then_next y next → u ≡ then_next w next
    → (if b then x else u) ≡ then_next (if b then y else w) next
by_turn next true x u y w p q = p
by_turn next false x u y w p q = q

tests_continue : (maps : Maps) (table : List Entry) (next : Next Judged)
    → AreRelated (judging_tests maps table) (direct_tests maps table) (Continues next)
tests_continue maps table next = throughout _ _ _ (record {
  finished = λ picks. refl;
  blocked = λ picks. refl;
  failed = λ check span picks. refl;
  unfit = λ picks. refl;
  pick = λ t. picks_continue;
  turn = turns_continue;
  steps = λ n t a. steps_continue n t a;
  using = λ o a b f g h. h _;
  comparing = λ a b x y h. h;
  matching = λ v w x y h. h;
  deciding = λ b x y h. h;
  noticing = λ e x y h. h;
  reading = λ c f g h. h _;
  knowing = λ k x y h. h;
})
  where
    picks_continue : (f : ℤ → Judged) (g : ℤ → Directly) → ((z : ℤ) → Continues next (f z) (g z))
        → Continues next ((judging maps table).pick Int f) ((directly maps table).pick Int g)
    picks_continue f g h [] = refl
    picks_continue f g h (Number z ∷ picks) = h z picks
    picks_continue f g h (Turn n ∷ picks) = refl
    picks_continue f g h (Steps m ∷ picks) = refl

    turns_continue : (f : ℕ → Judged) (g : ℕ → Directly) → ((n : ℕ) → Continues next (f n) (g n))
        → Continues next ((judging maps table).turn f) ((directly maps table).turn g)
    turns_continue f g h [] = refl
    turns_continue f g h (Number z ∷ picks) = refl
    turns_continue f g h (Turn n ∷ picks) = by_turn next (nat_lt n 3) _ _ _ _ (h n picks) refl
    turns_continue f g h (Steps m ∷ picks) = refl

    steps_continue : (number : ℕ) (type : PvType) (array : ℕ) (f : Judged) (g : Directly) → Continues next f g
        → Continues next ((judging maps table).steps number type array f) ((directly maps table).steps number type array g)
    steps_continue number type array f g h [] = refl
    steps_continue number type array f g h (Number z ∷ picks) = refl
    steps_continue number type array f g h (Turn n ∷ picks) = refl
    steps_continue number type array f g h (Steps m ∷ picks) = h picks

continues : (maps : Maps) (table : List Entry) (next : Next Judged)
    → AreRelated (judging maps table) (directly maps table) (Continues next)
continues maps table next =
    otherwise (judging_tests maps table) (direct_tests maps table) (Continues next) (tests_continue maps table next) _ _ _ _
    (λ e x y h. h) (λ k x y h. test_from_related (judging_tests maps table) (direct_tests maps table) (Continues next)
    (tests_continue maps table next) k k.low (width k.low k.high) x y h)

pub inhales_directly : InhalesDirectly
inhales_directly maps table bind formula next state picks =
    inhale_related (judging maps table) (directly maps table) (Continues next) (continues maps table next) bind formula next
    (λ s ps. Goes s ps) (λ s ps. refl) state picks

pub exhales_directly : ExhalesDirectly
exhales_directly maps table giving formula next state picks =
    exhale_related (judging maps table) (directly maps table) (Continues next) (continues maps table next) giving formula next
    (λ s ps. Goes s ps) (λ s ps. refl) state picks
