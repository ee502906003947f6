-- What a run looks at on its way lets it follow what it comes to.
use Rattle.std.proofs.Common.{◌≡◌, ◌⊎◌, inl, inr, ℕ, ℤ, pos, Bool, true, false, Option, Some, None, List, [], ◌∷◌, refl, sym, subst}
use Rattle.std.specs.Prelude.{nat_eq, int_le, if◌then◌else◌}
use Rattle.pv_base.specs.declared.Span.{Span}
use Rattle.pv_ast.specs.declared.PvType.{PvType}
use Rattle.pv_values.specs.declared.value.Value.{Value}
use Rattle.pv_values.specs.declared.value.Value.TheVariants as value
use Rattle.pv_picks.specs.declared.check.Check.{Check}
use Rattle.pv_picks.specs.declared.evidence.Pick.{Pick}
use Rattle.pv_picks.specs.declared.evidence.Pick.TheVariants.{Number}
use Rattle.pv_picks.specs.declared.evidence.Entry.{Entry}
use Rattle.pv_picks.specs.Plain.Core.{Expression, Manner, Operation}
use Rattle.pv_picks.specs.Plain.Core as core
use Rattle.pv_picks.specs.Formulas.Values.{number_in, truth_in, reference_in}
use Rattle.pv_picks.specs.Formulas.Evaluation.{Scene}
use Rattle.pv_picks.specs.Judge.States.{State, Resource, InField, InElement, Cell, Cells, with_length}
use Rattle.pv_picks.specs.Judge.Settings.{Next, known_or_picked, look_at_length, or_missing, operate}
use Rattle.pv_picks.specs.Judge.Runs.{End, Blocked, Judged, Maps, content, judging}
use Rattle.core_sharing.specs.Following.{Lengths, KnownLengths, AreLengths, AreAmong, with_lengths, Counting, IsReached, Follows, OrFails}
use Rattle.core_sharing.proofs.Following.{valued, more_among}

-- an end of what a run comes to, from a state that knows some more of these lengths, is one of the run's
pub record Arrives (Counts : Counting) (lengths : Lengths) (s : State) (goal run : Next Judged) : Type 0 where
  pub known : KnownLengths
  pub among : AreAmong known lengths
  pub ends : (end : End) (picks : List Pick) → Counts end (goal (with_lengths s known) picks)
      → (other : List Pick) × Counts end (run s other)

pub record Comes (Counts : Counting) (goal run : Next Judged) : Type 0 where
  pub to : (lengths : Lengths) → AreLengths lengths → (s : State) → AreAmong s.lengths lengths → Arrives Counts lengths s goal run

module _ (maps : Maps) (table : List Entry) (Counts : Counting) where
  -- whoever follows what a run comes to follows the run
  pub follows_on : (one goal run : Next Judged) → Follows Counts one goal → Comes Counts goal run → Follows Counts one run
  follows_on one goal run follows comes = record { from = λ s picks knows. kept s picks (follows.from s picks knows) }
    where
      kept : (s : State) (picks : List Pick)
          → (one s picks ≡ Blocked) ⊎ IsReached Counts s.lengths (one s picks) (λ known. goal (with_lengths s known))
          → (one s picks ≡ Blocked) ⊎ IsReached Counts s.lengths (one s picks) (λ known. run (with_lengths s known))
      kept s picks (inl blocked) = inl blocked
      kept s picks (inr r) = inr (record {
        lengths = r.lengths;
        are_lengths = r.are_lengths;
        among = r.among;
        reaches = λ known among.
            let a = comes.to r.lengths r.are_lengths (with_lengths s known) among in
            let x = r.reaches a.known a.among in a.ends (one s picks) x.0 x.1;
      })

  pub comes_itself : (goal : Next Judged) → Comes Counts goal goal
  comes_itself goal = record {
    to = λ lengths are s among. record {
      known = s.lengths;
      among = among;
      ends = λ end picks counts. (picks, counts);
    };
  }

  module _ (goal : Next Judged) where
    length_comes : (type : PvType) (array : ℕ) (k : ℤ → Next Judged) → ((n : ℤ) → Comes Counts goal (k n))
        → Comes Counts goal (look_at_length (judging maps table) type array k)
    length_comes type array k comes = record { to = λ lengths are s among. by lengths are s among (s.lengths type array) refl }
      where
        by : (lengths : Lengths) → AreLengths lengths → (s : State) → AreAmong s.lengths lengths → (o : Option ℤ)
            → s.lengths type array ≡ o
            → Arrives Counts lengths s goal (look_at_length (judging maps table) type array k)
        by lengths are s among (Some n) is =
            let a = (comes n).to lengths are s among in record {
              known = a.known;
              among = a.among;
              ends = λ end picks counts.
                  let x = a.ends end picks counts in
                  (x.0, subst (λ o. Counts end (known_or_picked (judging maps table) o type array k s x.0)) (sym is) x.1);
            }
        by lengths are s among None is =
            let n : ℤ = lengths type array in
            let a = (comes n).to lengths are (with_length s type array n)
            (more_among s.lengths type array n lengths refl among) in
            let is_length : int_le (pos 0) n ≡ true = are type array in record {
              known = a.known;
              among = a.among;
              ends = λ end picks counts.
                  let x = a.ends end picks counts in (
                    Number n ∷ x.0,
                    subst (λ o. Counts end (known_or_picked (judging maps table) o type array k s (Number n ∷ x.0))) (sym is)
                        (subst (λ b. Counts end
                        ((if b then k n (with_length s type array n) else (judging maps table).blocked) x.0))
                        (sym is_length) x.1),
                  );
            }

    unless_comes : (b : Bool) (x y : Next Judged) → Comes Counts goal x → Comes Counts goal y
        → Comes Counts goal (λ s. if b then x s else y s)
    unless_comes true x y h k = h
    unless_comes false x y h k = k

    choice_comes : (b : Bool) (x y : Next Judged) → Comes Counts goal x → Comes Counts goal y
        → Comes Counts goal (if b then x else y)
    choice_comes true x y h k = h
    choice_comes false x y h k = k

    cell_comes : (cells : State → Cells) (resource : Resource) (x : Next Judged) (k : Value → Next Judged) → Comes Counts goal x
        → ((v : Value) → Comes Counts goal (k v))
        → Comes Counts goal (λ s. or_missing (judging maps table) (cells s resource) (x s) k s)
    cell_comes cells resource x k h comes = record { to = λ lengths are s among. by lengths are s among (cells s resource) refl }
      where
        by : (lengths : Lengths) → AreLengths lengths → (s : State) → AreAmong s.lengths lengths → (o : Option Cell)
            → cells s resource ≡ o
            → Arrives Counts lengths s goal (λ s. or_missing (judging maps table) (cells s resource) (x s) k s)
        by lengths are s among None is =
            let a = h.to lengths are s among in record {
              known = a.known;
              among = a.among;
              ends = λ end picks counts.
                  let y = a.ends end picks counts in
                  (y.0, subst (λ o. Counts end (or_missing (judging maps table) o (x s) k s y.0)) (sym is) y.1);
            }
        by lengths are s among (Some c) is =
            let a = (comes (content maps c)).to lengths are s among in record {
              known = a.known;
              among = a.among;
              ends = λ end picks counts.
                  let y = a.ends end picks counts in
                  (y.0, subst (λ o. Counts end (or_missing (judging maps table) o (x s) k s y.0)) (sym is) y.1);
            }

    operation_comes : (manner : Manner) (o : Operation) (a b : ℤ) (span : Span) (k : ℤ → Next Judged)
        → ((z : ℤ) → Comes Counts goal (k z)) → Comes Counts goal (operate (judging maps table) manner o a b span k)
    operation_comes core.Plain o a b span k comes = comes _
    operation_comes core.Tabled o a b span k comes = comes _

    pub value_comes : (now old : State → Cells) (scene : Scene) (m : Span → Next Judged)
        → ((span : Span) → Comes Counts goal (m span))
        → (e : Expression) (k : Value → Next Judged) → ((v : Value) → Comes Counts goal (k v))
        → Comes Counts goal (valued maps table m now old scene e k)
    value_comes now old scene m stops (core.Constant v) k comes = comes v
    value_comes now old scene m stops core.This k comes = comes _
    value_comes now old scene m stops core.Result k comes = comes _
    value_comes now old scene m stops (core.Variable name) k comes = comes _
    value_comes now old scene m stops (core.Field e class field span) k comes =
        value_comes now old scene m stops e _ (λ v.
        cell_comes now (InField class (reference_in v) field) (m span) k (stops span) comes)
    value_comes now old scene m stops (core.Element type x i span) k comes =
        value_comes now old scene m stops x _ (λ a. value_comes now old scene m stops i _ (λ v.
        cell_comes now (InElement type (reference_in a) (number_in v)) (m span) k (stops span) comes))
    value_comes now old scene m stops (core.Length type x span) k comes =
        value_comes now old scene m stops x _ (λ a.
        unless_comes (nat_eq (reference_in a) 0) (m span)
        (look_at_length (judging maps table) type (reference_in a) (λ z. k (value.Number z))) (stops span)
        (length_comes type (reference_in a) _ (λ z. comes (value.Number z))))
    value_comes now old scene m stops (core.Not e) k comes = value_comes now old scene m stops e _ (λ v. comes _)
    value_comes now old scene m stops (core.Compute manner operation x y span) k comes =
        value_comes now old scene m stops x _ (λ a. value_comes now old scene m stops y _ (λ b.
        operation_comes manner operation (number_in a) (number_in b) span _ (λ z. comes (value.Number z))))
    value_comes now old scene m stops (core.Compare c x y) k comes =
        value_comes now old scene m stops x _ (λ a. value_comes now old scene m stops y _ (λ b. comes _))
    value_comes now old scene m stops (core.Equal b x y) k comes =
        value_comes now old scene m stops x _ (λ a. value_comes now old scene m stops y _ (λ b. comes _))
    value_comes now old scene m stops (core.And x y) k comes =
        value_comes now old scene m stops x _ (λ a.
        choice_comes (truth_in a) _ _ (value_comes now old scene m stops y k comes) (comes _))
    value_comes now old scene m stops (core.Or x y) k comes =
        value_comes now old scene m stops x _ (λ a.
        choice_comes (truth_in a) _ _ (comes _) (value_comes now old scene m stops y k comes))
    value_comes now old scene m stops (core.Implies x y) k comes =
        value_comes now old scene m stops x _ (λ a.
        choice_comes (truth_in a) _ _ (value_comes now old scene m stops y k comes) (comes _))
    value_comes now old scene m stops (core.Old e) k comes = value_comes old old scene m stops e k comes

-- a run that fails counts as whatever it was to come to
pub failing_comes : (maps : Maps) (table : List Entry) (goal : Next Judged) (named : Check) (span : Span)
    → Comes OrFails goal (λ s. (judging maps table).failed named span)
failing_comes maps table goal named span = record {
  to = λ lengths are s among. record {
    known = s.lengths;
    among = among;
    ends = λ end picks counts. ([], inr (named, span, refl));
  };
}
