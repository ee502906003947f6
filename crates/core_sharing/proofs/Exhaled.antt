-- At a position the exhale of items and that of the formula that is made like them follow each other.
use Rattle.std.proofs.Common.{◌≡◌, inl, ℤ, pos, ◌+ℤ◌, Bool, true, false, List, [], ◌∷◌, refl, sym, subst}
use Rattle.std.proofs.Math.Path.{fun_ext}
use Rattle.std.specs.Prelude.{if◌then◌else◌}
use Rattle.pv_base.specs.declared.Name.{Name}
use Rattle.pv_base.specs.declared.Span.{Span}
use Rattle.pv_picks.specs.declared.evidence.Pick.TheVariants.{Number}
use Rattle.pv_picks.specs.declared.evidence.Entry.{Entry}
use Rattle.pv_picks.specs.Plain.Core.{Shared, Expression, Formula, Items}
use Rattle.pv_picks.specs.Plain.Core as core
use Rattle.pv_picks.specs.Formulas.Values.{truth_in, within}
use Rattle.pv_picks.specs.Judge.Settings.{Next, ArrayPart, no_frame}
use Rattle.pv_picks.specs.Judge.Repetitions.{Look, AtElements, AtElement, AtLength, AtTerm, Range, looks_of, arrays_read, notice_parts}
use Rattle.pv_picks.specs.Judge.Exhaling.{Giving, span_or, from_at, exhale_at_mark, exhale_repeated, exhale}
use Rattle.pv_picks.specs.declared.check.Check.TheVariants as check
use Rattle.pv_picks.specs.Judge.Runs.{End, Judged, Maps, judging}
use Rattle.core_sharing.specs.Following.{Follows, AsItEnds, OrFails}
use Rattle.core_trees.specs.Positions.{ConfinedShared}
use Rattle.core_sharing.specs.Forms.{SameShared}
use Rattle.core_sharing.specs.Exhaled.{ExhalesAlike, SharedIsExhaledAlike}
use Rattle.core_sharing.proofs.Following.{value_ahead, pick_ahead}
use Rattle.core_sharing.proofs.Giving.{parts_noticed, from_follows, give_follows, take_token_follows, exhale_follows}
use Rattle.core_sharing.proofs.OnePosition.{IsOne, one_is, one_within}
use Rattle.core_sharing.proofs.AtPosition.{IsKept, items_related}
use Rattle.core_sharing.proofs.Coming.{Comes, follows_on, comes_itself, value_comes, failing_comes}

module _ (maps : Maps) (table : List Entry) where
  same_end : (end : End) → AsItEnds end end
  same_end end = refl

  or_same : (end : End) → OrFails end end
  or_same end = inl refl

  -- The formula first

  arrays_come : (f : Giving) (goal : Next Judged) (looks : List Look) (k : List ArrayPart → Next Judged)
      → ((parts : List ArrayPart) → Comes AsItEnds goal (k parts))
      → Comes AsItEnds goal (arrays_read (judging maps table) (λ s. f.before) f.bind looks k)
  arrays_come f goal [] k comes = comes []
  arrays_come f goal (AtElements type array shift ∷ looks) k comes =
      value_comes maps table AsItEnds goal (λ s. f.before) (λ s. f.bind.old) f.bind.scene
      (λ span. arrays_read (judging maps table) (λ s. f.before) f.bind looks k) (λ span. arrays_come f goal looks k comes) array _
      (λ a. arrays_come f goal looks _ (λ parts. comes _))
  arrays_come f goal (AtElement was type array index ∷ looks) k comes = arrays_come f goal looks k comes
  arrays_come f goal (AtLength type array ∷ looks) k comes = arrays_come f goal looks k comes
  arrays_come f goal (AtTerm e ∷ looks) k comes = arrays_come f goal looks k comes

  -- the test at the position, behind its mark
  mark_comes : (f : Giving) (name : Name) (e : Expression) (span : Span) (r : Range) (i : ℤ) (other : Next Judged) → IsOne r i
      → Comes AsItEnds (exhale (judging maps table) (from_at f name i) (core.Fact e span) other)
      (exhale_at_mark (judging maps table) f name e span r i other)
  mark_comes f name e span r i other one =
      subst
      (λ b. Comes AsItEnds goal (λ s. if b then looked s else other s)) (sym (one_within r i one))
      (arrays_come f goal (looks_of name e) _ (λ parts.
      subst (λ (z : Next Judged). Comes AsItEnds goal z)
      (sym (fun_ext (λ s. parts_noticed maps table parts (i ∷ (i +ℤ pos 1) ∷ r.bounds) (goal s))))
      (comes_itself maps table AsItEnds goal)))
    where
      goal : Next Judged
      goal = exhale (judging maps table) (from_at f name i) (core.Fact e span) other

      looked : Next Judged
      looked = arrays_read (judging maps table) (λ s. f.before) f.bind (looks_of name e)
          (λ parts later. notice_parts (judging maps table) parts (i ∷ (i +ℤ pos 1) ∷ r.bounds) (goal later))

  repeated_comes : (f : Giving) (name : Name) (e : Expression) (span : Span) (r : Range) (i : ℤ) (other : Next Judged) → IsOne r i
      → Comes AsItEnds (exhale (judging maps table) (from_at f name i) (core.Fact e span) other)
      (exhale_repeated (judging maps table) f name e span r other)
  repeated_comes f name e span r i other one = record {
    to = λ lengths are s among.
        let a = (mark_comes f name e span r i other one).to lengths are s among in record {
          known = a.known;
          among = a.among;
          ends = λ end picks counts. let x = a.ends end picks counts in (Number i ∷ x.0, x.1);
        };
  }

  forth : IsKept maps table (Follows AsItEnds)
  forth = record {
    reads = from_follows maps table AsItEnds same_end;
    gives = give_follows maps table AsItEnds same_end;
    takes = take_token_follows maps table AsItEnds same_end;
    exhales = exhale_follows maps table AsItEnds same_end;
    marks = λ f name e span r i one other single h.
        follows_on maps table AsItEnds _ _ _
        (exhale_follows maps table AsItEnds same_end (from_at f name i) (core.Fact e span) one other h)
        (repeated_comes f name e span r i other single);
  }

  -- The items first

  abbrev Back : Next Judged → Next Judged → Type 0
  Back one other = Follows OrFails other one

  -- what is looked at before makes no difference
  arrays_follow : (f : Giving) (other : Next Judged) (looks : List Look) (k : List ArrayPart → Next Judged)
      → ((parts : List ArrayPart) → Follows OrFails (k parts) other)
      → Follows OrFails (arrays_read (judging maps table) (λ s. f.before) f.bind looks k) other
  arrays_follow f other [] k follows = follows []
  arrays_follow f other (AtElements type array shift ∷ looks) k follows =
      value_ahead maps table OrFails or_same (λ s. f.before) (λ s. f.bind.old) f.bind.scene other
      (λ span. arrays_read (judging maps table) (λ s. f.before) f.bind looks k)
      (λ span. arrays_follow f other looks k follows) array _
      (λ a. arrays_follow f other looks _ (λ parts. follows _))
  arrays_follow f other (AtElement was type array index ∷ looks) k follows = arrays_follow f other looks k follows
  arrays_follow f other (AtLength type array ∷ looks) k follows = arrays_follow f other looks k follows
  arrays_follow f other (AtTerm e ∷ looks) k follows = arrays_follow f other looks k follows

  -- a condition goes on or fails
  fact_comes : (f : Giving) (e : Expression) (span : Span) (one : Next Judged)
      → Comes OrFails one (exhale (judging maps table) f (core.Fact e span) one)
  fact_comes f e span one =
      value_comes maps table OrFails one (λ s. f.before) (λ s. f.bind.old) f.bind.scene (no_frame (judging maps table))
      (λ missing. failing_comes maps table one check.Frame missing) e _ (λ v. by (truth_in v))
    where
      by : (b : Bool)
          → Comes OrFails one (λ s. if b then one s else (judging maps table).failed f.check (span_or f.statement span))
      by true = comes_itself maps table OrFails one
      by false = failing_comes maps table one f.check (span_or f.statement span)

  mark_follows : (f : Giving) (name : Name) (e : Expression) (span : Span) (r : Range) (i mark : ℤ) (one other : Next Judged)
      → IsOne r i → Back one other
      → Follows OrFails (exhale_at_mark (judging maps table) f name e span r mark other)
      (exhale (judging maps table) (from_at f name i) (core.Fact e span) one)
  mark_follows f name e span r i mark one other single h = by (within r.low r.high mark) refl
    where
      goal : Next Judged
      goal = exhale (judging maps table) (from_at f name i) (core.Fact e span) one

      tested : ℤ → Next Judged
      tested z = exhale (judging maps table) (from_at f name z) (core.Fact e span) other

      looked : Next Judged
      looked = arrays_read (judging maps table) (λ s. f.before) f.bind (looks_of name e)
          (λ parts later. notice_parts (judging maps table) parts (mark ∷ (mark +ℤ pos 1) ∷ r.bounds) (tested mark later))

      by : (b : Bool) → within r.low r.high mark ≡ b
          → Follows OrFails (λ s. if b then looked s else other s)
          (exhale (judging maps table) (from_at f name i) (core.Fact e span) one)
      by false is =
          follows_on maps table OrFails other one (exhale (judging maps table) (from_at f name i) (core.Fact e span) one) h
          (fact_comes (from_at f name i) e span one)
      by true is =
          let same : mark ≡ i = one_is r i mark single is in
          arrays_follow f (exhale (judging maps table) (from_at f name i) (core.Fact e span) one) (looks_of name e) _ (λ parts.
          subst (λ (z : Next Judged). Follows OrFails z (exhale (judging maps table) (from_at f name i) (core.Fact e span) one))
          (sym (fun_ext (λ s. parts_noticed maps table parts (mark ∷ (mark +ℤ pos 1) ∷ r.bounds) (tested mark s))))
          (subst
          (λ z. Follows OrFails (exhale (judging maps table) (from_at f name z) (core.Fact e span) other)
          (exhale (judging maps table) (from_at f name i) (core.Fact e span) one)) (sym same)
          (exhale_follows maps table OrFails or_same (from_at f name i) (core.Fact e span) other one h)))

  back : IsKept maps table Back
  back = record {
    reads = λ f e k l h. from_follows maps table OrFails or_same f e l k h;
    gives =
        λ resource amount named span one other h. give_follows maps table OrFails or_same resource amount named span other one h;
    takes = λ kind class object named span one other h.
        take_token_follows maps table OrFails or_same kind class object named span other one h;
    exhales = λ f formula one other h. exhale_follows maps table OrFails or_same f formula other one h;
    marks = λ f name e span r i one other single h.
        pick_ahead maps table OrFails or_same (λ mark. exhale_at_mark (judging maps table) f name e span r mark other)
        (exhale (judging maps table) (from_at f name i) (core.Fact e span) one)
        (λ mark. mark_follows f name e span r i mark one other single h);
  }

pub exhales_alike : ExhalesAlike
exhales_alike = λ maps table f name position formula items same confined numbers. record {
  formula_first = λ one other h.
      items_related maps table (Follows AsItEnds) (forth maps table) f name position same confined numbers one other h;
  items_first = λ one other h.
      items_related maps table (Back maps table) (back maps table) f name position same confined numbers other one h;
}

pub shared_is_exhaled_alike : (name : Name) (s : Shared) → SameShared name s × ConfinedShared name s → SharedIsExhaledAlike name s
shared_is_exhaled_alike name s h = λ maps table f position. (
  λ numbers. exhales_alike maps table f name position s.one.before s.each_before h.0.0 h.1.1 numbers,
  λ numbers. exhales_alike maps table f name position s.one.after s.each_after h.0.1 h.1.2 numbers,
)
