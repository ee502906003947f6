-- At a position the inhale of items and that of the formula that is made like them follow each other, and come to the same ends.
use Rattle.std.proofs.Common.{◌≡◌, ◌⊎◌, inl, inr, ℤ, List, refl, sym, ◌∙◌, subst}
use Rattle.pv_base.specs.declared.Name.{Name}
use Rattle.pv_ast.specs.declared.Program.{Program}
use Rattle.pv_picks.specs.declared.evidence.Entry.{Entry}
use Rattle.pv_picks.specs.Plain.Core.{Shared, Formula, Items}
use Rattle.pv_picks.specs.Formulas.Evaluation.{Scene}
use Rattle.pv_picks.specs.Judge.States.{State, Cells}
use Rattle.pv_picks.specs.Judge.Runs.{End, Finished, Blocked, Maps}
use Rattle.pv_ast.specs.Rules.WellFormed.{IsWellFormed}
use Rattle.pv_picks.specs.Elaborating.Programs.{core_of}
use Rattle.core_trees.specs.Positions.{ConfinedShared}
use Rattle.core_trees.proofs.ConfiningWhole.{program_confined}
use Rattle.core_sharing.specs.Following.{KnowsLengths, AreAmong}
use Rattle.core_sharing.specs.Renumbering.{Run, end_on, StatesAreAlike, IsMet, Meets, StartsAlike}
use Rattle.core_sharing.specs.Inhaled.{AreInhaledAlike, InhalesAlike, SharedIsInhaledAlike, FormsAreInhaledAlike, InhalesAgain, nothing_next, ComesTo, InhalesEndAlike, SharedEndsAlike, FormsEndAlike}
use Rattle.core_sharing.proofs.Meets.{Meet, reads, ended}
use Rattle.core_sharing.proofs.Gains.{flip, token_meets}
use Rattle.core_sharing.proofs.OneElement.{element_first, element_back}
use Rattle.core_sharing.proofs.OneFact.{fact_first, repeated_first}
use Rattle.core_sharing.proofs.Inhaling.{inhale_meets}
use Rattle.core_sharing.proofs.InhalingAtPosition.{IsKept, items_related}
use Rattle.core_sharing.proofs.Making.{SharedIsMade}
use Rattle.core_sharing.proofs.Programs.{program_made}
use Rattle.core_sharing.proofs.Keeping.{BothSaid, each_follows, each_confined}

pub starts_alike : StartsAlike
starts_alike = λ taken taken'. record {
  held = λ r. record {
    amount = refl;
    content = λ m m' on on'. refl;
    nothing = λ none. refl;
    other_nothing = λ none. refl;
  };
  old = record { content = λ m m' on on' r. refl };
  read = record { content = λ m m' on on' r. refl };
  instances = refl;
  committed = refl;
  met = refl;
  this = refl;
  variables = refl;
  result = refl;
}

pub inhales_again : InhalesAgain
inhales_again = λ table scene before before' formula one other confined h.
    inhale_meets table before before' scene formula one other confined h

module _ (table : List Entry) (before before' : Cells) where
  forth : IsKept table before before' (Meet table before before')
  forth = record {
    reads = reads table before before';
    gains = λ type array low high k amount ends one other c d is h.
        element_first type array low high k amount c d table before before' is ends one other h;
    adds = token_meets table before before';
    inhales = inhale_meets table before before';
    marks = λ scene name e r i one other single terms h.
        fact_first table before before' scene name e r i single terms one other h;
  }

  abbrev Back : Run → Run → Type 0
  Back one other = Meet table before' before other one

  back : IsKept table before before' Back
  back = record {
    reads = λ scene e k l h. reads table before' before scene e l k h;
    gains = λ type array low high k amount ends one other c d is h.
        element_back type array low high k amount c d table before' before is ends other one h;
    adds = λ kind class object one other h. token_meets table before' before kind class object other one h;
    inhales = λ scene formula one other confined h. inhale_meets table before' before scene formula other one confined h;
    marks = λ scene name e r i one other single terms h.
        repeated_first table before' before scene name e r i single terms other one h;
  }

pub inhales_alike : InhalesAlike
inhales_alike = λ table scene before before' name position formula items same confined of numbers. record {
  formula_first = λ one other h.
      items_related table before before' (Meet table before before') (forth table before before') scene name position
      same confined of numbers one other h;
  items_first = λ one other h.
      items_related table before before' (Back table before before') (back table before before') scene name position
      same confined of numbers other one h;
}

shared_is_inhaled_alike : (name : Name) (s : Shared) → SharedIsMade name s × ConfinedShared name s → SharedIsInhaledAlike name s
shared_is_inhaled_alike name s h = λ table scene before before' position. (
  λ numbers. inhales_alike table scene before before' name position s.one.before s.each_before h.0.0.0 h.1.1 h.0.0.1 numbers,
  λ numbers. inhales_alike table scene before before' name position s.one.after s.each_after h.0.1.0 h.1.2 h.0.1.1 numbers,
)

pub program_inhales : (p : Program) → IsWellFormed p → FormsAreInhaledAlike (core_of p)
program_inhales p well =
    each_follows (BothSaid SharedIsMade) SharedIsInhaledAlike shared_is_inhaled_alike (core_of p)
    (each_confined SharedIsMade (core_of p) (program_made p well) (program_confined p well))

-- Ends

nothing_meets : (table : List Entry) (before before' : Cells) → Meets before before' (nothing_next table) (nothing_next table)
nothing_meets table before before' =
    record { from = λ taken s picks knows. inr (ended table before before' taken s Finished knows) }

comes_to : (before before' : Cells) (one other : Run) → Meets before before' one other
    → (taken : Maps) (s : State) (taken' : Maps)
    (s' : State) (end : End) → StatesAreAlike before before' taken s taken' s' → s.lengths ≡ s'.lengths → KnowsLengths s.lengths
    → (end ≡ Blocked → ⊥) → ComesTo one taken s end → ComesTo other taken' s' end
comes_to before before' one other meets taken s taken' s' end alike same knows goes can = by (meets.from taken s can.0 knows)
  where
    by : (end_on one taken s can.0 ≡ Blocked) ⊎ IsMet before before' taken s (end_on one taken s can.0) other
        → ComesTo other taken' s' end
    by (inl blocked) = absurd (goes (sym can.1 ∙ blocked))
    by (inr r) =
        let x = r.meets taken' s' alike (subst (λ known. AreAmong known r.lengths) same r.among) in (x.0, x.1 ∙ can.1)

end_alike : (table : List Entry) (scene : Scene) (before before' : Cells) (name : Name) (position : ℤ) (formula : Formula)
    (items : Items) → AreInhaledAlike table scene before before' name position formula items
    → InhalesEndAlike table scene before before' name position formula items
end_alike table scene before before' name position formula items alike = record {
  forth = λ taken s taken' s' end a same knows goes can.
      comes_to before before' _ _
      (alike.formula_first (nothing_next table) (nothing_next table) (nothing_meets table before before'))
      taken s taken' s' end a same knows goes can;
  back = λ taken s taken' s' end a same knows goes can.
      comes_to before' before _ _
      (alike.items_first (nothing_next table) (nothing_next table) (nothing_meets table before' before))
      taken' s' taken s end (flip before before' taken s taken' s' a) (sym same) (subst KnowsLengths same knows) goes can;
}

shared_ends_alike : (name : Name) (s : Shared) → SharedIsInhaledAlike name s → SharedEndsAlike name s
shared_ends_alike name s alike = λ table scene before before' position. (
  λ numbers. end_alike table scene before before' name position s.one.before s.each_before
      ((alike table scene before before' position).0 numbers),
  λ numbers. end_alike table scene before before' name position s.one.after s.each_after
      ((alike table scene before before' position).1 numbers),
)

pub program_ends : (p : Program) → IsWellFormed p → FormsEndAlike (core_of p)
program_ends p well =
    each_follows SharedIsInhaledAlike SharedEndsAlike shared_ends_alike (core_of p) (program_inhales p well)
