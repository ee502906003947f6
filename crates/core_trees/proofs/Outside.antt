-- What is read without a position is resolved without it: a term for the position that is resolved with it in scope.
use Rattle.std.proofs.Common.{◌≡◌, ℤ, Bool, true, false, ◌||◌, Option, Some, None, List, [], ◌∷◌, ◌++◌, refl, sym}
use Rattle.std.proofs.lemmas.Bool.{or_parts, both_ways, eqb-true, eq-eqb}
use Rattle.std.specs.Prelude.{if◌then◌else◌}
use Rattle.std.specs.List.{list_any, AllByRecursion}
use Rattle.pv_base.specs.declared.Name.{Name}
use Rattle.pv_ast.specs.declared.PvType.{PvType}
use Rattle.pv_base.specs.Names.{same_name}
use Rattle.pv_picks.specs.Plain.Core.{Program, Expression, Cut}
use Rattle.pv_picks.specs.Plain.Core as core
use Rattle.pv_picks.specs.Judge.Repetitions.{Look, AtElements, AtElement, AtLength, AtTerm, is_position, in_state, looks_in, looks_of, look_at_element, shift_in}
use Rattle.core_trees.specs.Resolved.{Resolved, ResolvedCut}
use Rattle.pv_picks.specs.Judge.Steady.{IsTerm, IsTermLook}
use Rattle.core_trees.specs.Positions.{IsTermCut}

turned : (m n : Name) → same_name m n ≡ true → same_name n m ≡ true
turned m n h = eq-eqb n.0 m.0 (sym (eqb-true m.0 n.0 h))

among_rest : (m n : Name) (b : Bool) (rest : Bool) → same_name m n ≡ b → same_name n m ≡ false → (b || rest) ≡ true → rest ≡ true
among_rest m n true rest is not_it h = absurd (both_ways (same_name n m) not_it (turned m n is))
among_rest m n false rest is not_it h = h

pub outside : (p : Program) (names : List Name) (name : Name) (e : Expression) → IsTerm name e → Resolved p (name ∷ names) e
    → Resolved p names e
outside p names name (core.Constant v) t h = tt
outside p names name core.This t h = tt
outside p names name core.Result t h = tt
outside p names name (core.Variable other) t h =
    among_rest other name (same_name other name) (list_any (same_name other) names) refl t h
outside p names name (core.Field e class field span) t h = (outside p names name e t h.0, h.1)
outside p names name (core.Element type e i span) t h =
    let two = or_parts _ _ t in (outside p names name e two.0 h.0, outside p names name i two.1 h.1)
outside p names name (core.Length type e span) t h = outside p names name e t h
outside p names name (core.Not e) t h = outside p names name e t h
outside p names name (core.Compute manner o x y span) t h =
    let two = or_parts _ _ t in (outside p names name x two.0 h.0, outside p names name y two.1 h.1)
outside p names name (core.Compare c x y) t h =
    let two = or_parts _ _ t in (outside p names name x two.0 h.0, outside p names name y two.1 h.1)
outside p names name (core.Equal same x y) t h =
    let two = or_parts _ _ t in (outside p names name x two.0 h.0, outside p names name y two.1 h.1)
outside p names name (core.And x y) t h =
    let two = or_parts _ _ t in (outside p names name x two.0 h.0, outside p names name y two.1 h.1)
outside p names name (core.Or x y) t h =
    let two = or_parts _ _ t in (outside p names name x two.0 h.0, outside p names name y two.1 h.1)
outside p names name (core.Implies x y) t h =
    let two = or_parts _ _ t in (outside p names name x two.0 h.0, outside p names name y two.1 h.1)
outside p names name (core.Old e) t h = outside p names name e t h

cut_outside : (p : Program) (names : List Name) (name : Name) (c : Cut) → IsTermCut name c → ResolvedCut p (name ∷ names) c
    → ResolvedCut p names c
cut_outside p names name (core.Below e) t h = outside p names name e t h
cut_outside p names name (core.UpTo e) t h = outside p names name e t h
cut_outside p names name (core.Above e) t h = outside p names name e t h
cut_outside p names name (core.From e) t h = outside p names name e t h
cut_outside p names name (core.Provided e) t h = outside p names name e t h

pub cuts_outside : (p : Program) (names : List Name) (name : Name) (cs : List Cut) → AllByRecursion (IsTermCut name) cs
    → AllByRecursion (ResolvedCut p (name ∷ names)) cs → AllByRecursion (ResolvedCut p names) cs
cuts_outside p names name [] t h = tt
cuts_outside p names name (c ∷ cs) t h = (cut_outside p names name c t.0 h.0, cuts_outside p names name cs t.1 h.1)

-- What is looked at before a condition is repeated

abbrev pub ResolvedLook : Program → List Name → Look → Type 0
ResolvedLook p names (AtElements type array shift) = Resolved p names array
ResolvedLook p names (AtElement was type array index) = Resolved p names array × Resolved p names index
ResolvedLook p names (AtLength type array) = Resolved p names array
ResolvedLook p names (AtTerm e) = Resolved p names e

abbrev pub ResolvedLooks : Program → List Name → List Look → Type 0
ResolvedLooks p names looks = AllByRecursion (ResolvedLook p names) looks

look_outside : (p : Program) (names : List Name) (name : Name) (l : Look) → IsTermLook name l → ResolvedLook p (name ∷ names) l
    → ResolvedLook p names l
look_outside p names name (AtElements type array shift) t h = outside p names name array t h
look_outside p names name (AtElement was type array index) t h =
    (outside p names name array t.0 h.0, outside p names name index t.1 h.1)
look_outside p names name (AtLength type array) t h = outside p names name array t h
look_outside p names name (AtTerm e) t h = outside p names name e t h

looks_outside : (p : Program) (names : List Name) (name : Name) (ls : List Look) → AllByRecursion (IsTermLook name) ls
    → ResolvedLooks p (name ∷ names) ls → ResolvedLooks p names ls
looks_outside p names name [] t h = tt
looks_outside p names name (l ∷ ls) t h = (look_outside p names name l t.0 h.0, looks_outside p names name ls t.1 h.1)

looks_append : (p : Program) (names : List Name) (first second : List Look) → ResolvedLooks p names first
    → ResolvedLooks p names second → ResolvedLooks p names (first ++ second)
looks_append p names [] second h k = k
looks_append p names (l ∷ first) second h k = (h.0, looks_append p names first second h.1 k)

state_resolved : (p : Program) (names : List Name) (old : Bool) (e : Expression) → Resolved p names e
    → Resolved p names (in_state old e)
state_resolved p names true e h = h
state_resolved p names false e h = h

element_resolved : (p : Program) (names : List Name) (o : Option ℤ) (old : Bool) (type : PvType) (x y : Expression)
    → Resolved p names x → Resolved p names y → ResolvedLook p names (look_at_element o old type x y)
element_resolved p names None old type x y h k = (state_resolved p names old x h, state_resolved p names old y k)
element_resolved p names (Some shift) old type x y h k = state_resolved p names old x h

pair_resolved : (p : Program) (names : List Name) (old a b : Bool) (x y : Expression) → Resolved p names x → Resolved p names y
    → ResolvedLooks p names (if a then AtTerm (in_state old y) ∷ [] else if b then AtTerm (in_state old x) ∷ [] else [])
pair_resolved p names old true b x y h k = (state_resolved p names old y k, tt)
pair_resolved p names old false true x y h k = (state_resolved p names old x h, tt)
pair_resolved p names old false false x y h k = tt

two_resolved : (p : Program) (names : List Name) (first second : List Look) → ResolvedLooks p names first
    × ResolvedLooks p names second → ResolvedLooks p names (first ++ second)
two_resolved p names first second h = looks_append p names first second h.0 h.1

looks_resolved : (p : Program) (names : List Name) (name : Name) (old : Bool) (e : Expression) → Resolved p names e
    → ResolvedLooks p names (looks_in name old e)
looks_resolved p names name old (core.Constant v) h = tt
looks_resolved p names name old core.This h = tt
looks_resolved p names name old core.Result h = tt
looks_resolved p names name old (core.Variable x) h = tt
looks_resolved p names name old (core.Field e class field span) h = looks_resolved p names name old e h.0
looks_resolved p names name old (core.Element type x y span) h =
    two_resolved p names (looks_in name old x) _ (
      looks_resolved p names name old x h.0,
      two_resolved p names (looks_in name old y) _ (
        looks_resolved p names name old y h.1,
        (element_resolved p names (shift_in name y) old type x y h.0 h.1, tt),
      ),
    )
looks_resolved p names name old (core.Length type e span) h =
    two_resolved p names (looks_in name old e) _ (looks_resolved p names name old e h, (state_resolved p names old e h, tt))
looks_resolved p names name old (core.Not e) h = looks_resolved p names name old e h
looks_resolved p names name old (core.Compute manner o x y span) h =
    two_resolved p names (looks_in name old x) _ (looks_resolved p names name old x h.0, looks_resolved p names name old y h.1)
looks_resolved p names name old (core.Compare c x y) h =
    two_resolved p names (looks_in name old x) _ (
      looks_resolved p names name old x h.0,
      two_resolved p names (looks_in name old y) _ (
        looks_resolved p names name old y h.1,
        pair_resolved p names old (is_position name x) (is_position name y) x y h.0 h.1,
      ),
    )
looks_resolved p names name old (core.Equal same x y) h =
    two_resolved p names (looks_in name old x) _ (
      looks_resolved p names name old x h.0,
      two_resolved p names (looks_in name old y) _ (
        looks_resolved p names name old y h.1,
        pair_resolved p names old (is_position name x) (is_position name y) x y h.0 h.1,
      ),
    )
looks_resolved p names name old (core.And x y) h =
    two_resolved p names (looks_in name old x) _ (looks_resolved p names name old x h.0, looks_resolved p names name old y h.1)
looks_resolved p names name old (core.Or x y) h =
    two_resolved p names (looks_in name old x) _ (looks_resolved p names name old x h.0, looks_resolved p names name old y h.1)
looks_resolved p names name old (core.Implies x y) h =
    two_resolved p names (looks_in name old x) _ (looks_resolved p names name old x h.0, looks_resolved p names name old y h.1)
looks_resolved p names name old (core.Old e) h = looks_resolved p names name true e h

-- before a repeated condition that is resolved and confined, all that a run looks at is resolved without the position
pub repeated_outside : (p : Program) (names : List Name) (name : Name) (e : Expression)
    → AllByRecursion (IsTermLook name) (looks_of name e) → Resolved p (name ∷ names) e → ResolvedLooks p names (looks_of name e)
repeated_outside p names name e t h =
    looks_outside p names name (looks_of name e) t (looks_resolved p (name ∷ names) name false e h)
