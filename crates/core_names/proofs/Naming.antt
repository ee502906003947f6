-- In a program that keeps the static rules the names of classes differ, and those of the members of a class.
use Rattle.std.proofs.Common.{◌≡◌, ◌≤◌, true, false, ◌||◌, List, [], ◌∷◌, map, length, refl, sym, ◌∙◌, ap, subst, arith}
use Rattle.std.proofs.lemmas.Bool.{or_left, or_right, false_from_ne_true, both_ways, eqb-true, eq-eqb}
use Rattle.std.specs.Prelude.{filter, filter_map}
use Rattle.std.specs.List.{list_any, AllByRecursion}
use Rattle.pv_base.specs.declared.Name.{Name}
use Rattle.pv_ast.specs.declared.Word.{Word}
use Rattle.pv_ast.specs.declared.Member.{Member}
use Rattle.pv_ast.specs.declared.Member.TheVariants as member
use Rattle.pv_ast.specs.declared.Class.{Class}
use Rattle.pv_ast.specs.declared.Program.{Program}
use Rattle.pv_ast.specs.declared.fault.Rule.TheVariants as rule
use Rattle.pv_ast.specs.declared.fault.Rule.{Rule}
use Rattle.pv_base.specs.Names.{same_name}
use Rattle.pv_ast.specs.Rules.Expressions.{Environment}
use Rattle.pv_ast.specs.Rules.Statements.{has_label, repeated_behind}
use Rattle.pv_ast.specs.Rules.Programs as rules
use Rattle.pv_ast.specs.Rules.Programs.{KeepsRules, in_class, repeated_runs, faults_of_classes, faults_of_program}
use Rattle.pv_picks.specs.Plain.Core as core
use Rattle.pv_picks.specs.Plain.Members.{method_of, is_run}
use Rattle.pv_picks.specs.Elaborating.Programs.{core_of, core_of_class, core_of_member}
use Rattle.core_trees.proofs.Clean.{Clean, clean_from, if_fails}
use Rattle.core_trees.specs.Naming.{AreDistinct, name_of_member, IsBareRun, MembersDiffer, NamesDiffer}

turned : (x y : Name) → same_name x y ≡ true → same_name y x ≡ true
turned x y h = eq-eqb y.0 x.0 (sym (eqb-true x.0 y.0 h))

-- Words without a repetition

abbrev pub names : List Word → List Name
names ws = map (λ w. w.name) ws

-- a word that is among those before is none of the later ones
absent : (r : Rule) (ws before : List Word) (x : Word) → ((n : Name) → same_name n x.name ≡ true → has_label before n ≡ true)
    → Clean (repeated_behind r before ws)
    → list_any (same_name x.name) (names ws) ≡ false
absent r [] before x there clean = refl
absent r (w ∷ ws) before x there clean =
    let new : has_label before w.name ≡ false = if_fails (has_label before w.name) r w.span clean.0 in
    let other : same_name x.name w.name ≡ false =
    false_from_ne_true (same_name x.name w.name) (λ h. both_ways (has_label before w.name) new
    (there w.name (turned x.name w.name h))) in
    ap (λ b. b || list_any (same_name x.name) (names ws)) other
    ∙ absent r ws (w ∷ before) x (λ n h. or_right (same_name n w.name) (has_label before n) (there n h)) clean.1

pub distinct : (r : Rule) (ws before : List Word) → Clean (repeated_behind r before ws) → AreDistinct (names ws)
distinct r [] before clean = tt
distinct r (w ∷ ws) before clean = (
  absent r ws (w ∷ before) w (λ n h. or_left (same_name n w.name) (has_label before n) h) clean.1,
  distinct r ws (w ∷ before) clean.1,
)

-- Members

names_map : (a : Environment) (ms : List Member)
    → filter_map name_of_member (map (core_of_member a) ms) ≡ names (filter_map rules.name_of_member ms)
names_map a [] = refl
names_map a (member.Field f ∷ ms) = ap (λ ns. f.name.name ∷ ns) (names_map a ms)
names_map a (member.Predicate q ∷ ms) = ap (λ ns. q.name.name ∷ ns) (names_map a ms)
names_map a (member.Method m ∷ ms) = ap (λ ns. m.name.name ∷ ns) (names_map a ms)
names_map a (member.Run r ∷ ms) = names_map a ms

abbrev runs : Environment → List Member → List core.Method
runs a ms = filter is_run (filter_map method_of (map (core_of_member a) ms))

no_runs : (a : Environment) (ms : List Member) → Clean (repeated_runs true ms) → runs a ms ≡ []
no_runs a [] clean = refl
no_runs a (member.Field f ∷ ms) clean = no_runs a ms clean.1
no_runs a (member.Predicate q ∷ ms) clean = no_runs a ms clean.1
no_runs a (member.Method m ∷ ms) clean = no_runs a ms clean.1
no_runs a (member.Run r ∷ ms) clean = absurd clean.0

one_run : (a : Environment) (ms : List Member) → Clean (repeated_runs false ms) → length (runs a ms) ≤ 1
one_run a [] clean = omega arith
one_run a (member.Field f ∷ ms) clean = one_run a ms clean.1
one_run a (member.Predicate q ∷ ms) clean = one_run a ms clean.1
one_run a (member.Method m ∷ ms) clean = one_run a ms clean.1
one_run a (member.Run r ∷ ms) clean =
    let none : length (runs a ms) ≡ 0 = ap length (no_runs a ms clean.1) in omega arith

bare_runs : (a : Environment) (ms : List Member) → AllByRecursion IsBareRun (map (core_of_member a) ms)
bare_runs a [] = tt
bare_runs a (member.Field f ∷ ms) = (tt, bare_runs a ms)
bare_runs a (member.Predicate q ∷ ms) = (tt, bare_runs a ms)
bare_runs a (member.Method m ∷ ms) = (λ h. absurd cc, bare_runs a ms)
bare_runs a (member.Run r ∷ ms) = (λ h. (refl, refl), bare_runs a ms)

-- Classes

class_names : (p : Program) (cs : List Class)
    → map (λ (c : core.Class). c.name) (map (core_of_class p) cs) ≡ names (map (λ c. c.name) cs)
class_names p [] = refl
class_names p (c ∷ cs) = ap (λ ns. c.name.name ∷ ns) (class_names p cs)

classes_differ : (p : Program) (cs : List Class) → Clean (faults_of_classes p cs)
    → AllByRecursion MembersDiffer (map (core_of_class p) cs)
classes_differ p [] clean = tt
classes_differ p (c ∷ cs) clean = (
  record {
    names = subst AreDistinct (sym (names_map (in_class p c) c.members))
        (distinct rule.Duplicate (filter_map rules.name_of_member c.members) [] clean.0.1.0);
    runs = one_run (in_class p c) c.members clean.0.1.1.0;
    bare = bare_runs (in_class p c) c.members;
  },
  classes_differ p cs clean.1,
)

pub names_differ : (p : Program) → KeepsRules p → NamesDiffer (core_of p)
names_differ p keeps =
    let clean : Clean (faults_of_program p) = clean_from (faults_of_program p) keeps in (
      subst AreDistinct (sym (class_names p p.classes)) (distinct rule.Duplicate (map (λ c. c.name) p.classes) [] clean.0),
      classes_differ p p.classes clean.1,
    )
