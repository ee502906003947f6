-- What the static rules say of small classes and programs.
use Rattle.std.proofs.Common.{◌≡◌, ℕ, true, false, not, ◌||◌, nat_eq, Some, None, is_some, List, [], ◌∷◌, map, refl, ap, ◌∙◌}
use Rattle.std.proofs.lemmas.Bool.{and_parts, and_from, not_from_false, or_from, or_left, or_right, eq-eqb, eqb-true, both_ways, false_from_ne_true}
use Rattle.std.specs.List.{list_all, filter_map}
use Rattle.pv_base.specs.declared.Name.{Name}
use Rattle.pv_ast.specs.declared.Word.{Word}
use Rattle.pv_ast.specs.declared.Param.{Param}
use Rattle.pv_ast.specs.declared.Member.{Member}
use Rattle.pv_ast.specs.declared.Member.TheVariants as member
use Rattle.pv_ast.specs.declared.Class.{Class}
use Rattle.pv_ast.specs.declared.Program.{Program}
use Rattle.pv_ast.specs.declared.fault.Rule.{Rule}
use Rattle.pv_ast.specs.declared.fault.Rule.TheVariants as rule
use Rattle.pv_ast.specs.Rules.Lookup.{field_of, named}
use Rattle.pv_ast.specs.Rules.Expressions.{Environment, type_of_field, type_of_param}
use Rattle.pv_ast.specs.Rules.Statements.{has_label, repeated_behind}
use Rattle.pv_ast.specs.Rules.Programs.{KeepsRules, faults_of_program, faults_of_classes, faults_of_class, faults_of_members, faults_of_member, name_of_member, in_class}
use Rattle.small_meaning.specs.Rules.{KeepsRules as KeepsSmallRules, has_name, are_distinct, member_names, is_member, is_class}
use Rattle.small_meaning.specs.Small.{IsSmall, is_small_member, is_small_class}
use Rattle.small_typing.proofs.Clean.{Clean, clean_from, if_fails}
use Rattle.small_typing.proofs.Methods.{method_kept}

-- Distinct names

abbrev numbers_of : List Word → List ℕ
numbers_of words = map (λ w. w.name.0) words

same_label : (words : List Word) (n m : Name) → n.0 ≡ m.0 → has_label words n ≡ has_label words m
same_label [] n m e = refl
same_label (w ∷ ws) n m e = ap (λ k. nat_eq k w.name.0 || has_label ws n) e
    ∙ ap (λ b. nat_eq m.0 w.name.0 || b) (same_label ws n m e)

-- a word that stood before isn't among those that have no fault
labels_new : (r : Rule) (before words : List Word) → Clean (repeated_behind r before words) → (n : Name) → has_label before n
    ≡ true → has_name (numbers_of words) n.0 ≡ false
labels_new r before [] clean n h = refl
labels_new r before (w ∷ ws) clean n h =
    let new = if_fails (has_label before w.name) r w.span clean.0 in
    or_from (nat_eq w.name.0 n.0) (has_name (numbers_of ws) n.0)
    (false_from_ne_true (nat_eq w.name.0 n.0) (λ e.
    both_ways (has_label before w.name) new (same_label before w.name n (eqb-true w.name.0 n.0 e) ∙ h)))
    (labels_new r (w ∷ before) ws clean.1 n (or_right (nat_eq n.0 w.name.0) (has_label before n) h))

labels_distinct : (r : Rule) (before words : List Word) → Clean (repeated_behind r before words) → are_distinct (numbers_of words)
    ≡ true
labels_distinct r before [] clean = refl
labels_distinct r before (w ∷ ws) clean =
    and_from (not (has_name (numbers_of ws) w.name.0)) (are_distinct (numbers_of ws))
    (not_from_false (has_name (numbers_of ws) w.name.0)
    (labels_new r (w ∷ before) ws clean.1 w.name
    (or_left (nat_eq w.name.0 w.name.0) (has_label before w.name) (eq-eqb w.name.0 w.name.0 refl))))
    (labels_distinct r (w ∷ before) ws clean.1)

-- Members

names_same : (members : List Member) → list_all is_small_member members ≡ true → member_names members
    ≡ numbers_of (filter_map name_of_member members)
names_same [] small = refl
names_same (member.Method m ∷ members) small =
    ap (λ ns. m.name.name.0 ∷ ns) (names_same members
    (and_parts (is_small_member (member.Method m)) (list_all is_small_member members) small).1)
names_same (member.Field f ∷ members) small = absurd (cc)
names_same (member.Predicate p ∷ members) small = absurd (cc)
names_same (member.Run r ∷ members) small = absurd (cc)

without_fields : (members : List Member) → list_all is_small_member members ≡ true → filter_map field_of members ≡ []
without_fields [] small = refl
without_fields (member.Method m ∷ members) small =
    without_fields members (and_parts (is_small_member (member.Method m)) (list_all is_small_member members) small).1
without_fields (member.Field f ∷ members) small = absurd (cc)
without_fields (member.Predicate p ∷ members) small = absurd (cc)
without_fields (member.Run r ∷ members) small = absurd (cc)

no_field : (c : Class) (n : Name) → list_all is_small_member c.members ≡ true → type_of_field (Some c) n ≡ None
no_field c n small = ap (λ (fs : List Param). type_of_param (named (λ f. f.name.name) fs n)) (without_fields c.members small)

member_kept : (a : Environment) (m : Member) → ((n : Name) → type_of_field a.here n ≡ None) → is_small_member m ≡ true
    → Clean (faults_of_member a m) → is_member m ≡ true
member_kept a (member.Method m) fields small clean = method_kept a m fields small clean
member_kept a (member.Field f) fields small clean = cc
member_kept a (member.Predicate p) fields small clean = cc
member_kept a (member.Run r) fields small clean = cc

members_kept : (a : Environment) (ms : List Member) → ((n : Name) → type_of_field a.here n ≡ None) → list_all is_small_member ms
    ≡ true → Clean (faults_of_members a ms) → list_all is_member ms ≡ true
members_kept a [] fields small clean = refl
members_kept a (m ∷ ms) fields small clean =
    let f = and_parts (is_small_member m) (list_all is_small_member ms) small in
    and_from (is_member m) (list_all is_member ms) (member_kept a m fields f.0 clean.0) (members_kept a ms fields f.1 clean.1)

-- Classes

class_kept : (p : Program) (c : Class) → is_small_class c ≡ true → Clean (faults_of_class p c) → is_class c ≡ true
class_kept p c small clean =
    let methods = (and_parts (not (is_some c.lock_invariant)) (list_all is_small_member c.members) small).1 in
    and_from (are_distinct (member_names c.members)) (list_all is_member c.members)
    (ap are_distinct (names_same c.members methods)
    ∙ labels_distinct rule.Duplicate [] (filter_map name_of_member c.members) clean.1.0)
    (members_kept (in_class p c) c.members (λ n. no_field c n methods) methods clean.1.1.1)

classes_kept : (p : Program) (cs : List Class) → list_all is_small_class cs ≡ true → Clean (faults_of_classes p cs)
    → list_all is_class cs ≡ true
classes_kept p [] small clean = refl
classes_kept p (c ∷ cs) small clean =
    let f = and_parts (is_small_class c) (list_all is_small_class cs) small in
    and_from (is_class c) (list_all is_class cs) (class_kept p c f.0 clean.0) (classes_kept p cs f.1 clean.1)

-- a small program that breaks no static rule keeps the rules of small programs
pub program_kept : (p : Program) → KeepsRules p → IsSmall p → KeepsSmallRules p
program_kept p keeps small = classes_kept p p.classes small (clean_from (faults_of_program p) keeps).1
