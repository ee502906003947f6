-- A program that keeps the static rules becomes a plain tree in which each name is resolved.
use Rattle.std.proofs.Common.{◌≡◌, ℕ, ◌+◌, Bool, true, false, ◌||◌, Option, Some, None, is_some, option_map, List, [], ◌∷◌, map, refl, sym, ◌∙◌, ap, subst, arith}
use Rattle.std.proofs.lemmas.Bool.{eq-eqb}
use Rattle.std.specs.Prelude.{if◌then◌else◌}
use Rattle.std.specs.List.{AllByRecursion}
use Rattle.pv_base.specs.declared.Name.{Name}
use Rattle.pv_ast.specs.declared.Word.{Word}
use Rattle.pv_ast.specs.declared.TypeWord.{TypeWord}
use Rattle.pv_ast.specs.declared.PvType.{PvType}
use Rattle.pv_ast.specs.declared.Param.{Param}
use Rattle.pv_ast.specs.declared.Expr.{Expr}
use Rattle.pv_ast.specs.declared.Stmt.{Stmt}
use Rattle.pv_ast.specs.declared.Predicate.{Predicate}
use Rattle.pv_ast.specs.declared.Method.{Method}
use Rattle.pv_ast.specs.declared.RunMethod.{RunMethod}
use Rattle.pv_ast.specs.declared.Member.{Member}
use Rattle.pv_ast.specs.declared.Member.TheVariants as member
use Rattle.pv_ast.specs.declared.Class.{Class}
use Rattle.pv_ast.specs.declared.Program.{Program}
use Rattle.pv_ast.specs.declared.fault.Rule.{Rule}
use Rattle.pv_ast.specs.declared.fault.Rule.TheVariants as rule
use Rattle.pv_ast.specs.declared.scope.Declaration.TheVariants.{Parameter}
use Rattle.pv_ast.specs.declared.standing.Need.TheVariants.{Exactly}
use Rattle.pv_ast.specs.declared.standing.StatementContext.{StatementContext}
use Rattle.pv_ast.specs.declared.PvType.TheVariants.{Truth}
use Rattle.pv_ast.specs.Rules.Lookup.{class_named, field_named, is_declared_type}
use Rattle.pv_base.specs.Names.{same_name}
use Rattle.pv_ast.specs.Rules.Scoping.{Visible, nothing_visible}
use Rattle.pv_ast.specs.Rules.Expressions.{Environment, type_of_field, type_of_param}
use Rattle.pv_ast.specs.Rules.Statements.{CheckedStatement, in_condition, option_type, repeated_behind, has_label, faults_of_body, parts_of_block, is_loop, is_nothing}
use Rattle.pv_ast.specs.Rules.Programs.{KeepsRules, in_class, with_params, with_param, faults_of_params, faults_of_result, faults_of_method, faults_of_run, faults_of_predicate, faults_of_members, faults_of_lock_invariant, faults_of_classes, faults_of_program, at_body}
use Rattle.pv_picks.specs.Plain.Core as core
use Rattle.pv_picks.specs.Elaborating.Names.{parameters_of}
use Rattle.pv_picks.specs.Elaborating.Expressions.{core_of_formula}
use Rattle.pv_picks.specs.Elaborating.Statements.{ElaboratedStatement, Site, at, block_from, outermost, elaborated_statement, core_of_body}
use Rattle.pv_picks.specs.Elaborating.Programs.{core_of, core_of_class, core_of_member, in_method, parameters_in_scope}
use Rattle.core_trees.specs.Resolved.{behind, names_of, ResolvedBlock, ResolvedMember, ResolvedInvariant, ResolvedClass, IsResolved}
use Rattle.core_trees.proofs.Clean.{Clean, clean_from, unless_holds, if_fails}
use Rattle.core_trees.proofs.Mirrors.{core_mirrors}
use Rattle.core_trees.proofs.Sound.{Sound, sound_with}
use Rattle.core_trees.proofs.Knowing.{Knows, knows_all, knows_nothing, knows_params}
use Rattle.core_trees.proofs.Uses.{kept, contract_kept}
use Rattle.core_trees.proofs.Stmts.{AllLaws, statement_law, StmtLaw}
use Rattle.core_trees.proofs.StmtLayers.{checked_in_all_elaborated}
use Rattle.core_trees.proofs.Induction.{all_made}

-- Distinct names of classes

or_parts : (a b : Bool) → (a || b) ≡ false → (a ≡ false) × (b ≡ false)
or_parts false b h = (refl, h)
or_parts true b h = absurd cc

-- each class has a name that none of these words has
abbrev AllNew : List Word → List Class → Type 0
AllNew words cs = AllByRecursion (λ c. has_label words c.name.name ≡ false) cs

-- each class is found by its name in a list
abbrev AllFound : List Class → List Class → Type 0
AllFound classes cs = AllByRecursion (λ c. class_named classes c.name.name ≡ Some c) cs

fewer_words : (w : Word) (words : List Word) (cs : List Class) → AllNew (w ∷ words) cs → AllNew words cs
fewer_words w words [] h = tt
fewer_words w words (c ∷ cs) h = (
  (or_parts (same_name c.name.name w.name) (has_label words c.name.name) h.0).1,
  fewer_words w words cs h.1,
)

all_new : (r : Rule) (words : List Word) (cs : List Class) → Clean (repeated_behind r words (map (λ c. c.name) cs))
    → AllNew words cs
all_new r words [] clean = tt
all_new r words (c ∷ cs) clean = (
  if_fails (has_label words c.name.name) r c.name.span clean.0,
  fewer_words c.name words cs (all_new r (c.name ∷ words) cs clean.1),
)

found_behind : (b : Bool) (d : Class) (o : Option Class) → b ≡ false → (if b then Some d else o) ≡ o
found_behind true d o h = absurd cc
found_behind false d o h = refl

found_first : (b : Bool) (d : Class) (o : Option Class) → b ≡ true → (if b then Some d else o) ≡ Some d
found_first true d o h = refl
found_first false d o h = absurd cc

one_more_class : (d : Class) (words : List Word) (classes cs : List Class) → AllNew (d.name ∷ words) cs → AllFound classes cs
    → AllFound (d ∷ classes) cs
one_more_class d words classes [] new found = tt
one_more_class d words classes (c ∷ cs) new found = (
  found_behind (same_name c.name.name d.name.name) d (class_named classes c.name.name)
      (or_parts (same_name c.name.name d.name.name) (has_label words c.name.name) new.0).0 ∙ found.0,
  one_more_class d words classes cs new.1 found.1,
)

all_found : (r : Rule) (words : List Word) (cs : List Class) → Clean (repeated_behind r words (map (λ c. c.name) cs))
    → AllFound cs cs
all_found r words [] clean = tt
all_found r words (c ∷ cs) clean = (
  found_first (same_name c.name.name c.name.name) c (class_named cs c.name.name) (eq-eqb c.name.name.0 c.name.name.0 refl),
  one_more_class c words cs cs (all_new r (c.name ∷ words) cs clean.1) (all_found r (c.name ∷ words) cs clean.1),
)

-- Types of fields

field_if : (p : Program) (b : Bool) (f : Param) (o : Option Param) (type : PvType) → is_declared_type p.classes f.kind.kind ≡ true
    → (type_of_param o ≡ Some type → is_declared_type p.classes type ≡ true) → type_of_param (if b then Some f else o) ≡ Some type
    → is_declared_type p.classes type ≡ true
field_if p true f o type h k i =
    let same : f.kind.kind ≡ type = cc in subst (λ (t : PvType). is_declared_type p.classes t ≡ true) same h
field_if p false f o type h k i = k i

fields_declared : (p : Program) (a : Environment) → a.program ≡ p → (ms : List Member) → Clean (faults_of_members a ms)
    → (name : Name) (type : PvType) → type_of_param (field_named ms name) ≡ Some type → is_declared_type p.classes type ≡ true
fields_declared p a same [] clean name type h = absurd cc
fields_declared p a same (member.Field f ∷ ms) clean name type h =
    let declared : is_declared_type p.classes f.kind.kind ≡ true =
    subst (λ (q : Program). is_declared_type q.classes f.kind.kind ≡ true) same
    (unless_holds (is_declared_type a.program.classes f.kind.kind) rule.UnknownName f.kind.span clean.0) in
    field_if p (same_name name f.name.name) f (field_named ms name) type declared
    (fields_declared p a same ms clean.1 name type) h
fields_declared p a same (member.Predicate q ∷ ms) clean name type h = fields_declared p a same ms clean.1 name type h
fields_declared p a same (member.Method m ∷ ms) clean name type h = fields_declared p a same ms clean.1 name type h
fields_declared p a same (member.Run r ∷ ms) clean name type h = fields_declared p a same ms clean.1 name type h

class_if : (p : Program) (b : Bool) (c : Class) (o : Option Class) (name : Name) (type : PvType)
    → (type_of_field (Some c) name ≡ Some type → is_declared_type p.classes type ≡ true)
    → (type_of_field o name ≡ Some type → is_declared_type p.classes type ≡ true)
    → type_of_field (if b then Some c else o) name ≡ Some type → is_declared_type p.classes type ≡ true
class_if p true c o name type h k i = h i
class_if p false c o name type h k i = k i

classes_declared : (p : Program) (cs : List Class) → Clean (faults_of_classes p cs) → (class name : Name) (type : PvType)
    → type_of_field (class_named cs class) name ≡ Some type → is_declared_type p.classes type ≡ true
classes_declared p [] clean class name type h = absurd cc
classes_declared p (c ∷ cs) clean class name type h =
    class_if p (same_name class c.name.name) c (class_named cs class) name type
    (fields_declared p (in_class p c) refl c.members clean.0.1.1.1 name type) (classes_declared p cs clean.1 class name type) h

-- Scopes

no_type : (type : PvType) → None ≡ Some type → ⊥
no_type type h = cc

pub sound_class : (p : Program) (c : Class) → Clean (faults_of_classes p p.classes) → class_named p.classes c.name.name ≡ Some c
    → Sound (core_of p) (in_class p c) nothing_visible
sound_class p c clean found = record {
  mirrors = core_mirrors p;
  here = sym found;
  own = ap is_some found;
  fields = classes_declared p p.classes clean;
  result = λ type h. absurd (no_type type h);
  visible = tt;
  within = omega arith;
}

pub sound_params : (tree : core.Program) (a : Environment) (v : Visible) (ps : List Param) → Sound tree a v
    → Clean (faults_of_params a v ps) → Sound tree a (with_params v ps)
sound_params tree a v [] sound clean = sound
sound_params tree a v (p ∷ ps) sound clean =
    let declared : is_declared_type a.program.classes p.kind.kind ≡ true =
    unless_holds (is_declared_type a.program.classes p.kind.kind) rule.UnknownName p.kind.span clean.0 in
    sound_params tree a (with_param v p) ps (sound_with tree a v Parameter p.name.name p.kind.kind declared sound) clean.1.1

pub result_declared : (a : Environment) (o : Option TypeWord) → Clean (faults_of_result a o) → (type : PvType) → option_type o
    ≡ Some type → is_declared_type a.program.classes type ≡ true
result_declared a None clean type h = absurd cc
result_declared a (Some t) clean type h =
    let same : t.kind ≡ type = cc in
    subst (λ (x : PvType). is_declared_type a.program.classes x ≡ true) same
    (unless_holds (is_declared_type a.program.classes t.kind) rule.UnknownName t.span clean)

pub sound_result : (tree : core.Program) (a : Environment) (v : Visible) (o : Option TypeWord) → Sound tree a v
    → Clean (faults_of_result (record a { result = option_type o }) o) → Sound tree (record a { result = option_type o }) v
sound_result tree a v o s clean = record {
  mirrors = s.mirrors;
  here = s.here;
  own = s.own;
  fields = s.fields;
  result = result_declared (record a { result = option_type o }) o clean;
  visible = s.visible;
  within = s.within;
}

-- Bodies

not_a_loop : (method : Bool) → is_loop (at_body method).surround ≡ true → ⊥
not_a_loop method h = cc

body_kept : (ss : List ElaboratedStatement) → AllLaws ss
    → (n : ℕ) (tree : core.Program) (head names : List Name) (a : Environment) (v : Visible)
    (stand : StatementContext) (site : Site) → (is_loop stand.surround ≡ true → ⊥) → Sound tree a v → Knows true v names
    → Knows false v head
    → Clean (faults_of_body (map (λ s. s.checked) ss) a v stand) → ResolvedBlock tree head names (block_from n ss a v site)
body_kept [] laws n tree head names a v stand site no_loop sound known shared clean = tt
body_kept (s ∷ ss) laws n tree head names a v stand site no_loop sound known shared clean =
    let h = laws.0 tree a v (record stand { last = is_nothing (map (λ s. s.checked) ss) }) sound clean.0 in (
      h.statement head names (at n site) known shared (λ loop. absurd (no_loop loop)),
      body_kept ss laws.1 (n + 1) tree head (behind names (s.statement a v (at n site))) a
          (s.checked.behind v) stand site no_loop h.sound (h.known names (at n site) known) (h.shared head shared) clean.1,
    )

whole_body : (tree : core.Program) (names : List Name) (a : Environment) (v : Visible) (method : Bool) (ss : List Stmt)
    → Sound tree a v → Knows true v names → Clean (faults_of_body (parts_of_block ss) a v (at_body method))
    → ResolvedBlock tree names names (core_of_body a v ss)
whole_body tree names a v method ss sound known clean =
    body_kept (map elaborated_statement ss) (all_made elaborated_statement StmtLaw statement_law ss) 0 tree names names a v
    (at_body method)
    (outermost v) (not_a_loop method) sound known (knows_all false v names known)
    (subst (λ (ps : List CheckedStatement). Clean (faults_of_body ps a v (at_body method))) (sym (checked_in_all_elaborated ss))
    clean)

-- Members

method_kept : (tree : core.Program) (a : Environment) (m : Method) → Sound tree a nothing_visible → Clean (faults_of_method a m)
    → ResolvedMember tree (core_of_member a (member.Method m))
method_kept tree a m sound clean =
    let here =
    sound_params tree (in_method a m) nothing_visible m.params
    (sound_result tree a nothing_visible m.result sound clean.0) clean.1.0 in
    let names : List Name = names_of (parameters_of m.params) in
    let known : Knows true (parameters_in_scope m) names = knows_params m.params in (
      contract_kept tree names (in_method a m) (parameters_in_scope m) _ _ m.contract here known known clean.1.1.0,
      whole_body tree names (in_method a m) (parameters_in_scope m) true m.body here known clean.1.1.1.0,
    )

run_kept : (tree : core.Program) (a : Environment) (r : RunMethod) → Sound tree a nothing_visible → Clean (faults_of_run a r)
    → ResolvedMember tree (core_of_member a (member.Run r))
run_kept tree a r sound clean =
    let known : Knows true nothing_visible [] = knows_nothing true in (
      contract_kept tree [] a nothing_visible _ _ r.contract sound known known clean.0,
      whole_body tree [] a nothing_visible false r.body sound known clean.1,
    )

predicate_kept : (tree : core.Program) (a : Environment) (q : Predicate) → Sound tree a nothing_visible
    → Clean (faults_of_predicate a q) → ResolvedMember tree (core_of_member a (member.Predicate q))
predicate_kept tree a q sound clean =
    (kept q.body tree (names_of (parameters_of q.params)) a (with_params nothing_visible q.params) in_condition (Exactly Truth)
    (sound_params tree a nothing_visible q.params sound clean.0) (knows_params q.params) clean.1).1.formula None

members_kept : (tree : core.Program) (a : Environment) (ms : List Member) → Sound tree a nothing_visible
    → Clean (faults_of_members a ms) → AllByRecursion (ResolvedMember tree) (map (core_of_member a) ms)
members_kept tree a [] sound clean = tt
members_kept tree a (member.Field f ∷ ms) sound clean = (tt, members_kept tree a ms sound clean.1)
members_kept tree a (member.Predicate q ∷ ms) sound clean =
    (predicate_kept tree a q sound clean.0, members_kept tree a ms sound clean.1)
members_kept tree a (member.Method m ∷ ms) sound clean =
    (method_kept tree a m sound clean.0, members_kept tree a ms sound clean.1)
members_kept tree a (member.Run r ∷ ms) sound clean = (run_kept tree a r sound clean.0, members_kept tree a ms sound clean.1)

-- Classes

invariant_kept : (tree : core.Program) (a : Environment) (o : Option Expr) → Sound tree a nothing_visible
    → Clean (faults_of_lock_invariant a o) → ResolvedInvariant tree (option_map (core_of_formula a nothing_visible) o)
invariant_kept tree a None sound clean = tt
invariant_kept tree a (Some e) sound clean = (kept e tree [] a nothing_visible in_condition (Exactly Truth) sound
    (knows_nothing true) clean).1.formula None

classes_kept : (p : Program) (cs : List Class) → Clean (faults_of_classes p p.classes) → AllFound p.classes cs
    → Clean (faults_of_classes p cs) → AllByRecursion (ResolvedClass (core_of p)) (map (core_of_class p) cs)
classes_kept p [] all found clean = tt
classes_kept p (c ∷ cs) all found clean =
    let sound = sound_class p c all found.0 in (
      (
        invariant_kept (core_of p) (in_class p c) c.lock_invariant sound clean.0.0,
        members_kept (core_of p) (in_class p c) c.members sound clean.0.1.1.1,
      ),
      classes_kept p cs all found.1 clean.1,
    )

pub program_resolved : (p : Program) → KeepsRules p → IsResolved (core_of p)
program_resolved p keeps =
    let clean = clean_from (faults_of_program p) keeps in
    classes_kept p p.classes clean.1 (all_found rule.Duplicate [] p.classes clean.0) clean.1
