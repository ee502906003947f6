-- What a well formed program becomes is well typed.
use Rattle.std.proofs.Common.{◌≡◌, ℕ, ◌+◌, Bool, true, false, not, ◌&&◌, Option, Some, None, is_some, option_map, unwrap_or, List, [], ◌∷◌, map, refl, sym, ◌∙◌, ap, subst}
use Rattle.std.proofs.lemmas.Bool.{or_left, or_right, eqb-true, eq-eqb}
use Rattle.std.specs.Prelude.{nat_eq, if◌then◌else◌}
use Rattle.std.specs.List.{filter_map}
use Rattle.pv_base.specs.declared.Name.{Name}
use Rattle.pv_base.specs.declared.Span.{Span}
use Rattle.pv_ast.specs.declared.TypeWord.{TypeWord}
use Rattle.pv_ast.specs.declared.PvType.{PvType}
use Rattle.pv_ast.specs.declared.PvType.TheVariants.{Null}
use Rattle.pv_ast.specs.declared.Param.{Param}
use Rattle.pv_ast.specs.declared.Stmt.{Stmt}
use Rattle.pv_ast.specs.declared.StmtKind.{StmtKind, StmtKind-F, out-StmtKind}
use Rattle.pv_ast.specs.declared.Method.{Method}
use Rattle.pv_ast.specs.declared.RunMethod.{RunMethod}
use Rattle.pv_ast.specs.declared.Predicate.{Predicate}
use Rattle.pv_ast.specs.declared.Member.{Member}
use Rattle.pv_ast.specs.declared.Member.TheVariants as member
use Rattle.pv_ast.specs.declared.Class.{Class}
use Rattle.pv_ast.specs.declared.Program.{Program}
use Rattle.pv_ast.specs.declared.fault.Rule.TheVariants as rule
use Rattle.pv_ast.specs.declared.standing.StatementContext.{StatementContext}
use Rattle.pv_ast.specs.Rules.Lookup as rules
use Rattle.pv_ast.specs.Rules.Lookup.{class_named, is_declared_type}
use Rattle.pv_ast.specs.Rules.Scoping.{Visible, nothing_visible}
use Rattle.pv_ast.specs.Rules.Expressions as parts
use Rattle.pv_ast.specs.Rules.Expressions.{Environment, members_of, type_of_field}
use Rattle.pv_ast.specs.Rules.Shapes as shapes
use Rattle.pv_ast.specs.Rules.Statements.{CheckedStatement, option_type, faults_of_body, parts_of_block, is_nothing, is_loop, no_messages}
use Rattle.pv_ast.specs.Rules.Programs.{in_class, at_body, is_value_return, ends_with_value, faults_of_program}
use Rattle.pv_ast.specs.Rules.WellFormed.{IsWellFormed}
use Rattle.pv_picks.specs.Plain.Core.{Block}
use Rattle.pv_picks.specs.Plain.Core as core
use Rattle.pv_picks.specs.Plain.Members as members
use Rattle.pv_picks.specs.Plain.Members.{first_that, predicate_of}
use Rattle.pv_picks.specs.Elaborating.Names.{no_name, parameters_of}
use Rattle.pv_picks.specs.Elaborating.Statements.{ElaboratedStatement, Site, at, block_from, outermost, core_of_body, elaborated_in_statement_kind, elaborated_statement}
use Rattle.pv_picks.specs.Elaborating.Programs.{core_of, in_method, parameters_in_scope, core_of_class, core_of_member, core_of_method, core_of_run, core_of_predicate}
use Rattle.core_trees.proofs.Clean.{Clean, clean_from, if_fails, no_first, no_second}
use Rattle.core_trees.proofs.Mirrors.{first_run, class_found, core_mirrors, method_at, run_at, method_found, run_found}
use Rattle.core_trees.proofs.Sound.{Sound}
use Rattle.core_trees.proofs.StmtLayers.{layer_of, kind_rolled, stmt_rolled, checked_in_all_elaborated}
use Rattle.core_trees.proofs.Whole.{sound_class, sound_params, sound_result, result_declared}
use Rattle.pv_picks.specs.Typing.Expressions.{Home, Speech}
use Rattle.pv_picks.specs.Typing.Blocks.{types_of, gives_statement, gives, home_of, over, MethodFits, ProgramFits}
use Rattle.core_trees.specs.Resolved.{names_of}
use Rattle.core_trees.proofs.Knowing.{knows_all}
use Rattle.core_trees.proofs.Places.{NoBlock, no_block_params, no_block_at_all}
use Rattle.core_names.proofs.Scopes.{IsHead, head_of_params}
use Rattle.core_typing.proofs.Locals.{none_own}
use Rattle.core_typing.proofs.Scopes.{nothing_listed, params_listed, listed_known}
use Rattle.core_typing.proofs.Places.{Declares, IsMethodThere, IsPredicateThere, Place}
use Rattle.core_trees.specs.Formulas.{BlockSays}
use Rattle.core_typing.proofs.Standing.{At, InBlocks, outermost_blocks}
use Rattle.core_typing.proofs.Statements.{Returns, statement_law, says_fits}
use Rattle.core_typing.proofs.Members.{found_of, found_name, IsClean, classes_clean, IsCleanMethod, methods_clean, IsCleanRun, run_clean}

-- What a program declares

same_types : (ps : List Param) → types_of (parameters_of ps) ≡ parts.types_of ps
same_types [] = refl
same_types (p ∷ ps) = ap (λ types. p.kind.kind ∷ types) (same_types ps)

method_there : (p : Program) (o : Option Class) (class name : Name) (m : Method) → class_named p.classes class ≡ o
    → rules.method_named (members_of o) name ≡ Some m → IsMethodThere (core_of p) class name m
method_there p None class name m there is = absurd cc
method_there p (Some c) class name m there is = record {
  there = core_of_method (in_class p c) m;
  found = method_found p class name ∙ ap (λ o. method_at p o name) there ∙ ap (option_map (core_of_method (in_class p c))) is;
  types = same_types m.params;
  result = refl;
}

-- a predicate of the name
found_map : {A B : Type 0} (f : A → B) (b c : Bool) (x : A) (o : Option A) (q : Option B) (y : A) → b ≡ c
    → (o ≡ Some y → q ≡ Some (f y)) → (if c then Some x else o) ≡ Some y → (if b then Some (f x) else q) ≡ Some (f y)
found_map f true true x o q y same h k = let is : x ≡ y = cc in ap (λ z. Some (f z)) is
found_map f false false x o q y same h k = h k
found_map f true false x o q y same h k = absurd cc
found_map f false true x o q y same h k = absurd cc

same_truth : (a b : Bool) → (a ≡ true → b ≡ true) → (b ≡ true → a ≡ true) → a ≡ b
same_truth true b h k = sym (h refl)
same_truth false true h k = k refl
same_truth false false h k = refl

either_way : (m n : ℕ) → nat_eq m n ≡ nat_eq n m
either_way m n =
    same_truth (nat_eq m n) (nat_eq n m) (λ h. eq-eqb n m (sym (eqb-true m n h))) (λ h. eq-eqb m n (sym (eqb-true n m h)))

predicate_among : (a : Environment) (name : Name) (ms : List Member) (q : Predicate) → rules.predicate_named ms name ≡ Some q
    → first_that (λ (q : core.Predicate). nat_eq q.name.0 name.0) (filter_map predicate_of (map (core_of_member a) ms))
    ≡ Some (core_of_predicate a q)
predicate_among a name [] q is = absurd cc
predicate_among a name (member.Field f ∷ ms) q is = predicate_among a name ms q is
predicate_among a name (member.Predicate x ∷ ms) q is =
    found_map (core_of_predicate a) (nat_eq x.name.name.0 name.0) (nat_eq name.0 x.name.name.0) x
    (rules.predicate_named ms name) _ q (either_way x.name.name.0 name.0) (λ k. predicate_among a name ms q k) is
predicate_among a name (member.Method m ∷ ms) q is = predicate_among a name ms q is
predicate_among a name (member.Run r ∷ ms) q is = predicate_among a name ms q is

predicate_there : (p : Program) (o : Option Class) (class name : Name) (q : Predicate) → class_named p.classes class ≡ o
    → rules.predicate_named (members_of o) name ≡ Some q → IsPredicateThere (core_of p) class name q
predicate_there p None class name q there is = absurd cc
predicate_there p (Some c) class name q there is = record {
  there = core_of_predicate (in_class p c) q;
  found =
      ap (λ c. first_that (λ (q : core.Predicate). nat_eq q.name.0 name.0) (filter_map predicate_of (members.members_of c)))
      (class_found p class ∙ ap (option_map (core_of_class p)) there)
      ∙ predicate_among (in_class p c) name c.members q is;
  types = same_types q.params;
}

method_result : (p : Program) (o : Option Class) (class name : Name) (m : Method) (type : PvType)
    → ((c : Class) → o ≡ Some c → IsClean p c) → rules.method_named (members_of o) name ≡ Some m → option_type m.result
    ≡ Some type
    → is_declared_type p.classes type ≡ true
method_result p None class name m type clean is result = absurd cc
method_result p (Some c) class name m type clean is result =
    let k : IsClean p c = clean c refl in
    let f : IsCleanMethod (in_class p c) m =
    found_of (IsCleanMethod (in_class p c)) (λ m. m.name.name) _ name m
    (methods_clean (in_class p c) c.members k.0.1.1.1 (no_second (shapes.faults_of_invariant c.lock_invariant) _ k.1)) is in
    result_declared (in_class p c) m.result f.0.0 type result

declares : (p : Program) → ((class : Name) (c : Class) → class_named p.classes class ≡ Some c → IsClean p c)
    → Declares p (core_of p)
declares p clean = record {
  fields = λ class field type is. (core_mirrors p).fields class field ∙ is;
  methods = λ class name m is. method_there p (class_named p.classes class) class name m refl is;
  predicates = λ class name q is. predicate_there p (class_named p.classes class) class name q refl is;
  results =
      λ class name m type is result. method_result p (class_named p.classes class) class name m type (clean class) is result;
}

-- Bodies

body_law : (ss : List Stmt) (n : ℕ) (h : Home) (speech : Speech) (a : Environment) (v : Visible) (xs head : List core.Parameter)
    (stand : StatementContext) (site : Site) (environment : shapes.Environment) → (is_loop stand.surround ≡ true → ⊥)
    → Place h a v xs
    → At h speech a v xs head stand site environment → ((there : StatementContext) → Returns h a there)
    → Clean (faults_of_body (map (λ s. s.checked) (map elaborated_statement ss)) a v stand)
    → shapes.faults_of_block ss environment ≡ []
    → BlockSays h speech head xs (block_from n (map elaborated_statement ss) a v site)
body_law [] n h speech a v xs head stand site environment no_loop place stands returns clean none = tt
body_law (s ∷ ss) n h speech a v xs head stand site environment no_loop place stands returns clean none =
    let there : StatementContext = record stand { last = is_nothing (map (λ s. s.checked) (map elaborated_statement ss)) } in
    statement_law s h speech a v xs head there (at n site) environment place stands no_messages (λ k. absurd (no_loop k))
    (returns there) clean.0 (no_first (shapes.faults_of_stmt s environment) (shapes.faults_of_block ss environment) none) _
    (λ ys further standing. body_law ss (n + 1) h speech a
    ((elaborated_statement s).checked.behind v) ys head stand site environment no_loop further standing returns clean.1
    (no_second (shapes.faults_of_stmt s environment) (shapes.faults_of_block ss environment) none))

whole_body : (ss : List Stmt) (h : Home) (speech : Speech) (a : Environment) (v : Visible) (xs : List core.Parameter)
    (method : Bool)
    → Place h a v xs → InBlocks v xs no_name shapes.outside → NoBlock v → IsHead v
    → ((method && true) ≡ true → speech.old ≡ true)
    → ((there : StatementContext) → Returns h a there) → Clean (faults_of_body (parts_of_block ss) a v (at_body method))
    → shapes.faults_of_block ss shapes.outside ≡ [] → BlockSays h speech xs xs (core_of_body a v ss)
whole_body ss h speech a v xs method place blocks innermost at_head old returns clean none =
    body_law ss 0 h speech a v xs xs (at_body method) (outermost v) shapes.outside (λ k. cc) place (record {
      old = old;
      blocks = blocks;
      loop = λ k. absurd cc;
      told = λ k. absurd cc;
      within = λ n type k. k;
      known = knows_all false v (names_of xs) (listed_known v xs place.listed);
      block = λ k. absurd cc;
      own = none_own v xs at_head;
      innermost = λ other. innermost;
    }) returns
    (subst (λ (ps : List CheckedStatement). Clean (faults_of_body ps a v (at_body method))) (sym (checked_in_all_elaborated ss))
    clean) none

-- a body whose last statement gives a value gives one
value_given : (l : StmtKind-F StmtKind Stmt) (span : Span) (a : Environment) (v : Visible) (site : Site) → is_value_return l
    ≡ true
    → gives_statement ((elaborated_in_statement_kind (layer_of l)).statement span a v site) ≡ true
value_given (StmtKind-F.Return (Some e)) span a v site k = refl
value_given (StmtKind-F.Return None) span a v site k = absurd cc
value_given (StmtKind-F.Local type w value) span a v site k = absurd cc
value_given (StmtKind-F.Assign place value) span a v site k = absurd cc
value_given (StmtKind-F.Call target w args) span a v site k = absurd cc
value_given (StmtKind-F.If e first second) span a v site k = absurd cc
value_given (StmtKind-F.While es e body) span a v site k = absurd cc
value_given (StmtKind-F.For range c body) span a v site k = absurd cc
value_given (StmtKind-F.Par o range c body) span a v site k = absurd cc
value_given (StmtKind-F.Barrier w c) span a v site k = absurd cc
value_given (StmtKind-F.Fork e) span a v site k = absurd cc
value_given (StmtKind-F.Join e) span a v site k = absurd cc
value_given (StmtKind-F.Lock e) span a v site k = absurd cc
value_given (StmtKind-F.Unlock e) span a v site k = absurd cc
value_given (StmtKind-F.Commit e) span a v site k = absurd cc
value_given (StmtKind-F.Fold target w args) span a v site k = absurd cc
value_given (StmtKind-F.Unfold target w args) span a v site k = absurd cc
value_given (StmtKind-F.Assert e) span a v site k = absurd cc
value_given (StmtKind-F.Send w n e) span a v site k = absurd cc
value_given (StmtKind-F.Recv w) span a v site k = absurd cc

statement_gives : (s : Stmt) (a : Environment) (v : Visible) (site : Site) → is_value_return (out-StmtKind s.kind) ≡ true
    → gives_statement ((elaborated_statement s).statement a v site) ≡ true
statement_gives s a v site k =
    ap (λ (x : ElaboratedStatement). gives_statement (x.statement a v site)) (stmt_rolled s)
    ∙ ap (λ x. gives_statement (x.statement s.span a v site)) (kind_rolled s.kind)
    ∙ value_given (out-StmtKind s.kind) s.span a v site k

body_gives : (ss : List Stmt) (n : ℕ) (a : Environment) (v : Visible) (site : Site) → ends_with_value ss ≡ true
    → gives (block_from n (map elaborated_statement ss) a v site) ≡ true
body_gives [] n a v site k = absurd cc
body_gives (s ∷ []) n a v site k =
    or_left (gives_statement ((elaborated_statement s).statement a v (at n site))) false (statement_gives s a v (at n site) k)
body_gives (s ∷ t ∷ ss) n a v site k =
    or_right (gives_statement ((elaborated_statement s).statement a v (at n site))) _
    (body_gives (t ∷ ss) (n + 1) a ((elaborated_statement s).checked.behind v) site k)

not_false : (b c : Bool) → b ≡ true → (b && not c) ≡ false → c ≡ true
not_false true true h k = refl
not_false true false h k = absurd cc
not_false false c h k = absurd cc

no_type : (type : PvType) → None ≡ Some type → ⊥
no_type type h = cc

has_result : (o : Option TypeWord) (type : PvType) → option_type o ≡ Some type → is_some o ≡ true
has_result None type h = absurd cc
has_result (Some t) type h = refl

-- Methods and each `run`

-- the state that a method began in
abbrev speaking : core.Method → Speech
speaking m = record { result = None; old = is_some m.name }

-- a class of the program that is found by a name
pub record ClassAt (p : Program) (class : Name) (c : Class) : Type 0 where
  pub clean : IsClean p c
  pub name : class ≡ c.name.name
  pub sound : Sound (core_of p) (in_class p c) nothing_visible
  pub declares : Declares p (core_of p)

-- where the contract and the body of a method stand, and those of a `run`
pub method_place : (p : Program) (class : Name) (c : Class) (m : Method) (answer : Option PvType) → ClassAt p class c
    → IsCleanMethod (in_class p c) m
    → Place (record { program = core_of p; class = class; answer = answer }) (in_method (in_class p c) m) (parameters_in_scope m)
    (over [] (parameters_of m.params))
method_place p class c m answer at f =
    let a : Environment = in_method (in_class p c) m in
    record {
      sound =
          sound_params (core_of p) a nothing_visible m.params
          (sound_result (core_of p) (in_class p c) nothing_visible m.result at.sound f.0.0) f.0.1.0;
      declares = at.declares;
      class = sym at.name;
      listed = params_listed a nothing_visible [] m.params f.0.1.0 nothing_listed;
    }

pub class_place : (p : Program) (class : Name) (c : Class) (answer : Option PvType) → ClassAt p class c
    → Place (record { program = core_of p; class = class; answer = answer }) (in_class p c) nothing_visible []
class_place p class c answer at =
    record { sound = at.sound; declares = at.declares; class = sym at.name; listed = nothing_listed }

pub method_says : (p : Program) (class : Name) (c : Class) (m : Method) → ClassAt p class c → IsCleanMethod (in_class p c) m
    → (let there : core.Method = core_of_method (in_class p c) m in
    BlockSays (home_of (core_of p) class there) (speaking there) (over [] there.parameters) (over [] there.parameters) there.body)
method_says p class c m at f =
    let a : Environment = in_method (in_class p c) m in
    let h : Home = home_of (core_of p) class (core_of_method (in_class p c) m) in
    whole_body m.body h (speaking (core_of_method (in_class p c) m)) a (parameters_in_scope m)
    (over [] (parameters_of m.params)) true (method_place p class c m h.answer at f)
    (outermost_blocks a m.params (over [] (parameters_of m.params)) no_name shapes.outside f.0.1.0)
    (no_block_params nothing_visible m.params no_block_at_all)
    (head_of_params m.params) (λ k. refl)
    (λ there last type is. ap (λ o. Some (unwrap_or o Null)) is) f.0.1.1.1.0
    (no_second (shapes.faults_of_contract m.contract) _ f.1)

method_fits : (p : Program) (class : Name) (c : Class) (m : Method) → ClassAt p class c → IsCleanMethod (in_class p c) m
    → MethodFits (core_of p) class (core_of_method (in_class p c) m)
method_fits p class c m at f = record {
  body = says_fits _ _ _ _ _ (method_says p class c m at f);
  result = λ type is. body_gives m.body 0 (in_method (in_class p c) m) (parameters_in_scope m) (outermost (parameters_in_scope m))
      (not_false (is_some m.result) (ends_with_value m.body) (has_result m.result type is)
      (if_fails _ rule.NoReturn m.name.span f.0.1.1.1.1));
}

pub run_says : (p : Program) (class : Name) (c : Class) (r : RunMethod) → ClassAt p class c → IsCleanRun (in_class p c) r
    → (let there : core.Method = core_of_run (in_class p c) r in
    BlockSays (home_of (core_of p) class there) (speaking there) [] [] there.body)
run_says p class c r at f =
    let h : Home = home_of (core_of p) class (core_of_run (in_class p c) r) in
    whole_body r.body h (speaking (core_of_run (in_class p c) r)) (in_class p c) nothing_visible [] false
    (class_place p class c h.answer at) (outermost_blocks (in_class p c) [] [] no_name shapes.outside tt)
    no_block_at_all (head_of_params []) (λ k. absurd cc)
    (λ there last type is. absurd (no_type type is)) f.0.1 (no_second (shapes.faults_of_contract r.contract) _ f.1)

run_fits : (p : Program) (class : Name) (c : Class) (r : RunMethod) → ClassAt p class c → IsCleanRun (in_class p c) r
    → MethodFits (core_of p) class (core_of_run (in_class p c) r)
run_fits p class c r at f =
    record { body = says_fits _ _ _ _ _ (run_says p class c r at f); result = λ type is. absurd (no_type type is) }

-- Programs

method_at_fits : (p : Program) (class name : Name) (c : Class) (o : Option Method) (m : core.Method) → ClassAt p class c
    → rules.method_named c.members name ≡ o → option_map (core_of_method (in_class p c)) o ≡ Some m
    → MethodFits (core_of p) class m
method_at_fits p class name c None m at there is = absurd cc
method_at_fits p class name c (Some x) m at there is =
    let same : core_of_method (in_class p c) x ≡ m = cc in
    subst (λ (m : core.Method). MethodFits (core_of p) class m) same
    (method_fits p class c x at (found_of (IsCleanMethod (in_class p c)) (λ m. m.name.name) _ name x
    (methods_clean (in_class p c) c.members at.clean.0.1.1.1
    (no_second (shapes.faults_of_invariant c.lock_invariant) _ at.clean.1)) there))

run_at_fits : (p : Program) (class : Name) (c : Class) (o : Option RunMethod) (m : core.Method) → ClassAt p class c
    → first_run c.members ≡ o → option_map (core_of_run (in_class p c)) o ≡ Some m
    → MethodFits (core_of p) class m × (m.parameters ≡ [])
run_at_fits p class c None m at there is = absurd cc
run_at_fits p class c (Some r) m at there is =
    let same : core_of_run (in_class p c) r ≡ m = cc in
    subst (λ (m : core.Method). MethodFits (core_of p) class m × (m.parameters ≡ [])) same (
      run_fits p class c r at (run_clean (in_class p c) c.members r at.clean.0.1.1.1
          (no_second (shapes.faults_of_invariant c.lock_invariant) _ at.clean.1) there),
      refl,
    )

module _ (p : Program) (well_formed : IsWellFormed p) where
  all_clean : Clean (faults_of_program p)
  all_clean = clean_from (faults_of_program p) well_formed.rules

  class_clean : (class : Name) (c : Class) → class_named p.classes class ≡ Some c → IsClean p c
  class_clean class c is =
      found_of (IsClean p) (λ c. c.name.name) p.classes class c (classes_clean p p.classes all_clean.1 well_formed.shapes) is

  pub class_at : (class : Name) (c : Class) → class_named p.classes class ≡ Some c → ClassAt p class c
  class_at class c is =
      let name : class ≡ c.name.name = found_name (λ c. c.name.name) p.classes class c is in
      record {
        clean = class_clean class c is;
        name = name;
        sound = sound_class p c all_clean.1 (ap (class_named p.classes) (sym name) ∙ is);
        declares = declares p class_clean;
      }

  methods_fit : (class name : Name) (m : core.Method) (o : Option Class) → class_named p.classes class ≡ o → method_at p o name
      ≡ Some m → MethodFits (core_of p) class m
  methods_fit class name m None there is = absurd cc
  methods_fit class name m (Some c) there is =
      method_at_fits p class name c (rules.method_named c.members name) m (class_at class c there) refl is

  runs_fit : (class : Name) (m : core.Method) (o : Option Class) → class_named p.classes class ≡ o → run_at p o ≡ Some m
      → MethodFits (core_of p) class m × (m.parameters ≡ [])
  runs_fit class m None there is = absurd cc
  runs_fit class m (Some c) there is = run_at_fits p class c (first_run c.members) m (class_at class c there) refl is

  pub program_fits : ProgramFits (core_of p)
  program_fits = record {
    methods =
        λ class name m is. methods_fit class name m (class_named p.classes class) refl (sym (method_found p class name) ∙ is);
    runs = λ class m is. runs_fit class m (class_named p.classes class) refl (sym (run_found p class) ∙ is);
  }
