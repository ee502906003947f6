-- What a well formed program becomes has quiet loops; so its loops agree where it is safe.
use Rattle.std.proofs.Common.{◌≡◌, ℕ, ◌+◌, Bool, true, List, [], ◌∷◌, map, refl, sym, subst}
use Rattle.std.specs.List.{filter_map, AllByRecursion}
use Rattle.std.proofs.lemmas.Bool.{and_from}
use Rattle.pv_ast.specs.declared.Stmt.{Stmt}
use Rattle.pv_ast.specs.declared.Member.{Member}
use Rattle.pv_ast.specs.declared.Member.TheVariants as member
use Rattle.pv_ast.specs.declared.Class.{Class}
use Rattle.pv_ast.specs.declared.Program.{Program}
use Rattle.pv_ast.specs.declared.standing.StatementContext.{StatementContext}
use Rattle.pv_ast.specs.Rules.Scoping.{Visible, nothing_visible}
use Rattle.pv_ast.specs.Rules.Expressions.{Environment}
use Rattle.pv_ast.specs.Rules.Statements.{CheckedStatement, faults_of_body, parts_of_block, is_nothing}
use Rattle.pv_ast.specs.Rules.Programs.{in_class, faults_of_members, faults_of_classes, faults_of_program, at_body, KeepsRules}
use Rattle.pv_ast.specs.Rules.WellFormed.{IsWellFormed}
use Rattle.pv_picks.specs.Plain.Members.{method_of}
use Rattle.pv_picks.specs.Elaborating.Statements.{Site, at, block_from, outermost, elaborated_statement, core_of_body}
use Rattle.pv_picks.specs.Elaborating.Programs.{core_of, core_of_class, core_of_member, in_method, parameters_in_scope}
use Rattle.pv_picks.specs.Verdicts.Theorems.{IsVerified, SoundOverAllInterleavings, LoopsAgree, IsPassed}
use Rattle.core_trees.proofs.Clean.{Clean, clean_from}
use Rattle.core_trees.proofs.StmtLayers.{checked_in_all_elaborated}
use Rattle.machine_loops.specs.Calm.{is_calm_statement, is_calm_block, IsCalmMethod, IsCalmClass, HasQuietLoops}
use Rattle.machine_loops.proofs.Whole.{safe-agrees}
use Rattle.machine_loops.proofs.Statements.{statement_law}

-- Bodies

body_calm : (ss : List Stmt) (n : ℕ) (a : Environment) (v : Visible) (stand : StatementContext) (site : Site)
    → Clean (faults_of_body (map (λ s. s.checked) (map elaborated_statement ss)) a v stand)
    → is_calm_block (block_from n (map elaborated_statement ss) a v site) ≡ true
body_calm [] n a v stand site clean = refl
body_calm (s ∷ ss) n a v stand site clean =
    let here : StatementContext = record stand { last = is_nothing (map (λ s. s.checked) (map elaborated_statement ss)) } in
    and_from (is_calm_statement ((elaborated_statement s).statement a v (at n site)))
    (is_calm_block (block_from (n + 1) (map elaborated_statement ss) a ((elaborated_statement s).checked.behind v) site))
    ((statement_law s a v).calm here (at n site) clean.0)
    (body_calm ss (n + 1) a ((elaborated_statement s).checked.behind v) stand site clean.1)

whole_body : (a : Environment) (v : Visible) (method : Bool) (ss : List Stmt)
    → Clean (faults_of_body (parts_of_block ss) a v (at_body method)) → is_calm_block (core_of_body a v ss) ≡ true
whole_body a v method ss clean =
    body_calm ss 0 a v (at_body method) (outermost v)
    (subst (λ (ps : List CheckedStatement). Clean (faults_of_body ps a v (at_body method))) (sym (checked_in_all_elaborated ss))
    clean)

-- Members and classes

members_calm : (a : Environment) (ms : List Member) → Clean (faults_of_members a ms)
    → AllByRecursion IsCalmMethod (filter_map method_of (map (core_of_member a) ms))
members_calm a [] clean = tt
members_calm a (member.Field f ∷ ms) clean = members_calm a ms clean.1
members_calm a (member.Predicate q ∷ ms) clean = members_calm a ms clean.1
members_calm a (member.Method m ∷ ms) clean =
    (whole_body (in_method a m) (parameters_in_scope m) true m.body clean.0.1.1.1.0, members_calm a ms clean.1)
members_calm a (member.Run r ∷ ms) clean = (whole_body a nothing_visible _ r.body clean.0.1, members_calm a ms clean.1)

classes_calm : (p : Program) (cs : List Class) → Clean (faults_of_classes p cs)
    → AllByRecursion IsCalmClass (map (core_of_class p) cs)
classes_calm p [] clean = tt
classes_calm p (c ∷ cs) clean = (members_calm (in_class p c) c.members clean.0.1.1.1, classes_calm p cs clean.1)

pub program_quiet : (p : Program) → KeepsRules p → HasQuietLoops (core_of p)
program_quiet p keeps = classes_calm p p.classes (clean_from (faults_of_program p) keeps).1

pub loops_agree : SoundOverAllInterleavings → LoopsAgree
loops_agree sound = λ p well verified. safe-agrees (core_of p) (program_quiet p well.rules) (sound p well verified)

pub passed : SoundOverAllInterleavings → (p : Program) → IsWellFormed p → IsVerified p → IsPassed p
passed sound =
    λ p well verified. record { well_formed = well; sound = (sound p well verified, loops_agree sound p well verified) }
