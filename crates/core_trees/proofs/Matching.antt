-- What is received in a counted loop of a program that keeps the static rules is sent in it.
use Rattle.std.proofs.Common.{◌≡◌, ℕ, ◌+◌, Bool, true, false, ◌||◌, List, [], ◌∷◌, ◌++◌, map, refl, sym, ◌∙◌, ap, subst, inl, inr}
use Rattle.std.proofs.lemmas.List.{append_assoc, append-nil, map-append}
use Rattle.std.specs.Prelude.{if◌then◌else◌}
use Rattle.std.specs.List.{AllByRecursion, list_any}
use Rattle.pv_base.specs.declared.Name.{Name}
use Rattle.pv_base.specs.declared.Span.{Span}
use Rattle.pv_ast.specs.declared.Word.{Word}
use Rattle.pv_ast.specs.declared.Member.{Member}
use Rattle.pv_ast.specs.declared.Member.TheVariants as member
use Rattle.pv_ast.specs.declared.Class.{Class}
use Rattle.pv_ast.specs.declared.Program.{Program}
use Rattle.pv_ast.specs.declared.Stmt.{Stmt}
use Rattle.pv_ast.specs.declared.StmtKind.{StmtKind-F}
use Rattle.pv_ast.specs.declared.fault.Rule.TheVariants as rule
use Rattle.pv_ast.specs.declared.standing.StatementContext.{StatementContext}
use Rattle.pv_ast.specs.declared.standing.Surround.TheVariants as surround
use Rattle.pv_base.specs.Names.{same_name}
use Rattle.pv_ast.specs.Rules.Scoping.{Visible, nothing_visible}
use Rattle.pv_ast.specs.Rules.Expressions.{Environment}
use Rattle.pv_ast.specs.Rules.Statements.{CheckedStatement, Messages, no_messages, messages_of_statements, faults_of_messages, faults_of_statements, faults_of_body, parts_of_block, has_label, unknown_labels, in_branch, in_while, among_members, is_nothing}
use Rattle.pv_ast.specs.Rules.Programs.{KeepsRules, in_class, faults_of_members, faults_of_classes, faults_of_program, at_body}
use Rattle.pv_picks.specs.Plain.Core.{Message}
use Rattle.core_trees.specs.Messages.{sent_by, sent_in_block, received_by, received_in_block, IsAmong, MatchedStatement, MatchedBlock, MatchedMember, MatchedClass, IsMatched}
use Rattle.pv_picks.specs.Elaborating.Statements.{ElaboratedStatement, ElaboratedStatementKind, Site, at, block_from, sent_in, message_of, inside_for, inside_par, in_for, in_par, outermost, core_of_body, elaborated_statement}
use Rattle.pv_picks.specs.Elaborating.Programs.{core_of, core_of_class, core_of_member, in_method, parameters_in_scope}
use Rattle.core_trees.proofs.Clean.{Clean, clean_from, unless_holds}
use Rattle.core_trees.proofs.StmtLayers.{checked_in_all_elaborated, LayerStep, elaborations, trees, parts_in, piece_induction, StmtsWith}
use Rattle.core_trees.proofs.Induction.{all_with, all_made}

-- what words become as messages of a loop
abbrev pub as_messages : List Message → List Word → List Message
as_messages ms ws = map (λ w. message_of ms w.name) ws

abbrev pub labels : List Message → List Name
labels ms = map (λ m. m.label) ms

abbrev pub names : List Word → List Name
names ws = map (λ w. w.name) ws

-- the words that a statement sends and receives, by the static rules and by what it becomes
pub record Sends (in_messages : Messages → Messages) (statement_at : Environment → Visible → Site → List Message × List Message)
    (sent_at : Environment → Visible → List Message) : Type 0 where
  pub sent_words : List Word
  pub received_words : List Word
  pub sent : (m : Messages) → (in_messages m).sent ≡ m.sent ++ sent_words
  pub received : (m : Messages) → (in_messages m).received ≡ m.received ++ received_words
  pub core_sent : (a : Environment) (v : Visible) (site : Site) → (statement_at a v site).0 ≡ sent_at a site.head
  pub core_received : (a : Environment) (v : Visible) (site : Site) → (statement_at a v site).1
      ≡ as_messages site.messages received_words
  pub labelled : (a : Environment) (v : Visible) → labels (sent_at a v) ≡ names sent_words

abbrev pub KindSends : ElaboratedStatementKind → Type 0
KindSends k = (span : Span) → Sends k.checked.messages
    (λ a v site. (sent_by (k.statement span a v site), received_by (k.statement span a v site))) k.sent

abbrev pub StmtSends : ElaboratedStatement → Type 0
StmtSends s = Sends s.checked.messages (λ a v site. (sent_by (s.statement a v site), received_by (s.statement a v site))) s.sent

abbrev pub BlockSends : List ElaboratedStatement → ℕ → Type 0
BlockSends ss n =
    Sends (messages_of_statements (parts_in ss))
    (λ a v site. (sent_in_block (block_from n ss a v site), received_in_block (block_from n ss a v site))) (sent_in ss)

-- nothing is sent and received
silent : Sends (λ m. m) (λ a v site. ([], [])) (λ a v. [])
silent = record {
  sent_words = [];
  received_words = [];
  sent = λ m. sym (append-nil m.sent);
  received = λ m. sym (append-nil m.received);
  core_sent = λ a v site. refl;
  core_received = λ a v site. refl;
  labelled = λ a v. refl;
}

two : {A : Type 0} (x x' y y' : List A) → x ≡ x' → y ≡ y' → x ++ y ≡ x' ++ y'
two x x' y y' h k = ap (λ z. z ++ y) h ∙ ap (λ z. x' ++ z) k

pub block_sends : (ss : List ElaboratedStatement) → AllByRecursion StmtSends ss → (n : ℕ) → BlockSends ss n
block_sends [] laws n = silent
block_sends (s ∷ ss) laws n =
    let h : StmtSends s = laws.0 in
    let k : BlockSends ss (n + 1) = block_sends ss laws.1 (n + 1) in
    record {
      sent_words = h.sent_words ++ k.sent_words;
      received_words = h.received_words ++ k.received_words;
      sent =
          λ m. k.sent (s.checked.messages m) ∙ ap (λ (x : List Word). x ++ k.sent_words) (h.sent m)
          ∙ append_assoc m.sent h.sent_words k.sent_words;
      received =
          λ m. k.received (s.checked.messages m) ∙ ap (λ (x : List Word). x ++ k.received_words) (h.received m)
          ∙ append_assoc m.received h.received_words k.received_words;
      core_sent = λ a v site. two _ _ _ _ (h.core_sent a v (at n site)) (k.core_sent a (s.checked.behind v) site);
      core_received =
          λ a v site. two _ _ _ _ (h.core_received a v (at n site)) (k.core_received a (s.checked.behind v) site)
          ∙ sym (map-append (λ (w : Word). message_of site.messages w.name) h.received_words k.received_words);
      labelled = λ a v.
          map-append (λ (m : Message). m.label) (s.sent a v) (sent_in ss a v) ∙ two _ _ _ _ (h.labelled a v) (k.labelled a v)
          ∙ sym (map-append (λ (w : Word). w.name) h.sent_words k.sent_words);
    }

-- one block behind the other
both_send : (first second : List ElaboratedStatement) → AllByRecursion StmtSends first → AllByRecursion StmtSends second
    → Sends (λ m. messages_of_statements (parts_in second) (messages_of_statements (parts_in first) m))
    (λ a v site. (
      sent_in_block (block_from 0 first a v (at 0 site)) ++ sent_in_block (block_from 0 second a v (at 1 site)),
      received_in_block (block_from 0 first a v (at 0 site)) ++ received_in_block (block_from 0 second a v (at 1 site)),
    ))
    (λ a v. sent_in first a v ++ sent_in second a v)
both_send first second law_first law_second =
    let h : BlockSends first 0 = block_sends first law_first 0 in
    let k : BlockSends second 0 = block_sends second law_second 0 in
    record {
      sent_words = h.sent_words ++ k.sent_words;
      received_words = h.received_words ++ k.received_words;
      sent =
          λ m. k.sent (messages_of_statements (parts_in first) m) ∙ ap (λ (x : List Word). x ++ k.sent_words) (h.sent m)
          ∙ append_assoc m.sent h.sent_words k.sent_words;
      received =
          λ m. k.received (messages_of_statements (parts_in first) m)
          ∙ ap (λ (x : List Word). x ++ k.received_words) (h.received m)
          ∙ append_assoc m.received h.received_words k.received_words;
      core_sent = λ a v site. two _ _ _ _ (h.core_sent a v (at 0 site)) (k.core_sent a v (at 1 site));
      core_received =
          λ a v site. two _ _ _ _ (h.core_received a v (at 0 site)) (k.core_received a v (at 1 site))
          ∙ sym (map-append (λ (w : Word). message_of site.messages w.name) h.received_words k.received_words);
      labelled = λ a v.
          map-append (λ (m : Message). m.label) (sent_in first a v) (sent_in second a v)
          ∙ two _ _ _ _ (h.labelled a v) (k.labelled a v) ∙ sym (map-append (λ (w : Word). w.name) h.sent_words k.sent_words);
    }

-- the body of a `while` or of a par block, which stands in the same loop
body_sends : (body : List ElaboratedStatement) → AllByRecursion StmtSends body → (there : Visible → Visible)
    → (further : Site → Site)
    → ((site : Site) → (further site).head ≡ site.head) → ((site : Site) → (further site).messages ≡ site.messages)
    → Sends (messages_of_statements (parts_in body)) (λ a v site. (
      sent_in_block (block_from 0 body a (there v) (further site)),
      received_in_block (block_from 0 body a (there v) (further site)),
    )) (sent_in body)
body_sends body laws there further same_head same_messages =
    let h : BlockSends body 0 = block_sends body laws 0 in
    record {
      sent_words = h.sent_words;
      received_words = h.received_words;
      sent = h.sent;
      received = h.received;
      core_sent = λ a v site. h.core_sent a (there v) (further site) ∙ ap (λ head. sent_in body a head) (same_head site);
      core_received =
          λ a v site. h.core_received a (there v) (further site)
          ∙ ap (λ ms. as_messages ms h.received_words) (same_messages site);
      labelled = h.labelled;
    }

-- The induction

all_laws : (ss : List (StmtsWith StmtSends)) → AllByRecursion StmtSends (elaborations ss)
all_laws = all_with elaborated_statement StmtSends

layer_law : LayerStep KindSends StmtSends
layer_law (StmtKind-F.If e first second) = λ span.
    both_send (elaborations first) (elaborations second) (all_laws first) (all_laws second)
layer_law (StmtKind-F.While es e body) =
    λ span. body_sends (elaborations body) (all_laws body) (λ v. v) (at 0) (λ site. refl) (λ site. refl)
layer_law (StmtKind-F.Par o range c body) =
    λ span. body_sends (elaborations body) (all_laws body) (λ v. inside_par v o range) (λ site. in_par range (at 0 site))
    (λ site. refl)
    (λ site. refl)
layer_law (StmtKind-F.Send w n e) = λ span. record {
  sent_words = w ∷ [];
  received_words = [];
  sent = λ m. refl;
  received = λ m. sym (append-nil m.received);
  core_sent = λ a v site. refl;
  core_received = λ a v site. refl;
  labelled = λ a v. refl;
}
layer_law (StmtKind-F.Recv w) = λ span. record {
  sent_words = [];
  received_words = w ∷ [];
  sent = λ m. sym (append-nil m.sent);
  received = λ m. refl;
  core_sent = λ a v site. refl;
  core_received = λ a v site. refl;
  labelled = λ a v. refl;
}
layer_law _ = λ span. silent

pub statement_sends : (s : Stmt) → StmtSends (elaborated_statement s)
statement_sends = piece_induction KindSends StmtSends layer_law (λ span k law. law span)

-- What is received is sent

words_known : (sent received : List Word) → Clean (unknown_labels sent received)
    → AllByRecursion (λ w. has_label sent w.name ≡ true) received
words_known sent [] clean = tt
words_known sent (w ∷ ws) clean = (
  unless_holds (has_label sent w.name) rule.UnknownName w.span clean.0,
  words_known sent ws clean.1,
)

any_name : (ws : List Word) (n : Name) → has_label ws n ≡ list_any (same_name n) (names ws)
any_name [] n = refl
any_name (w ∷ ws) n = ap (λ b. same_name n w.name || b) (any_name ws n)

among_if : (b rest : Bool) (m m' : Message) (ms : List Message) → (b || rest) ≡ true → (rest ≡ true → IsAmong m' ms)
    → IsAmong (if b then m else m') (m ∷ ms)
among_if true rest m m' ms h k = inl refl
among_if false rest m m' ms h k = inr (k h)

among_from : (ms : List Message) (n : Name) → list_any (same_name n) (labels ms) ≡ true → IsAmong (message_of ms n) ms
among_from [] n h = absurd cc
among_from (m ∷ ms) n h =
    among_if (same_name n m.label) (list_any (same_name n) (labels ms)) m (message_of ms n) ms h (among_from ms n)

all_among : (ms : List Message) (sent received : List Word) → labels ms ≡ names sent
    → AllByRecursion (λ w. has_label sent w.name ≡ true) received → AllByRecursion (λ m. IsAmong m ms) (as_messages ms received)
all_among ms sent [] h known = tt
all_among ms sent (w ∷ ws) h known = (
  among_from ms w.name (ap (list_any (same_name w.name)) h ∙ sym (any_name sent w.name) ∙ known.0),
  all_among ms sent ws h known.1,
)

-- the body of a counted loop
loop_matches : (body : List ElaboratedStatement) → AllByRecursion StmtSends body
    → (a : Environment) (inside : Visible) (site : Site)
    → Clean (faults_of_messages (messages_of_statements (parts_in body) no_messages))
    → AllByRecursion (λ m. IsAmong m (sent_in_block (block_from 0 body a inside (in_for a inside body site))))
    (received_in_block (block_from 0 body a inside (in_for a inside body site)))
loop_matches body laws a inside site clean =
    let h : BlockSends body 0 = block_sends body laws 0 in
    let there : Site = in_for a inside body site in
    let known : AllByRecursion (λ w. has_label h.sent_words w.name ≡ true) h.received_words =
    words_known h.sent_words h.received_words
    (subst (λ (x : List Word). Clean (unknown_labels h.sent_words x)) (h.received no_messages)
    (subst (λ (x : List Word). Clean (unknown_labels x (messages_of_statements (parts_in body) no_messages).received))
    (h.sent no_messages) clean.1.1)) in
    subst (λ (sent : List Message). AllByRecursion (λ m. IsAmong m sent) (received_in_block (block_from 0 body a inside there)))
    (sym (h.core_sent a inside there))
    (subst (λ (received : List Message). AllByRecursion (λ m. IsAmong m (sent_in body a inside)) received)
    (sym (h.core_received a inside there))
    (all_among (sent_in body a inside) h.sent_words h.received_words (h.labelled a inside) known))

-- Statements

abbrev pub KindMatches : ElaboratedStatementKind → Type 0
KindMatches k = (a : Environment) (v : Visible) (stand : StatementContext) (span : Span) → Clean (k.checked.faults span a v stand)
    → (site : Site)
    → MatchedStatement (k.statement span a v site)

abbrev pub StmtMatches : ElaboratedStatement → Type 0
StmtMatches s = (a : Environment) (v : Visible) (stand : StatementContext) → Clean (s.checked.faults a v stand) → (site : Site)
    → MatchedStatement (s.statement a v site)

block_matched : (ss : List ElaboratedStatement) → AllByRecursion StmtMatches ss
    → (n : ℕ) (a : Environment) (v : Visible) (stand : StatementContext)
    → Clean (faults_of_statements (parts_in ss) a v stand) → (site : Site) → MatchedBlock (block_from n ss a v site)
block_matched [] laws n a v stand clean site = tt
block_matched (s ∷ ss) laws n a v stand clean site =
    (laws.0 a v stand clean.0 (at n site), block_matched ss laws.1 (n + 1) a (s.checked.behind v) stand clean.1 site)

not_counted : false ≡ true → ⊥
not_counted h = cc h

all_matched : (ss : List (StmtsWith StmtMatches)) → AllByRecursion StmtMatches (elaborations ss)
all_matched = all_with elaborated_statement StmtMatches

layer_matched : LayerStep KindMatches StmtMatches
layer_matched (StmtKind-F.If e first second) = λ a v stand span clean site. (
  block_matched (elaborations first) (all_matched first) 0 a v (in_branch stand) clean.1.0 (at 0 site),
  block_matched (elaborations second) (all_matched second) 0 a v (in_branch stand) clean.1.1 (at 1 site),
)
layer_matched (StmtKind-F.While es e body) =
    λ a v stand span clean site. block_matched (elaborations body) (all_matched body) 0 a v (in_while stand) clean.1.1 (at 0 site)
layer_matched (StmtKind-F.For range c body) = λ a v stand span clean site.
    let inside : Visible = inside_for v range in (
      λ counted. loop_matches (elaborations body) (all_made elaborated_statement StmtSends statement_sends (trees body)) a inside
          (at 0 site) clean.1.1.1.1,
      block_matched (elaborations body) (all_matched body) 0 a inside (among_members surround.Loop stand) clean.1.1.1.0.1
          (in_for a inside (elaborations body) (at 0 site)),
    )
layer_matched (StmtKind-F.Par o range c body) = λ a v stand span clean site. (
  λ counted. absurd (not_counted counted),
  block_matched (elaborations body) (all_matched body) 0 a (inside_par v o range)
      (among_members surround.Block stand) clean.1.1.1.1.1 (in_par range (at 0 site)),
)
layer_matched _ = λ a v stand span clean site. tt

statement_matches : (s : Stmt) → StmtMatches (elaborated_statement s)
statement_matches =
    piece_induction KindMatches StmtMatches layer_matched (λ span k law a v stand clean site. law a v stand span clean site)

-- Programs

statements_match : (ss : List Stmt) → AllByRecursion StmtMatches (map elaborated_statement ss)
statements_match = all_made elaborated_statement StmtMatches statement_matches

body_from : (ss : List ElaboratedStatement) → AllByRecursion StmtMatches ss
    → (n : ℕ) (a : Environment) (v : Visible) (stand : StatementContext)
    → Clean (faults_of_body (parts_in ss) a v stand) → (site : Site) → MatchedBlock (block_from n ss a v site)
body_from [] laws n a v stand clean site = tt
body_from (s ∷ ss) laws n a v stand clean site = (
  laws.0 a v (record stand { last = is_nothing (parts_in ss) }) clean.0 (at n site),
  body_from ss laws.1 (n + 1) a (s.checked.behind v) stand clean.1 site,
)

body_matched : (a : Environment) (v : Visible) (method : Bool) (ss : List Stmt)
    → Clean (faults_of_body (parts_of_block ss) a v (at_body method)) → MatchedBlock (core_of_body a v ss)
body_matched a v method ss clean =
    body_from (map elaborated_statement ss) (statements_match ss) 0 a v (at_body method)
    (subst (λ (ps : List CheckedStatement). Clean (faults_of_body ps a v (at_body method))) (sym (checked_in_all_elaborated ss))
    clean)
    (outermost v)

members_matched : (a : Environment) (ms : List Member) → Clean (faults_of_members a ms)
    → AllByRecursion MatchedMember (map (core_of_member a) ms)
members_matched a [] clean = tt
members_matched a (member.Field f ∷ ms) clean = (tt, members_matched a ms clean.1)
members_matched a (member.Predicate q ∷ ms) clean = (tt, members_matched a ms clean.1)
members_matched a (member.Method m ∷ ms) clean = (
  body_matched (in_method a m)
      (parameters_in_scope m) true m.body clean.0.1.1.1.0,
  members_matched a ms clean.1,
)
members_matched a (member.Run r ∷ ms) clean = (
  body_matched a nothing_visible false r.body clean.0.1,
  members_matched a ms clean.1,
)

classes_matched : (p : Program) (cs : List Class) → Clean (faults_of_classes p cs)
    → AllByRecursion MatchedClass (map (core_of_class p) cs)
classes_matched p [] clean = tt
classes_matched p (c ∷ cs) clean = (members_matched (in_class p c) c.members clean.0.1.1.1, classes_matched p cs clean.1)

pub program_matched : (p : Program) → KeepsRules p → IsMatched (core_of p)
program_matched p keeps = classes_matched p p.classes (clean_from (faults_of_program p) keeps).1
