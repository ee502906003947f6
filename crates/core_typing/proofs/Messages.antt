-- Messages of a counted loop: what its body sends is well typed at its head, and what it receives is sent.
use Rattle.std.proofs.Common.{◌≡◌, ◌≤◌, ℕ, zero, suc, nat_eq, arith, Bool, true, false, ◌||◌, Option, Some, None, List, [], ◌∷◌, ◌++◌, map, refl, sym, ◌∙◌, ap, subst}
use Rattle.std.proofs.lemmas.Bool.{both_ways}
use Rattle.std.proofs.lemmas.List.{append_assoc, append-nil, map-append}
use Rattle.std.specs.Prelude.{if◌then◌else◌}
use Rattle.std.specs.List.{AllByRecursion, list_any}
use Rattle.pv_base.specs.declared.Name.{Name}
use Rattle.pv_base.specs.declared.Span.{Span}
use Rattle.pv_ast.specs.declared.Word.{Word}
use Rattle.pv_ast.specs.declared.TypeWord.{TypeWord}
use Rattle.pv_ast.specs.declared.PvType.TheVariants.{Truth}
use Rattle.pv_ast.specs.declared.Expr.{Expr}
use Rattle.pv_ast.specs.declared.Right.{Right}
use Rattle.pv_ast.specs.declared.Contract.{Contract}
use Rattle.pv_ast.specs.declared.Range.{Range}
use Rattle.pv_ast.specs.declared.Stmt.{Stmt}
use Rattle.pv_ast.specs.declared.StmtKind.{StmtKind-F}
use Rattle.pv_ast.specs.declared.fault.Rule.TheVariants as rule
use Rattle.pv_ast.specs.declared.fault.ShapeFault.{ShapeFault}
use Rattle.pv_ast.specs.declared.standing.Need.TheVariants.{Exactly}
use Rattle.pv_ast.specs.declared.standing.StatementContext.{StatementContext}
use Rattle.pv_ast.specs.Rules.Faults.{Faults, broken_if}
use Rattle.pv_base.specs.Names.{same_name}
use Rattle.pv_ast.specs.Rules.Scoping.{Visible, is_visible}
use Rattle.pv_ast.specs.Rules.Expressions.{Environment, checked_expression}
use Rattle.pv_ast.specs.Rules.Shapes as shapes
use Rattle.pv_ast.specs.Rules.Shapes.{quantifiers_in, faults_of_formulas as shapes_of_formulas, faults_of_each, faults_in_stmt_kind as shapes_in_stmt_kind, faults_in_stmt, faults_of_stmt, faults_of_stmt_kind}
use Rattle.pv_ast.specs.Rules.Statements.{Messages, no_messages, has_label, unknown_labels, messages_of_statements, faults_of_statements, between_members, in_branch, in_while}
use Rattle.pv_picks.specs.Plain.Core.{Message}
use Rattle.pv_picks.specs.Plain.Core as core
use Rattle.pv_picks.specs.Elaborating.Expressions.{core_of_formula}
use Rattle.pv_picks.specs.Elaborating.Statements.{ElaboratedStatement, ElaboratedStatementKind, sent_in, message_of, elaborated_statement}
use Rattle.core_trees.proofs.Clean.{Clean, unless_holds, if_fails, no_first, no_second}
use Rattle.core_trees.proofs.Agreeing.{Agree, agree_local}
use Rattle.core_trees.proofs.ConfiningStmts.{both_confined}
use Rattle.core_trees.proofs.Heads.{at_head}
use Rattle.core_trees.proofs.StmtLayers.{ShapedWith, ShapedLayer, ShapedHas, ShapedLayerStep, shaped_induction, trees, elaborations, parts_in, shapes_of}
use Rattle.pv_picks.specs.Typing.Expressions.{Home, silent}
use Rattle.core_trees.specs.Formulas.{FormulaFits, MessageFits}
use Rattle.core_typing.proofs.Places.{Speaks, says_nothing}
use Rattle.core_typing.proofs.Standing.{InLoop, AllFit}
use Rattle.core_typing.proofs.Formulas.{item_formula_within}
use Rattle.core_typing.proofs.Outside.{formula_outside}

-- the name of a word is among the names
abbrev pub IsAmong : List Name → Word → Type 0
IsAmong names w = list_any (same_name w.name) names ≡ true

abbrev pub names_of : List Word → List Name
names_of words = map (λ w. w.name) words

abbrev pub labels_of : List Message → List Name
labels_of ms = map (λ m. m.label) ms

-- A message at the head of the body

pub between : (a : Environment) → Speaks silent a between_members
between a = says_nothing silent a between_members refl refl

-- it goes to another member
pub some_way : (n : ℕ) (span : Span) → Clean (broken_if (nat_eq n 0) rule.MessageRule span) → 1 ≤ n
some_way n span clean = positive n (if_fails (nat_eq n 0) rule.MessageRule span clean)
  where
    positive : (n : ℕ) → nat_eq n 0 ≡ false → 1 ≤ n
    positive zero k = absurd cc
    positive (suc n) k = omega arith

message_items : (o : Option ℕ) (e : Expr) (n : ℕ) → o ≡ Some n → shapes.faults_of_message o e ≡ [] → shapes.faults_of_items n e
    ≡ []
message_items None e n is none = absurd cc
message_items (Some m) e n is none = let same : m ≡ n = cc in subst (λ m. shapes.faults_of_items m e ≡ []) same none

pub message_fits : (e : Expr) (h : Home) (a : Environment) (v : Visible) (head : List core.Parameter) (there : Visible)
    (environment : shapes.Environment) → InLoop h a v head there environment
    → Clean ((checked_expression e).faults a v between_members (Exactly Truth))
    → shapes.faults_of_message environment.loop e ≡ [] → FormulaFits h silent head (core_of_formula a there e)
message_fits e h a v head there environment l clean none =
    let there_clean = (at_head e a v there between_members (Exactly Truth) l.agree refl clean).1 in
    let items = message_items environment.loop e l.position.0 l.loop none in
    formula_outside (core_of_formula a there e) h silent head
    (both_confined e l.position a there between_members there_clean items).0
    (item_formula_within e l.position h silent a there head between_members (sym (l.place.listed l.position) ∙ l.number) l.place
    (between a)
    there_clean items).0

pub agreeing : {h : Home} {a : Environment} {v after : Visible} {head : List core.Parameter} {there : Visible}
    {environment : shapes.Environment}
    → Agree after there → InLoop h a v head there environment → InLoop h a after head there environment
agreeing agree l = record { position = l.position; loop = l.loop; number = l.number; place = l.place; agree = agree }

-- what a statement hears and sends: what was received before stays, and what it sends has the labels that it tells, and is well
-- typed
pub record Sends (messages : Messages → Messages) (behind : Visible → Visible)
    (faults : Environment → Visible → StatementContext → Faults)
    (sent : Environment → Visible → List Message) (shape : shapes.Environment → List ShapeFault) : Type 0 where
  pub grows : (names : List Name) (m : Messages) → AllByRecursion (IsAmong names) (messages m).received
      → AllByRecursion (IsAmong names) m.received
  pub labels : (a : Environment) (there : Visible) (m : Messages) → names_of (messages m).sent ≡ names_of m.sent
      ++ labels_of (sent a there)
  pub agree : (a : Environment) (v there : Visible) (stand : StatementContext) → Clean (faults a v stand) → Agree v there
      → Agree (behind v) there
  pub told : (h : Home) (a : Environment) (v : Visible) (head : List core.Parameter) (there : Visible) (stand : StatementContext)
      (environment : shapes.Environment) → InLoop h a v head there environment → stand.looped ≡ true → Clean (faults a v stand)
      → shape environment ≡ []
      → AllFit h head (sent a there)

abbrev pub KindLaw : ElaboratedStatementKind → (shapes.Environment → List ShapeFault) → Type 0
KindLaw k shape = (span : Span) → Sends k.checked.messages k.checked.behind (k.checked.faults span) k.sent shape

abbrev pub StmtLaw : ElaboratedStatement → (shapes.Environment → List ShapeFault) → Type 0
StmtLaw s shape = Sends s.checked.messages s.checked.behind s.checked.faults s.sent shape

abbrev Stmts : Type 0
Stmts = ShapedWith StmtLaw

abbrev LayerLaw : ShapedLayer KindLaw StmtLaw → Type 0
LayerLaw = ShapedHas KindLaw StmtLaw

-- Blocks

block_grows : (ss : List Stmts) (names : List Name) (m : Messages)
    → AllByRecursion (IsAmong names) (messages_of_statements (parts_in (elaborations ss)) m).received
    → AllByRecursion (IsAmong names) m.received
block_grows [] names m k = k
block_grows (s ∷ ss) names m k = s.1.grows names m (block_grows ss names ((elaborated_statement s.0).checked.messages m) k)

block_labels : (ss : List Stmts) (a : Environment) (there : Visible) (m : Messages)
    → names_of (messages_of_statements (parts_in (elaborations ss)) m).sent ≡ names_of m.sent
    ++ labels_of (sent_in (elaborations ss) a there)
block_labels [] a there m = sym (append-nil (names_of m.sent))
block_labels (s ∷ ss) a there m =
    let own : List Message = (elaborated_statement s.0).sent a there in
    let rest : List Message = sent_in (elaborations ss) a there in
    block_labels ss a there ((elaborated_statement s.0).checked.messages m)
    ∙ ap (λ names. names ++ labels_of rest) (s.1.labels a there m)
    ∙ append_assoc (names_of m.sent) (labels_of own) (labels_of rest)
    ∙ ap (λ names. names_of m.sent ++ names) (sym (map-append (λ (x : Message). x.label) own rest))

all_append : (h : Home) (head : List core.Parameter) (ms ns : List Message) → AllFit h head ms → AllFit h head ns
    → AllFit h head (ms ++ ns)
all_append h head [] ns i j = j
all_append h head (m ∷ ms) ns i j = (i.0, all_append h head ms ns i.1 j)

block_told : (ss : List Stmts) (h : Home) (a : Environment) (v : Visible) (head : List core.Parameter) (there : Visible)
    (stand : StatementContext)
    (environment : shapes.Environment) → InLoop h a v head there environment → stand.looped ≡ true
    → Clean (faults_of_statements (parts_in (elaborations ss)) a v stand) → shapes_of ss environment ≡ []
    → AllFit h head (sent_in (elaborations ss) a there)
block_told [] h a v head there stand environment l looped clean none = tt
block_told (s ∷ ss) h a v head there stand environment l looped clean none =
    all_append h head ((elaborated_statement s.0).sent a there) (sent_in (elaborations ss) a there)
    (s.1.told h a v head there stand environment l looped clean.0
    (no_first (faults_of_stmt s.0 environment) (shapes_of ss environment) none))
    (block_told ss h a ((elaborated_statement s.0).checked.behind v) head there stand environment
    (agreeing (s.1.agree a v there stand clean.0 l.agree) l) looped clean.1
    (no_second (faults_of_stmt s.0 environment) (shapes_of ss environment) none))

-- a statement that sends, receives and declares nothing
quiet : {faults : Environment → Visible → StatementContext → Faults} {shape : shapes.Environment → List ShapeFault}
    → Sends (λ m. m) (λ v. v) faults (λ a v. []) shape
quiet = record {
  grows = λ names m k. k;
  labels = λ a there m. sym (append-nil (names_of m.sent));
  agree = λ a v there stand clean x. x;
  told = λ h a v head there stand environment l looped clean none. tt;
}

if_law : (e : Expr) (first second : List Stmts) → LayerLaw (StmtKind-F.If e first second)
if_law e first second = λ span. record {
  grows =
      λ names m k. block_grows first names m (block_grows second names (messages_of_statements (parts_in (elaborations first)) m)
      k);
  labels = λ a there m.
      let one : List Message = sent_in (elaborations first) a there in
      let two : List Message = sent_in (elaborations second) a there in
      block_labels second a there (messages_of_statements (parts_in (elaborations first)) m)
      ∙ ap (λ names. names ++ labels_of two) (block_labels first a there m)
      ∙ append_assoc (names_of m.sent) (labels_of one) (labels_of two)
      ∙ ap (λ names. names_of m.sent ++ names) (sym (map-append (λ (x : Message). x.label) one two));
  agree = λ a v there stand clean x. x;
  told = λ h a v head there stand environment l looped clean none.
      let before : quantifiers_in e ++ shapes_of first environment ≡ [] =
      no_first (quantifiers_in e ++ shapes_of first environment) (shapes_of second environment) none in
      all_append h head (sent_in (elaborations first) a there) (sent_in (elaborations second) a there)
      (block_told first h a v head there (in_branch stand) environment l looped clean.1.0
      (no_second (quantifiers_in e) (shapes_of first environment) before))
      (block_told second h a v head there (in_branch stand) environment l looped clean.1.1
      (no_second (quantifiers_in e ++ shapes_of first environment) (shapes_of second environment) none));
}

while_law : (es : List Expr) (e : Expr) (body : List Stmts) → LayerLaw (StmtKind-F.While es e body)
while_law es e body = λ span. record {
  grows = λ names m k. block_grows body names m k;
  labels = λ a there m. block_labels body a there m;
  agree = λ a v there stand clean x. x;
  told = λ h a v head there stand environment l looped clean none.
      block_told body h a v head there (in_while stand) environment l looped clean.1.1
      (no_second (shapes_of_formulas es ++ quantifiers_in e) (shapes_of body environment) none);
}

par_law : (o : Option Word) (range : Range) (c : Contract) (body : List Stmts) → LayerLaw (StmtKind-F.Par o range c body)
par_law o range c body = λ span. record {
  grows = λ names m k. block_grows body names m k;
  labels = λ a there m. block_labels body a there m;
  agree = λ a v there stand clean x. x;
  told =
      λ h a v head there stand environment l looped clean none. absurd
      (both_ways stand.looped (if_fails stand.looped rule.BodyForm span clean.0) looped);
}

local_law : (type : TypeWord) (w : Word) (value : Option Right) → LayerLaw (StmtKind-F.Local type w value)
local_law type w value = λ span. record {
  grows = λ names m k. k;
  labels = λ a there m. sym (append-nil (names_of m.sent));
  agree =
      λ a v there stand clean x. agree_local v there w.name type.kind
      (if_fails (is_visible v w.name) rule.Shadows w.span clean.1.0) x;
  told = λ h a v head there stand environment l looped clean none. tt;
}

send_law : (w : Word) (n : ℕ) (e : Expr) → LayerLaw (StmtKind-F.Send w n e)
send_law w n e = λ span. record {
  grows = λ names m k. k;
  labels = λ a there m. map-append (λ (x : Word). x.name) m.sent (w ∷ []);
  agree = λ a v there stand clean x. x;
  told = λ h a v head there stand environment l looped clean none.
      ((some_way n w.span clean.1.0, message_fits e h a v head there environment l clean.1.1 none), tt);
}

first_all : (names : List Name) (ws vs : List Word) → AllByRecursion (IsAmong names) (ws ++ vs)
    → AllByRecursion (IsAmong names) ws
first_all names [] vs k = tt
first_all names (w ∷ ws) vs k = (k.0, first_all names ws vs k.1)

pub last_one : (names : List Name) (ws : List Word) (w : Word) → AllByRecursion (IsAmong names) (ws ++ w ∷ []) → IsAmong names w
last_one names [] w k = k.0
last_one names (x ∷ ws) w k = last_one names ws w k.1

receive_law : (w : Word) → LayerLaw (StmtKind-F.Recv w)
receive_law w = λ span. record {
  grows = λ names m k. first_all names m.received (w ∷ []) k;
  labels = λ a there m. sym (append-nil (names_of m.sent));
  agree = λ a v there stand clean x. x;
  told = λ h a v head there stand environment l looped clean none. tt;
}

-- The induction

layer_law : ShapedLayerStep KindLaw StmtLaw
layer_law (StmtKind-F.Local type w value) = local_law type w value
layer_law (StmtKind-F.If e first second) = if_law e first second
layer_law (StmtKind-F.While es e body) = while_law es e body
layer_law (StmtKind-F.Par o range c body) = par_law o range c body
layer_law (StmtKind-F.Send w n e) = send_law w n e
layer_law (StmtKind-F.Recv w) = receive_law w
layer_law _ = λ span. quiet

sends_law : (s : Stmt) → StmtLaw (elaborated_statement s) (faults_of_stmt s)
sends_law = shaped_induction KindLaw StmtLaw layer_law (λ span k shape law. law span)

-- Statements as they stand

with_laws : List Stmt → List Stmts
with_laws [] = []
with_laws (s ∷ ss) = (s, sends_law s) ∷ with_laws ss

same_trees : (ss : List Stmt) → trees (with_laws ss) ≡ ss
unfolding with_laws
same_trees [] = refl
same_trees (s ∷ ss) = ap (λ ts. s ∷ ts) (same_trees ss)

pub statements_grow : (ss : List Stmt) (names : List Name) (m : Messages)
    → AllByRecursion (IsAmong names) (messages_of_statements (parts_in (map elaborated_statement ss)) m).received
    → AllByRecursion (IsAmong names) m.received
statements_grow ss names m k =
    subst (λ ts. AllByRecursion (IsAmong names) (messages_of_statements (parts_in (map elaborated_statement ts)) m).received
    → AllByRecursion (IsAmong names) m.received) (same_trees ss) (block_grows (with_laws ss) names m) k

pub statements_label : (ss : List Stmt) (a : Environment) (there : Visible)
    → names_of (messages_of_statements (parts_in (map elaborated_statement ss)) no_messages).sent
    ≡ labels_of (sent_in (map elaborated_statement ss) a there)
statements_label ss a there =
    subst (λ ts. names_of (messages_of_statements (parts_in (map elaborated_statement ts)) no_messages).sent
    ≡ labels_of (sent_in (map elaborated_statement ts) a there)) (same_trees ss) (block_labels (with_laws ss) a there no_messages)

pub statements_tell : (ss : List Stmt) (h : Home) (a : Environment) (v : Visible) (head : List core.Parameter) (there : Visible)
    (stand : StatementContext) (environment : shapes.Environment) → InLoop h a v head there environment → stand.looped ≡ true
    → Clean (faults_of_statements (parts_in (map elaborated_statement ss)) a v stand)
    → faults_of_each (map faults_of_stmt ss) environment ≡ []
    → AllFit h head (sent_in (map elaborated_statement ss) a there)
statements_tell ss h a v head there stand environment l looped =
    subst (λ ts. Clean (faults_of_statements (parts_in (map elaborated_statement ts)) a v stand)
    → faults_of_each (map faults_of_stmt ts) environment ≡ [] → AllFit h head (sent_in (map elaborated_statement ts) a there))
    (same_trees ss)
    (block_told (with_laws ss) h a v head there stand environment l looped)

-- What is received

label_or : (b : Bool) (words : List Word) (name : Name)
    → (has_label words name ≡ true → list_any (same_name name) (names_of words) ≡ true) → (b || has_label words name) ≡ true
    → (b || list_any (same_name name) (names_of words)) ≡ true
label_or true words name rest k = refl
label_or false words name rest k = rest k

label_among : (words : List Word) (name : Name) → has_label words name ≡ true → list_any (same_name name) (names_of words) ≡ true
label_among [] name k = k
label_among (w ∷ ws) name k = label_or (same_name name w.name) ws name (λ i. label_among ws name i) k

pub all_sent : (labels received : List Word) → Clean (unknown_labels labels received)
    → AllByRecursion (IsAmong (names_of labels)) received
all_sent labels [] clean = tt
all_sent labels (w ∷ ws) clean = (
  label_among labels w.name (unless_holds (has_label labels w.name) rule.UnknownName w.span clean.0),
  all_sent labels ws clean.1,
)

message_or : (h : Home) (head : List core.Parameter) (b : Bool) (m n : Message) (others : Bool) → MessageFits h head m
    → (others ≡ true → MessageFits h head n) → (b || others) ≡ true → MessageFits h head (if b then m else n)
message_or h head true m n others fits rest k = fits
message_or h head false m n others fits rest k = rest k

pub received_fits : (h : Home) (head : List core.Parameter) (ms : List Message) (label : Name) → AllFit h head ms
    → list_any (same_name label) (labels_of ms) ≡ true → MessageFits h head (message_of ms label)
received_fits h head [] label all k = absurd cc
received_fits h head (m ∷ ms) label all k =
    message_or h head (same_name label m.label) m (message_of ms label) (list_any (same_name label) (labels_of ms)) all.0
    (λ i. received_fits h head ms label all.1 i) k
