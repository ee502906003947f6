-- A statement without a fault becomes a resolved one, wherever it stands.
use Rattle.std.proofs.Common.{◌≡◌, ℕ, ◌+◌, Bool, true, false, not, ◌||◌, Option, Some, None, List, [], ◌∷◌, ◌++◌, refl, arith}
use Rattle.std.proofs.lemmas.Bool.{both_ways}
use Rattle.std.specs.Prelude.{if◌then◌else◌}
use Rattle.std.specs.List.{AllByRecursion}
use Rattle.pv_base.specs.declared.Name.{Name}
use Rattle.pv_base.specs.declared.Span.{Span}
use Rattle.pv_ast.specs.declared.Word.{Word}
use Rattle.pv_ast.specs.declared.PvType.TheVariants.{Int, Truth, Null}
use Rattle.pv_ast.specs.declared.Expr.{Expr}
use Rattle.pv_ast.specs.declared.Contract.{Contract}
use Rattle.pv_ast.specs.declared.Range.{Range}
use Rattle.pv_ast.specs.declared.Stmt.{Stmt}
use Rattle.pv_ast.specs.declared.StmtKind.{StmtKind-F}
use Rattle.pv_ast.specs.declared.fault.Rule.TheVariants as rule
use Rattle.pv_ast.specs.declared.scope.Declaration.TheVariants.{Local, LoopVariable, Block}
use Rattle.pv_ast.specs.declared.standing.Need.TheVariants.{Anything, Exactly}
use Rattle.pv_ast.specs.declared.standing.StatementContext.{StatementContext}
use Rattle.pv_ast.specs.declared.standing.Surround.TheVariants as surround
use Rattle.pv_ast.specs.Rules.Lookup.{is_declared_type}
use Rattle.pv_base.specs.Names.{same_name}
use Rattle.pv_ast.specs.Rules.Scoping.{Visible, entered, is_visible}
use Rattle.pv_ast.specs.Rules.Expressions as rules
use Rattle.pv_ast.specs.Rules.Expressions.{Environment, checked_expression, typing_in}
use Rattle.pv_ast.specs.Rules.Statements as statements
use Rattle.pv_ast.specs.Rules.Statements.{CheckedStatement, CheckedStatementKind, checked_in_statement_kind, checked_in_statement, checked_statement, parts_of_block, faults_of_statements, faults_of_for, faults_of_par, faults_of_message_place, in_statement, in_condition, between_members, in_invariant, in_branch, in_while, among_members, is_loop, with_block, with_loop_variable, need_like, faults_of_expression, faults_of_range}
use Rattle.pv_picks.specs.Plain.Core.{Message, Statement}
use Rattle.pv_picks.specs.Plain.Core as core
use Rattle.pv_picks.specs.Elaborating.Expressions.{core_of_expression, core_of_formula}
use Rattle.pv_picks.specs.Elaborating.Statements.{ElaboratedStatement, ElaboratedStatementKind, Site, at, block_from, sent_in, message_of, inside_for, inside_par, in_for, in_par, elaborated_in_statement_kind, elaborated_statement, core_of_action, once, assigned_in}
use Rattle.core_trees.specs.Resolved.{token_of, behind, ResolvedFormula, ResolvedStatement, ResolvedBlock}
use Rattle.core_trees.proofs.Clean.{Clean, unless_holds, if_fails}
use Rattle.core_trees.proofs.Sound.{Sound, sound_with}
use Rattle.core_trees.proofs.Agreeing.{Agree, agree_local, agree_head}
use Rattle.core_trees.proofs.Heads.{at_head}
use Rattle.core_trees.proofs.Keeping.{target_kept}
use Rattle.core_trees.proofs.StmtLayers.{LayerStep, elaborations, parts_in, piece_induction, StmtsWith}
use Rattle.core_trees.proofs.Uses.{kept, formulas_kept, shared_kept, use_kept, call_kept, right_kept, first_value_kept, returned_kept, operand_kept}
use Rattle.core_trees.proofs.Knowing.{Knows, knows_all, knows_declared, knows_local, knows_block, knows_entered, knows_behind, variables_known}
use Rattle.core_trees.proofs.Induction.{all_with}

-- The laws of a statement

abbrev pub AllMessages : core.Program → List Name → List Message → Type 0
AllMessages tree head ms = AllByRecursion (λ m. ResolvedFormula tree head m.formula) ms

-- in a counted loop's body: the scope agrees with that at its head, where the messages that the body sends are resolved
pub record InLoop (tree : core.Program) (head : List Name) (a : Environment) (v there : Visible)
    (messages : List Message) : Type 0 where
  pub agree : Agree v there
  pub sound : Sound tree a there
  pub known : Knows false there head
  pub told : AllMessages tree head messages

abbrev pub AtSite : core.Program → List Name → Environment → Visible → StatementContext → Site → Type 0
AtSite tree head a v stand site = is_loop stand.surround ≡ true → InLoop tree head a v site.head site.messages

-- what a statement without a fault gives: it becomes resolved; behind it the names in scope are sound still, and known, also
-- those at the head, with which they agree; and the messages that it sends are resolved there
pub record Done (tree : core.Program) (a : Environment) (v : Visible) (stand : StatementContext) (statement_at : Site → Statement)
    (after : Visible)
    (sent_at : Visible → List Message) : Type 0 where
  pub statement : (head names : List Name) (site : Site) → Knows true v names → Knows false v head
      → AtSite tree head a v stand site → ResolvedStatement tree head names (statement_at site)
  pub sound : Sound tree a after
  pub known : (names : List Name) (site : Site) → Knows true v names → Knows true after (behind names (statement_at site))
  pub shared : (head : List Name) → Knows false v head → Knows false after head
  pub agree : (there : Visible) → Agree v there → Agree after there
  pub sent : (head : List Name) (there : Visible) → stand.looped ≡ true → Agree v there → Sound tree a there
      → Knows false there head → AllMessages tree head (sent_at there)

abbrev pub KindLaw : ElaboratedStatementKind → Type 0
KindLaw k = (tree : core.Program) (a : Environment) (v : Visible) (stand : StatementContext) (span : Span) → Sound tree a v
    → Clean (k.checked.faults span a v stand) → Done tree a v stand (λ site. k.statement span a v site) (k.checked.behind v)
    (λ there. k.sent a there)

abbrev pub StmtLaw : ElaboratedStatement → Type 0
StmtLaw s = (tree : core.Program) (a : Environment) (v : Visible) (stand : StatementContext) → Sound tree a v
    → Clean (s.checked.faults a v stand)
    → Done tree a v stand (λ site. s.statement a v site) (s.checked.behind v) (λ there. s.sent a there)

abbrev pub AllLaws : List ElaboratedStatement → Type 0
AllLaws ss = AllByRecursion StmtLaw ss

-- a statement that sends nothing and declares nothing
still : (tree : core.Program) (a : Environment) (v : Visible) (stand : StatementContext) (statement_at : Site → Statement)
    → Sound tree a v
    → ((head names : List Name) (site : Site) → Knows true v names → Knows false v head → AtSite tree head a v stand site
    → ResolvedStatement tree head names (statement_at site)) → Done tree a v stand statement_at v (λ there. [])
still tree a v stand statement_at sound h = record {
  statement = h;
  sound = sound;
  known = λ names site known. knows_behind true v names (statement_at site) known;
  shared = λ head shared. shared;
  agree = λ there x. x;
  sent = λ head there looped agree s known. tt;
}

-- Blocks

-- further on in a block
behind_site : (tree : core.Program) (head : List Name) (a : Environment) (v after : Visible) (stand : StatementContext)
    (site : Site)
    → ((there : Visible) → Agree v there → Agree after there) → AtSite tree head a v stand site
    → AtSite tree head a after stand site
behind_site tree head a v after stand site agree h =
    λ loop. let k = h loop in record { agree = agree site.head k.agree; sound = k.sound; known = k.known; told = k.told }

pub block_kept : (ss : List ElaboratedStatement) → AllLaws ss
    → (n : ℕ) (tree : core.Program) (head names : List Name) (a : Environment) (v : Visible) (stand : StatementContext)
    (site : Site)
    → Sound tree a v → Knows true v names → Knows false v head
    → Clean (faults_of_statements (parts_in ss) a v stand) → AtSite tree head a v stand site
    → ResolvedBlock tree head names (block_from n ss a v site)
block_kept [] laws n tree head names a v stand site sound known shared clean here = tt
block_kept (s ∷ ss) laws n tree head names a v stand site sound known shared clean here =
    let h = laws.0 tree a v stand sound clean.0 in (
      h.statement head names (at n site) known shared here,
      block_kept ss laws.1 (n + 1) tree head (behind names (s.statement a v (at n site))) a (s.checked.behind v) stand site
          h.sound
          (h.known names (at n site) known) (h.shared head shared) clean.1
          (behind_site tree head a v (s.checked.behind v) stand site h.agree here),
    )

messages_append : (tree : core.Program) (head : List Name) (ms ns : List Message) → AllMessages tree head ms
    → AllMessages tree head ns → AllMessages tree head (ms ++ ns)
messages_append tree head [] ns h k = k
messages_append tree head (m ∷ ms) ns h k = (h.0, messages_append tree head ms ns h.1 k)

sent_kept : (ss : List ElaboratedStatement) → AllLaws ss
    → (tree : core.Program) (head : List Name) (a : Environment) (v there : Visible)
    (stand : StatementContext) → Sound tree a v → Clean (faults_of_statements (parts_in ss) a v stand) → stand.looped ≡ true
    → Agree v there → Sound tree a there → Knows false there head → AllMessages tree head (sent_in ss a there)
sent_kept [] laws tree head a v there stand sound clean looped agree s known = tt
sent_kept (p ∷ ps) laws tree head a v there stand sound clean looped agree s known =
    let h = laws.0 tree a v stand sound clean.0 in
    messages_append tree head (p.sent a there) (sent_in ps a there) (h.sent head there looped agree s known)
    (sent_kept ps laws.1 tree head a (p.checked.behind v) there stand h.sound clean.1 looped (h.agree there agree) s known)

-- Messages

message_if : (tree : core.Program) (head : List Name) (b : Bool) (m n : Message) → ResolvedFormula tree head m.formula
    → ResolvedFormula tree head n.formula → ResolvedFormula tree head (if b then m else n).formula
message_if tree head true m n h k = h
message_if tree head false m n h k = k

received_kept : (tree : core.Program) (head : List Name) (ms : List Message) (label : Name) → AllMessages tree head ms
    → ResolvedFormula tree head (message_of ms label).formula
received_kept tree head [] label h = tt
received_kept tree head (m ∷ ms) label h =
    message_if tree head (same_name label m.label) m (message_of ms label) h.0 (received_kept tree head ms label h.1)

loop_from : (a b : Bool) → (not a || b) ≡ false → a ≡ true
loop_from true b h = refl
loop_from false b h = absurd cc

loop_place : (stand : StatementContext) (span : Span) → Clean (faults_of_message_place stand span) → is_loop stand.surround ≡ true
loop_place stand span clean =
    loop_from (is_loop stand.surround) stand.repeated (if_fails (not (is_loop stand.surround) || stand.repeated) rule.MessagePlace
    span clean)

-- a message at the head of the body
message_kept : (tree : core.Program) (head : List Name) (a : Environment) (v there : Visible) (e : Expr) → Agree v there
    → Sound tree a there → Knows false there head → Clean ((checked_expression e).faults a v between_members (Exactly Truth))
    → ResolvedFormula tree head (core_of_formula a there e)
message_kept tree head a v there e agree sound known clean =
    (kept e tree head a there between_members (Exactly Truth) sound known
    (at_head e a v there between_members (Exactly Truth) agree refl clean).1).1.formula None

-- Scopes of par blocks and counted loops

sound_entered : (tree : core.Program) (a : Environment) (v : Visible) → Sound tree a v → Sound tree a (entered v)
sound_entered tree a v s =
    record {
      mirrors = s.mirrors;
      here = s.here;
      own = s.own;
      fields = s.fields;
      result = s.result;
      visible = s.visible;
      within = omega arith;
    }

sound_block : (tree : core.Program) (a : Environment) (v : Visible) (o : Option Word) → Sound tree a v
    → Sound tree a (with_block v o)
sound_block tree a v None s = s
sound_block tree a v (Some w) s = sound_with tree a v Block w.name Null refl s

pub sound_for : (tree : core.Program) (a : Environment) (v : Visible) (range : Range) → Sound tree a v
    → Sound tree a (inside_for v range)
sound_for tree a v range s = sound_with tree a (entered v) LoopVariable range.name.name Int refl (sound_entered tree a v s)

pub sound_par : (tree : core.Program) (a : Environment) (v : Visible) (o : Option Word) (range : Range) → Sound tree a v
    → Sound tree a (inside_par v o range)
sound_par tree a v o range s =
    sound_with tree a (with_block (entered v) o) LoopVariable range.name.name Int refl
    (sound_block tree a (entered v) o (sound_entered tree a v s))

known_for : (v : Visible) (range : Range) (names : List Name) → Knows true v names
    → Knows true (inside_for v range) (range.name.name ∷ names)
known_for v range names known =
    knows_declared true (entered v) LoopVariable range.name.name Int names (knows_entered v names known)

known_par : (v : Visible) (o : Option Word) (range : Range) (names : List Name) → Knows true v names
    → Knows true (inside_par v o range) (range.name.name ∷ names)
known_par v o range names known =
    knows_declared true (with_block (entered v) o) LoopVariable range.name.name Int names
    (knows_block (entered v) o names (knows_entered v names known))

looped_for : (b : Bool) → (b || true) ≡ true
looped_for true = refl
looped_for false = refl

-- Kinds

for_law : (range : Range) (c : Contract) (body : List ElaboratedStatement) → AllLaws body
    → KindLaw (elaborated_in_statement_kind (StmtKind-F.For range c body))
for_law range c body laws = λ tree a v stand span sound clean.
    let inside : Visible = inside_for v range in
    let there : Sound tree a inside = sound_for tree a v range sound in
    let inner : StatementContext = among_members surround.Loop stand in
    let agree : Agree inside inside =
    agree_head v LoopVariable range.name.name Int refl
    (if_fails (is_visible (entered v) range.name.name) rule.Shadows range.name.span clean.1.1.0) in
    still tree a v stand _ sound (λ head names site known shared here.
    let low = (kept range.low tree names a v in_statement (Exactly Int) sound known clean.1.0.0).1.expression in
    let high = (kept range.high tree names a v in_statement (Exactly Int) sound known clean.1.0.1).1.expression in
    let first : List Name = range.name.name ∷ names in
    let all : Knows true inside first = known_for v range names known in
    let some : Knows false inside first = knows_all false inside first all in
    let sent : AllMessages tree first (sent_in body a inside) =
    sent_kept body laws tree first a inside inside inner there clean.1.1.1.0.1 (looped_for stand.looped) agree there some in (
      (low, high, shared_kept tree first range.name.name a inside in_condition in_condition c there all all clean.1.1.1.0.0),
      block_kept body laws 0 tree first first a inside inner (in_for a inside body (at 0 site)) there all some clean.1.1.1.0.1
          (λ loop. record { agree = agree; sound = there; known = some; told = sent }),
    ))

par_law : (o : Option Word) (range : Range) (c : Contract) (body : List ElaboratedStatement) → AllLaws body
    → KindLaw (elaborated_in_statement_kind (StmtKind-F.Par o range c body))
par_law o range c body laws = λ tree a v stand span sound clean.
    let inside : Visible = inside_par v o range in
    let there : Sound tree a inside = sound_par tree a v o range sound in
    let inner : StatementContext = among_members surround.Block stand in
    record {
      statement = λ head names site known shared here.
          let low = (kept range.low tree names a v in_statement (Exactly Int) sound known clean.1.0.0).1.expression in
          let high = (kept range.high tree names a v in_statement (Exactly Int) sound known clean.1.0.1).1.expression in
          let first : List Name = range.name.name ∷ names in
          let all : Knows true inside first = known_par v o range names known in
          let some : Knows false inside first = knows_all false inside first all in (
            (
              low,
              high,
              shared_kept tree first range.name.name a inside in_condition in_condition c there all all
                  clean.1.1.1.1.0,
            ),
            block_kept body laws 0 tree first first a inside inner (in_par range (at 0 site)) there all some clean.1.1.1.1.1
                (λ loop. absurd (let no : false ≡ true = loop in cc)),
          );
      sound = sound;
      known = λ names site known. known;
      shared = λ head shared. shared;
      agree = λ there x. x;
      sent =
          λ head there looped agree s known. let never : stand.looped ≡ false =
          if_fails stand.looped rule.BodyForm span clean.0 in absurd (both_ways stand.looped never looped);
    }

action_law : (tree : core.Program) (a : Environment) (v : Visible) (stand : StatementContext) (action : core.Action) (span : Span)
    (e : Expr)
    → Sound tree a v → Clean (statements.faults_of_operand (rules.has_role (token_of action)) a v e)
    → Done tree a v stand (λ site. core_of_action action span a v e) v (λ there. [])
action_law tree a v stand action span e sound clean =
    still tree a v stand (λ site. core_of_action action span a v e) sound
    (λ head names site known shared here. operand_kept tree names a v (token_of action) e sound known clean)

if_law : (e : Expr) (first second : List ElaboratedStatement) → AllLaws first → AllLaws second
    → KindLaw (elaborated_in_statement_kind (StmtKind-F.If e first second))
if_law e first second law_first law_second = λ tree a v stand span sound clean. record {
  statement = λ head names site known shared here. (
    (kept e tree names a v in_statement (Exactly Truth) sound known clean.0).1.expression,
    block_kept first law_first 0 tree head names a v (in_branch stand) (at 0 site) sound known shared clean.1.0 here,
    block_kept second law_second 0 tree head names a v (in_branch stand) (at 1 site) sound known shared clean.1.1 here,
  );
  sound = sound;
  known = λ names site known. known;
  shared = λ head shared. shared;
  agree = λ there x. x;
  sent = λ head there looped agree s known.
      messages_append tree head (sent_in first a there) (sent_in second a there)
      (sent_kept first law_first tree head a v there (in_branch stand) sound clean.1.0 looped agree s known)
      (sent_kept second law_second tree head a v there (in_branch stand) sound clean.1.1 looped agree s known);
}

while_law : (es : List Expr) (e : Expr) (body : List ElaboratedStatement) → AllLaws body
    → KindLaw (elaborated_in_statement_kind (StmtKind-F.While es e body))
while_law es e body laws = λ tree a v stand span sound clean. record {
  statement = λ head names site known shared here. (
    variables_known v names (once (assigned_in body)) known,
    formulas_kept tree names a v (in_invariant stand) es sound known clean.0,
    (kept e tree names a v in_statement (Exactly Truth) sound known clean.1.0).1.expression,
    block_kept body laws 0 tree head names a v (in_while stand) (at 0 site) sound known shared clean.1.1 here,
  );
  sound = sound;
  known = λ names site known. known;
  shared = λ head shared. shared;
  agree = λ there x. x;
  sent =
      λ head there looped agree s known. sent_kept body laws tree head a v there
      (in_while stand) sound clean.1.1 looped agree s known;
}

all_laws : (ss : List (StmtsWith StmtLaw)) → AllByRecursion StmtLaw (elaborations ss)
all_laws = all_with elaborated_statement StmtLaw

layer_law : LayerStep KindLaw StmtLaw
layer_law (StmtKind-F.Local type w value) = λ tree a v stand span sound clean.
    let declared : is_declared_type a.program.classes type.kind ≡ true =
    unless_holds (is_declared_type a.program.classes type.kind) rule.UnknownName type.span clean.0 in
    let new : is_visible v w.name ≡ false = if_fails (is_visible v w.name) rule.Shadows w.span clean.1.0 in
    record {
      statement =
          λ head names site known shared here. (tt, first_value_kept tree names a v type.kind value sound known clean.1.1.0);
      sound = sound_with tree a v Local w.name type.kind declared sound;
      known = λ names site known. knows_declared true v Local w.name type.kind names known;
      shared = λ head shared. knows_local v w.name type.kind head sound.within shared;
      agree = λ there x. agree_local v there w.name type.kind new x;
      sent = λ head there looped agree s known. tt;
    }
layer_law (StmtKind-F.Assign place value) = λ tree a v stand span sound clean.
    still tree a v stand _ sound (λ head names site known shared here. (
      target_kept tree names (core_of_expression a v place)
          (kept place tree names a v in_statement Anything sound known clean.0).1.expression,
      right_kept tree names a v (need_like (typing_in (checked_expression place) a v)) value sound known clean.1.1.0,
    ))
layer_law (StmtKind-F.Call target w args) = λ tree a v stand span sound clean.
    still tree a v stand _ sound (λ head names site known shared here.
    (tt, call_kept tree names a v in_statement target w args sound known clean.1))
layer_law (StmtKind-F.If e first second) = if_law e (elaborations first) (elaborations second) (all_laws first) (all_laws second)
layer_law (StmtKind-F.While es e body) = while_law es e (elaborations body) (all_laws body)
layer_law (StmtKind-F.For range c body) = for_law range c (elaborations body) (all_laws body)
layer_law (StmtKind-F.Par o range c body) = par_law o range c (elaborations body) (all_laws body)
layer_law (StmtKind-F.Barrier w c) = λ tree a v stand span sound clean.
    still tree a v stand _ sound (λ head names site known shared here.
    shared_kept tree head site.position a v between_members between_members c sound shared shared clean.1)
layer_law (StmtKind-F.Fork e) = λ tree a v stand span sound clean. action_law tree a v stand core.Fork span e sound clean.1
layer_law (StmtKind-F.Join e) = λ tree a v stand span sound clean. action_law tree a v stand core.Join' span e sound clean.1
layer_law (StmtKind-F.Lock e) = λ tree a v stand span sound clean. action_law tree a v stand core.Lock span e sound clean.1
layer_law (StmtKind-F.Unlock e) = λ tree a v stand span sound clean. action_law tree a v stand core.Unlock span e sound clean.1
layer_law (StmtKind-F.Commit e) = λ tree a v stand span sound clean. action_law tree a v stand core.Commit span e sound clean.1
layer_law (StmtKind-F.Fold target w args) = λ tree a v stand span sound clean.
    still tree a v stand _ sound (λ head names site known shared here.
    use_kept tree names a v in_statement target w args sound known clean)
layer_law (StmtKind-F.Unfold target w args) = λ tree a v stand span sound clean.
    still tree a v stand _ sound (λ head names site known shared here.
    use_kept tree names a v in_statement target w args sound known clean)
layer_law (StmtKind-F.Assert e) = λ tree a v stand span sound clean.
    still tree a v stand _ sound (λ head names site known shared here.
    (kept e tree names a v (in_invariant stand) (Exactly Truth) sound known clean).1.formula None)
layer_law (StmtKind-F.Send w n e) = λ tree a v stand span sound clean. record {
  statement =
      λ head names site known shared here. let k = here (loop_place stand span clean.0) in
      message_kept tree head a v site.head e k.agree k.sound k.known clean.1.1;
  sound = sound;
  known = λ names site known. known;
  shared = λ head shared. shared;
  agree = λ there x. x;
  sent = λ head there looped agree s known. (message_kept tree head a v there e agree s known clean.1.1, tt);
}
layer_law (StmtKind-F.Recv w) = λ tree a v stand span sound clean.
    still tree a v stand _ sound (λ head names site known shared here. received_kept tree head site.messages w.name
    (here (loop_place stand span clean.0)).told)
layer_law (StmtKind-F.Return value) =
    λ tree a v stand span sound clean. still tree a v stand _ sound
    (λ head names site known shared here. returned_kept tree names a v value sound known clean.1)

-- The induction

-- each statement without a fault becomes resolved
pub statement_law : (s : Stmt) → StmtLaw (elaborated_statement s)
statement_law =
    piece_induction KindLaw StmtLaw layer_law (λ span k law tree a v stand sound clean. law tree a v stand span sound clean)
