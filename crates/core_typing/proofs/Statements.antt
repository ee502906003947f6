-- A statement without a fault becomes a well typed one, and so do the statements behind it.
use Rattle.std.proofs.Common.{◌≡◌, ℕ, ◌+◌, true, false, ◌&&◌, Option, Some, None, is_some, option_map, Bool, not, ◌||◌, List, [], ◌∷◌, ◌++◌, refl, sym, ◌∙◌, subst, inl, inr}
use Rattle.std.proofs.lemmas.Bool.{and_parts, both_ways}
use Rattle.pv_base.specs.declared.Span.{Span}
use Rattle.pv_ast.specs.declared.Word.{Word}
use Rattle.pv_ast.specs.declared.TypeWord.{TypeWord}
use Rattle.pv_ast.specs.declared.PvType.{PvType}
use Rattle.pv_ast.specs.declared.PvType.TheVariants.{Int, Truth}
use Rattle.pv_ast.specs.declared.Expr.{Expr}
use Rattle.pv_ast.specs.declared.Right.{Right}
use Rattle.pv_ast.specs.declared.Contract.{Contract}
use Rattle.pv_ast.specs.declared.Range.{Range}
use Rattle.pv_ast.specs.declared.Stmt.{Stmt}
use Rattle.pv_ast.specs.declared.StmtKind.{StmtKind-F}
use Rattle.pv_ast.specs.declared.fault.Rule.TheVariants as rule
use Rattle.pv_ast.specs.declared.fault.ShapeFault.{ShapeFault}
use Rattle.pv_ast.specs.declared.scope.Declaration.TheVariants.{Local, LoopVariable}
use Rattle.pv_base.specs.declared.Name.{Name}
use Rattle.pv_ast.specs.declared.standing.Need.{Need}
use Rattle.pv_ast.specs.declared.standing.StatementContext.{StatementContext}
use Rattle.pv_ast.specs.declared.standing.Surround.TheVariants as surround
use Rattle.pv_ast.specs.Rules.Lookup.{is_declared_type}
use Rattle.pv_ast.specs.Rules.Scoping.{Visible, declare_variable, entered, is_visible, is_block_around, is_innermost_block}
use Rattle.pv_ast.specs.Rules.Expressions.{Environment}
use Rattle.pv_ast.specs.Rules.Shapes as shapes
use Rattle.pv_ast.specs.Rules.Shapes.{quantifiers_in, quantifiers_in_option, quantifiers_in_all, quantifiers_in_right, quantifiers_in_range, faults_of_formulas as shapes_of_formulas, faults_of_item_contract, faults_of_each, faults_in_stmt_kind as shapes_in_stmt_kind, faults_in_stmt, faults_of_stmt, faults_of_stmt_kind}
use Rattle.pv_ast.specs.Rules.Statements as statements
use Rattle.pv_ast.specs.Rules.Statements.{CheckedStatement, Messages, no_messages, messages_of_statements, faults_of_statements, in_statement, in_condition, in_invariant, between_members, is_loop, in_branch, in_while, among_members, need_like, need_of_result, is_return_place, is_assignable, with_block}
use Rattle.pv_picks.specs.Plain.Core.{Expression, Block, Statement}
use Rattle.pv_picks.specs.Plain.Core as core
use Rattle.pv_picks.specs.Elaborating.Expressions.{elaborated_expression, object_of, arguments_of}
use Rattle.pv_picks.specs.Elaborating.Statements.{core_of_right, core_of_shared, all_elaborated, once, assigned_in, ElaboratedStatement, ElaboratedStatementKind, Site, at, block_from, inside_for, inside_par, in_for, in_par, elaborated_statement}
use Rattle.core_trees.proofs.Clean.{Clean, unless_holds, if_fails, no_first, no_second}
use Rattle.core_trees.proofs.Sound.{sound_with}
use Rattle.core_trees.proofs.Agreeing.{agree_local, agree_head}
use Rattle.core_trees.specs.Resolved.{names_of, ResolvedShared}
use Rattle.core_trees.proofs.ConfiningStmts.{shared_confined}
use Rattle.core_trees.proofs.Knowing.{knows_all, knows_local}
use Rattle.core_trees.proofs.Places.{no_block_more, no_block_entered, innermost_from}
use Rattle.core_trees.proofs.Returning.{block_goes, statements_return, not_last}
use Rattle.core_trees.proofs.Uses.{shared_kept}
use Rattle.core_trees.proofs.StmtLayers.{ShapedWith, ShapedLayer, ShapedHas, ShapedLayerStep, shaped_induction, trees, elaborations, parts_in, shapes_of}
use Rattle.core_trees.proofs.Stmts.{sound_for, sound_par}
use Rattle.pv_picks.specs.Typing.Expressions.{Home, Speech, silent, type_in}
use Rattle.pv_picks.specs.Typing.Blocks.{UseFits, inside, BlockFits, StatementFits, ends, goes_first, declares, assigns, branches, loops, opens, meets, acts, folds, unfolds, asserts, sends, receives, leaves, answers}
use Rattle.core_typing.proofs.Once.{once_each}
use Rattle.core_typing.proofs.Scopes.{not_listed, variable_listed, loop_listed, block_name_listed, listed_known}
use Rattle.core_trees.specs.Formulas.{SharedFits, BarrierFits, DeclaredBy, StatementSays, BlockSays}
use Rattle.core_typing.proofs.Places.{Place, Speaks, says_nothing, statement_strict}
use Rattle.core_typing.proofs.Standing.{InLoop, At, speaks_there, first_there, blocks_more, more_within, in_block}
use Rattle.core_typing.proofs.Formulas.{formula_fits}
use Rattle.core_typing.proofs.Clauses.{invariants_fit, shared_within}
use Rattle.core_typing.proofs.Assigning.{body_assigns}
use Rattle.core_names.proofs.Scopes.{head_for, head_par}
use Rattle.core_typing.proofs.Locals.{none_own, own_more}
use Rattle.core_typing.proofs.Within.{SharedWithin}
use Rattle.core_typing.proofs.Barriers.{shared_narrow, narrows_within, none_there}
use Rattle.core_typing.proofs.Outside.{shared_outside}
use Rattle.core_typing.proofs.Declared.{action_allowed, variables_fit}
use Rattle.core_typing.proofs.Types.{declared_type}
use Rattle.core_typing.proofs.Targets.{target_kept}
use Rattle.core_typing.proofs.Messages.{IsAmong, labels_of, between, some_way, message_fits, last_one, statements_grow, statements_label, statements_tell, all_sent, received_fits}
use Rattle.std.specs.List.{AllByRecursion}
use Rattle.core_typing.proofs.Uses.{goes, object_goes, object_at, instance_at, call_goes, right_goes, first_goes, target_at}

-- where a body may end with a value, the value is of the type that the body's frame answers
abbrev pub Returns : Home → Environment → StatementContext → Type 0
Returns h a stand = stand.last ≡ true → (type : PvType) → a.result ≡ Some type → h.answer ≡ Some type

never_last : (h : Home) (a : Environment) (stand : StatementContext) → stand.last ≡ false → Returns h a stand
never_last h a stand fails last = absurd (both_ways stand.last fails last)

-- A block that is well typed with its formulas is well typed

declared_fits : {h : Home} {xs : List core.Parameter} {b : Block} (s : Statement) (x : core.Parameter) → DeclaredBy h xs s x
    → BlockFits h (x ∷ xs) b → BlockFits h xs (core.Then s b)
declared_fits {h} {xs} {b} (core.Assign (core.ToVariable name) right span) x k rest =
    declares x.1 k.1 k.2 (subst (λ (n : Name). BlockFits h ((n, x.1) ∷ xs) b) k.0 rest)
declared_fits (core.Assign core.Nowhere right span) x k rest = absurd k
declared_fits (core.Assign (core.ToField e class field at) right span) x k rest = absurd k
declared_fits (core.Assign (core.ToElement type e i at) right span) x k rest = absurd k
declared_fits (core.If e c d) x k rest = absurd k
declared_fits (core.While assigned f e body span) x k rest = absurd k
declared_fits (core.Members team body span) x k rest = absurd k
declared_fits (core.Meet barrier span) x k rest = absurd k
declared_fits (core.Act action class e span) x k rest = absurd k
declared_fits (core.Fold class name e args span) x k rest = absurd k
declared_fits (core.Unfold class name e args span) x k rest = absurd k
declared_fits (core.Assert f span) x k rest = absurd k
declared_fits (core.Send m span) x k rest = absurd k
declared_fits (core.Receive m span) x k rest = absurd k
declared_fits (core.Return e span) x k rest = absurd k

pub says_fits : (b : Block) (h : Home) (speech : Speech) (head xs : List core.Parameter) → BlockSays h speech head xs b
    → BlockFits h xs b
says_fits core.Stop h speech head xs k = ends
says_fits (core.Then s b) h speech head xs (inl k) = goes_first k.0 (says_fits b h speech head xs k.2)
says_fits (core.Then s b) h speech head xs (inr k) = declared_fits s k.0 k.1 (says_fits b h speech head (k.0 ∷ xs) k.2)

-- the labels that are received up to a statement are of messages that are sent in its loop
abbrev pub Hears : StatementContext → Site → Messages → Type 0
Hears stand site m = is_loop stand.surround ≡ true → AllByRecursion (IsAmong (labels_of site.messages)) m.received

-- The laws of a statement: before a block that is well typed behind it, it is well typed

abbrev pub Goes : Home → Speech → Environment → Visible → Visible → List core.Parameter → List core.Parameter → StatementContext
    → Site
    → shapes.Environment → Statement → Type 0
Goes h speech a v behind xs head stand site environment s = (rest : Block)
    → ((ys : List core.Parameter) → Place h a behind ys → At h speech a behind ys head stand site environment
    → BlockSays h speech head ys rest) → BlockSays h speech head xs (core.Then s rest)

abbrev pub KindLaw : ElaboratedStatementKind → (shapes.Environment → List ShapeFault) → Type 0
KindLaw k shape = (h : Home) (speech : Speech) (a : Environment) (v : Visible) (xs head : List core.Parameter)
    (stand : StatementContext)
    (span : Span) (site : Site) (environment : shapes.Environment) → Place h a v xs
    → At h speech a v xs head stand site environment
    → (m : Messages) → Hears stand site (k.checked.messages m) → Returns h a stand → Clean (k.checked.faults span a v stand)
    → shape environment
    ≡ [] → Goes h speech a v (k.checked.behind v) xs head stand site environment (k.statement span a v site)

abbrev pub StmtLaw : ElaboratedStatement → (shapes.Environment → List ShapeFault) → Type 0
StmtLaw s shape = (h : Home) (speech : Speech) (a : Environment) (v : Visible) (xs head : List core.Parameter)
    (stand : StatementContext)
    (site : Site) (environment : shapes.Environment) → Place h a v xs → At h speech a v xs head stand site environment
    → (m : Messages) → Hears stand site (s.checked.messages m) → Returns h a stand → Clean (s.checked.faults a v stand)
    → shape environment ≡ []
    → Goes h speech a v (s.checked.behind v) xs head stand site environment (s.statement a v site)

abbrev pub Stmts : Type 0
Stmts = ShapedWith StmtLaw

-- a statement that declares nothing
still : {h : Home} {speech : Speech} {a : Environment} {v : Visible} {xs head : List core.Parameter}
    {environment : shapes.Environment}
    {s : Statement} (stand : StatementContext) (site : Site) → Place h a v xs → At h speech a v xs head stand site environment
    → StatementFits h xs s → StatementSays h speech head xs s → Goes h speech a v v xs head stand site environment s
still {xs = xs} stand site place stands fits says rest behind = inl (fits, says, behind xs place stands)

block_law : (ss : List Stmts) (n : ℕ) (h : Home) (speech : Speech) (a : Environment) (v : Visible) (xs head : List core.Parameter)
    (stand : StatementContext) (site : Site) (environment : shapes.Environment) → Place h a v xs
    → At h speech a v xs head stand site environment
    → (m : Messages) → Hears stand site (messages_of_statements (parts_in (elaborations ss)) m) → Returns h a stand
    → Clean (faults_of_statements (parts_in (elaborations ss)) a v stand) → shapes_of ss environment ≡ []
    → BlockSays h speech head xs (block_from n (elaborations ss) a v site)
block_law [] n h speech a v xs head stand site environment place stands m hears returns clean none = tt
block_law (s ∷ ss) n h speech a v xs head stand site environment place stands m hears returns clean none =
    let behind : Messages = (elaborated_statement s.0).checked.messages m in
    s.1 h speech a v xs head stand (at n site) environment place stands m
    (λ k. statements_grow (trees ss) (labels_of site.messages) behind (hears k)) returns clean.0
    (no_first (faults_of_stmt s.0 environment) (shapes_of ss environment) none) _
    (λ ys there further. block_law ss (n + 1) h speech a
    ((elaborated_statement s.0).checked.behind v) ys head stand site environment there further behind hears returns clean.1
    (no_second (faults_of_stmt s.0 environment) (shapes_of ss environment) none))

-- Par blocks and counted loops

for_place : (h : Home) (a : Environment) (v : Visible) (xs : List core.Parameter) (range : Range) → Place h a v xs
    → Clean (statements.shadows (entered v) range.name) → Place (inside h) a (inside_for v range) ((range.name.name, Int) ∷ xs)
for_place h a v xs range place clean = record {
  sound = sound_for h.program a v range place.sound;
  declares = place.declares;
  class = place.class;
  listed = loop_listed (entered v) xs range.name clean place.listed;
}

par_place : (h : Home) (a : Environment) (v : Visible) (xs : List core.Parameter) (o : Option Word) (range : Range)
    → Place h a v xs
    → Clean (statements.shadows_option (entered v) o)
    → Clean (statements.shadows (with_block (entered v) o) range.name)
    → Place (inside h) a (inside_par v o range) ((range.name.name, Int) ∷ xs)
par_place h a v xs o range place clean clean_variable = record {
  sound = sound_par h.program a v o range place.sound;
  declares = place.declares;
  class = place.class;
  listed =
      loop_listed (with_block (entered v) o) xs range.name clean_variable (block_name_listed (entered v) xs o clean place.listed);
}

abbrev LayerLaw : ShapedLayer KindLaw StmtLaw → Type 0
LayerLaw = ShapedHas KindLaw StmtLaw

-- a place inside a member is one for formulas outside too
outside : (h : Home) (a : Environment) (v : Visible) (xs : List core.Parameter) → Place (inside h) a v xs → Place h a v xs
outside h a v xs place = record { sound = place.sound; declares = place.declares; class = place.class; listed = place.listed }

looped_for : (b : Bool) → (b || true) ≡ true
looped_for true = refl
looped_for false = refl

-- what stands in members speaks of no old state
not_old : {A : Type 0} (method : Bool) → (method && false) ≡ true → A
not_old method k = absurd (let no = (and_parts method false k).1 in cc)

no_condition : (a : Environment) → Speaks silent a in_condition
no_condition a = says_nothing silent a in_condition refl refl

for_law : (range : Range) (c : Contract) (body : List Stmts) → LayerLaw (StmtKind-F.For range c body)
for_law range c body = λ h speech a v xs head stand span site environment place stands m hears returns clean none.
    let name : Name = range.name.name in
    let inner : List core.Parameter = (name, Int) ∷ xs in
    let further : List ShapeFault = shapes_of body (record environment { loop = Some name.0 }) in
    let contract : List ShapeFault = faults_of_item_contract name.0 c in
    let bounds : quantifiers_in_range range ≡ [] =
    no_first (quantifiers_in_range range) contract (no_first (quantifiers_in_range range ++ contract) further none) in
    let items : contract ≡ [] =
    no_second (quantifiers_in_range range) contract (no_first (quantifiers_in_range range ++ contract) further none) in
    let within : further ≡ [] = no_second (quantifiers_in_range range ++ contract) further none in
    let visible : is_visible (entered v) name ≡ false =
    if_fails (is_visible (entered v) name) rule.Shadows range.name.span clean.1.1.0 in
    let there : Place (inside h) a (inside_for v range) inner = for_place h a v xs range place clean.1.1.0 in
    let here : InLoop (inside h) a (inside_for v range) inner (inside_for v range) (record environment { loop = Some name.0 }) =
    record {
      position = name;
      loop = refl;
      number = first_there xs name;
      place = there;
      agree = agree_head v LoopVariable name Int refl visible;
    } in
    let standing : At (inside h) silent a (inside_for v range) inner inner (among_members surround.Loop stand)
    (in_for a (inside_for v range) (elaborations body) (at 0 site)) (record environment { loop = Some name.0 }) = record {
      old = not_old stand.method;
      blocks =
          blocks_more (entered v) xs site.position environment LoopVariable name Int refl visible
          (not_listed (entered v) xs name place.listed visible) stands.blocks;
      loop = λ k. here;
      told =
          λ k. statements_tell (trees body) (inside h) a (inside_for v range) inner (inside_for v range)
          (among_members surround.Loop stand) (record environment { loop = Some name.0 }) here
          (looped_for stand.looped) clean.1.1.1.0.1 within;
      within = λ n type k. k;
      known = knows_all false (inside_for v range) (names_of inner) (listed_known (inside_for v range) inner there.listed);
      block = λ k. absurd cc;
      own = none_own (inside_for v range) inner (head_for v range);
      innermost = λ k. no_block_more (entered v) LoopVariable name Int refl (no_block_entered v);
    } in
    let hears_inside : Hears (among_members surround.Loop stand) (in_for a (inside_for v range) (elaborations body) (at 0 site))
    (messages_of_statements (parts_in (elaborations body)) no_messages) = λ k.
    subst (λ names. AllByRecursion (IsAmong names) (messages_of_statements (parts_in (elaborations body)) no_messages).received)
    (statements_label (trees body) a (inside_for v range))
    (all_sent (messages_of_statements (parts_in (elaborations body)) no_messages).sent
    (messages_of_statements (parts_in (elaborations body)) no_messages).received clean.1.1.1.1.1.1) in
    let says =
    block_law body 0 (inside h) silent a (inside_for v range) inner inner (among_members surround.Loop stand)
    (in_for a (inside_for v range) (elaborations body) (at 0 site)) _
    there standing no_messages hears_inside (never_last (inside h) a
    (among_members surround.Loop stand) refl) clean.1.1.1.0.1 within in
    still stand site place stands (opens (goes range.low h a v xs Int place clean.1.0.0
    (no_first (quantifiers_in range.low) (quantifiers_in range.high) bounds))
    (goes range.high h a v xs Int place clean.1.0.1 (no_second (quantifiers_in range.low) (quantifiers_in range.high) bounds))
    (says_fits _ (inside h) silent inner inner says)) (
      shared_outside (core_of_shared name a (inside_for v range) c) h xs name
          (not_listed (entered v) xs name place.listed visible)
          (shared_confined name c a (inside_for v range) in_condition in_condition clean.1.1.1.0.0 items)
          (shared_within h a (inside_for v range) inner name (outside h a (inside_for v range) inner there)
          (sym (there.listed name) ∙ first_there xs name)
          in_condition (no_condition a) c clean.1.1.1.0.0 items),
      says,
      λ counted. once_each (trees body) a (inside_for v range)
          (in_for a (inside_for v range) (elaborations body) (at 0 site)) clean.1.1.1.1,
    )

par_law : (o : Option Word) (range : Range) (c : Contract) (body : List Stmts) → LayerLaw (StmtKind-F.Par o range c body)
par_law o range c body = λ h speech a v xs head stand span site environment place stands m hears returns clean none.
    let name : Name = range.name.name in
    let inner : List core.Parameter = (name, Int) ∷ xs in
    let further : List ShapeFault = shapes_of body (record environment { block = Some name.0 }) in
    let contract : List ShapeFault = faults_of_item_contract name.0 c in
    let bounds : quantifiers_in_range range ≡ [] =
    no_first (quantifiers_in_range range) contract (no_first (quantifiers_in_range range ++ contract) further none) in
    let items : contract ≡ [] =
    no_second (quantifiers_in_range range) contract (no_first (quantifiers_in_range range ++ contract) further none) in
    let within : further ≡ [] = no_second (quantifiers_in_range range ++ contract) further none in
    let new : type_in xs name ≡ None =
    not_listed (with_block (entered v) o) xs name (block_name_listed (entered v) xs o clean.1.1.0 place.listed)
    (if_fails (is_visible (with_block (entered v) o) name) rule.Shadows range.name.span clean.1.1.1.0) in
    let there : Place (inside h) a (inside_par v o range) inner = par_place h a v xs o range place clean.1.1.0 clean.1.1.1.0 in
    let standing : At (inside h) silent a (inside_par v o range) inner inner (among_members surround.Block stand)
    (in_par range (at 0 site)) (record environment { block = Some name.0 }) = record {
      old = not_old stand.method;
      blocks = λ w k. (refl, first_there xs name);
      loop = λ k. absurd cc;
      told = λ k. absurd cc;
      within = λ n type k. k;
      known = knows_all false (inside_par v o range) (names_of inner) (listed_known (inside_par v o range) inner there.listed);
      block = λ k. record { outer = xs; is = refl; new = new };
      own = none_own (inside_par v o range) inner (head_par v o range);
      innermost = λ other. absurd (other refl);
    } in
    let says =
    block_law body 0 (inside h) silent a (inside_par v o range) inner inner (among_members surround.Block stand)
    (in_par range (at 0 site)) _
    there standing no_messages (λ k. absurd cc) (never_last (inside h) a
    (among_members surround.Block stand) refl) clean.1.1.1.1.1 within in
    still stand site place stands (opens (goes range.low h a v xs Int place clean.1.0.0
    (no_first (quantifiers_in range.low) (quantifiers_in range.high) bounds))
    (goes range.high h a v xs Int place clean.1.0.1 (no_second (quantifiers_in range.low) (quantifiers_in range.high) bounds))
    (says_fits _ (inside h) silent inner inner says)) (
      shared_outside (core_of_shared name a (inside_par v o range) c) h xs name new
          (shared_confined name c a (inside_par v o range) in_condition in_condition clean.1.1.1.1.0 items)
          (shared_within h a (inside_par v o range) inner name (outside h a (inside_par v o range) inner there)
          (sym (there.listed name) ∙ first_there xs name)
          in_condition (no_condition a) c clean.1.1.1.1.0 items),
      says,
      λ counted. absurd cc,
    )

-- Simple statements

local_law : (type : TypeWord) (w : Word) (value : Option Right) → LayerLaw (StmtKind-F.Local type w value)
local_law type w value = λ h speech a v xs head stand span site environment place stands m hears returns clean none rest behind.
    let declared : is_declared_type a.program.classes type.kind ≡ true =
    unless_holds (is_declared_type a.program.classes type.kind) rule.UnknownName type.span clean.0 in
    let new : is_visible v w.name ≡ false = if_fails (is_visible v w.name) rule.Shadows w.span clean.1.0 in
    let unlisted = not_listed v xs w.name place.listed new in
    let there : Place h a (declare_variable Local v w.name type.kind) ((w.name, type.kind) ∷ xs) = record {
      sound = sound_with h.program a v Local w.name type.kind declared place.sound;
      declares = place.declares;
      class = place.class;
      listed = variable_listed v xs Local w.name type.kind refl new place.listed;
    } in
    let standing : At h speech a (declare_variable Local v w.name type.kind) ((w.name, type.kind) ∷ xs) head stand site
    environment =
    record {
      old = stands.old;
      blocks = blocks_more v xs site.position environment Local w.name type.kind refl new unlisted stands.blocks;
      loop =
          λ k. let l = stands.loop k in record {
            position = l.position;
            loop = l.loop;
            number = l.number;
            place = l.place;
            agree = agree_local v site.head w.name type.kind new l.agree;
          };
      told = stands.told;
      within = more_within head xs w.name type.kind unlisted stands.within;
      known = knows_local v w.name type.kind (names_of head) place.sound.within stands.known;
      block = stands.block;
      own = own_more v head w.name type.kind place.sound.within new
          (none_there (type_in head w.name) (type_in xs w.name) (stands.within w.name) unlisted)
          stands.own;
      innermost = λ other. no_block_more v Local w.name type.kind refl (stands.innermost other);
    } in
    inr (
      (w.name, type.kind),
      (refl, unlisted, first_goes value h a v xs type.kind place clean.1.1.0 none),
      behind ((w.name, type.kind) ∷ xs) there standing,
    )

assign_law : (to : Expr) (value : Right) → LayerLaw (StmtKind-F.Assign to value)
assign_law to value = λ h speech a v xs head stand span site environment place stands m hears returns clean none.
    let t = target_at to h a v xs place clean.0 (no_first (quantifiers_in to) (quantifiers_in_right value) none) in
    still stand site place stands (assigns t.type t.target
    (right_goes value.kind h a v xs t.type value.span place
    (subst (λ (need : Need). Clean (statements.faults_of_right a v need value)) t.need clean.1.1.0)
    (no_second (quantifiers_in to) (quantifiers_in_right value) none)))
    (target_kept to h a v xs head (core_of_right a v value) place stands.own clean.0
    (no_first (quantifiers_in to) (quantifiers_in_right value) none)
    (unless_holds (is_assignable a v to) rule.NotAssignable to.span clean.1.0))

call_law : (target : Option Expr) (w : Word) (args : List Expr) → LayerLaw (StmtKind-F.Call target w args)
call_law target w args = λ h speech a v xs head stand span site environment place stands m hears returns clean none.
    let c =
    call_goes target w args h a v xs place clean.1 (no_first (quantifiers_in_option target) (quantifiers_in_all args) none)
    (no_second (quantifiers_in_option target) (quantifiers_in_all args) none) in
    still stand site place stands (assigns c.0 tt c.1) (tt, tt)

if_law : (e : Expr) (first second : List Stmts) → LayerLaw (StmtKind-F.If e first second)
if_law e first second = λ h speech a v xs head stand span site environment place stands m hears returns clean none.
    let before : quantifiers_in e ++ shapes_of first environment ≡ [] =
    no_first (quantifiers_in e ++ shapes_of first environment) (shapes_of second environment) none in
    let behind : Messages = messages_of_statements (parts_in (elaborations first)) m in
    let one =
    block_law first 0 h speech a v xs head (in_branch stand) (at 0 site) environment place stands m
    (λ k. statements_grow (trees second) (labels_of site.messages) behind (hears k))
    (never_last h a (in_branch stand) refl) clean.1.0 (no_second (quantifiers_in e) (shapes_of first environment) before) in
    let two =
    block_law second 0 h speech a v xs head (in_branch stand) (at 1 site) environment place stands behind hears
    (never_last h a (in_branch stand) refl) clean.1.1 (no_second (quantifiers_in e ++ shapes_of first environment)
    (shapes_of second environment) none) in
    still stand site place stands (branches (goes e h a v xs Truth place clean.0
    (no_first (quantifiers_in e) (shapes_of first environment) before)) (says_fits _ h speech head xs one)
    (says_fits _ h speech head xs two)) (one, two)

while_law : (es : List Expr) (e : Expr) (body : List Stmts) → LayerLaw (StmtKind-F.While es e body)
while_law es e body = λ h speech a v xs head stand span site environment place stands m hears returns clean none.
    let before : List ShapeFault = shapes_of_formulas es ++ quantifiers_in e in
    let says =
    block_law body 0 h speech a v xs head (in_while stand) (at 0 site) environment place stands m hears
    (never_last h a (in_while stand) refl) clean.1.1 (no_second before (shapes_of body environment) none) in
    still stand site place stands (loops (goes e h a v xs Truth place clean.1.0
    (no_second (shapes_of_formulas es) (quantifiers_in e) (no_first before (shapes_of body environment) none)))
    (says_fits _ h speech head xs says)) (
      variables_fit h a v xs (once (assigned_in (elaborations body))) place,
      invariants_fit h speech a v xs place (in_invariant stand) es
          (speaks_there speech a stand stands.old) clean.0 (no_first (shapes_of_formulas es) (quantifiers_in e)
          (no_first before (shapes_of body environment) none)),
      says,
      block_goes (elaborations body) (statements_return (trees body)) 0 a v (in_while stand) (not_last (in_while stand) refl)
          clean.1.1
          (at 0 site),
      body_assigns (trees body) h a v xs (in_while stand) place clean.1.1 (at 0 site),
    )

fold_law : (target : Option Expr) (w : Word) (args : List Expr) → LayerLaw (StmtKind-F.Fold target w args)
fold_law target w args = λ h speech a v xs head stand span site environment place stands m hears returns clean none.
    let o =
    object_at target h silent a v xs in_statement place (statement_strict a) clean.0
    (no_first (quantifiers_in_option target) (quantifiers_in_all args) none) in
    let i =
    instance_at target w args h silent a v xs in_statement o place (statement_strict a) clean.1
    (no_second (quantifiers_in_option target) (quantifiers_in_all args) none) in
    let object : Expression = object_of (option_map elaborated_expression target) a v in
    still stand site place stands
    (folds (subst (λ class. UseFits h xs class w.name object (arguments_of (all_elaborated args) a v)) (sym o.named)
    (o.goes, (i.predicate, i.found, i.arguments)))) tt

unfold_law : (target : Option Expr) (w : Word) (args : List Expr) → LayerLaw (StmtKind-F.Unfold target w args)
unfold_law target w args = λ h speech a v xs head stand span site environment place stands m hears returns clean none.
    let o =
    object_at target h silent a v xs in_statement place (statement_strict a) clean.0
    (no_first (quantifiers_in_option target) (quantifiers_in_all args) none) in
    let i =
    instance_at target w args h silent a v xs in_statement o place (statement_strict a) clean.1
    (no_second (quantifiers_in_option target) (quantifiers_in_all args) none) in
    let object : Expression = object_of (option_map elaborated_expression target) a v in
    still stand site place stands
    (unfolds (subst (λ class. UseFits h xs class w.name object (arguments_of (all_elaborated args) a v)) (sym o.named)
    (o.goes, (i.predicate, i.found, i.arguments)))) tt

-- the last statement of a method's body
returned_type : (a : Environment) (stand : StatementContext) (e : Expr) (o : Option PvType) → a.result ≡ o
    → (stand.last && stand.method && is_some o)
    ≡ true → (type : PvType) × (a.result ≡ Some type) × (stand.last ≡ true)
returned_type a stand e None is k = absurd (let never = (and_parts (stand.last && stand.method) false k).1 in cc)
returned_type a stand e (Some type) is k =
    (type, is, (and_parts stand.last stand.method (and_parts (stand.last && stand.method) true k).0).0)

return_law : (value : Option Expr) → LayerLaw (StmtKind-F.Return value)
return_law None =
    λ h speech a v xs head stand span site environment place stands m hears returns clean none.
    still stand site place stands leaves tt
return_law (Some e) = λ h speech a v xs head stand span site environment place stands m hears returns clean none.
    let r = returned_type a stand e a.result refl (unless_holds (is_return_place a stand (Some e)) rule.ReturnPlace span clean.0)
    in
    still stand site place stands (answers r.0 (returns r.2 r.0 r.1)
    (declared_type a.program.classes r.0 (place.sound.result r.0 r.1))
    (goes e h a v xs r.0 place (subst (λ (o : Option PvType). Clean
    (statements.faults_of_expression a v (need_of_result o) e)) r.1 clean.1) none)) tt

-- Barriers and messages

barrier_items : (o : Option ℕ) (c : Contract) (n : ℕ) → o ≡ Some n → shapes.faults_of_barrier o c ≡ []
    → faults_of_item_contract n c ≡ []
barrier_items None c n is none = absurd cc
barrier_items (Some m) c n is none = let same : m ≡ n = cc in subst (λ m. faults_of_item_contract m c ≡ []) same none

barrier_law : (w : Word) (c : Contract) → LayerLaw (StmtKind-F.Barrier w c)
barrier_law w c = λ h speech a v xs head stand span site environment place stands m hears returns clean none.
    let b = stands.blocks w.name (unless_holds (is_block_around v w.name) rule.UnknownName w.span clean.0.0) in
    let there : is_innermost_block v w.name ≡ true =
    innermost_from (is_block_around v w.name) (is_innermost_block v w.name)
    (unless_holds (is_block_around v w.name) rule.UnknownName w.span clean.0.0)
    (if_fails (is_block_around v w.name && not (is_innermost_block v w.name)) rule.BarrierPlace w.span clean.0.1) in
    let first = stands.block (in_block stand.surround (is_innermost_block v w.name)
    (λ other. (stands.innermost other).none w.name) there) in
    let shared : core.Shared = core_of_shared site.position a v c in
    let items : faults_of_item_contract site.position.0 c ≡ [] = barrier_items environment.block c site.position.0 b.0 none in
    let typed : SharedWithin h xs shared =
    shared_within h a v xs site.position place (sym (place.listed site.position) ∙ b.1) between_members
    (between a) c clean.1 items in
    let named : ResolvedShared h.program (names_of head) shared =
    shared_kept h.program
    (names_of head) site.position a v between_members between_members c place.sound stands.known stands.known clean.1 in
    let narrow : SharedWithin h head shared =
    shared_narrow h.program h shared (names_of head) xs head (narrows_within head xs stands.within) named typed in
    let fits : SharedFits h first.outer site.position shared =
    shared_outside shared h first.outer site.position first.new
    (shared_confined site.position c a v between_members between_members clean.1 items)
    (subst (λ ys. SharedWithin h ys shared) first.is narrow) in
    still stand site place stands meets (subst (λ ys. BarrierFits h ys shared) (sym first.is) (refl, fits))

loop_from : (a b : Bool) → (not a || b) ≡ false → a ≡ true
loop_from true b k = refl
loop_from false b k = absurd cc

loop_place : (stand : StatementContext) (span : Span) → Clean (statements.faults_of_message_place stand span)
    → is_loop stand.surround ≡ true
loop_place stand span clean =
    loop_from (is_loop stand.surround) stand.repeated (if_fails (not (is_loop stand.surround) || stand.repeated) rule.MessagePlace
    span clean)

send_law : (w : Word) (n : ℕ) (e : Expr) → LayerLaw (StmtKind-F.Send w n e)
send_law w n e = λ h speech a v xs head stand span site environment place stands m hears returns clean none.
    still stand site place stands sends (
      some_way n w.span clean.1.0,
      message_fits e h a v head site.head environment
          (stands.loop (loop_place stand span clean.0)) clean.1.1 none,
    )

receive_law : (w : Word) → LayerLaw (StmtKind-F.Recv w)
receive_law w = λ h speech a v xs head stand span site environment place stands m hears returns clean none.
    let looped : is_loop stand.surround ≡ true = loop_place stand span clean.0 in
    still stand site place stands receives (received_fits h head site.messages w.name (stands.told looped)
    (last_one (labels_of site.messages) m.received w (hears looped)))

-- The induction

layer_law : ShapedLayerStep KindLaw StmtLaw
layer_law (StmtKind-F.Local type w value) = local_law type w value
layer_law (StmtKind-F.Assign to value) = assign_law to value
layer_law (StmtKind-F.Call target w args) = call_law target w args
layer_law (StmtKind-F.If e first second) = if_law e first second
layer_law (StmtKind-F.While es e body) = while_law es e body
layer_law (StmtKind-F.For range c body) = for_law range c body
layer_law (StmtKind-F.Par o range c body) = par_law o range c body
layer_law (StmtKind-F.Barrier w c) = barrier_law w c
layer_law (StmtKind-F.Fork e) = λ h speech a v xs head stand span site environment place stands m hears returns clean none.
    still stand site place stands (acts (object_goes e h a v xs place clean.1.0 none)
    (action_allowed core.Fork e h a v xs place clean.1)) tt
layer_law (StmtKind-F.Join e) = λ h speech a v xs head stand span site environment place stands m hears returns clean none.
    still stand site place stands (acts (object_goes e h a v xs place clean.1.0 none)
    (action_allowed core.Join' e h a v xs place clean.1)) tt
layer_law (StmtKind-F.Lock e) = λ h speech a v xs head stand span site environment place stands m hears returns clean none.
    still stand site place stands (acts (object_goes e h a v xs place clean.1.0 none)
    (action_allowed core.Lock e h a v xs place clean.1)) tt
layer_law (StmtKind-F.Unlock e) = λ h speech a v xs head stand span site environment place stands m hears returns clean none.
    still stand site place stands (acts (object_goes e h a v xs place clean.1.0 none)
    (action_allowed core.Unlock e h a v xs place clean.1)) tt
layer_law (StmtKind-F.Commit e) = λ h speech a v xs head stand span site environment place stands m hears returns clean none.
    still stand site place stands (acts (object_goes e h a v xs place clean.1.0 none)
    (action_allowed core.Commit e h a v xs place clean.1)) tt
layer_law (StmtKind-F.Fold target w args) = fold_law target w args
layer_law (StmtKind-F.Unfold target w args) = unfold_law target w args
layer_law (StmtKind-F.Assert e) = λ h speech a v xs head stand span site environment place stands m hears returns clean none.
    still stand site place stands asserts (formula_fits e h speech a v xs (in_invariant stand) place
    (speaks_there speech a stand stands.old) clean none)
layer_law (StmtKind-F.Send w n e) = send_law w n e
layer_law (StmtKind-F.Recv w) = receive_law w
layer_law (StmtKind-F.Return value) = return_law value

-- each statement without a fault becomes a well typed one
pub statement_law : (s : Stmt) → StmtLaw (elaborated_statement s) (faults_of_stmt s)
statement_law =
    shaped_induction KindLaw StmtLaw layer_law
    (λ span k shape law h speech a v xs head stand site environment place stands m hears returns clean none.
    law h speech a v xs head stand span site environment place stands m hears returns clean none)
