-- A method that keeps no old state needs none.
use Rattle.std.proofs.Common.{◌≡◌, ℕ, ◌+◌, Bool, true, false, ◌||◌, None, List, [], ◌∷◌, ◌++◌, map, refl, ◌∙◌, ap}
use Rattle.std.proofs.lemmas.Bool.{or_parts}
use Rattle.std.specs.Prelude.{filter, if◌then◌else◌}
use Rattle.std.specs.List.{list_any, AllByRecursion}
use Rattle.pv_base.specs.declared.Name.{Name}
use Rattle.pv_base.specs.declared.Span.{Span}
use Rattle.pv_ast.specs.declared.Expr.{Expr}
use Rattle.pv_ast.specs.declared.Clause.{Clause}
use Rattle.pv_ast.specs.declared.ClauseKind.{ClauseKind}
use Rattle.pv_ast.specs.declared.Contract.{Contract}
use Rattle.pv_ast.specs.declared.Member.{Member}
use Rattle.pv_ast.specs.declared.Member.TheVariants as member
use Rattle.pv_ast.specs.declared.Class.{Class}
use Rattle.pv_ast.specs.declared.Program.{Program}
use Rattle.pv_ast.specs.declared.Stmt.{Stmt}
use Rattle.pv_ast.specs.declared.StmtKind.{StmtKind-F}
use Rattle.pv_base.specs.Names.{same_name}
use Rattle.pv_ast.specs.Rules.Scoping.{Visible}
use Rattle.pv_ast.specs.Rules.Expressions.{Environment}
use Rattle.pv_ast.specs.Rules.Programs.{in_class}
use Rattle.pv_picks.specs.Plain.Core.{Message, Statement}
use Rattle.pv_picks.specs.Elaborating.Expressions.{has_old, core_of_items}
use Rattle.pv_picks.specs.Elaborating.Statements.{ElaboratedStatement, ElaboratedStatementKind, Site, at, stands_before, stands_after, formulas_at, core_of_formulas, core_of_all_items, core_of_contract, core_of_shared, contract_has_old, message_of, block_from, sent_in, old_in, inside_for, inside_par, in_for, in_par, outermost, elaborated_statement}
use Rattle.pv_picks.specs.Elaborating.Programs.{core_of, core_of_class, core_of_member, in_method, parameters_in_scope}
use Rattle.core_trees.proofs.StmtLayers.{LayerStep, elaborations, piece_induction, StmtsWith}
use Rattle.core_names.specs.Present.{IsPresentFormula, ArePresentItems, IsPresentContract, IsPresentShared, IsPresentStatement, IsPresentBlock, NeedsNoOld, ClassNeedsNoOld, OldIsKept}
use Rattle.core_names.proofs.Present.{of_present, together_present}
use Rattle.core_trees.proofs.Induction.{all_with, all_made}

-- Contracts

no_old : (e : Expr) (es : List Expr) → list_any has_old (e ∷ es) ≡ false → (has_old e ≡ false) × (list_any has_old es ≡ false)
no_old e es old = or_parts (has_old e) (list_any has_old es) old

formulas_present : (a : Environment) (v : Visible) (es : List Expr) → list_any has_old es ≡ false
    → IsPresentFormula (core_of_formulas a v es)
formulas_present a v [] old = tt
formulas_present a v (e ∷ []) old = (of_present e (no_old e [] old).0).formula None a v
formulas_present a v (e ∷ f ∷ es) old =
    let two = no_old e (f ∷ es) old in ((of_present e two.0).formula None a v, formulas_present a v (f ∷ es) two.1)

items_present : (name : Name) (a : Environment) (v : Visible) (es : List Expr) → list_any has_old es ≡ false
    → ArePresentItems (core_of_all_items name a v es)
items_present name a v [] old = tt
items_present name a v (e ∷ es) old =
    let two = no_old e es old in
    together_present (core_of_items name a v e) (core_of_all_items name a v es) ((of_present e two.0).items name None a v)
    (items_present name a v es two.1)

fewer_old : (b : Bool) (x : Clause) (xs : List Clause) → has_old x.formula ≡ false
    → list_any has_old (map (λ clause. clause.formula) xs) ≡ false
    → list_any has_old (map (λ clause. clause.formula) (if b then x ∷ xs else xs)) ≡ false
fewer_old true x xs h k = ap (λ b. b || list_any has_old (map (λ clause. clause.formula) xs)) h ∙ k
fewer_old false x xs h k = k

clauses_old : (stands : ClauseKind → Bool) (clauses : List Clause) → list_any (λ clause. has_old clause.formula) clauses ≡ false
    → list_any has_old (formulas_at stands clauses) ≡ false
clauses_old stands [] old = refl
clauses_old stands (c ∷ cs) old =
    let two = or_parts (has_old c.formula) (list_any (λ clause. has_old clause.formula) cs) old in
    fewer_old (stands c.kind) c (filter (λ clause. stands clause.kind) cs) two.0 (clauses_old stands cs two.1)

contract_present : (a : Environment) (v : Visible) (c : Contract) → contract_has_old c ≡ false
    → IsPresentContract (core_of_contract a v c)
contract_present a v c old = (
  formulas_present a v (formulas_at stands_before c.clauses) (clauses_old stands_before c.clauses old),
  formulas_present a v (formulas_at stands_after c.clauses) (clauses_old stands_after c.clauses old),
)

shared_present : (name : Name) (a : Environment) (v : Visible) (c : Contract) → contract_has_old c ≡ false
    → IsPresentShared (core_of_shared name a v c)
shared_present name a v c old = (
  contract_present a v c old,
  items_present name a v (formulas_at stands_before c.clauses) (clauses_old stands_before c.clauses old),
  items_present name a v (formulas_at stands_after c.clauses) (clauses_old stands_after c.clauses old),
)

-- Messages

abbrev ArePresentMessages : List Message → Type 0
ArePresentMessages ms = AllByRecursion (λ m. IsPresentFormula m.formula) ms

messages_append : (ms ns : List Message) → ArePresentMessages ms → ArePresentMessages ns → ArePresentMessages (ms ++ ns)
messages_append [] ns h k = k
messages_append (m ∷ ms) ns h k = (h.0, messages_append ms ns h.1 k)

message_if : (b : Bool) (m n : Message) → IsPresentFormula m.formula → IsPresentFormula n.formula
    → IsPresentFormula (if b then m else n).formula
message_if true m n h k = h
message_if false m n h k = k

received_present : (ms : List Message) (label : Name) → ArePresentMessages ms → IsPresentFormula (message_of ms label).formula
received_present [] label h = tt
received_present (m ∷ ms) label h = message_if (same_name label m.label) m (message_of ms label) h.0
    (received_present ms label h.1)

-- Statements

record IsOfPresent (sent : Environment → Visible → List Message) (statement : Environment → Visible → Site → Statement) : Type 0
  where
    messages : (a : Environment) (v : Visible) → ArePresentMessages (sent a v)
    becomes : (a : Environment) (v : Visible) (site : Site) → ArePresentMessages site.messages
        → IsPresentStatement (statement a v site)

abbrev KindLaw : ElaboratedStatementKind → Type 0
KindLaw k = k.old ≡ false → (span : Span) → IsOfPresent k.sent (k.statement span)

abbrev StmtLaw : ElaboratedStatement → Type 0
StmtLaw s = s.old ≡ false → IsOfPresent s.sent s.statement

block_present : (ss : List ElaboratedStatement) → AllByRecursion StmtLaw ss → old_in ss ≡ false
    → (n : ℕ) (a : Environment) (v : Visible) (site : Site)
    → ArePresentMessages site.messages → IsPresentBlock (block_from n ss a v site)
block_present [] laws old n a v site told = tt
block_present (s ∷ ss) laws old n a v site told =
    let two = or_parts s.old (old_in ss) old in
    ((laws.0 two.0).becomes a v (at n site) told, block_present ss laws.1 two.1 (n + 1) a (s.checked.behind v) site told)

sent_present : (ss : List ElaboratedStatement) → AllByRecursion StmtLaw ss → old_in ss ≡ false → (a : Environment) (v : Visible)
    → ArePresentMessages (sent_in ss a v)
sent_present [] laws old a v = tt
sent_present (s ∷ ss) laws old a v =
    let two = or_parts s.old (old_in ss) old in
    messages_append (s.sent a v) (sent_in ss a v) ((laws.0 two.0).messages a v) (sent_present ss laws.1 two.1 a v)

-- a statement that sends nothing
silent : (statement : Environment → Visible → Site → Statement)
    → ((a : Environment) (v : Visible) (site : Site) → ArePresentMessages site.messages → IsPresentStatement (statement a v site))
    → IsOfPresent (λ a v. []) statement
silent statement h = record { messages = λ a v. tt; becomes = h }

-- The induction

all_laws : (ss : List (StmtsWith StmtLaw)) → AllByRecursion StmtLaw (elaborations ss)
all_laws = all_with elaborated_statement StmtLaw

layer_law : LayerStep KindLaw StmtLaw
layer_law (StmtKind-F.If e first second) = λ old span.
    let two = or_parts (old_in (elaborations first)) (old_in (elaborations second)) old in
    record {
      messages = λ a v.
          messages_append (sent_in (elaborations first) a v) (sent_in (elaborations second) a v)
          (sent_present (elaborations first) (all_laws first) two.0 a v)
          (sent_present (elaborations second) (all_laws second) two.1 a v);
      becomes = λ a v site told. (
        block_present (elaborations first) (all_laws first) two.0 0 a v (at 0 site) told,
        block_present (elaborations second) (all_laws second) two.1 0 a v (at 1 site) told,
      );
    }
layer_law (StmtKind-F.While es e body) = λ old span.
    let two = or_parts (list_any has_old es) (old_in (elaborations body)) old in
    record {
      messages = λ a v. sent_present (elaborations body) (all_laws body) two.1 a v;
      becomes = λ a v site told. (
        formulas_present a v es two.0,
        block_present (elaborations body) (all_laws body) two.1 0 a v
            (at 0 site) told,
      );
    }
layer_law (StmtKind-F.For range c body) = λ old span.
    let two = or_parts (contract_has_old c) (old_in (elaborations body)) old in
    silent _ (λ a v site told. (
      shared_present range.name.name a (inside_for v range) c two.0,
      block_present (elaborations body) (all_laws body) two.1 0 a (inside_for v range)
          (in_for a (inside_for v range) (elaborations body) (at 0 site))
          (sent_present (elaborations body) (all_laws body) two.1 a (inside_for v range)),
    ))
layer_law (StmtKind-F.Par o range c body) = λ old span.
    let two = or_parts (contract_has_old c) (old_in (elaborations body)) old in
    record {
      messages = λ a v. sent_present (elaborations body) (all_laws body) two.1 a v;
      becomes = λ a v site told. (
        shared_present range.name.name a (inside_par v o range) c two.0,
        block_present (elaborations body) (all_laws body) two.1 0 a (inside_par v o range) (in_par range (at 0 site)) told,
      );
    }
layer_law (StmtKind-F.Barrier w c) = λ old span. silent _ (λ a v site told. shared_present site.position a v c old)
layer_law (StmtKind-F.Assert e) = λ old span. silent _ (λ a v site told. (of_present e old).formula None a v)
layer_law (StmtKind-F.Send w n e) = λ old span. record {
  messages = λ a v. ((of_present e old).formula None a v, tt);
  becomes = λ a v site told. (of_present e old).formula None a site.head;
}
layer_law (StmtKind-F.Recv w) = λ old span. silent _ (λ a v site told. received_present site.messages w.name told)
layer_law _ = λ old span. silent _ (λ a v site told. tt)

statement_law : (s : Stmt) → StmtLaw (elaborated_statement s)
statement_law = piece_induction KindLaw StmtLaw layer_law (λ span k law old. law old span)

statements_law : (ss : List Stmt) → AllByRecursion StmtLaw (map elaborated_statement ss)
statements_law = all_made elaborated_statement StmtLaw statement_law

-- Programs

-- the contract and the body of a method or `run`
pub method_present : (a : Environment) (v : Visible) (c : Contract) (body : List Stmt)
    → (contract_has_old c || old_in (map elaborated_statement body)) ≡ false
    → IsPresentContract (core_of_contract a v c) × IsPresentBlock (block_from 0 (map elaborated_statement body) a v (outermost v))
method_present a v c body old =
    let two = or_parts (contract_has_old c) (old_in (map elaborated_statement body)) old in (
      contract_present a v c two.0,
      block_present (map elaborated_statement body) (statements_law body) two.1 0 a v
          (outermost v) tt,
    )

members_present : (a : Environment) (ms : List Member) → AllByRecursion NeedsNoOld (map (core_of_member a) ms)
members_present a [] = tt
members_present a (member.Field f ∷ ms) = (tt, members_present a ms)
members_present a (member.Predicate q ∷ ms) = (tt, members_present a ms)
members_present a (member.Method m ∷ ms) = (
  λ old. method_present (in_method a m)
      (parameters_in_scope m) m.contract m.body old,
  members_present a ms,
)
members_present a (member.Run r ∷ ms) = (λ old. method_present a _ r.contract r.body old, members_present a ms)

classes_present : (p : Program) (cs : List Class) → AllByRecursion ClassNeedsNoOld (map (core_of_class p) cs)
classes_present p [] = tt
classes_present p (c ∷ cs) = (members_present (in_class p c) c.members, classes_present p cs)

pub old_is_kept : (p : Program) → OldIsKept (core_of p)
old_is_kept p = classes_present p p.classes
