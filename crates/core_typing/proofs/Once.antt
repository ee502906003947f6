-- In a counted loop of a program that keeps the static rules each label is sent once and received once.
use Rattle.std.proofs.Common.{◌≡◌, Bool, true, false, List, [], ◌∷◌, map, refl, sym, ◌∙◌, ap, subst}
use Rattle.std.specs.Prelude.{if◌then◌else◌}
use Rattle.std.specs.List.{AllByRecursion}
use Rattle.pv_base.specs.declared.Name.{Name}
use Rattle.pv_ast.specs.declared.Word.{Word}
use Rattle.pv_ast.specs.declared.Stmt.{Stmt}
use Rattle.pv_ast.specs.declared.fault.Rule.TheVariants as rule
use Rattle.pv_base.specs.Names.{same_name}
use Rattle.pv_ast.specs.Rules.Scoping.{Visible}
use Rattle.pv_ast.specs.Rules.Expressions.{Environment}
use Rattle.pv_ast.specs.Rules.Statements.{no_messages, messages_of_statements, faults_of_messages}
use Rattle.pv_picks.specs.Plain.Core.{Message}
use Rattle.pv_picks.specs.Elaborating.Statements.{Site, block_from, message_of, elaborated_statement}
use Rattle.core_trees.specs.Messages.{sent_in_block, received_in_block}
use Rattle.core_trees.proofs.Clean.{Clean}
use Rattle.core_trees.proofs.Matching.{as_messages, labels, names, BlockSends, StmtSends, block_sends, statement_sends}
use Rattle.core_trees.specs.Naming.{AreDistinct}
use Rattle.core_trees.specs.Formulas.{LabelsDiffer}
use Rattle.core_names.proofs.Naming.{distinct}
use Rattle.core_trees.proofs.StmtLayers.{parts_in}
use Rattle.core_trees.proofs.Induction.{all_made}
use Rattle.core_trees.proofs.Shapes.{equal_names}

-- the message of a label has it
label_if : (b : Bool) (m n : Message) (name : Name) → same_name name m.label ≡ b → n.label ≡ name
    → (if b then m else n).label ≡ name
label_if true m n name is h = sym (equal_names name m.label is)
label_if false m n name is h = h

labelled_as : (ms : List Message) (name : Name) → (message_of ms name).label ≡ name
labelled_as [] name = refl
labelled_as (m ∷ ms) name = label_if (same_name name m.label) m (message_of ms name) name refl (labelled_as ms name)

labels_received : (ms : List Message) (ws : List Word) → labels (as_messages ms ws) ≡ names ws
labels_received ms [] = refl
labels_received ms (w ∷ ws) =
    ap (λ (name : Name). name ∷ labels (as_messages ms ws)) (labelled_as ms w.name) ∙ ap (λ rest. w.name ∷ rest)
    (labels_received ms ws)

statements_send : (ss : List Stmt) → AllByRecursion StmtSends (map elaborated_statement ss)
statements_send = all_made elaborated_statement StmtSends statement_sends

pub once_each : (ss : List Stmt) (a : Environment) (inside : Visible) (site : Site)
    → Clean (faults_of_messages (messages_of_statements (parts_in (map elaborated_statement ss)) no_messages))
    → LabelsDiffer (sent_in_block (block_from 0 (map elaborated_statement ss) a inside site))
    × LabelsDiffer (received_in_block (block_from 0 (map elaborated_statement ss) a inside site))
once_each ss a inside site clean =
    let h : BlockSends (map elaborated_statement ss) 0 = block_sends (map elaborated_statement ss) (statements_send ss) 0 in
    let sent : AreDistinct (names h.sent_words) =
    subst (λ (ws : List Word). AreDistinct (names ws)) (h.sent no_messages) (distinct rule.MessageRule _ [] clean.0) in
    let received : AreDistinct (names h.received_words) =
    subst (λ (ws : List Word). AreDistinct (names ws)) (h.received no_messages)
    (distinct rule.MessageRule _ [] clean.1.0) in (
      subst AreDistinct (sym (ap labels (h.core_sent a inside site) ∙ h.labelled a site.head)) sent,
      subst AreDistinct (sym (ap labels (h.core_received a inside site)
          ∙ labels_received site.messages h.received_words)) received,
    )
