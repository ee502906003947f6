use Rattle.std.proofs.Common.{List, ◌∷◌, [], ◌++◌, map, sym, ◌∙◌, ap, append_assoc}
use Rattle.std.proofs.lemmas.List.{append-nil, map-append}
use Rattle.pv_ast.specs.declared.Stmt.{Stmt}
use Rattle.pv_picks.specs.Plain.Core.{Message}
use Rattle.pv_picks.specs.Elaborating.Statements.{elaborated_statement, sent_in}
use Rattle.pv_plain.specs.Sites.{message_of, messages_of}
use Rattle.pv_plain.proofs.Gathering.{on_ok}
use Rattle.pv_plain.proofs.Stating.{if_sent, while_sent, par_sent, send_sent, sends_none}
use Rattle.pv_plain.proofs.sending.+sent.Goals as goal

pub add_sent-returns-in_ok-add_all_sent-in-If : goal.add_sent-returns-in_ok-add_all_sent-in-If
add_sent-returns-in_ok-add_all_sent-in-If t c =
    on_ok c.add_all_sent-in-If.result
    (λ h a v.
    let old : List Message = messages_of a v c.args.sent.now.items in
    let sends = λ (xs : List Stmt). sent_in (map elaborated_statement xs) a v in
    let first : List Stmt = c.as_slice.result.now in
    let second : List Stmt = c.as_slice-in-If.result.now in
    h a v ∙ ap (λ l. l ++ sends second) (c.in_ok-add_all_sent-in-If.ensures a v)
    ∙ append_assoc old (sends first) (sends second)
    ∙ ap (λ xs. old ++ (sends xs ++ sends second)) c.as_slice.ensures
    ∙ ap (λ xs. old ++ (sends c.in-If.first ++ sends xs)) c.as_slice-in-If.ensures
    ∙ ap (λ l. old ++ l) (sym (if_sent c.args.s.now c.in-If.field-0 c.in-If.first c.in-If.second c.in-If.is a v)))
    c.add_all_sent-in-If.ensures

pub add_sent-returns-in-While : goal.add_sent-returns-in-While
add_sent-returns-in-While t c =
    on_ok c.add_all_sent-in-While.result
    (λ h a v.
    let old : List Message = messages_of a v c.args.sent.now.items in
    h a v ∙ ap (λ xs. old ++ sent_in (map elaborated_statement xs) a v) c.as_slice-in-While.ensures
    ∙ ap (λ l. old ++ l)
    (sym (while_sent c.args.s.now c.in-While.field-0 c.in-While.field-1 c.in-While.body c.in-While.is a v)))
    c.add_all_sent-in-While.ensures

pub add_sent-returns-in-Par : goal.add_sent-returns-in-Par
add_sent-returns-in-Par t c =
    on_ok c.add_all_sent-in-Par.result
    (λ h a v.
    let old : List Message = messages_of a v c.args.sent.now.items in
    h a v ∙ ap (λ xs. old ++ sent_in (map elaborated_statement xs) a v) c.as_slice-in-Par.ensures
    ∙ ap (λ l. old ++ l)
    (sym (par_sent c.args.s.now c.in-Par.field-0 c.in-Par.field-1 c.in-Par.field-2 c.in-Par.body c.in-Par.is a v)))
    c.add_all_sent-in-Par.ensures

pub add_sent-returns-in_ok-push-in-Send : goal.add_sent-returns-in_ok-push-in-Send
add_sent-returns-in_ok-push-in-Send t c =
    λ a v.
    let old : List Message = messages_of a v c.args.sent.now.items in
    ap (messages_of a v) c.in_ok-push-in-Send.ensures.items
    ∙ map-append (message_of a v) c.args.sent.now.items _
    ∙ ap (λ l. old ++ l)
    (sym (send_sent c.args.s.now c.in-Send.label c.in-Send.distance c.in-Send.formula c.in-Send.is a v))

pub add_sent-returns-in_default : goal.add_sent-returns-in_default
add_sent-returns-in_default t c =
    λ a v.
    let old : List Message = messages_of a v c.args.sent.now.items in
    let d = c.in_default in
    sym (ap (λ l. old ++ l) (sends_none c.args.s.now d.not-If d.not-While d.not-Par d.not-Send a v) ∙ append-nil old)
