use Rattle.std.proofs.Common.{◌≡◌, ◌++◌, map, drop}
use Rattle.pv_ast.specs.Rules.Scoping.{Visible}
use Rattle.pv_ast.specs.Rules.Expressions.{Environment}
use Rattle.pv_picks.specs.Elaborating.Statements.{elaborated_statement, sent_in}
use Rattle.pv_plain.specs.Sites.{messages_of}
use Rattle.pv_plain.proofs.sending.+sent.Given as goal

abbrev pub invariant-add_all_sent-loop-each : goal.invariant-add_all_sent-loop-each
invariant-add_all_sent-loop-each l =
    (a : Environment) (v : Visible)
    → messages_of a v l.sent.items ++ sent_in (map elaborated_statement (drop l.each-index l.body)) a v
    ≡ messages_of a v l.fn.sent.items ++ sent_in (map elaborated_statement l.body) a v
