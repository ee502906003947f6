use Rattle.std.proofs.Common.{sym}
use Rattle.pv_types.proofs.Leaving.{extends_self}
use Rattle.pv_plain.proofs.Stating.{behind_local, behind_same}
use Rattle.pv_plain.proofs.statements.declare_behind.Goals as goal

pub returns-in-Local-clause-behind : goal.returns-in-Local-clause-behind
returns-in-Local-clause-behind c =
    rw (behind_local c.args.s.now c.in-Local.word c.in-Local.name c.in-Local.field-2 c.in-Local.is c.args.visible.now)
    c.declare.ensures.declared

pub returns-in_default : goal.returns-in_default
returns-in_default c = record {
  behind = sym (behind_same c.args.s.now c.in_default.not-Local c.args.visible.now);
  extends = extends_self c.args.visible.now;
}
