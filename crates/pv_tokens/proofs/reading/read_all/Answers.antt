use Rattle.std.proofs.Common.{[], List, sym, subst, refl, arith}
use Rattle.pv_tokens.specs.declared.Lexeme.{Lexeme}
use Rattle.pv_tokens.specs.Progress as p
use Rattle.pv_tokens.specs.Progress.{Steps, progress}
use Rattle.pv_tokens.proofs.NameLaws.{extends_same, extends_then}
use Rattle.pv_tokens.proofs.ProgressLaws.{further}
use Rattle.pv_tokens.proofs.reading.read_all.Goals as goal

pub loop-at-init : goal.loop-at-init
loop-at-init c =
    let names = c.args.names.now in
    record {
      read = subst (λ (xs : List Lexeme). Steps c.args.text.now (progress 0 names []) (progress 0 names xs))
          (sym c.new-lexemes.ensures) p.here;
      within = omega arith;
      names = extends_same names names refl;
    }

pub loop-at-preserved : goal.loop-at-preserved
loop-at-preserved c = record {
  read = further c.args.text.now _ _ _ c.loop-at.invariant.read c.in_ok-at.ensures.step;
  within = c.in_ok-at.ensures.to.1;
  names = extends_then c.loop-at.invariant.names c.in_ok-at.ensures.names;
}

pub returns-in_err-at-clause-names : goal.returns-in_err-at-clause-names
returns-in_err-at-clause-names c = extends_then c.loop-at.invariant.names c.in_err-at.ensures.names

pub returns-clause-names : goal.returns-clause-names
returns-clause-names c = c.loop-at.invariant.names
