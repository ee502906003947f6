use Rattle.std.proofs.Common.{◌≡◌, pos, drop}
use Rattle.pv_linear.specs.Values.{Values}
use Rattle.small_meaning.specs.Running.{with_parameters}
use Rattle.small_verdicts.specs.Symbolic.{variables_of, size_of}
use Rattle.small_verdicts.proofs.method.start.Given as goal

abbrev pub invariant-loop-param : goal.invariant-loop-param
invariant-loop-param l = record {
  value : (v : Values) → with_parameters (variables_of v l.store.terms.entries) (drop l.param-index l.params) l.place v
      ≡ with_parameters (λ name. pos 0) l.params 0 v;
  size : size_of l.store.terms.entries ≡ 0;
}
