use Rattle.std.proofs.Common.{◌≡◌, drop}
use Rattle.pv_picks.specs.Lazy.Runs.{value_used}
use Rattle.pv_linear.specs.Evidence.{Evidence, Follows, Under}
use Rattle.pv_linear.specs.Decisions.{Level}
use Rattle.pv_linear.specs.Asking.{Asks, Together}
use Rattle.pv_state.specs.Parts.{StaysSorted, IsSorted}
use Rattle.pv_state.specs.Values.{IsTerm}
use Rattle.pv_state.specs.Uses.{use_at, uses_at, shown_at, AreUses}
use Rattle.pv_state.proofs.uses.find.Given as goal

-- what is left finds and shows what the whole does
abbrev pub invariant-loop-u : goal.invariant-loop-u
invariant-loop-u g l =
    let K = g.K.Asker in
    let rest = drop l.u-index l.uses in
    record {
      asks : Asks K.path K.turns K.decisions K.stands K.ended K.sorts l.initial.asker l.asker;
      says : Under K.path K.turns l.asker (λ e. value_used (uses_at e.values l.uses) (use_at e.values l.operation l.a l.b)
          ≡ value_used (uses_at e.values rest) (use_at e.values l.operation l.a l.b));
      tells : (e f : Evidence) → Follows (K.path l.initial.asker) (K.turns l.initial.asker) e
          → Follows (K.path l.initial.asker) (K.turns l.initial.asker) f → Level (K.decisions l.initial.asker) e f
          → shown_at e.values l.operation l.a l.b l.uses ≡ shown_at f.values l.operation l.a l.b l.uses
          → Together K.path K.turns K.decisions l.asker e f (shown_at e.values l.operation l.a l.b rest
          ≡ shown_at f.values l.operation l.a l.b rest);
      sorted : StaysSorted K.path K.turns K.decisions K.sorts l.initial.asker l.asker;
      still : IsSorted K.path K.turns K.decisions K.sorts l.asker;
      a : IsTerm (K.sorts l.asker) l.a;
      b : IsTerm (K.sorts l.asker) l.b;
      uses : AreUses (K.sorts l.asker) l.uses;
    }
