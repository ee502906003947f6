use Rattle.pv_exprs.proofs.Formulas as formulas
use Rattle.pv_exprs.proofs.atoms.bound_names.Goals as goal

pub returns : goal.returns
returns c =
    formulas.names_given c.args.tokens.now _ _ _ _ _ c.in_ok-first.first c.in_ok-second.second _ _ _ c.in_ok-rest.ensures
    c.in_ok-first.ensures c.in_ok-rest-2.ensures c.in_ok-second.ensures c.in_ok-rest-3.ensures
