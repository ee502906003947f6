use Rattle.std.proofs.Common.{◌≡◌, Bool, true, false, get_or, refl, sym, ◌∙◌, ap, filter_map, drop, ◌++◌, ◌+◌}
use Rattle.pv_base.specs.declared.Name.{Name}
use Rattle.pv_picks.specs.Plain.Trees.{parameters_of}
use Rattle.pv_picks.specs.Elaborating.Names.{variable_in}
use Rattle.pv_types.specs.Sets.{has_name}
use Rattle.pv_plain.specs.Sights.{in_scope}
use Rattle.pv_plain.proofs.Naming.{rest_all, known_next, new_next, variables_left, not_true, not_false}
use Rattle.pv_plain.proofs.assigning.variables_of.Goals as goal
use Rattle.pv_plain.proofs.assigning.variables_of.Goals.{then-branch+in_ok-add_variable, else-branch}

pub loop-name-init : goal.loop-name-init
loop-name-init c =
    ap (λ ps. parameters_of ps ++ variables_left (in_scope c.args.sight) (has_name c.new-seen.result) (drop 0 c.args.names.now))
    c.new-all.ensures
    ∙ ap (filter_map (variable_in (in_scope c.args.sight)))
    (rest_all (has_name c.new-seen.result) c.new-seen.ensures c.args.names.now)

pub loop-name-preserved : goal.loop-name-preserved
loop-name-preserved c =
    let v = in_scope c.args.sight in
    let none : Name = record { 0 = 0 } in
    let names = c.args.names.now in
    let at = c.loop-name.name-index in
    let x : Name = get_or names at none in
    let known = has_name c.loop-name.seen in
    let known' = has_name c.insert.new.self in
    let put = c.in_ok-insert.ensures.put in
    let fresh = c.in_ok-insert.ensures.fresh in
    elim c.if-branch.branch [
      | then-branch+in_ok-add_variable w ↦
          new_next v known known' names at none x (parameters_of c.loop-name.all) (parameters_of c.if-branch.all)
          c.loop-name-test.true refl (not_true (known x) (sym fresh ∙ w.if-branch.true)) put
          (ap parameters_of w.all-is ∙ w.in_ok-add_variable.ensures)
          ∙ c.loop-name.invariant
      | else-branch w ↦
          ap (λ ps. parameters_of ps ++ variables_left v known' (drop (at + 1) names)) w.all-is
          ∙ known_next v known known' names at none x (parameters_of c.loop-name.all) c.loop-name-test.true refl
          (not_false (known x) (sym fresh ∙ w.if-branch.false)) put
          ∙ c.loop-name.invariant
    ]
