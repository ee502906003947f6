-- By the equations of nodes a whole tree is worked out: small programs that show what soundness speaks of.
use Rattle.std.proofs.Common.{◌≡◌, refl}
use Rattle.pv_picks.specs.Elaborating.Programs.{core_of}
use Rattle.worked_programs.specs.Witnesses as trees
use Rattle.worked_programs.specs.CoreWitnesses as core
use Rattle.worked_trees.specs.Programs.{WitnessesBecome}
use Rattle.worked_trees.proofs.Nodes.{number_node, null_node, this_node, var_node, field_node, binary_node, perm_node, token_node, instance_on_this_node, instance_node, local_stmt, assign_stmt, call_stmt, if_stmt, for_stmt, par_stmt, barrier_stmt, fork_stmt, lock_stmt, unlock_stmt, commit_stmt, fold_stmt, unfold_stmt, send_stmt, recv_stmt}
use Rattle.worked_trees.proofs.Rules.{expression_rule, formula_rule, items_rule, old_rule, right_rule, formulas_rule, all_items_rule}

handed_becomes : core_of trees.handed ≡ core.handed
handed_becomes = simp (
  expression_rule,
  formula_rule,
  old_rule,
  right_rule,
  formulas_rule,
  number_node,
  this_node,
  var_node,
  field_node,
  perm_node,
  token_node,
  local_stmt,
  assign_stmt,
  fork_stmt,
  lock_stmt,
  unlock_stmt,
  commit_stmt,
) refl

relay_becomes : core_of trees.relay ≡ core.relay
relay_becomes = simp (
  expression_rule,
  formula_rule,
  items_rule,
  old_rule,
  formulas_rule,
  all_items_rule,
  number_node,
  var_node,
  binary_node,
  perm_node,
  assign_stmt,
  if_stmt,
  par_stmt,
  barrier_stmt,
) refl

posted_becomes : core_of trees.posted ≡ core.posted
posted_becomes = simp (
  expression_rule,
  formula_rule,
  items_rule,
  old_rule,
  formulas_rule,
  all_items_rule,
  number_node,
  var_node,
  binary_node,
  perm_node,
  assign_stmt,
  if_stmt,
  for_stmt,
  send_stmt,
  recv_stmt,
) refl

list_becomes : core_of trees.list ≡ core.list
list_becomes = simp (
  expression_rule,
  formula_rule,
  old_rule,
  right_rule,
  formulas_rule,
  number_node,
  null_node,
  var_node,
  field_node,
  binary_node,
  perm_node,
  instance_on_this_node,
  instance_node,
  local_stmt,
  assign_stmt,
  call_stmt,
  if_stmt,
  fold_stmt,
  unfold_stmt,
) refl

members_race_becomes : core_of trees.members_race ≡ core.members_race
members_race_becomes = simp (expression_rule, formulas_rule, all_items_rule, number_node, var_node, assign_stmt, par_stmt) refl

overwritten_becomes : core_of trees.overwritten ≡ core.overwritten
overwritten_becomes = simp (expression_rule, formulas_rule, all_items_rule, number_node, var_node, assign_stmt, for_stmt) refl

divided_becomes : core_of trees.divided ≡ core.divided
divided_becomes = simp (
  expression_rule,
  formula_rule,
  items_rule,
  old_rule,
  right_rule,
  formulas_rule,
  all_items_rule,
  number_node,
  var_node,
  binary_node,
  perm_node,
  local_stmt,
  assign_stmt,
  par_stmt,
) refl

pub witnesses_become : WitnessesBecome
witnesses_become = (
  handed_becomes,
  relay_becomes,
  posted_becomes,
  list_becomes,
  members_race_becomes,
  overwritten_becomes,
  divided_becomes,
)
