-- Short names for the parts of core trees.
use Rattle.std.specs.Prelude.{ℕ, Bool, true, Option, List}
use Rattle.pv_base.specs.declared.Name.{Name}
use Rattle.pv_ast.specs.declared.PvType.{PvType}
use Rattle.pv_values.specs.declared.value.Value.TheVariants as value
use Rattle.pv_picks.specs.Plain.Core.{Expression, Constant, Formula, Fact, Items, Contract, Shared, Team, Barrier, Message, Parameter, Block, Predicate, Method, Member, Class}
use Rattle.worked_programs.specs.Nodes.{at}

abbrev pub always : Formula
always = Fact (Constant (value.Truth true)) (at 0 0)

abbrev pub contract : Formula → Formula → Contract
contract before after = record { before = before; after = after }

abbrev pub shared : Contract → Items → Items → Shared
shared one before after = record { one = one; each_before = before; each_after = after }

abbrev pub team : Bool → Name → Expression → Expression → Shared → Team
team counted variable low high s = record { counted = counted; variable = variable; low = low; high = high; shared = s }

abbrev pub barrier : List ℕ → Shared → Barrier
barrier place s = record { place = place; shared = s }

abbrev pub message : Name → ℕ → Formula → Message
message label distance formula = record { label = label; distance = distance; formula = formula }

abbrev pub predicate : Name → List Parameter → Formula → Predicate
predicate name parameters body = record { name = name; parameters = parameters; body = body }

abbrev pub method : Option Name → List Parameter → Option PvType → Contract → Block → Bool → Method
method name parameters result c body old = record {
  name = name;
  parameters = parameters;
  result = result;
  contract = c;
  body =
      body;
  old = old;
}

abbrev pub class : Name → Option Formula → List Member → Class
class name invariant members = record { name = name; lock_invariant = invariant; members = members }
