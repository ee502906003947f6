-- A small well typed program, with a declaration, a write and a call:
--   class Counter { int f; int next(int n) { int x = n + 1; f = x; x = next(x); return x; } }
use Rattle.std.specs.Prelude.{ℕ, pos, false, Some, None, [], ◌∷◌}
use Rattle.pv_base.specs.declared.Name.{Name}
use Rattle.pv_base.specs.declared.Span.{Span}
use Rattle.pv_ast.specs.declared.PvType.TheVariants.{Int}
use Rattle.pv_values.specs.declared.value.Value.TheVariants as value
use Rattle.pv_picks.specs.Plain.Core.{Plain, Plus, Constant, This, Variable, Compute, ToVariable, ToField, Value', Call, Assign, Return, Block, Stop, Then, IsField, IsMethod, Method, Class, Program}
use Rattle.pv_picks.specs.Machine.Starts.{true_formula}

abbrev pub named : ℕ → Name
named n = record { 0 = n }

abbrev pub nowhere : Span
nowhere = record { from = 0; to = 0 }

abbrev pub counter : Name
counter = named 0

abbrev pub next_body : Block
next_body =
    Then (Assign (ToVariable (named 4))
    (Value' (Compute Plain Plus (Variable (named 3)) (Constant (value.Number (pos 1))) nowhere)) nowhere)
    (Then (Assign (ToField This counter (named 1) nowhere) (Value' (Variable (named 4))) nowhere)
    (Then (Assign (ToVariable (named 4)) (Call counter (named 2) This (Variable (named 4) ∷ [])) nowhere)
    (Then (Return (Some (Variable (named 4))) nowhere) Stop)))

abbrev pub next_method : Method
next_method = record {
  name = Some (named 2);
  parameters = (named 3, Int) ∷ [];
  result = Some Int;
  contract = record { before = true_formula; after = true_formula };
  body = next_body;
  old = false;
}

abbrev pub counter_class : Class
counter_class = record { name = counter; lock_invariant = None; members = IsField (named 1, Int) ∷ IsMethod next_method ∷ [] }

abbrev pub program : Program
program = counter_class ∷ []
