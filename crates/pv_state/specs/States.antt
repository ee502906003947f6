-- Scenes and stores of symbols, and what they stand for.
use Rattle.std.specs.Prelude.{ℕ, pos, nat_eq, if◌then◌else◌, List, [], ◌∷◌, ◌++◌, map}
use Rattle.pv_ast.specs.declared.PvType.{PvType}
use Rattle.pv_values.specs.declared.value.Value.TheVariants as value
use Rattle.pv_linear.specs.declared.Sort.{Sort}
use Rattle.pv_linear.specs.declared.Sort.TheVariants as sort
use Rattle.pv_linear.specs.Values.{Values, number_of}
use Rattle.pv_linear.specs.Sorts.{HasSort}
use Rattle.pv_linear.specs.Evidence.{Evidence}
use Rattle.pv_picks.specs.Formulas.Values.{Variables, or_zero}
use Rattle.pv_picks.specs.Formulas.Evaluation.{Scene}
use Rattle.pv_picks.specs.Judge.States.{State, empty_state}
use Rattle.pv_picks.specs.Lazy.Runs.{Memory, Taken, OneNumber, OneTurn, Drawn, no_memory}
use Rattle.pv_picks.specs.Lazy.Parts.{Came, Goes}
use Rattle.pv_state.specs.declared.scene.Local.{Local}
use Rattle.pv_state.specs.declared.scene.SymbolScene.{SymbolScene}
use Rattle.pv_state.specs.declared.scene.Met.{Met}
use Rattle.pv_state.specs.declared.scene.SymbolPick.{SymbolPick}
use Rattle.pv_state.specs.declared.scene.SymbolPick.TheVariants as pick
use Rattle.pv_state.specs.declared.scene.Stores.{Stores}
use Rattle.pv_state.specs.Values.{value_at, IsMade}
use Rattle.pv_state.specs.Uses.{AreUses, uses_at}

abbrev pub variables_at : Values → List Local → Variables
variables_at v [] name = value.Number (pos 0)
variables_at v (l ∷ ls) name = if nat_eq l.name.0 name then value_at v l.value else variables_at v ls name

abbrev pub reference_at : Values → ℕ → ℕ
reference_at v symbol = or_zero (number_of v symbol)

abbrev pub scene_at : Values → SymbolScene → Scene
scene_at v s = record {
  this = reference_at v s.this.0;
  variables = variables_at v s.locals.items;
  result = value_at v s.result;
}

-- the last one first
abbrev pub met_at : Values → List Met → List (PvType × ℕ)
met_at v [] = []
met_at v (m ∷ ms) = met_at v ms ++ (m.kind, reference_at v m.symbol.0) ∷ []

abbrev pub pick_at : Values → SymbolPick → Taken
pick_at v (pick.Number s symbol) = OneNumber (number_of v symbol.0)
pick_at v (pick.Turn n) = OneTurn n

-- the state of a run, with its own scene
abbrev pub state_at : Values → SymbolScene → Stores → State
state_at v own stores = record empty_state {
  met = met_at v stores.met.items;
  this = reference_at v own.this.0;
  variables = variables_at v own.locals.items;
  result = value_at v own.result;
}

abbrev pub memory_at : Values → Stores → Memory
memory_at v stores = record no_memory {
  uses = uses_at v stores.uses.items;
  picks = map (pick_at v) stores.picks.items;
}

abbrev pub drawn_at : ℕ → ℕ → Drawn
drawn_at taken turned = record { taken = taken; turned = turned }

-- the run goes on with this
abbrev pub went_at : {A : Type 0} → Evidence → SymbolScene → Stores → A → ℕ → ℕ → Came A
went_at e own stores a taken turned = Goes a (state_at e.values own stores) (memory_at e.values stores) (drawn_at taken turned)

-- symbols were made as they are used
unfoldable pub AreMade : List Sort → List Local → Type 0
AreMade made [] = Unit {0}
AreMade made (l ∷ ls) = IsMade made l.value × AreMade made ls

pub record IsMadeScene (made : List Sort) (s : SymbolScene) : Type 0 where
  pub this : HasSort made sort.Reference s.this.0
  pub locals : AreMade made s.locals.items
  pub result : IsMade made s.result

unfoldable pub AreMet : List Sort → List Met → Type 0
AreMet made [] = Unit {0}
AreMet made (m ∷ ms) = HasSort made sort.Reference m.symbol.0 × AreMet made ms

abbrev pub IsMadePick : List Sort → SymbolPick → Type 0
IsMadePick made (pick.Number s symbol) = HasSort made s symbol.0
IsMadePick made (pick.Turn n) = Unit {0}

unfoldable pub ArePicks : List Sort → List SymbolPick → Type 0
ArePicks made [] = Unit {0}
ArePicks made (p ∷ ps) = IsMadePick made p × ArePicks made ps

pub record AreStores (made : List Sort) (stores : Stores) : Type 0 where
  pub uses : AreUses made stores.uses.items
  pub met : AreMet made stores.met.items
  pub picks : ArePicks made stores.picks.items
