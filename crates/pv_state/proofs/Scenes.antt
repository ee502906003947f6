-- What is found in scenes.
use Rattle.std.proofs.Common.{ℕ, zero, suc, ◌<◌, List, [], ◌∷◌, ◌++◌, length, arith}
use Rattle.std.specs.Prelude.{slice_index_or}
use Rattle.pv_linear.specs.declared.Sort.{Sort}
use Rattle.pv_linear.specs.declared.Sort.TheVariants as sort
use Rattle.pv_linear.proofs.SortingLemmas.{has_more}
use Rattle.pv_state.specs.declared.scene.Local.{Local}
use Rattle.pv_state.specs.declared.scene.SymbolScene.{SymbolScene}
use Rattle.pv_state.specs.declared.values.SymbolValue.{SymbolValue}
use Rattle.pv_state.specs.declared.values.SymbolValue.TheVariants.{Number, Truth, Reference}
use Rattle.pv_state.specs.declared.values.SymbolTruth.{SymbolTruth}
use Rattle.pv_state.specs.declared.values.SymbolTruth.TheVariants.{Known, From, Unless}
use Rattle.pv_state.specs.Values.{IsMade, IsMadeTruth}
use Rattle.std.specs.Prelude.{pos}
use Rattle.pv_linear.specs.Sorts.{HasSort}
use Rattle.pv_state.specs.States.{AreMade, IsMadeScene}
use Rattle.pv_state.proofs.Orders.{term_more, is_number}

pub made_of : (made : List Sort) (ls : List Local) (i : ℕ) (d : Local) → i < length ls → AreMade made ls
    → IsMade made (slice_index_or ls i d).value
unfolding AreMade
made_of made [] i d h k = absurd (omega arith)
made_of made (l ∷ ls) zero d h k = k.0
made_of made (l ∷ ls) (suc i) d h k = made_of made ls i d (omega (arith, h)) k.1

made_truth : (made more : List Sort) (t : SymbolTruth) → IsMadeTruth made t → IsMadeTruth (made ++ more) t
made_truth made more (Known b) h = tt
made_truth made more (From s) h = has_more made more sort.Truth s.0 h
made_truth made more (Unless s) h = has_more made more sort.Truth s.0 h

pub made_more : (made more : List Sort) (x : SymbolValue) → IsMade made x → IsMade (made ++ more) x
unfolding IsMade
made_more made more (Number t) h = term_more made more t h
made_more made more (Truth t) h = made_truth made more t h
made_more made more (Reference s) h = has_more made more sort.Reference s.0 h

are_more : (made more : List Sort) (ls : List Local) → AreMade made ls → AreMade (made ++ more) ls
unfolding AreMade
are_more made more [] h = tt
are_more made more (l ∷ ls) h = (made_more made more l.value h.0, are_more made more ls h.1)

pub scene_more : (made more : List Sort) (s : SymbolScene) → IsMadeScene made s → IsMadeScene (made ++ more) s
scene_more made more s h = record {
  this = has_more made more sort.Reference s.this.0 h.this;
  locals = are_more made more s.locals.items h.locals;
  result = made_more made more s.result h.result;
}

pub made_zero : (made : List Sort) → IsMade made (Number (record { symbol = record { 0 = 0 }; plus = pos 0 }))
unfolding IsMade HasSort
made_zero made = is_number made _ tt (omega arith)

pub made_of_truth : (made : List Sort) (t : SymbolTruth) → IsMadeTruth made t → IsMade made (Truth t)
unfolding IsMade
made_of_truth made t h = h
