-- The laws of this crate, as they are stated.
use Rattle.std.proofs.Common.{None, [], sym}
use Rattle.pv_picks.specs.Judge.States.{cells_of}
use Rattle.pv_picks.specs.Judge.Runs.{whole_run}
use Rattle.account_formulas.specs.Runs.{contents_of}
use Rattle.account_formulas.specs.Statements.{NeverFailsTruly, UnitNeverFails, ExhaleGives, LeftFits, InhaleGains, OwnedStays, OwnedIsMet, OwnedAlike, MetAlike, ItemsDealt, ItemsGathered, OwnsAsItems, OwnsAsFormula, ValuesAreTyped, NumbersAre, LocalWorkIsStill, TypedHeapFits, MetIsOwned}
use Rattle.account_formulas.proofs.Asking.{holding_now, met_owns}
use Rattle.pv_ast.specs.declared.PvType.TheVariants.{Int}
use Rattle.account_formulas.proofs.TypedValues.{has_type, is_number_value}
use Rattle.account_formulas.proofs.Still.{settled_still}
use Rattle.account_formulas.proofs.Lengths.{goes_on_same}
use Rattle.account_formulas.proofs.Exhaling.{exhale_gives}
use Rattle.account_formulas.proofs.Raising.{settled_of, contents_fine, placed_of, held_on}
use Rattle.account_formulas.proofs.Gaining.{formula_gains}
use Rattle.account_formulas.proofs.Later.{owns_later}
use Rattle.account_formulas.proofs.Meeting.{is_met}
use Rattle.account_formulas.proofs.Alike.{owns_alike}
use Rattle.account_formulas.proofs.Quiet.{unmet_alone}
use Rattle.account_formulas.proofs.Dealing.{items_dealt, items_gathered}
use Rattle.account_formulas.proofs.OneForm.{to_items, from_items}

pub never_fails_truly : NeverFailsTruly
never_fails_truly run never =
    record { never = λ picks check span bad. never (record { picks = picks; table = [] }) check span bad }

pub unit_never_fails : UnitNeverFails
unit_never_fails p unit never = never_fails_truly (whole_run p unit) never

pub gives_up : ExhaleGives
gives_up p flags present sound c scene fits f good taken s settled state T trees check statement next never =
    exhale_gives taken (record { program = p; class = c.class; answer = c.answer }) c.speech flags present c.past
    (contents_of taken (cells_of s)) c.known (cells_of s) c.old (settled_of flags present taken s state) settled
    (record {
      now = contents_fine flags present taken s state;
      before = c.agrees;
      now_lengths = λ a n is. is;
      old_lengths = c.lengths;
    })
    sound.now c.before sound.natural check statement s state.knows c.scope f good scene fits s.held s.instances s.lengths T next
    trees
    state.agree
    (placed_of flags present taken s state) never

pub left_fits : LeftFits
left_fits flags present taken s H I l state leaves agree = record {
  steps = state.steps;
  agree = agree;
  holds = λ r h is.
      let before = leaves r h is in
      let held = state.holds r before.0 before.1 in
      held_on present taken taken (goes_on_same taken) r before.0 h held (sym before.2) (before.3 held.some);
  knows = state.knows;
  met = state.met;
}

pub takes_in : InhaleGains
takes_in p flags present sound framed c scene fits f good R owns =
    formula_gains p flags present sound framed c scene fits f good R owns

pub owned_stays : OwnedStays
owned_stays p flags present sound framed c scene fits f good R owns most taken t settled state empty none never other later old
    now_lengths old_lengths =
    owns_later p flags present sound framed c scene fits f good R owns most taken t settled state empty none never other later old
    now_lengths old_lengths

pub owned_is_met : OwnedIsMet
owned_is_met h speech p flags xs sight scene f good R owns = is_met h speech p flags xs sight scene f good R owns

pub owned_alike : OwnedAlike
owned_alike h speech flags one two now old xs a b same f good R owns =
    owns_alike h speech flags one two now old xs a b same f good R owns

pub met_alike : MetAlike
met_alike h speech quiet now one other xs scene f good = unmet_alone h speech quiet now one other xs scene f good

pub deals : ItemsDealt
deals p flags sight scene name low high items R owns = items_dealt p flags sight scene name low high items R owns

pub gathers : ItemsGathered
gathers p flags sight scene name low high items shares ones = items_gathered p flags sight scene name low high items shares ones

pub as_items : OwnsAsItems
as_items h speech flags sight xs name new scene numbered i f items same good R owns =
    to_items h speech flags sight xs name new scene numbered i f items same good R owns

pub as_formula : OwnsAsFormula
as_formula h speech flags sight xs name new scene numbered i f items same good R owns =
    from_items h speech flags sight xs name new scene numbered i f items same good R owns

pub values_are_typed : ValuesAreTyped
values_are_typed h speech xs present scene fits now old new former e type says v is =
    has_type h speech xs present scene fits now old new former e type says v is

pub numbers_are : NumbersAre
numbers_are h speech xs present scene fits now old new former e says v is =
    is_number_value present v (has_type h speech xs present scene fits now old new former e Int says v is)

pub local_work_is_still : LocalWorkIsStill
local_work_is_still f = settled_still f

pub typed_heap_fits : TypedHeapFits
typed_heap_fits p heap typed natural = record {
  now = holding_now (record { program = p; class = record { 0 = 0 }; answer = None }) heap typed;
  beyond = typed.beyond;
  natural = natural;
}

pub met_is_owned : MetIsOwned
met_is_owned h speech flags heap typed bounded xs scene fits f good plain met units most =
    met_owns h speech flags heap typed bounded xs scene fits f good plain met units most
