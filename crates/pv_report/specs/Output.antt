-- What is printed, byte by byte. Every line ends with a line feed.
use Rattle.std.specs.Prelude.{ℕ, Bool, true, false, List, [], ◌∷◌, ◌++◌, slice_get, unwrap_or, codes, if◌then◌else◌}
use Rattle.std.specs.Fmt.{decimal}
use Rattle.std.specs.List.{flat_map, list_any}
use Rattle.pv_base.specs.declared.Name.{Name}
use Rattle.pv_base.specs.declared.Span.{Span}
use Rattle.pv_base.specs.Place.{line_at, column_at}
use Rattle.pv_ast.specs.declared.fault.Rule.{Rule}
use Rattle.pv_ast.specs.declared.fault.Rule.TheVariants as rule
use Rattle.small_verdicts.specs.declared.SmallCheck.{SmallCheck}
use Rattle.small_verdicts.specs.declared.SmallCheck.TheVariants.{Assert, Ensures}
use Rattle.small_verdicts.specs.declared.SmallVerdict.{SmallVerdict}
use Rattle.small_verdicts.specs.declared.SmallVerdict.TheVariants.{Pass, Empty, Fail}
use Rattle.small_verdicts.specs.declared.judging.Judged.{Judged}
use Rattle.pv_report.specs.declared.refusing.Refusal.{Refusal}
use Rattle.pv_report.specs.declared.refusing.Refusal.TheVariants as refusal

abbrev pub line_of : List ℕ → List ℕ
line_of words = words ++ 10 ∷ []

-- the text of a name
abbrev pub name_text : List (List ℕ) → Name → List ℕ
name_text names name = unwrap_or (slice_get names name.0) []

-- a unit, as `Class.method`
abbrev pub unit_text : List (List ℕ) → Judged → List ℕ
unit_text names j = name_text names j.class ++ codes "." ++ name_text names j.method

-- a place, as `L:C`
abbrev pub place_text : List ℕ → ℕ → List ℕ
place_text text at = decimal (line_at text at) ++ codes ":" ++ decimal (column_at text at)

-- a span, as `L:C-L:C`: its first place, and the one just after the last
abbrev pub span_text : List ℕ → Span → List ℕ
span_text text span = place_text text span.from ++ codes "-" ++ place_text text span.to

-- the name of a static rule
abbrev pub static_rule_text : Rule → List ℕ
static_rule_text rule.UnknownName = codes "UnknownName"
static_rule_text rule.Duplicate = codes "Duplicate"
static_rule_text rule.Shadows = codes "Shadows"
static_rule_text rule.WrongType = codes "WrongType"
static_rule_text rule.WrongCount = codes "WrongCount"
static_rule_text rule.NotPure = codes "NotPure"
static_rule_text rule.NoReturn = codes "NoReturn"
static_rule_text rule.ReturnPlace = codes "ReturnPlace"
static_rule_text rule.ResultPlace = codes "ResultPlace"
static_rule_text rule.OldPlace = codes "OldPlace"
static_rule_text rule.NotAssignable = codes "NotAssignable"
static_rule_text rule.NotALocation = codes "NotALocation"
static_rule_text rule.BadFraction = codes "BadFraction"
static_rule_text rule.NoRole = codes "NoRole"
static_rule_text rule.BarrierPlace = codes "BarrierPlace"
static_rule_text rule.BodyForm = codes "BodyForm"
static_rule_text rule.MessagePlace = codes "MessagePlace"
static_rule_text rule.MessageRule = codes "MessageRule"
static_rule_text rule.FormulaScope = codes "FormulaScope"
static_rule_text rule.RangeName = codes "RangeName"

-- the name of the rule for which a text is refused
abbrev pub rule_text : Refusal → List ℕ
rule_text (refusal.BadByte at) = codes "BadByte"
rule_text (refusal.BadNumber at) = codes "BadNumber"
rule_text (refusal.OpenComment at) = codes "OpenComment"
rule_text refusal.Full = codes "Full"
rule_text (refusal.Unexpected span) = codes "Unexpected"
rule_text (refusal.TooDeep span) = codes "TooDeep"
rule_text (refusal.Broken rule span) = static_rule_text rule
rule_text (refusal.QuantifierShape span) = codes "QuantifierShape"
rule_text (refusal.ItemShape span) = codes "ItemShape"
rule_text refusal.NotBuilt = codes "NotBuilt"

-- what stands behind it: where the fault is
abbrev pub text_behind_rule : List ℕ → Refusal → List ℕ
text_behind_rule text (refusal.BadByte at) = codes " " ++ place_text text at
text_behind_rule text (refusal.BadNumber at) = codes " " ++ place_text text at
text_behind_rule text (refusal.OpenComment at) = codes " " ++ place_text text at
text_behind_rule text refusal.Full = []
text_behind_rule text (refusal.Unexpected span) = codes " " ++ span_text text span
text_behind_rule text (refusal.TooDeep span) = codes " " ++ span_text text span
text_behind_rule text (refusal.Broken rule span) = codes " " ++ span_text text span
text_behind_rule text (refusal.QuantifierShape span) = codes " " ++ span_text text span
text_behind_rule text (refusal.ItemShape span) = codes " " ++ span_text text span
text_behind_rule text refusal.NotBuilt = []

-- the line of a refused text: `TextRefused RULE PLACE`, `TextRefused RULE SPAN` or `TextRefused RULE`
abbrev pub refusal_line : List ℕ → Refusal → List ℕ
refusal_line text r = line_of (codes "TextRefused " ++ rule_text r ++ text_behind_rule text r)

abbrev pub check_text : SmallCheck → List ℕ
check_text Assert = codes "Assert "
check_text Ensures = codes "Ensures "

-- what stands before the unit of a verdict
abbrev pub text_before : SmallVerdict → List ℕ
text_before Pass = codes "Pass "
text_before Empty = codes "Empty "
text_before (Fail check span numbers) = codes "Fail " ++ check_text check

-- what stands behind it
abbrev pub text_behind : List ℕ → SmallVerdict → List ℕ
text_behind text Pass = []
text_behind text Empty = []
text_behind text (Fail check span numbers) = codes " " ++ span_text text span

-- the line of a verdict: `Pass UNIT`, `Empty UNIT` or `Fail CHECK UNIT SPAN`
abbrev pub verdict_line : List ℕ → List (List ℕ) → Judged → List ℕ
verdict_line text names j = line_of (text_before j.verdict ++ unit_text names j ++ text_behind text j.verdict)

abbrev pub is_fail : SmallVerdict → Bool
is_fail Pass = false
is_fail Empty = false
is_fail (Fail check span numbers) = true

-- whether some verdict is Fail
abbrev pub some_fail : List Judged → Bool
some_fail judged = list_any (λ j. is_fail j.verdict) judged

abbrev pub last_line : Bool → List ℕ
last_line fails = if fails then line_of (codes "Refused") else line_of (codes "Pass")

-- a line for each verdict, and the last line by whether some verdict is Fail
abbrev pub report_of : List ℕ → List (List ℕ) → List Judged → List ℕ
report_of text names judged = flat_map (verdict_line text names) judged ++ last_line (some_fail judged)
