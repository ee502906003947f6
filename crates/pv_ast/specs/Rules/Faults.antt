-- The faults of a part of a program, and the first of them.
use Rattle.std.specs.Prelude.{ℕ, ◌≡◌, ◌⊎◌, Bool, true, false, ◌||◌, ◌&&◌, if◌then◌else◌, nat_eq, nat_lt, Option, Some, None}
use Rattle.pv_base.specs.declared.Span.{Span}
use Rattle.pv_ast.specs.declared.fault.Fault.{Fault}
use Rattle.pv_ast.specs.declared.fault.Rule.{Rule}
use Rattle.pv_ast.specs.declared.fault.Rule.TheVariants as rule

-- the faults of a part: none, a broken rule at a span, or those of two parts
pub data Faults : Type 0 where
  none : Faults
  broken : Rule → Span → Faults
  both : Faults → Faults → Faults

-- a rule that is broken where the test holds
abbrev pub broken_if : Bool → Rule → Span → Faults
broken_if true r s = broken r s
broken_if false r s = none

abbrev pub broken_unless : Bool → Rule → Span → Faults
broken_unless true r s = none
broken_unless false r s = broken r s

-- a fault is among the faults
abbrev pub Among : Fault → Faults → Type 0
Among f none = ⊥
Among f (broken r s) = f ≡ record { rule = r; span = s }
Among f (both a b) = Among f a ⊎ Among f b

-- the number of a rule
abbrev pub rule_number : Rule → ℕ
rule_number rule.UnknownName = 1
rule_number rule.Duplicate = 2
rule_number rule.Shadows = 3
rule_number rule.WrongType = 4
rule_number rule.WrongCount = 5
rule_number rule.NotPure = 6
rule_number rule.NoReturn = 7
rule_number rule.ReturnPlace = 8
rule_number rule.ResultPlace = 9
rule_number rule.OldPlace = 10
rule_number rule.NotAssignable = 11
rule_number rule.NotALocation = 12
rule_number rule.BadFraction = 13
rule_number rule.NoRole = 14
rule_number rule.BarrierPlace = 15
rule_number rule.BodyForm = 16
rule_number rule.MessagePlace = 17
rule_number rule.MessageRule = 18
rule_number rule.FormulaScope = 19
rule_number rule.RangeName = 20

-- one fault is named before another: it starts earlier, or both start there and its rule comes first
abbrev pub is_before : Fault → Fault → Bool
is_before f g = nat_lt f.span.from g.span.from
    || (nat_eq f.span.from g.span.from && nat_lt (rule_number f.rule) (rule_number g.rule))

-- the first of what was found and one fault more; what was found stays where neither is named before the other
abbrev pub earlier : Option Fault → Fault → Option Fault
earlier None f = Some f
earlier (Some g) f = Some (if is_before f g then f else g)

-- the first of what was found and of more faults
abbrev pub least : Option Fault → Faults → Option Fault
least found none = found
least found (broken r s) = earlier found (record { rule = r; span = s })
least found (both a b) = least (least found a) b

-- the first fault, if there is any
abbrev pub first_of : Faults → Option Fault
first_of = least None

-- a fault is the first: it is there, and none that is there is named before it
pub record IsFirst (f : Fault) (faults : Faults) : Type 0 where
  pub among : Among f faults
  pub least : (g : Fault) → Among g faults → is_before g f ≡ false
