-- Operations as the meaning reads them: what an operator between two expressions becomes, and which operations are plain. Then
-- what an expression becomes as a guard, as the place of a permission, and as the left side of an assignment.
use Rattle.std.specs.Prelude.{ℕ, ℤ, pos, ◌-ℤ◌, Bool, true, false, ◌&&◌, ◌||◌, Option, Some, None, List, [], ◌∷◌, ◌++◌, if◌then◌else◌}
use Rattle.pv_base.specs.declared.Name.{Name}
use Rattle.pv_base.specs.declared.Span.{Span}
use Rattle.pv_ast.specs.declared.Operator.{Operator}
use Rattle.pv_ast.specs.declared.Operator.TheVariants as op
use Rattle.pv_ast.specs.declared.PvType.{PvType}
use Rattle.pv_values.specs.declared.value.Value.TheVariants as value
use Rattle.pv_base.specs.Names.{same_name}
use Rattle.pv_picks.specs.Plain.Core.{Expression, Operation, Manner, Comparison, Cut, Formula, Item, Target}
use Rattle.pv_picks.specs.Plain.Core as core

abbrev pub number : ℤ → Expression
number n = core.Constant (value.Number n)

-- what stands where the static rules refuse a program: the number 0, which as a formula or item is never met
abbrev pub no_expression : Expression
no_expression = number (pos 0)

abbrev pub no_span : Span
no_span = record { from = 0; to = 0 }

abbrev pub no_formula : Span → Formula
no_formula span = core.Fact no_expression span

abbrev pub no_item : Span → Item
no_item span = core.Repeated no_expression span

-- a number that is written, its negation, or a sum or difference of such
abbrev pub is_literal : Expression → Bool
is_literal (core.Constant (value.Number n)) = true
is_literal (core.Compute manner core.Plus x y span) = is_literal x && is_literal y
is_literal (core.Compute manner core.Minus x y span) = is_literal x && is_literal y
is_literal _ = false

abbrev pub plain_if : Bool → Manner
plain_if holds = if holds then core.Plain else core.Tabled

-- `+` is plain beside a literal expression, and `-` before one
abbrev pub manner_of : Operation → Expression → Expression → Manner
manner_of core.Plus x y = plain_if (is_literal x || is_literal y)
manner_of core.Minus x y = plain_if (is_literal y)
manner_of core.Times x y = core.Tabled

abbrev pub computed : Operation → Span → Expression → Expression → Expression
computed o span x y = core.Compute (manner_of o x y) o x y span

-- a difference that is compared with a literal expression is plain
abbrev pub plainly : Expression → Expression
plainly (core.Compute manner core.Minus x y span) = core.Compute core.Plain core.Minus x y span
plainly x = x

-- an operand of a comparison, by the other one
abbrev pub compared : Expression → Expression → Expression
compared other x = if is_literal other then plainly x else x

abbrev pub comparison : Comparison → Expression → Expression → Expression
comparison c x y = core.Compare c (compared y x) (compared x y)

abbrev pub equality : Bool → Expression → Expression → Expression
equality same x y = core.Equal same (compared y x) (compared x y)

-- `**` of truth values is `&&`
abbrev pub operation : Operator → Span → Expression → Expression → Expression
operation op.Add span x y = computed core.Plus span x y
operation op.Sub span x y = computed core.Minus span x y
operation op.Mul span x y = computed core.Times span x y
operation op.Eq span x y = equality true x y
operation op.Ne span x y = equality false x y
operation op.Lt span x y = comparison core.Less x y
operation op.Le span x y = comparison core.AtMost x y
operation op.Gt span x y = comparison core.Greater x y
operation op.Ge span x y = comparison core.AtLeast x y
operation op.And span x y = core.And x y
operation op.Or span x y = core.Or x y
operation op.Implies span x y = core.Implies x y
operation op.Star span x y = core.And x y

-- the negation of a number that is written is a constant; that of another expression is its difference from 0
abbrev pub negation : Option ℕ → Span → Expression → Expression
negation None span x = computed core.Minus span (number (pos 0)) x
negation (Some n) span x = number (pos 0 -ℤ pos n)

-- Guards

abbrev pub is_position : Name → Expression → Bool
is_position name (core.Variable other) = same_name name other
is_position name _ = false

-- the position before the term, and behind it
abbrev pub cut_before : Comparison → Expression → Cut
cut_before core.Less term = core.Below term
cut_before core.AtMost term = core.UpTo term
cut_before core.Greater term = core.Above term
cut_before core.AtLeast term = core.From term

abbrev pub cut_behind : Comparison → Expression → Cut
cut_behind core.Less term = core.Above term
cut_behind core.AtMost term = core.From term
cut_behind core.Greater term = core.Below term
cut_behind core.AtLeast term = core.UpTo term

-- a comparison as a guard on the position of this name
abbrev pub cut_of : Name → Comparison → Expression → Expression → Cut
cut_of name c x y =
    if is_position name x then cut_before c y else (if is_position name y then cut_behind c x else core.Provided
    (core.Compare c x y))

-- the guards that `&&` joins, from left to right
abbrev pub cuts_of : Name → Expression → List Cut
cuts_of name (core.And x y) = cuts_of name x ++ cuts_of name y
cuts_of name (core.Compare c x y) = cut_of name c x y ∷ []
cuts_of name x = core.Provided x ∷ []

-- the term to which `i == e` fixes the position
abbrev pub term_of : Expression → Expression
term_of (core.Equal same x y) = y
term_of _ = no_expression

-- Places

-- a permission of so many units to a field of this type, or to an element
abbrev pub permission : PvType → ℕ → Span → Expression → Formula
permission type units span (core.Field object class field at) = core.FieldPermission object class field type units span
permission type units span (core.Element type' array index at) = core.ElementPermission type' array index units span
permission type units span _ = no_formula span

-- a permission of so many units to the element at each position, shifted
abbrev pub permissions : ℤ → ℕ → Span → Expression → Item
permissions shift units span (core.Element type array index at) = core.Elements type array shift units span
permissions shift units span _ = no_item span

-- a left side of an assignment
abbrev pub target_of : Expression → Target
target_of (core.Variable name) = core.ToVariable name
target_of (core.Field object class field span) = core.ToField object class field span
target_of (core.Element type array index span) = core.ToElement type array index span
target_of _ = core.Nowhere
