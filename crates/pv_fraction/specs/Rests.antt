-- What a rest of the code stands for.
use Rattle.pv_fraction.specs.declared.rest.Rest.{Rest}
use Rattle.pv_fraction.specs.declared.rest.Rest.TheVariants.{Left, Nothing, Short}
use Rattle.pv_fraction.specs.Amounts.{Remainder, left, nothing, short}

abbrev pub remainder_of : Rest → Remainder
remainder_of (Left f) = left f
remainder_of Nothing = nothing
remainder_of Short = short
