-- What the code keeps of the surroundings of an expression, as the definitions see it.
use Rattle.std.specs.Prelude.{◌≡◌, Bool, List, [], ◌∷◌, Option, Some, None}
use Rattle.std.specs.Option.{option_map}
use Rattle.pv_ast.specs.declared.PvType.{PvType}
use Rattle.pv_ast.specs.declared.Param.{Param}
use Rattle.pv_ast.specs.declared.standing.Typing.{Typing}
use Rattle.pv_ast.specs.Rules.Typing.{meets}
use Rattle.pv_ast.specs.declared.standing.Need.TheVariants.{Anything, Exactly}
use Rattle.pv_ast.specs.Rules.Expressions.{Environment as Surroundings, Holder as Members, nowhere, among, Signature as Types, unsought, unknown, taking, types_of}
use Rattle.pv_types.specs.declared.environment.Environment.{Environment}
use Rattle.pv_types.specs.declared.environment.Holder.{Holder}
use Rattle.pv_types.specs.declared.environment.Signature.{Signature}
use Rattle.pv_types.specs.declared.environment.Signature.TheVariants.{Unsought, Unknown, Known}
use Rattle.pv_types.specs.declared.environment.Holder.TheVariants.{Nowhere, Missing, Found}

abbrev pub environment_of : Environment → Surroundings
environment_of a = record { program = a.table.now; class = a.class; here = option_map (λ c. c.now) a.here; result = a.result }

-- a class that isn't declared has no members
abbrev pub members_in : Holder → Members
members_in Nowhere = nowhere
members_in Missing = among []
members_in (Found c) = among c.now.members

abbrev pub signature_of : Signature → Types
signature_of Unsought = unsought
signature_of Unknown = unknown
signature_of (Known params) = taking (types_of params.now)

-- the type of the next parameter, and the parameters behind it
abbrev pub IsNextType : List Param → Option PvType → List Param → Type 0
IsNextType [] needed rest = (needed ≡ None) × (rest ≡ [])
IsNextType (p ∷ ps) needed rest = (needed ≡ Some p.kind.kind) × (rest ≡ ps)

-- an argument has its parameter's type, and one beyond the parameters any
abbrev pub has_type : Option PvType → Typing → Bool
has_type None typing = meets Anything typing
has_type (Some type) typing = meets (Exactly type) typing
