-- By which type members and elements are looked up.
use Rattle.std.specs.Prelude.{◌≡◌, ℕ}
use Rattle.pv_base.specs.declared.Span.{Span}
use Rattle.pv_ast.specs.declared.PvType.{PvType}
use Rattle.pv_ast.specs.declared.PvType.TheVariants.{Int, Object, IntArray, TruthArray}
use Rattle.pv_ast.specs.declared.standing.Typing.{Typing}
use Rattle.pv_ast.specs.declared.standing.Seen.{Seen}
use Rattle.pv_picks.specs.Plain.Core.{Expression}
use Rattle.pv_picks.specs.Elaborating.Names.{settled}
use Rattle.pv_picks.specs.Elaborating.Operations.{permission}

-- the type of an object or an array; one of what has no members and no elements is as good as `int`
abbrev pub holding : PvType → PvType
holding (Object class) = Object class
holding IntArray = IntArray
holding TruthArray = TruthArray
holding _ = Int

abbrev pub held : Typing → PvType
held typing = holding (settled typing)

-- members and elements of both are looked up in the same place
pub record IsHeldAs (s t : Seen) : Type 0 where
  pub kind : held s.typing ≡ held t.typing
  pub this : s.this ≡ t.this

-- a permission for the expression is the same by both types
abbrev pub IsPlaceOf : Typing → Typing → Expression → Type 0
IsPlaceOf s t x = (units : ℕ) (span : Span) → permission (settled s) units span x ≡ permission (settled t) units span x
