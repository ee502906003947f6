-- The units of a program, each of which gets a verdict: its methods, in the order of the text.
use Rattle.std.specs.Prelude.{◌≡◌, List, [], ◌∷◌}
use Rattle.std.specs.List.{flat_map}
use Rattle.pv_base.specs.declared.Name.{Name}
use Rattle.pv_ast.specs.declared.Method.{Method}
use Rattle.pv_ast.specs.declared.Member.{Member}
use Rattle.pv_ast.specs.declared.Member.TheVariants as member
use Rattle.pv_ast.specs.declared.Class.{Class}
use Rattle.pv_ast.specs.declared.Program.{Program}
use Rattle.small_verdicts.specs.Grounded.{HasGround}
use Rattle.small_verdicts.specs.declared.judging.Judged.{Judged}

-- a method of the class of that name
pub record MethodUnit : Type 0 where
  pub class : Name
  pub method : Method

abbrev pub units_of_member : Name → Member → List MethodUnit
units_of_member class (member.Field p) = []
units_of_member class (member.Predicate p) = []
units_of_member class (member.Method m) = record { class = class; method = m } ∷ []
units_of_member class (member.Run r) = []

abbrev pub units_of_class : Class → List MethodUnit
units_of_class c = flat_map (units_of_member c.name.name) c.members

abbrev pub units_of : Program → List MethodUnit
units_of p = flat_map units_of_class p.classes

-- the verdict is on this unit, and has its ground
pub record IsJudged (unit : MethodUnit) (judged : Judged) : Type 0 where
  pub class : judged.class ≡ unit.class
  pub method : judged.method ≡ unit.method.name.name
  pub ground : HasGround unit.method judged.verdict

-- one verdict on each unit, in order
abbrev pub AreJudged : List MethodUnit → List Judged → Type 0
AreJudged [] [] = Unit {0}
AreJudged [] (j ∷ js) = ⊥
AreJudged (u ∷ us) [] = ⊥
AreJudged (u ∷ us) (j ∷ js) = IsJudged u j × AreJudged us js
