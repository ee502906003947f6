-- Well typed programs: all that is found in them by its name is well typed, with its formulas.
use Rattle.std.specs.Prelude.{◌≡◌, Some, None, [], map}
use Rattle.pv_base.specs.declared.Name.{Name}
use Rattle.pv_ast.specs.declared.PvType.{PvType}
use Rattle.pv_picks.specs.Plain.Core.{Program, Predicate, Method, Formula}
use Rattle.pv_picks.specs.Plain.Members.{fields_of, field_type, predicate_named, method_named, run_of, invariant_of}
use Rattle.pv_picks.specs.Typing.Expressions.{silent, IsDeclared}
use Rattle.pv_picks.specs.Typing.Blocks.{ProgramFits}
use Rattle.core_trees.specs.Naming.{AreDistinct}
use Rattle.core_trees.specs.Formulas.{FormulaFits, PredicateFits, MethodSays, in_class}

-- bodies, fields, predicates, methods and each `run` with their contracts, and lock invariants
pub record IsTypedThroughout (p : Program) : Type 0 where
  pub bodies : ProgramFits p
  pub names : (class : Name) → AreDistinct (map (λ f. f.0) (fields_of p class))
  pub fields : (class field : Name) (type : PvType) → field_type p class field ≡ Some type → IsDeclared type
  pub predicates : (class name : Name) (q : Predicate) → predicate_named p class name ≡ Some q
      → PredicateFits (in_class p class) q
  pub methods : (class name : Name) (m : Method) → method_named p class name ≡ Some m → MethodSays (in_class p class) m
      × (m.name ≡ Some name)
  pub runs : (class : Name) (m : Method) → run_of p class ≡ Some m → MethodSays (in_class p class) m × (m.name ≡ None)
  pub invariants : (class : Name) (f : Formula) → invariant_of p class ≡ Some f → FormulaFits (in_class p class) silent [] f
