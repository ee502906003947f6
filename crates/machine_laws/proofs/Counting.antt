-- The small program is well typed.
use Rattle.std.proofs.Common.{◌≡◌, Bool, true, false, cond, Some, None, [], refl, subst, ap}
use Rattle.std.proofs.lemmas.Option.{none-some, same_Some}
use Rattle.std.proofs.lemmas.Bool.{eqb-true}
use Rattle.std.specs.List.{filter_map}
use Rattle.pv_base.specs.declared.Name.{Name}
use Rattle.pv_ast.specs.declared.PvType.TheVariants.{Int}
use Rattle.pv_base.specs.Names.{same_name}
use Rattle.pv_picks.specs.Plain.Core.{Method}
use Rattle.pv_picks.specs.Plain.Members.{first_that, has_name, is_run, members_of, method_of}
use Rattle.pv_picks.specs.Typing.Blocks.{ends, goes_first, declares, assigns, answers, MethodFits, ProgramFits}
use Rattle.machine_laws.specs.Counting.{counter, counter_class, named, next_method, program}

method_fits : MethodFits program counter next_method
method_fits = record {
  body = declares Int refl (refl, refl, refl)
      (goes_first (assigns Int (refl, refl) refl)
      (goes_first (assigns Int refl (refl, (next_method, refl, (refl, tt), refl)))
      (goes_first (answers Int refl tt refl) ends)));
  result = λ type e. refl;
}

same_class : (class : Name) → same_name counter class ≡ true → counter ≡ class
same_class class h = let e : counter.0 ≡ class.0 = eqb-true counter.0 class.0 h in ap (λ n. record { 0 = n }) e

pub program-fits : ProgramFits program
program-fits = record {
  methods = λ class name m e. found class name m (same_name counter class) refl e;
  runs = λ class m e. none class m (same_name counter class) e;
}
  where
    chosen : (class : Name) (m : Method) (b : Bool) → counter ≡ class → cond b (Some next_method) None ≡ Some m
        → MethodFits program class m
    chosen class m true s e =
        subst (λ n. MethodFits program class n) (same_Some next_method m e)
        (subst (λ c. MethodFits program c next_method) s method_fits)
    chosen class m false s e = absurd (none-some m e)

    found : (class name : Name) (m : Method) (b : Bool) → same_name counter class ≡ b
        → first_that (λ n. has_name n.name name) (filter_map method_of (members_of (cond b (Some counter_class) None))) ≡ Some m
        → MethodFits program class m
    found class name m true s e = chosen class m (same_name (named 2) name) (same_class class s) e
    found class name m false s e = absurd (none-some m e)

    none : (class : Name) (m : Method) (b : Bool)
        → first_that is_run (filter_map method_of (members_of (cond b (Some counter_class) None))) ≡ Some m
        → MethodFits program class m × (m.parameters ≡ [])
    none class m true e = absurd (none-some m e)
    none class m false e = absurd (none-some m e)
