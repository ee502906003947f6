use Rattle.std.proofs.Common.{◌≡◌, ◌+◌, List, sym, ap, subst, arith, sum, map, take, length, get_or, ◌<◌, ℕ}
use Rattle.std.specs.List.{flat_map}
use Rattle.pv_ast.specs.declared.Class.{Class}
use Rattle.pv_ast.specs.declared.Member.{Member}
use Rattle.pv_ast.specs.Measures.{literals_of_class, literals_of_member}
use Rattle.small_verdicts.specs.declared.judging.Judged.{Judged}
use Rattle.small_verdicts.specs.Units.{units_of_member, units_of_class, AreJudged}
use Rattle.small_verdicts.proofs.JudgedLemmas.{AreJudged_more, sum-ge}
use Rattle.small_verdicts.proofs.judging.judge.Goals as goal

pub judge_members-requires-clause-few : goal.judge_members-requires-clause-few
judge_members-requires-clause-few c =
    let all : List Class → ℕ = λ cs. sum (map literals_of_class cs) in
    omega (
      arith,
      sum-ge literals_of_class c.as_slice-class-items.result.now c.loop-class.class-index c.class-item.result
          c.loop-class-test.true c.class-item.is,
      ap all c.as_slice-class-items.ensures,
      ap (λ ms. sum (map literals_of_member ms)) c.as_slice.ensures,
      c.requires.few,
    )

pub loop-class-preserved : goal.loop-class-preserved
loop-class-preserved c =
    let classes : List Class = c.args.program.now.classes in
    let Within : List Class → Type 0 = λ cs. c.loop-class.class-index < length cs in
    let Stands : List Class → Type 0 = λ cs. c.class-item.result ≡ get_or cs c.loop-class.class-index c.class-item.result in
    let Judged_so : List Judged → Type 0 =
    λ js. AreJudged (flat_map units_of_class (take (c.loop-class.class-index + 1) classes)) js in
    let Here : List Member → Type 0 =
    λ ms. AreJudged (flat_map (units_of_member c.class-item.result.name.name) ms) c.in_ok-judge_members.field-0 in
    subst Judged_so (sym c.in_ok-append.ensures)
    (AreJudged_more units_of_class classes c.loop-class.class-index c.class-item.result c.loop-class.judged
    c.in_ok-judge_members.field-0
    (subst Within c.as_slice-class-items.ensures c.loop-class-test.true)
    (subst Stands c.as_slice-class-items.ensures c.class-item.is) c.loop-class.invariant
    (subst Here c.as_slice.ensures c.in_ok-judge_members.ensures))
