use Rattle.std.proofs.Common.{◌+◌, List, [], ◌∷◌, ◌++◌, refl, sym, ap, subst, ◌∙◌, arith, take, append-nil}
use Rattle.std.specs.List.{flat_map}
use Rattle.pv_ast.specs.declared.Member.{Member}
use Rattle.pv_ast.specs.Measures.{literals_of_member}
use Rattle.small_verdicts.specs.declared.judging.Judged.{Judged}
use Rattle.small_verdicts.specs.Units.{MethodUnit, units_of_member, AreJudged}
use Rattle.small_verdicts.proofs.JudgedLemmas.{AreJudged_more, no_units, sum-ge}
use Rattle.small_verdicts.proofs.judging.judge_members.Goals as goal
use Rattle.small_verdicts.proofs.judging.judge_members.Goals.{in-Method+in_ok-verdict_of+in_ok-push, in_default}

pub verdict_of-requires-clause-literals : goal.verdict_of-requires-clause-literals
verdict_of-requires-clause-literals c =
    omega (
      arith,
      sum-ge literals_of_member c.args.members.now c.loop-member.member-index c.member-item.result
          c.loop-member-test.true c.member-item.is,
      ap literals_of_member c.in-Method.is,
      c.requires.few,
    )

pub loop-member-preserved : goal.loop-member-preserved
loop-member-preserved c =
    let units : List MethodUnit = units_of_member c.args.class c.member-item.result in
    let members : List Member = c.args.members.now in
    let so_far : (js : List Judged) → Type 0 = λ js.
    AreJudged (flat_map (units_of_member c.args.class) (take (c.loop-member.member-index + 1) members)) js in
    let more : (ks : List Judged) → AreJudged units ks → so_far (c.loop-member.judged ++ ks) =
    λ ks here. AreJudged_more (units_of_member c.args.class) members c.loop-member.member-index c.member-item.result
    c.loop-member.judged ks c.loop-member-test.true c.member-item.is c.loop-member.invariant here in
    elim c.match-member.branch [
      | in-Method+in_ok-verdict_of+in_ok-push w ↦
          (let j : Judged = record {
            class = c.args.class;
            method = w.in-Method.method.name.name;
            verdict =
                w.in_ok-verdict_of.field-0;
          } in
          let judged_here : Member → Type 0 = λ x. AreJudged (units_of_member c.args.class x) (j ∷ []) in
          let here : AreJudged units (j ∷ []) =
          subst judged_here (sym w.in-Method.is)
          (record { class = refl; method = refl; ground = w.in_ok-verdict_of.ensures.ground }, tt) in
          subst so_far (sym w.in_ok-push.ensures.ok ∙ sym w.judged-is) (more (j ∷ []) here))
      | in_default w ↦
          (let none_here : List MethodUnit → Type 0 = λ us. AreJudged us [] in
          let here : AreJudged units [] = subst none_here
          (sym (no_units c.args.class c.member-item.result w.in_default.not-Method)) tt in
          subst so_far (append-nil c.loop-member.judged ∙ sym w.judged-is) (more [] here))
    ]
