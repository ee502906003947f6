use Rattle.std.proofs.Common.{sym, subst, ap, refl, ◌∙◌, List, length}
use Rattle.std.proofs.lemmas.List.{length-replicate}
use Rattle.pv_diff.specs.declared.table.Entry.{Entry}
use Rattle.pv_diff.specs.Table.{IsSound, AreAbove, IsAbove, AreMet, unlowered}
use Rattle.pv_diff.proofs.Lowered.{number_in-down}
use Rattle.pv_diff.proofs.Rounds.{written_back, IsSound-start, AreAbove-start, AreAbove-each, Lowers-above}
use Rattle.pv_diff.proofs.table.settle.Goals as goal

pub loop-last-init : goal.loop-last-init
loop-last-init c = record {
  size = ap length c.in_ok-table.ensures ∙ length-replicate c.args.count unlowered;
  sound = subst (IsSound c.args.edges.now) (sym c.in_ok-table.ensures) (IsSound-start c.args.edges.now c.args.count);
  above = subst (AreAbove c.args.edges.now) (sym c.in_ok-table.ensures) (AreAbove-start c.args.edges.now c.args.count);
}

pub loop-last-preserved : goal.loop-last-preserved
loop-last-preserved c =
    let l = c.in-Some.ensures.lowered in
    let same = ap length c.deref_mut.ensures.value in
    let w = written_back c.lower_all.new.table c.loop-last.table.items c.loop-last.table.len (c.lower_all.auto.table ∙ same)
    c.loop-last.table.ok.0 in
    let ends = subst (λ (ns : List Entry). IsAbove c.args.edges.now ns c.in-Some.last) (c.deref.ensures.value ∙ w)
    (c.in_default-follow.ensures.ends refl) in
    record {
      size = ap length w ∙ c.lower_all.auto.table ∙ same ∙ c.loop-last.invariant.size;
      sound = subst (IsSound c.args.edges.now) (sym w) l.sound;
      above = subst (AreAbove c.args.edges.now) (sym w)
          (Lowers-above c.args.edges.now c.deref_mut.result.now c.lower_all.new.table c.in-Some.last l ends);
    }

pub returns : goal.returns
returns c =
    let value = c.deref_mut.ensures.value in
    let same = ap length value in
    let w = written_back c.lower_all.new.table c.loop-last.table.items c.loop-last.table.len (c.lower_all.auto.table ∙ same)
    c.loop-last.table.ok.0 in
    let kept = w ∙ c.in_default.ensures.kept refl ∙ value in
    let met = subst (λ (ns : List Entry). AreMet ns c.args.edges.now) (value ∙ sym kept) (c.in_default.ensures.met refl) in
    let sound = subst (IsSound c.args.edges.now) (sym kept) c.loop-last.invariant.sound in
    let above = subst (AreAbove c.args.edges.now) (sym kept) c.loop-last.invariant.above in (
      ap length kept ∙ c.loop-last.invariant.size,
      met,
      (λ k. AreAbove-each c.args.edges.now _ k above),
      (λ k. number_in-down c.args.edges.now _ k sound),
    )
