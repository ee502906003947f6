use Rattle.std.proofs.Common.{◌∙◌, arith, ap, sym, inl, inr}
use Rattle.std.proofs.lemmas.Option.{slice_get_within}
use Rattle.pv_linear.specs.declared.Literal.TheVariants.{AtMost, Same, Differ}
use Rattle.pv_diff.specs.Classes.{class_at}
use Rattle.pv_diff.proofs.References.{literal_at, first_in_pair, second_in_pair}
use Rattle.pv_diff.proofs.Splits.{split_left, split_right, not_split}
use Rattle.pv_diff.proofs.classes.split_at.Goals as goal

pub slot_of-left-requires-clause-named : goal.slot_of-left-requires-clause-named
slot_of-left-requires-clause-named c = c.requires.named c.args.place c.in-Differ.x.0 (Differ c.in-Differ.x c.in-Differ.y)
    (literal_at c.args.literals.now c.args.place _ _ c.requires.place c.in-Differ.is)
    (first_in_pair c.in-Differ.x.0 c.in-Differ.y.0)

pub slot_of-right-requires-clause-named : goal.slot_of-right-requires-clause-named
slot_of-right-requires-clause-named c = c.requires.named c.args.place c.in-Differ.y.0 (Differ c.in-Differ.x c.in-Differ.y)
    (literal_at c.args.literals.now c.args.place _ _ c.requires.place c.in-Differ.is)
    (second_in_pair c.in-Differ.x.0 c.in-Differ.y.0)

pub bounds-classes-left : goal.bounds-classes-left
bounds-classes-left c = let a = slice_get_within c.args.symbols.now c.slot_of-left.result c.in-Differ.x.0 c.slot_of-left.ensures
    in let b = c.requires.size in omega (arith, a, b)

pub bounds-classes-right : goal.bounds-classes-right
bounds-classes-right c = let a = slice_get_within c.args.symbols.now c.slot_of-right.result c.in-Differ.y.0
    c.slot_of-right.ensures in let b = c.requires.size in omega (arith, a, b)

pub returns-then-classes-left-clause-none : goal.returns-then-classes-left-clause-none
returns-then-classes-left-clause-none c = λ k z s e.
    let at = literal_at c.args.literals.now c.args.place _ (Differ c.in-Differ.x c.in-Differ.y) c.requires.place c.in-Differ.is in
    let left = split_left c.args.symbols.now c.args.literals.now c.args.place k z c.slot_of-left.result c.in-Differ.x
    c.in-Differ.y c.requires.rises at c.slot_of-left.ensures s in
    let right = split_right c.args.symbols.now c.args.literals.now c.args.place k z c.slot_of-right.result c.in-Differ.x
    c.in-Differ.y c.requires.rises at c.slot_of-right.ensures s in
    c.if-classes-left.true (sym (ap (class_at c.args.classes.now) left) ∙ e ∙ ap (class_at c.args.classes.now) right)

pub returns-else-classes-left-clause-split : goal.returns-else-classes-left-clause-split
returns-else-classes-left-clause-split c = record {
  left = c.in-Differ.x;
  right = c.in-Differ.y;
  first = c.slot_of-left.ensures;
  second = c.slot_of-right.ensures;
  found = literal_at c.args.literals.now c.args.place _ (Differ c.in-Differ.x c.in-Differ.y) c.requires.place c.in-Differ.is;
}

pub returns-in-AtMost-clause-none : goal.returns-in-AtMost-clause-none
returns-in-AtMost-clause-none c = λ k z s. absurd (elim c.in-AtMost.is [
  | inl a ↦ not_split c.args.symbols.now c.args.literals.now c.args.place k z (AtMost a.0 a.1 a.2) s
      (literal_at c.args.literals.now c.args.place _ (AtMost a.0 a.1 a.2) c.requires.place a.3) (λ x y h. cc)
  | inr a ↦ not_split c.args.symbols.now c.args.literals.now c.args.place k z (Same a.0 a.1) s
      (literal_at c.args.literals.now c.args.place _ (Same a.0 a.1) c.requires.place a.2) (λ x y h. cc)
])
