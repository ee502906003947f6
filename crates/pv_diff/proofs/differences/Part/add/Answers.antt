use Rattle.std.proofs.Common.{◌≡◌, sym, subst, ap, ◌∙◌, List, inl, inr, ◌++◌, ◌∷◌, [], take, ◌+◌}
use Rattle.pv_linear.specs.declared.Literal.{Literal}
use Rattle.pv_diff.specs.Parts.{IsPart, differences_in}
use Rattle.pv_diff.proofs.Parts.{IsPart-more, IsPart-other}
use Rattle.pv_diff.proofs.References.{literal_at_index, no_literal}
use Rattle.pv_diff.proofs.differences.Part.add.Goals as goal

pub returns-in_ok-push-in-AtMost-2 : goal.returns-in_ok-push-in-AtMost-2
returns-in_ok-push-in-AtMost-2 c =
    let ls = c.args.literals.now in
    let l = c.in-AtMost in
    let one : differences_in (literal_at_index ls c.args.place ∷ []) ≡ literal_at_index ls c.args.place ∷ [] =
    ap (λ (m : Literal). differences_in (m ∷ [])) l.is ∙ ap (λ (m : Literal). m ∷ []) (sym l.is) in
    let more = IsPart-more ls c.args.self.now.differences.items c.args.self.now.places.items c.args.place no_literal
    c.requires.place one c.requires.part in
    record {
      part = subst (λ (q : List Literal). IsPart ls (take (c.args.place + 1) ls) q c.push-in-AtMost.new.self.items)
          (sym c.in_ok-push-in-AtMost.ensures.items)
          (subst (IsPart ls (take (c.args.place + 1) ls)
          (c.args.self.now.differences.items ++ literal_at_index ls c.args.place ∷ []))
          (sym c.in_ok-push-in-AtMost-2.ensures.items) more);
    }

pub returns-in-Same : goal.returns-in-Same
returns-in-Same c =
    let ls = c.args.literals.now in
    let none : differences_in (literal_at_index ls c.args.place ∷ []) ≡ [] = elim c.in-Same.is [
      | inl a ↦ ap (λ (l : Literal). differences_in (l ∷ [])) a.2
      | inr a ↦ ap (λ (l : Literal). differences_in (l ∷ [])) a.2
    ] in
    record {
      part = IsPart-other ls c.args.self.now.differences.items c.args.self.now.places.items c.args.place no_literal
          c.requires.place none c.requires.part;
    }
