use Rattle.std.proofs.Common.{◌≡◌, ◌∙◌, ℕ, Option, Some, None, sym, ap, nat_eq}
use Rattle.std.specs.Global.{Vec}
use Rattle.std.specs.Cmp.Lexicographic.{pointwise}
use Rattle.pv_names.specs.Numbering.{place_of}
use Rattle.pv_names.proofs.Places.{position-map, slice_get-place, no_place}
use Rattle.pv_names.proofs.Names.find.Goals as goal

place_in_Some : (c : goal.In-Some) → Some c.in-Some.at ≡ place_of c.args.self.now c.args.text.now
place_in_Some c =
    c.in-Some.ensures.index ∙ sym (position-map (pointwise nat_eq c.args.text.now)
    (λ (t : Vec ℕ). t.items) c.self.inside.texts.keys)
    ∙ ap (λ names. place_of names c.args.text.now) c.self.view_is

abbrev nothing : Option ℕ
nothing = None

place_in_None : (c : goal.In-None) → nothing ≡ place_of c.args.self.now c.args.text.now
place_in_None c =
    c.in-None.ensures.index ∙ sym (position-map (pointwise nat_eq c.args.text.now)
    (λ (t : Vec ℕ). t.items) c.self.inside.texts.keys)
    ∙ ap (λ names. place_of names c.args.text.now) c.self.view_is

pub returns-in-Some-clause-place : goal.returns-in-Some-clause-place
returns-in-Some-clause-place c = place_in_Some c

pub returns-in-Some-clause-found : goal.returns-in-Some-clause-found
returns-in-Some-clause-found c = slice_get-place c.args.self.now c.args.text.now c.in-Some.at (sym (place_in_Some c))

pub returns-in-None-clause-place : goal.returns-in-None-clause-place
returns-in-None-clause-place c = place_in_None c

pub returns-in-None-clause-absent : goal.returns-in-None-clause-absent
returns-in-None-clause-absent c = no_place c.args.self.now c.args.text.now (sym (place_in_None c))
