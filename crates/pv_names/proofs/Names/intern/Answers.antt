use Rattle.std.proofs.Common.{◌∙◌, ℕ, map, sym, ap}
use Rattle.std.specs.Global.{Vec}
use Rattle.pv_names.specs.Numbering.{place_of, with_text}
use Rattle.pv_names.proofs.Places.{map-insert_key}
use Rattle.pv_names.proofs.Names.intern.Goals as goal

pub returns-clause-list : goal.returns-clause-list
returns-clause-list c =
    let text = c.args.text.now in
    ap (map (λ (t : Vec ℕ). t.items)) c.in_ok-insert.ensures.keys
    ∙ map-insert_key (λ (t : Vec ℕ). t.items) c.self.inside.texts.keys c.in_ok-copy.copy text
    (c.in_default.ensures.place ∙ ap (λ names. place_of names text) (sym c.self.view_is)) c.in_ok-copy.ensures.items
    ∙ ap (λ names. with_text names text) c.self.view_is
