-- Words one behind the other, and the set of their names.
use Rattle.std.proofs.Common.{◌≡◌, ℕ, ◌+◌, ◌<◌, Bool, true, false, not, ◌||◌, List, ◌∷◌, drop, length, get_or, Option, refl, sym, ◌∙◌, ap}
use Rattle.std.proofs.lemmas.List.{at_drop_more}
use Rattle.pv_base.specs.declared.Name.{Name}
use Rattle.pv_base.specs.declared.Span.{Span}
use Rattle.pv_ast.specs.declared.Word.{Word}
use Rattle.pv_ast.specs.declared.fault.Fault.{Fault}
use Rattle.pv_ast.specs.declared.fault.Rule.{Rule}
use Rattle.pv_ast.specs.Rules.Faults.{least, broken_if, broken_unless}
use Rattle.pv_base.specs.Names.{same_name}
use Rattle.pv_ast.specs.Rules.Statements.{has_label, repeated_behind}
use Rattle.pv_types.specs.declared.sets.NameSet.{NameSet}
use Rattle.pv_types.specs.Sets.{has_name, HasLabels, Repeats}

pub labels_with : (old new : NameSet) (words : List Word) (w : Word) → HasLabels old words
    → ((n : Name) → has_name new n ≡ (same_name n w.name || has_name old n)) → HasLabels new (w ∷ words)
labels_with old new words w h put = record { has = λ n. put n ∙ ap (λ b. same_name n w.name || b) (h.has n) }

unless_new : (b : Bool) (r : Rule) (s : Span) → broken_unless (not b) r s ≡ broken_if b r s
unless_new true r s = refl
unless_new false r s = refl

-- a pass over words goes one word on
pub repeats_next : (r : Rule) (words : List Word) (start first first' : Option Fault) (old new : NameSet) (i : ℕ) (d : Word)
    (fresh : Bool) → i < length words → fresh ≡ not (has_name old (get_or words i d).name)
    → ((n : Name) → has_name new n ≡ (same_name n (get_or words i d).name || has_name old n))
    → first' ≡ least first (broken_unless fresh r (get_or words i d).span) → Repeats r words start old first (drop i words)
    → Repeats r words start new first' (drop (i + 1) words)
repeats_next r words start first first' old new i d fresh l is put noted so =
    let w : Word = get_or words i d in
    let told : broken_unless fresh r w.span ≡ broken_if (has_label so.before w.name) r w.span =
    ap (λ b. broken_unless b r w.span) is ∙ (unless_new (has_name old w.name) r w.span
    ∙ ap (λ b. broken_if b r w.span) (so.labels.has w.name)) in
    let next : least first (repeated_behind r so.before (drop i words))
    ≡ least first (repeated_behind r so.before (w ∷ drop (i + 1) words)) =
    at_drop_more (λ ws. least first (repeated_behind r so.before ws)) words i d l in
    record {
      before = w ∷ so.before;
      labels = labels_with old new so.before w so.labels put;
      found =
          ap (λ f. least f (repeated_behind r (w ∷ so.before) (drop (i + 1) words))) (noted ∙ ap (least first) told)
          ∙ (sym next ∙ so.found);
    }
