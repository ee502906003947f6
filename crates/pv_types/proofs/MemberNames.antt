-- The names of the members of a class.
use Rattle.std.proofs.Common.{◌≡◌, ℕ, ◌+◌, ◌<◌, Option, List, ◌∷◌, ◌++◌, length, drop, get_or, refl, sym, ◌∙◌, ap, append_assoc}
use Rattle.std.specs.List.{filter_map}
use Rattle.std.specs.Option.{option_to_list}
use Rattle.std.proofs.lemmas.List.{at_drop_more}
use Rattle.pv_ast.specs.declared.Word.{Word}
use Rattle.pv_ast.specs.declared.Member.{Member}
use Rattle.pv_ast.specs.declared.Member.TheVariants as member
use Rattle.pv_ast.specs.Rules.Programs.{name_of_member}

listed_first : (m : Member) (ms : List Member)
    → filter_map name_of_member (m ∷ ms) ≡ option_to_list (name_of_member m) ++ filter_map name_of_member ms
listed_first (member.Field f) ms = refl
listed_first (member.Predicate p) ms = refl
listed_first (member.Method m) ms = refl
listed_first (member.Run r) ms = refl

pub names_next : (members : List Member) (at : ℕ) (m : Member) (words : List Word) (name : Option Word) → at < length members
    → m ≡ get_or members at m → name ≡ name_of_member m
    → words ++ filter_map name_of_member (drop at members) ≡ (words ++ option_to_list name)
    ++ filter_map name_of_member (drop (at + 1) members)
names_next members at m words name l h is =
    at_drop_more (λ ms. words ++ filter_map name_of_member ms) members at m l
    ∙ (ap (λ x. words ++ filter_map name_of_member (x ∷ drop (at + 1) members)) (sym h)
    ∙ (ap (λ ws. words ++ ws) (listed_first m (drop (at + 1) members))
    ∙ (sym (append_assoc words (option_to_list (name_of_member m)) (filter_map name_of_member (drop (at + 1) members)))
    ∙ ap (λ o. (words ++ option_to_list o) ++ filter_map name_of_member (drop (at + 1) members)) (sym is))))
