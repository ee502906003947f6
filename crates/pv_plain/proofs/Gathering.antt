-- Items and formulas one behind the other.
use Rattle.std.proofs.Common.{◌≡◌, ℕ, ◌+◌, ◌<◌, ◌≤◌, Bool, true, false, List, [], ◌∷◌, ◌++◌, length, drop, get_or, refl, sym, ◌∙◌, ap, map, filter, cond, if◌then◌else◌, Result, Ok, Err}
use Rattle.std.specs.Result.{OnOk}
use Rattle.std.proofs.lemmas.List.{at_drop_more, at_drop_all}
use Rattle.pv_base.specs.declared.Name.{Name}
use Rattle.pv_ast.specs.declared.Clause.{Clause}
use Rattle.pv_ast.specs.declared.ClauseKind.{ClauseKind}
use Rattle.pv_ast.specs.Rules.Scoping.{Visible}
use Rattle.pv_ast.specs.Rules.Expressions.{Environment}
use Rattle.pv_picks.specs.Plain.Core.{Items}
use Rattle.pv_picks.specs.Elaborating.Expressions.{core_of_items}
use Rattle.pv_picks.specs.Elaborating.Statements.{formulas_at, joined_items, core_of_all_items}
use Rattle.pv_plain.specs.Clauses.{items_where}
use Rattle.pv_picks.specs.declared.plain.Item.{Item}
use Rattle.pv_picks.specs.Plain.Core as core
use Rattle.pv_picks.specs.Plain.Trees.{item_of, items_of}
use Rattle.pv_picks.specs.Elaborating.Expressions.{together}

pub items_together : (is js : List Item) → items_of (is ++ js) ≡ together (items_of is) (items_of js)
items_together [] js = refl
items_together (i ∷ is) js = ap (core.Join (item_of i)) (items_together is js)

pub together_none : (is : Items) → together is core.NoItems ≡ is
together_none core.NoItems = refl
together_none (core.Join i is) = ap (core.Join i) (together_none is)

pub together_three : (is js ks : Items) → together (together is js) ks ≡ together is (together js ks)
together_three core.NoItems js ks = refl
together_three (core.Join i is) js ks = ap (core.Join i) (together_three is js ks)

-- the items of the clauses that stand there
abbrev pub all_items : Name → Environment → Visible → (ClauseKind → Bool) → List Clause → Items
all_items name a v stands clauses = core_of_all_items name a v (formulas_at stands clauses)

first_items : (name : Name) (a : Environment) (v : Visible) (stands : ClauseKind
    → Bool) (x : Clause) (rest : List Clause) (b : Bool)
    → stands x.kind ≡ b
    → together (items_where b name a v x.formula) (all_items name a v stands rest) ≡ all_items name a v stands (x ∷ rest)
first_items name a v stands x rest true h = rw h refl
first_items name a v stands x rest false h = rw h refl

-- one more clause
pub items_next : (name : Name) (a : Environment) (v : Visible) (stands : ClauseKind → Bool) (clauses : List Clause) (at : ℕ)
    (x : Clause) (all more new : List Item)
    → at < length clauses → x ≡ get_or clauses at x → items_of more ≡ items_where (stands x.kind) name a v x.formula
    → new ≡ all ++ more
    → together (items_of new) (all_items name a v stands (drop (at + 1) clauses))
    ≡ together (items_of all) (all_items name a v stands (drop at clauses))
items_next name a v stands clauses at x all more new lt is m n =
    let rest = drop (at + 1) clauses in
    ap (λ l. together (items_of l) (all_items name a v stands rest)) n
    ∙ ap (λ l. together l (all_items name a v stands rest)) (items_together all more)
    ∙ together_three (items_of all) (items_of more) (all_items name a v stands rest)
    ∙ ap (λ l. together (items_of all) (together l (all_items name a v stands rest))) m
    ∙ ap (together (items_of all)) (first_items name a v stands x rest (stands x.kind) refl)
    ∙ ap (λ y. together (items_of all) (all_items name a v stands (y ∷ rest))) is
    ∙ sym (at_drop_more (λ l. together (items_of all) (all_items name a v stands l)) clauses at x lt)

-- and no more
pub items_end : (name : Name) (a : Environment) (v : Visible) (stands : ClauseKind → Bool) (clauses : List Clause) (at : ℕ)
    (all : List Item)
    → length clauses ≤ at → together (items_of all) (all_items name a v stands (drop at clauses)) ≡ items_of all
items_end name a v stands clauses at all le =
    at_drop_all (λ l. together (items_of all) (all_items name a v stands l)) clauses at le ∙ together_none (items_of all)

-- what holds behind an `Ok` gives what follows from it
pub on_ok : {A E : Type 0} (r : Result A E) {P Q : Type 0} → (P → Q) → OnOk r P → OnOk r Q
on_ok (Ok a) f h = f h
on_ok (Err e) f h = h
