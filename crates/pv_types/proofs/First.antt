-- The first of faults is among them, and none of them is named before it.
use Rattle.std.proofs.Common.{◌≡◌, ◌⊎◌, inl, inr, ℕ, Bool, true, false, ◌&&◌, ◌||◌, nat_eq, nat_lt, Option, Some, None, refl, sym, ◌∙◌, ap, subst, arith, if◌then◌else◌}
use Rattle.pv_ast.specs.declared.fault.Fault.{Fault}
use Rattle.pv_ast.specs.Rules.Faults.{Faults, none, broken, both, Among, is_before, rule_number, earlier, least, first_of, IsFirst}

never_before_itself : (a p : ℕ) → (nat_lt a a || (nat_eq a a && nat_lt p p)) ≡ false
never_before_itself a p = grind arith

not_both_before : (a p b q : ℕ) → (nat_lt a b || (nat_eq a b && nat_lt p q)) ≡ true
    → (nat_lt b a || (nat_eq b a && nat_lt q p)) ≡ false
not_both_before a p b q h = grind arith

not_before_then : (a p b q c r : ℕ) → (nat_lt a b || (nat_eq a b && nat_lt p q)) ≡ false
    → (nat_lt b c || (nat_eq b c && nat_lt q r)) ≡ false → (nat_lt a c || (nat_eq a c && nat_lt p r)) ≡ false
not_before_then a p b q c r h k = grind arith

never_itself : (f : Fault) → is_before f f ≡ false
never_itself f = never_before_itself f.span.from (rule_number f.rule)

never_both : (f g : Fault) → is_before f g ≡ true → is_before g f ≡ false
never_both f g h = not_both_before f.span.from (rule_number f.rule) g.span.from (rule_number g.rule) h

before_then : (f g h : Fault) → is_before f g ≡ false → is_before g h ≡ false → is_before f h ≡ false
before_then f g h p q =
    not_before_then f.span.from (rule_number f.rule) g.span.from (rule_number g.rule) h.span.from (rule_number h.rule) p q

-- a result is the first of what was found and of more faults
record Best (found : Option Fault) (faults : Faults) (f : Fault) : Type 0 where
  source : (found ≡ Some f) ⊎ Among f faults
  least : (g : Fault) → Among g faults → is_before g f ≡ false
  kept : (g : Fault) → found ≡ Some g → is_before g f ≡ false

record Bare (found : Option Fault) (faults : Faults) : Type 0 where
  unfound : found ≡ None
  nothing : (g : Fault) → Among g faults → ⊥

abbrev IsBest : Option Fault → Faults → Option Fault → Type 0
IsBest found faults None = Bare found faults
IsBest found faults (Some f) = Best found faults f

abbrev some_or : Fault → Option Fault → Fault
some_or f None = f
some_or f (Some g) = g

same_some : (f g : Fault) → Some f ≡ Some g → f ≡ g
same_some f g h = ap (λ o. some_or f o) h

best_none : (found : Option Fault) → IsBest found none found
best_none None = record { unfound = refl; nothing = λ g a. a }
best_none (Some f) =
    record {
      source = inl refl;
      least = λ g a. absurd a;
      kept = λ g e. subst (λ x. is_before x f ≡ false) (same_some f g e) (never_itself f);
    }

best_new : (f : Fault) → IsBest None (broken f.rule f.span) (Some f)
best_new f =
    record { source = inr refl; least = λ g a. subst (λ x. is_before x f ≡ false) (sym a) (never_itself f); kept = λ g e. cc }

best_of_two : (g f : Fault) (b : Bool) → is_before f g ≡ b → IsBest (Some g) (broken f.rule f.span) (Some (if b then f else g))
best_of_two g f true h =
    record {
      source = inr refl;
      least = λ x a. subst (λ y. is_before y f ≡ false) (sym a) (never_itself f);
      kept = λ x e. subst (λ y. is_before y f ≡ false) (same_some g x e) (never_both f g h);
    }
best_of_two g f false h =
    record {
      source = inl refl;
      least = λ x a. subst (λ y. is_before y g ≡ false) (sym a) h;
      kept = λ x e. subst (λ y. is_before y g ≡ false) (same_some g x e) (never_itself g);
    }

best_broken : (found : Option Fault) (f : Fault) → IsBest found (broken f.rule f.span) (earlier found f)
best_broken None f = best_new f
best_broken (Some g) f = best_of_two g f (is_before f g) refl

source_of_both : (found : Option Fault) (a b : Faults) (m f : Fault) → (found ≡ Some m) ⊎ Among m a
    → (Some m ≡ Some f) ⊎ Among f b → (found ≡ Some f) ⊎ Among f (both a b)
source_of_both found a b m f p (inr q) = inr (inr q)
source_of_both found a b m f (inl p) (inl q) = inl (p ∙ q)
source_of_both found a b m f (inr p) (inl q) = inr (inl (subst (λ x. Among x a) (same_some m f q) p))

source_behind : (found : Option Fault) (a b : Faults) (f : Fault) → (None ≡ Some f) ⊎ Among f b
    → (found ≡ Some f) ⊎ Among f (both a b)
source_behind found a b f (inl p) = cc
source_behind found a b f (inr p) = inr (inr p)

least_of_both : (a b : Faults) (f g : Fault) → (Among g a → is_before g f ≡ false) → (Among g b → is_before g f ≡ false)
    → Among g (both a b) → is_before g f ≡ false
least_of_both a b f g p q (inl x) = p x
least_of_both a b f g p q (inr x) = q x

nothing_of_both : (a b : Faults) (g : Fault) → (Among g a → ⊥) → (Among g b → ⊥) → Among g (both a b) → ⊥
nothing_of_both a b g p q (inl x) = p x
nothing_of_both a b g p q (inr x) = q x

best_both : (found m r : Option Fault) (a b : Faults) → IsBest found a m → IsBest m b r → IsBest found (both a b) r
best_both found None None a b p q =
    record { unfound = p.unfound; nothing = λ g. nothing_of_both a b g (p.nothing g) (q.nothing g) }
best_both found (Some m) None a b p q = let h = q.unfound in cc
best_both found None (Some f) a b p q = record {
  source = source_behind found a b f q.source;
  least = λ g. least_of_both a b f g (λ x. absurd (p.nothing g x)) (q.least g);
  kept = λ g e. let h = p.unfound in cc;
}
best_both found (Some m) (Some f) a b p q = record {
  source = source_of_both found a b m f p.source q.source;
  least = λ g. least_of_both a b f g (λ x. before_then g m f (p.least g x) (q.kept m refl)) (q.least g);
  kept = λ g e. before_then g m f (p.kept g e) (q.kept m refl);
}

best_least : (found : Option Fault) (faults : Faults) → IsBest found faults (least found faults)
best_least found none = best_none found
best_least found (broken r s) = best_broken found (record { rule = r; span = s })
best_least found (both a b) =
    best_both found (least found a) (least (least found a) b) a b (best_least found a) (best_least (least found a) b)

best_first : (faults : Faults) (o : Option Fault) → o ≡ first_of faults → IsBest None faults o
best_first faults o e = subst (IsBest None faults) (sym e) (best_least None faults)

pub no_fault : (faults : Faults) (o : Option Fault) → o ≡ first_of faults → o ≡ None → (g : Fault) → Among g faults → ⊥
no_fault faults o e h = (best_first faults None (sym h ∙ e)).nothing

found_among : (faults : Faults) (f : Fault) → (None ≡ Some f) ⊎ Among f faults → Among f faults
found_among faults f (inl p) = cc
found_among faults f (inr p) = p

pub first_fault : (faults : Faults) (o : Option Fault) (f : Fault) → o ≡ first_of faults → o ≡ Some f → IsFirst f faults
first_fault faults o f e h =
    let best : Best None faults f = best_first faults (Some f) (sym h ∙ e) in
    record { among = found_among faults f best.source; least = best.least }
