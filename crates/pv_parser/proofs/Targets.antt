-- Targets: a chain up to its last name, read step by step. A chain that ends in an element has to go on.
use Rattle.std.proofs.Common.{ℕ, zero, suc, ◌≡◌, ◌+◌, ◌≤◌, inl, inr, [], ◌∷◌, Option, Some, None, refl, ◌∙◌, arith}
use Rattle.pv_base.specs.declared.Span.{Span}
use Rattle.pv_tokens.specs.declared.Lexeme.{Lexeme}
use Rattle.pv_tokens.specs.declared.LexemeKind.{LexemeKind}
use Rattle.pv_tokens.specs.declared.fixed.TheConstants.{DOT, OPEN_BRACKET, CLOSE_BRACKET}
use Rattle.pv_ast.specs.declared.Word.{Word}
use Rattle.pv_reading.specs.Marks.{Tokens, Marked, fixed_at, word_at}
use Rattle.pv_reading.specs.Spelled.{Rule}
use Rattle.pv_reading.specs.Reading.{Reading as Read, Good, Bad, Deep, onward, Parser, ◌>>=◌, give, refuse, chosen, pick, opened, fixed, expect, expect_name, is_fixed, name_of}
use Rattle.pv_reading.proofs.Nexts.{anything, sub_refl, sub_anything, sub_fixed}
use Rattle.pv_reading.proofs.Exact.{Begins, Exact, Is, is, Then, seq, Or, AtFixed, at_fixed, AtName, at_name, exact_as, exact_wider, exact_give, exact_bind}
use Rattle.pv_reading.proofs.Sights.{exact_fixed, exact_expect, exact_expect_name, Opening, too_deep, deep_enough, Deeper, none_deeper, one_deeper, opening_opened, makes_then, makes_fixed, makes_name}
use Rattle.pv_exprs.specs.declared.level.Mode.TheVariants.{Program as in_program}
use Rattle.pv_exprs.specs.declared.part.Part.{Part}
use Rattle.pv_exprs.specs.declared.part.Chain.{Chain}
use Rattle.pv_exprs.specs.declared.part.Chain.TheVariants.{Named, Other}
use Rattle.pv_exprs.specs.Trees.{element_of, part_of}
use Rattle.pv_exprs.specs.Grammar as g
use Rattle.pv_exprs.specs.Reading
use Rattle.pv_exprs.specs.Reading.{Readers, steps, steps_or, deeper, readers}
use Rattle.pv_exprs.proofs.Ranks.{above, starts}
use Rattle.pv_exprs.proofs.Makes.{expr_makes}
use Rattle.pv_exprs.proofs.Exactness.{readers_known}
use Rattle.pv_exprs.proofs.Rules.{Knows}

abbrev pub Target : Type 0
Target = Option Part × Word

-- how readers go on behind one token of sight

module _ {A B C : Type 0} (F : A → Parser C) where
  bind_chosen : (q : B → Span → Parser A) (r : Parser A) (x : Lexeme) (us : Tokens) (o : Option B)
      → onward F (chosen o q r x us) ≡ chosen o (λ b s. q b s >>= F) (r >>= F) x us
  bind_chosen q r x us None = refl
  bind_chosen q r x us (Some b) = refl

  bind_pick : (f : LexemeKind → Option B) (q : B → Span → Parser A) (r : Parser A) (ts : Tokens)
      → onward F (pick f q r ts) ≡ pick f (λ b s. q b s >>= F) (r >>= F) ts
  bind_pick f q r [] = refl
  bind_pick f q r (x ∷ us) = bind_chosen q r x us (f x.kind)

  bind_opened : (o : Option B) (g : B → Parser A) (us : Tokens) → onward F (opened o g us) ≡ opened o (λ p. g p >>= F) us
  bind_opened None g us = refl
  bind_opened (Some p) g us = refl

pub bind_bind : {A B C : Type 0} (f : A → Parser B) (F : B → Parser C) (x : Read A)
    → onward F (onward f x) ≡ onward (λ a. f a >>= F) x
bind_bind f F (Good a us) = refl
bind_bind f F (Bad j) = refl
bind_bind f F (Deep j) = refl

pub onward_all : {A B : Type 0} (f g : A → Parser B) → ((a : A) (us : Tokens) → f a us ≡ g a us) → (x : Read A)
    → onward f x ≡ onward g x
onward_all f g h (Good a us) = h a us
onward_all f g h (Bad j) = refl
onward_all f g h (Deep j) = refl

module _ {A B : Type 0} (q t : B → Span → Parser A) (r s : Parser A) (Q : (b : B) (l : Span) (us : Tokens)
    → q b l us ≡ t b l us) (R : (us : Tokens) → r us ≡ s us) where
  chosen_all : (x : Lexeme) (us : Tokens) (o : Option B) → chosen o q r x us ≡ chosen o t s x us
  chosen_all x us None = R (x ∷ us)
  chosen_all x us (Some b) = Q b x.span us

  pub pick_all : (f : LexemeKind → Option B) (ts : Tokens) → pick f q r ts ≡ pick f t s ts
  pick_all f [] = R []
  pick_all f (x ∷ us) = chosen_all x us (f x.kind)

-- a target is a chain that ends in a name
abbrev pub named_end : Chain → Parser Target
named_end (Named a w) = give (a, w)
named_end (Other a) = refuse

abbrev target_field : Chain → (Chain → Parser Target) → Parser Target
target_field c t = expect_name (λ w. t (Named (Some (part_of c)) w))

abbrev target_element : Chain → Option (Parser Part) → (Chain → Parser Target) → Parser Target
target_element c i t = opened i (λ q. q >>= λ j. expect CLOSE_BRACKET (λ r. t (Other (element_of (part_of c) j r))))

abbrev target_by : Option (Chain → Parser Target) → Option (Parser Part) → Chain → Parser Target
target_by o i c =
    fixed DOT (λ s. opened o (target_field c)) (fixed OPEN_BRACKET (λ s. opened o (target_element c i)) (named_end c))

-- where so many constructs may still be opened
abbrev pub target : ℕ → Chain → Parser Target
target zero c = target_by None None c
target (suc n) c = target_by (Some (target n)) (Reading.inside_of in_program (deeper n)) c

-- The same, as steps whose last has to be a name.

module _ (n : ℕ) (T : (c : Chain) (ts : Tokens) → onward named_end (steps in_program (deeper n) c ts) ≡ target n c ts) where
  field_is : (c : Chain) (ts : Tokens)
      → onward named_end (Reading.field_step in_program c (readers (deeper n)) ts) ≡ target_field c (target n) ts
  field_is c ts =
      bind_pick named_end name_of (λ m s. steps in_program (deeper n) (Named (Some (part_of c)) (record { name = m; span = s })))
      refuse ts
      ∙ pick_all (λ m s. steps in_program (deeper n) (Named (Some (part_of c)) (record { name = m; span = s })) >>= named_end)
      (λ m s. target n (Named (Some (part_of c)) (record { name = m; span = s }))) (refuse >>= named_end) refuse
      (λ m s us. T (Named (Some (part_of c)) (record { name = m; span = s })) us) (λ us. refl) name_of ts

  closed_is : (c : Chain) (j : Part) (ts : Tokens)
      → onward named_end (expect CLOSE_BRACKET (λ r. steps in_program (deeper n) (Other (element_of (part_of c) j r))) ts)
      ≡ expect CLOSE_BRACKET (λ r. target n (Other (element_of (part_of c) j r))) ts
  closed_is c j ts =
      bind_pick named_end (is_fixed CLOSE_BRACKET)
      (λ t r. steps in_program (deeper n) (Other (element_of (part_of c) j r))) refuse ts
      ∙ pick_all (λ t r. steps in_program (deeper n) (Other (element_of (part_of c) j r)) >>= named_end)
      (λ t r. target n (Other (element_of (part_of c) j r))) (refuse >>= named_end) refuse
      (λ t r us. T (Other (element_of (part_of c) j r)) us) (λ us. refl) (is_fixed CLOSE_BRACKET) ts

  inner_is : (c : Chain) (i : Option (Parser Part)) (ts : Tokens)
      → onward named_end (opened i (λ q. q >>= λ j.
      expect CLOSE_BRACKET (λ r. steps in_program (deeper n) (Other (element_of (part_of c) j r)))) ts)
      ≡ target_element c i (target n) ts
  inner_is c None ts = refl
  inner_is c (Some q) ts =
      bind_bind (λ j. expect CLOSE_BRACKET (λ r. steps in_program (deeper n) (Other (element_of (part_of c) j r)))) named_end
      (q ts)
      ∙ onward_all (λ j. expect CLOSE_BRACKET (λ r. steps in_program (deeper n) (Other (element_of (part_of c) j r)))
      >>= named_end) (λ j. expect CLOSE_BRACKET (λ r. target n (Other (element_of (part_of c) j r)))) (λ j us. closed_is c j us)
      (q ts)

-- for any reader of what follows no step
module _ (o : Option Readers) (t : Option (Chain → Parser Target)) (i : Option (Parser Part)) (c : Chain)
    (F : (ts : Tokens) → onward named_end (opened o (Reading.field_step in_program c) ts) ≡ opened t (target_field c) ts)
    (E : (ts : Tokens)
    → onward named_end (opened o (Reading.element_step in_program c) ts) ≡ opened t (target_element c i) ts) where
  steps_or_is : (r : Parser Chain) (s : Parser Target) → ((ts : Tokens) → onward named_end (r ts) ≡ s ts) → (ts : Tokens)
      → onward named_end (steps_or in_program o c r ts)
      ≡ fixed DOT (λ s. opened t (target_field c)) (fixed OPEN_BRACKET (λ s. opened t (target_element c i)) s) ts
  unfolding steps_or
  steps_or_is r s R ts =
      let bracket = fixed OPEN_BRACKET (λ s. opened o (Reading.element_step in_program c)) r in
      let bracket' = fixed OPEN_BRACKET (λ s. opened t (target_element c i)) s in
      bind_pick named_end (is_fixed DOT) (λ u s. opened o (Reading.field_step in_program c)) bracket ts
      ∙ pick_all (λ u s. opened o (Reading.field_step in_program c) >>= named_end) (λ u s. opened t (target_field c)) (bracket
      >>= named_end) bracket' (λ u s us. F us)
      (λ us. bind_pick named_end (is_fixed OPEN_BRACKET) (λ u s. opened o (Reading.element_step in_program c)) r us
      ∙ pick_all (λ u s. opened o (Reading.element_step in_program c) >>= named_end) (λ u s. opened t (target_element c i)) (r
      >>= named_end) s (λ u s us. E us) R (is_fixed OPEN_BRACKET) us)
      (is_fixed DOT) ts

give_is : (c : Chain) (ts : Tokens) → onward named_end (give c ts) ≡ named_end c ts
give_is c ts = refl

refuse_is : (a : Part) (ts : Tokens) → onward named_end (refuse ts) ≡ named_end (Other a) ts
refuse_is a ts = refl

-- whatever reads where no step stands
pub target_end : (n : ℕ) (c : Chain) (r : Parser Chain) → ((ts : Tokens) → onward named_end (r ts) ≡ named_end c ts)
    → (ts : Tokens) → onward named_end (steps_or in_program (deeper n) c r ts) ≡ target n c ts
unfolding deeper steps
target_end zero c r R ts = steps_or_is None None None c (λ us. refl) (λ us. refl) r (named_end c) R ts
target_end (suc n) c r R ts =
    steps_or_is (Some (readers (deeper n))) (Some (target n)) (Reading.inside_of in_program (deeper n)) c
    (λ us. field_is n (λ c ts. target_end n c (give c) (give_is c) ts) c us)
    (λ us. inner_is n (λ c ts. target_end n c (give c) (give_is c) ts) c (Reading.inside_of in_program (deeper n)) us) r
    (named_end c) R ts

pub target_steps : (n : ℕ) (c : Chain) (ts : Tokens) → onward named_end (steps in_program (deeper n) c ts) ≡ target n c ts
unfolding steps
target_steps n c ts = target_end n c (give c) (give_is c) ts

pub target_some : (n : ℕ) (a : Part) (ts : Tokens)
    → onward named_end (steps_or in_program (deeper n) (Other a) refuse ts) ≡ target n (Other a) ts
target_some n a ts = target_end n (Other a) refuse (refuse_is a) ts

-- Targets are read exactly.

abbrev pub TargetRule : ℕ → Chain → Rule Target
TargetRule d c us t vs = g.StepsFrom in_program d c us (Named t.0 t.1) vs

abbrev FieldTarget : ℕ → Chain → Rule Target
FieldTarget d c = AtName (suc d) (λ w. TargetRule (suc d) (Named (Some (part_of c)) w))

abbrev ElementTarget : ℕ → Chain → Rule Target
ElementTarget d c =
    Then (g.IsExpr in_program (suc (suc d))) (λ j.
    AtFixed CLOSE_BRACKET (suc (suc d)) (λ r. TargetRule (suc d) (Other (element_of (part_of c) j r))))

pub target_makes : (d : ℕ) (c : Chain) → Begins (TargetRule d c) []
target_makes d (Named a w) = ([], (a, w), λ rest. g.no_steps)
target_makes d (Other a) =
    let s : Span = record { from = 0; to = 0 } in
    let w : Word = record { name = record { 0 = 0 }; span = s } in
    ((fixed_at DOT s, suc d) ∷ (word_at w, suc d) ∷ [], (Some a, w), λ rest. g.some_steps (g.field g.no_steps))

module _ (d : ℕ) where
  to_named : (a : Option Part) (w : Word) (us : Marked) (t : Target) (vs : Marked)
      → Or (AtFixed DOT (suc d) (λ s. FieldTarget d (Named a w)))
      (Or (AtFixed OPEN_BRACKET (suc (suc d)) (λ s. ElementTarget d (Named a w))) (Is {A = Target} (a, w))) us t vs
      → TargetRule d (Named a w) us t vs
  to_named a w us t vs (inl (at_fixed (at_name p))) = g.some_steps (g.field p)
  to_named a w us t vs (inr (inl (at_fixed (seq p (at_fixed q))))) = g.some_steps (g.element p q)
  to_named a w us t vs (inr (inr is)) = g.no_steps

  from_named : (a : Option Part) (w : Word) (us : Marked) (a' : Option Part) (w' : Word) (vs : Marked)
      → g.StepsFrom in_program d (Named a w) us (Named a' w') vs
      → Or (AtFixed DOT (suc d) (λ s. FieldTarget d (Named a w)))
      (Or (AtFixed OPEN_BRACKET (suc (suc d)) (λ s. ElementTarget d (Named a w))) (Is {A = Target} (a, w))) us (a', w') vs
  from_named a w us a' w' vs g.no_steps = inr (inr is)
  from_named a w us a' w' vs (g.some_steps (g.field p)) = inl (at_fixed (at_name p))
  from_named a w us a' w' vs (g.some_steps (g.element p q)) = inr (inl (at_fixed (seq p (at_fixed q))))

  to_other : (a : Part) (us : Marked) (t : Target) (vs : Marked)
      → Or (AtFixed DOT (suc d) (λ s. FieldTarget d (Other a)))
      (AtFixed OPEN_BRACKET (suc (suc d)) (λ s. ElementTarget d (Other a))) us t vs → TargetRule d (Other a) us t vs
  to_other a us t vs (inl (at_fixed (at_name p))) = g.some_steps (g.field p)
  to_other a us t vs (inr (at_fixed (seq p (at_fixed q)))) = g.some_steps (g.element p q)

  from_other : (a : Part) (us : Marked) (a' : Option Part) (w' : Word) (vs : Marked)
      → g.StepsFrom in_program d (Other a) us (Named a' w') vs
      → Or (AtFixed DOT (suc d) (λ s. FieldTarget d (Other a)))
      (AtFixed OPEN_BRACKET (suc (suc d)) (λ s. ElementTarget d (Other a))) us (a', w') vs
  from_other a us a' w' vs (g.some_steps (g.field p)) = inl (at_fixed (at_name p))
  from_other a us a' w' vs (g.some_steps (g.element p q)) = inr (at_fixed (seq p (at_fixed q)))

inside_of_known : (L d : ℕ) (o : Option Readers) → Knows L d o
    → Deeper L (suc d) (λ (q : Parser Part). Exact L starts (above 8) (g.IsExpr in_program (suc d)) q)
    (Reading.inside_of in_program o)
inside_of_known L d o (none_deeper lt) = none_deeper lt
inside_of_known L d o (one_deeper lt K) = one_deeper lt (K.expr in_program)

-- what is known of the reader of targets at depth d
abbrev KnownTarget : ℕ → ℕ → (Chain → Parser Target) → Type 0
KnownTarget L d t = (c : Chain) → Exact L anything (above 1) (TargetRule d c) (t c)

module _ (L d : ℕ) (t : Option (Chain → Parser Target)) (D : Deeper L (suc d) (KnownTarget L (suc d)) t)
    (i : Option (Parser Part))
    (I : suc d ≤ L
    → Deeper L (suc (suc d)) (λ (q : Parser Part). Exact L starts (above 8) (g.IsExpr in_program (suc (suc d))) q) i) where
  field_opening : (c : Chain) → Opening L (suc d) (above 1) (FieldTarget d c) (opened t (target_field c))
  field_opening c =
      opening_opened D (makes_name (suc d) (λ w. target_makes (suc d) (Named (Some (part_of c)) w)))
      (λ p le K. exact_expect_name (λ w. deep_enough le (K (Named (Some (part_of c)) w))))

  element_makes : (c : Chain) → Begins (ElementTarget d c) []
  element_makes c =
      makes_then (expr_makes (suc (suc d)) in_program)
      (λ j. makes_fixed CLOSE_BRACKET (suc (suc d)) (λ r. target_makes (suc d) (Other (element_of (part_of c) j r))))

  element_opening : (c : Chain) (t : Option (Chain → Parser Target)) → Deeper L (suc d) (KnownTarget L (suc d)) t
      → Opening L (suc (suc d)) (above 1) (ElementTarget d c) (opened t (target_element c i))
  element_opening c t (none_deeper lt) = too_deep (omega (arith, lt)) (λ vs. refl) (element_makes c)
  element_opening c t (one_deeper lt K) = opening_opened (I lt) (element_makes c)
      (λ q le E. exact_bind (sub_fixed CLOSE_BRACKET refl) E
      (λ j. exact_expect CLOSE_BRACKET (λ r. deep_enough le (K (Other (element_of (part_of c) j r))))))

  target_by_exact : (c : Chain) → Exact L anything (above 1) (TargetRule d c) (target_by t i c)
  target_by_exact (Named a w) =
      exact_wider (sub_anything _) (sub_refl (above 1)) (exact_as (to_named d a w) (λ us t vs p. from_named d a w us t.0 t.1 vs p)
      (exact_fixed DOT (λ s. field_opening (Named a w)) refl
      (exact_fixed OPEN_BRACKET (λ s. element_opening (Named a w) t D) refl (exact_give {A = Target} (a, w)))))
  target_by_exact (Other a) =
      exact_wider (sub_anything _) (sub_refl (above 1)) (exact_as (to_other d a) (λ us t vs p. from_other d a us t.0 t.1 vs p)
      (exact_fixed DOT (λ s. field_opening (Other a)) refl (exact_expect OPEN_BRACKET (λ s. element_opening (Other a) t D))))

pub target_exact : (n L d : ℕ) → L ≡ d + n → (c : Chain) → Exact L anything (above 1) (TargetRule d c) (target n c)
target_exact zero L d e c = target_by_exact L d None (none_deeper (omega arith)) None (λ le. absurd (omega arith)) c
target_exact (suc n) L d e c =
    target_by_exact L d (Some (target n)) (one_deeper (omega arith) (target_exact n L (suc d) (omega arith)))
    (Reading.inside_of in_program (deeper n)) (λ le.
    inside_of_known L (suc d) (deeper n) (readers_known n L (suc d) (omega arith))) c
