-- What the calls that read tokens answer, by an exact reader.
use Rattle.std.proofs.Common.{ℕ, suc, ◌≡◌, ◌≢◌, ◌+◌, ◌-◌, ◌≤◌, [], ◌∷◌, length, drop, None, Ok, Err, Bool, true, false, refl, sym, ap, ◌∙◌, subst, length-append, arith}
use Rattle.std.proofs.lemmas.List.{length-drop}
use Rattle.std.proofs.lemmas.Bool.{eqb-true}
use Rattle.std.proofs.Math.Dec.{eqb}
use Rattle.pv_base.specs.declared.Span.{Span}
use Rattle.pv_reading.specs.Marks.{Tokens, plain, place_of}
use Rattle.pv_reading.specs.Spelled.{Rule, SpellsWithin, IsLongest}
use Rattle.pv_reading.specs.Reading.{Reading, Good, Bad, Deep, Parser}
use Rattle.pv_reading.specs.Answers.{ReadsAll, ReadsFront, Answers}
use Rattle.pv_reading.specs.Given.{Fails, fault_at}
use Rattle.pv_reading.specs.declared.fault.ParseFault.{ParseFault}
use Rattle.pv_reading.specs.declared.fault.ParseFault.TheVariants as parse
use Rattle.pv_reading.specs.declared.fault.ReadFault.{ReadFault}
use Rattle.pv_reading.specs.declared.fault.ReadFault.TheVariants as fault
use Rattle.pv_reading.proofs.Nexts.{Nexts}
use Rattle.pv_reading.proofs.Exact.{Exact}
use Rattle.pv_reading.proofs.Loops.{exact_keeps}
use Rattle.pv_reading.proofs.Whole
use Rattle.pv_reading.proofs.Whole.{plain_length}

module _ {A : Type 0} {limit : ℕ} {first stop : Nexts} {R : Rule A} {p : Parser A} (P : Exact limit first stop R p)
    (ends : stop None ≡ true) (end : ℕ) where
  -- all tokens

  pub fails_all : (ts : Tokens) (f : ReadFault) → Fails f (p ts) → ReadsAll R limit end ts (Err (fault_at end ts f))
  fails_all ts (fault.Unexpected left) h = Whole.bad_unexpected P ends end ts left h
  fails_all ts (fault.TooDeep left) h = Whole.deep_is P ends end ts left h
  fails_all ts fault.NoMemory h = tt

  pub fails_none : (ts : Tokens) (f : ReadFault) → Fails f (p ts) → (a : A) → SpellsWithin R limit ts a
      → Answers (Err (fault_at end ts f)) a
  fails_none ts (fault.Unexpected left) h a s = let e : Bad left ≡ Good a [] = sym h ∙ Whole.within_reads P ends ts a s in cc
  fails_none ts (fault.TooDeep left) h a s = let e : Deep left ≡ Good a [] = sym h ∙ Whole.within_reads P ends ts a s in cc
  fails_none ts fault.NoMemory h a s = tt

  pub rest_all : (ts us : Tokens) (a : A) → p ts ≡ Good a us → us ≢ []
      → ReadsAll R limit end ts (Err (parse.Unexpected (place_of end (drop (length ts - length us) ts))))
  rest_all ts us a h n = Whole.rest_unexpected P ends end ts a us h n

  pub rest_none : (ts us : Tokens) (a b : A) → p ts ≡ Good a us → us ≢ [] → SpellsWithin R limit ts b → ⊥
  rest_none ts us a b h n s =
      let e : Good a us ≡ Good b [] = sym h ∙ Whole.within_reads P ends ts b s in let f : us ≡ [] = cc in n f

  pub end_all : (ts us : Tokens) (a : A) → p ts ≡ Good a us → us ≡ [] → ReadsAll R limit end ts (Ok a)
  end_all ts us a h n = Whole.good_spells P ends ts a (h ∙ ap (Good a) n)

  pub end_only : (ts us : Tokens) (a b : A) → p ts ≡ Good a us → SpellsWithin R limit ts b → a ≡ b
  end_only ts us a b h s = let e : Good a us ≡ Good b [] = sym h ∙ Whole.within_reads P ends ts b s in cc

  pub one_within : (ts : Tokens) (a b : A) → SpellsWithin R limit ts a → SpellsWithin R limit ts b → a ≡ b
  one_within ts a b s t = end_only ts [] a b (Whole.within_reads P ends ts a s) t

  -- tokens from one of them on

  pub fails_front : (ts : Tokens) (from : ℕ) (f : ReadFault) → Fails f (p (drop from ts))
      → ReadsFront R limit end ts from (Err (fault_at end (drop from ts) f))
  fails_front ts from (fault.Unexpected left) h = Whole.bad_unfinished P ends end (drop from ts) left h
  fails_front ts from (fault.TooDeep left) h = Whole.deep_is P ends end (drop from ts) left h
  fails_front ts from fault.NoMemory h = tt

  pub fails_nothing : (ts : Tokens) (from : ℕ) (f : ReadFault) → Fails f (p (drop from ts)) → (a : A) (taken : ℕ)
      → IsLongest R limit (drop from ts) a taken → Answers {A = A × ℕ} (Err (fault_at end (drop from ts) f)) (a, from + taken)
  fails_nothing ts from (fault.Unexpected left) h a taken l = absurd (Whole.longest_bad P ends (drop from ts) a taken l left h)
  fails_nothing ts from (fault.TooDeep left) h a taken l = absurd (Whole.longest_deep P ends (drop from ts) a taken l left h)
  fails_nothing ts from fault.NoMemory h a taken l = tt

  pub good_front : (ts us : Tokens) (from : ℕ) (a : A) → from ≤ length ts → p (drop from ts) ≡ Good a us
      → ReadsFront R limit end ts from (Ok (a, length ts - length us))
  good_front ts us from a le h =
      let l = Whole.good_longest P ends (drop from ts) a us h in
      let x = (P.at (drop from ts)).good a us h in
      let e = length-drop from ts in
      let f = ap length x.split in
      let g = length-append (plain x.u) us in
      let n : length (drop from ts) - length us ≡ length ts - length us - from = omega (arith, e, f, g) in
      (omega (arith, e, f, g), subst (IsLongest R limit (drop from ts) a) n l)

  pub good_only : (ts us : Tokens) (from : ℕ) (a b : A) (taken : ℕ) → from ≤ length ts → p (drop from ts) ≡ Good a us
      → IsLongest R limit (drop from ts) b taken → ◌≡◌ {A = A × ℕ} (a, length ts - length us) (b, from + taken)
  good_only ts us from a b taken le h l =
      let x = Whole.longest_good P ends (drop from ts) b taken l a us h in
      let e = length-drop from ts in
      let f = ap length l.split in
      let g = length-append (plain l.front) l.rest in
      let i = plain_length l.front in
      let n : length ts - length us ≡ from + taken = omega (arith, e, f, g, i, l.count, ap length x.1) in
      ap (λ (z : A). let y : A × ℕ = (z, length ts - length us) in y) x.0 ∙ ap (λ (z : ℕ). let y : A × ℕ = (b, z) in y) n

  -- The same, as the code has it: it reads the tokens from that one on, of so many.

  module _ (ts front : Tokens) (from : ℕ) (e : front ≡ drop from ts) where
    front_at : (x : Reading A) → p front ≡ x → p (drop from ts) ≡ x
    front_at x h = ap p (sym e) ∙ h

    pub from_left : (n : ℕ) (us : Tokens) (a : A) → n ≡ length ts → p front ≡ Good a us → length us ≤ n
    from_left n us a h i =
        let x = exact_keeps P (drop from ts) a us (front_at (Good a us) i) in
        omega (arith, x, h, length-drop from ts)

    pub from_good : (n : ℕ) (us : Tokens) (a : A) → from ≤ length ts → n ≡ length ts → p front ≡ Good a us
        → ReadsFront R limit end ts from (Ok (a, n - length us))
    from_good n us a le h i =
        subst (λ m. ReadsFront R limit end ts from (Ok (a, m - length us))) (sym h)
        (good_front ts us from a le (front_at (Good a us) i))

    pub from_only : (n : ℕ) (us : Tokens) (a b : A) (taken : ℕ) → from ≤ length ts → n ≡ length ts → p front ≡ Good a us
        → IsLongest R limit (drop from ts) b taken → ◌≡◌ {A = A × ℕ} (a, n - length us) (b, from + taken)
    from_only n us a b taken le h i l =
        ap (λ m. let y : A × ℕ = (a, m - length us) in y) h ∙ good_only ts us from a b taken le (front_at (Good a us) i) l

    pub from_fails : (f : ReadFault) (g : ParseFault) → g ≡ fault_at end front f → Fails f (p front)
        → ReadsFront R limit end ts from (Err g)
    from_fails f g h i =
        subst (λ z. ReadsFront R limit end ts from (Err z)) (sym (h ∙ ap (λ z. fault_at end z f) e))
        (fails_front ts from f (subst (λ z. Fails f (p z)) e i))

    pub from_nothing : (f : ReadFault) (g : ParseFault) → g ≡ fault_at end front f → Fails f (p front) → (a : A) (taken : ℕ)
        → IsLongest R limit (drop from ts) a taken → Answers {A = A × ℕ} (Err g) (a, from + taken)
    from_nothing f g h i a taken l =
        subst (λ z. Answers {A = A × ℕ} (Err z) (a, from + taken)) (sym (h ∙ ap (λ z. fault_at end z f) e))
        (fails_nothing ts from f (subst (λ z. Fails f (p z)) e i) a taken l)

  -- The same of all tokens.

  module _ (ts items : Tokens) (e : items ≡ ts) where
    whole_at : (x : Reading A) → p items ≡ x → p ts ≡ x
    whole_at x h = ap p (sym e) ∙ h

    pub whole_end : (us : Tokens) (a : A) → p items ≡ Good a us → us ≡ [] → ReadsAll R limit end ts (Ok a)
    whole_end us a h n = end_all ts us a (whole_at (Good a us) h) n

    pub whole_only : (us : Tokens) (a b : A) → p items ≡ Good a us → SpellsWithin R limit ts b → a ≡ b
    whole_only us a b h s = end_only ts us a b (whole_at (Good a us) h) s

    pub whole_rest : (us : Tokens) (a : A) (place : Span) → place ≡ place_of end (drop (length items - length us) items)
        → p items ≡ Good a us → us ≢ [] → ReadsAll R limit end ts (Err (parse.Unexpected place))
    whole_rest us a place h i n =
        subst (λ z. ReadsAll R limit end ts (Err (parse.Unexpected z)))
        (sym (h ∙ ap (λ z. place_of end (drop (length z - length us) z)) e)) (rest_all ts us a (whole_at (Good a us) i) n)

    pub whole_none : (us : Tokens) (a b : A) → p items ≡ Good a us → us ≢ [] → SpellsWithin R limit ts b → ⊥
    whole_none us a b h n s = rest_none ts us a b (whole_at (Good a us) h) n s

    pub whole_fails : (f : ReadFault) (g : ParseFault) → g ≡ fault_at end items f → Fails f (p items)
        → ReadsAll R limit end ts (Err g)
    whole_fails f g h i =
        subst (λ z. ReadsAll R limit end ts (Err z)) (sym (h ∙ ap (λ z. fault_at end z f) e))
        (fails_all ts f (subst (λ z. Fails f (p z)) e i))

    pub whole_refuses : (f : ReadFault) (g : ParseFault) → g ≡ fault_at end items f → Fails f (p items) → (a : A)
        → SpellsWithin R limit ts a → Answers (Err g) a
    whole_refuses f g h i a s =
        subst (λ z. Answers (Err z) a) (sym (h ∙ ap (λ z. fault_at end z f) e))
        (fails_none ts f (subst (λ z. Fails f (p z)) e i) a s)

-- whether tokens are left
pub none_left : (us : Tokens) (b : Bool) → b ≡ eqb (length us) 0 → b ≡ true → us ≡ []
none_left [] b h t = refl
none_left (y ∷ us) b h t = let e : suc (length us) ≡ 0 = eqb-true (suc (length us)) 0 (sym h ∙ t) in absurd (omega arith)

pub some_left : (us : Tokens) (b : Bool) → b ≡ eqb (length us) 0 → b ≡ false → us ≢ []
some_left us b h f n = let e : true ≡ false = sym (h ∙ ap (λ z. eqb (length z) 0) n) ∙ f in cc
