-- What the readers of brackets, bounds, quantifiers and permissions compute, as the code goes on.
use Rattle.std.proofs.Common.{ℕ, ◌≡◌, length, Option, Some, None, Bool, refl, sym, ap, ◌∙◌}
use Rattle.pv_base.specs.declared.Span.{Span}
use Rattle.pv_tokens.specs.declared.fixed.TheConstants.{INT, DOTS, OPEN_PAREN, CLOSE_PAREN, CLOSE_BRACKET, SEMICOLON, COMMA, LESS, AT_MOST, AND_AND}
use Rattle.pv_ast.specs.declared.Word.{Word}
use Rattle.pv_reading.specs.Marks.{Tokens}
use Rattle.pv_reading.specs.Given.{ahead}
use Rattle.pv_reading.specs.Reading.{Good, Bad, Parser, onward, ◌>>=◌, give, opened, is_fixed, name_of, expect, expect_name}
use Rattle.pv_exprs.specs.declared.level.Mode.{Mode}
use Rattle.pv_exprs.specs.declared.level.Mode.TheVariants.{Program, Logic}
use Rattle.pv_exprs.specs.declared.level.Level.TheVariants as level
use Rattle.pv_exprs.specs.declared.part.Part.{Part}
use Rattle.pv_exprs.specs.declared.part.Chain.{Chain}
use Rattle.pv_exprs.specs.declared.part.Chain.TheVariants.{Other}
use Rattle.pv_exprs.specs.declared.part.Amount.{Amount}
use Rattle.pv_exprs.specs.declared.part.Bounds.{Bounds}
use Rattle.pv_ast.specs.declared.Token.{Token}
use Rattle.pv_exprs.specs.Trees.{part_of, element_of, widened, old_of, token_part, perm_of, each_of}
use Rattle.pv_exprs.specs.Reading as r
use Rattle.pv_exprs.specs.Reading.{Readers, readers}
use Rattle.pv_reading.proofs.Steps.{expect_some, expect_none, name_some, expect_onward, name_onward, closed_then}

-- What is read one deeper, up to the token j.

abbrev pub closed : Option Readers → Mode → ℕ → Parser (Part × Span)
closed o m j = opened o (λ p us. onward (λ a. expect j (λ t. give (a, t))) (p.expr m us))

abbrev pub closed_formula : Option Readers → Parser (Part × Span)
closed_formula o us = onward (λ a. expect CLOSE_PAREN (λ t. give (a, t))) (r.formula o us)

closed_onward : {B : Type 0} (o : Option Readers) (m : Mode) (j : ℕ) (k : Part → Span
    → Parser B) (ts us : Tokens) (a : Part) (t : Span) → closed o m j ts ≡ Good (a, t) us
    → opened o (λ p. p.expr m >>= λ a. expect j (k a)) ts ≡ k a t us
closed_onward None m j k ts us a t h = cc
closed_onward (Some p) m j k ts us a t h = closed_then j k (p.expr m ts) ∙ ap (onward (λ z. k z.0 z.1)) h

-- a step to an element, of which the bracket opens one construct more
pub element_upto : (o p : Option Readers) (m : Mode) (a : Chain) (x i y : Part) (t : Span) (ts us : Tokens) → o ≡ Some (readers p)
    → closed p m CLOSE_BRACKET ts ≡ Good (i, t) us
    → x ≡ part_of a → y ≡ element_of x i t → opened o (r.element_step m a) ts ≡ r.steps m p (Other y) us
element_upto o p m a x i y t ts us h g e f =
    let k = λ (i : Part) (t : Span). r.steps m p (Other (element_of (part_of a) i t)) in
    let inner : (p : Option Readers) (k : Part → Span → Parser Chain) → closed p m CLOSE_BRACKET ts ≡ Good (i, t) us
    → opened (r.inside_of m p) (λ q. q >>= λ i. expect CLOSE_BRACKET (k i)) ts ≡ k i t us = elim [
      | None ↦ λ k h. cc
      | Some p ↦ λ k h. closed_onward (Some p) m CLOSE_BRACKET k ts us i t h
    ] in
    ap (λ o. opened o (r.element_step m a) ts) h ∙ inner p k g ∙ ap (λ z. r.steps m p (Other (element_of z i t)) us) (sym e)
    ∙ ap (λ z. r.steps m p (Other z) us) (sym f)

module _ (o : Option Readers) (ts us vs : Tokens) (q t : Span) (a : Part)
    (h : ahead (is_fixed OPEN_PAREN) ts ≡ Some (tt, q, us)) where
  bracketed : (m : Mode) (k : Span → Part → Span → Chain) → closed o m CLOSE_PAREN us ≡ Good (a, t) vs
      → expect OPEN_PAREN (λ q. opened o (λ p. p.expr m >>= λ a. expect CLOSE_PAREN (λ t. give (k q a t)))) ts ≡ Good (k q a t) vs
  bracketed m k g =
      expect_some OPEN_PAREN (λ q. opened o (λ p. p.expr m >>= λ a. expect CLOSE_PAREN (λ t. give (k q a t)))) ts us q h
      ∙ closed_onward o m CLOSE_PAREN (λ a t. give (k q a t)) us vs a t g

  pub group_given : (x : Part) → closed o Program CLOSE_PAREN us ≡ Good (a, t) vs → x ≡ widened q t a
      → r.group o ts ≡ Good (Other x) vs
  unfolding r.group
  group_given x g e = bracketed Program (λ q a t. Other (widened q t a)) g ∙ ap (λ z. Good (Other z) vs) (sym e)

  pub old_given : (s : Span) (x : Part) → closed o Logic CLOSE_PAREN us ≡ Good (a, t) vs → x ≡ old_of s a t
      → expect OPEN_PAREN (λ q. opened o (r.oldened s)) ts ≡ Good (Other x) vs
  old_given s x g e = bracketed Logic (λ q a t. Other (old_of s a t)) g ∙ ap (λ z. Good (Other z) vs) (sym e)

  pub token_given : (k : Token) (s : Span) (x : Part) → closed o Logic CLOSE_PAREN us ≡ Good (a, t) vs → x ≡ token_part k s a t
      → expect OPEN_PAREN (λ q. opened o (r.tokened k s)) ts ≡ Good (Other x) vs
  token_given k s x g e = bracketed Logic (λ q a t. Other (token_part k s a t)) g ∙ ap (λ z. Good (Other z) vs) (sym e)

-- the two names between bounds

abbrev names_last : Word → Word → Parser (Word × Word)
names_last v w = expect LESS (λ t. give (v, w))

abbrev names_second : Word → Parser (Word × Word)
names_second v = expect AND_AND (λ q. expect_name (names_last v))

abbrev pub names : Parser (Word × Word)
names = expect AT_MOST (λ q. expect_name names_second)

pub names_given : (ts us vs ws xs ys : Tokens) (v w : Word) (a b c : Span) → ahead (is_fixed AT_MOST) ts ≡ Some (tt, a, us)
    → ahead name_of us ≡ Some (v.name, v.span, vs)
    → ahead (is_fixed AND_AND) vs ≡ Some (tt, b, ws) → ahead name_of ws ≡ Some (w.name, w.span, xs)
    → ahead (is_fixed LESS) xs ≡ Some (tt, c, ys) → names ts ≡ Good (v, w) ys
names_given ts us vs ws xs ys v w a b c h1 h2 h3 h4 h5 =
    expect_some AT_MOST (λ q. expect_name names_second) ts us a h1 ∙ name_some names_second us vs v h2
    ∙ expect_some AND_AND (λ q. expect_name (names_last v)) vs ws b h3 ∙ name_some (names_last v) ws xs w h4
    ∙ expect_some LESS (λ t. give (v, w)) xs ys c h5

-- what is read behind the names
names_then : {A : Type 0} (f : Word → Word → Parser A) (ts : Tokens)
    → expect AT_MOST (λ q. expect_name (λ v. expect AND_AND (λ r. expect_name (λ w. expect LESS (λ t. f v w))))) ts
    ≡ onward (λ z. f z.0 z.1) (names ts)
names_then f ts =
    let g = λ (z : Word × Word). f z.0 z.1 in
    let f3 = λ (v w : Word). expect LESS (λ t. f v w) in
    let f2 = λ (v : Word). expect AND_AND (λ q. expect_name (f3 v)) in
    expect_onward AT_MOST (λ q. expect_name names_second) (λ q. expect_name f2) g
    (λ s us. name_onward names_second f2 g
    (λ v us. expect_onward AND_AND (λ q. expect_name (names_last v)) (λ q. expect_name (f3 v)) g
    (λ s us. name_onward (names_last v) (f3 v) g
    (λ w us. expect_onward LESS (λ t. give (v, w)) (λ t. f v w) g (λ s us. refl) us)
    us) us) us) ts

module _ (o : Option Readers) where
  pub written_upto : (ts us vs : Tokens) (a : Part) (z : Word × Word) → r.operand Logic level.Comparison o ts ≡ Good a us
      → names us ≡ Good z vs
      → r.written_bounds (readers o) ts ≡ onward (λ b. give (record { low = a; high = b; written = Some z }))
      (r.operand Logic level.Comparison o vs)
  written_upto ts us vs a z h g =
      let x = r.operand Logic level.Comparison o in
      let last = λ (a : Part) (v w : Word). x >>= λ b. give (record { low = a; high = b; written = Some (v, w) }) in
      ap (onward (λ a. expect AT_MOST (λ q. expect_name
      (λ v. expect AND_AND (λ r. expect_name (λ w. expect LESS (λ t. last a v w))))))) h
      ∙ names_then (last a) us ∙ ap (onward (λ z. last a z.0 z.1)) g

  pub range_given : (ts us vs ws : Tokens) (a b : Part) (s : Span) → r.expr Logic o ts ≡ Good a us
      → ahead (is_fixed DOTS) us ≡ Some (tt, s, vs) → r.expr Logic o vs ≡ Good b ws
      → r.range_bounds (readers o) ts ≡ Good (record { low = a; high = b; written = None }) ws
  range_given ts us vs ws a b s h g k =
      let last = λ (a : Part). r.expr Logic o >>= λ b. give (record { low = a; high = b; written = None }) in
      ap (onward (λ a. expect DOTS (λ t. last a))) h ∙ expect_some DOTS (λ t. last a) us vs s g
      ∙ ap (onward (λ b. give (record { low = a; high = b; written = None }))) k

  -- behind the word of a quantifier
  module _ (star : Bool) (s : Span) (ts us vs : Tokens) (i : Span) (w : Word) (h1 : ahead (is_fixed INT) ts ≡ Some (tt, i, us))
      (h2 : ahead name_of us ≡ Some (w.name, w.span, vs)) where
    abbrev each_last : Bounds → Part → Parser Chain
    each_last b a = expect CLOSE_PAREN (λ t. give (Other (each_of star s w b a t)))

    abbrev each_behind : Bounds → Parser Chain
    each_behind b = expect SEMICOLON (λ c. r.formula o >>= each_last b)

    pub each_named : r.quantified star s (readers o) ts ≡ onward each_behind (r.bounds (readers o) vs)
    unfolding r.quantified
    each_named =
        let last = λ (w : Word) (b : Bounds) (a : Part). expect CLOSE_PAREN (λ t. give (Other (each_of star s w b a t))) in
        let f = λ (w : Word). r.bounds (readers o) >>= λ b. expect SEMICOLON (λ c. r.formula o >>= last w b) in
        expect_some INT (λ i. expect_name f) ts us i h1 ∙ name_some f us vs w h2

    module _ (ws : Tokens) (b : Bounds) (h3 : r.bounds (readers o) vs ≡ Good b ws) where
      each_bounded : r.quantified star s (readers o) ts ≡ each_behind b ws
      each_bounded = each_named ∙ ap (onward each_behind) h3

      pub each_unended : ahead (is_fixed SEMICOLON) ws ≡ None → r.quantified star s (readers o) ts ≡ Bad (length ws)
      each_unended k = each_bounded ∙ expect_none SEMICOLON (λ c. r.formula o >>= each_last b) ws k

      module _ (xs : Tokens) (c : Span) (h4 : ahead (is_fixed SEMICOLON) ws ≡ Some (tt, c, xs)) where
        abbrev each_closed : Part × Span → Parser Chain
        each_closed z = give (Other (each_of star s w b z.0 z.1))

        pub each_upto : r.quantified star s (readers o) ts ≡ onward each_closed (closed_formula o xs)
        each_upto =
            each_bounded ∙ expect_some SEMICOLON (λ c. r.formula o >>= each_last b) ws xs c h4
            ∙ closed_then CLOSE_PAREN (λ a t. give (Other (each_of star s w b a t))) (r.formula o xs)

        pub each_given : (ys : Tokens) (a x : Part) (t : Span) → closed_formula o xs ≡ Good (a, t) ys → x ≡ each_of star s w b a t
            → r.quantified star s (readers o) ts ≡ Good (Other x) ys
        each_given ys a x t k e = each_upto ∙ ap (onward each_closed) k ∙ ap (λ z. Good (Other z) ys) (sym e)

-- behind the word of a permission
module _ (o p : Option Readers) (s : Span) (ts us vs ws : Tokens) (q c : Span) (a : Part)
    (h1 : ahead (is_fixed OPEN_PAREN) ts ≡ Some (tt, q, us)) (h2 : o ≡ Some (readers p))
    (h3 : r.post Logic p us ≡ Good a vs) (h4 : ahead (is_fixed COMMA) vs ≡ Some (tt, c, ws)) where
  abbrev perm_last : Amount → Parser Chain
  perm_last x = expect CLOSE_PAREN (λ t. give (Other (perm_of s a x t)))

  pub perm_upto : expect OPEN_PAREN (λ q. opened o (r.permitted s)) ts ≡ onward perm_last (r.amount ws)
  perm_upto =
      let last = λ (a : Part) (x : Amount). expect CLOSE_PAREN (λ t. give (Other (perm_of s a x t))) in
      expect_some OPEN_PAREN (λ q. opened o (r.permitted s)) ts us q h1 ∙ ap (λ o. opened o (r.permitted s) us) h2
      ∙ ap (onward (λ a. expect COMMA (λ c. r.amount >>= last a))) h3 ∙ expect_some COMMA (λ c. r.amount >>= last a) vs ws c h4

  module _ (xs : Tokens) (x : Amount) (h5 : r.amount ws ≡ Good x xs) where
    pub perm_open : ahead (is_fixed CLOSE_PAREN) xs ≡ None
        → expect OPEN_PAREN (λ q. opened o (r.permitted s)) ts ≡ Bad (length xs)
    perm_open k = perm_upto ∙ ap (onward perm_last) h5 ∙ expect_none CLOSE_PAREN (λ t. give (Other (perm_of s a x t))) xs k

    pub perm_given : (ys : Tokens) (t : Span) (y : Part) → ahead (is_fixed CLOSE_PAREN) xs ≡ Some (tt, t, ys)
        → y ≡ perm_of s a x t
        → expect OPEN_PAREN (λ q. opened o (r.permitted s)) ts ≡ Good (Other y) ys
    perm_given ys t y k e =
        perm_upto ∙ ap (onward perm_last) h5 ∙ expect_some CLOSE_PAREN (λ t. give (Other (perm_of s a x t))) xs ys t k
        ∙ ap (λ z. Good (Other z) ys) (sym e)
