-- Barriers of one body at one place are one.
use Rattle.std.proofs.Common.{◌≡◌, inl, inr, ℕ, ◌+◌, ◌≤◌, List, [], ◌∷◌, ◌++◌, refl, sym, ◌∙◌, ap, arith}
use Rattle.pv_picks.specs.Plain.Core.{Barrier, Statement, Block}
use Rattle.pv_picks.specs.Plain.Core as core
use Rattle.core_sharing.specs.Places.{StandsIn, StandsInBlock, HasItsWay, HaveTheirWays, PlacesTell}

-- the way goes on from here
abbrev Beyond : List ℕ → Barrier → Type 0
Beyond way x = (rest : List ℕ) × (x.place ≡ way ++ rest)

pub record Behind (way : List ℕ) (n : ℕ) (x : Barrier) : Type 0 where
  pub number : ℕ
  pub above : n ≤ number
  pub rest : List ℕ
  pub is : x.place ≡ way ++ (number ∷ rest)

append_none : (xs : List ℕ) → xs ≡ xs ++ []
append_none [] = refl
append_none (x ∷ xs) = ap (λ ys. x ∷ ys) (append_none xs)

append_one : (xs : List ℕ) (n : ℕ) (ys : List ℕ) → (xs ++ n ∷ []) ++ ys ≡ xs ++ (n ∷ ys)
append_one [] n ys = refl
append_one (x ∷ xs) n ys = ap (λ zs. x ∷ zs) (append_one xs n ys)

same_head : (xs : List ℕ) (m n : ℕ) (ys zs : List ℕ) → xs ++ (m ∷ ys) ≡ xs ++ (n ∷ zs) → m ≡ n
same_head [] m n ys zs is = cc
same_head (x ∷ xs) m n ys zs is = same_head xs m n ys zs (let e : xs ++ (m ∷ ys) ≡ xs ++ (n ∷ zs) = cc in e)

block_beyond : (way : List ℕ) (n : ℕ) (x : Barrier) → Behind way n x → Beyond way x
block_beyond way n x b = (b.number ∷ b.rest, b.is)

inner_beyond : (way : List ℕ) (k : ℕ) (x : Barrier) → Behind (way ++ k ∷ []) 0 x → Beyond way x
inner_beyond way k x b = (k ∷ b.number ∷ b.rest, b.is ∙ append_one way k (b.number ∷ b.rest))

mutual
  statement_beyond : (way : List ℕ) (s : Statement) → HasItsWay way s → (x : Barrier) → StandsIn x s → Beyond way x
  statement_beyond way (core.If e first second) h x (inl i) = inner_beyond way 0 x (block_behind (way ++ 0 ∷ []) 0 first h.0 x i)
  statement_beyond way (core.If e first second) h x (inr i) = inner_beyond way 1 x (block_behind (way ++ 1 ∷ []) 0 second h.1 x i)
  statement_beyond way (core.While variables f e body span) h x i =
      inner_beyond way 0 x (block_behind (way ++ 0 ∷ []) 0 body h x i)
  statement_beyond way (core.Members team body span) h x i = inner_beyond way 0 x (block_behind (way ++ 0 ∷ []) 0 body h x i)
  statement_beyond way (core.Meet barrier span) h x i = ([], ap (λ (b : Barrier). b.place) i ∙ h ∙ append_none way)
  statement_beyond way (core.Assign target right span) h x i = absurd i
  statement_beyond way (core.Act action class e span) h x i = absurd i
  statement_beyond way (core.Fold class name e args span) h x i = absurd i
  statement_beyond way (core.Unfold class name e args span) h x i = absurd i
  statement_beyond way (core.Assert f span) h x i = absurd i
  statement_beyond way (core.Send m span) h x i = absurd i
  statement_beyond way (core.Receive m span) h x i = absurd i
  statement_beyond way (core.Return e span) h x i = absurd i

  block_behind : (way : List ℕ) (n : ℕ) (b : Block) → HaveTheirWays way n b → (x : Barrier) → StandsInBlock x b → Behind way n x
  block_behind way n core.Stop h x i = absurd i
  block_behind way n (core.Then s b) h x (inl i) =
      let t = statement_beyond (way ++ n ∷ []) s h.0 x i in
      record { number = n; above = omega arith; rest = t.0; is = t.1 ∙ append_one way n t.0 }
  block_behind way n (core.Then s b) h x (inr i) =
      let t = block_behind way (n + 1) b h.1 x i in
      let more = t.above in record { number = t.number; above = omega arith; rest = t.rest; is = t.is }

-- a barrier of the first statement isn't at the place of one behind it
apart : {A : Type 0} (way : List ℕ) (n : ℕ) (x y : Barrier) → Beyond (way ++ n ∷ []) x → Behind way (n + 1) y
    → x.place ≡ y.place → A
apart way n x y b c same =
    let e : n ≡ c.number = same_head way n c.number b.0 c.rest (sym (append_one way n b.0) ∙ sym b.1 ∙ same ∙ c.is) in
    let above = c.above in absurd (omega arith)

-- neither is one of one block at the place of one of another
aside : {A : Type 0} (way : List ℕ) (x y : Barrier) → Behind (way ++ 0 ∷ []) 0 x → Behind (way ++ 1 ∷ []) 0 y
    → x.place ≡ y.place → A
aside way x y b c same =
    let e : ◌≡◌ {A = ℕ} 0 1 = same_head way 0 1 (b.number ∷ b.rest) (c.number ∷ c.rest)
    (sym (append_one way 0 (b.number ∷ b.rest)) ∙ sym b.is ∙ same ∙ c.is ∙ append_one way 1 (c.number ∷ c.rest)) in
    absurd (omega arith)

mutual
  statement_tells : (way : List ℕ) (s : Statement) → HasItsWay way s → (x y : Barrier) → StandsIn x s → StandsIn y s
      → x.place ≡ y.place → x ≡ y
  statement_tells way (core.If e first second) h x y (inl i) (inl j) same = block_tells (way ++ 0 ∷ []) 0 first h.0 x y i j same
  statement_tells way (core.If e first second) h x y (inr i) (inr j) same = block_tells (way ++ 1 ∷ []) 0 second h.1 x y i j same
  statement_tells way (core.If e first second) h x y (inl i) (inr j) same =
      aside way x y (block_behind (way ++ 0 ∷ []) 0 first h.0 x i) (block_behind (way ++ 1 ∷ []) 0 second h.1 y j) same
  statement_tells way (core.If e first second) h x y (inr i) (inl j) same =
      aside way y x (block_behind (way ++ 0 ∷ []) 0 first h.0 y j) (block_behind (way ++ 1 ∷ []) 0 second h.1 x i) (sym same)
  statement_tells way (core.While variables f e body span) h x y i j same = block_tells (way ++ 0 ∷ []) 0 body h x y i j same
  statement_tells way (core.Members team body span) h x y i j same = block_tells (way ++ 0 ∷ []) 0 body h x y i j same
  statement_tells way (core.Meet barrier span) h x y i j same = i ∙ sym j
  statement_tells way (core.Assign target right span) h x y i j same = absurd i
  statement_tells way (core.Act action class e span) h x y i j same = absurd i
  statement_tells way (core.Fold class name e args span) h x y i j same = absurd i
  statement_tells way (core.Unfold class name e args span) h x y i j same = absurd i
  statement_tells way (core.Assert f span) h x y i j same = absurd i
  statement_tells way (core.Send m span) h x y i j same = absurd i
  statement_tells way (core.Receive m span) h x y i j same = absurd i
  statement_tells way (core.Return e span) h x y i j same = absurd i

  block_tells : (way : List ℕ) (n : ℕ) (b : Block) → HaveTheirWays way n b → (x y : Barrier) → StandsInBlock x b
      → StandsInBlock y b → x.place ≡ y.place → x ≡ y
  block_tells way n core.Stop h x y i j same = absurd i
  block_tells way n (core.Then s b) h x y (inl i) (inl j) same = statement_tells (way ++ n ∷ []) s h.0 x y i j same
  block_tells way n (core.Then s b) h x y (inr i) (inr j) same = block_tells way (n + 1) b h.1 x y i j same
  block_tells way n (core.Then s b) h x y (inl i) (inr j) same =
      apart way n x y (statement_beyond (way ++ n ∷ []) s h.0 x i) (block_behind way (n + 1) b h.1 y j) same
  block_tells way n (core.Then s b) h x y (inr i) (inl j) same =
      apart way n y x (statement_beyond (way ++ n ∷ []) s h.0 y j) (block_behind way (n + 1) b h.1 x i) (sym same)

pub places_tell : (body : Block) → HaveTheirWays [] 0 body → PlacesTell body
places_tell body h = λ x y i j same. block_tells [] 0 body h x y i j same
