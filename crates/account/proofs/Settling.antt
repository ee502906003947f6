-- Evaluating keeps the scene of a run; values come on top one after the other.
use Rattle.std.proofs.Common.{◌≡◌, ℕ, suc, ℤ, pos, Option, Some, None, List, [], ◌∷◌, refl, ap, sym, ◌∙◌, ◌+◌, arith}
use Rattle.std.specs.Prelude.{nat_eq, int_le, drop, take, reverse, ◌++◌, length}
use Rattle.std.proofs.lemmas.List.{append_assoc, reverse-append, reverse-reverse, length-reverse}
use Rattle.std.proofs.Math.Seq.{take-append_seam, drop-append_seam, drop-append-add}
use Rattle.std.proofs.Math.Path.{fun_ext}
use Rattle.pv_base.specs.declared.Span.{Span}
use Rattle.pv_ast.specs.declared.PvType.{PvType}
use Rattle.pv_values.specs.declared.value.Value.{Value}
use Rattle.pv_picks.specs.Plain.Core.{Operation, Manner, Plain, Tabled, Expression, Program}
use Rattle.pv_picks.specs.Formulas.Values.{within}
use Rattle.pv_picks.specs.Formulas.Evaluation.{Scene, evaluate, evaluate_all}
use Rattle.pv_picks.specs.Judge.States.{State, Cell, scene_of, cells_of, InField, InElement, with_length}
use Rattle.pv_picks.specs.Judge.Settings.{Next, known_or_picked, look_at_length, operate, or_missing}
use Rattle.pv_picks.specs.Machine.Frames.{topmost}
use Rattle.pv_picks.specs.Judge.Rows.{access_reader, compute}
use Rattle.pv_picks.specs.Judge.Runs.{Judged, Maps, pick_number, content}
use Rattle.pv_picks.proofs.Readers.{ReadersRelated, evaluate_related}
use Rattle.account_formulas.specs.Runs.{truly}
use Rattle.account_formulas.proofs.Steady.{if_same}
use Rattle.account.specs.Running.{Body, compute_each}

-- Values that come on top one after the other

abbrev pub pushed : List Value → List Value → List Value
pushed [] values = values
pushed (w ∷ ws) values = pushed ws (w ∷ values)

pushed_is : (ws values : List Value) → pushed ws values ≡ reverse ws ++ values
pushed_is [] values = refl
pushed_is (w ∷ ws) values =
    pushed_is ws (w ∷ values) ∙ sym (append_assoc (reverse ws) (w ∷ []) values)
    ∙ ap (λ l. l ++ values) (sym (reverse-append (w ∷ []) ws))

pub under_pushed : (n : ℕ) (ws values : List Value) → length ws ≡ n → drop n (pushed ws values) ≡ values
under_pushed n ws values e =
    ap (drop n) (pushed_is ws values) ∙ ap (λ k. drop k (reverse ws ++ values)) (sym (length-reverse ws ∙ e))
    ∙ drop-append_seam (reverse ws) values

pub beyond_pushed : (n : ℕ) (ws values : List Value) (o : Value) → length ws ≡ n → drop (suc n) (pushed ws (o ∷ values)) ≡ values
beyond_pushed n ws values o e =
    let count = length-reverse ws in
    let more : suc n ≡ length (reverse ws) + 1 = omega (arith, e, count) in
    ap (drop (suc n)) (pushed_is ws (o ∷ values)) ∙ ap (λ k. drop k (reverse ws ++ o ∷ values)) more
    ∙ drop-append-add (reverse ws) (o ∷ values) 1

pub topmost_pushed : (n : ℕ) (ws values : List Value) → length ws ≡ n → topmost n (pushed ws values) ≡ ws
topmost_pushed n ws values e =
    ap (λ l. reverse (take n l)) (pushed_is ws values)
    ∙ ap (λ k. reverse (take k (reverse ws ++ values))) (sym (length-reverse ws ∙ e))
    ∙ ap reverse (take-append_seam (reverse ws) values) ∙ reverse-reverse ws

-- Evaluating keeps the scene: what comes next matters in this scene alone

module _ (maps : Maps) (sc : Scene) where
  abbrev pub Alike : Next Judged → Next Judged → Type 0
  Alike f g = (s : State) → scene_of s ≡ sc → f s ≡ g s

  pick_alike : (f g : ℤ → Judged) → ((z : ℤ) → f z ≡ g z) → pick_number f ≡ pick_number g
  pick_alike f g h = ap pick_number (fun_ext h)

  length_alike : (t : PvType) (a : ℕ) (f g : ℤ → Next Judged) → ((z : ℤ) → Alike (f z) (g z))
      → Alike (look_at_length (truly maps) t a f) (look_at_length (truly maps) t a g)
  length_alike t a f g h s e = go (s.lengths t a)
    where
      go : (o : Option ℤ) → known_or_picked (truly maps) o t a f s ≡ known_or_picked (truly maps) o t a g s
      go (Some n) = h n s e
      go None = pick_alike _ _ (λ z. if_same (int_le (pos 0) z) _ _ _ _ (h z (with_length s t a z) e) refl)

  missing_alike : (o : Option Cell) (x : Judged) (f g : Value → Next Judged) → ((v : Value) → Alike (f v) (g v)) → (s : State)
      → scene_of s ≡ sc → or_missing (truly maps) o x f s ≡ or_missing (truly maps) o x g s
  missing_alike None x f g h s e = refl
  missing_alike (Some c) x f g h s e = h (content maps c) s e

  operate_alike : (m : Manner) (o : Operation) (a b : ℤ) (p : Span) (f g : ℤ → Next Judged) → ((z : ℤ) → Alike (f z) (g z))
      → Alike (operate (truly maps) m o a b p f) (operate (truly maps) m o a b p g)
  operate_alike Plain o a b p f g h s e = h _ s e
  operate_alike Tabled o a b p f g h s e = h _ s e

  access_alike : ReadersRelated Alike (access_reader (truly maps)) (access_reader (truly maps))
  access_alike = record {
    field = λ c o n p f g h s e. if_same (nat_eq o 0) _ _ _ _ refl (missing_alike (cells_of s (InField c o n)) _ f g h s e);
    element = λ t a i p f g h s e. if_same (nat_eq a 0) _ _ _ _ refl
        (length_alike t a _ _ (λ n later k. if_same (within (pos 0) n i) _ _ _ _
        (missing_alike (cells_of later (InElement t a i)) _ f g h later k) refl) s e);
    length = λ t a p f g h s e. if_same (nat_eq a 0) _ _ _ _ refl (length_alike t a f g h s e);
    operation = λ m o a b p f g h. operate_alike m o a b p f g h;
    comparing = λ a b x y h. h;
    matching = λ v w x y h. h;
    deciding = λ b x y h. h;
  }

  pub evaluate_alike : (e : Expression) (f g : Value → Next Judged) → ((v : Value) → Alike (f v) (g v))
      → Alike (evaluate (access_reader (truly maps)) (access_reader (truly maps)) sc e f)
      (evaluate (access_reader (truly maps)) (access_reader (truly maps)) sc e g)
  evaluate_alike e f g h = evaluate_related' e f g h
    where
      evaluate_related' : (e : Expression) (f g : Value → Next Judged) → ((v : Value) → Alike (f v) (g v))
          → Alike (evaluate (access_reader (truly maps)) (access_reader (truly maps)) sc e f)
          (evaluate (access_reader (truly maps)) (access_reader (truly maps)) sc e g)
      evaluate_related' e f g h = evaluate_related Alike _ _ _ _ access_alike access_alike sc e f g h

  -- one after the other, each in the scene of its own state
  pub compute_alike : (e : Expression) (f : Value → Next Judged)
      → Alike (compute (truly maps) e f) (evaluate (access_reader (truly maps)) (access_reader (truly maps)) sc e f)
  compute_alike e f s k = ap (λ c. evaluate (access_reader (truly maps)) (access_reader (truly maps)) c e f s) k

  -- several, where what comes next is alike for so many values
  pub each_alike : (p : Program) (body : Body) (es : List Expression) (k l : List Value → Next Judged) (values : List Value)
      → ((ws : List Value) → length ws ≡ length es → Alike (k (pushed ws values)) (l ws))
      → Alike (compute_each (truly maps) p body es k values)
      (evaluate_all (access_reader (truly maps)) (access_reader (truly maps)) sc es l)
  each_alike p body [] k l values h s c = h [] refl s c
  each_alike p body (e ∷ es) k l values h s c =
      compute_alike e _ s c ∙ evaluate_alike e _ _ (λ v. each_alike p body es k (λ ws. l (v ∷ ws)) (v ∷ values)
      (λ ws n. h (v ∷ ws) (ap suc n))) s c
