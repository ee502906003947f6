-- What the verdicts on all units say of the program.
use Rattle.std.proofs.Common.{◌≡◌, ℕ, zero, suc, ◌<◌, Bool, true, false, cond, ◌||◌, List, [], ◌∷◌, ◌++◌, length, get_or, Contains, refl, sym, ap, subst, ◌∙◌, ◌⊎◌, inl, inr, arith, pos}
use Rattle.std.specs.Prelude.{slice_index_or}
use Rattle.std.specs.List.{flat_map}
use Rattle.pv_base.specs.declared.Name.{Name}
use Rattle.pv_base.specs.declared.Span.{Span}
use Rattle.pv_ast.specs.declared.Method.{Method}
use Rattle.pv_ast.specs.declared.Member.{Member}
use Rattle.pv_ast.specs.declared.Member.TheVariants as member
use Rattle.pv_ast.specs.declared.Class.{Class}
use Rattle.pv_ast.specs.declared.Program.{Program}
use Rattle.small_meaning.specs.Running.{Arguments, Meets, Check, failed, run_of}
use Rattle.small_meaning.specs.Grounds.{NeverFailsOn, NoRunFails}
use Rattle.small_meaning.specs.Machine.{IsSafe}
use Rattle.small_verdicts.specs.declared.SmallVerdict.{SmallVerdict}
use Rattle.small_verdicts.specs.declared.SmallVerdict.TheVariants.{Pass, Empty, Fail}
use Rattle.small_verdicts.specs.Grounded.{HasGround, check_of}
use Rattle.small_verdicts.specs.declared.judging.Judged.{Judged}
use Rattle.vercors.specs.declared.ending.Status.{Status}
use Rattle.vercors.specs.declared.ending.Status.TheVariants as status
use Rattle.vercors.specs.Texts.{SpellsSmallProgram, SomeRunFails, SpellsOnly}
use Rattle.vercors.specs.Refusals.{HasNoRefusal}
use Rattle.small_verdicts.specs.Units.{MethodUnit, units_of_member, units_of_class, units_of, AreJudged}
use Rattle.pv_report.specs.Output.{is_fail, some_fail, report_of}
use Rattle.vercors.specs.Statuses.{status_of}
use Rattle.vercors.specs.Answers.{IsTextAnswer, IsShown, Reports}

-- arguments that meet the precondition, on which the run fails
record Fails (m : Method) : Type 0 where
  arguments : Arguments
  meets : Meets m arguments
  check : Check
  span : Span
  fails : run_of m arguments ≡ failed check span

verdict_fails : (m : Method) (v : SmallVerdict) → HasGround m v → is_fail v ≡ true → Fails m
verdict_fails m Pass g e = absurd (cc)
verdict_fails m Empty g e = absurd (cc)
verdict_fails m (Fail check span numbers) g e =
    record {
      arguments = λ k. slice_index_or numbers k (pos 0);
      meets = g.meets;
      check = check_of check;
      span = span;
      fails = g.fails;
    }

verdict_never_fails : (m : Method) (v : SmallVerdict) → HasGround m v → is_fail v ≡ false → NeverFailsOn m
verdict_never_fails m Pass g e = g.never_fails
verdict_never_fails m Empty g e = λ arguments meets. absurd (g arguments meets)
verdict_never_fails m (Fail check span numbers) g e = absurd (cc)

-- ---- over lists of units

abbrev AnyFails : List MethodUnit → Type 0
AnyFails [] = ⊥
AnyFails (u ∷ us) = Fails u.method ⊎ AnyFails us

abbrev AllNeverFail : List MethodUnit → Type 0
AllNeverFail [] = Unit {0}
AllNeverFail (u ∷ us) = NeverFailsOn u.method × AllNeverFail us

any_fails : (us : List MethodUnit) (js : List Judged) → AreJudged us js → some_fail js ≡ true → AnyFails us
any_fails [] [] a e = absurd (cc)
any_fails [] (j ∷ js) a e = absurd a
any_fails (u ∷ us) [] a e = absurd a
any_fails (u ∷ us) (j ∷ js) a e = by (is_fail j.verdict) refl (λ k. any_fails us js a.1 k)
  where
    by : (b : Bool) → is_fail j.verdict ≡ b → (some_fail js ≡ true → AnyFails us) → Fails u.method ⊎ AnyFails us
    by true h rest = inl (verdict_fails u.method j.verdict a.0.ground h)
    by false h rest = inr (rest (ap (λ (b : Bool). b || some_fail js) (sym h) ∙ e))

none_fails : (us : List MethodUnit) (js : List Judged) → AreJudged us js → some_fail js ≡ false → AllNeverFail us
none_fails [] [] a e = tt
none_fails [] (j ∷ js) a e = absurd a
none_fails (u ∷ us) [] a e = absurd a
none_fails (u ∷ us) (j ∷ js) a e = by (is_fail j.verdict) refl (λ k. none_fails us js a.1 k)
  where
    by : (b : Bool) → is_fail j.verdict ≡ b → (some_fail js ≡ false → AllNeverFail us) → NeverFailsOn u.method × AllNeverFail us
    by true h rest = let same : true ≡ false = ap (λ (b : Bool). b || some_fail js) (sym h) ∙ e in absurd (cc)
    by false h rest =
        (verdict_never_fails u.method j.verdict a.0.ground h, rest (ap (λ (b : Bool). b || some_fail js) (sym h) ∙ e))

any_of_two : (us vs : List MethodUnit) → AnyFails (us ++ vs) → AnyFails us ⊎ AnyFails vs
any_of_two [] vs h = inr h
any_of_two (u ∷ us) vs (inl f) = inl (inl f)
any_of_two (u ∷ us) vs (inr h) = elim (any_of_two us vs h) [ inl a ↦ inl (inr a) | inr b ↦ inr b ]

never_left : (us vs : List MethodUnit) → AllNeverFail (us ++ vs) → AllNeverFail us
never_left [] vs h = tt
never_left (u ∷ us) vs h = (h.0, never_left us vs h.1)

never_right : (us vs : List MethodUnit) → AllNeverFail (us ++ vs) → AllNeverFail vs
never_right [] vs h = h
never_right (u ∷ us) vs h = never_right us vs h.1

-- ---- over members and classes

record FailsAmong (ms : List Member) : Type 0 where
  method : Method
  has : Contains ms (member.Method method)
  fails : Fails method

record FailsIn (cs : List Class) : Type 0 where
  class : Class
  has_class : Contains cs class
  method : Method
  has : Contains class.members (member.Method method)
  fails : Fails method

fails_of_member : (class : Name) (x : Member) (ms : List Member) → AnyFails (units_of_member class x) → FailsAmong (x ∷ ms)
fails_of_member class (member.Field p) ms h = absurd h
fails_of_member class (member.Predicate p) ms h = absurd h
fails_of_member class (member.Method m) ms (inl f) = record { method = m; has = (0, omega arith, refl); fails = f }
fails_of_member class (member.Method m) ms (inr h) = absurd h
fails_of_member class (member.Run r) ms h = absurd h

fails_among : (class : Name) (ms : List Member) → AnyFails (flat_map (units_of_member class) ms) → FailsAmong ms
fails_among class [] h = absurd h
fails_among class (x ∷ ms) h =
    elim (any_of_two (units_of_member class x) (flat_map (units_of_member class) ms) h) [
      | inl a ↦ fails_of_member class x ms a
      | inr b ↦ (let f : FailsAmong ms = fails_among class ms b in
          record { method = f.method; has = (suc f.has.0, omega (arith, f.has.1), f.has.2); fails = f.fails })
    ]

fails_in : (cs : List Class) → AnyFails (flat_map units_of_class cs) → FailsIn cs
fails_in [] h = absurd h
fails_in (c ∷ cs) h =
    elim (any_of_two (units_of_class c) (flat_map units_of_class cs) h) [
      | inl a ↦ (let f : FailsAmong c.members = fails_among c.name.name c.members a in
          record { class = c; has_class = (0, omega arith, refl); method = f.method; has = f.has; fails = f.fails })
      | inr b ↦ (let f : FailsIn cs = fails_in cs b in
          record {
            class = f.class;
            has_class = (suc f.has_class.0, omega (arith, f.has_class.1), f.has_class.2);
            method = f.method;
            has = f.has;
            fails = f.fails;
          })
    ]

never_among : (class : Name) (ms : List Member) (k : ℕ) (m : Method) → k < length ms
    → get_or ms k (member.Method m) ≡ member.Method m → AllNeverFail (flat_map (units_of_member class) ms) → NeverFailsOn m
never_among class [] k m h e a = absurd (omega arith)
never_among class (x ∷ ms) zero m h e a =
    let P : Member → Type 0 = λ y. AllNeverFail (units_of_member class y) in
    (subst P e (never_left (units_of_member class x) (flat_map (units_of_member class) ms) a)).0
never_among class (x ∷ ms) (suc k) m h e a =
    never_among class ms k m (omega arith) e (never_right (units_of_member class x) (flat_map (units_of_member class) ms) a)

never_in : (cs : List Class) (k : ℕ) (c : Class) → k < length cs → get_or cs k c ≡ c → AllNeverFail (flat_map units_of_class cs)
    → AllNeverFail (units_of_class c)
never_in [] k c h e a = absurd (omega arith)
never_in (x ∷ cs) zero c h e a =
    let P : Class → Type 0 = λ y. AllNeverFail (units_of_class y) in
    subst P e (never_left (units_of_class x) (flat_map units_of_class cs) a)
never_in (x ∷ cs) (suc k) c h e a =
    never_in cs k c (omega arith) e (never_right (units_of_class x) (flat_map units_of_class cs) a)

-- ---- of a program

pub some_run_fails : (p : Program) (js : List Judged) → AreJudged (units_of p) js → some_fail js ≡ true → SomeRunFails p
some_run_fails p js a e =
    let f : FailsIn p.classes = fails_in p.classes (any_fails (units_of p) js a e) in
    record {
      method = f.method;
      has = (f.class, f.has_class, f.has);
      arguments = f.fails.arguments;
      meets = f.fails.meets;
      check = f.fails.check;
      span = f.fails.span;
      fails = f.fails.fails;
    }

pub no_run_fails : (p : Program) (js : List Judged) → AreJudged (units_of p) js → some_fail js ≡ false → NoRunFails p
no_run_fails p js a e = λ m has.
    never_among has.0.name.name has.0.members has.2.0 m has.2.1 has.2.2
    (never_in p.classes has.1.0 has.0 has.1.1 has.1.2 (none_fails (units_of p) js a e))

pub not_both : (p : Program) → SomeRunFails p → NoRunFails p → ⊥
not_both p f n = n f.method f.has f.arguments f.meets f.check f.span f.fails

-- ---- of a text

-- verdicts with their grounds, and the report of them, are the right answer to the text
pub judged_answer : ((p : Program) → NoRunFails p → IsSafe p)
    → (text : List ℕ) (names : List (List ℕ)) (p : Program) (js : List Judged) (s : Status) (output : List ℕ)
    → SpellsSmallProgram text names p → SpellsOnly text p → HasNoRefusal text → AreJudged (units_of p) js → s ≡ status_of js
    → output ≡ report_of text names js → IsTextAnswer text s output
judged_answer law text names p js s output spells only unrefused a e o = by (some_fail js) refl
  where
    reports : Reports text s output
    reports = record { names = names; program = p; judged = js; spells = spells; grounds = a; ends = e; printed = o }

    by : (b : Bool) → some_fail js ≡ b → IsTextAnswer text s output
    by true h =
        let is : s ≡ status.Refused = e ∙ ap (λ (b : Bool). cond b status.Refused status.Passed) h in
        let fails : SomeRunFails p = some_run_fails p js a h in
        let P : Status → Type 0 = λ t. Reports text t output in
        let Q : Status → Type 0 = λ t. IsShown text t output in
        record {
          is = record {
            text_refused = (λ k. absurd (cc), λ none. absurd (none names p spells));
            has_refusal = λ r refused. absurd (unrefused r refused);
            refused = (λ _. record { names = names; program = p; spells = spells; so = fails }, λ _. is);
            passed = (
              λ k. absurd (cc),
              λ u. absurd (not_both p fails (let R : Program
                  → Type 0 = λ q. NoRunFails q in subst R (only u.names u.program u.spells) u.so)),
            );
            safe = λ k. absurd (cc);
          };
          shown = subst Q (sym is) (subst P is reports);
        }
    by false h =
        let is : s ≡ status.Passed = e ∙ ap (λ (b : Bool). cond b status.Refused status.Passed) h in
        let never : NoRunFails p = no_run_fails p js a h in
        let P : Status → Type 0 = λ t. Reports text t output in
        let Q : Status → Type 0 = λ t. IsShown text t output in
        record {
          is = record {
            text_refused = (λ k. absurd (cc), λ none. absurd (none names p spells));
            has_refusal = λ r refused. absurd (unrefused r refused);
            refused = (
              λ k. absurd (cc),
              λ u. absurd (not_both p (let R : Program
                  → Type 0 = λ q. SomeRunFails q in subst R (only u.names u.program u.spells) u.so) never),
            );
            passed = (λ _. record { names = names; program = p; spells = spells; so = never }, λ _. is);
            safe = λ _. record { names = names; program = p; spells = spells; so = law p never };
          };
          shown = subst Q (sym is) (subst P is reports);
        }
