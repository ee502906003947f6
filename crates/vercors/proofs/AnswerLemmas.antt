-- Which statuses an answer may have, and what they say.
use Rattle.std.proofs.Common.{◌≡◌, ◌↔◌, ℕ, List, [], ◌∷◌, Option, Some, None, Result, Ok, Err, IfSome, IfOk, sym, subst, ◌∙◌, codes}
use Rattle.pv_io.specs.Calls.{NamedBytes}
use Rattle.pv_io.specs.Whole.{Loads}
use Rattle.pv_io.specs.declared.faults.LoadFault.{LoadFault}
use Rattle.pv_io.specs.declared.faults.LoadFault.TheVariants as fault
use Rattle.pv_base.specs.declared.NoMemory as no_memory
use Rattle.vercors.specs.declared.ending.Answer.{Answer}
use Rattle.vercors.specs.declared.ending.Status.{Status}
use Rattle.vercors.specs.declared.ending.Status.TheVariants.{Passed, Refused, TextRefused, Splits, WordsWrong, NoFile, ReadFault, WriteFault, TooLarge, NoMemory, WentWrong, ScheduleRefused, Overflow, RangeTooLong}
use Rattle.pv_words.specs.Words.{IsVerify, NoVerify}
use Rattle.pv_report.specs.Output.{refusal_line}
use Rattle.vercors.specs.Lines.{usage_line}
use Rattle.vercors.specs.Texts.{SpellsNone}
use Rattle.vercors.specs.Refusals.{IsRefused, HasOnly}
use Rattle.pv_report.specs.declared.refusing.Refusal.{Refusal}
use Rattle.vercors.specs.Loading.{IsFaultAnswer}
use Rattle.vercors.specs.Answers as answers
use Rattle.pv_tokens.specs.Bytes.{most_bytes}
use Rattle.vercors.specs.Answers.{IsOfText, IsShown, IsTextAnswer, ReadsText, IsFileAnswer, told_of, IsAnswer, DeliversWhole, DeliversPart, Delivers, OrYields, ComesExactly}

-- what is said of the file of a name is said of what is told of it
pub told_here : (files : Option NamedBytes) (name : List ℕ) (P : Option (List ℕ) → Type 0)
    → IfSome files (λ bytes_of. P (bytes_of name)) → IfSome (told_of files name) P
told_here None name P h = tt
told_here (Some bytes_of) name P h = h

-- the answer to a text that is refused
pub refused_answer : (text : List ℕ) (r : Refusal) (s : Status) (output : List ℕ) → IsRefused text r → HasOnly text r
    → SpellsNone text → s ≡ TextRefused → output ≡ refusal_line text r → IsTextAnswer text s output
refused_answer text r s output refused only none e o =
    let Shown : Status → Type 0 = λ t. IsShown text t output in
    record {
      is = record {
        text_refused = (λ _. none, λ _. e);
        has_refusal = λ _ _. e;
        refused = (λ k. absurd (cc), λ u. absurd (none u.names u.program u.spells));
        passed = (λ k. absurd (cc), λ u. absurd (none u.names u.program u.spells));
        safe = λ k. absurd (cc);
      };
      shown = subst Shown (sym e) (record { refusal = r; is = refused; only = only; printed = o });
    }

pub shown_of_text : (text : List ℕ) (s : Status) (output : List ℕ) → IsShown text s output → IsOfText s
shown_of_text text Passed output h = tt
shown_of_text text Refused output h = tt
shown_of_text text TextRefused output h = tt
shown_of_text text Splits output h = h
shown_of_text text WordsWrong output h = h
shown_of_text text NoFile output h = h
shown_of_text text ReadFault output h = h
shown_of_text text WriteFault output h = h
shown_of_text text TooLarge output h = h
shown_of_text text NoMemory output h = h
shown_of_text text WentWrong output h = h
shown_of_text text ScheduleRefused output h = h
shown_of_text text Overflow output h = h
shown_of_text text RangeTooLong output h = h

pub not_of_text : (text : List ℕ) (s t : Status) (output : List ℕ) → IsTextAnswer text s output → s ≡ t → IsOfText t
not_of_text text s t output a e = subst IsOfText e (shown_of_text text s output a.shown)

-- the statuses that the answer to a file may have
abbrev pub IsOfFile : Status → Type 0
IsOfFile Passed = Unit {0}
IsOfFile Refused = Unit {0}
IsOfFile TextRefused = Unit {0}
IsOfFile NoFile = Unit {0}
IsOfFile ReadFault = Unit {0}
IsOfFile TooLarge = Unit {0}
IsOfFile _ = ⊥

of_text_of_file : (s : Status) → IsOfText s → IsOfFile s
of_text_of_file Passed h = tt
of_text_of_file Refused h = tt
of_text_of_file TextRefused h = tt
of_text_of_file Splits h = h
of_text_of_file WordsWrong h = h
of_text_of_file NoFile h = absurd h
of_text_of_file ReadFault h = absurd h
of_text_of_file WriteFault h = h
of_text_of_file TooLarge h = absurd h
of_text_of_file NoMemory h = h
of_text_of_file WentWrong h = h
of_text_of_file ScheduleRefused h = h
of_text_of_file Overflow h = h
of_text_of_file RangeTooLong h = h

pub file_status : {told : Option (Option (List ℕ))} {s : Status} {output : List ℕ} → IsFileAnswer told s output → IsOfFile s
file_status (answers.missing h) = tt
file_status answers.unread = tt
file_status (answers.too_large h) = tt
file_status (answers.read {text} {status} {output} told small a) =
    of_text_of_file status (shown_of_text text status output a.shown)

text_of_file : (files : Option NamedBytes) (words : List (List ℕ)) (file : List ℕ) (s : Status) (output : List ℕ)
    → IsVerify words file → IsFileAnswer (told_of files file) s output → IsOfText s → ReadsText files words s
text_of_file files words file _ _ w (answers.missing h) k = absurd k
text_of_file files words file _ _ w answers.unread k = absurd k
text_of_file files words file _ _ w (answers.too_large h) k = absurd k
text_of_file files words file _ _ w (answers.read {text} {status} {output} told small a) k =
    record { file = file; form = w; text = text; told = told; small = small; is = a.is }

-- what an answer says of a text that was read
pub text_of_answer : (files : Option NamedBytes) (words : List (List ℕ)) (s : Status) (output : List ℕ)
    → IsAnswer files words s output → IsOfText s → ReadsText files words s
text_of_answer files words _ _ (answers.usage h) k = absurd k
text_of_answer files words _ _ (answers.verify {file} {status} {output} w a) k = text_of_file files words file status output w a k

-- an answer whose status and line are known
pub line_answer : (r : Result Answer no_memory.NoMemory) (s : Status) (line : List ℕ) (P : Status → List ℕ → Type 0)
    → ((t : Status) (o : List ℕ) → t ≡ s → o ≡ line → P t o)
    → IfOk r (λ a. a.status ≡ s) → IfOk r (λ a. a.output ≡ line) → IfOk r (λ a. P a.status a.output)
line_answer (Ok a) s line P f h k = f a.status a.output h k
line_answer (Err e) s line P f h k = tt

-- an answer of which less is said
pub less_said : (r : Result Answer no_memory.NoMemory) (P Q : Status → List ℕ → Type 0)
    → ((t : Status) (o : List ℕ) → P t o → Q t o) → IfOk r (λ a. P a.status a.output) → IfOk r (λ a. Q a.status a.output)
less_said (Ok a) P Q f h = f a.status a.output h
less_said (Err e) P Q f h = tt

-- the answer where a file was not loaded
pub fault_answer : (told : Option (Option (List ℕ))) (e : LoadFault) (s : Status) (output : List ℕ)
    → IfSome told (λ bytes. Loads bytes most_bytes (Err e)) → IsFaultAnswer e s output → IsFileAnswer told s output
fault_answer told fault.NoFile s output h a =
    let P : Status → Type 0 = λ t. IsFileAnswer told t output in
    let Q : List ℕ → Type 0 = λ o. IsFileAnswer told NoFile o in
    subst P (sym a.0) (subst Q (sym a.1) (answers.missing h))
fault_answer told fault.TooLarge s output h a =
    let P : Status → Type 0 = λ t. IsFileAnswer told t output in
    let Q : List ℕ → Type 0 = λ o. IsFileAnswer told TooLarge o in
    subst P (sym a.0) (subst Q (sym a.1) (answers.too_large h))
fault_answer told fault.Failed s output h a =
    let P : Status → Type 0 = λ t. IsFileAnswer told t output in
    let Q : List ℕ → Type 0 = λ o. IsFileAnswer told ReadFault o in
    subst P (sym a.0) (subst Q (sym a.1) answers.unread)
fault_answer told fault.NoMemory s output h a = absurd a

-- the answer to wrong words
pub usage_answer : (files : Option NamedBytes) (words : List (List ℕ)) (s : Status) (output : List ℕ) → NoVerify words
    → s ≡ WordsWrong → output ≡ usage_line → IsAnswer files words s output
usage_answer files words s output none e o =
    let P : Status → Type 0 = λ t. IsAnswer files words t output in
    let Q : List ℕ → Type 0 = λ o. IsAnswer files words WordsWrong o in
    subst P (sym e) (subst Q (sym o) (answers.usage none))

-- the statuses that an answer may have
abbrev pub IsWritten : Status → Type 0
IsWritten WriteFault = ⊥
IsWritten NoMemory = ⊥
IsWritten _ = Unit {0}

of_file_written : (s : Status) → IsOfFile s → IsWritten s
of_file_written WriteFault h = h
of_file_written NoMemory h = h
of_file_written Passed h = tt
of_file_written Refused h = tt
of_file_written TextRefused h = tt
of_file_written Splits h = tt
of_file_written WordsWrong h = tt
of_file_written NoFile h = tt
of_file_written ReadFault h = tt
of_file_written TooLarge h = tt
of_file_written WentWrong h = tt
of_file_written ScheduleRefused h = tt
of_file_written Overflow h = tt
of_file_written RangeTooLong h = tt

pub is_written : {files : Option NamedBytes} {words : List (List ℕ)} {s : Status} {output : List ℕ}
    → IsAnswer files words s output → IsWritten s
is_written (answers.usage h) = tt
is_written (answers.verify {file} {status} {output} w a) = of_file_written status (file_status a)

-- an answer that was written whole
pub delivers_whole : (P : Status → List ℕ → Type 0) (s : Status) (written written' : Option (List ℕ)) → IsWritten s
    → DeliversWhole P s written written' → Delivers P s written written'
delivers_whole P WriteFault written written' k d = absurd k
delivers_whole P NoMemory written written' k d = absurd k
delivers_whole P Passed written written' k d = d
delivers_whole P Refused written written' k d = d
delivers_whole P TextRefused written written' k d = d
delivers_whole P Splits written written' k d = d
delivers_whole P WordsWrong written written' k d = d
delivers_whole P NoFile written written' k d = d
delivers_whole P ReadFault written written' k d = d
delivers_whole P TooLarge written written' k d = d
delivers_whole P WentWrong written written' k d = d
delivers_whole P ScheduleRefused written written' k d = d
delivers_whole P Overflow written written' k d = d
delivers_whole P RangeTooLong written written' k d = d

or_yields : (s wanted : Status) → s ≡ wanted → OrYields s wanted
or_yields WriteFault wanted e = tt
or_yields NoMemory wanted e = tt
or_yields Passed wanted e = e
or_yields Refused wanted e = e
or_yields TextRefused wanted e = e
or_yields Splits wanted e = e
or_yields WordsWrong wanted e = e
or_yields NoFile wanted e = e
or_yields ReadFault wanted e = e
or_yields TooLarge wanted e = e
or_yields WentWrong wanted e = e
or_yields ScheduleRefused wanted e = e
or_yields Overflow wanted e = e
or_yields RangeTooLong wanted e = e

-- a status that comes exactly where the fact holds
pub comes : (s wanted : Status) (Fact : Type 0) → ((s ≡ wanted) ↔ Fact) → ComesExactly s wanted Fact
comes s wanted Fact h = record { only = h.0; always = λ f. or_yields s wanted (h.1 f) }

-- words name one file
one_file : (words : List (List ℕ)) (a b : List ℕ) → IsVerify words a → IsVerify words b → a ≡ b
one_file words a b h k = let e : codes "verify" ∷ a ∷ [] ≡ codes "verify" ∷ b ∷ [] = sym h.form ∙ k.form in cc
