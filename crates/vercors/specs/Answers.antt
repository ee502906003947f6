-- Which answers are right, for the words and for what the shelf tells of its files.
use Rattle.std.specs.Prelude.{◌≡◌, ◌↔◌, ℕ, ◌≤◌, ◌<◌, List, ◌++◌, length, Option, Some, None, IfSome, IsSomeAnd}
use Rattle.std.specs.Option.{option_map}
use Rattle.pv_ast.specs.declared.Program.{Program}
use Rattle.pv_tokens.specs.Bytes.{most_bytes}
use Rattle.pv_io.specs.Calls.{NamedBytes}
use Rattle.pv_io.specs.Whole.{AppendsPrefix}
use Rattle.vercors.specs.declared.ending.Status.{Status}
use Rattle.vercors.specs.declared.ending.Status.TheVariants.{Passed, Refused, TextRefused, WordsWrong, NoFile, ReadFault, WriteFault, TooLarge, NoMemory}
use Rattle.small_verdicts.specs.declared.judging.Judged.{Judged}
use Rattle.pv_report.specs.declared.refusing.Refusal.{Refusal}
use Rattle.pv_words.specs.Words.{IsVerify, NoVerify}
use Rattle.vercors.specs.Texts.{SpellsSmallProgram, SpellsNone, SpellsFailing, SpellsUnfailing, SpellsSafe}
use Rattle.vercors.specs.Refusals.{IsRefused, HasOnly}
use Rattle.small_verdicts.specs.Units.{units_of, AreJudged}
use Rattle.pv_report.specs.Output.{refusal_line, report_of}
use Rattle.vercors.specs.Lines.{usage_line, no_file_line, read_fault_line, too_large_line}
use Rattle.vercors.specs.Statuses.{status_of}

-- a verdict on each unit of the program that the text spells, each with its ground, and the report of them
pub record Reports (text : List ℕ) (status : Status) (output : List ℕ) : Type 0 where
  pub names : List (List ℕ)
  pub program : Program
  pub judged : List Judged
  pub spells : SpellsSmallProgram text names program
  pub grounds : AreJudged (units_of program) judged
  pub ends : status ≡ status_of judged
  pub printed : output ≡ report_of text names judged

-- the text has this refusal and no other, and the line of it
pub record ShowsRefusal (text : List ℕ) (output : List ℕ) : Type 0 where
  pub refusal : Refusal
  pub is : IsRefused text refusal
  pub only : HasOnly text refusal
  pub printed : output ≡ refusal_line text refusal

-- what is printed of a text
abbrev pub IsShown : List ℕ → Status → List ℕ → Type 0
IsShown text Passed output = Reports text Passed output
IsShown text Refused output = Reports text Refused output
IsShown text TextRefused output = ShowsRefusal text output
IsShown text _ output = ⊥

-- the statuses that a text has
abbrev pub IsOfText : Status → Type 0
IsOfText Passed = Unit {0}
IsOfText Refused = Unit {0}
IsOfText TextRefused = Unit {0}
IsOfText _ = ⊥

-- the text is refused exactly where it spells no small program without faults, and wherever it has some refusal; the program
-- is refused exactly where some run fails; a program that passed is safe
pub record IsStatusOf (text : List ℕ) (status : Status) : Type 0 where
  pub text_refused : (status ≡ TextRefused) ↔ SpellsNone text
  pub has_refusal : (r : Refusal) → IsRefused text r → status ≡ TextRefused
  pub refused : (status ≡ Refused) ↔ SpellsFailing text
  pub passed : (status ≡ Passed) ↔ SpellsUnfailing text
  pub safe : status ≡ Passed → SpellsSafe text

-- the answer to a text
pub record IsTextAnswer (text : List ℕ) (status : Status) (output : List ℕ) : Type 0 where
  pub is : IsStatusOf text status
  pub shown : IsShown text status output

-- the answer to a file, of which may be told which bytes it has, if there is one
pub data IsFileAnswer (told : Option (Option (List ℕ))) : Status → List ℕ → Type 0 where
  missing : IfSome told (λ bytes. bytes ≡ None) → IsFileAnswer told NoFile no_file_line
  unread : IsFileAnswer told ReadFault read_fault_line
  too_large : IfSome told (λ bytes. IsSomeAnd bytes (λ text. most_bytes < length text))
      → IsFileAnswer told TooLarge too_large_line
  read : {text : List ℕ} {status : Status} {output : List ℕ}
      → IfSome told (λ bytes. bytes ≡ Some text) → length text ≤ most_bytes → IsTextAnswer text status output
      → IsFileAnswer told status output

-- what is told of the file of that name
abbrev pub told_of : Option NamedBytes → List ℕ → Option (Option (List ℕ))
told_of files name = option_map (λ bytes_of. bytes_of name) files

-- the answer to the words
pub data IsAnswer (files : Option NamedBytes) (words : List (List ℕ)) : Status → List ℕ → Type 0 where
  usage : NoVerify words → IsAnswer files words WordsWrong usage_line
  verify : {file : List ℕ} {status : Status} {output : List ℕ}
      → IsVerify words file → IsFileAnswer (told_of files file) status output → IsAnswer files words status output

-- the answer to the words, whose status agrees with what the shelf counted in the call: NoFile exactly where a name was missed,
-- TooLarge exactly where too much was taken, and ReadFault only where a call failed
pub record IsCountedAnswer (files : Option NamedBytes) (words : List (List ℕ)) (Missed TookTooMuch Failed : Type 0)
    (status : Status) (output : List ℕ) : Type 0 where
  pub answer : IsAnswer files words status output
  pub no_file : (status ≡ NoFile) ↔ Missed
  pub too_large : (status ≡ TooLarge) ↔ TookTooMuch
  pub read_fault : status ≡ ReadFault → Failed

-- a text was read under the name that the words give, the one that is told if one is told, and this is its status
pub record ReadsText (files : Option NamedBytes) (words : List (List ℕ)) (status : Status) : Type 0 where
  pub file : List ℕ
  pub form : IsVerify words file
  pub text : List ℕ
  pub told : IfSome (told_of files file) (λ bytes. bytes ≡ Some text)
  pub small : length text ≤ most_bytes
  pub is : IsStatusOf text status

-- the output of an answer of that status was appended, and nothing else
pub record DeliversWhole (P : Status → List ℕ → Type 0) (status : Status) (written written' : Option (List ℕ)) : Type 0 where
  pub output : List ℕ
  pub answer : P status output
  pub appended : IfSome written (λ before. written' ≡ Some (before ++ output))

-- a prefix of the output of some answer was appended, and not all of it
pub record DeliversPart (P : Status → List ℕ → Type 0) (written written' : Option (List ℕ)) : Type 0 where
  pub status : Status
  pub output : List ℕ
  pub answer : P status output
  pub appended : IfSome written (λ before. AppendsPrefix before written' output)

-- how a call ends that has a right answer to write: it wrote the answer; or the writing failed on the way; or memory ran
-- out, and nothing was written
abbrev pub Delivers : (Status → List ℕ → Type 0) → Status → Option (List ℕ) → Option (List ℕ) → Type 0
Delivers P WriteFault written written' = DeliversPart P written written'
Delivers P NoMemory written written' = written' ≡ written
Delivers P status written written' = DeliversWhole P status written written'

-- the status has come, unless the writing failed or memory ran out
abbrev pub OrYields : Status → Status → Type 0
OrYields WriteFault wanted = Unit {0}
OrYields NoMemory wanted = Unit {0}
OrYields status wanted = status ≡ wanted

-- the status comes exactly where the fact holds
pub record ComesExactly (status wanted : Status) (Fact : Type 0) : Type 0 where
  pub only : status ≡ wanted → Fact
  pub always : Fact → OrYields status wanted
