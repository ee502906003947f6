-- A text is read in one way.
use Rattle.std.proofs.Common.{◌≡◌, ◌≢◌, ℕ, List, [], length, Option, Some, None, Result, Ok, Err, IfErr, refl, sym, ap, subst, ◌∙◌, codes, ◌⊎◌, inl, inr}
use Rattle.std.specs.Result.{IsErrAnd}
use Rattle.pv_base.specs.declared.Name.{Name}
use Rattle.pv_ast.specs.declared.Program.{Program}
use Rattle.pv_tokens.specs.declared.Lexeme.{Lexeme}
use Rattle.pv_tokens.specs.declared.Tokens.{Tokens}
use Rattle.pv_tokens.specs.declared.TokenFault.{TokenFault}
use Rattle.pv_tokens.specs.declared.TokenFault.TheVariants as token
use Rattle.pv_tokens.specs.Progress.{IsTokens, IsFault}
use Rattle.pv_tokens.specs.Lexemes.{IsNumberOf}
use Rattle.pv_reading.specs.declared.fault.ParseFault.{ParseFault}
use Rattle.pv_reading.specs.declared.fault.ParseFault.TheVariants as parse
use Rattle.pv_reading.specs.Answers.{ReadsAll, Answers}
use Rattle.pv_reading.specs.Spelled.{most_open, SpellsWithin, IsUnexpected, IsTooDeep}
use Rattle.pv_report.specs.declared.refusing.Refusal.{Refusal}
use Rattle.pv_report.specs.declared.refusing.Refusal.TheVariants as refusal
use Rattle.pv_base.specs.declared.Span.{Span}
use Rattle.pv_parser.specs.Grammar.{IsProgram}
use Rattle.pv_parser.proofs.OneTree.{one_too_deep, unexpected_not_deep}
use Rattle.pv_report.specs.declared.fault.TextFault.{TextFault}
use Rattle.pv_report.specs.declared.fault.TextFault.TheVariants.{Refused, NoMemory}
use Rattle.pv_report.specs.Faults.{OfTokens, OfParsing}
use Rattle.vercors.specs.Refusals.{RefusesProgram, Refuses, IsProgramRefused, IsRefused, bad_byte, bad_number, open_comment, full, unexpected, too_deep, of_program, HasOnly, HasNoRefusal}
use Rattle.vercors.specs.Texts.{HasTokens, SpellsProgram, IsAccepted, SpellsNone}
use Rattle.vercors.proofs.FaultLemmas.{one_unexpected, spelled_not_unexpected, spelled_not_too_deep}
use Rattle.vercors.proofs.ProgramLemmas.{one_refusal, accepted_unrefused}

-- a word has one number
one_number : (names : List (List ℕ)) (word : List ℕ) (xs : List Lexeme) (a b : Option Name) → IsNumberOf names word xs a
    → IsNumberOf names word xs b → a ≡ b
one_number names word xs None None h k = refl
one_number names word xs None (Some n) h k = absurd (h n k.0 k.1)
one_number names word xs (Some m) None h k = absurd (k m h.0 h.1)
one_number names word xs (Some m) (Some n) h k =
    let places : Some m.0 ≡ Some n.0 = sym h.0 ∙ k.0 in
    let numbers : m.0 ≡ n.0 = cc in
    let name_of : ℕ → Option Name = λ k. Some (record { 0 = k }) in
    ap name_of numbers

abbrev pub answered : Tokens → Result Tokens TokenFault
answered found = Ok found

-- no other tokens than these are those of the text
abbrev pub AreOnly : List ℕ → List (List ℕ) → Tokens → List (List ℕ) → Type 0
AreOnly text before found names = (others : List Lexeme) (after : List (List ℕ)) → IsTokens text before others after
    → ((found.items ≡ others) × (names ≡ after)) ⊎ (answered found ≡ Err token.NoMemory)

-- no fault is that of a text with these tokens
abbrev pub AreFaultless : List ℕ → List (List ℕ) → Tokens → Type 0
AreFaultless text before found =
    (x : TokenFault) → IsFault text before x → (answered found ≡ Err x) ⊎ (answered found ≡ Err token.NoMemory)

-- what is known of the tokens that were found
pub record Found (text : List ℕ) (names : List (List ℕ)) (found : Tokens) : Type 0 where
  pub has : HasTokens text names found.items found.length
  pub same : (others : List (List ℕ)) (lexemes : List Lexeme) (length_name : Option Name)
      → HasTokens text others lexemes length_name → (found.items ≡ lexemes) × (found.length ≡ length_name)
  pub faultless : (x : TokenFault) → IsFault text [] x → ⊥
  pub at_end : found.end ≡ length text

-- the text has no other tokens
same_tokens : (text : List ℕ) (before names : List (List ℕ)) (found : Tokens) → before ≡ [] → AreOnly text before found names
    → IsNumberOf names (codes "length") found.items found.length
    → (others : List (List ℕ)) (lexemes : List Lexeme) (length_name : Option Name)
    → HasTokens text others lexemes length_name → (found.items ≡ lexemes) × (found.length ≡ length_name)
same_tokens text before names found e only numbered others lexemes length_name has =
    let read : IsTokens text before lexemes others =
    let At : List (List ℕ) → Type 0 = λ start. IsTokens text start lexemes others in subst At (sym e) has.read in
    let same : (found.items ≡ lexemes) × (names ≡ others) = elim (only lexemes others read) [ inl h ↦ h | inr h ↦ absurd (cc) ] in
    let number_here : IsNumberOf names (codes "length") found.items length_name =
    let P : List (List ℕ) → Type 0 = λ ns. IsNumberOf ns (codes "length") lexemes length_name in
    let Q : List Lexeme → Type 0 = λ xs. IsNumberOf names (codes "length") xs length_name in
    subst Q (sym same.0) (subst P (sym same.1) has.numbered) in
    (same.0, one_number names (codes "length") found.items found.length length_name numbered number_here)

pub found_here : (text : List ℕ) (before names : List (List ℕ)) (found : Tokens) → before ≡ []
    → IsTokens text before found.items names
    → IsNumberOf names (codes "length") found.items found.length → AreOnly text before found names
    → AreFaultless text before found → found.end ≡ length text → Found text names found
found_here text before names found e read numbered only faultless at =
    let At : List (List ℕ) → Type 0 = λ start. IsTokens text start found.items names in
    record {
      has = record { read = subst At e read; numbered = numbered };
      same = same_tokens text before names found e only numbered;
      faultless = λ x f.
          let Has : List (List ℕ) → Type 0 = λ start. IsFault text start x in
          elim (faultless x (subst Has (sym e) f)) [ inl h ↦ absurd (cc) | inr h ↦ absurd (cc) ];
      at_end = at;
    }

-- what the text spells is spelled by its tokens
pub spelled_here : {text : List ℕ} {names : List (List ℕ)} {found : Tokens} → Found text names found
    → (others : List (List ℕ)) (program : Program) → SpellsProgram text others program
    → SpellsWithin (IsProgram found.length) most_open found.items program
spelled_here {found = found} f others program s =
    let same = f.same others s.lexemes s.length_name s.tokens in
    let R : List Lexeme → Type 0 = λ xs. SpellsWithin (IsProgram s.length_name) most_open xs program in
    let T : Option Name → Type 0 = λ n. SpellsWithin (IsProgram n) most_open found.items program in
    subst T (sym same.1) (subst R (sym same.0) s.spelled)

unexpected_here : {text : List ℕ} {names : List (List ℕ)} {found : Tokens} → Found text names found
    → (others : List (List ℕ)) (lexemes : List Lexeme) (length_name : Option Name) (place : Span)
    → HasTokens text others lexemes length_name → IsUnexpected (IsProgram length_name) most_open (length text) lexemes place
    → IsUnexpected (IsProgram found.length) most_open (length text) found.items place
unexpected_here {text = text} {found = found} f others lexemes length_name place has h =
    let same = f.same others lexemes length_name has in
    let R : List Lexeme → Type 0 = λ xs. IsUnexpected (IsProgram length_name) most_open (length text) xs place in
    let T : Option Name → Type 0 = λ n. IsUnexpected (IsProgram n) most_open (length text) found.items place in
    subst T (sym same.1) (subst R (sym same.0) h)

too_deep_here : {text : List ℕ} {names : List (List ℕ)} {found : Tokens} → Found text names found
    → (others : List (List ℕ)) (lexemes : List Lexeme) (length_name : Option Name) (place : Span)
    → HasTokens text others lexemes length_name → IsTooDeep (IsProgram length_name) most_open lexemes place
    → IsTooDeep (IsProgram found.length) most_open found.items place
too_deep_here {found = found} f others lexemes length_name place has h =
    let same = f.same others lexemes length_name has in
    let R : List Lexeme → Type 0 = λ xs. IsTooDeep (IsProgram length_name) most_open xs place in
    let T : Option Name → Type 0 = λ n. IsTooDeep (IsProgram n) most_open found.items place in
    subst T (sym same.1) (subst R (sym same.0) h)

-- Faults of tokens.

abbrev refusal_of : TokenFault → Refusal
refusal_of (token.BadByte at) = refusal.BadByte at
refusal_of (token.BadNumber at) = refusal.BadNumber at
refusal_of (token.OpenComment at) = refusal.OpenComment at
refusal_of token.Full = refusal.Full
refusal_of token.NoMemory = refusal.NotBuilt

abbrev failed : TokenFault → Result Tokens TokenFault
failed e = Err e

-- the text has no tokens
abbrev HasNoTokens : List ℕ → List (List ℕ) → TokenFault → Type 0
HasNoTokens text before e =
    (xs : List Lexeme) (names : List (List ℕ)) → IsTokens text before xs names → ⊥ ⊎ (failed e ≡ Err token.NoMemory)

-- no other fault is that of the text
abbrev IsOnlyFault : List ℕ → List (List ℕ) → TokenFault → Type 0
IsOnlyFault text before e = (x : TokenFault) → IsFault text before x → (failed e ≡ Err x) ⊎ (failed e ≡ Err token.NoMemory)

only_fault : (text : List ℕ) (before : List (List ℕ)) (e : TokenFault) → before ≡ [] → e ≢ token.NoMemory
    → HasNoTokens text before e → IsOnlyFault text before e → HasOnly text (refusal_of e)
only_fault text before e none filled untold only other refused = by other refused
  where
    same : (x : TokenFault) → IsFault text [] x → refusal_of e ≡ refusal_of x
    same x f =
        let Has : List (List ℕ) → Type 0 = λ start. IsFault text start x in
        let P : TokenFault → Type 0 = λ y. refusal_of e ≡ refusal_of y in
        elim (only x (subst Has (sym none) f)) [
          | inl h ↦ (let k : e ≡ x = cc in subst P k refl)
          | inr h ↦ absurd (filled (cc))
        ]

    no_tokens : {names : List (List ℕ)} {lexemes : List Lexeme} {length_name : Option Name}
        → HasTokens text names lexemes length_name → ⊥
    no_tokens {names = names} {lexemes = lexemes} has =
        let At : List (List ℕ) → Type 0 = λ start. IsTokens text start lexemes names in
        elim (untold lexemes names (subst At (sym none) has.read)) [ inl h ↦ h | inr h ↦ absurd (filled (cc)) ]

    by : (other : Refusal) → IsRefused text other → refusal_of e ≡ other
    by _ (bad_byte {at} f) = same (token.BadByte at) f
    by _ (bad_number {at} f) = same (token.BadNumber at) f
    by _ (open_comment {at} f) = same (token.OpenComment at) f
    by _ (full f) = same token.Full f
    by _ (unexpected has h) = absurd (no_tokens has)
    by _ (too_deep has h) = absurd (no_tokens has)
    by _ (of_program spells h) = absurd (no_tokens spells.tokens)

-- a text with a fault is refused for it
pub refused_by_tokens : (text : List ℕ) (before : List (List ℕ)) (e : TokenFault) (r : Result Program TextFault) → before ≡ []
    → (e ≢ token.NoMemory → IsFault text before e)
    → HasNoTokens text before e → IsOnlyFault text before e → IsErrAnd r (OfTokens e) → IfErr r (λ fault. Refuses text fault)
refused_by_tokens text before e (Ok p) none h untold only k = tt
refused_by_tokens text before e (Err f) none h untold only k =
    let Has : List (List ℕ) → Type 0 = λ start. IsFault text start e in
    by e f (λ n. subst Has none (h n)) (λ n. only_fault text before e none n untold only) k
  where
    by : (e : TokenFault) (f : TextFault) → (e ≢ token.NoMemory → IsFault text [] e)
        → (e ≢ token.NoMemory → HasOnly text (refusal_of e)) → OfTokens e f → Refuses text f
    by (token.BadByte at) f here one k =
        let n : token.BadByte at ≢ token.NoMemory = λ q. absurd (cc) in
        subst (λ (x : TextFault). Refuses text x) (sym k) (bad_byte (here n), one n)
    by (token.BadNumber at) f here one k =
        let n : token.BadNumber at ≢ token.NoMemory = λ q. absurd (cc) in
        subst (λ (x : TextFault). Refuses text x) (sym k) (bad_number (here n), one n)
    by (token.OpenComment at) f here one k =
        let n : token.OpenComment at ≢ token.NoMemory = λ q. absurd (cc) in
        subst (λ (x : TextFault). Refuses text x) (sym k) (open_comment (here n), one n)
    by token.Full f here one k =
        let n : token.Full ≢ token.NoMemory = λ q. absurd (cc) in
        subst (λ (x : TextFault). Refuses text x) (sym k) (full (here n), one n)
    by token.NoMemory f here one k = subst (λ (x : TextFault). Refuses text x) (sym k) tt

-- Faults of the grammar.

-- no other fault of the text than this
only_unexpected : {text : List ℕ} {names : List (List ℕ)} {found : Tokens} → Found text names found → (place : Span)
    → ((others : List (List ℕ)) (p : Program) → SpellsProgram text others p → ⊥)
    → IsUnexpected (IsProgram found.length) most_open (length text) found.items place → HasOnly text (refusal.Unexpected place)
only_unexpected f place none h _ (bad_byte x) = absurd (f.faultless _ x)
only_unexpected f place none h _ (bad_number x) = absurd (f.faultless _ x)
only_unexpected f place none h _ (open_comment x) = absurd (f.faultless _ x)
only_unexpected f place none h _ (full x) = absurd (f.faultless _ x)
only_unexpected {text = text} {found = found} f place none h _
    (unexpected {names} {lexemes} {length_name} {place = other} has k) =
    ap (λ (s : Span). refusal.Unexpected s) (one_unexpected (IsProgram found.length) most_open (length text) found.items place
    other h
    (unexpected_here f names lexemes length_name other has k))
only_unexpected {text = text} {found = found} f place none h _ (too_deep {names} {lexemes} {length_name} {place = other} has k) =
    absurd (unexpected_not_deep found.length found.items (length text) place other h
    (too_deep_here f names lexemes length_name other has k))
only_unexpected f place none h _ (of_program {names} {program} spells k) = absurd (none names program spells)

only_too_deep : {text : List ℕ} {names : List (List ℕ)} {found : Tokens} → Found text names found → (place : Span)
    → ((others : List (List ℕ)) (p : Program) → SpellsProgram text others p → ⊥)
    → IsTooDeep (IsProgram found.length) most_open found.items place → HasOnly text (refusal.TooDeep place)
only_too_deep f place none h _ (bad_byte x) = absurd (f.faultless _ x)
only_too_deep f place none h _ (bad_number x) = absurd (f.faultless _ x)
only_too_deep f place none h _ (open_comment x) = absurd (f.faultless _ x)
only_too_deep f place none h _ (full x) = absurd (f.faultless _ x)
only_too_deep {text = text} {found = found} f place none h _ (unexpected {names} {lexemes} {length_name} {place = other} has k) =
    absurd (unexpected_not_deep found.length found.items (length text) other place
    (unexpected_here f names lexemes length_name other has k) h)
only_too_deep {found = found} f place none h _ (too_deep {names} {lexemes} {length_name} {place = other} has k) =
    ap (λ (s : Span). refusal.TooDeep s) (one_too_deep found.length found.items place other h
    (too_deep_here f names lexemes length_name other has k))
only_too_deep f place none h _ (of_program {names} {program} spells k) = absurd (none names program spells)

-- tokens that spell no program are refused for it
pub refused_by_grammar : (text : List ℕ) (names : List (List ℕ)) (found : Tokens) (e : ParseFault) (r : Result Program TextFault)
    → Found text names found
    → ReadsAll (IsProgram found.length) most_open found.end found.items (Err e)
    → ((others : List (List ℕ)) (p : Program) → SpellsProgram text others p → Answers (Err e) p)
    → IsErrAnd r (OfParsing e) → IfErr r (λ fault. Refuses text fault)
refused_by_grammar text names found e (Ok p) f h none k = tt
refused_by_grammar text names found (parse.Unexpected place) (Err x) f h none k =
    let P : ℕ → Type 0 = λ n. IsUnexpected (IsProgram found.length) most_open n found.items place in
    let here : IsUnexpected (IsProgram found.length) most_open (length text) found.items place = subst P f.at_end h in
    subst (λ (y : TextFault). Refuses text y) (sym k) (unexpected f.has here, only_unexpected f place none here)
refused_by_grammar text names found (parse.TooDeep place) (Err x) f h none k =
    subst (λ (y : TextFault). Refuses text y) (sym k) (too_deep f.has h, only_too_deep f place none h)
refused_by_grammar text names found parse.NoMemory (Err x) f h none k =
    subst (λ (y : TextFault). Refuses text y) (sym k) tt

-- where the grammar refused the tokens, the text spells nothing
pub none_by_grammar : (text : List ℕ) (e : ParseFault) (r : Result Program TextFault)
    → ((names : List (List ℕ)) (p : Program) → SpellsProgram text names p → Answers (Err e) p)
    → IsErrAnd r (OfParsing e) → IfErr r (λ fault. fault ≢ NoMemory → SpellsNone text)
none_by_grammar text e (Ok q) a k = tt
none_by_grammar text (parse.Unexpected place) (Err f) a k = λ filled names p spells. a names p spells.spells
none_by_grammar text (parse.TooDeep place) (Err f) a k = λ filled names p spells. a names p spells.spells
none_by_grammar text parse.NoMemory (Err f) a k = λ filled. absurd (filled k)

-- Programs.

program_here : {text : List ℕ} {names : List (List ℕ)} {found : Tokens} → Found text names found → (p : Program)
    → SpellsWithin (IsProgram found.length) most_open found.items p → SpellsProgram text names p
program_here {found = found} f p s = record { lexemes = found.items; length_name = found.length; tokens = f.has; spelled = s }

-- no other program than this is spelled
abbrev pub IsOnly : List ℕ → Program → Type 0
IsOnly text p = (others : List (List ℕ)) (q : Program) → SpellsProgram text others q → p ≡ q

-- a text that spells a program is refused for nothing but what the program is refused for
refusal_of_program : {text : List ℕ} {names : List (List ℕ)} {found : Tokens} → Found text names found → (p : Program)
    → SpellsWithin (IsProgram found.length) most_open found.items p → IsOnly text p
    → (r : Refusal) → IsRefused text r → IsProgramRefused p r
refusal_of_program f p s one _ (bad_byte x) = absurd (f.faultless _ x)
refusal_of_program f p s one _ (bad_number x) = absurd (f.faultless _ x)
refusal_of_program f p s one _ (open_comment x) = absurd (f.faultless _ x)
refusal_of_program f p s one _ (full x) = absurd (f.faultless _ x)
refusal_of_program {text = text} {found = found} f p s one _ (unexpected {names} {lexemes} {length_name} {place} has k) =
    absurd (spelled_not_unexpected (IsProgram found.length) most_open (length text) found.items p place s
    (unexpected_here f names lexemes length_name place has k))
refusal_of_program {found = found} f p s one _ (too_deep {names} {lexemes} {length_name} {place} has k) =
    absurd (spelled_not_too_deep (IsProgram found.length) most_open found.items p place s
    (too_deep_here f names lexemes length_name place has k))
refusal_of_program f p s one _ (of_program {names} {program} {refusal = r} spells k) =
    let P : Program → Type 0 = λ q. IsProgramRefused q r in subst P (sym (one names program spells)) k

-- a text that spells an accepted program has no refusal
pub no_refusal : {text : List ℕ} {names : List (List ℕ)} {found : Tokens} → Found text names found → (p : Program)
    → SpellsWithin (IsProgram found.length) most_open found.items p → IsOnly text p
    → IsAccepted p → HasNoRefusal text
no_refusal f p s one accepted r refused = accepted_unrefused p r accepted (refusal_of_program f p s one r refused)

-- a text that spells a refused program is refused for the same, and for nothing else
refused_text : {text : List ℕ} {names : List (List ℕ)} {found : Tokens} → Found text names found → (p : Program)
    → SpellsWithin (IsProgram found.length) most_open found.items p → IsOnly text p
    → (fault : TextFault) → RefusesProgram p fault → Refuses text fault
refused_text f p s one (Refused r) h =
    (of_program (program_here f p s) h, λ other k. one_refusal p r other h (refusal_of_program f p s one other k))
refused_text f p s one NoMemory h = tt

-- the same of the answer that carries the fault on
pub refused_by_program : {text : List ℕ} {names : List (List ℕ)} {found : Tokens} → Found text names found → (p : Program)
    → SpellsWithin (IsProgram found.length) most_open found.items p → IsOnly text p
    → (e : TextFault) (r : Result Program TextFault) → RefusesProgram p e → IsErrAnd r (λ x. x ≡ e)
    → IfErr r (λ fault. Refuses text fault)
refused_by_program f p s one e (Ok q) h k = tt
refused_by_program {text = text} f p s one e (Err x) h k =
    subst (λ (y : TextFault). Refuses text y) (sym k) (refused_text f p s one e h)

-- a text that spells a refused program spells no accepted one
none_of_program : (text : List ℕ) (p : Program) → IsOnly text p → (fault : TextFault) → RefusesProgram p fault → fault ≢ NoMemory
    → SpellsNone text
none_of_program text p one (Refused r) h filled = λ names q spells.
    let P : Program → Type 0 = λ x. IsProgramRefused x r in
    accepted_unrefused q r spells.accepted (subst P (one names q spells.spells) h)
none_of_program text p one NoMemory h filled = absurd (filled refl)

-- the same of the answer that carries the fault on
pub none_by_program : (text : List ℕ) (p : Program) → IsOnly text p → (e : TextFault) (r : Result Program TextFault)
    → RefusesProgram p e → IsErrAnd r (λ x. x ≡ e)
    → IfErr r (λ fault. fault ≢ NoMemory → SpellsNone text)
none_by_program text p one e (Ok q) h k = tt
none_by_program text p one e (Err x) h k =
    subst (λ (y : TextFault). y ≢ NoMemory → SpellsNone text) (sym k) (none_of_program text p one e h)
