-- Texts are their tokens, piece by piece.
use Rattle.std.proofs.Common.{refl, []}
use Rattle.std.specs.Prelude.{codes}
use Rattle.pv_tokens.specs.declared.fixed.TheConstants.{STAR_STAR, EQUAL, OPEN_BRACE, CLOSE_BRACE, OPEN_PAREN, CLOSE_PAREN, SEMICOLON, COMMA, ASSIGN, PLUS}
use Rattle.pv_tokens.specs.Bytes.{class_of}
use Rattle.pv_tokens.specs.Pieces.{space, reserved_word, other_word, number, old_word, backslash_alone, symbol}
use Rattle.pv_tokens.specs.Progress as step
use Rattle.worked_texts.specs.TokensObjects as objects
use Rattle.worked_texts.specs.TokensThreads as threads
use Rattle.worked_texts.specs.Bytes as bytes
use Rattle.worked_texts.proofs.Longest.{sign, longest, small_number, not_full}

unheld_invariant_tokens : step.IsTokens bytes.unheld_invariant [] threads.unheld_invariant bytes.unheld_invariant_names
unfolding class_of
unheld_invariant_tokens =
    step.next (step.fixed (reserved_word refl refl)) (step.next (step.blank (space refl)) (
    step.next (step.name (other_word refl refl) (not_full _ _ refl)) (step.next (step.blank (space refl)) (
    step.next (step.fixed (symbol {text = codes "=="} {k = sign EQUAL} refl
    (longest _ (sign EQUAL) (codes "==") refl refl refl))) (step.next (step.blank (space refl)) (
    step.next (step.number (number refl) (small_number _ refl)) (
    step.next (step.fixed (symbol {text = codes ";"} {k = sign SEMICOLON} refl
    (longest _ (sign SEMICOLON) (codes ";") refl refl refl))) (step.next (step.blank (space refl)) (
    step.next (step.fixed (reserved_word refl refl)) (step.next (step.blank (space refl)) (
    step.next (step.name (other_word refl refl) (not_full _ _ refl)) (step.next (step.blank (space refl)) (
    step.next (step.fixed (symbol {text = codes "{"} {k = sign OPEN_BRACE} refl
    (longest _ (sign OPEN_BRACE) (codes "{") refl refl refl))) (step.next (step.blank (space refl)) (
    step.next (step.fixed (reserved_word refl refl)) (step.next (step.blank (space refl)) (
    step.next (step.name (other_word refl refl) (not_full _ _ refl)) (
    step.next (step.fixed (symbol {text = codes ";"} {k = sign SEMICOLON} refl
    (longest _ (sign SEMICOLON) (codes ";") refl refl refl))) (step.next (step.blank (space refl)) (
    step.next (step.fixed (symbol {text = codes "}"} {k = sign CLOSE_BRACE} refl
    (longest _ (sign CLOSE_BRACE) (codes "}") refl refl refl))) (step.here)))))))))))))))))))))

half_tokens : step.IsTokens bytes.half [] objects.half bytes.half_names
unfolding class_of
half_tokens =
    step.next (step.fixed (reserved_word refl refl)) (step.next (step.blank (space refl)) (
    step.next (step.name (other_word refl refl) (not_full _ _ refl)) (step.next (step.blank (space refl)) (
    step.next (step.fixed (symbol {text = codes "{"} {k = sign OPEN_BRACE} refl
    (longest _ (sign OPEN_BRACE) (codes "{") refl refl refl))) (step.next (step.blank (space refl)) (
    step.next (step.blank (space refl)) (step.next (step.blank (space refl)) (step.next (step.fixed (reserved_word refl refl)) (
    step.next (step.blank (space refl)) (step.next (step.name (other_word refl refl) (not_full _ _ refl)) (
    step.next (step.fixed (symbol {text = codes ";"} {k = sign SEMICOLON} refl
    (longest _ (sign SEMICOLON) (codes ";") refl refl refl))) (step.next (step.blank (space refl)) (
    step.next (step.blank (space refl)) (step.next (step.blank (space refl)) (step.next (step.fixed (reserved_word refl refl)) (
    step.next (step.blank (space refl)) (step.next (step.fixed (reserved_word refl refl)) (
    step.next (step.fixed (symbol {text = codes "("} {k = sign OPEN_PAREN} refl
    (longest _ (sign OPEN_PAREN) (codes "(") refl refl refl))) (
    step.next (step.name (other_word refl refl) (not_full _ _ refl)) (
    step.next (step.fixed (symbol {text = codes ","} {k = sign COMMA} refl (longest _ (sign COMMA) (codes ",") refl refl refl))) (
    step.next (step.blank (space refl)) (step.next (step.number (number refl) (small_number _ refl)) (
    step.next (step.fixed (backslash_alone (record { no_result = refl; no_old = refl; no_forall = refl }))) (
    step.next (step.number (number refl) (small_number _ refl)) (
    step.next (step.fixed (symbol {text = codes ")"} {k = sign CLOSE_PAREN} refl
    (longest _ (sign CLOSE_PAREN) (codes ")") refl refl refl))) (
    step.next (step.fixed (symbol {text = codes ";"} {k = sign SEMICOLON} refl
    (longest _ (sign SEMICOLON) (codes ";") refl refl refl))) (step.next (step.blank (space refl)) (
    step.next (step.blank (space refl)) (step.next (step.blank (space refl)) (step.next (step.fixed (reserved_word refl refl)) (
    step.next (step.blank (space refl)) (step.next (step.name (other_word refl refl) (not_full _ _ refl)) (
    step.next (step.fixed (symbol {text = codes "("} {k = sign OPEN_PAREN} refl
    (longest _ (sign OPEN_PAREN) (codes "(") refl refl refl))) (
    step.next (step.fixed (symbol {text = codes ")"} {k = sign CLOSE_PAREN} refl
    (longest _ (sign CLOSE_PAREN) (codes ")") refl refl refl))) (step.next (step.blank (space refl)) (
    step.next (step.fixed (symbol {text = codes "{"} {k = sign OPEN_BRACE} refl
    (longest _ (sign OPEN_BRACE) (codes "{") refl refl refl))) (step.next (step.blank (space refl)) (
    step.next (step.blank (space refl)) (step.next (step.blank (space refl)) (step.next (step.blank (space refl)) (
    step.next (step.blank (space refl)) (step.next (step.name (other_word refl refl) (not_full _ _ refl)) (
    step.next (step.blank (space refl)) (
    step.next (step.fixed (symbol {text = codes "="} {k = sign ASSIGN} refl
    (longest _ (sign ASSIGN) (codes "=") refl refl refl))) (step.next (step.blank (space refl)) (
    step.next (step.number (number refl) (small_number _ refl)) (
    step.next (step.fixed (symbol {text = codes ";"} {k = sign SEMICOLON} refl
    (longest _ (sign SEMICOLON) (codes ";") refl refl refl))) (step.next (step.blank (space refl)) (
    step.next (step.blank (space refl)) (step.next (step.blank (space refl)) (
    step.next (step.fixed (symbol {text = codes "}"} {k = sign CLOSE_BRACE} refl
    (longest _ (sign CLOSE_BRACE) (codes "}") refl refl refl))) (step.next (step.blank (space refl)) (
    step.next (step.fixed (symbol {text = codes "}"} {k = sign CLOSE_BRACE} refl
    (longest _ (sign CLOSE_BRACE) (codes "}") refl refl refl))) (
    step.next (step.blank (space refl)) (step.here)))))))))))))))))))))))))))))))))))))))))))))))))))))))

counter_tokens : step.IsTokens bytes.counter [] objects.counter bytes.counter_names
unfolding class_of
counter_tokens =
    step.next (step.fixed (reserved_word refl refl)) (step.next (step.blank (space refl)) (
    step.next (step.name (other_word refl refl) (not_full _ _ refl)) (step.next (step.blank (space refl)) (
    step.next (step.fixed (symbol {text = codes "{"} {k = sign OPEN_BRACE} refl
    (longest _ (sign OPEN_BRACE) (codes "{") refl refl refl))) (step.next (step.blank (space refl)) (
    step.next (step.blank (space refl)) (step.next (step.blank (space refl)) (step.next (step.fixed (reserved_word refl refl)) (
    step.next (step.blank (space refl)) (step.next (step.name (other_word refl refl) (not_full _ _ refl)) (
    step.next (step.fixed (symbol {text = codes ";"} {k = sign SEMICOLON} refl
    (longest _ (sign SEMICOLON) (codes ";") refl refl refl))) (step.next (step.blank (space refl)) (
    step.next (step.blank (space refl)) (step.next (step.blank (space refl)) (step.next (step.fixed (reserved_word refl refl)) (
    step.next (step.blank (space refl)) (step.next (step.fixed (reserved_word refl refl)) (
    step.next (step.fixed (symbol {text = codes "("} {k = sign OPEN_PAREN} refl
    (longest _ (sign OPEN_PAREN) (codes "(") refl refl refl))) (
    step.next (step.name (other_word refl refl) (not_full _ _ refl)) (
    step.next (step.fixed (symbol {text = codes ","} {k = sign COMMA} refl (longest _ (sign COMMA) (codes ",") refl refl refl))) (
    step.next (step.blank (space refl)) (step.next (step.fixed (reserved_word refl refl)) (
    step.next (step.fixed (symbol {text = codes ")"} {k = sign CLOSE_PAREN} refl
    (longest _ (sign CLOSE_PAREN) (codes ")") refl refl refl))) (
    step.next (step.fixed (symbol {text = codes ";"} {k = sign SEMICOLON} refl
    (longest _ (sign SEMICOLON) (codes ";") refl refl refl))) (step.next (step.blank (space refl)) (
    step.next (step.blank (space refl)) (step.next (step.blank (space refl)) (step.next (step.fixed (reserved_word refl refl)) (
    step.next (step.blank (space refl)) (step.next (step.fixed (reserved_word refl refl)) (
    step.next (step.fixed (symbol {text = codes "("} {k = sign OPEN_PAREN} refl
    (longest _ (sign OPEN_PAREN) (codes "(") refl refl refl))) (
    step.next (step.name (other_word refl refl) (not_full _ _ refl)) (
    step.next (step.fixed (symbol {text = codes ","} {k = sign COMMA} refl (longest _ (sign COMMA) (codes ",") refl refl refl))) (
    step.next (step.blank (space refl)) (step.next (step.fixed (reserved_word refl refl)) (
    step.next (step.fixed (symbol {text = codes ")"} {k = sign CLOSE_PAREN} refl
    (longest _ (sign CLOSE_PAREN) (codes ")") refl refl refl))) (step.next (step.blank (space refl)) (
    step.next (step.fixed (symbol {text = codes "**"} {k = sign STAR_STAR} refl
    (longest _ (sign STAR_STAR) (codes "**") refl refl refl))) (step.next (step.blank (space refl)) (
    step.next (step.name (other_word refl refl) (not_full _ _ refl)) (step.next (step.blank (space refl)) (
    step.next (step.fixed (symbol {text = codes "=="} {k = sign EQUAL} refl
    (longest _ (sign EQUAL) (codes "==") refl refl refl))) (step.next (step.blank (space refl)) (
    step.next (step.fixed (old_word refl)) (
    step.next (step.fixed (symbol {text = codes "("} {k = sign OPEN_PAREN} refl
    (longest _ (sign OPEN_PAREN) (codes "(") refl refl refl))) (
    step.next (step.name (other_word refl refl) (not_full _ _ refl)) (
    step.next (step.fixed (symbol {text = codes ")"} {k = sign CLOSE_PAREN} refl
    (longest _ (sign CLOSE_PAREN) (codes ")") refl refl refl))) (step.next (step.blank (space refl)) (
    step.next (step.fixed (symbol {text = codes "+"} {k = sign PLUS} refl (longest _ (sign PLUS) (codes "+") refl refl refl))) (
    step.next (step.blank (space refl)) (step.next (step.number (number refl) (small_number _ refl)) (
    step.next (step.fixed (symbol {text = codes ";"} {k = sign SEMICOLON} refl
    (longest _ (sign SEMICOLON) (codes ";") refl refl refl))) (step.next (step.blank (space refl)) (
    step.next (step.blank (space refl)) (step.next (step.blank (space refl)) (step.next (step.fixed (reserved_word refl refl)) (
    step.next (step.blank (space refl)) (step.next (step.name (other_word refl refl) (not_full _ _ refl)) (
    step.next (step.fixed (symbol {text = codes "("} {k = sign OPEN_PAREN} refl
    (longest _ (sign OPEN_PAREN) (codes "(") refl refl refl))) (
    step.next (step.fixed (symbol {text = codes ")"} {k = sign CLOSE_PAREN} refl
    (longest _ (sign CLOSE_PAREN) (codes ")") refl refl refl))) (step.next (step.blank (space refl)) (
    step.next (step.fixed (symbol {text = codes "{"} {k = sign OPEN_BRACE} refl
    (longest _ (sign OPEN_BRACE) (codes "{") refl refl refl))) (step.next (step.blank (space refl)) (
    step.next (step.blank (space refl)) (step.next (step.blank (space refl)) (step.next (step.blank (space refl)) (
    step.next (step.blank (space refl)) (step.next (step.name (other_word refl refl) (not_full _ _ refl)) (
    step.next (step.blank (space refl)) (
    step.next (step.fixed (symbol {text = codes "="} {k = sign ASSIGN} refl
    (longest _ (sign ASSIGN) (codes "=") refl refl refl))) (step.next (step.blank (space refl)) (
    step.next (step.name (other_word refl refl) (not_full _ _ refl)) (step.next (step.blank (space refl)) (
    step.next (step.fixed (symbol {text = codes "+"} {k = sign PLUS} refl (longest _ (sign PLUS) (codes "+") refl refl refl))) (
    step.next (step.blank (space refl)) (step.next (step.number (number refl) (small_number _ refl)) (
    step.next (step.fixed (symbol {text = codes ";"} {k = sign SEMICOLON} refl
    (longest _ (sign SEMICOLON) (codes ";") refl refl refl))) (step.next (step.blank (space refl)) (
    step.next (step.blank (space refl)) (step.next (step.blank (space refl)) (
    step.next (step.fixed (symbol {text = codes "}"} {k = sign CLOSE_BRACE} refl
    (longest _ (sign CLOSE_BRACE) (codes "}") refl refl refl))) (step.next (step.blank (space refl)) (
    step.next (step.fixed (symbol {text = codes "}"} {k = sign CLOSE_BRACE} refl
    (longest _ (sign CLOSE_BRACE) (codes "}") refl refl refl))) (
    step.next (step.blank (space refl))
    (step.here)))))))))))))))))))))))))))))))))))))))))))))))))))))))))))))))))))))))))))))))))))))

pub texts_are_tokens : bytes.TextsAreTokens
texts_are_tokens = (unheld_invariant_tokens, half_tokens, counter_tokens)
