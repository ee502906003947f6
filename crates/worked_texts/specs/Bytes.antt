-- The bytes of worked texts, and the names in them.
use Rattle.std.specs.Prelude.{ℕ, List, [], ◌∷◌, ◌++◌, codes}
use Rattle.pv_tokens.specs.Progress.{IsTokens}
use Rattle.worked_texts.specs.TokensObjects as objects
use Rattle.worked_texts.specs.TokensThreads as threads

-- a line and its line feed
abbrev pub line : List ℕ → List ℕ
line text = text ++ 10 ∷ []

abbrev pub unheld_invariant : List ℕ
unheld_invariant =
    line (codes "lock_invariant x == 0;")
    ++ codes "class L { int x; }"

abbrev pub unheld_invariant_names : List (List ℕ)
unheld_invariant_names = codes "x" ∷ codes "L" ∷ []

abbrev pub half : List ℕ
half =
    line (codes "class Half {")
    ++ line (codes "  int x;")
    ++ line (codes "  requires Perm(x, 1\\2);")
    ++ line (codes "  void set() {")
    ++ line (codes "    x = 1;")
    ++ line (codes "  }")
    ++ line (codes "}")

abbrev pub half_names : List (List ℕ)
half_names = codes "Half" ∷ codes "x" ∷ codes "set" ∷ []

abbrev pub counter : List ℕ
counter =
    line (codes "class Counter {")
    ++ line (codes "  int x;")
    ++ line (codes "  requires Perm(x, write);")
    ++ line (codes "  ensures Perm(x, write) ** x == \\old(x) + 1;")
    ++ line (codes "  void incr() {")
    ++ line (codes "    x = x + 1;")
    ++ line (codes "  }")
    ++ line (codes "}")

abbrev pub counter_names : List (List ℕ)
counter_names = codes "Counter" ∷ codes "x" ∷ codes "incr" ∷ []

-- each text is the tokens of its program
abbrev pub TextsAreTokens : Type 0
TextsAreTokens =
    (IsTokens unheld_invariant [] threads.unheld_invariant unheld_invariant_names)
    × (IsTokens half [] objects.half half_names)
    × (IsTokens counter [] objects.counter counter_names)
