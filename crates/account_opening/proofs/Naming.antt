-- The messages of a block by their labels: in a well formed body a label stands for one message, and the body of a par block has
-- none.
use Rattle.std.proofs.Common.{◌≡◌, inl, inr, Bool, true, false, ◌||◌, if◌then◌else◌, List, [], ◌∷◌, ◌++◌, refl, ap, sym, subst, ◌∙◌, arith}
use Rattle.std.specs.Prelude.{map}
use Rattle.std.specs.List.{AllByRecursion, list_any}
use Rattle.std.proofs.lemmas.Bool.Decides.{nat_tests}
use Rattle.pv_base.specs.declared.Name.{Name}
use Rattle.pv_base.specs.Names.{same_name}
use Rattle.pv_picks.specs.Plain.Core.{Message, Statement, Assign, If, While, Members, Meet, Act, Fold, Unfold, Assert, Send, Receive, Return, Block, Stop, Then}
use Rattle.pv_picks.specs.Machine.Starts.{true_formula}
use Rattle.core_trees.specs.Messages.{sent_by, sent_in_block, received_by, received_in_block, IsAmong, Matches}
use Rattle.core_trees.specs.Placing.{InBlock, InLoop, environment_members, PlacedStatement, PlacedBlock}
use Rattle.account_formulas.proofs.Basics.{nat_self}
use Rattle.core_trees.specs.Formulas.{LabelsDiffer, OnceEach}
use Rattle.account.specs.Messages.{StatementExchanges, BlockExchanges, IsKnown}

-- a message that stands for none
abbrev no_message : Name → Message
no_message label = record { label = label; distance = 0; formula = true_formula }

-- the first message with a label
abbrev pub with_label : List Message → Name → Message
with_label [] label = no_message label
with_label (m ∷ ms) label = if same_name label m.label then m else with_label ms label

or_false : (a b : Bool) → (a || b) ≡ false → (a ≡ false) × (b ≡ false)
or_false true b e = absurd (cc e)
or_false false b e = (refl, e)

-- another message has another label
apart : (x m : Message) (ms : List Message) → list_any (same_name x.label) (map (λ n. n.label) ms) ≡ false → IsAmong m ms
    → same_name x.label m.label ≡ false
apart x m [] none among = absurd among
apart x m (n ∷ ns) none (inl e) =
    ap (λ z. same_name x.label z.label) e
    ∙ (or_false (same_name x.label n.label) (list_any (same_name x.label) (map (λ n. n.label) ns)) none).0
apart x m (n ∷ ns) none (inr k) =
    apart x m ns (or_false (same_name x.label n.label) (list_any (same_name x.label) (map (λ n. n.label) ns)) none).1 k

turned : (a b : Name) → same_name a b ≡ false → same_name b a ≡ false
turned a b e = grind (arith, nat_tests)

-- where labels differ each message is found by its own
pub found : (ms : List Message) → LabelsDiffer ms → (m : Message) → IsAmong m ms → with_label ms m.label ≡ m
found [] differ m among = absurd among
found (x ∷ xs) differ m (inl e) =
    subst (λ z. (if same_name z.label x.label then x else with_label xs z.label) ≡ z) (sym e)
    (ap (λ b. if b then x else with_label xs x.label) (nat_self x.label.0))
found (x ∷ xs) differ m (inr k) =
    ap (λ b. if b then x else with_label xs m.label) (turned x.label m.label (apart x m xs differ.0 k))
    ∙ found xs differ.1 m k

all_front : {A : Type 0} (P : A → Type 0) (xs ys : List A) → AllByRecursion P (xs ++ ys) → AllByRecursion P xs
all_front P [] ys all = tt
all_front P (x ∷ xs) ys all = (all.0, all_front P xs ys all.1)

all_back : {A : Type 0} (P : A → Type 0) (xs ys : List A) → AllByRecursion P (xs ++ ys) → AllByRecursion P ys
all_back P [] ys all = all
all_back P (x ∷ xs) ys all = all_back P xs ys all.1

module _ (P Q : Message → Type 0) where
  -- what holds of all messages that are sent, and of all that are received
  mutual
    by_statement : (s : Statement) → AllByRecursion P (sent_by s) → AllByRecursion Q (received_by s) → StatementExchanges P Q s
    by_statement (Assign target right span) a b = tt
    by_statement (If e one two) a b = (
      by_block one (all_front P (sent_in_block one) (sent_in_block two) a)
          (all_front Q (received_in_block one) (received_in_block two) b),
      by_block two (all_back P (sent_in_block one) (sent_in_block two) a)
          (all_back Q (received_in_block one) (received_in_block two) b),
    )
    by_statement (While assigned invariant e body span) a b = by_block body a b
    by_statement (Members team body span) a b = tt
    by_statement (Meet barrier span) a b = tt
    by_statement (Act action class e span) a b = tt
    by_statement (Fold class predicate e es span) a b = tt
    by_statement (Unfold class predicate e es span) a b = tt
    by_statement (Assert f span) a b = tt
    by_statement (Send m span) a b = a.0
    by_statement (Receive m span) a b = b.0
    by_statement (Return e span) a b = tt

    by_block : (body : Block) → AllByRecursion P (sent_in_block body) → AllByRecursion Q (received_in_block body)
        → BlockExchanges P Q body
    by_block Stop a b = tt
    by_block (Then s rest) a b = (
      by_statement s (all_front P (sent_by s) (sent_in_block rest) a)
          (all_front Q (received_by s) (received_in_block rest) b),
      by_block rest (all_back P (sent_by s) (sent_in_block rest) a)
          (all_back Q (received_by s) (received_in_block rest) b),
    )

  -- in the body of a par block stands no message
  mutual
    none_in_statement : (s : Statement) → PlacedStatement InBlock s → StatementExchanges P Q s
    none_in_statement (Assign target right span) placed = tt
    none_in_statement (If e one two) placed = (none_in_block one placed.0, none_in_block two placed.1)
    none_in_statement (While assigned invariant e body span) placed = none_in_block body placed
    none_in_statement (Members team body span) placed = tt
    none_in_statement (Meet barrier span) placed = tt
    none_in_statement (Act action class e span) placed = tt
    none_in_statement (Fold class predicate e es span) placed = tt
    none_in_statement (Unfold class predicate e es span) placed = tt
    none_in_statement (Assert f span) placed = tt
    none_in_statement (Send m span) placed = let e : InBlock ≡ InLoop = placed.0 in absurd (cc e)
    none_in_statement (Receive m span) placed = let e : InBlock ≡ InLoop = placed in absurd (cc e)
    none_in_statement (Return e span) placed = tt

    none_in_block : (body : Block) → PlacedBlock InBlock body → BlockExchanges P Q body
    none_in_block Stop placed = tt
    none_in_block (Then s rest) placed = (none_in_statement s placed.0, none_in_block rest placed.1)

all_found : (ms : List Message) → LabelsDiffer ms → (ns : List Message) → AllByRecursion (λ m. IsAmong m ms) ns
    → AllByRecursion (IsKnown (with_label ms)) ns
all_found ms differ [] among = tt
all_found ms differ (n ∷ ns) among = (found ms differ n among.0, all_found ms differ ns among.1)

all_among : (ms ns : List Message) → ((m : Message) → IsAmong m ns → IsAmong m ms) → AllByRecursion (λ m. IsAmong m ms) ns
all_among ms [] into = tt
all_among ms (n ∷ ns) into = (into n (inl refl), all_among ms ns (λ m k. into m (inr k)))

-- each label of a body stands for one message
pub known_in : (counted : Bool) (body : Block) → OnceEach counted body → Matches counted body
    → PlacedBlock (environment_members counted) body
    → BlockExchanges (IsKnown (with_label (sent_in_block body))) (IsKnown (with_label (sent_in_block body))) body
known_in true body once matched placed =
    by_block (IsKnown (with_label (sent_in_block body))) (IsKnown (with_label (sent_in_block body))) body
    (all_found (sent_in_block body) (once refl).0 (sent_in_block body)
    (all_among (sent_in_block body) (sent_in_block body) (λ m k. k)))
    (all_found (sent_in_block body) (once refl).0 (received_in_block body) (matched refl))
known_in false body once matched placed =
    none_in_block (IsKnown (with_label (sent_in_block body))) (IsKnown (with_label (sent_in_block body))) body placed
