-- What bodies share: a body in a `while` shares what it may outside too, and what isn't the body of a counted loop receives
-- nothing.
use Rattle.std.proofs.Common.{◌≡◌, Bool, true, false, ◌||◌, Option, List, [], ◌∷◌, ◌++◌, refl, subst, ap, ◌∙◌}
use Rattle.std.specs.Prelude.{map, if◌then◌else◌}
use Rattle.std.specs.List.{list_any}
use Rattle.pv_base.specs.declared.Name.{Name}
use Rattle.pv_base.specs.Names.{same_name}
use Rattle.pv_picks.specs.Plain.Core.{Message, Statement, Assign, If, While, Members, Meet, Act, Fold, Unfold, Assert, Send, Receive, Return, Block, Stop, Then}
use Rattle.core_trees.specs.Messages.{received_by, received_in_block}
use Rattle.core_trees.specs.Placing.{Environment, InMethod, InBlock, InLoop, InWhile, environment_members, environment_repeated}
use Rattle.core_trees.specs.Formulas.{LabelsDiffer}
use Rattle.soundness.specs.Sharing.{position_in, StatementShares, BlockShares}

-- Environment

repeated_again : (environment : Environment) → environment_repeated (environment_repeated environment)
    ≡ environment_repeated environment
repeated_again InMethod = refl
repeated_again InBlock = refl
repeated_again InLoop = refl
repeated_again InWhile = refl

repeated_block : (environment : Environment) → environment_repeated environment ≡ InBlock → environment ≡ InBlock
repeated_block InMethod is = absurd cc
repeated_block InBlock is = refl
repeated_block InLoop is = absurd cc
repeated_block InWhile is = absurd cc

pub repeated_apart : (environment : Environment) → environment_repeated environment ≡ InLoop → ⊥
repeated_apart InMethod is = absurd cc
repeated_apart InBlock is = absurd cc
repeated_apart InLoop is = absurd cc
repeated_apart InWhile is = absurd cc

-- what the body of a `while` shares it may share outside
mutual
  statement_outside : (environment : Environment) (position : Option Name) (s : Statement)
      → StatementShares (environment_repeated environment) position s → StatementShares environment position s
  statement_outside environment position (If e first second) h =
      (outside_while environment position first h.0, outside_while environment position second h.1)
  statement_outside environment position (While variables f e body span) h =
      subst (λ a. BlockShares a position body) (repeated_again environment) h
  statement_outside environment position (Members team body span) h = h
  statement_outside environment position (Meet barrier span) h = (repeated_block environment h.0, h.1)
  statement_outside environment position (Send m span) h = absurd (repeated_apart environment h)
  statement_outside environment position (Receive m span) h = absurd (repeated_apart environment h)
  statement_outside environment position (Assign target right span) h = tt
  statement_outside environment position (Act action class e span) h = tt
  statement_outside environment position (Fold class name e arguments span) h = tt
  statement_outside environment position (Unfold class name e arguments span) h = tt
  statement_outside environment position (Assert f span) h = tt
  statement_outside environment position (Return e span) h = tt

  pub outside_while : (environment : Environment) (position : Option Name) (b : Block)
      → BlockShares (environment_repeated environment) position b
      → BlockShares environment position b
  outside_while environment position Stop h = tt
  outside_while environment position (Then s b) h =
      (statement_outside environment position s h.0, outside_while environment position b h.1)

-- Messages that are received

none_both : (xs ys : List Message) → xs ≡ [] → ys ≡ [] → xs ++ ys ≡ []
none_both xs ys x y = ap (λ zs. zs ++ ys) x ∙ y

none_counted : (counted : Bool) (ms : List Message) → (counted ≡ false → ms ≡ []) → (if counted then [] else ms) ≡ []
none_counted true ms h = refl
none_counted false ms h = h refl

members_apart : (counted : Bool) → counted ≡ false → environment_members counted ≡ InLoop → ⊥
members_apart true free is = absurd cc
members_apart false free is = absurd cc

-- nothing is received where no counted loop is innermost around
mutual
  statement_receives_nothing : (environment : Environment) (position : Option Name) (s : Statement) → (environment ≡ InLoop → ⊥)
      → StatementShares environment position s → received_by s ≡ []
  statement_receives_nothing environment position (If e first second) apart h =
      none_both (received_in_block first) (received_in_block second) (receives_nothing environment position first apart h.0)
      (receives_nothing environment position second apart h.1)
  statement_receives_nothing environment position (While variables f e body span) apart h =
      receives_nothing (environment_repeated environment) position body (repeated_apart environment) h
  statement_receives_nothing environment position (Members team body span) apart h =
      none_counted team.counted (received_in_block body) (λ free.
      receives_nothing (environment_members team.counted) (position_in position team) body (members_apart team.counted free) h.2)
  statement_receives_nothing environment position (Receive m span) apart h = absurd (apart h)
  statement_receives_nothing environment position (Send m span) apart h = refl
  statement_receives_nothing environment position (Meet barrier span) apart h = refl
  statement_receives_nothing environment position (Assign target right span) apart h = refl
  statement_receives_nothing environment position (Act action class e span) apart h = refl
  statement_receives_nothing environment position (Fold class name e arguments span) apart h = refl
  statement_receives_nothing environment position (Unfold class name e arguments span) apart h = refl
  statement_receives_nothing environment position (Assert f span) apart h = refl
  statement_receives_nothing environment position (Return e span) apart h = refl

  pub receives_nothing : (environment : Environment) (position : Option Name) (b : Block) → (environment ≡ InLoop → ⊥)
      → BlockShares environment position b → received_in_block b ≡ []
  receives_nothing environment position Stop apart h = refl
  receives_nothing environment position (Then s b) apart h =
      none_both (received_by s) (received_in_block b) (statement_receives_nothing environment position s apart h.0)
      (receives_nothing environment position b apart h.1)

-- Labels that differ

abbrev labels : List Message → List Name
labels ms = map (λ m. m.label) ms

abbrev pub HasNone : Name → List Message → Type 0
HasNone name ms = list_any (same_name name) (labels ms) ≡ false

second_none : (a b : Bool) → (a || b) ≡ false → b ≡ false
second_none true b h = absurd cc
second_none false b h = h

either_none : (a b c : Bool) → (b ≡ false → c ≡ false) → (a || b) ≡ false → (a || c) ≡ false
either_none true b c k h = absurd cc
either_none false b c k h = k h

none_behind : (name : Name) (xs ys : List Message) → HasNone name (xs ++ ys) → HasNone name ys
none_behind name [] ys h = h
none_behind name (x ∷ xs) ys h = none_behind name xs ys (second_none (same_name name x.label) _ h)

none_without : (name : Name) (xs ys zs : List Message) → HasNone name ((xs ++ ys) ++ zs) → HasNone name (xs ++ zs)
none_without name [] ys zs h = none_behind name ys zs h
none_without name (x ∷ xs) ys zs h = either_none (same_name name x.label) _ _ (none_without name xs ys zs) h

-- the last part of a list with labels that differ, and the list without a part in its middle
pub differ_behind : (xs ys : List Message) → LabelsDiffer (xs ++ ys) → LabelsDiffer ys
differ_behind [] ys h = h
differ_behind (x ∷ xs) ys h = differ_behind xs ys h.1

pub differ_without : (xs ys zs : List Message) → LabelsDiffer ((xs ++ ys) ++ zs) → LabelsDiffer (xs ++ zs)
differ_without [] ys zs h = differ_behind ys zs h
differ_without (x ∷ xs) ys zs h = (none_without x.label xs ys zs h.0, differ_without xs ys zs h.1)
