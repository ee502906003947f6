-- What isn't declared fails, and never blocks: no text spells these programs.
use Rattle.std.specs.Prelude.{ℕ, pos, false, Some, None, List, [], ◌∷◌}
use Rattle.pv_ast.specs.declared.Token.TheVariants as token
use Rattle.pv_picks.specs.declared.check.Check.{Check}
use Rattle.pv_picks.specs.declared.check.Check.TheVariants as check
use Rattle.pv_picks.specs.Plain.Core.{This, Formula, Holds, Instance, Star, Action, Fork, Join', Lock, Commit, Nowhere, Call, Statement, Assign, Act, Fold, Unfold, Send, Receive, Stop, Then, IsMethod, Program}
use Rattle.pv_picks.specs.Judge.Runs.{Failed}
use Rattle.worked_programs.specs.Nodes.{at, name}
use Rattle.worked_programs.specs.CoreNodes.{always, contract, message, method, class}
use Rattle.worked_judgements.specs.Cases.{member_of, number, turn, Judged}

-- a class with one method alone, which does one thing
abbrev pub doing : Formula → Statement → Program
doing before s =
    class (name 0) None (IsMethod (method (Some (name 1)) [] None (contract before always) (Then s Stop) false) ∷ []) ∷ []

abbrev pub on_this : Action → Statement
on_this action = Act action (name 0) This (at 10 20)

abbrev pub Fails : Formula → Statement → Check → Type 0
Fails before s named = Judged (doing before s) (member_of 0 0) (number (pos 1) ∷ turn 0 ∷ []) [] (Failed named (at 10 20))

abbrev pub held : Formula
held = Star (Star (Holds token.Idle (name 0) This (at 0 0)) (Holds token.Running (name 0) This (at 0 0)))
    (Star (Holds token.Uncommitted (name 0) This (at 0 0)) (Instance (name 0) (name 7) This [] (at 0 0)))

-- a call, a fork, a join, a lock, a commit, a fold, an unfold; a message to its own sender, sent and received
abbrev pub Undeclared : Type 0
Undeclared =
    (Fails always (Assign Nowhere (Call (name 0) (name 7) This []) (at 10 20)) check.Requires)
    × (Fails held (on_this Fork) check.ForkRequires)
    × (Fails held (on_this Join') check.NotRunning)
    × (Fails (Holds token.Committed (name 0) This (at 0 0)) (on_this Lock) check.LockInvariant)
    × (Fails held (on_this Commit) check.LockInvariant)
    × (Fails always (Fold (name 0) (name 7) This [] (at 10 20)) check.Fold)
    × (Fails held (Unfold (name 0) (name 7) This [] (at 10 20)) check.Unfold)
    × (Fails always (Send (message (name 7) 0 always) (at 10 20)) check.Send)
    × (Fails always (Receive (message (name 7) 0 always) (at 10 20)) check.Send)
