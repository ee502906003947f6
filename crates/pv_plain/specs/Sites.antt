-- Where the code finds what a statement stands in, as the definitions see it.
use Rattle.std.specs.Prelude.{ℕ, Option, Some, None, List, [], ◌∷◌, ◌++◌, map}
use Rattle.std.specs.Borrow.{Bor}
use Rattle.pv_ast.specs.Rules.Scoping.{Visible}
use Rattle.pv_ast.specs.Rules.Expressions.{Environment}
use Rattle.pv_picks.specs.Plain.Core.{Message, Statement, Block}
use Rattle.pv_picks.specs.Plain.Core as core
use Rattle.pv_picks.specs.Elaborating.Expressions.{core_of_formula}
use Rattle.pv_picks.specs.Elaborating.Statements as statements
use Rattle.pv_plain.specs.declared.site.Way.{Way, Way-F, fold-Way}
use Rattle.pv_plain.specs.declared.site.Site.{Site}
use Rattle.pv_plain.specs.declared.sending.Sent.{Sent}
use Rattle.pv_plain.specs.Sights.{marked}

-- the message that is sent, where these names are in scope
abbrev pub message_of : Environment → Visible → Sent → Message
message_of a v s = record { label = s.label; distance = s.distance; formula = core_of_formula a v s.formula.now }

abbrev pub messages_of : Environment → Visible → List Sent → List Message
messages_of a v ss = map (message_of a v) ss

abbrev pub way_outside : Option (Bor (List ℕ)) → List ℕ
way_outside None = []
way_outside (Some w) = w.now

abbrev pub way_with : Way-F (List ℕ) → List ℕ
way_with w = way_outside w.outer ++ w.index ∷ []

abbrev pub way_under : Way → List ℕ
way_under = fold-Way (List ℕ) way_with

abbrev pub way_of : Option (Bor Way) → List ℕ
way_of None = []
way_of (Some w) = way_under w.now

-- the site, where these names are in scope, of which those at the head of the loop are the first
abbrev pub site_of : Site → Environment → Visible → statements.Site
site_of s a v = record {
  position = s.position;
  head = marked v s.head;
  messages = messages_of a (marked v s.head) s.sent.now;
  way = way_of s.way;
}

-- statements behind others
abbrev pub block_behind : Block → Block → Block
block_behind core.Stop b = b
block_behind (core.Then s rest) b = core.Then s (block_behind rest b)
