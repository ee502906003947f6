-- In what a program becomes each barrier has the way to it as its place.
use Rattle.std.proofs.Common.{ℕ, ◌+◌, List, [], ◌∷◌, map, refl}
use Rattle.std.specs.List.{AllByRecursion}
use Rattle.pv_base.specs.declared.Span.{Span}
use Rattle.pv_ast.specs.declared.Stmt.{Stmt}
use Rattle.pv_ast.specs.declared.StmtKind.{StmtKind-F}
use Rattle.pv_ast.specs.declared.Member.{Member}
use Rattle.pv_ast.specs.declared.Member.TheVariants as member
use Rattle.pv_ast.specs.declared.Class.{Class}
use Rattle.pv_ast.specs.declared.Program.{Program}
use Rattle.pv_ast.specs.Rules.Scoping.{Visible}
use Rattle.pv_ast.specs.Rules.Expressions.{Environment}
use Rattle.pv_ast.specs.Rules.Programs.{in_class}
use Rattle.pv_picks.specs.Elaborating.Statements.{ElaboratedStatement, ElaboratedStatementKind, Site, at, block_from, inside_for, inside_par, in_for, in_par, outermost, elaborated_statement}
use Rattle.pv_picks.specs.Elaborating.Programs.{core_of, core_of_class, core_of_member}
use Rattle.core_trees.proofs.StmtLayers.{LayerStep, StmtsWith, elaborations, piece_induction}
use Rattle.core_sharing.specs.Places.{HasItsWay, HaveTheirWays, PlacedInMember, PlacedInClass, HasPlaces}
use Rattle.core_sharing.proofs.Places.{places_tell}

abbrev KindLaw : ElaboratedStatementKind → Type 0
KindLaw k = (span : Span) (a : Environment) (v : Visible) (site : Site) → HasItsWay site.way (k.statement span a v site)

abbrev StmtLaw : ElaboratedStatement → Type 0
StmtLaw s = (a : Environment) (v : Visible) (site : Site) → HasItsWay site.way (s.statement a v site)

block_law : (ss : List (StmtsWith StmtLaw)) (n : ℕ) (a : Environment) (v : Visible) (site : Site)
    → HaveTheirWays site.way n (block_from n (elaborations ss) a v site)
block_law [] n a v site = tt
block_law (s ∷ ss) n a v site = (s.1 a v (at n site), block_law ss (n + 1) a ((elaborated_statement s.0).checked.behind v) site)

layer_law : LayerStep KindLaw StmtLaw
layer_law (StmtKind-F.If e first second) =
    λ span a v site. (block_law first 0 a v (at 0 site), block_law second 0 a v (at 1 site))
layer_law (StmtKind-F.While es e body) = λ span a v site. block_law body 0 a v (at 0 site)
layer_law (StmtKind-F.For range c body) = λ span a v site.
    block_law body 0 a (inside_for v range) (in_for a (inside_for v range) (elaborations body) (at 0 site))
layer_law (StmtKind-F.Par o range c body) = λ span a v site. block_law body 0 a (inside_par v o range) (in_par range (at 0 site))
layer_law (StmtKind-F.Barrier w c) = λ span a v site. refl
layer_law _ = λ span a v site. tt

statement_law : (s : Stmt) → StmtLaw (elaborated_statement s)
statement_law = piece_induction KindLaw StmtLaw layer_law (λ span k law a v site. law span a v site)

-- Programs

body_law : (ss : List Stmt) (n : ℕ) (a : Environment) (v : Visible) (site : Site)
    → HaveTheirWays site.way n (block_from n (map elaborated_statement ss) a v site)
body_law [] n a v site = tt
body_law (s ∷ ss) n a v site = (
  statement_law s a v (at n site),
  body_law ss (n + 1) a ((elaborated_statement s).checked.behind v) site,
)

member_law : (a : Environment) (m : Member) → PlacedInMember (core_of_member a m)
member_law a (member.Field f) = tt
member_law a (member.Predicate q) = tt
member_law a (member.Method m) = let ways = body_law m.body 0 _ _ (outermost _) in (ways, places_tell _ ways)
member_law a (member.Run r) = let ways = body_law r.body 0 _ _ (outermost _) in (ways, places_tell _ ways)

members_law : (a : Environment) (ms : List Member) → AllByRecursion PlacedInMember (map (core_of_member a) ms)
members_law a [] = tt
members_law a (m ∷ ms) = (member_law a m, members_law a ms)

classes_law : (p : Program) (cs : List Class) → AllByRecursion PlacedInClass (map (core_of_class p) cs)
classes_law p [] = tt
classes_law p (c ∷ cs) = (members_law (in_class p c) c.members, classes_law p cs)

pub has_places : (p : Program) → HasPlaces (core_of p)
has_places p = classes_law p p.classes
