-- What a lazy run reads of its picks for ranges it reads at names, so evidence that lists what was read lists names alone.
use Rattle.std.proofs.Common.{◌≡◌, ℤ, Option, Some, None, List, [], ◌∷◌, append-nil, refl, ap, sym, subst, ◌∙◌, inl, inr}
use Rattle.std.specs.List.{AllByRecursion}
use Rattle.pv_base.specs.declared.Name.{Name}
use Rattle.pv_picks.specs.declared.evidence.Entry.{Entry}
use Rattle.pv_picks.specs.Plain.Core.{Expression, Formula, Fact, FieldPermission, ElementPermission, Holds, Instance, Star, When, Each, Items, NoItems, Join, Item, Elements, Repeated, Committed, Guarded, Fixed, Contract, Shared, Statement, Assign, If, While, Members, Meet, Act, Fold, Unfold, Assert, Send, Receive, Return, Block, Stop, Then, Member, IsField, IsPredicate, IsMethod, Program}
use Rattle.pv_picks.specs.Judge.UnitRuns.{task_of}
use Rattle.pv_picks.specs.Judge.Runs.{Maps, maps_of, judge}
use Rattle.pv_picks.specs.Lazy.Runs.{RangeOf, Final, Outcome, lazy_run, no_memory}
use Rattle.judge_laws.specs.Judging.{as_end}
use Rattle.judge_laws.proofs.Backing.{drawn_runs_as_lazy}
use Rattle.judge_laws.proofs.Judging as judging
use Rattle.judge_facts.specs.Finite.{IsOneOf}
use Rattle.judge_facts.specs.Fair.{names_of}
use Rattle.judge_facts.specs.Shapes.{IsShaped, IsRepeatable, ShapedFormula, ShapedItems, ShapedItem, ShapedContract, ShapedShared, ShapedStatement, ShapedBlock, ShapedMember, ShapedInvariant, IsShapedProgram, no_position}
use Rattle.judge_facts.specs.Reads.{ReadsAtNames, ListsReads, JudgesOnReads}
use Rattle.judge_facts.proofs.Shaping.{shaped_program, shaped_task}
use Rattle.judge_facts.proofs.KeepingStatements.{judge_kept}
use Rattle.judge_facts.proofs.Lockstep as lockstep
use Rattle.judge_facts.proofs.Pairing as pairing
use Rattle.judge_facts.proofs.Numbering as numbering
use Rattle.judge_facts.proofs.ReadingRuns as runs
use Rattle.judge_facts.proofs.Listing.{judges_on_listed_names}

pub reads_at_names : ReadsAtNames
reads_at_names p unit evidence shaped not_blocked not_unfit x in_ranges r in_reads same =
    let maps : Maps = maps_of evidence.picks in
    let table : List Entry = evidence.table in
    let f : Final = (lazy_run p unit evidence).end in
    let live : lockstep.Live maps table f = (not_blocked, not_unfit) in
    let program = shaped_program IsRepeatable p shaped in
    let task = shaped_task IsRepeatable p shaped unit in
    let numbers : numbering.Numbered f.ranges =
    judge_kept (numbering.runs_count maps table) p program (task_of p unit) task tt no_memory evidence.picks (tt, tt) refl
    (λ i y e. absurd (cc e)) live in
    let good = judge_kept (runs.runs_keep maps table f) p program (task_of p unit) task (runs.empty_placed maps table f)
    no_memory evidence.picks (tt, tt) (λ y i. absurd i) (λ k i. absurd i) in
    let all : runs.Good maps table f f = subst (λ (o : Outcome Final). runs.Good maps table f o.end)
    (pairing.paired maps table p (task_of p unit) no_memory evidence.picks) good in
    let at = all live (record { names = λ a z i. i; ranges = λ y i. i; known = λ k i. i }) r in_reads in
    let range : RangeOf = record { number = r.number; type = at.type; array = at.array } in
    subst (λ (y : RangeOf). IsOneOf r.index (names_of f (y.type, y.array)))
    (numbering.one_number f.ranges numbers range x at.range in_ranges same) at.name

-- What is repeatable is shaped

module _ (Q R : Name → Expression → Type 0) (more : (n : Name) (e : Expression) → Q n e → R n e) where
  mutual
    formula_more : (f : Formula) → ShapedFormula Q f → ShapedFormula R f
    formula_more (Fact e s) h = tt
    formula_more (FieldPermission e c f t n s) h = tt
    formula_more (ElementPermission t e i n s) h = tt
    formula_more (Holds t c e s) h = tt
    formula_more (Instance c n e es s) h = tt
    formula_more (Star f g) h = (formula_more f h.0, formula_more g h.1)
    formula_more (When e f s) h = formula_more f h
    formula_more (Each n l u is s) h = items_more n is h

    items_more : (n : Name) (is : Items) → ShapedItems Q n is → ShapedItems R n is
    items_more n NoItems h = tt
    items_more n (Join i is) h = (item_more n i h.0, items_more n is h.1)

    item_more : (n : Name) (i : Item) → ShapedItem Q n i → ShapedItem R n i
    item_more n (Elements t e z a s) h = tt
    item_more n (Repeated e s) h = more n e h
    item_more n (Committed c e s) h = tt
    item_more n (Guarded cs i s) h = item_more n i h
    item_more n (Fixed e f s) h = formula_more f h

  contract_more : (d : Contract) → ShapedContract Q d → ShapedContract R d
  contract_more d h = (formula_more d.before h.0, formula_more d.after h.1)

  shared_more : (n : Name) (d : Shared) → ShapedShared Q n d → ShapedShared R n d
  shared_more n d h = (contract_more d.one h.0, (items_more n d.each_before h.1.0, items_more n d.each_after h.1.1))

  mutual
    statement_more : (n : Name) (s : Statement) → ShapedStatement Q n s → ShapedStatement R n s
    statement_more n (Assign t e s) h = tt
    statement_more n (If e a b) h = (block_more n a h.0, block_more n b h.1)
    statement_more n (While ps f e b s) h = (formula_more f h.0, block_more n b h.1)
    statement_more n (Members t b s) h = (shared_more t.variable t.shared h.0, block_more t.variable b h.1)
    statement_more n (Meet b s) h = shared_more n b.shared h
    statement_more n (Act a c e s) h = tt
    statement_more n (Fold c d e es s) h = tt
    statement_more n (Unfold c d e es s) h = tt
    statement_more n (Assert f s) h = tt
    statement_more n (Send m s) h = formula_more m.formula h
    statement_more n (Receive m s) h = formula_more m.formula h
    statement_more n (Return e s) h = tt

    block_more : (n : Name) (b : Block) → ShapedBlock Q n b → ShapedBlock R n b
    block_more n Stop h = tt
    block_more n (Then s b) h = (statement_more n s h.0, block_more n b h.1)

  members_more : (ms : List Member) → AllByRecursion (ShapedMember Q) ms → AllByRecursion (ShapedMember R) ms
  members_more [] h = tt
  members_more (IsField f ∷ ms) h = (tt, members_more ms h.1)
  members_more (IsPredicate q ∷ ms) h = (formula_more q.body h.0, members_more ms h.1)
  members_more (IsMethod m ∷ ms) h =
      ((contract_more m.contract h.0.0, block_more no_position m.body h.0.1), members_more ms h.1)

  invariant_more : (o : Option Formula) → ShapedInvariant Q o → ShapedInvariant R o
  invariant_more None h = tt
  invariant_more (Some f) h = formula_more f h

  program_more : (p : Program) → IsShapedProgram Q p → IsShapedProgram R p
  program_more [] h = tt
  program_more (c ∷ cs) h =
      ((invariant_more c.lock_invariant h.0.0, members_more c.members h.0.1), program_more cs h.1)

pub judges_on_reads : JudgesOnReads
judges_on_reads p unit evidence values turns shaped kinds_there reads_there uses_there lists =
    let same = drawn_runs_as_lazy p unit evidence values turns [] (kinds_there ∙ sym (append-nil _)) reads_there uses_there in
    let f : Final = (lazy_run p unit evidence).end in
    let listed = subst (λ (o : Outcome Final). ListsReads evidence.picks o.end) (sym same) lists in
    lockstep.by_end (judge p unit evidence ≡ as_end f.end) f.end
    (λ b. elim (judging.judges_as_lazy p unit evidence) [ inl h ↦ h | inr h ↦ h ∙ sym b ])
    (λ l. judges_on_listed_names p unit evidence (program_more IsRepeatable IsShaped (λ n e h. h.0) p shaped)
    (λ x i pair j. let w = listed x.number pair j in
    subst (λ (z : ℤ). IsOneOf z (names_of f (x.type, x.array))) w.index
    (reads_at_names p unit evidence shaped l.0 l.1 x i w.read w.member w.number)))
    ∙ ap (λ (o : Outcome Final). as_end o.end.end) same
