-- Exhaling a formula lets one run follow another.
use Rattle.std.proofs.Common.{◌≡◌, ℕ, ◌-◌, ℤ, ◌+ℤ◌, Bool, true, false, Option, Some, None, List, [], ◌∷◌, refl, sym, subst}
use Rattle.std.proofs.Math.Path.{fun_ext}
use Rattle.std.specs.Prelude.{nat_le, if◌then◌else◌}
use Rattle.pv_base.specs.declared.Name.{Name}
use Rattle.pv_base.specs.declared.Span.{Span}
use Rattle.pv_ast.specs.declared.PvType.{PvType}
use Rattle.pv_ast.specs.declared.Token.{Token}
use Rattle.pv_ast.specs.declared.Token.TheVariants as token
use Rattle.pv_values.specs.declared.value.Value.{Value}
use Rattle.pv_fraction.specs.Amounts.{whole}
use Rattle.pv_picks.specs.declared.check.Check.{Check}
use Rattle.pv_picks.specs.declared.check.Check.TheVariants as check
use Rattle.pv_picks.specs.declared.evidence.Entry.{Entry}
use Rattle.pv_picks.specs.Plain.Core.{Expression, Cut, Formula, Items, Item}
use Rattle.pv_picks.specs.Plain.Core as core
use Rattle.pv_picks.specs.Formulas.Values.{number_in, truth_in, reference_in, within, is_empty}
use Rattle.pv_picks.specs.Formulas.Meeting.{guard_term}
use Rattle.pv_picks.specs.Judge.States.{State, Resource, InField, InElement, OfToken, Folded, amount_of, with_amount, with_instances, without_range, without_instance}
use Rattle.pv_picks.specs.Judge.Settings.{Next, ArrayPart, no_frame}
use Rattle.pv_picks.specs.Judge.Permissions.{has_each, give, give_range, take_token, or_short, take_instance}
use Rattle.pv_picks.specs.Judge.Repetitions.{Look, AtElements, AtElement, AtLength, AtTerm, Range, range_of, cut_by, shifted, looks_of, arrays_read, notice_parts, notice_cut, unless_empty, cut_all}
use Rattle.pv_picks.specs.Judge.Exhaling.{Giving, span_or, from_at, value_from, holds_or_fails, exhale_at_mark, exhale_repeated, exhale, exhale_items, exhale_item}
use Rattle.pv_picks.specs.Judge.Runs.{End, Judged, Maps, judging}
use Rattle.core_sharing.specs.Following.{Counting, Follows}
use Rattle.core_sharing.proofs.Following.{fails_follow, evaluate_follows, evaluate_all_follows, pick_follows}

-- what is noticed of a range makes no difference to the judge

pub parts_noticed : (maps : Maps) (table : List Entry) (parts : List ArrayPart) (ends : List ℤ) (rest : Judged)
    → notice_parts (judging maps table) parts ends rest ≡ rest
parts_noticed maps table [] ends rest = refl
parts_noticed maps table (checked ∷ parts) ends rest = parts_noticed maps table parts ends rest

pub cut_noticed : (maps : Maps) (table : List Entry) (cut : Cut) (v : Value) (r : Range) (rest : Judged)
    → notice_cut (judging maps table) cut v r rest ≡ rest
cut_noticed maps table (core.Below e) v r rest = refl
cut_noticed maps table (core.UpTo e) v r rest = refl
cut_noticed maps table (core.Above e) v r rest = refl
cut_noticed maps table (core.From e) v r rest = refl
cut_noticed maps table (core.Provided e) v r rest = refl

module _ (maps : Maps) (table : List Entry) (Counts : Counting) (same : (end : End) → Counts end end) where
  -- where a test hangs on what is held
  pub branch_follows : (b : Bool) (named : Check) (span : Span) (one other : Next Judged) → Follows Counts one other
      → Follows Counts (λ s. if b then one s else (judging maps table).failed named span)
      (λ s. if b then other s else (judging maps table).failed named span)
  branch_follows true named span one other follows = follows
  branch_follows false named span one other follows = fails_follow maps table Counts same named span

  pub either_follows : (b : Bool) (x y x' y' : Next Judged) → Follows Counts x x' → Follows Counts y y'
      → Follows Counts (λ s. if b then x s else y s) (λ s. if b then x' s else y' s)
  either_follows true x y x' y' h k = h
  either_follows false x y x' y' h k = k

  -- a change of the state that hangs on no lengths
  pub give_follows : (resource : Resource) (amount : ℕ) (named : Check) (span : Span) (one other : Next Judged)
      → Follows Counts one other
      → Follows Counts (give (judging maps table) resource amount ((judging maps table).failed named span) one)
      (give (judging maps table) resource amount ((judging maps table).failed named span) other)
  give_follows resource amount named span one other follows = record {
    from = λ s picks knows.
        (branch_follows (nat_le amount (amount_of s resource)) named span
        (λ t. one (with_amount t resource (amount_of s resource - amount)))
        (λ t. other (with_amount t resource (amount_of s resource - amount)))
        (record {
          from = λ t picks knows.
              follows.from (with_amount t resource (amount_of s resource - amount)) picks knows;
        })).from
        s picks knows;
  }

  pub give_range_follows : (type : PvType) (array : ℕ) (low high : ℤ) (ends : List ℤ) (amount : ℕ) (named : Check) (span : Span)
      (one other : Next Judged) → Follows Counts one other
      → Follows Counts (give_range (judging maps table) type array low high ends amount
      ((judging maps table).failed named span) one)
      (give_range (judging maps table) type array low high ends amount ((judging maps table).failed named span) other)
  give_range_follows type array low high ends amount named span one other follows = record {
    from = λ s picks knows.
        (branch_follows (has_each s type array low high amount) named span
        (λ t. one (without_range t type array low high amount)) (λ t. other (without_range t type array low high amount))
        (record {
          from = λ t picks knows.
              follows.from (without_range t type array low high amount) picks knows;
        })).from s picks knows;
  }

  pub take_token_follows : (kind : Token) (class : Name) (object : ℕ) (named : Check) (span : Span) (one other : Next Judged)
      → Follows Counts one other
      → Follows Counts (take_token (judging maps table) kind class object ((judging maps table).failed named span) one)
      (take_token (judging maps table) kind class object ((judging maps table).failed named span) other)
  take_token_follows token.Committed class object named span one other follows = record {
    from = λ s picks knows.
        (branch_follows (s.committed class object) named span one other follows).from s picks knows;
  }
  take_token_follows token.Idle class object named span one other follows =
      give_follows (OfToken token.Idle class object) whole named span one other follows
  take_token_follows token.Running class object named span one other follows =
      give_follows (OfToken token.Running class object) whole named span one other follows
  take_token_follows token.Uncommitted class object named span one other follows =
      give_follows (OfToken token.Uncommitted class object) whole named span one other follows

  short_follows : (o : Option (List Folded)) (named : Check) (span : Span) (one other : Next Judged) → Follows Counts one other
      → Follows Counts (or_short (judging maps table) o ((judging maps table).failed named span) one)
      (or_short (judging maps table) o ((judging maps table).failed named span) other)
  short_follows None named span one other follows = fails_follow maps table Counts same named span
  short_follows (Some instances) named span one other follows = record {
    from = λ s picks knows.
        follows.from (with_instances s instances) picks knows;
  }

  pub take_instance_follows : (folded : Folded) (named : Check) (span : Span) (one other : Next Judged) → Follows Counts one other
      → Follows Counts (take_instance (judging maps table) folded ((judging maps table).failed named span) one)
      (take_instance (judging maps table) folded ((judging maps table).failed named span) other)
  take_instance_follows folded named span one other follows = record {
    from = λ s picks knows.
        (short_follows (without_instance folded s.instances) named span one other follows).from s picks knows;
  }

  -- Expressions and ranges

  pub misses_follow : (span : Span) → Follows Counts (no_frame (judging maps table) span) (no_frame (judging maps table) span)
  misses_follow span = fails_follow maps table Counts same check.Frame span

  pub from_follows : (f : Giving) (e : Expression) (k l : Value → Next Judged) → ((v : Value) → Follows Counts (k v) (l v))
      → Follows Counts (value_from (judging maps table) f e k) (value_from (judging maps table) f e l)
  from_follows f e k l follows =
      evaluate_follows maps table Counts same (λ s. f.before) (λ s. f.bind.old) (λ s known. refl) (λ s known. refl) f.bind.scene
      (no_frame (judging maps table)) (no_frame (judging maps table)) misses_follow e k l follows

  pub holds_follow : (f : Giving) (span : Span) (v : Value) (one other : Next Judged) → Follows Counts one other
      → Follows Counts (λ s. holds_or_fails (judging maps table) f span v (one s))
      (λ s. holds_or_fails (judging maps table) f span v (other s))
  holds_follow f span v one other follows = branch_follows (truth_in v) f.check (span_or f.statement span) one other follows

  arrays_follow : (f : Giving) (looks : List Look) (k l : List ArrayPart → Next Judged)
      → ((parts : List ArrayPart) → Follows Counts (k parts) (l parts))
      → Follows Counts (arrays_read (judging maps table) (λ s. f.before) f.bind looks k)
      (arrays_read (judging maps table) (λ s. f.before) f.bind looks l)
  arrays_follow f [] k l follows = follows []
  arrays_follow f (AtElements type array shift ∷ looks) k l follows =
      evaluate_follows maps table Counts same (λ s. f.before) (λ s. f.bind.old) (λ s known. refl) (λ s known. refl) f.bind.scene
      _ _ (λ span. arrays_follow f looks k l follows) array _ _ (λ a. arrays_follow f looks _ _ (λ parts. follows _))
  arrays_follow f (AtElement was type array index ∷ looks) k l follows = arrays_follow f looks k l follows
  arrays_follow f (AtLength type array ∷ looks) k l follows = arrays_follow f looks k l follows
  arrays_follow f (AtTerm e ∷ looks) k l follows = arrays_follow f looks k l follows

  -- where the judge passes by what is noticed
  pub unnoticed : (x y : State → Judged) (x' y' : State → Judged) → ((s : State) → x s ≡ y s) → ((s : State) → x' s ≡ y' s)
      → Follows Counts y y' → Follows Counts x x'
  unnoticed x y x' y' is is' follows =
      subst (λ (z : Next Judged). Follows Counts z x') (sym (fun_ext is))
      (subst (λ (z : Next Judged). Follows Counts y z) (sym (fun_ext is')) follows)

  marked_follows : (f : Giving) (name : Name) (e : Expression) (span : Span) (r : Range) (one other : Next Judged)
      → Follows Counts one other
      → Follows Counts (exhale_repeated (judging maps table) f name e span r one)
      (exhale_repeated (judging maps table) f name e span r other)
  marked_follows f name e span r one other follows =
      pick_follows maps table Counts same (λ mark. exhale_at_mark (judging maps table) f name e span r mark one)
      (λ mark. exhale_at_mark (judging maps table) f name e span r mark other) (λ mark.
      either_follows (within r.low r.high mark) _ _ _ _
      (arrays_follow f (looks_of name e) _ _ (λ parts.
      unnoticed _ _ _ _ (λ s. parts_noticed maps table parts _ _) (λ s. parts_noticed maps table parts _ _)
      (from_follows (from_at f name mark) e _ _ (λ v. holds_follow f span v one other follows))))
      follows)

  full_follows : (r : Range) (x x' y y' : Next Judged) → Follows Counts x x' → Follows Counts y y'
      → Follows Counts (λ s. unless_empty (judging maps table) r (x s) (y s))
      (λ s. unless_empty (judging maps table) r (x' s) (y' s))
  full_follows r x x' y y' h k = either_follows (is_empty r.low r.high) x y x' y' h k

  cuts_follow : (f : Giving) (cuts : List Cut) (r : Range) (x x' : Next Judged) (k l : Range → Next Judged) → Follows Counts x x'
      → ((r : Range) → Follows Counts (k r) (l r))
      → Follows Counts (cut_all (judging maps table) (λ s. f.before) (no_frame (judging maps table)) f.bind cuts r x k)
      (cut_all (judging maps table) (λ s. f.before) (no_frame (judging maps table)) f.bind cuts r x' l)
  cuts_follow f [] r x x' k l h follows = follows r
  cuts_follow f (cut ∷ cuts) r x x' k l h follows =
      full_follows r _ _ _ _ h
      (from_follows f (guard_term cut) _ _ (λ v.
      unnoticed _ _ _ _ (λ s. cut_noticed maps table cut v r _) (λ s. cut_noticed maps table cut v r _)
      (cuts_follow f cuts (cut_by cut v r) x x' k l h follows)))

  mutual
    pub exhale_follows : (f : Giving) (formula : Formula) (one other : Next Judged) → Follows Counts one other
        → Follows Counts (exhale (judging maps table) f formula one) (exhale (judging maps table) f formula other)
    exhale_follows f (core.Fact e span) one other h = from_follows f e _ _ (λ v. holds_follow f span v one other h)
    exhale_follows f (core.FieldPermission e class name type amount span) one other h =
        from_follows f e _ _ (λ o. give_follows (InField class (reference_in o) name) amount f.check _ one other h)
    exhale_follows f (core.ElementPermission type array index amount span) one other h =
        from_follows f array _ _ (λ a. from_follows f index _ _ (λ i.
        give_follows (InElement type (reference_in a) (number_in i)) amount f.check _ one other h))
    exhale_follows f (core.Holds kind class e span) one other h =
        from_follows f e _ _ (λ o. take_token_follows kind class (reference_in o) f.check _ one other h)
    exhale_follows f (core.Instance class predicate e arguments span) one other h =
        from_follows f e _ _ (λ o.
        evaluate_all_follows maps table Counts same (λ s. f.before) (λ s. f.bind.old) (λ s known. refl) (λ s known. refl)
        f.bind.scene (no_frame (judging maps table)) (no_frame (judging maps table)) misses_follow arguments _ _ (λ vs.
        take_instance_follows _ f.check _ one other h))
    exhale_follows f (core.Star a b) one other h = exhale_follows f a _ _ (exhale_follows f b one other h)
    exhale_follows f (core.When e body span) one other h =
        from_follows f e _ _ (λ v. either_follows (truth_in v) _ _ _ _ (exhale_follows f body one other h) h)
    exhale_follows f (core.Each name low high items span) one other h =
        from_follows f low _ _
        (λ l. from_follows f high _ _ (λ u. items_follow f name (number_in l) (number_in u) items one other h))

    items_follow : (f : Giving) (name : Name) (low high : ℤ) (items : Items) (one other : Next Judged) → Follows Counts one other
        → Follows Counts (exhale_items (judging maps table) f name low high items one)
        (exhale_items (judging maps table) f name low high items other)
    items_follow f name low high core.NoItems one other h = h
    items_follow f name low high (core.Join i is) one other h =
        item_follows f name (range_of low high) i _ _ (items_follow f name low high is one other h)

    item_follows : (f : Giving) (name : Name) (r : Range) (item : Item) (one other : Next Judged) → Follows Counts one other
        → Follows Counts (exhale_item (judging maps table) f name r item one)
        (exhale_item (judging maps table) f name r item other)
    item_follows f name r (core.Elements type array shift amount span) one other h =
        full_follows r _ _ _ _ h (from_follows f array _ _ (λ a.
        give_range_follows type (reference_in a) (r.low +ℤ shift) (r.high +ℤ shift)
        (shifted (r.low ∷ r.high ∷ r.bounds) shift) amount
        f.check (span_or f.statement span) one other h))
    item_follows f name r (core.Repeated e span) one other h =
        full_follows r _ _ _ _ h (marked_follows f name e span r one other h)
    item_follows f name r (core.Committed class e span) one other h =
        full_follows r _ _ _ _ h
        (from_follows f e _ _ (λ o. take_token_follows token.Committed class (reference_in o) f.check _ one other h))
    item_follows f name r (core.Guarded cuts item span) one other h =
        cuts_follow f cuts r one other _ _ h (λ cut. item_follows f name cut item one other h)
    item_follows f name r (core.Fixed e body span) one other h =
        full_follows r _ _ _ _ h
        (from_follows f e _ _ (λ v. either_follows (within r.low r.high (number_in v)) _ _ _ _
        (exhale_follows (from_at f name (number_in v)) body one other h) h))
