-- What speaks of no local of a body reads the same in the scope at the body's head, and has no fault there either.
use Rattle.std.proofs.Common.{◌≡◌, Bool, true, false, not, ◌&&◌, ◌||◌, Option, Some, None, is_some, List, [], ◌∷◌, map, refl, ◌∙◌, ap, subst}
use Rattle.std.specs.List.{AllByRecursion}
use Rattle.pv_base.specs.declared.Span.{Span}
use Rattle.pv_ast.specs.declared.Word.{Word}
use Rattle.pv_ast.specs.declared.Operator.{Operator}
use Rattle.pv_ast.specs.declared.Operator.TheVariants as op
use Rattle.pv_ast.specs.declared.PvType.{PvType}
use Rattle.pv_ast.specs.declared.PvType.TheVariants.{Int, Truth}
use Rattle.pv_ast.specs.declared.Expr.{Expr}
use Rattle.pv_ast.specs.declared.ExprKind.{ExprKind-F}
use Rattle.pv_ast.specs.declared.fault.Rule.{Rule}
use Rattle.pv_ast.specs.declared.fault.Rule.TheVariants as rule
use Rattle.pv_ast.specs.declared.scope.Declared.{Declared}
use Rattle.pv_ast.specs.declared.scope.Declaration.TheVariants.{Bound}
use Rattle.pv_ast.specs.declared.standing.Context.{Context}
use Rattle.pv_ast.specs.declared.standing.Need.{Need}
use Rattle.pv_ast.specs.declared.standing.Need.TheVariants.{Anything, Exactly, AnObject, AnArray}
use Rattle.pv_ast.specs.declared.standing.Seen.{Seen}
use Rattle.pv_ast.specs.Rules.Faults.{broken_if, broken_unless}
use Rattle.pv_ast.specs.Rules.Scoping.{Visible, variable_named, as_variable, is_visible, is_inner_local}
use Rattle.pv_ast.specs.Rules.Typing as typing
use Rattle.pv_ast.specs.Rules.Expressions.{Environment, CheckedExpression, CheckedKind, checked_in_kind, checked_in_each, checked_expression, typing_in, names_local, value_seen, seen_of_name, seen_of_member, seen_of_target, type_of_field, lacks_field, lacks_role, has_role, holder_of, need_of_target, args_meet, args_name_local, faults_of_args, faults_of_use, faults_of_target, Signature, unsought, unknown, taking, param_types, predicate_signature, typing_of_use, with_bound, under_quantifier}
use Rattle.core_trees.proofs.Clean.{Clean, if_fails}
use Rattle.core_trees.proofs.Agreeing.{Agree, agree_bound}
use Rattle.core_trees.proofs.Layers.{PartLayerStep, part_induction}
use Rattle.core_trees.proofs.Induction.{all_with}

clean_unless : (t : Bool) (r : Rule) (s : Span) → t ≡ true → Clean (broken_unless t r s)
clean_unless true r s h = tt
clean_unless false r s h = absurd cc

clean_if : (t : Bool) (r : Rule) (s : Span) → t ≡ false → Clean (broken_if t r s)
clean_if true r s h = absurd cc
clean_if false r s h = tt

-- The laws of a kind, a quantifier and an expression

abbrev KindLaw : CheckedKind → Type 0
KindLaw k = (a : Environment) (v head : Visible) (span : Span) (c : Context) → Agree v head → c.locals ≡ false
    → Clean (k.faults span a v c) → (k.seen a v ≡ k.seen a head) × Clean (k.faults span a head c)

abbrev CheckedLaw : CheckedExpression → Type 0
CheckedLaw p = (a : Environment) (v head : Visible) (c : Context) (need : Need) → Agree v head → c.locals ≡ false
    → Clean (p.faults a v c need) → (p.seen a v ≡ p.seen a head) × Clean (p.faults a head c need)

-- Names

inner_free : (a b : Bool) → a ≡ false → (not a && b) ≡ false → b ≡ false
inner_free true b h k = absurd cc
inner_free false b h k = k

not_inner : (a b : Bool) → b ≡ false → (not a && b) ≡ false
not_inner true b h = refl
not_inner false b h = h

name_law : (w : Word) → KindLaw (checked_in_kind (ExprKind-F.Var w))
name_law w = λ a v head span c agree locals clean.
    let free : is_inner_local v w.name ≡ false =
    inner_free c.locals (is_inner_local v w.name) locals
    (if_fails (not c.locals && is_inner_local v w.name) rule.FormulaScope w.span clean.1) in
    let same : variable_named v w.name ≡ variable_named head w.name = ap as_variable (agree.same w.name free) in (
      ap (seen_of_name a w.name) same,
      (
        subst (λ (o : Option Declared). Clean (broken_unless (is_some o || is_some (type_of_field a.here w.name)) rule.UnknownName
            w.span)) same clean.0,
        clean_if (not c.locals && is_inner_local head w.name) rule.FormulaScope w.span
            (not_inner c.locals (is_inner_local head w.name) (agree.without w.name)),
      ),
    )

-- Operators

pub left_locals : (o : Operator) (c : Context) → (typing.under_left o c).locals ≡ c.locals
left_locals op.Eq c = refl
left_locals op.Ne c = refl
left_locals op.And c = refl
left_locals op.Or c = refl
left_locals op.Implies c = refl
left_locals _ c = refl

pub right_locals : (o : Operator) (c : Context) → (typing.under_right o c).locals ≡ c.locals
right_locals op.Eq c = refl
right_locals op.Ne c = refl
right_locals op.And c = refl
right_locals op.Or c = refl
right_locals _ c = refl

-- what is made of two parts
two_seen : (f : Seen → Seen → Seen) (x x' y y' : Seen) → x ≡ x' → y ≡ y' → f x y ≡ f x' y'
two_seen f x x' y y' h k = ap (λ s. f s y) h ∙ ap (λ s. f x' s) k

-- Arguments

args_law : (ps : List CheckedExpression) (types : List PvType) → AllByRecursion CheckedLaw ps
    → (a : Environment) (v head : Visible) (c : Context)
    → Agree v head → c.locals ≡ false → Clean (faults_of_args ps types a v c)
    → (args_meet ps types a v ≡ args_meet ps types a head) × (args_name_local ps a v ≡ args_name_local ps a head)
    × Clean (faults_of_args ps types a head c)
args_law [] types laws a v head c agree locals clean = (refl, refl, tt)
args_law (p ∷ ps) [] laws a v head c agree locals clean =
    let h = laws.0 a v head c Anything agree locals clean.0 in
    let rest = args_law ps [] laws.1 a v head c agree locals clean.1 in (
      ap (λ (s : Seen). typing.is_typed s.typing && args_meet ps [] a v) h.0
          ∙ ap (λ b. typing.is_typed (p.seen a head).typing && b) rest.0,
      ap (λ (s : Seen). s.local || args_name_local ps a v) h.0 ∙ ap (λ b. (p.seen a head).local || b) rest.1,
      (h.1, rest.2),
    )
args_law (p ∷ ps) (type ∷ types) laws a v head c agree locals clean =
    let h = laws.0 a v head c (Exactly type) agree locals clean.0 in
    let rest = args_law ps types laws.1 a v head c agree locals clean.1 in (
      ap (λ (s : Seen). typing.meets (Exactly type) s.typing && args_meet ps types a v) h.0
          ∙ ap (λ b. typing.meets (Exactly type) (p.seen a head).typing && b) rest.0,
      ap (λ (s : Seen). s.local || args_name_local ps a v) h.0 ∙ ap (λ b. (p.seen a head).local || b) rest.1,
      (h.1, rest.2),
    )

use_typing : (ps : List CheckedExpression) (signature : Signature) (a : Environment) (v head : Visible)
    → args_meet ps (param_types signature) a v
    ≡ args_meet ps (param_types signature) a head → typing_of_use ps signature a v ≡ typing_of_use ps signature a head
use_typing ps unsought a v head h = refl
use_typing ps unknown a v head h = refl
use_typing ps (taking types) a v head h = ap (λ b. typing.typed_if b Truth) h

abbrev TargetLaw : Option CheckedExpression → Type 0
TargetLaw None = Unit {0}
TargetLaw (Some p) = CheckedLaw p

target_law : (o : Option CheckedExpression) → TargetLaw o → (a : Environment) (v head : Visible) (c : Context) → Agree v head
    → c.locals ≡ false
    → Clean (faults_of_target a v c o) → (seen_of_target a v o ≡ seen_of_target a head o) × Clean (faults_of_target a head c o)
target_law None law a v head c agree locals clean = (refl, tt)
target_law (Some p) law a v head c agree locals clean = law a v head c AnObject agree locals clean

-- the type of a use of a predicate on what was seen, and whether a local is named
abbrev use_seen : List CheckedExpression → Word → Environment → Visible → Seen → Seen
use_seen ps w a v s =
    value_seen (typing_of_use ps (predicate_signature (holder_of a s) w.name) a v) (s.local || args_name_local ps a v)

use_law : (ps : List CheckedExpression) (w : Word) → AllByRecursion CheckedLaw ps
    → (a : Environment) (v head : Visible) (c : Context) (s : Seen)
    → Agree v head → c.locals ≡ false → Clean (faults_of_use w ps (predicate_signature (holder_of a s) w.name) a v c)
    → (use_seen ps w a v s ≡ use_seen ps w a head s) × Clean (faults_of_use w ps
    (predicate_signature (holder_of a s) w.name) a head c)
use_law ps w laws a v head c s agree locals clean =
    let signature : Signature = predicate_signature (holder_of a s) w.name in
    let args = args_law ps (param_types signature) laws a v head c agree locals clean.1.0 in (
      ap (λ t. value_seen t (s.local || args_name_local ps a v)) (use_typing ps signature a v head args.0)
          ∙ ap (λ b. value_seen (typing_of_use ps signature a head) (s.local || b)) args.1,
      (clean.0, (args.2, clean.1.1)),
    )

instance_law : (o : Option CheckedExpression) (w : Word) (ps : List CheckedExpression) → TargetLaw o
    → AllByRecursion CheckedLaw ps
    → KindLaw (checked_in_kind (ExprKind-F.Instance o w ps))
instance_law o w ps law laws = λ a v head span c agree locals clean.
    let t = target_law o law a v head (typing.purely c) agree locals clean.1.0 in
    let u = use_law ps w laws a v head (typing.purely c) (seen_of_target a v o) agree locals clean.1.1 in (
      u.0 ∙ ap (use_seen ps w a head) t.0,
      (
        clean.0,
        (
          t.1,
          subst (λ (s : Seen). Clean (faults_of_use w ps (predicate_signature (holder_of a s) w.name) a head
              (typing.purely c))) t.0 u.1,
        ),
      ),
    )

-- The induction

layer_law : PartLayerStep KindLaw CheckedLaw
layer_law (ExprKind-F.Number n) = λ a v head span c agree locals clean. (refl, clean)
layer_law (ExprKind-F.Truth b) = λ a v head span c agree locals clean. (refl, clean)
layer_law ExprKind-F.Null = λ a v head span c agree locals clean. (refl, clean)
layer_law ExprKind-F.This = λ a v head span c agree locals clean. (refl, clean)
layer_law ExprKind-F.Result = λ a v head span c agree locals clean. (refl, clean)
layer_law (ExprKind-F.Var w) = name_law w
layer_law (ExprKind-F.Field e w) = λ a v head span c agree locals clean.
    let h = e.1 a v head c (need_of_target a w.name) agree locals clean.0 in (
      ap (seen_of_member a w.name) h.0,
      (h.1, subst (λ (s : Seen). Clean (broken_if (lacks_field (holder_of a s) w.name) rule.UnknownName w.span)) h.0 clean.1),
    )
layer_law (ExprKind-F.Index e i) = λ a v head span c agree locals clean.
    let h = e.1 a v head c AnArray agree locals clean.0 in
    let k = i.1 a v head c (Exactly Int) agree locals clean.1 in (
      two_seen (λ x y. record {
        typing = typing.typing_of_element x.typing y.typing;
        this = false;
        location = true;
        local = x.local
            || y.local;
      }) _ _ _ _ h.0 k.0,
      (h.1, k.1),
    )
layer_law (ExprKind-F.Not e) = λ a v head span c agree locals clean.
    let h = e.1 a v head (typing.purely c) (Exactly Truth) agree locals clean in
    (ap (λ (s : Seen). value_seen (typing.typed_if (typing.meets (Exactly Truth) s.typing) Truth) s.local) h.0, h.1)
layer_law (ExprKind-F.Minus e) = λ a v head span c agree locals clean.
    let h = e.1 a v head c (Exactly Int) agree locals clean in
    (ap (λ (s : Seen). value_seen (typing.typed_if (typing.meets (Exactly Int) s.typing) Int) s.local) h.0, h.1)
layer_law (ExprKind-F.Binary o x y) = λ a v head span c agree locals clean.
    let h = x.1 a v head (typing.under_left o c) (typing.need_of_operator o) agree (left_locals o c ∙ locals) clean.0 in
    let k = y.1 a v head (typing.under_right o c) (typing.need_of_operator o) agree (right_locals o c ∙ locals) clean.1 in (
      two_seen (λ s t. value_seen (typing.typing_of_operator o s.typing t.typing) (s.local || t.local)) _ _ _ _ h.0 k.0,
      (h.1, k.1),
    )
layer_law (ExprKind-F.Old e) = λ a v head span c agree locals clean.
    let h = e.1 a v head (typing.purely c) Anything agree locals clean.0 in (
      ap (λ (s : Seen). value_seen (typing.typing_of_old s.typing) s.local) h.0,
      (h.1, subst (λ (s : Seen). Clean (broken_if (not c.old || s.local) rule.OldPlace span)) h.0 clean.1),
    )
layer_law (ExprKind-F.Perm e checked whole amount) = λ a v head span c agree locals clean.
    let h = e.1 a v head c Anything agree locals clean.1.1.0 in (
      ap (λ (s : Seen). value_seen (typing.typed_if (typing.is_typed s.typing) Truth) s.local) h.0,
      (
        clean.0,
        (
          clean.1.0,
          (
            h.1,
            subst (λ (s : Seen). Clean (broken_unless s.location rule.NotALocation (checked_expression e.0).span)) h.0
                clean.1.1.1,
          ),
        ),
      ),
    )
layer_law (ExprKind-F.Token t e) = λ a v head span c agree locals clean.
    let h = e.1 a v head c AnObject agree locals clean.1.0 in (
      ap (λ (s : Seen). value_seen (typing.typed_if (typing.meets AnObject s.typing) Truth) s.local) h.0,
      (
        clean.0,
        (
          h.1,
          subst (λ (s : Seen). Clean (broken_if (lacks_role (has_role t) a s) rule.NoRole (checked_expression e.0).span)) h.0
              clean.1.1,
        ),
      ),
    )
layer_law (ExprKind-F.Instance None w es) = instance_law None w (map checked_expression (map (λ e. e.0) es)) tt
    (all_with checked_expression CheckedLaw es)
layer_law (ExprKind-F.Instance (Some e) w es) =
    instance_law (Some (checked_expression e.0)) w (map checked_expression (map (λ e. e.0) es)) e.1
    (all_with checked_expression CheckedLaw es)
layer_law (ExprKind-F.Each q) = λ a v head span c agree locals clean. q.1 a v head span c agree locals clean

pub quantified_locals : (star : Bool) (c : Context) → (under_quantifier star c).locals ≡ c.locals
quantified_locals true c = refl
quantified_locals false c = refl

each_law : (star : Bool) (w : Word) (low high body : CheckedExpression) (written : Option (Word × Word)) → CheckedLaw low
    → CheckedLaw high
    → CheckedLaw body → KindLaw (checked_in_each
    (record { star = star; name = w; low = low; high = high; body = body; written = written }))
each_law star w low high body written law_low law_high law_body = λ a v head span c agree locals clean.
    let new : is_visible v w.name ≡ false = if_fails (is_visible v w.name) rule.Shadows w.span clean.1.0 in
    let l = law_low a v head c (Exactly Int) agree locals clean.1.1.0 in
    let h = law_high a v head c (Exactly Int) agree locals clean.1.1.1.0 in
    let b =
    law_body a (with_bound v w) (with_bound head w) (under_quantifier star c) (Exactly Truth)
    (agree_bound v head Bound w.name Int refl new agree) (quantified_locals star c ∙ locals) clean.1.1.1.1.0 in (
      ap (λ (s : Seen). value_seen (typing.typed_if (typing.both_meet (Exactly Int) s.typing (typing_in high a v)
          && typing.meets (Exactly Truth) (typing_in body a (with_bound v w))) Truth)
          (s.local || (names_local high a v || names_local body a (with_bound v w)))) l.0
          ∙ ap (λ (s : Seen). value_seen (typing.typed_if (typing.both_meet (Exactly Int) (typing_in low a head) s.typing
          && typing.meets (Exactly Truth) (typing_in body a (with_bound v w))) Truth)
          (names_local low a head || (s.local || names_local body a (with_bound v w)))) h.0
          ∙ ap (λ (s : Seen). value_seen (typing.typed_if (typing.both_meet (Exactly Int) (typing_in low a head)
          (typing_in high a head) && typing.meets (Exactly Truth) s.typing) Truth)
          (names_local low a head || (names_local high a head || s.local))) b.0,
      (
        clean.0,
        (
          clean_if (is_visible head w.name) rule.Shadows w.span (agree.fewer w.name new),
          (l.1, (h.1, (b.1, clean.1.1.1.1.1))),
        ),
      ),
    )

-- what may name no local of the body is seen alike at the head, without a fault
pub at_head : (e : Expr) → CheckedLaw (checked_expression e)
at_head =
    part_induction KindLaw CheckedLaw layer_law (λ y.
    each_law y.star y.name (checked_expression y.low.0) (checked_expression y.high.0) (checked_expression y.body.0) y.written
    y.low.1 y.high.1 y.body.1)
    (λ span k law a v head c need agree locals clean. let h = law a v head span c agree locals clean.0 in
    (h.0, (h.1, subst (λ (s : Seen). Clean (typing.wrong_type need s.typing span)) h.0 clean.1)))
