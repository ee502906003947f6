-- What a program is refused for, and that an accepted one is refused for nothing.
use Rattle.std.proofs.Common.{◌≡◌, Some, [], Result, Ok, Err, IfErr, refl, sym, ap, subst, ◌∙◌}
use Rattle.std.specs.Result.{IsErrAnd}
use Rattle.pv_ast.specs.declared.Program.{Program}
use Rattle.pv_ast.specs.declared.fault.Fault.{Fault}
use Rattle.pv_ast.specs.declared.fault.ShapeFault.{ShapeFault}
use Rattle.pv_ast.specs.declared.fault.ShapeFault.TheVariants as shape
use Rattle.pv_ast.specs.Rules.Faults.{IsFirst, first_of}
use Rattle.pv_ast.specs.Rules.Programs.{faults_of_program, KeepsRules}
use Rattle.pv_ast.specs.Rules.Shapes as shapes
use Rattle.pv_types.specs.declared.TypeFault.{TypeFault}
use Rattle.pv_types.specs.declared.TypeFault.TheVariants as types
use Rattle.pv_types.specs.TypeFaults.{IsFirstFault, IsChosen}
use Rattle.pv_report.specs.declared.fault.TextFault.{TextFault}
use Rattle.pv_report.specs.declared.refusing.Refusal.{Refusal}
use Rattle.pv_report.specs.declared.refusing.Refusal.TheVariants as refusal
use Rattle.vercors.specs.Texts.{IsAccepted}
use Rattle.pv_report.specs.Faults.{OfTypes, OfShapes}
use Rattle.vercors.specs.Refusals.{RefusesProgram, IsProgramRefused, broken, quantifier_shape, item_shape, not_built}

-- a program with a first fault breaks a rule
breaks : (p : Program) (f : Fault) → IsFirst f (faults_of_program p) → KeepsRules p → ⊥
breaks p f first keeps = keeps f first.among

-- a program with a first fault of shape has faults of shape
has_fault : (p : Program) (f : ShapeFault) → shapes.first_of (shapes.shape_faults_of p) ≡ Some f → shapes.shape_faults_of p ≡ []
    → ⊥
has_fault p f first none =
    let e : shapes.first_of [] ≡ Some f = sym (ap shapes.first_of none) ∙ first in absurd (cc)

-- a program has one first fault
one_broken : (p : Program) (a b : Fault) → first_of (faults_of_program p) ≡ Some a → first_of (faults_of_program p) ≡ Some b
    → refusal.Broken a.rule a.span ≡ refusal.Broken b.rule b.span
one_broken p a b h k =
    let e : Some a ≡ Some b = sym h ∙ k in
    let same : a ≡ b = cc in
    ap (λ (f : Fault). refusal.Broken f.rule f.span) same

one_shape : (p : Program) (a b : ShapeFault) → shapes.first_of (shapes.shape_faults_of p) ≡ Some a
    → shapes.first_of (shapes.shape_faults_of p) ≡ Some b → a ≡ b
one_shape p a b h k = let e : Some a ≡ Some b = sym h ∙ k in cc

-- a program is refused for one thing
pub one_refusal : (p : Program) (a b : Refusal) → IsProgramRefused p a → IsProgramRefused p b → a ≡ b
one_refusal p _ _ (broken {rule} {span} f h) (broken {rule = other} {span = place} g k) =
    one_broken p (record { rule = rule; span = span }) (record { rule = other; span = place }) h k
one_refusal p _ _ (broken f h) (quantifier_shape r k) = absurd (breaks p _ f r)
one_refusal p _ _ (broken f h) (item_shape r k) = absurd (breaks p _ f r)
one_refusal p _ _ (broken f h) (not_built r s n) = absurd (breaks p _ f r)
one_refusal p _ _ (quantifier_shape r k) (broken f h) = absurd (breaks p _ f r)
one_refusal p _ _ (quantifier_shape {span} r h) (quantifier_shape {span = place} s k) =
    let e : shape.QuantifierShape span ≡ shape.QuantifierShape place = one_shape p _ _ h k in cc
one_refusal p _ _ (quantifier_shape {span} r h) (item_shape {span = place} s k) =
    let e : shape.QuantifierShape span ≡ shape.ItemShape place = one_shape p _ _ h k in absurd (cc)
one_refusal p _ _ (quantifier_shape r h) (not_built s k n) = absurd (has_fault p _ h k)
one_refusal p _ _ (item_shape r k) (broken f h) = absurd (breaks p _ f r)
one_refusal p _ _ (item_shape {span} r h) (quantifier_shape {span = place} s k) =
    let e : shape.ItemShape span ≡ shape.QuantifierShape place = one_shape p _ _ h k in absurd (cc)
one_refusal p _ _ (item_shape {span} r h) (item_shape {span = place} s k) =
    let e : shape.ItemShape span ≡ shape.ItemShape place = one_shape p _ _ h k in cc
one_refusal p _ _ (item_shape r h) (not_built s k n) = absurd (has_fault p _ h k)
one_refusal p _ _ (not_built r s n) (broken f h) = absurd (breaks p _ f r)
one_refusal p _ _ (not_built s k n) (quantifier_shape r h) = absurd (has_fault p _ h k)
one_refusal p _ _ (not_built s k n) (item_shape r h) = absurd (has_fault p _ h k)
one_refusal p _ _ (not_built r h n) (not_built s k m) = refl

-- an accepted program is refused for nothing
pub accepted_unrefused : (p : Program) (r : Refusal) → IsAccepted p → IsProgramRefused p r → ⊥
accepted_unrefused p _ a (broken f h) = breaks p _ f a.rules
accepted_unrefused p _ a (quantifier_shape r h) = has_fault p _ h a.shapes
accepted_unrefused p _ a (item_shape r h) = has_fault p _ h a.shapes
accepted_unrefused p _ a (not_built r s n) = n a.small

-- a program that breaks a rule is refused for it
pub refused_by_types : (p : Program) (e : TypeFault) (r : Result Unit TextFault) → IsFirstFault p e → IsChosen p e
    → IsErrAnd r (OfTypes e) → IfErr r (λ fault. RefusesProgram p fault)
refused_by_types p e (Ok u) first chosen k = tt
refused_by_types p (types.Broken rule span) (Err f) first chosen k =
    subst (λ (x : TextFault). RefusesProgram p x) (sym k) (broken first chosen)
refused_by_types p types.NoMemory (Err f) first chosen k = subst (λ (x : TextFault). RefusesProgram p x) (sym k) tt

-- a program that breaks none, and has a fault of shape, is refused for that
pub refused_by_shapes : (p : Program) (e : ShapeFault) (r : Result Unit TextFault) → KeepsRules p
    → shapes.first_of (shapes.shape_faults_of p) ≡ Some e → IsErrAnd r (OfShapes e) → IfErr r (λ fault. RefusesProgram p fault)
refused_by_shapes p e (Ok u) keeps first k = tt
refused_by_shapes p (shape.QuantifierShape span) (Err f) keeps first k =
    subst (λ (x : TextFault). RefusesProgram p x) (sym k) (quantifier_shape keeps first)
refused_by_shapes p (shape.ItemShape span) (Err f) keeps first k =
    subst (λ (x : TextFault). RefusesProgram p x) (sym k) (item_shape keeps first)
