-- Where expressions and statements of a program stand, and where what they become stands in its plain tree.
use Rattle.std.proofs.Common.{◌≡◌, Bool, true, false, Some, List, refl}
use Rattle.std.proofs.lemmas.Bool.{both_ways}
use Rattle.pv_base.specs.declared.Name.{Name}
use Rattle.pv_ast.specs.declared.Operator.{Operator}
use Rattle.pv_ast.specs.declared.Operator.TheVariants as op
use Rattle.pv_ast.specs.declared.PvType.{PvType}
use Rattle.pv_ast.specs.declared.Method.{Method}
use Rattle.pv_ast.specs.declared.Predicate.{Predicate}
use Rattle.pv_ast.specs.declared.Program.{Program}
use Rattle.pv_ast.specs.declared.standing.Context.{Context}
use Rattle.pv_ast.specs.Rules.Lookup as rules
use Rattle.pv_ast.specs.Rules.Lookup.{class_named, is_declared_type}
use Rattle.pv_ast.specs.Rules.Scoping.{Visible}
use Rattle.pv_ast.specs.Rules.Typing as typing
use Rattle.pv_ast.specs.Rules.Expressions as parts
use Rattle.pv_ast.specs.Rules.Expressions.{Environment, members_of, type_of_field, under_quantifier}
use Rattle.pv_ast.specs.Rules.Statements.{option_type, in_statement}
use Rattle.pv_picks.specs.Plain.Core as core
use Rattle.pv_picks.specs.Plain.Members.{field_type, method_named, predicate_named}
use Rattle.core_trees.proofs.Sound.{Sound}
use Rattle.pv_picks.specs.Typing.Expressions.{Home, Speech, silent, IsDeclared}
use Rattle.pv_picks.specs.Typing.Blocks.{types_of}
use Rattle.core_typing.proofs.Scopes.{Lists}

-- what a method of a program is in its plain tree
pub record IsMethodThere (tree : core.Program) (class name : Name) (m : Method) : Type 0 where
  pub there : core.Method
  pub found : method_named tree class name ≡ Some there
  pub types : types_of there.parameters ≡ parts.types_of m.params
  pub result : there.result ≡ option_type m.result

-- what a predicate of a program is in its plain tree
pub record IsPredicateThere (tree : core.Program) (class name : Name) (q : Predicate) : Type 0 where
  pub there : core.Predicate
  pub found : predicate_named tree class name ≡ Some there
  pub types : types_of there.parameters ≡ parts.types_of q.params

-- a plain tree declares the fields, methods and predicates of a program, and each type of a result is one that a declaration may
-- have
pub record Declares (p : Program) (tree : core.Program) : Type 0 where
  pub fields : (class field : Name) (type : PvType) → type_of_field (class_named p.classes class) field ≡ Some type
      → field_type tree class field ≡ Some type
  pub methods : (class name : Name) (m : Method) → rules.method_named (members_of (class_named p.classes class)) name ≡ Some m
      → IsMethodThere tree class name m
  pub predicates : (class name : Name) (q : Predicate) → rules.predicate_named (members_of (class_named p.classes class)) name
      ≡ Some q → IsPredicateThere tree class name q
  pub results : (class name : Name) (m : Method) (type : PvType)
      → rules.method_named (members_of (class_named p.classes class)) name ≡ Some m → option_type m.result ≡ Some type
      → is_declared_type p.classes type ≡ true

pub record Place (h : Home) (a : Environment) (v : Visible) (xs : List core.Parameter) : Type 0 where
  pub sound : Sound h.program a v
  pub declares : Declares a.program h.program
  pub class : a.class ≡ h.class
  pub listed : Lists v xs

-- the fields of the program have types that are declared
abbrev pub FieldsDeclared : Home → Type 0
FieldsDeclared h = (class field : Name) (type : PvType) → field_type h.program class field ≡ Some type → IsDeclared type

-- what a context allows to be spoken of, a speech does: `\result`, which has its type there, and `\old`
pub record Speaks (speech : Speech) (a : Environment) (c : Context) : Type 0 where
  pub result : c.result ≡ true → speech.result ≡ a.result
  pub old : c.old ≡ true → speech.old ≡ true

pub says_nothing : (speech : Speech) (a : Environment) (c : Context) → c.result ≡ false → c.old ≡ false → Speaks speech a c
says_nothing speech a c result old =
    record { result = λ i. absurd (both_ways c.result result i); old = λ i. absurd (both_ways c.old old i) }

pub speaks_purely : {speech : Speech} {a : Environment} {c : Context} → Speaks speech a c → Speaks speech a (typing.purely c)
speaks_purely h = record { result = h.result; old = h.old }

pub speaks_left : {speech : Speech} {a : Environment} {c : Context} (o : Operator) → Speaks speech a c
    → Speaks speech a (typing.under_left o c)
speaks_left op.Eq h = speaks_purely h
speaks_left op.Ne h = speaks_purely h
speaks_left op.And h = speaks_purely h
speaks_left op.Or h = speaks_purely h
speaks_left op.Implies h = speaks_purely h
speaks_left _ h = h

pub speaks_right : {speech : Speech} {a : Environment} {c : Context} (o : Operator) → Speaks speech a c
    → Speaks speech a (typing.under_right o c)
speaks_right op.Eq h = speaks_purely h
speaks_right op.Ne h = speaks_purely h
speaks_right op.And h = speaks_purely h
speaks_right op.Or h = speaks_purely h
speaks_right _ h = h

pub speaks_quantified : {speech : Speech} {a : Environment} {c : Context} (star : Bool) → Speaks speech a c
    → Speaks speech a (under_quantifier star c)
speaks_quantified true h = h
speaks_quantified false h = speaks_purely h

-- a context in which nothing but what is pure may stand
pub record Strict (speech : Speech) (a : Environment) (c : Context) : Type 0 where
  pub pure : c.pure ≡ true
  pub speaks : Speaks speech a c

pub statement_strict : (a : Environment) → Strict silent a in_statement
statement_strict a = record { pure = refl; speaks = says_nothing silent a in_statement refl refl }
