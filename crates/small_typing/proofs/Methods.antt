-- What the static rules say of small methods.
use Rattle.std.proofs.Common.{◌≡◌, ℕ, Bool, true, false, not, ◌||◌, ◌&&◌, nat_eq, if◌then◌else◌, Option, Some, None, is_some, List, [], ◌∷◌, ◌++◌, refl, sym, ap, ◌∙◌, subst}
use Rattle.std.proofs.lemmas.Bool.{and_parts, and_from, not_from_false, or_from, eq-eqb, eqb-true, both_ways}
use Rattle.std.specs.List.{list_all}
use Rattle.pv_base.specs.declared.Name.{Name}
use Rattle.pv_ast.specs.declared.PvType.TheVariants.{Int}
use Rattle.pv_ast.specs.declared.TypeWord.{TypeWord}
use Rattle.pv_ast.specs.declared.Param.{Param}
use Rattle.pv_ast.specs.declared.Clause.{Clause}
use Rattle.pv_ast.specs.declared.ClauseKind.{ClauseKind}
use Rattle.pv_ast.specs.declared.ClauseKind.TheVariants.{Requires, Ensures, Context as ContextClause}
use Rattle.pv_ast.specs.declared.Method.{Method}
use Rattle.pv_ast.specs.declared.fault.Rule.TheVariants as rule
use Rattle.pv_ast.specs.declared.scope.Declaration.TheVariants.{Parameter}
use Rattle.pv_ast.specs.declared.scope.Declared.{Declared}
use Rattle.pv_ast.specs.Rules.Scoping.{Visible, nothing_visible, declared_as, is_visible}
use Rattle.pv_ast.specs.Rules.Expressions.{Environment, type_of_field}
use Rattle.pv_ast.specs.Rules.Statements.{option_type, faults_of_clause, faults_of_clauses, in_condition}
use Rattle.pv_ast.specs.Rules.Programs.{with_param, with_params, faults_of_params, faults_of_method, in_ensures, ends_with_value}
use Rattle.small_meaning.specs.Rules.{Scope, has_name, are_distinct, names_of, is_clause, is_method}
use Rattle.small_meaning.specs.Small.{is_small_result, is_small_param, is_small_clause, is_small_block, is_small_method}
use Rattle.small_typing.proofs.Clean.{Clean, if_fails}
use Rattle.small_typing.proofs.Naming.{AsNamed, Matches, put_behind, declared_behind, parameter_named}
use Rattle.small_typing.proofs.Expressions.{formula_kept}
use Rattle.small_typing.proofs.Statements.{int_type}
use Rattle.small_typing.proofs.Bodies.{type_if, body_kept}

-- Parameters

still_declared : (names : List (ℕ × Declared)) (n m : Name) (d : Declared) → is_some (declared_as names m) ≡ true
    → is_some (declared_as (names ++ (n.0, d) ∷ []) m) ≡ true
still_declared [] n m d h = cc
still_declared (entry ∷ names) n m d h = still (nat_eq m.0 entry.0) entry.1 (declared_as names m)
    (declared_as (names ++ (n.0, d) ∷ []) m) (still_declared names n m d) h
  where
    still : (b : Bool) (x : Declared) (o r : Option Declared) → (is_some o ≡ true → is_some r ≡ true)
        → is_some (if b then Some x else o) ≡ true → is_some (if b then Some x else r) ≡ true
    still true x o r next h = refl
    still false x o r next h = next h

now_declared : (names : List (ℕ × Declared)) (n m : Name) (d : Declared) → m.0 ≡ n.0
    → is_some (declared_as (names ++ (n.0, d) ∷ []) m) ≡ true
now_declared [] n m d e = ap (λ b. is_some (if b then Some d else None)) (eq-eqb m.0 n.0 e)
now_declared (entry ∷ names) n m d e = now (nat_eq m.0 entry.0) entry.1 (declared_as (names ++ (n.0, d) ∷ []) m)
    (now_declared names n m d e)
  where
    now : (b : Bool) (x : Declared) (r : Option Declared) → is_some r ≡ true → is_some (if b then Some x else r) ≡ true
    now true x r h = refl
    now false x r h = h

same_declared : (names : List (ℕ × Declared)) (n m : Name) → n.0 ≡ m.0 → declared_as names n ≡ declared_as names m
same_declared [] n m e = refl
same_declared (x ∷ xs) n m e = ap (λ k. if nat_eq k x.0 then Some x.1 else declared_as xs n) e
    ∙ ap (λ o. if nat_eq m.0 x.0 then Some x.1 else o) (same_declared xs n m e)

-- what a parameter is declared as
abbrev parameter : Param → Declared
parameter p = record { declaration = Parameter; kind = p.kind.kind }

with_new : (v : Visible) (p : Param) → is_visible v p.name.name ≡ false → with_param v p ≡ put_behind v p.name.name (parameter p)
with_new v p new = declared_behind v p.name.name (parameter p) new

-- what is in scope already is no name of a parameter
params_new : (a : Environment) (v : Visible) (ps : List Param) → Clean (faults_of_params a v ps) → (n : Name) → is_visible v n
    ≡ true → has_name (names_of ps) n.0 ≡ false
params_new a v [] clean n h = refl
params_new a v (p ∷ ps) clean n h =
    let new = if_fails (is_visible v p.name.name) rule.Shadows p.name.span clean.1.0 in
    let other : nat_eq p.name.name.0 n.0 ≡ false =
    different (nat_eq p.name.name.0 n.0) (λ e.
    both_ways (is_visible v p.name.name) new
    (ap is_some (same_declared v.names p.name.name n (eqb-true p.name.name.0 n.0 e)) ∙ h)) in
    or_from (nat_eq p.name.name.0 n.0) (has_name (names_of ps) n.0) other
    (params_new a (with_param v p) ps clean.1.1 n
    (subst (λ (w : Visible). is_visible w n ≡ true) (sym (with_new v p new))
    (still_declared v.names p.name.name n (parameter p) h)))
  where
    different : (b : Bool) → (b ≡ true → ⊥) → b ≡ false
    different true h = absurd (h refl)
    different false h = refl

params_distinct : (a : Environment) (v : Visible) (ps : List Param) → Clean (faults_of_params a v ps) → are_distinct (names_of ps)
    ≡ true
params_distinct a v [] clean = refl
params_distinct a v (p ∷ ps) clean =
    let new = if_fails (is_visible v p.name.name) rule.Shadows p.name.span clean.1.0 in
    let now = subst (λ (w : Visible). is_visible w p.name.name ≡ true) (sym (with_new v p new))
    (now_declared v.names p.name.name p.name.name (parameter p) refl) in
    and_from (not (has_name (names_of ps) p.name.name.0)) (are_distinct (names_of ps))
    (not_from_false (has_name (names_of ps) p.name.name.0) (params_new a (with_param v p) ps clean.1.1 p.name.name now))
    (params_distinct a (with_param v p) ps clean.1.1)

or_between : (x y z : Bool) → ((x || y) || z) ≡ (y || (x || z))
or_between true true z = refl
or_between true false z = refl
or_between false true z = refl
or_between false false z = refl

params_named : (a : Environment) (v : Visible) (ps : List Param) (n : Name) (p : Bool) → list_all is_small_param ps ≡ true
    → Clean (faults_of_params a v ps) → AsNamed (declared_as v.names n) p false
    → AsNamed (declared_as (with_params v ps).names n) (p || has_name (names_of ps) n.0) false
params_named a v [] n p small clean h = subst (λ (b : Bool). AsNamed (declared_as v.names n) b false) (sym (or_false p)) h
  where
    or_false : (b : Bool) → (b || false) ≡ b
    or_false true = refl
    or_false false = refl
params_named a v (q ∷ ps) n p small clean h =
    let f = and_parts (is_small_param q) (list_all is_small_param ps) small in
    let new = if_fails (is_visible v q.name.name) rule.Shadows q.name.span clean.1.0 in
    let x = nat_eq q.name.name.0 n.0 in
    let there = parameter_named v q.name.name n q.kind.kind p false (int_type q.kind.kind f.0) h in
    let there_too = subst (λ (w : Visible). AsNamed (declared_as w.names n) (x || p) false) (sym (with_new v q new)) there in
    subst (λ (b : Bool). AsNamed (declared_as (with_params (with_param v q) ps).names n) b false)
    (or_between x p (has_name (names_of ps) n.0)) (params_named a (with_param v q) ps n (x || p) f.1 clean.1.1 there_too)

params_inside : (a : Environment) (v : Visible) (ps : List Param) → Clean (faults_of_params a v ps) → (with_params v ps).outside
    ≡ v.outside
params_inside a v [] clean = refl
params_inside a v (p ∷ ps) clean =
    params_inside a (with_param v p) ps clean.1.1
    ∙ ap (λ (w : Visible). w.outside) (with_new v p (if_fails (is_visible v p.name.name) rule.Shadows p.name.span clean.1.0))

-- the scope that a method's contract and body begin in
params_match : (a : Environment) (ps : List Param) → list_all is_small_param ps ≡ true
    → Clean (faults_of_params a nothing_visible ps)
    → Matches (with_params nothing_visible ps) (record { parameters = names_of ps; locals = [] })
params_match a ps small clean = record {
  outside = params_inside a nothing_visible ps clean;
  named = λ n. params_named a nothing_visible ps n false small clean (refl, refl);
}

-- Methods

result_type : (result : Option TypeWord) → is_small_result result ≡ true → option_type result ≡ type_if (is_some result)
result_type None small = refl
result_type (Some type) small = ap Some (int_type type.kind small)

told_result : (b : Bool) → b ≡ true → type_if b ≡ Some Int
told_result true h = refl
told_result false h = cc

clause_at : (s : Scope) (a : Environment) (v : Visible) (has_result : Bool) (c : Clause) (k : ClauseKind) → c.kind ≡ k
    → Matches v s → ((n : Name) → type_of_field a.here n ≡ None) → a.result ≡ type_if has_result → is_small_clause c ≡ true
    → Clean (faults_of_clause a v (in_ensures has_result) in_condition (record { kind = k; formula = c.formula }))
    → is_clause has_result s (record { kind = k; formula = c.formula }) ≡ true
clause_at s a v b c Requires is names fields result small clean =
    formula_kept s (b && false) c.formula a v in_condition small
    (record { names = names; fields = fields; result = λ h. absurd (cc) }) clean
clause_at s a v b c ContextClause is names fields result small clean =
    formula_kept s (b && false) c.formula a v in_condition small
    (record { names = names; fields = fields; result = λ h. absurd (cc) }) clean
clause_at s a v b c Ensures is names fields result small clean =
    formula_kept s (b && true) c.formula a v (in_ensures b) small
    (record { names = names; fields = fields; result = λ h. (and_from b true h refl, result ∙ told_result b h) }) clean

clauses_kept : (s : Scope) (a : Environment) (v : Visible) (has_result : Bool) (cs : List Clause) → Matches v s
    → ((n : Name) → type_of_field a.here n ≡ None) → a.result ≡ type_if has_result → list_all is_small_clause cs ≡ true
    → Clean (faults_of_clauses a v (in_ensures has_result) in_condition cs) → list_all (is_clause has_result s) cs ≡ true
clauses_kept s a v b [] names fields result small clean = refl
clauses_kept s a v b (c ∷ cs) names fields result small clean =
    let f = and_parts (is_small_clause c) (list_all is_small_clause cs) small in
    and_from (is_clause b s c) (list_all (is_clause b s) cs) (clause_at s a v b c c.kind refl names fields result f.0 clean.0)
    (clauses_kept s a v b cs names fields result f.1 clean.1)

-- a small method without a fault, in a class without fields
pub method_kept : (a : Environment) (m : Method) → ((n : Name) → type_of_field a.here n ≡ None) → is_small_method m ≡ true
    → Clean (faults_of_method a m) → is_method m ≡ true
method_kept a m fields small clean =
    let s : Scope = record { parameters = names_of m.params; locals = [] } in
    let inside : Environment = record a { result = option_type m.result } in
    let v : Visible = with_params nothing_visible m.params in
    let formed = and_parts (is_small_result m.result && list_all is_small_param m.params
    && list_all is_small_clause m.contract.clauses) (is_small_block m.body) small in
    let contract = and_parts (is_small_result m.result && list_all is_small_param m.params)
    (list_all is_small_clause m.contract.clauses) formed.0 in
    let f = and_parts (is_small_result m.result) (list_all is_small_param m.params) contract.0 in
    let result = result_type m.result f.0 in
    let names : Matches v s = params_match inside m.params f.1 clean.1.0 in
    let clauses = clauses_kept s inside v (is_some m.result) m.contract.clauses names fields result contract.1 clean.1.1.0 in
    let ends = if_fails (is_some m.result && not (ends_with_value m.body)) rule.NoReturn m.name.span clean.1.1.1.1 in
    let body = body_kept (is_some m.result) m.body s inside v formed.1
    (record { names = names; fields = fields; result = λ h. absurd (cc) }) result ends clean.1.1.1.0 in
    and_from (are_distinct (names_of m.params) && list_all (is_clause (is_some m.result) s) m.contract.clauses) _
    (and_from (are_distinct (names_of m.params)) (list_all (is_clause (is_some m.result) s) m.contract.clauses)
    (params_distinct inside nothing_visible m.params clean.1.0) clauses) body
