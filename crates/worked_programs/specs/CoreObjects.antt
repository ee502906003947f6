-- What worked programs become, written out. checks/meaning.py works this file out from the texts, apart from the definitions.
use Rattle.std.specs.Prelude.{pos, true, false, Some, None, [], ◌∷◌}
use Rattle.pv_ast.specs.declared.PvType.TheVariants as type
use Rattle.pv_values.specs.declared.value.Value.TheVariants as value
use Rattle.pv_picks.specs.Plain.Core.{Plus, Plain, Tabled, Less, AtMost, Constant, This, Variable, Field, Compute, Compare, Equal, Old, Fact, FieldPermission, Instance, Star, Fork, Nowhere, ToVariable, ToField, Value', Call, Assign, If, While, Act, Fold, Unfold, Assert, Stop, Then, IsField, IsPredicate, IsMethod, Class, Program}
use Rattle.worked_programs.specs.Nodes.{name, at}
use Rattle.worked_programs.specs.CoreNodes.{always, contract, predicate, method, class}

abbrev pub counter_counter : Class
counter_counter = class (name 0) None (IsField ((name 1), type.Int)
    ∷ IsMethod (method (Some (name 2)) ([]) None
    (contract (FieldPermission This (name 0) (name 1) type.Int 5342931457063200 (at 36 50))
    (Star (FieldPermission This (name 0) (name 1) type.Int 5342931457063200 (at 62 76))
    (Fact (Equal true (Field This (name 0) (name 1) (at 80 81))
    (Compute Plain Plus (Old (Field This (name 0) (name 1) (at 90 91))) (Constant (value.Number (pos 1))) (at 85 96)))
    (at 80 96))))
    (Then (Assign (ToField This (name 0) (name 1) (at 118 119))
    (Value' (Compute Plain Plus (Field This (name 0) (name 1) (at 122 123)) (Constant (value.Number (pos 1))) (at 122 127)))
    (at 118 128)) Stop) true) ∷ [])

abbrev pub counter : Program
counter = (counter_counter ∷ [])

abbrev pub counter_by_two_counter : Class
counter_by_two_counter = class (name 0) None (IsField ((name 1), type.Int)
    ∷ IsMethod (method (Some (name 2)) ([]) None
    (contract (FieldPermission This (name 0) (name 1) type.Int 5342931457063200 (at 36 50))
    (Star (FieldPermission This (name 0) (name 1) type.Int 5342931457063200 (at 62 76))
    (Fact (Equal true (Field This (name 0) (name 1) (at 80 81))
    (Compute Plain Plus (Old (Field This (name 0) (name 1) (at 90 91))) (Constant (value.Number (pos 1))) (at 85 96)))
    (at 80 96))))
    (Then (Assign (ToField This (name 0) (name 1) (at 118 119))
    (Value' (Compute Plain Plus (Field This (name 0) (name 1) (at 122 123)) (Constant (value.Number (pos 2))) (at 122 127)))
    (at 118 128)) Stop) true) ∷ [])

abbrev pub counter_by_two : Program
counter_by_two = (counter_by_two_counter ∷ [])

abbrev pub half_half : Class
half_half = class (name 0) None (IsField ((name 1), type.Int)
    ∷ IsMethod (method (Some (name 2)) ([]) None
    (contract (FieldPermission This (name 0) (name 1) type.Int 2671465728531600 (at 33 45)) always)
    (Then (Assign (ToField This (name 0) (name 1) (at 66 67)) (Value' (Constant (value.Number (pos 1)))) (at 66 72)) Stop) false)
    ∷ [])

abbrev pub half : Program
half = (half_half ∷ [])

abbrev pub writers_writer : Class
writers_writer = class (name 0) None (IsField ((name 2), (type.Object (name 1)))
    ∷ IsMethod (method None ([]) None (contract always always)
    (Then (Assign (ToField (Field This (name 0) (name 2) (at 37 38)) (name 1) (name 3) (at 37 40))
    (Value' (Constant (value.Number (pos 1)))) (at 37 45)) Stop) false) ∷ [])

abbrev pub writers_cell : Class
writers_cell = class (name 1) None (IsField ((name 3), type.Int) ∷ [])

abbrev pub writers_main : Class
writers_main =
    class (name 4) None
    (IsMethod (method (Some (name 5)) (((name 6), (type.Object (name 0))) ∷ ((name 7), (type.Object (name 0))) ∷ []) None
    (contract always always) (Then (Act Fork (name 0) (Variable (name 6)) (at 120 127))
    (Then (Act Fork (name 0) (Variable (name 7)) (at 128 135)) Stop)) false) ∷ [])

abbrev pub writers : Program
writers = (writers_writer ∷ writers_cell ∷ writers_main ∷ [])

abbrev pub alias_box : Class
alias_box = class (name 0) None (IsField ((name 1), type.Int) ∷ [])

abbrev pub alias_alias : Class
alias_alias =
    class (name 2) None
    (IsMethod (method (Some (name 5)) (((name 3), (type.Object (name 0))) ∷ ((name 4), (type.Object (name 0))) ∷ []) None
    (contract
    (Star (Star (FieldPermission (Variable (name 3)) (name 0) (name 1) type.Int 2671465728531600 (at 46 60))
    (FieldPermission (Variable (name 4)) (name 0) (name 1) type.Int 2671465728531600 (at 64 78)))
    (Fact (Equal true (Field (Variable (name 4)) (name 0) (name 1) (at 82 85)) (Constant (value.Number (pos 3)))) (at 82 90)))
    always)
    (Then (If (Equal true (Variable (name 3)) (Variable (name 4)))
    (Then (Assign (ToField (Variable (name 3)) (name 0) (name 1) (at 137 140)) (Value' (Constant (value.Number (pos 4))))
    (at 137 145))
    (Then (Assert (Fact (Equal true (Field (Variable (name 4)) (name 0) (name 1) (at 153 156)) (Constant (value.Number (pos 3))))
    (at 153 161)) (at 146 162)) Stop)) Stop) Stop) false) ∷ [])

abbrev pub alias : Program
alias = (alias_box ∷ alias_alias ∷ [])

abbrev pub account_acc : Class
account_acc = class (name 0) None (IsField ((name 1), type.Int)
    ∷ IsMethod (method (Some (name 3)) (((name 2), type.Int) ∷ []) None
    (contract (Star (FieldPermission This (name 0) (name 1) type.Int 5342931457063200 (at 32 46))
    (Fact (Compare AtMost (Constant (value.Number (pos 0))) (Variable (name 2))) (at 50 56)))
    (Star (FieldPermission This (name 0) (name 1) type.Int 5342931457063200 (at 68 82))
    (Fact (Equal true (Field This (name 0) (name 1) (at 86 87))
    (Compute Plain Plus (Old (Field This (name 0) (name 1) (at 96 97))) (Constant (value.Number (pos 1))) (at 91 102)))
    (at 86 102))))
    (Then (Assign (ToField This (name 0) (name 1) (at 124 125))
    (Value' (Compute Plain Plus (Field This (name 0) (name 1) (at 128 129)) (Constant (value.Number (pos 1))) (at 128 133)))
    (at 124 134)) Stop) true) ∷ IsMethod (method (Some (name 4)) ([]) None
    (contract (Star (FieldPermission This (name 0) (name 1) type.Int 5342931457063200 (at 148 162))
    (Fact (Equal true (Field This (name 0) (name 1) (at 166 167)) (Constant (value.Number (pos 0)))) (at 166 172)))
    (Star (FieldPermission This (name 0) (name 1) type.Int 5342931457063200 (at 184 198))
    (Fact (Equal true (Field This (name 0) (name 1) (at 202 203)) (Constant (value.Number (pos 5)))) (at 202 208))))
    (Then (Assign (ToVariable (name 2)) (Value' (Constant (value.Number (pos 0)))) (at 230 240))
    (Then (While (((name 2), type.Int) ∷ []) (Star (FieldPermission This (name 0) (name 1) type.Int 5342931457063200 (at 260 274))
    (Star (Fact (Equal true (Field This (name 0) (name 1) (at 278 279)) (Variable (name 2))) (at 278 284))
    (Fact (Compare AtMost (Variable (name 2)) (Constant (value.Number (pos 5)))) (at 288 294))))
    (Compare Less (Variable (name 2)) (Constant (value.Number (pos 5))))
    (Then (Assign Nowhere (Call (name 0) (name 3) This ((Variable (name 2)) ∷ [])) (at 316 323))
    (Then
    (Assign (ToVariable (name 2)) (Value' (Compute Plain Plus (Variable (name 2)) (Constant (value.Number (pos 1))) (at 328 333)))
    (at 324 334)) Stop)) (at 245 336)) Stop)) false) ∷ [])

abbrev pub account : Program
account = (account_acc ∷ [])

abbrev pub account_kept_acc : Class
account_kept_acc = class (name 0) None (IsField ((name 1), type.Int)
    ∷ IsMethod (method (Some (name 3)) (((name 2), type.Int) ∷ []) None
    (contract (Star (FieldPermission This (name 0) (name 1) type.Int 5342931457063200 (at 32 46))
    (Fact (Compare AtMost (Constant (value.Number (pos 0))) (Variable (name 2))) (at 50 56)))
    (Star (FieldPermission This (name 0) (name 1) type.Int 5342931457063200 (at 68 82))
    (Fact (Equal true (Field This (name 0) (name 1) (at 86 87))
    (Compute Plain Plus (Old (Field This (name 0) (name 1) (at 96 97))) (Constant (value.Number (pos 1))) (at 91 102)))
    (at 86 102))))
    (Then (Assign (ToField This (name 0) (name 1) (at 124 125))
    (Value' (Compute Plain Plus (Field This (name 0) (name 1) (at 128 129)) (Constant (value.Number (pos 1))) (at 128 133)))
    (at 124 134)) Stop) true) ∷ IsMethod (method (Some (name 4)) ([]) None
    (contract (Star (FieldPermission This (name 0) (name 1) type.Int 5342931457063200 (at 148 162))
    (Fact (Equal true (Field This (name 0) (name 1) (at 166 167)) (Constant (value.Number (pos 0)))) (at 166 172)))
    (Star (FieldPermission This (name 0) (name 1) type.Int 5342931457063200 (at 184 198))
    (Fact (Equal true (Field This (name 0) (name 1) (at 202 203)) (Constant (value.Number (pos 5)))) (at 202 208))))
    (Then (Assign (ToVariable (name 2)) (Value' (Constant (value.Number (pos 0)))) (at 230 240))
    (Then (While (((name 2), type.Int) ∷ []) (Star (FieldPermission This (name 0) (name 1) type.Int 5342931457063200 (at 260 274))
    (Star (Star (Fact (Equal true (Field This (name 0) (name 1) (at 278 279)) (Variable (name 2))) (at 278 284))
    (Fact (Compare AtMost (Constant (value.Number (pos 0))) (Variable (name 2))) (at 288 294)))
    (Fact (Compare AtMost (Variable (name 2)) (Constant (value.Number (pos 5)))) (at 298 304))))
    (Compare Less (Variable (name 2)) (Constant (value.Number (pos 5))))
    (Then (Assign Nowhere (Call (name 0) (name 3) This ((Variable (name 2)) ∷ [])) (at 326 333))
    (Then
    (Assign (ToVariable (name 2)) (Value' (Compute Plain Plus (Variable (name 2)) (Constant (value.Number (pos 1))) (at 338 343)))
    (at 334 344)) Stop)) (at 245 346)) Stop)) false) ∷ [])

abbrev pub account_kept : Program
account_kept = (account_kept_acc ∷ [])

abbrev pub chain_node : Class
chain_node = class (name 0) None (IsField ((name 1), type.Int)
    ∷ IsPredicate (predicate (name 2) (((name 3), type.Int) ∷ [])
    (Star (FieldPermission This (name 0) (name 1) type.Int 5342931457063200 (at 46 60))
    (Fact (Equal true (Field This (name 0) (name 1) (at 64 65)) (Variable (name 3))) (at 64 70))))
    ∷ IsMethod (method (Some (name 4)) ([]) None
    (contract (Instance (name 0) (name 2) This ((Constant (value.Number (pos 1))) ∷ []) (at 83 89))
    (Instance (name 0) (name 2) This ((Constant (value.Number (pos 2))) ∷ []) (at 101 107)))
    (Then (Unfold (name 0) (name 2) This ((Constant (value.Number (pos 1))) ∷ []) (at 127 141))
    (Then (Assign (ToField This (name 0) (name 1) (at 146 147))
    (Value' (Compute Plain Plus (Field This (name 0) (name 1) (at 150 151)) (Constant (value.Number (pos 1))) (at 150 155)))
    (at 146 156)) (Then (Fold (name 0) (name 2) This ((Constant (value.Number (pos 2))) ∷ []) (at 161 173)) Stop))) false) ∷ [])

abbrev pub chain : Program
chain = (chain_node ∷ [])

abbrev pub chain_by_two_node : Class
chain_by_two_node = class (name 0) None (IsField ((name 1), type.Int)
    ∷ IsPredicate (predicate (name 2) (((name 3), type.Int) ∷ [])
    (Star (FieldPermission This (name 0) (name 1) type.Int 5342931457063200 (at 46 60))
    (Fact (Equal true (Field This (name 0) (name 1) (at 64 65)) (Variable (name 3))) (at 64 70))))
    ∷ IsMethod (method (Some (name 4)) ([]) None
    (contract (Instance (name 0) (name 2) This ((Constant (value.Number (pos 1))) ∷ []) (at 83 89))
    (Instance (name 0) (name 2) This ((Constant (value.Number (pos 2))) ∷ []) (at 101 107)))
    (Then (Unfold (name 0) (name 2) This ((Constant (value.Number (pos 1))) ∷ []) (at 127 141))
    (Then (Assign (ToField This (name 0) (name 1) (at 146 147))
    (Value' (Compute Plain Plus (Field This (name 0) (name 1) (at 150 151)) (Constant (value.Number (pos 2))) (at 150 155)))
    (at 146 156)) (Then (Fold (name 0) (name 2) This ((Constant (value.Number (pos 2))) ∷ []) (at 161 173)) Stop))) false) ∷ [])

abbrev pub chain_by_two : Program
chain_by_two = (chain_by_two_node ∷ [])

abbrev pub sum_sum : Class
sum_sum =
    class (name 0) None
    (IsMethod (method (Some (name 1)) (((name 2), type.Int) ∷ ((name 3), type.Int) ∷ []) None (contract always always)
    (Then (Assign (ToVariable (name 4)) (Value' (Compute Tabled Plus (Variable (name 2)) (Variable (name 3)) (at 52 57)))
    (at 44 58))
    (Then (Assert (Fact (Equal true (Variable (name 4)) (Compute Tabled Plus (Variable (name 2)) (Variable (name 3)) (at 75 80)))
    (at 70 80)) (at 63 81)) Stop)) false) ∷ IsMethod
    (method (Some (name 5)) (((name 2), type.Int) ∷ ((name 3), type.Int) ∷ []) None
    (contract (Fact (Compare AtMost (Variable (name 3)) (Constant (value.Number (pos 0)))) (at 97 103)) always)
    (Then (Assign (ToVariable (name 4)) (Value' (Compute Tabled Plus (Variable (name 2)) (Variable (name 3)) (at 145 150)))
    (at 137 151)) (Then (Assert (Fact (Compare AtMost (Variable (name 4)) (Variable (name 2))) (at 163 169)) (at 156 170)) Stop))
    false) ∷ [])

abbrev pub sum : Program
sum = (sum_sum ∷ [])

abbrev pub grow_grow : Class
grow_grow =
    class (name 0) None
    (IsMethod (method (Some (name 1)) ([]) None (contract always always)
    (Then (Assign (ToVariable (name 2)) (Value' (Constant (value.Number (pos 1)))) (at 33 43))
    (Then (Assign (ToVariable (name 3)) (Value' (Constant (value.Number (pos 0)))) (at 48 58))
    (Then (While (((name 2), type.Int) ∷ ((name 3), type.Int) ∷ []) (Fact (Constant (value.Truth true)) (at 78 82))
    (Compare Less (Variable (name 3)) (Constant (value.Number (pos 200))))
    (Then (Assign (ToVariable (name 2)) (Value' (Compute Tabled Plus (Variable (name 2)) (Variable (name 2)) (at 116 121)))
    (at 112 122))
    (Then
    (Assign (ToVariable (name 3)) (Value' (Compute Plain Plus (Variable (name 3)) (Constant (value.Number (pos 1))) (at 133 138)))
    (at 129 139)) Stop)) (at 63 145)) Stop))) false) ∷ [])

abbrev pub grow : Program
grow = (grow_grow ∷ [])
