-- What worked programs become, written out. checks/meaning.py works this file out from the texts, apart from the definitions.
use Rattle.std.specs.Prelude.{pos, true, false, Some, None, [], ◌∷◌}
use Rattle.pv_ast.specs.declared.PvType.TheVariants as type
use Rattle.pv_ast.specs.declared.Token.TheVariants as token
use Rattle.pv_values.specs.declared.value.Value.TheVariants as value
use Rattle.pv_picks.specs.Plain.Core.{Plus, Plain, Constant, This, Variable, Field, Compute, Equal, FieldPermission, Holds, Instance, Star, When, NoItems, Join, Fixed, Fork, Lock, Unlock, Commit, Nowhere, ToVariable, ToField, Value', Call, NewObject, Assign, If, Members, Meet, Act, Fold, Unfold, Send, Receive, Stop, Then, IsField, IsPredicate, IsMethod, Class, Program}
use Rattle.worked_programs.specs.Nodes.{name, at}
use Rattle.worked_programs.specs.CoreNodes.{always, contract, shared, team, barrier, message, predicate, method, class}

abbrev pub handed_cell : Class
handed_cell = class (name 1) (Some (FieldPermission This (name 1) (name 0) type.Int 5342931457063200 (at 15 29)))
    (IsField ((name 0), type.Int) ∷ IsMethod (method None ([]) None
    (contract (Holds token.Committed (name 1) This (at 64 79)) always)
    (Then (Act Lock (name 1) This (at 93 103))
    (Then (Assign (ToField This (name 1) (name 0) (at 108 109)) (Value' (Constant (value.Number (pos 1)))) (at 108 114))
    (Then (Act Unlock (name 1) This (at 119 131)) Stop))) false) ∷ [])

abbrev pub handed_main : Class
handed_main =
    class (name 2) None
    (IsMethod (method (Some (name 3)) ([]) None (contract always always)
    (Then (Assign (ToVariable (name 4)) (NewObject (name 1)) (at 171 191))
    (Then (Act Commit (name 1) (Variable (name 4)) (at 196 205))
    (Then (Act Fork (name 1) (Variable (name 4)) (at 210 217))
    (Then (Act Lock (name 1) (Variable (name 4)) (at 222 229))
    (Then (Assign (ToField (Variable (name 4)) (name 1) (name 0) (at 234 237)) (Value' (Constant (value.Number (pos 2))))
    (at 234 242)) (Then (Act Unlock (name 1) (Variable (name 4)) (at 247 256)) Stop)))))) false) ∷ [])

abbrev pub handed : Program
handed = (handed_cell ∷ handed_main ∷ [])

abbrev pub relay_relay : Class
relay_relay = class (name 0) None (IsField ((name 1), type.Int)
    ∷ IsMethod (method (Some (name 2)) ([]) None
    (contract (FieldPermission This (name 0) (name 1) type.Int 5342931457063200 (at 34 48)) always)
    (Then
    (Members (team false (name 4) (Constant (value.Number (pos 0))) (Constant (value.Number (pos 2)))
    (shared
    (contract (When (Equal true (Variable (name 4)) (Constant (value.Number (pos 0))))
    (FieldPermission This (name 0) (name 1) type.Int 5342931457063200 (at 111 136)) (at 111 136)) always)
    (Join (Fixed (Constant (value.Number (pos 0))) (FieldPermission This (name 0) (name 1) type.Int 5342931457063200 (at 111 136))
    (at 111 136)) NoItems) NoItems))
    (Then (If (Equal true (Variable (name 4)) (Constant (value.Number (pos 0))))
    (Then (Assign (ToField This (name 0) (name 1) (at 164 165)) (Value' (Constant (value.Number (pos 1)))) (at 164 170)) Stop)
    Stop)
    (Then
    (Meet
    (barrier (0 ∷ 0 ∷ 1 ∷ [])
    (shared
    (contract (When (Equal true (Variable (name 4)) (Constant (value.Number (pos 0))))
    (FieldPermission This (name 0) (name 1) type.Int 5342931457063200 (at 212 237)) (at 212 237))
    (When (Equal true (Variable (name 4)) (Constant (value.Number (pos 1))))
    (FieldPermission This (name 0) (name 1) type.Int 5342931457063200 (at 255 280)) (at 255 280)))
    (Join (Fixed (Constant (value.Number (pos 0))) (FieldPermission This (name 0) (name 1) type.Int 5342931457063200 (at 212 237))
    (at 212 237)) NoItems)
    (Join (Fixed (Constant (value.Number (pos 1))) (FieldPermission This (name 0) (name 1) type.Int 5342931457063200 (at 255 280))
    (at 255 280)) NoItems))) (at 179 289)) (Then
    (If (Equal true (Variable (name 4)) (Constant (value.Number (pos 1))))
    (Then (Assign (ToField This (name 0) (name 1) (at 310 311)) (Value' (Constant (value.Number (pos 2)))) (at 310 316)) Stop)
    Stop) Stop))) (at 71 324)) Stop) false) ∷ [])

abbrev pub relay : Program
relay = (relay_relay ∷ [])

abbrev pub posted_post : Class
posted_post = class (name 0) None (IsField ((name 1), type.Int)
    ∷ IsMethod (method (Some (name 2)) ([]) None
    (contract (FieldPermission This (name 0) (name 1) type.Int 5342931457063200 (at 33 47)) always)
    (Then
    (Members (team true (name 3) (Constant (value.Number (pos 0))) (Constant (value.Number (pos 2)))
    (shared
    (contract (When (Equal true (Variable (name 3)) (Constant (value.Number (pos 0))))
    (FieldPermission This (name 0) (name 1) type.Int 5342931457063200 (at 105 130)) (at 105 130)) always)
    (Join (Fixed (Constant (value.Number (pos 0))) (FieldPermission This (name 0) (name 1) type.Int 5342931457063200 (at 105 130))
    (at 105 130)) NoItems) NoItems))
    (Then (If (Equal true (Variable (name 3)) (Constant (value.Number (pos 0))))
    (Then (Assign (ToField This (name 0) (name 1) (at 158 159)) (Value' (Constant (value.Number (pos 1)))) (at 158 164)) Stop)
    Stop)
    (Then
    (Send
    (message (name 4) 1 (When (Equal true (Variable (name 3)) (Constant (value.Number (pos 0))))
    (FieldPermission This (name 0) (name 1) type.Int 5342931457063200 (at 184 209)) (at 184 209))) (at 173 210))
    (Then
    (Receive
    (message (name 4) 1 (When (Equal true (Variable (name 3)) (Constant (value.Number (pos 0))))
    (FieldPermission This (name 0) (name 1) type.Int 5342931457063200 (at 184 209)) (at 184 209))) (at 217 224))
    (Then (If (Equal true (Variable (name 3)) (Constant (value.Number (pos 1))))
    (Then (Assign (ToField This (name 0) (name 1) (at 245 246)) (Value' (Constant (value.Number (pos 2)))) (at 245 251)) Stop)
    Stop) Stop)))) (at 69 259)) Stop) false) ∷ [])

abbrev pub posted : Program
posted = (posted_post ∷ [])

abbrev pub list_node : Class
list_node = class (name 0) None (IsField ((name 1), type.Int) ∷ IsField ((name 2), (type.Object (name 0)))
    ∷ IsPredicate
    (predicate (name 3) ([])
    (Star (Star (FieldPermission This (name 0) (name 1) type.Int 5342931457063200 (at 53 67))
    (FieldPermission This (name 0) (name 2) (type.Object (name 0)) 5342931457063200 (at 71 88)))
    (When (Equal false (Field This (name 0) (name 2) (at 93 97)) (Constant (value.Reference 0)))
    (Instance (name 0) (name 3) (Field This (name 0) (name 2) (at 110 114)) ([]) (at 93 121)) (at 93 121))))
    ∷ IsMethod (method (Some (name 4)) ([]) None
    (contract (Instance (name 0) (name 3) This ([]) (at 135 141)) (Instance (name 0) (name 3) This ([]) (at 153 159)))
    (Then (Unfold (name 0) (name 3) This ([]) (at 179 193))
    (Then (Assign (ToField This (name 0) (name 1) (at 198 199))
    (Value' (Compute Plain Plus (Field This (name 0) (name 1) (at 202 203)) (Constant (value.Number (pos 1))) (at 202 207)))
    (at 198 208))
    (Then (If (Equal false (Field This (name 0) (name 2) (at 217 221)) (Constant (value.Reference 0)))
    (Then (Assign Nowhere (Call (name 0) (name 4) (Field This (name 0) (name 2) (at 233 237)) ([])) (at 233 243)) Stop) Stop)
    (Then (Fold (name 0) (name 3) This ([]) (at 250 262)) Stop)))) false) ∷ [])

abbrev pub list_main : Class
list_main =
    class (name 5) None
    (IsMethod (method (Some (name 6)) ([]) None (contract always always)
    (Then (Assign (ToVariable (name 7)) (NewObject (name 0)) (at 301 321))
    (Then (Fold (name 0) (name 3) (Variable (name 7)) ([]) (at 326 340))
    (Then (Assign (ToVariable (name 8)) (NewObject (name 0)) (at 345 365))
    (Then (Assign (ToField (Variable (name 8)) (name 0) (name 2) (at 370 376)) (Value' (Variable (name 7))) (at 370 381))
    (Then (Fold (name 0) (name 3) (Variable (name 8)) ([]) (at 386 400))
    (Then (Assign Nowhere (Call (name 0) (name 4) (Variable (name 8)) ([])) (at 405 412)) Stop)))))) false) ∷ [])

abbrev pub list : Program
list = (list_node ∷ list_main ∷ [])

abbrev pub members_race_race : Class
members_race_race = class (name 0) None (IsField ((name 1), type.Int)
    ∷ IsMethod (method (Some (name 2)) ([]) None (contract always always)
    (Then
    (Members (team false (name 3) (Constant (value.Number (pos 0))) (Constant (value.Number (pos 2)))
    (shared (contract always always) NoItems NoItems))
    (Then (Assign (ToField This (name 0) (name 1) (at 71 72)) (Value' (Variable (name 3))) (at 71 77)) Stop) (at 42 83)) Stop)
    false) ∷ [])

abbrev pub members_race : Program
members_race = (members_race_race ∷ [])

abbrev pub overwritten_last : Class
overwritten_last = class (name 0) None (IsField ((name 1), type.Int)
    ∷ IsMethod (method (Some (name 2)) ([]) None (contract always always)
    (Then
    (Members (team true (name 3) (Constant (value.Number (pos 0))) (Constant (value.Number (pos 2)))
    (shared (contract always always) NoItems NoItems))
    (Then (Assign (ToField This (name 0) (name 1) (at 71 72)) (Value' (Variable (name 3))) (at 71 77)) Stop) (at 42 83)) Stop)
    false) ∷ [])

abbrev pub overwritten : Program
overwritten = (overwritten_last ∷ [])

abbrev pub divided_share : Class
divided_share = class (name 0) None (IsField ((name 1), type.Int)
    ∷ IsMethod (method (Some (name 2)) ([]) None
    (contract (FieldPermission This (name 0) (name 1) type.Int 5342931457063200 (at 34 48))
    (FieldPermission This (name 0) (name 1) type.Int 5342931457063200 (at 60 74)))
    (Then
    (Members (team false (name 3) (Constant (value.Number (pos 0))) (Constant (value.Number (pos 2)))
    (shared
    (contract
    (Star (When (Equal true (Variable (name 3)) (Constant (value.Number (pos 0))))
    (FieldPermission This (name 0) (name 1) type.Int 2671465728531600 (at 133 156)) (at 133 156))
    (When (Equal true (Variable (name 3)) (Constant (value.Number (pos 1))))
    (FieldPermission This (name 0) (name 1) type.Int 2671465728531600 (at 173 196)) (at 173 196)))
    (Star (When (Equal true (Variable (name 3)) (Constant (value.Number (pos 0))))
    (FieldPermission This (name 0) (name 1) type.Int 2671465728531600 (at 212 235)) (at 212 235))
    (When (Equal true (Variable (name 3)) (Constant (value.Number (pos 1))))
    (FieldPermission This (name 0) (name 1) type.Int 2671465728531600 (at 251 274)) (at 251 274))))
    (Join (Fixed (Constant (value.Number (pos 0))) (FieldPermission This (name 0) (name 1) type.Int 2671465728531600 (at 133 156))
    (at 133 156))
    (Join (Fixed (Constant (value.Number (pos 1))) (FieldPermission This (name 0) (name 1) type.Int 2671465728531600 (at 173 196))
    (at 173 196)) NoItems))
    (Join (Fixed (Constant (value.Number (pos 0))) (FieldPermission This (name 0) (name 1) type.Int 2671465728531600 (at 212 235))
    (at 212 235))
    (Join (Fixed (Constant (value.Number (pos 1))) (FieldPermission This (name 0) (name 1) type.Int 2671465728531600 (at 251 274))
    (at 251 274)) NoItems))))
    (Then (Assign (ToVariable (name 4)) (Value' (Field This (name 0) (name 1) (at 296 297))) (at 288 298)) Stop) (at 97 304))
    (Then (Assign (ToField This (name 0) (name 1) (at 309 310)) (Value' (Constant (value.Number (pos 3)))) (at 309 315)) Stop))
    false) ∷ [])

abbrev pub divided : Program
divided = (divided_share ∷ [])
