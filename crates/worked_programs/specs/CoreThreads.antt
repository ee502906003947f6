-- What worked programs become, written out. checks/meaning.py works this file out from the texts, apart from the definitions.
use Rattle.std.specs.Prelude.{pos, true, false, Some, None, [], ◌∷◌}
use Rattle.pv_ast.specs.declared.PvType.TheVariants as type
use Rattle.pv_ast.specs.declared.Token.TheVariants as token
use Rattle.pv_values.specs.declared.value.Value.TheVariants as value
use Rattle.pv_picks.specs.Plain.Core.{Plus, Minus, Plain, Less, Constant, This, Variable, Field, Element, Compute, Compare, Equal, Below, Fact, FieldPermission, ElementPermission, Holds, Star, When, Each, NoItems, Join, Elements, Repeated, Guarded, Lock, Unlock, Commit, ToVariable, ToField, ToElement, Value', NewObject, Assign, If, Members, Meet, Act, Send, Receive, Stop, Then, IsField, IsMethod, Class, Program}
use Rattle.worked_programs.specs.Nodes.{name, at}
use Rattle.worked_programs.specs.CoreNodes.{always, contract, shared, team, barrier, message, method, class}

abbrev pub unheld_invariant_l : Class
unheld_invariant_l =
    class (name 1)
    (Some (Fact (Equal true (Field This (name 1) (name 0) (at 15 16)) (Constant (value.Number (pos 0)))) (at 15 21)))
    (IsField ((name 0), type.Int) ∷ [])

abbrev pub unheld_invariant : Program
unheld_invariant = (unheld_invariant_l ∷ [])

abbrev pub pair_of_two_pair : Class
pair_of_two_pair =
    class (name 2)
    (Some
    (Star (Star (FieldPermission This (name 2) (name 0) type.Int 5342931457063200 (at 15 29))
    (FieldPermission This (name 2) (name 1) type.Int 5342931457063200 (at 33 47)))
    (Fact (Equal true (Field This (name 2) (name 0) (at 51 52)) (Field This (name 2) (name 1) (at 56 57))) (at 51 57))))
    (IsField ((name 0), type.Int) ∷ IsField ((name 1), type.Int)
    ∷ IsMethod (method (Some (name 3)) ([]) None (contract (Holds token.Committed (name 2) This (at 99 114)) always)
    (Then (Act Lock (name 2) This (at 136 146))
    (Then (Assign (ToField This (name 2) (name 0) (at 151 152)) (Value' (Constant (value.Number (pos 4)))) (at 151 157))
    (Then (Assign (ToField This (name 2) (name 1) (at 162 163)) (Value' (Constant (value.Number (pos 5)))) (at 162 168))
    (Then (Act Unlock (name 2) This (at 173 185)) Stop)))) false) ∷ [])

abbrev pub pair_of_two : Program
pair_of_two = (pair_of_two_pair ∷ [])

abbrev pub pair_pair : Class
pair_pair =
    class (name 2)
    (Some
    (Star (Star (FieldPermission This (name 2) (name 0) type.Int 5342931457063200 (at 15 29))
    (FieldPermission This (name 2) (name 1) type.Int 5342931457063200 (at 33 47)))
    (Fact (Equal true (Field This (name 2) (name 0) (at 51 52)) (Field This (name 2) (name 1) (at 56 57))) (at 51 57))))
    (IsField ((name 0), type.Int) ∷ IsField ((name 1), type.Int)
    ∷ IsMethod (method (Some (name 3)) ([]) None (contract (Holds token.Committed (name 2) This (at 99 114)) always)
    (Then (Act Lock (name 2) This (at 136 146))
    (Then (Assign (ToField This (name 2) (name 0) (at 151 152)) (Value' (Constant (value.Number (pos 4)))) (at 151 157))
    (Then (Assign (ToField This (name 2) (name 1) (at 162 163)) (Value' (Constant (value.Number (pos 4)))) (at 162 168))
    (Then (Act Unlock (name 2) This (at 173 185)) Stop)))) false) ∷ [])

abbrev pub pair : Program
pair = (pair_pair ∷ [])

abbrev pub twice_pair : Class
twice_pair =
    class (name 2)
    (Some
    (Star (Star (FieldPermission This (name 2) (name 0) type.Int 5342931457063200 (at 15 29))
    (FieldPermission This (name 2) (name 1) type.Int 5342931457063200 (at 33 47)))
    (Fact (Equal true (Field This (name 2) (name 0) (at 51 52)) (Field This (name 2) (name 1) (at 56 57))) (at 51 57))))
    (IsField ((name 0), type.Int) ∷ IsField ((name 1), type.Int)
    ∷ IsMethod (method (Some (name 3)) ([]) None (contract (Holds token.Committed (name 2) This (at 99 114)) always)
    (Then (Act Lock (name 2) This (at 136 146))
    (Then (Assign (ToField This (name 2) (name 0) (at 151 152)) (Value' (Constant (value.Number (pos 4)))) (at 151 157))
    (Then (Assign (ToField This (name 2) (name 1) (at 162 163)) (Value' (Constant (value.Number (pos 4)))) (at 162 168))
    (Then (Act Unlock (name 2) This (at 173 185)) Stop)))) false) ∷ [])

abbrev pub twice_main : Class
twice_main =
    class (name 4) None
    (IsMethod (method (Some (name 5)) ([]) None (contract always always)
    (Then (Assign (ToVariable (name 6)) (NewObject (name 2)) (at 220 240))
    (Then (Act Commit (name 2) (Variable (name 6)) (at 241 250))
    (Then (Act Lock (name 2) (Variable (name 6)) (at 251 258)) (Then (Act Lock (name 2) (Variable (name 6)) (at 259 266)) Stop))))
    false) ∷ [])

abbrev pub twice : Program
twice = (twice_pair ∷ twice_main ∷ [])

abbrev pub members_par : Class
members_par =
    class (name 0) None
    (IsMethod (method (Some (name 4)) (((name 3), type.IntArray) ∷ ((name 2), type.Int) ∷ []) None
    (contract (Each (name 1) (Constant (value.Number (pos 0))) (Variable (name 2))
    (Join (Elements type.Int (Variable (name 3)) (pos 0) 5342931457063200 (at 23 67)) NoItems) (at 23 67))
    (Star (Each (name 1) (Constant (value.Number (pos 0))) (Variable (name 2))
    (Join (Elements type.Int (Variable (name 3)) (pos 0) 5342931457063200 (at 79 123)) NoItems) (at 79 123))
    (Each (name 1) (Constant (value.Number (pos 0))) (Variable (name 2))
    (Join
    (Repeated (Equal true (Element type.Int (Variable (name 3)) (Variable (name 1)) (at 160 164))
    (Constant (value.Number (pos 7)))) (at 135 170)) NoItems) (at 135 170))))
    (Then
    (Members (team false (name 1) (Constant (value.Number (pos 0))) (Variable (name 2))
    (shared (contract (ElementPermission type.Int (Variable (name 3)) (Variable (name 1)) 5342931457063200 (at 242 259))
    (Star (ElementPermission type.Int (Variable (name 3)) (Variable (name 1)) 5342931457063200 (at 275 292))
    (Fact (Equal true (Element type.Int (Variable (name 3)) (Variable (name 1)) (at 296 300)) (Constant (value.Number (pos 7))))
    (at 296 305)))) (Join (Elements type.Int (Variable (name 3)) (pos 0) 5342931457063200 (at 242 259)) NoItems)
    (Join (Elements type.Int (Variable (name 3)) (pos 0) 5342931457063200 (at 275 292))
    (Join
    (Repeated (Equal true (Element type.Int (Variable (name 3)) (Variable (name 1)) (at 296 300))
    (Constant (value.Number (pos 7)))) (at 296 305)) NoItems))))
    (Then (Assign (ToElement type.Int (Variable (name 3)) (Variable (name 1)) (at 319 323))
    (Value' (Constant (value.Number (pos 7)))) (at 319 328)) Stop) (at 206 334)) Stop) false) ∷ [])

abbrev pub members : Program
members = (members_par ∷ [])

abbrev pub shift_too_far_shift : Class
shift_too_far_shift = class (name 0) None (IsMethod
    (method (Some (name 4)) (((name 3), type.IntArray) ∷ ((name 2), type.Int) ∷ []) None
    (contract (Each (name 1) (Constant (value.Number (pos 0))) (Variable (name 2))
    (Join (Elements type.Int (Variable (name 3)) (pos 0) 5342931457063200 (at 25 69)) NoItems) (at 25 69)) always)
    (Then
    (Members (team false (name 1) (Constant (value.Number (pos 0))) (Variable (name 2))
    (shared (contract (ElementPermission type.Int (Variable (name 3)) (Variable (name 1)) 5342931457063200 (at 146 163)) always)
    (Join (Elements type.Int (Variable (name 3)) (pos 0) 5342931457063200 (at 146 163)) NoItems) NoItems))
    (Then (Assign (ToElement type.Int (Variable (name 3)) (Variable (name 1)) (at 177 181))
    (Value' (Constant (value.Number (pos 1)))) (at 177 186))
    (Then
    (Meet
    (barrier (0 ∷ 0 ∷ 1 ∷ [])
    (shared (contract (ElementPermission type.Int (Variable (name 3)) (Variable (name 1)) 5342931457063200 (at 226 243))
    (ElementPermission type.Int (Variable (name 3))
    (Compute Plain Plus (Variable (name 1)) (Constant (value.Number (pos 1))) (at 268 273)) 5342931457063200 (at 261 282)))
    (Join (Elements type.Int (Variable (name 3)) (pos 0) 5342931457063200 (at 226 243)) NoItems)
    (Join (Elements type.Int (Variable (name 3)) (pos 1) 5342931457063200 (at 261 282)) NoItems))) (at 193 291)) Stop))
    (at 106 297)) Stop) false) ∷ [])

abbrev pub shift_too_far : Program
shift_too_far = (shift_too_far_shift ∷ [])

abbrev pub shift_shift : Class
shift_shift =
    class (name 0) None
    (IsMethod (method (Some (name 4)) (((name 3), type.IntArray) ∷ ((name 2), type.Int) ∷ []) None
    (contract (Each (name 1) (Constant (value.Number (pos 0))) (Variable (name 2))
    (Join (Elements type.Int (Variable (name 3)) (pos 0) 5342931457063200 (at 25 69)) NoItems) (at 25 69)) always)
    (Then
    (Members (team false (name 1) (Constant (value.Number (pos 0))) (Variable (name 2))
    (shared (contract (ElementPermission type.Int (Variable (name 3)) (Variable (name 1)) 5342931457063200 (at 146 163)) always)
    (Join (Elements type.Int (Variable (name 3)) (pos 0) 5342931457063200 (at 146 163)) NoItems) NoItems))
    (Then (Assign (ToElement type.Int (Variable (name 3)) (Variable (name 1)) (at 177 181))
    (Value' (Constant (value.Number (pos 1)))) (at 177 186))
    (Then
    (Meet
    (barrier (0 ∷ 0 ∷ 1 ∷ [])
    (shared (contract (ElementPermission type.Int (Variable (name 3)) (Variable (name 1)) 5342931457063200 (at 226 243))
    (When
    (Compare Less (Variable (name 1)) (Compute Plain Minus (Variable (name 2)) (Constant (value.Number (pos 1))) (at 265 270)))
    (ElementPermission type.Int (Variable (name 3))
    (Compute Plain Plus (Variable (name 1)) (Constant (value.Number (pos 1))) (at 282 287)) 5342931457063200 (at 261 296))
    (at 261 296))) (Join (Elements type.Int (Variable (name 3)) (pos 0) 5342931457063200 (at 226 243)) NoItems)
    (Join (Guarded (Below (Compute Plain Minus (Variable (name 2)) (Constant (value.Number (pos 1))) (at 265 270)) ∷ [])
    (Elements type.Int (Variable (name 3)) (pos 1) 5342931457063200 (at 261 296)) (at 261 296)) NoItems))) (at 193 305)) Stop))
    (at 106 311)) Stop) false) ∷ [])

abbrev pub shift : Program
shift = (shift_shift ∷ [])

abbrev pub copying_dep : Class
copying_dep =
    class (name 0) None
    (IsMethod (method (Some (name 6)) (((name 3), type.IntArray) ∷ ((name 4), type.IntArray) ∷ ((name 5), type.IntArray)
    ∷ ((name 2), type.Int) ∷ []) None (contract
    (Each (name 1) (Constant (value.Number (pos 0))) (Variable (name 2))
    (Join (Elements type.Int (Variable (name 3)) (pos 0) 5342931457063200 (at 23 107))
    (Join (Elements type.Int (Variable (name 4)) (pos 0) 2671465728531600 (at 23 107))
    (Join (Elements type.Int (Variable (name 5)) (pos 0) 5342931457063200 (at 23 107)) NoItems))) (at 23 107)) always)
    (Then
    (Members (team true (name 1) (Constant (value.Number (pos 0))) (Variable (name 2))
    (shared
    (contract
    (Star (Star (ElementPermission type.Int (Variable (name 3)) (Variable (name 1)) 5342931457063200 (at 197 214))
    (ElementPermission type.Int (Variable (name 4)) (Variable (name 1)) 2671465728531600 (at 218 233)))
    (ElementPermission type.Int (Variable (name 5)) (Variable (name 1)) 5342931457063200 (at 237 254))) always)
    (Join (Elements type.Int (Variable (name 3)) (pos 0) 5342931457063200 (at 197 214))
    (Join (Elements type.Int (Variable (name 4)) (pos 0) 2671465728531600 (at 218 233))
    (Join (Elements type.Int (Variable (name 5)) (pos 0) 5342931457063200 (at 237 254)) NoItems))) NoItems))
    (Then (Assign (ToElement type.Int (Variable (name 3)) (Variable (name 1)) (at 268 272))
    (Value' (Element type.Int (Variable (name 4)) (Variable (name 1)) (at 275 279))) (at 268 280))
    (Then
    (Send (message (name 7) 1 (ElementPermission type.Int (Variable (name 3)) (Variable (name 1)) 2671465728531600 (at 298 313)))
    (at 287 314))
    (Then
    (Receive
    (message (name 7) 1 (ElementPermission type.Int (Variable (name 3)) (Variable (name 1)) 2671465728531600 (at 298 313)))
    (at 321 328))
    (Then (If (Compare Less (Constant (value.Number (pos 0))) (Variable (name 1)))
    (Then (Assign (ToElement type.Int (Variable (name 5)) (Variable (name 1)) (at 356 360))
    (Value' (Element type.Int (Variable (name 3))
    (Compute Plain Minus (Variable (name 1)) (Constant (value.Number (pos 1))) (at 365 370)) (at 363 371))) (at 356 372)) Stop)
    Stop) Stop)))) (at 161 386)) Stop) false) ∷ [])

abbrev pub copying : Program
copying = (copying_dep ∷ [])

abbrev pub copying_unsent_dep : Class
copying_unsent_dep = class (name 0) None (IsMethod
    (method (Some (name 6)) (((name 3), type.IntArray) ∷ ((name 4), type.IntArray) ∷ ((name 5), type.IntArray)
    ∷ ((name 2), type.Int) ∷ []) None (contract
    (Each (name 1) (Constant (value.Number (pos 0))) (Variable (name 2))
    (Join (Elements type.Int (Variable (name 3)) (pos 0) 5342931457063200 (at 23 107))
    (Join (Elements type.Int (Variable (name 4)) (pos 0) 2671465728531600 (at 23 107))
    (Join (Elements type.Int (Variable (name 5)) (pos 0) 5342931457063200 (at 23 107)) NoItems))) (at 23 107)) always)
    (Then
    (Members (team true (name 1) (Constant (value.Number (pos 0))) (Variable (name 2))
    (shared
    (contract
    (Star (Star (ElementPermission type.Int (Variable (name 3)) (Variable (name 1)) 5342931457063200 (at 197 214))
    (ElementPermission type.Int (Variable (name 4)) (Variable (name 1)) 2671465728531600 (at 218 233)))
    (ElementPermission type.Int (Variable (name 5)) (Variable (name 1)) 5342931457063200 (at 237 254))) always)
    (Join (Elements type.Int (Variable (name 3)) (pos 0) 5342931457063200 (at 197 214))
    (Join (Elements type.Int (Variable (name 4)) (pos 0) 2671465728531600 (at 218 233))
    (Join (Elements type.Int (Variable (name 5)) (pos 0) 5342931457063200 (at 237 254)) NoItems))) NoItems))
    (Then (Assign (ToElement type.Int (Variable (name 3)) (Variable (name 1)) (at 268 272))
    (Value' (Element type.Int (Variable (name 4)) (Variable (name 1)) (at 275 279))) (at 268 280))
    (Then
    (Send (message (name 7) 1 (ElementPermission type.Int (Variable (name 3)) (Variable (name 1)) 2671465728531600 (at 298 313)))
    (at 287 314))
    (Then (If (Compare Less (Constant (value.Number (pos 0))) (Variable (name 1)))
    (Then (Assign (ToElement type.Int (Variable (name 5)) (Variable (name 1)) (at 342 346))
    (Value' (Element type.Int (Variable (name 3))
    (Compute Plain Minus (Variable (name 1)) (Constant (value.Number (pos 1))) (at 351 356)) (at 349 357))) (at 342 358)) Stop)
    Stop) Stop))) (at 161 372)) Stop) false) ∷ [])

abbrev pub copying_unsent : Program
copying_unsent = (copying_unsent_dep ∷ [])
