-- What worked programs become, written out. checks/meaning.py works this file out from the texts, apart from the definitions.
use Rattle.std.specs.Prelude.{pos, true, false, Some, None, [], ◌∷◌}
use Rattle.pv_ast.specs.declared.PvType.TheVariants as type
use Rattle.pv_values.specs.declared.value.Value.TheVariants as value
use Rattle.pv_picks.specs.Plain.Core.{Plus, Minus, Plain, Less, AtMost, Constant, This, Variable, Field, Element, Compute, Compare, Equal, Fact, FieldPermission, Star, Each, NoItems, Join, Elements, Repeated, Fork, Join', ToVariable, ToField, ToElement, Value', NewObject, Assign, While, Act, Assert, Stop, Then, IsField, IsMethod, Class, Program}
use Rattle.worked_programs.specs.Nodes.{name, at}
use Rattle.worked_programs.specs.CoreNodes.{always, contract, method, class}

abbrev pub last_last : Class
last_last =
    class (name 0) None
    (IsMethod (method (Some (name 4)) (((name 3), type.IntArray) ∷ ((name 2), type.Int) ∷ []) None
    (contract (Each (name 1) (Constant (value.Number (pos 0))) (Variable (name 2))
    (Join (Elements type.Int (Variable (name 3)) (pos 0) 5342931457063200 (at 24 76)) NoItems) (at 24 76))
    (Each (name 1) (Constant (value.Number (pos 0))) (Variable (name 2))
    (Join (Elements type.Int (Variable (name 3)) (pos 0) 5342931457063200 (at 88 140)) NoItems) (at 88 140))) Stop false)
    ∷ IsMethod (method (Some (name 5)) (((name 3), type.IntArray) ∷ ((name 2), type.Int) ∷ []) None
    (contract (Star (Fact (Compare Less (Constant (value.Number (pos 0))) (Variable (name 2))) (at 185 190))
    (Each (name 1) (Constant (value.Number (pos 0))) (Variable (name 2))
    (Join (Elements type.Int (Variable (name 3)) (pos 0) 5342931457063200 (at 202 246)) NoItems) (at 202 246)))
    (Each (name 1) (Constant (value.Number (pos 0))) (Variable (name 2))
    (Join (Elements type.Int (Variable (name 3)) (pos 0) 5342931457063200 (at 202 246)) NoItems) (at 202 246)))
    (Then
    (Assign (ToElement type.Int (Variable (name 3))
    (Compute Plain Minus (Variable (name 2)) (Constant (value.Number (pos 1))) (at 284 289)) (at 282 290))
    (Value' (Constant (value.Number (pos 5)))) (at 282 295)) Stop) false) ∷ [])

abbrev pub last : Program
last = (last_last ∷ [])

abbrev pub read_wrong_read : Class
read_wrong_read = class (name 0) None (IsMethod
    (method (Some (name 4)) (((name 3), type.IntArray) ∷ ((name 2), type.Int) ∷ []) None
    (contract
    (Star (Each (name 1) (Constant (value.Number (pos 0))) (Variable (name 2))
    (Join (Elements type.Int (Variable (name 3)) (pos 0) 2671465728531600 (at 24 79))
    (Join
    (Repeated (Equal true (Element type.Int (Variable (name 3)) (Variable (name 1)) (at 69 73)) (Constant (value.Number (pos 0))))
    (at 24 79)) NoItems)) (at 24 79)) (Fact (Compare AtMost (Constant (value.Number (pos 1))) (Variable (name 2))) (at 92 98)))
    always)
    (Then
    (Assert
    (Fact (Equal true (Element type.Int (Variable (name 3)) (Constant (value.Number (pos 0))) (at 141 145))
    (Constant (value.Number (pos 0)))) (at 141 150)) (at 134 151))
    (Then
    (Assert
    (Fact
    (Equal true (Element type.Int (Variable (name 3))
    (Compute Plain Minus (Variable (name 2)) (Constant (value.Number (pos 1))) (at 165 170)) (at 163 171))
    (Constant (value.Number (pos 1)))) (at 163 176)) (at 156 177)) Stop)) false) ∷ [])

abbrev pub read_wrong : Program
read_wrong = (read_wrong_read ∷ [])

abbrev pub read_read : Class
read_read =
    class (name 0) None
    (IsMethod (method (Some (name 4)) (((name 3), type.IntArray) ∷ ((name 2), type.Int) ∷ []) None
    (contract
    (Star (Each (name 1) (Constant (value.Number (pos 0))) (Variable (name 2))
    (Join (Elements type.Int (Variable (name 3)) (pos 0) 2671465728531600 (at 24 79))
    (Join
    (Repeated (Equal true (Element type.Int (Variable (name 3)) (Variable (name 1)) (at 69 73)) (Constant (value.Number (pos 0))))
    (at 24 79)) NoItems)) (at 24 79)) (Fact (Compare AtMost (Constant (value.Number (pos 1))) (Variable (name 2))) (at 92 98)))
    always)
    (Then
    (Assert
    (Fact (Equal true (Element type.Int (Variable (name 3)) (Constant (value.Number (pos 0))) (at 141 145))
    (Constant (value.Number (pos 0)))) (at 141 150)) (at 134 151))
    (Then
    (Assert
    (Fact
    (Equal true (Element type.Int (Variable (name 3))
    (Compute Plain Minus (Variable (name 2)) (Constant (value.Number (pos 1))) (at 165 170)) (at 163 171))
    (Constant (value.Number (pos 0)))) (at 163 176)) (at 156 177)) Stop)) false) ∷ [])

abbrev pub read : Program
read = (read_read ∷ [])

abbrev pub fill_worker : Class
fill_worker = class (name 0) None (IsField ((name 1), type.IntArray) ∷ IsField ((name 2), type.Int) ∷ IsField ((name 3), type.Int)
    ∷ IsMethod
    (method None ([]) None
    (contract
    (Star
    (Star
    (Star (Star (FieldPermission This (name 0) (name 1) type.IntArray 2671465728531600 (at 56 68))
    (FieldPermission This (name 0) (name 2) type.Int 2671465728531600 (at 72 86)))
    (FieldPermission This (name 0) (name 3) type.Int 2671465728531600 (at 90 105)))
    (Fact (Compare AtMost (Field This (name 0) (name 2) (at 109 112)) (Field This (name 0) (name 3) (at 116 120))) (at 109 120)))
    (Each (name 4) (Field This (name 0) (name 2) (at 151 154)) (Field This (name 0) (name 3) (at 158 162))
    (Join (Elements type.Int (Field This (name 0) (name 1) (at 169 170)) (pos 0) 5342931457063200 (at 133 182)) NoItems)
    (at 133 182)))
    (Star
    (Star (Star (FieldPermission This (name 0) (name 1) type.IntArray 2671465728531600 (at 194 206))
    (FieldPermission This (name 0) (name 2) type.Int 2671465728531600 (at 210 224)))
    (FieldPermission This (name 0) (name 3) type.Int 2671465728531600 (at 228 243)))
    (Star (Each (name 4) (Field This (name 0) (name 2) (at 273 276)) (Field This (name 0) (name 3) (at 280 284))
    (Join (Elements type.Int (Field This (name 0) (name 1) (at 291 292)) (pos 0) 5342931457063200 (at 255 304)) NoItems)
    (at 255 304)) (Each (name 4) (Field This (name 0) (name 2) (at 333 336)) (Field This (name 0) (name 3) (at 340 344))
    (Join
    (Repeated (Equal true (Element type.Int (Field This (name 0) (name 1) (at 346 347)) (Variable (name 4)) (at 346 350))
    (Constant (value.Number (pos 1)))) (at 316 356)) NoItems) (at 316 356)))))
    (Then (Assign (ToVariable (name 5)) (Value' (Field This (name 0) (name 2) (at 378 381))) (at 370 382))
    (Then
    (While (((name 5), type.Int) ∷ [])
    (Star
    (Star (Star (FieldPermission This (name 0) (name 1) type.IntArray 2671465728531600 (at 402 414))
    (FieldPermission This (name 0) (name 2) type.Int 2671465728531600 (at 418 432)))
    (FieldPermission This (name 0) (name 3) type.Int 2671465728531600 (at 436 451)))
    (Star (Star (Fact (Compare AtMost (Field This (name 0) (name 2) (at 472 475)) (Variable (name 5))) (at 472 480))
    (Fact (Compare AtMost (Variable (name 5)) (Field This (name 0) (name 3) (at 489 493))) (at 484 493)))
    (Star (Each (name 4) (Field This (name 0) (name 2) (at 532 535)) (Field This (name 0) (name 3) (at 539 543))
    (Join (Elements type.Int (Field This (name 0) (name 1) (at 550 551)) (pos 0) 5342931457063200 (at 514 563)) NoItems)
    (at 514 563)) (Each (name 4) (Field This (name 0) (name 2) (at 601 604)) (Variable (name 5))
    (Join
    (Repeated (Equal true (Element type.Int (Field This (name 0) (name 1) (at 611 612)) (Variable (name 4)) (at 611 615))
    (Constant (value.Number (pos 1)))) (at 584 621)) NoItems) (at 584 621)))))
    (Compare Less (Variable (name 5)) (Field This (name 0) (name 3) (at 638 642)))
    (Then (Assign (ToElement type.Int (Field This (name 0) (name 1) (at 652 653)) (Variable (name 5)) (at 652 656))
    (Value' (Constant (value.Number (pos 1)))) (at 652 661))
    (Then
    (Assign (ToVariable (name 5)) (Value' (Compute Plain Plus (Variable (name 5)) (Constant (value.Number (pos 1))) (at 672 677)))
    (at 668 678)) Stop)) (at 387 684)) Stop)) false) ∷ [])

abbrev pub fill_fill : Class
fill_fill =
    class (name 6) None
    (IsMethod (method (Some (name 9)) (((name 1), type.IntArray) ∷ ((name 7), type.Int) ∷ ((name 8), type.Int) ∷ []) None
    (contract
    (Star (Star (Fact (Compare AtMost (Constant (value.Number (pos 0))) (Variable (name 7))) (at 715 721))
    (Fact (Compare AtMost (Variable (name 7)) (Variable (name 8))) (at 725 731)))
    (Each (name 4) (Constant (value.Number (pos 0))) (Variable (name 8))
    (Join (Elements type.Int (Variable (name 1)) (pos 0) 5342931457063200 (at 744 788)) NoItems) (at 744 788)))
    (Star (Each (name 4) (Constant (value.Number (pos 0))) (Variable (name 8))
    (Join (Elements type.Int (Variable (name 1)) (pos 0) 5342931457063200 (at 800 844)) NoItems) (at 800 844))
    (Each (name 4) (Constant (value.Number (pos 0))) (Variable (name 8))
    (Join
    (Repeated (Equal true (Element type.Int (Variable (name 1)) (Variable (name 4)) (at 881 885))
    (Constant (value.Number (pos 1)))) (at 856 891)) NoItems) (at 856 891))))
    (Then (Assign (ToVariable (name 10)) (NewObject (name 0)) (at 934 958))
    (Then (Assign (ToVariable (name 11)) (NewObject (name 0)) (at 963 987))
    (Then (Assign (ToField (Variable (name 10)) (name 0) (name 1) (at 992 995)) (Value' (Variable (name 1))) (at 992 1000))
    (Then (Assign (ToField (Variable (name 10)) (name 0) (name 2) (at 1001 1006)) (Value' (Constant (value.Number (pos 0))))
    (at 1001 1011))
    (Then (Assign (ToField (Variable (name 10)) (name 0) (name 3) (at 1012 1018)) (Value' (Variable (name 7))) (at 1012 1023))
    (Then (Assign (ToField (Variable (name 11)) (name 0) (name 1) (at 1028 1031)) (Value' (Variable (name 1))) (at 1028 1036))
    (Then (Assign (ToField (Variable (name 11)) (name 0) (name 2) (at 1037 1042)) (Value' (Variable (name 7))) (at 1037 1047))
    (Then (Assign (ToField (Variable (name 11)) (name 0) (name 3) (at 1048 1054)) (Value' (Variable (name 8))) (at 1048 1059))
    (Then (Act Fork (name 0) (Variable (name 10)) (at 1064 1071))
    (Then (Act Fork (name 0) (Variable (name 11)) (at 1076 1083))
    (Then (Act Join' (name 0) (Variable (name 10)) (at 1088 1095))
    (Then (Act Join' (name 0) (Variable (name 11)) (at 1100 1107)) Stop)))))))))))) false) ∷ [])

abbrev pub fill : Program
fill = (fill_worker ∷ fill_fill ∷ [])
