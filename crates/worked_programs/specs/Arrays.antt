-- Worked programs as trees, each below its text. checks/trees.py writes this file from the texts.
use Rattle.std.specs.Prelude.{true, false, Some, None, [], ◌∷◌}
use Rattle.pv_ast.specs.declared.Class.{Class}
use Rattle.pv_ast.specs.declared.Program.{Program}
use Rattle.pv_ast.specs.declared.ExprKind.TheVariants as k
use Rattle.pv_ast.specs.declared.StmtKind.TheVariants as s
use Rattle.pv_ast.specs.declared.RightKind.TheVariants as r
use Rattle.pv_ast.specs.declared.Member.TheVariants as m
use Rattle.pv_ast.specs.declared.ClauseKind.TheVariants as c
use Rattle.pv_ast.specs.declared.PvType.TheVariants as type
use Rattle.pv_ast.specs.declared.Operator.TheVariants as op
use Rattle.worked_programs.specs.Nodes.{name, at, word, node, each, type_at, right, clause, contract, stmt, param, method, run, class}

--   class Last {
--     requires (\forall* int i; 0 <= i && i < n; Perm(a[i], write));
--     ensures (\forall* int i; 0 <= i && i < n; Perm(a[i], write));
--     void keep(int[] a, int n) { }
--     requires 0 < n;
--     context (\forall* int i = 0 .. n; Perm(a[i], write));
--     void last(int[] a, int n) {
--       a[n - 1] = 5;
--     }
--   }
-- names: Last 0, i 1, n 2, a 3, keep 4, last 5
abbrev pub last_last : Class
last_last = class (at 0 301) (word 0 6 10) None
    (m.Method (method (at 15 173) (word 4 149 153) None
    ((param (word 3 160 161) (type_at 154 159 type.IntArray)) ∷ (param (word 2 167 168) (type_at 163 166 type.Int)) ∷ [])
    (contract
    ((clause c.Requires
    (node 24 76
    (k.Each (each true (word 1 38 39) (node 41 42 (k.Number 0)) (node 55 56 (k.Var (word 2 55 56)))
    (node 58 75 (k.Perm (node 63 67 (k.Index (node 63 64 (k.Var (word 3 63 64))) (node 65 66 (k.Var (word 1 65 66))))) 1 1
    (at 69 74))) (Some ((word 1 46 47), (word 1 51 52)))))))
    ∷
    (clause c.Ensures
    (node 88 140
    (k.Each (each true (word 1 102 103) (node 105 106 (k.Number 0)) (node 119 120 (k.Var (word 2 119 120)))
    (node 122 139 (k.Perm (node 127 131 (k.Index (node 127 128 (k.Var (word 3 127 128))) (node 129 130 (k.Var (word 1 129 130)))))
    1 1 (at 133 138))) (Some ((word 1 110 111), (word 1 115 116))))))) ∷ [])) [])
    ∷ m.Method (method (at 176 299) (word 5 255 259) None
    ((param (word 3 266 267) (type_at 260 265 type.IntArray)) ∷ (param (word 2 273 274) (type_at 269 272 type.Int)) ∷ [])
    (contract
    ((clause c.Requires (node 185 190 (k.Binary op.Lt (node 185 186 (k.Number 0)) (node 189 190 (k.Var (word 2 189 190))))))
    ∷
    (clause c.Context
    (node 202 246
    (k.Each (each true (word 1 216 217) (node 220 221 (k.Number 0)) (node 225 226 (k.Var (word 2 225 226)))
    (node 228 245 (k.Perm (node 233 237 (k.Index (node 233 234 (k.Var (word 3 233 234))) (node 235 236 (k.Var (word 1 235 236)))))
    1 1 (at 239 244))) None)))) ∷ []))
    ((stmt 282 295
    (s.Assign
    (node 282 290 (k.Index (node 282 283 (k.Var (word 3 282 283)))
    (node 284 289 (k.Binary op.Sub (node 284 285 (k.Var (word 2 284 285))) (node 288 289 (k.Number 1))))))
    (right 293 294 (r.Value (node 293 294 (k.Number 5)))))) ∷ [])) ∷ [])

abbrev pub last : Program
last = record { classes = (last_last ∷ []); length = None }

--   class Read {
--     requires (\forall* int i = 0 .. n; Perm(a[i], 1\2) ** a[i] == 0);
--     requires 1 <= n;
--     void look(int[] a, int n) {
--       assert a[0] == 0;
--       assert a[n - 1] == 1;
--     }
--   }
-- names: Read 0, i 1, n 2, a 3, look 4
abbrev pub read_wrong_read : Class
read_wrong_read = class (at 0 183) (word 0 6 10) None
    (m.Method (method (at 15 181) (word 4 107 111) None
    ((param (word 3 118 119) (type_at 112 117 type.IntArray)) ∷ (param (word 2 125 126) (type_at 121 124 type.Int)) ∷ [])
    (contract
    ((clause c.Requires
    (node 24 79
    (k.Each (each true (word 1 38 39) (node 42 43 (k.Number 0)) (node 47 48 (k.Var (word 2 47 48)))
    (node 50 78
    (k.Binary op.Star
    (node 50 65 (k.Perm (node 55 59 (k.Index (node 55 56 (k.Var (word 3 55 56))) (node 57 58 (k.Var (word 1 57 58))))) 1 2
    (at 61 64)))
    (node 69 78 (k.Binary op.Eq (node 69 73 (k.Index (node 69 70 (k.Var (word 3 69 70))) (node 71 72 (k.Var (word 1 71 72)))))
    (node 77 78 (k.Number 0)))))) None)))) ∷ (clause c.Requires
    (node 92 98 (k.Binary op.Le (node 92 93 (k.Number 1)) (node 97 98 (k.Var (word 2 97 98)))))) ∷ []))
    ((stmt 134 151
    (s.Assert
    (node 141 150 (k.Binary op.Eq (node 141 145 (k.Index (node 141 142 (k.Var (word 3 141 142))) (node 143 144 (k.Number 0))))
    (node 149 150 (k.Number 0)))))) ∷ (stmt 156 177
    (s.Assert
    (node 163 176
    (k.Binary op.Eq
    (node 163 171 (k.Index (node 163 164 (k.Var (word 3 163 164)))
    (node 165 170 (k.Binary op.Sub (node 165 166 (k.Var (word 2 165 166))) (node 169 170 (k.Number 1))))))
    (node 175 176 (k.Number 1)))))) ∷ [])) ∷ [])

abbrev pub read_wrong : Program
read_wrong = record { classes = (read_wrong_read ∷ []); length = None }

--   class Read {
--     requires (\forall* int i = 0 .. n; Perm(a[i], 1\2) ** a[i] == 0);
--     requires 1 <= n;
--     void look(int[] a, int n) {
--       assert a[0] == 0;
--       assert a[n - 1] == 0;
--     }
--   }
-- names: Read 0, i 1, n 2, a 3, look 4
abbrev pub read_read : Class
read_read = class (at 0 183) (word 0 6 10) None
    (m.Method (method (at 15 181) (word 4 107 111) None
    ((param (word 3 118 119) (type_at 112 117 type.IntArray)) ∷ (param (word 2 125 126) (type_at 121 124 type.Int)) ∷ [])
    (contract
    ((clause c.Requires
    (node 24 79
    (k.Each (each true (word 1 38 39) (node 42 43 (k.Number 0)) (node 47 48 (k.Var (word 2 47 48)))
    (node 50 78
    (k.Binary op.Star
    (node 50 65 (k.Perm (node 55 59 (k.Index (node 55 56 (k.Var (word 3 55 56))) (node 57 58 (k.Var (word 1 57 58))))) 1 2
    (at 61 64)))
    (node 69 78 (k.Binary op.Eq (node 69 73 (k.Index (node 69 70 (k.Var (word 3 69 70))) (node 71 72 (k.Var (word 1 71 72)))))
    (node 77 78 (k.Number 0)))))) None)))) ∷ (clause c.Requires
    (node 92 98 (k.Binary op.Le (node 92 93 (k.Number 1)) (node 97 98 (k.Var (word 2 97 98)))))) ∷ []))
    ((stmt 134 151
    (s.Assert
    (node 141 150 (k.Binary op.Eq (node 141 145 (k.Index (node 141 142 (k.Var (word 3 141 142))) (node 143 144 (k.Number 0))))
    (node 149 150 (k.Number 0)))))) ∷ (stmt 156 177
    (s.Assert
    (node 163 176
    (k.Binary op.Eq
    (node 163 171 (k.Index (node 163 164 (k.Var (word 3 163 164)))
    (node 165 170 (k.Binary op.Sub (node 165 166 (k.Var (word 2 165 166))) (node 169 170 (k.Number 1))))))
    (node 175 176 (k.Number 0)))))) ∷ [])) ∷ [])

abbrev pub read : Program
read = record { classes = (read_read ∷ []); length = None }

--   class Worker {
--     int[] a; int low; int high;
--     requires Perm(a, 1\2) ** Perm(low, 1\2) ** Perm(high, 1\2) ** low <= high;
--     requires (\forall* int i = low .. high; Perm(a[i], write));
--     ensures Perm(a, 1\2) ** Perm(low, 1\2) ** Perm(high, 1\2);
--     ensures (\forall* int i = low .. high; Perm(a[i], write));
--     ensures (\forall int i = low .. high; a[i] == 1);
--     run {
--       int k = low;
--       loop_invariant Perm(a, 1\2) ** Perm(low, 1\2) ** Perm(high, 1\2);
--       loop_invariant low <= k && k <= high;
--       loop_invariant (\forall* int i = low .. high; Perm(a[i], write));
--       loop_invariant (\forall int i = low .. k; a[i] == 1);
--       while (k < high) {
--         a[k] = 1;
--         k = k + 1;
--       }
--     }
--   }
--   class Fill {
--     requires 0 <= m && m <= n;
--     requires (\forall* int i = 0 .. n; Perm(a[i], write));
--     ensures (\forall* int i = 0 .. n; Perm(a[i], write));
--     ensures (\forall int i = 0 .. n; a[i] == 1);
--     void both(int[] a, int m, int n) {
--       Worker p = new Worker();
--       Worker q = new Worker();
--       p.a = a; p.low = 0; p.high = m;
--       q.a = a; q.low = m; q.high = n;
--       fork p;
--       fork q;
--       join p;
--       join q;
--     }
--   }
-- names: Worker 0, a 1, low 2, high 3, i 4, k 5, Fill 6, m 7, n 8, both 9, p 10, q 11
abbrev pub fill_worker : Class
fill_worker = class (at 0 690) (word 0 6 12) None
    (m.Field (param (word 1 23 24) (type_at 17 22 type.IntArray)) ∷ m.Field (param (word 2 30 33) (type_at 26 29 type.Int))
    ∷ m.Field (param (word 3 39 43) (type_at 35 38 type.Int))
    ∷ m.Run
    (run (at 47 688) (at 360 363)
    (contract
    ((clause c.Requires
    (node 56 120
    (k.Binary op.Star
    (node 56 105
    (k.Binary op.Star
    (node 56 86 (k.Binary op.Star (node 56 68 (k.Perm (node 61 62 (k.Var (word 1 61 62))) 1 2 (at 64 67)))
    (node 72 86 (k.Perm (node 77 80 (k.Var (word 2 77 80))) 1 2 (at 82 85)))))
    (node 90 105 (k.Perm (node 95 99 (k.Var (word 3 95 99))) 1 2 (at 101 104)))))
    (node 109 120 (k.Binary op.Le (node 109 112 (k.Var (word 2 109 112))) (node 116 120 (k.Var (word 3 116 120))))))))
    ∷
    (clause c.Requires
    (node 133 182
    (k.Each (each true (word 4 147 148) (node 151 154 (k.Var (word 2 151 154))) (node 158 162 (k.Var (word 3 158 162)))
    (node 164 181 (k.Perm (node 169 173 (k.Index (node 169 170 (k.Var (word 1 169 170))) (node 171 172 (k.Var (word 4 171 172)))))
    1 1 (at 175 180))) None)))) ∷ (clause c.Ensures
    (node 194 243
    (k.Binary op.Star
    (node 194 224 (k.Binary op.Star (node 194 206 (k.Perm (node 199 200 (k.Var (word 1 199 200))) 1 2 (at 202 205)))
    (node 210 224 (k.Perm (node 215 218 (k.Var (word 2 215 218))) 1 2 (at 220 223)))))
    (node 228 243 (k.Perm (node 233 237 (k.Var (word 3 233 237))) 1 2 (at 239 242))))))
    ∷
    (clause c.Ensures
    (node 255 304
    (k.Each (each true (word 4 269 270) (node 273 276 (k.Var (word 2 273 276))) (node 280 284 (k.Var (word 3 280 284)))
    (node 286 303 (k.Perm (node 291 295 (k.Index (node 291 292 (k.Var (word 1 291 292))) (node 293 294 (k.Var (word 4 293 294)))))
    1 1 (at 297 302))) None)))) ∷ (clause c.Ensures
    (node 316 356
    (k.Each (each false (word 4 329 330) (node 333 336 (k.Var (word 2 333 336))) (node 340 344 (k.Var (word 3 340 344)))
    (node 346 355
    (k.Binary op.Eq (node 346 350 (k.Index (node 346 347 (k.Var (word 1 346 347))) (node 348 349 (k.Var (word 4 348 349)))))
    (node 354 355 (k.Number 1)))) None)))) ∷ []))
    ((stmt 370 382 (s.Local (type_at 370 373 type.Int) (word 5 374 375)
    (Some (right 378 381 (r.Value (node 378 381 (k.Var (word 2 378 381))))))))
    ∷
    (stmt 387 684
    (s.While
    ((node 402 451
    (k.Binary op.Star
    (node 402 432 (k.Binary op.Star (node 402 414 (k.Perm (node 407 408 (k.Var (word 1 407 408))) 1 2 (at 410 413)))
    (node 418 432 (k.Perm (node 423 426 (k.Var (word 2 423 426))) 1 2 (at 428 431)))))
    (node 436 451 (k.Perm (node 441 445 (k.Var (word 3 441 445))) 1 2 (at 447 450)))))
    ∷
    (node 472 493
    (k.Binary op.And
    (node 472 480 (k.Binary op.Le (node 472 475 (k.Var (word 2 472 475))) (node 479 480 (k.Var (word 5 479 480)))))
    (node 484 493 (k.Binary op.Le (node 484 485 (k.Var (word 5 484 485))) (node 489 493 (k.Var (word 3 489 493)))))))
    ∷
    (node 514 563
    (k.Each (each true (word 4 528 529) (node 532 535 (k.Var (word 2 532 535))) (node 539 543 (k.Var (word 3 539 543)))
    (node 545 562 (k.Perm (node 550 554 (k.Index (node 550 551 (k.Var (word 1 550 551))) (node 552 553 (k.Var (word 4 552 553)))))
    1 1 (at 556 561))) None))) ∷ (node 584 621
    (k.Each (each false (word 4 597 598) (node 601 604 (k.Var (word 2 601 604))) (node 608 609 (k.Var (word 5 608 609)))
    (node 611 620
    (k.Binary op.Eq (node 611 615 (k.Index (node 611 612 (k.Var (word 1 611 612))) (node 613 614 (k.Var (word 4 613 614)))))
    (node 619 620 (k.Number 1)))) None))) ∷ [])
    (node 634 642 (k.Binary op.Lt (node 634 635 (k.Var (word 5 634 635))) (node 638 642 (k.Var (word 3 638 642)))))
    ((stmt 652 661
    (s.Assign (node 652 656 (k.Index (node 652 653 (k.Var (word 1 652 653))) (node 654 655 (k.Var (word 5 654 655)))))
    (right 659 660 (r.Value (node 659 660 (k.Number 1))))))
    ∷
    (stmt 668 678 (s.Assign (node 668 669 (k.Var (word 5 668 669)))
    (right 672 677
    (r.Value (node 672 677 (k.Binary op.Add (node 672 673 (k.Var (word 5 672 673))) (node 676 677 (k.Number 1)))))))) ∷ [])))
    ∷ [])) ∷ [])

abbrev pub fill_fill : Class
fill_fill = class (at 691 1113) (word 6 697 701) None
    (m.Method (method (at 706 1111) (word 9 900 904) None
    ((param (word 1 911 912) (type_at 905 910 type.IntArray)) ∷ (param (word 7 918 919) (type_at 914 917 type.Int))
    ∷ (param (word 8 925 926) (type_at 921 924 type.Int)) ∷ [])
    (contract
    ((clause c.Requires
    (node 715 731
    (k.Binary op.And (node 715 721 (k.Binary op.Le (node 715 716 (k.Number 0)) (node 720 721 (k.Var (word 7 720 721)))))
    (node 725 731 (k.Binary op.Le (node 725 726 (k.Var (word 7 725 726))) (node 730 731 (k.Var (word 8 730 731))))))))
    ∷
    (clause c.Requires
    (node 744 788
    (k.Each (each true (word 4 758 759) (node 762 763 (k.Number 0)) (node 767 768 (k.Var (word 8 767 768)))
    (node 770 787 (k.Perm (node 775 779 (k.Index (node 775 776 (k.Var (word 1 775 776))) (node 777 778 (k.Var (word 4 777 778)))))
    1 1 (at 781 786))) None)))) ∷ (clause c.Ensures
    (node 800 844
    (k.Each (each true (word 4 814 815) (node 818 819 (k.Number 0)) (node 823 824 (k.Var (word 8 823 824)))
    (node 826 843 (k.Perm (node 831 835 (k.Index (node 831 832 (k.Var (word 1 831 832))) (node 833 834 (k.Var (word 4 833 834)))))
    1 1 (at 837 842))) None)))) ∷ (clause c.Ensures
    (node 856 891
    (k.Each (each false (word 4 869 870) (node 873 874 (k.Number 0)) (node 878 879 (k.Var (word 8 878 879)))
    (node 881 890
    (k.Binary op.Eq (node 881 885 (k.Index (node 881 882 (k.Var (word 1 881 882))) (node 883 884 (k.Var (word 4 883 884)))))
    (node 889 890 (k.Number 1)))) None)))) ∷ []))
    ((stmt 934 958 (s.Local (type_at 934 940 (type.Object (name 0))) (word 10 941 942)
    (Some (right 945 957 (r.NewObject (word 0 949 955))))))
    ∷
    (stmt 963 987 (s.Local (type_at 963 969 (type.Object (name 0))) (word 11 970 971)
    (Some (right 974 986 (r.NewObject (word 0 978 984))))))
    ∷
    (stmt 992 1000 (s.Assign (node 992 995 (k.Field (node 992 993 (k.Var (word 10 992 993))) (word 1 994 995)))
    (right 998 999 (r.Value (node 998 999 (k.Var (word 1 998 999)))))))
    ∷
    (stmt 1001 1011 (s.Assign (node 1001 1006 (k.Field (node 1001 1002 (k.Var (word 10 1001 1002))) (word 2 1003 1006)))
    (right 1009 1010 (r.Value (node 1009 1010 (k.Number 0))))))
    ∷
    (stmt 1012 1023 (s.Assign (node 1012 1018 (k.Field (node 1012 1013 (k.Var (word 10 1012 1013))) (word 3 1014 1018)))
    (right 1021 1022 (r.Value (node 1021 1022 (k.Var (word 7 1021 1022)))))))
    ∷
    (stmt 1028 1036 (s.Assign (node 1028 1031 (k.Field (node 1028 1029 (k.Var (word 11 1028 1029))) (word 1 1030 1031)))
    (right 1034 1035 (r.Value (node 1034 1035 (k.Var (word 1 1034 1035)))))))
    ∷
    (stmt 1037 1047 (s.Assign (node 1037 1042 (k.Field (node 1037 1038 (k.Var (word 11 1037 1038))) (word 2 1039 1042)))
    (right 1045 1046 (r.Value (node 1045 1046 (k.Var (word 7 1045 1046)))))))
    ∷
    (stmt 1048 1059 (s.Assign (node 1048 1054 (k.Field (node 1048 1049 (k.Var (word 11 1048 1049))) (word 3 1050 1054)))
    (right 1057 1058 (r.Value (node 1057 1058 (k.Var (word 8 1057 1058)))))))
    ∷ (stmt 1064 1071 (s.Fork (node 1069 1070 (k.Var (word 10 1069 1070)))))
    ∷ (stmt 1076 1083 (s.Fork (node 1081 1082 (k.Var (word 11 1081 1082)))))
    ∷ (stmt 1088 1095 (s.Join (node 1093 1094 (k.Var (word 10 1093 1094)))))
    ∷ (stmt 1100 1107 (s.Join (node 1105 1106 (k.Var (word 11 1105 1106))))) ∷ [])) ∷ [])

abbrev pub fill : Program
fill = record { classes = (fill_worker ∷ fill_fill ∷ []); length = None }
