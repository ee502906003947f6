-- Worked programs as trees, each below its text. checks/trees.py writes this file from the texts.
use Rattle.std.specs.Prelude.{true, Some, None, [], ◌∷◌}
use Rattle.pv_ast.specs.declared.Class.{Class}
use Rattle.pv_ast.specs.declared.Program.{Program}
use Rattle.pv_ast.specs.declared.ExprKind.TheVariants as k
use Rattle.pv_ast.specs.declared.StmtKind.TheVariants as s
use Rattle.pv_ast.specs.declared.RightKind.TheVariants as r
use Rattle.pv_ast.specs.declared.Member.TheVariants as m
use Rattle.pv_ast.specs.declared.ClauseKind.TheVariants as c
use Rattle.pv_ast.specs.declared.PvType.TheVariants as type
use Rattle.pv_ast.specs.declared.Operator.TheVariants as op
use Rattle.worked_programs.specs.Nodes.{name, at, word, node, type_at, right, clause, contract, stmt, param, predicate, method, run, class}

--   class Counter {
--     int x;
--     requires Perm(x, write);
--     ensures Perm(x, write) ** x == \old(x) + 1;
--     void incr() {
--       x = x + 1;
--     }
--   }
-- names: Counter 0, x 1, incr 2
abbrev pub counter_counter : Class
counter_counter = class (at 0 134) (word 0 6 13) None
    (m.Field (param (word 1 22 23) (type_at 18 21 type.Int))
    ∷ m.Method (method (at 27 132) (word 2 105 109) None []
    (contract ((clause c.Requires (node 36 50 (k.Perm (node 41 42 (k.Var (word 1 41 42))) 1 1 (at 44 49))))
    ∷
    (clause c.Ensures
    (node 62 96 (k.Binary op.Star (node 62 76 (k.Perm (node 67 68 (k.Var (word 1 67 68))) 1 1 (at 70 75)))
    (node 80 96 (k.Binary op.Eq (node 80 81 (k.Var (word 1 80 81)))
    (node 85 96 (k.Binary op.Add (node 85 92 (k.Old (node 90 91 (k.Var (word 1 90 91))))) (node 95 96 (k.Number 1))))))))) ∷ []))
    ((stmt 118 128 (s.Assign (node 118 119 (k.Var (word 1 118 119)))
    (right 122 127
    (r.Value (node 122 127 (k.Binary op.Add (node 122 123 (k.Var (word 1 122 123))) (node 126 127 (k.Number 1)))))))) ∷ [])) ∷ [])

abbrev pub counter : Program
counter = record { classes = (counter_counter ∷ []); length = None }

--   class Counter {
--     int x;
--     requires Perm(x, write);
--     ensures Perm(x, write) ** x == \old(x) + 1;
--     void incr() {
--       x = x + 2;
--     }
--   }
-- names: Counter 0, x 1, incr 2
abbrev pub counter_by_two_counter : Class
counter_by_two_counter = class (at 0 134) (word 0 6 13) None
    (m.Field (param (word 1 22 23) (type_at 18 21 type.Int))
    ∷ m.Method (method (at 27 132) (word 2 105 109) None []
    (contract ((clause c.Requires (node 36 50 (k.Perm (node 41 42 (k.Var (word 1 41 42))) 1 1 (at 44 49))))
    ∷
    (clause c.Ensures
    (node 62 96 (k.Binary op.Star (node 62 76 (k.Perm (node 67 68 (k.Var (word 1 67 68))) 1 1 (at 70 75)))
    (node 80 96 (k.Binary op.Eq (node 80 81 (k.Var (word 1 80 81)))
    (node 85 96 (k.Binary op.Add (node 85 92 (k.Old (node 90 91 (k.Var (word 1 90 91))))) (node 95 96 (k.Number 1))))))))) ∷ []))
    ((stmt 118 128 (s.Assign (node 118 119 (k.Var (word 1 118 119)))
    (right 122 127
    (r.Value (node 122 127 (k.Binary op.Add (node 122 123 (k.Var (word 1 122 123))) (node 126 127 (k.Number 2)))))))) ∷ [])) ∷ [])

abbrev pub counter_by_two : Program
counter_by_two = record { classes = (counter_by_two_counter ∷ []); length = None }

--   class Half {
--     int x;
--     requires Perm(x, 1\2);
--     void set() {
--       x = 1;
--     }
--   }
-- names: Half 0, x 1, set 2
abbrev pub half_half : Class
half_half = class (at 0 78) (word 0 6 10) None
    (m.Field (param (word 1 19 20) (type_at 15 18 type.Int))
    ∷ m.Method (method (at 24 76) (word 2 54 57) None []
    (contract ((clause c.Requires (node 33 45 (k.Perm (node 38 39 (k.Var (word 1 38 39))) 1 2 (at 41 44)))) ∷ []))
    ((stmt 66 72 (s.Assign (node 66 67 (k.Var (word 1 66 67))) (right 70 71 (r.Value (node 70 71 (k.Number 1)))))) ∷ [])) ∷ [])

abbrev pub half : Program
half = record { classes = (half_half ∷ []); length = None }

--   class Writer {
--     Cell c;
--     run {
--       c.v = 1;
--     }
--   }
--   class Cell { int v; }
--   class Main {
--     void two(Writer a, Writer b) { fork a; fork b; }
--   }
-- names: Writer 0, Cell 1, c 2, v 3, Main 4, two 5, a 6, b 7
abbrev pub writers_writer : Class
writers_writer = class (at 0 51) (word 0 6 12) None
    (m.Field (param (word 2 22 23) (type_at 17 21 (type.Object (name 1))))
    ∷ m.Run (run (at 27 49) (at 27 30) (contract [])
    ((stmt 37 45 (s.Assign (node 37 40 (k.Field (node 37 38 (k.Var (word 2 37 38))) (word 3 39 40)))
    (right 43 44 (r.Value (node 43 44 (k.Number 1)))))) ∷ [])) ∷ [])

abbrev pub writers_cell : Class
writers_cell = class (at 52 73) (word 1 58 62) None (m.Field (param (word 3 69 70) (type_at 65 68 type.Int)) ∷ [])

abbrev pub writers_main : Class
writers_main = class (at 74 139) (word 4 80 84) None
    (m.Method (method (at 89 137) (word 5 94 97) None
    ((param (word 6 105 106) (type_at 98 104 (type.Object (name 0))))
    ∷ (param (word 7 115 116) (type_at 108 114 (type.Object (name 0)))) ∷ []) (contract [])
    ((stmt 120 127 (s.Fork (node 125 126 (k.Var (word 6 125 126)))))
    ∷ (stmt 128 135 (s.Fork (node 133 134 (k.Var (word 7 133 134))))) ∷ [])) ∷ [])

abbrev pub writers : Program
writers = record { classes = (writers_writer ∷ writers_cell ∷ writers_main ∷ []); length = None }

--   class Box { int v; }
--   class Alias {
--     requires Perm(p.v, 1\2) ** Perm(q.v, 1\2) ** q.v == 3;
--     void put(Box p, Box q) {
--       if (p == q) { p.v = 4; assert q.v == 3; }
--     }
--   }
-- names: Box 0, v 1, Alias 2, p 3, q 4, put 5
abbrev pub alias_box : Class
alias_box = class (at 0 20) (word 0 6 9) None (m.Field (param (word 1 16 17) (type_at 12 15 type.Int)) ∷ [])

abbrev pub alias_alias : Class
alias_alias = class (at 21 170) (word 2 27 32) None
    (m.Method (method (at 37 168) (word 5 99 102) None
    ((param (word 3 107 108) (type_at 103 106 (type.Object (name 0))))
    ∷ (param (word 4 114 115) (type_at 110 113 (type.Object (name 0)))) ∷ [])
    (contract
    ((clause c.Requires
    (node 46 90
    (k.Binary op.Star
    (node 46 78
    (k.Binary op.Star
    (node 46 60 (k.Perm (node 51 54 (k.Field (node 51 52 (k.Var (word 3 51 52))) (word 1 53 54))) 1 2 (at 56 59)))
    (node 64 78 (k.Perm (node 69 72 (k.Field (node 69 70 (k.Var (word 4 69 70))) (word 1 71 72))) 1 2 (at 74 77)))))
    (node 82 90 (k.Binary op.Eq (node 82 85 (k.Field (node 82 83 (k.Var (word 4 82 83))) (word 1 84 85)))
    (node 89 90 (k.Number 3))))))) ∷ []))
    ((stmt 123 164
    (s.If (node 127 133 (k.Binary op.Eq (node 127 128 (k.Var (word 3 127 128))) (node 132 133 (k.Var (word 4 132 133)))))
    ((stmt 137 145 (s.Assign (node 137 140 (k.Field (node 137 138 (k.Var (word 3 137 138))) (word 1 139 140)))
    (right 143 144 (r.Value (node 143 144 (k.Number 4))))))
    ∷
    (stmt 146 162
    (s.Assert
    (node 153 161 (k.Binary op.Eq (node 153 156 (k.Field (node 153 154 (k.Var (word 4 153 154))) (word 1 155 156)))
    (node 160 161 (k.Number 3)))))) ∷ []) [])) ∷ [])) ∷ [])

abbrev pub alias : Program
alias = record { classes = (alias_box ∷ alias_alias ∷ []); length = None }

--   class Acc {
--     int s;
--     requires Perm(s, write) ** 0 <= k;
--     ensures Perm(s, write) ** s == \old(s) + 1;
--     void inc(int k) { s = s + 1; }
--     requires Perm(s, write) ** s == 0;
--     ensures Perm(s, write) ** s == 5;
--     void five() {
--       int k = 0;
--       loop_invariant Perm(s, write) ** s == k && k <= 5;
--       while (k < 5) { inc(k); k = k + 1; }
--     }
--   }
-- names: Acc 0, s 1, k 2, inc 3, five 4
abbrev pub account_acc : Class
account_acc = class (at 0 342) (word 0 6 9) None
    (m.Field (param (word 1 18 19) (type_at 14 17 type.Int))
    ∷ m.Method (method (at 23 136) (word 3 111 114) None ((param (word 2 119 120) (type_at 115 118 type.Int)) ∷ [])
    (contract
    ((clause c.Requires
    (node 32 56 (k.Binary op.Star (node 32 46 (k.Perm (node 37 38 (k.Var (word 1 37 38))) 1 1 (at 40 45)))
    (node 50 56 (k.Binary op.Le (node 50 51 (k.Number 0)) (node 55 56 (k.Var (word 2 55 56))))))))
    ∷
    (clause c.Ensures
    (node 68 102 (k.Binary op.Star (node 68 82 (k.Perm (node 73 74 (k.Var (word 1 73 74))) 1 1 (at 76 81)))
    (node 86 102 (k.Binary op.Eq (node 86 87 (k.Var (word 1 86 87)))
    (node 91 102 (k.Binary op.Add (node 91 98 (k.Old (node 96 97 (k.Var (word 1 96 97))))) (node 101 102 (k.Number 1)))))))))
    ∷ []))
    ((stmt 124 134 (s.Assign (node 124 125 (k.Var (word 1 124 125)))
    (right 128 133
    (r.Value (node 128 133 (k.Binary op.Add (node 128 129 (k.Var (word 1 128 129))) (node 132 133 (k.Number 1)))))))) ∷ []))
    ∷ m.Method (method (at 139 340) (word 4 217 221) None []
    (contract
    ((clause c.Requires
    (node 148 172 (k.Binary op.Star (node 148 162 (k.Perm (node 153 154 (k.Var (word 1 153 154))) 1 1 (at 156 161)))
    (node 166 172 (k.Binary op.Eq (node 166 167 (k.Var (word 1 166 167))) (node 171 172 (k.Number 0)))))))
    ∷
    (clause c.Ensures
    (node 184 208 (k.Binary op.Star (node 184 198 (k.Perm (node 189 190 (k.Var (word 1 189 190))) 1 1 (at 192 197)))
    (node 202 208 (k.Binary op.Eq (node 202 203 (k.Var (word 1 202 203))) (node 207 208 (k.Number 5))))))) ∷ []))
    ((stmt 230 240 (s.Local (type_at 230 233 type.Int) (word 2 234 235)
    (Some (right 238 239 (r.Value (node 238 239 (k.Number 0)))))))
    ∷
    (stmt 245 336
    (s.While
    ((node 260 294 (k.Binary op.Star (node 260 274 (k.Perm (node 265 266 (k.Var (word 1 265 266))) 1 1 (at 268 273)))
    (node 278 294
    (k.Binary op.And
    (node 278 284 (k.Binary op.Eq (node 278 279 (k.Var (word 1 278 279))) (node 283 284 (k.Var (word 2 283 284)))))
    (node 288 294 (k.Binary op.Le (node 288 289 (k.Var (word 2 288 289))) (node 293 294 (k.Number 5)))))))) ∷ [])
    (node 307 312 (k.Binary op.Lt (node 307 308 (k.Var (word 2 307 308))) (node 311 312 (k.Number 5))))
    ((stmt 316 323 (s.Call None (word 3 316 319) ((node 320 321 (k.Var (word 2 320 321))) ∷ [])))
    ∷
    (stmt 324 334 (s.Assign (node 324 325 (k.Var (word 2 324 325)))
    (right 328 333
    (r.Value (node 328 333 (k.Binary op.Add (node 328 329 (k.Var (word 2 328 329))) (node 332 333 (k.Number 1)))))))) ∷ [])))
    ∷ [])) ∷ [])

abbrev pub account : Program
account = record { classes = (account_acc ∷ []); length = None }

--   class Acc {
--     int s;
--     requires Perm(s, write) ** 0 <= k;
--     ensures Perm(s, write) ** s == \old(s) + 1;
--     void inc(int k) { s = s + 1; }
--     requires Perm(s, write) ** s == 0;
--     ensures Perm(s, write) ** s == 5;
--     void five() {
--       int k = 0;
--       loop_invariant Perm(s, write) ** s == k && 0 <= k && k <= 5;
--       while (k < 5) { inc(k); k = k + 1; }
--     }
--   }
-- names: Acc 0, s 1, k 2, inc 3, five 4
abbrev pub account_kept_acc : Class
account_kept_acc = class (at 0 352) (word 0 6 9) None
    (m.Field (param (word 1 18 19) (type_at 14 17 type.Int))
    ∷ m.Method (method (at 23 136) (word 3 111 114) None ((param (word 2 119 120) (type_at 115 118 type.Int)) ∷ [])
    (contract
    ((clause c.Requires
    (node 32 56 (k.Binary op.Star (node 32 46 (k.Perm (node 37 38 (k.Var (word 1 37 38))) 1 1 (at 40 45)))
    (node 50 56 (k.Binary op.Le (node 50 51 (k.Number 0)) (node 55 56 (k.Var (word 2 55 56))))))))
    ∷
    (clause c.Ensures
    (node 68 102 (k.Binary op.Star (node 68 82 (k.Perm (node 73 74 (k.Var (word 1 73 74))) 1 1 (at 76 81)))
    (node 86 102 (k.Binary op.Eq (node 86 87 (k.Var (word 1 86 87)))
    (node 91 102 (k.Binary op.Add (node 91 98 (k.Old (node 96 97 (k.Var (word 1 96 97))))) (node 101 102 (k.Number 1)))))))))
    ∷ []))
    ((stmt 124 134 (s.Assign (node 124 125 (k.Var (word 1 124 125)))
    (right 128 133
    (r.Value (node 128 133 (k.Binary op.Add (node 128 129 (k.Var (word 1 128 129))) (node 132 133 (k.Number 1)))))))) ∷ []))
    ∷ m.Method (method (at 139 350) (word 4 217 221) None []
    (contract
    ((clause c.Requires
    (node 148 172 (k.Binary op.Star (node 148 162 (k.Perm (node 153 154 (k.Var (word 1 153 154))) 1 1 (at 156 161)))
    (node 166 172 (k.Binary op.Eq (node 166 167 (k.Var (word 1 166 167))) (node 171 172 (k.Number 0)))))))
    ∷
    (clause c.Ensures
    (node 184 208 (k.Binary op.Star (node 184 198 (k.Perm (node 189 190 (k.Var (word 1 189 190))) 1 1 (at 192 197)))
    (node 202 208 (k.Binary op.Eq (node 202 203 (k.Var (word 1 202 203))) (node 207 208 (k.Number 5))))))) ∷ []))
    ((stmt 230 240 (s.Local (type_at 230 233 type.Int) (word 2 234 235)
    (Some (right 238 239 (r.Value (node 238 239 (k.Number 0)))))))
    ∷
    (stmt 245 346
    (s.While
    ((node 260 304 (k.Binary op.Star (node 260 274 (k.Perm (node 265 266 (k.Var (word 1 265 266))) 1 1 (at 268 273)))
    (node 278 304
    (k.Binary op.And
    (node 278 294
    (k.Binary op.And
    (node 278 284 (k.Binary op.Eq (node 278 279 (k.Var (word 1 278 279))) (node 283 284 (k.Var (word 2 283 284)))))
    (node 288 294 (k.Binary op.Le (node 288 289 (k.Number 0)) (node 293 294 (k.Var (word 2 293 294)))))))
    (node 298 304 (k.Binary op.Le (node 298 299 (k.Var (word 2 298 299))) (node 303 304 (k.Number 5)))))))) ∷ [])
    (node 317 322 (k.Binary op.Lt (node 317 318 (k.Var (word 2 317 318))) (node 321 322 (k.Number 5))))
    ((stmt 326 333 (s.Call None (word 3 326 329) ((node 330 331 (k.Var (word 2 330 331))) ∷ [])))
    ∷
    (stmt 334 344 (s.Assign (node 334 335 (k.Var (word 2 334 335)))
    (right 338 343
    (r.Value (node 338 343 (k.Binary op.Add (node 338 339 (k.Var (word 2 338 339))) (node 342 343 (k.Number 1)))))))) ∷ [])))
    ∷ [])) ∷ [])

abbrev pub account_kept : Program
account_kept = record { classes = (account_kept_acc ∷ []); length = None }

--   class Node {
--     int v;
--     resource all(int k) = Perm(v, write) ** v == k;
--     requires all(1);
--     ensures all(2);
--     void up() {
--       unfold all(1);
--       v = v + 1;
--       fold all(2);
--     }
--   }
-- names: Node 0, v 1, all 2, k 3, up 4
abbrev pub chain_node : Class
chain_node = class (at 0 179) (word 0 6 10) None
    (m.Field (param (word 1 19 20) (type_at 15 18 type.Int))
    ∷ m.Predicate (predicate (at 24 71) (word 2 33 36) ((param (word 3 41 42) (type_at 37 40 type.Int)) ∷ [])
    (node 46 70 (k.Binary op.Star (node 46 60 (k.Perm (node 51 52 (k.Var (word 1 51 52))) 1 1 (at 54 59)))
    (node 64 70 (k.Binary op.Eq (node 64 65 (k.Var (word 1 64 65))) (node 69 70 (k.Var (word 3 69 70))))))))
    ∷ m.Method (method (at 74 177) (word 4 116 118) None []
    (contract ((clause c.Requires (node 83 89 (k.Instance None (word 2 83 86) ((node 87 88 (k.Number 1)) ∷ []))))
    ∷ (clause c.Ensures (node 101 107 (k.Instance None (word 2 101 104) ((node 105 106 (k.Number 2)) ∷ [])))) ∷ []))
    ((stmt 127 141 (s.Unfold None (word 2 134 137) ((node 138 139 (k.Number 1)) ∷ [])))
    ∷
    (stmt 146 156 (s.Assign (node 146 147 (k.Var (word 1 146 147)))
    (right 150 155
    (r.Value (node 150 155 (k.Binary op.Add (node 150 151 (k.Var (word 1 150 151))) (node 154 155 (k.Number 1))))))))
    ∷ (stmt 161 173 (s.Fold None (word 2 166 169) ((node 170 171 (k.Number 2)) ∷ []))) ∷ [])) ∷ [])

abbrev pub chain : Program
chain = record { classes = (chain_node ∷ []); length = None }

--   class Node {
--     int v;
--     resource all(int k) = Perm(v, write) ** v == k;
--     requires all(1);
--     ensures all(2);
--     void up() {
--       unfold all(1);
--       v = v + 2;
--       fold all(2);
--     }
--   }
-- names: Node 0, v 1, all 2, k 3, up 4
abbrev pub chain_by_two_node : Class
chain_by_two_node = class (at 0 179) (word 0 6 10) None
    (m.Field (param (word 1 19 20) (type_at 15 18 type.Int))
    ∷ m.Predicate (predicate (at 24 71) (word 2 33 36) ((param (word 3 41 42) (type_at 37 40 type.Int)) ∷ [])
    (node 46 70 (k.Binary op.Star (node 46 60 (k.Perm (node 51 52 (k.Var (word 1 51 52))) 1 1 (at 54 59)))
    (node 64 70 (k.Binary op.Eq (node 64 65 (k.Var (word 1 64 65))) (node 69 70 (k.Var (word 3 69 70))))))))
    ∷ m.Method (method (at 74 177) (word 4 116 118) None []
    (contract ((clause c.Requires (node 83 89 (k.Instance None (word 2 83 86) ((node 87 88 (k.Number 1)) ∷ []))))
    ∷ (clause c.Ensures (node 101 107 (k.Instance None (word 2 101 104) ((node 105 106 (k.Number 2)) ∷ [])))) ∷ []))
    ((stmt 127 141 (s.Unfold None (word 2 134 137) ((node 138 139 (k.Number 1)) ∷ [])))
    ∷
    (stmt 146 156 (s.Assign (node 146 147 (k.Var (word 1 146 147)))
    (right 150 155
    (r.Value (node 150 155 (k.Binary op.Add (node 150 151 (k.Var (word 1 150 151))) (node 154 155 (k.Number 2))))))))
    ∷ (stmt 161 173 (s.Fold None (word 2 166 169) ((node 170 171 (k.Number 2)) ∷ []))) ∷ [])) ∷ [])

abbrev pub chain_by_two : Program
chain_by_two = record { classes = (chain_by_two_node ∷ []); length = None }

--   class Sum {
--     void same(int x, int y) {
--       int z = x + y;
--       assert z == x + y;
--     }
--     requires y <= 0;
--     void less(int x, int y) {
--       int z = x + y;
--       assert z <= x;
--     }
--   }
-- names: Sum 0, same 1, x 2, y 3, z 4, less 5
abbrev pub sum_sum : Class
sum_sum = class (at 0 176) (word 0 6 9) None (m.Method
    (method (at 14 85) (word 1 19 23) None ((param (word 2 28 29) (type_at 24 27 type.Int))
    ∷ (param (word 3 35 36) (type_at 31 34 type.Int)) ∷ []) (contract [])
    ((stmt 44 58 (s.Local (type_at 44 47 type.Int) (word 4 48 49)
    (Some
    (right 52 57
    (r.Value (node 52 57 (k.Binary op.Add (node 52 53 (k.Var (word 2 52 53))) (node 56 57 (k.Var (word 3 56 57))))))))))
    ∷
    (stmt 63 81
    (s.Assert
    (node 70 80 (k.Binary op.Eq (node 70 71 (k.Var (word 4 70 71)))
    (node 75 80 (k.Binary op.Add (node 75 76 (k.Var (word 2 75 76))) (node 79 80 (k.Var (word 3 79 80))))))))) ∷ []))
    ∷ m.Method (method (at 88 174) (word 5 112 116) None
    ((param (word 2 121 122) (type_at 117 120 type.Int)) ∷ (param (word 3 128 129) (type_at 124 127 type.Int)) ∷ [])
    (contract ((clause c.Requires (node 97 103 (k.Binary op.Le (node 97 98 (k.Var (word 3 97 98))) (node 102 103 (k.Number 0)))))
    ∷ []))
    ((stmt 137 151 (s.Local (type_at 137 140 type.Int) (word 4 141 142)
    (Some
    (right 145 150
    (r.Value (node 145 150 (k.Binary op.Add (node 145 146 (k.Var (word 2 145 146))) (node 149 150 (k.Var (word 3 149 150))))))))))
    ∷
    (stmt 156 170
    (s.Assert (node 163 169 (k.Binary op.Le (node 163 164 (k.Var (word 4 163 164))) (node 168 169 (k.Var (word 2 168 169)))))))
    ∷ [])) ∷ [])

abbrev pub sum : Program
sum = record { classes = (sum_sum ∷ []); length = None }

--   class Grow {
--     void grow() {
--       int x = 1;
--       int k = 0;
--       loop_invariant true;
--       while (k < 200) {
--         x = x + x;
--         k = k + 1;
--       }
--     }
--   }
-- names: Grow 0, grow 1, x 2, k 3
abbrev pub grow_grow : Class
grow_grow = class (at 0 151) (word 0 6 10) None
    (m.Method (method (at 15 149) (word 1 20 24) None [] (contract [])
    ((stmt 33 43 (s.Local (type_at 33 36 type.Int) (word 2 37 38) (Some (right 41 42 (r.Value (node 41 42 (k.Number 1)))))))
    ∷ (stmt 48 58 (s.Local (type_at 48 51 type.Int) (word 3 52 53) (Some (right 56 57 (r.Value (node 56 57 (k.Number 0)))))))
    ∷
    (stmt 63 145 (s.While ((node 78 82 (k.Truth true)) ∷ [])
    (node 95 102 (k.Binary op.Lt (node 95 96 (k.Var (word 3 95 96))) (node 99 102 (k.Number 200))))
    ((stmt 112 122 (s.Assign (node 112 113 (k.Var (word 2 112 113)))
    (right 116 121
    (r.Value (node 116 121 (k.Binary op.Add (node 116 117 (k.Var (word 2 116 117))) (node 120 121 (k.Var (word 2 120 121)))))))))
    ∷
    (stmt 129 139 (s.Assign (node 129 130 (k.Var (word 3 129 130)))
    (right 133 138
    (r.Value (node 133 138 (k.Binary op.Add (node 133 134 (k.Var (word 3 133 134))) (node 137 138 (k.Number 1)))))))) ∷ [])))
    ∷ [])) ∷ [])

abbrev pub grow : Program
grow = record { classes = (grow_grow ∷ []); length = None }
