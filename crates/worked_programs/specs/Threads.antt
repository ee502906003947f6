-- Worked programs as trees, each below its text. checks/trees.py writes this file from the texts.
use Rattle.std.specs.Prelude.{true, false, Some, None, [], ◌∷◌}
use Rattle.pv_ast.specs.declared.Class.{Class}
use Rattle.pv_ast.specs.declared.Program.{Program}
use Rattle.pv_ast.specs.declared.ExprKind.TheVariants as k
use Rattle.pv_ast.specs.declared.StmtKind.TheVariants as s
use Rattle.pv_ast.specs.declared.RightKind.TheVariants as r
use Rattle.pv_ast.specs.declared.Member.TheVariants as m
use Rattle.pv_ast.specs.declared.ClauseKind.TheVariants as c
use Rattle.pv_ast.specs.declared.PvType.TheVariants as type
use Rattle.pv_ast.specs.declared.Operator.TheVariants as op
use Rattle.pv_ast.specs.declared.Token.TheVariants as token
use Rattle.worked_programs.specs.Nodes.{name, at, word, node, each, type_at, right, clause, contract, range, stmt, param, method, class}

--   lock_invariant x == 0;
--   class L { int x; }
-- names: x 0, L 1
abbrev pub unheld_invariant_l : Class
unheld_invariant_l = class (at 0 41) (word 1 29 30)
    (Some (node 15 21 (k.Binary op.Eq (node 15 16 (k.Var (word 0 15 16))) (node 20 21 (k.Number 0)))))
    (m.Field (param (word 0 37 38) (type_at 33 36 type.Int)) ∷ [])

abbrev pub unheld_invariant : Program
unheld_invariant = record { classes = (unheld_invariant_l ∷ []); length = None }

--   lock_invariant Perm(x, write) ** Perm(y, write) ** x == y;
--   class Pair {
--     int x; int y;
--     requires committed(this);
--     void both() {
--       lock this;
--       x = 4;
--       y = 5;
--       unlock this;
--     }
--   }
-- names: x 0, y 1, Pair 2, both 3
abbrev pub pair_of_two_pair : Class
pair_of_two_pair = class (at 0 191) (word 2 65 69)
    (Some
    (node 15 57
    (k.Binary op.Star
    (node 15 47 (k.Binary op.Star (node 15 29 (k.Perm (node 20 21 (k.Var (word 0 20 21))) 1 1 (at 23 28)))
    (node 33 47 (k.Perm (node 38 39 (k.Var (word 1 38 39))) 1 1 (at 41 46)))))
    (node 51 57 (k.Binary op.Eq (node 51 52 (k.Var (word 0 51 52))) (node 56 57 (k.Var (word 1 56 57))))))))
    (m.Field (param (word 0 78 79) (type_at 74 77 type.Int)) ∷ m.Field (param (word 1 85 86) (type_at 81 84 type.Int))
    ∷ m.Method (method (at 90 189) (word 3 123 127) None []
    (contract ((clause c.Requires (node 99 114 (k.Token token.Committed (node 109 113 k.This)))) ∷ []))
    ((stmt 136 146 (s.Lock (node 141 145 k.This)))
    ∷ (stmt 151 157 (s.Assign (node 151 152 (k.Var (word 0 151 152))) (right 155 156 (r.Value (node 155 156 (k.Number 4))))))
    ∷ (stmt 162 168 (s.Assign (node 162 163 (k.Var (word 1 162 163))) (right 166 167 (r.Value (node 166 167 (k.Number 5))))))
    ∷ (stmt 173 185 (s.Unlock (node 180 184 k.This))) ∷ [])) ∷ [])

abbrev pub pair_of_two : Program
pair_of_two = record { classes = (pair_of_two_pair ∷ []); length = None }

--   lock_invariant Perm(x, write) ** Perm(y, write) ** x == y;
--   class Pair {
--     int x; int y;
--     requires committed(this);
--     void both() {
--       lock this;
--       x = 4;
--       y = 4;
--       unlock this;
--     }
--   }
-- names: x 0, y 1, Pair 2, both 3
abbrev pub pair_pair : Class
pair_pair = class (at 0 191) (word 2 65 69) (Some
    (node 15 57
    (k.Binary op.Star
    (node 15 47 (k.Binary op.Star (node 15 29 (k.Perm (node 20 21 (k.Var (word 0 20 21))) 1 1 (at 23 28)))
    (node 33 47 (k.Perm (node 38 39 (k.Var (word 1 38 39))) 1 1 (at 41 46)))))
    (node 51 57 (k.Binary op.Eq (node 51 52 (k.Var (word 0 51 52))) (node 56 57 (k.Var (word 1 56 57))))))))
    (m.Field (param (word 0 78 79) (type_at 74 77 type.Int)) ∷ m.Field (param (word 1 85 86) (type_at 81 84 type.Int))
    ∷ m.Method (method (at 90 189) (word 3 123 127) None []
    (contract ((clause c.Requires (node 99 114 (k.Token token.Committed (node 109 113 k.This)))) ∷ []))
    ((stmt 136 146 (s.Lock (node 141 145 k.This)))
    ∷ (stmt 151 157 (s.Assign (node 151 152 (k.Var (word 0 151 152))) (right 155 156 (r.Value (node 155 156 (k.Number 4))))))
    ∷ (stmt 162 168 (s.Assign (node 162 163 (k.Var (word 1 162 163))) (right 166 167 (r.Value (node 166 167 (k.Number 4))))))
    ∷ (stmt 173 185 (s.Unlock (node 180 184 k.This))) ∷ [])) ∷ [])

abbrev pub pair : Program
pair = record { classes = (pair_pair ∷ []); length = None }

--   lock_invariant Perm(x, write) ** Perm(y, write) ** x == y;
--   class Pair {
--     int x; int y;
--     requires committed(this);
--     void both() {
--       lock this;
--       x = 4;
--       y = 4;
--       unlock this;
--     }
--   }
--   class Main { void twice() { Pair p = new Pair(); commit p; lock p; lock p; } }
-- names: x 0, y 1, Pair 2, both 3, Main 4, twice 5, p 6
abbrev pub twice_pair : Class
twice_pair = class (at 0 191) (word 2 65 69) (Some
    (node 15 57
    (k.Binary op.Star
    (node 15 47 (k.Binary op.Star (node 15 29 (k.Perm (node 20 21 (k.Var (word 0 20 21))) 1 1 (at 23 28)))
    (node 33 47 (k.Perm (node 38 39 (k.Var (word 1 38 39))) 1 1 (at 41 46)))))
    (node 51 57 (k.Binary op.Eq (node 51 52 (k.Var (word 0 51 52))) (node 56 57 (k.Var (word 1 56 57))))))))
    (m.Field (param (word 0 78 79) (type_at 74 77 type.Int)) ∷ m.Field (param (word 1 85 86) (type_at 81 84 type.Int))
    ∷ m.Method (method (at 90 189) (word 3 123 127) None []
    (contract ((clause c.Requires (node 99 114 (k.Token token.Committed (node 109 113 k.This)))) ∷ []))
    ((stmt 136 146 (s.Lock (node 141 145 k.This)))
    ∷ (stmt 151 157 (s.Assign (node 151 152 (k.Var (word 0 151 152))) (right 155 156 (r.Value (node 155 156 (k.Number 4))))))
    ∷ (stmt 162 168 (s.Assign (node 162 163 (k.Var (word 1 162 163))) (right 166 167 (r.Value (node 166 167 (k.Number 4))))))
    ∷ (stmt 173 185 (s.Unlock (node 180 184 k.This))) ∷ [])) ∷ [])

abbrev pub twice_main : Class
twice_main = class (at 192 270) (word 4 198 202) None
    (m.Method (method (at 205 268) (word 5 210 215) None [] (contract [])
    ((stmt 220 240 (s.Local (type_at 220 224 (type.Object (name 2))) (word 6 225 226)
    (Some (right 229 239 (r.NewObject (word 2 233 237)))))) ∷ (stmt 241 250 (s.Commit (node 248 249 (k.Var (word 6 248 249)))))
    ∷ (stmt 251 258 (s.Lock (node 256 257 (k.Var (word 6 256 257)))))
    ∷ (stmt 259 266 (s.Lock (node 264 265 (k.Var (word 6 264 265))))) ∷ [])) ∷ [])

abbrev pub twice : Program
twice = record { classes = (twice_pair ∷ twice_main ∷ []); length = None }

--   class Par {
--     requires (\forall* int i = 0 .. n; Perm(a[i], write));
--     ensures (\forall* int i = 0 .. n; Perm(a[i], write));
--     ensures (\forall int i = 0 .. n; a[i] == 7);
--     void fill(int[] a, int n) {
--       par (int i = 0 .. n)
--         requires Perm(a[i], write);
--         ensures Perm(a[i], write) ** a[i] == 7;
--       {
--         a[i] = 7;
--       }
--     }
--   }
-- names: Par 0, i 1, n 2, a 3, fill 4
abbrev pub members_par : Class
members_par = class (at 0 340) (word 0 6 9) None
    (m.Method (method (at 14 338) (word 4 179 183) None
    ((param (word 3 190 191) (type_at 184 189 type.IntArray)) ∷ (param (word 2 197 198) (type_at 193 196 type.Int)) ∷ [])
    (contract
    ((clause c.Requires
    (node 23 67
    (k.Each (each true (word 1 37 38) (node 41 42 (k.Number 0)) (node 46 47 (k.Var (word 2 46 47)))
    (node 49 66 (k.Perm (node 54 58 (k.Index (node 54 55 (k.Var (word 3 54 55))) (node 56 57 (k.Var (word 1 56 57))))) 1 1
    (at 60 65))) None))))
    ∷
    (clause c.Ensures
    (node 79 123
    (k.Each (each true (word 1 93 94) (node 97 98 (k.Number 0)) (node 102 103 (k.Var (word 2 102 103)))
    (node 105 122 (k.Perm (node 110 114 (k.Index (node 110 111 (k.Var (word 3 110 111))) (node 112 113 (k.Var (word 1 112 113)))))
    1 1 (at 116 121))) None)))) ∷ (clause c.Ensures
    (node 135 170
    (k.Each (each false (word 1 148 149) (node 152 153 (k.Number 0)) (node 157 158 (k.Var (word 2 157 158)))
    (node 160 169
    (k.Binary op.Eq (node 160 164 (k.Index (node 160 161 (k.Var (word 3 160 161))) (node 162 163 (k.Var (word 1 162 163)))))
    (node 168 169 (k.Number 7)))) None)))) ∷ []))
    ((stmt 206 334 (s.Par None (range (word 1 215 216) (node 219 220 (k.Number 0)) (node 224 225 (k.Var (word 2 224 225))))
    (contract
    ((clause c.Requires
    (node 242 259 (k.Perm (node 247 251 (k.Index (node 247 248 (k.Var (word 3 247 248))) (node 249 250 (k.Var (word 1 249 250)))))
    1 1 (at 253 258))))
    ∷
    (clause c.Ensures
    (node 275 305
    (k.Binary op.Star
    (node 275 292 (k.Perm (node 280 284 (k.Index (node 280 281 (k.Var (word 3 280 281))) (node 282 283 (k.Var (word 1 282 283)))))
    1 1 (at 286 291)))
    (node 296 305
    (k.Binary op.Eq (node 296 300 (k.Index (node 296 297 (k.Var (word 3 296 297))) (node 298 299 (k.Var (word 1 298 299)))))
    (node 304 305 (k.Number 7))))))) ∷ []))
    ((stmt 319 328
    (s.Assign (node 319 323 (k.Index (node 319 320 (k.Var (word 3 319 320))) (node 321 322 (k.Var (word 1 321 322)))))
    (right 326 327 (r.Value (node 326 327 (k.Number 7)))))) ∷ []))) ∷ [])) ∷ [])

abbrev pub members : Program
members = record { classes = (members_par ∷ []); length = None }

--   class Shift {
--     requires (\forall* int i = 0 .. n; Perm(a[i], write));
--     void shift(int[] a, int n) {
--       par team(int i = 0 .. n)
--         requires Perm(a[i], write);
--       {
--         a[i] = 1;
--         barrier(team) {
--           requires Perm(a[i], write);
--           ensures Perm(a[i + 1], write);
--         }
--       }
--     }
--   }
-- names: Shift 0, i 1, n 2, a 3, shift 4, team 5
abbrev pub shift_too_far_shift : Class
shift_too_far_shift = class (at 0 303) (word 0 6 11) None
    (m.Method (method (at 16 301) (word 4 78 83) None
    ((param (word 3 90 91) (type_at 84 89 type.IntArray)) ∷ (param (word 2 97 98) (type_at 93 96 type.Int)) ∷ [])
    (contract
    ((clause c.Requires
    (node 25 69
    (k.Each (each true (word 1 39 40) (node 43 44 (k.Number 0)) (node 48 49 (k.Var (word 2 48 49)))
    (node 51 68 (k.Perm (node 56 60 (k.Index (node 56 57 (k.Var (word 3 56 57))) (node 58 59 (k.Var (word 1 58 59))))) 1 1
    (at 62 67))) None)))) ∷ []))
    ((stmt 106 297 (s.Par (Some (word 5 110 114))
    (range (word 1 119 120) (node 123 124 (k.Number 0)) (node 128 129 (k.Var (word 2 128 129))))
    (contract
    ((clause c.Requires
    (node 146 163 (k.Perm (node 151 155 (k.Index (node 151 152 (k.Var (word 3 151 152))) (node 153 154 (k.Var (word 1 153 154)))))
    1 1 (at 157 162)))) ∷ []))
    ((stmt 177 186
    (s.Assign (node 177 181 (k.Index (node 177 178 (k.Var (word 3 177 178))) (node 179 180 (k.Var (word 1 179 180)))))
    (right 184 185 (r.Value (node 184 185 (k.Number 1))))))
    ∷
    (stmt 193 291
    (s.Barrier (word 5 201 205)
    (contract
    ((clause c.Requires
    (node 226 243 (k.Perm (node 231 235 (k.Index (node 231 232 (k.Var (word 3 231 232))) (node 233 234 (k.Var (word 1 233 234)))))
    1 1 (at 237 242))))
    ∷
    (clause c.Ensures
    (node 261 282
    (k.Perm
    (node 266 274 (k.Index (node 266 267 (k.Var (word 3 266 267)))
    (node 268 273 (k.Binary op.Add (node 268 269 (k.Var (word 1 268 269))) (node 272 273 (k.Number 1)))))) 1 1 (at 276 281))))
    ∷ [])))) ∷ []))) ∷ [])) ∷ [])

abbrev pub shift_too_far : Program
shift_too_far = record { classes = (shift_too_far_shift ∷ []); length = None }

--   class Shift {
--     requires (\forall* int i = 0 .. n; Perm(a[i], write));
--     void shift(int[] a, int n) {
--       par team(int i = 0 .. n)
--         requires Perm(a[i], write);
--       {
--         a[i] = 1;
--         barrier(team) {
--           requires Perm(a[i], write);
--           ensures i < n - 1 ==> Perm(a[i + 1], write);
--         }
--       }
--     }
--   }
-- names: Shift 0, i 1, n 2, a 3, shift 4, team 5
abbrev pub shift_shift : Class
shift_shift = class (at 0 317) (word 0 6 11) None
    (m.Method (method (at 16 315) (word 4 78 83) None
    ((param (word 3 90 91) (type_at 84 89 type.IntArray)) ∷ (param (word 2 97 98) (type_at 93 96 type.Int)) ∷ [])
    (contract
    ((clause c.Requires
    (node 25 69
    (k.Each (each true (word 1 39 40) (node 43 44 (k.Number 0)) (node 48 49 (k.Var (word 2 48 49)))
    (node 51 68 (k.Perm (node 56 60 (k.Index (node 56 57 (k.Var (word 3 56 57))) (node 58 59 (k.Var (word 1 58 59))))) 1 1
    (at 62 67))) None)))) ∷ []))
    ((stmt 106 311 (s.Par (Some (word 5 110 114))
    (range (word 1 119 120) (node 123 124 (k.Number 0)) (node 128 129 (k.Var (word 2 128 129))))
    (contract
    ((clause c.Requires
    (node 146 163 (k.Perm (node 151 155 (k.Index (node 151 152 (k.Var (word 3 151 152))) (node 153 154 (k.Var (word 1 153 154)))))
    1 1 (at 157 162)))) ∷ []))
    ((stmt 177 186
    (s.Assign (node 177 181 (k.Index (node 177 178 (k.Var (word 3 177 178))) (node 179 180 (k.Var (word 1 179 180)))))
    (right 184 185 (r.Value (node 184 185 (k.Number 1))))))
    ∷
    (stmt 193 305
    (s.Barrier (word 5 201 205)
    (contract
    ((clause c.Requires
    (node 226 243 (k.Perm (node 231 235 (k.Index (node 231 232 (k.Var (word 3 231 232))) (node 233 234 (k.Var (word 1 233 234)))))
    1 1 (at 237 242))))
    ∷
    (clause c.Ensures
    (node 261 296
    (k.Binary op.Implies
    (node 261 270 (k.Binary op.Lt (node 261 262 (k.Var (word 1 261 262)))
    (node 265 270 (k.Binary op.Sub (node 265 266 (k.Var (word 2 265 266))) (node 269 270 (k.Number 1))))))
    (node 275 296
    (k.Perm
    (node 280 288 (k.Index (node 280 281 (k.Var (word 3 280 281)))
    (node 282 287 (k.Binary op.Add (node 282 283 (k.Var (word 1 282 283))) (node 286 287 (k.Number 1)))))) 1 1 (at 290 295))))))
    ∷ [])))) ∷ []))) ∷ [])) ∷ [])

abbrev pub shift : Program
shift = record { classes = (shift_shift ∷ []); length = None }

--   class Dep {
--     requires (\forall* int i = 0 .. n; Perm(a[i], write) ** Perm(b[i], 1\2) ** Perm(c[i], write));
--     void copy(int[] a, int[] b, int[] c, int n) {
--       for (int i = 0 .. n)
--         requires Perm(a[i], write) ** Perm(b[i], 1\2) ** Perm(c[i], write);
--       {
--         a[i] = b[i];
--         send S, 1: Perm(a[i], 1\2);
--         recv S;
--         if (0 < i) {
--           c[i] = a[i - 1];
--         }
--       }
--     }
--   }
-- names: Dep 0, i 1, n 2, a 3, b 4, c 5, copy 6, S 7
abbrev pub copying_dep : Class
copying_dep = class (at 0 392) (word 0 6 9) None
    (m.Method (method (at 14 390) (word 6 116 120) None
    ((param (word 3 127 128) (type_at 121 126 type.IntArray)) ∷ (param (word 4 136 137) (type_at 130 135 type.IntArray))
    ∷ (param (word 5 145 146) (type_at 139 144 type.IntArray)) ∷ (param (word 2 152 153) (type_at 148 151 type.Int)) ∷ [])
    (contract
    ((clause c.Requires
    (node 23 107
    (k.Each (each true (word 1 37 38) (node 41 42 (k.Number 0)) (node 46 47 (k.Var (word 2 46 47)))
    (node 49 106
    (k.Binary op.Star
    (node 49 85
    (k.Binary op.Star
    (node 49 66 (k.Perm (node 54 58 (k.Index (node 54 55 (k.Var (word 3 54 55))) (node 56 57 (k.Var (word 1 56 57))))) 1 1
    (at 60 65)))
    (node 70 85 (k.Perm (node 75 79 (k.Index (node 75 76 (k.Var (word 4 75 76))) (node 77 78 (k.Var (word 1 77 78))))) 1 2
    (at 81 84)))))
    (node 89 106 (k.Perm (node 94 98 (k.Index (node 94 95 (k.Var (word 5 94 95))) (node 96 97 (k.Var (word 1 96 97))))) 1 1
    (at 100 105))))) None)))) ∷ []))
    ((stmt 161 386 (s.For (range (word 1 170 171) (node 174 175 (k.Number 0)) (node 179 180 (k.Var (word 2 179 180))))
    (contract
    ((clause c.Requires
    (node 197 254
    (k.Binary op.Star
    (node 197 233
    (k.Binary op.Star
    (node 197 214 (k.Perm (node 202 206 (k.Index (node 202 203 (k.Var (word 3 202 203))) (node 204 205 (k.Var (word 1 204 205)))))
    1 1 (at 208 213)))
    (node 218 233 (k.Perm (node 223 227 (k.Index (node 223 224 (k.Var (word 4 223 224))) (node 225 226 (k.Var (word 1 225 226)))))
    1 2 (at 229 232)))))
    (node 237 254 (k.Perm (node 242 246 (k.Index (node 242 243 (k.Var (word 5 242 243))) (node 244 245 (k.Var (word 1 244 245)))))
    1 1 (at 248 253)))))) ∷ []))
    ((stmt 268 280
    (s.Assign (node 268 272 (k.Index (node 268 269 (k.Var (word 3 268 269))) (node 270 271 (k.Var (word 1 270 271)))))
    (right 275 279
    (r.Value (node 275 279 (k.Index (node 275 276 (k.Var (word 4 275 276))) (node 277 278 (k.Var (word 1 277 278)))))))))
    ∷
    (stmt 287 314
    (s.Send (word 7 292 293) 1
    (node 298 313 (k.Perm (node 303 307 (k.Index (node 303 304 (k.Var (word 3 303 304))) (node 305 306 (k.Var (word 1 305 306)))))
    1 2 (at 309 312))))) ∷ (stmt 321 328 (s.Recv (word 7 326 327)))
    ∷
    (stmt 335 380 (s.If (node 339 344 (k.Binary op.Lt (node 339 340 (k.Number 0)) (node 343 344 (k.Var (word 1 343 344)))))
    ((stmt 356 372
    (s.Assign (node 356 360 (k.Index (node 356 357 (k.Var (word 5 356 357))) (node 358 359 (k.Var (word 1 358 359)))))
    (right 363 371
    (r.Value
    (node 363 371 (k.Index (node 363 364 (k.Var (word 3 363 364)))
    (node 365 370 (k.Binary op.Sub (node 365 366 (k.Var (word 1 365 366))) (node 369 370 (k.Number 1)))))))))) ∷ []) [])) ∷ [])))
    ∷ [])) ∷ [])

abbrev pub copying : Program
copying = record { classes = (copying_dep ∷ []); length = None }

--   class Dep {
--     requires (\forall* int i = 0 .. n; Perm(a[i], write) ** Perm(b[i], 1\2) ** Perm(c[i], write));
--     void copy(int[] a, int[] b, int[] c, int n) {
--       for (int i = 0 .. n)
--         requires Perm(a[i], write) ** Perm(b[i], 1\2) ** Perm(c[i], write);
--       {
--         a[i] = b[i];
--         send S, 1: Perm(a[i], 1\2);
--         if (0 < i) {
--           c[i] = a[i - 1];
--         }
--       }
--     }
--   }
-- names: Dep 0, i 1, n 2, a 3, b 4, c 5, copy 6, S 7
abbrev pub copying_unsent_dep : Class
copying_unsent_dep = class (at 0 378) (word 0 6 9) None
    (m.Method (method (at 14 376) (word 6 116 120) None
    ((param (word 3 127 128) (type_at 121 126 type.IntArray)) ∷ (param (word 4 136 137) (type_at 130 135 type.IntArray))
    ∷ (param (word 5 145 146) (type_at 139 144 type.IntArray)) ∷ (param (word 2 152 153) (type_at 148 151 type.Int)) ∷ [])
    (contract
    ((clause c.Requires
    (node 23 107
    (k.Each (each true (word 1 37 38) (node 41 42 (k.Number 0)) (node 46 47 (k.Var (word 2 46 47)))
    (node 49 106
    (k.Binary op.Star
    (node 49 85
    (k.Binary op.Star
    (node 49 66 (k.Perm (node 54 58 (k.Index (node 54 55 (k.Var (word 3 54 55))) (node 56 57 (k.Var (word 1 56 57))))) 1 1
    (at 60 65)))
    (node 70 85 (k.Perm (node 75 79 (k.Index (node 75 76 (k.Var (word 4 75 76))) (node 77 78 (k.Var (word 1 77 78))))) 1 2
    (at 81 84)))))
    (node 89 106 (k.Perm (node 94 98 (k.Index (node 94 95 (k.Var (word 5 94 95))) (node 96 97 (k.Var (word 1 96 97))))) 1 1
    (at 100 105))))) None)))) ∷ []))
    ((stmt 161 372 (s.For (range (word 1 170 171) (node 174 175 (k.Number 0)) (node 179 180 (k.Var (word 2 179 180))))
    (contract
    ((clause c.Requires
    (node 197 254
    (k.Binary op.Star
    (node 197 233
    (k.Binary op.Star
    (node 197 214 (k.Perm (node 202 206 (k.Index (node 202 203 (k.Var (word 3 202 203))) (node 204 205 (k.Var (word 1 204 205)))))
    1 1 (at 208 213)))
    (node 218 233 (k.Perm (node 223 227 (k.Index (node 223 224 (k.Var (word 4 223 224))) (node 225 226 (k.Var (word 1 225 226)))))
    1 2 (at 229 232)))))
    (node 237 254 (k.Perm (node 242 246 (k.Index (node 242 243 (k.Var (word 5 242 243))) (node 244 245 (k.Var (word 1 244 245)))))
    1 1 (at 248 253)))))) ∷ []))
    ((stmt 268 280
    (s.Assign (node 268 272 (k.Index (node 268 269 (k.Var (word 3 268 269))) (node 270 271 (k.Var (word 1 270 271)))))
    (right 275 279
    (r.Value (node 275 279 (k.Index (node 275 276 (k.Var (word 4 275 276))) (node 277 278 (k.Var (word 1 277 278)))))))))
    ∷
    (stmt 287 314
    (s.Send (word 7 292 293) 1
    (node 298 313 (k.Perm (node 303 307 (k.Index (node 303 304 (k.Var (word 3 303 304))) (node 305 306 (k.Var (word 1 305 306)))))
    1 2 (at 309 312)))))
    ∷
    (stmt 321 366 (s.If (node 325 330 (k.Binary op.Lt (node 325 326 (k.Number 0)) (node 329 330 (k.Var (word 1 329 330)))))
    ((stmt 342 358
    (s.Assign (node 342 346 (k.Index (node 342 343 (k.Var (word 5 342 343))) (node 344 345 (k.Var (word 1 344 345)))))
    (right 349 357
    (r.Value
    (node 349 357 (k.Index (node 349 350 (k.Var (word 3 349 350)))
    (node 351 356 (k.Binary op.Sub (node 351 352 (k.Var (word 1 351 352))) (node 355 356 (k.Number 1)))))))))) ∷ []) [])) ∷ [])))
    ∷ [])) ∷ [])

abbrev pub copying_unsent : Program
copying_unsent = record { classes = (copying_unsent_dep ∷ []); length = None }
