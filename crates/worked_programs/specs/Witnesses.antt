-- Worked programs as trees, each below its text. checks/trees.py writes this file from the texts.
use Rattle.std.specs.Prelude.{Some, None, [], ◌∷◌}
use Rattle.pv_ast.specs.declared.Class.{Class}
use Rattle.pv_ast.specs.declared.Program.{Program}
use Rattle.pv_ast.specs.declared.ExprKind.TheVariants as k
use Rattle.pv_ast.specs.declared.StmtKind.TheVariants as s
use Rattle.pv_ast.specs.declared.RightKind.TheVariants as r
use Rattle.pv_ast.specs.declared.Member.TheVariants as m
use Rattle.pv_ast.specs.declared.ClauseKind.TheVariants as c
use Rattle.pv_ast.specs.declared.PvType.TheVariants as type
use Rattle.pv_ast.specs.declared.Operator.TheVariants as op
use Rattle.pv_ast.specs.declared.Token.TheVariants as token
use Rattle.worked_programs.specs.Nodes.{name, at, word, node, type_at, right, clause, contract, range, stmt, param, predicate, method, run, class}

--   lock_invariant Perm(v, write);
--   class Cell {
--     int v;
--     requires committed(this);
--     run {
--       lock this;
--       v = 1;
--       unlock this;
--     }
--   }
--   class Main {
--     void both() {
--       Cell c = new Cell();
--       commit c;
--       fork c;
--       lock c;
--       c.v = 2;
--       unlock c;
--     }
--   }
-- names: v 0, Cell 1, Main 2, both 3, c 4
abbrev pub handed_cell : Class
handed_cell = class (at 0 137) (word 1 37 41) (Some (node 15 29 (k.Perm (node 20 21 (k.Var (word 0 20 21))) 1 1 (at 23 28))))
    (m.Field (param (word 0 50 51) (type_at 46 49 type.Int))
    ∷ m.Run
    (run (at 55 135) (at 83 86) (contract ((clause c.Requires (node 64 79 (k.Token token.Committed (node 74 78 k.This)))) ∷ []))
    ((stmt 93 103 (s.Lock (node 98 102 k.This)))
    ∷ (stmt 108 114 (s.Assign (node 108 109 (k.Var (word 0 108 109))) (right 112 113 (r.Value (node 112 113 (k.Number 1))))))
    ∷ (stmt 119 131 (s.Unlock (node 126 130 k.This))) ∷ [])) ∷ [])

abbrev pub handed_main : Class
handed_main = class (at 138 262) (word 2 144 148) None
    (m.Method (method (at 153 260) (word 3 158 162) None [] (contract [])
    ((stmt 171 191 (s.Local (type_at 171 175 (type.Object (name 1))) (word 4 176 177)
    (Some (right 180 190 (r.NewObject (word 1 184 188)))))) ∷ (stmt 196 205 (s.Commit (node 203 204 (k.Var (word 4 203 204)))))
    ∷ (stmt 210 217 (s.Fork (node 215 216 (k.Var (word 4 215 216)))))
    ∷ (stmt 222 229 (s.Lock (node 227 228 (k.Var (word 4 227 228)))))
    ∷
    (stmt 234 242 (s.Assign (node 234 237 (k.Field (node 234 235 (k.Var (word 4 234 235))) (word 0 236 237)))
    (right 240 241 (r.Value (node 240 241 (k.Number 2)))))) ∷ (stmt 247 256 (s.Unlock (node 254 255 (k.Var (word 4 254 255)))))
    ∷ [])) ∷ [])

abbrev pub handed : Program
handed = record { classes = (handed_cell ∷ handed_main ∷ []); length = None }

--   class Relay {
--     int v;
--     requires Perm(v, write);
--     void relay() {
--       par team(int i = 0 .. 2)
--         requires i == 0 ==> Perm(v, write);
--       {
--         if (i == 0) { v = 1; }
--         barrier(team) {
--           requires i == 0 ==> Perm(v, write);
--           ensures i == 1 ==> Perm(v, write);
--         }
--         if (i == 1) { v = 2; }
--       }
--     }
--   }
-- names: Relay 0, v 1, relay 2, team 3, i 4
abbrev pub relay_relay : Class
relay_relay = class (at 0 330) (word 0 6 11) None
    (m.Field (param (word 1 20 21) (type_at 16 19 type.Int))
    ∷ m.Method (method (at 25 328) (word 2 57 62) None []
    (contract ((clause c.Requires (node 34 48 (k.Perm (node 39 40 (k.Var (word 1 39 40))) 1 1 (at 42 47)))) ∷ []))
    ((stmt 71 324 (s.Par (Some (word 3 75 79)) (range (word 4 84 85) (node 88 89 (k.Number 0)) (node 93 94 (k.Number 2)))
    (contract
    ((clause c.Requires
    (node 111 136
    (k.Binary op.Implies (node 111 117 (k.Binary op.Eq (node 111 112 (k.Var (word 4 111 112))) (node 116 117 (k.Number 0))))
    (node 122 136 (k.Perm (node 127 128 (k.Var (word 1 127 128))) 1 1 (at 130 135)))))) ∷ []))
    ((stmt 150 172 (s.If (node 154 160 (k.Binary op.Eq (node 154 155 (k.Var (word 4 154 155))) (node 159 160 (k.Number 0))))
    ((stmt 164 170 (s.Assign (node 164 165 (k.Var (word 1 164 165))) (right 168 169 (r.Value (node 168 169 (k.Number 1)))))) ∷ [])
    []))
    ∷
    (stmt 179 289
    (s.Barrier (word 3 187 191)
    (contract
    ((clause c.Requires
    (node 212 237
    (k.Binary op.Implies (node 212 218 (k.Binary op.Eq (node 212 213 (k.Var (word 4 212 213))) (node 217 218 (k.Number 0))))
    (node 223 237 (k.Perm (node 228 229 (k.Var (word 1 228 229))) 1 1 (at 231 236))))))
    ∷
    (clause c.Ensures
    (node 255 280
    (k.Binary op.Implies (node 255 261 (k.Binary op.Eq (node 255 256 (k.Var (word 4 255 256))) (node 260 261 (k.Number 1))))
    (node 266 280 (k.Perm (node 271 272 (k.Var (word 1 271 272))) 1 1 (at 274 279)))))) ∷ []))))
    ∷
    (stmt 296 318 (s.If (node 300 306 (k.Binary op.Eq (node 300 301 (k.Var (word 4 300 301))) (node 305 306 (k.Number 1))))
    ((stmt 310 316 (s.Assign (node 310 311 (k.Var (word 1 310 311))) (right 314 315 (r.Value (node 314 315 (k.Number 2)))))) ∷ [])
    [])) ∷ []))) ∷ [])) ∷ [])

abbrev pub relay : Program
relay = record { classes = (relay_relay ∷ []); length = None }

--   class Post {
--     int v;
--     requires Perm(v, write);
--     void post() {
--       for (int i = 0 .. 2)
--         requires i == 0 ==> Perm(v, write);
--       {
--         if (i == 0) { v = 1; }
--         send S, 1: i == 0 ==> Perm(v, write);
--         recv S;
--         if (i == 1) { v = 2; }
--       }
--     }
--   }
-- names: Post 0, v 1, post 2, i 3, S 4
abbrev pub posted_post : Class
posted_post = class (at 0 265) (word 0 6 10) None
    (m.Field (param (word 1 19 20) (type_at 15 18 type.Int))
    ∷ m.Method (method (at 24 263) (word 2 56 60) None []
    (contract ((clause c.Requires (node 33 47 (k.Perm (node 38 39 (k.Var (word 1 38 39))) 1 1 (at 41 46)))) ∷ []))
    ((stmt 69 259 (s.For (range (word 3 78 79) (node 82 83 (k.Number 0)) (node 87 88 (k.Number 2)))
    (contract
    ((clause c.Requires
    (node 105 130
    (k.Binary op.Implies (node 105 111 (k.Binary op.Eq (node 105 106 (k.Var (word 3 105 106))) (node 110 111 (k.Number 0))))
    (node 116 130 (k.Perm (node 121 122 (k.Var (word 1 121 122))) 1 1 (at 124 129)))))) ∷ []))
    ((stmt 144 166 (s.If (node 148 154 (k.Binary op.Eq (node 148 149 (k.Var (word 3 148 149))) (node 153 154 (k.Number 0))))
    ((stmt 158 164 (s.Assign (node 158 159 (k.Var (word 1 158 159))) (right 162 163 (r.Value (node 162 163 (k.Number 1)))))) ∷ [])
    []))
    ∷
    (stmt 173 210
    (s.Send (word 4 178 179) 1
    (node 184 209
    (k.Binary op.Implies (node 184 190 (k.Binary op.Eq (node 184 185 (k.Var (word 3 184 185))) (node 189 190 (k.Number 0))))
    (node 195 209 (k.Perm (node 200 201 (k.Var (word 1 200 201))) 1 1 (at 203 208)))))))
    ∷ (stmt 217 224 (s.Recv (word 4 222 223)))
    ∷
    (stmt 231 253 (s.If (node 235 241 (k.Binary op.Eq (node 235 236 (k.Var (word 3 235 236))) (node 240 241 (k.Number 1))))
    ((stmt 245 251 (s.Assign (node 245 246 (k.Var (word 1 245 246))) (right 249 250 (r.Value (node 249 250 (k.Number 2)))))) ∷ [])
    [])) ∷ []))) ∷ [])) ∷ [])

abbrev pub posted : Program
posted = record { classes = (posted_post ∷ []); length = None }

--   class Node {
--     int v; Node next;
--     resource list() = Perm(v, write) ** Perm(next, write) ** (next != null ==> next.list());
--     requires list();
--     ensures list();
--     void up() {
--       unfold list();
--       v = v + 1;
--       if (next != null) { next.up(); }
--       fold list();
--     }
--   }
--   class Main {
--     void two() {
--       Node m = new Node();
--       fold m.list();
--       Node n = new Node();
--       n.next = m;
--       fold n.list();
--       n.up();
--     }
--   }
-- names: Node 0, v 1, next 2, list 3, up 4, Main 5, two 6, m 7, n 8
abbrev pub list_node : Class
list_node = class (at 0 268) (word 0 6 10) None
    (m.Field (param (word 1 19 20) (type_at 15 18 type.Int))
    ∷ m.Field (param (word 2 27 31) (type_at 22 26 (type.Object (name 0))))
    ∷ m.Predicate (predicate (at 35 123) (word 3 44 48) []
    (node 53 122
    (k.Binary op.Star
    (node 53 88 (k.Binary op.Star (node 53 67 (k.Perm (node 58 59 (k.Var (word 1 58 59))) 1 1 (at 61 66)))
    (node 71 88 (k.Perm (node 76 80 (k.Var (word 2 76 80))) 1 1 (at 82 87)))))
    (node 93 121 (k.Binary op.Implies (node 93 105 (k.Binary op.Ne (node 93 97 (k.Var (word 2 93 97))) (node 101 105 k.Null)))
    (node 110 121 (k.Instance (Some (node 110 114 (k.Var (word 2 110 114)))) (word 3 115 119) [])))))))
    ∷ m.Method (method (at 126 266) (word 4 168 170) None []
    (contract ((clause c.Requires (node 135 141 (k.Instance None (word 3 135 139) [])))
    ∷ (clause c.Ensures (node 153 159 (k.Instance None (word 3 153 157) []))) ∷ []))
    ((stmt 179 193 (s.Unfold None (word 3 186 190) []))
    ∷
    (stmt 198 208 (s.Assign (node 198 199 (k.Var (word 1 198 199)))
    (right 202 207
    (r.Value (node 202 207 (k.Binary op.Add (node 202 203 (k.Var (word 1 202 203))) (node 206 207 (k.Number 1))))))))
    ∷
    (stmt 213 245 (s.If (node 217 229 (k.Binary op.Ne (node 217 221 (k.Var (word 2 217 221))) (node 225 229 k.Null)))
    ((stmt 233 243 (s.Call (Some (node 233 237 (k.Var (word 2 233 237)))) (word 4 238 240) [])) ∷ []) []))
    ∷ (stmt 250 262 (s.Fold None (word 3 255 259) [])) ∷ [])) ∷ [])

abbrev pub list_main : Class
list_main = class (at 269 418) (word 5 275 279) None
    (m.Method (method (at 284 416) (word 6 289 292) None [] (contract [])
    ((stmt 301 321 (s.Local (type_at 301 305 (type.Object (name 0))) (word 7 306 307)
    (Some (right 310 320 (r.NewObject (word 0 314 318))))))
    ∷ (stmt 326 340 (s.Fold (Some (node 331 332 (k.Var (word 7 331 332)))) (word 3 333 337) []))
    ∷
    (stmt 345 365 (s.Local (type_at 345 349 (type.Object (name 0))) (word 8 350 351)
    (Some (right 354 364 (r.NewObject (word 0 358 362))))))
    ∷
    (stmt 370 381 (s.Assign (node 370 376 (k.Field (node 370 371 (k.Var (word 8 370 371))) (word 2 372 376)))
    (right 379 380 (r.Value (node 379 380 (k.Var (word 7 379 380)))))))
    ∷ (stmt 386 400 (s.Fold (Some (node 391 392 (k.Var (word 8 391 392)))) (word 3 393 397) []))
    ∷ (stmt 405 412 (s.Call (Some (node 405 406 (k.Var (word 8 405 406)))) (word 4 407 409) [])) ∷ [])) ∷ [])

abbrev pub list : Program
list = record { classes = (list_node ∷ list_main ∷ []); length = None }

--   class Race {
--     int v;
--     void race() {
--       par (int i = 0 .. 2) {
--         v = i;
--       }
--     }
--   }
-- names: Race 0, v 1, race 2, i 3
abbrev pub members_race_race : Class
members_race_race = class (at 0 89) (word 0 6 10) None
    (m.Field (param (word 1 19 20) (type_at 15 18 type.Int))
    ∷ m.Method (method (at 24 87) (word 2 29 33) None [] (contract [])
    ((stmt 42 83 (s.Par None (range (word 3 51 52) (node 55 56 (k.Number 0)) (node 60 61 (k.Number 2))) (contract [])
    ((stmt 71 77 (s.Assign (node 71 72 (k.Var (word 1 71 72))) (right 75 76 (r.Value (node 75 76 (k.Var (word 3 75 76)))))))
    ∷ []))) ∷ [])) ∷ [])

abbrev pub members_race : Program
members_race = record { classes = (members_race_race ∷ []); length = None }

--   class Last {
--     int v;
--     void last() {
--       for (int i = 0 .. 2) {
--         v = i;
--       }
--     }
--   }
-- names: Last 0, v 1, last 2, i 3
abbrev pub overwritten_last : Class
overwritten_last = class (at 0 89) (word 0 6 10) None
    (m.Field (param (word 1 19 20) (type_at 15 18 type.Int))
    ∷ m.Method (method (at 24 87) (word 2 29 33) None [] (contract [])
    ((stmt 42 83 (s.For (range (word 3 51 52) (node 55 56 (k.Number 0)) (node 60 61 (k.Number 2))) (contract [])
    ((stmt 71 77 (s.Assign (node 71 72 (k.Var (word 1 71 72))) (right 75 76 (r.Value (node 75 76 (k.Var (word 3 75 76)))))))
    ∷ []))) ∷ [])) ∷ [])

abbrev pub overwritten : Program
overwritten = record { classes = (overwritten_last ∷ []); length = None }

--   class Share {
--     int v;
--     requires Perm(v, write);
--     ensures Perm(v, write);
--     void share() {
--       par (int i = 0 .. 2)
--         requires i == 0 ==> Perm(v, 1\2);
--         requires i == 1 ==> Perm(v, 1\2);
--         ensures i == 0 ==> Perm(v, 1\2);
--         ensures i == 1 ==> Perm(v, 1\2);
--       {
--         int x = v;
--       }
--       v = 3;
--     }
--   }
-- names: Share 0, v 1, share 2, i 3, x 4
abbrev pub divided_share : Class
divided_share = class (at 0 321) (word 0 6 11) None
    (m.Field (param (word 1 20 21) (type_at 16 19 type.Int))
    ∷ m.Method (method (at 25 319) (word 2 83 88) None []
    (contract ((clause c.Requires (node 34 48 (k.Perm (node 39 40 (k.Var (word 1 39 40))) 1 1 (at 42 47))))
    ∷ (clause c.Ensures (node 60 74 (k.Perm (node 65 66 (k.Var (word 1 65 66))) 1 1 (at 68 73)))) ∷ []))
    ((stmt 97 304 (s.Par None (range (word 3 106 107) (node 110 111 (k.Number 0)) (node 115 116 (k.Number 2)))
    (contract
    ((clause c.Requires
    (node 133 156
    (k.Binary op.Implies (node 133 139 (k.Binary op.Eq (node 133 134 (k.Var (word 3 133 134))) (node 138 139 (k.Number 0))))
    (node 144 156 (k.Perm (node 149 150 (k.Var (word 1 149 150))) 1 2 (at 152 155))))))
    ∷
    (clause c.Requires
    (node 173 196
    (k.Binary op.Implies (node 173 179 (k.Binary op.Eq (node 173 174 (k.Var (word 3 173 174))) (node 178 179 (k.Number 1))))
    (node 184 196 (k.Perm (node 189 190 (k.Var (word 1 189 190))) 1 2 (at 192 195))))))
    ∷
    (clause c.Ensures
    (node 212 235
    (k.Binary op.Implies (node 212 218 (k.Binary op.Eq (node 212 213 (k.Var (word 3 212 213))) (node 217 218 (k.Number 0))))
    (node 223 235 (k.Perm (node 228 229 (k.Var (word 1 228 229))) 1 2 (at 231 234))))))
    ∷
    (clause c.Ensures
    (node 251 274
    (k.Binary op.Implies (node 251 257 (k.Binary op.Eq (node 251 252 (k.Var (word 3 251 252))) (node 256 257 (k.Number 1))))
    (node 262 274 (k.Perm (node 267 268 (k.Var (word 1 267 268))) 1 2 (at 270 273)))))) ∷ []))
    ((stmt 288 298 (s.Local (type_at 288 291 type.Int) (word 4 292 293)
    (Some (right 296 297 (r.Value (node 296 297 (k.Var (word 1 296 297)))))))) ∷ [])))
    ∷ (stmt 309 315 (s.Assign (node 309 310 (k.Var (word 1 309 310))) (right 313 314 (r.Value (node 313 314 (k.Number 3))))))
    ∷ [])) ∷ [])

abbrev pub divided : Program
divided = record { classes = (divided_share ∷ []); length = None }
