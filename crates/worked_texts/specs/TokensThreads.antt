-- The tokens of worked programs. checks/tokens.py writes this file from the texts.
use Rattle.std.specs.Prelude.{List, [], ◌∷◌}
use Rattle.pv_tokens.specs.declared.Lexeme.{Lexeme}
use Rattle.pv_tokens.specs.declared.fixed.TheConstants.{CLASS, INT, VOID, REQUIRES, ENSURES, LOCK_INVARIANT, IF, FOR, PAR, BARRIER, LOCK, UNLOCK, COMMIT, SEND, RECV, NEW, THIS, PERM, WRITE, COMMITTED, FORALL, FORALL_STAR, IMPLIES, STAR_STAR, EQUAL, DOTS, OPEN_BRACE, CLOSE_BRACE, OPEN_PAREN, CLOSE_PAREN, OPEN_BRACKET, CLOSE_BRACKET, SEMICOLON, COLON, COMMA, ASSIGN, LESS, PLUS, MINUS, BACKSLASH}
use Rattle.worked_texts.specs.Tokens.{named, number, fixed}

abbrev pub unheld_invariant : List Lexeme
unheld_invariant =
    fixed LOCK_INVARIANT 0 14 ∷ named 0 15 16 ∷ fixed EQUAL 17 19 ∷ number 0 20 21 ∷ fixed SEMICOLON 21 22 ∷ fixed CLASS 23 28
    ∷ named 1 29 30 ∷ fixed OPEN_BRACE 31 32 ∷ fixed INT 33 36 ∷ named 0 37 38 ∷ fixed SEMICOLON 38 39 ∷ fixed CLOSE_BRACE 40 41
    ∷ []

abbrev pub pair_of_two : List Lexeme
pair_of_two =
    fixed LOCK_INVARIANT 0 14 ∷ fixed PERM 15 19 ∷ fixed OPEN_PAREN 19 20 ∷ named 0 20 21 ∷ fixed COMMA 21 22 ∷ fixed WRITE 23 28
    ∷ fixed CLOSE_PAREN 28 29 ∷ fixed STAR_STAR 30 32 ∷ fixed PERM 33 37 ∷ fixed OPEN_PAREN 37 38 ∷ named 1 38 39
    ∷ fixed COMMA 39 40 ∷ fixed WRITE 41 46 ∷ fixed CLOSE_PAREN 46 47 ∷ fixed STAR_STAR 48 50 ∷ named 0 51 52 ∷ fixed EQUAL 53 55
    ∷ named 1 56 57 ∷ fixed SEMICOLON 57 58 ∷ fixed CLASS 59 64 ∷ named 2 65 69 ∷ fixed OPEN_BRACE 70 71 ∷ fixed INT 74 77
    ∷ named 0 78 79 ∷ fixed SEMICOLON 79 80 ∷ fixed INT 81 84 ∷ named 1 85 86 ∷ fixed SEMICOLON 86 87 ∷ fixed REQUIRES 90 98
    ∷ fixed COMMITTED 99 108 ∷ fixed OPEN_PAREN 108 109 ∷ fixed THIS 109 113 ∷ fixed CLOSE_PAREN 113 114 ∷ fixed SEMICOLON 114 115
    ∷ fixed VOID 118 122 ∷ named 3 123 127 ∷ fixed OPEN_PAREN 127 128 ∷ fixed CLOSE_PAREN 128 129 ∷ fixed OPEN_BRACE 130 131
    ∷ fixed LOCK 136 140 ∷ fixed THIS 141 145 ∷ fixed SEMICOLON 145 146 ∷ named 0 151 152 ∷ fixed ASSIGN 153 154
    ∷ number 4 155 156 ∷ fixed SEMICOLON 156 157 ∷ named 1 162 163 ∷ fixed ASSIGN 164 165 ∷ number 5 166 167
    ∷ fixed SEMICOLON 167 168 ∷ fixed UNLOCK 173 179 ∷ fixed THIS 180 184 ∷ fixed SEMICOLON 184 185 ∷ fixed CLOSE_BRACE 188 189
    ∷ fixed CLOSE_BRACE 190 191 ∷ []

abbrev pub pair : List Lexeme
pair =
    fixed LOCK_INVARIANT 0 14 ∷ fixed PERM 15 19 ∷ fixed OPEN_PAREN 19 20 ∷ named 0 20 21 ∷ fixed COMMA 21 22 ∷ fixed WRITE 23 28
    ∷ fixed CLOSE_PAREN 28 29 ∷ fixed STAR_STAR 30 32 ∷ fixed PERM 33 37 ∷ fixed OPEN_PAREN 37 38 ∷ named 1 38 39
    ∷ fixed COMMA 39 40 ∷ fixed WRITE 41 46 ∷ fixed CLOSE_PAREN 46 47 ∷ fixed STAR_STAR 48 50 ∷ named 0 51 52 ∷ fixed EQUAL 53 55
    ∷ named 1 56 57 ∷ fixed SEMICOLON 57 58 ∷ fixed CLASS 59 64 ∷ named 2 65 69 ∷ fixed OPEN_BRACE 70 71 ∷ fixed INT 74 77
    ∷ named 0 78 79 ∷ fixed SEMICOLON 79 80 ∷ fixed INT 81 84 ∷ named 1 85 86 ∷ fixed SEMICOLON 86 87 ∷ fixed REQUIRES 90 98
    ∷ fixed COMMITTED 99 108 ∷ fixed OPEN_PAREN 108 109 ∷ fixed THIS 109 113 ∷ fixed CLOSE_PAREN 113 114 ∷ fixed SEMICOLON 114 115
    ∷ fixed VOID 118 122 ∷ named 3 123 127 ∷ fixed OPEN_PAREN 127 128 ∷ fixed CLOSE_PAREN 128 129 ∷ fixed OPEN_BRACE 130 131
    ∷ fixed LOCK 136 140 ∷ fixed THIS 141 145 ∷ fixed SEMICOLON 145 146 ∷ named 0 151 152 ∷ fixed ASSIGN 153 154
    ∷ number 4 155 156 ∷ fixed SEMICOLON 156 157 ∷ named 1 162 163 ∷ fixed ASSIGN 164 165 ∷ number 4 166 167
    ∷ fixed SEMICOLON 167 168 ∷ fixed UNLOCK 173 179 ∷ fixed THIS 180 184 ∷ fixed SEMICOLON 184 185 ∷ fixed CLOSE_BRACE 188 189
    ∷ fixed CLOSE_BRACE 190 191 ∷ []

abbrev pub twice : List Lexeme
twice =
    fixed LOCK_INVARIANT 0 14 ∷ fixed PERM 15 19 ∷ fixed OPEN_PAREN 19 20 ∷ named 0 20 21 ∷ fixed COMMA 21 22 ∷ fixed WRITE 23 28
    ∷ fixed CLOSE_PAREN 28 29 ∷ fixed STAR_STAR 30 32 ∷ fixed PERM 33 37 ∷ fixed OPEN_PAREN 37 38 ∷ named 1 38 39
    ∷ fixed COMMA 39 40 ∷ fixed WRITE 41 46 ∷ fixed CLOSE_PAREN 46 47 ∷ fixed STAR_STAR 48 50 ∷ named 0 51 52 ∷ fixed EQUAL 53 55
    ∷ named 1 56 57 ∷ fixed SEMICOLON 57 58 ∷ fixed CLASS 59 64 ∷ named 2 65 69 ∷ fixed OPEN_BRACE 70 71 ∷ fixed INT 74 77
    ∷ named 0 78 79 ∷ fixed SEMICOLON 79 80 ∷ fixed INT 81 84 ∷ named 1 85 86 ∷ fixed SEMICOLON 86 87 ∷ fixed REQUIRES 90 98
    ∷ fixed COMMITTED 99 108 ∷ fixed OPEN_PAREN 108 109 ∷ fixed THIS 109 113 ∷ fixed CLOSE_PAREN 113 114 ∷ fixed SEMICOLON 114 115
    ∷ fixed VOID 118 122 ∷ named 3 123 127 ∷ fixed OPEN_PAREN 127 128 ∷ fixed CLOSE_PAREN 128 129 ∷ fixed OPEN_BRACE 130 131
    ∷ fixed LOCK 136 140 ∷ fixed THIS 141 145 ∷ fixed SEMICOLON 145 146 ∷ named 0 151 152 ∷ fixed ASSIGN 153 154
    ∷ number 4 155 156 ∷ fixed SEMICOLON 156 157 ∷ named 1 162 163 ∷ fixed ASSIGN 164 165 ∷ number 4 166 167
    ∷ fixed SEMICOLON 167 168 ∷ fixed UNLOCK 173 179 ∷ fixed THIS 180 184 ∷ fixed SEMICOLON 184 185 ∷ fixed CLOSE_BRACE 188 189
    ∷ fixed CLOSE_BRACE 190 191 ∷ fixed CLASS 192 197 ∷ named 4 198 202 ∷ fixed OPEN_BRACE 203 204 ∷ fixed VOID 205 209
    ∷ named 5 210 215 ∷ fixed OPEN_PAREN 215 216 ∷ fixed CLOSE_PAREN 216 217 ∷ fixed OPEN_BRACE 218 219 ∷ named 2 220 224
    ∷ named 6 225 226 ∷ fixed ASSIGN 227 228 ∷ fixed NEW 229 232 ∷ named 2 233 237 ∷ fixed OPEN_PAREN 237 238
    ∷ fixed CLOSE_PAREN 238 239 ∷ fixed SEMICOLON 239 240 ∷ fixed COMMIT 241 247 ∷ named 6 248 249 ∷ fixed SEMICOLON 249 250
    ∷ fixed LOCK 251 255 ∷ named 6 256 257 ∷ fixed SEMICOLON 257 258 ∷ fixed LOCK 259 263 ∷ named 6 264 265
    ∷ fixed SEMICOLON 265 266 ∷ fixed CLOSE_BRACE 267 268 ∷ fixed CLOSE_BRACE 269 270 ∷ []

abbrev pub members : List Lexeme
members =
    fixed CLASS 0 5 ∷ named 0 6 9 ∷ fixed OPEN_BRACE 10 11 ∷ fixed REQUIRES 14 22 ∷ fixed OPEN_PAREN 23 24
    ∷ fixed FORALL_STAR 24 32 ∷ fixed INT 33 36 ∷ named 1 37 38 ∷ fixed ASSIGN 39 40 ∷ number 0 41 42 ∷ fixed DOTS 43 45
    ∷ named 2 46 47 ∷ fixed SEMICOLON 47 48 ∷ fixed PERM 49 53 ∷ fixed OPEN_PAREN 53 54 ∷ named 3 54 55 ∷ fixed OPEN_BRACKET 55 56
    ∷ named 1 56 57 ∷ fixed CLOSE_BRACKET 57 58 ∷ fixed COMMA 58 59 ∷ fixed WRITE 60 65 ∷ fixed CLOSE_PAREN 65 66
    ∷ fixed CLOSE_PAREN 66 67 ∷ fixed SEMICOLON 67 68 ∷ fixed ENSURES 71 78 ∷ fixed OPEN_PAREN 79 80 ∷ fixed FORALL_STAR 80 88
    ∷ fixed INT 89 92 ∷ named 1 93 94 ∷ fixed ASSIGN 95 96 ∷ number 0 97 98 ∷ fixed DOTS 99 101 ∷ named 2 102 103
    ∷ fixed SEMICOLON 103 104 ∷ fixed PERM 105 109 ∷ fixed OPEN_PAREN 109 110 ∷ named 3 110 111 ∷ fixed OPEN_BRACKET 111 112
    ∷ named 1 112 113 ∷ fixed CLOSE_BRACKET 113 114 ∷ fixed COMMA 114 115 ∷ fixed WRITE 116 121 ∷ fixed CLOSE_PAREN 121 122
    ∷ fixed CLOSE_PAREN 122 123 ∷ fixed SEMICOLON 123 124 ∷ fixed ENSURES 127 134 ∷ fixed OPEN_PAREN 135 136
    ∷ fixed FORALL 136 143 ∷ fixed INT 144 147 ∷ named 1 148 149 ∷ fixed ASSIGN 150 151 ∷ number 0 152 153 ∷ fixed DOTS 154 156
    ∷ named 2 157 158 ∷ fixed SEMICOLON 158 159 ∷ named 3 160 161 ∷ fixed OPEN_BRACKET 161 162 ∷ named 1 162 163
    ∷ fixed CLOSE_BRACKET 163 164 ∷ fixed EQUAL 165 167 ∷ number 7 168 169 ∷ fixed CLOSE_PAREN 169 170 ∷ fixed SEMICOLON 170 171
    ∷ fixed VOID 174 178 ∷ named 4 179 183 ∷ fixed OPEN_PAREN 183 184 ∷ fixed INT 184 187 ∷ fixed OPEN_BRACKET 187 188
    ∷ fixed CLOSE_BRACKET 188 189 ∷ named 3 190 191 ∷ fixed COMMA 191 192 ∷ fixed INT 193 196 ∷ named 2 197 198
    ∷ fixed CLOSE_PAREN 198 199 ∷ fixed OPEN_BRACE 200 201 ∷ fixed PAR 206 209 ∷ fixed OPEN_PAREN 210 211 ∷ fixed INT 211 214
    ∷ named 1 215 216 ∷ fixed ASSIGN 217 218 ∷ number 0 219 220 ∷ fixed DOTS 221 223 ∷ named 2 224 225 ∷ fixed CLOSE_PAREN 225 226
    ∷ fixed REQUIRES 233 241 ∷ fixed PERM 242 246 ∷ fixed OPEN_PAREN 246 247 ∷ named 3 247 248 ∷ fixed OPEN_BRACKET 248 249
    ∷ named 1 249 250 ∷ fixed CLOSE_BRACKET 250 251 ∷ fixed COMMA 251 252 ∷ fixed WRITE 253 258 ∷ fixed CLOSE_PAREN 258 259
    ∷ fixed SEMICOLON 259 260 ∷ fixed ENSURES 267 274 ∷ fixed PERM 275 279 ∷ fixed OPEN_PAREN 279 280 ∷ named 3 280 281
    ∷ fixed OPEN_BRACKET 281 282 ∷ named 1 282 283 ∷ fixed CLOSE_BRACKET 283 284 ∷ fixed COMMA 284 285 ∷ fixed WRITE 286 291
    ∷ fixed CLOSE_PAREN 291 292 ∷ fixed STAR_STAR 293 295 ∷ named 3 296 297 ∷ fixed OPEN_BRACKET 297 298 ∷ named 1 298 299
    ∷ fixed CLOSE_BRACKET 299 300 ∷ fixed EQUAL 301 303 ∷ number 7 304 305 ∷ fixed SEMICOLON 305 306 ∷ fixed OPEN_BRACE 311 312
    ∷ named 3 319 320 ∷ fixed OPEN_BRACKET 320 321 ∷ named 1 321 322 ∷ fixed CLOSE_BRACKET 322 323 ∷ fixed ASSIGN 324 325
    ∷ number 7 326 327 ∷ fixed SEMICOLON 327 328 ∷ fixed CLOSE_BRACE 333 334 ∷ fixed CLOSE_BRACE 337 338
    ∷ fixed CLOSE_BRACE 339 340 ∷ []

abbrev pub shift_too_far : List Lexeme
shift_too_far =
    fixed CLASS 0 5 ∷ named 0 6 11 ∷ fixed OPEN_BRACE 12 13 ∷ fixed REQUIRES 16 24 ∷ fixed OPEN_PAREN 25 26
    ∷ fixed FORALL_STAR 26 34 ∷ fixed INT 35 38 ∷ named 1 39 40 ∷ fixed ASSIGN 41 42 ∷ number 0 43 44 ∷ fixed DOTS 45 47
    ∷ named 2 48 49 ∷ fixed SEMICOLON 49 50 ∷ fixed PERM 51 55 ∷ fixed OPEN_PAREN 55 56 ∷ named 3 56 57 ∷ fixed OPEN_BRACKET 57 58
    ∷ named 1 58 59 ∷ fixed CLOSE_BRACKET 59 60 ∷ fixed COMMA 60 61 ∷ fixed WRITE 62 67 ∷ fixed CLOSE_PAREN 67 68
    ∷ fixed CLOSE_PAREN 68 69 ∷ fixed SEMICOLON 69 70 ∷ fixed VOID 73 77 ∷ named 4 78 83 ∷ fixed OPEN_PAREN 83 84
    ∷ fixed INT 84 87 ∷ fixed OPEN_BRACKET 87 88 ∷ fixed CLOSE_BRACKET 88 89 ∷ named 3 90 91 ∷ fixed COMMA 91 92 ∷ fixed INT 93 96
    ∷ named 2 97 98 ∷ fixed CLOSE_PAREN 98 99 ∷ fixed OPEN_BRACE 100 101 ∷ fixed PAR 106 109 ∷ named 5 110 114
    ∷ fixed OPEN_PAREN 114 115 ∷ fixed INT 115 118 ∷ named 1 119 120 ∷ fixed ASSIGN 121 122 ∷ number 0 123 124
    ∷ fixed DOTS 125 127 ∷ named 2 128 129 ∷ fixed CLOSE_PAREN 129 130 ∷ fixed REQUIRES 137 145 ∷ fixed PERM 146 150
    ∷ fixed OPEN_PAREN 150 151 ∷ named 3 151 152 ∷ fixed OPEN_BRACKET 152 153 ∷ named 1 153 154 ∷ fixed CLOSE_BRACKET 154 155
    ∷ fixed COMMA 155 156 ∷ fixed WRITE 157 162 ∷ fixed CLOSE_PAREN 162 163 ∷ fixed SEMICOLON 163 164 ∷ fixed OPEN_BRACE 169 170
    ∷ named 3 177 178 ∷ fixed OPEN_BRACKET 178 179 ∷ named 1 179 180 ∷ fixed CLOSE_BRACKET 180 181 ∷ fixed ASSIGN 182 183
    ∷ number 1 184 185 ∷ fixed SEMICOLON 185 186 ∷ fixed BARRIER 193 200 ∷ fixed OPEN_PAREN 200 201 ∷ named 5 201 205
    ∷ fixed CLOSE_PAREN 205 206 ∷ fixed OPEN_BRACE 207 208 ∷ fixed REQUIRES 217 225 ∷ fixed PERM 226 230
    ∷ fixed OPEN_PAREN 230 231 ∷ named 3 231 232 ∷ fixed OPEN_BRACKET 232 233 ∷ named 1 233 234 ∷ fixed CLOSE_BRACKET 234 235
    ∷ fixed COMMA 235 236 ∷ fixed WRITE 237 242 ∷ fixed CLOSE_PAREN 242 243 ∷ fixed SEMICOLON 243 244 ∷ fixed ENSURES 253 260
    ∷ fixed PERM 261 265 ∷ fixed OPEN_PAREN 265 266 ∷ named 3 266 267 ∷ fixed OPEN_BRACKET 267 268 ∷ named 1 268 269
    ∷ fixed PLUS 270 271 ∷ number 1 272 273 ∷ fixed CLOSE_BRACKET 273 274 ∷ fixed COMMA 274 275 ∷ fixed WRITE 276 281
    ∷ fixed CLOSE_PAREN 281 282 ∷ fixed SEMICOLON 282 283 ∷ fixed CLOSE_BRACE 290 291 ∷ fixed CLOSE_BRACE 296 297
    ∷ fixed CLOSE_BRACE 300 301 ∷ fixed CLOSE_BRACE 302 303 ∷ []

abbrev pub shift : List Lexeme
shift =
    fixed CLASS 0 5 ∷ named 0 6 11 ∷ fixed OPEN_BRACE 12 13 ∷ fixed REQUIRES 16 24 ∷ fixed OPEN_PAREN 25 26
    ∷ fixed FORALL_STAR 26 34 ∷ fixed INT 35 38 ∷ named 1 39 40 ∷ fixed ASSIGN 41 42 ∷ number 0 43 44 ∷ fixed DOTS 45 47
    ∷ named 2 48 49 ∷ fixed SEMICOLON 49 50 ∷ fixed PERM 51 55 ∷ fixed OPEN_PAREN 55 56 ∷ named 3 56 57 ∷ fixed OPEN_BRACKET 57 58
    ∷ named 1 58 59 ∷ fixed CLOSE_BRACKET 59 60 ∷ fixed COMMA 60 61 ∷ fixed WRITE 62 67 ∷ fixed CLOSE_PAREN 67 68
    ∷ fixed CLOSE_PAREN 68 69 ∷ fixed SEMICOLON 69 70 ∷ fixed VOID 73 77 ∷ named 4 78 83 ∷ fixed OPEN_PAREN 83 84
    ∷ fixed INT 84 87 ∷ fixed OPEN_BRACKET 87 88 ∷ fixed CLOSE_BRACKET 88 89 ∷ named 3 90 91 ∷ fixed COMMA 91 92 ∷ fixed INT 93 96
    ∷ named 2 97 98 ∷ fixed CLOSE_PAREN 98 99 ∷ fixed OPEN_BRACE 100 101 ∷ fixed PAR 106 109 ∷ named 5 110 114
    ∷ fixed OPEN_PAREN 114 115 ∷ fixed INT 115 118 ∷ named 1 119 120 ∷ fixed ASSIGN 121 122 ∷ number 0 123 124
    ∷ fixed DOTS 125 127 ∷ named 2 128 129 ∷ fixed CLOSE_PAREN 129 130 ∷ fixed REQUIRES 137 145 ∷ fixed PERM 146 150
    ∷ fixed OPEN_PAREN 150 151 ∷ named 3 151 152 ∷ fixed OPEN_BRACKET 152 153 ∷ named 1 153 154 ∷ fixed CLOSE_BRACKET 154 155
    ∷ fixed COMMA 155 156 ∷ fixed WRITE 157 162 ∷ fixed CLOSE_PAREN 162 163 ∷ fixed SEMICOLON 163 164 ∷ fixed OPEN_BRACE 169 170
    ∷ named 3 177 178 ∷ fixed OPEN_BRACKET 178 179 ∷ named 1 179 180 ∷ fixed CLOSE_BRACKET 180 181 ∷ fixed ASSIGN 182 183
    ∷ number 1 184 185 ∷ fixed SEMICOLON 185 186 ∷ fixed BARRIER 193 200 ∷ fixed OPEN_PAREN 200 201 ∷ named 5 201 205
    ∷ fixed CLOSE_PAREN 205 206 ∷ fixed OPEN_BRACE 207 208 ∷ fixed REQUIRES 217 225 ∷ fixed PERM 226 230
    ∷ fixed OPEN_PAREN 230 231 ∷ named 3 231 232 ∷ fixed OPEN_BRACKET 232 233 ∷ named 1 233 234 ∷ fixed CLOSE_BRACKET 234 235
    ∷ fixed COMMA 235 236 ∷ fixed WRITE 237 242 ∷ fixed CLOSE_PAREN 242 243 ∷ fixed SEMICOLON 243 244 ∷ fixed ENSURES 253 260
    ∷ named 1 261 262 ∷ fixed LESS 263 264 ∷ named 2 265 266 ∷ fixed MINUS 267 268 ∷ number 1 269 270 ∷ fixed IMPLIES 271 274
    ∷ fixed PERM 275 279 ∷ fixed OPEN_PAREN 279 280 ∷ named 3 280 281 ∷ fixed OPEN_BRACKET 281 282 ∷ named 1 282 283
    ∷ fixed PLUS 284 285 ∷ number 1 286 287 ∷ fixed CLOSE_BRACKET 287 288 ∷ fixed COMMA 288 289 ∷ fixed WRITE 290 295
    ∷ fixed CLOSE_PAREN 295 296 ∷ fixed SEMICOLON 296 297 ∷ fixed CLOSE_BRACE 304 305 ∷ fixed CLOSE_BRACE 310 311
    ∷ fixed CLOSE_BRACE 314 315 ∷ fixed CLOSE_BRACE 316 317 ∷ []

abbrev pub copying : List Lexeme
copying =
    fixed CLASS 0 5 ∷ named 0 6 9 ∷ fixed OPEN_BRACE 10 11 ∷ fixed REQUIRES 14 22 ∷ fixed OPEN_PAREN 23 24
    ∷ fixed FORALL_STAR 24 32 ∷ fixed INT 33 36 ∷ named 1 37 38 ∷ fixed ASSIGN 39 40 ∷ number 0 41 42 ∷ fixed DOTS 43 45
    ∷ named 2 46 47 ∷ fixed SEMICOLON 47 48 ∷ fixed PERM 49 53 ∷ fixed OPEN_PAREN 53 54 ∷ named 3 54 55 ∷ fixed OPEN_BRACKET 55 56
    ∷ named 1 56 57 ∷ fixed CLOSE_BRACKET 57 58 ∷ fixed COMMA 58 59 ∷ fixed WRITE 60 65 ∷ fixed CLOSE_PAREN 65 66
    ∷ fixed STAR_STAR 67 69 ∷ fixed PERM 70 74 ∷ fixed OPEN_PAREN 74 75 ∷ named 4 75 76 ∷ fixed OPEN_BRACKET 76 77 ∷ named 1 77 78
    ∷ fixed CLOSE_BRACKET 78 79 ∷ fixed COMMA 79 80 ∷ number 1 81 82 ∷ fixed BACKSLASH 82 83 ∷ number 2 83 84
    ∷ fixed CLOSE_PAREN 84 85 ∷ fixed STAR_STAR 86 88 ∷ fixed PERM 89 93 ∷ fixed OPEN_PAREN 93 94 ∷ named 5 94 95
    ∷ fixed OPEN_BRACKET 95 96 ∷ named 1 96 97 ∷ fixed CLOSE_BRACKET 97 98 ∷ fixed COMMA 98 99 ∷ fixed WRITE 100 105
    ∷ fixed CLOSE_PAREN 105 106 ∷ fixed CLOSE_PAREN 106 107 ∷ fixed SEMICOLON 107 108 ∷ fixed VOID 111 115 ∷ named 6 116 120
    ∷ fixed OPEN_PAREN 120 121 ∷ fixed INT 121 124 ∷ fixed OPEN_BRACKET 124 125 ∷ fixed CLOSE_BRACKET 125 126 ∷ named 3 127 128
    ∷ fixed COMMA 128 129 ∷ fixed INT 130 133 ∷ fixed OPEN_BRACKET 133 134 ∷ fixed CLOSE_BRACKET 134 135 ∷ named 4 136 137
    ∷ fixed COMMA 137 138 ∷ fixed INT 139 142 ∷ fixed OPEN_BRACKET 142 143 ∷ fixed CLOSE_BRACKET 143 144 ∷ named 5 145 146
    ∷ fixed COMMA 146 147 ∷ fixed INT 148 151 ∷ named 2 152 153 ∷ fixed CLOSE_PAREN 153 154 ∷ fixed OPEN_BRACE 155 156
    ∷ fixed FOR 161 164 ∷ fixed OPEN_PAREN 165 166 ∷ fixed INT 166 169 ∷ named 1 170 171 ∷ fixed ASSIGN 172 173 ∷ number 0 174 175
    ∷ fixed DOTS 176 178 ∷ named 2 179 180 ∷ fixed CLOSE_PAREN 180 181 ∷ fixed REQUIRES 188 196 ∷ fixed PERM 197 201
    ∷ fixed OPEN_PAREN 201 202 ∷ named 3 202 203 ∷ fixed OPEN_BRACKET 203 204 ∷ named 1 204 205 ∷ fixed CLOSE_BRACKET 205 206
    ∷ fixed COMMA 206 207 ∷ fixed WRITE 208 213 ∷ fixed CLOSE_PAREN 213 214 ∷ fixed STAR_STAR 215 217 ∷ fixed PERM 218 222
    ∷ fixed OPEN_PAREN 222 223 ∷ named 4 223 224 ∷ fixed OPEN_BRACKET 224 225 ∷ named 1 225 226 ∷ fixed CLOSE_BRACKET 226 227
    ∷ fixed COMMA 227 228 ∷ number 1 229 230 ∷ fixed BACKSLASH 230 231 ∷ number 2 231 232 ∷ fixed CLOSE_PAREN 232 233
    ∷ fixed STAR_STAR 234 236 ∷ fixed PERM 237 241 ∷ fixed OPEN_PAREN 241 242 ∷ named 5 242 243 ∷ fixed OPEN_BRACKET 243 244
    ∷ named 1 244 245 ∷ fixed CLOSE_BRACKET 245 246 ∷ fixed COMMA 246 247 ∷ fixed WRITE 248 253 ∷ fixed CLOSE_PAREN 253 254
    ∷ fixed SEMICOLON 254 255 ∷ fixed OPEN_BRACE 260 261 ∷ named 3 268 269 ∷ fixed OPEN_BRACKET 269 270 ∷ named 1 270 271
    ∷ fixed CLOSE_BRACKET 271 272 ∷ fixed ASSIGN 273 274 ∷ named 4 275 276 ∷ fixed OPEN_BRACKET 276 277 ∷ named 1 277 278
    ∷ fixed CLOSE_BRACKET 278 279 ∷ fixed SEMICOLON 279 280 ∷ fixed SEND 287 291 ∷ named 7 292 293 ∷ fixed COMMA 293 294
    ∷ number 1 295 296 ∷ fixed COLON 296 297 ∷ fixed PERM 298 302 ∷ fixed OPEN_PAREN 302 303 ∷ named 3 303 304
    ∷ fixed OPEN_BRACKET 304 305 ∷ named 1 305 306 ∷ fixed CLOSE_BRACKET 306 307 ∷ fixed COMMA 307 308 ∷ number 1 309 310
    ∷ fixed BACKSLASH 310 311 ∷ number 2 311 312 ∷ fixed CLOSE_PAREN 312 313 ∷ fixed SEMICOLON 313 314 ∷ fixed RECV 321 325
    ∷ named 7 326 327 ∷ fixed SEMICOLON 327 328 ∷ fixed IF 335 337 ∷ fixed OPEN_PAREN 338 339 ∷ number 0 339 340
    ∷ fixed LESS 341 342 ∷ named 1 343 344 ∷ fixed CLOSE_PAREN 344 345 ∷ fixed OPEN_BRACE 346 347 ∷ named 5 356 357
    ∷ fixed OPEN_BRACKET 357 358 ∷ named 1 358 359 ∷ fixed CLOSE_BRACKET 359 360 ∷ fixed ASSIGN 361 362 ∷ named 3 363 364
    ∷ fixed OPEN_BRACKET 364 365 ∷ named 1 365 366 ∷ fixed MINUS 367 368 ∷ number 1 369 370 ∷ fixed CLOSE_BRACKET 370 371
    ∷ fixed SEMICOLON 371 372 ∷ fixed CLOSE_BRACE 379 380 ∷ fixed CLOSE_BRACE 385 386 ∷ fixed CLOSE_BRACE 389 390
    ∷ fixed CLOSE_BRACE 391 392 ∷ []

abbrev pub copying_unsent : List Lexeme
copying_unsent =
    fixed CLASS 0 5 ∷ named 0 6 9 ∷ fixed OPEN_BRACE 10 11 ∷ fixed REQUIRES 14 22 ∷ fixed OPEN_PAREN 23 24
    ∷ fixed FORALL_STAR 24 32 ∷ fixed INT 33 36 ∷ named 1 37 38 ∷ fixed ASSIGN 39 40 ∷ number 0 41 42 ∷ fixed DOTS 43 45
    ∷ named 2 46 47 ∷ fixed SEMICOLON 47 48 ∷ fixed PERM 49 53 ∷ fixed OPEN_PAREN 53 54 ∷ named 3 54 55 ∷ fixed OPEN_BRACKET 55 56
    ∷ named 1 56 57 ∷ fixed CLOSE_BRACKET 57 58 ∷ fixed COMMA 58 59 ∷ fixed WRITE 60 65 ∷ fixed CLOSE_PAREN 65 66
    ∷ fixed STAR_STAR 67 69 ∷ fixed PERM 70 74 ∷ fixed OPEN_PAREN 74 75 ∷ named 4 75 76 ∷ fixed OPEN_BRACKET 76 77 ∷ named 1 77 78
    ∷ fixed CLOSE_BRACKET 78 79 ∷ fixed COMMA 79 80 ∷ number 1 81 82 ∷ fixed BACKSLASH 82 83 ∷ number 2 83 84
    ∷ fixed CLOSE_PAREN 84 85 ∷ fixed STAR_STAR 86 88 ∷ fixed PERM 89 93 ∷ fixed OPEN_PAREN 93 94 ∷ named 5 94 95
    ∷ fixed OPEN_BRACKET 95 96 ∷ named 1 96 97 ∷ fixed CLOSE_BRACKET 97 98 ∷ fixed COMMA 98 99 ∷ fixed WRITE 100 105
    ∷ fixed CLOSE_PAREN 105 106 ∷ fixed CLOSE_PAREN 106 107 ∷ fixed SEMICOLON 107 108 ∷ fixed VOID 111 115 ∷ named 6 116 120
    ∷ fixed OPEN_PAREN 120 121 ∷ fixed INT 121 124 ∷ fixed OPEN_BRACKET 124 125 ∷ fixed CLOSE_BRACKET 125 126 ∷ named 3 127 128
    ∷ fixed COMMA 128 129 ∷ fixed INT 130 133 ∷ fixed OPEN_BRACKET 133 134 ∷ fixed CLOSE_BRACKET 134 135 ∷ named 4 136 137
    ∷ fixed COMMA 137 138 ∷ fixed INT 139 142 ∷ fixed OPEN_BRACKET 142 143 ∷ fixed CLOSE_BRACKET 143 144 ∷ named 5 145 146
    ∷ fixed COMMA 146 147 ∷ fixed INT 148 151 ∷ named 2 152 153 ∷ fixed CLOSE_PAREN 153 154 ∷ fixed OPEN_BRACE 155 156
    ∷ fixed FOR 161 164 ∷ fixed OPEN_PAREN 165 166 ∷ fixed INT 166 169 ∷ named 1 170 171 ∷ fixed ASSIGN 172 173 ∷ number 0 174 175
    ∷ fixed DOTS 176 178 ∷ named 2 179 180 ∷ fixed CLOSE_PAREN 180 181 ∷ fixed REQUIRES 188 196 ∷ fixed PERM 197 201
    ∷ fixed OPEN_PAREN 201 202 ∷ named 3 202 203 ∷ fixed OPEN_BRACKET 203 204 ∷ named 1 204 205 ∷ fixed CLOSE_BRACKET 205 206
    ∷ fixed COMMA 206 207 ∷ fixed WRITE 208 213 ∷ fixed CLOSE_PAREN 213 214 ∷ fixed STAR_STAR 215 217 ∷ fixed PERM 218 222
    ∷ fixed OPEN_PAREN 222 223 ∷ named 4 223 224 ∷ fixed OPEN_BRACKET 224 225 ∷ named 1 225 226 ∷ fixed CLOSE_BRACKET 226 227
    ∷ fixed COMMA 227 228 ∷ number 1 229 230 ∷ fixed BACKSLASH 230 231 ∷ number 2 231 232 ∷ fixed CLOSE_PAREN 232 233
    ∷ fixed STAR_STAR 234 236 ∷ fixed PERM 237 241 ∷ fixed OPEN_PAREN 241 242 ∷ named 5 242 243 ∷ fixed OPEN_BRACKET 243 244
    ∷ named 1 244 245 ∷ fixed CLOSE_BRACKET 245 246 ∷ fixed COMMA 246 247 ∷ fixed WRITE 248 253 ∷ fixed CLOSE_PAREN 253 254
    ∷ fixed SEMICOLON 254 255 ∷ fixed OPEN_BRACE 260 261 ∷ named 3 268 269 ∷ fixed OPEN_BRACKET 269 270 ∷ named 1 270 271
    ∷ fixed CLOSE_BRACKET 271 272 ∷ fixed ASSIGN 273 274 ∷ named 4 275 276 ∷ fixed OPEN_BRACKET 276 277 ∷ named 1 277 278
    ∷ fixed CLOSE_BRACKET 278 279 ∷ fixed SEMICOLON 279 280 ∷ fixed SEND 287 291 ∷ named 7 292 293 ∷ fixed COMMA 293 294
    ∷ number 1 295 296 ∷ fixed COLON 296 297 ∷ fixed PERM 298 302 ∷ fixed OPEN_PAREN 302 303 ∷ named 3 303 304
    ∷ fixed OPEN_BRACKET 304 305 ∷ named 1 305 306 ∷ fixed CLOSE_BRACKET 306 307 ∷ fixed COMMA 307 308 ∷ number 1 309 310
    ∷ fixed BACKSLASH 310 311 ∷ number 2 311 312 ∷ fixed CLOSE_PAREN 312 313 ∷ fixed SEMICOLON 313 314 ∷ fixed IF 321 323
    ∷ fixed OPEN_PAREN 324 325 ∷ number 0 325 326 ∷ fixed LESS 327 328 ∷ named 1 329 330 ∷ fixed CLOSE_PAREN 330 331
    ∷ fixed OPEN_BRACE 332 333 ∷ named 5 342 343 ∷ fixed OPEN_BRACKET 343 344 ∷ named 1 344 345 ∷ fixed CLOSE_BRACKET 345 346
    ∷ fixed ASSIGN 347 348 ∷ named 3 349 350 ∷ fixed OPEN_BRACKET 350 351 ∷ named 1 351 352 ∷ fixed MINUS 353 354
    ∷ number 1 355 356 ∷ fixed CLOSE_BRACKET 356 357 ∷ fixed SEMICOLON 357 358 ∷ fixed CLOSE_BRACE 365 366
    ∷ fixed CLOSE_BRACE 371 372 ∷ fixed CLOSE_BRACE 375 376 ∷ fixed CLOSE_BRACE 377 378 ∷ []
