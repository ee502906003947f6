-- The tokens of worked programs. checks/tokens.py writes this file from the texts.
use Rattle.std.specs.Prelude.{List, [], ◌∷◌}
use Rattle.pv_tokens.specs.declared.Lexeme.{Lexeme}
use Rattle.pv_tokens.specs.declared.fixed.TheConstants.{CLASS, INT, VOID, RESOURCE, REQUIRES, ENSURES, LOCK_INVARIANT, IF, FOR, PAR, BARRIER, FORK, LOCK, UNLOCK, COMMIT, FOLD, UNFOLD, SEND, RECV, NEW, NULL, THIS, PERM, WRITE, COMMITTED, RUN, IMPLIES, STAR_STAR, EQUAL, NOT_EQUAL, DOTS, OPEN_BRACE, CLOSE_BRACE, OPEN_PAREN, CLOSE_PAREN, SEMICOLON, COLON, COMMA, DOT, ASSIGN, PLUS, BACKSLASH}
use Rattle.worked_texts.specs.Tokens.{named, number, fixed}

abbrev pub handed : List Lexeme
handed =
    fixed LOCK_INVARIANT 0 14 ∷ fixed PERM 15 19 ∷ fixed OPEN_PAREN 19 20 ∷ named 0 20 21 ∷ fixed COMMA 21 22 ∷ fixed WRITE 23 28
    ∷ fixed CLOSE_PAREN 28 29 ∷ fixed SEMICOLON 29 30 ∷ fixed CLASS 31 36 ∷ named 1 37 41 ∷ fixed OPEN_BRACE 42 43
    ∷ fixed INT 46 49 ∷ named 0 50 51 ∷ fixed SEMICOLON 51 52 ∷ fixed REQUIRES 55 63 ∷ fixed COMMITTED 64 73
    ∷ fixed OPEN_PAREN 73 74 ∷ fixed THIS 74 78 ∷ fixed CLOSE_PAREN 78 79 ∷ fixed SEMICOLON 79 80 ∷ fixed RUN 83 86
    ∷ fixed OPEN_BRACE 87 88 ∷ fixed LOCK 93 97 ∷ fixed THIS 98 102 ∷ fixed SEMICOLON 102 103 ∷ named 0 108 109
    ∷ fixed ASSIGN 110 111 ∷ number 1 112 113 ∷ fixed SEMICOLON 113 114 ∷ fixed UNLOCK 119 125 ∷ fixed THIS 126 130
    ∷ fixed SEMICOLON 130 131 ∷ fixed CLOSE_BRACE 134 135 ∷ fixed CLOSE_BRACE 136 137 ∷ fixed CLASS 138 143 ∷ named 2 144 148
    ∷ fixed OPEN_BRACE 149 150 ∷ fixed VOID 153 157 ∷ named 3 158 162 ∷ fixed OPEN_PAREN 162 163 ∷ fixed CLOSE_PAREN 163 164
    ∷ fixed OPEN_BRACE 165 166 ∷ named 1 171 175 ∷ named 4 176 177 ∷ fixed ASSIGN 178 179 ∷ fixed NEW 180 183 ∷ named 1 184 188
    ∷ fixed OPEN_PAREN 188 189 ∷ fixed CLOSE_PAREN 189 190 ∷ fixed SEMICOLON 190 191 ∷ fixed COMMIT 196 202 ∷ named 4 203 204
    ∷ fixed SEMICOLON 204 205 ∷ fixed FORK 210 214 ∷ named 4 215 216 ∷ fixed SEMICOLON 216 217 ∷ fixed LOCK 222 226
    ∷ named 4 227 228 ∷ fixed SEMICOLON 228 229 ∷ named 4 234 235 ∷ fixed DOT 235 236 ∷ named 0 236 237 ∷ fixed ASSIGN 238 239
    ∷ number 2 240 241 ∷ fixed SEMICOLON 241 242 ∷ fixed UNLOCK 247 253 ∷ named 4 254 255 ∷ fixed SEMICOLON 255 256
    ∷ fixed CLOSE_BRACE 259 260 ∷ fixed CLOSE_BRACE 261 262 ∷ []

abbrev pub relay : List Lexeme
relay =
    fixed CLASS 0 5 ∷ named 0 6 11 ∷ fixed OPEN_BRACE 12 13 ∷ fixed INT 16 19 ∷ named 1 20 21 ∷ fixed SEMICOLON 21 22
    ∷ fixed REQUIRES 25 33 ∷ fixed PERM 34 38 ∷ fixed OPEN_PAREN 38 39 ∷ named 1 39 40 ∷ fixed COMMA 40 41 ∷ fixed WRITE 42 47
    ∷ fixed CLOSE_PAREN 47 48 ∷ fixed SEMICOLON 48 49 ∷ fixed VOID 52 56 ∷ named 2 57 62 ∷ fixed OPEN_PAREN 62 63
    ∷ fixed CLOSE_PAREN 63 64 ∷ fixed OPEN_BRACE 65 66 ∷ fixed PAR 71 74 ∷ named 3 75 79 ∷ fixed OPEN_PAREN 79 80
    ∷ fixed INT 80 83 ∷ named 4 84 85 ∷ fixed ASSIGN 86 87 ∷ number 0 88 89 ∷ fixed DOTS 90 92 ∷ number 2 93 94
    ∷ fixed CLOSE_PAREN 94 95 ∷ fixed REQUIRES 102 110 ∷ named 4 111 112 ∷ fixed EQUAL 113 115 ∷ number 0 116 117
    ∷ fixed IMPLIES 118 121 ∷ fixed PERM 122 126 ∷ fixed OPEN_PAREN 126 127 ∷ named 1 127 128 ∷ fixed COMMA 128 129
    ∷ fixed WRITE 130 135 ∷ fixed CLOSE_PAREN 135 136 ∷ fixed SEMICOLON 136 137 ∷ fixed OPEN_BRACE 142 143 ∷ fixed IF 150 152
    ∷ fixed OPEN_PAREN 153 154 ∷ named 4 154 155 ∷ fixed EQUAL 156 158 ∷ number 0 159 160 ∷ fixed CLOSE_PAREN 160 161
    ∷ fixed OPEN_BRACE 162 163 ∷ named 1 164 165 ∷ fixed ASSIGN 166 167 ∷ number 1 168 169 ∷ fixed SEMICOLON 169 170
    ∷ fixed CLOSE_BRACE 171 172 ∷ fixed BARRIER 179 186 ∷ fixed OPEN_PAREN 186 187 ∷ named 3 187 191 ∷ fixed CLOSE_PAREN 191 192
    ∷ fixed OPEN_BRACE 193 194 ∷ fixed REQUIRES 203 211 ∷ named 4 212 213 ∷ fixed EQUAL 214 216 ∷ number 0 217 218
    ∷ fixed IMPLIES 219 222 ∷ fixed PERM 223 227 ∷ fixed OPEN_PAREN 227 228 ∷ named 1 228 229 ∷ fixed COMMA 229 230
    ∷ fixed WRITE 231 236 ∷ fixed CLOSE_PAREN 236 237 ∷ fixed SEMICOLON 237 238 ∷ fixed ENSURES 247 254 ∷ named 4 255 256
    ∷ fixed EQUAL 257 259 ∷ number 1 260 261 ∷ fixed IMPLIES 262 265 ∷ fixed PERM 266 270 ∷ fixed OPEN_PAREN 270 271
    ∷ named 1 271 272 ∷ fixed COMMA 272 273 ∷ fixed WRITE 274 279 ∷ fixed CLOSE_PAREN 279 280 ∷ fixed SEMICOLON 280 281
    ∷ fixed CLOSE_BRACE 288 289 ∷ fixed IF 296 298 ∷ fixed OPEN_PAREN 299 300 ∷ named 4 300 301 ∷ fixed EQUAL 302 304
    ∷ number 1 305 306 ∷ fixed CLOSE_PAREN 306 307 ∷ fixed OPEN_BRACE 308 309 ∷ named 1 310 311 ∷ fixed ASSIGN 312 313
    ∷ number 2 314 315 ∷ fixed SEMICOLON 315 316 ∷ fixed CLOSE_BRACE 317 318 ∷ fixed CLOSE_BRACE 323 324
    ∷ fixed CLOSE_BRACE 327 328 ∷ fixed CLOSE_BRACE 329 330 ∷ []

abbrev pub posted : List Lexeme
posted =
    fixed CLASS 0 5 ∷ named 0 6 10 ∷ fixed OPEN_BRACE 11 12 ∷ fixed INT 15 18 ∷ named 1 19 20 ∷ fixed SEMICOLON 20 21
    ∷ fixed REQUIRES 24 32 ∷ fixed PERM 33 37 ∷ fixed OPEN_PAREN 37 38 ∷ named 1 38 39 ∷ fixed COMMA 39 40 ∷ fixed WRITE 41 46
    ∷ fixed CLOSE_PAREN 46 47 ∷ fixed SEMICOLON 47 48 ∷ fixed VOID 51 55 ∷ named 2 56 60 ∷ fixed OPEN_PAREN 60 61
    ∷ fixed CLOSE_PAREN 61 62 ∷ fixed OPEN_BRACE 63 64 ∷ fixed FOR 69 72 ∷ fixed OPEN_PAREN 73 74 ∷ fixed INT 74 77
    ∷ named 3 78 79 ∷ fixed ASSIGN 80 81 ∷ number 0 82 83 ∷ fixed DOTS 84 86 ∷ number 2 87 88 ∷ fixed CLOSE_PAREN 88 89
    ∷ fixed REQUIRES 96 104 ∷ named 3 105 106 ∷ fixed EQUAL 107 109 ∷ number 0 110 111 ∷ fixed IMPLIES 112 115
    ∷ fixed PERM 116 120 ∷ fixed OPEN_PAREN 120 121 ∷ named 1 121 122 ∷ fixed COMMA 122 123 ∷ fixed WRITE 124 129
    ∷ fixed CLOSE_PAREN 129 130 ∷ fixed SEMICOLON 130 131 ∷ fixed OPEN_BRACE 136 137 ∷ fixed IF 144 146 ∷ fixed OPEN_PAREN 147 148
    ∷ named 3 148 149 ∷ fixed EQUAL 150 152 ∷ number 0 153 154 ∷ fixed CLOSE_PAREN 154 155 ∷ fixed OPEN_BRACE 156 157
    ∷ named 1 158 159 ∷ fixed ASSIGN 160 161 ∷ number 1 162 163 ∷ fixed SEMICOLON 163 164 ∷ fixed CLOSE_BRACE 165 166
    ∷ fixed SEND 173 177 ∷ named 4 178 179 ∷ fixed COMMA 179 180 ∷ number 1 181 182 ∷ fixed COLON 182 183 ∷ named 3 184 185
    ∷ fixed EQUAL 186 188 ∷ number 0 189 190 ∷ fixed IMPLIES 191 194 ∷ fixed PERM 195 199 ∷ fixed OPEN_PAREN 199 200
    ∷ named 1 200 201 ∷ fixed COMMA 201 202 ∷ fixed WRITE 203 208 ∷ fixed CLOSE_PAREN 208 209 ∷ fixed SEMICOLON 209 210
    ∷ fixed RECV 217 221 ∷ named 4 222 223 ∷ fixed SEMICOLON 223 224 ∷ fixed IF 231 233 ∷ fixed OPEN_PAREN 234 235
    ∷ named 3 235 236 ∷ fixed EQUAL 237 239 ∷ number 1 240 241 ∷ fixed CLOSE_PAREN 241 242 ∷ fixed OPEN_BRACE 243 244
    ∷ named 1 245 246 ∷ fixed ASSIGN 247 248 ∷ number 2 249 250 ∷ fixed SEMICOLON 250 251 ∷ fixed CLOSE_BRACE 252 253
    ∷ fixed CLOSE_BRACE 258 259 ∷ fixed CLOSE_BRACE 262 263 ∷ fixed CLOSE_BRACE 264 265 ∷ []

abbrev pub list : List Lexeme
list =
    fixed CLASS 0 5 ∷ named 0 6 10 ∷ fixed OPEN_BRACE 11 12 ∷ fixed INT 15 18 ∷ named 1 19 20 ∷ fixed SEMICOLON 20 21
    ∷ named 0 22 26 ∷ named 2 27 31 ∷ fixed SEMICOLON 31 32 ∷ fixed RESOURCE 35 43 ∷ named 3 44 48 ∷ fixed OPEN_PAREN 48 49
    ∷ fixed CLOSE_PAREN 49 50 ∷ fixed ASSIGN 51 52 ∷ fixed PERM 53 57 ∷ fixed OPEN_PAREN 57 58 ∷ named 1 58 59 ∷ fixed COMMA 59 60
    ∷ fixed WRITE 61 66 ∷ fixed CLOSE_PAREN 66 67 ∷ fixed STAR_STAR 68 70 ∷ fixed PERM 71 75 ∷ fixed OPEN_PAREN 75 76
    ∷ named 2 76 80 ∷ fixed COMMA 80 81 ∷ fixed WRITE 82 87 ∷ fixed CLOSE_PAREN 87 88 ∷ fixed STAR_STAR 89 91
    ∷ fixed OPEN_PAREN 92 93 ∷ named 2 93 97 ∷ fixed NOT_EQUAL 98 100 ∷ fixed NULL 101 105 ∷ fixed IMPLIES 106 109
    ∷ named 2 110 114 ∷ fixed DOT 114 115 ∷ named 3 115 119 ∷ fixed OPEN_PAREN 119 120 ∷ fixed CLOSE_PAREN 120 121
    ∷ fixed CLOSE_PAREN 121 122 ∷ fixed SEMICOLON 122 123 ∷ fixed REQUIRES 126 134 ∷ named 3 135 139 ∷ fixed OPEN_PAREN 139 140
    ∷ fixed CLOSE_PAREN 140 141 ∷ fixed SEMICOLON 141 142 ∷ fixed ENSURES 145 152 ∷ named 3 153 157 ∷ fixed OPEN_PAREN 157 158
    ∷ fixed CLOSE_PAREN 158 159 ∷ fixed SEMICOLON 159 160 ∷ fixed VOID 163 167 ∷ named 4 168 170 ∷ fixed OPEN_PAREN 170 171
    ∷ fixed CLOSE_PAREN 171 172 ∷ fixed OPEN_BRACE 173 174 ∷ fixed UNFOLD 179 185 ∷ named 3 186 190 ∷ fixed OPEN_PAREN 190 191
    ∷ fixed CLOSE_PAREN 191 192 ∷ fixed SEMICOLON 192 193 ∷ named 1 198 199 ∷ fixed ASSIGN 200 201 ∷ named 1 202 203
    ∷ fixed PLUS 204 205 ∷ number 1 206 207 ∷ fixed SEMICOLON 207 208 ∷ fixed IF 213 215 ∷ fixed OPEN_PAREN 216 217
    ∷ named 2 217 221 ∷ fixed NOT_EQUAL 222 224 ∷ fixed NULL 225 229 ∷ fixed CLOSE_PAREN 229 230 ∷ fixed OPEN_BRACE 231 232
    ∷ named 2 233 237 ∷ fixed DOT 237 238 ∷ named 4 238 240 ∷ fixed OPEN_PAREN 240 241 ∷ fixed CLOSE_PAREN 241 242
    ∷ fixed SEMICOLON 242 243 ∷ fixed CLOSE_BRACE 244 245 ∷ fixed FOLD 250 254 ∷ named 3 255 259 ∷ fixed OPEN_PAREN 259 260
    ∷ fixed CLOSE_PAREN 260 261 ∷ fixed SEMICOLON 261 262 ∷ fixed CLOSE_BRACE 265 266 ∷ fixed CLOSE_BRACE 267 268
    ∷ fixed CLASS 269 274 ∷ named 5 275 279 ∷ fixed OPEN_BRACE 280 281 ∷ fixed VOID 284 288 ∷ named 6 289 292
    ∷ fixed OPEN_PAREN 292 293 ∷ fixed CLOSE_PAREN 293 294 ∷ fixed OPEN_BRACE 295 296 ∷ named 0 301 305 ∷ named 7 306 307
    ∷ fixed ASSIGN 308 309 ∷ fixed NEW 310 313 ∷ named 0 314 318 ∷ fixed OPEN_PAREN 318 319 ∷ fixed CLOSE_PAREN 319 320
    ∷ fixed SEMICOLON 320 321 ∷ fixed FOLD 326 330 ∷ named 7 331 332 ∷ fixed DOT 332 333 ∷ named 3 333 337
    ∷ fixed OPEN_PAREN 337 338 ∷ fixed CLOSE_PAREN 338 339 ∷ fixed SEMICOLON 339 340 ∷ named 0 345 349 ∷ named 8 350 351
    ∷ fixed ASSIGN 352 353 ∷ fixed NEW 354 357 ∷ named 0 358 362 ∷ fixed OPEN_PAREN 362 363 ∷ fixed CLOSE_PAREN 363 364
    ∷ fixed SEMICOLON 364 365 ∷ named 8 370 371 ∷ fixed DOT 371 372 ∷ named 2 372 376 ∷ fixed ASSIGN 377 378 ∷ named 7 379 380
    ∷ fixed SEMICOLON 380 381 ∷ fixed FOLD 386 390 ∷ named 8 391 392 ∷ fixed DOT 392 393 ∷ named 3 393 397
    ∷ fixed OPEN_PAREN 397 398 ∷ fixed CLOSE_PAREN 398 399 ∷ fixed SEMICOLON 399 400 ∷ named 8 405 406 ∷ fixed DOT 406 407
    ∷ named 4 407 409 ∷ fixed OPEN_PAREN 409 410 ∷ fixed CLOSE_PAREN 410 411 ∷ fixed SEMICOLON 411 412 ∷ fixed CLOSE_BRACE 415 416
    ∷ fixed CLOSE_BRACE 417 418 ∷ []

abbrev pub members_race : List Lexeme
members_race =
    fixed CLASS 0 5 ∷ named 0 6 10 ∷ fixed OPEN_BRACE 11 12 ∷ fixed INT 15 18 ∷ named 1 19 20 ∷ fixed SEMICOLON 20 21
    ∷ fixed VOID 24 28 ∷ named 2 29 33 ∷ fixed OPEN_PAREN 33 34 ∷ fixed CLOSE_PAREN 34 35 ∷ fixed OPEN_BRACE 36 37
    ∷ fixed PAR 42 45 ∷ fixed OPEN_PAREN 46 47 ∷ fixed INT 47 50 ∷ named 3 51 52 ∷ fixed ASSIGN 53 54 ∷ number 0 55 56
    ∷ fixed DOTS 57 59 ∷ number 2 60 61 ∷ fixed CLOSE_PAREN 61 62 ∷ fixed OPEN_BRACE 63 64 ∷ named 1 71 72 ∷ fixed ASSIGN 73 74
    ∷ named 3 75 76 ∷ fixed SEMICOLON 76 77 ∷ fixed CLOSE_BRACE 82 83 ∷ fixed CLOSE_BRACE 86 87 ∷ fixed CLOSE_BRACE 88 89 ∷ []

abbrev pub overwritten : List Lexeme
overwritten =
    fixed CLASS 0 5 ∷ named 0 6 10 ∷ fixed OPEN_BRACE 11 12 ∷ fixed INT 15 18 ∷ named 1 19 20 ∷ fixed SEMICOLON 20 21
    ∷ fixed VOID 24 28 ∷ named 2 29 33 ∷ fixed OPEN_PAREN 33 34 ∷ fixed CLOSE_PAREN 34 35 ∷ fixed OPEN_BRACE 36 37
    ∷ fixed FOR 42 45 ∷ fixed OPEN_PAREN 46 47 ∷ fixed INT 47 50 ∷ named 3 51 52 ∷ fixed ASSIGN 53 54 ∷ number 0 55 56
    ∷ fixed DOTS 57 59 ∷ number 2 60 61 ∷ fixed CLOSE_PAREN 61 62 ∷ fixed OPEN_BRACE 63 64 ∷ named 1 71 72 ∷ fixed ASSIGN 73 74
    ∷ named 3 75 76 ∷ fixed SEMICOLON 76 77 ∷ fixed CLOSE_BRACE 82 83 ∷ fixed CLOSE_BRACE 86 87 ∷ fixed CLOSE_BRACE 88 89 ∷ []

abbrev pub divided : List Lexeme
divided =
    fixed CLASS 0 5 ∷ named 0 6 11 ∷ fixed OPEN_BRACE 12 13 ∷ fixed INT 16 19 ∷ named 1 20 21 ∷ fixed SEMICOLON 21 22
    ∷ fixed REQUIRES 25 33 ∷ fixed PERM 34 38 ∷ fixed OPEN_PAREN 38 39 ∷ named 1 39 40 ∷ fixed COMMA 40 41 ∷ fixed WRITE 42 47
    ∷ fixed CLOSE_PAREN 47 48 ∷ fixed SEMICOLON 48 49 ∷ fixed ENSURES 52 59 ∷ fixed PERM 60 64 ∷ fixed OPEN_PAREN 64 65
    ∷ named 1 65 66 ∷ fixed COMMA 66 67 ∷ fixed WRITE 68 73 ∷ fixed CLOSE_PAREN 73 74 ∷ fixed SEMICOLON 74 75 ∷ fixed VOID 78 82
    ∷ named 2 83 88 ∷ fixed OPEN_PAREN 88 89 ∷ fixed CLOSE_PAREN 89 90 ∷ fixed OPEN_BRACE 91 92 ∷ fixed PAR 97 100
    ∷ fixed OPEN_PAREN 101 102 ∷ fixed INT 102 105 ∷ named 3 106 107 ∷ fixed ASSIGN 108 109 ∷ number 0 110 111
    ∷ fixed DOTS 112 114 ∷ number 2 115 116 ∷ fixed CLOSE_PAREN 116 117 ∷ fixed REQUIRES 124 132 ∷ named 3 133 134
    ∷ fixed EQUAL 135 137 ∷ number 0 138 139 ∷ fixed IMPLIES 140 143 ∷ fixed PERM 144 148 ∷ fixed OPEN_PAREN 148 149
    ∷ named 1 149 150 ∷ fixed COMMA 150 151 ∷ number 1 152 153 ∷ fixed BACKSLASH 153 154 ∷ number 2 154 155
    ∷ fixed CLOSE_PAREN 155 156 ∷ fixed SEMICOLON 156 157 ∷ fixed REQUIRES 164 172 ∷ named 3 173 174 ∷ fixed EQUAL 175 177
    ∷ number 1 178 179 ∷ fixed IMPLIES 180 183 ∷ fixed PERM 184 188 ∷ fixed OPEN_PAREN 188 189 ∷ named 1 189 190
    ∷ fixed COMMA 190 191 ∷ number 1 192 193 ∷ fixed BACKSLASH 193 194 ∷ number 2 194 195 ∷ fixed CLOSE_PAREN 195 196
    ∷ fixed SEMICOLON 196 197 ∷ fixed ENSURES 204 211 ∷ named 3 212 213 ∷ fixed EQUAL 214 216 ∷ number 0 217 218
    ∷ fixed IMPLIES 219 222 ∷ fixed PERM 223 227 ∷ fixed OPEN_PAREN 227 228 ∷ named 1 228 229 ∷ fixed COMMA 229 230
    ∷ number 1 231 232 ∷ fixed BACKSLASH 232 233 ∷ number 2 233 234 ∷ fixed CLOSE_PAREN 234 235 ∷ fixed SEMICOLON 235 236
    ∷ fixed ENSURES 243 250 ∷ named 3 251 252 ∷ fixed EQUAL 253 255 ∷ number 1 256 257 ∷ fixed IMPLIES 258 261
    ∷ fixed PERM 262 266 ∷ fixed OPEN_PAREN 266 267 ∷ named 1 267 268 ∷ fixed COMMA 268 269 ∷ number 1 270 271
    ∷ fixed BACKSLASH 271 272 ∷ number 2 272 273 ∷ fixed CLOSE_PAREN 273 274 ∷ fixed SEMICOLON 274 275 ∷ fixed OPEN_BRACE 280 281
    ∷ fixed INT 288 291 ∷ named 4 292 293 ∷ fixed ASSIGN 294 295 ∷ named 1 296 297 ∷ fixed SEMICOLON 297 298
    ∷ fixed CLOSE_BRACE 303 304 ∷ named 1 309 310 ∷ fixed ASSIGN 311 312 ∷ number 3 313 314 ∷ fixed SEMICOLON 314 315
    ∷ fixed CLOSE_BRACE 318 319 ∷ fixed CLOSE_BRACE 320 321 ∷ []
