-- The tokens of worked programs. checks/tokens.py writes this file from the texts.
use Rattle.std.specs.Prelude.{List, [], ◌∷◌}
use Rattle.pv_tokens.specs.declared.Lexeme.{Lexeme}
use Rattle.pv_tokens.specs.declared.fixed.TheConstants.{CLASS, INT, VOID, RESOURCE, REQUIRES, ENSURES, LOOP_INVARIANT, IF, WHILE, FORK, FOLD, UNFOLD, ASSERT, TRUE, PERM, WRITE, RUN, OLD, STAR_STAR, EQUAL, AT_MOST, AND_AND, OPEN_BRACE, CLOSE_BRACE, OPEN_PAREN, CLOSE_PAREN, SEMICOLON, COMMA, DOT, ASSIGN, LESS, PLUS, BACKSLASH}
use Rattle.worked_texts.specs.Tokens.{named, number, fixed}

abbrev pub counter : List Lexeme
counter =
    fixed CLASS 0 5 ∷ named 0 6 13 ∷ fixed OPEN_BRACE 14 15 ∷ fixed INT 18 21 ∷ named 1 22 23 ∷ fixed SEMICOLON 23 24
    ∷ fixed REQUIRES 27 35 ∷ fixed PERM 36 40 ∷ fixed OPEN_PAREN 40 41 ∷ named 1 41 42 ∷ fixed COMMA 42 43 ∷ fixed WRITE 44 49
    ∷ fixed CLOSE_PAREN 49 50 ∷ fixed SEMICOLON 50 51 ∷ fixed ENSURES 54 61 ∷ fixed PERM 62 66 ∷ fixed OPEN_PAREN 66 67
    ∷ named 1 67 68 ∷ fixed COMMA 68 69 ∷ fixed WRITE 70 75 ∷ fixed CLOSE_PAREN 75 76 ∷ fixed STAR_STAR 77 79 ∷ named 1 80 81
    ∷ fixed EQUAL 82 84 ∷ fixed OLD 85 89 ∷ fixed OPEN_PAREN 89 90 ∷ named 1 90 91 ∷ fixed CLOSE_PAREN 91 92 ∷ fixed PLUS 93 94
    ∷ number 1 95 96 ∷ fixed SEMICOLON 96 97 ∷ fixed VOID 100 104 ∷ named 2 105 109 ∷ fixed OPEN_PAREN 109 110
    ∷ fixed CLOSE_PAREN 110 111 ∷ fixed OPEN_BRACE 112 113 ∷ named 1 118 119 ∷ fixed ASSIGN 120 121 ∷ named 1 122 123
    ∷ fixed PLUS 124 125 ∷ number 1 126 127 ∷ fixed SEMICOLON 127 128 ∷ fixed CLOSE_BRACE 131 132 ∷ fixed CLOSE_BRACE 133 134 ∷ []

abbrev pub counter_by_two : List Lexeme
counter_by_two =
    fixed CLASS 0 5 ∷ named 0 6 13 ∷ fixed OPEN_BRACE 14 15 ∷ fixed INT 18 21 ∷ named 1 22 23 ∷ fixed SEMICOLON 23 24
    ∷ fixed REQUIRES 27 35 ∷ fixed PERM 36 40 ∷ fixed OPEN_PAREN 40 41 ∷ named 1 41 42 ∷ fixed COMMA 42 43 ∷ fixed WRITE 44 49
    ∷ fixed CLOSE_PAREN 49 50 ∷ fixed SEMICOLON 50 51 ∷ fixed ENSURES 54 61 ∷ fixed PERM 62 66 ∷ fixed OPEN_PAREN 66 67
    ∷ named 1 67 68 ∷ fixed COMMA 68 69 ∷ fixed WRITE 70 75 ∷ fixed CLOSE_PAREN 75 76 ∷ fixed STAR_STAR 77 79 ∷ named 1 80 81
    ∷ fixed EQUAL 82 84 ∷ fixed OLD 85 89 ∷ fixed OPEN_PAREN 89 90 ∷ named 1 90 91 ∷ fixed CLOSE_PAREN 91 92 ∷ fixed PLUS 93 94
    ∷ number 1 95 96 ∷ fixed SEMICOLON 96 97 ∷ fixed VOID 100 104 ∷ named 2 105 109 ∷ fixed OPEN_PAREN 109 110
    ∷ fixed CLOSE_PAREN 110 111 ∷ fixed OPEN_BRACE 112 113 ∷ named 1 118 119 ∷ fixed ASSIGN 120 121 ∷ named 1 122 123
    ∷ fixed PLUS 124 125 ∷ number 2 126 127 ∷ fixed SEMICOLON 127 128 ∷ fixed CLOSE_BRACE 131 132 ∷ fixed CLOSE_BRACE 133 134 ∷ []

abbrev pub half : List Lexeme
half =
    fixed CLASS 0 5 ∷ named 0 6 10 ∷ fixed OPEN_BRACE 11 12 ∷ fixed INT 15 18 ∷ named 1 19 20 ∷ fixed SEMICOLON 20 21
    ∷ fixed REQUIRES 24 32 ∷ fixed PERM 33 37 ∷ fixed OPEN_PAREN 37 38 ∷ named 1 38 39 ∷ fixed COMMA 39 40 ∷ number 1 41 42
    ∷ fixed BACKSLASH 42 43 ∷ number 2 43 44 ∷ fixed CLOSE_PAREN 44 45 ∷ fixed SEMICOLON 45 46 ∷ fixed VOID 49 53 ∷ named 2 54 57
    ∷ fixed OPEN_PAREN 57 58 ∷ fixed CLOSE_PAREN 58 59 ∷ fixed OPEN_BRACE 60 61 ∷ named 1 66 67 ∷ fixed ASSIGN 68 69
    ∷ number 1 70 71 ∷ fixed SEMICOLON 71 72 ∷ fixed CLOSE_BRACE 75 76 ∷ fixed CLOSE_BRACE 77 78 ∷ []

abbrev pub writers : List Lexeme
writers =
    fixed CLASS 0 5 ∷ named 0 6 12 ∷ fixed OPEN_BRACE 13 14 ∷ named 1 17 21 ∷ named 2 22 23 ∷ fixed SEMICOLON 23 24
    ∷ fixed RUN 27 30 ∷ fixed OPEN_BRACE 31 32 ∷ named 2 37 38 ∷ fixed DOT 38 39 ∷ named 3 39 40 ∷ fixed ASSIGN 41 42
    ∷ number 1 43 44 ∷ fixed SEMICOLON 44 45 ∷ fixed CLOSE_BRACE 48 49 ∷ fixed CLOSE_BRACE 50 51 ∷ fixed CLASS 52 57
    ∷ named 1 58 62 ∷ fixed OPEN_BRACE 63 64 ∷ fixed INT 65 68 ∷ named 3 69 70 ∷ fixed SEMICOLON 70 71 ∷ fixed CLOSE_BRACE 72 73
    ∷ fixed CLASS 74 79 ∷ named 4 80 84 ∷ fixed OPEN_BRACE 85 86 ∷ fixed VOID 89 93 ∷ named 5 94 97 ∷ fixed OPEN_PAREN 97 98
    ∷ named 0 98 104 ∷ named 6 105 106 ∷ fixed COMMA 106 107 ∷ named 0 108 114 ∷ named 7 115 116 ∷ fixed CLOSE_PAREN 116 117
    ∷ fixed OPEN_BRACE 118 119 ∷ fixed FORK 120 124 ∷ named 6 125 126 ∷ fixed SEMICOLON 126 127 ∷ fixed FORK 128 132
    ∷ named 7 133 134 ∷ fixed SEMICOLON 134 135 ∷ fixed CLOSE_BRACE 136 137 ∷ fixed CLOSE_BRACE 138 139 ∷ []

abbrev pub alias : List Lexeme
alias =
    fixed CLASS 0 5 ∷ named 0 6 9 ∷ fixed OPEN_BRACE 10 11 ∷ fixed INT 12 15 ∷ named 1 16 17 ∷ fixed SEMICOLON 17 18
    ∷ fixed CLOSE_BRACE 19 20 ∷ fixed CLASS 21 26 ∷ named 2 27 32 ∷ fixed OPEN_BRACE 33 34 ∷ fixed REQUIRES 37 45
    ∷ fixed PERM 46 50 ∷ fixed OPEN_PAREN 50 51 ∷ named 3 51 52 ∷ fixed DOT 52 53 ∷ named 1 53 54 ∷ fixed COMMA 54 55
    ∷ number 1 56 57 ∷ fixed BACKSLASH 57 58 ∷ number 2 58 59 ∷ fixed CLOSE_PAREN 59 60 ∷ fixed STAR_STAR 61 63 ∷ fixed PERM 64 68
    ∷ fixed OPEN_PAREN 68 69 ∷ named 4 69 70 ∷ fixed DOT 70 71 ∷ named 1 71 72 ∷ fixed COMMA 72 73 ∷ number 1 74 75
    ∷ fixed BACKSLASH 75 76 ∷ number 2 76 77 ∷ fixed CLOSE_PAREN 77 78 ∷ fixed STAR_STAR 79 81 ∷ named 4 82 83 ∷ fixed DOT 83 84
    ∷ named 1 84 85 ∷ fixed EQUAL 86 88 ∷ number 3 89 90 ∷ fixed SEMICOLON 90 91 ∷ fixed VOID 94 98 ∷ named 5 99 102
    ∷ fixed OPEN_PAREN 102 103 ∷ named 0 103 106 ∷ named 3 107 108 ∷ fixed COMMA 108 109 ∷ named 0 110 113 ∷ named 4 114 115
    ∷ fixed CLOSE_PAREN 115 116 ∷ fixed OPEN_BRACE 117 118 ∷ fixed IF 123 125 ∷ fixed OPEN_PAREN 126 127 ∷ named 3 127 128
    ∷ fixed EQUAL 129 131 ∷ named 4 132 133 ∷ fixed CLOSE_PAREN 133 134 ∷ fixed OPEN_BRACE 135 136 ∷ named 3 137 138
    ∷ fixed DOT 138 139 ∷ named 1 139 140 ∷ fixed ASSIGN 141 142 ∷ number 4 143 144 ∷ fixed SEMICOLON 144 145
    ∷ fixed ASSERT 146 152 ∷ named 4 153 154 ∷ fixed DOT 154 155 ∷ named 1 155 156 ∷ fixed EQUAL 157 159 ∷ number 3 160 161
    ∷ fixed SEMICOLON 161 162 ∷ fixed CLOSE_BRACE 163 164 ∷ fixed CLOSE_BRACE 167 168 ∷ fixed CLOSE_BRACE 169 170 ∷ []

abbrev pub account : List Lexeme
account =
    fixed CLASS 0 5 ∷ named 0 6 9 ∷ fixed OPEN_BRACE 10 11 ∷ fixed INT 14 17 ∷ named 1 18 19 ∷ fixed SEMICOLON 19 20
    ∷ fixed REQUIRES 23 31 ∷ fixed PERM 32 36 ∷ fixed OPEN_PAREN 36 37 ∷ named 1 37 38 ∷ fixed COMMA 38 39 ∷ fixed WRITE 40 45
    ∷ fixed CLOSE_PAREN 45 46 ∷ fixed STAR_STAR 47 49 ∷ number 0 50 51 ∷ fixed AT_MOST 52 54 ∷ named 2 55 56
    ∷ fixed SEMICOLON 56 57 ∷ fixed ENSURES 60 67 ∷ fixed PERM 68 72 ∷ fixed OPEN_PAREN 72 73 ∷ named 1 73 74 ∷ fixed COMMA 74 75
    ∷ fixed WRITE 76 81 ∷ fixed CLOSE_PAREN 81 82 ∷ fixed STAR_STAR 83 85 ∷ named 1 86 87 ∷ fixed EQUAL 88 90 ∷ fixed OLD 91 95
    ∷ fixed OPEN_PAREN 95 96 ∷ named 1 96 97 ∷ fixed CLOSE_PAREN 97 98 ∷ fixed PLUS 99 100 ∷ number 1 101 102
    ∷ fixed SEMICOLON 102 103 ∷ fixed VOID 106 110 ∷ named 3 111 114 ∷ fixed OPEN_PAREN 114 115 ∷ fixed INT 115 118
    ∷ named 2 119 120 ∷ fixed CLOSE_PAREN 120 121 ∷ fixed OPEN_BRACE 122 123 ∷ named 1 124 125 ∷ fixed ASSIGN 126 127
    ∷ named 1 128 129 ∷ fixed PLUS 130 131 ∷ number 1 132 133 ∷ fixed SEMICOLON 133 134 ∷ fixed CLOSE_BRACE 135 136
    ∷ fixed REQUIRES 139 147 ∷ fixed PERM 148 152 ∷ fixed OPEN_PAREN 152 153 ∷ named 1 153 154 ∷ fixed COMMA 154 155
    ∷ fixed WRITE 156 161 ∷ fixed CLOSE_PAREN 161 162 ∷ fixed STAR_STAR 163 165 ∷ named 1 166 167 ∷ fixed EQUAL 168 170
    ∷ number 0 171 172 ∷ fixed SEMICOLON 172 173 ∷ fixed ENSURES 176 183 ∷ fixed PERM 184 188 ∷ fixed OPEN_PAREN 188 189
    ∷ named 1 189 190 ∷ fixed COMMA 190 191 ∷ fixed WRITE 192 197 ∷ fixed CLOSE_PAREN 197 198 ∷ fixed STAR_STAR 199 201
    ∷ named 1 202 203 ∷ fixed EQUAL 204 206 ∷ number 5 207 208 ∷ fixed SEMICOLON 208 209 ∷ fixed VOID 212 216 ∷ named 4 217 221
    ∷ fixed OPEN_PAREN 221 222 ∷ fixed CLOSE_PAREN 222 223 ∷ fixed OPEN_BRACE 224 225 ∷ fixed INT 230 233 ∷ named 2 234 235
    ∷ fixed ASSIGN 236 237 ∷ number 0 238 239 ∷ fixed SEMICOLON 239 240 ∷ fixed LOOP_INVARIANT 245 259 ∷ fixed PERM 260 264
    ∷ fixed OPEN_PAREN 264 265 ∷ named 1 265 266 ∷ fixed COMMA 266 267 ∷ fixed WRITE 268 273 ∷ fixed CLOSE_PAREN 273 274
    ∷ fixed STAR_STAR 275 277 ∷ named 1 278 279 ∷ fixed EQUAL 280 282 ∷ named 2 283 284 ∷ fixed AND_AND 285 287 ∷ named 2 288 289
    ∷ fixed AT_MOST 290 292 ∷ number 5 293 294 ∷ fixed SEMICOLON 294 295 ∷ fixed WHILE 300 305 ∷ fixed OPEN_PAREN 306 307
    ∷ named 2 307 308 ∷ fixed LESS 309 310 ∷ number 5 311 312 ∷ fixed CLOSE_PAREN 312 313 ∷ fixed OPEN_BRACE 314 315
    ∷ named 3 316 319 ∷ fixed OPEN_PAREN 319 320 ∷ named 2 320 321 ∷ fixed CLOSE_PAREN 321 322 ∷ fixed SEMICOLON 322 323
    ∷ named 2 324 325 ∷ fixed ASSIGN 326 327 ∷ named 2 328 329 ∷ fixed PLUS 330 331 ∷ number 1 332 333 ∷ fixed SEMICOLON 333 334
    ∷ fixed CLOSE_BRACE 335 336 ∷ fixed CLOSE_BRACE 339 340 ∷ fixed CLOSE_BRACE 341 342 ∷ []

abbrev pub account_kept : List Lexeme
account_kept =
    fixed CLASS 0 5 ∷ named 0 6 9 ∷ fixed OPEN_BRACE 10 11 ∷ fixed INT 14 17 ∷ named 1 18 19 ∷ fixed SEMICOLON 19 20
    ∷ fixed REQUIRES 23 31 ∷ fixed PERM 32 36 ∷ fixed OPEN_PAREN 36 37 ∷ named 1 37 38 ∷ fixed COMMA 38 39 ∷ fixed WRITE 40 45
    ∷ fixed CLOSE_PAREN 45 46 ∷ fixed STAR_STAR 47 49 ∷ number 0 50 51 ∷ fixed AT_MOST 52 54 ∷ named 2 55 56
    ∷ fixed SEMICOLON 56 57 ∷ fixed ENSURES 60 67 ∷ fixed PERM 68 72 ∷ fixed OPEN_PAREN 72 73 ∷ named 1 73 74 ∷ fixed COMMA 74 75
    ∷ fixed WRITE 76 81 ∷ fixed CLOSE_PAREN 81 82 ∷ fixed STAR_STAR 83 85 ∷ named 1 86 87 ∷ fixed EQUAL 88 90 ∷ fixed OLD 91 95
    ∷ fixed OPEN_PAREN 95 96 ∷ named 1 96 97 ∷ fixed CLOSE_PAREN 97 98 ∷ fixed PLUS 99 100 ∷ number 1 101 102
    ∷ fixed SEMICOLON 102 103 ∷ fixed VOID 106 110 ∷ named 3 111 114 ∷ fixed OPEN_PAREN 114 115 ∷ fixed INT 115 118
    ∷ named 2 119 120 ∷ fixed CLOSE_PAREN 120 121 ∷ fixed OPEN_BRACE 122 123 ∷ named 1 124 125 ∷ fixed ASSIGN 126 127
    ∷ named 1 128 129 ∷ fixed PLUS 130 131 ∷ number 1 132 133 ∷ fixed SEMICOLON 133 134 ∷ fixed CLOSE_BRACE 135 136
    ∷ fixed REQUIRES 139 147 ∷ fixed PERM 148 152 ∷ fixed OPEN_PAREN 152 153 ∷ named 1 153 154 ∷ fixed COMMA 154 155
    ∷ fixed WRITE 156 161 ∷ fixed CLOSE_PAREN 161 162 ∷ fixed STAR_STAR 163 165 ∷ named 1 166 167 ∷ fixed EQUAL 168 170
    ∷ number 0 171 172 ∷ fixed SEMICOLON 172 173 ∷ fixed ENSURES 176 183 ∷ fixed PERM 184 188 ∷ fixed OPEN_PAREN 188 189
    ∷ named 1 189 190 ∷ fixed COMMA 190 191 ∷ fixed WRITE 192 197 ∷ fixed CLOSE_PAREN 197 198 ∷ fixed STAR_STAR 199 201
    ∷ named 1 202 203 ∷ fixed EQUAL 204 206 ∷ number 5 207 208 ∷ fixed SEMICOLON 208 209 ∷ fixed VOID 212 216 ∷ named 4 217 221
    ∷ fixed OPEN_PAREN 221 222 ∷ fixed CLOSE_PAREN 222 223 ∷ fixed OPEN_BRACE 224 225 ∷ fixed INT 230 233 ∷ named 2 234 235
    ∷ fixed ASSIGN 236 237 ∷ number 0 238 239 ∷ fixed SEMICOLON 239 240 ∷ fixed LOOP_INVARIANT 245 259 ∷ fixed PERM 260 264
    ∷ fixed OPEN_PAREN 264 265 ∷ named 1 265 266 ∷ fixed COMMA 266 267 ∷ fixed WRITE 268 273 ∷ fixed CLOSE_PAREN 273 274
    ∷ fixed STAR_STAR 275 277 ∷ named 1 278 279 ∷ fixed EQUAL 280 282 ∷ named 2 283 284 ∷ fixed AND_AND 285 287 ∷ number 0 288 289
    ∷ fixed AT_MOST 290 292 ∷ named 2 293 294 ∷ fixed AND_AND 295 297 ∷ named 2 298 299 ∷ fixed AT_MOST 300 302 ∷ number 5 303 304
    ∷ fixed SEMICOLON 304 305 ∷ fixed WHILE 310 315 ∷ fixed OPEN_PAREN 316 317 ∷ named 2 317 318 ∷ fixed LESS 319 320
    ∷ number 5 321 322 ∷ fixed CLOSE_PAREN 322 323 ∷ fixed OPEN_BRACE 324 325 ∷ named 3 326 329 ∷ fixed OPEN_PAREN 329 330
    ∷ named 2 330 331 ∷ fixed CLOSE_PAREN 331 332 ∷ fixed SEMICOLON 332 333 ∷ named 2 334 335 ∷ fixed ASSIGN 336 337
    ∷ named 2 338 339 ∷ fixed PLUS 340 341 ∷ number 1 342 343 ∷ fixed SEMICOLON 343 344 ∷ fixed CLOSE_BRACE 345 346
    ∷ fixed CLOSE_BRACE 349 350 ∷ fixed CLOSE_BRACE 351 352 ∷ []

abbrev pub chain : List Lexeme
chain =
    fixed CLASS 0 5 ∷ named 0 6 10 ∷ fixed OPEN_BRACE 11 12 ∷ fixed INT 15 18 ∷ named 1 19 20 ∷ fixed SEMICOLON 20 21
    ∷ fixed RESOURCE 24 32 ∷ named 2 33 36 ∷ fixed OPEN_PAREN 36 37 ∷ fixed INT 37 40 ∷ named 3 41 42 ∷ fixed CLOSE_PAREN 42 43
    ∷ fixed ASSIGN 44 45 ∷ fixed PERM 46 50 ∷ fixed OPEN_PAREN 50 51 ∷ named 1 51 52 ∷ fixed COMMA 52 53 ∷ fixed WRITE 54 59
    ∷ fixed CLOSE_PAREN 59 60 ∷ fixed STAR_STAR 61 63 ∷ named 1 64 65 ∷ fixed EQUAL 66 68 ∷ named 3 69 70 ∷ fixed SEMICOLON 70 71
    ∷ fixed REQUIRES 74 82 ∷ named 2 83 86 ∷ fixed OPEN_PAREN 86 87 ∷ number 1 87 88 ∷ fixed CLOSE_PAREN 88 89
    ∷ fixed SEMICOLON 89 90 ∷ fixed ENSURES 93 100 ∷ named 2 101 104 ∷ fixed OPEN_PAREN 104 105 ∷ number 2 105 106
    ∷ fixed CLOSE_PAREN 106 107 ∷ fixed SEMICOLON 107 108 ∷ fixed VOID 111 115 ∷ named 4 116 118 ∷ fixed OPEN_PAREN 118 119
    ∷ fixed CLOSE_PAREN 119 120 ∷ fixed OPEN_BRACE 121 122 ∷ fixed UNFOLD 127 133 ∷ named 2 134 137 ∷ fixed OPEN_PAREN 137 138
    ∷ number 1 138 139 ∷ fixed CLOSE_PAREN 139 140 ∷ fixed SEMICOLON 140 141 ∷ named 1 146 147 ∷ fixed ASSIGN 148 149
    ∷ named 1 150 151 ∷ fixed PLUS 152 153 ∷ number 1 154 155 ∷ fixed SEMICOLON 155 156 ∷ fixed FOLD 161 165 ∷ named 2 166 169
    ∷ fixed OPEN_PAREN 169 170 ∷ number 2 170 171 ∷ fixed CLOSE_PAREN 171 172 ∷ fixed SEMICOLON 172 173
    ∷ fixed CLOSE_BRACE 176 177 ∷ fixed CLOSE_BRACE 178 179 ∷ []

abbrev pub chain_by_two : List Lexeme
chain_by_two =
    fixed CLASS 0 5 ∷ named 0 6 10 ∷ fixed OPEN_BRACE 11 12 ∷ fixed INT 15 18 ∷ named 1 19 20 ∷ fixed SEMICOLON 20 21
    ∷ fixed RESOURCE 24 32 ∷ named 2 33 36 ∷ fixed OPEN_PAREN 36 37 ∷ fixed INT 37 40 ∷ named 3 41 42 ∷ fixed CLOSE_PAREN 42 43
    ∷ fixed ASSIGN 44 45 ∷ fixed PERM 46 50 ∷ fixed OPEN_PAREN 50 51 ∷ named 1 51 52 ∷ fixed COMMA 52 53 ∷ fixed WRITE 54 59
    ∷ fixed CLOSE_PAREN 59 60 ∷ fixed STAR_STAR 61 63 ∷ named 1 64 65 ∷ fixed EQUAL 66 68 ∷ named 3 69 70 ∷ fixed SEMICOLON 70 71
    ∷ fixed REQUIRES 74 82 ∷ named 2 83 86 ∷ fixed OPEN_PAREN 86 87 ∷ number 1 87 88 ∷ fixed CLOSE_PAREN 88 89
    ∷ fixed SEMICOLON 89 90 ∷ fixed ENSURES 93 100 ∷ named 2 101 104 ∷ fixed OPEN_PAREN 104 105 ∷ number 2 105 106
    ∷ fixed CLOSE_PAREN 106 107 ∷ fixed SEMICOLON 107 108 ∷ fixed VOID 111 115 ∷ named 4 116 118 ∷ fixed OPEN_PAREN 118 119
    ∷ fixed CLOSE_PAREN 119 120 ∷ fixed OPEN_BRACE 121 122 ∷ fixed UNFOLD 127 133 ∷ named 2 134 137 ∷ fixed OPEN_PAREN 137 138
    ∷ number 1 138 139 ∷ fixed CLOSE_PAREN 139 140 ∷ fixed SEMICOLON 140 141 ∷ named 1 146 147 ∷ fixed ASSIGN 148 149
    ∷ named 1 150 151 ∷ fixed PLUS 152 153 ∷ number 2 154 155 ∷ fixed SEMICOLON 155 156 ∷ fixed FOLD 161 165 ∷ named 2 166 169
    ∷ fixed OPEN_PAREN 169 170 ∷ number 2 170 171 ∷ fixed CLOSE_PAREN 171 172 ∷ fixed SEMICOLON 172 173
    ∷ fixed CLOSE_BRACE 176 177 ∷ fixed CLOSE_BRACE 178 179 ∷ []

abbrev pub sum : List Lexeme
sum =
    fixed CLASS 0 5 ∷ named 0 6 9 ∷ fixed OPEN_BRACE 10 11 ∷ fixed VOID 14 18 ∷ named 1 19 23 ∷ fixed OPEN_PAREN 23 24
    ∷ fixed INT 24 27 ∷ named 2 28 29 ∷ fixed COMMA 29 30 ∷ fixed INT 31 34 ∷ named 3 35 36 ∷ fixed CLOSE_PAREN 36 37
    ∷ fixed OPEN_BRACE 38 39 ∷ fixed INT 44 47 ∷ named 4 48 49 ∷ fixed ASSIGN 50 51 ∷ named 2 52 53 ∷ fixed PLUS 54 55
    ∷ named 3 56 57 ∷ fixed SEMICOLON 57 58 ∷ fixed ASSERT 63 69 ∷ named 4 70 71 ∷ fixed EQUAL 72 74 ∷ named 2 75 76
    ∷ fixed PLUS 77 78 ∷ named 3 79 80 ∷ fixed SEMICOLON 80 81 ∷ fixed CLOSE_BRACE 84 85 ∷ fixed REQUIRES 88 96 ∷ named 3 97 98
    ∷ fixed AT_MOST 99 101 ∷ number 0 102 103 ∷ fixed SEMICOLON 103 104 ∷ fixed VOID 107 111 ∷ named 5 112 116
    ∷ fixed OPEN_PAREN 116 117 ∷ fixed INT 117 120 ∷ named 2 121 122 ∷ fixed COMMA 122 123 ∷ fixed INT 124 127 ∷ named 3 128 129
    ∷ fixed CLOSE_PAREN 129 130 ∷ fixed OPEN_BRACE 131 132 ∷ fixed INT 137 140 ∷ named 4 141 142 ∷ fixed ASSIGN 143 144
    ∷ named 2 145 146 ∷ fixed PLUS 147 148 ∷ named 3 149 150 ∷ fixed SEMICOLON 150 151 ∷ fixed ASSERT 156 162 ∷ named 4 163 164
    ∷ fixed AT_MOST 165 167 ∷ named 2 168 169 ∷ fixed SEMICOLON 169 170 ∷ fixed CLOSE_BRACE 173 174 ∷ fixed CLOSE_BRACE 175 176
    ∷ []

abbrev pub grow : List Lexeme
grow =
    fixed CLASS 0 5 ∷ named 0 6 10 ∷ fixed OPEN_BRACE 11 12 ∷ fixed VOID 15 19 ∷ named 1 20 24 ∷ fixed OPEN_PAREN 24 25
    ∷ fixed CLOSE_PAREN 25 26 ∷ fixed OPEN_BRACE 27 28 ∷ fixed INT 33 36 ∷ named 2 37 38 ∷ fixed ASSIGN 39 40 ∷ number 1 41 42
    ∷ fixed SEMICOLON 42 43 ∷ fixed INT 48 51 ∷ named 3 52 53 ∷ fixed ASSIGN 54 55 ∷ number 0 56 57 ∷ fixed SEMICOLON 57 58
    ∷ fixed LOOP_INVARIANT 63 77 ∷ fixed TRUE 78 82 ∷ fixed SEMICOLON 82 83 ∷ fixed WHILE 88 93 ∷ fixed OPEN_PAREN 94 95
    ∷ named 3 95 96 ∷ fixed LESS 97 98 ∷ number 200 99 102 ∷ fixed CLOSE_PAREN 102 103 ∷ fixed OPEN_BRACE 104 105
    ∷ named 2 112 113 ∷ fixed ASSIGN 114 115 ∷ named 2 116 117 ∷ fixed PLUS 118 119 ∷ named 2 120 121 ∷ fixed SEMICOLON 121 122
    ∷ named 3 129 130 ∷ fixed ASSIGN 131 132 ∷ named 3 133 134 ∷ fixed PLUS 135 136 ∷ number 1 137 138 ∷ fixed SEMICOLON 138 139
    ∷ fixed CLOSE_BRACE 144 145 ∷ fixed CLOSE_BRACE 148 149 ∷ fixed CLOSE_BRACE 150 151 ∷ []
