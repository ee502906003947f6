-- The tokens of worked programs. checks/tokens.py writes this file from the texts.
use Rattle.std.specs.Prelude.{List, [], ◌∷◌}
use Rattle.pv_tokens.specs.declared.Lexeme.{Lexeme}
use Rattle.pv_tokens.specs.declared.fixed.TheConstants.{CLASS, INT, VOID, REQUIRES, ENSURES, CONTEXT, LOOP_INVARIANT, WHILE, FORK, JOIN, ASSERT, NEW, PERM, WRITE, RUN, FORALL, FORALL_STAR, STAR_STAR, EQUAL, AT_MOST, AND_AND, DOTS, OPEN_BRACE, CLOSE_BRACE, OPEN_PAREN, CLOSE_PAREN, OPEN_BRACKET, CLOSE_BRACKET, SEMICOLON, COMMA, DOT, ASSIGN, LESS, PLUS, MINUS, BACKSLASH}
use Rattle.worked_texts.specs.Tokens.{named, number, fixed}

abbrev pub last : List Lexeme
last =
    fixed CLASS 0 5 ∷ named 0 6 10 ∷ fixed OPEN_BRACE 11 12 ∷ fixed REQUIRES 15 23 ∷ fixed OPEN_PAREN 24 25
    ∷ fixed FORALL_STAR 25 33 ∷ fixed INT 34 37 ∷ named 1 38 39 ∷ fixed SEMICOLON 39 40 ∷ number 0 41 42 ∷ fixed AT_MOST 43 45
    ∷ named 1 46 47 ∷ fixed AND_AND 48 50 ∷ named 1 51 52 ∷ fixed LESS 53 54 ∷ named 2 55 56 ∷ fixed SEMICOLON 56 57
    ∷ fixed PERM 58 62 ∷ fixed OPEN_PAREN 62 63 ∷ named 3 63 64 ∷ fixed OPEN_BRACKET 64 65 ∷ named 1 65 66
    ∷ fixed CLOSE_BRACKET 66 67 ∷ fixed COMMA 67 68 ∷ fixed WRITE 69 74 ∷ fixed CLOSE_PAREN 74 75 ∷ fixed CLOSE_PAREN 75 76
    ∷ fixed SEMICOLON 76 77 ∷ fixed ENSURES 80 87 ∷ fixed OPEN_PAREN 88 89 ∷ fixed FORALL_STAR 89 97 ∷ fixed INT 98 101
    ∷ named 1 102 103 ∷ fixed SEMICOLON 103 104 ∷ number 0 105 106 ∷ fixed AT_MOST 107 109 ∷ named 1 110 111
    ∷ fixed AND_AND 112 114 ∷ named 1 115 116 ∷ fixed LESS 117 118 ∷ named 2 119 120 ∷ fixed SEMICOLON 120 121
    ∷ fixed PERM 122 126 ∷ fixed OPEN_PAREN 126 127 ∷ named 3 127 128 ∷ fixed OPEN_BRACKET 128 129 ∷ named 1 129 130
    ∷ fixed CLOSE_BRACKET 130 131 ∷ fixed COMMA 131 132 ∷ fixed WRITE 133 138 ∷ fixed CLOSE_PAREN 138 139
    ∷ fixed CLOSE_PAREN 139 140 ∷ fixed SEMICOLON 140 141 ∷ fixed VOID 144 148 ∷ named 4 149 153 ∷ fixed OPEN_PAREN 153 154
    ∷ fixed INT 154 157 ∷ fixed OPEN_BRACKET 157 158 ∷ fixed CLOSE_BRACKET 158 159 ∷ named 3 160 161 ∷ fixed COMMA 161 162
    ∷ fixed INT 163 166 ∷ named 2 167 168 ∷ fixed CLOSE_PAREN 168 169 ∷ fixed OPEN_BRACE 170 171 ∷ fixed CLOSE_BRACE 172 173
    ∷ fixed REQUIRES 176 184 ∷ number 0 185 186 ∷ fixed LESS 187 188 ∷ named 2 189 190 ∷ fixed SEMICOLON 190 191
    ∷ fixed CONTEXT 194 201 ∷ fixed OPEN_PAREN 202 203 ∷ fixed FORALL_STAR 203 211 ∷ fixed INT 212 215 ∷ named 1 216 217
    ∷ fixed ASSIGN 218 219 ∷ number 0 220 221 ∷ fixed DOTS 222 224 ∷ named 2 225 226 ∷ fixed SEMICOLON 226 227
    ∷ fixed PERM 228 232 ∷ fixed OPEN_PAREN 232 233 ∷ named 3 233 234 ∷ fixed OPEN_BRACKET 234 235 ∷ named 1 235 236
    ∷ fixed CLOSE_BRACKET 236 237 ∷ fixed COMMA 237 238 ∷ fixed WRITE 239 244 ∷ fixed CLOSE_PAREN 244 245
    ∷ fixed CLOSE_PAREN 245 246 ∷ fixed SEMICOLON 246 247 ∷ fixed VOID 250 254 ∷ named 5 255 259 ∷ fixed OPEN_PAREN 259 260
    ∷ fixed INT 260 263 ∷ fixed OPEN_BRACKET 263 264 ∷ fixed CLOSE_BRACKET 264 265 ∷ named 3 266 267 ∷ fixed COMMA 267 268
    ∷ fixed INT 269 272 ∷ named 2 273 274 ∷ fixed CLOSE_PAREN 274 275 ∷ fixed OPEN_BRACE 276 277 ∷ named 3 282 283
    ∷ fixed OPEN_BRACKET 283 284 ∷ named 2 284 285 ∷ fixed MINUS 286 287 ∷ number 1 288 289 ∷ fixed CLOSE_BRACKET 289 290
    ∷ fixed ASSIGN 291 292 ∷ number 5 293 294 ∷ fixed SEMICOLON 294 295 ∷ fixed CLOSE_BRACE 298 299 ∷ fixed CLOSE_BRACE 300 301
    ∷ []

abbrev pub read_wrong : List Lexeme
read_wrong =
    fixed CLASS 0 5 ∷ named 0 6 10 ∷ fixed OPEN_BRACE 11 12 ∷ fixed REQUIRES 15 23 ∷ fixed OPEN_PAREN 24 25
    ∷ fixed FORALL_STAR 25 33 ∷ fixed INT 34 37 ∷ named 1 38 39 ∷ fixed ASSIGN 40 41 ∷ number 0 42 43 ∷ fixed DOTS 44 46
    ∷ named 2 47 48 ∷ fixed SEMICOLON 48 49 ∷ fixed PERM 50 54 ∷ fixed OPEN_PAREN 54 55 ∷ named 3 55 56 ∷ fixed OPEN_BRACKET 56 57
    ∷ named 1 57 58 ∷ fixed CLOSE_BRACKET 58 59 ∷ fixed COMMA 59 60 ∷ number 1 61 62 ∷ fixed BACKSLASH 62 63 ∷ number 2 63 64
    ∷ fixed CLOSE_PAREN 64 65 ∷ fixed STAR_STAR 66 68 ∷ named 3 69 70 ∷ fixed OPEN_BRACKET 70 71 ∷ named 1 71 72
    ∷ fixed CLOSE_BRACKET 72 73 ∷ fixed EQUAL 74 76 ∷ number 0 77 78 ∷ fixed CLOSE_PAREN 78 79 ∷ fixed SEMICOLON 79 80
    ∷ fixed REQUIRES 83 91 ∷ number 1 92 93 ∷ fixed AT_MOST 94 96 ∷ named 2 97 98 ∷ fixed SEMICOLON 98 99 ∷ fixed VOID 102 106
    ∷ named 4 107 111 ∷ fixed OPEN_PAREN 111 112 ∷ fixed INT 112 115 ∷ fixed OPEN_BRACKET 115 116 ∷ fixed CLOSE_BRACKET 116 117
    ∷ named 3 118 119 ∷ fixed COMMA 119 120 ∷ fixed INT 121 124 ∷ named 2 125 126 ∷ fixed CLOSE_PAREN 126 127
    ∷ fixed OPEN_BRACE 128 129 ∷ fixed ASSERT 134 140 ∷ named 3 141 142 ∷ fixed OPEN_BRACKET 142 143 ∷ number 0 143 144
    ∷ fixed CLOSE_BRACKET 144 145 ∷ fixed EQUAL 146 148 ∷ number 0 149 150 ∷ fixed SEMICOLON 150 151 ∷ fixed ASSERT 156 162
    ∷ named 3 163 164 ∷ fixed OPEN_BRACKET 164 165 ∷ named 2 165 166 ∷ fixed MINUS 167 168 ∷ number 1 169 170
    ∷ fixed CLOSE_BRACKET 170 171 ∷ fixed EQUAL 172 174 ∷ number 1 175 176 ∷ fixed SEMICOLON 176 177 ∷ fixed CLOSE_BRACE 180 181
    ∷ fixed CLOSE_BRACE 182 183 ∷ []

abbrev pub read : List Lexeme
read =
    fixed CLASS 0 5 ∷ named 0 6 10 ∷ fixed OPEN_BRACE 11 12 ∷ fixed REQUIRES 15 23 ∷ fixed OPEN_PAREN 24 25
    ∷ fixed FORALL_STAR 25 33 ∷ fixed INT 34 37 ∷ named 1 38 39 ∷ fixed ASSIGN 40 41 ∷ number 0 42 43 ∷ fixed DOTS 44 46
    ∷ named 2 47 48 ∷ fixed SEMICOLON 48 49 ∷ fixed PERM 50 54 ∷ fixed OPEN_PAREN 54 55 ∷ named 3 55 56 ∷ fixed OPEN_BRACKET 56 57
    ∷ named 1 57 58 ∷ fixed CLOSE_BRACKET 58 59 ∷ fixed COMMA 59 60 ∷ number 1 61 62 ∷ fixed BACKSLASH 62 63 ∷ number 2 63 64
    ∷ fixed CLOSE_PAREN 64 65 ∷ fixed STAR_STAR 66 68 ∷ named 3 69 70 ∷ fixed OPEN_BRACKET 70 71 ∷ named 1 71 72
    ∷ fixed CLOSE_BRACKET 72 73 ∷ fixed EQUAL 74 76 ∷ number 0 77 78 ∷ fixed CLOSE_PAREN 78 79 ∷ fixed SEMICOLON 79 80
    ∷ fixed REQUIRES 83 91 ∷ number 1 92 93 ∷ fixed AT_MOST 94 96 ∷ named 2 97 98 ∷ fixed SEMICOLON 98 99 ∷ fixed VOID 102 106
    ∷ named 4 107 111 ∷ fixed OPEN_PAREN 111 112 ∷ fixed INT 112 115 ∷ fixed OPEN_BRACKET 115 116 ∷ fixed CLOSE_BRACKET 116 117
    ∷ named 3 118 119 ∷ fixed COMMA 119 120 ∷ fixed INT 121 124 ∷ named 2 125 126 ∷ fixed CLOSE_PAREN 126 127
    ∷ fixed OPEN_BRACE 128 129 ∷ fixed ASSERT 134 140 ∷ named 3 141 142 ∷ fixed OPEN_BRACKET 142 143 ∷ number 0 143 144
    ∷ fixed CLOSE_BRACKET 144 145 ∷ fixed EQUAL 146 148 ∷ number 0 149 150 ∷ fixed SEMICOLON 150 151 ∷ fixed ASSERT 156 162
    ∷ named 3 163 164 ∷ fixed OPEN_BRACKET 164 165 ∷ named 2 165 166 ∷ fixed MINUS 167 168 ∷ number 1 169 170
    ∷ fixed CLOSE_BRACKET 170 171 ∷ fixed EQUAL 172 174 ∷ number 0 175 176 ∷ fixed SEMICOLON 176 177 ∷ fixed CLOSE_BRACE 180 181
    ∷ fixed CLOSE_BRACE 182 183 ∷ []

abbrev pub fill : List Lexeme
fill =
    fixed CLASS 0 5 ∷ named 0 6 12 ∷ fixed OPEN_BRACE 13 14 ∷ fixed INT 17 20 ∷ fixed OPEN_BRACKET 20 21
    ∷ fixed CLOSE_BRACKET 21 22 ∷ named 1 23 24 ∷ fixed SEMICOLON 24 25 ∷ fixed INT 26 29 ∷ named 2 30 33 ∷ fixed SEMICOLON 33 34
    ∷ fixed INT 35 38 ∷ named 3 39 43 ∷ fixed SEMICOLON 43 44 ∷ fixed REQUIRES 47 55 ∷ fixed PERM 56 60 ∷ fixed OPEN_PAREN 60 61
    ∷ named 1 61 62 ∷ fixed COMMA 62 63 ∷ number 1 64 65 ∷ fixed BACKSLASH 65 66 ∷ number 2 66 67 ∷ fixed CLOSE_PAREN 67 68
    ∷ fixed STAR_STAR 69 71 ∷ fixed PERM 72 76 ∷ fixed OPEN_PAREN 76 77 ∷ named 2 77 80 ∷ fixed COMMA 80 81 ∷ number 1 82 83
    ∷ fixed BACKSLASH 83 84 ∷ number 2 84 85 ∷ fixed CLOSE_PAREN 85 86 ∷ fixed STAR_STAR 87 89 ∷ fixed PERM 90 94
    ∷ fixed OPEN_PAREN 94 95 ∷ named 3 95 99 ∷ fixed COMMA 99 100 ∷ number 1 101 102 ∷ fixed BACKSLASH 102 103 ∷ number 2 103 104
    ∷ fixed CLOSE_PAREN 104 105 ∷ fixed STAR_STAR 106 108 ∷ named 2 109 112 ∷ fixed AT_MOST 113 115 ∷ named 3 116 120
    ∷ fixed SEMICOLON 120 121 ∷ fixed REQUIRES 124 132 ∷ fixed OPEN_PAREN 133 134 ∷ fixed FORALL_STAR 134 142 ∷ fixed INT 143 146
    ∷ named 4 147 148 ∷ fixed ASSIGN 149 150 ∷ named 2 151 154 ∷ fixed DOTS 155 157 ∷ named 3 158 162 ∷ fixed SEMICOLON 162 163
    ∷ fixed PERM 164 168 ∷ fixed OPEN_PAREN 168 169 ∷ named 1 169 170 ∷ fixed OPEN_BRACKET 170 171 ∷ named 4 171 172
    ∷ fixed CLOSE_BRACKET 172 173 ∷ fixed COMMA 173 174 ∷ fixed WRITE 175 180 ∷ fixed CLOSE_PAREN 180 181
    ∷ fixed CLOSE_PAREN 181 182 ∷ fixed SEMICOLON 182 183 ∷ fixed ENSURES 186 193 ∷ fixed PERM 194 198 ∷ fixed OPEN_PAREN 198 199
    ∷ named 1 199 200 ∷ fixed COMMA 200 201 ∷ number 1 202 203 ∷ fixed BACKSLASH 203 204 ∷ number 2 204 205
    ∷ fixed CLOSE_PAREN 205 206 ∷ fixed STAR_STAR 207 209 ∷ fixed PERM 210 214 ∷ fixed OPEN_PAREN 214 215 ∷ named 2 215 218
    ∷ fixed COMMA 218 219 ∷ number 1 220 221 ∷ fixed BACKSLASH 221 222 ∷ number 2 222 223 ∷ fixed CLOSE_PAREN 223 224
    ∷ fixed STAR_STAR 225 227 ∷ fixed PERM 228 232 ∷ fixed OPEN_PAREN 232 233 ∷ named 3 233 237 ∷ fixed COMMA 237 238
    ∷ number 1 239 240 ∷ fixed BACKSLASH 240 241 ∷ number 2 241 242 ∷ fixed CLOSE_PAREN 242 243 ∷ fixed SEMICOLON 243 244
    ∷ fixed ENSURES 247 254 ∷ fixed OPEN_PAREN 255 256 ∷ fixed FORALL_STAR 256 264 ∷ fixed INT 265 268 ∷ named 4 269 270
    ∷ fixed ASSIGN 271 272 ∷ named 2 273 276 ∷ fixed DOTS 277 279 ∷ named 3 280 284 ∷ fixed SEMICOLON 284 285 ∷ fixed PERM 286 290
    ∷ fixed OPEN_PAREN 290 291 ∷ named 1 291 292 ∷ fixed OPEN_BRACKET 292 293 ∷ named 4 293 294 ∷ fixed CLOSE_BRACKET 294 295
    ∷ fixed COMMA 295 296 ∷ fixed WRITE 297 302 ∷ fixed CLOSE_PAREN 302 303 ∷ fixed CLOSE_PAREN 303 304 ∷ fixed SEMICOLON 304 305
    ∷ fixed ENSURES 308 315 ∷ fixed OPEN_PAREN 316 317 ∷ fixed FORALL 317 324 ∷ fixed INT 325 328 ∷ named 4 329 330
    ∷ fixed ASSIGN 331 332 ∷ named 2 333 336 ∷ fixed DOTS 337 339 ∷ named 3 340 344 ∷ fixed SEMICOLON 344 345 ∷ named 1 346 347
    ∷ fixed OPEN_BRACKET 347 348 ∷ named 4 348 349 ∷ fixed CLOSE_BRACKET 349 350 ∷ fixed EQUAL 351 353 ∷ number 1 354 355
    ∷ fixed CLOSE_PAREN 355 356 ∷ fixed SEMICOLON 356 357 ∷ fixed RUN 360 363 ∷ fixed OPEN_BRACE 364 365 ∷ fixed INT 370 373
    ∷ named 5 374 375 ∷ fixed ASSIGN 376 377 ∷ named 2 378 381 ∷ fixed SEMICOLON 381 382 ∷ fixed LOOP_INVARIANT 387 401
    ∷ fixed PERM 402 406 ∷ fixed OPEN_PAREN 406 407 ∷ named 1 407 408 ∷ fixed COMMA 408 409 ∷ number 1 410 411
    ∷ fixed BACKSLASH 411 412 ∷ number 2 412 413 ∷ fixed CLOSE_PAREN 413 414 ∷ fixed STAR_STAR 415 417 ∷ fixed PERM 418 422
    ∷ fixed OPEN_PAREN 422 423 ∷ named 2 423 426 ∷ fixed COMMA 426 427 ∷ number 1 428 429 ∷ fixed BACKSLASH 429 430
    ∷ number 2 430 431 ∷ fixed CLOSE_PAREN 431 432 ∷ fixed STAR_STAR 433 435 ∷ fixed PERM 436 440 ∷ fixed OPEN_PAREN 440 441
    ∷ named 3 441 445 ∷ fixed COMMA 445 446 ∷ number 1 447 448 ∷ fixed BACKSLASH 448 449 ∷ number 2 449 450
    ∷ fixed CLOSE_PAREN 450 451 ∷ fixed SEMICOLON 451 452 ∷ fixed LOOP_INVARIANT 457 471 ∷ named 2 472 475 ∷ fixed AT_MOST 476 478
    ∷ named 5 479 480 ∷ fixed AND_AND 481 483 ∷ named 5 484 485 ∷ fixed AT_MOST 486 488 ∷ named 3 489 493
    ∷ fixed SEMICOLON 493 494 ∷ fixed LOOP_INVARIANT 499 513 ∷ fixed OPEN_PAREN 514 515 ∷ fixed FORALL_STAR 515 523
    ∷ fixed INT 524 527 ∷ named 4 528 529 ∷ fixed ASSIGN 530 531 ∷ named 2 532 535 ∷ fixed DOTS 536 538 ∷ named 3 539 543
    ∷ fixed SEMICOLON 543 544 ∷ fixed PERM 545 549 ∷ fixed OPEN_PAREN 549 550 ∷ named 1 550 551 ∷ fixed OPEN_BRACKET 551 552
    ∷ named 4 552 553 ∷ fixed CLOSE_BRACKET 553 554 ∷ fixed COMMA 554 555 ∷ fixed WRITE 556 561 ∷ fixed CLOSE_PAREN 561 562
    ∷ fixed CLOSE_PAREN 562 563 ∷ fixed SEMICOLON 563 564 ∷ fixed LOOP_INVARIANT 569 583 ∷ fixed OPEN_PAREN 584 585
    ∷ fixed FORALL 585 592 ∷ fixed INT 593 596 ∷ named 4 597 598 ∷ fixed ASSIGN 599 600 ∷ named 2 601 604 ∷ fixed DOTS 605 607
    ∷ named 5 608 609 ∷ fixed SEMICOLON 609 610 ∷ named 1 611 612 ∷ fixed OPEN_BRACKET 612 613 ∷ named 4 613 614
    ∷ fixed CLOSE_BRACKET 614 615 ∷ fixed EQUAL 616 618 ∷ number 1 619 620 ∷ fixed CLOSE_PAREN 620 621 ∷ fixed SEMICOLON 621 622
    ∷ fixed WHILE 627 632 ∷ fixed OPEN_PAREN 633 634 ∷ named 5 634 635 ∷ fixed LESS 636 637 ∷ named 3 638 642
    ∷ fixed CLOSE_PAREN 642 643 ∷ fixed OPEN_BRACE 644 645 ∷ named 1 652 653 ∷ fixed OPEN_BRACKET 653 654 ∷ named 5 654 655
    ∷ fixed CLOSE_BRACKET 655 656 ∷ fixed ASSIGN 657 658 ∷ number 1 659 660 ∷ fixed SEMICOLON 660 661 ∷ named 5 668 669
    ∷ fixed ASSIGN 670 671 ∷ named 5 672 673 ∷ fixed PLUS 674 675 ∷ number 1 676 677 ∷ fixed SEMICOLON 677 678
    ∷ fixed CLOSE_BRACE 683 684 ∷ fixed CLOSE_BRACE 687 688 ∷ fixed CLOSE_BRACE 689 690 ∷ fixed CLASS 691 696 ∷ named 6 697 701
    ∷ fixed OPEN_BRACE 702 703 ∷ fixed REQUIRES 706 714 ∷ number 0 715 716 ∷ fixed AT_MOST 717 719 ∷ named 7 720 721
    ∷ fixed AND_AND 722 724 ∷ named 7 725 726 ∷ fixed AT_MOST 727 729 ∷ named 8 730 731 ∷ fixed SEMICOLON 731 732
    ∷ fixed REQUIRES 735 743 ∷ fixed OPEN_PAREN 744 745 ∷ fixed FORALL_STAR 745 753 ∷ fixed INT 754 757 ∷ named 4 758 759
    ∷ fixed ASSIGN 760 761 ∷ number 0 762 763 ∷ fixed DOTS 764 766 ∷ named 8 767 768 ∷ fixed SEMICOLON 768 769
    ∷ fixed PERM 770 774 ∷ fixed OPEN_PAREN 774 775 ∷ named 1 775 776 ∷ fixed OPEN_BRACKET 776 777 ∷ named 4 777 778
    ∷ fixed CLOSE_BRACKET 778 779 ∷ fixed COMMA 779 780 ∷ fixed WRITE 781 786 ∷ fixed CLOSE_PAREN 786 787
    ∷ fixed CLOSE_PAREN 787 788 ∷ fixed SEMICOLON 788 789 ∷ fixed ENSURES 792 799 ∷ fixed OPEN_PAREN 800 801
    ∷ fixed FORALL_STAR 801 809 ∷ fixed INT 810 813 ∷ named 4 814 815 ∷ fixed ASSIGN 816 817 ∷ number 0 818 819
    ∷ fixed DOTS 820 822 ∷ named 8 823 824 ∷ fixed SEMICOLON 824 825 ∷ fixed PERM 826 830 ∷ fixed OPEN_PAREN 830 831
    ∷ named 1 831 832 ∷ fixed OPEN_BRACKET 832 833 ∷ named 4 833 834 ∷ fixed CLOSE_BRACKET 834 835 ∷ fixed COMMA 835 836
    ∷ fixed WRITE 837 842 ∷ fixed CLOSE_PAREN 842 843 ∷ fixed CLOSE_PAREN 843 844 ∷ fixed SEMICOLON 844 845
    ∷ fixed ENSURES 848 855 ∷ fixed OPEN_PAREN 856 857 ∷ fixed FORALL 857 864 ∷ fixed INT 865 868 ∷ named 4 869 870
    ∷ fixed ASSIGN 871 872 ∷ number 0 873 874 ∷ fixed DOTS 875 877 ∷ named 8 878 879 ∷ fixed SEMICOLON 879 880 ∷ named 1 881 882
    ∷ fixed OPEN_BRACKET 882 883 ∷ named 4 883 884 ∷ fixed CLOSE_BRACKET 884 885 ∷ fixed EQUAL 886 888 ∷ number 1 889 890
    ∷ fixed CLOSE_PAREN 890 891 ∷ fixed SEMICOLON 891 892 ∷ fixed VOID 895 899 ∷ named 9 900 904 ∷ fixed OPEN_PAREN 904 905
    ∷ fixed INT 905 908 ∷ fixed OPEN_BRACKET 908 909 ∷ fixed CLOSE_BRACKET 909 910 ∷ named 1 911 912 ∷ fixed COMMA 912 913
    ∷ fixed INT 914 917 ∷ named 7 918 919 ∷ fixed COMMA 919 920 ∷ fixed INT 921 924 ∷ named 8 925 926 ∷ fixed CLOSE_PAREN 926 927
    ∷ fixed OPEN_BRACE 928 929 ∷ named 0 934 940 ∷ named 10 941 942 ∷ fixed ASSIGN 943 944 ∷ fixed NEW 945 948 ∷ named 0 949 955
    ∷ fixed OPEN_PAREN 955 956 ∷ fixed CLOSE_PAREN 956 957 ∷ fixed SEMICOLON 957 958 ∷ named 0 963 969 ∷ named 11 970 971
    ∷ fixed ASSIGN 972 973 ∷ fixed NEW 974 977 ∷ named 0 978 984 ∷ fixed OPEN_PAREN 984 985 ∷ fixed CLOSE_PAREN 985 986
    ∷ fixed SEMICOLON 986 987 ∷ named 10 992 993 ∷ fixed DOT 993 994 ∷ named 1 994 995 ∷ fixed ASSIGN 996 997 ∷ named 1 998 999
    ∷ fixed SEMICOLON 999 1000 ∷ named 10 1001 1002 ∷ fixed DOT 1002 1003 ∷ named 2 1003 1006 ∷ fixed ASSIGN 1007 1008
    ∷ number 0 1009 1010 ∷ fixed SEMICOLON 1010 1011 ∷ named 10 1012 1013 ∷ fixed DOT 1013 1014 ∷ named 3 1014 1018
    ∷ fixed ASSIGN 1019 1020 ∷ named 7 1021 1022 ∷ fixed SEMICOLON 1022 1023 ∷ named 11 1028 1029 ∷ fixed DOT 1029 1030
    ∷ named 1 1030 1031 ∷ fixed ASSIGN 1032 1033 ∷ named 1 1034 1035 ∷ fixed SEMICOLON 1035 1036 ∷ named 11 1037 1038
    ∷ fixed DOT 1038 1039 ∷ named 2 1039 1042 ∷ fixed ASSIGN 1043 1044 ∷ named 7 1045 1046 ∷ fixed SEMICOLON 1046 1047
    ∷ named 11 1048 1049 ∷ fixed DOT 1049 1050 ∷ named 3 1050 1054 ∷ fixed ASSIGN 1055 1056 ∷ named 8 1057 1058
    ∷ fixed SEMICOLON 1058 1059 ∷ fixed FORK 1064 1068 ∷ named 10 1069 1070 ∷ fixed SEMICOLON 1070 1071 ∷ fixed FORK 1076 1080
    ∷ named 11 1081 1082 ∷ fixed SEMICOLON 1082 1083 ∷ fixed JOIN 1088 1092 ∷ named 10 1093 1094 ∷ fixed SEMICOLON 1094 1095
    ∷ fixed JOIN 1100 1104 ∷ named 11 1105 1106 ∷ fixed SEMICOLON 1106 1107 ∷ fixed CLOSE_BRACE 1110 1111
    ∷ fixed CLOSE_BRACE 1112 1113 ∷ []
