-- What does the number 1 give, by a calculation apart?
use Rattle.std.specs.Prelude.{ℕ, List, [], ◌∷◌, codes, ℤ, pos, negsuc}
use Rattle.ssd_formats.specs.Numbers.{Text}

-- the first sixteen entries of the first row of the base matrix, and the last sixteen of the last row
abbrev pub first_row_of_one : List ℤ
first_row_of_one =
    pos 193 ∷ negsuc 0 ∷ negsuc 0 ∷ pos 103 ∷ negsuc 0 ∷ pos 350 ∷ negsuc 0 ∷ negsuc 0 ∷ pos 267 ∷ negsuc 0 ∷ negsuc 0 ∷ pos 441 ∷ negsuc 0 ∷ pos 128 ∷ negsuc 0 ∷ negsuc 0 ∷ []

abbrev pub last_row_of_one : List ℤ
last_row_of_one =
    pos 166 ∷ negsuc 0 ∷ negsuc 0 ∷ pos 386 ∷ negsuc 0 ∷ pos 312 ∷ negsuc 0 ∷ negsuc 0 ∷ pos 1 ∷ negsuc 0 ∷ negsuc 0 ∷ negsuc 0 ∷ negsuc 0 ∷ negsuc 0 ∷ negsuc 0 ∷ pos 0 ∷ []

-- some calls, the first of each verb and the first ageing, and their lines
abbrev pub calls_of_one : List ℕ
calls_of_one = 0 ∷ 1 ∷ 6 ∷ 9 ∷ 14 ∷ 511 ∷ []

abbrev pub lines_of_one : List Text
lines_of_one =
    codes "0 read 185" ∷
    codes "1 write 715 g1" ∷
    codes "0 refresh 1139" ∷
    codes "3 drain 4" ∷
    codes "1 trim 1342" ∷
    codes "0 age 0 0 3 20" ∷ []
