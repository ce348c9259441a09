-- Which word is the parity of a stripe? It is the sum of the stripe's data words, bit by bit, so that any one word of
-- the stripe is the sum of the others and the parity (the parity of RAID level 5).
use Rattle.std.specs.Prelude.{ℕ, ◌≡◌, List, [], ◌∷◌, ◌++◌, length, replicate, All}
use Rattle.ssd_geo.specs.Bits.{bytes_sum}

-- a word of n bytes that are all 0
abbrev pub zero_word : ℕ → List ℕ
zero_word n = replicate n 0

-- the sum, bit by bit, of words of n bytes each
abbrev pub sum_of_words : ℕ → List (List ℕ) → List ℕ
sum_of_words n [] = zero_word n
sum_of_words n (word ∷ words) = bytes_sum word (sum_of_words n words)

-- Laws, each the contract of a function without a body.

-- all words of a list have n bytes
abbrev pub HaveBytes : ℕ → List (List ℕ) → Type 0
HaveBytes n words = All (λ word. length word ≡ n) words

-- any word of a stripe is the sum of the others and of the sum of all
abbrev pub OthersGiveTheWord : Type 0
OthersGiveTheWord =
    (n : ℕ) (before after : List (List ℕ)) (word : List ℕ) →
    HaveBytes n before → HaveBytes n after → length word ≡ n →
    bytes_sum (sum_of_words n (before ++ after)) (sum_of_words n (before ++ word ∷ after)) ≡ word

-- one word more is added to the sum of the words before it
abbrev pub OneMoreWord : Type 0
OneMoreWord =
    (n : ℕ) (words : List (List ℕ)) (word : List ℕ) → HaveBytes n words → length word ≡ n →
    sum_of_words n (words ++ word ∷ []) ≡ bytes_sum (sum_of_words n words) word

-- a sum has the bytes of its words
abbrev pub SumsHaveTheirLength : Type 0
SumsHaveTheirLength =
    (n : ℕ) (words : List (List ℕ)) → HaveBytes n words → length (sum_of_words n words) ≡ n
