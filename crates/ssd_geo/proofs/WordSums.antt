-- Sums of words, bit by bit: the proofs of the laws of specs/StripeSum.antt.
use Rattle.std.proofs.Common.{◌≡◌, ℕ, suc, List, [], ◌∷◌, ◌++◌, length, bit_xor, All, refl, ap, sym, ◌∙◌, arith}
use Rattle.std.proofs.lemmas.List.{length-replicate}
use Rattle.std.proofs.lemmas.List.Elements.{All-append, All-cons, All-head, All-tail}
use Rattle.std.proofs.lemmas.Nat.{xor_comm}
use Rattle.std.specs.Int.Bits.{xor_assoc, xor_self, xor_zero_r}
use Rattle.ssd_geo.specs.Bits.{bytes_sum}
use Rattle.ssd_geo.specs.StripeSum.{zero_word, sum_of_words, OthersGiveTheWord, OneMoreWord, SumsHaveTheirLength}

-- the order of two words is free
pub bytes_sum_comm : (xs ys : List ℕ) → bytes_sum xs ys ≡ bytes_sum ys xs
bytes_sum_comm [] [] = refl
bytes_sum_comm [] (y ∷ ys) = refl
bytes_sum_comm (x ∷ xs) [] = refl
bytes_sum_comm (x ∷ xs) (y ∷ ys) =
    ap (λ (b : ℕ). b ∷ bytes_sum xs ys) (xor_comm x y) ∙ ap (λ (bs : List ℕ). bit_xor y x ∷ bs) (bytes_sum_comm xs ys)

-- and so is which are added first
pub bytes_sum_assoc : (xs ys zs : List ℕ) → bytes_sum (bytes_sum xs ys) zs ≡ bytes_sum xs (bytes_sum ys zs)
bytes_sum_assoc [] ys zs = refl
bytes_sum_assoc (x ∷ xs) [] zs = refl
bytes_sum_assoc (x ∷ xs) (y ∷ ys) [] = refl
bytes_sum_assoc (x ∷ xs) (y ∷ ys) (z ∷ zs) =
    ap (λ (b : ℕ). b ∷ bytes_sum (bytes_sum xs ys) zs) (xor_assoc x y z)
    ∙ ap (λ (bs : List ℕ). bit_xor x (bit_xor y z) ∷ bs) (bytes_sum_assoc xs ys zs)

-- a word and as many zeros
zeros_to_length : (xs : List ℕ) → bytes_sum xs (zero_word (length xs)) ≡ xs
zeros_to_length [] = refl
zeros_to_length (x ∷ xs) =
    ap (λ (b : ℕ). b ∷ bytes_sum xs (zero_word (length xs))) (xor_zero_r x) ∙ ap (λ (bs : List ℕ). x ∷ bs) (zeros_to_length xs)

pub bytes_sum-zero_word : (n : ℕ) (xs : List ℕ) → length xs ≡ n → bytes_sum xs (zero_word n) ≡ xs
bytes_sum-zero_word n xs e = ap (λ (k : ℕ). bytes_sum xs (zero_word k)) (sym e) ∙ zeros_to_length xs

-- a word and itself
self_to_length : (xs : List ℕ) → bytes_sum xs xs ≡ zero_word (length xs)
self_to_length [] = refl
self_to_length (x ∷ xs) =
    ap (λ (b : ℕ). b ∷ bytes_sum xs xs) (xor_self x) ∙ ap (λ (bs : List ℕ). 0 ∷ bs) (self_to_length xs)

pub bytes_sum-self : (n : ℕ) (xs : List ℕ) → length xs ≡ n → bytes_sum xs xs ≡ zero_word n
bytes_sum-self n xs e = self_to_length xs ∙ ap zero_word e

-- two words of one length
pub length-bytes_sum : (xs ys : List ℕ) → length ys ≡ length xs → length (bytes_sum xs ys) ≡ length xs
length-bytes_sum [] ys e = refl
length-bytes_sum (x ∷ xs) [] e = absurd (omega arith)
length-bytes_sum (x ∷ xs) (y ∷ ys) e =
    ap (λ (n : ℕ). suc n) (length-bytes_sum xs ys (omega arith))

-- a sum has the bytes of its words
pub sums_have_their_length : SumsHaveTheirLength
sums_have_their_length n [] all = length-replicate n 0
sums_have_their_length n (word ∷ words) all =
    let here : length word ≡ n = All-head (λ w. length w ≡ n) word words all in
    let rest : length (sum_of_words n words) ≡ n =
    sums_have_their_length n words (All-tail (λ w. length w ≡ n) word words all) in
    length-bytes_sum word (sum_of_words n words) (rest ∙ sym here) ∙ here

-- one word more is added to the sum of the words before it
pub one_more_word : OneMoreWord
one_more_word n [] word all e =
    bytes_sum_comm word (zero_word n)
one_more_word n (first ∷ words) word all e =
    ap (bytes_sum first) (one_more_word n words word (All-tail (λ w. length w ≡ n) first words all) e)
    ∙ sym (bytes_sum_assoc first (sum_of_words n words) word)

-- what is added to both sums goes away
added_to_both : (n : ℕ) (b xs ys : List ℕ) → length b ≡ n → length ys ≡ n →
    bytes_sum (bytes_sum b xs) (bytes_sum b ys) ≡ bytes_sum xs ys
added_to_both n b xs ys e k =
    ap (λ (w : List ℕ). bytes_sum w (bytes_sum b ys)) (bytes_sum_comm b xs)
    ∙ bytes_sum_assoc xs b (bytes_sum b ys)
    ∙ ap (bytes_sum xs) (
    sym (bytes_sum_assoc b b ys)
    ∙ ap (λ (w : List ℕ). bytes_sum w ys) (bytes_sum-self n b e)
    ∙ bytes_sum_comm (zero_word n) ys
    ∙ bytes_sum-zero_word n ys k
    )

-- any word of a stripe is the sum of the others and of the sum of all
pub others_give_the_word : OthersGiveTheWord
others_give_the_word n [] after word before_all after_all e =
    let sum : List ℕ = sum_of_words n after in
    let sum_length : length sum ≡ n = sums_have_their_length n after after_all in
    bytes_sum_comm sum (bytes_sum word sum)
    ∙ bytes_sum_assoc word sum sum
    ∙ ap (bytes_sum word) (bytes_sum-self n sum sum_length)
    ∙ bytes_sum-zero_word n word e
others_give_the_word n (first ∷ before) after word before_all after_all e =
    let P : List ℕ → Type 0 = λ w. length w ≡ n in
    let rest : All P before = All-tail P first before before_all in
    added_to_both n first (sum_of_words n (before ++ after)) (sum_of_words n (before ++ word ∷ after))
    (All-head P first before before_all)
    (sums_have_their_length n (before ++ word ∷ after) (All-append P before (word ∷ after) rest (All-cons P word after e after_all)))
    ∙ others_give_the_word n before after word rest after_all e
