-- The bytes with which SplitMix64 fills a buffer are those of its words.
use Rattle.std.proofs.Common.{◌≡◌, refl, ap, sym, ◌∙◌, ℕ, zero, suc, ◌+◌, ◌/◌, List, [], ◌∷◌, ◌++◌, take, arith}
use Rattle.std.specs.Int.{w64, to_le_bytes}
use Rattle.std.specs.List.{flat_map, range_with_len}
use Rattle.std.proofs.lemmas.Grind.{flat_map-append}
use Rattle.std.proofs.lemmas.List.{append-nil}
use Rattle.rand_core.specs.Steps.{fill_via_u64, word_bytes}
use Rattle.rand_xoshiro.specs.SplitMix64.{mix_u64}
use Rattle.ssd_geo.specs.Noise.{noise_word, state_after}
use Rattle.ssd_formats.specs.TraceText.{generated_bytes}

-- the bytes of a word
abbrev bytes_of_word : ℕ → ℕ → List ℕ
bytes_of_word number w = to_le_bytes w64 (noise_word number w)

-- the numbers up to one more
range_more : (a n : ℕ) → range_with_len a (suc n) ≡ range_with_len a n ++ (a + n) ∷ []
range_more a zero = ap (λ (k : ℕ). k ∷ []) (let e : a ≡ a + 0 = omega arith in e)
range_more a (suc n) =
    let e : a + 1 + n ≡ a + suc n = omega arith in
    ap (λ (xs : List ℕ). a ∷ xs) (range_more (a + 1) n)
    ∙ ap (λ (k : ℕ). a ∷ (range_with_len (a + 1) n ++ k ∷ [])) e

-- one word more gives its bytes
bytes_more : (number n : ℕ) → flat_map (bytes_of_word number) (range_with_len 0 (suc n))
    ≡ flat_map (bytes_of_word number) (range_with_len 0 n) ++ bytes_of_word number n
bytes_more number n =
    let e : 0 + n ≡ n = omega arith in
    ap (λ (ws : List ℕ). flat_map (bytes_of_word number) ws) (range_more 0 n)
    ∙ flat_map-append (bytes_of_word number) (range_with_len 0 n) ((0 + n) ∷ [])
    ∙ ap (λ (w : ℕ). flat_map (bytes_of_word number) (range_with_len 0 n) ++ (bytes_of_word number w ++ [])) e
    ∙ ap (λ (bytes : List ℕ). flat_map (bytes_of_word number) (range_with_len 0 n) ++ bytes) (append-nil (bytes_of_word number n))

-- the bytes of the first words, and the state after them
words_are : (number n : ℕ) → word_bytes (to_le_bytes w64) mix_u64 n number
    ≡ (flat_map (bytes_of_word number) (range_with_len 0 n), state_after number n)
unfolding word_bytes noise_word
words_are number zero = refl
words_are number (suc n) =
    let step : List ℕ × ℕ → List ℕ × ℕ = λ (before : List ℕ × ℕ). (before.0 ++ to_le_bytes w64 (mix_u64 before.1).0, (mix_u64 before.1).1) in
    ap step (words_are number n)
    ∙ ap (λ (bytes : List ℕ). let all : List ℕ × ℕ = (bytes, state_after number (suc n)) in all) (sym (bytes_more number n))

pub filled_bytes : (n number : ℕ) → (fill_via_u64 mix_u64 n number).0 ≡ generated_bytes n number
filled_bytes n number =
    ap (λ (all : List ℕ × ℕ). take n all.0) (words_are number ((n + 7) / 8))
