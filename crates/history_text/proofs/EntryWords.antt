-- The lines of a history by their words.
use Rattle.std.proofs.Common.{◌≡◌, refl, ℕ, ◌^◌, cond, ◌&&◌, nat_lt, nat_le, List, [], ◌∷◌, Option}
use Rattle.std.proofs.Common.{Some, None, arith}
use Rattle.std.specs.Prelude.{bytes_eq, codes, option_and_then, option_map}
use Rattle.std.proofs.lemmas.Grind.{common_steps}
use Rattle.ssd_formats.specs.Fields.{passing}
use Rattle.ssd_formats.specs.HistoryText.{count_of_words, entry_of_words, entry_with, most_entries, spells}
use Rattle.ssd_formats.specs.KindOfWords.{◌>>=◌, kind_of_words, number_32, read_tag}
use Rattle.ssd_formats.specs.Numbers.{Text, number_of_text}
use Rattle.ssd_geo.specs.declared.entry.Entry.{Entry}
use Rattle.history_text.specs.LinesLeft.{count_of}
use Rattle.history_text.specs.Pieces.{next_piece, three_pieces}

abbrev at_most : ℕ → Option ℕ
at_most n = passing (λ m. nat_le m most_entries) n

small_enough : (n : ℕ) → at_most n ≡ option_and_then at_most (cond (nat_lt n (2 ^ 32)) (Some n) None)
small_enough n = grind (arith, common_steps)

fitting : (number : Option ℕ) →
    option_and_then at_most number
    ≡ option_and_then at_most (option_and_then (λ n. cond (nat_lt n (2 ^ 32)) (Some n) None) number)
fitting None = refl
fitting (Some n) = small_enough n

-- so many entries fit 32 bits
pub fits : (word : Text) → count_of word ≡ option_and_then at_most (number_32 word)
fits word = fitting (number_of_text word)

abbrev count_with : ℕ → Text × Text × Text → Option ℕ
count_with channel of =
    cond (bytes_eq of.0 (codes "channel") && spells channel of.1) (count_of of.2) None

pub count_is : (channel : ℕ) (words : List Text) →
    count_of_words channel words ≡ three_pieces words >>= count_with channel
count_is channel [] = refl
count_is channel (word ∷ []) = refl
count_is channel (word ∷ number ∷ []) = refl
count_is channel (word ∷ number ∷ entries ∷ []) = refl
count_is channel (word ∷ number ∷ entries ∷ more ∷ words) = refl

abbrev entry_with_words : ℕ → Text → Text × List Text → Option Entry
entry_with_words position number of =
    cond (spells position number)
    (option_and_then (λ kind. option_map (entry_with kind) (read_tag of.0)) (kind_of_words of.1))
    None

pub entry_is : (position : ℕ) (words : List Text) →
    entry_of_words position words
    ≡ next_piece words >>= (λ first. next_piece first.1 >>= entry_with_words position first.0)
entry_is position [] = refl
entry_is position (number ∷ []) = refl
entry_is position (number ∷ tag ∷ words) = refl
