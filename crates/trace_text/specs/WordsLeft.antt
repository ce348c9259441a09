-- Which words are left of a line, behind one that was taken? Where a space stood behind it, those of the text behind that
-- space; else none.
use Rattle.std.specs.Borrow.{Bor}
use Rattle.std.specs.Prelude.{ℕ, List, [], ◌∷◌, Option, Some, None, option_copied, Result, Ok, Err}
use Rattle.ssd_formats.specs.Fields.{◌>>=◌}
use Rattle.ssd_geo.specs.Limits.{Sizes}
use Rattle.ssd_formats.specs.InputFaults.{TraceFault, form}
use Rattle.ssd_formats.specs.Lines.{words_in}
use Rattle.ssd_formats.specs.Numbers.{Text}
use Rattle.ssd_formats.specs.TraceText.{page_word}

abbrev pub words_left : Option Text → List Text
words_left None = []
words_left (Some text) = words_in text

-- the first word and those behind it; a fault of form where there is none
abbrev pub next_word : List Text → Result (Text × List Text) TraceFault
next_word [] = Err form
next_word (word ∷ words) = Ok (word, words)

-- the only word; a fault of form where there is none or more
abbrev pub only_word : List Text → Result Text TraceFault
only_word (word ∷ []) = Ok word
only_word words = Err form

-- two words and no more, as those of a write
abbrev pub two_words : List Text → Result (Text × Text) TraceFault
two_words words = do
  first ← next_word words
  second ← only_word first.1
  Ok (first.0, second)

-- two words, and those behind them
abbrev pub next_two : List Text → Result (Text × Text × List Text) TraceFault
next_two words = do
  first ← next_word words
  second ← next_word first.1
  Ok (first.0, second.0, second.1)

-- four words and no more, as those that age a block
abbrev pub four_words : List Text → Result ((Text × Text) × (Text × Text)) TraceFault
four_words words = do
  front ← next_two words
  back ← two_words front.2
  Ok ((front.0, front.1), back)

-- the page of a call that has no other argument
abbrev pub only_page_of : Sizes → List Text → Result ℕ TraceFault
only_page_of sizes words = only_word words >>= page_word sizes

-- a word that was taken, and the words behind it
abbrev pub cut_of : {F : Type 0} → Result (Bor Text × Option (Bor Text)) F → Result (Text × List Text) F
cut_of (Ok cut) = Ok (cut.0.now, words_left (option_copied cut.1))
cut_of (Err fault) = Err fault

-- a word that was taken
abbrev pub word_of : {F : Type 0} → Result (Bor Text) F → Result Text F
word_of (Ok word) = Ok word.now
word_of (Err fault) = Err fault

-- two words that were taken
abbrev pub two_of : {F : Type 0} → Result (Bor Text × Bor Text) F → Result (Text × Text) F
two_of (Ok words) = Ok (words.0.now, words.1.now)
two_of (Err fault) = Err fault

-- two words that were taken, and the words behind them
abbrev pub cut_two_of : {F : Type 0} → Result (Bor Text × Bor Text × Option (Bor Text)) F → Result (Text × Text × List Text) F
cut_two_of (Ok cut) = Ok (cut.0.now, cut.1.now, words_left (option_copied cut.2))
cut_two_of (Err fault) = Err fault

-- twice two words that were taken
abbrev pub four_of : {F : Type 0} → Result ((Bor Text × Bor Text) × (Bor Text × Bor Text)) F → Result ((Text × Text) × (Text × Text)) F
four_of (Ok words) = Ok ((words.0.0.now, words.0.1.now), (words.1.0.now, words.1.1.now))
four_of (Err fault) = Err fault
