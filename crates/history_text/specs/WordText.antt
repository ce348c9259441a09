-- How does a word of a line stand in a text? A name as its bytes, a number in digits, and parts of an address with full
-- stops between.
use Rattle.std.specs.Prelude.{List, [], ◌∷◌, flat_map, decimal, codes}
use Rattle.std.specs.Fmt.{signed_decimal}
use Rattle.ssd_formats.specs.Numbers.{Text}
use Rattle.ssd_formats.specs.EntryText.{dotted, slot_text, place_text, tag_text}
use Rattle.ssd_formats.specs.ReplyText.{word_and_number}
use Rattle.history_text.specs.declared.word.Word.{Word}
use Rattle.history_text.specs.declared.word.Word.TheVariants.{Name, Number, Count, Level, Address, Block, At, Call, DieFault}

-- the text of a word
abbrev pub word_text : Word → Text
word_text (Name bytes) = bytes.now
word_text (Number n) = decimal n
word_text (Count n) = decimal n
word_text (Level n) = signed_decimal n
word_text (Address slot) = slot_text slot
word_text (Block die sb) = dotted (die ∷ sb ∷ [])
word_text (At place) = place_text place
word_text (Call tag) = tag_text tag
word_text (DieFault die) = word_and_number (codes "diefault") die

-- words, each after a space
abbrev pub further_words : List Text → Text
further_words words = flat_map (λ word. 32 ∷ word) words
