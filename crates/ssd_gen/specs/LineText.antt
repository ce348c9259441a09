-- How does a word of a line stand in a trace?
use Rattle.std.specs.Prelude.{List, ◌∷◌, ◌++◌, flat_map, codes, decimal}
use Rattle.ssd_formats.specs.Numbers.{Text}
use Rattle.ssd_gen.specs.declared.line_word.LineWord.{LineWord}
use Rattle.ssd_gen.specs.declared.line_word.LineWord.TheVariants.{Name, Number, Data}

-- the text of a word
abbrev pub word_text : LineWord → Text
word_text (Name bytes) = bytes.now
word_text (Number number) = decimal number
word_text (Data number) = codes "g" ++ decimal number

-- words, each after a space
abbrev pub further_text : List LineWord → Text
further_text words = flat_map (λ word. 32 ∷ word_text word) words
