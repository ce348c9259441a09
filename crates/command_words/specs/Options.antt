-- What do the further words say, read one by one? Each is an option or none; those that are give a list of names and values.
use Rattle.std.specs.Prelude.{ℕ, ◌^◌, Bool, true, ◌&&◌, not, bytes_eq, if◌then◌else◌, List, [], ◌∷◌, codes, is_some, Option, Some, None, option_and_then}
use Rattle.std.specs.List.{filter_map, list_all, list_any}
use Rattle.std.specs.Option.{option_map_or}
use Rattle.ssd_formats.specs.Numbers.{Text, number_below}
use Rattle.ssd_formats.specs.Words.{Setting, Settings, are_named_once, is_named, run_names, serving_names, setting_of_word, settings_from, value_named}
use Rattle.command_words.specs.declared.options.Names.{Names}
use Rattle.command_words.specs.declared.options.Names.TheVariants.{Run, Serving, Gen}

-- whether a word is an option, and whether all are
abbrev pub is_option : Text → Bool
is_option word = is_some (setting_of_word word)

abbrev pub are_options : List Text → Bool
are_options words = list_all is_option words

-- the options among the words
abbrev pub options_in : List Text → List Setting
options_in words = filter_map setting_of_word words

-- the names of the options that a command has
abbrev pub names_of : Names → List Text
names_of Run = run_names
names_of Serving = serving_names
names_of Gen = codes "number" ∷ []

-- the value of a word, if it is an option of this name
abbrev pub value_in_word : Text → Text → Option Text
value_in_word name word =
    option_and_then (λ option. if is_named name option then Some option.1 else None) (setting_of_word word)

-- whether the name of a word, if it is an option, is one of these, and none of these later options has it
abbrev pub is_named_last : List Text → List Setting → Text → Bool
is_named_last names later word =
    option_map_or (λ option. list_any (bytes_eq option.0) names && not (list_any (is_named option.0) later)) (setting_of_word word)
    true

-- what the options say, where all names are among these
abbrev pub settings_named : List Text → List Setting → Option Settings
settings_named names options = if are_named_once names options then settings_from options else None

-- the number of `gen`, which must be there
abbrev pub number_named : List Setting → Option ℕ
number_named options =
    if are_named_once (names_of Gen) options then option_and_then (number_below (2 ^ 32)) (value_named (codes "number") options)
    else None
