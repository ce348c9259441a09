-- Which command the options after a first word make.
use Rattle.std.proofs.Common.{◌≡◌, refl, ap, true, false, cond, ◌&&◌, ◌==◌, List, [], ◌∷◌, length, arith, is_some, Option, Some, None, option_map, option_and_then}
use Rattle.std.specs.List.{cons_option}
use Rattle.std.proofs.lemmas.Grind.{common_steps}
use Rattle.ssd_formats.specs.Numbers.{Text}
use Rattle.ssd_formats.specs.Words.{Command, Setting, Settings, are_named_once, command_of, command_with, format, formatting, serving, setting_of_word, settings_from}
use Rattle.command_words.specs.Options.{are_options, options_in, settings_named}
use Rattle.command_words.proofs.OptionWords.{all_options, not_all_options}

-- a command that serves is made of the settings that its options say
pub serving_is : (command : Settings → Command) (names : List Text) (options : List Setting) → serving command names options ≡ option_map command (settings_named names options)
serving_is command names options =
    elim (are_named_once names options) as (λ b. cond b (option_map command (settings_from options)) None ≡ option_map command (cond b (settings_from options) None)) [ true ↦ refl | false ↦ refl ]

pub command_of_options : (first : Text) (words : List Text) → are_options words ≡ true → command_of (first ∷ words) ≡ command_with first (options_in words)
command_of_options first words e = ap (option_and_then (command_with first)) (all_options words e)

pub no_command : (first : Text) (words : List Text) → are_options words ≡ false → command_of (first ∷ words) ≡ None
no_command first words e = ap (option_and_then (command_with first)) (not_all_options words e)

formatting_with : (option : Option Setting) (words : List Text) → (is_some option && are_options words) ≡ true → formatting (cons_option option (options_in words)) ≡ None
formatting_with None words e = absurd (cc)
formatting_with (Some o) words e = refl

-- `format` has no option
pub formatting_some : (words : List Text) → (length words == 0) ≡ false → are_options words ≡ true → formatting (options_in words) ≡ None
formatting_some [] e are = absurd (cc)
formatting_some (word ∷ words) e are = formatting_with (setting_of_word word) words are

pub formatting_none : (words : List Text) → (length words == 0) ≡ true → formatting (options_in words) ≡ Some format
formatting_none [] e = refl
formatting_none (word ∷ words) e = absurd (grind (arith, common_steps))
