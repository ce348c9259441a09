use Rattle.std.proofs.Common.{◌≡◌, ◌∷◌, true, false, ap, sym, ◌∙◌, rules}
use Rattle.ssd_formats.specs.Words.{command_of, command_with}
use Rattle.command_words.specs.Options.{are_options, options_in}
use Rattle.command_words.proofs.Commands.{command_of_options, no_command}
use Rattle.command_words.proofs.read.read_command.Goals as goal

pub returns-then-are_options-clause-told : goal.returns-then-are_options-clause-told
returns-then-are_options-clause-told c =
    let first = c.in_ok-first.first.now in
    let options = c.in_ok-first.options.now in
    let words_are : c.args.words.now ≡ first ∷ options = search rules in
    let are : are_options options ≡ true = search rules in
    c.command_with.ensures.told ∙ ap (λ word. command_with word (options_in options)) c.bytes.ensures
    ∙ sym (command_of_options first options are) ∙ ap command_of (sym words_are)

pub returns-else-are_options-clause-told : goal.returns-else-are_options-clause-told
returns-else-are_options-clause-told c =
    let first = c.in_ok-first.first.now in
    let options = c.in_ok-first.options.now in
    let words_are : c.args.words.now ≡ first ∷ options = search rules in
    let are : are_options options ≡ false = search rules in
    sym (no_command first options are) ∙ ap command_of (sym words_are)
