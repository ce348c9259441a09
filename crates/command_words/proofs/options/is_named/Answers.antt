use Rattle.std.proofs.Common.{ap, sym, ◌∙◌, is_some}
use Rattle.command_words.specs.Options.{options_in}
use Rattle.command_words.proofs.OptionWords.{copied_is_some, named_has_value}
use Rattle.command_words.proofs.options.is_named.Goals as goal

pub returns : goal.returns
returns c =
    c.is_some.ensures ∙ sym (copied_is_some c.value_named.result) ∙ ap is_some c.value_named.ensures
    ∙ named_has_value c.args.name.now (options_in c.args.words.now)
