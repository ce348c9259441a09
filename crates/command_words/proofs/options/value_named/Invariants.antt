use Rattle.std.proofs.Common.{◌≡◌, drop}
use Rattle.ssd_formats.specs.Words.{value_named}
use Rattle.command_words.specs.Options.{options_in}
use Rattle.command_words.proofs.options.value_named.Given as goal

abbrev pub invariant-loop-word : goal.invariant-loop-word
invariant-loop-word l = value_named l.name (options_in (drop l.word-index l.words)) ≡ value_named l.name (options_in l.words)
