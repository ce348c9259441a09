use Rattle.std.proofs.Common.{◌≡◌, drop}
use Rattle.ssd_formats.specs.Words.{are_named_once}
use Rattle.command_words.specs.Options.{names_of, options_in}
use Rattle.command_words.proofs.options.are_named_once.Given as goal

abbrev pub invariant-loop-i : goal.invariant-loop-i
invariant-loop-i l =
    are_named_once (names_of l.names) (options_in (drop l.i l.words)) ≡ are_named_once (names_of l.names) (options_in l.words)
