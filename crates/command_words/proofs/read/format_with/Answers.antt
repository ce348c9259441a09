use Rattle.std.proofs.Common.{sym, rules}
use Rattle.command_words.proofs.Commands.{formatting_none, formatting_some}
use Rattle.command_words.proofs.read.format_with.Goals as goal

pub returns-then-is_empty-clause-told : goal.returns-then-is_empty-clause-told
returns-then-is_empty-clause-told c = sym (formatting_none c.args.options.now (search rules))

pub returns-else-is_empty-clause-told : goal.returns-else-is_empty-clause-told
returns-else-is_empty-clause-told c = sym (formatting_some c.args.options.now (search rules) c.requires)
