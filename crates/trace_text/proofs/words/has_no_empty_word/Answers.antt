use Rattle.std.proofs.Common.{◌==◌, length, not, rules, tests}
use Rattle.std.proofs.lemmas.Iterator.Search.{all_from_yields_List}
use Rattle.std.proofs.lemmas.Iterator.Splits.{YieldsList-from_slice_split}
use Rattle.ssd_formats.specs.Lines.{is_space}
use Rattle.trace_text.proofs.words.has_no_empty_word.Goals as goal

pub returns : goal.returns
returns c =
    all_from_yields_List (λ word. not (length word == 0)) _ _ _ c.all.ensures.ran
    (YieldsList-from_slice_split _ is_space c.args.text.now c.split.ensures.rest c.split.ensures.done c.split.ensures.closure (λ x b q k. search (rules, tests)))
    (λ x b q k. search (rules, tests))
