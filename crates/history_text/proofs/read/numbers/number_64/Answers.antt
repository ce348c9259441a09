use Rattle.std.proofs.Common.{rules, ◌≡◌, ◌∙◌, true}
use Rattle.ssd_formats.specs.Numbers.{is_number}
use Rattle.history_text.proofs.NumberWords.{parsed_number}
use Rattle.history_text.proofs.read.numbers.number_64.Goals as goal
use Rattle.ssd_formats.proofs.NumberLaws.{number_is_utf8}

pub returns-in-Ok : goal.returns-in-Ok
returns-in-Ok c =
    let is : is_number c.args.word.now ≡ true = search rules in
    let parsed = rw c.in-Ok.ensures.cases.0 at c.parse.ensures.value.0 in
    c.ok.ensures.value ∙ parsed_number c.args.word.now c.parse.result is parsed

pub returns-in-Err : goal.returns-in-Err
returns-in-Err c =
    let is : is_number c.args.word.now ≡ true = search rules in
    absurd (c.in-Err.ensures.cases.0 (number_is_utf8 c.args.word.now is))
