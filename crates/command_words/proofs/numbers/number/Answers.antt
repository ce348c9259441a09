use Rattle.std.proofs.Common.{rules, ◌≡◌, ◌∙◌, true}
use Rattle.ssd_formats.specs.Numbers.{is_number}
use Rattle.command_words.proofs.NumberTexts.{parsed_is_number}
use Rattle.command_words.proofs.numbers.number.Goals as goal
use Rattle.ssd_formats.proofs.NumberLaws.{number_is_utf8}

pub returns-in-Ok : goal.returns-in-Ok
returns-in-Ok c =
    let is : is_number c.args.text.now ≡ true = search rules in
    let parsed = rw c.in-Ok.ensures.cases.0 at c.parse.ensures.value.0 in
    c.ok.ensures.value ∙ parsed_is_number c.args.text.now c.parse.result is parsed

pub returns-in-Err : goal.returns-in-Err
returns-in-Err c =
    let is : is_number c.args.text.now ≡ true = search rules in
    absurd (c.in-Err.ensures.cases.0 (number_is_utf8 c.args.text.now is))
