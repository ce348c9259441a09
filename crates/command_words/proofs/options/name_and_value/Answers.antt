use Rattle.std.proofs.Common.{◌≡◌, ◌+◌, ◌-◌, true, length, drop, Some, rules, sym, ap, ◌∙◌, take_all, length-drop, arith}
use Rattle.std.specs.List.{position}
use Rattle.ssd_formats.specs.Words.{is_equals_sign, is_value}
use Rattle.command_words.proofs.OptionWords.{cut_at_sign}
use Rattle.command_words.proofs.options.name_and_value.Goals as goal

pub returns-then-is_value : goal.returns-then-is_value
returns-then-is_value c =
    let text = c.args.text.now in
    let at = c.in_ok-at.at in
    let found : position is_equals_sign text ≡ Some at = search rules in
    let valued : is_value (drop (at + 1) text) ≡ true =
    ap is_value (sym (take_all (length text - (at + 1)) (drop (at + 1) text) (omega (arith, length-drop (at + 1) text)))) ∙ search rules in
    cut_at_sign text at found valued
