use Rattle.std.proofs.Common.{◌+◌, ◌-◌, ◌≡◌, ◌∷◌, ap, ◌∙◌, length, take, drop, sym, arith, rules, take_all, length-drop}
use Rattle.ssd_formats.specs.Lines.{is_space, words_in}
use Rattle.trace_text.proofs.Cuts.{cut_at_first}
use Rattle.trace_text.proofs.words.cut_word.Goals as goal

pub returns-in-Some : goal.returns-in-Some
returns-in-Some c =
    let text = c.args.text.now in
    let at = c.in-Some.at in
    cut_at_first is_space text at (search rules)
    ∙ ap (λ behind. take at text ∷ words_in behind) (sym (take_all (length text - (at + 1)) (drop (at + 1) text) (omega (arith, length-drop (at + 1) text))))
