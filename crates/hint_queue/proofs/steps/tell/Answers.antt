use Rattle.std.proofs.Common.{◌≤◌, arith}
use Rattle.hint_queue.proofs.Telling.{tells}
use Rattle.hint_queue.proofs.steps.tell.Goals as goal

pub fetch_add-requires : goal.fetch_add-requires
fetch_add-requires c =
    let some_share : 1 ≤ c.args.teller.now.me.0.share = let one = c.requires.share in omega (arith, one) in
    let low = c.requires.word in let words = c.requires.words in
    (c.requires.table, omega (arith, low, words), tells _ _ _ _ some_share)
