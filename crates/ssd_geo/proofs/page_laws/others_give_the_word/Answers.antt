use Rattle.ssd_geo.proofs.WordSums.{one_more_word, others_give_the_word, sums_have_their_length}
use Rattle.ssd_geo.proofs.page_laws.others_give_the_word.Goals as goal

pub returns : goal.returns
returns c = record { lost = others_give_the_word; step = one_more_word; length = sums_have_their_length }
