-- Pasts and histories: the proofs of the laws of specs/HistoryLaws.antt but for the ladder's.
use Rattle.std.proofs.Common.{[], ◌∷◌}
use Rattle.std.proofs.lemmas.List.{length-reverse, reverse-append, reverse-reverse}
use Rattle.ssd_histories.specs.HistoryLaws.{HistoriesReverse, LawfulBeforeLast}

pub histories_reverse : HistoriesReverse
histories_reverse history past entry = record {
  history_back = reverse-reverse history;
  past_back = reverse-reverse past;
  as_long = length-reverse history;
  one_more = reverse-append history (entry ∷ []);
  one_more_back = reverse-append (entry ∷ []) past;
}

pub lawful_before_last : LawfulBeforeLast
lawful_before_last ladder base [] past h = h
lawful_before_last ladder base (entry ∷ newer) past h = lawful_before_last ladder base newer past h.0
