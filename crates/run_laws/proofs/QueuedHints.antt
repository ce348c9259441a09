-- The queue of hints goes on with the hint of a new call's reply, and so do the counts of the hints of all replies and of those
-- that drains took.
use Rattle.std.proofs.Common.{ℕ, ◌≡◌, ◌<◌, ◌≤◌, ◌+◌, Bool, true, false, cond, ◌&&◌, not, List, [], ◌∷◌, ◌++◌, length, refl, arith, length-append, ltb-true}
use Rattle.std.specs.Prelude.{count_by, nat_lt, slice_index_or, sum_by}
use Rattle.std.proofs.lemmas.List.Sums.{sum_by-set, sum_by_push}
use Rattle.ssd_histories.specs.CallsInOrder.{ChannelRun}
use Rattle.ssd_formats.specs.RunText.{is_hinted, taken_by}
use Rattle.ssd_histories.specs.SerialHistory.{SerialState, most_hints}
use Rattle.ssd_geo.specs.declared.reply.Reply.{Reply}
use Rattle.run_laws.specs.SerialRuns.{with_reply}
use Rattle.run_laws.specs.ServedRuns.{dropped_after, hints_in, taken_in}
use Rattle.run_laws.proofs.MadeCalls.{pushed, with_hint_of}

-- the hints of replies with one more, and those taken
abbrev pub one_hint : Reply → ℕ
one_hint reply = cond (is_hinted reply) 1 0

pub hints_with_more : (replies : List (List Reply)) (actor : ℕ) (reply : Reply) →
    actor < length replies →
    hints_in (with_reply replies actor reply) ≡ hints_in replies + one_hint reply
hints_with_more replies actor reply low =
    let sums =
    sum_by-set (count_by is_hinted) replies actor
    (slice_index_or replies actor [] ++ reply ∷ []) [] low in
    let more = sum_by_push one_hint (slice_index_or replies actor []) reply in
    omega (arith, sums, more)

pub taken_with_more : (replies : List (List Reply)) (actor : ℕ) (reply : Reply) → actor < length replies →
    taken_in (with_reply replies actor reply) ≡ taken_in replies + taken_by reply
taken_with_more replies actor reply low =
    let sums = sum_by-set (sum_by taken_by) replies actor (slice_index_or replies actor [] ++ reply ∷ []) [] low in
    let more = sum_by_push taken_by (slice_index_or replies actor []) reply in
    omega (arith, sums, more)

-- whether the reply is a hint, and whether there is room for it
module _ (channels : List ChannelRun) (hints : List ℕ) (dropped page : ℕ) where
  by_tests : (hinted room : Bool) →
      ◌≡◌ {A = SerialState}
      (elim hinted [
        | true ↦ elim room [
          | true ↦ record { channels = channels; hints = hints ++ page ∷ []; dropped = dropped }
          | false ↦ record { channels = channels; hints = hints; dropped = dropped + 1 }
        ]
        | false ↦ record { channels = channels; hints = hints; dropped = dropped }
      ])
      (record {
        channels = channels;
        hints = elim (hinted && room) [ true ↦ hints ++ page ∷ [] | false ↦ hints ];
        dropped = elim (hinted && not room) [ true ↦ dropped + 1 | false ↦ dropped ];
      })
  by_tests true true = refl
  by_tests true false = refl
  by_tests false room = refl

  -- the queue after a reply
  pub queue_after : (reply : Reply) →
      with_hint_of page reply (record { channels = channels; hints = hints; dropped = dropped })
      ≡ record {
        channels = channels;
        hints = pushed page reply hints;
        dropped = dropped_after reply (length hints) dropped;
      }
  queue_after reply = by_tests (is_hinted reply) (nat_lt (length hints) most_hints)

-- it stays within its room, and each hint waits or was dropped
pub record IsQueueCounted (hints : List ℕ) (dropped page : ℕ) (reply : Reply) : Type 0 where
  pub few : length (pushed page reply hints) ≤ most_hints
  pub counted :
      length (pushed page reply hints) + dropped_after reply (length hints) dropped
      ≡ length hints + dropped + one_hint reply

module _ (hints : List ℕ) (dropped page : ℕ) (few : length hints ≤ most_hints) where
  few_by_tests : (hinted room : Bool) → nat_lt (length hints) most_hints ≡ room →
      length {A = ℕ} (elim (hinted && room) [ true ↦ hints ++ page ∷ [] | false ↦ hints ]) ≤ most_hints
  few_by_tests true true e =
      let low : length hints < 256 = ltb-true (length hints) most_hints e in
      let longer = length-append hints (page ∷ []) in
      omega (arith, low, longer)
  few_by_tests true false e = few
  few_by_tests false room e = few

  count_by_tests : (hinted room : Bool) →
      length {A = ℕ} (elim (hinted && room) [ true ↦ hints ++ page ∷ [] | false ↦ hints ])
      + elim (hinted && not room) as (λ x. ℕ) [ true ↦ dropped + 1 | false ↦ dropped ]
      ≡ length hints + dropped + cond hinted 1 0
  count_by_tests true true = let longer = length-append hints (page ∷ []) in omega (arith, longer)
  count_by_tests true false = omega arith
  count_by_tests false room = omega arith

  pub queue_is_counted : (reply : Reply) → IsQueueCounted hints dropped page reply
  queue_is_counted reply = record {
    few = few_by_tests (is_hinted reply) (nat_lt (length hints) most_hints) refl;
    counted = count_by_tests (is_hinted reply) (nat_lt (length hints) most_hints);
  }
