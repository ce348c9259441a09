-- The data of a read fit the memory that was set aside for them; and a read for which none could be set aside was begun.
use Rattle.std.proofs.Common.{ℕ, ◌≡◌, ◌+◌, ◌-◌, ◌≤◌, List, length, drop, Some, subst, inl, inr, length-take, arith}
use Rattle.ssd_geo.specs.Ladder.{LadderState, asks, recovered, uncorrectable}
use Rattle.ssd_geo.specs.declared.entry.Entry.{Entry}
use Rattle.ssd_geo.specs.declared.reply.Reply.{Reply}
use Rattle.ssd_geo.specs.declared.row.Row.{Row}
use Rattle.ssd_geo.specs.declared.tag.Tag.{Tag}
use Rattle.ssd_histories.specs.PastPages.{ladder_of}
use Rattle.ssd_histories.specs.Replies.{bytes_of_word, reply_of_ladder}
use Rattle.ssd_histories.specs.ServedCalls.{reply_to_none}
use Rattle.ssd_histories.specs.Start.{Start}
use Rattle.ssd_geo.specs.Coding.{coding_of}
use Rattle.chan_calls.specs.Caller.{CallerView}
use Rattle.chan_calls.specs.Calls.{ReadsFor, reply_of}
use Rattle.chan_calls.specs.declared.read_reply.ReadReply.{ReadReply}
use Rattle.chan_calls.specs.declared.read_reply.ReadReply.TheVariants as read
use Rattle.actor_calls.specs.Replying.{HasRoomFor}

-- a ladder's data have their length, and a row without a page gives none
ladder_fits : (bytes : ℕ) (state : LadderState) (rung : ℕ) (data_bytes : List ℕ) →
    reply_of_ladder bytes state ≡ Some (Reply.Data rung data_bytes) → length data_bytes ≤ bytes
ladder_fits bytes (asks place level) rung data_bytes e = absurd (cc)
ladder_fits bytes (recovered at word) rung data_bytes e =
    let same : bytes_of_word bytes word ≡ data_bytes = cc in
    let taken = length-take (16 + bytes - 16) (drop 16 word) in
    subst (λ (other : List ℕ). length other ≤ bytes) same (omega (arith, taken))
ladder_fits bytes uncorrectable rung data_bytes e = absurd (cc)

no_data : (found : Row) (rung : ℕ) (data_bytes : List ℕ) → reply_to_none found ≡ Some (Reply.Data rung data_bytes) → ⊥
no_data Row.Empty rung data_bytes e = cc
no_data Row.Lost rung data_bytes e = cc
no_data (Row.Page slot serial) rung data_bytes e = cc

module _ (start : Start) (contents : List (Tag × List ℕ)) (caller : CallerView) (tag : Tag) (row : ℕ) (after : List Entry)
  where
    data_fit : (rung : ℕ) (data_bytes : List ℕ) → ReadsFor start contents caller tag row after (Reply.Data rung data_bytes) →
        length data_bytes ≤ start.base.shape.bytes
    data_fit rung data_bytes (inl found) = absurd (no_data found.found rung data_bytes found.reply_is)
    data_fit rung data_bytes (inr (inl page)) =
        ladder_fits start.base.shape.bytes
        (ladder_of (coding_of start.base) start contents page.leaves.at_leave (length page.look.at_look)) rung data_bytes
        page.reply_is
    data_fit rung data_bytes (inr (inr failed)) = let e = failed.reply_is in absurd (cc)

    pub has_room : (answer : ReadReply) (data_bytes : List ℕ) (room : ℕ) → start.base.shape.bytes ≤ room →
        ReadsFor start contents caller tag row after (reply_of answer data_bytes) → HasRoomFor answer data_bytes room
    has_room (read.Bytes rung) data_bytes room wide reads =
        let fits = data_fit rung data_bytes reads in omega (arith, fits, wide)
    has_room read.Empty data_bytes room wide reads = tt
    has_room read.Uncorrectable data_bytes room wide reads = tt
    has_room (read.DieFault die) data_bytes room wide reads = tt
