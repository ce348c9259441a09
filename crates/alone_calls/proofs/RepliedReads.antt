-- What a caller that is alone reads is read as in a run whose calls are served one after the other.
use Rattle.std.proofs.Common.{◌≡◌, ℕ, List, [], ◌∷◌, ◌++◌, length, None, sym, ◌∙◌, ap, inl, inr}
use Rattle.std.specs.Prelude.{◌⊎◌, ℤ}
use Rattle.ssd_geo.specs.Coding.{coding_of}
use Rattle.ssd_geo.specs.declared.entry.Entry.{Entry}
use Rattle.ssd_geo.specs.declared.kind.Kind.{Kind}
use Rattle.ssd_geo.specs.declared.place.Place.{Place}
use Rattle.ssd_geo.specs.declared.reply.Reply.{Reply}
use Rattle.ssd_geo.specs.declared.tag.Tag.{Tag}
use Rattle.ssd_histories.specs.PastPages.{ladder_of}
use Rattle.ssd_histories.specs.Replies.{reply_of_ladder}
use Rattle.ssd_histories.specs.SerialCalls.{entry_of}
use Rattle.ssd_histories.specs.ServedCalls as Served
use Rattle.ssd_histories.specs.ServedCalls.{after_lone_look, after_look, after_senses, after_sensing}
use Rattle.ssd_histories.specs.Start.{Start}
use Rattle.run_laws.specs.RepliedCalls.{HasFailedRead}
use Rattle.chan_calls.specs.Caller.{AddsKinds, CallerView, Comes}
use Rattle.chan_calls.specs.Calls.{HasFoundNone, HasLooked, HasReadFailed, HasReadPage, ReadsFor, sense_kinds}

module _ (caller : CallerView) (tag : Tag) (alone : caller.number ≡ None) where
  -- what comes to a caller that is alone is what it has seen
  pub is_seen : (seen now : List Entry) → Comes (record caller { seen = seen }) tag now → now ≡ seen
  is_seen seen now comes =
      comes.now_is
      ∙ ap {B = List Entry} (λ (others : List Entry). others ++ seen) (comes.none_alone alone)

  -- the entries of senses that it makes come one after the other
  are_after : (at : ℕ) (senses : List (Place × ℤ)) (seen new : List Entry) →
      AddsKinds caller tag (sense_kinds at senses) seen new → new ≡ after_senses tag at senses seen
  are_after at [] seen new is = is
  are_after at (sensed ∷ senses) seen new adds =
      let entry : Entry = entry_of tag (Kind.Sense at sensed.0 sensed.1) in
      are_after at senses (entry ∷ adds.0) new adds.2
      ∙ ap {B = List Entry} (λ (now : List Entry). after_senses tag at senses (entry ∷ now))
      (is_seen seen adds.0 adds.1)

module _ (caller : CallerView) (tag : Tag) (row : ℕ) (alone : caller.number ≡ None) (new : List Entry) (reply : Reply) where
  of_none : HasFoundNone caller tag row new reply → Served.HasFoundNone tag row caller.seen new reply
  of_none found =
      let seen : found.at_look ≡ caller.seen = is_seen caller tag alone caller.seen found.at_look found.comes in
      record {
        found = found.found;
        reply_is = found.reply_is;
        after_is = found.new_is ∙ (λ i. after_lone_look tag row found.found (seen i));
      }

  -- a look and its senses
  module _ (look : HasLooked caller tag row) where
    sensing : List Entry → List Entry
    sensing past = after_sensing tag row look.slot look.serial look.closed look.senses.senses past

    looked : look.at_look ≡ caller.seen
    looked = is_seen caller tag alone caller.seen look.at_look look.comes

    sensed : look.senses.after ≡ after_sensing tag row look.slot look.serial look.closed look.senses.senses caller.seen
    sensed =
        are_after caller tag alone (length look.at_look) look.senses.senses
        (after_look tag row look.slot look.serial look.closed look.at_look) look.senses.after look.senses.are_senses
        ∙ ap {B = List Entry} (λ (past : List Entry). after_sensing tag row look.slot look.serial look.closed look.senses.senses past)
        looked

  of_page : (start : Start) (contents : List (Tag × List ℕ)) → HasReadPage start contents caller tag row new reply →
      Served.HasReadPage start contents tag row caller.seen new reply
  of_page start contents read =
      let at_leave = is_seen caller tag alone read.look.senses.after read.leaves.at_leave read.leaves.comes ∙ sensed read.look in
      let told = λ (past : List Entry) (at : ℕ). reply_of_ladder start.base.shape.bytes
      (ladder_of (coding_of start.base) start contents past at) in
      record {
        slot = read.look.slot;
        serial = read.look.serial;
        closed = read.look.closed;
        senses = read.look.senses.senses;
        after_is =
            read.leaves.new_is ∙ (λ i. entry_of tag (Kind.Leave (length (looked read.look i))) ∷ at_leave i);
        reply_is = sym (λ i. told (at_leave i) (length (looked read.look i))) ∙ read.reply_is;
      }

  of_failed : HasReadFailed caller tag row new reply → HasFailedRead tag row caller.seen new reply
  of_failed read =
      let fails = read.fails in
      let at_sense = is_seen caller tag alone read.look.senses.after fails.at_sense fails.comes ∙ sensed read.look in
      let at_leave =
      is_seen caller tag alone
      (entry_of tag (Kind.FaultSense (length read.look.at_look) fails.place fails.level) ∷ fails.at_sense)
      fails.leaves.at_leave fails.leaves.comes in
      record {
        slot = read.look.slot;
        serial = read.look.serial;
        closed = read.look.closed;
        senses = read.look.senses.senses;
        place = fails.place;
        level = fails.level;
        reply_is = read.reply_is ∙ ap Reply.DieFault fails.die_is;
        after_is =
            fails.leaves.new_is
            ∙ ap {B = List Entry} (λ (past : List Entry). entry_of tag (Kind.Leave (length read.look.at_look)) ∷ past) at_leave
            ∙ (λ i. entry_of tag (Kind.Leave (length (looked read.look i)))
            ∷ entry_of tag (Kind.FaultSense (length (looked read.look i)) fails.place fails.level) ∷ at_sense i);
      }

  pub reads_are_replied : (start : Start) (contents : List (Tag × List ℕ)) → ReadsFor start contents caller tag row new reply →
      Served.HasFoundNone tag row caller.seen new reply
      ⊎ (Served.HasReadPage start contents tag row caller.seen new reply ⊎ HasFailedRead tag row caller.seen new reply)
  reads_are_replied start contents reads =
      elim reads [
        | inl found ↦ inl (of_none found)
        | inr other ↦ elim other [ inl read ↦ inr (inl (of_page start contents read)) | inr read ↦ inr (inr (of_failed read)) ]
      ]
