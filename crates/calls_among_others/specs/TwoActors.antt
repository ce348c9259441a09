-- Do calls whose steps interleave with another actor's meet what the laws ask? On one worked history an actor collects, ages a
-- block, trims, reads an empty row, fills three superblocks, reads and refreshes pages whose senses fail, and writes where there
-- is no room; before almost each of its steps the other actor trims a row. The channel has three dies and four superblocks of
-- four data slots each.
use Rattle.std.specs.Prelude.{ℕ, true, false, List, [], ◌∷◌, Some, None, Ok, pos}
use Rattle.chan_calls.specs.Caller.{CallerView, HasStepRoom}
use Rattle.chan_calls.specs.Calls.{ReadsFor}
use Rattle.chan_calls.specs.Copied.{CopiesFor, HasJustLooked}
use Rattle.chan_calls.specs.Stepping.{IsStepped, MakesAge, MakesTrim}
use Rattle.chan_calls.specs.declared.copy_reply.CopyReply.TheVariants as copy
use Rattle.chan_state.specs.declared.answers.AgeAnswer.TheVariants as age
use Rattle.collector.specs.Collects.{MakesCollectFor}
use Rattle.collector.specs.Rounds.{MakesRoundFor}
use Rattle.collector.specs.Writes.{MakesWriteFor}
use Rattle.collector.specs.declared.replies.CollectReply.TheVariants as collect
use Rattle.collector.specs.declared.replies.RoundReply.TheVariants as round
use Rattle.collector.specs.declared.replies.WriteReply.TheVariants as write
use Rattle.refresh.specs.Refreshes.{MakesRefreshFor}
use Rattle.ssd_geo.specs.declared.entry.Entry.{Entry}
use Rattle.ssd_geo.specs.declared.kind.Kind.{Kind}
use Rattle.ssd_geo.specs.declared.look.Look.{Look}
use Rattle.ssd_geo.specs.declared.reply.RefreshReply.{RefreshReply}
use Rattle.ssd_geo.specs.declared.reply.Reply.{Reply}
use Rattle.ssd_geo.specs.declared.row.Row.{Row}
use Rattle.ssd_histories.specs.HistoryExamples.{AreWithinLimits, blank_start, page, place, small_channel, step, tag_of}
use Rattle.ssd_histories.specs.Lawful.{IsLawful}
use Rattle.ssd_histories.specs.PageMap.{slot_at}
use Rattle.ssd_histories.specs.Start.{Start}

-- the caller of the first actor's calls, and what the channel began with
abbrev pub seen_by_first : AreWithinLimits → List Entry → CallerView
seen_by_first within past = record {
  seen = past;
  limit = 4194304;
  shape = (small_channel [] within).shape;
  session = 0;
  number = Some 0;
  bound = None;
  reference = 0;
}

abbrev pub blank_beginning : AreWithinLimits → Start
blank_beginning within = blank_start [] within

-- an entry of the first actor, and a trim of the other
abbrev pub then_first : ℕ → Kind → List Entry → List Entry
then_first call kind past = step 0 call kind ∷ past

abbrev pub then_trimmed : ℕ → List Entry → List Entry
then_trimmed call past = step 1 call (Kind.Trim 7) ∷ past

-- a collect that finds nothing to do, the ageing of a block, a trim, and a read of an empty row
abbrev pub after_collect : List Entry
after_collect = then_first 0 (Kind.Note 4 None 0 0 0) (then_trimmed 1 (then_trimmed 0 []))

abbrev pub after_age : List Entry
after_age = then_first 1 (Kind.Age 0 0 5) (then_trimmed 2 after_collect)

abbrev pub after_trim : List Entry
after_trim = then_first 2 (Kind.Trim 6) (then_trimmed 3 after_age)

abbrev pub after_empty : List Entry
after_empty = then_first 3 (Kind.Look 3 Row.Empty false) (then_trimmed 4 after_trim)

-- twelve writes, of which the first four are overwritten
abbrev pub after_writes : List Entry
after_writes =
    step 0 15 (Kind.Write 3 (slot_at 2 3))
    ∷ step 0 14 (Kind.Write 2 (slot_at 2 2))
    ∷ step 0 13 (Kind.Write 1 (slot_at 2 1))
    ∷ step 0 12 (Kind.Write 0 (slot_at 2 0))
    ∷ step 0 11 (Kind.Write 7 (slot_at 1 3))
    ∷ step 0 10 (Kind.Write 6 (slot_at 1 2))
    ∷ step 0 9 (Kind.Write 5 (slot_at 1 1))
    ∷ step 0 8 (Kind.Write 4 (slot_at 1 0))
    ∷ step 0 7 (Kind.Write 3 (slot_at 0 3))
    ∷ step 0 6 (Kind.Write 2 (slot_at 0 2))
    ∷ step 0 5 (Kind.Write 1 (slot_at 0 1))
    ∷ step 0 4 (Kind.Write 0 (slot_at 0 0))
    ∷ after_empty

-- a read, and a refresh, in whose first sense a die fails
abbrev pub at_read : List Entry
at_read = then_trimmed 5 after_writes

abbrev pub read_looked : List Entry
read_looked = then_first 16 (Kind.Look 1 (page 2 1 13) true) at_read

abbrev pub read_failed : List Entry
read_failed = then_first 16 (Kind.FaultSense 22 (place 1 2 0) (pos 0)) (then_trimmed 6 read_looked)

abbrev pub after_read : List Entry
after_read = then_first 16 (Kind.Leave 22) (then_trimmed 7 read_failed)

abbrev pub at_refresh : List Entry
at_refresh = then_trimmed 8 after_read

abbrev pub refresh_looked : List Entry
refresh_looked = then_first 17 (Kind.Look 2 (page 2 2 14) true) at_refresh

abbrev pub refresh_failed : List Entry
refresh_failed = then_first 17 (Kind.FaultSense 28 (place 1 2 1) (pos 0)) (then_trimmed 9 refresh_looked)

abbrev pub after_refresh : List Entry
after_refresh = then_first 17 (Kind.Leave 28) (then_trimmed 10 refresh_failed)

-- a write that finds no room, picks a superblock without live pages, erases it, and then finds room
abbrev pub needs_some : List Entry
needs_some = then_trimmed 11 after_refresh

abbrev pub has_picked : List Entry
has_picked = then_first 18 (Kind.Pick 0) (then_trimmed 12 needs_some)

abbrev pub finds_none_live : List Entry
finds_none_live = then_trimmed 13 has_picked

abbrev pub has_erased : List Entry
has_erased = then_first 18 (Kind.Erase 0) (then_trimmed 14 finds_none_live)

abbrev pub after_write : List Entry
after_write = then_first 18 (Kind.Write 5 (slot_at 0 0)) (then_trimmed 15 has_erased)

-- the look that the refresh made
abbrev pub look_of_refresh : Look
look_of_refresh = record { at = 28; row = 2; slot = slot_at 2 2; serial = 14; closed = true }

-- each law's premise holds of it
pub record MeetPremises (within : AreWithinLimits) : Type 0 where
  pub is_lawful : IsLawful (blank_beginning within) [] after_collect
  pub collects :
      MakesCollectFor (blank_beginning within) [] (seen_by_first within []) (tag_of 0 0) [] after_collect
      (Ok collect.Idle)
  pub ages :
      IsStepped HasStepRoom (MakesAge (tag_of 0 1) 0 0 5) (tag_of 0 1) (seen_by_first within after_collect)
      (seen_by_first within after_age) (Ok age.Aged)
  pub trims :
      IsStepped {A = Unit {0}} HasStepRoom (MakesTrim (tag_of 0 2) 6) (tag_of 0 2) (seen_by_first within after_age)
      (seen_by_first within after_trim) (Ok tt)
  pub reads_empty :
      ReadsFor (blank_beginning within) [] (seen_by_first within after_trim) (tag_of 0 3) 3 after_empty Reply.Empty
  pub reads :
      ReadsFor (blank_beginning within) [] (seen_by_first within after_writes) (tag_of 0 16) 1 after_read (Reply.DieFault 1)
  pub looks : HasJustLooked (seen_by_first within refresh_looked) (tag_of 0 17) look_of_refresh at_refresh
  pub copies :
      CopiesFor (blank_beginning within) [] (seen_by_first within refresh_looked) (tag_of 0 17) 28 true after_refresh
      (copy.DieFault 1)
  pub refreshes :
      MakesRefreshFor (blank_beginning within) [] (seen_by_first within after_read) (tag_of 0 17) 2 after_refresh
      (Ok (RefreshReply.DieFault 1))
  pub rounds :
      MakesRoundFor (blank_beginning within) [] (seen_by_first within after_refresh) (tag_of 0 18) needs_some has_erased
      (Ok (round.Erased 0))
  pub writes :
      MakesWriteFor (blank_beginning within) [] (seen_by_first within after_refresh) (tag_of 0 18) 5 after_refresh after_write
      (Ok write.Written)

abbrev pub TwoActorsMeetPremises : Type 0
TwoActorsMeetPremises = (within : AreWithinLimits) → MeetPremises within
