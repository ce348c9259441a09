-- Does a read give the last write? Where the page that it looked at, and all copies by which the page came to its slot,
-- were recovered, its reply gives the data of the row's latest write. The replies of other verbs have no data.
use Rattle.std.specs.Prelude.{ℕ, ◌≡◌, ◌<◌, ◌%◌, List, length, All, ⊤}
use Rattle.std.specs.List.{AllByRecursion}
use Rattle.std.specs.Option.{ForSome}
use Rattle.ssd_geo.specs.Coding.{coding_of}
use Rattle.ssd_geo.specs.declared.look.Look.{Look}
use Rattle.ssd_geo.specs.declared.reply.Reply.{Reply}
use Rattle.ssd_geo.specs.declared.tag.Tag.{Tag}
use Rattle.ssd_geo.specs.declared.trace.Verb.{Verb}
use Rattle.ssd_histories.specs.CallSteps.{position_of}
use Rattle.ssd_histories.specs.CallsInOrder.{ChannelRun, OfRun, steps_on}
use Rattle.ssd_histories.specs.History.{look_made}
use Rattle.ssd_histories.specs.PlainMap.{AreCopiesRecovered, PlainRow, bytes, nothing, past_at, plain_of, untold}

-- the data of one write: so many bytes
pub record IsData (count : ℕ) (data_bytes : List ℕ) : Type 0 where
  pub long : length data_bytes ≡ count
  pub small : AllByRecursion (λ byte. byte < 256) data_bytes

-- a reply gives what a row holds by its writes and trims, where that is data bytes of this history
abbrev pub GivesPlain : PlainRow → Reply → Type 0
GivesPlain nothing reply = ⊤
GivesPlain untold reply = ⊤
GivesPlain (bytes expected) (Reply.Data rung data_bytes) = data_bytes ≡ expected
GivesPlain (bytes expected) reply = ⊥

-- where the page of a look and all its copies were recovered, a reply gives what the row held at the look
abbrev pub GivesLastWrite : List (Tag × List ℕ) → ChannelRun → Reply → Look → Type 0
GivesLastWrite contents run reply look =
    AreCopiesRecovered (coding_of run.start.base) run.start contents run.past look →
    GivesPlain (plain_of run.start.base contents (past_at run.past look.at) look.row) reply

-- the reply of a read does so for the call's own look; the replies of other verbs have no data
abbrev pub ReadsLastWrite : List (Tag × List ℕ) → List ChannelRun → Tag → Verb → Reply → Type 0
ReadsLastWrite contents runs tag (Verb.Read page) reply =
    OfRun runs (page % length runs)
    (λ run. All (λ step. ForSome (look_made (position_of step) step.entry.kind) (GivesLastWrite contents run reply)) (steps_on tag run))
ReadsLastWrite contents runs tag verb reply = ⊤
