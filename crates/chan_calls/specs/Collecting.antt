-- What does a caller find when it collects: a victim, its live pages, and whether it may be erased?
-- A step that adds nothing says why, of the past that it found.
use Rattle.std.specs.Prelude.{ℕ, ◌≡◌, ◌≢◌, ◌<◌, false, true, IsTrue, List, ◌∷◌, Some, None}
use Rattle.chan_state.specs.declared.answers.EraseAnswer.{EraseAnswer}
use Rattle.chan_state.specs.declared.answers.EraseAnswer.TheVariants as erase
use Rattle.chan_state.specs.declared.answers.PickAnswer.{PickAnswer}
use Rattle.chan_state.specs.declared.answers.PickAnswer.TheVariants.{Busy, NoGarbage, Picked, ReadOnly}
use Rattle.chan_tables.specs.declared.answers.LiveAnswer.{LiveAnswer}
use Rattle.chan_tables.specs.declared.answers.LiveAnswer.TheVariants as live
use Rattle.chan_tables.specs.declared.answers.LookAnswer.TheVariants.{Found}
use Rattle.chan_tables.specs.declared.answers.Note.{Note}
use Rattle.ssd_histories.specs.Lawful.{MayErase}
use Rattle.ssd_histories.specs.PageMap.{first_live_in}
use Rattle.ssd_histories.specs.PastRows.{rows_of}
use Rattle.ssd_histories.specs.Room.{count_of_free, count_of_garbage, live_of, pins_of, victim_of}
use Rattle.ssd_histories.specs.SerialCalls.{entry_of, may_pick}
use Rattle.ssd_geo.specs.declared.entry.Entry.{Entry}
use Rattle.ssd_geo.specs.declared.kind.Kind.{Kind}
use Rattle.ssd_geo.specs.declared.shape.Shape.{Shape}
use Rattle.ssd_geo.specs.declared.tag.Tag.{Tag}
use Rattle.chan_calls.specs.Stepping.{BaseFact, MakesLook}

-- a pick adds the superblock that it picked, where there is no victim, but a free superblock and
-- garbage
abbrev pub MakesPick : (BaseFact → Type 0) → Tag → List Entry → PickAnswer → List Entry → Type 0
MakesPick of_each tag now (Busy sb) seen =
    (seen ≡ now) × of_each (λ base. victim_of base now ≡ Some sb)
MakesPick of_each tag now ReadOnly seen =
    (seen ≡ now)
    × of_each (λ base. (victim_of base now ≡ None) × (count_of_free base now ≡ 0))
MakesPick of_each tag now NoGarbage seen =
    (seen ≡ now)
    × of_each (λ base. (victim_of base now ≡ None) × (0 < count_of_free base now)
    × (count_of_garbage base now ≡ 0))
MakesPick of_each tag now (Picked sb) seen =
    (seen ≡ entry_of tag (Kind.Pick sb) ∷ now) × of_each (λ base. IsTrue (may_pick base now))

-- a look of the victim's live page of least index is one of the row that names it
abbrev pub MakesLive : (BaseFact → Type 0) → Shape → Tag → ℕ → List Entry → LiveAnswer →
    List Entry → Type 0
MakesLive of_each shape tag sb now live.NotVictim seen =
    (seen ≡ now) × of_each (λ base. victim_of base now ≢ Some sb)
MakesLive of_each shape tag sb now live.NoneLive seen =
    (seen ≡ now)
    × of_each (λ base. (victim_of base now ≡ Some sb) × (live_of base now sb ≡ 0))
MakesLive of_each shape tag sb now (live.Found look) seen =
    MakesLook shape tag look.row now (Found look) seen
    × of_each (λ base. (victim_of base now ≡ Some sb)
    × (first_live_in (rows_of base now) sb ≡ Some look.slot))

-- an erase adds its entry, where the victim may be erased
abbrev pub MakesErase : (BaseFact → Type 0) → Tag → ℕ → List Entry → EraseAnswer → List Entry →
    Type 0
MakesErase of_each tag sb now erase.NotVictim seen =
    (seen ≡ now) × of_each (λ base. victim_of base now ≢ Some sb)
MakesErase of_each tag sb now (erase.Live count) seen =
    (seen ≡ now) × (0 < count)
    × of_each (λ base. (victim_of base now ≡ Some sb) × (count ≡ live_of base now sb))
MakesErase of_each tag sb now (erase.Pinned count) seen =
    (seen ≡ now) × (0 < count)
    × of_each (λ base. (victim_of base now ≡ Some sb) × (live_of base now sb ≡ 0)
    × (count ≡ pins_of now sb))
MakesErase of_each tag sb now erase.Erased seen =
    (seen ≡ entry_of tag (Kind.Erase sb) ∷ now) × of_each (λ base. MayErase base now sb)
MakesErase of_each tag sb now (erase.FailedErase die) seen =
    (seen ≡ entry_of tag (Kind.BadErase sb die false) ∷ now)
    × of_each (λ base. MayErase base now sb)
MakesErase of_each tag sb now (erase.DieFault die) seen =
    (seen ≡ entry_of tag (Kind.BadErase sb die true) ∷ now)
    × of_each (λ base. MayErase base now sb)

-- a note adds what it tells
abbrev pub MakesNote : Tag → List Entry → Note → List Entry → Type 0
MakesNote tag now note seen =
    seen ≡ entry_of tag (Kind.Note note.free note.victim note.live note.pins note.garbage) ∷ now
