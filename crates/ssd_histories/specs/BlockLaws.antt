-- How many frontiers and victims can a channel have? At most one of each, at every position of a lawful history, if it
-- is so at the start. Each law is the contract of a function without a body.
use Rattle.std.specs.Prelude.{ℕ, ◌≡◌, ◌<◌, Bool, true, List, [], ◌∷◌}
use Rattle.ssd_geo.specs.Ladder.{LadderState}
use Rattle.ssd_histories.specs.Lawful.{IsLawfulBy}
use Rattle.ssd_histories.specs.Blocks.{with_erased, with_next_used, with_retired, with_victim}
use Rattle.ssd_histories.specs.PastBlocks.{blocks_of, slots_in, state_of}
use Rattle.ssd_histories.specs.States.{is_frontier, is_victim}
use Rattle.ssd_geo.specs.declared.base.BlockBase.{BlockBase}
use Rattle.ssd_geo.specs.declared.base.ChannelBase.{ChannelBase}
use Rattle.ssd_geo.specs.declared.entry.Entry.{Entry}
use Rattle.ssd_geo.specs.declared.kind.Kind.{Kind}
use Rattle.ssd_geo.specs.declared.superblock.SbState.{SbState}

-- two superblocks of which both are in a state are one
abbrev pub AtMostOne : (SbState → Bool) → ChannelBase → List Entry → Type 0
AtMostOne test base past =
    (a b : ℕ) → a < base.shape.superblocks → b < base.shape.superblocks → test (state_of base past a) ≡ true → test (state_of base past b) ≡ true → a ≡ b

-- a lawful history has at most one frontier
abbrev pub OneFrontier : Type 0
OneFrontier =
    (ladder : List Entry → ℕ → LadderState) (base : ChannelBase) (past : List Entry) →
    AtMostOne is_frontier base [] → IsLawfulBy ladder base past → AtMostOne is_frontier base past

-- and at most one victim
abbrev pub OneVictim : Type 0
OneVictim =
    (ladder : List Entry → ℕ → LadderState) (base : ChannelBase) (past : List Entry) →
    AtMostOne is_victim base [] → IsLawfulBy ladder base past → AtMostOne is_victim base past

-- the superblocks after an entry, from those before: the words are those of a table that is kept
abbrev pub blocks_after : ℕ → Kind → List BlockBase → List BlockBase
blocks_after slots (Kind.Write row slot) blocks = with_next_used slots blocks
blocks_after slots (Kind.Move at slot) blocks = with_next_used slots blocks
blocks_after slots (Kind.BadWrite row slot die fault) blocks = with_retired blocks slot.sb
blocks_after slots (Kind.BadCopy at slot die fault) blocks = with_retired blocks slot.sb
blocks_after slots (Kind.BadErase sb die fault) blocks = with_retired blocks sb
blocks_after slots (Kind.Pick sb) blocks = with_victim blocks sb
blocks_after slots (Kind.Erase sb) blocks = with_erased blocks sb
blocks_after slots kind blocks = blocks

-- the superblocks after one more lawful entry
abbrev pub BlocksAfterEntry : Type 0
BlocksAfterEntry =
    (ladder : List Entry → ℕ → LadderState) (base : ChannelBase) (entry : Entry) (past : List Entry) →
    IsLawfulBy ladder base (entry ∷ past) → blocks_of base (entry ∷ past) ≡ blocks_after (slots_in base) entry.kind (blocks_of base past)
