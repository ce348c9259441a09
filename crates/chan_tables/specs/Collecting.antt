-- When may a superblock be picked, when does a collection find a live page in the victim, and when may it erase the victim?
use Rattle.std.specs.Prelude.{ℕ, ◌≡◌, ◌≢◌, ◌<◌, IsTrue, List, Some, None}
use Rattle.ssd_histories.specs.Blocks.{free_blocks_in, victim_in}
use Rattle.ssd_histories.specs.OpenLooks.{looks_in}
use Rattle.ssd_histories.specs.PageMap.{first_live_in, live_in, row_at}
use Rattle.ssd_histories.specs.Policies.{count_of_candidates}
use Rattle.ssd_histories.specs.Ranges.{has_row}
use Rattle.ssd_geo.specs.declared.base.BlockBase.{BlockBase}
use Rattle.ssd_geo.specs.declared.look.Look.{Look}
use Rattle.ssd_geo.specs.declared.row.Row.{Row}
use Rattle.ssd_geo.specs.declared.tag.Tag.{Tag}
use Rattle.chan_tables.specs.TablesState.{LooksIn, TablesState, table_of}
use Rattle.chan_tables.specs.declared.answers.LiveAnswer.{LiveAnswer}
use Rattle.chan_tables.specs.declared.answers.LiveAnswer.TheVariants.{NotVictim, NoneLive, Found}
use Rattle.chan_tables.specs.declared.answers.LookAnswer.TheVariants as looks
use Rattle.chan_tables.specs.declared.rooms.EraseRoom.{EraseRoom}
use Rattle.chan_tables.specs.declared.rooms.EraseRoom.TheVariants as erase
use Rattle.chan_tables.specs.declared.rooms.PickRoom.{PickRoom}
use Rattle.chan_tables.specs.declared.rooms.PickRoom.TheVariants as pick

-- when each answer comes of what may be picked: just one of the cases holds
abbrev pub IsPickRoom : TablesState → PickRoom → Type 0
IsPickRoom tables (pick.Busy sb) = victim_in tables.blocks ≡ Some sb
IsPickRoom tables pick.ReadOnly = (victim_in tables.blocks ≡ None) × (free_blocks_in tables.blocks ≡ 0)
IsPickRoom tables pick.NoGarbage =
    (victim_in tables.blocks ≡ None) × (0 < free_blocks_in tables.blocks) × (count_of_candidates (table_of tables) ≡ 0)
IsPickRoom tables pick.Candidates =
    (victim_in tables.blocks ≡ None) × (0 < free_blocks_in tables.blocks) × (0 < count_of_candidates (table_of tables))

-- a row names the live slot of least index in a superblock
abbrev pub NamesFirstLive : List Row → ℕ → Row → Type 0
NamesFirstLive rows sb (Row.Page slot serial) = first_live_in rows sb ≡ Some slot
NamesFirstLive rows sb _ = ⊥

-- a look of the victim's first live page is one of the row that names it; elsewhere no entry is added
abbrev pub LooksLiveIn : TablesState → TablesState → Tag → ℕ → LiveAnswer → Type 0
LooksLiveIn old new tag sb NotVictim = (victim_in old.blocks ≢ Some sb) × (new ≡ old)
LooksLiveIn old new tag sb NoneLive = (victim_in old.blocks ≡ Some sb) × (live_in old.rows sb ≡ 0) × (new ≡ old)
LooksLiveIn old new tag sb (Found look) =
    (victim_in old.blocks ≡ Some sb) × (first_live_in old.rows sb ≡ Some look.slot) × (look.row < old.shape.rows)
    × IsTrue (has_row old.shape (row_at old.rows look.row)) × LooksIn old new tag look.row (looks.Found look)

-- a superblock may be erased: it is the victim, it has no live page, and no open look stands in it
pub record MayErase (blocks : List BlockBase) (rows : List Row) (looks : List (Tag × Look)) (sb : ℕ) : Type 0 where
  pub is_victim : victim_in blocks ≡ Some sb
  pub none_live : live_in rows sb ≡ 0
  pub none_open : looks_in looks sb ≡ 0

-- when each answer comes of what may be erased: just one of the cases holds
abbrev pub IsEraseRoom : List BlockBase → List Row → List (Tag × Look) → ℕ → EraseRoom → Type 0
IsEraseRoom blocks rows looks sb erase.NotVictim = victim_in blocks ≢ Some sb
IsEraseRoom blocks rows looks sb (erase.Live count) =
    (victim_in blocks ≡ Some sb) × (count ≡ live_in rows sb) × (0 < count)
IsEraseRoom blocks rows looks sb (erase.Pinned count) =
    (victim_in blocks ≡ Some sb) × (live_in rows sb ≡ 0) × (count ≡ looks_in looks sb) × (0 < count)
IsEraseRoom blocks rows looks sb erase.May = MayErase blocks rows looks sb
