-- A table whose superblocks got their states, their live pages and their pins is what a policy is told.
use Rattle.std.proofs.Common.{◌≡◌, ℕ, ◌<◌, List, [], length, sym, ◌∙◌, ap, arith}
use Rattle.std.proofs.lemmas.List.{ext_get_or}
use Rattle.std.proofs.lemmas.List.FromFn.{get_or-map-range_with_len, length-map-range_with_len}
use Rattle.ssd_histories.specs.Blocks.{block_at}
use Rattle.ssd_histories.specs.OpenLooks.{looks_in}
use Rattle.ssd_histories.specs.PageMap.{live_in}
use Rattle.ssd_histories.specs.Policies.{info_of, no_info, table_in}
use Rattle.ssd_geo.specs.declared.base.BlockBase.{BlockBase}
use Rattle.ssd_geo.specs.declared.look.Look.{Look}
use Rattle.ssd_geo.specs.declared.row.Row.{Row}
use Rattle.ssd_geo.specs.declared.superblock.SbInfo.{SbInfo}
use Rattle.ssd_geo.specs.declared.tag.Tag.{Tag}
use Rattle.chan_tables.specs.Filling.{HasLive, HasPins, info_at, info_of_block}

-- a table of superblocks without rows and looks has their states, and counts nothing
pub states_at : (slots : ℕ) (blocks : List BlockBase) (sb : ℕ) → sb < length blocks → info_at (table_in slots blocks [] []) sb ≡ info_of_block slots (block_at blocks sb)
states_at slots blocks sb low = get_or-map-range_with_len (info_of slots blocks [] []) 0 (length blocks) sb sb no_info low (omega arith)

table_count : (slots : ℕ) (blocks : List BlockBase) (rows : List Row) (pins : List (Tag × Look)) → length (table_in slots blocks rows pins) ≡ length blocks
table_count slots blocks rows pins = length-map-range_with_len (info_of slots blocks rows pins) 0 (length blocks)

pub all_states : (slots : ℕ) (blocks : List BlockBase) (infos : List SbInfo) → length infos ≡ length blocks
    → ((sb : ℕ) → sb < length blocks → info_at infos sb ≡ info_of_block slots (block_at blocks sb)) → infos ≡ table_in slots blocks [] []
all_states slots blocks infos count is =
    ext_get_or no_info infos (table_in slots blocks [] []) (count ∙ sym (table_count slots blocks [] []))
    (λ sb low. is sb (omega (arith, low, count)) ∙ sym (states_at slots blocks sb (omega (arith, low, count))))

-- so it has no live page, and no pin once the live pages are counted
pub no_live_first : (slots : ℕ) (blocks : List BlockBase) (infos : List SbInfo) → infos ≡ table_in slots blocks [] [] → (sb : ℕ) → sb < length infos → (info_at infos sb).live ≡ 0
no_live_first slots blocks infos is sb low =
    let count : length infos ≡ length blocks = ap length is ∙ table_count slots blocks [] [] in
    ap {B = ℕ} (λ (list : List SbInfo). (info_at list sb).live) is
    ∙ ap {B = ℕ} (λ (info : SbInfo). info.live) (states_at slots blocks sb (omega (arith, low, count)))

pub no_pins_first : (slots : ℕ) (blocks : List BlockBase) (rows : List Row) (first middle : List SbInfo) → first ≡ table_in slots blocks [] [] → HasLive rows first middle
    → (sb : ℕ) → sb < length middle → (info_at middle sb).pins ≡ 0
no_pins_first slots blocks rows first middle is live sb low =
    let count : length first ≡ length blocks = ap length is ∙ table_count slots blocks [] [] in
    ap {B = ℕ} (λ (info : SbInfo). info.pins) (live.live_is sb (omega (arith, low, live.count)))
    ∙ ap {B = ℕ} (λ (list : List SbInfo). (info_at list sb).pins) is
    ∙ ap {B = ℕ} (λ (info : SbInfo). info.pins) (states_at slots blocks sb (omega (arith, low, count, live.count)))

-- with the live pages and the pins it is the table
pub table_filled : (slots : ℕ) (blocks : List BlockBase) (rows : List Row) (pins : List (Tag × Look)) (first middle last : List SbInfo) → first ≡ table_in slots blocks [] []
    → HasLive rows first middle → HasPins pins middle last → last ≡ table_in slots blocks rows pins
table_filled slots blocks rows pins first middle last is live pinned =
    ext_get_or no_info last (table_in slots blocks rows pins) (counts ∙ sym (table_count slots blocks rows pins)) each
  where
    start : length first ≡ length blocks
    start = ap length is ∙ table_count slots blocks [] []

    counts : length last ≡ length blocks
    counts = pinned.count ∙ live.count ∙ start

    each : (sb : ℕ) → sb < length last → info_at last sb ≡ info_at (table_in slots blocks rows pins) sb
    each sb low =
        let below : sb < length blocks = omega (arith, low, counts) in
        let told : info_at first sb ≡ info_of_block slots (block_at blocks sb) = ap {B = SbInfo} (λ (list : List SbInfo). info_at list sb) is ∙ states_at slots blocks sb below in
        pinned.pins_are sb (omega (arith, low, pinned.count))
        ∙ ap {B = SbInfo} (λ (info : SbInfo). record info { pins = looks_in pins sb }) (live.live_is sb (omega (arith, below, start)))
        ∙ ap {B = SbInfo} (λ (info : SbInfo). record info { live = live_in rows sb; pins = looks_in pins sb }) told
        ∙ sym (get_or-map-range_with_len (info_of slots blocks rows pins) 0 (length blocks) sb sb no_info below (omega arith))
