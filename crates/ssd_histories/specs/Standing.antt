-- What may a channel begin with, and which histories may it then have? A start is as an image gives it: the superblocks,
-- rows and sum fit each other, and the dies have the pages that are due. A history of a start is lawful and follows the
-- policy's view where that is told; and for each entry that tells of a failed call of a die, that die counted a fault.
use Rattle.std.specs.Prelude.{pos, neg_ℤ, int_le, int_lt, ℕ, ◌≡◌, ◌^◌, ◌-◌, ◌%◌, ◌≤◌, ◌<◌, ◌==◌, nat_lt, Bool, true, false, ◌&&◌, not, IsTrue, List, length, All, count_by, slice_index_or, Option, Some, None, option_map}
use Rattle.std.specs.List.{list_all, list_any}
use Rattle.ssd_geo.specs.Limits.{page_cells_of}
use Rattle.ssd_geo.specs.Shape.{sizes_of}
use Rattle.ssd_geo.specs.BaseMatrix as BaseMatrix
use Rattle.ssd_histories.specs.Blocks.{AreSound, block_at}
use Rattle.ssd_histories.specs.CallSteps.{failed_die}
use Rattle.ssd_geo.specs.Coding.{matrix_of, word_bytes_in}
use Rattle.ssd_geo.specs.Codewords.{IsCodeword}
use Rattle.ssd_geo.specs.PageWord.{code_in}
use Rattle.ssd_geo.specs.Faults.{RoseBy}
use Rattle.ssd_histories.specs.FollowedViews.{FollowsTold, view_of}
use Rattle.ssd_histories.specs.Lawful.{IsLawful}
use Rattle.ssd_geo.specs.Limits.{is_level, is_within}
use Rattle.ssd_histories.specs.PageMap.{NameApart, NameWithin}
use Rattle.ssd_histories.specs.PastBlocks.{slots_in}
use Rattle.ssd_histories.specs.Start.{Start, cells_at_start}
use Rattle.ssd_histories.specs.States as States
use Rattle.ssd_geo.specs.StripeSum.{zero_word}
use Rattle.ssd_geo.specs.Superblock.{due_pages}
use Rattle.ssd_geo.specs.declared.base.ChannelBase.{ChannelBase}
use Rattle.ssd_geo.specs.declared.entry.Entry.{Entry}
use Rattle.ssd_geo.specs.declared.policy_view.PolicyView.{PolicyView}
use Rattle.ssd_geo.specs.declared.row.Row.{Row}
use Rattle.ssd_geo.specs.declared.shape.Shape.{Shape}
use Rattle.ssd_geo.specs.declared.tag.Tag.{Tag}
use Rattle.ssd_geo.specs.declared.weak.Weak.{Weak}

-- how many entries tell of a failed call of a die
abbrev pub is_fault_of : ℕ → Entry → Bool
is_fault_of die entry = elim (failed_die entry.kind) [ Some named ↦ named == die | None ↦ false ]

abbrev pub faults_of : ℕ → List Entry → ℕ
faults_of die past = count_by (is_fault_of die) past

-- a count of a die, by its number
abbrev pub count_at : List ℕ → ℕ → ℕ
count_at counts die = slice_index_or counts die 0

-- whether a row, if it names a slot, names a used one
abbrev pub names_used : ChannelBase → Row → Bool
names_used base (Row.Page slot serial) = nat_lt slot.index (block_at base.blocks slot.sb).used
names_used base _ = true

-- a block of a superblock has the pages that are due: just these and the base's erases where the superblock isn't bad,
-- and at least these where it is; each page has a level for each cell
pub record IsDueBlock (start : Start) (die sb : ℕ) : Type 0 where
  pub at_least : due_pages start.base.shape.dies sb (block_at start.base.blocks sb).used die ≤ length (cells_at_start start die sb).pages
  pub at_most : length (cells_at_start start die sb).pages ≤ start.base.shape.pages
  pub exact :
      IsTrue (not (States.is_bad (block_at start.base.blocks sb).state))
      → length (cells_at_start start die sb).pages ≡ due_pages start.base.shape.dies sb (block_at start.base.blocks sb).used die
  pub erases :
      IsTrue (not (States.is_bad (block_at start.base.blocks sb).state))
      → (cells_at_start start die sb).erases ≡ (block_at start.base.blocks sb).erases
  pub whole : All (λ levels. length levels ≡ page_cells_of (sizes_of start.base.shape)) (cells_at_start start die sb).pages

-- whether a stripe of the base is open: the frontier's, with some of its slots used
abbrev pub has_open_stripe : ChannelBase → Bool
has_open_stripe base =
    list_any (λ block. States.is_frontier block.state && not (block.used % (base.shape.dies - 1) == 0)) base.blocks

-- whether a weak block is one of the channels' blocks
abbrev pub is_weak_block : Shape → Weak → Bool
is_weak_block shape weak =
    nat_lt weak.channel shape.channels && nat_lt weak.die shape.dies && nat_lt weak.sb shape.superblocks

-- what a base has from the head of its image is in range
pub record HasFields (base : ChannelBase) : Type 0 where
  pub channel : base.channel < base.shape.channels
  pub session : base.session < 2 ^ 24
  pub matrix : BaseMatrix.IsAccepted (matrix_of base)
  pub levels_count : IsTrue (is_within 1 16 (length base.read_levels))
  pub levels : IsTrue (list_all is_level base.read_levels)
  pub iterations : IsTrue (is_within 1 64 base.iterations)
  pub step : IsTrue (is_within 1 2047 base.step)
  pub erased : IsTrue (int_le (neg_ℤ (pos 8192)) base.law.erased && int_le base.law.erased (pos 8190))
  pub programmed : IsTrue (int_lt base.law.erased base.law.programmed && int_le base.law.programmed (pos 8191))
  pub spread : base.law.spread ≤ 4095
  pub weak : IsTrue (list_all (is_weak_block base.shape) base.weak)

-- a channel may begin with this start
pub record IsStart (start : Start) : Type 0 where
  pub blocks_count : length start.base.blocks ≡ start.base.shape.superblocks
  pub blocks_sound : AreSound (slots_in start.base) start.base.blocks
  pub few_erases : All (λ block. block.erases ≤ 2 ^ 31) start.base.blocks
  pub rows_count : length start.base.rows ≡ start.base.shape.rows
  pub rows_within : NameWithin start.base.shape.superblocks (slots_in start.base) start.base.rows
  pub rows_apart : NameApart start.base.rows
  pub rows_used : All (λ row. IsTrue (names_used start.base row)) start.base.rows
  pub sum_bytes : length start.base.sum ≡ word_bytes_in start.base.shape
  pub sum_of_none : IsTrue (not (has_open_stripe start.base)) → start.base.sum ≡ zero_word (word_bytes_in start.base.shape)
  pub sum_codewords :
      (f : ℕ) → f < start.base.shape.words → IsCodeword (matrix_of start.base) (code_in (sizes_of start.base.shape) start.base.sum f)
  pub fields : HasFields start.base
  pub limit_low : 256 ≤ start.limit
  pub limit_high : start.limit ≤ 2 ^ 22
  pub dies_count : length start.cells ≡ start.base.shape.dies
  pub blocks_due : (die sb : ℕ) → die < start.base.shape.dies → sb < start.base.shape.superblocks → IsDueBlock start die sb

-- a past is one that a channel may have from a start, with the data of writes that the contents give
pub record IsPastOf (start : Start) (contents : List (Tag × List ℕ)) (past : List Entry) : Type 0 where
  pub is_start : IsStart start
  pub is_lawful : IsLawful start contents past
  pub follows : FollowsTold start.base start.view past

-- the view that a policy tells after a past, where it is told
abbrev pub view_told : Start → List Entry → Option PolicyView
view_told start past = option_map (λ view. view_of start.base view past) start.view

-- the counts of faults of a die after a past: the work count rose by at least the entries that tell of its faults, and stays
-- where none does; the load count stays
pub record CountsFaults (start : Start) (past : List Entry) (die work load : ℕ) : Type 0 where
  pub work_rose : RoseBy (faults_of die past) (count_at start.work_faults die) work
  pub work_stays : faults_of die past ≡ 0 → work ≡ count_at start.work_faults die
  pub load_stays : load ≡ count_at start.load_faults die
