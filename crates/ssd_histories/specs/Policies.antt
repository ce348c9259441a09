-- Which superblock does a policy pick? A table has what a policy is told of each superblock of a channel, in the order
-- of their numbers. A view is what a policy goes by: its kind and a list of superblocks. The policies are this
-- project's own.
use Rattle.std.specs.Prelude.{ℕ, ◌-◌, ◌==◌, nat_lt, nat_le, Bool, true, not, ◌&&◌, ◌||◌, Option, Some, None, unwrap_or, List, [], ◌∷◌, ◌++◌, length, map, count_by, position, find, filter, slice_index_or}
use Rattle.std.specs.List.{list_all, list_any, range_with_len}
use Rattle.ssd_histories.specs.States.{is_sealed}
use Rattle.ssd_histories.specs.Blocks.{block_at, first_some}
use Rattle.ssd_histories.specs.PageMap.{live_in}
use Rattle.ssd_histories.specs.OpenLooks.{looks_in}
use Rattle.ssd_geo.specs.declared.base.BlockBase.{BlockBase}
use Rattle.ssd_geo.specs.declared.look.Look.{Look}
use Rattle.ssd_geo.specs.declared.policy_view.PolicyKind.{PolicyKind}
use Rattle.ssd_geo.specs.declared.policy_view.PolicyKind.TheVariants.{Greedy, Oldest, RoundRobin}
use Rattle.ssd_geo.specs.declared.policy_view.PolicyView.{PolicyView}
use Rattle.ssd_geo.specs.declared.row.Row.{Row}
use Rattle.ssd_geo.specs.declared.superblock.SbInfo.{SbInfo}
use Rattle.ssd_geo.specs.declared.superblock.SbState.TheVariants.{Bad}
use Rattle.ssd_geo.specs.declared.tag.Tag.{Tag}

-- what a policy is told of one superblock
abbrev pub info_of : ℕ → List BlockBase → List Row → List (Tag × Look) → ℕ → SbInfo
info_of slots blocks rows pins sb = record {
  state = (block_at blocks sb).state;
  live = live_in rows sb;
  slots = slots;
  erases = (block_at blocks sb).erases;
  pins = looks_in pins sb;
}

-- the table of a channel: its superblocks, with the pages that its rows name and its open looks
abbrev pub table_in : ℕ → List BlockBase → List Row → List (Tag × Look) → List SbInfo
table_in slots blocks rows pins = map (info_of slots blocks rows pins) (range_with_len 0 (length blocks))

-- how many slots of a superblock no row names
abbrev pub garbage_in : SbInfo → ℕ
garbage_in info = info.slots - info.live

-- whether a superblock may be picked: it is sealed and has garbage
abbrev pub is_candidate : SbInfo → Bool
is_candidate info = is_sealed info.state && nat_lt info.live info.slots

-- how many superblocks are sealed and have garbage
abbrev pub count_of_candidates : List SbInfo → ℕ
count_of_candidates table = count_by is_candidate table

-- whether another superblock isn't a candidate, or has at most as much garbage as this one
abbrev pub has_no_more_garbage : SbInfo → SbInfo → Bool
has_no_more_garbage info other = not (is_candidate other) || nat_le (garbage_in other) (garbage_in info)

-- whether a superblock is a candidate, and no candidate of the table has more garbage
abbrev pub has_most_garbage : List SbInfo → SbInfo → Bool
has_most_garbage table info = is_candidate info && list_all (has_no_more_garbage info) table

-- the candidate with the most garbage, the least number among equals
abbrev pub default_victim_of : List SbInfo → Option ℕ
default_victim_of table = position (has_most_garbage table) table

-- a superblock that is no candidate
abbrev pub no_info : SbInfo
no_info = record { state = Bad; live = 0; slots = 0; erases = 0; pins = 0 }

-- whether the superblock with this number is in the table and a candidate
abbrev pub is_candidate_at : List SbInfo → ℕ → Bool
is_candidate_at table sb = is_candidate (slice_index_or table sb no_info)

-- the numbers of all candidates, rising
abbrev pub candidates : List SbInfo → List ℕ
candidates table = filter (is_candidate_at table) (range_with_len 0 (length table))

-- whether a list of superblocks lacks this one
abbrev pub is_missing : List ℕ → ℕ → Bool
is_missing list sb = not (list_any (λ other. other == sb) list)

-- whether a superblock comes after the last answer: each does where there was none
abbrev pub is_after_last : List ℕ → ℕ → Bool
is_after_last [] sb = true
is_after_last (last ∷ rest) sb = nat_lt last sb

-- the superblock that a view picks, if there is a candidate. Greedy: the default victim. Oldest: the least candidate
-- that isn't in the list of erased superblocks, else the candidate that stands first in it. RoundRobin: the first
-- candidate after its last answer, else the first of all.
abbrev pub choice_by : PolicyKind → List ℕ → List SbInfo → Option ℕ
choice_by Greedy list table = default_victim_of table
choice_by Oldest list table =
    first_some (find (is_missing list) (candidates table)) (find (is_candidate_at table) list)
choice_by RoundRobin list table =
    first_some (find (is_after_last list) (candidates table)) (find (λ _. true) (candidates table))

abbrev pub choice_of : PolicyView → List SbInfo → Option ℕ
choice_of view table = choice_by view.kind view.list table

-- the answer of a view: the superblock that it picks, or 65,535 without a candidate
abbrev pub answer_of : PolicyView → List SbInfo → ℕ
answer_of view table = unwrap_or (choice_of view table) 65535

-- the list of a view after a pick: RoundRobin's is its answer, where it picked a superblock
abbrev pub list_after_choice : PolicyKind → List ℕ → Option ℕ → List ℕ
list_after_choice Greedy list choice = list
list_after_choice Oldest list choice = list
list_after_choice RoundRobin list None = list
list_after_choice RoundRobin list (Some sb) = sb ∷ []

-- a view after a pick
abbrev pub view_after_pick : PolicyView → List SbInfo → PolicyView
view_after_pick view table =
    record { kind = view.kind; list = list_after_choice view.kind view.list (choice_of view table) }

-- a list of superblocks with one of them moved to its end, or put there
abbrev pub moved_to_end : List ℕ → ℕ → List ℕ
moved_to_end list sb = filter (λ other. not (other == sb)) list ++ sb ∷ []

-- the list of a view after an erase: Oldest has the superblock at its end
abbrev pub list_after_erase : PolicyKind → List ℕ → ℕ → List ℕ
list_after_erase Greedy list sb = list
list_after_erase Oldest list sb = moved_to_end list sb
list_after_erase RoundRobin list sb = list

-- a view after the erase of a superblock
abbrev pub view_after_erase : PolicyView → ℕ → PolicyView
view_after_erase view sb = record { kind = view.kind; list = list_after_erase view.kind view.list sb }

-- the view of a policy that was just made
abbrev pub first_view : PolicyKind → PolicyView
first_view kind = record { kind = kind; list = [] }
