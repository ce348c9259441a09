-- Which choices does a history make that no rule makes for it? A pick chooses its superblock, and a call of a die may fail. Two
-- histories choose alike where, whenever both came to the same past, their next entries make the same choice.
use Rattle.std.specs.Prelude.{ℕ, ◌≡◌, List, ◌∷◌, ◌++◌, Option, Some, None}
use Rattle.ssd_histories.specs.CallSteps.{failed_die}
use Rattle.ssd_geo.specs.declared.entry.Entry.{Entry}
use Rattle.ssd_geo.specs.declared.kind.Kind.{Kind}

-- the superblock that an entry picks, if it is a pick
abbrev pub picked_by : Kind → Option ℕ
picked_by (Kind.Pick sb) = Some sb
picked_by _ = None

-- two entries choose alike: where both are picks they pick the same superblock, and the same die's call failed in them, or none
pub record IsSameChoice (first second : Kind) : Type 0 where
  pub same_pick : (sb named : ℕ) → picked_by first ≡ Some sb → picked_by second ≡ Some named → sb ≡ named
  pub same_die : failed_die first ≡ failed_die second

-- a past came to a later one by the entries after it
pub record ComesTo (past now : List Entry) : Type 0 where
  pub newer : List Entry
  pub is : now ≡ newer ++ past

-- two histories make the same choice wherever both came to the same past
abbrev pub ChooseAlike : List Entry → List Entry → Type 0
ChooseAlike one other =
    (past : List Entry) (first second : Entry) → ComesTo (first ∷ past) one → ComesTo (second ∷ past) other →
    IsSameChoice first.kind second.kind
