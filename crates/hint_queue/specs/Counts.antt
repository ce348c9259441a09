-- What is told between the threads beside the queue? Word 0 counts the pages that were pushed, and the word after that of
-- a number the pages of the pass with that number that were taken. Who pushed or took a page adds one.
use Rattle.std.specs.Prelude.{◌≡◌, ◌≢◌, ◌⊎◌, ◌==◌, ◌+◌, ◌-◌, ◌%◌, ◌^◌, ◌++◌, ◌<◌, ◌≤◌, ℕ, cond, List, [], ◌∷◌, length, slice_index}
use Rattle.std.specs.List.{count_by, sum_by}
use mathlib.Core.Option.{some}
use lib.ListN.{get_elem?}
use Rattle.atomic_table.specs.Table.{Me, State, Step}
use Rattle.hint_queue.specs.declared.counts.Sight.{Sight}
use Rattle.hint_queue.specs.declared.counts.Tally.{Tally}

-- how often one was added to a word
abbrev pub times : ℕ → List ℕ → ℕ
times word told = count_by (λ other. other == word) told

-- how often all added one to a word
abbrev pub all_times : ℕ → List Tally → ℕ
all_times word tallies = sum_by (λ tally. times word tally.told) tallies

-- no word had more than all told
abbrev pub AreBelow : (ℕ → ℕ) → List Sight → Type 0
AreBelow most [] = Unit {0}
AreBelow most (sight ∷ sights) = (sight.count ≤ most sight.word) × AreBelow most sights

pub record FitsTally (shares : ℕ) (tallies : List Tally) (tally : Tally) : Type 0 where
  pub total : (tally.share ≡ 0) ⊎ (tally.total ≡ shares)
  pub tells : tally.share ≡ 0 → tally.told ≡ []
  pub seen : AreBelow (λ word. all_times word tallies) tally.seen

-- each word has as many as all told, modulo 2^64
pub record IsCounted (s : State ℕ Tally) : Type 0 where
  pub total : ℕ
  pub shares : sum_by (λ tally. tally.share) s.views ≡ total
  pub words : (word : ℕ) → word < length s.words → slice_index s.words word ≡ all_times word s.views % 2 ^ 64
  pub each_seat : (seat : ℕ) (tally : Tally) → get_elem? s.views seat ≡ some tally → FitsTally total s.views tally

abbrev pub first_tally : ℕ → Tally
first_tally passes = record { total = passes; share = passes; told = []; seen = [] }

abbrev pub no_tally : Tally
no_tally = record { total = 0; share = 0; told = []; seen = [] }

abbrev pub one_share : ℕ → Tally
one_share total = record { total = total; share = 1; told = []; seen = [] }

-- a seat that gave a share away, and the seat that has it
abbrev pub share_left : Tally → Tally
share_left tally = record tally { share = tally.share - 1 }

abbrev pub share_right : Tally → Tally
share_right tally = one_share tally.total

abbrev pub united : Tally → Tally → Tally
united one other = record {
  total = one.total;
  share = other.share + one.share;
  told = other.told ++ one.told;
  seen = other.seen ++ one.seen;
}

abbrev pub telling : ℕ → Tally → Tally
telling word tally = record tally { told = tally.told ++ word ∷ [] }

abbrev pub seeing : ℕ → ℕ → Tally → Tally
seeing word count tally = record tally { seen = (record { word = word; count = count }) ∷ tally.seen }

-- what a seat found last in a word
abbrev pub seen_in : ℕ → List Sight → ℕ
seen_in word [] = 0
seen_in word (sight ∷ sights) = cond (sight.word == word) sight.count (seen_in word sights)

abbrev pub Teller : Type 0
Teller = Me ℕ Tally

abbrev pub Tells : Step ℕ → Teller → ℕ → Teller → Type 0
Tells s me found after = after ≡ (telling s.word me.0, me.1)

abbrev pub Looks : Step ℕ → Teller → ℕ → Teller → Type 0
Looks s me found after = after ≡ (seeing s.word found me.0, me.1)

-- a seat with all shares told all that was told
abbrev pub Settles : Step ℕ → Teller → ℕ → Teller → Type 0
Settles s me found after =
    (after ≡ me) × (1 ≤ me.0.share → me.0.total ≤ me.0.share → AreBelow (λ word. times word me.0.told) me.0.seen)

-- a seat saw a count in this range in a word, and is else as it was
pub record HasSeen (before after : Teller) (word least most : ℕ) : Type 0 where
  pub total : after.0.total ≡ before.0.total
  pub share : after.0.share ≡ before.0.share
  pub told : after.0.told ≡ before.0.told
  pub slots : after.1 ≡ before.1
  pub least_is : least ≤ seen_in word after.0.seen
  pub most_is : seen_in word after.0.seen ≤ most
  pub others : (other : ℕ) → other ≢ word → seen_in other after.0.seen ≡ seen_in other before.0.seen
