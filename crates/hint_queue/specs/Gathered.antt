-- What do the seats of one pass know after it took in others?
use Rattle.std.specs.Prelude.{◌≡◌, ◌+◌, ◌≤◌, ◌++◌, ℕ, true, List, [], ◌∷◌, length}
use Rattle.std.specs.List.{sum_by}
use Rattle.crossbeam_queue.specs.Passes.{view}
use Rattle.hint_queue.specs.Counts.{AreBelow, seen_in, times, united}
use Rattle.hint_queue.specs.Orders.{HintPassState, QueueState, pages_of}
use Rattle.hint_queue.specs.Places.{Place, TellerSeat, events, pass_of}
use Rattle.hint_queue.specs.Steps.{parts_of}
use Rattle.hint_queue.specs.declared.counts.Sight.{Sight}
use Rattle.hint_queue.specs.declared.counts.Tally.{Tally}
use Rattle.hint_queue.specs.declared.view.Part.{Part}
use Rattle.hint_queue.specs.declared.view.View.TheVariants.{Has}

-- a part is that of a pass
pub record IsPartOf (pass : HintPassState) (part : Part) : Type 0 where
  pub passes : part.passes ≡ pass.queue.passes
  pub pages : part.pages ≡ pass.queue.pages
  pub number : part.number ≡ pass.number
  pub pushed : part.pushed ≡ pass.pushed
  pub taken : pages_of part.taken ≡ pass.taken

-- these parts are those of these passes
abbrev pub ArePartsOf : List HintPassState → List Part → Type 0
ArePartsOf [] [] = Unit {0}
ArePartsOf [] (part ∷ parts) = ⊥
ArePartsOf (pass ∷ passes) [] = ⊥
ArePartsOf (pass ∷ passes) (part ∷ parts) = IsPartOf pass part × ArePartsOf passes parts

-- where no word had more than this, what a pass knows is so
pub record Knows (sights : List Sight) (pass : HintPassState) : Type 0 where
  pub known : (most : ℕ → ℕ) → AreBelow most sights → pass.known ≤ most (pass.number + 1)
  pub met_full : (most : ℕ → ℕ) → AreBelow most sights → pass.met_full ≡ true → 256 ≤ most 0

abbrev pub EachKnows : List Sight → List HintPassState → Type 0
EachKnows sights [] = Unit {0}
EachKnows sights (pass ∷ passes) = Knows sights pass × EachKnows sights passes

-- a seat at the queue has the parts of these passes, and one at the counts what they told
pub record HasPasses (queue : QueueState) (passes : List HintPassState) (place : Place) (teller : TellerSeat) : Type 0 where
  pub parts : List Part
  pub at_queue : place.table_id ≡ queue.queue
  pub no_slot : place.me.1 ≡ []
  pub view_is : view place ≡ Has parts
  pub are : ArePartsOf passes parts
  pub at_counts : teller.table_id ≡ queue.counts
  pub none_out : teller.me.1 ≡ []
  pub total : teller.me.0.total ≡ queue.passes
  pub share : teller.me.0.share ≡ length passes
  pub told : (word : ℕ) → times word teller.me.0.told ≡ sum_by (events word) parts
  pub know : EachKnows teller.me.0.seen passes

-- the seats of a pass that may take in others
pub record IsWhole (queue : QueueState) (place : Place) (teller : TellerSeat) : Type 0 where
  pub at_queue : place.table_id ≡ queue.queue
  pub no_slot : place.me.1 ≡ []
  pub view_is : view place ≡ Has (parts_of (view place))
  pub at_counts : teller.table_id ≡ queue.counts
  pub none_out : teller.me.1 ≡ []
  pub some_share : 1 ≤ teller.me.0.share
