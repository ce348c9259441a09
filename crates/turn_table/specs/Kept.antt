-- What holds of a lock between any two of its steps? The passes that have drawn a ticket stand in a queue, in the order
-- of their tickets. The value at home stands for the history, of which each pass has seen a beginning.
use Rattle.std.specs.Prelude.{◌≡◌, ◌⊎◌, ℕ, ◌+◌, ◌-◌, ◌%◌, ◌^◌, ◌<◌, ◌≤◌, List, [], ◌∷◌, length, Option, Some}
use Rattle.std.specs.List.{All}
use mathlib.Core.Option as slot
use lib.ListN.{get_elem?}
use Rattle.atomic_table.specs.Table.{State}
use Rattle.ssd_geo.specs.declared.entry.Entry.{Entry}
use Rattle.turn_table.specs.Passes.{GoesOn, Has, entries_by}
use Rattle.turn_table.specs.Views.{numbers_in}
use Rattle.turn_table.specs.declared.view.Part.{Part}
use Rattle.turn_table.specs.declared.view.Stage.{Stage}
use Rattle.turn_table.specs.declared.view.Stage.TheVariants.{Away, Waiting, InTurn}
use Rattle.turn_table.specs.declared.view.View.{View}

-- no number stands twice
abbrev pub AreApart : List ℕ → Type 0
AreApart [] = Unit {0}
AreApart (number ∷ numbers) = (Has numbers number → ⊥) × AreApart numbers

-- a list goes on from what each of these passes had seen
abbrev pub EachGoesOn : List Part → List Entry → Type 0
EachGoesOn [] list = Unit {0}
EachGoesOn (part ∷ parts) list = GoesOn part.numbers part.seen list × EachGoesOn parts list

-- where the passes of a lock stand: how many have a number, the ticket that is served, the numbers of those that have a
-- ticket, in the tickets' order, the history, and the seat of each number
pub record Standing : Type 0 where
  pub passes : ℕ
  pub serving : ℕ
  pub queue : List ℕ
  pub history : List Entry
  pub seat_of : ℕ → ℕ

-- no seat has had this number yet, and this one may give it
pub record IsUnused (now : Standing) (seat : ℕ) (view : View) (number : ℕ) : Type 0 where
  pub below : number < now.passes
  pub seat_is : now.seat_of number ≡ seat
  pub no_entry : entries_by number now.history ≡ []
  pub not_own : Has (numbers_in view) number → ⊥
  pub not_queued : Has now.queue number → ⊥

module _ {V : Type 0} where
  -- a place of the queue is that of the pass's ticket; a pass in turn has the first, has seen the history, and its seat
  -- has the slot
  abbrev pub FitsStage : Standing → slot.Option (Option V) → View → Stage → Type 0
  FitsStage now home view Away = Has now.queue view.number → ⊥
  FitsStage now home view (Waiting ticket) =
      (now.serving ≤ ticket) × (get_elem? now.queue (ticket - now.serving) ≡ slot.some view.number)
  FitsStage now home view InTurn =
      (get_elem? now.queue 0 ≡ slot.some view.number) × (now.history ≡ view.seen) × (home ≡ slot.none)

  -- what a seat knows is so
  pub record Fits (now : Standing) (home : slot.Option (Option V)) (seat : ℕ) (view : View) : Type 0 where
    pub numbered : (view.number < now.passes) ⊎ (view.number ≡ 255)
    pub own : (number : ℕ) → Has (numbers_in view) number → number < now.passes → now.seat_of number ≡ seat
    pub gives_apart : AreApart view.gives
    pub to_give : (number : ℕ) → Has view.gives number → IsUnused now seat view number
    pub goes_on : GoesOn (numbers_in view) view.seen now.history
    pub joined : EachGoesOn view.joined view.seen
    pub stage : FitsStage now home view view.stage

  -- the slot is away only while a pass is in turn; at home its value stands for the history and the start
  abbrev pub FitsHome : {S : Type 0} → (V → List Entry) → (V → S) → S → List Entry → List View → slot.Option (Option V) → Type 0
  FitsHome entries start begun history views slot.none =
      (seat : ℕ) × (view : View) × (get_elem? views seat ≡ slot.some view) × (view.stage ≡ InTurn)
  FitsHome entries start begun history views (slot.some held) =
      (value : V) × (held ≡ Some value) × (entries value ≡ history) × (start value ≡ begun)

  -- word 0 is the ticket that is drawn next, and word 1 the one that is served
  pub record IsKept {S : Type 0} (entries : V → List Entry) (start : V → S) (passes : ℕ) (begun : S) (s : State (Option V) View) : Type 0 where
    pub now : Standing
    pub home : slot.Option (Option V)
    pub count : now.passes ≡ passes
    pub few : passes ≤ 32
    pub words : s.words ≡ ((now.serving + length now.queue) % 2 ^ 64) ∷ (now.serving % 2 ^ 64) ∷ []
    pub homes : s.homes ≡ home ∷ []
    pub apart : AreApart now.queue
    pub below : (number : ℕ) → Has now.queue number → number < passes
    pub actors : All (λ entry. entry.tag.actor < passes) now.history
    pub at_home : FitsHome entries start begun now.history s.views home
    pub each_seat : (seat : ℕ) (view : View) → get_elem? s.views seat ≡ slot.some view → Fits now home seat view
