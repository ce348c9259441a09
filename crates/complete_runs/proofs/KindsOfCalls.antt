-- A fact of each kind of entry that a call makes but for the last of a write, the trim and the ageing is one of each step of the
-- other calls, and of each part of a write before its last.
use Rattle.std.proofs.Common.{◌≡◌, ℕ, Bool, true, false, List, [], ◌∷◌, ◌++◌, sym, subst, inl, inr, All}
use Rattle.std.specs.Prelude.{flat_map}
use Rattle.std.proofs.lemmas.Bool.{and_parts, false≢true}
use Rattle.std.proofs.lemmas.List.Concat.{flat_map-cons}
use Rattle.std.proofs.lemmas.List.Elements.{All-append, All-cons, All-head, All-nil, All-tail}
use Rattle.ssd_geo.specs.Ladder.{LadderState}
use Rattle.ssd_geo.specs.declared.base.ChannelBase.{ChannelBase}
use Rattle.ssd_geo.specs.declared.entry.Entry.{Entry}
use Rattle.ssd_geo.specs.declared.kind.Kind.{Kind}
use Rattle.ssd_histories.specs.CallSteps.{CallStep, is_erase_or_bad_erase, is_leave_of, is_look_at_row, is_look_of_none, is_look_of_page, is_pick, is_sense_of, position_of}
use Rattle.ssd_histories.specs.CallsInOrder.{AreRefreshes, IsSomeRefresh, OnOwnChannel}
use Rattle.ssd_histories.specs.Copies.{IsCopy, IsLookList, IsRead, IsRefresh, is_lone_look, is_refreshed}
use Rattle.ssd_histories.specs.Lawful.{is_fault_sense_of}
use Rattle.ssd_histories.specs.Rounds.{IsCollect, IsIdleRound, IsLeftRound, IsRound, IsVictimCopy, IsWritePart, is_at_most_one, is_failed_write, is_idle_note, is_note, is_one}
use Rattle.recovery_laws.proofs.LookLists.{each_of_end, each_of_look}
use Rattle.serial_laws.proofs.LookLists.{copy_ends, is_end_kind, refresh_ends}

-- the kinds have the fact: looks, senses, leaves and what ends a copy, picks and erases, notes, and writes that answered FAIL
pub record HasKinds (P : Kind → Type 0) : Type 0 where
  pub look_of_page : (kind : Kind) → is_look_of_page kind ≡ true → P kind
  pub look_of_none : (kind : Kind) → is_look_of_none kind ≡ true → P kind
  pub sense : (at : ℕ) (kind : Kind) → is_sense_of at kind ≡ true → P kind
  pub fault_sense : (at : ℕ) (kind : Kind) → is_fault_sense_of at kind ≡ true → P kind
  pub leave : (at : ℕ) (kind : Kind) → is_leave_of at kind ≡ true → P kind
  pub ending : (kind : Kind) → is_end_kind kind ≡ true → P kind
  pub pick : (kind : Kind) → is_pick kind ≡ true → P kind
  pub erase : (kind : Kind) → is_erase_or_bad_erase kind ≡ true → P kind
  pub note : (kind : Kind) → is_note kind ≡ true → P kind
  pub idle_note : (kind : Kind) → is_idle_note kind ≡ true → P kind
  pub failed_write : (row : ℕ) (kind : Kind) → is_failed_write row kind ≡ true → P kind

module _ (P : Kind → Type 0) (kinds : HasKinds P) where
  abbrev pub Has : CallStep → Type 0
  Has step = P step.entry.kind

  pub one_has : (test : Kind → Bool) → ((kind : Kind) → test kind ≡ true → P kind) → (steps : List CallStep) → is_one test steps ≡ true → All Has steps
  one_has test has [] is = All-nil Has
  one_has test has (step ∷ []) is = All-cons Has step [] (has step.entry.kind is) (All-nil Has)
  one_has test has (step ∷ next ∷ steps) is = absurd (false≢true is)

  pub most_has : (test : Kind → Bool) → ((kind : Kind) → test kind ≡ true → P kind) → (steps : List CallStep) → is_at_most_one test steps ≡ true → All Has steps
  most_has test has [] is = All-nil Has
  most_has test has (step ∷ []) is = All-cons Has step [] (has step.entry.kind is) (All-nil Has)
  most_has test has (step ∷ next ∷ steps) is = absurd (false≢true is)

  pub lone_has : (row : ℕ) (steps : List CallStep) → is_lone_look row steps ≡ true → All Has steps
  lone_has row [] is = All-nil Has
  lone_has row (step ∷ []) is =
      All-cons Has step []
      (kinds.look_of_none step.entry.kind (and_parts (is_look_of_none step.entry.kind) (is_look_at_row row step.entry.kind) is).0)
      (All-nil Has)
  lone_has row (step ∷ next ∷ steps) is = absurd (false≢true is)

  -- the steps of a look, whatever stands before its leave
  pub list_has : (steps : List CallStep) (look : CallStep) (ending : List CallStep) (leave : CallStep) → IsLookList steps look ending leave →
      All Has ending → All Has steps
  list_has steps look ending leave list ends =
      each_of_look Has steps look ending leave list (kinds.look_of_page look.entry.kind list.finds_page)
      (λ step is. kinds.sense (position_of look) step.entry.kind is) ends
      (kinds.leave (position_of look) leave.entry.kind list.is_left)

  pub parts_has : (Part : List CallStep → Type 0) → ((steps : List CallStep) → Part steps → All Has steps) → (parts : List (List CallStep)) →
      All Part parts → All Has (flat_map (λ part. part) parts)
  parts_has Part each [] all = All-nil Has
  parts_has Part each (part ∷ parts) all =
      subst (All Has) (sym (flat_map-cons (λ part. part) part parts))
      (All-append Has part (flat_map (λ part. part) parts) (each part (All-head Part part parts all))
      (parts_has Part each parts (All-tail Part part parts all)))

  module _ (ladder : List Entry → ℕ → LadderState) where
    ended_has : (step : CallStep) → is_end_kind step.entry.kind ≡ true → All Has (step ∷ [])
    ended_has step is = All-cons Has step [] (kinds.ending step.entry.kind is) (All-nil Has)

    pub copy_has : (steps : List CallStep) (look : CallStep) → IsCopy ladder steps look → All Has steps
    copy_has steps look copy =
        list_has steps look (copy.ending ∷ []) copy.leave copy.is_list
        (ended_has copy.ending (copy_ends ladder (position_of look) copy.ending copy.ends))

    pub read_has : (row : ℕ) (steps : List CallStep) → IsRead ladder row steps → All Has steps
    read_has row steps (inl lone) = lone_has row steps lone
    read_has row steps (inr page) =
        list_has steps page.look page.ending page.leave page.is_list
        (each_of_end Has ladder (position_of page.look) page.ending page.leave
        (λ step is. kinds.fault_sense (position_of page.look) step.entry.kind is) page.ends)

    refreshed_has : (at : ℕ) (ending : List CallStep) (leave : CallStep) → is_refreshed ladder at ending leave ≡ true → All Has ending
    refreshed_has at [] leave is = All-nil Has
    refreshed_has at (step ∷ []) leave is = ended_has step (refresh_ends ladder at step is)
    refreshed_has at (step ∷ next ∷ steps) leave is = absurd (false≢true is)

    pub refresh_has : (row : ℕ) (steps : List CallStep) → IsRefresh ladder row steps → All Has steps
    refresh_has row steps (inl lone) = lone_has row steps lone
    refresh_has row steps (inr page) =
        list_has steps page.look page.ending page.leave page.is_list
        (refreshed_has (position_of page.look) page.ending page.leave page.ends)

    pub refreshes_has : (steps : List CallStep) → AreRefreshes ladder steps → All Has steps
    refreshes_has steps drain =
        subst (All Has) (sym drain.are_steps)
        (parts_has (IsSomeRefresh ladder) (λ part one. refresh_has one.row part one.is_refresh) drain.refreshes drain.each)

    module _ (base : ChannelBase) where
      pub round_has : (steps : List CallStep) → IsRound ladder base steps → All Has steps
      round_has steps round =
          subst (All Has) (sym round.are_steps)
          (All-append Has (round.picks ++ flat_map (λ copy. copy) round.copies) round.erases
          (All-append Has round.picks (flat_map (λ copy. copy) round.copies) (most_has is_pick kinds.pick round.picks round.one_pick)
          (parts_has (IsVictimCopy ladder base) (λ part copy. copy_has part copy.look copy.is_copy) round.copies round.are_copies))
          (most_has is_erase_or_bad_erase kinds.erase round.erases round.one_erase))

      noted_has : (steps round : List CallStep) (note : CallStep) → steps ≡ round ++ note ∷ [] → IsRound ladder base round → Has note →
          All Has steps
      noted_has steps round note are is_round of_note =
          subst (All Has) (sym are)
          (All-append Has round (note ∷ []) (round_has round is_round) (All-cons Has note [] of_note (All-nil Has)))

      pub part_has : (row : ℕ) (steps : List CallStep) → IsWritePart ladder base row steps → All Has steps
      part_has row steps (inl failed) = one_has (is_failed_write row) (kinds.failed_write row) steps failed
      part_has row steps (inr round) = round_has steps round.is_round

      left_has : (steps : List CallStep) → IsLeftRound ladder base steps → All Has steps
      left_has steps left =
          noted_has steps left.round left.note left.are_steps left.is_round.is_round
          (kinds.note left.note.entry.kind left.is_note)

      idle_has : (steps : List CallStep) → IsIdleRound ladder base steps → All Has steps
      idle_has steps idle =
          noted_has steps idle.round idle.note idle.are_steps idle.is_round.is_round
          (kinds.idle_note idle.note.entry.kind (and_parts (is_idle_note idle.note.entry.kind) _ idle.may_end).0)

      pub collect_has : (steps : List CallStep) → IsCollect ladder base steps → All Has steps
      collect_has steps collect =
          subst (All Has) (sym collect.are_steps)
          (All-append Has (flat_map (λ part. part) collect.parts) collect.last
          (parts_has (IsLeftRound ladder base) left_has collect.parts collect.are_parts)
          (elim collect.ends [ inl done ↦ round_has collect.last done.is_round | inr idle ↦ idle_has collect.last idle ]))

      pub own_has : (own : Bool) (Fact : Type 0) (steps : List CallStep) → (Fact → All Has steps) → OnOwnChannel own Fact steps → All Has steps
      own_has true Fact steps of_fact fact = of_fact fact
      own_has false Fact steps of_fact none = subst (All Has) (sym none) (All-nil Has)
