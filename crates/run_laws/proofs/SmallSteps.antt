-- The steps of a call of a verb age blocks by the amount that the verb tells, if it tells one, and by no other: so the amounts
-- in them fit their field where the verb's does.
use Rattle.std.proofs.Common.{ℕ, ◌≡◌, ◌^◌, ◌<◌, ◌==◌, ◌&&◌, nat_lt, Bool, true, false, List, [], ◌∷◌, ◌++◌, refl, sym, subst, ◌∙◌, inl, inr, arith, eqb-true, lt-ltb, ltb-true}
use Rattle.std.specs.Prelude.{All, flat_map}
use Rattle.std.specs.List.{list_all}
use Rattle.std.proofs.lemmas.Bool.{and_parts, false≢true}
use Rattle.std.proofs.lemmas.List.Elements.{All-head, All-tail, All-weaker}
use Rattle.std.proofs.lemmas.List.Folds.{list_all-append}
use Rattle.serial_laws.proofs.LookLists.{copy_ends, is_end_kind, refresh_ends}
use Rattle.ssd_geo.specs.Ladder.{LadderState}
use Rattle.ssd_geo.specs.declared.base.ChannelBase.{ChannelBase}
use Rattle.ssd_geo.specs.declared.entry.Entry.{Entry}
use Rattle.ssd_geo.specs.declared.kind.Kind.{Kind}
use Rattle.ssd_geo.specs.declared.trace.Verb.{Verb}
use Rattle.ssd_histories.specs.CallSteps.{CallStep, is_erase_or_bad_erase, is_leave_of, is_look_at_row, is_look_of_none, is_look_of_page, is_pick, is_sense_of, position_of}
use Rattle.ssd_histories.specs.CallsInOrder.{AreRefreshes, AreStepsOf, IsSomeRefresh, OnOwnChannel, is_age_of, is_trim_of}
use Rattle.ssd_histories.specs.Copies.{IsCopy, IsLookList, IsRead, IsRefresh, is_lone_look, is_read_end, is_refreshed}
use Rattle.ssd_histories.specs.Lawful.{is_fault_sense_of}
use Rattle.ssd_histories.specs.Rounds.{IsCollect, IsIdleRound, IsLeftRound, IsRound, IsVictimCopy, IsWrite, IsWriteEnd, IsWritePart, is_at_most_one, is_failed_write, is_idle_note, is_note, is_one, is_write_end}
use Rattle.run_laws.specs.SpelledPasts.{IsSmallKind, IsSmallVerb}

-- whether the amount of an ageing fits its field, in an entry and in a step
abbrev pub is_small_kind : Kind → Bool
is_small_kind (Kind.Age die sb amount) = nat_lt amount (2 ^ 16)
is_small_kind (Kind.FaultAge die sb amount) = nat_lt amount (2 ^ 16)
is_small_kind _ = true

abbrev pub is_small_step : CallStep → Bool
is_small_step step = is_small_kind step.entry.kind

pub small_is : (kind : Kind) → is_small_kind kind ≡ true → IsSmallKind kind
small_is (Kind.Age die sb amount) e = ltb-true amount (2 ^ 16) e
small_is (Kind.FaultAge die sb amount) e = ltb-true amount (2 ^ 16) e
small_is kind e = tt

abbrev pub AreSmall : List CallStep → Type 0
AreSmall steps = list_all is_small_step steps ≡ true

-- joined steps, and the parts of joined ones
pub small_join : (xs ys : List CallStep) → AreSmall xs → AreSmall ys → AreSmall (xs ++ ys)
small_join xs ys first second = list_all-append is_small_step xs ys ∙ rw first second

pub small_first : (xs ys : List CallStep) → AreSmall (xs ++ ys) → AreSmall xs
small_first xs ys all =
    (and_parts (list_all is_small_step xs) (list_all is_small_step ys) (sym (list_all-append is_small_step xs ys) ∙ all)).0

small_parts : (parts : List (List CallStep)) → All AreSmall parts → AreSmall (flat_map (λ part. part) parts)
small_parts [] all = refl
small_parts (part ∷ parts) all =
    small_join part (flat_map (λ one. one) parts) (All-head AreSmall part parts all)
    (small_parts parts (All-tail AreSmall part parts all))

each_small : {P : List CallStep → Type 0} → ((steps : List CallStep) → P steps → AreSmall steps) →
    (parts : List (List CallStep)) → All P parts → All AreSmall parts
each_small {P} small parts all = All-weaker P AreSmall small parts all

-- a step that passes a test of kinds that age no block
one_small : (test : Kind → Bool) → ((kind : Kind) → test kind ≡ true → is_small_kind kind ≡ true) →
    (steps : List CallStep) → is_one test steps ≡ true → AreSmall steps
one_small test small [] is = absurd (false≢true is)
one_small test small (step ∷ []) is = rw (small step.entry.kind is) refl
one_small test small (step ∷ next ∷ steps) is = absurd (false≢true is)

most_small : (test : Kind → Bool) → ((kind : Kind) → test kind ≡ true → is_small_kind kind ≡ true) →
    (steps : List CallStep) → is_at_most_one test steps ≡ true → AreSmall steps
most_small test small [] is = refl
most_small test small (step ∷ []) is = rw (small step.entry.kind is) refl
most_small test small (step ∷ next ∷ steps) is = absurd (false≢true is)

all_small : (test : Kind → Bool) → ((kind : Kind) → test kind ≡ true → is_small_kind kind ≡ true) →
    (steps : List CallStep) → list_all (λ step. test step.entry.kind) steps ≡ true → AreSmall steps
all_small test small [] is = refl
all_small test small (step ∷ steps) is =
    let parts = and_parts (test step.entry.kind) (list_all (λ step. test step.entry.kind) steps) is in
    rw (small step.entry.kind parts.0) (all_small test small steps parts.1)

-- the kinds of each test
page_look_small : (kind : Kind) → is_look_of_page kind ≡ true → is_small_kind kind ≡ true
page_look_small (Kind.Look row found closed) e = refl
page_look_small kind e = absurd (false≢true e)

lone_look_small : (kind : Kind) → is_look_of_none kind ≡ true → is_small_kind kind ≡ true
lone_look_small (Kind.Look row found closed) e = refl
lone_look_small kind e = absurd (false≢true e)

sense_small : (at : ℕ) (kind : Kind) → is_sense_of at kind ≡ true → is_small_kind kind ≡ true
sense_small at (Kind.Sense named place level) e = refl
sense_small at kind e = absurd (false≢true e)

fault_sense_small : (at : ℕ) (kind : Kind) → is_fault_sense_of at kind ≡ true → is_small_kind kind ≡ true
fault_sense_small at (Kind.FaultSense named place level) e = refl
fault_sense_small at kind e = absurd (false≢true e)

leave_small : (at : ℕ) (kind : Kind) → is_leave_of at kind ≡ true → is_small_kind kind ≡ true
leave_small at (Kind.Leave named) e = refl
leave_small at kind e = absurd (false≢true e)

end_small : (kind : Kind) → is_end_kind kind ≡ true → is_small_kind kind ≡ true
end_small (Kind.Age die sb amount) e = absurd (false≢true e)
end_small (Kind.FaultAge die sb amount) e = absurd (false≢true e)
end_small kind e = refl

pick_small : (kind : Kind) → is_pick kind ≡ true → is_small_kind kind ≡ true
pick_small (Kind.Pick sb) e = refl
pick_small kind e = absurd (false≢true e)

erase_small : (kind : Kind) → is_erase_or_bad_erase kind ≡ true → is_small_kind kind ≡ true
erase_small (Kind.Erase sb) e = refl
erase_small (Kind.BadErase sb die fault) e = refl
erase_small kind e = absurd (false≢true e)

failed_write_small : (row : ℕ) (kind : Kind) → is_failed_write row kind ≡ true → is_small_kind kind ≡ true
failed_write_small row (Kind.BadWrite named slot die fault) e = refl
failed_write_small row kind e = absurd (false≢true e)

write_end_small : (row : ℕ) (kind : Kind) → is_write_end row kind ≡ true → is_small_kind kind ≡ true
write_end_small row (Kind.Write named slot) e = refl
write_end_small row (Kind.Refused named worn) e = refl
write_end_small row (Kind.BadWrite named slot die fault) e = refl
write_end_small row kind e = absurd (false≢true e)

note_small : (kind : Kind) → is_note kind ≡ true → is_small_kind kind ≡ true
note_small (Kind.Note free victim live pins garbage) e = refl
note_small kind e = absurd (false≢true e)

idle_note_small : (kind : Kind) → is_idle_note kind ≡ true → is_small_kind kind ≡ true
idle_note_small (Kind.Note free victim live pins garbage) e = refl
idle_note_small kind e = absurd (false≢true e)

trim_small : (row : ℕ) (kind : Kind) → is_trim_of row kind ≡ true → is_small_kind kind ≡ true
trim_small row (Kind.Trim named) e = refl
trim_small row kind e = absurd (false≢true e)

same_amount : (named block by die sb amount : ℕ) → amount < 2 ^ 16 → (named == die && block == sb && by == amount) ≡ true →
    nat_lt by (2 ^ 16) ≡ true
same_amount named block by die sb amount fine is =
    let same : by ≡ amount = eqb-true by amount (and_parts (named == die && block == sb) (by == amount) is).1 in
    lt-ltb by (2 ^ 16) (omega (arith, same, fine))

age_small : (die sb amount : ℕ) → amount < 2 ^ 16 → (kind : Kind) → is_age_of die sb amount kind ≡ true → is_small_kind kind ≡ true
age_small die sb amount fine (Kind.Age named block by) e = same_amount named block by die sb amount fine e
age_small die sb amount fine (Kind.FaultAge named block by) e = same_amount named block by die sb amount fine e
age_small die sb amount fine kind e = absurd (false≢true e)

-- the steps of a look, whatever its end
list_small : (steps : List CallStep) (look : CallStep) (ending : List CallStep) (leave : CallStep) →
    IsLookList steps look ending leave → AreSmall ending → AreSmall steps
list_small steps look ending leave list small =
    subst AreSmall (sym list.are_steps)
    (small_join (look ∷ []) (list.senses ++ ending ++ leave ∷ []) (rw (page_look_small look.entry.kind list.finds_page) refl)
    (small_join (list.senses ++ ending) (leave ∷ [])
    (small_join list.senses ending
    (all_small (is_sense_of (position_of look)) (sense_small (position_of look)) list.senses list.are_senses) small)
    (rw (leave_small (position_of look) leave.entry.kind list.is_left) refl)))

lone_small : (row : ℕ) (steps : List CallStep) → is_lone_look row steps ≡ true → AreSmall steps
lone_small row [] is = absurd (false≢true is)
lone_small row (step ∷ []) is =
    rw (lone_look_small step.entry.kind (and_parts (is_look_of_none step.entry.kind) (is_look_at_row row step.entry.kind) is).0) refl
lone_small row (step ∷ next ∷ steps) is = absurd (false≢true is)

module _ (ladder : List Entry → ℕ → LadderState) where
  copy_small : (steps : List CallStep) (look : CallStep) → IsCopy ladder steps look → AreSmall steps
  copy_small steps look copy =
      list_small steps look (copy.ending ∷ []) copy.leave copy.is_list
      (rw (end_small copy.ending.entry.kind (copy_ends ladder (position_of look) copy.ending copy.ends)) refl)

  read_end_small : (at : ℕ) (ending : List CallStep) (leave : CallStep) → is_read_end ladder at ending leave ≡ true → AreSmall ending
  read_end_small at [] leave is = refl
  read_end_small at (step ∷ []) leave is = rw (fault_sense_small at step.entry.kind is) refl
  read_end_small at (step ∷ next ∷ steps) leave is = absurd (false≢true is)

  refreshed_small : (at : ℕ) (ending : List CallStep) (leave : CallStep) → is_refreshed ladder at ending leave ≡ true → AreSmall ending
  refreshed_small at [] leave is = refl
  refreshed_small at (step ∷ []) leave is = rw (end_small step.entry.kind (refresh_ends ladder at step is)) refl
  refreshed_small at (step ∷ next ∷ steps) leave is = absurd (false≢true is)

  read_small : (row : ℕ) (steps : List CallStep) → IsRead ladder row steps → AreSmall steps
  read_small row steps (inl lone) = lone_small row steps lone
  read_small row steps (inr page) =
      list_small steps page.look page.ending page.leave page.is_list
      (read_end_small (position_of page.look) page.ending page.leave page.ends)

  refresh_small : (row : ℕ) (steps : List CallStep) → IsRefresh ladder row steps → AreSmall steps
  refresh_small row steps (inl lone) = lone_small row steps lone
  refresh_small row steps (inr page) =
      list_small steps page.look page.ending page.leave page.is_list
      (refreshed_small (position_of page.look) page.ending page.leave page.ends)

  module _ (base : ChannelBase) where
    victim_copy_small : (steps : List CallStep) → IsVictimCopy ladder base steps → AreSmall steps
    victim_copy_small steps copy = copy_small steps copy.look copy.is_copy

    round_small : (steps : List CallStep) → IsRound ladder base steps → AreSmall steps
    round_small steps round =
        subst AreSmall (sym round.are_steps)
        (small_join (round.picks ++ flat_map (λ copy. copy) round.copies) round.erases
        (small_join round.picks (flat_map (λ copy. copy) round.copies)
        (most_small is_pick pick_small round.picks round.one_pick)
        (small_parts round.copies (each_small victim_copy_small round.copies round.are_copies)))
        (most_small is_erase_or_bad_erase erase_small round.erases round.one_erase))

    part_small : (row : ℕ) (steps : List CallStep) → IsWritePart ladder base row steps → AreSmall steps
    part_small row steps (inl failed) = one_small (is_failed_write row) (failed_write_small row) steps failed
    part_small row steps (inr round) = round_small steps round.is_round

    write_last_small : (row : ℕ) (steps : List CallStep) → IsWriteEnd ladder base row steps → AreSmall steps
    write_last_small row steps (inl ended) = one_small (is_write_end row) (write_end_small row) steps ended
    write_last_small row steps (inr round) = round_small steps round.is_round

    write_small : (row : ℕ) (steps : List CallStep) → IsWrite ladder base row steps → AreSmall steps
    write_small row steps write =
        subst AreSmall (sym write.are_steps)
        (small_join (flat_map (λ part. part) write.parts) write.last
        (small_parts write.parts (each_small (part_small row) write.parts write.are_parts))
        (write_last_small row write.last write.ends))

    left_small : (steps : List CallStep) → IsLeftRound ladder base steps → AreSmall steps
    left_small steps round =
        subst AreSmall (sym round.are_steps)
        (small_join round.round (round.note ∷ []) (round_small round.round round.is_round.is_round)
        (rw (note_small round.note.entry.kind round.is_note) refl))

    idle_small : (steps : List CallStep) → IsIdleRound ladder base steps → AreSmall steps
    idle_small steps round =
        let idle = and_parts (is_idle_note round.note.entry.kind) _ round.may_end in
        subst AreSmall (sym round.are_steps)
        (small_join round.round (round.note ∷ []) (round_small round.round round.is_round.is_round)
        (rw (idle_note_small round.note.entry.kind idle.0) refl))

    collect_small : (steps : List CallStep) → IsCollect ladder base steps → AreSmall steps
    collect_small steps collect =
        subst AreSmall (sym collect.are_steps)
        (small_join (flat_map (λ part. part) collect.parts) collect.last
        (small_parts collect.parts (each_small left_small collect.parts collect.are_parts))
        (elim collect.ends [ inl round ↦ round_small collect.last round.is_round | inr round ↦ idle_small collect.last round ]))

    some_refresh_small : (steps : List CallStep) → IsSomeRefresh ladder steps → AreSmall steps
    some_refresh_small steps one = refresh_small one.row steps one.is_refresh

    refreshes_small : (steps : List CallStep) → AreRefreshes ladder steps → AreSmall steps
    refreshes_small steps drain =
        subst AreSmall (sym drain.are_steps)
        (small_parts drain.refreshes (each_small some_refresh_small drain.refreshes drain.each))

    -- a call's own channel has its steps, and the others have none
    on_own_small : (own : Bool) (fact : Type 0) (steps : List CallStep) → (fact → AreSmall steps) → OnOwnChannel own fact steps →
        AreSmall steps
    on_own_small true fact steps small held = small held
    on_own_small false fact steps small held = subst AreSmall (sym held) refl

    pub steps_small : (channels channel : ℕ) (verb : Verb) (steps : List CallStep) → IsSmallVerb verb →
        AreStepsOf ladder base channels channel verb steps → AreSmall steps
    steps_small channels channel (Verb.Write page content) steps fine are =
        on_own_small _ _ steps (write_small _ steps) are
    steps_small channels channel (Verb.Read page) steps fine are = on_own_small _ _ steps (read_small _ steps) are
    steps_small channels channel (Verb.Trim page) steps fine are =
        on_own_small _ _ steps (one_small (is_trim_of _) (trim_small _) steps) are
    steps_small channels channel (Verb.Refresh page) steps fine are = on_own_small _ _ steps (refresh_small _ steps) are
    steps_small channels channel (Verb.Collect named) steps fine are = on_own_small _ _ steps (collect_small steps) are
    steps_small channels channel (Verb.Drain count) steps fine are = refreshes_small steps are
    steps_small channels channel (Verb.Age named die sb amount) steps fine are =
        on_own_small _ _ steps (one_small (is_age_of die sb amount) (age_small die sb amount fine) steps) are
