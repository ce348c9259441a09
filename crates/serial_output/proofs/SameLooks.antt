-- The steps of a look: two reads, two refreshes or two copies of one row that begin with the same past, and choose alike, end
-- with the same past. After the same look the ladder asks for the same senses, and then the same entry ends them.
use Rattle.std.proofs.Common.{ℕ, ◌≡◌, Bool, true, false, List, [], ◌∷◌, ◌++◌, length, refl, sym, ap, subst, ◌∙◌, inl, inr}
use Rattle.std.specs.Prelude.{◌⊎◌, ◌&&◌, ◌||◌, IsTrue}
use Rattle.std.specs.List.{list_all}
use Rattle.std.proofs.lemmas.Bool.{and_parts, false≢true, or_cases}
use Rattle.ssd_histories.specs.CallSteps.{CallStep, is_leave_of, is_look_at_row, is_look_of_none, is_sense_of, position_of}
use Rattle.ssd_histories.specs.Copies.{IsCopy, IsPageList, IsRead, IsRefresh, is_after_recovered, is_after_uncorrectable, is_copy_end, is_lone_look, is_read_end, is_refreshed}
use Rattle.ssd_geo.specs.Ladder.{LadderState, asks, has_answer, is_recovered, is_uncorrectable, recovered, uncorrectable}
use Rattle.ssd_histories.specs.Lawful.{is_fault_sense_of}
use Rattle.ssd_histories.specs.SerialCalls.{AreStepsFrom, entry_of}
use Rattle.ssd_geo.specs.declared.base.ChannelBase.{ChannelBase}
use Rattle.ssd_geo.specs.declared.entry.Entry.{Entry}
use Rattle.ssd_geo.specs.declared.kind.Kind.{Kind}
use Rattle.ssd_geo.specs.declared.tag.Tag.{Tag}
use Rattle.recovery_laws.proofs.DecidedReads.{leave_is}
use Rattle.serial_output.specs.SameChoices.{ComesTo}
use Rattle.serial_output.proofs.NextEntries.{AreAlike, AreRivals, alike_back, first_comes, first_step, law_on_the_way, rivals, same_failed}
use Rattle.serial_output.proofs.SameEndings.{AsksFor, asked_once, condemned_once, fault_asks, looks_once, no_answer_yet, page_or_none, recovered_once, sense_asks, sense_or_fault}

-- which entry a call wants between the senses of its look and the leave, once the ladder has an answer
pub data Wanted : Type 0 where
  nothing : Wanted
  a_copy : Wanted
  a_loss : Wanted

-- how the senses of a look end, by what the ladder has come to
pub data EndForm (wanted : LadderState → Wanted) (at : ℕ) (state : LadderState) : List CallStep → Type 0 where
  fails : {step : CallStep} → is_fault_sense_of at step.entry.kind ≡ true → EndForm wanted at state (step ∷ [])
  answers : has_answer state ≡ true → wanted state ≡ nothing → EndForm wanted at state []
  recovers : {step : CallStep} → has_answer state ≡ true → wanted state ≡ a_copy →
      is_after_recovered at step.entry.kind ≡ true → EndForm wanted at state (step ∷ [])
  loses : {step : CallStep} → has_answer state ≡ true → wanted state ≡ a_loss →
      is_after_uncorrectable at step.entry.kind ≡ true → EndForm wanted at state (step ∷ [])

copy_or_nothing : (wanted : Wanted) → wanted ≡ nothing → wanted ≡ a_copy → ⊥
copy_or_nothing wanted e f = absurd (cc)

loss_or_nothing : (wanted : Wanted) → wanted ≡ nothing → wanted ≡ a_loss → ⊥
loss_or_nothing wanted e f = absurd (cc)

copy_or_loss : (wanted : Wanted) → wanted ≡ a_copy → wanted ≡ a_loss → ⊥
copy_or_loss wanted e f = absurd (cc)

module _ (ladder : List Entry → ℕ → LadderState) (base : ChannelBase) (tag : Tag) (wanted : LadderState → Wanted) (at : ℕ) where
  module _ (one other : List Entry) (both : AreAlike ladder base one other) where
    step_rivals : (past : List Entry) (step next : CallStep) (steps more : List CallStep) (now then : List Entry) →
        AreStepsFrom tag past (step ∷ steps) now → AreStepsFrom tag past (next ∷ more) then → ComesTo now one →
        ComesTo then other → AreRivals (ladder past) base past tag step.entry.kind next.entry.kind
    step_rivals past step next steps more now then made too comes goes =
        rivals ladder base tag one other both past step.entry.kind next.entry.kind
        (first_comes tag past step steps now one made comes)
        (first_comes tag past next more then other too goes)

    -- where one has a sense next, the other doesn't end
    sense_or_end : (past : List Entry) (sense : CallStep) (steps ending : List CallStep) (leave : CallStep)
        (now then : List Entry) → is_sense_of at sense.entry.kind ≡ true → EndForm wanted at (ladder past at) ending →
        AreStepsFrom tag past (sense ∷ steps) now → AreStepsFrom tag past (ending ++ leave ∷ []) then → ComesTo now one →
        ComesTo then other → ⊥
    sense_or_end past sense steps ending leave now then is end made too comes goes =
        by_end end too
      where
        asked : AsksFor (ladder past) base past tag at (Kind.Sense at) sense.entry.kind
        asked =
            sense_asks (ladder past) base past tag at sense.entry.kind is
            (law_on_the_way ladder base tag sense.entry.kind past one both.law
            (first_comes tag past sense steps now one made comes))

        answered : has_answer (ladder past at) ≡ true → ⊥
        answered = no_answer_yet (ladder past at) asked.place asked.level asked.asked

        by_end : {ending : List CallStep} → EndForm wanted at (ladder past at) ending →
            AreStepsFrom tag past (ending ++ leave ∷ []) then → ⊥
        by_end (fails {step = step} fault) too =
            let both_next : AreRivals (ladder past) base past tag sense.entry.kind step.entry.kind =
            step_rivals past sense step steps (leave ∷ []) now then made too comes goes in
            sense_or_fault (ladder past) base past tag at sense.entry.kind step.entry.kind asked
            (fault_asks (ladder past) base past tag at step.entry.kind fault both_next.second_meets)
            (same_failed sense.entry.kind step.entry.kind both_next.same_choice)
        by_end (answers answer wants) too = answered answer
        by_end (recovers answer wants after) too = answered answer
        by_end (loses answer wants after) too = answered answer

    -- a failed sense comes next in one, and the ladder has an answer
    fault_or_answer : (past : List Entry) (step : CallStep) (steps : List CallStep) (now : List Entry) →
        is_fault_sense_of at step.entry.kind ≡ true → AreStepsFrom tag past (step ∷ steps) now → ComesTo now one →
        has_answer (ladder past at) ≡ true → ⊥
    fault_or_answer past step steps now fault made comes =
        let asked : AsksFor (ladder past) base past tag at (Kind.FaultSense at) step.entry.kind =
        fault_asks (ladder past) base past tag at step.entry.kind fault
        (law_on_the_way ladder base tag step.entry.kind past one both.law
        (first_comes tag past step steps now one made comes)) in
        no_answer_yet (ladder past at) asked.place asked.level asked.asked

  -- the pasts after a leave, and after one more step before it
  after_leaves : (past : List Entry) (leave last : CallStep) (now then : List Entry) → AreStepsFrom tag past (leave ∷ []) now →
      AreStepsFrom tag past (last ∷ []) then → is_leave_of at leave.entry.kind ≡ true → is_leave_of at last.entry.kind ≡ true →
      now ≡ then
  after_leaves past leave last now then made too left left_too =
      let kinds : leave.entry.kind ≡ last.entry.kind =
      leave_is at leave.entry.kind left ∙ sym (leave_is at last.entry.kind left_too) in
      sym (first_step tag past leave [] now made)
      ∙ ap (λ (kind : Kind). entry_of tag kind ∷ past) kinds
      ∙ first_step tag past last [] then too

  after_steps : (past : List Entry) (step next leave last : CallStep) (now then : List Entry) →
      AreStepsFrom tag past (step ∷ leave ∷ []) now → AreStepsFrom tag past (next ∷ last ∷ []) then →
      is_leave_of at leave.entry.kind ≡ true → is_leave_of at last.entry.kind ≡ true →
      step.entry.kind ≡ next.entry.kind → now ≡ then
  after_steps past step next leave last now then made too left left_too same =
      after_leaves (entry_of tag step.entry.kind ∷ past) leave last now then (first_step tag past step (leave ∷ []) now made)
      (subst (λ (kind : Kind). AreStepsFrom tag (entry_of tag kind ∷ past) (last ∷ []) then) (sym same)
      (first_step tag past next (last ∷ []) then too)) left left_too

  module _ (one other : List Entry) (both : AreAlike ladder base one other) (leave last : CallStep)
      (left : is_leave_of at leave.entry.kind ≡ true) (left_too : is_leave_of at last.entry.kind ≡ true) where
    back : AreAlike ladder base other one
    back = alike_back ladder base one other both

    -- two ends come to the same past
    ends_same : (past now then : List Entry) {ending other_ending : List CallStep} →
        EndForm wanted at (ladder past at) ending → EndForm wanted at (ladder past at) other_ending →
        AreStepsFrom tag past (ending ++ leave ∷ []) now → AreStepsFrom tag past (other_ending ++ last ∷ []) then →
        ComesTo now one → ComesTo then other → now ≡ then
    ends_same past now then (fails {step = step} fault) (fails {step = next} fault_too) made too comes goes =
        let both_next : AreRivals (ladder past) base past tag step.entry.kind next.entry.kind =
        step_rivals one other both past step next (leave ∷ []) (last ∷ []) now then made too comes goes in
        after_steps past step next leave last now then made too left left_too
        (asked_once (ladder past) base past tag at (Kind.FaultSense at) step.entry.kind next.entry.kind
        (fault_asks (ladder past) base past tag at step.entry.kind fault both_next.first_meets)
        (fault_asks (ladder past) base past tag at next.entry.kind fault_too both_next.second_meets))
    ends_same past now then (fails {step = step} fault) (answers answer wants) made too comes goes =
        absurd (fault_or_answer one other both past step (leave ∷ []) now fault made comes answer)
    ends_same past now then (fails {step = step} fault) (recovers answer wants after) made too comes goes =
        absurd (fault_or_answer one other both past step (leave ∷ []) now fault made comes answer)
    ends_same past now then (fails {step = step} fault) (loses answer wants after) made too comes goes =
        absurd (fault_or_answer one other both past step (leave ∷ []) now fault made comes answer)
    ends_same past now then (answers answer wants) (fails {step = next} fault) made too comes goes =
        absurd (fault_or_answer other one back past next (last ∷ []) then fault too goes answer)
    ends_same past now then (answers answer wants) (answers answered wants_too) made too comes goes =
        after_leaves past leave last now then made too left left_too
    ends_same past now then (answers answer wants) (recovers answered wants_too after) made too comes goes =
        absurd (copy_or_nothing (wanted (ladder past at)) wants wants_too)
    ends_same past now then (answers answer wants) (loses answered wants_too after) made too comes goes =
        absurd (loss_or_nothing (wanted (ladder past at)) wants wants_too)
    ends_same past now then (recovers answer wants after) (fails {step = next} fault) made too comes goes =
        absurd (fault_or_answer other one back past next (last ∷ []) then fault too goes answer)
    ends_same past now then (recovers answer wants after) (answers answered wants_too) made too comes goes =
        absurd (copy_or_nothing (wanted (ladder past at)) wants_too wants)
    ends_same past now then (recovers {step = step} answer wants after) (recovers {step = next} answered wants_too after_too)
        made too comes goes =
        after_steps past step next leave last now then made too left left_too
        (recovered_once (ladder past) base past tag at step.entry.kind next.entry.kind after after_too
        (step_rivals one other both past step next (leave ∷ []) (last ∷ []) now then made too comes goes))
    ends_same past now then (recovers answer wants after) (loses answered wants_too after_too) made too comes goes =
        absurd (copy_or_loss (wanted (ladder past at)) wants wants_too)
    ends_same past now then (loses answer wants after) (fails {step = next} fault) made too comes goes =
        absurd (fault_or_answer other one back past next (last ∷ []) then fault too goes answer)
    ends_same past now then (loses answer wants after) (answers answered wants_too) made too comes goes =
        absurd (loss_or_nothing (wanted (ladder past at)) wants_too wants)
    ends_same past now then (loses answer wants after) (recovers answered wants_too after_too) made too comes goes =
        absurd (copy_or_loss (wanted (ladder past at)) wants_too wants)
    ends_same past now then (loses {step = step} answer wants after) (loses {step = next} answered wants_too after_too)
        made too comes goes =
        after_steps past step next leave last now then made too left left_too
        (condemned_once (ladder past) base past tag at step.entry.kind next.entry.kind after after_too
        (step_rivals one other both past step next (leave ∷ []) (last ∷ []) now then made too comes goes))

    -- after the same senses
    module _ (ending other_ending : List CallStep)
        (view : (past now : List Entry) → AreStepsFrom tag past (ending ++ leave ∷ []) now →
        EndForm wanted at (ladder past at) ending)
        (other_view : (past now : List Entry) → AreStepsFrom tag past (other_ending ++ last ∷ []) now →
        EndForm wanted at (ladder past at) other_ending) where
      pub tails_same : (senses others : List CallStep) (past now then : List Entry) →
          list_all (λ step. is_sense_of at step.entry.kind) senses ≡ true →
          list_all (λ step. is_sense_of at step.entry.kind) others ≡ true →
          AreStepsFrom tag past (senses ++ ending ++ leave ∷ []) now →
          AreStepsFrom tag past (others ++ other_ending ++ last ∷ []) then → ComesTo now one → ComesTo then other → now ≡ then
      tails_same [] [] past now then are are_too made too comes goes =
          ends_same past now then (view past now made) (other_view past then too) made too comes goes
      tails_same [] (sense ∷ others) past now then are are_too made too comes goes =
          let parts = and_parts (is_sense_of at sense.entry.kind) (list_all (λ step. is_sense_of at step.entry.kind) others)
          are_too in
          absurd (sense_or_end other one back past sense (others ++ other_ending ++ last ∷ []) ending leave then now parts.0
          (view past now made) too made goes comes)
      tails_same (sense ∷ senses) [] past now then are are_too made too comes goes =
          let parts = and_parts (is_sense_of at sense.entry.kind) (list_all (λ step. is_sense_of at step.entry.kind) senses)
          are in
          absurd (sense_or_end one other both past sense (senses ++ ending ++ leave ∷ []) other_ending last now then parts.0
          (other_view past then too) made too comes goes)
      tails_same (sense ∷ senses) (next ∷ others) past now then are are_too made too comes goes =
          let parts = and_parts (is_sense_of at sense.entry.kind) (list_all (λ step. is_sense_of at step.entry.kind) senses)
          are in
          let parts_too = and_parts (is_sense_of at next.entry.kind)
          (list_all (λ step. is_sense_of at step.entry.kind) others) are_too in
          let both_next : AreRivals (ladder past) base past tag sense.entry.kind next.entry.kind =
          step_rivals one other both past sense next (senses ++ ending ++ leave ∷ []) (others ++ other_ending ++ last ∷ [])
          now then made too comes goes in
          let same : sense.entry.kind ≡ next.entry.kind =
          asked_once (ladder past) base past tag at (Kind.Sense at) sense.entry.kind next.entry.kind
          (sense_asks (ladder past) base past tag at sense.entry.kind parts.0 both_next.first_meets)
          (sense_asks (ladder past) base past tag at next.entry.kind parts_too.0 both_next.second_meets) in
          tails_same senses others (entry_of tag sense.entry.kind ∷ past) now then parts.1 parts_too.1
          (first_step tag past sense (senses ++ ending ++ leave ∷ []) now made)
          (subst (λ (kind : Kind). AreStepsFrom tag (entry_of tag kind ∷ past) (others ++ other_ending ++ last ∷ []) then)
          (sym same) (first_step tag past next (others ++ other_ending ++ last ∷ []) then too)) comes goes

-- a look that found no page stands alone
record IsLone (row : ℕ) (steps : List CallStep) : Type 0 where
  step : CallStep
  are : steps ≡ step ∷ []
  none : is_look_of_none step.entry.kind ≡ true
  of_row : is_look_at_row row step.entry.kind ≡ true

lone_form : (row : ℕ) (steps : List CallStep) → is_lone_look row steps ≡ true → IsLone row steps
lone_form row [] e = absurd (false≢true e)
lone_form row (step ∷ []) e =
    let parts = and_parts (is_look_of_none step.entry.kind) (is_look_at_row row step.entry.kind) e in
    record { step = step; are = refl; none = parts.0; of_row = parts.1 }
lone_form row (step ∷ next ∷ steps) e = absurd (false≢true e)

module _ (ladder : List Entry → ℕ → LadderState) (base : ChannelBase) (tag : Tag) (wanted : LadderState → Wanted)
    (is_end : ℕ → List CallStep → CallStep → Bool)
    (view : (at : ℕ) (ending : List CallStep) (leave : CallStep) (past now : List Entry) → is_end at ending leave ≡ true →
    AreStepsFrom tag past (ending ++ leave ∷ []) now → EndForm wanted at (ladder past at) ending)
    (one other : List Entry) (both : AreAlike ladder base one other) (row : ℕ) (before now then : List Entry)
    (steps others : List CallStep) (made : AreStepsFrom tag before steps now) (too : AreStepsFrom tag before others then)
    (comes : ComesTo now one) (goes : ComesTo then other) where
  looks_same : (look next : CallStep) (tail more : List CallStep) → AreStepsFrom tag before (look ∷ tail) now →
      AreStepsFrom tag before (next ∷ more) then → is_look_at_row row look.entry.kind ≡ true →
      is_look_at_row row next.entry.kind ≡ true → look.entry.kind ≡ next.entry.kind
  looks_same look next tail more made too at_row at_row_too =
      looks_once (ladder before) base before tag row look.entry.kind next.entry.kind at_row at_row_too
      (rivals ladder base tag one other both before look.entry.kind next.entry.kind
      (first_comes tag before look tail now one made comes) (first_comes tag before next more then other too goes))

  pub page_lists_same : IsPageList row is_end steps → IsPageList row is_end others → now ≡ then
  page_lists_same list next =
      let l = list.is_list in
      let n = next.is_list in
      let tail : List CallStep = l.senses ++ list.ending ++ list.leave ∷ [] in
      let more : List CallStep = n.senses ++ next.ending ++ next.leave ∷ [] in
      let first : AreStepsFrom tag before (list.look ∷ tail) now =
      subst (λ xs. AreStepsFrom tag before xs now) l.are_steps made in
      let second : AreStepsFrom tag before (next.look ∷ more) then =
      subst (λ xs. AreStepsFrom tag before xs then) n.are_steps too in
      let same : list.look.entry.kind ≡ next.look.entry.kind =
      looks_same list.look next.look tail more first second list.of_row next.of_row in
      let at : position_of list.look ≡ length before = ap (λ (xs : List Entry). length xs) first.0 in
      let at_too : position_of next.look ≡ length before = ap (λ (xs : List Entry). length xs) second.0 in
      tails_same ladder base tag wanted (length before) one other both list.leave next.leave
      (subst (λ (n : ℕ). is_leave_of n list.leave.entry.kind ≡ true) at l.is_left)
      (subst (λ (n : ℕ). is_leave_of n next.leave.entry.kind ≡ true) at_too n.is_left)
      list.ending next.ending
      (λ past after. view (length before) list.ending list.leave past after
      (subst (λ (n : ℕ). is_end n list.ending list.leave ≡ true) at list.ends))
      (λ past after. view (length before) next.ending next.leave past after
      (subst (λ (n : ℕ). is_end n next.ending next.leave ≡ true) at_too next.ends))
      l.senses n.senses (entry_of tag list.look.entry.kind ∷ before) now then
      (subst (λ (n : ℕ). list_all (λ step. is_sense_of n step.entry.kind) l.senses ≡ true) at l.are_senses)
      (subst (λ (m : ℕ). list_all (λ step. is_sense_of m step.entry.kind) n.senses ≡ true) at_too n.are_senses)
      (first_step tag before list.look tail now first)
      (subst (λ (kind : Kind). AreStepsFrom tag (entry_of tag kind ∷ before) more then) (sym same)
      (first_step tag before next.look more then second)) comes goes

  lone_and_page : IsLone row steps → IsPageList row is_end others → ⊥
  lone_and_page lone next =
      let n = next.is_list in
      let more : List CallStep = n.senses ++ next.ending ++ next.leave ∷ [] in
      let same : lone.step.entry.kind ≡ next.look.entry.kind =
      looks_same lone.step next.look [] more (subst (λ xs. AreStepsFrom tag before xs now) lone.are made)
      (subst (λ xs. AreStepsFrom tag before xs then) n.are_steps too) lone.of_row next.of_row in
      page_or_none next.look.entry.kind n.finds_page
      (subst (λ (kind : Kind). is_look_of_none kind ≡ true) same lone.none)

  page_and_lone : IsPageList row is_end steps → IsLone row others → ⊥
  page_and_lone list lone =
      let l = list.is_list in
      let tail : List CallStep = l.senses ++ list.ending ++ list.leave ∷ [] in
      let same : list.look.entry.kind ≡ lone.step.entry.kind =
      looks_same list.look lone.step tail [] (subst (λ xs. AreStepsFrom tag before xs now) l.are_steps made)
      (subst (λ xs. AreStepsFrom tag before xs then) lone.are too) list.of_row lone.of_row in
      page_or_none list.look.entry.kind l.finds_page
      (subst (λ (kind : Kind). is_look_of_none kind ≡ true) (sym same) lone.none)

  both_alone : IsLone row steps → IsLone row others → now ≡ then
  both_alone lone next =
      let first : AreStepsFrom tag before (lone.step ∷ []) now = subst (λ xs. AreStepsFrom tag before xs now) lone.are made in
      let second : AreStepsFrom tag before (next.step ∷ []) then =
      subst (λ xs. AreStepsFrom tag before xs then) next.are too in
      sym (first_step tag before lone.step [] now first)
      ∙ ap (λ (kind : Kind). entry_of tag kind ∷ before)
      (looks_same lone.step next.step [] [] first second lone.of_row next.of_row)
      ∙ first_step tag before next.step [] then second

  pub look_calls_same : IsTrue (is_lone_look row steps) ⊎ IsPageList row is_end steps →
      IsTrue (is_lone_look row others) ⊎ IsPageList row is_end others → now ≡ then
  look_calls_same (inl lone) (inl next) = both_alone (lone_form row steps lone) (lone_form row others next)
  look_calls_same (inl lone) (inr next) = absurd (lone_and_page (lone_form row steps lone) next)
  look_calls_same (inr list) (inl next) = absurd (page_and_lone list (lone_form row others next))
  look_calls_same (inr list) (inr next) = page_lists_same list next

-- reads, refreshes and copies want these entries
abbrev wanted_of_read : LadderState → Wanted
wanted_of_read state = nothing

abbrev wanted_of_refresh : LadderState → Wanted
wanted_of_refresh (asks place level) = nothing
wanted_of_refresh (recovered rung word) = a_copy
wanted_of_refresh uncorrectable = nothing

abbrev wanted_of_copy : LadderState → Wanted
wanted_of_copy (asks place level) = nothing
wanted_of_copy (recovered rung word) = a_copy
wanted_of_copy uncorrectable = a_loss

-- a ladder that recovered the page, or can't
record IsAnswer (wanted : LadderState → Wanted) (state : LadderState) (wants : Wanted) : Type 0 where
  answer : has_answer state ≡ true
  is : wanted state ≡ wants

refresh_recovered : (state : LadderState) → is_recovered state ≡ true → IsAnswer wanted_of_refresh state a_copy
refresh_recovered (asks place level) e = absurd (false≢true e)
refresh_recovered (recovered rung word) e = record { answer = refl; is = refl }
refresh_recovered uncorrectable e = absurd (false≢true e)

refresh_lost : (state : LadderState) → is_uncorrectable state ≡ true → IsAnswer wanted_of_refresh state nothing
refresh_lost (asks place level) e = absurd (false≢true e)
refresh_lost (recovered rung word) e = absurd (false≢true e)
refresh_lost uncorrectable e = record { answer = refl; is = refl }

copy_recovered : (state : LadderState) → is_recovered state ≡ true → IsAnswer wanted_of_copy state a_copy
copy_recovered (asks place level) e = absurd (false≢true e)
copy_recovered (recovered rung word) e = record { answer = refl; is = refl }
copy_recovered uncorrectable e = absurd (false≢true e)

copy_lost : (state : LadderState) → is_uncorrectable state ≡ true → IsAnswer wanted_of_copy state a_loss
copy_lost (asks place level) e = absurd (false≢true e)
copy_lost (recovered rung word) e = absurd (false≢true e)
copy_lost uncorrectable e = record { answer = refl; is = refl }

-- whether what stands between the senses of a copy and its leave is right
abbrev pub is_copied : (List Entry → ℕ → LadderState) → ℕ → List CallStep → CallStep → Bool
is_copied ladder at [] leave = false
is_copied ladder at (step ∷ []) leave = is_copy_end ladder at step
is_copied ladder at (step ∷ next ∷ steps) leave = false

module _ (ladder : List Entry → ℕ → LadderState) (base : ChannelBase) (tag : Tag) where
  read_view : (at : ℕ) (ending : List CallStep) (leave : CallStep) (past now : List Entry) →
      is_read_end ladder at ending leave ≡ true → AreStepsFrom tag past (ending ++ leave ∷ []) now →
      EndForm wanted_of_read at (ladder past at) ending
  read_view at [] leave past now e made =
      answers (subst (λ (xs : List Entry). has_answer (ladder xs at) ≡ true) made.0 e) refl
  read_view at (step ∷ []) leave past now e made = fails e
  read_view at (step ∷ next ∷ steps) leave past now e made = absurd (false≢true e)

  refresh_view : (at : ℕ) (ending : List CallStep) (leave : CallStep) (past now : List Entry) →
      is_refreshed ladder at ending leave ≡ true → AreStepsFrom tag past (ending ++ leave ∷ []) now →
      EndForm wanted_of_refresh at (ladder past at) ending
  refresh_view at [] leave past now e made =
      let lost : IsAnswer wanted_of_refresh (ladder past at) nothing =
      refresh_lost (ladder past at) (subst (λ (xs : List Entry). is_uncorrectable (ladder xs at) ≡ true) made.0 e) in
      answers lost.answer lost.is
  refresh_view at (step ∷ []) leave past now e made =
      elim (or_cases (is_fault_sense_of at step.entry.kind)
      (is_recovered (ladder step.past at) && is_after_recovered at step.entry.kind) e) [
        | inl fault ↦ fails fault
        | inr both ↦
            let parts = and_parts (is_recovered (ladder step.past at)) (is_after_recovered at step.entry.kind) both in
            let found : IsAnswer wanted_of_refresh (ladder past at) a_copy =
            refresh_recovered (ladder past at)
            (subst (λ (xs : List Entry). is_recovered (ladder xs at) ≡ true) made.0 parts.0) in
            recovers found.answer found.is parts.1
      ]
  refresh_view at (step ∷ next ∷ steps) leave past now e made = absurd (false≢true e)

  pub copy_view : (at : ℕ) (ending : List CallStep) (leave : CallStep) (past now : List Entry) →
      is_copied ladder at ending leave ≡ true → AreStepsFrom tag past (ending ++ leave ∷ []) now →
      EndForm wanted_of_copy at (ladder past at) ending
  copy_view at [] leave past now e made = absurd (false≢true e)
  copy_view at (step ∷ []) leave past now e made =
      elim (or_cases (is_fault_sense_of at step.entry.kind
      || (is_recovered (ladder step.past at) && is_after_recovered at step.entry.kind))
      (is_uncorrectable (ladder step.past at) && is_after_uncorrectable at step.entry.kind) e) [
        | inl either ↦
            elim (or_cases (is_fault_sense_of at step.entry.kind)
            (is_recovered (ladder step.past at) && is_after_recovered at step.entry.kind) either) [
              | inl fault ↦ fails fault
              | inr both ↦
                  let parts = and_parts (is_recovered (ladder step.past at)) (is_after_recovered at step.entry.kind) both in
                  let found : IsAnswer wanted_of_copy (ladder past at) a_copy =
                  copy_recovered (ladder past at)
                  (subst (λ (xs : List Entry). is_recovered (ladder xs at) ≡ true) made.0 parts.0) in
                  recovers found.answer found.is parts.1
            ]
        | inr both ↦
            let parts = and_parts (is_uncorrectable (ladder step.past at)) (is_after_uncorrectable at step.entry.kind) both in
            let lost : IsAnswer wanted_of_copy (ladder past at) a_loss =
            copy_lost (ladder past at)
            (subst (λ (xs : List Entry). is_uncorrectable (ladder xs at) ≡ true) made.0 parts.0) in
            loses lost.answer lost.is parts.1
      ]
  copy_view at (step ∷ next ∷ steps) leave past now e made = absurd (false≢true e)

  module _ (one other : List Entry) (both : AreAlike ladder base one other) (before now then : List Entry)
      (steps others : List CallStep) (made : AreStepsFrom tag before steps now) (too : AreStepsFrom tag before others then)
      (comes : ComesTo now one) (goes : ComesTo then other) where
    pub reads_same : (row : ℕ) → IsRead ladder row steps → IsRead ladder row others → now ≡ then
    reads_same row =
        look_calls_same ladder base tag wanted_of_read (is_read_end ladder) read_view one other both row before now then
        steps others made too comes goes

    pub refreshes_same : (row : ℕ) → IsRefresh ladder row steps → IsRefresh ladder row others → now ≡ then
    refreshes_same row =
        look_calls_same ladder base tag wanted_of_refresh (is_refreshed ladder) refresh_view one other both row before now then
        steps others made too comes goes

    pub copies_same : (row : ℕ) → IsPageList row (is_copied ladder) steps → IsPageList row (is_copied ladder) others →
        now ≡ then
    copies_same row =
        page_lists_same ladder base tag wanted_of_copy (is_copied ladder) copy_view one other both row before now then
        steps others made too comes goes

  -- a copy of a row has the form of these
  pub copy_is_list : (row : ℕ) (steps : List CallStep) (look : CallStep) → is_look_at_row row look.entry.kind ≡ true →
      IsCopy ladder steps look → IsPageList row (is_copied ladder) steps
  copy_is_list row steps look at_row copy = record {
    look = look;
    ending = copy.ending ∷ [];
    leave = copy.leave;
    is_list = copy.is_list;
    of_row = at_row;
    ends = copy.ends;
  }
