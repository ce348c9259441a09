-- When does the reply of a refresh say that a die's call failed? Just where it did: no step before the one that decides the
-- reply is a failed call, and none after it.
use Rattle.std.proofs.Common.{◌≡◌, ℕ, ◌||◌, Bool, true, false, List, [], ◌∷◌, ◌++◌, Option, Some, None, refl, sym, ap, subst, ◌∙◌, inl, inr}
use Rattle.std.specs.List.{list_all}
use Rattle.std.proofs.lemmas.Bool.{and_parts, false≢true}
use Rattle.ssd_geo.specs.Ladder.{LadderState, asks, recovered, uncorrectable}
use Rattle.ssd_geo.specs.declared.entry.Entry.{Entry}
use Rattle.ssd_geo.specs.declared.kind.Kind.{Kind}
use Rattle.ssd_geo.specs.declared.reply.RefreshReply.{RefreshReply}
use Rattle.ssd_geo.specs.declared.row.Row.{Row}
use Rattle.ssd_histories.specs.CallSteps.{CallStep, is_fault, is_leave_of, is_look_of_page, is_sense_of, position_of}
use Rattle.ssd_histories.specs.Copies.{IsRefresh, is_refreshed}
use Rattle.ssd_histories.specs.Replies.{is_die_fault, refresh_decided, refresh_of_ladder, refresh_reply}
use Rattle.ssd_histories.specs.Rounds.{has_fault}
use Rattle.shared_lemmas.proofs.Tests.{or_false}

-- whether a reply, if there is one, says so
abbrev tells_fault : Option RefreshReply → Bool
tells_fault None = false
tells_fault (Some reply) = is_die_fault reply

-- the reply of a step, or else that of the steps after it
abbrev first_of : Option RefreshReply → Option RefreshReply → Option RefreshReply
first_of decided rest =
    elim decided as (λ (o : Option RefreshReply). Option RefreshReply) [ Some given ↦ Some given | None ↦ rest ]

ladder_tells_none : (state : LadderState) → tells_fault (refresh_of_ladder state) ≡ false
ladder_tells_none (asks place level) = refl
ladder_tells_none (recovered rung word) = refl
ladder_tells_none uncorrectable = refl

module _ (ladder : List Entry → ℕ → LadderState) where
  -- each step decides a failed call just where it is one
  step_tells : (past : List Entry) (kind : Kind) → is_fault kind ≡ tells_fault (refresh_decided ladder past kind)
  step_tells past (Kind.Look row Row.Empty closed) = refl
  step_tells past (Kind.Look row Row.Lost closed) = refl
  step_tells past (Kind.Look row (Row.Page slot serial) closed) = refl
  step_tells past (Kind.Stay at true) = refl
  step_tells past (Kind.Stay at false) = refl
  step_tells past (Kind.BadCopy at slot die true) = refl
  step_tells past (Kind.BadCopy at slot die false) = refl
  step_tells past (Kind.BadWrite row slot die true) = refl
  step_tells past (Kind.BadWrite row slot die false) = refl
  step_tells past (Kind.BadErase sb die true) = refl
  step_tells past (Kind.BadErase sb die false) = refl
  step_tells past (Kind.Leave at) = sym (ladder_tells_none (ladder past at))
  step_tells past kind = refl

  -- so do some steps
  abbrev Tell : List CallStep → Type 0
  Tell steps = has_fault steps ≡ tells_fault (refresh_reply ladder steps)

  -- a step that decides nothing before them
  quiet_first : (step : CallStep) (steps : List CallStep) → refresh_decided ladder step.past step.entry.kind ≡ None →
      Tell steps → Tell (step ∷ steps)
  quiet_first step steps quiet tell =
      let none : is_fault step.entry.kind ≡ false = step_tells step.past step.entry.kind ∙ ap tells_fault quiet in
      ap (λ (fault : Bool). fault || has_fault steps) none ∙ tell
      ∙ ap (λ (decided : Option RefreshReply). tells_fault (first_of decided (refresh_reply ladder steps))) (sym quiet)

  -- steps none of which is a failed call, or the reply, after one that may be
  last_first : (step : CallStep) (steps : List CallStep) → has_fault steps ≡ false →
      tells_fault (refresh_reply ladder steps) ≡ false → Tell (step ∷ steps)
  last_first step steps none untold =
      ap (λ (rest : Bool). is_fault step.entry.kind || rest) none ∙ or_false (is_fault step.entry.kind)
      ∙ step_tells step.past step.entry.kind ∙ by_decided (refresh_decided ladder step.past step.entry.kind)
    where
      by_decided : (decided : Option RefreshReply) →
          tells_fault decided ≡ tells_fault (first_of decided (refresh_reply ladder steps))
      by_decided (Some reply) = refl
      by_decided None = sym untold

  look_is_quiet : (past : List Entry) (kind : Kind) → is_look_of_page kind ≡ true → refresh_decided ladder past kind ≡ None
  look_is_quiet past (Kind.Look row (Row.Page slot serial) closed) is = refl
  look_is_quiet past kind is = absurd (false≢true is)

  sense_is_quiet : (past : List Entry) (at : ℕ) (kind : Kind) → is_sense_of at kind ≡ true →
      refresh_decided ladder past kind ≡ None
  sense_is_quiet past at (Kind.Sense named place level) is = refl
  sense_is_quiet past at kind is = absurd (false≢true is)

  -- the senses before them
  senses_tell : (at : ℕ) (senses ending rest : List CallStep) →
      list_all (λ step. is_sense_of at step.entry.kind) senses ≡ true → Tell (ending ++ rest) →
      Tell (senses ++ ending ++ rest)
  senses_tell at [] ending rest are tell = tell
  senses_tell at (step ∷ senses) ending rest are tell =
      let parts = and_parts (is_sense_of at step.entry.kind) (list_all (λ step. is_sense_of at step.entry.kind) senses) are in
      quiet_first step (senses ++ ending ++ rest) (sense_is_quiet step.past at step.entry.kind parts.0)
      (senses_tell at senses ending rest parts.1 tell)

  -- the leave of a look is no failed call
  leave_tells_none : (at : ℕ) (leave : CallStep) → is_leave_of at leave.entry.kind ≡ true →
      tells_fault (refresh_decided ladder leave.past leave.entry.kind) ≡ false
  leave_tells_none at leave is = by_kind leave.entry.kind is
    where
      by_kind : (kind : Kind) → is_leave_of at kind ≡ true → tells_fault (refresh_decided ladder leave.past kind) ≡ false
      by_kind (Kind.Leave named) is = ladder_tells_none (ladder leave.past named)
      by_kind kind is = absurd (false≢true is)

  leave_has_none : (at : ℕ) (leave : CallStep) → is_leave_of at leave.entry.kind ≡ true → has_fault (leave ∷ []) ≡ false
  leave_has_none at leave is =
      ap (λ (fault : Bool). fault || false)
      (step_tells leave.past leave.entry.kind ∙ leave_tells_none at leave is)

  alone_tells : (decided : Option RefreshReply) → tells_fault (first_of decided None) ≡ tells_fault decided
  alone_tells None = refl
  alone_tells (Some reply) = refl

  leave_untold : (at : ℕ) (leave : CallStep) → is_leave_of at leave.entry.kind ≡ true →
      tells_fault (refresh_reply ladder (leave ∷ [])) ≡ false
  leave_untold at leave is =
      alone_tells (refresh_decided ladder leave.past leave.entry.kind) ∙ leave_tells_none at leave is

  -- the steps between the senses of a refresh and its leave, and the leave
  ending_tells : (at : ℕ) (ending : List CallStep) (leave : CallStep) → is_leave_of at leave.entry.kind ≡ true →
      is_refreshed ladder at ending leave ≡ true → Tell (ending ++ leave ∷ [])
  ending_tells at [] leave left ends = leave_has_none at leave left ∙ sym (leave_untold at leave left)
  ending_tells at (step ∷ []) leave left ends =
      last_first step (leave ∷ []) (leave_has_none at leave left) (leave_untold at leave left)
  ending_tells at (step ∷ next ∷ steps) leave left ends = absurd (false≢true ends)

  -- the steps of a refresh
  refresh_tells : (row : ℕ) (steps : List CallStep) → IsRefresh ladder row steps → Tell steps
  refresh_tells row [] (inl lone) = absurd (false≢true lone)
  refresh_tells row (step ∷ []) (inl lone) = last_first step [] refl refl
  refresh_tells row (step ∷ next ∷ steps) (inl lone) = absurd (false≢true lone)
  refresh_tells row steps (inr page) =
      subst Tell (sym page.is_list.are_steps)
      (quiet_first page.look (page.is_list.senses ++ page.ending ++ page.leave ∷ [])
      (look_is_quiet page.look.past page.look.entry.kind page.is_list.finds_page)
      (senses_tell (position_of page.look) page.is_list.senses page.ending (page.leave ∷ []) page.is_list.are_senses
      (ending_tells (position_of page.look) page.ending page.leave page.is_list.is_left page.ends)))

  pub refresh_fault_is : (row : ℕ) (steps : List CallStep) (reply : RefreshReply) → IsRefresh ladder row steps →
      refresh_reply ladder steps ≡ Some reply → has_fault steps ≡ is_die_fault reply
  refresh_fault_is row steps reply is_refresh reply_is =
      refresh_tells row steps is_refresh ∙ ap tells_fault reply_is
