-- The steps of a call that was made whole decide its reply, and a refresh in which no die's call failed has the reply of none.
use Rattle.std.proofs.Common.{ℕ, ◌≡◌, Bool, true, false, List, [], ◌∷◌, ◌++◌, Option, Some, None, refl, sym, subst, ◌∙◌, inl, inr, append_assoc, eqb-true, arith}
use Rattle.std.specs.Prelude.{◌&&◌, ◌||◌, flat_map, is_some}
use Rattle.std.specs.List.{list_any}
use Rattle.std.proofs.lemmas.Bool.{and_parts, false≢true, or_cases, true≢false, or_parts}
use Rattle.ssd_histories.specs.CallSteps.{CallStep, is_fault, is_leave_of, is_look_of_none, position_of}
use Rattle.ssd_histories.specs.CallsInOrder.{is_age_of, is_trim_of}
use Rattle.ssd_histories.specs.Copies.{IsLookList, IsRead, IsRefresh, is_after_recovered, is_lone_look, is_read_end, is_refresh_end, is_refreshed}
use Rattle.ssd_geo.specs.Ladder.{LadderState, asks, has_answer, is_recovered, is_uncorrectable, recovered, uncorrectable}
use Rattle.ssd_histories.specs.Lawful.{is_fault_sense_of}
use Rattle.ssd_histories.specs.Replies.{first_reply, is_die_fault, read_decided, read_reply, refresh_decided, refresh_of_ladder, refresh_reply, reply_of_ladder, single_decided, single_reply, write_decided, write_reply}
use Rattle.ssd_histories.specs.Rounds.{IsWrite, IsWriteEnd, has_fault, is_one, is_write_end}
use Rattle.ssd_geo.specs.declared.base.ChannelBase.{ChannelBase}
use Rattle.ssd_geo.specs.declared.entry.Entry.{Entry}
use Rattle.ssd_geo.specs.declared.kind.Kind.{Kind}
use Rattle.ssd_geo.specs.declared.reply.RefreshReply.{RefreshReply}
use Rattle.ssd_geo.specs.declared.row.Row.{Row}

-- where a step decides, there is a first one that does, and steps after those that decide don't matter
pub first_is_some : {R : Type 0} (decided : CallStep → Option R) (steps : List CallStep) →
    list_any (λ step. is_some (decided step)) steps ≡ true → is_some (first_reply decided steps) ≡ true
first_is_some decided [] some = absurd (false≢true some)
first_is_some {R} decided (step ∷ steps) some = by_option (decided step) (first_is_some decided steps) some
  where
    by_option : (option : Option R) → (list_any (λ step. is_some (decided step)) steps ≡ true →
        is_some (first_reply decided steps) ≡ true) →
        (is_some option || list_any (λ step. is_some (decided step)) steps) ≡ true →
        is_some (elim option as (λ _. Option R) [ Some reply ↦ Some reply | None ↦ first_reply decided steps ]) ≡ true
    by_option (Some reply) later some = refl
    by_option None later some = later some

pub first_of_both : {R : Type 0} (decided : CallStep → Option R) (xs ys : List CallStep) (reply : R) →
    first_reply decided xs ≡ Some reply → first_reply decided (xs ++ ys) ≡ Some reply
first_of_both {R} decided [] ys reply is = absurd (no_Some reply (sym is))
  where
    no_Some : {A : Type 0} (a : A) → ◌≡◌ {A = Option A} (Some a) None → ⊥
    no_Some a e = grind arith
first_of_both {R} decided (step ∷ xs) ys reply is = by_option (decided step) (first_of_both decided xs ys reply) is
  where
    by_option : (option : Option R) → (first_reply decided xs ≡ Some reply → first_reply decided (xs ++ ys) ≡ Some reply) →
        ◌≡◌ {A = Option R} (elim option as (λ _. Option R) [ Some reply ↦ Some reply | None ↦ first_reply decided xs ])
        (Some reply) →
        ◌≡◌ {A = Option R} (elim option as (λ _. Option R) [ Some reply ↦ Some reply | None ↦ first_reply decided (xs ++ ys) ])
        (Some reply)
    by_option (Some first) later is = is
    by_option None later is = later is

-- a step among others that passes a test, or a later one
any_later : (p : CallStep → Bool) (xs ys : List CallStep) → list_any p ys ≡ true → list_any p (xs ++ ys) ≡ true
any_later p [] ys some = some
any_later p (x ∷ xs) ys some = or_true (p x) (list_any p (xs ++ ys)) (any_later p xs ys some)
  where
    or_true : (b c : Bool) → c ≡ true → (b || c) ≡ true
    or_true true c e = refl
    or_true false c e = e

any_first : (p : CallStep → Bool) (x : CallStep) (xs : List CallStep) → p x ≡ true → list_any p (x ∷ xs) ≡ true
any_first p x xs is = rw is refl

any_weaker : (p q : CallStep → Bool) → ((step : CallStep) → p step ≡ true → q step ≡ true) → (steps : List CallStep) →
    list_any p steps ≡ true → list_any q steps ≡ true
any_weaker p q weaker [] some = some
any_weaker p q weaker (step ∷ steps) some =
    elim (or_cases (p step) (list_any p steps) some) [
      | inl here ↦ any_first q step steps (weaker step here)
      | inr later ↦ any_later q (step ∷ []) steps (any_weaker p q weaker steps later)
    ]

-- a write
fault_decides_write : (kind : Kind) → is_fault kind ≡ true → is_some (write_decided kind) ≡ true
fault_decides_write (Kind.FaultSense at place level) e = refl
fault_decides_write (Kind.FaultAge die sb amount) e = refl
fault_decides_write (Kind.BadWrite row slot die true) e = refl
fault_decides_write (Kind.BadCopy at slot die true) e = refl
fault_decides_write (Kind.BadErase sb die true) e = refl
fault_decides_write kind e = absurd (false≢true e)

end_decides_write : (row : ℕ) (kind : Kind) → is_write_end row kind ≡ true → is_some (write_decided kind) ≡ true
end_decides_write row (Kind.Write named slot) e = refl
end_decides_write row (Kind.Refused named worn) e = refl
end_decides_write row (Kind.BadWrite named slot die true) e = refl
end_decides_write row kind e = absurd (false≢true e)

one_decides : (test : Kind → Bool) (p : CallStep → Bool) → ((step : CallStep) → test step.entry.kind ≡ true → p step ≡ true) →
    (steps : List CallStep) → is_one test steps ≡ true → list_any p steps ≡ true
one_decides test p decides [] is = absurd (false≢true is)
one_decides test p decides (step ∷ []) is = any_first p step [] (decides step is)
one_decides test p decides (step ∷ next ∷ steps) is = absurd (false≢true is)

end_decides : (ladder : List Entry → ℕ → LadderState) (base : ChannelBase) (row : ℕ) (steps : List CallStep) →
    IsWriteEnd ladder base row steps → list_any (λ step. is_some (write_decided step.entry.kind)) steps ≡ true
end_decides ladder base row steps (inl one) =
    one_decides (is_write_end row) (λ step. is_some (write_decided step.entry.kind))
    (λ step is. end_decides_write row step.entry.kind is) steps one
end_decides ladder base row steps (inr round) =
    any_weaker (λ step. is_fault step.entry.kind) (λ step. is_some (write_decided step.entry.kind))
    (λ step is. fault_decides_write step.entry.kind is) steps
    round.fault

pub write_is_decided : (ladder : List Entry → ℕ → LadderState) (base : ChannelBase) (row : ℕ) (steps : List CallStep) →
    IsWrite ladder base row steps → is_some (write_reply steps) ≡ true
write_is_decided ladder base row steps write =
    first_is_some (λ step. write_decided step.entry.kind) steps
    (subst (λ (list : List CallStep). list_any (λ step. is_some (write_decided step.entry.kind)) list ≡ true)
    (sym write.are_steps)
    (any_later (λ step. is_some (write_decided step.entry.kind)) (flat_map (λ part. part) write.parts) write.last
    (end_decides ladder base row write.last write.ends)))

-- a trim and an ageing
trim_decides : (row : ℕ) (kind : Kind) → is_trim_of row kind ≡ true → is_some (single_decided kind) ≡ true
trim_decides row (Kind.Trim named) e = refl
trim_decides row kind e = absurd (false≢true e)

age_decides : (die sb amount : ℕ) (kind : Kind) → is_age_of die sb amount kind ≡ true → is_some (single_decided kind) ≡ true
age_decides die sb amount (Kind.Age named block by) e = refl
age_decides die sb amount (Kind.FaultAge named block by) e = refl
age_decides die sb amount kind e = absurd (false≢true e)

pub trim_is_decided : (row : ℕ) (steps : List CallStep) → is_one (is_trim_of row) steps ≡ true →
    is_some (single_reply steps) ≡ true
trim_is_decided row steps one =
    first_is_some (λ step. single_decided step.entry.kind) steps
    (one_decides (is_trim_of row) (λ step. is_some (single_decided step.entry.kind))
    (λ step is. trim_decides row step.entry.kind is) steps one)

pub age_is_decided : (die sb amount : ℕ) (steps : List CallStep) → is_one (is_age_of die sb amount) steps ≡ true →
    is_some (single_reply steps) ≡ true
age_is_decided die sb amount steps one =
    first_is_some (λ step. single_decided step.entry.kind) steps
    (one_decides (is_age_of die sb amount) (λ step. is_some (single_decided step.entry.kind))
    (λ step is. age_decides die sb amount step.entry.kind is) steps one)

-- a read and a refresh: where the look found no page, where a sense failed, and by the ladder or what became of the copy
lone_decides : (p : CallStep → Bool) → ((step : CallStep) → is_look_of_none step.entry.kind ≡ true → p step ≡ true) →
    (row : ℕ) (steps : List CallStep) → is_lone_look row steps ≡ true → list_any p steps ≡ true
lone_decides p decides row [] is = absurd (false≢true is)
lone_decides p decides row (step ∷ []) is = any_first p step []
    (decides step (and_parts (is_look_of_none step.entry.kind) _ is).0)
lone_decides p decides row (step ∷ next ∷ steps) is = absurd (false≢true is)

-- the steps of a look have those between its senses and its leave, and its leave
in_ending : (p : CallStep → Bool) (steps : List CallStep) (look : CallStep) (ending : List CallStep) (leave : CallStep) →
    (list : IsLookList steps look ending leave) → list_any p (ending ++ leave ∷ []) ≡ true → list_any p steps ≡ true
in_ending p steps look ending leave list some =
    subst (λ (all : List CallStep). list_any p all ≡ true)
    (sym (list.are_steps ∙ joined look list.senses ending leave))
    (any_later p (look ∷ list.senses) (ending ++ leave ∷ []) some)
  where
    joined : (look : CallStep) (senses ending : List CallStep) (leave : CallStep) →
        ((look ∷ senses) ++ ending) ++ leave ∷ [] ≡ (look ∷ senses) ++ (ending ++ leave ∷ [])
    joined look senses ending leave = append_assoc (look ∷ senses) ending (leave ∷ [])

module _ (count : ℕ) (ladder : List Entry → ℕ → LadderState) where
  none_decides_read : (past : List Entry) (kind : Kind) → is_look_of_none kind ≡ true →
      is_some (read_decided count ladder past kind) ≡ true
  none_decides_read past (Kind.Look row Row.Empty closed) e = refl
  none_decides_read past (Kind.Look row Row.Lost closed) e = refl
  none_decides_read past (Kind.Look row (Row.Page slot serial) closed) e = absurd (false≢true e)
  none_decides_read past kind e = absurd (false≢true e)

  sense_decides_read : (at : ℕ) (past : List Entry) (kind : Kind) → is_fault_sense_of at kind ≡ true →
      is_some (read_decided count ladder past kind) ≡ true
  sense_decides_read at past (Kind.FaultSense named place level) e = refl
  sense_decides_read at past kind e = absurd (false≢true e)

  answer_decides : (state : LadderState) → has_answer state ≡ true → is_some (reply_of_ladder count state) ≡ true
  answer_decides (asks place level) e = absurd (false≢true e)
  answer_decides (recovered rung word) e = refl
  answer_decides uncorrectable e = refl

  leave_decides_read : (at : ℕ) (past : List Entry) (kind : Kind) → is_leave_of at kind ≡ true →
      has_answer (ladder past at) ≡ true → is_some (read_decided count ladder past kind) ≡ true
  leave_decides_read at past (Kind.Leave named) e answer =
      answer_decides (ladder past named) (subst (λ (n : ℕ). has_answer (ladder past n) ≡ true)
      (sym (eqb-true named at e)) answer)
  leave_decides_read at past kind e answer = absurd (false≢true e)

  read_end_decides : (at : ℕ) (ending : List CallStep) (leave : CallStep) → is_leave_of at leave.entry.kind ≡ true →
      is_read_end ladder at ending leave ≡ true →
      list_any (λ step. is_some (read_decided count ladder step.past step.entry.kind)) (ending ++ leave ∷ []) ≡ true
  read_end_decides at [] leave left ends =
      any_first (λ step. is_some (read_decided count ladder step.past step.entry.kind)) leave []
      (leave_decides_read at leave.past leave.entry.kind left ends)
  read_end_decides at (step ∷ []) leave left ends =
      any_first (λ step. is_some (read_decided count ladder step.past step.entry.kind)) step (leave ∷ [])
      (sense_decides_read at step.past step.entry.kind ends)
  read_end_decides at (step ∷ next ∷ steps) leave left ends = absurd (false≢true ends)

  pub read_is_decided : (row : ℕ) (steps : List CallStep) → IsRead ladder row steps →
      is_some (read_reply count ladder steps) ≡ true
  read_is_decided row steps (inl lone) =
      first_is_some (λ step. read_decided count ladder step.past step.entry.kind) steps
      (lone_decides (λ step. is_some (read_decided count ladder step.past step.entry.kind))
      (λ step is. none_decides_read step.past step.entry.kind is) row steps lone)
  read_is_decided row steps (inr page) =
      first_is_some (λ step. read_decided count ladder step.past step.entry.kind) steps
      (in_ending (λ step. is_some (read_decided count ladder step.past step.entry.kind)) steps page.look page.ending page.leave
      page.is_list
      (read_end_decides (position_of page.look) page.ending page.leave page.is_list.is_left page.ends))

module _ (ladder : List Entry → ℕ → LadderState) where
  none_decides_refresh : (past : List Entry) (kind : Kind) → is_look_of_none kind ≡ true →
      is_some (refresh_decided ladder past kind) ≡ true
  none_decides_refresh past (Kind.Look row Row.Empty closed) e = refl
  none_decides_refresh past (Kind.Look row Row.Lost closed) e = refl
  none_decides_refresh past (Kind.Look row (Row.Page slot serial) closed) e = absurd (false≢true e)
  none_decides_refresh past kind e = absurd (false≢true e)

  sense_decides_refresh : (at : ℕ) (past : List Entry) (kind : Kind) → is_fault_sense_of at kind ≡ true →
      is_some (refresh_decided ladder past kind) ≡ true
  sense_decides_refresh at past (Kind.FaultSense named place level) e = refl
  sense_decides_refresh at past kind e = absurd (false≢true e)

  copy_decides_refresh : (at : ℕ) (past : List Entry) (kind : Kind) → is_after_recovered at kind ≡ true →
      is_some (refresh_decided ladder past kind) ≡ true
  copy_decides_refresh at past (Kind.Move named slot) e = refl
  copy_decides_refresh at past (Kind.Changed named found) e = refl
  copy_decides_refresh at past (Kind.Stay named worn) e = refl
  copy_decides_refresh at past (Kind.BadCopy named slot die true) e = refl
  copy_decides_refresh at past (Kind.BadCopy named slot die false) e = refl
  copy_decides_refresh at past kind e = absurd (false≢true e)

  uncorrectable_decides : (state : LadderState) → is_uncorrectable state ≡ true → is_some (refresh_of_ladder state) ≡ true
  uncorrectable_decides (asks place level) e = absurd (false≢true e)
  uncorrectable_decides (recovered rung word) e = absurd (false≢true e)
  uncorrectable_decides uncorrectable e = refl

  leave_decides_refresh : (at : ℕ) (past : List Entry) (kind : Kind) → is_leave_of at kind ≡ true →
      is_uncorrectable (ladder past at) ≡ true → is_some (refresh_decided ladder past kind) ≡ true
  leave_decides_refresh at past (Kind.Leave named) e answer =
      uncorrectable_decides (ladder past named)
      (subst (λ (n : ℕ). is_uncorrectable (ladder past n) ≡ true) (sym (eqb-true named at e)) answer)
  leave_decides_refresh at past kind e answer = absurd (false≢true e)

  end_decides_refresh : (at : ℕ) (step : CallStep) → is_refresh_end ladder at step ≡ true →
      is_some (refresh_decided ladder step.past step.entry.kind) ≡ true
  end_decides_refresh at step ends =
      elim (or_cases (is_fault_sense_of at step.entry.kind)
      (is_recovered (ladder step.past at) && is_after_recovered at step.entry.kind) ends) [
        | inl fault ↦ sense_decides_refresh at step.past step.entry.kind fault
        | inr after ↦
            copy_decides_refresh at step.past step.entry.kind
            (and_parts (is_recovered (ladder step.past at)) (is_after_recovered at step.entry.kind) after).1
      ]

  refresh_end_decides : (at : ℕ) (ending : List CallStep) (leave : CallStep) → is_leave_of at leave.entry.kind ≡ true →
      is_refreshed ladder at ending leave ≡ true →
      list_any (λ step. is_some (refresh_decided ladder step.past step.entry.kind)) (ending ++ leave ∷ []) ≡ true
  refresh_end_decides at [] leave left ends =
      any_first (λ step. is_some (refresh_decided ladder step.past step.entry.kind)) leave []
      (leave_decides_refresh at leave.past leave.entry.kind left ends)
  refresh_end_decides at (step ∷ []) leave left ends =
      any_first (λ step. is_some (refresh_decided ladder step.past step.entry.kind)) step (leave ∷ [])
      (end_decides_refresh at step ends)
  refresh_end_decides at (step ∷ next ∷ steps) leave left ends = absurd (false≢true ends)

  pub refresh_is_decided : (row : ℕ) (steps : List CallStep) → IsRefresh ladder row steps →
      is_some (refresh_reply ladder steps) ≡ true
  refresh_is_decided row steps (inl lone) =
      first_is_some (λ step. refresh_decided ladder step.past step.entry.kind) steps
      (lone_decides (λ step. is_some (refresh_decided ladder step.past step.entry.kind))
      (λ step is. none_decides_refresh step.past step.entry.kind is) row steps lone)
  refresh_is_decided row steps (inr page) =
      first_is_some (λ step. refresh_decided ladder step.past step.entry.kind) steps
      (in_ending (λ step. is_some (refresh_decided ladder step.past step.entry.kind)) steps page.look page.ending page.leave
      page.is_list
      (refresh_end_decides (position_of page.look) page.ending page.leave page.is_list.is_left page.ends))

  -- a step that is no failed call doesn't decide that a refresh had one
  abbrev tells_no_fault : (option : Option RefreshReply) → Type 0
  tells_no_fault None = Unit {0}
  tells_no_fault (Some reply) = is_die_fault reply ≡ false

  ladder_tells_none : (state : LadderState) → tells_no_fault (refresh_of_ladder state)
  ladder_tells_none (asks place level) = tt
  ladder_tells_none (recovered rung word) = tt
  ladder_tells_none uncorrectable = refl

  step_tells_none : (past : List Entry) (kind : Kind) → is_fault kind ≡ false →
      tells_no_fault (refresh_decided ladder past kind)
  step_tells_none past (Kind.Look row Row.Empty closed) e = refl
  step_tells_none past (Kind.Look row Row.Lost closed) e = refl
  step_tells_none past (Kind.Look row (Row.Page slot serial) closed) e = tt
  step_tells_none past (Kind.Move at slot) e = refl
  step_tells_none past (Kind.Changed at found) e = refl
  step_tells_none past (Kind.Stay at true) e = refl
  step_tells_none past (Kind.Stay at false) e = refl
  step_tells_none past (Kind.BadCopy at slot die false) e = refl
  step_tells_none past (Kind.BadCopy at slot die true) e = absurd (true≢false e)
  step_tells_none past (Kind.Leave at) e = ladder_tells_none (ladder past at)
  step_tells_none past (Kind.FaultSense at place level) e = absurd (true≢false e)
  step_tells_none past (Kind.FaultAge die sb amount) e = absurd (true≢false e)
  step_tells_none past (Kind.BadWrite row slot die true) e = absurd (true≢false e)
  step_tells_none past (Kind.BadWrite row slot die false) e = tt
  step_tells_none past (Kind.BadErase sb die true) e = absurd (true≢false e)
  step_tells_none past (Kind.BadErase sb die false) e = tt
  step_tells_none past kind e = tt

  steps_tell_none : (steps : List CallStep) → has_fault steps ≡ false → tells_no_fault (refresh_reply ladder steps)
  steps_tell_none [] none = tt
  steps_tell_none (step ∷ steps) none =
      let parts = or_parts (is_fault step.entry.kind) (has_fault steps) none in
      by_option (refresh_decided ladder step.past step.entry.kind) (step_tells_none step.past step.entry.kind parts.0)
      (steps_tell_none steps parts.1)
    where
      by_option : (option : Option RefreshReply) → tells_no_fault option → tells_no_fault (refresh_reply ladder steps) →
          tells_no_fault (elim option as (λ _. Option RefreshReply)
          [ Some reply ↦ Some reply | None ↦ refresh_reply ladder steps ])
      by_option (Some reply) first later = first
      by_option None first later = later

  pub faultless_refresh : (steps : List CallStep) (reply : RefreshReply) → has_fault steps ≡ false →
      refresh_reply ladder steps ≡ Some reply → is_die_fault reply ≡ false
  faultless_refresh steps reply none is = subst tells_no_fault is (steps_tell_none steps none)
