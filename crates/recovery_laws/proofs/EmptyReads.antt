-- A read answers that a row is empty just where by its writes and trims the row held nothing at the look: the third law of
-- specs/ReadReplies.antt.
use Rattle.std.proofs.Common.{◌≡◌, ℕ, ◌-◌, ◌==◌, true, List, [], ◌∷◌, ◌++◌, length, ap, sym, subst, ◌∙◌, Option, Some, None, inl, inr, arith, All}
use Rattle.std.specs.Prelude.{unwrap_or}
use Rattle.std.proofs.lemmas.Bool.{and_parts}
use Rattle.std.proofs.lemmas.Bool.Decides.{nat_tests}
use Rattle.std.proofs.lemmas.List.Elements.{All-cons, All-nil}
use Rattle.ssd_geo.specs.Coding.{coding_of}
use Rattle.ssd_geo.specs.Ladder.{LadderState, asks, recovered, uncorrectable}
use Rattle.ssd_geo.specs.declared.entry.Entry.{Entry}
use Rattle.ssd_geo.specs.declared.kind.Kind.{Kind}
use Rattle.ssd_geo.specs.declared.reply.Reply.{Reply}
use Rattle.ssd_geo.specs.declared.row.Row.{Row}
use Rattle.ssd_geo.specs.declared.tag.Tag.{Tag}
use Rattle.ssd_histories.specs.CallSteps.{CallStep, is_leave_of, is_look_at_row, is_look_of_none, is_look_of_page, is_sense_of, position_of}
use Rattle.ssd_histories.specs.CallsInOrder.{ChannelRun, ladder_in, steps_on}
use Rattle.ssd_histories.specs.Copies.{IsRead, is_read_end}
use Rattle.ssd_histories.specs.Lawful.{IsLawful, IsLawfulKind, is_fault_sense_of}
use Rattle.ssd_histories.specs.PastRows.{row_of}
use Rattle.ssd_histories.specs.Replies.{first_reply, read_decided, read_reply, reply_of_ladder}
use Rattle.recovery_laws.specs.ReadReplies.{EmptyReadsHeldNothing, IsEmptyJustWhere}
use Rattle.recovery_laws.proofs.DecidedReads.{decided, leave_is, reply_behind}
use Rattle.recovery_laws.proofs.LookLists.{each_of_end, each_of_look}
use Rattle.recovery_laws.proofs.RecoveredReads.{empty_rows_were_trimmed}
use Rattle.recovery_laws.proofs.SettledLadders.{lawful_at}
use Rattle.recovery_laws.proofs.StepParts.{IsPart, steps_are_parts}

same_reply : (given reply : Reply) → Some given ≡ Some reply → given ≡ reply
same_reply given reply e = ap {B = Reply} (λ (option : Option Reply). unwrap_or option given) e

-- the reply that one step decides
pub one_decides : (option : Option Reply) (reply : Reply) → (elim option as (λ x. Option Reply) [ Some given ↦ Some given | None ↦ None ]) ≡ Some reply → option ≡ Some reply
one_decides None reply e = e
one_decides (Some given) reply e = e

-- neither a ladder nor a failed sense tells that a row is empty
ladder_isnt : (count : ℕ) (state : LadderState) (reply : Reply) → reply_of_ladder count state ≡ Some reply → reply ≡ Reply.Empty → ⊥
ladder_isnt count (asks place level) reply e f = absurd (cc)
ladder_isnt count (recovered rung word) reply e f = absurd (cc)
ladder_isnt count uncorrectable reply e f = absurd (cc)

fault_isnt : (count : ℕ) (ladder : List Entry → ℕ → LadderState) (past : List Entry) (at : ℕ) (kind : Kind) (reply : Reply) (rest : Option Reply) →
    is_fault_sense_of at kind ≡ true →
    (elim (read_decided count ladder past kind) as (λ x. Option Reply) [ Some given ↦ Some given | None ↦ rest ]) ≡ Some reply → reply ≡ Reply.Empty → ⊥
fault_isnt count ladder past at (Kind.FaultSense named place level) reply rest fault e f = absurd (cc)
fault_isnt count ladder past at kind reply rest fault e f = absurd (cc)

-- kinds that look at no row
sense_looks_not : (at row : ℕ) (kind : Kind) → is_sense_of at kind ≡ true → is_look_at_row row kind ≡ true → ⊥
sense_looks_not at row (Kind.Sense named place level) is looks = absurd (cc)
sense_looks_not at row kind is looks = absurd (cc)

fault_looks_not : (at row : ℕ) (kind : Kind) → is_fault_sense_of at kind ≡ true → is_look_at_row row kind ≡ true → ⊥
fault_looks_not at row (Kind.FaultSense named place level) is looks = absurd (cc)
fault_looks_not at row kind is looks = absurd (cc)

leave_looks_not : (at row : ℕ) (kind : Kind) → is_leave_of at kind ≡ true → is_look_at_row row kind ≡ true → ⊥
leave_looks_not at row (Kind.Leave named) is looks = absurd (cc)
leave_looks_not at row kind is looks = absurd (cc)

module _ (contents : List (Tag × List ℕ)) (run : ChannelRun) (lawful : IsLawful run.start contents run.past) (row : ℕ) (reply : Reply) where
  abbrev Part : CallStep → Type 0
  Part = IsPart (ladder_in contents run) run.start.base run.past

  abbrev Tells : CallStep → Type 0
  Tells = IsEmptyJustWhere contents run row reply

  abbrev decides : CallStep → Option Reply
  decides = decided run.start.base.shape.bytes (ladder_in contents run)

  same_row : (n : ℕ) → (n == row) ≡ true → n ≡ row
  same_row n e = grind (arith, nat_tests)

  -- by what the row was at a step
  empty_tells : (step : CallStep) → Part step → row_of run.start.base step.past row ≡ Row.Empty → reply ≡ Reply.Empty → Tells step
  empty_tells step part empty is = λ looks. (
    λ e. (empty_rows_were_trimmed run.start contents step.past row here).0 empty,
    λ e. is,
  )
    where
      here : IsLawful run.start contents step.past
      here =
          subst (IsLawful run.start contents) part.before
          (lawful_at (coding_of run.start.base) run.start contents (length run.past - position_of step) run.past lawful)

  other_tells : (step : CallStep) → Part step → (row_of run.start.base step.past row ≡ Row.Empty → ⊥) → (reply ≡ Reply.Empty → ⊥) → Tells step
  other_tells step part other isnt = λ looks. (
    λ e. absurd (isnt e),
    λ e. absurd (other ((empty_rows_were_trimmed run.start contents step.past row here).1 e)),
  )
    where
      here : IsLawful run.start contents step.past
      here =
          subst (IsLawful run.start contents) part.before
          (lawful_at (coding_of run.start.base) run.start contents (length run.past - position_of step) run.past lawful)

  -- a look that found none
  lone_tells : (step : CallStep) → Part step → is_look_of_none step.entry.kind ≡ true → is_look_at_row row step.entry.kind ≡ true → decides step ≡ Some reply →
      Tells step
  lone_tells step part none looks replies = by_kind step.entry.kind part.is_lawful none looks replies
    where
      by_kind : (kind : Kind) → IsLawfulKind (ladder_in contents run step.past) run.start.base step.past step.entry.tag kind → is_look_of_none kind ≡ true →
          is_look_at_row row kind ≡ true → read_decided run.start.base.shape.bytes (ladder_in contents run) step.past kind ≡ Some reply → Tells step
      by_kind (Kind.Look named Row.Empty closed) c is at_row decided_here =
          empty_tells step part (ap (row_of run.start.base step.past) (sym (same_row named at_row)) ∙ sym c.is_found)
          (sym (same_reply Reply.Empty reply decided_here))
      by_kind (Kind.Look named Row.Lost closed) c is at_row decided_here =
          other_tells step part (not_empty (row_of run.start.base step.past row) (c.is_found ∙ ap (row_of run.start.base step.past) (same_row named at_row)))
          (not_told (same_reply Reply.Uncorrectable reply decided_here))
        where
          not_empty : (held : Row) → Row.Lost ≡ held → held ≡ Row.Empty → ⊥
          not_empty held e f = absurd (cc)

          not_told : Reply.Uncorrectable ≡ reply → reply ≡ Reply.Empty → ⊥
          not_told e f = absurd (cc)
      by_kind kind c is at_row decided_here = absurd (cc)

  -- a look that found a page
  page_tells : (step : CallStep) → Part step → is_look_of_page step.entry.kind ≡ true → (reply ≡ Reply.Empty → ⊥) → is_look_at_row row step.entry.kind ≡ true → Tells step
  page_tells step part is_page isnt looks = by_kind step.entry.kind part.is_lawful is_page looks
    where
      by_kind : (kind : Kind) → IsLawfulKind (ladder_in contents run step.past) run.start.base step.past step.entry.tag kind → is_look_of_page kind ≡ true →
          is_look_at_row row kind ≡ true → Tells step
      by_kind (Kind.Look named (Row.Page slot serial) closed) c is at_row =
          other_tells step part (not_empty (row_of run.start.base step.past row) (c.is_found ∙ ap (row_of run.start.base step.past) (same_row named at_row))) isnt
        where
          not_empty : (held : Row) → Row.Page slot serial ≡ held → held ≡ Row.Empty → ⊥
          not_empty held e f = absurd (cc)
      by_kind kind c is at_row = absurd (cc)

  -- a read that found a page doesn't answer that the row is empty
  page_isnt : (at : ℕ) (ending : List CallStep) (leave : CallStep) → is_leave_of at leave.entry.kind ≡ true →
      is_read_end (ladder_in contents run) at ending leave ≡ true → first_reply decides (ending ++ leave ∷ []) ≡ Some reply → reply ≡ Reply.Empty → ⊥
  page_isnt at [] leave is_left ends replies =
      ladder_isnt run.start.base.shape.bytes (ladder_in contents run leave.past at) reply
      (ap (read_decided run.start.base.shape.bytes (ladder_in contents run) leave.past) (sym (leave_is at leave.entry.kind is_left))
      ∙ one_decides (decides leave) reply replies)
  page_isnt at (step ∷ []) leave is_left ends replies =
      fault_isnt run.start.base.shape.bytes (ladder_in contents run) step.past at step.entry.kind reply (first_reply decides (leave ∷ [])) ends replies
  page_isnt at (step ∷ next ∷ steps) leave is_left ends replies = absurd (grind arith)

  read_tells : (steps : List CallStep) → All Part steps → IsRead (ladder_in contents run) row steps →
      read_reply run.start.base.shape.bytes (ladder_in contents run) steps ≡ Some reply → All Tells steps
  read_tells [] parts (inl lone) replies = absurd (grind arith)
  read_tells (step ∷ []) parts (inl lone) replies =
      let tests = and_parts (is_look_of_none step.entry.kind) (is_look_at_row row step.entry.kind) lone in
      All-cons Tells step [] (lone_tells step (parts 0 step (omega arith)) tests.0 tests.1 (one_decides (decides step) reply replies)) (All-nil Tells)
  read_tells (step ∷ next ∷ steps) parts (inl lone) replies = absurd (grind arith)
  read_tells steps parts (inr list) replies =
      each_of_look Tells steps list.look list.ending list.leave list.is_list
      (page_tells list.look own list.is_list.finds_page
      (page_isnt (position_of list.look) list.ending list.leave list.is_list.is_left list.ends
      (reply_behind run.start.base.shape.bytes (ladder_in contents run) reply steps list.look list.ending list.leave list.is_list replies)) list.of_row)
      (λ step is looks. absurd (sense_looks_not (position_of list.look) row step.entry.kind is looks))
      (each_of_end Tells (ladder_in contents run) (position_of list.look) list.ending list.leave
      (λ step is looks. absurd (fault_looks_not (position_of list.look) row step.entry.kind is looks)) list.ends)
      (λ looks. absurd (leave_looks_not (position_of list.look) row list.leave.entry.kind list.is_list.is_left looks))
    where
      own : Part list.look
      own = (subst (All Part) list.is_list.are_steps parts) 0 list.look (omega arith)

pub empty_reads_held_nothing : EmptyReadsHeldNothing
empty_reads_held_nothing contents run tag row reply lawful is_read replies =
    read_tells contents run lawful row reply (steps_on tag run) (steps_are_parts (ladder_in contents run) run.start.base tag run.past lawful) is_read replies
