-- What the steps of a read answer on a channel that began blank: that the row is empty where its look found none, and else the
-- data that the look's ladder knows, at rung 0.
use Rattle.std.proofs.Common.{◌≡◌, ℕ, ◌-◌, ◌<◌, ◌==◌, true, false, List, [], ◌∷◌, ◌++◌, length, refl, ap, sym, subst, ◌∙◌, Option, Some, inl, inr, append_assoc, arith, All}
use Rattle.std.proofs.lemmas.Bool.{and_parts, false≢true, true≢false}
use Rattle.std.proofs.lemmas.Bool.Decides.{nat_tests}
use Rattle.std.proofs.lemmas.List.Elements.{All-head, All-tail}
use Rattle.ssd_geo.specs.Coding.{coding_of}
use Rattle.ssd_geo.specs.Ladder.{LadderState, asks, recovered, uncorrectable}
use Rattle.ssd_geo.specs.declared.entry.Entry.{Entry}
use Rattle.ssd_geo.specs.declared.kind.Kind.{Kind}
use Rattle.ssd_geo.specs.declared.look.Look.{Look}
use Rattle.ssd_geo.specs.declared.reply.Reply.{Reply}
use Rattle.ssd_geo.specs.declared.row.Row.{Row}
use Rattle.ssd_geo.specs.declared.tag.Tag.{Tag}
use Rattle.ssd_histories.specs.CallSteps.{CallStep, is_fault, is_look_at_row, is_look_of_none, is_look_of_page, position_of}
use Rattle.ssd_histories.specs.CallsInOrder.{ChannelRun, ladder_in, steps_on}
use Rattle.ssd_histories.specs.Copies.{IsRead, is_read_end}
use Rattle.ssd_histories.specs.History.{look_made, look_of}
use Rattle.ssd_histories.specs.Lawful.{IsLawfulKind, IsLawfulLeave, is_fault_sense_of}
use Rattle.ssd_histories.specs.PastPages.{ladder_of}
use Rattle.ssd_histories.specs.PastRows.{row_of}
use Rattle.ssd_histories.specs.PlainMap.{bytes, nothing, past_at, plain_of}
use Rattle.ssd_histories.specs.Replies.{bytes_of_word, first_reply, read_decided, read_reply, reply_of_ladder}
use Rattle.recovery_laws.proofs.DecidedReads.{decided, leave_is, reply_behind}
use Rattle.recovery_laws.proofs.Pasts.{StepLook, look_is_made_at, step_look}
use Rattle.recovery_laws.proofs.RecoveredReads.{empty_rows_were_trimmed}
use Rattle.recovery_laws.proofs.SettledLadders.{ladder_stays}
use Rattle.recovery_laws.proofs.StepParts.{IsPart, steps_are_parts}
use Rattle.run_laws.specs.FirstSenses.{IsUnagedPast}
use Rattle.complete_runs.specs.PlainAnswers.{AnswersPlain, answer_of}
use Rattle.complete_runs.specs.UncountedRuns.{IsFaultless}
use Rattle.complete_runs.proofs.DrainedReplies.{Calm}
use Rattle.complete_runs.proofs.FirstSteps.{steps_have}
use Rattle.complete_runs.proofs.FirstWords.{KnowsFirst, unaged_at}
use Rattle.complete_runs.proofs.KnownRows.{AreEmpty, KnowsPage, looks_know_pages, no_row_is_lost}
use Rattle.recovery_laws.proofs.EmptyReads.{one_decides}

-- what a ladder that knows a word gives
known_reply : (count : ℕ) (word : List ℕ) (state : LadderState) (reply : Reply) → KnowsFirst word state →
    reply_of_ladder count state ≡ Some reply → Some (Reply.Data 0 (bytes_of_word count word)) ≡ Some reply
known_reply count word (asks place level) reply knows is = absurd (cc)
known_reply count word (recovered rung found) reply knows is =
    (λ i. Some (Reply.Data (sym knows.0 i) (bytes_of_word count (sym knows.1 i)))) ∙ is
known_reply count word uncorrectable reply knows is = absurd knows

pub all_behind : {X : Type 0} (P : X → Type 0) (xs ys : List X) → All P (xs ++ ys) → All P ys
all_behind P [] ys all = all
all_behind P (x ∷ xs) ys all = all_behind P xs ys (All-tail P x (xs ++ ys) all)

fault_isnt_calm : (at : ℕ) (kind : Kind) → is_fault_sense_of at kind ≡ true → is_fault kind ≡ false → ⊥
fault_isnt_calm at (Kind.FaultSense named place level) is calm = true≢false calm
fault_isnt_calm at kind is calm = false≢true is

module _ (contents : List (Tag × List ℕ)) (run : ChannelRun) (empty : AreEmpty run.start.base)
    (unaged : IsUnagedPast run.start contents run.past) (tag : Tag) (row : ℕ) (reply : Reply) where
  abbrev ladder : List Entry → ℕ → LadderState
  ladder = ladder_of (coding_of run.start.base) run.start contents

  abbrev count : ℕ
  count = run.start.base.shape.bytes

  abbrev Part : CallStep → Type 0
  Part = IsPart (ladder_in contents run) run.start.base run.past

  abbrev decides : CallStep → Option Reply
  decides = decided run.start.base.shape.bytes (ladder_in contents run)

  same_row : (n : ℕ) → (n == row) ≡ true → n ≡ row
  same_row n e = grind (arith, nat_tests)

  unaged_before : (step : CallStep) → Part step → IsUnagedPast run.start contents step.past
  unaged_before step part =
      subst (IsUnagedPast run.start contents) part.before
      (unaged_at run.start contents run.past (length run.past - position_of step) unaged)

  -- a look that found no page found that the row is empty
  none_is_plain : (step : CallStep) → Part step → is_look_of_none step.entry.kind ≡ true → is_look_at_row row step.entry.kind ≡ true →
      decides step ≡ Some reply → answer_of (plain_of run.start.base contents step.past row) ≡ Some reply
  none_is_plain step part none looks replies = by_kind step.entry.kind part.is_lawful none looks replies
    where
      by_kind : (kind : Kind) → IsLawfulKind (ladder_in contents run step.past) run.start.base step.past step.entry.tag kind →
          is_look_of_none kind ≡ true → is_look_at_row row kind ≡ true →
          read_decided run.start.base.shape.bytes (ladder_in contents run) step.past kind ≡ Some reply →
          answer_of (plain_of run.start.base contents step.past row) ≡ Some reply
      by_kind (Kind.Look named Row.Empty closed) c is at_row decided_here =
          let held : row_of run.start.base step.past row ≡ Row.Empty =
          ap (row_of run.start.base step.past) (sym (same_row named at_row)) ∙ sym c.is_found in
          let plain : plain_of run.start.base contents step.past row ≡ nothing =
          (empty_rows_were_trimmed run.start contents step.past row (unaged_before step part).is_written.is_lawful).0 held in
          ap {B = Option Reply} answer_of plain ∙ decided_here
      by_kind (Kind.Look named Row.Lost closed) c is at_row decided_here =
          absurd (no_row_is_lost run.start contents step.past named empty (unaged_before step part) (sym c.is_found))
      by_kind kind c is at_row decided_here = absurd (false≢true is)

  -- the ladder of a look that was left is as it was then
  left_ladder : (leave : CallStep) (at : ℕ) → Part leave → leave.entry.kind ≡ Kind.Leave at →
      ladder_of (coding_of run.start.base) run.start contents run.past at ≡ ladder_of (coding_of run.start.base) run.start contents leave.past at
  left_ladder leave at part is =
      let step : StepLook leave.past at (λ pin. Unit {0})
      (λ look. IsLawfulLeave (ladder_of (coding_of run.start.base) run.start contents leave.past at) leave.past at) =
      step_look leave.past leave.entry.tag at (λ pin. Unit {0})
      (λ look. IsLawfulLeave (ladder_of (coding_of run.start.base) run.start contents leave.past at) leave.past at) (λ k d within. tt)
      (subst (IsLawfulKind (ladder_of (coding_of run.start.base) run.start contents leave.past) run.start.base leave.past leave.entry.tag) is part.is_lawful) in
      ladder_stays (coding_of run.start.base) run.start contents run.past (position_of leave) at unaged.is_written.is_lawful
      (subst (λ (before : List Entry). at < length before) (sym part.before) (look_is_made_at leave.past at step.pin.1 step.is_look).below)
      (subst (λ (before : List Entry). IsLawfulLeave (ladder_of (coding_of run.start.base) run.start contents before at) before at) (sym part.before) step.fact)
      ∙ ap (λ (before : List Entry). ladder_of (coding_of run.start.base) run.start contents before at) part.before

  -- the reply behind the senses of a look that found a page, where no sense failed
  left_reply : (at : ℕ) (ending : List CallStep) (leave : CallStep) → All Part (ending ++ leave ∷ []) → All Calm (ending ++ leave ∷ []) →
      leave.entry.kind ≡ Kind.Leave at → is_read_end (ladder_in contents run) at ending leave ≡ true →
      first_reply decides (ending ++ leave ∷ []) ≡ Some reply →
      reply_of_ladder run.start.base.shape.bytes (ladder_of (coding_of run.start.base) run.start contents run.past at) ≡ Some reply
  left_reply at [] leave parts calm is_leave ends replies =
      ap (reply_of_ladder run.start.base.shape.bytes) (left_ladder leave at (All-head Part leave [] parts) is_leave)
      ∙ ap (read_decided run.start.base.shape.bytes (ladder_in contents run) leave.past) (sym is_leave)
      ∙ one_decides (decides leave) reply replies
  left_reply at (step ∷ []) leave parts calm is_leave ends replies =
      absurd (fault_isnt_calm at step.entry.kind ends (All-head Calm step (leave ∷ []) calm))
  left_reply at (step ∷ next ∷ steps) leave parts calm is_leave ends replies = absurd (false≢true ends)

  page_is_plain : (look : CallStep) → Part look → is_look_of_page look.entry.kind ≡ true → is_look_at_row row look.entry.kind ≡ true →
      reply_of_ladder run.start.base.shape.bytes (ladder_of (coding_of run.start.base) run.start contents run.past (position_of look)) ≡ Some reply →
      answer_of (plain_of run.start.base contents look.past row) ≡ Some reply
  page_is_plain look part is_page looks replies = by_kind look.entry.kind part.look is_page looks
    where
      by_kind : (kind : Kind) → look_of run.past (position_of look) ≡ look_made (position_of look) kind → is_look_of_page kind ≡ true →
          is_look_at_row row kind ≡ true → answer_of (plain_of run.start.base contents look.past row) ≡ Some reply
      by_kind (Kind.Look named (Row.Page slot serial) closed) is page at_row =
          let at : ℕ = position_of look in
          let made_look : Look = record { at = position_of look; row = named; slot = slot; serial = serial; closed = closed } in
          let known : KnowsPage run.start contents run.past (position_of look) made_look =
          looks_know_pages run.start contents run.past (position_of look) made_look empty unaged is in
          let plain : plain_of run.start.base contents look.past row ≡ bytes known.data_bytes =
          ap (λ (before : List Entry). plain_of run.start.base contents before row) (sym part.before)
          ∙ ap (plain_of run.start.base contents (past_at run.past (position_of look))) (sym (same_row named at_row))
          ∙ known.is_plain in
          ap {B = Option Reply} answer_of plain
          ∙ ap {B = Option Reply} (λ (given : List ℕ). Some (Reply.Data 0 given)) (sym known.has_data)
          ∙ known_reply run.start.base.shape.bytes _ (ladder_of (coding_of run.start.base) run.start contents run.past (position_of look)) reply known.knows replies
      by_kind kind is page at_row = absurd (false≢true page)

  read_answers : (steps : List CallStep) → steps_on tag run ≡ steps → All Part steps → All Calm steps →
      IsRead (ladder_in contents run) row steps →
      read_reply run.start.base.shape.bytes (ladder_in contents run) steps ≡ Some reply → AnswersPlain contents run tag row reply
  read_answers [] are parts calm (inl lone) replies = absurd (false≢true lone)
  read_answers (step ∷ []) are parts calm (inl lone) replies =
      let tests = and_parts (is_look_of_none step.entry.kind) (is_look_at_row row step.entry.kind) lone in
      record {
        look = step;
        rest = [];
        are_steps = are;
        is_look = tests.1;
        is_answer = none_is_plain step (All-head Part step [] parts) tests.0 tests.1 (one_decides (decides step) reply replies);
      }
  read_answers (step ∷ next ∷ steps) are parts calm (inl lone) replies = absurd (false≢true lone)
  read_answers steps are parts calm (inr list) replies =
      record {
        look = look;
        rest = senses ++ ending ++ leave ∷ [];
        are_steps = are ∙ list.is_list.are_steps;
        is_look = list.of_row;
        is_answer =
            page_is_plain look (All-head Part look (senses ++ rest) (subst (All Part) are_here parts)) list.is_list.finds_page list.of_row
            (left_reply (position_of look) ending leave
            (all_behind Part senses rest (All-tail Part look (senses ++ rest) (subst (All Part) are_here parts)))
            (all_behind Calm senses rest (All-tail Calm look (senses ++ rest) (subst (All Calm) are_here calm)))
            (leave_is (position_of look) leave.entry.kind list.is_list.is_left) list.ends
            (reply_behind run.start.base.shape.bytes (ladder_in contents run) reply steps look ending leave list.is_list replies));
      }
    where
      open list use {look, ending, leave}
      open list.is_list use {senses}

      rest : List CallStep
      rest = ending ++ leave ∷ []

      are_here : steps ≡ look ∷ (senses ++ rest)
      are_here = list.is_list.are_steps ∙ ap (λ (others : List CallStep). look ∷ others) (append_assoc senses ending (leave ∷ []))

-- a read's own steps
pub reads_answer_plain : (contents : List (Tag × List ℕ)) (run : ChannelRun) (tag : Tag) (row : ℕ) (reply : Reply) → AreEmpty run.start.base →
    IsUnagedPast run.start contents run.past → IsFaultless run → IsRead (ladder_in contents run) row (steps_on tag run) →
    read_reply run.start.base.shape.bytes (ladder_in contents run) (steps_on tag run) ≡ Some reply → AnswersPlain contents run tag row reply
reads_answer_plain contents run tag row reply empty unaged faultless is_read replies =
    read_answers contents run empty unaged tag row reply (steps_on tag run) refl
    (steps_are_parts (ladder_in contents run) run.start.base tag run.past unaged.is_written.is_lawful)
    (steps_have (λ kind. is_fault kind ≡ false) tag run.past faultless) is_read replies
