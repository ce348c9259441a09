-- What a caller that is alone copies, of a look that it has just made, is a copy or a refresh.
use Rattle.std.proofs.Common.{◌≡◌, ℕ, ◌==◌, ◌&&◌, ◌||◌, Bool, true, false, List, [], ◌∷◌, ◌++◌, length, Option, Some, None, ◌⊎◌, refl, sym, subst, ◌∙◌, ap, inl, inr}
use Rattle.std.specs.Prelude.{IsTrue, ℤ}
use Rattle.chan_state.specs.declared.answers.MoveAnswer.{MoveAnswer}
use Rattle.chan_state.specs.declared.answers.MoveAnswer.TheVariants as move
use Rattle.chan_tables.specs.declared.answers.CondemnAnswer.{CondemnAnswer}
use Rattle.chan_tables.specs.declared.answers.CondemnAnswer.TheVariants as condemn
use Rattle.ssd_histories.specs.CallSteps.{CallStep, is_fault, is_stay}
use Rattle.ssd_histories.specs.Copies.{is_copy_end, is_refresh_end}
use Rattle.ssd_histories.specs.Replies.{refresh_decided, refresh_of_ladder}
use Rattle.ssd_histories.specs.SerialCalls.{entry_of}
use Rattle.ssd_histories.specs.ServedCalls.{after_senses}
use Rattle.ssd_histories.specs.PastPages.{ladder_of}
use Rattle.ssd_histories.specs.Start.{Start}
use Rattle.ssd_geo.specs.Coding.{coding_of}
use Rattle.ssd_geo.specs.Ladder.{LadderState, is_recovered, is_uncorrectable}
use Rattle.ssd_geo.specs.declared.entry.Entry.{Entry}
use Rattle.ssd_geo.specs.declared.kind.Kind.{Kind}
use Rattle.ssd_geo.specs.declared.look.Look.{Look}
use Rattle.ssd_geo.specs.declared.place.Place.{Place}
use Rattle.ssd_geo.specs.declared.reply.RefreshReply.{RefreshReply}
use Rattle.ssd_geo.specs.declared.row.Row.{Row}
use Rattle.ssd_geo.specs.declared.tag.Tag.{Tag}
use Rattle.chan_calls.specs.Caller.{CallerView}
use Rattle.chan_calls.specs.Calls.{HasSenses, IsLeft}
use Rattle.chan_calls.specs.Copied.{CopiesAloneAreCopies, CopiesAloneAreRefreshes, CopiesFor, HasCopyFailed, HasJustLooked, IsCondemned, IsCopyBy, IsGivenUp, IsMoved, IsRefreshBy, is_die_fault, is_round_end, refresh_of_copy, reply_of_condemn, reply_of_move}
use Rattle.chan_calls.specs.Moving.{MakesCondemn, MakesMove}
use Rattle.chan_calls.specs.declared.copy_reply.CopyReply.{CopyReply}
use Rattle.chan_calls.proofs.AnsweredLooks.{or_left, or_right}
use Rattle.chan_calls.proofs.RefreshReplies.{given_up, last_reply, next_reply}
use Rattle.chan_calls.proofs.SensedSteps.{any_after, are_after, are_sense_steps, both, first_after, is_seen, sense_steps, senses_from, step_with}
use Rattle.shared_lemmas.proofs.Tests.{or_false, same_number}

-- What stands between the senses of a copy and its leave: an entry upon a past, which ends the copy
-- and its round as the reply says.
record Ends (ladder : List Entry → ℕ → LadderState) (tag : Tag) (at : ℕ) (past ended : List Entry)
    (reply : CopyReply) : Type 0 where
  kind : Kind
  ended_is : ended ≡ entry_of tag kind ∷ past
  round : (is_stay kind || is_fault kind) ≡ is_round_end reply
  fault : is_fault kind ≡ is_die_fault reply
  copy : IsTrue (is_copy_end ladder at (step_with tag kind past))

-- and which may stand in a refresh, whose reply it decides
record Refreshes (ladder : List Entry → ℕ → LadderState) (tag : Tag) (at : ℕ)
    (past ended : List Entry) (reply : CopyReply) : Type 0 where
  ends : Ends ladder tag at past ended reply
  refresh : IsTrue (is_refresh_end ladder at (step_with tag ends.kind past))
  decided : refresh_decided ladder past ends.kind ≡ Some (refresh_of_copy reply)

module _ (ladder : List Entry → ℕ → LadderState) (tag : Tag) (at : ℕ) (past ended : List Entry)
    (reply : CopyReply) where
  -- an entry that ends the copy of a page that was recovered
  by_kind : (kind : Kind) (given : CopyReply) → ended ≡ entry_of tag kind ∷ past →
      reply ≡ given → (is_stay kind || is_fault kind) ≡ is_round_end given →
      is_fault kind ≡ is_die_fault given →
      IsTrue (is_refresh_end ladder at (step_with tag kind past)) →
      IsTrue (is_copy_end ladder at (step_with tag kind past)) →
      refresh_decided ladder past kind ≡ Some (refresh_of_copy given) →
      Refreshes ladder tag at past ended reply
  by_kind kind given ended_is reply_is round fault refresh copy decided = record {
    ends = record {
      kind = kind;
      ended_is = ended_is;
      round = round ∙ ap is_round_end (sym reply_is);
      fault = fault ∙ ap is_die_fault (sym reply_is);
      copy = copy;
    };
    refresh = refresh;
    decided = decided ∙ ap (λ (r : CopyReply). Some (refresh_of_copy r)) (sym reply_is);
  }

  module _ (is : IsTrue (is_recovered (ladder past at))) where
    recovers : IsTrue (is_recovered (ladder past at) && (at == at))
    recovers = both (is_recovered (ladder past at)) (at == at) is (same_number at)

    ends_recovered : (rest : Bool) → IsTrue ((is_recovered (ladder past at) && (at == at)) || rest)
    ends_recovered rest = or_left (is_recovered (ladder past at) && (at == at)) rest recovers

    of_move : (answer : MoveAnswer) → MakesMove tag at past answer ended →
        reply ≡ reply_of_move answer → Refreshes ladder tag at past ended reply
    of_move (move.Changed row) made reply_is =
        by_kind (Kind.Changed at row) CopyReply.Changed made reply_is refl refl recovers
        (ends_recovered (is_uncorrectable (ladder past at) && (at == at))) refl
    of_move move.ReadOnly made reply_is =
        by_kind (Kind.Stay at true) CopyReply.ReadOnly made reply_is refl refl recovers
        (ends_recovered (is_uncorrectable (ladder past at) && false)) refl
    of_move move.NoRoom made reply_is =
        by_kind (Kind.Stay at false) CopyReply.NoRoom made reply_is refl refl recovers
        (ends_recovered (is_uncorrectable (ladder past at) && false)) refl
    of_move (move.Moved slot) made reply_is =
        by_kind (Kind.Move at slot) CopyReply.Moved made reply_is refl refl recovers
        (ends_recovered (is_uncorrectable (ladder past at) && false)) refl
    of_move (move.Failed sb) made reply_is =
        by_kind (Kind.BadCopy at made.0 made.1 false) CopyReply.Failed made.3 reply_is refl refl
        recovers (ends_recovered (is_uncorrectable (ladder past at) && false)) refl
    of_move (move.DieFault die) made reply_is =
        by_kind (Kind.BadCopy at made.0 die true) (CopyReply.DieFault die) made.1 reply_is refl refl
        recovers (ends_recovered (is_uncorrectable (ladder past at) && false)) refl

  -- one that ends the copy of a page that can't be
  module _ (is : IsTrue (is_uncorrectable (ladder past at))) where
    ends_uncorrectable : (a : Bool) →
        IsTrue (a || (is_uncorrectable (ladder past at) && (at == at)))
    ends_uncorrectable a =
        or_right a (is_uncorrectable (ladder past at) && (at == at))
        (both (is_uncorrectable (ladder past at)) (at == at) is (same_number at))

    of_condemn : (answer : CondemnAnswer) → MakesCondemn tag at past answer ended →
        reply ≡ reply_of_condemn answer → Ends ladder tag at past ended reply
    of_condemn (condemn.Changed row) made reply_is = record {
      kind = Kind.Changed at row;
      ended_is = made;
      round = ap is_round_end (sym reply_is);
      fault = ap is_die_fault (sym reply_is);
      copy = ends_uncorrectable (is_recovered (ladder past at) && (at == at));
    }
    of_condemn condemn.Condemned made reply_is = record {
      kind = Kind.Condemn at;
      ended_is = made;
      round = ap is_round_end (sym reply_is);
      fault = ap is_die_fault (sym reply_is);
      copy = ends_uncorrectable (is_recovered (ladder past at) && false);
    }

  -- a sense that failed
  of_fault : (place : Place) (level : ℤ) →
      ended ≡ entry_of tag (Kind.FaultSense at place level) ∷ past →
      reply ≡ CopyReply.DieFault place.die → Refreshes ladder tag at past ended reply
  of_fault place level ended_is reply_is =
      by_kind (Kind.FaultSense at place level) (CopyReply.DieFault place.die) ended_is reply_is refl
      refl
      (or_left (at == at) (is_recovered (ladder past at) && false) (same_number at))
      (or_left ((at == at) || (is_recovered (ladder past at) && false))
      (is_uncorrectable (ladder past at) && false)
      (or_left (at == at) (is_recovered (ladder past at) && false) (same_number at))) refl

module _ (start : Start) (contents : List (Tag × List ℕ)) (caller : CallerView) (tag : Tag)
    (look : Look) (before : List Entry) (alone : caller.number ≡ None)
    (just : HasJustLooked caller tag look before) where
  abbrev ladder : List Entry → ℕ → LadderState
  ladder = ladder_of (coding_of start.base) start contents

  abbrev at : ℕ
  at = length before

  abbrev looked : Kind
  looked = Kind.Look look.row (Row.Page look.slot look.serial) look.closed

  -- the past after the senses
  abbrev sensed : List (Place × ℤ) → List Entry
  sensed senses = after_senses tag at senses (entry_of tag looked ∷ before)

  at_end : (senses : HasSenses caller tag at caller.seen) → senses.after ≡ sensed senses.senses
  at_end senses =
      are_after caller tag alone at senses.senses caller.seen senses.after senses.are_senses
      ∙ ap {B = List Entry} (after_senses tag at senses.senses) just.seen_is

  -- the steps, with those that stand between the senses and the leave
  abbrev steps : List (Place × ℤ) → List CallStep → List Entry → List CallStep
  steps senses ending at_leave =
      (step_with tag looked before ∷ sense_steps tag at senses (entry_of tag looked ∷ before))
      ++ ending ++ step_with tag (Kind.Leave at) at_leave ∷ []

  -- one entry ended the copy
  module _ (senses : HasSenses caller tag at caller.seen) (past ended new : List Entry)
      (reply : CopyReply) (ends : Ends ladder tag at past ended reply)
      (found : past ≡ senses.after) (leaves : IsLeft caller tag at ended new) where
    abbrev ending : List CallStep
    ending = step_with tag ends.kind past ∷ []

    abbrev last : CallStep
    last = step_with tag (Kind.Leave at) leaves.at_leave

    left : leaves.at_leave ≡ entry_of tag ends.kind ∷ sensed senses.senses
    left =
        is_seen caller tag alone ended leaves.at_leave leaves.comes ∙ ends.ended_is
        ∙ ap {B = List Entry} (λ (p : List Entry). entry_of tag ends.kind ∷ p)
        (found ∙ at_end senses)

    abbrev all_steps : List CallStep
    all_steps = steps senses.senses ending leaves.at_leave

    ended_by_one : IsCopyBy start contents tag look before new reply
    ended_by_one = record {
      steps = all_steps;
      are_steps = (
        refl,
        refl,
        senses_from tag at senses.senses (entry_of tag looked ∷ before) ending (last ∷ []) new (
          found ∙ at_end senses,
          refl,
          (
            left,
            refl,
            ap {B = List Entry} (λ (p : List Entry). entry_of tag (Kind.Leave at) ∷ p) (sym left)
                ∙ sym leaves.new_is,
          ),
        ),
      );
      is_copy = record {
        ending = step_with tag ends.kind past;
        leave = last;
        is_list = record {
          senses = sense_steps tag at senses.senses (entry_of tag looked ∷ before);
          are_steps = refl;
          finds_page = refl;
          are_senses = are_sense_steps tag at senses.senses (entry_of tag looked ∷ before);
          is_left = same_number at;
        };
        ends = ends.copy;
      };
      ends_is =
          any_after (λ (kind : Kind). is_stay kind || is_fault kind) tag at senses.senses
          (entry_of tag looked ∷ before) ending (last ∷ []) (λ place level. refl)
          ∙ or_false (is_stay ends.kind || is_fault ends.kind) ∙ ends.round;
      fault_is =
          any_after is_fault tag at senses.senses (entry_of tag looked ∷ before) ending (last ∷ [])
          (λ place level. refl)
          ∙ or_false (is_fault ends.kind) ∙ ends.fault;
    }

    -- and the refresh
    refreshed : (refresh : IsTrue (is_refresh_end ladder at (step_with tag ends.kind past))) →
        refresh_decided ladder past ends.kind ≡ Some (refresh_of_copy reply) →
        IsRefreshBy start contents tag look before new reply
    refreshed refresh decided = record {
      steps = all_steps;
      are_steps = (
        refl,
        refl,
        senses_from tag at senses.senses (entry_of tag looked ∷ before) ending (last ∷ []) new (
          found ∙ at_end senses,
          refl,
          (
            left,
            refl,
            ap {B = List Entry} (λ (p : List Entry). entry_of tag (Kind.Leave at) ∷ p) (sym left)
                ∙ sym leaves.new_is,
          ),
        ),
      );
      is_refresh = inr (record {
        look = step_with tag looked before;
        ending = ending;
        leave = last;
        is_list = record {
          senses = sense_steps tag at senses.senses (entry_of tag looked ∷ before);
          are_steps = refl;
          finds_page = refl;
          are_senses = are_sense_steps tag at senses.senses (entry_of tag looked ∷ before);
          is_left = same_number at;
        };
        of_row = same_number look.row;
        ends = refresh;
      });
      reply_is =
          first_after RefreshReply
          (λ (step : CallStep). refresh_decided ladder step.past step.entry.kind) tag at
          senses.senses (entry_of tag looked ∷ before) ending (last ∷ []) (λ now place level. refl)
          ∙ next_reply (refresh_decided ladder past ends.kind)
          (elim (refresh_of_ladder (ladder leaves.at_leave at)) as
          (λ (o : Option RefreshReply). Option RefreshReply) [ Some given ↦ Some given | None ↦ None ])
          (refresh_of_copy reply) decided;
    }

  -- no entry did: the page can't be recovered
  left_alone : (senses : HasSenses caller tag at caller.seen) (ended new : List Entry)
      (reply : CopyReply) → IsGivenUp start contents at senses.after ended reply →
      IsLeft caller tag at ended new → IsRefreshBy start contents tag look before new reply
  left_alone senses ended new reply given leaves =
      let at_senses : leaves.at_leave ≡ senses.after =
      is_seen caller tag alone ended leaves.at_leave leaves.comes ∙ given.ended_is in
      let left : leaves.at_leave ≡ sensed senses.senses = at_senses ∙ at_end senses in
      let is : IsTrue (is_uncorrectable (ladder leaves.at_leave at)) =
      subst (λ (past : List Entry). IsTrue (is_uncorrectable (ladder past at))) (sym at_senses)
      given.is_uncorrectable in
      record {
        steps = steps senses.senses [] leaves.at_leave;
        are_steps = (
          refl,
          refl,
          senses_from tag at senses.senses (entry_of tag looked ∷ before) []
              (step_with tag (Kind.Leave at) leaves.at_leave ∷ []) new (
                left,
                refl,
                ap {B = List Entry} (λ (p : List Entry). entry_of tag (Kind.Leave at) ∷ p) (sym left)
                    ∙ sym leaves.new_is,
              ),
        );
        is_refresh = inr (record {
          look = step_with tag looked before;
          ending = [];
          leave = step_with tag (Kind.Leave at) leaves.at_leave;
          is_list = record {
            senses = sense_steps tag at senses.senses (entry_of tag looked ∷ before);
            are_steps = refl;
            finds_page = refl;
            are_senses = are_sense_steps tag at senses.senses (entry_of tag looked ∷ before);
            is_left = same_number at;
          };
          of_row = same_number look.row;
          ends = is;
        });
        reply_is =
            first_after RefreshReply
            (λ (step : CallStep). refresh_decided ladder step.past step.entry.kind) tag at
            senses.senses (entry_of tag looked ∷ before) []
            (step_with tag (Kind.Leave at) leaves.at_leave ∷ []) (λ now place level. refl)
            ∙ last_reply (refresh_of_ladder (ladder leaves.at_leave at)) RefreshReply.Uncorrectable
            (given_up (ladder leaves.at_leave at) is)
            ∙ ap (λ (r : CopyReply). Some (refresh_of_copy r)) (sym given.reply_is);
      }

  moved_refreshes : (senses : HasSenses caller tag at caller.seen) (ended : List Entry)
      (reply : CopyReply) (moved : IsMoved start contents caller tag at senses.after ended reply) →
      Refreshes ladder tag at moved.at_move ended reply
  moved_refreshes senses ended reply moved =
      of_move ladder tag at moved.at_move ended reply moved.is_recovered moved.answer moved.made
      moved.reply_is

  failed_refreshes : (new : List Entry) (reply : CopyReply)
      (failed : HasCopyFailed caller tag at new reply) →
      Refreshes ladder tag at failed.fails.at_sense
      (entry_of tag (Kind.FaultSense at failed.fails.place failed.fails.level)
      ∷ failed.fails.at_sense) reply
  failed_refreshes new reply failed =
      of_fault ladder tag at failed.fails.at_sense
      (entry_of tag (Kind.FaultSense at failed.fails.place failed.fails.level)
      ∷ failed.fails.at_sense) reply failed.fails.place failed.fails.level refl
      (failed.reply_is ∙ ap CopyReply.DieFault failed.fails.die_is)

  copied_is_copy : (new : List Entry) (reply : CopyReply) →
      CopiesFor start contents caller tag at true new reply →
      IsCopyBy start contents tag look before new reply
  copied_is_copy new reply (inl copied) = by_end copied.ends
    where
      by_end : IsMoved start contents caller tag at copied.senses.after copied.ended reply
          ⊎ IsCondemned start contents caller tag at copied.senses.after copied.ended reply →
          IsCopyBy start contents tag look before new reply
      by_end (inl moved) =
          ended_by_one copied.senses moved.at_move copied.ended new reply
          (moved_refreshes copied.senses copied.ended reply moved).ends
          (is_seen caller tag alone copied.senses.after moved.at_move moved.comes) copied.leaves
      by_end (inr condemned) =
          ended_by_one copied.senses condemned.at_condemn copied.ended new reply
          (of_condemn ladder tag at condemned.at_condemn copied.ended reply
          condemned.is_uncorrectable condemned.answer condemned.made condemned.reply_is)
          (is_seen caller tag alone copied.senses.after condemned.at_condemn condemned.comes)
          copied.leaves
  copied_is_copy new reply (inr failed) =
      ended_by_one failed.senses failed.fails.at_sense
      (entry_of tag (Kind.FaultSense at failed.fails.place failed.fails.level)
      ∷ failed.fails.at_sense) new reply (failed_refreshes new reply failed).ends
      (is_seen caller tag alone failed.senses.after failed.fails.at_sense failed.fails.comes)
      failed.fails.leaves

  copied_is_refresh : (new : List Entry) (reply : CopyReply) →
      CopiesFor start contents caller tag at false new reply →
      IsRefreshBy start contents tag look before new reply
  copied_is_refresh new reply (inl copied) = by_end copied.ends
    where
      by_end : IsMoved start contents caller tag at copied.senses.after copied.ended reply
          ⊎ IsGivenUp start contents at copied.senses.after copied.ended reply →
          IsRefreshBy start contents tag look before new reply
      by_end (inl moved) =
          let refreshes : Refreshes ladder tag at moved.at_move copied.ended reply =
          moved_refreshes copied.senses copied.ended reply moved in
          refreshed copied.senses moved.at_move copied.ended new reply refreshes.ends
          (is_seen caller tag alone copied.senses.after moved.at_move moved.comes) copied.leaves
          refreshes.refresh refreshes.decided
      by_end (inr given) = left_alone copied.senses copied.ended new reply given copied.leaves
  copied_is_refresh new reply (inr failed) =
      let refreshes = failed_refreshes new reply failed in
      refreshed failed.senses failed.fails.at_sense
      (entry_of tag (Kind.FaultSense at failed.fails.place failed.fails.level)
      ∷ failed.fails.at_sense) new reply refreshes.ends
      (is_seen caller tag alone failed.senses.after failed.fails.at_sense failed.fails.comes)
      failed.fails.leaves refreshes.refresh refreshes.decided

pub copies_are_copies : CopiesAloneAreCopies
copies_are_copies start contents caller tag look before new reply alone just copies =
    copied_is_copy start contents caller tag look before alone just new reply
    (subst (λ (at : ℕ). CopiesFor start contents caller tag at true new reply) just.at_is copies)

pub copies_are_refreshes : CopiesAloneAreRefreshes
copies_are_refreshes start contents caller tag look before new reply alone just copies =
    copied_is_refresh start contents caller tag look before alone just new reply
    (subst (λ (at : ℕ). CopiesFor start contents caller tag at false new reply) just.at_is copies)
