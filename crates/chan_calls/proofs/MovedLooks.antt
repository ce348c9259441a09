-- What becomes of the page of a look at its ladder's answer: it is moved, or its row condemned. The
-- look's ladder stays where it is, since no sense is made.
use Rattle.std.proofs.Common.{◌≡◌, ℕ, ◌<◌, Bool, true, false, List, ◌∷◌, length, Option, refl, sym, ap, subst, ◌∙◌, inl, inr}
use Rattle.std.specs.Prelude.{IsSome, IsTrue}
use Rattle.chan_state.specs.declared.answers.MoveAnswer.{MoveAnswer}
use Rattle.chan_state.specs.declared.answers.MoveAnswer.TheVariants as move
use Rattle.chan_tables.specs.declared.answers.CondemnAnswer.{CondemnAnswer}
use Rattle.chan_tables.specs.declared.answers.CondemnAnswer.TheVariants as condemn
use Rattle.retry_ladder.specs.View.{IsAnswerOf}
use Rattle.retry_ladder.specs.declared.ask.Answer.{Answer}
use Rattle.ssd_geo.specs.Coding.{coding_of}
use Rattle.ssd_geo.specs.Ladder.{LadderState, asks, is_recovered, is_uncorrectable, recovered, uncorrectable, word_recovered}
use Rattle.ssd_histories.specs.PastPages.{ladder_of}
use Rattle.ssd_histories.specs.Start.{Start}
use Rattle.ssd_geo.specs.declared.entry.Entry.{Entry}
use Rattle.ssd_geo.specs.declared.kind.Kind.{Kind}
use Rattle.ssd_geo.specs.declared.look.Look.{Look}
use Rattle.ssd_geo.specs.declared.tag.Tag.{Tag}
use Rattle.chan_calls.specs.Caller.{CallerView, Comes, own_look}
use Rattle.chan_calls.specs.Copied.{EndsCopy, reply_of_condemn, reply_of_move}
use Rattle.chan_calls.specs.Moving.{Condemns, IsRecoveredAs, MakesCondemn, MakesMove, Moves}
use Rattle.chan_calls.specs.Stepping.{Standing}
use Rattle.chan_calls.specs.declared.copy_reply.CopyReply.{CopyReply}
use Rattle.chan_calls.proofs.SensedLooks.{ladder_after, ladder_stays, own_began}

-- an answer tells whether the page was recovered
pub recovered_at : (state : LadderState) (rung : ℕ) → IsAnswerOf state (Answer.Recovered rung) →
    IsTrue (is_recovered state)
recovered_at (asks place level) rung is = absurd is
recovered_at (recovered found word) rung is = refl
recovered_at uncorrectable rung is = absurd (cc)

pub uncorrectable_at : (state : LadderState) → IsAnswerOf state Answer.Uncorrectable →
    state ≡ uncorrectable
uncorrectable_at (asks place level) is = absurd is
uncorrectable_at (recovered found word) is = absurd (cc)
uncorrectable_at uncorrectable is = refl

recovered_as : (state : LadderState) (word : List ℕ) → IsTrue (is_recovered state) →
    word ≡ word_recovered state → IsRecoveredAs word state
recovered_as (asks place level) word is word_is = absurd (cc)
recovered_as (recovered rung found) word is word_is = (rung, ap (recovered rung) (sym word_is))
recovered_as uncorrectable word is word_is = absurd (cc)

module _ (start : Start) (contents : List (Tag × List ℕ)) (tag : Tag) (at : ℕ)
    (now seen : List Entry) (began : at < length now) where
  made_ladder : (kind : Kind) → seen ≡ record { tag = tag; kind = kind } ∷ now →
      ladder_of (coding_of start.base) start contents (record { tag = tag; kind = kind } ∷ now) at
      ≡ ladder_of (coding_of start.base) start contents now at →
      ladder_of (coding_of start.base) start contents seen at
      ≡ ladder_of (coding_of start.base) start contents now at
  made_ladder kind seen_is stays =
      ap (λ (past : List Entry). ladder_of (coding_of start.base) start contents past at) seen_is
      ∙ stays

  move_ladder : (answer : MoveAnswer) → MakesMove tag at now answer seen →
      ladder_of (coding_of start.base) start contents seen at
      ≡ ladder_of (coding_of start.base) start contents now at
  move_ladder (move.Changed row) made =
      made_ladder (Kind.Changed at row) made
      (ladder_after (coding_of start.base) start contents now tag (Kind.Changed at row) at began
      refl)
  move_ladder move.ReadOnly made =
      made_ladder (Kind.Stay at true) made
      (ladder_after (coding_of start.base) start contents now tag (Kind.Stay at true) at began refl)
  move_ladder move.NoRoom made =
      made_ladder (Kind.Stay at false) made
      (ladder_after (coding_of start.base) start contents now tag (Kind.Stay at false) at began
      refl)
  move_ladder (move.Moved slot) made =
      made_ladder (Kind.Move at slot) made
      (ladder_after (coding_of start.base) start contents now tag (Kind.Move at slot) at began refl)
  move_ladder (move.Failed sb) made =
      made_ladder (Kind.BadCopy at made.0 made.1 false) made.3
      (ladder_after (coding_of start.base) start contents now tag
      (Kind.BadCopy at made.0 made.1 false) at began refl)
  move_ladder (move.DieFault die) made =
      made_ladder (Kind.BadCopy at made.0 die true) made.1
      (ladder_after (coding_of start.base) start contents now tag (Kind.BadCopy at made.0 die true)
      at began refl)

  condemn_ladder : (answer : CondemnAnswer) → MakesCondemn tag at now answer seen →
      ladder_of (coding_of start.base) start contents seen at
      ≡ ladder_of (coding_of start.base) start contents now at
  condemn_ladder (condemn.Changed row) made =
      made_ladder (Kind.Changed at row) made
      (ladder_after (coding_of start.base) start contents now tag (Kind.Changed at row) at began
      refl)
  condemn_ladder condemn.Condemned made =
      made_ladder (Kind.Condemn at) made
      (ladder_after (coding_of start.base) start contents now tag (Kind.Condemn at) at began refl)

module _ (old new : CallerView) (stood stands : Standing) (tag : Tag) (at : ℕ)
    (is_open : IsSome (own_look tag old.seen at)) where
  now_began : (now : List Entry) → Comes old tag now → at < length now
  now_began now comes =
      own_began now tag at
      (subst (λ (look : Option Look). IsSome look) (sym (comes.looks_stay at)) is_open)

  -- a page that was recovered was to be moved
  pub move_ends : (word : List ℕ) (answer : MoveAnswer) (reply : CopyReply) (condemns : Bool)
      (state : LadderState) → Moves old new stood stands tag at word answer →
      IsTrue (is_recovered state) → word ≡ word_recovered state → reply ≡ reply_of_move answer →
      EndsCopy old new stood stands tag at condemns state reply
  move_ends word answer reply condemns state moves is word_is reply_is =
      λ start contents is_of stood_for at_state.
      let step = moves.goes_on start contents is_of stood_for
      (subst (IsRecoveredAs word) (sym at_state) (recovered_as state word is word_is)) in
      let at_now : ladder_of (coding_of start.base) start contents moves.now at ≡ state =
      ladder_stays start contents old.seen moves.now at step.0 ∙ at_state in (
        inl (record {
          at_move = moves.now;
          comes = moves.comes;
          is_recovered =
              subst (λ (s : LadderState). IsTrue (is_recovered s)) (sym at_now) is;
          answer = answer;
          made = moves.made;
          reply_is = reply_is;
        }),
        move_ladder start contents tag at moves.now new.seen (now_began moves.now moves.comes) answer
            moves.made ∙ at_now,
        step.1,
        step.2,
      )

  -- the row of one that can't be was to be condemned
  pub condemn_ends : (answer : CondemnAnswer) (reply : CopyReply) (state : LadderState) →
      Condemns old new stood stands tag at answer → state ≡ uncorrectable →
      reply ≡ reply_of_condemn answer → EndsCopy old new stood stands tag at true state reply
  condemn_ends answer reply state condemns is reply_is =
      λ start contents is_of stood_for at_state.
      let step = condemns.goes_on start contents is_of stood_for (at_state ∙ is) in
      let at_now : ladder_of (coding_of start.base) start contents condemns.now at ≡ state =
      ladder_stays start contents old.seen condemns.now at step.0 ∙ at_state in (
        inr (record {
          at_condemn = condemns.now;
          comes = condemns.comes;
          is_uncorrectable =
              subst (λ (s : LadderState). IsTrue (is_uncorrectable s)) (sym (at_now ∙ is)) refl;
          answer = answer;
          made = condemns.made;
          reply_is = reply_is;
        }),
        condemn_ladder start contents tag at condemns.now new.seen
            (now_began condemns.now condemns.comes) answer condemns.made ∙ at_now,
        step.1,
        step.2,
      )
