-- A round after its pick was answered, and a collect as far as it has come: what follows of the steps is told of the caller
-- that
-- began it.
use Rattle.std.proofs.Common.{◌≡◌, ℕ, ◌<◌, ◌-◌, Bool, true, false, List, length, Option, Some, None, refl, sym, subst, ◌⊎◌, inl, inr}
use Rattle.std.specs.Prelude.{Result, Ok, Err, IsErrAnd, IsFalse, IsTrue}
use Rattle.std.proofs.lemmas.Option.{none-some}
use Rattle.chan_calls.specs.Caller.{CallerView, HasStepRoom, SameCaller}
use Rattle.chan_calls.specs.Calls.{GoesOnFor}
use Rattle.chan_calls.specs.Collecting.{MakesNote, MakesPick}
use Rattle.chan_calls.specs.Stepping.{GoesOn, IsStepped, OfEachBase, Standing}
use Rattle.chan_calls.specs.Workers.{MayCall, WorkerState}
use Rattle.chan_calls.proofs.AddedKinds.{same_caller_on}
use Rattle.chan_state.specs.declared.answers.PickAnswer.{PickAnswer}
use Rattle.chan_state.specs.declared.answers.PickAnswer.TheVariants.{Busy, NoGarbage, Picked, ReadOnly}
use Rattle.chan_tables.specs.declared.answers.Note.{Note}
use Rattle.ssd_geo.specs.declared.entry.Entry.{Entry}
use Rattle.ssd_geo.specs.declared.stop.StepStop.{StepStop}
use Rattle.ssd_geo.specs.declared.tag.Tag.{Tag}
use Rattle.collector.specs.Collects.{HasNoted, LeavesRounds, MakesCollect, MakesTurn, Notes, by_note, by_round, decided_by, is_idle, none_yet, one_more, reply_of_note, result_of_note}
use Rattle.collector.specs.Emptying.{Empties, OfEach, having_seen}
use Rattle.collector.specs.Rounds.{FollowsPick, MakesRound}
use Rattle.collector.specs.declared.replies.CollectReply.{CollectReply}
use Rattle.collector.specs.declared.replies.CollectReply.TheVariants.{Idle}
use Rattle.collector.specs.declared.replies.RoundReply.{RoundReply}
use Rattle.collector.specs.declared.replies.RoundReply.TheVariants.{Left}
use Rattle.collector.specs.declared.replies.RoundReply.TheVariants as round
use Rattle.collector.proofs.FirstCallers.{as_first, emptying_of_first, goes_on_both, is_that_stop, is_to_pick, may_still, of_one_base, same_itself, same_worker_on, turn_of_first, works_still}
use Rattle.collector.proofs.GrownPasts.{less_left, noted_advances}

-- the pick of a round
module _ (worker : WorkerState) (old picked : CallerView) (stood stands : Standing) (tag : Tag) where
  -- it was refused
  pub pick_refused : (stop : StepStop) →
      IsStepped HasStepRoom (MakesPick (OfEachBase old stood) tag) tag old picked (Err stop) →
      MakesRound worker old stood tag picked.seen (Err stop)
  pick_refused stop stepped = λ start contents works is_of stood_for.
      inl (is_to_pick start contents old stood is_of stood_for tag picked (Err stop) stepped)

  -- what follows its answer, for each start and contents
  follows_pick : (answer : PickAnswer) (new : List Entry) (result : Result RoundReply StepStop) →
      IsStepped HasStepRoom (MakesPick (OfEachBase old stood) tag) tag old picked (Ok answer) →
      OfEach worker old stood (λ start contents. FollowsPick start contents old tag answer picked.seen new result) →
      MakesRound worker old stood tag new result
  follows_pick answer new (Ok reply) stepped follows = λ start contents works is_of stood_for. record {
    answer = answer;
    picked = picked.seen;
    picks = is_to_pick start contents old stood is_of stood_for tag picked (Ok answer) stepped;
    follows = follows start contents works is_of stood_for;
  }
  follows_pick answer new (Err stop) stepped follows = λ start contents works is_of stood_for. inr (record {
    answer = answer;
    picked = picked.seen;
    picks = is_to_pick start contents old stood is_of stood_for tag picked (Ok answer) stepped;
    follows = follows start contents works is_of stood_for;
  })

  -- no superblock is free, or none has garbage
  none_free : IsStepped HasStepRoom (MakesPick (OfEachBase old stood) tag) tag old picked (Ok ReadOnly) →
      MakesRound worker old stood tag picked.seen (Ok Left)
  none_free stepped = follows_pick ReadOnly picked.seen (Ok Left) stepped (λ start contents works is_of stood_for. (refl, refl))

  no_garbage : IsStepped HasStepRoom (MakesPick (OfEachBase old stood) tag) tag old picked (Ok NoGarbage) →
      MakesRound worker old stood tag picked.seen (Ok Left)
  no_garbage stepped = follows_pick NoGarbage picked.seen (Ok Left) stepped (λ start contents works is_of stood_for. (
    refl,
    refl,
  ))

  pub none_picked : (answer : PickAnswer) → (answer ≡ ReadOnly) ⊎ (answer ≡ NoGarbage) →
      IsStepped HasStepRoom (MakesPick (OfEachBase old stood) tag) tag old picked (Ok answer) →
      MakesRound worker old stood tag picked.seen (Ok Left)
  none_picked answer (inl is) stepped =
      none_free (subst (λ (one : PickAnswer). IsStepped HasStepRoom (MakesPick (OfEachBase old stood) tag) tag old picked (Ok
      one)) is
      stepped)
  none_picked answer (inr is) stepped =
      no_garbage (subst (λ (one : PickAnswer). IsStepped HasStepRoom (MakesPick (OfEachBase old stood) tag) tag old picked (Ok
      one)) is
      stepped)

  -- a victim was picked, or there was one, and it was emptied
  module _ (sb : ℕ) (new : List Entry) (result : Result RoundReply StepStop) (same : SameCaller old picked)
      (goes : GoesOn old picked stood stands) (empties : Empties worker picked stands tag sb new result) where
    emptied : OfEach worker old stood (λ start contents. FollowsPick start contents old tag (Picked sb) picked.seen new result)
    emptied = λ start contents works is_of stood_for.
        let there = goes start contents is_of stood_for in
        emptying_of_first start contents old picked same tag picked.seen new sb result (empties start contents works there.0
        there.1)

    pub victim_picked : IsStepped HasStepRoom (MakesPick (OfEachBase old stood) tag) tag old picked (Ok (Picked sb)) →
        MakesRound worker old stood tag new result
    victim_picked stepped = follows_pick (Picked sb) new result stepped emptied

    pub victim_there : IsStepped HasStepRoom (MakesPick (OfEachBase old stood) tag) tag old picked (Ok (Busy sb)) →
        MakesRound worker old stood tag new result
    victim_there stepped = follows_pick (Busy sb) new result stepped emptied

-- one turn of a collect: a round that decides its reply
pub round_decides : (worker : WorkerState) (old : CallerView) (stood : Standing) (tag : Tag) (new : List Entry) (ended :
    RoundReply)
    (reply : CollectReply) → decided_by ended ≡ Some reply → MakesRound worker old stood tag new (Ok ended) →
    MakesTurn worker old stood tag new (Ok (Some reply))
round_decides worker old stood tag new ended reply is made = λ start contents works is_of stood_for.
    by_round (made start contents works is_of stood_for) is

pub round_refused : (worker : WorkerState) (old : CallerView) (stood : Standing) (tag : Tag) (new : List Entry) (stop :
    StepStop) →
    MakesRound worker old stood tag new (Err stop) → MakesTurn worker old stood tag new (Err stop)
round_refused worker old stood tag new stop made = λ start contents works is_of stood_for.
    inl (made start contents works is_of stood_for)

-- and one that decides none, with the note after it
module _ (worker : WorkerState) (old left new : CallerView) (stood between : Standing) (tag : Tag)
    (same : SameCaller old left)
    (made : MakesRound worker old stood tag left.seen (Ok Left)) where
  has_noted : (result : Result Note StepStop) → IsStepped HasStepRoom (MakesNote tag) tag left new result →
      OfEach worker old stood (λ start contents. HasNoted start contents old tag old.seen new.seen result)
  has_noted result stepped = λ start contents works is_of stood_for. record {
    left = left.seen;
    round = made start contents works is_of stood_for;
    notes =
        subst (λ (caller : CallerView). IsStepped HasStepRoom (MakesNote tag) tag caller (having_seen old new.seen) result)
        (sym (as_first old left same))
        (of_one_base HasStepRoom (MakesNote tag) (MakesNote tag) (λ now answer seen is. is) tag left new result stepped);
  }

  pub note_refused : (stop : StepStop) → IsStepped HasStepRoom (MakesNote tag) tag left new (Err stop) →
      MakesTurn worker old stood tag new.seen (Err stop)
  note_refused stop stepped = λ start contents works is_of stood_for.
      inr (has_noted (Err stop) stepped start contents works is_of stood_for)

  pub note_ends : (note : Note) → IsTrue (is_idle note) → IsStepped HasStepRoom (MakesNote tag) tag left new (Ok note) →
      MakesTurn worker old stood tag new.seen (Ok (Some Idle))
  note_ends note idle stepped = λ start contents works is_of stood_for.
      by_note (has_noted (Ok note) stepped start contents works is_of stood_for) idle refl

  pub note_leaves : (note : Note) → IsFalse (is_idle note) → IsStepped HasStepRoom (MakesNote tag) tag left new (Ok note) →
      MakesTurn worker old stood tag new.seen (Ok None)
  note_leaves note not_idle stepped = λ start contents works is_of stood_for. record {
    note = note;
    noted = has_noted (Ok note) stepped start contents works is_of stood_for;
    not_idle = not_idle;
  }

  -- the note's reply, whichever it is
  pub note_turns : (note : Note) → IsStepped HasStepRoom (MakesNote tag) tag left new (Ok note) →
      MakesTurn worker old stood tag new.seen (Ok (reply_of_note note))
  note_turns note stepped = by_test (is_idle note) refl
    where
      by_test : (b : Bool) → is_idle note ≡ b →
          MakesTurn worker old stood tag new.seen (Ok (elim b [ true ↦ Some Idle | false ↦ None ]))
      by_test true is = note_ends note is stepped
      by_test false is = note_leaves note is stepped

-- what a note after such a round gives
pub noted_turns : (worker : WorkerState) (old left : CallerView) (stood between : Standing) (tag : Tag) → SameCaller old left →
    MakesRound worker old stood tag left.seen (Ok Left) → (new : List Entry) (result : Result (Option CollectReply) StepStop) →
    Notes left tag new result → MakesTurn worker old stood tag new result
noted_turns worker old left stood between tag same made new result notes =
    subst (λ (one : Result (Option CollectReply) StepStop). MakesTurn worker old stood tag new one) (sym notes.2)
    (by_noting notes.0 notes.1)
  where
    by_noting : (noting : Result Note StepStop) → IsStepped HasStepRoom (MakesNote tag) tag left (having_seen left new) noting →
        MakesTurn worker old stood tag new (result_of_note noting)
    by_noting (Ok note) stepped = note_turns worker old left (having_seen left new) stood between tag same made note stepped
    by_noting (Err stop) stepped = note_refused worker old left (having_seen left new) stood between tag same made stop stepped

-- the reply of a round that decides none
pub decides_none : (ended : RoundReply) → decided_by ended ≡ None → ended ≡ Left
decides_none (round.Erased sb) e = absurd (none-some _ (sym e))
decides_none (round.Retired sb) e = absurd (none-some _ (sym e))
decides_none (round.DieFault die) e = absurd (none-some _ (sym e))
decides_none Left e = refl

-- the rounds of a collect so far, each of which left it to go on
pub record HasGoneRound (worker later : WorkerState) (first now : CallerView) (stood stands : Standing) (tag : Tag) : Type 0
  where
    pub is_worker : later ≡ record worker { data_bytes = later.data_bytes }
    pub same : SameCaller first now
    pub goes_on : GoesOnFor worker first now stood stands
    pub rounds : OfEach worker first stood (λ start contents. LeavesRounds start contents first tag first.seen now.seen)

pub no_rounds : (worker : WorkerState) (first : CallerView) (stood : Standing) (tag : Tag) →
    HasGoneRound worker worker first first stood stood tag
no_rounds worker first stood tag = record {
  is_worker = refl;
  same = same_itself first;
  goes_on = λ start contents works is_of stands. (is_of, stands);
  rounds = λ start contents works is_of stands. none_yet;
}

module _ (worker later : WorkerState) (first mid : CallerView) (stood between : Standing) (tag : Tag)
    (gone : HasGoneRound worker later first mid stood between tag) where
  pub may_go_round : MayCall worker first stood → MayCall later mid between
  may_go_round may = may_still worker later first mid stood between gone.is_worker gone.same gone.goes_on may

  module _ (last : WorkerState) (new : CallerView) (stands : Standing) (is : last ≡ record later {
    data_bytes =
        last.data_bytes;
  })
      (same : SameCaller mid new) (goes : GoesOnFor later mid new between stands) where
    pub rounds_go_on : GoesOnFor worker first new stood stands
    rounds_go_on = goes_on_both worker later first mid new stood between stands gone.is_worker gone.goes_on goes

    pub one_round_more : MakesTurn later mid between tag new.seen (Ok None) →
        HasGoneRound worker last first new stood stands tag
    one_round_more made = record {
      is_worker = same_worker_on worker later last gone.is_worker is;
      same = same_caller_on first mid new gone.same same;
      goes_on = rounds_go_on;
      rounds = λ start contents works is_of stood_for.
          let there = gone.goes_on start contents works is_of stood_for in
          one_more (gone.rounds start contents works is_of stood_for)
          (turn_of_first start contents first mid gone.same tag mid.seen new.seen (Ok None)
          (made start contents (works_still worker later start gone.is_worker works) there.0 there.1));
    }

    pub round_is_less : MayCall worker first stood → MakesTurn later mid between tag new.seen (Ok None) →
        new.limit - length new.seen < mid.limit - length mid.seen
    round_is_less may made =
        let able = may_go_round may in
        let off = made able.start able.contents able.works able.is_of able.stands_for in
        subst (λ (limit : ℕ). limit - length new.seen < mid.limit - length mid.seen) (sym same.limit_stays)
        (less_left mid.limit mid.seen new.seen
        (noted_advances able.start able.contents mid tag mid.seen new.seen off.note off.noted))

    pub collect_ended : (reply : CollectReply) → MakesTurn later mid between tag new.seen (Ok (Some reply)) →
        MakesCollect worker first stood tag new.seen (Ok reply)
    collect_ended reply made = λ start contents works is_of stood_for.
        let there = gone.goes_on start contents works is_of stood_for in
        record {
          between = mid.seen;
          rounds = gone.rounds start contents works is_of stood_for;
          last =
              turn_of_first start contents first mid gone.same tag mid.seen new.seen (Ok (Some reply))
              (made start contents (works_still worker later start gone.is_worker works) there.0 there.1);
        }

    collect_at_stop : (stop : StepStop) → MakesTurn later mid between tag new.seen (Err stop) →
        MakesCollect worker first stood tag new.seen (Err stop)
    collect_at_stop stop made = λ start contents works is_of stood_for.
        let there = gone.goes_on start contents works is_of stood_for in
        record {
          between = mid.seen;
          rounds = gone.rounds start contents works is_of stood_for;
          last =
              turn_of_first start contents first mid gone.same tag mid.seen new.seen (Err stop)
              (made start contents (works_still worker later start gone.is_worker works) there.0 there.1);
        }

    pub collect_stopped : (stop : StepStop) → MakesTurn later mid between tag new.seen (Err stop) →
        (result : Result CollectReply StepStop) → IsErrAnd result (λ given. given ≡ stop) →
        MakesCollect worker first stood tag new.seen result
    collect_stopped stop made result is =
        subst (λ (one : Result CollectReply StepStop). MakesCollect worker first stood tag new.seen one)
        (sym (is_that_stop result stop is)) (collect_at_stop stop made)
