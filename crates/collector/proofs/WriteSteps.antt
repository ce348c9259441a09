-- A write as far as it has come: it was tried so often, and what its next step comes to is told of the caller that began it.
use Rattle.std.proofs.Common.{◌≡◌, ℕ, ◌<◌, ◌-◌, List, [], length, Option, Some, None, refl, sym, subst, ◌∙◌, inl, inr}
use Rattle.std.specs.Prelude.{IfSome, IsErrAnd, Result, Ok, Err}
use Rattle.chan_calls.specs.Caller.{CallerView, HasStepRoom, IsOf, SameCaller, TakesData}
use Rattle.chan_calls.specs.Calls.{GoesOnFor, WritesData}
use Rattle.chan_calls.specs.Copied.{CopiesAloneAreCopies}
use Rattle.chan_calls.specs.Stepping.{IsStepped, MakesWrite, OfEachBase, Standing}
use Rattle.chan_calls.specs.Workers.{WorkerState}
use Rattle.chan_calls.proofs.AddedKinds.{same_caller_on}
use Rattle.chan_state.specs.declared.answers.WriteAnswer.{WriteAnswer}
use Rattle.chan_state.specs.declared.answers.WriteAnswer.TheVariants as write
use Rattle.ssd_geo.specs.declared.entry.Entry.{Entry}
use Rattle.ssd_geo.specs.declared.stop.StepStop.{StepStop}
use Rattle.ssd_geo.specs.declared.tag.Tag.{Tag}
use Rattle.ssd_histories.specs.History.{open_looks}
use Rattle.ssd_histories.specs.Start.{Start, data_of}
use Rattle.collector.specs.Emptying.{OfBase, having_seen}
use Rattle.collector.specs.Rounds.{MakesRound, MakesRoundFor}
use Rattle.collector.specs.Writes.{EndsWrite, HasMadeRoom, IsToWrite, MayWrite, OfEachWith, TurnsWrite, TurnsWriteFor, WritesOften, WritesOn, WritesRow, by_fail, by_room, by_round, by_write, none_yet, one_more, reply_of_round, reply_of_write}
use Rattle.collector.specs.declared.replies.RoundReply.{RoundReply}
use Rattle.collector.specs.declared.replies.RoundReply.TheVariants as round
use Rattle.collector.specs.declared.replies.WriteReply.{WriteReply}
use Rattle.collector.proofs.AloneWrites.{none_open_on, turn_advances}
use Rattle.collector.proofs.FirstCallers.{as_first, is_that_stop, of_one_base, round_for, same_itself, same_worker_on, works_still}
use Rattle.collector.proofs.GrownPasts.{less_left}

-- what stood goes on standing over two calls with the data of a write
pub writes_both : (worker later : WorkerState) (a b c : CallerView) (sa sb sc : Standing) (tag : Tag) (data_bytes : List ℕ) →
    later ≡ record worker { data_bytes = later.data_bytes } →
    WritesData worker a b sa sb tag data_bytes → WritesData later b c sb sc tag data_bytes →
    WritesData worker a c sa sc tag data_bytes
writes_both worker later a b c sa sb sc tag data_bytes is first next = λ start contents works is_of stood data_is.
    let between = first start contents works is_of stood data_is in
    next start contents (works_still worker later start is works) between.0 between.1 data_is

pub with_data : (worker : WorkerState) (a b : CallerView) (sa sb : Standing) (tag : Tag) (data_bytes : List ℕ) →
    GoesOnFor worker a b sa sb → WritesData worker a b sa sb tag data_bytes
with_data worker a b sa sb tag data_bytes goes = λ start contents works is_of stood data_is. goes start contents works is_of
    stood

pub takes_still : (first now : CallerView) (tag : Tag) (data_bytes : List ℕ) → SameCaller first now →
    TakesData first tag data_bytes →
    TakesData now tag data_bytes
takes_still first now tag data_bytes same takes =
    subst (λ (bound : Option (Start × List (Tag × List ℕ))). IfSome bound (λ held. data_of held.1 tag ≡ data_bytes))
    (sym same.bound_stays) takes

-- the worker may go on with the same data
pub may_write_still : (worker later : WorkerState) (first now : CallerView) (stood stands : Standing) (tag : Tag)
    (data_bytes : List ℕ) → later ≡ record worker { data_bytes = later.data_bytes } → SameCaller first now →
    WritesData worker first now stood stands tag data_bytes → MayWrite worker first stood tag data_bytes →
    MayWrite later now stands tag data_bytes
may_write_still worker later first now stood stands tag data_bytes is same goes may =
    let there = goes may.may.start may.may.contents may.may.works may.may.is_of may.may.stands_for may.own_data in
    record {
      may = record {
        start = may.may.start;
        contents = may.may.contents;
        works = works_still worker later may.may.start is may.may.works;
        is_of = there.0;
        stands_for = there.1;
        bound =
            subst (λ (bound : Option (Start × List (Tag × List ℕ))). IfSome bound (λ held. held ≡ (
              may.may.start,
              may.may.contents,
            )))
            (sym same.bound_stays) may.may.bound;
      };
      own_data = may.own_data;
    }

-- one turn, by what the step of the write answered
module _ (worker : WorkerState) (old tried : CallerView) (stood between : Standing) (tag : Tag) (row : ℕ) (data_bytes : List ℕ)
  where
    write_of_one : (start : Start) (contents : List (Tag × List ℕ)) → IsOf old start contents → stood start contents →
        (now : List Entry) (answer : WriteAnswer) (seen : List Entry) →
        MakesWrite (OfEachBase old stood) tag row now answer seen → MakesWrite (OfBase start.base) tag row now answer seen
    write_of_one start contents is_of stands now (write.Written slot) seen made = (made.0, made.1 start contents is_of stands)
    write_of_one start contents is_of stands now (write.Failed sb) seen made =
        (made.0, made.1, made.2, made.3, made.4 start contents is_of stands)
    write_of_one start contents is_of stands now (write.DieFault die) seen made = (
      made.0,
      made.1,
      made.2 start contents is_of
          stands,
    )
    write_of_one start contents is_of stands now write.ReadOnly seen made = (made.0, made.1 start contents is_of stands)
    write_of_one start contents is_of stands now write.Full seen made = (made.0, made.1 start contents is_of stands)
    write_of_one start contents is_of stands now write.NeedRoom seen made = (made.0, made.1 start contents is_of stands)

    is_to_write : (result : Result WriteAnswer StepStop) →
        IsStepped HasStepRoom (MakesWrite (OfEachBase old stood) tag row) tag old tried result →
        (start : Start) (contents : List (Tag × List ℕ)) → IsOf old start contents → stood start contents →
        IsToWrite start.base old tag row old.seen tried.seen result
    is_to_write result stepped start contents is_of stands =
        of_one_base HasStepRoom (MakesWrite (OfEachBase old stood) tag row) (MakesWrite (OfBase start.base) tag row)
        (write_of_one start contents is_of stands) tag old tried result stepped

    pub write_ends : (answer : WriteAnswer) (reply : WriteReply) → reply_of_write answer ≡ Some reply →
        IsStepped HasStepRoom (MakesWrite (OfEachBase old stood) tag row) tag old tried (Ok answer) →
        TurnsWrite worker old stood tag row data_bytes tried.seen (Ok (Some reply))
    write_ends answer reply is stepped = λ start contents works is_of stands data_is.
        by_write answer (is_to_write (Ok answer) stepped start contents is_of stands) is

    pub write_fails : (sb : ℕ) →
        IsStepped HasStepRoom (MakesWrite (OfEachBase old stood) tag row) tag old tried (Ok (write.Failed sb)) →
        TurnsWrite worker old stood tag row data_bytes tried.seen (Ok None)
    write_fails sb stepped = λ start contents works is_of stands data_is.
        by_fail sb (is_to_write (Ok (write.Failed sb)) stepped start contents is_of stands)

    pub write_refused : (stop : StepStop) →
        IsStepped HasStepRoom (MakesWrite (OfEachBase old stood) tag row) tag old tried (Err stop) →
        TurnsWrite worker old stood tag row data_bytes tried.seen (Err stop)
    write_refused stop stepped = λ start contents works is_of stands data_is.
        inl (is_to_write (Err stop) stepped start contents is_of stands)

    -- it needed room, and made a round
    module _ (same : SameCaller old tried) (goes : WritesData worker old tried stood between tag data_bytes)
        (stepped : IsStepped HasStepRoom (MakesWrite (OfEachBase old stood) tag row) tag old tried (Ok write.NeedRoom))
        (new : List Entry) (result : Result RoundReply StepStop) (made : MakesRound worker tried between tag new result) where
      has_made_room : OfEachWith worker old stood tag data_bytes
          (λ start contents. HasMadeRoom start contents old tag row old.seen new result)
      has_made_room = λ start contents works is_of stands data_is.
          let there = goes start contents works is_of stands data_is in
          record {
            needed = tried.seen;
            tried = is_to_write (Ok write.NeedRoom) stepped start contents is_of stands;
            round =
                round_for start contents old tried.seen tag tried.seen new result
                (subst (λ (caller : CallerView). MakesRoundFor start contents caller tag tried.seen new result)
                (sym (as_first old tried same)) (made start contents works there.0 there.1));
          }

    pub room_was_made : (reply : RoundReply) → reply_of_round reply ≡ None → SameCaller old tried →
        WritesData worker old tried stood between tag data_bytes →
        IsStepped HasStepRoom (MakesWrite (OfEachBase old stood) tag row) tag old tried (Ok write.NeedRoom) →
        (new : List Entry) → MakesRound worker tried between tag new (Ok reply) →
        TurnsWrite worker old stood tag row data_bytes new (Ok None)
    room_was_made reply is same goes stepped new made = λ start contents works is_of stands data_is.
        by_room reply (has_made_room same goes stepped new (Ok reply) made start contents works is_of stands data_is) is

    pub round_ends_write : (ended : RoundReply) (reply : WriteReply) → reply_of_round ended ≡ Some reply →
        SameCaller old tried →
        WritesData worker old tried stood between tag data_bytes →
        IsStepped HasStepRoom (MakesWrite (OfEachBase old stood) tag row) tag old tried (Ok write.NeedRoom) →
        (new : List Entry) → MakesRound worker tried between tag new (Ok ended) →
        TurnsWrite worker old stood tag row data_bytes new (Ok (Some reply))
    round_ends_write ended reply is same goes stepped new made = λ start contents works is_of stands data_is.
        by_round ended (has_made_room same goes stepped new (Ok ended) made start contents works is_of stands data_is) is

    pub room_refused : (stop : StepStop) → SameCaller old tried →
        WritesData worker old tried stood between tag data_bytes →
        IsStepped HasStepRoom (MakesWrite (OfEachBase old stood) tag row) tag old tried (Ok write.NeedRoom) →
        (new : List Entry) → MakesRound worker tried between tag new (Err stop) →
        TurnsWrite worker old stood tag row data_bytes new (Err stop)
    room_refused stop same goes stepped new made = λ start contents works is_of stands data_is.
        inr (has_made_room same goes stepped new (Err stop) made start contents works is_of stands data_is)

    pub room_turns : (ended : RoundReply) → SameCaller old tried →
        WritesData worker old tried stood between tag data_bytes →
        IsStepped HasStepRoom (MakesWrite (OfEachBase old stood) tag row) tag old tried (Ok write.NeedRoom) →
        (new : List Entry) → MakesRound worker tried between tag new (Ok ended) →
        TurnsWrite worker old stood tag row data_bytes new (Ok (reply_of_round ended))
    room_turns (round.Erased sb) same goes stepped new made = room_was_made (round.Erased sb) refl same goes stepped new made
    room_turns (round.Retired sb) same goes stepped new made = room_was_made (round.Retired sb) refl same goes stepped new made
    room_turns (round.DieFault die) same goes stepped new made =
        round_ends_write (round.DieFault die) (WriteReply.DieFault die) refl same goes stepped new made
    room_turns round.Left same goes stepped new made = room_was_made round.Left refl same goes stepped new made

-- a worker that is as before
pub same_worker : (worker later : WorkerState) → later ≡ worker → later ≡ record worker { data_bytes = later.data_bytes }
same_worker worker later is =
    subst (λ (w : WorkerState). w ≡ record worker { data_bytes = w.data_bytes }) (sym is) refl

-- what a turn of a later caller comes to is told of the first one
module _ (start : Start) (contents : List (Tag × List ℕ)) (first : CallerView) (seen : List Entry) (tag : Tag) (row : ℕ) where
  room_for : (before after : List Entry) (result : Result RoundReply StepStop) →
      HasMadeRoom start contents (having_seen first seen) tag row before after result →
      HasMadeRoom start contents first tag row before after result
  room_for before after result made = record {
    needed = made.needed;
    tried = made.tried;
    round = round_for start contents first seen tag made.needed after result made.round;
  }

  turn_for : (before after : List Entry) (result : Result (Option WriteReply) StepStop) →
      TurnsWriteFor start contents (having_seen first seen) tag row before after result →
      TurnsWriteFor start contents first tag row before after result
  turn_for before after (Ok None) on = goes on
    where
      goes : WritesOn start contents (having_seen first seen) tag row before after →
          WritesOn start contents first tag row before after
      goes (by_fail sb tried) = by_fail sb tried
      goes (by_room reply made is) = by_room reply (room_for before after (Ok reply) made) is
  turn_for before after (Ok (Some reply)) ends = goes ends
    where
      goes : EndsWrite start contents (having_seen first seen) tag row before after reply →
          EndsWrite start contents first tag row before after reply
      goes (by_write answer tried is) = by_write answer tried is
      goes (by_round ended made is) = by_round ended (room_for before after (Ok ended) made) is
  turn_for before after (Err stop) (inl tried) = inl tried
  turn_for before after (Err stop) (inr made) = inr (room_for before after (Err stop) made)

turn_of_first : (start : Start) (contents : List (Tag × List ℕ)) (first now : CallerView) → SameCaller first now → (tag : Tag)
    (row : ℕ) (before after : List Entry) (result : Result (Option WriteReply) StepStop) →
    TurnsWriteFor start contents now tag row before after result →
    TurnsWriteFor start contents first tag row before after result
turn_of_first start contents first now same tag row before after result made =
    turn_for start contents first now.seen tag row before after result
    (subst (λ (caller : CallerView). TurnsWriteFor start contents caller tag row before after result) (sym (as_first first now
    same)) made)

-- the turns of a write so far, after each of which it went on
pub record HasWritten (worker later : WorkerState) (first now : CallerView) (stood stands : Standing) (tag : Tag) (row : ℕ)
    (data_bytes : List ℕ) : Type 0 where
  pub is_worker : later ≡ record worker { data_bytes = later.data_bytes }
  pub same : SameCaller first now
  pub goes_on : WritesData worker first now stood stands tag data_bytes
  pub turns : OfEachWith worker first stood tag data_bytes
      (λ start contents. WritesOften start contents first tag row first.seen now.seen)

pub none_written : (worker : WorkerState) (first : CallerView) (stood : Standing) (tag : Tag) (row : ℕ) (data_bytes : List ℕ) →
    HasWritten worker worker first first stood stood tag row data_bytes
none_written worker first stood tag row data_bytes = record {
  is_worker = refl;
  same = same_itself first;
  goes_on = λ start contents works is_of stands data_is. (is_of, stands);
  turns = λ start contents works is_of stands data_is. none_yet;
}

module _ (worker later : WorkerState) (first mid : CallerView) (stood between : Standing) (tag : Tag) (row : ℕ)
    (data_bytes : List ℕ) (written : HasWritten worker later first mid stood between tag row data_bytes) where
  pub may_write_next : MayWrite worker first stood tag data_bytes → MayWrite later mid between tag data_bytes
  may_write_next may =
      may_write_still worker later first mid stood between tag data_bytes written.is_worker written.same written.goes_on may

  pub takes_next : TakesData first tag data_bytes → TakesData mid tag data_bytes
  takes_next takes = takes_still first mid tag data_bytes written.same takes

  module _ (last : WorkerState) (new : CallerView) (stands : Standing) (is : last ≡ record later {
    data_bytes =
        last.data_bytes;
  })
      (same : SameCaller mid new) (goes : WritesData later mid new between stands tag data_bytes) where
    pub writes_go_on : WritesData worker first new stood stands tag data_bytes
    writes_go_on =
        writes_both worker later first mid new stood between stands tag data_bytes written.is_worker written.goes_on goes

    pub one_turn_more : TurnsWrite later mid between tag row data_bytes new.seen (Ok None) →
        HasWritten worker last first new stood stands tag row data_bytes
    one_turn_more made = record {
      is_worker = same_worker_on worker later last written.is_worker is;
      same = same_caller_on first mid new written.same same;
      goes_on = writes_go_on;
      turns = λ start contents works is_of stood_for data_is.
          let there = written.goes_on start contents works is_of stood_for data_is in
          one_more (written.turns start contents works is_of stood_for data_is)
          (turn_of_first start contents first mid written.same tag row mid.seen new.seen (Ok None)
          (made start contents (works_still worker later start written.is_worker works) there.0 there.1 data_is));
    }

    -- the caller is alone, and no look was open: so each turn adds an entry
    pub turn_is_less : CopiesAloneAreCopies → first.number ≡ None → open_looks first.seen ≡ [] →
        MayWrite worker first stood tag data_bytes → TurnsWrite later mid between tag row data_bytes new.seen (Ok None) →
        new.limit - length new.seen < mid.limit - length mid.seen
    unfolding may_write_next may_write_still
    turn_is_less copies_are alone none may made =
        let able = may_write_next may in
        let begun = may.may in
        let start = begun.start in
        let contents = begun.contents in
        let here = goes start contents able.may.works able.may.is_of able.may.stands_for may.own_data in
        let often = written.turns start contents begun.works begun.is_of begun.stands_for may.own_data in
        subst (λ (limit : ℕ). limit - length new.seen < mid.limit - length mid.seen) (sym same.limit_stays)
        (less_left mid.limit mid.seen new.seen
        (turn_advances start contents mid tag copies_are (written.same.number_stays ∙ alone) row mid.seen new.seen
        (none_open_on start contents first tag copies_are alone row often none able.may.is_of.is_past.is_lawful)
        here.0.is_past.is_lawful
        (made start contents able.may.works able.may.is_of able.may.stands_for may.own_data)))

    pub write_ended : (reply : WriteReply) → TurnsWrite later mid between tag row data_bytes new.seen (Ok (Some reply)) →
        WritesRow worker first stood tag row data_bytes new.seen (Ok reply)
    write_ended reply made = λ start contents works is_of stood_for data_is.
        let there = written.goes_on start contents works is_of stood_for data_is in
        record {
          between = mid.seen;
          turns = written.turns start contents works is_of stood_for data_is;
          last =
              turn_of_first start contents first mid written.same tag row mid.seen new.seen (Ok (Some reply))
              (made start contents (works_still worker later start written.is_worker works) there.0 there.1 data_is);
        }

    write_at_stop : (stop : StepStop) → TurnsWrite later mid between tag row data_bytes new.seen (Err stop) →
        WritesRow worker first stood tag row data_bytes new.seen (Err stop)
    write_at_stop stop made = λ start contents works is_of stood_for data_is.
        let there = written.goes_on start contents works is_of stood_for data_is in
        record {
          between = mid.seen;
          turns = written.turns start contents works is_of stood_for data_is;
          last =
              turn_of_first start contents first mid written.same tag row mid.seen new.seen (Err stop)
              (made start contents (works_still worker later start written.is_worker works) there.0 there.1 data_is);
        }

    pub write_stopped : (stop : StepStop) → TurnsWrite later mid between tag row data_bytes new.seen (Err stop) →
        (result : Result WriteReply StepStop) → IsErrAnd result (λ given. given ≡ stop) →
        WritesRow worker first stood tag row data_bytes new.seen result
    write_stopped stop made result is =
        subst (λ (one : Result WriteReply StepStop). WritesRow worker first stood tag row data_bytes new.seen one)
        (sym (is_that_stop result stop is)) (write_at_stop stop made)
