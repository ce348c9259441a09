-- A victim as far as a round has emptied it: its pages were copied so far, and the next one, the erase or a step that is
-- refused follows.
use Rattle.std.proofs.Common.{◌≡◌, ℕ, ◌<◌, ◌-◌, length, refl, sym, subst}
use Rattle.std.specs.Prelude.{Result, Ok, Err, IsErrAnd}
use Rattle.chan_calls.specs.Caller.{CallerView, SameCaller}
use Rattle.chan_calls.specs.Calls.{GoesOnFor}
use Rattle.chan_calls.specs.Stepping.{GoesOn, Standing}
use Rattle.chan_calls.specs.Workers.{MayCall, WorkerState}
use Rattle.chan_calls.proofs.AddedKinds.{same_caller_on}
use Rattle.chan_tables.specs.declared.answers.LiveAnswer.TheVariants as live
use Rattle.ssd_geo.specs.declared.stop.StepStop.{StepStop}
use Rattle.ssd_geo.specs.declared.tag.Tag.{Tag}
use Rattle.collector.specs.Emptying.{CopiesPages, Empties, Erases, OfEach, TakesNext, by_erase, none_yet, one_more, stops}
use Rattle.collector.specs.declared.emptying.Next.TheVariants.{Copied, Ended, NoneLive}
use Rattle.collector.specs.declared.replies.RoundReply.{RoundReply}
use Rattle.collector.proofs.FirstCallers.{end_of_first, erasing_of_first, goes_on_both, goes_on_step, is_that_stop, is_to_erase, looks_of_first, may_still, page_of_first, same_itself, same_worker_on, works_still}
use Rattle.collector.proofs.GrownPasts.{less_left, page_advances}

-- the pages that were copied so far, none of which ended the round
pub record HasEmptied (worker later : WorkerState) (first now : CallerView) (stood stands : Standing) (tag : Tag) (sb : ℕ)
    : Type 0 where
  pub is_worker : later ≡ record worker { data_bytes = later.data_bytes }
  pub same : SameCaller first now
  pub goes_on : GoesOnFor worker first now stood stands
  pub copied : OfEach worker first stood
      (λ start contents. CopiesPages start contents first tag sb first.seen now.seen)

pub none_emptied : (worker : WorkerState) (first : CallerView) (stood : Standing) (tag : Tag) (sb : ℕ) →
    HasEmptied worker worker first first stood stood tag sb
none_emptied worker first stood tag sb = record {
  is_worker = refl;
  same = same_itself first;
  goes_on = λ start contents works is_of stands. (is_of, stands);
  copied = λ start contents works is_of stands. none_yet;
}

module _ (worker later : WorkerState) (first mid : CallerView) (stood between : Standing) (tag : Tag) (sb : ℕ)
    (emptied : HasEmptied worker later first mid stood between tag sb) where
  pub may_take_next : MayCall worker first stood → MayCall later mid between
  may_take_next may = may_still worker later first mid stood between emptied.is_worker emptied.same emptied.goes_on may

  module _ (last : WorkerState) (new : CallerView) (stands : Standing) (is : last ≡ record later {
    data_bytes =
        last.data_bytes;
  })
      (same : SameCaller mid new) (goes : GoesOnFor later mid new between stands) where
    pub goes_on_over : GoesOnFor worker first new stood stands
    goes_on_over = goes_on_both worker later first mid new stood between stands emptied.is_worker emptied.goes_on goes

    pub one_copied : TakesNext later mid between tag sb new.seen (Ok Copied) →
        HasEmptied worker last first new stood stands tag sb
    one_copied takes = record {
      is_worker = same_worker_on worker later last emptied.is_worker is;
      same = same_caller_on first mid new emptied.same same;
      goes_on = goes_on_over;
      copied = λ start contents works is_of stood_for.
          let there = emptied.goes_on start contents works is_of stood_for in
          let made = takes start contents (works_still worker later start emptied.is_worker works) there.0 there.1 in
          one_more (emptied.copied start contents works is_of stood_for)
          (page_of_first start contents first mid emptied.same tag mid.seen new.seen sb made.0 made.1) made.2;
    }

    pub copy_is_less : MayCall worker first stood → TakesNext later mid between tag sb new.seen (Ok Copied) →
        new.limit - length new.seen < mid.limit - length mid.seen
    copy_is_less may takes =
        let able = may_take_next may in
        let made = takes able.start able.contents able.works able.is_of able.stands_for in
        subst (λ (limit : ℕ). limit - length new.seen < mid.limit - length mid.seen) (sym same.limit_stays)
        (less_left mid.limit mid.seen new.seen
        (page_advances able.start able.contents mid tag sb mid.seen new.seen made.0 made.1))

    pub round_ended : (reply : RoundReply) → TakesNext later mid between tag sb new.seen (Ok (Ended reply)) →
        Empties worker first stood tag sb new.seen (Ok reply)
    round_ended reply takes = λ start contents works is_of stood_for.
        let there = emptied.goes_on start contents works is_of stood_for in
        record {
          copied = mid.seen;
          copies = emptied.copied start contents works is_of stood_for;
          ends =
              end_of_first start contents first mid emptied.same tag mid.seen new.seen sb (Ok reply)
              (takes start contents (works_still worker later start emptied.is_worker works) there.0 there.1);
        }

    round_at_stop : (stop : StepStop) → TakesNext later mid between tag sb new.seen (Err stop) →
        Empties worker first stood tag sb new.seen (Err stop)
    round_at_stop stop takes = λ start contents works is_of stood_for.
        let there = emptied.goes_on start contents works is_of stood_for in
        record {
          copied = mid.seen;
          copies = emptied.copied start contents works is_of stood_for;
          ends =
              stops stop
              (looks_of_first start contents first mid emptied.same tag mid.seen new.seen sb (Err stop)
              (takes start contents (works_still worker later start emptied.is_worker works) there.0 there.1)) refl;
        }

    pub round_stopped : (stop : StepStop) → TakesNext later mid between tag sb new.seen (Err stop) →
        (result : Result RoundReply StepStop) → IsErrAnd result (λ given. given ≡ stop) →
        Empties worker first stood tag sb new.seen result
    round_stopped stop takes result is =
        subst (λ (one : Result RoundReply StepStop). Empties worker first stood tag sb new.seen one)
        (sym (is_that_stop result stop is)) (round_at_stop stop takes)

    -- the victim has no live page, and was to be erased
    module _ (after : CallerView) (erased : Standing) (same_after : SameCaller new after) (goes_after : GoesOn new after
        stands erased)
      where
        pub goes_on_erased : GoesOnFor worker first after stood erased
        goes_on_erased =
            goes_on_both worker worker first new after stood stands erased refl goes_on_over
            (goes_on_step worker new after stands erased goes_after)

        pub same_erased : SameCaller first after
        same_erased = same_caller_on first new after (same_caller_on first mid new emptied.same same) same_after

        pub round_erased : (result : Result RoundReply StepStop) → TakesNext later mid between tag sb new.seen (Ok NoneLive) →
            Erases new stands tag sb after.seen result → Empties worker first stood tag sb after.seen result
        round_erased result takes erases = λ start contents works is_of stood_for.
            let there = emptied.goes_on start contents works is_of stood_for in
            let worked = works_still worker later start emptied.is_worker works in
            let here = goes start contents worked there.0 there.1 in
            record {
              copied = mid.seen;
              copies = emptied.copied start contents works is_of stood_for;
              ends =
                  by_erase new.seen erases.0
                  (looks_of_first start contents first mid emptied.same tag mid.seen new.seen sb (Ok live.NoneLive)
                  (takes start contents worked there.0 there.1))
                  (erasing_of_first start contents first new (same_caller_on first mid new emptied.same same) tag new.seen
                  after.seen sb
                  erases.0 (is_to_erase start contents new stands here.0 here.1 tag sb after erases.0 erases.1)) erases.2;
            }
