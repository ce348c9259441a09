-- The worked history of two actors meets the premises: the other's trims leave each look of the first as it is.
use Rattle.std.proofs.Common.{ℕ, cond, true, List, [], ◌∷◌, None, refl, sym, ◌∙◌, inl, inr, zero-add, lit≤}
use Rattle.std.specs.Prelude.{Ok, pos}
use Rattle.std.proofs.lemmas.List.Elements.{All-cons, All-nil}
use Rattle.std.proofs.lemmas.List.Sums.{sum_by-cons}
use Rattle.std.proofs.lemmas.Option.{none-some}
use Rattle.chan_calls.specs.Caller.{Comes}
use Rattle.chan_calls.specs.declared.copy_reply.CopyReply.TheVariants as copy
use Rattle.chan_state.specs.declared.answers.EraseAnswer.TheVariants as erase
use Rattle.chan_state.specs.declared.answers.PickAnswer.TheVariants as pick
use Rattle.chan_state.specs.declared.answers.WriteAnswer.TheVariants as tried
use Rattle.chan_tables.specs.TablesState.{senses_had}
use Rattle.chan_tables.specs.declared.answers.LookAnswer.TheVariants as look
use Rattle.collector.specs.Collects.{by_note}
use Rattle.collector.specs.Collects as collects
use Rattle.collector.specs.Emptying.{by_erase, none_yet}
use Rattle.collector.specs.Writes.{by_room, by_write}
use Rattle.collector.specs.Writes as turns
use Rattle.collector.specs.declared.replies.RoundReply.TheVariants as round
use Rattle.ssd_geo.specs.declared.entry.Entry.{Entry}
use Rattle.ssd_geo.specs.declared.kind.Kind.{Kind}
use Rattle.ssd_geo.specs.declared.row.Row.{Row}
use Rattle.ssd_histories.specs.CallSteps.{is_sense_of}
use Rattle.ssd_histories.specs.HistoryExamples.{AreWithinLimits, place, step, tag_of}
use Rattle.ssd_histories.specs.PageMap.{slot_at}
use Rattle.calls_among_others.specs.TwoActors.{TwoActorsMeetPremises, after_age, after_collect, after_read, after_refresh, after_trim, after_writes, at_read, at_refresh, finds_none_live, has_erased, has_picked, look_of_refresh, needs_some, read_failed, read_looked, refresh_failed, refresh_looked, seen_by_first, then_trimmed}
use Rattle.calls_among_others.proofs.AmongSteps.{IsOfOther}

-- a trim of the other actor comes to what the first has seen
trim_comes : (within : AreWithinLimits) (call other : ℕ) (past : List Entry) →
    Comes (seen_by_first within past) (tag_of 0 call) (then_trimmed other past)
trim_comes within call other past = record {
  others = step 1 other (Kind.Trim 7) ∷ [];
  now_is = refl;
  of_others = All-cons (IsOfOther 0) (step 1 other (Kind.Trim 7)) [] (λ same. absurd (cc)) (All-nil (IsOfOther 0));
  none_alone = λ none. absurd (none-some 0 (sym none));
  looks_stay = λ at. refl;
  senses_stay = λ at own.
      sum_by-cons (λ (entry : Entry). cond (is_sense_of at entry.kind) 1 0) (step 1 other (Kind.Trim 7)) past
      ∙ zero-add (senses_had past at);
  faults_stay = λ at own. refl;
  recovered_stay = λ at own. refl;
  uncorrectable_stay = λ at own. refl;
}

pub two_actors_meet : TwoActorsMeetPremises
two_actors_meet within = record {
  is_lawful = (
    ((tt, record { in_range = refl; meets = tt }), record { in_range = refl; meets = tt }),
    record {
      in_range = refl;
      meets = record { free_is = refl; victim_is = refl; live_is = refl; pins_is = refl; garbage_is = refl };
    },
  );
  collects = record {
    between = [];
    rounds = collects.none_yet;
    last =
        by_note {note = record { free = 4; victim = None; live = 0; pins = 0; garbage = 0 }}
        (record {
          left = then_trimmed 0 [];
          round = record {
            answer = pick.NoGarbage;
            picked = then_trimmed 0 [];
            picks = (then_trimmed 0 [], trim_comes within 0 0 [], lit≤ tt, (refl, (refl, lit≤ tt, refl)));
            follows = (refl, refl);
          };
          notes = (then_trimmed 1 (then_trimmed 0 []), trim_comes within 0 1 (then_trimmed 0 []), lit≤ tt, refl);
        }) refl refl;
  };
  ages = (then_trimmed 2 after_collect, trim_comes within 1 2 after_collect, lit≤ tt, refl);
  trims = (then_trimmed 3 after_age, trim_comes within 2 3 after_age, lit≤ tt, refl);
  reads_empty =
      inl (record {
        at_look = then_trimmed 4 after_trim;
        comes = trim_comes within 3 4 after_trim;
        found = Row.Empty;
        reply_is = refl;
        new_is = refl;
      });
  reads =
      inr (inr (record {
        look = record {
          at_look = at_read;
          comes = trim_comes within 16 5 after_writes;
          slot = slot_at 2 1;
          serial = 13;
          closed = true;
          senses = record { senses = []; after = read_looked; are_senses = refl };
        };
        die = 1;
        fails = record {
          place = place 1 2 0;
          level = pos 0;
          at_sense = then_trimmed 6 read_looked;
          comes = trim_comes within 16 6 read_looked;
          die_is = refl;
          leaves = record {
            at_leave = then_trimmed 7 read_failed;
            comes = trim_comes within 16 7 read_failed;
            new_is = refl;
          };
        };
        reply_is = refl;
      }));
  looks = record { at_is = refl; seen_is = refl };
  copies =
      inr (record {
        senses = record { senses = []; after = refresh_looked; are_senses = refl };
        die = 1;
        fails = record {
          place = place 1 2 1;
          level = pos 0;
          at_sense = then_trimmed 9 refresh_looked;
          comes = trim_comes within 17 9 refresh_looked;
          die_is = refl;
          leaves = record {
            at_leave = then_trimmed 10 refresh_failed;
            comes = trim_comes within 17 10 refresh_failed;
            new_is = refl;
          };
        };
        reply_is = refl;
      });
  refreshes = record {
    answer = look.Found look_of_refresh;
    looked = seen_by_first within refresh_looked;
    same = record {
      limit_stays = refl;
      shape_stays = refl;
      session_stays = refl;
      number_stays = refl;
      bound_stays = refl;
      reference_stays = refl;
    };
    looks = (at_refresh, trim_comes within 17 8 after_read, lit≤ tt, (refl, refl, refl, refl));
    follows = record {
      copied = copy.DieFault 1;
      copies =
          inr (record {
            senses = record { senses = []; after = refresh_looked; are_senses = refl };
            die = 1;
            fails = record {
              place = place 1 2 1;
              level = pos 0;
              at_sense = then_trimmed 9 refresh_looked;
              comes = trim_comes within 17 9 refresh_looked;
              die_is = refl;
              leaves = record {
                at_leave = then_trimmed 10 refresh_failed;
                comes = trim_comes within 17 10 refresh_failed;
                new_is = refl;
              };
            };
            reply_is = refl;
          });
      reply_is = refl;
    };
  };
  rounds = record {
    answer = pick.Picked 0;
    picked = has_picked;
    picks = (then_trimmed 12 needs_some, trim_comes within 18 12 needs_some, lit≤ tt, (refl, refl));
    follows = record {
      copied = has_picked;
      copies = none_yet;
      ends =
          by_erase finds_none_live (Ok erase.Erased)
          (finds_none_live, trim_comes within 18 13 has_picked, lit≤ tt, (refl, (refl, refl))) (
            then_trimmed 14 finds_none_live,
            trim_comes within 18 14 finds_none_live,
            lit≤ tt,
            (refl, record { is_victim = refl; no_live = refl; no_pin = refl }),
          ) refl;
    };
  };
  writes = record {
    between = has_erased;
    turns =
        turns.one_more turns.none_yet
        (by_room (round.Erased 0)
        (record {
          needed = needs_some;
          tried = (needs_some, trim_comes within 18 11 after_refresh, lit≤ tt, (refl, refl));
          round = record {
            answer = pick.Picked 0;
            picked = has_picked;
            picks = (then_trimmed 12 needs_some, trim_comes within 18 12 needs_some, lit≤ tt, (refl, refl));
            follows = record {
              copied = has_picked;
              copies = none_yet;
              ends =
                  by_erase finds_none_live (Ok erase.Erased)
                  (finds_none_live, trim_comes within 18 13 has_picked, lit≤ tt, (refl, (refl, refl))) (
                    then_trimmed 14 finds_none_live,
                    trim_comes within 18 14 finds_none_live,
                    lit≤ tt,
                    (refl, record { is_victim = refl; no_live = refl; no_pin = refl }),
                  ) refl;
            };
          };
        }) refl);
    last =
        by_write (tried.Written (slot_at 0 0))
        (then_trimmed 15 has_erased, trim_comes within 18 15 has_erased, lit≤ tt, (refl, refl)) refl;
  };
}
