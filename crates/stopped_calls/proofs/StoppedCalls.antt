-- Calls that a history's limit stopped, by their verbs.
use Rattle.std.proofs.Common.{ℕ, ◌≡◌, ◌&&◌, true, List, length, refl, sym, subst, inl, inr}
use Rattle.std.specs.Prelude.{Err, is_some, not}
use Rattle.std.specs.List.{list_any}
use Rattle.std.proofs.lemmas.Bool.{and_from, or_left, or_right}
use Rattle.calls_among_others.proofs.AmongSteps.{late_has}
use Rattle.chan_calls.specs.Caller.{CallerView}
use Rattle.collector.specs.Collects.{MakesTurnFor}
use Rattle.collector.specs.Writes.{TurnsWriteFor}
use Rattle.race_runs.specs.RaceEnds.{has_picked_or_looked, may_look}
use Rattle.ssd_geo.specs.declared.entry.Entry.{Entry}
use Rattle.ssd_geo.specs.declared.stop.StepStop.{StepStop}
use Rattle.ssd_geo.specs.declared.tag.Tag.{Tag}
use Rattle.ssd_geo.specs.declared.trace.Content.{Content}
use Rattle.ssd_geo.specs.declared.trace.Verb.{Verb}
use Rattle.ssd_histories.specs.CallSteps.{late_pasts}
use Rattle.ssd_histories.specs.HistoryRoom.{has_look_room, has_step_room}
use Rattle.ssd_histories.specs.Room.{victim_of}
use Rattle.ssd_histories.specs.Rounds.{needs_room}
use Rattle.ssd_histories.specs.Start.{Start}
use Rattle.stopped_calls.specs.StoppedCalls.{AgesStopWithoutRoom, CollectsStopWithoutRoom, IsWithoutRoom, ReadsStopWithoutRoom, RefreshesStopWithoutRoom, TrimsStopWithoutRoom, WritesStopWithoutRoom}
use Rattle.stopped_calls.proofs.RoundStops.{StopsRound, at_look, at_step, at_victim, look_lacks, round_stops, step_lacks}

-- a call without room for a step, and one without room for a look that may be its next step
no_step_left : (start : Start) (tag : Tag) (verb : Verb) (past : List Entry) (entries : ℕ) →
    not (has_step_room start.limit past) ≡ true → entries ≡ length past → IsWithoutRoom start tag verb past entries
no_step_left start tag verb past entries lacks many = record {
  no_room =
      or_left (not (has_step_room start.limit past)) (may_look start.base tag past verb && not (has_look_room start.limit past)) lacks;
  has_length = many;
}

no_look_left : (start : Start) (tag : Tag) (verb : Verb) (past : List Entry) (entries : ℕ) →
    not (has_look_room start.limit past) ≡ true → may_look start.base tag past verb ≡ true → entries ≡ length past →
    IsWithoutRoom start tag verb past entries
no_look_left start tag verb past entries lacks may many = record {
  no_room =
      or_right (not (has_step_room start.limit past)) (may_look start.base tag past verb && not (has_look_room start.limit past))
      (and_from (may_look start.base tag past verb) (not (has_look_room start.limit past)) may lacks);
  has_length = many;
}

pub trims_stop : TrimsStopWithoutRoom
trims_stop start channels page entries old new tag same tried =
    subst (λ (past : List Entry). IsWithoutRoom start tag (Verb.Trim page) past entries) (sym tried.4)
    (no_step_left start tag (Verb.Trim page) tried.0 entries (step_lacks start old.limit same tried.0 tried.2) tried.3)

pub ages_stop : AgesStopWithoutRoom
ages_stop start channel die sb amount entries old new tag same tried =
    subst (λ (past : List Entry). IsWithoutRoom start tag (Verb.Age channel die sb amount) past entries) (sym tried.4)
    (no_step_left start tag (Verb.Age channel die sb amount) tried.0 entries (step_lacks start old.limit same tried.0 tried.2) tried.3)

pub reads_stop : ReadsStopWithoutRoom
reads_stop start page entries old new tag same tried =
    subst (λ (past : List Entry). IsWithoutRoom start tag (Verb.Read page) past entries) (sym tried.4)
    (no_look_left start tag (Verb.Read page) tried.0 entries (look_lacks start old.limit same tried.0 tried.2) refl tried.3)

pub refreshes_stop : RefreshesStopWithoutRoom
refreshes_stop start contents caller tag row page count entries after same tried =
    let lacks = look_lacks start caller.limit same tried.0 tried.2 in
    record {
      alone =
          subst (λ (past : List Entry). IsWithoutRoom start tag (Verb.Refresh page) past entries) (sym tried.4)
          (no_look_left start tag (Verb.Refresh page) tried.0 entries lacks refl tried.3);
      drained =
          subst (λ (past : List Entry). IsWithoutRoom start tag (Verb.Drain count) past entries) (sym tried.4)
          (no_look_left start tag (Verb.Drain count) tried.0 entries lacks refl tried.3);
    }

module _ (start : Start) (contents : List (Tag × List ℕ)) (caller : CallerView) (tag : Tag) (entries : ℕ)
    (same : caller.limit ≡ start.limit) where
  -- a round of a write that needed room
  write_round : (page : ℕ) (content : Content) (needed after : List Entry) → needs_room start.base needed ≡ true →
      StopsRound start contents caller tag entries same needed after →
      IsWithoutRoom start tag (Verb.Write page content) after entries
  write_round page content needed after needs (at_step lacks many) =
      no_step_left start tag (Verb.Write page content) after entries lacks many
  write_round page content needed after needs (at_look lacks many shown) =
      no_look_left start tag (Verb.Write page content) after entries lacks
      (or_left (has_picked_or_looked tag after) (list_any (needs_room start.base) (late_pasts tag.actor after)) shown) many
  write_round page content needed after needs (at_victim lacks many come victim) =
      no_look_left start tag (Verb.Write page content) after entries lacks
      (or_right (has_picked_or_looked tag after) (list_any (needs_room start.base) (late_pasts tag.actor after))
      (late_has tag.actor (needs_room start.base) needed after come needs)) many

  write_turn : (row page : ℕ) (content : Content) (before after : List Entry) →
      TurnsWriteFor start contents caller tag row before after (Err (StepStop.HistoryFull entries)) →
      IsWithoutRoom start tag (Verb.Write page content) after entries
  write_turn row page content before after (inl tried) =
      subst (λ (past : List Entry). IsWithoutRoom start tag (Verb.Write page content) past entries) (sym tried.4)
      (no_step_left start tag (Verb.Write page content) tried.0 entries (step_lacks start caller.limit same tried.0 tried.2) tried.3)
  write_turn row page content before after (inr made) =
      write_round page content made.needed after
      (subst (λ (past : List Entry). needs_room start.base past ≡ true) (sym made.tried.3.0) made.tried.3.1)
      (round_stops start contents caller tag entries same made.needed after made.round)

  -- a round of a collect
  collect_round : (channel : ℕ) (before after : List Entry) → StopsRound start contents caller tag entries same before after →
      IsWithoutRoom start tag (Verb.Collect channel) after entries
  collect_round channel before after (at_step lacks many) =
      no_step_left start tag (Verb.Collect channel) after entries lacks many
  collect_round channel before after (at_look lacks many shown) =
      no_look_left start tag (Verb.Collect channel) after entries lacks
      (or_left (has_picked_or_looked tag after)
      (list_any (λ past. is_some (victim_of start.base past)) (late_pasts tag.actor after)) shown) many
  collect_round channel before after (at_victim lacks many come victim) =
      no_look_left start tag (Verb.Collect channel) after entries lacks
      (or_right (has_picked_or_looked tag after)
      (list_any (λ past. is_some (victim_of start.base past)) (late_pasts tag.actor after)) victim) many

  collect_turn : (channel : ℕ) (before after : List Entry) →
      MakesTurnFor start contents caller tag before after (Err (StepStop.HistoryFull entries)) →
      IsWithoutRoom start tag (Verb.Collect channel) after entries
  collect_turn channel before after (inl rounds) =
      collect_round channel before after (round_stops start contents caller tag entries same before after rounds)
  collect_turn channel before after (inr noted) =
      subst (λ (past : List Entry). IsWithoutRoom start tag (Verb.Collect channel) past entries) (sym noted.notes.4)
      (no_step_left start tag (Verb.Collect channel) noted.notes.0 entries
      (step_lacks start caller.limit same noted.notes.0 noted.notes.2) noted.notes.3)

pub writes_stop : WritesStopWithoutRoom
writes_stop start contents caller tag row page entries content before after same made =
    write_turn start contents caller tag entries same row page content made.between after made.last

pub collects_stop : CollectsStopWithoutRoom
collects_stop start contents caller tag channel entries before after same made =
    collect_turn start contents caller tag entries same channel made.between after made.last
