-- Calls that stopped among the entries of others: a step that was refused adds nothing, so what was made before it begins a
-- call of its verb.
use Rattle.std.proofs.Common.{◌≡◌, ℕ, ◌+◌, ◌/◌, ◌%◌, ◌&&◌, not, cond, Bool, true, false, List, [], ◌∷◌, refl, ap, inl, arith}
use Rattle.std.specs.Prelude.{Err, count_by, ⊤}
use Rattle.std.specs.List.{list_all}
use Rattle.std.proofs.lemmas.Bool.{false≢true}
use Rattle.std.proofs.lemmas.List.Sums.{sum_by-cons}
use Rattle.chan_calls.specs.Caller.{CallerView, HasLookRoom, HasStepRoom}
use Rattle.chan_calls.specs.Stepping.{IsStepped, MakesAge, MakesLook, MakesTrim}
use Rattle.chan_calls.specs.declared.read_reply.ReadReply.{ReadReply}
use Rattle.ssd_geo.specs.Ladder.{LadderState}
use Rattle.ssd_geo.specs.declared.entry.Entry.{Entry}
use Rattle.ssd_geo.specs.declared.kind.Kind.{Kind}
use Rattle.ssd_geo.specs.declared.look.Look.{Look}
use Rattle.ssd_geo.specs.declared.row.Row.{Row}
use Rattle.ssd_geo.specs.declared.stop.StepStop.{StepStop}
use Rattle.ssd_geo.specs.declared.tag.Tag.{Tag}
use Rattle.ssd_geo.specs.declared.trace.Verb.{Verb}
use Rattle.ssd_histories.specs.CallSteps.{CallStep}
use Rattle.ssd_histories.specs.CallsInOrder.{AreStepsOf}
use Rattle.ssd_histories.specs.History.{is_same_tag, open_looks}
use Rattle.ssd_histories.specs.Lawful.{IsLawful}
use Rattle.ssd_histories.specs.Start.{Start}
use Rattle.calls_among_others.specs.CallsAmong.{ladders}
use Rattle.calls_among_others.specs.StepsAmong.{AreStepsAmong, HasCome}
use Rattle.calls_among_others.proofs.AmongCopies.{came}
use Rattle.calls_among_others.proofs.AmongHosts.{own_steps}
use Rattle.calls_among_others.proofs.AmongSteps.{came_same, came_then}
use Rattle.calls_among_others.proofs.LookSteps.{made_step}
use Rattle.race_laws.specs.BegunCalls.{AgesStopBegun, HasLeftAll, IsBegunAmong, ReadsStopBegun, RefreshesStopBegun, TrimsStopBegun}
use Rattle.race_laws.proofs.BalancedLooks.{AreBalanced}
use Rattle.race_laws.proofs.LookCounts.{counts_among, none_open}
use Rattle.shared_lemmas.proofs.Tests.{same_number}

-- a step that was refused adds nothing
pub refused_came : {A : Type 0} (has_room : ℕ → List Entry → Type 0) (makes : List Entry → A → List Entry → Type 0) (tag : Tag)
    (old new : CallerView) (stop : StepStop) → IsStepped has_room makes tag old new (Err stop) →
    HasCome tag.actor old.seen new.seen
refused_came has_room makes tag old new (StepStop.HistoryFull told) made =
    came_then tag.actor old.seen made.0 new.seen (came old tag made.0 made.1) (came_same tag.actor made.0 new.seen made.4)
refused_came has_room makes tag old new StepStop.Memory made =
    came_then tag.actor old.seen made.0 new.seen (came old tag made.0 made.1) (came_same tag.actor made.0 new.seen made.3)

-- a call whose looks were left, and as many leaves as looks since, has left its looks
pub none_counted : (tag : Tag) (looks : List (Tag × Look)) → list_all (λ pin. not (is_same_tag tag pin.0)) looks ≡ true →
    count_by (λ pin. is_same_tag tag pin.0) looks ≡ 0
none_counted tag [] all = refl
none_counted tag (pin ∷ looks) all = by_test (is_same_tag tag pin.0) refl all (none_counted tag looks)
  where
    whole : count_by (λ pin. is_same_tag tag pin.0) (pin ∷ looks)
        ≡ cond (is_same_tag tag pin.0) 1 0 + count_by (λ pin. is_same_tag tag pin.0) looks
    whole = sum_by-cons (λ (p : Tag × Look). cond (is_same_tag tag p.0) 1 0) pin looks

    by_test : (b : Bool) → is_same_tag tag pin.0 ≡ b →
        (not b && list_all (λ pin. not (is_same_tag tag pin.0)) looks) ≡ true →
        (list_all (λ pin. not (is_same_tag tag pin.0)) looks ≡ true →
        count_by (λ pin. is_same_tag tag pin.0) looks ≡ 0) →
        count_by (λ pin. is_same_tag tag pin.0) (pin ∷ looks) ≡ 0
    by_test true is rest none = absurd (false≢true rest)
    by_test false is rest none =
        let zero : ◌≡◌ {A = ℕ} (cond (is_same_tag tag pin.0) 1 0) 0 = ap {B = ℕ} (λ (b : Bool). cond b 1 0) is in
        let later = none rest in
        omega (arith, whole, zero, later)

pub all_left : (start : Start) (contents : List (Tag × List ℕ)) (tag : Tag) (before after : List Entry)
    (steps : List CallStep) →
    AreStepsAmong tag before steps after → AreBalanced steps → IsLawful start contents after → HasLeftAll tag before →
    HasLeftAll tag after
all_left start contents tag before after steps are balanced lawful left =
    let count = counts_among tag (ladders start contents) start.base before after steps are lawful in
    let none = none_counted tag (open_looks before) left in
    none_open tag (open_looks after) (omega (arith, count, none, balanced))

module _ (start : Start) (contents : List (Tag × List ℕ)) (tag : Tag) where
  abbrev ladder : List Entry → ℕ → LadderState
  ladder = ladders start contents

  -- nothing was made
  pub stopped_first : (channels channel : ℕ) (verb : Verb) (before after : List Entry) (rest : List CallStep) →
      HasCome tag.actor before after → AreStepsOf ladder start.base channels channel verb rest →
      IsBegunAmong start contents channels channel tag verb before after
  stopped_first channels channel verb before after rest found of_verb = record {
    steps = [];
    rest = rest;
    are_steps = found;
    of_verb = of_verb;
    no_fault = refl;
    leaves_all = all_left start contents tag before after [] found refl;
  }

pub trims_stop : TrimsStopBegun
trims_stop start contents channels page old new tag stop made =
    stopped_first start contents tag channels (page % channels) (Verb.Trim page) old.seen new.seen
    (made_step tag (Kind.Trim (page / channels)) [] ∷ [])
    (refused_came {A = Unit {0}} HasStepRoom (MakesTrim tag (page / channels)) tag old new stop made)
    (own_steps (page % channels) _ _ (same_number (page / channels)))

pub ages_stop : AgesStopBegun
ages_stop start contents channels channel die sb amount old new tag stop made =
    stopped_first start contents tag channels channel (Verb.Age channel die sb amount) old.seen new.seen
    (made_step tag (Kind.Age die sb amount) [] ∷ [])
    (refused_came HasStepRoom (MakesAge tag die sb amount) tag old new stop made)
    (own_steps channel _ _ (rw (same_number die, same_number sb, same_number amount) refl))

pub reads_stop : ReadsStopBegun
reads_stop start contents channels page old new tag stop made =
    stopped_first start contents tag channels (page % channels) (Verb.Read page) old.seen new.seen
    (made_step tag (Kind.Look (page / channels) Row.Empty false) [] ∷ [])
    (refused_came {A = ReadReply} HasLookRoom (λ now reply seen. ⊤) tag old new stop made)
    (own_steps (page % channels) _ _ (inl (same_number (page / channels))))

pub refreshes_stop : RefreshesStopBegun
refreshes_stop start contents channels page caller tag after stop made =
    stopped_first start contents tag channels (page % channels) (Verb.Refresh page) caller.seen after
    (made_step tag (Kind.Look (page / channels) Row.Empty false) [] ∷ [])
    (refused_came HasLookRoom (MakesLook caller.shape tag (page / channels)) tag caller (record caller { seen = after }) stop
    made)
    (own_steps (page % channels) _ _ (inl (same_number (page / channels))))
