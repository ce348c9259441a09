-- On a channel that a call doesn't ask for it makes nothing.
use Rattle.std.proofs.Common.{ℕ, ◌≡◌, ◌%◌, ◌==◌, Bool, false, List, [], Some, refl, sym, subst, ◌∙◌, eqb-true, arith}
use Rattle.std.proofs.lemmas.Bool.{false_from_ne_true}
use Rattle.std.proofs.lemmas.Option.{none-some, same_Some}
use Rattle.run_laws.specs.ServedRuns.{channel_of}
use Rattle.ssd_geo.specs.Ladder.{LadderState}
use Rattle.ssd_geo.specs.declared.base.ChannelBase.{ChannelBase}
use Rattle.ssd_geo.specs.declared.entry.Entry.{Entry}
use Rattle.ssd_geo.specs.declared.reply.Reply.{Reply}
use Rattle.ssd_geo.specs.declared.tag.Tag.{Tag}
use Rattle.ssd_geo.specs.declared.trace.Verb.{Verb}
use Rattle.ssd_histories.specs.CallsInOrder.{AreStepsOf, OnOwnChannel}
use Rattle.ssd_histories.specs.Start.{Start}
use Rattle.calls_among_others.specs.CallsAmong.{DecideReply, IsCallAmong, OnOwn, ladders}
use Rattle.calls_among_others.proofs.AmongSteps.{none_came}
use Rattle.race_laws.specs.BegunCalls.{IsBegunAmong}

-- a channel is not that of the call
not_own : (own at n : ℕ) → Some own ≡ Some at → (n ≡ at → ⊥) → (own == n) ≡ false
not_own own at n on differs =
    false_from_ne_true (own == n) (λ same. differs (sym (eqb-true own n same) ∙ same_Some own at on))

module _ (ladder : List Entry → ℕ → LadderState) (base : ChannelBase) (channels at n : ℕ) (differs : n ≡ at → ⊥) where
  none_elsewhere : (own : ℕ) (fact : Type 0) → Some own ≡ Some at → OnOwnChannel (own == n) fact []
  none_elsewhere own fact on =
      subst (λ (b : Bool). OnOwnChannel b fact []) (sym (not_own own at n on differs)) refl

  no_fact_elsewhere : (own : ℕ) (fact : Type 0) → Some own ≡ Some at → OnOwn (own == n) fact
  no_fact_elsewhere own fact on = subst (λ (b : Bool). OnOwn b fact) (sym (not_own own at n on differs)) tt

  no_steps : (verb : Verb) → channel_of channels verb ≡ Some at → AreStepsOf ladder base channels n verb []
  no_steps (Verb.Write page content) on = none_elsewhere (page % channels) _ on
  no_steps (Verb.Read page) on = none_elsewhere (page % channels) _ on
  no_steps (Verb.Trim page) on = none_elsewhere (page % channels) _ on
  no_steps (Verb.Refresh page) on = none_elsewhere (page % channels) _ on
  no_steps (Verb.Collect named) on = none_elsewhere named _ on
  no_steps (Verb.Age named die sb amount) on = none_elsewhere named _ on
  no_steps (Verb.Drain count) on = absurd (none-some at on)

  no_reply : (verb : Verb) (reply : Reply) → channel_of channels verb ≡ Some at →
      DecideReply ladder base channels n verb [] reply
  no_reply (Verb.Write page content) reply on = no_fact_elsewhere (page % channels) _ on
  no_reply (Verb.Read page) reply on = no_fact_elsewhere (page % channels) _ on
  no_reply (Verb.Trim page) reply on = no_fact_elsewhere (page % channels) _ on
  no_reply (Verb.Refresh page) reply on = no_fact_elsewhere (page % channels) _ on
  no_reply (Verb.Collect named) reply on = no_fact_elsewhere named _ on
  no_reply (Verb.Age named die sb amount) reply on = no_fact_elsewhere named _ on
  no_reply (Verb.Drain count) reply on = absurd (none-some at on)

module _ (start : Start) (contents : List (Tag × List ℕ)) (channels at n : ℕ) (differs : n ≡ at → ⊥) (tag : Tag) (verb : Verb)
    (on : channel_of channels verb ≡ Some at) (seen : List Entry) where
  pub call_elsewhere : (reply : Reply) → IsCallAmong start contents channels n tag verb seen seen reply
  call_elsewhere reply = record {
    steps = [];
    are_steps = none_came tag.actor seen;
    of_verb = no_steps (ladders start contents) start.base channels at n differs verb on;
    decide = no_reply (ladders start contents) start.base channels at n differs verb reply on;
    one_fault = omega arith;
  }

  pub begun_elsewhere : IsBegunAmong start contents channels n tag verb seen seen
  begun_elsewhere = record {
    steps = [];
    rest = [];
    are_steps = none_came tag.actor seen;
    of_verb = no_steps (ladders start contents) start.base channels at n differs verb on;
    no_fault = refl;
    leaves_all = λ lawful left. left;
  }
