-- The calls that make one entry: a trim, and an ageing, done or failed.
use Rattle.std.proofs.Common.{ℕ, ◌≡◌, ◌%◌, ◌/◌, true, List, [], ◌∷◌, Some, refl, sym, ap, subst, ◌∙◌}
use Rattle.std.specs.Prelude.{IsTrue, IsSomeAnd, slice_get}
use Rattle.std.proofs.lemmas.Bool.{false≢true}
use Rattle.ssd_histories.specs.CallSteps.{steps_of}
use Rattle.ssd_histories.specs.CallsInOrder.{is_age_of, is_trim_of, steps_on}
use Rattle.ssd_histories.specs.Replies.{first_reply, single_decided, single_reply}
use Rattle.ssd_histories.specs.Rounds.{is_one}
use Rattle.ssd_histories.specs.SerialCalls.{entry_of}
use Rattle.ssd_histories.specs.SerialHistory.{HasForm, SerialCall, with_past}
use Rattle.ssd_histories.specs.Start.{Start}
use Rattle.ssd_geo.specs.declared.entry.Entry.{Entry}
use Rattle.ssd_geo.specs.declared.kind.Kind.{Kind}
use Rattle.ssd_geo.specs.declared.reply.Reply.{Reply}
use Rattle.ssd_geo.specs.declared.tag.Tag.{Tag}
use Rattle.ssd_geo.specs.declared.trace.Verb.{Verb}
use Rattle.ssd_histories.specs.ServedCalls.{after_trim}
use Rattle.run_laws.specs.RepliedCalls.{HasAged}
use Rattle.run_laws.proofs.MadeCalls.{IsMade, IsUnhinted, on_channel, on_run, one_step, one_step_more, pushes_none, run_of, without_hint}
use Rattle.std.proofs.lemmas.Option.{same_Some}
use Rattle.shared_lemmas.proofs.Tests.{same_number}

-- the reply of an ageing is no hint
age_is_unhinted : (die sb amount : ℕ) (last : Kind) (reply : Reply) → is_age_of die sb amount last ≡ true →
    single_decided last ≡ Some reply → IsUnhinted reply
age_is_unhinted die sb amount (Kind.Age named block by) reply is decided =
    subst IsUnhinted (same_Some Reply.Ok reply decided) (record { takes_none = refl; no_hint = refl })
age_is_unhinted die sb amount (Kind.FaultAge named block by) reply is decided =
    subst IsUnhinted (same_Some (Reply.DieFault named) reply decided) (record { takes_none = refl; no_hint = refl })
age_is_unhinted die sb amount last reply is decided = absurd (false≢true is)

module _ (start : Start) (contents : List (Tag × List ℕ)) (channels channel : ℕ) (tag : Tag)
    (past : List Entry) (no_steps : steps_of tag past ≡ []) where
  module _ (page : ℕ) (on : page % channels ≡ channel) where
    pub trim_is_made : IsMade start contents channels channel tag (Verb.Trim page) Reply.Ok past (after_trim tag (page / channels) past)
    trim_is_made =
        let kind : Kind = Kind.Trim (page / channels) in
        let are : steps_of tag (entry_of tag kind ∷ past) ≡ one_step tag kind past =
        one_step_more tag kind past [] no_steps in
        let is_trim : is_one (is_trim_of (page / channels)) (one_step tag kind past) ≡ true =
        same_number (page / channels) in
        record {
          takes_none = refl;
          is_reply = λ runs many is.
              on_run (λ run. single_reply (steps_on tag run) ≡ Some Reply.Ok) runs channels channel page
              (run_of start (entry_of tag kind ∷ past)) on many is
              (subst (λ steps. single_reply steps ≡ Some Reply.Ok) (sym are) refl);
          hint = 0;
          hints_are = λ hints. refl;
          serves = λ before is.
              on_channel (λ run. HasForm
              (λ steps. IsTrue (is_one (is_trim_of (page / channels)) steps)) tag)
              (page % channels) channel (run_of start past) (entry_of tag kind ∷ past) before on is
              (record { steps = one_step tag kind past; are_steps = (refl, refl, refl); has_form = is_trim });
        }

  module _ (named die sb amount : ℕ) (on : named ≡ channel) where
    entry_is_made : (last : Kind) (reply : Reply) → is_age_of die sb amount last ≡ true → single_decided last ≡ Some reply →
        IsMade start contents channels channel tag (Verb.Age named die sb amount) reply past (entry_of tag last ∷ past)
    entry_is_made last reply is_age decided =
        let are : steps_of tag (entry_of tag last ∷ past) ≡ one_step tag last past =
        one_step_more tag last past [] no_steps in
        let replies : single_reply (one_step tag last past) ≡ Some reply = rw (decided, first_reply) refl in
        let unhinted : IsUnhinted reply = age_is_unhinted die sb amount last reply is_age decided in
        record {
          takes_none = unhinted.takes_none;
          is_reply = λ runs many is.
              subst (λ option. IsSomeAnd option
              (λ run. single_reply (steps_on tag run) ≡ Some reply))
              (sym (ap (slice_get runs) on ∙ is))
              (subst (λ steps. single_reply steps ≡ Some reply) (sym are) replies);
          hint = 0;
          hints_are = λ hints. pushes_none 0 reply hints unhinted;
          serves = λ before is.
              subst (SerialCall contents channels tag reply (Verb.Age named die sb amount) before)
              (without_hint 0 reply (with_past channel (entry_of tag last ∷ past) (run_of start past) before) unhinted)
              (on_channel (λ run. HasForm
              (λ steps. IsTrue (is_one (is_age_of die sb amount) steps)) tag) named channel
              (run_of start past) (entry_of tag last ∷ past) before on is
              (record { steps = one_step tag last past; are_steps = (refl, refl, refl); has_form = is_age }));
        }

    pub age_is_made : (after : List Entry) (reply : Reply) → HasAged tag die sb amount past after reply →
        IsMade start contents channels channel tag (Verb.Age named die sb amount) reply past after
    age_is_made after reply aged =
        subst (λ (new : List Entry). IsMade start contents channels channel tag (Verb.Age named die sb amount) reply past new)
        (sym aged.after_is) (entry_is_made aged.last reply aged.is_age aged.reply_is)
