-- Two serial runs of the same calls from the same starts that choose alike are the same, call after call; so are their replies.
use Rattle.std.proofs.Common.{ℕ, ◌≡◌, List, [], ◌∷◌, length, Some, refl, sym, ap, subst, ◌∙◌}
use Rattle.std.specs.Prelude.{All, map}
use Rattle.std.specs.Option.{ForSome}
use Rattle.std.proofs.lemmas.List.Elements.{All-cons, All-head, All-nil, All-tail}
use Rattle.ssd_histories.specs.CallsInOrder.{ChannelRun, IsReplyOf, reply_to}
use Rattle.ssd_histories.specs.Lawful.{IsLawful}
use Rattle.ssd_histories.specs.SerialHistory.{AreServed, SerialCall, SerialState, first_state, none_left, serves}
use Rattle.ssd_histories.specs.Standing.{IsStart}
use Rattle.ssd_histories.specs.Start.{Start}
use Rattle.ssd_geo.specs.declared.reply.Reply.{Reply}
use Rattle.ssd_geo.specs.declared.tag.Tag.{Tag}
use Rattle.ssd_geo.specs.declared.trace.TraceCall.{TraceCall}
use Rattle.ssd_geo.specs.declared.trace.Verb.{Verb}
use Rattle.serial_laws.specs.SerialReplies.{HasOneReply, NamesPages}
use Rattle.serial_laws.proofs.Lists.{pairs_all, pairs_same}
use Rattle.serial_laws.proofs.OneReply.{serial_calls_have_one_reply}
use Rattle.serial_output.specs.OneOutput.{ChoicesDecideRuns, RunsChooseAlike}
use Rattle.serial_output.proofs.SameCalls.{ChannelsCome, IsSameCall, RunComesTo, call_comes, calls_once, channels_come_on, run_itself}

-- the first of some calls that were served, and the others
pub record ServesFirst (contents : List (Tag × List ℕ)) (replies : List (List Reply)) (channels : ℕ) (call : TraceCall)
    (calls : List TraceCall) (before after : SerialState) : Type 0 where
  pub reply : Reply
  pub between : SerialState
  pub is : reply_to replies call.tag ≡ Some reply
  pub made : SerialCall contents channels call.tag reply call.verb before between
  pub rest : AreServed contents replies channels calls between after

-- a call has a reply in both runs; if it is a drain, these tell the same pages
pub record IsAnsweredTwice (replies others : List (List Reply)) (call : TraceCall) : Type 0 where
  pub reply : Reply
  pub told : Reply
  pub is : reply_to replies call.tag ≡ Some reply
  pub is_too : reply_to others call.tag ≡ Some told
  pub names : NamesPages call.verb reply told

record IsSameServing (replies others : List (List Reply)) (calls : List TraceCall) (after other : SerialState) : Type 0 where
  same_state : after ≡ other
  answered : All (IsAnsweredTwice replies others) calls

module _ (contents : List (Tag × List ℕ)) (channels : ℕ) where
  pub serves_first : (replies : List (List Reply)) {call : TraceCall} {calls : List TraceCall} {before after : SerialState} →
      AreServed contents replies channels (call ∷ calls) before after →
      ServesFirst contents replies channels call calls before after
  serves_first replies (serves {reply = reply} {between = between} is made rest) =
      record { reply = reply; between = between; is = is; made = made; rest = rest }

  pub serves_none : (replies : List (List Reply)) {before after : SerialState} →
      AreServed contents replies channels [] before after → before ≡ after
  serves_none replies none_left = refl

  pub served_comes : (replies : List (List Reply)) (calls : List TraceCall) (before after : SerialState) →
      AreServed contents replies channels calls before after → ChannelsCome before.channels after.channels
  served_comes replies [] before after served =
      subst (λ (state : SerialState). ChannelsCome before.channels state.channels) (serves_none replies served)
      (pairs_same RunComesTo run_itself before.channels)
  served_comes replies (call ∷ calls) before after served =
      let first : ServesFirst contents replies channels call calls before after = serves_first replies served in
      channels_come_on before.channels first.between.channels after.channels
      (call_comes contents channels call.tag first.reply call.verb before first.between first.made)
      (served_comes replies calls first.between after first.rest)

  module _ (replies others : List (List Reply)) (after other : SerialState)
      (lawful : All (λ run. IsLawful run.start contents run.past) after.channels)
      (lawful_too : All (λ run. IsLawful run.start contents run.past) other.channels)
      (starts : All (λ run. IsStart run.start) after.channels) (alike : RunsChooseAlike after.channels other.channels) where
    served_once : (calls : List TraceCall) (before : SerialState) → AreServed contents replies channels calls before after →
        AreServed contents others channels calls before other → IsSameServing replies others calls after other
    served_once [] before served served_too = record {
      same_state = sym (serves_none replies served) ∙ serves_none others served_too;
      answered = All-nil (IsAnsweredTwice replies others);
    }
    served_once (call ∷ calls) before served served_too =
        let first : ServesFirst contents replies channels call calls before after = serves_first replies served in
        let second : ServesFirst contents others channels call calls before other = serves_first others served_too in
        let same : IsSameCall call.verb first.reply second.reply first.between second.between =
        calls_once contents channels after.channels other.channels lawful lawful_too starts alike call.tag first.reply
        second.reply call.verb before first.between second.between first.made second.made
        (served_comes replies calls first.between after first.rest)
        (served_comes others calls second.between other second.rest) in
        let later : IsSameServing replies others calls after other =
        served_once calls first.between first.rest
        (subst (λ (state : SerialState). AreServed contents others channels calls state other) (sym same.same_state)
        second.rest) in
        record {
          same_state = later.same_state;
          answered =
              All-cons (IsAnsweredTwice replies others) call calls
              (record {
                reply = first.reply;
                told = second.reply;
                is = first.is;
                is_too = second.is;
                names = same.names;
              }) later.answered;
        }

-- the channels at the end have the starts of the run
pub starts_first : (starts : List Start) → All IsStart starts →
    All (λ run. IsStart run.start) (map {B = ChannelRun} (λ start. record { start = start; past = [] }) starts)
starts_first [] all = All-nil (λ (run : ChannelRun). IsStart run.start)
starts_first (start ∷ starts) all =
    All-cons (λ (run : ChannelRun). IsStart run.start) (record { start = start; past = [] })
    (map (λ begun. record { start = begun; past = [] }) starts) (All-head IsStart start starts all)
    (starts_first starts (All-tail IsStart start starts all))

pub starts_at_end : (runs nexts : List ChannelRun) → ChannelsCome runs nexts → All (λ run. IsStart run.start) runs →
    All (λ run. IsStart run.start) nexts
starts_at_end runs nexts come all =
    pairs_all RunComesTo (λ run. IsStart run.start) (λ run. IsStart run.start)
    (λ run next comes is_start. subst IsStart (sym comes.same_start) is_start) runs nexts come all

-- the reply of a drain names its own pages
names_itself : (verb : Verb) (reply : Reply) → NamesPages verb reply reply
names_itself (Verb.Drain count) reply = refl
names_itself verb reply = tt

-- so both replies of a call are its one reply
module _ (contents : List (Tag × List ℕ)) (replies others : List (List Reply)) (runs : List ChannelRun) where
  one_reply : (call : TraceCall) → IsAnsweredTwice replies others call →
      ForSome (reply_to replies call.tag) (HasOneReply contents runs call) →
      ForSome (reply_to replies call.tag) (IsReplyOf contents runs call) →
      ForSome (reply_to others call.tag) (IsReplyOf contents runs call) → reply_to replies call.tag ≡ reply_to others call.tag
  one_reply call twice one is is_too =
      let only : HasOneReply contents runs call twice.reply = one twice.reply twice.is in
      let first : twice.reply ≡ only.reply =
      only.only twice.reply (is twice.reply twice.is) (names_itself call.verb twice.reply) in
      let second : twice.told ≡ only.reply = only.only twice.told (is_too twice.told twice.is_too) twice.names in
      twice.is ∙ ap (λ (reply : Reply). Some reply) (first ∙ sym second) ∙ sym twice.is_too

  pub replies_same : (calls : List TraceCall) → All (IsAnsweredTwice replies others) calls →
      All (λ call. ForSome (reply_to replies call.tag) (HasOneReply contents runs call)) calls →
      All (λ call. ForSome (reply_to replies call.tag) (IsReplyOf contents runs call)) calls →
      All (λ call. ForSome (reply_to others call.tag) (IsReplyOf contents runs call)) calls →
      All (λ call. reply_to replies call.tag ≡ reply_to others call.tag) calls
  replies_same [] twice one is is_too = All-nil (λ (call : TraceCall). reply_to replies call.tag ≡ reply_to others call.tag)
  replies_same (call ∷ calls) twice one is is_too =
      let has_one : TraceCall → Type 0 = λ named. ForSome (reply_to replies named.tag) (HasOneReply contents runs named) in
      let has : TraceCall → Type 0 = λ named. ForSome (reply_to replies named.tag) (IsReplyOf contents runs named) in
      let has_too : TraceCall → Type 0 = λ named. ForSome (reply_to others named.tag) (IsReplyOf contents runs named) in
      All-cons (λ (named : TraceCall). reply_to replies named.tag ≡ reply_to others named.tag) call calls
      (one_reply call (All-head (IsAnsweredTwice replies others) call calls twice) (All-head has_one call calls one)
      (All-head has call calls is) (All-head has_too call calls is_too))
      (replies_same calls (All-tail (IsAnsweredTwice replies others) call calls twice) (All-tail has_one call calls one)
      (All-tail has call calls is) (All-tail has_too call calls is_too))

pub choices_decide_runs : ChoicesDecideRuns
choices_decide_runs contents starts actors calls replies others after other are_starts numbered run run_too alike =
    let at_end : All (λ channel. IsStart channel.start) after.channels =
    starts_at_end (first_state starts).channels after.channels
    (served_comes contents (length starts) replies calls (first_state starts) after run.are_served)
    (starts_first starts are_starts) in
    let same : IsSameServing replies others calls after other =
    served_once contents (length starts) replies others after other run.are_lawful run_too.are_lawful at_end alike calls
    (first_state starts) run.are_served run_too.are_served in
    record {
      same_state = same.same_state;
      same_replies =
          replies_same contents replies others after.channels calls same.answered
          (serial_calls_have_one_reply contents starts actors calls replies after numbered run.are_served)
          run.are_replies.are_replies
          (subst
          (λ (state : SerialState). All
          (λ call. ForSome (reply_to others call.tag) (IsReplyOf contents state.channels call)) calls)
          (sym same.same_state) run_too.are_replies.are_replies);
    }
