-- Where a run stopped in a call, the queue of hints is exact too: the pages taken are those of the calls that were served and
-- of the one that was cut.
use Rattle.std.proofs.Common.{ℕ, ◌≡◌, false, List, [], ◌∷◌, ◌++◌, length, refl, sym, ap, subst, ◌∙◌, append_assoc, arith}
use Rattle.std.specs.Prelude.{All}
use Rattle.std.specs.Option.{ForSome}
use Rattle.std.proofs.lemmas.List.Elements.{All-cons, All-head, All-nil, All-tail}
use Rattle.ssd_histories.specs.CallsInOrder.{ChannelRun, IsReplyOf, reply_to}
use Rattle.ssd_histories.specs.History.{is_same_tag}
use Rattle.ssd_histories.specs.SerialHistory.{SerialState, first_state}
use Rattle.ssd_histories.specs.SerialStop.{IsCutOn, SerialCut, SerialDrainCut, stops, takes}
use Rattle.ssd_geo.specs.declared.entry.Entry.{Entry}
use Rattle.ssd_geo.specs.declared.tag.Tag.{Tag}
use Rattle.ssd_geo.specs.declared.trace.TraceCall.{TraceCall}
use Rattle.ssd_geo.specs.declared.trace.Verb.{Verb}
use Rattle.serial_laws.proofs.Lists.{Pairwise, all_both, pairs_flip, pairs_weaker}
use Rattle.serial_laws.proofs.MadeCalls.{IsGrownRun}
use Rattle.serial_laws.proofs.MovedReplies.{HasSameSteps, reply_moves}
use Rattle.serial_laws.proofs.NumberedTags.{IsBelow, counts_in, later_tag, other_way}
use Rattle.serial_laws.proofs.OrderedCalls.{below as below_served, cut, late as late_number, numbered_served}
use Rattle.serial_laws.proofs.ServedChains.{nothing_served}
use Rattle.serial_output.specs.ExactHints.{StoppedHintsAreExact, TakesCutHints, pages_taken}
use Rattle.serial_output.proofs.ExactHints.{MovesQueueOver, same_steps, served_moves, steps_back}

-- a call that was cut on one channel took no hint
cut_on_takes : (channel named entries : ℕ) (fact : ChannelRun → List Entry → List Entry → Type 0) (before after : SerialState) →
    IsCutOn channel named entries fact before after → TakesCutHints before after
cut_on_takes channel named entries fact before after one = record {
  pages = [];
  hints = sym (ap (λ (state : SerialState). state.hints) one.is_cut.after_is);
  same_dropped = ap (λ (state : SerialState). state.dropped) one.is_cut.after_is;
}

module _ (contents : List (Tag × List ℕ)) (channels named entries : ℕ) (tag : Tag) where
  drain_cut_takes : {count : ℕ} {before after : SerialState} →
      SerialDrainCut contents channels tag named entries count before after → TakesCutHints before after
  drain_cut_takes (stops {page = page} is on full) = record { pages = page ∷ []; hints = is; same_dropped = refl }
  drain_cut_takes {before = before} {after = after} (takes {page = page} {rest = rest} {between = between} is one more) =
      let later : TakesCutHints between after = drain_cut_takes more in
      record {
        pages = page ∷ later.pages;
        hints =
            is
            ∙ ap (λ (list : List ℕ). page ∷ list) (sym (ap (λ (state : SerialState). state.hints) one.after_is) ∙ later.hints);
        same_dropped = later.same_dropped ∙ ap (λ (state : SerialState). state.dropped) one.after_is;
      }

  cut_takes : (verb : Verb) (before after : SerialState) → SerialCut contents channels named entries tag verb before after →
      TakesCutHints before after
  cut_takes (Verb.Write page content) before after one = cut_on_takes _ named entries _ before after one
  cut_takes (Verb.Read page) before after one = cut_on_takes _ named entries _ before after one
  cut_takes (Verb.Trim page) before after one = cut_on_takes _ named entries _ before after one
  cut_takes (Verb.Refresh page) before after one = cut_on_takes _ named entries _ before after one
  cut_takes (Verb.Collect channel) before after one = cut_on_takes _ named entries _ before after one
  cut_takes (Verb.Drain count) before after one = drain_cut_takes one
  cut_takes (Verb.Age channel die sb amount) before after one = cut_on_takes _ named entries _ before after one

-- what holds of all items holds of the first ones
pub all_first : {X : Type 0} (P : X → Type 0) (xs ys : List X) → All P (xs ++ ys) → All P xs
all_first P [] ys all = All-nil P
all_first P (x ∷ xs) ys all =
    All-cons P x xs (All-head P x (xs ++ ys) all) (all_first P xs ys (All-tail P x (xs ++ ys) all))

pub stopped_hints_are_exact : StoppedHintsAreExact
stopped_hints_are_exact contents starts actors calls replies channel entries after stop numbered =
    let fact : SerialState → TraceCall → Type 0 =
    λ state call. ForSome (reply_to replies call.tag) (IsReplyOf contents state.channels call) in
    let grown : Pairwise (IsGrownRun stop.call.tag) stop.before.channels after.channels =
    (cut contents starts actors calls replies after channel entries stop numbered).runs in
    let at_end : All (fact after) stop.served =
    all_first (fact after) stop.served (stop.call ∷ stop.rest)
    (subst (All (fact after)) stop.are_calls stop.are_replies.are_replies) in
    let at_cut : All (fact stop.before) stop.served =
    all_both (λ other. IsBelow (counts_in stop.served) other.tag) (fact after) (fact stop.before)
    (λ other low is reply told.
    let differs : is_same_tag other.tag stop.call.tag ≡ false =
    other_way stop.call.tag other.tag (later_tag (counts_in stop.served) stop.call.tag other.tag
    (late_number contents starts actors calls replies after channel entries stop numbered) low) in
    reply_moves contents other.tag after.channels stop.before.channels
    (pairs_flip (HasSameSteps other.tag) (HasSameSteps other.tag) (steps_back other.tag) stop.before.channels after.channels
    (pairs_weaker (IsGrownRun stop.call.tag) (HasSameSteps other.tag) (same_steps other.tag stop.call.tag differs)
    stop.before.channels after.channels grown))
    reply other.verb (is reply told))
    stop.served (below_served contents starts actors calls replies after channel entries stop numbered) at_end in
    let moved : MovesQueueOver replies stop.served (first_state starts) stop.before =
    served_moves contents replies (length starts) actors [] stop.are_served
    (numbered_served contents starts actors calls replies after channel entries stop numbered) (nothing_served contents starts)
    at_cut (omega arith) in
    let taken : TakesCutHints stop.before after =
    cut_takes contents (length starts) channel entries stop.call.tag stop.call.verb stop.before after stop.is_cut in
    record {
      taken = taken;
      in_order =
          append_assoc (pages_taken replies stop.served) taken.pages after.hints
          ∙ ap (λ (list : List ℕ). pages_taken replies stop.served ++ list) (sym taken.hints)
          ∙ moved.in_order;
      dropped = let same = moved.dropped in let still = taken.same_dropped in omega (arith, same, still);
    }
