-- The pages that a drain refreshed so far on each channel, and one page more.
use Rattle.std.proofs.Common.{ℕ, ◌≡◌, ◌%◌, ◌/◌, ◌==◌, ◌<◌, true, false, List, [], ◌∷◌, ◌++◌, Some, sym, subst, ◌∙◌, eqb-true}
use Rattle.std.specs.Prelude.{IfSome, Option, None}
use Rattle.std.proofs.lemmas.Bool.{false_from_ne_true}
use Rattle.std.proofs.lemmas.List.Elements.{filter-append}
use Rattle.std.proofs.lemmas.Option.{slice_get_within}
use Rattle.shared_lemmas.proofs.Tests.{same_number}
use Rattle.chan_calls.specs.Caller.{CallerView, SameCaller}
use Rattle.serial_laws.proofs.Lists.{IsItemAt, item_at}
use Rattle.ssd_geo.specs.declared.entry.Entry.{Entry}
use Rattle.ssd_geo.specs.declared.reply.RefreshReply.{RefreshReply}
use Rattle.ssd_geo.specs.declared.tag.Tag.{Tag}
use Rattle.ssd_histories.specs.Replies.{pages_on}
use Rattle.ssd_histories.specs.Start.{Start}
use Rattle.calls_among_others.specs.Parts.{IsRefreshAmong}
use Rattle.calls_among_others.specs.StepsAmong.{HasCome}
use Rattle.calls_among_others.proofs.AmongSteps.{came_then, none_came, steps_later}
use Rattle.race_laws.specs.Drains.{AreRefreshedAmong}
use Rattle.actor_calls.specs.Known.{AreSameCallers, ChannelFact, OfEachChannel}

-- a caller that stays the same twice
both_same : (old mid new : CallerView) → SameCaller old mid → SameCaller mid new → SameCaller old new
both_same old mid new first second = record {
  limit_stays = second.limit_stays ∙ first.limit_stays;
  shape_stays = second.shape_stays ∙ first.shape_stays;
  session_stays = second.session_stays ∙ first.session_stays;
  number_stays = second.number_stays ∙ first.number_stays;
  bound_stays = second.bound_stays ∙ first.bound_stays;
  reference_stays = second.reference_stays ∙ first.reference_stays;
}

module _ (start : Start) (contents : List (Tag × List ℕ)) (channels : ℕ) (tag : Tag) where
  -- pages after some to which others came, and pages after pages
  refreshed_later : (pages : List (ℕ × RefreshReply)) (before between after : List Entry) → HasCome tag.actor before between →
      AreRefreshedAmong start contents channels tag pages between after →
      AreRefreshedAmong start contents channels tag pages before after
  refreshed_later [] before between after came last = came_then tag.actor before between after came last
  refreshed_later (page ∷ pages) before between after came made = (
    made.0,
    record {
      steps = made.1.steps;
      are_steps = steps_later tag before between made.0 made.1.steps came made.1.are_steps;
      is_refresh = made.1.is_refresh;
      reply_is = made.1.reply_is;
      fault_is = made.1.fault_is;
    },
    made.2,
  )

  refreshed_join : (pages more : List (ℕ × RefreshReply)) (before between after : List Entry) →
      AreRefreshedAmong start contents channels tag pages before between →
      AreRefreshedAmong start contents channels tag more between after →
      AreRefreshedAmong start contents channels tag (pages ++ more) before after
  refreshed_join [] more before between after first second = refreshed_later more before between after first second
  refreshed_join (page ∷ pages) more before between after first second =
      (first.0, first.1, refreshed_join pages more first.0 between after first.2 second)

  -- so on one channel
  pub pages_then : (n : ℕ) (pages more : List (ℕ × RefreshReply)) (before between after : List Entry) →
      AreRefreshedAmong start contents channels tag (pages_on channels n pages) before between →
      AreRefreshedAmong start contents channels tag (pages_on channels n more) between after →
      AreRefreshedAmong start contents channels tag (pages_on channels n (pages ++ more)) before after
  pages_then n pages more before between after first second =
      subst (λ (all : List (ℕ × RefreshReply)). AreRefreshedAmong start contents channels tag all before after)
      (sym (filter-append (λ (drained : ℕ × RefreshReply). drained.0 % channels == n) pages more))
      (refreshed_join (pages_on channels n pages) (pages_on channels n more) before between after first second)

  -- one page on its channel, and on another
  pub page_here : (n page : ℕ) (reply : RefreshReply) (before after : List Entry) → n ≡ page % channels →
      IsRefreshAmong start contents tag (page / channels) before after reply →
      AreRefreshedAmong start contents channels tag (pages_on channels n ((page, reply) ∷ [])) before after
  page_here n page reply before after here made =
      let test : (page % channels == n) ≡ true = rw here (same_number (page % channels)) in
      rw test (after, made, none_came tag.actor after)

  pub page_elsewhere : (n page : ℕ) (reply : RefreshReply) (seen : List Entry) → (n ≡ page % channels → ⊥) →
      AreRefreshedAmong start contents channels tag (pages_on channels n ((page, reply) ∷ [])) seen seen
  page_elsewhere n page reply seen differs =
      let test : (page % channels == n) ≡ false =
      false_from_ne_true (page % channels == n) (λ same. differs (sym (eqb-true (page % channels) n same))) in
      rw test (none_came tag.actor seen)

-- two facts of what a channel is bound to, one after the other, are one
abbrev Joins : ChannelFact → ChannelFact → ChannelFact → Type 0
Joins first second both =
    (n : ℕ) (start : Start) (contents : List (Tag × List ℕ)) (before between after : List Entry) →
    first n start contents before between → second n start contents between after → both n start contents before after

bound_joins : (first second both : ChannelFact) → Joins first second both → (n : ℕ) (before between after : List Entry)
    (bound : Option (Start × List (Tag × List ℕ))) → IfSome bound (λ bound. first n bound.0 bound.1 before between) →
    IfSome bound (λ bound. second n bound.0 bound.1 between after) →
    IfSome bound (λ bound. both n bound.0 bound.1 before after)
bound_joins first second both join n before between after None one two = tt
bound_joins first second both join n before between after (Some bound) one two =
    join n bound.0 bound.1 before between after one two

-- where callers stay the same, so it is of each channel
module _ (olds mids news : List CallerView) (same : AreSameCallers olds mids) where
  pub each_then : (first second both : ChannelFact) → Joins first second both → OfEachChannel first olds mids →
      OfEachChannel second mids news → OfEachChannel both olds news
  each_then first second both join made more n old new was now =
      let low = slice_get_within olds n old was in
      let there : IsItemAt mids n = item_at mids n (subst (λ (count : ℕ). n < count) (sym same.as_many) low) in
      let stays = (same.each n old there.item was there.is_there).bound_stays in
      bound_joins first second both join n old.seen there.item.seen new.seen old.bound (made n old there.item was there.is_there)
      (subst
      (λ (bound : Option (Start × List (Tag × List ℕ))).
      IfSome bound (λ bound. second n bound.0 bound.1 there.item.seen new.seen)) stays
      (more n there.item new there.is_there now))

  pub same_then : AreSameCallers mids news → AreSameCallers olds news
  same_then more = record {
    as_many = more.as_many ∙ same.as_many;
    each = λ n old new was now.
        let low = slice_get_within olds n old was in
        let there : IsItemAt mids n = item_at mids n (subst (λ (count : ℕ). n < count) (sym same.as_many) low) in
        both_same old there.item new (same.each n old there.item was there.is_there)
        (more.each n there.item new there.is_there now);
  }
