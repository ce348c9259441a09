-- The pages that a serial drain took, each with the reply that its refresh decided: on each channel they are what its steps
-- tell there, and no other list of replies with these pages is.
use Rattle.std.proofs.Common.{ℕ, ◌≡◌, ◌≢◌, ◌+◌, ◌*◌, ◌/◌, ◌%◌, ◌<◌, Bool, true, false, List, [], ◌∷◌, ◌++◌, length, map, Option, Some, None, refl, sym, ap, subst, ◌∙◌, inl, inr, eq-eqb, eqb-true, arith}
use Rattle.std.specs.Prelude.{◌==◌, All, is_some, slice_get, slice_set}
use Rattle.std.specs.List.{list_any}
use Rattle.std.proofs.lemmas.Bool.{and_parts, cases_eq, false≢true, or_parts, false_from_ne_true}
use Rattle.std.proofs.lemmas.List.{length-set}
use Rattle.std.proofs.lemmas.List.Elements.{All-cons, All-head, All-nil, All-tail}
use Rattle.std.proofs.lemmas.List.Folds.{list_any-append}
use Rattle.std.proofs.lemmas.Option.{slice_get_within, same_Some}
use Rattle.ssd_histories.specs.CallSteps.{CallStep, is_look_at_row, is_look_of_none, position_of}
use Rattle.ssd_histories.specs.CallsInOrder.{ChannelRun, ladder_in}
use Rattle.ssd_histories.specs.Copies.{IsRefresh, is_lone_look}
use Rattle.ssd_geo.specs.Ladder.{LadderState}
use Rattle.ssd_histories.specs.Replies.{decided_pages, drained_on, is_die_fault, is_fault_last, pages_on, refresh_decided, refresh_reply, row_looked_at}
use Rattle.ssd_histories.specs.SerialCalls.{AreStepsFrom}
use Rattle.ssd_histories.specs.SerialHistory.{DrainedRefresh, SerialDrain, SerialState, faults, finds_none, has_taken_all, takes, without_hint}
use Rattle.ssd_geo.specs.declared.entry.Entry.{Entry}
use Rattle.ssd_geo.specs.declared.kind.Kind.{Kind}
use Rattle.ssd_geo.specs.declared.reply.RefreshReply.{RefreshReply}
use Rattle.ssd_geo.specs.declared.tag.Tag.{Tag}
use Rattle.serial_laws.proofs.DecidedReplies.{faultless_refresh, first_of_both, refresh_is_decided}
use Rattle.serial_laws.proofs.Lists.{get_set_other, get_set_there, not_empty, same_first}
use Rattle.serial_laws.proofs.LookLists.{by_kind, is_look, no_look_in_ending, no_look_leaves, no_senses_look}
use Rattle.serial_laws.proofs.MadeSteps.{steps_join}
use Rattle.shared_lemmas.proofs.Tests.{same_number}

-- the steps of a refresh begin with its look, and have no other
pub record HasOneLook (row : ℕ) (steps : List CallStep) : Type 0 where
  pub look : CallStep
  pub others : List CallStep
  pub are_steps : steps ≡ look ∷ others
  pub of_row : row_looked_at look.entry.kind ≡ Some row
  pub no_look : list_any (by_kind is_look) others ≡ false

row_is : (row : ℕ) (kind : Kind) → is_look_at_row row kind ≡ true → row_looked_at kind ≡ Some row
row_is row (Kind.Look named found closed) e = ap {B = Option ℕ} Some (eqb-true named row e)
row_is row kind e = absurd (false≢true e)

refresh_has_look : (ladder : List Entry → ℕ → LadderState) (row : ℕ) (steps : List CallStep) → IsRefresh ladder row steps →
    HasOneLook row steps
refresh_has_look ladder row steps (inl lone) = alone steps lone
  where
    alone : (steps : List CallStep) → is_lone_look row steps ≡ true → HasOneLook row steps
    alone [] e = absurd (false≢true e)
    alone (step ∷ []) e = record {
      look = step;
      others = [];
      are_steps = refl;
      of_row = row_is row step.entry.kind (and_parts (is_look_of_none step.entry.kind)
          (is_look_at_row row step.entry.kind) e).1;
      no_look = refl;
    }
    alone (step ∷ next ∷ more) e = absurd (false≢true e)
refresh_has_look ladder row steps (inr page) =
    let at : ℕ = position_of page.look in
    let senses : list_any (by_kind is_look) page.is_list.senses ≡ false =
    no_senses_look at page.is_list.senses page.is_list.are_senses in
    let ending : list_any (by_kind is_look) page.ending ≡ false =
    no_look_in_ending ladder at page.ending page.leave page.ends in
    let leaves : is_look page.leave.entry.kind ≡ false = no_look_leaves at page.leave.entry.kind page.is_list.is_left in
    record {
      look = page.look;
      others = (page.is_list.senses ++ page.ending) ++ page.leave ∷ [];
      are_steps = page.is_list.are_steps;
      of_row = row_is row page.look.entry.kind page.of_row;
      no_look =
          list_any-append (by_kind is_look) (page.is_list.senses ++ page.ending) (page.leave ∷ [])
          ∙ rw (list_any-append (by_kind is_look) page.is_list.senses page.ending, senses, ending, leaves) refl;
    }

module _ (ladder : List Entry → ℕ → LadderState) (channels channel : ℕ) where
  -- steps without a look tell of no page, and the look of a refresh tells of its own
  none_drained : (xs ys : List CallStep) → list_any (by_kind is_look) xs ≡ false →
      drained_on ladder channels channel (xs ++ ys) ≡ drained_on ladder channels channel ys
  none_drained [] ys none = refl
  none_drained (step ∷ xs) ys none =
      let parts = or_parts (is_look step.entry.kind) (list_any (by_kind is_look) xs) none in
      by_option (row_looked_at step.entry.kind) parts.0 (none_drained xs ys parts.1)
    where
      by_option : (option : Option ℕ) → is_some option ≡ false →
          drained_on ladder channels channel (xs ++ ys) ≡ drained_on ladder channels channel ys →
          ◌≡◌ {A = List (ℕ × Option RefreshReply)}
          (elim option as (λ _. List (ℕ × Option RefreshReply)) [
            | Some row ↦ (row * channels + channel, refresh_reply ladder (step ∷ xs ++ ys)) ∷ drained_on ladder channels channel
                (xs ++ ys)
            | None ↦ drained_on ladder channels channel (xs ++ ys)
          ])
          (drained_on ladder channels channel ys)
      by_option (Some row) none later = absurd (grind arith)
      by_option None none later = later

  pub one_drained : (row : ℕ) (steps more : List CallStep) (reply : RefreshReply) → IsRefresh ladder row steps →
      refresh_reply ladder steps ≡ Some reply →
      drained_on ladder channels channel (steps ++ more) ≡
      (row * channels + channel, Some reply) ∷ drained_on ladder channels channel more
  one_drained row steps more reply refresh is =
      let one : HasOneLook row steps = refresh_has_look ladder row steps refresh in
      let decided : refresh_reply ladder (one.look ∷ one.others ++ more) ≡ Some reply =
      first_of_both (λ step. refresh_decided ladder step.past step.entry.kind) (one.look ∷ one.others) more reply
      (subst (λ (list : List CallStep). refresh_reply ladder list ≡ Some reply) one.are_steps is) in
      ap (λ (list : List CallStep). drained_on ladder channels channel (list ++ more)) one.are_steps
      ∙ told one.look (one.others ++ more) one.of_row
      ∙ (λ i. (row * channels + channel, decided i) ∷ none_drained one.others more one.no_look i)
    where
      told : (look : CallStep) (later : List CallStep) → row_looked_at look.entry.kind ≡ Some row →
          drained_on ladder channels channel (look ∷ later) ≡
          (row * channels + channel, refresh_reply ladder (look ∷ later)) ∷ drained_on ladder channels channel later
      told look later of_row = rw (of_row, drained_on) refl

-- what a drain made on a channel tells of these pages
pub record IsDrainedAs (contents : List (Tag × List ℕ)) (tag : Tag) (channels : ℕ) (pages : List (ℕ × RefreshReply))
    (channel : ℕ) (run next : ChannelRun) : Type 0 where
  pub steps : List CallStep
  pub same_start : next.start ≡ run.start
  pub are_steps : AreStepsFrom tag run.past steps next.past
  pub are_drained : drained_on (ladder_in contents run) channels channel steps ≡ decided_pages (pages_on channels channel pages)

-- the pages that a drain took, with their replies
pub record AreDrained (contents : List (Tag × List ℕ)) (tag : Tag) (channels : ℕ) (taken : List ℕ)
    (before after : List ChannelRun) : Type 0 where
  pub pages : List (ℕ × RefreshReply)
  pub are_taken : map (λ (drained : ℕ × RefreshReply). drained.0) pages ≡ taken
  pub fault_last : is_fault_last pages ≡ true
  pub in_range : All (λ page. page % channels < channels) taken
  pub each : (i : ℕ) (run next : ChannelRun) → slice_get before i ≡ Some run → slice_get after i ≡ Some next →
      IsDrainedAs contents tag channels pages i run next

pub fault_is_last : (page : ℕ) (reply : RefreshReply) (pages : List (ℕ × RefreshReply)) → is_die_fault reply ≡ false →
    is_fault_last pages ≡ true → is_fault_last ((page, reply) ∷ pages) ≡ true
fault_is_last page reply [] none rest = refl
fault_is_last page reply (next ∷ pages) none rest = rw (none, is_fault_last) rest

-- the reply that is there
pub record IsSomeReply (option : Option RefreshReply) : Type 0 where
  pub reply : RefreshReply
  pub is_there : option ≡ Some reply

pub some_reply : (option : Option RefreshReply) → is_some option ≡ true → IsSomeReply option
some_reply None e = absurd (false≢true e)
some_reply (Some reply) e = record { reply = reply; is_there = refl }

module _ (contents : List (Tag × List ℕ)) (channels : ℕ) (tag : Tag) where
  none_taken : (before : List ChannelRun) → AreDrained contents tag channels [] before before
  none_taken before = record {
    pages = [];
    are_taken = refl;
    fault_last = refl;
    in_range = All-nil (λ page. page % channels < channels);
    each = λ i run next is also.
        subst (IsDrainedAs contents tag channels [] i run) (same_Some run next (sym is ∙ also))
        (record { steps = []; same_start = refl; are_steps = refl; are_drained = refl });
  }

  module _ (page : ℕ) (before between : SerialState) (after : List ChannelRun) (fault : Bool) (taken : List ℕ)
      (one : DrainedRefresh contents channels tag page before between fault) (many : length before.channels ≡ channels)
      (rest : AreDrained contents tag channels taken between.channels after) where
    decided : IsSomeReply (refresh_reply (ladder_in contents one.run) one.steps)
    decided =
        some_reply (refresh_reply (ladder_in contents one.run) one.steps)
        (refresh_is_decided (ladder_in contents one.run) (page / channels) one.steps one.is_refresh)

    low : page % channels < channels
    low = let within = slice_get_within before.channels (page % channels) one.run one.is_there in omega (arith, within, many)

    page_is : page / channels * channels + page % channels ≡ page
    page_is = let positive : 0 < channels = omega (arith, low) in omega arith

    between_is : between.channels ≡ slice_set before.channels (page % channels)
        (record { start = one.run.start; past = one.past })
    between_is = ap (λ (state : SerialState). state.channels) one.after_is

    on_own : (next : ChannelRun) → slice_get after (page % channels) ≡ Some next →
        IsDrainedAs contents tag channels ((page, decided.reply) ∷ rest.pages) (page % channels) one.run next
    on_own next is =
        let middle : ChannelRun = record { start = one.run.start; past = one.past } in
        let there : slice_get between.channels (page % channels) ≡ Some middle =
        ap (λ (runs : List ChannelRun). slice_get runs (page % channels)) between_is
        ∙ get_set_there before.channels (page % channels) one.run
        (record { start = one.run.start; past = one.past }) one.is_there in
        let later : IsDrainedAs contents tag channels rest.pages (page % channels) middle next =
        rest.each (page % channels) middle next there is in
        record {
          steps = one.steps ++ later.steps;
          same_start = later.same_start;
          are_steps = steps_join tag one.run.past one.past next.past one.steps later.steps one.are_steps later.are_steps;
          are_drained =
              one_drained (ladder_in contents one.run) channels (page % channels)
              (page / channels) one.steps later.steps decided.reply one.is_refresh decided.is_there
              ∙ (λ i. (page_is i, Some decided.reply) ∷ later.are_drained i)
              ∙ rw (same_number (page % channels)) refl;
        }

    elsewhere : (i : ℕ) (run next : ChannelRun) → i ≢ page % channels → slice_get before.channels i ≡ Some run →
        slice_get after i ≡ Some next → IsDrainedAs contents tag channels ((page, decided.reply) ∷ rest.pages) i run next
    elsewhere i run next other is also =
        let there : slice_get between.channels i ≡ Some run =
        ap (λ (runs : List ChannelRun). slice_get runs i) between_is
        ∙ get_set_other before.channels i (page % channels) (record { start = one.run.start; past = one.past }) other ∙ is in
        let later : IsDrainedAs contents tag channels rest.pages i run next = rest.each i run next there also in
        let differs : (page % channels == i) ≡ false =
        false_from_ne_true (page % channels == i) (λ e. other (sym (eqb-true (page % channels) i e))) in
        record {
          steps = later.steps;
          same_start = later.same_start;
          are_steps = later.are_steps;
          are_drained = later.are_drained ∙ rw differs refl;
        }

    one_more_taken : is_fault_last ((page, decided.reply) ∷ rest.pages) ≡ true →
        AreDrained contents tag channels (page ∷ taken) before.channels after
    one_more_taken last = record {
      pages = (page, decided.reply) ∷ rest.pages;
      are_taken = ap (λ (pages : List ℕ). page ∷ pages) rest.are_taken;
      fault_last = last;
      in_range = All-cons (λ page. page % channels < channels) page taken low rest.in_range;
      each = λ i run next is also.
          elim (cases_eq i (page % channels)) [
            | inl same ↦
                let own : one.run ≡ run = same_Some one.run run
                (sym one.is_there ∙ ap (slice_get before.channels) (sym same) ∙ is) in
                let there : slice_get after (page % channels) ≡ Some next = ap (slice_get after) (sym same) ∙ also in
                subst (λ (number : ℕ). IsDrainedAs contents tag channels ((page, decided.reply) ∷ rest.pages) number run next)
                (sym same)
                (subst (λ (older : ChannelRun). IsDrainedAs contents tag channels ((page, decided.reply) ∷ rest.pages)
                (page % channels) older next) own
                (on_own next there))
            | inr other ↦ elsewhere i run next other is also
          ];
    }

  still_many : (page : ℕ) (before between : SerialState) (fault : Bool) →
      DrainedRefresh contents channels tag page before between fault → length before.channels ≡ channels →
      length between.channels ≡ channels
  still_many page before between fault one many =
      ap (λ (state : SerialState). length state.channels) one.after_is
      ∙ length-set before.channels (page % channels) (record { start = one.run.start; past = one.past }) ∙ many

  pub are_drained : {count : ℕ} {taken : List ℕ} {before after : SerialState} → length before.channels ≡ channels →
      SerialDrain contents channels tag count taken before after →
      AreDrained contents tag channels taken before.channels after.channels
  unfolding none_taken
  are_drained {before = before} many has_taken_all = none_taken before.channels
  are_drained {before = before} many (finds_none none) = none_taken before.channels
  are_drained {before = before} {after = after} many
      (takes {count = count} {page = page} {rest = rest} {pages = taken} {between = between} is first later) =
      let drained : AreDrained contents tag channels taken between.channels after.channels =
      are_drained (still_many page (without_hint rest before) between false first many) later in
      let reply : IsSomeReply (refresh_reply (ladder_in contents first.run) first.steps) =
      decided page (without_hint rest before) between after.channels false taken first many drained in
      one_more_taken page (without_hint rest before) between after.channels false taken first many drained
      (fault_is_last page reply.reply drained.pages
      (faultless_refresh (ladder_in contents first.run) first.steps reply.reply first.fault_is reply.is_there)
      drained.fault_last)
  are_drained {before = before} {after = after} many (faults {page = page} {rest = rest} is last) =
      one_more_taken page (without_hint rest before) after after.channels true [] last many (none_taken after.channels) refl

-- replies for the same pages that agree on each channel are the same
pub same_pages : (channels : ℕ) (xs ys : List (ℕ × RefreshReply)) →
    map (λ (drained : ℕ × RefreshReply). drained.0) xs ≡ map (λ (drained : ℕ × RefreshReply). drained.0) ys →
    All (λ page. page % channels < channels) (map (λ (drained : ℕ × RefreshReply). drained.0) xs) →
    ((channel : ℕ) → channel < channels → decided_pages (pages_on channels channel xs) ≡ decided_pages
    (pages_on channels channel ys)) → xs ≡ ys
same_pages channels [] [] same low each = refl
same_pages channels [] (y ∷ ys) same low each =
    absurd (not_empty y.0 (map (λ (drained : ℕ × RefreshReply). drained.0) ys) (sym same))
same_pages channels (x ∷ xs) [] same low each = absurd (not_empty x.0 (map (λ (drained : ℕ × RefreshReply). drained.0) xs) same)
same_pages channels (x ∷ xs) (y ∷ ys) same low each =
    let parts = same_first x.0 y.0 (map (λ (drained : ℕ × RefreshReply). drained.0) xs)
    (map (λ (drained : ℕ × RefreshReply). drained.0) ys) same in
    let own = same_first (x.0, Some x.1) (y.0, Some y.1) (decided_pages (pages_on channels (x.0 % channels) xs))
    (decided_pages (pages_on channels (x.0 % channels) ys)) (on_own parts.0) in
    let replies : x.1 ≡ y.1 = same_Some x.1 y.1 (ap (λ (pair : ℕ × Option RefreshReply). pair.1) own.0) in
    let rest : xs ≡ ys =
    same_pages channels xs ys parts.1 (All-tail (λ page. page % channels < channels) x.0
    (map (λ (drained : ℕ × RefreshReply). drained.0) xs) low)
    (later parts.0 own.1) in
    λ i. (parts.0 i, replies i) ∷ rest i
  where
    on_own : x.0 ≡ y.0 → (x.0, Some x.1) ∷ decided_pages (pages_on channels (x.0 % channels) xs) ≡
        (y.0, Some y.1) ∷ decided_pages (pages_on channels (x.0 % channels) ys)
    on_own page =
        let first : (x.0 % channels == x.0 % channels) ≡ true = same_number (x.0 % channels) in
        let second : (y.0 % channels == x.0 % channels) ≡ true =
        eq-eqb (y.0 % channels) (x.0 % channels) (ap (λ (n : ℕ). n % channels) (sym page)) in
        told x xs first
        ∙ each (x.0 % channels) (All-head (λ page. page % channels < channels) x.0
        (map (λ (drained : ℕ × RefreshReply). drained.0) xs) low)
        ∙ sym (told y ys second)
      where
        told : (z : ℕ × RefreshReply) (zs : List (ℕ × RefreshReply)) → (z.0 % channels == x.0 % channels) ≡ true →
            (z.0, Some z.1) ∷ decided_pages (pages_on channels (x.0 % channels) zs) ≡ decided_pages
            (pages_on channels (x.0 % channels) (z ∷ zs))
        told z zs e = rw e refl

    later : x.0 ≡ y.0 → decided_pages (pages_on channels (x.0 % channels) xs) ≡ decided_pages
        (pages_on channels (x.0 % channels) ys) →
        (channel : ℕ) → channel < channels → decided_pages (pages_on channels channel xs) ≡ decided_pages
        (pages_on channels channel ys)
    later page own channel within =
        elim (cases_eq channel (x.0 % channels)) [
          | inl same ↦ subst (λ (n : ℕ). decided_pages (pages_on channels n xs) ≡ decided_pages (pages_on channels n ys))
              (sym same) own
          | inr other ↦
              let first : (x.0 % channels == channel) ≡ false =
              false_from_ne_true (x.0 % channels == channel) (λ e. other (sym (eqb-true (x.0 % channels) channel e))) in
              let second : (y.0 % channels == channel) ≡ false =
              false_from_ne_true (y.0 % channels == channel)
              (λ e. other (sym (eqb-true (y.0 % channels) channel e) ∙ ap (λ (n : ℕ). n % channels) (sym page))) in
              skipped x xs first ∙ each channel within ∙ sym (skipped y ys second)
        ]
      where
        skipped : (z : ℕ × RefreshReply) (zs : List (ℕ × RefreshReply)) → (z.0 % channels == channel) ≡ false →
            decided_pages (pages_on channels channel zs) ≡ decided_pages (pages_on channels channel (z ∷ zs))
        skipped z zs e = rw e refl
