-- The hints and the failed calls of a drain on all channels: each page of its reply is of one channel at most, where one look
-- and, if the page tells so, one failed call stand for it.
use Rattle.std.proofs.Common.{ℕ, zero, suc, ◌≡◌, ◌+◌, ◌*◌, ◌<◌, ◌≤◌, ◌%◌, ◌==◌, not, Bool, true, false, cond, List, [], ◌∷◌, length, Option, Some, None, refl, sym, ap, subst, ◌∙◌, eqb-true, arith}
use Rattle.std.specs.Prelude.{All, count_by, flat_map, is_some, sum_by}
use Rattle.std.specs.List.{enumerate_from, list_all}
use Rattle.std.proofs.lemmas.Bool.{and_parts, false≢true, false_from_ne_true}
use Rattle.std.proofs.lemmas.List.Elements.{All-head, All-tail, All-weaker}
use Rattle.std.proofs.lemmas.List.Sums.{sum_by-append, sum_by-cons}
use Rattle.ssd_geo.specs.Ladder.{LadderState}
use Rattle.ssd_geo.specs.declared.entry.Entry.{Entry}
use Rattle.ssd_geo.specs.declared.reply.RefreshReply.{RefreshReply}
use Rattle.ssd_geo.specs.declared.tag.Tag.{Tag}
use Rattle.ssd_histories.specs.CallSteps.{CallStep, is_fault}
use Rattle.ssd_histories.specs.CallsInOrder.{ChannelRun, IsSomeRefresh, ladder_in, looks_in_steps, steps_on}
use Rattle.ssd_histories.specs.Copies.{IsRefresh}
use Rattle.ssd_histories.specs.Replies.{decided_pages, drained_on, is_die_fault, is_fault_last, pages_on, refresh_reply, row_looked_at}
use Rattle.ssd_histories.specs.Rounds.{has_fault}
use Rattle.refresh.proofs.FaultReplies.{refresh_fault_is}
use Rattle.serial_laws.proofs.DecidedReplies.{refresh_is_decided}
use Rattle.serial_laws.proofs.DrainedPages.{one_drained, some_reply, IsSomeReply}
use Rattle.serial_laws.proofs.Lists.{not_empty, same_first}
use Rattle.serial_laws.proofs.LookLists.{by_kind, no_more_than_any, refresh_has_one_fault, at_most_one}
use Rattle.serial_laws.proofs.MadeSteps.{faults_in}
use Rattle.race_laws.specs.Drains.{AreDrainedOn, DrainsTakeFew}
use Rattle.std.proofs.lemmas.Option.{same_Some}

-- a sum over numbers, from one on, so many
abbrev sum_from : (ℕ → ℕ) → ℕ → ℕ → ℕ
sum_from g k zero = 0
sum_from g k (suc n) = g k + sum_from g (k + 1) n

sum_numbered : {X : Type 0} (f : X → ℕ) (g : ℕ → ℕ) (k : ℕ) (xs : List X) →
    All (λ item. f item.1 ≤ g item.0) (enumerate_from k xs) → sum_by f xs ≤ sum_from g k (length xs)
sum_numbered f g k [] all = omega arith
sum_numbered {X} f g k (x ∷ xs) all =
    let few : f x ≤ g k = All-head (λ (item : ℕ × X). f item.1 ≤ g item.0) (k, x) (enumerate_from (k + 1) xs) all in
    let later = sum_numbered f g (k + 1) xs
    (All-tail (λ (item : ℕ × X). f item.1 ≤ g item.0) (k, x) (enumerate_from (k + 1) xs) all) in
    let whole : sum_from g k (length (x ∷ xs)) ≡ g k + sum_from g (k + 1) (length xs) = refl in
    omega (arith, sum_by-cons f x xs, few, later, whole)

sum_zero : (g : ℕ → ℕ) → ((i : ℕ) → g i ≡ 0) → (k n : ℕ) → sum_from g k n ≡ 0
sum_zero g zeros k zero = refl
sum_zero g zeros k (suc n) = let here = zeros k in let later = sum_zero g zeros (k + 1) n in omega (arith, here, later)

sum_both : (f g h : ℕ → ℕ) → ((i : ℕ) → f i ≡ g i + h i) → (k n : ℕ) → sum_from f k n ≡ sum_from g k n + sum_from h k n
sum_both f g h parts k zero = refl
sum_both f g h parts k (suc n) =
    let here = parts k in let later = sum_both f g h parts (k + 1) n in omega (arith, here, later)

-- what stands at one number alone
abbrev at_number : ℕ → ℕ → ℕ → ℕ
at_number place amount i = cond (place == i) amount 0

none_beyond : (place amount k n : ℕ) → place < k → sum_from (at_number place amount) k n ≡ 0
none_beyond place amount k zero low = refl
none_beyond place amount k (suc n) low =
    let differs : (place == k) ≡ false =
    false_from_ne_true (place == k) (λ same. let equal : place ≡ k = eqb-true place k same in absurd (omega (arith, low, equal))) in
    let here : at_number place amount k ≡ 0 = ap {B = ℕ} (λ (b : Bool). cond b amount 0) differs in
    let later = none_beyond place amount (k + 1) n (omega (arith, low)) in
    omega (arith, here, later)

once : (place amount k n : ℕ) → sum_from (at_number place amount) k n ≤ amount
once place amount k zero = omega arith
once place amount k (suc n) = by_test (once place amount (k + 1) n) (place == k) refl
  where
    by_test : sum_from (at_number place amount) (k + 1) n ≤ amount → (b : Bool) → (place == k) ≡ b →
        sum_from (at_number place amount) k (suc n) ≤ amount
    by_test few true same =
        let equal : place ≡ k = eqb-true place k same in
        let here : at_number place amount k ≡ amount = ap {B = ℕ} (λ (b : Bool). cond b amount 0) same in
        let later : sum_from (at_number place amount) (k + 1) n ≡ 0 =
        none_beyond place amount (k + 1) n (omega (arith, equal)) in
        omega (arith, here, later)
    by_test few false other =
        let here : at_number place amount k ≡ 0 = ap {B = ℕ} (λ (b : Bool). cond b amount 0) other in
        omega (arith, here, few)

-- the pages that pass a test are no fewer than those of all channels that do
module _ (test : ℕ × RefreshReply → Bool) (channels : ℕ) where
  one_page_on : (page : ℕ × RefreshReply) (pages : List (ℕ × RefreshReply)) (channel : ℕ) →
      count_by test (pages_on channels channel (page ∷ pages)) ≡
      at_number (page.0 % channels) (cond (test page) 1 0) channel + count_by test (pages_on channels channel pages)
  one_page_on page pages channel = by_test (page.0 % channels == channel)
    where
      by_test : (b : Bool) →
          count_by test (cond b (page ∷ pages_on channels channel pages) (pages_on channels channel pages)) ≡
          cond b (cond (test page) 1 0) 0 + count_by test (pages_on channels channel pages)
      by_test true = sum_by-cons (λ (p : ℕ × RefreshReply). cond (test p) 1 0) page (pages_on channels channel pages)
      by_test false = none_and (count_by test (pages_on channels channel pages))
        where
          none_and : (n : ℕ) → n ≡ 0 + n
          none_and n = omega arith

  few_on_all : (pages : List (ℕ × RefreshReply)) (k n : ℕ) →
      sum_from (λ channel. count_by test (pages_on channels channel pages)) k n ≤ count_by test pages
  few_on_all [] k n =
      let none = sum_zero (λ channel. count_by test (pages_on channels channel [])) (λ i. refl) k n in omega (arith, none)
  few_on_all (page ∷ pages) k n =
      let parts = sum_both (λ channel. count_by test (pages_on channels channel (page ∷ pages)))
      (at_number (page.0 % channels) (cond (test page) 1 0)) (λ channel. count_by test (pages_on channels channel pages))
      (one_page_on page pages) k n in
      let first = once (page.0 % channels) (cond (test page) 1 0) k n in
      let later = few_on_all pages k n in
      let whole = sum_by-cons (λ (p : ℕ × RefreshReply). cond (test p) 1 0) page pages in
      omega (arith, parts, first, later, whole)

-- each page passes
abbrev any_page : ℕ × RefreshReply → Bool
any_page page = true

count_all : (pages : List (ℕ × RefreshReply)) → count_by any_page pages ≡ length pages
count_all [] = refl
count_all (page ∷ pages) =
    let whole = sum_by-cons (λ (p : ℕ × RefreshReply). cond (any_page p) 1 0) page pages in
    let later = count_all pages in omega (arith, whole, later)

many_decided : (pages : List (ℕ × RefreshReply)) → length (decided_pages pages) ≡ length pages
many_decided [] = refl
many_decided (page ∷ pages) = ap suc (many_decided pages)

-- only the last page may tell of a failed call, so at most one does
abbrev pub tells_fault : ℕ × RefreshReply → Bool
tells_fault page = is_die_fault page.1

one_fault_told : (pages : List (ℕ × RefreshReply)) → is_fault_last pages ≡ true → count_by tells_fault pages ≤ 1
one_fault_told [] last = omega arith
one_fault_told (page ∷ []) last =
    let whole = sum_by-cons (λ (p : ℕ × RefreshReply). cond (tells_fault p) 1 0) page [] in
    let few = at_most_one (is_die_fault page.1) in
    omega (arith, whole, few)
one_fault_told (page ∷ next ∷ pages) last = by_test (one_fault_told (next ∷ pages)) (is_die_fault page.1) refl last
  where
    by_test : (is_fault_last (next ∷ pages) ≡ true → count_by tells_fault (next ∷ pages) ≤ 1) → (b : Bool) →
        is_die_fault page.1 ≡ b →
        ◌≡◌ {A = Bool} (elim b as (λ _. Bool) [ true ↦ false | false ↦ is_fault_last (next ∷ pages) ]) true →
        count_by tells_fault (page ∷ next ∷ pages) ≤ 1
    by_test later_few true is e = absurd (false≢true e)
    by_test later_few false is e =
        let whole = sum_by-cons (λ (p : ℕ × RefreshReply). cond (tells_fault p) 1 0) page (next ∷ pages) in
        let none : ◌≡◌ {A = ℕ} (cond (is_die_fault page.1) 1 0) 0 = ap {B = ℕ} (λ (b : Bool). cond b 1 0) is in
        let later = later_few e in
        omega (arith, whole, none, later)

-- where none tells of one, none of a channel does
pub none_told : (channels channel : ℕ) (pages : List (ℕ × RefreshReply)) →
    list_all (λ drained. not (is_die_fault drained.1)) pages ≡ true →
    count_by tells_fault (pages_on channels channel pages) ≡ 0
none_told channels channel [] none = refl
none_told channels channel (page ∷ pages) none =
    let parts = and_parts (not (is_die_fault page.1))
    (list_all (λ (drained : ℕ × RefreshReply). not (is_die_fault drained.1)) pages) none in
    by_test (page.0 % channels == channel) (not_told (is_die_fault page.1) parts.0)
    (none_told channels channel pages parts.1)
  where
    not_told : (b : Bool) → not b ≡ true → ◌≡◌ {A = ℕ} (cond b 1 0) 0
    not_told true e = absurd (false≢true e)
    not_told false e = refl

    by_test : (b : Bool) → ◌≡◌ {A = ℕ} (cond (is_die_fault page.1) 1 0) 0 →
        count_by tells_fault (pages_on channels channel pages) ≡ 0 →
        count_by tells_fault (cond b (page ∷ pages_on channels channel pages) (pages_on channels channel pages)) ≡ 0
    by_test true first later =
        let whole = sum_by-cons (λ (p : ℕ × RefreshReply). cond (tells_fault p) 1 0) page (pages_on channels channel pages) in
        omega (arith, whole, first, later)
    by_test false first later = later

-- the steps of a drain on one channel
module _ (ladder : List Entry → ℕ → LadderState) (channels channel : ℕ) where
  looks_are_drained : (steps : List CallStep) → looks_in_steps steps ≡ length (drained_on ladder channels channel steps)
  looks_are_drained [] = refl
  looks_are_drained (step ∷ steps) =
      let whole : looks_in_steps (step ∷ steps) ≡ cond (is_some (row_looked_at step.entry.kind)) 1 0 + looks_in_steps steps =
      sum_by-cons (λ (s : CallStep). cond (is_some (row_looked_at s.entry.kind)) 1 0) step steps in
      whole ∙ by_option (row_looked_at step.entry.kind) (looks_are_drained steps)
    where
      by_option : (option : Option ℕ) → looks_in_steps steps ≡ length (drained_on ladder channels channel steps) →
          cond (is_some option) 1 0 + looks_in_steps steps ≡
          length
          (elim option as (λ _. List (ℕ × Option RefreshReply)) [
            | Some row ↦ (row * channels + channel, refresh_reply ladder (step ∷ steps))
                ∷ drained_on ladder channels channel steps
            | None ↦ drained_on ladder channels channel steps
          ])
      by_option (Some row) later =
          let more : length ((row * channels + channel, refresh_reply ladder (step ∷ steps))
          ∷ drained_on ladder channels channel steps) ≡ suc (length (drained_on ladder channels channel steps)) = refl in
          omega (arith, later, more)
      by_option None later = omega (arith, later)

  -- a failed call in a refresh is told by its page
  few_in_refresh : (row : ℕ) (steps : List CallStep) (reply : RefreshReply) → IsRefresh ladder row steps →
      refresh_reply ladder steps ≡ Some reply → faults_in steps ≤ cond (is_die_fault reply) 1 0
  few_in_refresh row steps reply refresh is =
      by_test (is_die_fault reply) (refresh_fault_is ladder row steps reply refresh is)
    where
      by_test : (b : Bool) → has_fault steps ≡ b → faults_in steps ≤ cond b 1 0
      by_test true fault = refresh_has_one_fault ladder row steps refresh
      by_test false none = let zero_faults = no_more_than_any (by_kind is_fault) steps none in omega (arith, zero_faults)

  pub faults_are_told : (refreshes : List (List CallStep)) (pages : List (ℕ × RefreshReply)) →
      All (IsSomeRefresh ladder) refreshes →
      drained_on ladder channels channel (flat_map (λ refresh. refresh) refreshes) ≡ decided_pages pages →
      faults_in (flat_map (λ refresh. refresh) refreshes) ≤ count_by tells_fault pages
  faults_are_told [] pages each drained = omega arith
  faults_are_told (steps ∷ refreshes) pages each drained =
      by_pages (λ more. faults_are_told refreshes more (All-tail (IsSomeRefresh ladder) steps refreshes each)) pages
      (sym (one_drained ladder channels channel first.row steps (flat_map (λ refresh. refresh) refreshes) reply.reply
      first.is_refresh reply.is_there) ∙ drained)
    where
      first : IsSomeRefresh ladder steps
      first = All-head (IsSomeRefresh ladder) steps refreshes each

      reply : IsSomeReply (refresh_reply ladder steps)
      reply = some_reply (refresh_reply ladder steps) (refresh_is_decided ladder first.row steps first.is_refresh)

      by_pages : ((more : List (ℕ × RefreshReply)) →
          drained_on ladder channels channel (flat_map (λ refresh. refresh) refreshes) ≡ decided_pages more →
          faults_in (flat_map (λ refresh. refresh) refreshes) ≤ count_by tells_fault more) →
          (pages : List (ℕ × RefreshReply)) →
          ◌≡◌ {A = List (ℕ × Option RefreshReply)}
          ((first.row * channels + channel, Some reply.reply)
          ∷ drained_on ladder channels channel (flat_map (λ refresh. refresh) refreshes)) (decided_pages pages) →
          faults_in (flat_map (λ refresh. refresh) (steps ∷ refreshes)) ≤ count_by tells_fault pages
      by_pages told_later [] is =
          absurd (not_empty (first.row * channels + channel, Some reply.reply)
          (drained_on ladder channels channel (flat_map (λ refresh. refresh) refreshes)) is)
      by_pages told_later (page ∷ more) is =
          let parts = same_first (first.row * channels + channel, Some reply.reply) (page.0, Some page.1)
          (drained_on ladder channels channel (flat_map (λ refresh. refresh) refreshes)) (decided_pages more) is in
          let same : reply.reply ≡ page.1 =
          same_Some reply.reply page.1 (ap (λ (pair : ℕ × Option RefreshReply). pair.1) parts.0) in
          let told : ◌≡◌ {A = ℕ} (cond (is_die_fault reply.reply) 1 0) (cond (is_die_fault page.1) 1 0) =
          ap {B = ℕ} (λ (r : RefreshReply). cond (is_die_fault r) 1 0) same in
          let few = few_in_refresh first.row steps reply.reply first.is_refresh reply.is_there in
          let joined = sum_by-append (λ (step : CallStep). cond (is_fault step.entry.kind) 1 0) steps
          (flat_map (λ refresh. refresh) refreshes) in
          let later = told_later more parts.1 in
          let whole = sum_by-cons (λ (p : ℕ × RefreshReply). cond (tells_fault p) 1 0) page more in
          omega (arith, told, few, joined, later, whole)

-- all channels
module _ (contents : List (Tag × List ℕ)) (runs : List ChannelRun) (tag : Tag) (pages : List (ℕ × RefreshReply))
    (each : All (AreDrainedOn contents (length runs) tag pages) (enumerate_from 0 runs)) where
  looks_on : (item : ℕ × ChannelRun) → AreDrainedOn contents (length runs) tag pages item →
      looks_in_steps (steps_on tag item.1) ≤ count_by any_page (pages_on (length runs) item.0 pages)
  looks_on item drained =
      let looks = looks_are_drained (ladder_in contents item.1) (length runs) item.0 (steps_on tag item.1) in
      let lengths : length (drained_on (ladder_in contents item.1) (length runs) item.0 (steps_on tag item.1)) ≡
      length (decided_pages (pages_on (length runs) item.0 pages)) =
      ap (λ (list : List (ℕ × Option RefreshReply)). length list) drained.are_drained in
      let decided = many_decided (pages_on (length runs) item.0 pages) in
      let counted = count_all (pages_on (length runs) item.0 pages) in
      omega (arith, looks, lengths, decided, counted)

  faults_on : (item : ℕ × ChannelRun) → AreDrainedOn contents (length runs) tag pages item →
      faults_in (steps_on tag item.1) ≤ count_by tells_fault (pages_on (length runs) item.0 pages)
  faults_on item drained =
      let are : steps_on tag item.1 ≡ flat_map (λ refresh. refresh) drained.are_refreshes.refreshes =
      drained.are_refreshes.are_steps in
      subst (λ (steps : List CallStep). faults_in steps ≤ count_by tells_fault (pages_on (length runs) item.0 pages)) (sym are)
      (faults_are_told (ladder_in contents item.1) (length runs) item.0 drained.are_refreshes.refreshes
      (pages_on (length runs) item.0 pages) drained.are_refreshes.each
      (subst (λ (steps : List CallStep). drained_on (ladder_in contents item.1) (length runs) item.0 steps ≡
      decided_pages (pages_on (length runs) item.0 pages)) are drained.are_drained))

pub drains_take_few : DrainsTakeFew
drains_take_few contents runs tag count pages each last few =
    let looks = sum_numbered (λ (run : ChannelRun). looks_in_steps (steps_on tag run))
    (λ channel. count_by any_page (pages_on (length runs) channel pages)) 0 runs
    (All-weaker (AreDrainedOn contents (length runs) tag pages)
    (λ (item : ℕ × ChannelRun). looks_in_steps (steps_on tag item.1) ≤ count_by any_page (pages_on (length runs) item.0 pages))
    (looks_on contents runs tag pages each) (enumerate_from 0 runs) each) in
    let all_looks = few_on_all any_page (length runs) pages 0 (length runs) in
    let counted = count_all pages in
    let faults = sum_numbered (λ (run : ChannelRun). faults_in (steps_on tag run))
    (λ channel. count_by tells_fault (pages_on (length runs) channel pages)) 0 runs
    (All-weaker (AreDrainedOn contents (length runs) tag pages)
    (λ (item : ℕ × ChannelRun). faults_in (steps_on tag item.1) ≤ count_by tells_fault (pages_on (length runs) item.0 pages))
    (faults_on contents runs tag pages each) (enumerate_from 0 runs) each) in
    let all_faults = few_on_all tells_fault (length runs) pages 0 (length runs) in
    let told = one_fault_told pages last in
    record {
      few = omega (arith, looks, all_looks, counted, few);
      one_fault = omega (arith, faults, all_faults, told);
    }
