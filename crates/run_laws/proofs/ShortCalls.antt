-- After a call whose entries found room, its channel's past is no longer than the limit of the history: the senses of a look
-- are fewer than the entries that it sets aside.
use Rattle.std.proofs.Common.{ℕ, suc, ◌≡◌, ◌+◌, ◌-◌, ◌*◌, ◌/◌, ◌<◌, ◌≤◌, ◌==◌, nat_le, Bool, true, false, List, [], ◌∷◌, ◌++◌, length, length-append, ℤ, Option, Some, None, refl, sym, ap, subst, ◌∙◌, inl, inr, arith, eqb-true}
use Rattle.std.specs.Prelude.{IsSomeAnd}
use Rattle.std.specs.List.{list_all}
use Rattle.std.proofs.Math.Nat.{mul-le-mul}
use Rattle.std.proofs.lemmas.Bool.{and_parts, false≢true, leb-true}
use Rattle.std.proofs.lemmas.Bool.Decides.{nat_tests}
use Rattle.ssd_formats.proofs.HeadLaws.{within_is}
use Rattle.ssd_geo.proofs.LadderBound.{ladders_end}
use Rattle.ssd_geo.proofs.Stripes.{data_die-lt}
use Rattle.ssd_geo.specs.Cells.{sensed}
use Rattle.ssd_geo.specs.Coding.{coding_of}
use Rattle.ssd_geo.specs.Ladder.{LadderState, asks, ladder_over}
use Rattle.ssd_geo.specs.LadderLaws.{AsksBelow}
use Rattle.ssd_geo.specs.Stripe.{parity_die, place_of_slot, stripe_of_index}
use Rattle.ssd_geo.specs.declared.entry.Entry.{Entry}
use Rattle.ssd_geo.specs.declared.kind.Kind.{Kind}
use Rattle.ssd_geo.specs.declared.look.Look.{Look}
use Rattle.ssd_geo.specs.declared.place.Place.{Place}
use Rattle.ssd_geo.specs.declared.reply.RefreshReply.{RefreshReply}
use Rattle.ssd_geo.specs.declared.reply.Reply.{Reply}
use Rattle.ssd_geo.specs.declared.row.Row.{Row}
use Rattle.ssd_geo.specs.declared.slot.Slot.{Slot}
use Rattle.ssd_geo.specs.declared.tag.Tag.{Tag}
use Rattle.ssd_geo.specs.declared.trace.Verb.{Verb}
use Rattle.ssd_histories.specs.CallSteps.{CallStep, is_look_at_row, is_look_of_none, is_look_of_page, is_sense_of, position_of}
use Rattle.ssd_histories.specs.CallsInOrder.{is_age_of}
use Rattle.ssd_histories.specs.Copies.{IsLookList, IsRefresh, is_lone_look, is_refreshed}
use Rattle.ssd_histories.specs.History.{look_of, open_look, open_looks}
use Rattle.ssd_histories.specs.HistoryRoom.{found_room, has_look_room, has_room_for, has_step_room}
use Rattle.ssd_histories.specs.Lawful.{IsLawful, IsLawfulKind, IsLawfulSense}
use Rattle.ssd_histories.specs.PastPages.{ladder_of, levels_in, page_of, sense_for, senses_of}
use Rattle.ssd_histories.specs.SerialCalls.{AreStepsFrom, entry_of}
use Rattle.ssd_histories.specs.ServedCalls.{HasFoundNone, HasReadPage, after_look, after_senses, after_sensing}
use Rattle.ssd_histories.specs.Standing.{IsStart}
use Rattle.ssd_histories.specs.Start.{Start}
use Rattle.serial_laws.proofs.LeftLooks.{AreStepsApart, steps_apart}
use Rattle.run_laws.specs.RepliedCalls.{HasFailedRead, IsRepliedBy, WasRefreshed}
use Rattle.run_laws.proofs.RefreshedPasts.{look_asks_room}
use Rattle.run_laws.specs.StoppedRuns.{IsStoppedBy}
use Rattle.serial_laws.proofs.CutCalls.{IsLookMade, cut_keeps, is_outer, of_collect, of_write, pieces_keep}
use Rattle.shared_lemmas.proofs.Tests.{same_number}
use Rattle.ssd_histories.proofs.CountedSteps.{steps_long}

step_fits : (limit : ℕ) (past : List Entry) → has_step_room limit past ≡ true → length past + 1 ≤ limit
step_fits limit past room = let all = leb-true (length past + 256 * length (open_looks past) + 1) limit room in omega (arith, all)

look_fits : (limit : ℕ) (past : List Entry) → has_look_room limit past ≡ true → length past + 256 ≤ limit
look_fits limit past room = let all = leb-true (length past + 256 * (length (open_looks past) + 1)) limit room in omega (arith, all)

-- a past after some senses is longer by them
after_long : (tag : Tag) (at : ℕ) (senses : List (Place × ℤ)) (past : List Entry) →
    length (after_senses tag at senses past) ≡ length past + length senses
after_long tag at [] past = omega arith
after_long tag at (one ∷ more) past =
    let rest = after_long tag at more (entry_of tag (Kind.Sense at one.0 one.1) ∷ past) in omega (arith, rest)

-- the senses that an entry adds to a look's
one_sense : (at : ℕ) (kind : Kind) (older : List (List ℕ)) (given : Place × ℤ → List ℕ) → is_sense_of at kind ≡ true →
    length {A = List ℕ} (elim (sense_for at kind) as (λ x. List (List ℕ)) [ Some asked ↦ older ++ given asked ∷ [] | None ↦ older ])
    ≡ suc (length older)
one_sense at (Kind.Sense named place level) older given e = by_test (named == at) e
  where
    by_test : (b : Bool) → b ≡ true → length {A = List ℕ}
        (elim (elim b as (λ x. Option (Place × ℤ)) [ true ↦ Some (place, level) | false ↦ None ]) as (λ x. List (List ℕ)) [
          | Some asked ↦ older ++ given asked ∷ []
          | None ↦ older
        ])
        ≡ suc (length older)
    by_test true e = let long = length-append older (given (place, level) ∷ []) in omega (arith, long)
    by_test false e = absurd (false≢true e)
one_sense at kind older given e = absurd (false≢true e)

-- an entry outside a look that found room leaves a past that fits, and a look sets aside 256 entries
outer_fits : (limit : ℕ) (past : List Entry) (kind : Kind) → is_outer kind ≡ true → has_room_for limit past kind ≡ true →
    length past + 1 ≤ limit
outer_fits limit past (Kind.Write row slot) is room = step_fits limit past room
outer_fits limit past (Kind.BadWrite row slot die fault) is room = step_fits limit past room
outer_fits limit past (Kind.Refused row worn) is room = step_fits limit past room
outer_fits limit past (Kind.Pick sb) is room = step_fits limit past room
outer_fits limit past (Kind.Erase sb) is room = let fits = look_fits limit past room in omega (arith, fits)
outer_fits limit past (Kind.BadErase sb die fault) is room = let fits = look_fits limit past room in omega (arith, fits)
outer_fits limit past (Kind.Note free victim live pins garbage) is room = step_fits limit past room
outer_fits limit past kind is room = absurd (false≢true is)

look_asks : (limit : ℕ) (past : List Entry) (kind : Kind) → is_look_of_page kind ≡ true → has_room_for limit past kind ≡ true →
    length past + 256 ≤ limit
look_asks limit past (Kind.Look row found closed) is room = look_fits limit past room
look_asks limit past kind is room = absurd (false≢true is)

-- the newest entry found room, and so did those before it
newest_found : (limit : ℕ) (entry : Entry) (past : List Entry) → found_room limit (entry ∷ past) ≡ true →
    has_room_for limit past entry.kind ≡ true
newest_found limit entry past found = (and_parts (found_room limit past) (has_room_for limit past entry.kind) found).1

older_found : (limit : ℕ) (entry : Entry) (past : List Entry) → found_room limit (entry ∷ past) ≡ true → found_room limit past ≡ true
older_found limit entry past found = (and_parts (found_room limit past) (has_room_for limit past entry.kind) found).0

module _ (start : Start) (contents : List (Tag × List ℕ)) (is_start : IsStart start) where
  abbrev sensed_in : List Entry → ℕ → List (List ℕ)
  sensed_in past at = senses_of (coding_of start.base) start contents past at

  abbrev bound : ℕ
  bound = (length start.base.read_levels + 5) * start.base.shape.dies

  bound_low : bound ≤ 168
  bound_low =
      let levels = within_is 1 16 (length start.base.read_levels) is_start.fields.levels_count in
      let more : length start.base.read_levels + 5 ≤ 21 = omega (arith, levels) in
      mul-le-mul more start.base.shape.within.dies_high

  die_low : (slot : Slot) → (place_of_slot start.base.shape.dies slot).die < start.base.shape.dies
  die_low slot =
      let low = start.base.shape.within.dies_low in
      let some : 0 < start.base.shape.dies - 1 = omega (arith, low) in
      data_die-lt (parity_die start.base.shape.dies slot.sb (stripe_of_index start.base.shape.dies slot.index)) _ start.base.shape.dies (omega (arith, some))

  -- a ladder that asks was given few senses
  few_given : (look : Option Look) (senses : List (List ℕ)) (place : Place) (level : ℤ) →
      ladder_over (coding_of start.base) start.base.shape.dies look senses ≡ asks place level → length senses < bound
  few_given None senses place level is = absurd (cc)
  few_given (Some look) senses place level is =
      subst (AsksBelow bound (length senses)) is
      (ladders_end (coding_of start.base) ((coding_of start.base).has_head look.serial look.row) start.base.shape.dies
      (place_of_slot start.base.shape.dies look.slot) look.closed senses (die_low look.slot))

  asked_for : (found : Option Look) (past : List Entry) (at : ℕ) (place : Place) (level : ℤ) (state : LadderState) →
      IsSomeAnd found (λ look. IsLawfulSense state past at place level) → state ≡ asks place level
  asked_for None past at place level state some = absurd some
  asked_for (Some look) past at place level state some = some.is_asked

  abbrev IsLawfulPast : List Entry → Type 0
  IsLawfulPast past = IsLawful start contents past

  -- in a lawful past each look has few senses
  one_few : (past : List Entry) (tag : Tag) (kind : Kind) (at : ℕ) →
      IsLawfulKind (ladder_of (coding_of start.base) start contents past) start.base past tag kind →
      ((other : ℕ) → length (sensed_in past other) ≤ bound) → length (sensed_in (entry_of tag kind ∷ past) at) ≤ bound
  one_few past tag (Kind.Sense named place level) at meets few = by_test (named == at) refl
    where
      by_test : (b : Bool) → (named == at) ≡ b → length {A = List ℕ}
          (elim (elim b as (λ x. Option (Place × ℤ)) [ true ↦ Some (place, level) | false ↦ None ]) as (λ x. List (List ℕ)) [
            | Some asked ↦ sensed_in past at
                ++ sensed asked.1 (levels_in start.base (page_of (coding_of start.base) start contents past asked.0)) ∷ []
            | None ↦ sensed_in past at
          ])
          ≤ bound
      by_test true e =
          let asked : ladder_of (coding_of start.base) start contents past named ≡ asks place level =
          asked_for (open_look past tag named) past named place level (ladder_of (coding_of start.base) start contents past named) meets in
          let given : length (sensed_in past named) < bound = few_given (look_of past named) (sensed_in past named) place level asked in
          let here : length (sensed_in past at) < bound =
          subst (λ (n : ℕ). length (sensed_in past n) < bound) (eqb-true named at e) given in
          let long = length-append (sensed_in past at)
          (sensed level (levels_in start.base (page_of (coding_of start.base) start contents past place)) ∷ []) in
          omega (arith, here, long)
      by_test false e = few at
  one_few past tag kind at meets few = few at

  few_sensed : (past : List Entry) → IsLawfulPast past → (at : ℕ) → length (sensed_in past at) ≤ bound
  few_sensed [] lawful at = omega arith
  few_sensed (entry ∷ past) lawful at = one_few past entry.tag entry.kind at lawful.1.meets (few_sensed past lawful.0)

  -- steps that are senses are counted by it
  senses_counted : (at : ℕ) (tag : Tag) (senses : List CallStep) (past after : List Entry) →
      list_all (λ step. is_sense_of at step.entry.kind) senses ≡ true → AreStepsFrom tag past senses after →
      length (sensed_in past at) + length senses ≡ length (sensed_in after at)
  senses_counted at tag [] past after are_senses are =
      let same : length (sensed_in past at) ≡ length (sensed_in after at) = ap (λ (held : List Entry). length (sensed_in held at)) are in
      omega (arith, same)
  senses_counted at tag (step ∷ senses) past after are_senses are =
      let parts = and_parts (is_sense_of at step.entry.kind) (list_all (λ one. is_sense_of at one.entry.kind) senses) are_senses in
      let rest = senses_counted at tag senses (step.entry ∷ past) after parts.1 are.2 in
      let one : length (sensed_in (step.entry ∷ past) at) ≡ suc (length (sensed_in past at)) =
      one_sense at step.entry.kind (sensed_in past at)
      (λ asked. sensed asked.1 (levels_in start.base (page_of (coding_of start.base) start contents past asked.0))) parts.0 in
      omega (arith, rest, one)

  made_counted : (at : ℕ) (tag : Tag) (senses : List (Place × ℤ)) (past : List Entry) →
      length (sensed_in past at) + length senses ≡ length (sensed_in (after_senses tag at senses past) at)
  made_counted at tag [] past = omega arith
  made_counted at tag (sense ∷ more) past =
      let between : List Entry = entry_of tag (Kind.Sense at sense.0 sense.1) ∷ past in
      let rest = made_counted at tag more between in
      let one : length (sensed_in between at) ≡ suc (length (sensed_in past at)) =
      one_sense at (Kind.Sense at sense.0 sense.1) (sensed_in past at)
      (λ asked. sensed asked.1 (levels_in start.base (page_of (coding_of start.base) start contents past asked.0))) (same_number at) in
      omega (arith, rest, one)

  -- what stands before the steps is lawful, and found room
  lawful_before : (tag : Tag) (steps : List CallStep) (past after : List Entry) → AreStepsFrom tag past steps after →
      IsLawfulPast after → IsLawfulPast past
  lawful_before tag [] past after are lawful = subst IsLawfulPast (sym are) lawful
  lawful_before tag (step ∷ steps) past after are lawful = (lawful_before tag steps (step.entry ∷ past) after are.2 lawful).0

  found_before : (tag : Tag) (steps : List CallStep) (past after : List Entry) → AreStepsFrom tag past steps after →
      found_room start.limit after ≡ true → found_room start.limit past ≡ true
  found_before tag [] past after are found = subst (λ (held : List Entry). found_room start.limit held ≡ true) (sym are) found
  found_before tag (step ∷ steps) past after are found =
      older_found start.limit step.entry past (found_before tag steps (step.entry ∷ past) after are.2 found)

  -- a past that is no longer than the limit, where it is lawful and each entry found room
  abbrev pub IsShort : List Entry → Type 0
  IsShort past = IsLawfulPast past → found_room start.limit past ≡ true → length past ≤ start.limit

  outer_short : (tag : Tag) (kind : Kind) (past : List Entry) → is_outer kind ≡ true → IsShort past → IsShort (entry_of tag kind ∷ past)
  outer_short tag kind past is held lawful found =
      let fits = outer_fits start.limit past kind is (newest_found start.limit (entry_of tag kind) past found) in omega (arith, fits)

  -- the entries of a look, of which one at most stands between its senses and its leave
  list_short : (tag : Tag) (before after : List Entry) (steps : List CallStep) (look : CallStep) (ending : List CallStep)
      (leave : CallStep) → IsLookList steps look ending leave → length ending ≤ 1 → AreStepsFrom tag before steps after → IsShort after
  list_short tag before after steps look ending leave list one are lawful found =
      let senses : List CallStep = list.senses in
      let all : AreStepsFrom tag before (((look ∷ senses) ++ ending) ++ leave ∷ []) after =
      subst (λ whole. AreStepsFrom tag before whole after) list.are_steps are in
      let last : AreStepsApart tag before after ((look ∷ senses) ++ ending) (leave ∷ []) =
      steps_apart tag before after ((look ∷ senses) ++ ending) (leave ∷ []) all in
      let middle : AreStepsApart tag before last.between (look ∷ senses) ending =
      steps_apart tag before last.between (look ∷ senses) ending last.first in
      let counted = senses_counted (position_of look) tag senses (look.entry ∷ before) middle.between list.are_senses middle.first.2 in
      let few = few_sensed middle.between
      (lawful_before tag ending middle.between last.between middle.second
      (lawful_before tag (leave ∷ []) last.between after last.second lawful)) (position_of look) in
      let looked : found_room start.limit (look.entry ∷ before) ≡ true =
      found_before tag senses (look.entry ∷ before) middle.between middle.first.2
      (found_before tag ending middle.between last.between middle.second
      (found_before tag (leave ∷ []) last.between after last.second found)) in
      let fits = look_asks start.limit before look.entry.kind list.finds_page (newest_found start.limit look.entry before looked) in
      let sensing = steps_long tag before middle.between (look ∷ senses) middle.first in
      let ends = steps_long tag middle.between last.between ending middle.second in
      let leaving = steps_long tag last.between after (leave ∷ []) last.second in
      let least = bound_low in
      omega (arith, counted, few, fits, sensing, ends, leaving, least, one)

  look_short : (tag : Tag) (before after : List Entry) → IsLookMade tag before after → IsShort before → IsShort after
  look_short tag before after made held =
      list_short tag before after made.steps made.look (made.ending ∷ []) made.leave made.is_list (omega arith) made.are_steps

  -- a refresh
  module _ (tag : Tag) (row : ℕ) (before : List Entry) (short : length before ≤ start.limit) (after : List Entry) where
    lone_refresh_short : (steps : List CallStep) → is_lone_look row steps ≡ true → AreStepsFrom tag before steps after → IsShort after
    lone_refresh_short [] lone are lawful found = absurd (false≢true lone)
    lone_refresh_short (step ∷ []) lone are lawful found =
        let room = newest_found start.limit step.entry before
        (subst (λ (past : List Entry). found_room start.limit past ≡ true) (sym are.2) found) in
        let of_row = (and_parts (is_look_of_none step.entry.kind) (is_look_at_row row step.entry.kind) lone).1 in
        let fits = look_fits start.limit before (sym (look_asks_room row start.limit before step.entry.kind of_row) ∙ room) in
        subst (λ (past : List Entry). length past ≤ start.limit) are.2 (omega (arith, fits))
    lone_refresh_short (step ∷ next ∷ steps) lone are lawful found = absurd (false≢true lone)

    one_ending : (ladder : List Entry → ℕ → LadderState) (at : ℕ) (ending : List CallStep) (leave : CallStep) →
        is_refreshed ladder at ending leave ≡ true → length ending ≤ 1
    one_ending ladder at [] leave ends = omega arith
    one_ending ladder at (step ∷ []) leave ends = omega arith
    one_ending ladder at (step ∷ next ∷ steps) leave ends = absurd (false≢true ends)

    pub refreshed_short : (reply : RefreshReply) → WasRefreshed start contents tag row before after reply → IsShort after
    refreshed_short reply refreshed = by_form refreshed.is_refresh
      where
        by_form : IsRefresh (ladder_of (coding_of start.base) start contents) row refreshed.steps → IsShort after
        by_form (inl lone) = lone_refresh_short refreshed.steps lone refreshed.are_steps
        by_form (inr page) =
            list_short tag before after refreshed.steps page.look page.ending page.leave page.is_list
            (one_ending (ladder_of (coding_of start.base) start contents) (position_of page.look) page.ending page.leave page.ends)
            refreshed.are_steps

  -- the calls
  module _ (tag : Tag) (before : List Entry) (short : length before ≤ start.limit) where
    lone_short : (after : List Entry) (row : ℕ) (reply : Reply) → HasFoundNone tag row before after reply → IsShort after
    lone_short after row reply found lawful has_room =
        let look : Kind = Kind.Look row found.found false in
        let fits = look_fits start.limit before (newest_found start.limit (entry_of tag look) before
        (subst (λ (past : List Entry). found_room start.limit past ≡ true) found.after_is has_room)) in
        subst (λ (past : List Entry). length past ≤ start.limit) (sym found.after_is) (omega (arith, fits))

    -- a look and its senses leave room for two entries more
    sensing_short : (row : ℕ) (slot : Slot) (serial : ℕ) (closed : Bool) (senses : List (Place × ℤ)) →
        IsLawfulPast (after_sensing tag row slot serial closed senses before) →
        found_room start.limit (after_sensing tag row slot serial closed senses before) ≡ true →
        length (after_sensing tag row slot serial closed senses before) + 2 ≤ start.limit
    sensing_short row slot serial closed senses lawful found =
        let looked : List Entry = after_look tag row slot serial closed before in
        let counted = made_counted (length before) tag senses looked in
        let few = few_sensed (after_senses tag (length before) senses looked) lawful (length before) in
        let long = after_long tag (length before) senses looked in
        let fits = look_fits start.limit before (newest_found start.limit (entry_of tag (Kind.Look row (Row.Page slot serial) closed)) before
        (found_first (length before) senses looked found)) in
        let least = bound_low in
        omega (arith, counted, few, long, fits, least)
      where
        found_first : (at : ℕ) (senses : List (Place × ℤ)) (past : List Entry) →
            found_room start.limit (after_senses tag at senses past) ≡ true → found_room start.limit past ≡ true
        found_first at [] past found = found
        found_first at (sense ∷ more) past found =
            older_found start.limit (entry_of tag (Kind.Sense at sense.0 sense.1)) past
            (found_first at more (entry_of tag (Kind.Sense at sense.0 sense.1) ∷ past) found)

    read_short : (after : List Entry) (row : ℕ) (reply : Reply) → HasReadPage start contents tag row before after reply → IsShort after
    read_short after row reply read lawful found =
        let sensed : List Entry = after_sensing tag row read.slot read.serial read.closed read.senses before in
        let here = subst IsLawfulPast read.after_is lawful in
        let room = subst (λ (past : List Entry). found_room start.limit past ≡ true) read.after_is found in
        let fits = sensing_short row read.slot read.serial read.closed read.senses here.0
        (older_found start.limit (entry_of tag (Kind.Leave (length before))) sensed room) in
        subst (λ (past : List Entry). length past ≤ start.limit) (sym read.after_is) (omega (arith, fits))

    failed_read_short : (after : List Entry) (row : ℕ) (reply : Reply) → HasFailedRead tag row before after reply → IsShort after
    failed_read_short after row reply read lawful found =
        let sensed : List Entry = after_sensing tag row read.slot read.serial read.closed read.senses before in
        let fault : Entry = entry_of tag (Kind.FaultSense (length before) read.place read.level) in
        let here = subst IsLawfulPast read.after_is lawful in
        let room = subst (λ (past : List Entry). found_room start.limit past ≡ true) read.after_is found in
        let fits = sensing_short row read.slot read.serial read.closed read.senses here.0.0
        (older_found start.limit fault sensed (older_found start.limit (entry_of tag (Kind.Leave (length before))) (fault ∷ sensed) room)) in
        subst (λ (past : List Entry). length past ≤ start.limit) (sym read.after_is) (omega (arith, fits))

    age_short : (die sb amount : ℕ) (last : Kind) → is_age_of die sb amount last ≡ true → IsShort (entry_of tag last ∷ before)
    age_short die sb amount (Kind.Age named block by) is lawful found =
        let fits = step_fits start.limit before (newest_found start.limit (entry_of tag (Kind.Age named block by)) before found) in
        omega (arith, fits)
    age_short die sb amount (Kind.FaultAge named block by) is lawful found =
        let fits = step_fits start.limit before (newest_found start.limit (entry_of tag (Kind.FaultAge named block by)) before found) in
        omega (arith, fits)
    age_short die sb amount last is lawful found = absurd (false≢true is)

    pub replies_short : (channels : ℕ) (verb : Verb) (reply : Reply) (after : List Entry) →
        IsRepliedBy start contents channels tag verb reply before after → IsShort after
    replies_short channels (Verb.Write page content) reply after written lawful found =
        pieces_keep tag IsShort (outer_short tag) (look_short tag)
        (of_write (ladder_of (coding_of start.base) start contents) start.base tag written.is_write) (λ lawful found. short) lawful found
    replies_short channels (Verb.Collect channel) reply after collected lawful found =
        pieces_keep tag IsShort (outer_short tag) (look_short tag)
        (of_collect (ladder_of (coding_of start.base) start contents) start.base tag collected.is_collect) (λ lawful found. short)
        lawful found
    replies_short channels (Verb.Read page) reply after replied lawful found =
        elim replied [
          | inl lone ↦ lone_short after (page / channels) reply lone lawful found
          | inr other ↦ elim other [
            | inl read ↦ read_short after (page / channels) reply read lawful found
            | inr read ↦ failed_read_short after (page / channels) reply read lawful found
          ]
        ]
    replies_short channels (Verb.Trim page) reply after replied lawful found =
        let fits = step_fits start.limit before (newest_found start.limit (entry_of tag (Kind.Trim (page / channels))) before
        (subst (λ (past : List Entry). found_room start.limit past ≡ true) replied.1 found)) in
        subst (λ (past : List Entry). length past ≤ start.limit) (sym replied.1) (omega (arith, fits))
    replies_short channels (Verb.Age channel die sb amount) reply after aged lawful found =
        subst IsShort (sym aged.after_is) (age_short die sb amount aged.last aged.is_age) lawful found
    replies_short channels (Verb.Refresh page) reply after refreshed lawful found =
        refreshed_short tag (page / channels) before short after refreshed.told refreshed.was_refreshed lawful found
    replies_short channels (Verb.Drain count) reply after replied lawful found = absurd replied

    -- and calls that stopped
    pub stops_short : (channels : ℕ) (verb : Verb) (now : List Entry) → IsStoppedBy start contents channels tag verb before now →
        IsShort now
    stops_short channels (Verb.Write page content) now cut =
        cut_keeps tag IsShort (outer_short tag) (look_short tag) start.limit cut.later cut.next now cut.no_room
        (of_write (ladder_of (coding_of start.base) start contents) start.base tag cut.whole) refl
        (record { more = cut.made; newer_is = cut.begins }) (λ lawful found. short)
    stops_short channels (Verb.Collect channel) now cut =
        cut_keeps tag IsShort (outer_short tag) (look_short tag) start.limit cut.later cut.next now cut.no_room
        (of_collect (ladder_of (coding_of start.base) start contents) start.base tag cut.whole) refl
        (record { more = cut.made; newer_is = cut.begins }) (λ lawful found. short)
    stops_short channels (Verb.Read page) now stopped = subst IsShort (sym stopped.is_same) (λ lawful found. short)
    stops_short channels (Verb.Trim page) now stopped = subst IsShort (sym stopped.is_same) (λ lawful found. short)
    stops_short channels (Verb.Age channel die sb amount) now stopped = subst IsShort (sym stopped.is_same) (λ lawful found. short)
    stops_short channels (Verb.Refresh page) now stopped = subst IsShort (sym stopped.is_same) (λ lawful found. short)
    stops_short channels (Verb.Drain count) now stopped = absurd stopped
