-- Two calls of one verb over the same state that choose alike: where both were cut, they stopped on one channel, with the same
-- entries, and left the same state; and not one is whole and the other cut.
use Rattle.std.proofs.Common.{ℕ, suc, ◌≡◌, ◌%◌, ◌/◌, Bool, true, false, List, ◌∷◌, ◌++◌, length, Option, Some, None, refl, sym, ap, subst, ◌∙◌, arith}
use Rattle.std.specs.Prelude.{All, IsSomeAnd, IsTrue, slice_get}
use Rattle.std.proofs.lemmas.Bool.{false≢true}
use Rattle.ssd_histories.specs.CallSteps.{CallStep}
use Rattle.ssd_histories.specs.CallsInOrder.{ChannelRun, OfRun, is_age_of, is_trim_of, ladder_in}
use Rattle.ssd_histories.specs.Copies.{IsRead, IsRefresh}
use Rattle.ssd_histories.specs.HistoryRoom.{found_room, has_look_room, has_step_room}
use Rattle.ssd_histories.specs.Lawful.{IsLawful}
use Rattle.ssd_histories.specs.Rounds.{is_one}
use Rattle.ssd_histories.specs.SerialCalls.{SerialCollect, SerialWrite}
use Rattle.ssd_histories.specs.SerialHistory.{DrainedRefresh, HasForm, OnChannel, SerialCall, SerialDrain, SerialState, pages_drained, without_hint}
use Rattle.ssd_histories.specs.SerialStop.{HasNoLookRoom, IsCut, IsCutOn, SerialCut, SerialDrainCut, stops, takes as takes_on}
use Rattle.ssd_histories.specs.Standing.{IsStart}
use Rattle.ssd_histories.specs.Start.{Start}
use Rattle.ssd_geo.specs.declared.entry.Entry.{Entry}
use Rattle.ssd_geo.specs.declared.reply.Reply.{Reply}
use Rattle.ssd_geo.specs.declared.tag.Tag.{Tag}
use Rattle.ssd_geo.specs.declared.trace.Verb.{Verb}
use Rattle.serial_laws.proofs.Lists.{get_set_there, pairs_same}
use Rattle.serial_laws.proofs.ServedVerbs.{read_keeps}
use Rattle.serial_output.specs.OneEnding.{FoundRoom}
use Rattle.serial_output.specs.OneOutput.{RunsChooseAlike}
use Rattle.serial_output.proofs.CutForms.{collect_cut, write_cut}
use Rattle.serial_output.proofs.CutSteps.{IsOpening, IsUnopened, age_asks, one_opens, opening_cut, opening_has_room, read_opens, refresh_opens, trim_asks}
use Rattle.serial_output.proofs.SameCalls.{AreMet, ChannelsCome, DrainForm, IsOnTheWay, IsOnce, IsSameOn, IsSameRefresh, RunComesTo, apart_too, are_alike, are_apart, channels_come_on, cons_first, cons_rest, drain_form, drained_comes, found_none, meet, nothing_or_hint, on_channel_comes, on_channel_once, on_the_way, run_itself, same_taken, stopped, took, took_all}
use Rattle.serial_output.proofs.SameCuts.{cut_collects_once, cut_or_collected, cut_or_written, cut_writes_once}
use Rattle.shared_lemmas.proofs.Lists.{all_at}

-- a cut by its own length
abbrev pub CutBy : (ChannelRun → List Entry → List Entry → Type 0) → ChannelRun → List Entry → List Entry → Type 0
CutBy fact run before now = IsCut (fact run) run.start.limit (length now) before now

module _ (channel named entries : ℕ) (fact : ChannelRun → List Entry → List Entry → Type 0) (before after : SerialState)
    (cut : IsCutOn channel named entries fact before after) where
  abbrev pub cut_there : OnChannel channel (CutBy fact) before after
  cut_there = record {
    run = cut.is_cut.run;
    past = cut.is_cut.past;
    is_there = cut.is_cut.is_there;
    holds = record {
      made = cut.is_cut.holds.made;
      next = cut.is_cut.holds.next;
      later = cut.is_cut.holds.later;
      begins = cut.is_cut.holds.begins;
      whole = cut.is_cut.holds.whole;
      has_length = refl;
      no_room = cut.is_cut.holds.no_room;
    };
    after_is = cut.is_cut.after_is;
  }

  cut_on_comes : ChannelsCome before.channels after.channels
  cut_on_comes =
      on_channel_comes channel (CutBy fact) before after cut_there
      (record { newer = cut.is_cut.holds.made; is = cut.is_cut.holds.begins })

-- where a call was cut that has a form, it has no entry, and there is no room for its first
pub form_cut : (form : List CallStep → Type 0) (tag : Tag) (room : List Entry → Bool) (limit entries : ℕ)
    (before now : List Entry) →
    ((steps : List CallStep) → form steps → IsOpening room limit steps) → IsCut (HasForm form tag) limit entries before now →
    IsUnopened room before now
form_cut form tag room limit entries before now opens cut =
    opening_cut tag room limit cut.whole.steps before (cut.later ++ cut.next ∷ now) cut.whole.are_steps
    (opens cut.whole.steps cut.whole.has_form) cut.next now (record { newer = cut.made; is = cut.begins })
    (record { newer = cut.later; is = refl }) cut.no_room

-- a past on the way to the end found room
room_of : (ends : List ChannelRun) (channel : ℕ) (start : Start) (past : List Entry) → FoundRoom ends →
    (way : IsOnTheWay ends channel start past) → found_room start.limit way.final ≡ true
room_of ends channel start past rooms way =
    all_at (λ (run : ChannelRun). IsTrue (found_room run.start.limit run.past)) ends channel
    (record { start = start; past = way.final }) rooms way.is_there

-- a refresh of a drain found room for its look
module _ (contents : List (Tag × List ℕ)) (channels : ℕ) (tag : Tag) where
  refresh_found : (ends : List ChannelRun) → FoundRoom ends → (page : ℕ) (before after : SerialState) (fault : Bool)
      (one : DrainedRefresh contents channels tag page before after fault) → ChannelsCome after.channels ends →
      has_look_room one.run.start.limit one.run.past ≡ true
  refresh_found ends rooms page before after fault one comes =
      let there : slice_get after.channels (page % channels) ≡ Some (record { start = one.run.start; past = one.past }) =
      ap (λ (state : SerialState). slice_get state.channels (page % channels)) one.after_is
      ∙ get_set_there before.channels (page % channels) one.run (record { start = one.run.start; past = one.past })
      one.is_there in
      let way : IsOnTheWay ends (page % channels) one.run.start one.past =
      on_the_way after.channels ends (page % channels) (record { start = one.run.start; past = one.past }) comes there in
      opening_has_room tag (has_look_room one.run.start.limit) one.run.start.limit one.steps one.run.past one.past one.are_steps
      (refresh_opens one.run.start.limit (ladder_in contents one.run) (page / channels) one.steps one.is_refresh)
      way.final way.comes (room_of ends (page % channels) one.run.start one.past rooms way)

  -- so no drain stops there
  refresh_or_none : (ends : List ChannelRun) → FoundRoom ends → (named entries page : ℕ) (before after : SerialState)
      (fault : Bool) → named ≡ page % channels → OfRun before.channels named (HasNoLookRoom entries) →
      DrainedRefresh contents channels tag page before after fault → ChannelsCome after.channels ends → ⊥
  refresh_or_none ends rooms named entries page before after fault is full one comes =
      let there : slice_get before.channels named ≡ Some one.run = ap (slice_get before.channels) is ∙ one.is_there in
      let here : HasNoLookRoom entries one.run =
      subst (λ (option : Option ChannelRun). IsSomeAnd option (HasNoLookRoom entries)) there full in
      false≢true (sym here.no_room ∙ refresh_found ends rooms page before after fault one comes)

  -- how a drain goes on that was cut, with what is known of what comes after a refresh
  data CutDrainForm (ends : List ChannelRun) (named entries count : ℕ) (before after : SerialState)
      (Rest : ℕ → SerialState → Type 0) : Type 0 where
    stopped_at : (less page : ℕ) (rest : List ℕ) → count ≡ suc less → before.hints ≡ page ∷ rest → named ≡ page % channels →
        OfRun before.channels named (HasNoLookRoom entries) → after ≡ without_hint rest before →
        CutDrainForm ends named entries count before after Rest
    took_on : (less page : ℕ) (rest : List ℕ) (between : SerialState) → count ≡ suc less → before.hints ≡ page ∷ rest →
        DrainedRefresh contents channels tag page (without_hint rest before) between false →
        ChannelsCome between.channels ends → Rest less between → CutDrainForm ends named entries count before after Rest

  cut_drain_comes : {named entries count : ℕ} {before after : SerialState} →
      SerialDrainCut contents channels tag named entries count before after → ChannelsCome before.channels after.channels
  cut_drain_comes {before = before} (stops is on full) = pairs_same RunComesTo run_itself before.channels
  cut_drain_comes {before = before} {after = after} (takes_on {page = page} {rest = rest} {between = between} is one more) =
      channels_come_on before.channels between.channels after.channels
      (drained_comes contents channels tag page (without_hint rest before) between false one) (cut_drain_comes more)

  cut_drain_form : (ends : List ChannelRun) (named entries count : ℕ) (before after : SerialState) →
      SerialDrainCut contents channels tag named entries count before after → ChannelsCome after.channels ends →
      CutDrainForm ends named entries count before after
      (λ less between. SerialDrainCut contents channels tag named entries less between after)
  cut_drain_form ends named entries count before after (stops {count = less} {page = page} {rest = rest} is on full) comes =
      stopped_at less page rest refl is on full refl
  cut_drain_form ends named entries count before after
      (takes_on {count = less} {page = page} {rest = rest} {between = between} is one more) comes =
      took_on less page rest between refl is one
      (channels_come_on between.channels after.channels ends (cut_drain_comes more) comes) more

  -- a call that was cut comes on to where it stopped
  pub cut_comes : (named entries : ℕ) (verb : Verb) (before after : SerialState) →
      SerialCut contents channels named entries tag verb before after → ChannelsCome before.channels after.channels
  cut_comes named entries (Verb.Write page content) before after cut =
      cut_on_comes (page % channels) named entries
      (λ run. SerialWrite (ladder_in contents run) run.start.base tag (page / channels)) before after cut
  cut_comes named entries (Verb.Read page) before after cut =
      cut_on_comes (page % channels) named entries (λ run. HasForm (IsRead (ladder_in contents run) (page / channels)) tag)
      before
      after cut
  cut_comes named entries (Verb.Trim page) before after cut =
      cut_on_comes (page % channels) named entries
      (λ run. HasForm (λ steps. IsTrue (is_one (is_trim_of (page / channels)) steps)) tag) before after cut
  cut_comes named entries (Verb.Refresh page) before after cut =
      cut_on_comes (page % channels) named entries
      (λ run. HasForm (IsRefresh (ladder_in contents run) (page / channels)) tag) before after cut
  cut_comes named entries (Verb.Collect channel) before after cut =
      cut_on_comes channel named entries (λ run. SerialCollect (ladder_in contents run) run.start.base tag) before after cut
  cut_comes named entries (Verb.Drain count) before after cut = cut_drain_comes cut
  cut_comes named entries (Verb.Age channel die sb amount) before after cut =
      cut_on_comes channel named entries
      (λ run. HasForm (λ steps. IsTrue (is_one (is_age_of die sb amount) steps)) tag) before after cut

one_length : (entries many : ℕ) (option : Option ChannelRun) → IsSomeAnd option (HasNoLookRoom entries) →
    IsSomeAnd option (HasNoLookRoom many) → entries ≡ many
one_length entries many None full full_too = absurd full
one_length entries many (Some run) full full_too = sym full.has_length ∙ full_too.has_length

zero_or_more : (count less : ℕ) → count ≡ 0 → count ≡ suc less → ⊥
zero_or_more count less none some = absurd (omega (arith, none, some))

-- two calls stopped at the same place
pub record IsSameCut (named entries told many : ℕ) (after other : SerialState) : Type 0 where
  pub same_channel : named ≡ told
  pub same_entries : entries ≡ many
  pub same_state : after ≡ other

module _ (contents : List (Tag × List ℕ)) (channels : ℕ) (finals others : List ChannelRun)
    (lawful : All (λ run. IsLawful run.start contents run.past) finals)
    (lawful_too : All (λ run. IsLawful run.start contents run.past) others)
    (starts : All (λ run. IsStart run.start) finals) (alike : RunsChooseAlike finals others) (rooms : FoundRoom finals)
    (rooms_too : FoundRoom others) (tag : Tag) where
  abbrev Once : ℕ → (ChannelRun → List Entry → List Entry → Type 0) → Type 0
  Once channel fact = IsOnce contents channels finals others lawful lawful_too starts alike channel (CutBy fact)

  -- not one is whole and the other cut
  abbrev Never : ℕ → (ChannelRun → List Entry → List Entry → Type 0) → Type 0
  Never channel fact =
      (run : ChannelRun) (now then : List Entry) → CutBy fact run run.past now → fact run run.past then →
      IsOnTheWay finals channel run.start now → IsOnTheWay others channel run.start then → ⊥

  cuts_on_channel : (channel named entries told many : ℕ) (fact : ChannelRun → List Entry → List Entry → Type 0) →
      Once channel fact → (before after other : SerialState) → IsCutOn channel named entries fact before after →
      IsCutOn channel told many fact before other → ChannelsCome after.channels finals → ChannelsCome other.channels others →
      IsSameCut named entries told many after other
  cuts_on_channel channel named entries told many fact once before after other cut next comes goes =
      let same : IsSameOn cut.is_cut.run next.is_cut.run cut.is_cut.past next.is_cut.past after other =
      on_channel_once contents channels finals others lawful lawful_too starts alike channel (CutBy fact) once before after
      other
      (cut_there channel named entries fact before after cut) (cut_there channel told many fact before other next) comes goes in
      record {
        same_channel = cut.is_named ∙ sym next.is_named;
        same_entries =
            sym cut.is_cut.holds.has_length ∙ ap (λ (past : List Entry). length past) same.same_past
            ∙ next.is_cut.holds.has_length;
        same_state = same.same_state;
      }

  never_on_channel : (channel named entries : ℕ) (fact : ChannelRun → List Entry → List Entry → Type 0) → Never channel fact →
      (before after other : SerialState) → IsCutOn channel named entries fact before after →
      OnChannel channel fact before other → ChannelsCome after.channels finals → ChannelsCome other.channels others → ⊥
  never_on_channel channel named entries fact never before after other cut next comes goes =
      let met : AreMet contents channels finals others lawful lawful_too starts alike channel (CutBy fact) fact before after
      other
      (cut_there channel named entries fact before after cut) next =
      meet contents channels finals others lawful lawful_too starts alike channel (CutBy fact) fact before after other
      (cut_there channel named entries fact before after cut) next comes goes in
      never cut.is_cut.run cut.is_cut.past next.past (cut_there channel named entries fact before after cut).holds met.held
      met.first met.second

  -- a call that has a form
  module _ (channel : ℕ) (form : ChannelRun → List CallStep → Type 0) (room : ℕ → List Entry → Bool)
      (opens : (run : ChannelRun) (steps : List CallStep) → form run steps →
      IsOpening (room run.start.limit) run.start.limit steps) where
    unopened : (run : ChannelRun) (now : List Entry) → CutBy (λ held. HasForm (form held) tag) run run.past now →
        IsUnopened (room run.start.limit) run.past now
    unopened run now cut =
        form_cut (form run) tag (room run.start.limit) run.start.limit (length now) run.past now (opens run) cut

    forms_once : Once channel (λ run. HasForm (form run) tag)
    forms_once run now now_too cut cut_too first second =
        (unopened run now cut).same_past ∙ sym (unopened run now_too cut_too).same_past

    forms_never : Never channel (λ run. HasForm (form run) tag)
    forms_never run now then cut made first second =
        false≢true (sym (unopened run now cut).no_room
        ∙ opening_has_room tag (room run.start.limit) run.start.limit made.steps run.past then made.are_steps
        (opens run made.steps made.has_form) second.final second.comes
        (room_of others channel run.start then rooms_too second))

  abbrev reads_open : (page : ℕ) (run : ChannelRun) (steps : List CallStep) →
      IsRead (ladder_in contents run) (page / channels) steps →
      IsOpening (has_look_room run.start.limit) run.start.limit steps
  reads_open page run steps read = read_opens run.start.limit (ladder_in contents run) (page / channels) steps read

  abbrev refreshes_open : (page : ℕ) (run : ChannelRun) (steps : List CallStep) →
      IsRefresh (ladder_in contents run) (page / channels) steps →
      IsOpening (has_look_room run.start.limit) run.start.limit steps
  refreshes_open page run steps refresh = refresh_opens run.start.limit (ladder_in contents run) (page / channels) steps refresh

  abbrev trims_open : (page : ℕ) (run : ChannelRun) (steps : List CallStep) →
      IsTrue (is_one (is_trim_of (page / channels)) steps) →
      IsOpening (has_step_room run.start.limit) run.start.limit steps
  trims_open page run steps one =
      one_opens run.start.limit (is_trim_of (page / channels)) (trim_asks run.start.limit (page / channels)) steps one

  abbrev ages_open : (die sb amount : ℕ) (run : ChannelRun) (steps : List CallStep) →
      IsTrue (is_one (is_age_of die sb amount) steps) →
      IsOpening (has_step_room run.start.limit) run.start.limit steps
  ages_open die sb amount run steps one =
      one_opens run.start.limit (is_age_of die sb amount) (age_asks run.start.limit die sb amount) steps one

  -- a write, and a collect
  writes_cut_once : (page channel : ℕ) →
      Once channel (λ run. SerialWrite (ladder_in contents run) run.start.base tag (page / channels))
  writes_cut_once page channel run now now_too cut cut_too first second =
      cut_writes_once (ladder_in contents run) run.start.base tag run.start.limit first.final second.final
      (are_alike contents channels finals others lawful lawful_too starts alike channel run.start now now_too first second)
      (are_apart contents channels finals others lawful lawful_too starts alike channel run.start now now_too first second)
      (apart_too contents channels finals others lawful lawful_too starts alike channel run.start now now_too first second)
      (room_of finals channel run.start now rooms first) (room_of others channel run.start now_too rooms_too second)
      (page / channels)
      (write_cut (ladder_in contents run) run.start.base tag run.start.limit (page / channels) cut.whole cut.next now
      (record { newer = cut.made; is = cut.begins }) (record { newer = cut.later; is = refl }) cut.no_room)
      (write_cut (ladder_in contents run) run.start.base tag run.start.limit (page / channels) cut_too.whole cut_too.next
      now_too
      (record { newer = cut_too.made; is = cut_too.begins }) (record { newer = cut_too.later; is = refl }) cut_too.no_room)
      first.comes second.comes

  writes_cut_never : (page channel : ℕ) →
      Never channel (λ run. SerialWrite (ladder_in contents run) run.start.base tag (page / channels))
  writes_cut_never page channel run now then cut write first second =
      cut_or_written (ladder_in contents run) run.start.base tag run.start.limit first.final second.final
      (are_alike contents channels finals others lawful lawful_too starts alike channel run.start now then first second)
      (are_apart contents channels finals others lawful lawful_too starts alike channel run.start now then first second)
      (room_of others channel run.start then rooms_too second) (page / channels)
      (write_cut (ladder_in contents run) run.start.base tag run.start.limit (page / channels) cut.whole cut.next now
      (record { newer = cut.made; is = cut.begins }) (record { newer = cut.later; is = refl }) cut.no_room)
      then write first.comes second.comes

  collects_cut_once : (channel : ℕ) → Once channel (λ run. SerialCollect (ladder_in contents run) run.start.base tag)
  collects_cut_once channel run now now_too cut cut_too first second =
      cut_collects_once (ladder_in contents run) run.start.base tag run.start.limit first.final second.final
      (are_alike contents channels finals others lawful lawful_too starts alike channel run.start now now_too first second)
      (are_apart contents channels finals others lawful lawful_too starts alike channel run.start now now_too first second)
      (apart_too contents channels finals others lawful lawful_too starts alike channel run.start now now_too first second)
      (room_of finals channel run.start now rooms first) (room_of others channel run.start now_too rooms_too second)
      (collect_cut (ladder_in contents run) run.start.base tag run.start.limit cut.whole cut.next now
      (record { newer = cut.made; is = cut.begins }) (record { newer = cut.later; is = refl }) cut.no_room)
      (collect_cut (ladder_in contents run) run.start.base tag run.start.limit cut_too.whole cut_too.next now_too
      (record { newer = cut_too.made; is = cut_too.begins }) (record { newer = cut_too.later; is = refl }) cut_too.no_room)
      first.comes second.comes

  collects_cut_never : (channel : ℕ) → Never channel (λ run. SerialCollect (ladder_in contents run) run.start.base tag)
  collects_cut_never channel run now then cut collect first second =
      cut_or_collected (ladder_in contents run) run.start.base tag run.start.limit first.final second.final
      (are_alike contents channels finals others lawful lawful_too starts alike channel run.start now then first second)
      (are_apart contents channels finals others lawful lawful_too starts alike channel run.start now then first second)
      (room_of others channel run.start then rooms_too second)
      (collect_cut (ladder_in contents run) run.start.base tag run.start.limit cut.whole cut.next now
      (record { newer = cut.made; is = cut.begins }) (record { newer = cut.later; is = refl }) cut.no_room)
      then collect first.comes second.comes

  -- both take the same page first
  taken : (before : SerialState) (page other_page : ℕ) (rest left_over : List ℕ) (between then : SerialState)
      (fault fault_too : Bool) → before.hints ≡ page ∷ rest → before.hints ≡ other_page ∷ left_over →
      DrainedRefresh contents channels tag page (without_hint rest before) between fault →
      DrainedRefresh contents channels tag other_page (without_hint left_over before) then fault_too →
      ChannelsCome between.channels finals → ChannelsCome then.channels others →
      IsSameRefresh contents channels finals others lawful lawful_too starts alike tag between then fault fault_too
  taken = same_taken contents channels finals others lawful lawful_too starts alike tag

  -- the drains, form by form; what comes after a first refresh is handed in
  module _ (named entries count : ℕ) (before after : SerialState) where
    abbrev More : ℕ → SerialState → Type 0
    More less between =
        (told many : ℕ) (then : SerialState) → SerialDrainCut contents channels tag told many less between then →
        ChannelsCome then.channels others → IsSameCut named entries told many after then

    cut_drains_same : (told many : ℕ) (other : SerialState) → ChannelsCome other.channels others →
        CutDrainForm contents channels tag finals named entries count before after More →
        CutDrainForm contents channels tag others told many count before other
        (λ less between. SerialDrainCut contents channels tag told many less between other) →
        IsSameCut named entries told many after other
    cut_drains_same told many other goes (stopped_at less page rest some hint on full is)
        (stopped_at fewer other_page left_over some_too hint_too on_too full_too is_too) =
        let e : ◌≡◌ {A = List ℕ} (page ∷ rest) (other_page ∷ left_over) = sym hint ∙ hint_too in
        let pages : page ≡ other_page = cons_first page other_page rest left_over e in
        let rests : rest ≡ left_over = cons_rest page other_page rest left_over e in
        let channel : named ≡ told = on ∙ ap (λ (n : ℕ). n % channels) pages ∙ sym on_too in
        record {
          same_channel = channel;
          same_entries =
              one_length entries many (slice_get before.channels named) full
              (subst (λ (n : ℕ). OfRun before.channels n (HasNoLookRoom many)) (sym channel) full_too);
          same_state = is ∙ ap (λ (hints : List ℕ). without_hint hints before) rests ∙ sym is_too;
        }
    cut_drains_same told many other goes (stopped_at less page rest some hint on full is)
        (took_on fewer other_page left_over then some_too hint_too next went more) =
        let pages : page ≡ other_page = cons_first page other_page rest left_over (sym hint ∙ hint_too) in
        absurd (refresh_or_none contents channels tag others rooms_too named entries other_page (without_hint left_over before)
        then false (on ∙ ap (λ (n : ℕ). n % channels) pages) full next went)
    cut_drains_same told many other goes (took_on less page rest between some hint one came later)
        (stopped_at fewer other_page left_over some_too hint_too on full is) =
        let pages : other_page ≡ page = cons_first other_page page left_over rest (sym hint_too ∙ hint) in
        absurd (refresh_or_none contents channels tag finals rooms told many page (without_hint rest before)
        between false (on ∙ ap (λ (n : ℕ). n % channels) pages) full one came)
    cut_drains_same told many other goes (took_on less page rest between some hint one came later)
        (took_on fewer other_page left_over then some_too hint_too next went more) =
        let same = taken before page other_page rest left_over between then false false hint hint_too one next came went in
        let counts : fewer ≡ less = omega (arith, some, some_too) in
        later told many other
        (subst (λ (state : SerialState). SerialDrainCut contents channels tag told many less state other) (sym same.same_state)
        (subst (λ (n : ℕ). SerialDrainCut contents channels tag told many n then other) counts more)) goes

    -- a drain that was cut, and one that is whole
    cut_or_drain_form : (told : List ℕ) (other : SerialState) → ChannelsCome other.channels others →
        CutDrainForm contents channels tag finals named entries count before after
        (λ less between. (pages : List ℕ) → SerialDrain contents channels tag less pages between other → ⊥) →
        DrainForm contents channels tag others count told before other
        (λ less more between. SerialDrain contents channels tag less more between other) → ⊥
    cut_or_drain_form told other goes (stopped_at less page rest some hint on full is) (took_all none no_page is_too) =
        zero_or_more count less none some
    cut_or_drain_form told other goes (stopped_at less page rest some hint on full is) (found_none empty no_page is_too) =
        nothing_or_hint page before.hints rest empty hint
    cut_or_drain_form told other goes (stopped_at less page rest some hint on full is)
        (took fewer other_page left_over more then some_too hint_too are next went rest_too) =
        let pages : page ≡ other_page = cons_first page other_page rest left_over (sym hint ∙ hint_too) in
        refresh_or_none contents channels tag others rooms_too named entries other_page (without_hint left_over before)
        then false (on ∙ ap (λ (n : ℕ). n % channels) pages) full next went
    cut_or_drain_form told other goes (stopped_at less page rest some hint on full is)
        (stopped fewer other_page left_over some_too hint_too are next) =
        let pages : page ≡ other_page = cons_first page other_page rest left_over (sym hint ∙ hint_too) in
        refresh_or_none contents channels tag others rooms_too named entries other_page (without_hint left_over before)
        other true (on ∙ ap (λ (n : ℕ). n % channels) pages) full next goes
    cut_or_drain_form told other goes (took_on less page rest between some hint one came later) (took_all none no_page is_too) =
        zero_or_more count less none some
    cut_or_drain_form told other goes (took_on less page rest between some hint one came later)
        (found_none empty no_page is_too) =
        nothing_or_hint page before.hints rest empty hint
    cut_or_drain_form told other goes (took_on less page rest between some hint one came later)
        (took fewer other_page left_over more then some_too hint_too are next went rest_too) =
        let same = taken before page other_page rest left_over between then false false hint hint_too one next came went in
        let counts : fewer ≡ less = omega (arith, some, some_too) in
        later more
        (subst (λ (state : SerialState). SerialDrain contents channels tag less more state other) (sym same.same_state)
        (subst (λ (n : ℕ). SerialDrain contents channels tag n more then other) counts rest_too))
    cut_or_drain_form told other goes (took_on less page rest between some hint one came later)
        (stopped fewer other_page left_over some_too hint_too are next) =
        false≢true
        (taken before page other_page rest left_over between other false true hint hint_too one next came goes).same_fault

  cut_drains_once : {named entries count : ℕ} {before after : SerialState} →
      SerialDrainCut contents channels tag named entries count before after → (told many : ℕ) (other : SerialState) →
      SerialDrainCut contents channels tag told many count before other → ChannelsCome after.channels finals →
      ChannelsCome other.channels others → IsSameCut named entries told many after other
  cut_drains_once {named} {entries} {count} {before} {after}
      (stops {count = less} {page = page} {rest = rest} is on full) told many other second comes goes =
      cut_drains_same named entries count before after told many other goes (stopped_at less page rest refl is on full refl)
      (cut_drain_form contents channels tag others told many count before other second goes)
  cut_drains_once {named} {entries} {count} {before} {after}
      (takes_on {count = less} {page = page} {rest = rest} {between = between} is one more) told many other second comes goes =
      cut_drains_same named entries count before after told many other goes
      (took_on less page rest between refl is one
      (channels_come_on between.channels after.channels finals (cut_drain_comes contents channels tag more) comes)
      (λ named_too several then again went. cut_drains_once more named_too several then again comes went))
      (cut_drain_form contents channels tag others told many count before other second goes)

  cut_or_drained : {named entries count : ℕ} {before after : SerialState} →
      SerialDrainCut contents channels tag named entries count before after → (told : List ℕ) (other : SerialState) →
      SerialDrain contents channels tag count told before other → ChannelsCome after.channels finals →
      ChannelsCome other.channels others → ⊥
  cut_or_drained {named} {entries} {count} {before} {after}
      (stops {count = less} {page = page} {rest = rest} is on full) told other second comes goes =
      cut_or_drain_form named entries count before after told other goes (stopped_at less page rest refl is on full refl)
      (drain_form contents channels tag others count told before other second goes)
  cut_or_drained {named} {entries} {count} {before} {after}
      (takes_on {count = less} {page = page} {rest = rest} {between = between} is one more) told other second comes goes =
      cut_or_drain_form named entries count before after told other goes
      (took_on less page rest between refl is one
      (channels_come_on between.channels after.channels finals (cut_drain_comes contents channels tag more) comes)
      (λ pages again. cut_or_drained more pages other again comes goes))
      (drain_form contents channels tag others count told before other second goes)

  -- calls of any verb
  pub cuts_once : (named entries told many : ℕ) (verb : Verb) (before after other : SerialState) →
      SerialCut contents channels named entries tag verb before after →
      SerialCut contents channels told many tag verb before other →
      ChannelsCome after.channels finals → ChannelsCome other.channels others → IsSameCut named entries told many after other
  cuts_once named entries told many (Verb.Write page content) before after other cut next comes goes =
      cuts_on_channel (page % channels) named entries told many
      (λ run. SerialWrite (ladder_in contents run) run.start.base tag (page / channels))
      (writes_cut_once page (page % channels))
      before after other cut next comes goes
  cuts_once named entries told many (Verb.Read page) before after other cut next comes goes =
      cuts_on_channel (page % channels) named entries told many
      (λ run. HasForm (IsRead (ladder_in contents run) (page / channels)) tag)
      (forms_once (page % channels) (λ run. IsRead (ladder_in contents run) (page / channels)) has_look_room (reads_open page))
      before after other cut next comes goes
  cuts_once named entries told many (Verb.Trim page) before after other cut next comes goes =
      cuts_on_channel (page % channels) named entries told many
      (λ run. HasForm (λ steps. IsTrue (is_one (is_trim_of (page / channels)) steps)) tag)
      (forms_once (page % channels) (λ run steps. IsTrue (is_one (is_trim_of (page / channels)) steps)) has_step_room
      (trims_open page))
      before after other cut next comes goes
  cuts_once named entries told many (Verb.Refresh page) before after other cut next comes goes =
      cuts_on_channel (page % channels) named entries told many
      (λ run. HasForm (IsRefresh (ladder_in contents run) (page / channels)) tag)
      (forms_once (page % channels) (λ run. IsRefresh (ladder_in contents run) (page / channels)) has_look_room
      (refreshes_open page))
      before after other cut next comes goes
  cuts_once named entries told many (Verb.Collect channel) before after other cut next comes goes =
      cuts_on_channel channel named entries told many (λ run. SerialCollect (ladder_in contents run) run.start.base tag)
      (collects_cut_once channel) before after other cut next comes goes
  cuts_once named entries told many (Verb.Drain count) before after other cut next comes goes =
      cut_drains_once cut told many other next comes goes
  cuts_once named entries told many (Verb.Age channel die sb amount) before after other cut next comes goes =
      cuts_on_channel channel named entries told many
      (λ run. HasForm (λ steps. IsTrue (is_one (is_age_of die sb amount) steps)) tag)
      (forms_once channel (λ run steps. IsTrue (is_one (is_age_of die sb amount) steps)) has_step_room
      (ages_open die sb amount))
      before after other cut next comes goes

  pub cut_or_served : (named entries : ℕ) (reply : Reply) (verb : Verb) (before after other : SerialState) →
      SerialCut contents channels named entries tag verb before after →
      SerialCall contents channels tag reply verb before other →
      ChannelsCome after.channels finals → ChannelsCome other.channels others → ⊥
  cut_or_served named entries reply (Verb.Write page content) before after other cut next comes goes =
      never_on_channel (page % channels) named entries
      (λ run. SerialWrite (ladder_in contents run) run.start.base tag (page / channels))
      (writes_cut_never page (page % channels))
      before after other cut next comes goes
  cut_or_served named entries reply (Verb.Read page) before after other cut next comes goes =
      let there : other.channels ≡ next.between.channels =
      ap (λ (state : SerialState). state.channels) next.after_is ∙ read_keeps contents channels tag page next.between in
      never_on_channel (page % channels) named entries (λ run. HasForm (IsRead (ladder_in contents run) (page / channels)) tag)
      (forms_never (page % channels) (λ run. IsRead (ladder_in contents run) (page / channels)) has_look_room (reads_open page))
      before after next.between cut next.reads comes (subst (λ (runs : List ChannelRun). ChannelsCome runs others) there goes)
  cut_or_served named entries reply (Verb.Trim page) before after other cut next comes goes =
      never_on_channel (page % channels) named entries
      (λ run. HasForm (λ steps. IsTrue (is_one (is_trim_of (page / channels)) steps)) tag)
      (forms_never (page % channels) (λ run steps. IsTrue (is_one (is_trim_of (page / channels)) steps)) has_step_room
      (trims_open page))
      before after other cut next comes goes
  cut_or_served named entries reply (Verb.Refresh page) before after other cut next comes goes =
      never_on_channel (page % channels) named entries
      (λ run. HasForm (IsRefresh (ladder_in contents run) (page / channels)) tag)
      (forms_never (page % channels) (λ run. IsRefresh (ladder_in contents run) (page / channels)) has_look_room
      (refreshes_open page))
      before after other cut next comes goes
  cut_or_served named entries reply (Verb.Collect channel) before after other cut next comes goes =
      never_on_channel channel named entries (λ run. SerialCollect (ladder_in contents run) run.start.base tag)
      (collects_cut_never channel) before after other cut next comes goes
  cut_or_served named entries reply (Verb.Drain count) before after other cut next comes goes =
      cut_or_drained cut (pages_drained reply) other next comes goes
  cut_or_served named entries reply (Verb.Age channel die sb amount) before after other cut next comes goes =
      never_on_channel channel named entries
      (λ run. HasForm (λ steps. IsTrue (is_one (is_age_of die sb amount) steps)) tag)
      (forms_never channel (λ run steps. IsTrue (is_one (is_age_of die sb amount) steps)) has_step_room
      (ages_open die sb amount))
      before after other cut next comes goes
