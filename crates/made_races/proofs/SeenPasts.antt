-- What an actor made up to what it has seen stands in each past to which others came.
use Rattle.std.proofs.Common.{ℕ, ◌≡◌, ◌≢◌, ◌-◌, ◌<◌, ◌==◌, Bool, true, false, List, [], ◌∷◌, ◌++◌, length, reverse, refl, sym, ap, subst, ◌∙◌, inl, inr, arith}
use Rattle.std.specs.Prelude.{All, ◌||◌, count_by, not}
use Rattle.std.proofs.lemmas.Bool.{and_from, and_left, eqb-false, ne_eqb}
use Rattle.std.proofs.lemmas.List.{append-nil, append_cancel_left, get_or-reverse, length-reverse, reverse-append}
use Rattle.std.proofs.lemmas.List.Elements.{All-append, All-cons, All-head, All-nil, All-tail}
use Rattle.std.proofs.lemmas.List.Sums.{AllPass-from_list_all, length-filter, list_all-from_AllPass}
use Rattle.calls_among_others.specs.ActorsCalls.{AreMadeAmong, next_tag}
use Rattle.calls_among_others.specs.CallsAmong.{ladders}
use Rattle.calls_among_others.specs.StepsAmong.{AreStepsAmong, HasCome}
use Rattle.calls_among_others.proofs.AmongSteps.{among_join, came_then, lawful_came}
use Rattle.history_laws.proofs.Counting.{none_pass}
use Rattle.race_laws.specs.BegunCalls.{AreMadeThenBegun, HasLeftAll, IsBegunAmong}
use Rattle.race_runs.specs.RaceRoom.{actor_found_room, has_room_in_turn}
use Rattle.ssd_geo.specs.declared.entry.Entry.{Entry}
use Rattle.ssd_geo.specs.declared.kind.Kind.{Kind}
use Rattle.ssd_geo.specs.declared.look.Look.{Look}
use Rattle.ssd_geo.specs.declared.reply.Reply.{Reply}
use Rattle.ssd_geo.specs.declared.row.Row.{Row}
use Rattle.ssd_geo.specs.declared.tag.Tag.{Tag}
use Rattle.ssd_geo.specs.declared.trace.TraceCall.{TraceCall}
use Rattle.ssd_geo.specs.declared.trace.Verb.{Verb}
use Rattle.ssd_histories.specs.CallSteps.{CallStep}
use Rattle.ssd_histories.specs.History.{is_same_tag, looks_after, open_looks}
use Rattle.ssd_histories.specs.Lawful.{IsLawful}
use Rattle.ssd_histories.specs.Start.{Start}
use Rattle.ssd_histories.proofs.OpenLookLaws.{all_left}
use Rattle.turn_table.specs.Passes.{entries_by}
use Rattle.turn_table.proofs.Lists.{by_append}
use Rattle.made_races.specs.SeenPasts.{HistoriesGoOn, MadeSoFarStays, RoomStays, StopsStay}

-- whether an entry is an actor's
abbrev is_by : ℕ → Entry → Bool
is_by actor entry = entry.tag.actor == actor

pub histories_go_on : HistoriesGoOn
histories_go_on numbers seen list actor on has =
    let none : entries_by actor on.rest ≡ [] =
    append_cancel_left (entries_by actor seen) (entries_by actor on.rest) []
    (sym (by_append actor seen on.rest)
    ∙ ap (entries_by actor) (sym on.begins) ∙ on.own actor has ∙ sym (append-nil (entries_by actor seen))) in
    let long : ◌≡◌ {A = ℕ} (length (entries_by actor on.rest)) 0 = ap {B = ℕ} (λ (entries : List Entry). length entries) none in
    let counted : length (entries_by actor on.rest) ≡ count_by (is_by actor) on.rest = length-filter (is_by actor) on.rest in
    record {
      others = reverse on.rest;
      after_is = ap {B = List Entry} (λ (entries : List Entry). reverse entries) on.begins ∙ reverse-append seen on.rest;
      of_others = λ k other within.
          let many = length-reverse on.rest in
          let low : k < length on.rest = omega (arith, within, many) in
          subst (λ (entry : Entry). entry.tag.actor ≢ actor) (sym (get_or-reverse on.rest k other low))
          (eqb-false _ actor
          (none_pass (is_by actor) on.rest (length on.rest - 1 - k) other (omega (arith, long, counted)) (omega (arith, low))));
    }

-- a call that has no open look has none after entries of others
abbrev IsNotOf : Tag → Tag × Look → Type 0
IsNotOf tag pin = not (is_same_tag tag pin.0) ≡ true

not_same : (tag other : Tag) → other.actor ≢ tag.actor → is_same_tag tag other ≡ false
not_same tag other differs =
    and_left (tag.actor == other.actor) (tag.call == other.call) (ne_eqb tag.actor other.actor (λ same. differs (sym same)))

after_other : (tag other : Tag) (at : ℕ) (kind : Kind) (looks : List (Tag × Look)) → other.actor ≢ tag.actor →
    All (IsNotOf tag) looks → All (IsNotOf tag) (looks_after at other kind looks)
after_other tag other at (Kind.Leave left) looks differs all = all_left (IsNotOf tag) looks left all
after_other tag other at (Kind.Look row (Row.Page slot serial) closed) looks differs all =
    let look : Look = record { at = at; row = row; slot = slot; serial = serial; closed = closed } in
    All-append (IsNotOf tag) looks ((other, look) ∷ []) all
    (All-cons (IsNotOf tag) (other, look) [] (ap {B = Bool} (λ (b : Bool). not b) (not_same tag other differs))
    (All-nil (IsNotOf tag)))
after_other tag other at kind looks differs all = all

over_others : (tag : Tag) (others before : List Entry) → All (λ entry. entry.tag.actor ≢ tag.actor) others →
    All (IsNotOf tag) (open_looks before) → All (IsNotOf tag) (open_looks (others ++ before))
over_others tag [] before of_others all = all
over_others tag (entry ∷ others) before of_others all =
    after_other tag entry.tag (length (others ++ before)) entry.kind (open_looks (others ++ before))
    (All-head (λ (one : Entry). one.tag.actor ≢ tag.actor) entry others of_others)
    (over_others tag others before (All-tail (λ (one : Entry). one.tag.actor ≢ tag.actor) entry others of_others) all)

left_stays : (tag : Tag) (seen past : List Entry) → HasCome tag.actor seen past → HasLeftAll tag seen → HasLeftAll tag past
left_stays tag seen past come left =
    subst (HasLeftAll tag) (sym come.after_is)
    (list_all-from_AllPass (λ open_look. not (is_same_tag tag open_look.0)) (open_looks (come.others ++ seen))
    (over_others tag come.others seen come.of_others
    (AllPass-from_list_all (λ open_look. not (is_same_tag tag open_look.0)) (open_looks seen) left)))

module _ (start : Start) (contents : List (Tag × List ℕ)) (channels channel : ℕ) where
  made_stays : (tag : Tag) (calls : List (TraceCall × Reply)) (before seen past : List Entry) → HasCome tag.actor seen past →
      AreMadeAmong start contents channels channel tag calls before seen →
      AreMadeAmong start contents channels channel tag calls before past
  made_stays tag [] before seen past come made = came_then tag.actor before seen past made come
  made_stays tag (one ∷ calls) before seen past come (between, is, call, made) =
      (between, is, call, made_stays (next_tag tag) calls between seen past come made)

  begun_stays : (tag : Tag) (verb : Verb) (before seen past : List Entry) → IsLawful start contents past →
      HasCome tag.actor seen past → IsBegunAmong start contents channels channel tag verb before seen →
      IsBegunAmong start contents channels channel tag verb before past
  begun_stays tag verb before seen past lawful come begun = record {
    steps = begun.steps;
    rest = begun.rest;
    are_steps =
        subst (λ (steps : List CallStep). AreStepsAmong tag before steps past) (append-nil begun.steps)
        (among_join tag before seen past begun.steps [] begun.are_steps come);
    of_verb = begun.of_verb;
    no_fault = begun.no_fault;
    leaves_all = λ now was.
        left_stays tag seen past come
        (begun.leaves_all (lawful_came (ladders start contents) start.base tag.actor seen past come lawful) was);
  }

  stop_stays : (actor : ℕ) (answered : List (TraceCall × Reply)) (call : TraceCall) (seen past : List Entry) →
      IsLawful start contents past → HasCome actor seen past →
      AreMadeThenBegun start contents channels channel actor answered call seen →
      AreMadeThenBegun start contents channels channel actor answered call past
  stop_stays actor answered call seen past lawful come made = record {
    between = made.between;
    are_made = made.are_made;
    is_next = made.is_next;
    begun =
        begun_stays call.tag call.verb made.between seen past lawful
        (subst (λ (own : ℕ). HasCome own seen past) (sym (ap {B = ℕ} (λ (tag : Tag). tag.actor) made.is_next)) come) made.begun;
  }

pub made_so_far_stays : MadeSoFarStays
made_so_far_stays start contents channels channel actor answered rest seen past lawful come (inl made) =
    inl (made_stays start contents channels channel _ answered [] seen past come made)
made_so_far_stays start contents channels channel actor answered rest seen past lawful come (inr stopped) =
    inr (record {
      call = stopped.call;
      later = stopped.later;
      rest_is = stopped.rest_is;
      are_made = stop_stays start contents channels channel actor answered stopped.call seen past lawful come stopped.are_made;
    })

-- the entries of others ask nothing of an actor's room
room_over : (limit actor : ℕ) (others seen : List Entry) → All (λ entry. entry.tag.actor ≢ actor) others →
    actor_found_room limit actor seen ≡ true → actor_found_room limit actor (others ++ seen) ≡ true
room_over limit actor [] seen of_others found = found
room_over limit actor (entry ∷ others) seen of_others found =
    let room : Bool = has_room_in_turn limit (others ++ seen) entry.kind in
    let differs = All-head (λ (one : Entry). one.tag.actor ≢ actor) entry others of_others in
    and_from (actor_found_room limit actor (others ++ seen)) (not (entry.tag.actor == actor) || room)
    (room_over limit actor others seen (All-tail (λ (one : Entry). one.tag.actor ≢ actor) entry others of_others) found)
    (ap {B = Bool} (λ (b : Bool). not b || room) (ne_eqb entry.tag.actor actor differs))

pub room_stays : RoomStays
room_stays limit actor seen past come found =
    subst (λ (entries : List Entry). actor_found_room limit actor entries ≡ true) (sym come.after_is)
    (room_over limit actor come.others seen come.of_others found)

pub stops_stay : StopsStay
stops_stay start tag verb seen past come no_room = record {
  prefix = seen;
  later = come.others;
  past_is = come.after_is;
  has_length = refl;
  of_others = come.of_others;
  no_room = no_room;
}
