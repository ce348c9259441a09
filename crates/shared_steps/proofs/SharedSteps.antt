-- A caller of a channel behind a lock takes a turn, and finds a past that goes on from what it has seen, in which what
-- others added is of other actors. What the step tells of the channel it tells of that caller.
use Rattle.std.proofs.Common.{◌≡◌, ◌≢◌, ℕ, suc, ◌<◌, ◌==◌, ne_eqb, cond, Bool, true, false, List, [], ◌∷◌, ◌++◌, length, reverse, refl, sym, ap, subst, ◌∙◌, Option, Some, None, inl, inr, arith, All}
use Rattle.std.specs.List.{filter}
use Rattle.std.specs.Prelude.{◌⊎◌, ◌||◌, IsTrue, unwrap_or}
use Rattle.std.proofs.lemmas.Bool.Decides.{nat_tests}
use Rattle.std.proofs.lemmas.List.{append-nil, append_cancel_left, reverse-append, reverse-reverse}
use Rattle.std.proofs.lemmas.List.Elements.{All-nil, All-cons, All-head, All-tail, All-append, filter-append}
use Rattle.atomic_table.specs.Seated.{TableId}
use Rattle.chan_calls.specs.Caller.{Comes, IfBound, IsBoundWord, IsOf, IsOwn, LookStays, MayLeave, SameCaller}
use Rattle.chan_calls.specs.Moving.{MayCondemn, MayMove}
use Rattle.chan_calls.specs.Sensing.{MaySense}
use Rattle.chan_state.specs.Steps.{IsWordOf}
use Rattle.ssd_geo.specs.Coding.{coding_of}
use Rattle.ssd_geo.specs.Ladder.{LadderState, has_answer}
use Rattle.ssd_geo.specs.declared.entry.Entry.{Entry}
use Rattle.ssd_geo.specs.declared.shape.Shape.{Shape}
use Rattle.ssd_geo.specs.declared.tag.Tag.{Tag}
use Rattle.ssd_histories.specs.History.{history_of, past_of}
use Rattle.ssd_histories.specs.Lawful.{IsLawful, has_fault_sense}
use Rattle.ssd_histories.specs.PastPages.{ladder_of}
use Rattle.ssd_histories.specs.SerialCalls.{entry_of}
use Rattle.ssd_histories.specs.Standing.{IsPastOf}
use Rattle.ssd_histories.specs.Start.{Start}
use Rattle.turn_table.specs.Passes.{AddsAtMostOne, GoesOnFrom, LockState, PassState, TurnState, entries_by, having_seen, with_value}
use Rattle.shared_steps.specs.Passing.{reference_of}
use Rattle.shared_steps.specs.Sharing.{IsTurnOf, actor_of, view_of_pass}
use Rattle.shared_steps.specs.Tracing.{IsTraced, TracedState, stands_just_for, view_of_traced}
use Rattle.shared_steps.proofs.AddedEntries.{AddsOne}
use Rattle.shared_steps.proofs.CarriedSteps.{ReturnsTo, StepsFor, still_come, still_condemn, still_leave, still_move, still_own, still_sense}
use Rattle.shared_steps.proofs.OtherEntries.{OwnStays, own_stays}
use Rattle.std.proofs.lemmas.Bool.{eqb-false}

-- a list without an entry of an actor has others' entries alone
one_less : (b : Bool) (entry : Entry) (rest : List Entry) → cond b (entry ∷ rest) rest ≡ [] → (b ≡ false) × (rest ≡ [])
one_less true entry rest e = absurd (cc)
one_less false entry rest e = (refl, e)

all_other : (number : ℕ) (list : List Entry) → entries_by number list ≡ [] → All (λ entry. entry.tag.actor ≢ number) list
all_other number [] none = All-nil (λ (entry : Entry). entry.tag.actor ≢ number)
all_other number (entry ∷ list) none =
    let parts = one_less (entry.tag.actor == number) entry (entries_by number list) none in
    All-cons (λ (e : Entry). e.tag.actor ≢ number) entry list (eqb-false entry.tag.actor number parts.0) (all_other number list
    parts.1)

-- a fact of each entry is one of each in the reverse
all_reverse : (P : Entry → Type 0) (list : List Entry) → All P list → All P (reverse list)
all_reverse P [] all = All-nil P
all_reverse P (entry ∷ list) all =
    subst (All P) (sym (reverse-append (entry ∷ []) list))
    (All-append P (reverse list) (entry ∷ []) (all_reverse P list (All-tail P entry list all))
    (All-cons P entry [] (All-head P entry list all) (All-nil P)))

-- what others added to a list that goes on from what a pass has seen, newest entry first
module _ (pass : PassState) (past : List Entry) (on : GoesOnFrom pass (history_of past)) where
  added : List Entry
  added = reverse on.rest

  past_is : past ≡ reverse on.rest ++ past_of pass.seen
  past_is = sym (reverse-reverse past) ∙ (ap {B = List Entry} (λ (list : List Entry). reverse list) on.begins ∙
      reverse-append pass.seen on.rest)

  none_own : entries_by pass.number on.rest ≡ []
  none_own =
      append_cancel_left (entries_by pass.number pass.seen) (entries_by pass.number on.rest) []
      (sym (filter-append (λ (entry : Entry). entry.tag.actor == pass.number) pass.seen on.rest)
      ∙ (ap (entries_by pass.number) (sym on.begins) ∙ (on.own pass.number (inl refl) ∙ sym (append-nil (entries_by
      pass.number pass.seen)))))

  of_other_actors : All (λ entry. entry.tag.actor ≢ pass.number) (reverse on.rest)
  of_other_actors = all_reverse (λ (entry : Entry). entry.tag.actor ≢ pass.number) on.rest (all_other pass.number on.rest
      none_own)

-- a call that a pass with a number serves is of that number
pub served_by : (number actor : ℕ) → number ≢ 255 → actor ≡ actor_of number → actor ≡ number
served_by number actor has e = by_test (number == 255) refl e
  where
    same_number : (m n : ℕ) → (m == n) ≡ true → m ≡ n
    same_number m n f = grind (arith, nat_tests)

    by_test : (b : Bool) → (number == 255) ≡ b → actor ≡ cond b 256 number → actor ≡ number
    by_test true is f = absurd (has (same_number number 255 is))
    by_test false is f = f

-- a turn is one of the pass that took it
pub turn_of : (lock : LockState Start) (contents : List (Tag × List ℕ)) (pass : PassState) (turn : TurnState TracedState)
    (value : TracedState) → value ≡ turn.value → pass.number ≢ 255 →
    turn.pass ≡ having_seen pass (history_of turn.value.channel.past) → GoesOnFrom pass (history_of turn.value.channel.past) →
    turn.value.start ≡ lock.start → IsTraced value contents → IsTurnOf lock contents pass (with_value turn value)
turn_of lock contents pass turn value is has passed on begun stands = record {
  has_number = has;
  pass_is = subst (λ (v : TracedState). turn.pass ≡ having_seen pass (history_of v.channel.past)) (sym is) passed;
  goes_on = subst (λ (v : TracedState). GoesOnFrom pass (history_of v.channel.past)) (sym is) on;
  start_is = subst (λ (v : TracedState). v.start ≡ lock.start) (sym is) begun;
  is_traced = stands;
}

-- and of its value, however that is written
pub turn_with : (lock : LockState Start) (contents : List (Tag × List ℕ)) (pass : PassState) (turn : TurnState TracedState)
    (value : TracedState) → value ≡ turn.value → IsTurnOf lock contents pass turn → IsTurnOf lock contents pass (with_value
    turn value)
turn_with lock contents pass turn value is of =
    subst (λ (v : TracedState). IsTurnOf lock contents pass (with_value turn v)) (sym is) of

-- what is so of a start and contents is so of those that are the same
there : (P : Start → List (Tag × List ℕ) → Type 0) (start : Start) (contents : List (Tag × List ℕ)) → P start contents →
    (same : Start) (listed : List (Tag × List ℕ)) → same ≡ start → listed ≡ contents → P same listed
there P start contents is same listed e f =
    subst (λ (s : Start). P s listed) (sym e) (subst (λ (d : List (Tag × List ℕ)). P start d) (sym f) is)

module _ (lock : LockState Start) (contents : List (Tag × List ℕ)) (pass : PassState) (turn : TurnState TracedState)
    (is : IsTurnOf lock contents pass turn) (tag : Tag) (number : tag.actor ≡ pass.number) where
  begins : turn.value.channel.past ≡ reverse is.goes_on.rest ++ past_of pass.seen
  begins = past_is pass turn.value.channel.past is.goes_on

  of_others : All (λ entry. entry.tag.actor ≢ tag.actor) (reverse is.goes_on.rest)
  of_others =
      subst (λ (n : ℕ). All (λ (entry : Entry). entry.tag.actor ≢ n) (reverse is.goes_on.rest)) (sym number)
      (of_other_actors pass turn.value.channel.past is.goes_on)

  own_is_still : OwnStays turn.value.start contents tag (past_of pass.seen) turn.value.channel.past
  own_is_still =
      subst (OwnStays turn.value.start contents tag (past_of pass.seen)) (sym begins)
      (own_stays turn.value.start contents tag (past_of pass.seen) (reverse is.goes_on.rest)
      (subst (IsLawful turn.value.start contents) begins is.is_traced.is_past.is_lawful) of_others)

  comes_shared : Comes (view_of_pass pass lock.start contents) tag turn.value.channel.past
  comes_shared = record {
    others = reverse is.goes_on.rest;
    now_is = begins;
    of_others = of_others;
    none_alone = λ none. absurd (some_is (actor_of pass.number) none);
    looks_stay = own_is_still.looks_stay;
    senses_stay = own_is_still.senses_stay;
    faults_stay = own_is_still.faults_stay;
    recovered_stay = own_is_still.recovered_stay;
    uncorrectable_stay = own_is_still.uncorrectable_stay;
  }
    where
      some_is : (n : ℕ) → ◌≡◌ {A = Option ℕ} (Some n) None → ⊥
      some_is n e = cc

  pub made_for_shared : StepsFor (view_of_pass pass lock.start contents) (view_of_traced turn.value contents)
      (stands_just_for lock.start contents) (stands_just_for turn.value.start contents) tag
  made_for_shared = record {
    limit_is = is.is_traced.limit_is ∙ ap {B = ℕ} (λ (start : Start). start.limit) is.start_is;
    shape_is = is.is_traced.shape_is ∙ ap {B = Shape} (λ (start : Start). start.base.shape) is.start_is;
    comes = comes_shared;
    alone = refl;
    reaches = λ start listed just. (
      there (IsOf (view_of_traced turn.value contents)) turn.value.start contents (record {
        is_past = is.is_traced.is_past;
        limit_is = is.is_traced.limit_is;
        shape_is = is.is_traced.shape_is;
        session_is = is.is_traced.session_is;
      }) start listed (just.0 ∙ sym is.start_is) just.1,
      (just.0 ∙ sym is.start_is, just.1),
    );
    looks = λ start listed just at own.
        there (λ (s : Start) (d : List (Tag × List ℕ)). LookStays s d (past_of pass.seen) turn.value.channel.past at)
        turn.value.start contents
        (record { look_stays = own_is_still.look_stays at own; sensed_stays = own_is_still.sensed_stay at own }) start listed
        (just.0 ∙ sym is.start_is) just.1;
  }

  -- what may be asked of the caller may be asked of the channel
  pub in_shape : (P : Shape → Type 0) → P lock.start.base.shape → P turn.value.channel.shape
  in_shape P holds = subst P (sym made_for_shared.shape_is) holds

  pub owns : (at : ℕ) → IsOwn (view_of_pass pass lock.start contents) tag at → IsOwn (view_of_traced turn.value contents) tag
      at
  owns = still_own (view_of_pass pass lock.start contents) (view_of_traced turn.value contents) (stands_just_for lock.start
      contents)
      (stands_just_for turn.value.start contents) tag made_for_shared

  pub may_sense : (at : ℕ) → MaySense (view_of_pass pass lock.start contents) tag at → MaySense (view_of_traced turn.value
      contents) tag at
  may_sense = still_sense (view_of_pass pass lock.start contents) (view_of_traced turn.value contents) (stands_just_for
      lock.start contents)
      (stands_just_for turn.value.start contents) tag made_for_shared

  pub may_move : (at : ℕ) → MayMove (view_of_pass pass lock.start contents) tag at → MayMove (view_of_traced turn.value
      contents) tag at
  may_move = still_move (view_of_pass pass lock.start contents) (view_of_traced turn.value contents) (stands_just_for
      lock.start contents)
      (stands_just_for turn.value.start contents) tag made_for_shared

  pub may_condemn : (at : ℕ) → MayCondemn (view_of_pass pass lock.start contents) tag at →
      MayCondemn (view_of_traced turn.value contents) tag at
  may_condemn = still_condemn (view_of_pass pass lock.start contents) (view_of_traced turn.value contents)
      (stands_just_for lock.start contents) (stands_just_for turn.value.start contents) tag made_for_shared

  pub has_come : (fact : LadderState → Type 0) (at : ℕ) → IsOwn (view_of_pass pass lock.start contents) tag at →
      IfBound (view_of_pass pass lock.start contents) at fact → IfBound (view_of_traced turn.value contents) at fact
  has_come fact at own come =
      subst (λ (start : Start). fact (ladder_of (coding_of start.base) start contents turn.value.channel.past at)) (sym
      is.start_is)
      (still_come (view_of_pass pass lock.start contents) (view_of_traced turn.value contents) (stands_just_for lock.start
      contents)
      (stands_just_for turn.value.start contents) tag made_for_shared fact lock.start contents (refl, refl) at own come)

  pub may_leave : (at : ℕ) → IsOwn (view_of_pass pass lock.start contents) tag at → MayLeave (view_of_pass pass lock.start
      contents) at →
      MayLeave (view_of_traced turn.value contents) at
  may_leave at own may =
      subst (λ (start : Start). IsTrue (has_answer (ladder_of (coding_of start.base) start contents turn.value.channel.past
      at)
      || has_fault_sense turn.value.channel.past at)) (sym is.start_is)
      (still_leave (view_of_pass pass lock.start contents) (view_of_traced turn.value contents) (stands_just_for lock.start
      contents)
      (stands_just_for turn.value.start contents) tag made_for_shared lock.start contents (refl, refl) at own may)

  pub is_word : (row : ℕ) (word : List ℕ) → IsBoundWord (view_of_pass pass lock.start contents) tag row word →
      IsBoundWord (view_of_traced turn.value contents) tag row word
  is_word row word bound = subst (λ (start : Start). IsWordOf start contents tag row word) (sym is.start_is) bound

-- once the turn is given back the pass has seen the channel's past
module _ (lock : LockState Start) (contents : List (Tag × List ℕ)) (pass after : PassState) (traced : TracedState)
    (seen : after ≡ having_seen pass (history_of traced.channel.past)) where
  sees : past_of after.seen ≡ traced.channel.past
  sees =
      ap {B = List Entry} (λ (p : PassState). past_of p.seen) seen ∙ reverse-reverse traced.channel.past

  pub returned_shared : ReturnsTo (view_of_pass after lock.start contents) (view_of_traced traced contents)
      (stands_just_for lock.start contents) (stands_just_for lock.start contents) (stands_just_for traced.start contents)
  returned_shared = record {
    seen_is = sees;
    returns = λ start listed just of stands. (
      record {
        is_past = subst (IsPastOf start listed) (sym sees) of.is_past;
        limit_is = sym (ap {B = ℕ} (λ (s : Start). s.limit) just.0);
        shape_is = sym (ap {B = Shape} (λ (s : Start). s.base.shape) just.0);
        session_is = sym (ap {B = ℕ} (λ (s : Start). s.base.session) just.0);
      },
      just,
    );
  }

  pub same_shared : SameCaller (view_of_pass pass lock.start contents) (view_of_pass after lock.start contents)
  same_shared = record {
    limit_stays = refl;
    shape_stays = refl;
    session_stays = refl;
    number_stays = ap {B = Option ℕ} (λ (p : PassState). Some (actor_of p.number)) seen;
    bound_stays = refl;
    reference_stays = ap {B = ℕ} (λ (p : PassState). reference_of p) seen;
  }

-- the start of a channel that is bound to it
pub bound_start : (old new : Start) (contents : List (Tag × List ℕ)) →
    ◌≡◌ {A = Option (Start × List (Tag × List ℕ))} (Some (new, contents)) (Some (old, contents)) → new ≡ old
bound_start old new contents same = ap {B = Start} (λ (bound : Option (Start × List (Tag × List ℕ))). (unwrap_or bound (
  old,
  contents,
)).0) same

-- a turn is given back with what it found, or with one entry more of its pass
pub at_most_one : (pass turn : PassState) (tag : Tag) (now seen : List Entry) → turn ≡ having_seen pass (history_of now) →
    tag.actor ≡ pass.number → AddsOne tag now seen → AddsAtMostOne turn (history_of seen)
at_most_one pass turn tag now seen is number (inl same) =
    inl (ap {B = List Entry} history_of same ∙ sym (ap {B = List Entry} (λ (p : PassState). p.seen) is))
at_most_one pass turn tag now seen is number (inr more) = inr (
  entry_of tag more.0,
  number ∙ sym (ap {B = ℕ} (λ (p : PassState). p.number) is),
  ap {B = List Entry} history_of more.1
      ∙ (reverse-append (entry_of tag more.0 ∷ []) now
      ∙ ap {B = List Entry} (λ (list : List Entry). list ++ entry_of tag more.0 ∷ []) (sym (ap {B = List Entry} (λ (p :
      PassState). p.seen) is))),
)

-- the pass that is given back is the one that took the turn, and has seen what stands then
pub after_is : (pass turn given : PassState) (now seen : List Entry) → turn ≡ having_seen pass (history_of now) →
    given ≡ having_seen turn (history_of seen) → given ≡ having_seen pass (history_of seen)
after_is pass turn given now seen is gives = gives ∙ ap {B = PassState} (λ (p : PassState). having_seen p (history_of seen))
    is

pub lock_stays : (pass given : PassState) (seen : List Entry) → given ≡ having_seen pass seen → given.lock ≡ pass.lock
lock_stays pass given seen is = ap {B = TableId} (λ (p : PassState). p.lock) is
