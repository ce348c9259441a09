-- Pasts to which one call has added entries: which steps calls have there, that call numbers never fall, and that each entry
-- is of a call so far.
use Rattle.std.proofs.Common.{ℕ, ◌≡◌, ◌≤◌, Bool, true, false, List, [], ◌∷◌, ◌++◌, refl, sym, ap, subst, ◌∙◌, append_assoc, append-nil, arith}
use Rattle.std.proofs.lemmas.Bool.{and_parts, or_right}
use Rattle.std.specs.Prelude.{◌||◌, All}
use Rattle.std.specs.List.{list_all, list_any}
use Rattle.std.proofs.lemmas.List.Elements.{All-nil, All-cons, All-head, All-tail}
use Rattle.std.proofs.lemmas.List.Folds.{list_any-append}
use Rattle.ssd_histories.specs.CallSteps.{CallStep, steps_of}
use Rattle.ssd_histories.specs.CallsInOrder.{is_no_later, is_of_call, never_fall}
use Rattle.ssd_histories.specs.History.{is_same_tag}
use Rattle.ssd_geo.specs.declared.entry.Entry.{Entry}
use Rattle.ssd_geo.specs.declared.tag.Tag.{Tag}
use Rattle.ssd_geo.specs.declared.trace.TraceCall.{TraceCall}
use Rattle.serial_laws.proofs.MadeSteps.{IsGrownPast, grown_holds, none_more}
use Rattle.serial_laws.proofs.NumberedTags.{IsBelow, is_later, known_is_below, later_tag}
use Rattle.ssd_histories.proofs.SameTags.{one_tag}

-- a call of another tag has the steps there that it had before
pub steps_stay : (other tag : Tag) (before after : List Entry) → is_same_tag other tag ≡ false → IsGrownPast tag before after →
    steps_of other after ≡ steps_of other before
steps_stay other tag before after differs grown =
    grown_holds tag (λ past. steps_of other past ≡ steps_of other before)
    (λ entry past same held.
    none_more other entry past (subst (λ (t : Tag). is_same_tag other t ≡ false) (one_tag tag entry.tag same) differs) ∙ held)
    before after grown refl

-- the steps in an older past begin those in a newer one
pub record HasMoreSteps (tag : Tag) (older newer : List Entry) : Type 0 where
  pub rest : List CallStep
  pub are : steps_of tag newer ≡ steps_of tag older ++ rest

pub steps_begin : (tag : Tag) (more past : List Entry) → HasMoreSteps tag past (more ++ past)
steps_begin tag [] past = record { rest = []; are = sym (append-nil (steps_of tag past)) }
steps_begin tag (entry ∷ more) past =
    let before = steps_begin tag more past in
    by_test before.rest before.are (is_same_tag tag entry.tag) refl
  where
    by_test : (rest : List CallStep) → steps_of tag (more ++ past) ≡ steps_of tag past ++ rest → (b : Bool) →
        is_same_tag tag entry.tag ≡ b → HasMoreSteps tag past (entry ∷ more ++ past)
    by_test rest are true same = record {
      rest = rest ++ record { past = more ++ past; entry = entry } ∷ [];
      are =
          rw (same, steps_of)
          (ap (λ (steps : List CallStep). steps ++ record { past = more ++ past; entry = entry } ∷ []) are
          ∙ append_assoc (steps_of tag past) rest (record { past = more ++ past; entry = entry } ∷ []));
    }
    by_test rest are false differs = record { rest = rest; are = rw (differs, steps_of) are }

-- the entries of a past of known calls are below the counts of those
pub past_is_below : (counts : ℕ → ℕ) (calls : List TraceCall) (past : List Entry) →
    All (λ call. IsBelow counts call.tag) calls → list_all (is_of_call calls) past ≡ true →
    All (λ entry. IsBelow counts entry.tag) past
past_is_below counts calls [] below known = All-nil (λ (entry : Entry). IsBelow counts entry.tag)
past_is_below counts calls (entry ∷ past) below known =
    let parts = and_parts (is_of_call calls entry) (list_all (is_of_call calls) past) known in
    All-cons (λ (other : Entry). IsBelow counts other.tag) entry past (known_is_below counts calls entry below parts.0)
    (past_is_below counts calls past below parts.1)

-- so a call that comes later has no step there, and is no earlier than they
pub no_steps : (counts : ℕ → ℕ) (tag : Tag) (past : List Entry) → counts tag.actor ≤ tag.call →
    All (λ entry. IsBelow counts entry.tag) past → steps_of tag past ≡ []
no_steps counts tag [] late below = refl
no_steps counts tag (entry ∷ past) late below =
    none_more tag entry past (later_tag counts tag entry.tag late
    (All-head (λ (other : Entry). IsBelow counts other.tag) entry past below))
    ∙ no_steps counts tag past late (All-tail (λ (other : Entry). IsBelow counts other.tag) entry past below)

all_before : (counts : ℕ → ℕ) (tag : Tag) (past : List Entry) → counts tag.actor ≤ tag.call →
    All (λ entry. IsBelow counts entry.tag) past → list_all (is_no_later tag) past ≡ true
all_before counts tag [] late below = refl
all_before counts tag (entry ∷ past) late below =
    rw (is_later counts tag entry late (All-head (λ (other : Entry). IsBelow counts other.tag) entry past below))
    (all_before counts tag past late (All-tail (λ (other : Entry). IsBelow counts other.tag) entry past below))

pub no_later_itself : (tag : Tag) (entry : Entry) → entry.tag ≡ tag → is_no_later tag entry ≡ true
no_later_itself tag entry own = grind arith

-- call numbers never fall with the entries of the call that comes next
record NeverFalls (tag : Tag) (past : List Entry) : Type 0 where
  none_later : list_all (is_no_later tag) past ≡ true
  never : never_fall past ≡ true

falls_never : (tag : Tag) (entry : Entry) (past : List Entry) → entry.tag ≡ tag → NeverFalls tag past →
    NeverFalls tag (entry ∷ past)
falls_never tag entry past own held = record {
  none_later = rw (no_later_itself tag entry own) held.none_later;
  never =
      rw (subst (λ (t : Tag). list_all (is_no_later t) past ≡ true) (sym own) held.none_later) held.never;
}

pub fall_never : (counts : ℕ → ℕ) (tag : Tag) (before after : List Entry) → counts tag.actor ≤ tag.call →
    All (λ entry. IsBelow counts entry.tag) before →
    IsGrownPast tag before after → never_fall before ≡ true → never_fall after ≡ true
fall_never counts tag before after late below grown never =
    (grown_holds tag (NeverFalls tag) (λ entry past same held. falls_never tag entry past
    (sym (one_tag tag entry.tag same)) held)
    before after grown (record { none_later = all_before counts tag before late below; never = never })).never

-- the entries of known calls are so where there are more calls, and those of one more call are too
known_by_more : (calls more : List TraceCall) (entry : Entry) → is_of_call calls entry ≡ true →
    is_of_call (calls ++ more) entry ≡ true
known_by_more calls more entry known =
    list_any-append (λ (other : TraceCall). is_same_tag other.tag entry.tag) calls more ∙ rw known refl

pub known_with_more : (calls more : List TraceCall) (past : List Entry) →
    list_all (is_of_call calls) past ≡ true → list_all (is_of_call (calls ++ more)) past ≡ true
known_with_more calls more [] known = refl
known_with_more calls more (entry ∷ past) known =
    let parts = and_parts (is_of_call calls entry) (list_all (is_of_call calls) past) known in
    rw (known_by_more calls more entry parts.0) (known_with_more calls more past parts.1)

known_last : (calls : List TraceCall) (call : TraceCall) (entry : Entry) → is_same_tag call.tag entry.tag ≡ true →
    is_of_call (calls ++ call ∷ []) entry ≡ true
known_last calls call entry same =
    list_any-append (λ (other : TraceCall). is_same_tag other.tag entry.tag) calls (call ∷ [])
    ∙ or_right (list_any (λ (other : TraceCall). is_same_tag other.tag entry.tag) calls)
    (is_same_tag call.tag entry.tag || false) (rw same refl)

pub known_grown : (calls : List TraceCall) (call : TraceCall) (before after : List Entry) → IsGrownPast call.tag before after →
    list_all (is_of_call calls) before ≡ true → list_all (is_of_call (calls ++ call ∷ [])) after ≡ true
known_grown calls call before after grown known =
    grown_holds call.tag (λ past. list_all (is_of_call (calls ++ call ∷ [])) past ≡ true)
    (λ entry past same held. rw (known_last calls call entry same) held)
    before after grown (known_with_more calls (call ∷ []) before known)
