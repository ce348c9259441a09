-- While a look of a page in the victim is open, no other call ends the victim: so the victim is still there when the look is
-- left. And where a victim is gone, a superblock without live pages was erased by another.
use Rattle.std.proofs.Common.{◌≡◌, ◌≢◌, ℕ, ◌+◌, ◌==◌, ◌&&◌, ◌||◌, cond, Bool, true, false, List, [], ◌∷◌, ◌++◌, length, Option, Some, None, ◌⊎◌, refl, sym, subst, ◌∙◌, ap, inl, inr, arith}
use Rattle.std.specs.Prelude.{All, IsSomeAnd, option_map}
use Rattle.std.specs.List.{list_all, list_any}
use Rattle.std.proofs.lemmas.Bool.{and_parts, cases_eq, false≢true, false_from_ne_true, or_left, or_right}
use Rattle.std.proofs.lemmas.List.Elements.{All-cons, All-head, All-nil, All-tail}
use Rattle.std.proofs.lemmas.List.Folds.{list_any-append}
use Rattle.std.proofs.lemmas.List.Sums.{sum_by-cons}
use Rattle.std.proofs.lemmas.Option.{none-some, same_Some}
use Rattle.ssd_geo.specs.Ladder.{LadderState}
use Rattle.ssd_geo.specs.declared.base.ChannelBase.{ChannelBase}
use Rattle.ssd_geo.specs.declared.entry.Entry.{Entry}
use Rattle.ssd_geo.specs.declared.kind.Kind.{Kind}
use Rattle.ssd_geo.specs.declared.look.Look.{Look}
use Rattle.ssd_geo.specs.declared.row.Row.{Row}
use Rattle.ssd_geo.specs.declared.slot.Slot.{Slot}
use Rattle.ssd_geo.specs.declared.tag.Tag.{Tag}
use Rattle.ssd_histories.specs.CallSteps.{CallStep, is_sense_of, late_pasts}
use Rattle.ssd_histories.specs.History.{is_same_tag, look_by, open_looks}
use Rattle.ssd_histories.specs.Lawful.{IsLawfulBy, IsLawfulKind, IsLawfulLeave}
use Rattle.ssd_histories.specs.OpenLooks.{began_at, look_at, looks_in, stands_in, without_look}
use Rattle.ssd_histories.specs.PageMap.{first_live_in, slot_at}
use Rattle.ssd_histories.specs.PastRows.{rows_of}
use Rattle.ssd_histories.specs.Ranges.{is_in_range}
use Rattle.ssd_histories.specs.Room.{live_of, live_of_victim, victim_of}
use Rattle.ssd_histories.specs.SerialCalls.{entry_of}
use Rattle.ssd_histories.specs.Start.{Start}
use Rattle.chan_calls.specs.declared.copy_reply.CopyReply.{CopyReply}
use Rattle.collector.proofs.KeptVictims.{victim_stays}
use Rattle.serial_laws.proofs.LookLists.{copy_ends, is_end_kind}
use Rattle.calls_among_others.specs.CallsAmong.{ladders}
use Rattle.calls_among_others.specs.StepsAmong.{AreStepsAmong, HasCome}
use Rattle.calls_among_others.proofs.AmongCopies.{CopyEnds, Ends, looked}
use Rattle.calls_among_others.proofs.AmongSteps.{IsOfOther, late_has, late_more, lawful_among, lawful_came}
use Rattle.calls_among_others.proofs.LookSteps.{made_step}
use Rattle.shared_lemmas.proofs.Tests.{same_number}
use Rattle.ssd_histories.proofs.SameTags.{same_parts, same_tag}

and_false : (a b : Bool) → b ≡ false → (a && b) ≡ false
and_false true b e = e
and_false false b e = refl

-- whether an entry leaves no look
abbrev is_no_leave : Kind → Bool
is_no_leave (Kind.Leave at) = false
is_no_leave _ = true

sense_leaves_none : (at : ℕ) (kind : Kind) → is_sense_of at kind ≡ true → is_no_leave kind ≡ true
sense_leaves_none at (Kind.Sense named place level) e = refl
sense_leaves_none at kind e = absurd (false≢true e)

end_leaves_none : (kind : Kind) → is_end_kind kind ≡ true → is_no_leave kind ≡ true
end_leaves_none (Kind.Leave at) e = absurd (false≢true e)
end_leaves_none kind e = refl

senses_leave_none : (at : ℕ) (senses : List CallStep) → list_all (λ step. is_sense_of at step.entry.kind) senses ≡ true →
    list_all (λ step. is_no_leave step.entry.kind) senses ≡ true
senses_leave_none at [] are = refl
senses_leave_none at (step ∷ senses) are =
    let parts = and_parts (is_sense_of at step.entry.kind) (list_all (λ step. is_sense_of at step.entry.kind) senses) are in
    rw (sense_leaves_none at step.entry.kind parts.0) (senses_leave_none at senses parts.1)

-- a superblock of a first live slot is the slot's
slot_in : (sb : ℕ) (least : Option ℕ) (slot : Slot) → option_map (slot_at sb) least ≡ Some slot → slot.sb ≡ sb
slot_in sb None slot is = absurd (none-some slot is)
slot_in sb (Some index) slot is =
    ap (λ (o : Option Slot). elim o as (λ (o : Option Slot). ℕ) [ Some found ↦ found.sb | None ↦ sb ]) (sym is)

first_live_sb : (base : ChannelBase) (past : List Entry) (sb : ℕ) (slot : Slot) →
    first_live_in (rows_of base past) sb ≡ Some slot → slot.sb ≡ sb
first_live_sb base past sb slot is = slot_in sb _ slot is

module _ (ladder : List Entry → ℕ → LadderState) (base : ChannelBase) (sb : ℕ) where
  abbrev IsVictim : List Entry → Type 0
  IsVictim past = victim_of base past ≡ Some sb

  live_is_of : (past : List Entry) (named : ℕ) → victim_of base past ≡ Some named → live_of base past named ≡ 0 →
      (live_of_victim base past == 0) ≡ true
  live_is_of past named victim none =
      let count : live_of_victim base past ≡ 0 = rw (victim, live_of_victim) none in
      ap (λ (n : ℕ). n == 0) count

  -- an entry after which a victim is gone was lawful over a past without a live page in it
  ended_by : (past : List Entry) (tag : Tag) (kind : Kind) → is_in_range base.shape kind ≡ true →
      IsLawfulKind (ladder past) base past tag kind → IsVictim past →
      (victim_of base (entry_of tag kind ∷ past) ≢ Some sb) → (live_of_victim base past == 0) ≡ true
  ended_by past tag (Kind.Erase named) range meets victim gone =
      live_is_of past named meets.may_erase.is_victim meets.may_erase.no_live
  ended_by past tag (Kind.BadErase named die fault) range meets victim gone =
      live_is_of past named meets.may_erase.is_victim meets.may_erase.no_live
  ended_by past tag (Kind.Pick named) range meets victim gone =
      absurd (none-some sb (sym meets.no_victim ∙ victim))
  ended_by past tag kind range meets victim gone =
      absurd (gone (victim_stays (ladder past) base past tag kind range meets refl ∙ victim))

  module _ (actor : ℕ) where
    abbrev HadNothing : List Entry → Type 0
    HadNothing past = list_any (λ older. live_of_victim base older == 0) (late_pasts actor past) ≡ true

    gone_over : (others before : List Entry) → All (IsOfOther actor) others → IsVictim before →
        IsLawfulBy ladder base (others ++ before) → (victim_of base (others ++ before) ≢ Some sb) →
        HadNothing (others ++ before)
    gone_over [] before all victim lawful gone = absurd (gone victim)
    gone_over (entry ∷ others) before all victim lawful gone =
        by_victim (victim_of base (others ++ before)) refl
        (gone_over others before (All-tail (IsOfOther actor) entry others all) victim lawful.0)
      where
        one : HasCome actor (others ++ before) (entry ∷ others ++ before)
        one = record {
          others = entry ∷ [];
          after_is = refl;
          of_others = All-cons (IsOfOther actor) entry [] (All-head (IsOfOther actor) entry others all)
              (All-nil (IsOfOther actor));
        }

        late_one : HadNothing (others ++ before) → HadNothing (entry ∷ others ++ before)
        late_one =
            late_more actor (λ older. live_of_victim base older == 0) (others ++ before) (entry ∷ others ++ before) one

        by_victim : (found : Option ℕ) → victim_of base (others ++ before) ≡ found →
            ((victim_of base (others ++ before) ≢ Some sb) → HadNothing (others ++ before)) →
            HadNothing (entry ∷ others ++ before)
        by_victim None is rest = late_one (rest (λ e. none-some sb (sym is ∙ e)))
        by_victim (Some named) is rest =
            elim (cases_eq named sb) [
              | inl same ↦ late_has actor (λ older. live_of_victim base older == 0) (others ++ before)
                  (entry ∷ others ++ before) one
                  (ended_by (others ++ before) entry.tag entry.kind lawful.1.in_range lawful.1.meets
                  (is ∙ ap (λ (n : ℕ). Some n) same) gone)
              | inr differs ↦ late_one (rest (λ e. differs (same_Some named sb (sym is ∙ e))))
            ]

    pub victim_gone : (before after : List Entry) → HasCome actor before after → IsVictim before →
        IsLawfulBy ladder base after → (victim_of base after ≢ Some sb) → HadNothing after
    victim_gone before after came victim lawful gone =
        subst HadNothing (sym came.after_is)
        (gone_over came.others before came.of_others victim (subst (IsLawfulBy ladder base) came.after_is lawful)
        (λ e. gone (ap (victim_of base) came.after_is ∙ e)))

  -- an open look of a call at a position stands in the superblock
  module _ (tag : Tag) (at : ℕ) where
    abbrev is_held : Tag × Look → Bool
    is_held pin = is_same_tag tag pin.0 && stands_in sb pin

    abbrev IsHeld : List Entry → Type 0
    IsHeld past = list_any is_held (open_looks past) ≡ true

    pinned : (looks : List (Tag × Look)) → list_any is_held looks ≡ true → looks_in looks sb ≡ 0 → ⊥
    pinned [] held none = false≢true held
    pinned (pin ∷ looks) held none = by_test (stands_in sb pin) refl (pinned looks)
      where
        more : looks_in (pin ∷ looks) sb ≡ cond (stands_in sb pin) 1 0 + looks_in looks sb
        more = sum_by-cons (λ (p : Tag × Look). cond (stands_in sb p) 1 0) pin looks

        by_test : (b : Bool) → stands_in sb pin ≡ b → (list_any is_held looks ≡ true → looks_in looks sb ≡ 0 → ⊥) → ⊥
        by_test true is rest =
            let own : ◌≡◌ {A = ℕ} (cond (stands_in sb pin) 1 0) 1 = ap {B = ℕ} (λ (b : Bool). cond b 1 0) is in
            omega (arith, more, own, none)
        by_test false is rest =
            let own : ◌≡◌ {A = ℕ} (cond (stands_in sb pin) 1 0) 0 = ap {B = ℕ} (λ (b : Bool). cond b 1 0) is in
            rest
            (sym (ap (λ (b : Bool). (b || list_any is_held looks))
            (and_false (is_same_tag tag pin.0) (stands_in sb pin) is)) ∙ held)
            (omega (arith, more, own, none))

    -- another actor's leave of a look leaves those of the call
    left_by_other : (P : Look → Type 0) (looks : List (Tag × Look)) (other : Tag) (named : ℕ) → other.actor ≢ tag.actor →
        IsSomeAnd (look_by other (look_at looks named)) P → list_any is_held looks ≡ true →
        list_any is_held (without_look looks named) ≡ true
    left_by_other P [] other named apart opened held = held
    left_by_other P (pin ∷ looks) other named apart opened held =
        by_test (began_at named pin) opened (λ rest. left_by_other P looks other named apart rest)
      where
        not_held : (b : Bool) → is_same_tag other pin.0 ≡ b →
            IsSomeAnd (elim b as (λ (b : Bool). Option Look) [ true ↦ Some pin.1 | false ↦ None ]) P → is_held pin ≡ false
        not_held true same found =
            false_from_ne_true (is_held pin) (λ e.
            let own = same_parts tag pin.0 (and_parts (is_same_tag tag pin.0) (stands_in sb pin) e).0 in
            apart ((same_parts other pin.0 same).0 ∙ sym own.0))
        not_held false same found = absurd found

        still : (b : Bool) → is_held pin ≡ b →
            (list_any is_held looks ≡ true → list_any is_held (without_look looks named) ≡ true) →
            (b || list_any is_held looks) ≡ true → (is_held pin || list_any is_held (without_look looks named)) ≡ true
        still true is rest all = or_left (is_held pin) (list_any is_held (without_look looks named)) is
        still false is rest all = or_right (is_held pin) (list_any is_held (without_look looks named)) (rest all)

        by_test : (b : Bool) → IsSomeAnd (look_by other (cond b (Some pin) (look_at looks named))) P →
            (IsSomeAnd (look_by other (look_at looks named)) P → list_any is_held looks ≡ true →
            list_any is_held (without_look looks named) ≡ true) →
            list_any is_held (cond b looks (pin ∷ without_look looks named)) ≡ true
        by_test true found rest =
            sym (ap (λ (b : Bool). b || list_any is_held looks) (not_held (is_same_tag other pin.0) refl found)) ∙ held
        by_test false found rest =
            still (is_held pin) refl (rest found) held

    -- an entry that is another's, or leaves no look
    abbrev MayCome : Tag → Kind → Type 0
    MayCome other kind = (other.actor ≢ tag.actor) ⊎ (is_no_leave kind ≡ true)

    held_step : (past : List Entry) (other : Tag) (kind : Kind) → IsLawfulKind (ladder past) base past other kind →
        MayCome other kind → IsHeld past → IsHeld (entry_of other kind ∷ past)
    held_step past other (Kind.Leave named) meets (inl apart) held =
        left_by_other (λ look. IsLawfulLeave (ladder past named) past named) (open_looks past) other named apart meets held
    held_step past other (Kind.Leave named) meets (inr none) held = absurd (false≢true none)
    held_step past other (Kind.Look row (Row.Page slot serial) closed) meets may held =
        let new : List (Tag × Look) = (
          other,
          record {
            at = length past;
            row = row;
            slot = slot;
            serial = serial;
            closed = closed;
          },
        ) ∷ [] in
        list_any-append is_held (open_looks past) new
        ∙ or_left (list_any is_held (open_looks past)) (list_any is_held new) held
    held_step past other (Kind.Look row Row.Empty closed) meets may held = held
    held_step past other (Kind.Look row Row.Lost closed) meets may held = held
    held_step past other kind meets may held = held

    not_erased : (past : List Entry) (named : ℕ) → victim_of base past ≡ Some named → looks_in (open_looks past) named ≡ 0 →
        IsHeld past → IsVictim past → ⊥
    not_erased past named victim none held is =
        pinned (open_looks past) held
        (subst (λ (n : ℕ). looks_in (open_looks past) n ≡ 0) (same_Some named sb (sym victim ∙ is)) none)

    victim_step : (past : List Entry) (other : Tag) (kind : Kind) → is_in_range base.shape kind ≡ true →
        IsLawfulKind (ladder past) base past other kind → IsHeld past → IsVictim past →
        IsVictim (entry_of other kind ∷ past)
    victim_step past other (Kind.Pick named) range meets held victim =
        absurd (none-some sb (sym meets.no_victim ∙ victim))
    victim_step past other (Kind.Erase named) range meets held victim =
        absurd (not_erased past named meets.may_erase.is_victim meets.may_erase.no_pin held victim)
    victim_step past other (Kind.BadErase named die fault) range meets held victim =
        absurd (not_erased past named meets.may_erase.is_victim meets.may_erase.no_pin held victim)
    victim_step past other kind range meets held victim =
        victim_stays (ladder past) base past other kind range meets refl ∙ victim

    record Stands (past : List Entry) : Type 0 where
      victim : IsVictim past
      held : IsHeld past

    stands_step : (past : List Entry) (entry : Entry) → IsLawfulBy ladder base (entry ∷ past) →
        MayCome entry.tag entry.kind → Stands past → Stands (entry ∷ past)
    stands_step past entry lawful may stands = record {
      victim = victim_step past entry.tag entry.kind lawful.1.in_range lawful.1.meets stands.held stands.victim;
      held = held_step past entry.tag entry.kind lawful.1.meets may stands.held;
    }

    stands_over : (others before : List Entry) → All (IsOfOther tag.actor) others →
        IsLawfulBy ladder base (others ++ before) → Stands before → Stands (others ++ before)
    stands_over [] before all lawful stands = stands
    stands_over (entry ∷ others) before all lawful stands =
        stands_step (others ++ before) entry lawful (inl (All-head (IsOfOther tag.actor) entry others all))
        (stands_over others before (All-tail (IsOfOther tag.actor) entry others all) lawful.0 stands)

    stands_came : (before after : List Entry) → HasCome tag.actor before after → IsLawfulBy ladder base after →
        Stands before → Stands after
    stands_came before after came lawful stands =
        subst Stands (sym came.after_is)
        (stands_over came.others before came.of_others (subst (IsLawfulBy ladder base) came.after_is lawful) stands)

    stands_among : (before after : List Entry) (steps : List CallStep) →
        list_all (λ step. is_no_leave step.entry.kind) steps ≡ true → AreStepsAmong tag before steps after →
        IsLawfulBy ladder base after → Stands before → Stands after
    stands_among before after [] none came lawful stands = stands_came before after came lawful stands
    stands_among before after (step ∷ steps) none made lawful stands =
        let parts = and_parts (is_no_leave step.entry.kind) (list_all (λ step. is_no_leave step.entry.kind) steps) none in
        let here : IsLawfulBy ladder base (step.entry ∷ step.past) =
        lawful_among ladder base tag (step.entry ∷ step.past) after steps made.2 lawful in
        stands_among (step.entry ∷ step.past) after steps parts.1 made.2 lawful
        (stands_step step.past step.entry here (inr parts.0) (stands_came before step.past made.0 here.0 stands))

    stands_looked : (row : ℕ) (slot : Slot) (serial : ℕ) (closed : Bool) (past : List Entry) → slot.sb ≡ sb →
        IsLawfulBy ladder base (looked tag row slot serial closed past) → IsVictim past →
        Stands (looked tag row slot serial closed past)
    stands_looked row slot serial closed past in_sb lawful victim = record {
      victim =
          victim_stays (ladder past) base past tag (Kind.Look row (Row.Page slot serial) closed) lawful.1.in_range
          lawful.1.meets refl ∙ victim;
      held =
          let new : List (Tag × Look) = (
            tag,
            record {
              at = length past;
              row = row;
              slot = slot;
              serial = serial;
              closed = closed;
            },
          ) ∷ [] in
          let own : (slot.sb == sb) ≡ true = ap (λ (n : ℕ). n == sb) in_sb ∙ same_number sb in
          let is : list_any is_held new ≡ true = rw (same_tag tag, own) refl in
          list_any-append is_held (open_looks past) new
          ∙ or_right (list_any is_held (open_looks past)) (list_any is_held new) is;
    }

pub copy_holds_victim : (start : Start) (contents : List (Tag × List ℕ)) (tag : Tag) (sb : ℕ) (look : Look)
    (now after : List Entry) (reply : CopyReply)
    (made : CopyEnds start contents tag look now after reply
    (λ past ended. Ends (ladders start contents) tag (length now) past ended reply)) →
    victim_of start.base now ≡ Some sb → first_live_in (rows_of start.base now) sb ≡ Some look.slot →
    IsLawfulBy (ladders start contents) start.base after → victim_of start.base after ≡ Some sb
copy_holds_victim start contents tag sb look now after reply made victim first lawful =
    let ladder : List Entry → ℕ → LadderState = ladders start contents in
    let base : ChannelBase = start.base in
    let at : ℕ = length now in
    let kind : Kind = made.ends_so.kind in
    let last : IsLawfulBy ladder base (entry_of tag (Kind.Leave at) ∷ made.at_leave) =
    subst (IsLawfulBy ladder base) made.after_is lawful in
    let ended : IsLawfulBy ladder base made.ended =
    lawful_came ladder base tag.actor made.ended made.at_leave made.found_leave last.0 in
    let ending : IsLawfulBy ladder base (entry_of tag kind ∷ made.at_end) =
    subst (IsLawfulBy ladder base) made.ends_so.ended_is ended in
    let sensed : IsLawfulBy ladder base made.sensed =
    lawful_came ladder base tag.actor made.sensed made.at_end made.found ending.0 in
    let first_past : List Entry = looked tag look.row look.slot look.serial look.closed now in
    let beginning : IsLawfulBy ladder base first_past =
    lawful_among ladder base tag first_past made.sensed made.senses.steps made.senses.are_steps sensed in
    let stands_first : Stands ladder base sb tag at first_past =
    stands_looked ladder base sb tag at look.row look.slot look.serial look.closed now
    (first_live_sb base now sb look.slot first) beginning victim in
    let stands_sensed : Stands ladder base sb tag at made.sensed =
    stands_among ladder base sb tag at first_past made.sensed made.senses.steps
    (senses_leave_none at made.senses.steps made.senses.are_senses) made.senses.are_steps sensed stands_first in
    let stands_end : Stands ladder base sb tag at made.at_end =
    stands_came ladder base sb tag at made.sensed made.at_end made.found ending.0 stands_sensed in
    let stands_ended : Stands ladder base sb tag at made.ended =
    subst (Stands ladder base sb tag at) (sym made.ends_so.ended_is)
    (stands_step ladder base sb tag at made.at_end (entry_of tag kind) ending
    (inr (end_leaves_none kind (copy_ends ladder at (made_step tag kind made.at_end) made.ends_so.copy))) stands_end) in
    let stands_last : Stands ladder base sb tag at made.at_leave =
    stands_came ladder base sb tag at made.ended made.at_leave made.found_leave last.0 stands_ended in
    ap (victim_of base) made.after_is
    ∙ victim_stays (ladder made.at_leave) base made.at_leave tag (Kind.Leave at) last.1.in_range last.1.meets refl
    ∙ stands_last.victim
