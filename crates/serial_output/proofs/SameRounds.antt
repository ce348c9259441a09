-- Two rounds that begin with the same past, and choose alike, end with the same past, and in the same way.
use Rattle.std.proofs.Common.{ℕ, ◌≡◌, Bool, true, false, List, [], ◌∷◌, ◌++◌, Option, Some, None, refl, sym, ap, subst, ◌∙◌, arith, ltb-true}
use Rattle.std.specs.Prelude.{nat_lt}
use Rattle.std.proofs.lemmas.Bool.{and_parts, false≢true}
use Rattle.ssd_histories.specs.CallSteps.{CallStep, is_look_at_row}
use Rattle.ssd_geo.specs.Ladder.{LadderState}
use Rattle.ssd_histories.specs.Lawful.{IsLawfulBy, IsLawfulKind}
use Rattle.ssd_histories.specs.PageMap.{is_slot, names_slot}
use Rattle.ssd_histories.specs.Ranges.{has_row, is_in_range}
use Rattle.ssd_histories.specs.Room.{live_of_victim, victim_of}
use Rattle.ssd_histories.specs.Rounds.{ends_round, first_live_of_victim, has_fault, is_first_live, is_that_slot}
use Rattle.ssd_histories.specs.SerialCalls.{AreStepsFrom, IsSerialCopy, RoundEnd, SerialCopies, SerialRound, copy_faults, entry_of, erase_faults, erased, erases, faulted, finds_none, goes_on, left, picks, retired, retires, stays, takes}
use Rattle.ssd_histories.specs.WeakDies.{dies_in}
use Rattle.ssd_histories.proofs.Histories.{lawful_before_last}
use Rattle.ssd_geo.specs.declared.base.ChannelBase.{ChannelBase}
use Rattle.ssd_geo.specs.declared.entry.Entry.{Entry}
use Rattle.ssd_geo.specs.declared.kind.Kind.{Kind}
use Rattle.ssd_geo.specs.declared.row.Row.{Row}
use Rattle.ssd_geo.specs.declared.slot.Slot.{Slot}
use Rattle.ssd_geo.specs.declared.tag.Tag.{Tag}
use Rattle.serial_laws.proofs.MadeRounds.{copies_are_made}
use Rattle.serial_output.specs.SameChoices.{ComesTo}
use Rattle.serial_output.proofs.NextEntries.{AreAlike, AreRivals, IsSameFailure, comes_before, comes_on, first_comes, none_weak_or_failed, rivals, same_failed, same_failure, steps_are_one, steps_come}
use Rattle.serial_output.proofs.RowsApart.{RowsApart}
use Rattle.serial_output.proofs.SameLooks.{copies_same, copy_is_list}
use Rattle.std.proofs.lemmas.Option.{same_Some}
use Rattle.shared_lemmas.proofs.Tests.{same_number}

-- a look of the victim's first live page
record IsFirstLook (base : ChannelBase) (past : List Entry) (kind : Kind) : Type 0 where
  row : ℕ
  slot : Slot
  serial : ℕ
  closed : Bool
  is : kind ≡ Kind.Look row (Row.Page slot serial) closed
  is_that : is_that_slot (first_live_of_victim base past) slot ≡ true

first_look : (base : ChannelBase) (past : List Entry) (kind : Kind) → is_first_live base past kind ≡ true →
    IsFirstLook base past kind
first_look base past (Kind.Look row (Row.Page slot serial) closed) e =
    record { row = row; slot = slot; serial = serial; closed = closed; is = refl; is_that = e }
first_look base past kind e = absurd (false≢true e)

-- two slots that are the one that there is
record IsOneSlot (slot other : Slot) : Type 0 where
  first : Slot
  is_slot_first : is_slot first slot ≡ true
  is_slot_other : is_slot first other ≡ true

one_slot : (option : Option Slot) (slot other : Slot) → is_that_slot option slot ≡ true → is_that_slot option other ≡ true →
    IsOneSlot slot other
one_slot None slot other e f = absurd (false≢true e)
one_slot (Some first) slot other e f = record { first = first; is_slot_first = e; is_slot_other = f }

range_on_the_way : (ladder : List Entry → ℕ → LadderState) (base : ChannelBase) (tag : Tag) (kind : Kind)
    (past now : List Entry) →
    IsLawfulBy ladder base now → ComesTo (entry_of tag kind ∷ past) now → is_in_range base.shape kind ≡ true
range_on_the_way ladder base tag kind past now law comes =
    (lawful_before_last ladder base comes.newer (entry_of tag kind ∷ past)
    (subst (IsLawfulBy ladder base) comes.is law)).1.in_range

-- both ended with the same past, and in the same way
pub record IsSameEnd (now then : List Entry) (end other_end : RoundEnd) : Type 0 where
  pub same_past : now ≡ then
  pub same_end : end ≡ other_end

pub record IsSameCopy (now then : List Entry) (ends ends_too fault fault_too : Bool) : Type 0 where
  pub same_past : now ≡ then
  pub same_ends : ends ≡ ends_too
  pub same_fault : fault ≡ fault_too

-- the erase of a superblock, done or failed, with how it ends a round
pub data IsErasing (sb : ℕ) : Kind → RoundEnd → Type 0 where
  was_erased : IsErasing sb (Kind.Erase sb) erased
  was_retired : (die : ℕ) → IsErasing sb (Kind.BadErase sb die false) retired
  was_faulted : (die : ℕ) → IsErasing sb (Kind.BadErase sb die true) faulted

record IsSameErase (kind other : Kind) (end other_end : RoundEnd) : Type 0 where
  same_kind : kind ≡ other
  same_end : end ≡ other_end

pub no_live : (base : ChannelBase) (past : List Entry) → victim_of base past ≡ None → live_of_victim base past ≡ 0
no_live base past none = rw (none, live_of_victim) refl

-- how a part of a round after its pick goes on, with what is known of what comes after a copy
pub data CopiesForm (ladder : List Entry → ℕ → LadderState) (base : ChannelBase) (tag : Tag) (before now final : List Entry)
    (end : RoundEnd) (Rest : List Entry → Type 0) : Type 0 where
  copied : (between : List Entry) → IsSerialCopy ladder base tag before between false false → ComesTo between final →
      Rest between → CopiesForm ladder base tag before now final end Rest
  ended : (fault : Bool) → IsSerialCopy ladder base tag before now true fault →
      end ≡ (elim fault [ true ↦ faulted | false ↦ left ]) → CopiesForm ladder base tag before now final end Rest
  erasing : (sb : ℕ) (kind : Kind) → victim_of base before ≡ Some sb → live_of_victim base before ≡ 0 →
      IsErasing sb kind end → now ≡ entry_of tag kind ∷ before → CopiesForm ladder base tag before now final end Rest
  idle : victim_of base before ≡ None → now ≡ before → end ≡ left → CopiesForm ladder base tag before now final end Rest

module _ (ladder : List Entry → ℕ → LadderState) (base : ChannelBase) (tag : Tag) where
  pub copies_come : {before now : List Entry} {end : RoundEnd} → SerialCopies ladder base tag before now end →
      ComesTo before now
  copies_come {before} {now} copies =
      let made = copies_are_made ladder base tag copies in
      steps_come tag before now _ made.are_steps

  pub form_of : (before now final : List Entry) (end : RoundEnd) → SerialCopies ladder base tag before now end →
      ComesTo now final →
      CopiesForm ladder base tag before now final end (λ between. SerialCopies ladder base tag between now end)
  form_of before now final end (goes_on {between = between} copy rest) comes =
      copied between copy (comes_on between now final (copies_come rest) comes) rest
  form_of before now final end (stays copy) comes = ended false copy refl
  form_of before now final end (copy_faults copy) comes = ended true copy refl
  form_of before now final end (erases {sb = sb} victim none) comes = erasing sb (Kind.Erase sb) victim none was_erased refl
  form_of before now final end (retires {sb = sb} {die = die} victim none) comes =
      erasing sb (Kind.BadErase sb die false) victim none (was_retired die) refl
  form_of before now final end (erase_faults {sb = sb} {die = die} victim none) comes =
      erasing sb (Kind.BadErase sb die true) victim none (was_faulted die) refl
  form_of before now final end (finds_none none) comes = idle none refl refl

  module _ (one other : List Entry) (both : AreAlike ladder base one other)
      (apart : (past : List Entry) → ComesTo past one → RowsApart base past) where
    -- the same look comes first, and so the same copy
    copies_one_row : (before now then : List Entry) (ends ends_too fault fault_too : Bool)
        (copy : IsSerialCopy ladder base tag before now ends fault)
        (next : IsSerialCopy ladder base tag before then ends_too fault_too) → ComesTo now one → ComesTo then other →
        now ≡ then
    copies_one_row before now then ends ends_too fault fault_too copy next comes goes =
        let look : CallStep = copy.is_copy.look in
        let seen : CallStep = next.is_copy.look in
        let list = copy.is_copy.is_copy.is_list in
        let other_list = next.is_copy.is_copy.is_list in
        let tail : List CallStep = list.senses ++ (copy.is_copy.is_copy.ending ∷ []) ++ copy.is_copy.is_copy.leave ∷ [] in
        let more : List CallStep =
        other_list.senses ++ (next.is_copy.is_copy.ending ∷ []) ++ next.is_copy.is_copy.leave ∷ [] in
        let made : AreStepsFrom tag before (look ∷ tail) now =
        subst (λ xs. AreStepsFrom tag before xs now) list.are_steps copy.are_steps in
        let too : AreStepsFrom tag before (seen ∷ more) then =
        subst (λ xs. AreStepsFrom tag before xs then) other_list.are_steps next.are_steps in
        let first : IsFirstLook base before look.entry.kind =
        first_look base before look.entry.kind
        (subst (λ (past : List Entry). is_first_live base past look.entry.kind ≡ true) made.0 copy.is_copy.is_first) in
        let second : IsFirstLook base before seen.entry.kind =
        first_look base before seen.entry.kind
        (subst (λ (past : List Entry). is_first_live base past seen.entry.kind ≡ true) too.0 next.is_copy.is_first) in
        let came : ComesTo (entry_of tag look.entry.kind ∷ before) one = first_comes tag before look tail now one made comes in
        let went : ComesTo (entry_of tag seen.entry.kind ∷ before) other =
        first_comes tag before seen more then other too goes in
        let meets : AreRivals (ladder before) base before tag look.entry.kind seen.entry.kind =
        rivals ladder base tag one other both before look.entry.kind seen.entry.kind came went in
        let law = subst (IsLawfulKind (ladder before) base before tag) first.is meets.first_meets in
        let law_too = subst (IsLawfulKind (ladder before) base before tag) second.is meets.second_meets in
        let range : is_in_range base.shape (Kind.Look first.row (Row.Page first.slot first.serial) first.closed) ≡ true =
        subst (λ (kind : Kind). is_in_range base.shape kind ≡ true) first.is
        (range_on_the_way ladder base tag look.entry.kind before one both.law came) in
        let range_too : is_in_range base.shape (Kind.Look second.row (Row.Page second.slot second.serial) second.closed)
        ≡ true =
        subst (λ (kind : Kind). is_in_range base.shape kind ≡ true) second.is
        (range_on_the_way ladder base tag seen.entry.kind before other both.too went) in
        let slot : IsOneSlot first.slot second.slot =
        one_slot (first_live_of_victim base before) first.slot second.slot first.is_that second.is_that in
        let rows : second.row ≡ first.row =
        sym (apart before (comes_before (entry_of tag look.entry.kind) before one came) slot.first first.row second.row
        (ltb-true first.row base.shape.rows
        (and_parts (nat_lt first.row base.shape.rows) (has_row base.shape (Row.Page first.slot first.serial)) range).0)
        (ltb-true second.row base.shape.rows
        (and_parts (nat_lt second.row base.shape.rows) (has_row base.shape (Row.Page second.slot second.serial)) range_too).0)
        (subst (λ (row : Row). names_slot slot.first row ≡ true) law.is_found slot.is_slot_first)
        (subst (λ (row : Row). names_slot slot.first row ≡ true) law_too.is_found slot.is_slot_other)) in
        let at_row : is_look_at_row first.row look.entry.kind ≡ true =
        subst (λ (kind : Kind). is_look_at_row first.row kind ≡ true) (sym first.is) (same_number first.row) in
        let at_row_too : is_look_at_row first.row seen.entry.kind ≡ true =
        subst (λ (row : ℕ). is_look_at_row row seen.entry.kind ≡ true) rows
        (subst (λ (kind : Kind). is_look_at_row second.row kind ≡ true) (sym second.is) (same_number second.row)) in
        copies_same ladder base tag one other both before now then copy.steps next.steps copy.are_steps next.are_steps comes
        goes first.row (copy_is_list ladder base tag first.row copy.steps look at_row copy.is_copy.is_copy)
        (copy_is_list ladder base tag first.row next.steps seen at_row_too next.is_copy.is_copy)

    pub copy_once : (before now then : List Entry) (ends ends_too fault fault_too : Bool)
        (copy : IsSerialCopy ladder base tag before now ends fault)
        (next : IsSerialCopy ladder base tag before then ends_too fault_too) → ComesTo now one → ComesTo then other →
        IsSameCopy now then ends ends_too fault fault_too
    copy_once before now then ends ends_too fault fault_too copy next comes goes =
        let same : now ≡ then = copies_one_row before now then ends ends_too fault fault_too copy next comes goes in
        let steps : copy.steps ≡ next.steps =
        steps_are_one tag before then copy.steps next.steps
        (subst (λ (past : List Entry). AreStepsFrom tag before copy.steps past) same copy.are_steps) next.are_steps in
        record {
          same_past = same;
          same_ends = sym copy.ends_is ∙ ap ends_round steps ∙ next.ends_is;
          same_fault = sym copy.fault_is ∙ ap has_fault steps ∙ next.fault_is;
        }

    erase_once : (past : List Entry) (sb : ℕ) (kind next : Kind) (end other_end : RoundEnd) → IsErasing sb kind end →
        IsErasing sb next other_end → AreRivals (ladder past) base past tag kind next → IsSameErase kind next end other_end
    erase_once past sb kind next end other_end was_erased was_erased meets = record { same_kind = refl; same_end = refl }
    erase_once past sb kind next end other_end was_erased (was_retired die) meets =
        absurd (none_weak_or_failed base past sb (dies_in base) die meets.first_meets.none_weak meets.second_meets.may_fail)
    erase_once past sb kind next end other_end was_erased (was_faulted die) meets =
        let told : None ≡ Some die = same_failed (Kind.Erase sb) (Kind.BadErase sb die true) meets.same_choice in absurd (cc)
    erase_once past sb kind next end other_end (was_retired die) was_erased meets =
        absurd (none_weak_or_failed base past sb (dies_in base) die meets.second_meets.none_weak meets.first_meets.may_fail)
    erase_once past sb kind next end other_end (was_retired die) (was_retired failed) meets =
        let same : IsSameFailure die failed false false =
        same_failure base past sb (dies_in base) die failed false false refl meets.first_meets.may_fail
        meets.second_meets.may_fail in
        record { same_kind = ap (λ (d : ℕ). Kind.BadErase sb d false) same.same_die; same_end = refl }
    erase_once past sb kind next end other_end (was_retired die) (was_faulted failed) meets =
        let told : None ≡ Some failed =
        same_failed (Kind.BadErase sb die false) (Kind.BadErase sb failed true) meets.same_choice in absurd (cc)
    erase_once past sb kind next end other_end (was_faulted die) was_erased meets =
        let told : Some die ≡ None = same_failed (Kind.BadErase sb die true) (Kind.Erase sb) meets.same_choice in absurd (cc)
    erase_once past sb kind next end other_end (was_faulted die) (was_retired failed) meets =
        let told : Some die ≡ None =
        same_failed (Kind.BadErase sb die true) (Kind.BadErase sb failed false) meets.same_choice in absurd (cc)
    erase_once past sb kind next end other_end (was_faulted die) (was_faulted failed) meets =
        let same : die ≡ failed =
        same_Some die failed (same_failed (Kind.BadErase sb die true) (Kind.BadErase sb failed true) meets.same_choice) in
        record { same_kind = ap (λ (d : ℕ). Kind.BadErase sb d true) same; same_end = refl }

    -- the copies of two rounds, form by form; what comes after a first copy is handed in
    module _ (before now then : List Entry) (end other_end : RoundEnd) (comes : ComesTo now one)
        (goes : ComesTo then other) where
      abbrev Later : List Entry → Type 0
      Later between =
          (after : List Entry) (last : RoundEnd) → SerialCopies ladder base tag between after last → ComesTo after other →
          IsSameEnd now after end last

      abbrev First : Type 0
      First = CopiesForm ladder base tag before now one end Later

      abbrev Second : Type 0
      Second =
          CopiesForm ladder base tag before then other other_end
          (λ between. SerialCopies ladder base tag between then other_end)

      erasings_same : (sb named : ℕ) (kind next : Kind) → victim_of base before ≡ Some sb → victim_of base before ≡ Some named →
          IsErasing sb kind end → IsErasing named next other_end → now ≡ entry_of tag kind ∷ before →
          then ≡ entry_of tag next ∷ before → IsSameEnd now then end other_end
      erasings_same sb named kind next victim victim_too was was_too is is_too =
          let blocks : named ≡ sb = same_Some named sb (sym victim_too ∙ victim) in
          let meets : AreRivals (ladder before) base before tag kind next =
          rivals ladder base tag one other both before kind next (subst (λ xs. ComesTo xs one) is comes)
          (subst (λ xs. ComesTo xs other) is_too goes) in
          let same : IsSameErase kind next end other_end =
          erase_once before sb kind next end other_end was
          (subst (λ (n : ℕ). IsErasing n next other_end) blocks was_too) meets in
          record {
            same_past = is ∙ ap (λ (k : Kind). entry_of tag k ∷ before) same.same_kind ∙ sym is_too;
            same_end = same.same_end;
          }

      forms_same : First → Second → IsSameEnd now then end other_end
      forms_same (copied between copy came later) (copied between_too next went rest) =
          let same : between_too ≡ between =
          sym (copy_once before between between_too false false false false copy next came went).same_past in
          later then other_end (subst (λ (past : List Entry). SerialCopies ladder base tag past then other_end) same rest) goes
      forms_same (copied between copy came later) (ended fault next is) =
          absurd (false≢true (copy_once before between then false true false fault copy next came goes).same_ends)
      forms_same (copied between copy came later) (erasing sb kind victim none was is) =
          let live = copy.has_live in absurd (omega (arith, live, none))
      forms_same (copied between copy came later) (idle none is end_is) =
          let live = copy.has_live in let zero_live = no_live base before none in absurd (omega (arith, live, zero_live))
      forms_same (ended fault copy is) (copied between_too next went rest) =
          absurd (false≢true (sym (copy_once before now between_too true false fault false copy next comes went).same_ends))
      forms_same (ended fault copy is) (ended fault_too next is_too) =
          let same : IsSameCopy now then true true fault fault_too =
          copy_once before now then true true fault fault_too copy next comes goes in
          record {
            same_past = same.same_past;
            same_end =
                is ∙ ap (λ (b : Bool). elim b as (λ x. RoundEnd) [ true ↦ faulted | false ↦ left ]) same.same_fault
                ∙ sym is_too;
          }
      forms_same (ended fault copy is) (erasing sb kind victim none was is_too) =
          let live = copy.has_live in absurd (omega (arith, live, none))
      forms_same (ended fault copy is) (idle none is_too end_is) =
          let live = copy.has_live in let zero_live = no_live base before none in absurd (omega (arith, live, zero_live))
      forms_same (erasing sb kind victim none was is) (copied between_too next went rest) =
          let live = next.has_live in absurd (omega (arith, live, none))
      forms_same (erasing sb kind victim none was is) (ended fault next is_too) =
          let live = next.has_live in absurd (omega (arith, live, none))
      forms_same (erasing sb kind victim none was is) (erasing named next victim_too none_too was_too is_too) =
          erasings_same sb named kind next victim victim_too was was_too is is_too
      forms_same (erasing sb kind victim none was is) (idle nobody is_too end_is) = absurd (cc (victim, nobody))
      forms_same (idle none is end_is) (copied between_too next went rest) =
          let live = next.has_live in let zero_live = no_live base before none in absurd (omega (arith, live, zero_live))
      forms_same (idle none is end_is) (ended fault next is_too) =
          let live = next.has_live in let zero_live = no_live base before none in absurd (omega (arith, live, zero_live))
      forms_same (idle none is end_is) (erasing sb kind victim no_page was is_too) = absurd (cc (victim, none))
      forms_same (idle none is end_is) (idle none_too is_too end_is_too) =
          record { same_past = is ∙ sym is_too; same_end = end_is ∙ sym end_is_too }

    pub copies_once : {before now : List Entry} {end : RoundEnd} → SerialCopies ladder base tag before now end →
        (then : List Entry) (other_end : RoundEnd) → SerialCopies ladder base tag before then other_end → ComesTo now one →
        ComesTo then other → IsSameEnd now then end other_end
    copies_once {before} {now} {end} (goes_on {between = between} copy rest) then other_end second comes goes =
        forms_same before now then end other_end comes goes
        (copied between copy (comes_on between now one (copies_come rest) comes)
        (λ after last more went. copies_once rest after last more comes went))
        (form_of before then other other_end second goes)
    copies_once {before} {now} {end} (stays copy) then other_end second comes goes =
        forms_same before now then end other_end comes goes (ended false copy refl)
        (form_of before then other other_end second goes)
    copies_once {before} {now} {end} (copy_faults copy) then other_end second comes goes =
        forms_same before now then end other_end comes goes (ended true copy refl)
        (form_of before then other other_end second goes)
    copies_once {before} {now} {end} (erases {sb = sb} victim none) then other_end second comes goes =
        forms_same before now then end other_end comes goes (erasing sb (Kind.Erase sb) victim none was_erased refl)
        (form_of before then other other_end second goes)
    copies_once {before} {now} {end} (retires {sb = sb} {die = die} victim none) then other_end second comes goes =
        forms_same before now then end other_end comes goes
        (erasing sb (Kind.BadErase sb die false) victim none (was_retired die) refl)
        (form_of before then other other_end second goes)
    copies_once {before} {now} {end} (erase_faults {sb = sb} {die = die} victim none) then other_end second comes goes =
        forms_same before now then end other_end comes goes
        (erasing sb (Kind.BadErase sb die true) victim none (was_faulted die) refl)
        (form_of before then other other_end second goes)
    copies_once {before} {now} {end} (finds_none none) then other_end second comes goes =
        forms_same before now then end other_end comes goes (idle none refl refl)
        (form_of before then other other_end second goes)

    -- two rounds pick the same superblock, or both take the victim that there is
    pub rounds_once : {before now then : List Entry} {end other_end : RoundEnd} → SerialRound ladder base tag before now end →
        SerialRound ladder base tag before then other_end → ComesTo now one → ComesTo then other →
        IsSameEnd now then end other_end
    rounds_once {before} {now} {then} {end} {other_end} (picks {sb = sb} may copies)
        (picks {sb = named} might more) comes goes =
        let came = comes_on (entry_of tag (Kind.Pick sb) ∷ before) now one (copies_come copies) comes in
        let went = comes_on (entry_of tag (Kind.Pick named) ∷ before) then other (copies_come more) goes in
        let meets : AreRivals (ladder before) base before tag (Kind.Pick sb) (Kind.Pick named) =
        rivals ladder base tag one other both before (Kind.Pick sb) (Kind.Pick named) came went in
        let blocks : named ≡ sb = sym (meets.same_choice.same_pick sb named refl refl) in
        copies_once copies then other_end
        (subst (λ (n : ℕ). SerialCopies ladder base tag (entry_of tag (Kind.Pick n) ∷ before) then other_end) blocks more)
        comes goes
    rounds_once {before} (picks may copies) (takes may_not more) comes goes = absurd (false≢true (sym may_not ∙ may))
    rounds_once {before} (takes may_not copies) (picks may more) comes goes = absurd (false≢true (sym may_not ∙ may))
    rounds_once {before} {now} {then} {end} {other_end} (takes may_not copies) (takes may_not_too more) comes goes =
        copies_once copies then other_end more comes goes

  pub round_comes : {before now : List Entry} {end : RoundEnd} → SerialRound ladder base tag before now end → ComesTo before now
  round_comes {before} {now} (picks {sb = sb} may copies) =
      comes_before (entry_of tag (Kind.Pick sb)) before now (copies_come copies)
  round_comes {before} {now} (takes may_not copies) = copies_come copies
