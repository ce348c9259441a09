-- What the steps of a call leave of what a row holds by writes and trims: those of a write and of a trim change the call's own row,
-- and no others do.
use Rattle.std.proofs.Common.{◌≡◌, ℕ, ◌/◌, ◌%◌, ◌*◌, ◌+◌, ◌==◌, Bool, true, false, List, [], ◌∷◌, ◌++◌, refl, sym, ap, subst, ◌∙◌, inl, inr, All, eqb-true, eq-eqb}
use Rattle.std.specs.Prelude.{flat_map, ⊤}
use Rattle.std.specs.List.{list_all}
use Rattle.std.proofs.lemmas.Bool.{and_parts, false≢true, true≢false, false_from_ne_true}
use Rattle.std.proofs.lemmas.List.Elements.{All-head, All-tail}
use Rattle.std.proofs.lemmas.Nat.{div-add-mod'}
use Rattle.ssd_formats.specs.TraceText.{content_bytes}
use Rattle.ssd_geo.specs.Ladder.{LadderState}
use Rattle.ssd_geo.specs.declared.base.ChannelBase.{ChannelBase}
use Rattle.ssd_geo.specs.declared.entry.Entry.{Entry}
use Rattle.ssd_geo.specs.declared.kind.Kind.{Kind}
use Rattle.ssd_geo.specs.declared.slot.Slot.{Slot}
use Rattle.ssd_geo.specs.declared.tag.Tag.{Tag}
use Rattle.ssd_geo.specs.declared.trace.Content.{Content}
use Rattle.ssd_geo.specs.declared.trace.Verb.{Verb}
use Rattle.ssd_histories.specs.CallSteps.{CallStep, is_erase_or_bad_erase, is_leave_of, is_look_of_none, is_look_of_page, is_pick, is_sense_of, steps_of}
use Rattle.ssd_histories.specs.CallsInOrder.{AreStepsOf, OnOwnChannel, is_age_of, is_trim_of}
use Rattle.ssd_histories.specs.History.{is_same_tag}
use Rattle.ssd_histories.specs.Lawful.{is_fault_sense_of}
use Rattle.ssd_histories.specs.PlainMap.{PlainRow, bytes, nothing, plain_after, plain_of}
use Rattle.ssd_histories.specs.Rounds.{IsWrite, IsWriteEnd, IsWritePart, has_fault, is_failed_write, is_idle_note, is_note, is_one, is_write_end}
use Rattle.ssd_histories.specs.Start.{data_of}
use Rattle.serial_laws.proofs.LookLists.{is_end_kind}
use Rattle.serial_laws.proofs.MadeSteps.{IsGrownPast, one_more}
use Rattle.complete_runs.specs.TraceAnswers.{held_after}
use Rattle.complete_runs.proofs.KindsOfCalls.{HasKinds, collect_has, one_has, own_has, part_has, parts_has, read_has, refresh_has, refreshes_has}
use Rattle.complete_runs.proofs.ReadAnswers.{all_behind}
use Rattle.complete_runs.proofs.TakenWrites.{IsTaken}
use Rattle.ssd_histories.proofs.SameTags.{one_tag}

-- what a row holds after some steps of a call, in order
abbrev pub plain_by : List (Tag × List ℕ) → Tag → ℕ → PlainRow → List CallStep → PlainRow
plain_by contents tag row held [] = held
plain_by contents tag row held (step ∷ steps) =
    plain_by contents tag row (plain_after contents tag step.entry.kind row held) steps

module _ (contents : List (Tag × List ℕ)) (tag : Tag) (row : ℕ) where
  plain_joined : (xs ys : List CallStep) (held : PlainRow) →
      plain_by contents tag row held (xs ++ ys) ≡ plain_by contents tag row (plain_by contents tag row held xs) ys
  plain_joined [] ys held = refl
  plain_joined (step ∷ xs) ys held = plain_joined xs ys (plain_after contents tag step.entry.kind row held)

  -- a past to which a call added its entries
  plain_made : (base : ChannelBase) (made before : List Entry) → list_all (λ entry. is_same_tag tag entry.tag) made ≡ true →
      steps_of tag before ≡ [] →
      plain_of base contents (made ++ before) row
      ≡ plain_by contents tag row (plain_of base contents before row) (steps_of tag (made ++ before))
  plain_made base [] before own none =
      ap (λ (steps : List CallStep). plain_by contents tag row (plain_of base contents before row) steps) (sym none)
  plain_made base (entry ∷ made) before own none =
      let parts = and_parts (is_same_tag tag entry.tag) (list_all (λ (other : Entry). is_same_tag tag other.tag) made) own in
      ap {B = PlainRow} (λ (t : Tag). plain_after contents t entry.kind row (plain_of base contents (made ++ before) row))
      (sym (one_tag tag entry.tag parts.0))
      ∙ ap {B = PlainRow} (plain_after contents tag entry.kind row) (plain_made base made before parts.1 none)
      ∙ sym
      (ap (λ (steps : List CallStep). plain_by contents tag row (plain_of base contents before row) steps)
      (one_more tag entry (made ++ before) parts.0)
      ∙ plain_joined (steps_of tag (made ++ before)) (record { past = made ++ before; entry = entry } ∷ [])
      (plain_of base contents before row))

  pub plain_grown : (base : ChannelBase) (before after : List Entry) → IsGrownPast tag before after → steps_of tag before ≡ [] →
      plain_of base contents after row ≡ plain_by contents tag row (plain_of base contents before row) (steps_of tag after)
  plain_grown base before after grown none =
      subst (λ (past : List Entry). plain_of base contents past row ≡ plain_by contents tag row (plain_of base contents before row) (steps_of tag past))
      (sym grown.after_is) (plain_made base grown.made before grown.own none)

-- a kind that neither writes nor trims
abbrev Keeps : Kind → Type 0
Keeps (Kind.Write row slot) = ⊥
Keeps (Kind.Trim row) = ⊥
Keeps kind = ⊤

passes : (test : Kind → Bool) → ((row : ℕ) (slot : Slot) → test (Kind.Write row slot) ≡ false) → ((row : ℕ) → test (Kind.Trim row) ≡ false) →
    (kind : Kind) → test kind ≡ true → Keeps kind
passes test writes trims (Kind.Write row slot) is = false≢true (sym (writes row slot) ∙ is)
passes test writes trims (Kind.Trim row) is = false≢true (sym (trims row) ∙ is)
passes test writes trims kind is = tt

keeping_kinds : HasKinds Keeps
keeping_kinds = record {
  look_of_page = passes is_look_of_page (λ row slot. refl) (λ row. refl);
  look_of_none = passes is_look_of_none (λ row slot. refl) (λ row. refl);
  sense = λ at. passes (is_sense_of at) (λ row slot. refl) (λ row. refl);
  fault_sense = λ at. passes (is_fault_sense_of at) (λ row slot. refl) (λ row. refl);
  leave = λ at. passes (is_leave_of at) (λ row slot. refl) (λ row. refl);
  ending = passes is_end_kind (λ row slot. refl) (λ row. refl);
  pick = passes is_pick (λ row slot. refl) (λ row. refl);
  erase = passes is_erase_or_bad_erase (λ row slot. refl) (λ row. refl);
  note = passes is_note (λ row slot. refl) (λ row. refl);
  idle_note = passes is_idle_note (λ row slot. refl) (λ row. refl);
  failed_write = λ named. passes (is_failed_write named) (λ row slot. refl) (λ row. refl);
}

abbrev KeepsRow : CallStep → Type 0
KeepsRow step = Keeps step.entry.kind

kind_keeps : (contents : List (Tag × List ℕ)) (tag : Tag) (kind : Kind) (row : ℕ) (held : PlainRow) → Keeps kind →
    plain_after contents tag kind row held ≡ held
kind_keeps contents tag (Kind.Write named slot) row held keeps = absurd keeps
kind_keeps contents tag (Kind.Trim named) row held keeps = absurd keeps
kind_keeps contents tag kind row held keeps = refl

module _ (contents : List (Tag × List ℕ)) (tag : Tag) where
  steps_keep : (row : ℕ) (steps : List CallStep) (held : PlainRow) → All KeepsRow steps → plain_by contents tag row held steps ≡ held
  steps_keep row [] held all = refl
  steps_keep row (step ∷ steps) held all =
      steps_keep row steps (plain_after contents tag step.entry.kind row held) (All-tail KeepsRow step steps all)
      ∙ kind_keeps contents tag step.entry.kind row held (All-head KeepsRow step steps all)

  -- the last step of a write that was done
  end_writes : (own row : ℕ) (kind : Kind) (held : PlainRow) → IsTaken kind → is_write_end own kind ≡ true →
      plain_after contents tag kind row held ≡ elim (own == row) [ true ↦ bytes (data_of contents tag) | false ↦ held ]
  end_writes own row (Kind.Write named slot) held taken is =
      ap {B = PlainRow} (λ (n : ℕ). elim (n == row) [ true ↦ bytes (data_of contents tag) | false ↦ held ]) (eqb-true named own is)
  end_writes own row (Kind.Refused named worn) held taken is = absurd (taken.not_refused tt)
  end_writes own row (Kind.BadWrite named slot die fault) held taken is =
      absurd (true≢false (sym (and_parts fault (named == own) is).0 ∙ taken.calm))
  end_writes own row kind held taken is = absurd (false≢true is)

  one_writes : (own row : ℕ) (steps : List CallStep) (held : PlainRow) → All (λ step. IsTaken step.entry.kind) steps →
      is_one (is_write_end own) steps ≡ true →
      plain_by contents tag row held steps ≡ elim (own == row) [ true ↦ bytes (data_of contents tag) | false ↦ held ]
  one_writes own row [] held taken is = absurd (false≢true is)
  one_writes own row (step ∷ []) held taken is =
      end_writes own row step.entry.kind held (All-head (λ (other : CallStep). IsTaken other.entry.kind) step [] taken) is
  one_writes own row (step ∷ next ∷ steps) held taken is = absurd (false≢true is)

  no_fault_in : (steps : List CallStep) → All (λ step. IsTaken step.entry.kind) steps → has_fault steps ≡ false
  no_fault_in [] taken = refl
  no_fault_in (step ∷ steps) taken =
      rw (All-head (λ (other : CallStep). IsTaken other.entry.kind) step steps taken).calm
      (no_fault_in steps (All-tail (λ (other : CallStep). IsTaken other.entry.kind) step steps taken))

  module _ (ladder : List Entry → ℕ → LadderState) (base : ChannelBase) where
    write_writes : (own row : ℕ) (steps : List CallStep) (held : PlainRow) → All (λ step. IsTaken step.entry.kind) steps →
        IsWrite ladder base own steps →
        plain_by contents tag row held steps ≡ elim (own == row) [ true ↦ bytes (data_of contents tag) | false ↦ held ]
    write_writes own row steps held taken write =
        ap (λ (list : List CallStep). plain_by contents tag row held list) write.are_steps
        ∙ plain_joined contents tag row (flat_map (λ part. part) write.parts) write.last held
        ∙ ap (λ (given : PlainRow). plain_by contents tag row given write.last)
        (steps_keep row (flat_map (λ part. part) write.parts) held
        (parts_has Keeps keeping_kinds (IsWritePart ladder base own) (part_has Keeps keeping_kinds ladder base own) write.parts write.are_parts))
        ∙ last_writes write.last write.ends
        (all_behind (λ (step : CallStep). IsTaken step.entry.kind) (flat_map (λ part. part) write.parts) write.last
        (subst (λ (list : List CallStep). All (λ step. IsTaken step.entry.kind) list) write.are_steps taken))
      where
        last_writes : (last : List CallStep) → IsWriteEnd ladder base own last → All (λ step. IsTaken step.entry.kind) last →
            plain_by contents tag row held last ≡ elim (own == row) [ true ↦ bytes (data_of contents tag) | false ↦ held ]
        last_writes last (inl ended) taken_last = one_writes own row last held taken_last ended
        last_writes last (inr round) taken_last = absurd (false≢true (sym (no_fault_in last taken_last) ∙ round.fault))

    one_trims : (own row : ℕ) (steps : List CallStep) (held : PlainRow) → is_one (is_trim_of own) steps ≡ true →
        plain_by contents tag row held steps ≡ elim (own == row) [ true ↦ nothing | false ↦ held ]
    one_trims own row [] held is = absurd (false≢true is)
    one_trims own row (step ∷ []) held is = by_kind step.entry.kind is
      where
        by_kind : (kind : Kind) → is_trim_of own kind ≡ true →
            plain_after contents tag kind row held ≡ elim (own == row) [ true ↦ nothing | false ↦ held ]
        by_kind (Kind.Trim named) e =
            ap {B = PlainRow} (λ (n : ℕ). elim (n == row) [ true ↦ nothing | false ↦ held ]) (eqb-true named own e)
        by_kind kind e = absurd (false≢true e)
    one_trims own row (step ∷ next ∷ steps) held is = absurd (false≢true is)

-- two pages of one channel are one just where their rows are
same_page : (channels named page : ℕ) → named % channels ≡ page % channels → (named / channels == page / channels) ≡ (named == page)
same_page channels named page same = by_rows (named / channels == page / channels) refl
  where
    by_rows : (b : Bool) → (named / channels == page / channels) ≡ b → b ≡ (named == page)
    by_rows true rows =
        let row : named / channels ≡ page / channels = eqb-true (named / channels) (page / channels) rows in
        let one : named ≡ page =
        sym (div-add-mod' named channels)
        ∙ (λ i. row i * channels + same i)
        ∙ div-add-mod' page channels in
        sym (eq-eqb named page one)
    by_rows false rows = sym (false_from_ne_true (named == page) (λ one. false≢true (sym rows ∙ same_rows one)))
      where
        same_rows : (named == page) ≡ true → (named / channels == page / channels) ≡ true
        same_rows one = eq-eqb (named / channels) (page / channels) (ap (λ (n : ℕ). n / channels) (eqb-true named page one))

other_page : (channels named page : ℕ) → (named % channels == page % channels) ≡ false → (named == page) ≡ false
other_page channels named page differs =
    false_from_ne_true (named == page) (λ one. false≢true (sym differs
    ∙ eq-eqb (named % channels) (page % channels) (ap (λ (n : ℕ). n % channels) (eqb-true named page one))))

-- on the channel of a page, the steps of a call leave of its row what the call leaves of the page
module _ (contents : List (Tag × List ℕ)) (tag : Tag) (count : ℕ) (ladder : List Entry → ℕ → LadderState) (base : ChannelBase)
    (channels page : ℕ) (steps : List CallStep) (held : PlainRow) where
  abbrev After : PlainRow → Type 0
  After plain = plain_by contents tag (page / channels) held steps ≡ plain

  keeps_page : All KeepsRow steps → After held
  keeps_page all = steps_keep contents tag (page / channels) steps held all

  -- a call that changes its own page to some value
  own_page : (named : ℕ) (to : PlainRow) (Fact : Type 0) →
      (Fact → After (elim (named / channels == page / channels) [ true ↦ to | false ↦ held ])) →
      OnOwnChannel (named % channels == page % channels) Fact steps → After (elim (named == page) [ true ↦ to | false ↦ held ])
  own_page named to Fact changes fact = by_channel (named % channels == page % channels) refl fact
    where
      by_channel : (b : Bool) → (named % channels == page % channels) ≡ b → OnOwnChannel b Fact steps →
          After (elim (named == page) [ true ↦ to | false ↦ held ])
      by_channel true same own =
          changes own
          ∙ ap {B = PlainRow} (λ (b : Bool). elim b [ true ↦ to | false ↦ held ])
          (same_page channels named page (eqb-true (named % channels) (page % channels) same))
      by_channel false same none =
          ap (λ (list : List CallStep). plain_by contents tag (page / channels) held list) none
          ∙ ap {B = PlainRow} (λ (b : Bool). elim b [ true ↦ to | false ↦ held ]) (sym (other_page channels named page same))

  pub call_leaves : (verb : Verb) → AreStepsOf ladder base channels (page % channels) verb steps →
      All (λ step. IsTaken step.entry.kind) steps →
      ((named : ℕ) (content : Content) → verb ≡ Verb.Write named content → data_of contents tag ≡ content_bytes count content) →
      After (held_after count page held verb)
  call_leaves (Verb.Write named content) are taken gives =
      own_page named (bytes (content_bytes count content)) (IsWrite ladder base (named / channels) steps)
      (λ write.
      write_writes contents tag ladder base (named / channels) (page / channels) steps held taken write
      ∙ ap {B = PlainRow} (λ (data_bytes : List ℕ). elim (named / channels == page / channels) [ true ↦ bytes data_bytes | false ↦ held ])
      (gives named content refl)) are
  call_leaves (Verb.Trim named) are taken gives =
      own_page named nothing (is_one (is_trim_of (named / channels)) steps ≡ true)
      (λ trims. one_trims contents tag ladder base (named / channels) (page / channels) steps held trims) are
  call_leaves (Verb.Read named) are taken gives =
      keeps_page (own_has Keeps keeping_kinds ladder base _ _ steps (read_has Keeps keeping_kinds ladder _ steps) are)
  call_leaves (Verb.Refresh named) are taken gives =
      keeps_page (own_has Keeps keeping_kinds ladder base _ _ steps (refresh_has Keeps keeping_kinds ladder _ steps) are)
  call_leaves (Verb.Collect named) are taken gives =
      keeps_page (own_has Keeps keeping_kinds ladder base _ _ steps (collect_has Keeps keeping_kinds ladder base steps) are)
  call_leaves (Verb.Drain hints) are taken gives = keeps_page (refreshes_has Keeps keeping_kinds ladder steps are)
  call_leaves (Verb.Age named die sb amount) are taken gives =
      keeps_page
      (own_has Keeps keeping_kinds ladder base _ _ steps
      (one_has Keeps keeping_kinds (is_age_of die sb amount) (passes (is_age_of die sb amount) (λ row slot. refl) (λ row. refl)) steps) are)
