-- A look that was just made is open and has no senses: each sense of a lawful past names an open
-- look, which began before.
use Rattle.std.proofs.Common.{◌≡◌, ℕ, ◌+◌, ◌≤◌, ◌==◌, cond, Bool, true, false, List, [], ◌∷◌, ◌++◌, length, Option, Some, None, refl, sym, ap, subst, ◌∙◌, zero-add, arith}
use Rattle.std.specs.Prelude.{IsFalse, IsSomeAnd}
use Rattle.std.proofs.lemmas.Bool.Decides.{nat_tests}
use Rattle.std.proofs.lemmas.List.Sums.{sum_by-cons}
use Rattle.chan_tables.proofs.EarlierLooks.{found_new, none_later}
use Rattle.chan_tables.specs.TablesState.{ends_recovered, ends_uncorrectable, senses_had}
use Rattle.ssd_histories.specs.ServedCalls.{after_look}
use Rattle.ssd_histories.specs.CallSteps.{is_sense_of}
use Rattle.ssd_histories.specs.History.{look_by, look_of, open_looks}
use Rattle.ssd_geo.specs.Ladder.{LadderState}
use Rattle.ssd_histories.specs.Copies.{is_after_recovered, is_after_uncorrectable}
use Rattle.ssd_histories.specs.Lawful.{IsLawfulBadCopy, IsLawfulBy, IsLawfulChanged, IsLawfulCondemn, IsLawfulKind, IsLawfulMove, IsLawfulSense, IsLawfulStay, has_fault_sense, is_fault_sense_of}
use Rattle.ssd_histories.specs.OpenLooks.{look_at}
use Rattle.ssd_histories.specs.SerialCalls.{entry_of}
use Rattle.ssd_geo.specs.declared.base.ChannelBase.{ChannelBase}
use Rattle.ssd_geo.specs.declared.entry.Entry.{Entry}
use Rattle.ssd_geo.specs.declared.kind.Kind.{Kind}
use Rattle.ssd_geo.specs.declared.look.Look.{Look}
use Rattle.ssd_geo.specs.declared.row.Row.{Row}
use Rattle.ssd_geo.specs.declared.tag.Tag.{Tag}
use Rattle.chan_calls.specs.Caller.{CallerView, IsOf, own_look}
use Rattle.chan_calls.specs.Copied.{IsFresh}
use Rattle.chan_calls.specs.Stepping.{MakesLook}
use Rattle.chan_tables.specs.declared.answers.LookAnswer.TheVariants.{Found}
use Rattle.ssd_geo.specs.Coding.{coding_of}
use Rattle.ssd_histories.specs.Lawful.{IsLawful}
use Rattle.ssd_histories.specs.PastPages.{ladder_of}
use Rattle.ssd_histories.specs.Start.{Start}

-- a look that found a page is open
pub new_is_own : (past : List Entry) (tag : Tag) (row : ℕ) (look : Look) → look.at ≡ length past →
    look.row ≡ row →
    own_look tag (after_look tag row look.slot look.serial look.closed past) look.at ≡ Some look
new_is_own past tag row look at_is row_is =
    let made : ℕ → ℕ → Look = λ at row. record {
      at = at;
      row = row;
      slot = look.slot;
      serial =
          look.serial;
      closed = look.closed;
    } in
    ap (λ (n : ℕ). look_by tag (look_at (open_looks past ++ (tag, made n row) ∷ []) look.at))
    (sym at_is)
    ∙ ap (λ (n : ℕ). look_by tag (look_at (open_looks past ++ (tag, made look.at n) ∷ []) look.at))
    (sym row_is)
    ∙ found_new (open_looks past) tag look (none_later past look.at (omega arith))

-- and is the look at its position
same : (a b : ℕ) → b ≡ a → (a == b) ≡ true
same a b h = grind (arith, nat_tests)

pub new_is_look : (past : List Entry) (tag : Tag) (row : ℕ) (look : Look) → look.at ≡ length past →
    look.row ≡ row →
    look_of (after_look tag row look.slot look.serial look.closed past) look.at ≡ Some look
new_is_look past tag row look at_is row_is =
    let made : ℕ → ℕ → Look = λ at row. record {
      at = at;
      row = row;
      slot = look.slot;
      serial =
          look.serial;
      closed = look.closed;
    } in
    ap (λ (b : Bool). elim b [ true ↦ Some (made look.at row) | false ↦ look_of past look.at ])
    (same (length past) look.at at_is)
    ∙ ap (λ (n : ℕ). Some (made look.at n)) (sym row_is)

-- no look is found where none is open
not_found : (tag : Tag) (found : Option (Tag × Look)) (P : Look → Type 0) → found ≡ None →
    IsSomeAnd (look_by tag found) P → ⊥
not_found tag found P e h = rw e at h

-- a sense of a lawful past, and a failed one, is of a look that began before
no_sense : (state : ℕ → LadderState) (base : ChannelBase) (past : List Entry) (tag : Tag)
    (kind : Kind) (at : ℕ) → length past ≤ at → IsLawfulKind state base past tag kind →
    is_sense_of at kind ≡ false
no_sense state base past tag (Kind.Sense named place level) at le lawful =
    by_test (named == at) refl
  where
    by_test : (b : Bool) → (named == at) ≡ b → b ≡ false
    by_test true e =
        absurd (not_found tag (look_at (open_looks past) named)
        (λ look. IsLawfulSense (state named) past named place level)
        (none_later past named (grind (arith, nat_tests))) lawful)
    by_test false e = refl
no_sense state base past tag kind at le lawful = refl

no_fault : (state : ℕ → LadderState) (base : ChannelBase) (past : List Entry) (tag : Tag)
    (kind : Kind) (at : ℕ) → length past ≤ at → IsLawfulKind state base past tag kind →
    is_fault_sense_of at kind ≡ false
no_fault state base past tag (Kind.FaultSense named place level) at le lawful =
    by_test (named == at) refl
  where
    by_test : (b : Bool) → (named == at) ≡ b → b ≡ false
    by_test true e =
        absurd (not_found tag (look_at (open_looks past) named)
        (λ look. IsLawfulSense (state named) past named place level)
        (none_later past named (grind (arith, nat_tests))) lawful)
    by_test false e = refl
no_fault state base past tag kind at le lawful = refl

-- nor did an entry end the copy of such a look
not_open : (past : List Entry) (tag : Tag) (named at : ℕ) (P : Look → Type 0) → length past ≤ at →
    IsSomeAnd (look_by tag (look_at (open_looks past) named)) P → (named == at) ≡ false
not_open past tag named at P le lawful = by_test (named == at) refl
  where
    by_test : (b : Bool) → (named == at) ≡ b → b ≡ false
    by_test true e =
        absurd (not_found tag (look_at (open_looks past) named) P
        (none_later past named (grind (arith, nat_tests))) lawful)
    by_test false e = refl

no_recovered : (state : ℕ → LadderState) (base : ChannelBase) (past : List Entry) (tag : Tag)
    (kind : Kind) (at : ℕ) → length past ≤ at → IsLawfulKind state base past tag kind →
    is_after_recovered at kind ≡ false
no_recovered state base past tag (Kind.Move named slot) at le lawful =
    not_open past tag named at (λ look. IsLawfulMove (state named) base past look slot) le lawful
no_recovered state base past tag (Kind.Changed named found) at le lawful =
    not_open past tag named at (λ look. IsLawfulChanged (state named) base past look found) le
    lawful
no_recovered state base past tag (Kind.Stay named worn) at le lawful =
    not_open past tag named at (λ look. IsLawfulStay (state named) base past look worn) le lawful
no_recovered state base past tag (Kind.BadCopy named slot die fault) at le lawful =
    not_open past tag named at
    (λ look. IsLawfulBadCopy (state named) base past look slot die fault) le lawful
no_recovered state base past tag kind at le lawful = refl

no_uncorrectable : (state : ℕ → LadderState) (base : ChannelBase) (past : List Entry) (tag : Tag)
    (kind : Kind) (at : ℕ) → length past ≤ at → IsLawfulKind state base past tag kind →
    is_after_uncorrectable at kind ≡ false
no_uncorrectable state base past tag (Kind.Condemn named) at le lawful =
    not_open past tag named at (λ look. IsLawfulCondemn (state named) base past look) le lawful
no_uncorrectable state base past tag (Kind.Changed named found) at le lawful =
    not_open past tag named at (λ look. IsLawfulChanged (state named) base past look found) le
    lawful
no_uncorrectable state base past tag kind at le lawful = refl

-- so a lawful past has no sense of a look that is still to be made, and none that failed
pub none_had : (ladder : List Entry → ℕ → LadderState) (base : ChannelBase) (past : List Entry)
    (at : ℕ) → IsLawfulBy ladder base past → length past ≤ at → senses_had past at ≡ 0
none_had ladder base [] at lawful le = refl
none_had ladder base (entry ∷ past) at lawful le =
    sum_by-cons (λ (e : Entry). cond (is_sense_of at e.kind) 1 0) entry past
    ∙ ap (λ (b : Bool). cond b 1 0 + senses_had past at)
    (no_sense (ladder past) base past entry.tag entry.kind at (omega arith) lawful.1.meets)
    ∙ zero-add (senses_had past at)
    ∙ none_had ladder base past at lawful.0 (omega arith)

pub none_failed : (ladder : List Entry → ℕ → LadderState) (base : ChannelBase) (past : List Entry)
    (at : ℕ) → IsLawfulBy ladder base past → length past ≤ at → IsFalse (has_fault_sense past at)
none_failed ladder base [] at lawful le = refl
none_failed ladder base (entry ∷ past) at lawful le =
    rw (no_fault (ladder past) base past entry.tag entry.kind at (omega arith) lawful.1.meets)
    (none_failed ladder base past at lawful.0 (omega arith))

pub none_recovered : (ladder : List Entry → ℕ → LadderState) (base : ChannelBase)
    (past : List Entry) (at : ℕ) → IsLawfulBy ladder base past → length past ≤ at →
    IsFalse (ends_recovered past at)
none_recovered ladder base [] at lawful le = refl
none_recovered ladder base (entry ∷ past) at lawful le =
    rw (no_recovered (ladder past) base past entry.tag entry.kind at (omega arith)
    lawful.1.meets) (none_recovered ladder base past at lawful.0 (omega arith))

pub none_uncorrectable : (ladder : List Entry → ℕ → LadderState) (base : ChannelBase)
    (past : List Entry) (at : ℕ) → IsLawfulBy ladder base past → length past ≤ at →
    IsFalse (ends_uncorrectable past at)
none_uncorrectable ladder base [] at lawful le = refl
none_uncorrectable ladder base (entry ∷ past) at lawful le =
    rw (no_uncorrectable (ladder past) base past entry.tag entry.kind at (omega arith)
    lawful.1.meets) (none_uncorrectable ladder base past at lawful.0 (omega arith))

-- a look adds no sense
pub had_after_look : (past : List Entry) (tag : Tag) (row : ℕ) (look : Look) →
    senses_had past look.at ≡ 0 →
    senses_had (after_look tag row look.slot look.serial look.closed past) look.at ≡ 0
had_after_look past tag row look none =
    sum_by-cons (λ (e : Entry). cond (is_sense_of look.at e.kind) 1 0)
    (entry_of tag (Kind.Look row (Row.Page look.slot look.serial) look.closed)) past
    ∙ still_none (senses_had past look.at) none
  where
    still_none : (n : ℕ) → n ≡ 0 → 0 + n ≡ 0
    still_none n e = omega arith

-- so a look that was just made is fresh
pub new_is_fresh : (start : Start) (contents : List (Tag × List ℕ)) (caller : CallerView)
    (tag : Tag) (row : ℕ) (look : Look) (now : List Entry) → IsOf caller start contents →
    MakesLook caller.shape tag row now (Found look) caller.seen → IsFresh caller tag look
new_is_fresh start contents caller tag row look now is_of makes =
    let made : List Entry = after_look tag row look.slot look.serial look.closed now in
    let ladder = ladder_of (coding_of start.base) start contents in
    let lawful : IsLawful start contents made =
    subst (λ (past : List Entry). IsLawful start contents past) makes.3 is_of.is_past.is_lawful in
    let late : length now ≤ look.at = omega (arith, makes.0) in
    record {
      in_range = makes.2;
      is_own = ap (λ (past : List Entry). own_look tag past look.at) makes.3
          ∙ new_is_own now tag row look makes.0 makes.1;
      is_look = ap (λ (past : List Entry). look_of past look.at) makes.3
          ∙ new_is_look now tag row look makes.0 makes.1;
      none_had = ap (λ (past : List Entry). senses_had past look.at) makes.3
          ∙ had_after_look now tag row look (none_had ladder start.base now look.at lawful.0 late);
      none_failed = ap (λ (past : List Entry). has_fault_sense past look.at) makes.3
          ∙ none_failed ladder start.base now look.at lawful.0 late;
      not_recovered = ap (λ (past : List Entry). ends_recovered past look.at) makes.3
          ∙ none_recovered ladder start.base now look.at lawful.0 late;
      not_uncorrectable = ap (λ (past : List Entry). ends_uncorrectable past look.at) makes.3
          ∙ none_uncorrectable ladder start.base now look.at lawful.0 late;
    }
