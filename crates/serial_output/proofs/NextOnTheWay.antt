-- Two pasts on the way to a third: one comes to the other. So what comes next after a past on the way is the entry that was to
-- come there, or the past goes on with that; and each entry on the way found room.
use Rattle.std.proofs.Common.{ℕ, ◌≡◌, ◌+◌, ◌≤◌, true, List, [], ◌∷◌, ◌++◌, length, length-append, sym, ap, subst, ◌∙◌, inl, inr, arith}
use Rattle.std.specs.Prelude.{◌⊎◌}
use Rattle.std.proofs.lemmas.Bool.{and_parts}
use Rattle.ssd_histories.specs.HistoryRoom.{found_room, has_room_for}
use Rattle.ssd_geo.specs.declared.entry.Entry.{Entry}
use Rattle.serial_laws.proofs.Lists.{same_first}
use Rattle.serial_output.specs.SameChoices.{ComesTo}

-- how much longer the later past is
pub is_longer : (past now : List Entry) (comes : ComesTo past now) → length now ≡ length comes.newer + length past
is_longer past now comes =
    ap (λ (entries : List Entry). length entries) comes.is ∙ length-append comes.newer past

-- a past that comes to one no longer comes to itself
comes_back : (past now : List Entry) → ComesTo past now → length now ≤ length past → now ≡ past
comes_back past now comes low = by_newer comes.newer comes.is
  where
    by_newer : (newer : List Entry) → now ≡ newer ++ past → now ≡ past
    by_newer [] e = e
    by_newer (entry ∷ newer) e =
        let is = is_longer past now (record { newer = entry ∷ newer; is = e }) in absurd (omega (arith, is, low))

-- of two pasts on the way to a third, one comes to the other
one_comes : (newer others first second : List Entry) → newer ++ first ≡ others ++ second →
    ComesTo first second ⊎ ComesTo second first
one_comes [] others first second e = inr (record { newer = others; is = e })
one_comes (entry ∷ newer) [] first second e = inl (record { newer = entry ∷ newer; is = sym e })
one_comes (entry ∷ newer) (other ∷ others) first second e =
    one_comes newer others first second (same_first entry other (newer ++ first) (others ++ second) e).1

-- a past on the way, and another with the entry after it: either that entry comes first, or the past does
pub within_or_on : (between now after : List Entry) (next : Entry) → ComesTo between after → ComesTo (next ∷ now) after →
    ComesTo (next ∷ now) between ⊎ ComesTo between now
within_or_on between now after next comes goes =
    elim (one_comes comes.newer goes.newer between (next ∷ now) (sym comes.is ∙ goes.is)) [
      | inl later ↦ by_newer later.newer later.is
      | inr first ↦ inl first
    ]
  where
    by_newer : (newer : List Entry) → ◌≡◌ {A = List Entry} (next ∷ now) (newer ++ between) →
        ComesTo (next ∷ now) between ⊎ ComesTo between now
    by_newer [] e = inl (record { newer = []; is = sym e })
    by_newer (entry ∷ newer) e =
        inr (record { newer = newer; is = (same_first next entry now (newer ++ between) e).1 })

-- of an entry that was to come after a past, and a later past with the entry after it: these are the same, or the later past
-- comes after the first entry
pub data IsNextOrOn (entry next : Entry) (before now : List Entry) : Type 0 where
  is_next : now ≡ before → next ≡ entry → IsNextOrOn entry next before now
  comes_later : ComesTo (entry ∷ before) now → IsNextOrOn entry next before now

pub next_or_on : (entry next : Entry) (before now after : List Entry) → ComesTo before now → ComesTo (entry ∷ before) after →
    ComesTo (next ∷ now) after → IsNextOrOn entry next before now
next_or_on entry next before now after begins comes goes =
    elim (within_or_on (entry ∷ before) now after next comes goes) [
      | inl first ↦ same_there first
      | inr later ↦ comes_later later
    ]
  where
    same_there : ComesTo (next ∷ now) (entry ∷ before) → IsNextOrOn entry next before now
    same_there first =
        let longer = is_longer before now begins in
        let same : ◌≡◌ {A = List Entry} (entry ∷ before) (next ∷ now) =
        comes_back (next ∷ now) (entry ∷ before) first (omega (arith, longer)) in
        let parts = same_first entry next before now same in
        is_next (sym parts.1) (sym parts.0)

-- where nothing comes after that entry, they are the same
pub record IsLastEntry (entry next : Entry) (before now : List Entry) : Type 0 where
  pub same_past : now ≡ before
  pub same_entry : next ≡ entry

pub last_entry : (entry next : Entry) (before now : List Entry) → ComesTo before now → ComesTo (next ∷ now) (entry ∷ before) →
    IsLastEntry entry next before now
last_entry entry next before now begins goes =
    let longer = is_longer before now begins in
    let same : ◌≡◌ {A = List Entry} (entry ∷ before) (next ∷ now) =
    comes_back (next ∷ now) (entry ∷ before) goes (omega (arith, longer)) in
    let parts = same_first entry next before now same in
    record { same_past = sym parts.1; same_entry = sym parts.0 }

-- no entry comes after a past, and before it
pub never_back : (next : Entry) (before now : List Entry) → ComesTo before now → ComesTo (next ∷ now) before → ⊥
never_back next before now begins goes =
    let longer = is_longer before now begins in
    let more = is_longer (next ∷ now) before goes in
    absurd (omega (arith, longer, more))

-- an entry on the way found room
found_before : (limit : ℕ) (newer past : List Entry) → found_room limit (newer ++ past) ≡ true → found_room limit past ≡ true
found_before limit [] past found = found
found_before limit (entry ∷ newer) past found =
    found_before limit newer past
    (and_parts (found_room limit (newer ++ past)) (has_room_for limit (newer ++ past) entry.kind) found).0

pub room_on_the_way : (limit : ℕ) (entry : Entry) (past now : List Entry) → found_room limit now ≡ true →
    ComesTo (entry ∷ past) now → has_room_for limit past entry.kind ≡ true
room_on_the_way limit entry past now found comes =
    (and_parts (found_room limit past) (has_room_for limit past entry.kind)
    (found_before limit comes.newer (entry ∷ past)
    (subst (λ (entries : List Entry). found_room limit entries ≡ true) comes.is found))).1
