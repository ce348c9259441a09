-- The history with one more entry leaves the open looks that it is to, and keeps room for what they have set aside.
use Rattle.std.proofs.Common.{◌≡◌, ℕ, ◌+◌, ◌<◌, ◌≤◌, List, [], ◌∷◌, ◌++◌, length, refl, sym, ◌∙◌, ap, arith, All}
use Rattle.std.specs.Prelude.{IsSome}
use Rattle.std.proofs.lemmas.List.Elements.{All-push}
use Rattle.ssd_histories.specs.History.{open_looks}
use Rattle.ssd_histories.specs.OpenLooks.{look_at, without_look}
use Rattle.ssd_histories.specs.SerialCalls.{entry_of}
use Rattle.ssd_geo.specs.declared.entry.Entry.{Entry}
use Rattle.ssd_geo.specs.declared.kind.Kind.{Kind}
use Rattle.ssd_geo.specs.declared.look.Look.{Look}
use Rattle.ssd_geo.specs.declared.row.Row.{Row}
use Rattle.ssd_geo.specs.declared.tag.Tag.{Tag}
use Rattle.ssd_histories.proofs.OpenLookLaws.{all_left}
use Rattle.chan_tables.specs.TablesState.{HistoryState, IsOfRow, KeepsLooks, UsesOne, needed_for, room_of_look}
use Rattle.chan_tables.proofs.SetAside.{leave_fits, open_room, opened_fits, spare_fits, unopened_fits, uses_fits}

-- the history is another, not shorter, with the looks that it leaves open and room for what they have set aside
pub record IsLonger (rows : ℕ) (old : HistoryState) (looks : List (Tag × Look)) (history : HistoryState) : Type 0 where
  pub limit_stays : history.limit ≡ old.limit
  pub longer : length old.past ≤ length history.past
  pub looks_are : looks ≡ open_looks history.past
  pub looks_rows : All (IsOfRow rows) looks
  pub in_limit : needed_for history.past looks ≤ history.limit
  pub in_room : needed_for history.past looks ≤ history.room

-- the looks are those that a history leaves open, and it has room for what they have set aside
pub record HasLooks (rows : ℕ) (looks : List (Tag × Look)) (history : HistoryState) : Type 0 where
  pub looks_are : looks ≡ open_looks history.past
  pub looks_rows : All (IsOfRow rows) looks
  pub in_limit : needed_for history.past looks ≤ history.limit
  pub in_room : needed_for history.past looks ≤ history.room

-- room was made for some entries
pub record HasMade (old made : HistoryState) (needed : ℕ) : Type 0 where
  pub same : made ≡ record old { room = made.room }
  pub in_limit : length old.past + needed ≤ old.limit
  pub in_room : length old.past + needed ≤ made.room

made_past : (old made : HistoryState) (needed : ℕ) → HasMade old made needed → made.past ≡ old.past
made_past old made needed has = ap {B = List Entry} (λ (h : HistoryState). h.past) has.same

made_limit : (old made : HistoryState) (needed : ℕ) → HasMade old made needed → made.limit ≡ old.limit
made_limit old made needed has = ap {B = ℕ} (λ (h : HistoryState). h.limit) has.same

-- with an entry of a step outside a look, for which room was made
pub spare_longer : (rows : ℕ) (old : HistoryState) (looks : List (Tag × Look)) (tag : Tag) (kind : Kind) → KeepsLooks tag kind
    → needed_for old.past looks + 1 ≤ old.limit → needed_for old.past looks + 1 ≤ old.room → HasLooks rows looks old
    → IsLonger rows old looks (record old { past = entry_of tag kind ∷ old.past })
spare_longer rows old looks tag kind keeps limit room before =
    let fits = spare_fits old.past (entry_of tag kind) looks in
    record {
      limit_stays = refl;
      longer = omega arith;
      looks_are = before.looks_are ∙ sym (keeps (length old.past) (open_looks old.past));
      looks_rows = before.looks_rows;
      in_limit = omega (arith, fits, limit);
      in_room = omega (arith, fits, room);
    }

-- with a look's entry, which opens no look
pub unopened_longer : (rows : ℕ) (old made : HistoryState) (looks : List (Tag × Look)) (tag : Tag) (kind : Kind) (needed : ℕ) → KeepsLooks tag kind → needed ≡ room_of_look looks
    → HasMade old made needed → HasLooks rows looks old → IsLonger rows old looks (record made { past = entry_of tag kind ∷ made.past })
unopened_longer rows old made looks tag kind needed keeps is has before =
    let past : made.past ≡ old.past = made_past old made needed has in
    let count : length made.past ≡ length old.past = ap {B = ℕ} (λ (list : List Entry). length list) past in
    let limit : made.limit ≡ old.limit = made_limit old made needed has in
    let fits = unopened_fits made.past (entry_of tag kind) looks in
    record {
      limit_stays = limit;
      longer = omega (arith, count);
      looks_are = before.looks_are ∙ sym (keeps (length made.past) (open_looks made.past) ∙ ap {B = List (Tag × Look)} open_looks past);
      looks_rows = before.looks_rows;
      in_limit = omega (arith, fits, limit, count, is, has.in_limit);
      in_room = omega (arith, fits, count, is, has.in_room);
    }

-- or opens one
pub opened_longer : (rows : ℕ) (old made : HistoryState) (looks : List (Tag × Look)) (tag : Tag) (look : Look) (needed : ℕ) → look.at ≡ length old.past → look.row < rows
    → needed ≡ room_of_look looks → HasMade old made needed → HasLooks rows looks old
    → IsLonger rows old (looks ++ (tag, look) ∷ []) (record made { past = entry_of tag (Kind.Look look.row (Row.Page look.slot look.serial) look.closed) ∷ made.past })
opened_longer rows old made looks tag look needed at low is has before =
    let past : made.past ≡ old.past = made_past old made needed has in
    let count : length made.past ≡ length old.past = ap {B = ℕ} (λ (list : List Entry). length list) past in
    let limit : made.limit ≡ old.limit = made_limit old made needed has in
    let here : look.at ≡ length made.past = at ∙ sym count in
    let looks_open : looks ≡ open_looks made.past = before.looks_are ∙ sym (ap {B = List (Tag × Look)} open_looks past) in
    let fits = opened_fits made.past (entry_of tag (Kind.Look look.row (Row.Page look.slot look.serial) look.closed)) looks (tag, look) in
    record {
      limit_stays = limit;
      longer = omega (arith, count);
      looks_are = λ i. looks_open i ++ (tag, record { at = here i; row = look.row; slot = look.slot; serial = look.serial; closed = look.closed }) ∷ [];
      looks_rows = All-push (IsOfRow rows) looks (tag, look) before.looks_rows low;
      in_limit = omega (arith, fits, limit, count, is, has.in_limit);
      in_room = omega (arith, fits, count, is, has.in_room);
    }

-- with an entry of an open look, which uses what the look has set aside
pub used_longer : (rows : ℕ) (old : HistoryState) (looks : List (Tag × Look)) (tag : Tag) (kind : Kind) (at : ℕ) → KeepsLooks tag kind → UsesOne old.past (entry_of tag kind) at
    → IsSome (look_at looks at) → HasLooks rows looks old → IsLonger rows old looks (record old { past = entry_of tag kind ∷ old.past })
used_longer rows old looks tag kind at keeps uses some before =
    let fits = uses_fits old.past (entry_of tag kind) at looks uses some in
    record {
      limit_stays = refl;
      longer = omega arith;
      looks_are = before.looks_are ∙ sym (keeps (length old.past) (open_looks old.past));
      looks_rows = before.looks_rows;
      in_limit = omega (arith, fits, before.in_limit);
      in_room = omega (arith, fits, before.in_room);
    }

-- with the leave of an open look
pub left_longer : (rows : ℕ) (old : HistoryState) (looks : List (Tag × Look)) (tag : Tag) (at : ℕ)
    → IsSome (look_at looks at) → HasLooks rows looks old → IsLonger rows old (without_look looks at) (record old { past = entry_of tag (Kind.Leave at) ∷ old.past })
left_longer rows old looks tag at some before =
    let fits = leave_fits old.past (entry_of tag (Kind.Leave at)) at looks some in
    record {
      limit_stays = refl;
      longer = omega arith;
      looks_are = ap {B = List (Tag × Look)} (λ (list : List (Tag × Look)). without_look list at) before.looks_are;
      looks_rows = all_left (IsOfRow rows) looks at before.looks_rows;
      in_limit = omega (arith, fits, before.in_limit);
      in_room = omega (arith, fits, before.in_room);
    }

-- while a look is open there is room for its next entry
pub room_for_entry : (rows : ℕ) (history : HistoryState) (looks : List (Tag × Look)) (at : ℕ) → IsSome (look_at looks at) → HasLooks rows looks history
    → (length history.past < history.room) × (length history.past < history.limit)
room_for_entry rows history looks at some before =
    let room = open_room history.past at looks some in (omega (arith, room, before.in_room), omega (arith, room, before.in_limit))
