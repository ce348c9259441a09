-- What stands in a page's payload, and which payload is that of a row? A payload begins with a head, by which a read
-- tells the page that it looked for from any other word: the serial of the write, the row, and a mark. The data
-- bytes follow, and then zeros. Numbers stand low byte first. The layout is this project's own.
use Rattle.std.specs.Prelude.{ℕ, ◌≡◌, ◌+◌, ◌-◌, ◌*◌, ◌/◌, ◌%◌, ◌^◌, ◌<◌, ◌≤◌, ◌==◌, ◌&&◌, if◌then◌else◌, List, [], ◌∷◌, ◌++◌, length, take, replicate, nat_eq, slice_range, Bool, Option, Some, None}
use Rattle.std.specs.Int.{w32, w64, to_le_bytes}
use Rattle.std.specs.List.{list_all, starts_with}

-- the serial of a call's write: each session, actor and call has its own
abbrev pub serial_of_call : ℕ → ℕ → ℕ → ℕ
serial_of_call session actor call = session * 2 ^ 40 + actor * 2 ^ 32 + call

-- the mark "PGE1"
abbrev pub page_mark : List ℕ
page_mark = 80 ∷ 71 ∷ 69 ∷ 49 ∷ []

-- the head of a page: 16 bytes
abbrev pub head_of_page : ℕ → ℕ → List ℕ
head_of_page serial row = to_le_bytes w64 serial ++ to_le_bytes w32 row ++ page_mark

-- the payload of a page: the head, the data bytes, and zeros up to its whole length
abbrev pub payload_of_page : ℕ → ℕ → ℕ → List ℕ → List ℕ
payload_of_page payload_length serial row bytes =
    head_of_page serial row ++ bytes ++ replicate (payload_length - (16 + length bytes)) 0

-- all bytes of a list are 0
abbrev pub are_zeros : List ℕ → Bool
are_zeros bytes = list_all (λ byte. byte == 0) bytes

-- the data bytes of a word whose payload has the head of this serial and row, and zeros after so many data bytes
abbrev pub data_of_word : ℕ → ℕ → ℕ → ℕ → List ℕ → Option (List ℕ)
data_of_word payload_length data_length serial row word =
    if starts_with nat_eq word (head_of_page serial row)
    && are_zeros (slice_range word (16 + data_length) payload_length)
    then Some (slice_range word 16 (16 + data_length))
    else None

-- Laws, each the contract of a function without a body.

-- a payload has its length
abbrev pub PayloadsHaveTheirLength : Type 0
PayloadsHaveTheirLength =
    (payload_length serial row : ℕ) (bytes : List ℕ) → 16 + length bytes ≤ payload_length →
    length (payload_of_page payload_length serial row bytes) ≡ payload_length

-- a word that begins with a page's payload gives the page's data bytes
abbrev pub PayloadsGiveTheirBytes : Type 0
PayloadsGiveTheirBytes =
    (payload_length serial row : ℕ) (bytes rest : List ℕ) → 16 + length bytes ≤ payload_length →
    data_of_word payload_length (length bytes) serial row (payload_of_page payload_length serial row bytes ++ rest)
    ≡ Some bytes

-- a word that gives data bytes begins with their payload
abbrev pub OnlyPayloadsGiveBytes : Type 0
OnlyPayloadsGiveBytes =
    (payload_length data_length serial row : ℕ) (bytes word : List ℕ) →
    16 + data_length ≤ payload_length → payload_length ≤ length word →
    data_of_word payload_length data_length serial row word ≡ Some bytes →
    (length bytes ≡ data_length) × (take payload_length word ≡ payload_of_page payload_length serial row bytes)

-- heads tell serials and rows apart
abbrev pub HeadsDiffer : Type 0
HeadsDiffer =
    (serial row other_serial other_row : ℕ) →
    serial < 2 ^ 64 → other_serial < 2 ^ 64 → row < 2 ^ 32 → other_row < 2 ^ 32 →
    head_of_page serial row ≡ head_of_page other_serial other_row →
    (serial ≡ other_serial) × (row ≡ other_row)

-- a serial fits its field, and serials tell sessions, actors and calls apart
pub record NamesItsCall (session actor call : ℕ) : Type 0 where
  pub fits : serial_of_call session actor call < 2 ^ 64
  pub of_session : serial_of_call session actor call / 2 ^ 40 ≡ session
  pub of_actor : serial_of_call session actor call / 2 ^ 32 % 2 ^ 8 ≡ actor
  pub of_call : serial_of_call session actor call % 2 ^ 32 ≡ call

abbrev pub SerialsNameTheirCalls : Type 0
SerialsNameTheirCalls =
    (session actor call : ℕ) → session < 2 ^ 24 → actor < 2 ^ 8 → call < 2 ^ 32 → NamesItsCall session actor call
