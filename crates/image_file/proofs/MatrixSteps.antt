-- What reading a base matrix gives that is tested after it was read.
use Rattle.std.proofs.Common.{◌≡◌, ℕ, ℤ, suc, ◌+◌, ◌*◌, ◌<◌, ◌≤◌, List, [], ◌∷◌, ◌++◌, length, get_or, drop, Ok, Err, Some, None, refl, sym, ap, ◌∙◌, arith, append_assoc, append-nil, drop-cons, length-drop}
use Rattle.std.specs.Prelude.{Option, option_map, is_none, IsTrue}
use Rattle.qc_matrix.specs.Fault.{IsFirstFault}
use Rattle.qc_matrix.specs.declared.fault.CodeFault.{CodeFault}
use Rattle.qc_matrix.specs.declared.fault.CodeFault.TheVariants.{EntryRange, ParityColumn, Diagonal as WrongDiagonal, Memory as NoMemory}
use Rattle.ssd_geo.specs.BaseMatrix.{BaseMatrix, IsAccepted, first_fault}
use Rattle.ssd_formats.specs.Fields.{Fault, Reading, Rest, signed_of_bytes, ◌>>=◌, bytes_field}
use Rattle.ssd_geo.specs.Limits.{Sizes}
use Rattle.ssd_formats.specs.ImageHead.{matrix_field, matrix_fault, signed_numbers, unless_fault}
use Rattle.image_file.specs.declared.stop.ImageFault.{ImageFault}
use Rattle.image_file.specs.declared.stop.ReadStop.{ReadStop}
use Rattle.image_file.specs.declared.stop.ReadStop.TheVariants.{Fault as FaultAt, ReadFault, DieFailed, Memory}
use Rattle.image_file.specs.Gives.{StopsAt, named_fault}
use Rattle.image_file.specs.Matrix.{entries_field, matrix_stop}
use Rattle.image_file.specs.StopCauses.{StopHasCause}

-- two bytes more are one number more
pub numbers_more : (bytes : List ℕ) (i : ℕ) (before whole : List ℤ) → 2 * i + 1 < length bytes → before ++ signed_numbers (drop (2 * i) bytes) ≡ whole → (before ++ signed_of_bytes (get_or bytes (2 * i) 0 ∷ get_or bytes (2 * i + 1) 0 ∷ []) ∷ []) ++ signed_numbers (drop (2 * (i + 1)) bytes) ≡ whole
numbers_more bytes i before whole within so_far =
    let low = get_or bytes (2 * i) 0 in
    let high = get_or bytes (2 * i + 1) 0 in
    let first : drop (2 * i) bytes ≡ low ∷ drop (suc (2 * i)) bytes = drop-cons bytes (2 * i) 0 (omega arith) in
    let second : drop (2 * i + 1) bytes ≡ high ∷ drop (suc (2 * i + 1)) bytes = drop-cons bytes (2 * i + 1) 0 within in
    let at_second : suc (2 * i) ≡ 2 * i + 1 = omega arith in
    let at_third : suc (2 * i + 1) ≡ 2 * (i + 1) = omega arith in
    let both : drop (2 * i) bytes ≡ low ∷ high ∷ drop (2 * (i + 1)) bytes =
    first ∙ ap (λ n. low ∷ drop n bytes) at_second ∙ ap (λ l. low ∷ l) second ∙ ap (λ n. low ∷ high ∷ drop n bytes) at_third in
    append_assoc before (signed_of_bytes (low ∷ high ∷ []) ∷ []) (signed_numbers (drop (2 * (i + 1)) bytes)) ∙ ap (λ l. before ++ signed_numbers l) (sym both) ∙ so_far

-- at most one byte is left
numbers_of_few : (bytes : List ℕ) → length bytes ≤ 1 → signed_numbers bytes ≡ []
numbers_of_few [] few = refl
numbers_of_few (low ∷ []) few = refl
numbers_of_few (low ∷ high ∷ bytes) few = absurd (omega arith)

-- and then all numbers are there
pub numbers_end : (bytes : List ℕ) (i : ℕ) (before whole : List ℤ) → length bytes ≤ 2 * i + 1 → before ++ signed_numbers (drop (2 * i) bytes) ≡ whole → before ≡ whole
numbers_end bytes i before whole few so_far =
    let none : signed_numbers (drop (2 * i) bytes) ≡ [] = numbers_of_few (drop (2 * i) bytes) (omega (arith, length-drop (2 * i) bytes)) in
    sym (append-nil before) ∙ ap (λ l. before ++ l) (sym none) ∙ so_far

-- a base matrix of a drive
abbrev matrix_with : Sizes → List ℤ → BaseMatrix
matrix_with sizes entries = record { z = sizes.z; mb = sizes.mb; nb = sizes.nb; entries = entries }

-- entries that were read, after the test of the matrix that begins at a place
abbrev tested : ℕ → Sizes → List ℤ × Rest → Reading (List ℤ)
tested place sizes x = unless_fault (option_map (matrix_fault place (matrix_with sizes x.0)) (first_fault (matrix_with sizes x.0))) x

-- a test of a value that was read from bytes
value_tested : {A B C : Type 0} (field : Reading A) (value : A → B) (test : B × Rest → Reading C) (x : B × Rest) → (field >>= (λ a. Ok (value a.0, a.1))) ≡ Ok x → (field >>= (λ a. test (value a.0, a.1))) ≡ test x
value_tested {B = B} (Ok a) value test x read =
    let one : B × Rest = (value a.0, a.1) in
    let same : one ≡ x = cc in ap test same
value_tested (Err fault) value test x read = absurd (cc)

value_lacks : {A B C : Type 0} (field : Reading A) (value : A → B) (test : B × Rest → Reading C) (fault : Fault) → ◌>>=◌ {B = B × Rest} field (λ a. Ok (value a.0, a.1)) ≡ Err fault → (field >>= (λ a. test (value a.0, a.1))) ≡ Err fault
value_lacks (Ok a) value test fault read = absurd (cc)
value_lacks {C = C} (Err other) value test fault read = let same : other ≡ fault = cc in rw same refl

matrix_tested : (sizes : Sizes) (rest : Rest) (x : List ℤ × Rest) → entries_field (2 * (sizes.mb * sizes.nb)) rest ≡ Ok x → matrix_field sizes rest ≡ tested rest.place sizes x
unfolding matrix_field
matrix_tested sizes rest x read =
    value_tested (bytes_field (2 * (sizes.mb * sizes.nb)) rest) signed_numbers (tested rest.place sizes) x read

matrix_lacks : (sizes : Sizes) (rest : Rest) (fault : Fault) → entries_field (2 * (sizes.mb * sizes.nb)) rest ≡ Err fault → matrix_field sizes rest ≡ Err fault
unfolding matrix_field
matrix_lacks sizes rest fault read =
    value_lacks (bytes_field (2 * (sizes.mb * sizes.nb)) rest) signed_numbers (tested rest.place sizes) fault read

none_passes : {A B : Type 0} (first : Option B) (fault : B → Fault) (x : A × Rest) → IsTrue (is_none first) → unless_fault (option_map fault first) x ≡ Ok x
none_passes None fault x none = refl
none_passes (Some f) fault x none = absurd (cc)

-- a base matrix without a fault is what was read
pub matrix_passes : (sizes : Sizes) (rest next : Rest) (entries : List ℤ) → entries_field (2 * (sizes.mb * sizes.nb)) rest ≡ Ok (entries, next) → IsAccepted (matrix_with sizes entries) → matrix_field sizes rest ≡ Ok (entries, next)
matrix_passes sizes rest next entries read accepted =
    matrix_tested sizes rest (entries, next) read ∙ none_passes (first_fault (matrix_with sizes entries)) (matrix_fault rest.place (matrix_with sizes entries)) (entries, next) accepted.faultless

-- one with a fault stops at it
pub matrix_fails : (sizes : Sizes) (rest next : Rest) (entries : List ℤ) (fault : CodeFault) → entries_field (2 * (sizes.mb * sizes.nb)) rest ≡ Ok (entries, next) → IsFirstFault (first_fault (matrix_with sizes entries)) fault → StopsAt (matrix_stop rest.place sizes.mb sizes.nb fault) (matrix_field sizes rest)
matrix_fails sizes rest next entries (EntryRange row col) read first =
    matrix_tested sizes rest (entries, next) read ∙ ap (λ f. unless_fault (option_map (matrix_fault rest.place (matrix_with sizes entries)) f) (entries, next)) first
matrix_fails sizes rest next entries (ParityColumn row) read first =
    matrix_tested sizes rest (entries, next) read ∙ ap (λ f. unless_fault (option_map (matrix_fault rest.place (matrix_with sizes entries)) f) (entries, next)) first
matrix_fails sizes rest next entries (WrongDiagonal row col) read first =
    matrix_tested sizes rest (entries, next) read ∙ ap (λ f. unless_fault (option_map (matrix_fault rest.place (matrix_with sizes entries)) f) (entries, next)) first
matrix_fails sizes rest next entries NoMemory read first = tt

-- and so does one that isn't whole
pub matrix_stops : (stop : ReadStop ImageFault) (sizes : Sizes) (rest : Rest) → StopsAt stop (entries_field (2 * (sizes.mb * sizes.nb)) rest) → StopsAt stop (matrix_field sizes rest)
matrix_stops (FaultAt at fault) sizes rest read = matrix_lacks sizes rest (at, named_fault fault) read
matrix_stops ReadFault sizes rest read = tt
matrix_stops (DieFailed die) sizes rest read = absurd read
matrix_stops Memory sizes rest read = tt

-- a stop at a fault of the matrix has its cause in the matrix: what was read before didn't fail
pub matrix_cause : (before now place mb nb : ℕ) (fault : CodeFault) → now ≡ before → StopHasCause before now (matrix_stop place mb nb fault)
matrix_cause before now place mb nb (EntryRange row col) same = same
matrix_cause before now place mb nb (ParityColumn row) same = same
matrix_cause before now place mb nb (WrongDiagonal row col) same = same
matrix_cause before now place mb nb NoMemory same = same
