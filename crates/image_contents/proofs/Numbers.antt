-- What a field gives whose number has a test and a fault of its own, from what the number gives.
use Rattle.std.proofs.Common.{◌≡◌, ℕ, List, Option, None, Some, Ok, Err, Bool, true, false, refl, ap, ◌∙◌}
use Rattle.std.specs.Int.{Width, w8, byte_len, from_le_bytes}
use Rattle.std.specs.Option.{option_map_or}
use Rattle.ssd_formats.specs.Fields.{Fault, Reading, Rest, ◌>>=◌, bytes_field, found_or, is_any, number_field, number_or, passing}
use Rattle.ssd_formats.specs.ImageContents.{is_page_word, state_of_number}
use Rattle.ssd_formats.specs.ImageHead.{Head}
use Rattle.ssd_formats.specs.InputFaults as faults
use Rattle.ssd_geo.specs.Limits.{word_bytes_of}
use Rattle.ssd_geo.specs.declared.base.BlockBase.{BlockBase}
use Rattle.ssd_geo.specs.declared.superblock.SbState.{SbState}
use Rattle.image_contents.specs.Parts.{may_follow, state_after, word_field}
use Rattle.image_file.proofs.Fields.{Tested}

-- a value that is found from a number which is read from bytes, and this fault where there is none
abbrev pub Found : {A : Type 0} → (List ℕ → ℕ) → (ℕ → Option A) → Fault → Reading (List ℕ) → Reading A
Found value find fault reading = reading >>= (λ field. found_or (find (value field.0)) fault field.1)

value_found : {A : Type 0} (value : List ℕ → ℕ) (find : ℕ → Option A) (fault other : Fault) (reading : Reading (List ℕ)) (n : ℕ) (next : Rest) (x : A)
    → Tested value (λ _. true) other reading ≡ Ok (n, next) → find n ≡ Some x → Found value find fault reading ≡ Ok (x, next)
value_found value find fault other (Ok field) n next x read found =
    let one : ℕ × Rest = (value field.0, field.1) in
    let two : ℕ × Rest = (n, next) in
    let both : one ≡ two = cc in
    let same : value field.0 ≡ n = ap (λ p. p.0) both in
    let rest : field.1 ≡ next = ap (λ p. p.1) both in rw (ap find same ∙ found, rest) refl
value_found value find fault other (Err first) n next x read found = absurd (cc)

none_found : {A : Type 0} (value : List ℕ → ℕ) (find : ℕ → Option A) (fault other : Fault) (reading : Reading (List ℕ)) (n : ℕ) (next : Rest)
    → Tested value (λ _. true) other reading ≡ Ok (n, next) → find n ≡ None → Found value find fault reading ≡ Err fault
none_found value find fault other (Ok field) n next read found =
    let one : ℕ × Rest = (value field.0, field.1) in
    let two : ℕ × Rest = (n, next) in
    let both : one ≡ two = cc in
    let same : value field.0 ≡ n = ap (λ p. p.0) both in rw (ap find same ∙ found) refl
none_found value find fault other (Err first) n next read found = absurd (cc)

value_lacks : {A : Type 0} (value : List ℕ → ℕ) (find : ℕ → Option A) (fault other stop : Fault) (reading : Reading (List ℕ))
    → Tested value (λ _. true) other reading ≡ Err stop → Found value find fault reading ≡ Err stop
value_lacks value find fault other stop (Ok field) read = absurd (cc)
value_lacks value find fault other stop (Err first) read = let same : first ≡ stop = cc in rw same refl

-- a number with a fault of its own that passes its test
pub or_passes : (fault : Fault) (w : Width) (test : ℕ → Bool) (rest next : Rest) (n : ℕ) → number_field w is_any rest ≡ Ok (n, next) → test n ≡ true → number_or fault w test rest ≡ Ok (n, next)
or_passes fault w test rest next n read passes =
    value_found (from_le_bytes w) (passing test) fault (rest.place, faults.range) (bytes_field (byte_len w) rest) n next n read (rw passes refl)

-- one that doesn't
pub or_fails : (fault : Fault) (w : Width) (test : ℕ → Bool) (rest next : Rest) (n : ℕ) → number_field w is_any rest ≡ Ok (n, next) → test n ≡ false → number_or fault w test rest ≡ Err fault
or_fails fault w test rest next n read fails =
    none_found (from_le_bytes w) (passing test) fault (rest.place, faults.range) (bytes_field (byte_len w) rest) n next read (rw fails refl)

-- and one that isn't there
pub or_lacks : (fault stop : Fault) (w : Width) (test : ℕ → Bool) (rest : Rest) → number_field w is_any rest ≡ Err stop → number_or fault w test rest ≡ Err stop
or_lacks fault stop w test rest read =
    value_lacks (from_le_bytes w) (passing test) fault (rest.place, faults.range) stop (bytes_field (byte_len w) rest) read

-- the state that a number stands for, if the superblock may be in it
abbrev find_state : Head → ℕ → List BlockBase → ℕ → Option SbState
find_state head channel before n = option_map_or (passing (may_follow head channel before)) (state_of_number n) None

pub state_passes : (head : Head) (channel : ℕ) (before : List BlockBase) (rest next : Rest) (n : ℕ) (state : SbState)
    → number_field w8 is_any rest ≡ Ok (n, next) → state_of_number n ≡ Some state → may_follow head channel before state ≡ true
    → state_after head channel before rest ≡ Ok (state, next)
state_passes head channel before rest next n state read stands may =
    value_found (from_le_bytes w8) (find_state head channel before) (rest.place, faults.state) (rest.place, faults.range) (bytes_field 1 rest) n next state read
    (ap (λ (o : Option SbState). option_map_or (passing (may_follow head channel before)) o None) stands ∙ rw may refl)

-- there is no state with a number
pub state_lacks : (head : Head) (channel : ℕ) (before : List BlockBase) (rest next : Rest) (n : ℕ)
    → number_field w8 is_any rest ≡ Ok (n, next) → state_of_number n ≡ None → state_after head channel before rest ≡ Err (rest.place, faults.state)
state_lacks head channel before rest next n read none =
    none_found (from_le_bytes w8) (find_state head channel before) (rest.place, faults.state) (rest.place, faults.range) (bytes_field 1 rest) n next read
    (ap (λ (o : Option SbState). option_map_or (passing (may_follow head channel before)) o None) none)

-- the superblock may not be in the state
pub state_fails : (head : Head) (channel : ℕ) (before : List BlockBase) (rest next : Rest) (n : ℕ) (state : SbState)
    → number_field w8 is_any rest ≡ Ok (n, next) → state_of_number n ≡ Some state → may_follow head channel before state ≡ false
    → state_after head channel before rest ≡ Err (rest.place, faults.state)
state_fails head channel before rest next n state read stands may =
    none_found (from_le_bytes w8) (find_state head channel before) (rest.place, faults.state) (rest.place, faults.range) (bytes_field 1 rest) n next read
    (ap (λ (o : Option SbState). option_map_or (passing (may_follow head channel before)) o None) stands ∙ rw may refl)

-- the number isn't there
pub state_ends : (head : Head) (channel : ℕ) (before : List BlockBase) (rest : Rest) (stop : Fault)
    → number_field w8 is_any rest ≡ Err stop → state_after head channel before rest ≡ Err stop
state_ends head channel before rest stop read =
    value_lacks (from_le_bytes w8) (find_state head channel before) (rest.place, faults.state) (rest.place, faults.range) stop (bytes_field 1 rest) read

-- a page's word, whose codewords each fail no check
pub word_passes : (head : Head) (rest next : Rest) (word : List ℕ) → bytes_field (word_bytes_of head.sizes) rest ≡ Ok (word, next) → is_page_word head word ≡ true → word_field head rest ≡ Ok (word, next)
word_passes head rest next word read right = rw (read, right) refl

pub word_fails : (head : Head) (rest next : Rest) (word : List ℕ) → bytes_field (word_bytes_of head.sizes) rest ≡ Ok (word, next) → is_page_word head word ≡ false → word_field head rest ≡ Err (rest.place, faults.sum)
word_fails head rest next word read wrong = rw (read, wrong) refl

pub word_lacks : (head : Head) (rest : Rest) (stop : Fault) → bytes_field (word_bytes_of head.sizes) rest ≡ Err stop → word_field head rest ≡ Err stop
word_lacks head rest stop read = rw read refl
