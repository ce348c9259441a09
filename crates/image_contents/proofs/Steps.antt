-- The steps of the lists of contents: one more item goes on, one that isn't there stops the list, and the list ends.
use Rattle.std.proofs.Common.{◌≡◌, ℕ, ℤ, suc, List, [], ◌∷◌, ◌++◌, length, Ok, Err, refl, sym, ap}
use Rattle.std.specs.Int.{w16}
use Rattle.ssd_formats.specs.Fields.{Fault, Reading, Rest, ◌>>=◌, level_fields, number_or}
use Rattle.ssd_formats.specs.ImageContents.{SavedBlock, block_fields, blocks_fields, die_fields, is_programmed_count, page_fields, programmed_fields, row_field, row_fields}
use Rattle.ssd_formats.specs.ImageHead.{Head}
use Rattle.ssd_formats.specs.InputFaults as faults
use Rattle.ssd_geo.specs.Limits.{Sizes}
use Rattle.ssd_geo.specs.declared.base.BlockBase.{BlockBase}
use Rattle.ssd_geo.specs.declared.row.Row.{Row}
use Rattle.ssd_geo.specs.declared.superblock.SbState.{SbState}

-- numbers of programmed pages
pub counts_more : (sizes : Sizes) (state : SbState) (sb used n m : ℕ) (before : List ℕ) (rest next : Rest) (x : ℕ) → n ≡ suc m
    → number_or (rest.place, faults.count) w16 (is_programmed_count sizes state sb used (length before)) rest ≡ Ok (x, next)
    → programmed_fields sizes state sb used m (before ++ x ∷ []) next ≡ programmed_fields sizes state sb used n before rest
unfolding programmed_fields
counts_more sizes state sb used n m before rest next x long read = rw (long, read) refl

pub counts_lack : (sizes : Sizes) (state : SbState) (sb used n m : ℕ) (before : List ℕ) (rest : Rest) (fault : Fault) → n ≡ suc m
    → number_or (rest.place, faults.count) w16 (is_programmed_count sizes state sb used (length before)) rest ≡ Err fault
    → programmed_fields sizes state sb used n before rest ≡ Err fault
unfolding programmed_fields
counts_lack sizes state sb used n m before rest fault long read = rw (long, read) refl

pub counts_end : (sizes : Sizes) (state : SbState) (sb used n : ℕ) (before : List ℕ) (rest : Rest) → n ≡ 0
    → programmed_fields sizes state sb used n before rest ≡ Ok (before, rest)
unfolding programmed_fields
counts_end sizes state sb used n before rest none = rw none refl

-- pages of a block
pub page_more : (cells : ℕ) (before : List (List ℤ)) (rest next : Rest) (x : List ℤ) → level_fields cells [] rest ≡ Ok (x, next)
    → page_fields cells 1 before rest ≡ Ok (before ++ x ∷ [], next)
unfolding page_fields
page_more cells before rest next x read = rw read refl

pub page_lacks : (cells : ℕ) (before : List (List ℤ)) (rest : Rest) (fault : Fault) → level_fields cells [] rest ≡ Err fault
    → page_fields cells 1 before rest ≡ Err fault
unfolding page_fields
page_lacks cells before rest fault read = rw read refl

-- the next page of several, as it is read and as all go on
next_page : (cells m : ℕ) (before pages : List (List ℤ)) (next : Rest) (read : Reading (List ℤ))
    → (read >>= (λ page. page_fields cells 0 (before ++ page.0 ∷ []) page.1)) ≡ Ok (pages, next)
    → page_fields cells m pages next ≡ (read >>= (λ page. page_fields cells m (before ++ page.0 ∷ []) page.1))
unfolding page_fields
next_page cells m before pages next (Ok page) is =
    let one : List (List ℤ) × Rest = (before ++ page.0 ∷ [], page.1) in
    let two : List (List ℤ) × Rest = (pages, next) in
    let same : one ≡ two = cc in ap (λ p. page_fields cells m p.0 p.1) (sym same)
next_page cells m before pages next (Err fault) is = absurd (cc)

no_next_page : (cells m : ℕ) (before : List (List ℤ)) (fault : Fault) (read : Reading (List ℤ))
    → (read >>= (λ page. page_fields cells 0 (before ++ page.0 ∷ []) page.1)) ≡ Err fault
    → (read >>= (λ page. page_fields cells m (before ++ page.0 ∷ []) page.1)) ≡ Err fault
unfolding page_fields
no_next_page cells m before fault (Ok page) is = absurd (cc)
no_next_page cells m before fault (Err other) is = let same : other ≡ fault = cc in rw same refl

pub pages_more : (cells n m : ℕ) (before pages : List (List ℤ)) (rest next : Rest) → n ≡ suc m
    → page_fields cells 1 before rest ≡ Ok (pages, next) → page_fields cells m pages next ≡ page_fields cells n before rest
unfolding page_fields
pages_more cells n m before pages rest next long read =
    rw long (next_page cells m before pages next (level_fields cells [] rest) read)

pub pages_lack : (cells n m : ℕ) (before : List (List ℤ)) (rest : Rest) (fault : Fault) → n ≡ suc m
    → page_fields cells 1 before rest ≡ Err fault → page_fields cells n before rest ≡ Err fault
unfolding page_fields
pages_lack cells n m before rest fault long read =
    rw long (no_next_page cells m before fault (level_fields cells [] rest) read)

pub pages_end : (cells n : ℕ) (before : List (List ℤ)) (rest : Rest) → n ≡ 0 → page_fields cells n before rest ≡ Ok (before, rest)
unfolding page_fields
pages_end cells n before rest none = rw none refl

-- the blocks of a superblock, die by die
pub dies_more : (cells count : ℕ) (counts others : List ℕ) (before : List (List (List ℤ))) (rest next : Rest) (pages : List (List ℤ))
    → counts ≡ count ∷ others → page_fields cells count [] rest ≡ Ok (pages, next)
    → die_fields cells others (before ++ pages ∷ []) next ≡ die_fields cells counts before rest
unfolding die_fields
dies_more cells count counts others before rest next pages are read = rw (are, read) refl

pub dies_lack : (cells count : ℕ) (counts others : List ℕ) (before : List (List (List ℤ))) (rest : Rest) (fault : Fault)
    → counts ≡ count ∷ others → page_fields cells count [] rest ≡ Err fault → die_fields cells counts before rest ≡ Err fault
unfolding die_fields
dies_lack cells count counts others before rest fault are read = rw (are, read) refl

pub dies_end : (cells : ℕ) (counts : List ℕ) (before : List (List (List ℤ))) (rest : Rest) → counts ≡ []
    → die_fields cells counts before rest ≡ Ok (before, rest)
unfolding die_fields
dies_end cells counts before rest none = rw none refl

-- superblocks
pub blocks_more : (head : Head) (channel n m : ℕ) (before : List SavedBlock) (rest next : Rest) (x : SavedBlock) → n ≡ suc m
    → block_fields head channel before rest ≡ Ok (x, next)
    → blocks_fields head channel m (before ++ x ∷ []) next ≡ blocks_fields head channel n before rest
unfolding blocks_fields
blocks_more head channel n m before rest next x long read = rw (long, read) refl

pub blocks_lack : (head : Head) (channel n m : ℕ) (before : List SavedBlock) (rest : Rest) (fault : Fault) → n ≡ suc m
    → block_fields head channel before rest ≡ Err fault → blocks_fields head channel n before rest ≡ Err fault
unfolding blocks_fields
blocks_lack head channel n m before rest fault long read = rw (long, read) refl

pub blocks_end : (head : Head) (channel n : ℕ) (before : List SavedBlock) (rest : Rest) → n ≡ 0
    → blocks_fields head channel n before rest ≡ Ok (before, rest)
unfolding blocks_fields
blocks_end head channel n before rest none = rw none refl

-- rows
pub rows_more : (sizes : Sizes) (blocks : List BlockBase) (n m : ℕ) (before : List Row) (rest next : Rest) (x : Row) → n ≡ suc m
    → row_field sizes blocks before rest ≡ Ok (x, next)
    → row_fields sizes blocks m (before ++ x ∷ []) next ≡ row_fields sizes blocks n before rest
unfolding row_fields
rows_more sizes blocks n m before rest next x long read = rw (long, read) refl

pub rows_lack : (sizes : Sizes) (blocks : List BlockBase) (n m : ℕ) (before : List Row) (rest : Rest) (fault : Fault) → n ≡ suc m
    → row_field sizes blocks before rest ≡ Err fault → row_fields sizes blocks n before rest ≡ Err fault
unfolding row_fields
rows_lack sizes blocks n m before rest fault long read = rw (long, read) refl

pub rows_end : (sizes : Sizes) (blocks : List BlockBase) (n : ℕ) (before : List Row) (rest : Rest) → n ≡ 0
    → row_fields sizes blocks n before rest ≡ Ok (before, rest)
unfolding row_fields
rows_end sizes blocks n before rest none = rw none refl
