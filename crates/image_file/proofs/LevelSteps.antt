-- The steps of the lists of a head.
use Rattle.std.proofs.Common.{◌≡◌, ℕ, ℤ, suc, List, [], ◌∷◌, ◌++◌, Ok, Err, refl, sym, subst, ◌∙◌}
use Rattle.ssd_formats.specs.Fields.{Fault, Reading, Rest, level_fields, signed_field}
use Rattle.ssd_geo.specs.Limits.{Sizes, is_level}
use Rattle.ssd_formats.specs.ImageHead.{weak_record, weak_records, bad_record, bad_records}
use Rattle.ssd_geo.specs.declared.weak.Weak.{Weak}
use Rattle.image_file.specs.declared.stop.ImageFault.{ImageFault}
use Rattle.image_file.specs.declared.stop.ReadStop.{ReadStop}
use Rattle.image_file.specs.declared.stop.ReadStop.TheVariants.{Fault as FaultAt, ReadFault, DieFailed, Memory}
use Rattle.image_file.specs.Gives.{StopsAt, named_fault}
use Rattle.image_file.specs.StopCauses.{StopHasCause}

-- one more level
pub level_more : (n m : ℕ) (before : List ℤ) (rest next : Rest) (x : ℤ) → n ≡ suc m → signed_field is_level rest ≡ Ok (x, next) → level_fields m (before ++ x ∷ []) next ≡ level_fields n before rest
unfolding level_fields
level_more n m before rest next x long read = rw (long, read) refl

-- a level that isn't there
pub level_lacks : (n m : ℕ) (before : List ℤ) (rest : Rest) (fault : Fault) → n ≡ suc m → signed_field is_level rest ≡ Err fault → level_fields n before rest ≡ Err fault
unfolding level_fields
level_lacks n m before rest fault long read = rw (long, read) refl

-- the end of the list
pub levels_end : (n : ℕ) (before : List ℤ) (rest : Rest) → n ≡ 0 → level_fields n before rest ≡ Ok (before, rest)
unfolding level_fields
levels_end n before rest none = rw none refl

-- what stops a level stops the list
pub level_stops : (stop : ReadStop ImageFault) (n m : ℕ) (before : List ℤ) (rest : Rest) (whole : Reading (List ℤ)) → n ≡ suc m → StopsAt stop (signed_field is_level rest) → level_fields n before rest ≡ whole → StopsAt stop whole
level_stops (FaultAt at fault) n m before rest whole long read same =
    sym same ∙ level_lacks n m before rest (at, named_fault fault) long read
level_stops ReadFault n m before rest whole long read same = tt
level_stops (DieFailed die) n m before rest whole long read same = absurd read
level_stops Memory n m before rest whole long read same = tt

-- the steps of the weak records
pub weak_more : (sizes : Sizes) (n m : ℕ) (before : List Weak) (rest next : Rest) (x : Weak) → n ≡ suc m → weak_record sizes before rest ≡ Ok (x, next) → weak_records sizes m (before ++ x ∷ []) next ≡ weak_records sizes n before rest
unfolding weak_records
weak_more sizes n m before rest next x long read = rw (long, read) refl

pub weak_lacks : (sizes : Sizes) (n m : ℕ) (before : List Weak) (rest : Rest) (fault : Fault) → n ≡ suc m → weak_record sizes before rest ≡ Err fault → weak_records sizes n before rest ≡ Err fault
unfolding weak_records
weak_lacks sizes n m before rest fault long read = rw (long, read) refl

pub weak_end : (sizes : Sizes) (n : ℕ) (before : List Weak) (rest : Rest) → n ≡ 0 → weak_records sizes n before rest ≡ Ok (before, rest)
unfolding weak_records
weak_end sizes n before rest none = rw none refl

pub weak_stops : (sizes : Sizes) (stop : ReadStop ImageFault) (n m : ℕ) (before : List Weak) (rest : Rest) (whole : Reading (List Weak)) → n ≡ suc m → StopsAt stop (weak_record sizes before rest) → weak_records sizes n before rest ≡ whole → StopsAt stop whole
weak_stops sizes (FaultAt at fault) n m before rest whole long read same =
    sym same ∙ weak_lacks sizes n m before rest (at, named_fault fault) long read
weak_stops sizes ReadFault n m before rest whole long read same = tt
weak_stops sizes (DieFailed die) n m before rest whole long read same = absurd read
weak_stops sizes Memory n m before rest whole long read same = tt

-- the steps of the bad records
pub bad_more : (sizes : Sizes) (n m : ℕ) (before : List (ℕ × ℕ)) (rest next : Rest) (x : (ℕ × ℕ)) → n ≡ suc m → bad_record sizes before rest ≡ Ok (x, next) → bad_records sizes m (before ++ x ∷ []) next ≡ bad_records sizes n before rest
unfolding bad_records
bad_more sizes n m before rest next x long read = rw (long, read) refl

pub bad_lacks : (sizes : Sizes) (n m : ℕ) (before : List (ℕ × ℕ)) (rest : Rest) (fault : Fault) → n ≡ suc m → bad_record sizes before rest ≡ Err fault → bad_records sizes n before rest ≡ Err fault
unfolding bad_records
bad_lacks sizes n m before rest fault long read = rw (long, read) refl

pub bad_end : (sizes : Sizes) (n : ℕ) (before : List (ℕ × ℕ)) (rest : Rest) → n ≡ 0 → bad_records sizes n before rest ≡ Ok (before, rest)
unfolding bad_records
bad_end sizes n before rest none = rw none refl

pub bad_stops : (sizes : Sizes) (stop : ReadStop ImageFault) (n m : ℕ) (before : List (ℕ × ℕ)) (rest : Rest) (whole : Reading (List (ℕ × ℕ))) → n ≡ suc m → StopsAt stop (bad_record sizes before rest) → bad_records sizes n before rest ≡ whole → StopsAt stop whole
bad_stops sizes (FaultAt at fault) n m before rest whole long read same =
    sym same ∙ bad_lacks sizes n m before rest (at, named_fault fault) long read
bad_stops sizes ReadFault n m before rest whole long read same = tt
bad_stops sizes (DieFailed die) n m before rest whole long read same = absurd read
bad_stops sizes Memory n m before rest whole long read same = tt

-- a cause in a later part is one in the whole
pub cause_earlier : (stop : ReadStop ImageFault) (first before now : ℕ) → before ≡ first → StopHasCause before now stop → StopHasCause first now stop
cause_earlier stop first before now same cause = subst (λ (n : ℕ). StopHasCause n now stop) same cause
