-- Reading cycles from a place on, one at a time.
use Rattle.std.proofs.Common.{◌≡◌, ℕ, ◌+◌, ◌<◌, ◌≤◌, true, false, Option, Some, List, [], ◌∷◌, length, get_or, drop, add-one, drop-cons}
use Rattle.std.proofs.Math.ListN.{drop_of_length-le}
use Rattle.onfi_cmd.specs.declared.cycle.Cycle.{Cycle}
use Rattle.onfi_cmd.specs.declared.cycle.Cycle.TheVariants.{Byte}
use Rattle.onfi_cmd.specs.declared.cycle_fault.CycleFault.{CycleFault}
use Rattle.onfi_cmd.specs.declared.cycle_fault.CycleFault.TheVariants.{Short, Wrong, Extra}
use Rattle.onfi_cmd.specs.declared.reading.Expected.{Expected}
use Rattle.onfi_cmd.specs.declared.reading.Expected.TheVariants.{AnyAddress}
use Rattle.onfi_cmd.specs.Reading.{is_as_expected, end_fault, first_fault}

-- what is left from a place on begins with the cycle at that place
pub drop-next : {X : Type 0} (xs : List X) (i : ℕ) (d : X) → i < length xs → drop i xs ≡ get_or xs i d ∷ drop (i + 1) xs
drop-next xs i d h = rw (add-one i, drop-cons xs i d)

-- nothing is left from the end on
pub drop-end : {X : Type 0} (xs : List X) (i : ℕ) → length xs ≤ i → drop i xs ≡ []
drop-end xs i h = drop_of_length-le xs h

-- a cycle at the place is one too many
pub end_fault-extra : (cycles : List Cycle) (place : ℕ) → place < length cycles →
    end_fault place (drop place cycles) ≡ Some (Extra place)
end_fault-extra cycles place h = rw (drop-next cycles place (Byte 0) h)

-- where kind i is expected: a cycle of that kind is passed
pub first_fault-passed : (rest : ℕ → List Cycle → Option CycleFault) (kinds : List Expected) (i : ℕ) (kind : Expected)
    (cycles : List Cycle) (place : ℕ) (cycle : Cycle) → i < length kinds → place < length cycles →
    is_as_expected (get_or kinds i kind) (get_or cycles place cycle) ≡ true →
    first_fault rest (drop i kinds) place (drop place cycles)
    ≡ first_fault rest (drop (i + 1) kinds) (place + 1) (drop (place + 1) cycles)
first_fault-passed rest kinds i kind cycles place cycle more h passes =
    rw (drop-next kinds i kind more, drop-next cycles place cycle h, passes)

-- a cycle of another kind is wrong
pub first_fault-wrong : (rest : ℕ → List Cycle → Option CycleFault) (kinds : List Expected) (i : ℕ) (kind : Expected)
    (cycles : List Cycle) (place : ℕ) (cycle : Cycle) → i < length kinds → place < length cycles →
    is_as_expected (get_or kinds i kind) (get_or cycles place cycle) ≡ false →
    first_fault rest (drop i kinds) place (drop place cycles) ≡ Some (Wrong place)
first_fault-wrong rest kinds i kind cycles place cycle more h fails =
    rw (drop-next kinds i kind more, drop-next cycles place cycle h, fails)

-- the cycles end too early
pub first_fault-short : (rest : ℕ → List Cycle → Option CycleFault) (kinds : List Expected) (i : ℕ)
    (cycles : List Cycle) (place : ℕ) → i < length kinds → length cycles ≤ place →
    first_fault rest (drop i kinds) place (drop place cycles) ≡ Some (Short place)
first_fault-short rest kinds i cycles place more h = rw (drop-next kinds i AnyAddress more, drop-end cycles place h)
