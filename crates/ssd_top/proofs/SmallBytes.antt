-- The bytes of a page's payload and those of its word are small.
use Rattle.std.proofs.Common.{ℕ, zero, suc, ◌+◌, ◌-◌, ◌<◌, ◌++◌, replicate, List, [], ◌∷◌, length, arith}
use Rattle.std.specs.List.{AllByRecursion}
use Rattle.ssd_geo.specs.PageHead.{head_of_page, payload_of_page}

abbrev pub AreSmall : List ℕ → Type 0
AreSmall bytes = AllByRecursion (λ byte. byte < 256) bytes

pub append_small : (xs ys : List ℕ) → AreSmall xs → AreSmall ys → AreSmall (xs ++ ys)
append_small [] ys of_xs of_ys = of_ys
append_small (x ∷ xs) ys of_xs of_ys = (of_xs.0, append_small xs ys of_xs.1 of_ys)

zeros_small : (n : ℕ) → AreSmall (replicate n 0)
zeros_small zero = tt
zeros_small (suc n) = (omega arith, zeros_small n)

-- the bytes listed and the zeros after them
pub padded_small : (listed : List ℕ) (n : ℕ) → AreSmall listed → AreSmall (listed ++ replicate n 0)
padded_small listed n small = append_small listed (replicate n 0) small (zeros_small n)

-- the head of any serial and row has small bytes
head_small : (serial row : ℕ) → AreSmall (head_of_page serial row)
head_small serial row =
    (omega arith, (omega arith, (omega arith, (omega arith, (omega arith, (omega arith, (omega arith, (omega arith, (omega arith, (omega arith, (omega arith, (omega arith, (omega arith, (omega arith, (omega arith, (omega arith, tt))))))))))))))))

pub payload_small : (payload_length serial row : ℕ) (data_bytes : List ℕ) → AreSmall data_bytes → AreSmall (payload_of_page payload_length serial row data_bytes)
payload_small payload_length serial row data_bytes small =
    append_small (head_of_page serial row) (data_bytes ++ replicate (payload_length - (16 + length data_bytes)) 0) (head_small serial row)
    (padded_small data_bytes (payload_length - (16 + length data_bytes)) small)
