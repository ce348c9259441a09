-- Which numbers of a line fit 64 bits, and which pass a test? A number of any length may be well spelled: its spelling is
-- tested first, and then its value.
use Rattle.std.specs.Prelude.{ℕ, ◌^◌, Bool, nat_lt, ok_or, Option, Result, Ok, Err}
use Rattle.ssd_formats.specs.Fields.{◌>>=◌, is_below, passing}
use Rattle.ssd_formats.specs.InputFaults.{TraceFault}
use Rattle.ssd_formats.specs.Numbers.{Text}
use Rattle.ssd_formats.specs.TraceText.{number_word}

-- a number where it fits 64 bits
abbrev pub fitting : ℕ → Option ℕ
fitting n = passing (is_below (2 ^ 64)) n

-- a number as it was read, where it fits
abbrev pub fitting_number : Result ℕ TraceFault → Result (Option ℕ) TraceFault
fitting_number (Ok n) = Ok (fitting n)
fitting_number (Err fault) = Err fault

-- a number that passes a test; this fault where it is a number and doesn't
abbrev pub tested_word : (ℕ → Bool) → TraceFault → Text → Result ℕ TraceFault
tested_word test fault word = number_word word >>= (λ n. ok_or (passing test n) fault)
