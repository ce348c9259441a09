use Rattle.std.proofs.Common.{◌≡◌, ℕ, ◌≤◌, false, All}
use Rattle.ssd_geo.specs.Codewords.{is_codeword}
use Rattle.ssd_geo.specs.Decoding.{after_iterations, decided_after}
use Rattle.ssd_geo.specs.RowRule.{IsWithin}
use Rattle.ldpc_decode.specs.View.{work_size}
use Rattle.ldpc_decode.proofs.search.search.Given as goal

abbrev pub invariant-loop-before : goal.invariant-loop-before
invariant-loop-before l =
    ((l.p, l.r) ≡ after_iterations l.code l.values l.before)
    × All (IsWithin 222) l.p
    × All (IsWithin 95) l.r
    × ((k : ℕ) → k ≤ l.before → is_codeword l.code (decided_after l.code l.values k) ≡ false)
    × (l.word ≡ l.initial.word)
    × (l.done ≡ l.before)
    × (l.work ≡ work_size l.code)
