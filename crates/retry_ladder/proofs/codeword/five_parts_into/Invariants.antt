use Rattle.std.proofs.Common.{◌≡◌, map}
use Rattle.std.specs.List.{range_with_len}
use Rattle.ssd_geo.specs.Senses.{sense_in}
use Rattle.ssd_geo.specs.Shape.{sizes_of}
use Rattle.retry_ladder.proofs.PageCodes.{parts_so_far}
use Rattle.retry_ladder.proofs.codeword.five_parts_into.Given as goal

-- the parts that were taken out of the senses so far
abbrev pub invariant-loop-k : goal.invariant-loop-k
invariant-loop-k l =
    map (sense_in l.code l.bits) (range_with_len 0 l.k) ≡ parts_so_far (sizes_of l.shape) l.page l.five l.f l.k
