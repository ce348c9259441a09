use Rattle.std.proofs.Common.{[], map, subst, sym}
use Rattle.std.specs.Prelude.{All}
use Rattle.ssd_geo.proofs.SenseValues.{values_are_taken}
use Rattle.ssd_geo.specs.Coding.{word_bytes_in}
use Rattle.ssd_geo.specs.Limits.{code_bytes_of}
use Rattle.ssd_geo.specs.PageWord.{code_in}
use Rattle.ssd_geo.specs.RowRule.{IsWithin}
use Rattle.ssd_geo.specs.Senses.{five_senses}
use Rattle.ssd_geo.specs.Shape.{sizes_of}
use Rattle.retry_ladder.proofs.codeword.values_into.Goals as goal

pub returns-in-Hard-clause-within : goal.returns-in-Hard-clause-within
returns-in-Hard-clause-within c = subst (All (IsWithin 127)) (sym c.hard_values_into.ensures) (values_are_taken _ 0 []).hard

pub returns-in-Soft-clause-within : goal.returns-in-Soft-clause-within
returns-in-Soft-clause-within c =
    subst (All (IsWithin 127)) (sym c.soft_values_into.ensures)
    (values_are_taken [] (code_bytes_of (sizes_of c.args.shape.now))
    (map (λ sense. code_in (sizes_of c.args.shape.now) sense c.args.f)
    (five_senses (word_bytes_in c.args.shape.now) c.args.senses.now))).soft
