use Rattle.std.proofs.Common.{◌≡◌, ap, sym, ◌∙◌, arith, map, ℕ}
use Rattle.ssd_geo.specs.Coding.{word_bytes_in}
use Rattle.ssd_geo.specs.declared.shape.Shape.{Shape}
use Rattle.chan_dies.specs.DiesState.{DiesState}
use Rattle.chan_dies.proofs.KeptSums.{cleared_bytes, seen_program, sum_bytes_stay, sum_cleared, sum_kept}
use Rattle.chan_dies.proofs.dies.Dies.program.Goals as goal

pub program_dies-end-requires-clause-sum : goal.program_dies-end-requires-clause-sum
program_dies-end-requires-clause-sum g c =
    let shape_is : c.self.inside.shape ≡ c.args.self.now.shape = ap {B = Shape} (λ (dies : DiesState). dies.shape) c.self.view_is in
    sum_bytes_stay (word_bytes_in c.self.inside.shape) c.self.inside.sum c.args.word.now c.bytes.result.now c.self.invariant.sum_bytes
    (c.requires.word ∙ ap {B = ℕ} (λ (shape : Shape). word_bytes_in shape) (sym shape_is)) (c.bytes.ensures ∙ c.add.ensures)

pub invariant_of-self : goal.invariant_of-self
invariant_of-self g c =
    let shape_is : c.self.inside.shape ≡ c.args.self.now.shape = ap {B = Shape} (λ (dies : DiesState). dies.shape) c.self.view_is in
    let size = sum_bytes_stay (word_bytes_in c.self.inside.shape) c.self.inside.sum c.args.word.now c.add.new.self c.self.invariant.sum_bytes
    (c.requires.word ∙ ap {B = ℕ} (λ (shape : Shape). word_bytes_in shape) (sym shape_is)) c.add.ensures in
    record {
      mounted = c.program_dies-end.ensures.mounted;
      sum_bytes = (cleared_bytes (word_bytes_in c.self.inside.shape) c.add.new.self c.clear.new.self size c.clear.ensures).1;
      has_room = omega (arith, c.self.invariant.has_room, c.program_dies-end.ensures.room);
    }

pub invariant_of-self-else-not-is_open_after : goal.invariant_of-self-else-not-is_open_after
invariant_of-self-else-not-is_open_after g c =
    let shape_is : c.self.inside.shape ≡ c.args.self.now.shape = ap {B = Shape} (λ (dies : DiesState). dies.shape) c.self.view_is in
    record {
      mounted = c.program_dies-end.ensures.mounted;
      sum_bytes = sum_bytes_stay (word_bytes_in c.self.inside.shape) c.self.inside.sum c.args.word.now c.add.new.self c.self.invariant.sum_bytes
          (c.requires.word ∙ ap {B = ℕ} (λ (shape : Shape). word_bytes_in shape) (sym shape_is)) c.add.ensures;
      has_room = omega (arith, c.self.invariant.has_room, c.program_dies-end.ensures.room);
    }

pub returns-then-not-is_open_after : goal.returns-then-not-is_open_after
returns-then-not-is_open_after g c =
    let shape_is : c.self.inside.shape ≡ c.args.self.now.shape = ap {B = Shape} (λ (dies : DiesState). dies.shape) c.self.view_is in
    let size = sum_bytes_stay (word_bytes_in c.self.inside.shape) c.self.inside.sum c.args.word.now c.add.new.self c.self.invariant.sum_bytes
    (c.requires.word ∙ ap {B = ℕ} (λ (shape : Shape). word_bytes_in shape) (sym shape_is)) c.add.ensures in
    seen_program c.self.inside.shape (map g.D.Die.state c.self.inside.dies.items) (map g.D.Die.state c.program_dies-end.new.dies.items)
    c.self.inside.sum c.bytes.result.now c.clear.new.self c.args.self.now c.args.slot c.args.word.now c.program_dies-end.result
    c.self.view_is (c.bytes.ensures ∙ c.add.ensures) c.program_dies-end.ensures.end
    ((cleared_bytes (word_bytes_in c.self.inside.shape) c.add.new.self c.clear.new.self size c.clear.ensures).0
    ∙ sym (sum_cleared c.self.inside.shape c.args.slot c.bytes.result.now c.program_dies-end.result
    (sym c.is_open_after.ensures ∙ c.if-not-is_open_after.true)))

pub returns-else-not-is_open_after : goal.returns-else-not-is_open_after
returns-else-not-is_open_after g c =
    seen_program c.self.inside.shape (map g.D.Die.state c.self.inside.dies.items) (map g.D.Die.state c.program_dies-end.new.dies.items)
    c.self.inside.sum c.bytes.result.now c.add.new.self c.args.self.now c.args.slot c.args.word.now c.program_dies-end.result
    c.self.view_is (c.bytes.ensures ∙ c.add.ensures) c.program_dies-end.ensures.end
    (sym c.bytes.ensures ∙ sym (sum_kept c.self.inside.shape c.args.slot c.bytes.result.now c.program_dies-end.result
    (sym c.is_open_after.ensures ∙ c.if-not-is_open_after.false)))
