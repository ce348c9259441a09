use Rattle.std.proofs.Common.{◌≡◌, List, [], ◌∷◌, ◌++◌, nat_lt, true, ap, subst, ◌∙◌, rules}
use Rattle.ssd_formats.proofs.HeadLaws.{below_is}
use Rattle.ssd_histories.specs.PageMap.{names_within}
use Rattle.ssd_geo.specs.declared.row.Row.{Row}
use Rattle.ssd_geo.specs.declared.row.Row.TheVariants.{Page}
use Rattle.image_contents.proofs.MarkedSlots.{slot_marked}
use Rattle.image_contents.proofs.named.NamedRows.push.Goals as goal
use Rattle.std.proofs.lemmas.Bool.{and_parts}

pub invariant_of-self-in-Page : goal.invariant_of-self-in-Page
invariant_of-self-in-Page c =
    let old = c.args.self.now in
    let rows : List Row = old.rows.items in
    let slot = c.in-Page.slot in
    let added : c.push.new.self.items ≡ rows ++ c.args.row ∷ [] = search rules in
    let is : c.args.row ≡ Page slot c.in-Page.serial = c.in-Page.is in
    let pushed : c.push.new.self.items ≡ rows ++ Page slot c.in-Page.serial ∷ [] = added ∙ ap (λ (row : Row). rows ++ row ∷ []) is in
    let within : names_within old.superblocks old.slots (Page slot c.in-Page.serial) ≡ true =
    subst (λ (row : Row). names_within old.superblocks old.slots row ≡ true) is c.requires in
    let both = and_parts (nat_lt slot.sb old.superblocks) (nat_lt slot.index old.slots) within in
    record {
      marked =
          rw pushed (slot_marked old.superblocks old.slots c.in-Page.serial rows old.marks.items slot (below_is old.superblocks slot.sb both.0)
          (below_is old.slots slot.index both.1) old.marked);
    }
