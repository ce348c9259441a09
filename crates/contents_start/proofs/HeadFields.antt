-- What a base has from the head of its image is in range, whatever the image tells of its channel.
use Rattle.std.proofs.Common.{◌≡◌, refl, ap, sym, ◌∙◌, ℕ, ◌*◌, ◌^◌, ◌≤◌, ◌<◌, ◌&&◌, nat_lt, Bool, true, List, [], ◌∷◌, ◌++◌, length, ℤ, pos, neg_ℤ, int_le, int_lt, Option, is_none, arith}
use Rattle.std.specs.List.{list_all}
use Rattle.ssd_geo.specs.BaseMatrix as BaseMatrix
use Rattle.ssd_geo.specs.BaseMatrix.{BaseMatrix, first_fault}
use Rattle.ssd_geo.specs.Coding.{matrix_of}
use Rattle.ssd_geo.specs.Limits.{Sizes, is_level, is_within}
use Rattle.ssd_geo.specs.declared.base.ChannelBase.{ChannelBase}
use Rattle.ssd_geo.specs.declared.cell_law.CellLaw.{CellLaw}
use Rattle.ssd_geo.specs.declared.weak.Weak.{Weak}
use Rattle.ssd_histories.specs.Standing.{HasFields}
use Rattle.ssd_formats.specs.ImageContents.{ChannelImage, IsBaseOf}
use Rattle.ssd_formats.specs.ImageHead.{Head, IsHead, are_weak_records, comes_after, is_weak_before, is_weak_record, matrix_of_head}
use Rattle.ssd_formats.proofs.HeadLaws.{below_is, within_is}
use Rattle.std.proofs.lemmas.Bool.{and_parts}

-- its matrix
abbrev matrix_by : Sizes → List ℤ → BaseMatrix
matrix_by sizes entries = record { z = sizes.z; mb = sizes.mb; nb = sizes.nb; entries = entries }

pub matrix_is : (head : Head) (channel : ℕ) (saved : ChannelImage) (base : ChannelBase) → IsBaseOf head channel saved base
    → matrix_of base ≡ matrix_of_head head
matrix_is head channel saved base b =
    ap (λ (sizes : Sizes). matrix_by sizes base.entries) b.shape ∙ ap (matrix_by head.sizes) b.entries

matrix_accepted : (head : Head) (channel : ℕ) (saved : ChannelImage) (base : ChannelBase) → IsHead head
    → IsBaseOf head channel saved base → BaseMatrix.IsAccepted (matrix_of base)
matrix_accepted head channel saved base h b =
    record {
      within = record {
        z_low = base.shape.within.lifting_low;
        z_high = base.shape.within.lifting_high;
        mb_low = base.shape.within.base_rows_low;
        mb_high = base.shape.within.base_rows_high;
        nb_low = omega (arith, base.shape.within.base_columns_low);
        nb_high = base.shape.within.base_columns_high;
        entries =
            ap (λ (entries : List ℤ). length entries) b.entries ∙ h.entry_count
            ∙ ap (λ (sizes : Sizes). sizes.mb * sizes.nb) (sym b.shape);
      };
      faultless = ap (λ (m : BaseMatrix). is_none (first_fault m)) (matrix_is head channel saved base b)
          ∙ ap (λ (fault : Option BaseMatrix.MatrixFault). is_none fault) h.faultless;
    }

-- its weak blocks
abbrev is_weak_in : Sizes → Weak → Bool
is_weak_in sizes weak =
    nat_lt weak.channel sizes.channels && nat_lt weak.die sizes.dies && nat_lt weak.sb sizes.superblocks

weak_within : (sizes : Sizes) (before weak : List Weak) → are_weak_records sizes before weak ≡ true →
    list_all (is_weak_in sizes) weak ≡ true
weak_within sizes before [] e = refl
weak_within sizes before (of ∷ weak) e =
    let both = and_parts (is_weak_record sizes before of) (are_weak_records sizes (before ++ of ∷ []) weak) e in
    let within = and_parts (is_weak_in sizes of) (comes_after is_weak_before before of) both.0 in
    ap (λ (b : Bool). b && list_all (is_weak_in sizes) weak) within.0
    ∙ weak_within sizes (before ++ of ∷ []) weak both.1

pub fields_of_base : (head : Head) (channel : ℕ) (saved : ChannelImage) (base : ChannelBase) → IsHead head
    → channel < head.sizes.channels → IsBaseOf head channel saved base → HasFields base
fields_of_base head channel saved base h c b =
    let channels : base.shape.channels ≡ head.sizes.channels = ap (λ (sizes : Sizes). sizes.channels) b.shape in
    let session : head.session < 2 ^ 24 = below_is (2 ^ 24) head.session h.session in
    let spread : head.law.spread ≤ 4095 = within_is 0 4095 head.law.spread h.spread in
    let same_spread : base.law.spread ≡ head.law.spread = ap (λ (law : CellLaw). law.spread) b.law in
    record {
      channel = omega (arith, b.number);
      session = omega (arith, b.session);
      matrix = matrix_accepted head channel saved base h b;
      levels_count = ap (λ (levels : List ℤ). is_within 1 16 (length levels)) b.read_levels ∙ h.level_count;
      levels = ap (λ (levels : List ℤ). list_all is_level levels) b.read_levels ∙ h.levels;
      iterations = ap (λ (n : ℕ). is_within 1 64 n) b.iterations ∙ h.iterations;
      step = ap (λ (n : ℕ). is_within 1 2047 n) b.step ∙ h.step;
      erased =
          ap (λ (law : CellLaw). int_le (neg_ℤ (pos 8192)) law.erased && int_le law.erased (pos 8190)) b.law ∙ h.erased;
      programmed =
          ap (λ (law : CellLaw). int_lt law.erased law.programmed && int_le law.programmed (pos 8191)) b.law
          ∙ h.programmed;
      spread = omega arith;
      weak =
          ap (λ (sizes : Sizes). list_all (is_weak_in sizes) base.weak) b.shape
          ∙ ap (λ (weak : List Weak). list_all (is_weak_in head.sizes) weak) b.weak
          ∙ weak_within head.sizes [] head.weak h.weak;
    }
