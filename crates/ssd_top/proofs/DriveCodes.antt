-- The base matrix of an image's head isn't refused.
use Rattle.std.proofs.Common.{ℕ, ◌≡◌, List, ℤ, Some, None, subst}
use Rattle.qc_matrix.specs.Fault.{IsFirstFault}
use Rattle.qc_matrix.specs.declared.fault.CodeFault.{CodeFault}
use Rattle.ssd_geo.specs.BaseMatrix.{diagonal, first_fault}
use Rattle.ssd_formats.specs.ImageHead.{Head, IsHead, matrix_of_head}

-- not for its dual diagonal
pub no_diagonal : (head : Head) → IsHead head → (entries : List ℤ) → entries ≡ head.entries → (fault : CodeFault) (row col : ℕ)
    → IsFirstFault (first_fault (record { z = head.sizes.z; mb = head.sizes.mb; nb = head.sizes.nb; entries = entries })) fault
    → fault ≡ CodeFault.Diagonal row col → ⊥
no_diagonal head ok entries same fault row col is_first e =
    let of_head : IsFirstFault (first_fault (matrix_of_head head)) fault =
    subst (λ (list : List ℤ). IsFirstFault (first_fault (record { z = head.sizes.z; mb = head.sizes.mb; nb = head.sizes.nb; entries = list })) fault) same is_first in
    let is_diagonal : first_fault (matrix_of_head head) ≡ Some (diagonal row col) = subst (IsFirstFault (first_fault (matrix_of_head head))) e of_head in
    let none : first_fault (matrix_of_head head) ≡ None = ok.faultless in
    absurd (cc)
