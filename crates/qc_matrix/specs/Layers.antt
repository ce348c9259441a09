-- Which base matrix does a code stand for, and what does a code keep of it? It keeps the layers beside the entries,
-- so that none is worked out again.
use Rattle.std.specs.Prelude.{◌≡◌, map}
use Rattle.std.specs.List.{range_with_len}
use Rattle.qc_matrix.specs.declared.code.Code.TheInside.{Inside}
use Rattle.ssd_geo.specs.BaseMatrix.{BaseMatrix, IsAccepted, layer_of}

-- the matrix with the code's sizes and entries
abbrev pub code_matrix : Inside → BaseMatrix
code_matrix a = record { z = a.z; mb = a.mb; nb = a.nb; entries = a.entries.items }

-- the matrix is accepted, and the layers kept are those of its base rows
pub record IsCode (a : Inside) : Type 0 where
  pub accepted : IsAccepted (code_matrix a)
  pub layers : map (λ layer. layer.items) a.layers.items ≡ map (layer_of (code_matrix a)) (range_with_len 0 a.mb)
