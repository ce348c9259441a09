-- Which base matrix do lent entries and their sizes make?
use Rattle.qc_matrix.specs.declared.entries.Entries.{Entries}
use Rattle.ssd_geo.specs.BaseMatrix.{BaseMatrix}

abbrev pub matrix_of : Entries → BaseMatrix
matrix_of e = record { z = e.z; mb = e.mb; nb = e.nb; entries = e.list.now }
