-- What do the adapters over std's readers and writers hold? The reader or writer itself, and their counts of faults.
use Rattle.std.specs.Prelude.{ℕ}
use Rattle.ssd_io.specs.declared.read_source.ReadSource.{ReadSource}
use Rattle.ssd_io.specs.declared.write_sink.WriteSink.{WriteSink}

-- the reader behind a source
abbrev pub reader_of : {R : Type 0} → ReadSource R → R
reader_of source = source.reader

-- how many of its reads failed
abbrev pub faults_read : {R : Type 0} → ReadSource R → ℕ
faults_read source = source.faults

-- the writer behind a sink
abbrev pub writer_of : {W : Type 0} → WriteSink W → W
writer_of sink = sink.writer

-- how many of its writes failed
abbrev pub faults_written : {W : Type 0} → WriteSink W → ℕ
faults_written sink = sink.faults
