-- What a contract sees of a reader or a writer that remembers whether it failed.
use Rattle.std.specs.Prelude.{Bool}
use Rattle.facl_script.specs.declared.devices.StdFeed.{StdFeed}
use Rattle.facl_script.specs.declared.devices.StdSink.{StdSink}

-- the reader within it
abbrev pub fed_by : {R : Type 0} → StdFeed R → R
fed_by f = f.reader

abbrev pub feed_failed : {R : Type 0} → StdFeed R → Bool
feed_failed f = f.read_failed

-- the writer within it
abbrev pub sunk_in : {W : Type 0} → StdSink W → W
sunk_in s = s.writer

abbrev pub sink_failed : {W : Type 0} → StdSink W → Bool
sink_failed s = s.write_failed
