-- What a read of files in memory comes to.
use Rattle.std.specs.Prelude.{ℕ, Bool, ◌||◌, List, is_none}
use Rattle.scasp_io.specs.Calls.{is_among}
use Rattle.scasp_io.specs.Counts.{raised, raised_if}
use Rattle.scasp_io.specs.Lookup.{bytes_of}
use Rattle.scasp_io.specs.declared.memory_files.MemFiles.{MemFiles}

-- the next read of the name fails: its number is among the failing ones, or the name is absent
abbrev pub is_refused : MemFiles → List ℕ → Bool
is_refused files name = is_among files.failing (raised files.calls) || is_none (bytes_of files.files name)

-- the files after one more read, which failed or did not
abbrev pub after_read : MemFiles → Bool → MemFiles
after_read files failed =
    record files { calls = raised files.calls; faults = raised_if failed files.faults }
