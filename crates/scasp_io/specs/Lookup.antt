-- Files in memory: a list of names, each with its bytes.
use Rattle.std.specs.Prelude.{ℕ, List, [], Option, unwrap_or, find, option_map}
use Rattle.std.specs.Str.{bytes_eq}
use Rattle.scasp_io.specs.declared.lists.MemFile.{MemFile}

-- the bytes of the first file with the name
abbrev pub bytes_of : List MemFile → List ℕ → Option (List ℕ)
bytes_of files name = option_map (λ file. file.bytes) (find (λ file. bytes_eq file.name name) files)

-- the same, and no byte for a name that no file has
abbrev pub bytes_or_none : List MemFile → List ℕ → List ℕ
bytes_or_none files name = unwrap_or (bytes_of files name) []
