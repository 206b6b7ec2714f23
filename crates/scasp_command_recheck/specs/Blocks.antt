-- The blocks of an answer file.
use Rattle.std.specs.Prelude.{ℕ, List, [], ◌∷◌}
use Rattle.std.specs.List.{flat_map}
use Rattle.scasp_cert.specs.Certificate.{Certificate}
use Rattle.scasp_answers.specs.Blocks.States.{Entry, block, ended_entry, rejected_entry}

abbrev pub entry_numbers : Entry → List ℕ
entry_numbers (block n c) = n ∷ []
entry_numbers (ended_entry e q) = []
entry_numbers (rejected_entry q n at why) = []

abbrev pub entry_certs : Entry → List Certificate
entry_certs (block n c) = c ∷ []
entry_certs (ended_entry e q) = []
entry_certs (rejected_entry q n at why) = []

-- the numbers of the answers, in order
abbrev pub block_numbers : List Entry → List ℕ
block_numbers entries = flat_map entry_numbers entries

-- their certificates
abbrev pub block_certs : List Entry → List Certificate
block_certs entries = flat_map entry_certs entries
