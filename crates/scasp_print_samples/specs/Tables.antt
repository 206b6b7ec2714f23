-- The table that answers are printed by.
use Rattle.std.specs.Prelude.{◌≡◌, ℕ, List, length}
use Rattle.scasp_cert.specs.Certificate.{Certificate}
use Rattle.scasp_print_samples.specs.Samples.{NamesSample, with_samples}
use Rattle.scasp_print_samples.specs.declared.tables.Table.{Table}

-- the table is that of the program, to which names of samples were added
pub record IsTable (names : List (List ℕ)) (t : Table) : Type 0 where
  pub names_are : t.names ≡ with_samples names t.tried
  pub program_is : t.program ≡ length names

-- it has the names of the certificate's sample
pub record HasNames (names : List (List ℕ)) (t : Table) (c : Certificate) : Type 0 where
  pub is : IsTable names t
  pub has : NamesSample names t.names c
