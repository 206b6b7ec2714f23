-- What a recheck is: a program, and certificates.
use Rattle.std.specs.Prelude.{List}
use Rattle.scasp_syntax.specs.declared.program.Program.{Program}
use Rattle.scasp_cert.specs.Certificate.{Certificate}
use Rattle.scasp_recheck.specs.Views.{certs_of}
use Rattle.scasp_recheck.specs.declared.recheck.Recheck.{Recheck}

-- the program of the last update
abbrev pub program_of : Recheck → Program
program_of r = r.program

abbrev pub certs_in : Recheck → List Certificate
certs_in r = certs_of r.certs
