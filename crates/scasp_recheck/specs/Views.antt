-- What the code's lists of certificates are.
use Rattle.std.specs.Prelude.{List, map}
use Rattle.scasp_cert.specs.Certificate.{Certificate, certificate_of}
use Rattle.scasp_syntax.specs.declared.program.Program.{Program}
use Rattle.scasp_recheck.specs.declared.certs.Certs.{Certs}
use Rattle.scasp_recheck.specs.declared.certs.Filed.{Filed}

abbrev pub filed_cert : Filed → Certificate
filed_cert f = certificate_of f.cert

abbrev pub certs_of : Certs → List Certificate
certs_of c = map filed_cert c.list.items
