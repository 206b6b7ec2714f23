-- What is the same for all lines of a certificate, as the definitions have it.
use Rattle.std.specs.Prelude.{true}
use Rattle.scasp_cert.specs.Certificate.{certificate_of}
use Rattle.scasp_checker_rules.specs.Wholes.{Whole, whole_of}
use Rattle.scasp_checker_lines.specs.declared.line_faults.common.Common.{Common}

abbrev pub whole : Common → Whole
whole c = whole_of true c.program.now (certificate_of c.cert.now)
