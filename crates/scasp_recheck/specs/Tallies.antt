-- What is found of certificates, one after another.
use Rattle.std.specs.Prelude.{ℕ, ◌+◌, List, [], ◌∷◌, ◌++◌, if◌then◌else◌}
use Rattle.scasp_syntax.specs.declared.program.Program.{Program}
use Rattle.scasp_touched.specs.Touched.{touched}
use Rattle.scasp_recheck.specs.Checks.{checked_of}
use Rattle.scasp_recheck.specs.Views.{filed_cert}
use Rattle.scasp_checker.specs.declared.verdict.verdict.Verdict.{Verdict}
use Rattle.scasp_recheck.specs.declared.certs.Filed.{Filed}
use Rattle.scasp_recheck.specs.declared.checked.Checked.{Checked}
use Rattle.scasp_recheck.specs.declared.checked.Checked.TheVariants.{Accepted, Refused}
use Rattle.scasp_recheck.specs.declared.tally.Tally.{Tally}

abbrev pub tally_none : Tally
tally_none = record { results = []; touched = 0 }

-- with what a certificate comes to under q, counted where the step from p touches it
abbrev pub with_filed : Program → Program → Tally → Filed → Tally
with_filed p q t f = record {
  results = t.results ++ checked_of q (filed_cert f) ∷ [];
  touched = if touched p q (filed_cert f) then t.touched + 1 else t.touched;
}

-- what a certificate comes to where it came to this and has the same faults, and its map has this verdict
abbrev pub kept_by : Checked → Verdict → Checked
kept_by (Accepted v) w = Accepted w
kept_by (Refused r) w = Refused r
