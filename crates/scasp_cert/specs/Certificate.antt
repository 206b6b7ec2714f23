-- Certificates as values: an answer with its trees and what stands beside them.
use Rattle.std.specs.Prelude.{ℕ, List, map}
use Rattle.scasp_syntax.specs.Tm.{Tms}
use Rattle.scasp_syntax.specs.declared.con.Con.{Con}
use Rattle.scasp_syntax.specs.declared.predicate_map.PredMap.{PredMap}
use Rattle.scasp_cert.specs.Trees.{Tree, Branch}
use Rattle.scasp_cert.specs.View.{trees_of, branch_of}
use Rattle.scasp_cert.specs.declared.certificate.Cert.{Cert}
use Rattle.scasp_cert.specs.declared.certificate.Check.{Check}
use Rattle.scasp_cert.specs.declared.certificate.Checks.{Checks}
use Rattle.scasp_cert.specs.declared.certificate.Clash.{Clash}

-- a certificate as a value
pub record Certificate : Type 0 where
  pub query : ℕ
  pub terms : Tms
  pub given : List Con
  pub sample : Tms
  pub trees : List Tree
  pub checks : List (ℕ × Branch)
  pub clashes : List Clash
  pub map : List PredMap

-- the clause of a check, with its branch
abbrev pub check_of : Check → ℕ × Branch
check_of c = (c.clause, branch_of c.case)

-- the clauses of a list of checks, each with its branch
abbrev pub checks_of : Checks → List (ℕ × Branch)
checks_of c = map check_of c.list.items

-- the certificate that the product's `Cert` is
abbrev pub certificate_of : Cert → Certificate
certificate_of c = record {
  query = c.query;
  terms = c.terms;
  given = c.given;
  sample = c.sample;
  trees = trees_of c.trees;
  checks = checks_of c.checks;
  clashes = c.clashes;
  map = c.map;
}
