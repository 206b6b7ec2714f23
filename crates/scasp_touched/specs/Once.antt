-- What the lines of a certificate name, each once.
use Rattle.std.specs.Prelude.{◌≡◌, nat_eq, []}
use Rattle.indexmap.specs.IndexSet.{insert_all}
use Rattle.scasp_cert.specs.Certificate.{Certificate}
use Rattle.scasp_graph.specs.Inside.Growing.{grown}
use Rattle.scasp_touched.specs.Named.{line_predicates, named_clauses}
use Rattle.scasp_touched.specs.declared.named.Named.{Named}

-- these are the clauses and the predicates that the certificate's lines name, each at its first place
pub record IsNamed (n : Named) (c : Certificate) : Type 0 where
  pub clauses : n.clauses ≡ insert_all nat_eq [] (named_clauses c)
  pub preds : n.preds ≡ grown [] (line_predicates c)
