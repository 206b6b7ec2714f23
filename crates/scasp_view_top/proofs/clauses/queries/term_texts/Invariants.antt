use Rattle.std.proofs.Common.{◌≡◌, ◌++◌, drop, map}
use Rattle.scasp_cert.specs.Text.Terms.{term_text}
use Rattle.scasp_syntax.specs.Tm.{items}
use Rattle.scasp_syntax.specs.View.{tm_of}
use Rattle.scasp_view_top.proofs.clauses.queries.term_texts.Given as goal

abbrev pub invariant-loop-term : goal.invariant-loop-term
invariant-loop-term l =
    l.texts ++ map (term_text l.names) (map tm_of (drop l.term-index l.term-items)) ≡ map (term_text l.names) (items l.terms)
