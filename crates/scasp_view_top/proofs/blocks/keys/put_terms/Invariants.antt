use Rattle.std.proofs.Common.{◌≡◌, ◌++◌, true, drop}
use Rattle.scasp_cert.specs.Text.Terms.{terms_text}
use Rattle.scasp_syntax.specs.View.{tms_of}
use Rattle.scasp_view_top.proofs.blocks.keys.put_terms.Given as goal

abbrev pub invariant-loop-term : goal.invariant-loop-term
invariant-loop-term l =
    l.out.items ++ terms_text l.names l.is_first (tms_of (drop l.term-index l.term-items)) ≡ l.fn.out.items ++ terms_text l.names true l.terms
