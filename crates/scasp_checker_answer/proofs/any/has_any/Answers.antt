use Rattle.std.proofs.Common.{not, ap, sym, ◌∙◌}
use Rattle.scasp_syntax.specs.View.{tm_of}
use Rattle.scasp_checker_answer.proofs.KnownLemmas.{any-known}
use Rattle.scasp_checker_answer.proofs.any.has_any.Goals as goal

pub returns : goal.returns
returns g c = ap not c.in_ok-is_known.ensures ∙ sym (any-known (g.S.Scope.known c.args.scope.now) (tm_of c.args.term.now))
