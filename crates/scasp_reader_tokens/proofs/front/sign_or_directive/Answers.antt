use Rattle.std.proofs.Common.{sym, ◌∙◌}
use Rattle.scasp_reader_tokens.proofs.FrontLemmas.{sign-found}
use Rattle.scasp_reader_tokens.proofs.front.sign_or_directive.Goals as goal

pub returns-in-Some-clause-front : goal.returns-in-Some-clause-front
returns-in-Some-clause-front c = sign-found c.args.bytes.now c.in-Some.sign c.in-Some.len (sym c.sign_at.ensures.sign ∙ c.in-Some.is)
