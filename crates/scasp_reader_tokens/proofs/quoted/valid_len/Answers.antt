use Rattle.std.proofs.Common.{length, sym, ap, ◌∙◌}
use Rattle.std.proofs.lemmas.Str.{utf8_valid_len-IsUtf8}
use Rattle.scasp_reader_tokens.proofs.quoted.valid_len.Goals as goal

pub returns-in-Ok-clause-length : goal.returns-in-Ok-clause-length
returns-in-Ok-clause-length c = ap length c.in-Ok.ensures.cases.0 ∙ sym (utf8_valid_len-IsUtf8 c.args.bytes.now c.in-Ok.ensures.cases.1)
