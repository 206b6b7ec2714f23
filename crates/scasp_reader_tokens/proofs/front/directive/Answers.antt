use Rattle.std.proofs.Common.{sym, ◌∙◌}
use Rattle.scasp_reader_tokens.specs.Bytes.{is_name_byte}
use Rattle.scasp_reader_tokens.proofs.FrontLemmas.{skipped_name-length, name-within}
use Rattle.scasp_reader_tokens.proofs.front.directive.Goals as goal

pub skipped_directive-requires : goal.skipped_directive-requires
skipped_directive-requires c =
    let name = c.name_at-name.result.now in
    name-within c.args.bytes.now c.behind.result.now name is_name_byte c.behind.ensures c.name_at-name.ensures.text
    (skipped_name-length name (sym c.is_skipped_name.ensures ∙ c.if-is_skipped_name.true)) c.requires
