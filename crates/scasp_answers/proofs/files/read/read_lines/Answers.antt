use Rattle.std.proofs.Common.{◌∙◌, sym}
use Rattle.scasp_answers.specs.Files.Inside.{versioned_of}
use Rattle.scasp_answers.proofs.FilesLemmas.ReadLemmas.{ends_there}
use Rattle.scasp_answers.proofs.files.read.read_lines.Goals as goal

pub returns : goal.returns
returns c =
    rw (sym c.loop-len.invariant.same ∙ ends_there c.args.names.now (versioned_of c.loop-len.read) c.loop-len.at c.loop-len.rest.now c.in_default.ensures.splits)
    (c.ended.ensures c.args.names.now)
