use Rattle.std.proofs.Common.{nat_eq}
use Rattle.std.specs.HashMap.{get}
use Rattle.scasp_syntax.specs.View.{tm_of}
use Rattle.scasp_bind.proofs.NoteLemmas.{ends_more}
use Rattle.scasp_bind.proofs.resolving.look.Goals as goal

pub returns-clause-ends : goal.returns-clause-ends
returns-clause-ends c =
    ends_more c.args.store.now (tm_of c.args.term.now) c.end_of-end.result.now (get nat_eq c.args.ends.now) (get nat_eq c.note_way.new.notes) c.requires.2 c.end_of-end.ensures c.in_ok-note_way.ensures
