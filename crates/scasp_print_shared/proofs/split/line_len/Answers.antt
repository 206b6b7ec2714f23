use Rattle.std.proofs.Common.{◌<◌, ◌^◌, length, arith}
use Rattle.scasp_print_shared.proofs.LineLemmas.{feed-room, feed-splits, feed-within}
use Rattle.scasp_print_shared.proofs.split.line_len.Goals as goal

pub returns-clause-within : goal.returns-clause-within
returns-clause-within c = feed-within c.args.bytes.now c.memchr.result c.memchr.ensures

pub returns-clause-room : goal.returns-clause-room
returns-clause-room c =
    let small : length c.args.bytes.now < 2 ^ 63 = omega arith in
    feed-room c.args.bytes.now c.memchr.result small c.memchr.ensures

pub returns-clause-splits : goal.returns-clause-splits
returns-clause-splits c = feed-splits c.args.bytes.now c.memchr.result c.memchr.ensures
