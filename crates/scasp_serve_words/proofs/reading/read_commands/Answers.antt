use Rattle.std.proofs.Common.{◌≡◌, ◌∙◌, ◌+◌, ◌<◌, ◌≤◌, List, length, take, drop, Some, None, Err, ap, sym, arith, ◌++◌, ◌∷◌, []}
use Rattle.std.proofs.lemmas.Grind.{common_steps}
use Rattle.scasp_serve_words.proofs.ReadLemmas.{ahead, lacks-end, read_on, reads-on, refuses-line, some-byte}
use Rattle.scasp_serve_words.specs.Commands.{command_in}
use Rattle.scasp_serve_words.proofs.reading.read_commands.Goals as goal

pub returns-then-len-rest-clause-err : goal.returns-then-len-rest-clause-err
returns-then-len-rest-clause-err c =
    let commands = c.loop-rest.commands.items in
    let rest = c.loop-rest.rest.now in
    let there = some-byte rest c.is_empty.result c.is_empty.ensures c.loop-rest-test.true in
    sym c.loop-rest.invariant.same
    ∙ ap (ahead commands) (lacks-end c.loop-rest.at rest (omega (arith, c.place_of-len.ensures, c.if-len-rest.true)) there)

pub returns-in_default-clause-err : goal.returns-in_default-clause-err
returns-in_default-clause-err c =
    let commands = c.loop-rest.commands.items in
    let rest = c.loop-rest.rest.now in
    let len = c.place_of-len.result in
    let within : len < length rest = grind (arith, common_steps, c.if-len-rest.false, c.place_of-len.ensures) in
    let none : command_in (take len rest) ≡ None = grind (arith, common_steps, c.in_default.ensures, c.in_default.is) in
    sym c.loop-rest.invariant.same ∙ ap (ahead commands) (refuses-line c.loop-rest.at len rest c.place_of-len.ensures within none)

pub loop-rest-preserved : goal.loop-rest-preserved
loop-rest-preserved c =
    let commands = c.loop-rest.commands.items in
    let rest = c.loop-rest.rest.now in
    let len = c.place_of-len.result in
    let within : len < length rest = grind (arith, common_steps, c.if-len-rest.false, c.place_of-len.ensures) in
    let some : command_in (take len rest) ≡ Some c.in-Some.command = grind (arith, common_steps, c.in-Some.ensures, c.in-Some.is) in
    let h : ahead commands (read_on c.loop-rest.at rest) ≡ ahead (commands ++ c.in-Some.command ∷ []) (read_on (c.loop-rest.at + (len + 1)) (drop (len + 1) rest)) =
    reads-on commands c.in-Some.command c.loop-rest.at len rest c.place_of-len.ensures within some in
    record {
      same = grind (arith, common_steps, h, c.loop-rest.invariant.same, c.in_ok-push.ensures.items);
      within = grind (arith, common_steps, within, c.loop-rest.invariant.within);
    }
