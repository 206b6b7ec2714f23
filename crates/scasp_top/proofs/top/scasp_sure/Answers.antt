use Rattle.std.proofs.Common.{ℕ, List, Option, Some, Global, map, string_bytes, arith}
use Rattle.scasp_command_inputs.specs.Inputs.{outside, Outside}
use Rattle.scasp_command_words.specs.Commands.{command_of}
use Rattle.scasp_io.specs.Lookup.{bytes_or_none}
use Rattle.scasp_top.proofs.CauseLemmas.{sure-reads}
use Rattle.scasp_top.proofs.top.scasp_sure.Goals as goal

pub returns-clause-no_read : goal.returns-clause-no_read
returns-clause-no_read c =
    let told : List ℕ → Option (List ℕ) = λ name. Some (bytes_or_none c.args.files.now.files name) in
    let o : Outside = outside told (λ _. 0) (λ _. 0) in
    λ h. sure-reads o (λ file rose. absurd (omega (arith, rose))) (command_of (map (string_bytes {Z = Global}) c.args.words.now.items)) (c.scasp.ensures.read h)
