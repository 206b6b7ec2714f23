use Rattle.std.proofs.Common.{take, subst, sym, ℕ}
use Rattle.std.specs.Str.{IsAscii}
use Rattle.std.proofs.lemmas.Str.{IsUtf8-from_ascii}
use Rattle.scasp_reader_tokens.proofs.NameLemmas.{name-IsAscii}
use Rattle.scasp_reader_tokens.proofs.bytes.name_at.Goals as goal

pub unreachable-requires : goal.unreachable-requires
unreachable-requires c =
    let bytes = c.args.bytes.now in
    let P : ℕ → Type 0 = λ n. IsAscii (take n bytes) in
    c.in-Err.ensures.cases.0 (IsUtf8-from_ascii _ (subst P (sym c.name_len.ensures) (name-IsAscii bytes)))
