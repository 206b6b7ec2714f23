use Rattle.std.proofs.Common.{take, subst, sym, ℕ}
use Rattle.std.specs.Str.{IsAscii}
use Rattle.std.proofs.lemmas.Str.{IsUtf8-from_ascii}
use Rattle.scasp_reader_tokens.proofs.NameLemmas.{name-IsAscii}
use Rattle.scasp_answers_terms.proofs.tokens.words.name_at.Goals as goal

pub from_utf8_unchecked-requires : goal.from_utf8_unchecked-requires
from_utf8_unchecked-requires c =
    let bytes = c.args.bytes.now in
    let P : ℕ → Type 0 = λ n. IsAscii (take n bytes) in
    IsUtf8-from_ascii _ (subst P (sym c.name_len.ensures) (name-IsAscii bytes))
