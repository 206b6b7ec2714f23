use Rattle.std.proofs.Common.{◌≡◌, ℕ, Bool, true, false, List, refl, sym, ap, ◌∙◌}
use Rattle.std.specs.Str.{IsUtf8, is_utf8}
use Rattle.std.proofs.lemmas.Str.{IsUtf8-from_is_utf8, is_utf8-from_IsUtf8}
use Rattle.scasp_cert.specs.Text.Names.{is_plain}
use Rattle.scasp_reader_tokens.specs.Quoted.{text_of}
use Rattle.scasp_answers_terms.specs.Tokens.Tokens.{quoted, bad, quoted_token}
use Rattle.scasp_answers_terms.proofs.tokens.quotes.quoted_token.Goals as goal

taken : (bytes : List ℕ) → IsUtf8 bytes → is_plain bytes ≡ false → quoted (text_of bytes) ≡ quoted_token bytes
taken bytes u p = let e = is_utf8-from_IsUtf8 bytes u in rw (e, p) refl

refused : (bytes : List ℕ) → ¬ (IsUtf8 bytes) → bad ≡ quoted_token bytes
refused bytes n = by (is_utf8 bytes) refl
  where
    by : (t : Bool) → is_utf8 bytes ≡ t → bad ≡ quoted_token bytes
    by true e = absurd (n (IsUtf8-from_is_utf8 bytes e))
    by false e = rw e refl

pub returns-in-Ok-2 : goal.returns-in-Ok-2
returns-in-Ok-2 c =
    let same = c.in-Ok.ensures.cases.0 in
    ap (λ t. quoted (text_of t)) same ∙ taken c.args.bytes.now c.in-Ok.ensures.cases.1 (ap is_plain (sym same) ∙ sym c.is_plain.ensures ∙ c.if-is_plain.false)

pub returns-in-Err : goal.returns-in-Err
returns-in-Err c = refused c.args.bytes.now c.in-Err.ensures.cases.0
