use Rattle.std.proofs.Common.{sym, ◌∙◌, ap, length, arith, length-drop}
use Rattle.scasp_reader_tokens.proofs.TokenLemmas.{tokens_of-is, tokens-gap, tokens-found}
use Rattle.scasp_reader_tokens.proofs.lexer.tokens.Goals as goal

pub text-init : goal.text-init
text-init c = record {
  within = omega arith;
  tokens = rw c.new-tokens.ensures (tokens_of-is c.args.bytes.now);
}

pub text-preserved-in-Gap : goal.text-preserved-in-Gap
text-preserved-in-Gap c =
    let bytes = c.args.bytes.now in
    let rest = c.behind.result.now in
    let at = c.text.at in
    let n = c.in-Gap.len in
    let w = rw c.in-Gap.is at c.in_ok-len.ensures.within in
    record {
      within = omega (arith, w.1, ap length c.behind.ensures, length-drop at bytes, c.text.invariant.within);
      tokens = tokens-gap bytes rest at c.behind.ensures c.text.tokens _ c.text.invariant.tokens n (sym c.in-Gap.is ∙ c.in_ok-len.ensures.front) w.0 w.1;
    }

pub text-preserved : goal.text-preserved
text-preserved c =
    let bytes = c.args.bytes.now in
    let rest = c.behind.result.now in
    let at = c.text.at in
    let n = c.in-Found.len in
    let w = rw c.in-Found.is at c.in_ok-len.ensures.within in
    record {
      within = omega (arith, w.1, ap length c.behind.ensures, length-drop at bytes, c.text.invariant.within);
      tokens = rw c.in_ok-push-in-Found.ensures.ok (tokens-found bytes rest at c.behind.ensures c.text.tokens _ c.text.invariant.tokens c.in-Found.token n (sym c.in-Found.is ∙ c.in_ok-len.ensures.front) w.0 w.1);
    }
