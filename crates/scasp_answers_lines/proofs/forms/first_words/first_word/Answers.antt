use Rattle.std.proofs.Common.{◌≡◌, ◌∙◌, false, bytes_eq, sym, subst}
use Rattle.scasp_answers_lines.specs.Forms.FirstWords.{NamesWord}
use Rattle.scasp_answers_lines.proofs.FormsLemmas.WordLemmas.{differs-none, differs-some}
use Rattle.scasp_answers_lines.proofs.forms.first_words.first_word.Goals as goal

pub returns-in_err-first : goal.returns-in_err-first
returns-in_err-first c =
    subst (NamesWord c.args.word.now) (sym c.from_residual.ensures)
    (λ first. differs-none c.args.word.now first (sym c.in_err-first.was ∙ c.candidate.ensures))

pub returns : goal.returns
returns c = λ first.
    differs-some c.args.word.now c.in_ok-first.first first (sym c.in_ok-first.was ∙ c.candidate.ensures)
    (subst (λ text. bytes_eq c.args.word.now text ≡ false) c.text.ensures (sym c.eq.ensures ∙ c.if-eq.false))
