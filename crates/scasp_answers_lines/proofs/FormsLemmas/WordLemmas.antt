-- First words.
use Rattle.std.proofs.Common.{◌≡◌, ◌∙◌, ℕ, Bool, true, false, List, None, Some, bytes_eq, refl, ap, subst}
use Rattle.std.proofs.lemmas.Slice.Eq.{bytes_eq-Decides}
use Rattle.scasp_answers_terms.specs.Tokens.Forms.{forms}
use Rattle.scasp_answers_terms.specs.Tokens.Readers.{behind_word}
use Rattle.scasp_answers_terms.specs.Tokens.Tokens.{Token}
use Rattle.scasp_answers_lines.specs.declared.forms.first_words.NodeWord.TheVariants as node
use Rattle.scasp_answers_lines.specs.declared.forms.first_words.CaseWord.TheVariants as case
use Rattle.scasp_answers_lines.specs.declared.forms.first_words.BlockWord.TheVariants as block
use Rattle.scasp_answers_lines.specs.declared.forms.first_words.FileWord.TheVariants as file
use Rattle.scasp_answers_lines.specs.declared.forms.first_words.FirstWord.{FirstWord}
use Rattle.scasp_answers_lines.specs.declared.forms.first_words.FirstWord.TheVariants.{Node, Case, Block, File}
use Rattle.scasp_answers_lines.specs.Forms.FirstWords.{text_of, candidate}

candidate-text_of : (first : FirstWord) → candidate (text_of first) ≡ Some first
unfolding candidate
candidate-text_of (Node node.Pos) = refl
candidate-text_of (Node node.Neg) = refl
candidate-text_of (Node node.Loop) = refl
candidate-text_of (Node node.Seen) = refl
candidate-text_of (Node node.Test) = refl
candidate-text_of (Case case.Rule) = refl
candidate-text_of (Case case.Split) = refl
candidate-text_of (Case case.Void) = refl
candidate-text_of (Case case.Leaf) = refl
candidate-text_of (Case case.Head) = refl
candidate-text_of (Block block.Answer) = refl
candidate-text_of (Block block.Given) = refl
candidate-text_of (Block block.Sample) = refl
candidate-text_of (Block block.Tree) = refl
candidate-text_of (Block block.Check) = refl
candidate-text_of (Block block.Clash) = refl
candidate-text_of (Block block.Map) = refl
candidate-text_of (Block block.End) = refl
candidate-text_of (File file.Scasp) = refl
candidate-text_of (File file.Ended) = refl
candidate-text_of (File file.Stopped) = refl
candidate-text_of (File file.Spent) = refl
candidate-text_of (File file.Overflow) = refl
candidate-text_of (File file.Rejected) = refl

-- a word has no text but that of its candidate
only-candidate : (word : List ℕ) (first : FirstWord) → (candidate word ≡ Some first → bytes_eq word (text_of first) ≡ false) → bytes_eq word (text_of first) ≡ false
only-candidate word first refused = by (bytes_eq word (text_of first)) refl
  where
    by : (b : Bool) → bytes_eq word (text_of first) ≡ b → bytes_eq word (text_of first) ≡ false
    by false e = e
    by true e = refused (ap candidate ((bytes_eq-Decides word (text_of first)).0 e) ∙ candidate-text_of first)

some-apart : (first : FirstWord) → None ≡ Some first → ⊥
some-apart first e = cc

some-same : (found first : FirstWord) → Some found ≡ Some first → found ≡ first
some-same found first e = cc

-- without a candidate it has the text of none
pub differs-none : (word : List ℕ) (first : FirstWord) → None ≡ candidate word → bytes_eq word (text_of first) ≡ false
differs-none word first e = only-candidate word first (λ f. absurd (some-apart first (e ∙ f)))

-- likewise where it has not the text of its candidate
pub differs-some :
    (word : List ℕ) (found first : FirstWord) → Some found ≡ candidate word → bytes_eq word (text_of found) ≡ false → bytes_eq word (text_of first) ≡ false
differs-some word found first e refused = only-candidate word first (λ f. subst (λ w. bytes_eq word (text_of w) ≡ false) (some-same found first (e ∙ f)) refused)

-- a line whose first word is none of these has no form
pub unformed : (place : List ℕ → ℕ) (word : List ℕ) (ts : List Token) → ((first : FirstWord) → bytes_eq word (text_of first) ≡ false) → behind_word (forms place) word ts ≡ None
unformed place word ts differs =
    rw (
      differs (File file.Scasp),
      differs (File file.Ended),
      differs (File file.Stopped),
      differs (File file.Spent),
      differs (File file.Overflow),
      differs (File file.Rejected),
      differs (Block block.Answer),
      differs (Block block.Given),
      differs (Block block.Sample),
      differs (Block block.Tree),
      differs (Block block.Check),
      differs (Block block.Clash),
      differs (Block block.Map),
      differs (Block block.End),
      differs (Node node.Pos),
      differs (Node node.Neg),
      differs (Node node.Loop),
      differs (Node node.Seen),
      differs (Node node.Test),
      differs (Case case.Rule),
      differs (Case case.Split),
      differs (Case case.Void),
      differs (Case case.Leaf),
      differs (Case case.Head),
    )
