-- The first words of lines.
use Rattle.std.specs.Prelude.{◌≡◌, ℕ, ◌==◌, ◌&&◌, Bool, true, false, if◌then◌else◌, List, [], ◌∷◌, codes, bytes_eq, Option, None, Some}
use Rattle.scasp_answers_lines.specs.declared.forms.first_words.NodeWord.TheVariants as node
use Rattle.scasp_answers_lines.specs.declared.forms.first_words.CaseWord.TheVariants as case
use Rattle.scasp_answers_lines.specs.declared.forms.first_words.BlockWord.TheVariants as block
use Rattle.scasp_answers_lines.specs.declared.forms.first_words.FileWord.TheVariants as file
use Rattle.scasp_answers_lines.specs.declared.forms.first_words.FirstWord.{FirstWord}
use Rattle.scasp_answers_lines.specs.declared.forms.first_words.FirstWord.TheVariants.{Node, Case, Block, File}

-- its text
abbrev pub text_of : FirstWord → List ℕ
text_of (Node node.Pos) = codes "pos"
text_of (Node node.Neg) = codes "neg"
text_of (Node node.Loop) = codes "loop"
text_of (Node node.Seen) = codes "seen"
text_of (Node node.Test) = codes "test"
text_of (Case case.Rule) = codes "rule"
text_of (Case case.Split) = codes "split"
text_of (Case case.Void) = codes "void"
text_of (Case case.Leaf) = codes "leaf"
text_of (Case case.Head) = codes "head"
text_of (Block block.Answer) = codes "answer"
text_of (Block block.Given) = codes "given"
text_of (Block block.Sample) = codes "sample"
text_of (Block block.Tree) = codes "tree"
text_of (Block block.Check) = codes "check"
text_of (Block block.Clash) = codes "clash"
text_of (Block block.Map) = codes "map"
text_of (Block block.End) = codes "end"
text_of (File file.Scasp) = codes "scasp"
text_of (File file.Ended) = codes "ended"
text_of (File file.Stopped) = codes "stopped"
text_of (File file.Spent) = codes "spent"
text_of (File file.Overflow) = codes "overflow"
text_of (File file.Rejected) = codes "rejected"

-- the bytes begin with this text
abbrev pub begins : List ℕ → List ℕ → Bool
begins bytes [] = true
begins [] (c ∷ text) = false
begins (b ∷ bytes) (c ∷ text) = b == c && begins bytes text

-- the only first word that the bytes may be
unfoldable pub candidate : List ℕ → Option FirstWord
candidate bytes =
    if begins bytes (codes "p") then Some (Node node.Pos)
    else (if begins bytes (codes "ru") then Some (Case case.Rule)
    else (if begins bytes (codes "le") then Some (Case case.Leaf)
    else (if begins bytes (codes "n") then Some (Node node.Neg)
    else (if begins bytes (codes "l") then Some (Node node.Loop)
    else (if begins bytes (codes "te") then Some (Node node.Test)
    else (if begins bytes (codes "h") then Some (Case case.Head)
    else (if begins bytes (codes "v") then Some (Case case.Void)
    else (if begins bytes (codes "se") then Some (Node node.Seen)
    else (if begins bytes (codes "spl") then Some (Case case.Split)
    else (if begins bytes (codes "ch") then Some (Block block.Check)
    else (if begins bytes (codes "t") then Some (Block block.Tree)
    else (if begins bytes (codes "a") then Some (Block block.Answer)
    else (if begins bytes (codes "g") then Some (Block block.Given)
    else (if begins bytes (codes "sa") then Some (Block block.Sample)
    else (if begins bytes (codes "c") then Some (Block block.Clash)
    else (if begins bytes (codes "m") then Some (Block block.Map)
    else (if begins bytes (codes "ende") then Some (File file.Ended)
    else (if begins bytes (codes "e") then Some (Block block.End)
    else (if begins bytes (codes "sc") then Some (File file.Scasp)
    else (if begins bytes (codes "st") then Some (File file.Stopped)
    else (if begins bytes (codes "s") then Some (File file.Spent)
    else (if begins bytes (codes "o") then Some (File file.Overflow)
    else (if begins bytes (codes "r") then Some (File file.Rejected)
    else None)))))))))))))))))))))))

-- the word is the first word with this text, or none with any
abbrev pub NamesWord : List ℕ → Option FirstWord → Type 0
NamesWord word (Some first) = word ≡ text_of first
NamesWord word None = (first : FirstWord) → bytes_eq word (text_of first) ≡ false
