-- The texts of signs are read back.
use Rattle.std.proofs.Common.{◌≡◌, ℕ, ◌+◌, false, ◌==◌, List, [], ◌∷◌, ◌++◌, length, codes, None, Some, refl, ap, if◌then◌else◌}
use Rattle.std.specs.Prelude.{nat_eq}
use Rattle.std.specs.List.{starts_with}
use Rattle.std.proofs.lemmas.Bool.{cond-false}
use Rattle.scasp_num.specs.declared.linear.Op.TheVariants as op
use Rattle.scasp_reader_tokens.specs.declared.sign.Sign.TheVariants as sign
use Rattle.scasp_reader_tokens.specs.declared.token.Token.TheVariants as token
use Rattle.scasp_reader_tokens.specs.declared.token.Front.TheVariants.{Found, Last}
use Rattle.scasp_reader_tokens.specs.Directives.{begins_directive}
use Rattle.scasp_reader_tokens.specs.Signs.{entry, signs, entry_at}
use Rattle.scasp_reader_tokens.specs.Tokens.{front, placed, tokens_behind, directive}
use Rattle.scasp_law_program_text.specs.Readback.SignTexts.{Reads, ReadsAt}
use Rattle.scasp_law_program_text.proofs.ReadbackLemmas.Fronts.{found-read}

pub open_read : Reads (codes "(") sign.Open
open_read rest at = refl

pub close_read : Reads (codes ")") sign.Close
close_read rest at = refl

pub open_list_read : Reads (codes "[") sign.OpenList
open_list_read rest at = refl

pub close_list_read : Reads (codes "]") sign.CloseList
close_list_read rest at = refl

pub comma_read : Reads (codes ",") sign.Comma
comma_read rest at = refl

pub bar_read : Reads (codes "|") sign.Bar
bar_read rest at = refl

pub plus_read : Reads (codes "+") sign.Plus
plus_read rest at = refl

pub times_read : Reads (codes "*") sign.Times
times_read rest at = refl

pub if_read : Reads (codes ":-") sign.If
if_read rest at = found-read 58 (45 ∷ []) rest (token.Sign sign.If) at refl

pub query_read : Reads (codes "?-") sign.Query
query_read rest at = found-read 63 (45 ∷ []) rest (token.Sign sign.Query) at refl

-- no arrow stands at the front, so the minus sign does
no-arrow : (b : ℕ) (rest : List ℕ) → (62 == b) ≡ false → starts_with nat_eq (45 ∷ b ∷ rest) (codes "->") ≡ false
no-arrow b rest e = rw e refl

minus-entry : (b : ℕ) (rest : List ℕ) → (62 == b) ≡ false → entry_at signs (45 ∷ b ∷ rest) ≡ Some (entry (codes "-") sign.Minus)
minus-entry b rest e = cond-false (starts_with nat_eq (45 ∷ b ∷ rest) (codes "->")) _ _ (no-arrow b rest e)

minus-front : (b : ℕ) (rest : List ℕ) → (62 == b) ≡ false → front (45 ∷ b ∷ rest) ≡ Found (token.Sign sign.Minus) 1
minus-front b rest e =
    ap (λ o. elim o [ None ↦ (if begins_directive (45 ∷ b ∷ rest) then directive (45 ∷ b ∷ rest) else Last token.BadByte 0) | Some e ↦ Found (token.Sign e.sign) (length e.text) ])
    (minus-entry b rest e)

pub minus_read : (b : ℕ) → (62 == b) ≡ false → ReadsAt (codes "-") sign.Minus b
minus_read b e rest at = found-read 45 [] (b ∷ rest) (token.Sign sign.Minus) at (minus-front b rest e)

pub over_read : (b : ℕ) → (42 == b) ≡ false → ReadsAt (codes "/") sign.Over b
over_read b e rest at = rw e refl

pub equal_read : ReadsAt (codes "=") sign.Equal 32
equal_read rest at = refl

pub differ_read : ReadsAt (codes "\\=") sign.Differ 32
differ_read rest at = found-read 92 (61 ∷ []) (32 ∷ rest) (token.Sign sign.Differ) at refl

pub equals_read : ReadsAt (codes "#=") (sign.Relation op.Eq false) 32
equals_read rest at = found-read 35 (61 ∷ []) (32 ∷ rest) (token.Sign (sign.Relation op.Eq false)) at refl

pub below_read : ReadsAt (codes "#<") (sign.Relation op.Lt false) 32
below_read rest at = found-read 35 (60 ∷ []) (32 ∷ rest) (token.Sign (sign.Relation op.Lt false)) at refl

pub at_most_read : ReadsAt (codes "#=<") (sign.Relation op.Le false) 32
at_most_read rest at = found-read 35 (61 ∷ 60 ∷ []) (32 ∷ rest) (token.Sign (sign.Relation op.Le false)) at refl

pub other_read : ReadsAt (codes "#<>") (sign.Relation op.Ne false) 32
other_read rest at = found-read 35 (60 ∷ 62 ∷ []) (32 ∷ rest) (token.Sign (sign.Relation op.Ne false)) at refl

pub stop_read : ReadsAt (codes ".") sign.Stop 10
stop_read rest at = refl

pub not_read : (rest : List ℕ) (at : ℕ) → tokens_behind 0 at (codes "not" ++ 32 ∷ rest) ≡ placed at token.Not ∷ tokens_behind 0 (at + 3) (32 ∷ rest)
not_read rest at = found-read 110 (111 ∷ 116 ∷ []) (32 ∷ rest) token.Not at refl

-- blanks and line ends are passed over

pub blank_read : (rest : List ℕ) (at : ℕ) → tokens_behind 0 at (32 ∷ rest) ≡ tokens_behind 0 (at + 1) rest
blank_read rest at = refl

pub line_read : (rest : List ℕ) (at : ℕ) → tokens_behind 0 at (10 ∷ rest) ≡ tokens_behind 0 (at + 1) rest
line_read rest at = refl
