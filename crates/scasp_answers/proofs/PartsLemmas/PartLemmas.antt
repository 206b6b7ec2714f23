-- Parts, one more or one less.
use Rattle.std.proofs.Common.{◌≡◌, ◌≢◌, ◌∙◌, List, [], ◌∷◌, ◌++◌, length, map, Some, refl, sym, ap, arith, length-append}
use Rattle.std.specs.Prelude.{◌==◌, true}
use Rattle.std.proofs.lemmas.Bool.{eqb-true}
use Rattle.std.proofs.lemmas.List.{length-map}
use Rattle.scasp_syntax.specs.declared.con.Con.{Con}
use Rattle.scasp_cert.specs.View.{tree_of, cover_of, branch_of}
use Rattle.scasp_cert.specs.declared.tree.Case.{Case}
use Rattle.scasp_answers_terms.specs.Tokens.Lines.{split_line}
use Rattle.scasp_answers.specs.Blocks.Open as spec
use Rattle.scasp_answers.specs.declared.parts.open_line.Part.{Part}
use Rattle.scasp_answers.specs.declared.parts.open_line.Part.TheVariants as part
use Rattle.scasp_answers.specs.Parts.View.{part_of, parts_in, sides}

-- ---- two cases

pub no-case : (c : Con) → spec.split_part (split_line c) (map branch_of []) ≡ []
no-case c = refl

pub one-case : (c : Con) (s : Case) → spec.split_part (split_line c) (map branch_of ([] ++ s ∷ [])) ≡ []
one-case c s = refl

pub two-cases : (c : Con) (f s : Case) → spec.split_part (split_line c) (map branch_of (([] ++ f ∷ []) ++ s ∷ [])) ≡ sides c (Some (f, s))
two-cases c f s = refl

more : (c : Con) (cases : List Case) (f s : Case) → cases ≢ [] → spec.split_part (split_line c) (map branch_of ((cases ++ f ∷ []) ++ s ∷ [])) ≡ []
more c [] f s n = absurd (n refl)
more c (x ∷ []) f s n = refl
more c (x ∷ y ∷ []) f s n = refl
more c (x ∷ y ∷ z ∷ cases) f s n = refl

pub more_cases : (c : Con) (all some cases : List Case) (f s : Case) → all ≡ some ++ s ∷ [] → some ≡ cases ++ f ∷ [] → cases ≢ [] → spec.split_part (split_line c) (map branch_of all) ≡ []
more_cases c all some cases f s e g n =
    ap (λ l. spec.split_part (split_line c) (map branch_of l)) (e ∙ ap (λ l. l ++ s ∷ []) g) ∙ more c cases f s n

-- ---- one part

pub one_part : (all some : List Part) (p : Part) → all ≡ some ++ p ∷ [] → length all ≡ 1 → spec.cases_among (parts_in all) ≡ spec.cases_among (part_of p ∷ [])
one_part all some p e h = by some (e, ap length (sym e) ∙ h)
  where
    by : (some : List Part) → (all ≡ some ++ p ∷ []) × (length (some ++ p ∷ []) ≡ 1) → spec.cases_among (parts_in all) ≡ spec.cases_among (part_of p ∷ [])
    by [] q = ap (λ ps. spec.cases_among (parts_in ps)) q.0
    by (x ∷ xs) q = absurd (omega (arith, length-append xs (p ∷ []), q.1))

-- as many parts as values
pub one_value : (ps : List Part) → (length (parts_in ps) == 1) ≡ true → length ps ≡ 1
one_value ps e = sym (length-map ps part_of) ∙ eqb-true (length (parts_in ps)) 1 e

-- ---- parts, one more

pub trees_more : (ps : List Part) (p : Part) → spec.trees_among (parts_in (ps ++ p ∷ [])) ≡ spec.trees_among (parts_in ps) ++ spec.trees_among (part_of p ∷ [])
trees_more [] p = refl
trees_more (part.Node n ∷ ps) p = ap (λ l. tree_of n ∷ l) (trees_more ps p)
trees_more (part.Cover k ∷ ps) p = trees_more ps p
trees_more (part.Case b ∷ ps) p = trees_more ps p

pub covers_more : (ps : List Part) (p : Part) → spec.covers_among (parts_in (ps ++ p ∷ [])) ≡ spec.covers_among (parts_in ps) ++ spec.covers_among (part_of p ∷ [])
covers_more [] p = refl
covers_more (part.Node n ∷ ps) p = covers_more ps p
covers_more (part.Cover k ∷ ps) p = ap (λ l. cover_of k ∷ l) (covers_more ps p)
covers_more (part.Case b ∷ ps) p = covers_more ps p

pub cases_more : (ps : List Part) (p : Part) → spec.cases_among (parts_in (ps ++ p ∷ [])) ≡ spec.cases_among (parts_in ps) ++ spec.cases_among (part_of p ∷ [])
cases_more [] p = refl
cases_more (part.Node n ∷ ps) p = cases_more ps p
cases_more (part.Cover k ∷ ps) p = cases_more ps p
cases_more (part.Case b ∷ ps) p = ap (λ l. branch_of b ∷ l) (cases_more ps p)
