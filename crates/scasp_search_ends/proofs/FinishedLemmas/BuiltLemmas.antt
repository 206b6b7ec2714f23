-- Lines from the last on.
use Rattle.std.proofs.Common.{◌≡◌, ℕ, List, [], ◌∷◌, ◌++◌, refl, ap}
use Rattle.scasp_search_ends.specs.Finished.Onto.{onto}
use Rattle.scasp_search_rules.specs.declared.states.lines.Line.{Line}
use Rattle.scasp_search_rules.specs.Successors.Trees.{Built, built, no_lines, put}

pub onto_last : (ats : List ℕ) (ls : List Line) (l : Line) (b : Built) → onto ats (ls ++ l ∷ []) b ≡ onto ats ls (put ats l b)
onto_last ats [] l b = refl
onto_last ats (k ∷ ks) l b = ap (put ats k) (onto_last ats ks l b)

pub onto_none : (ats : List ℕ) (ls : List Line) → onto ats ls no_lines ≡ built ats ls
onto_none ats [] = refl
onto_none ats (l ∷ ls) = ap (put ats l) (onto_none ats ls)
