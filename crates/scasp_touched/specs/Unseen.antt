-- Parts of a certificate that are still to be seen.
use Rattle.std.specs.Prelude.{ℕ, ◌+◌, ◌*◌, List, [], ◌∷◌, ◌++◌, map}
use Rattle.scasp_syntax.specs.declared.atom.Pred.{Pred}
use Rattle.scasp_cert.specs.Lines.{lines_at, lines_below, lines_in}
use Rattle.scasp_cert.specs.Trees.{covering, listed}
use Rattle.scasp_cert.specs.View.{branch_of, cover_of, tree_of}
use Rattle.scasp_touched.specs.Named.{clauses_at, clauses_below, clauses_in, preds_at, preds_below, preds_in}
use Rattle.scasp_touched.specs.declared.named.Part.{Part}
use Rattle.scasp_touched.specs.declared.named.Part.TheVariants.{Nodes, Covers, Case}

-- what the lines of a part name
abbrev pub part_clauses : Part → List ℕ
part_clauses (Nodes ns) = clauses_below (listed (map tree_of ns.now))
part_clauses (Covers ks) = clauses_in (covering (map cover_of ks.now))
part_clauses (Case b) = clauses_at (branch_of b.now)

abbrev pub part_preds : Part → List Pred
part_preds (Nodes ns) = preds_below (listed (map tree_of ns.now))
part_preds (Covers ks) = preds_in (covering (map cover_of ks.now))
part_preds (Case b) = preds_at (branch_of b.now)

-- what the lines of all parts name
abbrev pub unseen_clauses : List Part → List ℕ
unseen_clauses [] = []
unseen_clauses (p ∷ ps) = part_clauses p ++ unseen_clauses ps

abbrev pub unseen_preds : List Part → List Pred
unseen_preds [] = []
unseen_preds (p ∷ ps) = part_preds p ++ unseen_preds ps

-- what is left to do with them: a line puts off two parts at most
abbrev pub part_work : Part → ℕ
part_work (Nodes ns) = 3 * lines_below (listed (map tree_of ns.now)) + 1
part_work (Covers ks) = 3 * lines_in (covering (map cover_of ks.now)) + 1
part_work (Case b) = 3 * lines_at (branch_of b.now)

abbrev pub work : List Part → ℕ
work [] = 0
work (p ∷ ps) = part_work p + work ps
