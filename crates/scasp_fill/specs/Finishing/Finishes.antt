-- What a tree of the written search comes to.
use Rattle.std.specs.Prelude.{IsTrue, not, ◌++◌}
use Rattle.std.specs.List.{list_all, list_any}
use Rattle.scasp_cert.specs.Certificate.{Certificate, certificate_of}
use Rattle.scasp_fill.specs.Finishing.Right.{Completes, HasNoAccepted}
use Rattle.scasp_fill.specs.declared.finishing.finishing.Finished.{Finished}
use Rattle.scasp_fill.specs.declared.finishing.finishing.Finished.TheVariants.{Answer, Passed, Overflow}
use Rattle.scasp_graph.specs.Map.{MapHolds}
use Rattle.scasp_hint.specs.Finding.{overflows_in}
use Rattle.scasp_hint.specs.Satisfying.{sat}
use Rattle.scasp_sound.specs.MapLevels.{covered}
use Rattle.scasp_search_rules.specs.Successors.Answers.{hint_lists, pair_lists}
use Rattle.scasp_syntax.specs.declared.program.Program.{Program}

-- no positive literal can be one with a negated one, as in each answer of the written search
abbrev pub ArePairsApart : Program → Certificate → Type 0
ArePairsApart p c = IsTrue (list_all (λ cs. not (sat cs)) (pair_lists p c))

-- the tree is as those of the written search: its literals are apart, and the program keeps its map
pub record IsSearched (p : Program) (tree : Certificate) : Type 0 where
  pub apart : ArePairsApart p tree
  pub map : MapHolds p (covered tree) tree.map

-- a list that a hint or a clash line of the certificate is about overflows
abbrev pub HasOverflow : Program → Certificate → Type 0
HasOverflow p c = IsTrue (list_any overflows_in (pair_lists p c ++ hint_lists p c))

-- The tree is made a right answer. One of the written search is passed over only where no hints and clash lines make it accepted, and is an
-- overflow only where a list that is asked about it overflows.
abbrev pub Finishes : Program → Certificate → Finished → Type 0
Finishes p tree (Answer cert) = Completes p tree (certificate_of cert)
Finishes p tree Passed = IsSearched p tree → HasNoAccepted p tree
Finishes p tree Overflow = IsSearched p tree → HasOverflow p tree
