-- What is within a table is within each larger one.
use Rattle.std.specs.Prelude.{ℕ, ◌≤◌, Option, None, Some}
use Rattle.scasp_list.proofs.EachLemmas.{Each-map}
use Rattle.scasp_syntax.specs.Tm.{app}
use Rattle.scasp_syntax.specs.declared.atom.Atom.{Atom}
use Rattle.scasp_syntax.specs.declared.clause.Clause.{Clause}
use Rattle.scasp_syntax.specs.declared.clause.Item.{Item}
use Rattle.scasp_syntax.specs.declared.clause.Item.TheVariants as item
use Rattle.scasp_syntax.specs.declared.clause.Query.{Query}
use Rattle.scasp_law_printable.specs.Within.{ClauseWithin, HeadWithin, ItemWithin, QueryWithin}
use Rattle.scasp_law_printable.proofs.Terms.{larger}

module _ (n m : ℕ) (l : n ≤ m) where
  item-larger : (i : Item) → ItemWithin n i → ItemWithin m i
  item-larger (item.Call c) h = larger n m l (app c.atom.name c.atom.args) h
  item-larger (item.Equal t u) h = (larger n m l _ h.0, larger n m l _ h.1)
  item-larger (item.Differ t u) h = (larger n m l _ h.0, larger n m l _ h.1)
  item-larger (item.Linear r) h = h

  head-larger : (o : Option Atom) → HeadWithin n o → HeadWithin m o
  head-larger None h = tt
  head-larger (Some a) h = larger n m l (app a.name a.args) h

  pub clause-larger : (c : Clause) → ClauseWithin n c → ClauseWithin m c
  clause-larger c h = (head-larger c.head h.0, Each-map (ItemWithin n) (ItemWithin m) item-larger c.body h.1)

  pub query-larger : (q : Query) → QueryWithin n q → QueryWithin m q
  query-larger q h = Each-map (ItemWithin n) (ItemWithin m) item-larger q.body h
