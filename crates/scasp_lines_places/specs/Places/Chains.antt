-- The items of a chain, the innermost first.
use Rattle.std.specs.Prelude.{List, [], ◌∷◌, Option, None, Some}
use Rattle.std.specs.Borrow.{Bor}
use Rattle.std.specs.declared.alloc.Global.{Global}
use Rattle.std.specs.declared.rc.Rc.{Rc}
use Rattle.scasp_lines_places.specs.declared.places.chain.Chain.{Chain}
use Rattle.scasp_lines_places.specs.declared.places.chain.Link.{Link}
use Rattle.scasp_lines_places.specs.declared.places.chain.Chain.TheOpen.{Chain-F, Link-F}
use Rattle.scasp_lines_places.specs.declared.places.chain.Chain.TheFolds.{fold-Chain, fold-Link}

-- What the product's types say, one level at a time.
abbrev pub behind_link : {T : Type 0} → Option (Rc (List T) Global) → List T
behind_link None = []
behind_link (Some link) = link.value

abbrev pub chain_step : {T : Type 0} → Chain-F T (List T) (List T) → List T
chain_step {T} c = behind_link c.first

abbrev pub link_step : {T : Type 0} → Link-F T (List T) (List T) → List T
link_step {T} l = l.item ∷ l.outer

-- the items of a chain
abbrev pub chained : {T : Type 0} → Chain T → List T
chained {T} = fold-Chain T (List T) (List T) chain_step link_step

-- an item, and those outside of it
abbrev pub linked : {T : Type 0} → Link T → List T
linked {T} = fold-Link T (List T) (List T) chain_step link_step

-- what a reference lends
abbrev pub behind : {T : Type 0} → Bor T → T
behind r = r.now
