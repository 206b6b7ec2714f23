-- What an open line puts into a block when it is closed at the left edge.
use Rattle.std.specs.Prelude.{◌≡◌, ℕ, List, ◌++◌, ◌==◌, length, map}
use Rattle.scasp_cert.specs.Certificate.{Certificate}
use Rattle.scasp_answers.specs.Blocks.Open as spec
use Rattle.scasp_answers.specs.declared.opens.top.Top.{Top}
use Rattle.scasp_answers.specs.declared.opens.top.Top.TheVariants as top

-- the block with these query items
abbrev pub with_trees : Certificate → List spec.Part → Certificate
with_trees c ps = record c { trees = spec.trees_among ps }

-- the block with the check of this clause
abbrev pub with_checks : Certificate → ℕ → List spec.Part → Certificate
with_checks c clause ps = record c { checks = c.checks ++ map (λ b. (clause, b)) (spec.cases_among ps) }

-- an open line puts query items, a check, or nothing into a block
abbrev pub IsTop : Top → spec.Open → Type 0
IsTop top.Query o = (c : Certificate) → spec.with_top o c ≡ with_trees c o.parts
IsTop (top.Check clause) o = (spec.is_whole o ≡ (length o.parts == 1)) × ((c : Certificate) → spec.with_top o c ≡ with_checks c clause o.parts)
IsTop top.Other o = (c : Certificate) → spec.with_top o c ≡ c
