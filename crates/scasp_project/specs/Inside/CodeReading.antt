-- How the code reads a list: by its resolver and the variables that are kept.
use Rattle.std.specs.Prelude.{◌≡◌, ℕ, Bool, nat_eq, List, ◌++◌, Option, None, Some, Result, Ok, Err, ⊤}
use Rattle.std.specs.List.{list_any}
use Rattle.scasp_num.specs.Arithmetic.{◌>>=◌}
use Rattle.scasp_num.specs.declared.linear.RowErr.{RowErr}
use Rattle.scasp_num.specs.declared.linear.RowErr.TheVariants as row_err
use Rattle.scasp_syntax.specs.declared.con.Con.{Con}
use Rattle.scasp_unify.specs.Solving.{sub_of}
use Rattle.scasp_unify.specs.declared.resolver.Resolver.{Resolver}
use Rattle.scasp_project.specs.Dropped.{Reading}

abbrev pub numbers_of : Resolver → ℕ → Bool
numbers_of r y = list_any (λ z. nat_eq z y) r.numbers.items

abbrev pub reading : Resolver → List ℕ → Reading
reading r keep = record { resolver = sub_of r.bindings.items; number = numbers_of r; keep = keep }

-- the options are put behind those before, where they are made
abbrev pub AddsOptions : List Con → List Con → Result Unit RowErr → Option (List Con) → Type 0
AddsOptions before after (Ok done) o = o >>= (λ more. Some (before ++ more)) ≡ Some after
AddsOptions before after (Err row_err.Overflow) o = None ≡ o
AddsOptions before after (Err row_err.Memory) o = ⊤
