-- Items that are put behind those of a list.
use Rattle.std.specs.Prelude.{◌≡◌, List, ◌++◌, Option, None, Some, Result, Ok, Err, ⊤}
use Rattle.scasp_num.specs.Arithmetic.{◌>>=◌}
use Rattle.scasp_num.specs.Linear.{Linear}
use Rattle.scasp_num.specs.declared.linear.RowErr.{RowErr}
use Rattle.scasp_num.specs.declared.linear.RowErr.TheVariants as row_err

-- the items are put behind those before, where they are made
abbrev pub Adds : {A : Type 0} → List A → List A → Result Unit RowErr → Option (List A) → Type 0
Adds before after (Ok done) o = o >>= (λ more. Some (before ++ more)) ≡ Some after
Adds before after (Err row_err.Overflow) o = None ≡ o
Adds before after (Err row_err.Memory) o = ⊤

abbrev pub AddsRows : List Linear → List Linear → Result Unit RowErr → Option (List Linear) → Type 0
AddsRows before after r o = Adds before after r o

abbrev pub AddsLists : List (List Linear) → List (List Linear) → Result Unit RowErr → Option (List (List Linear)) → Type 0
AddsLists before after r o = Adds before after r o
