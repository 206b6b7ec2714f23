-- How a row that is not made ends an elimination.
use Rattle.std.specs.Prelude.{◌≡◌}
use Rattle.scasp_num.specs.declared.linear.RowErr.{RowErr}
use Rattle.scasp_num.specs.declared.linear.RowErr.TheVariants as row_err
use Rattle.scasp_rows.specs.declared.state.Halt.{Halt}
use Rattle.scasp_rows.specs.declared.state.Halt.TheVariants as halt

abbrev pub IsHalt : RowErr → Halt → Type 0
IsHalt row_err.Overflow e = e ≡ halt.Overflow
IsHalt row_err.Memory e = e ≡ halt.Memory
