-- Whether two signs are the same.
use Rattle.std.specs.Prelude.{Bool, true, false, ◌&&◌}
use Rattle.scasp_num.specs.SameRow.{same_op}
use Rattle.scasp_reader_tokens.specs.declared.sign.Sign.{Sign}
use Rattle.scasp_reader_tokens.specs.declared.sign.Sign.TheVariants.{Open, Close, OpenList, CloseList, Comma, Bar, Plus, Minus, Times, Over, If, Query, Equal, Differ, Stop, Relation, Foreign}

abbrev pub same_flag : Bool → Bool → Bool
same_flag true b = b
same_flag false true = false
same_flag false false = true

abbrev pub same_sign : Sign → Sign → Bool
same_sign Open Open = true
same_sign Close Close = true
same_sign OpenList OpenList = true
same_sign CloseList CloseList = true
same_sign Comma Comma = true
same_sign Bar Bar = true
same_sign Plus Plus = true
same_sign Minus Minus = true
same_sign Times Times = true
same_sign Over Over = true
same_sign If If = true
same_sign Query Query = true
same_sign Equal Equal = true
same_sign Differ Differ = true
same_sign Stop Stop = true
same_sign (Relation o a) (Relation p b) = same_op o p && same_flag a b
same_sign Foreign Foreign = true
same_sign s t = false
