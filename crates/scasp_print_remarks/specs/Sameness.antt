-- The remarks of an answer are the same, however it is shown.
use Rattle.std.specs.Prelude.{◌≡◌, ℕ, List, Option}
use Rattle.scasp_cert.specs.Certificate.{Certificate}
use Rattle.scasp_cert.specs.Skeleton.{skeleton}
use Rattle.scasp_print_remarks.specs.Remarks.{remarks_text}

-- two answers that are the same but for hints and clash lines have the same remarks
abbrev pub SameRemarks : Type 0
SameRemarks = (names : List (List ℕ)) (variables : List (Option ℕ)) (one other : Certificate)
    → skeleton one ≡ skeleton other → remarks_text names variables one ≡ remarks_text names variables other
