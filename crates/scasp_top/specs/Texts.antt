-- The line that is printed where the words are no command.
use Rattle.std.specs.Prelude.{ℕ, List, codes}

abbrev pub usage_line : List ℕ
usage_line = codes "usage: scasp run FILE [--budget N] [--answers N] [--format N] | check PROGRAM ANSWERS | trial N | extend PROGRAM ANSWERS DOMAIN | recheck ANSWERS FILE FILE [FILE]..\n"
