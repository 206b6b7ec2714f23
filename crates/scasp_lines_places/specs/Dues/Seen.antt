-- Entries behind references.
use Rattle.std.specs.Borrow.{Bor}
use Rattle.scasp_lines.specs.Opened.{Opened}
use Rattle.scasp_lines_places.specs.Places.View.{opened_of}
use Rattle.scasp_lines_places.specs.declared.places.place.Entry.{Entry}

abbrev pub seen : Bor Entry → Opened
seen e = opened_of e.now
