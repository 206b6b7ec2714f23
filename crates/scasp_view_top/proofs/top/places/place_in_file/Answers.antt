use Rattle.scasp_view_top.proofs.TopLemmas.PlaceLemmas.{long-place, read-place, unread-place}
use Rattle.scasp_view_top.proofs.top.places.place_in_file.Goals as goal

pub returns-in-Ok : goal.returns-in-Ok
returns-in-Ok g c =
    read-place (g.F.Files.told c.args.files.now) (g.F.Files.faults c.args.files.now) _ c.args.file.now c.args.byte c.place_in_bytes.result
    c.in-Ok.bytes.items c.as_slice.result.now c.as_slice.ensures.value c.in-Ok.ensures.whole c.in-Ok.ensures.limit c.place_in_bytes.ensures

pub returns-in-Err-Fault : goal.returns-in-Err-Fault
returns-in-Err-Fault g c =
    unread-place (g.F.Files.told c.args.files.now) (g.F.Files.faults c.args.files.now) (g.F.Files.faults c.read_file.new.files) c.args.file.now c.args.byte c.line.result
    (c.in-Err-Fault.ensures.fault (cc c.in-Err-Fault.field-0-is)) c.line.ensures

pub returns-in-Err-TooLong : goal.returns-in-Err-TooLong
returns-in-Err-TooLong g c =
    long-place (g.F.Files.told c.args.files.now) (g.F.Files.faults c.args.files.now) (g.F.Files.faults c.read_file.new.files) c.args.file.now c.args.byte c.numbered_line.result
    (c.in-Err-TooLong.ensures.too_long (cc c.in-Err-TooLong.field-0-is)) c.numbered_line.ensures
