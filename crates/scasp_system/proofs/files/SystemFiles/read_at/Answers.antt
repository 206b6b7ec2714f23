use Rattle.std.proofs.Common.{◌≡◌, ◌+◌, sym, subst}
use Rattle.std.specs.Prelude.{string_bytes}
use Rattle.scasp_system.specs.Standing.{StandsAt}
use Rattle.scasp_system.specs.declared.files.OpenFile.{OpenFile}
use Rattle.scasp_system.proofs.Reading.{StandsAt-consumed}
use Rattle.scasp_system.proofs.files.SystemFiles.read_at.Goals as goal

-- the file that is kept stands behind what was read
pub invariant_of-self : goal.invariant_of-self
invariant_of-self g c =
    let moved = StandsAt-consumed _ _ _ c.args.at c.in_ok-count.count c.read_retrying.new.buffer
    c.in_ok-open.ensures.stands c.in_ok-count.ensures.bound.0 c.in_ok-count.ensures.bytes.0 in
    let next : c.args.at + c.in_ok-count.count ≡ c.in-Some.next = sym c.in-Some.ensures.1 in
    record {
      stands = λ x is.
          let left = g.S.File.Read.remaining c.read_retrying.new.reader in
          let behind : StandsAt (g.S.Opener.told c.file_at.new.self.opener (string_bytes c.in_ok-open.open.name)) c.in-Some.next left =
          rw (c.in_ok-open.ensures.opener, c.in_ok-open.ensures.name, ← next) moved in
          let kept : OpenFile g.row.S-File.Denot = record { name = c.in_ok-open.open.name; at = c.in-Some.next; file = c.read_retrying.new.reader } in
          let same : kept ≡ x = cc in
          subst (λ (o : OpenFile g.row.S-File.Denot). StandsAt (g.S.Opener.told c.file_at.new.self.opener (string_bytes o.name)) o.at (g.S.File.Read.remaining o.file)) same behind;
    }
