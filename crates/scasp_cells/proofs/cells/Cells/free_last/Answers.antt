use Rattle.std.proofs.Common.{arith}
use Rattle.scasp_cells.proofs.Filling.{freed, none_spare}
use Rattle.scasp_cells.proofs.cells.Cells.free_last.Goals as goal
use Rattle.scasp_cells.proofs.cells.Cells.free_last.Goals.{in-Some, in_default}

pub free-alloc-requires : goal.free-alloc-requires
free-alloc-requires g c = (freed c.self.inside.len _ c.self.inside.segments.items c.pop.new.self.items c.in-Some.segment c.self.invariant c.self.view_is c.requires c.in-Some.ensures.items).empty

pub invariant_of-self : goal.invariant_of-self
invariant_of-self g c =
    elim c.match-pop.branch [
      | in-Some w ↦ (freed c.self.inside.len _ c.self.inside.segments.items c.pop.new.self.items w.in-Some.segment c.self.invariant c.self.view_is c.requires w.in-Some.ensures.items).filled
      | in_default w ↦ absurd (none_spare c.self.inside.len _ c.self.inside.segments.items c.self.invariant c.self.view_is c.requires (omega (arith, c.self.inside.segments.ok.0, w.in_default.ensures)))
    ]

pub returns-clause-items : goal.returns-clause-items
returns-clause-items g c =
    elim c.match-pop.branch [
      | in-Some w ↦ (freed c.self.inside.len _ c.self.inside.segments.items c.pop.new.self.items w.in-Some.segment c.self.invariant c.self.view_is c.requires w.in-Some.ensures.items).items
      | in_default w ↦ absurd (none_spare c.self.inside.len _ c.self.inside.segments.items c.self.invariant c.self.view_is c.requires (omega (arith, c.self.inside.segments.ok.0, w.in_default.ensures)))
    ]

pub returns-clause-spare : goal.returns-clause-spare
returns-clause-spare g c =
    elim c.match-pop.branch [
      | in-Some w ↦
          let f = freed c.self.inside.len _ c.self.inside.segments.items c.pop.new.self.items w.in-Some.segment c.self.invariant c.self.view_is c.requires w.in-Some.ensures.items in
          rw f.items f.spare
      | in_default w ↦ absurd (none_spare c.self.inside.len _ c.self.inside.segments.items c.self.invariant c.self.view_is c.requires (omega (arith, c.self.inside.segments.ok.0, w.in_default.ensures)))
    ]
