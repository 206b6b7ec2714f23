use Rattle.std.proofs.Common.{◌≡◌, ◌∙◌, List, map, sym, ap, subst}
use Rattle.scasp_closure.specs.Reading.{atoms_in}
use Rattle.scasp_syntax.specs.declared.atom.Atom.{Atom}
use Rattle.scasp_map.specs.Entries.{level_in, plus_in}
use Rattle.scasp_extend_levels.specs.Numbered.{StandAll, standing_of}
use Rattle.scasp_extend_levels.specs.Scenes.{Scene, inside, read}
use Rattle.scasp_extend_levels.specs.Sets.{with_atoms}
use Rattle.scasp_extend_levels.specs.declared.numbered.NumberedClause.{NumberedClause}
use Rattle.scasp_extend_levels.proofs.SignLemmas.{both-signs}
use Rattle.scasp_worklist.specs.Numbered.{has}
use Rattle.scasp_extend_levels.proofs.levels.add_level.Goals as goal

pub returns : goal.returns
returns c =
    λ cs stand.
    let before = c.args.model.now in
    let plus_set = has c.in_ok-plus.plus in
    let minus_set = has c.in_ok-minus.minus in
    let atoms = c.as_slice-atoms.result.now in
    let table = c.args.here.now.table in
    let w : Scene c.as_slice-known.result.now c.as_slice-rules.result.now =
    record {
      level = level_in c.args.entries.now;
      plus = plus_in c.args.entries.now;
      at = c.args.level;
      below = before;
      table = table;
      clauses = cs;
      distinct = c.as_slice-atoms.ensures.distinct;
      stand = subst (λ (z : List NumberedClause). StandAll table z cs) (sym c.as_slice-rules.ensures) stand;
      standings = c.as_slice-known.ensures ∙ c.in_ok-standings.ensures
          ∙ ap (map (standing_of (level_in c.args.entries.now) (plus_in c.args.entries.now) c.args.level before)) c.as_slice-atoms.ensures.value;
    } in
    both-signs w.plus (read w) before (inside w plus_set) (inside w minus_set) c.add_set-2.new.model (c.in_ok-plus.ensures w) (c.in_ok-minus.ensures w)
    (c.in_ok-add_set-2.ensures
    ∙ ap (λ (m : List Atom). with_atoms m (atoms_in minus_set atoms)) c.in_ok-add_set.ensures
    ∙ ap (λ (ts : List Atom). with_atoms (with_atoms before (atoms_in plus_set ts)) (atoms_in minus_set ts)) c.as_slice-atoms.ensures.value)
