use Rattle.std.proofs.Common.{◌∙◌, ◌++◌, List, ap, refl}
use Rattle.scasp_extend_levels.proofs.SetLemmas.{put-same}
use Rattle.scasp_model.specs.Atoms.{among}
use Rattle.scasp_model.specs.Levelled.{levelled_model}
use Rattle.scasp_sound.specs.MapLevels.{level_of, plus_of}
use Rattle.scasp_syntax.specs.declared.atom.Atom.{Atom}
use Rattle.scasp_extend.proofs.models.with_levelled.Goals as goal

pub returns-clause-atoms : goal.returns-clause-atoms
returns-clause-atoms c =
    λ map g sorted a.
    let rest : List Atom = levelled_model (level_of map) (plus_of map) g in
    ap (λ (xs : List Atom). among xs a) c.into_atoms.ensures.value
    ∙ put-same c.add_all.new.set c.args.trues c.as_slice.result.now c.in_ok-rest.rest rest (c.args.trues ++ rest) c.in_ok-add_all.ensures
    c.as_slice.ensures.value (c.in_ok-rest.ensures map g sorted) (λ b. refl) a
