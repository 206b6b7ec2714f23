use Rattle.std.proofs.Common.{◌≡◌, List, ℕ, subst}
use Rattle.scasp_num.specs.Linear.{Gives}
use Rattle.scasp_syntax.specs.declared.con.Con.{Con}
use Rattle.scasp_unify.specs.ResolvedLists.{ResolvesList}
use Rattle.scasp_unify.specs.declared.resolver.Resolver.{Resolver}
use Rattle.scasp_project.specs.Dropped.{Reading, reading_of}
use Rattle.scasp_project.specs.Inside.CodeReading.{reading}
use Rattle.scasp_project.specs.Projection.{projected_by}
use Rattle.scasp_project.proofs.projecting.projection.Goals as goal

reads : (r : Resolver) (cs : List Con) (keep : List ℕ) → ResolvesList r cs → reading r keep ≡ reading_of cs keep
reads r cs keep h i = record { resolver = h.bound i; number = λ y. h.numbers y i; keep = keep }

pub returns : goal.returns
returns c = subst (λ (s : Reading). Gives c.projected_by.result (projected_by s c.args.constraints.now)) (reads c.args.resolver.now c.args.constraints.now c.args.keep.now c.requires) c.projected_by.ensures
