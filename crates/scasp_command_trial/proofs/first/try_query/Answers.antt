use Rattle.scasp_search.specs.Rests.{rest_of, stopped}
use Rattle.scasp_command_trial.proofs.TrialLemmas.{going-opened, tries-all}
use Rattle.scasp_command_trial.proofs.first.try_query.Goals as goal

pub try_search-requires : goal.try_search-requires
try_search-requires c =
    going-opened c.args.program.now c.args.budget c.args.fresh (rest_of c.in_ok-search.search) (stopped c.in_ok-search.search)
    c.requires c.in_ok-search.ensures.run c.in_ok-search.ensures.goes

pub returns : goal.returns
returns c =
    tries-all c.args.program.now c.args.budget c.args.fresh (rest_of c.in_ok-search.search) c.try_search.result
    c.requires c.in_ok-search.ensures.run c.try_search.ensures
