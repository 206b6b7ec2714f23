use Rattle.scasp_checker_answer.proofs.NameClashLemmas.{shown-by_names}
use Rattle.scasp_checker_answer.proofs.laws.names_show_pairs_apart.Goals as goal

pub returns : goal.returns
returns c = shown-by_names
