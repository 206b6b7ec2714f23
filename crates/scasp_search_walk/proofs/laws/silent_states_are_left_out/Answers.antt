use Rattle.std.specs.Prelude.{false}
use Rattle.scasp_search_walk.proofs.ThinLemmas.{met}
use Rattle.scasp_search_walk.proofs.laws.silent_states_are_left_out.Goals as goal

pub returns : goal.returns
returns c = λ m silent is budget calls states found f. met m silent is budget f.0 calls false states found f.1
