use Rattle.scasp_serve_words.proofs.NumberLemmas.{no-number}
use Rattle.scasp_serve_words.proofs.words.number_in.Goals as goal

pub returns-in-Err : goal.returns-in-Err
returns-in-Err c = no-number c.args.least c.args.most c.args.word.now c.in-Err.ensures.cases.0
