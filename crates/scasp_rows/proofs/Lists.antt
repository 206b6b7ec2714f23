-- Laws of lists, by names that code can cite.
use Rattle.std.proofs.Common.{append-nil}
use Rattle.std.proofs.lemmas.List.{take_rest}
use Rattle.std.proofs.lemmas.List.Folds.{list_any-append}

pub ruleset appended = (list_any-append, append-nil, take_rest)
