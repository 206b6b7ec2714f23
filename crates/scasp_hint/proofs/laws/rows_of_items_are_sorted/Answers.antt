use Rattle.scasp_hint.proofs.RowItems.{item-sorted}
use Rattle.scasp_hint.proofs.laws.rows_of_items_are_sorted.Goals as goal

pub returns : goal.returns
returns c = item-sorted
