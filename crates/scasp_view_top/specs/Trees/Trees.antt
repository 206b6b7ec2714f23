-- What is shown of a block below its query: the trees, and behind them the checks whole or as their number.
use Rattle.std.specs.Prelude.{ℕ, Bool, if◌then◌else◌, List, [], ◌++◌, length, codes, decimal}
use Rattle.scasp_cert.specs.Certificate.{Certificate}
use Rattle.scasp_cert.specs.Trees.{listed}
use Rattle.scasp_view_top.specs.Trees.Pages.{Written, page_of, with_rows}
use Rattle.scasp_view_top.specs.Trees.Rows.{trees_rows, checks_rows}
use Rattle.scasp_view_top.specs.Trees.Settings.{Setting}

-- `checks 2`
unfoldable pub count_line : ℕ → List ℕ
count_line n = codes "checks " ++ decimal n ++ codes "\n"

-- the text of a page with the checks behind it
abbrev pub checks_text : Setting → Bool → Certificate → Written → List ℕ
checks_text s checks c page =
    if checks then (with_rows page (checks_rows s c.checks)).text else page.text ++ count_line (length c.checks)

-- behind this text the rows of the trees, and the checks
abbrev pub trees_text : Setting → Bool → List ℕ → Certificate → List ℕ
trees_text s checks before c = checks_text s checks c (with_rows (page_of before) (trees_rows s [] (listed c.trees)))
