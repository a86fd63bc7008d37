-- `asterix_find_mark` meets its contract: in each case of what is found the struct is the one that says it. Assumes nothing.
use Rattle.asterix.specs.Sheets.{mark_found}
use Rattle.asterix.proofs.SheetStructs.{mark_found_lem}
use Rattle.asterix.proofs.sheet.asterix_find_mark.Goals as goal

pub returns-in-Some : goal.returns-in-Some
unfolding mark_found
returns-in-Some c = mark_found_lem _ _ c.find_mark.ensures c.from.ensures c.in-Some.is

pub returns-in-None : goal.returns-in-None
unfolding mark_found
returns-in-None c = mark_found_lem _ _ c.find_mark.ensures c.from.ensures c.in-None.is
