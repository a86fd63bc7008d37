-- `writing::formats::lay_head` meets its contract: a list's octet counts its parts, a led item's its own octet too. Assumes nothing.
use native.Mathlib.Omega.{arith}
use Rattle.writing.proofs.TableLaws.{layout_row_is}
use Rattle.writing.proofs.HeadLaws.{list_room, list_laid, head_led, led_room, led_laid, none_laid}
use Rattle.writing.proofs.formats.lay_head.Goals as goal

pub count_octet-requires : goal.count_octet-requires
count_octet-requires c =
    omega (arith, c.requires.passes, (layout_row_is c.args.layout.place).sound.few)

pub bounds-out-start : goal.bounds-out-start
bounds-out-start c =
    list_room _ _ c.row-l.ensures c.in-Repeated.is c.requires.count_in_bounds

-- a list
pub returns-in-Repeated : goal.returns-in-Repeated
returns-in-Repeated c =
    list_laid _ _ c.row-l.ensures _ _ c.in-Repeated.is c.count_octet.ensures

pub count_octet-requires-in-Led : goal.count_octet-requires-in-Led
count_octet-requires-in-Led c =
    omega (arith, c.requires.passes, (head_led _ 0 c.row-l.ensures c.in-Led.is).1)

pub bounds-out-start-in-Led : goal.bounds-out-start-in-Led
bounds-out-start-in-Led c =
    led_room _ _ c.row-l.ensures c.in-Led.is c.requires.count_in_bounds

-- a led item
pub returns-in-Led : goal.returns-in-Led
returns-in-Led c =
    led_laid _ _ c.row-l.ensures _ _ c.in-Led.is c.count_octet-in-Led.ensures

-- neither
pub returns-in_default : goal.returns-in_default
returns-in_default c =
    none_laid _ _ c.row-l.ensures _ _ c.in_default.not-Repeated c.in_default.not-Led
