-- `writing::formats::head_size` meets its contract: a list and a led item have one octet before their parts. Assumes nothing.
use mathlib.Core.Path.{ap}
use mathlib.Core.Logic.{⊎_elim}
use native.Mathlib.Omega.{arith}
use lib.ListN.{length}
use Rattle.writing.proofs.HeadLaws.{head_list, head_led, head_none}
use Rattle.writing.proofs.formats.head_size.Goals as goal

-- a list, or a led item
pub returns-in-Repeated : goal.returns-in-Repeated
returns-in-Repeated c =
    (omega arith, λ k. ⊎_elim (λ e. ap length (head_list c.args.layout.place k c.row-l.ensures e)) (λ e. ap length (head_led c.args.layout.place k c.row-l.ensures e).0) c.in-Repeated.is)

-- neither
pub returns-in_default : goal.returns-in_default
returns-in_default c =
    (omega arith, λ k. ap length (head_none c.args.layout.place k c.row-l.ensures c.in_default.not-Repeated c.in_default.not-Led))
