-- The page has the digits of the octets so far.
use Rattle.std.proofs.Common.{◌≡◌, take}
use Rattle.text.specs.Octet.{hex_text}
use Rattle.text.specs.Page.{page_of, puts}
use Rattle.text.proofs.page.Page.put_octets.Given as goal

abbrev pub invariant-loop-octet : goal.invariant-loop-octet
invariant-loop-octet l =
    (page_of l.self ≡ puts (hex_text (take l.octet-index l.octets)) (page_of l.initial.self))
    × (l.self.held.ghost_name ≡ l.initial.self.held.ghost_name)
