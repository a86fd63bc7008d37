-- The profiles as the code has them: a category is a number, its index in the list of the rules' categories, and of each the code's table has a row.
-- The rows of that table are what the categories give; nothing is transcribed here. Assumes nothing.
--
-- In order: a category by its index; a set of FRNs as a number; what a row has; the rows.
use Rattle.std.specs.Prelude.{ℕ, zero, suc, Bool, false, List, [], ◌∷◌, map, eqb, length, get_or, replicate}
use Rattle.std.proofs.Math.Option.{Option, none, some}
use Rattle.rules.specs.Answer.{when◌then◌else◌}
use Rattle.rules.specs.Presence.{number, present}
use Rattle.rules.specs.Record.{Category, places}
use Rattle.rules.specs.Catalogue.{categories}
use Rattle.rules.specs.Entry.{over}
use Rattle.tables.specs.declared.profiles.ProfileRow.{ProfileRow}
use Rattle.tables.specs.Places.{frn_as}

-- ---- a category by its index

-- the category with an index; any other index has no profile and no messages
abbrev pub category_in : List Category → ℕ → Category
category_in [] i = record { cat = 0; time = 0; untimed = []; profile = []; messages = [] }
category_in (c ∷ cs) zero = c
category_in (c ∷ cs) (suc i) = category_in cs i

unfoldable pub category_at : ℕ → Category
category_at i = category_in categories i

-- the index of a category in a list, by its CAT, or how long the list is
unfoldable pub profile_in : ℕ → List Category → ℕ
profile_in n [] = 0
profile_in n (c ∷ cs) = when eqb n c.cat then 0 else suc (profile_in n cs)

-- ---- a set of FRNs as a number: FRN f, 0 to 63, is bit 63 - f

-- whose flags are given from FRN 1 on
unfoldable pub bits_of : List Bool → ℕ
bits_of ts = number (over (false ∷ ts) (replicate 64 false))

-- ---- what the code has of a category

abbrev pub or_none : Option ℕ → ℕ
or_none none = 0
or_none (some f) = f

-- how many octets an FSPEC has at most
abbrev pub octets_in : Category → ℕ
octets_in c = length c.profile

-- the FRNs that have an item
abbrev pub usable_in : Category → ℕ
usable_in c = bits_of (map present (places c))

-- the FRN of the item with a reference, 0 where there is none
abbrev pub frn_in : ℕ → Category → ℕ
frn_in ref c = or_none (frn_as ref 1 (places c))

-- one more than the message type in which a time is none, 0 where there is no such; no category has two (`ProfileLaws`, `row_untimed`)
abbrev pub untimed_as : List ℕ → ℕ
untimed_as [] = 0
untimed_as (t ∷ ts) = suc t

-- ---- the row with an index

abbrev pub row_of : Category → ProfileRow
row_of c = record {
  cat = c.cat;
  octets = octets_in c;
  usable = usable_in c;
  kind = frn_in 0 c;
  time = frn_in c.time c;
  untimed = untimed_as c.untimed;
}

-- what the table has past its end
abbrev pub no_row : ProfileRow
no_row = record { cat = 0; octets = 0; usable = 0; kind = 0; time = 0; untimed = 0 }

unfoldable pub profile_row_at : ℕ → ProfileRow
profile_row_at i = get_or (map row_of categories) i no_row
