-- The marks of an exercise sheet (document 02, W-203): what may be marked, the order, the bytes of a mark and of a list of them. A mark is eight bytes: its place,
-- its log, its station, its comment code, zero; or seven, without its log, in a list of one log's (W-211). Assumes nothing.
--
-- In order: the order of marks, and which are legal; the bytes of a mark; a list of marks; the totals; one log's marks.
use Rattle.std.specs.Prelude.{ℕ, zero, suc, ◌+◌, ◌-◌, ◌*◌, ◌/◌, ◌%◌, Bool, true, false, ◌&&◌, cond, List, [], ◌∷◌, ◌++◌, leb, ltb, eqb, drop, get_or}
use Rattle.rules.specs.declared.Mark.{Mark}
use Rattle.rules.specs.declared.Shape.{Shape}
use Rattle.rules.specs.declared.Shape.TheVariants.{Whole, InLog}
use Rattle.rules.specs.Answer.{Answer, ok, ◌>>=◌, need◌or◌then◌, later}
use Rattle.rules.specs.SheetForm.{last_log, last_station}

-- where a mark stands in the order: by log, then by place
abbrev pub key : Mark → ℕ
key m = m.log * 4294967296 + m.place

-- a log and a station that there are, a place of four bytes, a comment of one byte
abbrev pub ok_mark : Mark → Bool
ok_mark m = leb m.log last_log && (ltb m.place 4294967296 && (leb m.station last_station && ltb m.comment 256))

-- ---- the bytes of a mark: with its log, or without it in one log's list
abbrev pub size : Shape → ℕ
size Whole = 8
size (InLog l) = 7

unfoldable pub bytes4 : ℕ → List ℕ
bytes4 n = n / 16777216 ∷ n / 65536 % 256 ∷ n / 256 % 256 ∷ n % 256 ∷ []

unfoldable pub number4 : List ℕ → ℕ
number4 bs = ((get_or bs 0 0 * 256 + get_or bs 1 0) * 256 + get_or bs 2 0) * 256 + get_or bs 3 0

-- what stands between the place and the station
abbrev pub log_bytes : Shape → Mark → List ℕ
log_bytes Whole m = m.log ∷ []
log_bytes (InLog l) m = []

abbrev pub log_in : Shape → List ℕ → ℕ
log_in Whole bs = get_or bs 4 0
log_in (InLog l) bs = l

unfoldable pub mark_bytes : Shape → Mark → List ℕ
mark_bytes f m = bytes4 m.place ++ (log_bytes f m ++ (m.station ∷ m.comment ∷ 0 ∷ []))

-- the mark that the first bytes of a list spell
unfoldable pub mark_in : Shape → List ℕ → Mark
mark_in f bs = record { log = log_in f bs; place = number4 bs; station = get_or bs (size f - 3) 0; comment = get_or bs (size f - 2) 0 }

-- … is a legal one, its last byte is zero, and it is not below the least key that may come
abbrev pub fits : Mark → ℕ → ℕ → Bool
fits m last least = leb m.log last_log && (leb m.station last_station && (eqb last 0 && leb least (key m)))

unfoldable pub mark_fits : Shape → ℕ → List ℕ → Bool
mark_fits f least bs = fits (mark_in f bs) (get_or bs (size f - 1) 0) least

-- ---- a list of marks
unfoldable pub marks_bytes : Shape → List Mark → List ℕ
marks_bytes f [] = []
marks_bytes f (m ∷ ms) = mark_bytes f m ++ marks_bytes f ms

-- so many marks, end to end; 33 at the first at fault
unfoldable pub marks_in : Shape → ℕ → ℕ → List ℕ → Answer (List Mark)
marks_in f least zero bs = ok []
marks_in f least (suc n) bs = need mark_fits f least bs or 33 then do
  ms ← later (size f) (marks_in f (suc (key (mark_in f bs))) n (drop (size f) bs))
  ok (mark_in f bs ∷ ms)

-- the mark is of that log, where the shape is one log's
abbrev pub of_shape : Shape → Mark → Bool
of_shape Whole m = true
of_shape (InLog l) m = eqb m.log l

-- legal marks of the shape that rise strictly, the first not below the least key
unfoldable pub rising : Shape → ℕ → List Mark → Bool
rising f least [] = true
rising f least (m ∷ ms) = ok_mark m && (of_shape f m && (leb least (key m) && rising f (suc (key m)) ms))

-- ---- the totals (W-208): a fresh count of each station's marks
abbrev pub plus : Bool → ℕ → ℕ
plus true n = suc n
plus false n = n

unfoldable pub count : ℕ → List Mark → ℕ
count j [] = 0
count j (m ∷ ms) = plus (eqb m.station j) (count j ms)

abbrev pub bytes2 : ℕ → List ℕ → List ℕ
bytes2 n rest = n / 256 ∷ n % 256 ∷ rest

-- the totals of so many stations, from one on
unfoldable pub totals_from : ℕ → ℕ → List Mark → List ℕ
totals_from j zero ms = []
totals_from j (suc n) ms = bytes2 (count j ms) (totals_from (suc j) n ms)

abbrev pub totals : List Mark → List ℕ
totals ms = totals_from 0 (suc last_station) ms

-- ---- one log's marks (W-211)
unfoldable pub of_log : ℕ → List Mark → List Mark
of_log l [] = []
of_log l (m ∷ ms) = cond (eqb m.log l) (m ∷ of_log l ms) (of_log l ms)
