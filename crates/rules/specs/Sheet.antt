-- The exercise sheet of a form (document 02, W-203): the writing rule, then the reading rule with its refusals and their places. Assumes nothing.
use Rattle.std.specs.Prelude.{ℕ, ◌+◌, ◌-◌, ◌*◌, ◌/◌, ◌%◌, Bool, true, false, ◌&&◌, cond, List, [], ◌∷◌, ◌++◌, leb, ltb, eqb, length, take, drop, get_or, ℤ, pos, negsuc}
use Rattle.rules.specs.declared.Edition.{Edition}
use Rattle.rules.specs.Answer.{Answer, ok, refused, ◌>>=◌, need◌or◌then◌, when◌then◌else◌, later, Read}
use Rattle.rules.specs.declared.Mark.{Mark}
use Rattle.rules.specs.declared.Shape.{Shape}
use Rattle.rules.specs.declared.Shape.TheVariants.{Whole, InLog}
use Rattle.rules.specs.SheetForm.{Form, Holds, the_marks, the_totals, Tagged, edition_tag, offset_tag, fields}
use Rattle.rules.specs.Merge.{in_range}
use Rattle.rules.specs.Mark.{size, bytes4, number4, marks_bytes, marks_in, rising, totals, of_log}

-- the edition that a byte names
unfoldable pub edition_of : List Edition → ℕ → Answer Edition
edition_of [] n = refused 33 0
edition_of (e ∷ es) n = when eqb n e.byte then ok e else edition_of es n

pub record Sheet : Type 0 where
  pub edition : Edition
  pub offset : ℤ
  pub marks : List Mark

-- ---- the clock offset, whose range is W-201's (`Merge`): four bytes two's complement
abbrev pub offset_code : ℤ → ℕ
offset_code (pos n) = n
offset_code (negsuc n) = 4294967295 - n

abbrev pub offset_of : ℕ → ℤ
offset_of c = cond (ltb c 2147483648) (pos c) (negsuc (4294967295 - c))

-- ---- THE WRITING RULE
-- a field: its tag, the length of its body in two bytes, its body
unfoldable pub field_bytes : ℕ → List ℕ → List ℕ
field_bytes t body = t ∷ length body / 256 ∷ length body % 256 ∷ body

-- the marks that go into a list of a shape
abbrev pub picked : Shape → List Mark → List Mark
picked Whole ms = ms
picked (InLog l) ms = of_log l ms

unfoldable pub held_bytes : Holds → List Mark → List ℕ
held_bytes (the_marks f) ms = marks_bytes f (picked f ms)
held_bytes the_totals ms = totals ms

unfoldable pub fields_bytes : List Tagged → List Mark → List ℕ
fields_bytes [] ms = []
fields_bytes (x ∷ xs) ms = field_bytes x.tag (held_bytes x.holds ms) ++ fields_bytes xs ms

unfoldable pub sheet_bytes : Sheet → List ℕ
sheet_bytes s =
    field_bytes edition_tag (s.edition.byte ∷ [])
    ++ (field_bytes offset_tag (bytes4 (offset_code s.offset))
    ++ fields_bytes (fields s.edition) s.marks)

-- the edition that writing is told: one that is known, and not below the least that is written
unfoldable pub told_edition : Form → ℕ → Answer Edition
told_edition f n = do
  e ← edition_of f.editions n
  need leb f.least n or 33 then ok e

unfoldable pub write_sheet : Form → ℕ → ℤ → List Mark → Answer (List ℕ)
write_sheet f n o ms = need leb (length ms) f.limit or 34 then do
  e ← told_edition f n
  need in_range o && rising Whole 0 ms or 33 then ok (sheet_bytes (record { edition = e; offset = o; marks = ms }))

-- ---- THE READING RULE
-- how long a field says that its body is
abbrev pub body_length : List ℕ → ℕ
body_length bs = get_or bs 1 0 * 256 + get_or bs 2 0

-- the length of the body of a field with that tag, whole
unfoldable pub field_length : ℕ → List ℕ → Answer ℕ
field_length t bs =
    need ltb 0 (length bs) or 31 then
    need leb 3 (length bs) or 30 then
    need leb (3 + body_length bs) (length bs) or 30 then
    need eqb (get_or bs 0 0) t or 31 then
    ok (body_length bs)

-- its body
unfoldable pub read_field : ℕ → Read (List ℕ)
read_field t bs = do
  n ← field_length t bs
  ok (take n (drop 3 bs), drop (3 + n) bs)

unfoldable pub read_edition : List Edition → Read Edition
read_edition es bs = do
  (b, rest) ← read_field edition_tag bs
  need eqb (length b) 1 or 32 then do
    e ← edition_of es (get_or b 0 0)
    ok (e, rest)

unfoldable pub read_offset : Read ℤ
read_offset bs = do
  (b, rest) ← read_field offset_tag bs
  need eqb (length b) 4 or 32 then
      need in_range (offset_of (number4 b)) or 33 then
      ok (offset_of (number4 b), rest)

-- one field of marks, of the shape and tag given
unfoldable pub read_list : ℕ → Shape → ℕ → Read (List Mark)
read_list t f limit bs = do
  (b, rest) ← read_field t bs
  need eqb (length b % size f) 0 or 32 then
      need leb (length b / size f) limit or 34 then do
        ms ← later 3 (marks_in f 0 (length b / size f) b)
        ok (ms, rest)

unfoldable pub same : List ℕ → List ℕ → Bool
same [] [] = true
same [] (b ∷ bs) = false
same (a ∷ as') [] = false
same (a ∷ as') (b ∷ bs) = eqb a b && same as' bs

-- the totals are those of the marks
unfoldable pub read_total : ℕ → List Mark → Read Unit
read_total t ms bs = do
  (b, rest) ← read_field t bs
  need eqb (length b) 12 or 32 then
      need same b (totals ms) or 37 then
      ok (tt, rest)

-- a field, after those with the marks so far: the limit is for all of a sheet's marks
unfoldable pub read_held : Holds → ℕ → ℕ → List Mark → Read (List Mark)
read_held (the_marks f) t limit ms bs = do
  (new, rest) ← read_list t f (limit - length ms) bs
  ok (ms ++ new, rest)
read_held the_totals t limit ms bs = do
  (u, rest) ← read_total t ms bs
  ok (ms, rest)

-- field by field, of a sheet of so many bytes: a refusal's place counts from the sheet's start
unfoldable pub read_fields : ℕ → ℕ → List Tagged → List Mark → Read (List Mark)
read_fields have limit [] ms bs = ok (ms, bs)
read_fields have limit (x ∷ xs) ms bs = do
  (ms', rest) ← later (have - length bs) (read_held x.holds x.tag limit ms bs)
  read_fields have limit xs ms' rest

unfoldable pub read_sheet : Form → List ℕ → Answer Sheet
read_sheet f bs = do
  (e, bs₁) ← read_edition f.editions bs
  (o, bs₂) ← later (length bs - length bs₁) (read_offset bs₁)
  (ms, bs₃) ← read_fields (length bs) f.limit (fields e) [] bs₂
  later (length bs - length bs₃) (need eqb (length bs₃) 0 or 31 then ok (record { edition = e; offset = o; marks = ms }))
