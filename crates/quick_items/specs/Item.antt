-- What tells, with few looks, that an item is plainly legal: a table with a word for each place of the profiles, and rows with a rule. A word says
-- nothing that the layout of the item at its place does not have; it may say less. Assumes nothing.
use Rattle.std.specs.Prelude.{ℕ, zero, suc, ◌+◌, ◌-◌, ◌*◌, ◌/◌, ◌%◌, ◌^◌, ◌≡◌, Bool, true, false, cond, ◌&&◌, List, [], ◌∷◌, Option, Some, None, leb, ltb, eqb, get_or}
use Rattle.std.proofs.Math.Seq.{slice}
use Rattle.rules.specs.Answer.{Answer, ok, refused, when◌then◌else◌}
use Rattle.rules.specs.Catalogue.{categories}
use Rattle.tables.specs.declared.tables.Kind as lie
use Rattle.tables.specs.declared.tables.Kind.TheVariants as parts
use Rattle.tables.specs.declared.tables.LayoutRow.{LayoutRow}
use Rattle.tables.specs.declared.tables.PlaceRow.{PlaceRow}
use Rattle.tables.specs.Tests.{all_below}
use Rattle.tables.specs.Tables.{same_kind, profile_count, frn_count, place_count, group_at, layout_at, profile_rows, place_row_at}
use Rattle.tables.specs.FieldRules.{Rule, rules, first_rule, single_of}
use Rattle.items.specs.Answers.{check_at}
use Rattle.quick_items.specs.declared.Kind.{Kind}
use Rattle.quick_items.specs.declared.Kind.TheVariants.{Free, Ruled, Counted, Extended, Twice, Sized}

-- a number, where there is one, is the answer
abbrev pub Plainly : Option ℕ → Answer ℕ → Type 0
Plainly None a = Unit {0}
Plainly (Some n) a = a ≡ ok n

-- ---- rules, which ask the first three octets of a part as one number, those that are missing as zeros

unfoldable pub first_three : List ℕ → ℕ
first_three bs = get_or bs 0 0 * 65_536 + get_or bs 1 0 * 256 + get_or bs 2 0

-- a rule has two words: how many bits stand below the field, and what is added to its code; how many bits of 64 it has not, and the limit
unfoldable pub down_of : ℕ → ℕ
down_of low = low / 16_777_216 % 64

unfoldable pub added_of : ℕ → ℕ
added_of low = low % 16_777_216

unfoldable pub up_of : ℕ → ℕ
up_of high = high / 16_777_216 % 64

unfoldable pub limit_of : ℕ → ℕ
limit_of high = high % 16_777_216

unfoldable pub asks : ℕ → ℕ → ℕ → Bool
asks low high n = leb ((n / 2 ^ down_of low + added_of low) % 2 ^ (64 - up_of high)) (limit_of high)

-- it asks what a rule does of a part of so many octets, of which `step` bits are no field's
abbrev pub same_rule : ℕ → ℕ → ℕ → ℕ → Rule → Bool
same_rule low high step size r =
    eqb (down_of low + 8 * size) (r.shift + step + 24) && eqb (added_of low) r.added && eqb (up_of high + r.width) 64 && eqb (limit_of high) r.limit

-- it asks all that a group does, which has one rule or none
abbrev pub same_rules : ℕ → ℕ → ℕ → ℕ → List Rule → Bool
same_rules low high step size [] = true
same_rules low high step size (r ∷ []) = same_rule low high step size r
same_rules low high step size (r ∷ (q ∷ rs)) = false

unfoldable pub sound_rule : ℕ → ℕ → ℕ → ℕ → Bool
sound_rule low high step g = same_rules low high step (group_at g).octets (slice (first_rule g) (first_rule (g + 1)) rules)

-- how many rules the table has rows for, and how many words it has: one for each place, two for each rule
abbrev pub rule_rows : ℕ
rule_rows = 16

abbrev pub step_count : ℕ
step_count = place_count + 2 * rule_rows

-- the rules of the table
abbrev pub low_at : List ℕ → ℕ → ℕ
low_at t i = get_or t (place_count + i) 0

abbrev pub high_at : List ℕ → ℕ → ℕ
high_at t i = get_or t (place_count + rule_rows + i) 0

abbrev pub asked : List ℕ → ℕ → ℕ → Bool
asked t i n = asks (low_at t i) (high_at t i) n

abbrev pub sound_row : List ℕ → ℕ → ℕ → ℕ → Bool
sound_row t i step g = sound_rule (low_at t i) (high_at t i) step g

-- ---- words: digits of 16 each

-- the row of a rule, and the one that follows it
abbrev pub rule_in : ℕ → ℕ
rule_in w = w / 4_096 % rule_rows

abbrev pub next_in : ℕ → ℕ
next_in w = (w / 4_096 + 1) % rule_rows

-- one free part: its octets; or nothing
abbrev pub sound_free : ℕ → LayoutRow → Bool
sound_free w l = cond (eqb w 0) true (eqb w (single_of l))

-- one part with a rule: the rule's row, 1, 0, its octets
unfoldable pub sound_single : ℕ → ℕ → ℕ → LayoutRow → Bool
sound_single low high w l = same_kind l.kind parts.Fixed && eqb (group_at l.first).octets (w % 16) && sound_rule low high 0 l.first

abbrev pub sound_ruled : List ℕ → ℕ → LayoutRow → Bool
sound_ruled t w l = sound_single (low_at t (rule_in w)) (high_at t (rule_in w)) w l

-- a list of free parts: its least count, 2, the octets of a part, 1; a led item: its least length, 2, 1, 0
unfoldable pub sound_counted : ℕ → LayoutRow → Bool
sound_counted w l =
    (group_at l.first).free
    && cond (same_kind l.kind parts.Repeated)
    (eqb (w % 16) 1 && eqb (w / 16 % 16) (group_at l.first).octets && leb l.least (w / 4_096 % 16) && leb 255 l.most)
    (same_kind l.kind parts.Led && eqb (w % 16) 0 && eqb (w / 16 % 16) 1 && ltb l.least (w / 4_096 % 16))

-- an extended item of at most two parts, an octet each: the row of the first part's rule, which that of the second follows, 3, 0, 0
unfoldable pub sound_extended : List ℕ → ℕ → LayoutRow → Bool
sound_extended t w l =
    same_kind l.kind parts.Extended && eqb (l.first + 2) l.end && eqb (group_at l.first).octets 1 && eqb (group_at (l.first + 1)).octets 1
    && sound_row t (rule_in w) 1 l.first && sound_row t (next_in w) 1 (l.first + 1)

-- two rows ask all that a group of so many octets does, which has two rules
abbrev pub same_pair : List ℕ → ℕ → ℕ → ℕ → List Rule → Bool
same_pair t i j size [] = false
same_pair t i j size (r ∷ []) = false
same_pair t i j size (r ∷ (q ∷ [])) = same_rule (low_at t i) (high_at t i) 0 size r && same_rule (low_at t j) (high_at t j) 0 size q
same_pair t i j size (r ∷ (q ∷ (p ∷ rs))) = false

-- one part with two rules: the row of the first rule, which that of the second follows, 4, 0, its octets
unfoldable pub sound_twice : List ℕ → ℕ → LayoutRow → Bool
sound_twice t w l =
    same_kind l.kind parts.Fixed && eqb (group_at l.first).octets (w % 16)
    && same_pair t (rule_in w) (next_in w) (group_at l.first).octets (slice (first_rule l.first) (first_rule (l.first + 1)) rules)

-- how the parts lie, by the second digit
abbrev pub kind_by : ℕ → Kind
kind_by zero = Free
kind_by (suc zero) = Ruled
kind_by (suc (suc zero)) = Counted
kind_by (suc (suc (suc zero))) = Extended
kind_by (suc (suc (suc (suc zero)))) = Twice
kind_by (suc (suc (suc (suc (suc k))))) = Sized

-- a word is sound, by the same
abbrev pub sound_by : ℕ → List ℕ → ℕ → LayoutRow → Bool
sound_by zero t w l = sound_free w l
sound_by (suc zero) t w l = sound_ruled t w l
sound_by (suc (suc zero)) t w l = sound_counted w l
sound_by (suc (suc (suc zero))) t w l = sound_extended t w l
sound_by (suc (suc (suc (suc zero)))) t w l = sound_twice t w l
sound_by (suc (suc (suc (suc (suc k))))) t w l = true

unfoldable pub sound_word : List ℕ → ℕ → LayoutRow → Bool
sound_word t w l = sound_by (w / 256 % 16) t w l

unfoldable pub sound_words : List ℕ → List ℕ → List PlaceRow → Bool
sound_words t [] ps = true
sound_words t (w ∷ ws) [] = true
sound_words t (w ∷ ws) (p ∷ ps) = sound_word t w (layout_at p.layout) && sound_words t ws ps

unfoldable pub sound_steps : List ℕ → Bool
sound_steps t = sound_words t t (profile_rows 1 categories)

-- ---- octets: how many an item has that is legal, by its first octet where that tells

-- by how its parts lie and the octets of a part: one part; a count and so many parts; a length that counts itself; parts by FX
abbrev pub octets_by : lie.Kind → ℕ → ℕ → ℕ
octets_by parts.NoItem n x = 0
octets_by parts.Fixed n x = n
octets_by parts.Repeated n x = 1 + x * n
octets_by parts.Led n x = x
octets_by parts.Extended n x = 1 + x % 2
octets_by parts.Compound n x = 1 + x % 2

-- of parts by FX it tells where they are two at most, of an octet each; of a compound item it does not
abbrev pub is_short : ℕ → ℕ → Bool
is_short a e = eqb (a + 2) e && (eqb (group_at a).octets 1 && eqb (group_at (a + 1)).octets 1)

abbrev pub first_tells : lie.Kind → ℕ → ℕ → Bool
first_tells parts.NoItem a e = false
first_tells parts.Fixed a e = true
first_tells parts.Repeated a e = true
first_tells parts.Led a e = true
first_tells parts.Extended a e = is_short a e
first_tells parts.Compound a e = false

abbrev pub row_octets : LayoutRow → ℕ → ℕ
row_octets l x = octets_by l.kind (group_at l.first).octets x

abbrev pub row_tells : LayoutRow → Bool
row_tells l = first_tells l.kind l.first l.end

-- as a word says; and that the words of a table do so of every place, 0 where the first octet does not tell
unfoldable pub word_octets : ℕ → ℕ → ℕ
word_octets w x = when eqb (w / 256 % 16) 3 then 1 + x % 2 else w % 16 + x * (w / 16 % 16)

abbrev pub exact_word : ℕ → LayoutRow → Bool
exact_word w l = cond (row_tells l) (ltb 0 w && all_below 256 (λ x. eqb (word_octets w x) (row_octets l x))) (eqb w 0)

unfoldable pub exact_steps : List ℕ → Bool
exact_steps t = all_below place_count (λ k. exact_word (get_or t k 0) (layout_at (place_row_at k).layout))

-- the place of a profile's item at an FRN, and what stands there in a table; outside of the tables nothing
abbrev pub is_place : ℕ → ℕ → Bool
is_place i f = ltb i profile_count && ltb f frn_count

unfoldable pub place_for : ℕ → ℕ → Option ℕ
place_for i f = when is_place i f then Some (i * frn_count + f) else None

unfoldable pub word_for : List ℕ → ℕ → ℕ → ℕ
word_for t i f = when is_place i f then get_or t (i * frn_count + f) 0 else 0

-- of the item at an FRN, whether its first octet tells, and what
abbrev pub row_of : ℕ → ℕ → LayoutRow
row_of i f = layout_at (place_row_at (i * frn_count + f)).layout

abbrev pub tells_at : ℕ → ℕ → Bool
tells_at i f = is_place i f && row_tells (row_of i f)

-- 0 where there is no size
abbrev pub size_or0 : Answer ℕ → ℕ
size_or0 (ok n) = n
size_or0 (refused n p) = 0

-- how many octets the item at an FRN has that is legal and starts the octets: by the first of them, or else by its check
unfoldable pub octets_at : ℕ → ℕ → List ℕ → ℕ
octets_at i f bs = when tells_at i f then row_octets (row_of i f) (get_or bs 0 0) else size_or0 (check_at i f bs)
