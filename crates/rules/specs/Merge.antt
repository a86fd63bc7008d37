-- Two logs on one line (document 02, W-201): which record comes next, from a place in each of two recordings; and the run from both first records. What is
-- quoted is W-201's own. Of any list of categories. Assumes nothing.
--
-- In order: times modulo a day; a record's time; which of two records goes first; the records of a log; a step; the run.
use Rattle.std.specs.Prelude.{ℕ, zero, suc, ◌+◌, ◌-◌, ◌%◌, Bool, true, false, List, [], ◌∷◌, ◌++◌, leb, eqb, length, ℤ, pos, negsuc, ◌+ℤ◌, ◌-ℤ◌}
use Rattle.std.proofs.Math.Option.{Option, none, some}
use Rattle.rules.specs.Answer.{Answer, ok, refused, when◌then◌else◌, octets_of}
use Rattle.rules.specs.Layout.{Values, in_parts, in_subfields}
use Rattle.rules.specs.Presence.{has}
use Rattle.rules.specs.Record.{Category, Record, items, value_of, type_of, write_record}
use Rattle.rules.specs.Block.{Block, category_of, write_block}
use Rattle.rules.specs.Recording.{read_recording}

-- ---- times of day, in units of 1/128 s

abbrev pub day : ℕ
day = 11_059_200

abbrev pub half_day : ℕ
half_day = 5_529_600

-- what is left of a whole number modulo a day: 0 to 11,059,199. (negsuc n is -n - 1)
unfoldable pub mod_day : ℤ → ℕ
mod_day (pos n) = n % day
mod_day (negsuc n) = day - 1 - n % day

-- "B's time plus the offset, less A's time, modulo 11,059,200"
unfoldable pub gap : ℤ → ℕ → ℕ → ℕ
gap offset a b = mod_day (pos b +ℤ offset -ℤ pos a)

-- "a clock offset for the second between −46,080 and 46,080 units of 1/128 s"
abbrev pub in_range : ℤ → Bool
in_range (pos n) = leb n 46_080
in_range (negsuc n) = leb n 46_079

-- ---- a record's time: "Times are I017/140 and I018/002; a GICB_extraction's is a request's end (5.2.3), so it counts as untimed"; "I061/020 .. is its
-- record's time" (W-205); the categories' rows have them

-- the number in an item of one field
abbrev pub number_in : Option Values → Option ℕ
number_in none = none
number_in (some (in_parts [])) = none
number_in (some (in_parts ([] ∷ ps))) = none
number_in (some (in_parts ((pos n ∷ vs) ∷ ps))) = some n
number_in (some (in_parts ((negsuc n ∷ vs) ∷ ps))) = none
number_in (some (in_subfields rs)) = none

abbrev pub is_one_of : Answer ℕ → List ℕ → Bool
is_one_of (ok t) ts = has t ts
is_one_of (refused n p) ts = false

unfoldable pub record_time : Category → Record → Option ℕ
record_time c r = when is_one_of (type_of (value_of 0 (items c r))) c.untimed then none else number_in (value_of c.time (items c r))

-- ---- which of two records goes first

pub data Log : Type 0 where
  log_a : Log
  log_b : Log

abbrev pub log_if : Bool → Log
log_if true = log_a
log_if false = log_b

abbrev pub choose : {X : Type 0} → Log → X → X → X
choose log_a x y = x
choose log_b x y = y

-- "A record without a time goes out at once, A before B"; else "A goes first if .." the gap "is at most 5,529,600"
unfoldable pub first : ℤ → Option ℕ → Option ℕ → Log
first offset none b = log_a
first offset (some a) none = log_b
first offset (some a) (some b) = log_if (leb (gap offset a b) half_day)

-- ---- the records of a log

-- its start, counted from the log's start, its length, and its time if it counts as timed
pub record Head : Type 0 where
  pub place : ℕ
  pub size : ℕ
  pub time : Option ℕ

-- records end to end, the first at a place
unfoldable pub heads_of : Category → ℕ → List Record → List Head
heads_of c k [] = []
heads_of c k (r ∷ rs) =
    record { place = k; size = length (octets_of (write_record c r)); time = record_time c r } ∷ heads_of c (k + length (octets_of (write_record c r))) rs

abbrev pub heads_in : Option Category → ℕ → List Record → List Head
heads_in none k rs = []
heads_in (some c) k rs = heads_of c k rs

-- blocks end to end, the first at a place: a block's first record follows its three octets CAT and LEN
unfoldable pub block_heads : List Category → ℕ → List Block → List Head
block_heads cs b [] = []
block_heads cs b (k ∷ ks) = heads_in (category_of k.cat cs) (b + 3) k.records ++ block_heads cs (b + length (octets_of (write_block cs k))) ks

-- a log that was checked: its records and its length, or the refusal
pub data Checked : Type 0 where
  accepted : List Head → ℕ → Checked
  unread : ℕ → ℕ → Checked

abbrev pub checked_as : List Category → ℕ → Answer (List Block) → Checked
checked_as cs end (ok ks) = accepted (block_heads cs 0 ks) end
checked_as cs end (refused n p) = unread n p

unfoldable pub log_of : List Category → List ℕ → Checked
log_of cs bs = checked_as cs (length bs) (read_recording cs bs)

-- "the next record's start or the log's end", where these come next
abbrev pub start_of : ℕ → List Head → ℕ
start_of end [] = end
start_of end (h ∷ hs) = h.place

-- the records from a place on; none where the place "is neither a record's start nor the log's end"
unfoldable pub from_place : ℕ → ℕ → List Head → Option (List Head)
from_place end p [] = when eqb p end then some [] else none
from_place end p (h ∷ hs) = when eqb p h.place then some (h ∷ hs) else from_place end p hs

-- ---- a step

-- "says which record comes next"; "with both at the ends the answer says finished"; "(the log named)"; "22 and 23 at place 0"
pub data Told : Type 0 where
  next : Log → Told
  finished : Told
  not_accepted : Log → ℕ → ℕ → Told
  barred : ℕ → Told

-- a start and a length
abbrev pub Span : Type 0
Span = ℕ × ℕ

abbrev pub span_of : Head → Span
span_of h = (h.place, h.size)

-- "handed back as a part of whichever log it came from, with the new places"
pub record Step : Type 0 where
  pub told : Told
  pub span : Span
  pub place_a : ℕ
  pub place_b : ℕ

abbrev pub goes : Log → Head → ℕ → ℕ → Step
goes l h p q = record { told = next l; span = span_of h; place_a = p; place_b = q }

-- "these and finished hand back the empty part at log A's start and the places given"
abbrev pub stay : Told → ℕ → ℕ → Step
stay t p q = record { told = t; span = (0, 0); place_a = p; place_b = q }

-- whose part it is
abbrev pub part_log : Told → Log
part_log (next l) = l
part_log finished = log_a
part_log (not_accepted l r f) = log_a
part_log (barred r) = log_a

-- from the records that are left of each log, which end at m and n: "a finished log yields to the other"
unfoldable pub step_from : ℤ → ℕ → ℕ → ℕ → ℕ → List Head → List Head → Step
step_from offset m n p q [] [] = stay finished p q
step_from offset m n p q (a ∷ xs) [] = goes log_a a (start_of m xs) q
step_from offset m n p q [] (b ∷ ys) = goes log_b b p (start_of n ys)
step_from offset m n p q (a ∷ xs) (b ∷ ys) = choose (first offset a.time b.time) (goes log_a a (start_of m xs) q) (goes log_b b p (start_of n ys))

-- "23 a place, A's then B's"
unfoldable pub with_places : ℤ → ℕ → ℕ → ℕ → ℕ → Option (List Head) → Option (List Head) → Step
with_places offset m n p q none ys = stay (barred 23) p q
with_places offset m n p q (some xs) none = stay (barred 23) p q
with_places offset m n p q (some xs) (some ys) = step_from offset m n p q xs ys

-- "Refusals in order: log A not accepted, log B (the log named), 22 an offset out of range, 23"
unfoldable pub step_of : Checked → Checked → ℕ → ℕ → ℤ → Step
step_of (unread r f) b p q offset = stay (not_accepted log_a r f) p q
step_of (accepted xs m) (unread r f) p q offset = stay (not_accepted log_b r f) p q
step_of (accepted xs m) (accepted ys n) p q offset =
    when in_range offset then with_places offset m n p q (from_place m p xs) (from_place n q ys) else stay (barred 22) p q

-- THE RULE: "A step takes two recordings, a place in each, and a clock offset for the second"
unfoldable pub merge_step : List Category → List ℕ → List ℕ → ℕ → ℕ → ℤ → Step
merge_step cs as' bs p q offset = step_of (log_of cs as') (log_of cs bs) p q offset

-- ---- the run

-- nothing more, unless a record came out
abbrev pub when_next : Told → (Log → List (Log × Span)) → List (Log × Span)
when_next (next l) f = f l
when_next finished f = []
when_next (not_accepted l r p) f = []
when_next (barred r) f = []

-- the parts that steps hand out, one after another from the places given, at most so many
unfoldable pub steps_of : Checked → Checked → ℤ → ℕ → ℕ → ℕ → List (Log × Span)
steps_of a b offset zero p q = []
steps_of a b offset (suc k) p q =
    when_next (step_of a b p q offset).told λ l. (l, (step_of a b p q offset).span) ∷ steps_of a b offset k (step_of a b p q offset).place_a (step_of a b p q offset).place_b

-- the first record's start, and how far the records can go
abbrev pub opening : Checked → ℕ
opening (accepted xs m) = start_of m xs
opening (unread r f) = 0

abbrev pub extent : Checked → ℕ
extent (accepted xs m) = m
extent (unread r f) = 0

-- from both first records; there are no more records than octets
unfoldable pub run_of : Checked → Checked → ℤ → List (Log × Span)
run_of a b offset = steps_of a b offset (extent a + extent b) (opening a) (opening b)

-- THE RUN, of two recordings
unfoldable pub merge_run : List Category → List ℕ → List ℕ → ℤ → List (Log × Span)
merge_run cs as' bs offset = run_of (log_of cs as') (log_of cs bs) offset
