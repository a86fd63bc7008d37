-- Shapes: FSPECs that legal records mostly have, with what each says of the octets after it. A row of the table says nothing that the rules do not
-- have. Assumes nothing.
use Rattle.std.specs.Prelude.{ℕ, zero, suc, ◌+◌, ◌-◌, ◌*◌, ◌/◌, ◌%◌, ◌^◌, ◌≤◌, ◌≡◌, Bool, true, false, cond, ◌&&◌, ◌||◌, List, [], ◌∷◌, Option, Some, None, leb, ltb, eqb, length, drop, get_or}
use Rattle.rules.specs.Answer.{Answer, ok, refused}
use Rattle.rules.specs.Presence.{flags, number}
use Rattle.tables.specs.declared.tables.LayoutRow.{LayoutRow}
use Rattle.tables.specs.Tables.{profile_count, frn_count, layout_at, place_row_at}
use Rattle.sets.specs.Sets.{category_at, within}
use Rattle.sets.specs.Steps.{set_from}
use Rattle.tables.specs.Tests.{all_below}
use Rattle.quick_items.specs.Item.{first_three, asks, sound_single, sound_counted}
use Rattle.quick_records.specs.Record.{row_count, type_sets, must_at, may_at, free, has_front, front_octets, type_at, Typed}

-- ---- octets as a number, the first one lowest

abbrev pub low_number : ℕ → List ℕ → ℕ
low_number zero bs = 0
low_number (suc n) bs = get_or bs 0 0 + low_number n (drop 1 bs) * 256

abbrev pub low_octets : ℕ → ℕ → List ℕ
low_octets zero x = []
low_octets (suc n) x = x % 256 ∷ low_octets n (x / 256)

-- ---- the columns of a row: FSPEC, its octets, where the item stands that is looked into, the octets after it, the profile; message types, the
-- item's word, where the message type stands; the item's rule; the items that are left

abbrev pub used_of : ℕ → ℕ
used_of k = k / 2 ^ 40 % 16

abbrev pub start_of : ℕ → ℕ
start_of k = k / 2 ^ 44 % 256

abbrev pub tail_of : ℕ → ℕ
tail_of k = k / 2 ^ 52 % 256

abbrev pub profile_of : ℕ → ℕ
profile_of k = k / 2 ^ 60

abbrev pub types_of : ℕ → ℕ
types_of k = k % 2 ^ 40

abbrev pub word_of : ℕ → ℕ
word_of k = k / 2 ^ 40 % 2 ^ 16

abbrev pub place_of : ℕ → ℕ
place_of k = k / 2 ^ 56

-- ---- the message types, by the bits of their rows in the profile

abbrev pub sound_type : ℕ → ℕ → ℕ → ℕ → Bool
sound_type i bits types r = eqb (types / 2 ^ r % 2) 0 || (within (flags 64 (must_at i r)) (flags 64 bits) && within (flags 64 bits) (flags 64 (may_at i r)))

unfoldable pub sound_mask : ℕ → ℕ → ℕ → Bool
sound_mask i bits types = eqb (types % 2) 0 && all_below row_count (sound_type i bits types)

-- ---- the items: free ones first, then one with a rule or a count, and free ones again

abbrev pub is_free : ℕ → ℕ → Bool
is_free i f = ltb f frn_count && (ltb 0 (free i f) && ltb (free i f) 8)

-- how many octets the free items at the front take, the first flag's FRN given; and the flags from the first other item on
abbrev pub run_sum : ℕ → ℕ → List Bool → ℕ
run_sum i f [] = 0
run_sum i f (false ∷ ts) = run_sum i (f + 1) ts
run_sum i f (true ∷ ts) = cond (is_free i f) (free i f + run_sum i (f + 1) ts) 0

abbrev pub run_left : ℕ → ℕ → List Bool → List Bool
run_left i f [] = []
run_left i f (false ∷ ts) = run_left i (f + 1) ts
run_left i f (true ∷ ts) = cond (is_free i f) (run_left i (f + 1) ts) (true ∷ ts)

-- the item that is looked into: one part with a rule, whose row is 0, or a count or length octet and free parts; of an octet at least
abbrev pub sound_special : ℕ → ℕ → LayoutRow → Bool
sound_special w rule l =
    ltb 0 (w % 16 + w / 4_096 % 16 * (w / 16 % 16))
    && cond (eqb (w / 256 % 16) 1) (eqb (w / 16 % 16) 0 && sound_single rule (rule / 2 ^ 32) w l) (sound_counted w l)

-- the front, FRN 1 to 3; then come the flags of FRN 4 on
abbrev pub sound_first : ℕ → ℕ → ℕ → ℕ → ℕ → List Bool → Bool
sound_first i a b left s us = eqb (word_of b) 0 && eqb (start_of a) (used_of a) && eqb (tail_of a) (front_octets i + s) && eqb left (number us)

abbrev pub sound_then : ℕ → ℕ → ℕ → ℕ → ℕ → ℕ → List Bool → Bool
sound_then i a b rule left s [] = false
sound_then i a b rule left s (false ∷ vs) = false
sound_then i a b rule left s (true ∷ vs) =
    ltb (63 - length vs) frn_count && eqb (start_of a) (used_of a + front_octets i + s) && sound_special (word_of b) rule (layout_at (place_row_at (i * frn_count + (63 - length vs))).layout)
    && eqb (tail_of a) (run_sum i (64 - length vs) vs) && eqb left (number (run_left i (64 - length vs) vs))

abbrev pub sound_items : ℕ → ℕ → ℕ → ℕ → ℕ → List Bool → Bool
sound_items i a b rule left ts = sound_first i a b left (run_sum i 4 ts) (run_left i 4 ts) || sound_then i a b rule left (run_sum i 4 ts) (run_left i 4 ts)

-- ---- a row, by its FSPEC

-- the front is there, and the message type is where the row has it
abbrev pub sound_front : ℕ → ℕ → ℕ → ℕ → Bool
sound_front i a b bits = has_front i && (eqb (bits / 2 ^ 60) 7 && eqb (place_of b) (used_of a + type_at i))

abbrev pub shape_by : ℕ → ℕ → ℕ → ℕ → ℕ → Answer (ℕ × ℕ) → Bool
shape_by i a b rule left (ok (bits, used)) =
    eqb used (used_of a) && sound_front i a b bits && sound_mask i bits (types_of b) && sound_items i a b rule left (flags 60 (bits % 2 ^ 60))
shape_by i a b rule left (refused n p) = false

abbrev pub bounded : ℕ → ℕ → ℕ → Bool
bounded a b left = ltb (profile_of a) profile_count && (ltb 0 (used_of a) && (leb (used_of a) 5 && (ltb left (2 ^ 60) && ltb (place_of b) (start_of a + tail_of a))))

unfoldable pub sound_shape : ℕ → ℕ → ℕ → ℕ → Bool
sound_shape a b rule left =
    bounded a b left
    && shape_by (profile_of a) a b rule left (set_from (profile_of a) (length (category_at (profile_of a)).profile) (low_octets (used_of a) a) 0 0)

-- ---- the table: what message types must and may have, then shapes

abbrev pub shape_count : ℕ
shape_count = 64

abbrev pub set_count : ℕ
set_count = profile_count * (2 * row_count)

abbrev pub sound_shape_at : List ℕ → ℕ → Bool
sound_shape_at t at = sound_shape (get_or t at 0) (get_or t (at + 1) 0) (get_or t (at + 2) 0) (get_or t (at + 3) 0)

unfoldable pub sound_sets : List ℕ → Bool
sound_sets t = all_below set_count (λ k. eqb (get_or t k 0) (get_or type_sets k 0)) && all_below shape_count (λ k. sound_shape_at t (set_count + 4 * k))

-- ---- what the answers tell

-- the octets of a record as far as its shape goes: by the item that is looked into, its word and its rule
pub record Front (a w rule : ℕ) (bs : List ℕ) (n : ℕ) : Type 0 where
  pub there : start_of a + 3 ≤ length bs
  pub size : n ≡ start_of a + tail_of a + w % 16 + get_or bs (start_of a) 0 * (w / 16 % 16)
  pub fits : n ≤ length bs
  pub least : w / 4_096 % 16 ≤ get_or bs (start_of a) 0
  pub kept : asks rule (rule / 2 ^ 32) (first_three (drop (start_of a) bs)) ≡ true

abbrev pub Fronts : ℕ → ℕ → ℕ → List ℕ → Option ℕ → Type 0
Fronts a w rule bs None = Unit {0}
Fronts a w rule bs (Some n) = Front a w rule bs n

-- the row of a message type is among some, given by bits
pub record Listed (i types kind : ℕ) : Type 0 where
  pub row : ℕ
  pub there : types / 2 ^ row % 2 ≡ 1
  pub typed : Typed i kind row

abbrev pub OfType : Bool → ℕ → ℕ → ℕ → Type 0
OfType false i types kind = Unit {0}
OfType true i types kind = Listed i types kind
