-- No two distinct results satisfy the statement of a public function; of a part that is returned, no two that differ in place or bytes. Assumes nothing.
use Rattle.std.specs.Prelude.{ℕ, Result}
use mathlib.Core.Path.{◌≡◌, sym, ap, ap₂, ◌∙◌}
use mathlib.Core.List.{List}
use denote.Ref.{Bor}
use Rattle.rules.specs.Catalogue.{categories}
use Rattle.rules.specs.Entry.{find_record, find_item}
use Rattle.rules.specs.declared.faults.Refusal.{Refusal}
use Rattle.rules.proofs.ToldLaws.{one_told, one_told_as}
use Rattle.finding.specs.declared.find.RecordFound.{RecordFound}
use Rattle.finding.specs.declared.find.Span.{Span}
use Rattle.finding.specs.Part.{VeryPart}
use Rattle.finding.specs.Found.{record_span, Located, span_said, item_place_of, item_span, span_in}

-- ---- `locate_record`

pub one_locate_record : (block : List ℕ) (n : ℕ) (a b : Result RecordFound Refusal)
    → Located a (find_record categories block n) → Located b (find_record categories block n) → a ≡ b
one_locate_record block n a b p q = one_told a b (p ∙ sym q)

-- ---- `locate_item`

span_one : (a b : Span) → span_said a ≡ span_said b → a ≡ b
span_one a b e = ap₂ (λ s l. record { start = s; length = l }) (ap (λ z. z.0) e) (ap (λ z. z.1) e)

pub one_locate_item : (block : List ℕ) (reference n : ℕ) (a b : Result Span Refusal)
    → item_place_of a ≡ item_span (find_item categories block reference n) → item_place_of b ≡ item_span (find_item categories block reference n) → a ≡ b
one_locate_item block reference n a b p q = one_told_as span_said span_one a b (p ∙ sym q)

-- ---- `part_of`, `find_record`, `find_item`: that very part

same_part : (s a b : Bor (List ℕ)) (span : ℕ × ℕ) → VeryPart s a span → VeryPart s b span → (a.ref_ptr ≡ b.ref_ptr) × (a.now ≡ b.now)
same_part s a b span p q = (ap₂ (λ x y. (x, y)) (p.block ∙ sym q.block) (p.offset ∙ sym q.offset), p.bytes ∙ sym q.bytes)

pub one_part_of : (block : Bor (List ℕ)) (start count : ℕ) (a b : Bor (List ℕ)) → VeryPart block a (start, count) → VeryPart block b (start, count) → (a.ref_ptr ≡ b.ref_ptr) × (a.now ≡ b.now)
one_part_of block start count a b p q = same_part block a b (start, count) p q

pub one_find_record : (block : Bor (List ℕ)) (n : ℕ) (a b : Bor (List ℕ)) → VeryPart block a (span_in (record_span (find_record categories block.now n)))
    → VeryPart block b (span_in (record_span (find_record categories block.now n))) → (a.ref_ptr ≡ b.ref_ptr) × (a.now ≡ b.now)
one_find_record block n a b p q = same_part block a b (span_in (record_span (find_record categories block.now n))) p q

pub one_find_item : (block : Bor (List ℕ)) (reference n : ℕ) (a b : Bor (List ℕ)) → VeryPart block a (span_in (item_span (find_item categories block.now reference n)))
    → VeryPart block b (span_in (item_span (find_item categories block.now reference n))) → (a.ref_ptr ≡ b.ref_ptr) × (a.now ≡ b.now)
one_find_item block reference n a b p q = same_part block a b (span_in (item_span (find_item categories block.now reference n))) p q
