-- `quick_records::end::record_end` meets its contract: a record that is told ends so wherever it stands. Assumes nothing.
use Prim.Native.Nat.{ℕ, ◌+◌, ◌<◌}
use mathlib.Core.Path.{◌≡◌, sym}
use mathlib.Core.List.{List}
use native.Mathlib.Omega.{arith}
use Rattle.std.proofs.lemmas.Result.{err_from_is_err_and}
use lib.ListN.{length, get_or}
use mir.Syntax.{w8, w64}
use mir.Val.{Fits}
use Rattle.rules.specs.Answer.{ok}
use Rattle.quick_records.specs.Record.{end_at}
use Rattle.std.specs.Prelude.{Ok, Err}
use Rattle.quick_records.proofs.RecordLaws.{end_anywhere, end_within, walked_end}
use Rattle.quick_records.proofs.end.record_end.Goals as goal

module _ (i at : ℕ) (bs : List ℕ) (known : (j : ℕ) → Fits w8 (get_or bs j 0)) (l : at + length bs < 65_536) (n : ℕ) (ends : end_at i 0 bs ≡ ok n) where
  few : length bs < 65_536
  few = omega (arith, l)

  sum_fits : Fits w64 (at + n)
  sum_fits = record { fits = omega (arith, end_within i bs known few n ends, l) }

  anywhere : ok (at + n) ≡ end_at i at bs
  anywhere = sym (end_anywhere i bs known few at n ends)

pub overflow_add-result : goal.overflow_add-result
overflow_add-result c = sum_fits _ _ _ c.type_inv.part c.requires _ c.in-Some.ensures

pub returns-in-Some : goal.returns-in-Some
returns-in-Some c = anywhere _ _ _ c.type_inv.part c.requires _ c.in-Some.ensures

pub overflow_add-result-in-Some-quick_record : goal.overflow_add-result-in-Some-quick_record
overflow_add-result-in-Some-quick_record c = sum_fits _ _ _ c.type_inv.part c.requires _ c.in-Some-quick_record.ensures

pub returns-in-Some-quick_record : goal.returns-in-Some-quick_record
returns-in-Some-quick_record c = anywhere _ _ _ c.type_inv.part c.requires _ c.in-Some-quick_record.ensures

pub returns-in_err-map : goal.returns-in_err-map
returns-in_err-map c =
    let p = err_from_is_err_and c.from_residual.result c.from_residual.ensures.1 in
    rw (p.1, p.2) (walked_end (Err c.in_err-map.field-0.0) _ c.in_err-map.ensures)

pub returns : goal.returns
returns c = walked_end (Ok c.in_ok-map.map) _ c.in_ok-map.ensures
