-- The search for a place, turn by turn: what is sought among the records still to come is what is sought among all. Assumes nothing.
use Prim.Native.Nat.{ℕ, ◌<◌}
use mathlib.Core.Path.{◌≡◌, refl, sym, ap, ◌∙◌, subst}
use mathlib.Core.Bool.{true, false}
use mathlib.Core.Option.{none, some}
use mathlib.Core.List.{List, [], ◌∷◌}
use native.Mathlib.Omega.{arith}
use lib.ListN.{length}
use borrow.Author.Tests.{eq-eqb, ne_eqb}
use Rattle.rules.specs.Answer.{when◌then◌else◌}
use Rattle.rules.specs.Merge.{Head, from_place}
use Rattle.rules.proofs.AnswerLaws.{Octets}
use Rattle.walking.specs.declared.Cursor.{Cursor}
use Rattle.walking.specs.Walk.{begin}
use Rattle.merging.specs.declared.heads.Standing.{Standing}
use Rattle.std.specs.Prelude.{Some, None}
use Rattle.merging.specs.Heads.{stand_of, is_head, behind_of, heads_left, head_of, left_of, Stands, Found}
use Rattle.merging.proofs.HeadLaws.{left_none, left_head, stands}

pub record Seeking (bs : List ℕ) (place : ℕ) (s : Standing) : Type 0 where
  pub octets : Octets bs
  pub ended : is_head (length bs) s ≡ false → s.at.place ≡ length bs
  pub same : from_place (length bs) place (left_of bs s) ≡ from_place (length bs) place (heads_left bs begin)

pub seek_holds : (bs : List ℕ) (place : ℕ) (c : Cursor) (s : Standing) → Octets bs → c ≡ begin → s ≡ stand_of bs c → Seeking bs place s
seek_holds bs place c s o h e =
    let t : Stands bs (stand_of bs begin) (heads_left bs begin) = stands bs o begin in
    subst (Seeking bs place) (sym (e ∙ ap (stand_of bs) h))
    (record { octets = o; ended = t.ended; same = ap (from_place (length bs) place) t.is })

from_hit : (end p : ℕ) (h : Head) (hs : List Head) → p ≡ h.place → from_place end p (h ∷ hs) ≡ some (h ∷ hs)
unfolding from_place when◌then◌else◌
from_hit end p h hs e = rw (eq-eqb p h.place e)

from_miss : (end p : ℕ) (h : Head) (hs : List Head) → (p ≡ h.place → ⊥) → from_place end p (h ∷ hs) ≡ from_place end p hs
unfolding from_place when◌then◌else◌
from_miss end p h hs e = rw (ne_eqb p h.place e)

from_end : (end p : ℕ) → p ≡ end → from_place end p [] ≡ some []
unfolding from_place when◌then◌else◌
from_end end p e = rw (eq-eqb p end e)

from_none : (end p : ℕ) → (p ≡ end → ⊥) → from_place end p [] ≡ none
unfolding from_place when◌then◌else◌
from_none end p e = rw (ne_eqb p end e)

module _ (bs : List ℕ) (place : ℕ) (s : Standing) (k : Seeking bs place s) where
  found_here : from_place (length bs) place (left_of bs s) ≡ some (left_of bs s) → Found bs (Some s) (from_place (length bs) place (heads_left bs begin))
  unfolding Found
  found_here f = subst (Found bs (Some s)) (sym f ∙ k.same) (record { is = refl; ended = k.ended })

  pub seek_hit : is_head (length bs) s ≡ true → s.at.place ≡ place → Found bs (Some s) (from_place (length bs) place (heads_left bs begin))
  seek_hit n e = found_here (rw (left_head bs s n) (from_hit (length bs) place (head_of s) (heads_left bs (behind_of s)) (sym e)))

  pub seek_more : (c : Cursor) (d : Standing) → is_head (length bs) s ≡ true → (s.at.place ≡ place → ⊥) → c ≡ behind_of s → d ≡ stand_of bs c → Seeking bs place d
  seek_more c d n e b h =
      let t : Stands bs (stand_of bs (behind_of s)) (heads_left bs (behind_of s)) = stands bs k.octets (behind_of s) in
      subst (Seeking bs place) (sym (h ∙ ap (stand_of bs) b))
      (record {
        octets = k.octets;
        ended = t.ended;
        same =
            ap (from_place (length bs) place) t.is
            ∙ sym (from_miss (length bs) place (head_of s) (heads_left bs (behind_of s)) (λ z. e (sym z)))
            ∙ ap (from_place (length bs) place) (sym (left_head bs s n))
            ∙ k.same;
      })

  pub seek_last : is_head (length bs) s ≡ false → place ≡ length bs → Found bs (Some s) (from_place (length bs) place (heads_left bs begin))
  seek_last n e = found_here (rw (left_none bs s n) (from_end (length bs) place e))

  pub seek_miss : is_head (length bs) s ≡ false → (place ≡ length bs → ⊥) → Found bs None (from_place (length bs) place (heads_left bs begin))
  unfolding Found
  seek_miss n e =
      let f : from_place (length bs) place (left_of bs s) ≡ none = rw (left_none bs s n) (from_none (length bs) place e) in
      subst (Found bs None) (sym f ∙ k.same) tt

  -- the turns end, as there are fewer to come
  pub fewer : (c : Cursor) (d : Standing) → is_head (length bs) s ≡ true → c ≡ behind_of s → d ≡ stand_of bs c → length (left_of bs d) < length (left_of bs s)
  fewer c d n b h =
      omega (
        arith,
        ap (λ z. length (left_of bs z)) (h ∙ ap (stand_of bs) b) ∙ ap length (stands bs k.octets (behind_of s)).is,
        ap length (left_head bs s n),
      )
