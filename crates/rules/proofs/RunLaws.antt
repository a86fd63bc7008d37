-- Places among a log's records, which start one after another: from a record's start come that record and those behind it. Assumes nothing.
use Prim.Native.Nat.{ℕ, ◌+◌, ◌<◌, ◌≤◌}
use mathlib.Core.Path.{◌≡◌, refl}
use mathlib.Core.Bool.{Bool, true, false}
use mathlib.Core.Option.{none, some}
use mathlib.Core.List.{List, [], ◌∷◌}
use native.Mathlib.Omega.{arith}
use lib.Dec.{eqb}
use borrow.Author.Tests.{eq-eqb, ne_eqb, eqb-true}
use Rattle.rules.specs.Answer.{when◌then◌else◌}
use Rattle.rules.specs.Merge.{Head, start_of, from_place}
use Rattle.rules.proofs.AnswerLaws.{some_inj, none_some}

-- the records start one after another, each with an octet at least, from a place to the log's end
abbrev pub Rises : ℕ → ℕ → List Head → Type 0
Rises end at [] = at ≤ end
Rises end at (h ∷ hs) = (at ≤ h.place) × (0 < h.size) × Rises end (h.place + h.size) hs

start_after : (end at : ℕ) (hs : List Head) → Rises end at hs → at ≤ start_of end hs
start_after end at [] r = r
start_after end at (h ∷ hs) r = r.0

pub from_start : (end : ℕ) (hs : List Head) → from_place end (start_of end hs) hs ≡ some hs
unfolding from_place when◌then◌else◌
from_start end [] = rw (eq-eqb end end refl)
from_start end (h ∷ hs) = rw (eq-eqb h.place h.place refl)

nil_cons {ℓ} : {A : Type 0} {C : Type ℓ} {a : A} {l : List A} → [] ≡ a ∷ l → C
nil_cons e = let z : ◌≡◌ {A = ℕ} 0 1 = cc in absurd (omega arith)

from_after : (end at p : ℕ) (hs us : List Head) → Rises end at hs → from_place end p hs ≡ some us → at ≤ start_of end us
unfolding from_place when◌then◌else◌
from_after end at p [] us r e = go (eqb p end) e
  where
    go : (t : Bool) → (when t then some [] else none) ≡ some us → at ≤ start_of end us
    go true e = rw (← some_inj e) r
    go false e = none_some e
from_after end at p (h ∷ hs) us r e = go (eqb p h.place) e (from_after end (h.place + h.size) p hs us r.2)
  where
    go : (t : Bool) → (when t then some (h ∷ hs) else from_place end p hs) ≡ some us → (from_place end p hs ≡ some us → h.place + h.size ≤ start_of end us) → at ≤ start_of end us
    go true e ih = rw (← some_inj e) r.0
    go false e ih = omega (arith, ih e)

pub from_place_lem : (end p : ℕ) (hs us : List Head) → from_place end p hs ≡ some us → p ≡ start_of end us
unfolding from_place when◌then◌else◌
from_place_lem end p [] us e = go (eqb p end) refl e
  where
    go : (t : Bool) → eqb p end ≡ t → (when t then some [] else none) ≡ some us → p ≡ start_of end us
    go true q e = rw (← some_inj e) (eqb-true p end q)
    go false q e = none_some e
from_place_lem end p (h ∷ hs) us e = go (eqb p h.place) refl e (from_place_lem end p hs us)
  where
    go : (t : Bool) → eqb p h.place ≡ t → (when t then some (h ∷ hs) else from_place end p hs) ≡ some us → (from_place end p hs ≡ some us → p ≡ start_of end us) → p ≡ start_of end us
    go true q e ih = rw (← some_inj e) (eqb-true p h.place q)
    go false q e ih = ih e

-- after a record that stands at a place, those behind it stand at their first one's start
pub from_next : (end at p : ℕ) (hs us : List Head) (a : Head) → Rises end at hs → from_place end p hs ≡ some (a ∷ us) → from_place end (start_of end us) hs ≡ some us
unfolding from_place when◌then◌else◌
from_next end at p [] us a r e = go (eqb p end) e
  where
    go : (t : Bool) → (when t then some [] else none) ≡ some (a ∷ us) → from_place end (start_of end us) [] ≡ some us
    go true e = nil_cons (some_inj e)
    go false e = none_some e
from_next end at p (h ∷ hs) us a r e = go (eqb p h.place) e (from_next end (h.place + h.size) p hs us a r.2)
  where
    skip : (vs : List Head) → h.place + h.size ≤ start_of end vs → eqb (start_of end vs) h.place ≡ false
    skip vs l = ne_eqb (start_of end vs) h.place (λ q. omega (arith, q, l, r.1))

    go : (t : Bool) → (when t then some (h ∷ hs) else from_place end p hs) ≡ some (a ∷ us)
        → (from_place end p hs ≡ some (a ∷ us) → from_place end (start_of end us) hs ≡ some us)
        → (when eqb (start_of end us) h.place then some (h ∷ hs) else from_place end (start_of end us) hs) ≡ some us
    go true e ih =
        let s : hs ≡ us = cc (some_inj e) in
        rw (← s, skip hs (start_after end (h.place + h.size) hs r.2)) (from_start end hs)
    go false e ih =
        let l : from_place end (start_of end us) hs ≡ some us = ih e in
        rw (skip us (from_after end (h.place + h.size) (start_of end us) hs us r.2 l)) l
