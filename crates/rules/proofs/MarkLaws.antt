-- What holds of marks: a mark, and a list of marks, that was written is read back, and what is read was written. Assumes nothing.
use Prim.Native.Nat.{ℕ, zero, suc, ◌+◌, ◌-◌, ◌*◌, ◌/◌, ◌%◌, ◌≤◌, ◌<◌}
use mathlib.Core.Path.{◌≡◌, refl, sym, ap, ap₂, ◌∙◌, subst}
use mathlib.Core.List.{List, [], ◌∷◌, ◌++◌, append_assoc}
use native.Mathlib.Omega.{arith}
use lib.Dec.{T, leb, ltb, eqb, leb→le, le→leb, ltb→lt, lt→ltb, eqb→eq, eqb_refl}
use lib.ListN.{length, drop, get_or, length-append, length-drop}
use native.Mathlib.Nat.{add-zero}
use lib.Seq.{drop_at, drop-cons}
use Rattle.rules.specs.Answer.{ok}
use Rattle.rules.specs.declared.Mark.{Mark}
use Rattle.rules.specs.declared.Shape.{Shape}
use Rattle.rules.specs.declared.Shape.TheVariants.{Whole, InLog}
use Rattle.rules.specs.Mark.{key, ok_mark, size, bytes4, number4, log_in, mark_bytes, mark_in, mark_fits, marks_bytes, marks_in, of_shape, rising}
use Rattle.rules.proofs.AnswerLaws.{ok_inj, bind_in, bind_elim, need_in, need_elim, later_in, later_inv, Octets}
use Rattle.rules.proofs.Codec.{and_inv, and_in, after}

-- ---- the tests as facts
pub record Legal (m : Mark) : Type 0 where
  pub log : m.log ≤ 1
  pub place : m.place < 4294967296
  pub station : m.station ≤ 5
  pub comment : m.comment < 256

pub legal : (m : Mark) → T (ok_mark m) → Legal m
legal m h =
    let (a, h₁) = and_inv (leb m.log 1) _ h in
    let (b, h₂) = and_inv (ltb m.place 4294967296) _ h₁ in
    let (c, d) = and_inv (leb m.station 5) _ h₂ in
    record { log = leb→le _ _ a; place = ltb→lt _ _ b; station = leb→le _ _ c; comment = ltb→lt _ _ d }

pub ok_mark_lem : (m : Mark) → Legal m → T (ok_mark m)
ok_mark_lem m l =
    and_in (leb m.log 1) _ (le→leb _ _ l.log)
    (and_in (ltb m.place 4294967296) _ (lt→ltb _ _ l.place) (and_in (leb m.station 5) _ (le→leb _ _ l.station) (lt→ltb _ _ l.comment)))

pub record Rises (f : Shape) (least : ℕ) (m : Mark) (ms : List Mark) : Type 0 where
  pub legal : Legal m
  pub shape : T (of_shape f m)
  pub above : least ≤ key m
  pub more : T (rising f (suc (key m)) ms)

pub rises : (f : Shape) (least : ℕ) (m : Mark) (ms : List Mark) → T (rising f least (m ∷ ms)) → Rises f least m ms
unfolding rising
rises f least m ms h =
    let (a, h₁) = and_inv (ok_mark m) _ h in
    let (b, h₂) = and_inv (of_shape f m) _ h₁ in
    let (c, d) = and_inv (leb least (key m)) _ h₂ in
    record { legal = legal m a; shape = b; above = leb→le _ _ c; more = d }

pub rising_in : (f : Shape) (least : ℕ) (m : Mark) (ms : List Mark) → Rises f least m ms → T (rising f least (m ∷ ms))
unfolding rising
rising_in f least m ms r =
    and_in (ok_mark m) _ (ok_mark_lem m r.legal) (and_in (of_shape f m) _ r.shape (and_in (leb least (key m)) _ (le→leb _ _ r.above) r.more))

pub rising_nil : (f : Shape) (least : ℕ) → T (rising f least [])
unfolding rising
rising_nil f least = tt

-- ---- a mark
pub number4_bytes4 : (n : ℕ) (rest : List ℕ) → n < 4294967296 → number4 (bytes4 n ++ rest) ≡ n
unfolding number4 bytes4
number4_bytes4 n rest h = omega arith

pub record Four (a b c d : ℕ) (n : ℕ) : Type 0 where
  pub first : n / 16777216 ≡ a
  pub second : n / 65536 % 256 ≡ b
  pub third : n / 256 % 256 ≡ c
  pub fourth : n % 256 ≡ d

pub four : (a b c d : ℕ) → a < 256 → b < 256 → c < 256 → d < 256 → Four a b c d (((a * 256 + b) * 256 + c) * 256 + d)
four a b c d p q r s = record { first = omega arith; second = omega arith; third = omega arith; fourth = omega arith }

pub mark_at_lem : (f : Shape) (m : Mark) (rest : List ℕ) → Legal m → T (of_shape f m) → mark_in f (mark_bytes f m ++ rest) ≡ m
unfolding mark_in mark_bytes number4 bytes4
mark_at_lem Whole m rest l o = ap (λ p. record { log = m.log; place = p; station = m.station; comment = m.comment }) (number4_bytes4 m.place rest l.place)
mark_at_lem (InLog g) m rest l o =
    ap₂ (λ g p. record { log = g; place = p; station = m.station; comment = m.comment }) (sym (eqb→eq m.log g o)) (number4_bytes4 m.place rest l.place)

mark_passes : (f : Shape) (least : ℕ) (m : Mark) (rest : List ℕ) → Legal m → T (of_shape f m) → least ≤ key m → T (mark_fits f least (mark_bytes f m ++ rest))
unfolding mark_fits mark_in mark_bytes bytes4 number4
mark_passes Whole least m rest l o h =
    let e : key (mark_in Whole (mark_bytes Whole m ++ rest)) ≡ key m = ap key (mark_at_lem Whole m rest l o) in
    and_in (leb m.log 1) _ (le→leb _ _ l.log) (and_in (leb m.station 5) _ (le→leb _ _ l.station) (le→leb least _ (subst (λ k. least ≤ k) (sym e) h)))
mark_passes (InLog g) least m rest l o h =
    let e : key (mark_in (InLog g) (mark_bytes (InLog g) m ++ rest)) ≡ key m = ap key (mark_at_lem (InLog g) m rest l o) in
    let eg : m.log ≡ g = eqb→eq m.log g o in
    and_in (leb g 1) _ (le→leb g 1 (omega (arith, l.log))) (and_in (leb m.station 5) _ (le→leb _ _ l.station) (le→leb least _ (subst (λ k. least ≤ k) (sym e) h)))

pub mark_length : (f : Shape) (m : Mark) → length (mark_bytes f m) ≡ size f
unfolding mark_bytes bytes4
mark_length Whole m = refl
mark_length (InLog g) m = refl

-- what the bytes of a mark that is accepted say
pub record Marked (f : Shape) (least : ℕ) (bs : List ℕ) : Type 0 where
  pub legal : Legal (mark_in f bs)
  pub shape : T (of_shape f (mark_in f bs))
  pub above : least ≤ key (mark_in f bs)
  pub joins : bs ≡ mark_bytes f (mark_in f bs) ++ drop (size f) bs

-- the elements from place k, so many
abbrev pub front : ℕ → ℕ → List ℕ → List ℕ
front k zero bs = []
front k (suc n) bs = get_or bs k 0 ∷ front (suc k) n bs

pub front_is : (k n : ℕ) (bs : List ℕ) → k + n ≤ length bs → drop k bs ≡ front k n bs ++ drop (k + n) bs
front_is k zero bs h = ap (λ j. drop j bs) (sym (add-zero k))
front_is k (suc n) bs h =
    let e : suc k + n ≡ k + suc n = omega arith in
    drop-cons bs k 0 (omega arith) ∙ ap (λ l. get_or bs k 0 ∷ l) (front_is (suc k) n bs (omega arith) ∙ ap (λ j. front (suc k) n bs ++ drop j bs) e)

pub byte_at : (bs : List ℕ) (i : ℕ) → Octets bs → get_or bs i 0 < 256
byte_at [] i b = omega arith
byte_at (a ∷ bs) zero b = b.0
byte_at (a ∷ bs) (suc i) b = byte_at bs i b.1

pub four_at : (bs : List ℕ) → Octets bs → Four (get_or bs 0 0) (get_or bs 1 0) (get_or bs 2 0) (get_or bs 3 0) (number4 bs)
unfolding number4
four_at bs b = four (get_or bs 0 0) (get_or bs 1 0) (get_or bs 2 0) (get_or bs 3 0) (byte_at bs 0 b) (byte_at bs 1 b) (byte_at bs 2 b) (byte_at bs 3 b)

pub number4_lt : (bs : List ℕ) → Octets bs → number4 bs < 4294967296
unfolding number4
number4_lt bs b = omega (arith, byte_at bs 0 b, byte_at bs 1 b, byte_at bs 2 b, byte_at bs 3 b)

mark_joins : (f : Shape) (bs : List ℕ) → size f ≤ length bs → Octets bs → get_or bs (size f - 1) 0 ≡ 0 → bs ≡ mark_bytes f (mark_in f bs) ++ drop (size f) bs
unfolding mark_in mark_bytes bytes4
mark_joins Whole bs h b z =
    let e : Four (get_or bs 0 0) (get_or bs 1 0) (get_or bs 2 0) (get_or bs 3 0) (number4 bs) = four_at bs b in
    rw (e.first, e.second, e.third, e.fourth) (front_is 0 8 bs h ∙ ap (λ x. front 0 7 bs ++ (x ∷ drop 8 bs)) z)
mark_joins (InLog g) bs h b z =
    let e : Four (get_or bs 0 0) (get_or bs 1 0) (get_or bs 2 0) (get_or bs 3 0) (number4 bs) = four_at bs b in
    rw (e.first, e.second, e.third, e.fourth) (front_is 0 7 bs h ∙ ap (λ x. front 0 6 bs ++ (x ∷ drop 7 bs)) z)

shape_in_lem : (f : Shape) (bs : List ℕ) → T (of_shape f (mark_in f bs))
unfolding mark_in
shape_in_lem Whole bs = tt
shape_in_lem (InLog g) bs = eqb_refl g

mark_came : (f : Shape) (least : ℕ) (bs : List ℕ) → size f ≤ length bs → Octets bs → T (mark_fits f least bs) → Marked f least bs
unfolding mark_fits mark_in
mark_came f least bs h b k =
    let (k₁, q₁) = and_inv (leb (log_in f bs) 1) _ k in
    let (k₂, q₂) = and_inv (leb (get_or bs (size f - 3) 0) 5) _ q₁ in
    let (k₃, k₄) = and_inv (eqb (get_or bs (size f - 1) 0) 0) _ q₂ in
    record {
      legal = record { log = leb→le _ _ k₁; place = number4_lt bs b; station = leb→le _ _ k₂; comment = byte_at bs (size f - 2) b };
      shape = shape_in_lem f bs;
      above = leb→le _ _ k₄;
      joins = mark_joins f bs h b (eqb→eq _ _ k₃);
    }

-- ---- a list of marks
pub marks_length : (f : Shape) (ms : List Mark) → length (marks_bytes f ms) ≡ length ms * size f
unfolding marks_bytes
marks_length f [] = omega arith
marks_length f (m ∷ ms) = rw (length-append, mark_length f m, marks_length f ms) (omega arith)

pub marks_back : (f : Shape) (least : ℕ) (ms : List Mark) (rest : List ℕ) → T (rising f least ms) → marks_in f least (length ms) (marks_bytes f ms ++ rest) ≡ ok ms
unfolding marks_in marks_bytes
marks_back f least [] rest h = refl
marks_back f least (m ∷ ms) rest h =
    let r : Rises f least m ms = rises f least m ms h in
    let x : List ℕ = marks_bytes f ms ++ rest in
    rw (append_assoc (mark_bytes f m) (marks_bytes f ms) rest, mark_at_lem f m x r.legal r.shape, drop_at (mark_bytes f m) x (size f) (mark_length f m))
    (need_in _ _ (mark_passes f least m x r.legal r.shape r.above)
    (bind_in _ (later_in (size f) (marks_back f (suc (key m)) ms rest r.more)) refl))

pub record Listed (f : Shape) (least n : ℕ) (bs : List ℕ) (ms : List Mark) : Type 0 where
  pub rise : T (rising f least ms)
  pub joins : bs ≡ marks_bytes f ms
  pub many : length ms ≡ n

pub marks_forth : (f : Shape) (least n : ℕ) (bs : List ℕ) (ms : List Mark) → Octets bs → length bs ≡ n * size f → marks_in f least n bs ≡ ok ms → Listed f least n bs ms
unfolding marks_in marks_bytes
marks_forth f least zero [] ms b l h = subst (Listed f least zero []) (ok_inj h) (record { rise = rising_nil f least; joins = refl; many = refl })
marks_forth f least zero (a ∷ bs) ms b l h = absurd (omega arith)
marks_forth f least (suc n) bs ms b l h =
    need_elim _ _ _ h λ p h₁.
    bind_elim _ _ h₁ λ us q h₂.
    let c : Marked f least bs = mark_came f least bs (omega arith) b p in
    let t : Listed f (suc (key (mark_in f bs))) n (drop (size f) bs) us =
    marks_forth f (suc (key (mark_in f bs))) n (drop (size f) bs) us (after bs (mark_bytes f (mark_in f bs)) (drop (size f) bs) c.joins b) (omega (arith, length-drop (size f) bs)) (later_inv (size f) _ q) in
    subst (Listed f least (suc n) bs) (ok_inj h₂)
    (record {
      rise = rising_in f least (mark_in f bs) us (record { legal = c.legal; shape = c.shape; above = c.above; more = t.rise });
      joins = c.joins ∙ ap (λ x. mark_bytes f (mark_in f bs) ++ x) t.joins;
      many = ap suc t.many;
    })
