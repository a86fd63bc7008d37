-- What holds of sheets: what may be written is read back, and what is read was written. Assumes nothing.
use Prim.Native.Nat.{ℕ, suc, ◌+◌, ◌-◌, ◌*◌, ◌/◌, ◌%◌, ◌≤◌, ◌<◌}
use mathlib.Core.Path.{◌≡◌, refl, sym, ap, ap₂, ◌∙◌, subst}
use mathlib.Core.Logic.{⊎_elim}
use mathlib.Core.Bool.{Bool, true, false}
use mathlib.Core.List.{List, [], ◌∷◌, ◌++◌, append_assoc, append-nil}
use native.Mathlib.Omega.{arith}
use lib.Dec.{T, ltb, eqb, leb→le, le→leb, lt→ltb, eqb→eq, eqb_refl}
use borrow.Author.Tests.{eqb-true, lt-ltb, le-ltb}
use lib.ListN.{length, take, drop, get_or, length-append, length-drop, take-append-drop}
use lib.Seq.{drop_at, take_at, length-take-le, drop-drop}
use lib.IntN.{ℤ, pos, negsuc}
use Rattle.rules.specs.Answer.{ok}
use Rattle.rules.specs.declared.Mark.{Mark}
use Rattle.rules.specs.declared.Shape.{Shape}
use Rattle.rules.specs.declared.Shape.TheVariants.{Whole, InLog}
use Rattle.rules.specs.Mark.{size, bytes4, number4, marks_bytes, marks_in, rising, totals_from, totals, of_log}
use Rattle.rules.specs.declared.Edition.{Edition}
use Rattle.rules.specs.SheetForm.{Form}
use Rattle.rules.specs.Merge.{in_range}
use Rattle.rules.specs.Sheet.{edition_of, Sheet, offset_code, offset_of, field_bytes, sheet_bytes, body_length, field_length, read_field, read_edition, read_offset, read_list, same, read_total, read_sheet}
use Rattle.rules.proofs.AnswerLaws.{refused_ok, ok_inj, bind_in, bind_elim, need_in, need_elim, later_in, later_inv, if_inv, nil_of_length, Octets, octets_right, octets_left}
use Rattle.rules.proofs.SheetSteps.{marks_fields, totals_fields, step_bytes, read_marks, read_totals, read_steps, bytes_are, read_is}
use Rattle.rules.proofs.Codec.{and_inv, and_in, after, Codec}
use Rattle.rules.proofs.SplitLaws.{split, pick, join, of_own, of_other, of_append}
use Rattle.rules.proofs.MarkLaws.{number4_bytes4, number4_lt, four_at, Four, front, front_is, byte_at, Listed, marks_length, marks_back, marks_forth}

-- ---- a field

field_length_lem : (t : ℕ) (body rest : List ℕ) → length body < 65536 → field_length t (field_bytes t body ++ rest) ≡ ok (length body)
unfolding field_length field_bytes
field_length_lem t body rest h =
    let e : length body / 256 * 256 + length body % 256 ≡ length body = omega arith in
    let l : length (body ++ rest) ≡ length body + length rest = length-append body rest in
    need_in _ _ (lt→ltb 0 (suc (suc (suc (length (body ++ rest))))) (omega arith))
    (need_in _ _ (le→leb 3 (suc (suc (suc (length (body ++ rest))))) (omega arith))
    (rw e
    (need_in _ _ (le→leb (3 + length body) (suc (suc (suc (length (body ++ rest))))) (omega arith))
    (need_in _ _ (eqb_refl t) refl))))

field_back : (t : ℕ) (body rest : List ℕ) → length body < 65536 → read_field t (field_bytes t body ++ rest) ≡ ok (body, rest)
unfolding read_field field_bytes
field_back t body rest h =
    bind_in _ (field_length_lem t body rest h)
    (ap₂ (λ x y. ok (x, y)) (take_at body rest (length body) refl) (drop_at (t ∷ length body / 256 ∷ length body % 256 ∷ body) rest (3 + length body) (omega arith)))

pub record FieldCame (t : ℕ) (body bs rest : List ℕ) : Type 0 where
  pub short : length body < 65536
  pub joins : bs ≡ field_bytes t body ++ rest
  pub bytes : Octets body
  pub more : Octets rest

two_bytes : (a b n : ℕ) → a < 256 → b < 256 → n ≡ a * 256 + b → (n / 256 ≡ a) × (n % 256 ≡ b)
two_bytes a b n p q e = (omega arith, omega arith)

field_forth : (t : ℕ) (body bs rest : List ℕ) → Octets bs → read_field t bs ≡ ok (body, rest) → FieldCame t body bs rest
unfolding read_field field_length field_bytes
field_forth t body bs rest b h =
    bind_elim _ _ h λ n r h₅.
    need_elim _ _ _ r λ p₁ h₁.
    need_elim _ _ _ h₁ λ p₂ h₂.
    need_elim _ _ _ h₂ λ p₃ h₃.
    need_elim _ _ _ h₃ λ p₄ h₄.
    let en : body_length bs ≡ n = ok_inj h₄ in
    let l : 3 + body_length bs ≤ length bs = leb→le _ _ p₃ in
    let eb : take (body_length bs) (drop 3 bs) ≡ body = ap (λ k. take k (drop 3 bs)) en ∙ ap (λ x. x.0) (ok_inj h₅) in
    let er : drop (3 + body_length bs) bs ≡ rest = ap (λ k. drop (3 + k) bs) en ∙ ap (λ x. x.1) (ok_inj h₅) in
    let lb : length body ≡ body_length bs = ap length (sym eb) ∙ length-take-le (body_length bs) (drop 3 bs) (omega (arith, length-drop 3 bs)) in
    let (hi, lo) = two_bytes (get_or bs 1 0) (get_or bs 2 0) (length body) (byte_at bs 1 b) (byte_at bs 2 b) lb in
    let d : drop 3 bs ≡ body ++ rest = sym (take-append-drop (body_length bs) (drop 3 bs)) ∙ ap₂ (λ x y. x ++ y) eb (drop-drop (body_length bs) 3 bs ∙ er) in
    let j : bs ≡ get_or bs 0 0 ∷ get_or bs 1 0 ∷ get_or bs 2 0 ∷ drop 3 bs = front_is 0 3 bs (leb→le _ _ p₂) in
    let e : bs ≡ t ∷ length body / 256 ∷ length body % 256 ∷ (body ++ rest) = rw (hi, lo, ← eqb→eq (get_or bs 0 0) t p₄, ← d) j in
    let m : Octets (body ++ rest) = after bs (t ∷ length body / 256 ∷ length body % 256 ∷ []) (body ++ rest) e b in
    record {
      short = omega (arith, byte_at bs 1 b, byte_at bs 2 b);
      joins = e;
      bytes = octets_left body rest m;
      more = octets_right body rest m;
    }

-- ---- the edition and the offset
pub edition_forth : (es : List Edition) (n : ℕ) (e : Edition) → edition_of es n ≡ ok e → e.byte ≡ n
unfolding edition_of
edition_forth [] n e h = refused_ok h
edition_forth (x ∷ es) n e h =
    ⊎_elim (λ (t, k). ap (λ (y : Edition). y.byte) (sym (ok_inj k)) ∙ sym (eqb-true n x.byte t)) (λ (t, k). edition_forth es n e k) (if_inv _ _ _ h)

-- the edition is the one that its byte names
abbrev pub Known : List Edition → Edition → Type 0
Known es e = edition_of es e.byte ≡ ok e

pub known : (es : List Edition) (n : ℕ) (e : Edition) → edition_of es n ≡ ok e → Known es e
known es n e h = ap (edition_of es) (edition_forth es n e h) ∙ h

one_byte : (b : List ℕ) (x : ℕ) → length b ≡ 1 → x ≡ get_or b 0 0 → b ≡ x ∷ []
one_byte [] x l e = absurd (omega arith)
one_byte (a ∷ []) x l e = ap (λ y. y ∷ []) (sym e)
one_byte (a ∷ b ∷ c) x l e = absurd (omega arith)

pub edition_codec : (es : List Edition) → Codec (Known es) (λ e. field_bytes 1 (e.byte ∷ [])) (read_edition es)
unfolding read_edition
edition_codec es =
    record {
      back = λ e rest g. bind_in _ (field_back 1 (e.byte ∷ []) rest (omega arith)) (need_in _ _ tt (bind_in _ g refl));
      forth = λ e bs rest b h.
          bind_elim _ _ h λ x p h₁.
          need_elim _ _ _ h₁ λ q h₂.
          bind_elim _ _ h₂ λ k r h₃.
          let c : FieldCame 1 x.0 bs x.1 = field_forth 1 x.0 bs x.1 b p in
          let ke : k ≡ e = ap (λ y. y.0) (ok_inj h₃) in
          let re : x.1 ≡ rest = ap (λ y. y.1) (ok_inj h₃) in
          let l : x.0 ≡ e.byte ∷ [] = one_byte x.0 e.byte (eqb→eq _ _ q) (ap (λ (y : Edition). y.byte) (sym ke) ∙ edition_forth es _ k r) in
          (subst (Known es) ke (known es _ k r), c.joins ∙ ap₂ (λ y z. field_bytes 1 y ++ z) l re);
    }

pub offset_code_lem : (o : ℤ) → T (in_range o) → (offset_code o < 4294967296) × (offset_of (offset_code o) ≡ o)
offset_code_lem (pos n) h =
    let l : n ≤ 46080 = leb→le n 46080 h in
    (omega arith, rw (lt-ltb n 2147483648 (omega arith)))
offset_code_lem (negsuc n) h =
    let l : n ≤ 46079 = leb→le n 46079 h in
    let e : 4294967295 - (4294967295 - n) ≡ n = omega arith in
    (omega arith, rw (le-ltb (4294967295 - n) 2147483648 (omega arith), e))

code_offset : (c : ℕ) → c < 4294967296 → offset_code (offset_of c) ≡ c
code_offset c h = go (ltb c 2147483648) refl
  where
    go : (t : Bool) → ltb c 2147483648 ≡ t → offset_code (offset_of c) ≡ c
    go true e = rw e
    go false e = let l : 4294967295 - (4294967295 - c) ≡ c = omega arith in rw e l

four_bytes : (b : List ℕ) → length b ≡ 4 → Octets b → b ≡ bytes4 (number4 b)
unfolding bytes4
four_bytes b l k =
    let e : Four (get_or b 0 0) (get_or b 1 0) (get_or b 2 0) (get_or b 3 0) (number4 b) = four_at b k in
    let z : drop 4 b ≡ [] = nil (drop 4 b) (omega (arith, length-drop 4 b)) in
    rw (e.first, e.second, e.third, e.fourth) (front_is 0 4 b (omega arith) ∙ ap (λ x. front 0 4 b ++ x) z)
  where
    nil : (x : List ℕ) → length x ≡ 0 → x ≡ []
    nil [] h = refl
    nil (a ∷ x) h = absurd (omega arith)

bytes4_four : (n : ℕ) → n < 4294967296 → number4 (bytes4 n) ≡ n
bytes4_four n h = ap number4 (sym (append-nil (bytes4 n))) ∙ number4_bytes4 n [] h

bytes4_length : (n : ℕ) → length (bytes4 n) ≡ 4
unfolding bytes4
bytes4_length n = refl

pub offset_codec : Codec (λ o. T (in_range o)) (λ o. field_bytes 2 (bytes4 (offset_code o))) read_offset
unfolding read_offset
offset_codec =
    record {
      back = λ o rest g.
          let (l, e) = offset_code_lem o g in
          let n : offset_of (number4 (bytes4 (offset_code o))) ≡ o = ap offset_of (bytes4_four (offset_code o) l) ∙ e in
          bind_in _ (field_back 2 (bytes4 (offset_code o)) rest (omega (arith, bytes4_length (offset_code o))))
          (rw (bytes4_length (offset_code o), n) (need_in _ _ tt (need_in _ _ g refl)));
      forth = λ o bs rest b h.
          bind_elim _ _ h λ x p h₁.
          need_elim _ _ _ h₁ λ q h₂.
          need_elim _ _ _ h₂ λ r h₃.
          let c : FieldCame 2 x.0 bs x.1 = field_forth 2 x.0 bs x.1 b p in
          let oe : offset_of (number4 x.0) ≡ o = ap (λ y. y.0) (ok_inj h₃) in
          let re : x.1 ≡ rest = ap (λ y. y.1) (ok_inj h₃) in
          let l : x.0 ≡ bytes4 (offset_code o) =
          four_bytes x.0 (eqb→eq _ _ q) c.bytes ∙ ap bytes4 (sym (code_offset (number4 x.0) (number4_lt x.0 c.bytes)) ∙ ap offset_code oe) in
          (subst (λ o. T (in_range o)) oe r, c.joins ∙ ap₂ (λ y z. field_bytes 2 y ++ z) l re);
    }

-- ---- a field of marks
parts_of_lem : (f : Shape) (n : ℕ) → (n * size f % size f ≡ 0) × (n * size f / size f ≡ n)
parts_of_lem Whole n = (omega arith, omega arith)
parts_of_lem (InLog l) n = (omega arith, omega arith)

whole_parts : (f : Shape) (n : ℕ) → n % size f ≡ 0 → n ≡ n / size f * size f
whole_parts Whole n h = omega arith
whole_parts (InLog l) n h = omega arith

small_list : (f : Shape) (n limit : ℕ) → n ≤ limit → limit ≤ 8191 → n * size f < 65536
small_list Whole n limit p q = omega arith
small_list (InLog l) n limit p q = omega arith

pub record Fits (f : Shape) (limit : ℕ) (ms : List Mark) : Type 0 where
  pub rise : T (rising f 0 ms)
  pub few : length ms ≤ limit

pub list_codec : (t : ℕ) (f : Shape) (limit : ℕ) → limit ≤ 8191 → Codec (Fits f limit) (λ ms. field_bytes t (marks_bytes f ms)) (read_list t f limit)
unfolding read_list
list_codec t f limit small =
    record {
      back = λ ms rest g.
          let l : length (marks_bytes f ms) ≡ length ms * size f = marks_length f ms in
          let (z, n) = parts_of_lem f (length ms) in
          bind_in _ (field_back t (marks_bytes f ms) rest (omega (arith, small_list f (length ms) limit g.few small)))
          (rw (l, z, n) (need_in _ _ tt (need_in _ _ (le→leb _ _ g.few)
          (bind_in _ (later_in 3 (ap (marks_in f 0 (length ms)) (sym (append-nil (marks_bytes f ms))) ∙ marks_back f 0 ms [] g.rise)) refl))));
      forth = λ ms bs rest b h.
          bind_elim _ _ h λ x p h₁.
          need_elim _ _ _ h₁ λ q h₂.
          need_elim _ _ _ h₂ λ r h₃.
          bind_elim _ _ h₃ λ us k h₄.
          let c : FieldCame t x.0 bs x.1 = field_forth t x.0 bs x.1 b p in
          let l : Listed f 0 (length x.0 / size f) x.0 us =
          marks_forth f 0 (length x.0 / size f) x.0 us c.bytes (whole_parts f (length x.0) (eqb→eq _ _ q)) (later_inv 3 _ k) in
          let ue : us ≡ ms = ap (λ y. y.0) (ok_inj h₄) in
          let re : x.1 ≡ rest = ap (λ y. y.1) (ok_inj h₄) in (
            subst (Fits f limit) ue (record { rise = l.rise; few = omega (arith, l.many, leb→le (length x.0 / size f) limit r) }),
            c.joins ∙ ap₂ (λ y z. field_bytes t y ++ z) (l.joins ∙ ap (marks_bytes f) ue) re,
          );
    }

-- ---- the marks of an edition
pub marks_codec : (t : Bool) (limit : ℕ) → limit ≤ 8191 → Codec (Fits Whole limit) (marks_fields t) (read_marks t limit)
unfolding read_marks marks_fields
marks_codec false limit small = list_codec 3 Whole limit small
marks_codec true limit small =
    record {
      back = λ ms rest g.
          let j : of_log 0 ms ++ of_log 1 ms ≡ ms = split 0 ms g.rise in
          let l : length (of_log 0 ms) + length (of_log 1 ms) ≡ length ms = sym (length-append (of_log 0 ms) (of_log 1 ms)) ∙ ap length j in
          let a : Fits (InLog 0) limit (of_log 0 ms) = record { rise = pick 0 0 0 ms (omega arith) g.rise; few = omega (arith, g.few) } in
          let b : Fits (InLog 1) (limit - length (of_log 0 ms)) (of_log 1 ms) = record { rise = pick 1 0 0 ms (omega arith) g.rise; few = omega (arith, g.few) } in
          rw (append_assoc (field_bytes 5 (marks_bytes (InLog 0) (of_log 0 ms))) (field_bytes 6 (marks_bytes (InLog 1) (of_log 1 ms))) rest)
          (bind_in _ ((list_codec 5 (InLog 0) limit small).back (of_log 0 ms) _ a)
          (bind_in _ (later_in _ ((list_codec 6 (InLog 1) (limit - length (of_log 0 ms)) (omega arith)).back (of_log 1 ms) rest b))
          (ap (λ x. ok (x, rest)) j)));
      forth = λ ms bs rest b h.
          bind_elim _ _ h λ x p h₁.
          bind_elim _ _ h₁ λ y q h₂.
          let (ga, ja) = (list_codec 5 (InLog 0) limit small).forth x.0 bs x.1 b p in
          let (gc, jc) = (list_codec 6 (InLog 1) (limit - length x.0) (omega arith)).forth y.0 x.1 y.1 (after bs (field_bytes 5 (marks_bytes (InLog 0) x.0)) x.1 ja b) (later_inv _ _ q) in
          let e : x.0 ++ y.0 ≡ ms = ap (λ z. z.0) (ok_inj h₂) in
          let re : y.1 ≡ rest = ap (λ z. z.1) (ok_inj h₂) in
          let e₀ : of_log 0 (x.0 ++ y.0) ≡ x.0 =
          of_append 0 x.0 y.0 ∙ ap₂ (λ u v. u ++ v) (of_own 0 0 x.0 ga.rise) (of_other 1 0 0 y.0 (λ z. omega arith) gc.rise) ∙ append-nil x.0 in
          let e₁ : of_log 1 (x.0 ++ y.0) ≡ y.0 =
          of_append 1 x.0 y.0 ∙ ap₂ (λ u v. u ++ v) (of_other 0 1 0 x.0 (λ z. omega arith) ga.rise) (of_own 1 0 y.0 gc.rise) in
          subst (λ z. Fits Whole limit z × (bs ≡ (field_bytes 5 (marks_bytes (InLog 0) (of_log 0 z)) ++ field_bytes 6 (marks_bytes (InLog 1) (of_log 1 z))) ++ rest)) e (
            record { rise = join 0 x.0 y.0 (omega arith) ga.rise gc.rise; few = omega (arith, length-append x.0 y.0, ga.few, gc.few) },
            rw (e₀, e₁, ← re, append_assoc (field_bytes 5 (marks_bytes (InLog 0) x.0)) (field_bytes 6 (marks_bytes (InLog 1) y.0)) y.1, ← jc) ja,
          );
    }

-- ---- the totals
same_refl : (a : List ℕ) → T (same a a)
unfolding same
same_refl [] = tt
same_refl (x ∷ a) = and_in (eqb x x) _ (eqb_refl x) (same_refl a)

same_is : (a b : List ℕ) → T (same a b) → a ≡ b
unfolding same
same_is [] [] h = refl
same_is [] (y ∷ b) h = absurd h
same_is (x ∷ a) [] h = absurd h
same_is (x ∷ a) (y ∷ b) h = let (p, q) = and_inv (eqb x y) _ h in ap₂ (λ u v. u ∷ v) (eqb→eq x y p) (same_is a b q)

pub totals_length : (ms : List Mark) → length (totals ms) ≡ 12
unfolding totals_from
totals_length ms = refl

total_codec : (ms : List Mark) → Codec (λ u. Unit {0}) (λ u. field_bytes 4 (totals ms)) (read_total 4 ms)
unfolding read_total
total_codec ms =
    record {
      back = λ u rest g.
          bind_in _ (field_back 4 (totals ms) rest (omega (arith, totals_length ms)))
          (rw (totals_length ms) (need_in _ _ tt (need_in _ _ (same_refl (totals ms)) refl)));
      forth = λ u bs rest b h.
          bind_elim _ _ h λ x p h₁.
          need_elim _ _ _ h₁ λ q h₂.
          need_elim _ _ _ h₂ λ r h₃.
          let c : FieldCame 4 x.0 bs x.1 = field_forth 4 x.0 bs x.1 b p in
          (tt, c.joins ∙ ap₂ (λ y z. field_bytes 4 y ++ z) (same_is x.0 (totals ms) r) (ap (λ y. y.1) (ok_inj h₃)));
    }

pub totals_codec : (t : Bool) (ms : List Mark) → Codec (λ u. Unit {0}) (λ u. totals_fields t ms) (read_totals t ms)
unfolding read_totals totals_fields
totals_codec false ms = record { back = λ u rest g. refl; forth = λ u bs rest b h. (tt, ap (λ y. y.1) (ok_inj h)) }
totals_codec true ms = total_codec ms

-- ---- THE TWO LAWS of a sheet
pub record Good (f : Form) (s : Sheet) : Type 0 where
  pub edition : Known f.editions s.edition
  pub offset : T (in_range s.offset)
  pub marks : Fits Whole f.limit s.marks

module _ (f : Form) (small : f.limit ≤ 8191) where
  steps_back : (s : Sheet) → Good f s → read_steps f (step_bytes s) ≡ ok s
  unfolding read_steps step_bytes
  steps_back s g =
      bind_in _ ((edition_codec f.editions).back s.edition _ g.edition)
      (bind_in _ (later_in _ (offset_codec.back s.offset _ g.offset))
      (bind_in _ (later_in _ ((marks_codec s.edition.split f.limit small).back s.marks _ g.marks))
      (bind_in _ (later_in _ (ap (read_totals s.edition.totals s.marks) (sym (append-nil _)) ∙ (totals_codec s.edition.totals s.marks).back tt [] tt))
      (later_in _ (need_in _ _ tt refl)))))

  pub sheet_back : (s : Sheet) → Good f s → read_sheet f (sheet_bytes s) ≡ ok s
  sheet_back s g = ap (read_sheet f) (bytes_are s) ∙ read_is f (step_bytes s) ∙ steps_back s g

  pub record Came (bs : List ℕ) (s : Sheet) : Type 0 where
    pub good : Good f s
    pub is : bs ≡ sheet_bytes s

  record Stepped (bs : List ℕ) (s : Sheet) : Type 0 where
    good : Good f s
    is : bs ≡ step_bytes s

  steps_forth : (bs : List ℕ) (s : Sheet) → Octets bs → read_steps f bs ≡ ok s → Stepped bs s
  unfolding read_steps step_bytes
  steps_forth bs s b h =
      bind_elim _ _ h λ x p h₁.
      bind_elim _ _ h₁ λ y q h₂.
      bind_elim _ _ h₂ λ z r h₃.
      bind_elim _ _ h₃ λ w t h₄.
      need_elim _ _ _ (later_inv _ _ h₄) λ n h₅.
      let (ge, je) = (edition_codec f.editions).forth x.0 bs x.1 b p in
      let b₁ : Octets x.1 = after bs (field_bytes 1 (x.0.byte ∷ [])) x.1 je b in
      let (go, jo) = offset_codec.forth y.0 x.1 y.1 b₁ (later_inv _ _ q) in
      let b₂ : Octets y.1 = after x.1 (field_bytes 2 (bytes4 (offset_code y.0))) y.1 jo b₁ in
      let (gm, jm) = (marks_codec x.0.split f.limit small).forth z.0 y.1 z.1 b₂ (later_inv _ _ r) in
      let b₃ : Octets z.1 = after y.1 (marks_fields x.0.split z.0) z.1 jm b₂ in
      let (gt, jt) = (totals_codec x.0.totals z.0).forth w.0 z.1 w.1 b₃ (later_inv _ _ t) in
      let e : w.1 ≡ [] = nil_of_length w.1 (eqb→eq _ _ n) in
      subst (Stepped bs) (ok_inj h₅)
      (record {
        good = record { edition = ge; offset = go; marks = gm };
        is = je ∙ ap (λ l. field_bytes 1 (x.0.byte ∷ []) ++ l)
            (jo ∙ ap (λ l. field_bytes 2 (bytes4 (offset_code y.0)) ++ l)
            (jm ∙ ap (λ l. marks_fields x.0.split z.0 ++ l)
            (jt ∙ ap (λ l. totals_fields x.0.totals z.0 ++ l) e ∙ append-nil (totals_fields x.0.totals z.0))));
      })

  pub sheet_forth : (bs : List ℕ) (s : Sheet) → Octets bs → read_sheet f bs ≡ ok s → Came bs s
  sheet_forth bs s b h = let c : Stepped bs s = steps_forth bs s b (sym (read_is f bs) ∙ h) in record { good = c.good; is = c.is ∙ sym (bytes_are s) }
