-- What adding a record makes, as theorems about the rules: the block that the writing rules make of the old records and one more, whose octets are
-- the FSPEC of the set and the items as they were lent. Of any catalogue that passes the rules' computed test.
--
-- In order: a new record; the old block; the block then; a refusal. Assumes nothing.
use Prim.Native.Nat.{ℕ, ◌+◌, ◌-◌, ◌≤◌, ◌<◌}
use mathlib.Core.Path.{◌≡◌, refl, sym, ap, ap₂, ◌∙◌, subst}
use mathlib.Core.Bool.{Bool, true, false}
use mathlib.Core.Option.{some}
use mathlib.Core.List.{List, [], ◌∷◌, ◌++◌, append_assoc, append-nil}
use native.Mathlib.Omega.{arith}
use lib.Dec.{T, eqb, leb→le, ltb→lt, lt→ltb, eqb→eq}
use lib.ListN.{length, take, drop, length-append, length-drop}
use lib.Seq.{length-take-le, take_all, take_at, drop_at}
use Rattle.rules.specs.Answer.{Answer, ok, refused, ◌>>=◌, octets_of}
use Rattle.rules.specs.Chain.{octets, write_num}
use Rattle.rules.specs.Presence.{write_presence, write_places, set_flags}
use Rattle.rules.specs.Record.{Category, Record, judge, write_record, read_record}
use Rattle.rules.specs.Block.{Block, category_of, write_all, read_up_to, read_all, write_block, read_body}
use Rattle.rules.specs.Entry.{check_block, old_block, new_record, join_record, Added, added, refused_old, refused_new, in_new, in_old, add_record, leaves_added}
use Rattle.rules.proofs.AnswerLaws.{ok_inj, bind_in, bind_elim, need_in, need_elim, expect_in, later_inv, nil_of_length, octets_of-ok, Octets}
use Rattle.rules.proofs.ChainLaws.{octets_take, num_length}
use Rattle.rules.proofs.PresenceLaws.{rows_forth}
use Rattle.rules.proofs.RecordLaws.{place_laws, judge_same, record_laws, record_starts}
use Rattle.rules.proofs.BlockLaws.{all_back, all_forth, all_snoc, HeadCame, head_forth, single_back}
use Rattle.rules.proofs.Tables.{sound_tables, sound_of}
use Rattle.adding.proofs.SetLaws.{presence_writes}

-- ---- a new record

T-is : (t : Bool) → T t → t ≡ true
T-is true h = refl
T-is false h = absurd h

-- what the writing rule makes it of
pub record NewIs (c : Category) (fs items new : List ℕ) : Type 0 where
  pub value : Record
  pub writes : write_record c value ≡ ok new
  pub octets : new ≡ octets_of (write_presence c.profile (set_flags 1 c.profile fs)) ++ items

pub new_is : (cs : List Category) (tables : sound_tables cs ≡ true) (k : ℕ) (c : Category) (fs items new : List ℕ) → category_of k cs ≡ some c → Octets items
    → new_record c fs items ≡ ok new → NewIs c fs items new
unfolding new_record write_record write_places
new_is cs tables k c fs items new named o h =
    need_elim _ _ _ h λ t h₁.
    need_elim _ _ _ h₁ λ u h₂.
    bind_elim _ _ h₂ λ x p h₃.
    bind_elim _ _ h₃ λ s q h₄.
    bind_elim _ _ h₄ λ r g h₅.
    need_elim _ _ _ (later_inv _ _ q) λ z q₁.
    let (rows, flagged) = rows_forth place_laws c.profile (set_flags 1 c.profile fs) x.0 items x.1 o p in
    let (a, e) = presence_writes fs c.profile (sound_of cs tables k c named).octets (T-is _ u) (ltb→lt 0 (length fs) t) in
    let same : s ≡ x.0 = sym (ok_inj q₁) in
    let none_left : x.1 ≡ [] = nil_of_length x.1 (eqb→eq _ 0 z) in
    let all : rows.out ≡ items = sym (rows.joins ∙ ap (λ m. rows.out ++ m) none_left ∙ append-nil rows.out) in
    let joined : a ++ rows.out ≡ new = ap₂ ◌++◌ (sym (octets_of-ok e)) all ∙ ok_inj h₅ in
    record {
      value = x.0;
      writes = bind_in _ (ap (judge c) (sym same) ∙ g ∙ ap ok (sym (judge_same c s r g) ∙ same))
          (bind_in _ (ap (write_presence c.profile) flagged ∙ e) (bind_in _ rows.writes (ap ok joined)));
      octets = sym (ok_inj h₅);
    }

-- ---- the old block: its records, of which there may be none

pub record OldIs (cs : List Category) (old : List ℕ) (c : Category) : Type 0 where
  pub number : List ℕ
  pub number_is : write_num 1 c.cat ≡ ok number
  pub first : take 1 old ≡ number
  pub len : List ℕ
  pub len_is : write_num 2 (length old) ≡ ok len
  pub joins : number ++ (len ++ drop 3 old) ≡ old
  pub named : category_of c.cat cs ≡ some c
  pub records : List Record
  pub writes : write_all (write_record c) records ≡ ok (drop 3 old)
  pub three : 3 ≤ length old

pub old_is : (cs : List Category) (out : List ℕ) (used : ℕ) (c : Category) → Octets out → old_block cs out used ≡ ok c
    → (used ≤ length out) × OldIs cs (take used out) c
unfolding old_block read_body
old_is cs out used c o h =
    need_elim _ _ _ h λ l h₁.
    bind_elim _ _ h₁ λ x p h₂.
    bind_elim _ _ h₂ λ y q h₃.
    bind_elim _ _ q λ rs z q₁.
    let d : HeadCame eqb cs x.0 (take used out) x.1 = head_forth eqb cs x.0 (take used out) x.1 (octets_take used out o) p in
    let f : x.0.len ≡ length (take used out) = eqb→eq _ _ d.fitted in
    let ln : length d.number ≡ 1 = num_length 1 _ d.number d.number_is in
    let ll : length d.len ≡ 2 = num_length 2 _ d.len d.len_is in
    let body : take (x.0.len - 3) x.1 ≡ x.1 = take_all (x.0.len - 3) x.1 (omega (arith, d.left)) in
    let rest : drop 3 (take used out) ≡ x.1 =
    ap (drop 3) (d.joins ∙ sym (append_assoc d.number d.len x.1)) ∙ drop_at (d.number ++ d.len) x.1 3 (length-append d.number d.len ∙ ap₂ ◌+◌ ln ll) in
    let wrote : write_all (write_record x.0.category) rs ≡ ok x.1 =
    all_forth (record_laws x.0.category) (record_starts x.0.category) x.1 rs d.octets
    (ap (read_all (read_record x.0.category)) (sym body) ∙ later_inv _ _ z) in (
      leb→le _ _ l,
      subst (OldIs cs (take used out)) (ok_inj h₃)
          (record {
            number = d.number;
            number_is = d.number_is;
            first = ap (take 1) d.joins ∙ take_at d.number (d.len ++ x.1) 1 ln;
            len = d.len;
            len_is = ap (write_num 2) (sym f) ∙ d.len_is;
            joins = ap (λ m. d.number ++ (d.len ++ m)) rest ∙ sym d.joins;
            named = d.category;
            records = rs;
            writes = wrote ∙ ap ok (sym rest);
            three = omega (arith, d.left);
          }),
    )

-- ---- the block then

pub record AddedIs (cs : List Category) (out : List ℕ) (used : ℕ) (fs items bs : List ℕ) : Type 0 where
  pub category : Category
  -- the old records, and the new one
  pub old : List Record
  pub new : Record
  pub old_writes : write_all (write_record category) old ≡ ok (drop 3 (take used out))
  pub new_writes : write_record category new ≡ ok (octets_of (write_presence category.profile (set_flags 1 category.profile fs)) ++ items)
  -- the block that the writing rules make of them
  pub writes : write_block cs (record { cat = category.cat; records = old ++ (new ∷ []) }) ≡ ok bs
  -- it is accepted, with a record more
  pub accepted : check_block cs bs ≡ ok (length old + 1)
  -- and the old block was accepted with the old ones, if it had any
  pub before : 3 < used → check_block cs (take used out) ≡ ok (length old)
  pub none_before : used ≡ 3 → old ≡ []

-- octets that are there are of something, and none are of nothing
some_records : {A : Type 0} (w : A → Answer (List ℕ)) (vs : List A) (bs : List ℕ) → write_all w vs ≡ ok bs → 0 < length bs → 0 < length vs
unfolding write_all
some_records w [] bs h l = absurd (omega (arith, ap length (ok_inj h)))
some_records w (v ∷ vs) bs h l = omega arith

no_records : (c : Category) (rs : List Record) (bs : List ℕ) → write_all (write_record c) rs ≡ ok bs → length bs ≡ 0 → rs ≡ []
unfolding read_all read_up_to
no_records c rs bs h l = ok_inj (sym (all_back (record_laws c) (record_starts c) rs [] (h ∙ ap ok (nil_of_length bs l))) ∙ refl)

-- a block by its parts
block_writes : (cs : List Category) (c : Category) (rs : List Record) (body number len bs : List ℕ) → category_of c.cat cs ≡ some c
    → write_all (write_record c) rs ≡ ok body → 0 < length rs
    → write_num 1 c.cat ≡ ok number → write_num 2 (3 + length body) ≡ ok len → number ++ (len ++ body) ≡ bs → write_block cs (record { cat = c.cat; records = rs }) ≡ ok bs
unfolding write_block
block_writes cs c rs body number len bs named h l p q e =
    bind_in _ (expect_in 2 named) (bind_in _ h (need_in _ 4 (lt→ltb 0 (length rs) l) (bind_in _ p (bind_in _ q (ap ok e)))))

block_accepted : (cs : List Category) (b : Block) (bs : List ℕ) → write_block cs b ≡ ok bs → check_block cs bs ≡ ok (length b.records)
unfolding check_block
block_accepted cs b bs h = bind_in _ (single_back cs b bs h) refl

in_old_elim : {C : Type 0} (x : Answer Category) (f : Category → Added) {bs : List ℕ} → in_old x f ≡ added bs → ((c : Category) → x ≡ ok c → f c ≡ added bs → C) → C
in_old_elim (ok c) f h k = k c refl h
in_old_elim (refused n p) f h k = let z : ◌≡◌ {A = ℕ} 0 1 = cc in absurd (omega arith)

in_new_elim : {C : Type 0} (x : Answer (List ℕ)) {bs : List ℕ} → in_new x ≡ added bs → (x ≡ ok bs → C) → C
in_new_elim (ok us) h k = k (ap ok (cc))
in_new_elim (refused n p) h k = let z : ◌≡◌ {A = ℕ} 0 1 = cc in absurd (omega arith)

two_writes : (n : ℕ) → n ≤ 65_535 → write_num 2 n ≡ ok (octets 2 n)
unfolding write_num
two_writes n l = need_in _ 11 (lt→ltb n 65_536 (omega arith)) refl

pub added_is : (cs : List Category) (tables : sound_tables cs ≡ true) (out : List ℕ) (used : ℕ) (fs items bs : List ℕ) → Octets out → Octets items
    → add_record cs out used fs items ≡ added bs → AddedIs cs out used fs items bs
unfolding add_record join_record
added_is cs tables out used fs items bs o oi h =
    in_old_elim (old_block cs out used) _ h λ c p h₁.
    in_new_elim (new_record c fs items >>= join_record (length out) (take used out)) h₁ λ h₂.
    bind_elim (new_record c fs items) (join_record (length out) (take used out)) h₂ λ new q h₃.
    need_elim _ _ _ h₃ λ t h₄.
    need_elim _ _ _ h₄ λ u h₅.
    let (l, w) = old_is cs out used c o p in
    let n : NewIs c fs items new = new_is cs tables c.cat c fs items new w.named oi q in
    let ud : length (take used out) ≡ used = length-take-le used out l in
    let ld : length (drop 3 (take used out)) ≡ length (take used out) - 3 = length-drop 3 (take used out) in
    let lb : 3 + length (drop 3 (take used out) ++ new) ≡ length (take used out) + length new =
    ap (λ k. 3 + k) (length-append (drop 3 (take used out)) new) ∙ omega (arith, w.three) in
    let lr : length (w.records ++ (n.value ∷ [])) ≡ length w.records + 1 = length-append w.records (n.value ∷ []) in
    let all : write_all (write_record c) (w.records ++ (n.value ∷ [])) ≡ ok (drop 3 (take used out) ++ new) =
    all_snoc (write_record c) w.records n.value (drop 3 (take used out)) new w.writes n.writes in
    let joined : w.number ++ (octets 2 (length (take used out) + length new) ++ (drop 3 (take used out) ++ new)) ≡ bs =
    ap (λ m. m ++ (octets 2 (length (take used out) + length new) ++ (drop 3 (take used out) ++ new))) (sym w.first) ∙ ok_inj h₅ in
    let made : write_block cs (record { cat = c.cat; records = w.records ++ (n.value ∷ []) }) ≡ ok bs =
    block_writes cs c (w.records ++ (n.value ∷ [])) (drop 3 (take used out) ++ new) w.number (octets 2 (length (take used out) + length new)) bs w.named all
    (omega arith) w.number_is (ap (write_num 2) lb ∙ two_writes _ (leb→le _ _ t)) joined in
    record {
      category = c;
      old = w.records;
      new = n.value;
      old_writes = w.writes;
      new_writes = n.writes ∙ ap ok n.octets;
      writes = made;
      accepted = block_accepted cs _ bs made ∙ ap ok lr;
      before = λ m.
          block_accepted cs _ (take used out)
          (block_writes cs c w.records (drop 3 (take used out)) w.number w.len (take used out) w.named w.writes
          (some_records (write_record c) w.records (drop 3 (take used out)) w.writes (omega (arith, w.three))) w.number_is
          (ap (write_num 2) (omega (arith, w.three)) ∙ w.len_is) w.joins);
      none_before = λ m. no_records c w.records (drop 3 (take used out)) w.writes (omega arith);
    }

-- ---- a refusal leaves the output as it was

pub refused_old_leaves : (cs : List Category) (out : List ℕ) (used : ℕ) (fs items : List ℕ) (n p : ℕ) → add_record cs out used fs items ≡ refused_old n p
    → leaves_added (add_record cs out used fs items) out ≡ out
refused_old_leaves cs out used fs items n p h = ap (λ z. leaves_added z out) h

pub refused_new_leaves : (cs : List Category) (out : List ℕ) (used : ℕ) (fs items : List ℕ) (n p : ℕ) → add_record cs out used fs items ≡ refused_new n p
    → leaves_added (add_record cs out used fs items) out ≡ out
refused_new_leaves cs out used fs items n p h = ap (λ z. leaves_added z out) h
