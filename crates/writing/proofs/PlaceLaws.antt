-- One bit of a primary octet, by what the code found of its subfield: its size, and its octets laid.
--
-- In order: where its values stand; its size; its octets; any bit. Assumes nothing.
use Rattle.tables.specs.Tables.{kind_digit}
use Prim.Native.Nat.{ℕ, ◌+◌, ◌-◌, ◌*◌, ◌≤◌}
use mathlib.Core.Path.{◌≡◌, refl, sym, ap, ◌∙◌}
use mathlib.Core.Logic.{⊎_elim}
use mathlib.Core.Bool.{true, false, true≢false}
use mathlib.Core.List.{List, []}
use native.Mathlib.Omega.{arith}
use lib.IntN.{ℤ}
use lib.ListN.{length, take, drop, length-drop}
use lib.Seq.{sets}
use Rattle.std.specs.Prelude.{Some, None}
use Rattle.rules.specs.Answer.{ok, refused, ◌>>=◌}
use Rattle.rules.specs.Field.{arity}
use Rattle.rules.proofs.AnswerLaws.{refused_ok, ok_inj, bind_in, bind_out, bind_elim, if_true, if_false, if_inv}
use Rattle.tables.specs.Tables.{layout_at, format_is}
use Rattle.writing.specs.Write.{group_in, parts, Cut, cut_at, size_at, octets_at}
use Rattle.writing.specs.Compound.{spanned, span_from, Place, place_in, place_from, sized_place, place_size, place_of}
use Rattle.writing.proofs.RowLaws.{sized, size_refused}
use Rattle.writing.proofs.PlainLaws.{row_listed_lem, some_arity, cut_count}
use Rattle.writing.proofs.SpanLaws.{There, there}
use Rattle.writing.proofs.RunLaws.{Run, run}

-- ---- where its values stand

module _ (i : ℕ) (vs : List ℤ) (at : ℕ) (few : kind_digit (layout_at i).kind ≤ 2) {a e c : ℕ} (h : ok (spanned true a e c) ≡ span_from (format_is (layout_at i)) vs at) where
  t : There i vs at a e c
  t = there i vs at a e c few (sym h)

  pub span_inside : (a ≤ e) × (e ≤ length vs)
  span_inside = (omega (arith, t.end_is), t.inside)

  -- they make so many parts
  pub span_count : (x : Cut) → cut_at i (take (e - a) (drop a vs)) ≡ ok x → x.count ≡ c
  span_count x p =
      let n : e - a ≡ c * arity (group_in (layout_at i).first).fields = omega (arith, t.end_is) in
      let l : c * arity (group_in (layout_at i).first).fields ≤ length (drop a vs) = omega (arith, t.end_is, t.inside, length-drop a vs) in
      let q : cut_at i (take (c * arity (group_in (layout_at i).first).fields) (drop a vs)) ≡ ok x = ap (λ m. cut_at i (take m (drop a vs))) (sym n) ∙ p in
      ⊎_elim
      (λ (y, z).
      let r : Run (group_in (layout_at i).first).fields c 1 (drop a vs) = run (group_in (layout_at i).first).fields c 1 (drop a vs) (some_arity (group_in (layout_at i).first).fields (row_listed_lem i _ z.1)) (omega (arith, z.0)) l in
      cut_count i _ _ x r.us z.1 q r.parts ∙ r.count)
      (λ (y, z).
      let r : Run (group_in (layout_at i).first).fields c (layout_at i).most (drop a vs) = run (group_in (layout_at i).first).fields c (layout_at i).most (drop a vs) (some_arity (group_in (layout_at i).first).fields (row_listed_lem i _ z.1.1)) z.0 l in
      cut_count i _ _ x r.us z.1.1 q r.parts ∙ r.count)
      t.kind

-- ---- its size

module _ (i : ℕ) (vs : List ℤ) (at : ℕ) where
  pub place_no : {x y : ℕ} → refused x y ≡ span_from (format_is (layout_at i)) vs at → refused x y ≡ place_size i vs at
  unfolding place_size place_from
  place_no h = sym (bind_out _ (bind_out _ (sym h)))

  -- of the rule: what it gives where there is no subfield, and where there is one
  absent_is : {n : ℕ} → ok (spanned false n n 0) ≡ span_from (format_is (layout_at i)) vs at → place_from i vs at ≡ ok (record { there = false; octets = []; next = n })
  unfolding place_from place_in
  absent_is h = bind_in _ (sym h) (if_false _ refl refl)

  there_is : {a e c : ℕ} → ok (spanned true a e c) ≡ span_from (format_is (layout_at i)) vs at
      → place_from i vs at ≡ (cut_at i (take (e - a) (drop a vs)) >>= (λ x. ok (record { there = true; octets = x.octets; next = e })))
  unfolding place_from place_in
  there_is h = bind_in _ (sym h) (if_true _ refl refl)

  pub place_absent : {n : ℕ} → ok (spanned false n n 0) ≡ span_from (format_is (layout_at i)) vs at → ok (record { octets = None; next = n }) ≡ place_size i vs at
  unfolding place_size
  place_absent h = sym (bind_in _ (absent_is h) refl)

  pub place_unsized : {a e c x y : ℕ} → ok (spanned true a e c) ≡ span_from (format_is (layout_at i)) vs at → refused x y ≡ size_at i (take (e - a) (drop a vs)) → refused x y ≡ place_size i vs at
  unfolding place_size
  place_unsized {a} {e} h d = sym (bind_out _ (there_is h ∙ bind_out _ (size_refused i (take (e - a) (drop a vs)) d)))

  pub place_sized : {a e c k s : ℕ} → ok (spanned true a e c) ≡ span_from (format_is (layout_at i)) vs at → ok (parts k s) ≡ size_at i (take (e - a) (drop a vs))
      → ok (record { octets = Some s; next = e }) ≡ place_size i vs at
  unfolding place_size
  place_sized {a} {e} {c} {k} {s} h d =
      let (z, n) = sized i (take (e - a) (drop a vs)) k s (sym d) in
      ap (λ m. ok (record { octets = Some m; next = e })) n ∙ sym (bind_in _ (there_is h ∙ bind_in _ z.laid refl) refl)

  -- ---- its octets, where the rule passes

  module _ (ok-is : place_from i vs at ≡ ok (place_of (place_from i vs at))) where
    pub place_passes : {C : Type 0} {n p : ℕ} → refused n p ≡ span_from (format_is (layout_at i)) vs at → C
    unfolding place_from
    place_passes h = refused_ok (sym (bind_out _ (sym h)) ∙ ok-is)

    pub absent_of : {n : ℕ} → ok (spanned false n n 0) ≡ span_from (format_is (layout_at i)) vs at → place_of (place_from i vs at) ≡ record { there = false; octets = []; next = n }
    absent_of h = ok_inj (sym ok-is ∙ absent_is h)

    -- what laying it asks, and what was laid
    pub record Lays (a e c : ℕ) : Type 0 where
      pub sizes : size_at i (take (e - a) (drop a vs)) ≡ ok (parts c (length (octets_at i (take (e - a) (drop a vs)))))
      pub is : place_of (place_from i vs at) ≡ record { there = true; octets = octets_at i (take (e - a) (drop a vs)); next = e }

    pub lays : {a e c : ℕ} → kind_digit (layout_at i).kind ≤ 2 → ok (spanned true a e c) ≡ span_from (format_is (layout_at i)) vs at → Lays a e c
    unfolding size_at
    lays {a} {e} {c} few h =
        bind_elim _ _ (sym (there_is h) ∙ ok-is) λ x p h₁.
        let k : x.count ≡ c = span_count i vs at few h x p in
        let s : size_at i (take (e - a) (drop a vs)) ≡ ok (parts c (length x.octets)) = bind_in _ p (ap (λ m. ok (parts m (length x.octets))) k) in
        let (z, n) = sized i (take (e - a) (drop a vs)) c (length x.octets) s in
        let o : x.octets ≡ octets_at i (take (e - a) (drop a vs)) = ap (λ y. y.octets) (ok_inj (sym p ∙ z.laid)) in
        record {
          sizes = s ∙ ap (λ m. ok (parts c m)) n;
          is = sym (ok_inj h₁) ∙ ap (λ m. record { there = true; octets = m; next = e }) o;
        }

    pub absent_laid : {n : ℕ} (start : ℕ) (out : List ℕ) → ok (spanned false n n 0) ≡ span_from (format_is (layout_at i)) vs at
        → (out ≡ sets out start (place_of (place_from i vs at)).octets)
        × (record { octets = None; next = n } ≡ sized_place (place_of (place_from i vs at)))
    absent_laid start out h =
        let d = absent_of h in
        let z : (place_of (place_from i vs at)).octets ≡ [] = ap (λ x. x.octets) d in
        (sym (ap (sets out start) z), sym (ap sized_place d))

    pub there_laid : {a e c end : ℕ} (start : ℕ) (out : List ℕ) {out' : List ℕ} → kind_digit (layout_at i).kind ≤ 2 → ok (spanned true a e c) ≡ span_from (format_is (layout_at i)) vs at
        → out' ≡ sets out start (octets_at i (take (e - a) (drop a vs))) → end ≡ start + length (octets_at i (take (e - a) (drop a vs)))
        → (out' ≡ sets out start (place_of (place_from i vs at)).octets)
        × (record { octets = Some (end - start); next = e } ≡ sized_place (place_of (place_from i vs at)))
    there_laid {a} {e} {c} {end} start out few h d₁ d₂ =
        let d = (lays few h).is in
        let z = ap (λ x. x.octets) d in
        let l : end - start ≡ length (octets_at i (take (e - a) (drop a vs))) = omega (arith, d₂) in
        (d₁ ∙ ap (sets out start) (sym z), ap (λ m. record { octets = Some m; next = e }) l ∙ sym (ap sized_place d))

    pub there_fits : {a e c : ℕ} (start : ℕ) (out : List ℕ) → kind_digit (layout_at i).kind ≤ 2 → ok (spanned true a e c) ≡ span_from (format_is (layout_at i)) vs at
        → start + length (place_of (place_from i vs at)).octets ≤ length out → start + length (octets_at i (take (e - a) (drop a vs))) ≤ length out
    there_fits start out few h l = omega (arith, ap (λ x. length x.octets) (lays few h).is)

-- ---- of any bit: its octets are few, and none without a subfield

pub place_facts : (i : ℕ) (vs : List ℤ) (at : ℕ) (p : Place) → place_from i vs at ≡ ok p → (length p.octets ≤ 2_041) × (p.there ≡ false → p.octets ≡ [])
unfolding place_from place_in size_at
place_facts i vs at p h =
    bind_elim _ _ h λ s q h₁.
    ⊎_elim
    (λ (y, h₂).
    bind_elim _ _ h₂ λ x r h₃.
    let d : x.octets ≡ p.octets = ap (λ z. z.octets) (ok_inj h₃) in
    let (z, n) = sized i _ x.count (length x.octets) (bind_in _ r refl) in (
      omega (arith, z.short, ap length d),
      λ e. absurd (true≢false (ap (λ z. z.there) (ok_inj h₃) ∙ e)),
    ))
    (λ (y, h₂).
    let d : [] ≡ p.octets = ap (λ z. z.octets) (ok_inj h₂) in
    (omega (arith, ap length d), λ e. sym d))
    (if_inv _ _ _ h₁)
