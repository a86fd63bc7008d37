-- Numbers in octets: one, several end to end, several chained by FX bits (document 01, "Block, record, item"). Items, FSPECs and the primary
-- octets of compound items are made of them. Assumes nothing.
use Rattle.std.specs.Prelude.{ℕ, zero, suc, ◌+◌, ◌*◌, ◌/◌, ◌%◌, ◌^◌, List, [], ◌∷◌, ◌++◌, leb, ltb, eqb, length, take, drop}
use Rattle.rules.specs.Answer.{ok, refused, ◌>>=◌, need◌or◌then◌, when◌then◌else◌, Read, Write}

-- k octets, high octet first
unfoldable pub octets : ℕ → ℕ → List ℕ
octets zero n = []
octets (suc k) n = n / 256 ^ k ∷ octets k (n % 256 ^ k)

unfoldable pub joined : List ℕ → ℕ
joined [] = 0
joined (b ∷ bs) = b * 256 ^ length bs + joined bs

-- a number of k octets; `cut` is the refusal where they are not there
unfoldable pub write_num : ℕ → Write ℕ
write_num k n = need ltb n (256 ^ k) or 11 then ok (octets k n)

unfoldable pub read_num : ℕ → ℕ → Read ℕ
read_num cut k bs = need leb k (length bs) or cut then ok (joined (take k bs), drop k bs)

-- parts of k octets, end to end
unfoldable pub write_many : ℕ → Write (List ℕ)
write_many k [] = ok []
write_many k (n ∷ ns) = do
  b ← write_num k n
  bs ← write_many k ns
  ok (b ++ bs)

unfoldable pub read_many : ℕ → ℕ → Read (List ℕ)
read_many k zero bs = ok ([], bs)
read_many k (suc c) bs = do
  (n, bs₁) ← read_num 9 k bs
  (ns, bs₂) ← read_many k c bs₁
  ok (n ∷ ns, bs₂)

-- parts of the sizes given, the lowest bit of each (FX) saying whether another follows;
-- `cut` is the refusal where one is not there, `past` where FX asks for more than may be
unfoldable pub write_chain : List ℕ → Write (List ℕ)
write_chain [] ns = refused 11 0
write_chain (k ∷ ks) [] = refused 11 0
write_chain (k ∷ ks) (n ∷ []) = write_num k (n * 2)
write_chain (k ∷ ks) (n ∷ (m ∷ ns)) = do
  b ← write_num k (n * 2 + 1)
  bs ← write_chain ks (m ∷ ns)
  ok (b ++ bs)

unfoldable pub read_chain : ℕ → ℕ → List ℕ → Read (List ℕ)
read_chain cut past [] bs = refused past 0
read_chain cut past (k ∷ ks) bs = do
  (n, bs₁) ← read_num cut k bs
  when eqb (n % 2) 0
      then ok (n / 2 ∷ [], bs₁)
      else do
        (ns, bs₂) ← read_chain cut past ks bs₁
        ok (n / 2 ∷ ns, bs₂)

-- lists end to end
abbrev pub flatten : {A : Type 0} → List (List A) → List A
flatten [] = []
flatten (r ∷ rs) = r ++ flatten rs
