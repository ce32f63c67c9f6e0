-- The sizes that annotation elements can have.
use Rattle.std.specs.Prelude.{◌≡◌, ℕ, suc, ◌+◌, ◌*◌, ◌<◌, ◌≤◌}

-- So many bytes, values, annotations and parameters can fill exactly the last number of bytes: an item is
-- one of its forms in JVM Specification 4.7.16, in which a list of k items is its count and k times one item.
pub data ElementsFill : (bytes values annotations parameters : ℕ) → ℕ → Type 0 where
  bytes : {b : ℕ} → ElementsFill b 0 0 0 b
  -- a constant or a class
  constant : {b v a p n : ℕ} → ElementsFill (b + 3) v a p n → ElementsFill b (suc v) a p n
  enumerator : {b v a p n : ℕ} → ElementsFill (b + 5) v a p n → ElementsFill b (suc v) a p n
  nested : {b v a p n : ℕ} → ElementsFill (b + 1) v (suc a) p n → ElementsFill b (suc v) a p n
  array : {b v a p n : ℕ} (k : ℕ) → k < 65536 → ElementsFill (b + 3) (k + v) a p n → ElementsFill b (suc v) a p n
  -- each element pair is a name and a value
  annotation : {b v a p n : ℕ} (k : ℕ) → k < 65536 → ElementsFill (b + 4 + 2 * k) (k + v) a p n → ElementsFill b v (suc a) p n
  parameter : {b v a p n : ℕ} (k : ℕ) → k < 65536 → ElementsFill (b + 2) v (k + a) p n → ElementsFill b v a (suc p) n

-- The items can take so many bytes more than in their least forms, which are 3, 4 and 2 bytes. Sizes that are not
-- named here any item can take.
pub record Takes (v a p more : ℕ) : Type 0 where
  pub nothing : v + a + p ≡ 0 → more ≡ 0
  pub one : more ≡ 1 → ⊥
  pub two : more ≡ 2 → 1 ≤ v
  pub three : more ≡ 3 → 1 ≤ v
  pub four : more ≡ 4 → 2 ≤ v + 2 * p
  pub five : more ≡ 5 → 1 ≤ v + a
  pub six : more ≡ 6 → 1 ≤ v
  pub seven : more ≡ 7 → 1 ≤ v + a
  pub nine : more ≡ 9 → 1 ≤ v + p
  pub ten : more ≡ 10 → 1 ≤ v + a
