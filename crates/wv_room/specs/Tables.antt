-- The sizes that the tables behind a method's code can have.
use Rattle.std.specs.Prelude.{◌≡◌, ℕ, suc, ◌+◌, ◌*◌, ◌/◌, ◌%◌, ◌^◌, ◌<◌, ◌≤◌}

-- So many bytes, attributes, tables of attributes and tables of exception ranges can fill exactly the last number
-- of bytes: an attribute is six bytes and a content of any size, since its name needn't be a known one; a range
-- is eight bytes (JVM Specification 4.7 and 4.7.3).
pub data TablesFill : (bytes attributes attribute_tables range_tables : ℕ) → ℕ → Type 0 where
  bytes : {b : ℕ} → TablesFill b 0 0 0 b
  attribute : {b a t r n : ℕ} (k : ℕ) → k < 2 ^ 32 → TablesFill (b + 6 + k) a t r n → TablesFill b (suc a) t r n
  attributes : {b a t r n : ℕ} (k : ℕ) → k < 65536 → TablesFill (b + 2) (k + a) t r n → TablesFill b a (suc t) r n
  ranges : {b a t r n : ℕ} (k : ℕ) → k < 65536 → TablesFill (b + 2 + 8 * k) a t r n → TablesFill b a t (suc r) n

-- The items can take so many bytes more than in their least forms, which are 6, 2 and 2 bytes.
pub record TablesTake (a t r more : ℕ) : Type 0 where
  -- an attribute in a table is six bytes or more
  pub gap : a ≡ 0 → 1 ≤ more → 6 ≤ more
  pub eights : a + t ≡ 0 → more % 8 ≡ 0
  pub most : a + t ≡ 0 → more / 8 ≤ 65535 * r
