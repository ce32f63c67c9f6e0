-- The sizes that stack map frames can have.
use Rattle.std.specs.Prelude.{◌≡◌, ◌≢◌, ℕ, suc, ◌+◌, ◌*◌, ◌%◌, ◌<◌, ◌≤◌}

-- So many bytes, verification types, lists of them and frames can fill exactly the last number of bytes: an item
-- is one of its forms in JVM Specification 4.7.4, in which a list of k types is its count and k times a type.
pub data FramesFill : (bytes types lists frames : ℕ) → ℕ → Type 0 where
  bytes : {b : ℕ} → FramesFill b 0 0 0 b
  -- a type that is its tag, or one with a number behind it
  plain : {b t l f n : ℕ} → FramesFill (b + 1) t l f n → FramesFill b (suc t) l f n
  numbered : {b t l f n : ℕ} → FramesFill (b + 3) t l f n → FramesFill b (suc t) l f n
  list : {b t l f n : ℕ} (k : ℕ) → k < 65536 → FramesFill (b + 2) (k + t) l f n → FramesFill b t (suc l) f n
  same : {b t l f n : ℕ} → FramesFill (b + 1) t l f n → FramesFill b t l (suc f) n
  same_with_one : {b t l f n : ℕ} → FramesFill (b + 1) (suc t) l f n → FramesFill b t l (suc f) n
  extended_with_one : {b t l f n : ℕ} → FramesFill (b + 3) (suc t) l f n → FramesFill b t l (suc f) n
  -- a chop frame, or a same frame with an offset of its own
  chop : {b t l f n : ℕ} → FramesFill (b + 3) t l f n → FramesFill b t l (suc f) n
  append : {b t l f n : ℕ} (k : ℕ) → k < 4 → FramesFill (b + 3) (k + t) l f n → FramesFill b t l (suc f) n
  full : {b t l f n : ℕ} → FramesFill (b + 3) t (suc (suc l)) f n → FramesFill b t l (suc f) n

-- how many bytes more than in their least forms they take at most
abbrev pub most_more : (types lists frames : ℕ) → ℕ
most_more t l f = 2 * t + 196605 * l + 393216 * f

-- The items can take so many bytes more than in their least forms, which are 1, 2 and 1 bytes.
pub record FramesTake (t l f more : ℕ) : Type 0 where
  pub most : more ≤ most_more t l f
  pub gap : 1 ≤ l + f → more + 1 ≢ most_more t l f
  pub even : l + f ≡ 0 → more % 2 ≡ 0
