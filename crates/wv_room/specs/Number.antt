-- Numbers of several bytes, of which not every value is allowed.
use Rattle.std.specs.Prelude.{◌≡◌, ℕ, ◌+◌, ◌*◌, ◌^◌, ◌<◌, ◌≤◌, List, [], ◌∷◌, ◌++◌, length, take, ◌⊎◌}
use Rattle.std.specs.List.{AllByRecursion}

-- the number that the bytes spell, the most significant first (JVM Specification 4)
abbrev pub number_of : List ℕ → ℕ
number_of [] = 0
number_of (b ∷ bs) = b * 256 ^ length bs + number_of bs

-- the bytes of the number, so many, begin with these
pub record BeginsWith (width : ℕ) (front : List ℕ) (n : ℕ) : Type 0 where
  pub rest : List ℕ
  pub bytes : AllByRecursion (λ b. b < 256) rest
  pub wide : length front + length rest ≡ width
  pub spelled : n ≡ number_of (front ++ rest)

-- some number between these two is allowed
pub record AllowsSome (allows : ℕ → Type 0) (least most : ℕ) : Type 0 where
  pub value : ℕ
  pub low : least ≤ value
  pub high : value ≤ most
  pub allowed : allows value

-- No allowed number begins with the bytes up to and with the one at the place, or the bytes end there; and some
-- allowed number begins with those before it, if there are any.
pub record IsFirstFault (allows : ℕ → Type 0) (width : ℕ) (bytes : List ℕ) (place : ℕ) : Type 0 where
  pub within : place < width
  pub read : place ≤ length bytes
  pub begun : 0 < place → (n : ℕ) × allows n × BeginsWith width (take place bytes) n
  pub stopped : (length bytes ≡ place) ⊎ ((n : ℕ) → allows n → BeginsWith width (take (place + 1) bytes) n → ⊥)
