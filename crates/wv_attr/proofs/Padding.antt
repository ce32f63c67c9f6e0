-- Bytes, and zeros behind them.
use Rattle.std.proofs.Common.{◌≡◌, ℕ, zero, suc, ◌+◌, ◌-◌, ◌≤◌, List, [], ◌∷◌, ◌++◌, length, get_or, take, drop, refl, sym, ap, ◌∙◌, append_assoc, ◌<◌, ◌⊎◌, inl, inr, arith}
use Rattle.std.proofs.lemmas.List.{length-append, append-nil, length-drop, length-take-le, take_all}
use Rattle.std.proofs.Math.Seq.{take-append-add}
use Rattle.wv_attr.specs.Steps.{zeros, padded}

pub length-zeros : (n : ℕ) → length (zeros n) ≡ n
unfolding zeros
length-zeros zero = refl
length-zeros (suc n) = omega (arith, length-zeros n)

pub zeros-append : (m n : ℕ) → zeros m ++ zeros n ≡ zeros (m + n)
unfolding zeros
zeros-append zero n = ap zeros (omega arith)
zeros-append (suc m) n = ap (λ (t : List ℕ). 0 ∷ t) (zeros-append m n) ∙ (let same : suc m + n ≡ suc (m + n) = omega arith in ap zeros (sym same))

pub length-padded : (bytes : List ℕ) (missing : ℕ) → length (padded bytes missing) ≡ length bytes + missing
length-padded bytes missing = omega (arith, length-append bytes (zeros missing), length-zeros missing)

pub padded-none : (bytes : List ℕ) (missing : ℕ) → missing ≡ 0 → padded bytes missing ≡ bytes
unfolding zeros
padded-none bytes missing e = ap (λ (k : ℕ). bytes ++ zeros k) e ∙ append-nil bytes

pub drop-padded : (at : ℕ) (bytes : List ℕ) (missing : ℕ) → at ≤ length bytes → drop at (padded bytes missing) ≡ padded (drop at bytes) missing
drop-padded zero bytes missing le = refl
drop-padded (suc at) [] missing le = absurd (omega arith)
drop-padded (suc at) (b ∷ bytes) missing le = drop-padded at bytes missing (omega arith)

-- some of the missing bytes beside those that are there
pub padded-more : (bytes : List ℕ) (some missing : ℕ) → some ≤ missing → padded (bytes ++ zeros some) (missing - some) ≡ padded bytes missing
padded-more bytes some missing le =
    let all : some + (missing - some) ≡ missing = omega arith in
    append_assoc bytes (zeros some) (zeros (missing - some)) ∙ ap (λ (t : List ℕ). bytes ++ t) (zeros-append some (missing - some) ∙ ap zeros all)

pub padded_cons : (bytes : List ℕ) (missing : ℕ) → 1 ≤ length bytes → padded bytes missing ≡ get_or bytes 0 0 ∷ padded (take (length bytes - 1) (drop 1 bytes)) missing
padded_cons [] missing le = absurd (omega arith)
padded_cons (b ∷ bytes) missing le = ap (λ (t : List ℕ). b ∷ padded t missing) (sym (take_all (length (b ∷ bytes) - 1) bytes (omega arith)))

-- the room behind so many of the bytes
pub room_after : (k : ℕ) (bytes : List ℕ) (missing : ℕ) → k ≤ length bytes → length (padded bytes missing) - k ≡ length (take (length bytes - k) (drop k bytes)) + missing
room_after k bytes missing le =
    let rest = length-drop k bytes in
    let taken = length-take-le (length bytes - k) (drop k bytes) (omega arith) in
    omega (arith, length-padded bytes missing, rest, taken)

-- where few are there, none is missing
pub none_more : (there missing k : ℕ) → (4 ≤ there) ⊎ (missing ≡ 0) → there < k → k ≤ 4 → there + missing < k
none_more there missing k (inl le) lt small = absurd (omega arith)
none_more there missing k (inr e) lt small = omega arith

pub least_there : (there missing k : ℕ) → (5 ≤ there) ⊎ (missing ≡ 0) → k ≤ there + missing → k ≤ 5 → k ≤ there
least_there there missing k (inl le) long small = omega arith
least_there there missing k (inr e) long small = omega arith

-- ---- five bytes

drop-zeros : (n m : ℕ) → drop n (zeros m) ≡ zeros (m - n)
unfolding zeros
drop-zeros zero m = ap zeros (omega arith)
drop-zeros (suc n) zero = let none : 0 - suc n ≡ 0 = omega arith in ap zeros (sym none)
drop-zeros (suc n) (suc m) = let same : suc m - suc n ≡ m - n = omega arith in drop-zeros n m ∙ ap zeros (sym same)

take-zeros : (k m : ℕ) → k ≤ m → take k (zeros m) ≡ zeros k
unfolding zeros
take-zeros zero m le = refl
take-zeros (suc k) zero le = absurd (omega arith)
take-zeros (suc k) (suc m) le = ap (λ (t : List ℕ). 0 ∷ t) (take-zeros k m (omega arith))

five : 0 ∷ 0 ∷ 0 ∷ 0 ∷ 0 ∷ [] ≡ zeros 5
unfolding zeros
five = refl

-- bytes in front of five zeros, with so many of these
pub window_is : (bytes : List ℕ) (k : ℕ) → length bytes + k ≤ 5 → take (length bytes + k) (bytes ++ drop (length bytes) (0 ∷ 0 ∷ 0 ∷ 0 ∷ 0 ∷ [])) ≡ bytes ++ zeros k
window_is bytes k le =
    take-append-add bytes (drop (length bytes) (0 ∷ 0 ∷ 0 ∷ 0 ∷ 0 ∷ [])) k
    ∙ ap (λ (t : List ℕ). bytes ++ take k (drop (length bytes) t)) five
    ∙ ap (λ (t : List ℕ). bytes ++ take k t) (drop-zeros (length bytes) 5)
    ∙ ap (λ (t : List ℕ). bytes ++ t) (take-zeros k (5 - length bytes) (omega arith))
