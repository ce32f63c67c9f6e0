-- Tables of parameters: a count and lists.
use Rattle.std.proofs.Common.{◌≡◌, ℕ, ◌+◌, ◌-◌, ◌^◌, ◌<◌, ◌≤◌, List, [], ◌∷◌, length, get_or, take, drop, refl, sym, subst, ap, ◌∙◌, arith}
use Rattle.std.proofs.lemmas.List.{take_all}
use Rattle.wv_room.specs.Counts.{ElementsFillRoom}
use Rattle.wv_attr.specs.declared.mark.Mark.{Mark}
use Rattle.wv_attr.specs.Groups.{pending}
use Rattle.wv_attr.specs.Layout.{lists, Begins, IsLayoutFault, IsParameterTable, BreaksFirst, BreaksBehind}
use Rattle.wv_attr.proofs.Filling.{follows_fill, filled}
use Rattle.wv_attr.proofs.Missing.{table_starts}

-- the bytes behind the first, as a pattern has them
abbrev pub behind_one : List ℕ → List ℕ
behind_one bytes = take (length bytes - 1) (drop 1 bytes)

pub same_rest : (b : ℕ) (w : List ℕ) → behind_one (b ∷ w) ≡ w
same_rest b w = take_all (length (b ∷ w) - 1) w (omega arith)

abbrev Fills : ℕ → ℕ → Type 0
Fills count room = ElementsFillRoom (pending (lists count)) room

head_is : (a b : ℕ) (x y : List ℕ) → a ∷ x ≡ b ∷ y → a ≡ b
head_is a b x y e = cc

tail_is : (a b : ℕ) (x y : List ℕ) → a ∷ x ≡ b ∷ y → x ≡ y
tail_is a b x y e = cc

pub breaks_first : (bytes : List ℕ) (missing : ℕ) → 1 ≤ length bytes → (Fills (get_or bytes 0 0) (length (behind_one bytes) + missing) → ⊥) → BreaksFirst bytes missing 0
breaks_first [] missing le none = absurd (omega arith)
breaks_first (b ∷ w) missing le none = record {
  first = refl;
  none = λ small count rest e begun.
      let fits = subst (λ (k : ℕ). Fills count k) begun.long (follows_fill begun.follows) in
      none (subst (λ (t : List ℕ). Fills b (length t + missing)) (sym (tail_is b count w rest e) ∙ sym (same_rest b w)) (subst (λ (k : ℕ). Fills k (length rest + missing)) (sym (head_is b count w rest e)) fits));
}

pub no_lists : (bytes : List ℕ) (missing : ℕ) → 1 ≤ length bytes → (Fills (get_or bytes 0 0) (length (behind_one bytes) + missing) → ⊥) → missing ≡ 0 → (parts : List Mark) → IsParameterTable bytes parts → ⊥
no_lists bytes missing le none whole parts t =
    let first = breaks_first bytes missing le none in
    let small = t.small in
    first.none (omega arith) t.count t.rest t.starts (subst (λ (k : ℕ). Begins (lists t.count) t.rest k 0) (sym whole) (table_starts (lists t.count) t.rest parts 0 (omega arith) t.table))

pub breaks_behind : (bytes : List ℕ) (missing place : ℕ) → 1 ≤ length bytes → length bytes + missing < 2 ^ 32 → Fills (get_or bytes 0 0) (length (behind_one bytes) + missing)
    → IsLayoutFault (lists (get_or bytes 0 0)) (behind_one bytes) missing place → BreaksBehind bytes missing (place + 1)
breaks_behind [] missing place le small fits f = absurd (omega arith)
breaks_behind (b ∷ w) missing place le small fits f =
    let rest = behind_one (b ∷ w) in
    let some = filled (lists b) (length rest + missing) fits in
    record {
      count = b;
      rest = rest;
      place = place;
      starts = ap (λ (t : List ℕ). b ∷ t) (sym (same_rest b w));
      later = refl;
      begins = record { parts = some.parts; small = omega (arith, ap length (same_rest b w)); follows = some.follows; long = some.long; agrees = refl };
      fault = f;
    }

-- what is too long
pub too_long_lists : (bytes : List ℕ) → (length bytes < 2 ^ 32 → ⊥) → BreaksFirst bytes 0 0
too_long_lists bytes long = record { first = refl; none = λ small count rest e begun. absurd (long (omega arith)) }
