-- How many words the parameters of a method take.
use Rattle.std.proofs.Common.{◌≡◌, ℕ, ◌+◌, ◌≤◌, ◌↔◌, Bool, if◌then◌else◌, List, arith, rules, tests}
use Rattle.std.specs.Prelude.{IsTrue, nat_le}
use Rattle.wv_base.specs.Descriptor.{HasWords}
use Rattle.wv_code.proofs.Shapes.{words_same}

pub narrow : (static : Bool) (descriptor : List ℕ) (words most : ℕ) → HasWords descriptor words → most + (if static then 0 else 1) ≡ 255
    → IsTrue (nat_le words most) ↔ ((n : ℕ) → HasWords descriptor n → n + (if static then 0 else 1) ≤ 255)
narrow static descriptor words most has room =
    ((λ fits n other. omega (arith, below fits, words_same descriptor n words other has, room)), λ all. above (omega (arith, all words has, room)))
  where
    below : IsTrue (nat_le words most) → words ≤ most
    below fits = search (rules, tests)

    above : words ≤ most → IsTrue (nat_le words most)
    above le = search (rules, tests)
