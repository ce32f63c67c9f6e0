-- Of a list one is the first, and where all have a property none is the first without it.
use Rattle.std.proofs.Common.{◌≡◌, zero, suc, List, [], ◌∷◌, ◌++◌, All, subst, arith}
use Rattle.std.specs.List.{AllByRecursion}
use Rattle.wv_resolve.specs.Refusal.{IsFirst}

at-front : {A : Type 0} (Has : A → Type 0) (front after : List A) (x : A) → AllByRecursion Has (front ++ x ∷ after) → Has x
at-front Has [] after x h = h.0
at-front Has (y ∷ front) after x h = at-front Has front after x h.1

same-first : {A : Type 0} (Has : A → Type 0) (list front after front' after' : List A) (x x' : A) → list ≡ front ++ x ∷ after → list ≡ front' ++ x' ∷ after' → AllByRecursion Has front → AllByRecursion Has front' → (Has x → ⊥) → (Has x' → ⊥) → x ≡ x'
same-first Has list [] after [] after' x x' e e' h h' here here' = cc
same-first Has list [] after (k ∷ front') after' x x' e e' h h' here here' =
    let same : k ≡ x = cc in absurd (here (subst Has same h'.0))
same-first Has list (k ∷ front) after [] after' x x' e e' h h' here here' =
    let same : k ≡ x' = cc in absurd (here' (subst Has same h.0))
same-first Has [] (k ∷ front) after (k' ∷ front') after' x x' e e' h h' here here' = cc
same-first Has (z ∷ list) (k ∷ front) after (k' ∷ front') after' x x' e e' h h' here here' =
    let rest : list ≡ front ++ x ∷ after = cc in
    let rest' : list ≡ front' ++ x' ∷ after' = cc in
    same-first Has list front after front' after' x x' rest rest' h.1 h'.1 here here'

module _ {A : Type 0} (Before Here Here' : A → Type 0) (apart : (x : A) → Before x → Here x → ⊥) (apart' : (x : A) → Before x → Here' x → ⊥) where
  -- of one list one is the first
  pub one-first : (list : List A) (x x' : A) → IsFirst Before Here list x → IsFirst Before Here' list x' → x ≡ x'
  one-first list x x' h h' = same-first Before list h.front h.after h'.front h'.after x x' h.split h'.split h.before h'.before (λ b. apart x b h.here) (λ b. apart' x' b h'.here)

module _ {A : Type 0} (Before Here : A → Type 0) where
  -- where each has the property, none is the first without it
  pub none-first : ((x : A) → Before x → Here x → ⊥) → (list : List A) (x : A) → AllByRecursion Before list → IsFirst Before Here list x → ⊥
  none-first apart list x each h = apart x (at-front Before h.front h.after x (subst (AllByRecursion Before) h.split each)) h.here

pub each-all : {A : Type 0} (P : A → Type 0) (xs : List A) → AllByRecursion P xs → All P xs
each-all P [] h k d inside = absurd (omega arith)
each-all P (x ∷ xs) h zero d inside = h.0
each-all P (x ∷ xs) h (suc k) d inside = each-all P xs h.1 k d (omega arith)

pub all-each : {A : Type 0} (P : A → Type 0) (xs : List A) → All P xs → AllByRecursion P xs
all-each P [] h = tt
all-each P (x ∷ xs) h = (h 0 x (omega arith), all-each P xs (λ k d inside. h (suc k) d (omega arith)))
