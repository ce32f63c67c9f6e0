-- What is read of bytes is one class file or one first fault.
use Rattle.std.proofs.Common.{◌≡◌, ℕ, zero, suc, ◌+◌, ◌-◌, ◌<◌, ◌≤◌, List, [], ◌∷◌, ◌++◌, length, take, refl, ap, subst, append_assoc, arith}
use Rattle.wv_base.specs.declared.class_file.ClassFile.{ClassFile}
use Rattle.wv_pool.specs.Entries.{pool_bytes}
use Rattle.wv_class.specs.declared.raw_class.RawClass.{RawClass}
use Rattle.wv_class.specs.Layout.{Begins, SpellsClass, IsClass, IsLayoutFault}
use Rattle.wv_class.specs.Breaks.{Breaks, FirstBreak}
use Rattle.wv_class.specs.Meaning.{Spells, IsReferenceFault}
use Rattle.wv_class.proofs.ClassFiles.{one_layout}
use Rattle.wv_class.proofs.ClassTexts.{rest_grammar}

pub one_raw : (bytes : List ℕ) (c d : RawClass) → IsClass c bytes → IsClass d bytes → c ≡ d
one_raw bytes c d one other = one_layout c d bytes one other

-- ---- layouts

-- where fewer bytes are looked at, a class file stays one
nearer : (m n : ℕ) (c : RawClass) (bytes : List ℕ) → m ≤ n → SpellsClass n c bytes → SpellsClass m c bytes
nearer m n c bytes le s = record {
  minor = s.minor;
  major = s.major;
  pool = s.pool;
  rest = s.rest;
  rest_is = (rest_grammar c.pool).less (m - 8 - length (pool_bytes c.pool)) (n - 8 - length (pool_bytes c.pool)) c.rest s.rest (omega (arith, le)) s.rest_is;
  spelled = s.spelled;
}

-- a shorter front, and what is between it and a longer one
between : (a b : ℕ) (xs : List ℕ) → a ≤ b → (more : List ℕ) × (take b xs ≡ take a xs ++ more)
between zero b xs le = (take b xs, refl)
between (suc a) zero xs le = absurd (omega (arith, le))
between (suc a) (suc b) [] le = ([], refl)
between (suc a) (suc b) (x ∷ xs) le = let r = between a b xs (omega (arith, le)) in (r.0, ap (λ (z : List ℕ). x ∷ z) r.1)

front_begins : (front more : List ℕ) → Begins SpellsClass (front ++ more) → Begins SpellsClass front
front_begins front more b = record {
  value = b.value;
  more = more ++ b.more;
  spelled =
      let s = subst (SpellsClass (length (front ++ more)) b.value) (append_assoc front more b.more) b.spelled in
      nearer (length front) (length (front ++ more)) b.value (front ++ (more ++ b.more)) (shorter front more) s;
}
  where
    shorter : (xs ys : List ℕ) → length xs ≤ length (xs ++ ys)
    shorter [] ys = omega arith
    shorter (x ∷ xs) ys = let r = shorter xs ys in omega (arith, r)

never_before : (bytes : List ℕ) (a b : ℕ) → IsLayoutFault bytes a → IsLayoutFault bytes b → a < b → ⊥
never_before bytes a b one other lt =
    let parts = between (a + 1) b bytes (omega (arith, lt)) in
    let within = other.within in
    one.none (omega (arith, lt, within)) (front_begins (take (a + 1) bytes) parts.0 (subst (Begins SpellsClass) parts.1 other.begun))

same_unless : (a b : ℕ) → (a < b → ⊥) → (b < a → ⊥) → a ≡ b
same_unless zero zero f g = refl
same_unless zero (suc b) f g = absurd (f (omega arith))
same_unless (suc a) zero f g = absurd (g (omega arith))
same_unless (suc a) (suc b) f g = ap suc (same_unless a b (λ lt. f (omega (arith, lt))) (λ lt. g (omega (arith, lt))))

pub one_layout_fault : (bytes : List ℕ) (a b : ℕ) → IsLayoutFault bytes a → IsLayoutFault bytes b → a ≡ b
one_layout_fault bytes a b one other = same_unless a b (never_before bytes a b one other) (never_before bytes b a other one)

-- ---- references

at_least : (c : RawClass) (a b : ℕ) → FirstBreak c a → Breaks c b → a ≤ b
at_least c a b one other = one.least b other

pub one_reference_fault : (bytes : List ℕ) (a b : ℕ) → IsReferenceFault bytes a → IsReferenceFault bytes b → a ≡ b
one_reference_fault bytes a b one other =
    let there : FirstBreak one.raw b = subst (λ (c : RawClass). FirstBreak c b) (one_raw bytes other.raw one.raw other.layout one.layout) other.breaks in
    let low = at_least one.raw a b one.breaks there.holds in
    let high = at_least one.raw b a there one.breaks.holds in
    omega (arith, low, high)

pub never_both_faults : (bytes : List ℕ) (a b : ℕ) → IsLayoutFault bytes a → IsReferenceFault bytes b → ⊥
never_both_faults bytes a b one other = one.no_class other.raw other.layout

pub class_is_sound : (bytes : List ℕ) (c : ClassFile) (at : ℕ) → Spells bytes c → IsReferenceFault bytes at → ⊥
class_is_sound bytes c at s fault = s.sound at (subst (λ (r : RawClass). Breaks r at) (one_raw bytes fault.raw s.raw fault.layout s.layout) fault.breaks.holds)
