-- The words that the parameters of a method take.
use Rattle.std.proofs.Common.{◌≡◌, ◌↔◌, ℕ, ◌+◌, ◌≤◌, Bool, List, Some, sym, ap, ◌∙◌}
use Rattle.std.specs.Prelude.{IsTrue, if◌then◌else◌}
use Rattle.wv_base.specs.declared.class_file.PoolEntry.{PoolEntry}
use Rattle.wv_base.specs.Descriptor.{HasWords, parameter_words}
use Rattle.wv_base.proofs.MethodTypes.{method_cancel}
use Rattle.wv_pool.specs.References.{text_of, IsText}
use Rattle.wv_class.specs.declared.raw_class.RawMember.{RawMember}
use Rattle.wv_class.specs.Flags.{is_static}
use Rattle.wv_class.specs.Breaks.{IsNarrow}

one_count : (text : List ℕ) (a b : ℕ) → HasWords text a → HasWords text b → a ≡ b
one_count text a b (m, is, e, w) (n, js, f, v) = w ∙ ap parameter_words (method_cancel m n is js (sym e ∙ f)) ∙ sym v

pub narrow_is : (pool : List PoolEntry) (m : RawMember) (text : List ℕ) (words : ℕ) (r : Bool) → text_of pool m.descriptor ≡ Some text → HasWords text words → IsTrue r ↔ (words + (if is_static m.flags then 0 else 1) ≤ 255) → IsTrue r ↔ IsNarrow pool m
narrow_is pool m text words r is has h = ((λ t n there. let one : words ≡ n = one_count text words n has (rw is at there) in rw (← one) (h.0 t)), (λ narrow. h.1 (narrow words (rw is has))))
