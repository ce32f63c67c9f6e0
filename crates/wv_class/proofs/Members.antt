-- The places of fields and methods.
use Rattle.std.proofs.Common.{◌≡◌, ◌↔◌, ℕ, ◌+◌, Bool, true, false, List, take, Option, refl, sym, subst, arith, inl, inr, ◌⊎◌}
use Rattle.std.specs.Prelude.{IsTrue, not}
use Rattle.wv_base.specs.declared.class_file.PoolEntry.{PoolEntry}
use Rattle.wv_base.specs.Names.{is_unqualified, is_method_name}
use Rattle.wv_base.specs.Descriptor.{IsFieldDescriptor, IsMethodDescriptor}
use Rattle.wv_pool.specs.References.{IsText}
use Rattle.wv_code.specs.Least.{IsLeastOf, lesser, unless, Broken, Behind}
use Rattle.wv_code.proofs.LeastPlaces.{none_of, same, either}
use Rattle.wv_class.specs.declared.raw_class.RawMember.{RawMember}
use Rattle.wv_class.specs.Breaks.{attribute_len, AttributeBreaks, AttributesBreak, IsAgain, IsInitializer, HasItsCode, IsNarrow, FieldBreaks, MethodBreaks}
use Rattle.wv_class.specs.Breaks as breaks
use Rattle.wv_class.specs.Checking.{WholeBreaks}
use Rattle.wv_class.proofs.Places.{list_behind}

not_there : IsTrue false → ⊥
not_there e = absurd cc

module _ (pool : List PoolEntry) (class : ℕ) (before : List RawMember) (m : RawMember) (base : ℕ) where
  pub again_least : (again : Bool) {o : Option ℕ} → IsTrue again ↔ IsAgain pool before m → o ≡ unless (not again) base → IsLeastOf (λ n. (n ≡ base) × IsAgain pool before m) o
  again_least true there e = subst (IsLeastOf (λ n. (n ≡ base) × IsAgain pool before m)) (sym e) (record { holds = (refl, there.0 refl); least = λ n k. omega (arith, k.0) })
  again_least false there e = subst (IsLeastOf (λ n. (n ≡ base) × IsAgain pool before m)) (sym e) (none_of (λ n k. not_there (there.1 k.1)))

  attributes_behind : {o : Option ℕ} → IsLeastOf (AttributesBreak pool class m m.attributes (base + 8)) o → IsLeastOf (Behind base (AttributesBreak pool class m m.attributes 8)) o
  attributes_behind h = list_behind attribute_len base 8 m.attributes (λ k a. AttributeBreaks pool class m (take k m.attributes) a) h

  -- ---- a field

  abbrev FieldPlaces : ℕ → Type 0
  FieldPlaces n =
      ((n ≡ base) × IsAgain pool before m ⊎ Broken (IsText pool m.name (λ text. IsTrue (is_unqualified text))) (base + 2) n)
      ⊎ (Broken (IsText pool m.descriptor IsFieldDescriptor) (base + 4) n ⊎ Behind base (AttributesBreak pool class m m.attributes 8) n)

  field_to : (n : ℕ) → FieldPlaces n → Behind base (FieldBreaks pool class before m) n
  field_to n (inl (inl k)) = (0, breaks.again k.1, omega (arith, k.0))
  field_to n (inl (inr k)) = (2, breaks.name k.1, k.0)
  field_to n (inr (inl k)) = (4, breaks.descriptor k.1, k.0)
  field_to n (inr (inr k)) = (k.0, breaks.attributes k.1, k.2)

  field_from : (n at : ℕ) → FieldBreaks pool class before m at → n ≡ base + at → FieldPlaces n
  field_from n at (breaks.again h) e = inl (inl (omega (arith, e), h))
  field_from n at (breaks.name h) e = inl (inr (e, h))
  field_from n at (breaks.descriptor h) e = inr (inl (e, h))
  field_from n at (breaks.attributes h) e = inr (inr (at, h, e))

  pub field_least : (again : Bool) {a b c d x y o : Option ℕ} → IsTrue again ↔ IsAgain pool before m → o ≡ lesser x y → x ≡ lesser a b → y ≡ lesser c d → a ≡ unless (not again) base
      → IsLeastOf (Broken (IsText pool m.name (λ text. IsTrue (is_unqualified text))) (base + 2)) b → IsLeastOf (Broken (IsText pool m.descriptor IsFieldDescriptor) (base + 4)) c
      → IsLeastOf (AttributesBreak pool class m m.attributes (base + 8)) d → IsLeastOf (Behind base (FieldBreaks pool class before m)) o
  field_least again there e f g h k l q = same field_to (λ n b. field_from n b.0 b.1 b.2) (either e (either f (again_least again there h) k) (either g l (attributes_behind q)))

  -- ---- a method

  abbrev MethodPlaces : ℕ → Type 0
  MethodPlaces n =
      (WholeBreaks pool before m base n ⊎ Broken (IsText pool m.name (λ text. IsTrue (is_method_name text))) (base + 2) n)
      ⊎ (Broken (IsText pool m.descriptor IsMethodDescriptor) (base + 4) n ⊎ Behind base (AttributesBreak pool class m m.attributes 8) n)

  method_to : (n : ℕ) → MethodPlaces n → Behind base (MethodBreaks pool class before m) n
  method_to n (inl (inl (inl (inl k)))) = (0, breaks.again k.1, omega (arith, k.0))
  method_to n (inl (inl (inl (inr k)))) = (0, breaks.initializer k.1, omega (arith, k.0))
  method_to n (inl (inl (inr (inl k)))) = (0, breaks.code k.1, omega (arith, k.0))
  method_to n (inl (inl (inr (inr k)))) = (0, breaks.wide k.1, omega (arith, k.0))
  method_to n (inl (inr k)) = (2, breaks.name k.1, k.0)
  method_to n (inr (inl k)) = (4, breaks.descriptor k.1, k.0)
  method_to n (inr (inr k)) = (k.0, breaks.attributes k.1, k.2)

  method_from : (n at : ℕ) → MethodBreaks pool class before m at → n ≡ base + at → MethodPlaces n
  method_from n at (breaks.again h) e = inl (inl (inl (inl (omega (arith, e), h))))
  method_from n at (breaks.initializer h) e = inl (inl (inl (inr (omega (arith, e), h))))
  method_from n at (breaks.code h) e = inl (inl (inr (inl (omega (arith, e), h))))
  method_from n at (breaks.wide h) e = inl (inl (inr (inr (omega (arith, e), h))))
  method_from n at (breaks.name h) e = inl (inr (e, h))
  method_from n at (breaks.descriptor h) e = inr (inl (e, h))
  method_from n at (breaks.attributes h) e = inr (inr (at, h, e))

  pub whole_least : (again : Bool) {a b c d x y o : Option ℕ} → IsTrue again ↔ IsAgain pool before m → o ≡ lesser x y → x ≡ lesser a b → y ≡ lesser c d → a ≡ unless (not again) base → IsLeastOf (Broken (IsInitializer pool m) base) b
      → IsLeastOf (Broken (HasItsCode m) base) c → IsLeastOf (Broken (IsNarrow pool m) base) d → IsLeastOf (WholeBreaks pool before m base) o
  whole_least again there e f g h k l q = either e (either f (again_least again there h) k) (either g l q)

  pub method_least : {a b c d x y o : Option ℕ} → o ≡ lesser x y → x ≡ lesser a b → y ≡ lesser c d → IsLeastOf (WholeBreaks pool before m base) a
      → IsLeastOf (Broken (IsText pool m.name (λ text. IsTrue (is_method_name text))) (base + 2)) b → IsLeastOf (Broken (IsText pool m.descriptor IsMethodDescriptor) (base + 4)) c
      → IsLeastOf (AttributesBreak pool class m m.attributes (base + 8)) d → IsLeastOf (Behind base (MethodBreaks pool class before m)) o
  method_least e f g h k l q = same method_to (λ n b. method_from n b.0 b.1 b.2) (either e (either f h k) (either g l (attributes_behind q)))
