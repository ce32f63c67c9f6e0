-- The places of what stands behind the pool.
use Rattle.std.proofs.Common.{◌≡◌, ℕ, ◌+◌, ◌*◌, ◌^◌, ◌<◌, ◌≤◌, List, length, take, Option, subst, inl, inr, ◌⊎◌, arith}
use Rattle.std.specs.List.{sum_by, AllByRecursion}
use Rattle.wv_base.specs.declared.class_file.PoolEntry.{PoolEntry}
use Rattle.wv_code.specs.Least.{IsLeastOf, lesser, Broken, Behind}
use Rattle.wv_code.proofs.LeastPlaces.{same, either}
use Rattle.wv_class.specs.declared.raw_class.RawRest.{RawRest}
use Rattle.wv_class.specs.Layout.{SpellsRest}
use Rattle.wv_class.specs.Breaks.{attribute_len, member_len, InList, InNumbers, NamesPlainClass, PartsBreak, FieldBreaks, MethodBreaks, fields_place, methods_place, attributes_place, RestBreaks}
use Rattle.wv_class.specs.Breaks as breaks
use Rattle.wv_class.specs.Checking.{IsSpelledAttribute, IsSpelledMember}
use Rattle.wv_class.proofs.Places.{list_behind}
use Rattle.wv_class.proofs.Lengths.{rest_spelled, table_each, members_each}

-- ---- each part is spelled, and each place is within the bytes

module _ (pool : List PoolEntry) (near : ℕ) (c : RawRest) (bytes : List ℕ) (h : SpellsRest pool near c bytes) where
  pub rest_fields : AllByRecursion (IsSpelledMember pool) c.fields
  rest_fields = members_each pool _ _ c.fields h.fields_are h.fields

  pub rest_methods : AllByRecursion (IsSpelledMember pool) c.methods
  rest_methods = members_each pool _ _ c.methods h.methods_are h.methods

  pub rest_attributes : AllByRecursion (IsSpelledAttribute pool) c.attributes
  rest_attributes = table_each pool _ _ c.attributes h.table h.attributes

  pub rest_within : attributes_place c ≤ length bytes
  rest_within = omega (arith, rest_spelled pool near c bytes h)

-- ---- the least of them

list_placed : {X : Type 0} (len : X → ℕ) (base place full : ℕ) (xs : List X) (P : ℕ → X → ℕ → Type 0) {o : Option ℕ} → full ≡ base + place → IsLeastOf (InList len full xs P) o → IsLeastOf (Behind base (InList len place xs P)) o
list_placed len base place full xs P {o = o} e h = list_behind len base place xs P (subst (λ (z : ℕ). IsLeastOf (InList len z xs P) o) e h)

module _ (pool : List PoolEntry) (c : RawRest) (base : ℕ) where
  abbrev FieldPlaces : ℕ → ℕ → Type 0
  FieldPlaces place = InList member_len place c.fields (λ k m. FieldBreaks pool c.class (take k c.fields) m)

  abbrev MethodPlaces : ℕ → ℕ → Type 0
  MethodPlaces place = InList member_len place c.methods (λ k m. MethodBreaks pool c.class (take k c.methods) m)

  abbrev AttributePlaces : ℕ → ℕ → Type 0
  AttributePlaces place = InList attribute_len place c.attributes (λ k a. Behind 6 (PartsBreak pool a.content))

  abbrev HeadPlaces : ℕ → Type 0
  HeadPlaces n = (Broken (NamesPlainClass pool c.class) (base + 2) n ⊎ Broken (NamesPlainClass pool c.superclass) (base + 4) n) ⊎ Behind base (InNumbers 8 c.interfaces (NamesPlainClass pool)) n

  abbrev RestPlaces : ℕ → Type 0
  RestPlaces n = (HeadPlaces n ⊎ Behind base (FieldPlaces (fields_place c)) n) ⊎ (Behind base (MethodPlaces (methods_place c)) n ⊎ Behind base (AttributePlaces (attributes_place c)) n)

  rest_to : (n : ℕ) → RestPlaces n → Behind base (RestBreaks pool c) n
  rest_to n (inl (inl (inl (inl k)))) = (2, breaks.class k.1, k.0)
  rest_to n (inl (inl (inl (inr k)))) = (4, breaks.superclass k.1, k.0)
  rest_to n (inl (inl (inr k))) = (k.0, breaks.interface k.1, k.2)
  rest_to n (inl (inr k)) = (k.0, breaks.field k.1, k.2)
  rest_to n (inr (inl k)) = (k.0, breaks.method k.1, k.2)
  rest_to n (inr (inr k)) = (k.0, breaks.attribute k.1, k.2)

  rest_from : (n at : ℕ) → RestBreaks pool c at → n ≡ base + at → RestPlaces n
  rest_from n at (breaks.class h) e = inl (inl (inl (inl (e, h))))
  rest_from n at (breaks.superclass h) e = inl (inl (inl (inr (e, h))))
  rest_from n at (breaks.interface h) e = inl (inl (inr (at, h, e)))
  rest_from n at (breaks.field h) e = inl (inr (at, h, e))
  rest_from n at (breaks.method h) e = inr (inl (at, h, e))
  rest_from n at (breaks.attribute h) e = inr (inr (at, h, e))

  pub head_least : {a b d v o : Option ℕ} → o ≡ lesser v d → v ≡ lesser a b → IsLeastOf (Broken (NamesPlainClass pool c.class) (base + 2)) a → IsLeastOf (Broken (NamesPlainClass pool c.superclass) (base + 4)) b
      → IsLeastOf (InNumbers (base + 8) c.interfaces (NamesPlainClass pool)) d → IsLeastOf HeadPlaces o
  head_least e f h k l = either e (either f h k) (list_behind (λ _. 2) base 8 c.interfaces (λ k number. Broken (NamesPlainClass pool number) 0) l)

  pub rest_least : (fields_at methods_at attributes_at : ℕ) {h e f g x y o : Option ℕ} → fields_at ≡ base + fields_place c → methods_at ≡ base + methods_place c → attributes_at ≡ base + attributes_place c → o ≡ lesser x y → x ≡ lesser h e → y ≡ lesser f g
      → IsLeastOf HeadPlaces h → IsLeastOf (FieldPlaces fields_at) e → IsLeastOf (MethodPlaces methods_at) f → IsLeastOf (AttributePlaces attributes_at) g → IsLeastOf (Behind base (RestBreaks pool c)) o
  rest_least fields_at methods_at attributes_at at_fields at_methods at_attributes o_is x_is y_is head field method attribute =
      same rest_to (λ n b. rest_from n b.0 b.1 b.2)
      (either o_is (either x_is head (list_placed member_len base (fields_place c) fields_at c.fields (λ k m. FieldBreaks pool c.class (take k c.fields) m) at_fields field))
      (either y_is (list_placed member_len base (methods_place c) methods_at c.methods (λ k m. MethodBreaks pool c.class (take k c.methods) m) at_methods method)
      (list_placed attribute_len base (attributes_place c) attributes_at c.attributes (λ k a. Behind 6 (PartsBreak pool a.content)) at_attributes attribute)))
