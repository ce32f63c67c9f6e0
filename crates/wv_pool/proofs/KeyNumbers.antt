-- An index has one number for each key.
use Rattle.std.proofs.Common.{◌≡◌, ◌⊎◌, inl, inr, ℕ, zero, suc, ℤ, pos, negsuc, true, cond, List, ◌∷◌, Some, refl, sym, ap, ◌∙◌}
use Rattle.std.specs.Prelude.{◌==◌}
use Rattle.std.specs.Ordering.{nat_cmp, is_eq}
use Rattle.std.specs.Cmp.{Equal-is}
use Rattle.std.specs.Cmp.Lexicographic.{slice_cmp}
use Rattle.std.specs.FinMap.{nat_cmp-IsAntisymmetric, slice_cmp-IsAntisymmetric}
use Rattle.std.specs.BTreeMap.{BTreeMap, get, Updates}
use Rattle.std.proofs.lemmas.Bool.{cases_Bool}
use Rattle.wv_pool.specs.declared.key.Key.{Key}
use Rattle.wv_pool.specs.declared.key.Key.TheVariants as keys
use Rattle.wv_pool.specs.declared.index.Index.{Index}
use Rattle.wv_pool.specs.Keys.{words_of}
use Rattle.wv_pool.specs.Index.{list_cmp, number_in, Inserts}

same_list : (k q : List ℕ) → is_eq (list_cmp k q) ≡ true → q ≡ k
same_list k q e = sym (slice_cmp-IsAntisymmetric nat_cmp-IsAntisymmetric k q ((Equal-is (slice_cmp nat_cmp k q)).0 e))

-- the key of words
signed_of : ℕ → ℕ → ℤ
signed_of zero n = pos n
signed_of (suc k) n = negsuc n

key_of : List ℕ → Key
key_of (tag ∷ a ∷ b ∷ words) =
    cond (tag == 3) (keys.Integer (signed_of a b)) (cond (tag == 4) (keys.Float a) (cond (tag == 5) (keys.Long (signed_of a b)) (cond (tag == 6) (keys.Double a)
    (cond (tag == 7) (keys.Class a) (cond (tag == 8) (keys.String a) (cond (tag == 9) (keys.Field a b) (cond (tag == 10) (keys.Method a b) (cond (tag == 11) (keys.InterfaceMethod a b)
    (cond (tag == 12) (keys.NameAndType a b) (cond (tag == 15) (keys.MethodHandle a b) (cond (tag == 16) (keys.MethodType a) (keys.InvokeDynamic a b))))))))))))
key_of words = keys.Class 0

key_again : (k : Key) → ((x : List ℕ) → k ≡ keys.Utf8 x → ⊥) → key_of (words_of k) ≡ k
unfolding key_of signed_of
key_again (keys.Utf8 x) no_text = absurd (no_text x refl)
key_again (keys.Integer (pos n)) no_text = refl
key_again (keys.Integer (negsuc n)) no_text = refl
key_again (keys.Long (pos n)) no_text = refl
key_again (keys.Long (negsuc n)) no_text = refl
key_again (keys.Float b) no_text = refl
key_again (keys.Double b) no_text = refl
key_again (keys.Class n) no_text = refl
key_again (keys.String n) no_text = refl
key_again (keys.Field m n) no_text = refl
key_again (keys.Method m n) no_text = refl
key_again (keys.InterfaceMethod m n) no_text = refl
key_again (keys.NameAndType m n) no_text = refl
key_again (keys.MethodHandle m n) no_text = refl
key_again (keys.MethodType n) no_text = refl
key_again (keys.InvokeDynamic m n) no_text = refl

number_other : (index : Index) (k : Key) → ((x : List ℕ) → k ≡ keys.Utf8 x → ⊥) → number_in index k ≡ get list_cmp index.others (words_of k)
number_other index (keys.Utf8 x) no_text = absurd (no_text x refl)
number_other index (keys.Integer v) no_text = refl
number_other index (keys.Float b) no_text = refl
number_other index (keys.Long v) no_text = refl
number_other index (keys.Double b) no_text = refl
number_other index (keys.Class n) no_text = refl
number_other index (keys.String n) no_text = refl
number_other index (keys.Field m n) no_text = refl
number_other index (keys.Method m n) no_text = refl
number_other index (keys.InterfaceMethod m n) no_text = refl
number_other index (keys.NameAndType m n) no_text = refl
number_other index (keys.MethodHandle m n) no_text = refl
number_other index (keys.MethodType n) no_text = refl
number_other index (keys.InvokeDynamic m n) no_text = refl

is_other : (P : Key → Type 0) (k : Key) → ((x : List ℕ) → P (keys.Utf8 x)) → (((x : List ℕ) → k ≡ keys.Utf8 x → ⊥) → P k) → P k
is_other P (keys.Utf8 x) text other = text x
is_other P (keys.Integer v) text other = other (λ x e. absurd cc)
is_other P (keys.Float b) text other = other (λ x e. absurd cc)
is_other P (keys.Long v) text other = other (λ x e. absurd cc)
is_other P (keys.Double b) text other = other (λ x e. absurd cc)
is_other P (keys.Class n) text other = other (λ x e. absurd cc)
is_other P (keys.String n) text other = other (λ x e. absurd cc)
is_other P (keys.Field m n) text other = other (λ x e. absurd cc)
is_other P (keys.Method m n) text other = other (λ x e. absurd cc)
is_other P (keys.InterfaceMethod m n) text other = other (λ x e. absurd cc)
is_other P (keys.NameAndType m n) text other = other (λ x e. absurd cc)
is_other P (keys.MethodHandle m n) text other = other (λ x e. absurd cc)
is_other P (keys.MethodType n) text other = other (λ x e. absurd cc)
is_other P (keys.InvokeDynamic m n) text other = other (λ x e. absurd cc)

pub text_inserts : (old new : Index) (name : List ℕ) (n : ℕ) → new.others ≡ old.others → Updates list_cmp old.texts new.texts name (Some n) → Inserts (number_in old) (number_in new) (keys.Utf8 name) n
text_inserts old new name n same updates = record {
  here = updates.1;
  others = λ other. is_other (λ k. (k ≡ keys.Utf8 name) ⊎ (number_in new k ≡ number_in old k)) other
      (λ x. elim (cases_Bool (is_eq (list_cmp name x))) [ inl e ↦ inl (ap (λ (t : List ℕ). keys.Utf8 t) (same_list name x e)) | inr e ↦ inr (updates.2 x e) ])
      (λ no_text. inr (number_other new other no_text ∙ ap (λ (m : BTreeMap (List ℕ) ℕ). get list_cmp m (words_of other)) same ∙ sym (number_other old other no_text)));
}

pub other_inserts : (old new : Index) (key : Key) (n : ℕ) → ((x : List ℕ) → key ≡ keys.Utf8 x → ⊥) → new.texts ≡ old.texts → Updates list_cmp old.others new.others (words_of key) (Some n) → Inserts (number_in old) (number_in new) key n
other_inserts old new key n no_text same updates = record {
  here = number_other new key no_text ∙ updates.1;
  others = λ other. is_other (λ k. (k ≡ key) ⊎ (number_in new k ≡ number_in old k)) other
      (λ x. inr (ap (λ (m : BTreeMap (List ℕ) ℕ). get list_cmp m x) same))
      (λ no_other. elim (cases_Bool (is_eq (list_cmp (words_of key) (words_of other)))) [
        | inl e ↦ inl (sym (key_again other no_other) ∙ ap key_of (same_list (words_of key) (words_of other) e) ∙ key_again key no_text)
        | inr e ↦ inr (number_other new other no_other ∙ updates.2 (words_of other) e ∙ sym (number_other old other no_other))
      ]);
}
