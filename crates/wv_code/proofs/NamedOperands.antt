-- What numbers of a sound pool name, by the entries; and where distances lead.
use Rattle.std.proofs.Common.{◌≡◌, ℕ, ◌+◌, ◌^◌, ◌<◌, ◌≤◌, ◌↔◌, ℤ, pos, negsuc, ◌+ℤ◌, Fits, Bool, true, false, List, length, get_or, Option, Some, None, refl, sym, ap, subst, ◌∙◌, arith, inl, inr, ◌⊎◌}
use Rattle.std.specs.Prelude.{slice_get, nat_eq, IsTrue, ◌≤ℤ◌, unsigned_abs}
use Rattle.std.specs.Option.{option_map, option_and_then}
use Rattle.std.specs.Int.{w32, FitsUnsigned}
use Rattle.std.proofs.lemmas.Int.{ints}
use Rattle.std.proofs.lemmas.Bool.{eqb-true, eq-eqb}
use Rattle.std.proofs.lemmas.Option.{none-some, slice_get-get_or, slice_get_within, get_or_from_slice_get}
use Rattle.wv_base.specs.declared.class_file.PoolEntry.{PoolEntry}
use Rattle.wv_base.specs.declared.class_file.PoolEntry.TheVariants as entries
use Rattle.wv_base.specs.declared.constant.Const.{Const}
use Rattle.wv_base.specs.declared.constant.Const.TheVariants as constants
use Rattle.wv_base.specs.declared.constant.MemberReference.{MemberReference}
use Rattle.wv_base.specs.Opcodes.{putfield, invokevirtual, invokestatic}
use Rattle.wv_base.specs.Descriptor.{HasWords, IsMethodDescriptor}
use Rattle.wv_pool.specs.References.{entry_of, text_of, IsPool}
use Rattle.wv_pool.specs.Constants.{class_name, both, named_pair, member, handle, constant_in, constant_of}
use Rattle.wv_pool.proofs.Behind.{some_is, map_some, field_entry, method_entry, interface_entry}
use Rattle.wv_pool.proofs.Putting.{member_some}
use Rattle.wv_pool.proofs.SoundPools.{constant_there, sound_at}
use Rattle.wv_code.specs.Formed.{loaded_words, LoadsWords}
use Rattle.wv_code.specs.Breaks.{Starts, Lands, Loads, Takes, TakesInterface, TakesSite}
use Rattle.wv_code.specs.Operands.{entry_words, EntryTaken, IsSite, IsCountOf}
use Rattle.wv_code.proofs.Shapes.{words_same}

-- ---- distances

pub lands_there : (offsets : List ℕ) (at to : ℕ) (distance : ℤ) → pos to ≡ pos at +ℤ distance → Starts offsets to ↔ Lands offsets at distance
lands_there offsets at to distance e = (
  (λ (s : Starts offsets to). (s.0, (within s.0 s.1, ap pos (get_or_from_slice_get offsets s.0 to 0 s.1) ∙ e))),
  (λ (l : Lands offsets at distance). (l.0, slice_get-get_or offsets l.0 0 l.1.0 ∙ ap (λ (z : ℕ). Some z) (same (get_or offsets l.0 0) (l.1.1 ∙ sym e)))),
)
  where
    within : (index : ℕ) → slice_get offsets index ≡ Some to → index < length offsets
    within index is = slice_get_within offsets index to is

    same : (a : ℕ) → pos a ≡ pos to → a ≡ to
    same a q = cc

abs_there : (z : ℤ) → pos 0 ≤ℤ z → pos (unsigned_abs z) ≡ z
abs_there (pos n) h = refl
abs_there (negsuc n) h = absurd (omega (arith, ints, h))

-- the sum, as it is computed
pub lands_some : (offsets : List ℕ) (at to : ℕ) (distance d : ℤ) → d ≡ distance → FitsUnsigned w32 (pos at +ℤ d) × (to ≡ unsigned_abs (pos at +ℤ d)) → Starts offsets to ↔ Lands offsets at distance
lands_some offsets at to distance d e h = lands_there offsets at to distance (ap pos h.1 ∙ abs_there (pos at +ℤ d) h.0.0 ∙ ap (λ (z : ℤ). pos at +ℤ z) e)

-- an offset has 32 bits
pub lands_none : (offsets : List ℕ) (at : ℕ) (distance d : ℤ) → d ≡ distance → ((k : ℕ) → Fits w32 (get_or offsets k 0)) → (FitsUnsigned w32 (pos at +ℤ d) → ⊥) → Lands offsets at distance → ⊥
lands_none offsets at distance d e small h l = h (subst (FitsUnsigned w32) (l.1.1 ∙ ap (λ (z : ℤ). pos at +ℤ z) (sym e)) (small_there (get_or offsets l.0 0) (small l.0)))
  where
    small_there : (n : ℕ) → Fits w32 n → FitsUnsigned w32 (pos n)
    small_there n f = let lt : n < 2 ^ 32 = omega (arith, f) in (omega (arith, ints), omega (arith, ints, lt))

-- ---- constants

at_entry : (pool : List PoolEntry) (number : ℕ) (e : PoolEntry) → entry_of pool number ≡ Some e → constant_of pool number ≡ constant_in pool e
at_entry pool number e is = ap (option_and_then (constant_in pool)) is

pub unnamed : (pool : List PoolEntry) (number : ℕ) (c : Const) → entry_of pool number ≡ None → constant_of pool number ≡ Some c → ⊥
unnamed pool number c none is = none-some c (sym (ap (option_and_then (constant_in pool)) none) ∙ is)

mapped_words : {A : Type 0} (f : A → Const) (o : Option A) (c : Const) (words : ℕ) → ((a : A) → loaded_words (f a) ≡ words) → option_map f o ≡ Some c → words ≡ loaded_words c
mapped_words f o c words h e = let m = map_some f o c e in sym (h m.0) ∙ ap loaded_words m.2

handle_words : (pool : List PoolEntry) (kind : ℕ) (o : Option PoolEntry) (c : Const) → handle pool kind o ≡ Some c → 1 ≡ loaded_words c
handle_words pool kind (Some (entries.Field m n)) c e = mapped_words (λ x. constants.MethodHandle kind x false) (member pool m n) c 1 (λ _. refl) e
handle_words pool kind (Some (entries.Method m n)) c e = mapped_words (λ x. constants.MethodHandle kind x false) (member pool m n) c 1 (λ _. refl) e
handle_words pool kind (Some (entries.InterfaceMethod m n)) c e = mapped_words (λ x. constants.MethodHandle kind x true) (member pool m n) c 1 (λ _. refl) e
handle_words pool kind _ c e = absurd cc

same_words : (pool : List PoolEntry) (e : PoolEntry) (c : Const) → constant_in pool e ≡ Some c → entry_words e ≡ loaded_words c
same_words pool (entries.Utf8 x) c e = ap loaded_words (some_is (constants.Utf8 x) c e)
same_words pool (entries.Integer v) c e = ap loaded_words (some_is (constants.Integer v) c e)
same_words pool (entries.Float b) c e = ap loaded_words (some_is (constants.Float b) c e)
same_words pool (entries.Long v) c e = ap loaded_words (some_is (constants.Long v) c e)
same_words pool (entries.Double b) c e = ap loaded_words (some_is (constants.Double b) c e)
same_words pool (entries.Class n) c e = mapped_words (λ x. constants.Class x) (text_of pool n) c 1 (λ _. refl) e
same_words pool (entries.String n) c e = mapped_words (λ x. constants.String x) (text_of pool n) c 1 (λ _. refl) e
same_words pool (entries.Field m n) c e = mapped_words (λ x. constants.Field x) (member pool m n) c 0 (λ _. refl) e
same_words pool (entries.Method m n) c e = mapped_words (λ x. constants.Method x false) (member pool m n) c 0 (λ _. refl) e
same_words pool (entries.InterfaceMethod m n) c e = mapped_words (λ x. constants.Method x true) (member pool m n) c 0 (λ _. refl) e
same_words pool (entries.NameAndType m n) c e = mapped_words (λ p. constants.NameAndType p.0 p.1) (both (text_of pool m) (text_of pool n)) c 0 (λ _. refl) e
same_words pool (entries.MethodHandle m n) c e = handle_words pool m (entry_of pool n) c e
same_words pool (entries.MethodType n) c e = mapped_words (λ x. constants.MethodType x) (text_of pool n) c 1 (λ _. refl) e
same_words pool (entries.InvokeDynamic m n) c e = mapped_words (λ p. constants.InvokeDynamic m p.0 p.1) (named_pair pool n) c 0 (λ _. refl) e
same_words pool entries.Unusable c e = absurd cc

loads_some : (op : ℕ) (words : ℕ) → LoadsWords op words → words ≡ 0 → ⊥
loads_some op words (inl h) e = omega (arith, h.1)
loads_some op words (inr h) e = omega (arith, h.1)

pub through : {A B C : Type 0} → A ↔ B → B ↔ C → A ↔ C
through f g = ((λ a. g.0 (f.0 a)), (λ c. f.1 (g.1 c)))

-- ---- what a sound entry names

abbrev MemberTaken : List PoolEntry → ℕ → PoolEntry → MemberReference → Type 0
MemberTaken pool op e m =
    ((op ≤ putfield) × (constant_in pool e ≡ Some (constants.Field m)))
    ⊎ ((putfield < op) × (constant_in pool e ≡ Some (constants.Method m false)))
    ⊎ ((invokevirtual < op) × (op ≤ invokestatic) × (constant_in pool e ≡ Some (constants.Method m true)))

abbrev ConstantThere : List PoolEntry → PoolEntry → Type 0
ConstantThere pool e = (e ≡ entries.Unusable → ⊥) → (c : Const) × (constant_in pool e ≡ Some c)

entry_member : (pool : List PoolEntry) (e : PoolEntry) (op : ℕ) → ConstantThere pool e → EntryTaken op e → (m : MemberReference) × MemberTaken pool op e m
entry_member pool (entries.Field a b) op there h =
    let c = there (λ (z : entries.Field a b ≡ entries.Unusable). absurd cc) in
    let m = map_some (λ m. constants.Field m) (member pool a b) c.0 c.1 in
    (m.0, inl (h, ap (option_map (λ m. constants.Field m)) m.1))
entry_member pool (entries.Method a b) op there h =
    let c = there (λ (z : entries.Method a b ≡ entries.Unusable). absurd cc) in
    let m = map_some (λ m. constants.Method m false) (member pool a b) c.0 c.1 in
    (m.0, inr (inl (h, ap (option_map (λ m. constants.Method m false)) m.1)))
entry_member pool (entries.InterfaceMethod a b) op there h =
    let c = there (λ (z : entries.InterfaceMethod a b ≡ entries.Unusable). absurd cc) in
    let m = map_some (λ m. constants.Method m true) (member pool a b) c.0 c.1 in
    (m.0, inr (inr (h.0, h.1, ap (option_map (λ m. constants.Method m true)) m.1)))
entry_member pool _ op there h = absurd h

member_entry : (pool : List PoolEntry) (e : PoolEntry) (op : ℕ) (m : MemberReference) → MemberTaken pool op e m → EntryTaken op e
member_entry pool e op m (inl h) = let f = field_entry pool e m h.1 in subst (EntryTaken op) (sym f.2) h.0
member_entry pool e op m (inr (inl h)) = let f = method_entry pool e m h.1 in subst (EntryTaken op) (sym f.2) h.0
member_entry pool e op m (inr (inr h)) = let f = interface_entry pool e m h.2 in subst (EntryTaken op) (sym f.2) (h.0, h.1)

-- the same of a number
abbrev TakenNumber : ℕ → Option Const → MemberReference → Type 0
TakenNumber op o m =
    ((op ≤ putfield) × (o ≡ Some (constants.Field m))) ⊎ ((putfield < op) × (o ≡ Some (constants.Method m false))) ⊎ ((invokevirtual < op) × (op ≤ invokestatic) × (o ≡ Some (constants.Method m true)))

site_constant : (pool : List PoolEntry) (e : PoolEntry) → ConstantThere pool e → IsSite e → (bootstrap : ℕ) × (name : List ℕ) × (descriptor : List ℕ) × (constant_in pool e ≡ Some (constants.InvokeDynamic bootstrap name descriptor))
site_constant pool (entries.InvokeDynamic a b) there h =
    let c = there (λ (z : entries.InvokeDynamic a b ≡ entries.Unusable). absurd cc) in
    let m = map_some (λ p. constants.InvokeDynamic a p.0 p.1) (named_pair pool b) c.0 c.1 in
    (a, m.0.0, m.0.1, ap (option_map (λ p. constants.InvokeDynamic a p.0 p.1)) m.1)
site_constant pool _ there h = absurd h

is_call : Const → Bool
is_call (constants.InvokeDynamic bootstrap name descriptor) = true
is_call _ = false

no_call : {A : Type 0} (f : A → Const) (o : Option A) (c : Const) → ((a : A) → is_call (f a) ≡ false) → is_call c ≡ true → option_map f o ≡ Some c → ⊥
no_call f o c h is e = let m = map_some f o c e in let never : false ≡ true = sym (h m.0) ∙ ap is_call m.2 ∙ is in absurd cc

handle_no_call : (pool : List PoolEntry) (kind : ℕ) (o : Option PoolEntry) (c : Const) → is_call c ≡ true → handle pool kind o ≡ Some c → ⊥
unfolding is_call
handle_no_call pool kind (Some (entries.Field m n)) c is e = no_call (λ x. constants.MethodHandle kind x false) (member pool m n) c (λ _. refl) is e
handle_no_call pool kind (Some (entries.Method m n)) c is e = no_call (λ x. constants.MethodHandle kind x false) (member pool m n) c (λ _. refl) is e
handle_no_call pool kind (Some (entries.InterfaceMethod m n)) c is e = no_call (λ x. constants.MethodHandle kind x true) (member pool m n) c (λ _. refl) is e
handle_no_call pool kind _ c is e = none-some c e

call_site : (pool : List PoolEntry) (e : PoolEntry) (c : Const) → is_call c ≡ true → constant_in pool e ≡ Some c → IsSite e
unfolding is_call
call_site pool (entries.InvokeDynamic a b) c is e = tt
call_site pool (entries.Class n) c is e = no_call (λ x. constants.Class x) (text_of pool n) c (λ _. refl) is e
call_site pool (entries.String n) c is e = no_call (λ x. constants.String x) (text_of pool n) c (λ _. refl) is e
call_site pool (entries.Field m n) c is e = no_call (λ x. constants.Field x) (member pool m n) c (λ _. refl) is e
call_site pool (entries.Method m n) c is e = no_call (λ x. constants.Method x false) (member pool m n) c (λ _. refl) is e
call_site pool (entries.InterfaceMethod m n) c is e = no_call (λ x. constants.Method x true) (member pool m n) c (λ _. refl) is e
call_site pool (entries.NameAndType m n) c is e = no_call (λ p. constants.NameAndType p.0 p.1) (both (text_of pool m) (text_of pool n)) c (λ _. refl) is e
call_site pool (entries.MethodHandle m n) c is e = handle_no_call pool m (entry_of pool n) c is e
call_site pool (entries.MethodType n) c is e = no_call (λ x. constants.MethodType x) (text_of pool n) c (λ _. refl) is e
call_site pool entries.Unusable c is e = none-some c e
call_site pool (entries.Utf8 x) c is e = let never : false ≡ true = ap is_call (some_is (constants.Utf8 x) c e) ∙ is in absurd cc
call_site pool (entries.Integer x) c is e = let never : false ≡ true = ap is_call (some_is (constants.Integer x) c e) ∙ is in absurd cc
call_site pool (entries.Float x) c is e = let never : false ≡ true = ap is_call (some_is (constants.Float x) c e) ∙ is in absurd cc
call_site pool (entries.Long x) c is e = let never : false ≡ true = ap is_call (some_is (constants.Long x) c e) ∙ is in absurd cc
call_site pool (entries.Double x) c is e = let never : false ≡ true = ap is_call (some_is (constants.Double x) c e) ∙ is in absurd cc

call_is : (bootstrap : ℕ) (name descriptor : List ℕ) → is_call (constants.InvokeDynamic bootstrap name descriptor) ≡ true
unfolding is_call
call_is bootstrap name descriptor = refl

module _ (pool : List PoolEntry) (sound : IsPool pool) (number : ℕ) (e : PoolEntry) (is : entry_of pool number ≡ Some e) where
  there : ConstantThere pool e
  there usable = constant_there pool sound.1 e (sound_at pool sound.1 number e is) usable

  here : constant_of pool number ≡ constant_in pool e
  here = at_entry pool number e is

  pub entry_loaded : (op : ℕ) → LoadsWords op (entry_words e) ↔ Loads pool op number
  entry_loaded op = ((λ h. to h), (λ l. subst (LoadsWords op) (sym (same_words pool e l.0 (sym here ∙ l.1))) l.2))
    where
      to : LoadsWords op (entry_words e) → Loads pool op number
      to h = let c = there (λ (z : e ≡ entries.Unusable). loads_some op (entry_words e) h (ap entry_words z)) in (c.0, here ∙ c.1, subst (LoadsWords op) (same_words pool e c.0 c.1) h)

  pub entry_taken : (op : ℕ) → EntryTaken op e ↔ Takes pool op number
  entry_taken op = (
    (λ h. let m = entry_member pool e op there h in (m.0, subst (λ o. TakenNumber op o m.0) (sym here) m.1)),
    (λ t. member_entry pool e op t.0 (subst (λ o. TakenNumber op o t.0) here t.1)),
  )

  pub entry_site : IsSite e ↔ TakesSite pool number
  entry_site = (
    (λ h. let s = site_constant pool e there h in (s.0, s.1, s.2, here ∙ s.3)),
    (λ t. call_site pool e (constants.InvokeDynamic t.0 t.1 t.2) (call_is t.0 t.1 t.2) (sym here ∙ t.3)),
  )

  -- ---- an interface's method

  pub interface_there : (class pair : ℕ) (names : List ℕ × List ℕ) → e ≡ entries.InterfaceMethod class pair → named_pair pool pair ≡ Some names → TakesInterface pool number names.1
  interface_there class pair names entry named =
      let c = there (λ (z : e ≡ entries.Unusable). let never : entries.InterfaceMethod class pair ≡ entries.Unusable = sym entry ∙ z in absurd cc) in
      let made : constant_in pool (entries.InterfaceMethod class pair) ≡ Some c.0 = ap (constant_in pool) (sym entry) ∙ c.1 in
      let m = map_some (λ m. constants.Method m true) (member pool class pair) c.0 made in
      let s = member_some (class_name pool class) (named_pair pool pair) m.0 m.1 in
      (m.0, here ∙ c.1 ∙ ap (λ (x : Const). Some x) (sym m.2), cc (some_is names (m.0.name, m.0.descriptor) (sym named ∙ s.1)))

  pub interface_not : ((class pair : ℕ) → e ≡ entries.InterfaceMethod class pair → ⊥) → (descriptor : List ℕ) → TakesInterface pool number descriptor → ⊥
  interface_not h descriptor t = let f = interface_entry pool e t.0 (sym here ∙ t.1) in h f.0 f.1 f.2

  pub interface_unnamed : (class pair : ℕ) → e ≡ entries.InterfaceMethod class pair → named_pair pool pair ≡ None → (descriptor : List ℕ) → TakesInterface pool number descriptor → ⊥
  interface_unnamed class pair entry none descriptor t =
      let made : constant_in pool (entries.InterfaceMethod class pair) ≡ Some (constants.Method t.0 true) = ap (constant_in pool) (sym entry) ∙ sym here ∙ t.1 in
      let m = map_some (λ m. constants.Method m true) (member pool class pair) (constants.Method t.0 true) made in
      let s = member_some (class_name pool class) (named_pair pool pair) m.0 m.1 in
      none-some (m.0.name, m.0.descriptor) (sym none ∙ s.1)

-- a number has one descriptor
pub one_interface : (pool : List PoolEntry) (number : ℕ) (a b : List ℕ) → TakesInterface pool number a → TakesInterface pool number b → a ≡ b
one_interface pool number a b s t =
    let same : constants.Method s.0 true ≡ constants.Method t.0 true = some_is (constants.Method s.0 true) (constants.Method t.0 true) (sym s.1 ∙ t.1) in
    let members : s.0 ≡ t.0 = cc in
    s.2 ∙ ap (λ (m : MemberReference). m.descriptor) members ∙ sym t.2

-- ---- the count of an invokeinterface

pub is_count : (descriptor : List ℕ) (words count : ℕ) → HasWords descriptor words → IsTrue (nat_eq count (words + 1)) ↔ IsCountOf descriptor count
is_count descriptor words count has = ((λ t. (words, has, eqb-true count (words + 1) t)), (λ is. eq-eqb count (words + 1) (is.2 ∙ ap (λ (z : ℕ). z + 1) (words_same descriptor is.0 words is.1 has))))

pub no_count : (descriptor : List ℕ) (words count : ℕ) → HasWords descriptor words → 255 ≤ words → count < 256 → IsCountOf descriptor count → ⊥
no_count descriptor words count has many few is = omega (arith, words_same descriptor is.0 words is.1 has, is.2)

pub no_words : (descriptor : List ℕ) (count : ℕ) → (IsMethodDescriptor descriptor → ⊥) → IsCountOf descriptor count → ⊥
no_words descriptor count h is = h (is.1.0, is.1.1, is.1.2)
