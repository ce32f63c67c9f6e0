-- The entries other than texts: what is read was spelled so, and what is spelled so is read.
use Rattle.std.proofs.Common.{◌≡◌, inl, inr, ℕ, zero, suc, ◌+◌, ◌^◌, ◌<◌, ◌≤◌, Bool, true, false, cond, ltb, List, [], ◌∷◌, ◌++◌, length, get_or, take, drop, Result, Ok, Err, refl, sym, ap, ◌∙◌, arith}
use Rattle.std.specs.Prelude.{slice_index}
use Rattle.std.specs.Int.{w32, w64, from_be_bytes, to_be_bytes, cast_signed}
use Rattle.std.proofs.lemmas.Bool.{ltb-false, le-ltb, ne_eqb}
use Rattle.std.proofs.lemmas.List.{take_at, drop_at, take-append-drop, length-append, length-take, length-drop, get_or-drop, get_or-take, get_or_past}
use Rattle.std.proofs.lemmas.Bool.{cases_lt}
use Rattle.std.proofs.lemmas.Nat.{be_bytes_2, be_bytes_4, be_bytes_8}
use Rattle.std.proofs.lemmas.Int.{of_z-to_z}
use borrow.Author.Gap.{read_sfits}
use Rattle.wv_base.specs.declared.class_file.PoolEntry.{PoolEntry}
use Rattle.wv_base.specs.declared.class_file.PoolEntry.TheVariants as entries
use Rattle.wv_pool.specs.Reading.{fixed, number, first, second, plain_behind}
use Rattle.wv_pool.specs.Entries.{number_bytes, entry_bytes, IsEntry}

abbrev pub IsBytes : List ℕ → Type 0
IsBytes bytes = (i : ℕ) → get_or bytes i 0 < 256

pub IsBytes-drop : (n : ℕ) (bytes : List ℕ) → IsBytes bytes → IsBytes (drop n bytes)
IsBytes-drop n bytes h i = rw get_or-drop (h (n + i))

pub IsBytes-take : (n : ℕ) (bytes : List ℕ) → IsBytes bytes → IsBytes (take n bytes)
IsBytes-take n bytes h i =
    elim (cases_lt i n) [
      | inl lt ↦ rw (get_or-take n bytes i 0 lt) (h i)
      | inr le ↦ rw (get_or_past (take n bytes) i 0 (omega (arith, length-take n bytes))) (omega arith)
    ]

pub number_back : (b : List ℕ) → length b ≡ 2 → IsBytes b → (number_bytes (number b) ≡ b) × (number b < 2 ^ 16)
number_back b len fits = (be_bytes_2 b _ len fits refl, omega (arith, fits 0, fits 1))

wide_back : (b : List ℕ) → length b ≡ 4 → IsBytes b → (to_be_bytes w32 (from_be_bytes w32 b) ≡ b) × (from_be_bytes w32 b < 2 ^ 32)
wide_back b len fits = (be_bytes_4 b _ len fits refl, omega (arith, fits 0, fits 1, fits 2, fits 3))

widest_back : (b : List ℕ) → length b ≡ 8 → IsBytes b → (to_be_bytes w64 (from_be_bytes w64 b) ≡ b) × (from_be_bytes w64 b < 2 ^ 64)
widest_back b len fits = (be_bytes_8 b _ len fits refl, omega (arith, fits 0, fits 1, fits 2, fits 3, fits 4, fits 5, fits 6, fits 7))

pair_back : (b : List ℕ) → length b ≡ 4 → IsBytes b → (number_bytes (first b) ++ number_bytes (second b) ≡ b) × (first b < 2 ^ 16) × (second b < 2 ^ 16)
pair_back b len fits =
    let one = number_back (take 2 b) (omega (arith, length-take 2 b)) (IsBytes-take 2 b fits) in
    let two = number_back (drop 2 b) (omega (arith, length-drop 2 b)) (IsBytes-drop 2 b fits) in
    (ap (λ (t : List ℕ). t ++ number_bytes (second b)) one.0 ∙ ap (λ (t : List ℕ). take 2 b ++ t) two.0 ∙ take-append-drop 2 b, one.1, two.1)

handle_back : (b : List ℕ) → length b ≡ 3 → IsBytes b → (slice_index b 0 ∷ number_bytes (number (drop 1 b)) ≡ b) × (slice_index b 0 < 256) × (number (drop 1 b) < 2 ^ 16)
handle_back [] len fits = absurd (omega arith)
handle_back (x ∷ b) len fits = let two = number_back b (omega arith) (λ i. fits (suc i)) in (ap (λ (t : List ℕ). x ∷ t) two.0, fits 0, two.1)

-- how a tag's bytes are read: so many, from which the entry is made, or none
pub data Plain : ℕ → Type 0 where
  of_fixed : {tag : ℕ} (n : ℕ) (make : List ℕ → PoolEntry) → ((bytes : List ℕ) → plain_behind tag bytes ≡ fixed n make bytes)
      → ((b : List ℕ) → length b ≡ n → IsBytes b → (entry_bytes (make b) ≡ tag ∷ b) × IsEntry (make b)) → Plain tag
  of_none : {tag : ℕ} → ((bytes : List ℕ) → plain_behind tag bytes ≡ Err (length bytes + 1)) → Plain tag

pub is_integer : (bytes : List ℕ) → plain_behind 3 bytes ≡ fixed 4 (λ b. entries.Integer (cast_signed w32 (from_be_bytes w32 b))) bytes
unfolding plain_behind
is_integer bytes = refl

pub is_float : (bytes : List ℕ) → plain_behind 4 bytes ≡ fixed 4 (λ b. entries.Float (from_be_bytes w32 b)) bytes
unfolding plain_behind
is_float bytes = refl

pub is_long : (bytes : List ℕ) → plain_behind 5 bytes ≡ fixed 8 (λ b. entries.Long (cast_signed w64 (from_be_bytes w64 b))) bytes
unfolding plain_behind
is_long bytes = refl

pub is_double : (bytes : List ℕ) → plain_behind 6 bytes ≡ fixed 8 (λ b. entries.Double (from_be_bytes w64 b)) bytes
unfolding plain_behind
is_double bytes = refl

pub is_class : (bytes : List ℕ) → plain_behind 7 bytes ≡ fixed 2 (λ b. entries.Class (number b)) bytes
unfolding plain_behind
is_class bytes = refl

pub is_string : (bytes : List ℕ) → plain_behind 8 bytes ≡ fixed 2 (λ b. entries.String (number b)) bytes
unfolding plain_behind
is_string bytes = refl

pub is_field : (bytes : List ℕ) → plain_behind 9 bytes ≡ fixed 4 (λ b. entries.Field (first b) (second b)) bytes
unfolding plain_behind
is_field bytes = refl

pub is_method : (bytes : List ℕ) → plain_behind 10 bytes ≡ fixed 4 (λ b. entries.Method (first b) (second b)) bytes
unfolding plain_behind
is_method bytes = refl

pub is_interface_method : (bytes : List ℕ) → plain_behind 11 bytes ≡ fixed 4 (λ b. entries.InterfaceMethod (first b) (second b)) bytes
unfolding plain_behind
is_interface_method bytes = refl

pub is_name_and_type : (bytes : List ℕ) → plain_behind 12 bytes ≡ fixed 4 (λ b. entries.NameAndType (first b) (second b)) bytes
unfolding plain_behind
is_name_and_type bytes = refl

pub is_method_handle : (bytes : List ℕ) → plain_behind 15 bytes ≡ fixed 3 (λ b. entries.MethodHandle (slice_index b 0) (number (drop 1 b))) bytes
unfolding plain_behind
is_method_handle bytes = refl

pub is_method_type : (bytes : List ℕ) → plain_behind 16 bytes ≡ fixed 2 (λ b. entries.MethodType (number b)) bytes
unfolding plain_behind
is_method_type bytes = refl

pub is_invoke_dynamic : (bytes : List ℕ) → plain_behind 18 bytes ≡ fixed 4 (λ b. entries.InvokeDynamic (first b) (second b)) bytes
unfolding plain_behind
is_invoke_dynamic bytes = refl

no_0 : (bytes : List ℕ) → plain_behind 0 bytes ≡ Err (length bytes + 1)
unfolding plain_behind
no_0 bytes = refl

no_1 : (bytes : List ℕ) → plain_behind 1 bytes ≡ Err (length bytes + 1)
unfolding plain_behind
no_1 bytes = refl

no_2 : (bytes : List ℕ) → plain_behind 2 bytes ≡ Err (length bytes + 1)
unfolding plain_behind
no_2 bytes = refl

no_13 : (bytes : List ℕ) → plain_behind 13 bytes ≡ Err (length bytes + 1)
unfolding plain_behind
no_13 bytes = refl

no_14 : (bytes : List ℕ) → plain_behind 14 bytes ≡ Err (length bytes + 1)
unfolding plain_behind
no_14 bytes = refl

no_17 : (bytes : List ℕ) → plain_behind 17 bytes ≡ Err (length bytes + 1)
unfolding plain_behind
no_17 bytes = refl

no_more : (tag : ℕ) (bytes : List ℕ) → 19 ≤ tag → plain_behind tag bytes ≡ Err (length bytes + 1)
unfolding plain_behind
no_more tag bytes h = rw (ne_eqb tag 3 (λ e. omega arith), ne_eqb tag 4 (λ e. omega arith), ne_eqb tag 5 (λ e. omega arith), ne_eqb tag 6 (λ e. omega arith), ne_eqb tag 7 (λ e. omega arith), ne_eqb tag 8 (λ e. omega arith), ne_eqb tag 9 (λ e. omega arith), ne_eqb tag 10 (λ e. omega arith), ne_eqb tag 11 (λ e. omega arith), ne_eqb tag 12 (λ e. omega arith), ne_eqb tag 15 (λ e. omega arith), ne_eqb tag 16 (λ e. omega arith), ne_eqb tag 18 (λ e. omega arith)) refl

pub plain_form : (tag : ℕ) → Plain tag
plain_form zero = of_none no_0
plain_form (suc zero) = of_none no_1
plain_form (suc (suc zero)) = of_none no_2
plain_form (suc (suc (suc zero))) = of_fixed 4 (λ b. entries.Integer (cast_signed w32 (from_be_bytes w32 b))) is_integer (λ b len fits. let w = wide_back b len fits in (ap (λ (t : List ℕ). 3 ∷ t) (ap (λ (k : ℕ). to_be_bytes w32 k) (of_z-to_z w32 (from_be_bytes w32 b) w.1) ∙ w.0), read_sfits w32 (from_be_bytes w32 b)))
plain_form (suc (suc (suc (suc zero)))) = of_fixed 4 (λ b. entries.Float (from_be_bytes w32 b)) is_float (λ b len fits. let w = wide_back b len fits in (ap (λ (t : List ℕ). 4 ∷ t) w.0, w.1))
plain_form (suc (suc (suc (suc (suc zero))))) = of_fixed 8 (λ b. entries.Long (cast_signed w64 (from_be_bytes w64 b))) is_long (λ b len fits. let w = widest_back b len fits in (ap (λ (t : List ℕ). 5 ∷ t) (ap (λ (k : ℕ). to_be_bytes w64 k) (of_z-to_z w64 (from_be_bytes w64 b) w.1) ∙ w.0), read_sfits w64 (from_be_bytes w64 b)))
plain_form (suc (suc (suc (suc (suc (suc zero)))))) = of_fixed 8 (λ b. entries.Double (from_be_bytes w64 b)) is_double (λ b len fits. let w = widest_back b len fits in (ap (λ (t : List ℕ). 6 ∷ t) w.0, w.1))
plain_form (suc (suc (suc (suc (suc (suc (suc zero))))))) = of_fixed 2 (λ b. entries.Class (number b)) is_class (λ b len fits. let w = number_back b len fits in (ap (λ (t : List ℕ). 7 ∷ t) w.0, w.1))
plain_form (suc (suc (suc (suc (suc (suc (suc (suc zero)))))))) = of_fixed 2 (λ b. entries.String (number b)) is_string (λ b len fits. let w = number_back b len fits in (ap (λ (t : List ℕ). 8 ∷ t) w.0, w.1))
plain_form (suc (suc (suc (suc (suc (suc (suc (suc (suc zero))))))))) = of_fixed 4 (λ b. entries.Field (first b) (second b)) is_field (λ b len fits. let w = pair_back b len fits in (ap (λ (t : List ℕ). 9 ∷ t) w.0, (w.1, w.2)))
plain_form (suc (suc (suc (suc (suc (suc (suc (suc (suc (suc zero)))))))))) = of_fixed 4 (λ b. entries.Method (first b) (second b)) is_method (λ b len fits. let w = pair_back b len fits in (ap (λ (t : List ℕ). 10 ∷ t) w.0, (w.1, w.2)))
plain_form (suc (suc (suc (suc (suc (suc (suc (suc (suc (suc (suc zero))))))))))) = of_fixed 4 (λ b. entries.InterfaceMethod (first b) (second b)) is_interface_method (λ b len fits. let w = pair_back b len fits in (ap (λ (t : List ℕ). 11 ∷ t) w.0, (w.1, w.2)))
plain_form (suc (suc (suc (suc (suc (suc (suc (suc (suc (suc (suc (suc zero)))))))))))) = of_fixed 4 (λ b. entries.NameAndType (first b) (second b)) is_name_and_type (λ b len fits. let w = pair_back b len fits in (ap (λ (t : List ℕ). 12 ∷ t) w.0, (w.1, w.2)))
plain_form (suc (suc (suc (suc (suc (suc (suc (suc (suc (suc (suc (suc (suc zero))))))))))))) = of_none no_13
plain_form (suc (suc (suc (suc (suc (suc (suc (suc (suc (suc (suc (suc (suc (suc zero)))))))))))))) = of_none no_14
plain_form (suc (suc (suc (suc (suc (suc (suc (suc (suc (suc (suc (suc (suc (suc (suc zero))))))))))))))) = of_fixed 3 (λ b. entries.MethodHandle (slice_index b 0) (number (drop 1 b))) is_method_handle (λ b len fits. let w = handle_back b len fits in (ap (λ (t : List ℕ). 15 ∷ t) w.0, (w.1, w.2)))
plain_form (suc (suc (suc (suc (suc (suc (suc (suc (suc (suc (suc (suc (suc (suc (suc (suc zero)))))))))))))))) = of_fixed 2 (λ b. entries.MethodType (number b)) is_method_type (λ b len fits. let w = number_back b len fits in (ap (λ (t : List ℕ). 16 ∷ t) w.0, w.1))
plain_form (suc (suc (suc (suc (suc (suc (suc (suc (suc (suc (suc (suc (suc (suc (suc (suc (suc zero))))))))))))))))) = of_none no_17
plain_form (suc (suc (suc (suc (suc (suc (suc (suc (suc (suc (suc (suc (suc (suc (suc (suc (suc (suc zero)))))))))))))))))) = of_fixed 4 (λ b. entries.InvokeDynamic (first b) (second b)) is_invoke_dynamic (λ b len fits. let w = pair_back b len fits in (ap (λ (t : List ℕ). 18 ∷ t) w.0, (w.1, w.2)))
plain_form (suc (suc (suc (suc (suc (suc (suc (suc (suc (suc (suc (suc (suc (suc (suc (suc (suc (suc (suc tag))))))))))))))))))) = of_none (λ bytes. no_more (suc (suc (suc (suc (suc (suc (suc (suc (suc (suc (suc (suc (suc (suc (suc (suc (suc (suc (suc tag))))))))))))))))))) bytes (omega arith))

-- what a number of fixed bytes is read of
pub fixed_ok : (n : ℕ) (make : List ℕ → PoolEntry) (bytes : List ℕ) (x : PoolEntry × List ℕ) → fixed n make bytes ≡ Ok x → (n ≤ length bytes) × (x ≡ (make (take n bytes), drop n bytes))
fixed_ok n make bytes x e = guard (ltb (length bytes) n) refl e
  where
    guard : (b : Bool) → ltb (length bytes) n ≡ b → cond {A = Result (PoolEntry × List ℕ) ℕ} b (Err 0) (Ok (make (take n bytes), drop n bytes)) ≡ Ok x → (n ≤ length bytes) × (x ≡ (make (take n bytes), drop n bytes))
    guard true t e = absurd cc
    guard false t e = (ltb-false _ _ t, cc)

pub fixed_again : {A : Type 0} (n : ℕ) (make : List ℕ → A) (body rest : List ℕ) → length body ≡ n → fixed n make (body ++ rest) ≡ Ok (make body, rest)
fixed_again n make body rest len =
    let long : ltb (length (body ++ rest)) n ≡ false = le-ltb _ _ (omega (arith, length-append body rest)) in
    rw (long, take_at body rest n len, drop_at body rest n len) refl

plain_takes : (tag : ℕ) (bytes : List ℕ) (x : PoolEntry × List ℕ) → Plain tag → IsBytes bytes → plain_behind tag bytes ≡ Ok x → (tag ∷ bytes ≡ entry_bytes x.0 ++ x.1) × IsEntry x.0 × IsBytes x.1
plain_takes tag bytes x (of_fixed n make is back) fits e =
    let f = fixed_ok n make bytes x (sym (is bytes) ∙ e) in
    let b = back (take n bytes) (omega (arith, length-take n bytes)) (IsBytes-take n bytes fits) in
    rw f.1 (rw b.0 (ap (λ (t : List ℕ). tag ∷ t) (sym (take-append-drop n bytes))), b.1, IsBytes-drop n bytes fits)
plain_takes tag bytes x (of_none is) fits e = absurd (cc (is bytes))

pub plain_found : (tag : ℕ) (bytes : List ℕ) (x : PoolEntry × List ℕ) → IsBytes bytes → plain_behind tag bytes ≡ Ok x → (tag ∷ bytes ≡ entry_bytes x.0 ++ x.1) × IsEntry x.0 × IsBytes x.1
plain_found tag bytes x fits e = plain_takes tag bytes x (plain_form tag) fits e
