-- An entry other than a text is read again.
use Rattle.std.proofs.Common.{◌≡◌, ℕ, ℤ, ◌^◌, ◌<◌, List, ◌∷◌, ◌++◌, length, drop, Ok, refl, ap, ◌∙◌, arith}
use Rattle.std.specs.Prelude.{slice_index, FitsSigned}
use Rattle.std.specs.Int.{w32, w64, from_be_bytes, to_be_bytes, cast_signed, cast_unsigned}
use Rattle.std.proofs.lemmas.Nat.{from_be_bytes-to_be_bytes_2, from_be_bytes-to_be_bytes_4, from_be_bytes-to_be_bytes_8}
use Rattle.std.proofs.lemmas.Int.{to_z-of_z}
use mir.ValLaws.{of_z_fits}
use Rattle.wv_base.specs.declared.class_file.PoolEntry.{PoolEntry}
use Rattle.wv_base.specs.declared.class_file.PoolEntry.TheVariants as entries
use Rattle.wv_pool.specs.Reading.{fixed, number, first, second, plain_behind}
use Rattle.wv_pool.specs.Entries.{number_bytes, entry_bytes}
use Rattle.wv_pool.proofs.PlainEntries.{fixed_again, is_integer, is_float, is_long, is_double, is_class, is_string, is_field, is_method, is_interface_method, is_name_and_type, is_method_handle, is_method_type, is_invoke_dynamic}

pub number_again : (n : ℕ) → n < 2 ^ 16 → number (number_bytes n) ≡ n
number_again n h = from_be_bytes-to_be_bytes_2 n h

pair_again : (a b : ℕ) → a < 2 ^ 16 → b < 2 ^ 16 → (first (number_bytes a ++ number_bytes b) ≡ a) × (second (number_bytes a ++ number_bytes b) ≡ b)
pair_again a b ha hb = (number_again a ha, number_again b hb)

-- the entry made of a body that was read
read_as : (tag n : ℕ) (make : List ℕ → PoolEntry) (body rest : List ℕ) (e : PoolEntry) → ((bytes : List ℕ) → plain_behind tag bytes ≡ fixed n make bytes) → length body ≡ n → make body ≡ e → plain_behind tag (body ++ rest) ≡ Ok (e, rest)
read_as tag n make body rest e is len made = is (body ++ rest) ∙ fixed_again n make body rest len ∙ ap (λ (x : PoolEntry). Ok (x, rest)) made

bits32 : (v : ℤ) → FitsSigned w32 v → cast_unsigned w32 v < 2 ^ 32
bits32 v h = let f = of_z_fits w32 v h in omega (arith, f)

bits64 : (v : ℤ) → FitsSigned w64 v → cast_unsigned w64 v < 2 ^ 64
bits64 v h = let f = of_z_fits w64 v h in omega (arith, f)

pub integer_again : (v : ℤ) (rest : List ℕ) → FitsSigned w32 v → plain_behind 3 (to_be_bytes w32 (cast_unsigned w32 v) ++ rest) ≡ Ok (entries.Integer v, rest)
integer_again v rest h = read_as 3 4 (λ b. entries.Integer (cast_signed w32 (from_be_bytes w32 b))) (to_be_bytes w32 (cast_unsigned w32 v)) rest (entries.Integer v) is_integer refl
    (ap (λ (n : ℕ). entries.Integer (cast_signed w32 n)) (from_be_bytes-to_be_bytes_4 (cast_unsigned w32 v) (bits32 v h)) ∙ ap (λ (z : ℤ). entries.Integer z) (to_z-of_z w32 v h))

pub long_again : (v : ℤ) (rest : List ℕ) → FitsSigned w64 v → plain_behind 5 (to_be_bytes w64 (cast_unsigned w64 v) ++ rest) ≡ Ok (entries.Long v, rest)
long_again v rest h = read_as 5 8 (λ b. entries.Long (cast_signed w64 (from_be_bytes w64 b))) (to_be_bytes w64 (cast_unsigned w64 v)) rest (entries.Long v) is_long refl
    (ap (λ (n : ℕ). entries.Long (cast_signed w64 n)) (from_be_bytes-to_be_bytes_8 (cast_unsigned w64 v) (bits64 v h)) ∙ ap (λ (z : ℤ). entries.Long z) (to_z-of_z w64 v h))

pub float_again : (v : ℕ) (rest : List ℕ) → v < 2 ^ 32 → plain_behind 4 (to_be_bytes w32 v ++ rest) ≡ Ok (entries.Float v, rest)
float_again v rest h = read_as 4 4 (λ b. entries.Float (from_be_bytes w32 b)) (to_be_bytes w32 v) rest (entries.Float v) is_float refl (ap (λ (n : ℕ). entries.Float n) (from_be_bytes-to_be_bytes_4 v h))

pub double_again : (v : ℕ) (rest : List ℕ) → v < 2 ^ 64 → plain_behind 6 (to_be_bytes w64 v ++ rest) ≡ Ok (entries.Double v, rest)
double_again v rest h = read_as 6 8 (λ b. entries.Double (from_be_bytes w64 b)) (to_be_bytes w64 v) rest (entries.Double v) is_double refl (ap (λ (n : ℕ). entries.Double n) (from_be_bytes-to_be_bytes_8 v h))

one_number : (tag n : ℕ) (make : ℕ → PoolEntry) (rest : List ℕ) → ((bytes : List ℕ) → plain_behind tag bytes ≡ fixed 2 (λ b. make (number b)) bytes) → n < 2 ^ 16 → plain_behind tag (number_bytes n ++ rest) ≡ Ok (make n, rest)
one_number tag n make rest is h = read_as tag 2 (λ b. make (number b)) (number_bytes n) rest (make n) is refl (ap make (number_again n h))

two_numbers : (tag m n : ℕ) (make : ℕ → ℕ → PoolEntry) (rest : List ℕ) → ((bytes : List ℕ) → plain_behind tag bytes ≡ fixed 4 (λ b. make (first b) (second b)) bytes) → m < 2 ^ 16 → n < 2 ^ 16
    → plain_behind tag (number_bytes m ++ number_bytes n ++ rest) ≡ Ok (make m n, rest)
two_numbers tag m n make rest is hm hn =
    let p = pair_again m n hm hn in
    read_as tag 4 (λ b. make (first b) (second b)) (number_bytes m ++ number_bytes n) rest (make m n) is refl (ap (λ (k : ℕ). make k (second (number_bytes m ++ number_bytes n))) p.0 ∙ ap (λ (k : ℕ). make m k) p.1)

handle_again : (kind n : ℕ) (rest : List ℕ) → n < 2 ^ 16 → plain_behind 15 (kind ∷ (number_bytes n ++ rest)) ≡ Ok (entries.MethodHandle kind n, rest)
handle_again kind n rest h = read_as 15 3 (λ b. entries.MethodHandle (slice_index b 0) (number (drop 1 b))) (kind ∷ number_bytes n) rest (entries.MethodHandle kind n) is_method_handle refl (ap (λ (k : ℕ). entries.MethodHandle kind k) (number_again n h))

-- behind its tag, an entry that is no text is read again
abbrev pub IsPlain : ℕ → List ℕ → PoolEntry → Type 0
IsPlain tag body entry = (entry_bytes entry ≡ tag ∷ body) × ((rest : List ℕ) → plain_behind tag (body ++ rest) ≡ Ok (entry, rest))

pub class_again : (n : ℕ) → n < 2 ^ 16 → IsPlain 7 (number_bytes n) (entries.Class n)
class_again n h = (refl, λ rest. one_number 7 n (λ k. entries.Class k) rest is_class h)

pub string_again : (n : ℕ) → n < 2 ^ 16 → IsPlain 8 (number_bytes n) (entries.String n)
string_again n h = (refl, λ rest. one_number 8 n (λ k. entries.String k) rest is_string h)

pub method_type_again : (n : ℕ) → n < 2 ^ 16 → IsPlain 16 (number_bytes n) (entries.MethodType n)
method_type_again n h = (refl, λ rest. one_number 16 n (λ k. entries.MethodType k) rest is_method_type h)

pub field_again : (m n : ℕ) → m < 2 ^ 16 → n < 2 ^ 16 → IsPlain 9 (number_bytes m ++ number_bytes n) (entries.Field m n)
field_again m n hm hn = (refl, λ rest. two_numbers 9 m n (λ j k. entries.Field j k) rest is_field hm hn)

pub method_again : (m n : ℕ) → m < 2 ^ 16 → n < 2 ^ 16 → IsPlain 10 (number_bytes m ++ number_bytes n) (entries.Method m n)
method_again m n hm hn = (refl, λ rest. two_numbers 10 m n (λ j k. entries.Method j k) rest is_method hm hn)

pub interface_method_again : (m n : ℕ) → m < 2 ^ 16 → n < 2 ^ 16 → IsPlain 11 (number_bytes m ++ number_bytes n) (entries.InterfaceMethod m n)
interface_method_again m n hm hn = (refl, λ rest. two_numbers 11 m n (λ j k. entries.InterfaceMethod j k) rest is_interface_method hm hn)

pub name_and_type_again : (m n : ℕ) → m < 2 ^ 16 → n < 2 ^ 16 → IsPlain 12 (number_bytes m ++ number_bytes n) (entries.NameAndType m n)
name_and_type_again m n hm hn = (refl, λ rest. two_numbers 12 m n (λ j k. entries.NameAndType j k) rest is_name_and_type hm hn)

pub invoke_dynamic_again : (m n : ℕ) → m < 2 ^ 16 → n < 2 ^ 16 → IsPlain 18 (number_bytes m ++ number_bytes n) (entries.InvokeDynamic m n)
invoke_dynamic_again m n hm hn = (refl, λ rest. two_numbers 18 m n (λ j k. entries.InvokeDynamic j k) rest is_invoke_dynamic hm hn)

pub method_handle_again : (kind n : ℕ) → n < 2 ^ 16 → IsPlain 15 (kind ∷ number_bytes n) (entries.MethodHandle kind n)
method_handle_again kind n h = (refl, λ rest. handle_again kind n rest h)
