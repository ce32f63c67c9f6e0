-- What is read as a pool was spelled so, and what is spelled so is read.
use Rattle.std.proofs.Common.{◌≡◌, ℕ, zero, suc, ◌+◌, ◌-◌, ◌^◌, ◌<◌, ◌≤◌, Bool, true, false, cond, ltb, List, [], ◌∷◌, ◌++◌, length, take, drop, Result, Ok, Err, refl, sym, ap, subst, ◌∙◌, append_assoc, arith}
use Rattle.std.specs.Prelude.{◌==◌, ◌&&◌, ◌||◌}
use Rattle.std.specs.List.{flat_map}
use Rattle.std.proofs.lemmas.Bool.{ltb-false, le-ltb, eqb-true, ne_eqb}
use Rattle.std.proofs.lemmas.List.{take_at, drop_at, take-append-drop, length-append, length-take}
use Rattle.std.proofs.lemmas.List.Concat.{flat_map-cons}
use Rattle.wv_base.specs.declared.class_file.PoolEntry.{PoolEntry}
use Rattle.wv_base.specs.declared.class_file.PoolEntry.TheVariants as entries
use Rattle.wv_base.specs.Modified.{spelling, IsName}
use Rattle.wv_base.specs.ModifiedReading.{name_in}
use Rattle.wv_base.proofs.NameSpelling.{is_exact, reads_it}
use Rattle.wv_pool.specs.Reading.{◌>>=◌, fixed, number, text_found, text_behind, is_wide, plain_behind, entry_at, slots_in, pool_at}
use Rattle.wv_pool.specs.Entries.{number_bytes, entry_bytes, IsEntry, AreSlots, IsLayout, pool_bytes}
use Rattle.wv_pool.proofs.PlainEntries.{IsBytes, IsBytes-drop, IsBytes-take, number_back, fixed_again, plain_found}
use Rattle.wv_pool.proofs.PlainAgain.{number_again, IsPlain, integer_again, float_again, long_again, double_again, class_again, string_again, field_again, method_again, interface_method_again, name_and_type_again, method_handle_again, method_type_again, invoke_dynamic_again}

pub bind_ok : {A B : Type 0} (r : Result A ℕ) (f : A → Result B ℕ) (y : B) → (r >>= f) ≡ Ok y → (x : A) × (r ≡ Ok x) × (f x ≡ Ok y)
bind_ok (Ok x) f y e = (x, refl, e)
bind_ok (Err d) f y e = absurd cc

abbrev done : {A : Type 0} → A → Result A ℕ
done x = Ok x

pub ok_is : {A : Type 0} (x y : A) → done x ≡ done y → x ≡ y
ok_is x y e = cc

pub guard_ok : {A : Type 0} (b : Bool) (d : ℕ) (x y : A) → cond b (Err d) (done x) ≡ done y → (b ≡ false) × (x ≡ y)
guard_ok true d x y e = absurd cc
guard_ok false d x y e = (refl, cc)

pub then_ok : {A : Type 0} (b : Bool) (d : ℕ) (r : Result A ℕ) (y : A) → cond b (Err d) r ≡ done y → (b ≡ false) × (r ≡ done y)
then_ok true d r y e = absurd cc
then_ok false d r y e = (refl, e)

-- what a reader took from the front
pub record Takes (bytes text rest : List ℕ) : Type 0 where
  pub parts : bytes ≡ text ++ rest
  pub rest_fits : IsBytes rest

-- a number of two bytes
pub number_takes : (bytes : List ℕ) (n : ℕ) (rest : List ℕ) → IsBytes bytes → fixed 2 number bytes ≡ Ok (n, rest) → Takes bytes (number_bytes n) rest × (n < 2 ^ 16)
number_takes bytes n rest fits e =
    let g = guard_ok (ltb (length bytes) 2) 0 (number (take 2 bytes), drop 2 bytes) (n, rest) e in
    let long : 2 ≤ length bytes = ltb-false _ _ g.0 in
    let back = number_back (take 2 bytes) (omega (arith, length-take 2 bytes)) (IsBytes-take 2 bytes fits) in
    let whole : Takes bytes (number_bytes (number (take 2 bytes))) (drop 2 bytes) = record { parts = sym (take-append-drop 2 bytes) ∙ ap (λ (t : List ℕ). t ++ drop 2 bytes) (sym back.0); rest_fits = IsBytes-drop 2 bytes fits } in
    subst (λ (p : ℕ × List ℕ). Takes bytes (number_bytes p.0) p.1 × (p.0 < 2 ^ 16)) g.1 (whole, back.1)

pub number_again_at : (n : ℕ) (rest : List ℕ) → n < 2 ^ 16 → fixed 2 number (number_bytes n ++ rest) ≡ Ok (n, rest)
number_again_at n rest h = fixed_again 2 number (number_bytes n) rest refl ∙ ap (λ (k : ℕ). Ok (k, rest)) (number_again n h)

-- ---- texts

text_takes : (len : ℕ) (bytes : List ℕ) (x : PoolEntry × List ℕ) (r : Result (List ℕ) ℕ) → IsBytes bytes → len < 2 ^ 16 → name_in (take len bytes) ≡ r → text_found len bytes r ≡ Ok x
    → (1 ∷ (number_bytes len ++ bytes) ≡ entry_bytes x.0 ++ x.1) × IsEntry x.0 × IsBytes x.1
text_takes len bytes x (Err at) fits small e h = absurd cc
text_takes len bytes x (Ok name) fits small e h =
    let g = guard_ok (ltb (length bytes) len) 0 (entries.Utf8 name, drop len bytes) x h in
    let long : len ≤ length bytes = ltb-false _ _ g.0 in
    let found = reads_it (take len bytes) (Ok name) e in
    let len-is : length (spelling name) ≡ len = omega (arith, length-take len bytes, ap length found.1) in
    let whole : 1 ∷ (number_bytes len ++ bytes) ≡ 1 ∷ (number_bytes (length (spelling name)) ++ spelling name) ++ drop len bytes =
    ap (λ (t : List ℕ). 1 ∷ t)
    (ap (λ (t : List ℕ). number_bytes len ++ t) (sym (take-append-drop len bytes) ∙ ap (λ (t : List ℕ). t ++ drop len bytes) found.1)
    ∙ ap (λ (k : ℕ). number_bytes k ++ (spelling name ++ drop len bytes)) (sym len-is)
    ∙ sym (append_assoc (number_bytes (length (spelling name))) (spelling name) (drop len bytes))) in
    subst (λ (y : PoolEntry × List ℕ). (1 ∷ (number_bytes len ++ bytes) ≡ entry_bytes y.0 ++ y.1) × IsEntry y.0 × IsBytes y.1) g.1 (whole, (found.0, omega arith), IsBytes-drop len bytes fits)

text_found_takes : (bytes : List ℕ) (x : PoolEntry × List ℕ) → IsBytes bytes → text_behind bytes ≡ Ok x → (1 ∷ bytes ≡ entry_bytes x.0 ++ x.1) × IsEntry x.0 × IsBytes x.1
unfolding text_behind
text_found_takes bytes x fits e =
    let a = bind_ok (fixed 2 number bytes) (λ len. text_found len.0 len.1 (name_in (take len.0 len.1))) x e in
    let t = number_takes bytes a.0.0 a.0.1 fits a.1 in
    let w = text_takes a.0.0 a.0.1 x (name_in (take a.0.0 a.0.1)) t.0.rest_fits t.1 refl a.2 in
    (ap (λ (b : List ℕ). 1 ∷ b) t.0.parts ∙ w.0, w.1, w.2)

text_again : (name rest : List ℕ) → IsName name → length (spelling name) < 2 ^ 16 → text_behind (number_bytes (length (spelling name)) ++ (spelling name ++ rest)) ≡ Ok (entries.Utf8 name, rest)
unfolding text_behind
text_again name rest is small =
    let len = length (spelling name) in
    let text : take len (spelling name ++ rest) ≡ spelling name = take_at (spelling name) rest len refl in
    let read : name_in (take len (spelling name ++ rest)) ≡ Ok name = ap name_in text ∙ is_exact (spelling name) (Ok name) (is, refl) in
    let long : ltb (length (spelling name ++ rest)) len ≡ false = le-ltb _ _ (omega (arith, length-append (spelling name) rest)) in
    ap (λ (r : Result (ℕ × List ℕ) ℕ). r >>= λ len. text_found len.0 len.1 (name_in (take len.0 len.1))) (number_again_at len (spelling name ++ rest) small)
    ∙ ap (λ (r : Result (List ℕ) ℕ). text_found len (spelling name ++ rest) r) read
    ∙ rw (long, drop_at (spelling name) rest len refl) refl

-- ---- entries

pub behind : (last : Bool) (tag : ℕ) (bytes : List ℕ) → (tag == 1) ≡ false → (last && (tag == 5 || tag == 6)) ≡ false → entry_at last (tag ∷ bytes) ≡ plain_behind tag bytes
unfolding entry_at
behind last tag bytes one five = rw (one, five) refl

and_false : (last : Bool) → (last && false) ≡ false
and_false true = refl
and_false false = refl

plain_entry : (last : Bool) (tag : ℕ) (body rest : List ℕ) (e : PoolEntry) → (tag == 1) ≡ false → (tag == 5 || tag == 6) ≡ false → IsPlain tag body e → entry_at last (entry_bytes e ++ rest) ≡ Ok (e, rest)
plain_entry last tag body rest e one five plain =
    ap (λ (t : List ℕ). entry_at last (t ++ rest)) plain.0 ∙ behind last tag (body ++ rest) one (ap (λ (b : Bool). last && b) five ∙ and_false last) ∙ plain.1 rest

pub text_entry : (last : Bool) (bytes : List ℕ) → entry_at last (1 ∷ bytes) ≡ text_behind bytes
unfolding entry_at
text_entry last bytes = refl

pub entry_again : (last : Bool) (e : PoolEntry) (rest : List ℕ) → IsEntry e → (last ≡ true → is_wide e ≡ false) → entry_at last (entry_bytes e ++ rest) ≡ Ok (e, rest)
entry_again last (entries.Utf8 name) rest h small =
    text_entry last ((number_bytes (length (spelling name)) ++ spelling name) ++ rest) ∙ ap text_behind (append_assoc (number_bytes (length (spelling name))) (spelling name) rest) ∙ text_again name rest h.0 h.1
entry_again last (entries.Integer v) rest h small = behind last 3 _ refl (and_false last) ∙ integer_again v rest h
entry_again last (entries.Float v) rest h small = behind last 4 _ refl (and_false last) ∙ float_again v rest h
entry_again false (entries.Long v) rest h small = behind false 5 _ refl refl ∙ long_again v rest h
entry_again true (entries.Long v) rest h small = absurd (cc (small refl))
entry_again false (entries.Double v) rest h small = behind false 6 _ refl refl ∙ double_again v rest h
entry_again true (entries.Double v) rest h small = absurd (cc (small refl))
entry_again last (entries.Class n) rest h small = plain_entry last 7 _ rest _ refl refl (class_again n h)
entry_again last (entries.String n) rest h small = plain_entry last 8 _ rest _ refl refl (string_again n h)
entry_again last (entries.Field m n) rest h small = plain_entry last 9 _ rest _ refl refl (field_again m n h.0 h.1)
entry_again last (entries.Method m n) rest h small = plain_entry last 10 _ rest _ refl refl (method_again m n h.0 h.1)
entry_again last (entries.InterfaceMethod m n) rest h small = plain_entry last 11 _ rest _ refl refl (interface_method_again m n h.0 h.1)
entry_again last (entries.NameAndType m n) rest h small = plain_entry last 12 _ rest _ refl refl (name_and_type_again m n h.0 h.1)
entry_again last (entries.MethodHandle kind n) rest h small = plain_entry last 15 _ rest _ refl refl (method_handle_again kind n h.1)
entry_again last (entries.MethodType n) rest h small = plain_entry last 16 _ rest _ refl refl (method_type_again n h)
entry_again last (entries.InvokeDynamic m n) rest h small = plain_entry last 18 _ rest _ refl refl (invoke_dynamic_again m n h.0 h.1)
entry_again last entries.Unusable rest h small = absurd h

-- what is read as the last entry isn't wide
head_is : (a b : ℕ) (x y : List ℕ) → a ∷ x ≡ b ∷ y → a ≡ b
head_is a b x y e = cc

pub narrow : (tag : ℕ) (bytes : List ℕ) (e : PoolEntry) (rest : List ℕ) → tag ∷ bytes ≡ entry_bytes e ++ rest → (tag == 5 || tag == 6) ≡ false → is_wide e ≡ false
narrow tag bytes (entries.Long v) rest e apart = absurd (cc (subst (λ (t : ℕ). (t == 5 || t == 6) ≡ false) (head_is _ _ _ _ e) apart))
narrow tag bytes (entries.Double v) rest e apart = absurd (cc (subst (λ (t : ℕ). (t == 5 || t == 6) ≡ false) (head_is _ _ _ _ e) apart))
narrow tag bytes (entries.Utf8 name) rest e apart = refl
narrow tag bytes (entries.Integer v) rest e apart = refl
narrow tag bytes (entries.Float v) rest e apart = refl
narrow tag bytes (entries.Class n) rest e apart = refl
narrow tag bytes (entries.String n) rest e apart = refl
narrow tag bytes (entries.Field m n) rest e apart = refl
narrow tag bytes (entries.Method m n) rest e apart = refl
narrow tag bytes (entries.InterfaceMethod m n) rest e apart = refl
narrow tag bytes (entries.NameAndType m n) rest e apart = refl
narrow tag bytes (entries.MethodHandle k n) rest e apart = refl
narrow tag bytes (entries.MethodType n) rest e apart = refl
narrow tag bytes (entries.InvokeDynamic m n) rest e apart = refl
narrow tag bytes entries.Unusable rest e apart = refl

-- an entry that was read
pub record Found (last : Bool) (bytes : List ℕ) (x : PoolEntry × List ℕ) : Type 0 where
  pub takes : Takes bytes (entry_bytes x.0) x.1
  pub entry : IsEntry x.0
  pub narrow : last ≡ true → is_wide x.0 ≡ false

found_behind : (last : Bool) (tag : ℕ) (bytes : List ℕ) (x : PoolEntry × List ℕ) (text two : Bool) → (tag == 1) ≡ text → (tag == 5 || tag == 6) ≡ two → IsBytes bytes
    → cond text (text_behind bytes) (cond (last && two) (Err (length bytes + 1)) (plain_behind tag bytes)) ≡ Ok x → Found last (tag ∷ bytes) x
found_behind last tag bytes x true two one wide fits e =
    let f = text_found_takes bytes x fits e in
    let tag-is : tag ≡ 1 = eqb-true _ _ one in
    let parts : tag ∷ bytes ≡ entry_bytes x.0 ++ x.1 = ap (λ (t : ℕ). t ∷ bytes) tag-is ∙ f.0 in
    record { takes = record { parts = parts; rest_fits = f.2 }; entry = f.1; narrow = λ _. narrow tag bytes x.0 x.1 parts (subst (λ (t : ℕ). (t == 5 || t == 6) ≡ false) (sym tag-is) refl) }
found_behind true tag bytes x false true one wide fits e = absurd cc
found_behind true tag bytes x false false one wide fits e =
    let f = plain_found tag bytes x fits e in record { takes = record { parts = f.0; rest_fits = f.2 }; entry = f.1; narrow = λ _. narrow tag bytes x.0 x.1 f.0 wide }
found_behind false tag bytes x false two one wide fits e =
    let f = plain_found tag bytes x fits e in record { takes = record { parts = f.0; rest_fits = f.2 }; entry = f.1; narrow = λ wide. absurd cc }

pub entry_found : (last : Bool) (bytes : List ℕ) (x : PoolEntry × List ℕ) → IsBytes bytes → entry_at last bytes ≡ Ok x → Found last bytes x
unfolding entry_at
entry_found last [] x fits e = absurd cc
entry_found last (tag ∷ bytes) x fits e = found_behind last tag bytes x (tag == 1) (tag == 5 || tag == 6) refl refl (λ i. fits (suc i)) e

-- ---- slots

pub slots_take : (n : ℕ) (wide : Bool) (bytes : List ℕ) (x : List PoolEntry × List ℕ) → IsBytes bytes → (n ≡ 0 → wide ≡ false) → slots_in wide n bytes ≡ Ok x
    → Takes bytes (flat_map entry_bytes x.0) x.1 × AreSlots wide x.0 × (length x.0 ≡ n)
unfolding slots_in
slots_take zero wide bytes x fits narrow e =
    subst (λ (y : List PoolEntry × List ℕ). Takes bytes (flat_map entry_bytes y.0) y.1 × AreSlots wide y.0 × (length y.0 ≡ 0)) (ok_is ([], bytes) x e) (record { parts = refl; rest_fits = fits }, narrow refl, refl)
slots_take (suc n) true bytes x fits narrow e =
    let b = bind_ok (slots_in false n bytes) (λ others. Ok (entries.Unusable ∷ others.0, others.1)) x e in
    let others = slots_take n false bytes b.0 fits (λ _. refl) b.1 in
    let made : List PoolEntry × List ℕ = (entries.Unusable ∷ b.0.0, b.0.1) in
    subst (λ (y : List PoolEntry × List ℕ). Takes bytes (flat_map entry_bytes y.0) y.1 × AreSlots true y.0 × (length y.0 ≡ suc n)) (ok_is made x b.2)
    (record { parts = others.0.parts ∙ ap (λ (t : List ℕ). t ++ b.0.1) (sym (flat_map-cons entry_bytes entries.Unusable b.0.0)); rest_fits = others.0.rest_fits }, (refl, others.1), ap suc others.2)
slots_take (suc n) false bytes x fits narrow e =
    let a = bind_ok (entry_at (n == 0) bytes) (λ entry. slots_in (is_wide entry.0) n entry.1 >>= λ others. Ok (entry.0 ∷ others.0, others.1)) x e in
    let b = bind_ok (slots_in (is_wide a.0.0) n a.0.1) (λ others. Ok (a.0.0 ∷ others.0, others.1)) x a.2 in
    let f = entry_found (n == 0) bytes a.0 fits a.1 in
    let others = slots_take n (is_wide a.0.0) a.0.1 b.0 f.takes.rest_fits (λ none. f.narrow (ap (λ (k : ℕ). k == 0) none)) b.1 in
    let made : List PoolEntry × List ℕ = (a.0.0 ∷ b.0.0, b.0.1) in
    let whole : bytes ≡ flat_map entry_bytes (a.0.0 ∷ b.0.0) ++ b.0.1 =
    f.takes.parts ∙ ap (λ (t : List ℕ). entry_bytes a.0.0 ++ t) others.0.parts ∙ sym (append_assoc (entry_bytes a.0.0) (flat_map entry_bytes b.0.0) b.0.1) ∙ ap (λ (t : List ℕ). t ++ b.0.1) (sym (flat_map-cons entry_bytes a.0.0 b.0.0)) in
    subst (λ (y : List PoolEntry × List ℕ). Takes bytes (flat_map entry_bytes y.0) y.1 × AreSlots false y.0 × (length y.0 ≡ suc n)) (ok_is made x b.2)
    (record { parts = whole; rest_fits = others.0.rest_fits }, (f.entry, others.1), ap suc others.2)

last_narrow : (wide : Bool) (es : List PoolEntry) → AreSlots wide es → (length es == 0) ≡ true → wide ≡ false
last_narrow wide [] h e = h
last_narrow wide (x ∷ es) h e = absurd (omega (arith, eqb-true (length (x ∷ es)) 0 e))

pub slots_again : (wide : Bool) (es : List PoolEntry) (rest : List ℕ) → AreSlots wide es → slots_in wide (length es) (flat_map entry_bytes es ++ rest) ≡ Ok (es, rest)
unfolding slots_in
slots_again wide [] rest h = refl
slots_again true (e ∷ es) rest h =
    rw h.0 (ap (λ (r : Result (List PoolEntry × List ℕ) ℕ). r >>= λ others. Ok (entries.Unusable ∷ others.0, others.1)) (slots_again false es rest h.1))
slots_again false (e ∷ es) rest h =
    let regrouped : flat_map entry_bytes (e ∷ es) ++ rest ≡ entry_bytes e ++ (flat_map entry_bytes es ++ rest) = ap (λ (t : List ℕ). t ++ rest) (flat_map-cons entry_bytes e es) ∙ append_assoc (entry_bytes e) (flat_map entry_bytes es) rest in
    let one : entry_at (length es == 0) (flat_map entry_bytes (e ∷ es) ++ rest) ≡ Ok (e, flat_map entry_bytes es ++ rest) =
    ap (entry_at (length es == 0)) regrouped ∙ entry_again (length es == 0) e (flat_map entry_bytes es ++ rest) h.0 (last_narrow (is_wide e) es h.1) in
    ap (λ (r : Result (PoolEntry × List ℕ) ℕ). r >>= λ entry. slots_in (is_wide entry.0) (length es) entry.1 >>= λ others. Ok (entry.0 ∷ others.0, others.1)) one
    ∙ ap (λ (r : Result (List PoolEntry × List ℕ) ℕ). r >>= λ others. Ok (e ∷ others.0, others.1)) (slots_again (is_wide e) es rest h.1)

-- ---- the pool

pub pool_takes : (bytes : List ℕ) (x : List PoolEntry × List ℕ) → IsBytes bytes → pool_at bytes ≡ Ok x → Takes bytes (pool_bytes x.0) x.1 × IsLayout x.0
unfolding pool_at
pool_takes bytes x fits e =
    let a = bind_ok (fixed 2 number bytes) (λ count. cond (count.0 == 0) (Err (length count.1 + 1)) (slots_in false (count.0 - 1) count.1)) x e in
    let t = number_takes bytes a.0.0 a.0.1 fits a.1 in
    let g = then_ok (a.0.0 == 0) (length a.0.1 + 1) (slots_in false (a.0.0 - 1) a.0.1) x a.2 in
    let s = slots_take (a.0.0 - 1) false a.0.1 x t.0.rest_fits (λ _. refl) g.1 in
    let some : a.0.0 ≡ 0 → ⊥ = λ none. absurd (cc (sym g.0 ∙ ap (λ (k : ℕ). k == 0) none)) in
    let count : length x.0 + 1 ≡ a.0.0 = omega (arith, s.2, some) in
    let whole : bytes ≡ pool_bytes x.0 ++ x.1 =
    t.0.parts ∙ ap (λ (r : List ℕ). number_bytes a.0.0 ++ r) s.0.parts ∙ sym (append_assoc (number_bytes a.0.0) (flat_map entry_bytes x.0) x.1) ∙ ap (λ (k : ℕ). number_bytes k ++ flat_map entry_bytes x.0 ++ x.1) (sym count) in
    (record { parts = whole; rest_fits = s.0.rest_fits }, (omega (arith, count, t.1), s.1))

pub pool_again : (pool : List PoolEntry) (rest : List ℕ) → IsLayout pool → pool_at (pool_bytes pool ++ rest) ≡ Ok (pool, rest)
unfolding pool_at
pool_again pool rest h =
    let n = length pool + 1 in
    let behind_count : List ℕ = flat_map entry_bytes pool ++ rest in
    let regrouped : pool_bytes pool ++ rest ≡ number_bytes n ++ behind_count = append_assoc (number_bytes n) (flat_map entry_bytes pool) rest in
    let one : fixed 2 number (pool_bytes pool ++ rest) ≡ Ok (n, behind_count) = ap (λ (t : List ℕ). fixed 2 number t) regrouped ∙ number_again_at n behind_count h.0 in
    let some : (n == 0) ≡ false = ne_eqb n 0 (λ e. omega arith) in
    let less : n - 1 ≡ length pool = omega arith in
    ap (λ (r : Result (ℕ × List ℕ) ℕ). r >>= λ count. cond (count.0 == 0) (Err (length count.1 + 1)) (slots_in false (count.0 - 1) count.1)) one
    ∙ rw (some, less) (slots_again false pool rest h.1)
