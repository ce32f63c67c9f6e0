-- Where the bytes of a pool first fail.
use Rattle.std.proofs.Common.{◌≡◌, ℕ, zero, suc, ◌+◌, ◌-◌, ◌*◌, ◌^◌, ◌<◌, ◌≤◌, Bool, true, false, cond, ltb, List, [], ◌∷◌, ◌++◌, length, get_or, take, drop, Result, Ok, Err, refl, sym, ap, subst, ◌∙◌, ◌⊎◌, inl, inr, append_assoc, arith, lit<}
use Rattle.std.specs.Prelude.{◌==◌, ◌&&◌, ◌||◌, replicate}
use Rattle.std.specs.List.{flat_map}
use Rattle.std.proofs.lemmas.Bool.{ltb-false, ltb-true, eqb-true, cases_lt}
use Rattle.std.proofs.lemmas.List.{take-append-drop, length-append, length-take, append-nil, take-take, length-replicate, take_all, get_or-replicate, get_or_past, nil_from_length}
use Rattle.std.proofs.lemmas.List.Concat.{flat_map-cons}
use Rattle.std.proofs.Math.Seq.{take-append-add}
use Rattle.wv_base.specs.declared.class_file.PoolEntry.{PoolEntry}
use Rattle.wv_base.specs.declared.class_file.PoolEntry.TheVariants as entries
use Rattle.wv_base.specs.Modified.{spelling, IsName, IsFault}
use Rattle.wv_base.specs.ModifiedReading.{name_in}
use Rattle.wv_base.proofs.NameSpelling.{reads_it}
use Rattle.wv_pool.specs.Reading.{◌>>=◌, fixed, number, text_place, text_found, text_behind, is_wide, plain_behind, entry_at, slots_in, pool_at}
use Rattle.wv_pool.specs.Entries.{number_bytes, entry_bytes, IsEntry, AreSlots, IsLayout, pool_bytes}
use Rattle.wv_pool.specs.Layout.{IsLayoutFault}
use Rattle.wv_pool.proofs.PlainEntries.{IsBytes, number_back, plain_form, Plain, of_fixed, of_none}
use Rattle.wv_pool.proofs.Slots.{bind_ok, ok_is, number_takes, number_again_at, entry_again, entry_found, pool_again, narrow, behind, text_entry, guard_ok}
use Rattle.wv_pool.proofs.TextFaults.{TextBegins, text_stops, filled, letters_spell}

-- what is read stops so many bytes before the end: the bytes up to there begin something that is spelled, and with one more they can't be read
pub record Stops {A : Type 0} (read : List ℕ → Result (A × List ℕ) ℕ) (spelled : List ℕ → Type 0) (bytes : List ℕ) (left : ℕ) : Type 0 where
  pub within : left ≤ length bytes
  pub begins : (more : List ℕ) × spelled (take (length bytes - left) bytes ++ more)
  pub none : 0 < left → (more : List ℕ) (x : A × List ℕ) → read (take (length bytes - left + 1) bytes ++ more) ≡ Ok x → ⊥

-- an entry's bytes
abbrev EntrySpelled : Bool → List ℕ → Type 0
EntrySpelled last bytes = (e : PoolEntry) × IsEntry e × (last ≡ true → is_wide e ≡ false) × (bytes ≡ entry_bytes e)

abbrev SlotsSpelled : Bool → ℕ → List ℕ → Type 0
SlotsSpelled wide n bytes = (es : List PoolEntry) × AreSlots wide es × (length es ≡ n) × (bytes ≡ flat_map entry_bytes es)

abbrev zero_entry : PoolEntry
zero_entry = entries.Float 0

zeros : (k : ℕ) → IsBytes (replicate k 0)
zeros k i = elim (cases_lt i k) [
  | inl lt ↦ rw (get_or-replicate {A = ℕ} k i 0 0 lt) (omega arith)
  | inr past ↦ rw (get_or_past {X = ℕ} (replicate k 0) i 0 (omega (arith, length-replicate {A = ℕ} k 0))) (omega arith)
]

IsBytes-append : (xs ys : List ℕ) → IsBytes xs → IsBytes ys → IsBytes (xs ++ ys)
IsBytes-append [] ys hx hy i = hy i
IsBytes-append (x ∷ xs) ys hx hy zero = hx 0
IsBytes-append (x ∷ xs) ys hx hy (suc i) = IsBytes-append xs ys (λ j. hx (suc j)) hy i

err_is : {A : Type 0} (a b : ℕ) → ◌≡◌ {A = Result A ℕ} (Err a) (Err b) → a ≡ b
err_is a b e = cc

bind_err : {A B : Type 0} (r : Result A ℕ) (f : A → Result B ℕ) (left : ℕ) → (r >>= f) ≡ Err left → (r ≡ Err left) ⊎ ((x : A) × (r ≡ Ok x) × (f x ≡ Err left))
bind_err (Ok x) f left e = inr (x, refl, e)
bind_err (Err d) f left e = inl (cc)

short : {A : Type 0} (n : ℕ) (make : List ℕ → A) (bytes : List ℕ) (left : ℕ) → fixed n make bytes ≡ Err left → (left ≡ 0) × (length bytes < n)
short {A = A} n make bytes left e = go (ltb (length bytes) n) refl e
  where
    go : (b : Bool) → ltb (length bytes) n ≡ b → cond {A = Result (A × List ℕ) ℕ} b (Err 0) (Ok (make (take n bytes), drop n bytes)) ≡ Err left → (left ≡ 0) × (length bytes < n)
    go true t e = (err_is left 0 (sym e), ltb-true _ _ t)
    go false t e = absurd cc

-- at the first byte
at_first : (last : Bool) (bytes : List ℕ) → EntrySpelled last (take (length bytes - length bytes) bytes ++ entry_bytes zero_entry)
at_first last bytes = let none : length bytes - length bytes ≡ 0 = omega arith in (zero_entry, lit< tt, λ _. refl, ap (λ (k : ℕ). take k bytes ++ entry_bytes zero_entry) none)

all_left : (bytes : List ℕ) → take (length bytes - 0) bytes ≡ bytes
all_left bytes = take_all (length bytes - 0) bytes (omega arith)

-- an entry of fixed bytes that ends early
fixed_stops : (last : Bool) (tag : ℕ) (rest : List ℕ) (left n : ℕ) (make : List ℕ → PoolEntry) → IsBytes rest → (last ≡ true → (tag == 5 || tag == 6) ≡ false)
    → ((b : List ℕ) → length b ≡ n → IsBytes b → (entry_bytes (make b) ≡ tag ∷ b) × IsEntry (make b)) → fixed n make rest ≡ Err left → Stops (entry_at last) (EntrySpelled last) (tag ∷ rest) left
fixed_stops last tag rest left n make fits narrowed back e =
    let s = short n make rest left e in
    let more : List ℕ = replicate (n - length rest) 0 in
    let b = back (rest ++ more) (omega (arith, length-append rest more, length-replicate {A = ℕ} (n - length rest) 0, s.1)) (IsBytes-append rest more fits (zeros (n - length rest))) in
    let spelled : EntrySpelled last (tag ∷ rest ++ more) = (make (rest ++ more), b.1, λ l. narrow tag (rest ++ more) (make (rest ++ more)) [] (sym b.0 ∙ sym (append-nil (entry_bytes (make (rest ++ more))))) (narrowed l), sym b.0) in
    rw s.0 (record {
      within = omega arith;
      begins = (more, subst (λ (t : List ℕ). EntrySpelled last (t ++ more)) (sym (all_left (tag ∷ rest))) spelled);
      none = λ some. absurd (omega arith);
    })

first_stops : (last : Bool) (tag : ℕ) (rest : List ℕ) → ((more : List ℕ) (x : PoolEntry × List ℕ) → entry_at last (tag ∷ more) ≡ Ok x → ⊥) → Stops (entry_at last) (EntrySpelled last) (tag ∷ rest) (length rest + 1)
first_stops last tag rest never = record {
  within = omega arith;
  begins = (entry_bytes zero_entry, subst (λ (k : ℕ). EntrySpelled last (take (length (tag ∷ rest) - k) (tag ∷ rest) ++ entry_bytes zero_entry)) (omega arith) (at_first last (tag ∷ rest)));
  none = λ some more x e. let k-is : 1 ≡ length (tag ∷ rest) - (length rest + 1) + 1 = omega arith in never more x (ap (λ (k : ℕ). entry_at last (take k (tag ∷ rest) ++ more)) k-is ∙ e);
}

plain_stops : (last : Bool) (tag : ℕ) (rest : List ℕ) (left : ℕ) → Plain tag → IsBytes rest → (tag == 1) ≡ false → (last && (tag == 5 || tag == 6)) ≡ false → (last ≡ true → (tag == 5 || tag == 6) ≡ false)
    → plain_behind tag rest ≡ Err left → Stops (entry_at last) (EntrySpelled last) (tag ∷ rest) left
plain_stops last tag rest left (of_fixed n make is back) fits one wide narrowed e = fixed_stops last tag rest left n make fits narrowed back (sym (is rest) ∙ e)
plain_stops last tag rest left (of_none is) fits one wide narrowed e =
    rw (err_is left (length rest + 1) (sym e ∙ is rest)) (first_stops last tag rest (λ more x h. let never : ◌≡◌ {A = Result (PoolEntry × List ℕ) ℕ} (Ok x) (Err (length more + 1)) = sym h ∙ behind last tag more one wide ∙ is more in absurd cc))

-- ---- texts

text_spelled : (last : Bool) (len : ℕ) (front more name : List ℕ) → len < 2 ^ 16 → IsName name → front ++ more ≡ spelling name → length (spelling name) ≡ len → EntrySpelled last (1 ∷ (number_bytes len ++ (front ++ more)))
text_spelled last len front more name small is e len-is =
    (entries.Utf8 name, (is, omega arith), λ _. refl, ap (λ (t : List ℕ). 1 ∷ (number_bytes len ++ t)) e ∙ ap (λ (k : ℕ). 1 ∷ (number_bytes k ++ spelling name)) (sym len-is))

text_short : (last : Bool) (rest : List ℕ) (left : ℕ) → IsBytes rest → fixed 2 number rest ≡ Err left → Stops (entry_at last) (EntrySpelled last) (1 ∷ rest) left
text_short last rest left fits e =
    let s = short 2 number rest left e in
    let more : List ℕ = replicate (2 - length rest) 0 in
    let b = number_back (rest ++ more) (omega (arith, length-append rest more, length-replicate {A = ℕ} (2 - length rest) 0, s.1)) (IsBytes-append rest more fits (zeros (2 - length rest))) in
    let len : ℕ = number (rest ++ more) in
    let letters = letters_spell len in
    let spelled : EntrySpelled last (1 ∷ (number_bytes len ++ ([] ++ replicate len 97))) = text_spelled last len [] (replicate len 97) (replicate len 97) b.1 letters.1 (sym letters.0) (ap length letters.0 ∙ length-replicate {A = ℕ} len 97) in
    let regrouped : 1 ∷ (number_bytes len ++ replicate len 97) ≡ (1 ∷ rest) ++ (more ++ replicate len 97) =
    ap (λ (t : List ℕ). 1 ∷ (t ++ replicate len 97)) b.0 ∙ ap (λ (t : List ℕ). 1 ∷ t) (append_assoc rest more (replicate len 97)) in
    rw s.0 (record {
      within = omega arith;
      begins = (more ++ replicate len 97, subst (EntrySpelled last) (regrouped ∙ ap (λ (t : List ℕ). t ++ (more ++ replicate len 97)) (sym (all_left (1 ∷ rest)))) spelled);
      none = λ some. absurd (omega arith);
    })

-- behind its length, a text stops where TextBegins does
text_stopped : (last : Bool) (len place left : ℕ) (bytes rest : List ℕ) → len < 2 ^ 16 → bytes ≡ 1 ∷ (number_bytes len ++ rest) → place + left ≡ length rest → TextBegins len (take place rest)
    → (0 < left → TextBegins len (take (place + 1) rest) → ⊥) → (0 < left → place + 1 ≤ len) → Stops (entry_at last) (EntrySpelled last) bytes left
text_stopped last len place left bytes rest small bytes-is sum begun none room =
    let long : length bytes ≡ 3 + length rest = omega (arith, ap length bytes-is) in
    let front : (j : ℕ) → take (3 + j) bytes ≡ 1 ∷ (number_bytes len ++ take j rest) = λ j. ap (λ (t : List ℕ). take (3 + j) t) bytes-is ∙ take-append-add (1 ∷ number_bytes len) rest j in
    let spelled : EntrySpelled last (1 ∷ (number_bytes len ++ (take place rest ++ begun.0))) = text_spelled last len (take place rest) begun.0 begun.1 small begun.2 begun.3 begun.4 in
    record {
      within = omega arith;
      begins = (begun.0, subst (EntrySpelled last) (ap (λ (t : List ℕ). 1 ∷ t) (sym (append_assoc (number_bytes len) (take place rest) begun.0)) ∙ ap (λ (t : List ℕ). t ++ begun.0) (sym (front place) ∙ ap (λ (k : ℕ). take k bytes) (omega arith))) spelled);
      none = λ some more x e.
          let y : List ℕ = take (place + 1) rest ++ more in
          let same : take (length bytes - left + 1) bytes ++ more ≡ 1 ∷ (number_bytes len ++ y) =
          ap (λ (k : ℕ). take k bytes ++ more) (omega arith) ∙ ap (λ (t : List ℕ). t ++ more) (front (place + 1)) ∙ ap (λ (t : List ℕ). 1 ∷ t) (append_assoc (number_bytes len) (take (place + 1) rest) more) in
          read_text len place rest more x small (room some) (omega arith) (none some) (sym (text_entry last (number_bytes len ++ y)) ∙ ap (entry_at last) (sym same) ∙ e);
    }
  where
    read_text : (len place : ℕ) (rest more : List ℕ) (x : PoolEntry × List ℕ) → len < 2 ^ 16 → place + 1 ≤ len → place < length rest → (TextBegins len (take (place + 1) rest) → ⊥) → text_behind (number_bytes len ++ (take (place + 1) rest ++ more)) ≡ Ok x → ⊥
    read_text len place rest more x small room here none e =
        let y : List ℕ = take (place + 1) rest ++ more in
        let found : text_found len y (name_in (take len y)) ≡ Ok x = ap (λ (r : Result (ℕ × List ℕ) ℕ). r >>= λ n. text_found n.0 n.1 (name_in (take n.0 n.1))) (sym (number_again_at len y small)) ∙ unfold text_behind in e in
        go (name_in (take len y)) refl found
      where
        go : (r : Result (List ℕ) ℕ) → name_in (take len (take (place + 1) rest ++ more)) ≡ r → text_found len (take (place + 1) rest ++ more) r ≡ Ok x → ⊥
        go (Err at) is h = absurd cc
        go (Ok name) is h =
            let y : List ℕ = take (place + 1) rest ++ more in
            let g = guard_ok (ltb (length y) len) 0 (entries.Utf8 name, drop len y) x h in
            let enough : len ≤ length y = ltb-false _ _ g.0 in
            let read = reads_it (take len y) (Ok name) is in
            let front-len : length (take (place + 1) rest) ≡ place + 1 = omega (arith, length-take (place + 1) rest) in
            let parts : take len y ≡ take (place + 1) rest ++ take (len - (place + 1)) more =
            ap (λ (k : ℕ). take k y) (omega (arith, front-len)) ∙ take-append-add (take (place + 1) rest) more (len - (place + 1)) in
            none (take (len - (place + 1)) more, name, read.0, sym parts ∙ read.1, omega (arith, length-take len y, ap length read.1))

text_found_stops : (last : Bool) (bytes rest : List ℕ) (len left : ℕ) (r : Result (List ℕ) ℕ) → len < 2 ^ 16 → bytes ≡ 1 ∷ (number_bytes len ++ rest) → name_in (take len rest) ≡ r → text_found len rest r ≡ Err left → Stops (entry_at last) (EntrySpelled last) bytes left
text_found_stops last bytes rest len left (Ok name) small bytes-is is e =
    go (ltb (length rest) len) refl e
  where
    go : (b : Bool) → ltb (length rest) len ≡ b → cond {A = Result (PoolEntry × List ℕ) ℕ} b (Err 0) (Ok (entries.Utf8 name, drop len rest)) ≡ Err left → Stops (entry_at last) (EntrySpelled last) bytes left
    go false t e = absurd cc
    go true t e =
        let less : length rest < len = ltb-true _ _ t in
        let none_left : left ≡ 0 = err_is left 0 (sym e) in
        let read = reads_it (take len rest) (Ok name) is in
        let all : take len rest ≡ rest = take_all len rest (omega arith) in
        let whole : TextBegins len (spelling name) = filled len name read.0 (omega (arith, ap length (sym all ∙ read.1))) in
        let spelled_is : take (length rest) rest ≡ spelling name = take_all (length rest) rest (omega arith) ∙ sym all ∙ read.1 in
        let begun : TextBegins len (take (length rest) rest) = subst (TextBegins len) (sym spelled_is) whole in
        rw none_left (text_stopped last len (length rest) 0 bytes rest small bytes-is (omega arith) begun (λ some. absurd (omega arith)) (λ some. absurd (omega arith)))
text_found_stops last bytes rest len left (Err at) small bytes-is is e =
    let fault = reads_it (take len rest) (Err at) is in
    let shorter : length (take len rest) ≤ len = omega (arith, length-take len rest) in
    let stop = text_stops len (take len rest) at shorter fault in
    let place : ℕ = text_place (take len rest) len at in
    let left-is : left ≡ length rest - place = err_is left (length rest - place) (sym e) in
    let low : place ≤ len = omega (arith, stop.within, shorter) in
    let begun : TextBegins len (take place rest) = subst (TextBegins len) (take-take place len rest low) stop.begins in
    let inside : place < length (take len rest) → place + 1 ≤ len = λ lt. omega (arith, shorter) in
    rw left-is (text_stopped last len place (length rest - place) bytes rest small bytes-is (omega (arith, stop.within, length-take len rest)) begun
    (λ some t. elim (cases_lt place (length (take len rest))) [
      | inl lt ↦ stop.none lt (subst (TextBegins len) (sym (take-take (place + 1) len rest (inside lt))) t)
      | inr ge ↦ long_text some ge stop.begins fault stop.within
    ])
    (λ some. elim (cases_lt place (length (take len rest))) [
      | inl lt ↦ inside lt
      | inr ge ↦ absurd (long_text some ge stop.begins fault stop.within)
    ]))
  where
    -- a text that is there to its end, and begins one of so many bytes, is one
    long_text : {place : ℕ} → 0 < length rest - place → length (take len rest) ≤ place → TextBegins len (take place (take len rest)) → IsFault (take len rest) at → place ≤ length (take len rest) → ⊥
    long_text {place = place} some ge t fault le =
        let full : length (take len rest) ≡ len = omega (arith, length-take len rest) in
        let same : take place (take len rest) ≡ take len rest = take_all place (take len rest) ge in
        let nothing : t.0 ≡ [] = nil_from_length t.0 (omega (arith, ap length t.3, length-append (take place (take len rest)) t.0, ap length same, t.4)) in
        fault.not_spelled (t.1, t.2, sym same ∙ sym (append-nil (take place (take len rest))) ∙ ap (λ (m : List ℕ). take place (take len rest) ++ m) (sym nothing) ∙ t.3)

text_behind_stops : (last : Bool) (rest : List ℕ) (left : ℕ) → IsBytes rest → text_behind rest ≡ Err left → Stops (entry_at last) (EntrySpelled last) (1 ∷ rest) left
unfolding text_behind
text_behind_stops last rest left fits e = elim (bind_err (fixed 2 number rest) (λ len. text_found len.0 len.1 (name_in (take len.0 len.1))) left e) [
  | inl ended ↦ text_short last rest left fits ended
  | inr read ↦
      let t = number_takes rest read.0.0 read.0.1 fits read.1 in
      text_found_stops last (1 ∷ rest) read.0.1 read.0.0 left (name_in (take read.0.0 read.0.1)) t.1 (ap (λ (b : List ℕ). 1 ∷ b) t.0.parts) refl read.2
]

-- ---- entries

too_wide : (tag : ℕ) (more : List ℕ) → (tag == 1) ≡ false → (tag == 5 || tag == 6) ≡ true → entry_at true (tag ∷ more) ≡ Err (length more + 1)
unfolding entry_at
too_wide tag more one wide = rw (one, wide) refl

entry_behind_stops : (last : Bool) (tag : ℕ) (rest : List ℕ) (left : ℕ) (text two : Bool) → (tag == 1) ≡ text → (tag == 5 || tag == 6) ≡ two → IsBytes rest
    → cond text (text_behind rest) (cond (last && two) (Err (length rest + 1)) (plain_behind tag rest)) ≡ Err left → Stops (entry_at last) (EntrySpelled last) (tag ∷ rest) left
entry_behind_stops last tag rest left true two one wide fits e =
    let tag-is : tag ≡ 1 = eqb-true _ _ one in
    subst (λ (t : ℕ). Stops (entry_at last) (EntrySpelled last) (t ∷ rest) left) (sym tag-is) (text_behind_stops last rest left fits e)
entry_behind_stops true tag rest left false true one wide fits e =
    rw (err_is left (length rest + 1) (sym e)) (first_stops true tag rest (λ more x h. absurd (cc (too_wide tag more one wide))))
entry_behind_stops true tag rest left false false one wide fits e = plain_stops true tag rest left (plain_form tag) fits one wide (λ _. wide) e
entry_behind_stops false tag rest left false two one wide fits e = plain_stops false tag rest left (plain_form tag) fits one refl (λ no_. absurd cc) e

entry_stops : (last : Bool) (bytes : List ℕ) (left : ℕ) → IsBytes bytes → entry_at last bytes ≡ Err left → Stops (entry_at last) (EntrySpelled last) bytes left
unfolding entry_at
entry_stops last [] left fits e = rw (err_is left 0 (sym e)) (record { within = omega arith; begins = (entry_bytes zero_entry, at_first last []); none = λ some. absurd (omega arith) })
entry_stops last (tag ∷ rest) left fits e = entry_behind_stops last tag rest left (tag == 1) (tag == 5 || tag == 6) refl refl (λ i. fits (suc i)) e

-- ---- slots

fillers : Bool → ℕ → List PoolEntry
fillers wide zero = []
fillers true (suc n) = entries.Unusable ∷ fillers false n
fillers false (suc n) = zero_entry ∷ fillers false n

fillers_fit : (n : ℕ) (wide : Bool) → (n ≡ 0 → wide ≡ false) → AreSlots wide (fillers wide n) × (length (fillers wide n) ≡ n)
unfolding fillers
fillers_fit zero wide narrowed = (narrowed refl, refl)
fillers_fit (suc n) true narrowed = let f = fillers_fit n false (λ _. refl) in ((refl, f.0), ap suc f.1)
fillers_fit (suc n) false narrowed = let f = fillers_fit n false (λ _. refl) in ((lit< tt, f.0), ap suc f.1)

-- what stops behind bytes that are whole
take_behind : (front rest bytes : List ℕ) (left more : ℕ) → left ≤ length rest → bytes ≡ front ++ rest → take (length bytes - left + more) bytes ≡ front ++ take (length rest - left + more) rest
take_behind front rest bytes left more le is =
    ap (λ (k : ℕ). take k bytes) (omega (arith, ap length is, length-append front rest)) ∙ ap (λ (t : List ℕ). take (length front + (length rest - left + more)) t) is ∙ take-append-add front rest (length rest - left + more)

front_behind : (front rest bytes : List ℕ) (left : ℕ) → left ≤ length rest → bytes ≡ front ++ rest → take (length bytes - left) bytes ≡ front ++ take (length rest - left) rest
front_behind front rest bytes left le is =
    ap (λ (k : ℕ). take k bytes) (omega arith) ∙ take_behind front rest bytes left 0 le is ∙ ap (λ (k : ℕ). front ++ take k rest) (omega arith)

slots_stops : (n : ℕ) (wide : Bool) (bytes : List ℕ) (left : ℕ) → IsBytes bytes → (n ≡ 0 → wide ≡ false) → slots_in wide n bytes ≡ Err left → Stops (slots_in wide n) (SlotsSpelled wide n) bytes left
unfolding slots_in
slots_stops zero wide bytes left fits narrowed e = absurd cc
slots_stops (suc n) true bytes left fits narrowed e = elim (bind_err (slots_in false n bytes) (λ others. Ok (entries.Unusable ∷ others.0, others.1)) left e) [
  | inl stopped ↦
      let s = slots_stops n false bytes left fits (λ _. refl) stopped in
      record {
        within = s.within;
        begins = (s.begins.0, (entries.Unusable ∷ s.begins.1.0, (refl, s.begins.1.1), ap suc s.begins.1.2, s.begins.1.3 ∙ sym (flat_map-cons entry_bytes entries.Unusable s.begins.1.0)));
        none = λ some more x h. let b = bind_ok (slots_in false n (take (length bytes - left + 1) bytes ++ more)) (λ others. Ok (entries.Unusable ∷ others.0, others.1)) x h in s.none some more b.0 b.1;
      }
  | inr read ↦ let never : ◌≡◌ {A = Result (List PoolEntry × List ℕ) ℕ} (Ok (entries.Unusable ∷ read.0.0, read.0.1)) (Err left) = read.2 in absurd cc
]
slots_stops (suc n) false bytes left fits narrowed e =
    elim (bind_err (entry_at (n == 0) bytes) (λ entry. slots_in (is_wide entry.0) n entry.1 >>= λ others. Ok (entry.0 ∷ others.0, others.1)) left e) [
      | inl stopped ↦ here (entry_stops (n == 0) bytes left fits stopped)
      | inr read ↦ elim (bind_err (slots_in (is_wide read.0.0) n read.0.1) (λ others. Ok (read.0.0 ∷ others.0, others.1)) left read.2) [
        | inl stopped ↦
            let f = entry_found (n == 0) bytes read.0 fits read.1 in
            let narrow_last : n ≡ 0 → is_wide read.0.0 ≡ false = λ none. f.narrow (ap (λ (k : ℕ). k == 0) none) in
            later read.0.0 read.0.1 f.takes.parts f.entry f.narrow (slots_stops n (is_wide read.0.0) read.0.1 left f.takes.rest_fits narrow_last stopped)
        | inr others ↦ let never : ◌≡◌ {A = Result (List PoolEntry × List ℕ) ℕ} (Ok (read.0.0 ∷ others.0.0, others.0.1)) (Err left) = others.2 in absurd cc
      ]
    ]
  where
    here : Stops (entry_at (n == 0)) (EntrySpelled (n == 0)) bytes left → Stops (slots_in false (suc n)) (SlotsSpelled false (suc n)) bytes left
    here s =
        let entry = s.begins.1.0 in
        let rest = fillers (is_wide entry) n in
        let fill = fillers_fit n (is_wide entry) (λ none. s.begins.1.2 (ap (λ (k : ℕ). k == 0) none)) in
        record {
          within = s.within;
          begins = (
            s.begins.0 ++ flat_map entry_bytes rest,
            (
              entry ∷ rest,
              (s.begins.1.1, fill.0),
              ap suc fill.1,
              sym (append_assoc (take (length bytes - left) bytes) s.begins.0 (flat_map entry_bytes rest)) ∙ ap (λ (t : List ℕ). t ++ flat_map entry_bytes rest) s.begins.1.3 ∙ sym (flat_map-cons entry_bytes entry rest),
            ),
          );
          none = λ some more x h.
              let b = bind_ok (entry_at (n == 0) (take (length bytes - left + 1) bytes ++ more)) (λ entry. slots_in (is_wide entry.0) n entry.1 >>= λ others. Ok (entry.0 ∷ others.0, others.1)) x h in
              s.none some more b.0 b.1;
        }

    later : (entry : PoolEntry) (rest : List ℕ) → bytes ≡ entry_bytes entry ++ rest → IsEntry entry → ((n == 0) ≡ true → is_wide entry ≡ false) → Stops (slots_in (is_wide entry) n) (SlotsSpelled (is_wide entry) n) rest left
        → Stops (slots_in false (suc n)) (SlotsSpelled false (suc n)) bytes left
    later entry rest is fit narrow_last s = record {
      within = omega (arith, s.within, ap length is, length-append (entry_bytes entry) rest);
      begins = (
        s.begins.0,
        (
          entry ∷ s.begins.1.0,
          (fit, s.begins.1.1),
          ap suc s.begins.1.2,
          ap (λ (t : List ℕ). t ++ s.begins.0) (front_behind (entry_bytes entry) rest bytes left s.within is) ∙ append_assoc (entry_bytes entry) (take (length rest - left) rest) s.begins.0
              ∙ ap (λ (t : List ℕ). entry_bytes entry ++ t) s.begins.1.3 ∙ sym (flat_map-cons entry_bytes entry s.begins.1.0),
        ),
      );
      none = λ some more x h.
          let y : List ℕ = take (length rest - left + 1) rest ++ more in
          let same : take (length bytes - left + 1) bytes ++ more ≡ entry_bytes entry ++ y =
          ap (λ (t : List ℕ). t ++ more) (take_behind (entry_bytes entry) rest bytes left 1 s.within is) ∙ append_assoc (entry_bytes entry) (take (length rest - left + 1) rest) more in
          let a = bind_ok (entry_at (n == 0) (take (length bytes - left + 1) bytes ++ more)) (λ entry. slots_in (is_wide entry.0) n entry.1 >>= λ others. Ok (entry.0 ∷ others.0, others.1)) x h in
          let first : (entry, y) ≡ a.0 = ok_is (entry, y) a.0 (sym (entry_again (n == 0) entry y fit narrow_last) ∙ ap (entry_at (n == 0)) (sym same) ∙ a.1) in
          let b = bind_ok (slots_in (is_wide a.0.0) n a.0.1) (λ others. Ok (a.0.0 ∷ others.0, others.1)) x a.2 in
          s.none some more b.0 (ap (λ (p : PoolEntry × List ℕ). slots_in (is_wide p.0) n p.1) first ∙ b.1);
    }

-- ---- the pool

abbrev PoolSpelled : List ℕ → Type 0
PoolSpelled bytes = (pool : List PoolEntry) × IsLayout pool × (bytes ≡ pool_bytes pool)

count_short : (bytes : List ℕ) → IsBytes bytes → length bytes < 2 → (more : List ℕ) × PoolSpelled (bytes ++ more)
count_short [] fits lt = (pool_bytes [], ([], (lit< tt, refl), refl))
count_short (c ∷ []) fits lt =
    let b = number_back (c ∷ 1 ∷ []) refl (λ i. two_bytes i) in
    let fill = fillers_fit (256 * c) false (λ _. refl) in
    let count : length (fillers false (256 * c)) + 1 ≡ number (c ∷ 1 ∷ []) = omega (arith, fill.1) in (
      1 ∷ flat_map entry_bytes (fillers false (256 * c)),
      (
        fillers false (256 * c),
        (omega (arith, count, b.1), fill.0),
        ap (λ (t : List ℕ). t ++ flat_map entry_bytes (fillers false (256 * c))) (sym b.0 ∙ ap number_bytes (sym count)),
      ),
    )
  where
    two_bytes : (i : ℕ) → get_or (c ∷ 1 ∷ []) i 0 < 256
    two_bytes zero = fits 0
    two_bytes (suc zero) = lit< tt
    two_bytes (suc (suc i)) = lit< tt
count_short (c ∷ d ∷ bytes) fits lt = absurd (omega arith)

no_count : (more : List ℕ) → pool_at (0 ∷ 0 ∷ more) ≡ Err (length more + 1)
unfolding pool_at
no_count more = ap (λ (r : Result (ℕ × List ℕ) ℕ). r >>= λ count. cond (count.0 == 0) (Err (length count.1 + 1)) (slots_in false (count.0 - 1) count.1)) (number_again_at 0 more (lit< tt))

counted : (n : ℕ) (rest : List ℕ) → n < 2 ^ 16 → (n == 0) ≡ false → pool_at (number_bytes n ++ rest) ≡ slots_in false (n - 1) rest
unfolding pool_at
counted n rest small some =
    ap (λ (r : Result (ℕ × List ℕ) ℕ). r >>= λ count. cond (count.0 == 0) (Err (length count.1 + 1)) (slots_in false (count.0 - 1) count.1)) (number_again_at n rest small) ∙ rw some refl

pub pool_stops : (bytes : List ℕ) (left : ℕ) → IsBytes bytes → pool_at bytes ≡ Err left → Stops pool_at PoolSpelled bytes left
unfolding pool_at
pool_stops bytes left fits e = elim (bind_err (fixed 2 number bytes) (λ count. cond (count.0 == 0) (Err (length count.1 + 1)) (slots_in false (count.0 - 1) count.1)) left e) [
  | inl ended ↦
      let s = short 2 number bytes left ended in
      let m = count_short bytes fits s.1 in
      rw s.0 (record { within = omega arith; begins = (m.0, subst (λ (t : List ℕ). PoolSpelled (t ++ m.0)) (sym (all_left bytes)) m.1); none = λ some. absurd (omega arith) })
  | inr read ↦ let t = number_takes bytes read.0.0 read.0.1 fits read.1 in go (read.0.0 == 0) read.0.0 read.0.1 refl t.0.parts t.1 t.0.rest_fits read.2
]
  where
    go : (b : Bool) (n : ℕ) (rest : List ℕ) → (n == 0) ≡ b → bytes ≡ number_bytes n ++ rest → n < 2 ^ 16 → IsBytes rest → cond b (Err (length rest + 1)) (slots_in false (n - 1) rest) ≡ Err left → Stops pool_at PoolSpelled bytes left
    go true n rest zero_is is small fits e =
        let n-is : n ≡ 0 = eqb-true _ _ zero_is in
        let bytes-is : bytes ≡ 0 ∷ 0 ∷ rest = is ∙ ap (λ (k : ℕ). number_bytes k ++ rest) n-is in
        let left-is : left ≡ length rest + 1 = err_is left (length rest + 1) (sym e) in
        let one : length bytes - left ≡ 1 = omega (arith, ap length bytes-is) in
        let two : length bytes - left + 1 ≡ 2 = omega (arith, one) in
        record {
          within = omega (arith, ap length bytes-is);
          begins = (1 ∷ [], ([], (lit< tt, refl), ap (λ (k : ℕ). take k bytes ++ 1 ∷ []) one ∙ ap (λ (t : List ℕ). take 1 t ++ 1 ∷ []) bytes-is));
          none = λ some more x h.
              let same : take (length bytes - left + 1) bytes ++ more ≡ 0 ∷ 0 ∷ more = ap (λ (k : ℕ). take k bytes ++ more) two ∙ ap (λ (t : List ℕ). take 2 t ++ more) bytes-is in
              let never : ◌≡◌ {A = Result (List PoolEntry × List ℕ) ℕ} (Err (length more + 1)) (Ok x) = sym (no_count more) ∙ ap pool_at (sym same) ∙ h in absurd cc;
        }
    go false n rest zero_is is small fits e =
        let some_slots : n ≡ 0 → ⊥ = λ none. let never : false ≡ true = sym zero_is ∙ ap (λ (k : ℕ). k == 0) none in absurd cc in
        let s = slots_stops (n - 1) false rest left fits (λ _. refl) e in
        let count : length s.begins.1.0 + 1 ≡ n = omega (arith, s.begins.1.2, some_slots) in
        record {
          within = omega (arith, s.within, ap length is, length-append (number_bytes n) rest);
          begins = (
            s.begins.0,
            (
              s.begins.1.0,
              (omega (arith, count), s.begins.1.1),
              ap (λ (t : List ℕ). t ++ s.begins.0) (front_behind (number_bytes n) rest bytes left s.within is) ∙ append_assoc (number_bytes n) (take (length rest - left) rest) s.begins.0
                  ∙ ap (λ (t : List ℕ). number_bytes n ++ t) s.begins.1.3 ∙ ap (λ (k : ℕ). number_bytes k ++ flat_map entry_bytes s.begins.1.0) (sym count),
            ),
          );
          none = λ some more x h.
              let y : List ℕ = take (length rest - left + 1) rest ++ more in
              let same : take (length bytes - left + 1) bytes ++ more ≡ number_bytes n ++ y =
              ap (λ (t : List ℕ). t ++ more) (take_behind (number_bytes n) rest bytes left 1 s.within is) ∙ append_assoc (number_bytes n) (take (length rest - left + 1) rest) more in
              s.none some more x (sym (counted n y small zero_is) ∙ ap pool_at (sym same) ∙ h);
        }

-- the place is the first at which no pool goes on
pub layout_fault : (bytes : List ℕ) (left : ℕ) → IsBytes bytes → pool_at bytes ≡ Err left → IsLayoutFault bytes (length bytes - left)
layout_fault bytes left fits e =
    let s = pool_stops bytes left fits e in
    let at : ℕ = length bytes - left in
    record {
      within = omega arith;
      no_pool = λ starts. let never : ◌≡◌ {A = Result (List PoolEntry × List ℕ) ℕ} (Ok (starts.0, starts.1)) (Err left) = sym (pool_again starts.0 starts.1 starts.2) ∙ ap pool_at (sym starts.3) ∙ e in absurd cc;
      begins = λ k le. (
        drop k (take at bytes) ++ s.begins.0,
        (
          s.begins.1.0,
          [],
          s.begins.1.1,
          sym (append_assoc (take k bytes) (drop k (take at bytes)) s.begins.0) ∙ ap (λ (t : List ℕ). t ++ drop k (take at bytes) ++ s.begins.0) (sym (take-take k at bytes le))
              ∙ ap (λ (t : List ℕ). t ++ s.begins.0) (take-append-drop k (take at bytes)) ∙ s.begins.1.2 ∙ sym (append-nil (pool_bytes s.begins.1.0)),
        ),
      );
      none = λ lt more. s.none (omega arith) more.0 (more.1.0, more.1.1) (ap pool_at more.1.3 ∙ pool_again more.1.0 more.1.1 more.1.2);
    }
